use Rattle.std.proofs.Common.{inr, refl, length, [], ◌∷◌, ◌++◌, arith}
use Rattle.yaml_grammar.proofs.ReadTwice.{placed_again, says_some, short_again}
use Rattle.std.proofs.lemmas.Grind.{common_steps}
use Rattle.yaml_blocks.proofs.twice.read_again.Goals as goal

pub returns-in-None-clause-placed : goal.returns-in-None-clause-placed
returns-in-None-clause-placed c = short_again c.args.text.now c.offset.result c.offset.ensures c.in-None.ensures

pub returns-in_default : goal.returns-in_default
returns-in_default c = record {
  unread = inr (c.place_at_end.result, refl);
  placed = c.place_at_end.ensures.is c.args.text.now refl (placed_again c.args.text.now c.returned_place.result (length c.args.text.now) c.in-Some.stop refl c.requires.returned c.returned_place.ensures (says_some (c.args.text.now ++ (10 ∷ [])) c.in-Some.stop c.in_default.not-NoMemory c.in-Some.ensures));
}

pub returned_place-requires : goal.returned_place-requires
returned_place-requires c = grind (arith, common_steps)

pub place_at_end-requires : goal.place_at_end-requires
place_at_end-requires c = grind (arith, common_steps)
