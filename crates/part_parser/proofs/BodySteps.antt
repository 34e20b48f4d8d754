-- One turn of the code that reads the lets and the parts of a body is one turn of the reading.
use Rattle.std.proofs.Common.{◌≡◌, ◌≢◌, ℕ, suc, ◌+◌, ◌-◌, ◌<◌, ◌≤◌, ◌==◌, Bool, true, false, arith, cond, List, [], ◌∷◌, ◌++◌, map, length, refl, ap, sym, ◌∙◌}
use Rattle.std.proofs.lemmas.Bool.Decides.{nat_tests}
use Rattle.std.specs.Global.{Vec}
use Rattle.std.specs.Vec.{vec_len}
use Rattle.guard_syntax.specs.Syntax as sx
use Rattle.guard_syntax.specs.code.Seen.{prepend, disj_list, let_list, see_disj, see_let}
use Rattle.guard_syntax.specs.declared.syntax.Disj.{Disj}
use Rattle.guard_syntax.specs.declared.syntax.Let.{Let}
use Rattle.literal_parser.specs.Forms.{is_rbrace}
use Rattle.literal_parser.specs.States.{State}
use Rattle.literal_parser.specs.code.Parser.{One, Outcome, Read, Fail, Parser, and_then, ◌>>◌, pure, stop, takes}
use Rattle.literal_parser.specs.code.Reads.{source}
use Rattle.literal_parser.specs.declared.token_cursor.Tokens.{Tokens}
use Rattle.part_parser.specs.code.Reading.{BodyItems, is_filled, body_end}
use Rattle.part_parser.specs.code.GrammarReads.{gathered, inner, closed_body_at}
use Rattle.part_parser.proofs.CodeSteps.{prepend-push, one_more, no_more, no_turns}

-- a let, or a part, behind those before
let_turn : {A : Type 0} (next : BodyItems → Parser A) (ls : List sx.Let) (ds : List sx.Disj) (x : sx.Let) (o : Outcome BodyItems) →
    gathered next ls ds (and_then o (λ p. pure (sx.more_lets x p.0, p.1))) ≡ gathered next (ls ++ x ∷ []) ds o
let_turn next ls ds x (Read p st seen) = ap (λ z. next (z, prepend sx.more_disjs ds p.1) st seen) (sym (prepend-push sx.more_lets ls x p.0))
let_turn next ls ds x (Fail k) = refl

part_turn : {A : Type 0} (next : BodyItems → Parser A) (ls : List sx.Let) (ds : List sx.Disj) (x : sx.Disj) (o : Outcome BodyItems) →
    gathered next ls ds (and_then o (λ p. pure (p.0, sx.more_disjs x p.1))) ≡ gathered next ls (ds ++ x ∷ []) o
part_turn next ls ds x (Read p st seen) = ap (λ z. next (prepend sx.more_lets ls p.0, z) st seen) (sym (prepend-push sx.more_disjs ds x p.1))
part_turn next ls ds x (Fail k) = refl

pub items_begun : {A : Type 0} (next : BodyItems → Parser A) (ls : List sx.Let) (ds : List sx.Disj) (list : ℕ → Parser BodyItems) (turns : ℕ) (total : Outcome A) (st : State) (seen : ℕ)
    → total ≡ and_then (list turns st seen) next → ls ≡ [] → ds ≡ [] → total ≡ gathered next ls ds (list (turns - 0) st seen)
items_begun next ls ds list turns total st seen e no_lets no_parts = e ∙ ap (λ xs. gathered next xs [] (list turns st seen)) (sym no_lets) ∙ ap (λ xs. gathered next ls xs (list turns st seen)) (sym no_parts)
    ∙ ap (λ (k : ℕ). gathered next ls ds (list k st seen)) (no_turns turns)

module _ {A : Type 0} (next : BodyItems → Parser A) (ls : List sx.Let) (ds : List sx.Disj) (list : ℕ → Parser BodyItems) (turns turn : ℕ) (total : Outcome A) (st : State) (seen : ℕ)
    (so_far : total ≡ gathered next ls ds (list (turns - turn) st seen)) where
  -- this turn's part of the list
  abbrev here : Outcome BodyItems
  here = list (suc (turns - (turn + 1))) st seen

  left : turn < turns → total ≡ gathered next ls ds here
  left below = so_far ∙ ap (λ (k : ℕ). gathered next ls ds (list k st seen)) (one_more turns turn below)

  pub lets_more : (x : sx.Let) (xs : List sx.Let) (st1 : State) (seen1 : ℕ) → turn < turns → here ≡ and_then (list (turns - (turn + 1)) st1 seen1) (λ p. pure (sx.more_lets x p.0, p.1)) → xs ≡ ls ++ x ∷ []
      → total ≡ gathered next xs ds (list (turns - (turn + 1)) st1 seen1)
  lets_more x xs st1 seen1 below e is = left below ∙ ap (gathered next ls ds) e ∙ let_turn next ls ds x (list (turns - (turn + 1)) st1 seen1)
      ∙ ap (λ ys. gathered next ys ds (list (turns - (turn + 1)) st1 seen1)) (sym is)

  pub parts_more : (x : sx.Disj) (xs : List sx.Disj) (st1 : State) (seen1 : ℕ) → turn < turns → here ≡ and_then (list (turns - (turn + 1)) st1 seen1) (λ p. pure (p.0, sx.more_disjs x p.1)) → xs ≡ ds ++ x ∷ []
      → total ≡ gathered next ls xs (list (turns - (turn + 1)) st1 seen1)
  parts_more x xs st1 seen1 below e is = left below ∙ ap (gathered next ls ds) e ∙ part_turn next ls ds x (list (turns - (turn + 1)) st1 seen1)
      ∙ ap (λ ys. gathered next ls ys (list (turns - (turn + 1)) st1 seen1)) (sym is)

  pub items_ended : (st1 : State) (seen1 : ℕ) → turn < turns → here ≡ Read (sx.no_lets, sx.no_disjs) st1 seen1 → total ≡ next (let_list ls, disj_list ds) st1 seen1
  items_ended st1 seen1 below e = left below ∙ ap (gathered next ls ds) e

  pub items_failed : (k : ℕ) → turn < turns → here ≡ Fail k → total ≡ Fail k
  items_failed k below e = left below ∙ ap (gathered next ls ds) e

  pub items_spent : turns ≤ turn → list 0 st seen ≡ Fail seen → total ≡ Fail seen
  items_spent done e = so_far ∙ ap (λ (k : ℕ). gathered next ls ds (list k st seen)) (no_more turns turn done) ∙ ap (gathered next ls ds) e

-- emptiness as the code tests it
pub none_there : {X : Type 0} (v : Vec X) {b : Bool} → b ≡ (vec_len v == 0) → b ≡ true → length v.items ≡ 0
none_there v is holds = let test : (vec_len v == 0) ≡ true = sym is ∙ holds in let counted = v.ok in grind (arith, nat_tests, test, counted)

pub some_there : {X : Type 0} (v : Vec X) {b : Bool} → b ≡ (vec_len v == 0) → b ≡ false → length v.items ≢ 0
some_there v is fails = λ none. let test : (vec_len v == 0) ≡ false = sym is ∙ fails in let counted = v.ok in grind (arith, nat_tests, test, counted, none)

-- a body ends where it has a part
pub none_filled : (tokens : Tokens) (depth : ℕ) (ls : List Let) (ds : List Disj) (st : State) (seen : ℕ) → length ds ≡ 0
    → closed_body_at tokens depth (let_list (map see_let ls), disj_list (map see_disj ds)) st seen ≡ Fail seen
none_filled tokens depth ls [] st seen e = refl
none_filled tokens depth ls (d ∷ ds) st seen e = absurd cc

pub some_filled : (tokens : Tokens) (depth : ℕ) (ls : List Let) (ds : List Disj) (st : State) (seen : ℕ) → length ds ≢ 0
    → closed_body_at tokens depth (let_list (map see_let ls), disj_list (map see_disj ds)) st seen
    ≡ and_then (takes (source tokens) is_rbrace st seen) (λ _. pure (let_list (map see_let ls), disj_list (map see_disj ds)))
some_filled tokens depth ls [] st seen some = absurd (some refl)
some_filled tokens depth ls (d ∷ ds) st seen some = refl

-- what stands behind the items of a body, with the body made of them
pub closes : (tokens : Tokens) (depth site : ℕ) (o : Outcome BodyItems)
    → and_then o (λ p. cond (is_filled p.1) (body_end (source tokens) tokens.turns (inner tokens depth) site p) stop) ≡ and_then (and_then o (closed_body_at tokens depth)) (λ p. pure (sx.body site p.0 p.1))
unfolding body_end
closes tokens depth site (Fail k) = refl
closes tokens depth site (Read p st seen) = by_filled (is_filled p.1) where
  ended : (o : Outcome One) → and_then o (λ _. pure (sx.body site p.0 p.1)) ≡ and_then (and_then o (λ _. pure p)) (λ q. pure (sx.body site q.0 q.1))
  ended (Read tt st1 seen1) = refl
  ended (Fail k) = refl

  by_filled : (b : Bool) → (cond b (body_end (source tokens) tokens.turns (inner tokens depth) site p) stop) st seen ≡ and_then ((cond b (takes (source tokens) is_rbrace >> pure p) stop) st seen) (λ q. pure (sx.body site q.0 q.1))
  by_filled true = ended (takes (source tokens) is_rbrace st seen)
  by_filled false = refl
