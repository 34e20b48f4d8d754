use Rattle.std.proofs.Common.{◌≡◌, ◌+◌, ◌*◌, true, false, refl, sym, ap, ◌∙◌, subst}
use Rattle.std.specs.Prelude.{option_map}
use Rattle.yaml_grammar.specs.declared.ahead.Ahead.{Ahead}
use Rattle.yaml_grammar.specs.code.Refused.{of_sign}
use Rattle.yaml_grammar.specs.code.Steps.{stack, IsSeen, SameKey}
use Rattle.yaml_grammar.specs.Signs.{Tree}
use Rattle.yaml_grammar.specs.Yaml.{end_sign}
use Rattle.yaml_grammar.specs.code.Rest.{Ends}
use Rattle.yaml_grammar.proofs.Continuations.{block_ends}
use Rattle.yaml_grammar.proofs.Lengthened.{going_on, dots_stops, dots_lengthens}
use Rattle.yaml_grammar.proofs.OtherStops.{signed_on, living_on}
use Rattle.yaml_grammar.proofs.Stopped.{signed_stops, living_stops}
use Rattle.yaml_grammar.proofs.BlockGains.{signed_gives, no_sign_inside, nothing_follows, all_quiet}
use Rattle.yaml_grammar.proofs.Gains.{seen_behind}
use Rattle.yaml_grammar.specs.code.Steps.{is_ending}
use Rattle.yaml_grammar.proofs.SameTexts.{sign_same, end_there, end_here}
use Rattle.yaml_grammar.proofs.Fixed.{whole_fixes}
use Rattle.yaml_grammar.specs.code.Twins.{Stops, NoLine, LengthensAt, FixesEnd}
use Rattle.yaml_grammar.specs.declared.stage.Stage.TheVariants as stage
use Rattle.yaml_grammar.specs.Ahead.{ahead}
use Rattle.yaml_grammar.proofs.Opens.{whole_opening}
use Rattle.yaml_grammar.proofs.Extended.{whole_leaves}
use Rattle.yaml_grammar.proofs.FedSites.{end_signed_again, living_again}
use Rattle.yaml_grammar.specs.Nodes.{starts_scalar}
use Rattle.yaml_grammar.specs.code.ReadAgain.{NoneBehind, OnSign}
use Rattle.yaml_blocks.proofs.block.after.Goals as goal

pub returns-in-Some : goal.returns-in-Some
returns-in-Some c = record {
  gives = λ text same seen cut calm key.
      let fs = stack c.args.forms.now.items in
      signed_gives text (2 * c.args.at + 2) fs fs c.args.builder.now c.args.builder.now c.args.at c.in-Some.refusal c.requires.block c.requires.open (c.in-Some.ensures ∙ sym (ap (option_map of_sign) (sign_same c.args.text.now text c.args.at same)));
  fixes = tt;
  opens = tt;
  stops = signed_stops c.args.text.now c.args.at (NoLine c.args.at (ahead c.args.text.now false c.args.at) (stack c.args.forms.now.items) c.args.builder.now) (end_sign c.args.text.now c.args.at) c.in-Some.refusal c.in-Some.ensures;
  longer = signed_on (LengthensAt c.args.text.now stage.After (stack c.args.forms.now.items) c.args.builder.now c.args.at) (end_sign c.args.text.now c.args.at) c.in-Some.refusal c.in-Some.ensures;
  leaves = tt;
  again = λ starts. end_signed_again (NoneBehind c.args.text.now (stack c.args.forms.now.items) c.args.builder.now c.args.at) c.args.text.now c.args.at c.in-Some.refusal starts c.in-Some.ensures;
}

pub returns-in_default : goal.returns-in_default
returns-in_default c = record {
  gives = λ text same seen cut calm key.
      let this = c.args.text.now in
      c.line.ensures.gives text (subst (λ (a : Ahead). IsSeen text false c.args.at a) (sym c.look-next.ensures.0) seen) (no_sign_inside text c.args.at (λ e. c.is_document_end.ensures.no c.if-is_document_end.false (end_here this text c.args.at same e)) (c.in-None.ensures ∙ sym (ap (option_map of_sign) (sign_same this text c.args.at same)))) calm (subst (λ (a : Ahead). SameKey this text a) (sym c.look-next.ensures.0) key);
  fixes = subst (λ (a : Ahead). FixesEnd c.args.text.now c.args.at a c.line.result) c.look-next.ensures.0 c.line.ensures.fixes;
  opens = c.line.ensures.opens;
  stops = subst (λ (a : Ahead). Stops c.args.text.now c.args.at (NoLine c.args.at a (stack c.args.forms.now.items) c.args.builder.now) c.line.result) c.look-next.ensures.0 c.line.ensures.stops;
  longer = c.line.ensures.longer;
  leaves = c.line.ensures.leaves;
  again = subst (λ (a : Ahead). starts_scalar a.token ≡ true → OnSign (NoneBehind c.args.text.now (stack c.args.forms.now.items) c.args.builder.now c.args.at) c.line.result) c.look-next.ensures.0 c.line.ensures.again;
}

pub returns-then-is_document_end : goal.returns-then-is_document_end
returns-then-is_document_end c = record {
  gives = λ text same seen cut calm key. c.end_all.ensures.gives text (end_there c.args.text.now text c.args.at same (c.if-is_document_end.ensures.yes refl)) cut;
  fixes = whole_fixes c.args.text.now c.args.at (ahead c.args.text.now false c.args.at) c.end_all.result c.end_all.ensures.whole;
  opens = whole_opening (stack c.end_all.new.forms.items) c.end_all.result c.end_all.ensures.whole;
  stops =
      let this = c.args.text.now in
      let at = c.args.at in
      let fs = stack c.args.forms.now.items in
      let u = c.args.builder.now in
      let end = c.if-is_document_end.ensures.yes refl in
      let t = block_ends fs u.outer u.done this at end c.requires.block c.requires.open.0 c.requires.open.1 in
      living_stops this at (NoLine at (ahead this false at) fs u) (Ends this fs u.outer u.done at) (2 * at + 2) (stack c.end_all.new.forms.items) c.end_all.new.builder c.end_all.result (Tree t.0) t.1 (c.end_all.ensures.gives this end c.requires.boundary);
  longer =
      let this = c.args.text.now in
      let at = c.args.at in
      let fs = stack c.args.forms.now.items in
      let u = c.args.builder.now in
      let end = c.if-is_document_end.ensures.yes refl in
      let t = block_ends fs u.outer u.done this at end c.requires.block c.requires.open.0 c.requires.open.1 in
      living_on (LengthensAt this stage.After fs u at) this (Ends this fs u.outer u.done at) (2 * at + 2) (stack c.end_all.new.forms.items) c.end_all.new.builder c.end_all.result (Tree t.0) t.1 (c.end_all.ensures.gives this end c.requires.boundary);
  leaves = whole_leaves c.end_all.result c.end_all.ensures.whole;
  again = λ starts.
      let this = c.args.text.now in
      let at = c.args.at in
      let fs = stack c.args.forms.now.items in
      let u = c.args.builder.now in
      let end = c.if-is_document_end.ensures.yes refl in
      let t = block_ends fs u.outer u.done this at end c.requires.block c.requires.open.0 c.requires.open.1 in
      living_again (NoneBehind this fs u at) this (Ends this fs u.outer u.done at) (2 * at + 2) (stack c.end_all.new.forms.items) c.end_all.new.builder c.end_all.result t.0 t.1 (c.end_all.ensures.gives this end c.requires.boundary);
}

pub returns-in-Dots : goal.returns-in-Dots
returns-in-Dots c = record {
  gives = λ text same seen cut calm key.
      let this = c.args.text.now in
      let fs = stack c.args.forms.now.items in
      let next = c.look-next.result in
      nothing_follows text fs c.args.builder.now c.args.at next (c.look-next.ensures.0 ∙ seen.0) (no_sign_inside text c.args.at (λ e. c.is_document_end.ensures.no c.if-is_document_end.false (end_here this text c.args.at same e)) (c.in-None.ensures ∙ sym (ap (option_map of_sign) (sign_same this text c.args.at same)))) (all_quiet text next fs c.requires.open.1 c.requires.block (ap is_ending c.in-Dots.is));
  fixes = tt;
  opens = tt;
  stops =
      let this = c.args.text.now in
      let next = c.look-next.result in
      dots_stops this c.utf8.text (stack c.args.forms.now.items) c.args.builder.now c.args.at next c.look.result c.last_told.result c.look-next.ensures.0 c.requires.boundary c.look.ensures.0 (seen_behind this false c.args.at next c.look-next.ensures) c.in-Dots.is (no_sign_inside this c.args.at (c.is_document_end.ensures.no c.if-is_document_end.false) c.in-None.ensures) c.last_told.ensures c.requires.block c.requires.open;
  longer =
      let this = c.args.text.now in
      let next = c.look-next.result in
      dots_lengthens this c.utf8.text (stack c.args.forms.now.items) c.args.builder.now c.args.at next c.look.result c.last_told.result c.look-next.ensures.0 c.requires.boundary c.look.ensures.0 (seen_behind this false c.args.at next c.look-next.ensures) c.in-Dots.is (no_sign_inside this c.args.at (c.is_document_end.ensures.no c.if-is_document_end.false) c.in-None.ensures) c.last_told.ensures;
  leaves = tt;
  again = λ starts. tt;
}

pub line-requires-clause-told : goal.line-requires-clause-told
line-requires-clause-told c = going_on c.args.text.now c.args.at c.look-next.result c.look-next.ensures.0 (no_sign_inside c.args.text.now c.args.at (c.is_document_end.ensures.no c.if-is_document_end.false) c.in-None.ensures) c.in_default.not-Dots

pub line-requires-clause-boundary : goal.line-requires-clause-boundary
line-requires-clause-boundary c = c.requires.boundary
