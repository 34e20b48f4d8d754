use Rattle.std.proofs.lemmas.Grind.{common_steps}
use Rattle.std.proofs.Common.{◌≡◌, ◌∙◌, ap, refl, subst, sym, ℕ, Bool, List, [], length, get_or, arith, Vec, Global}
use Rattle.std.proofs.lemmas.Result.{IfOk-weaker}
use Rattle.std.proofs.lemmas.List.{nil_from_length}
use Rattle.std.specs.List.{Contains}
use Rattle.reference_graph.specs.declared.ordering.Stop.{Stop}
use Rattle.reference_graph.proofs.Marking.{not-in-none}
use Rattle.reference_graph.proofs.WalkSteps.{begins-here, down, less-at-once, less-on-path, walk-down, walk-finished}
use Rattle.reference_graph.proofs.ordering.begin.Goals as goal

pub returns-then-is_empty : goal.returns-then-is_empty
returns-then-is_empty c =
    let g = c.args.graph.now in
    let walk = c.args.walk.now in
    let node = c.args.node in
    let so = c.requires.walked in
    let none : length c.targets.result.now ≡ 0 = grind (arith, common_steps) in
    let nothing : get_or g node [] ≡ [] = sym c.targets.ensures.targets ∙ nil_from_length c.targets.result.now none in
    IfOk-weaker c.finish.result _ _ (λ _ fin.
    let is-begun = ap (λ (marks : Vec Bool Global). marks.items) fin.begun in
    let is-path = ap (λ (path : Vec Stop Global). path.items) fin.path in (
      walk-finished g node fin so.settled (down g walk node so c.requires.node c.requires.new c.requires.leads) so.passed (λ b n. absurd (not-in-none b (subst (λ (row : List ℕ). Contains row b) nothing n))),
      begins-here g walk node so c.requires.node c.requires.new c.finish.new.walk is-begun,
      less-at-once g walk node so c.requires.node c.requires.new c.finish.new.walk is-begun is-path,
    )) c.finish.ensures

pub returns : goal.returns
returns c =
    let g = c.args.graph.now in
    let walk = c.args.walk.now in
    let node = c.args.node in
    let so = c.requires.walked in (
      walk-down g walk node so c.requires.node c.requires.new _ c.requires.leads refl refl refl c.in_ok-push.ensures.items,
      begins-here g walk node so c.requires.node c.requires.new _ refl,
      less-on-path g walk node so c.requires.node c.requires.new _ _ c.in_ok-push.ensures.items,
    )
