use Rattle.std.proofs.Common.{◌≡◌, length, inl, inr, refl, arith, sym, subst, ◌∙◌}
use Rattle.std.specs.Prelude.{Err}
use Rattle.yaml_grammar.specs.declared.stop.Stop.{Stop}
use Rattle.yaml_grammar.specs.code.Steps.{Finds}
use Rattle.yaml_grammar.specs.declared.stop.Stop.TheVariants.{Unread}
use Rattle.yaml_grammar.proofs.Stopped.{error_same, unread_same}
use Rattle.yaml_grammar.proofs.Scalars.{failed_end, finds_scalar, finds_none, refused_at}
use Rattle.yaml_nodes.proofs.node.find_scalar.Goals as goal

pub returns-in-Ok-clause-finds : goal.returns-in-Ok-clause-finds
returns-in-Ok-clause-finds c = finds_scalar c.args.text.now c.args.setting c.args.next c.in-Ok.scalar c.requires.starts c.in-Ok.ensures.answer c.in-Ok.ensures.end

pub returns-in-Err-clause-finds : goal.returns-in-Err-clause-finds
returns-in-Err-clause-finds c =
    subst (λ (e : Stop). Finds c.args.text.now c.args.setting c.args.next (Err e)) (sym c.of_scalar.ensures)
    (finds_none c.args.text.now c.args.setting c.args.next c.in-Err.refusal c.refused_place.result c.requires.starts c.in-Err.ensures.answer)

pub returns-then-next-text-clause-finds : goal.returns-then-next-text-clause-finds
returns-then-next-text-clause-finds c =
    let e : c.args.next.at ≡ length c.args.text.now = omega (arith, c.if-next-text.true) in
    inr (inl ((c.offset.result, refl), failed_end c.args.text.now c.args.setting c.args.next e))

pub returns-then-next-text-clause-place : goal.returns-then-next-text-clause-place
returns-then-next-text-clause-place c = λ q e. inl (sym (unread_same c.offset.result q (error_same (Err (Unread c.offset.result)) (Unread c.offset.result) (Unread q) refl e)) ∙ c.offset.ensures, omega (arith, c.if-next-text.true))

pub returns-in-Err-clause-place : goal.returns-in-Err-clause-place
returns-in-Err-clause-place c = λ q e.
    refused_at c.args.text.now c.args.setting c.args.next c.refused_place.result q c.in-Err.refusal c.requires.starts (omega (arith, c.requires.boundary.0, c.if-next-text.false)) c.in-Err.ensures.answer c.refused_place.ensures
    (sym c.of_scalar.ensures ∙ error_same (Err c.of_scalar.result) c.of_scalar.result (Unread q) refl e)
