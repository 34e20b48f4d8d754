use Rattle.std.proofs.Common.{◌≡◌, ℕ, ap, refl, arith}
use Rattle.std.proofs.lemmas.Grind.{common_steps}
use Rattle.std.specs.Cow.{cow_str_bytes}
use Rattle.yaml_scalars.specs.Scalar.{is_typed}
use Rattle.yaml_grammar.proofs.Scalars.{scalar_kind, holds_none}
use Rattle.std.specs.Prelude.{Result, Err}
use Rattle.yaml_grammar.specs.declared.stage.Position.{Position}
use Rattle.yaml_grammar.specs.declared.stop.Stop.{Stop}
use Rattle.yaml_grammar.specs.declared.stop.Stop.TheVariants.{Unread}
use Rattle.yaml_nodes.proofs.node.take_cut.Goals as goal

pub kept_text-content-requires : goal.kept_text-content-requires
kept_text-content-requires c =
    let h = c.in-Ok.ensures.finds in
    (scalar_kind (is_typed c.args.mode.setting c.args.text.now c.args.next.at) (cow_str_bytes c.in-Ok.scalar.text) c.in-Ok.scalar.kind h.1).1

pub scalar-requires-clause-plain : goal.scalar-requires-clause-plain
scalar-requires-clause-plain c =
    let h = c.in-Ok.ensures.finds in
    (scalar_kind (is_typed c.args.mode.setting c.args.text.now c.args.next.at) (cow_str_bytes c.in-Ok.scalar.text) c.in-Ok.scalar.kind h.1).0

pub returns-in-Err-clause-holds : goal.returns-in-Err-clause-holds
returns-in-Err-clause-holds c = holds_none c.args.text.now c.args.mode.setting c.args.mode.cuts c.args.next c.args.builder.now c.args.builder.now c.in-Err.refusal c.in-Err.ensures.finds

pub returns-in-Err-scalar-clause-holds : goal.returns-in-Err-scalar-clause-holds
returns-in-Err-scalar-clause-holds c = grind (arith, common_steps)

pub returns-in-Ok-scalar-clause-holds : goal.returns-in-Ok-scalar-clause-holds
returns-in-Ok-scalar-clause-holds c = grind (arith, common_steps)

pub returns-in-Err-clause-place : goal.returns-in-Err-clause-place
returns-in-Err-clause-place c = λ q e. c.in-Err.ensures.place q (ap Err (same (Err c.in-Err.refusal) c.in-Err.refusal q refl e)) where
  same : (r : Result Position Stop) (d : Stop) (q : ℕ) → r ≡ Err d → r ≡ Err (Unread q) → d ≡ Unread q
  same r d q h k = cc
