use Rattle.guard_inputs.proofs.ReadParams.{params-merged, params-refused}
use Rattle.guard_inputs.specs.code.Inputs.{inputs_of}
use Rattle.doc_values.specs.Limits.{template_limit}
use Rattle.std.proofs.Common.{◌≤◌, ℕ, List, length, subst, sym}
use Rattle.guard_inputs.proofs.Plainness.{template-plain}
use Rattle.guard_inputs.proofs.params.join_params.Goals as goal

pub merge_params-requires-clause-plain : goal.merge_params-requires-clause-plain
merge_params-requires-clause-plain c = template-plain c.args.params.now.format c.as_str-text.result.now c.in_ok-tree.tree c.in_ok-tree.ensures.read

pub returns-in_err-tree : goal.returns-in_err-tree
returns-in_err-tree c =
    params-refused c.args.params.now (inputs_of c.args.template) c.as_str-text.result.now c.as_str-text.ensures.value
    c.from_residual.result c.in_err-tree.field-0.0 c.from_residual.ensures.1 c.in_err-tree.ensures.read

pub returns : goal.returns
returns c =
    params-merged c.args.params.now (inputs_of c.args.template) c.as_str-text.result.now c.as_str-text.ensures.value
    c.in_ok-tree.tree c.in_ok-tree.ensures.read c.merge_params.result c.merge_params.ensures

pub merge_params-requires-clause-short : goal.merge_params-requires-clause-short
merge_params-requires-clause-short c = subst (λ (b : List ℕ). length b ≤ template_limit) (sym c.as_str-text.ensures.value) c.args.params.now.short

pub merge_params-requires-clause-second : goal.merge_params-requires-clause-second
merge_params-requires-clause-second c = c.in_ok-tree.ensures.small
