use Rattle.guard_inputs.specs.code.Joined.{with_data}
use Rattle.guard_inputs.specs.code.Inputs.{inputs_of}
use Rattle.guard_ends.specs.Order.{Inputs}
use Rattle.std.proofs.Common.{◌≡◌, ◌≤◌, false, length, subst, sym, ℕ, Some, ap₂}
use Rattle.std.proofs.lemmas.Option.{same_Some}
use Rattle.doc_values.specs.Limits.{template_limit}
use Rattle.doc_values.specs.Tree.{Forest}
use Rattle.report_text.specs.declared.texts.Params.{Params}
use Rattle.rule_meaning.specs.Values.{has_pattern}
use Rattle.guard_inputs.proofs.Plainness.{merged-plain}
use Rattle.guard_inputs.proofs.params.merge_params.Goals as goal

pub invariant_of-result : goal.invariant_of-result
invariant_of-result c =
    let template = c.args.template in
    let read : Params = record { text = c.args.text; first = c.len-nodes.result } in
    record {
      rules_short = template.rules_short;
      template_short = template.template_short;
      params_short = λ params is. subst (λ (p : Params). length p.text.now ≤ template_limit) (same_Some read params is) c.requires.short;
      plain = subst (λ (t : Forest). has_pattern t ≡ false) (sym c.in-Ok.ensures.1) (merged-plain template.tree c.args.tree template.plain c.requires.plain);
    }

pub returns-in-Err : goal.returns-in-Err
returns-in-Err c = c.not_merged.ensures c.args.template.tree c.args.tree c.in-Err.ensures

pub returns-in-Ok : goal.returns-in-Ok
returns-in-Ok c =
    let inputs : Inputs = inputs_of c.args.template in (
      c.in-Ok.ensures.0,
      ap₂ (λ (n : ℕ) (t : Forest). with_data inputs (Some (record { text = c.args.text.now; first = n })) t) c.len-nodes.ensures.nodes c.in-Ok.ensures.1,
    )
