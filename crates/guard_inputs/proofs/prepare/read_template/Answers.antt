use Rattle.std.proofs.Common.{◌≤◌, ℕ, List, None, ap₂, length, string_bytes, subst, sym}
use Rattle.doc_values.specs.Limits.{rules_limit, template_limit}
use Rattle.rule_names.specs.code.Files.{file_of}
use Rattle.guard_ends.specs.Inputs.{IsTemplate, RefusesData}
use Rattle.guard_ends.specs.Order.{Inputs}
use Rattle.guard_ends.specs.declared.ends.Which.TheVariants as file
use Rattle.guard_inputs.specs.code.Inputs.{AreAlone}
use Rattle.guard_inputs.specs.code.Stops.{IsNotRead}
use Rattle.guard_inputs.proofs.Stopping.{at-exit}
use Rattle.guard_inputs.proofs.Plainness.{template-plain}
use Rattle.guard_inputs.proofs.prepare.read_template.Goals as goal

pub read_tree-requires : goal.read_tree-requires
read_tree-requires c = subst (λ (b : List ℕ). length b ≤ template_limit) (sym c.as_str-template.ensures.value) c.args.sources.now.beside.short

pub invariant_of-result : goal.invariant_of-result
invariant_of-result c = record {
  rules_short = subst (λ (b : List ℕ). length b ≤ rules_limit) (sym c.as_str.ensures.value) c.args.sources.now.rules.short;
  template_short = subst (λ (b : List ℕ). length b ≤ template_limit) (sym c.as_str-template.ensures.value) c.args.sources.now.beside.short;
  params_short = λ params is. cc;
  plain = template-plain c.args.sources.now.beside.format c.as_str-template.result.now c.in_ok-tree.tree c.in_ok-tree.ensures.read;
}

pub returns-in_err-tree-clause-read : goal.returns-in_err-tree-clause-read
returns-in_err-tree-clause-read c =
    let sources = c.args.sources.now in
    let s = c.in_err-tree.field-0.0 in
    at-exit (AreAlone sources) (IsNotRead (RefusesData file.Template sources.beside.format) (string_bytes sources.beside.text))
    c.from_residual.result s c.from_residual.ensures.1
    (subst (λ (b : List ℕ). IsNotRead (RefusesData file.Template sources.beside.format) b s) c.as_str-template.ensures.value c.in_err-tree.ensures.read)

pub returns-clause-read : goal.returns-clause-read
returns-clause-read c =
    let sources = c.args.sources.now in
    let tree = c.in_ok-tree.tree in
    record {
      same = ap₂ (λ (r t : List ℕ).
          let inputs : Inputs = record { rules = file_of sources.rules.file; tree = tree; texts = record { rules = r; template = t; params = None } } in inputs)
          c.as_str.ensures.value c.as_str-template.ensures.value;
      read = subst (λ (b : List ℕ). IsTemplate sources.beside.format b tree) c.as_str-template.ensures.value c.in_ok-tree.ensures.read;
    }
