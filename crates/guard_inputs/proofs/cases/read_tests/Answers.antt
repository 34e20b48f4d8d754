use Rattle.std.proofs.Common.{◌≤◌, List, ℕ, inl, inr, length, refl, string_bytes, subst, sym}
use Rattle.doc_values.specs.Limits.{template_limit}
use Rattle.rule_names.specs.code.Files.{file_of}
use Rattle.guard_ends.specs.Inputs.{IsTemplate, RefusesCases, RefusesData}
use Rattle.guard_ends.specs.Order.{Refusing}
use Rattle.guard_ends.specs.declared.ends.Which.TheVariants as file
use Rattle.guard_inputs.specs.code.Stops.{IsNotRead, IsStop, NoneRose}
use Rattle.guard_inputs.specs.code.Tests.{AreTests, RefusingTests}
use Rattle.guard_inputs.specs.declared.stop.Stop.{Stop}
use Rattle.guard_inputs.proofs.Stopping.{IsStop-more, as-rose, at-exit}
use Rattle.guard_inputs.proofs.Plainness.{template-plain}
use Rattle.guard_inputs.proofs.cases.read_tests.Goals as goal

pub read_tree-requires : goal.read_tree-requires
read_tree-requires c = subst (λ (b : List ℕ). length b ≤ template_limit) (sym c.as_str-text.ensures.value) c.args.sources.now.beside.short

pub cases_in-requires : goal.cases_in-requires
cases_in-requires c = subst (λ (b : List ℕ). length b ≤ template_limit) (sym c.as_str-text.ensures.value) c.args.sources.now.beside.short

pub invariant_of-result : goal.invariant_of-result
invariant_of-result c = record {
  within = c.in_ok-cases.ensures.1;
  plain = template-plain c.args.sources.now.beside.format c.as_str-text.result.now c.in_ok-tree.tree c.in_ok-tree.ensures.read;
}

pub returns-in_err-tree : goal.returns-in_err-tree
returns-in_err-tree c =
    let sources = c.args.sources.now in
    let format = sources.beside.format in
    let s : Stop = c.in_err-tree.field-0.0 in
    let stopped : IsNotRead (RefusesData file.Tests format) (string_bytes sources.beside.text) s =
    subst (λ (b : List ℕ). IsNotRead (RefusesData file.Tests format) b s) c.as_str-text.ensures.value c.in_err-tree.ensures.read in
    at-exit (AreTests sources) (IsStop (RefusingTests sources) NoneRose NoneRose)
    c.from_residual.result s c.from_residual.ensures.1
    (IsStop-more (Refusing (RefusesData file.Tests format) (string_bytes sources.beside.text)) (RefusingTests sources) NoneRose NoneRose NoneRose NoneRose
    (λ p refused. inl refused) (as-rose NoneRose) (as-rose NoneRose) s stopped)

pub returns-in_err-cases : goal.returns-in_err-cases
returns-in_err-cases c =
    let sources = c.args.sources.now in
    let bytes = string_bytes sources.beside.text in
    let rules = file_of sources.rules.file in
    let tree = c.in_ok-tree.tree in
    let s : Stop = c.in_err-cases.field-0.0 in
    let read : IsTemplate sources.beside.format bytes tree =
    subst (λ (b : List ℕ). IsTemplate sources.beside.format b tree) c.as_str-text.ensures.value c.in_ok-tree.ensures.read in
    let stopped : IsNotRead (λ b. RefusesCases rules tree) bytes s =
    subst (λ (t : List ℕ). IsNotRead (λ b. RefusesCases rules tree) t s) c.as_str-text.ensures.value c.in_err-cases.ensures in
    at-exit (AreTests sources) (IsStop (RefusingTests sources) NoneRose NoneRose)
    c.from_residual-in_err-cases.result s c.from_residual-in_err-cases.ensures.1
    (IsStop-more (Refusing (λ b. RefusesCases rules tree) bytes) (RefusingTests sources) NoneRose NoneRose NoneRose NoneRose
    (λ p refused. inr (tree, read, refused)) (as-rose NoneRose) (as-rose NoneRose) s stopped)

pub returns : goal.returns
returns c =
    let sources = c.args.sources.now in
    record {
      rules = refl;
      read = subst (λ (b : List ℕ). IsTemplate sources.beside.format b c.in_ok-tree.tree) c.as_str-text.ensures.value c.in_ok-tree.ensures.read;
      cases = c.in_ok-cases.ensures.0;
    }
