use Rattle.std.proofs.Common.{◌≡◌, ◌≤◌, ℕ, List, length, subst, sym}
use Rattle.std.specs.List.{AllByRecursion}
use Rattle.doc_values.specs.Limits.{rules_limit}
use Rattle.doc_values.specs.Tree.{Forest}
use Rattle.guard_syntax.specs.Syntax.{File, Rule}
use Rattle.guard_syntax.specs.declared.row.Verdict.TheVariants.{Pass}
use Rattle.rule_meaning.specs.Locations.{World}
use Rattle.rule_meaning.specs.NameMeaning.{rule_verdict}
use Rattle.rule_names.specs.WellNamed.{WellNamed}
use Rattle.guard_ends.specs.Inputs.{IsSyntax}
use Rattle.guard_laws.proofs.FormedTrees.{template-formed}
use Rattle.guard_laws.proofs.RangedTrees.{template-ranged}
use Rattle.guard_laws.proofs.laws.generated_are_met.Goals as goal

-- what the law says of the text of a tree
abbrev IsMet : Forest → List ℕ → Type 0
IsMet tree text =
    (rules : File) × IsSyntax text rules × WellNamed rules
    × ((world : World) → world.template ≡ tree → world.file ≡ rules → AllByRecursion (λ (rule : Rule). rule_verdict world rule ≡ Pass) rules.rules)

pub returns : goal.returns
returns c = λ f bytes tree text template generated.
    let short = subst (λ (t : List ℕ). length t ≤ rules_limit) generated.same generated.within in
    let law = c.generated_text_is_rule_file.ensures tree (template-formed f bytes tree template) (template-ranged f bytes tree template) short in
    subst (IsMet tree) (sym generated.same) (law.1, (law.0, law.2, law.3), law.4, law.5)
