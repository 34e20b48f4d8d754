use Rattle.std.proofs.Common.{◌≡◌, ◌<◌, ◌≤◌, ℕ, List, length, ap, subst, ◌∙◌}
use Rattle.std.proofs.lemmas.Result.{IfOk-weaker}
use Rattle.doc_values.specs.Limits.{rules_limit}
use Rattle.doc_values.specs.declared.cursor.Cursor.{Cursor}
use Rattle.rule_generator.specs.GeneratedRules.{elements, generated}
use Rattle.rule_generator.specs.code.Groups.{grouped, grouped_text}
use Rattle.rule_generator.specs.code.Seen.{values_seen}
use Rattle.rule_generator.specs.code.SeenGroups.{see_groups}
use Rattle.rule_generator.specs.declared.group.Groups.{Groups}
use Rattle.rule_generator.proofs.Grouping.{grouped-text}
use Rattle.rule_generator.proofs.generator.generate.Goals as goal
use Rattle.doc_values.specs.Tree.{Forest}

-- the text of the groups is the text of the tree
whole : (tree : Forest) (groups : Groups) (nodes all : List Cursor) → see_groups groups ≡ grouped (values_seen nodes) → nodes ≡ all → values_seen all ≡ elements tree → grouped_text (see_groups groups) ≡ generated tree
whole tree groups nodes all e f h =
    ap grouped_text (e ∙ ap (λ (ns : List Cursor). grouped (values_seen ns)) f ∙ ap grouped h) ∙ grouped-text (elements tree)

pub returns-clause-text : goal.returns-clause-text
returns-clause-text c =
    IfOk-weaker c.rules_of.result _ _
    (λ text e. e ∙ whole c.args.doc.now c.in_ok-groups.groups c.deref.result.now c.in_ok-all.all.items c.in_ok-groups.ensures.groups c.deref.ensures.value c.in_ok-all.ensures)
    c.rules_of.ensures.text

pub returns-clause-within : goal.returns-clause-within
returns-clause-within c =
    IfOk-weaker c.rules_of.result _ _
    (λ text e. subst (λ (t : List ℕ). length t ≤ rules_limit)
    (whole c.args.doc.now c.in_ok-groups.groups c.deref.result.now c.in_ok-all.all.items c.in_ok-groups.ensures.groups c.deref.ensures.value c.in_ok-all.ensures) e)
    c.rules_of.ensures.within

pub returns-clause-too_long : goal.returns-clause-too_long
returns-clause-too_long c = λ e.
    subst (λ (t : List ℕ). rules_limit < length t)
    (whole c.args.doc.now c.in_ok-groups.groups c.deref.result.now c.in_ok-all.all.items c.in_ok-groups.ensures.groups c.deref.ensures.value c.in_ok-all.ensures)
    (c.rules_of.ensures.too_long e)
