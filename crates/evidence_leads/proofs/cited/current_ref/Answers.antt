use Rattle.std.proofs.Common.{ap, sym, subst, ◌∙◌, ◌≡◌, true}
use Rattle.guard_syntax.specs.declared.row.Ref.{Ref}
use Rattle.rule_meaning.specs.StoreModel.{is_known_ref}
use Rattle.evidence_leads.specs.code.Leads.{current_ref}
use Rattle.evidence_leads.proofs.KnownRows.{current-known, root-known}
use Rattle.evidence_leads.proofs.cited.current_ref.Goals as goal

pub returns-in-Some-clause-value : goal.returns-in-Some-clause-value
returns-in-Some-clause-value c known = c.value_or_root.ensures known ∙ ap (current_ref known c.args.lines.now) (sym c.in-Some.is)

pub returns-in-Some-clause-known : goal.returns-in-Some-clause-known
returns-in-Some-clause-known c known grounded =
    subst (λ (v : Ref). is_known_ref known v ≡ true) (sym (c.value_or_root.ensures known))
    (current-known known c.args.lines.now grounded.sound grounded.tree c.in-Some.frame)

pub returns-in-None-clause-known : goal.returns-in-None-clause-known
returns-in-None-clause-known c known grounded =
    subst (λ (v : Ref). is_known_ref known v ≡ true) (sym c.root.ensures) (root-known known grounded.tree)
