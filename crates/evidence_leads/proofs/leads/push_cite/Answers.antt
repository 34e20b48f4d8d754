use Rattle.std.proofs.Common.{Bool, [], ◌∷◌, refl, ap, sym, ◌∙◌, if◌then◌else◌}
use Rattle.evidence_leads.specs.code.Leads.{ToLine, cite_leads}
use Rattle.evidence_leads.specs.declared.lead.Lead.TheVariants as lead
use Rattle.evidence_leads.proofs.Appending.{none-appended, one-appended, same-appended}
use Rattle.evidence_leads.proofs.leads.push_cite.Goals as goal

pub returns-in_ok-push : goal.returns-in_ok-push
returns-in_ok-push c known =
    same-appended known c.args.into.now.items c.push.new.self.items (ToLine c.args.cite ∷ []) (cite_leads known c.args.lines.now c.args.cite)
    (ap (λ (b : Bool). if b then ToLine c.args.cite ∷ [] else []) (sym c.if-is_failing.true ∙ c.is_failing.ensures known))
    (one-appended known c.args.into.now.items c.push.new.self.items (lead.Line c.args.cite) (ToLine c.args.cite) c.in_ok-push.ensures.items refl tt)

pub returns-else-is_failing : goal.returns-else-is_failing
returns-else-is_failing c known =
    same-appended known c.args.into.now.items c.args.into.now.items [] (cite_leads known c.args.lines.now c.args.cite)
    (ap (λ (b : Bool). if b then ToLine c.args.cite ∷ [] else []) (sym c.if-is_failing.false ∙ c.is_failing.ensures known))
    (none-appended known c.args.into.now.items)
