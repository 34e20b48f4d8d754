use Rattle.std.proofs.Common.{refl}
use Rattle.rule_meaning.specs.Fails as fails
use Rattle.report_text.specs.declared.entry.Shown.TheVariants as shown
use Rattle.report_text.specs.declared.entry.Word.TheVariants as word
use Rattle.evidence_leads.specs.code.Leads.{ToEntry}
use Rattle.evidence_leads.specs.declared.lead.Lead.TheVariants as lead
use Rattle.evidence_leads.proofs.Appending.{one-appended}
use Rattle.evidence_leads.proofs.rows.push_unmade.Goals as goal

pub returns : goal.returns
returns c known =
    one-appended known c.args.into.now.items c.push.new.self.items
    (lead.Entry (record { shown = shown.Unmade c.args.call; word = word.Missing; part = c.args.part }))
    (ToEntry (record { shown = fails.OfCall c.args.call; word = fails.IsMissing; part = c.args.part }))
    c.in_ok-push.ensures.items refl tt
