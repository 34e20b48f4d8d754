use Rattle.std.proofs.Common.{ap}
use Rattle.rule_meaning.specs.Fails as fails
use Rattle.report_text.specs.code.SeenEntries.{see_word}
use Rattle.evidence_rules.specs.code.Judgement.{location_said}
use Rattle.evidence_leads.specs.code.Leads.{ToEntry}
use Rattle.evidence_leads.specs.declared.lead.Lead.TheVariants as lead
use Rattle.evidence_leads.proofs.Appending.{one-appended}
use Rattle.evidence_leads.proofs.rows.push_value.Goals as goal

pub returns : goal.returns
returns c known is =
    one-appended known c.args.into.now.items c.push.new.self.items
    (lead.Entry (record { shown = c.shown.result; word = c.args.word; part = c.args.part }))
    (ToEntry (fails.entry c.args.part (see_word c.args.word) (location_said known c.args.lines.now c.args.value)))
    c.in_ok-push.ensures.items
    (ap (λ (shown : fails.Shown). ToEntry (record { shown = shown; word = see_word c.args.word; part = c.args.part })) (c.shown.ensures.seen known))
    (c.shown.ensures.showable known is)
