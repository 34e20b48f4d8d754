use Rattle.std.proofs.Common.{◌≡◌, ◌+◌, suc, Bool, true, false, length, map, ap, sym, ◌∙◌, arith, if◌then◌else◌}
use Rattle.evidence_lookups.specs.code.Grounds.{known_of, lines_of}
use Rattle.evidence_truth.specs.code.LineFails.{is_failing, line_fails}
use Rattle.evidence_report.specs.code.Counts.{counted}
use Rattle.evidence_leads.specs.code.Leads.{see_lead}
use Rattle.evidence_report.proofs.Counting.{next-counted}
use Rattle.evidence_report.proofs.count.count_next.Goals as goal

pub returns-then-not-is_failing : goal.returns-then-not-is_failing
returns-then-not-is_failing c =
    let known = known_of c.args.context.now in
    let lines = lines_of c.args.context.now in
    let n = length c.args.counts.now in
    let e : is_failing known lines (n + 1) ≡ false = grind (arith, c.is_failing.ensures known) in
    let s : suc n ≡ n + 1 = omega arith in
    sym (ap (λ (b : Bool). if b then counted (line_fails known lines (suc n) (suc n)) else 0) (ap (is_failing known lines) s ∙ e))

pub returns : goal.returns
returns c =
    let known = known_of c.args.context.now in
    let lines = lines_of c.args.context.now in
    let n = length c.args.counts.now in
    let e : is_failing known lines (n + 1) ≡ true = grind (arith, c.is_failing.ensures known) in
    let s : suc n ≡ n + 1 = omega arith in
    next-counted known lines c.requires.falls n c.deref.result.now (ap (map (see_lead known)) c.deref.ensures.value ∙ c.in_ok-leads.ensures.leads) c.count_leads.result
    (c.count_leads.ensures known lines c.requires.counts)
    ∙ sym (ap (λ (b : Bool). if b then counted (line_fails known lines (suc n) (suc n)) else 0) (ap (is_failing known lines) s ∙ e))
