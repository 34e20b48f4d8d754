use Rattle.std.proofs.Common.{ap, List, length, ℕ, subst, sym, ◌∙◌}
use Rattle.evidence_lookups.specs.code.Grounds.{known_of, lines_of}
use Rattle.evidence_report.specs.code.Counts.{AreCounts}
use Rattle.evidence_report.proofs.report.count_entries.Goals as goal

pub returns : goal.returns
returns c =
    let known = known_of c.args.context.now in
    let lines = lines_of c.args.context.now in
    c.sum_of.ensures known lines (subst (AreCounts known lines) (sym c.deref.ensures.value) c.in_ok-counts.ensures.counts)
    (ap (λ (ns : List ℕ). length ns) c.deref.ensures.value ∙ c.in_ok-counts.ensures.all) c.requires.said
