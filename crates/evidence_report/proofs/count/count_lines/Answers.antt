use Rattle.std.proofs.Common.{◌≡◌, ℕ, suc, List, length, subst}
use Rattle.evidence_lookups.specs.code.Grounds.{known_of, lines_of}
use Rattle.evidence_report.specs.code.Counts.{count_of}
use Rattle.evidence_report.proofs.Counting.{counts-more, one-longer}
use Rattle.evidence_report.proofs.count.count_lines.Goals as goal

pub loop-before-preserved : goal.loop-before-preserved
loop-before-preserved c =
    let known = known_of c.args.context.now in
    let lines = lines_of c.args.context.now in
    let counts = c.loop-before.counts.items in
    record {
      size = one-longer counts c.push.new.self.items c.in_ok-count.count c.loop-before._before c.in_ok-push.ensures.items c.loop-before.invariant.size;
      are = counts-more known lines counts c.push.new.self.items c.in_ok-count.count c.in_ok-push.ensures.items c.loop-before.invariant.are
          (subst (λ (ns : List ℕ). c.in_ok-count.count ≡ count_of known lines (suc (length ns))) c.deref.ensures.value c.in_ok-count.ensures);
    }
