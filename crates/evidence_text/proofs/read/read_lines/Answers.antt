use Rattle.std.proofs.lemmas.Grind.{common_steps}
use Rattle.std.proofs.Common.{◌+◌, ◌++◌, ap, arith, sym, ◌∙◌}
use Rattle.std.proofs.lemmas.Bool.{MatchBool-at_false, MatchBool-at_true}
use Rattle.std.proofs.lemmas.List.{length_push}
use Rattle.std.proofs.lemmas.Result.{MatchResult-from_err}
use Rattle.evidence_lines.specs.Headers.{header}
use Rattle.evidence_text.proofs.Scans.{has_newline}
use Rattle.evidence_text.proofs.Texts.{fails_here, goes_on, has_line, lacks_line, lacks_newline, some_bytes}
use Rattle.evidence_text.proofs.read.read_lines.Goals as goal

pub returns-in_default-clause-refusal : goal.returns-in_default-clause-refusal
returns-in_default-clause-refusal c =
    fails_here (header c.args.version ++ c.args.bytes.now) c.args.version c.lines.evidence.lines c.lines.rest.now (c.lines.number + 1) c.lines.invariant.read (ap (λ n. n + 1) c.lines.invariant.counted)
    (some_bytes c.lines.rest.now c.is_empty.result c.is_empty.ensures c.lines-test.true) (lacks_newline c.lines.rest.now (sym c.in_default.ensures.parts))

pub returns-then-not-added-clause-refusal : goal.returns-then-not-added-clause-refusal
returns-then-not-added-clause-refusal c =
    fails_here (header c.args.version ++ c.args.bytes.now) c.args.version c.lines.evidence.lines c.lines.rest.now (c.lines.number + 1) c.lines.invariant.read (ap (λ n. n + 1) c.lines.invariant.counted)
    (some_bytes c.lines.rest.now c.is_empty.result c.is_empty.ensures c.lines-test.true)
    (lacks_line c.lines.rest.now c.in-Some.line.now c.in-Some.after.now (sym c.in-Some.ensures.parts)
    (MatchBool-at_false _ _ c.if-not-added.true c.in_ok-added.ensures.added))

pub lines-preserved : goal.lines-preserved
lines-preserved c =
    let it = MatchBool-at_true _ _ c.if-not-added.false c.in_ok-added.ensures.added in
    let more =
    goes_on (header c.args.version ++ c.args.bytes.now) c.args.version c.lines.rest.now c.in-Some.line.now c.in-Some.after.now c.lines.evidence.lines it.0 c.lines.invariant.read
    (sym c.in-Some.ensures.parts) it.1 in
    record {
      read = rw it.2 more;
      version = c.add_line.ensures.version ∙ c.lines.invariant.version;
      counted = rw it.2 (ap (λ n. n + 1) c.lines.invariant.counted ∙ sym (length_push c.lines.evidence.lines it.0));
      within = omega (arith, c.in-Some.ensures.shorter);
    }

pub lines-init : goal.lines-init
lines-init c = grind (arith, common_steps)

pub lines-smaller : goal.lines-smaller
lines-smaller c = grind (arith, common_steps)

pub returns-clause-lines : goal.returns-clause-lines
returns-clause-lines c = grind (arith, common_steps)

pub returns-in_err-added-clause-memory : goal.returns-in_err-added-clause-memory
returns-in_err-added-clause-memory c =
    let has = has_line (header c.args.version ++ c.args.bytes.now) c.args.version c.lines.rest.now c.in-Some.line.now c.in-Some.after.now c.lines.evidence.lines c.lines.invariant.read (sym c.in-Some.ensures.parts) in
    MatchResult-from_err c.from_residual-in_err-added.result _ _ c.from_residual-in_err-added.ensures.0 (λ _ _. has)

pub returns-in_err-evidence-clause-memory : goal.returns-in_err-evidence-clause-memory
returns-in_err-evidence-clause-memory c =
    let has = has_newline c.args.bytes.now c.args.version c.in_err-evidence.ensures.memory in
    MatchResult-from_err c.from_residual.result _ _ c.from_residual.ensures.0 (λ _ _. has)
