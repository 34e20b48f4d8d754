use Rattle.std.proofs.Common.{◌≡◌, ◌+◌, ◌≤◌, ◌++◌, length}
use Rattle.evidence_lines.specs.Headers.{header}
use Rattle.evidence_text.proofs.Texts.{HasRead}
use Rattle.evidence_text.proofs.read.read_lines.Given as goal

abbrev pub invariant-lines : goal.invariant-lines
invariant-lines l = record {
  read : HasRead (header l.fn.version ++ l.bytes) l.fn.version l.evidence.lines l.rest;
  version : l.evidence.version ≡ l.fn.version;
  counted : l.number ≡ length l.evidence.lines;
  within : l.number + length l.rest ≤ length l.bytes;
}

abbrev pub decreases-lines : goal.decreases-lines
decreases-lines l = length l.rest
