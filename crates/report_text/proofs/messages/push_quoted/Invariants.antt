use Rattle.std.proofs.Common.{◌≡◌, ◌++◌, take}
use Rattle.std.specs.List.{flat_map}
use Rattle.report_text.specs.Messages.{quoted_byte}
use Rattle.report_text.proofs.messages.push_quoted.Given as goal

abbrev pub invariant-loop-byte : goal.invariant-loop-byte
invariant-loop-byte l = l.line.items ≡ l.initial.line.items ++ flat_map quoted_byte (take l.byte-index l.byte-items)
