use Rattle.std.proofs.Common.{◌++◌, ℕ, List, codes, ap, ◌∙◌}
use Rattle.std.specs.List.{flat_map}
use Rattle.report_text.specs.Messages.{quoted_byte, trimmed}
use Rattle.report_text.proofs.Appended.{and-then}
use Rattle.report_text.proofs.LoopBytes.{bytes-more, bytes-all}
use Rattle.report_text.proofs.messages.push_quoted.Goals as goal

pub loop-byte-preserved : goal.loop-byte-preserved
loop-byte-preserved c = bytes-more quoted_byte c.trimmed-byte-items.result.now c.loop-byte.byte-index _ _ _ _ c.loop-byte-test.true c.loop-byte.invariant c.in_ok-push_quoted_byte.ensures

pub returns : goal.returns
returns c =
    let inner : List ℕ = flat_map quoted_byte (trimmed c.args.message.now) in
    and-then c.args.line.now.items c.push.new.self.items c.push-2.new.self.items (codes "\"") (inner ++ codes "\"") c.in_ok-push.ensures.items
    (and-then c.push.new.self.items c.loop-byte.line.items c.push-2.new.self.items inner (codes "\"")
    (bytes-all quoted_byte c.trimmed-byte-items.result.now c.loop-byte.byte-index _ _ c.loop-byte-test.false c.loop-byte.invariant
    ∙ ap (λ (bytes : List ℕ). c.push.new.self.items ++ flat_map quoted_byte bytes) (c.trimmed-byte-items.ensures ∙ ap trimmed c.as_bytes.ensures.value))
    c.in_ok-push-2.ensures.items)
