use Rattle.std.proofs.Common.{◌++◌, ℕ, List, ap, ◌∙◌}
use Rattle.std.specs.List.{flat_map}
use Rattle.report_text.specs.Paths.{key_byte}
use Rattle.report_text.proofs.LoopBytes.{bytes-more, bytes-all}
use Rattle.report_text.proofs.paths.push_key_text.Goals as goal

pub loop-byte-preserved : goal.loop-byte-preserved
loop-byte-preserved c = bytes-more key_byte c.as_bytes-byte-items.result.now c.loop-byte.byte-index _ _ _ _ c.loop-byte-test.true c.loop-byte.invariant c.in_ok-push_key_byte.ensures

pub returns : goal.returns
returns c =
    bytes-all key_byte c.as_bytes-byte-items.result.now c.loop-byte.byte-index _ _ c.loop-byte-test.false c.loop-byte.invariant
    ∙ ap (λ (bytes : List ℕ). c.args.line.now.items ++ flat_map key_byte bytes) c.as_bytes-byte-items.ensures.value
