use Rattle.std.proofs.Common.{sym, ap, ◌∙◌}
use Rattle.std.specs.Prelude.{option_and_then}
use Rattle.key_names.specs.code.TextNumbers.{Links, links_in, number_by}
use Rattle.key_names.proofs.TextLinks.{last_more, lost_at, last_all}
use Rattle.key_names.proofs.text_numbers.TextNumbers.get.Goals as goal

pub returns-in_err-link : goal.returns-in_err-link
returns-in_err-link c =
    let f : Links = links_in c.args.self.now.links in
    c.from_residual.ensures
    ∙ lost_at f c.as_bytes-byte-items.result.now c.loop-byte.byte-index c.loop-byte.link c.loop-byte-test.true c.loop-byte.invariant.0 (sym c.in_err-link.ensures.value)
    ∙ ap (number_by f) c.as_bytes-byte-items.ensures.value

pub loop-byte-preserved : goal.loop-byte-preserved
loop-byte-preserved c = (last_more (links_in c.args.self.now.links) c.as_bytes-byte-items.result.now c.loop-byte.byte-index c.loop-byte.link c.loop-byte-test.true c.loop-byte.invariant.0 ∙ sym c.in_ok-link.ensures.value, c.in_ok-link.ensures.short)

pub returns : goal.returns
returns c =
    let f : Links = links_in c.args.self.now.links in
    let last = last_all f c.as_bytes-byte-items.result.now c.loop-byte.byte-index c.loop-byte.link c.loop-byte-test.false c.loop-byte.invariant.0 in
    c.copied.ensures ∙ c.get.ensures.value ∙ sym (ap (option_and_then f) last) ∙ ap (number_by f) c.as_bytes-byte-items.ensures.value
