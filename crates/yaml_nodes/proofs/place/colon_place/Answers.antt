use Rattle.std.proofs.Common.{sym, ◌∙◌}
use Rattle.yaml_grammar.proofs.Widths.{colon_next}
use Rattle.yaml_nodes.proofs.place.colon_place.Goals as goal

pub returns-then-has_byte : goal.returns-then-has_byte
returns-then-has_byte c =
    colon_next c.args.text.now c.as_bytes-bytes.result.now c.args.end c.whites.result c.offset.result c.as_bytes-bytes.ensures.value c.whites.ensures.count (sym c.has_byte.ensures ∙ c.if-has_byte.true) (c.offset.ensures ∙ c.past_return.ensures.is)
