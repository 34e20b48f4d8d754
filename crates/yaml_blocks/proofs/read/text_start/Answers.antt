use Rattle.std.proofs.Common.{ap, sym, ◌∙◌}
use Rattle.std.proofs.lemmas.Str.{IsCharBoundary-start}
use Rattle.yaml_scalars.specs.Scalar.{begins_order_mark}
use Rattle.yaml_grammar.proofs.Roots.{order_mark_cut}
use Rattle.yaml_blocks.proofs.read.text_start.Goals as goal

pub returns-then-begins_order_mark-clause-boundary : goal.returns-then-begins_order_mark-clause-boundary
returns-then-begins_order_mark-clause-boundary c =
    order_mark_cut c.args.text.now c.utf8.text (sym (c.begins_order_mark.ensures ∙ ap begins_order_mark c.as_bytes.ensures.value) ∙ c.if-begins_order_mark.true)

pub returns-else-begins_order_mark-clause-boundary : goal.returns-else-begins_order_mark-clause-boundary
returns-else-begins_order_mark-clause-boundary c = IsCharBoundary-start c.args.text.now c.utf8.text
