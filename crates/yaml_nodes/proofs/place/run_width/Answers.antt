use Rattle.std.proofs.Common.{sym, ◌∙◌}
use Rattle.yaml_grammar.proofs.Widths.{run_return, run_plain}
use Rattle.yaml_nodes.proofs.place.run_width.Goals.{else-len-eq3-via-then-len-eq3+else-has_byte, else-len-eq3-via-else-len-eq3}
use Rattle.yaml_nodes.proofs.place.run_width.Goals as goal

pub returns-then-has_byte-clause-is : goal.returns-then-has_byte-clause-is
returns-then-has_byte-clause-is c = run_return c.args.len c.args.at c.args.bytes.now c.if-len-eq3.true (sym c.has_byte.ensures ∙ c.if-has_byte.true)

pub returns-clause-is : goal.returns-clause-is
returns-clause-is c = elim c.else-len-eq3.branch [
  | else-len-eq3-via-then-len-eq3+else-has_byte w ↦ run_plain c.args.len c.args.at c.args.bytes.now (λ z. sym w.has_byte.ensures ∙ w.if-has_byte.false)
  | else-len-eq3-via-else-len-eq3 w ↦ run_plain c.args.len c.args.at c.args.bytes.now (λ z. absurd (w.if-len-eq3.false z))
]
