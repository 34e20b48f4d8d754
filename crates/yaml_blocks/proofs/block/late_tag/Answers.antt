use Rattle.std.proofs.Common.{◌∙◌, sym, true≢false}
use Rattle.yaml_grammar.specs.code.Steps.{stack}
use Rattle.yaml_blocks.proofs.block.late_tag.Goals as goal

pub returns-else-is_tagged : goal.returns-else-is_tagged
returns-else-is_tagged c = c.missing.ensures (stack c.args.forms.now.items) c.requires.awaited

pub missing-requires-clause-awaited : goal.missing-requires-clause-awaited
missing-requires-clause-awaited c = (stack c.args.forms.now.items, c.requires.awaited)

pub missing-requires-clause-once : goal.missing-requires-clause-once
missing-requires-clause-once c = λ g len h. true≢false (sym g ∙ sym c.is_tagged.ensures ∙ c.if-is_tagged.false)
