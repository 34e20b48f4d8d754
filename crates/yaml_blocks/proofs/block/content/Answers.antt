use Rattle.std.proofs.Common.{◌∙◌, sym, true≢false}
use Rattle.yaml_grammar.specs.code.Steps.{stack}
use Rattle.yaml_grammar.proofs.ValueReads.{value-none}
use Rattle.yaml_blocks.proofs.block.content.Goals as goal

pub returns-then-not-takes_mapping : goal.returns-then-not-takes_mapping
returns-then-not-takes_mapping c = c.scalar.ensures (stack c.args.forms.now.items) c.requires.awaited

pub returns-in-Ok-None : goal.returns-in-Ok-None
returns-in-Ok-None c = c.scalar-in-Ok-None.ensures (stack c.args.forms.now.items) c.requires.awaited

pub returns-in-Err : goal.returns-in-Err
returns-in-Err c = value-none c.in-Err.refusal c.in-Err.ensures c.args.text.now c.args.site.at c.args.site.next (stack c.args.forms.now.items) c.args.builder.now (stack c.args.forms.now.items) c.args.builder.now c.args.site.form

pub scalar-requires-clause-awaited : goal.scalar-requires-clause-awaited
scalar-requires-clause-awaited c = (stack c.args.forms.now.items, c.requires.awaited)

pub scalar-requires-in-Ok-None-clause-awaited : goal.scalar-requires-in-Ok-None-clause-awaited
scalar-requires-in-Ok-None-clause-awaited c = (stack c.args.forms.now.items, c.requires.awaited)

pub mapping-requires-clause-key : goal.mapping-requires-clause-key
mapping-requires-clause-key c = (rw c.in-Ok-Some.field-0-is at c.in-Ok-Some.ensures).0

pub mapping-requires-clause-ends : goal.mapping-requires-clause-ends
mapping-requires-clause-ends c = (rw c.in-Ok-Some.field-0-is at c.in-Ok-Some.ensures).1

pub scalar-requires-in-Ok-None-clause-no_key : goal.scalar-requires-in-Ok-None-clause-no_key
scalar-requires-in-Ok-None-clause-no_key c = λ h. rw c.in-Ok-None.field-0-is at c.in-Ok-None.ensures

pub scalar-requires-clause-no_key : goal.scalar-requires-clause-no_key
scalar-requires-clause-no_key c = λ h. absurd (true≢false (sym h ∙ sym c.takes_mapping.ensures ∙ c.if-not-takes_mapping.true))
