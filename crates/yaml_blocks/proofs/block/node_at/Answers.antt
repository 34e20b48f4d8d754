use Rattle.yaml_grammar.proofs.AwaitedNodes.{column_before, small_place}
use Rattle.yaml_grammar.specs.code.Steps.{stack}
use Rattle.std.proofs.Common.{arith}
use Rattle.yaml_blocks.proofs.block.node_at.Goals as goal

pub returns-else-takes_sequence : goal.returns-else-takes_sequence
returns-else-takes_sequence c = c.late_dash.ensures (stack c.args.forms.now.items) c.requires.awaited

pub returns-else-takes_scalar : goal.returns-else-takes_scalar
returns-else-takes_scalar c = c.missing.ensures (stack c.args.forms.now.items) c.requires.awaited

pub returns-else-takes_scalar-2 : goal.returns-else-takes_scalar-2
returns-else-takes_scalar-2 c = c.missing-else-takes_scalar-2.ensures (stack c.args.forms.now.items) c.requires.awaited

pub returns-in_default : goal.returns-in_default
returns-in_default c = c.missing-in_default.ensures (stack c.args.forms.now.items) c.requires.awaited

pub takes_sequence-requires : goal.takes_sequence-requires
takes_sequence-requires c =
    let fs = stack c.args.forms.now.items in
    let column = column_before c.args.text.now fs c.args.builder.now c.args.site.form c.args.site.at c.args.site.next c.requires.awaited in
    let place = small_place c.args.text.now fs c.args.builder.now c.args.site.form c.args.site.at c.args.site.next c.requires.awaited in
    omega (arith, column, place)

pub late_dash-requires-clause-awaited : goal.late_dash-requires-clause-awaited
late_dash-requires-clause-awaited c = (stack c.args.forms.now.items, c.requires.awaited)

pub missing-requires-clause-awaited : goal.missing-requires-clause-awaited
missing-requires-clause-awaited c = (stack c.args.forms.now.items, c.requires.awaited)

pub missing-requires-else-takes_scalar-2-clause-awaited : goal.missing-requires-else-takes_scalar-2-clause-awaited
missing-requires-else-takes_scalar-2-clause-awaited c = (stack c.args.forms.now.items, c.requires.awaited)

pub missing-requires-in_default-clause-awaited : goal.missing-requires-in_default-clause-awaited
missing-requires-in_default-clause-awaited c = (stack c.args.forms.now.items, c.requires.awaited)

pub missing-requires-in_default-clause-once : goal.missing-requires-in_default-clause-once
missing-requires-in_default-clause-once c = λ g len h. c.in_default.not-Tag len h

pub missing-requires-in_default-clause-late : goal.missing-requires-in_default-clause-late
missing-requires-in_default-clause-late c = λ h. absurd (c.in_default.not-Dash h)
