use Rattle.std.proofs.Common.{sym, subst}
use Rattle.yaml_grammar.specs.declared.stage.Stage.{Stage}
use Rattle.yaml_grammar.specs.code.Steps.{stack, Fits}
use Rattle.yaml_grammar.specs.code.StepReads.{StepRead}
use Rattle.yaml_blocks.proofs.step.step.Goals as goal

pub returns-in-Entry : goal.returns-in-Entry
returns-in-Entry c = subst (λ (s : Stage). StepRead c.args.text.now s c.args.position.at (stack c.args.forms.now.items) c.args.builder.now (stack c.entry.new.forms.items) c.entry.new.builder c.entry.result) (sym c.in-Entry.is) c.entry.ensures

pub returns-in-Value : goal.returns-in-Value
returns-in-Value c = subst (λ (s : Stage). StepRead c.args.text.now s c.args.position.at (stack c.args.forms.now.items) c.args.builder.now (stack c.value.new.forms.items) c.value.new.builder c.value.result) (sym c.in-Value.is) c.value.ensures

pub returns-in-After : goal.returns-in-After
returns-in-After c = subst (λ (s : Stage). StepRead c.args.text.now s c.args.position.at (stack c.args.forms.now.items) c.args.builder.now (stack c.after.new.forms.items) c.after.new.builder c.after.result) (sym c.in-After.is) c.after.ensures

pub entry-requires-clause-fits : goal.entry-requires-clause-fits
entry-requires-clause-fits c = subst (λ (s : Stage). Fits c.args.text.now s (stack c.args.forms.now.items) c.args.builder.now c.args.position.at) c.in-Entry.is c.requires.fits

pub value-requires-clause-fits : goal.value-requires-clause-fits
value-requires-clause-fits c = subst (λ (s : Stage). Fits c.args.text.now s (stack c.args.forms.now.items) c.args.builder.now c.args.position.at) c.in-Value.is c.requires.fits

pub after-requires-clause-fits : goal.after-requires-clause-fits
after-requires-clause-fits c = subst (λ (s : Stage). Fits c.args.text.now s (stack c.args.forms.now.items) c.args.builder.now c.args.position.at) c.in-After.is c.requires.fits

pub after-requires-clause-boundary : goal.after-requires-clause-boundary
after-requires-clause-boundary c = c.requires.boundary

pub value-requires-clause-boundary : goal.value-requires-clause-boundary
value-requires-clause-boundary c = c.requires.boundary

pub entry-requires-clause-boundary : goal.entry-requires-clause-boundary
entry-requires-clause-boundary c = c.requires.boundary
