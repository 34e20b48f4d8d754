use Rattle.std.proofs.Common.{sym, subst}
use Rattle.json_reader.specs.declared.stage.Stage.{Stage}
use Rattle.json_reader.specs.code.Steps.{Fits, Gives, phase_of}
use Rattle.json_reader.proofs.step.step.Goals as goal

pub value_step-requires-clause-fits : goal.value_step-requires-clause-fits
value_step-requires-clause-fits c = subst (λ (s : Stage). Fits s c.args.builder.now) c.in-Value.is c.requires.fits

pub returns-in-Value-clause-gives : goal.returns-in-Value-clause-gives
returns-in-Value-clause-gives c = subst (λ (s : Stage). Gives c.args.text.now c.args.position.at (phase_of s) c.args.builder.now c.value_step.new.builder c.value_step.result) (sym c.in-Value.is) c.value_step.ensures.gives

pub key_or_end_step-requires-clause-fits : goal.key_or_end_step-requires-clause-fits
key_or_end_step-requires-clause-fits c = subst (λ (s : Stage). Fits s c.args.builder.now) c.in-KeyOrEnd.is c.requires.fits

pub returns-in-KeyOrEnd-clause-gives : goal.returns-in-KeyOrEnd-clause-gives
returns-in-KeyOrEnd-clause-gives c = subst (λ (s : Stage). Gives c.args.text.now c.args.position.at (phase_of s) c.args.builder.now c.key_or_end_step.new.builder c.key_or_end_step.result) (sym c.in-KeyOrEnd.is) c.key_or_end_step.ensures.gives

pub item_or_end_step-requires-clause-fits : goal.item_or_end_step-requires-clause-fits
item_or_end_step-requires-clause-fits c = subst (λ (s : Stage). Fits s c.args.builder.now) c.in-ItemOrEnd.is c.requires.fits

pub returns-in-ItemOrEnd-clause-gives : goal.returns-in-ItemOrEnd-clause-gives
returns-in-ItemOrEnd-clause-gives c = subst (λ (s : Stage). Gives c.args.text.now c.args.position.at (phase_of s) c.args.builder.now c.item_or_end_step.new.builder c.item_or_end_step.result) (sym c.in-ItemOrEnd.is) c.item_or_end_step.ensures.gives

pub next_key_step-requires-clause-fits : goal.next_key_step-requires-clause-fits
next_key_step-requires-clause-fits c = subst (λ (s : Stage). Fits s c.args.builder.now) c.in-Key.is c.requires.fits

pub returns-in-Key-clause-gives : goal.returns-in-Key-clause-gives
returns-in-Key-clause-gives c = subst (λ (s : Stage). Gives c.args.text.now c.args.position.at (phase_of s) c.args.builder.now c.next_key_step.new.builder c.next_key_step.result) (sym c.in-Key.is) c.next_key_step.ensures.gives

pub colon_step-requires-clause-fits : goal.colon_step-requires-clause-fits
colon_step-requires-clause-fits c = subst (λ (s : Stage). Fits s c.args.builder.now) c.in-Colon.is c.requires.fits

pub returns-in-Colon-clause-gives : goal.returns-in-Colon-clause-gives
returns-in-Colon-clause-gives c = subst (λ (s : Stage). Gives c.args.text.now c.args.position.at (phase_of s) c.args.builder.now c.args.builder.now c.colon_step.result) (sym c.in-Colon.is) c.colon_step.ensures.gives

pub after_step-requires-clause-fits : goal.after_step-requires-clause-fits
after_step-requires-clause-fits c = subst (λ (s : Stage). Fits s c.args.builder.now) c.in-After.is c.requires.fits

pub returns-in-After-clause-gives : goal.returns-in-After-clause-gives
returns-in-After-clause-gives c = subst (λ (s : Stage). Gives c.args.text.now c.args.position.at (phase_of s) c.args.builder.now c.after_step.new.builder c.after_step.result) (sym c.in-After.is) c.after_step.ensures.gives
