use Rattle.std.proofs.Common.{inr}
use Rattle.doc_values.specs.Limits.{template_limit}
use Rattle.guard_ends.specs.Inputs.{IsText, RefusesData, of_yaml}
use Rattle.guard_ends.specs.declared.format.Format.TheVariants as format
use Rattle.guard_inputs.proofs.Refusing.{refused-not_read}
use Rattle.guard_inputs.proofs.tree.read_as_yaml.Goals as goal

pub returns-in-Some-clause-read : goal.returns-in-Some-clause-read
returns-in-Some-clause-read c =
    let text : IsText template_limit c.args.text.now = record { within = c.requires; utf8 = c.utf8.text } in
    refused-not_read (RefusesData c.args.which format.Yaml) c.args.text.now (of_yaml c.args.which c.in-Err.refusal) c.in-Some.refused
    (λ refusal named. inr (inr (text, (c.in-Err.refusal, named, c.in-Err.ensures.answer)))) c.in-Some.ensures
