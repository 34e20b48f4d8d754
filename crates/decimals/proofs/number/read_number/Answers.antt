use Rattle.std.proofs.Common.{ap, ◌∙◌, sym}
use Rattle.decimals.specs.code.Reading.{is_number, read}
use Rattle.decimals.proofs.Numbers.{number_answer, no_number, whole_digits_are}
use Rattle.decimals.proofs.number.read_number.Goals as goal

pub value_of-requires-clause-whole : goal.value_of-requires-clause-whole
value_of-requires-clause-whole c = let d = whole_digits_are c.as_bytes.result.now c.in-Some.parts c.in-Some.ensures.1 in d.0

pub value_of-requires-clause-fraction : goal.value_of-requires-clause-fraction
value_of-requires-clause-fraction c = let d = whole_digits_are c.as_bytes.result.now c.in-Some.parts c.in-Some.ensures.1 in d.1

pub returns-in-None : goal.returns-in-None
returns-in-None c = λ n i. no_number c.args.text.now n (ap is_number (sym c.as_bytes.ensures.value) ∙ c.in-None.ensures) i

pub returns-in-Some : goal.returns-in-Some
returns-in-Some c = number_answer c.args.text.now c.in-Some.parts c.value_of.result (ap is_number (sym c.as_bytes.ensures.value) ∙ c.in-Some.ensures.0) (c.in-Some.ensures.1 ∙ ap read c.as_bytes.ensures.value) c.value_of.ensures
