use Rattle.std.proofs.lemmas.Grind.{common_steps}
use Rattle.std.proofs.Common.{◌≡◌, ◌∷◌, Some, map, string_bytes, sym, ap, ◌∙◌, arith}
use Rattle.std.proofs.lemmas.Result.{MatchResult-from_err}
use Rattle.guard_words.specs.code.Reading.{command_in}
use Rattle.guard_words.specs.code.Memory.{NamesCommand}
use Rattle.guard_words.proofs.RequestLemmas.{named}
use Rattle.guard_words.proofs.reading.command_asked.Goals as goal

pub returns-in_err-uses-clause-memory : goal.returns-in_err-uses-clause-memory
returns-in_err-uses-clause-memory c =
    let first = string_bytes c.in-Some.first.now in
    let rest = map string_bytes c.in-Some.rest.now in
    let is : command_in first ≡ Some c.in-Some-named.command = ap command_in (sym c.as_str.ensures.value) ∙ sym c.named.ensures ∙ c.in-Some-named.is in
    let parts : map string_bytes c.args.words.now ≡ first ∷ rest = ap (map string_bytes) c.in-Some.ensures.cases.0 in
    let names : NamesCommand (map string_bytes c.args.words.now) = (c.in-Some-named.command, rest, parts ∙ ap (λ w. w ∷ rest) (named first c.in-Some-named.command is)) in
    MatchResult-from_err c.from_residual.result _ _ c.from_residual.ensures.0 (λ _. names)

pub returns-in_default-clause-command : goal.returns-in_default-clause-command
returns-in_default-clause-command c = grind (arith, common_steps)
