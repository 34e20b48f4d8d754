use Rattle.guard_inputs.specs.code.Stops.{IsNotRead}
use Rattle.guard_ends.specs.declared.format.Format.{Format}
use Rattle.guard_ends.specs.Inputs.{IsTemplate, RefusesData}
use Rattle.std.proofs.Common.{MatchResult, subst, sym}
use Rattle.guard_inputs.proofs.tree.read_tree.Goals as goal

pub returns-in-Json-clause-read : goal.returns-in-Json-clause-read
returns-in-Json-clause-read c =
    subst (λ (f : Format). MatchResult c.read_as_json.result (λ tree. IsTemplate f c.args.text.now tree) (IsNotRead (RefusesData c.args.which f) c.args.text.now))
    (sym c.in-Json.is) c.read_as_json.ensures.read

pub returns-in-Yaml-clause-read : goal.returns-in-Yaml-clause-read
returns-in-Yaml-clause-read c =
    subst (λ (f : Format). MatchResult c.read_as_yaml.result (λ tree. IsTemplate f c.args.text.now tree) (IsNotRead (RefusesData c.args.which f) c.args.text.now))
    (sym c.in-Yaml.is) c.read_as_yaml.ensures.read
