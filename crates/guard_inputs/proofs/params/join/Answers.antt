use Rattle.guard_inputs.specs.declared.inputs.DataText.{DataText}
use Rattle.guard_inputs.specs.code.Stops.{IsStop, NoneRose}
use Rattle.guard_inputs.specs.code.Joined.{AreJoined, JoiningParams, Nowhere, WithLoaded}
use Rattle.guard_inputs.specs.code.Inputs.{inputs_of}
use Rattle.std.proofs.Common.{MatchResult, Option, subst, sym}
use Rattle.guard_inputs.proofs.params.join.Goals as goal

pub returns-in-Some : goal.returns-in-Some
returns-in-Some c =
    subst (λ (p : Option DataText). MatchResult c.join_params.result (AreJoined p (inputs_of c.args.template))
    (IsStop (JoiningParams (WithLoaded p) (inputs_of c.args.template) Nowhere) NoneRose NoneRose)) (sym c.in-Some.is) c.join_params.ensures
