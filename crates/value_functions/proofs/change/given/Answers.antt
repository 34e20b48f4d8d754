use Rattle.std.proofs.Common.{IfOk, subst, sym}
use Rattle.rule_meaning.specs.Functions.{IsGiven}
use Rattle.value_store.specs.code.Views.{see_view}
use Rattle.value_functions.specs.code.Gives.{gives}
use Rattle.value_functions.proofs.change.given.Goals as goal

pub returns-in-ParseInt : goal.returns-in-ParseInt
returns-in-ParseInt c = subst (λ change. IfOk c.int.result (IsGiven (gives change (see_view c.args.value)))) (sym c.in-ParseInt.is) c.int.ensures

pub returns-in-ParseFloat : goal.returns-in-ParseFloat
returns-in-ParseFloat c = subst (λ change. IfOk c.float.result (IsGiven (gives change (see_view c.args.value)))) (sym c.in-ParseFloat.is) c.float.ensures

pub returns-in-ParseBoolean : goal.returns-in-ParseBoolean
returns-in-ParseBoolean c = subst (λ change. IfOk c.boolean.result (IsGiven (gives change (see_view c.args.value)))) (sym c.in-ParseBoolean.is) c.boolean.ensures

pub returns-in-ParseString : goal.returns-in-ParseString
returns-in-ParseString c = subst (λ change. IfOk c.printed.result (IsGiven (gives change (see_view c.args.value)))) (sym c.in-ParseString.is) c.printed.ensures
