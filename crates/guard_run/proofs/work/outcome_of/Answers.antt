use Rattle.std.proofs.Common.{Err, ap, inl, inr, map, refl, string_bytes, subst}
use Rattle.guard_words.specs.Request.{AsksFor, asked}
use Rattle.guard_words.proofs.DrillCounts.{drill_low}
use Rattle.guard_ends.specs.Order.{ComesTo, WorkOf}
use Rattle.guard_inputs.specs.code.Stops.{Rose}
use Rattle.guard_inputs.proofs.Stopping.{as-rose}
use Rattle.guard_run.proofs.Outcomes.{IsOutcome-more}
use Rattle.guard_run.proofs.work.outcome_of.Goals as goal

pub run-requires : goal.run-requires
run-requires g c = λ count is.
    let words = map string_bytes c.args.words.now in drill_low words count (subst (AsksFor words) is c.in-Ok.ensures.ok)

pub returns-in-Ok-clause-outcome : goal.returns-in-Ok-clause-outcome
returns-in-Ok-clause-outcome g c =
    let words = map string_bytes c.args.words.now in
    let told = g.F.Files.content c.args.files.now in
    let request = asked c.in-Ok.request in
    let FileRose = Rose (g.F.Files.faults c.args.files.now) (g.F.Files.faults c.run.new.files) in
    let PatternRose = Rose (g.M.PatternMaker.faults c.args.maker.now) (g.M.PatternMaker.faults c.run.new.maker) in
    IsOutcome-more (WorkOf request told) (ComesTo words told) FileRose FileRose PatternRose PatternRose
    (λ p came. inl (request, c.in-Ok.ensures.ok, came)) (as-rose FileRose) (as-rose PatternRose) c.run.result c.run.ensures.outcome

pub returns-in-Err-Usage-clause-outcome : goal.returns-in-Err-Usage-clause-outcome
returns-in-Err-Usage-clause-outcome g c = inr (c.in-Err-Usage.ensures.usage (ap Err c.in-Err-Usage.field-0-is), refl)

pub returns-in-Ok-clause-maker_kept : goal.returns-in-Ok-clause-maker_kept
returns-in-Ok-clause-maker_kept g c = c.run.ensures.maker_kept

pub returns-in-Ok-clause-kept : goal.returns-in-Ok-clause-kept
returns-in-Ok-clause-kept g c = c.run.ensures.kept
