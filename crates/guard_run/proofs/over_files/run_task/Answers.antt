use Rattle.std.proofs.Common.{subst, sym}
use Rattle.guard_ends.specs.Order.{Inputs, Work}
use Rattle.guard_inputs.specs.code.Inputs.{inputs_of}
use Rattle.guard_inputs.specs.code.Stops.{NoneRose, Rose}
use Rattle.guard_inputs.proofs.Stopping.{as-rose, none-rose}
use Rattle.guard_run.specs.code.Jobs.{Doing}
use Rattle.guard_run.specs.code.Outcome.{IsOutcome}
use Rattle.guard_run.specs.declared.job.Task.{Task}
use Rattle.guard_run.specs.declared.job.Task.TheVariants as task
use Rattle.guard_run.proofs.Outcomes.{IsOutcome-more}
use Rattle.guard_run.proofs.over_files.run_task.Goals as goal

pub returns-in-Report-clause-outcome : goal.returns-in-Report-clause-outcome
returns-in-Report-clause-outcome g c =
    let told = g.F.Files.content c.args.files.now in
    let inputs : Inputs = inputs_of c.args.ready.now.inputs.now in
    let FileRose = Rose (g.F.Files.faults c.args.files.now) (g.F.Files.faults c.args.files.now) in
    let Does : Work = Doing task.Report told inputs in
    subst (λ (t : Task). IsOutcome (Doing t told inputs) FileRose NoneRose c.report_on.result) (sym c.in-Report.is)
    (IsOutcome-more Does Does NoneRose FileRose NoneRose NoneRose (λ p came. came) (none-rose FileRose) (as-rose NoneRose) c.report_on.result c.report_on.ensures)

pub returns-in-Evidence-clause-outcome : goal.returns-in-Evidence-clause-outcome
returns-in-Evidence-clause-outcome g c =
    let told = g.F.Files.content c.args.files.now in
    let inputs : Inputs = inputs_of c.args.ready.now.inputs.now in
    let FileRose = Rose (g.F.Files.faults c.args.files.now) (g.F.Files.faults c.args.files.now) in
    let Does : Work = Doing task.Evidence told inputs in
    subst (λ (t : Task). IsOutcome (Doing t told inputs) FileRose NoneRose c.report_with_evidence.result) (sym c.in-Evidence.is)
    (IsOutcome-more Does Does NoneRose FileRose NoneRose NoneRose (λ p came. came) (none-rose FileRose) (as-rose NoneRose)
    c.report_with_evidence.result c.report_with_evidence.ensures)

pub returns-in-Check-clause-outcome : goal.returns-in-Check-clause-outcome
returns-in-Check-clause-outcome g c =
    let told = g.F.Files.content c.args.files.now in
    let inputs : Inputs = inputs_of c.args.ready.now.inputs.now in
    let FileRose = Rose (g.F.Files.faults c.args.files.now) (g.F.Files.faults c.check_evidence.new.files) in
    subst (λ (t : Task). IsOutcome (Doing t told inputs) FileRose NoneRose c.check_evidence.result) (sym c.in-Check.is) c.check_evidence.ensures.outcome
