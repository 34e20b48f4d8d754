-- What is asked for over files, by the types of the code.
use Rattle.guard_ends.specs.Order.{Contents, Ending, Inputs, IsJudged, IsJudgedBy, OfEvidence, OverFiles, Work}
use Rattle.guard_ends.specs.Report.{report}
use Rattle.guard_inputs.specs.code.Joined.{name_in}
use Rattle.guard_run.specs.declared.job.Job.{Job}
use Rattle.guard_run.specs.declared.job.Task.{Task}
use Rattle.guard_run.specs.declared.job.Task.TheVariants as task

-- what is done with inputs
abbrev pub Doing : Task → Contents → Inputs → Work
Doing task.Report told inputs = Ending (IsJudged report inputs)
Doing task.Evidence told inputs = Ending (IsJudgedBy report inputs)
Doing (task.Check proof) told inputs = OfEvidence told proof.now inputs

-- the work of a job
abbrev pub WorkOfJob : Job → Contents → Work
WorkOfJob job told = OverFiles told job.rules.now job.template.now (name_in job.params) (Doing job.task told)
