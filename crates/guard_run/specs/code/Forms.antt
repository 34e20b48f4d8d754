-- The report in a form, by the types of the code.
use Rattle.guard_ends.specs.Drill.{drill_report}
use Rattle.guard_ends.specs.Report.{Reporting, report}
use Rattle.guard_run.specs.declared.report.Form.{Form}
use Rattle.guard_run.specs.declared.report.Form.TheVariants as form

abbrev pub report_in : Form → Reporting
report_in form.Entries = report
report_in (form.Drill count) = drill_report count
