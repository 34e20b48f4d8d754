use Rattle.std.proofs.Common.{ℕ, List, inl, inr, string_bytes, subst}
use Rattle.guard_drill.specs.DrillTexts.{template_text}
use Rattle.guard_syntax.specs.Syntax.{File}
use Rattle.rule_names.specs.code.Files.{file_of}
use Rattle.guard_ends.specs.Drill.{drill_report, drill_rules}
use Rattle.guard_ends.specs.Inputs.{IsRuleFile, RefusesRules}
use Rattle.guard_ends.specs.Order.{Alone, Ending, Ends, Inputs, IsJudged, Point, Reading, ReadingInputs, Refusing, Work}
use Rattle.guard_ends.specs.declared.format.Format.{Format}
use Rattle.guard_ends.specs.declared.format.Format.TheVariants.{Json}
use Rattle.guard_inputs.specs.code.Stops.{IsStop, NoneRose}
use Rattle.guard_inputs.specs.declared.inputs.Sources.{Sources}
use Rattle.guard_inputs.proofs.Stopping.{IsStop-more, as-rose, at-exit}
use Rattle.guard_run.specs.code.Drilled.{AreOfDrill}
use Rattle.guard_run.specs.code.Stages.{ReadingSources}
use Rattle.guard_run.specs.code.Outcome.{ended}
use Rattle.guard_run.specs.declared.done.Done.{Done}
use Rattle.guard_run.proofs.Outcomes.{IsOutcome-more, ended-outcome}
use Rattle.guard_run.proofs.drill.run_drill.Goals as goal

-- what is done with the inputs
abbrev Judges : (count : ℕ) → Inputs → Work
Judges count inputs = Ending (IsJudged (drill_report count) inputs)

-- the work of a drill, as it comes to more than an end
abbrev Comes : (count : ℕ) → Work
Comes count = Reading RefusesRules IsRuleFile drill_rules (λ rules. ReadingInputs Json drill_rules rules Alone (template_text count) (Judges count))

-- what comes of the sources of a drill
sources-come : (count : ℕ) (sources : Sources) → AreOfDrill count sources → (p : Point) → ReadingSources sources Alone (Judges count) p → Comes count p
sources-come count sources of p came =
    let file : File = file_of sources.rules.file in
    let text = string_bytes sources.beside.text in
    let by_format = subst (λ (f : Format). ReadingInputs f (string_bytes sources.rules.text) file Alone text (Judges count) p) of.format came in
    let by_rules = subst (λ (b : List ℕ). ReadingInputs Json b file Alone text (Judges count) p) of.source by_format in
    inr (file, of.read, subst (λ (b : List ℕ). ReadingInputs Json drill_rules file Alone b (Judges count) p) of.text by_rules)

pub returns-in_err-sources : goal.returns-in_err-sources
returns-in_err-sources c =
    let count = c.args.count in
    ended-outcome (Comes count) c.from_residual.result
    (at-exit (λ (done : Done). Comes count (Ends (ended done))) (IsStop (Comes count) NoneRose NoneRose)
    c.from_residual.result c.in_err-sources.field-0.0 c.from_residual.ensures.1
    (IsStop-more (Refusing RefusesRules drill_rules) (Comes count) NoneRose NoneRose NoneRose NoneRose
    (λ p refused. inl refused) (as-rose NoneRose) (as-rose NoneRose) c.in_err-sources.field-0.0 c.in_err-sources.ensures))

pub returns : goal.returns
returns c =
    let count = c.args.count in
    ended-outcome (Comes count) c.judge_sources.result
    (IsOutcome-more (ReadingSources c.in_ok-sources.sources Alone (Judges count)) (Comes count) NoneRose NoneRose NoneRose NoneRose
    (sources-come count c.in_ok-sources.sources c.in_ok-sources.ensures) (as-rose NoneRose) (as-rose NoneRose) c.judge_sources.result c.judge_sources.ensures)
