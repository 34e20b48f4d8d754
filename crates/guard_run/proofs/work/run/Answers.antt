use Rattle.std.proofs.Common.{◌≡◌, ℕ, List, Option, Bool, Result, ap, false, true, string_bytes, subst, sym, option_map, if◌then◌else◌}
use Rattle.guard_words.specs.Request.{Asked, asked, check, drill, parse_tree, rulegen, test, validate}
use Rattle.guard_ends.specs.End.{Counts}
use Rattle.guard_ends.specs.Order.{Contents, OfDrill, OfEvidence, OfSyntax, OfTemplate, OfTests, OverFiles, Work, WorkOf}
use Rattle.guard_inputs.specs.code.Joined.{name_in}
use Rattle.guard_inputs.specs.code.Stops.{NoneRose, Rose}
use Rattle.guard_inputs.specs.declared.stop.Stop.{Stop}
use Rattle.guard_inputs.proofs.Stopping.{as-rose, none-rose}
use Rattle.guard_run.specs.code.Jobs.{Doing}
use Rattle.guard_run.specs.code.Outcome.{IsOutcomeBy}
use Rattle.guard_run.specs.declared.done.Done.{Done}
use Rattle.guard_run.specs.declared.job.Task.{Task}
use Rattle.guard_run.specs.declared.job.Task.TheVariants as task
use Rattle.guard_run.proofs.Outcomes.{IsOutcome-more}
use Rattle.guard_run.proofs.work.run.Goals as goal

module _ (told : Contents) (before after : Counts) (o : Result Done Stop) where
  -- what comes of one request comes of the same request
  of-same : (request other : Asked) → request ≡ other → IsOutcomeBy (WorkOf other told) before after o → IsOutcomeBy (WorkOf request told) before after o
  of-same request other same is = subst (λ (a : Asked). IsOutcomeBy (WorkOf a told) before after o) (sym same) is

  -- what comes of a job comes of one with the same names
  of-names : (rules rules' template template' : List ℕ) (params params' : Option (List ℕ)) (t : Task) → rules ≡ rules' → template ≡ template' → params ≡ params'
      → IsOutcomeBy (OverFiles told rules template params (Doing t told)) before after o → IsOutcomeBy (OverFiles told rules' template' params' (Doing t told)) before after o
  of-names rules rules' template template' params params' t same_rules same_template same_params is =
      subst (λ (r : List ℕ). IsOutcomeBy (OverFiles told r template' params' (Doing t told)) before after o) same_rules
      (subst (λ (d : List ℕ). IsOutcomeBy (OverFiles told rules d params' (Doing t told)) before after o) same_template
      (subst (λ (p : Option (List ℕ)). IsOutcomeBy (OverFiles told rules template p (Doing t told)) before after o) same_params is))

  -- what comes of a job that judges comes of `validate`
  of-judging : (rules template : List ℕ) (params : Option (List ℕ)) (t : Task) (evidence : Bool) → t ≡ (if evidence then task.Evidence else task.Report)
      → IsOutcomeBy (OverFiles told rules template params (Doing t told)) before after o → IsOutcomeBy (WorkOf (validate rules template params evidence) told) before after o
  of-judging rules template params t true same is = subst (λ (t : Task). IsOutcomeBy (OverFiles told rules template params (Doing t told)) before after o) same is
  of-judging rules template params t false same is = subst (λ (t : Task). IsOutcomeBy (OverFiles told rules template params (Doing t told)) before after o) same is

pub returns-in-Validate-clause-outcome : goal.returns-in-Validate-clause-outcome
returns-in-Validate-clause-outcome g c =
    let told = g.F.Files.content c.args.files.now in
    let before : Counts = record { files = g.F.Files.faults c.args.files.now; patterns = g.M.PatternMaker.faults c.args.maker.now } in
    let after : Counts = record { files = g.F.Files.faults c.run_over_files.new.files; patterns = g.M.PatternMaker.faults c.run_over_files.new.maker } in
    let rules = string_bytes c.in-Validate.rules in
    let template = string_bytes c.in-Validate.template in
    let params = option_map string_bytes c.in-Validate.params in
    let evidence = c.in-Validate.evidence in
    let came = c.run_over_files.result in
    of-same told before after came (asked c.args.request.now) (validate rules template params evidence) (ap asked c.in-Validate.is)
    (of-judging told before after came rules template params c.judging.result evidence c.judging.ensures
    (of-names told before after came c.as_str.result.now rules c.as_str-in-Validate.result.now template (name_in c.name_in.result) params c.judging.result
    c.as_str.ensures.value c.as_str-in-Validate.ensures.value c.name_in.ensures c.run_over_files.ensures.outcome))

pub returns-in-Check-clause-outcome : goal.returns-in-Check-clause-outcome
returns-in-Check-clause-outcome g c =
    let told = g.F.Files.content c.args.files.now in
    let before : Counts = record { files = g.F.Files.faults c.args.files.now; patterns = g.M.PatternMaker.faults c.args.maker.now } in
    let after : Counts = record { files = g.F.Files.faults c.run_over_files-in-Check.new.files; patterns = g.M.PatternMaker.faults c.run_over_files-in-Check.new.maker } in
    let rules = string_bytes c.in-Check.rules in
    let template = string_bytes c.in-Check.template in
    let params = option_map string_bytes c.in-Check.params in
    let proof = string_bytes c.in-Check.proof in
    let came = c.run_over_files-in-Check.result in
    let judges : Task = task.Check c.as_str-in-Check-3.result in
    of-same told before after came (asked c.args.request.now) (check rules template params proof) (ap asked c.in-Check.is)
    (subst (λ (p : List ℕ). IsOutcomeBy (OverFiles told rules template params (OfEvidence told p)) before after came) c.as_str-in-Check-3.ensures.value
    (of-names told before after came c.as_str-in-Check.result.now rules c.as_str-in-Check-2.result.now template (name_in c.name_in-in-Check.result) params judges
    c.as_str-in-Check.ensures.value c.as_str-in-Check-2.ensures.value c.name_in-in-Check.ensures c.run_over_files-in-Check.ensures.outcome))

pub run_drill-requires : goal.run_drill-requires
run_drill-requires g c = c.requires c.in-Drill.count (ap asked c.in-Drill.is)

pub returns-in-Drill-clause-outcome : goal.returns-in-Drill-clause-outcome
returns-in-Drill-clause-outcome g c =
    let told = g.F.Files.content c.args.files.now in
    let counts : Counts = record { files = g.F.Files.faults c.args.files.now; patterns = g.M.PatternMaker.faults c.args.maker.now } in
    let Comes : Work = OfDrill c.in-Drill.count in
    of-same told counts counts c.run_drill.result (asked c.args.request.now) (drill c.in-Drill.count) (ap asked c.in-Drill.is)
    (IsOutcome-more Comes Comes NoneRose (Rose counts.files counts.files) NoneRose (Rose counts.patterns counts.patterns)
    (λ p came. came) (none-rose (Rose counts.files counts.files)) (none-rose (Rose counts.patterns counts.patterns)) c.run_drill.result c.run_drill.ensures)

pub returns-in-Test-clause-outcome : goal.returns-in-Test-clause-outcome
returns-in-Test-clause-outcome g c =
    let told = g.F.Files.content c.args.files.now in
    let before : Counts = record { files = g.F.Files.faults c.args.files.now; patterns = g.M.PatternMaker.faults c.args.maker.now } in
    let after : Counts = record { files = g.F.Files.faults c.run_tests.new.files; patterns = g.M.PatternMaker.faults c.run_tests.new.maker } in
    let rules = string_bytes c.in-Test.rules in
    let tests = string_bytes c.in-Test.tests in
    let came = c.run_tests.result in
    of-same told before after came (asked c.args.request.now) (test rules tests) (ap asked c.in-Test.is)
    (subst (λ (r : List ℕ). IsOutcomeBy (OfTests told r tests) before after came) c.as_str-in-Test.ensures.value
    (subst (λ (t : List ℕ). IsOutcomeBy (OfTests told c.as_str-in-Test.result.now t) before after came) c.as_str-in-Test-2.ensures.value
    c.run_tests.ensures.outcome))

pub returns-in-Rulegen-clause-outcome : goal.returns-in-Rulegen-clause-outcome
returns-in-Rulegen-clause-outcome g c =
    let told = g.F.Files.content c.args.files.now in
    let before : Counts = record { files = g.F.Files.faults c.args.files.now; patterns = g.M.PatternMaker.faults c.args.maker.now } in
    let after : Counts = record { files = g.F.Files.faults c.run_rulegen.new.files; patterns = g.M.PatternMaker.faults c.args.maker.now } in
    let FileRose = Rose before.files after.files in
    let template = string_bytes c.in-Rulegen.template in
    let came = c.run_rulegen.result in
    let Comes : Work = OfTemplate told c.as_str-in-Rulegen.result.now in
    of-same told before after came (asked c.args.request.now) (rulegen template) (ap asked c.in-Rulegen.is)
    (subst (λ (t : List ℕ). IsOutcomeBy (OfTemplate told t) before after came) c.as_str-in-Rulegen.ensures.value
    (IsOutcome-more Comes Comes FileRose FileRose NoneRose (Rose before.patterns after.patterns)
    (λ p at_it. at_it) (as-rose FileRose) (none-rose (Rose before.patterns after.patterns)) came c.run_rulegen.ensures.outcome))

pub returns-in-Tree-clause-outcome : goal.returns-in-Tree-clause-outcome
returns-in-Tree-clause-outcome g c =
    let told = g.F.Files.content c.args.files.now in
    let before : Counts = record { files = g.F.Files.faults c.args.files.now; patterns = g.M.PatternMaker.faults c.args.maker.now } in
    let after : Counts = record { files = g.F.Files.faults c.run_parse_tree.new.files; patterns = g.M.PatternMaker.faults c.args.maker.now } in
    let FileRose = Rose before.files after.files in
    let rules = string_bytes c.in-Tree.rules in
    let came = c.run_parse_tree.result in
    let Comes : Work = OfSyntax told c.as_str-in-Tree.result.now in
    of-same told before after came (asked c.args.request.now) (parse_tree rules) (ap asked c.in-Tree.is)
    (subst (λ (r : List ℕ). IsOutcomeBy (OfSyntax told r) before after came) c.as_str-in-Tree.ensures.value
    (IsOutcome-more Comes Comes FileRose FileRose NoneRose (Rose before.patterns after.patterns)
    (λ p at_it. at_it) (as-rose FileRose) (none-rose (Rose before.patterns after.patterns)) came c.run_parse_tree.ensures.outcome))

pub returns-in-Check-clause-maker_kept : goal.returns-in-Check-clause-maker_kept
returns-in-Check-clause-maker_kept g c = c.run_over_files-in-Check.ensures.maker_kept

pub returns-in-Check-clause-kept : goal.returns-in-Check-clause-kept
returns-in-Check-clause-kept g c = c.run_over_files-in-Check.ensures.kept

pub returns-in-Validate-clause-maker_kept : goal.returns-in-Validate-clause-maker_kept
returns-in-Validate-clause-maker_kept g c = c.run_over_files.ensures.maker_kept

pub returns-in-Validate-clause-kept : goal.returns-in-Validate-clause-kept
returns-in-Validate-clause-kept g c = c.run_over_files.ensures.kept
