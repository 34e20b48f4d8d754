-- What comes of work, as it comes to more. By the cases of what stops it.
use Rattle.std.proofs.Common.{◌≡◌, ℕ, List, [], Bool, Result, Ok, Err, refl, ap, ap₂, ◌∙◌, if◌then◌else◌}
use Rattle.std.specs.List.{list_any}
use Rattle.rule_meaning.specs.Locations.{World}
use Rattle.rule_meaning.specs.Verdicts.{is_fail}
use Rattle.guard_ends.specs.Order.{Ending, Ends, Point, Work, how_judged, judged, judged_by, usage}
use Rattle.guard_ends.specs.Report.{Reporting}
use Rattle.report_text.specs.Texts.{Texts}
use Rattle.guard_ends.specs.Reported.{verdicts_of}
use Rattle.guard_ends.specs.declared.ends.End.{End}
use Rattle.guard_ends.specs.declared.ends.End.TheVariants as end_is
use Rattle.guard_inputs.specs.code.Refusals.{bytes_of, said}
use Rattle.guard_inputs.specs.code.Stops.{IsStop, NoneRose}
use Rattle.guard_inputs.specs.declared.stop.Stop.{Stop}
use Rattle.guard_inputs.specs.declared.stop.Stop.TheVariants as stop
use Rattle.guard_inputs.proofs.Stopping.{IsStop-more}
use Rattle.guard_run.specs.code.Outcome.{IsOutcome, IsOutcomeAt, ended}
use Rattle.guard_run.specs.declared.done.Done.{Done}

module _
    (Comes More : Work)
    (FileRose MoreFile PatternRose MorePattern : List ℕ → Type 0)
    (more : (p : Point) → Comes p → More p)
    (files : (name : List ℕ) → FileRose name → MoreFile name)
    (patterns : (text : List ℕ) → PatternRose text → MorePattern text)
  where
    pub IsOutcome-more : (o : Result Done Stop) → IsOutcome Comes FileRose PatternRose o → IsOutcome More MoreFile MorePattern o
    IsOutcome-more (Ok done) is = more (Ends (ended done)) is
    IsOutcome-more (Err s) is = IsStop-more Comes More FileRose MoreFile PatternRose MorePattern more files patterns s is

-- work that comes to no load and no making of a pattern comes to nothing but an end
ended-stop : (Comes : Work) (s : Stop) → IsStop Comes NoneRose NoneRose s → IsStop (Ending (λ e. Comes (Ends e))) NoneRose NoneRose s
ended-stop Comes stop.Usage is = (usage, is, refl)
ended-stop Comes (stop.Refused r) is = (said r, is, refl)
ended-stop Comes (stop.Unread which) is = absurd is.2
ended-stop Comes stop.Unmade is = absurd is.2
ended-stop Comes stop.Memory is = tt

pub ended-outcome : (Comes : Work) (o : Result Done Stop) → IsOutcomeAt Comes o → IsOutcomeAt (Ending (λ e. Comes (Ends e))) o
ended-outcome Comes (Ok done) is = (ended done, is, refl)
ended-outcome Comes (Err s) is = ended-stop Comes s is

-- what is said of a template that was judged
pub judged-as : (made : Reporting) (done : Done) (failed : Bool) (report : List ℕ) (world : World) (texts : Texts)
    → done.how ≡ (if failed then end_is.Failed else end_is.Passed) → bytes_of done.out ≡ report → bytes_of done.err ≡ []
    → report ≡ made world texts → failed ≡ list_any is_fail (verdicts_of world) → ended done ≡ judged made world texts
judged-as made done failed report world texts how out err text fails =
    ap (λ (h : End). record { how = h; out = bytes_of done.out; err = bytes_of done.err })
    (how ∙ ap (λ (f : Bool). if f then end_is.Failed else end_is.Passed) fails)
    ∙ ap₂ (λ (t e : List ℕ). record { how = how_judged world; out = t; err = e }) (out ∙ text) err

-- and with evidence
pub judged-with : (made : Reporting) (done : Done) (failed : Bool) (report evidence : List ℕ) (world : World) (texts : Texts)
    → done.how ≡ (if failed then end_is.Failed else end_is.Passed) → bytes_of done.out ≡ evidence → bytes_of done.err ≡ report
    → report ≡ made world texts → failed ≡ list_any is_fail (verdicts_of world) → ended done ≡ judged_by evidence made world texts
judged-with made done failed report evidence world texts how out err text fails =
    ap (λ (h : End). record { how = h; out = bytes_of done.out; err = bytes_of done.err })
    (how ∙ ap (λ (f : Bool). if f then end_is.Failed else end_is.Passed) fails)
    ∙ ap₂ (λ (t e : List ℕ). record { how = how_judged world; out = t; err = e }) out (err ∙ text)
