use Rattle.std.proofs.Common.{ℕ, List, inl, inr, refl, string_bytes, subst}
use Rattle.guard_ends.specs.Inputs.{RefusesData, format_of}
use Rattle.guard_ends.specs.Order.{Contents, Ends, Generating, Loading, OfTemplate, Point, Refusing, Work}
use Rattle.guard_ends.specs.declared.ends.Which.TheVariants as file
use Rattle.guard_ends.specs.declared.format.Format.{Format}
use Rattle.guard_inputs.specs.code.Loading.{RefusesText}
use Rattle.guard_inputs.specs.code.Stops.{IsStop, NoneRose, Rose}
use Rattle.guard_inputs.proofs.Loads.{refused-more, text-data}
use Rattle.guard_inputs.proofs.Stopping.{IsStop-more, as-rose, at-exit, none-rose}
use Rattle.guard_run.specs.code.Outcome.{ended}
use Rattle.guard_run.specs.declared.done.Done.{Done}
use Rattle.guard_run.proofs.Outcomes.{IsOutcome-more}
use Rattle.guard_run.proofs.rulegen.run_rulegen.Goals as goal

refused-before : (told : Contents) (name : List ℕ) (p : Point)
    → Loading file.Template told name (Refusing (RefusesData file.Template (format_of name))) p → OfTemplate told name p
refused-before told name p (inl load) = inl load
refused-before told name p (inr (bytes, content, refused)) = inr (bytes, content, inl refused)

pub returns-in_err-text-clause-outcome : goal.returns-in_err-text-clause-outcome
returns-in_err-text-clause-outcome g c =
    let told = g.F.Files.content c.args.files.now in
    let name = c.args.template.now in
    let Rises = Rose (g.F.Files.faults c.args.files.now) (g.F.Files.faults c.load_data.new.files) in
    let Refuses = RefusesData file.Template (format_of name) in
    let Comes : Work = OfTemplate told name in
    at-exit (λ (done : Done). Comes (Ends (ended done))) (IsStop Comes Rises NoneRose)
    c.from_residual.result c.in_err-text.field-0.0 c.from_residual.ensures.1
    (IsStop-more (Loading file.Template told name (Refusing (RefusesText file.Template))) Comes Rises Rises NoneRose NoneRose
    (λ p came. refused-before told name p (refused-more file.Template told name (RefusesText file.Template) Refuses (text-data file.Template (format_of name) refl) p came))
    (as-rose Rises) (as-rose NoneRose) c.in_err-text.field-0.0 c.in_err-text.ensures.loaded)

pub returns-clause-outcome : goal.returns-clause-outcome
returns-clause-outcome g c =
    let told = g.F.Files.content c.args.files.now in
    let name = c.args.template.now in
    let Rises = Rose (g.F.Files.faults c.args.files.now) (g.F.Files.faults c.load_data.new.files) in
    let loaded = c.in_ok-text.ensures.loaded in
    let source : List ℕ = string_bytes c.in_ok-text.text.text in
    IsOutcome-more (Generating c.in_ok-text.text.format source) (OfTemplate told name) NoneRose Rises NoneRose NoneRose
    (λ p came. inr (source, loaded.text, subst (λ (f : Format). Generating f source p) loaded.format came)) (none-rose Rises) (as-rose NoneRose)
    c.generate_of.result c.generate_of.ensures
