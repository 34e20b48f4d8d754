use Rattle.std.proofs.Common.{ℕ, List, inl, inr, string_bytes, subst}
use Rattle.guard_ends.specs.Inputs.{RefusesUnnamed}
use Rattle.guard_ends.specs.Order.{Contents, Ends, Loading, OfSyntax, Point, Printing, Refusing, Work}
use Rattle.guard_ends.specs.declared.ends.Which.TheVariants as file
use Rattle.guard_inputs.specs.code.Loading.{RefusesText}
use Rattle.guard_inputs.specs.code.Stops.{IsStop, NoneRose, Rose}
use Rattle.guard_inputs.proofs.Loads.{refused-more, text-unnamed}
use Rattle.guard_inputs.proofs.Stopping.{IsStop-more, as-rose, at-exit, none-rose}
use Rattle.guard_run.specs.code.Outcome.{IsOutcomeAt, ended}
use Rattle.guard_run.specs.declared.done.Done.{Done}
use Rattle.guard_run.proofs.Outcomes.{IsOutcome-more}
use Rattle.guard_run.proofs.parse_tree.run_parse_tree.Goals as goal

refused-before : (told : Contents) (name : List ℕ) (p : Point) → Loading file.Rules told name (Refusing RefusesUnnamed) p → OfSyntax told name p
refused-before told name p (inl load) = inl load
refused-before told name p (inr (bytes, content, refused)) = inr (bytes, content, inl refused)

pub returns-in_err-text-clause-outcome : goal.returns-in_err-text-clause-outcome
returns-in_err-text-clause-outcome g c =
    let told = g.F.Files.content c.args.files.now in
    let name = c.args.rules.now in
    let Rises = Rose (g.F.Files.faults c.args.files.now) (g.F.Files.faults c.load_text.new.files) in
    let Comes : Work = OfSyntax told name in
    at-exit (λ (done : Done). Comes (Ends (ended done))) (IsStop Comes Rises NoneRose)
    c.from_residual.result c.in_err-text.field-0.0 c.from_residual.ensures.1
    (IsStop-more (Loading file.Rules told name (Refusing (RefusesText file.Rules))) Comes Rises Rises NoneRose NoneRose
    (λ p came. refused-before told name p (refused-more file.Rules told name (RefusesText file.Rules) RefusesUnnamed text-unnamed p came))
    (as-rose Rises) (as-rose NoneRose) c.in_err-text.field-0.0 c.in_err-text.ensures.loaded)

pub returns-clause-outcome : goal.returns-clause-outcome
returns-clause-outcome g c =
    let told = g.F.Files.content c.args.files.now in
    let name = c.args.rules.now in
    let Rises = Rose (g.F.Files.faults c.args.files.now) (g.F.Files.faults c.load_text.new.files) in
    let source : List ℕ = string_bytes c.in_ok-text.text in
    IsOutcome-more (Printing source) (OfSyntax told name) NoneRose Rises NoneRose NoneRose
    (λ p came. inr (source, c.in_ok-text.ensures.loaded.0, came)) (none-rose Rises) (as-rose NoneRose)
    c.print_text.result (subst (λ (t : List ℕ). IsOutcomeAt (Printing t) c.print_text.result) c.as_str.ensures.value c.print_text.ensures)
