use Rattle.std.proofs.Common.{inl, inr, ap, refl, ◌∙◌}
use Rattle.doc_values.specs.Limits.{rules_limit}
use Rattle.guard_syntax.specs.code.Seen.{see_file}
use Rattle.guard_ends.specs.Inputs.{HasSyntax, IsText, RefusesUnnamed}
use Rattle.guard_ends.specs.Order.{Ends, Printing, Refusing, written}
use Rattle.guard_inputs.specs.code.Stops.{IsStop, NoneRose}
use Rattle.guard_inputs.proofs.Stopping.{IsStop-more, as-rose, at-exit}
use Rattle.guard_run.specs.code.Outcome.{ended}
use Rattle.guard_run.specs.declared.done.Done.{Done}
use Rattle.guard_run.proofs.parse_tree.print_text.Goals as goal

pub returns-in_err-raw : goal.returns-in_err-raw
returns-in_err-raw c =
    let text = c.args.text.now in
    at-exit (λ (done : Done). Printing text (Ends (ended done))) (IsStop (Printing text) NoneRose NoneRose)
    c.from_residual.result c.in_err-raw.field-0.0 c.from_residual.ensures.1
    (IsStop-more (Refusing RefusesUnnamed text) (Printing text) NoneRose NoneRose NoneRose NoneRose
    (λ p refused. inl refused) (as-rose NoneRose) (as-rose NoneRose) c.in_err-raw.field-0.0 c.in_err-raw.ensures)

pub returns : goal.returns
returns c =
    let text : IsText rules_limit c.args.text.now = record { within = c.requires; utf8 = c.utf8.text } in
    let syntax : HasSyntax c.args.text.now (see_file c.in_ok-raw.raw) = record { text = text; read = c.in_ok-raw.ensures } in
    inr (
      see_file c.in_ok-raw.raw,
      syntax,
      (ended c.passed.result, c.passed.ensures ∙ ap written c.in_ok-printed.ensures, refl),
    )
