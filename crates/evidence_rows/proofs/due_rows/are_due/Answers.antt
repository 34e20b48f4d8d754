use Rattle.std.proofs.Common.{◌≡◌, ap, sym, ◌∙◌, subst, length, List, MatchBool, Option}
use Rattle.std.specs.List.{list_all}
use Rattle.std.specs.Prelude.{option_and_then}
use Rattle.guard_syntax.specs.declared.row.Row.{Row}
use Rattle.rule_meaning.specs.Places.{Placed, placed_of, rows_at_step}
use Rattle.rule_meaning.specs.StoreModel.{is_known}
use Rattle.query_steps.specs.code.Placed.{StartsAt, candidates_of_place, rows_of_place}
use Rattle.evidence_lookups.specs.code.Grounds.{known_of}
use Rattle.evidence_rows.proofs.StepLines.{rows-same}
use Rattle.evidence_rows.proofs.due_rows.are_due.Goals as goal

pub placed_step-requires-clause-start : goal.placed_step-requires-clause-start
placed_step-requires-clause-start c begins =
    let at = ap (option_and_then placed_of) c.requires.placed ∙ sym c.place_of.ensures in
    c.requires.start (subst StartsAt (sym at) begins)

pub placed_step-requires-clause-verdicts : goal.placed_step-requires-clause-verdicts
placed_step-requires-clause-verdicts c =
    let k = known_of c.args.context.now in
    let at = ap (option_and_then placed_of) c.requires.placed ∙ sym c.place_of.ensures in
    c.requires.verdicts ∙ ap (λ (o : Option Placed). length (candidates_of_place k o c.args.input.before.now)) at

pub placed_step-requires-clause-book : goal.placed_step-requires-clause-book
placed_step-requires-clause-book c = c.args.context.now.book_is

pub returns : goal.returns
returns c =
    let k = known_of c.args.context.now in
    let at = ap (option_and_then placed_of) c.requires.placed ∙ sym c.place_of.ensures in
    let due : c.deref.result.now ≡ rows_at_step k c.args.site c.args.input.current c.args.input.before.now c.args.input.further.now c.args.input.verdicts.now =
    c.deref.ensures.value ∙ c.in_ok-due.ensures.rows ∙ sym (ap (λ (o : Option Placed). rows_of_place k o c.args.input.current c.args.input.before.now c.args.input.further.now c.args.input.verdicts.now) at) in
    record {
      due = subst (λ (rows : List Row). MatchBool c.same_rows.result (c.args.rows.now ≡ rows) (c.args.rows.now ≡ rows → ⊥)) due c.same_rows.ensures;
      known = λ same. ap (list_all (is_known k)) (rows-same c.same_rows.result c.args.rows.now c.deref.result.now c.same_rows.ensures same ∙ c.deref.ensures.value) ∙ c.in_ok-due.ensures.known;
    }
