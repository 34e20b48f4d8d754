use Rattle.std.proofs.Common.{◌≡◌, ap, sym, ◌∙◌, subst, IfOk, List, MatchOption, Option, Vec, Global}
use Rattle.std.specs.Prelude.{option_and_then}
use Rattle.guard_syntax.specs.code.Seen.{see_conds}
use Rattle.guard_syntax.specs.declared.row.Ref.{Ref}
use Rattle.guard_syntax.specs.declared.row.Verdict.{Verdict}
use Rattle.rule_meaning.specs.Places.{Placed, candidates_at, placed_of}
use Rattle.query_steps.specs.code.Placed.{FiltersAt, candidates_of_place}
use Rattle.evidence_rules.specs.Follows.{SayEach, SaysCandidate}
use Rattle.evidence_lookups.specs.code.Grounds.{known_of, lines_of}
use Rattle.evidence_rows.proofs.due_rows.verdicts_due.Goals as goal

pub placed_candidates-requires-clause-filter : goal.placed_candidates-requires-clause-filter
placed_candidates-requires-clause-filter c =
    let at = ap (option_and_then placed_of) c.requires.placed ∙ sym c.place_of.ensures in
    subst FiltersAt at c.requires.filter

pub returns : goal.returns
returns c =
    let k = known_of c.args.context.now in
    let lines = lines_of c.args.context.now in
    let Said : List Ref → List Verdict → Type 0 = λ values verdicts. SayEach k lines (SaysCandidate k lines c.args.line.frame c.args.line.site (see_conds c.args.conditions.now)) values c.args.line.cites.now verdicts in
    let at = ap (option_and_then placed_of) c.requires.placed ∙ sym c.place_of.ensures in
    let tried : c.deref.result.now ≡ candidates_at k c.args.line.site c.args.before.now =
    c.deref.ensures.value ∙ c.in_ok-tried.ensures.candidates ∙ sym (ap (λ (o : Option Placed). candidates_of_place k o c.args.before.now) at) in
    subst (λ (values : List Ref). IfOk c.tried_verdicts.result (λ (said : Option (Vec Verdict Global)). MatchOption said ((verdicts : List Verdict) → Said values verdicts → ⊥) (λ (verdicts : Vec Verdict Global). Said values verdicts.items))) tried
    (c.tried_verdicts.ensures k)
