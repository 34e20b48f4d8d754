use Rattle.std.proofs.Common.{◌≡◌, ◌-◌, [], ◌∷◌, drop, get_or, length, refl, sym, subst, suc, take, arith, ℕ, ◌∙◌}
use Rattle.guard_syntax.specs.code.Seen.{see_query, see_step}
use Rattle.evidence_rules.specs.Follows.{GivesBefore}
use Rattle.evidence_lookups.specs.code.Grounds.{known_of, lines_of}
use Rattle.evidence_lookups.proofs.PartsSeen.{no-step, step-there}
use Rattle.evidence_rows.proofs.StepLines.{before-given, first-of, no-rows-before, no-step-before, uncited-before}
use Rattle.evidence_rows.proofs.step_rows.rows_before.Goals as goal

pub returns-then-index-eq0 : goal.returns-then-index-eq0
returns-then-index-eq0 c =
    let known = known_of c.args.context.now in
    let lines = lines_of c.args.context.now in (
      [],
      refl,
      subst (GivesBefore known lines c.args.line.frame (see_query c.args.query.now) c.args.index []) (sym c.new.ensures)
          (subst (λ (n : ℕ). GivesBefore known lines c.args.line.frame (see_query c.args.query.now) n [] []) (sym c.if-index-eq0.true) (refl, refl)),
    )

pub returns-in_default-get : goal.returns-in_default-get
returns-in_default-get c =
    let known = known_of c.args.context.now in
    let lines = lines_of c.args.context.now in
    λ first last rows parts.
    let more : c.args.index ≡ suc (c.args.index - 1) = omega (arith, c.if-index-eq0.false) in
    no-step-before known lines c.args.line.frame (see_query c.args.query.now) c.args.index (c.args.index - 1) (get_or c.args.line.cites.now 0 0)
    (take (length c.args.line.cites.now - 1) (drop 1 c.args.line.cites.now)) first last rows more (sym (first-of c.args.line.cites.now c.in-len1-up.len_at_least) ∙ parts)
    (no-step c.args.query.now (c.args.index - 1) c.deref.result.now c.deref.ensures.value c.in_default-get.ensures.lookup.3)

pub returns-in_default-given_by_step : goal.returns-in_default-given_by_step
returns-in_default-given_by_step c =
    let known = known_of c.args.context.now in
    let lines = lines_of c.args.context.now in
    λ first last rows parts.
    let more : c.args.index ≡ suc (c.args.index - 1) = omega (arith, c.if-index-eq0.false) in
    no-rows-before known lines c.args.line.frame (see_query c.args.query.now) c.args.index (c.args.index - 1) (get_or c.args.line.cites.now 0 0)
    (take (length c.args.line.cites.now - 1) (drop 1 c.args.line.cites.now)) first last rows (see_step c.in-Some.step.now) more (sym (first-of c.args.line.cites.now c.in-len1-up.len_at_least) ∙ parts)
    (step-there c.args.query.now (c.args.index - 1) c.deref.result.now c.in-Some.step.now c.deref.ensures.value c.in-Some.ensures.lookup.3.0 c.in-Some.ensures.lookup.1)
    c.in_default-given_by_step.ensures

pub returns : goal.returns
returns c =
    let known = known_of c.args.context.now in
    let lines = lines_of c.args.context.now in
    let more : c.args.index ≡ suc (c.args.index - 1) = omega (arith, c.if-index-eq0.false) in (
      get_or c.args.line.cites.now 0 0 ∷ [],
      first-of c.args.line.cites.now c.in-len1-up.len_at_least,
      before-given known lines c.args.line.frame (see_query c.args.query.now) c.args.index (c.args.index - 1) (get_or c.args.line.cites.now 0 0) (see_step c.in-Some.step.now) c.in-Some-given_by_step.rows more
          (step-there c.args.query.now (c.args.index - 1) c.deref.result.now c.in-Some.step.now c.deref.ensures.value c.in-Some.ensures.lookup.3.0 c.in-Some.ensures.lookup.1)
          c.in-Some-given_by_step.ensures,
    )

pub returns-in_default : goal.returns-in_default
returns-in_default c =
    let known = known_of c.args.context.now in
    let lines = lines_of c.args.context.now in
    λ first last rows parts.
    uncited-before known lines c.args.line.frame (see_query c.args.query.now) c.args.index c.args.line.cites.now first last rows c.if-index-eq0.false c.in_default.len_below parts
