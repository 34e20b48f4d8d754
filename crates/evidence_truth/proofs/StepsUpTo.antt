-- The rows of a query up to one of its steps: those of its first step at the current value, of each further step on the rows up to the one before it, and of the last
-- step those of the query.
use Rattle.std.proofs.Common.{◌≡◌, ℕ, zero, suc, ◌+◌, Bool, true, false, not, refl, sym, ap, ap₂, ◌∙◌, subst, arith, List, Some, is_some}
use Rattle.std.specs.List.{flat_map}
use Rattle.std.proofs.lemmas.Option.{same_Some, none-some}
use Rattle.evidence_lines.specs.declared.line.Line.{Line}
use Rattle.guard_syntax.specs.Syntax.{File, Query, Steps, Step, query, no_steps, more_steps, this, var, key, index, every, items, splice, filter, keys}
use Rattle.rule_names.specs.Depths.{first_steps}
use Rattle.rule_names.specs.Pieces.{OfStep, piece_at, pieces_query, pieces_step, pieces_steps}
use Rattle.rule_names.specs.ReferenceGraph.{step_site}
use Rattle.evidence_rules.specs.CitedLines.{last_step}
use Rattle.rule_meaning.specs.Places.{are_no_steps, is_after_key, is_key, step_in}
use Rattle.rule_meaning.specs.Environments.{Environment}
use Rattle.rule_meaning.specs.Meaning.{Names, rows_at, rows_from}
use Rattle.rule_meaning.specs.StepMeaning.{on_found}
use Rattle.rule_meaning.specs.Locations.{LocatedRow, World}
use Rattle.evidence_rules.specs.code.Judgement.{rows_up_to}
use Rattle.evidence_truth.proofs.PiecesAt.{Each, IsAt, parted}

-- ---- the steps of a query by their sites

module _ (file : File) where
  -- a step of a query
  steps-at : (q : Query) (i j : ℕ) (ss : Steps) (step : Step) → Each (IsAt file) (pieces_steps q i ss) → step_in ss j ≡ Some step
      → (piece_at file (step_site step) ≡ Some (OfStep q (i + j))) × Each (IsAt file) (pieces_step q (i + j) step)
  steps-at q i j no_steps step h e = absurd (none-some step e)
  steps-at q i zero (more_steps s ss) step h e =
      let both = parted (IsAt file) (pieces_step q i s) (pieces_steps q (suc i) ss) h in
      let none : i + 0 ≡ i = omega arith in
      subst (λ (k : ℕ). (piece_at file (step_site step) ≡ Some (OfStep q k)) × Each (IsAt file) (pieces_step q k step)) (sym none)
      (subst (λ (s : Step). (piece_at file (step_site s) ≡ Some (OfStep q i)) × Each (IsAt file) (pieces_step q i s)) (same_Some s step e) (first s both.0, both.0))
    where
      first : (s : Step) → Each (IsAt file) (pieces_step q i s) → piece_at file (step_site s) ≡ Some (OfStep q i)
      first (this n) k = k.0
      first (var n name) k = k.0
      first (key n name) k = k.0
      first (index n at) k = k.0
      first (every n) k = k.0
      first (items n) k = k.0
      first (splice n name) k = k.0
      first (filter n capture c) k = k.0
      first (keys n capture op negated x) k = k.0
  steps-at q i (suc j) (more_steps s ss) step h e =
      let both = parted (IsAt file) (pieces_step q i s) (pieces_steps q (suc i) ss) h in
      let next : i + suc j ≡ suc i + j = omega arith in
      subst (λ (k : ℕ). (piece_at file (step_site step) ≡ Some (OfStep q k)) × Each (IsAt file) (pieces_step q k step)) (sym next) (steps-at q (suc i) j ss step both.1 e)

  pub step-at : (n i : ℕ) (ss : Steps) (step : Step) → Each (IsAt file) (pieces_query (query n ss)) → step_in ss i ≡ Some step
      → (piece_at file (step_site step) ≡ Some (OfStep (query n ss) i)) × Each (IsAt file) (pieces_step (query n ss) i step)
  step-at n i ss step h e =
      let none : 0 + i ≡ i = omega arith in
      subst (λ (k : ℕ). (piece_at file (step_site step) ≡ Some (OfStep (query n ss) k)) × Each (IsAt file) (pieces_step (query n ss) k step)) none (steps-at (query n ss) 0 i ss step h.1 e)

-- ---- rows

last-of-none : (ss : Steps) → are_no_steps ss ≡ not (is_some (step_in ss 0))
last-of-none no_steps = refl
last-of-none (more_steps s ss) = refl

-- what stands before a step, up to it, is as much as it
first-none : (ss : Steps) (i : ℕ) (step : Step) → step_in ss i ≡ Some step → are_no_steps ss ≡ are_no_steps (first_steps i ss)
first-none no_steps i step e = absurd (none-some step e)
first-none (more_steps s ss) zero step e = refl
first-none (more_steps s ss) (suc i) step e = refl

module _ (world : World) (names : Names) (env : Environment) where
  -- a step on rows
  abbrev pub stepped : (last after_key : Bool) → Step → List LocatedRow → List LocatedRow
  stepped last after_key step rows = flat_map (on_found (rows_at world names env last after_key step)) rows

  pub up-to-first : (after_key : Bool) (ss : Steps) (step : Step) (rows : List LocatedRow) → step_in ss 0 ≡ Some step
      → rows_up_to world names env after_key ss 0 rows ≡ stepped (not (is_some (step_in ss 1))) after_key step rows
  up-to-first after_key no_steps step rows e = absurd (none-some step e)
  up-to-first after_key (more_steps s ss) step rows e = ap₂ (λ (last : Bool) (x : Step). stepped last after_key x rows) (last-of-none ss) (same_Some s step e)

  pub up-to-next : (after_key : Bool) (ss : Steps) (i : ℕ) (step : Step) (rows : List LocatedRow) → step_in ss (suc i) ≡ Some step
      → rows_up_to world names env after_key ss (suc i) rows
      ≡ stepped (not (is_some (step_in ss (suc (suc i))))) (is_after_key ss (suc i)) step (rows_up_to world names env after_key ss i rows)
  up-to-next after_key no_steps i step rows e = absurd (none-some step e)
  up-to-next after_key (more_steps s ss) zero step rows e = up-to-first (is_key s) ss step (stepped (are_no_steps ss) after_key s rows) e
  up-to-next after_key (more_steps s ss) (suc i) step rows e = up-to-next (is_key s) ss i step (stepped (are_no_steps ss) after_key s rows) e

  -- those of a query are those up to its last step
  pub last-rows : (file : File) (lines : List Line) (ss : Steps) (step : Step) → last_step file lines ss ≡ Some step
      → (i : ℕ) × (step_in ss i ≡ Some step) × ((after_key : Bool) (rows : List LocatedRow) → rows_up_to world names env after_key ss i rows ≡ rows_from world names env after_key ss rows)
  last-rows file lines no_steps step e = absurd (none-some step e)
  last-rows file lines (more_steps s no_steps) step e = (0, e, λ after_key rows. refl)
  last-rows file lines (more_steps s (more_steps t ss)) step e =
      let behind = last-rows file lines (more_steps t ss) step e in
      (suc behind.0, behind.1, λ after_key rows. behind.2 (is_key s) (stepped false after_key s rows))

  -- up to a step that is the same where it is the last, they are those of the first steps alone
  pub first-rows : (after_key : Bool) (ss : Steps) (i : ℕ) (step : Step) (rows : List LocatedRow) → step_in ss i ≡ Some step
      → ((last after : Bool) → rows_at world names env last after step ≡ rows_at world names env true after step)
      → rows_up_to world names env after_key ss i rows ≡ rows_from world names env after_key (first_steps i ss) rows
  first-rows after_key no_steps i step rows e same = absurd (none-some step e)
  first-rows after_key (more_steps s ss) zero step rows e same =
      ap (λ (x : Step). stepped (are_no_steps ss) after_key x rows) (same_Some s step e)
      ∙ ap (λ f. flat_map (on_found f) rows) (same (are_no_steps ss) after_key)
      ∙ sym (ap (λ (x : Step). stepped true after_key x rows) (same_Some s step e))
  first-rows after_key (more_steps s ss) (suc i) step rows e same =
      ap (λ (last : Bool). rows_up_to world names env (is_key s) ss i (stepped last after_key s rows)) (first-none ss i step e)
      ∙ first-rows (is_key s) ss i step (stepped (are_no_steps (first_steps i ss)) after_key s rows) e same
