-- Which steps of a query have lines: where one is found, it is the line of that step; and going down one by one, those behind have none.
use Rattle.std.proofs.Common.{◌≡◌, ℕ, suc, ◌≤◌, refl, sym, ap, ◌∙◌, subst, inl, inr, arith, Some, None, option_map}
use Rattle.std.proofs.lemmas.Bool.{cases_lt}
use Rattle.std.proofs.lemmas.Option.{same_Some}
use Rattle.evidence_lines.specs.Shapes.{sort_of}
use Rattle.evidence_lines.specs.declared.line.Sort.TheVariants as sort
use Rattle.guard_syntax.specs.Syntax.{Query, Step, every, filter, index, items, key, keys, splice, this, var}
use Rattle.guard_syntax.specs.code.Seen.{see_step}
use Rattle.guard_syntax.specs.declared.syntax.Step as item
use Rattle.rule_names.specs.Pieces.{AreInOrder, OfQuery, piece_at}
use Rattle.rule_names.specs.ReferenceGraph.{step_site}
use Rattle.rule_names.specs.Uses.{query_site}
use Rattle.rule_meaning.specs.Places.{step_in, steps_in}
use Rattle.engine_states.specs.code.Answers.{GivesStepBefore, LacksStep, StandsUpTo}
use Rattle.engine_states.specs.code.Kinds.{kind_of_step, own_kind}
use Rattle.engine_states.specs.code.States.{IsWhole, State}
use Rattle.engine_states.proofs.Insides.{step-own}
use Rattle.engine_states.proofs.Shaped.{found-rows}
use Rattle.engine_states.proofs.SitesOwn.{query-of-step}
use Rattle.engine_states.proofs.StepsAnswered.{step-gives}
use Rattle.engine_states.proofs.StepsInTurn.{step-inside}

says-rows : (p : Step) → sort_of (kind_of_step p) ≡ sort.Rows
says-rows (this n) = refl
says-rows (var n name) = refl
says-rows (key n name) = refl
says-rows (index n i) = refl
says-rows (every n) = refl
says-rows (items n) = refl
says-rows (splice n name) = refl
says-rows (filter n capture c) = refl
says-rows (keys n capture op negated e) = refl

module _ (s : State) (frame : ℕ) (q : Query) (j : ℕ) (st : item.Step) (is : step_in (steps_in q) j ≡ Some (see_step st)) where
  -- the line of a step
  pub begun-found : IsWhole s → AreInOrder s.known.file → (last : ℕ) → StandsUpTo s frame q last → (line : ℕ) → s.parts frame st.site ≡ Some line → GivesStepBefore s frame q (suc j) (Some line)
  begun-found whole ordered last stands line found =
      let asking : piece_at s.known.file (query_site q) ≡ Some (OfQuery q) = query-of-step s.known.file (step_site stands.0) ordered q last stands.2.there in
      let there = (step-inside s.known.file ordered q asking j (see_step st) is).there in
      let at_site : s.parts frame (step_site (see_step st)) ≡ Some line = ap (s.parts frame) (step-own st) ∙ found in
      let it = found-rows s whole frame (step_site (see_step st)) line (kind_of_step (see_step st)) (says-rows (see_step st)) at_site
      (ap own_kind there ∙ ap (option_map kind_of_step) is) in
      (see_step st, is, it.0, it.2, it.1, step-gives s.known.file s.lines it.0 line (see_step st) it.1 it.3)

  -- one that has none
  lacks-one : s.parts frame st.site ≡ None → LacksStep s frame q j
  lacks-one none p also =
      let same : step_site p ≡ st.site = ap step_site (same_Some p (see_step st) (sym also ∙ is)) ∙ step-own st in
      ap (s.parts frame) same ∙ none

  pub lacks-more : s.parts frame st.site ≡ None → (most last : ℕ) → most ≡ suc j → ((i : ℕ) → most ≤ i → i ≤ last → LacksStep s frame q i) → (i : ℕ) → j ≤ i → i ≤ last → LacksStep s frame q i
  lacks-more none most last next new i past within = elim (cases_lt j i) [
    | inl behind ↦ new i (omega (arith, next, behind)) within
    | inr before ↦
        let same : j ≡ i = omega (arith, past, before) in
        subst (LacksStep s frame q) same (lacks-one none)
  ]
