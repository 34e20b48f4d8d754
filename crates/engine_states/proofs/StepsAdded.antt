-- The line of a step that may be added: what its rows are made of is there and known, and its line follows.
use Rattle.std.proofs.Common.{◌≡◌, ◌<◌, ℕ, zero, suc, true, false, refl, sym, ap, ap₂, ◌∙◌, subst, slice_get, List, [], ◌∷◌, ◌++◌, length, Option, Some, None, is_some, option_and_then, option_map}
use Rattle.std.specs.Prelude.{not}
use Rattle.std.specs.List.{flat_map, list_all}
use Rattle.std.specs.Option.{option_map_or}
use Rattle.std.proofs.lemmas.Bool.{true≢false}
use Rattle.std.proofs.lemmas.Option.{same_Some, slice_get_within}
use Rattle.evidence_lines.specs.declared.line.LineKind.{LineKind}
use Rattle.evidence_lines.specs.declared.line.LineKind.TheVariants as kind
use Rattle.evidence_lines.specs.declared.line.Outcome.TheVariants as says
use Rattle.guard_syntax.specs.Syntax.{File, Query, Step, every, filter, index, items, key, keys, splice, this, var}
use Rattle.guard_syntax.specs.declared.row.Ref.{Ref}
use Rattle.guard_syntax.specs.declared.row.Row.{Row}
use Rattle.guard_syntax.specs.declared.row.Verdict.{Verdict}
use Rattle.rule_names.specs.EnclosingScopes.{home_of}
use Rattle.rule_names.specs.Pieces.{OfStep, piece_at}
use Rattle.rule_meaning.specs.Keys.{captured_row}
use Rattle.rule_meaning.specs.Places.{IsStartAt, Placed, candidates_at, is_after_key, is_filter, is_first, placed_of, rows_at_step, step_at, step_candidates, step_in, steps_in}
use Rattle.rule_meaning.specs.StoreModel.{StoreModel, is_known, is_known_ref}
use Rattle.evidence_rules.specs.CitedLines.{GivesStep}
use Rattle.evidence_rules.specs.Follows.{GivesBefore, IsLater, SayEach}
use Rattle.scope_frames.specs.code.Frames.{StandsFor}
use Rattle.scope_frames.specs.code.Scoping.{Captures}
use Rattle.scope_frames.specs.declared.frame.Frame.{Frame}
use Rattle.scope_frames.proofs.EnteredFrames.{has-frame}
use Rattle.engine_states.specs.code.Adding.{Adds}
use Rattle.engine_states.specs.code.Answers.{AreJudged, GivesStepAt, HasRows, IsCapturing, IsStepWith, SaysRows, both_cites}
use Rattle.engine_states.specs.code.Kinds.{kind_of_step, own_kind}
use Rattle.engine_states.specs.code.States.{IsWhole, State}
use Rattle.engine_states.proofs.AddsLines.{adds-capture, adds-captured-keys, adds-filter, adds-step}
use Rattle.engine_states.proofs.Finished.{line-there}
use Rattle.engine_states.proofs.KnownLines.{before-known, current-known, further-known, rows-known}
use Rattle.engine_states.proofs.RowsRead.{before-read, cite_of, further-read, step-read}

-- ---- a step where it stands

same-step : (q r : Query) (i j : ℕ) → OfStep q i ≡ OfStep r j → (q ≡ r) × (i ≡ j)
same-step q r i j e = (cc, cc)

module _ (f : File) (site : ℕ) (q : Query) (i : ℕ) (p : Step) (there : piece_at f site ≡ Some (OfStep q i)) (is : step_in (steps_in q) i ≡ Some p) where
  abbrev placed : Placed
  placed = record { step = p; first = is_first i; last = not (is_some (step_in (steps_in q) (suc i))); after_key = is_after_key (steps_in q) i }

  step-placed : step_at f site ≡ Some placed
  step-placed =
      ap (option_and_then placed_of) there
      ∙ ap (option_map (λ (s : Step). record { step = s; first = is_first i; last = not (is_some (step_in (steps_in q) (suc i))); after_key = is_after_key (steps_in q) i })) is

  pub start-first : IsStartAt f site → is_first i ≡ true
  start-first start = sym (ap (λ (o : Option Placed). option_map_or (λ (at : Placed). at.first) o false) step-placed) ∙ start

  pub no-candidates : (known : StoreModel) → known.file ≡ f → (rows : List Row) → is_filter p ≡ false → candidates_at known site rows ≡ []
  no-candidates known same rows other =
      ap (λ (g : File). option_map_or (λ (at : Placed). step_candidates known at rows) (step_at g site) []) same
      ∙ ap (λ (o : Option Placed). option_map_or (λ (at : Placed). step_candidates known at rows) o []) step-placed
      ∙ other-step p other
    where
      other-step : (x : Step) → is_filter x ≡ false
          → step_candidates known (record { step = x; first = is_first i; last = not (is_some (step_in (steps_in q) (suc i))); after_key = is_after_key (steps_in q) i }) rows ≡ []
      other-step (filter n capture conditions) e = absurd (true≢false e)
      other-step (keys n capture op negated right) e = refl
      other-step (this n) e = refl
      other-step (var n name) e = refl
      other-step (key n name) e = refl
      other-step (index n at) e = refl
      other-step (every n) e = refl
      other-step (items n) e = refl
      other-step (splice n name) e = refl

-- its frame
module _ (s : State) (frame scope : ℕ) (stands : StandsFor s.known.file s.frames frame scope) where
  pub frame-within : frame < length s.frames
  frame-within = let it = has-frame s.known.file s.frames frame scope stands in slice_get_within s.frames frame it.0 it.1

  pub current-is : (v : Ref) → option_map (λ (f : Frame). f.current) (slice_get s.frames frame) ≡ Some v → (here : Frame) × (slice_get s.frames frame ≡ Some here) × (v ≡ here.current)
  current-is v given =
      let it = has-frame s.known.file s.frames frame scope stands in
      (it.0, it.1, same_Some v it.0.current (sym given ∙ ap (option_map (λ (f : Frame). f.current)) it.1))

  pub current-there : IsWhole s → (v : Ref) → option_map (λ (f : Frame). f.current) (slice_get s.frames frame) ≡ Some v → is_known_ref s.known v ≡ true
  current-there whole v given =
      let it = current-is v given in
      ap (is_known_ref s.known) it.2 ∙ current-known s whole frame it.0 it.1

-- ---- a step that is no filter

module _ (s : State) (whole : IsWhole s) (frame site : ℕ) (of : LineKind) (before further : Option ℕ) (step : IsStepWith s frame site of before further) where
  not-filter : (p : Step) → kind_of_step p ≡ of → (of ≡ kind.Filter → ⊥) → is_filter p ≡ false
  not-filter (filter n capture conditions) is other = absurd (other (sym is))
  not-filter (keys n capture op negated right) is other = refl
  not-filter (this n) is other = refl
  not-filter (var n name) is other = refl
  not-filter (key n name) is other = refl
  not-filter (index n i) is other = refl
  not-filter (every n) is other = refl
  not-filter (items n) is other = refl
  not-filter (splice n name) is other = refl

  other : is_filter step.0 ≡ false
  other = not-filter step.0 step.5 step.6

  pub kind-is : own_kind (piece_at s.known.file site) ≡ Some of
  kind-is = ap own_kind step.3.there ∙ ap (option_map kind_of_step) step.4 ∙ ap Some step.5

  pub step-frame : frame < length s.frames
  step-frame = frame-within s frame (home_of s.known.file site) step.3.scope_is

  -- the rows of the step before it, and those of what it names further
  abbrev pub before-rows : (rows : List Row) × HasRows s.lines before rows
  before-rows = let it = before-read s frame step.1 step.2 before step.7 in (it.0, it.1)

  abbrev pub further-rows : (rows : List Row) × HasRows s.lines further rows
  further-rows = (step.8.0, (further-read s frame step.0 further step.8.0 step.8.1).0)

  pub before-there : list_all (is_known s.known) before-rows.0 ≡ true
  before-there =
      let it = before-read s frame step.1 step.2 before step.7 in
      let line = line-there s whole frame (home_of s.known.file site) step.3.scope_is in
      before-known s whole line.0 step.1 step.2 (cite_of before) it.0 (it.2 line.0 line.1)

  pub further-there : list_all (is_known s.known) further-rows.0 ≡ true
  further-there =
      let line = line-there s whole frame (home_of s.known.file site) step.3.scope_is in
      further-known s whole line.0 step.0 (cite_of further) step.8.0 ((further-read s frame step.0 further step.8.0 step.8.1).1 line.0 line.1)

  -- a start has none before it
  pub none-before : IsStartAt s.known.file site → before-rows.0 ≡ []
  none-before start =
      let it = before-read s frame step.1 step.2 before step.7 in
      let line = line-there s whole frame (home_of s.known.file site) step.3.scope_is in
      by line.0 step.2 it.0 (start-first s.known.file site step.1 step.2 step.0 step.3.there step.4 start) (it.2 line.0 line.1)
    where
      by : (at i : ℕ) (rows : List Row) → is_first i ≡ true → GivesBefore s.known s.lines at step.1 i (cite_of before) rows → rows ≡ []
      by at zero rows first gives = gives.1
      by at (suc i) rows first gives = absurd (true≢false (sym first))

  pub none-tried : (rows : List Row) → candidates_at s.known site rows ≡ []
  none-tried rows = no-candidates s.known.file site step.1 step.2 step.0 step.3.there step.4 s.known refl rows other

  cites-of : (first last : Option ℕ) → both_cites first last ≡ cite_of first ++ cite_of last
  cites-of None None = refl
  cites-of None (Some d) = refl
  cites-of (Some c) None = refl
  cites-of (Some c) (Some d) = refl

  pub step-adds : (v : Ref) → option_map (λ (f : Frame). f.current) (slice_get s.frames frame) ≡ Some v → (cites : List ℕ) → cites ≡ both_cites before further
      → (rows : List Row) → rows ≡ rows_at_step s.known site v before-rows.0 further-rows.0 [] → list_all (is_known s.known) rows ≡ true → Adds s frame site of cites (says.Rows rows)
  step-adds v given cites are rows is known =
      let line = line-there s whole frame (home_of s.known.file site) step.3.scope_is in
      let here = current-is s frame (home_of s.known.file site) step.3.scope_is v given in
      let earlier = before-read s frame step.1 step.2 before step.7 in
      let later = further-read s frame step.0 further step.8.0 step.8.1 in
      subst (λ (k : LineKind). Adds s frame site k cites (says.Rows rows)) step.5
      (adds-step s whole frame line.0 site line.1 step.3.scope_is here.0 here.1 step.1 step.2 step.0 step.3.there step.4 other (cite_of before) (cite_of further) earlier.0 step.8.0
      (earlier.2 line.0 line.1) (later.1 line.0 line.1) cites (are ∙ cites-of before further) rows
      (is ∙ ap (λ (u : Ref). rows_at_step s.known site u earlier.0 step.8.0 []) here.2) known)

-- ---- a filter

each-many : (known : StoreModel) (lines : List _) (Says : Ref → (number : ℕ) → Verdict → Type 0) (values : List Ref) (cites : List ℕ) (verdicts : List Verdict)
    → SayEach known lines Says values cites verdicts → length verdicts ≡ length values
each-many known lines Says [] [] [] say = refl
each-many known lines Says (v ∷ vs) (c ∷ cs) (w ∷ ws) say = ap suc (each-many known lines Says vs cs ws say.1)
each-many known lines Says values cites verdicts say = absurd say

module _ (s : State) (whole : IsWhole s) (frame site before : ℕ) (numbers : List ℕ) (verdicts : List Verdict) (judged : AreJudged s frame site before numbers verdicts) where
  filter-piece : piece_at s.known.file site ≡ Some (OfStep judged.1.1.0 judged.1.1.1)
  filter-piece = judged.1.1.2.there

  same-place : (judged.1.1.0 ≡ judged.3.0) × (judged.1.1.1 ≡ suc judged.3.1)
  same-place = same-step judged.1.1.0 judged.3.0 judged.1.1.1 (suc judged.3.1) (same_Some (OfStep judged.1.1.0 judged.1.1.1) (OfStep judged.3.0 (suc judged.3.1)) (sym filter-piece ∙ judged.3.3))

  pub filter-kind : own_kind (piece_at s.known.file site) ≡ Some kind.Filter
  filter-kind = ap own_kind filter-piece ∙ ap (option_map kind_of_step) judged.1.1.3

  pub filter-frame : frame < length s.frames
  filter-frame = frame-within s frame (home_of s.known.file site) judged.1.1.2.scope_is

  -- the rows of the step before it
  abbrev pub filter-rows : (rows : List Row) × SaysRows s.lines before rows
  filter-rows = (judged.2, step-read s.known.file s.lines judged.3.5 judged.3.2 before judged.2 judged.3.7)

  pub filter-known : list_all (is_known s.known) judged.2 ≡ true
  filter-known = let it = filter-rows.1 in rows-known s whole before it.1 it.2 it.0 judged.2 it.3

  pub filter-later : IsStartAt s.known.file site → judged.2 ≡ []
  filter-later start =
      absurd (true≢false (sym (sym (ap is_first same-place.1) ∙ start-first s.known.file site judged.1.1.0 judged.1.1.1 (filter site judged.1.0 judged.0) filter-piece judged.1.1.3 start)))

  pub filter-tried : length verdicts ≡ length (candidates_at s.known site judged.2)
  filter-tried = each-many s.known s.lines _ (candidates_at s.known site judged.2) numbers verdicts judged.4.2

  pub filter-adds : (v : Ref) → option_map (λ (f : Frame). f.current) (slice_get s.frames frame) ≡ Some v → (cites : List ℕ) → cites ≡ before ∷ numbers
      → (rows : List Row) → rows ≡ rows_at_step s.known site v judged.2 [] verdicts → list_all (is_known s.known) rows ≡ true → Adds s frame site kind.Filter cites (says.Rows rows)
  filter-adds v given cites are rows is known =
      let here = current-is s frame (home_of s.known.file site) judged.1.1.2.scope_is v given in
      let at : judged.3.5 ≡ judged.4.0 = same_Some judged.3.5 judged.4.0 (sym judged.3.6 ∙ judged.4.1) in
      let gives : GivesStep s.known.file s.lines judged.4.0 judged.3.2 before judged.2 = subst (λ (n : ℕ). GivesStep s.known.file s.lines n judged.3.2 before judged.2) at judged.3.7 in
      let gives_before : GivesBefore s.known s.lines judged.4.0 judged.1.1.0 judged.1.1.1 (before ∷ []) judged.2 =
      subst (λ (n : ℕ). GivesBefore s.known s.lines judged.4.0 judged.1.1.0 n (before ∷ []) judged.2) (sym same-place.1)
      (judged.3.2, ap (λ (x : Query). step_in (steps_in x) judged.3.1) same-place.0 ∙ judged.3.4, gives) in
      adds-filter s whole frame judged.4.0 site judged.4.1 judged.1.1.2.scope_is here.0 here.1 judged.1.1.0 judged.1.1.1 site judged.1.0 judged.0 filter-piece judged.1.1.3
      (subst IsLater (sym same-place.1) tt) (before ∷ []) numbers judged.2 verdicts gives_before judged.4.2 cites are rows
      (is ∙ ap (λ (u : Ref). rows_at_step s.known site u judged.2 [] verdicts) here.2) known

-- ---- what a step captures

module _ (s : State) (whole : IsWhole s) (frame site line : ℕ) (stands : IsCapturing s frame site) (step : GivesStepAt s frame site line) where
  -- the rows of the step
  abbrev pub captured-rows : (rows : List Row) × SaysRows s.lines line rows
  captured-rows = (step.7, step-read s.known.file s.lines step.5 step.2 line step.7 step.8)

  pub captured-known : list_all (is_known s.known) step.7 ≡ true
  captured-known = let it = captured-rows.1 in rows-known s whole line it.1 it.2 it.0 step.7 it.3

  same-captured : (stands.0 ≡ step.0) × (stands.1 ≡ step.1)
  same-captured = same-step stands.0 step.0 stands.1 step.1 (same_Some (OfStep stands.0 stands.1) (OfStep step.0 step.1) (sym stands.2.there ∙ step.3))

  captures : Captures (Some step.2)
  captures =
      subst Captures (ap₂ (λ (x : Query) (n : ℕ). step_in (steps_in x) n) same-captured.0 same-captured.1 ∙ step.4) stands.3

  pub capture-adds : (cites : List ℕ) → cites ≡ line ∷ [] → (rows : List Row) → rows ≡ flat_map (captured_row s.known) step.7 → list_all (is_known s.known) rows ≡ true
      → Adds s frame site kind.Capture cites (says.Rows rows)
  capture-adds cites are rows is known =
      subst (λ (cs : List ℕ). Adds s frame site kind.Capture cs (says.Rows rows)) (sym are) (by step.2 captures step.4 step.8)
    where
      by : (p : Step) → Captures (Some p) → step_in (steps_in step.0) step.1 ≡ Some p → GivesStep s.known.file s.lines step.5 p line step.7
          → Adds s frame site kind.Capture (line ∷ []) (says.Rows rows)
      by (filter n (Some name) conditions) has there gives =
          adds-capture s whole frame step.5 site step.6 stands.2.scope_is step.0 step.1 n (Some name) conditions step.3 there line step.7 gives rows is known
      by (keys n (Some name) op negated right) has there gives =
          adds-captured-keys s whole frame step.5 site step.6 stands.2.scope_is step.0 step.1 n (Some name) op negated right step.3 there line step.7 gives rows is known
      by p has there gives = absurd has
