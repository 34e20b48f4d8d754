-- What a filter tries, one candidate after another: the conditions are evaluated in a frame that is entered for each.
use Rattle.std.proofs.Common.{◌≡◌, ℕ, zero, suc, ◌+◌, ◌<◌, ◌≤◌, true, refl, sym, ap, ◌∙◌, subst, arith, List, [], ◌∷◌, ◌++◌, length, take, get_or, Option, Some, Bool, is_some}
use Rattle.std.specs.List.{list_all}
use Rattle.std.specs.Prelude.{option_and_then}
use Rattle.std.proofs.lemmas.Bool.{and_parts}
use Rattle.std.proofs.lemmas.List.{take_all}
use Rattle.evidence_lines.specs.declared.line.LineKind.TheVariants as kind
use Rattle.evidence_lines.specs.declared.line.Outcome.TheVariants as says
use Rattle.guard_syntax.specs.Syntax.{Conds, File, Step}
use Rattle.guard_syntax.specs.declared.row.Ref.{Ref}
use Rattle.guard_syntax.specs.declared.row.Verdict.{Verdict}
use Rattle.rule_names.specs.EnclosingScopes.{home_of}
use Rattle.rule_names.specs.Pieces.{AreInOrder, OfStep, Sited}
use Rattle.rule_meaning.specs.StoreModel.{StoreModel, is_known_ref}
use Rattle.query_steps.proofs.SeenGrowth.{known-before}
use Rattle.evidence_rules.specs.CitedLines.{scope_of_piece, scope_of_step}
use Rattle.evidence_rules.specs.Follows.{SayEach, SaysCandidate, conds_site}
use Rattle.scope_frames.specs.code.Frames.{MayEnter}
use Rattle.scope_frames.proofs.EnteredFrames.{has-frame}
use Rattle.engine_states.specs.code.Answers.{AnswersCandidates, AnswersVerdict, IsFilterWith, StandsIn, above}
use Rattle.engine_states.specs.code.Entered.{Enters, MayHaveValue}
use Rattle.engine_states.specs.code.Falling.{height_at}
use Rattle.engine_states.specs.code.Inside.{AreInside, IsInside, conds_sited, inner_of_step}
use Rattle.engine_states.specs.code.States.{IsWhole, State}
use Rattle.scope_frames.proofs.BodiesApart.{plain-else}
use Rattle.engine_states.proofs.BodyValues.{filter-value}
use Rattle.engine_states.proofs.Evaluating.{Evaluates-none, same-file, same-height}
use Rattle.engine_states.proofs.Finished.{line-there}
use Rattle.engine_states.proofs.InPart.{in-frame, stands-still}
use Rattle.engine_states.proofs.InTurn.{SaidFor, entered-answer}
use Rattle.engine_states.proofs.Insides.{insides}
use Rattle.engine_states.proofs.Lower.{conditions-lower}
use Rattle.engine_states.proofs.Ranks.{rank_in, rank-below}
use Rattle.engine_states.proofs.Standing.{conditions-stand}
use Rattle.engine_states.proofs.VerdictsInTurn.{candidates-next}

pub all-at : {X : Type 0} (p : X → Bool) (xs : List X) (i : ℕ) (x : X) → list_all p xs ≡ true → i < length xs → x ≡ get_or xs i x → p x ≡ true
all-at p [] i x all within is = absurd (omega (arith, within))
all-at p (y ∷ xs) zero x all within is = ap p is ∙ (and_parts _ _ all).0
all-at p (y ∷ xs) (suc i) x all within is = all-at p xs i x (and_parts _ _ all).1 (omega (arith, within)) is

module _ (a : State) (whole : IsWhole a) (frame site : ℕ) (conditions : Conds) (filters : IsFilterWith a frame site conditions) where
  abbrev filter_sited : Sited
  filter_sited = (site, OfStep filters.1.0 filters.1.1)

  abbrev pub CandidatesSoFar : (b : State) → (tried : List Ref) → (i : ℕ) → (numbers : List ℕ) → List Verdict → Type 0
  CandidatesSoFar b tried i numbers verdicts =
      SaidFor a b (height_at a.known.file a.frames frame site) frame numbers
      (λ at. SayEach b.known b.lines (SaysCandidate b.known b.lines at site conditions) (take i tried) numbers verdicts)

  pub candidates-start : (tried : List Ref) (numbers : List ℕ) (verdicts : List Verdict) → numbers ≡ [] → verdicts ≡ [] → CandidatesSoFar a tried 0 numbers verdicts
  candidates-start tried numbers verdicts none no_verdict =
      let line = line-there a whole frame (home_of a.known.file site) filters.1.2.scope_is in
      subst (λ (ns : List ℕ). CandidatesSoFar a tried 0 ns verdicts) (sym none)
      (subst (λ (vs : List Verdict). CandidatesSoFar a tried 0 [] vs) (sym no_verdict)
      (Evaluates-none a (height_at a.known.file a.frames frame site) whole, line.0, line.1, tt))

  pub candidates-end : (b : State) (tried : List Ref) (i : ℕ) (numbers : List ℕ) (verdicts : List Verdict) → length tried ≤ i → CandidatesSoFar b tried i numbers verdicts
      → AnswersCandidates a b frame site conditions tried numbers verdicts
  candidates-end b tried i numbers verdicts past so_far =
      subst (λ (rs : List Ref). SaidFor a b (height_at a.known.file a.frames frame site) frame numbers
      (λ at. SayEach b.known b.lines (SaysCandidate b.known b.lines at site conditions) rs numbers verdicts)) (take_all i tried past) so_far

  module _ (ordered : AreInOrder a.known.file) (b : State) (tried : List Ref) (i : ℕ) (numbers : List ℕ) (verdicts : List Verdict) (so_far : CandidatesSoFar b tried i numbers verdicts) where
    file-now : b.known.file ≡ a.known.file
    file-now = same-file a b so_far.0.grows whole

    ordered-now : AreInOrder b.known.file
    ordered-now = subst (λ (f : File). AreInOrder f) (sym file-now) ordered

    stands-now : StandsIn b frame filter_sited
    stands-now = stands-still a whole frame filter_sited filters.1.2 b (height_at a.known.file a.frames frame site) numbers so_far.0

    -- a frame may be entered for it
    pub candidate-may : MayEnter b.known.file b.frames (Some frame) site
    candidate-may =
        let scope = ap (option_and_then (scope_of_piece b.known.file site)) stands-now.there ∙ ap (scope_of_step b.known.file site) filters.1.3 in
        (stands-now.scope_is, ap is_some scope, plain-else b.known.file ordered-now site (Some (OfStep filters.1.0 filters.1.1)) stands-now.there (λ no_body. no_body))

    pub candidate-value : (v : Ref) → is_known_ref a.known v ≡ true → MayHaveValue b (Some frame) site v
    candidate-value v known =
        let here = has-frame b.known.file b.frames frame (home_of b.known.file site) stands-now.scope_is in
        filter-value b so_far.0.whole frame here.0 here.1 site filters.1.0 filters.1.1 site filters.0 conditions stands-now.there filters.1.3 v
        (subst (λ (k : StoreModel). is_known_ref k v ≡ true) (sym so_far.0.grows.known) (known-before a.known so_far.0.grows.made v known))

    conditions-inside : IsInside b.known.file site (OfStep filters.1.0 filters.1.1) (conds_sited conditions)
    conditions-inside =
        (subst (λ (o : Option Step). AreInside b.known.file site (OfStep filters.1.0 filters.1.1) (inner_of_step o)) filters.1.3
        (insides b.known.file ordered-now site (OfStep filters.1.0 filters.1.1) stands-now.there)).0

    -- in it the conditions stand, and are lower than the filter
    module _ (e : State) (v : Ref) (inner : ℕ) (enters : Enters b e (Some frame) site v inner) where
      pub conditions-there : StandsIn e inner (conds_sited conditions)
      conditions-there =
          conditions-stand b e so_far.0.whole frame (home_of b.known.file site) filter_sited stands-now site v inner enters filters.1.0 filters.1.1 site filters.0 conditions refl filters.1.3
          conditions-inside

      below-now : height_at e.known.file e.frames inner (conds_site conditions) < height_at b.known.file b.frames frame site
      below-now =
          conditions-lower b e so_far.0.whole ordered-now frame (home_of b.known.file site) filter_sited stands-now site v inner enters filters.1.0 filters.1.1 site filters.0 conditions refl
          filters.1.3 conditions-inside

      same-now : height_at b.known.file b.frames frame site ≡ height_at a.known.file a.frames frame site
      same-now = same-height a b so_far.0.grows whole frame site (in-frame a whole frame filter_sited filters.1.2)

      pub candidate-rank : (t : ℕ) → rank_in a frame site 0 ≡ t → rank_in e inner (conds_site conditions) 3 < t
      candidate-rank t owed =
          let low = below-now in
          let same = same-now in
          rank-below a e frame inner site (conds_site conditions) 0 3 t owed (omega (arith, low, same)) (omega arith)

      pub candidate-next : (c : State) (line : ℕ) (w : Verdict) (more : List ℕ) (after : List Verdict) → i < length tried → v ≡ get_or tried i v
          → AnswersVerdict e c inner kind.Conj (conds_site conditions) line w → more ≡ numbers ++ line ∷ [] → after ≡ verdicts ++ w ∷ [] → CandidatesSoFar c tried (i + 1) more after
      candidate-next c line w more after within is it cited judged =
          let low = below-now in
          let same = same-now in
          let entered = entered-answer b e c so_far.0.whole (height_at b.known.file b.frames frame site) (above e inner (conds_site conditions)) frame site v inner enters line
          (conds_site conditions) kind.Conj (says.Verdict w) it (omega (arith, low)) in
          candidates-next tried i v within is a b c whole (height_at a.known.file a.frames frame site) (height_at b.known.file b.frames frame site) frame site line conditions numbers more
          verdicts after w so_far entered (omega (arith, same)) cited judged
