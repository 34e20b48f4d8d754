-- Lines of bodies: a body is judged in a frame of its own, where a value is current, and answers there what it asks for in the frame around; and the loop over the rows of a block.
use Rattle.std.proofs.Common.{◌≡◌, ◌<◌, ◌≤◌, ◌+◌, ◌&&◌, ℕ, zero, suc, Bool, true, false, refl, sym, ap, ◌∙◌, subst, arith, List, [], ◌∷◌, ◌++◌, length, map, take, get_or, Some, None, option_and_then}
use Rattle.std.specs.List.{list_all}
use Rattle.std.proofs.lemmas.Bool.{and_parts}
use Rattle.evidence_lines.specs.declared.line.LineKind.TheVariants as kind
use Rattle.evidence_lines.specs.declared.line.Outcome.TheVariants as says
use Rattle.guard_syntax.specs.Syntax as sx
use Rattle.guard_syntax.specs.Syntax.{File, body}
use Rattle.guard_syntax.specs.code.Seen.{disj_list, let_list, see_body, see_disj, see_let}
use Rattle.guard_syntax.specs.declared.row.Ref.{Ref}
use Rattle.guard_syntax.specs.declared.row.Row.{Row}
use Rattle.guard_syntax.specs.declared.row.Row.TheVariants.{Found, Missing, Unmade}
use Rattle.guard_syntax.specs.declared.row.Verdict.{Verdict}
use Rattle.guard_syntax.specs.declared.row.Verdict.TheVariants.{Fail, Skip}
use Rattle.guard_syntax.specs.declared.syntax.Body.{Body, out-Body}
use Rattle.guard_syntax.specs.declared.syntax.Disj.{Disj}
use Rattle.rule_names.specs.EnclosingScopes.{home_of}
use Rattle.rule_names.specs.Pieces.{OfBody, piece_at}
use Rattle.rule_names.proofs.Shapes.{body-seen}
use Rattle.rule_meaning.specs.StoreModel.{StoreModel, is_known, is_known_ref}
use Rattle.rule_meaning.specs.Verdicts.{block_verdict, is_found, is_pass}
use Rattle.query_steps.proofs.SeenGrowth.{known-before}
use Rattle.evidence_rules.specs.CitedLines.{args_of_piece, body_site, scope_of_piece}
use Rattle.evidence_rules.specs.Follows.{IsBlockBody}
use Rattle.scope_frames.specs.code.Frames.{IsPlain, MayEnter}
use Rattle.scope_frames.specs.code.Scoping.{scope_at}
use Rattle.scope_frames.proofs.EnteredFrames.{has-frame}
use Rattle.engine_states.specs.code.Answers.{AnswersBodies, AnswersBody, AnswersVerdict, IsBodyIn, IsBodyOfRows, IsConjunction, StandsIn, StandsWithin, above}
use Rattle.engine_states.specs.code.Entered.{Enters, MayHaveValue}
use Rattle.engine_states.specs.code.Falling.{height, height_at, load_at, place_of}
use Rattle.engine_states.specs.code.Inside.{body_sited}
use Rattle.engine_states.specs.code.States.{IsWhole, State}
use Rattle.engine_states.proofs.BodyValues.{block-value}
use Rattle.engine_states.proofs.Elements.{some-there}
use Rattle.engine_states.proofs.Evaluating.{Evaluates-none, same-file, same-height}
use Rattle.engine_states.proofs.Finished.{line-there}
use Rattle.engine_states.proofs.InTurn.{SaidFor, entered-answer}
use Rattle.engine_states.proofs.Insides.{body-own}
use Rattle.engine_states.proofs.Ranks.{rank-on, rank_in}
use Rattle.engine_states.proofs.RowsInTurn.{BodiesSaid, bodies-end, bodies-found, bodies-missing, bodies-none, bodies-skipped}
use Rattle.engine_states.proofs.Standing.{entered-load, entered-scope, ruled-stays}
use Rattle.engine_states.proofs.VerdictsAnswered.{body-held, frame-known, stands-still}

-- ---- a body in a frame of its own

pub body-conjoined : (s : State) (frame : ℕ) (b : Body) (ds : List Disj) → ds ≡ (out-Body b).parts.items
    → StandsWithin s frame (body_site (see_body b)) (body_sited (see_body b)) → IsConjunction s frame (out-Body b).site (disj_list (map see_disj ds)) None
body-conjoined s frame b ds are stands =
    let seen : see_body b ≡ body (out-Body b).site (let_list (map see_let (out-Body b).lets.items)) (disj_list (map see_disj ds)) =
    body-seen b ∙ ap (λ (xs : List Disj). body (out-Body b).site (let_list (map see_let (out-Body b).lets.items)) (disj_list (map see_disj xs))) (sym are) in
    body-held s frame (out-Body b).site (let_list (map see_let (out-Body b).lets.items)) (disj_list (map see_disj ds))
    (subst (λ (x : sx.Body). StandsWithin s frame (body_site x) (body_sited x)) seen stands)

-- it may be entered
pub body-enters : (s : State) (frame n : ℕ) (x : sx.Body) (v : Ref) → body_site x ≡ n → IsBodyIn s frame x v
    → MayEnter s.known.file s.frames (Some frame) n × MayHaveValue s (Some frame) n v
body-enters s frame n x v at held =
    let entered : MayEnter s.known.file s.frames (Some frame) (body_site x) = (
      held.0.scope_is,
      some-there (scope_at s.known.file (body_site x)) (body_site x) (ap (option_and_then (scope_of_piece s.known.file (body_site x))) held.0.there),
      held.1,
    ) in (
      subst (λ (m : ℕ). MayEnter s.known.file s.frames (Some frame) m) at entered,
      subst (λ (m : ℕ). MayHaveValue s (Some frame) m v) at held.2,
    )

module _ (a b : State) (whole : IsWhole a) (frame : ℕ) (x : sx.Body) (v : Ref) (inner : ℕ) (stands : StandsIn a frame (body_sited x))
    (enters : Enters a b (Some frame) (body_site x) v inner) where
  inner-load : load_at b.known.file b.frames inner (body_site x) ≡ load_at a.known.file a.frames frame (body_site x)
  inner-load =
      entered-load a b whole frame (home_of a.known.file (body_site x)) (body_sited x) stands (body_site x) v inner enters (ap (option_and_then args_of_piece) stands.there) (body_site x)

  inner-piece : piece_at b.known.file (body_site x) ≡ Some (OfBody x)
  inner-piece = ap (λ (f : File). piece_at f (body_site x)) (same-file a b enters.evaluates.grows whole) ∙ stands.there

  inner-height : height_at b.known.file b.frames inner (body_site x) ≡ height_at a.known.file a.frames frame (body_site x)
  inner-height =
      ap (λ (load : ℕ). height b.known.file load (place_of b.known.file (body_site x) (piece_at b.known.file (body_site x)))) inner-load
      ∙ ap (λ (f : File). height f (load_at a.known.file a.frames frame (body_site x)) (place_of f (body_site x) (piece_at f (body_site x)))) (same-file a b enters.evaluates.grows whole)

  own-body : StandsWithin b inner (body_site x) (body_sited x)
  own-body = record {
    there = inner-piece;
    scope_is = entered-scope b enters.evaluates.whole inner frame (body_site x) (record { parent = Some frame; site = body_site x; current = v }) enters.frame refl refl (body_site x)
        (ap (option_and_then (scope_of_piece b.known.file (body_site x))) inner-piece);
    ruled =
        let load = inner-load in
        ruled-stays a b enters.evaluates.grows whole enters.evaluates.rules (load_at a.known.file a.frames frame (body_site x)) (load_at b.known.file b.frames inner (body_site x))
        (omega (arith, load)) stands.ruled;
  }

module _ (a b : State) (whole : IsWhole a) (frame : ℕ) (x : Body) (v : Ref) (inner : ℕ) (stands : StandsIn a frame (body_sited (see_body x)))
    (entered : Enters a b (Some frame) (out-Body x).site v inner) where
  enters-own : Enters a b (Some frame) (body_site (see_body x)) v inner
  enters-own = subst (λ (m : ℕ). Enters a b (Some frame) m v inner) (sym (body-own x)) entered

  pub inner-asked : (ds : List Disj) → ds ≡ (out-Body x).parts.items → (step next t : ℕ) → rank_in a frame (body_site (see_body x)) step ≡ t → next < step
      → (rank_in b inner (out-Body x).site next < t) × (IsWhole b × IsConjunction b inner (out-Body x).site (disj_list (map see_disj ds)) None)
  inner-asked ds are step next t owed less =
      let same = inner-height a b whole frame (see_body x) v inner stands enters-own in (
        subst (λ (m : ℕ). rank_in b inner m next < t) (body-own x)
            (rank-on a b frame inner (body_site (see_body x)) (body_site (see_body x)) step next t owed (omega (arith, same)) less),
        (entered.evaluates.whole, body-conjoined b inner x ds are (own-body a b whole frame (see_body x) v inner stands enters-own)),
      )

  pub body-answer : (c : State) (line : ℕ) (w : Verdict) → AnswersVerdict b c inner kind.Conj (out-Body x).site line w → AnswersBody a c frame (see_body x) v line w
  body-answer c line w it =
      let same = inner-height a b whole frame (see_body x) v inner stands enters-own in
      entered-answer a b c whole (above a frame (body_site (see_body x))) (above b inner (body_site (see_body x))) frame (body_site (see_body x)) v inner enters-own line
      (body_site (see_body x)) kind.Conj (says.Verdict w) (subst (λ (m : ℕ). AnswersVerdict b c inner kind.Conj m line w) (sym (body-own x)) it) (omega (arith, same))

-- ---- on rows

not-found : (row : Row) → ((v : Ref) → row ≡ Found v → ⊥) → is_found row ≡ false
not-found (Found v) other = absurd (other v refl)
not-found (Missing v step) other = refl
not-found (Unmade call) other = refl

known-at : (k : StoreModel) (rows : List Row) (i : ℕ) (row : Row) → list_all (is_known k) rows ≡ true → i < length rows → row ≡ get_or rows i row → is_known k row ≡ true
known-at k [] i row all within is = absurd (omega (arith, within))
known-at k (r ∷ rows) zero row all within is =
    let both : (is_known k r ≡ true) × (list_all (is_known k) rows ≡ true) = and_parts _ _ all in
    ap (is_known k) is ∙ both.0
known-at k (r ∷ rows) (suc i) row all within is =
    let both : (is_known k r ≡ true) × (list_all (is_known k) rows ≡ true) = and_parts _ _ all in
    known-at k rows i row both.1 (omega (arith, within)) is

pub bodies-begun : (a : State) (whole : IsWhole a) (frame : ℕ) (any : Bool) (x : sx.Body) → StandsIn a frame (body_sited x) → (numbers : List ℕ) → numbers ≡ []
    → SaidFor a a (above a frame (body_site x)) frame numbers (BodiesSaid a any x [] numbers Skip)
bodies-begun a whole frame any x stands numbers none =
    let line = line-there a whole frame (home_of a.known.file (body_site x)) stands.scope_is in
    subst (λ (ns : List ℕ). SaidFor a a (above a frame (body_site x)) frame ns (BodiesSaid a any x [] ns Skip)) (sym none)
    (Evaluates-none a (above a frame (body_site x)) whole, line.0, line.1, bodies-none a any x Skip refl line.0)

pub bodies-done : (a b : State) (frame : ℕ) (any : Bool) (x : sx.Body) (rows : List Row) (i : ℕ) (numbers : List ℕ) (verdict : Verdict) → length rows ≤ i
    → SaidFor a b (above a frame (body_site x)) frame numbers (BodiesSaid b any x (take i rows) numbers verdict) → AnswersBodies a b frame any x rows numbers verdict
bodies-done a b frame any x rows i numbers verdict past it = bodies-end any x rows i a b (above a frame (body_site x)) frame numbers verdict past it

module _ (a b : State) (whole : IsWhole a) (frame : ℕ) (any : Bool) (x : sx.Body) (held : IsBodyOfRows a frame x) (rows : List Row) (known : list_all (is_known a.known) rows ≡ true)
    (i : ℕ) (row : Row) (within : i < length rows) (is : row ≡ get_or rows i row) (numbers : List ℕ) (before : Verdict)
    (so_far : SaidFor a b (above a frame (body_site x)) frame numbers (BodiesSaid b any x (take i rows) numbers before)) where
  pub bodies-missed : ((v : Ref) → row ≡ Found v → ⊥) → (after : Verdict) → after ≡ block_verdict any (before ∷ Fail ∷ [])
      → SaidFor a b (above a frame (body_site x)) frame numbers (BodiesSaid b any x (take (i + 1) rows) numbers after)
  bodies-missed other after both =
      bodies-missing any x rows i row within is a b (above a frame (body_site x)) frame numbers before so_far (not-found row other) after both

  rows-height : height_at b.known.file b.frames frame (body_site x) ≡ height_at a.known.file a.frames frame (body_site x)
  rows-height = same-height a b so_far.0.grows whole frame (body_site x) (frame-known a frame (home_of a.known.file (body_site x)) (body_sited x) held.0)

  module _ (v : Ref) (found : row ≡ Found v) where
    pub bodies-passed : (any && is_pass before) ≡ true → SaidFor a b (above a frame (body_site x)) frame numbers (BodiesSaid b any x (take (i + 1) rows) numbers before)
    bodies-passed decided = bodies-skipped any x rows i row within is a b (above a frame (body_site x)) frame numbers before so_far v found decided

    body-still : StandsIn b frame (body_sited x)
    body-still =
        let now = stands-still a b whole frame (home_of a.known.file (body_site x)) (body_sited x) held.0 (above a frame (body_site x)) numbers so_far.0 in
        subst (λ (f : File). StandsWithin b frame (home_of f (body_site x)) (body_sited x)) (sym (same-file a b so_far.0.grows whole)) now

    value-known : is_known_ref b.known v ≡ true
    value-known =
        let here : is_known_ref a.known v ≡ true = ap (is_known a.known) (sym found) ∙ known-at a.known rows i row known within is in
        ap (λ (k : StoreModel). is_known_ref k v) so_far.0.grows.known ∙ known-before a.known so_far.0.grows.made v here

    pub body-asked : (step next t : ℕ) → rank_in a frame (body_site x) step ≡ t → next < step → (rank_in b frame (body_site x) next < t) × (IsWhole b × IsBodyIn b frame x v)
    body-asked step next t owed less =
        let same = rows-height in
        let it = has-frame b.known.file b.frames frame (home_of b.known.file (body_site x)) body-still.scope_is in
        let block : IsBlockBody b.known b.lines x = subst (λ (k : StoreModel). IsBlockBody k b.lines x) (sym so_far.0.grows.known) held.2 in (
          rank-on a b frame frame (body_site x) (body_site x) step next t owed (omega (arith, same)) less,
          (
            so_far.0.whole,
            (
              body-still,
              subst (λ (f : File). IsPlain f (body_site x)) (sym (same-file a b so_far.0.grows whole)) held.1,
              block-value b so_far.0.whole frame it.0 it.1 x block body-still.there v value-known,
            ),
          ),
        )

    pub bodies-on : (any && is_pass before) ≡ false → (c : State) (number : ℕ) (more : List ℕ) (w after : Verdict) → AnswersBody b c frame x v number w → more ≡ numbers ++ number ∷ []
        → after ≡ block_verdict any (before ∷ w ∷ []) → SaidFor a c (above a frame (body_site x)) frame more (BodiesSaid c any x (take (i + 1) rows) more after)
    bodies-on goes c number more w after it cited both =
        let same = rows-height in
        bodies-found any x rows i row within is a b (above a frame (body_site x)) frame numbers before so_far v found goes c whole (above b frame (body_site x)) number more w after it
        (omega (arith, same)) cited both
