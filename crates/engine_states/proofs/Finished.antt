-- A part that was found, or whose line was added at the end: what its evaluation answers. And what its line asks for, by what follows in its frame.
use Rattle.std.proofs.Common.{◌≡◌, ◌⊎◌, ◌<◌, ◌≤◌, ℕ, true, refl, sym, ap, ◌∙◌, subst, inr, arith, slice_get, List, [], ◌∷◌, ◌++◌, length, Contains, Some}
use Rattle.evidence_lines.specs.Shapes.{sort_of}
use Rattle.evidence_lines.specs.declared.line.Line.{Line}
use Rattle.evidence_lines.specs.declared.line.LineKind.{LineKind}
use Rattle.evidence_lines.specs.declared.line.Outcome.{Outcome}
use Rattle.evidence_lines.specs.declared.line.Outcome.TheVariants as says
use Rattle.evidence_lines.specs.declared.line.Sort.TheVariants as sort
use Rattle.evidence_lines.specs.declared.version.Version.TheVariants.{Two}
use Rattle.guard_syntax.specs.declared.row.Row.{Row}
use Rattle.guard_syntax.specs.declared.row.Verdict.{Verdict}
use Rattle.rule_names.specs.Pieces.{Sited, piece_at}
use Rattle.evidence_rules.specs.CitedLines.{IsLine}
use Rattle.evidence_rules.specs.Follows.{FollowsIn, home_for}
use Rattle.scope_frames.specs.code.Frames.{StandsFor}
use Rattle.scope_frames.proofs.EnteredFrames.{has-frame}
use Rattle.engine_states.specs.code.Adding.{Added, Adds, line_for}
use Rattle.engine_states.specs.code.Answers.{Answers, AnswersRows, AnswersVerdict, StandsWithin, above}
use Rattle.engine_states.specs.code.Evaluated.{Evaluates}
use Rattle.engine_states.specs.code.Kinds.{own_kind}
use Rattle.engine_states.specs.code.States.{IsWhole, State, is_known_outcome}
use Rattle.engine_states.proofs.Elements.{none-among}
use Rattle.engine_states.proofs.Evaluating.{Evaluates-added, Evaluates-found, Evaluates-none, same-file}
use Rattle.engine_states.proofs.FramesSaid.{stands-said}
use Rattle.engine_states.proofs.SaidStays.{IsLine-pushed, kept-ahead}
use Rattle.engine_states.proofs.Shaped.{found-rows, found-verdict}

-- the frame of a part has a line
module _ (s : State) (whole : IsWhole s) (frame scope : ℕ) (stands : StandsFor s.known.file s.frames frame scope) where
  pub line-there : (at : ℕ) × (slice_get s.framed frame ≡ Some at)
  line-there =
      let it = has-frame s.known.file s.frames frame scope stands in
      let line = whole.framed frame it.0 it.1 in
      (line.0, line.1)

  -- a line follows in it
  pub adds-in : (site : ℕ) (of : LineKind) (cites : List ℕ) (outcome : Outcome) → home_for s.known.file of site ≡ scope → is_known_outcome s.known outcome ≡ true
      → ((at : ℕ) → slice_get s.framed frame ≡ Some at → FollowsIn Two s.known s.lines at site of cites outcome []) → Adds s frame site of cites outcome
  adds-in site of cites outcome home known follows =
      let line = line-there in
      record {
        at = line.0;
        framed = line.1;
        known = known;
        follows = inr (
          line.0,
          site,
          refl,
          refl,
          stands-said s.known.file s.lines s.framed s.frames whole.framed frame line.0 scope stands line.1 ∙ ap Some (sym home),
          follows line.0 line.1,
        );
      }

-- a part that was evaluated before
module _ (s : State) (whole : IsWhole s) (frame scope : ℕ) (part : Sited) (stands : StandsWithin s frame scope part) (number : ℕ) (of : LineKind)
    (found : s.parts frame part.0 ≡ Some number) (kind_is : own_kind (Some part.1) ≡ Some of) where
  kind-there : own_kind (piece_at s.known.file part.0) ≡ Some of
  kind-there = ap own_kind stands.there ∙ kind_is

  pub found-rows-answer : sort_of of ≡ sort.Rows → AnswersRows s s frame of part.0 number
  found-rows-answer rows =
      let it = found-rows s whole frame part.0 number of rows found kind-there in
      record { evaluates = Evaluates-found s (above s frame part.0) number whole; at = it.0; framed = it.2; says = (it.1, it.3) }

  pub found-verdict-answer : sort_of of ≡ sort.Verdict → (verdict : Verdict) × AnswersVerdict s s frame of part.0 number verdict
  found-verdict-answer verdict =
      let it = found-verdict s whole frame part.0 number of verdict found kind-there in
      (it.1, record { evaluates = Evaluates-found s (above s frame part.0) number whole; at = it.0; framed = it.2; says = it.3 })

-- a line that was added
module _ (b c : State) (frame site number : ℕ) (of : LineKind) (cites : List ℕ) (outcome : Outcome) (added : Added b c frame site of cites outcome number) where
  pub added-line : IsLine c.lines number of added.at site outcome
  added-line =
      subst (λ (ls : List Line). IsLine ls number of added.at site outcome) (sym added.lines)
      (subst (λ (n : ℕ). IsLine (b.lines ++ line_for added.at site of cites outcome ∷ []) n of added.at site outcome) (sym added.number_is)
      (IsLine-pushed b.lines (line_for added.at site of cites outcome) of added.at site outcome refl refl refl refl))

  pub added-frame : slice_get c.framed frame ≡ Some added.at
  added-frame = ap (λ ns. slice_get ns frame) added.grows.framed ∙ kept-ahead b.framed added.grows.more_framed frame added.at added.framed

-- a part whose line was added, behind what was evaluated for it
module _ (a b c : State) (whole : IsWhole a) (frame scope : ℕ) (part : Sited) (stands : StandsWithin a frame scope part) (of : LineKind) (cites : List ℕ) (outcome : Outcome)
    (number bound : ℕ) (numbers : List ℕ) (kind_is : own_kind (Some part.1) ≡ Some of) (no_more : bound ≤ above a frame part.0) (it : Evaluates a b bound numbers)
    (added : Added b c frame part.0 of cites outcome number) (names : (n : ℕ) → length a.lines < n → Contains numbers n → Contains cites n ⊎ (added.at ≡ n)) where
  pub kind-later : own_kind (piece_at b.known.file part.0) ≡ Some of
  kind-later = ap (λ f. own_kind (piece_at f part.0)) (same-file a b it.grows whole) ∙ ap own_kind stands.there ∙ kind_is

  pub added-answer : Answers a c (above a frame part.0) frame number (λ at. IsLine c.lines number of at part.0 outcome)
  added-answer = record {
    evaluates = Evaluates-added a b c whole bound frame part.0 number of cites outcome numbers no_more kind-later it added names;
    at = added.at;
    framed = added-frame b c frame part.0 number of cites outcome added;
    says = added-line b c frame part.0 number of cites outcome added;
  }

-- one for which nothing had to be evaluated
pub leaf-answer : (a c : State) → IsWhole a → (frame scope : ℕ) (part : Sited) → StandsWithin a frame scope part → (of : LineKind) (cites : List ℕ) (outcome : Outcome) (number : ℕ)
    → own_kind (Some part.1) ≡ Some of → Added a c frame part.0 of cites outcome number
    → Answers a c (above a frame part.0) frame number (λ at. IsLine c.lines number of at part.0 outcome)
leaf-answer a c whole frame scope part stands of cites outcome number kind_is added =
    added-answer a a c whole frame scope part stands of cites outcome number 0 [] kind_is (omega arith) (Evaluates-none a 0 whole) added (λ n behind among. absurd (none-among n among))

-- a line that says rows
pub rows-told : (a c : State) (frame site number : ℕ) (of : LineKind) (rows : List Row)
    → Answers a c (above a frame site) frame number (λ at. IsLine c.lines number of at site (says.Rows rows)) → AnswersRows a c frame of site number
rows-told a c frame site number of rows it = record { evaluates = it.evaluates; at = it.at; framed = it.framed; says = (rows, it.says) }
