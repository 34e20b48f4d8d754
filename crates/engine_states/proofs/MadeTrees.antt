-- The trees that lines make known are those of answers, each kept at the number of its line: so none is kept at a later number, and rows of an answer that is kept at the
-- next line are known. By the lines in turn, and the cases of one that follows.
use Rattle.std.proofs.Common.{◌≡◌, ℕ, zero, suc, ◌+◌, true, refl, sym, ap, ◌∙◌, subst, inl, inr, arith, List, [], ◌∷◌, ◌++◌, length, length-append, Option, Some, None, slice_get}
use Rattle.std.specs.List.{list_all}
use Rattle.std.proofs.lemmas.Option.{none-some, same_Some}
use Rattle.evidence_lines.specs.Lines.{line_of}
use Rattle.evidence_lines.specs.declared.line.Line.{Line}
use Rattle.evidence_lines.specs.declared.line.LineKind.{LineKind}
use Rattle.evidence_lines.specs.declared.line.LineKind.TheVariants as kind
use Rattle.evidence_lines.specs.declared.line.Outcome.{Outcome}
use Rattle.evidence_lines.specs.declared.line.Outcome.TheVariants as says
use Rattle.evidence_lines.specs.declared.version.Version.{Version}
use Rattle.evidence_lines.specs.declared.version.Version.TheVariants.{Two}
use Rattle.guard_syntax.specs.Syntax.{Expr, Query, Step, found, function, kinds, literal}
use Rattle.guard_syntax.specs.declared.row.Row.{Row}
use Rattle.guard_syntax.specs.declared.row.Row.TheVariants.{Found}
use Rattle.rule_names.specs.Pieces.{OfExpr, OfPart, OfStep, Piece, piece_at}
use Rattle.rule_meaning.specs.Functions.{MadeRow}
use Rattle.rule_meaning.specs.Places.{step_in, steps_in}
use Rattle.rule_meaning.specs.Roots.{literal_ref}
use Rattle.rule_meaning.specs.Seeing.{are_called, grown, is_known_answer, rows_kept, trees_kept}
use Rattle.rule_meaning.specs.StoreModel.{StoreModel, Made, is_known, made_at}
use Rattle.query_steps.proofs.SeenAnswers.{answer-called, answer-known, next-free}
use Rattle.evidence_rules.specs.CitedLines.{IsLine}
use Rattle.evidence_rules.specs.Follows.{Follows, FollowsAtExpr, FollowsAtStep, FollowsIn, FollowsRows, nothing_made}
use Rattle.evidence_rules.specs.code.Judgement.{FollowTo}
use Rattle.evidence_rules.proofs.LinesBehind.{behind-first}
use Rattle.engine_states.specs.code.States.{IsWhole, State}

-- ---- the trees of a line

-- trees are those of some answer, kept at the number behind lines
abbrev IsKept : List Line → List Made → Type 0
IsKept lines more = (answer : List MadeRow) × (more ≡ trees_kept (suc (length lines)) 0 answer)

module _ (known : StoreModel) (lines : List Line) (frame site : ℕ) where
  kept-of-expr : (of : LineKind) (e : Expr) (cites : List ℕ) (rows : List Row) (more : List Made) → FollowsAtExpr known lines frame site of e cites rows more → IsKept lines more
  kept-of-expr kind.Literal (literal n tree) cites rows more h = ([], h.2)
  kept-of-expr kind.Found (found n q) (c ∷ []) rows more h = ([], h.3)
  kept-of-expr kind.Fn (function n name args) cites rows more h = (h.2, h.7)
  kept-of-expr of e cites rows more h = absurd h

  kept-of-rows : (of : LineKind) (piece : Option Piece) (cites : List ℕ) (rows : List Row) (more : List Made) → FollowsRows known lines frame site of piece cites rows more → IsKept lines more
  kept-of-rows of (Some (OfExpr e)) cites rows more h = kept-of-expr of e cites rows more h
  kept-of-rows of (Some (OfStep q i)) cites rows more h = ([], h.1)
  kept-of-rows kind.Types (Some (OfPart (kinds n name conditions inner))) cites rows more h = ([], h.4)
  kept-of-rows of piece cites rows more h = absurd h

  kept-of-line : (version : Version) (of : LineKind) (cites : List ℕ) (outcome : Outcome) (more : List Made) → FollowsIn version known lines frame site of cites outcome more → IsKept lines more
  kept-of-line version kind.Frame cites (says.Value v) more h = ([], h.2)
  kept-of-line version of cites (says.Rows rows) more h = kept-of-rows of (piece_at known.file site) cites rows more h
  kept-of-line version of cites (says.Verdict verdict) more h = ([], h.1)
  kept-of-line version of cites outcome more h = absurd h

follows-kept : (version : Version) (known : StoreModel) (lines : List Line) (line : Line) (more : List Made) → Follows version known lines line more → IsKept lines more
follows-kept version known lines line more follows = elim follows [
  | inl (q, none) ↦ ([], none)
  | inr (frame, site, frame_is, site_is, home, h) ↦ kept-of-line known lines frame site version line.kind line.cites line.outcome more h
]

follows-called : (version : Version) (known : StoreModel) (lines : List Line) (line : Line) (more : List Made) (calls : List ℕ) → length calls ≡ length lines → are_called calls known.made ≡ true
    → Follows version known lines line more → are_called (calls ++ 0 ∷ []) (grown known more).made ≡ true
follows-called version known lines line more calls counted called follows =
    let trees = follows-kept version known lines line more follows in
    ap (λ (ms : List Made). are_called (calls ++ 0 ∷ []) (grown known ms).made) trees.1
    ∙ subst (λ (n : ℕ). are_called (calls ++ 0 ∷ []) (grown known (trees_kept (suc n) 0 trees.0)).made ≡ true) counted (answer-called known calls 0 called trees.0)

-- ---- all lines

-- a number for each line
abbrev pub IsCalled : (many : ℕ) → StoreModel → Type 0
IsCalled many known = (calls : List ℕ) × (length calls ≡ many) × (are_called calls known.made ≡ true)

all-called : (version : Version) (known : StoreModel) (calls : List ℕ) (before lines : List Line) (last : StoreModel) → length calls ≡ length before → are_called calls known.made ≡ true
    → FollowTo version known before lines last → IsCalled (length before + length lines) last
all-called version known calls before [] last counted called same =
    let none : length before ≡ length before + 0 = omega arith in
    (calls, counted ∙ none, ap (λ (k : StoreModel). are_called calls k.made) (sym same) ∙ called)
all-called version known calls before (line ∷ lines) last counted called (more, follows, rest) =
    let longer : length (calls ++ 0 ∷ []) ≡ length (before ++ line ∷ []) = length-append calls (0 ∷ []) ∙ ap (λ (n : ℕ). n + 1) counted ∙ sym (length-append before (line ∷ [])) in
    let it = all-called version (grown known more) (calls ++ 0 ∷ []) (before ++ line ∷ []) lines last longer (follows-called version known before line more calls counted called follows) rest in
    let many : length (before ++ line ∷ []) + length lines ≡ length before + suc (length lines) = omega (arith, length-append before (line ∷ [])) in
    (it.0, it.1 ∙ many, it.2)

module _ (s : State) (whole : IsWhole s) where
  pub called : IsCalled (length s.lines) s.known
  called =
      let none : 0 + length s.lines ≡ length s.lines = omega arith in
      subst (λ (n : ℕ). IsCalled n s.known) none (all-called Two (nothing_made s.known.template s.known.file) [] [] s.lines s.known refl refl whole.follow)

  -- no tree is kept at the next line
  pub none-kept : (row : ℕ) → made_at s.known.made (suc (length s.lines)) row ≡ None
  none-kept row = subst (λ (n : ℕ). made_at s.known.made (suc n) row ≡ None) called.1 (next-free called.0 s.known.made row called.2)

  -- the rows of an answer are known with its trees
  pub kept-known : (answer : List MadeRow) → is_known_answer s.known answer ≡ true
      → list_all (is_known (grown s.known (trees_kept (suc (length s.lines)) 0 answer))) (rows_kept (suc (length s.lines)) 0 answer) ≡ true
  kept-known answer known =
      subst (λ (n : ℕ). list_all (is_known (grown s.known (trees_kept (suc n) 0 answer))) (rows_kept (suc n) 0 answer) ≡ true) called.1 (answer-known s.known called.0 0 called.2 answer known)

-- ---- what the line of a literal says

abbrev SaysRoot : List Row → (site : ℕ) → Type 0
SaysRoot rows site = rows ≡ Found (literal_ref site) ∷ []

module _ (version : Version) (known : StoreModel) (lines : List Line) (frame site : ℕ) where
  root-of-expr : (e : Expr) (cites : List ℕ) (rows : List Row) (more : List Made) → FollowsAtExpr known lines frame site kind.Literal e cites rows more → SaysRoot rows site
  root-of-expr (literal n tree) cites rows more h = h.1
  root-of-expr e cites rows more h = absurd h

  root-of-step : (q : Query) (i : ℕ) (p : Option Step) (cites : List ℕ) (rows : List Row) → FollowsAtStep known lines frame site kind.Literal q i p cites rows → SaysRoot rows site
  root-of-step q i p cites rows h = absurd h

  root-of-rows : (piece : Option Piece) (cites : List ℕ) (rows : List Row) (more : List Made) → FollowsRows known lines frame site kind.Literal piece cites rows more → SaysRoot rows site
  root-of-rows (Some (OfExpr e)) cites rows more h = root-of-expr e cites rows more h
  root-of-rows (Some (OfStep q i)) cites rows more h = root-of-step q i (step_in (steps_in q) i) cites rows h.0
  root-of-rows piece cites rows more h = absurd h

  root-of-line : (of : LineKind) (cites : List ℕ) (outcome : Outcome) (rows : List Row) (more : List Made) → of ≡ kind.Literal → outcome ≡ says.Rows rows
      → FollowsIn version known lines frame site of cites outcome more → SaysRoot rows site
  root-of-line of cites outcome rows more is said h =
      root-of-rows (piece_at known.file site) cites rows more
      (subst (λ (k : LineKind). FollowsIn version known lines frame site k cites (says.Rows rows) more) is
      (subst (λ (o : Outcome). FollowsIn version known lines frame site of cites o more) said h))

root-at : (version : Version) (known : StoreModel) (before lines : List Line) (last : StoreModel) → FollowTo version known before lines last
    → (n : ℕ) (l : Line) (site : ℕ) (rows : List Row) → slice_get lines n ≡ Some l → l.kind ≡ kind.Literal → l.site ≡ Some site → l.outcome ≡ says.Rows rows → SaysRoot rows site
root-at version known before [] last follow n l site rows there kind_is site_is said = absurd (none-some l there)
root-at version known before (line ∷ lines) last (more, follows, rest) zero l site rows there kind_is site_is said = elim follows [
  | inl (is_file, none) ↦ let e : kind.File ≡ kind.Literal = sym is_file.0 ∙ ap (λ (x : Line). x.kind) (same_Some line l there) ∙ kind_is in absurd cc
  | inr (frame, m, frame_is, m_is, home, h) ↦
      let same : line ≡ l = same_Some line l there in
      let at : m ≡ site = same_Some m site (sym m_is ∙ ap (λ (x : Line). x.site) same ∙ site_is) in
      subst (SaysRoot rows) at
      (root-of-line version known before frame m line.kind line.cites line.outcome rows more (ap (λ (x : Line). x.kind) same ∙ kind_is) (ap (λ (x : Line). x.outcome) same ∙ said) h)
]
root-at version known before (line ∷ lines) last (more, follows, rest) (suc n) l site rows there kind_is site_is said =
    root-at version (grown known more) (before ++ line ∷ []) lines last rest n l site rows there kind_is site_is said

pub literal-says : (s : State) → IsWhole s → (number at site : ℕ) (rows : List Row) → IsLine s.lines number kind.Literal at site (says.Rows rows) → rows ≡ Found (literal_ref site) ∷ []
literal-says s whole number at site rows is = by number is.stands
  where
    by : (number : ℕ) → line_of s.lines number ≡ Some is.line → rows ≡ Found (literal_ref site) ∷ []
    by zero stands = absurd (none-some is.line stands)
    by (suc n) stands =
        root-at Two (nothing_made s.known.template s.known.file) [] s.lines s.known whole.follow n is.line site rows (sym (behind-first s.lines n) ∙ stands) is.kind_is is.site_is is.outcome_is
