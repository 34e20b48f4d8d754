-- Lines that are held stay the same behind which others are held: by their spans, which lie before what is new.
use Rattle.std.proofs.Common.{◌≡◌, ◌<◌, ◌≤◌, ℕ, zero, suc, refl, sym, ap, ap₂, ◌∙◌, subst, arith, List, [], ◌∷◌, ◌++◌, length, length-append, map, take, drop, slice_get, Option, Some, Result, Ok, Err, OnErr}
use Rattle.std.specs.Prelude.{option_and_then, All}
use Rattle.std.proofs.lemmas.List.{drop-append-le, length-drop, map-append, take-append-le}
use Rattle.std.proofs.lemmas.List.Elements.{All-append, All-cons, All-head, All-nil, All-tail, All-weaker}
use Rattle.std.proofs.Math.Seq.{drop-append_seam, take-length}
use Rattle.guard_syntax.specs.declared.row.Ref.{Ref}
use Rattle.guard_syntax.specs.declared.row.Row.{Row}
use Rattle.guard_syntax.specs.declared.row.Row.TheVariants.{Found}
use Rattle.evidence_lines.specs.code.Held.{HasPlace, HasRows, HasSpan, IsCut, IsHeld, IsRun, IsWithin, cut_run, cut_span, frame_at, outcome_at, see_line, see_lines, site_at, span_at, span_in, value_in}
use Rattle.evidence_lines.specs.code.RowsSeen.{node_row}
use Rattle.evidence_lines.specs.declared.held.Held.{Held}
use Rattle.evidence_lines.specs.declared.held.HeldLine.{HeldLine}
use Rattle.evidence_lines.specs.declared.held.Place.{Place}
use Rattle.evidence_lines.specs.declared.held.PlaceForm.{PlaceForm}
use Rattle.evidence_lines.specs.declared.held.PlaceForm.TheVariants as place
use Rattle.evidence_lines.specs.declared.held.RunForm.{RunForm}
use Rattle.evidence_lines.specs.declared.held.RunForm.TheVariants as run
use Rattle.evidence_lines.specs.declared.held.SaidForm.{SaidForm}
use Rattle.evidence_lines.specs.declared.held.SaidForm.TheVariants as said
use Rattle.evidence_lines.specs.declared.held.Span.{Span}
use Rattle.evidence_lines.specs.declared.line.Line.{Line}
use Rattle.evidence_lines.specs.declared.line.LineKind.{LineKind}
use Rattle.evidence_lines.specs.declared.line.Outcome.{Outcome}
use Rattle.evidence_lines.specs.declared.line.Outcome.TheVariants as says

pub on-err : {A E : Type 0} (r : Result A E) (P : Type 0) → P → OnErr r P
on-err (Ok x) P p = tt
on-err (Err e) P p = p

-- ---- spans

pub cut-more : {A : Type 0} (xs more : List A) (span : Span) → IsCut (length xs) span → cut_span (xs ++ more) span ≡ cut_span xs span
cut-more xs more span within =
    let start : span.start ≤ length xs = omega (arith, within) in
    let left : span.count ≤ length (drop span.start xs) = omega (arith, within, length-drop span.start xs) in
    ap (take span.count) (drop-append-le span.start xs more start) ∙ take-append-le span.count (drop span.start xs) more left

pub cut-last : {A : Type 0} (xs ys : List A) (span : Span) → span.start ≡ length xs → span.count ≡ length ys → cut_span (xs ++ ys) span ≡ ys
cut-last xs ys span start count =
    ap₂ (λ (n k : ℕ). take n (drop k (xs ++ ys))) count start ∙ ap (take (length ys)) (drop-append_seam xs ys) ∙ take-length ys

-- ---- runs

at-front : {A : Type 0} (xs more : List A) (n : ℕ) → n < length xs → slice_get (xs ++ more) n ≡ slice_get xs n
at-front [] more n within = absurd (omega (arith, within))
at-front (x ∷ xs) more zero within = refl
at-front (x ∷ xs) more (suc n) within = at-front xs more n (omega (arith, within))

span-more : (spans more : List Span) (form : RunForm) (at : ℕ) → HasSpan (length spans) form at → span_at (spans ++ more) form at ≡ span_at spans form at
span-more spans more run.None at has = refl
span-more spans more run.One at has = refl
span-more spans more run.Two at has = refl
span-more spans more run.More at has = ap span_in (at-front spans more at has)

has-span-more : (spans more : List Span) (form : RunForm) (at : ℕ) → HasSpan (length spans) form at → HasSpan (length (spans ++ more)) form at
has-span-more spans more run.None at has = tt
has-span-more spans more run.One at has = tt
has-span-more spans more run.Two at has = tt
has-span-more spans more run.More at has = omega (arith, has, length-append spans more)

-- a run whose span stands beside the lines
pub run-held : (many : ℕ) (spans : List Span) (at : ℕ) (there span : Span) → at < length spans → slice_get spans at ≡ Some there → span ≡ there → IsCut many span
    → IsRun many spans run.More at × (span_at spans run.More at ≡ span)
run-held many spans at there span within stands is cut =
    let same : span_at spans run.More at ≡ span = ap span_in stands ∙ sym is in
    (record { spanned = within; within = subst (IsCut many) (sym same) cut }, same)

module _ {A : Type 0} (xs more : List A) (spans more_spans : List Span) (form : RunForm) (at : ℕ) (is : IsRun (length xs) spans form at) where
  run-more : cut_run (xs ++ more) (spans ++ more_spans) form at ≡ cut_run xs spans form at
  run-more =
      ap (cut_span (xs ++ more)) (span-more spans more_spans form at is.spanned) ∙ cut-more xs more (span_at spans form at) is.within

  is-run-more : IsRun (length (xs ++ more)) (spans ++ more_spans) form at
  is-run-more =
      let longer : IsCut (length (xs ++ more)) (span_at spans form at) = omega (arith, is.within, length-append xs more) in
      record {
        spanned = has-span-more spans more_spans form at is.spanned;
        within = subst (IsCut (length (xs ++ more))) (sym (span-more spans more_spans form at is.spanned)) longer;
      }

-- ---- places

frame-more : (places more : List Place) (form : PlaceForm) (frame : ℕ) → HasPlace (length places) form frame → frame_at (places ++ more) form frame ≡ frame_at places form frame
frame-more places more place.None frame within = refl
frame-more places more place.Here frame within = refl
frame-more places more place.Beside frame within = ap (option_and_then (λ (p : Place). p.frame)) (at-front places more frame within)

site-more : (places more : List Place) (form : PlaceForm) (frame site : ℕ) → HasPlace (length places) form frame → site_at (places ++ more) form frame site ≡ site_at places form frame site
site-more places more place.None frame site within = refl
site-more places more place.Here frame site within = refl
site-more places more place.Beside frame site within = ap (option_and_then (λ (p : Place). p.site)) (at-front places more frame within)

-- ---- what is said

module _ (rows more : List Row) (nodes more_nodes : List ℕ) (spans more_spans : List Span) where
  outcome-more : (form : SaidForm) (at : ℕ) → HasRows (length rows) (length nodes) spans form at
      → outcome_at (rows ++ more) (nodes ++ more_nodes) (spans ++ more_spans) form at ≡ outcome_at rows nodes spans form at
  outcome-more said.Node at is = refl
  outcome-more said.Key at is = refl
  outcome-more said.Value at is = ap (λ (rs : List Row). says.Value (value_in rs)) (run-more rows more spans more_spans run.One at is)
  outcome-more said.NodeRow at is = refl
  outcome-more said.KeyRow at is = refl
  outcome-more said.NoRows at is = ap (λ (rs : List Row). says.Rows rs) (run-more rows more spans more_spans run.None at is)
  outcome-more said.Row at is = ap (λ (rs : List Row). says.Rows rs) (run-more rows more spans more_spans run.One at is)
  outcome-more said.TwoRows at is = ap (λ (rs : List Row). says.Rows rs) (run-more rows more spans more_spans run.Two at is)
  outcome-more said.Rows at is = ap (λ (rs : List Row). says.Rows rs) (run-more rows more spans more_spans run.More at is)
  outcome-more said.NodeRows at is = ap (λ (ns : List ℕ). says.Rows (map node_row ns)) (run-more nodes more_nodes spans more_spans run.More at is)
  outcome-more said.Pass at is = refl
  outcome-more said.Fail at is = refl
  outcome-more said.Skip at is = refl

  has-more : (form : SaidForm) (at : ℕ) → HasRows (length rows) (length nodes) spans form at
      → HasRows (length (rows ++ more)) (length (nodes ++ more_nodes)) (spans ++ more_spans) form at
  has-more said.Node at is = tt
  has-more said.Key at is = tt
  has-more said.Value at is = is-run-more rows more spans more_spans run.One at is
  has-more said.NodeRow at is = tt
  has-more said.KeyRow at is = tt
  has-more said.NoRows at is = is-run-more rows more spans more_spans run.None at is
  has-more said.Row at is = is-run-more rows more spans more_spans run.One at is
  has-more said.TwoRows at is = is-run-more rows more spans more_spans run.Two at is
  has-more said.Rows at is = is-run-more rows more spans more_spans run.More at is
  has-more said.NodeRows at is = is-run-more nodes more_nodes spans more_spans run.More at is
  has-more said.Pass at is = tt
  has-more said.Fail at is = tt
  has-more said.Skip at is = tt

-- a value that is held as a row
pub value-held : (rows : List Row) (many : ℕ) (nodes : List ℕ) (spans : List Span) (span : Span) (v : Ref) → IsCut (length rows) span → cut_span rows span ≡ Found v ∷ [] → span.count ≡ 1
    → HasRows (length rows) many spans said.Value span.start × (outcome_at rows nodes spans said.Value span.start ≡ says.Value v)
value-held rows many nodes spans span v within cut count =
    let one : take 1 (drop span.start rows) ≡ Found v ∷ [] = ap (λ (k : ℕ). take k (drop span.start rows)) (sym count) ∙ cut in
    (record { spanned = tt; within = omega (arith, within, count) }, ap (λ (rs : List Row). says.Value (value_in rs)) one)

-- ---- lines

abbrev made-of : LineKind → Option ℕ → Option ℕ → List ℕ → Outcome → Line
made-of k frame site cites outcome = record { kind = k; frame = frame; site = site; cites = cites; outcome = outcome }

pub line-as : (a b : Line) → a.kind ≡ b.kind → a.frame ≡ b.frame → a.site ≡ b.site → a.cites ≡ b.cites → a.outcome ≡ b.outcome → a ≡ b
line-as a b kind_is frame_is site_is cites_are outcome_is =
    ap (λ (k : LineKind). made-of k a.frame a.site a.cites a.outcome) kind_is ∙ ap (λ (frame : Option ℕ). made-of b.kind frame a.site a.cites a.outcome) frame_is
    ∙ ap (λ (site : Option ℕ). made-of b.kind b.frame site a.cites a.outcome) site_is ∙ ap (λ (cites : List ℕ). made-of b.kind b.frame b.site cites a.outcome) cites_are
    ∙ ap (λ (outcome : Outcome). made-of b.kind b.frame b.site b.cites outcome) outcome_is

module _ (cites more_cites : List ℕ) (cite_spans more_cite_spans : List Span) (rows more_rows : List Row) (nodes more_nodes : List ℕ) (row_spans more_row_spans : List Span) (places more_places : List Place) where
  abbrev Before : HeldLine → Type 0
  Before l = IsWithin (length cites) cite_spans (length rows) (length nodes) row_spans (length places) l

  abbrev After : HeldLine → Type 0
  After l = IsWithin (length (cites ++ more_cites)) (cite_spans ++ more_cite_spans) (length (rows ++ more_rows)) (length (nodes ++ more_nodes)) (row_spans ++ more_row_spans) (length (places ++ more_places)) l

  abbrev before : HeldLine → Line
  before l = see_line cites cite_spans rows nodes row_spans places l

  abbrev after : HeldLine → Line
  after l = see_line (cites ++ more_cites) (cite_spans ++ more_cite_spans) (rows ++ more_rows) (nodes ++ more_nodes) (row_spans ++ more_row_spans) (places ++ more_places) l

  line-more : (l : HeldLine) → Before l → after l ≡ before l
  line-more l within =
      line-as (after l) (before l) refl (frame-more places more_places l.place l.frame within.placed)
      (site-more places more_places l.place l.frame l.site within.placed) (run-more cites more_cites cite_spans more_cite_spans l.cites l.cites_at within.cited)
      (outcome-more rows more_rows nodes more_nodes row_spans more_row_spans l.said l.said_at within.said)

  lines-more : (ls : List HeldLine) → All Before ls → map after ls ≡ map before ls
  lines-more [] within = refl
  lines-more (l ∷ ls) within = ap₂ (λ (x : Line) (xs : List Line). x ∷ xs) (line-more l (All-head Before l ls within)) (lines-more ls (All-tail Before l ls within))

  place-more : (form : PlaceForm) (frame : ℕ) → HasPlace (length places) form frame → HasPlace (length (places ++ more_places)) form frame
  place-more place.None frame h = tt
  place-more place.Here frame h = tt
  place-more place.Beside frame h = omega (arith, h, length-append places more_places)

  within-more : (l : HeldLine) → Before l → After l
  within-more l within = record {
    cited = is-run-more cites more_cites cite_spans more_cite_spans l.cites l.cites_at within.cited;
    said = has-more rows more_rows nodes more_nodes row_spans more_row_spans l.said l.said_at within.said;
    placed = place-more l.place l.frame within.placed;
  }

  all-more : (ls : List HeldLine) → All Before ls → All After ls
  all-more ls within = All-weaker Before After within-more ls within

-- what is held behind others
module _ (a b : Held) (cites : List ℕ) (cite_spans : List Span) (rows : List Row) (nodes : List ℕ) (row_spans : List Span) (places : List Place) (cites_are : b.cites.items ≡ a.cites.items ++ cites)
    (cite_spans_are : b.cite_spans.items ≡ a.cite_spans.items ++ cite_spans) (rows_are : b.rows.items ≡ a.rows.items ++ rows) (nodes_are : b.nodes.items ≡ a.nodes.items ++ nodes) (row_spans_are : b.row_spans.items ≡ a.row_spans.items ++ row_spans)
    (places_are : b.places.items ≡ a.places.items ++ places) (held : IsHeld a) where
  seen-more : map (see_line b.cites.items b.cite_spans.items b.rows.items b.nodes.items b.row_spans.items b.places.items) a.lines.items ≡ see_lines a
  seen-more =
      rw (cites_are, cite_spans_are, rows_are, nodes_are, row_spans_are, places_are) (
      lines-more a.cites.items cites a.cite_spans.items cite_spans a.rows.items rows a.nodes.items nodes a.row_spans.items row_spans a.places.items places a.lines.items held)

  held-more : All (IsWithin (length b.cites.items) b.cite_spans.items (length b.rows.items) (length b.nodes.items) b.row_spans.items (length b.places.items)) a.lines.items
  held-more = rw (cites_are, cite_spans_are, rows_are, nodes_are, row_spans_are, places_are) (
      all-more a.cites.items cites a.cite_spans.items cite_spans a.rows.items rows a.nodes.items nodes a.row_spans.items row_spans a.places.items places a.lines.items held)

  -- no line more
  pub kept-lines : b.lines.items ≡ a.lines.items → see_lines b ≡ see_lines a
  kept-lines same = ap (map (see_line b.cites.items b.cite_spans.items b.rows.items b.nodes.items b.row_spans.items b.places.items)) same ∙ seen-more

  pub kept-held : b.lines.items ≡ a.lines.items → IsHeld b
  kept-held same = subst (All (IsWithin (length b.cites.items) b.cite_spans.items (length b.rows.items) (length b.nodes.items) b.row_spans.items (length b.places.items))) (sym same) held-more

  -- one line more
  module _ (l : HeldLine) (more : b.lines.items ≡ a.lines.items ++ l ∷ []) (within : IsWithin (length b.cites.items) b.cite_spans.items (length b.rows.items) (length b.nodes.items) b.row_spans.items (length b.places.items) l) where
    pub added-line : see_lines b ≡ see_lines a ++ see_line b.cites.items b.cite_spans.items b.rows.items b.nodes.items b.row_spans.items b.places.items l ∷ []
    added-line =
        ap (map (see_line b.cites.items b.cite_spans.items b.rows.items b.nodes.items b.row_spans.items b.places.items)) more ∙ map-append (see_line b.cites.items b.cite_spans.items b.rows.items b.nodes.items b.row_spans.items b.places.items) a.lines.items (l ∷ []) ∙ ap (λ (ls : List Line). ls ++ see_line b.cites.items b.cite_spans.items b.rows.items b.nodes.items b.row_spans.items b.places.items l ∷ []) seen-more

    pub added-held : IsHeld b
    added-held =
        subst (All (IsWithin (length b.cites.items) b.cite_spans.items (length b.rows.items) (length b.nodes.items) b.row_spans.items (length b.places.items))) (sym more) (All-append (IsWithin (length b.cites.items) b.cite_spans.items (length b.rows.items) (length b.nodes.items) b.row_spans.items (length b.places.items)) a.lines.items (l ∷ []) held-more (All-cons (IsWithin (length b.cites.items) b.cite_spans.items (length b.rows.items) (length b.nodes.items) b.row_spans.items (length b.places.items)) l [] within (All-nil _)))
