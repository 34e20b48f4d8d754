-- A line is read from just what spells it, and no spelling of a line is a front of another's.
use Rattle.std.proofs.Common.{◌≡◌, ◌<◌, ◌^◌, ℕ, List, [], ◌∷◌, ◌++◌, Some, decimal, refl, sym, ap, subst, ◌∙◌, arith, option_map, option_and_then}
use Rattle.std.proofs.lemmas.List.{append_assoc}
use Rattle.std.proofs.lemmas.Option.{some_pair_parts, same_Some}
use Rattle.evidence_lines.specs.Shapes.{IsCount, IsInFormat, IsPlace, is_placed, may_cite, sort_of}
use Rattle.evidence_lines.specs.declared.line.Line.{Line}
use Rattle.evidence_lines.specs.declared.line.Outcome.{Outcome}
use Rattle.evidence_text.specs.code.Reading.{Parts, Placed, cites_in, count_in, cut, frame_part, if_placed, kind_in, kind_part, line_at, line_by, line_in, line_of_parts, outcome_by, outcome_in, parts_in, parts_of, place_in, placed_at, placed_by, placed_in, site_by, site_part}
use Rattle.evidence_text.specs.Spelling.{behind_space, fields_text, kind_text, line_text, list_text, optional_text, outcome_text}
use Rattle.evidence_text.proofs.Bounds.{From, free_from, from_append, from_lesser}
use Rattle.evidence_text.proofs.Cuts.{Free, chained, cut_at, cut_some, mapped}
use Rattle.evidence_text.proofs.Fields.{AreCites, IsOptional, IsOutcome, cites_from, cites_of, cites_some, kind_from, kind_of, kind_some, optional_from, outcome_from, outcome_of, outcome_some, placed_of, placed_some}
use Rattle.evidence_text.proofs.Numbers.{count_decimal, count_some, place_decimal, place_some}

small_count : (n : ℕ) → IsCount n → n < 2 ^ 64
small_count n small = small

small_place : (n : ℕ) → IsPlace n → n < 2 ^ 64
small_place n small = omega arith

-- ---- a line is read from its spelling

parts_are : (k f s c o : List ℕ) → Free 32 k → Free 32 f → Free 32 s → Free 32 c
    → parts_in (k ++ 32 ∷ (f ++ 32 ∷ (s ++ 32 ∷ (c ++ 32 ∷ o)))) ≡ Some (parts_of k f s (c, o))
parts_are k f s c o free_k free_f free_s free_c =
    ap (option_and_then kind_part) (cut_at 32 k (f ++ 32 ∷ (s ++ 32 ∷ (c ++ 32 ∷ o))) free_k)
    ∙ ap (option_and_then (frame_part k)) (cut_at 32 f (s ++ 32 ∷ (c ++ 32 ∷ o)) free_f)
    ∙ ap (option_and_then (site_part k f)) (cut_at 32 s (c ++ 32 ∷ o) free_s) ∙ ap (option_map (parts_of k f s)) (cut_at 32 c o free_c)

pub line_is : (l : Line) → IsInFormat l → line_in (fields_text l) ≡ Some l
line_is l format =
    let shape = format.shape in
    let bounds = format.bounds in
    let k = kind_text l.kind in
    let f = optional_text l.frame in
    let s = optional_text l.site in
    let c = list_text decimal l.cites in
    let o = outcome_text l.outcome in
    let parts = parts_of k f s (c, o) in
    let placed = placed_at l.kind l.frame l.site in
    ap (option_and_then line_of_parts) (
    parts_are k f s c o (free_from 32 44 k (omega arith) (kind_from l.kind))
    (free_from 32 44 f (omega arith) (optional_from IsCount small_count l.frame bounds.frame))
    (free_from 32 44 s (omega arith) (optional_from IsPlace small_place l.site bounds.site))
    (free_from 32 44 c (omega arith) (cites_from l.cites bounds.cites))
    )
    ∙ ap (λ p. option_and_then (line_by parts) (option_and_then (placed_by parts) p)) (kind_of l.kind)
    ∙ ap (λ p. option_and_then (line_by parts) (option_and_then (site_by parts l.kind) p)) (placed_of (is_placed l.kind) IsCount count_in count_decimal l.frame shape.framed bounds.frame)
    ∙ ap (λ p. option_and_then (line_by parts) (option_map (placed_at l.kind l.frame) p)) (placed_of (is_placed l.kind) IsPlace place_in place_decimal l.site shape.sited bounds.site)
    ∙ ap (option_and_then (outcome_by parts placed)) (cites_of (may_cite l.kind) l.cites shape.cited bounds.cites)
    ∙ ap (option_map (line_at placed l.cites)) (outcome_of (sort_of l.kind) l.outcome shape.said bounds.outcome)

-- ---- what a line is read from spells it

parts_spell : (bytes : List ℕ) (p : Parts) → parts_in bytes ≡ Some p
    → p.kind ++ behind_space (p.frame ++ behind_space (p.site ++ behind_space (p.cites ++ behind_space p.outcome))) ≡ bytes
parts_spell bytes p e =
    let kind = chained kind_part (cut 32 bytes) p e in
    let frame = chained (frame_part kind.0.0) (cut 32 kind.0.1) p kind.2 in
    let site = chained (site_part kind.0.0 frame.0.0) (cut 32 frame.0.1) p frame.2 in
    let ends = mapped (parts_of kind.0.0 frame.0.0 site.0.0) (cut 32 site.0.1) p site.2 in
    let first = (cut_some 32 bytes kind.0.0 kind.0.1 kind.1).0 in
    let second = (cut_some 32 kind.0.1 frame.0.0 frame.0.1 frame.1).0 in
    let third = (cut_some 32 frame.0.1 site.0.0 site.0.1 site.1).0 in
    let fourth = (cut_some 32 site.0.1 ends.0.0 ends.0.1 ends.1).0 in
    let P : Parts → Type 0 = λ q. q.kind ++ behind_space (q.frame ++ behind_space (q.site ++ behind_space (q.cites ++ behind_space q.outcome))) ≡ bytes in
    subst P ends.2 (
    ap (λ t. kind.0.0 ++ behind_space (frame.0.0 ++ behind_space (site.0.0 ++ behind_space t))) (sym fourth)
    ∙ ap (λ t. kind.0.0 ++ behind_space (frame.0.0 ++ behind_space t)) (sym third) ∙ ap (λ t. kind.0.0 ++ behind_space t) (sym second) ∙ sym first
    )

record IsPlacedOf (parts : Parts) (q : Placed) : Type 0 where
  kind : kind_text q.kind ≡ parts.kind
  frame : IsOptional (is_placed q.kind) IsCount parts.frame q.frame
  site : IsOptional (is_placed q.kind) IsPlace parts.site q.site

placed_spells : (parts : Parts) (q : Placed) → placed_in parts ≡ Some q → IsPlacedOf parts q
placed_spells parts q e =
    let kind = chained (placed_by parts) (kind_in parts.kind) q e in
    let frame = chained (site_by parts kind.0) (if_placed (is_placed kind.0) count_in parts.frame) q kind.2 in
    let site = mapped (placed_at kind.0 frame.0) (if_placed (is_placed kind.0) place_in parts.site) q frame.2 in
    let P : Placed → Type 0 = λ r. IsPlacedOf parts r in
    subst P site.2 (record {
      kind = kind_some parts.kind kind.0 kind.1;
      frame = placed_some (is_placed kind.0) IsCount count_in count_some parts.frame frame.0 frame.1;
      site = placed_some (is_placed kind.0) IsPlace place_in place_some parts.site site.0 site.1;
    })

fields_of : (parts : Parts) (q : Placed) (cites : List ℕ) (o : Outcome) → IsPlacedOf parts q → AreCites (may_cite q.kind) parts.cites cites
    → IsOutcome (sort_of q.kind) parts.outcome o
    → IsInFormat (line_at q cites o)
    × (fields_text (line_at q cites o) ≡ parts.kind ++ behind_space (parts.frame ++ behind_space (parts.site ++ behind_space (parts.cites ++ behind_space parts.outcome))))
fields_of parts q cites o placed cited said =
    let frame = optional_text q.frame in
    let site = optional_text q.site in
    let list = list_text decimal cites in (
      record {
        shape = record { framed = placed.frame.same; sited = placed.site.same; cited = cited.none; said = said.same };
        bounds = record { frame = placed.frame.bound; site = placed.site.bound; cites = cited.bound; outcome = said.bound };
      },
      ap (λ t. t ++ behind_space (frame ++ behind_space (site ++ behind_space (list ++ behind_space (outcome_text o))))) placed.kind
          ∙ ap (λ t. parts.kind ++ behind_space (t ++ behind_space (site ++ behind_space (list ++ behind_space (outcome_text o))))) placed.frame.text
          ∙ ap (λ t. parts.kind ++ behind_space (parts.frame ++ behind_space (t ++ behind_space (list ++ behind_space (outcome_text o))))) placed.site.text
          ∙ ap (λ t. parts.kind ++ behind_space (parts.frame ++ behind_space (parts.site ++ behind_space (t ++ behind_space (outcome_text o))))) cited.text
          ∙ ap (λ t. parts.kind ++ behind_space (parts.frame ++ behind_space (parts.site ++ behind_space (parts.cites ++ behind_space t)))) said.text,
    )

pub line_some : (bytes : List ℕ) (l : Line) → line_in bytes ≡ Some l → IsInFormat l × (fields_text l ≡ bytes)
line_some bytes l e =
    let parts = chained line_of_parts (parts_in bytes) l e in
    let placed = chained (line_by parts.0) (placed_in parts.0) l parts.2 in
    let cites = chained (outcome_by parts.0 placed.0) (cites_in (may_cite placed.0.kind) parts.0.cites) l placed.2 in
    let said = mapped (line_at placed.0 cites.0) (outcome_in (sort_of placed.0.kind) parts.0.outcome) l cites.2 in
    let whole =
    fields_of parts.0 placed.0 cites.0 said.0 (placed_spells parts.0 placed.0 placed.1) (cites_some (may_cite placed.0.kind) parts.0.cites cites.0 cites.1)
    (outcome_some (sort_of placed.0.kind) parts.0.outcome said.0 said.1) in
    let P : Line → Type 0 = λ m. IsInFormat m × (fields_text m ≡ bytes) in
    subst P said.2 (whole.0, whole.1 ∙ parts_spell bytes parts.0 parts.1)

-- ---- the bytes of a line: none before its newline is one

fields_free : (l : Line) → IsInFormat l → Free 10 (fields_text l)
fields_free l format =
    let bounds = format.bounds in
    let k = kind_text l.kind in
    let f = optional_text l.frame in
    let s = optional_text l.site in
    let c = list_text decimal l.cites in
    let o = outcome_text l.outcome in
    let from_o : From 32 (behind_space o) = from_append 32 (32 ∷ []) o refl (outcome_from l.outcome bounds.outcome) in
    let from_c : From 32 (behind_space (c ++ behind_space o)) =
    from_append 32 (32 ∷ []) (c ++ behind_space o) refl (from_append 32 c (behind_space o) (from_lesser 32 44 c (omega arith) (cites_from l.cites bounds.cites)) from_o) in
    let from_s : From 32 (behind_space (s ++ behind_space (c ++ behind_space o))) =
    from_append 32 (32 ∷ []) (s ++ behind_space (c ++ behind_space o)) refl
    (from_append 32 s (behind_space (c ++ behind_space o)) (from_lesser 32 44 s (omega arith) (optional_from IsPlace small_place l.site bounds.site)) from_c) in
    let from_f : From 32 (behind_space (f ++ behind_space (s ++ behind_space (c ++ behind_space o)))) =
    from_append 32 (32 ∷ []) (f ++ behind_space (s ++ behind_space (c ++ behind_space o))) refl
    (from_append 32 f (behind_space (s ++ behind_space (c ++ behind_space o))) (from_lesser 32 44 f (omega arith) (optional_from IsCount small_count l.frame bounds.frame)) from_s) in
    free_from 10 32 (fields_text l) (omega arith)
    (from_append 32 k (behind_space (f ++ behind_space (s ++ behind_space (c ++ behind_space o)))) (from_lesser 32 44 k (omega arith) (kind_from l.kind)) from_f)

-- the newline of a line is the first one behind its beginning
pub cut_line : (l : Line) (rest : List ℕ) → IsInFormat l → cut 10 (line_text l ++ rest) ≡ Some (fields_text l, rest)
cut_line l rest format = ap (cut 10) (append_assoc (fields_text l) (10 ∷ []) rest) ∙ cut_at 10 (fields_text l) rest (fields_free l format)

-- bytes that begin with the text of a line begin with that of no other
pub lines_apart : (l m : Line) (a b : List ℕ) → IsInFormat l → IsInFormat m → line_text l ++ a ≡ line_text m ++ b → (l ≡ m) × (a ≡ b)
lines_apart l m a b format_l format_m e =
    let cuts : Some (fields_text l, a) ≡ Some (fields_text m, b) = sym (cut_line l a format_l) ∙ ap (cut 10) e ∙ cut_line m b format_m in
    let parts = some_pair_parts (fields_text l) (fields_text m) a b cuts in
    (same_Some l m (sym (line_is l format_l) ∙ ap line_in parts.0 ∙ line_is m format_m), parts.1)
