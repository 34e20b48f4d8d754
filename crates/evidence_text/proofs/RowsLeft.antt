-- The rows that are left to be printed, from an index on.
use Rattle.std.proofs.Common.{◌≡◌, ℕ, ◌+◌, ◌≤◌, List, [], ◌∷◌, ◌++◌, All, drop, length, slice_get, Some, sym, ap, subst, ◌∙◌, add-one, drop-cons, append-nil, append_assoc}
use Rattle.std.specs.List.{flat_map}
use Rattle.std.proofs.lemmas.List.{drop_all}
use Rattle.std.proofs.lemmas.List.Elements.{All-cons, All-nil}
use Rattle.std.proofs.lemmas.Option.{get_or_from_slice_get, same_Some, slice_get_within}
use Rattle.guard_syntax.specs.declared.row.Row.{Row}
use Rattle.evidence_lines.specs.Shapes.{IsRowBounded}
use Rattle.evidence_text.specs.Spelling.{further_text, list_text, row_text}

-- the row at an index comes first
next_left : (rows : List Row) (i : ℕ) (row : Row) → slice_get rows i ≡ Some row → drop i rows ≡ row ∷ drop (i + 1) rows
next_left rows i row there =
    rw add-one (drop-cons rows i row (slice_get_within rows i row there)) ∙ ap (λ (r : Row). r ∷ drop (i + 1) rows) (get_or_from_slice_get rows i row row there)

-- the text of those that are left
abbrev pub left_text : List Row → ℕ → List ℕ
left_text rows i = flat_map (further_text row_text) (drop i rows)

-- a comma and the row at an index are appended
pub text_next : (rows : List Row) (i : ℕ) (row : Row) (old new start : List ℕ) → slice_get rows i ≡ Some row
    → new ≡ (old ++ 44 ∷ []) ++ row_text row → old ++ left_text rows i ≡ start → new ++ left_text rows (i + 1) ≡ start
text_next rows i row old new start there added so =
    let rest = left_text rows (i + 1) in
    ap (λ t. t ++ rest) (added ∙ append_assoc old (44 ∷ []) (row_text row))
    ∙ append_assoc old (further_text row_text row) rest
    ∙ ap (λ (xs : List Row). old ++ flat_map (further_text row_text) xs) (sym (next_left rows i row there))
    ∙ so

-- nothing is left behind the last
pub text_end : (rows : List Row) (i : ℕ) (old start : List ℕ) → length rows ≤ i → old ++ left_text rows i ≡ start → old ≡ start
text_end rows i old start past so =
    sym (append-nil old) ∙ ap (λ (xs : List Row). old ++ flat_map (further_text row_text) xs) (sym (drop_all i rows past)) ∙ so

-- the first row, and those behind it
pub text_first : (rows : List Row) (row : Row) (old middle new : List ℕ) → slice_get rows 0 ≡ Some row
    → middle ≡ old ++ row_text row → new ≡ middle ++ left_text rows 1 → new ≡ old ++ list_text row_text rows
text_first [] row old middle new there first others = cc
text_first (r ∷ rows) row old middle new there first others =
    let rest = left_text (r ∷ rows) 1 in
    others ∙ ap (λ t. t ++ rest) first ∙ append_assoc old (row_text row) rest ∙ ap (λ (x : Row). old ++ (row_text x ++ rest)) (sym (same_Some r row there))

-- bounds
pub bounded_next : (rows : List Row) (i : ℕ) (row : Row) → slice_get rows i ≡ Some row → IsRowBounded row → All IsRowBounded (drop (i + 1) rows) → All IsRowBounded (drop i rows)
bounded_next rows i row there bounded rest =
    subst (All IsRowBounded) (sym (next_left rows i row there)) (All-cons IsRowBounded row (drop (i + 1) rows) bounded rest)

pub bounded_end : (rows : List Row) (i : ℕ) → length rows ≤ i → All IsRowBounded (drop i rows)
bounded_end rows i past = subst (All IsRowBounded) (sym (drop_all i rows past)) (All-nil IsRowBounded)
