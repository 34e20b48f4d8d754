-- A name is among the words of a table exactly where the table has a row for it.
use Rattle.std.proofs.Common.{◌≡◌, ℕ, Bool, true, false, List, [], ◌∷◌, map, cond, Some, option_map, is_some, bytes_eq, refl, ap, ◌∙◌, Bor, ◌||◌}
use Rattle.std.specs.Prelude.{find}
use Rattle.std.specs.List.{list_any}
use Rattle.literal_parser.specs.declared.keyword.Keyword.{Keyword}
use Rattle.literal_parser.specs.Lexemes.{keyword_in}
use Rattle.rule_words.specs.code.Appended.{is_among}

abbrev Row : Type 0
Row = List ℕ × Keyword

-- the first row fits or not
first_row : (b : Bool) (p : Row) (later : Bool) (name : List ℕ) (rows : List Row) → later ≡ is_some (keyword_in rows name)
    → b || later ≡ is_some (option_map (λ (q : Row). q.1) (cond b (Some p) (find (λ (q : Row). bytes_eq name q.0) rows)))
first_row true p later name rows h = refl
first_row false p later name rows h = h

in_rows : (rows : List Row) (name : List ℕ) → list_any (λ (w : List ℕ). bytes_eq name w) (map (λ (p : Row). p.0) rows) ≡ is_some (keyword_in rows name)
in_rows [] name = refl
in_rows (p ∷ rows) name = first_row (bytes_eq name p.0) p (list_any (λ (w : List ℕ). bytes_eq name w) (map (λ (q : Row). q.0) rows)) name rows (in_rows rows name)

behind : (words : List (Bor (List ℕ))) (name : List ℕ) → list_any (λ (w : Bor (List ℕ)). bytes_eq name w.now) words ≡ list_any (λ (w : List ℕ). bytes_eq name w) (map (λ (w : Bor (List ℕ)). w.now) words)
behind [] name = refl
behind (w ∷ words) name = ap (λ (b : Bool). bytes_eq name w.now || b) (behind words name)

pub is_among-keyword : (words : List (Bor (List ℕ))) (rows : List Row) (name : List ℕ) → map (λ (w : Bor (List ℕ)). w.now) words ≡ map (λ (p : Row). p.0) rows
    → is_among words name ≡ is_some (keyword_in rows name)
unfolding is_among
is_among-keyword words rows name same = behind words name ∙ ap (list_any (λ (w : List ℕ). bytes_eq name w)) same ∙ in_rows rows name
