-- Items in order of site: what stands in front of the others.
use Rattle.std.proofs.Common.{◌≡◌, ℕ, ◌+◌, ◌<◌, ◌≤◌, true, false, List, [], ◌∷◌, ◌++◌, get_or, drop, length, refl, sym, ap, ◌∙◌, append_assoc}
use Rattle.std.specs.Prelude.{nat_lt}
use Rattle.std.proofs.lemmas.Bool.{lt-ltb, le-ltb}
use Rattle.std.proofs.lemmas.List.{drop_more, drop_all}
use Rattle.rule_printer.specs.RuleText.{in_a_row, merged}

abbrev pub Lines : Type 0
Lines = List (ℕ × List ℕ)

pub merged-nil : (xs : Lines) → merged xs [] ≡ xs
merged-nil [] = refl
merged-nil (x ∷ xs) = ap (λ (ys : Lines). x ∷ ys) (merged-nil xs)

pub merged-second : (x y : ℕ × List ℕ) (xs ys : Lines) → y.0 < x.0 → merged (x ∷ xs) (y ∷ ys) ≡ y ∷ merged (x ∷ xs) ys
merged-second x y xs ys h = let e : nat_lt y.0 x.0 ≡ true = lt-ltb y.0 x.0 h in rw e refl

pub merged-first : (x y : ℕ × List ℕ) (xs ys : Lines) → x.0 ≤ y.0 → merged (x ∷ xs) (y ∷ ys) ≡ x ∷ merged xs (y ∷ ys)
merged-first x y xs ys h = let e : nat_lt y.0 x.0 ≡ false = le-ltb y.0 x.0 h in rw e refl

-- the first line is appended
pub appended_line : (line old new start : List ℕ) (all rest : Lines) (site : ℕ) → new ≡ old ++ line → all ≡ (site, line) ∷ rest → old ++ in_a_row all ≡ start → new ++ in_a_row rest ≡ start
appended_line line old new start all rest site added is so =
    ap (λ (l : List ℕ). l ++ in_a_row rest) added ∙ append_assoc old line (in_a_row rest) ∙ ap (λ (ls : Lines). old ++ in_a_row ls) (sym is) ∙ so

-- an item of the first list is appended, since it stands before that of the second
pub first_appended : (all rest : Lines) (site : ℕ) (line : List ℕ) (y : ℕ × List ℕ) (ys : Lines) (old new start : List ℕ) → all ≡ (site, line) ∷ rest → site ≤ y.0 → new ≡ old ++ line
    → old ++ in_a_row (merged all (y ∷ ys)) ≡ start → new ++ in_a_row (merged rest (y ∷ ys)) ≡ start
first_appended all rest site line y ys old new start is before added so =
    appended_line line old new start (merged all (y ∷ ys)) (merged rest (y ∷ ys)) site added
    (ap (λ (ls : Lines). merged ls (y ∷ ys)) is ∙ merged-first (site, line) y rest ys before) so

-- that of the second list is next
pub second_is_next : (all rest : Lines) (x y : ℕ × List ℕ) (ys : Lines) (old start : List ℕ) → all ≡ x ∷ rest → y.0 < x.0
    → old ++ in_a_row (merged all (y ∷ ys)) ≡ start → old ++ in_a_row (y ∷ merged all ys) ≡ start
second_is_next all rest x y ys old start is before so =
    ap (λ (ls : Lines). old ++ in_a_row ls) (ap (λ (ls : Lines). y ∷ merged ls ys) is ∙ sym (merged-second x y rest ys before) ∙ ap (λ (ls : Lines). merged ls (y ∷ ys)) (sym is)) ∙ so

-- and so it is where the first list has none
pub none_before : (all none : Lines) (y : ℕ × List ℕ) (ys : Lines) (old start : List ℕ) → all ≡ [] → none ≡ []
    → old ++ in_a_row (merged all (y ∷ ys)) ≡ start → old ++ in_a_row (y ∷ merged none ys) ≡ start
none_before all none y ys old start is is_too so =
    ap (λ (ls : Lines). old ++ in_a_row (y ∷ merged ls ys)) (is_too ∙ sym is) ∙ ap (λ (ls : Lines). old ++ in_a_row (y ∷ merged ls ys)) is
    ∙ ap (λ (ls : Lines). old ++ in_a_row (merged ls (y ∷ ys))) (sym is) ∙ so

-- ---- lines of items

pub record HasLines {X : Type 0} (lines : List X → Lines) (line : X → ℕ × List ℕ) : Type 0 where
  pub none : lines [] ≡ []
  pub more : (x : X) (xs : List X) → lines (x ∷ xs) ≡ line x ∷ lines xs

pub lines-next : {X : Type 0} (lines : List X → Lines) (line : X → ℕ × List ℕ) → HasLines lines line → (xs : List X) (i : ℕ) (x : X) → i < length xs → x ≡ get_or xs i x
    → lines (drop i xs) ≡ line x ∷ lines (drop (i + 1) xs)
lines-next lines line h xs i x within is = ap lines (drop_more xs i x within ∙ ap (λ y. y ∷ drop (i + 1) xs) (sym is)) ∙ h.more x (drop (i + 1) xs)

pub lines-end : {X : Type 0} (lines : List X → Lines) (line : X → ℕ × List ℕ) → HasLines lines line → (xs : List X) (i : ℕ) → length xs ≤ i → lines (drop i xs) ≡ []
lines-end lines line h xs i past = ap lines (drop_all i xs past) ∙ h.none
