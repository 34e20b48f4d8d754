-- What is appended item by item: the texts of the items in a row, with a separator between them.
use Rattle.std.proofs.Common.{◌≡◌, ℕ, zero, suc, ◌+◌, ◌<◌, ◌≤◌, List, [], ◌∷◌, ◌++◌, get_or, drop, length, refl, sym, ap, ◌∙◌, add-one, append-nil, append_assoc}
use Rattle.std.proofs.lemmas.List.{drop_more, drop_all}
use Rattle.rule_words.specs.code.Appended.{between}

-- a separator, a text, and what is left
pub appended : (start old middle new separator text left rest : List ℕ) → middle ≡ old ++ separator → new ≡ middle ++ text → left ≡ separator ++ (text ++ rest) → old ++ left ≡ start → new ++ rest ≡ start
appended start old middle new separator text left rest first second is so =
    ap (λ (l : List ℕ). l ++ rest) (second ∙ ap (λ (l : List ℕ). l ++ text) first)
    ∙ append_assoc (old ++ separator) text rest
    ∙ append_assoc old separator (text ++ rest)
    ∙ ap (λ (l : List ℕ). old ++ l) (sym is)
    ∙ so

-- nothing is left
pub ended : (start old left : List ℕ) → left ≡ [] → old ++ left ≡ start → old ≡ start
ended start old left is so = sym (append-nil old) ∙ ap (λ (l : List ℕ). old ++ l) (sym is) ∙ so

-- the texts of items from an index on, given those of items from the first on and those of items behind the first
abbrev pub left : {A : Type 0} → (A → List ℕ) → (A → List ℕ) → ℕ → A → List ℕ
left all more zero xs = all xs
left all more (suc i) xs = more xs

pub left-more : {A : Type 0} (all more : A → List ℕ) (i : ℕ) (xs : A) → left all more (i + 1) xs ≡ more xs
left-more all more i xs = rw (add-one i) refl

-- lists whose items have texts, joined by a separator
pub record IsJoined {X : Type 0} (all more : List X → List ℕ) (each : X → List ℕ) (separator : List ℕ) : Type 0 where
  pub none : all [] ≡ []
  pub no_more : more [] ≡ []
  pub first : (x : X) (xs : List X) → all (x ∷ xs) ≡ each x ++ more xs
  pub further : (x : X) (xs : List X) → more (x ∷ xs) ≡ separator ++ (each x ++ more xs)

left_cons : {X : Type 0} (all more : List X → List ℕ) (each : X → List ℕ) (separator : List ℕ) → IsJoined all more each separator → (i : ℕ) (x : X) (xs : List X)
    → left all more i (x ∷ xs) ≡ between i separator ++ (each x ++ more xs)
left_cons all more each separator h zero x xs = h.first x xs
left_cons all more each separator h (suc i) x xs = h.further x xs

left_nil : {X : Type 0} (all more : List X → List ℕ) (each : X → List ℕ) (separator : List ℕ) → IsJoined all more each separator → (i : ℕ) → left all more i [] ≡ []
left_nil all more each separator h zero = h.none
left_nil all more each separator h (suc i) = h.no_more

pub row-next : {X : Type 0} (all more : List X → List ℕ) (each : X → List ℕ) (separator : List ℕ) → IsJoined all more each separator
    → (xs : List X) (i : ℕ) (x : X) (start old middle new : List ℕ) → i < length xs → x ≡ get_or xs i x → middle ≡ old ++ between i separator → new ≡ middle ++ each x
    → old ++ left all more i (drop i xs) ≡ start → new ++ left all more (i + 1) (drop (i + 1) xs) ≡ start
row-next all more each separator h xs i x start old middle new within is first second so =
    ap (λ (l : List ℕ). new ++ l) (left-more all more i (drop (i + 1) xs))
    ∙ appended start old middle new (between i separator) (each x) (left all more i (drop i xs)) (more (drop (i + 1) xs)) first second
    (ap (left all more i) (drop_more xs i x within ∙ ap (λ y. y ∷ drop (i + 1) xs) (sym is)) ∙ left_cons all more each separator h i x (drop (i + 1) xs))
    so

pub row-end : {X : Type 0} (all more : List X → List ℕ) (each : X → List ℕ) (separator : List ℕ) → IsJoined all more each separator
    → (xs : List X) (i : ℕ) (start old : List ℕ) → length xs ≤ i → old ++ left all more i (drop i xs) ≡ start → old ≡ start
row-end all more each separator h xs i start old past so =
    ended start old (left all more i (drop i xs)) (ap (left all more i) (drop_all i xs past) ∙ left_nil all more each separator h i) so
