-- The entries of a book as the list of its texts.
use Rattle.std.proofs.Common.{◌≡◌, ℕ, zero, suc, slice_get, Bool, true, false, cond, List, [], ◌∷◌, ◌++◌, map, Option, Some, is_some, All, String, Global, string_bytes, subst, refl, sym, ap, ◌∙◌, arith}
use Rattle.std.specs.Prelude.{◌||◌, if◌then◌else◌}
use Rattle.std.specs.Str.{bytes_eq}
use Rattle.std.specs.String.{string_eq}
use Rattle.std.specs.Map.{lookup}
use Rattle.indexmap.specs.IndexMap.{insert_entry}
use Rattle.std.proofs.lemmas.List.Elements.{All-push}
use Rattle.std.proofs.lemmas.List.{map-append}
use Rattle.std.proofs.lemmas.Slice.Eq.{bytes_eq-Decides}
use Rattle.value_store.specs.code.Books.{has_text}

abbrev pub Entries : Type 0
Entries = List (String Global × List ℕ)

abbrev pub text_of : String Global × List ℕ → List ℕ
text_of p = string_bytes p.0

-- the test of a key by a text
abbrev pub at_text : List ℕ → String Global → Bool
at_text text k = bytes_eq text (string_bytes k)

is_some_if : (b : Bool) (x : List ℕ) (o : Option (List ℕ)) (rest : Bool) → is_some o ≡ rest → is_some (cond b (Some x) o) ≡ (b || rest)
is_some_if true x o rest e = refl
is_some_if false x o rest e = e

-- what is looked up by a text stands among the texts
pub looked_up : (text : List ℕ) (es : Entries) → is_some (lookup (at_text text) es) ≡ has_text (map text_of es) text
looked_up text [] = refl
looked_up text (e ∷ es) = is_some_if (at_text text e.0) e.1 (lookup (at_text text) es) (has_text (map text_of es) text) (looked_up text es)

found_if : (text : List ℕ) (k : String Global) (x v : List ℕ) (o : Option (List ℕ)) (b : Bool) → at_text text k ≡ b → x ≡ string_bytes k → (o ≡ Some v → v ≡ text) → cond b (Some x) o ≡ Some v → v ≡ text
found_if text k x v o true is same rest e = let q : x ≡ v = cc in sym q ∙ same ∙ sym ((bytes_eq-Decides text (string_bytes k)).0 is)
found_if text k x v o false is same rest e = rest e

-- the pattern that is found is the text's
pub found_pattern : (text : List ℕ) (es : Entries) (v : List ℕ) → All (λ (p : String Global × List ℕ). p.1 ≡ string_bytes p.0) es → lookup (at_text text) es ≡ Some v → v ≡ text
found_pattern text [] v all e = absurd cc
found_pattern text (x ∷ es) v all e =
    found_if text x.0 x.1 v (lookup (at_text text) es) (at_text text x.0) refl (all 0 x (omega arith)) (found_pattern text es v (λ k d h. all (suc k) d (omega arith))) e

pushed_if : (b rest : Bool) (p e : String Global × List ℕ) (changed es more : Entries) → (b || rest) ≡ false → (rest ≡ false → more ≡ es ++ p ∷ []) → (if b then changed else e ∷ more) ≡ e ∷ (es ++ p ∷ [])
pushed_if true rest p e changed es more none next = absurd cc
pushed_if false rest p e changed es more none next = ap (λ xs. e ∷ xs) (next none)

-- a text that is not there goes last
pub pushed : (key : String Global) (v : List ℕ) (es : Entries) → has_text (map text_of es) (string_bytes key) ≡ false → insert_entry string_eq es key v ≡ es ++ (key, v) ∷ []
pushed key v [] none = refl
pushed key v (e ∷ es) none =
    pushed_if (string_eq key e.0) (has_text (map text_of es) (string_bytes key)) (key, v) e ((e.0, v) ∷ es) es (insert_entry string_eq es key v) none (pushed key v es)

module _ (key : String Global) (v text : List ℕ) (es new : Entries) (is_key : string_bytes key ≡ text) (absent : has_text (map text_of es) text ≡ false) (is_new : new ≡ insert_entry string_eq es key v) where
  after : new ≡ es ++ (key, v) ∷ []
  after = is_new ∙ pushed key v es (rw is_key absent)

  -- the texts with one more
  pub texts_after : map text_of new ≡ map text_of es ++ text ∷ []
  texts_after = ap (map text_of) after ∙ map-append text_of es ((key, v) ∷ []) ∙ ap (λ t. map text_of es ++ t ∷ []) is_key

  -- each pattern is still its text's
  pub patterns_after : v ≡ text → All (λ (p : String Global × List ℕ). p.1 ≡ string_bytes p.0) es → All (λ (p : String Global × List ℕ). p.1 ≡ string_bytes p.0) new
  patterns_after same all = subst (All (λ (p : String Global × List ℕ). p.1 ≡ string_bytes p.0)) (sym after) (All-push (λ (p : String Global × List ℕ). p.1 ≡ string_bytes p.0) es (key, v) all (same ∙ sym is_key))

-- the text at the place of an entry
pub text_at : (text : List ℕ) (es : Entries) (i : ℕ) (p : String Global × List ℕ) → All (λ (q : String Global × List ℕ). q.1 ≡ string_bytes q.0) es → slice_get es i ≡ Some p → p.1 ≡ text → slice_get (map text_of es) i ≡ Some text
text_at text [] i p all e is = absurd cc
text_at text (x ∷ es) zero p all e is = let q : x ≡ p = cc in ap (λ t. Some t) (sym (all 0 x (omega arith)) ∙ ap (λ (y : String Global × List ℕ). y.1) q ∙ is)
text_at text (x ∷ es) (suc i) p all e is = text_at text es i p (λ k d h. all (suc k) d (omega arith)) e is
