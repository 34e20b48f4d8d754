-- A matcher more among those that are kept.
use Rattle.std.proofs.Common.{◌≡◌, ℕ, Bool, true, false, cond, List, Option, Some, Result, Ok, Err, slice_get, nat_eq, refl, sym, ap, subst, ◌∙◌, arith}
use Rattle.std.specs.Result.{OnOk, OnErr}
use Rattle.std.specs.Map.{lookup}
use Rattle.std.proofs.lemmas.Bool.Decides.{nat_tests}
use Rattle.indexmap.specs.IndexMap.{IndexMap, get, Updates, IsUnchanged}
use Rattle.regex.specs.Strings.{matcher_pattern}
use Rattle.regex.specs.declared.string.matcher.Matcher.{Matcher}
use Rattle.pattern_books.specs.code.Matching.{IsMatcherAt, IsMatcherOf}

-- each matcher that is kept finds the pattern at its place in the book
abbrev pub AreKept : {S : Type 0} → List (List ℕ) → IndexMap ℕ Matcher S → Type 0
AreKept book made = (i : ℕ) (m : Matcher) → get nat_eq made i ≡ Some m → IsMatcherAt book i m

-- what a matcher finds goes by its pattern alone
pub same_pattern : (text : List ℕ) (m n : Matcher) → matcher_pattern n ≡ matcher_pattern m → IsMatcherOf text m → IsMatcherOf text n
same_pattern text m n same is hay bytes = rw same (is hay bytes)

-- one that finds a text stands at the place of that text
pub at_text : (book : List (List ℕ)) (place : ℕ) (text : List ℕ) (m : Matcher) → slice_get book place ≡ Some text → IsMatcherOf text m → IsMatcherAt book place m
at_text book place text m here is other there = subst (λ t. IsMatcherOf t m) (some_same text other (sym here ∙ there)) is where
  some_same : (s t : List ℕ) → Some s ≡ Some t → s ≡ t
  some_same s t e = cc

same_some : (m n : Matcher) → Some m ≡ Some n → m ≡ n
same_some m n e = cc

with_one : (book : List (List ℕ)) (place i : ℕ) (m n : Matcher) (old : Option Matcher) (b : Bool) → nat_eq place i ≡ b → IsMatcherAt book place m → (old ≡ Some n → IsMatcherAt book i n)
    → cond b (Some m) old ≡ Some n → IsMatcherAt book i n
with_one book place i m n old true is here rest e =
    let same : place ≡ i = grind (arith, nat_tests, is) in
    subst (λ k. IsMatcherAt book k n) same (subst (IsMatcherAt book place) (same_some m n e) here)
with_one book place i m n old false is here rest e = rest e

pub kept_with : {S T E : Type 0} (r : Result T E) (book : List (List ℕ)) (old new : IndexMap ℕ Matcher S) (place : ℕ) (m : Matcher) → AreKept book old
    → OnOk r (Updates nat_eq old new place (Some m)) → OnErr r (IsUnchanged old new) → IsMatcherAt book place m → AreKept book new
kept_with (Ok x) book old new place m kept updated unchanged here i n e =
    with_one book place i m n (get nat_eq old i) (nat_eq place i) refl here (kept i n) (sym (updated.0 i) ∙ e)
kept_with (Err x) book old new place m kept updated unchanged here i n e = kept i n (ap (lookup (nat_eq i)) (sym unchanged) ∙ e)

-- one that is used has the pattern that it had
pub kept_written : {S : Type 0} (book : List (List ℕ)) (old new : IndexMap ℕ Matcher S) (place : ℕ) (m n : Matcher) → AreKept book old → get nat_eq old place ≡ Some m
    → Updates nat_eq old new place (Some n) → matcher_pattern n ≡ matcher_pattern m → AreKept book new
kept_written book old new place m n kept here updated same i o e =
    with_one book place i n o (get nat_eq old i) (nat_eq place i) refl (λ text at. same_pattern text m n same (kept place m here text at)) (kept i o) (sym (updated.0 i) ∙ e)
