-- Rows with the matches of a pattern replaced.
use Rattle.std.proofs.Common.{◌≡◌, ℕ, true, List, [], ◌∷◌, Option, Some, None, IfSome, Result, Ok, Err, IfOk, Vec, Global, map, option_map, refl, sym, ap, subst, ◌∙◌}
use Rattle.doc_values.specs.Tree.{Forest}
use Rattle.guard_syntax.specs.declared.row.Row.{Row}
use Rattle.guard_syntax.specs.declared.row.Row.TheVariants as row
use Rattle.rule_meaning.specs.Functions.{AreRows, ForText, IsGiven, IsReplaced, IsReplacement, IsRow, IsRowFor, MadeRow, replaced_in, replaced_with, text_of, text_tree}
use Rattle.rule_meaning.specs.PatternMatch.{pattern_in}
use Rattle.rule_meaning.specs.StoreModel.{StoreModel, stands_for}
use Rattle.rule_meaning.specs.Values.{Value}
use Rattle.guard_builtins.specs.code.Seen.{ByNothing, ByTexts, both, changes, see_made}
use Rattle.value_store.specs.code.Books.{has_text}
use Rattle.guard_builtins.specs.declared.made.Made.{Made}

module _ (G H : Value → Forest → Type 0) (same : (v : Value) (o : Option Forest) → IsGiven (G v) o → IsGiven (H v) o) (k : StoreModel) (call : ℕ) where
  row_for-same : (o : Option Value) (m : MadeRow) → IsRowFor G call o m → IsRowFor H call o m
  row_for-same None m is = is
  row_for-same (Some v) m (given, fits, is) = (given, same v given fits, is)

  row-same : (r : Row) (m : MadeRow) → IsRow G k call r m → IsRow H k call r m
  row-same (row.Found v) m is = row_for-same (stands_for k v) m is
  row-same (row.Missing v step) m is = is
  row-same (row.Unmade inner) m is = is

  rows-same : (rows : List Row) (made : List MadeRow) → AreRows G k call rows made → AreRows H k call rows made
  rows-same [] [] is = is
  rows-same [] (m ∷ made) is = absurd is
  rows-same (r ∷ rows) [] is = absurd is
  rows-same (r ∷ rows) (m ∷ made) is = (row-same r m is.0, rows-same rows made is.1)

-- without one of the two nothing is replaced
none-replaced : (pattern template : Option (List ℕ)) → ((text : List ℕ) (tree : Forest) → IsReplacement pattern template text tree → ⊥) → (v : Value) (o : Option Forest) → IsGiven (changes ByNothing v) o → IsGiven (IsReplaced pattern template v) o
none-replaced pattern template none v None given = λ tree is. by (text_of v) tree is
  where
    by : (q : Option (List ℕ)) (tree : Forest) → ForText (IsReplacement pattern template) q tree → ⊥
    by None tree is = is
    by (Some text) tree is = none text tree is
none-replaced pattern template none v (Some tree) given = absurd given

without-both : (pattern template : Option (List ℕ)) → both pattern template ≡ None → (v : Value) (o : Option Forest) → IsGiven (changes ByNothing v) o → IsGiven (IsReplaced pattern template v) o
without-both (Some pattern) (Some template) is v o given = absurd cc
without-both (Some pattern) None is v o given = none-replaced (Some pattern) None (λ text tree h. h) v o given
without-both None template is v o given = none-replaced None template (λ text tree h. h) v o given

pub nothing-replaced : {E : Type 0} (r : Result (Vec Made Global) E) (pattern template : Option (List ℕ)) (k : StoreModel) (call : ℕ) (rows : List Row) → None ≡ both pattern template
    → IfOk r (λ made. AreRows (changes ByNothing) k call rows (map see_made made.items)) → IfOk r (λ made. AreRows (IsReplaced pattern template) k call rows (map see_made made.items))
nothing-replaced (Ok made) pattern template k call rows is rows-are =
    rows-same (changes ByNothing) (IsReplaced pattern template) (without-both pattern template (sym is)) k call rows (map see_made made.items) rows-are
nothing-replaced (Err e) pattern template k call rows is rows-are = tt

-- two texts that are both there
both-there : (pattern template : Option (List ℕ)) (p t : List ℕ) → Some (p, t) ≡ both pattern template → (pattern ≡ Some p) × (template ≡ Some t)
both-there (Some x) (Some y) p t is =
    let same : (p, t) ≡ (x, y) = cc in
    (ap (λ (texts : List ℕ × List ℕ). Some texts.0) (sym same), ap (λ (texts : List ℕ × List ℕ). Some texts.1) (sym same))
both-there (Some x) None p t is = absurd cc
both-there None template p t is = absurd cc

pub pattern-there : (book : List (List ℕ)) (pattern template : Option (List ℕ)) (p t : List ℕ) → Some (p, t) ≡ both pattern template → IfSome pattern (λ text. has_text book text ≡ true) → has_text book p ≡ true
pattern-there book pattern template p t is there = subst (λ o. IfSome o (λ text. has_text book text ≡ true)) (both-there pattern template p t is).0 there

-- rows by what replaces are those by the texts of the pattern and the template
pub texts-replaced : {E : Type 0} (r : Result (Vec Made Global) E) (pattern template : Option (List ℕ)) (p t mine given : List ℕ) (k : StoreModel) (call : ℕ) (rows : List Row) → Some (p, t) ≡ both pattern template → mine ≡ p → given ≡ t
    → IfOk r (λ made. AreRows (changes (ByTexts mine given)) k call rows (map see_made made.items)) → IfOk r (λ made. AreRows (IsReplaced pattern template) k call rows (map see_made made.items))
texts-replaced (Ok made) pattern template p t mine given k call rows is pattern_is template_is rows-are =
    let there = both-there pattern template p t is in
    let first : Some mine ≡ pattern = ap (λ s. Some s) pattern_is ∙ sym there.0 in
    let second : Some given ≡ template = ap (λ s. Some s) template_is ∙ sym there.1 in
    subst (λ o. AreRows (IsReplaced pattern o) k call rows (map see_made made.items)) second
    (subst (λ o. AreRows (IsReplaced o (Some given)) k call rows (map see_made made.items)) first rows-are)
texts-replaced (Err e) pattern template p t mine given k call rows is pattern_is template_is rows-are = tt

-- what is made of something that is there
some-mapped : {A : Type 0} (f : A → List ℕ) (o : Option A) (out : List ℕ) → option_map f o ≡ Some out → (p : A) × (o ≡ Some p) × (f p ≡ out)
some-mapped f None out e = absurd cc
some-mapped f (Some p) out e = (p, refl, cc)

-- a text with the matches replaced, by what the pattern was read as
replacement : (pattern template text out : List ℕ) (tree : Forest) → replaced_in pattern template text ≡ Some out → tree ≡ text_tree out → IsReplacement (Some pattern) (Some template) text tree
replacement pattern template text out tree e made =
    let found = some-mapped (replaced_with template text) (pattern_in pattern) out e in (found.0, found.1, made ∙ ap text_tree (sym found.2))

pub text-replaced : (pattern template text out : List ℕ) (v : Value) (tree : Forest) → Some text ≡ text_of v → replaced_in pattern template text ≡ Some out → tree ≡ text_tree out → IsReplaced (Some pattern) (Some template) v tree
text-replaced pattern template text out v tree is e made = subst (λ o. ForText (IsReplacement (Some pattern) (Some template)) o tree) is (replacement pattern template text out tree e made)
