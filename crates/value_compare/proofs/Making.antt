-- A book that is made pattern by pattern: what it gained, and which pattern comes next.
use Rattle.std.proofs.Common.{◌≡◌, ℕ, zero, suc, ◌+◌, ◌<◌, ◌≤◌, Bool, true, false, List, [], ◌∷◌, ◌++◌, length, map, take, drop, get_or, Ok, refl, sym, ap, subst, ◌∙◌, inl, inr, arith}
use Rattle.std.specs.Prelude.{◌||◌, IsErrOf, IsSome}
use Rattle.std.specs.List.{list_any}
use Rattle.std.specs.Str.{bytes_eq}
use Rattle.std.proofs.lemmas.Bool.{or_left, or_cases}
use Rattle.std.proofs.lemmas.Slice.Eq.{bytes_eq-Decides}
use Rattle.std.proofs.lemmas.List.Folds.{list_any-append}
use Rattle.std.proofs.Math.Seq.{drop-cons}
use Rattle.std.proofs.lemmas.List.{take-append-drop, map-append, map_more}
use Rattle.std.proofs.lemmas.List.Elements.{All-append}
use Rattle.guard_io.specs.Outside.{FaultCounted}
use Rattle.value_store.specs.code.Books.{has_text}
use Rattle.rule_meaning.specs.PatternMatch.{pattern_in}
use Rattle.value_compare.specs.code.Making.{AreRead, IsReadBook, Gains, IsNextOf}
use Rattle.pattern_books.specs.code.Writing.{see_written}
use Rattle.pattern_books.specs.declared.written.WrittenText.{WrittenText}
use Rattle.rule_meaning.specs.Patterns.{Written}

-- a text that stands for what is past the end of a list
abbrev pub past_written : WrittenText
past_written = record { text = record { ref_ptr = (0, 0); now = [] }; at = 0 }

-- ---- gains

or_nothing : (b : Bool) → b ≡ (b || false)
or_nothing true = refl
or_nothing false = refl

or_swap : (a b c : Bool) → ((a || b) || c) ≡ (a || (b || c))
or_swap true b c = refl
or_swap false b c = refl

pub gains-none : (book : List (List ℕ)) → Gains book book []
gains-none book = λ text. or_nothing (has_text book text)

pub gains-append : (old mid new : List (List ℕ)) (ws vs : List Written) → Gains old mid ws → Gains mid new vs → Gains old new (ws ++ vs)
gains-append old mid new ws vs f g = λ text.
    g text ∙ ap (λ b. b || list_any (λ (w : Written). bytes_eq text w.text) vs) (f text)
    ∙ or_swap (has_text old text) (list_any (λ (w : Written). bytes_eq text w.text) ws) (list_any (λ (w : Written). bytes_eq text w.text) vs)
    ∙ ap (λ b. has_text old text || b) (sym (list_any-append (λ (w : Written). bytes_eq text w.text) ws vs))

same_text : (texts : List (List ℕ)) (s t : List ℕ) → bytes_eq s t ≡ true → has_text texts s ≡ has_text texts t
same_text texts s t e = ap (has_text texts) ((bytes_eq-Decides s t).0 e)

-- a text that a book has already
pub gains-present : (book : List (List ℕ)) (text : List ℕ) (at : ℕ) → has_text book text ≡ true → Gains book book (record { text = text; at = at } ∷ [])
gains-present book text at there = λ other. by other (bytes_eq other text) refl
  where
    by : (other : List ℕ) (b : Bool) → bytes_eq other text ≡ b → has_text book other ≡ (has_text book other || (bytes_eq other text || false))
    by other true e = let has : has_text book other ≡ true = same_text book other text e ∙ there in has ∙ sym (or_left _ _ has)
    by other false e = or_nothing (has_text book other) ∙ ap (λ b. has_text book other || (b || false)) (sym e)

-- a text that it gets
pub gains-added : (old new : List (List ℕ)) (text : List ℕ) (at : ℕ) → new ≡ old ++ text ∷ [] → Gains old new (record { text = text; at = at } ∷ [])
gains-added old new text at e = λ other. ap (λ b. has_text b other) e ∙ list_any-append (λ t. bytes_eq other t) old (text ∷ [])

pub read-added : (old new : List (List ℕ)) (text : List ℕ) → new ≡ old ++ text ∷ [] → IsReadBook old → IsSome (pattern_in text) → IsReadBook new
read-added old new text e before reads = λ other has.
    elim (or_cases (has_text old other) (bytes_eq other text || false) (sym (ap (λ b. has_text b other) e ∙ list_any-append (λ t. bytes_eq other t) old (text ∷ [])) ∙ has)) [
      | inl there ↦ before other there
      | inr new ↦ subst (λ t. IsSome (pattern_in t)) (sym ((bytes_eq-Decides other text).0 (or_nothing (bytes_eq other text) ∙ new))) reads
    ]

pub read-none : AreRead []
read-none = λ k d h. absurd (omega arith)

pub read-append : (ws vs : List Written) → AreRead ws → AreRead vs → AreRead (ws ++ vs)
read-append ws vs f g = All-append (λ (w : Written). IsSome (pattern_in w.text)) ws vs f g

pub same-gains : (old new : List (List ℕ)) (ws vs : List Written) → ws ≡ vs → Gains old new ws → Gains old new vs
same-gains old new ws vs e f = subst (Gains old new) e f

pub same-read : (ws vs : List Written) → ws ≡ vs → AreRead ws → AreRead vs
same-read ws vs e f = subst AreRead e f

-- a text more
pub read-one : (w : Written) → IsSome (pattern_in w.text) → AreRead (w ∷ [])
read-one w is zero d within = is
read-one w is (suc k) d within = absurd (omega arith)

pub one-more : (xs : List WrittenText) (i : ℕ) → i < length xs → map see_written (take i xs) ++ see_written (get_or xs i past_written) ∷ [] ≡ map see_written (take (i + 1) xs)
one-more xs i within = sym (map_more see_written xs i past_written within)

-- a book that was empty holds what it gained
pub book-made : (old new : List (List ℕ)) (ws vs : List Written) → old ≡ [] → ws ≡ vs → Gains old new ws → (text : List ℕ) → has_text new text ≡ list_any (λ (w : Written). bytes_eq text w.text) vs
book-made old new ws vs none same gains text =
    gains text ∙ ap (λ (b : List (List ℕ)). has_text b text || list_any (λ (w : Written). bytes_eq text w.text) ws) none ∙ ap (λ (us : List Written). list_any (λ (w : Written). bytes_eq text w.text) us) same

-- ---- what comes next

-- one of the texts as the code has them, such that each before it is read
pub next-written : (xs : List WrittenText) (i at : ℕ) → i < length xs → at ≡ (get_or xs i past_written).at → AreRead (map see_written (take i xs)) → IsNextOf (map see_written xs) (get_or xs i past_written).text.now at
next-written xs i at within same read =
    let x = get_or xs i past_written in
    let before : List Written = map see_written (take i xs) in
    let after : List Written = map see_written (drop (suc i) xs) in (
      before,
      after,
      ap (map see_written) (sym (take-append-drop i xs)) ∙ map-append see_written (take i xs) (drop i xs)
          ∙ ap (λ (rest : List WrittenText). before ++ map see_written rest) (drop-cons xs i past_written within)
          ∙ ap (λ (n : ℕ). before ++ (record { text = x.text.now; at = n } ∷ after)) (sym same),
      read,
    )

-- ---- faults

-- what was made is no refusal
pub made-no_refusal : {T E : Type 0} (x : T) (e : E) → IsErrOf (Ok x) e → ⊥
made-no_refusal x e is = cc

pub no_less : {n : ℕ} → n ≤ n
no_less = omega arith

pub rose-later : (old mid new : ℕ) → old ≤ mid → FaultCounted mid new → FaultCounted old new
rose-later old mid new kept (inl rose) = inl (omega arith)
rose-later old mid new kept (inr last) = inr last
