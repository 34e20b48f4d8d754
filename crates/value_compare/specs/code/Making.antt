-- What the making of a book keeps, one pattern after another.
use Rattle.std.specs.Prelude.{ℕ, ◌≡◌, true, ◌||◌, List, ◌∷◌, ◌++◌, All, IsSome}
use Rattle.std.specs.List.{list_any}
use Rattle.std.specs.Str.{bytes_eq}
use Rattle.value_store.specs.code.Books.{has_text}
use Rattle.value_compare.specs.declared.make_book.BookRefusal.{BookRefusal}
use Rattle.value_compare.specs.declared.make_book.BookRefusal.TheVariants.{BadPattern, PatternRefused, NoMemory}
use Rattle.value_compare.specs.declared.maker.PatternFault.{PatternFault}
use Rattle.value_compare.specs.declared.maker.PatternFault.TheVariants.{Syntax, TooLarge, Memory}
use Rattle.rule_meaning.specs.PatternMatch.{pattern_in}
use Rattle.rule_meaning.specs.Patterns.{Written}

-- each of these patterns is read
abbrev pub AreRead : List Written → Type 0
AreRead ws = All (λ (w : Written). IsSome (pattern_in w.text)) ws

-- each text of a book is read as a pattern
abbrev pub IsReadBook : List (List ℕ) → Type 0
IsReadBook book = (text : List ℕ) → has_text book text ≡ true → IsSome (pattern_in text)

-- a book has these patterns more, and no others
abbrev pub Gains : List (List ℕ) → List (List ℕ) → List Written → Type 0
Gains old new ws = (text : List ℕ) → has_text new text ≡ (has_text old text || list_any (λ (w : Written). bytes_eq text w.text) ws)

-- one of these patterns, such that each before it is read
abbrev pub IsNextOf : List Written → (text : List ℕ) → (at : ℕ) → Type 0
IsNextOf ws text at = (before after : List Written) × (ws ≡ before ++ (record { text = text; at = at } ∷ after)) × AreRead before

-- the refusal of a book by the fault of a pattern that stands at a place
abbrev pub refusal_of : PatternFault → (at : ℕ) → BookRefusal
refusal_of Syntax at = BadPattern at
refusal_of TooLarge at = PatternRefused at
refusal_of Memory at = NoMemory
