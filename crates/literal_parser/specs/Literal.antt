-- Which lexemes spell a literal: by recursion on its tree. The parts inside a literal have no sites; their nodes have places.
use Rattle.std.specs.Prelude.{◌≡◌, ◌⊎◌, ℕ, Bool, true, false, List, [], Option, Some, None}
use Rattle.doc_values.specs.Tree.{Label, Forest, Nil, Node, snoc, has_key}
use Rattle.decimals.specs.declared.decimal.Num.{Num}
use Rattle.decimals.specs.declared.decimal.Num.TheVariants as num
use Rattle.decimals.specs.declared.decimal.Range.{Range}
use Rattle.doc_values.specs.declared.kind.Kind.{Kind}
use Rattle.doc_values.specs.declared.kind.Kind.TheVariants as kind
use Rattle.literal_parser.specs.declared.keyword.Keyword.{Keyword}
use Rattle.literal_parser.specs.declared.keyword.Keyword.TheVariants as kw
use Rattle.literal_parser.specs.Lexemes.{Word, Reserved, Str, Pat, Whole, Fraction, Lexeme}
use Rattle.literal_parser.specs.Forms.{form, is_lbrace, is_rbrace, is_lbracket, is_rbracket, is_comma, is_colon, is_r, is_number, is_key, is_scalar, is_opening_end, is_closing_end, is_square, opens_range, text_of, number_of}
use Rattle.literal_parser.specs.States.{Rel, ◌⨾◌, Never, Nothing, Takes, Has, When, WhenPair, ranged}

-- ---- what a lexeme gives a node

abbrev pub constant_kind : Keyword → Kind
constant_kind kw.True = kind.Truth true
constant_kind kw.False = kind.Truth false
constant_kind _ = kind.Null

abbrev pub scalar_kind : Word → Kind
scalar_kind (Str text) = kind.Text
scalar_kind (Pat text) = kind.Pattern
scalar_kind (Whole n) = kind.Whole n
scalar_kind (Fraction d) = kind.Fraction d
scalar_kind (Reserved keyword name) = constant_kind keyword
scalar_kind _ = kind.Null

abbrev pub scalar_text : Word → List ℕ
scalar_text (Str text) = text
scalar_text (Pat text) = text
scalar_text _ = []

-- a text, a pattern, a number, a truth value or null
abbrev pub scalar : Option (List ℕ) → Lexeme → Label
scalar name x = record { kind = scalar_kind x.word; text = scalar_text x.word; key = name; at = x.from }

-- a list, a map or a range
abbrev pub holder : Kind → Option (List ℕ) → Lexeme → Label
holder k name x = record { kind = k; text = []; key = name; at = x.from }

-- a whole number and a decimal
abbrev pub are_unlike : Num → Num → Bool
are_unlike (num.Whole m) (num.Fraction e) = true
are_unlike (num.Fraction d) (num.Whole n) = true
are_unlike _ _ = false

abbrev pub is_mixed : Range → Bool
is_mixed r = are_unlike r.low r.high

module _ (s : ℕ → Lexeme) where
  -- range := r ( '(' | '[' ) number ',' number ( ')' | ']' ), the bracket directly behind the `r`; a square bracket leaves its bound in
  abbrev pub IsRange : Range → Rel
  IsRange r = WhenPair s opens_range true (Takes s is_r
      ⨾ Has s is_opening_end (λ x. is_square (form x)) r.low_in ⨾ Has s is_number number_of r.low ⨾ Takes s is_comma
      ⨾ Has s is_number number_of r.high ⨾ Has s is_closing_end (λ x. is_square (form x)) r.high_in)

  -- one node with a key or none, given how what stands in it is spelled as items and as entries
  abbrev pub IsNode : Option (List ℕ) → Label → Forest → Rel → Rel → Rel
  IsNode name l kids as_items as_entries = λ a b.
      ((kids ≡ Nil) × Has s is_scalar (scalar name) l a b)
      ⊎ (((r : Range) × (kids ≡ Nil) × (l ≡ holder (kind.Limits r) name (s a.at)) × (IsRange r ⨾ (λ c d. d ≡ ranged (is_mixed r) (s a.at).from c)) a b)
      ⊎ ((Has s is_lbracket (holder kind.List name) l ⨾ as_items ⨾ Takes s is_rbracket) a b
      ⊎ (Has s is_lbrace (holder kind.Map name) l ⨾ as_entries ⨾ Takes s is_rbrace) a b))

  -- key ':' literal, with a key that no entry before has; key := Str | Name
  abbrev pub IsEntry : Forest → Label → Forest → Rel → Rel → Rel
  IsEntry before l kids as_items as_entries = λ a b.
      (name : List ℕ) × (has_key before name ≡ false) × (Has s is_key text_of name ⨾ Takes s is_colon ⨾ IsNode (Some name) l kids as_items as_entries) a b

  abbrev mutual
    -- (literal,+)?
    pub AreItems : Forest → Rel
    AreItems Nil = When s is_rbracket true Nothing
    AreItems (Node l kids rest) = When s is_rbracket false (IsNode None l kids (AreItems kids) (AreEntries kids) ⨾ AreMoreItems rest)

    pub AreMoreItems : Forest → Rel
    AreMoreItems Nil = When s is_comma false Nothing
    AreMoreItems (Node l kids rest) = Takes s is_comma ⨾ IsNode None l kids (AreItems kids) (AreEntries kids) ⨾ AreMoreItems rest

    -- (key ':' literal),+?
    pub AreEntries : Forest → Rel
    AreEntries Nil = When s is_rbrace true Nothing
    AreEntries (Node l kids rest) = When s is_rbrace false (IsEntry Nil l kids (AreItems kids) (AreEntries kids) ⨾ AreMoreEntries (Node l kids Nil) rest)

    -- behind those before
    pub AreMoreEntries : Forest → Forest → Rel
    AreMoreEntries before Nil = When s is_comma false Nothing
    AreMoreEntries before (Node l kids rest) = Takes s is_comma ⨾ IsEntry before l kids (AreItems kids) (AreEntries kids) ⨾ AreMoreEntries (snoc before l kids) rest

  -- literal := Str | Pat | number | true | false | null | range | '[' (literal,+)? ']' | '{' (key ':' literal),+? '}'
  abbrev pub IsLiteral : Forest → Rel
  IsLiteral (Node l kids Nil) = IsNode None l kids (AreItems kids) (AreEntries kids)
  IsLiteral _ = Never
