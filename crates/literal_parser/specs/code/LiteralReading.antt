-- How a literal is read: a function of the lexemes.
use Rattle.std.specs.Prelude.{ℕ, zero, suc, Bool, true, false, List, Option, Some, None, if◌then◌else◌}
use Rattle.doc_values.specs.Tree.{Label, Forest, Nil, Node, snoc, has_key}
use Rattle.decimals.specs.declared.decimal.Range.{Range}
use Rattle.doc_values.specs.declared.kind.Kind.TheVariants as kind
use Rattle.literal_parser.specs.Lexemes.{Lexeme}
use Rattle.literal_parser.specs.Forms.{form, is_lbrace, is_rbrace, is_lbracket, is_rbracket, is_comma, is_colon, is_r, is_number, is_key, is_scalar, is_opening_end, is_closing_end, is_square, opens_range, text_of, number_of}
use Rattle.literal_parser.specs.Literal.{scalar, holder, is_mixed}
use Rattle.literal_parser.specs.code.Parser.{Parser, ◌>>=◌, ◌>>◌, pure, stop, note_range, takes, has, choose, choose_pair}

-- whether one bracket more may open, where so many may
abbrev pub has_room : ℕ → Bool
has_room zero = false
has_room (suc depth) = true

-- a node and what stands in it
abbrev pub Tree : Type 0
Tree = Label × Forest

module _ (s : ℕ → Lexeme) where
  unfoldable pub bounds : Parser Range
  bounds = do
    low_in ← has s is_opening_end (λ x. is_square (form x))
    low ← has s is_number number_of
    takes s is_comma
    high ← has s is_number number_of
    high_in ← has s is_closing_end (λ x. is_square (form x))
    pure (record { low = low; high = high; low_in = low_in; high_in = high_in })

  unfoldable pub range : Option (List ℕ) → Parser Tree
  range name = do
    r ← has s is_r (λ x. x)
    b ← bounds
    note_range (is_mixed b) r.from
    pure (holder (kind.Limits b) name r, Nil)

  -- at most as many turns; whether a bracket may open; what stands in brackets is read by these
  module _ (turns : ℕ) (room : Bool) (inner_items inner_entries : Parser Forest) where
    unfoldable pub list : Option (List ℕ) → Parser Tree
    list name = do
      l ← has s is_lbracket (holder kind.List name)
      kids ← inner_items
      takes s is_rbracket
      pure (l, kids)

    unfoldable pub map_of : Option (List ℕ) → Parser Tree
    map_of name = do
      l ← has s is_lbrace (holder kind.Map name)
      kids ← inner_entries
      takes s is_rbrace
      pure (l, kids)

    -- an `r`, which is no value without its bracket
    unfoldable pub bounded : Option (List ℕ) → Parser Tree
    bounded name = if room then choose_pair s opens_range (range name) stop else stop

    unfoldable pub node : Option (List ℕ) → Parser Tree
    node name = choose s is_scalar (do l ← has s is_scalar (scalar name); pure (l, Nil))
        (choose s is_lbracket (list name) (choose s is_lbrace (map_of name) (choose s is_r (bounded name) stop)))

    unfoldable pub more_items : ℕ → Parser Forest
    more_items zero = stop
    more_items (suc k) = choose s is_comma (do takes s is_comma; x ← node None; rest ← more_items k; pure (Node x.0 x.1 rest)) (pure Nil)

    unfoldable pub items_of : Parser Forest
    items_of = choose s is_rbracket (pure Nil) (do x ← node None; rest ← more_items turns; pure (Node x.0 x.1 rest))

    unfoldable pub valued : List ℕ → Parser Tree
    valued name = do
      takes s is_colon
      node (Some name)

    unfoldable pub entry : Forest → Parser Tree
    entry before = do
      name ← has s is_key text_of
      if has_key before name then stop else valued name

    unfoldable pub more_entries : ℕ → Forest → Parser Forest
    more_entries zero before = stop
    more_entries (suc k) before = choose s is_comma (do takes s is_comma; x ← entry before; rest ← more_entries k (snoc before x.0 x.1); pure (Node x.0 x.1 rest)) (pure Nil)

    unfoldable pub entries_of : Parser Forest
    entries_of = choose s is_rbrace (pure Nil) (do x ← entry Nil; rest ← more_entries turns (Node x.0 x.1 Nil); pure (Node x.0 x.1 rest))

  -- what stands in the brackets of a literal, with brackets nested no deeper in it than the last number
  abbrev pub within : ℕ → ℕ → Parser Forest × Parser Forest
  within turns zero = (stop, stop)
  within turns (suc depth) = let i = within turns depth in (items_of turns (has_room depth) i.0 i.1, entries_of turns (has_room depth) i.0 i.1)

  -- a literal, with brackets nested no deeper than the last number
  unfoldable pub literal_of : ℕ → ℕ → Parser Forest
  literal_of turns depth = do
    x ← node turns (has_room depth) (within turns depth).0 (within turns depth).1 None
    pure (Node x.0 x.1 Nil)
