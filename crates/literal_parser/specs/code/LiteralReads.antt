-- What a function that reads a literal ensures: what was read stands behind what the unfinished tree held.
use Rattle.std.specs.Prelude.{◌≡◌, ℕ, Bool, true, false, List, Option, Some, None, Result, Ok, Err, ⊤}
use Rattle.doc_values.specs.Tree.{Forest, Nil, snoc, joined}
use Rattle.doc_values.specs.Unfinished.{Unfinished, innermost, open_kind}
use Rattle.decimals.specs.declared.decimal.Num.{Num}
use Rattle.decimals.specs.declared.decimal.Num.TheVariants as num
use Rattle.doc_values.specs.declared.kind.Kind.{Kind}
use Rattle.doc_values.specs.declared.kind.Kind.TheVariants as kind
use Rattle.literal_parser.specs.declared.token_cursor.Cursor.{Cursor}
use Rattle.literal_parser.specs.declared.token_cursor.Tokens.{Tokens}
use Rattle.literal_parser.specs.declared.cursor.Halt.{Halt}
use Rattle.literal_parser.specs.declared.cursor.Halt.TheVariants.{Dead, NoMemory}
use Rattle.literal_parser.specs.declared.token_class.TokenClass.{TokenClass}
use Rattle.literal_parser.specs.declared.token_class.TokenClass.TheVariants as sh
use Rattle.literal_parser.specs.Forms.{is_scalar}
use Rattle.literal_parser.specs.Literal.{scalar, constant_kind}
use Rattle.literal_parser.specs.code.Parser.{Outcome, Read, Fail, Parser, ◌>>=◌, pure, has}
use Rattle.literal_parser.specs.code.LiteralReading as spec
use Rattle.literal_parser.specs.code.LiteralReading.{Tree, has_room}
use Rattle.literal_parser.specs.code.Reads.{state_of, source}

-- a value behind the complete ones
abbrev pub with_tree : Unfinished → Tree → Unfinished
with_tree u x = record { outer = u.outer; done = snoc u.done x.0 x.1; key = None }

-- values behind the complete ones
abbrev pub with_all : Unfinished → Forest → Unfinished
with_all u t = record { outer = u.outer; done = joined u.done t; key = None }

-- a list or a map is open, and no key awaits its value
abbrev pub IsOpen : Bool → Unfinished → Type 0
IsOpen map u = (innermost u.outer ≡ Some (open_kind map)) × (u.key ≡ None)

-- the same collections are open, and no key awaits its value
abbrev pub IsLevel : Unfinished → Unfinished → Type 0
IsLevel u v = (v.outer ≡ u.outer) × (v.key ≡ None)

-- the outcome is a value with the cursor behind it, and the unfinished tree is as that value leaves it; or no value, and
-- the last token that was looked at; unless memory ran out
abbrev pub Puts : {A X : Type 0} → (A → Unfinished) → Outcome A → Result X Halt → Unfinished → Cursor → Type 0
Puts {A} put outcome (Ok _) u c = (x : A) × (outcome ≡ Read x (state_of c) c.seen) × (u ≡ put x)
Puts put outcome (Err NoMemory) u c = ⊤
Puts put outcome (Err (Dead k)) u c = outcome ≡ Fail k

-- ---- a value of one lexeme

abbrev pub number_kind : Num → Kind
number_kind (num.Whole n) = kind.Whole n
number_kind (num.Fraction d) = kind.Fraction d

abbrev pub kind_of : TokenClass → Num → Kind
kind_of sh.Str n = kind.Text
kind_of sh.Pat n = kind.Pattern
kind_of (sh.Index i) n = number_kind n
kind_of sh.Whole n = number_kind n
kind_of sh.Fraction n = number_kind n
kind_of (sh.Reserved keyword) n = constant_kind keyword
kind_of _ n = kind.Null

abbrev pub is_quoted : TokenClass → Bool
is_quoted sh.Str = true
is_quoted sh.Pat = true
is_quoted _ = false

-- ---- the readers over the tokens of a text

module _ (tokens : Tokens) where
  abbrev pub scalar_at : Option (List ℕ) → Parser Tree
  scalar_at name = has (source tokens) is_scalar (scalar name) >>= (λ l. pure (l, Nil))

  abbrev pub range_at : Option (List ℕ) → Parser Tree
  range_at = spec.range (source tokens)

  -- with what stands in brackets read as it is
  module _ (depth : ℕ) where
    abbrev inner_items : Parser Forest
    inner_items = (spec.within (source tokens) tokens.turns depth).0

    abbrev inner_entries : Parser Forest
    inner_entries = (spec.within (source tokens) tokens.turns depth).1

    abbrev pub list_at : Option (List ℕ) → Parser Tree
    list_at = spec.list (source tokens) tokens.turns (has_room depth) inner_items inner_entries

    abbrev pub map_at : Option (List ℕ) → Parser Tree
    map_at = spec.map_of (source tokens) tokens.turns (has_room depth) inner_items inner_entries

    abbrev pub node_at : Option (List ℕ) → Parser Tree
    node_at = spec.node (source tokens) tokens.turns (has_room depth) inner_items inner_entries

    abbrev pub items_at : Parser Forest
    items_at = spec.items_of (source tokens) tokens.turns (has_room depth) inner_items inner_entries

    abbrev pub more_items_at : ℕ → Parser Forest
    more_items_at = spec.more_items (source tokens) tokens.turns (has_room depth) inner_items inner_entries

    abbrev pub entry_at : Forest → Parser Tree
    entry_at = spec.entry (source tokens) tokens.turns (has_room depth) inner_items inner_entries

    abbrev pub entries_at : Parser Forest
    entries_at = spec.entries_of (source tokens) tokens.turns (has_room depth) inner_items inner_entries

    abbrev pub more_entries_at : ℕ → Forest → Parser Forest
    more_entries_at = spec.more_entries (source tokens) tokens.turns (has_room depth) inner_items inner_entries
