-- Which scalar stands at a place of a text, in a setting.
use Rattle.std.specs.Prelude.{ℕ, ◌-◌, ◌<◌, ◌≤◌, ◌≡◌, Bool, true, false, ◌||◌, ◌&&◌, not, List, [], ◌∷◌, length, drop, slice_index, nat_eq, Result, Ok, Err, if◌then◌else◌}
use Rattle.std.specs.Str.{IsCharBoundary}
use Rattle.std.specs.Cow.{cow_str_bytes}
use Rattle.doc_values.specs.declared.kind.Kind.{Kind}
use Rattle.doc_values.specs.declared.kind.Kind.TheVariants as kind
use Rattle.yaml_scalars.specs.declared.scalar.Setting.{Setting}
use Rattle.yaml_scalars.specs.declared.scalar.Scalar.{Scalar}
use Rattle.yaml_scalars.specs.declared.scalar.ScalarRefusal.{ScalarRefusal}
use Rattle.yaml_scalars.specs.declared.scalar.ScalarRefusal.TheVariants as refusal
use Rattle.yaml_scalars.specs.Lines.{Outcome, Stands, Fails, Documents, begins_with, lines}
use Rattle.yaml_scalars.specs.Plain.{plain_on}
use Rattle.yaml_scalars.specs.Quoted.{quoted_on}
use Rattle.yaml_scalars.specs.Block.{block_on}
use Rattle.yaml_scalars.specs.Kinds.{IsPlainKind}

-- `c-byte-order-mark` (3) in UTF-8
abbrev pub begins_order_mark : List ℕ → Bool
begins_order_mark (a ∷ b ∷ c ∷ bs) = nat_eq a 239 && (nat_eq b 187 && nat_eq c 191)
begins_order_mark (a ∷ b ∷ []) = false
begins_order_mark (a ∷ []) = false
begins_order_mark [] = false

-- whether a place is the first column of a line: at the text's start, behind a byte order mark there, or behind a line feed
abbrev pub is_first_column : List ℕ → ℕ → Bool
is_first_column text at = nat_eq at 0 || (nat_eq at 3 && begins_order_mark text) || nat_eq (slice_index text (at - 1)) 10

-- a quote is ahead
abbrev pub begins_quoted : List ℕ → Bool
begins_quoted bytes = begins_with 34 bytes || begins_with 39 bytes

-- `|` or `>` is ahead, where a block scalar may stand: not in flow, and not as a key
abbrev pub begins_block : Setting → List ℕ → Bool
begins_block s bytes = not (s.flow || s.one_line) && (begins_with 124 bytes || begins_with 62 bytes)

-- the plain, quoted or block scalar that begins at a place
abbrev pub plain_scalar : Setting → List ℕ → ℕ → Outcome
plain_scalar s text at = plain_on s (is_first_column text at) (lines at (drop at text))

abbrev pub quoted_scalar : Setting → List ℕ → ℕ → Outcome
quoted_scalar s text at = quoted_on s.one_line (length text) (lines at (drop at text))

abbrev pub block_scalar : Setting → List ℕ → ℕ → Outcome
block_scalar s text at = block_on s.parent (length text) (lines at (drop at text))

abbrev pub scalar_at : Setting → List ℕ → ℕ → Outcome
scalar_at s text at =
    if begins_quoted (drop at text) then quoted_scalar s text at else
    (if begins_block s (drop at text) then block_scalar s text at else plain_scalar s text at)

-- a plain scalar that is no key has its kind by its text; any other scalar is a text
abbrev pub is_typed : Setting → List ℕ → ℕ → Bool
is_typed s text at = not (s.one_line || (begins_quoted (drop at text) || begins_block s (drop at text)))

abbrev pub HasKind : Bool → List ℕ → Kind → Type 0
HasKind true text k = IsPlainKind text k
HasKind false text k = k ≡ kind.Text

-- the answer is the outcome: the scalar with its kind, text and end, or the refusal. Want of memory says nothing.
abbrev pub Answers : Bool → Outcome → Result Scalar ScalarRefusal → Type 0
Answers typed o (Ok s) = (o ≡ Stands (cow_str_bytes s.text) s.end) × HasKind typed (cow_str_bytes s.text) s.kind
Answers typed o (Err (refusal.Syntax at)) = o ≡ Fails at
Answers typed o (Err (refusal.ManyDocuments at)) = o ≡ Documents at
Answers typed o (Err refusal.NoMemory) = Unit {0}

-- the place behind a scalar lies behind that of the scalar, at the beginning of a character or at the text's end
abbrev pub IsEndOf : List ℕ → ℕ → ℕ → Type 0
IsEndOf bytes at end = (at < end) × (end ≤ length bytes) × IsCharBoundary bytes end
