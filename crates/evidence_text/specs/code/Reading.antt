-- How the fields of a line are read, each from its bytes. That this finds just what `Spelling` spells is proved.
use Rattle.std.specs.Prelude.{ℕ, ◌+◌, ◌^◌, Bool, true, false, not, ◌&&◌, ◌==◌, List, [], ◌∷◌, Option, Some, None, option_map, option_and_then, if◌then◌else◌, codes, take, drop, nat_lt, find}
use Rattle.std.specs.Char.{is_ascii_digit}
use Rattle.std.specs.List.{list_all, position, slice_split}
use Rattle.std.specs.Str.{bytes_eq}
use Rattle.std.specs.Str.Parse.{digits_value}
use Rattle.guard_syntax.specs.declared.row.Origin.{Origin}
use Rattle.guard_syntax.specs.declared.row.Origin.TheVariants.{Template, Literal, Made}
use Rattle.guard_syntax.specs.declared.row.Ref.{Ref}
use Rattle.guard_syntax.specs.declared.row.Row.{Row}
use Rattle.guard_syntax.specs.declared.row.Row.TheVariants.{Found, Missing, Unmade}
use Rattle.guard_syntax.specs.declared.row.Verdict.{Verdict}
use Rattle.guard_syntax.specs.declared.row.Verdict.TheVariants.{Pass, Fail, Skip}
use Rattle.evidence_lines.specs.Shapes.{sort_of, is_placed, may_cite}
use Rattle.evidence_lines.specs.declared.line.Line.{Line}
use Rattle.evidence_lines.specs.declared.line.LineKind.{LineKind}
use Rattle.evidence_lines.specs.declared.line.LineKind.TheVariants as kind
use Rattle.evidence_lines.specs.declared.line.Outcome.{Outcome}
use Rattle.evidence_lines.specs.declared.line.Outcome.TheVariants as says
use Rattle.evidence_lines.specs.declared.line.Sort.{Sort}
use Rattle.evidence_lines.specs.declared.line.Sort.TheVariants as sort
use Rattle.evidence_text.specs.Spelling.{kind_text}

-- ---- numbers

abbrev pub is_at : ℕ → ℕ → Bool
is_at separator b = b == separator

abbrev pub cut_by : List ℕ → ℕ → List ℕ × List ℕ
cut_by bytes at = (take at bytes, drop (at + 1) bytes)

-- the bytes in front of the first separator, and those behind it
unfoldable pub cut : ℕ → List ℕ → Option (List ℕ × List ℕ)
cut separator bytes = option_map (cut_by bytes) (position (is_at separator) bytes)

-- one digit, or more of which the first is not `0` (48)
abbrev pub is_numeral : List ℕ → Bool
is_numeral [] = false
is_numeral (first ∷ []) = is_ascii_digit first
is_numeral (first ∷ second ∷ rest) = not (first == 48) && list_all is_ascii_digit (first ∷ second ∷ rest)

-- the number of digits, if it is below 2^64
abbrev pub sized_in : List ℕ → Option ℕ
sized_in digits = if nat_lt (digits_value 10 digits) (2 ^ 64) then Some (digits_value 10 digits) else None

-- the same of bytes that may be no digits
abbrev pub digits_in : List ℕ → Option ℕ
digits_in bytes = if list_all is_ascii_digit bytes then sized_in bytes else None

-- a number below 2^64
abbrev pub count_in : List ℕ → Option ℕ
count_in bytes = if is_numeral bytes then sized_in bytes else None

abbrev pub if_place : ℕ → Option ℕ
if_place n = if nat_lt n (2 ^ 32) then Some n else None

-- a number below 2^32
abbrev pub place_in : List ℕ → Option ℕ
place_in bytes = option_and_then if_place (count_in bytes)

-- `-` (45) alone
abbrev pub is_none_sign : List ℕ → Bool
is_none_sign bytes = bytes_eq bytes (codes "-")

-- a number where one stands in this place, else `-`
abbrev pub if_placed : Bool → (List ℕ → Option ℕ) → List ℕ → Option (Option ℕ)
if_placed true number_in bytes = option_map (λ n. Some n) (number_in bytes)
if_placed false number_in bytes = if is_none_sign bytes then Some None else None

-- ---- values and rows

abbrev pub ref_at : Origin → Bool → ℕ → Ref
ref_at origin key node = record { origin = origin; node = node; key = key }

-- a node, by what stands before and behind a `k`
abbrev pub node_by : Origin → List ℕ → Option (List ℕ × List ℕ) → Option Ref
node_by origin bytes None = option_map (ref_at origin false) (place_in bytes)
node_by origin bytes (Some (node, [])) = option_map (ref_at origin true) (place_in node)
node_by origin bytes (Some (node, _ ∷ _)) = None

-- a node, and `k` (107) where its key is meant
abbrev pub node_in : Origin → List ℕ → Option Ref
node_in origin bytes = node_by origin bytes (cut 107 bytes)

-- a site and a node with a point between them
abbrev pub literal_in : Option (List ℕ × List ℕ) → Option Ref
literal_in None = None
literal_in (Some (site, node)) = option_and_then (λ n. node_in (Literal n) node) (place_in site)

-- a row and a node with a point between them, behind a line
abbrev pub made_by : List ℕ → Option (List ℕ × List ℕ) → Option Ref
made_by line None = None
made_by line (Some (row, node)) = option_and_then (λ n. option_and_then (λ m. node_in (Made n m) node) (count_in row)) (count_in line)

abbrev pub made_in : Option (List ℕ × List ℕ) → Option Ref
made_in None = None
made_in (Some (line, rest)) = made_by line (cut 46 rest)

-- `d`, `l` or `c`, which say the origin
abbrev pub ref_in : List ℕ → Option Ref
ref_in [] = None
ref_in (first ∷ rest) =
    if first == 100 then node_in Template rest else
    (if first == 108 then literal_in (cut 46 rest) else
    (if first == 99 then made_in (cut 46 rest) else None))

-- a site and a value with a colon between them
abbrev pub missing_in : Option (List ℕ × List ℕ) → Option Row
missing_in None = None
missing_in (Some (step, value)) = option_and_then (λ n. option_map (λ v. Missing v n) (ref_in value)) (place_in step)

-- `m` and `u` say what is missing; else it is a value
abbrev pub row_in : List ℕ → Option Row
row_in [] = None
row_in (first ∷ rest) =
    if first == 109 then missing_in (cut 58 rest) else
    (if first == 117 then option_map (λ n. Unmade n) (place_in rest) else option_map (λ v. Found v) (ref_in (first ∷ rest)))

-- ---- lists

-- the items that are read, one after another
abbrev pub all_in : {A : Type 0} → (List ℕ → Option A) → List (List ℕ) → Option (List A)
all_in item_in [] = Some []
all_in item_in (x ∷ xs) = option_and_then (λ y. option_map (λ ys. y ∷ ys) (all_in item_in xs)) (item_in x)

-- the items between commas (44)
abbrev pub items_in : {A : Type 0} → (List ℕ → Option A) → List ℕ → Option (List A)
items_in item_in bytes = all_in item_in (slice_split (is_at 44) bytes)

-- `-` for the empty list, or items
abbrev pub list_in : {A : Type 0} → (List ℕ → Option A) → List ℕ → Option (List A)
list_in item_in bytes = if is_none_sign bytes then Some [] else items_in item_in bytes

-- ---- lines

abbrev pub kinds : List LineKind
kinds =
    kind.Step ∷ kind.Test ∷ kind.Disj ∷ kind.Conj ∷ kind.Frame ∷ kind.Literal ∷ kind.Rule ∷ kind.Filter ∷ kind.Block ∷ kind.When
    ∷ kind.Call ∷ kind.Fn ∷ kind.Keys ∷ kind.Capture ∷ kind.Types ∷ kind.Kinds ∷ kind.Refer ∷ kind.Found ∷ kind.File ∷ []

-- the kind of this name
abbrev pub kind_in : List ℕ → Option LineKind
kind_in name = find (λ k. bytes_eq (kind_text k) name) kinds

abbrev pub verdict_in : List ℕ → Option Verdict
verdict_in bytes = if bytes_eq bytes (codes "P") then Some Pass else (if bytes_eq bytes (codes "F") then Some Fail else (if bytes_eq bytes (codes "S") then Some Skip else None))

-- what a line says, by the sort that its kind says
abbrev pub outcome_in : Sort → List ℕ → Option Outcome
outcome_in sort.Value bytes = option_map (λ v. says.Value v) (ref_in bytes)
outcome_in sort.Rows bytes = option_map (λ rows. says.Rows rows) (list_in row_in bytes)
outcome_in sort.Verdict bytes = option_map (λ verdict. says.Verdict verdict) (verdict_in bytes)

-- the cites of a kind, which are none where it may not cite
abbrev pub cites_in : Bool → List ℕ → Option (List ℕ)
cites_in true bytes = list_in count_in bytes
cites_in false bytes = if is_none_sign bytes then Some [] else None

-- the bytes of the fields of a line
pub record Parts : Type 0 where
  pub kind : List ℕ
  pub frame : List ℕ
  pub site : List ℕ
  pub cites : List ℕ
  pub outcome : List ℕ

abbrev pub parts_of : List ℕ → List ℕ → List ℕ → (List ℕ × List ℕ) → Parts
parts_of kind frame site ends = record { kind = kind; frame = frame; site = site; cites = ends.0; outcome = ends.1 }

abbrev pub site_part : List ℕ → List ℕ → List ℕ × List ℕ → Option Parts
site_part kind frame site = option_map (parts_of kind frame site.0) (cut 32 site.1)

abbrev pub frame_part : List ℕ → List ℕ × List ℕ → Option Parts
frame_part kind frame = option_and_then (site_part kind frame.0) (cut 32 frame.1)

abbrev pub kind_part : List ℕ × List ℕ → Option Parts
kind_part kind = option_and_then (frame_part kind.0) (cut 32 kind.1)

-- what four spaces (32) part; the last field may have more
abbrev pub parts_in : List ℕ → Option Parts
parts_in bytes = option_and_then kind_part (cut 32 bytes)

-- the fields that stand first
pub record Placed : Type 0 where
  pub kind : LineKind
  pub frame : Option ℕ
  pub site : Option ℕ

abbrev pub placed_at : LineKind → Option ℕ → Option ℕ → Placed
placed_at k frame site = record { kind = k; frame = frame; site = site }

abbrev pub site_by : Parts → LineKind → Option ℕ → Option Placed
site_by parts k frame = option_map (placed_at k frame) (if_placed (is_placed k) place_in parts.site)

abbrev pub placed_by : Parts → LineKind → Option Placed
placed_by parts k = option_and_then (site_by parts k) (if_placed (is_placed k) count_in parts.frame)

abbrev pub placed_in : Parts → Option Placed
placed_in parts = option_and_then (placed_by parts) (kind_in parts.kind)

abbrev pub line_at : Placed → List ℕ → Outcome → Line
line_at placed cites outcome = record { kind = placed.kind; frame = placed.frame; site = placed.site; cites = cites; outcome = outcome }

abbrev pub outcome_by : Parts → Placed → List ℕ → Option Line
outcome_by parts placed cites = option_map (line_at placed cites) (outcome_in (sort_of placed.kind) parts.outcome)

abbrev pub line_by : Parts → Placed → Option Line
line_by parts placed = option_and_then (outcome_by parts placed) (cites_in (may_cite placed.kind) parts.cites)

abbrev pub line_of_parts : Parts → Option Line
line_of_parts parts = option_and_then (line_by parts) (placed_in parts)

-- a line, from its bytes without the newline
abbrev pub line_in : List ℕ → Option Line
line_in bytes = option_and_then line_of_parts (parts_in bytes)

-- what was read, if it was
abbrev pub if_read : {A : Type 0} → Bool → A → Option A
if_read true x = Some x
if_read false x = None
