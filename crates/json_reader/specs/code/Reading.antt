-- Reading as a function on lists: a byte, a phase and an unfinished tree give the next, or the reading stops. No public
-- clause names this file: that it gives exactly the trees of `Json` and the refusals of `Refusals` is proved.
use Rattle.std.specs.Prelude.{ℕ, suc, Bool, true, false, ◌&&◌, ◌||◌, not, List, [], ◌∷◌, ◌++◌, length, drop, encode_utf8, Option, Some, None, Result, Ok, Err, nat_lt, nat_eq, if◌then◌else◌}
use Rattle.std.specs.List.{starts_with}
use Rattle.doc_values.specs.declared.kind.Kind.{Kind}
use Rattle.doc_values.specs.declared.kind.Kind.TheVariants as kind
use Rattle.doc_values.specs.Tree.{Forest, has_key, is_map}
use Rattle.doc_values.specs.Unfinished.{Level, Unfinished, start, with_value, with_open, with_key, with_end}
use Rattle.decimals.specs.Number.{is_digit}
use Rattle.json_reader.specs.declared.bytes.Class.{Class}
use Rattle.json_reader.specs.declared.bytes.Class.TheVariants.{Space, Quote, Open, Close, OpenList, CloseList, Colon, Comma, Minus, Zero, Digit, LetterN, LetterT, LetterF, Other}
use Rattle.json_reader.specs.declared.number.NumberPart.{NumberPart}
use Rattle.json_reader.specs.declared.refusal.JsonRefusal.{JsonRefusal}
use Rattle.json_reader.specs.declared.refusal.JsonRefusal.TheVariants.{Syntax, DuplicateKey, NumberRange, TooDeep}
use Rattle.json_reader.specs.code.Numbers.{number_kind, first_part, part_next, completes}
use Rattle.json_reader.specs.Json.{is_space, is_unescaped, is_hex, hex, is_high, is_low, escape, byte_order_mark}

-- what a byte is, outside texts
abbrev pub class_of : ℕ → Class
class_of b =
    if is_space b then Space else
    (if nat_eq b 34 then Quote else
    (if nat_eq b 123 then Open else
    (if nat_eq b 125 then Close else
    (if nat_eq b 58 then Colon else
    (if nat_eq b 44 then Comma else
    (if nat_eq b 45 then Minus else
    (if nat_eq b 48 then Zero else
    (if is_digit b then Digit else
    (if nat_eq b 91 then OpenList else
    (if nat_eq b 93 then CloseList else
    (if nat_eq b 110 then LetterN else
    (if nat_eq b 116 then LetterT else
    (if nat_eq b 102 then LetterF else Other)))))))))))))

-- the bytes that stand in number texts
abbrev pub is_number_byte : ℕ → Bool
is_number_byte b = is_digit b || (nat_eq b 45 || (nat_eq b 43 || (nat_eq b 46 || (nat_eq b 101 || nat_eq b 69))))

-- the bytes that begin one
abbrev pub begins_number : ℕ → Bool
begins_number b = is_digit b || nat_eq b 45

-- what reading stands in: between two tokens, or in one, with what was read of it and where it began
pub data Phase : Type 0 where
  AtValue : Phase
  AtKeyOrEnd : Phase
  AtItemOrEnd : Phase
  AtKey : Phase
  AtColon : Phase
  After : Phase
  InString : (key : Bool) (text part : List ℕ) (at : ℕ) → Phase
  InWord : (rest : List ℕ) (word : Kind) (at : ℕ) → Phase
  InNumber : (part : NumberPart) (text : List ℕ) (at : ℕ) → Phase

-- what a byte leads to
pub data Next : Type 0 where
  Stop : Next
  Go : Phase → Unfinished → Next

-- where a value is awaited
abbrev pub value_next : ℕ → Unfinished → ℕ → Class → Next
value_next at u b Space = Go AtValue u
value_next at u b Quote = Go (InString false [] [] at) u
value_next at u b Open = if nat_lt (length u.outer) 128 then Go AtKeyOrEnd (with_open kind.Map at u) else Stop
value_next at u b OpenList = if nat_lt (length u.outer) 128 then Go AtItemOrEnd (with_open kind.List at u) else Stop
value_next at u b LetterN = Go (InWord (117 ∷ 108 ∷ 108 ∷ []) kind.Null at) u
value_next at u b LetterT = Go (InWord (114 ∷ 117 ∷ 101 ∷ []) (kind.Truth true) at) u
value_next at u b LetterF = Go (InWord (97 ∷ 108 ∷ 115 ∷ 101 ∷ []) (kind.Truth false) at) u
value_next at u b Minus = Go (InNumber (first_part b) (b ∷ []) at) u
value_next at u b Zero = Go (InNumber (first_part b) (b ∷ []) at) u
value_next at u b Digit = Go (InNumber (first_part b) (b ∷ []) at) u
value_next at u b _ = Stop

-- no key is left
abbrev pub keyless : Unfinished → Unfinished
keyless u = record { outer = u.outer; done = u.done; key = None }

-- by whether the innermost open collection is a map, if one is open
abbrev pub by_form : List Level → Next → Next → Next
by_form [] m n = Stop
by_form (x ∷ xs) m n = if is_map x.label.kind then m else n

-- behind a value
abbrev pub after_next : Unfinished → Class → Next
after_next u Space = Go After u
after_next u Comma = by_form u.outer (Go AtKey u) (Go AtValue (keyless u))
after_next u Close = by_form u.outer (Go After (with_end u)) Stop
after_next u CloseList = by_form u.outer Stop (Go After (with_end u))
after_next u _ = Stop

-- behind the opening bracket of a map
abbrev pub key_or_end_next : ℕ → Unfinished → Class → Next
key_or_end_next at u Space = Go AtKeyOrEnd u
key_or_end_next at u Quote = Go (InString true [] [] at) u
key_or_end_next at u Close = by_form u.outer (Go After (with_end u)) Stop
key_or_end_next at u _ = Stop

-- behind that of a list
abbrev pub item_or_end_next : ℕ → Unfinished → ℕ → Class → Next
item_or_end_next at u b Space = Go AtItemOrEnd u
item_or_end_next at u b CloseList = by_form u.outer Stop (Go After (with_end u))
item_or_end_next at u b c = value_next at (keyless u) b c

-- behind a comma
abbrev pub key_next : ℕ → Unfinished → Class → Next
key_next at u Space = Go AtKey u
key_next at u Quote = Go (InString true [] [] at) u
key_next at u _ = Stop

-- behind a key
abbrev pub colon_next : Unfinished → Class → Next
colon_next u Space = Go AtColon u
colon_next u Colon = Go AtValue u
colon_next u _ = Stop

-- behind a byte of a literal name
abbrev pub word_on : List ℕ → Kind → ℕ → Unfinished → Next
word_on [] k at u = Go After (with_value k [] at u)
word_on (c ∷ rest) k at u = Go (InWord (c ∷ rest) k at) u

-- in a literal name
abbrev pub word_next : List ℕ → Kind → ℕ → Unfinished → ℕ → Next
word_next [] k at u b = Stop
word_next (c ∷ rest) k at u b = if nat_eq b c then word_on rest k at u else Stop

-- a number is complete: its value, and what the byte behind it leads to; a number that is out of range stops
abbrev pub number_done : Option Kind → ℕ → Unfinished → (Unfinished → Next) → Next
number_done None at u go = Stop
number_done (Some k) at u go = go (with_value k [] at u)

-- in a number text: a byte goes on with it, or stands behind it
abbrev pub number_next : Option NumberPart → List ℕ → ℕ → Unfinished → ℕ → Next
number_next (Some q) t a u b = Go (InNumber q (t ++ (b ∷ [])) a) u
number_next None t a u b = number_done (number_kind t) a u (λ w. after_next w (class_of b))

-- whether bytes behind a backslash may go on to an escape: by the last of them, if those before it may
abbrev pub may_escape : List ℕ → Bool
may_escape (x ∷ y ∷ []) = nat_eq y 117
may_escape (x ∷ y ∷ a ∷ []) = is_hex a
may_escape (x ∷ y ∷ a ∷ b ∷ []) = is_hex b && not (is_low a b)
may_escape (x ∷ y ∷ a ∷ b ∷ c ∷ []) = is_hex c
may_escape (x ∷ y ∷ a ∷ b ∷ c ∷ d ∷ []) = is_hex d && is_high a b
may_escape (x ∷ y ∷ a ∷ b ∷ c ∷ d ∷ v ∷ []) = nat_eq v 92
may_escape (x ∷ y ∷ a ∷ b ∷ c ∷ d ∷ v ∷ w ∷ []) = nat_eq w 117
may_escape (x ∷ y ∷ a ∷ b ∷ c ∷ d ∷ v ∷ w ∷ e ∷ []) = is_hex e && nat_eq (hex e) 13
may_escape (x ∷ y ∷ a ∷ b ∷ c ∷ d ∷ v ∷ w ∷ e ∷ f ∷ []) = is_hex f && is_low e f
may_escape (x ∷ y ∷ a ∷ b ∷ c ∷ d ∷ v ∷ w ∷ e ∷ f ∷ g ∷ []) = is_hex g
may_escape _ = false

-- what a byte of a string does: it ends the string, goes on in an escape, or completes a character
pub data Heard : Type 0 where
  Bad : Heard
  Closed : Heard
  Part : (part : List ℕ) → Heard
  Whole : (meaning : List ℕ) → Heard

-- an escape or a part of it
abbrev pub escape_heard : Option ℕ → Bool → List ℕ → Heard
escape_heard (Some n) may part = Whole (encode_utf8 n)
escape_heard None may part = if may then Part part else Bad

abbrev pub heard : List ℕ → ℕ → Heard
heard [] b = if nat_eq b 34 then Closed else (if nat_eq b 92 then Part (92 ∷ []) else (if is_unescaped b then Whole (b ∷ []) else Bad))
heard (x ∷ part) b = let s : List ℕ = x ∷ (part ++ (b ∷ [])) in escape_heard (escape s) (may_escape s) s

-- the end of a string
abbrev pub string_end : Bool → List ℕ → ℕ → Unfinished → Next
string_end true t a u = if has_key u.done t then Stop else Go AtColon (with_key t u)
string_end false t a u = Go After (with_value kind.Text t a u)

abbrev pub string_next : Heard → Bool → List ℕ → ℕ → Unfinished → Next
string_next Bad key t a u = Stop
string_next Closed key t a u = string_end key t a u
string_next (Part part) key t a u = Go (InString key t part a) u
string_next (Whole m) key t a u = Go (InString key (t ++ m) [] a) u

-- what a byte at a place leads to, in any phase
abbrev pub next : ℕ → Phase → Unfinished → ℕ → Next
next at AtValue u b = value_next at u b (class_of b)
next at AtKeyOrEnd u b = key_or_end_next at u (class_of b)
next at AtItemOrEnd u b = item_or_end_next at u b (class_of b)
next at AtKey u b = key_next at u (class_of b)
next at AtColon u b = colon_next u (class_of b)
next at After u b = after_next u (class_of b)
next at (InString key t part a) u b = string_next (heard part b) key t a u
next at (InWord rest k a) u b = word_next rest k a u b
next at (InNumber q t a) u b = number_next (part_next q b) t a u b

-- the tree, where nothing is open
abbrev pub whole_tree : List Level → Forest → Option Forest
whole_tree [] done = Some done
whole_tree (x ∷ xs) done = None

-- the same where a number is complete
abbrev pub number_end : Option Kind → ℕ → Unfinished → Option Forest
number_end None at u = None
number_end (Some k) at u = let w : Unfinished = with_value k [] at u in whole_tree w.outer w.done

-- what the end of the text gives
abbrev pub final : Phase → Unfinished → Option Forest
final AtValue u = None
final AtKeyOrEnd u = None
final AtItemOrEnd u = None
final AtKey u = None
final AtColon u = None
final After u = whole_tree u.outer u.done
final (InString key t part a) u = None
final (InWord rest k a) u = None
final (InNumber q t a) u = number_end (number_kind t) a u

-- the rest, if reading did not stop
abbrev pub goes_on : Next → (Phase → Unfinished → Option Forest) → Option Forest
goes_on Stop f = None
goes_on (Go p u) f = f p u

-- the tree that bytes from a place on complete, or none
abbrev pub read : List ℕ → ℕ → Phase → Unfinished → Option Forest
read [] at p u = final p u
read (b ∷ bs) at p u = goes_on (next at p u b) (read bs (suc at))

-- how many bytes of a byte order mark stand in front
abbrev pub mark_len : List ℕ → ℕ
mark_len bytes = if starts_with nat_eq bytes byte_order_mark then 3 else 0

-- why a byte stops reading, where it does: where a value is awaited, in a string, and in or behind a number text
abbrev pub value_cause : ℕ → Class → JsonRefusal
value_cause at Open = TooDeep at
value_cause at OpenList = TooDeep at
value_cause at _ = Syntax at

abbrev pub string_cause : ℕ → Heard → ℕ → JsonRefusal
string_cause at Closed a = DuplicateKey a
string_cause at _ a = Syntax at

abbrev pub number_cause : ℕ → Bool → Option Kind → ℕ → JsonRefusal
number_cause at true None a = NumberRange a
number_cause at _ _ a = Syntax at

-- why a byte at a place stops reading, in any phase
abbrev pub cause : ℕ → Phase → ℕ → JsonRefusal
cause at AtValue b = value_cause at (class_of b)
cause at AtItemOrEnd b = value_cause at (class_of b)
cause at (InString key t part a) b = string_cause at (heard part b) a
cause at (InNumber q t a) b = number_cause at (completes q) (number_kind t) a
cause at _ b = Syntax at

-- why the end of the text does
abbrev pub final_cause : ℕ → Phase → JsonRefusal
final_cause at (InNumber q t a) = number_cause at (completes q) (number_kind t) a
final_cause at _ = Syntax at

-- the rest, or the cause of the stop
abbrev pub judged : Next → JsonRefusal → (Phase → Unfinished → Result Forest JsonRefusal) → Result Forest JsonRefusal
judged Stop e f = Err e
judged (Go p u) e f = f p u

abbrev pub ended : Option Forest → JsonRefusal → Result Forest JsonRefusal
ended (Some v) e = Ok v
ended None e = Err e

-- the tree that bytes from a place on complete, or why reading stops, and where
abbrev pub judge : List ℕ → ℕ → Phase → Unfinished → Result Forest JsonRefusal
judge [] at p u = ended (final p u) (final_cause at p)
judge (b ∷ bs) at p u = judged (next at p u b) (cause at p b) (judge bs (suc at))

-- what reading gives from a place on
abbrev pub from : List ℕ → ℕ → Phase → Unfinished → Result Forest JsonRefusal
from bytes i p u = judge (drop i bytes) i p u

-- the tree of a text, or none
abbrev pub tree_read : List ℕ → Option Forest
tree_read bytes = read (drop (mark_len bytes) bytes) (mark_len bytes) AtValue start

-- the place where bytes that begin as a byte order mark does leave it
abbrev pub mark_stop : List ℕ → Option ℕ
mark_stop bytes =
    if starts_with nat_eq bytes byte_order_mark then None else
    (if starts_with nat_eq bytes (239 ∷ 187 ∷ []) then Some 2 else
    (if starts_with nat_eq bytes (239 ∷ []) then Some 1 else None))

abbrev pub behind_mark : List ℕ → Option ℕ → Result Forest JsonRefusal
behind_mark bytes None = from bytes (mark_len bytes) AtValue start
behind_mark bytes (Some n) = Err (Syntax n)

-- the tree of a text, or why it has none
abbrev pub verdict : List ℕ → Result Forest JsonRefusal
verdict bytes = behind_mark bytes (mark_stop bytes)
