-- Reading on lists, one part of a text at a time.
use Rattle.std.proofs.Common.{◌≡◌, ℕ, zero, suc, ◌+◌, ◌-◌, ◌<◌, ◌≤◌, ◌⊎◌, Bool, true, false, List, [], ◌∷◌, ◌++◌, length, get_or, take, drop, refl, sym, ap, inl, inr, ◌∙◌, subst, arith, append_assoc, append-nil, Option, Some, None, cond, add-one, length-drop, length-take, get_or-drop}
use Rattle.std.proofs.lemmas.List.{take-append-drop, drop_all, take_all}
use Rattle.std.proofs.Math.Seq.{drop-nil}
use Rattle.std.specs.Prelude.{nat_eq, ◌||◌, encode_utf8, ℤ, Result, Ok, Err}
use Rattle.std.proofs.Math.Seq.{drop-cons, take-suc}
use Rattle.std.proofs.lemmas.Bool.Decides.{nat_tests}
use Rattle.doc_values.specs.declared.kind.Kind.{Kind}
use Rattle.doc_values.specs.declared.kind.Kind.TheVariants as kind
use Rattle.doc_values.specs.declared.builder.BuildRefusal.{BuildRefusal}
use Rattle.doc_values.specs.declared.builder.BuildRefusal.TheVariants as build
use Rattle.doc_values.specs.Tree.{has_key}
use Rattle.doc_values.specs.Unfinished.{Unfinished, with_value, with_key}
use Rattle.json_reader.specs.declared.bytes.Class.{Class}
use Rattle.json_reader.specs.declared.bytes.Class.TheVariants.{Space, CloseList}
use Rattle.json_reader.specs.declared.stage.Position.{Position}
use Rattle.json_reader.specs.declared.refusal.JsonRefusal.{JsonRefusal}
use Rattle.json_reader.specs.declared.refusal.JsonRefusal.TheVariants.{Syntax, DuplicateKey, NumberRange, TooDeep, NoMemory}
use Rattle.json_reader.specs.Json.{is_unescaped, escape, Each, past}
use Rattle.json_reader.proofs.Spellings.{past-length}
use Rattle.json_reader.proofs.Strings.{plain_heard, last_ascii}
use Rattle.json_reader.specs.declared.number.NumberPart.{NumberPart}
use Rattle.json_reader.proofs.Parts.{runs_bytes, run_one}
use Rattle.doc_values.specs.Tree.{Forest}
use Rattle.json_reader.specs.code.Reading.{class_of, is_number_byte, begins_number, Phase, AtValue, AtItemOrEnd, AtColon, After, InString, InWord, InNumber, Next, Stop, Go, Bad, Closed, Part, Whole, may_escape, escape_heard, heard, string_next, keyless, value_next, item_or_end_next, word_on, next, value_cause, string_cause, number_cause, cause, judged, judge, from}
use Rattle.json_reader.specs.code.Steps.{Reaches, Fails, is_mark, IsTextAt, Unclosed, Number, NoNumber, phase_of, Gives, Leads, IsPlain, kind_of}
use Rattle.json_reader.specs.code.Refused.{refusal_of}
use Rattle.json_reader.specs.code.Numbers.{first_part, part_next, part_then, completes, run_parts}
use Rattle.json_reader.proofs.NumberKinds.{known_whole, known_fraction, known_none}
use Rattle.json_reader.proofs.NumberBytes.{number_ascii, begins_ascii}
use Rattle.json_reader.proofs.NumberRuns.{number_first, number_same, NoMore, number_ends, number_fails}
use Rattle.decimals.specs.Number.{IsNumber}
use Rattle.decimals.specs.Decimal.{Decimal}
use Rattle.decimals.specs.declared.decimal.Num.{Num}
use Rattle.decimals.specs.declared.decimal.Num.TheVariants as num
use Rattle.std.proofs.lemmas.List.{get_or-take}

-- one byte
pub from_one : (bytes : List ℕ) (i : ℕ) (p : Phase) (u : Unfinished) → i < length bytes → from bytes i p u ≡ judged (next i p u (get_or bytes i 0)) (cause i p (get_or bytes i 0)) (λ q w. from bytes (i + 1) q w)
from_one bytes i p u h = ap (λ t. judge t i p u) (drop-cons bytes i 0 h) ∙ ap (λ n. judged (next i p u (get_or bytes i 0)) (cause i p (get_or bytes i 0)) (λ q w. judge (drop n bytes) n q w)) (sym (add-one i))

drop_more : (i j : ℕ) (bytes : List ℕ) → drop j (drop i bytes) ≡ drop (i + j) bytes
drop_more zero j bytes = let e : j ≡ 0 + j = omega arith in ap (λ n. drop n bytes) e
drop_more (suc i) j [] = let e : suc (i + j) ≡ suc i + j = omega arith in drop-nil j ∙ sym (drop-nil (suc (i + j))) ∙ ap (λ n. drop n []) e
drop_more (suc i) j (b ∷ bytes) = let e : suc (i + j) ≡ suc i + j = omega arith in drop_more i j bytes ∙ ap (λ n. drop n (b ∷ bytes)) e

-- the rest of the bytes, cut behind some
pub cut : (bytes : List ℕ) (start len : ℕ) → drop start bytes ≡ take len (drop start bytes) ++ drop (start + len) bytes
cut bytes start len = sym (take-append-drop len (drop start bytes)) ∙ ap (λ t. take len (drop start bytes) ++ t) (drop_more start len bytes)

none_of : (p q r : Bool) (b : ℕ) → (p || q) ≡ false → r ≡ false → cond p Closed (cond q (Part (92 ∷ [])) (cond r (Whole (b ∷ [])) Bad)) ≡ Bad
none_of true q r b h e = absurd (cc)
none_of false true r b h e = absurd (cc)
none_of false false true b h e = absurd (cc)
none_of false false false b h e = refl

nothing_heard : (b : ℕ) → is_unescaped b ≡ false → is_mark b ≡ false → heard [] b ≡ Bad
nothing_heard b p q = none_of (nat_eq b 34) (nat_eq b 92) (is_unescaped b) b q p

-- all of what follows a place
pub rest_is : (bytes : List ℕ) (start : ℕ) → take (length bytes - start) (drop start bytes) ≡ drop start bytes
rest_is bytes start = take_all (length bytes - start) (drop start bytes) (omega (arith, length-drop start bytes))

plain_same : (k t : List ℕ) (at : ℕ) (key : Bool) (acc : List ℕ) (a : ℕ) (u : Unfinished) → Each is_unescaped k → judge (k ++ t) at (InString key acc [] a) u ≡ judge t (past at k) (InString key (acc ++ k) [] a) u
plain_same [] t at key acc a u e = ap (λ s. judge t at (InString key s [] a) u) (sym (append-nil acc))
plain_same (b ∷ k) t at key acc a u e =
    ap (λ h. judged (string_next h key acc a u) (string_cause at h a) (judge (k ++ t) (suc at))) (plain_heard b e.0)
    ∙ plain_same k t (suc at) key (acc ++ (b ∷ [])) a u e.1
    ∙ ap (λ s. judge t (past (suc at) k) (InString key s [] a) u) (append_assoc acc (b ∷ []) k)

-- a run of bytes that stand for themselves
pub run_reaches : (bytes : List ℕ) (start len : ℕ) → start + len ≤ length bytes → Each is_unescaped (take len (drop start bytes)) → Reaches bytes start (take len (drop start bytes)) (start + len)
run_reaches bytes start len l e key acc a u =
    let k = take len (drop start bytes) in
    let size : length k ≡ len = omega (arith, length-take len (drop start bytes), length-drop start bytes) in
    let place : past start k ≡ start + len = let h = past-length start k in omega (arith, size) in
    ap (λ t. judge t start (InString key acc [] a) u) (cut bytes start len) ∙ plain_same k (drop (start + len) bytes) start key acc a u e ∙ ap (λ n. judge (drop (start + len) bytes) n (InString key (acc ++ k) [] a) u) place

pub reaches_on : (bytes : List ℕ) (i j k : ℕ) (s t : List ℕ) → Reaches bytes i s j → Reaches bytes j t k → Reaches bytes i (s ++ t) k
reaches_on bytes i j k s t r q key acc a u = r key acc a u ∙ q key (acc ++ s) a u ∙ ap (λ x. from bytes k (InString key x [] a) u) (append_assoc acc s t)

-- the quote that ends a text
pub text_ends : (bytes : List ℕ) (i j : ℕ) (text : List ℕ) → Reaches bytes i text j → i ≤ j → j < length bytes → get_or bytes j 0 ≡ 34 → IsTextAt bytes i text (j + 1)
text_ends bytes i j text r le l q = (omega arith, omega arith, λ key a u. r key [] a u ∙ from_one bytes j (InString key text [] a) u l ∙ ap (λ b. judged (string_next (heard [] b) key text a u) (string_cause j (heard [] b) a) (λ q w. from bytes (j + 1) q w)) q)

-- a byte that belongs in no text, or the end of the bytes
pub run_stops : (bytes : List ℕ) (i j : ℕ) (text : List ℕ) → Reaches bytes i text j → j < length bytes → is_unescaped (get_or bytes j 0) ≡ false → is_mark (get_or bytes j 0) ≡ false → Fails bytes i j
run_stops bytes i j text r l p q = (omega arith, λ key acc a u. r key acc a u ∙ from_one bytes j (InString key (acc ++ text) [] a) u l ∙ ap (λ h. judged (string_next h key (acc ++ text) a u) (string_cause j h a) (λ q w. from bytes (j + 1) q w)) (nothing_heard (get_or bytes j 0) p q))

pub run_open : (bytes : List ℕ) (i j : ℕ) (text : List ℕ) → Reaches bytes i text j → length bytes ≤ j → j ≤ length bytes → Fails bytes i j
run_open bytes i j text r l m = (m, λ key acc a u. r key acc a u ∙ ap (λ t. judge t j (InString key (acc ++ text) [] a) u) (drop_all j bytes l))

-- bytes that pass a test one by one
pub Each-below : (p : ℕ → Bool) (xs : List ℕ) (n : ℕ) → ((k : ℕ) → k < n → k < length xs → p (get_or xs k 0) ≡ true) → Each p (take n xs)
Each-below p [] zero h = tt
Each-below p [] (suc n) h = tt
Each-below p (x ∷ xs) zero h = tt
Each-below p (x ∷ xs) (suc n) h = (h 0 (omega arith) (omega arith), Each-below p xs n (λ k l m. h (suc k) (omega arith) (omega arith)))

pub Each-between : (p : ℕ → Bool) (bytes : List ℕ) (at end : ℕ) → at ≤ end → end ≤ length bytes → ((k : ℕ) → at ≤ k → k < end → p (get_or bytes k 0) ≡ true) → Each p (take (end - at) (drop at bytes))
Each-between p bytes at end l m h = Each-below p (drop at bytes) (end - at) (λ k i j. ap p (get_or-drop at bytes k 0) ∙ h (at + k) (omega arith) (omega arith))

-- a run up to a place
pub run_between : (bytes : List ℕ) (at end : ℕ) → at ≤ end → end ≤ length bytes → Each is_unescaped (take (end - at) (drop at bytes)) → Reaches bytes at (take (end - at) (drop at bytes)) end
run_between bytes at end l m e =
    let n : at + (end - at) ≡ end = omega arith in
    subst (λ k. Reaches bytes at (take (end - at) (drop at bytes)) k) n (run_reaches bytes at (end - at) (omega arith) e)

pub mark_is : (b : ℕ) → is_mark b ≡ true → (b ≡ 34 → ⊥) → b ≡ 92
mark_is b h q = grind (arith, nat_tests)

pub mark_ascii : (b : ℕ) → is_mark b ≡ true → b < 128
mark_ascii b h = grind (arith, nat_tests)

pub text_fails : (bytes : List ℕ) (i j k : ℕ) (text : List ℕ) → Reaches bytes i text j → Fails bytes j k → Unclosed bytes i k
text_fails bytes i j k text r f key a u = r key [] a u ∙ f.1 key text a u

pub reaches_self : (bytes : List ℕ) (i : ℕ) → Reaches bytes i [] i
reaches_self bytes i key acc a u = ap (λ s. from bytes i (InString key s [] a) u) (sym (append-nil acc))

-- in an escape
abbrev pub InEscape : List ℕ → ℕ → ℕ → Type 0
InEscape bytes i end = (key : Bool) (acc : List ℕ) (a : ℕ) (u : Unfinished) → from bytes i (InString key acc [] a) u ≡ from bytes end (InString key acc (take (end - i) (drop i bytes)) a) u

pub escape_begins : (bytes : List ℕ) (i : ℕ) → i < length bytes → get_or bytes i 0 ≡ 92 → InEscape bytes i (i + 1)
escape_begins bytes i l e key acc a u =
    let n : i + 1 - i ≡ 1 = omega arith in
    let one : take (i + 1 - i) (drop i bytes) ≡ 92 ∷ [] = ap (λ n. take n (drop i bytes)) n ∙ ap (λ t. take 1 t) (drop-cons bytes i 0 l) ∙ ap (λ b. b ∷ []) e in
    from_one bytes i (InString key acc [] a) u l ∙ ap (λ b. judged (string_next (heard [] b) key acc a u) (string_cause i (heard [] b) a) (λ q w. from bytes (i + 1) q w)) e ∙ ap (λ p. from bytes (i + 1) (InString key acc p a) u) (sym one)

heard_later : (part : List ℕ) (b : ℕ) → 0 < length part → heard part b ≡ escape_heard (escape (part ++ (b ∷ []))) (may_escape (part ++ (b ∷ []))) (part ++ (b ∷ []))
heard_later [] b h = absurd (omega arith)
heard_later (x ∷ part) b h = refl

part_grows : (bytes : List ℕ) (i end : ℕ) → i < end → end < length bytes → take (end + 1 - i) (drop i bytes) ≡ take (end - i) (drop i bytes) ++ (get_or bytes end 0 ∷ [])
part_grows bytes i end l m =
    let n : end + 1 - i ≡ suc (end - i) = omega arith in
    let here : get_or (drop i bytes) (end - i) 0 ≡ get_or bytes end 0 = let e : i + (end - i) ≡ end = omega arith in get_or-drop i bytes (end - i) 0 ∙ ap (λ k. get_or bytes k 0) e in
    ap (λ n. take n (drop i bytes)) n ∙ take-suc (drop i bytes) (end - i) 0 (omega (arith, length-drop i bytes)) ∙ ap (λ b. take (end - i) (drop i bytes) ++ (b ∷ [])) here

escape_byte : (bytes : List ℕ) (i end : ℕ) → i < end → end < length bytes → InEscape bytes i end → (part : List ℕ) → part ≡ take (end + 1 - i) (drop i bytes) → (key : Bool) (acc : List ℕ) (a : ℕ) (u : Unfinished) → from bytes i (InString key acc [] a) u ≡ judged (string_next (escape_heard (escape part) (may_escape part) part) key acc a u) (string_cause end (escape_heard (escape part) (may_escape part) part) a) (λ q w. from bytes (end + 1) q w)
escape_byte bytes i end l m inv part pe key acc a u =
    let before = take (end - i) (drop i bytes) in
    let size : 0 < length before = omega (arith, length-take (end - i) (drop i bytes), length-drop i bytes) in
    let grown : part ≡ before ++ (get_or bytes end 0 ∷ []) = pe ∙ part_grows bytes i end l m in
    inv key acc a u ∙ from_one bytes end (InString key acc before a) u m ∙ ap (λ h. judged (string_next h key acc a u) (string_cause end h a) (λ q w. from bytes (end + 1) q w)) (heard_later before (get_or bytes end 0) size ∙ ap (λ s. escape_heard (escape s) (may_escape s) s) (sym grown))

pub escape_goes_on : (bytes : List ℕ) (i end : ℕ) → i < end → end < length bytes → InEscape bytes i end → (part : List ℕ) → part ≡ take (end + 1 - i) (drop i bytes) → escape part ≡ None → may_escape part ≡ true → InEscape bytes i (end + 1)
escape_goes_on bytes i end l m inv part pe none may key acc a u =
    escape_byte bytes i end l m inv part pe key acc a u ∙ ap (λ o. judged (string_next (escape_heard o (may_escape part) part) key acc a u) (string_cause end (escape_heard o (may_escape part) part) a) (λ q w. from bytes (end + 1) q w)) none ∙ ap (λ q. judged (string_next (cond q (Part part) Bad) key acc a u) (string_cause end (cond q (Part part) Bad) a) (λ q w. from bytes (end + 1) q w)) may
    ∙ ap (λ p. from bytes (end + 1) (InString key acc p a) u) pe

pub escape_fails : (bytes : List ℕ) (i end : ℕ) → i < end → end < length bytes → InEscape bytes i end → (part : List ℕ) → part ≡ take (end + 1 - i) (drop i bytes) → escape part ≡ None → may_escape part ≡ false → Fails bytes i end
escape_fails bytes i end l m inv part pe none may = (
  omega arith,
  λ key acc a u.
      escape_byte bytes i end l m inv part pe key acc a u ∙ ap (λ o. judged (string_next (escape_heard o (may_escape part) part) key acc a u) (string_cause end (escape_heard o (may_escape part) part) a) (λ q w. from bytes (end + 1) q w)) none ∙ ap (λ q. judged (string_next (cond q (Part part) Bad) key acc a u) (string_cause end (cond q (Part part) Bad) a) (λ q w. from bytes (end + 1) q w)) may,
)

pub escape_reaches : (bytes : List ℕ) (i end : ℕ) → i < end → end < length bytes → InEscape bytes i end → (part : List ℕ) → part ≡ take (end + 1 - i) (drop i bytes) → (n : ℕ) → escape part ≡ Some n → Reaches bytes i (encode_utf8 n) (end + 1)
escape_reaches bytes i end l m inv part pe n some key acc a u =
    escape_byte bytes i end l m inv part pe key acc a u ∙ ap (λ o. judged (string_next (escape_heard o (may_escape part) part) key acc a u) (string_cause end (escape_heard o (may_escape part) part) a) (λ q w. from bytes (end + 1) q w)) some

pub escape_open : (bytes : List ℕ) (i end : ℕ) → length bytes ≡ end → InEscape bytes i end → Fails bytes i (length bytes)
escape_open bytes i end l inv = subst (λ n. Fails bytes i n) (sym l) (omega arith, λ key acc a u. inv key acc a u ∙ ap (λ t. judge t end (InString key acc (take (end - i) (drop i bytes)) a) u) (drop_all end bytes (omega arith)))

pub escape_ascii : (bytes : List ℕ) (i end : ℕ) → i < end → end < length bytes → (part : List ℕ) → part ≡ take (end + 1 - i) (drop i bytes) → (n : ℕ) → escape part ≡ Some n → get_or bytes (end + 1 - 1) 0 < 128
escape_ascii bytes i end l m part pe n some =
    let before = take (end - i) (drop i bytes) in
    let e : end + 1 - 1 ≡ end = omega arith in
    let last : escape (before ++ (get_or bytes end 0 ∷ [])) ≡ Some n = ap escape (sym (pe ∙ part_grows bytes i end l m)) ∙ some in
    subst (λ k. get_or bytes k 0 < 128) (sym e) (last_ascii before (get_or bytes end 0) n last).1

-- a byte in a phase
pub from_class : (bytes : List ℕ) (i : ℕ) (p q : Phase) (u w : Unfinished) → i < length bytes → next i p u (get_or bytes i 0) ≡ Go q w → from bytes i p u ≡ from bytes (i + 1) q w
from_class bytes i p q u w l e = from_one bytes i p u l ∙ ap (λ n. judged n (cause i p (get_or bytes i 0)) (λ q w. from bytes (i + 1) q w)) e

-- numbers
pub runs_more : (xs : List ℕ) (i : ℕ) (first p r : NumberPart) → i < length xs → run_parts (Some first) (take i xs) ≡ Some p → part_next p (get_or xs i 0) ≡ Some r → run_parts (Some first) (take (i + 1) xs) ≡ Some r
runs_more xs i first p r l e n =
    ap (λ n. run_parts (Some first) (take n xs)) (add-one i) ∙ ap (λ t. run_parts (Some first) t) (take-suc xs i 0 l) ∙ run_one (Some first) (take i xs) (get_or xs i 0) ∙ ap (λ o. part_then o (get_or xs i 0)) e ∙ n

first_after : (r : NumberPart) (bytes : List ℕ) (i : ℕ) → (i < length bytes → part_next r (get_or bytes i 0) ≡ None) → NoMore r (drop i bytes)
first_after r [] zero h = tt
first_after r [] (suc i) h = tt
first_after r (b ∷ bytes) zero h = h (omega arith)
first_after r (b ∷ bytes) (suc i) h = first_after r bytes i (λ l. h (omega arith))

-- the bytes of a number text behind its first one
pub record NumberRun (bytes : List ℕ) (at end : ℕ) (part : NumberPart) : Type 0 where
  pub within : end ≤ length bytes
  pub more : at < end
  pub same : (u : Unfinished) → from bytes at AtValue u ≡ from bytes end (InNumber part (take (end - at) (drop at bytes)) at) u
  pub last : NoMore part (drop end bytes)
  pub ascii : get_or bytes (end - 1) 0 < 128

Each-at : (xs : List ℕ) (i : ℕ) → i < length xs → Each is_number_byte xs → is_number_byte (get_or xs i 0) ≡ true
Each-at [] i h e = absurd (omega arith)
Each-at (x ∷ xs) zero h e = e.0
Each-at (x ∷ xs) (suc i) h e = Each-at xs i (omega arith) e.1

last_byte : (bytes : List ℕ) (at len : ℕ) → at + 1 + len ≤ length bytes → begins_number (get_or bytes at 0) ≡ true → Each is_number_byte (take len (drop (at + 1) bytes)) → get_or bytes (at + 1 + len - 1) 0 < 128
last_byte bytes at zero w g e = let n : at ≡ at + 1 + 0 - 1 = omega arith in subst (λ k. get_or bytes k 0 < 128) n (begins_ascii (get_or bytes at 0) g)
last_byte bytes at (suc len) w g e =
    let n : at + 1 + len ≡ at + 1 + suc len - 1 = omega arith in
    let size : len < length (take (suc len) (drop (at + 1) bytes)) = omega (arith, length-take (suc len) (drop (at + 1) bytes), length-drop (at + 1) bytes) in
    let here : get_or (take (suc len) (drop (at + 1) bytes)) len 0 ≡ get_or bytes (at + 1 + len) 0 = get_or-take (suc len) (drop (at + 1) bytes) len 0 (omega arith) ∙ get_or-drop (at + 1) bytes len 0 in
    subst (λ k. get_or bytes k 0 < 128) n (number_ascii (get_or bytes (at + 1 + len) 0) (ap is_number_byte (sym here) ∙ Each-at (take (suc len) (drop (at + 1) bytes)) len size e))

number_text : (bytes : List ℕ) (at len : ℕ) → at < length bytes → get_or bytes at 0 ∷ take len (drop (at + 1) bytes) ≡ take (at + 1 + len - at) (drop at bytes)
number_text bytes at len l =
    let n : suc len ≡ at + 1 + len - at = omega arith in
    ap (λ k. get_or bytes at 0 ∷ take len (drop k bytes)) (add-one at) ∙ ap (λ t. take (suc len) t) (sym (drop-cons bytes at 0 l)) ∙ ap (λ k. take k (drop at bytes)) n

pub number_run : (bytes : List ℕ) (at len : ℕ) (r : NumberPart) → at < length bytes → begins_number (get_or bytes at 0) ≡ true → len ≤ length (take (length bytes - (at + 1)) (drop (at + 1) bytes)) → run_parts (Some (first_part (get_or bytes at 0))) (take len (take (length bytes - (at + 1)) (drop (at + 1) bytes))) ≡ Some r → (len < length (take (length bytes - (at + 1)) (drop (at + 1) bytes)) → part_next r (get_or (take (length bytes - (at + 1)) (drop (at + 1) bytes)) len 0) ≡ None) → NumberRun bytes at (at + 1 + len) r
number_run bytes at len r l g w e m =
    let rest = rest_is bytes (at + 1) in
    let size = ap (λ (t : List ℕ). length t) rest in
    let place : at + 1 + len ≤ length bytes = omega (arith, length-drop (at + 1) bytes, size) in
    let b = get_or bytes at 0 in
    let k = take len (drop (at + 1) bytes) in
    let runs : run_parts (Some (first_part b)) k ≡ Some r = subst (λ (t : List ℕ). run_parts (Some (first_part b)) (take len t) ≡ Some r) rest e in
    let long : length k ≡ len = omega (arith, length-take len (drop (at + 1) bytes), length-drop (at + 1) bytes) in
    let behind : past (at + 1) k ≡ at + 1 + len = let h = past-length (at + 1) k in omega (arith, long) in
    record {
      within = place;
      more = omega arith;
      same = λ u. from_class bytes at AtValue (InNumber (first_part b) (b ∷ []) at) u u l (number_first b at u g) ∙ ap (λ t. judge t (at + 1) (InNumber (first_part b) (b ∷ []) at) u) (cut bytes (at + 1) len) ∙ number_same k (drop (at + 1 + len) bytes) (b ∷ []) (at + 1) at (first_part b) r u runs ∙ ap (λ n. judge (drop (at + 1 + len) bytes) n (InNumber r (b ∷ k) at) u) behind ∙ ap (λ s. from bytes (at + 1 + len) (InNumber r s at) u) (number_text bytes at len l);
      last = first_after r bytes (at + 1 + len) (λ h. sym (ap (part_next r) (ap (λ (t : List ℕ). get_or t len 0) rest ∙ get_or-drop (at + 1) bytes len 0)) ∙ m (omega (arith, length-drop (at + 1) bytes, size)));
      ascii = last_byte bytes at len place g (runs_bytes k (first_part b) r runs);
    }

-- what `read_number` says of it
pub number_whole : (bytes : List ℕ) (at end : ℕ) (p : NumberPart) (n : ℤ) → NumberRun bytes at end p → IsNumber (take (end - at) (drop at bytes)) (num.Whole n) → Number bytes at (kind.Whole n) end
number_whole bytes at end p n r i u = r.same u ∙ number_ends (drop end bytes) end p (take (end - at) (drop at bytes)) at (kind.Whole n) u r.last (known_whole (take (end - at) (drop at bytes)) n i)

pub number_fraction : (bytes : List ℕ) (at end : ℕ) (p : NumberPart) (d : Decimal) → NumberRun bytes at end p → IsNumber (take (end - at) (drop at bytes)) (num.Fraction d) → Number bytes at (kind.Fraction d) end
number_fraction bytes at end p d r i u = r.same u ∙ number_ends (drop end bytes) end p (take (end - at) (drop at bytes)) at (kind.Fraction d) u r.last (known_fraction (take (end - at) (drop at bytes)) d i)

pub number_some : (bytes : List ℕ) (at end : ℕ) (p : NumberPart) (n : Num) → NumberRun bytes at end p → IsNumber (take (end - at) (drop at bytes)) n → IsPlain (kind_of n) × Number bytes at (kind_of n) end
number_some bytes at end p (num.Whole n) r i = ((refl, refl), number_whole bytes at end p n r i)
number_some bytes at end p (num.Fraction d) r i = ((refl, refl), number_fraction bytes at end p d r i)

pub number_found : (bytes text : List ℕ) (at len b : ℕ) (first r : NumberPart) → bytes ≡ text → b ≡ get_or bytes at 0 → first ≡ first_part b → at < length text → begins_number (get_or text at 0) ≡ true → len ≤ length (take (length bytes - (at + 1)) (drop (at + 1) bytes)) → run_parts (Some first) (take len (take (length bytes - (at + 1)) (drop (at + 1) bytes))) ≡ Some r → (len < length (take (length bytes - (at + 1)) (drop (at + 1) bytes)) → part_next r (get_or (take (length bytes - (at + 1)) (drop (at + 1) bytes)) len 0) ≡ None) → NumberRun text at (at + 1 + len) r
number_found bytes text at len b first r v same f l g w e m =
    let size : length bytes ≡ length text = ap (λ (t : List ℕ). length t) v in
    let begins : first ≡ first_part (get_or bytes at 0) = f ∙ ap first_part same in
    subst (λ (t : List ℕ). NumberRun t at (at + 1 + len) r) v (number_run bytes at len r (omega (arith, size)) (ap (λ (t : List ℕ). begins_number (get_or t at 0)) v ∙ g) w (subst (λ q. run_parts (Some q) (take len (take (length bytes - (at + 1)) (drop (at + 1) bytes))) ≡ Some r) begins e) m)

pub number_none : (bytes : List ℕ) (at end : ℕ) (p : NumberPart) (q : Bool) → NumberRun bytes at end p → q ≡ completes p → ((n : Num) → IsNumber (take (end - at) (drop at bytes)) n → ⊥) → NoNumber bytes at (number_cause end q None at)
number_none bytes at end p q r c i u = r.same u ∙ number_fails (drop end bytes) end p (take (end - at) (drop at bytes)) at u r.last (known_none (take (end - at) (drop at bytes)) i) ∙ ap (λ c. Err (number_cause end c None at)) (sym c)

pub from_stop : (bytes : List ℕ) (i : ℕ) (p : Phase) (u : Unfinished) → i < length bytes → next i p u (get_or bytes i 0) ≡ Stop → from bytes i p u ≡ Err (cause i p (get_or bytes i 0))
from_stop bytes i p u l e = from_one bytes i p u l ∙ ap (λ n. judged n (cause i p (get_or bytes i 0)) (λ q w. from bytes (i + 1) q w)) e

pub from_cause : (bytes : List ℕ) (i : ℕ) (p : Phase) (u : Unfinished) (e : JsonRefusal) → i < length bytes → next i p u (get_or bytes i 0) ≡ Stop → cause i p (get_or bytes i 0) ≡ e → from bytes i p u ≡ Err e
from_cause bytes i p u e l s c = from_stop bytes i p u l s ∙ ap Err c

-- one byte, taken as the next state says
pub Gives-one : (bytes : List ℕ) (i : ℕ) (p : Phase) (u w : Unfinished) (n : Next) (why : JsonRefusal) (r : Result Position JsonRefusal) → i < length bytes → next i p u (get_or bytes i 0) ≡ n → cause i p (get_or bytes i 0) ≡ why → Leads i n why w r → Gives bytes i p u w r
Gives-one bytes i p u w n why (Ok r) l e c (place, leads, fits) = (omega arith, omega arith, from_class bytes i p (phase_of r.stage) u w l (e ∙ leads) ∙ ap (λ k. from bytes k (phase_of r.stage) w) (sym place), fits)
Gives-one bytes i p u w n why (Err NoMemory) l e c h = tt
Gives-one bytes i p u w n why (Err (Syntax a)) l e c h = from_cause bytes i p u (Syntax a) l (e ∙ h.0) (c ∙ h.1)
Gives-one bytes i p u w n why (Err (DuplicateKey a)) l e c h = from_cause bytes i p u (DuplicateKey a) l (e ∙ h.0) (c ∙ h.1)
Gives-one bytes i p u w n why (Err (NumberRange a)) l e c h = from_cause bytes i p u (NumberRange a) l (e ∙ h.0) (c ∙ h.1)
Gives-one bytes i p u w n why (Err (TooDeep a)) l e c h = from_cause bytes i p u (TooDeep a) l (e ∙ h.0) (c ∙ h.1)

-- a refusal that reading gives
pub gives_err : (bytes : List ℕ) (i : ℕ) (p : Phase) (u w : Unfinished) (e : JsonRefusal) → from bytes i p u ≡ Err e → Gives bytes i p u w (Err e)
gives_err bytes i p u w NoMemory h = tt
gives_err bytes i p u w (Syntax a) h = h
gives_err bytes i p u w (DuplicateKey a) h = h
gives_err bytes i p u w (NumberRange a) h = h
gives_err bytes i p u w (TooDeep a) h = h

pub err_gives : (bytes : List ℕ) (i : ℕ) (p : Phase) (u w : Unfinished) (e : JsonRefusal) → Gives bytes i p u w (Err e) → (e ≡ NoMemory → ⊥) → from bytes i p u ≡ Err e
err_gives bytes i p u w NoMemory h n = absurd (n refl)
err_gives bytes i p u w (Syntax a) h n = h
err_gives bytes i p u w (DuplicateKey a) h n = h
err_gives bytes i p u w (NumberRange a) h n = h
err_gives bytes i p u w (TooDeep a) h n = h

-- a key that the builder refused
pub key_refused : (bytes : List ℕ) (i : ℕ) (text : List ℕ) (end a at : ℕ) (u w : Unfinished) (r : BuildRefusal) → IsTextAt bytes i text end → at ≡ a → (r ≡ build.NoMemory) ⊎ ((r ≡ build.DuplicateKey at) × (has_key u.done text ≡ true)) → Gives bytes i (InString true [] [] a) u w (Err (refusal_of r))
key_refused bytes i text end a at u w r t s (inl e) = subst (λ (x : BuildRefusal). Gives bytes i (InString true [] [] a) u w (Err (refusal_of x))) (sym e) tt
key_refused bytes i text end a at u w r t s (inr (e, old)) = subst (λ (x : BuildRefusal). Gives bytes i (InString true [] [] a) u w (Err (refusal_of x))) (sym e) (t.2 true a u ∙ ap (λ q. judged (cond q Stop (Go AtColon (with_key text u))) (DuplicateKey a) (λ q w. from bytes end q w)) old ∙ ap (λ n. Err (DuplicateKey n)) (sym s))

pub key_from : (bytes : List ℕ) (i : ℕ) (text : List ℕ) (end a : ℕ) (u : Unfinished) → IsTextAt bytes i text end → has_key u.done text ≡ false → from bytes i (InString true [] [] a) u ≡ from bytes end AtColon (with_key text u)
key_from bytes i text end a u t new = t.2 true a u ∙ ap (λ q. judged (cond q Stop (Go AtColon (with_key text u))) (DuplicateKey a) (λ q w. from bytes end q w)) new

-- a literal name
same_byte : (c : ℕ) → nat_eq c c ≡ true
same_byte c = grind (arith, nat_tests)

byte_is : (b c : ℕ) → nat_eq b c ≡ true → b ≡ c
byte_is b c h = grind (arith, nat_tests)

keyless_same : (u : Unfinished) → u.key ≡ None → keyless u ≡ u
keyless_same u e = ap (λ (k : Option (List ℕ)). record { outer = u.outer; done = u.done; key = k }) (sym e)

-- what is read behind a part of a literal name
abbrev pub word_rest : List ℕ → List ℕ → ℕ → Kind → ℕ → Unfinished → Result Forest JsonRefusal
word_rest bytes [] j word a u = from bytes j After (with_value word [] a u)
word_rest bytes (c ∷ rest) j word a u = from bytes j (InWord (c ∷ rest) word a) u

word_on_reads : (bytes rest : List ℕ) (j : ℕ) (word : Kind) (a : ℕ) (u : Unfinished) (e : JsonRefusal) → judged (word_on rest word a u) e (λ q w. from bytes j q w) ≡ word_rest bytes rest j word a u
word_on_reads bytes [] j word a u e = refl
word_on_reads bytes (c ∷ rest) j word a u e = refl

abbrev pub InWordAt : List ℕ → List ℕ → ℕ → ℕ → Kind → ℕ → Unfinished → Type 0
InWordAt bytes rest start i word a u = from bytes start (InWord rest word a) u ≡ word_rest bytes (drop i rest) (start + i) word a u

pub word_begins : (bytes rest : List ℕ) (start : ℕ) (word : Kind) (a : ℕ) (u : Unfinished) → 0 < length rest → InWordAt bytes rest start 0 word a u
word_begins bytes [] start word a u h = absurd (omega arith)
word_begins bytes (c ∷ rest) start word a u h = let n : start ≡ start + 0 = omega arith in ap (λ k. from bytes k (InWord (c ∷ rest) word a) u) n

word_here : (bytes rest : List ℕ) (start i : ℕ) (word : Kind) (a : ℕ) (u : Unfinished) → i < length rest → start + i < length bytes → InWordAt bytes rest start i word a u → from bytes start (InWord rest word a) u ≡ judged (cond (nat_eq (get_or bytes (start + i) 0) (get_or rest i 0)) (word_on (drop (suc i) rest) word a u) Stop) (Syntax (start + i)) (λ q w. from bytes (start + i + 1) q w)
word_here bytes rest start i word a u l m inv =
    inv ∙ ap (λ r. word_rest bytes r (start + i) word a u) (drop-cons rest i 0 l) ∙ from_one bytes (start + i) (InWord (get_or rest i 0 ∷ drop (suc i) rest) word a) u m

pub word_goes_on : (bytes rest : List ℕ) (start i : ℕ) (word : Kind) (a : ℕ) (u : Unfinished) → i < length rest → start + i < length bytes → get_or bytes (start + i) 0 ≡ get_or rest i 0 → InWordAt bytes rest start i word a u → InWordAt bytes rest start (i + 1) word a u
word_goes_on bytes rest start i word a u l m same inv =
    let n : start + i + 1 ≡ start + (i + 1) = omega arith in
    let eq : nat_eq (get_or bytes (start + i) 0) (get_or rest i 0) ≡ true = ap (λ b. nat_eq b (get_or rest i 0)) same ∙ same_byte (get_or rest i 0) in
    word_here bytes rest start i word a u l m inv
    ∙ ap (λ q. judged (cond q (word_on (drop (suc i) rest) word a u) Stop) (Syntax (start + i)) (λ q w. from bytes (start + i + 1) q w)) eq
    ∙ word_on_reads bytes (drop (suc i) rest) (start + i + 1) word a u (Syntax (start + i))
    ∙ ap (λ k. word_rest bytes (drop k rest) (start + i + 1) word a u) (sym (add-one i))
    ∙ ap (λ k. word_rest bytes (drop (i + 1) rest) k word a u) n

other_byte : (b c : ℕ) → (b ≡ c → ⊥) → nat_eq b c ≡ false
other_byte b c h = grind (arith, nat_tests)

pub word_stops : (bytes rest : List ℕ) (start i : ℕ) (word : Kind) (a : ℕ) (u : Unfinished) → i < length rest → start + i < length bytes → (get_or bytes (start + i) 0 ≡ get_or rest i 0 → ⊥) → InWordAt bytes rest start i word a u → from bytes start (InWord rest word a) u ≡ Err (Syntax (start + i))
word_stops bytes rest start i word a u l m differ inv = word_here bytes rest start i word a u l m inv ∙ ap (λ q. judged (cond q (word_on (drop (suc i) rest) word a u) Stop) (Syntax (start + i)) (λ q w. from bytes (start + i + 1) q w)) (other_byte (get_or bytes (start + i) 0) (get_or rest i 0) differ)

pub word_open : (bytes rest : List ℕ) (start i : ℕ) (word : Kind) (a : ℕ) (u : Unfinished) → i < length rest → length bytes ≤ start + i → InWordAt bytes rest start i word a u → from bytes start (InWord rest word a) u ≡ Err (Syntax (start + i))
word_open bytes rest start i word a u l m inv =
    inv ∙ ap (λ r. word_rest bytes r (start + i) word a u) (drop-cons rest i 0 l) ∙ ap (λ t. judge t (start + i) (InWord (get_or rest i 0 ∷ drop (suc i) rest) word a) u) (drop_all (start + i) bytes m)

pub word_ends : (bytes rest : List ℕ) (start i : ℕ) (word : Kind) (a : ℕ) (u : Unfinished) → length rest ≤ i → InWordAt bytes rest start i word a u → from bytes start (InWord rest word a) u ≡ from bytes (start + i) After (with_value word [] a u)
word_ends bytes rest start i word a u l inv = inv ∙ ap (λ r. word_rest bytes r (start + i) word a u) (drop_all i rest l)

-- an item where the end of a list is awaited too
item_class : (c : Class) (at : ℕ) (u : Unfinished) (b : ℕ) → u.key ≡ None → (c ≡ Space → ⊥) → (c ≡ CloseList → ⊥) → item_or_end_next at u b c ≡ value_next at u b c
item_class Space at u b k s e = absurd (s refl)
item_class CloseList at u b k s e = absurd (e refl)
item_class c at u b k s e = ap (λ w. value_next at w b c) (keyless_same u k)

Gives_from : (bytes : List ℕ) (i : ℕ) (p q : Phase) (u w : Unfinished) (r : Result Position JsonRefusal) → from bytes i p u ≡ from bytes i q u → Gives bytes i q u w r → Gives bytes i p u w r
Gives_from bytes i p q u w (Ok r) e (a, b, f, g) = (a, b, e ∙ f, g)
Gives_from bytes i p q u w (Err NoMemory) e h = tt
Gives_from bytes i p q u w (Err (Syntax a)) e h = e ∙ h
Gives_from bytes i p q u w (Err (DuplicateKey a)) e h = e ∙ h
Gives_from bytes i p q u w (Err (NumberRange a)) e h = e ∙ h
Gives_from bytes i p q u w (Err (TooDeep a)) e h = e ∙ h

pub item_gives : (bytes : List ℕ) (i : ℕ) (u w : Unfinished) (r : Result Position JsonRefusal) → i < length bytes → u.key ≡ None → (class_of (get_or bytes i 0) ≡ Space → ⊥) → (class_of (get_or bytes i 0) ≡ CloseList → ⊥) → Gives bytes i AtValue u w r → Gives bytes i AtItemOrEnd u w r
item_gives bytes i u w r l k s e h = Gives_from bytes i AtItemOrEnd AtValue u w r (from_one bytes i AtItemOrEnd u l ∙ ap (λ n. judged n (value_cause i (class_of (get_or bytes i 0))) (λ q w. from bytes (i + 1) q w)) (item_class (class_of (get_or bytes i 0)) i u (get_or bytes i 0) k s e) ∙ sym (from_one bytes i AtValue u l)) h
