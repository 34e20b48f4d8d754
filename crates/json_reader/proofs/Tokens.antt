-- What stands before a state that is within a token: where the token began, and what was read of it.
use Rattle.std.proofs.Common.{◌≡◌, ℕ, suc, Bool, true, false, List, [], ◌∷◌, ◌++◌, length, refl, sym, ap, inl, inr, ◌∙◌, subst, arith, append_assoc, append-nil, length-append, Option, Some, None, cond}
use Rattle.std.specs.Prelude.{Ok, nat_eq, nat_lt}
use Rattle.std.proofs.lemmas.Bool.Decides.{nat_tests}
use Rattle.doc_values.specs.declared.kind.Kind.{Kind}
use Rattle.doc_values.specs.declared.kind.Kind.TheVariants as kind
use Rattle.doc_values.specs.Tree.{Forest, has_key, is_map}
use Rattle.doc_values.specs.Unfinished.{Level, Unfinished, start, with_value, with_open, with_key, with_end}
use Rattle.json_reader.specs.declared.bytes.Class.{Class}
use Rattle.json_reader.specs.declared.bytes.Class.TheVariants.{Space, Quote, Open, Close, OpenList, CloseList, Colon, Comma, Minus, Zero, Digit, LetterN, LetterT, LetterF}
use Rattle.json_reader.specs.declared.number.NumberPart.{NumberPart}
use Rattle.json_reader.specs.Json.{Each, Chars, past, escape}
use Rattle.json_reader.specs.code.Numbers.{number_kind, first_part, part_next, part_then, completes}
use Rattle.json_reader.specs.Refusals.{MayOpen}
use Rattle.json_reader.specs.code.Reading.{class_of, begins_number, Phase, AtValue, AtKeyOrEnd, AtItemOrEnd, AtKey, AtColon, After, InString, InWord, InNumber, Heard, Bad, Closed, Part, Whole, may_escape, escape_heard, heard, Next, Stop, Go, keyless, value_next, by_form, after_next, key_or_end_next, item_or_end_next, word_on, word_next, key_next, colon_next, number_done, number_next, string_end, string_next, string_cause, number_cause, next, cause, judged, judge, verdict}
use Rattle.json_reader.proofs.Spellings.{quote_byte, past-length}
use Rattle.json_reader.proofs.Judged.{err_ok, ok_judge}
use Rattle.json_reader.proofs.Strings.{no_chars, chars_cons, chars_join, Hears, hears, last_ascii}
use Rattle.json_reader.proofs.Escapes.{Escaping, escaping_next, line_breaks}
use Rattle.json_reader.proofs.Parts.{part_or, part_byte, run_one}
use Rattle.json_reader.proofs.NumberTexts.{RunsTo, runs_held}
use Rattle.json_reader.proofs.NumberRuns.{number_ends, number_fails}
use Rattle.json_reader.proofs.Complete.{kind_or}
use Rattle.json_reader.proofs.Closings.{IsOpening, ending, CanClose}
use Rattle.json_reader.proofs.Paths.{then_goes, run, Reached, reached_judge, reached_more}
use Rattle.json_reader.proofs.Verdicts.{verdict_ok}

-- white space before what may begin
line_judge : (q : Phase) → IsOpening q → (w : Unfinished) (t : List ℕ) (at : ℕ) → judge (10 ∷ t) at q w ≡ judge t (suc at) q w
line_judge AtValue o w t at = refl
line_judge AtKeyOrEnd o w t at = refl
line_judge AtItemOrEnd o w t at = refl
line_judge AtKey o w t at = refl
line_judge _ o w t at = elim o [ ]

pub ten_is_no_mark : ◌≡◌ {A = ℕ} 10 239 → ⊥
ten_is_no_mark e = cc

-- where the reading awaits a value or a key, one may begin
pub may_open : (pre : List ℕ) (q : Phase) (w : Unfinished) → Reached pre q w → IsOpening q → MayOpen pre
may_open pre q w r o =
    let e = ending q o w (suc (length pre)) in
    let read : verdict ((pre ++ (10 ∷ 34 ∷ [])) ++ e.0) ≡ Ok e.1 =
    ap verdict (append_assoc pre (10 ∷ 34 ∷ []) e.0) ∙ reached_judge pre (10 ∷ (34 ∷ e.0)) q w r (λ z. ten_is_no_mark) ∙ line_judge q o w (34 ∷ e.0) (length pre) ∙ ok_judge (34 ∷ e.0) (suc (length pre)) q w e.1 e.2 in
    (e.0, e.1, verdict_ok ((pre ++ (10 ∷ 34 ∷ [])) ++ e.0) e.1 read)

-- no white space and no control
abbrev is_visible : ℕ → Bool
is_visible b = nat_lt 32 b

-- a string, a number or a literal name is read up to here
abbrev pub Token : List ℕ → Phase → Type 0
Token pre (InString key t part a) = (before s : List ℕ) × (pre ≡ before ++ (34 ∷ (s ++ part))) × Chars s t × (length before ≡ a) × MayOpen before × Escaping part
Token pre (InNumber q t a) = (before : List ℕ) × (pre ≡ before ++ t) × (length before ≡ a) × MayOpen before × RunsTo q t
Token pre (InWord rest k a) = Each is_visible rest
Token pre _ = Unit {0}

abbrev TokenNext : List ℕ → Next → Type 0
TokenNext pre Stop = Unit {0}
TokenNext pre (Go q w) = Token pre q

cond_token : (pre : List ℕ) (x : Bool) (n m : Next) → TokenNext pre n → TokenNext pre m → TokenNext pre (cond x n m)
cond_token pre true n m a b = a
cond_token pre false n m a b = b

form_token : (pre : List ℕ) (outer : List Level) (n m : Next) → TokenNext pre n → TokenNext pre m → TokenNext pre (by_form outer n m)
form_token pre [] n m a b = tt
form_token pre (x ∷ xs) n m a b = cond_token pre (is_map x.label.kind) n m a b

minus_begins : (b : ℕ) → class_of b ≡ Minus → begins_number b ≡ true
minus_begins b h = grind (arith, nat_tests)

zero_begins : (b : ℕ) → class_of b ≡ Zero → begins_number b ≡ true
zero_begins b h = grind (arith, nat_tests)

digit_begins : (b : ℕ) → class_of b ≡ Digit → begins_number b ≡ true
digit_begins b h = grind (arith, nat_tests)

string_begins : (pre : List ℕ) (b : ℕ) (key : Bool) → class_of b ≡ Quote → MayOpen pre → Token (pre ++ (b ∷ [])) (InString key [] [] (length pre))
string_begins pre b key e m = (pre, [], ap (λ x. pre ++ (x ∷ [])) (quote_byte b e), no_chars, refl, m, tt)

number_begins : (pre : List ℕ) (b : ℕ) → begins_number b ≡ true → MayOpen pre → Token (pre ++ (b ∷ [])) (InNumber (first_part b) (b ∷ []) (length pre))
number_begins pre b e m = (pre, refl, refl, m, (e, refl))

value_token : (c : Class) (pre : List ℕ) (b : ℕ) (u : Unfinished) → class_of b ≡ c → MayOpen pre → TokenNext (pre ++ (b ∷ [])) (value_next (length pre) u b c)
value_token Quote pre b u e m = string_begins pre b false e m
value_token Open pre b u e m = cond_token (pre ++ (b ∷ [])) (nat_lt (length u.outer) 128) (Go AtKeyOrEnd (with_open kind.Map (length pre) u)) Stop tt tt
value_token OpenList pre b u e m = cond_token (pre ++ (b ∷ [])) (nat_lt (length u.outer) 128) (Go AtItemOrEnd (with_open kind.List (length pre) u)) Stop tt tt
value_token LetterN pre b u e m = (refl, (refl, (refl, tt)))
value_token LetterT pre b u e m = (refl, (refl, (refl, tt)))
value_token LetterF pre b u e m = (refl, (refl, (refl, (refl, tt))))
value_token Minus pre b u e m = number_begins pre b (minus_begins b e) m
value_token Zero pre b u e m = number_begins pre b (zero_begins b e) m
value_token Digit pre b u e m = number_begins pre b (digit_begins b e) m
value_token _ pre b u e m = tt

item_token : (c : Class) (pre : List ℕ) (b : ℕ) (u : Unfinished) → class_of b ≡ c → MayOpen pre → TokenNext (pre ++ (b ∷ [])) (item_or_end_next (length pre) u b c)
item_token Space pre b u e m = tt
item_token CloseList pre b u e m = form_token (pre ++ (b ∷ [])) u.outer Stop (Go After (with_end u)) tt tt
item_token c pre b u e m = value_token c pre b (keyless u) e m

key_or_end_token : (c : Class) (pre : List ℕ) (b : ℕ) (u : Unfinished) → class_of b ≡ c → MayOpen pre → TokenNext (pre ++ (b ∷ [])) (key_or_end_next (length pre) u c)
key_or_end_token Quote pre b u e m = string_begins pre b true e m
key_or_end_token Close pre b u e m = form_token (pre ++ (b ∷ [])) u.outer (Go After (with_end u)) Stop tt tt
key_or_end_token _ pre b u e m = tt

key_token : (c : Class) (pre : List ℕ) (b : ℕ) (u : Unfinished) → class_of b ≡ c → MayOpen pre → TokenNext (pre ++ (b ∷ [])) (key_next (length pre) u c)
key_token Quote pre b u e m = string_begins pre b true e m
key_token _ pre b u e m = tt

after_token : (c : Class) (pre : List ℕ) (u : Unfinished) → TokenNext pre (after_next u c)
after_token Comma pre u = form_token pre u.outer (Go AtKey u) (Go AtValue (keyless u)) tt tt
after_token Close pre u = form_token pre u.outer (Go After (with_end u)) Stop tt tt
after_token CloseList pre u = form_token pre u.outer Stop (Go After (with_end u)) tt tt
after_token _ pre u = tt

colon_token : (c : Class) (pre : List ℕ) (u : Unfinished) → TokenNext pre (colon_next u c)
colon_token Space pre u = tt
colon_token Colon pre u = tt
colon_token _ pre u = tt

end_token : (key : Bool) (pre t : List ℕ) (a : ℕ) (u : Unfinished) → TokenNext pre (string_end key t a u)
end_token true pre t a u = cond_token pre (has_key u.done t) Stop (Go AtColon (with_key t u)) tt tt
end_token false pre t a u = tt

-- one byte more of a string
grown : (pre before s part : List ℕ) (b : ℕ) → pre ≡ before ++ (34 ∷ (s ++ part)) → pre ++ (b ∷ []) ≡ before ++ (34 ∷ (s ++ (part ++ (b ∷ []))))
grown pre before s part b e = ap (λ x. x ++ (b ∷ [])) e ∙ append_assoc before (34 ∷ (s ++ part)) (b ∷ []) ∙ ap (λ x. before ++ (34 ∷ x)) (append_assoc s part (b ∷ []))

string_token : (h : Heard) (key : Bool) (pre t part : List ℕ) (b a : ℕ) (u : Unfinished) → Hears part b h → ((s : List ℕ) → h ≡ Part s → Escaping s) → Token pre (InString key t part a) → TokenNext (pre ++ (b ∷ [])) (string_next h key t a u)
string_token Bad key pre t part b a u i f k = tt
string_token Closed key pre t part b a u i f k = end_token key (pre ++ (b ∷ [])) t a u
string_token (Part p) key pre t part b a u i f (before, s, e, ch, n, m, esc) = (before, s, grown pre before s part b e ∙ ap (λ x. before ++ (34 ∷ (s ++ x))) (sym i), ch, n, m, f p refl)
string_token (Whole mean) key pre t part b a u i f (before, s, e, ch, n, m, esc) =
    let c : Chars (part ++ (b ∷ [])) mean = subst (λ x. Chars x mean) (append-nil (part ++ (b ∷ []))) (subst (λ y. Chars ((part ++ (b ∷ [])) ++ []) y) (append-nil mean) (chars_cons (part ++ (b ∷ [])) mean [] [] i no_chars)) in
    (before, s ++ (part ++ (b ∷ [])), grown pre before s part b e ∙ ap (λ x. before ++ (34 ∷ x)) (sym (append-nil (s ++ (part ++ (b ∷ []))))), chars_join s t (part ++ (b ∷ [])) mean ch c, n, m, tt)

word_on_token : (rest : List ℕ) (pre : List ℕ) (k : Kind) (a : ℕ) (u : Unfinished) → Each is_visible rest → TokenNext pre (word_on rest k a u)
word_on_token [] pre k a u e = tt
word_on_token (c ∷ rest) pre k a u e = e

word_token : (rest : List ℕ) (pre : List ℕ) (k : Kind) (a b : ℕ) (u : Unfinished) → Each is_visible rest → TokenNext pre (word_next rest k a u b)
word_token [] pre k a b u e = tt
word_token (c ∷ rest) pre k a b u e = cond_token pre (nat_eq b c) (word_on rest k a u) Stop (word_on_token rest pre k a u e.1) tt

pub runs_more : (q r : NumberPart) (t : List ℕ) (b : ℕ) → RunsTo q t → part_next q b ≡ Some r → RunsTo r (t ++ (b ∷ []))
runs_more q r [] b h n = elim h [ ]
runs_more q r (x ∷ t) b h n = (h.0, run_one (Some (first_part x)) t b ∙ ap (λ o. part_then o b) h.1 ∙ n)

done_token : (o : Option Kind) (pre : List ℕ) (a b : ℕ) (u : Unfinished) → TokenNext pre (number_done o a u (λ w. after_next w (class_of b)))
done_token None pre a b u = tt
done_token (Some k) pre a b u = after_token (class_of b) pre (with_value k [] a u)

number_token : (o : Option NumberPart) (q : NumberPart) (pre t : List ℕ) (b a : ℕ) (u : Unfinished) → part_next q b ≡ o → Token pre (InNumber q t a) → TokenNext (pre ++ (b ∷ [])) (number_next o t a u b)
number_token (Some r) q pre t b a u n (before, e, l, m, h) = (before, ap (λ x. x ++ (b ∷ [])) e ∙ append_assoc before t (b ∷ []), l, m, runs_more q r t b h n)
number_token None q pre t b a u n k = done_token (number_kind t) (pre ++ (b ∷ [])) a b u

token_next : (pre : List ℕ) (b : ℕ) (q : Phase) (w : Unfinished) → Reached pre q w → Token pre q → TokenNext (pre ++ (b ∷ [])) (next (length pre) q w b)
token_next pre b AtValue w r k = value_token (class_of b) pre b w refl (may_open pre AtValue w r tt)
token_next pre b AtKeyOrEnd w r k = key_or_end_token (class_of b) pre b w refl (may_open pre AtKeyOrEnd w r tt)
token_next pre b AtItemOrEnd w r k = item_token (class_of b) pre b w refl (may_open pre AtItemOrEnd w r tt)
token_next pre b AtKey w r k = key_token (class_of b) pre b w refl (may_open pre AtKey w r tt)
token_next pre b AtColon w r k = colon_token (class_of b) (pre ++ (b ∷ [])) w
token_next pre b After w r k = after_token (class_of b) (pre ++ (b ∷ [])) w
token_next pre b (InString key t part a) w r k = string_token (heard part b) key pre t part b a w (hears part b) (λ s e. escaping_next part b s k.6 e) k
token_next pre b (InWord rest x a) w r k = word_token rest (pre ++ (b ∷ [])) x a b w k
token_next pre b (InNumber q t a) w r k = number_token (part_next q b) q pre t b a w refl k

token_along : (body pre : List ℕ) (p : Phase) (u : Unfinished) (q : Phase) (w : Unfinished) → Reached pre p u → Token pre p → run body (length pre) p u ≡ Go q w → Token (pre ++ body) q
token_along [] pre p u q w r k e =
    let same : p ≡ q = cc in
    subst (λ x. Token (pre ++ []) x) same (subst (λ x. Token x p) (sym (append-nil pre)) k)
token_along (b ∷ body) pre p u q w r k e =
    let g = then_goes (next (length pre) p u b) (run body (suc (length pre))) q w e in
    let n : suc (length pre) ≡ length (pre ++ (b ∷ [])) = let h = length-append pre (b ∷ []) in omega (arith, h) in
    subst (λ x. Token x q) (append_assoc pre (b ∷ []) body) (token_along body (pre ++ (b ∷ [])) g.0 g.1 q w (reached_more pre b p g.0 u g.1 r g.2) (subst (TokenNext (pre ++ (b ∷ []))) g.2 (token_next pre b p u r k)) (ap (λ n. run body n g.0 g.1) (sym n) ∙ g.3))

pub reached_token : (pre : List ℕ) (q : Phase) (w : Unfinished) → Reached pre q w → Token pre q
reached_token pre q w r =
    let n : length r.front ≡ past 0 r.front = let h = past-length 0 r.front in omega (arith, h) in
    let begins : Reached r.front AtValue start = record { front = r.front; body = []; is_front = r.is_front; joined = sym (append-nil r.front); runs = refl } in
    subst (λ x. Token x q) (sym r.joined) (token_along r.body r.front AtValue start q w begins tt (ap (λ n. run r.body n AtValue start) n ∙ r.runs))

pub can_close : (pre : List ℕ) (q : Phase) → Token pre q → CanClose q
can_close pre (InString key t part a) k = k.6
can_close pre (InNumber q t a) k = runs_held q t k.4
can_close pre AtValue k = tt
can_close pre AtKeyOrEnd k = tt
can_close pre AtItemOrEnd k = tt
can_close pre AtKey k = tt
can_close pre AtColon k = tt
can_close pre After k = tt
can_close pre (InWord rest x a) k = tt

-- a line feed stands in no token
control_escape : (x : ℕ) (part : List ℕ) (o : Option ℕ) → escape (x ∷ (part ++ (10 ∷ []))) ≡ o → o ≡ None
control_escape x part None e = refl
control_escape x part (Some n) e = let l = last_ascii (x ∷ part) 10 n e in absurd (omega (arith, l.0))

line_bad : (part : List ℕ) → heard part 10 ≡ Bad
line_bad [] = refl
line_bad (x ∷ part) =
    let s : List ℕ = x ∷ (part ++ (10 ∷ [])) in
    ap (λ o. escape_heard o (may_escape s) s) (control_escape x part (escape s) refl) ∙ ap (λ q. cond q (Part s) Bad) (line_breaks (x ∷ part))

other_letter : (c : ℕ) → is_visible c ≡ true → nat_eq 10 c ≡ false
other_letter c h = grind (arith, nat_tests)

word_line : (rest t : List ℕ) (k : Kind) (a at : ℕ) (u : Unfinished) (v : Forest) → Each is_visible rest → judge (10 ∷ t) at (InWord rest k a) u ≡ Ok v → ⊥
word_line [] t k a at u v e h = err_ok (cause at (InWord [] k a) 10) v h
word_line (c ∷ rest) t k a at u v e h = err_ok (cause at (InWord (c ∷ rest) k a) 10) v (sym (ap (λ q. judged (cond q (word_on rest k a u) Stop) (cause at (InWord (c ∷ rest) k a) 10) (judge t (suc at))) (other_letter c e.0)) ∙ h)

no_number_line : (r : NumberPart) (q : NumberPart) → part_next q 10 ≡ Some r → ⊥
no_number_line r q e = let x : false ≡ true = part_byte q 10 r e in cc

number_line : (q : NumberPart) (t : List ℕ) (a at : ℕ) (u : Unfinished) (more : List ℕ) (v : Forest) → judge (10 ∷ (34 ∷ more)) at (InNumber q t a) u ≡ Ok v → ⊥
number_line q t a at u more v h = elim (part_or (part_next q 10)) [
  | inl s ↦ no_number_line s.0 q s.1
  | inr n ↦ elim (kind_or (number_kind t)) [
    | inl k ↦ err_ok (cause (suc at) After 34) v (sym (number_ends (10 ∷ (34 ∷ more)) at q t a k.0 u n k.1) ∙ h)
    | inr e ↦ err_ok (number_cause at (completes q) None a) v (sym (number_fails (10 ∷ (34 ∷ more)) at q t a u n e) ∙ h)
  ]
]

-- where a line feed and a string may follow, the reading awaits a value or a key
pub line_opens : (pre : List ℕ) (q : Phase) (w : Unfinished) (more : List ℕ) (at : ℕ) (v : Forest) → Token pre q → judge (10 ∷ (34 ∷ more)) at q w ≡ Ok v → IsOpening q
line_opens pre AtValue w more at v k h = tt
line_opens pre AtKeyOrEnd w more at v k h = tt
line_opens pre AtItemOrEnd w more at v k h = tt
line_opens pre AtKey w more at v k h = tt
line_opens pre AtColon w more at v k h = absurd (err_ok (cause (suc at) AtColon 34) v h)
line_opens pre After w more at v k h = absurd (err_ok (cause (suc at) After 34) v h)
line_opens pre (InString key t part a) w more at v k h = absurd (err_ok (string_cause at Bad a) v (sym (ap (λ x. judged (string_next x key t a w) (string_cause at x a) (judge (34 ∷ more) (suc at))) (line_bad part)) ∙ h))
line_opens pre (InWord rest x a) w more at v k h = absurd (word_line rest (34 ∷ more) x a at w v k h)
line_opens pre (InNumber q t a) w more at v k h = absurd (number_line q t a at w more v h)
