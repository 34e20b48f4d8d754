-- Where reading ends with a sign, it counts.
use Rattle.std.proofs.Common.{◌≡◌, ℕ, suc, Bool, true, false, List, [], ◌∷◌, ◌++◌, length, ◌<◌, refl, sym, ap, inl, inr, ◌∙◌, subst, append_assoc, append-nil, Option, Some, None, cond}
use Rattle.std.specs.Prelude.{Err, nat_lt}
use Rattle.doc_values.specs.declared.kind.Kind.{Kind}
use Rattle.doc_values.specs.declared.kind.Kind.TheVariants as kind
use Rattle.decimals.specs.Number.{Parts, IsSpelled}
use Rattle.doc_values.specs.Tree.{Label, Nil, snoc, has_key, holds_values}
use Rattle.doc_values.specs.Unfinished.{Unfinished, with_value, with_open, with_key}
use Rattle.json_reader.specs.declared.bytes.Class.{Class}
use Rattle.json_reader.specs.declared.bytes.Class.TheVariants.{Open, OpenList}
use Rattle.json_reader.specs.declared.number.NumberPart.{NumberPart}
use Rattle.json_reader.specs.declared.refusal.JsonRefusal.{JsonRefusal}
use Rattle.json_reader.specs.declared.refusal.JsonRefusal.TheVariants.{Syntax, DuplicateKey, NumberRange, TooDeep}
use Rattle.json_reader.specs.Json.{IsInRange, Collection, Object, Array, opening, closing, kind_of, Shape, AreDistinct, AreInRange, AreShallow, Json}
use Rattle.json_reader.specs.code.Numbers.{number_kind, first_part, part_next, completes, run_parts}
use Rattle.json_reader.specs.Refusals.{Begins, ButRange, ButKeys, IsComplete, DeepSign, KeySign, RangeSign, CountsAt, IsCounting}
use Rattle.json_reader.specs.code.Reading.{class_of, Phase, AtValue, AtKeyOrEnd, AtItemOrEnd, AtKey, AtColon, After, InString, InWord, InNumber, Heard, Closed, heard, Stop, Go, keyless, value_next, item_or_end_next, string_end, string_next, number_next, next, value_cause, string_cause, number_cause, cause, final_cause, mark_stop, behind_mark, verdict}
use Rattle.json_reader.proofs.Judged.{IsSign, err_same}
use Rattle.json_reader.proofs.Spellings.{open_byte, open_list_byte}
use Rattle.json_reader.proofs.Strings.{no_chars, Hears, hears}
use Rattle.json_reader.proofs.NumberKinds.{number_complete}
use Rattle.json_reader.proofs.NumberRuns.{NoMore}
use Rattle.json_reader.proofs.NumberTexts.{RunsTo, runs_held, held_spelled, stands}
use Rattle.json_reader.proofs.Parts.{run_append, run_none, spelled_runs, Runs}
use Rattle.json_reader.proofs.Complete.{too_deep, old_key}
use Rattle.json_reader.proofs.Limits.{KeepsLimitsAt, AreDistinct-snoc, AreInRange-snoc, AreShallow-snoc, kept_keyless, stands_plain}
use Rattle.json_reader.proofs.Closings.{closers, closed, closed_distinct, closed_range, closed_shallow, IsOpening, IsValued, holder, valued_completes, deep_close, key_close, number_close}
use Rattle.json_reader.proofs.Paths.{StopsHere, Reached, reached_judge, reached_shape, reached_kept, stopped}
use Rattle.json_reader.proofs.Tokens.{may_open, Token, reached_token}
use Rattle.json_reader.proofs.Counting.{open_judge, quote_no_mark}
use Rattle.json_reader.proofs.Verdicts.{verdict_err}

stop_go : (q : Phase) (w : Unfinished) → Go q w ≡ Stop → ⊥
stop_go q w e = cc

-- a bracket too many
valued_opens : (q : Phase) → IsValued q → IsOpening q
valued_opens AtValue i = tt
valued_opens AtItemOrEnd i = tt
valued_opens _ i = elim i [ ]

holder_kept : (q : Phase) (w : Unfinished) → IsValued q → KeepsLimitsAt q w → KeepsLimitsAt AtValue (holder q w)
holder_kept AtValue w i k = k
holder_kept AtItemOrEnd w i k = record { good = kept_keyless w k.good; room = tt }
holder_kept _ w i k = elim i [ ]

collection_in_range : (o : Collection) → IsInRange (kind_of o)
collection_in_range Object = tt
collection_in_range Array = tt

deep_never : (pre : List ℕ) (o : Collection) (q : Phase) (w : Unfinished) → Reached pre q w → IsValued q → nat_lt (length (holder q w).outer) 128 ≡ false → Begins Json (pre ++ (opening o ∷ [])) → ⊥
deep_never pre o q w r i full (more, tree, j) = verdict_err ((pre ++ (opening o ∷ [])) ++ more) (TooDeep (length pre)) (ap verdict (append_assoc pre (opening o ∷ []) more) ∙ open_judge pre more o q w r i ∙ too_deep o more (length pre) (holder q w) full) tree j

deep_counts : (pre t : List ℕ) (o : Collection) (q : Phase) (w : Unfinished) → Reached pre q w → IsValued q → nat_lt (length (holder q w).outer) 128 ≡ false → CountsAt DeepSign (pre ++ (opening o ∷ t)) (length pre)
deep_counts pre t o q w r i full =
    let at = length pre in
    let u = holder q w in
    let k = holder_kept q w i (reached_kept pre q w r) in
    let l : Label = record { kind = kind_of o; text = []; key = u.key; at = at } in
    let more : List ℕ = closing o ∷ closers u.outer in
    let tree = closed u.outer (snoc u.done l Nil) in
    let shape : Shape ((pre ++ (opening o ∷ [])) ++ more) tree = subst (λ x. Shape x tree) (sym (append_assoc pre (opening o ∷ []) more)) (reached_shape pre (opening o ∷ more) q w tree r (valued_completes q i w at (opening o ∷ more) tree (deep_close o at u))) in
    let distinct : AreDistinct tree Nil = closed_distinct u.outer (snoc u.done l Nil) k.good.outer (AreDistinct-snoc u.done Nil l Nil k.good.distinct k.room tt) in
    let range : AreInRange tree = closed_range u.outer (snoc u.done l Nil) k.good.outer (AreInRange-snoc u.done l Nil k.good.range (collection_in_range o) tt) in
    (pre, opening o ∷ t, refl, refl, may_open pre q w r (valued_opens q i), (o, t, refl, (more, tree, (shape, distinct, range)), deep_never pre o q w r i full))

-- a key again
text_shallow : (d : ℕ) → holds_values kind.Text ≡ true → d < 128
text_shallow d e = absurd (cc)

key_front : (pre before s t : List ℕ) → pre ≡ before ++ (34 ∷ (s ++ [])) → before ++ ((34 ∷ (s ++ (34 ∷ []))) ++ t) ≡ pre ++ (34 ∷ t)
key_front pre before s t e = ap (λ x. before ++ (34 ∷ x)) (append_assoc s (34 ∷ []) t) ∙ sym (append_assoc before (34 ∷ s) (34 ∷ t)) ∙ ap (λ x. (before ++ (34 ∷ x)) ++ (34 ∷ t)) (sym (append-nil s)) ∙ ap (λ x. x ++ (34 ∷ t)) (sym e)

key_behind : (pre before s t : List ℕ) → pre ≡ before ++ (34 ∷ (s ++ [])) → (before ++ (34 ∷ (s ++ (34 ∷ [])))) ++ t ≡ pre ++ (34 ∷ t)
key_behind pre before s t e = append_assoc before (34 ∷ (s ++ (34 ∷ []))) t ∙ key_front pre before s t e

key_never : (pre before s text : List ℕ) (a : ℕ) (w : Unfinished) → Reached pre (InString true text [] a) w → has_key w.done text ≡ true → pre ≡ before ++ (34 ∷ (s ++ [])) → Begins Json (before ++ (34 ∷ (s ++ (34 ∷ [])))) → ⊥
key_never pre before s text a w r old e (more, tree, j) =
    verdict_err ((before ++ (34 ∷ (s ++ (34 ∷ [])))) ++ more) (DuplicateKey a) (ap verdict (key_behind pre before s more e) ∙ reached_judge pre (34 ∷ more) (InString true text [] a) w r (λ z. quote_no_mark) ∙ old_key text more (length pre) a w old) tree j

key_begins : (pre before s text : List ℕ) (a : ℕ) (w : Unfinished) → Reached pre (InString true text [] a) w → pre ≡ before ++ (34 ∷ (s ++ [])) → Begins ButKeys (before ++ (34 ∷ (s ++ (34 ∷ []))))
key_begins pre before s text a w r e =
    let k = (reached_kept pre (InString true text [] a) w r).good in
    let l : Label = record { kind = kind.Text; text = []; key = Some (text ++ []); at = suc (suc (length pre)) } in
    let more : List ℕ = 58 ∷ (34 ∷ (34 ∷ closers w.outer)) in
    let tree = closed w.outer (snoc w.done l Nil) in
    let shape : Shape ((before ++ (34 ∷ (s ++ (34 ∷ [])))) ++ more) tree = subst (λ x. Shape x tree) (sym (key_behind pre before s more e)) (reached_shape pre (34 ∷ more) (InString true text [] a) w tree r (key_close text [] [] [] a (length pre) w no_chars)) in
    let range : AreInRange tree = closed_range w.outer (snoc w.done l Nil) k.outer (AreInRange-snoc w.done l Nil k.range tt tt) in
    let shallow : AreShallow tree 0 = closed_shallow w.outer (snoc w.done l Nil) k.outer (AreShallow-snoc w.done l Nil (length w.outer) k.shallow (text_shallow (length w.outer)) tt) in
    (more, tree, (shape, range, shallow))

key_token_counts : (pre rest text : List ℕ) (a : ℕ) (w : Unfinished) → Reached pre (InString true text [] a) w → has_key w.done text ≡ true → Token pre (InString true text [] a) → CountsAt KeySign (pre ++ (34 ∷ rest)) a
key_token_counts pre rest text a w r old (before, s, e, ch, n, m, esc) =
    (before, (34 ∷ (s ++ (34 ∷ []))) ++ rest, sym (key_front pre before s rest e), n, m, (s, text, rest, refl, ch, key_begins pre before s text a w r e, key_never pre before s text a w r old e))

key_counts : (pre rest text : List ℕ) (a : ℕ) (w : Unfinished) → Reached pre (InString true text [] a) w → has_key w.done text ≡ true → CountsAt KeySign (pre ++ (34 ∷ rest)) a
key_counts pre rest text a w r old = key_token_counts pre rest text a w r old (reached_token pre (InString true text [] a) w r)

-- a number out of range
none_some : (k : Kind) → ◌≡◌ {A = Option Kind} None (Some k) → ⊥
none_some k e = cc

none_part : (r : NumberPart) → ◌≡◌ {A = Option NumberPart} None (Some r) → ⊥
none_part r e = cc

runs_stop : (r : NumberPart) (n : List ℕ) (b : ℕ) (more : List ℕ) → RunsTo r n → part_next r b ≡ None → Runs (n ++ (b ∷ more)) → ⊥
runs_stop r [] b more h n g = elim h [ ]
runs_stop r (x ∷ xs) b more h n (y, g, c) =
    none_part y (sym (run_append (Some (first_part x)) xs (b ∷ more) ∙ ap (λ o. run_parts o (b ∷ more)) h.1 ∙ ap (λ o. run_parts o more) n ∙ run_none more) ∙ g)

complete_so : (r : NumberPart) (n rest : List ℕ) → RunsTo r n → NoMore r rest → IsComplete n rest
complete_so r n [] h m = inl refl
complete_so r n (b ∷ rest) h m = inr (b, rest, refl, λ more p s. runs_stop r n b more h m (spelled_runs (n ++ (b ∷ more)) p s))

plain_shallow : (k : Kind) (d : ℕ) → holds_values k ≡ false → holds_values k ≡ true → d < 128
plain_shallow k d e f = absurd (let x : false ≡ true = sym e ∙ f in cc)

range_begins : (pre before t : List ℕ) (r : NumberPart) (a : ℕ) (w : Unfinished) (p : Parts) → Reached pre (InNumber r t a) w → pre ≡ before ++ t → IsSpelled t p → Begins ButRange (before ++ t)
range_begins pre before t r a w p h e sp =
    let g = reached_kept pre (InNumber r t a) w h in
    let k = g.good in
    let s = stands p in
    let l : Label = record { kind = s.0; text = []; key = w.key; at = a } in
    let more : List ℕ = closers w.outer in
    let tree = closed w.outer (snoc w.done l Nil) in
    let shape : Shape ((before ++ t) ++ more) tree = subst (λ x. Shape (x ++ more) tree) e (reached_shape pre more (InNumber r t a) w tree h (number_close r t [] p s.0 a (length pre) w (subst (λ x. IsSpelled x p) (sym (append-nil t)) sp) s.1)) in
    let distinct : AreDistinct tree Nil = closed_distinct w.outer (snoc w.done l Nil) k.outer (AreDistinct-snoc w.done Nil l Nil k.distinct g.room tt) in
    let shallow : AreShallow tree 0 = closed_shallow w.outer (snoc w.done l Nil) k.outer (AreShallow-snoc w.done l Nil (length w.outer) k.shallow (plain_shallow s.0 (length w.outer) (stands_plain p s.0 s.1)) tt) in
    (more, tree, (shape, distinct, shallow))

range_token_counts : (pre rest t : List ℕ) (r : NumberPart) (a : ℕ) (w : Unfinished) → Reached pre (InNumber r t a) w → completes r ≡ true → number_kind t ≡ None → NoMore r rest → Token pre (InNumber r t a) → CountsAt RangeSign (pre ++ rest) a
range_token_counts pre rest t r a w h c out m (before, e, n, o, runs) =
    let s = held_spelled r t c (runs_held r t runs) in
    (before, t ++ rest, ap (λ x. x ++ rest) e ∙ append_assoc before t rest, n, o, (t, rest, s.0, refl, s.1, complete_so r t rest runs m, λ k st rg. none_some k (sym out ∙ number_complete t s.0 k s.1 st rg), range_begins pre before t r a w s.0 h e s.1))

range_counts : (pre rest t : List ℕ) (r : NumberPart) (a : ℕ) (w : Unfinished) → Reached pre (InNumber r t a) w → completes r ≡ true → number_kind t ≡ None → NoMore r rest → CountsAt RangeSign (pre ++ rest) a
range_counts pre rest t r a w h c out m = range_token_counts pre rest t r a w h c out m (reached_token pre (InNumber r t a) w h)

-- what ends a reading with a sign
no_sign : (at : ℕ) (e : JsonRefusal) → Syntax at ≡ e → IsSign e → ⊥
no_sign at e s g = subst IsSign (sym s) g

full_when : (x : Bool) (q : Phase) (w : Unfinished) → cond x (Go q w) Stop ≡ Stop → x ≡ false
full_when true q w e = absurd (stop_go q w e)
full_when false q w e = refl

open_stop : (pre t : List ℕ) (b : ℕ) (q : Phase) (w : Unfinished) (e : JsonRefusal) (o : Collection) → Reached pre q w → IsValued q → b ≡ opening o → nat_lt (length (holder q w).outer) 128 ≡ false → TooDeep (length pre) ≡ e → IsCounting (pre ++ (b ∷ t)) e
open_stop pre t b q w e o r i is full c = subst (λ x. IsCounting (pre ++ (b ∷ t)) x) c (subst (λ x. CountsAt DeepSign (pre ++ (x ∷ t)) (length pre)) (sym is) (deep_counts pre t o q w r i full))

value_stop : (c : Class) (pre t : List ℕ) (b : ℕ) (w : Unfinished) (e : JsonRefusal) → class_of b ≡ c → Reached pre AtValue w → value_next (length pre) w b c ≡ Stop → value_cause (length pre) c ≡ e → IsSign e → IsCounting (pre ++ (b ∷ t)) e
value_stop Open pre t b w e k r n c s = open_stop pre t b AtValue w e Object r tt (open_byte b k) (full_when (nat_lt (length w.outer) 128) AtKeyOrEnd (with_open kind.Map (length pre) w) n) c
value_stop OpenList pre t b w e k r n c s = open_stop pre t b AtValue w e Array r tt (open_list_byte b k) (full_when (nat_lt (length w.outer) 128) AtItemOrEnd (with_open kind.List (length pre) w) n) c
value_stop _ pre t b w e k r n c s = absurd (no_sign (length pre) e c s)

item_stop : (c : Class) (pre t : List ℕ) (b : ℕ) (w : Unfinished) (e : JsonRefusal) → class_of b ≡ c → Reached pre AtItemOrEnd w → item_or_end_next (length pre) w b c ≡ Stop → value_cause (length pre) c ≡ e → IsSign e → IsCounting (pre ++ (b ∷ t)) e
item_stop Open pre t b w e k r n c s = open_stop pre t b AtItemOrEnd w e Object r tt (open_byte b k) (full_when (nat_lt (length w.outer) 128) AtKeyOrEnd (with_open kind.Map (length pre) (keyless w)) n) c
item_stop OpenList pre t b w e k r n c s = open_stop pre t b AtItemOrEnd w e Array r tt (open_list_byte b k) (full_when (nat_lt (length w.outer) 128) AtItemOrEnd (with_open kind.List (length pre) (keyless w)) n) c
item_stop _ pre t b w e k r n c s = absurd (no_sign (length pre) e c s)

old_when : (x : Bool) (q : Phase) (w : Unfinished) → cond x Stop (Go q w) ≡ Stop → x ≡ true
old_when true q w e = refl
old_when false q w e = absurd (stop_go q w e)

closed_stop : (key : Bool) (pre t text part : List ℕ) (b a : ℕ) (w : Unfinished) (e : JsonRefusal) → part ≡ [] → b ≡ 34 → Reached pre (InString key text part a) w → string_end key text a w ≡ Stop → DuplicateKey a ≡ e → IsCounting (pre ++ (b ∷ t)) e
closed_stop true pre t text part b a w e p q r n c = subst (λ x. IsCounting (pre ++ (b ∷ t)) x) c (subst (λ x. CountsAt KeySign (pre ++ (x ∷ t)) a) (sym q) (key_counts pre t text a w (subst (λ x. Reached pre (InString true text x a) w) p r) (old_when (has_key w.done text) AtColon (with_key text w) n)))
closed_stop false pre t text part b a w e p q r n c = absurd (stop_go After (with_value kind.Text text a w) n)

string_stop : (h : Heard) (key : Bool) (pre t text part : List ℕ) (b a : ℕ) (w : Unfinished) (e : JsonRefusal) → Hears part b h → Reached pre (InString key text part a) w → string_next h key text a w ≡ Stop → string_cause (length pre) h a ≡ e → IsSign e → IsCounting (pre ++ (b ∷ t)) e
string_stop Closed key pre t text part b a w e i r n c s = closed_stop key pre t text part b a w e i.0 i.1 r n c
string_stop _ key pre t text part b a w e i r n c s = absurd (no_sign (length pre) e c s)

number_sign : (x : Bool) (o : Option Kind) (at a : ℕ) (e : JsonRefusal) → number_cause at x o a ≡ e → IsSign e → (x ≡ true) × (o ≡ None) × (NumberRange a ≡ e)
number_sign true None at a e c s = (refl, refl, c)
number_sign true (Some k) at a e c s = absurd (no_sign at e c s)
number_sign false o at a e c s = absurd (no_sign at e c s)

number_more : (o : Option NumberPart) (t : List ℕ) (a : ℕ) (w : Unfinished) (b : ℕ) → number_next o t a w b ≡ Stop → o ≡ None
number_more (Some q) t a w b n = absurd (stop_go (InNumber q (t ++ (b ∷ [])) a) w n)
number_more None t a w b n = refl

number_stop : (pre rest t : List ℕ) (r : NumberPart) (at a : ℕ) (w : Unfinished) (e : JsonRefusal) → Reached pre (InNumber r t a) w → NoMore r rest → number_cause at (completes r) (number_kind t) a ≡ e → IsSign e → IsCounting (pre ++ rest) e
number_stop pre rest t r at a w e h m c s =
    let k = number_sign (completes r) (number_kind t) at a e c s in
    subst (λ x. IsCounting (pre ++ rest) x) k.2 (range_counts pre rest t r a w h k.0 k.1 m)

byte_stop : (q : Phase) (pre t : List ℕ) (b : ℕ) (w : Unfinished) (e : JsonRefusal) → Reached pre q w → next (length pre) q w b ≡ Stop → cause (length pre) q b ≡ e → IsSign e → IsCounting (pre ++ (b ∷ t)) e
byte_stop AtValue pre t b w e r n c s = value_stop (class_of b) pre t b w e refl r n c s
byte_stop AtItemOrEnd pre t b w e r n c s = item_stop (class_of b) pre t b w e refl r n c s
byte_stop (InString key text part a) pre t b w e r n c s = string_stop (heard part b) key pre t text part b a w e (hears part b) r n c s
byte_stop (InNumber q text a) pre t b w e r n c s = number_stop pre (b ∷ t) text q (length pre) a w e r (number_more (part_next q b) text a w b n) c s
byte_stop AtKeyOrEnd pre t b w e r n c s = absurd (no_sign (length pre) e c s)
byte_stop AtKey pre t b w e r n c s = absurd (no_sign (length pre) e c s)
byte_stop AtColon pre t b w e r n c s = absurd (no_sign (length pre) e c s)
byte_stop After pre t b w e r n c s = absurd (no_sign (length pre) e c s)
byte_stop (InWord rest k a) pre t b w e r n c s = absurd (no_sign (length pre) e c s)

end_stop : (q : Phase) (pre : List ℕ) (w : Unfinished) (e : JsonRefusal) → Reached pre q w → final_cause (length pre) q ≡ e → IsSign e → IsCounting (pre ++ []) e
end_stop (InNumber q text a) pre w e r c s = number_stop pre [] text q (length pre) a w e r tt c s
end_stop AtValue pre w e r c s = absurd (no_sign (length pre) e c s)
end_stop AtItemOrEnd pre w e r c s = absurd (no_sign (length pre) e c s)
end_stop AtKeyOrEnd pre w e r c s = absurd (no_sign (length pre) e c s)
end_stop AtKey pre w e r c s = absurd (no_sign (length pre) e c s)
end_stop AtColon pre w e r c s = absurd (no_sign (length pre) e c s)
end_stop After pre w e r c s = absurd (no_sign (length pre) e c s)
end_stop (InString key text part a) pre w e r c s = absurd (no_sign (length pre) e c s)
end_stop (InWord rest k a) pre w e r c s = absurd (no_sign (length pre) e c s)

here_counts : (rest pre : List ℕ) (q : Phase) (w : Unfinished) (e : JsonRefusal) → Reached pre q w → StopsHere rest (length pre) q w e → IsSign e → IsCounting (pre ++ rest) e
here_counts [] pre q w e r c s = end_stop q pre w e r c s
here_counts (b ∷ t) pre q w e r (n, c) s = byte_stop q pre t b w e r n c s

mark_counts : (bytes : List ℕ) (o : Option ℕ) (e : JsonRefusal) → mark_stop bytes ≡ o → behind_mark bytes o ≡ Err e → IsSign e → IsCounting bytes e
mark_counts bytes (Some n) e m v s = absurd (no_sign n e (err_same (Syntax n) e v) s)
mark_counts bytes None e m v s =
    let g = stopped bytes e m (ap (behind_mark bytes) m ∙ v) in
    subst (λ x. IsCounting x e) (sym g.4) (here_counts g.1 g.0 g.2 g.3 e g.5 g.6 s)

-- so a sign that a text is refused for counts in it
pub sign_counts : (bytes : List ℕ) (e : JsonRefusal) → IsSign e → verdict bytes ≡ Err e → IsCounting bytes e
sign_counts bytes e s v = mark_counts bytes (mark_stop bytes) e refl v s
