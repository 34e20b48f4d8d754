-- What is read has distinct keys, is in range and is shallow: each step keeps it.
use Rattle.std.proofs.Common.{◌≡◌, ℕ, suc, ◌<◌, Bool, true, false, List, [], ◌∷◌, ◌++◌, length, drop, refl, sym, inl, inr, subst, Option, Some, None}
use Rattle.std.specs.Prelude.{nat_eq, nat_lt}
use Rattle.std.proofs.lemmas.Bool.{ltb-true}
use Rattle.doc_values.specs.declared.kind.Kind.{Kind}
use Rattle.doc_values.specs.declared.kind.Kind.TheVariants as kind
use Rattle.doc_values.specs.Tree.{Label, Forest, Nil, Node, snoc, joined, has_key, is_map, holds_values}
use Rattle.doc_values.specs.code.Laws.{joined-Nil, joined-snoc}
use Rattle.doc_values.specs.Unfinished.{Level, Unfinished, start, with_value, with_open, with_key, with_end}
use Rattle.json_reader.specs.declared.bytes.Class.{Class}
use Rattle.json_reader.specs.declared.bytes.Class.TheVariants.{Space, Quote, Open, Close, OpenList, CloseList, Colon, Comma, Minus, Zero, Digit, LetterN, LetterT, LetterF}
use Rattle.json_reader.specs.Json.{IsNew, StandsFor, AreDistinct, IsInRange, AreInRange, AreShallow, Json}
use Rattle.json_reader.specs.code.Reading.{class_of, Phase, AtValue, AtKeyOrEnd, AtItemOrEnd, AtKey, AtColon, After, InString, InWord, InNumber, Stop, Go, keyless, value_next, by_form, after_next, key_or_end_next, item_or_end_next, word_on, word_next, key_next, colon_next, number_done, number_next, next, Heard, Bad, Closed, Part, Whole, heard, string_end, string_next, whole_tree, number_end, final, read, mark_len, tree_read}
use Rattle.json_reader.proofs.Spellings.{chosen}
use Rattle.json_reader.specs.declared.number.NumberPart.{NumberPart}
use Rattle.json_reader.specs.code.Numbers.{number_kind, first_part, part_next}
use Rattle.decimals.specs.Number.{Parts}
use Rattle.json_reader.proofs.NumberKinds.{number_sound}
use Rattle.json_reader.proofs.Sound.{goes, number_goes, shape_read}
use Rattle.json_reader.proofs.Complete.{complete}

pub AreDistinct-snoc : (f before : Forest) (l : Label) (kids : Forest) → AreDistinct f before → IsNew (joined before f) l.key → AreDistinct kids Nil → AreDistinct (snoc f l kids) before
AreDistinct-snoc Nil before l kids d n k = (subst (λ (g : Forest). IsNew g l.key) (joined-Nil before) n, k, tt)
AreDistinct-snoc (Node m ks rest) before l kids d n k = (d.0, d.1, AreDistinct-snoc rest (snoc before m ks) l kids d.2 (subst (λ (g : Forest). IsNew g l.key) (sym (joined-snoc before m ks rest)) n) k)

pub AreInRange-snoc : (f : Forest) (l : Label) (kids : Forest) → AreInRange f → IsInRange l.kind → AreInRange kids → AreInRange (snoc f l kids)
AreInRange-snoc Nil l kids s n k = (n, k, tt)
AreInRange-snoc (Node m ks rest) l kids s n k = (s.0, s.1, AreInRange-snoc rest l kids s.2 n k)

pub AreShallow-snoc : (f : Forest) (l : Label) (kids : Forest) (d : ℕ) → AreShallow f d → (holds_values l.kind ≡ true → d < 128) → AreShallow kids (suc d) → AreShallow (snoc f l kids) d
AreShallow-snoc Nil l kids d s n k = (n, k, tt)
AreShallow-snoc (Node m ks rest) l kids d s n k = (s.0, s.1, AreShallow-snoc rest l kids d s.2 n k)

-- the open collections
abbrev pub LevelsKeep : List Level → Type 0
LevelsKeep [] = Unit {0}
LevelsKeep (x ∷ xs) = AreDistinct x.before Nil × IsNew x.before x.label.key × AreInRange x.before × IsInRange x.label.kind × AreShallow x.before (length xs) × (length xs < 128) × LevelsKeep xs

pub record KeepsLimits (u : Unfinished) : Type 0 where
  pub outer : LevelsKeep u.outer
  pub distinct : AreDistinct u.done Nil
  pub range : AreInRange u.done
  pub shallow : AreShallow u.done (length u.outer)

-- where a value comes, its key is new
abbrev pub HasRoom : Phase → Unfinished → Type 0
HasRoom AtValue u = IsNew u.done u.key
HasRoom AtKeyOrEnd u = Unit {0}
HasRoom AtItemOrEnd u = Unit {0}
HasRoom AtKey u = Unit {0}
HasRoom AtColon u = IsNew u.done u.key
HasRoom After u = Unit {0}
HasRoom (InString true t part a) u = Unit {0}
HasRoom (InString false t part a) u = IsNew u.done u.key
HasRoom (InWord rest k a) u = IsNew u.done u.key × (holds_values k ≡ false) × IsInRange k
HasRoom (InNumber q t a) u = IsNew u.done u.key

pub record KeepsLimitsAt (p : Phase) (u : Unfinished) : Type 0 where
  pub good : KeepsLimits u
  pub room : HasRoom p u

pub kept_moved : (p q : Phase) (u w : Unfinished) → Go p u ≡ Go q w → KeepsLimitsAt p u → KeepsLimitsAt q w
kept_moved p q u w e f =
    let same_phase : p ≡ q = cc in
    let same_tree : u ≡ w = cc in
    subst (λ w. KeepsLimitsAt q w) same_tree (subst (λ q. KeepsLimitsAt q u) same_phase f)

true_not_false : (b : Bool) → b ≡ true → b ≡ false → ⊥
true_not_false true h e = cc
true_not_false false h e = cc

-- a value without contents
kept_value : (k : Kind) (t : List ℕ) (a : ℕ) (u : Unfinished) → holds_values k ≡ false → IsInRange k → KeepsLimits u → IsNew u.done u.key → KeepsLimits (with_value k t a u)
kept_value k t a u plain range g n = record {
  outer = g.outer;
  distinct = AreDistinct-snoc u.done Nil (record { kind = k; text = t; key = u.key; at = a }) Nil g.distinct n tt;
  range = AreInRange-snoc u.done (record { kind = k; text = t; key = u.key; at = a }) Nil g.range range tt;
  shallow = AreShallow-snoc u.done (record { kind = k; text = t; key = u.key; at = a }) Nil (length u.outer) g.shallow (λ e. absurd (true_not_false (holds_values k) e plain)) tt;
}

kept_open : (k : Kind) (a : ℕ) (u : Unfinished) → IsInRange k → KeepsLimits u → IsNew u.done u.key → length u.outer < 128 → KeepsLimits (with_open k a u)
kept_open k a u range g n s = record { outer = (g.distinct, n, g.range, range, g.shallow, s, g.outer); distinct = tt; range = tt; shallow = tt }

pub kept_keyless : (u : Unfinished) → KeepsLimits u → KeepsLimits (keyless u)
kept_keyless u g = record { outer = g.outer; distinct = g.distinct; range = g.range; shallow = g.shallow }

kept_end : (x : Level) (xs : List Level) (done : Forest) (key : Option (List ℕ)) → KeepsLimits (record { outer = x ∷ xs; done = done; key = key }) → KeepsLimits (with_end (record { outer = x ∷ xs; done = done; key = key }))
kept_end x xs done key g = record {
  outer = g.outer.6;
  distinct = AreDistinct-snoc x.before Nil x.label done g.outer.0 g.outer.1 g.distinct;
  range = AreInRange-snoc x.before x.label done g.outer.2 g.outer.3 g.range;
  shallow = AreShallow-snoc x.before x.label done (length xs) g.outer.4 (λ e. g.outer.5) g.shallow;
}

end_kept : (outer : List Level) (done : Forest) (key : Option (List ℕ)) (q : Phase) (w : Unfinished) → by_form outer (Go After (with_end (record { outer = outer; done = done; key = key }))) Stop ≡ Go q w → KeepsLimits (record { outer = outer; done = done; key = key }) → KeepsLimitsAt q w
end_kept [] done key q w e g = absurd (cc)
end_kept (x ∷ xs) done key q w e g = elim (chosen (is_map x.label.kind) (Go After (with_end (record { outer = x ∷ xs; done = done; key = key }))) Stop (Go q w) e) [
  | inl k ↦ kept_moved After q (with_end (record { outer = x ∷ xs; done = done; key = key })) w k.1 (record { good = kept_end x xs done key g; room = tt })
  | inr k ↦ absurd (let no : Stop ≡ Go q w = k.1 in cc)
]

end_list_kept : (outer : List Level) (done : Forest) (key : Option (List ℕ)) (q : Phase) (w : Unfinished) → by_form outer Stop (Go After (with_end (record { outer = outer; done = done; key = key }))) ≡ Go q w → KeepsLimits (record { outer = outer; done = done; key = key }) → KeepsLimitsAt q w
end_list_kept [] done key q w e g = absurd (cc)
end_list_kept (x ∷ xs) done key q w e g = elim (chosen (is_map x.label.kind) Stop (Go After (with_end (record { outer = x ∷ xs; done = done; key = key }))) (Go q w) e) [
  | inl k ↦ absurd (let no : Stop ≡ Go q w = k.1 in cc)
  | inr k ↦ kept_moved After q (with_end (record { outer = x ∷ xs; done = done; key = key })) w k.1 (record { good = kept_end x xs done key g; room = tt })
]

comma_kept : (outer : List Level) (done : Forest) (key : Option (List ℕ)) (q : Phase) (w : Unfinished) → by_form outer (Go AtKey (record { outer = outer; done = done; key = key })) (Go AtValue (record { outer = outer; done = done; key = None })) ≡ Go q w → KeepsLimits (record { outer = outer; done = done; key = key }) → KeepsLimitsAt q w
comma_kept [] done key q w e g = absurd (cc)
comma_kept (x ∷ xs) done key q w e g = elim (chosen (is_map x.label.kind) (Go AtKey (record { outer = x ∷ xs; done = done; key = key })) (Go AtValue (record { outer = x ∷ xs; done = done; key = None })) (Go q w) e) [
  | inl k ↦ kept_moved AtKey q (record { outer = x ∷ xs; done = done; key = key }) w k.1 (record { good = g; room = tt })
  | inr k ↦ kept_moved AtValue q (record { outer = x ∷ xs; done = done; key = None }) w k.1 (record { good = kept_keyless (record { outer = x ∷ xs; done = done; key = key }) g; room = tt })
]

after_kept : (c : Class) (u : Unfinished) (q : Phase) (w : Unfinished) → after_next u c ≡ Go q w → KeepsLimits u → KeepsLimitsAt q w
after_kept Space u q w e g = kept_moved After q u w e (record { good = g; room = tt })
after_kept Comma u q w e g = comma_kept u.outer u.done u.key q w e g
after_kept Close u q w e g = end_kept u.outer u.done u.key q w e g
after_kept CloseList u q w e g = end_list_kept u.outer u.done u.key q w e g
after_kept _ u q w e g = absurd (cc)

value_kept : (c : Class) (at b : ℕ) (u : Unfinished) (q : Phase) (w : Unfinished) → value_next at u b c ≡ Go q w → KeepsLimits u → IsNew u.done u.key → KeepsLimitsAt q w
value_kept Space at b u q w e g n = kept_moved AtValue q u w e (record { good = g; room = n })
value_kept Quote at b u q w e g n = kept_moved (InString false [] [] at) q u w e (record { good = g; room = n })
value_kept Open at b u q w e g n = elim (chosen (nat_lt (length u.outer) 128) (Go AtKeyOrEnd (with_open kind.Map at u)) Stop (Go q w) e) [
  | inl k ↦ kept_moved AtKeyOrEnd q (with_open kind.Map at u) w k.1 (record { good = kept_open kind.Map at u tt g n (ltb-true (length u.outer) 128 k.0); room = tt })
  | inr k ↦ absurd (let no : Stop ≡ Go q w = k.1 in cc)
]
value_kept OpenList at b u q w e g n = elim (chosen (nat_lt (length u.outer) 128) (Go AtItemOrEnd (with_open kind.List at u)) Stop (Go q w) e) [
  | inl k ↦ kept_moved AtItemOrEnd q (with_open kind.List at u) w k.1 (record { good = kept_open kind.List at u tt g n (ltb-true (length u.outer) 128 k.0); room = tt })
  | inr k ↦ absurd (let no : Stop ≡ Go q w = k.1 in cc)
]
value_kept LetterN at b u q w e g n = kept_moved (InWord (117 ∷ 108 ∷ 108 ∷ []) kind.Null at) q u w e (record { good = g; room = (n, refl, tt) })
value_kept LetterT at b u q w e g n = kept_moved (InWord (114 ∷ 117 ∷ 101 ∷ []) (kind.Truth true) at) q u w e (record { good = g; room = (n, refl, tt) })
value_kept LetterF at b u q w e g n = kept_moved (InWord (97 ∷ 108 ∷ 115 ∷ 101 ∷ []) (kind.Truth false) at) q u w e (record { good = g; room = (n, refl, tt) })
value_kept Minus at b u q w e g n = kept_moved (InNumber (first_part b) (b ∷ []) at) q u w e (record { good = g; room = n })
value_kept Zero at b u q w e g n = kept_moved (InNumber (first_part b) (b ∷ []) at) q u w e (record { good = g; room = n })
value_kept Digit at b u q w e g n = kept_moved (InNumber (first_part b) (b ∷ []) at) q u w e (record { good = g; room = n })
value_kept _ at b u q w e g n = absurd (cc)

item_or_end_kept : (c : Class) (at b : ℕ) (u : Unfinished) (q : Phase) (w : Unfinished) → item_or_end_next at u b c ≡ Go q w → KeepsLimits u → KeepsLimitsAt q w
item_or_end_kept Space at b u q w e g = kept_moved AtItemOrEnd q u w e (record { good = g; room = tt })
item_or_end_kept CloseList at b u q w e g = end_list_kept u.outer u.done u.key q w e g
item_or_end_kept c at b u q w e g = value_kept c at b (keyless u) q w e (kept_keyless u g) tt

word_on_kept : (rest : List ℕ) (k : Kind) (a : ℕ) (u : Unfinished) (q : Phase) (w : Unfinished) → word_on rest k a u ≡ Go q w → KeepsLimits u → IsNew u.done u.key → holds_values k ≡ false → IsInRange k → KeepsLimitsAt q w
word_on_kept [] k a u q w e g n p r = kept_moved After q (with_value k [] a u) w e (record { good = kept_value k [] a u p r g n; room = tt })
word_on_kept (c ∷ rest) k a u q w e g n p r = kept_moved (InWord (c ∷ rest) k a) q u w e (record { good = g; room = (n, p, r) })

word_kept : (rest : List ℕ) (k : Kind) (a b : ℕ) (u : Unfinished) (q : Phase) (w : Unfinished) → word_next rest k a u b ≡ Go q w → KeepsLimits u → IsNew u.done u.key → holds_values k ≡ false → IsInRange k → KeepsLimitsAt q w
word_kept [] k a b u q w e g n p r = absurd (cc)
word_kept (c ∷ rest) k a b u q w e g n p r = elim (chosen (nat_eq b c) (word_on rest k a u) Stop (Go q w) e) [
  | inl h ↦ word_on_kept rest k a u q w h.1 g n p r
  | inr h ↦ absurd (let no : Stop ≡ Go q w = h.1 in cc)
]

key_kept : (c : Class) (at : ℕ) (u : Unfinished) (q : Phase) (w : Unfinished) → key_next at u c ≡ Go q w → KeepsLimits u → KeepsLimitsAt q w
key_kept Space at u q w e g = kept_moved AtKey q u w e (record { good = g; room = tt })
key_kept Quote at u q w e g = kept_moved (InString true [] [] at) q u w e (record { good = g; room = tt })
key_kept _ at u q w e g = absurd (cc)

key_or_end_kept : (c : Class) (at : ℕ) (u : Unfinished) (q : Phase) (w : Unfinished) → key_or_end_next at u c ≡ Go q w → KeepsLimits u → KeepsLimitsAt q w
key_or_end_kept Space at u q w e g = kept_moved AtKeyOrEnd q u w e (record { good = g; room = tt })
key_or_end_kept Quote at u q w e g = kept_moved (InString true [] [] at) q u w e (record { good = g; room = tt })
key_or_end_kept Close at u q w e g = end_kept u.outer u.done u.key q w e g
key_or_end_kept _ at u q w e g = absurd (cc)

colon_kept : (c : Class) (u : Unfinished) (q : Phase) (w : Unfinished) → colon_next u c ≡ Go q w → KeepsLimits u → IsNew u.done u.key → KeepsLimitsAt q w
colon_kept Space u q w e g n = kept_moved AtColon q u w e (record { good = g; room = n })
colon_kept Colon u q w e g n = kept_moved AtValue q u w e (record { good = g; room = n })
colon_kept _ u q w e g n = absurd (cc)

pub stands_plain : (p : Parts) (k : Kind) → StandsFor p k → holds_values k ≡ false
stands_plain p (kind.Whole z) m = refl
stands_plain p (kind.Fraction d) m = refl
stands_plain p _ m = elim m [ ]

number_plain : (t : List ℕ) (k : Kind) → number_kind t ≡ Some k → (holds_values k ≡ false) × IsInRange k
number_plain t k e = let n = number_sound t k e in (stands_plain n.0 k n.2, n.3)

number_done_kept : (t : List ℕ) (a : ℕ) (u : Unfinished) (c : Class) (q : Phase) (w : Unfinished) → number_done (number_kind t) a u (λ x. after_next x c) ≡ Go q w → KeepsLimits u → IsNew u.done u.key → KeepsLimitsAt q w
number_done_kept t a u c q w e g n =
    let s = number_goes (number_kind t) a u (λ x. after_next x c) q w e in
    let p = number_plain t s.0 s.1 in
    after_kept c (with_value s.0 [] a u) q w s.2 (kept_value s.0 [] a u p.0 p.1 g n)

number_kept : (o : Option NumberPart) (t : List ℕ) (at b a : ℕ) (u : Unfinished) (q : Phase) (w : Unfinished) → number_next o t a u b ≡ Go q w → KeepsLimits u → IsNew u.done u.key → KeepsLimitsAt q w
number_kept (Some x) t at b a u q w e g n = kept_moved (InNumber x (t ++ (b ∷ [])) a) q u w e (record { good = g; room = n })
number_kept None t at b a u q w e g n = number_done_kept t a u (class_of b) q w e g n

string_room : (key : Bool) (t s part : List ℕ) (a : ℕ) (u : Unfinished) → HasRoom (InString key t part a) u → HasRoom (InString key (t ++ s) [] a) u
string_room true t s part a u n = n
string_room false t s part a u n = n

part_room : (key : Bool) (t s part : List ℕ) (a : ℕ) (u : Unfinished) → HasRoom (InString key t part a) u → HasRoom (InString key t s a) u
part_room true t s part a u n = n
part_room false t s part a u n = n

string_end_kept : (key : Bool) (t part : List ℕ) (a : ℕ) (u : Unfinished) (q : Phase) (w : Unfinished) → string_end key t a u ≡ Go q w → KeepsLimits u → HasRoom (InString key t part a) u → KeepsLimitsAt q w
string_end_kept true t part a u q w e g r = elim (chosen (has_key u.done t) Stop (Go AtColon (with_key t u)) (Go q w) e) [
  | inl n ↦ absurd (let no : Stop ≡ Go q w = n.1 in cc)
  | inr n ↦ kept_moved AtColon q (with_key t u) w n.1 (record { good = record { outer = g.outer; distinct = g.distinct; range = g.range; shallow = g.shallow }; room = n.0 })
]
string_end_kept false t part a u q w e g n = kept_moved After q (with_value kind.Text t a u) w e (record { good = kept_value kind.Text t a u refl tt g n; room = tt })

string_kept : (h : Heard) (key : Bool) (t part : List ℕ) (a : ℕ) (u : Unfinished) (q : Phase) (w : Unfinished) → string_next h key t a u ≡ Go q w → KeepsLimits u → HasRoom (InString key t part a) u → KeepsLimitsAt q w
string_kept Bad key t part a u q w e g n = absurd (cc)
string_kept Closed key t part a u q w e g n = string_end_kept key t part a u q w e g n
string_kept (Part s) key t part a u q w e g n = kept_moved (InString key t s a) q u w e (record { good = g; room = part_room key t s part a u n })
string_kept (Whole m) key t part a u q w e g n = kept_moved (InString key (t ++ m) [] a) q u w e (record { good = g; room = string_room key t m part a u n })

pub kept_next : (p q : Phase) (b at : ℕ) (u w : Unfinished) → next at p u b ≡ Go q w → KeepsLimitsAt p u → KeepsLimitsAt q w
kept_next AtValue q b at u w e f = value_kept (class_of b) at b u q w e f.good f.room
kept_next AtKeyOrEnd q b at u w e f = key_or_end_kept (class_of b) at u q w e f.good
kept_next AtItemOrEnd q b at u w e f = item_or_end_kept (class_of b) at b u q w e f.good
kept_next AtKey q b at u w e f = key_kept (class_of b) at u q w e f.good
kept_next AtColon q b at u w e f = colon_kept (class_of b) u q w e f.good f.room
kept_next After q b at u w e f = after_kept (class_of b) u q w e f.good
kept_next (InString key t part a) q b at u w e f = string_kept (heard part b) key t part a u q w e f.good f.room
kept_next (InWord rest k a) q b at u w e f = word_kept rest k a b u q w e f.good f.room.0 f.room.1 f.room.2
kept_next (InNumber p t a) q b at u w e f = number_kept (part_next p b) t at b a u q w e f.good f.room

record WithinLimits (v : Forest) : Type 0 where
  distinct : AreDistinct v Nil
  range : AreInRange v
  shallow : AreShallow v 0

tree_kept : (outer : List Level) (done v : Forest) → whole_tree outer done ≡ Some v → AreDistinct done Nil → AreInRange done → AreShallow done (length outer) → WithinLimits v
tree_kept [] done v e d r s = let same : done ≡ v = cc in record { distinct = subst (λ (g : Forest). AreDistinct g Nil) same d; range = subst AreInRange same r; shallow = subst (λ (g : Forest). AreShallow g 0) same s }
tree_kept (x ∷ xs) done v e d r s = absurd (cc)

number_end_kept : (o : Option Kind) (plain : (k : Kind) → o ≡ Some k → (holds_values k ≡ false) × IsInRange k) (a : ℕ) (u : Unfinished) (v : Forest) → number_end o a u ≡ Some v → KeepsLimits u → IsNew u.done u.key → WithinLimits v
number_end_kept None plain a u v e g n = absurd (cc)
number_end_kept (Some k) plain a u v e g n = let p = plain k refl in let h = kept_value k [] a u p.0 p.1 g n in tree_kept u.outer (with_value k [] a u).done v e h.distinct h.range h.shallow

final_kept : (p : Phase) (u : Unfinished) (v : Forest) → final p u ≡ Some v → KeepsLimitsAt p u → WithinLimits v
final_kept AtValue u v e f = absurd (cc)
final_kept AtKeyOrEnd u v e f = absurd (cc)
final_kept AtItemOrEnd u v e f = absurd (cc)
final_kept AtKey u v e f = absurd (cc)
final_kept AtColon u v e f = absurd (cc)
final_kept After u v e f = tree_kept u.outer u.done v e f.good.distinct f.good.range f.good.shallow
final_kept (InString key t part a) u v e f = absurd (cc)
final_kept (InWord rest k a) u v e f = absurd (cc)
final_kept (InNumber q t a) u v e f = number_end_kept (number_kind t) (number_plain t) a u v e f.good f.room

read_kept : (bytes : List ℕ) (at : ℕ) (p : Phase) (u : Unfinished) (v : Forest) → read bytes at p u ≡ Some v → KeepsLimitsAt p u → WithinLimits v
read_kept [] at p u v e f = final_kept p u v e f
read_kept (b ∷ bytes) at p u v e f = let g = goes (next at p u b) (read bytes (suc at)) v e in read_kept bytes (suc at) g.0 g.1 v g.3 (kept_next p g.0 b at u g.1 g.2 f)

-- what is read is in the grammar
pub sound : (bytes : List ℕ) (tree : Forest) → tree_read bytes ≡ Some tree → Json bytes tree
sound bytes tree e =
    let n = mark_len bytes in
    let r = read_kept (drop n bytes) n AtValue start tree e (record { good = record { outer = tt; distinct = tt; range = tt; shallow = tt }; room = tt }) in
    record { shape = shape_read bytes tree e; distinct = r.distinct; in_range = r.range; shallow = r.shallow }

-- a text has one tree
pub unique : (bytes : List ℕ) (a b : Forest) → Json bytes a → Json bytes b → a ≡ b
unique bytes a b ja jb = let x = complete bytes a ja in let y = complete bytes b jb in cc
