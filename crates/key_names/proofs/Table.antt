-- The table of names behind a name more.
use Rattle.std.proofs.Common.{◌≡◌, ℕ, ◌+◌, ◌<◌, ◌≤◌, List, [], ◌∷◌, ◌++◌, map, length, get_or, refl, sym, ap, inl, inr, ◌∙◌, subst, arith, length-append, Option, None, Some}
use Rattle.std.specs.Prelude.{slice_index, slice_set, IfOk, OnErr, Result, Ok, Err}
use Rattle.std.specs.Cow.{cow_str_bytes}
use Rattle.std.specs.declared.borrow.CowStr.{CowStr}
use Rattle.std.specs.declared.alloc.Global.{Global}
use Rattle.std.proofs.lemmas.Bool.{cases_lt, cases_eq}
use Rattle.std.proofs.lemmas.List.{get_or_at, get_or_append_left, map_push, length-set, get_or-set_same, get_or-set_other}
use Rattle.key_names.specs.declared.names.Names.{Names}
use Rattle.key_names.specs.declared.name_slots.NameSlots.{NameSlots}
use Rattle.key_names.specs.code.TextNumbers.{links_in, number_by}
use Rattle.key_names.specs.code.NameSlots.{AreNumbered}
use Rattle.key_names.specs.code.Names.{name_of, texts_of, IsTable, IsBefore, IsSame, Adds, Has}
use Rattle.key_names.proofs.NameSlots.{found_known}

none_some : (o : Option ℕ) (n : ℕ) → o ≡ None → o ≡ Some n → ⊥
none_some o n e f = cc

-- the texts of a table have their numbers
pub numbered : (ns : Names) → IsTable ns → AreNumbered (texts_of ns) ns.numbers
numbered ns t = record { slotted = t.slotted; found = t.listed }

pub numbered_same : (ts us : List (List ℕ)) (s : NameSlots) → us ≡ ts → AreNumbered ts s → AreNumbered us s
numbered_same ts us s e h = subst (λ (x : List (List ℕ)). AreNumbered x s) (sym e) h

known : (ns : Names) → AreNumbered (texts_of ns) ns.numbers → (k : List ℕ) (n : ℕ) → name_of ns k ≡ Some n → (n < length (texts_of ns)) × (get_or (texts_of ns) n [] ≡ k)
known ns h k n e = found_known (texts_of ns) ns.numbers.slots.items (links_in ns.numbers.others.links) k n h.slotted e

-- no names
pub IsTable-none : (ns : Names) → ns.numbers.slots.items ≡ [] → ((k : List ℕ) → number_by (links_in ns.numbers.others.links) k ≡ None) → ns.texts.items ≡ [] → ns.followers.items ≡ [] → ns.before ≡ None → IsTable ns
IsTable-none ns free unknown texts fs before =
    let none : length (texts_of ns) ≡ 0 = ap (λ (ts : List (CowStr Global)). length (map cow_str_bytes ts)) texts in
    let none_follow : length ns.followers.items ≡ 0 = ap (λ (xs : List ℕ). length xs) fs in
    let h : AreNumbered (texts_of ns) ns.numbers = record {
      slotted = record {
        slots = λ i. let zero_there : slice_index ns.numbers.slots.items i ≡ 0 = ap (λ (xs : List ℕ). slice_index xs i) free in omega arith;
        links = λ k n e. absurd (none_some (number_by (links_in ns.numbers.others.links) k) n (unknown k) e);
      };
      found = λ n l. absurd (omega arith);
    } in
    record {
      known = known ns h;
      listed = h.found;
      slotted = h.slotted;
      followed = none_follow ∙ sym none;
      follows = λ n l. absurd (omega arith);
      before = subst (λ (o : Option ℕ). IsBefore o (length (texts_of ns))) (sym before) tt;
    }

-- a name more
pub record IsNew (old new : Names) (k : List ℕ) : Type 0 where
  pub numbered : AreNumbered (texts_of old ++ k ∷ []) new.numbers
  pub texts : texts_of new ≡ texts_of old ++ k ∷ []
  pub followers : new.followers.items ≡ old.followers.items ++ 0 ∷ []
  pub before : new.before ≡ old.before

longer : (old new : Names) (k : List ℕ) → IsNew old new k → length (texts_of new) ≡ length (texts_of old) + 1
longer old new k h = ap length h.texts ∙ length-append (texts_of old) (k ∷ [])

before_less : (o : Option ℕ) (m n : ℕ) → m ≤ n → IsBefore o m → IsBefore o n
before_less None m n l h = tt
before_less (Some b) m n l h = omega arith

pub IsTable-new : (old new : Names) (k : List ℕ) → IsTable old → IsNew old new k → IsTable new
IsTable-new old new k t h =
    let long = longer old new k h in
    let follows = ap length h.followers ∙ length-append old.followers.items (0 ∷ []) in
    let followed = t.followed in
    let all : AreNumbered (texts_of new) new.numbers = numbered_same (texts_of old ++ k ∷ []) (texts_of new) new.numbers h.texts h.numbered in
    record {
      known = known new all;
      listed = all.found;
      slotted = all.slotted;
      followed = omega arith;
      follows = λ m l. elim (cases_lt m (length old.followers.items)) [
        | inl before ↦ let q = t.follows m before in let same = ap (λ (fs : List ℕ). slice_index fs m) h.followers ∙ get_or_append_left old.followers.items (0 ∷ []) 0 m before in omega arith
        | inr behind ↦ let same = ap (λ (fs : List ℕ). slice_index fs m) h.followers ∙ get_or_at old.followers.items 0 [] 0 m (omega arith) in omega arith
      ];
      before = subst_before old.before new.before (length (texts_of new)) (sym h.before) (before_less old.before (length (texts_of old)) (length (texts_of new)) (omega arith) t.before);
    }
  where
    subst_before : (a b : Option ℕ) (m : ℕ) → a ≡ b → IsBefore a m → IsBefore b m
    subst_before a b m e h = rw (← e) h

-- where the same texts have their numbers, nothing is said otherwise
pub IsSame-texts : (old new : Names) → AreNumbered (texts_of old) new.numbers → texts_of new ≡ texts_of old → new.followers.items ≡ old.followers.items → new.before ≡ old.before → IsTable old → IsSame old new
IsSame-texts old new h texts fs before t = let all : AreNumbered (texts_of new) new.numbers = numbered_same (texts_of old) (texts_of new) new.numbers texts h in record {
  table = record {
    known = known new all;
    listed = all.found;
    slotted = all.slotted;
    followed = ap length fs ∙ t.followed ∙ sym (ap length texts);
    follows = λ n l. subst (λ (ts : List (List ℕ)). slice_index new.followers.items n < length ts) (sym texts) (subst (λ (xs : List ℕ). slice_index xs n < length (texts_of old)) (sym fs) (t.follows n (subst (λ (xs : List ℕ). n < length xs) fs l)));
    before = subst (λ (ts : List (List ℕ)). IsBefore new.before (length ts)) (sym texts) (subst (λ (o : Option ℕ). IsBefore o (length (texts_of old))) (sym before) t.before);
  };
  texts = texts;
}

pub IsSame-of : (old new : Names) → AreNumbered (texts_of old) new.numbers → new.texts.items ≡ old.texts.items → new.followers.items ≡ old.followers.items → new.before ≡ old.before → IsTable old → IsSame old new
IsSame-of old new h items fs before t = IsSame-texts old new h (ap (map cow_str_bytes) items) fs before t

-- a guess more
pub IsTable-follow : (old new : Names) (b n : ℕ) → IsTable old → n < length (texts_of old) → new.texts.items ≡ old.texts.items → AreNumbered (texts_of old) new.numbers → new.followers.items ≡ slice_set old.followers.items b n → new.before ≡ Some n → IsTable new
IsTable-follow old new b n t within items h fs before =
    let mid : Names = record { texts = new.texts; numbers = new.numbers; followers = old.followers; before = old.before; alloc = old.alloc } in
    let m : IsTable mid = (IsSame-of old mid h items refl refl t).table in
    let count : length (texts_of new) ≡ length (texts_of old) = ap (λ (ts : List (List ℕ)). length ts) (ap (map cow_str_bytes) items) in
    let long : length new.followers.items ≡ length old.followers.items = ap (λ (xs : List ℕ). length xs) fs ∙ length-set old.followers.items b n in
    record {
      known = m.known;
      listed = m.listed;
      slotted = m.slotted;
      followed = long ∙ m.followed;
      follows = λ i l. elim (cases_eq i b) [
        | inl here ↦
            let place : b < length old.followers.items = omega arith in
            let same = ap (λ (xs : List ℕ). slice_index xs i) fs ∙ ap (slice_index (slice_set old.followers.items b n)) here ∙ get_or-set_same old.followers.items b n 0 place in
            omega arith
        | inr other ↦
            let q = t.follows i (omega arith) in
            let same = ap (λ (xs : List ℕ). slice_index xs i) fs ∙ get_or-set_other old.followers.items b i n 0 other in
            omega arith
      ];
      before = subst (λ (o : Option ℕ). IsBefore o (length (texts_of new))) (sym before) (omega arith);
    }

pub on_err : {A E : Type 0} {P : Type 0} (r : Result A E) → P → OnErr r P
on_err (Ok a) p = tt
on_err (Err e) p = p

-- a name that was added is there
pub has_added : {E : Type 0} (old new : Names) (k j : List ℕ) (r : Result ℕ E) → k ≡ j → IfOk r (λ n. (n ≡ length (texts_of old)) × Adds old new k) → IfOk r (λ n. Has old new j n)
has_added old new k j (Ok n) e (is, adds) =
    let long : length (texts_of new) ≡ length (texts_of old) + 1 = ap (λ (ts : List (List ℕ)). length ts) adds.texts ∙ length-append (texts_of old) (k ∷ []) in
    record {
      table = adds.table;
      more = k ∷ [];
      grown = adds.texts;
      within = omega arith;
      text = ap (λ (ts : List (List ℕ)). get_or ts n []) adds.texts ∙ get_or_at (texts_of old) k [] [] n (sym is) ∙ e;
    }
has_added old new k j (Err x) e h = tt

-- a name that is there stays there where the texts stay
pub has_still : (old new after : Names) (k : List ℕ) (n : ℕ) → Has old new k n → IsTable after → texts_of after ≡ texts_of new → Has old after k n
has_still old new after k n h t same = record {
  table = t;
  more = h.more;
  grown = same ∙ h.grown;
  within = subst (λ (ts : List (List ℕ)). n < length ts) (sym same) h.within;
  text = ap (λ (ts : List (List ℕ)). get_or ts n []) same ∙ h.text;
}

-- one text more with the same bytes
pub owned_more : (owned seen more : List (CowStr Global)) (x y : CowStr Global) → map cow_str_bytes owned ≡ map cow_str_bytes seen → more ≡ owned ++ y ∷ [] → cow_str_bytes y ≡ cow_str_bytes x → map cow_str_bytes more ≡ map cow_str_bytes (seen ++ x ∷ [])
owned_more owned seen more x y is push same =
    ap (map cow_str_bytes) push
    ∙ map_push cow_str_bytes owned y
    ∙ ap (λ (ts : List (List ℕ)). ts ++ cow_str_bytes y ∷ []) is
    ∙ ap (λ (t : List ℕ). map cow_str_bytes seen ++ t ∷ []) same
    ∙ sym (map_push cow_str_bytes seen x)
