-- Names in slots: what a look-up tells and what a number more leaves, by induction over the slots that a look-up passes.
use Rattle.std.proofs.Common.{◌≡◌, ℕ, zero, suc, ◌+◌, ◌*◌, ◌-◌, ◌<◌, ◌≤◌, Bool, true, false, List, [], ◌∷◌, ◌++◌, map, length, get_or, cond, refl, sym, ap, inl, inr, ◌∙◌, ◌⊎◌, subst, arith, length-append, Option, None, Some}
use Rattle.std.specs.Prelude.{slice_index, slice_set, Result, Ok, Err, OnOk, OnErr}
use Rattle.std.specs.Cow.{cow_str_bytes}
use Rattle.std.specs.declared.borrow.CowStr.{CowStr}
use Rattle.std.specs.declared.alloc.Global.{Global}
use Rattle.std.specs.Str.{bytes_eq}
use Rattle.std.proofs.lemmas.Bool.{cases_lt, cases_eq}
use Rattle.std.proofs.lemmas.List.{get_or_at, get_or-map, get_or_append_left, length-map, length-set, get_or-set_same, get_or-set_other}
use Rattle.std.proofs.lemmas.Slice.Eq.{bytes_eq-Decides}
use Rattle.key_names.specs.declared.name_slots.NameSlots.{NameSlots}
use Rattle.key_names.specs.code.TextNumbers.{Links, links_in, number_by, IsKept}
use Rattle.key_names.specs.code.NameSlots.{first_of, in_slot, in_slots, found_in, AreOf, AreSlotted, AreFound, AreNumbered, AreDistinct, AreTaken, Places, Widened}

none_some : {A : Type 0} (x : A) → None ≡ Some x → ⊥
none_some x e = cc

some_same : (m n : ℕ) → Some m ≡ Some n → m ≡ n
some_same m n e = cc

bytes_same : (k : List ℕ) → bytes_eq k k ≡ true
bytes_same k = (bytes_eq-Decides k k).1 refl

-- ---- what a slot says

-- a slot more
pub slots_more : (ts : List (List ℕ)) (k : List ℕ) (more : Option ℕ) (slots : List ℕ) (at left : ℕ) → in_slots ts k more slots at (suc left) ≡ in_slot ts k (in_slots ts k more slots (suc at) left) (slice_index slots at)
unfolding in_slots
slots_more ts k more slots at left = refl

pub slots_end : (ts : List (List ℕ)) (k : List ℕ) (more : Option ℕ) (slots : List ℕ) (at : ℕ) → in_slots ts k more slots at zero ≡ more
unfolding in_slots
slots_end ts k more slots at = refl

-- the slot of another text says nothing
pub in_slot-other : (ts : List (List ℕ)) (k : List ℕ) (more : Option ℕ) (s n : ℕ) → s ≡ suc n → bytes_eq (get_or ts n []) k ≡ false → in_slot ts k more s ≡ more
in_slot-other ts k more s n e b = ap (in_slot ts k more) e ∙ ap (λ c. cond c (Some n) more) b

-- the slot of the text says its number
pub in_slot-same : (ts : List (List ℕ)) (k : List ℕ) (more : Option ℕ) (s n : ℕ) → s ≡ suc n → bytes_eq (get_or ts n []) k ≡ true → in_slot ts k more s ≡ Some n
in_slot-same ts k more s n e b = ap (in_slot ts k more) e ∙ ap (λ c. cond c (Some n) more) b

-- ---- a number that is found is one of the text

-- a number is one of a text
abbrev pub IsOf : List (List ℕ) → List ℕ → ℕ → Type 0
IsOf ts k n = (n < length ts) × (get_or ts n [] ≡ k)

known_slot : (ts : List (List ℕ)) (k : List ℕ) (more : Option ℕ) (s n : ℕ) → s ≤ length ts → in_slot ts k more s ≡ Some n → (more ≡ Some n → IsOf ts k n) → IsOf ts k n
known_slot ts k more zero n l e f = absurd (none_some n e)
known_slot ts k more (suc m) n l e f = by_test (bytes_eq (get_or ts m []) k) refl e
  where
    by_test : (b : Bool) → bytes_eq (get_or ts m []) k ≡ b → cond b (Some m) more ≡ Some n → IsOf ts k n
    by_test true p q = let same = some_same m n q in (omega arith, ap (λ x. get_or ts x []) (sym same) ∙ (bytes_eq-Decides (get_or ts m []) k).0 p)
    by_test false p q = f q

known_in : (ts : List (List ℕ)) (k : List ℕ) (more : Option ℕ) (slots : List ℕ) (at left n : ℕ) → ((i : ℕ) → slice_index slots i ≤ length ts) → (more ≡ Some n → IsOf ts k n) → in_slots ts k more slots at left ≡ Some n → IsOf ts k n
known_in ts k more slots at zero n l f e = f (sym (slots_end ts k more slots at) ∙ e)
known_in ts k more slots at (suc left) n l f e = known_slot ts k (in_slots ts k more slots (suc at) left) (slice_index slots at) n (l at) (sym (slots_more ts k more slots at left) ∙ e) (known_in ts k more slots (suc at) left n l f)

pub found_known : (ts : List (List ℕ)) (slots : List ℕ) (f : Links) (k : List ℕ) (n : ℕ) → AreSlotted ts slots f → found_in ts slots f k ≡ Some n → IsOf ts k n
unfolding found_in
found_known ts slots f k n s e = known_in ts k (number_by f k) slots (first_of k (length slots)) 16 n s.slots (s.links k n) e

-- ---- what was found is found where more slots are taken

-- slots that were taken hold what they held
abbrev pub AreKept : (old new : List ℕ) → Type 0
AreKept old new = (i m : ℕ) → slice_index old i ≡ suc m → slice_index new i ≡ suc m

kept_in : (ts : List (List ℕ)) (k : List ℕ) (more then : Option ℕ) (old new : List ℕ) (at left n : ℕ) → AreKept old new → (more ≡ Some n → then ≡ Some n) → in_slots ts k more old at left ≡ Some n → in_slots ts k then new at left ≡ Some n
kept_in ts k more then old new at zero n h f e = slots_end ts k then new at ∙ f (sym (slots_end ts k more old at) ∙ e)
kept_in ts k more then old new at (suc left) n h f e = slots_more ts k then new at left ∙ by_slot (kept_in ts k more then old new (suc at) left n h f) (slice_index old at) refl (sym (slots_more ts k more old at left) ∙ e)
  where
    rest : Option ℕ
    rest = in_slots ts k more old (suc at) left

    after : Option ℕ
    after = in_slots ts k then new (suc at) left

    by_test : (m : ℕ) → slice_index new at ≡ suc m → (rest ≡ Some n → after ≡ Some n) → (b : Bool) → bytes_eq (get_or ts m []) k ≡ b → cond b (Some m) rest ≡ Some n → in_slot ts k after (slice_index new at) ≡ Some n
    by_test m s on true p q = in_slot-same ts k after (slice_index new at) m s p ∙ q
    by_test m s on false p q = in_slot-other ts k after (slice_index new at) m s p ∙ on q

    by_slot : (rest ≡ Some n → after ≡ Some n) → (s : ℕ) → slice_index old at ≡ s → in_slot ts k rest s ≡ Some n → in_slot ts k after (slice_index new at) ≡ Some n
    by_slot on zero s q = absurd (none_some n q)
    by_slot on (suc m) s q = by_test m (h at m s) on (bytes_eq (get_or ts m []) k) refl q

pub found_kept : (ts : List (List ℕ)) (old new : List ℕ) (f g : Links) (k : List ℕ) (n : ℕ) → length new ≡ length old → AreKept old new → (number_by f k ≡ Some n → number_by g k ≡ Some n) → found_in ts old f k ≡ Some n → found_in ts new g k ≡ Some n
unfolding found_in
found_kept ts old new f g k n long h l e = subst (λ (count : ℕ). in_slots ts k (number_by g k) new (first_of k count) 16 ≡ Some n) (sym long) (kept_in ts k (number_by f k) (number_by g k) old new (first_of k (length old)) 16 n h l e)

-- ---- texts more, whose numbers are in no slot, change nothing

wider_slot : (ts us : List (List ℕ)) (k : List ℕ) (more then : Option ℕ) (s : ℕ) → s ≤ length ts → more ≡ then → in_slot (ts ++ us) k more s ≡ in_slot ts k then s
wider_slot ts us k more then zero l e = refl
wider_slot ts us k more then (suc m) l e = ap (λ (t : List ℕ). cond (bytes_eq t k) (Some m) more) (get_or_append_left ts us [] m (omega arith)) ∙ ap (λ o. cond (bytes_eq (get_or ts m []) k) (Some m) o) e

wider_in : (ts us : List (List ℕ)) (k : List ℕ) (more : Option ℕ) (slots : List ℕ) (at left : ℕ) → ((i : ℕ) → slice_index slots i ≤ length ts) → in_slots (ts ++ us) k more slots at left ≡ in_slots ts k more slots at left
wider_in ts us k more slots at zero l = slots_end (ts ++ us) k more slots at ∙ sym (slots_end ts k more slots at)
wider_in ts us k more slots at (suc left) l = slots_more (ts ++ us) k more slots at left ∙ wider_slot ts us k (in_slots (ts ++ us) k more slots (suc at) left) (in_slots ts k more slots (suc at) left) (slice_index slots at) (l at) (wider_in ts us k more slots (suc at) left l) ∙ sym (slots_more ts k more slots at left)

found_wider : (ts us : List (List ℕ)) (slots : List ℕ) (f : Links) (k : List ℕ) → AreSlotted ts slots f → found_in (ts ++ us) slots f k ≡ found_in ts slots f k
unfolding found_in
found_wider ts us slots f k s = wider_in ts us k (number_by f k) slots (first_of k (length slots)) 16 s.slots

-- ---- a text with a number in one of its slots, or in the ordered map behind slots that are taken, is found

-- a taken slot that says nothing is one of another text
in_taken : (ts : List (List ℕ)) (k : List ℕ) (rest : Option ℕ) (s : ℕ) → 0 < s → in_slot ts k rest s ≡ None → (rest ≡ None → ⊥) → ⊥
in_taken ts k rest zero p q on = absurd (omega arith)
in_taken ts k rest (suc m) p q on = by_test (bytes_eq (get_or ts m []) k) q
  where
    by_test : (b : Bool) → cond b (Some m) rest ≡ None → ⊥
    by_test true q = none_some m (sym q)
    by_test false q = on q

there_slot : (ts : List (List ℕ)) (k : List ℕ) (n : ℕ) (more : Option ℕ) (slots : List ℕ) (at left i : ℕ) → get_or ts n [] ≡ k → at ≤ i → i < at + left → slice_index slots i ≡ suc n → AreTaken slots at i → in_slots ts k more slots at left ≡ None → ⊥
there_slot ts k n more slots at zero i t h l s taken e = absurd (omega arith)
there_slot ts k n more slots at (suc left) i t h l s taken e = elim (cases_eq at i) [
  | inl here ↦ none_some n (sym e ∙ slots_more ts k more slots at left ∙ in_slot-same ts k rest (slice_index slots at) n (ap (slice_index slots) here ∙ s) (ap (λ (x : List ℕ). bytes_eq x k) t ∙ bytes_same k))
  | inr other ↦ in_taken ts k rest (slice_index slots at) (taken at (omega arith) (omega arith)) (sym (slots_more ts k more slots at left) ∙ e) (there_slot ts k n more slots (suc at) left i t (omega arith) (omega arith) s (λ j a b. taken j (omega arith) b))
]
  where
    rest : Option ℕ
    rest = in_slots ts k more slots (suc at) left

there_other : (ts : List (List ℕ)) (k : List ℕ) (n : ℕ) (more : Option ℕ) (slots : List ℕ) (at left : ℕ) → more ≡ Some n → AreTaken slots at (at + left) → in_slots ts k more slots at left ≡ None → ⊥
there_other ts k n more slots at zero m taken e = none_some n (sym e ∙ slots_end ts k more slots at ∙ m)
there_other ts k n more slots at (suc left) m taken e = in_taken ts k (in_slots ts k more slots (suc at) left) (slice_index slots at) (taken at (omega arith) (omega arith)) (sym (slots_more ts k more slots at left) ∙ e) (there_other ts k n more slots (suc at) left m (λ j a b. taken j (omega arith) (omega arith)))

-- ---- a number more

pub placed_slot : (old new : List ℕ) (f : Links) (k : List ℕ) (n first at v : ℕ) → first ≡ first_of k (length old) → first + 16 ≤ length old → v ≡ suc n → new ≡ slice_set old at v → first ≤ at → at < first + 16 → slice_index old at ≡ 0 → AreTaken old first at → Places old new f f k n
unfolding found_in
placed_slot old new f k n first at v start room value set low high free taken =
    let long : length new ≡ length old = ap (λ (xs : List ℕ). length xs) set ∙ length-set old at v in
    let here : slice_index new at ≡ suc n = ap (λ (xs : List ℕ). slice_index xs at) set ∙ get_or-set_same old at v 0 (omega arith) ∙ value in
    let others = λ (i : ℕ) (o : i ≡ at → ⊥). ap (λ (xs : List ℕ). slice_index xs i) set ∙ get_or-set_other old at i v 0 o in
    record {
      long = long;
      taken = λ i. elim (cases_eq i at) [
        | inl same ↦ inr (ap (slice_index old) same ∙ free, ap (slice_index new) same ∙ here)
        | inr other ↦ inl (others i other)
      ];
      links = λ j. inl refl;
      there = λ ts t e. there_slot ts k n (number_by f k) new first 16 at t low high here (λ i a b. subst (λ (x : ℕ). 0 < x) (sym (others i (λ same. absurd (omega arith)))) (taken i a b)) (subst (λ (x : ℕ). in_slots ts k (number_by f k) new x 16 ≡ None) (ap (first_of k) long ∙ sym start) e);
    }

pub placed_other : (old : List ℕ) (f g : Links) (k : List ℕ) (n first : ℕ) → first ≡ first_of k (length old) → AreTaken old first (first + 16) → ((j : List ℕ) → number_by g j ≡ cond (bytes_eq k j) (Some n) (number_by f j)) → Places old old f g k n
unfolding found_in
placed_other old f g k n first start taken says = record {
  long = refl;
  taken = λ i. inl refl;
  links = λ j. by_test j (bytes_eq k j) refl (says j);
  there = λ ts t e. there_other ts k n (number_by g k) old first 16 (says k ∙ ap (λ b. cond b (Some n) (number_by f k)) (bytes_same k)) taken (subst (λ (x : ℕ). in_slots ts k (number_by g k) old x 16 ≡ None) (sym start) e);
}
  where
    by_test : (j : List ℕ) (b : Bool) → bytes_eq k j ≡ b → number_by g j ≡ cond b (Some n) (number_by f j) → (number_by g j ≡ number_by f j) ⊎ ((j ≡ k) × (number_by g j ≡ Some n))
    by_test j true p q = inr (sym ((bytes_eq-Decides k j).0 p), q)
    by_test j false p q = inl q

-- ---- the texts behind a number more

module _ (ts : List (List ℕ)) (old new : List ℕ) (f g : Links) (k : List ℕ) (n : ℕ) (within : n < length ts) (text : get_or ts n [] ≡ k) (distinct : AreDistinct ts) (s : AreSlotted ts old f) (p : Places old new f g k n) where
  step_links : AreOf ts g
  step_links j m e = elim (p.links j) [
    | inl same ↦ s.links j m (sym same ∙ e)
    | inr q ↦ let here = some_same n m (sym q.1 ∙ e) in subst (λ (x : ℕ). IsOf ts j x) here (within, text ∙ sym q.0)
  ]

  step_kept : (j : List ℕ) (m : ℕ) → number_by f j ≡ Some m → number_by g j ≡ Some m
  step_kept j m e = elim (p.links j) [
    | inl same ↦ same ∙ e
    | inr q ↦ let was = s.links j m e in q.1 ∙ ap Some (distinct n m within was.0 (text ∙ sym q.0 ∙ sym was.1))
  ]

  step_slots : (i : ℕ) → slice_index new i ≤ length ts
  step_slots i = let was = s.slots i in elim (p.taken i) [
    | inl same ↦ omega arith
    | inr q ↦ let now = q.1 in omega arith
  ]

  pub step_slotted : AreSlotted ts new g
  step_slotted = record { slots = step_slots; links = step_links }

  pub step_widened : Widened ts f g
  step_widened = record { links = step_links; kept = step_kept }

  step_taken : AreKept old new
  step_taken i m e = elim (p.taken i) [
    | inl same ↦ same ∙ e
    | inr q ↦ let free = q.0 in absurd (omega arith)
  ]

  step_here : (o : Option ℕ) → found_in ts new g k ≡ o → found_in ts new g k ≡ Some n
  step_here None e = absurd (p.there ts text e)
  step_here (Some m) e = let was = found_known ts new g k m step_slotted e in e ∙ ap Some (distinct m n was.0 within (was.1 ∙ sym text))

  pub step_found : AreFound ts old f n → AreFound ts new g (n + 1)
  step_found h m l = elim (cases_eq m n) [
    | inl here ↦ subst (λ (x : ℕ). found_in ts new g (get_or ts x []) ≡ Some x) (sym here) (subst (λ (t : List ℕ). found_in ts new g t ≡ Some n) (sym text) (step_here (found_in ts new g k) refl))
    | inr other ↦ found_kept ts old new f g (get_or ts m []) m p.long step_taken (step_kept (get_or ts m []) m) (h m (omega arith))
  ]

-- ---- links more

pub widened_none : (ts : List (List ℕ)) (f g : Links) → AreOf ts f → IsKept f g → Widened ts f g
widened_none ts f g h kept = record { links = λ j n e. h j n (sym (kept j) ∙ e); kept = λ j n e. kept j ∙ e }

pub widened_more : (ts : List (List ℕ)) (f g h : Links) → Widened ts f g → Widened ts g h → Widened ts f h
widened_more ts f g h v w = record { links = w.links; kept = λ j n e. w.kept j n (v.kept j n e) }

-- ---- texts

pub distinct : (ts : List (List ℕ)) (slots : List ℕ) (f : Links) → AreFound ts slots f (length ts) → AreDistinct ts
distinct ts slots f h m n l r e = some_same m n (sym (h m l) ∙ ap (found_in ts slots f) e ∙ h n r)

-- a text that is not found is none of the others
distinct_more : (ts : List (List ℕ)) (slots : List ℕ) (f : Links) (k : List ℕ) → AreFound ts slots f (length ts) → found_in ts slots f k ≡ None → AreDistinct (ts ++ k ∷ [])
distinct_more ts slots f k h new m n l r e =
    let long = length-append ts (k ∷ []) in
    elim (cases_lt m (length ts)) [
      | inl a ↦ elim (cases_lt n (length ts)) [
        | inl b ↦ distinct ts slots f h m n a b (sym (get_or_append_left ts (k ∷ []) [] m a) ∙ e ∙ get_or_append_left ts (k ∷ []) [] n b)
        | inr b ↦ absurd (none_some m (sym new ∙ ap (found_in ts slots f) (sym (get_or_at ts k [] [] n (omega arith)) ∙ sym e ∙ get_or_append_left ts (k ∷ []) [] m a) ∙ h m a))
      ]
      | inr a ↦ elim (cases_lt n (length ts)) [
        | inl b ↦ absurd (none_some n (sym new ∙ ap (found_in ts slots f) (sym (get_or_at ts k [] [] m (omega arith)) ∙ e ∙ get_or_append_left ts (k ∷ []) [] n b) ∙ h n b))
        | inr b ↦ omega arith
      ]
    ]

-- a text that was not found is not found where the same texts are
pub still_new : (ts : List (List ℕ)) (old new : NameSlots) (k : List ℕ) → AreNumbered ts old → AreNumbered ts new → found_in ts old.slots.items (links_in old.others.links) k ≡ None → found_in ts new.slots.items (links_in new.others.links) k ≡ None
still_new ts old new k a b none = by_option (found_in ts new.slots.items (links_in new.others.links) k) refl
  where
    by_option : (o : Option ℕ) → found_in ts new.slots.items (links_in new.others.links) k ≡ o → o ≡ None
    by_option None e = refl
    by_option (Some n) e =
        let is = found_known ts new.slots.items (links_in new.others.links) k n b.slotted e in
        absurd (none_some n (sym none ∙ ap (found_in ts old.slots.items (links_in old.others.links)) (sym is.1) ∙ a.found n is.0))

-- a text more, with the next number
pub inserted : (ts : List (List ℕ)) (old new : NameSlots) (k : List ℕ) (n : ℕ) (xs : List ℕ) → n ≡ length ts → xs ≡ old.slots.items → AreNumbered ts old → found_in ts old.slots.items (links_in old.others.links) k ≡ None → Places xs new.slots.items (links_in old.others.links) (links_in new.others.links) k n → AreNumbered (ts ++ k ∷ []) new
inserted ts old new k n xs count same h none q =
    let us : List (List ℕ) = ts ++ k ∷ [] in
    let ss : List ℕ = old.slots.items in
    let rs : List ℕ = new.slots.items in
    let f : Links = links_in old.others.links in
    let g : Links = links_in new.others.links in
    let p : Places ss rs f g k n = subst (λ (x : List ℕ). Places x rs f g k n) same q in
    let s = h.slotted in
    let long : length us ≡ n + 1 = length-append ts (k ∷ []) ∙ ap (λ (x : ℕ). x + 1) (sym count) in
    let wide : AreSlotted us ss f = record {
      slots = λ i. let l = s.slots i in omega arith;
      links = λ j m e. let was = s.links j m e in let l = was.0 in (omega arith, get_or_append_left ts (k ∷ []) [] m l ∙ was.1);
    } in
    let text : get_or us n [] ≡ k = get_or_at ts k [] [] n (sym count) in
    let all : AreDistinct us = distinct_more ts ss f k h.found none in
    let before : AreFound us ss f n = λ m l. let low : m < length ts = omega arith in ap (found_in us ss f) (get_or_append_left ts (k ∷ []) [] m low) ∙ found_wider ts (k ∷ []) ss f (get_or ts m []) s ∙ h.found m low in
    record {
      slotted = step_slotted us ss rs f g k n (omega arith) text all wide p;
      found = subst (AreFound us rs g) (sym long) (step_found us ss rs f g k n (omega arith) text all wide p before);
    }

-- the same slots, with links more
pub widened : (ts : List (List ℕ)) (old new : NameSlots) → AreNumbered ts old → new.slots.items ≡ old.slots.items → Widened ts (links_in old.others.links) (links_in new.others.links) → AreNumbered ts new
widened ts old new h same w =
    let ss : List ℕ = old.slots.items in
    let f : Links = links_in old.others.links in
    let g : Links = links_in new.others.links in
    record {
      slotted = subst (λ (xs : List ℕ). AreSlotted ts xs g) (sym same) (record { slots = h.slotted.slots; links = w.links });
      found = subst (λ (xs : List ℕ). AreFound ts xs g (length ts)) (sym same) (λ n l. found_kept ts ss ss f g (get_or ts n []) n refl (λ i m e. e) (w.kept (get_or ts n []) n) (h.found n l));
    }

-- ---- a look-up slot by slot

pub looks_start : (ts : List (List ℕ)) (slots : List ℕ) (f : Links) (k : List ℕ) (first : ℕ) → first ≡ first_of k (length slots) → found_in ts slots f k ≡ in_slots ts k (number_by f k) slots first (first + 16 - first)
unfolding found_in
looks_start ts slots f k first e =
    let left : 16 ≡ first + 16 - first = omega arith in
    ap (λ at. in_slots ts k (number_by f k) slots at 16) (sym e) ∙ ap (in_slots ts k (number_by f k) slots first) left

looks_on : (ts : List (List ℕ)) (k : List ℕ) (more : Option ℕ) (slots : List ℕ) (at end : ℕ) → at < end → in_slots ts k more slots at (end - at) ≡ in_slot ts k (in_slots ts k more slots (at + 1) (end - (at + 1))) (slice_index slots at)
looks_on ts k more slots at end l =
    let left : end - at ≡ suc (end - (at + 1)) = omega arith in
    let next : suc at ≡ at + 1 = omega arith in
    ap (in_slots ts k more slots at) left ∙ slots_more ts k more slots at (end - (at + 1)) ∙ ap (λ j. in_slot ts k (in_slots ts k more slots j (end - (at + 1))) (slice_index slots at)) next

pub looks_free : (ts : List (List ℕ)) (k : List ℕ) (more : Option ℕ) (slots : List ℕ) (at end s : ℕ) → at < end → s ≡ slice_index slots at → s ≡ 0 → in_slots ts k more slots at (end - at) ≡ None
looks_free ts k more slots at end s l e z = looks_on ts k more slots at end l ∙ ap (in_slot ts k (in_slots ts k more slots (at + 1) (end - (at + 1)))) (sym e ∙ z)

pub looks_same : (ts : List (List ℕ)) (k t : List ℕ) (more : Option ℕ) (slots : List ℕ) (at end s n : ℕ) → at < end → s ≡ slice_index slots at → s ≡ suc n → t ≡ get_or ts n [] → bytes_eq t k ≡ true → in_slots ts k more slots at (end - at) ≡ Some n
looks_same ts k t more slots at end s n l e m u b = looks_on ts k more slots at end l ∙ in_slot-same ts k (in_slots ts k more slots (at + 1) (end - (at + 1))) (slice_index slots at) n (sym e ∙ m) (ap (λ x. bytes_eq x k) (sym u) ∙ b)

pub looks_other : (ts : List (List ℕ)) (k t : List ℕ) (more : Option ℕ) (slots : List ℕ) (at end s n : ℕ) → at < end → s ≡ slice_index slots at → s ≡ suc n → t ≡ get_or ts n [] → bytes_eq t k ≡ false → in_slots ts k more slots at (end - at) ≡ in_slots ts k more slots (at + 1) (end - (at + 1))
looks_other ts k t more slots at end s n l e m u b = looks_on ts k more slots at end l ∙ in_slot-other ts k (in_slots ts k more slots (at + 1) (end - (at + 1))) (slice_index slots at) n (sym e ∙ m) (ap (λ x. bytes_eq x k) (sym u) ∙ b)

pub looks_end : (ts : List (List ℕ)) (k : List ℕ) (more : Option ℕ) (slots : List ℕ) (at end : ℕ) → end ≤ at → in_slots ts k more slots at (end - at) ≡ more
looks_end ts k more slots at end l =
    let none : end - at ≡ zero = omega arith in
    ap (in_slots ts k more slots at) none ∙ slots_end ts k more slots at

-- the text of a name among the texts of all
pub text_at : (xs : List (CowStr Global)) (n : ℕ) (x : CowStr Global) (t : List ℕ) → n < length xs → x ≡ get_or xs n x → t ≡ cow_str_bytes x → t ≡ get_or (map cow_str_bytes xs) n []
text_at xs n x t l e f = f ∙ ap cow_str_bytes e ∙ sym (get_or-map cow_str_bytes xs n x [] l)

pub on_ok : {A E : Type 0} {P Q : Type 0} (r : Result A E) → (P → Q) → OnOk r P → OnOk r Q
on_ok (Ok a) f p = f p
on_ok (Err e) f p = tt

pub on_err : {A E : Type 0} {P Q R : Type 0} (r : Result A E) → (P → Q → R) → OnErr r P → OnErr r Q → OnErr r R
on_err (Ok a) f p q = tt
on_err (Err e) f p q = f p q

-- texts that are placed are numbered
pub numbered_by : (texts : List (CowStr Global)) (s : NameSlots) (xs : List ℕ) → s.slots.items ≡ xs → AreSlotted (map cow_str_bytes texts) xs (links_in s.others.links) → AreFound (map cow_str_bytes texts) xs (links_in s.others.links) (length texts) → AreNumbered (map cow_str_bytes texts) s
numbered_by texts s xs is slotted found =
    let ts : List (List ℕ) = map cow_str_bytes texts in
    record {
      slotted = subst (λ (ys : List ℕ). AreSlotted ts ys (links_in s.others.links)) (sym is) slotted;
      found = subst (λ n. AreFound ts s.slots.items (links_in s.others.links) n) (sym (length-map texts cow_str_bytes)) (subst (λ (ys : List ℕ). AreFound ts ys (links_in s.others.links) (length texts)) (sym is) found);
    }

-- there are enough slots for the last of them, however few names there are
pub roomy : (l m n count : ℕ) → l ≡ m → m ≡ n → n ≡ 4 * count + 64 → 16 ≤ l
roomy l m n count e f g = omega arith
