-- Names of a list, one after another: whether the next was given before, and the first fault then.
use Rattle.std.proofs.Common.{◌≡◌, ℕ, ◌+◌, ◌<◌, ◌≤◌, Bool, true, false, List, [], ◌∷◌, ◌++◌, length, take, drop, get_or, map, Option, Some, cond, refl, ap, sym, ◌∙◌}
use Rattle.std.proofs.lemmas.List.{take_more, drop_all, append-nil, append_assoc, map-append}
use Rattle.std.specs.Borrow.{Bor}
use Rattle.guard_syntax.specs.Named.{Named}
use Rattle.rule_names.specs.declared.name_kind.NameKind.{NameKind}
use Rattle.rule_names.specs.Duplicates.{is_among, given_again, fault_of}
use Rattle.rule_names.specs.Faults.{Fault, earlier, first_from}
use Rattle.name_scopes.specs.code.Seen.{see_names}
use Rattle.name_scopes.proofs.FirstFaults.{drop-next}

-- names gathered from the items of a list, one item more
pub names-next : {X : Type 0} (all : List X → List Named) (name : X → Named) → ((y : X) (ys : List X) → all (y ∷ ys) ≡ name y ∷ all ys)
    → (xs : List X) (i : ℕ) (x : X) (b : Bor Named) (start : List Named) (old new : List (Bor Named)) → i < length xs → x ≡ get_or xs i x → b.now ≡ name x → new ≡ old ++ b ∷ []
    → see_names old ++ all (drop i xs) ≡ start → see_names new ++ all (drop (i + 1) xs) ≡ start
names-next all name split xs i x b start old new within is named added so =
    ap (λ (l : List (Bor Named)). see_names l ++ all (drop (i + 1) xs)) added
    ∙ ap (λ (l : List Named). l ++ all (drop (i + 1) xs)) (map-append (λ (n : Bor Named). n.now) old (b ∷ []) ∙ ap (λ (n : Named). see_names old ++ n ∷ []) named)
    ∙ append_assoc (see_names old) (name x ∷ []) (all (drop (i + 1) xs))
    ∙ ap (λ (l : List Named). see_names old ++ l) (sym (split x (drop (i + 1) xs)) ∙ ap all (sym (drop-next xs i x within is)))
    ∙ so

pub names-end : {X : Type 0} (all : List X → List Named) → all [] ≡ [] → (xs : List X) (i : ℕ) (start : List Named) (old : List (Bor Named)) → length xs ≤ i → see_names old ++ all (drop i xs) ≡ start → see_names old ≡ start
names-end all none xs i start old past so = sym (append-nil (see_names old)) ∙ ap (λ (l : List Named). see_names old ++ l) (sym none ∙ ap all (sym (drop_all i xs past))) ∙ so

-- the texts of names, the newest first, in front of others
abbrev pub texts_of : List (List ℕ) → List (Bor Named) → List (List ℕ)
texts_of texts [] = texts
texts_of texts (x ∷ xs) = texts_of (x.now.text ∷ texts) xs

texts_behind : (texts : List (List ℕ)) (xs : List (Bor Named)) (x : Bor Named) → texts_of texts (xs ++ x ∷ []) ≡ x.now.text ∷ texts_of texts xs
texts_behind texts [] x = refl
texts_behind texts (y ∷ xs) x = texts_behind (y.now.text ∷ texts) xs x

pub texts-next : (xs : List (Bor Named)) (i : ℕ) (x : Bor Named) → i < length xs → x ≡ get_or xs i x → texts_of [] (take (i + 1) xs) ≡ x.now.text ∷ texts_of [] (take i xs)
texts-next xs i x within is = ap (texts_of []) (take_more xs i x within ∙ ap (λ y. take i xs ++ y ∷ []) (sym is)) ∙ texts_behind [] (take i xs) x

module _ (kind : NameKind) where
  -- the first fault of names behind others
  abbrev pub first_left : Option Fault → List (List ℕ) → List (Bor Named) → Option Fault
  first_left best texts xs = first_from best (map (fault_of kind) (given_again texts (see_names xs)))

  left_is : (best : Option Fault) (texts : List (List ℕ)) (xs : List (Bor Named)) (i : ℕ) (x : Bor Named) (among : Bool) → i < length xs → x ≡ get_or xs i x → is_among x.now.text texts ≡ among
      → first_left best texts (drop i xs) ≡ cond among (first_left (Some (earlier best (fault_of kind x.now))) (x.now.text ∷ texts) (drop (i + 1) xs)) (first_left best (x.now.text ∷ texts) (drop (i + 1) xs))
  left_is best texts xs i x true within is among =
      ap (λ (ys : List (Bor Named)). first_left best texts ys) (drop-next xs i x within is)
      ∙ ap (λ b. first_from best (map (fault_of kind) (cond b (x.now ∷ given_again (x.now.text ∷ texts) (see_names (drop (i + 1) xs))) (given_again (x.now.text ∷ texts) (see_names (drop (i + 1) xs)))))) among
  left_is best texts xs i x false within is among =
      ap (λ (ys : List (Bor Named)). first_left best texts ys) (drop-next xs i x within is)
      ∙ ap (λ b. first_from best (map (fault_of kind) (cond b (x.now ∷ given_again (x.now.text ∷ texts) (see_names (drop (i + 1) xs))) (given_again (x.now.text ∷ texts) (see_names (drop (i + 1) xs)))))) among

  -- the name at an index was not given before
  pub again-new : (best whole : Option Fault) (texts : List (List ℕ)) (xs : List (Bor Named)) (i : ℕ) (x : Bor Named) → i < length xs → x ≡ get_or xs i x → is_among x.now.text texts ≡ false
      → first_left best texts (drop i xs) ≡ whole → first_left best (x.now.text ∷ texts) (drop (i + 1) xs) ≡ whole
  again-new best whole texts xs i x within is new so = sym (left_is best texts xs i x false within is new) ∙ so

  -- or it was, and is the first fault or behind the first so far
  pub again-old : (best whole : Option Fault) (texts : List (List ℕ)) (xs : List (Bor Named)) (i : ℕ) (x : Bor Named) (text : List ℕ) (at : ℕ) (fault : Fault) → i < length xs → x ≡ get_or xs i x
      → is_among x.now.text texts ≡ true → text ≡ x.now.text → at ≡ x.now.at → fault ≡ earlier best (record { kind = kind; named = record { text = text; at = at } })
      → first_left best texts (drop i xs) ≡ whole → first_left (Some fault) (x.now.text ∷ texts) (drop (i + 1) xs) ≡ whole
  again-old best whole texts xs i x text at fault within is old same there found so =
      let found_is : fault ≡ earlier best (fault_of kind x.now) =
      found
      ∙ ap (λ (t : List ℕ). earlier best (record { kind = kind; named = record { text = t; at = at } })) same
      ∙ ap (λ (a : ℕ). earlier best (record { kind = kind; named = record { text = x.now.text; at = a } })) there in
      ap (λ (f : Fault). first_left (Some f) (x.now.text ∷ texts) (drop (i + 1) xs)) found_is
      ∙ sym (left_is best texts xs i x true within is old)
      ∙ so
