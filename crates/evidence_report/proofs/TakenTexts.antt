-- Texts that a sink takes one after another.
use Rattle.std.proofs.Common.{◌≡◌, ℕ, suc, ◌+◌, ◌<◌, ◌≤◌, List, [], ◌∷◌, ◌++◌, length, get_or, drop, drop-cons, Option, Some, Result, Ok, Err, IfOk, OnErr, OnOk, refl, sym, ap, subst, ◌∙◌, arith, append_assoc, append-nil}
use Rattle.std.specs.Prelude.{IsErrAnd}
use Rattle.std.specs.List.{flat_map}
use Rattle.std.proofs.lemmas.List.{drop_all}
use Rattle.evidence_report.specs.code.Written.{Takes, TakesFront}

pub takes-none : (a : Option (List ℕ)) → Takes a [] a
takes-none a = λ held is. is ∙ ap Some (sym (append-nil held))

pub front-none : (a : Option (List ℕ)) (t : List ℕ) → TakesFront a t a
front-none a t = λ held is. ([], (t, refl), is ∙ ap Some (sym (append-nil held)))

pub takes-then : (a b c : Option (List ℕ)) (t u : List ℕ) → Takes a t b → Takes b u c → Takes a (t ++ u) c
takes-then a b c t u first second = λ held is. second (held ++ t) (first held is) ∙ ap Some (append_assoc held t u)

pub front-then : (a b c : Option (List ℕ)) (t u : List ℕ) → Takes a t b → TakesFront b u c → TakesFront a (t ++ u) c
front-then a b c t u first second = λ held is.
    let more = second (held ++ t) (first held is) in
    (t ++ more.0, (more.1.0, append_assoc t more.0 more.1.0 ∙ ap (λ (x : List ℕ). t ++ x) more.1.1), more.2 ∙ ap Some (append_assoc held t more.0))

pub front-longer : (a b : Option (List ℕ)) (t u : List ℕ) → TakesFront a t b → TakesFront a (t ++ u) b
front-longer a b t u first = λ held is.
    let more = first held is in
    (more.0, (more.1.0 ++ u, sym (append_assoc more.0 more.1.0 u) ∙ ap (λ (x : List ℕ). x ++ u) more.1.1), more.2)

-- whatever is taken of what is left is taken of all
pub record OwesText (start now : Option (List ℕ)) (all left : List ℕ) : Type 0 where
  pub whole : (final : Option (List ℕ)) → Takes now left final → Takes start all final
  pub front : (final : Option (List ℕ)) → TakesFront now left final → TakesFront start all final

pub text-starts : (a : Option (List ℕ)) (t : List ℕ) → OwesText a a t t
text-starts a t = record { whole = λ final rest. rest; front = λ final rest. rest }

next-left : {A : Type 0} (xs : List A) (i : ℕ) (d : A) → i < length xs → drop i xs ≡ get_or xs i d ∷ drop (i + 1) xs
next-left {A} xs i d within =
    let e : suc i ≡ i + 1 = omega arith in
    drop-cons xs i d within ∙ ap (λ (n : ℕ). get_or xs i d ∷ drop n xs) e

module _ {A : Type 0} (f : A → List ℕ) (xs : List A) (i : ℕ) (start now : Option (List ℕ)) where
  pub text-more : (d : A) (later : Option (List ℕ)) → i < length xs → Takes now (f (get_or xs i d)) later → OwesText start now (flat_map f xs) (flat_map f (drop i xs))
      → OwesText start later (flat_map f xs) (flat_map f (drop (i + 1) xs))
  text-more d later within more owes = record {
    whole = λ final rest. owes.whole final (subst (λ (ys : List A). Takes now (flat_map f ys) final) (sym (next-left xs i d within)) (takes-then now later final (f (get_or xs i d)) (flat_map f (drop (i + 1) xs)) more rest));
    front = λ final rest. owes.front final (subst (λ (ys : List A). TakesFront now (flat_map f ys) final) (sym (next-left xs i d within)) (front-then now later final (f (get_or xs i d)) (flat_map f (drop (i + 1) xs)) more rest));
  }

  pub text-stops : (d : A) (later : Option (List ℕ)) → i < length xs → TakesFront now (f (get_or xs i d)) later → OwesText start now (flat_map f xs) (flat_map f (drop i xs))
      → TakesFront start (flat_map f xs) later
  text-stops d later within part owes =
      owes.front later (subst (λ (ys : List A). TakesFront now (flat_map f ys) later) (sym (next-left xs i d within)) (front-longer now later (f (get_or xs i d)) (flat_map f (drop (i + 1) xs)) part))

  pub text-ends : length xs ≤ i → OwesText start now (flat_map f xs) (flat_map f (drop i xs)) → Takes start (flat_map f xs) now
  text-ends past owes = owes.whole now (subst (λ (ys : List A). Takes now (flat_map f ys) now) (sym (drop_all i xs past)) (takes-none now))

-- what is so is so of an error
pub of-error : {A E : Type 0} (r : Result A E) (P : Type 0) → P → OnErr r P
of-error (Ok x) P p = tt
of-error (Err e) P p = p

-- what follows from a text that was taken
pub then-ok : {A E : Type 0} (r : Result A E) (P Q : Type 0) → (P → Q) → OnOk r P → OnOk r Q
then-ok (Ok x) P Q on p = on p
then-ok (Err e) P Q on p = tt

pub then-err : {A E : Type 0} (r : Result A E) (P Q : Type 0) → (P → Q) → OnErr r P → OnErr r Q
then-err (Ok x) P Q on p = tt
then-err (Err e) P Q on p = on p

-- where an error is handed up, nothing is said of a value
pub none-at-exit : {A E : Type 0} (P : A → Type 0) (r : Result A E) (e : E) → IsErrAnd r (λ (y : E). y ≡ e) → IfOk r P
none-at-exit P (Ok x) e is = absurd is
none-at-exit P (Err y) e is = tt

-- what was taken of a text, said of the text that it is
pub same-taken : {A E : Type 0} (r : Result A E) (a b : Option (List ℕ)) (t u : List ℕ) → t ≡ u → OnOk r (Takes a t b) → OnOk r (Takes a u b)
same-taken r a b t u is = subst (λ (x : List ℕ). OnOk r (Takes a x b)) is

pub same-front : {A E : Type 0} (r : Result A E) (a b : Option (List ℕ)) (t u : List ℕ) → t ≡ u → OnErr r (TakesFront a t b) → OnErr r (TakesFront a u b)
same-front r a b t u is = subst (λ (x : List ℕ). OnErr r (TakesFront a x b)) is
