-- What is appended piece by piece, and what a sink has taken of a text.
use Rattle.std.proofs.Common.{◌≡◌, ℕ, List, [], ◌++◌, Option, Some, OnOk, OnErr, Result, refl, sym, ap, subst, ◌∙◌, append_assoc, append-nil}
use Rattle.std.specs.Option.{ForSome}
use Rattle.guard_io.specs.Outside.{IsPrefix}

-- two pieces one after the other are one piece
pub and-then : (l0 l1 l2 a b : List ℕ) → l1 ≡ l0 ++ a → l2 ≡ l1 ++ b → l2 ≡ l0 ++ (a ++ b)
and-then l0 l1 l2 a b first second = second ∙ ap (λ t. t ++ b) first ∙ append_assoc l0 a b

-- nothing is a front of each text
pub nothing-written : (told : Option (List ℕ)) (line : List ℕ) → ForSome told (λ held. (front : List ℕ) × IsPrefix front line × (told ≡ Some (held ++ front)))
nothing-written told line = λ held is. ([], (line, refl), is ∙ ap Some (sym (append-nil held)))

-- what was written of a text, said of the line that the text is
pub written-whole : {A E : Type 0} (r : Result A E) (before after : Option (List ℕ)) (text line : List ℕ) → text ≡ line
    → OnOk r (ForSome before (λ held. after ≡ Some (held ++ text))) → OnOk r (ForSome before (λ held. after ≡ Some (held ++ line)))
written-whole r before after text line is all = subst (λ (t : List ℕ). OnOk r (ForSome before (λ held. after ≡ Some (held ++ t)))) is all

pub written-front : {A E : Type 0} (r : Result A E) (before after : Option (List ℕ)) (text line : List ℕ) → text ≡ line
    → OnErr r (ForSome before (λ held. (front : List ℕ) × IsPrefix front text × (after ≡ Some (held ++ front))))
    → OnErr r (ForSome before (λ held. (front : List ℕ) × IsPrefix front line × (after ≡ Some (held ++ front))))
written-front r before after text line is part =
    subst (λ (t : List ℕ). OnErr r (ForSome before (λ held. (front : List ℕ) × IsPrefix front t × (after ≡ Some (held ++ front))))) is part

-- the same of two pieces where a call appends the second
pub and-call : {A E : Type 0} (r : Result A E) (l0 l1 l2 a b : List ℕ) → l1 ≡ l0 ++ a → OnOk r (l2 ≡ l1 ++ b) → OnOk r (l2 ≡ l0 ++ (a ++ b))
and-call r l0 l1 l2 a b first second = subst (λ (t : List ℕ). OnOk r (l2 ≡ t)) (ap (λ t. t ++ b) first ∙ append_assoc l0 a b) second
