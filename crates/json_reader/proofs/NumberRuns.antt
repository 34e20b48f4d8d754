-- What reading gives of a number text, by the part that its last byte is.
use Rattle.std.proofs.Common.{◌≡◌, ℕ, suc, Bool, true, false, List, [], ◌∷◌, ◌++◌, refl, sym, ap, inl, inr, ◌∙◌, append_assoc, append-nil, Some, None}
use Rattle.std.specs.Prelude.{Err}
use Rattle.doc_values.specs.declared.kind.Kind.{Kind}
use Rattle.doc_values.specs.Unfinished.{Unfinished, with_value}
use Rattle.json_reader.specs.declared.number.NumberPart.{NumberPart}
use Rattle.json_reader.specs.declared.refusal.JsonRefusal.TheVariants.{Syntax}
use Rattle.json_reader.specs.Json.{past}
use Rattle.json_reader.specs.code.Numbers.{number_kind, first_part, part_next, completes, run_parts}
use Rattle.json_reader.specs.code.Reading.{class_of, begins_number, AtValue, After, InNumber, Go, value_next, after_next, number_done, number_next, number_end, next, number_cause, judged, ended, judge}
use Rattle.json_reader.proofs.NumberBytes.{number_class}
use Rattle.json_reader.proofs.Parts.{runs_first}

-- the first byte
pub number_first : (b at : ℕ) (u : Unfinished) → begins_number b ≡ true → next at AtValue u b ≡ Go (InNumber (first_part b) (b ∷ []) at) u
number_first b at u h = elim (number_class b h) [ inl e ↦ ap (value_next at u b) e | inr s ↦ elim s [ inl e ↦ ap (value_next at u b) e | inr e ↦ ap (value_next at u b) e ] ]

-- the bytes behind it
pub number_same : (k t acc : List ℕ) (at a : ℕ) (q r : NumberPart) (u : Unfinished) → run_parts (Some q) k ≡ Some r → judge (k ++ t) at (InNumber q acc a) u ≡ judge t (past at k) (InNumber r (acc ++ k) a) u
number_same [] t acc at a q r u e =
    let same : q ≡ r = cc in
    ap (λ q. judge t at (InNumber q acc a) u) same ∙ ap (λ s. judge t at (InNumber r s a) u) (sym (append-nil acc))
number_same (b ∷ k) t acc at a q r u e =
    let f = runs_first (part_next q b) k r e in
    ap (λ o. judged (number_next o acc a u b) (number_cause at (completes q) (number_kind acc) a) (judge (k ++ t) (suc at))) f.1
    ∙ number_same k t (acc ++ (b ∷ [])) (suc at) a f.0 r u (sym (ap (λ o. run_parts o k) f.1) ∙ e)
    ∙ ap (λ s. judge t (past (suc at) k) (InNumber r s a) u) (append_assoc acc (b ∷ []) k)

-- nothing goes on with a number text
abbrev pub NoMore : NumberPart → List ℕ → Type 0
NoMore r [] = Unit {0}
NoMore r (b ∷ t) = part_next r b ≡ None

pub number_known : (at : ℕ) (q : Bool) (k : Kind) (a : ℕ) → number_cause at q (Some k) a ≡ Syntax at
number_known at true k a = refl
number_known at false k a = refl

pub number_ends : (t : List ℕ) (at : ℕ) (r : NumberPart) (text : List ℕ) (a : ℕ) (k : Kind) (u : Unfinished) → NoMore r t → number_kind text ≡ Some k → judge t at (InNumber r text a) u ≡ judge t at After (with_value k [] a u)
number_ends [] at r text a k u d e = ap (λ o. ended (number_end o a u) (number_cause at (completes r) o a)) e ∙ ap (λ c. ended (number_end (Some k) a u) c) (number_known at (completes r) k a)
number_ends (b ∷ t) at r text a k u d e =
    ap (λ o. judged (number_next o text a u b) (number_cause at (completes r) (number_kind text) a) (judge t (suc at))) d
    ∙ ap (λ o. judged (number_done o a u (λ w. after_next w (class_of b))) (number_cause at (completes r) o a) (judge t (suc at))) e
    ∙ ap (λ c. judged (after_next (with_value k [] a u) (class_of b)) c (judge t (suc at))) (number_known at (completes r) k a)

pub number_fails : (t : List ℕ) (at : ℕ) (r : NumberPart) (text : List ℕ) (a : ℕ) (u : Unfinished) → NoMore r t → number_kind text ≡ None → judge t at (InNumber r text a) u ≡ Err (number_cause at (completes r) None a)
number_fails [] at r text a u d e = ap (λ o. ended (number_end o a u) (number_cause at (completes r) o a)) e
number_fails (b ∷ t) at r text a u d e =
    ap (λ o. judged (number_next o text a u b) (number_cause at (completes r) (number_kind text) a) (judge t (suc at))) d
    ∙ ap (λ o. judged (number_done o a u (λ w. after_next w (class_of b))) (number_cause at (completes r) o a) (judge t (suc at))) e
