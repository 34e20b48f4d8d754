-- The byte order mark: whether reading skips one, and what stands behind it.
use Rattle.std.proofs.Common.{◌≡◌, ℕ, ◌⊎◌, subst, arith, Bool, true, false, List, [], ◌∷◌, ◌++◌, take, drop, refl, sym, ap, inl, inr, ◌∙◌, Option, Some, None, cond}
use Rattle.std.specs.Prelude.{nat_eq}
use Rattle.std.specs.List.{starts_with}
use Rattle.std.specs.Cmp.Lexicographic.{same_text}
use Rattle.std.proofs.lemmas.List.{take-append-drop}
use Rattle.doc_values.specs.Tree.{Forest}
use Rattle.doc_values.specs.Unfinished.{start}
use Rattle.std.proofs.lemmas.Slice.Eq.{starts_is}
use Rattle.std.proofs.lemmas.Bool.Decides.{Decides-eqb, nat_tests}
use Rattle.json_reader.proofs.Judged.{Verdicts, NoSyntax}
use Rattle.json_reader.specs.Json.{past, byte_order_mark, IsFront}
use Rattle.json_reader.specs.code.Reading.{AtValue, goes_on, next, read, mark_len, tree_read, judge, behind_mark, verdict}

pub either : (b : Bool) → (b ≡ true) ⊎ (b ≡ false)
either true = inl refl
either false = inr refl

-- where a mark stands, no value begins
mark_stops : (bytes : List ℕ) (v : Forest) → take 3 bytes ≡ byte_order_mark → read bytes 0 AtValue start ≡ Some v → ⊥
mark_stops [] v e h = cc
mark_stops (b ∷ bytes) v e h =
    let first : b ≡ 239 = cc in
    let stop : read (b ∷ bytes) 0 AtValue start ≡ None = ap (λ n. goes_on (next 0 AtValue start n) (read bytes 1)) first in
    let no : ◌≡◌ {A = Option Forest} None (Some v) = sym stop ∙ h in
    cc

-- a text read from its first byte
pub unmarked : (bytes : List ℕ) (v : Forest) → read bytes 0 AtValue start ≡ Some v → tree_read bytes ≡ Some v
unmarked bytes v h = elim (either (starts_with nat_eq bytes byte_order_mark)) [
  | inl e ↦ absurd (mark_stops bytes v (sym (same_text byte_order_mark (take 3 bytes) (sym e))) h)
  | inr e ↦ ap (λ q. read (drop (cond q 3 0) bytes) (cond q 3 0) AtValue start) e ∙ h
]

-- a text behind a mark
pub marked : (bytes rest : List ℕ) → bytes ≡ byte_order_mark ++ rest → tree_read bytes ≡ read rest 3 AtValue start
marked bytes rest e = ap tree_read e

-- what reading skips
pub front_of : (bytes : List ℕ) → (front : List ℕ) × IsFront front × (past 0 front ≡ mark_len bytes) × (bytes ≡ front ++ drop (mark_len bytes) bytes)
front_of bytes = elim (either (starts_with nat_eq bytes byte_order_mark)) [
  | inl e ↦
      let n : mark_len bytes ≡ 3 = ap (λ q. cond q 3 0) e in
      let mark : take 3 bytes ≡ byte_order_mark = sym (same_text byte_order_mark (take 3 bytes) (sym e)) in
      (byte_order_mark, inr refl, sym n, sym (take-append-drop 3 bytes) ∙ ap (λ t. t ++ drop 3 bytes) mark ∙ ap (λ k. byte_order_mark ++ drop k bytes) (sym n))
  | inr e ↦
      let n : mark_len bytes ≡ 0 = ap (λ q. cond q 3 0) e in
      ([], inl refl, sym n, ap (λ k. drop k bytes) (sym n))
]

-- the same of verdicts
first_is : (b : ℕ) (t front : List ℕ) → starts_with nat_eq (b ∷ t) (239 ∷ front) ≡ true → b ≡ 239
first_is b t front h = let e = (starts_is Decides-eqb (b ∷ t) (239 ∷ front) true (sym h)).0 refl in cc

not_front : (b : ℕ) (t front : List ℕ) → (b ≡ 239 → ⊥) → starts_with nat_eq (b ∷ t) (239 ∷ front) ≡ false
not_front b t front n = elim (either (starts_with nat_eq (b ∷ t) (239 ∷ front))) [ inl h ↦ absurd (n (first_is b t front h)) | inr h ↦ h ]

-- a text that does not begin as a mark does is judged from its first byte
pub other_first : (b : ℕ) (t : List ℕ) → (b ≡ 239 → ⊥) → verdict (b ∷ t) ≡ judge (b ∷ t) 0 AtValue start
other_first b t n =
    let bytes = b ∷ t in
    let p : starts_with nat_eq bytes byte_order_mark ≡ false = not_front b t (187 ∷ 191 ∷ []) n in
    ap (λ x. behind_mark bytes (cond x None (cond (starts_with nat_eq bytes (239 ∷ 187 ∷ [])) (Some 2) (cond (starts_with nat_eq bytes (239 ∷ [])) (Some 1) None)))) p
    ∙ ap (λ x. behind_mark bytes (cond x (Some 2) (cond (starts_with nat_eq bytes (239 ∷ [])) (Some 1) None))) (not_front b t (187 ∷ []) n)
    ∙ ap (λ x. behind_mark bytes (cond x (Some 1) None)) (not_front b t [] n)
    ∙ ap (λ x. judge (drop (cond x 3 0) bytes) (cond x 3 0) AtValue start) p

mark_or : (b : ℕ) → (b ≡ 239) ⊎ (b ≡ 239 → ⊥)
mark_or b = elim (either (nat_eq b 239)) [ inl e ↦ inl (byte_is b e) | inr e ↦ inr (byte_not b e) ]
  where
    byte_is : (b : ℕ) → nat_eq b 239 ≡ true → b ≡ 239
    byte_is b h = grind (arith, nat_tests)

    byte_not : (b : ℕ) → nat_eq b 239 ≡ false → b ≡ 239 → ⊥
    byte_not b h e = grind (arith, nat_tests)

pub verdict_plain : (Q : Verdicts) → NoSyntax Q → (bytes : List ℕ) → Q (judge bytes 0 AtValue start) → Q (verdict bytes)
verdict_plain Q s [] h = h
verdict_plain Q s (b ∷ t) h = elim (mark_or b) [
  | inl e ↦ absurd (s 0 (subst (λ n. Q (judge (n ∷ t) 0 AtValue start)) e h))
  | inr n ↦ subst Q (sym (other_first b t n)) h
]

-- and one with a mark from behind it
pub verdict_marked : (bytes rest : List ℕ) → bytes ≡ byte_order_mark ++ rest → verdict bytes ≡ judge rest 3 AtValue start
verdict_marked bytes rest e = ap verdict e
