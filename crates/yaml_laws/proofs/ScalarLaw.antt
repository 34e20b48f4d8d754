-- Where a scalar fails, no text that agrees up to the place and with the byte there has one.
use Rattle.std.proofs.Common.{◌≡◌, ℕ, zero, suc, ◌+◌, ◌-◌, ◌<◌, ◌≤◌, Bool, true, false, List, [], ◌∷◌, ◌++◌, length, drop, get_or, length-drop, refl, sym, ap, ◌∙◌, arith, cond, subst}
use Rattle.std.specs.Prelude.{nat_eq, nat_lt, ◌||◌, ◌&&◌, not, slice_index}
use Rattle.std.proofs.lemmas.Bool.Decides.{nat_tests}
use Rattle.yaml_scalars.specs.declared.scalar.Setting.{Setting}
use Rattle.yaml_scalars.specs.Lines.{Line, Stands, Fails, begins_with, lines}
use Rattle.yaml_scalars.specs.code.Walk.{line_at, has_break, behind}
use Rattle.yaml_scalars.specs.Plain.{plain_on}
use Rattle.yaml_scalars.specs.Scalar.{begins_order_mark, is_first_column, begins_quoted, begins_block, plain_scalar, quoted_scalar, block_scalar, scalar_at}
use Rattle.yaml_scalars.proofs.Places.{lines_are}
use Rattle.yaml_laws.proofs.Agree.{Later, Within, texts_share, drop_before, lines_later, lines_within}
use Rattle.yaml_laws.proofs.PlainLaw.{plain_dead, plain_from, plain_to}
use Rattle.yaml_laws.proofs.QuotedBounds.{quoted_lower, quoted_upper}
use Rattle.yaml_laws.proofs.QuotedLaw.{quoted_dead}
use Rattle.yaml_laws.proofs.BlockLaw.{block_lower, block_upper, block_dies}

-- the first column of a line, by the bytes before
get_same : (before : List ℕ) (b : ℕ) (rest more : List ℕ) (i : ℕ) → i ≤ length before → get_or (before ++ (b ∷ rest)) i 0 ≡ get_or (before ++ (b ∷ more)) i 0
get_same [] b rest more zero l = refl
get_same [] b rest more (suc i) l = absurd (omega arith)
get_same (x ∷ before) b rest more zero l = refl
get_same (x ∷ before) b rest more (suc i) l = get_same before b rest more i (omega arith)

no_three : (at : ℕ) (p q : Bool) → at < 3 → (nat_eq at 3 && p) ≡ (nat_eq at 3 && q)
no_three at p q l = let z : nat_eq at 3 ≡ false = grind (arith, nat_tests, l) in ap (λ n. n && p) z ∙ sym (ap (λ n. n && q) z)

mark_same : (before : List ℕ) (b : ℕ) (rest more : List ℕ) (at : ℕ) → at ≤ length before → (nat_eq at 3 && begins_order_mark (before ++ (b ∷ rest))) ≡ (nat_eq at 3 && begins_order_mark (before ++ (b ∷ more)))
mark_same [] b rest more at l = no_three at (begins_order_mark (b ∷ rest)) (begins_order_mark (b ∷ more)) (omega arith)
mark_same (x ∷ []) b rest more at l = no_three at (begins_order_mark (x ∷ b ∷ rest)) (begins_order_mark (x ∷ b ∷ more)) (omega arith)
mark_same (x ∷ y ∷ []) b rest more at l = no_three at (begins_order_mark (x ∷ y ∷ b ∷ rest)) (begins_order_mark (x ∷ y ∷ b ∷ more)) (omega arith)
mark_same (x ∷ y ∷ z ∷ before) b rest more at l = refl

pub column_same : (before : List ℕ) (b : ℕ) (rest more : List ℕ) (at : ℕ) → at ≤ length before → is_first_column (before ++ (b ∷ rest)) at ≡ is_first_column (before ++ (b ∷ more)) at
column_same before b rest more at l =
    ap (λ q. (nat_eq at 0 || q) || nat_eq (slice_index (before ++ (b ∷ rest)) (at - 1)) 10) (mark_same before b rest more at l)
    ∙ ap (λ n. (nat_eq at 0 || (nat_eq at 3 && begins_order_mark (before ++ (b ∷ more)))) || nat_eq n 10) (get_same before b rest more (at - 1) (omega (arith, l)))

-- in a longer text
get_longer : (text y : List ℕ) (i : ℕ) → i < length text → get_or (text ++ y) i 0 ≡ get_or text i 0
get_longer [] y i l = absurd (omega arith)
get_longer (x ∷ text) y zero l = refl
get_longer (x ∷ text) y (suc i) l = get_longer text y i (omega arith)

mark_longer : (text y : List ℕ) (at : ℕ) → at ≤ length text → (nat_eq at 3 && begins_order_mark (text ++ y)) ≡ (nat_eq at 3 && begins_order_mark text)
mark_longer [] y at l = no_three at (begins_order_mark y) false (omega arith)
mark_longer (x ∷ []) y at l = no_three at (begins_order_mark (x ∷ y)) false (omega arith)
mark_longer (x ∷ z ∷ []) y at l = no_three at (begins_order_mark (x ∷ z ∷ y)) false (omega arith)
mark_longer (x ∷ z ∷ w ∷ text) y at l = refl

pub column_longer : (text y : List ℕ) (at : ℕ) → at ≤ length text → is_first_column (text ++ y) at ≡ is_first_column text at
column_longer text y zero l = refl
column_longer text y (suc i) l =
    let n : suc i - 1 ≡ i = omega arith in
    ap (λ q. (nat_eq (suc i) 0 || q) || nat_eq (slice_index (text ++ y) (suc i - 1)) 10) (mark_longer text y (suc i) l)
    ∙ ap (λ k. (nat_eq (suc i) 0 || (nat_eq (suc i) 3 && begins_order_mark text)) || nat_eq (get_or (text ++ y) k 0) 10) n
    ∙ ap (λ b. (nat_eq (suc i) 0 || (nat_eq (suc i) 3 && begins_order_mark text)) || nat_eq b 10) (get_longer text y i (omega (arith, l)))
    ∙ sym (ap (λ k. (nat_eq (suc i) 0 || (nat_eq (suc i) 3 && begins_order_mark text)) || nat_eq (get_or text k 0) 10) n)

-- plain scalars
abbrev first_of : ℕ → List ℕ → Line
first_of at xs = record { at = at; bytes = line_at xs; broken = has_break xs }

plain_not_before : (s : Setting) (text : List ℕ) (at p : ℕ) → plain_scalar s text at ≡ Fails p → p < at → ⊥
plain_not_before s text at p h l =
    let xs = drop at text in
    let e = lines_are at xs in
    plain_from s (is_first_column text at) p (first_of at xs) (behind at xs) (subst (λ ls. Later p ls) e (lines_later p at xs l)) (sym (ap (plain_on s (is_first_column text at)) e) ∙ h)

from_not_before : (at p : ℕ) → (p < at → ⊥) → at ≤ p
from_not_before at p h = by_test (nat_lt p at) refl where
  by_test : (q : Bool) → nat_lt p at ≡ q → at ≤ p
  by_test true e = absurd (h (grind (arith, nat_tests, e)))
  by_test false e = grind (arith, nat_tests, e)

pub plain_lower : (s : Setting) (text : List ℕ) (at p : ℕ) → at ≤ length text → plain_scalar s text at ≡ Fails p → at ≤ p
plain_lower s text at p l h = from_not_before at p (plain_not_before s text at p h)

pub plain_upper : (s : Setting) (text : List ℕ) (at p : ℕ) → at ≤ length text → plain_scalar s text at ≡ Fails p → p ≤ length text
plain_upper s text at p l h =
    let xs = drop at text in
    let e = lines_are at xs in
    let size : at + length xs ≤ length text = omega (arith, length-drop at text) in
    plain_to s (is_first_column text at) (length text) p (first_of at xs) (behind at xs) (subst (λ ls. Within (length text) ls) e (lines_within (length text) at xs size)) (sym (ap (plain_on s (is_first_column text at)) e) ∙ h)

pub plain_text_dead : (s : Setting) (before : List ℕ) (b : ℕ) (rest more : List ℕ) (at : ℕ) (t : List ℕ) (e : ℕ) → at ≤ length before → plain_scalar s (before ++ (b ∷ rest)) at ≡ Fails (length before) → plain_scalar s (before ++ (b ∷ more)) at ≡ Stands t e → ⊥
plain_text_dead s before b rest more at t e l h g =
    plain_dead s (is_first_column (before ++ (b ∷ rest)) at) (length before) (lines at (drop at (before ++ (b ∷ rest)))) (lines at (drop at (before ++ (b ∷ more)))) t e (texts_share before b rest more at l) h
    (ap (λ q. plain_on s q (lines at (drop at (before ++ (b ∷ more))))) (column_same before b rest more at l) ∙ g)

-- the byte that begins a scalar
begins_same : (k : ℕ) (before : List ℕ) (b : ℕ) (rest more : List ℕ) (at : ℕ) → at ≤ length before → begins_with k (drop at (before ++ (b ∷ rest))) ≡ begins_with k (drop at (before ++ (b ∷ more)))
begins_same k before b rest more at l = ap (begins_with k) (drop_before at before (b ∷ rest) l) ∙ by_front (drop at before) ∙ sym (ap (begins_with k) (drop_before at before (b ∷ more) l)) where
  by_front : (r : List ℕ) → begins_with k (r ++ (b ∷ rest)) ≡ begins_with k (r ++ (b ∷ more))
  by_front [] = refl
  by_front (d ∷ r) = refl

pub quoted_same : (before : List ℕ) (b : ℕ) (rest more : List ℕ) (at : ℕ) → at ≤ length before → begins_quoted (drop at (before ++ (b ∷ rest))) ≡ begins_quoted (drop at (before ++ (b ∷ more)))
quoted_same before b rest more at l = ap (λ q. q || begins_with 39 (drop at (before ++ (b ∷ rest)))) (begins_same 34 before b rest more at l) ∙ ap (λ q. begins_with 34 (drop at (before ++ (b ∷ more))) || q) (begins_same 39 before b rest more at l)

pub block_same : (s : Setting) (before : List ℕ) (b : ℕ) (rest more : List ℕ) (at : ℕ) → at ≤ length before → begins_block s (drop at (before ++ (b ∷ rest))) ≡ begins_block s (drop at (before ++ (b ∷ more)))
block_same s before b rest more at l = ap (λ q. not (s.flow || s.one_line) && (q || begins_with 62 (drop at (before ++ (b ∷ rest))))) (begins_same 124 before b rest more at l) ∙ ap (λ q. not (s.flow || s.one_line) && (begins_with 124 (drop at (before ++ (b ∷ more))) || q)) (begins_same 62 before b rest more at l)

-- a scalar of any kind fails at or behind the place where it would begin, and within the text
pub scalar_lower : (s : Setting) (text : List ℕ) (at p : ℕ) → at < length text → scalar_at s text at ≡ Fails p → at ≤ p
scalar_lower s text at p l h = by_kind (begins_quoted (drop at text)) (begins_block s (drop at text)) h where
  by_kind : (q r : Bool) → cond q (quoted_scalar s text at) (cond r (block_scalar s text at) (plain_scalar s text at)) ≡ Fails p → at ≤ p
  by_kind true r h = quoted_lower s text at p l h
  by_kind false true h = from_not_before at p (block_lower s text at p (omega (arith, l)) h)
  by_kind false false h = plain_lower s text at p (omega (arith, l)) h

pub scalar_upper : (s : Setting) (text : List ℕ) (at p : ℕ) → at < length text → scalar_at s text at ≡ Fails p → p ≤ length text
scalar_upper s text at p l h = by_kind (begins_quoted (drop at text)) (begins_block s (drop at text)) h where
  by_kind : (q r : Bool) → cond q (quoted_scalar s text at) (cond r (block_scalar s text at) (plain_scalar s text at)) ≡ Fails p → p ≤ length text
  by_kind true r h = quoted_upper s text at p l h
  by_kind false true h = block_upper s text at p l h
  by_kind false false h = plain_upper s text at p (omega (arith, l)) h

-- texts that agree up to the place and with the byte there have a scalar of the same kind there, if any
pub scalar_dead : (s : Setting) (before : List ℕ) (b : ℕ) (rest more : List ℕ) (at : ℕ) (t : List ℕ) (e : ℕ) → at ≤ length before → scalar_at s (before ++ (b ∷ rest)) at ≡ Fails (length before) → scalar_at s (before ++ (b ∷ more)) at ≡ Stands t e → ⊥
scalar_dead s before b rest more at t e l h k =
    by_kind (begins_quoted (drop at (before ++ (b ∷ rest)))) (begins_block s (drop at (before ++ (b ∷ rest)))) refl h
    (ap (λ q. cond q (quoted_scalar s (before ++ (b ∷ more)) at) (cond (begins_block s (drop at (before ++ (b ∷ rest)))) (block_scalar s (before ++ (b ∷ more)) at) (plain_scalar s (before ++ (b ∷ more)) at))) (quoted_same before b rest more at l)
    ∙ ap (λ q. cond (begins_quoted (drop at (before ++ (b ∷ more)))) (quoted_scalar s (before ++ (b ∷ more)) at) (cond q (block_scalar s (before ++ (b ∷ more)) at) (plain_scalar s (before ++ (b ∷ more)) at))) (block_same s before b rest more at l) ∙ k) where
      by_kind : (q r : Bool) → begins_quoted (drop at (before ++ (b ∷ rest))) ≡ q → cond q (quoted_scalar s (before ++ (b ∷ rest)) at) (cond r (block_scalar s (before ++ (b ∷ rest)) at) (plain_scalar s (before ++ (b ∷ rest)) at)) ≡ Fails (length before) → cond q (quoted_scalar s (before ++ (b ∷ more)) at) (cond r (block_scalar s (before ++ (b ∷ more)) at) (plain_scalar s (before ++ (b ∷ more)) at)) ≡ Stands t e → ⊥
      by_kind true r d h k = quoted_dead s before rest more b at t e l d h k
      by_kind false true d h k = block_dies s before b rest more at t e l h k
      by_kind false false d h k = plain_text_dead s before b rest more at t e l h k
