-- Rows are the same where their tests say so.
use Rattle.std.proofs.Common.{◌≡◌, ◌&&◌, ◌==◌, ℕ, Bool, true, false, refl, ap, sym, rules, MatchBool, true≢false}
use Rattle.std.specs.Bool.{Decides}
use Rattle.std.proofs.lemmas.Bool.Decides.{Decides-and, Decides-eqb, Decides-like}
use Rattle.guard_syntax.specs.declared.row.Ref.{Ref}
use Rattle.guard_syntax.specs.declared.row.Row.{Row}
use Rattle.guard_syntax.specs.declared.row.Row.TheVariants.{Found, Missing, Unmade}
use Rattle.guard_syntax.specs.contracts.row.RefPartialEq.TheImpl.{eq-value as ref_eq}
use Rattle.guard_syntax.specs.contracts.row.RowPartialEq.TheImpl.{eq-value}

ref-decides : (a b : Ref) → Decides (ref_eq.it a b) (a ≡ b)
ref-decides a b = search rules

missing-same : (v w : Ref) (n m : ℕ) → (v ≡ w) × (n ≡ m) → Missing v n ≡ Missing w m
missing-same v w n m both = let one = both.0 in let other = both.1 in cc

missing-parts : (v w : Ref) (n m : ℕ) → Missing v n ≡ Missing w m → (v ≡ w) × (n ≡ m)
missing-parts v w n m same = (cc, cc)

found-part : (v w : Ref) → Found v ≡ Found w → v ≡ w
found-part v w same = cc

unmade-part : (n m : ℕ) → Unmade n ≡ Unmade m → n ≡ m
unmade-part n m same = cc

-- `==` of two rows
pub row-decides : (a b : Row) → Decides (eq-value.it a b) (a ≡ b)
row-decides (Found v) (Found w) = Decides-like (ref_eq.it v w) (ap Found) (found-part v w) (ref-decides v w)
row-decides (Missing v n) (Missing w m) = Decides-like (ref_eq.it v w && (n == m)) (missing-same v w n m) (missing-parts v w n m) (Decides-and (ref_eq.it v w) (n == m) (ref-decides v w) (Decides-eqb n m))
row-decides (Unmade n) (Unmade m) = Decides-like (n == m) (ap Unmade) (unmade-part n m) (Decides-eqb n m)
row-decides a b = search rules

-- a test that decides something
pub one-of-two : (b : Bool) (P : Type 0) → Decides b P → MatchBool b P (P → ⊥)
one-of-two true P d = d.0 refl
one-of-two false P d = λ p. absurd (true≢false (sym (d.1 p)))
