-- Digits are read exactly where they spell a number that is wanted: none of them is refused for what the number may still become.
use Rattle.std.proofs.Common.{◌≡◌, ℕ, zero, suc, ◌+◌, ◌*◌, ◌<◌, ◌≤◌, Bool, true, false, List, [], ◌∷◌, refl, sym, ap, ◌∙◌, arith, cond, Some, None}
use Rattle.std.specs.Prelude.{◌&&◌}
use Rattle.std.proofs.lemmas.Bool.Decides.{nat_tests}
use Rattle.yaml_scalars.specs.declared.escape.Wanted.{Wanted}
use Rattle.yaml_scalars.specs.declared.escape.Wanted.TheVariants.{Character, FirstUnit, SecondUnit}
use Rattle.yaml_scalars.specs.Quoted.{Number, Short, is_hex, hex, least, greatest, may_go_on, digits}
use Rattle.yaml_laws.specs.code.Digits.{spelled, longest}

hex_small : (b : ℕ) → is_hex b ≡ true → hex b ≤ 15
hex_small b h = grind (arith, nat_tests, h)

least_rises : (k n m : ℕ) → n ≤ m → least k n ≤ least k m
least_rises zero n m l = l
least_rises (suc k) n m l = least_rises k (n * 16) (m * 16) (omega (arith, l))

greatest_rises : (k n m : ℕ) → n ≤ m → greatest k n ≤ greatest k m
greatest_rises zero n m l = l
greatest_rises (suc k) n m l = greatest_rises k (n * 16 + 15) (m * 16 + 15) (omega (arith, l))

between : (k n m : ℕ) (bs : List ℕ) → spelled k n bs ≡ Some m → (least k n ≤ m) × (m ≤ greatest k n)
between zero n m bs h = let e : n ≡ m = cc in (omega (arith, e), omega (arith, e))
between (suc k) n m [] h = absurd (cc)
between (suc k) n m (b ∷ bs) h = by_digit (is_hex b) (λ e. hex_small b e) h (λ g. between k (n * 16 + hex b) m bs g) where
  by_digit : (q : Bool) → (q ≡ true → hex b ≤ 15) → cond q (spelled k (n * 16 + hex b) bs) None ≡ Some m → (spelled k (n * 16 + hex b) bs ≡ Some m → (least k (n * 16 + hex b) ≤ m) × (m ≤ greatest k (n * 16 + hex b))) → (least k (n * 16) ≤ m) × (m ≤ greatest k (n * 16 + 15))
  by_digit true f h r =
      let i = r h in
      let d = f refl in
      let low = least_rises k (n * 16) (n * 16 + hex b) (omega arith) in
      let high = greatest_rises k (n * 16 + hex b) (n * 16 + 15) (omega (arith, d)) in
      (omega (arith, low, i.0), omega (arith, high, i.1))
  by_digit false f h r = absurd (cc)

-- where any number is wanted that so many more digits make of one, they may go on
never_lost : (w : Wanted) (k n m : ℕ) → k < longest w → least k n ≤ m → m ≤ greatest k n → may_go_on w 0 m ≡ true → may_go_on w k n ≡ true
never_lost Character zero n m l a b h = grind (arith, nat_tests, a, b, h)
never_lost Character (suc zero) n m l a b h = grind (arith, nat_tests, a, b, h)
never_lost Character (suc (suc zero)) n m l a b h = grind (arith, nat_tests, a, b, h)
never_lost Character (suc (suc (suc zero))) n m l a b h = grind (arith, nat_tests, a, b, h)
never_lost Character (suc (suc (suc (suc zero)))) n m l a b h = grind (arith, nat_tests, a, b, h)
never_lost Character (suc (suc (suc (suc (suc zero))))) n m l a b h = grind (arith, nat_tests, a, b, h)
never_lost Character (suc (suc (suc (suc (suc (suc zero)))))) n m l a b h = grind (arith, nat_tests, a, b, h)
never_lost Character (suc (suc (suc (suc (suc (suc (suc zero))))))) n m l a b h = grind (arith, nat_tests, a, b, h)
never_lost Character (suc (suc (suc (suc (suc (suc (suc (suc k)))))))) n m l a b h = absurd (omega (arith, l))
never_lost FirstUnit zero n m l a b h = grind (arith, nat_tests, a, b, h)
never_lost FirstUnit (suc zero) n m l a b h = grind (arith, nat_tests, a, b, h)
never_lost FirstUnit (suc (suc zero)) n m l a b h = grind (arith, nat_tests, a, b, h)
never_lost FirstUnit (suc (suc (suc zero))) n m l a b h = grind (arith, nat_tests, a, b, h)
never_lost FirstUnit (suc (suc (suc (suc k)))) n m l a b h = absurd (omega (arith, l))
never_lost SecondUnit zero n m l a b h = grind (arith, nat_tests, a, b, h)
never_lost SecondUnit (suc zero) n m l a b h = grind (arith, nat_tests, a, b, h)
never_lost SecondUnit (suc (suc zero)) n m l a b h = grind (arith, nat_tests, a, b, h)
never_lost SecondUnit (suc (suc (suc zero))) n m l a b h = grind (arith, nat_tests, a, b, h)
never_lost SecondUnit (suc (suc (suc (suc k)))) n m l a b h = absurd (omega (arith, l))

pub is_read : (w : Wanted) (k n c m : ℕ) (bs : List ℕ) → k ≤ longest w → spelled k n bs ≡ Some m → may_go_on w 0 m ≡ true → digits w k n c bs ≡ Number m
is_read w zero n c m bs l h g = let e : n ≡ m = cc in ap Number e
is_read w (suc k) n c m [] l h g = absurd (cc)
is_read w (suc k) n c m (b ∷ bs) l h g = by_digit (is_hex b) h (λ i. is_read w k (n * 16 + hex b) (suc c) m bs (omega (arith, l)) i g) where
  next : ℕ
  next = n * 16 + hex b

  by_digit : (q : Bool) → cond q (spelled k next bs) None ≡ Some m → (spelled k next bs ≡ Some m → digits w k next (suc c) bs ≡ Number m) → cond (q && may_go_on w k next) (digits w k next (suc c) bs) (Short c) ≡ Number m
  by_digit true h r =
      let i = between k next m bs h in
      let may = never_lost w k next m (omega (arith, l)) i.0 i.1 g in
      ap (λ q. cond q (digits w k next (suc c) bs) (Short c)) may ∙ r h
  by_digit false h r = absurd (cc)

pub is_wanted : (w : Wanted) (k n c m : ℕ) (bs : List ℕ) → 0 < k → digits w k n c bs ≡ Number m → (spelled k n bs ≡ Some m) × (may_go_on w 0 m ≡ true)
is_wanted w zero n c m bs p h = absurd (omega (arith, p))
is_wanted w (suc k) n c m [] p h = absurd (cc)
is_wanted w (suc k) n c m (b ∷ bs) p h = by_digit (is_hex b) (may_go_on w k (n * 16 + hex b)) refl h (further k (n * 16 + hex b)) (λ l g. is_wanted w k (n * 16 + hex b) (suc c) m bs l g) where
  next : ℕ
  next = n * 16 + hex b

  -- the last digit, or one before others
  further : (k n : ℕ) → may_go_on w k n ≡ true → digits w k n (suc c) bs ≡ Number m → (0 < k → digits w k n (suc c) bs ≡ Number m → (spelled k n bs ≡ Some m) × (may_go_on w 0 m ≡ true)) → (spelled k n bs ≡ Some m) × (may_go_on w 0 m ≡ true)
  further zero n may h r = let e : n ≡ m = cc in (ap (λ (j : ℕ). Some j) e, ap (may_go_on w 0) (sym e) ∙ may)
  further (suc k) n may h r = r (omega arith) h

  by_digit : (q s : Bool) → may_go_on w k next ≡ s → cond (q && s) (digits w k next (suc c) bs) (Short c) ≡ Number m
      → (may_go_on w k next ≡ true → digits w k next (suc c) bs ≡ Number m → (0 < k → digits w k next (suc c) bs ≡ Number m → (spelled k next bs ≡ Some m) × (may_go_on w 0 m ≡ true)) → (spelled k next bs ≡ Some m) × (may_go_on w 0 m ≡ true))
      → (0 < k → digits w k next (suc c) bs ≡ Number m → (spelled k next bs ≡ Some m) × (may_go_on w 0 m ≡ true))
      → (cond q (spelled k next bs) None ≡ Some m) × (may_go_on w 0 m ≡ true)
  by_digit true true e h f r = f e h r
  by_digit true false e h f r = absurd (cc)
  by_digit false s e h f r = absurd (cc)
