-- What number the digits of an escape spell.
use Rattle.std.specs.Prelude.{ℕ, zero, suc, ◌+◌, ◌*◌, List, [], ◌∷◌, Option, Some, None, cond}
use Rattle.yaml_scalars.specs.declared.escape.Wanted.{Wanted}
use Rattle.yaml_scalars.specs.declared.escape.Wanted.TheVariants.{Character, FirstUnit, SecondUnit}
use Rattle.yaml_scalars.specs.Quoted.{is_hex, hex}

-- the number that so many hexadecimal digits spell
abbrev pub spelled : ℕ → ℕ → List ℕ → Option ℕ
spelled zero n bs = Some n
spelled (suc k) n [] = None
spelled (suc k) n (b ∷ bs) = cond (is_hex b) (spelled k (n * 16 + hex b) bs) None

-- the most digits that spell one
abbrev pub longest : Wanted → ℕ
longest Character = 8
longest FirstUnit = 4
longest SecondUnit = 4
