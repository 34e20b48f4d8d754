-- Units: their sizes, and that what escapes spell are characters.
use Rattle.std.proofs.Common.{◌≡◌, ℕ, ◌+◌, ◌-◌, ◌*◌, ◌<◌, ◌≤◌, ◌⊎◌, true, false, sym, inl, inr, subst, arith}
use Rattle.std.specs.Prelude.{nat_eq, nat_le, nat_lt, ◌&&◌}
use Rattle.std.specs.Char.{IsScalar}
use Rattle.std.proofs.lemmas.Bool.Decides.{nat_tests}
use Rattle.json_reader.specs.Json.{is_hex, hex, is_unit, unit, is_high, is_low}
use Rattle.json_reader.proofs.Strings.{hexes}

hex_small : (b : ℕ) → is_hex b ≡ true → hex b < 16
hex_small b h = grind (arith, nat_tests)

IsScalar-below : (c : ℕ) → c < 55296 → IsScalar c
IsScalar-below c h = grind (arith, nat_tests)

IsScalar-above : (c : ℕ) → 57344 ≤ c → c ≤ 1114111 → IsScalar c
IsScalar-above c h l = grind (arith, nat_tests)

high_digits : (m n : ℕ) → (nat_eq m 13 && nat_le 8 n && nat_lt n 12) ≡ true → (m ≡ 13) × (8 ≤ n) × (n < 12)
high_digits m n h = (grind (arith, nat_tests), grind (arith, nat_tests), grind (arith, nat_tests))

low_digits : (m n : ℕ) → (nat_eq m 13 && nat_le 12 n) ≡ true → (m ≡ 13) × (12 ≤ n)
low_digits m n h = (grind (arith, nat_tests), grind (arith, nat_tests))

no_surrogate : (m n : ℕ) → (nat_eq m 13 && nat_le 8 n && nat_lt n 12) ≡ false → (nat_eq m 13 && nat_le 12 n) ≡ false → (m < 13) ⊎ ((13 < m) ⊎ ((m ≡ 13) × (n < 8)))
no_surrogate m n h l = grind (arith, nat_tests)

unit_scalar : (m n o p : ℕ) → m < 16 → n < 16 → o < 16 → p < 16 → (m < 13) ⊎ ((13 < m) ⊎ ((m ≡ 13) × (n < 8))) → IsScalar (m * 4096 + n * 256 + o * 16 + p)
unit_scalar m n o p a b c d (inl h) = IsScalar-below (m * 4096 + n * 256 + o * 16 + p) (omega arith)
unit_scalar m n o p a b c d (inr (inl h)) = IsScalar-above (m * 4096 + n * 256 + o * 16 + p) (omega arith) (omega arith)
unit_scalar m n o p a b c d (inr (inr (e, h))) = IsScalar-below (m * 4096 + n * 256 + o * 16 + p) (omega (arith, e))

pub plain_unit : (a b c d n : ℕ) → is_unit a b c d ≡ true → is_high a b ≡ false → is_low a b ≡ false → n ≡ unit a b c d → IsScalar n
plain_unit a b c d n u h l e =
    let x = hexes a b c d u in
    subst IsScalar (sym e) (unit_scalar (hex a) (hex b) (hex c) (hex d) (hex_small a x.0) (hex_small b x.1) (hex_small c x.2) (hex_small d x.3) (no_surrogate (hex a) (hex b) h l))

pub high_unit : (a b c d n : ℕ) → is_unit a b c d ≡ true → is_high a b ≡ true → n ≡ unit a b c d → (55296 ≤ n) × (n < 56320)
high_unit a b c d n u h e =
    let x = hexes a b c d u in
    let s = high_digits (hex a) (hex b) h in
    let p = hex_small c x.2 in
    let q = hex_small d x.3 in
    (omega (arith, s.0, s.1), omega (arith, s.0, s.2))

pub low_unit : (a b c d n : ℕ) → is_unit a b c d ≡ true → is_low a b ≡ true → n ≡ unit a b c d → (56320 ≤ n) × (n < 57344)
low_unit a b c d n u h e =
    let x = hexes a b c d u in
    let s = low_digits (hex a) (hex b) h in
    let o = hex_small b x.1 in
    let p = hex_small c x.2 in
    let q = hex_small d x.3 in
    (omega (arith, s.0, s.1), omega (arith, s.0))

pub pair_scalar : (h l : ℕ) → (55296 ≤ h) × (h < 56320) → (56320 ≤ l) × (l < 57344) → IsScalar (65536 + (h - 55296) * 1024 + (l - 56320))
pair_scalar h l (a, b) (c, d) = IsScalar-above (65536 + (h - 55296) * 1024 + (l - 56320)) (omega arith) (omega arith)
