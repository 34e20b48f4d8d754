-- A key that is a text is one as it stands in a path: signs that are escaped are of ASCII, and so is what stands for them; the bytes of any other character stand for themselves. By induction on the characters.
use Rattle.std.proofs.Common.{◌≡◌, ℕ, ◌+◌, ◌/◌, ◌%◌, ◌<◌, ◌≤◌, Bool, true, false, cond, List, [], ◌∷◌, ◌++◌, codes, refl, sym, ap, ap₂, subst, ◌∙◌, inl, inr, arith, append-nil, true≢false}
use Rattle.std.specs.Prelude.{◌==◌, ◌&&◌, ◌||◌, nat_lt, if◌then◌else◌}
use Rattle.std.specs.Char.{digit_char}
use Rattle.std.specs.List.{flat_map}
use Rattle.std.specs.Str.{IsUtf8}
use Rattle.std.proofs.Math.Utf8.{encode, encodes, scalar, scalars, low_scalar}
use Rattle.std.proofs.lemmas.Bool.{cases_lt, le-ltb}
use Rattle.std.proofs.lemmas.Bool.Decides.{nat_tests}
use Rattle.std.proofs.lemmas.Grind.{flat_map-append}
use Rattle.std.proofs.lemmas.List.Concat.{flat_map-cons}
use Rattle.std.proofs.lemmas.Str.{IsUtf8-append, IsUtf8-encode, IsUtf8-nil, encode_ascii}
use Rattle.report_text.specs.Paths.{key_byte}
use Rattle.report_text.specs.Spelling.{hex_pair, is_control}

-- ---- signs of ASCII

AllLow : List ℕ → Type 0
AllLow [] = Unit {0}
AllLow (b ∷ bs) = (b < 128) × AllLow bs

low-text : (b : ℕ) → b < 128 → IsUtf8 (b ∷ [])
low-text b h = subst IsUtf8 (encode_ascii b h) (IsUtf8-encode b (low_scalar b (omega arith)))

low-texts : (bs : List ℕ) → AllLow bs → IsUtf8 bs
unfolding AllLow
low-texts [] h = IsUtf8-nil
low-texts (b ∷ bs) h = IsUtf8-append (b ∷ []) bs (low-text b h.0) (low-texts bs h.1)

low-digit : (d : ℕ) → d < 16 → digit_char d < 128
low-digit d h = by (nat_lt d 10)
  where
    by : (b : Bool) → cond {A = ℕ} b (48 + d) (87 + d) < 128
    by true = omega (arith, h)
    by false = omega (arith, h)

abbrev key_by : ℕ → (x y z : Bool) → List ℕ
key_by b x y z = if x then codes "~0" else (if y then codes "~1" else (if z then codes "~x" ++ hex_pair b else b ∷ []))

low-key : (b : ℕ) → b < 128 → AllLow (key_byte b)
unfolding AllLow
low-key b h = by (b == 126) (b == 47) (is_control b)
  where
    by : (x y z : Bool) → AllLow (key_by b x y z)
    by true y z = (omega arith, (omega arith, tt))
    by false true z = (omega arith, (omega arith, tt))
    by false false true = (omega arith, (omega arith, (low-digit (b / 16) (omega (arith, h)), (low-digit (b % 16) (omega arith), tt))))
    by false false false = (h, tt)

-- ---- other characters

AllHigh : List ℕ → Type 0
AllHigh [] = Unit {0}
AllHigh (b ∷ bs) = (128 ≤ b) × AllHigh bs

high-key : (b : ℕ) → 128 ≤ b → key_byte b ≡ b ∷ []
high-key b h =
    let x : (b == 126) ≡ false = grind (arith, nat_tests) in
    let y : (b == 47) ≡ false = grind (arith, nat_tests) in
    let z : nat_lt b 32 ≡ false = grind (arith, nat_tests) in
    let w : (b == 127) ≡ false = grind (arith, nat_tests) in
    ap (λ (t : Bool). key_by b t (b == 47) (is_control b)) x
    ∙ ap (λ (t : Bool). key_by b false t (is_control b)) y
    ∙ ap (λ (t : Bool). key_by b false false (t || (b == 127))) z
    ∙ ap (λ (t : Bool). key_by b false false t) w

high-stays : (bs : List ℕ) → AllHigh bs → flat_map key_byte bs ≡ bs
unfolding AllHigh
high-stays [] h = refl
high-stays (b ∷ bs) h = flat_map-cons key_byte b bs ∙ ap₂ (λ (x y : List ℕ). x ++ y) (high-key b h.0) (high-stays bs h.1)

abbrev longer : ℕ → (x y : Bool) → List ℕ
longer c x y = cond x ((192 + c / 64) ∷ (128 + c % 64) ∷ [])
    (cond y ((224 + c / 4096) ∷ (128 + (c / 64) % 64) ∷ (128 + c % 64) ∷ [])
    ((240 + c / 262144) ∷ (128 + (c / 4096) % 64) ∷ (128 + (c / 64) % 64) ∷ (128 + c % 64) ∷ []))

longer-high : (c : ℕ) (x y : Bool) → AllHigh (longer c x y)
unfolding AllHigh
longer-high c true y = (omega arith, (omega arith, tt))
longer-high c false true = (omega arith, (omega arith, (omega arith, tt)))
longer-high c false false = (omega arith, (omega arith, (omega arith, (omega arith, tt))))

high-bytes : (c : ℕ) → 128 ≤ c → AllHigh (encode c)
unfolding encode
high-bytes c h =
    let e : nat_lt c 128 ≡ false = le-ltb c 128 h in
    subst (λ (b : Bool). AllHigh (cond b (c ∷ []) (longer c (nat_lt c 2048) (nat_lt c 65536)))) (sym e) (longer-high c (nat_lt c 2048) (nat_lt c 65536))

-- ---- texts

both : (a b : Bool) → (a && b) ≡ true → (a ≡ true) × (b ≡ true)
both true b e = (refl, e)
both false b e = absurd (true≢false (sym e))

one-text : (c : ℕ) → scalar c ≡ true → IsUtf8 (flat_map key_byte (encode c))
one-text c s = elim (cases_lt c 128) [
  | inl low ↦
      let is : flat_map key_byte (encode c) ≡ key_byte c = ap (flat_map key_byte) (encode_ascii c low) ∙ flat_map-cons key_byte c [] ∙ append-nil (key_byte c) in
      subst IsUtf8 (sym is) (low-texts (key_byte c) (low-key c low))
  | inr high ↦ subst IsUtf8 (sym (high-stays (encode c) (high-bytes c high))) (IsUtf8-encode c s)
]

all-texts : (cs : List ℕ) → scalars cs ≡ true → IsUtf8 (flat_map key_byte (encodes cs))
all-texts [] s = IsUtf8-nil
all-texts (c ∷ cs) s =
    let (first, rest) = both (scalar c) (scalars cs) s in
    subst IsUtf8 (sym (flat_map-append key_byte (encode c) (encodes cs)))
    (IsUtf8-append (flat_map key_byte (encode c)) (flat_map key_byte (encodes cs)) (one-text c first) (all-texts cs rest))

pub key-text : (bs : List ℕ) → IsUtf8 bs → IsUtf8 (flat_map key_byte bs)
key-text bs (cs, (s, is)) = subst (λ (t : List ℕ). IsUtf8 (flat_map key_byte t)) is (all-texts cs s)
