-- The digits of an escape, one more at a time.
use Rattle.std.proofs.Common.{◌≡◌, ℕ, zero, suc, ◌+◌, ◌-◌, ◌*◌, ◌^◌, ◌<◌, ◌≤◌, true, false, List, ◌∷◌, length, drop, get_or, sym, ap, ap₂, ◌∙◌, arith, cond, add-one, drop-cons}
use Rattle.std.proofs.Math.Nat.{pow-suc, pow-le-pow_right}
use Rattle.std.proofs.lemmas.List.{drop_all}
use Rattle.std.specs.Prelude.{◌&&◌}
use Rattle.yaml_scalars.specs.declared.escape.Wanted.{Wanted}
use Rattle.yaml_scalars.specs.Quoted.{Short, is_hex, hex, least, greatest, may_go_on, digits}

-- the byte at a place is ahead of the others
pub ahead : (bytes : List ℕ) (i : ℕ) → i < length bytes → drop i bytes ≡ get_or bytes i 0 ∷ drop (i + 1) bytes
ahead bytes i l = rw (add-one i) (drop-cons bytes i 0 l)

pub stops_at_end : (w : Wanted) (left n c place : ℕ) (bytes : List ℕ) → 0 < left → place ≡ length bytes → digits w left n c (drop place bytes) ≡ Short c
stops_at_end w zero n c place bytes p e = absurd (omega arith)
stops_at_end w (suc left) n c place bytes p e = ap (digits w (suc left) n c) (drop_all place bytes (omega (arith, e)))

pub stops_at_byte : (w : Wanted) (left n c place : ℕ) (bytes : List ℕ) → 0 < left → place < length bytes → is_hex (get_or bytes place 0) ≡ false → digits w left n c (drop place bytes) ≡ Short c
stops_at_byte w zero n c place bytes p l h = absurd (omega arith)
stops_at_byte w (suc left) n c place bytes p l h =
    let next : ℕ = n * 16 + hex (get_or bytes place 0) in
    ap (digits w (suc left) n c) (ahead bytes place l)
    ∙ ap (λ q. cond (q && may_go_on w left next) (digits w left next (suc c) (drop (place + 1) bytes)) (Short c)) h

pub stops_at_digit : (w : Wanted) (left n c place : ℕ) (bytes : List ℕ) → 0 < left → place < length bytes → is_hex (get_or bytes place 0) ≡ true → may_go_on w (left - 1) (n * 16 + hex (get_or bytes place 0)) ≡ false → digits w left n c (drop place bytes) ≡ Short c
stops_at_digit w zero n c place bytes p l h m = absurd (omega arith)
stops_at_digit w (suc left) n c place bytes p l h m =
    let e : suc left - 1 ≡ left = omega arith in
    let next : ℕ = n * 16 + hex (get_or bytes place 0) in
    ap (digits w (suc left) n c) (ahead bytes place l)
    ∙ ap (λ q. cond (q && may_go_on w left next) (digits w left next (suc c) (drop (place + 1) bytes)) (Short c)) h
    ∙ ap (λ q. cond q (digits w left next (suc c) (drop (place + 1) bytes)) (Short c)) (ap (λ j. may_go_on w j next) (sym e) ∙ m)

pub goes_on : (w : Wanted) (left n c place : ℕ) (bytes : List ℕ) → 0 < left → place < length bytes → is_hex (get_or bytes place 0) ≡ true → may_go_on w (left - 1) (n * 16 + hex (get_or bytes place 0)) ≡ true
    → digits w left n c (drop place bytes) ≡ digits w (left - 1) (n * 16 + hex (get_or bytes place 0)) (c + 1) (drop (place + 1) bytes)
goes_on w zero n c place bytes p l h k = absurd (omega arith)
goes_on w (suc left) n c place bytes p l h k =
    let e : left ≡ suc left - 1 = omega arith in
    let m : suc c ≡ c + 1 = omega arith in
    let more : List ℕ = drop (place + 1) bytes in
    let next : ℕ = n * 16 + hex (get_or bytes place 0) in
    ap (digits w (suc left) n c) (ahead bytes place l)
    ∙ ap (λ q. cond (q && may_go_on w left next) (digits w left next (suc c) more) (Short c)) h
    ∙ ap (λ q. cond q (digits w left next (suc c) more) (Short c)) (ap (λ j. may_go_on w j next) e ∙ k)
    ∙ ap₂ (λ j k. digits w j next k more) e m

-- the least and the greatest number, a digit further
pub least_next : (left n : ℕ) → 0 < left → least left n ≡ least (left - 1) (n * 16)
least_next zero n p = absurd (omega arith)
least_next (suc left) n p = let e : left ≡ suc left - 1 = omega arith in ap (λ k. least k (n * 16)) e

pub greatest_next : (left n : ℕ) → 0 < left → greatest left n ≡ greatest (left - 1) (n * 16 + 15)
greatest_next zero n p = absurd (omega arith)
greatest_next (suc left) n p = let e : left ≡ suc left - 1 = omega arith in ap (λ k. greatest k (n * 16 + 15)) e

-- so many digits spell a number below a power of 16, in 32 bits if they are not more than eight
pub one_more : (n i d : ℕ) → n < 16 ^ i → d < 16 → n * 16 + d < 16 ^ (i + 1)
one_more n i d l m = let e : suc i ≡ i + 1 = omega arith in let p : 16 ^ (i + 1) ≡ 16 ^ i * 16 = ap (λ k. 16 ^ k) (sym e) ∙ pow-suc 16 i in omega (arith, p)

pub fits : (n i d : ℕ) → n < 16 ^ i → i < 8 → d < 16 → n * 16 + d < 4294967296
fits n i d l m k = let small : 16 ^ i ≤ 16 ^ 7 = pow-le-pow_right {n = 16} (omega arith) {i = i} {j = 7} (omega arith) in omega arith

-- with as many digits to come as make eight at most
pub smaller : (n i j : ℕ) → n < 16 ^ i → i ≤ j → n < 16 ^ j
smaller n i j l m = let small : 16 ^ i ≤ 16 ^ j = pow-le-pow_right {n = 16} (omega arith) {i = i} {j = j} m in omega arith
