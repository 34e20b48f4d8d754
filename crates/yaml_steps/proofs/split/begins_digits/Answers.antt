use Rattle.std.proofs.Common.{◌≡◌, ℕ, zero, suc, ◌+◌, ◌<◌, ◌≤◌, true, false, ◌||◌, ◌&&◌, List, [], ◌∷◌, drop, length, slice_index, refl, sym, ap, ◌∙◌, true≢false, arith, drop-cons}
use Rattle.std.proofs.lemmas.List.{drop-drop, drop_all}
use Rattle.yaml_scalars.specs.Lines.{begins_with}
use Rattle.yaml_laws.specs.code.Dots.{begins_digits}
use Rattle.yaml_steps.proofs.split.begins_digits.Goals as goal

first : (d : ℕ) (ds ys : List ℕ) → begins_with d ys ≡ true → begins_digits (d ∷ ds) ys ≡ begins_digits ds (drop 1 ys)
first d ds [] h = absurd (true≢false (sym h))
first d ds (y ∷ ys) h = ap (λ q. q && begins_digits ds ys) h

other : (d : ℕ) (ds ys : List ℕ) → begins_with d ys ≡ false → begins_digits (d ∷ ds) ys ≡ false
other d ds [] h = refl
other d ds (y ∷ ys) h = ap (λ q. q && begins_digits ds ys) h

within : (d : ℕ) (p : ℕ) (bs : List ℕ) → begins_with d (drop p bs) ≡ true → p + 1 ≤ length bs
within d zero [] h = absurd (true≢false (sym h))
within d zero (b ∷ bs) h = omega arith
within d (suc p) [] h = absurd (true≢false (sym h))
within d (suc p) (b ∷ bs) h = let l = within d p bs h in omega (arith, l)

part : (i : ℕ) (ds : List ℕ) → i < length ds → drop i ds ≡ slice_index ds i ∷ drop (i + 1) ds
part i ds l = drop-cons ds i 0 l ∙ ap (λ n. slice_index ds i ∷ drop n ds) (let e : suc i ≡ i + 1 = omega arith in e)

end : (ys : List ℕ) → begins_digits [] ys ≡ (begins_with 101 ys || begins_with 69 ys)
end [] = refl
end (y ∷ ys) = refl

step : (ds bs : List ℕ) (i p n : ℕ) → i < length ds → n ≡ p + 1 → begins_with (slice_index ds i) (drop p bs) ≡ true → begins_digits (drop (i + 1) ds) (drop n bs) ≡ begins_digits (drop i ds) (drop p bs)
step ds bs i p n l e h =
    ap (λ m. begins_digits (drop (i + 1) ds) (drop m bs)) e ∙ ap (begins_digits (drop (i + 1) ds)) (sym (drop-drop 1 p bs)) ∙ sym (first (slice_index ds i) (drop (i + 1) ds) (drop p bs) h) ∙ ap (λ xs. begins_digits xs (drop p bs)) (sym (part i ds l))

last : (ds bs : List ℕ) (i p n : ℕ) → length ds ≤ i → n ≡ p → begins_digits (drop i ds) (drop p bs) ≡ (begins_with 101 (drop n bs) || begins_with 69 (drop n bs))
last ds bs i p n l e = ap (λ xs. begins_digits xs (drop p bs)) (drop_all i ds l) ∙ end (drop p bs) ∙ ap (λ m. begins_with 101 (drop m bs) || begins_with 69 (drop m bs)) (sym e)

pub loop-i-preserved : goal.loop-i-preserved
loop-i-preserved c =
    let ds = c.args.digits.now in
    let bs = c.args.bytes.now in
    let i = c.loop-i.i in
    let p = c.args.start + i in
    let h = sym c.has_byte.ensures ∙ c.if-not-has_byte.false in
    let e : c.args.start + (i + 1) ≡ p + 1 = omega arith in
    let l = within (slice_index ds i) p bs h in
    (omega (arith, l), step ds bs i p (c.args.start + (i + 1)) c.loop-i-test.true e h ∙ c.loop-i.invariant.1)

pub returns-then-has_byte : goal.returns-then-has_byte
returns-then-has_byte c =
    let bs = c.args.bytes.now in
    let n = c.args.start + length c.args.digits.now in
    let e : n ≡ c.args.start + c.loop-i.i = (let l = c.loop-i-test.false in let m = c.loop-i.auto.i-end in omega (arith, l, m)) in
    c.if-has_byte.true ∙ sym (sym c.loop-i.invariant.1 ∙ last c.args.digits.now bs c.loop-i.i (c.args.start + c.loop-i.i) n c.loop-i-test.false e ∙ ap (λ q. q || begins_with 69 (drop n bs)) (sym c.has_byte-2.ensures ∙ c.if-has_byte.true))

pub returns-else-has_byte : goal.returns-else-has_byte
returns-else-has_byte c =
    let bs = c.args.bytes.now in
    let n = c.args.start + length c.args.digits.now in
    let e : n ≡ c.args.start + c.loop-i.i = (let l = c.loop-i-test.false in let m = c.loop-i.auto.i-end in omega (arith, l, m)) in
    c.has_byte-else-has_byte.ensures ∙ sym (sym c.loop-i.invariant.1 ∙ last c.args.digits.now bs c.loop-i.i (c.args.start + c.loop-i.i) n c.loop-i-test.false e ∙ ap (λ q. q || begins_with 69 (drop n bs)) (sym c.has_byte-2.ensures ∙ c.if-has_byte.false))

pub returns-then-not-has_byte : goal.returns-then-not-has_byte
returns-then-not-has_byte c =
    let ds = c.args.digits.now in
    let bs = c.args.bytes.now in
    let i = c.loop-i.i in
    let p = c.args.start + i in
    sym (sym c.loop-i.invariant.1 ∙ ap (λ xs. begins_digits xs (drop p bs)) (part i ds c.loop-i-test.true) ∙ other (slice_index ds i) (drop (i + 1) ds) (drop p bs) (sym c.has_byte.ensures ∙ c.if-not-has_byte.true))
