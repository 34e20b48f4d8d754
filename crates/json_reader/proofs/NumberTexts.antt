-- Bytes that go through the parts of numbers begin number texts: what they are in each part, and how they go on to one.
use Rattle.std.proofs.Common.{◌≡◌, ℕ, ◌⊎◌, Bool, true, false, List, [], ◌∷◌, ◌++◌, refl, sym, ap, inl, inr, ◌∙◌, subst, arith, append_assoc, append-nil, Option, Some, None}
use Rattle.std.specs.Prelude.{nat_eq, ◌||◌}
use Rattle.std.proofs.lemmas.Bool.Decides.{nat_tests}
use Rattle.doc_values.specs.declared.kind.Kind.{Kind}
use Rattle.doc_values.specs.declared.kind.Kind.TheVariants as kind
use Rattle.decimals.specs.Number.{is_digit, AreDigits, number, Parts, minus_text, IsWholePart, fraction_text, IsPowerText, IsSpelled, signed}
use Rattle.json_reader.specs.declared.number.NumberPart.{NumberPart}
use Rattle.json_reader.specs.declared.number.NumberPart.TheVariants as part
use Rattle.json_reader.specs.code.Numbers.{first_part, by_digit, by_point, by_exponent, part_next, completes, run_parts, decimal_of}
use Rattle.json_reader.specs.Json.{StandsFor}
use Rattle.json_reader.specs.code.Reading.{begins_number}
use Rattle.json_reader.proofs.Spellings.{chosen, digits_whole}
use Rattle.json_reader.proofs.NumberKinds.{decimal_is}
use Rattle.json_reader.proofs.Parts.{runs_first, zero_is}

abbrev IsMark : ℕ → Type 0
IsMark e = (e ≡ 101) ⊎ (e ≡ 69)

-- what bytes are whose last one is in a part
abbrev pub Held : NumberPart → List ℕ → Type 0
Held part.Minus t = t ≡ 45 ∷ []
Held part.Zero t = (m : Bool) × (t ≡ minus_text m ++ (48 ∷ []))
Held part.Whole t = (m : Bool) × (d : ℕ) × (ds : List ℕ) × (is_digit d ≡ true) × (nat_eq d 48 ≡ false) × AreDigits ds × (t ≡ minus_text m ++ (d ∷ ds))
Held part.Point t = (m : Bool) × (w : List ℕ) × IsWholePart w × (t ≡ minus_text m ++ (w ++ (46 ∷ [])))
Held part.Fraction t = (m : Bool) × (w : List ℕ) × (d : ℕ) × (ds : List ℕ) × IsWholePart w × AreDigits (d ∷ ds) × (t ≡ minus_text m ++ (w ++ (46 ∷ (d ∷ ds))))
Held part.Exponent t = (m : Bool) × (w f : List ℕ) × (e : ℕ) × IsWholePart w × AreDigits f × IsMark e × (t ≡ minus_text m ++ (w ++ (fraction_text f ++ (e ∷ []))))
Held part.Sign t = (m : Bool) × (w f : List ℕ) × (e s : ℕ) × IsWholePart w × AreDigits f × IsMark e × ((s ≡ 43) ⊎ (s ≡ 45)) × (t ≡ minus_text m ++ (w ++ (fraction_text f ++ (e ∷ (s ∷ [])))))
Held part.Power t = (m : Bool) × (w f : List ℕ) × (down : Bool) × (d : ℕ) × (ds x : List ℕ) × IsWholePart w × AreDigits f × AreDigits (d ∷ ds) × IsPowerText down (d ∷ ds) x × (t ≡ minus_text m ++ (w ++ (fraction_text f ++ x)))

digits_more : (ds : List ℕ) (b : ℕ) → AreDigits ds → is_digit b ≡ true → AreDigits (ds ++ (b ∷ []))
digits_more [] b e h = (h, tt)
digits_more (d ∷ ds) b e h = (e.0, digits_more ds b e.1 h)

minus_is : (b : ℕ) → nat_eq b 45 ≡ true → b ≡ 45
minus_is b h = grind (arith, nat_tests)

point_is : (b : ℕ) → nat_eq b 46 ≡ true → b ≡ 46
point_is b h = grind (arith, nat_tests)

mark_is : (b : ℕ) → (nat_eq b 101 || nat_eq b 69) ≡ true → IsMark b
mark_is b h = grind (arith, nat_tests)

sign_is : (b : ℕ) → (nat_eq b 43 || nat_eq b 45) ≡ true → (b ≡ 43) ⊎ (b ≡ 45)
sign_is b h = grind (arith, nat_tests)

none_some : (r : NumberPart) → ◌≡◌ {A = Option NumberPart} None (Some r) → ⊥
none_some r e = cc

held_is : (q r : NumberPart) (t : List ℕ) → ◌≡◌ {A = Option NumberPart} (Some q) (Some r) → Held q t → Held r t
held_is q r t e h = let same : q ≡ r = cc in subst (λ x. Held x t) same h

more : (t x : List ℕ) (m : Bool) (b : ℕ) → t ≡ minus_text m ++ x → t ++ (b ∷ []) ≡ minus_text m ++ (x ++ (b ∷ []))
more t x m b e = ap (λ s. s ++ (b ∷ [])) e ∙ append_assoc (minus_text m) x (b ∷ [])

-- behind a whole part: a mark of an exponent, or a point too
by_exponent_held : (t w f : List ℕ) (m : Bool) (b : ℕ) (r : NumberPart) → IsWholePart w → AreDigits f → t ≡ minus_text m ++ (w ++ fraction_text f) → by_exponent b ≡ Some r → Held r (t ++ (b ∷ []))
by_exponent_held t w f m b r iw df e h = elim (chosen (nat_eq b 101 || nat_eq b 69) (Some part.Exponent) None (Some r) h) [
  | inl k ↦ held_is part.Exponent r (t ++ (b ∷ [])) k.1 (m, w, f, b, iw, df, mark_is b k.0, more t (w ++ fraction_text f) m b e ∙ ap (λ s. minus_text m ++ s) (append_assoc w (fraction_text f) (b ∷ [])))
  | inr k ↦ absurd (none_some r k.1)
]

by_point_held : (t w : List ℕ) (m : Bool) (b : ℕ) (r : NumberPart) → IsWholePart w → t ≡ minus_text m ++ w → by_point b ≡ Some r → Held r (t ++ (b ∷ []))
by_point_held t w m b r iw e h = elim (chosen (nat_eq b 46) (Some part.Point) (by_exponent b) (Some r) h) [
  | inl k ↦ held_is part.Point r (t ++ (b ∷ [])) k.1 (m, w, iw, more t w m b e ∙ ap (λ c. minus_text m ++ (w ++ (c ∷ []))) (point_is b k.0))
  | inr k ↦ by_exponent_held t w [] m b r iw tt (e ∙ ap (λ s. minus_text m ++ s) (sym (append-nil w))) k.1
]

zero_whole : IsWholePart (48 ∷ [])
zero_whole = (refl, tt, λ h. refl)

-- a first digit of the power
power_begins : (t w f : List ℕ) (m down : Bool) (b : ℕ) (x : List ℕ) → IsWholePart w → AreDigits f → is_digit b ≡ true → IsPowerText down (b ∷ []) x → t ++ (b ∷ []) ≡ minus_text m ++ (w ++ (fraction_text f ++ x)) → Held part.Power (t ++ (b ∷ []))
power_begins t w f m down b x iw df d p e = (m, w, f, down, b, [], x, iw, df, (d, tt), p, e)

power_more : (down : Bool) (d : ℕ) (ds x : List ℕ) (b : ℕ) → IsPowerText down (d ∷ ds) x → IsPowerText down (d ∷ (ds ++ (b ∷ []))) (x ++ (b ∷ []))
power_more true d ds x b (e, i, t) = (e, i, ap (λ s. s ++ (b ∷ [])) t)
power_more false d ds x b (e, i, inl t) = (e, i, inl (ap (λ s. s ++ (b ∷ [])) t))
power_more false d ds x b (e, i, inr t) = (e, i, inr (ap (λ s. s ++ (b ∷ [])) t))

in_tail : (t w f x : List ℕ) (m : Bool) (b : ℕ) → t ≡ minus_text m ++ (w ++ (fraction_text f ++ x)) → t ++ (b ∷ []) ≡ minus_text m ++ (w ++ (fraction_text f ++ (x ++ (b ∷ []))))
in_tail t w f x m b e = more t (w ++ (fraction_text f ++ x)) m b e ∙ ap (λ s. minus_text m ++ s) (append_assoc w (fraction_text f ++ x) (b ∷ []) ∙ ap (λ s. w ++ s) (append_assoc (fraction_text f) x (b ∷ [])))

-- a digit, or none
digit_held : (t : List ℕ) (b : ℕ) (q r : NumberPart) → (is_digit b ≡ true → Held q (t ++ (b ∷ []))) → by_digit b q None ≡ Some r → Held r (t ++ (b ∷ []))
digit_held t b q r h e = elim (chosen (is_digit b) (Some q) None (Some r) e) [ inl k ↦ held_is q r (t ++ (b ∷ [])) k.1 (h k.0) | inr k ↦ absurd (none_some r k.1) ]

digit_or : (t : List ℕ) (b : ℕ) (q r : NumberPart) (o : Option NumberPart) → (is_digit b ≡ true → Held q (t ++ (b ∷ []))) → (o ≡ Some r → Held r (t ++ (b ∷ []))) → by_digit b q o ≡ Some r → Held r (t ++ (b ∷ []))
digit_or t b q r o h k e = elim (chosen (is_digit b) (Some q) o (Some r) e) [ inl y ↦ held_is q r (t ++ (b ∷ [])) y.1 (h y.0) | inr y ↦ k y.1 ]

-- one byte more
held_next : (q r : NumberPart) (t : List ℕ) (b : ℕ) → Held q t → part_next q b ≡ Some r → Held r (t ++ (b ∷ []))
held_next part.Minus r t b e n = elim (chosen (nat_eq b 48) (Some part.Zero) (by_digit b part.Whole None) (Some r) n) [
  | inl k ↦ held_is part.Zero r (t ++ (b ∷ [])) k.1 (true, ap (λ s. s ++ (b ∷ [])) e ∙ ap (λ c. 45 ∷ (c ∷ [])) (zero_is b k.0))
  | inr k ↦ digit_held t b part.Whole r (λ d. (true, b, [], d, k.0, tt, ap (λ s. s ++ (b ∷ [])) e)) k.1
]
held_next part.Zero r t b (m, e) n = by_point_held t (48 ∷ []) m b r zero_whole e n
held_next part.Whole r t b (m, d, ds, id, nz, dd, e) n = digit_or t b part.Whole r (by_point b) (λ k. (m, d, ds ++ (b ∷ []), id, nz, digits_more ds b dd k, more t (d ∷ ds) m b e)) (by_point_held t (d ∷ ds) m b r (digits_whole d ds id nz dd) e) n
held_next part.Point r t b (m, w, iw, e) n = digit_held t b part.Fraction r (λ d. (m, w, b, [], iw, (d, tt), more t (w ++ (46 ∷ [])) m b e ∙ ap (λ s. minus_text m ++ s) (append_assoc w (46 ∷ []) (b ∷ [])))) n
held_next part.Fraction r t b (m, w, d, ds, iw, dd, e) n = digit_or t b part.Fraction r (by_exponent b) (λ k. (m, w, d, ds ++ (b ∷ []), iw, digits_more (d ∷ ds) b dd k, more t (w ++ (46 ∷ (d ∷ ds))) m b e ∙ ap (λ s. minus_text m ++ s) (append_assoc w (46 ∷ (d ∷ ds)) (b ∷ [])))) (by_exponent_held t w (d ∷ ds) m b r iw dd e) n
held_next part.Exponent r t b (m, w, f, e, iw, df, i, s) n = elim (chosen (nat_eq b 43 || nat_eq b 45) (Some part.Sign) (by_digit b part.Power None) (Some r) n) [
  | inl k ↦ held_is part.Sign r (t ++ (b ∷ [])) k.1 (m, w, f, e, b, iw, df, i, sign_is b k.0, in_tail t w f (e ∷ []) m b s)
  | inr k ↦ digit_held t b part.Power r (λ d. power_begins t w f m false b (e ∷ (b ∷ [])) iw df d (e, i, inl refl) (in_tail t w f (e ∷ []) m b s)) k.1
]
held_next part.Sign r t b (m, w, f, e, s, iw, df, i, inl p, h) n = digit_held t b part.Power r (λ d. power_begins t w f m false b (e ∷ (43 ∷ (b ∷ []))) iw df d (e, i, inr refl) (in_tail t w f (e ∷ (s ∷ [])) m b h ∙ ap (λ c. minus_text m ++ (w ++ (fraction_text f ++ (e ∷ (c ∷ (b ∷ [])))))) p)) n
held_next part.Sign r t b (m, w, f, e, s, iw, df, i, inr p, h) n = digit_held t b part.Power r (λ d. power_begins t w f m true b (e ∷ (45 ∷ (b ∷ []))) iw df d (e, i, refl) (in_tail t w f (e ∷ (s ∷ [])) m b h ∙ ap (λ c. minus_text m ++ (w ++ (fraction_text f ++ (e ∷ (c ∷ (b ∷ [])))))) p)) n
held_next part.Power r t b (m, w, f, down, d, ds, x, iw, df, dd, p, h) n = digit_held t b part.Power r (λ k. (m, w, f, down, d, ds ++ (b ∷ []), x ++ (b ∷ []), iw, df, digits_more (d ∷ ds) b dd k, power_more down d ds x b p, in_tail t w f x m b h)) n

digit_first : (b : ℕ) → begins_number b ≡ true → nat_eq b 45 ≡ false → is_digit b ≡ true
digit_first b h n = grind (arith, nat_tests)

first_when : (p q : Bool) (b : ℕ) → nat_eq b 45 ≡ p → nat_eq b 48 ≡ q → begins_number b ≡ true → Held (first_part b) (b ∷ [])
first_when true q b e f g = subst (λ c. Held (first_part c) (c ∷ [])) (sym (minus_is b e)) refl
first_when false true b e f g = subst (λ c. Held (first_part c) (c ∷ [])) (sym (zero_is b f)) (false, refl)
first_when false false b e f g =
    let whole : part.Whole ≡ first_part b = rw (e, f) refl in
    subst (λ q. Held q (b ∷ [])) whole (false, b, [], digit_first b g e, f, tt, refl)

held_first : (b : ℕ) → begins_number b ≡ true → Held (first_part b) (b ∷ [])
held_first b g = first_when (nat_eq b 45) (nat_eq b 48) b refl refl g

held_run : (q r : NumberPart) (t bs : List ℕ) → Held q t → run_parts (Some q) bs ≡ Some r → Held r (t ++ bs)
held_run q r t [] h e = subst (λ s. Held r s) (sym (append-nil t)) (held_is q r t e h)
held_run q r t (b ∷ bs) h e =
    let f = runs_first (part_next q b) bs r e in
    subst (λ s. Held r s) (append_assoc t (b ∷ []) bs) (held_run f.0 r (t ++ (b ∷ [])) bs (held_next q f.0 t b h f.1) (sym (ap (λ o. run_parts o bs) f.1) ∙ e))

-- bytes go through the parts up to one
abbrev pub RunsTo : NumberPart → List ℕ → Type 0
RunsTo q [] = ⊥
RunsTo q (b ∷ bs) = (begins_number b ≡ true) × (run_parts (Some (first_part b)) bs ≡ Some q)

pub runs_held : (q : NumberPart) (t : List ℕ) → RunsTo q t → Held q t
runs_held q [] h = elim h [ ]
runs_held q (b ∷ bs) h = held_run (first_part b) q (b ∷ []) bs (held_first b h.0) h.1

abbrev spelled_as : Bool → List ℕ → List ℕ → Bool → List ℕ → Parts
spelled_as m w f down p = record { minus = m; whole = w; fraction = f; down = down; power = p }

no_tail : (m : Bool) (w : List ℕ) → minus_text m ++ w ≡ minus_text m ++ (w ++ [])
no_tail m w = ap (λ s. minus_text m ++ s) (sym (append-nil w))

-- where they may end they are a number text
pub held_spelled : (q : NumberPart) (t : List ℕ) → completes q ≡ true → Held q t → (p : Parts) × IsSpelled t p
held_spelled part.Zero t c (m, e) = (spelled_as m (48 ∷ []) [] false [], record { whole = zero_whole; fraction = tt; power = tt; exponent = []; exponent_is = (refl, refl); joined = e })
held_spelled part.Whole t c (m, d, ds, id, nz, dd, e) = (spelled_as m (d ∷ ds) [] false [], record { whole = digits_whole d ds id nz dd; fraction = tt; power = tt; exponent = []; exponent_is = (refl, refl); joined = e ∙ no_tail m (d ∷ ds) })
held_spelled part.Fraction t c (m, w, d, ds, iw, dd, e) = (spelled_as m w (d ∷ ds) false [], record { whole = iw; fraction = dd; power = tt; exponent = []; exponent_is = (refl, refl); joined = e ∙ ap (λ s. minus_text m ++ (w ++ s)) (sym (append-nil (46 ∷ (d ∷ ds)))) })
held_spelled part.Power t c (m, w, f, down, d, ds, x, iw, df, dd, p, e) = (spelled_as m w f down (d ∷ ds), record { whole = iw; fraction = df; power = dd; exponent = x; exponent_is = p; joined = e })
held_spelled part.Minus t c h = absurd (cc)
held_spelled part.Point t c h = absurd (cc)
held_spelled part.Exponent t c h = absurd (cc)
held_spelled part.Sign t c h = absurd (cc)

-- they go on to one in any case, if need be by a zero
abbrev Spells : List ℕ → Type 0
Spells t = (ds : List ℕ) × (p : Parts) × IsSpelled (t ++ ds) p

ready : (q : NumberPart) (t : List ℕ) → completes q ≡ true → Held q t → Spells t
ready q t c h = let s = held_spelled q (t ++ []) c (subst (λ s. Held q s) (sym (append-nil t)) h) in ([], s.0, s.1)

with_zero : (q r : NumberPart) (t : List ℕ) → part_next q 48 ≡ Some r → completes r ≡ true → Held q t → Spells t
with_zero q r t n c h = let s = held_spelled r (t ++ (48 ∷ [])) c (held_next q r t 48 h n) in (48 ∷ [], s.0, s.1)

pub held_spells : (q : NumberPart) (t : List ℕ) → Held q t → Spells t
held_spells part.Minus t h = with_zero part.Minus part.Zero t refl refl h
held_spells part.Zero t h = ready part.Zero t refl h
held_spells part.Whole t h = ready part.Whole t refl h
held_spells part.Point t h = with_zero part.Point part.Fraction t refl refl h
held_spells part.Fraction t h = ready part.Fraction t refl h
held_spells part.Exponent t h = with_zero part.Exponent part.Power t refl refl h
held_spells part.Sign t h = with_zero part.Sign part.Power t refl refl h
held_spells part.Power t h = ready part.Power t refl h

-- and each number text stands for some number
not_nil : (b : ℕ) (bs : List ℕ) → b ∷ bs ≡ [] → ⊥
not_nil b bs e = cc

stands_when : (p : Parts) (f e : List ℕ) → p.fraction ≡ f → p.power ≡ e → (k : Kind) × StandsFor p k
stands_when p [] [] g h = (kind.Whole (signed p.minus (number p.whole)), (g, h, refl))
stands_when p (b ∷ f) e g h = (kind.Fraction (decimal_of p), (λ x y. not_nil b f (sym g ∙ x), decimal_is (nat_eq (number (p.whole ++ p.fraction)) 0) p refl))
stands_when p [] (b ∷ e) g h = (kind.Fraction (decimal_of p), (λ x y. not_nil b e (sym h ∙ y), decimal_is (nat_eq (number (p.whole ++ p.fraction)) 0) p refl))

pub stands : (p : Parts) → (k : Kind) × StandsFor p k
stands p = stands_when p p.fraction p.power refl refl
