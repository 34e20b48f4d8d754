-- Each number text goes through the parts of numbers, byte by byte.
use Rattle.std.proofs.Common.{◌≡◌, ℕ, ◌⊎◌, Bool, true, false, List, [], ◌∷◌, ◌++◌, refl, sym, ap, inl, inr, ◌∙◌, subst, arith, Option, Some, None, cond}
use Rattle.std.specs.Prelude.{nat_eq, ◌||◌}
use Rattle.std.proofs.lemmas.Bool.Decides.{nat_tests}
use Rattle.decimals.specs.Number.{is_digit, AreDigits, Parts, minus_text, IsWholePart, fraction_text, IsPowerText, IsSpelled}
use Rattle.json_reader.specs.declared.number.NumberPart.{NumberPart}
use Rattle.json_reader.specs.declared.number.NumberPart.TheVariants as part
use Rattle.json_reader.specs.code.Numbers.{first_part, by_digit, by_point, by_exponent, part_next, part_then, completes, run_parts}
use Rattle.json_reader.specs.Json.{Each}
use Rattle.json_reader.specs.code.Reading.{is_number_byte}
use Rattle.json_reader.proofs.Front.{either}
use Rattle.json_reader.proofs.Spellings.{chosen}

-- bytes whose first begins a part behind which the others go on, to a part behind which a number text may end
abbrev pub Runs : List ℕ → Type 0
Runs [] = Unit {0}
Runs (b ∷ bs) = (r : NumberPart) × (run_parts (Some (first_part b)) bs ≡ Some r) × (completes r ≡ true)

pub run_none : (bs : List ℕ) → run_parts None bs ≡ None
run_none [] = refl
run_none (b ∷ bs) = run_none bs

none_some : (r : NumberPart) → ◌≡◌ {A = Option NumberPart} None (Some r) → ⊥
none_some r e = cc

pub runs_first : (o : Option NumberPart) (bs : List ℕ) (r : NumberPart) → run_parts o bs ≡ Some r → (q : NumberPart) × (o ≡ Some q)
runs_first None bs r e = absurd (none_some r (sym (run_none bs) ∙ e))
runs_first (Some q) bs r e = (q, refl)

pub part_or : (o : Option NumberPart) → ((q : NumberPart) × (o ≡ Some q)) ⊎ (o ≡ None)
part_or None = inr refl
part_or (Some q) = inl (q, refl)

none_byte : (b : ℕ) (r : NumberPart) → ◌≡◌ {A = Option NumberPart} None (Some r) → is_number_byte b ≡ true
none_byte b r e = absurd (none_some r e)

digit_byte : (b : ℕ) → is_digit b ≡ true → is_number_byte b ≡ true
digit_byte b h = grind (arith, nat_tests)

zero_byte : (b : ℕ) → nat_eq b 48 ≡ true → is_number_byte b ≡ true
zero_byte b h = grind (arith, nat_tests)

exponent_byte : (b : ℕ) → (nat_eq b 101 || nat_eq b 69) ≡ true → is_number_byte b ≡ true
exponent_byte b h = grind (arith, nat_tests)

sign_byte : (b : ℕ) → (nat_eq b 43 || nat_eq b 45) ≡ true → is_number_byte b ≡ true
sign_byte b h = grind (arith, nat_tests)

point_byte : (b : ℕ) → nat_eq b 46 ≡ true → is_number_byte b ≡ true
point_byte b h = grind (arith, nat_tests)

by_digit_byte : (b : ℕ) (q r : NumberPart) (o : Option NumberPart) → (o ≡ Some r → is_number_byte b ≡ true) → by_digit b q o ≡ Some r → is_number_byte b ≡ true
by_digit_byte b q r o h e = elim (chosen (is_digit b) (Some q) o (Some r) e) [ inl k ↦ digit_byte b k.0 | inr k ↦ h k.1 ]

by_exponent_byte : (b : ℕ) (r : NumberPart) → by_exponent b ≡ Some r → is_number_byte b ≡ true
by_exponent_byte b r e = elim (chosen (nat_eq b 101 || nat_eq b 69) (Some part.Exponent) None (Some r) e) [ inl k ↦ exponent_byte b k.0 | inr k ↦ none_byte b r k.1 ]

by_point_byte : (b : ℕ) (r : NumberPart) → by_point b ≡ Some r → is_number_byte b ≡ true
by_point_byte b r e = elim (chosen (nat_eq b 46) (Some part.Point) (by_exponent b) (Some r) e) [ inl k ↦ point_byte b k.0 | inr k ↦ by_exponent_byte b r k.1 ]

-- what goes on with a number text is a byte of number texts
pub part_byte : (q : NumberPart) (b : ℕ) (r : NumberPart) → part_next q b ≡ Some r → is_number_byte b ≡ true
part_byte part.Minus b r e = elim (chosen (nat_eq b 48) (Some part.Zero) (by_digit b part.Whole None) (Some r) e) [ inl k ↦ zero_byte b k.0 | inr k ↦ by_digit_byte b part.Whole r None (none_byte b r) k.1 ]
part_byte part.Zero b r e = by_point_byte b r e
part_byte part.Whole b r e = by_digit_byte b part.Whole r (by_point b) (by_point_byte b r) e
part_byte part.Point b r e = by_digit_byte b part.Fraction r None (none_byte b r) e
part_byte part.Fraction b r e = by_digit_byte b part.Fraction r (by_exponent b) (by_exponent_byte b r) e
part_byte part.Exponent b r e = elim (chosen (nat_eq b 43 || nat_eq b 45) (Some part.Sign) (by_digit b part.Power None) (Some r) e) [ inl k ↦ sign_byte b k.0 | inr k ↦ by_digit_byte b part.Power r None (none_byte b r) k.1 ]
part_byte part.Sign b r e = by_digit_byte b part.Power r None (none_byte b r) e
part_byte part.Power b r e = by_digit_byte b part.Power r None (none_byte b r) e

pub runs_bytes : (bs : List ℕ) (q r : NumberPart) → run_parts (Some q) bs ≡ Some r → Each is_number_byte bs
runs_bytes [] q r e = tt
runs_bytes (b ∷ bs) q r e = let f = runs_first (part_next q b) bs r e in (part_byte q b f.0 f.1, runs_bytes bs f.0 r (sym (ap (λ o. run_parts o bs) f.1) ∙ e))

pub run_append : (o : Option NumberPart) (a b : List ℕ) → run_parts o (a ++ b) ≡ run_parts (run_parts o a) b
run_append o [] b = refl
run_append o (x ∷ a) b = run_append (part_then o x) a b

pub run_one : (o : Option NumberPart) (a : List ℕ) (b : ℕ) → run_parts o (a ++ (b ∷ [])) ≡ part_then (run_parts o a) b
run_one o a b = run_append o a (b ∷ [])

digits_run : (q : NumberPart) (ds : List ℕ) → ((b : ℕ) → is_digit b ≡ true → part_next q b ≡ Some q) → AreDigits ds → run_parts (Some q) ds ≡ Some q
digits_run q [] h e = refl
digits_run q (b ∷ ds) h e = ap (λ o. run_parts o ds) (h b e.0) ∙ digits_run q ds h e.1

whole_digit : (b : ℕ) → is_digit b ≡ true → part_next part.Whole b ≡ Some part.Whole
whole_digit b h = ap (λ q. cond q (Some part.Whole) (by_point b)) h

fraction_digit : (b : ℕ) → is_digit b ≡ true → part_next part.Fraction b ≡ Some part.Fraction
fraction_digit b h = ap (λ q. cond q (Some part.Fraction) (by_exponent b)) h

power_digit : (b : ℕ) → is_digit b ≡ true → part_next part.Power b ≡ Some part.Power
power_digit b h = ap (λ q. cond q (Some part.Power) None) h

abbrev IsInt : NumberPart → Type 0
IsInt part.Zero = Unit {0}
IsInt part.Whole = Unit {0}
IsInt _ = ⊥

abbrev IsEnd : NumberPart → Type 0
IsEnd part.Zero = Unit {0}
IsEnd part.Whole = Unit {0}
IsEnd part.Fraction = Unit {0}
IsEnd _ = ⊥

pub zero_is : (b : ℕ) → nat_eq b 48 ≡ true → b ≡ 48
zero_is b h = grind (arith, nat_tests)

int_run : (ds : List ℕ) → IsWholePart ds → (r : NumberPart) × IsInt r × (run_parts (Some part.Minus) ds ≡ Some r)
int_run [] w = elim w [ ]
int_run (b ∷ bs) w = elim (either (nat_eq b 48)) [
  | inl e ↦ (part.Zero, tt, ap (λ x. run_parts (part_next part.Minus b) x) (w.2 (zero_is b e)) ∙ ap (λ q. cond q (Some part.Zero) (by_digit b part.Whole None)) e)
  | inr e ↦ (part.Whole, tt, ap (λ o. run_parts o bs) (ap (λ q. cond q (Some part.Zero) (by_digit b part.Whole None)) e ∙ ap (λ q. cond q (Some part.Whole) None) w.0) ∙ digits_run part.Whole bs whole_digit w.1)
]

int_end : (r : NumberPart) → IsInt r → IsEnd r
int_end part.Zero i = tt
int_end part.Whole i = tt
int_end _ i = elim i [ ]

point_next : (r : NumberPart) → IsInt r → part_next r 46 ≡ Some part.Point
point_next part.Zero i = refl
point_next part.Whole i = refl
point_next _ i = elim i [ ]

fraction_run : (r : NumberPart) (ds : List ℕ) → IsInt r → AreDigits ds → (s : NumberPart) × IsEnd s × (run_parts (Some r) (fraction_text ds) ≡ Some s)
fraction_run r [] i e = (r, int_end r i, refl)
fraction_run r (b ∷ ds) i e = (part.Fraction, tt, ap (λ o. run_parts o (b ∷ ds)) (point_next r i) ∙ ap (λ q. run_parts (cond q (Some part.Fraction) None) ds) e.0 ∙ digits_run part.Fraction ds fraction_digit e.1)

mark_next : (r : NumberPart) (e : ℕ) → IsEnd r → (e ≡ 101) ⊎ (e ≡ 69) → part_next r e ≡ Some part.Exponent
mark_next part.Zero e i (inl h) = ap (part_next part.Zero) h
mark_next part.Zero e i (inr h) = ap (part_next part.Zero) h
mark_next part.Whole e i (inl h) = ap (part_next part.Whole) h
mark_next part.Whole e i (inr h) = ap (part_next part.Whole) h
mark_next part.Fraction e i (inl h) = ap (part_next part.Fraction) h
mark_next part.Fraction e i (inr h) = ap (part_next part.Fraction) h
mark_next _ e i h = elim i [ ]

no_sign : (b : ℕ) → is_digit b ≡ true → (nat_eq b 43 || nat_eq b 45) ≡ false
no_sign b h = grind (arith, nat_tests)

sign_run : (b : ℕ) (ds : List ℕ) → AreDigits (b ∷ ds) → run_parts (Some part.Sign) (b ∷ ds) ≡ Some part.Power
sign_run b ds h = ap (λ q. run_parts (cond q (Some part.Power) None) ds) h.0 ∙ digits_run part.Power ds power_digit h.1

bare_run : (b : ℕ) (ds : List ℕ) → AreDigits (b ∷ ds) → run_parts (Some part.Exponent) (b ∷ ds) ≡ Some part.Power
bare_run b ds h = ap (λ q. run_parts (cond q (Some part.Sign) (by_digit b part.Power None)) ds) (no_sign b h.0) ∙ sign_run b ds h

end_completes : (r : NumberPart) → IsEnd r → completes r ≡ true
end_completes part.Zero i = refl
end_completes part.Whole i = refl
end_completes part.Fraction i = refl
end_completes _ i = elim i [ ]

power_run : (r : NumberPart) (down : Bool) (ds text : List ℕ) → IsEnd r → AreDigits ds → IsPowerText down ds text → (s : NumberPart) × (run_parts (Some r) text ≡ Some s) × (completes s ≡ true)
power_run r down [] text i h p = (r, ap (λ x. run_parts (Some r) x) p.1, end_completes r i)
power_run r true (b ∷ ds) text i h (e, m, t) = (part.Power, ap (λ x. run_parts (Some r) x) t ∙ ap (λ o. run_parts o (45 ∷ (b ∷ ds))) (mark_next r e i m) ∙ sign_run b ds h, refl)
power_run r false (b ∷ ds) text i h (e, m, inl t) = (part.Power, ap (λ x. run_parts (Some r) x) t ∙ ap (λ o. run_parts o (b ∷ ds)) (mark_next r e i m) ∙ bare_run b ds h, refl)
power_run r false (b ∷ ds) text i h (e, m, inr t) = (part.Power, ap (λ x. run_parts (Some r) x) t ∙ ap (λ o. run_parts o (43 ∷ (b ∷ ds))) (mark_next r e i m) ∙ sign_run b ds h, refl)

tail_run : (whole fraction : List ℕ) (down : Bool) (power ex : List ℕ) → IsWholePart whole → AreDigits fraction → AreDigits power → IsPowerText down power ex → (r : NumberPart) × (run_parts (Some part.Minus) (whole ++ (fraction_text fraction ++ ex)) ≡ Some r) × (completes r ≡ true)
tail_run whole fraction down power ex w f p t =
    let i = int_run whole w in
    let g = fraction_run i.0 fraction i.1 f in
    let h = power_run g.0 down power ex g.1 p t in
    (h.0, run_append (Some part.Minus) whole (fraction_text fraction ++ ex) ∙ ap (λ o. run_parts o (fraction_text fraction ++ ex)) i.2 ∙ run_append (Some i.0) (fraction_text fraction) ex ∙ ap (λ o. run_parts o ex) g.2 ∙ h.1, h.2)

no_minus : (b : ℕ) → is_digit b ≡ true → nat_eq b 45 ≡ false
no_minus b h = grind (arith, nat_tests)

first_when : (p q d : Bool) → p ≡ false → d ≡ true → Some (cond p part.Minus (cond q part.Zero part.Whole)) ≡ cond q (Some part.Zero) (cond d (Some part.Whole) None)
first_when true q d e f = absurd (cc)
first_when false true d e f = refl
first_when false false true e f = refl
first_when false false false e f = absurd (cc)

runs_so : (m : Bool) (ds r : List ℕ) → IsWholePart ds → (x : NumberPart) × (run_parts (Some part.Minus) (ds ++ r) ≡ Some x) × (completes x ≡ true) → Runs (minus_text m ++ (ds ++ r))
runs_so true ds r w x = x
runs_so false [] r w x = elim w [ ]
runs_so false (b ∷ ds) r w x = (x.0, ap (λ o. run_parts o (ds ++ r)) (first_when (nat_eq b 45) (nat_eq b 48) (is_digit b) (no_minus b w.0) w.0) ∙ x.1, x.2)

pub spelled_runs : (bytes : List ℕ) (p : Parts) → IsSpelled bytes p → Runs bytes
spelled_runs bytes p s = subst Runs (sym s.joined) (runs_so p.minus p.whole (fraction_text p.fraction ++ s.exponent) s.whole (tail_run p.whole p.fraction p.down p.power s.exponent s.whole s.fraction s.power s.exponent_is))
