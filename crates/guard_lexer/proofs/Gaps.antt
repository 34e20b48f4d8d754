-- White space and comments in front of bytes: how far they go, and that they go no other way.
use Rattle.std.proofs.Common.{◌≡◌, ℕ, suc, Bool, true, false, not, List, [], ◌∷◌, ◌++◌, length, refl, sym, ap, ◌∙◌, subst, arith, inl, inr, ◌||◌}
use Rattle.std.specs.Prelude.{◌==◌}
use Rattle.std.proofs.lemmas.Bool.Decides.{nat_tests}
use Rattle.guard_lexer.specs.Bytes.{is_white}
use Rattle.guard_lexer.specs.Lexes.{IsGap, IsComment}
use Rattle.guard_lexer.specs.code.Reach.{is_blank, goes, into, gap_reach}
use Rattle.guard_lexer.proofs.Lists.{tested, same_byte, other_byte, is_byte, not_byte, on_true, on_false}

abbrev pub IsSolid : List ℕ → Type 0
IsSolid [] = Unit {0}
IsSolid (b ∷ bs) = is_blank b ≡ false

abbrev IsIn : Bool → List ℕ → List ℕ → Type 0
IsIn true rest gap = IsComment rest gap
IsIn false rest gap = IsGap rest gap

pub record GapForm (inside : Bool) (bs : List ℕ) : Type 0 where
  pub gap : List ℕ
  pub rest : List ℕ
  pub joined : bs ≡ gap ++ rest
  pub is : IsIn inside rest gap
  pub solid : IsSolid rest
  pub size : length gap ≡ gap_reach inside bs

one_more : (inside next : Bool) (b : ℕ) (bs : List ℕ) (g : GapForm next bs) → IsIn inside g.rest (b ∷ g.gap) → goes inside b ≡ true → into inside b ≡ next → GapForm inside (b ∷ bs)
one_more inside next b bs g is e f = record {
  gap = b ∷ g.gap;
  rest = g.rest;
  joined = ap (λ x. b ∷ x) g.joined;
  is = is;
  solid = g.solid;
  size = ap suc (g.size ∙ ap (λ v. gap_reach v bs) (sym f)) ∙ sym (on_true (goes inside b) (suc (gap_reach (into inside b) bs)) 0 e);
}

hash_blank : (b : ℕ) → is_white b ≡ false → is_blank b ≡ true → b ≡ 35
hash_blank b e h = same_byte b 35 (sym (ap (λ q. q || (b == 35)) e) ∙ h)

white_blank : (b : ℕ) → is_white b ≡ true → is_blank b ≡ true
white_blank b e = ap (λ q. q || (b == 35)) e

white_into : (b : ℕ) → is_white b ≡ true → (b == 35) ≡ false
white_into b e = grind (arith, nat_tests)

pub gap_form : (inside : Bool) (bs : List ℕ) → GapForm inside bs
gap_form true [] = record { gap = []; rest = []; joined = refl; is = refl; solid = tt; size = refl }
gap_form false [] = record { gap = []; rest = []; joined = refl; is = tt; solid = tt; size = refl }
gap_form true (b ∷ bs) = elim (tested (b == 10)) [
  | inl e ↦ let g = gap_form false bs in one_more true false b bs g (inl (same_byte b 10 e, g.is)) refl (ap not e)
  | inr e ↦ let g = gap_form true bs in one_more true true b bs g (inr (other_byte b 10 e, g.is)) refl (ap not e)
]
gap_form false (b ∷ bs) = elim (tested (is_white b)) [
  | inl e ↦ let g = gap_form false bs in one_more false false b bs g (inl (e, g.is)) (white_blank b e) (white_into b e)
  | inr e ↦ elim (tested (is_blank b)) [
    | inl h ↦ let g = gap_form true bs in one_more false true b bs g (inr (hash_blank b e h, g.is)) h (is_byte b 35 (hash_blank b e h))
    | inr h ↦ record { gap = []; rest = b ∷ bs; joined = refl; is = tt; solid = h; size = sym (on_false (is_blank b) (suc (gap_reach (b == 35) bs)) 0 h) }
  ]
]

none_solid : (rest : List ℕ) → IsSolid rest → gap_reach false rest ≡ 0
none_solid [] s = refl
none_solid (b ∷ rest) s = on_false (is_blank b) (suc (gap_reach (b == 35) rest)) 0 s

one_less : (inside next : Bool) (b : ℕ) (gap rest : List ℕ) → goes inside b ≡ true → into inside b ≡ next → gap_reach next (gap ++ rest) ≡ length gap → gap_reach inside (b ∷ (gap ++ rest)) ≡ suc (length gap)
one_less inside next b gap rest e f h = on_true (goes inside b) (suc (gap_reach (into inside b) (gap ++ rest))) 0 e ∙ ap suc (ap (λ v. gap_reach v (gap ++ rest)) f ∙ h)

pub gap_is : (inside : Bool) (gap rest : List ℕ) → IsIn inside rest gap → IsSolid rest → gap_reach inside (gap ++ rest) ≡ length gap
gap_is true [] rest h s = subst (λ r. gap_reach true r ≡ 0) (sym h) refl
gap_is false [] rest h s = none_solid rest s
gap_is true (b ∷ gap) rest (inl (e, h)) s = one_less true false b gap rest refl (ap not (is_byte b 10 e)) (gap_is false gap rest h s)
gap_is true (b ∷ gap) rest (inr (e, h)) s = one_less true true b gap rest refl (ap not (not_byte b 10 e)) (gap_is true gap rest h s)
gap_is false (b ∷ gap) rest (inl (e, h)) s = one_less false false b gap rest (white_blank b e) (white_into b e) (gap_is false gap rest h s)
gap_is false (b ∷ gap) rest (inr (e, h)) s = one_less false true b gap rest (ap is_blank e) (is_byte b 35 e) (gap_is true gap rest h s)
