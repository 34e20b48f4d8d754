-- A scalar that stands in a text with a carriage return and a line feed at its end keeps its dot in longer texts where it goes on, and is a text there. By induction over lines.
use Rattle.std.proofs.Common.{◌≡◌, ℕ, zero, suc, ◌+◌, ◌<◌, ◌≤◌, inl, inr, Bool, true, false, ◌||◌, ◌&&◌, ◌⊎◌, not, cond, nat_eq, arith, List, [], ◌∷◌, ◌++◌, drop, length, refl, sym, ap, ◌∙◌, subst, true≢false, append_assoc}
use Rattle.std.proofs.lemmas.Bool.{lt-ltb, ltb-true}
use Rattle.std.proofs.lemmas.Bool.Decides.{nat_tests}
use Rattle.std.specs.List.{position_or_len}
use Rattle.doc_values.specs.declared.kind.Kind.TheVariants as kind
use Rattle.decimals.specs.declared.decimal.Num.{Num}
use Rattle.decimals.specs.Number.{is_digit, AreDigits, minus_text, IsWholePart, fraction_text, IsPowerText, IsNumber}
use Rattle.yaml_scalars.specs.declared.scalar.Setting.{Setting}
use Rattle.yaml_scalars.specs.declared.plain_line.Why.{Why}
use Rattle.yaml_scalars.specs.declared.plain_line.Why.TheVariants.{Break, Return, Colon, Comment, Mark}
use Rattle.yaml_scalars.specs.declared.plain_line.Below.{Below}
use Rattle.yaml_scalars.specs.declared.plain_line.Below.TheVariants.{Blank, Outside, Further}
use Rattle.yaml_scalars.specs.Lines.{Line, Outcome, Stands, Fails, is_mark, is_cut_mark, newlines, fold}
use Rattle.yaml_scalars.specs.Plain.{plain_len, content, content_end, reason, below, joined, ends_on, joins, further, first, more, begins_plain, wrong_begin, plain_on}
use Rattle.yaml_scalars.specs.Kinds.{IsTrueWord, IsFalseWord, IsNullWord, IsSignedNumber}
use Rattle.yaml_scalars.specs.Scalar.{HasKind}
use Rattle.yaml_laws.proofs.Longer.{glue, joint, feed_of}
use Rattle.yaml_grammar.specs.Nodes.{is_dot, is_cut}

-- ---- a text with a space, a newline or a colon is no number and no word

abbrev pub has_gap : List ℕ → Bool
has_gap [] = false
has_gap (b ∷ bs) = (nat_eq b 32 || (nat_eq b 10 || nat_eq b 58)) || has_gap bs

gap_append : (x y : List ℕ) → has_gap x ≡ false → has_gap y ≡ false → has_gap (x ++ y) ≡ false
gap_append [] y g h = h
gap_append (b ∷ x) y g h = by_byte (nat_eq b 32 || (nat_eq b 10 || nat_eq b 58)) g (λ k. gap_append x y k h) where
  by_byte : (q : Bool) → (q || has_gap x) ≡ false → (has_gap x ≡ false → has_gap (x ++ y) ≡ false) → (q || has_gap (x ++ y)) ≡ false
  by_byte true k n = absurd (true≢false k)
  by_byte false k n = n k

pub gap_behind : (x y : List ℕ) → has_gap y ≡ true → has_gap (x ++ y) ≡ true
gap_behind [] y h = h
gap_behind (b ∷ x) y h = by_byte (nat_eq b 32 || (nat_eq b 10 || nat_eq b 58)) (gap_behind x y h) where
  by_byte : (q : Bool) → has_gap (x ++ y) ≡ true → (q || has_gap (x ++ y)) ≡ true
  by_byte true k = refl
  by_byte false k = k

pub gap_front : (x y : List ℕ) → has_gap x ≡ true → has_gap (x ++ y) ≡ true
gap_front [] y h = absurd (true≢false (sym h))
gap_front (b ∷ x) y h = by_byte (nat_eq b 32 || (nat_eq b 10 || nat_eq b 58)) h (λ k. gap_front x y k) where
  by_byte : (q : Bool) → (q || has_gap x) ≡ true → (has_gap x ≡ true → has_gap (x ++ y) ≡ true) → (q || has_gap (x ++ y)) ≡ true
  by_byte true k n = refl
  by_byte false k n = n k

no_gap : (b : ℕ) (y : List ℕ) → (nat_eq b 32 || (nat_eq b 10 || nat_eq b 58)) ≡ false → has_gap y ≡ false → has_gap (b ∷ y) ≡ false
no_gap b y g h = ap (λ q. q || has_gap y) g ∙ h

byte_not : (b n : ℕ) → (b ≡ n → ⊥) → nat_eq b n ≡ false
byte_not b n h = by_test (nat_eq b n) refl where
  by_test : (q : Bool) → nat_eq b n ≡ q → nat_eq b n ≡ false
  by_test true e = absurd (h (let z : b ≡ n = grind (arith, nat_tests, e) in z))
  by_test false e = e

digit_gap : (b : ℕ) → is_digit b ≡ true → (nat_eq b 32 || (nat_eq b 10 || nat_eq b 58)) ≡ false
digit_gap b h =
    let low : 48 ≤ b = grind (arith, nat_tests, h) in
    let high : b ≤ 57 = grind (arith, nat_tests, h) in
    ap (λ q. q || (nat_eq b 10 || nat_eq b 58)) (byte_not b 32 (λ e. absurd (omega (arith, e, low)))) ∙ ap (λ q. q || nat_eq b 58) (byte_not b 10 (λ e. absurd (omega (arith, e, low)))) ∙ byte_not b 58 (λ e. absurd (omega (arith, e, high)))

digits_gap : (ds : List ℕ) → AreDigits ds → has_gap ds ≡ false
digits_gap [] h = refl
digits_gap (b ∷ ds) h = no_gap b ds (digit_gap b h.0) (digits_gap ds h.1)

whole_gap : (ds : List ℕ) → IsWholePart ds → has_gap ds ≡ false
whole_gap [] h = refl
whole_gap (b ∷ ds) h = no_gap b ds (digit_gap b h.0) (digits_gap ds h.1)

fraction_gap : (ds : List ℕ) → AreDigits ds → has_gap (fraction_text ds) ≡ false
fraction_gap [] h = refl
fraction_gap (b ∷ ds) h = no_gap 46 (b ∷ ds) refl (digits_gap (b ∷ ds) h)

letter_gap : (e x : ℕ) (y : List ℕ) → e ≡ x → (nat_eq x 32 || (nat_eq x 10 || nat_eq x 58)) ≡ false → has_gap y ≡ false → has_gap (e ∷ y) ≡ false
letter_gap e x y i n h = no_gap e y (ap (λ k. nat_eq k 32 || (nat_eq k 10 || nat_eq k 58)) i ∙ n) h

power_gap : (down : Bool) (ds text : List ℕ) → AreDigits ds → IsPowerText down ds text → has_gap text ≡ false
power_gap true [] text a (d, e) = ap has_gap e
power_gap false [] text a (d, e) = ap has_gap e
power_gap true (b ∷ ds) text a (x, inl i, e) = ap has_gap e ∙ letter_gap x 101 (45 ∷ (b ∷ ds)) i refl (no_gap 45 (b ∷ ds) refl (digits_gap (b ∷ ds) a))
power_gap true (b ∷ ds) text a (x, inr i, e) = ap has_gap e ∙ letter_gap x 69 (45 ∷ (b ∷ ds)) i refl (no_gap 45 (b ∷ ds) refl (digits_gap (b ∷ ds) a))
power_gap false (b ∷ ds) text a (x, inl i, inl e) = ap has_gap e ∙ letter_gap x 101 (b ∷ ds) i refl (digits_gap (b ∷ ds) a)
power_gap false (b ∷ ds) text a (x, inl i, inr e) = ap has_gap e ∙ letter_gap x 101 (43 ∷ (b ∷ ds)) i refl (no_gap 43 (b ∷ ds) refl (digits_gap (b ∷ ds) a))
power_gap false (b ∷ ds) text a (x, inr i, inl e) = ap has_gap e ∙ letter_gap x 69 (b ∷ ds) i refl (digits_gap (b ∷ ds) a)
power_gap false (b ∷ ds) text a (x, inr i, inr e) = ap has_gap e ∙ letter_gap x 69 (43 ∷ (b ∷ ds)) i refl (no_gap 43 (b ∷ ds) refl (digits_gap (b ∷ ds) a))

minus_gap : (m : Bool) → has_gap (minus_text m) ≡ false
minus_gap true = refl
minus_gap false = refl

number_gap : (t : List ℕ) (n : Num) → IsNumber t n → has_gap t ≡ false
number_gap t n h =
    let s = h.spelled in
    let p = h.parts in
    ap has_gap s.joined
    ∙ gap_append (minus_text p.minus) (p.whole ++ (fraction_text p.fraction ++ s.exponent)) (minus_gap p.minus)
    (gap_append p.whole (fraction_text p.fraction ++ s.exponent) (whole_gap p.whole s.whole) (gap_append (fraction_text p.fraction) s.exponent (fraction_gap p.fraction s.fraction) (power_gap p.down p.power s.exponent s.power s.exponent_is)))

signed_gap : (t : List ℕ) (n : Num) → IsSignedNumber t n → has_gap t ≡ false
signed_gap t n (inl h) = number_gap t n h
signed_gap t n (inr (rest, e, m, h)) = ap has_gap e ∙ no_gap 43 rest refl (number_gap rest n h)

null_gap : (t : List ℕ) → IsNullWord t → has_gap t ≡ false
null_gap t (inl e) = ap has_gap e
null_gap t (inr (inl e)) = ap has_gap e
null_gap t (inr (inr (inl e))) = ap has_gap e
null_gap t (inr (inr (inr (inl e)))) = ap has_gap e
null_gap t (inr (inr (inr (inr e)))) = ap has_gap e

true_gap : (t : List ℕ) → IsTrueWord t → has_gap t ≡ false
true_gap t (inl e) = ap has_gap e
true_gap t (inr (inl e)) = ap has_gap e
true_gap t (inr (inr e)) = ap has_gap e

false_gap : (t : List ℕ) → IsFalseWord t → has_gap t ≡ false
false_gap t (inl e) = ap has_gap e
false_gap t (inr (inl e)) = ap has_gap e
false_gap t (inr (inr e)) = ap has_gap e

pub gap_kind : (typed : Bool) (t : List ℕ) → has_gap t ≡ true → HasKind typed t kind.Text
gap_kind false t h = refl
gap_kind true t h = (λ w. true≢false (sym h ∙ null_gap t w), λ w. true≢false (sym h ∙ true_gap t w), λ w. true≢false (sym h ∙ false_gap t w), λ n w. true≢false (sym h ∙ signed_gap t n w))

-- ---- dots

abbrev pub Dotted : List ℕ → Type 0
Dotted t = position_or_len is_dot t < length t

pub cut_dotted : (t : List ℕ) → is_cut true kind.Text t ≡ true → Dotted t
cut_dotted t h = ltb-true (position_or_len is_dot t) (length t) h

pub dotted_cut : (t : List ℕ) → Dotted t → is_cut true kind.Text t ≡ true
dotted_cut t l = lt-ltb (position_or_len is_dot t) (length t) l

pub dot_front : (x y : List ℕ) → Dotted x → Dotted (x ++ y)
dot_front [] y l = absurd (omega (arith, l))
dot_front (b ∷ x) y l = by_byte (is_dot b) l (λ k. dot_front x y k) where
  by_byte : (q : Bool) → cond (not q) (1 + position_or_len is_dot x) 0 < suc (length x) → (Dotted x → Dotted (x ++ y)) → cond (not q) (1 + position_or_len is_dot (x ++ y)) 0 < suc (length (x ++ y))
  by_byte true k n = omega arith
  by_byte false k n = let r = n (omega (arith, k)) in omega (arith, r)

-- of two parts, of which the other has none
pub dot_back : (x y : List ℕ) → (Dotted y → ⊥) → Dotted (x ++ y) → Dotted x
dot_back [] y n l = absurd (n l)
dot_back (b ∷ x) y n l = by_byte (is_dot b) l (λ k. dot_back x y n k) where
  by_byte : (q : Bool) → cond (not q) (1 + position_or_len is_dot (x ++ y)) 0 < suc (length (x ++ y)) → (Dotted (x ++ y) → Dotted x) → cond (not q) (1 + position_or_len is_dot x) 0 < suc (length x)
  by_byte true k f = omega arith
  by_byte false k f = let r = f (omega (arith, k)) in omega (arith, r)

pub newlines_undotted : (k : ℕ) → Dotted (newlines k) → ⊥
newlines_undotted zero l = absurd (omega (arith, l))
newlines_undotted (suc k) l = newlines_undotted k (omega (arith, l))

-- ---- plain scalars

-- the same text, or one that goes on behind a space or a newline
abbrev pub Grown : List ℕ → List ℕ → Type 0
Grown t v = (v ≡ t) ⊎ ((u : List ℕ) × (v ≡ t ++ u) × (has_gap u ≡ true))

grown_on : (t u v : List ℕ) → Grown (t ++ u) v → has_gap u ≡ true → Grown t v
grown_on t u v (inl e) g = inr (u, e, g)
grown_on t u v (inr (w, e, h)) g = inr (u ++ w, e ∙ append_assoc t u w, gap_front u w g)

pub gap_fold : (k : ℕ) (c : List ℕ) → has_gap (fold k ++ c) ≡ true
gap_fold zero c = refl
gap_fold (suc k) c = refl

text_is : (t v : List ℕ) (e j : ℕ) → Stands t e ≡ Stands v j → v ≡ t
text_is t v e j h = cc

text_same : (o : Outcome) (t v : List ℕ) (j m : ℕ) → o ≡ Stands t j → o ≡ Stands v m → v ≡ t
text_same o t v j m g h = text_is t v j m (sym g ∙ h)

fails_not : (p : ℕ) (t : List ℕ) (j : ℕ) → Fails p ≡ Stands t j → ⊥
fails_not p t j h = absurd (cc)

ends_grown : (flow : Bool) (part : List ℕ) (at : ℕ) (t : List ℕ) (e k : ℕ) (v : List ℕ) (m : ℕ) → ends_on flow part at t e k ≡ Stands v m → Grown t v
ends_grown flow part at t e k v m = by_length (nat_eq (plain_len flow false part) 0) where
  by_length : (q : Bool) → cond q (Stands t e) (Stands (joined flow part t k) (content_end flow part at)) ≡ Stands v m → Grown t v
  by_length true h = inl (text_is t v e m h)
  by_length false h = inr (fold k ++ content flow part, text_is (joined flow part t k) v (content_end flow part at) m h, gap_fold k (content flow part))

joins_grown : (flow : Bool) (w : Why) (part : List ℕ) (at : ℕ) (t : List ℕ) (e k : ℕ) (next : List ℕ → ℕ → ℕ → Outcome) (v : List ℕ) (m : ℕ) → ((x : List ℕ) (y z : ℕ) → next x y z ≡ Stands v m → Grown x v) → joins flow w part at t e k next ≡ Stands v m → Grown t v
joins_grown flow Break part at t e k next v m n h = grown_on t (fold k ++ content flow part) v (n (joined flow part t k) (content_end flow part at) 0 h) (gap_fold k (content flow part))
joins_grown flow Comment part at t e k next v m n h = inr (fold k ++ content flow part, text_is (joined flow part t k) v (content_end flow part at) m h, gap_fold k (content flow part))
joins_grown flow Return part at t e k next v m n h = absurd (fails_not _ v m h)
joins_grown true Colon part at t e k next v m n h = ends_grown true part at t e k v m h
joins_grown false Colon part at t e k next v m n h = absurd (fails_not _ v m h)
joins_grown flow Mark part at t e k next v m n h = ends_grown flow part at t e k v m h

further_grown : (s : Setting) (w : Below) (at : ℕ) (bytes t : List ℕ) (e k : ℕ) (next : List ℕ → ℕ → ℕ → Outcome) (v : List ℕ) (m : ℕ) → ((x : List ℕ) (y z : ℕ) → next x y z ≡ Stands v m → Grown x v) → further s w at bytes t e k next ≡ Stands v m → Grown t v
further_grown s Blank at bytes t e k next v m n h = n t e (suc k) h
further_grown s Outside at bytes t e k next v m n h = inl (text_is t v e m h)
further_grown s (Further i) at bytes t e k next v m n h = joins_grown s.flow (reason s.flow (drop i bytes)) (drop i bytes) (at + i) t e k next v m n h

pub more_grown : (s : Setting) (ls : List Line) (t : List ℕ) (e k : ℕ) (v : List ℕ) (m : ℕ) → more s ls t e k ≡ Stands v m → Grown t v
more_grown s [] t e k v m h = inl (text_is t v e m h)
more_grown s (l ∷ ls) t e k v m h = further_grown s (below s l.bytes) l.at l.bytes t e k (more s ls) v m (λ x y z g. more_grown s ls x y z v m g) h

-- a line that is the same in both texts
abbrev Step : (t v : List ℕ) (j m : ℕ) (f g : List ℕ → ℕ → ℕ → Outcome) → Type 0
Step t v j m f g = (x : List ℕ) (y z : ℕ) → f x y z ≡ Stands t j → g x y z ≡ Stands v m → Grown t v

joins_both : (flow : Bool) (w : Why) (part : List ℕ) (at : ℕ) (x : List ℕ) (e k : ℕ) (f g : List ℕ → ℕ → ℕ → Outcome) (t v : List ℕ) (j m : ℕ) → Step t v j m f g → joins flow w part at x e k f ≡ Stands t j → joins flow w part at x e k g ≡ Stands v m → Grown t v
joins_both flow Break part at x e k f g t v j m n a b = n (joined flow part x k) (content_end flow part at) 0 a b
joins_both flow Comment part at x e k f g t v j m n a b = inl (text_same (Stands (joined flow part x k) (content_end flow part at)) t v j m a b)
joins_both flow Return part at x e k f g t v j m n a b = absurd (fails_not _ t j a)
joins_both true Colon part at x e k f g t v j m n a b = inl (text_same (ends_on true part at x e k) t v j m a b)
joins_both false Colon part at x e k f g t v j m n a b = absurd (fails_not _ t j a)
joins_both flow Mark part at x e k f g t v j m n a b = inl (text_same (ends_on flow part at x e k) t v j m a b)

further_both : (s : Setting) (w : Below) (at : ℕ) (bytes x : List ℕ) (e k : ℕ) (f g : List ℕ → ℕ → ℕ → Outcome) (t v : List ℕ) (j m : ℕ) → Step t v j m f g → further s w at bytes x e k f ≡ Stands t j → further s w at bytes x e k g ≡ Stands v m → Grown t v
further_both s Blank at bytes x e k f g t v j m n a b = n x e (suc k) a b
further_both s Outside at bytes x e k f g t v j m n a b = inl (text_same (Stands x e) t v j m a b)
further_both s (Further i) at bytes x e k f g t v j m n a b = joins_both s.flow (reason s.flow (drop i bytes)) (drop i bytes) (at + i) x e k f g t v j m n a b

module _ (s : Setting) (place : ℕ) (A : Line) (B : List Line) (empty : A.bytes ≡ []) (t v : List ℕ) (j m : ℕ) where
  -- behind the last break of the shorter one
  last_both : Step t v j m (more s (A ∷ [])) (more s B)
  last_both x y z a b =
      let is : more s (A ∷ []) x y z ≡ Stands x y = ap (λ (c : List ℕ). further s (below s c) A.at c x y z (more s [])) empty in
      let same : t ≡ x = text_is x t y j (sym is ∙ a) in
      subst (λ c. Grown c v) (sym same) (more_grown s B x y z v m b)

  more_both : (ks : List Line) → Step t v j m (more s (glue ks (feed_of place ∷ A ∷ []))) (more s (glue ks (feed_of place ∷ B)))
  more_both [] x y z a b = inl (text_same (Stands x y) t v j m a b)
  more_both (l ∷ []) x y z a b = further_both s (below s (joint l (feed_of place)).bytes) l.at (joint l (feed_of place)).bytes x y z (more s (A ∷ [])) (more s B) t v j m last_both a b
  more_both (l ∷ k ∷ ls) x y z a b = further_both s (below s l.bytes) l.at l.bytes x y z (more s (glue (k ∷ ls) (feed_of place ∷ A ∷ []))) (more s (glue (k ∷ ls) (feed_of place ∷ B))) t v j m (more_both (k ∷ ls)) a b

  first_both : (w : Why) (at : ℕ) (bytes : List ℕ) (ls ms : List Line) → s.one_line ≡ false → Step t v j m (more s ls) (more s ms) → first s w at bytes ls ≡ Stands t j → first s w at bytes ms ≡ Stands v m → Grown t v
  first_both Break at bytes ls ms one n a b = by_one s.one_line one a b where
    by_one : (q : Bool) → q ≡ false → cond q (Stands (content s.flow bytes) (content_end s.flow bytes at)) (more s ls (content s.flow bytes) (content_end s.flow bytes at) 0) ≡ Stands t j
        → cond q (Stands (content s.flow bytes) (content_end s.flow bytes at)) (more s ms (content s.flow bytes) (content_end s.flow bytes at) 0) ≡ Stands v m → Grown t v
    by_one true e c d = absurd (true≢false e)
    by_one false e c d = n (content s.flow bytes) (content_end s.flow bytes at) 0 c d
  first_both Return at bytes ls ms one n a b = absurd (fails_not _ t j a)
  first_both Colon at bytes ls ms one n a b = inl (text_same (Stands (content s.flow bytes) (content_end s.flow bytes at)) t v j m a b)
  first_both Comment at bytes ls ms one n a b = inl (text_same (Stands (content s.flow bytes) (content_end s.flow bytes at)) t v j m a b)
  first_both Mark at bytes ls ms one n a b = inl (text_same (Stands (content s.flow bytes) (content_end s.flow bytes at)) t v j m a b)

  line_both : (fresh : Bool) (l : Line) (ls ms : List Line) → s.one_line ≡ false → Step t v j m (more s ls) (more s ms) → plain_on s fresh (l ∷ ls) ≡ Stands t j → plain_on s fresh (l ∷ ms) ≡ Stands v m → Grown t v
  line_both fresh l ls ms one n a b = by_tests (fresh && (is_mark l.bytes || is_cut_mark l.bytes)) (begins_plain s.flow l.bytes) a b where
    by_tests : (p q : Bool) → cond p (Fails (l.at + 3)) (cond q (first s (reason s.flow l.bytes) l.at l.bytes ls) (Fails (wrong_begin l.at l.bytes))) ≡ Stands t j
        → cond p (Fails (l.at + 3)) (cond q (first s (reason s.flow l.bytes) l.at l.bytes ms) (Fails (wrong_begin l.at l.bytes))) ≡ Stands v m → Grown t v
    by_tests true q c d = absurd (fails_not _ t j c)
    by_tests false true c d = first_both (reason s.flow l.bytes) l.at l.bytes ls ms one n c d
    by_tests false false c d = absurd (fails_not _ t j c)

  pub plain_both : (fresh : Bool) (ks : List Line) → s.one_line ≡ false → plain_on s fresh (glue ks (feed_of place ∷ A ∷ [])) ≡ Stands t j → plain_on s fresh (glue ks (feed_of place ∷ B)) ≡ Stands v m → Grown t v
  plain_both fresh [] one a b = absurd (fails_not _ t j a)
  plain_both fresh (l ∷ []) one a b = line_both fresh (joint l (feed_of place)) (A ∷ []) B one last_both a b
  plain_both fresh (l ∷ k ∷ ls) one a b = line_both fresh l (glue (k ∷ ls) (feed_of place ∷ A ∷ [])) (glue (k ∷ ls) (feed_of place ∷ B)) one (more_both (k ∷ ls)) a b
