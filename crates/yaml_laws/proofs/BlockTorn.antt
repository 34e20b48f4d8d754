-- Where a block scalar fails at the text's end behind one or two dashes or dots: a longer text has one only where its bytes make a mark of them, in front of which it ends. By induction over lines.
use Rattle.std.proofs.Common.{◌≡◌, ℕ, suc, ◌+◌, ◌⊎◌, Bool, true, false, List, [], ◌∷◌, ◌++◌, refl, sym, ap, inl, inr, ◌∙◌, arith, cond, Option, Some, None}
use Rattle.std.specs.Prelude.{ℤ, nat_lt, ◌||◌}
use Rattle.std.proofs.lemmas.Bool.Decides.{nat_tests}
use Rattle.yaml_scalars.specs.Lines.{Line, Outcome, Stands, Fails, begins_with, is_blank, is_mark, is_white, is_space, indent}
use Rattle.yaml_scalars.specs.Plain.{above_of}
use Rattle.yaml_scalars.specs.Block.{Chomp, Inner, Nothing, Wide, Indented, blank_more, count_break, ending, shown, widest, inner_of, base_of, by_inner, by_digit, block_on}
use Rattle.yaml_scalars.proofs.BlockScalars.{on_lines}
use Rattle.yaml_laws.proofs.BlockHeads.{cases}
use Rattle.yaml_laws.proofs.BlockLaw.{fails_not, fails_at, over_blank, over_first, first_wide, shown_fits, blank_stands, head_of, block_cases}
use Rattle.yaml_laws.proofs.BlockLonger.{IsPart, IsLastLine, content_not, early, shown_part}
use Rattle.yaml_laws.proofs.Longer.{glue, joint, Ends}

-- the last line is a part of a mark; with other lines behind it, of which the first goes on with it, a scalar ends in front of
-- it, where a mark stands then
abbrev EndsBefore : ℕ → List ℕ → Line → Outcome → Type 0
EndsBefore p f k o = (t : List ℕ) (e : ℕ) → o ≡ Stands t e → (e ≡ p) × (is_mark (f ++ k.bytes) ≡ true)

abbrev pub BreaksOff : (ℕ → List Line → Outcome) → List Line → Type 0
BreaksOff F ls = (p : ℕ) × (f : List ℕ) × IsLastLine p f ls × IsPart f × ((k : Line) (ks : List Line) (other : ℕ) → EndsBefore p f k (F other (glue ls (k ∷ ks))))

-- such a line goes on unindented, and is not blank
part_goes : (f y : List ℕ) → IsPart f → (is_blank (f ++ y) ≡ false) × (indent (f ++ y) ≡ indent f)
part_goes f y (d, h, inl e) =
    let w : is_white d ≡ false = grind (arith, nat_tests, h) in
    let s : is_space d ≡ false = grind (arith, nat_tests, h) in
    (ap (λ t. is_blank (t ++ y)) e ∙ ap (λ q. cond q (is_blank y) false) w, ap (λ t. indent (t ++ y)) e ∙ by_space (is_space d) y s ∙ sym (ap indent e ∙ by_space (is_space d) [] s)) where
      by_space : (q : Bool) (z : List ℕ) → q ≡ false → cond q (suc (indent z)) 0 ≡ 0
      by_space false z k = refl
      by_space true z k = absurd (cc)
part_goes f y (d, h, inr e) =
    let w : is_white d ≡ false = grind (arith, nat_tests, h) in
    let s : is_space d ≡ false = grind (arith, nat_tests, h) in
    (ap (λ t. is_blank (t ++ y)) e ∙ ap (λ q. cond q (is_blank (d ∷ y)) false) w, ap (λ t. indent (t ++ y)) e ∙ by_space (is_space d) (d ∷ y) s ∙ sym (ap indent e ∙ by_space (is_space d) (d ∷ []) s)) where
      by_space : (q : Bool) (z : List ℕ) → q ≡ false → cond q (suc (indent z)) 0 ≡ 0
      by_space false z k = refl
      by_space true z k = absurd (cc)

-- the lines of a scalar: too wide blank lines, or a mark behind them
abbrev WideLines : ℕ → ℕ → List Line → Type 0
WideLines above w ls =
    (p : ℕ) × (f : List ℕ) × IsLastLine p f ls × IsPart f
    × ((k : Line) (ks : List Line) → ((is_mark (f ++ k.bytes) ≡ true) × ((chomp : Chomp) (other e : ℕ) → (t : List ℕ) × (blank_more chomp other (glue ls (k ∷ ks)) e ≡ Stands t p)) × (inner_of above w (glue ls (k ∷ ks)) ≡ Nothing)) ⊎ ((q : ℕ) × (inner_of above w (glue ls (k ∷ ks)) ≡ Wide q)))

wide_lines : (above w size : ℕ) (ls : List Line) → Ends size false ls → inner_of above w ls ≡ Wide size → WideLines above w ls
wide_lines above w size [] x h = absurd x
wide_lines above w size (l ∷ []) (x, y, z) h = cases (is_blank l.bytes) (λ b. absurd (let e : Nothing ≡ Wide size = sym (over_blank above w l [] b) ∙ h in cc)) (λ b.
    let f = first_wide above w size l (sym (over_first above w l [] b) ∙ h) in
    let s = f.3 in
    let part = shown_part l.bytes b f.0 z (omega (arith, s, x)) in
    (l.at, l.bytes, (refl, refl), part, λ k ks. by_mark part f.1 f.2 k ks (is_mark (l.bytes ++ k.bytes)) refl)) where
      by_mark : IsPart l.bytes → nat_lt (indent l.bytes) above ≡ false → nat_lt (indent l.bytes) w ≡ true → (k : Line) (ks : List Line) (q : Bool) → is_mark (l.bytes ++ k.bytes) ≡ q
          → ((is_mark (l.bytes ++ k.bytes) ≡ true) × ((chomp : Chomp) (other e : ℕ) → (t : List ℕ) × (blank_more chomp other (joint l k ∷ ks) e ≡ Stands t l.at)) × (inner_of above w (joint l k ∷ ks) ≡ Nothing)) ⊎ ((r : ℕ) × (inner_of above w (joint l k ∷ ks) ≡ Wide r))
      by_mark part over under k ks true m =
          let g = part_goes l.bytes k.bytes part in
          inl (
            m,
            (λ chomp other e. (ending chomp None e, ap (λ q. cond q (blank_more chomp other ks (count_break k.broken e)) (Stands (ending chomp None e) l.at)) g.0)),
            over_first above w (joint l k) ks g.0 ∙ ap (λ q. cond (q || nat_lt (indent (l.bytes ++ k.bytes)) above) Nothing (cond (nat_lt (indent (l.bytes ++ k.bytes)) w) (Wide (l.at + shown (l.bytes ++ k.bytes))) (Indented (indent (l.bytes ++ k.bytes))))) m,
          )
      by_mark part over under k ks false m =
          let g = part_goes l.bytes k.bytes part in
          inr (
            l.at + shown (l.bytes ++ k.bytes),
            over_first above w (joint l k) ks g.0
                ∙ ap (λ q. cond (q || nat_lt (indent (l.bytes ++ k.bytes)) above) Nothing (cond (nat_lt (indent (l.bytes ++ k.bytes)) w) (Wide (l.at + shown (l.bytes ++ k.bytes))) (Indented (indent (l.bytes ++ k.bytes))))) m
                ∙ ap (λ (n : ℕ). cond (nat_lt n above) Nothing (cond (nat_lt n w) (Wide (l.at + shown (l.bytes ++ k.bytes))) (Indented n))) g.1
                ∙ ap (λ q. cond q Nothing (cond (nat_lt (indent l.bytes) w) (Wide (l.at + shown (l.bytes ++ k.bytes))) (Indented (indent l.bytes)))) over
                ∙ ap (λ q. cond q (Wide (l.at + shown (l.bytes ++ k.bytes))) (Indented (indent l.bytes))) under,
          )
wide_lines above w size (l ∷ m ∷ ls) (x, y, z) h =
    cases (is_blank l.bytes)
    (λ b.
    let s = wide_lines above (widest w (indent l.bytes)) size (m ∷ ls) z (sym (over_blank above w l (m ∷ ls) b) ∙ h) in
    (s.0, s.1, s.2, s.3, λ k ks. further b s.0 s.1 k ks (s.4 k ks)))
    (λ b. absurd (let f = (first_wide above w size l (sym (over_first above w l (m ∷ ls) b) ∙ h)).3 in let s = shown_fits l.bytes in omega (arith, f, s, x))) where
      further : is_blank l.bytes ≡ true → (p : ℕ) (f : List ℕ) (k : Line) (ks : List Line)
          → ((is_mark (f ++ k.bytes) ≡ true) × ((chomp : Chomp) (other e : ℕ) → (t : List ℕ) × (blank_more chomp other (glue (m ∷ ls) (k ∷ ks)) e ≡ Stands t p)) × (inner_of above (widest w (indent l.bytes)) (glue (m ∷ ls) (k ∷ ks)) ≡ Nothing)) ⊎ ((q : ℕ) × (inner_of above (widest w (indent l.bytes)) (glue (m ∷ ls) (k ∷ ks)) ≡ Wide q))
          → ((is_mark (f ++ k.bytes) ≡ true) × ((chomp : Chomp) (other e : ℕ) → (t : List ℕ) × (blank_more chomp other (l ∷ glue (m ∷ ls) (k ∷ ks)) e ≡ Stands t p)) × (inner_of above w (l ∷ glue (m ∷ ls) (k ∷ ks)) ≡ Nothing)) ⊎ ((q : ℕ) × (inner_of above w (l ∷ glue (m ∷ ls) (k ∷ ks)) ≡ Wide q))
      further b p f k ks (inl (g, stands, e)) =
          inl (
            g,
            (λ chomp other e. (let t = stands chomp other (count_break l.broken e) in (t.0, ap (λ q. cond q (blank_more chomp other (glue (m ∷ ls) (k ∷ ks)) (count_break l.broken e)) (Stands (ending chomp None e) l.at)) b ∙ t.1))),
            over_blank above w l (glue (m ∷ ls) (k ∷ ks)) b ∙ e,
          )
      further b p f k ks (inr (q, e)) = inr (q, over_blank above w l (glue (m ∷ ls) (k ∷ ks)) b ∙ e)

ends_same : (t u : List ℕ) (p e : ℕ) → Stands t p ≡ Stands u e → e ≡ p
ends_same t u p e h = cc

digit_before : (folded : Bool) (parent : ℤ) (chomp : Chomp) (size most : ℕ) (digit : Option ℕ) (ls : List Line) → Ends size false ls → by_digit folded parent chomp most digit ls ≡ Fails size → BreaksOff (λ n ms. by_digit folded parent chomp n digit ms) ls
digit_before folded parent chomp size most (Some d) ls x h = absurd (content_not folded chomp (base_of parent + d) size most ls [] None 0 x h)
digit_before folded parent chomp size most None ls x h = by_in (inner_of (above_of parent) 0 ls) refl h where
  by_in : (o : Inner) → inner_of (above_of parent) 0 ls ≡ o → by_inner folded chomp most o ls ≡ Fails size → BreaksOff (λ n ms. by_digit folded parent chomp n None ms) ls
  by_in Nothing e h = absurd (blank_stands chomp most size ls 0 h)
  by_in (Indented i) e h = absurd (content_not folded chomp i size most ls [] None 0 x h)
  by_in (Wide at) e h =
      let v = wide_lines (above_of parent) 0 size ls x (e ∙ ap Wide (fails_at at size h)) in
      (v.0, v.1, v.2, v.3, λ k ks other t end st. by_lines v.0 v.1 k ks other t end (v.4 k ks) st) where
        by_lines : (p : ℕ) (f : List ℕ) (k : Line) (ks : List Line) (other : ℕ) (t : List ℕ) (end : ℕ)
            → ((is_mark (f ++ k.bytes) ≡ true) × ((chomp : Chomp) (other e : ℕ) → (t : List ℕ) × (blank_more chomp other (glue ls (k ∷ ks)) e ≡ Stands t p)) × (inner_of (above_of parent) 0 (glue ls (k ∷ ks)) ≡ Nothing)) ⊎ ((q : ℕ) × (inner_of (above_of parent) 0 (glue ls (k ∷ ks)) ≡ Wide q))
            → by_inner folded chomp other (inner_of (above_of parent) 0 (glue ls (k ∷ ks))) (glue ls (k ∷ ks)) ≡ Stands t end → (end ≡ p) × (is_mark (f ++ k.bytes) ≡ true)
        by_lines p f k ks other t end (inl (m, stands, e)) st =
            let s = stands chomp other 0 in
            (ends_same s.0 t p end (sym s.1 ∙ sym (ap (λ o. by_inner folded chomp other o (glue ls (k ∷ ks))) e) ∙ st), m)
        by_lines p f k ks other t end (inr (q, e)) st = absurd (fails_not q t end (sym (ap (λ o. by_inner folded chomp other o (glue ls (k ∷ ks))) e) ∙ st))

-- where a block scalar fails at the text's end below its header, and no carriage return ends the text
pub block_before : (parent : ℤ) (size most : ℕ) (l m : Line) (ls : List Line) → Ends size false (l ∷ m ∷ ls) → block_on parent most (l ∷ m ∷ ls) ≡ Fails size → BreaksOff (block_on parent) (l ∷ m ∷ ls)
block_before parent size most l m ls (x, y, z) h =
    block_cases l
    (λ n e. absurd (let k = early parent most size l (m ∷ ls) n e h in omega (arith, k, x)))
    (λ e b. absurd (let k : false ≡ true = sym b ∙ y in cc))
    (λ e b.
    let s = digit_before (begins_with 62 l.bytes) parent (head_of l.bytes).chomp size most (head_of l.bytes).digit (m ∷ ls) z (sym (on_lines parent most l (m ∷ ls) (head_of l.bytes) refl e b) ∙ h) in
    (s.0, s.1, s.2, s.3, λ k ks other t end st. s.4 k ks other t end (sym (on_lines parent other l (glue (m ∷ ls) (k ∷ ks)) (head_of l.bytes) refl e b) ∙ st)))
