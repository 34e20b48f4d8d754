-- Outside of brackets a plain scalar behind which a colon stands on its line ends on the line that it begins on, and the byte behind the colon shows it. By induction over lines.
use Rattle.std.proofs.Common.{◌≡◌, ℕ, suc, ◌+◌, ◌≤◌, Bool, true, false, ◌||◌, ◌&&◌, cond, nat_eq, arith, List, [], ◌∷◌, ◌++◌, drop, length, refl, sym, ap, ◌∙◌, subst, true≢false, length-drop}
use Rattle.std.proofs.lemmas.Bool.Decides.{nat_tests}
use Rattle.std.specs.Prelude.{ℤ}
use Rattle.yaml_scalars.specs.declared.scalar.Setting.{Setting}
use Rattle.yaml_scalars.specs.declared.plain_line.Why.{Why}
use Rattle.yaml_scalars.specs.declared.plain_line.Why.TheVariants.{Break, Return, Colon, Comment, Mark}
use Rattle.yaml_scalars.specs.declared.plain_line.Below.{Below}
use Rattle.yaml_scalars.specs.declared.plain_line.Below.TheVariants.{Blank, Outside, Further}
use Rattle.yaml_scalars.specs.Lines.{Line, Stands, lines, indent, is_end, is_white, is_blank, lead, past_white, is_mark}
use Rattle.yaml_scalars.specs.Plain.{plain_len, content, content_end, why, reason, below, joined, joins, further, first, more, plain_on}
use Rattle.yaml_scalars.specs.Scalar.{is_first_column, plain_scalar}
use Rattle.yaml_scalars.specs.code.Walk.{line_at, has_break, behind}
use Rattle.yaml_scalars.proofs.Places.{lines_are}
use Rattle.yaml_scalars.proofs.FurtherLines.{skip_le}
use Rattle.yaml_laws.specs.code.Agreement.{part_shown, more_shown, plain_shown}
use Rattle.yaml_laws.proofs.Agree.{Within, lines_within}
use Rattle.yaml_laws.proofs.BlockLaw.{fails_not}
use Rattle.yaml_laws.proofs.PlainDead.{drop_whole}
use Rattle.yaml_laws.proofs.PlainStays.{opens_stands}
use Rattle.yaml_laws.proofs.QuotedLaw.{lead_whole}
use Rattle.yaml_grammar.specs.declared.ahead.Ahead.{Ahead}
use Rattle.yaml_grammar.specs.declared.ahead.Token.{Token}
use Rattle.yaml_grammar.specs.declared.ahead.Token.TheVariants.{Dash, Tag, NoTag, Opens, Point, Anchor, Percent, Stray, Other}
use Rattle.yaml_grammar.specs.Ahead.{begins_letter, ends_tag, is_name, is_passed, is_tabbed, mark_of, other_token, tab_token, tag_token, token_at, token_of, line_ahead, rest_ahead, ahead}
use Rattle.yaml_grammar.specs.code.Points.{is_point}
use Rattle.yaml_grammar.proofs.LineTails.{Tails, IsTail, tail_is, tails_of}
use Rattle.yaml_grammar.proofs.PlainOrder.{stop_black, Behind, behind_content, bytes, bytes_are, end_is, inner}
use Rattle.yaml_grammar.proofs.PlainOut.{blank_passed, same_place}

-- a token that begins with another byte is no colon
pub point_first : (b : ℕ) (xs : List ℕ) → is_point (token_of false (b ∷ xs)) ≡ true → b ≡ 58
point_first b xs h = by_tests (nat_eq b 91) (nat_eq b 123) (nat_eq b 45 && is_end xs) (nat_eq b 58) (is_end xs) refl h where
  other : (t : Token) → is_point t ≡ false → is_point t ≡ true → b ≡ 58
  other t n k = absurd (true≢false (sym k ∙ n))

  pick : (x y : Token) (q : Bool) → is_point x ≡ false → is_point y ≡ false → is_point (cond q x y) ≡ false
  pick x y true h k = h
  pick x y false h k = k

  rest : is_point (cond (nat_eq b 33) (tag_token false xs) (other_token b)) ≡ false
  rest =
      pick (tag_token false xs) (other_token b) (nat_eq b 33) (pick (Tag (lead is_name xs)) NoTag (begins_letter xs && ends_tag false (drop (lead is_name xs) xs)) refl refl)
      (pick Anchor (cond (nat_eq b 37) Percent (cond (nat_eq b 35 || nat_eq b 13) Stray Other)) (nat_eq b 38 || nat_eq b 42) refl (pick Percent (cond (nat_eq b 35 || nat_eq b 13) Stray Other) (nat_eq b 37) refl (pick Stray Other (nat_eq b 35 || nat_eq b 13) refl refl)))

  by_tests : (o m d p e : Bool) → nat_eq b 58 ≡ p → is_point (cond o (Opens false) (cond m (Opens true) (cond d Dash (cond (p && e) (Point true) (cond (nat_eq b 33) (tag_token false xs) (other_token b)))))) ≡ true → b ≡ 58
  by_tests true m d p e i h = other (Opens false) refl h
  by_tests false true d p e i h = other (Opens true) refl h
  by_tests false false true p e i h = other Dash refl h
  by_tests false false false true e i h = grind (arith, nat_tests, i)
  by_tests false false false false e i h = other (cond (nat_eq b 33) (tag_token false xs) (other_token b)) rest h

-- ---- what is ahead of a place, by the lines there

pub line_fresh : (size : ℕ) (ls : List Line) → (line_ahead false size ls).fresh ≡ true
line_fresh size [] = refl
line_fresh size (l ∷ ls) = by_tests (is_mark l.bytes) (is_passed true l.bytes) (is_tabbed false l.bytes) (line_fresh size ls) where
  by_tests : (q r t : Bool) → (line_ahead false size ls).fresh ≡ true
      → (cond q (token_at (mark_of l.bytes) true 0 l.at) (cond r (line_ahead false size ls) (cond t (token_at (tab_token (past_white l.bytes)) true (indent l.bytes) (l.at + indent l.bytes)) (token_at (token_of false (past_white l.bytes)) true (lead is_white l.bytes) (l.at + lead is_white l.bytes))))).fresh ≡ true
  by_tests true r t h = refl
  by_tests false true t h = h
  by_tests false false true h = refl
  by_tests false false false h = refl

pub from_block : (P : Ahead → Type 0) (text : List ℕ) (e : ℕ) (m : Line) (ls : List Line) → lines e (drop e text) ≡ m ∷ ls → P (line_ahead false (length text) (m ∷ ls)) → P (rest_ahead false (length text) (m ∷ ls)) → P (ahead text false e)
from_block P text e m ls is a b = subst (λ ks. P (cond (is_first_column text e) (line_ahead false (length text) ks) (rest_ahead false (length text) ks))) (sym is) (by_column (is_first_column text e)) where
  by_column : (q : Bool) → P (cond q (line_ahead false (length text) (m ∷ ls)) (rest_ahead false (length text) (m ∷ ls)))
  by_column true = a
  by_column false = b

-- a colon on the line is ahead at a place, and something holds
abbrev Pointing : Type 0 → ℕ → Ahead → Type 0
Pointing P p a = a.fresh ≡ false → is_point a.token ≡ true → P × (a.at ≡ p)

fresh_not : (P : Type 0) (p : ℕ) (a : Ahead) → a.fresh ≡ true → Pointing P p a
fresh_not P p a e = λ f t. absurd (true≢false (sym e ∙ f))

-- none is
abbrev pub Unpointing : Ahead → Type 0
Unpointing a = a.fresh ≡ false → is_point a.token ≡ true → ⊥

-- ---- a part of a line of the text

module _ (text : List ℕ) (l : Line) (ls : List Line) (is : IsTail text l ls) (n : ℕ) (low : n ≤ length l.bytes) where
  abbrev last : ℕ
  last = content_end false (drop n l.bytes) (l.at + n)

  abbrev stops : ℕ
  stops = l.at + n + plain_len false false (drop n l.bytes)

  -- the line's end ends it
  at_break : (w : List ℕ) → Behind false (drop n l.bytes) w → drop (plain_len false false (drop n l.bytes)) (drop n l.bytes) ≡ [] → Unpointing (ahead text false last)
  at_break w h e =
      let r = inner text l ls is false n low w h in
      let xs = bytes text l ls is false n low in
      let blank : is_blank (bytes text l ls is false n low) ≡ true = ap is_blank (bytes_are text l ls is false n low ∙ h.0 ∙ ap (λ t. w ++ t) e) ∙ whole w h.1 in
      let m : Line = record { at = last; bytes = bytes text l ls is false n low; broken = r.0 } in
      from_block Unpointing text last m ls r.1 (λ f t. true≢false (sym (line_fresh (length text) (m ∷ ls)) ∙ f))
      (subst (λ q. Unpointing (cond q (line_ahead false (length text) ls) (token_at (token_of false (past_white xs)) false (lead is_white xs) (last + lead is_white xs)))) (sym (blank_passed false xs blank)) (λ f t. true≢false (sym (line_fresh (length text) ls) ∙ f))) where
        whole : (w : List ℕ) → is_blank w ≡ true → is_blank (w ++ []) ≡ true
        whole [] h = refl
        whole (b ∷ w) h = by_white (is_white b) h (λ g. whole w g) where
          by_white : (q : Bool) → cond q (is_blank w) false ≡ true → (is_blank w ≡ true → is_blank (w ++ []) ≡ true) → cond q (is_blank (w ++ [])) false ≡ true
          by_white true h r = r h
          by_white false h r = h

  -- a byte ends it
  at_byte : (w : List ℕ) → Behind false (drop n l.bytes) w → (c : ℕ) (z : List ℕ) → drop (plain_len false false (drop n l.bytes)) (drop n l.bytes) ≡ c ∷ z → Pointing (c ≡ 58) stops (ahead text false last)
  at_byte w h c z e =
      let r = inner text l ls is false n low w h in
      let xs = bytes text l ls is false n low in
      let m : Line = record { at = last; bytes = bytes text l ls is false n low; broken = r.0 } in
      let parts : xs ≡ w ++ (c ∷ z) = bytes_are text l ls is false n low ∙ h.0 ∙ ap (λ t. w ++ t) e in
      let whites : lead is_white xs ≡ length w = ap (lead is_white) parts ∙ lead_whole w c z h.1 (stop_black false false (drop n l.bytes) c z e) in
      let past : past_white xs ≡ c ∷ z = ap (λ k. drop k xs) whites ∙ ap (drop (length w)) parts ∙ drop_whole w (c ∷ z) in
      let k = h.2 in
      let j = end_is text l ls is false n low in
      let place : last + lead is_white xs ≡ stops = omega (arith, whites, k) in
      from_block (Pointing (c ≡ 58) stops) text last m ls r.1 (fresh_not (c ≡ 58) stops (line_ahead false (length text) (m ∷ ls)) (line_fresh (length text) (m ∷ ls))) (by_test past place (is_passed false xs)) where
        by_test : past_white (bytes text l ls is false n low) ≡ c ∷ z → last + lead is_white (bytes text l ls is false n low) ≡ stops → (q : Bool)
            → Pointing (c ≡ 58) stops (cond q (line_ahead false (length text) ls) (token_at (token_of false (past_white (bytes text l ls is false n low))) false (lead is_white (bytes text l ls is false n low)) (last + lead is_white (bytes text l ls is false n low))))
        by_test p k true = fresh_not (c ≡ 58) stops (line_ahead false (length text) ls) (line_fresh (length text) ls)
        by_test p k false = λ f t. (point_first c z (sym (ap (λ y. is_point (token_of false y)) p) ∙ t), k)

  pub part_points : (w : Why) → reason false (drop n l.bytes) ≡ w → Pointing (w ≡ Colon) stops (ahead text false last)
  part_points w e = let h = behind_content false (drop n l.bytes) in by_rest h.0 h.1 (drop (plain_len false false (drop n l.bytes)) (drop n l.bytes)) refl where
    by_rest : (v : List ℕ) → Behind false (drop n l.bytes) v → (t : List ℕ) → drop (plain_len false false (drop n l.bytes)) (drop n l.bytes) ≡ t → Pointing (w ≡ Colon) stops (ahead text false last)
    by_rest v h [] i = λ f t. absurd (at_break v h i f t)
    by_rest v h (c ∷ z) i = λ f t. (let g = at_byte v h c z i f t in (sym (sym (ap why i) ∙ e) ∙ colon_why g.0, g.1)) where
      colon_why : c ≡ 58 → why (c ∷ z) ≡ Colon
      colon_why n = ap (λ d. why (d ∷ z)) n

-- ---- the lines below

module _ (p : ℤ) where
  abbrev pub block_setting : Setting
  block_setting = record { parent = p; flow = false; one_line = false }

  more_points : (text : List ℕ) (ls : List Line) (t : List ℕ) (e k : ℕ) (u : List ℕ) (f : ℕ) → Tails text ls → Within (length text) ls → Unpointing (ahead text false e) → more block_setting ls t e k ≡ Stands u f → Unpointing (ahead text false f)
  more_points text [] t e k u f tails w none h = subst (λ n. Unpointing (ahead text false n)) (same_place t u e f h) none
  more_points text (l ∷ ls) t e k u f tails w none h = by_below (below block_setting l.bytes) refl h (λ x y z a b. more_points text ls x y z u f tails.1 w.1 a b) where
    is : IsTail text l ls
    is = tail_is text l ls tails.0 w.0

    here : Stands t e ≡ Stands u f → Unpointing (ahead text false f)
    here g = subst (λ n. Unpointing (ahead text false n)) (same_place t u e f g) none

    end_at : (n : ℕ) → n ≤ length l.bytes → (v : Why) → reason false (drop n l.bytes) ≡ v → (v ≡ Colon → ⊥) → Unpointing (ahead text false (content_end false (drop n l.bytes) (l.at + n)))
    end_at n low v i other = λ a b. other (part_points text l ls is n low v i a b).0

    by_ends : (n : ℕ) → n ≤ length l.bytes → (v : Why) → reason false (drop n l.bytes) ≡ v → (v ≡ Colon → ⊥) → (q : Bool) → cond q (Stands t e) (Stands (joined false (drop n l.bytes) t k) (content_end false (drop n l.bytes) (l.at + n))) ≡ Stands u f → Unpointing (ahead text false f)
    by_ends n low v i other true h = here h
    by_ends n low v i other false h = subst (λ m. Unpointing (ahead text false m)) (same_place _ u _ f h) (end_at n low v i other)

    by_why : (n : ℕ) → n ≤ length l.bytes → (v : Why) → reason false (drop n l.bytes) ≡ v → joins false v (drop n l.bytes) (l.at + n) t e k (more block_setting ls) ≡ Stands u f → ((x : List ℕ) (y z : ℕ) → Unpointing (ahead text false y) → more block_setting ls x y z ≡ Stands u f → Unpointing (ahead text false f)) → Unpointing (ahead text false f)
    by_why n low Break i h go = go (joined false (drop n l.bytes) t k) (content_end false (drop n l.bytes) (l.at + n)) 0 (end_at n low Break i (λ z. absurd (cc))) h
    by_why n low Return i h go = absurd (cc)
    by_why n low Colon i h go = absurd (cc)
    by_why n low Comment i h go = subst (λ m. Unpointing (ahead text false m)) (same_place _ u _ f h) (end_at n low Comment i (λ z. absurd (cc)))
    by_why n low Mark i h go = by_ends n low Mark i (λ z. absurd (cc)) (nat_eq (plain_len false false (drop n l.bytes)) 0) h

    by_below : (z : Below) → below block_setting l.bytes ≡ z → further block_setting z l.at l.bytes t e k (more block_setting ls) ≡ Stands u f → ((x : List ℕ) (y z : ℕ) → Unpointing (ahead text false y) → more block_setting ls x y z ≡ Stands u f → Unpointing (ahead text false f)) → Unpointing (ahead text false f)
    by_below Blank i h go = go t e (suc k) none h
    by_below Outside i h go = here h
    by_below (Further n) i h go = by_why n (skip_le block_setting l.bytes n i) (reason false (drop n l.bytes)) refl h go

  -- ---- from its first line on

  first_points : (text : List ℕ) (l : Line) (ls : List Line) (u : List ℕ) (f : ℕ) → IsTail text l ls → Tails text ls → Within (length text) ls → first block_setting (reason false l.bytes) l.at l.bytes ls ≡ Stands u f → (ahead text false f).fresh ≡ false → is_point (ahead text false f).token ≡ true
      → plain_shown block_setting (length text) (l ∷ ls) ≡ suc (ahead text false f).at
  first_points text l ls u f is tails w h fresh point = by_why (reason false l.bytes) refl h where
    zero : l.at + 0 ≡ l.at
    zero = omega arith

    out : (v : Why) → reason false l.bytes ≡ v → Pointing (v ≡ Colon) (l.at + plain_len false false l.bytes) (ahead text false (content_end false l.bytes l.at))
    out v i = subst (λ a. Pointing (v ≡ Colon) (a + plain_len false false l.bytes) (ahead text false (content_end false l.bytes a))) zero (part_points text l ls is 0 (omega arith) v i)

    -- what ends it is a colon
    by_line : (v : Why) → reason false l.bytes ≡ v → Stands (content false l.bytes) (content_end false l.bytes l.at) ≡ Stands u f → (v ≡ Colon) × ((ahead text false f).at ≡ l.at + plain_len false false l.bytes)
    by_line v i h =
        let e = same_place _ u (content_end false l.bytes l.at) f h in
        subst (λ n. (ahead text false n).fresh ≡ false → is_point (ahead text false n).token ≡ true → (v ≡ Colon) × ((ahead text false n).at ≡ l.at + plain_len false false l.bytes)) e (out v i) fresh point

    by_why : (v : Why) → reason false l.bytes ≡ v → first block_setting v l.at l.bytes ls ≡ Stands u f → part_shown v (l.at + plain_len false false l.bytes) (more_shown block_setting (length text) ls) ≡ suc (ahead text false f).at
    by_why Break i h = absurd (more_points text ls (content false l.bytes) (content_end false l.bytes l.at) 0 u f tails w (λ a b. not_colon (out Break i a b).0) h fresh point) where
      not_colon : Break ≡ Colon → ⊥
      not_colon z = cc
    by_why Return i h = absurd (fails_not _ u f h)
    by_why Colon i h = let g = (by_line Colon i h).1 in ap suc (sym g)
    by_why Comment i h = absurd (let g = (by_line Comment i h).0 in cc)
    by_why Mark i h = absurd (let g = (by_line Mark i h).0 in cc)

  pub plain_points : (text : List ℕ) (at : ℕ) (u : List ℕ) (f : ℕ) → at ≤ length text → plain_scalar block_setting text at ≡ Stands u f → (ahead text false f).fresh ≡ false → is_point (ahead text false f).token ≡ true → plain_shown block_setting (length text) (lines at (drop at text)) ≡ suc (ahead text false f).at
  plain_points text at u f low h fresh point =
      let xs = drop at text in
      let e = lines_are at xs in
      let l : Line = record { at = at; bytes = line_at xs; broken = has_break xs } in
      let o2 = subst (Tails text) e (tails_of text at) in
      let w = subst (Within (length text)) e (lines_within (length text) at xs (omega (arith, low, length-drop at text))) in
      let h2 : plain_on block_setting (is_first_column text at) (l ∷ behind at xs) ≡ Stands u f = sym (ap (plain_on block_setting (is_first_column text at)) e) ∙ h in
      let start = opens_stands block_setting (is_first_column text at) l (behind at xs) u f h2 in
      subst (λ ls. plain_shown block_setting (length text) ls ≡ suc (ahead text false f).at) (sym e) (first_points text l (behind at xs) u f (tail_is text l (behind at xs) o2.0 w.0) o2.1 w.1 start.2 fresh point)
