-- A key is told by its line alone, so a break behind the text changes none. By the cases of scalars.
use Rattle.std.proofs.Common.{◌≡◌, ℕ, zero, suc, ◌+◌, ◌<◌, Bool, true, false, ◌||◌, ◌&&◌, not, cond, nat_eq, arith, List, [], ◌∷◌, ◌++◌, drop, length, refl, sym, ap, ◌∙◌, true≢false, length-drop}
use Rattle.yaml_scalars.specs.declared.scalar.Setting.{Setting}
use Rattle.yaml_scalars.specs.declared.plain_line.Why.{Why}
use Rattle.yaml_scalars.specs.declared.plain_line.Why.TheVariants.{Break, Return, Colon, Comment, Mark}
use Rattle.yaml_scalars.specs.Lines.{Line, Stands, Fails, begins_with, begins_break, ends_with, is_mark, is_cut_mark, lines}
use Rattle.yaml_scalars.specs.Plain.{begins_plain, wrong_begin, content, content_end, reason, more, first, plain_on}
use Rattle.yaml_scalars.specs.Quoted.{quoted_on}
use Rattle.yaml_scalars.specs.Scalar.{is_first_column, begins_quoted, begins_block, plain_scalar, quoted_scalar, block_scalar, scalar_at}
use Rattle.yaml_scalars.specs.code.Walk.{line_at, has_break, behind}
use Rattle.yaml_scalars.proofs.Places.{lines_are}
use Rattle.yaml_laws.proofs.Agree.{drop_before}
use Rattle.yaml_laws.proofs.ScalarLaw.{column_longer}

-- ---- from the first line on

first_same : (s : Setting) (w : Why) (at : ℕ) (bytes : List ℕ) (ls ms : List Line) → s.one_line ≡ true → first s w at bytes ls ≡ first s w at bytes ms
first_same s Break at bytes ls ms one =
    ap (λ q. cond q (Stands (content s.flow bytes) (content_end s.flow bytes at)) (more s ls (content s.flow bytes) (content_end s.flow bytes at) 0)) one
    ∙ sym (ap (λ q. cond q (Stands (content s.flow bytes) (content_end s.flow bytes at)) (more s ms (content s.flow bytes) (content_end s.flow bytes at) 0)) one)
first_same s Return at bytes ls ms one = refl
first_same s Colon at bytes ls ms one = refl
first_same s Comment at bytes ls ms one = refl
first_same s Mark at bytes ls ms one = refl

plain_same : (s : Setting) (fresh : Bool) (at : ℕ) (bytes : List ℕ) (q r : Bool) (ls ms : List Line) → s.one_line ≡ true → plain_on s fresh (record { at = at; bytes = bytes; broken = q } ∷ ls) ≡ plain_on s fresh (record { at = at; bytes = bytes; broken = r } ∷ ms)
plain_same s fresh at bytes q r ls ms one =
    ap (λ o. cond (fresh && (is_mark bytes || is_cut_mark bytes)) (Fails (at + 3)) (cond (begins_plain s.flow bytes) o (Fails (wrong_begin at bytes)))) (first_same s (reason s.flow bytes) at bytes ls ms one)

quoted_same : (size most at : ℕ) (bytes : List ℕ) (o q r : Bool) (ls ms : List Line) → o ≡ true → quoted_on o size (record { at = at; bytes = bytes; broken = q } ∷ ls) ≡ quoted_on o most (record { at = at; bytes = bytes; broken = r } ∷ ms)
quoted_same size most at bytes true q r ls ms one = refl
quoted_same size most at bytes false q r ls ms one = absurd (true≢false (sym one))

-- ---- texts

no_block : (s : Setting) (xs : List ℕ) → s.one_line ≡ true → begins_block s xs ≡ false
no_block s xs one = ap (λ o. not (s.flow || o) && (begins_with 124 xs || begins_with 62 xs)) one ∙ by_flow s.flow where
  by_flow : (f : Bool) → (not (f || true) && (begins_with 124 xs || begins_with 62 xs)) ≡ false
  by_flow true = refl
  by_flow false = refl

pub by_kind : (s : Setting) (text : List ℕ) (at : ℕ) → s.one_line ≡ true → scalar_at s text at ≡ cond (begins_quoted (drop at text)) (quoted_scalar s text at) (plain_scalar s text at)
by_kind s text at one = ap (λ q. cond (begins_quoted (drop at text)) (quoted_scalar s text at) (cond q (block_scalar s text at) (plain_scalar s text at))) (no_block s (drop at text) one)

-- texts with the same line at a place have the same key there
key_same : (s : Setting) (a b : List ℕ) (at : ℕ) → s.one_line ≡ true → line_at (drop at b) ≡ line_at (drop at a) → begins_quoted (drop at b) ≡ begins_quoted (drop at a) → is_first_column b at ≡ is_first_column a at → scalar_at s b at ≡ scalar_at s a at
key_same s a b at one line quoted column =
    by_kind s b at one ∙ ap (λ q. cond q (quoted_scalar s b at) (plain_scalar s b at)) quoted
    ∙ ap (λ o. cond (begins_quoted (drop at a)) o (plain_scalar s b at)) quotes
    ∙ ap (λ o. cond (begins_quoted (drop at a)) (quoted_scalar s a at) o) plains ∙ sym (by_kind s a at one) where
      quotes : quoted_scalar s b at ≡ quoted_scalar s a at
      quotes =
          ap (quoted_on s.one_line (length b)) (lines_are at (drop at b))
          ∙ ap (λ (t : List ℕ). quoted_on s.one_line (length b) (record { at = at; bytes = t; broken = has_break (drop at b) } ∷ behind at (drop at b))) line
          ∙ quoted_same (length b) (length a) at (line_at (drop at a)) s.one_line (has_break (drop at b)) (has_break (drop at a)) (behind at (drop at b)) (behind at (drop at a)) one
          ∙ sym (ap (quoted_on s.one_line (length a)) (lines_are at (drop at a)))

      plains : plain_scalar s b at ≡ plain_scalar s a at
      plains =
          ap (λ q. plain_on s q (lines at (drop at b))) column ∙ ap (plain_on s (is_first_column a at)) (lines_are at (drop at b))
          ∙ ap (λ (t : List ℕ). plain_on s (is_first_column a at) (record { at = at; bytes = t; broken = has_break (drop at b) } ∷ behind at (drop at b))) line
          ∙ plain_same s (is_first_column a at) at (line_at (drop at a)) (has_break (drop at b)) (has_break (drop at a)) (behind at (drop at b)) (behind at (drop at a)) one
          ∙ sym (ap (plain_on s (is_first_column a at)) (lines_are at (drop at a)))

-- ---- a break behind the text

line_fed : (xs y : List ℕ) → ends_with 13 xs ≡ false → line_at (xs ++ (10 ∷ y)) ≡ line_at xs
line_fed [] y h = refl
line_fed (b ∷ []) y h = ap (λ q. cond (nat_eq b 10 || q) [] (b ∷ [])) (ap (λ q. q && true) h) ∙ sym (ap (λ q. cond (nat_eq b 10 || (q && false)) [] (b ∷ [])) h)
line_fed (b ∷ c ∷ xs) y h = ap (λ t. cond (begins_break b (c ∷ xs)) [] (b ∷ t)) (line_fed (c ∷ xs) y h)

line_broken : (xs y : List ℕ) → line_at (xs ++ (13 ∷ 10 ∷ y)) ≡ line_at xs
line_broken [] y = refl
line_broken (b ∷ []) y = refl
line_broken (b ∷ c ∷ xs) y = ap (λ t. cond (begins_break b (c ∷ xs)) [] (b ∷ t)) (line_broken (c ∷ xs) y)

begins_longer : (k : ℕ) (xs y : List ℕ) → 0 < length xs → begins_with k (xs ++ y) ≡ begins_with k xs
begins_longer k [] y l = absurd (omega (arith, l))
begins_longer k (x ∷ xs) y l = refl

quoted_longer : (text y : List ℕ) (at : ℕ) → at < length text → begins_quoted (drop at (text ++ y)) ≡ begins_quoted (drop at text)
quoted_longer text y at l =
    let some : 0 < length (drop at text) = omega (arith, l, length-drop at text) in
    ap begins_quoted (drop_before at text y (omega (arith, l))) ∙ ap (λ q. q || begins_with 39 (drop at text ++ y)) (begins_longer 34 (drop at text) y some) ∙ ap (λ q. begins_with 34 (drop at text) || q) (begins_longer 39 (drop at text) y some)

pub ends_past : (n : ℕ) (f : List ℕ) → ends_with 13 f ≡ false → ends_with 13 (drop n f) ≡ false
ends_past zero f h = h
ends_past (suc n) [] h = refl
ends_past (suc n) (b ∷ []) h = ends_past n [] refl
ends_past (suc n) (b ∷ c ∷ f) h = ends_past n (c ∷ f) h

pub key_fed : (s : Setting) (text y : List ℕ) (at : ℕ) → s.one_line ≡ true → at < length text → ends_with 13 text ≡ false → scalar_at s (text ++ (10 ∷ y)) at ≡ scalar_at s text at
key_fed s text y at one l last =
    key_same s text (text ++ (10 ∷ y)) at one (ap line_at (drop_before at text (10 ∷ y) (omega (arith, l))) ∙ line_fed (drop at text) y (ends_past at text last)) (quoted_longer text (10 ∷ y) at l) (column_longer text (10 ∷ y) at (omega (arith, l)))

pub key_broken : (s : Setting) (text y : List ℕ) (at : ℕ) → s.one_line ≡ true → at < length text → scalar_at s (text ++ (13 ∷ 10 ∷ y)) at ≡ scalar_at s text at
key_broken s text y at one l =
    key_same s text (text ++ (13 ∷ 10 ∷ y)) at one (ap line_at (drop_before at text (13 ∷ 10 ∷ y) (omega (arith, l))) ∙ line_broken (drop at text) y) (quoted_longer text (13 ∷ 10 ∷ y) at l) (column_longer text (13 ∷ 10 ∷ y) at (omega (arith, l)))
