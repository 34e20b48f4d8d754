-- Where a scalar breaks off with a dot so far, what is ahead of it is shown within the text, and so is the same in each longer text. By the first byte of what is ahead.
use Rattle.std.proofs.Common.{◌≡◌, ℕ, suc, ◌-◌, ◌<◌, ◌≤◌, ◌⊎◌, inl, inr, Bool, true, false, ◌||◌, ◌&&◌, not, cond, nat_eq, nat_lt, arith, List, [], ◌∷◌, ◌++◌, drop, length, refl, sym, ap, ◌∙◌, subst, true≢false, length-drop}
use Rattle.std.proofs.lemmas.Bool.{cases_lt}
use Rattle.std.proofs.lemmas.Bool.Decides.{nat_tests}
use Rattle.std.specs.Prelude.{ℤ}
use Rattle.std.specs.Str.{IsCharBoundary, IsUtf8}
use Rattle.yaml_scalars.specs.declared.scalar.Setting.{Setting}
use Rattle.yaml_scalars.specs.Block.{same}
use Rattle.yaml_scalars.specs.Lines.{Stands, Fails, begins_with, ends_with, is_mark, is_white, lead, lines}
use Rattle.yaml_scalars.specs.Plain.{plain_on}
use Rattle.yaml_scalars.specs.Scalar.{begins_block, begins_quoted, block_scalar, is_first_column, quoted_scalar, scalar_at}
use Rattle.yaml_scalars.specs.code.Walk.{line_at}
use Rattle.yaml_laws.specs.code.Dots.{is_dotless, undotted}
use Rattle.yaml_laws.proofs.PlainLonger.{not_stands}
use Rattle.yaml_grammar.specs.declared.ahead.Ahead.{Ahead}
use Rattle.yaml_grammar.specs.Ahead.{is_name, token_len, token_of, ahead}
use Rattle.yaml_grammar.specs.Nodes.{starts_scalar}
use Rattle.yaml_grammar.specs.code.AheadSeen.{ahead_seen, first_return, is_told}
use Rattle.yaml_grammar.specs.code.Points.{is_last_point}
use Rattle.yaml_grammar.specs.code.StopPlaces.{run_width, token_width, width}
use Rattle.yaml_grammar.proofs.Back.{twin_end}
use Rattle.yaml_grammar.proofs.FirstMarks.{first_unmarked}
use Rattle.yaml_grammar.proofs.FirstTokens.{first_byte}
use Rattle.yaml_grammar.proofs.Lengthened.{ends_drop, told_at, word_told}
use Rattle.yaml_grammar.proofs.Placed.{placed}
use Rattle.yaml_grammar.proofs.Pointed.{last_parts, point_of}
use Rattle.yaml_grammar.proofs.RootLonger.{told_calm}
use Rattle.yaml_grammar.proofs.Runs.{IsRun, run_of}
use Rattle.yaml_grammar.proofs.ScalarAhead.{name_scalar, seen_scalar}
use Rattle.yaml_grammar.proofs.ShownTokens.{ahead_wide}
use Rattle.yaml_grammar.proofs.Twins.{twin_ahead}

-- ---- one to three dots that end the text

abbrev many : ℤ → Bool → Setting
many parent flow = record { parent = parent; flow = flow; one_line = false }

one_dot : (parent : ℤ) (flow fresh : Bool) (at n : ℕ) → plain_on (many parent flow) fresh (lines at (46 ∷ [])) ≡ Fails n → ⊥
one_dot parent true true at n h = not_stands _ _ n h
one_dot parent true false at n h = not_stands _ _ n h
one_dot parent false true at n h = not_stands _ _ n h
one_dot parent false false at n h = not_stands _ _ n h

two_dots : (parent : ℤ) (flow fresh : Bool) (at n : ℕ) → plain_on (many parent flow) fresh (lines at (46 ∷ 46 ∷ [])) ≡ Fails n → ⊥
two_dots parent true true at n h = not_stands _ _ n h
two_dots parent true false at n h = not_stands _ _ n h
two_dots parent false true at n h = not_stands _ _ n h
two_dots parent false false at n h = not_stands _ _ n h

three_dots : (parent : ℤ) (flow fresh : Bool) (at n : ℕ) → fresh ≡ false → plain_on (many parent flow) fresh (lines at (46 ∷ 46 ∷ 46 ∷ [])) ≡ Fails n → ⊥
three_dots parent flow true at n s h = true≢false s
three_dots parent true false at n s h = not_stands _ _ n h
three_dots parent false false at n s h = not_stands _ _ n h

module _ (s : Setting) (text : List ℕ) (at n : ℕ) (one : s.one_line ≡ false) (fails : scalar_at s text at ≡ Fails n) where
  setting : s ≡ many s.parent s.flow
  setting = ap (λ (q : Bool). record { parent = s.parent; flow = s.flow; one_line = q }) one

  plain_bytes : (xs : List ℕ) → drop at text ≡ xs → begins_quoted xs ≡ false → (begins_with 124 xs || begins_with 62 xs) ≡ false → plain_on (many s.parent s.flow) (is_first_column text at) (lines at xs) ≡ Fails n
  plain_bytes xs e quoted block =
      ap (λ z. plain_on z (is_first_column text at) (lines at xs)) (sym setting)
      ∙ sym (ap (λ ys. cond (begins_quoted ys) (quoted_scalar s text at) (cond (begins_block s ys) (block_scalar s text at) (plain_on s (is_first_column text at) (lines at ys)))) e
      ∙ ap (λ q. cond q (quoted_scalar s text at) (cond (begins_block s xs) (block_scalar s text at) (plain_on s (is_first_column text at) (lines at xs)))) quoted
      ∙ ap (λ q. cond (not (s.flow || s.one_line) && q) (block_scalar s text at) (plain_on s (is_first_column text at) (lines at xs))) block ∙ neither (not (s.flow || s.one_line))) ∙ fails where
        neither : (q : Bool) → cond (q && false) (block_scalar s text at) (plain_on s (is_first_column text at) (lines at xs)) ≡ plain_on s (is_first_column text at) (lines at xs)
        neither true = refl
        neither false = refl

  -- they stand, where they are no mark
  no_dots : (is_first_column text at ≡ true → is_mark (line_at (drop at text)) ≡ false) → (xs : List ℕ) → drop at text ≡ xs → (xs ≡ 46 ∷ []) ⊎ ((xs ≡ 46 ∷ 46 ∷ []) ⊎ (xs ≡ 46 ∷ 46 ∷ 46 ∷ [])) → ⊥
  no_dots none xs e (inl z) = one_dot s.parent s.flow (is_first_column text at) at n (plain_bytes (46 ∷ []) (e ∙ z) refl refl)
  no_dots none xs e (inr (inl z)) = two_dots s.parent s.flow (is_first_column text at) at n (plain_bytes (46 ∷ 46 ∷ []) (e ∙ z) refl refl)
  no_dots none xs e (inr (inr z)) = three_dots s.parent s.flow (is_first_column text at) at n (stale (is_first_column text at) refl) (plain_bytes (46 ∷ 46 ∷ 46 ∷ []) (e ∙ z) refl refl) where
    stale : (q : Bool) → is_first_column text at ≡ q → q ≡ false
    stale true k = absurd (true≢false (ap (λ t. is_mark (line_at t)) (sym (e ∙ z)) ∙ none k))
    stale false k = refl

-- ---- bytes without a dot

one_undotted : (e : Bool) (b : ℕ) → is_dotless b ≡ true → undotted e false (b ∷ []) ≡ true
one_undotted e b h = ap (λ q. q && cond (e && nat_eq b 92) true true) h ∙ either (e && nat_eq b 92) where
  either : (q : Bool) → cond q true true ≡ true
  either true = refl
  either false = refl

dashes_undotted : (xs : List ℕ) → (xs ≡ 45 ∷ []) ⊎ ((xs ≡ 45 ∷ 45 ∷ []) ⊎ (xs ≡ 45 ∷ 45 ∷ 45 ∷ [])) → undotted (begins_with 34 xs) false xs ≡ true
dashes_undotted xs (inl z) = ap (λ t. undotted (begins_with 34 t) false t) z
dashes_undotted xs (inr (inl z)) = ap (λ t. undotted (begins_with 34 t) false t) z
dashes_undotted xs (inr (inr z)) = ap (λ t. undotted (begins_with 34 t) false t) z

-- ---- what is ahead is shown within the text

module _ (text : List ℕ) (flow : Bool) (i : ℕ) (low : i ≤ length text) (starts : starts_scalar (ahead text flow i).token ≡ true) where
  place : ℕ
  place = (ahead text flow i).at

  pub fails_shown : (s : Setting) → s.one_line ≡ false → ends_with 13 text ≡ false → undotted (begins_with 34 (drop (ahead text flow i).at text)) false (drop (ahead text flow i).at text) ≡ false → scalar_at s text (ahead text flow i).at ≡ Fails (length text) → ahead_seen text i < length text
  fails_shown s one last dot fails = by_order (cases_lt (ahead_seen text i) (length text)) where
    told : is_told (ahead text flow i).token ≡ true
    told = word_told (ahead text flow i).token starts

    by_shape : (b : ℕ) (rest : List ℕ) → drop (ahead text flow i).at text ≡ b ∷ rest → IsRun (b ∷ rest) → ⊥
    by_shape b rest e (c, inl k, shape) = true≢false (sym (dashes_undotted (b ∷ rest) (dashes c k shape)) ∙ ap (λ t. undotted (begins_with 34 t) false t) (sym e) ∙ dot) where
      dashes : (c : ℕ) → c ≡ 45 → (b ∷ rest ≡ c ∷ []) ⊎ ((b ∷ rest ≡ c ∷ c ∷ []) ⊎ (b ∷ rest ≡ c ∷ c ∷ c ∷ [])) → (b ∷ rest ≡ 45 ∷ []) ⊎ ((b ∷ rest ≡ 45 ∷ 45 ∷ []) ⊎ (b ∷ rest ≡ 45 ∷ 45 ∷ 45 ∷ []))
      dashes c k = subst (λ d. (b ∷ rest ≡ c ∷ []) ⊎ ((b ∷ rest ≡ c ∷ c ∷ []) ⊎ (b ∷ rest ≡ c ∷ c ∷ c ∷ [])) → (b ∷ rest ≡ d ∷ []) ⊎ ((b ∷ rest ≡ d ∷ d ∷ []) ⊎ (b ∷ rest ≡ d ∷ d ∷ d ∷ []))) k (λ h. h)
    by_shape b rest e (c, inr k, shape) =
        no_dots s text (ahead text flow i).at (length text) one fails (first_unmarked text flow i told) (b ∷ rest) e
        (subst (λ d. (b ∷ rest ≡ d ∷ []) ⊎ ((b ∷ rest ≡ d ∷ d ∷ []) ⊎ (b ∷ rest ≡ d ∷ d ∷ d ∷ []))) k shape)

    far_none : length text ≤ ahead_seen text i → (b : ℕ) (rest : List ℕ) → drop (ahead text flow i).at text ≡ b ∷ rest → (ahead text flow i).token ≡ token_of flow (b ∷ line_at rest) → ⊥
    far_none far b rest e tok = by_tests (nat_eq b 33) (nat_eq b 45) (nat_eq b 46) (nat_eq b 58) (nat_eq b 13) refl refl refl refl wide where
      wide : suc (length rest) ≤ token_width (b ∷ rest)
      wide =
          let a : Ahead = ahead text flow i in
          let calm = told_calm a.token told in
          let z = ahead_wide text flow i calm.0 in
          let w : width a (drop a.at text) ≡ token_width (b ∷ rest) = ap (λ q. cond (q && (a.fresh || nat_lt 0 a.column)) (first_return (drop a.at text)) (token_width (drop a.at text))) calm.1 ∙ ap token_width e in
          let l = told_at text flow i told in
          let n = ap (λ (t : List ℕ). length t) e in
          omega (arith, z, w, far, l, n, length-drop (ahead text flow i).at text)

      ended : (q : Bool) → ends_with 13 (b ∷ rest) ≡ q → ends_with 13 (b ∷ rest) ≡ false
      ended true k = absurd (true≢false (sym (ends_drop (ahead text flow i).at text (b ∷ rest) e k) ∙ last))
      ended false k = k

      alone : (rest : List ℕ) → is_dotless b ≡ true → drop (ahead text flow i).at text ≡ b ∷ rest → suc (length rest) ≤ 1 → ⊥
      alone [] d e l = true≢false (sym (one_undotted (nat_eq b 34) b d) ∙ ap (λ t. undotted (begins_with 34 t) false t) (sym e) ∙ dot)
      alone (x ∷ xs) d e l = omega (arith, l)

      by_tests : (p q r c t : Bool) → nat_eq b 33 ≡ p → nat_eq b 45 ≡ q → nat_eq b 46 ≡ r → (c || t) ≡ (nat_eq b 58 || nat_eq b 13)
          → suc (length rest) ≤ cond p (suc (lead is_name (line_at rest))) (cond (q || r) (run_width (suc (same b 2 rest)) rest) (cond (c || t) 1 0)) → ⊥
      by_tests true q r c t h i j k l = let n : b ≡ 33 = grind (arith, nat_tests, h) in true≢false (sym starts ∙ ap starts_scalar tok ∙ ap (λ c. starts_scalar (token_of flow (c ∷ line_at rest))) n ∙ name_scalar flow (line_at rest))
      by_tests false true r c t h i j k l = by_shape b rest e (run_of b rest (inl (grind (arith, nat_tests, i))) (ended (ends_with 13 (b ∷ rest)) refl) l)
      by_tests false false true c t h i j k l = by_shape b rest e (run_of b rest (inr (grind (arith, nat_tests, j))) (ended (ends_with 13 (b ∷ rest)) refl) l)
      by_tests false false false true t h i j k l = alone rest (ap not j) e l
      by_tests false false false false true h i j k l = alone rest (ap not j) e l
      by_tests false false false false false h i j k l = omega (arith, l)

    by_order : (ahead_seen text i < length text) ⊎ (length text ≤ ahead_seen text i) → ahead_seen text i < length text
    by_order (inl l) = l
    by_order (inr far) = absurd (by_byte (first_byte text flow i told)) where
      by_byte : (b : ℕ) × (rest : List ℕ) × (drop (ahead text flow i).at text ≡ b ∷ rest) × (is_white b ≡ false) × ((ahead text flow i).token ≡ token_of flow (b ∷ line_at rest)) → ⊥
      by_byte (b, rest, e, black, tok) = far_none far b rest e tok

  -- a colon that ends the text stands behind one that stands
  pub stands_shown : (s : Setting) (t : List ℕ) (e : ℕ) → IsUtf8 text → IsCharBoundary text e → (ahead text flow i).at < e → is_last_point text flow (ahead text flow e) ≡ true → scalar_at s text (ahead text flow i).at ≡ Stands t e → ahead_seen text i < length text
  stands_shown s t e utf8 cut begun last st =
      let seen = seen_scalar s text flow i t e low starts begun st in
      let p = last_parts text flow (ahead text flow e) last in
      let place = placed text flow e utf8 cut in
      let n : token_len (ahead text flow e).token ≡ 1 = ap token_len (point_of (ahead text flow e).token p.0).1 in
      omega (arith, seen, place.0, place.3, n, p.1)

  pub ahead_longer : (more : List ℕ) → IsUtf8 text → IsUtf8 (text ++ more) → ends_with 13 text ≡ false → ahead_seen text i < length text → ahead (text ++ more) flow i ≡ ahead text flow i
  ahead_longer more utf8 long last near = twin_ahead text (length text - 1) (text ++ more) (twin_end text more utf8 long (omega (arith, near)) last) flow i low (omega (arith, near))
