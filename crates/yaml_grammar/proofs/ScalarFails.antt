-- Where a scalar fails at what is ahead, that is shown not behind the place at which it fails, unless the bytes of a mark stand there before a carriage return. By induction over lines.
use Rattle.std.proofs.Common.{◌≡◌, ℕ, zero, suc, ◌+◌, ◌-◌, ◌<◌, ◌≤◌, inl, inr, Bool, true, false, ◌||◌, ◌&&◌, not, cond, nat_eq, nat_lt, arith, List, [], ◌∷◌, ◌++◌, drop, length, refl, sym, ap, ◌∙◌, subst, true≢false, length-append, length-drop}
use Rattle.std.proofs.lemmas.Bool.Decides.{nat_tests}
use Rattle.yaml_scalars.specs.declared.scalar.Setting.{Setting}
use Rattle.yaml_scalars.specs.Lines.{Line, Fails, lines, begins_with, is_white, is_blank, lead, past_white, indent, is_mark, is_cut_mark}
use Rattle.yaml_scalars.specs.Plain.{is_flow_mark, is_unsafe, is_indicator, is_doubtful, begins_plain, wrong_begin, plain_len, content, content_end, plain_on}
use Rattle.yaml_scalars.specs.Block.{same, mark_len, shown, widest}
use Rattle.yaml_scalars.specs.Scalar.{is_first_column, plain_scalar, quoted_scalar, block_scalar, scalar_at}
use Rattle.yaml_scalars.specs.code.Walk.{line_at, has_break, behind}
use Rattle.yaml_scalars.proofs.Places.{lines_are, line_fits}
use Rattle.yaml_grammar.specs.code.AheadSeen.{token_shown, first_return, content_shown, line_seen, rest_seen, ahead_seen}
use Rattle.yaml_laws.proofs.Agree.{Later, Within, lines_within}
use Rattle.yaml_laws.proofs.BlockShown.{blank_less}
use Rattle.yaml_laws.proofs.PlainDead.{more_later}
use Rattle.yaml_laws.proofs.PlainLaw.{dash, marked, opens_fails}
use Rattle.yaml_laws.proofs.PlainStays.{dashes_long}
use Rattle.yaml_laws.proofs.ScalarLaw.{scalar_lower}
use Rattle.yaml_grammar.proofs.AheadOrder.{widest_less}
use Rattle.yaml_grammar.proofs.LineTails.{Tails, IsTail, tails_of, tail_is}
use Rattle.yaml_grammar.proofs.Looks.{white_rest}
use Rattle.yaml_grammar.proofs.ScalarAhead.{begins_line, mark_split, marked_shown, no_mark, return_scalar, comment_scalar, name_scalar, line_of}
use Rattle.yaml_grammar.proofs.ScalarOrder.{first_bytes}
use Rattle.yaml_grammar.specs.declared.ahead.Token.TheVariants.{Dashes, Dots, Tabbed, Stray}
use Rattle.yaml_grammar.specs.Ahead.{is_name, tab_token, is_tabbed, token_of, token_at, mark_of, has_return, is_passed, content_ahead, line_ahead, rest_ahead, ahead}
use Rattle.yaml_grammar.specs.Nodes.{starts_scalar}

-- ---- a plain scalar fails not before so many bytes of its first line

not_before : (q p : ℕ) → (p < q → ⊥) → q ≤ p
not_before q p h = by_test (nat_lt p q) refl where
  by_test : (r : Bool) → nat_lt p q ≡ r → q ≤ p
  by_test true e = absurd (h (grind (arith, nat_tests, e)))
  by_test false e = grind (arith, nat_tests, e)

later_less : (p q : ℕ) (ls : List Line) → q ≤ p → Later p ls → Later q ls
later_less p q [] l w = tt
later_less p q (m ∷ ls) l w = ((let a = w.0 in omega (arith, l, a)), later_less p q ls l w.1)

plain_shows : (s : Setting) (fresh : Bool) (n p : ℕ) (l : Line) (ls : List Line) → Later (l.at + length l.bytes) ls → n ≤ length l.bytes → n ≤ 3 → (begins_plain s.flow l.bytes ≡ false → l.at + n ≤ wrong_begin l.at l.bytes) → n ≤ plain_len s.flow false l.bytes + 1 → plain_on s fresh (l ∷ ls) ≡ Fails p → l.at + n ≤ p
plain_shows s fresh n p l ls later long three wrong len h = elim (opens_fails s fresh l.at l.bytes ls p h) [
  | inl m ↦ (let e = m.1 in omega (arith, e, three))
  | inr o ↦ elim o [
    | inl b ↦ (let e = b.1 in let w = wrong b.0 in omega (arith, e, w))
    | inr g ↦ elim g.1 [
      | inl r ↦ (let e = r.1 in omega (arith, e, len))
      | inr m ↦ not_before (l.at + n) p (λ less. more_later s p ls (content s.flow l.bytes) (content_end s.flow l.bytes l.at) 0 (later_less (l.at + length l.bytes) p ls (omega (arith, less, long)) later) m)
    ]
  ]
]

-- ---- one byte

abbrev is_told : ℕ → Bool
is_told c = nat_eq c 45 || (nat_eq c 46 || nat_eq c 58)

told_plain : (s : Setting) (text : List ℕ) (at c : ℕ) (z : List ℕ) → line_at (drop at text) ≡ c ∷ z → is_told c ≡ true → scalar_at s text at ≡ plain_scalar s text at
told_plain s text at c z e d =
    let a : begins_with 34 (drop at text) ≡ false = begins_line 34 c z (drop at text) e ∙ grind (arith, nat_tests, d) in
    let b : begins_with 39 (drop at text) ≡ false = begins_line 39 c z (drop at text) e ∙ grind (arith, nat_tests, d) in
    let f : begins_with 124 (drop at text) ≡ false = begins_line 124 c z (drop at text) e ∙ grind (arith, nat_tests, d) in
    let g : begins_with 62 (drop at text) ≡ false = begins_line 62 c z (drop at text) e ∙ grind (arith, nat_tests, d) in
    by_tests (begins_with 34 (drop at text)) (begins_with 39 (drop at text)) (begins_with 124 (drop at text)) (begins_with 62 (drop at text)) (s.flow || s.one_line) a b f g where
      by_tests : (p q r v w : Bool) → p ≡ false → q ≡ false → r ≡ false → v ≡ false → cond (p || q) (quoted_scalar s text at) (cond (not w && (r || v)) (block_scalar s text at) (plain_scalar s text at)) ≡ plain_scalar s text at
      by_tests true q r v w i j k l = absurd (true≢false i)
      by_tests false true r v w i j k l = absurd (true≢false j)
      by_tests false false true v w i j k l = absurd (true≢false k)
      by_tests false false false true w i j k l = absurd (true≢false l)
      by_tests false false false false true i j k l = refl
      by_tests false false false false false i j k l = refl

-- the lines from a place on, of which the first has such bytes
plain_at : (s : Setting) (text : List ℕ) (at n p c : ℕ) (z : List ℕ) → at ≤ length text → line_at (drop at text) ≡ c ∷ z → is_told c ≡ true → n ≤ suc (length z) → n ≤ 3 → (begins_plain s.flow (c ∷ z) ≡ false → at + n ≤ wrong_begin at (c ∷ z)) → n ≤ plain_len s.flow false (c ∷ z) + 1 → scalar_at s text at ≡ Fails p → at + n ≤ p
plain_at s text at n p c z low e d long three wrong len h =
    let xs = drop at text in
    let l : Line = record { at = at; bytes = line_at xs; broken = has_break xs } in
    let on : plain_on s (is_first_column text at) (l ∷ behind at xs) ≡ Fails p = sym (ap (plain_on s (is_first_column text at)) (lines_are at xs)) ∙ sym (told_plain s text at c z e d) ∙ h in
    let fits = line_fits xs in
    let later = (tail_is text l (behind at xs) (lines_are at xs) (omega (arith, low, fits, length-drop at text))).2 in
    plain_shows s (is_first_column text at) n p l (behind at xs) later (let y = ap (λ (t : List ℕ). length t) e in omega (arith, y, long)) three (subst (λ t. begins_plain s.flow t ≡ false → at + n ≤ wrong_begin at t) (sym e) wrong) (subst (λ t. n ≤ plain_len s.flow false t + 1) (sym e) len) on

-- ---- a token that is told by its first byte or the next

token_low : (flow : Bool) (s : Setting) (text : List ℕ) (at p : ℕ) → at < length text → starts_scalar (token_of flow (line_at (drop at text))) ≡ true → scalar_at s text at ≡ Fails p → at + token_shown (line_at (drop at text)) ≤ p
token_low flow s text at p low start h = by_bytes (line_at (drop at text)) refl start where
  least : at ≤ p
  least = scalar_lower s text at p low h

  by_bytes : (xs : List ℕ) → line_at (drop at text) ≡ xs → starts_scalar (token_of flow xs) ≡ true → at + token_shown xs ≤ p
  by_bytes [] e g = let z = least in omega (arith, z)
  by_bytes (c ∷ z) e g = by_name (nat_eq c 33) refl where
    other : (q : Bool) → (nat_eq c 45 || (nat_eq c 58 || nat_eq c 13)) ≡ q → at + cond q 1 0 ≤ p
    other false i = let y = least in omega (arith, y)
    other true i = by_return (nat_eq c 13) refl where
      by_return : (r : Bool) → nat_eq c 13 ≡ r → at + 1 ≤ p
      by_return true r = absurd (true≢false (sym g ∙ return_scalar flow (c ∷ z) r))
      by_return false r =
          let doubt : is_doubtful c ≡ true = grind (arith, nat_tests, i, r) in
          plain_at s text at 1 p c z (omega (arith, low)) e (grind (arith, nat_tests, i, r)) (omega arith) (omega arith) (λ b. subst (λ q. at + 1 ≤ cond q (suc at) at) (sym doubt) (omega arith)) (omega arith) h

    by_name : (q : Bool) → nat_eq c 33 ≡ q → at + cond q (suc (lead is_name z)) (cond (nat_eq c 45 || (nat_eq c 58 || nat_eq c 13)) 1 0) ≤ p
    by_name true i = let n : c ≡ 33 = grind (arith, nat_tests, i) in absurd (true≢false (sym g ∙ ap (λ c. starts_scalar (token_of flow (c ∷ z))) n ∙ name_scalar flow z))
    by_name false i = other (nat_eq c 45 || (nat_eq c 58 || nat_eq c 13)) refl

-- ---- dashes and points in front of a line

same_le : (a n : ℕ) (bs : List ℕ) → same a n bs ≤ n
same_le a zero bs = omega arith
same_le a (suc n) [] = omega arith
same_le a (suc n) (b ∷ bs) = by_byte (nat_eq b a) (same_le a n bs) where
  by_byte : (q : Bool) → same a n bs ≤ n → cond q (suc (same a n bs)) 0 ≤ suc n
  by_byte true h = omega (arith, h)
  by_byte false h = omega arith

-- a dash that begins no plain scalar has no other behind it
dash_wrong : (flow : Bool) (b : ℕ) (bs : List ℕ) (at : ℕ) → dash b ≡ true → begins_plain flow (b ∷ bs) ≡ false → at + suc (same b 2 bs) ≤ wrong_begin at (b ∷ bs)
dash_wrong flow b bs at d h = by_point (nat_eq b 46) refl where
  first : not (is_white b || is_indicator b || nat_eq b 13) ≡ true
  first = grind (arith, nat_tests, d)

  by_point : (q : Bool) → nat_eq b 46 ≡ q → at + suc (same b 2 bs) ≤ cond (is_doubtful b) (suc at) at
  by_point true e =
      let none : is_doubtful b ≡ false = grind (arith, nat_tests, e) in
      absurd (true≢false (sym (ap (λ q. q && (not (is_doubtful b) || not (is_unsafe flow bs || begins_with 13 bs))) first ∙ ap (λ q. not q || not (is_unsafe flow bs || begins_with 13 bs)) none) ∙ h))
  by_point false e =
      let doubt : is_doubtful b ≡ true = grind (arith, nat_tests, d, e) in
      let loose : (is_unsafe flow bs || begins_with 13 bs) ≡ true = twice (is_unsafe flow bs || begins_with 13 bs) (sym (ap (λ q. q && (not (is_doubtful b) || not (is_unsafe flow bs || begins_with 13 bs))) first ∙ ap (λ q. not q || not (is_unsafe flow bs || begins_with 13 bs)) doubt) ∙ h) in
      let zero_same = alone bs loose in
      subst (λ q. at + suc (same b 2 bs) ≤ cond q (suc at) at) (sym doubt) (omega (arith, zero_same)) where
        twice : (q : Bool) → not q ≡ false → q ≡ true
        twice true g = refl
        twice false g = absurd (true≢false g)

        alone : (bs : List ℕ) → (is_unsafe flow bs || begins_with 13 bs) ≡ true → same b 2 bs ≡ 0
        alone [] g = refl
        alone (c ∷ cs) g = by_byte (nat_eq c b) refl where
          by_byte : (q : Bool) → nat_eq c b ≡ q → cond q (suc (same b 1 cs)) 0 ≡ 0
          by_byte false i = refl
          by_byte true i =
              let w : is_white c ≡ false = grind (arith, nat_tests, i, d) in
              let m : is_flow_mark c ≡ false = grind (arith, nat_tests, i, d) in
              let r : nat_eq c 13 ≡ false = grind (arith, nat_tests, i, d) in
              absurd (true≢false (sym g ∙ by_tests (is_white c) flow (is_flow_mark c) (nat_eq c 13) w m r)) where
                by_tests : (p f q r : Bool) → p ≡ false → q ≡ false → r ≡ false → ((p || (f && q)) || r) ≡ false
                by_tests true f q r a b c = absurd (true≢false a)
                by_tests false f true r a b c = absurd (true≢false b)
                by_tests false f false true a b c = absurd (true≢false c)
                by_tests false true false false a b c = refl
                by_tests false false false false a b c = refl

-- how far a line that is no comment is looked at for its token
content_is : (flow fresh : Bool) (xs : List ℕ) → starts_scalar (token_of flow (past_white xs)) ≡ true → content_shown fresh xs ≡ lead is_white xs + token_shown (past_white xs)
content_is flow fresh xs h = by_comment (fresh || nat_lt 0 (lead is_white xs)) (begins_with 35 (past_white xs)) refl where
  by_comment : (p q : Bool) → begins_with 35 (past_white xs) ≡ q → cond (p && q) (first_return xs) (lead is_white xs + token_shown (past_white xs)) ≡ lead is_white xs + token_shown (past_white xs)
  by_comment true true e = absurd (true≢false (sym h ∙ comment_scalar flow (past_white xs) e))
  by_comment true false e = refl
  by_comment false q e = refl

pub not_blank : (fresh : Bool) (xs : List ℕ) → is_passed fresh xs ≡ false → is_blank xs ≡ false
not_blank fresh xs h = by_or (is_blank xs) ((fresh || nat_lt 0 (lead is_white xs)) && (begins_with 35 (past_white xs) && not (has_return xs))) h where
  by_or : (p q : Bool) → (p || q) ≡ false → p ≡ false
  by_or true q h = absurd (true≢false h)
  by_or false q h = refl

module _ (s : Setting) (text : List ℕ) (flow : Bool) (p : ℕ) where
  -- what stands at a line's token: three bytes of a mark before a carriage return, or a scalar that fails
  abbrev Fault : ℕ → Type 0
  Fault at = (scalar_at s text at ≡ Fails p) × (is_cut_mark (line_at (drop at text)) ≡ false)

  token_here : (l : Line) (ls : List Line) (fresh : Bool) → IsTail text l ls → is_passed fresh l.bytes ≡ false → starts_scalar (token_of flow (past_white l.bytes)) ≡ true → Fault (l.at + lead is_white l.bytes) → l.at + content_shown fresh l.bytes ≤ p
  token_here l ls fresh is out start (h, cut) =
      let less = blank_less l.bytes (not_blank fresh l.bytes out) in
      let inside = is.1 in
      let bytes : line_at (drop l.at text) ≡ l.bytes = first_bytes text l ls is.0 in
      let there : past_white l.bytes ≡ line_at (drop (l.at + lead is_white l.bytes) text) = ap past_white (sym bytes) ∙ white_rest text l.at (lead is_white l.bytes) (ap (lead is_white) (sym bytes)) in
      let low = token_low flow s text (l.at + lead is_white l.bytes) p (omega (arith, less, inside)) (subst (λ t. starts_scalar (token_of flow t) ≡ true) there start) h in
      let z = content_is flow fresh l.bytes start in
      let y = ap token_shown there in
      omega (arith, low, z, y)

  dashed : (l : Line) (ls : List Line) (b : ℕ) (bs : List ℕ) → IsTail text l ls → is_mark l.bytes ≡ false → l.bytes ≡ b ∷ bs → dash b ≡ true → Fault l.at → l.at + shown l.bytes ≤ p
  dashed l ls b bs is bare i d (h, cut) =
      let there : line_at (drop l.at text) ≡ b ∷ bs = first_bytes text l ls is.0 ∙ i in
      let none : marked (b ∷ bs) ≡ false = neither (is_mark (b ∷ bs)) (is_cut_mark (b ∷ bs)) (sym (ap is_mark i) ∙ bare) (sym (ap is_cut_mark there) ∙ cut) in
      let m = marked_shown b bs (suc (same b 2 bs)) d none (omega arith) in
      let (f, u, e, j, k) = mark_split b bs d in
      let long = dashes_long s.flow false f u j in
      let size = ap (λ (t : List ℕ). length t) e in
      let len : plain_len s.flow false (b ∷ bs) ≡ plain_len s.flow false (f ++ u) = ap (plain_len s.flow false) e in
      let two = same_le b 2 bs in
      let inside = is.1 in
      let low = plain_at s text l.at (suc (same b 2 bs)) p b bs (omega (arith, inside)) there (told b d) (omega (arith, size, k, length-append f u)) (omega (arith, two)) (λ w. dash_wrong s.flow b bs l.at d w) (omega (arith, long, len, k)) h in
      let y : shown l.bytes ≡ shown (b ∷ bs) = ap shown i in
      omega (arith, low, m, y) where
        neither : (q r : Bool) → q ≡ false → r ≡ false → (q || r) ≡ false
        neither true r a b = absurd (true≢false a)
        neither false r a b = b

        told : (b : ℕ) → dash b ≡ true → is_told b ≡ true
        told b d = grind (arith, nat_tests, d)

  here : (l : Line) (ls : List Line) → IsTail text l ls → is_mark l.bytes ≡ false → is_passed true l.bytes ≡ false → starts_scalar (token_of flow (past_white l.bytes)) ≡ true → Fault (l.at + lead is_white l.bytes) → l.at + widest (shown l.bytes) (content_shown true l.bytes) ≤ p
  here l ls is bare out start h =
      let a = token_here l ls true is out start h in
      let w = by_bytes l.bytes refl in
      let z = widest_less (shown l.bytes) (content_shown true l.bytes) (p - l.at) (omega (arith, w)) (omega (arith, a)) in
      omega (arith, z, a) where
        none : mark_len l.bytes ≡ 0 → l.at + shown l.bytes ≤ p
        none m =
            let low = token_here l ls true is out start h in
            let y = content_is flow true l.bytes start in
            let a = no_mark flow l.bytes m start in
            omega (arith, a, low, y)

        by_bytes : (xs : List ℕ) → l.bytes ≡ xs → l.at + shown l.bytes ≤ p
        by_bytes [] i = none (ap mark_len i)
        by_bytes (b ∷ bs) i = by_dash (dash b) refl where
          by_dash : (q : Bool) → dash b ≡ q → l.at + shown l.bytes ≤ p
          by_dash true d =
              let white : lead is_white l.bytes ≡ 0 = ap (lead is_white) i ∙ (let w : is_white b ≡ false = grind (arith, nat_tests, d) in ap (λ q. cond q (suc (lead is_white bs)) 0) w) in
              let there : l.at + lead is_white l.bytes ≡ l.at = omega (arith, white) in
              dashed l ls b bs is bare i d (subst Fault there h)
          by_dash false d = none (ap mark_len i ∙ ap (λ q. cond q (suc (same b 2 bs)) 0) d)

  line_fails : (ls : List Line) → Tails text ls → Within (length text) ls → starts_scalar (line_ahead flow (length text) ls).token ≡ true → Fault (line_ahead flow (length text) ls).at → line_seen (length text) ls ≤ p
  line_fails [] o w start h = absurd (true≢false (sym start))
  line_fails (l ∷ ls) o w start h = by_tests (is_mark l.bytes) (is_passed true l.bytes) refl refl start h (λ a c. line_fails ls o.1 w.1 a c) where
    no_marks : (q : Bool) → starts_scalar (cond q Dashes Dots) ≡ true → ⊥
    no_marks true h = true≢false (sym h)
    no_marks false h = true≢false (sym h)

    no_tab : (q : Bool) → starts_scalar (cond q Stray Tabbed) ≡ true → ⊥
    no_tab true h = true≢false (sym h)
    no_tab false h = true≢false (sym h)

    by_tab : is_mark l.bytes ≡ false → is_passed true l.bytes ≡ false → (q : Bool)
        → starts_scalar (cond q (token_at (tab_token (past_white l.bytes)) true (indent l.bytes) (l.at + indent l.bytes)) (token_at (token_of flow (past_white l.bytes)) true (lead is_white l.bytes) (l.at + lead is_white l.bytes))).token ≡ true
        → Fault (cond q (token_at (tab_token (past_white l.bytes)) true (indent l.bytes) (l.at + indent l.bytes)) (token_at (token_of flow (past_white l.bytes)) true (lead is_white l.bytes) (l.at + lead is_white l.bytes))).at
        → l.at + widest (shown l.bytes) (content_shown true l.bytes) ≤ p
    by_tab x y true a c = absurd (no_tab (begins_with 35 (past_white l.bytes) || begins_with 13 (past_white l.bytes)) a)
    by_tab x y false a c = here l ls (tail_is text l ls o.0 w.0) x y a c

    by_tests : (q r : Bool) → is_mark l.bytes ≡ q → is_passed true l.bytes ≡ r → starts_scalar (cond q (token_at (mark_of l.bytes) true 0 l.at) (cond r (line_ahead flow (length text) ls) (content_ahead flow l.at l.bytes))).token ≡ true
        → Fault (cond q (token_at (mark_of l.bytes) true 0 l.at) (cond r (line_ahead flow (length text) ls) (content_ahead flow l.at l.bytes))).at
        → (starts_scalar (line_ahead flow (length text) ls).token ≡ true → Fault (line_ahead flow (length text) ls).at → line_seen (length text) ls ≤ p)
        → cond q (l.at + 4) (cond r (line_seen (length text) ls) (l.at + widest (shown l.bytes) (content_shown true l.bytes))) ≤ p
    by_tests true r x y a c g = absurd (no_marks (begins_with 45 l.bytes) a)
    by_tests false true x y a c g = g a c
    by_tests false false x y a c g = by_tab x y (is_tabbed flow l.bytes) a c

  rest_fails : (l : Line) (ls : List Line) → IsTail text l ls → Tails text ls → Within (length text) ls → starts_scalar (rest_ahead flow (length text) (l ∷ ls)).token ≡ true → Fault (rest_ahead flow (length text) (l ∷ ls)).at → rest_seen (length text) (l ∷ ls) ≤ p
  rest_fails l ls is o w start h = by_test (is_passed false l.bytes) refl start h where
    by_test : (r : Bool) → is_passed false l.bytes ≡ r → starts_scalar (cond r (line_ahead flow (length text) ls) (token_at (token_of flow (past_white l.bytes)) false (lead is_white l.bytes) (l.at + lead is_white l.bytes))).token ≡ true
        → Fault (cond r (line_ahead flow (length text) ls) (token_at (token_of flow (past_white l.bytes)) false (lead is_white l.bytes) (l.at + lead is_white l.bytes))).at → cond r (line_seen (length text) ls) (l.at + content_shown false l.bytes) ≤ p
    by_test true y a c = line_fails ls o w a c
    by_test false y a c = token_here l ls false is y a c

-- what is ahead, and the scalar that fails there; where a carriage return cuts a mark, what is ahead is shown by the byte behind that
pub seen_fails : (s : Setting) (text : List ℕ) (flow : Bool) (i p : ℕ) → i ≤ length text → starts_scalar (ahead text flow i).token ≡ true → scalar_at s text (ahead text flow i).at ≡ Fails p → is_cut_mark (line_at (drop (ahead text flow i).at text)) ≡ false → ahead_seen text i ≤ p
seen_fails s text flow i p within start h cut = by_column (is_first_column text i) start (h, cut) where
  are : lines i (drop i text) ≡ line_of text i ∷ behind i (drop i text)
  are = lines_are i (drop i text)

  tails : Tails text (line_of text i ∷ behind i (drop i text))
  tails = subst (Tails text) are (tails_of text i)

  inside_text : Within (length text) (line_of text i ∷ behind i (drop i text))
  inside_text = subst (Within (length text)) are (lines_within (length text) i (drop i text) (omega (arith, within, length-drop i text)))

  by_column : (q : Bool) → starts_scalar (cond q (line_ahead flow (length text) (lines i (drop i text))) (rest_ahead flow (length text) (lines i (drop i text)))).token ≡ true
      → Fault s text flow p (cond q (line_ahead flow (length text) (lines i (drop i text))) (rest_ahead flow (length text) (lines i (drop i text)))).at → cond q (line_seen (length text) (lines i (drop i text))) (rest_seen (length text) (lines i (drop i text))) ≤ p
  by_column true a c =
      subst (λ ls. starts_scalar (line_ahead flow (length text) ls).token ≡ true → Fault s text flow p (line_ahead flow (length text) ls).at → line_seen (length text) ls ≤ p) (sym are) (line_fails s text flow p (line_of text i ∷ behind i (drop i text)) tails inside_text) a c
  by_column false a c =
      subst (λ ls. starts_scalar (rest_ahead flow (length text) ls).token ≡ true → Fault s text flow p (rest_ahead flow (length text) ls).at → rest_seen (length text) ls ≤ p) (sym are)
      (rest_fails s text flow p (line_of text i) (behind i (drop i text)) (tail_is text (line_of text i) (behind i (drop i text)) tails.0 inside_text.0) tails.1 inside_text.1) a c
