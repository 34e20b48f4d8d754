-- What a text that ends in a carriage return and a line feed has ahead, and which keys and documents in quotes, it has with more bytes behind it. By induction over lines.
use Rattle.std.proofs.Common.{◌≡◌, ℕ, zero, suc, ◌+◌, ◌<◌, ◌≤◌, ◌⊎◌, inl, inr, Bool, true, false, ◌||◌, ◌&&◌, not, cond, nat_eq, nat_lt, arith, List, [], ◌∷◌, ◌++◌, Option, Some, None, drop, length, refl, sym, ap, ◌∙◌, subst, append_assoc, append-nil, length-append, length-drop}
use Rattle.std.proofs.lemmas.Bool.{cases_lt}
use Rattle.std.specs.Prelude.{ℤ, IsUtf8}
use Rattle.std.proofs.lemmas.List.{drop_all}
use Rattle.yaml_scalars.specs.declared.scalar.Setting.{Setting}
use Rattle.yaml_scalars.specs.Lines.{Line, Outcome, Stands, Fails, Documents, begins_with, ends_with, lines, is_white, is_blank, lead, past_white, is_mark, is_cut_mark}
use Rattle.yaml_scalars.specs.declared.plain_line.Why.{Why}
use Rattle.yaml_scalars.specs.declared.plain_line.Why.TheVariants.{Break, Return, Colon, Comment, Mark}
use Rattle.yaml_scalars.specs.declared.plain_line.Below.{Below}
use Rattle.yaml_scalars.specs.declared.plain_line.Below.TheVariants.{Blank, Outside, Further}
use Rattle.yaml_scalars.specs.Block.{Chomp, Last, Inner, Nothing, Wide, Indented, shown, widest, ending, count_break, content_more, blank_more, inner_of, base_of, by_inner, by_digit, block_on}
use Rattle.yaml_scalars.specs.Plain.{above_of, plain_len, content, content_end, reason, below, joined, ends_on, joins, further, first, more, begins_plain, wrong_begin, plain_on}
use Rattle.yaml_scalars.specs.Quoted.{Part, Closed, Open, Joined, Returned, Refused, line_part, gap, behind_part, key_part, quoted_more, quoted_on}
use Rattle.yaml_scalars.specs.Scalar.{begins_order_mark, is_first_column, begins_quoted, begins_block, plain_scalar, quoted_scalar, block_scalar, scalar_at}
use Rattle.yaml_scalars.specs.code.Walk.{ends_line}
use Rattle.yaml_scalars.proofs.BlockScalars.{on_fault, on_none, on_lines}
use Rattle.yaml_scalars.proofs.BlockStates.{more_out, more_return}
use Rattle.yaml_scalars.proofs.Places.{lead_le}
use Rattle.yaml_laws.proofs.Agree.{drop_before}
use Rattle.yaml_laws.proofs.BlockLaw.{shown_fits, content_cases, head_of, block_cases}
use Rattle.yaml_laws.proofs.KeyLines.{key_broken}
use Rattle.yaml_laws.proofs.Longer.{glue, joint, rest_of, feed_of, ended, Ends, lines_glued, lines_ended, lines_end}
use Rattle.yaml_laws.proofs.QuotedLaw.{quote_of}
use Rattle.yaml_laws.proofs.ScalarFollowed.{kind_longer}
use Rattle.yaml_grammar.specs.declared.ahead.Token.TheVariants.{End}
use Rattle.yaml_grammar.specs.Ahead.{is_name, token_at, token_of, mark_of, is_passed, content_ahead, line_ahead, rest_ahead, ahead}
use Rattle.yaml_grammar.specs.code.AheadSeen.{token_shown, first_return, content_shown, line_seen, rest_seen, ahead_seen}
use Rattle.yaml_grammar.specs.Places.{IsFront}
use Rattle.yaml_grammar.specs.code.Twins.{IsTwin}
use Rattle.yaml_grammar.proofs.AheadFed.{ahead_broken, end_broken, some_of}
use Rattle.yaml_grammar.proofs.AheadOrder.{mark_parts, widest_less}
use Rattle.yaml_grammar.proofs.DeadPlaces.{NoTwin}

-- ---- what is ahead is looked at within its line

token_fits : (xs : List ℕ) → token_shown xs ≤ length xs
token_fits [] = omega arith
token_fits (b ∷ bs) = by_tests (nat_eq b 33) (nat_eq b 45 || (nat_eq b 58 || nat_eq b 13)) where
  by_tests : (p q : Bool) → cond p (suc (lead is_name bs)) (cond q 1 0) ≤ suc (length bs)
  by_tests true q = let l = lead_le is_name bs in omega (arith, l)
  by_tests false true = omega arith
  by_tests false false = omega arith

return_fits : (xs : List ℕ) → first_return xs ≤ length xs
return_fits [] = omega arith
return_fits (b ∷ bs) = by_byte (nat_eq b 13) (return_fits bs) where
  by_byte : (q : Bool) → first_return bs ≤ length bs → cond q 1 (suc (first_return bs)) ≤ suc (length bs)
  by_byte true l = omega arith
  by_byte false l = omega (arith, l)

content_fits : (fresh : Bool) (xs : List ℕ) → content_shown fresh xs ≤ length xs
content_fits fresh xs = by_test ((fresh || nat_lt 0 (lead is_white xs)) && begins_with 35 (past_white xs)) where
  by_test : (q : Bool) → cond q (first_return xs) (lead is_white xs + token_shown (past_white xs)) ≤ length xs
  by_test true = return_fits xs
  by_test false = let t = token_fits (past_white xs) in let l = lead_le is_white xs in omega (arith, t, l, length-drop (lead is_white xs) xs)

both_fit : (xs : List ℕ) → widest (shown xs) (content_shown true xs) ≤ length xs
both_fit xs = widest_less (shown xs) (content_shown true xs) (length xs) (shown_fits xs) (content_fits true xs)

-- a line that ends before a place, where it shows that something is ahead
line_first : (flow : Bool) (size place : ℕ) (l : Line) (ls : List Line) → l.at + length l.bytes ≤ place → suc place < size → ((line_ahead flow size (l ∷ ls)).token ≡ End → ⊥) → (((line_ahead flow size ls).token ≡ End → ⊥) → line_seen size ls < size) → line_seen size (l ∷ ls) < size
line_first flow size place l ls near room n h = by_tests (is_mark l.bytes) (is_passed true l.bytes) refl n where
  by_tests : (p q : Bool) → is_mark l.bytes ≡ p → ((cond p (token_at (mark_of l.bytes) true 0 l.at) (cond q (line_ahead flow size ls) (content_ahead flow l.at l.bytes))).token ≡ End → ⊥)
      → cond p (l.at + 4) (cond q (line_seen size ls) (l.at + widest (shown l.bytes) (content_shown true l.bytes))) < size
  by_tests true q e m = let z = (mark_parts l.bytes e).0 in omega (arith, near, room, z)
  by_tests false true e m = h m
  by_tests false false e m = let z = both_fit l.bytes in omega (arith, near, room, z)

lines_near : (flow : Bool) (size place : ℕ) (r : Bool) (ks : List Line) → Ends place r ks → suc place < size → ((line_ahead flow size (glue ks (ended place []))).token ≡ End → ⊥) → line_seen size (glue ks (ended place [])) < size
lines_near flow size place r [] e room n = absurd e
lines_near flow size place r (l ∷ []) (x, y, z) room n = line_first flow size place (joint l (feed_of place)) (rest_of (suc (suc place)) [] ∷ []) (let k = ap (λ (t : List ℕ). length t) (append-nil l.bytes) in omega (arith, k, x)) room n (λ m. absurd (m refl))
lines_near flow size place r (l ∷ m ∷ ks) (x, y, z) room n = line_first flow size place l (glue (m ∷ ks) (ended place [])) (omega (arith, x)) room n (λ o. lines_near flow size place r (m ∷ ks) z room o)

rest_first : (flow : Bool) (size place : ℕ) (l : Line) (ls : List Line) → l.at + length l.bytes ≤ place → suc place < size → ((rest_ahead flow size (l ∷ ls)).token ≡ End → ⊥) → (((line_ahead flow size ls).token ≡ End → ⊥) → line_seen size ls < size) → rest_seen size (l ∷ ls) < size
rest_first flow size place l ls near room n h = by_test (is_passed false l.bytes) n where
  by_test : (q : Bool) → ((cond q (line_ahead flow size ls) (token_at (token_of flow (past_white l.bytes)) false (lead is_white l.bytes) (l.at + lead is_white l.bytes))).token ≡ End → ⊥) → cond q (line_seen size ls) (l.at + content_shown false l.bytes) < size
  by_test true m = h m
  by_test false m = let z = content_fits false l.bytes in omega (arith, near, room, z)

rest_near : (flow : Bool) (size place : ℕ) (r : Bool) (ks : List Line) → Ends place r ks → suc place < size → ((rest_ahead flow size (glue ks (ended place []))).token ≡ End → ⊥) → rest_seen size (glue ks (ended place [])) < size
rest_near flow size place r [] e room n = absurd e
rest_near flow size place r (l ∷ []) (x, y, z) room n = rest_first flow size place (joint l (feed_of place)) (rest_of (suc (suc place)) [] ∷ []) (let k = ap (λ (t : List ℕ). length t) (append-nil l.bytes) in omega (arith, k, x)) room n (λ m. absurd (m refl))
rest_near flow size place r (l ∷ m ∷ ks) (x, y, z) room n = rest_first flow size place l (glue (m ∷ ks) (ended place [])) (omega (arith, x)) room n (λ o. lines_near flow size place r (m ∷ ks) z room o)

-- ---- texts

module _ (front : List ℕ) where
  abbrev text : List ℕ
  text = front ++ (13 ∷ 10 ∷ [])

  pub fed_size : length (front ++ (13 ∷ 10 ∷ [])) ≡ suc (suc (length front))
  fed_size = length-append front (13 ∷ 10 ∷ []) ∙ omega arith

  -- behind the break nothing is ahead
  end_behind : (flow : Bool) (i : ℕ) → length front < i → i ≤ length (front ++ (13 ∷ 10 ∷ [])) → (ahead (front ++ (13 ∷ 10 ∷ [])) flow i).token ≡ End
  end_behind flow i l m = by_place (cases_lt i (suc (suc (length front)))) where
    over : (n : ℕ) (xs : List ℕ) → (drop n xs ≡ 10 ∷ []) ⊎ (drop n xs ≡ []) → (q : Bool) → (cond q (line_ahead flow (length (front ++ (13 ∷ 10 ∷ []))) (lines i (drop n xs))) (rest_ahead flow (length (front ++ (13 ∷ 10 ∷ []))) (lines i (drop n xs)))).token ≡ End
    over n xs (inl e) true = ap (λ t. (line_ahead flow (length (front ++ (13 ∷ 10 ∷ []))) (lines i t)).token) e
    over n xs (inl e) false = ap (λ t. (rest_ahead flow (length (front ++ (13 ∷ 10 ∷ []))) (lines i t)).token) e
    over n xs (inr e) true = ap (λ t. (line_ahead flow (length (front ++ (13 ∷ 10 ∷ []))) (lines i t)).token) e
    over n xs (inr e) false = ap (λ t. (rest_ahead flow (length (front ++ (13 ∷ 10 ∷ []))) (lines i t)).token) e

    behind_return : (xs : List ℕ) → drop (suc (length xs)) (xs ++ (13 ∷ 10 ∷ [])) ≡ 10 ∷ []
    behind_return [] = refl
    behind_return (x ∷ xs) = behind_return xs

    by_place : (i < suc (suc (length front))) ⊎ (suc (suc (length front)) ≤ i) → (ahead (front ++ (13 ∷ 10 ∷ [])) flow i).token ≡ End
    by_place (inl o) = let e : i ≡ suc (length front) = omega (arith, l, o) in over i (front ++ (13 ∷ 10 ∷ [])) (inl (ap (λ k. drop k (front ++ (13 ∷ 10 ∷ []))) e ∙ behind_return front)) (is_first_column (front ++ (13 ∷ 10 ∷ [])) i)
    by_place (inr o) = let s = fed_size in over i (front ++ (13 ∷ 10 ∷ [])) (inr (drop_all i (front ++ (13 ∷ 10 ∷ [])) (omega (arith, o, s)))) (is_first_column (front ++ (13 ∷ 10 ∷ [])) i)

  -- where something is ahead, the place lies before the break
  pub before_break : (flow : Bool) (i : ℕ) → i ≤ length (front ++ (13 ∷ 10 ∷ [])) → ((ahead (front ++ (13 ∷ 10 ∷ [])) flow i).token ≡ End → ⊥) → i ≤ length front
  before_break flow i m n = by_place (cases_lt (length front) i) where
    by_place : (length front < i) ⊎ (i ≤ length front) → i ≤ length front
    by_place (inl o) = absurd (n (end_behind flow i o m))
    by_place (inr o) = o

  -- and it is looked at within the text
  pub fed_seen : (flow : Bool) (i : ℕ) → i ≤ length (front ++ (13 ∷ 10 ∷ [])) → ((ahead (front ++ (13 ∷ 10 ∷ [])) flow i).token ≡ End → ⊥) → ahead_seen (front ++ (13 ∷ 10 ∷ [])) i < length (front ++ (13 ∷ 10 ∷ []))
  fed_seen flow i m n = by_column (is_first_column (front ++ (13 ∷ 10 ∷ [])) i) n where
    low : i ≤ length front
    low = before_break flow i m n

    place : i + length (drop i front) ≡ length front
    place = let l = low in omega (arith, l, length-drop i front)

    are : lines i (drop i (front ++ (13 ∷ 10 ∷ []))) ≡ glue (lines i (drop i front)) (ended (length front) [])
    are = ap (lines i) (drop_before i front (13 ∷ 10 ∷ []) low) ∙ lines_ended i (drop i front) [] refl ∙ ap (λ k. glue (lines i (drop i front)) (ended k [])) place

    ends : Ends (length front) (ends_with 13 (drop i front)) (lines i (drop i front))
    ends = subst (λ k. Ends k (ends_with 13 (drop i front)) (lines i (drop i front))) place (lines_end i (drop i front))

    by_column : (q : Bool) → ((cond q (line_ahead flow (length (front ++ (13 ∷ 10 ∷ []))) (lines i (drop i (front ++ (13 ∷ 10 ∷ []))))) (rest_ahead flow (length (front ++ (13 ∷ 10 ∷ []))) (lines i (drop i (front ++ (13 ∷ 10 ∷ [])))))).token ≡ End → ⊥)
        → cond q (line_seen (length (front ++ (13 ∷ 10 ∷ []))) (lines i (drop i (front ++ (13 ∷ 10 ∷ []))))) (rest_seen (length (front ++ (13 ∷ 10 ∷ []))) (lines i (drop i (front ++ (13 ∷ 10 ∷ []))))) < length (front ++ (13 ∷ 10 ∷ []))
    by_column true o =
        let s = fed_size in
        subst (λ ls. line_seen (length (front ++ (13 ∷ 10 ∷ []))) ls < length (front ++ (13 ∷ 10 ∷ []))) (sym are)
        (lines_near flow (length (front ++ (13 ∷ 10 ∷ []))) (length front) (ends_with 13 (drop i front)) (lines i (drop i front)) ends (omega (arith, s)) (subst (λ ls. (line_ahead flow (length (front ++ (13 ∷ 10 ∷ []))) ls).token ≡ End → ⊥) are o))
    by_column false o =
        let s = fed_size in
        subst (λ ls. rest_seen (length (front ++ (13 ∷ 10 ∷ []))) ls < length (front ++ (13 ∷ 10 ∷ []))) (sym are)
        (rest_near flow (length (front ++ (13 ∷ 10 ∷ []))) (length front) (ends_with 13 (drop i front)) (lines i (drop i front)) ends (omega (arith, s)) (subst (λ ls. (rest_ahead flow (length (front ++ (13 ∷ 10 ∷ []))) ls).token ≡ End → ⊥) are o))

  -- and it is ahead in each longer text
  pub fed_same : (rest : List ℕ) (flow : Bool) (i : ℕ) → i ≤ length (front ++ (13 ∷ 10 ∷ [])) → ((ahead (front ++ (13 ∷ 10 ∷ [])) flow i).token ≡ End → ⊥) → ahead ((front ++ (13 ∷ 10 ∷ [])) ++ rest) flow i ≡ ahead (front ++ (13 ∷ 10 ∷ [])) flow i
  fed_same rest flow i m n =
      let low = before_break flow i m n in
      let some = some_of (ahead front flow i).token (λ e. n (end_broken front flow i low e)) in
      ap (λ t. ahead t flow i) (append_assoc front (13 ∷ 10 ∷ []) rest) ∙ ahead_broken front rest flow i low some ∙ sym (ahead_broken front [] flow i low some)

-- ---- keys

no_block : (s : Setting) (b : ℕ) (xs : List ℕ) → nat_eq b 124 ≡ false → nat_eq b 62 ≡ false → begins_block s (b ∷ xs) ≡ false
no_block s b xs h g = ap (λ q. not (s.flow || s.one_line) && (q || nat_eq b 62)) h ∙ ap (λ q. not (s.flow || s.one_line) && q) g ∙ none (not (s.flow || s.one_line)) where
  none : (p : Bool) → (p && false) ≡ false
  none true = refl
  none false = refl

empty_block : (s : Setting) → begins_block s [] ≡ false
empty_block s = none (not (s.flow || s.one_line)) where
  none : (p : Bool) → (p && false) ≡ false
  none true = refl
  none false = refl

fresh_empty : (s : Setting) (fresh : Bool) (at : ℕ) (r : Bool) (ls : List Line) → plain_on s fresh (record { at = at; bytes = []; broken = r } ∷ ls) ≡ Fails at
fresh_empty s true at r ls = refl
fresh_empty s false at r ls = refl

abbrev empty : List ℕ
empty = []

module _ (front : List ℕ) (s : Setting) (at : ℕ) where
  -- none begins behind the front
  behind_front : length front ≤ at → (p : ℕ) × (scalar_at s (front ++ (13 ∷ 10 ∷ [])) at ≡ Fails p)
  behind_front l = by_rest (rest_is front at l) where
    text : List ℕ
    text = front ++ (13 ∷ 10 ∷ [])

    rest_is : (xs : List ℕ) (n : ℕ) → length xs ≤ n → (drop n (xs ++ (13 ∷ 10 ∷ [])) ≡ 13 ∷ 10 ∷ []) ⊎ ((drop n (xs ++ (13 ∷ 10 ∷ [])) ≡ 10 ∷ []) ⊎ (drop n (xs ++ (13 ∷ 10 ∷ [])) ≡ []))
    rest_is [] zero m = inl refl
    rest_is [] (suc zero) m = inr (inl refl)
    rest_is [] (suc (suc n)) m = inr (inr (nothing n)) where
      nothing : (n : ℕ) → drop n empty ≡ []
      nothing zero = refl
      nothing (suc n) = refl
    rest_is (x ∷ xs) zero m = absurd (omega (arith, m))
    rest_is (x ∷ xs) (suc n) m = rest_is xs n (omega (arith, m))

    kind : (xs : List ℕ) → drop at (front ++ (13 ∷ 10 ∷ [])) ≡ xs → begins_quoted xs ≡ false → begins_block s xs ≡ false → scalar_at s (front ++ (13 ∷ 10 ∷ [])) at ≡ plain_on s (is_first_column (front ++ (13 ∷ 10 ∷ [])) at) (lines at xs)
    kind xs e q b =
        ap (λ q. cond q (quoted_scalar s (front ++ (13 ∷ 10 ∷ [])) at) (cond (begins_block s (drop at (front ++ (13 ∷ 10 ∷ [])))) (block_scalar s (front ++ (13 ∷ 10 ∷ [])) at) (plain_scalar s (front ++ (13 ∷ 10 ∷ [])) at))) (ap begins_quoted e ∙ q)
        ∙ ap (λ q. cond q (block_scalar s (front ++ (13 ∷ 10 ∷ [])) at) (plain_scalar s (front ++ (13 ∷ 10 ∷ [])) at)) (ap (begins_block s) e ∙ b) ∙ ap (λ y. plain_on s (is_first_column (front ++ (13 ∷ 10 ∷ [])) at) (lines at y)) e

    by_rest : (drop at (front ++ (13 ∷ 10 ∷ [])) ≡ 13 ∷ 10 ∷ []) ⊎ ((drop at (front ++ (13 ∷ 10 ∷ [])) ≡ 10 ∷ []) ⊎ (drop at (front ++ (13 ∷ 10 ∷ [])) ≡ [])) → (p : ℕ) × (scalar_at s (front ++ (13 ∷ 10 ∷ [])) at ≡ Fails p)
    by_rest (inl e) = (at, kind (13 ∷ 10 ∷ []) e refl (no_block s 13 (10 ∷ []) refl refl) ∙ fresh_empty s (is_first_column (front ++ (13 ∷ 10 ∷ [])) at) at true (rest_of (suc (suc at)) [] ∷ []))
    by_rest (inr (inl e)) = (at, kind (10 ∷ []) e refl (no_block s 10 [] refl refl) ∙ fresh_empty s (is_first_column (front ++ (13 ∷ 10 ∷ [])) at) at true (rest_of (suc at) [] ∷ []))
    by_rest (inr (inr e)) = (at, kind [] e refl (empty_block s) ∙ fresh_empty s (is_first_column (front ++ (13 ∷ 10 ∷ [])) at) at false [])

  -- so one that stands, or in which a document begins, begins in the front
  pub in_front : ((p : ℕ) → scalar_at s (front ++ (13 ∷ 10 ∷ [])) at ≡ Fails p → ⊥) → at < length front
  in_front n = by_place (cases_lt at (length front)) where
    by_place : (at < length front) ⊎ (length front ≤ at) → at < length front
    by_place (inl o) = o
    by_place (inr o) = let r = behind_front o in absurd (n r.0 r.1)

  pub fed_key : (rest : List ℕ) → s.one_line ≡ true → at < length front → scalar_at s ((front ++ (13 ∷ 10 ∷ [])) ++ rest) at ≡ scalar_at s (front ++ (13 ∷ 10 ∷ [])) at
  fed_key rest one l = ap (λ t. scalar_at s t at) (append_assoc front (13 ∷ 10 ∷ []) rest) ∙ key_broken s front rest at one l ∙ sym (key_broken s front [] at one l)

-- ---- documents in quotes

-- none begins in another scalar
abbrev Apart : Outcome → Type 0
Apart (Stands t e) = Unit {0}
Apart (Fails p) = Unit {0}
Apart (Documents p) = ⊥

on_apart : (flow : Bool) (part : List ℕ) (at : ℕ) (t : List ℕ) (e k : ℕ) → Apart (ends_on flow part at t e k)
on_apart flow part at t e k = by_length (nat_eq (plain_len flow false part) 0) where
  by_length : (q : Bool) → Apart (cond q (Stands t e) (Stands (joined flow part t k) (content_end flow part at)))
  by_length true = tt
  by_length false = tt

joins_apart : (flow : Bool) (w : Why) (part : List ℕ) (at : ℕ) (t : List ℕ) (e k : ℕ) (next : List ℕ → ℕ → ℕ → Outcome) → ((x : List ℕ) (y z : ℕ) → Apart (next x y z)) → Apart (joins flow w part at t e k next)
joins_apart flow Break part at t e k next n = n (joined flow part t k) (content_end flow part at) 0
joins_apart flow Return part at t e k next n = tt
joins_apart true Colon part at t e k next n = on_apart true part at t e k
joins_apart false Colon part at t e k next n = tt
joins_apart flow Comment part at t e k next n = tt
joins_apart flow Mark part at t e k next n = on_apart flow part at t e k

more_apart : (s : Setting) (ls : List Line) (t : List ℕ) (e k : ℕ) → Apart (more s ls t e k)
more_apart s [] t e k = tt
more_apart s (l ∷ ls) t e k = by_below (below s l.bytes) (λ x y z. more_apart s ls x y z) where
  by_below : (b : Below) → ((x : List ℕ) (y z : ℕ) → Apart (more s ls x y z)) → Apart (further s b l.at l.bytes t e k (more s ls))
  by_below Blank n = n t e (suc k)
  by_below Outside n = tt
  by_below (Further m) n = joins_apart s.flow (reason s.flow (drop m l.bytes)) (drop m l.bytes) (l.at + m) t e k (more s ls) n

plain_apart : (s : Setting) (fresh : Bool) (ls : List Line) → Apart (plain_on s fresh ls)
plain_apart s fresh [] = tt
plain_apart s fresh (l ∷ ls) = by_tests (fresh && (is_mark l.bytes || is_cut_mark l.bytes)) (begins_plain s.flow l.bytes) where
  by_why : (w : Why) → Apart (first s w l.at l.bytes ls)
  by_why Break = by_one s.one_line where
    by_one : (q : Bool) → Apart (cond q (Stands (content s.flow l.bytes) (content_end s.flow l.bytes l.at)) (more s ls (content s.flow l.bytes) (content_end s.flow l.bytes l.at) 0))
    by_one true = tt
    by_one false = more_apart s ls (content s.flow l.bytes) (content_end s.flow l.bytes l.at) 0
  by_why Return = tt
  by_why Colon = tt
  by_why Comment = tt
  by_why Mark = tt

  by_tests : (p q : Bool) → Apart (cond p (Fails (l.at + 3)) (cond q (first s (reason s.flow l.bytes) l.at l.bytes ls) (Fails (wrong_begin l.at l.bytes))))
  by_tests true q = tt
  by_tests false true = by_why (reason s.flow l.bytes)
  by_tests false false = tt

lines_apart : (folded : Bool) (chomp : Chomp) (inner size : ℕ) (ls : List Line) (t : List ℕ) (last : Option Last) (e : ℕ) → Apart (content_more folded chomp inner size ls t last e)
lines_apart folded chomp inner size [] t last e = tt
lines_apart folded chomp inner size (l ∷ ls) t last e =
    content_cases folded chomp inner l t last e
    (λ o. subst Apart (sym (more_out folded chomp inner size l ls t last e o)) tt)
    (λ n o r. subst Apart (sym (more_return folded chomp inner size l ls t last e n o r)) tt)
    (λ x y z o r g. subst Apart (sym (g size ls)) (lines_apart folded chomp inner size ls x y z))

blank_apart : (chomp : Chomp) (size : ℕ) (ls : List Line) (e : ℕ) → Apart (blank_more chomp size ls e)
blank_apart chomp size [] e = tt
blank_apart chomp size (l ∷ ls) e = by_blank (is_blank l.bytes) (blank_apart chomp size ls (count_break l.broken e)) where
  by_blank : (q : Bool) → Apart (blank_more chomp size ls (count_break l.broken e)) → Apart (cond q (blank_more chomp size ls (count_break l.broken e)) (Stands (ending chomp None e) l.at))
  by_blank true h = h
  by_blank false h = tt

digit_apart : (folded : Bool) (parent : ℤ) (chomp : Chomp) (size : ℕ) (digit : Option ℕ) (ls : List Line) → Apart (by_digit folded parent chomp size digit ls)
digit_apart folded parent chomp size (Some d) ls = lines_apart folded chomp (base_of parent + d) size ls [] None 0
digit_apart folded parent chomp size None ls = by_in (inner_of (above_of parent) 0 ls) where
  by_in : (i : Inner) → Apart (by_inner folded chomp size i ls)
  by_in Nothing = blank_apart chomp size ls 0
  by_in (Wide at) = tt
  by_in (Indented j) = lines_apart folded chomp j size ls [] None 0

block_apart : (parent : ℤ) (size : ℕ) (ls : List Line) → Apart (block_on parent size ls)
block_apart parent size [] = tt
block_apart parent size (l ∷ ls) =
    block_cases l (λ n f. subst Apart (sym (on_fault parent size l ls (head_of l.bytes) n refl f)) tt) (λ f b. subst Apart (sym (on_none parent size l ls (head_of l.bytes) refl f b)) tt)
    (λ f b. subst Apart (sym (on_lines parent size l ls (head_of l.bytes) refl f b)) (digit_apart (begins_with 62 l.bytes) parent (head_of l.bytes).chomp size (head_of l.bytes).digit ls))

apart_not : (o : Outcome) (p : ℕ) → Apart o → o ≡ Documents p → ⊥
apart_not o p h e = subst Apart e h

-- in quotes
module _ (quote size most p : ℕ) (A : Line) (B : List Line) (place : ℕ) where
  fails_not : (n : ℕ) → Fails n ≡ Documents p → ⊥
  fails_not n h = absurd (cc)

  -- behind the text's last break
  none_last : (t : List ℕ) (j : Bool) (k : ℕ) → A.bytes ≡ [] → quoted_more quote size (A ∷ []) t j k ≡ Documents p → ⊥
  none_last t j k e h =
      fails_not size
      (sym
      (ap (λ (b : List ℕ). cond (is_mark b && (A.broken || nat_lt 3 (length b))) (Documents A.at) (cond (is_cut_mark b) (Fails (A.at + 3)) (cond (is_blank b) (quoted_more quote size [] t j (suc k)) (behind_part (line_part quote (A.at + lead is_white b) 0 (t ++ gap j k) (length (t ++ gap j k)) (past_white b)) (λ i u. quoted_more quote size [] u i 0))))) e)
      ∙ h)

  behind_same : (r : Part) (f g : Bool → List ℕ → Outcome) → ((i : Bool) (u : List ℕ) → f i u ≡ Documents p → g i u ≡ Documents p) → behind_part r f ≡ Documents p → behind_part r g ≡ Documents p
  behind_same (Closed t e) f g n h = absurd (cc)
  behind_same (Open t) f g n h = n false t h
  behind_same (Joined t) f g n h = n true t h
  behind_same (Returned e) f g n h = absurd (cc)
  behind_same (Refused e) f g n h = absurd (cc)

  line_same : (l : Line) (ls ms : List Line) (t : List ℕ) (j : Bool) (k : ℕ) → ((u : List ℕ) (i : Bool) (n : ℕ) → quoted_more quote size ls u i n ≡ Documents p → quoted_more quote most ms u i n ≡ Documents p) → quoted_more quote size (l ∷ ls) t j k ≡ Documents p → quoted_more quote most (l ∷ ms) t j k ≡ Documents p
  line_same l ls ms t j k n h = by_tests (is_mark l.bytes && (l.broken || nat_lt 3 (length l.bytes))) (is_cut_mark l.bytes) (is_blank l.bytes) h where
    r : Part
    r = line_part quote (l.at + lead is_white l.bytes) 0 (t ++ gap j k) (length (t ++ gap j k)) (past_white l.bytes)

    by_tests : (m c b : Bool)
        → cond m (Documents l.at) (cond c (Fails (l.at + 3)) (cond b (quoted_more quote size ls t j (suc k)) (behind_part (line_part quote (l.at + lead is_white l.bytes) 0 (t ++ gap j k) (length (t ++ gap j k)) (past_white l.bytes)) (λ i u. quoted_more quote size ls u i 0)))) ≡ Documents p
        → cond m (Documents l.at) (cond c (Fails (l.at + 3)) (cond b (quoted_more quote most ms t j (suc k)) (behind_part (line_part quote (l.at + lead is_white l.bytes) 0 (t ++ gap j k) (length (t ++ gap j k)) (past_white l.bytes)) (λ i u. quoted_more quote most ms u i 0)))) ≡ Documents p
    by_tests true c b g = g
    by_tests false true b g = absurd (fails_not (l.at + 3) g)
    by_tests false false true g = n t j (suc k) g
    by_tests false false false g = behind_same (line_part quote (l.at + lead is_white l.bytes) 0 (t ++ gap j k) (length (t ++ gap j k)) (past_white l.bytes)) (λ i u. quoted_more quote size ls u i 0) (λ i u. quoted_more quote most ms u i 0) (λ i u. n u i 0) g

  more_same : (ks : List Line) (t : List ℕ) (j : Bool) (k : ℕ) → A.bytes ≡ [] → quoted_more quote size (glue ks (feed_of place ∷ A ∷ [])) t j k ≡ Documents p → quoted_more quote most (glue ks (feed_of place ∷ B)) t j k ≡ Documents p
  more_same [] t j k e h = absurd (fails_not size h)
  more_same (l ∷ []) t j k e h = line_same (joint l (feed_of place)) (A ∷ []) B t j k (λ u i n g. absurd (none_last u i n e g)) h
  more_same (l ∷ m ∷ ks) t j k e h = line_same l (glue (m ∷ ks) (feed_of place ∷ A ∷ [])) (glue (m ∷ ks) (feed_of place ∷ B)) t j k (λ u i n g. more_same (m ∷ ks) u i n e g) h

key_not : (r : Part) (over p : ℕ) → key_part r over ≡ Documents p → ⊥
key_not (Closed t e) over p h = absurd (cc)
key_not (Open t) over p h = absurd (cc)
key_not (Joined t) over p h = absurd (cc)
key_not (Returned e) over p h = absurd (cc)
key_not (Refused e) over p h = absurd (cc)

-- the first line
first_same : (one : Bool) (size most p : ℕ) (l : Line) (ls ms : List Line) → ((quote : ℕ) (u : List ℕ) (i : Bool) (n : ℕ) → quoted_more quote size ls u i n ≡ Documents p → quoted_more quote most ms u i n ≡ Documents p) → quoted_on one size (l ∷ ls) ≡ Documents p → quoted_on one most (l ∷ ms) ≡ Documents p
first_same true size most p l ls ms n h = absurd (key_not (line_part (quote_of l.bytes) (suc l.at) 0 [] 0 (drop 1 l.bytes)) (l.at + length l.bytes) p h)
first_same false size most p l ls ms n h = behind_same (quote_of l.bytes) size most p l ls 0 (line_part (quote_of l.bytes) (suc l.at) 0 [] 0 (drop 1 l.bytes)) (λ j t. quoted_more (quote_of l.bytes) size ls t j 0) (λ j t. quoted_more (quote_of l.bytes) most ms t j 0) (λ j t. n (quote_of l.bytes) t j 0) h

on_same : (one : Bool) (size most p place : ℕ) (A : Line) (B ks : List Line) → A.bytes ≡ [] → quoted_on one size (glue ks (feed_of place ∷ A ∷ [])) ≡ Documents p → quoted_on one most (glue ks (feed_of place ∷ B)) ≡ Documents p
on_same one size most p place A B [] e h = absurd (cc)
on_same one size most p place A B (l ∷ []) e h = first_same one size most p (joint l (feed_of place)) (A ∷ []) B (λ quote u i n g. absurd (none_last quote size most p A B place u i n e g)) h
on_same one size most p place A B (l ∷ m ∷ ks) e h =
    first_same one size most p l (glue (m ∷ ks) (feed_of place ∷ A ∷ [])) (glue (m ∷ ks) (feed_of place ∷ B)) (λ quote u i n g. more_same quote size most p A B place (m ∷ ks) u i n e g) h

pub fed_documents : (front rest : List ℕ) (s : Setting) (at p : ℕ) → scalar_at s (front ++ (13 ∷ 10 ∷ [])) at ≡ Documents p → scalar_at s ((front ++ (13 ∷ 10 ∷ [])) ++ rest) at ≡ Documents p
fed_documents front rest s at p h =
    let l = in_front front s at (λ q e. fails_apart q (sym e ∙ h)) in
    let size = fed_size front in
    let text = front ++ (13 ∷ 10 ∷ []) in
    kind_longer s (front ++ (13 ∷ 10 ∷ [])) rest at (Documents p) (Documents p) (omega (arith, l, size))
    (λ q g. quoted l g)
    (λ q b g. absurd (apart_not (block_scalar s text at) p (block_apart s.parent (length text) (lines at (drop at text))) g))
    (λ q b g. absurd (apart_not (plain_scalar s text at) p (plain_apart s (is_first_column text at) (lines at (drop at text))) g)) h where
      fails_apart : (q : ℕ) → Fails q ≡ Documents p → ⊥
      fails_apart q e = absurd (cc)

      quoted : at < length front → quoted_scalar s (front ++ (13 ∷ 10 ∷ [])) at ≡ Documents p → quoted_scalar s ((front ++ (13 ∷ 10 ∷ [])) ++ rest) at ≡ Documents p
      quoted l g =
          let xs = drop at front in
          let low : at ≤ length front = omega (arith, l) in
          let old : lines at (drop at (front ++ (13 ∷ 10 ∷ []))) ≡ glue (lines at (drop at front)) (ended (at + length (drop at front)) []) = ap (lines at) (drop_before at front (13 ∷ 10 ∷ []) low) ∙ lines_ended at (drop at front) [] refl in
          let new : lines at (drop at ((front ++ (13 ∷ 10 ∷ [])) ++ rest)) ≡ glue (lines at (drop at front)) (feed_of (at + length (drop at front)) ∷ lines (suc (suc (at + length (drop at front)))) rest) =
          ap (λ t. lines at (drop at t)) (append_assoc front (13 ∷ 10 ∷ []) rest) ∙ ap (lines at) (drop_before at front (13 ∷ 10 ∷ rest) low) ∙ lines_glued at (drop at front) (13 ∷ 10 ∷ rest) refl in
          ap (quoted_on s.one_line (length ((front ++ (13 ∷ 10 ∷ [])) ++ rest))) new
          ∙ on_same s.one_line (length (front ++ (13 ∷ 10 ∷ []))) (length ((front ++ (13 ∷ 10 ∷ [])) ++ rest)) p (at + length (drop at front)) (rest_of (suc (suc (at + length (drop at front)))) []) (lines (suc (suc (at + length (drop at front)))) rest) (lines at (drop at front)) refl
          (sym (ap (quoted_on s.one_line (length (front ++ (13 ∷ 10 ∷ [])))) old) ∙ g)

-- ---- longer texts are twins at the line feed

pub fed_marks : (front rest : List ℕ) → begins_order_mark ((front ++ (13 ∷ 10 ∷ [])) ++ rest) ≡ begins_order_mark (front ++ (13 ∷ 10 ∷ []))
fed_marks [] [] = refl
fed_marks [] (x ∷ rest) = refl
fed_marks (a ∷ []) rest = refl
fed_marks (a ∷ b ∷ []) rest = refl
fed_marks (a ∷ b ∷ c ∷ front) rest = refl

behind_front_return : (front w : List ℕ) → drop (suc (length front)) (front ++ (13 ∷ 10 ∷ w)) ≡ 10 ∷ w
behind_front_return [] w = refl
behind_front_return (x ∷ front) w = behind_front_return front w

pub fed_twin : (front rest : List ℕ) → IsUtf8 ((front ++ (13 ∷ 10 ∷ [])) ++ rest) → IsTwin (front ++ (13 ∷ 10 ∷ [])) (suc (length front)) ((front ++ (13 ∷ 10 ∷ [])) ++ rest)
fed_twin front rest utf8 =
    let whole = append_assoc front (13 ∷ 10 ∷ []) rest in
    record {
      utf8 = utf8;
      marks = fed_marks front rest;
      agrees = (front ++ (13 ∷ []), [], rest, 10, sym (append_assoc front (13 ∷ []) (10 ∷ [])), whole ∙ sym (append_assoc front (13 ∷ []) (10 ∷ rest)), length-append front (13 ∷ []) ∙ omega arith);
      breaks = ap ends_line (behind_front_return front []) ∙ sym (ap (λ t. ends_line (drop (suc (length front)) t)) whole ∙ ap ends_line (behind_front_return front rest));
    }

-- so where none is a document, none begins with the text
pub twins_none : (front : List ℕ) → NoTwin (front ++ (13 ∷ 10 ∷ [])) (suc (length front)) → IsFront (front ++ (13 ∷ 10 ∷ [])) → ⊥
twins_none front none (rest, tree, utf8, y) = none ((front ++ (13 ∷ 10 ∷ [])) ++ rest) (fed_twin front rest utf8) tree y
