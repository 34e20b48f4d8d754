-- Where a scalar stands at what is ahead, that is shown not behind the scalar's end. By induction over lines.
use Rattle.std.proofs.Common.{◌≡◌, ℕ, zero, suc, ◌+◌, ◌-◌, ◌<◌, ◌≤◌, Bool, true, false, ◌||◌, ◌&&◌, not, cond, nat_eq, nat_lt, arith, List, [], ◌∷◌, ◌++◌, take, drop, length, refl, sym, ap, ◌∙◌, subst, true≢false, length-append, length-drop}
use Rattle.std.proofs.lemmas.Bool.Decides.{nat_tests}
use Rattle.yaml_scalars.specs.declared.scalar.Setting.{Setting}
use Rattle.yaml_scalars.specs.declared.plain_line.Why.{Why}
use Rattle.yaml_scalars.specs.declared.plain_line.Why.TheVariants.{Break, Return, Colon, Comment, Mark}
use Rattle.yaml_scalars.specs.declared.plain_line.Below.{Below}
use Rattle.yaml_scalars.specs.declared.plain_line.Below.TheVariants.{Blank, Outside, Further}
use Rattle.yaml_scalars.specs.Lines.{Line, Stands, Fails, lines, begins_with, begins_break, is_white, lead, past_white, indent, trimmed, keep, is_mark, is_cut_mark, each}
use Rattle.yaml_scalars.specs.Plain.{plain_len, content, content_end, reason, below, joined, ends_on, joins, further, first, more, plain_on}
use Rattle.yaml_scalars.specs.Block.{same, mark_len, may_end, shown, widest}
use Rattle.yaml_scalars.specs.Scalar.{is_first_column, plain_scalar, quoted_scalar, block_scalar, scalar_at}
use Rattle.yaml_scalars.specs.code.Walk.{line_at, has_break, behind}
use Rattle.yaml_scalars.proofs.Places.{lines_are}
use Rattle.yaml_grammar.specs.code.AheadSeen.{token_shown, first_return, content_shown, line_seen, rest_seen, ahead_seen}
use Rattle.yaml_laws.proofs.Agree.{Later, Within, lines_within}
use Rattle.yaml_grammar.proofs.AheadOrder.{widest_less}
use Rattle.yaml_grammar.proofs.LineTails.{Tails, IsTail, tails_of, tail_is}
use Rattle.yaml_laws.proofs.PlainLaw.{dash, marked}
use Rattle.yaml_laws.proofs.PlainStays.{dashes_long, opens_stands}
use Rattle.yaml_grammar.proofs.ScalarOrder.{Fresh, first_bytes, behind_fresh}
use Rattle.yaml_grammar.specs.declared.ahead.Token.TheVariants.{Dashes, Dots, Tag, NoTag, Tabbed, Stray}
use Rattle.yaml_grammar.specs.Ahead.{is_name, begins_letter, ends_tag, tab_token, is_tabbed, token_of, token_at, mark_of, is_passed, content_ahead, line_ahead, rest_ahead, ahead}
use Rattle.yaml_grammar.specs.Nodes.{starts_scalar}

-- ---- the end of a plain scalar lies not before that of its first line's content

end_is : (t u : List ℕ) (e f : ℕ) → Stands t e ≡ Stands u f → e ≡ f
end_is t u e f h = cc

fails_not : (p : ℕ) (u : List ℕ) (f : ℕ) → Fails p ≡ Stands u f → ⊥
fails_not p u f h = cc

more_lower : (s : Setting) (q : ℕ) (ls : List Line) (t : List ℕ) (e k : ℕ) (u : List ℕ) (f : ℕ) → q ≤ e → Later q ls → more s ls t e k ≡ Stands u f → q ≤ f
more_lower s q [] t e k u f l w h = subst (λ e. q ≤ e) (end_is t u e f h) l
more_lower s q (m ∷ ls) t e k u f l w h = by_below (below s m.bytes) h (λ x y z a b. more_lower s q ls x y z u f a w.1 b) where
  ends : (n : ℕ) (part : List ℕ) (p : Bool) → cond p (Stands t e) (Stands (joined s.flow part t k) (content_end s.flow part (m.at + n))) ≡ Stands u f → q ≤ f
  ends n part true h = subst (λ e. q ≤ e) (end_is t u e f h) l
  ends n part false h = subst (λ e. q ≤ e) (end_is _ u _ f h) (let a = w.0 in omega (arith, a))

  by_why : (n : ℕ) (part : List ℕ) (v : Why) → joins s.flow v part (m.at + n) t e k (more s ls) ≡ Stands u f → ((x : List ℕ) (y z : ℕ) → q ≤ y → more s ls x y z ≡ Stands u f → q ≤ f) → q ≤ f
  by_why n part Break h r = r (joined s.flow part t k) (content_end s.flow part (m.at + n)) 0 (let a = w.0 in omega (arith, a)) h
  by_why n part Return h r = absurd (fails_not _ u f h)
  by_why n part Colon h r = by_flow s.flow h where
    by_flow : (p : Bool) → cond p (ends_on s.flow part (m.at + n) t e k) (Fails (m.at + n + plain_len s.flow false part + 1)) ≡ Stands u f → q ≤ f
    by_flow true h = ends n part (nat_eq (plain_len s.flow false part) 0) h
    by_flow false h = absurd (fails_not _ u f h)
  by_why n part Comment h r = subst (λ e. q ≤ e) (end_is _ u _ f h) (let a = w.0 in omega (arith, a))
  by_why n part Mark h r = ends n part (nat_eq (plain_len s.flow false part) 0) h

  by_below : (z : Below) → further s z m.at m.bytes t e k (more s ls) ≡ Stands u f → ((x : List ℕ) (y z : ℕ) → q ≤ y → more s ls x y z ≡ Stands u f → q ≤ f) → q ≤ f
  by_below Blank h r = r t e (suc k) l h
  by_below Outside h r = subst (λ e. q ≤ e) (end_is t u e f h) l
  by_below (Further n) h r = by_why n (drop n m.bytes) (reason s.flow (drop n m.bytes)) h r

first_lower : (s : Setting) (w : Why) (q at : ℕ) (xs : List ℕ) (ls : List Line) (u : List ℕ) (f : ℕ) → q ≤ content_end s.flow xs at → Later q ls → first s w at xs ls ≡ Stands u f → q ≤ f
first_lower s Break q at xs ls u f l o h = by_line s.one_line h where
  by_line : (p : Bool) → cond p (Stands (content s.flow xs) (content_end s.flow xs at)) (more s ls (content s.flow xs) (content_end s.flow xs at) 0) ≡ Stands u f → q ≤ f
  by_line true h = subst (λ e. q ≤ e) (end_is _ u _ f h) l
  by_line false h = more_lower s q ls (content s.flow xs) (content_end s.flow xs at) 0 u f l o h
first_lower s Return q at xs ls u f l o h = absurd (fails_not _ u f h)
first_lower s Colon q at xs ls u f l o h = subst (λ e. q ≤ e) (end_is _ u _ f h) l
first_lower s Comment q at xs ls u f l o h = subst (λ e. q ≤ e) (end_is _ u _ f h) l
first_lower s Mark q at xs ls u f l o h = subst (λ e. q ≤ e) (end_is _ u _ f h) l

-- ---- dashes and points in front of a line stay in its content

trimmed_front : (f w : List ℕ) → each dash f ≡ true → length f ≤ length (trimmed (f ++ w))
trimmed_front [] w h = omega arith
trimmed_front (b ∷ f) w h = by_dash (dash b) refl h (λ g. trimmed_front f w g) where
  keeps : (t : List ℕ) → is_white b ≡ false → length f ≤ length t → suc (length f) ≤ length (keep b t)
  keeps [] e l = subst (λ q. suc (length f) ≤ length (cond q [] (b ∷ []))) (sym e) (omega (arith, l))
  keeps (c ∷ t) e l = omega (arith, l)

  by_dash : (q : Bool) → dash b ≡ q → cond q (each dash f) false ≡ true → (each dash f ≡ true → length f ≤ length (trimmed (f ++ w))) → suc (length f) ≤ length (keep b (trimmed (f ++ w)))
  by_dash true e h r = let n : is_white b ≡ false = grind (arith, nat_tests, e) in keeps (trimmed (f ++ w)) n (r h)
  by_dash false e h r = absurd (true≢false (sym h))

take_over : (n : ℕ) (f u : List ℕ) → length f ≤ n → (v : List ℕ) × (take n (f ++ u) ≡ f ++ v)
take_over n [] u l = (take n u, refl)
take_over zero (b ∷ f) u l = absurd (omega (arith, l))
take_over (suc n) (b ∷ f) u l = let r = take_over n f u (omega (arith, l)) in (r.0, ap (λ t. b ∷ t) r.1)

same_split : (a n : ℕ) (bs : List ℕ) → dash a ≡ true → (f u : List ℕ) × (bs ≡ f ++ u) × (each dash f ≡ true) × (length f ≡ same a n bs)
same_split a zero bs d = ([], bs, refl, refl, refl)
same_split a (suc n) [] d = ([], [], refl, refl, refl)
same_split a (suc n) (b ∷ bs) d = by_byte (nat_eq b a) refl (same_split a n bs d) where
  by_byte : (q : Bool) → nat_eq b a ≡ q → (f u : List ℕ) × (bs ≡ f ++ u) × (each dash f ≡ true) × (length f ≡ same a n bs) → (f u : List ℕ) × (b ∷ bs ≡ f ++ u) × (each dash f ≡ true) × (length f ≡ cond q (suc (same a n bs)) 0)
  by_byte true e (f, u, i, j, k) =
      let n : b ≡ a = grind (arith, nat_tests, e) in
      (b ∷ f, u, ap (λ t. b ∷ t) i, ap (λ q. cond q (each dash f) false) (ap dash n ∙ d) ∙ j, ap suc k)
  by_byte false e r = ([], b ∷ bs, refl, refl, refl)

pub mark_split : (b : ℕ) (bs : List ℕ) → dash b ≡ true → (f u : List ℕ) × (b ∷ bs ≡ f ++ u) × (each dash f ≡ true) × (length f ≡ suc (same b 2 bs))
mark_split b bs d = let (f, u, i, j, k) = same_split b 2 bs d in (b ∷ f, u, ap (λ t. b ∷ t) i, ap (λ q. cond q (each dash f) false) d ∙ j, ap suc k)

content_front : (flow : Bool) (b : ℕ) (bs : List ℕ) → dash b ≡ true → suc (same b 2 bs) ≤ length (content flow (b ∷ bs))
content_front flow b bs d =
    let (f, u, i, j, k) = mark_split b bs d in
    let long = dashes_long flow false f u j in
    let (v, e) = take_over (plain_len flow false (f ++ u)) f u long in
    let is : content flow (b ∷ bs) ≡ trimmed (f ++ v) = ap (content flow) i ∙ ap trimmed e in
    let a = trimmed_front f v j in
    let z = ap (λ (t : List ℕ). length t) is in
    omega (arith, a, z, k)

-- ---- a token at which a scalar may begin

pub return_scalar : (flow : Bool) (xs : List ℕ) → begins_with 13 xs ≡ true → starts_scalar (token_of flow xs) ≡ false
return_scalar flow [] h = absurd (true≢false (sym h))
return_scalar flow (c ∷ xs) h = let e : c ≡ 13 = grind (arith, nat_tests, h) in ap (λ c. starts_scalar (token_of flow (c ∷ xs))) e ∙ by_flow flow where
  by_flow : (flow : Bool) → starts_scalar (token_of flow (13 ∷ xs)) ≡ false
  by_flow true = refl
  by_flow false = refl

pub comment_scalar : (flow : Bool) (xs : List ℕ) → begins_with 35 xs ≡ true → starts_scalar (token_of flow xs) ≡ false
comment_scalar flow [] h = absurd (true≢false (sym h))
comment_scalar flow (c ∷ xs) h = let e : c ≡ 35 = grind (arith, nat_tests, h) in ap (λ c. starts_scalar (token_of flow (c ∷ xs))) e ∙ by_flow flow where
  by_flow : (flow : Bool) → starts_scalar (token_of flow (35 ∷ xs)) ≡ false
  by_flow true = refl
  by_flow false = refl

pub name_scalar : (flow : Bool) (bs : List ℕ) → starts_scalar (token_of flow (33 ∷ bs)) ≡ false
name_scalar flow bs = by_flow flow where
  by_tag : (q : Bool) (n : ℕ) → starts_scalar (cond q (Tag n) NoTag) ≡ false
  by_tag true n = refl
  by_tag false n = refl

  by_flow : (flow : Bool) → starts_scalar (token_of flow (33 ∷ bs)) ≡ false
  by_flow true = by_tag (begins_letter bs && ends_tag true (drop (lead is_name bs) bs)) (lead is_name bs)
  by_flow false = by_tag (begins_letter bs && ends_tag false (drop (lead is_name bs) bs)) (lead is_name bs)

token_one : (flow : Bool) (xs : List ℕ) → starts_scalar (token_of flow xs) ≡ true → token_shown xs ≤ 1
token_one flow [] h = omega arith
token_one flow (c ∷ bs) h = by_name (nat_eq c 33) refl where
  by_name : (p : Bool) → nat_eq c 33 ≡ p → cond p (suc (lead is_name bs)) (cond (nat_eq c 45 || (nat_eq c 58 || nat_eq c 13)) 1 0) ≤ 1
  by_name true e = let n : c ≡ 33 = grind (arith, nat_tests, e) in absurd (true≢false (sym h ∙ ap (λ c. starts_scalar (token_of flow (c ∷ bs))) n ∙ name_scalar flow bs))
  by_name false e = by_other (nat_eq c 45 || (nat_eq c 58 || nat_eq c 13)) where
    by_other : (q : Bool) → cond q 1 0 ≤ 1
    by_other true = omega arith
    by_other false = omega arith

content_one : (flow fresh : Bool) (xs : List ℕ) → starts_scalar (token_of flow (past_white xs)) ≡ true → content_shown fresh xs ≤ lead is_white xs + 1
content_one flow fresh xs h = by_comment (fresh || nat_lt 0 (lead is_white xs)) (begins_with 35 (past_white xs)) refl where
  by_comment : (p q : Bool) → begins_with 35 (past_white xs) ≡ q → cond (p && q) (first_return xs) (lead is_white xs + token_shown (past_white xs)) ≤ lead is_white xs + 1
  by_comment true true e = absurd (true≢false (sym h ∙ comment_scalar flow (past_white xs) e))
  by_comment true false e = let z = token_one flow (past_white xs) h in omega (arith, z)
  by_comment false q e = let z = token_one flow (past_white xs) h in omega (arith, z)

-- ---- the bytes that a line shares with a mark

pub no_mark : (flow : Bool) (xs : List ℕ) → mark_len xs ≡ 0 → starts_scalar (token_of flow (past_white xs)) ≡ true → shown xs ≤ lead is_white xs
no_mark flow xs m h = by_return (begins_with 13 (drop (lead is_white xs + mark_len xs) xs)) refl where
  by_return : (q : Bool) → begins_with 13 (drop (lead is_white xs + mark_len xs) xs) ≡ q → cond (q && may_end (mark_len xs)) (suc (lead is_white xs + mark_len xs)) (lead is_white xs + mark_len xs) ≤ lead is_white xs
  by_return true e =
      let n : lead is_white xs + mark_len xs ≡ lead is_white xs = omega (arith, m) in
      absurd (true≢false (sym h ∙ return_scalar flow (past_white xs) (ap (λ k. begins_with 13 (drop k xs)) (sym n) ∙ e)))
  by_return false e = omega (arith, m)

-- three bytes of one, and then a carriage return
cut_here : (b : ℕ) (bs : List ℕ) → dash b ≡ true → same b 2 bs ≡ 2 → begins_with 13 (drop 3 (b ∷ bs)) ≡ true → is_cut_mark (b ∷ bs) ≡ true
cut_here b [] d s r = absurd (omega (arith, s))
cut_here b (c ∷ []) d s r = absurd (true≢false (sym r))
cut_here b (c ∷ g ∷ rest) d s r = by_bytes (nat_eq c b) (nat_eq g b) refl refl s where
  by_bytes : (p q : Bool) → nat_eq c b ≡ p → nat_eq g b ≡ q → cond p (suc (cond q 1 0)) 0 ≡ 2 → (dash b && (nat_eq b c && (nat_eq b g && begins_with 13 rest))) ≡ true
  by_bytes true true i j s =
      let x : nat_eq b c ≡ true = grind (arith, nat_tests, i) in
      let y : nat_eq b g ≡ true = grind (arith, nat_tests, j) in
      ap (λ q. q && (nat_eq b c && (nat_eq b g && begins_with 13 rest))) d ∙ ap (λ q. q && (nat_eq b g && begins_with 13 rest)) x ∙ ap (λ q. q && begins_with 13 rest) y ∙ r
  by_bytes true false i j s = absurd (omega (arith, s))
  by_bytes false q i j s = absurd (omega (arith, s))

pub marked_shown : (b : ℕ) (bs : List ℕ) (n : ℕ) → dash b ≡ true → marked (b ∷ bs) ≡ false → suc (same b 2 bs) ≤ n → shown (b ∷ bs) ≤ n
marked_shown b bs n d m l = by_return (begins_with 13 (drop (lead is_white (b ∷ bs) + mark_len (b ∷ bs)) (b ∷ bs))) (may_end (mark_len (b ∷ bs))) refl refl where
  white : lead is_white (b ∷ bs) ≡ 0
  white = let w : is_white b ≡ false = grind (arith, nat_tests, d) in ap (λ q. cond q (suc (lead is_white bs)) 0) w

  len : mark_len (b ∷ bs) ≡ suc (same b 2 bs)
  len = ap (λ q. cond q (suc (same b 2 bs)) 0) d

  both : lead is_white (b ∷ bs) + mark_len (b ∷ bs) ≡ suc (same b 2 bs)
  both = let w = white in let k = len in omega (arith, w, k)

  by_return : (p q : Bool) → begins_with 13 (drop (lead is_white (b ∷ bs) + mark_len (b ∷ bs)) (b ∷ bs)) ≡ p → may_end (mark_len (b ∷ bs)) ≡ q
      → cond (p && q) (suc (lead is_white (b ∷ bs) + mark_len (b ∷ bs))) (lead is_white (b ∷ bs) + mark_len (b ∷ bs)) ≤ n
  by_return true true i j =
      let three : same b 2 bs ≡ 2 = (let e = ap may_end len in let f : may_end (suc (same b 2 bs)) ≡ true = sym e ∙ j in grind (arith, nat_tests, f)) in
      let r : begins_with 13 (drop 3 (b ∷ bs)) ≡ true = ap (λ k. begins_with 13 (drop (suc k) (b ∷ bs))) (sym three) ∙ ap (λ k. begins_with 13 (drop k (b ∷ bs))) (sym both) ∙ i in
      let c = cut_here b bs d three r in
      absurd (true≢false (sym (by_or (is_mark (b ∷ bs)) (is_cut_mark (b ∷ bs)) c) ∙ m)) where
        by_or : (p q : Bool) → q ≡ true → (p || q) ≡ true
        by_or true q e = refl
        by_or false q e = e
  by_return true false i j = let z = both in omega (arith, z, l)
  by_return false q i j = let z = both in omega (arith, z, l)

-- ---- a line at which a scalar stands

pub begins_line : (k c : ℕ) (z ys : List ℕ) → line_at ys ≡ c ∷ z → begins_with k ys ≡ nat_eq c k
begins_line k c z [] h = absurd (cc)
begins_line k c z (y ∷ ys) h = by_break (begins_break y ys) h where
  by_break : (q : Bool) → cond q [] (y ∷ line_at ys) ≡ c ∷ z → nat_eq y k ≡ nat_eq c k
  by_break true h = absurd (cc)
  by_break false h = let e : y ≡ c = cc in ap (λ y. nat_eq y k) e

dash_plain : (s : Setting) (text : List ℕ) (at c : ℕ) (z : List ℕ) → line_at (drop at text) ≡ c ∷ z → dash c ≡ true → scalar_at s text at ≡ plain_scalar s text at
dash_plain s text at c z e d =
    let a : begins_with 34 (drop at text) ≡ false = begins_line 34 c z (drop at text) e ∙ grind (arith, nat_tests, d) in
    let b : begins_with 39 (drop at text) ≡ false = begins_line 39 c z (drop at text) e ∙ grind (arith, nat_tests, d) in
    let f : begins_with 124 (drop at text) ≡ false = begins_line 124 c z (drop at text) e ∙ grind (arith, nat_tests, d) in
    let g : begins_with 62 (drop at text) ≡ false = begins_line 62 c z (drop at text) e ∙ grind (arith, nat_tests, d) in
    by_tests (begins_with 34 (drop at text)) (begins_with 39 (drop at text)) (begins_with 124 (drop at text)) (begins_with 62 (drop at text)) (s.flow || s.one_line) a b f g where
      by_tests : (p q r v w : Bool) → p ≡ false → q ≡ false → r ≡ false → v ≡ false → cond (p || q) (quoted_scalar s text at) (cond (not w && (r || v)) (block_scalar s text at) (plain_scalar s text at)) ≡ plain_scalar s text at
      by_tests true q r v w i j k l = absurd (true≢false i)
      by_tests false true r v w i j k l = absurd (true≢false j)
      by_tests false false true v w i j k l = absurd (true≢false k)
      by_tests false false false true w i j k l = absurd (true≢false l)
      by_tests false false false false true i j k l = refl
      by_tests false false false false false i j k l = refl

module _ (s : Setting) (text : List ℕ) (flow : Bool) (t : List ℕ) (e : ℕ) where
  -- a line's first bytes, where it begins at a first column
  dashed : (l : Line) (ls : List Line) (b : ℕ) (bs : List ℕ) → IsTail text l ls → is_first_column text l.at ≡ true → l.bytes ≡ b ∷ bs → dash b ≡ true → scalar_at s text l.at ≡ Stands t e → l.at + shown l.bytes ≤ e
  dashed l ls b bs is fresh i d h =
      let there : line_at (drop l.at text) ≡ b ∷ bs = first_bytes text l ls is.0 ∙ i in
      let on : plain_on s true (l ∷ ls) ≡ Stands t e = sym (ap (λ q. plain_on s q (lines l.at (drop l.at text))) fresh ∙ ap (plain_on s true) is.0) ∙ sym (dash_plain s text l.at b bs there d) ∙ h in
      let o = opens_stands s true l ls t e on in
      let a = content_front s.flow b bs d in
      let z : length (content s.flow l.bytes) ≡ length (content s.flow (b ∷ bs)) = ap (λ (x : List ℕ). length (content s.flow x)) i in
      let later = is.2 in
      let low = is.1 in
      let q = first_lower s (reason s.flow l.bytes) (l.at + suc (same b 2 bs)) l.at l.bytes ls t e (omega (arith, a, z)) (later_less (l.at + length l.bytes) (l.at + suc (same b 2 bs)) ls (let m = same_fits b bs d in let y = ap (λ (x : List ℕ). length x) i in omega (arith, m, y)) later) o.2 in
      let m = marked_shown b bs (suc (same b 2 bs)) d (sym (ap marked i) ∙ o.0) (omega arith) in
      let y : shown l.bytes ≡ shown (b ∷ bs) = ap shown i in
      omega (arith, q, m, y) where
        later_less : (p q : ℕ) (ls : List Line) → q ≤ p → Later p ls → Later q ls
        later_less p q [] l w = tt
        later_less p q (m ∷ ls) l w = ((let a = w.0 in omega (arith, l, a)), later_less p q ls l w.1)

        same_fits : (b : ℕ) (bs : List ℕ) → dash b ≡ true → suc (same b 2 bs) ≤ length (b ∷ bs)
        same_fits b bs d =
            let (f, u, i, j, k) = mark_split b bs d in
            let z = ap (λ (t : List ℕ). length t) i in
            omega (arith, z, k, length-append f u)

  here : (l : Line) (ls : List Line) → IsTail text l ls → is_first_column text l.at ≡ true → starts_scalar (token_of flow (past_white l.bytes)) ≡ true → l.at + lead is_white l.bytes < e → scalar_at s text (l.at + lead is_white l.bytes) ≡ Stands t e
      → l.at + widest (shown l.bytes) (content_shown true l.bytes) ≤ e
  here l ls is fresh start low h =
      let a = content_one flow true l.bytes start in
      let w = by_bytes l.bytes refl in
      let z = widest_less (shown l.bytes) (content_shown true l.bytes) (e - l.at) (omega (arith, w)) (omega (arith, a, low)) in
      omega (arith, z, low) where
        none : mark_len l.bytes ≡ 0 → l.at + shown l.bytes ≤ e
        none m = let a = no_mark flow l.bytes m start in omega (arith, a, low)

        by_bytes : (xs : List ℕ) → l.bytes ≡ xs → l.at + shown l.bytes ≤ e
        by_bytes [] i = none (ap mark_len i)
        by_bytes (b ∷ bs) i = by_dash (dash b) refl where
          by_dash : (q : Bool) → dash b ≡ q → l.at + shown l.bytes ≤ e
          by_dash true d =
              let white : lead is_white l.bytes ≡ 0 = ap (lead is_white) i ∙ (let w : is_white b ≡ false = grind (arith, nat_tests, d) in ap (λ q. cond q (suc (lead is_white bs)) 0) w) in
              let there : l.at + lead is_white l.bytes ≡ l.at = omega (arith, white) in
              dashed l ls b bs is fresh i d (ap (scalar_at s text) (sym there) ∙ h)
          by_dash false d = none (ap mark_len i ∙ ap (λ q. cond q (suc (same b 2 bs)) 0) d)

  line_scalar : (ls : List Line) → Tails text ls → Within (length text) ls → Fresh text ls → starts_scalar (line_ahead flow (length text) ls).token ≡ true → (line_ahead flow (length text) ls).at < e → scalar_at s text (line_ahead flow (length text) ls).at ≡ Stands t e
      → line_seen (length text) ls ≤ e
  line_scalar [] o w f start low h = absurd (true≢false (sym start))
  line_scalar (l ∷ ls) o w f start low h = by_tests (is_mark l.bytes) (is_passed true l.bytes) start low h (λ a b c. line_scalar ls o.1 w.1 f.1 a b c) where
    no_marks : (q : Bool) → starts_scalar (cond q Dashes Dots) ≡ true → ⊥
    no_marks true h = true≢false (sym h)
    no_marks false h = true≢false (sym h)

    no_tab : (q : Bool) → starts_scalar (cond q Stray Tabbed) ≡ true → ⊥
    no_tab true h = true≢false (sym h)
    no_tab false h = true≢false (sym h)

    by_tab : (q : Bool)
        → starts_scalar (cond q (token_at (tab_token (past_white l.bytes)) true (indent l.bytes) (l.at + indent l.bytes)) (token_at (token_of flow (past_white l.bytes)) true (lead is_white l.bytes) (l.at + lead is_white l.bytes))).token ≡ true
        → (cond q (token_at (tab_token (past_white l.bytes)) true (indent l.bytes) (l.at + indent l.bytes)) (token_at (token_of flow (past_white l.bytes)) true (lead is_white l.bytes) (l.at + lead is_white l.bytes))).at < e
        → scalar_at s text (cond q (token_at (tab_token (past_white l.bytes)) true (indent l.bytes) (l.at + indent l.bytes)) (token_at (token_of flow (past_white l.bytes)) true (lead is_white l.bytes) (l.at + lead is_white l.bytes))).at ≡ Stands t e
        → l.at + widest (shown l.bytes) (content_shown true l.bytes) ≤ e
    by_tab true a b c = absurd (no_tab (begins_with 35 (past_white l.bytes) || begins_with 13 (past_white l.bytes)) a)
    by_tab false a b c = here l ls (tail_is text l ls o.0 w.0) f.0 a b c

    by_tests : (q r : Bool) → starts_scalar (cond q (token_at (mark_of l.bytes) true 0 l.at) (cond r (line_ahead flow (length text) ls) (content_ahead flow l.at l.bytes))).token ≡ true
        → (cond q (token_at (mark_of l.bytes) true 0 l.at) (cond r (line_ahead flow (length text) ls) (content_ahead flow l.at l.bytes))).at < e
        → scalar_at s text (cond q (token_at (mark_of l.bytes) true 0 l.at) (cond r (line_ahead flow (length text) ls) (content_ahead flow l.at l.bytes))).at ≡ Stands t e
        → (starts_scalar (line_ahead flow (length text) ls).token ≡ true → (line_ahead flow (length text) ls).at < e → scalar_at s text (line_ahead flow (length text) ls).at ≡ Stands t e → line_seen (length text) ls ≤ e)
        → cond q (l.at + 4) (cond r (line_seen (length text) ls) (l.at + widest (shown l.bytes) (content_shown true l.bytes))) ≤ e
    by_tests true r a b c g = absurd (no_marks (begins_with 45 l.bytes) a)
    by_tests false true a b c g = g a b c
    by_tests false false a b c g = by_tab (is_tabbed flow l.bytes) a b c

  rest_scalar : (l : Line) (ls : List Line) → Tails text ls → Within (length text) ls → Fresh text ls → starts_scalar (rest_ahead flow (length text) (l ∷ ls)).token ≡ true → (rest_ahead flow (length text) (l ∷ ls)).at < e → scalar_at s text (rest_ahead flow (length text) (l ∷ ls)).at ≡ Stands t e
      → rest_seen (length text) (l ∷ ls) ≤ e
  rest_scalar l ls o w f start low h = by_test (is_passed false l.bytes) start low h where
    by_test : (r : Bool) → starts_scalar (cond r (line_ahead flow (length text) ls) (token_at (token_of flow (past_white l.bytes)) false (lead is_white l.bytes) (l.at + lead is_white l.bytes))).token ≡ true
        → (cond r (line_ahead flow (length text) ls) (token_at (token_of flow (past_white l.bytes)) false (lead is_white l.bytes) (l.at + lead is_white l.bytes))).at < e
        → scalar_at s text (cond r (line_ahead flow (length text) ls) (token_at (token_of flow (past_white l.bytes)) false (lead is_white l.bytes) (l.at + lead is_white l.bytes))).at ≡ Stands t e
        → cond r (line_seen (length text) ls) (l.at + content_shown false l.bytes) ≤ e
    by_test true a b c = line_scalar ls o w f a b c
    by_test false a b c = let z = content_one flow false l.bytes a in omega (arith, z, b)

abbrev pub line_of : List ℕ → ℕ → Line
line_of text i = record { at = i; bytes = line_at (drop i text); broken = has_break (drop i text) }

-- what is ahead, and then what is ahead behind a scalar there
pub seen_scalar : (s : Setting) (text : List ℕ) (flow : Bool) (i : ℕ) (t : List ℕ) (e : ℕ) → i ≤ length text → starts_scalar (ahead text flow i).token ≡ true → (ahead text flow i).at < e → scalar_at s text (ahead text flow i).at ≡ Stands t e → ahead_seen text i ≤ e
seen_scalar s text flow i t e within start low h = by_column (is_first_column text i) refl start low h where
  are : lines i (drop i text) ≡ line_of text i ∷ behind i (drop i text)
  are = lines_are i (drop i text)

  tails : Tails text (line_of text i ∷ behind i (drop i text))
  tails = subst (Tails text) are (tails_of text i)

  inside_text : Within (length text) (line_of text i ∷ behind i (drop i text))
  inside_text = subst (Within (length text)) are (lines_within (length text) i (drop i text) (omega (arith, within, length-drop i text)))

  by_column : (q : Bool) → is_first_column text i ≡ q → starts_scalar (cond q (line_ahead flow (length text) (lines i (drop i text))) (rest_ahead flow (length text) (lines i (drop i text)))).token ≡ true
      → (cond q (line_ahead flow (length text) (lines i (drop i text))) (rest_ahead flow (length text) (lines i (drop i text)))).at < e
      → scalar_at s text (cond q (line_ahead flow (length text) (lines i (drop i text))) (rest_ahead flow (length text) (lines i (drop i text)))).at ≡ Stands t e
      → cond q (line_seen (length text) (lines i (drop i text))) (rest_seen (length text) (lines i (drop i text))) ≤ e
  by_column true c a b d =
      subst (λ ls. starts_scalar (line_ahead flow (length text) ls).token ≡ true → (line_ahead flow (length text) ls).at < e → scalar_at s text (line_ahead flow (length text) ls).at ≡ Stands t e → line_seen (length text) ls ≤ e) (sym are)
      (line_scalar s text flow t e (line_of text i ∷ behind i (drop i text)) tails inside_text (c, behind_fresh text (drop i text) i refl)) a b d
  by_column false c a b d =
      subst (λ ls. starts_scalar (rest_ahead flow (length text) ls).token ≡ true → (rest_ahead flow (length text) ls).at < e → scalar_at s text (rest_ahead flow (length text) ls).at ≡ Stands t e → rest_seen (length text) ls ≤ e) (sym are)
      (rest_scalar s text flow t e (line_of text i) (behind i (drop i text)) tails.1 inside_text.1 (behind_fresh text (drop i text) i refl)) a b d
