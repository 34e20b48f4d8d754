-- Where a plain scalar breaks off at the text's end, one that stands in a longer text has no dot only if none stands among the bytes so far.
use Rattle.std.proofs.Common.{◌≡◌, ℕ, zero, suc, ◌+◌, ◌<◌, ◌≤◌, inl, inr, Bool, true, false, ◌||◌, ◌&&◌, cond, nat_eq, nat_lt, arith, List, [], ◌∷◌, ◌++◌, take, drop, length, refl, sym, ap, ◌∙◌, subst, true≢false, append_assoc, append-nil, length-append}
use Rattle.std.proofs.lemmas.Bool.Decides.{nat_tests}
use Rattle.yaml_scalars.specs.declared.scalar.Setting.{Setting}
use Rattle.yaml_scalars.specs.declared.plain_line.Why.{Why}
use Rattle.yaml_scalars.specs.declared.plain_line.Why.TheVariants.{Break, Return, Colon, Comment, Mark}
use Rattle.yaml_scalars.specs.declared.plain_line.Below.{Below}
use Rattle.yaml_scalars.specs.declared.plain_line.Below.TheVariants.{Blank, Outside, Further}
use Rattle.yaml_scalars.specs.Lines.{Line, Outcome, Stands, Fails, Documents, begins_with, each, ends_with, is_white, is_space, lead, indent, is_blank, past_white, keep, trimmed, is_mark, fold}
use Rattle.yaml_scalars.specs.Plain.{above_of, is_flow_mark, is_doubtful, is_unsafe, begins_plain, wrong_begin, stops, plain_len, content, content_end, why, reason, content_at, inside, below, joined, ends_on, stop_behind, joins, further, more, first, plain_on}
use Rattle.yaml_scalars.proofs.FurtherLines.{skip_le}
use Rattle.yaml_laws.specs.code.Dots.{is_dotless, undotted}
use Rattle.yaml_laws.proofs.Agree.{drop_before}
use Rattle.yaml_laws.proofs.DotEscapes.{IsFree}
use Rattle.yaml_laws.proofs.Dotless.{AreFree, free_append}
use Rattle.yaml_laws.proofs.DotQuoted.{BackAt, back_map, free_back, free_front, free_one, split, blank_undotted, white_dotless}
use Rattle.yaml_laws.proofs.Longer.{glue, joint, Ends}
use Rattle.yaml_laws.proofs.PlainDead.{fails_same, why_colon}
use Rattle.yaml_laws.proofs.PlainLaw.{marked, dash, opens, mark_of}
use Rattle.yaml_laws.proofs.PlainLonger.{Colons, Goes, first_cases, joins_cases, before_end, no_last_return, not_stands, shown_cases}
use Rattle.yaml_laws.proofs.PlainShown.{shown_colon, below_front, fail_parts}

both : (p q : Bool) → p ≡ true → q ≡ true → (p && q) ≡ true
both true q e g = g
both false q e g = absurd (true≢false (sym e))

pub free_undotted : (v : List ℕ) → IsFree v → undotted false false v ≡ true
free_undotted [] h = refl
free_undotted (b ∷ v) h = by_byte (is_dotless b) h (λ i. free_undotted v i) where
  by_byte : (q : Bool) → cond q (each is_dotless v) false ≡ true → (IsFree v → undotted false false v ≡ true) → (q && undotted false false v) ≡ true
  by_byte true h r = r h
  by_byte false h r = absurd (true≢false (sym h))

-- ---- what is trimmed

one_free : (b : ℕ) → is_dotless b ≡ true → IsFree (b ∷ [])
one_free b h = ap (λ q. cond q true false) h

trim_back : (v : List ℕ) → IsFree (trimmed v) → IsFree v
trim_back [] h = refl
trim_back (b ∷ v) h = by_trimmed (trimmed v) refl h (λ i. trim_back v i) where
  put : is_dotless b ≡ true → IsFree v → IsFree (b ∷ v)
  put d f = ap (λ q. cond q (each is_dotless v) false) d ∙ f

  by_white : (w : Bool) → is_white b ≡ w → IsFree (cond w [] (b ∷ [])) → is_dotless b ≡ true
  by_white true w h = white_dotless b w
  by_white false w h = free_one b h

  by_trimmed : (xs : List ℕ) → trimmed v ≡ xs → IsFree (keep b xs) → (IsFree (trimmed v) → IsFree v) → IsFree (b ∷ v)
  by_trimmed [] e h r = put (by_white (is_white b) refl h) (r (ap (each is_dotless) e))
  by_trimmed (c ∷ cs) e h r = put (free_one b (free_front (b ∷ []) (c ∷ cs) h)) (r (ap (each is_dotless) e ∙ free_back (b ∷ []) (c ∷ cs) h))

take_back : (n : ℕ) (v w : List ℕ) → length v ≤ n → IsFree (take n (v ++ w)) → IsFree v
take_back n [] w l h = refl
take_back zero (b ∷ v) w l h = absurd (omega (arith, l))
take_back (suc n) (b ∷ v) w l h = ap (λ q. cond q (each is_dotless v) false) (free_one b (free_front (b ∷ []) (take n (v ++ w)) h)) ∙ take_back n v w (omega (arith, l)) (free_back (b ∷ []) (take n (v ++ w)) h)

-- ---- a line whose bytes are all content

stop_more : (flow white : Bool) (b : ℕ) (xs y : List ℕ) → stops flow white b xs ≡ false → stops flow white b (xs ++ y) ≡ false
stop_more flow white b (x ∷ xs) y h = h
stop_more flow white b [] y h = by_tests (nat_eq b 58) (nat_eq b 35 && white) (flow && is_flow_mark b) (nat_eq b 13) (is_unsafe flow y) h where
  by_tests : (p q r s u : Bool) → ((p && true) || q || r || s) ≡ false → ((p && u) || q || r || s) ≡ false
  by_tests true q r s u h = absurd (true≢false h)
  by_tests false q r s u h = h

len_more : (flow white : Bool) (xs y : List ℕ) → plain_len flow white xs ≤ plain_len flow white (xs ++ y)
len_more flow white [] y = omega arith
len_more flow white (b ∷ xs) y = by_stop (stops flow white b xs) refl (len_more flow (is_white b) xs y) where
  by_stop : (q : Bool) → stops flow white b xs ≡ q → plain_len flow (is_white b) xs ≤ plain_len flow (is_white b) (xs ++ y) → cond q 0 (suc (plain_len flow (is_white b) xs)) ≤ cond (stops flow white b (xs ++ y)) 0 (suc (plain_len flow (is_white b) (xs ++ y)))
  by_stop true e l = omega arith
  by_stop false e l = let z = ap (λ q. cond q 0 (suc (plain_len flow (is_white b) (xs ++ y)))) (stop_more flow white b xs y e) in omega (arith, z, l)

none_behind : (xs : List ℕ) → why xs ≡ Break → xs ≡ []
none_behind [] h = refl
none_behind (b ∷ xs) h = absurd (by_tests (nat_eq b 13) (nat_eq b 58) (nat_eq b 35) h) where
  by_tests : (p q r : Bool) → cond p Return (cond q Colon (cond r Comment Mark)) ≡ Break → ⊥
  by_tests true q r h = cc
  by_tests false true r h = cc
  by_tests false false true h = cc
  by_tests false false false h = cc

pub whole_free : (flow : Bool) (xs : List ℕ) → reason flow xs ≡ Break → IsFree (content flow xs) → IsFree xs
whole_free flow xs b f =
    let n = plain_len flow false xs in
    subst IsFree (sym (append-nil (take n xs)) ∙ ap (λ t. take n xs ++ t) (sym (none_behind (drop n xs) b)) ∙ split n xs) (trim_back (take n xs) f)

front_free : (flow : Bool) (v w : List ℕ) → length v ≤ plain_len flow false (v ++ w) → IsFree (content flow (v ++ w)) → IsFree v
front_free flow v w l f = take_back (plain_len flow false (v ++ w)) v w l (trim_back (take (plain_len flow false (v ++ w)) (v ++ w)) f)

-- ---- what stands in front of a further line's content

lead_free : (p : ℕ → Bool) → ((b : ℕ) → p b ≡ true → is_dotless b ≡ true) → (xs : List ℕ) → IsFree (take (lead p xs) xs)
lead_free p f [] = refl
lead_free p f (b ∷ xs) = by_byte (p b) refl (lead_free p f xs) where
  by_byte : (q : Bool) → p b ≡ q → IsFree (take (lead p xs) xs) → IsFree (take (cond q (suc (lead p xs)) 0) (b ∷ xs))
  by_byte true e r = ap (λ q. cond q (each is_dotless (take (lead p xs) xs)) false) (f b e) ∙ r
  by_byte false e r = refl

space_dotless : (b : ℕ) → is_space b ≡ true → is_dotless b ≡ true
space_dotless b h = grind (arith, nat_tests, h)

skip_free : (s : Setting) (xs : List ℕ) (n : ℕ) → below s xs ≡ Further n → IsFree (take n xs)
skip_free s xs n h = by_blank (is_blank xs) (is_mark xs) h where
  by_content : (m : ℕ) (q : Bool) → cond q Outside (Further m) ≡ Further n → m ≡ n
  by_content m true h = absurd (cc)
  by_content m false h = cc

  by_side : (q : Bool) → cond q Outside (content_at (indent xs) (drop (indent xs) xs)) ≡ Further n → IsFree (take n xs)
  by_side true h = absurd (cc)
  by_side false h = subst (λ m. IsFree (take m xs)) (by_content (indent xs) (begins_with 35 (drop (indent xs) xs)) h) (lead_free is_space space_dotless xs)

  by_flow : (q : Bool) → cond q (content_at (lead is_white xs) (past_white xs)) (cond (nat_lt (indent xs) (above_of s.parent) || begins_with 9 (drop (indent xs) xs)) Outside (content_at (indent xs) (drop (indent xs) xs))) ≡ Further n → IsFree (take n xs)
  by_flow true h = subst (λ m. IsFree (take m xs)) (by_content (lead is_white xs) (begins_with 35 (past_white xs)) h) (lead_free is_white white_dotless xs)
  by_flow false h = by_side (nat_lt (indent xs) (above_of s.parent) || begins_with 9 (drop (indent xs) xs)) h

  by_blank : (b m : Bool) → cond b Blank (cond m Outside (inside s xs)) ≡ Further n → IsFree (take n xs)
  by_blank true m h = absurd (cc)
  by_blank false true h = absurd (cc)
  by_blank false false h = by_flow s.flow h

pub behind_free : (s : Setting) (xs : List ℕ) (n : ℕ) → below s xs ≡ Further n → IsFree (drop n xs) → IsFree xs
behind_free s xs n b f = subst IsFree (split n xs) (free_append (take n xs) (drop n xs) (skip_free s xs n b) f)

pub blank_line : (s : Setting) (xs : List ℕ) → below s xs ≡ Blank → is_blank xs ≡ true
blank_line s xs h = by_blank (is_blank xs) (is_mark xs) h where
  by_content : (m : ℕ) (q : Bool) → cond q Outside (Further m) ≡ Blank → ⊥
  by_content m true h = cc
  by_content m false h = cc

  by_side : (q : Bool) → cond q Outside (content_at (indent xs) (drop (indent xs) xs)) ≡ Blank → ⊥
  by_side true h = cc
  by_side false h = by_content (indent xs) (begins_with 35 (drop (indent xs) xs)) h

  by_flow : (q : Bool) → cond q (content_at (lead is_white xs) (past_white xs)) (cond (nat_lt (indent xs) (above_of s.parent) || begins_with 9 (drop (indent xs) xs)) Outside (content_at (indent xs) (drop (indent xs) xs))) ≡ Blank → ⊥
  by_flow true h = by_content (lead is_white xs) (begins_with 35 (past_white xs)) h
  by_flow false h = by_side (nat_lt (indent xs) (above_of s.parent) || begins_with 9 (drop (indent xs) xs)) h

  by_blank : (b m : Bool) → cond b Blank (cond m Outside (inside s xs)) ≡ Blank → b ≡ true
  by_blank true m h = refl
  by_blank false true h = absurd (cc)
  by_blank false false h = absurd (by_flow s.flow h)

-- ---- lines

pub text_free : (flow : Bool) (part text : List ℕ) (k : ℕ) → IsFree (joined flow part text k) → IsFree text × IsFree (content flow part)
text_free flow part text k h = (free_front text (fold k ++ content flow part) h, free_back (fold k) (content flow part) (free_back text (fold k ++ content flow part) h))

-- what was said before is kept: the text goes on with it
abbrev pub Keeps : List ℕ → Outcome → Type 0
Keeps text (Stands t end) = (u : List ℕ) × (t ≡ text ++ u)
Keeps text (Fails p) = Unit {0}
Keeps text (Documents p) = Unit {0}

keeps_front : (v w : List ℕ) (o : Outcome) → Keeps (v ++ w) o → Keeps v o
keeps_front v w (Stands t end) (u, is) = (w ++ u, is ∙ append_assoc v w u)
keeps_front v w (Fails p) h = tt
keeps_front v w (Documents p) h = tt

pub keeps : (s : Setting) (ls : List Line) (text : List ℕ) (end k : ℕ) → Keeps text (more s ls text end k)
keeps s [] text end k = ([], sym (append-nil text))
keeps s (l ∷ ls) text end k = by_line (below s l.bytes) (λ t e n. keeps s ls t e n) where
  Next : Type 0
  Next = (t : List ℕ) (e n : ℕ) → Keeps t (more s ls t e n)

  grown : (n : ℕ) → List ℕ
  grown n = fold k ++ content s.flow (drop n l.bytes)

  ends : (n : ℕ) (q : Bool) → Keeps text (cond q (Stands text end) (Stands (joined s.flow (drop n l.bytes) text k) (content_end s.flow (drop n l.bytes) (l.at + n))))
  ends n true = ([], sym (append-nil text))
  ends n false = (grown n, refl)

  by_flow : (n : ℕ) (q : Bool) → Keeps text (cond q (ends_on s.flow (drop n l.bytes) (l.at + n) text end k) (Fails (stop_behind s.flow (drop n l.bytes) (l.at + n))))
  by_flow n true = ends n (nat_eq (plain_len s.flow false (drop n l.bytes)) 0)
  by_flow n false = tt

  by_why : (n : ℕ) (w : Why) → Next → Keeps text (joins s.flow w (drop n l.bytes) (l.at + n) text end k (more s ls))
  by_why n Break next = keeps_front text (grown n) (more s ls (joined s.flow (drop n l.bytes) text k) (content_end s.flow (drop n l.bytes) (l.at + n)) 0) (next (joined s.flow (drop n l.bytes) text k) (content_end s.flow (drop n l.bytes) (l.at + n)) 0)
  by_why n Comment next = (grown n, refl)
  by_why n Return next = tt
  by_why n Colon next = by_flow n s.flow
  by_why n Mark next = ends n (nat_eq (plain_len s.flow false (drop n l.bytes)) 0)

  by_line : (b : Below) → Next → Keeps text (further s b l.at l.bytes text end k (more s ls))
  by_line Blank next = next text end (suc k)
  by_line Outside next = ([], sym (append-nil text))
  by_line (Further n) next = by_why n (reason s.flow (drop n l.bytes)) next

-- so it has no dot where the whole has none
stays : (s : Setting) (ls : List Line) (text : List ℕ) (end k : ℕ) → BackAt 0 (IsFree text) (more s ls text end k)
stays s ls text end k = by_outcome (more s ls text end k) (keeps s ls text end k) where
  by_outcome : (o : Outcome) → Keeps text o → BackAt 0 (IsFree text) o
  by_outcome (Stands t e) (u, is) = λ z f. free_front text u (subst IsFree is f)
  by_outcome (Fails p) h = tt
  by_outcome (Documents p) h = tt

-- the last line ends in a colon
last_dotted : (s : Setting) (size at n : ℕ) (f y : List ℕ) (fs : List Line) (t : List ℕ) (e k : ℕ) → at + length f ≡ size → below s f ≡ Further n → Colons s.flow (reason s.flow (drop n f)) (drop n f) (at + n) size → BackAt 0 (IsFree t × (undotted false false f ≡ true)) (further s (below s (f ++ y)) at (f ++ y) t e k (more s fs))
last_dotted s size at n f y fs t e k end b c =
    let d = fail_parts s.flow f n (skip_le s f n b) (inr (c.0, c.1)) in
    let a = d.0 in
    let z = d.1 in
    let q = d.2 in
    let dot : q ≡ 58 = why_colon q z (sym d.9 ∙ c.0) in
    let v = c.2 in
    let w = d.4 in
    let sizes = ap (λ (y : List ℕ). length y) d.3 in
    let long = length-append a (q ∷ z) in
    let none : z ≡ [] = empty z (omega (arith, v, w, sizes, long, end)) in
    let whole : f ≡ a ++ (58 ∷ []) = d.3 ∙ ap (λ y. a ++ (q ∷ y)) none ∙ ap (λ y. a ++ (y ∷ [])) dot in
    let new : f ++ y ≡ a ++ (58 ∷ y) = ap (λ x. x ++ y) whole ∙ append_assoc a (58 ∷ []) y in
    let within : n ≤ length a = omega (arith, w) in
    let is : below s (f ++ y) ≡ Further n = ap (below s) new ∙ below_front s a 58 y [] (shown_colon 58 refl) ∙ ap (below s) (sym whole) ∙ b in
    let short : plain_len s.flow false (drop n a ++ (58 ∷ [])) ≡ length (drop n a) = ap (λ y. plain_len s.flow false (drop n a ++ (y ∷ []))) (sym dot) ∙ ap (λ y. plain_len s.flow false (drop n a ++ (q ∷ y))) (sym none) ∙ d.7 in
    let part : drop n (f ++ y) ≡ (drop n a ++ (58 ∷ [])) ++ y = ap (drop n) new ∙ drop_before n a (58 ∷ y) within ∙ sym (append_assoc (drop n a) (58 ∷ []) y) in
    let wide = len_more s.flow false (drop n a ++ (58 ∷ [])) y in
    let far : length (drop n a) ≤ plain_len s.flow false (drop n (f ++ y)) = subst (λ x. length (drop n a) ≤ plain_len s.flow false x) (sym part) (omega (arith, short, wide)) in
    let tail : drop n f ≡ drop n a ++ (58 ∷ []) = ap (drop n) whole ∙ drop_before n a (58 ∷ []) within in
    let two : drop n (f ++ y) ≡ drop n a ++ (58 ∷ y) = ap (drop n) new ∙ drop_before n a (58 ∷ y) within in
    subst (λ w. BackAt 0 (IsFree t × (undotted false false f ≡ true)) (further s w at (f ++ y) t e k (more s fs))) (sym is)
    (by_why n (drop n (f ++ y)) (drop n a) far (λ x. subst (λ m. length (drop n a) ≤ m → IsFree (take m (drop n (f ++ y))) → IsFree (drop n a)) refl (λ l g. take_back (plain_len s.flow false (drop n (f ++ y))) (drop n a) (58 ∷ y) l (subst (λ u. IsFree (take (plain_len s.flow false (drop n (f ++ y))) u)) two g)) far (trim_back (take (plain_len s.flow false (drop n (f ++ y))) (drop n (f ++ y))) x))
    (λ g. free_undotted f (behind_free s f n b (subst IsFree (sym tail) (free_append (drop n a) (58 ∷ []) g refl))))
    (reason s.flow (drop n (f ++ y)))) where
      empty : (z : List ℕ) → length z ≡ 0 → z ≡ []
      empty [] h = refl
      empty (y ∷ z) h = absurd (omega (arith, h))

      P : Type 0
      P = IsFree t × (undotted false false f ≡ true)

      by_why : (n : ℕ) (part g : List ℕ) → length g ≤ plain_len s.flow false part → (IsFree (content s.flow part) → IsFree g) → (IsFree g → undotted false false f ≡ true) → (w : Why) → BackAt 0 (IsFree t × (undotted false false f ≡ true)) (joins s.flow w part (at + n) t e k (more s fs))
      by_why n part g l free all w = by_case w where
        said : IsFree (joined s.flow part t k) → IsFree t × (undotted false false f ≡ true)
        said h = let r = text_free s.flow part t k h in (r.0, all (free r.1))

        ends : (q : Bool) → nat_eq (plain_len s.flow false part) 0 ≡ q → BackAt 0 (IsFree t × (undotted false false f ≡ true)) (cond q (Stands t e) (Stands (joined s.flow part t k) (content_end s.flow part (at + n))))
        ends true i = λ z h. (let none : plain_len s.flow false part ≡ 0 = grind (arith, nat_tests, i) in (h, all (subst IsFree (sym (empty g (omega (arith, l, none)))) refl)))
        ends false i = λ z h. said h

        by_flow : (q : Bool) → BackAt 0 (IsFree t × (undotted false false f ≡ true)) (cond q (ends_on s.flow part (at + n) t e k) (Fails (stop_behind s.flow part (at + n))))
        by_flow true = ends (nat_eq (plain_len s.flow false part) 0) refl
        by_flow false = tt

        by_case : (w : Why) → BackAt 0 (IsFree t × (undotted false false f ≡ true)) (joins s.flow w part (at + n) t e k (more s fs))
        by_case Break = back_map 0 (more s fs (joined s.flow part t k) (content_end s.flow part (at + n)) 0) said (stays s fs (joined s.flow part t k) (content_end s.flow part (at + n)) 0)
        by_case Comment = λ z h. said h
        by_case Return = tt
        by_case Colon = by_flow s.flow
        by_case Mark = ends (nat_eq (plain_len s.flow false part) 0) refl

pub more_dotted : (s : Setting) (size : ℕ) (ls : List Line) (f : Line) (fs : List Line) (t : List ℕ) (e k : ℕ) → Ends size false ls → more s ls t e k ≡ Fails size → BackAt 0 (IsFree t × AreFree false ls) (more s (glue ls (f ∷ fs)) t e k)
more_dotted s size [] f fs t e k x h = absurd x
more_dotted s size (l ∷ []) f fs t e k (x, y, z) h = by_below (below s l.bytes) refl h where
  by_below : (w : Below) → below s l.bytes ≡ w → further s w l.at l.bytes t e k (more s []) ≡ Fails size → BackAt 0 (IsFree t × AreFree false (l ∷ [])) (further s (below s (l.bytes ++ f.bytes)) l.at (l.bytes ++ f.bytes) t e k (more s fs))
  by_below Blank i h = absurd (cc)
  by_below Outside i h = absurd (cc)
  by_below (Further n) i h = elim (joins_cases s.flow (reason s.flow (drop n l.bytes)) (drop n l.bytes) (l.at + n) t e k size (more s []) h) [
    | inl g ↦ absurd (not_stands (joined s.flow (drop n l.bytes) t k) (content_end s.flow (drop n l.bytes) (l.at + n)) size g.0)
    | inr g ↦ elim g [
      | inl r ↦ absurd (no_last_return s size l.at n l.bytes x z (skip_le s l.bytes n i) r.0 (elim (shown_cases s.flow (drop n l.bytes) (l.at + n) size r.1) [ inl q ↦ inl q | inr q ↦ inr q.0 ]))
      | inr c ↦ back_map 0 (further s (below s (l.bytes ++ f.bytes)) l.at (l.bytes ++ f.bytes) t e k (more s fs)) (λ v. (v.0, (v.1, tt))) (last_dotted s size l.at n l.bytes f.bytes fs t e k x i c)
    ]
  ]
more_dotted s size (l ∷ m ∷ ls) f fs t e k (x, y, z) h = by_below (below s l.bytes) refl h (λ u v w g. more_dotted s size (m ∷ ls) f fs u v w z g) where
  new : List Line
  new = glue (m ∷ ls) (f ∷ fs)

  Next : Type 0
  Next = (u : List ℕ) (v w : ℕ) → more s (m ∷ ls) u v w ≡ Fails size → BackAt 0 (IsFree u × AreFree false (m ∷ ls)) (more s new u v w)

  by_why : (n : ℕ) → below s l.bytes ≡ Further n → (w : Why) → reason s.flow (drop n l.bytes) ≡ w → Goes s.flow w (drop n l.bytes) (l.at + n) t e k size (more s (m ∷ ls)) → Next → BackAt 0 (IsFree t × AreFree false (l ∷ m ∷ ls)) (joins s.flow w (drop n l.bytes) (l.at + n) t e k (more s new))
  by_why n i Break w g next =
      back_map 0 (more s new (joined s.flow (drop n l.bytes) t k) (content_end s.flow (drop n l.bytes) (l.at + n)) 0)
      (λ v. let r = text_free s.flow (drop n l.bytes) t k v.0 in (r.0, (free_undotted l.bytes (behind_free s l.bytes n i (whole_free s.flow (drop n l.bytes) w r.1)), v.1)))
      (next (joined s.flow (drop n l.bytes) t k) (content_end s.flow (drop n l.bytes) (l.at + n)) 0 g.0)
  by_why n i Return w g next = tt
  by_why n i Colon w g next = absurd (no_colon s.flow (g.1 (λ t e k. Documents 0))) where
    no_colon : (q : Bool) → cond q (ends_on s.flow (drop n l.bytes) (l.at + n) t e k) (Fails (stop_behind s.flow (drop n l.bytes) (l.at + n))) ≡ Documents 0 → ⊥
    no_colon true h = no_end (nat_eq (plain_len s.flow false (drop n l.bytes)) 0) h where
      no_end : (q : Bool) → cond q (Stands t e) (Stands (joined s.flow (drop n l.bytes) t k) (content_end s.flow (drop n l.bytes) (l.at + n))) ≡ Documents 0 → ⊥
      no_end true h = cc
      no_end false h = cc
    no_colon false h = cc
  by_why n i Comment w g next = absurd (let z = g.1 (λ t e k. Documents 0) in cc)
  by_why n i Mark w g next = absurd (no_end (nat_eq (plain_len s.flow false (drop n l.bytes)) 0) (g.1 (λ t e k. Documents 0))) where
    no_end : (q : Bool) → cond q (Stands t e) (Stands (joined s.flow (drop n l.bytes) t k) (content_end s.flow (drop n l.bytes) (l.at + n))) ≡ Documents 0 → ⊥
    no_end true h = cc
    no_end false h = cc

  by_below : (w : Below) → below s l.bytes ≡ w → further s w l.at l.bytes t e k (more s (m ∷ ls)) ≡ Fails size → Next → BackAt 0 (IsFree t × AreFree false (l ∷ m ∷ ls)) (further s (below s l.bytes) l.at l.bytes t e k (more s new))
  by_below Blank i h next =
      subst (λ w. BackAt 0 (IsFree t × AreFree false (l ∷ m ∷ ls)) (further s w l.at l.bytes t e k (more s new))) (sym i) (back_map 0 (more s new t e (suc k)) (λ v. (v.0, (blank_undotted false l.bytes (blank_line s l.bytes i), v.1))) (next t e (suc k) h))
  by_below Outside i h next = absurd (cc)
  by_below (Further n) i h next = subst (λ w. BackAt 0 (IsFree t × AreFree false (l ∷ m ∷ ls)) (further s w l.at l.bytes t e k (more s new))) (sym i) (elim (joins_cases s.flow (reason s.flow (drop n l.bytes)) (drop n l.bytes) (l.at + n) t e k size (more s (m ∷ ls)) h) [
    | inl g ↦ by_why n i (reason s.flow (drop n l.bytes)) refl g next
    | inr g ↦ absurd (before_end s size l.at n l.bytes i x g)
  ])

-- ---- the first line

dash_goes : (flow white : Bool) (b : ℕ) (xs : List ℕ) → dash b ≡ true → stops flow white b xs ≡ false
dash_goes flow white b xs h =
    by_tests (nat_eq b 58) (nat_eq b 35) (is_flow_mark b) (nat_eq b 13) flow (grind (arith, nat_tests, h)) (grind (arith, nat_tests, h)) (grind (arith, nat_tests, h)) (grind (arith, nat_tests, h)) where
      by_tests : (p q r s o : Bool) → p ≡ false → q ≡ false → r ≡ false → s ≡ false → ((p && is_unsafe flow xs) || (q && white) || (o && r) || s) ≡ false
      by_tests true q r s o a b c d = absurd (true≢false a)
      by_tests false true r s o a b c d = absurd (true≢false b)
      by_tests false false true s o a b c d = absurd (true≢false c)
      by_tests false false false true o a b c d = absurd (true≢false d)
      by_tests false false false false true a b c d = refl
      by_tests false false false false false a b c d = refl

dashes_long : (flow : Bool) (a b c : ℕ) (y : List ℕ) → dash a ≡ true → dash b ≡ true → dash c ≡ true → 3 ≤ plain_len flow false (a ∷ b ∷ c ∷ y)
dashes_long flow a b c y d e f =
    let l1 = ap (λ q. cond q 0 (suc (plain_len flow (is_white a) (b ∷ c ∷ y)))) (dash_goes flow false a (b ∷ c ∷ y) d) in
    let l2 = ap (λ q. cond q 0 (suc (plain_len flow (is_white b) (c ∷ y)))) (dash_goes flow (is_white a) b (c ∷ y) e) in
    let l3 = ap (λ q. cond q 0 (suc (plain_len flow (is_white c) y))) (dash_goes flow (is_white b) c y f) in
    omega (arith, l1, l2, l3)

doubtful_dotless : (b : ℕ) → is_doubtful b ≡ true → is_dotless b ≡ true
doubtful_dotless b h = grind (arith, nat_tests, h)

-- what stands has the first line's content
first_back : (s : Setting) (fresh : Bool) (l : Line) (ls : List Line) → BackAt 0 (IsFree (content s.flow l.bytes)) (plain_on s fresh (l ∷ ls))
first_back s fresh l ls = by_tests (fresh && marked l.bytes) (begins_plain s.flow l.bytes) where
  by_one : (q : Bool) → BackAt 0 (IsFree (content s.flow l.bytes)) (cond q (Stands (content s.flow l.bytes) (content_end s.flow l.bytes l.at)) (more s ls (content s.flow l.bytes) (content_end s.flow l.bytes l.at) 0))
  by_one true = λ z f. f
  by_one false = stays s ls (content s.flow l.bytes) (content_end s.flow l.bytes l.at) 0

  by_why : (w : Why) → BackAt 0 (IsFree (content s.flow l.bytes)) (first s w l.at l.bytes ls)
  by_why Break = by_one s.one_line
  by_why Return = tt
  by_why Colon = λ z f. f
  by_why Comment = λ z f. f
  by_why Mark = λ z f. f

  by_tests : (m b : Bool) → BackAt 0 (IsFree (content s.flow l.bytes)) (cond m (Fails (l.at + 3)) (cond b (first s (reason s.flow l.bytes) l.at l.bytes ls) (Fails (wrong_begin l.at l.bytes))))
  by_tests true b = tt
  by_tests false true = by_why (reason s.flow l.bytes)
  by_tests false false = tt

-- a first line that is the last one
alone_free : (s : Setting) (fresh : Bool) (size at : ℕ) (xs y : List ℕ) (m b : Bool) → (fresh && marked xs) ≡ m → at < size → at + length xs ≡ size → (ends_with 13 xs ≡ true → false ≡ true) → opens s at xs [] m b ≡ Fails size → IsFree (content s.flow (xs ++ y)) → IsFree xs
alone_free s fresh size at xs y true b e low end r h f =
    let p = fails_same _ size h in
    let m = mark_of xs (second fresh (marked xs) e) in
    let sizes = ap (λ (t : List ℕ). length t) m.4 in
    let none : m.3 ≡ [] = empty m.3 (omega (arith, sizes, p, end)) in
    let whole : xs ≡ m.0 ∷ m.1 ∷ m.2 ∷ [] = m.4 ∙ ap (λ t. m.0 ∷ m.1 ∷ m.2 ∷ t) none in
    let long = dashes_long s.flow m.0 m.1 m.2 y m.5 (same_dash m.0 m.1 m.5 m.6) (same_dash m.0 m.2 m.5 m.7) in
    front_free s.flow xs y (subst (λ t. length t ≤ plain_len s.flow false (t ++ y)) (sym whole) long) f where
      second : (q r : Bool) → (q && r) ≡ true → r ≡ true
      second true r h = h
      second false r h = absurd (true≢false (sym h))

      empty : (z : List ℕ) → length z ≡ 0 → z ≡ []
      empty [] h = refl
      empty (y ∷ z) h = absurd (omega (arith, h))

      same_dash : (a b : ℕ) → dash a ≡ true → nat_eq a b ≡ true → dash b ≡ true
      same_dash a b h e = let s : b ≡ a = grind (arith, nat_tests, e) in ap dash s ∙ h
alone_free s fresh size at [] y false false e low end r h f = refl
alone_free s fresh size at (c ∷ []) y false false e low end r h f = by_doubt (is_doubtful c) refl (fails_same _ size h) where
  by_doubt : (d : Bool) → is_doubtful c ≡ d → cond d (suc at) at ≡ size → IsFree (c ∷ [])
  by_doubt true d p = one_free c (doubtful_dotless c d)
  by_doubt false d p = absurd (omega (arith, p, low))
alone_free s fresh size at (c ∷ g ∷ xs) y false false e low end r h f = absurd (let p = fails_same _ size h in let w = wrong_first (is_doubtful c) in omega (arith, p, end, w)) where
  wrong_first : (d : Bool) → cond d (suc at) at ≤ suc at
  wrong_first true = omega arith
  wrong_first false = omega arith
alone_free s fresh size at xs y false true e low end r h f = absurd (elim (first_cases s (reason s.flow xs) at xs [] size h) [
  | inl w ↦ (let p = w.1 in no_last_return s size at 0 xs end r (omega arith) w.0 (inr (omega (arith, p))))
  | inr w ↦ not_stands _ _ size w.0
])

pub on_dotted : (s : Setting) (fresh : Bool) (size : ℕ) (l : Line) (ls : List Line) (f : Line) (fs : List Line) → l.at < size → Ends size false (l ∷ ls) → plain_on s fresh (l ∷ ls) ≡ Fails size → BackAt 0 (AreFree false (l ∷ ls)) (plain_on s fresh (glue (l ∷ ls) (f ∷ fs)))
on_dotted s fresh size l [] f fs low (x, y, z) h =
    back_map 0 (plain_on s fresh (joint l f ∷ fs)) (λ c. (free_undotted l.bytes (alone_free s fresh size l.at l.bytes f.bytes (fresh && marked l.bytes) (begins_plain s.flow l.bytes) refl low x z h c), tt)) (first_back s fresh (joint l f) fs)
on_dotted s fresh size l (m ∷ ls) f fs low (x, y, z) h = by_tests (fresh && marked l.bytes) (begins_plain s.flow l.bytes) (reason s.flow l.bytes) refl h where
  new : List Line
  new = glue (m ∷ ls) (f ∷ fs)

  by_one : (q : Bool) → reason s.flow l.bytes ≡ Break → cond q (Stands (content s.flow l.bytes) (content_end s.flow l.bytes l.at)) (more s (m ∷ ls) (content s.flow l.bytes) (content_end s.flow l.bytes l.at) 0) ≡ Fails size
      → BackAt 0 (AreFree false (l ∷ m ∷ ls)) (cond q (Stands (content s.flow l.bytes) (content_end s.flow l.bytes l.at)) (more s new (content s.flow l.bytes) (content_end s.flow l.bytes l.at) 0))
  by_one true w h = absurd (cc)
  by_one false w h =
      back_map 0 (more s new (content s.flow l.bytes) (content_end s.flow l.bytes l.at) 0) (λ v. (free_undotted l.bytes (whole_free s.flow l.bytes w v.0), v.1)) (more_dotted s size (m ∷ ls) f fs (content s.flow l.bytes) (content_end s.flow l.bytes l.at) 0 z h)

  by_tests : (q b : Bool) (w : Why) → reason s.flow l.bytes ≡ w → cond q (Fails (l.at + 3)) (cond b (first s w l.at l.bytes (m ∷ ls)) (Fails (wrong_begin l.at l.bytes))) ≡ Fails size
      → BackAt 0 (AreFree false (l ∷ m ∷ ls)) (cond q (Fails (l.at + 3)) (cond b (first s w l.at l.bytes new) (Fails (wrong_begin l.at l.bytes))))
  by_tests true b w e h = tt
  by_tests false false w e h = tt
  by_tests false true Break e h = by_one s.one_line e h
  by_tests false true Return e h = tt
  by_tests false true Colon e h = absurd (cc)
  by_tests false true Comment e h = absurd (cc)
  by_tests false true Mark e h = absurd (cc)
