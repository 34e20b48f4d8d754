-- The same from the quotation mark on, and where the text ends in a carriage return.
use Rattle.std.proofs.Common.{◌≡◌, ℕ, suc, ◌+◌, ◌<◌, Bool, true, false, List, [], ◌∷◌, ◌++◌, length, drop, refl, sym, ap, inl, inr, ◌∙◌, arith, cond, subst, append-nil, length-append, length-drop}
use Rattle.std.specs.Prelude.{nat_eq, nat_lt, ◌||◌, ◌&&◌}
use Rattle.std.proofs.lemmas.Bool.Decides.{nat_tests}
use Rattle.yaml_scalars.specs.Lines.{Line, Outcome, Fails, is_white, is_blank, is_mark, is_cut_mark, lead, past_white}
use Rattle.yaml_scalars.specs.Quoted.{Part, Closed, Open, Joined, Returned, Refused, line_part, gap, behind_part, key_part, quoted_more, quoted_on}
use Rattle.yaml_laws.proofs.Agree.{drop_before}
use Rattle.yaml_scalars.proofs.Places.{lead_le}
use Rattle.yaml_laws.proofs.Longer.{glue, joint, rest_of, ended, cut, Ends, ends_more, IsScalar, StandsTo}
use Rattle.yaml_laws.proofs.BlockHeads.{cases}
use Rattle.yaml_laws.proofs.BlockShown.{lead_ended}
use Rattle.yaml_laws.proofs.BlockLonger.{nonblank_return}
use Rattle.yaml_laws.proofs.PlainLaw.{mark_length}
use Rattle.yaml_laws.proofs.PlainLonger.{mark_longer}
use Rattle.yaml_laws.proofs.QuotedBounds.{IsBetween, part_between, cut_length}
use Rattle.yaml_laws.proofs.QuotedLaw.{part_of, starts, quote_of, comes}
use Rattle.yaml_laws.proofs.QuotedLonger.{IsQuote, IsClosed, IsGoing, Cut, Stops, LongerBy, below_by, part_longer, part_returned, part_cut, going_stands, part_cases, close_line, more_longer}

-- a mark cut by a carriage return is one with more bytes, too
cut_more : (f y : List ℕ) → is_cut_mark f ≡ true → is_cut_mark (f ++ y) ≡ true
cut_more [] y h = absurd (cc)
cut_more (a ∷ []) y h = absurd (cc)
cut_more (a ∷ b ∷ []) y h = absurd (cc)
cut_more (a ∷ b ∷ c ∷ []) y h = absurd (let w = cut_length (a ∷ b ∷ c ∷ []) h in omega (arith, w))
cut_more (a ∷ b ∷ c ∷ d ∷ f) y h = h

-- no mark stands before the carriage return
no_mark : (at place : ℕ) (f : List ℕ) → is_cut_mark (f ++ (13 ∷ [])) ≡ false → (is_mark (f ++ (13 ∷ [])) && (false || nat_lt 3 (length (f ++ (13 ∷ []))))) ≡ false → is_mark f ≡ false
no_mark at place f c s = cases (is_mark f) (λ m. absurd (found m)) (λ m. m) where
  either : (p q : Bool) → q ≡ false → (p || q) ≡ true → p ≡ true
  either true q e h = refl
  either false q e h = absurd (let z : true ≡ false = sym h ∙ e in cc)

  lt_true : (n : ℕ) → 3 < n → nat_lt 3 n ≡ true
  lt_true n l = grind (arith, nat_tests)

  found : is_mark f ≡ true → ⊥
  found m =
      let more = ap (λ q. q || is_cut_mark f) m in
      let both = mark_longer f more in
      let is : is_mark (f ++ (13 ∷ [])) ≡ true = either (is_mark (f ++ (13 ∷ []))) (is_cut_mark (f ++ (13 ∷ []))) c both in
      let w = mark_length f more in
      let long = lt_true (length (f ++ (13 ∷ []))) (omega (arith, w, length-append f (13 ∷ []))) in
      let z : true ≡ false = sym (ap (λ q. q && (false || nat_lt 3 (length (f ++ (13 ∷ []))))) is ∙ long) ∙ s in cc

returned_line : (quote other place at : ℕ) → IsQuote quote → (f text : List ℕ) (j : Bool) (k : ℕ) → is_mark f ≡ false → is_cut_mark f ≡ false → IsGoing (part_of quote at f (text ++ gap j k)) → StandsTo (suc (suc (suc place) + 0)) (quoted_more quote other (record { at = at; bytes = f; broken = true } ∷ rest_of (suc (suc place)) (quote ∷ []) ∷ []) text j k)
returned_line quote other place at q f text j k m c going =
    let l : Line = record { at = at; bytes = f; broken = true } in
    let ms = rest_of (suc (suc place)) (quote ∷ []) ∷ [] in
    let r = part_of quote at f (text ++ gap j k) in
    let tested : (b : Bool) → is_blank f ≡ b → quoted_more quote other (l ∷ ms) text j k ≡ below_by quote other l ms text j k false false b r = λ b e.
    ap (λ p. below_by quote other l ms text j k (p && (true || nat_lt 3 (length f))) (is_cut_mark f) (is_blank f) r) m ∙ ap (λ p. below_by quote other l ms text j k false p (is_blank f) r) c ∙ ap (λ p. below_by quote other l ms text j k false false p r) e in
    cases (is_blank f)
    (λ b. let s = close_line quote other (suc (suc place)) text j (suc k) q in (s.0, tested true b ∙ s.1))
    (λ b. let s = going_stands (StandsTo (suc (suc (suc place) + 0))) r (λ i t. quoted_more quote other ms t i 0) going (λ i t. close_line quote other (suc (suc place)) t i 0 q) in (s.0, tested false b ∙ s.1))

returned_more : (quote : ℕ) → IsQuote quote → (size other place : ℕ) (r : Bool) (ks : List Line) (text : List ℕ) (j : Bool) (k : ℕ) → Ends place r ks → quoted_more quote size (cut ks place) text j k ≡ Fails (suc place) → StandsTo (suc (suc (suc place) + 0)) (quoted_more quote other (glue ks (ended place (quote ∷ []))) text j k)
returned_more quote q size other place r [] text j k x h = absurd x
returned_more quote q size other place r (l ∷ []) text j k (x, y, z) h =
    subst (λ (b : List ℕ). StandsTo (suc (suc (suc place) + 0)) (quoted_more quote other (record { at = l.at; bytes = b; broken = true } ∷ rest_of (suc (suc place)) (quote ∷ []) ∷ []) text j k)) (sym (append-nil l.bytes))
    (by_tests (starts old) (is_cut_mark xs) (is_blank xs) refl refl refl h) where
      f : List ℕ
      f = l.bytes

      xs : List ℕ
      xs = l.bytes ++ (13 ∷ [])

      old : Line
      old = joint l (rest_of place (13 ∷ []))

      T : List ℕ
      T = text ++ gap j k

      n : ℕ
      n = lead is_white f

      g : List ℕ
      g = drop n f

      size_of : l.at + n + length g ≡ place
      size_of = let w = lead_le is_white f in omega (arith, x, w, length-drop n f)

      part : part_of quote l.at xs T ≡ line_part quote (l.at + n) 0 T (length T) (g ++ (13 ∷ []))
      part = ap (λ m. line_part quote (l.at + m) 0 T (length T) (drop m xs)) (lead_ended is_white f [] refl) ∙ ap (line_part quote (l.at + n) 0 T (length T)) (drop_before n f (13 ∷ []) (lead_le is_white f))

      New : Type 0
      New = StandsTo (suc (suc (suc place) + 0)) (quoted_more quote other (record { at = l.at; bytes = f; broken = true } ∷ rest_of (suc (suc place)) (quote ∷ []) ∷ []) text j k)

      by_part : (p : Part) → line_part quote (l.at + n) 0 T (length T) (g ++ (13 ∷ [])) ≡ p → Cut place p (part_of quote l.at f T) → behind_part p (λ i t. quoted_more quote size [] t i 0) ≡ Fails (suc place) → IsGoing (part_of quote l.at f T)
      by_part (Closed t e) i c h = absurd (cc)
      by_part (Open t) i c h = absurd c
      by_part (Joined t) i c h = absurd c
      by_part (Returned a) i c h = let p : suc a ≡ suc place = cc in c (omega (arith, p))
      by_part (Refused a) i c h = absurd (let p : a ≡ suc place = cc in omega (arith, p, c))

      by_tests : (s c b : Bool) → starts old ≡ s → is_cut_mark xs ≡ c → is_blank xs ≡ b → below_by quote size old [] text j k s c b (part_of quote l.at xs T) ≡ Fails (suc place) → New
      by_tests true c b i e d h = absurd (cc)
      by_tests false true b i e d h = absurd (let p : l.at + 3 ≡ suc place = cc in let w = cut_length xs e in omega (arith, p, w, x, length-append f (13 ∷ [])))
      by_tests false false true i e d h = absurd (let v : false ≡ true = sym (nonblank_return f) ∙ d in cc)
      by_tests false false false i e d h =
          let cutp = subst (λ m. Cut m (line_part quote (l.at + n) 0 T (length T) (g ++ (13 ∷ []))) (part_of quote l.at f T)) size_of (part_cut quote g (l.at + n) 0 T (length T) (omega arith)) in
          let going = by_part (line_part quote (l.at + n) 0 T (length T) (g ++ (13 ∷ []))) refl cutp (ap (λ p. behind_part p (λ i t. quoted_more quote size [] t i 0)) (sym part) ∙ h) in
          returned_line quote other place l.at q f text j k (no_mark l.at place f e i) (cases (is_cut_mark f) (λ c. absurd (let v : true ≡ false = sym (cut_more f (13 ∷ []) c) ∙ e in cc)) (λ c. c)) going
returned_more quote q size other place r (l ∷ m ∷ ks) text j k (x, y, z) h = by_tests (starts l) (is_cut_mark l.bytes) (is_blank l.bytes) refl refl refl h (λ u i n g. returned_more quote q size other place r (m ∷ ks) u i n z g) where
  T : List ℕ
  T = text ++ gap j k

  new : List Line
  new = glue (m ∷ ks) (ended place (quote ∷ []))

  Next : Type 0
  Next = (u : List ℕ) (i : Bool) (n : ℕ) → quoted_more quote size (cut (m ∷ ks) place) u i n ≡ Fails (suc place) → StandsTo (suc (suc (suc place) + 0)) (quoted_more quote other new u i n)

  between : IsBetween (l.at + lead is_white l.bytes + 0) (l.at + lead is_white l.bytes + length (past_white l.bytes)) (part_of quote l.at l.bytes T)
  between = part_between quote (l.at + lead is_white l.bytes) 0 T (length T) (past_white l.bytes)

  fits : l.at + lead is_white l.bytes + length (past_white l.bytes) < place
  fits = let w = lead_le is_white l.bytes in omega (arith, x, w, length-drop (lead is_white l.bytes) l.bytes)

  tested : (s c b : Bool) → starts l ≡ s → is_cut_mark l.bytes ≡ c → is_blank l.bytes ≡ b → quoted_more quote other (l ∷ new) text j k ≡ below_by quote other l new text j k s c b (part_of quote l.at l.bytes T)
  tested s c b i e f = ap (λ q. below_by quote other l new text j k q (is_cut_mark l.bytes) (is_blank l.bytes) (part_of quote l.at l.bytes T)) i ∙ ap (λ q. below_by quote other l new text j k s q (is_blank l.bytes) (part_of quote l.at l.bytes T)) e ∙ ap (λ q. below_by quote other l new text j k s c q (part_of quote l.at l.bytes T)) f

  by_tests : (s c b : Bool) → starts l ≡ s → is_cut_mark l.bytes ≡ c → is_blank l.bytes ≡ b → below_by quote size l (cut (m ∷ ks) place) text j k s c b (part_of quote l.at l.bytes T) ≡ Fails (suc place) → Next → StandsTo (suc (suc (suc place) + 0)) (quoted_more quote other (l ∷ new) text j k)
  by_tests true c b i e f h next = absurd (cc)
  by_tests false true b i e f h next = absurd (let p : l.at + 3 ≡ suc place = cc in let w = cut_length l.bytes e in omega (arith, p, w, x))
  by_tests false false true i e f h next = let s = next text j (suc k) h in (s.0, tested false false true i e f ∙ s.1)
  by_tests false false false i e f h next =
      part_cases (part_of quote l.at l.bytes T) (λ i t. quoted_more quote size (cut (m ∷ ks) place) t i 0) (suc place) h
      (λ a t g back. let s = next t a 0 g in (s.0, tested false false false i e f ∙ back (λ i t. quoted_more quote other new t i 0) ∙ s.1))
      (λ a r p. absurd (let w = subst (λ r. IsBetween (l.at + lead is_white l.bytes + 0) (l.at + lead is_white l.bytes + length (past_white l.bytes)) r) r between in let v = w.1 in let u = fits in omega (arith, v, u, p)))
      (λ r. absurd (let w = subst (λ r. IsBetween (l.at + lead is_white l.bytes + 0) (l.at + lead is_white l.bytes + length (past_white l.bytes)) r) r between in let v = w.1 in let u = fits in omega (arith, v, u)))

-- from the quotation mark on
abbrev pub first_of : ℕ → ℕ → List ℕ → Bool → Line
first_of at c f b = record { at = at; bytes = c ∷ f; broken = b }

pub is_quote : (c : ℕ) (f : List ℕ) → IsQuote (quote_of (c ∷ f))
is_quote c f = by_byte (nat_eq c 34) where
  by_byte : (q : Bool) → IsQuote (cond q 34 39)
  by_byte true = inl refl
  by_byte false = inr refl

-- a key ends on its line, before a place
key_early : (r : Part) (low high over p : ℕ) → key_part r over ≡ Fails p → IsBetween low high r → high < p → over < p → ⊥
key_early (Closed t e) low high over p h b l m = cc
key_early (Open t) low high over p h b l m = let e : over ≡ p = cc in omega (arith, e, m)
key_early (Joined t) low high over p h b l m = let e : over ≡ p = cc in omega (arith, e, m)
key_early (Returned a) low high over p h b l m = let e : a ≡ p = cc in let w = b.1 in omega (arith, e, w, l)
key_early (Refused a) low high over p h b l m = let e : a ≡ p = cc in let w = b.1 in omega (arith, e, w, l)

key_stops : (r : Part) (low high over : ℕ) → key_part r over ≡ Fails high → IsBetween low high r → Stops high r
key_stops (Closed t e) low high over h b = absurd (cc)
key_stops (Open t) low high over h b = tt
key_stops (Joined t) low high over h b = tt
key_stops (Returned a) low high over h b = absurd (let e : a ≡ high = cc in let w = b.1 in omega (arith, e, w))
key_stops (Refused a) low high over h b = let e : a ≡ high = cc in e

part_stops : (r : Part) (next : Bool → List ℕ → Outcome) (p : ℕ) → behind_part r next ≡ Fails p → ((a : ℕ) → r ≡ Returned a → suc a ≡ p → ⊥) → Stops p r
part_stops (Closed t e) next p h f = absurd (cc)
part_stops (Open t) next p h f = tt
part_stops (Joined t) next p h f = tt
part_stops (Returned a) next p h f = absurd (f a refl (let e : suc a ≡ p = cc in e))
part_stops (Refused a) next p h f = let e : a ≡ p = cc in e

comes_closed : (one : Bool) (r : Part) (over : ℕ) (next : Bool → List ℕ → Outcome) → IsClosed r → IsScalar (comes one r over next)
comes_closed true r over next (t, e, h) = (t, e, ap (λ r. key_part r over) h)
comes_closed false r over next (t, e, h) = (t, e, ap (λ r. behind_part r next) h)

pub on_longer : (one : Bool) (size at c : ℕ) (f : List ℕ) (b : Bool) (ls : List Line) → Ends size false (first_of at c f b ∷ ls) → quoted_on one size (first_of at c f b ∷ ls) ≡ Fails size → LongerBy (quote_of (c ∷ f)) size (first_of at c f b ∷ ls) (quoted_on one)
on_longer one size at c f b [] (x, y, z) h =
    let quote = quote_of (c ∷ f) in
    let q = is_quote c f in
    let part = line_part quote (suc at) 0 [] 0 f in
    let next : Bool → List ℕ → Outcome = λ j t. quoted_more quote size [] t j 0 in
    let high : suc at + length f ≡ size = omega (arith, x) in
    let r = part_longer quote q f (suc at) 0 [] 0 (omega arith) (subst (λ m. Stops m part) (sym high) (by_key one h)) in
    (r.0, r.1, λ other. comes_closed one (line_part quote (suc at) 0 [] 0 (f ++ (r.0 ++ (quote ∷ [])))) (at + suc (length (f ++ (r.0 ++ (quote ∷ []))))) (λ j t. quoted_more quote other [] t j 0) r.2) where
      by_key : (one : Bool) → comes one (line_part (quote_of (c ∷ f)) (suc at) 0 [] 0 f) (at + suc (length f)) (λ j t. quoted_more (quote_of (c ∷ f)) size [] t j 0) ≡ Fails size → Stops size (line_part (quote_of (c ∷ f)) (suc at) 0 [] 0 f)
      by_key true h =
          let high : suc at + length f ≡ size = omega (arith, x) in
          key_stops (line_part (quote_of (c ∷ f)) (suc at) 0 [] 0 f) (suc at + 0) size (at + suc (length f)) h (subst (λ m. IsBetween (suc at + 0) m (line_part (quote_of (c ∷ f)) (suc at) 0 [] 0 f)) high (part_between (quote_of (c ∷ f)) (suc at) 0 [] 0 f))
      by_key false h = part_stops (line_part (quote_of (c ∷ f)) (suc at) 0 [] 0 f) (λ j t. quoted_more (quote_of (c ∷ f)) size [] t j 0) size h (λ a e p. let v : false ≡ true = z (ends_more c f (part_returned (quote_of (c ∷ f)) f (suc at) 0 [] 0 a (omega arith) e (omega (arith, p, x)))) in cc)
on_longer one size at c f b (m ∷ ls) (x, y, z) h = by_key one h where
  quote : ℕ
  quote = quote_of (c ∷ f)

  part : Part
  part = line_part quote (suc at) 0 [] 0 f

  between : IsBetween (suc at + 0) (suc at + length f) part
  between = part_between quote (suc at) 0 [] 0 f

  by_key : (one : Bool) → comes one part (at + suc (length f)) (λ j t. quoted_more quote size (m ∷ ls) t j 0) ≡ Fails size → LongerBy quote size (first_of at c f b ∷ m ∷ ls) (quoted_on one)
  by_key true h = absurd (key_early part (suc at + 0) (suc at + length f) (at + suc (length f)) size h between (omega (arith, x)) (omega (arith, x)))
  by_key false h =
      part_cases part (λ j t. quoted_more quote size (m ∷ ls) t j 0) size h
      (λ a t g back. let r = more_longer quote (is_quote c f) size (m ∷ ls) t a 0 z g in (r.0, r.1, λ other. let s = r.2 other in (s.0, s.1, back (λ j t. quoted_more quote other (glue (m ∷ ls) (rest_of size (r.0 ++ (quote ∷ [])) ∷ [])) t j 0) ∙ s.2)))
      (λ a r p. absurd (let w = subst (λ r. IsBetween (suc at + 0) (suc at + length f) r) r between in let v = w.1 in omega (arith, v, x, p)))
      (λ r. absurd (let w = subst (λ r. IsBetween (suc at + 0) (suc at + length f) r) r between in let v = w.1 in omega (arith, v, x)))

pub on_returned : (one : Bool) (size other place at c : ℕ) (r : Bool) (f : List ℕ) (b : Bool) (ks : List Line) → Ends place r (first_of at c f b ∷ ks) → quoted_on one size (cut (first_of at c f b ∷ ks) place) ≡ Fails (suc place) → StandsTo (suc (suc (suc place) + 0)) (quoted_on one other (glue (first_of at c f b ∷ ks) (ended place (quote_of (c ∷ f) ∷ []))))
on_returned one size other place at c r f b [] (x, y, z) h =
    subst (λ (t : List ℕ). StandsTo (suc (suc (suc place) + 0)) (quoted_on one other (first_of at c t true ∷ rest_of (suc (suc place)) (quote_of (c ∷ f) ∷ []) ∷ []))) (sym (append-nil f)) (by_key one h) where
      quote : ℕ
      quote = quote_of (c ∷ f)

      old : Part
      old = line_part quote (suc at) 0 [] 0 (f ++ (13 ∷ []))

      part : Part
      part = line_part quote (suc at) 0 [] 0 f

      ms : List Line
      ms = rest_of (suc (suc place)) (quote ∷ []) ∷ []

      cutp : Cut place old part
      cutp = let high : suc at + length f ≡ place = omega (arith, x) in subst (λ m. Cut m old part) high (part_cut quote f (suc at) 0 [] 0 (omega arith))

      between : IsBetween (suc at + 0) (suc at + length (f ++ (13 ∷ []))) old
      between = part_between quote (suc at) 0 [] 0 (f ++ (13 ∷ []))

      long : length (f ++ (13 ∷ [])) ≡ length f + 1
      long = length-append f (13 ∷ [])

      not_key : (p : Part) → IsBetween (suc at + 0) (suc at + length (f ++ (13 ∷ []))) p → Cut place p part → key_part p (at + suc (length (f ++ (13 ∷ [])))) ≡ Fails (suc place) → ⊥
      not_key (Closed t e) i k h = cc
      not_key (Open t) i k h = k
      not_key (Joined t) i k h = k
      not_key (Returned a) i k h = let e : a ≡ suc place = cc in let w = i.1 in let v = long in omega (arith, e, w, v, x)
      not_key (Refused a) i k h = let e : a ≡ suc place = cc in omega (arith, e, k)

      goes : (p : Part) → Cut place p part → behind_part p (λ j t. quoted_more quote size [] t j 0) ≡ Fails (suc place) → IsGoing part
      goes (Closed t e) k h = absurd (cc)
      goes (Open t) k h = absurd k
      goes (Joined t) k h = absurd k
      goes (Returned a) k h = let e : suc a ≡ suc place = cc in k (omega (arith, e))
      goes (Refused a) k h = absurd (let e : a ≡ suc place = cc in omega (arith, e, k))

      by_key : (one : Bool) → comes one old (at + suc (length (f ++ (13 ∷ [])))) (λ j t. quoted_more quote size [] t j 0) ≡ Fails (suc place) → StandsTo (suc (suc (suc place) + 0)) (comes one part (at + suc (length f)) (λ j t. quoted_more quote other ms t j 0))
      by_key true h = absurd (not_key old between cutp h)
      by_key false h = going_stands (StandsTo (suc (suc (suc place) + 0))) part (λ j t. quoted_more quote other ms t j 0) (goes old cutp h) (λ j t. close_line quote other (suc (suc place)) t j 0 (is_quote c f))
on_returned one size other place at c r f b (m ∷ ks) (x, y, z) h = by_key one h where
  quote : ℕ
  quote = quote_of (c ∷ f)

  part : Part
  part = line_part quote (suc at) 0 [] 0 f

  new : List Line
  new = glue (m ∷ ks) (ended place (quote ∷ []))

  between : IsBetween (suc at + 0) (suc at + length f) part
  between = part_between quote (suc at) 0 [] 0 f

  by_key : (one : Bool) → comes one part (at + suc (length f)) (λ j t. quoted_more quote size (cut (m ∷ ks) place) t j 0) ≡ Fails (suc place) → StandsTo (suc (suc (suc place) + 0)) (comes one part (at + suc (length f)) (λ j t. quoted_more quote other new t j 0))
  by_key true h = absurd (key_early part (suc at + 0) (suc at + length f) (at + suc (length f)) (suc place) h between (omega (arith, x)) (omega (arith, x)))
  by_key false h =
      part_cases part (λ j t. quoted_more quote size (cut (m ∷ ks) place) t j 0) (suc place) h
      (λ a t g back. let s = returned_more quote (is_quote c f) size other place r (m ∷ ks) t a 0 z g in (s.0, back (λ j t. quoted_more quote other new t j 0) ∙ s.1))
      (λ a r p. absurd (let w = subst (λ r. IsBetween (suc at + 0) (suc at + length f) r) r between in let v = w.1 in omega (arith, v, x, p)))
      (λ r. absurd (let w = subst (λ r. IsBetween (suc at + 0) (suc at + length f) r) r between in let v = w.1 in omega (arith, v, x)))
