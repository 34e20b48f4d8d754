-- Where a scalar of any kind fails at the text's end, a longer text has one.
use Rattle.std.proofs.Common.{◌≡◌, ℕ, suc, ◌+◌, ◌<◌, ◌≤◌, Bool, true, false, List, [], ◌∷◌, ◌++◌, length, drop, refl, sym, ap, inl, inr, ◌∙◌, arith, cond, subst, append_assoc, length-append}
use Rattle.std.specs.Prelude.{nat_eq, ◌||◌, ◌&&◌}
use Rattle.std.proofs.lemmas.Bool.Decides.{nat_tests}
use Rattle.yaml_scalars.specs.declared.scalar.Setting.{Setting}
use Rattle.yaml_scalars.specs.Lines.{Fails, begins_with, ends_with, each, lines}
use Rattle.yaml_scalars.specs.code.Walk.{line_at, has_break, behind}
use Rattle.yaml_scalars.specs.Plain.{plain_on}
use Rattle.yaml_scalars.specs.Quoted.{quoted_on}
use Rattle.yaml_scalars.specs.Block.{block_on}
use Rattle.yaml_scalars.specs.Scalar.{is_first_column, begins_quoted, begins_block, plain_scalar, quoted_scalar, block_scalar, scalar_at}
use Rattle.yaml_laws.specs.code.Refusals.{is_ascii, IsShort}
use Rattle.yaml_scalars.proofs.Places.{lines_are}
use Rattle.yaml_laws.proofs.Agree.{drop_before, drop_size}
use Rattle.yaml_laws.proofs.Longer.{glue, rest_of, ended, cut, no_feed, IsRest, Ends, lines_more, lines_ended, lines_end, IsScalar, StandsTo}
use Rattle.yaml_laws.proofs.BlockLonger.{block_returned, block_longer}
use Rattle.yaml_laws.proofs.PlainLonger.{Lettered, plain_returned, plain_longer}
use Rattle.yaml_laws.proofs.EscapeLonger.{is_fit, AllFit, fit_append}
use Rattle.yaml_laws.proofs.QuotedLaw.{quote_of}
use Rattle.yaml_laws.proofs.QuotedLonger.{quote_fit, head_fit}
use Rattle.yaml_laws.proofs.QuotedEnds.{first_of, is_quote, on_longer, on_returned}
use Rattle.yaml_laws.proofs.ScalarLaw.{column_same, quoted_same, block_same}

-- bytes that are fit go on with a line
fit_rest : (w : List ℕ) → AllFit w → IsRest w
fit_rest [] h = (refl, refl)
fit_rest (b ∷ w) h = by_byte (is_fit b) refl h (λ g. fit_rest w g) where
  by_byte : (q : Bool) → is_fit b ≡ q → cond q (each is_fit w) false ≡ true → (AllFit w → IsRest w) → IsRest (b ∷ w)
  by_byte false e h r = absurd (cc)
  by_byte true e h r =
      let feed : nat_eq b 10 ≡ false = grind (arith, nat_tests, e) in
      let small : is_ascii b ≡ true = grind (arith, nat_tests, e) in
      let i = r h in
      (ap (λ q. cond q false (no_feed w)) feed ∙ i.0, ap (λ q. cond q (each is_ascii w) false) small ∙ i.1)

rest_append : (v w : List ℕ) → IsRest v → IsRest w → IsRest (v ++ w)
rest_append [] w h g = g
rest_append (b ∷ v) w h g = by_byte (nat_eq b 10) (is_ascii b) h (λ i. rest_append v w i g) where
  by_byte : (p q : Bool) → (cond p false (no_feed v) ≡ true) × (cond q (each is_ascii v) false ≡ true) → (IsRest v → IsRest (v ++ w)) → (cond p false (no_feed (v ++ w)) ≡ true) × (cond q (each is_ascii (v ++ w)) false ≡ true)
  by_byte true q h r = absurd (let z = h.0 in cc)
  by_byte false false h r = absurd (let z = h.1 in cc)
  by_byte false true h r = r h

quote_rest : (c : ℕ) (f : List ℕ) → IsRest (quote_of (c ∷ f) ∷ [])
quote_rest c f = fit_rest (quote_of (c ∷ f) ∷ []) (ap (λ q. cond q true false) (quote_fit (quote_of (c ∷ f)) (is_quote c f)))

-- none of them is white space, part of a break or part of a mark, and there is a first
abbrev pub FitHead : List ℕ → Type 0
FitHead w = (c : ℕ) × (v : List ℕ) × (w ≡ c ∷ v) × (is_fit c ≡ true) × AllFit w

-- texts that begin with one, which has a last byte
module _ (s : Setting) (before : List ℕ) (b at : ℕ) (l : at ≤ length before) where
  abbrev text : List ℕ
  text = before ++ (b ∷ [])

  abbrev new : List ℕ → List ℕ
  new more = before ++ (b ∷ more)

  abbrev front : List ℕ
  front = drop at before

  abbrev last : List ℕ
  last = front ++ (b ∷ [])

  size_text : length text ≡ length before + 1
  size_text = length-append before (b ∷ [])

  size_front : at + length front ≡ length before
  size_front = drop_size at before l

  size_last : at + length last ≡ length before + 1
  size_last = let e = size_front in omega (arith, e, length-append front (b ∷ []))

  dropped : (more : List ℕ) → drop at (new more) ≡ front ++ (b ∷ more)
  dropped more = drop_before at before (b ∷ more) l

  -- the same kind of scalar
  kind_is : (more : List ℕ) (q r : Bool) → begins_quoted (drop at text) ≡ q → begins_block s (drop at text) ≡ r → scalar_at s (new more) at ≡ cond q (quoted_scalar s (new more) at) (cond r (block_scalar s (new more) at) (plain_scalar s (new more) at))
  kind_is more q r e f =
      ap (λ p. cond p (quoted_scalar s (new more) at) (cond (begins_block s (drop at (new more))) (block_scalar s (new more) at) (plain_scalar s (new more) at))) (sym (quoted_same before b [] more at l) ∙ e)
      ∙ ap (λ p. cond q (quoted_scalar s (new more) at) (cond p (block_scalar s (new more) at) (plain_scalar s (new more) at))) (sym (block_same s before b [] more at l) ∙ f)

  short : (more : List ℕ) (q r : Bool) → begins_quoted (drop at text) ≡ q → begins_block s (drop at text) ≡ r → each is_ascii more ≡ true → IsScalar (cond q (quoted_scalar s (new more) at) (cond r (block_scalar s (new more) at) (plain_scalar s (new more) at))) → IsShort s text at
  short more q r e f a h = (more, h.0, h.1, a, ap (λ t. scalar_at s t at) (append_assoc before (b ∷ []) more) ∙ kind_is more q r e f ∙ h.2)

  -- the first line behind a quotation mark
  quoted_first : (xs : List ℕ) → begins_quoted (xs ++ (b ∷ [])) ≡ true → nat_eq b 13 ≡ true → (c : ℕ) × (f : List ℕ) × (lines at xs ≡ first_of at c (line_at f) (has_break xs) ∷ behind at xs)
  quoted_first [] h e = absurd (let z : false ≡ true = grind (arith, nat_tests, h, e) in cc)
  quoted_first (c ∷ f) h e = (c, f, lines_are at (c ∷ f) ∙ ap (λ (t : List ℕ). record { at = at; bytes = t; broken = has_break (c ∷ f) } ∷ behind at (c ∷ f)) (no_break c f h)) where
    no_break : (c : ℕ) (f : List ℕ) → (nat_eq c 34 || nat_eq c 39) ≡ true → line_at (c ∷ f) ≡ c ∷ line_at f
    no_break c f h =
        let x : nat_eq c 10 ≡ false = grind (arith, nat_tests, h) in
        let y : nat_eq c 13 ≡ false = grind (arith, nat_tests, h) in
        ap (λ q. cond (q || (nat_eq c 13 && begins_with 10 f)) [] (c ∷ line_at f)) x ∙ ap (λ q. cond (q && begins_with 10 f) [] (c ∷ line_at f)) y

  quoted_whole : (xs : List ℕ) → begins_quoted xs ≡ true → (c : ℕ) × (f : List ℕ) × (lines at xs ≡ first_of at c (line_at f) (has_break xs) ∷ behind at xs)
  quoted_whole [] h = absurd (cc)
  quoted_whole (c ∷ f) h = (c, f, lines_are at (c ∷ f) ∙ ap (λ (t : List ℕ). record { at = at; bytes = t; broken = has_break (c ∷ f) } ∷ behind at (c ∷ f)) (no_break c f h)) where
    no_break : (c : ℕ) (f : List ℕ) → (nat_eq c 34 || nat_eq c 39) ≡ true → line_at (c ∷ f) ≡ c ∷ line_at f
    no_break c f h =
        let x : nat_eq c 10 ≡ false = grind (arith, nat_tests, h) in
        let y : nat_eq c 13 ≡ false = grind (arith, nat_tests, h) in
        ap (λ q. cond (q || (nat_eq c 13 && begins_with 10 f)) [] (c ∷ line_at f)) x ∙ ap (λ q. cond (q && begins_with 10 f) [] (c ∷ line_at f)) y

  -- the last byte is a carriage return: a line feed makes a break of it
  module _ (e : b ≡ 13) where
    pub place : ℕ
    place = at + length front

    pub at_end : length text ≡ suc place
    unfolding place
    at_end = let x = size_text in let y = size_front in omega (arith, x, y)

    old_lines : lines at (drop at text) ≡ cut (lines at front) place
    unfolding place
    old_lines = ap (lines at) (dropped [] ∙ ap (λ c. front ++ (c ∷ [])) e) ∙ lines_more at front (13 ∷ []) refl

    new_lines : (w : List ℕ) → no_feed w ≡ true → lines at (drop at (new (10 ∷ w))) ≡ glue (lines at front) (ended place w)
    unfolding place
    new_lines w n = ap (lines at) (dropped (10 ∷ w) ∙ ap (λ c. front ++ (c ∷ 10 ∷ w)) e) ∙ lines_ended at front w n

    ends : Ends place (ends_with 13 front) (lines at front)
    unfolding place
    ends = lines_end at front

    plain_cut : plain_scalar s text at ≡ Fails (length text) → IsScalar (plain_scalar s (new (10 ∷ [])) at)
    plain_cut h =
        let q = is_first_column text at in
        let r = plain_returned s q place (ends_with 13 front) (lines at front) ends (sym (ap (plain_on s q) old_lines) ∙ h ∙ ap Fails at_end) in
        (r.0, r.1, ap (λ p. plain_on s p (lines at (drop at (new (10 ∷ []))))) (sym (column_same before b [] (10 ∷ []) at l)) ∙ ap (plain_on s q) (new_lines [] refl) ∙ r.2)

    block_cut : block_scalar s text at ≡ Fails (length text) → IsScalar (block_scalar s (new (10 ∷ [])) at)
    block_cut h =
        let other = length (new (10 ∷ [])) in
        let r = block_returned s.parent (length text) other place (ends_with 13 front) (lines at front) ends (sym (ap (block_on s.parent (length text)) old_lines) ∙ h ∙ ap Fails at_end) in
        (r.0, r.1, ap (block_on s.parent other) (new_lines [] refl) ∙ r.2)

    -- a quotation mark on the next line ends it
    pub quoted_cut : begins_quoted (drop at text) ≡ true → quoted_scalar s text at ≡ Fails (length text) → (q : ℕ) × IsRest (q ∷ []) × StandsTo (suc (suc (suc place) + 0)) (quoted_scalar s (new (10 ∷ q ∷ [])) at)
    quoted_cut q h =
        let first = quoted_first front (sym (ap begins_quoted (dropped [])) ∙ q) (ap (λ c. nat_eq c 13) e) in
        let c = first.0 in
        let f = line_at first.1 in
        let ks = behind at front in
        let l1 = first_of at c f (has_break front) in
        let w : List ℕ = quote_of (c ∷ f) ∷ [] in
        let rest = quote_rest c f in
        let other = length (new (10 ∷ w)) in
        let fails : quoted_on s.one_line (length text) (cut (l1 ∷ ks) place) ≡ Fails (suc place) = ap (λ ls. quoted_on s.one_line (length text) (cut ls place)) (sym first.2) ∙ sym (ap (quoted_on s.one_line (length text)) old_lines) ∙ h ∙ ap Fails at_end in
        let r = on_returned s.one_line (length text) other place at c (ends_with 13 front) f (has_break front) ks (subst (λ ls. Ends place (ends_with 13 front) ls) first.2 ends) fails in
        (quote_of (c ∷ f), rest, (r.0, ap (quoted_on s.one_line other) (new_lines w rest.0 ∙ ap (λ ls. glue ls (ended place w)) first.2) ∙ r.1))

    returned : (q r : Bool) → begins_quoted (drop at text) ≡ q → begins_block s (drop at text) ≡ r → cond q (quoted_scalar s text at) (cond r (block_scalar s text at) (plain_scalar s text at)) ≡ Fails (length text) → IsShort s text at
    returned true r x y h = let z = quoted_cut x h in short (10 ∷ z.0 ∷ []) true r x y z.1.1 (z.2.0, suc (suc (suc place) + 0), z.2.1)
    returned false true x y h = short (10 ∷ []) false true x y refl (block_cut h)
    returned false false x y h = short (10 ∷ []) false false x y refl (plain_cut h)

  -- it is none
  module _ (e : nat_eq b 13 ≡ false) where
    pub size : ℕ
    size = at + length last

    pub at_last : length text ≡ size
    unfolding size
    at_last = let x = size_text in let y = size_last in omega (arith, x, y)

    not_last : (xs : List ℕ) → ends_with 13 (xs ++ (b ∷ [])) ≡ false
    not_last [] = e
    not_last (c ∷ []) = e
    not_last (c ∷ d ∷ xs) = not_last (d ∷ xs)

    ends_here : Ends size false (lines at last)
    unfolding size
    ends_here = subst (λ r. Ends (at + length last) r (lines at last)) (not_last front) (lines_end at last)

    text_lines : lines at (drop at text) ≡ lines at last
    text_lines = ap (lines at) (dropped [])

    longer_lines : (w : List ℕ) → no_feed w ≡ true → lines at (drop at (new w)) ≡ glue (lines at last) (rest_of size w ∷ [])
    unfolding size
    longer_lines w n = ap (lines at) (dropped w ∙ sym (append_assoc front (b ∷ []) w)) ∙ lines_more at last w n

    break_lines : lines at (drop at (new (13 ∷ 10 ∷ []))) ≡ glue (lines at last) (ended size [])
    unfolding size
    break_lines = ap (lines at) (dropped (13 ∷ 10 ∷ []) ∙ sym (append_assoc front (b ∷ []) (13 ∷ 10 ∷ []))) ∙ lines_ended at last [] refl

    pub plain_letter : plain_scalar s text at ≡ Fails (length text) → Lettered (suc size) (plain_scalar s (new (97 ∷ [])) at)
    unfolding size
    plain_letter h =
        let q = is_first_column text at in
        let is = lines_are at last in
        let low : at < size = (let x = size_last in omega (arith, x, l)) in
        let r = plain_longer s q size (record { at = at; bytes = line_at last; broken = has_break last }) (behind at last) low (subst (λ ls. Ends size false ls) is ends_here) (sym (ap (plain_on s q) (text_lines ∙ is)) ∙ h ∙ ap Fails at_last) in
        (r.0, ap (λ p. plain_on s p (lines at (drop at (new (97 ∷ []))))) (sym (column_same before b [] (97 ∷ []) at l)) ∙ ap (plain_on s q) (longer_lines (97 ∷ []) refl ∙ ap (λ ls. glue ls (rest_of size (97 ∷ []) ∷ [])) is) ∙ r.1)

    plain_more : plain_scalar s text at ≡ Fails (length text) → IsScalar (plain_scalar s (new (97 ∷ [])) at)
    plain_more h = let r = plain_letter h in (r.0 ++ (97 ∷ []), suc size, r.1)

    block_more : begins_quoted (drop at text) ≡ false → begins_block s (drop at text) ≡ true → block_scalar s text at ≡ Fails (length text) → IsShort s text at
    block_more x y h = elim (block_longer s.parent size (length text) (lines at last) ends_here (sym (ap (block_on s.parent (length text)) text_lines) ∙ h ∙ ap Fails at_last)) [
      | inl r ↦ (let z = r.2 (length (new r.0)) in short r.0 false true x y r.1.1 (z.0, z.1, ap (block_on s.parent (length (new r.0))) (longer_lines r.0 r.1.0) ∙ z.2))
      | inr r ↦ (let z = r (length (new (13 ∷ 10 ∷ []))) in short (13 ∷ 10 ∷ []) false true x y refl (z.0, z.1, ap (block_on s.parent (length (new (13 ∷ 10 ∷ [])))) break_lines ∙ z.2))
    ]

    pub quoted_more_at : begins_quoted (drop at text) ≡ true → quoted_scalar s text at ≡ Fails (length text) → (w : List ℕ) × IsRest w × IsScalar (quoted_scalar s (new w) at) × FitHead w
    quoted_more_at q h =
        let first = quoted_whole last (sym (ap begins_quoted (dropped [])) ∙ q) in
        let c = first.0 in
        let f = line_at first.1 in
        let ls = behind at last in
        let l1 = first_of at c f (has_break last) in
        let fails : quoted_on s.one_line size (l1 ∷ ls) ≡ Fails size = ap (quoted_on s.one_line size) (sym first.2) ∙ ap (λ n. quoted_on s.one_line n (lines at last)) (sym at_last) ∙ sym (ap (quoted_on s.one_line (length text)) text_lines) ∙ h ∙ ap Fails at_last in
        let r = on_longer s.one_line size at c f (has_break last) ls (subst (λ ls. Ends size false ls) first.2 ends_here) fails in
        let w = r.0 ++ (quote_of (c ∷ f) ∷ []) in
        let hd = head_fit (quote_of (c ∷ f)) r.0 (is_quote c f) r.1 in
        let rest = rest_append r.0 (quote_of (c ∷ f) ∷ []) (fit_rest r.0 r.1) (quote_rest c f) in
        let z = r.2 (length (new w)) in
        (w, rest, (z.0, z.1, ap (quoted_on s.one_line (length (new w))) (longer_lines w rest.0 ∙ ap (λ ls. glue ls (rest_of size w ∷ [])) first.2) ∙ z.2), (hd.0, hd.1, hd.2, hd.3, fit_append r.0 (quote_of (c ∷ f) ∷ []) r.1 (ap (λ q. cond q true false) (quote_fit (quote_of (c ∷ f)) (is_quote c f)))))

    longer : (q r : Bool) → begins_quoted (drop at text) ≡ q → begins_block s (drop at text) ≡ r → cond q (quoted_scalar s text at) (cond r (block_scalar s text at) (plain_scalar s text at)) ≡ Fails (length text) → IsShort s text at
    longer true r x y h = let z = quoted_more_at x h in short z.0 true r x y z.1.1 z.2
    longer false true x y h = block_more x y h
    longer false false x y h = short (97 ∷ []) false false x y refl (plain_more h)

  pub scalar_short : scalar_at s text at ≡ Fails (length text) → IsShort s text at
  scalar_short h = by_byte (nat_eq b 13) refl where
    by_byte : (q : Bool) → nat_eq b 13 ≡ q → IsShort s text at
    by_byte true e = returned (grind (arith, nat_tests, e)) (begins_quoted (drop at text)) (begins_block s (drop at text)) refl refl h
    by_byte false e = longer e (begins_quoted (drop at text)) (begins_block s (drop at text)) refl refl h
