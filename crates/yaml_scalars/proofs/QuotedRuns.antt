-- A run of bytes that stand for themselves between quotes, and what ends it.
use Rattle.std.proofs.Common.{◌≡◌, ℕ, zero, suc, ◌+◌, ◌-◌, ◌<◌, ◌≤◌, ◌⊎◌, Bool, true, false, List, [], ◌∷◌, ◌++◌, length, take, drop, get_or, refl, sym, ap, ap₂, inl, inr, ◌∙◌, arith, cond, length-append, length-take, length-drop, append_assoc}
use Rattle.std.specs.Prelude.{nat_eq, ◌||◌, ◌&&◌}
use Rattle.std.proofs.lemmas.Bool.Decides.{nat_tests}
use Rattle.std.proofs.Math.Seq.{take-append-add}
use Rattle.std.proofs.lemmas.List.{append-nil, drop-drop, drop_all, get_or-drop}
use Rattle.yaml_scalars.specs.Lines.{Stands, Fails, begins_with, begins_break, is_white, keep, trimmed, lines}
use Rattle.yaml_scalars.specs.Quoted.{Piece, Itself, Closes, Means, Joins, Returns, Wrong, Closed, Open, Joined, Returned, Refused, escape, piece, add_piece, line_part, key_part, behind_part, quoted_more, quoted_on}
use Rattle.yaml_scalars.specs.code.QuotedSteps.{is_special, comes_to, lines_below, from, past}
use Rattle.yaml_scalars.specs.code.Walk.{line_at, has_break, behind}
use Rattle.yaml_scalars.specs.Scalar.{begins_quoted}
use Rattle.yaml_scalars.proofs.EscapeDigits.{ahead}
use Rattle.yaml_scalars.proofs.Places.{lines_are, line_drop, behind_drop}

-- a byte that is not special begins no break, and stands for itself
no_break : (quote x : ℕ) (xs : List ℕ) → is_special quote x ≡ false → begins_break x xs ≡ false
no_break quote x xs h = by_tests (nat_eq x 10) (nat_eq x 13) (begins_with 10 xs) (cond (nat_eq quote 34) (nat_eq x 34 || nat_eq x 92) (nat_eq x 39)) h where
  by_tests : (p q r o : Bool) → (p || (q || o)) ≡ false → (p || (q && r)) ≡ false
  by_tests true q r o e = absurd (cc)
  by_tests false true r o e = absurd (cc)
  by_tests false false r o e = refl

itself : (quote x : ℕ) (bs : List ℕ) → is_special quote x ≡ false → piece quote x bs ≡ Itself
itself quote x bs h = by_tests (nat_eq x 10) (nat_eq x 13) (nat_eq quote 34) (nat_eq x 34) (nat_eq x 92) (nat_eq x 39) h where
  by_tests : (p q d e f g : Bool) → (p || (q || cond d (e || f) g)) ≡ false → cond q (Returns 0) (cond d (cond e Closes (cond f (escape bs) Itself)) (cond g (cond (begins_with 39 bs) (Means 1 (39 ∷ [])) Closes) Itself)) ≡ Itself
  by_tests true q d e f g h = absurd (cc)
  by_tests false true d e f g h = absurd (cc)
  by_tests false false true true f g h = absurd (cc)
  by_tests false false true false true g h = absurd (cc)
  by_tests false false true false false g h = refl
  by_tests false false false e f true h = absurd (cc)
  by_tests false false false e f false h = refl

line_ahead : (quote x : ℕ) (xs : List ℕ) → is_special quote x ≡ false → line_at (x ∷ xs) ≡ x ∷ line_at xs
line_ahead quote x xs h = ap (λ q. cond q [] (x ∷ line_at xs)) (no_break quote x xs h)

-- so many bytes in front are not special
abbrev IsRun : ℕ → ℕ → List ℕ → Type 0
IsRun quote n xs = (k : ℕ) → k < n → is_special quote (get_or xs k 0) ≡ false

run_tail : (quote n x : ℕ) (xs : List ℕ) → IsRun quote (suc n) (x ∷ xs) → IsRun quote n xs
run_tail quote n x xs h = λ k l. h (suc k) (omega arith)

run_line : (quote n : ℕ) (xs : List ℕ) → n ≤ length xs → IsRun quote n xs → line_at xs ≡ take n xs ++ line_at (drop n xs)
run_line quote zero xs l h = refl
run_line quote (suc n) [] l h = absurd (omega arith)
run_line quote (suc n) (x ∷ xs) l h = line_ahead quote x xs (h 0 (omega arith)) ∙ ap (λ t. x ∷ t) (run_line quote n xs (omega arith) (run_tail quote n x xs h))

-- how many bytes of the text stay behind a run if the line ends there
abbrev kept_run : ℕ → ℕ → List ℕ → ℕ
kept_run size kept [] = kept
kept_run size kept (b ∷ bs) = kept_run (suc size) (cond (is_white b) kept (suc size)) bs

one_byte : (quote x at : ℕ) (text : List ℕ) (kept : ℕ) (rest : List ℕ) → is_special quote x ≡ false → line_part quote at 0 text kept (x ∷ rest) ≡ line_part quote (suc at) 0 (text ++ (x ∷ [])) (cond (is_white x) kept (suc (length text))) rest
one_byte quote x at text kept rest h =
    ap (λ p. add_piece p x at text kept (λ n t k. line_part quote (suc at) n t k rest)) (itself quote x rest h) ∙ by_white (is_white x) where
      by_white : (q : Bool) → cond q (line_part quote (suc at) 0 (text ++ (x ∷ [])) kept rest) (line_part quote (suc at) 0 (text ++ (x ∷ [])) (suc (length text)) rest) ≡ line_part quote (suc at) 0 (text ++ (x ∷ [])) (cond q kept (suc (length text))) rest
      by_white true = refl
      by_white false = refl

run_part : (quote n at : ℕ) (text : List ℕ) (kept : ℕ) (xs : List ℕ) → n ≤ length xs → IsRun quote n xs
    → line_part quote at 0 text kept (line_at xs) ≡ line_part quote (at + n) 0 (text ++ take n xs) (kept_run (length text) kept (take n xs)) (line_at (drop n xs))
run_part quote zero at text kept xs l h =
    let e : at ≡ at + 0 = omega arith in
    ap₂ (λ a t. line_part quote a 0 t kept (line_at xs)) e (sym (append-nil text))
run_part quote (suc n) at text kept [] l h = absurd (omega arith)
run_part quote (suc n) at text kept (x ∷ xs) l h =
    let e : suc at + n ≡ at + suc n = omega arith in
    let k : ℕ = cond (is_white x) kept (suc (length text)) in
    let size : length (text ++ (x ∷ [])) ≡ suc (length text) = omega (arith, length-append text (x ∷ [])) in
    let free = h 0 (omega arith) in
    ap (line_part quote at 0 text kept) (line_ahead quote x xs free)
    ∙ one_byte quote x at text kept (line_at xs) free
    ∙ run_part quote n (suc at) (text ++ (x ∷ [])) k xs (omega arith) (run_tail quote n x xs h)
    ∙ ap₂ (λ a t. line_part quote a 0 t (kept_run (length (text ++ (x ∷ []))) k (take n xs)) (line_at (drop n xs))) e (append_assoc text (x ∷ []) (take n xs))
    ∙ ap (λ s. line_part quote (at + suc n) 0 (text ++ (x ∷ take n xs)) (kept_run s k (take n xs)) (line_at (drop n xs))) size

-- what stays is the text and the run without the white space at its end
abbrev pick : ℕ → ℕ → List ℕ → ℕ
pick kept size [] = kept
pick kept size (c ∷ cs) = size + length (c ∷ cs)

kept_is : (size kept : ℕ) (run : List ℕ) → kept_run size kept run ≡ pick kept size (trimmed run)
kept_is size kept [] = refl
kept_is size kept (b ∷ bs) = kept_is (suc size) (cond (is_white b) kept (suc size)) bs ∙ by_rest (trimmed bs) where
  by_white : (q : Bool) → cond q kept (suc size) ≡ pick kept size (cond q [] (b ∷ []))
  by_white true = refl
  by_white false = omega arith

  by_rest : (t : List ℕ) → pick (cond (is_white b) kept (suc size)) (suc size) t ≡ pick kept size (keep b t)
  by_rest [] = by_white (is_white b)
  by_rest (c ∷ cs) = omega arith

trimmed_front : (run : List ℕ) → take (length (trimmed run)) run ≡ trimmed run
trimmed_front [] = refl
trimmed_front (b ∷ bs) = by_rest (trimmed bs) (trimmed_front bs) where
  by_white : (q : Bool) → take (length (cond q [] (b ∷ []))) (b ∷ bs) ≡ cond q [] (b ∷ [])
  by_white true = refl
  by_white false = refl

  by_rest : (t : List ℕ) → take (length t) bs ≡ t → take (length (keep b t)) (b ∷ bs) ≡ keep b t
  by_rest [] h = by_white (is_white b)
  by_rest (c ∷ cs) h = ap (λ t. b ∷ t) h

stays : (text run : List ℕ) → take (kept_run (length text) (length text) run) (text ++ run) ≡ text ++ trimmed run
stays text run =
    ap (λ k. take k (text ++ run)) (kept_is (length text) (length text) run ∙ by_rest (trimmed run)) ∙ take-append-add text run (length (trimmed run)) ∙ ap (λ t. text ++ t) (trimmed_front run) where
      by_rest : (t : List ℕ) → pick (length text) (length text) t ≡ length text + length t
      by_rest [] = omega arith
      by_rest (c ∷ cs) = refl

-- bytes are passed over
passes : (quote n at : ℕ) (text : List ℕ) (kept : ℕ) (rest : List ℕ) → n ≤ length rest → line_part quote at n text kept rest ≡ line_part quote (at + n) 0 text kept (drop n rest)
passes quote zero at text kept rest l = let e : at ≡ at + 0 = omega arith in ap (λ a. line_part quote a 0 text kept rest) e
passes quote (suc n) at text kept [] l = absurd (omega arith)
passes quote (suc n) at text kept (b ∷ rest) l = let e : suc at + n ≡ at + suc n = omega arith in passes quote n (suc at) text kept rest (omega arith) ∙ ap (λ a. line_part quote a 0 text kept (drop n rest)) e

module _ (quote : ℕ) (bytes : List ℕ) (at stop : ℕ) (order : at ≤ stop) (within : stop ≤ length bytes) (run : (k : ℕ) → at ≤ k → k < stop → is_special quote (get_or bytes k 0) ≡ false) where
  free : IsRun quote (stop - at) (drop at bytes)
  free k l = ap (is_special quote) (get_or-drop at bytes k 0) ∙ run (at + k) (omega arith) (omega arith)

  fits : stop - at ≤ length (drop at bytes)
  fits = omega (arith, length-drop at bytes)

  arrives : at + (stop - at) ≡ stop
  arrives = omega arith

  rest_is : line_at (drop (stop - at) (drop at bytes)) ≡ line_at (drop stop bytes)
  rest_is = ap line_at (drop-drop (stop - at) at bytes ∙ ap (λ k. drop k bytes) arrives)

  size_is : at + length (line_at (drop at bytes)) ≡ stop + length (line_at (drop stop bytes))
  size_is =
      let line = ap (λ (t : List ℕ). length t) (run_line quote (stop - at) (drop at bytes) fits free) in
      let rest = ap (λ (t : List ℕ). length t) rest_is in
      let f = fits in
      omega (arith, line, rest, f, length-append (take (stop - at) (drop at bytes)) (line_at (drop (stop - at) (drop at bytes))), length-take (stop - at) (drop at bytes))

  behind_is : (n : ℕ) → n ≤ length (line_at (drop stop bytes)) → behind at (drop at bytes) ≡ behind (stop + n) (drop (stop + n) bytes)
  behind_is n l =
      let m : stop - at + n ≤ length (line_at (drop at bytes)) = let s = size_is in omega (arith, s) in
      let e : at + (stop - at + n) ≡ stop + n = omega arith in
      behind_drop (stop - at + n) at (drop at bytes) m ∙ ap₂ behind e (drop-drop (stop - at + n) at bytes ∙ ap (λ k. drop k bytes) e)

  module _ (one_line : Bool) (text : List ℕ) where
    longer : List ℕ
    longer = text ++ take (stop - at) (drop at bytes)

    kept : ℕ
    kept = kept_run (length text) (length text) (take (stop - at) (drop at bytes))

    part_is : line_part quote at 0 text (length text) (line_at (drop at bytes)) ≡ line_part quote stop 0 longer kept (line_at (drop stop bytes))
    unfolding longer kept
    part_is = run_part quote (stop - at) at text (length text) (drop at bytes) fits free ∙ ap₂ (λ a rest. line_part quote a 0 longer kept rest) arrives rest_is

    -- the line ends behind a run
    pub from_break : line_at (drop stop bytes) ≡ [] → from quote one_line bytes at text ≡ past quote one_line bytes stop false (text ++ trimmed (take (stop - at) (drop at bytes)))
    unfolding from past longer kept
    from_break h =
        let t = text ++ trimmed (take (stop - at) (drop at bytes)) in
        let over : at + length (line_at (drop at bytes)) ≡ stop = let s = size_is in let z = ap (λ (x : List ℕ). length x) h in omega (arith, s, z) in
        let n : stop + 0 ≡ stop = omega arith in
        ap₂ (λ p o. comes_to one_line p o (lines_below quote bytes at)) (part_is ∙ ap (line_part quote stop 0 longer kept) h ∙ ap Open (stays text (take (stop - at) (drop at bytes)))) over
        ∙ by_line one_line t (behind_is 0 (omega arith) ∙ ap₂ behind n (ap (λ k. drop k bytes) n)) where
          by_line : (q : Bool) (t : List ℕ) → behind at (drop at bytes) ≡ behind stop (drop stop bytes) → comes_to q (Open t) stop (lines_below quote bytes at) ≡ cond q (Fails stop) (lines_below quote bytes stop false t)
          by_line true t e = refl
          by_line false t e = ap (λ ls. quoted_more quote (length bytes) ls t false 0) e

    -- or a special byte stands there
    module _ (b : ℕ) (ahead : line_at (drop stop bytes) ≡ b ∷ line_at (drop (stop + 1) bytes)) where
      rest : List ℕ
      rest = line_at (drop (stop + 1) bytes)

      from_stop : (p : Piece) → piece quote b (line_at (drop (stop + 1) bytes)) ≡ p → from quote one_line bytes at text ≡ comes_to one_line (add_piece p b stop longer kept (λ n t k. line_part quote (suc stop) n t k rest)) (stop + suc (length rest)) (lines_below quote bytes (stop + 1))
      unfolding from rest
      from_stop p e =
          let over : at + length (line_at (drop at bytes)) ≡ stop + suc (length rest) = let s = size_is in let z = ap (λ (x : List ℕ). length x) ahead in omega (arith, s, z) in
          let m : 1 ≤ length (line_at (drop stop bytes)) = let z = ap (λ (x : List ℕ). length x) ahead in omega (arith, z) in
          ap₂ (λ p o. comes_to one_line p o (lines_below quote bytes at)) (part_is ∙ ap (line_part quote stop 0 longer kept) ahead ∙ ap (λ p. add_piece p b stop longer kept (λ n t k. line_part quote (suc stop) n t k rest)) e) over
          ∙ ap (λ ls. comes_to one_line (add_piece p b stop longer kept (λ n t k. line_part quote (suc stop) n t k rest)) (stop + suc (length rest)) (λ j t. quoted_more quote (length bytes) ls t j 0)) (behind_is 1 m)

      pub from_closes : piece quote b (line_at (drop (stop + 1) bytes)) ≡ Closes → from quote one_line bytes at text ≡ Stands (text ++ take (stop - at) (drop at bytes)) (stop + 1)
      unfolding longer
      from_closes e = let n : suc stop ≡ stop + 1 = omega arith in from_stop Closes e ∙ by_line one_line ∙ ap (Stands longer) n where
        by_line : (q : Bool) → comes_to q (Closed longer (suc stop)) (stop + suc (length rest)) (lines_below quote bytes (stop + 1)) ≡ Stands longer (suc stop)
        by_line true = refl
        by_line false = refl

      pub from_returns : (n : ℕ) → piece quote b (line_at (drop (stop + 1) bytes)) ≡ Returns n → from quote one_line bytes at text ≡ Fails (cond one_line (stop + n) (suc (stop + n)))
      from_returns n e = from_stop (Returns n) e ∙ by_line one_line where
        by_line : (q : Bool) → comes_to q (Returned (stop + n)) (stop + suc (length rest)) (lines_below quote bytes (stop + 1)) ≡ Fails (cond q (stop + n) (suc (stop + n)))
        by_line true = refl
        by_line false = refl

      pub from_wrong : (n : ℕ) → piece quote b (line_at (drop (stop + 1) bytes)) ≡ Wrong n → from quote one_line bytes at text ≡ Fails (stop + n)
      from_wrong n e = from_stop (Wrong n) e ∙ by_line one_line where
        by_line : (q : Bool) → comes_to q (Refused (stop + n)) (stop + suc (length rest)) (lines_below quote bytes (stop + 1)) ≡ Fails (stop + n)
        by_line true = refl
        by_line false = refl

      pub from_joins : piece quote b (line_at (drop (stop + 1) bytes)) ≡ Joins → line_at (drop (stop + 1) bytes) ≡ [] → from quote one_line bytes at text ≡ past quote one_line bytes (stop + 1) true (text ++ take (stop - at) (drop at bytes))
      unfolding past longer rest
      from_joins e h =
          let over : stop + suc (length rest) ≡ stop + 1 = let z = ap (λ (x : List ℕ). length x) h in omega (arith, z) in
          from_stop Joins e ∙ ap (λ o. comes_to one_line (Joined longer) o (lines_below quote bytes (stop + 1))) over ∙ by_line one_line where
            by_line : (q : Bool) → comes_to q (Joined longer) (stop + 1) (lines_below quote bytes (stop + 1)) ≡ cond q (Fails (stop + 1)) (lines_below quote bytes (stop + 1) true longer)
            by_line true = refl
            by_line false = refl

      pub from_means : (taken : ℕ) (meant : List ℕ) → piece quote b (line_at (drop (stop + 1) bytes)) ≡ Means taken meant → taken ≤ length (line_at (drop (stop + 1) bytes)) → from quote one_line bytes at text ≡ from quote one_line bytes (stop + 1 + taken) ((text ++ take (stop - at) (drop at bytes)) ++ meant)
      unfolding from longer rest
      from_means taken meant e l =
          let t = longer ++ meant in
          let more = drop (stop + 1) bytes in
          let place : suc stop + taken ≡ stop + 1 + taken = omega arith in
          let line : drop taken (line_at more) ≡ line_at (drop (stop + 1 + taken) bytes) = line_drop taken more l ∙ ap line_at (drop-drop taken (stop + 1) bytes) in
          let over : stop + suc (length (line_at more)) ≡ stop + 1 + taken + length (line_at (drop (stop + 1 + taken) bytes)) = let z = ap (λ (x : List ℕ). length x) line in omega (arith, z, length-drop taken (line_at more)) in
          from_stop (Means taken meant) e
          ∙ ap (λ p. comes_to one_line p (stop + suc (length (line_at more))) (lines_below quote bytes (stop + 1))) (passes quote taken (suc stop) t (length t) (line_at more) l ∙ ap₂ (λ a r. line_part quote a 0 t (length t) r) place line)
          ∙ ap₂ (λ o ls. comes_to one_line (line_part quote (stop + 1 + taken) 0 t (length t) (line_at (drop (stop + 1 + taken) bytes))) o (λ j s. quoted_more quote (length bytes) ls s j 0)) over
          (behind_drop taken (stop + 1) more l ∙ ap (behind (stop + 1 + taken)) (drop-drop taken (stop + 1) bytes))

-- at the text's end
pub from_end : (quote : ℕ) (one_line : Bool) (bytes : List ℕ) (at : ℕ) (text : List ℕ) → at ≡ length bytes → from quote one_line bytes at text ≡ Fails (length bytes)
unfolding from
from_end quote one_line bytes at text e =
    let none : drop at bytes ≡ [] = drop_all at bytes (omega (arith, e)) in
    let over : at + 0 ≡ length bytes = omega (arith, e) in
    ap (λ xs. comes_to one_line (line_part quote at 0 text (length text) (line_at xs)) (at + length (line_at xs)) (λ j t. quoted_more quote (length bytes) (behind at xs) t j 0)) none
    ∙ ap (λ o. comes_to one_line (Open (take (length text) text)) o (λ j t. quoted_more quote (length bytes) [] t j 0)) over ∙ by_line one_line where
      by_line : (q : Bool) → comes_to q (Open (take (length text) text)) (length bytes) (λ j t. quoted_more quote (length bytes) [] t j 0) ≡ Fails (length bytes)
      by_line true = refl
      by_line false = refl

-- where the scalar begins
pub quote_is : (text : List ℕ) (at : ℕ) → at < length text → begins_quoted (drop at text) ≡ true → (get_or text at 0 ≡ 34) ⊎ (get_or text at 0 ≡ 39)
quote_is text at l h = by_tests (nat_eq (get_or text at 0) 34) (nat_eq (get_or text at 0) 39) (λ e. grind (arith, nat_tests)) (λ e. grind (arith, nat_tests)) (sym (ap begins_quoted (ahead text at l)) ∙ h) where
  by_tests : (p q : Bool) → (p ≡ true → get_or text at 0 ≡ 34) → (q ≡ true → get_or text at 0 ≡ 39) → (p || q) ≡ true → (get_or text at 0 ≡ 34) ⊎ (get_or text at 0 ≡ 39)
  by_tests true q f g e = inl (f refl)
  by_tests false true f g e = inr (g refl)
  by_tests false false f g e = absurd (cc)

pub quote_ahead : (text : List ℕ) (at : ℕ) → at < length text → (get_or text at 0 ≡ 34) ⊎ (get_or text at 0 ≡ 39) → line_at (drop at text) ≡ get_or text at 0 ∷ line_at (drop (at + 1) text)
quote_ahead text at l h = ap line_at (ahead text at l) ∙ by_quote (get_or text at 0) h where
  by_quote : (q : ℕ) → (q ≡ 34) ⊎ (q ≡ 39) → line_at (q ∷ drop (at + 1) text) ≡ q ∷ line_at (drop (at + 1) text)
  by_quote q (inl e) = ap (λ b. line_at (b ∷ drop (at + 1) text)) e ∙ ap (λ b. b ∷ line_at (drop (at + 1) text)) (sym e)
  by_quote q (inr e) = ap (λ b. line_at (b ∷ drop (at + 1) text)) e ∙ ap (λ b. b ∷ line_at (drop (at + 1) text)) (sym e)

pub quoted_begins : (one_line : Bool) (text : List ℕ) (at : ℕ) → at < length text → (get_or text at 0 ≡ 34) ⊎ (get_or text at 0 ≡ 39) → quoted_on one_line (length text) (lines at (drop at text)) ≡ from (get_or text at 0) one_line text (at + 1) []
unfolding from
quoted_begins one_line text at l h =
    let line = line_at (drop (at + 1) text) in
    let more = behind (at + 1) (drop (at + 1) text) in
    let size = length text in
    let place : suc at ≡ at + 1 = omega arith in
    let over : at + suc (length line) ≡ at + 1 + length line = omega arith in
    let m : 1 ≤ length (line_at (drop at text)) = let z = ap (λ (x : List ℕ). length x) (quote_ahead text at l h) in omega (arith, z) in
    ap (quoted_on one_line size) (lines_are at (drop at text))
    ∙ ap₂ (λ bytes ls. quoted_on one_line size (record { at = at; bytes = bytes; broken = has_break (drop at text) } ∷ ls)) (quote_ahead text at l h) (behind_drop 1 at (drop at text) m ∙ ap (behind (at + 1)) (drop-drop 1 at text))
    ∙ by_quote (get_or text at 0) h
    ∙ by_line one_line
    ∙ ap₂ (λ a o. comes_to one_line (line_part (get_or text at 0) a 0 [] 0 line) o (λ j t. quoted_more (get_or text at 0) size more t j 0)) place over where
      by_quote : (q : ℕ) → (q ≡ 34) ⊎ (q ≡ 39) → quoted_on one_line (length text) (record { at = at; bytes = q ∷ line_at (drop (at + 1) text); broken = has_break (drop at text) } ∷ behind (at + 1) (drop (at + 1) text))
          ≡ cond one_line (key_part (line_part q (suc at) 0 [] 0 (line_at (drop (at + 1) text))) (at + suc (length (line_at (drop (at + 1) text))))) (behind_part (line_part q (suc at) 0 [] 0 (line_at (drop (at + 1) text))) (λ j t. quoted_more q (length text) (behind (at + 1) (drop (at + 1) text)) t j 0))
      by_quote q (inl e) = ap (λ p. cond one_line (key_part (line_part (cond p 34 39) (suc at) 0 [] 0 (line_at (drop (at + 1) text))) (at + suc (length (line_at (drop (at + 1) text))))) (behind_part (line_part (cond p 34 39) (suc at) 0 [] 0 (line_at (drop (at + 1) text))) (λ j t. quoted_more (cond p 34 39) (length text) (behind (at + 1) (drop (at + 1) text)) t j 0))) (ap (λ b. nat_eq b 34) e)
          ∙ ap (λ b. cond one_line (key_part (line_part b (suc at) 0 [] 0 (line_at (drop (at + 1) text))) (at + suc (length (line_at (drop (at + 1) text))))) (behind_part (line_part b (suc at) 0 [] 0 (line_at (drop (at + 1) text))) (λ j t. quoted_more b (length text) (behind (at + 1) (drop (at + 1) text)) t j 0))) (sym e)
      by_quote q (inr e) = ap (λ p. cond one_line (key_part (line_part (cond p 34 39) (suc at) 0 [] 0 (line_at (drop (at + 1) text))) (at + suc (length (line_at (drop (at + 1) text))))) (behind_part (line_part (cond p 34 39) (suc at) 0 [] 0 (line_at (drop (at + 1) text))) (λ j t. quoted_more (cond p 34 39) (length text) (behind (at + 1) (drop (at + 1) text)) t j 0))) (ap (λ b. nat_eq b 34) e)
          ∙ ap (λ b. cond one_line (key_part (line_part b (suc at) 0 [] 0 (line_at (drop (at + 1) text))) (at + suc (length (line_at (drop (at + 1) text))))) (behind_part (line_part b (suc at) 0 [] 0 (line_at (drop (at + 1) text))) (λ j t. quoted_more b (length text) (behind (at + 1) (drop (at + 1) text)) t j 0))) (sym e)

      by_line : (q : Bool) → cond q (key_part (line_part (get_or text at 0) (suc at) 0 [] 0 (line_at (drop (at + 1) text))) (at + suc (length (line_at (drop (at + 1) text))))) (behind_part (line_part (get_or text at 0) (suc at) 0 [] 0 (line_at (drop (at + 1) text))) (λ j t. quoted_more (get_or text at 0) (length text) (behind (at + 1) (drop (at + 1) text)) t j 0))
          ≡ comes_to q (line_part (get_or text at 0) (suc at) 0 [] 0 (line_at (drop (at + 1) text))) (at + suc (length (line_at (drop (at + 1) text)))) (λ j t. quoted_more (get_or text at 0) (length text) (behind (at + 1) (drop (at + 1) text)) t j 0)
      by_line true = refl
      by_line false = refl
