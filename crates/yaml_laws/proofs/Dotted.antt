-- Where a plain or quoted scalar with a dot so far fails at the text's end, its text has a dot in each longer text.
use Rattle.std.proofs.Common.{◌≡◌, ℕ, ◌+◌, ◌<◌, ◌≤◌, ◌⊎◌, inl, inr, Bool, true, false, ◌||◌, ◌&&◌, cond, nat_eq, arith, List, [], ◌∷◌, ◌++◌, drop, length, refl, sym, ap, ◌∙◌, subst, true≢false, append_assoc, length-append, length-drop}
use Rattle.std.proofs.lemmas.Bool.{cases_lt}
use Rattle.std.proofs.lemmas.Bool.Decides.{nat_tests}
use Rattle.yaml_scalars.specs.declared.scalar.Setting.{Setting}
use Rattle.yaml_scalars.specs.Lines.{Line, Outcome, Stands, Fails, begins_with, begins_break, ends_with, lines}
use Rattle.yaml_scalars.specs.Plain.{plain_on}
use Rattle.yaml_scalars.specs.Quoted.{quoted_on}
use Rattle.yaml_scalars.specs.Scalar.{is_first_column, begins_quoted, begins_block, plain_scalar, quoted_scalar, block_scalar, scalar_at}
use Rattle.yaml_scalars.specs.code.Walk.{line_at, has_break, behind}
use Rattle.yaml_scalars.proofs.Places.{lines_are}
use Rattle.yaml_laws.specs.code.Agreement.{scalar_shown, out_shown, plain_shown}
use Rattle.yaml_laws.specs.code.Dots.{undotted}
use Rattle.yaml_laws.proofs.Agree.{drop_before}
use Rattle.yaml_laws.proofs.DotEscapes.{IsFree}
use Rattle.yaml_laws.proofs.DotLines.{lines_undotted}
use Rattle.yaml_laws.proofs.Dotless.{AreFree, unquoted}
use Rattle.yaml_laws.proofs.DotPlain.{on_dotted as plain_dotted}
use Rattle.yaml_laws.proofs.DotQuoted.{BackAt, on_dotted as quoted_dotted}
use Rattle.yaml_laws.proofs.Longer.{glue, Ends, lines_apart, lines_end}
use Rattle.yaml_laws.proofs.QuotedLonger.{ends_drop}
use Rattle.yaml_laws.proofs.ScalarFollowed.{quoted_longer, block_longer}
use Rattle.yaml_laws.proofs.ScalarLaw.{column_longer}
use Rattle.yaml_laws.proofs.ScalarStays.{scalar_stays}
use Rattle.yaml_laws.proofs.SyntaxLaw.{last_of}

module _ (s : Setting) (text : List ℕ) (at : ℕ) (low : at < length text) (last : ends_with 13 text ≡ false) (more : List ℕ) where
  abbrev bytes : List ℕ
  bytes = drop at text

  size : at + length (drop at text) ≡ length text
  size = let z = length-drop at text in omega (arith, z, low)

  no_return : ends_with 13 (drop at text) ≡ false
  no_return = by_test (ends_with 13 (drop at text)) refl where
    by_test : (q : Bool) → ends_with 13 (drop at text) ≡ q → q ≡ false
    by_test true e = absurd (true≢false (sym (ends_drop at text e) ∙ last))
    by_test false e = refl

  -- the lines of the longer text
  abbrev next : Line
  next = record { at = at + length (drop at text); bytes = line_at more; broken = has_break more }

  longer : lines at (drop at (text ++ more)) ≡ glue (lines at (drop at text)) (next ∷ behind (at + length (drop at text)) more)
  longer =
      ap (lines at) (drop_before at text more (omega (arith, low))) ∙ lines_apart at (drop at text) more (ap (λ q. q && begins_with 10 more) no_return)
      ∙ ap (glue (lines at (drop at text))) (lines_are (at + length (drop at text)) more)

  ends : Ends (length text) false (lines at (drop at text))
  ends = subst (λ n. Ends n false (lines at (drop at text))) size (subst (λ q. Ends (at + length (drop at text)) q (lines at (drop at text))) no_return (lines_end at (drop at text)))

  lines_here : lines at (drop at text) ≡ record { at = at; bytes = line_at (drop at text); broken = has_break (drop at text) } ∷ behind at (drop at text)
  lines_here = lines_are at (drop at text)

  told : (o : Outcome) (place : ℕ) (P : Type 0) (t : List ℕ) (end : ℕ) → BackAt place P o → o ≡ Stands t end → place ≤ end → IsFree t → P
  told o place P t end b e l f = subst (BackAt place P) e b l f

  abbrev first_line : Line
  first_line = record { at = at; bytes = line_at (drop at text); broken = has_break (drop at text) }

  abbrev tails : List Line
  tails = behind (at + length (drop at text)) more

  plain_case : (t : List ℕ) (end : ℕ) → plain_scalar s text at ≡ Fails (length text) → plain_scalar s (text ++ more) at ≡ Stands t end → IsFree t → undotted false false (drop at text) ≡ true
  plain_case t end h g f =
      let fresh = is_first_column text at in
      let ls = behind at (drop at text) in
      let fails : plain_on s (is_first_column text at) (first_line ∷ behind at (drop at text)) ≡ Fails (length text) = ap (plain_on s fresh) (sym lines_here) ∙ h in
      let there = plain_dotted s fresh (length text) first_line ls next tails low (subst (Ends (length text) false) lines_here ends) fails in
      let stands : plain_on s (is_first_column text at) (glue (first_line ∷ behind at (drop at text)) (next ∷ tails)) ≡ Stands t end =
      ap (λ ls. plain_on s fresh (glue ls (next ∷ tails))) (sym lines_here) ∙ ap (plain_on s fresh) (sym longer) ∙ ap (λ q. plain_on s q (lines at (drop at (text ++ more)))) (sym (column_longer text more at (omega (arith, low)))) ∙ g in
      let free = told (plain_on s fresh (glue (first_line ∷ ls) (next ∷ tails))) 0 (AreFree false (first_line ∷ ls)) t end there stands (omega arith) f in
      lines_undotted false at (drop at text) (subst (AreFree false) (sym lines_here) free)

  -- a quoted scalar of a longer text does not end before the text does
  far : (t : List ℕ) (end : ℕ) → begins_quoted (drop at text) ≡ true → scalar_at s text at ≡ Fails (length text) → scalar_at s (text ++ more) at ≡ Stands t end → length text ≤ end
  far t end q h g = by_order (cases_lt end (length text)) where
    last_byte : (before : List ℕ) (b : ℕ) → ends_with 13 (before ++ (b ∷ [])) ≡ nat_eq b 13
    last_byte [] b = refl
    last_byte (c ∷ []) b = refl
    last_byte (c ∷ d ∷ before) b = last_byte (d ∷ before) b

    by_last : (before : List ℕ) (b : ℕ) → text ≡ before ++ (b ∷ []) → end < length text → ⊥
    by_last before b whole l =
        let long = ap (λ (t : List ℕ). length t) whole in
        let size2 = length-append before (b ∷ []) in
        let new : text ++ more ≡ before ++ (b ∷ more) = ap (λ t. t ++ more) whole ∙ append_assoc before (b ∷ []) more in
        let quoted : begins_quoted (drop at (before ++ (b ∷ more))) ≡ true = ap (λ t. begins_quoted (drop at t)) (sym new) ∙ quoted_longer text more at low ∙ q in
        let near : scalar_shown s (before ++ (b ∷ more)) at end ≤ length before =
        subst (λ r. cond r end (cond (begins_block s (drop at (before ++ (b ∷ more)))) (end + out_shown (line_at (drop end (before ++ (b ∷ more))))) (plain_shown s (length (before ++ (b ∷ more))) (lines at (drop at (before ++ (b ∷ more)))))) ≤ length before) (sym quoted) (omega (arith, l, long, size2)) in
        let plain : nat_eq b 13 ≡ false = sym (last_byte before b) ∙ ap (ends_with 13) (sym whole) ∙ last in
        let breaks : begins_break b more ≡ begins_break b [] = ap (λ r. nat_eq b 10 || (r && begins_with 10 more)) plain ∙ sym (ap (λ r. nat_eq b 10 || (r && begins_with 10 [])) plain) in
        let same = scalar_stays s before more [] b at t end (omega (arith, low, long, size2)) breaks near (ap (λ t. scalar_at s t at) (sym new) ∙ g) in
        fails (sym (ap (λ t. scalar_at s t at) whole ∙ same) ∙ h) where
          fails : Stands t end ≡ Fails (length text) → ⊥
          fails z = cc

    by_text : (xs : List ℕ) → text ≡ xs → end < length text → ⊥
    by_text [] e l = let z = ap (λ (t : List ℕ). length t) e in omega (arith, z, l)
    by_text (x ∷ xs) e l = let r = last_of x xs in by_last r.0 r.1 (e ∙ r.2) l

    by_order : (end < length text) ⊎ (length text ≤ end) → length text ≤ end
    by_order (inl l) = absurd (by_text text refl l)
    by_order (inr l) = l

  quoted_case : (t : List ℕ) (end : ℕ) → s.one_line ≡ false → begins_quoted (drop at text) ≡ true → scalar_at s text at ≡ Fails (length text) → scalar_at s (text ++ more) at ≡ Stands t end → quoted_scalar s (text ++ more) at ≡ Stands t end → IsFree t → undotted (begins_with 34 (drop at text)) false (drop at text) ≡ true
  quoted_case t end one q h g k f = by_bytes (drop at text) refl where
    which : (b : ℕ) → (nat_eq b 34 || nat_eq b 39) ≡ true → (b ≡ 34) ⊎ (b ≡ 39)
    which b e = by_tests (nat_eq b 34) (nat_eq b 39) refl refl e where
      by_tests : (p r : Bool) → nat_eq b 34 ≡ p → nat_eq b 39 ≡ r → (p || r) ≡ true → (b ≡ 34) ⊎ (b ≡ 39)
      by_tests true r i j e = inl (grind (arith, nat_tests, i))
      by_tests false true i j e = inr (grind (arith, nat_tests, j))
      by_tests false false i j e = absurd (true≢false (sym e))

    unbroken : (b : ℕ) (xs : List ℕ) → (b ≡ 34) ⊎ (b ≡ 39) → line_at (b ∷ xs) ≡ b ∷ line_at xs
    unbroken b xs (inl e) = ap (λ n. cond (begins_break n xs) [] (b ∷ line_at xs)) e
    unbroken b xs (inr e) = ap (λ n. cond (begins_break n xs) [] (b ∷ line_at xs)) e

    by_bytes : (xs : List ℕ) → drop at text ≡ xs → undotted (begins_with 34 (drop at text)) false (drop at text) ≡ true
    by_bytes [] e = absurd (let z = ap (λ (t : List ℕ). length t) e in let y = size in omega (arith, z, y, low))
    by_bytes (b ∷ xs) e =
        let mark = which b (sym (ap begins_quoted e) ∙ q) in
        let line : line_at (drop at text) ≡ b ∷ line_at xs = ap line_at e ∙ unbroken b xs mark in
        let here : lines at (drop at text) ≡ record { at = at; bytes = b ∷ line_at xs; broken = has_break (drop at text) } ∷ behind at (drop at text) =
        lines_here ∙ ap (λ (y : List ℕ). record { at = at; bytes = y; broken = has_break (drop at text) } ∷ behind at (drop at text)) line in
        let there = quoted_dotted (length (text ++ more)) (length text) false at b (line_at xs) (has_break (drop at text)) (behind at (drop at text)) next tails mark (subst (Ends (length text) false) here ends) in
        let stands : quoted_on false (length (text ++ more)) (glue (record { at = at; bytes = b ∷ line_at xs; broken = has_break (drop at text) } ∷ behind at (drop at text)) (next ∷ tails)) ≡ Stands t end =
        ap (λ ls. quoted_on false (length (text ++ more)) (glue ls (next ∷ tails))) (sym here) ∙ ap (quoted_on false (length (text ++ more))) (sym longer) ∙ ap (λ o. quoted_on o (length (text ++ more)) (lines at (drop at (text ++ more)))) (sym one) ∙ k in
        let free = told (quoted_on false (length (text ++ more)) (glue (record { at = at; bytes = b ∷ line_at xs; broken = has_break (drop at text) } ∷ behind at (drop at text)) (next ∷ tails))) (length text) (AreFree (nat_eq b 34) (record { at = at; bytes = b ∷ line_at xs; broken = has_break (drop at text) } ∷ behind at (drop at text))) t end there stands (far t end q h g) f in
        ap (λ r. undotted r false (drop at text)) (ap (begins_with 34) e) ∙ lines_undotted (nat_eq b 34) at (drop at text) (subst (AreFree (nat_eq b 34)) (sym here) free)

  pub scalar_dotted : (t : List ℕ) (end : ℕ) → s.one_line ≡ false → begins_block s (drop at text) ≡ false → scalar_at s text at ≡ Fails (length text) → scalar_at s (text ++ more) at ≡ Stands t end → IsFree t → undotted (begins_with 34 (drop at text)) false (drop at text) ≡ true
  scalar_dotted t end one block h g f = by_quote (begins_quoted (drop at text)) refl where
    kind : (y : List ℕ) (q : Bool) → begins_quoted (drop at y) ≡ q → begins_block s (drop at y) ≡ false → scalar_at s y at ≡ cond q (quoted_scalar s y at) (plain_scalar s y at)
    kind y q e n = ap (λ r. cond r (quoted_scalar s y at) (cond (begins_block s (drop at y)) (block_scalar s y at) (plain_scalar s y at))) e ∙ ap (λ r. cond q (quoted_scalar s y at) (cond r (block_scalar s y at) (plain_scalar s y at))) n

    by_quote : (q : Bool) → begins_quoted (drop at text) ≡ q → undotted (begins_with 34 (drop at text)) false (drop at text) ≡ true
    by_quote true e = quoted_case t end one e h g (sym (kind (text ++ more) true (quoted_longer text more at low ∙ e) (block_longer s text more at low ∙ block)) ∙ g) f
    by_quote false e =
        ap (λ r. undotted r false (drop at text)) (unquoted (drop at text) e)
        ∙ plain_case t end (sym (kind text false e block) ∙ h) (sym (kind (text ++ more) false (quoted_longer text more at low ∙ e) (block_longer s text more at low ∙ block)) ∙ g) f
