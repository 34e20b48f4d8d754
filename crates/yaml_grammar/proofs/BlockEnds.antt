-- A block scalar ends where a line begins, or with the text; so no colon stands on its line behind it. By induction over lines.
use Rattle.std.proofs.Common.{◌≡◌, ℕ, ◌+◌, ◌≤◌, ◌⊎◌, inl, inr, Bool, true, false, true≢false, ◌||◌, ◌&&◌, not, cond, nat_eq, arith, List, [], ◌∷◌, drop, length, refl, sym, ap, ◌∙◌, subst, Option, Some, None}
use Rattle.std.proofs.lemmas.Bool.Decides.{nat_tests}
use Rattle.std.specs.Prelude.{ℤ}
use Rattle.std.specs.Str.{IsCharBoundary, IsUtf8}
use Rattle.yaml_scalars.specs.declared.scalar.Setting.{Setting}
use Rattle.yaml_scalars.specs.Lines.{Line, Stands, lines, begins_with, is_blank}
use Rattle.yaml_scalars.specs.Plain.{above_of}
use Rattle.yaml_scalars.specs.Block.{Chomp, Last, Inner, Nothing, Wide, Indented, ending, content_more, blank_more, count_break, inner_of, base_of, by_inner, by_digit, block_on}
use Rattle.yaml_scalars.specs.Scalar.{begins_block, begins_quoted, is_first_column, block_scalar, plain_scalar, quoted_scalar, scalar_at}
use Rattle.yaml_scalars.specs.code.Walk.{line_at, has_break, behind}
use Rattle.yaml_scalars.proofs.Places.{lines_are}
use Rattle.yaml_scalars.proofs.BlockStates.{more_out, more_return}
use Rattle.yaml_scalars.proofs.BlockScalars.{on_fault, on_none, on_lines}
use Rattle.yaml_laws.proofs.BlockLaw.{fails_not, content_cases, head_of, block_cases}
use Rattle.yaml_grammar.specs.declared.ahead.Token.TheVariants.{Point}
use Rattle.yaml_grammar.specs.declared.form.Form.{Form}
use Rattle.yaml_grammar.specs.Ahead.{line_ahead, rest_ahead, ahead}
use Rattle.yaml_grammar.specs.Nodes.{setting_of}
use Rattle.yaml_grammar.specs.code.Points.{is_last_point, is_point, is_pointed}
use Rattle.yaml_grammar.specs.code.Steps.{IsBlock}
use Rattle.yaml_grammar.proofs.BlockPoints.{line_fresh}
use Rattle.yaml_grammar.proofs.Placed.{placed}
use Rattle.yaml_grammar.proofs.Pointed.{last_stale, plain_pointed, sign_block}
use Rattle.yaml_grammar.proofs.ScalarOrder.{Fresh, behind_fresh}

same_end : (t u : List ℕ) (e f : ℕ) → Stands t e ≡ Stands u f → e ≡ f
same_end t u e f h = cc

module _ (text0 : List ℕ) (e : ℕ) where
  -- a line begins at the place, or it is the text's end
  abbrev Starts : Type 0
  Starts = (is_first_column text0 e ≡ true) ⊎ (length text0 ≡ e)

  here : (l : Line) (ls : List Line) → Fresh text0 (l ∷ ls) → l.at ≡ e → Starts
  here l ls f k = inl (subst (λ n. is_first_column text0 n ≡ true) k f.0)

  content_starts : (folded : Bool) (chomp : Chomp) (inner : ℕ) (ls : List Line) (text : List ℕ) (last : Option Last) (n : ℕ) (t : List ℕ) → Fresh text0 ls → content_more folded chomp inner (length text0) ls text last n ≡ Stands t e → Starts
  content_starts folded chomp inner [] text last n t s h = inr (same_end _ t (length text0) e h)
  content_starts folded chomp inner (l ∷ ls) text last n t s h =
      content_cases folded chomp inner l text last n
      (λ c. here l ls s (same_end _ t l.at e (sym (more_out folded chomp inner (length text0) l ls text last n c) ∙ h)))
      (λ j c r. absurd (fails_not _ t e (sym (more_return folded chomp inner (length text0) l ls text last n j c r) ∙ h)))
      (λ x y z c r g. content_starts folded chomp inner ls x y z t s.1 (sym (g (length text0) ls) ∙ h))

  blank_starts : (chomp : Chomp) (ls : List Line) (n : ℕ) (t : List ℕ) → Fresh text0 ls → blank_more chomp (length text0) ls n ≡ Stands t e → Starts
  blank_starts chomp [] n t s h = inr (same_end _ t (length text0) e h)
  blank_starts chomp (l ∷ ls) n t s h = by_blank (is_blank l.bytes) h (λ g. blank_starts chomp ls (count_break l.broken n) t s.1 g) where
    by_blank : (q : Bool) → cond q (blank_more chomp (length text0) ls (count_break l.broken n)) (Stands (ending chomp None n) l.at) ≡ Stands t e → (blank_more chomp (length text0) ls (count_break l.broken n) ≡ Stands t e → Starts) → Starts
    by_blank true h r = r h
    by_blank false h r = here l ls s (same_end _ t l.at e h)

  digit_starts : (folded : Bool) (parent : ℤ) (chomp : Chomp) (digit : Option ℕ) (ls : List Line) (t : List ℕ) → Fresh text0 ls → by_digit folded parent chomp (length text0) digit ls ≡ Stands t e → Starts
  digit_starts folded parent chomp (Some d) ls t s h = content_starts folded chomp (base_of parent + d) ls [] None 0 t s h
  digit_starts folded parent chomp None ls t s h = by_in (inner_of (above_of parent) 0 ls) h where
    by_in : (i : Inner) → by_inner folded chomp (length text0) i ls ≡ Stands t e → Starts
    by_in Nothing h = blank_starts chomp ls 0 t s h
    by_in (Wide at) h = absurd (fails_not at t e h)
    by_in (Indented j) h = content_starts folded chomp j ls [] None 0 t s h

  on_starts : (parent : ℤ) (l : Line) (ls : List Line) (t : List ℕ) → Fresh text0 ls → block_on parent (length text0) (l ∷ ls) ≡ Stands t e → Starts
  on_starts parent l ls t s h =
      block_cases l (λ n f. absurd (fails_not _ t e (sym (on_fault parent (length text0) l ls (head_of l.bytes) n refl f) ∙ h))) (λ f b. absurd (fails_not _ t e (sym (on_none parent (length text0) l ls (head_of l.bytes) refl f b) ∙ h)))
      (λ f b. digit_starts (begins_with 62 l.bytes) parent (head_of l.bytes).chomp (head_of l.bytes).digit ls t s (sym (on_lines parent (length text0) l ls (head_of l.bytes) refl f b) ∙ h))

  at_start : Starts → (ahead text0 false e).fresh ≡ true
  at_start (inl c) = ap (λ q. (cond q (line_ahead false (length text0) (lines e (drop e text0))) (rest_ahead false (length text0) (lines e (drop e text0)))).fresh) c ∙ line_fresh (length text0) (lines e (drop e text0))
  at_start (inr n) = by_column (is_first_column text0 e) where
    all : (xs : List ℕ) → drop (length xs) xs ≡ []
    all [] = refl
    all (x ∷ xs) = all xs

    none : drop e text0 ≡ []
    none = ap (λ k. drop k text0) (sym n) ∙ all text0

    by_column : (q : Bool) → (cond q (line_ahead false (length text0) (lines e (drop e text0))) (rest_ahead false (length text0) (lines e (drop e text0)))).fresh ≡ true
    by_column true = line_fresh (length text0) (lines e (drop e text0))
    by_column false = ap (λ xs. (rest_ahead false (length text0) (lines e xs)).fresh) none

-- so what stands behind it begins a line
pub block_fresh : (s : Setting) (text : List ℕ) (at : ℕ) (t : List ℕ) (e : ℕ) → block_scalar s text at ≡ Stands t e → (ahead text false e).fresh ≡ true
block_fresh s text at t e h =
    let xs = drop at text in
    let l : Line = record { at = at; bytes = line_at xs; broken = has_break xs } in
    at_start text e (on_starts text e s.parent l (behind at xs) t (behind_fresh text xs at refl) (sym (ap (block_on s.parent (length text)) (lines_are at xs)) ∙ h))

-- outside of brackets a scalar in front of a colon on its line that ends the text is quoted, unless a plain one goes on over it
pub last_quoted : (f : Form) (text : List ℕ) (at : ℕ) (t : List ℕ) (e : ℕ) → IsBlock f → scalar_at (setting_of f) text at ≡ Stands t e → is_last_point text false (ahead text false e) ≡ true → is_pointed text false at e ≡ false → begins_quoted (drop at text) ≡ true
last_quoted f text at t e block h y still = by_kind (begins_quoted (drop at text)) refl (begins_block (setting_of f) (drop at text)) refl h where
  by_kind : (q : Bool) → begins_quoted (drop at text) ≡ q → (r : Bool) → begins_block (setting_of f) (drop at text) ≡ r
      → cond q (quoted_scalar (setting_of f) text at) (cond r (block_scalar (setting_of f) text at) (plain_scalar (setting_of f) text at)) ≡ Stands t e → q ≡ true
  by_kind true x r z k = refl
  by_kind false x true z k = absurd (true≢false (sym (block_fresh (setting_of f) text at t e k) ∙ last_stale text (ahead text false e) y))
  by_kind false x false z k = absurd (true≢false (sym (plain_pointed text at e x (sign_block f (drop at text) block z) y) ∙ still))

-- so in front of such a colon no scalar without quotes stands where reading went on
pub unquoted_free : (f : Form) (text : List ℕ) (at : ℕ) (t : List ℕ) (e : ℕ) → IsUtf8 text → IsCharBoundary text e → IsBlock f → scalar_at (setting_of f) text at ≡ Stands t e → is_pointed text false at e ≡ false → begins_quoted (drop at text) ≡ false
    → (ahead text false e).fresh ≡ false → (ahead text false e).token ≡ Point true → length text ≤ (ahead text false e).behind → ⊥
unquoted_free f text at t e utf8 cut block h still q stale tk far = true≢false (sym (last_quoted f text at t e block h last still) ∙ q) where
  whole : (ahead text false e).behind ≡ length text
  whole = let b = (placed text false e utf8 cut).2.0 in omega (arith, b, far)

  same : (m n : ℕ) → m ≡ n → nat_eq m n ≡ true
  same m n k = grind (arith, nat_tests, k)

  last : is_last_point text false (ahead text false e) ≡ true
  last =
      ap (λ k. is_point k && (nat_eq (ahead text false e).behind (length text) && (false || not (ahead text false e).fresh))) tk ∙ ap (λ k. true && (k && (false || not (ahead text false e).fresh))) (same (ahead text false e).behind (length text) whole)
      ∙ ap (λ k. true && (true && (false || not k))) stale
