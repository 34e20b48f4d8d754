-- The byte that shows the end of a scalar between brackets stands not behind the first one of what the place of that end has ahead, unless a plain scalar may go on over that. By the kinds of scalars.
use Rattle.std.proofs.lemmas.Bool.{cases_lt}
use Rattle.std.proofs.lemmas.Bool.Decides.{nat_tests}
use Rattle.std.specs.Prelude.{ℤ}
use Rattle.std.proofs.Common.{◌≡◌, ℕ, ◌+◌, ◌<◌, ◌≤◌, ◌⊎◌, inl, inr, Bool, true, false, ◌||◌, ◌&&◌, not, cond, nat_eq, arith, List, refl, drop, length, sym, ap, ◌∙◌, subst, true≢false}
use Rattle.yaml_scalars.specs.declared.scalar.Setting.{Setting}
use Rattle.yaml_scalars.specs.Lines.{Stands, begins_with, lines}
use Rattle.yaml_scalars.specs.Scalar.{begins_quoted, begins_block, plain_scalar, quoted_scalar, block_scalar, scalar_at}
use Rattle.yaml_scalars.specs.code.Walk.{line_at}
use Rattle.yaml_laws.specs.code.Agreement.{out_shown, plain_shown, scalar_shown}
use Rattle.yaml_grammar.specs.declared.stage.Stage.TheVariants as stage
use Rattle.yaml_grammar.specs.Ahead.{ahead}
use Rattle.yaml_grammar.specs.code.AheadSeen.{ahead_seen}
use Rattle.yaml_grammar.specs.code.Points.{gap, is_last_point, is_pointed}
use Rattle.yaml_grammar.specs.code.Steps.{is_open}
use Rattle.yaml_grammar.specs.code.Twins.{settled}
use Rattle.yaml_grammar.proofs.PlainOut.{OutOf, ahead_from, plain_out}
use Rattle.yaml_grammar.proofs.PlainPoints.{Told, found_at, found_before, gap_place, plain_found}
use Rattle.yaml_grammar.proofs.Pointed.{last_parts, point_unmarked, unquoted_plain}
use Rattle.yaml_grammar.proofs.ScalarOrder.{scalar_seen}

flow_block : (s : Setting) (xs : List ℕ) → s.flow ≡ true → begins_block s xs ≡ false
flow_block s xs flow = ap (λ f. not (f || s.one_line) && (begins_with 124 xs || begins_with 62 xs)) flow

flow_setting : (s : Setting) → s.flow ≡ true → s ≡ record { parent = s.parent; flow = true; one_line = s.one_line }
flow_setting s e = ap (λ (q : Bool). record { parent = s.parent; flow = q; one_line = s.one_line }) e

out_plain : (s : Setting) (text : List ℕ) (at : ℕ) (t : List ℕ) (e : ℕ) → s.flow ≡ true → at ≤ length text → plain_scalar s text at ≡ Stands t e → OutOf (ahead text true e) (plain_shown s (length text) (lines at (drop at text)))
out_plain s text at t e flow low h =
    let is = flow_setting s flow in
    subst (λ (z : Setting). OutOf (ahead text true e) (plain_shown z (length text) (lines at (drop at text)))) (sym is) (plain_out s.parent s.one_line text at t e low (sym (ap (λ z. plain_scalar z text at) is) ∙ h))

-- behind a colon that ends the text a plain one does not go on, unless nothing but white space and breaks stands between
point_out : (p : ℤ) (text : List ℕ) (at : ℕ) (t : List ℕ) (e : ℕ) → at ≤ length text → e ≤ length text → is_last_point text true (ahead text true e) ≡ true → (nat_eq (e + gap (drop e text)) (ahead text true e).at) ≡ false
    → plain_scalar (record { parent = p; flow = true; one_line = false }) text at ≡ Stands t e → plain_shown (record { parent = p; flow = true; one_line = false }) (length text) (lines at (drop at text)) ≤ (ahead text true e).at
point_out p text at t e low within last other h = by_told (plain_found p text at t e low h) where
  near : found_at text e ≤ (ahead text true e).at
  near = found_before text e within

  apart : found_at text e ≡ (ahead text true e).at → ⊥
  apart k = let z = gap_place text e within in no_eq (e + gap (drop e text)) (ahead text true e).at (z ∙ k) other where
    no_eq : (m n : ℕ) → m ≡ n → nat_eq m n ≡ false → ⊥
    no_eq m n i j = grind (arith, nat_tests, i, j)

  by_told : Told text (ahead text true e) (found_at text e) (plain_shown (record { parent = p; flow = true; one_line = false }) (length text) (lines at (drop at text))) → plain_shown (record { parent = p; flow = true; one_line = false }) (length text) (lines at (drop at text)) ≤ (ahead text true e).at
  by_told (inl (b, x)) = by_order (cases_lt (found_at text e) (ahead text true e).at) where
    by_order : (found_at text e < (ahead text true e).at) ⊎ ((ahead text true e).at ≤ found_at text e) → plain_shown (record { parent = p; flow = true; one_line = false }) (length text) (lines at (drop at text)) ≤ (ahead text true e).at
    by_order (inl l) = omega (arith, l, x)
    by_order (inr l) = absurd (apart (let n = near in omega (arith, l, n)))
  by_told (inr (inl m)) = absurd (true≢false (sym m ∙ point_unmarked (ahead text true e).token (last_parts text true (ahead text true e) last).0))
  by_told (inr (inr (b, x))) = let n = near in omega (arith, n, x)

-- where no plain scalar may go on over what is ahead
pub shut_out : (s : Setting) (text : List ℕ) (at : ℕ) (t : List ℕ) (e : ℕ) → s.flow ≡ true → at ≤ length text → e ≤ length text → scalar_at s text at ≡ Stands t e → is_open (ahead text true e).token ≡ false → scalar_shown s text at e ≤ (ahead text true e).at
shut_out s text at t e flow low within h n = by_kind n (begins_quoted (drop at text)) (begins_block s (drop at text)) (flow_block s (drop at text) flow) h where
  by_kind : is_open (ahead text true e).token ≡ false → (q r : Bool) → r ≡ false → cond q (quoted_scalar s text at) (cond r (block_scalar s text at) (plain_scalar s text at)) ≡ Stands t e
      → cond q e (cond r (e + out_shown (line_at (drop e text))) (plain_shown s (length text) (lines at (drop at text)))) ≤ (ahead text true e).at
  by_kind n true r i k = ahead_from text e within
  by_kind n false true i k = absurd (true≢false i)
  by_kind n false false i k = by_out (out_plain s text at t e flow low k) where
    by_out : OutOf (ahead text true e) (plain_shown s (length text) (lines at (drop at text))) → plain_shown s (length text) (lines at (drop at text)) ≤ (ahead text true e).at
    by_out (inl o) = absurd (true≢false (sym o ∙ n))
    by_out (inr o) = o

pub scalar_out : (s : Setting) (text : List ℕ) (at : ℕ) (t : List ℕ) (e : ℕ) → s.flow ≡ true → s.one_line ≡ false → at ≤ length text → e ≤ length text → scalar_at s text at ≡ Stands t e → is_pointed text true at e ≡ false → scalar_shown s text at e ≤ settled text true stage.After e
scalar_out s text at t e flow one low within h none = by_last (is_last_point text true (ahead text true e)) refl where
  setting : s ≡ record { parent = s.parent; flow = true; one_line = false }
  setting = flow_setting s flow ∙ ap (λ (q : Bool). record { parent = s.parent; flow = true; one_line = q }) one

  by_open : (q : Bool) → is_open (ahead text true e).token ≡ q → scalar_shown s text at e ≤ cond (true && not q) (ahead text true e).at (ahead_seen text e)
  by_open true n = scalar_seen s text at t e low within h
  by_open false n = shut_out s text at t e flow low within h n

  by_quote : is_last_point text true (ahead text true e) ≡ true → (q : Bool) → begins_quoted (drop at text) ≡ q → (r : Bool) → r ≡ false → cond q (quoted_scalar s text at) (cond r (block_scalar s text at) (plain_scalar s text at)) ≡ Stands t e
      → cond q e (cond r (e + out_shown (line_at (drop e text))) (plain_shown s (length text) (lines at (drop at text)))) ≤ (ahead text true e).at
  by_quote y true w r i k = ahead_from text e within
  by_quote y false w true i k = absurd (true≢false i)
  by_quote y false w false i k =
      let apart : nat_eq (e + gap (drop e text)) (ahead text true e).at ≡ false =
      sym (ap (λ q. q && (is_last_point text true (ahead text true e) && (false || nat_eq (e + gap (drop e text)) (ahead text true e).at))) (unquoted_plain (drop at text) w) ∙ ap (λ q. q && (false || nat_eq (e + gap (drop e text)) (ahead text true e).at)) y) ∙ none in
      subst (λ (z : Setting). plain_shown z (length text) (lines at (drop at text)) ≤ (ahead text true e).at) (sym setting) (point_out s.parent text at t e low within y apart (sym (ap (λ z. plain_scalar z text at) setting) ∙ k))

  by_last : (q : Bool) → is_last_point text true (ahead text true e) ≡ q → scalar_shown s text at e ≤ cond (q || (true && not (is_open (ahead text true e).token))) (ahead text true e).at (ahead_seen text e)
  by_last true y = by_quote y (begins_quoted (drop at text)) refl (begins_block s (drop at text)) (flow_block s (drop at text) flow) h
  by_last false y = by_open (is_open (ahead text true e).token) refl
