-- The first line of a plain scalar.
use Rattle.std.proofs.Common.{◌≡◌, ℕ, suc, ◌+◌, ◌<◌, ◌≤◌, Bool, true, false, List, [], ◌∷◌, length, take, drop, refl, sym, ap, ◌∙◌, arith, cond}
use Rattle.std.specs.Prelude.{◌||◌, ◌&&◌, not, slice_index}
use Rattle.std.proofs.lemmas.Bool.Decides.{nat_tests}
use Rattle.yaml_scalars.specs.declared.scalar.Setting.{Setting}
use Rattle.yaml_scalars.specs.declared.plain_line.Why.{Why}
use Rattle.yaml_scalars.specs.declared.plain_line.Why.TheVariants.{Break, Return, Colon, Comment, Mark}
use Rattle.yaml_scalars.specs.Lines.{Outcome, Stands, Fails, is_white, is_mark, is_cut_mark, keep, trimmed}
use Rattle.yaml_scalars.specs.code.Walk.{line_at, behind}
use Rattle.yaml_scalars.specs.Plain.{begins_plain, wrong_begin, stops, plain_len, content, content_end, why, reason, first, plain_on}
use Rattle.yaml_scalars.specs.code.PlainSteps.{from}
use Rattle.yaml_scalars.specs.Scalar.{is_first_column, plain_scalar, IsEndOf}
use Rattle.yaml_scalars.specs.code.Memory.{fills_line, is_break}
use Rattle.yaml_scalars.proofs.Places.{lines_are}
use Rattle.yaml_scalars.proofs.FurtherLines.{reason_is, stands_same}

-- a first line with its tests
abbrev opened : Setting → List ℕ → ℕ → Bool → Bool → Outcome
opened s text at mark begins = cond mark (Fails (at + 3)) (cond begins (first s (reason s.flow (line_at (drop at text))) at (line_at (drop at text)) (behind at (drop at text))) (Fails (wrong_begin at (line_at (drop at text)))))

opened_is : (s : Setting) (text : List ℕ) (at : ℕ) (mark begins : Bool) → mark ≡ (is_first_column text at && (is_mark (line_at (drop at text)) || is_cut_mark (line_at (drop at text)))) → begins ≡ begins_plain s.flow (line_at (drop at text)) → plain_scalar s text at ≡ opened s text at mark begins
opened_is s text at mark begins m b = ap (plain_on s (is_first_column text at)) (lines_are at (drop at text)) ∙ ap (λ q. opened s text at q (begins_plain s.flow (line_at (drop at text)))) (sym m) ∙ ap (opened s text at mark) (sym b)

pub plain_mark : (s : Setting) (text : List ℕ) (at : ℕ) → true ≡ (is_first_column text at && (is_mark (line_at (drop at text)) || is_cut_mark (line_at (drop at text)))) → plain_scalar s text at ≡ Fails (at + 3)
plain_mark s text at m = opened_is s text at true (begins_plain s.flow (line_at (drop at text))) m refl

pub plain_wrong : (s : Setting) (text : List ℕ) (at : ℕ) → false ≡ (is_first_column text at && (is_mark (line_at (drop at text)) || is_cut_mark (line_at (drop at text)))) → false ≡ begins_plain s.flow (line_at (drop at text)) → plain_scalar s text at ≡ Fails (wrong_begin at (line_at (drop at text)))
plain_wrong s text at m b = opened_is s text at false false m b

pub plain_first : (s : Setting) (text : List ℕ) (at stop : ℕ) (w : Why) → false ≡ (is_first_column text at && (is_mark (line_at (drop at text)) || is_cut_mark (line_at (drop at text)))) → true ≡ begins_plain s.flow (line_at (drop at text)) → stop ≡ at + plain_len s.flow false (line_at (drop at text)) → w ≡ why (line_at (drop stop text)) → plain_scalar s text at ≡ first s w at (line_at (drop at text)) (behind at (drop at text))
plain_first s text at stop w m b e v = opened_is s text at false true m b ∙ ap (λ w. first s w at (line_at (drop at text)) (behind at (drop at text))) (reason_is s.flow text at stop e ∙ sym v)

-- by why the scalar ends on the line
pub first_return : (s : Setting) (text : List ℕ) (at stop : ℕ) → stop ≡ at + plain_len s.flow false (line_at (drop at text)) → first s Return at (line_at (drop at text)) (behind at (drop at text)) ≡ Fails (stop + 1)
first_return s text at stop e = ap (λ n. Fails (n + 1)) (sym e)

pub first_break : (s : Setting) (text : List ℕ) (at : ℕ) (t : List ℕ) (end : ℕ) → s.one_line ≡ false → t ≡ content s.flow (line_at (drop at text)) → end ≡ at + length t → first s Break at (line_at (drop at text)) (behind at (drop at text)) ≡ from s text at t end 0
first_break s text at t end o a b =
    let c = content s.flow (line_at (drop at text)) in
    ap (λ q. cond q (Stands c (content_end s.flow (line_at (drop at text)) at)) (from s text at c (content_end s.flow (line_at (drop at text)) at) 0)) o
    ∙ ap (λ x. from s text at x (at + length x) 0) (sym a) ∙ ap (λ x. from s text at t x 0) (sym b)

pub first_stands : (s : Setting) (text : List ℕ) (at : ℕ) (w : Why) (t : List ℕ) (end : ℕ) → (w ≡ Return → ⊥) → (w ≡ Break → s.one_line ≡ true) → t ≡ content s.flow (line_at (drop at text)) → end ≡ at + length t → first s w at (line_at (drop at text)) (behind at (drop at text)) ≡ Stands t end
first_stands s text at w t end r o a b = by_reason w r o ∙ stands_same _ t _ end a (b ∙ ap (λ (x : List ℕ). at + length x) a) where
  by_reason : (w : Why) → (w ≡ Return → ⊥) → (w ≡ Break → s.one_line ≡ true) → first s w at (line_at (drop at text)) (behind at (drop at text)) ≡ Stands (content s.flow (line_at (drop at text))) (content_end s.flow (line_at (drop at text)) at)
  by_reason Break r o = ap (λ q. cond q (Stands (content s.flow (line_at (drop at text))) (content_end s.flow (line_at (drop at text)) at)) (from s text at (content s.flow (line_at (drop at text))) (content_end s.flow (line_at (drop at text)) at) 0)) (o refl)
  by_reason Return r o = absurd (r refl)
  by_reason Colon r o = refl
  by_reason Comment r o = refl
  by_reason Mark r o = refl

-- it fills its line where that ends it and it is no key
pub line_filled : (s : Setting) (text : List ℕ) (at stop : ℕ) → s.one_line ≡ false → true ≡ begins_plain s.flow (line_at (drop at text)) → stop ≡ at + plain_len s.flow false (line_at (drop at text)) → Break ≡ why (line_at (drop stop text)) → fills_line s (line_at (drop at text)) ≡ true
unfolding fills_line
line_filled s text at stop o b e w =
    ap (λ q. not q && (begins_plain s.flow (line_at (drop at text)) && is_break (reason s.flow (line_at (drop at text))))) o
    ∙ ap (λ q. q && is_break (reason s.flow (line_at (drop at text)))) (sym b) ∙ ap is_break (reason_is s.flow text at stop e ∙ sym w)

-- the content of a first line is not empty
keep_some : (b : ℕ) (xs : List ℕ) → is_white b ≡ false → 0 < length (keep b xs)
keep_some b [] w = by_white (is_white b) w where
  by_white : (q : Bool) → q ≡ false → 0 < length (cond q [] (b ∷ []))
  by_white false e = omega arith
  by_white true e = absurd (cc)
keep_some b (c ∷ cs) w = omega arith

first_tests : (white mark other cr dash colon flow u : Bool) → (not (white || (mark || other) || cr) && (not (dash || colon) || not u)) ≡ true → (white ≡ false) × (((colon && u) || false || (flow && mark) || cr) ≡ false)
first_tests false false false false dash colon flow u h = (refl, by_colon colon u dash flow h) where
  by_colon : (colon u dash flow : Bool) → (not (dash || colon) || not u) ≡ true → ((colon && u) || false || (flow && false) || false) ≡ false
  by_colon false u dash true h = refl
  by_colon false u dash false h = refl
  by_colon true false dash true h = refl
  by_colon true false dash false h = refl
  by_colon true true true flow h = absurd (cc)
  by_colon true true false flow h = absurd (cc)
first_tests true mark other cr dash colon flow u h = absurd (cc)
first_tests false true other cr dash colon flow u h = absurd (cc)
first_tests false false true cr dash colon flow u h = absurd (cc)
first_tests false false false true dash colon flow u h = absurd (cc)

first_byte : (flow : Bool) (b : ℕ) (bs : List ℕ) → begins_plain flow (b ∷ bs) ≡ true → (is_white b ≡ false) × (stops flow false b bs ≡ false)
first_byte flow b bs h = (grind (arith, nat_tests, h), grind (arith, nat_tests, h))

pub content_some : (flow : Bool) (xs : List ℕ) → begins_plain flow xs ≡ true → 0 < length (content flow xs)
content_some flow [] h = absurd (cc)
content_some flow (b ∷ bs) h =
    let f = first_byte flow b bs h in
    let k = keep_some b (trimmed (take (plain_len flow (is_white b) bs) bs)) f.0 in
    by_stop (stops flow false b bs) f.1 k where
      by_stop : (q : Bool) → q ≡ false → 0 < length (keep b (trimmed (take (plain_len flow (is_white b) bs) bs))) → 0 < length (trimmed (take (cond q 0 (suc (plain_len flow (is_white b) bs))) (b ∷ bs)))
      by_stop false e k = k
      by_stop true e k = absurd (cc)

-- where a scalar ends, at an ASCII byte or at the text's end
pub end_of : (text : List ℕ) (at end : ℕ) → at < end → end ≤ length text → (end < length text → slice_index text end < 128) → IsEndOf text at end
end_of text at end l m a = (l, m, (m, λ n h. absurd (omega (arith, a n, h))))
