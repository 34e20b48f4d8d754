-- What is between quotes, with a backslash before each of them, ends at the last and is read as it was; by induction on the text.
use Rattle.std.proofs.Common.{◌≡◌, ◌≢◌, ℕ, true, false, List, [], ◌∷◌, ◌++◌, refl, sym, ap, ◌∙◌, subst, inl, inr, ◌&&◌}
use Rattle.std.specs.Prelude.{◌==◌}
use Rattle.std.proofs.lemmas.Bool.{true≢false}
use Rattle.guard_lexer.specs.Forms.{Closes}
use Rattle.guard_lexer.proofs.Lists.{tested, same_byte, other_byte, is_byte, not_byte, on_true, on_false}
use Rattle.literal_parser.specs.Lexemes.{unquoted}
use Rattle.rule_spelling.specs.Spelling.{escaped, ends_in_backslash}
use Rattle.rule_spelling.specs.code.Pieces.{begins_with}

-- the text behind the opening quote
abbrev pub closed_text : ℕ → List ℕ → List ℕ
closed_text q text = escaped q text ++ (q ∷ [])

quote_more : (q b : ℕ) (text : List ℕ) → (b == q) ≡ true → closed_text q (b ∷ text) ≡ 92 ∷ q ∷ closed_text q text
quote_more q b text e = ap (λ x. x ++ (q ∷ [])) (on_true (b == q) (92 ∷ b ∷ escaped q text) (b ∷ escaped q text) e) ∙ ap (λ x. 92 ∷ x ∷ closed_text q text) (same_byte b q e)

byte_more : (q b : ℕ) (text : List ℕ) → (b == q) ≡ false → closed_text q (b ∷ text) ≡ b ∷ closed_text q text
byte_more q b text e = ap (λ x. x ++ (q ∷ [])) (on_false (b == q) (92 ∷ b ∷ escaped q text) (b ∷ escaped q text) e)

-- ---- a byte that is no quote and escapes none

step_closes : (q b : ℕ) (body : List ℕ) → b ≢ q → (b ≡ 92 → begins_with q body ≡ false) → Closes q body → Closes q (b ∷ body)
step_closes q b [] n k h = absurd h
step_closes q b (c ∷ bs) n k h = inr (n, (λ e. other_byte c q (k e)), h)

step_read : (q b : ℕ) (body : List ℕ) → (b ≡ 92 → begins_with q body ≡ false) → Closes q body → unquoted q (b ∷ body) ≡ b ∷ unquoted q body
step_read q b [] k h = absurd h
step_read q b (c ∷ bs) k h = elim (tested (b == 92)) [
  | inl t ↦ on_false (b == 92 && c == q) (q ∷ unquoted q bs) (b ∷ unquoted q (c ∷ bs)) (ap (λ v. v && c == q) t ∙ k (same_byte b 92 t))
  | inr t ↦ on_false (b == 92 && c == q) (q ∷ unquoted q bs) (b ∷ unquoted q (c ∷ bs)) (ap (λ v. v && c == q) t)
]

-- a backslash, and behind it a text that does not end in one, escapes no quote
front_is : (q : ℕ) (text : List ℕ) → q ≢ 92 → ends_in_backslash (92 ∷ text) ≡ false → begins_with q (closed_text q text) ≡ false
front_is q [] n e = absurd (true≢false e)
front_is q (c ∷ text) n e = elim (tested (c == q)) [
  | inl t ↦ ap (begins_with q) (quote_more q c text t) ∙ not_byte 92 q (λ h. n (sym h))
  | inr t ↦ ap (begins_with q) (byte_more q c text t) ∙ t
]

behind_first : (b : ℕ) (text : List ℕ) → ends_in_backslash (b ∷ text) ≡ false → ends_in_backslash text ≡ false
behind_first b [] e = refl
behind_first b (c ∷ text) e = e

apart : (q b : ℕ) (text : List ℕ) → q ≢ 92 → ends_in_backslash (b ∷ text) ≡ false → b ≡ 92 → begins_with q (closed_text q text) ≡ false
apart q b text n e h = front_is q text n (subst (λ x. ends_in_backslash (x ∷ text) ≡ false) h e)

pub closes : (q : ℕ) (text : List ℕ) → q ≢ 92 → ends_in_backslash text ≡ false → Closes q (closed_text q text)
closes q [] n e = refl
closes q (b ∷ text) n e = elim (tested (b == q)) [
  | inl t ↦ subst (Closes q) (sym (quote_more q b text t)) (inl (refl, refl, closes q text n (behind_first b text e)))
  | inr t ↦ subst (Closes q) (sym (byte_more q b text t)) (step_closes q b (closed_text q text) (other_byte b q t) (apart q b text n e) (closes q text n (behind_first b text e)))
]

pub reads : (q : ℕ) (text : List ℕ) → q ≢ 92 → ends_in_backslash text ≡ false → unquoted q (closed_text q text) ≡ text
reads q [] n e = refl
reads q (b ∷ text) n e = elim (tested (b == q)) [
  | inl t ↦
      ap (unquoted q) (quote_more q b text t) ∙ on_true (92 == 92 && q == q) (q ∷ unquoted q (closed_text q text)) (92 ∷ unquoted q (q ∷ closed_text q text)) (is_byte q q refl)
      ∙ ap (λ x. q ∷ x) (reads q text n (behind_first b text e)) ∙ ap (λ x. x ∷ text) (sym (same_byte b q t))
  | inr t ↦
      ap (unquoted q) (byte_more q b text t) ∙ step_read q b (closed_text q text) (apart q b text n e) (closes q text n (behind_first b text e))
      ∙ ap (λ x. b ∷ x) (reads q text n (behind_first b text e))
]
