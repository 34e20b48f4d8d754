-- A text with its quotes escaped, cut at the first quote; by induction on the text.
use Rattle.std.proofs.Common.{◌≡◌, ℕ, suc, ◌+◌, ◌<◌, not, cond, List, [], ◌∷◌, ◌++◌, length, take, drop, refl, sym, ap, ◌∙◌, arith, inl, inr, append_assoc}
use Rattle.std.specs.Prelude.{◌==◌}
use Rattle.std.specs.List.{position_or_len, before_first, after_first}
use Rattle.std.proofs.lemmas.Str.{encode_ascii}
use lib.Utf8.{encode}
use Rattle.guard_lexer.proofs.Lists.{tested, same_byte, on_true, on_false}
use Rattle.rule_spelling.specs.Spelling.{escaped}

abbrev cut_at : ℕ → List ℕ → ℕ → List ℕ
cut_at q text n = take n text ++ (92 ∷ q ∷ escaped q (drop (n + 1) text))

pub escaped_cut : (q : ℕ) (text : List ℕ) → position_or_len (λ b. b == q) text < length text → escaped q text ≡ before_first (λ b. b == q) text ++ (92 ∷ q ∷ escaped q (after_first (λ b. b == q) text))
escaped_cut q [] h = absurd (omega arith)
escaped_cut q (b ∷ text) h = elim (tested (b == q)) [
  | inl t ↦
      let z : position_or_len (λ c. c == q) (b ∷ text) ≡ 0 = ap (λ v. cond (not v) (1 + position_or_len (λ c. c == q) text) 0) t in
      on_true (b == q) (92 ∷ b ∷ escaped q text) (b ∷ escaped q text) t ∙ ap (λ x. 92 ∷ x ∷ escaped q text) (same_byte b q t) ∙ sym (ap (cut_at q (b ∷ text)) z)
  | inr t ↦
      let n : ℕ = position_or_len (λ c. c == q) text in
      let one : 1 + n ≡ suc n = omega arith in
      let z : position_or_len (λ c. c == q) (b ∷ text) ≡ suc n = ap (λ v. cond (not v) (1 + n) 0) t ∙ one in
      let next : suc n + 1 ≡ suc (n + 1) = omega arith in
      on_false (b == q) (92 ∷ b ∷ escaped q text) (b ∷ escaped q text) t ∙ ap (λ x. b ∷ x) (escaped_cut q text (omega arith))
      ∙ sym (ap (λ k. (b ∷ take n text) ++ (92 ∷ q ∷ escaped q (drop k (b ∷ text)))) next) ∙ sym (ap (cut_at q (b ∷ text)) z)
]

pub escaped_none : (q : ℕ) (text : List ℕ) → position_or_len (λ b. b == q) text ≡ length text → escaped q text ≡ text
escaped_none q [] h = refl
escaped_none q (b ∷ text) h = elim (tested (b == q)) [
  | inl t ↦
      let z : position_or_len (λ c. c == q) (b ∷ text) ≡ 0 = ap (λ v. cond (not v) (1 + position_or_len (λ c. c == q) text) 0) t in
      let n : 0 ≡ suc (length text) = sym z ∙ h in absurd (omega arith)
  | inr t ↦
      let n : ℕ = position_or_len (λ c. c == q) text in
      let z : position_or_len (λ c. c == q) (b ∷ text) ≡ 1 + n = ap (λ v. cond (not v) (1 + n) 0) t in
      let less : n ≡ length text = let m : 1 + n ≡ suc (length text) = sym z ∙ h in omega arith in
      on_false (b == q) (92 ∷ b ∷ escaped q text) (b ∷ escaped q text) t ∙ ap (λ x. b ∷ x) (escaped_none q text less)
]

-- what a turn of the loop adds: the text before a quote, a backslash and the quote
pub turn : (q : ℕ) (out before slash quote text front behind : List ℕ) → q < 128 → before ≡ out ++ front → slash ≡ before ++ encode 92 → quote ≡ slash ++ encode q →
    front ≡ before_first (λ b. b == q) text → behind ≡ after_first (λ b. b == q) text → position_or_len (λ b. b == q) text < length text → quote ++ escaped q behind ≡ out ++ escaped q text
turn q out before slash quote text front behind small e f g h i j =
    let a : slash ≡ (out ++ front) ++ (92 ∷ []) = f ∙ ap (λ x. before ++ x) (encode_ascii 92 (omega arith)) ∙ ap (λ x. x ++ (92 ∷ [])) e in
    let b : quote ≡ ((out ++ front) ++ (92 ∷ [])) ++ (q ∷ []) = g ∙ ap (λ x. slash ++ x) (encode_ascii q small) ∙ ap (λ x. x ++ (q ∷ [])) a in
    let k : escaped q text ≡ front ++ (92 ∷ q ∷ escaped q behind) = escaped_cut q text j ∙ ap (λ x. x ++ (92 ∷ q ∷ escaped q (after_first (λ b. b == q) text))) (sym h) ∙ ap (λ x. front ++ (92 ∷ q ∷ escaped q x)) (sym i) in
    ap (λ x. x ++ escaped q behind) b ∙ append_assoc ((out ++ front) ++ (92 ∷ [])) (q ∷ []) (escaped q behind) ∙ append_assoc (out ++ front) (92 ∷ []) (q ∷ escaped q behind)
    ∙ append_assoc out front (92 ∷ q ∷ escaped q behind) ∙ ap (λ x. out ++ x) (sym k)
