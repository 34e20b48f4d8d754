-- What stands behind a key, and where its value is awaited.
use Rattle.std.proofs.Common.{◌≡◌, ℕ, ◌+◌, ◌<◌, ◌≤◌, inl, inr, Bool, true, false, ◌||◌, List, [], ◌∷◌, drop, length, get_or, nat_eq, refl, sym, ap, ◌∙◌, subst, true≢false, arith}
use Rattle.std.specs.Str.{IsCharBoundary}
use Rattle.std.proofs.lemmas.List.{get_or-drop, length-drop}
use Rattle.yaml_scalars.specs.Scalar.{begins_quoted}
use Rattle.yaml_grammar.specs.declared.ahead.Ahead.{Ahead}
use Rattle.yaml_grammar.specs.declared.ahead.Token.TheVariants.{Point}
use Rattle.yaml_grammar.specs.Ahead.{ahead}
use Rattle.yaml_grammar.specs.Flow.{ends_key, IsColon}
use Rattle.yaml_grammar.specs.code.Steps.{IsSeen, IsPlaced}

abbrev Stood : List ℕ → Bool → ℕ → ℕ → Type 0
Stood text quoted end p = IsColon text quoted end p × IsCharBoundary text p × (end ≤ p)

pub colon_behind : (text : List ℕ) (quoted : Bool) (end : ℕ) (next : Ahead) (loose : Bool) → IsSeen text true end next → next.token ≡ Point loose → (loose || quoted) ≡ true → Stood text quoted end next.behind
colon_behind text quoted end next loose (e, pl) c q =
    subst (λ a. IsPlaced text end a → a.token ≡ Point loose → Stood text quoted end a.behind) (sym e) (λ p d. (inl (loose, d, q, refl), p.2, omega (arith, p.0, p.3))) pl c

pub colon_tight : (text : List ℕ) (quoted : Bool) (end : ℕ) (next : Ahead) (loose : Bool) → next ≡ ahead text true end → next.token ≡ Point loose → (loose || quoted) ≡ false → (p : ℕ) → IsColon text quoted end p → ⊥
colon_tight text quoted end next loose e c q p (inl (l, d, h, g)) =
    let here : Point l ≡ Point loose = sym d ∙ sym (ap (λ a. a.token) e) ∙ c in
    let same : l ≡ loose = cc in
    true≢false (sym h ∙ ap (λ b. b || quoted) same ∙ q)
colon_tight text quoted end next loose e c q p (inr (m, g)) = true≢false (sym m ∙ ap ends_key (sym (ap (λ a. a.token) e) ∙ c))

pub colon_missing : (text : List ℕ) (quoted : Bool) (end : ℕ) (next : Ahead) → next ≡ ahead text true end → IsCharBoundary text end → ends_key next.token ≡ true → Stood text quoted end end
colon_missing text quoted end next e b c = (inr (subst (λ a. ends_key a.token ≡ true) e c, refl), b, omega arith)

pub no_colon_there : (text : List ℕ) (quoted : Bool) (end : ℕ) (next : Ahead) → next ≡ ahead text true end → ((l : Bool) → next.token ≡ Point l → ⊥) → ends_key next.token ≡ false → (p : ℕ) → IsColon text quoted end p → ⊥
no_colon_there text quoted end next e x y p (inl (l, d, h, g)) = x l (ap (λ a. a.token) e ∙ d)
no_colon_there text quoted end next e x y p (inr (m, g)) = true≢false (sym (ap (λ a. ends_key a.token) e ∙ m) ∙ y)

-- a quote is told by the byte there
quoted_first : (xs : List ℕ) → 0 < length xs → begins_quoted xs ≡ (nat_eq (get_or xs 0 0) 34 || nat_eq (get_or xs 0 0) 39)
quoted_first [] l = absurd (omega (arith, l))
quoted_first (x ∷ xs) l = refl

pub quoted_at : (bytes : List ℕ) (at : ℕ) → at < length bytes → begins_quoted (drop at bytes) ≡ (nat_eq (get_or bytes at 0) 34 || nat_eq (get_or bytes at 0) 39)
quoted_at bytes at l =
    quoted_first (drop at bytes) (omega (arith, l, length-drop at bytes))
    ∙ ap (λ b. nat_eq b 34 || nat_eq b 39) (get_or-drop at bytes 0 0 ∙ (let z : at + 0 ≡ at = omega arith in ap (λ k. get_or bytes k 0) z))
