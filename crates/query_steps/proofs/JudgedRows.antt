-- Rows that a loop adds of judged values: what is made so far, and what is kept of those that are left.
use Rattle.std.proofs.Common.{◌≡◌, ℕ, ◌+◌, ◌<◌, ◌≤◌, Bool, true, false, List, [], ◌∷◌, ◌++◌, length, drop, get_or, add-one, append_assoc, ap, sym, ◌∙◌, if◌then◌else◌}
use Rattle.std.proofs.Math.Seq.{drop-cons}
use Rattle.std.proofs.lemmas.List.{append-nil, drop_all}
use Rattle.guard_syntax.specs.declared.row.Ref.{Ref}
use Rattle.guard_syntax.specs.declared.row.Row.{Row}
use Rattle.guard_syntax.specs.declared.row.Row.TheVariants.{Found}
use Rattle.guard_syntax.specs.declared.row.Verdict.{Verdict}
use Rattle.rule_meaning.specs.Filters.{kept}
use Rattle.rule_meaning.specs.Verdicts.{is_pass}

kept-first : (b : Bool) (r : Ref) (made left : List Row) → (made ++ (if b then Found r ∷ [] else [])) ++ left ≡ made ++ (if b then Found r ∷ left else left)
kept-first true r made left = append_assoc made (Found r ∷ []) left
kept-first false r made left = ap (λ (rows : List Row). rows ++ left) (append-nil made)

-- one value more
pub judged-more : (tried : List Ref) (vs : List Verdict) (i : ℕ) (d : Ref) (e : Verdict) (made new all : List Row) (b : Bool) → i < length tried → i < length vs → b ≡ is_pass (get_or vs i e)
    → made ++ kept (drop i tried) (drop i vs) ≡ all → new ≡ made ++ (if b then Found (get_or tried i d) ∷ [] else []) → new ++ kept (drop (i + 1) tried) (drop (i + 1) vs) ≡ all
judged-more tried vs i d e made new all b within known is were put =
    let r = get_or tried i d in
    let v = get_or vs i e in
    let left = kept (drop (i + 1) tried) (drop (i + 1) vs) in
    let value : drop i tried ≡ r ∷ drop (i + 1) tried = drop-cons tried i d within ∙ ap (λ n. r ∷ drop n tried) (sym (add-one i)) in
    let verdict : drop i vs ≡ v ∷ drop (i + 1) vs = drop-cons vs i e known ∙ ap (λ n. v ∷ drop n vs) (sym (add-one i)) in
    ap (λ (rows : List Row). rows ++ left) put ∙ kept-first b r made left
    ∙ ap (λ (passes : Bool). made ++ (if passes then Found r ∷ left else left)) is
    ∙ ap (λ (rs : List Ref). made ++ kept rs (v ∷ drop (i + 1) vs)) (sym value)
    ∙ ap (λ (ws : List Verdict). made ++ kept (drop i tried) ws) (sym verdict)
    ∙ were

-- all values
pub judged-all : (tried : List Ref) (vs : List Verdict) (i : ℕ) (made all : List Row) → length tried ≤ i → made ++ kept (drop i tried) (drop i vs) ≡ all → made ≡ all
judged-all tried vs i made all past were =
    sym (append-nil made) ∙ ap (λ (rs : List Ref). made ++ kept rs (drop i vs)) (sym (drop_all i tried past)) ∙ were
