-- A filter whose verdicts come from a judge keeps, at each found value, the candidates that are judged PASS.
use Rattle.std.proofs.Common.{◌≡◌, List, [], ◌∷◌, ◌++◌, length, drop, map, Bool, true, false, refl, sym, ap, ◌∙◌, if◌then◌else◌}
use Rattle.std.proofs.Math.Seq.{drop-append_seam}
use Rattle.std.proofs.lemmas.List.{map-append, length-map}
use Rattle.std.specs.List.{filter, flat_map}
use Rattle.guard_syntax.specs.declared.row.Ref.{Ref}
use Rattle.guard_syntax.specs.declared.row.Row.{Row}
use Rattle.guard_syntax.specs.declared.row.Row.TheVariants.{Found, Missing, Unmade}
use Rattle.guard_syntax.specs.declared.row.Verdict.{Verdict}
use Rattle.rule_meaning.specs.StoreModel.{StoreModel}
use Rattle.rule_meaning.specs.Filters.{candidates_of, candidates_in, kept, filtered}
use Rattle.rule_meaning.specs.Steps.{on_found}
use Rattle.rule_meaning.specs.Verdicts.{is_pass}

-- the candidates of a value that a judge lets pass
abbrev pub passed_at : StoreModel → (after_key : Bool) → (Ref → Verdict) → Ref → List Row
passed_at known after_key judge v = map Found (filter (λ r. is_pass (judge r)) (candidates_of known after_key v))

kept-by : (passes : Bool) (r : Ref) (rows others : List Ref) (left : List Row) → left ≡ map Found others
    → (if passes then Found r ∷ left else left) ≡ map Found (if passes then r ∷ others else others)
kept-by true r rows others left e = ap (λ xs. Found r ∷ xs) e
kept-by false r rows others left e = e

-- verdicts of a judge, and others behind them
pub kept-judged : (judge : Ref → Verdict) (rs : List Ref) (vs : List Verdict)
    → kept rs (map judge rs ++ vs) ≡ map Found (filter (λ r. is_pass (judge r)) rs)
kept-judged judge [] vs = refl
kept-judged judge (r ∷ rs) vs =
    kept-by (is_pass (judge r)) r rs (filter (λ x. is_pass (judge x)) rs) (kept rs (map judge rs ++ vs)) (kept-judged judge rs vs)

drop-judged : (judge : Ref → Verdict) (rs : List Ref) (vs : List Verdict) → drop (length rs) (map judge rs ++ vs) ≡ vs
drop-judged judge rs vs = ap (λ n. drop n (map judge rs ++ vs)) (sym (length-map rs judge)) ∙ drop-append_seam (map judge rs) vs

pub filtered-judged : (known : StoreModel) (after_key : Bool) (judge : Ref → Verdict) (rows : List Row)
    → filtered known after_key rows (map judge (candidates_in known after_key rows)) ≡ flat_map (on_found (passed_at known after_key judge)) rows
filtered-judged known after_key judge [] = refl
filtered-judged known after_key judge (Found v ∷ rows) =
    let mine : List Ref = candidates_of known after_key v in
    let behind : List Ref = candidates_in known after_key rows in
    ap (λ (vs : List Verdict). kept mine vs ++ filtered known after_key rows (drop (length mine) vs)) (map-append judge mine behind)
    ∙ (ap (λ (kept_here : List Row). kept_here ++ filtered known after_key rows (drop (length mine) (map judge mine ++ map judge behind))) (kept-judged judge mine (map judge behind))
    ∙ ap (λ (others : List Row). passed_at known after_key judge v ++ others)
    (ap (filtered known after_key rows) (drop-judged judge mine (map judge behind)) ∙ filtered-judged known after_key judge rows))
filtered-judged known after_key judge (Missing v site ∷ rows) = ap (λ (others : List Row). Missing v site ∷ others) (filtered-judged known after_key judge rows)
filtered-judged known after_key judge (Unmade call ∷ rows) = ap (λ (others : List Row). Unmade call ∷ others) (filtered-judged known after_key judge rows)
