-- Whether something holds of the one thing that is given; verdicts that are the same, and emptiness, as the code tests them.
use Rattle.std.proofs.Common.{◌≡◌, true, false, Bool, List, [], ap, sym, subst, ◌∙◌, MatchBool, rules, arith, length, true≢false}
use Rattle.std.proofs.lemmas.Bool.Decides.{nat_tests}
use Rattle.std.proofs.lemmas.List.{nil_from_length}
use Rattle.std.specs.Prelude.{◌==◌}
use denote.Enum.Bare.{sameb, same_false, same_true}
use Rattle.guard_syntax.specs.contracts.row.Verdict.{the_type}
use Rattle.guard_syntax.specs.declared.row.Verdict.{Verdict}

pub decide-given : {A : Type 0} (Gives Then : A → Type 0) (x : A) (r : Bool) → ((y : A) → Gives y → y ≡ x) → Gives x
    → MatchBool r (Then x) (Then x → ⊥) → MatchBool r ((y : A) × Gives y × Then y) (((y : A) × Gives y × Then y) → ⊥)
decide-given Gives Then x true once gives is = (x, gives, is)
decide-given Gives Then x false once gives never = λ g. never (subst Then (once g.0 g.1) g.2)

-- whether two verdicts are the same
pub same-verdicts : (r : Bool) (v w : Verdict) → r ≡ sameb the_type v w → MatchBool r (v ≡ w) (v ≡ w → ⊥)
same-verdicts true v w e = same_true the_type (search rules) v w (sym e)
same-verdicts false v w e = same_false the_type v w (sym e)

-- emptiness as the code tests it
pub is-none : {X : Type 0} (xs : List X) (b : Bool) → b ≡ (length xs == 0) → b ≡ true → xs ≡ []
is-none xs b is holds_is = nil_from_length xs (let test : (length xs == 0) ≡ true = sym is ∙ holds_is in grind (arith, nat_tests, test))

pub is-some : {X : Type 0} (xs : List X) (b : Bool) → b ≡ (length xs == 0) → b ≡ false → xs ≡ [] → ⊥
is-some {X = X} xs b is fails none = true≢false (sym (is ∙ ap (λ (ys : List X). length ys == 0) none) ∙ fails)
