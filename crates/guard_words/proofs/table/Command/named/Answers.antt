use Rattle.std.proofs.Common.{◌≡◌, ℕ, Bool, true, false, List, Option, None, cond, refl, sym}
use Rattle.std.specs.Str.{bytes_eq}
use Rattle.std.proofs.lemmas.Slice.Eq.{bytes_eq-Decides}
use Rattle.guard_words.specs.declared.table.Command.{Command}
use Rattle.guard_words.proofs.table.Command.named.Goals as goal

-- a name that is another one is not in the first row
passed_over : (row name : List ℕ) (command others : Option Command) → (name ≡ row → ⊥) → None ≡ others → None ≡ cond (bytes_eq row name) command others
passed_over row name command others other none = by_test (bytes_eq row name) refl
  where
    by_test : (b : Bool) → bytes_eq row name ≡ b → None ≡ cond b command others
    by_test true is = absurd (other (sym ((bytes_eq-Decides row name).0 is)))
    by_test false is = none

pub returns-in_default : goal.returns-in_default
returns-in_default c =
    passed_over _ _ _ _ c.in_default.not-validate
    (passed_over _ _ _ _ c.in_default.not-check
    (passed_over _ _ _ _ c.in_default.not-drill
    (passed_over _ _ _ _ c.in_default.not-test
    (passed_over _ _ _ _ c.in_default.not-rulegen
    (passed_over _ _ _ _ c.in_default.not-text refl)))))
