-- The forms of the open collections as a stack: the last of them is the first.
use Rattle.std.proofs.Common.{◌≡◌, suc, ◌-◌, List, [], ◌∷◌, ◌++◌, length, refl, sym, ap, ◌∙◌, arith, Some}
use Rattle.std.specs.Prelude.{slice_get}
use Rattle.yaml_grammar.specs.declared.form.Form.{Form}
use Rattle.yaml_grammar.specs.code.Rest.{top}
use Rattle.yaml_grammar.specs.code.Steps.{stack_on, stack}

pushed_on : (fs gs : List Form) (f : Form) → stack_on fs (gs ++ (f ∷ [])) ≡ f ∷ stack_on fs gs
pushed_on fs [] f = refl
pushed_on fs (g ∷ gs) f = pushed_on (g ∷ fs) gs f

-- one more, or one taken off
pub stack_grown : (new old : List Form) (f : Form) → new ≡ old ++ (f ∷ []) → stack new ≡ f ∷ stack old
stack_grown new old f e = ap stack e ∙ pushed_on [] old f

top_on : (fs gs : List Form) (f : Form) → slice_get gs (length gs - 1) ≡ Some f → top (stack_on fs gs) ≡ f
top_on fs [] f h = absurd (cc)
top_on fs (g ∷ []) f h = let e : g ≡ f = cc in e
top_on fs (g ∷ h ∷ gs) f q = let e : length (g ∷ h ∷ gs) - 1 ≡ suc (length (h ∷ gs) - 1) = omega arith in top_on (g ∷ fs) (h ∷ gs) f (ap (slice_get (g ∷ h ∷ gs)) (sym e) ∙ q)

pub top_last : (gs : List Form) (f : Form) → slice_get gs (length gs - 1) ≡ Some f → top (stack gs) ≡ f
top_last gs f h = top_on [] gs f h
