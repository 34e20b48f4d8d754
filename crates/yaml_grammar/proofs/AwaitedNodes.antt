-- What is known of a node that is awaited outside of flow, by its form and what is ahead of it.
use Rattle.std.proofs.Common.{◌≡◌, ℕ, ◌+◌, ◌≤◌, Bool, true, false, List, [], ◌∷◌, length, refl, subst, arith}
use Rattle.yaml_scalars.specs.code.Limits.{text_limit}
use Rattle.doc_values.specs.Unfinished.{Unfinished, AwaitsValue}
use Rattle.yaml_grammar.specs.declared.ahead.Ahead.{Ahead}
use Rattle.yaml_grammar.specs.declared.form.Form.{Form}
use Rattle.yaml_grammar.specs.declared.stage.Stage.TheVariants as stage
use Rattle.yaml_grammar.specs.code.Rest.{top}
use Rattle.yaml_grammar.specs.code.Steps.{IsSeen, IsSmall, IsBehind, Nests, Fits, Awaited}

nested_small : (f : Form) (fs : List Form) → top fs ≡ f → Nests fs → IsSmall f
nested_small f [] e n = subst IsSmall e tt
nested_small f (g ∷ fs) e n = subst IsSmall e n.1

pub seen_place : (text : List ℕ) (i : ℕ) (a : Ahead) → IsSeen text false i a → a.at ≤ length text
seen_place text i a (e, (p, b, d, s, column, first)) = b.0

by_fresh : (b : Bool) (i at column : ℕ) → (b ≡ true → column ≤ at) → (b ≡ false → at ≡ i + column) → column ≤ at
by_fresh true i at column p q = p refl
by_fresh false i at column p q = let e = q refl in omega (arith, e)

seen_column : (text : List ℕ) (i : ℕ) (a : Ahead) → IsSeen text false i a → a.column ≤ a.at
seen_column text i a (e, (p, b, d, s, column, first)) = by_fresh a.fresh i a.at a.column column.0 column.1

fits_value : (text : List ℕ) (fs : List Form) (u : Unfinished) (i : ℕ) → Fits text stage.Value fs u i → AwaitsValue u
fits_value text fs u i (o, n, w, l, k) = w

fits_behind : (text : List ℕ) (fs : List Form) (u : Unfinished) (i : ℕ) → Fits text stage.Value fs u i → IsBehind (top fs) i
fits_behind text fs u i (o, n, w, l, k) = l

fits_nested : (text : List ℕ) (fs : List Form) (u : Unfinished) (i : ℕ) → Fits text stage.Value fs u i → Nests fs
fits_nested text fs u i (o, n, w, l, k) = o.1

-- what is ahead of a place of a short text stands near
pub seen_near : (text : List ℕ) (i : ℕ) (a : Ahead) → length text ≤ text_limit → IsSeen text false i a → a.at ≤ text_limit
seen_near text i a small seen = let within = seen_place text i a seen in omega (arith, within, small)

module _ (text : List ℕ) (fs : List Form) (u : Unfinished) (f : Form) (i : ℕ) (a : Ahead) (w : Awaited text fs u f i a) where
  pub small_form : IsSmall f
  small_form = nested_small f fs w.form (fits_nested text fs u i w.fits)

  pub small_place : a.at ≤ text_limit
  small_place = w.small

  pub column_before : a.column ≤ a.at
  column_before = seen_column text i a w.seen

  pub value_awaited : AwaitsValue u
  value_awaited = fits_value text fs u i w.fits

  pub place_behind : IsBehind f i
  place_behind = subst (λ g. IsBehind g i) w.form (fits_behind text fs u i w.fits)
