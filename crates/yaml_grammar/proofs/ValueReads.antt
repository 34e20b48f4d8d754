-- What is said of a step that ends for want of memory; and a token that begins no scalar.
use Rattle.std.proofs.Common.{◌≡◌, ℕ, true, false, List, subst, sym, ap, ◌∙◌, true≢false}
use Rattle.std.specs.Prelude.{Err}
use Rattle.doc_values.specs.Unfinished.{Unfinished}
use Rattle.yaml_grammar.specs.declared.ahead.Ahead.{Ahead}
use Rattle.yaml_grammar.specs.declared.ahead.Token.{Token}
use Rattle.yaml_grammar.specs.declared.form.Form.{Form}
use Rattle.yaml_grammar.specs.declared.stop.Stop.{Stop}
use Rattle.yaml_grammar.specs.declared.stop.Stop.TheVariants.{NoMemory}
use Rattle.yaml_grammar.specs.Nodes.{starts_scalar}
use Rattle.yaml_grammar.specs.code.Reads.{LineRead, ValueRead}

-- a token that begins no scalar
pub begins-none : (t u : Token) → t ≡ u → starts_scalar u ≡ false → starts_scalar t ≡ true → ⊥
begins-none t u is none h = true≢false (sym h ∙ ap starts_scalar is ∙ none)

-- without memory nothing is said
module _ (e : Stop) (none : e ≡ NoMemory) (text : List ℕ) (i : ℕ) (a : Ahead) (fs : List Form) (u : Unfinished) (gs : List Form) (w : Unfinished) where
  pub value-none : (f : Form) → ValueRead text f i a fs u gs w (Err e)
  value-none f = subst (λ d. ValueRead text f i a fs u gs w (Err d)) (sym none) (record { gives = λ other v same. tt; fixes = tt; opens = tt; stops = tt; longer = tt; extends = tt; again = λ h. tt })

  pub line-none : LineRead text i a fs u gs w (Err e)
  line-none = subst (λ d. LineRead text i a fs u gs w (Err d)) (sym none) (record { gives = λ other v within calm same. tt; fixes = tt; opens = tt; stops = tt; longer = tt; leaves = tt; again = λ h. tt })
