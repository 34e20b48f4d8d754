-- What the reader's calls say of a step wherever it begins, and of what follows a complete node outside of brackets.
use Rattle.std.specs.Prelude.{ℕ, ◌+◌, ◌*◌, ◌≡◌, true, false, List, Result}
use Rattle.std.specs.Str.{IsCharBoundary, IsUtf8}
use Rattle.doc_values.specs.Unfinished.{Unfinished}
use Rattle.yaml_grammar.specs.declared.form.Form.{Form}
use Rattle.yaml_grammar.specs.declared.stage.Position.{Position}
use Rattle.yaml_grammar.specs.declared.stage.Stage.TheVariants as stage
use Rattle.yaml_grammar.specs.declared.stage.Stage.{Stage}
use Rattle.yaml_grammar.specs.declared.stop.Stop.{Stop}
use Rattle.yaml_grammar.specs.Ahead.{ahead}
use Rattle.yaml_grammar.specs.Nodes.{starts_scalar}
use Rattle.yaml_grammar.specs.code.Closers.{in_flow}
use Rattle.yaml_grammar.specs.code.Extends.{ExtendsStep, Leaves}
use Rattle.yaml_grammar.specs.code.Feeds.{FeedsStep, Opening}
use Rattle.yaml_grammar.specs.code.ReadAgain.{NoneBehind, OnSign, SignStays}
use Rattle.yaml_grammar.specs.code.Rest.{Ends, top}
use Rattle.yaml_grammar.specs.code.Steps.{Fits, Gives, IsCalm, IsSeen, Rest, SameEnd, SameKey, SameStep, reached}
use Rattle.yaml_grammar.specs.code.Twins.{FixesEnd, FixesStep, Lengthens, NoLine, Stops, StopsStep}

-- what follows a complete node outside of brackets: an end of the document too
pub record EndRead (text : List ℕ) (i : ℕ) (fs : List Form) (u : Unfinished) (gs : List Form) (w : Unfinished) (r : Result Position Stop) : Type 0 where
  pub gives : (other : List ℕ) → SameEnd text other i → IsSeen other false i (ahead text false i) → IsCharBoundary other i → IsCalm other u i → SameKey text other (ahead text false i) → Gives other (Ends other fs u.outer u.done i) (2 * i + 2) gs w r
  pub fixes : FixesEnd text i (ahead text false i) r
  pub opens : Opening gs r
  pub stops : Stops text i (NoLine i (ahead text false i) fs u) r
  pub longer : Lengthens text stage.After fs u i r
  pub leaves : Leaves r
  pub again : starts_scalar (ahead text false i).token ≡ true → OnSign (NoneBehind text fs u i) r

-- a step, by where reading stands
pub record StepRead (text : List ℕ) (s : Stage) (i : ℕ) (fs : List Form) (u : Unfinished) (gs : List Form) (w : Unfinished) (r : Result Position Stop) : Type 0 where
  pub gives : (other : List ℕ) → IsUtf8 other → IsCharBoundary other i → Fits other s fs u i → SameStep text other s (top fs) i → Gives other (Rest other s fs u i) (reached s i) gs w r
  pub fixes : FixesStep text s (top fs) i r
  pub feeds : FeedsStep text s (top fs) i gs r
  pub stops : StopsStep text s fs u i r
  pub longer : Lengthens text s fs u i r
  pub extends : ExtendsStep text s fs u i gs w r
  pub again : starts_scalar (ahead text (in_flow (top fs)) i).token ≡ true → SignStays text s fs u i r
