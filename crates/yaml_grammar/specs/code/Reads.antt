-- What the reader's calls say of a step, each where a step may begin: what it gives, and in which other texts.
use Rattle.std.specs.Prelude.{ℕ, ◌+◌, ◌*◌, ◌≡◌, true, false, List, Result}
use Rattle.doc_values.specs.Unfinished.{Unfinished}
use Rattle.yaml_grammar.specs.declared.ahead.Ahead.{Ahead}
use Rattle.yaml_grammar.specs.declared.form.Form.{Form}
use Rattle.yaml_grammar.specs.declared.stage.Position.{Position}
use Rattle.yaml_grammar.specs.declared.stage.Stage.TheVariants as stage
use Rattle.yaml_grammar.specs.declared.stop.Stop.{Stop}
use Rattle.yaml_grammar.specs.Nodes.{setting_of, starts_scalar}
use Rattle.yaml_grammar.specs.code.Extends.{ExtendsValue, Leaves}
use Rattle.yaml_grammar.specs.code.Feeds.{Opening}
use Rattle.yaml_grammar.specs.code.ReadAgain.{NoneBehind, OnSign, SignStays}
use Rattle.yaml_grammar.specs.code.Rest.{Awaits, Ends, Inside}
use Rattle.yaml_grammar.specs.code.Splits.{InRoom, RunsOn}
use Rattle.yaml_grammar.specs.code.Steps.{Awaited, Gives, IsCalm, IsSeen, SameKey, SameNode}
use Rattle.yaml_grammar.specs.code.Twins.{FixesEnd, FixesNode, Lengthens, LengthensAt, NoLine, NoValue, OnUnread, Stops}

-- the root, or the value behind `-` or a key
pub record ValueRead (text : List ℕ) (f : Form) (i : ℕ) (a : Ahead) (fs : List Form) (u : Unfinished) (gs : List Form) (w : Unfinished) (r : Result Position Stop) : Type 0 where
  pub gives : (other : List ℕ) → Awaited other fs u f i a → SameNode text other f i a → Gives other (Awaits other fs u.outer u.done u.key i) (2 * i + 1) gs w r
  pub fixes : FixesNode text f i a r
  pub opens : Opening gs r
  pub stops : Stops text i (NoValue i a f fs u) r
  pub longer : Lengthens text stage.Value fs u i r
  pub extends : ExtendsValue text fs u i gs w r
  pub again : starts_scalar a.token ≡ true → SignStays text stage.Value fs u i r

-- a line behind a complete node outside of brackets
pub record LineRead (text : List ℕ) (i : ℕ) (a : Ahead) (fs : List Form) (u : Unfinished) (gs : List Form) (w : Unfinished) (r : Result Position Stop) : Type 0 where
  pub gives : (other : List ℕ) → IsSeen other false i a → Inside other i → IsCalm other u i → SameKey text other a → Gives other (Ends other fs u.outer u.done i) (2 * i + 2) gs w r
  pub fixes : FixesEnd text i a r
  pub opens : Opening gs r
  pub stops : Stops text i (NoLine i a fs u) r
  pub longer : Lengthens text stage.After fs u i r
  pub leaves : Leaves r
  pub again : starts_scalar a.token ≡ true → OnSign (NoneBehind text fs u i) r

-- a scalar where no key stands, of which a part may still be told apart: where reading stops, it may run on
pub record ScalarRead (text : List ℕ) (f : Form) (i : ℕ) (a : Ahead) (fs : List Form) (u : Unfinished) (w : Unfinished) (r : Result Position Stop) : Type 0 where
  pub gives : (other : List ℕ) → Awaited other fs u f i a → SameNode text other f i a → Gives other (Awaits other fs u.outer u.done u.key i) (2 * i + 1) fs w r
  pub fixes : FixesNode text f i a r
  pub opens : Opening fs r
  pub stops : Stops text i (NoValue i a f fs u) r
  pub longer : OnUnread (InRoom text u f i a (LengthensAt text stage.Value fs u i)) r
  pub runs : OnUnread (RunsOn text false (setting_of f) a) r
  pub extends : ExtendsValue text fs u i fs w r
  pub again : SignStays text stage.Value fs u i r
