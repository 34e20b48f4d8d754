-- What the reader's calls say of a step between brackets: what it gives, and in which other texts.
use Rattle.std.specs.Prelude.{ℕ, ◌+◌, ◌*◌, ◌≡◌, true, false, List, Result}
use Rattle.std.specs.Str.{IsCharBoundary}
use Rattle.doc_values.specs.Unfinished.{Unfinished}
use Rattle.yaml_grammar.specs.declared.ahead.Ahead.{Ahead}
use Rattle.yaml_grammar.specs.declared.form.Form.{Form}
use Rattle.yaml_grammar.specs.declared.form.Form.TheVariants.{Flow}
use Rattle.yaml_grammar.specs.declared.stage.Position.{Position}
use Rattle.yaml_grammar.specs.declared.stage.Stage.TheVariants as stage
use Rattle.yaml_grammar.specs.declared.stop.Stop.{Stop}
use Rattle.yaml_grammar.specs.Ahead.{ahead}
use Rattle.yaml_grammar.specs.Nodes.{setting_of, starts_scalar}
use Rattle.yaml_grammar.specs.code.Extends.{Shuts}
use Rattle.yaml_grammar.specs.code.Feeds.{FeedsEntry, FeedsFlowKey, FeedsFlowNode, FeedsSeen}
use Rattle.yaml_grammar.specs.code.ReadAgain.{NoneAwaited, OnSign, SignStays}
use Rattle.yaml_grammar.specs.code.Rest.{Awaits, Ends, Enters}
use Rattle.yaml_grammar.specs.code.Splits.{InRoom, RunsOn}
use Rattle.yaml_grammar.specs.code.Steps.{Gives, IsSeen, SameFlowKey, SameFlowNode, has_keys}
use Rattle.yaml_grammar.specs.code.Twins.{FixesEntry, FixesFlowKey, FixesFlowNode, FixesSeen, Lengthens, MendsNode, NoEntry, NoFlowValue, NoTail, OnUnread, Stops}

-- a node between brackets, or behind a tag there
pub record FlowValueRead (text : List ℕ) (f : Form) (i : ℕ) (a : Ahead) (fs : List Form) (u : Unfinished) (gs : List Form) (w : Unfinished) (r : Result Position Stop) : Type 0 where
  pub gives : (other : List ℕ) → IsSeen other true i a → SameFlowNode text other f i a → Gives other (Awaits other fs u.outer u.done u.key i) (2 * i + 2) gs w r
  pub fixes : FixesFlowNode text f i a r
  pub feeds : FeedsFlowNode text f i a r
  pub shuts : Shuts text i gs r
  pub stops : Stops text i (NoFlowValue i a fs u) r
  pub longer : OnUnread (MendsNode text fs u i) r
  pub again : starts_scalar a.token ≡ true → OnSign (NoneAwaited text fs u i) r

-- a scalar there, of which a part may still be told apart
pub record FlowScalarRead (text : List ℕ) (f : Form) (i : ℕ) (a : Ahead) (fs : List Form) (u : Unfinished) (w : Unfinished) (r : Result Position Stop) : Type 0 where
  pub gives : (other : List ℕ) → IsSeen other true i a → SameFlowNode text other f i a → Gives other (Awaits other fs u.outer u.done u.key i) (2 * i + 2) fs w r
  pub fixes : FixesFlowNode text f i a r
  pub feeds : FeedsFlowNode text f i a r
  pub shuts : Shuts text i fs r
  pub stops : Stops text i (NoFlowValue i a fs u) r
  pub longer : OnUnread (InRoom text u f i a (MendsNode text fs u i)) r
  pub runs : OnUnread (RunsOn text true (setting_of f) a) r
  pub again : OnSign (NoneAwaited text fs u i) r

-- the value of a key or of a tag there, or that it is null
pub record FlowNodeRead (text : List ℕ) (f : Form) (i : ℕ) (fs : List Form) (u : Unfinished) (gs : List Form) (w : Unfinished) (r : Result Position Stop) : Type 0 where
  pub gives : (other : List ℕ) → IsSeen other true i (ahead text true i) → IsCharBoundary other i → SameFlowNode text other f i (ahead text true i) → Gives other (Awaits other fs u.outer u.done u.key i) (2 * i + 1) gs w r
  pub fixes : FixesFlowNode text f i (ahead text true i) r
  pub feeds : FeedsFlowNode text f i (ahead text true i) r
  pub shuts : Shuts text i gs r
  pub stops : Stops text i (NoFlowValue i (ahead text true i) fs u) r
  pub longer : Lengthens text stage.Value fs u i r
  pub again : starts_scalar (ahead text true i).token ≡ true → OnSign (NoneAwaited text fs u i) r

-- a key of a map there
pub record KeyRead (text : List ℕ) (i : ℕ) (a : Ahead) (fs : List Form) (u : Unfinished) (gs : List Form) (w : Unfinished) (r : Result Position Stop) : Type 0 where
  pub gives : (other : List ℕ) → IsSeen other true i a → SameFlowKey text other a → Gives other (Enters other fs u.outer u.done i) (2 * i + 2) gs w r
  pub fixes : FixesFlowKey text i a r
  pub feeds : FeedsFlowKey text i a r
  pub shuts : Shuts text i gs r
  pub stops : Stops text i (NoEntry i a fs u) r
  pub longer : Lengthens text stage.Entry fs u i r
  pub again : starts_scalar a.token ≡ true → SignStays text stage.Entry fs u i r

-- an entry or the closing bracket
pub record EntryRead (text : List ℕ) (f : Form) (i : ℕ) (fs : List Form) (u : Unfinished) (gs : List Form) (w : Unfinished) (r : Result Position Stop) : Type 0 where
  pub gives : (other : List ℕ) → IsSeen other true i (ahead text true i) → (has_keys f ≡ true → SameFlowKey text other (ahead text true i)) → (has_keys f ≡ false → SameFlowNode text other (Flow false) i (ahead text true i)) → Gives other (Enters other fs u.outer u.done i) (2 * i + 2) gs w r
  pub fixes : FixesEntry text (has_keys f) i (ahead text true i) r
  pub feeds : FeedsEntry text (has_keys f) i (ahead text true i) r
  pub shuts : Shuts text i gs r
  pub stops : Stops text i (NoEntry i (ahead text true i) fs u) r
  pub longer : Lengthens text stage.Entry fs u i r
  pub again : starts_scalar (ahead text true i).token ≡ true → SignStays text stage.Entry fs u i r

-- what follows a complete node there
pub record TailRead (text : List ℕ) (i : ℕ) (fs : List Form) (u : Unfinished) (gs : List Form) (w : Unfinished) (r : Result Position Stop) : Type 0 where
  pub gives : (other : List ℕ) → IsSeen other true i (ahead text true i) → Gives other (Ends other fs u.outer u.done i) (2 * i + 2) gs w r
  pub fixes : FixesSeen text i r
  pub feeds : FeedsSeen text i r
  pub shuts : Shuts text i gs r
  pub stops : Stops text i (NoTail i (ahead text true i) fs u) r
  pub longer : Lengthens text stage.After fs u i r
