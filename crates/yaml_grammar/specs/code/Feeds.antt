-- Texts with a further line that begins with a bracket or a comma: what is found between brackets is found there too.
use Rattle.std.specs.Prelude.{ℕ, ◌≡◌, ◌<◌, Bool, true, false, List, ◌∷◌, ◌++◌, Result, Ok, Err}
use Rattle.yaml_scalars.specs.Lines.{ends_with}
use Rattle.yaml_scalars.specs.Plain.{is_flow_mark}
use Rattle.yaml_grammar.specs.declared.ahead.Ahead.{Ahead}
use Rattle.yaml_grammar.specs.declared.form.Form.{Form}
use Rattle.yaml_grammar.specs.declared.form.Form.TheVariants.{Flow}
use Rattle.yaml_grammar.specs.declared.stage.Stage.{Stage}
use Rattle.yaml_grammar.specs.declared.stage.Stage.TheVariants as stage
use Rattle.yaml_grammar.specs.declared.stage.Position.{Position}
use Rattle.yaml_grammar.specs.declared.stop.Stop.{Stop}
use Rattle.yaml_grammar.specs.Ahead.{ahead}
use Rattle.yaml_grammar.specs.code.Rest.{top}
use Rattle.yaml_grammar.specs.code.Steps.{IsBlock, IsFlow, SameFlowNode, SameFlowKey, SameStep}

-- another text is this one with such a line behind it
abbrev pub IsFed : List ℕ → List ℕ → Type 0
IsFed text other = (c : ℕ) × (tail : List ℕ) × (is_flow_mark c ≡ true) × (other ≡ text ++ (10 ∷ c ∷ tail))

-- where reading goes on, and no carriage return ends the text: what holds of each such text
abbrev pub Feeds : List ℕ → (List ℕ → Type 0) → Result Position Stop → Type 0
Feeds text holds (Ok p) = ends_with 13 text ≡ false → (other : List ℕ) → IsFed text other → holds other
Feeds text holds (Err e) = Unit {0}

-- the same is ahead, and what was found there is there
abbrev pub FeedsSeen : List ℕ → ℕ → Result Position Stop → Type 0
FeedsSeen text i r = Feeds text (λ other. ahead other true i ≡ ahead text true i) r

abbrev pub FeedsFlowNode : List ℕ → Form → ℕ → Ahead → Result Position Stop → Type 0
FeedsFlowNode text f i a r = Feeds text (λ other. (ahead other true i ≡ ahead text true i) × SameFlowNode text other f i a) r

abbrev pub FeedsFlowKey : List ℕ → ℕ → Ahead → Result Position Stop → Type 0
FeedsFlowKey text i a r = Feeds text (λ other. (ahead other true i ≡ ahead text true i) × SameFlowKey text other a) r

abbrev pub FeedsEntry : List ℕ → Bool → ℕ → Ahead → Result Position Stop → Type 0
FeedsEntry text map i a r = Feeds text (λ other. (ahead other true i ≡ ahead text true i) × (map ≡ true → SameFlowKey text other a) × (map ≡ false → SameFlowNode text other (Flow false) i a)) r

-- outside of brackets a step goes on between brackets only behind the one that opens them
abbrev pub Opening : List Form → Result Position Stop → Type 0
Opening gs (Ok p) = (p.stage ≡ stage.Whole → ⊥) → IsFlow (top gs) → (p.stage ≡ stage.Entry) × (0 < p.at)
Opening gs (Err e) = Unit {0}

abbrev pub FeedsStep : List ℕ → Stage → Form → ℕ → List Form → Result Position Stop → Type 0
FeedsStep text s f i gs r = (IsFlow f → Feeds text (λ other. SameStep text other s f i) r) × (IsBlock f → Opening gs r)
