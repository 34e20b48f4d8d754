-- What may follow at a position follows in each text that is the same as far as it is settled how the position was come to: for an entry or a value that is nearer than what is ahead. By the steps of the reader.
use Rattle.std.proofs.Common.{◌≡◌, ℕ, ◌≤◌, Bool, true, false, ◌&&◌, cond, List, [], drop, length, refl, sym, subst, true≢false, arith}
use Rattle.std.specs.Prelude.{Ok}
use Rattle.std.specs.Str.{IsCharBoundary, IsUtf8}
use Rattle.doc_values.specs.Unfinished.{Unfinished, start}
use Rattle.yaml_grammar.specs.declared.form.Form.{Form}
use Rattle.yaml_grammar.specs.declared.form.Form.TheVariants.{Root, Flow, FlowTagged, Items, Entries, Tagged}
use Rattle.yaml_grammar.specs.declared.stage.Stage.TheVariants as stage
use Rattle.yaml_grammar.specs.declared.stage.Position.{Position}
use Rattle.yaml_grammar.specs.Signs.{Tree}
use Rattle.yaml_grammar.specs.Ahead.{ahead}
use Rattle.yaml_grammar.specs.Yaml.{IsStart, IsYaml}
use Rattle.yaml_grammar.specs.code.AheadSeen.{ahead_seen, is_told}
use Rattle.yaml_grammar.specs.code.Extends.{begins_firm, root_seen}
use Rattle.yaml_grammar.specs.code.Rest.{top}
use Rattle.yaml_grammar.specs.code.Closers.{in_flow}
use Rattle.yaml_grammar.specs.code.Feeds.{FeedsStep}
use Rattle.yaml_grammar.specs.code.Steps.{is_ending, IsBlock, IsFlow, Rest, Fits, SameStep, Goes, reached}
use Rattle.yaml_grammar.specs.code.Twins.{IsTwin, settled, Alive, FixesStart, FixesRoot, FixesStep}
use Rattle.yaml_grammar.proofs.Lives.{Lives, lives_first}
use Rattle.yaml_grammar.proofs.RootLonger.{root_least, told_calm, firm_alive}
use Rattle.yaml_grammar.proofs.Settled.{settled_least, settled_turn}

-- of the root it is told by what is ahead that there is one
abbrev pub LivesOn : List ℕ → Position → List Form → Unfinished → Type 0
LivesOn text p fs u = (p.stage ≡ stage.Whole → ⊥) → (place : ℕ) (other : List ℕ) → IsTwin text place other → settled text (in_flow (top fs)) p.stage p.at ≤ place → (fs ≡ [] → IsStart text p.at → root_seen text p.at ≤ place) → Alive other (IsYaml other) fs u p

pub lives_of : (text : List ℕ) (p : Position) (fs : List Form) (u : Unfinished) → p.at ≤ length text → LivesOn text p fs u → Lives text p fs u
lives_of text p fs u low lives = λ goes place other m near. lives goes place other m (let z = settled_least text (in_flow (top fs)) p.stage p.at low in omega (arith, z, near)) (λ e s. let r = root_least text p.at in omega (arith, r, near))

pub on_first : (text : List ℕ) (i : ℕ) (fs : List Form) (w : Unfinished) (p : Position) → IsUtf8 text → FixesStart text i → FixesRoot text i w (Ok p) → fs ≡ [] → IsStart text i → IsCharBoundary text i → p.at ≡ i → (is_ending (ahead text false i).token ≡ false → (p.stage ≡ stage.Value) × (w ≡ start)) → LivesOn text p fs w
on_first text i fs w p utf8 s r e begun cut there going = λ goes place other m near far.
    by_firm goes place other m (is_told (ahead text false i).token) (begins_firm (drop (ahead text false i).at text)) refl refl (subst (λ n. root_seen text n ≤ place) there (far e (subst (IsStart text) (sym there) begun))) where
      by_firm : (p.stage ≡ stage.Whole → ⊥) → (place : ℕ) (other : List ℕ) → IsTwin text place other → (q b : Bool) → is_told (ahead text false i).token ≡ q → begins_firm (drop (ahead text false i).at text) ≡ b
          → cond (q && b) (ahead text false i).at (ahead_seen text i) ≤ place → Alive other (IsYaml other) fs w p
      by_firm goes place other m true true t f near =
          let g = going (told_calm (ahead text false i).token t).0 in
          subst (λ z. Alive other (IsYaml other) z w p) (sym e) (firm_alive text place other m utf8 i cut t f near w p begun g.0 there g.1)
      by_firm goes place other m true false t f near = lives_first text i fs w p s r e goes place other m (subst (λ n. ahead_seen text n ≤ place) (sym there) near)
      by_firm goes place other m false b t f near = lives_first text i fs w p s r e goes place other m (subst (λ n. ahead_seen text n ≤ place) (sym there) near)

pub flow_is : (f : Form) → in_flow f ≡ true → IsFlow f
flow_is Root e = absurd (true≢false (sym e))
flow_is (Flow map) e = tt
flow_is (FlowTagged at) e = tt
flow_is (Items m) e = absurd (true≢false (sym e))
flow_is (Entries m) e = absurd (true≢false (sym e))
flow_is (Tagged at above shares) e = absurd (true≢false (sym e))

pub block_is : (f : Form) → in_flow f ≡ false → IsBlock f
block_is Root e = tt
block_is (Flow map) e = absurd (true≢false e)
block_is (FlowTagged at) e = absurd (true≢false e)
block_is (Items m) e = tt
block_is (Entries m) e = tt
block_is (Tagged at above shares) e = tt

pub on_next : (text : List ℕ) (p q : Position) (fs gs : List Form) (u w : Unfinished) → p.at ≤ length text → LivesOn text p fs u → (p.stage ≡ stage.Whole → ⊥) → FixesStep text p.stage (top fs) p.at (Ok q) → FeedsStep text p.stage (top fs) p.at gs (Ok q)
    → ((other : List ℕ) → (place : ℕ) → IsTwin text place other → IsCharBoundary other p.at → Fits other p.stage fs u p.at → SameStep text other p.stage (top fs) p.at → Goes other (Rest other p.stage fs u p.at) (reached p.stage p.at) gs w q) → LivesOn text q gs w
on_next text p q fs gs u w low lives open_ fixes feeds gives = λ goes place other m near far.
    let turn = settled_turn text (in_flow (top fs)) (in_flow (top gs)) q.stage q.at (λ b f. (feeds.1 (block_is (top fs) b) goes (flow_is (top gs) f)).0) in
    let s = fixes goes place other m (omega (arith, turn, near)) in
    let from = s.0 in
    let a = lives open_ place other m (let z = settled_least text (in_flow (top fs)) p.stage p.at low in omega (arith, z, from)) (λ e s. let r = root_least text p.at in omega (arith, r, from)) in
    let g = gives other place m a.2 a.1 s.1 in
    (((λ t h. let x = a.0.0 t h in (x.0, (g.0 (Tree x.0)).0 x.1)), (λ y h. a.0.1 y ((g.0 (Tree y)).1 h))), g.1, g.2)
