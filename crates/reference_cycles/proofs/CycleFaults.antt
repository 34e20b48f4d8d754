-- The graph of a file: a name that reaches itself makes a fault.
use Rattle.std.proofs.Common.{◌≡◌, ℕ, ◌+◌, ◌-◌, ◌*◌, ◌<◌, ◌≤◌, inl, inr, ap, sym, ◌∙◌, subst, arith, length}
use Rattle.std.proofs.lemmas.Bool.{cases_lt}
use Rattle.guard_syntax.specs.Syntax.{File}
use Rattle.rule_names.specs.declared.name_kind.NameKind.{NameKind}
use Rattle.rule_names.specs.Cycles.{IsFirstUse, IsCycle, given_text, use_place}
use Rattle.rule_names.specs.Faults.{Fault}
use Rattle.rule_names.specs.Graphs.{Graph, Names, Reaches, IsFirstOnCycle, NoneOnCycle}
use Rattle.reference_graph.specs.code.Subgraphs.{IsLeast, IsPartUse}
use Rattle.rule_names.specs.Pieces.{AreInOrder, piece_at}
use Rattle.rule_names.specs.ReferenceGraph.{graph_of}
use Rattle.reference_graph.proofs.PartUses.{cycle-used}
use Rattle.reference_cycles.proofs.EdgesToParts.{to-parts, graph-length}

-- the first use of a name, and a fault that says so
abbrev pub SaysUse : NameKind → File → (low node : ℕ) → Fault → Type 0
SaysUse kind f low node fault =
    (site : ℕ) × IsFirstUse f node site × (fault ≡ record { kind = kind; named = record { text = given_text (piece_at f (node - low)); at = use_place f site } })

module _ (f : File) (g : Graph) (is : g ≡ graph_of f) where
  pub graph-size : length g ≡ 3 * length f.places
  graph-size = ap (λ (h : Graph). length h) is ∙ graph-length f

  pub used : (count node : ℕ) → AreInOrder f → count ≡ length f.places → count ≤ node → Reaches g node node → (p : ℕ) × (p < count) × IsPartUse count g node p
  used count node order same name cycle =
      cycle-used g count node name
      (λ a b n l.
      let below = to-parts f order a b (subst (λ (h : Graph). Names h a b) is n) (omega arith) in
      omega arith)
      cycle

  pub first-use : (count node site : ℕ) → count ≡ length f.places → IsLeast (λ k. IsPartUse count g node k) count site → IsFirstUse f node site
  first-use count node site same least = record {
    use_there = subst (λ (n : ℕ). IsPartUse n (graph_of f) node site) same (subst (λ (h : Graph). IsPartUse count h node site) is least.here);
    first = λ other l u.
        least.before other l (subst (λ (h : Graph). IsPartUse count h node other) (sym is) (subst (λ (n : ℕ). IsPartUse n (graph_of f) node other) (sym same) u));
  }

  pub none-on : (low high from to : ℕ) → low ≡ from → high ≡ to → NoneOnCycle g low high → NoneOnCycle (graph_of f) from to
  none-on low high from to e h none a l m r = none a (omega arith) (omega arith) (subst (λ (k : Graph). Reaches k a a) (sym is) r)

  pub fault-of : (kind : NameKind) (low high from : ℕ) (node : ℕ) (fault : Fault) → low ≡ from → high ≡ from + length f.places → IsFirstOnCycle g low high node → SaysUse kind f low node fault → IsCycle kind f from fault
  fault-of kind low high from node fault e h first says = (
    node,
    says.0,
    record {
      from_low = (let l = first.from_low in omega arith);
      below_high = (let l = first.below_high in omega arith);
      cycle = subst (λ (k : Graph). Reaches k node node) is first.cycle;
      least = λ b l m r. first.least b (omega arith) m (subst (λ (k : Graph). Reaches k b b) (sym is) r);
    },
    says.1,
    says.2 ∙ ap (λ (n : ℕ). let made : Fault = record { kind = kind; named = record { text = given_text (piece_at f (node - n)); at = use_place f says.0 } } in made) e,
  )

-- where none is in either half, none is at all
pub none-in-halves : (g : Graph) (n : ℕ) → NoneOnCycle g n (2 * n) → NoneOnCycle g (2 * n) (3 * n) → NoneOnCycle g n (3 * n)
none-in-halves g n first second a l m r = elim (cases_lt a (2 * n)) [ inl low ↦ first a l low r | inr high ↦ second a high m r ]
