-- The names of a file have one fault at most, and none where they are as they must be.
use Rattle.std.proofs.Common.{◌≡◌, ◌⊎◌, ℕ, ◌+◌, ◌-◌, ◌*◌, length, Option, Some, None, IsNone, inl, inr, sym, ap, ◌∙◌, subst, arith}
use Rattle.std.proofs.lemmas.Bool.{cases_lt}
use Rattle.guard_syntax.specs.Syntax.{File}
use Rattle.rule_names.specs.declared.name_kind.NameKind.{NameKind}
use Rattle.rule_names.specs.Cycles.{IsFirstUse, IsCycle, IsRecursionFault, IsAcyclic, given_text, use_place}
use Rattle.rule_names.specs.Deep.{deep_fault}
use Rattle.rule_names.specs.Faults.{Fault}
use Rattle.rule_names.specs.Graphs.{Graph, IsFirstOnCycle, NoneOnCycle}
use Rattle.rule_names.specs.WellNamed.{single_fault, IsNameFault, WellNamed}
use Rattle.rule_names.specs.Pieces.{piece_at}
use Rattle.rule_names.specs.ReferenceGraph.{graph_of}

node-one : (g : Graph) (low high a b : ℕ) → IsFirstOnCycle g low high a → IsFirstOnCycle g low high b → a ≡ b
node-one g low high a b first other = elim (cases_lt a b) [
  | inl less ↦ absurd (other.least a first.from_low less first.cycle)
  | inr most ↦ elim (cases_lt b a) [
    | inl less ↦ absurd (first.least b other.from_low less other.cycle)
    | inr least ↦ omega arith
  ]
]

use-one : (f : File) (node a b : ℕ) → IsFirstUse f node a → IsFirstUse f node b → a ≡ b
use-one f node a b one other = elim (cases_lt a b) [
  | inl less ↦ absurd (other.first a less one.use_there)
  | inr most ↦ elim (cases_lt b a) [
    | inl less ↦ absurd (one.first b less other.use_there)
    | inr least ↦ omega arith
  ]
]

cycle-one : (kind : NameKind) (f : File) (low : ℕ) (a b : Fault) → IsCycle kind f low a → IsCycle kind f low b → a ≡ b
cycle-one kind f low a b (node, site, first, used, is) (node', site', first', used', is') =
    let same : node ≡ node' = node-one (graph_of f) low (low + length f.places) node node' first first' in
    let same_use : site ≡ site' = use-one f node site site' used (subst (λ n. IsFirstUse f n site') (sym same) used') in
    is
    ∙ ap (λ n. let fault : Fault = record { kind = kind; named = record { text = given_text (piece_at f (n - low)); at = use_place f site } } in fault) same
    ∙ ap (λ n. let fault : Fault = record { kind = kind; named = record { text = given_text (piece_at f (node' - low)); at = use_place f n } } in fault) same_use
    ∙ sym is'

cycle-there : (kind : NameKind) (f : File) (low : ℕ) (a : Fault) → IsCycle kind f low a → NoneOnCycle (graph_of f) low (low + length f.places) → ⊥
cycle-there kind f low a (node, site, first, used, is) none = none node first.from_low first.below_high first.cycle

pub recursion-one : (f : File) (a b : Fault) → IsRecursionFault f a → IsRecursionFault f b → a ≡ b
recursion-one f a b (inl x) (inl y) = cycle-one _ f (length f.places) a b x y
recursion-one f a b (inl x) (inr (none, y)) = absurd (cycle-there _ f (length f.places) a x (λ n from below. none n from (omega arith)))
recursion-one f a b (inr (none, x)) (inl y) = absurd (cycle-there _ f (length f.places) b y (λ n from below. none n from (omega arith)))
recursion-one f a b (inr (none, x)) (inr (none', y)) = cycle-one _ f (2 * length f.places) a b x y

pub recursion-apart : (f : File) (a : Fault) → IsRecursionFault f a → IsAcyclic f → ⊥
recursion-apart f a (inl x) none = cycle-there _ f (length f.places) a x (λ n from below. none n from (omega arith))
recursion-apart f a (inr (rules, x)) none = cycle-there _ f (2 * length f.places) a x (λ n from below. none n (omega arith) (omega arith))

-- a rule or a variable reaches itself, or none does and an item is too deep
abbrev Later : File → Fault → Type 0
Later f fault = IsRecursionFault f fault ⊎ (IsAcyclic f × (deep_fault f ≡ Some fault))

none-some : (o : Option Fault) (a : Fault) → IsNone o → o ≡ Some a → ⊥
none-some None a none is = absurd cc
none-some (Some b) a none is = absurd cc

some-one : (a b : Fault) → ◌≡◌ {A = Option Fault} (Some a) (Some b) → a ≡ b
some-one a b is = cc

-- what follows where no single name is wrong
later-one : (f : File) (a b : Fault) → Later f a → Later f b → a ≡ b
later-one f a b (inl x) (inl y) = recursion-one f a b x y
later-one f a b (inl x) (inr (none, y)) = absurd (recursion-apart f a x none)
later-one f a b (inr (none, x)) (inl y) = absurd (recursion-apart f b y none)
later-one f a b (inr (none, x)) (inr (none', y)) = some-one a b (sym x ∙ y)

pub one-fault : (f : File) (a b : Fault) → IsNameFault f a → IsNameFault f b → a ≡ b
one-fault f a b (inl x) (inl y) = some-one a b (sym x ∙ y)
one-fault f a b (inl x) (inr (none, y)) = absurd (none-some (single_fault f) a none x)
one-fault f a b (inr (none, x)) (inl y) = absurd (none-some (single_fault f) b none y)
one-fault f a b (inr (none, x)) (inr (none', y)) = later-one f a b x y

later-apart : (f : File) (a : Fault) → Later f a → WellNamed f → ⊥
later-apart f a (inl x) named = recursion-apart f a x named.cycles
later-apart f a (inr (none, x)) named = none-some (deep_fault f) a named.shallow x

pub fault-apart : (f : File) (a : Fault) → IsNameFault f a → WellNamed f → ⊥
fault-apart f a (inl x) named = none-some (single_fault f) a named.singles x
fault-apart f a (inr (none, x)) named = later-apart f a x named
