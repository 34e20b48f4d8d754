-- Rules in the order of their nodes: what is picked from an order of a graph stands in front of nothing that it reaches.
use Rattle.std.proofs.Common.{◌≡◌, ◌≢◌, ◌↔◌, ℕ, ◌+◌, ◌-◌, ◌<◌, inl, inr, Bool, true, false, refl, ap, sym, ◌∙◌, subst, List, [], ◌∷◌, ◌++◌, length, get_or, take, drop, set, arith, replicate}
use Rattle.std.specs.List.{AllPairs, Contains}
use Rattle.std.proofs.lemmas.List.{length-append, length_push, get_or_append_left, get_or_push, get_or_default, take_at, drop_at}
use Rattle.std.proofs.lemmas.List.Elements.{Contains-push, Contains-push_cases, Contains-append_left, Contains-get_or}
use Rattle.std.proofs.lemmas.List.Quantifiers.{all_pairs_push}
use Rattle.guard_syntax.specs.Syntax.{File}
use Rattle.rule_names.specs.Graphs.{IsOrder}
use Rattle.rule_names.specs.code.Marks.{IsMarked}
use Rattle.rule_names.specs.code.Order.{AreRulesInOrder, IsOrderOf, RuleReaches, default_site, plain_sites}
use Rattle.rule_names.specs.Pieces.{AreInOrder}
use Rattle.rule_names.specs.ReferenceGraph.{graph_of}
use Rattle.rule_names.proofs.NameCycles.{nodes-of}
use Rattle.rule_names.proofs.PlainRules.{apart-once, plain-once, plain-within, same-counts}
use Rattle.name_table.specs.code.Picked.{IsInFront, ArePicked}
use Rattle.reference_graph.proofs.Marking.{mark-here, mark-kept, mark-only, none-marked, not-in-none}
use Rattle.reference_graph.proofs.OnCycle.{reach-before}

-- ---- marks at some sites

abbrev pub AreMarksAt : List Bool → List ℕ → Type 0
AreMarksAt marks sites = (a : ℕ) → IsMarked marks a ↔ Contains sites a

pub no-marks : (n : ℕ) → AreMarksAt (replicate n false) []
no-marks n a = ((λ h. absurd (none-marked n a h)), (λ h. absurd (not-in-none a h)))

pub marks-more : (marks : List Bool) (sites : List ℕ) (t : ℕ) → t < length marks → AreMarksAt marks sites → AreMarksAt (set marks t true) (sites ++ t ∷ [])
marks-more marks sites t within are a = (
  (λ h. elim (mark-only marks t a h) [
    | inl old ↦ Contains-append_left sites (t ∷ []) a ((are a).0 old)
    | inr e ↦ subst (Contains (sites ++ t ∷ [])) e (Contains-push sites t)
  ]),
  (λ h. elim (Contains-push_cases sites t a h) [
    | inl old ↦ mark-kept marks t a within ((are a).1 old)
    | inr e ↦ subst (IsMarked (set marks t true)) e (mark-here marks t within)
  ]),
)

-- ---- sites that are picked from nodes, node by node

module _ (count : ℕ) (marks : List Bool) where
  pub picked-none : ArePicked count marks [] []
  picked-none = record {
    which = λ site. ((λ h. absurd (not-in-none site h)), (λ h. absurd (not-in-none (count + site) h.0)));
    following = λ i j d l m. absurd (omega (arith, m));
  }

  module _ (nodes sites : List ℕ) (x : ℕ) (are : ArePicked count marks nodes sites) where
    in-front-still : (a b : ℕ) → IsInFront nodes a b → IsInFront (nodes ++ x ∷ []) a b
    in-front-still a b (i, j, l, m, at, at') =
        let longer = length_push nodes x in (
          i,
          j,
          l,
          omega (arith, m, longer),
          get_or_append_left nodes (x ∷ []) 0 i (omega (arith, l, m)) ∙ at,
          get_or_append_left nodes (x ∷ []) 0 j m ∙ at',
        )

    in-front-now : (a : ℕ) → Contains nodes a → IsInFront (nodes ++ x ∷ []) a x
    in-front-now a h =
        let j = h.0 in
        let l : j < length nodes = h.1 in
        let longer = length_push nodes x in (
          j,
          length nodes,
          l,
          omega arith,
          get_or_append_left nodes (x ∷ []) 0 j l ∙ get_or_default nodes j 0 a l ∙ h.2,
          get_or_push nodes x 0 (length nodes) refl,
        )

    -- a node whose site is marked
    pub picked-more : (s : ℕ) → count + s ≡ x → IsMarked marks s → ArePicked count marks (nodes ++ x ∷ []) (sites ++ s ∷ [])
    picked-more s is marked = record {
      which = λ site. (
        (λ h. elim (Contains-push_cases sites s site h) [
          | inl old ↦ let both = (are.which site).0 old in (Contains-append_left nodes (x ∷ []) (count + site) both.0, both.1)
          | inr e ↦ (
            subst (λ (n : ℕ). Contains (nodes ++ x ∷ []) (count + n)) e (subst (Contains (nodes ++ x ∷ [])) (sym is) (Contains-push nodes x)),
            subst (IsMarked marks) e marked,
          )
        ]),
        (λ h. elim (Contains-push_cases nodes x (count + site) h.0) [
          | inl old ↦ Contains-append_left sites (s ∷ []) site ((are.which site).1 (old, h.1))
          | inr e ↦ let same : s ≡ site = omega (arith, is, e) in subst (Contains (sites ++ s ∷ [])) same (Contains-push sites s)
        ]),
      );
      following = all_pairs_push (λ a b. IsInFront (nodes ++ x ∷ []) (count + a) (count + b)) sites s
          (λ i j d l m. in-front-still (count + get_or sites i d) (count + get_or sites j d) (are.following i j d l m))
          (λ k d l.
          let there = ((are.which (get_or sites k d)).0 (Contains-get_or sites k d l)).0 in
          subst (IsInFront (nodes ++ x ∷ []) (count + get_or sites k d)) (sym is) (in-front-now (count + get_or sites k d) there));
    }

    -- any other node
    pub picked-passed : ((s : ℕ) → count + s ≡ x → IsMarked marks s → ⊥) → ArePicked count marks (nodes ++ x ∷ []) sites
    picked-passed other = record {
      which = λ site. (
        (λ h. let both = (are.which site).0 h in (Contains-append_left nodes (x ∷ []) (count + site) both.0, both.1)),
        (λ h. elim (Contains-push_cases nodes x (count + site) h.0) [
          | inl old ↦ (are.which site).1 (old, h.1)
          | inr e ↦ absurd (other site (sym e) h.1)
        ]),
      );
      following = λ i j d l m. in-front-still (count + get_or sites i d) (count + get_or sites j d) (are.following i j d l m);
    }

-- ---- rules in the order of their nodes

module _ (f : File) (order : AreInOrder f) (nodes sites : List ℕ) (marks : List Bool) (all : IsOrder (graph_of f) nodes) (at_plain : AreMarksAt marks (plain_sites f.rules)) (are : ArePicked (length f.places) marks nodes sites) where
  apart : AllPairs (λ a b. a ≢ b) sites
  apart i j d l m e =
      let (x, y, low, within, at, at') = are.following i j d l m in
      all.once x y 0 low within (at ∙ ap (λ (n : ℕ). length f.places + n) e ∙ sym at')

  never-reached : AllPairs (λ a b. RuleReaches f a b → ⊥) sites
  never-reached i j d l m r =
      let (x, y, low, within, at, at') = are.following i j d l m in
      let there = reach-before (graph_of f) nodes all.behind (length f.places + get_or sites i d) (length f.places + get_or sites j d) x (omega (arith, low, within)) at r in
      let below : there.0 < x = there.1 in
      all.once there.0 y 0 (omega (arith, below, low)) within (there.2 ∙ sym at')

  plain-picked : (site : ℕ) → Contains (plain_sites f.rules) site → Contains sites site
  plain-picked site h =
      let within = plain-within f order site h in
      let size = nodes-of f in
      (are.which site).1 (all.all (length f.places + site) (omega (arith, within, size)), (at_plain site).1 h)

  pub rules-ordered : AreRulesInOrder f sites
  rules-ordered = record {
    each = same-counts sites (plain_sites f.rules) (λ x. apart-once sites x apart) (plain-once f order) (λ x h. (at_plain x).0 ((are.which x).0 h).1) plain-picked;
    behind = never-reached;
  }

-- ---- and `default` last

pub with-last : (f : File) (sites order : List ℕ) → AreRulesInOrder f sites → order ≡ sites ++ default_site f.loose → IsOrderOf f order
with-last f sites order are is =
    let last = default_site f.loose in
    let long : length order ≡ length sites + length last = ap (λ (l : List ℕ). length l) is ∙ length-append sites last in
    let front : length sites ≡ length order - length last = omega arith in
    record {
      rules = subst (AreRulesInOrder f) (sym (ap (take (length order - length last)) is ∙ take_at sites last (length order - length last) front)) are;
      last = ap (drop (length order - length last)) is ∙ drop_at sites last (length order - length last) front;
    }
