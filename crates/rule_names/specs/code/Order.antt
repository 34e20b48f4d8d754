-- The rules that have a verdict, and the orders in which they can be judged one after another.
use Rattle.std.specs.Prelude.{ℕ, ◌≡◌, ◌==◌, ◌-◌, List, [], ◌∷◌, ◌++◌, length, take, drop}
use Rattle.std.specs.List.{AllPairs, count_by}
use Rattle.guard_syntax.specs.Named.{Named}
use Rattle.guard_syntax.specs.Syntax.{Rule, File, Disjs, no_disjs, more_disjs}
use Rattle.rule_names.specs.Graphs.{Reaches}
use Rattle.rule_names.specs.ReferenceGraph.{graph_of, rule_node}

-- the site of a rule without parameters
abbrev pub site_if_plain : ℕ → List Named → List ℕ
site_if_plain site [] = site ∷ []
site_if_plain site (p ∷ ps) = []

-- the sites of the rules without parameters, in the order of the file
abbrev pub plain_sites : List Rule → List ℕ
plain_sites [] = []
plain_sites (r ∷ rs) = site_if_plain r.site r.params ++ plain_sites rs

-- the site of `default`, which is there exactly where parts stand outside rules
abbrev pub default_site : Disjs → List ℕ
default_site no_disjs = []
default_site (more_disjs d ds) = 0 ∷ []

-- a rule reaches another, by their sites: by references and calls that stand anywhere in its conditions or its body, or in what a variable means that is used there
abbrev pub RuleReaches : File → ℕ → ℕ → Type 0
RuleReaches f a b = Reaches (graph_of f) (rule_node f.rules (length f.places) a) (rule_node f.rules (length f.places) b)

-- the rules without parameters stand in a list as in the file, each once, but none in front of one that it reaches
pub record AreRulesInOrder (f : File) (sites : List ℕ) : Type 0 where
  pub each : (site : ℕ) → count_by (λ s. s == site) sites ≡ count_by (λ s. s == site) (plain_sites f.rules)
  pub behind : AllPairs (λ a b. RuleReaches f a b → ⊥) sites

-- how many stand in front of `default`
abbrev pub rules_before : File → List ℕ → ℕ
rules_before f order = length order - length (default_site f.loose)

-- the rules in such an order, and `default` last
pub record IsOrderOf (f : File) (order : List ℕ) : Type 0 where
  pub rules : AreRulesInOrder f (take (rules_before f order) order)
  pub last : drop (rules_before f order) order ≡ default_site f.loose
