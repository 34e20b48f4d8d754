-- The syntax that a generated rule spells: its let, its conditions and its body, by the site at which each begins. Places are an argument, by sites; of a name, by the site of its let or rule, and of an item of a list, by the site of the list and its index.
use Rattle.std.specs.Prelude.{ℕ, zero, suc, ◌+◌, ◌*◌, true, false, List, [], ◌∷◌, ◌++◌, None, codes, decimal, length}
use Rattle.doc_values.specs.Tree.{Forest, Nil, Node}
use Rattle.doc_values.specs.declared.kind.Kind.{Kind}
use Rattle.doc_values.specs.declared.kind.Kind.TheVariants as kind
use Rattle.guard_syntax.specs.Named.{Named}
use Rattle.guard_syntax.specs.Syntax.{Conds, Disj, Disjs, File, Let, Lets, Part, Query, Rule, Step, Steps, asked, assign, body, conds, disj, every, filter, key, literal, more_disjs, more_lets, more_parts, more_steps, no_disjs, no_expr, no_lets, no_parts, no_steps, query, test, var, with_conds, with_expr}
use Rattle.guard_syntax.specs.declared.syntax.Op.TheVariants as op
use Rattle.rule_generator.specs.GeneratedRules.{KeptKey, TypeRule, rules_of}
use Rattle.rule_meaning.specs.Values.{Value}

-- where parts, the names of lets and rules, and the items of lists stand
pub record Places : Type 0 where
  pub of_site : ℕ → ℕ
  pub of_name : ℕ → ℕ
  pub of_item : ℕ → ℕ → ℕ

-- a value that holds none, as a literal has it
abbrev pub leaf : ℕ → Kind → List ℕ → Forest → Forest
leaf at k text rest = Node (record { kind = k; text = text; key = None; at = at }) Nil rest

abbrev pub text_literal : ℕ → List ℕ → Forest
text_literal at text = leaf at kind.Text text Nil

abbrev pub items_of : (ℕ → ℕ) → ℕ → List Value → Forest
items_of at i [] = Nil
items_of at i (v ∷ vs) = leaf (at i) v.kind v.text (items_of at (suc i) vs)

abbrev pub list_literal : ℕ → (ℕ → ℕ) → List Value → Forest
list_literal at items vs = Node (record { kind = kind.List; text = []; key = None; at = at }) (items_of items 0 vs) Nil

abbrev pub one_step : Step → Steps
one_step step = more_steps step no_steps

abbrev pub one_part : ℕ → Part → Disj
one_part n part = disj n (more_parts part no_parts)

-- `t<number>`
abbrev pub rule_name : ℕ → List ℕ
rule_name number = codes "t" ++ decimal number

module _ (places : Places) where
  abbrev pub named : ℕ → ℕ → Named
  named number site = record { text = rule_name number; at = places.of_name site }

  -- `Type == "<type>"`
  abbrev pub type_test : ℕ → List ℕ → Part
  type_test n type = test n false (query (n + 1) (one_step (key (n + 2) (codes "Type")))) op.Eq false (with_expr (literal (n + 3) (text_literal (places.of_site (n + 3)) type))) None

  abbrev pub type_conds : ℕ → List ℕ → Conds
  type_conds n type = conds n (more_disjs (one_part (n + 1) (type_test (n + 2) type)) no_disjs)

  -- `Resources.*[ Type == "<type>" ]`
  abbrev pub type_query : ℕ → List ℕ → Query
  type_query n type = query n (more_steps (key (n + 1) (codes "Resources")) (more_steps (every (n + 2)) (one_step (filter (n + 3) None (type_conds (n + 4) type)))))

  -- the let of a type, which has eleven sites
  abbrev pub type_let : ℕ → ℕ → List ℕ → Let
  type_let n number type = assign n (named number n) (asked (type_query (n + 1) type))

  -- `%t<number> !empty`
  abbrev pub some_test : ℕ → ℕ → Part
  some_test n number = test n false (query (n + 1) (one_step (var (n + 2) (rule_name number)))) op.Empty true no_expr None

  abbrev pub some_conds : ℕ → ℕ → Conds
  some_conds n number = conds n (more_disjs (one_part (n + 1) (some_test (n + 2) number)) no_disjs)

  -- `%t<number>.Properties."<key>" IN [<values>]`
  abbrev pub key_query : ℕ → ℕ → List ℕ → Query
  key_query n number name = query n (more_steps (var (n + 1) (rule_name number)) (more_steps (key (n + 2) (codes "Properties")) (one_step (key (n + 3) name))))

  abbrev pub key_test : ℕ → ℕ → KeptKey → Part
  key_test n number kept =
      test n false (key_query (n + 1) number kept.key) op.Within false (with_expr (literal (n + 5) (list_literal (places.of_site (n + 5)) (places.of_item (n + 5)) kept.values))) None

  -- each key has seven sites
  abbrev pub key_parts : ℕ → ℕ → List KeptKey → Disjs
  key_parts n number [] = no_disjs
  key_parts n number (kept ∷ keys) = more_disjs (one_part n (key_test (n + 1) number kept)) (key_parts (n + 7) number keys)

  -- the rule of a type, which has seven sites beside those of its keys
  abbrev pub type_rule : ℕ → ℕ → TypeRule → Rule
  type_rule n number rule = record {
    site = n;
    name = named number n;
    params = [];
    cond = with_conds (some_conds (n + 1) number);
    body = body (n + 6) no_lets (key_parts (n + 7) number rule.keys);
  }

  -- lets and rules stand in turn: the first site of the let of the next type
  abbrev pub next_site : ℕ → TypeRule → ℕ
  next_site n rule = n + 18 + 7 * length rule.keys

  abbrev pub lets_from : ℕ → ℕ → List TypeRule → Lets
  lets_from n number [] = no_lets
  lets_from n number (rule ∷ rules) = more_lets (type_let n number rule.type) (lets_from (next_site n rule) (suc number) rules)

  abbrev pub rules_from : ℕ → ℕ → List TypeRule → List Rule
  rules_from n number [] = []
  rules_from n number (rule ∷ rules) = type_rule (n + 11) number rule ∷ rules_from (next_site n rule) (suc number) rules

  abbrev pub last_site : ℕ → List TypeRule → ℕ
  last_site n [] = n
  last_site n (rule ∷ rules) = last_site (next_site n rule) rules

  -- the places of the sites below one
  abbrev pub places_to : ℕ → List ℕ
  places_to zero = []
  places_to (suc n) = places_to n ++ places.of_site n ∷ []

  -- the file of all rules; its own site is 0
  abbrev pub file_of_rules : List TypeRule → File
  file_of_rules rules = record { lets = lets_from 1 1 rules; rules = rules_from 1 1 rules; loose = no_disjs; places = places_to (last_site 1 rules) }

  -- the file that the text generated from a tree spells
  abbrev pub generated_file : Forest → File
  generated_file tree = file_of_rules (rules_of tree)
