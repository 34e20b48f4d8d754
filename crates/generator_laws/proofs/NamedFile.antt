-- Each rule of the file of generated rules is PASS: its names and literals are what it says. By induction on the rules.
use Rattle.std.proofs.Common.{◌≡◌, ℕ, suc, ◌+◌, ◌^◌, ◌<◌, ◌≤◌, Bool, true, false, cond, ◌||◌, List, [], ◌∷◌, ◌++◌, length, map, filter, bytes_eq, refl, sym, ap, subst, ◌∙◌, arith, append_assoc}
use Rattle.std.specs.List.{AllByRecursion, list_any}
use Rattle.std.proofs.lemmas.List.Folds.{list_any-append}
use Rattle.std.proofs.lemmas.Slice.Eq.{bytes_eq-Decides}
use Rattle.doc_values.specs.Tree.{IsTree, size}
use Rattle.guard_syntax.specs.Syntax.{File, Rule}
use Rattle.guard_syntax.specs.declared.row.Verdict.TheVariants.{Pass}
use Rattle.generator_laws.specs.code.GeneratedSyntax.{Places, file_of_rules, generated_file, next_site, rules_from, type_rule}
use Rattle.generator_laws.specs.code.RuleNames.{AreKeysNamed, EachRule, IsNamed}
use Rattle.generator_laws.proofs.RuleBinds.{AreBound, IsBound, all-bound}
use Rattle.generator_laws.proofs.RulePasses.{rule-passes}
use Rattle.generator_laws.proofs.RulePieces.{AreLiterals, LetStands, RuleStands, all-lets, all-rules, let-query, let-type, rule-literals}
use Rattle.rule_generator.specs.GeneratedRules.{KeptKey, TypeRule, elements, has_keys, rule_of, rules_among, rules_of, types_of}
use Rattle.rule_generator.proofs.Nodes.{tree-some}
use Rattle.rule_meaning.specs.Locations.{World}
use Rattle.rule_meaning.specs.NameMeaning.{rule_verdict}
use Rattle.rule_meaning.specs.Values.{Value}

-- ---- names

module _ (places : Places) (rules : List TypeRule) (few : 1 + length rules ≤ 2 ^ 64) where
  keys-named : (q n : ℕ) (keys : List KeptKey) → AreBound places rules few q n keys → AreLiterals places rules n keys → AreKeysNamed places (file_of_rules places rules) q n keys
  keys-named q n [] b l = tt
  keys-named q n (kept ∷ keys) b l = (b.0, l.0, keys-named q (n + 7) keys b.1 l.1)

  rules-named : (n k : ℕ) (rs : List TypeRule) → EachRule places (LetStands places rules) n k rs → EachRule places (RuleStands places rules) n k rs → EachRule places (IsBound places rules few) n k rs
      → EachRule places (λ m j rule. IsNamed places (file_of_rules places rules) m (m + 11) rule) n k rs
  rules-named n k [] lets stands bound = tt
  rules-named n k (rule ∷ rs) lets stands bound = (
    record {
      query = let-query places rules n k rule lets.0;
      type = let-type places rules n k rule lets.0;
      condition = bound.0.0;
      keys = keys-named (n + 1) (n + 11 + 7) rule.keys bound.0.1 (rule-literals places rules n k rule stands.0);
    },
    rules-named (next_site places n rule) (suc k) rs lets.1 stands.1 bound.1,
  )

  pub all-named : EachRule places (λ m j rule. IsNamed places (file_of_rules places rules) m (m + 11) rule) 1 1 rules
  all-named = rules-named 1 1 rules (all-lets places rules) (all-rules places rules) (all-bound places rules few)

-- ---- rules of types

-- a rule is that of a type that appears, and a key is kept for it
record IsProper (all : List Value) (rule : TypeRule) : Type 0 where
  own : rule ≡ rule_of all rule.type
  appears : list_any (bytes_eq rule.type) (types_of all) ≡ true
  keys : has_keys rule ≡ true

own-among : (front names : List (List ℕ)) → AllByRecursion (λ name. list_any (bytes_eq name) (front ++ names) ≡ true) names
own-among front [] = tt
own-among front (name ∷ names) = (
  list_any-append (bytes_eq name) front (name ∷ names) ∙ right-true (list_any (bytes_eq name) front) (bytes_eq name name) (list_any (bytes_eq name) names) ((bytes_eq-Decides name name).1 refl),
  subst (λ ns. AllByRecursion (λ n. list_any (bytes_eq n) ns ≡ true) names) (append_assoc front (name ∷ []) names) (own-among (front ++ name ∷ []) names),
)
  where
    right-true : (a b c : Bool) → b ≡ true → (a || (b || c)) ≡ true
    right-true true b c e = refl
    right-true false b c e = ap (λ x. x || c) e

proper : (all : List Value) (types : List (List ℕ)) → AllByRecursion (λ type. list_any (bytes_eq type) (types_of all) ≡ true) types → AllByRecursion (IsProper all) (filter has_keys (map (rule_of all) types))
proper all [] appear = tt
proper all (type ∷ types) appear = one (has_keys (rule_of all type)) refl (proper all types appear.1)
  where
    one : (b : Bool) → has_keys (rule_of all type) ≡ b → AllByRecursion (IsProper all) (filter has_keys (map (rule_of all) types))
        → AllByRecursion (IsProper all) (cond b (rule_of all type ∷ filter has_keys (map (rule_of all) types)) (filter has_keys (map (rule_of all) types)))
    one true e later = (record { own = refl; appears = appear.0; keys = e }, later)
    one false e later = later

all-proper : (all : List Value) → AllByRecursion (IsProper all) (rules_among all)
all-proper all = proper all (types_of all) (own-among [] (types_of all))

-- ---- verdicts

passes : (world : World) (places : Places) → 0 < size world.template → (n k : ℕ) (rs : List TypeRule) → EachRule places (λ m j rule. IsNamed places world.file m (m + 11) rule) n k rs
    → AllByRecursion (IsProper (elements world.template)) rs → AllByRecursion (λ (rule : Rule). rule_verdict world rule ≡ Pass) (rules_from places n k rs)
passes world places some n k [] named ps = tt
passes world places some n k (rule ∷ rs) named ps =
    let p : IsProper (elements world.template) rule = ps.0 in (
      subst (λ r. rule_verdict world (type_rule places (n + 11) k r) ≡ Pass) (sym p.own)
          (rule-passes world places n (n + 11) k rule.type some p.appears (ap has_keys (sym p.own) ∙ p.keys) (subst (IsNamed places world.file n (n + 11)) p.own named.0)),
      passes world places some (next_site places n rule) (suc k) rs named.1 ps.1,
    )

pub file-passes : (world : World) (places : Places) → IsTree world.template → world.file ≡ generated_file places world.template → length (rules_of world.template) < 2 ^ 64
    → AllByRecursion (λ (rule : Rule). rule_verdict world rule ≡ Pass) world.file.rules
file-passes world places tree is few =
    let rules : List TypeRule = rules_of world.template in
    subst (λ (f : File). AllByRecursion (λ (rule : Rule). rule_verdict world rule ≡ Pass) f.rules) (sym is)
    (passes world places (tree-some world.template tree) 1 1 rules
    (subst (λ (f : File). EachRule places (λ m j rule. IsNamed places f m (m + 11) rule) 1 1 rules) (sym is) (all-named places rules (omega arith))) (all-proper (elements world.template)))
