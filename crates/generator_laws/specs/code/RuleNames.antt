-- What the names and literals of a generated rule stand for in a file, by their sites.
use Rattle.std.specs.Prelude.{ℕ, suc, ◌≡◌, ◌+◌, List, [], ◌∷◌, Some}
use Rattle.guard_syntax.specs.Syntax.{File}
use Rattle.generator_laws.specs.code.GeneratedSyntax.{Places, list_literal, next_site, text_literal, type_query}
use Rattle.rule_generator.specs.GeneratedRules.{KeptKey, TypeRule}
use Rattle.rule_meaning.specs.StoreModel.{literal_at}
use Rattle.rule_names.specs.Pieces.{OfQuery, piece_at}
use Rattle.rule_names.specs.Resolution.{bind_of}
use Rattle.rule_names.specs.declared.bind.Bind.TheVariants.{Value}

-- of the tests of keys, the first of which begins at a site: the variable is what the query of the let gives, and the literal has the values
abbrev pub AreKeysNamed : Places → File → ℕ → ℕ → List KeptKey → Type 0
AreKeysNamed places file query_site n [] = Unit {0}
AreKeysNamed places file query_site n (kept ∷ keys) =
    (bind_of file (n + 1 + 1 + 1) ≡ Some (Value 1 query_site))
    × (literal_at file (n + 1 + 5) ≡ Some (list_literal (places.of_site (n + 1 + 5)) (places.of_item (n + 1 + 5)) kept.values))
    × AreKeysNamed places file query_site (n + 7) keys

-- of a rule whose let begins at one site, and the rule itself at another
pub record IsNamed (places : Places) (file : File) (let_site n : ℕ) (rule : TypeRule) : Type 0 where
  pub query : piece_at file (let_site + 1) ≡ Some (OfQuery (type_query places (let_site + 1) rule.type))
  pub type : literal_at file (let_site + 1 + 4 + 2 + 3) ≡ Some (text_literal (places.of_site (let_site + 1 + 4 + 2 + 3)) rule.type)
  pub condition : bind_of file (n + 1 + 2 + 2) ≡ Some (Value 0 (let_site + 1))
  pub keys : AreKeysNamed places file (let_site + 1) (n + 7) rule.keys

-- something holds of each of some rules, by the first site of its let and by its number
abbrev pub EachRule : Places → (ℕ → ℕ → TypeRule → Type 0) → ℕ → ℕ → List TypeRule → Type 0
EachRule places P n k [] = Unit {0}
EachRule places P n k (rule ∷ rules) = P n k rule × EachRule places P (next_site places n rule) (suc k) rules
