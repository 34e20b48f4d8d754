-- What stands at the sites of generated lets and rules in their file. By induction on the rules, and on the keys.
use Rattle.std.proofs.Common.{◌≡◌, ℕ, zero, suc, ◌+◌, List, [], ◌∷◌, ◌++◌, slice_get, Some, refl, sym, ap, ◌∙◌, append_assoc, append-nil}
use Rattle.guard_syntax.specs.Syntax.{File, literal, no_disjs}
use Rattle.generator_laws.specs.code.GeneratedSyntax.{Places, file_of_rules, key_parts, key_test, lets_from, list_literal, next_site, one_part, rules_from, text_literal, type_let, type_query, type_rule}
use Rattle.generator_laws.specs.code.RuleNames.{EachRule}
use Rattle.generator_laws.proofs.SitesInOrder.{file-in-order}
use Rattle.rule_generator.specs.GeneratedRules.{KeptKey, TypeRule}
use Rattle.rule_meaning.specs.StoreModel.{literal_at, tree_of_piece}
use Rattle.rule_names.specs.Pieces.{OfBody, OfExpr, OfFile, OfLet, OfQuery, OfRule, Piece, Sited, piece_at, pieces_disj, pieces_disjs, pieces_file, pieces_let, pieces_lets, pieces_opt_conds, pieces_rule, pieces_rules}
use Rattle.rule_names.specs.code.Within.{IsAmong, StandsIn}
use Rattle.rule_names.proofs.PiecesFound.{piece-found}
use Rattle.std.specs.Prelude.{option_and_then}

-- ---- pieces among others

-- a part of some pieces in a row
among-part : (front part back some all : List Sited) → some ≡ front ++ (part ++ back) → IsAmong some all → IsAmong part all
among-part front part back some all e (before, after, is) = (
  before ++ front,
  back ++ after,
  is ∙ ap (λ ps. before ++ (ps ++ after)) e ∙ ap (λ ps. before ++ ps) (append_assoc front (part ++ back) after ∙ ap (λ ps. front ++ ps) (append_assoc part back after)) ∙ sym (append_assoc before front (part ++ (back ++ after))),
)

-- the pieces from an index on
from-at : (some : List Sited) (i : ℕ) (x : Sited) → slice_get some i ≡ Some x → (front back : List Sited) × (some ≡ front ++ (x ∷ back))
from-at [] i x e = absurd cc
from-at (y ∷ some) zero x e = let same : y ≡ x = cc in ([], some, ap (λ z. z ∷ some) same)
from-at (y ∷ some) (suc i) x e = let r = from-at some i x e in (y ∷ r.0, r.1, ap (λ ps. y ∷ ps) r.2)

module _ (places : Places) (rules : List TypeRule) where
  abbrev pub file : File
  file = file_of_rules places rules

  -- what stands at an index of a part is found at its site
  found-at : (part : List Sited) (i n : ℕ) (q : Piece) → StandsIn file part → slice_get part i ≡ Some (n, q) → piece_at file n ≡ Some q
  found-at part i n q stands e =
      let r = from-at part i (n, q) e in
      piece-found file n q r.1 (file-in-order places rules)
      (among-part r.0 ((n, q) ∷ r.1) [] part (pieces_file file) (r.2 ∙ ap (λ ps. r.0 ++ ps) (sym (append-nil ((n, q) ∷ r.1)))) stands)

  -- ---- lets

  abbrev pub LetStands : ℕ → ℕ → TypeRule → Type 0
  LetStands n k rule = StandsIn file (pieces_let (type_let places n k rule.type))

  lets-stand : (n k : ℕ) (rs : List TypeRule) → StandsIn file (pieces_lets (lets_from places n k rs)) → EachRule places LetStands n k rs
  lets-stand n k [] s = tt
  lets-stand n k (rule ∷ rs) s =
      let here : List Sited = pieces_let (type_let places n k rule.type) in
      let more : List Sited = pieces_lets (lets_from places (next_site places n rule) (suc k) rs) in (
        among-part [] here more (here ++ more) (pieces_file file) refl s,
        lets-stand (next_site places n rule) (suc k) rs (among-part here more [] (here ++ more) (pieces_file file) (ap (λ ps. here ++ ps) (sym (append-nil more))) s),
      )

  pub all-lets : EachRule places LetStands 1 1 rules
  all-lets =
      let ls : List Sited = pieces_lets (lets_from places 1 1 rules) in
      let rs : List Sited = pieces_rules (rules_from places 1 1 rules) ++ pieces_disjs no_disjs in
      lets-stand 1 1 rules ((0, OfFile) ∷ [], rs, refl)

  pub let-query : (n k : ℕ) (rule : TypeRule) → LetStands n k rule → piece_at file (n + 1) ≡ Some (OfQuery (type_query places (n + 1) rule.type))
  let-query n k rule s = found-at (pieces_let (type_let places n k rule.type)) 1 (n + 1) (OfQuery (type_query places (n + 1) rule.type)) s refl

  pub let-itself : (n k : ℕ) (rule : TypeRule) → LetStands n k rule → piece_at file n ≡ Some (OfLet (type_let places n k rule.type))
  let-itself n k rule s = found-at (pieces_let (type_let places n k rule.type)) 0 n (OfLet (type_let places n k rule.type)) s refl

  pub let-type : (n k : ℕ) (rule : TypeRule) → LetStands n k rule → literal_at file (n + 1 + 4 + 2 + 3) ≡ Some (text_literal (places.of_site (n + 1 + 4 + 2 + 3)) rule.type)
  let-type n k rule s =
      let tree = text_literal (places.of_site (n + 1 + 4 + 2 + 3)) rule.type in
      ap (option_and_then tree_of_piece) (found-at (pieces_let (type_let places n k rule.type)) 10 (n + 1 + 4 + 2 + 3) (OfExpr (literal (n + 1 + 4 + 2 + 3) tree)) s refl)

  -- ---- rules

  abbrev pub RuleStands : ℕ → ℕ → TypeRule → Type 0
  RuleStands n k rule = StandsIn file (pieces_rule (type_rule places (n + 11) k rule))

  rules-stand : (n k : ℕ) (rs : List TypeRule) → StandsIn file (pieces_rules (rules_from places n k rs)) → EachRule places RuleStands n k rs
  rules-stand n k [] s = tt
  rules-stand n k (rule ∷ rs) s =
      let here : List Sited = pieces_rule (type_rule places (n + 11) k rule) in
      let more : List Sited = pieces_rules (rules_from places (next_site places n rule) (suc k) rs) in (
        among-part [] here more (here ++ more) (pieces_file file) refl s,
        rules-stand (next_site places n rule) (suc k) rs (among-part here more [] (here ++ more) (pieces_file file) (ap (λ ps. here ++ ps) (sym (append-nil more))) s),
      )

  pub all-rules : EachRule places RuleStands 1 1 rules
  all-rules =
      let ls : List Sited = pieces_lets (lets_from places 1 1 rules) in
      let rs : List Sited = pieces_rules (rules_from places 1 1 rules) in
      rules-stand 1 1 rules ((0, OfFile) ∷ ls, [], ap (λ ps. (0, OfFile) ∷ (ls ++ ps)) refl)

  -- the literals of the keys, the first of which begins at a site
  abbrev pub AreLiterals : ℕ → List KeptKey → Type 0
  AreLiterals n [] = Unit {0}
  AreLiterals n (kept ∷ keys) = (literal_at file (n + 1 + 5) ≡ Some (list_literal (places.of_site (n + 1 + 5)) (places.of_item (n + 1 + 5)) kept.values)) × AreLiterals (n + 7) keys

  keys-stand : (n k : ℕ) (keys : List KeptKey) → StandsIn file (pieces_disjs (key_parts places n k keys)) → AreLiterals n keys
  keys-stand n k [] s = tt
  keys-stand n k (kept ∷ keys) s =
      let tree = list_literal (places.of_site (n + 1 + 5)) (places.of_item (n + 1 + 5)) kept.values in
      let here : List Sited = pieces_disj (one_part n (key_test places (n + 1) k kept)) in
      let more : List Sited = pieces_disjs (key_parts places (n + 7) k keys) in (
        ap (option_and_then tree_of_piece) (found-at (here ++ more) 6 (n + 1 + 5) (OfExpr (literal (n + 1 + 5) tree)) s refl),
        keys-stand (n + 7) k keys (among-part here more [] (here ++ more) (pieces_file file) (ap (λ ps. here ++ ps) (sym (append-nil more))) s),
      )

  pub rule-literals : (n k : ℕ) (rule : TypeRule) → RuleStands n k rule → AreLiterals (n + 11 + 7) rule.keys
  rule-literals n k rule s =
      let r = type_rule places (n + 11) k rule in
      let front : List Sited = (n + 11, OfRule r) ∷ (pieces_opt_conds r.cond ++ ((n + 11 + 6, OfBody r.body) ∷ [])) in
      let more : List Sited = pieces_disjs (key_parts places (n + 11 + 7) k rule.keys) in
      keys-stand (n + 11 + 7) k rule.keys (among-part front more [] (pieces_rule r) (pieces_file file) (ap (λ ps. front ++ ps) (sym (append-nil more))) s)
