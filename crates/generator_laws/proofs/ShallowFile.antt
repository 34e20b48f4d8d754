-- No item of the file of generated rules is too deep: a let has Depth 3, and a rule 7. By induction on the rules, and on the keys.
use Rattle.std.proofs.Common.{◌≡◌, ℕ, suc, ◌+◌, ◌^◌, ◌≤◌, inl, inr, Bool, List, [], ◌∷◌, ◌++◌, length, get_or, Option, None, refl, sym, ap, ap₂, subst, ◌∙◌, arith}
use Rattle.std.specs.Prelude.{if◌then◌else◌, slice_index_or}
use Rattle.std.proofs.lemmas.Bool.{cases_lt, le-ltb}
use Rattle.std.proofs.lemmas.Bool.Decides.{nat_tests}
use Rattle.std.proofs.lemmas.List.{get_or_past}
use Rattle.guard_syntax.specs.Syntax.{File}
use Rattle.generator_laws.specs.code.GeneratedSyntax.{Places, file_of_rules, key_parts, lets_from, next_site, rules_from, type_rule}
use Rattle.generator_laws.specs.code.RuleNames.{EachRule}
use Rattle.generator_laws.proofs.RuleBinds.{AreBound, IsBound, all-bound}
use Rattle.generator_laws.proofs.RulePieces.{LetStands, all-lets, let-query}
use Rattle.rule_generator.specs.GeneratedRules.{KeptKey, TypeRule}
use Rattle.rule_names.specs.Deep.{deep_fault, deep_if, deep_lets, deep_rules}
use Rattle.rule_names.specs.Depths.{capped, depth_at, depth_bound, depth_disjs, depth_limit, depth_piece, depth_rule, depths_of, larger}
use Rattle.rule_names.specs.Faults.{Fault, first_of, or_else}
use Rattle.rule_names.specs.Pieces.{Piece, piece_at}
use Rattle.rule_names.specs.Resolution.{bind_of}
use Rattle.rule_names.specs.declared.bind.Bind.{Bind}
use Rattle.rule_names.specs.declared.name_kind.NameKind.TheVariants.{TooDeep}
use Rattle.rule_names.proofs.DepthTables.{depth-each}
use Rattle.rule_names.proofs.Settled.{read-mapped, settled}

larger-least : (a b most : ℕ) → a ≤ most → b ≤ most → larger a b ≤ most
larger-least a b most h k = grind (arith, nat_tests)

-- a test of a key, whose variable has a Depth
key-least : (x : ℕ) → x ≤ 3 → larger (suc (larger (suc (larger (suc x) 0)) 1)) 0 ≤ 6
key-least x h =
    larger-least (suc (larger (suc (larger (suc x) 0)) 1)) 0 6
    (suc-most (larger (suc (larger (suc x) 0)) 1) 5 (larger-least (suc (larger (suc x) 0)) 1 5 (suc-most (larger (suc x) 0) 4 (larger-least (suc x) 0 4 (omega arith) (omega arith))) (omega arith)))
    (omega arith)
  where
    suc-most : (a b : ℕ) → a ≤ b → suc a ≤ suc b
    suc-most a b h = omega arith

-- a rule, of that of its variable and that of its tests
rule-least : (x y : ℕ) → x ≤ 3 → y ≤ 6 → suc (larger (larger (larger (suc (larger (suc (larger (suc x) 0)) 0)) 0) 0) (larger 0 y)) ≤ 200
rule-least x y h k = grind (arith, nat_tests)

module _ (places : Places) (rules : List TypeRule) (few : 1 + length rules ≤ 2 ^ 64) where
  abbrev the-file : File
  the-file = file_of_rules places rules

  abbrev table : List ℕ
  table = depths_of the-file

  -- the query of a let is flat
  abbrev IsFlat : ℕ → Type 0
  IsFlat q = depth_at the-file table q ≤ 3

  let-flat : (n k : ℕ) (rule : TypeRule) → LetStands places rules n k rule → IsFlat (n + 1)
  let-flat n k rule s = elim (cases_lt (n + 1) (length the-file.places)) [
    | inl within ↦
        let three : depth_at the-file table (n + 1) ≡ 3 =
        sym (ap (λ (t : List ℕ). get_or t (n + 1) 0) (settled the-file)) ∙ read-mapped (λ i. capped (depth_piece the-file table (piece_at the-file i))) (length the-file.places) (n + 1) within
        ∙ ap (λ (o : Option Piece). capped (depth_piece the-file table o)) (let-query places rules n k rule s) in
        omega arith
    | inr past ↦
        let none : depth_at the-file table (n + 1) ≡ 0 = get_or_past table (n + 1) 0 (subst (λ (m : ℕ). m ≤ n + 1) (sym (depth-each the-file)) past) in
        omega arith
  ]

  none-deep : (n depth : ℕ) → depth ≤ 200 → deep_if the-file table depth_limit n depth ≡ []
  none-deep n depth h =
      ap (λ (b : Bool). if b then record { kind = TooDeep; named = record { text = []; at = slice_index_or the-file.places n 0 } } ∷ [] else []) (le-ltb depth_limit depth h)

  lets-shallow : (n k : ℕ) (rs : List TypeRule) → deep_lets the-file table (lets_from places n k rs) ≡ []
  lets-shallow n k [] = refl
  lets-shallow n k (rule ∷ rs) = lets-shallow (next_site places n rule) (suc k) rs

  -- ---- rules

  abbrev bound_depth : Option Bind → ℕ
  bound_depth o = depth_bound the-file table o

  keys-low : (q n k : ℕ) (keys : List KeptKey) → IsFlat q → AreBound places rules few q n keys → depth_disjs the-file table (key_parts places n k keys) ≤ 6
  keys-low q n k [] flat bound = omega arith
  keys-low q n k (kept ∷ keys) flat bound =
      let x : bound_depth (bind_of the-file (n + 1 + 1 + 1)) ≤ 3 = subst (λ (o : Option Bind). bound_depth o ≤ 3) (sym bound.0) flat in
      larger-least (larger (suc (larger (suc (larger (suc (bound_depth (bind_of the-file (n + 1 + 1 + 1)))) 0)) 1)) 0) (depth_disjs the-file table (key_parts places (n + 7) k keys)) 6
      (key-least (bound_depth (bind_of the-file (n + 1 + 1 + 1))) x) (keys-low q (n + 7) k keys flat bound.1)

  rule-low : (n k : ℕ) (rule : TypeRule) → LetStands places rules n k rule → IsBound places rules few n k rule → depth_rule the-file table (type_rule places (n + 11) k rule) ≤ 200
  rule-low n k rule s bound =
      let flat = let-flat n k rule s in
      let x : bound_depth (bind_of the-file (n + 11 + 1 + 2 + 2)) ≤ 3 = subst (λ (o : Option Bind). bound_depth o ≤ 3) (sym bound.0) flat in
      rule-least (bound_depth (bind_of the-file (n + 11 + 1 + 2 + 2))) (depth_disjs the-file table (key_parts places (n + 11 + 7) k rule.keys)) x (keys-low (n + 1) (n + 11 + 7) k rule.keys flat bound.1)

  rules-shallow : (n k : ℕ) (rs : List TypeRule) → EachRule places (LetStands places rules) n k rs → EachRule places (IsBound places rules few) n k rs → deep_rules the-file table (rules_from places n k rs) ≡ []
  rules-shallow n k [] s bound = refl
  rules-shallow n k (rule ∷ rs) s bound =
      ap₂ (λ (xs ys : List Fault). xs ++ ys) (none-deep (n + 11) (depth_rule the-file table (type_rule places (n + 11) k rule)) (rule-low n k rule s.0 bound.0))
      (rules-shallow (next_site places n rule) (suc k) rs s.1 bound.1)

  pub file-shallow : deep_fault the-file ≡ None
  file-shallow =
      ap₂ (λ (xs ys : List Fault). or_else (first_of (xs ++ (ys ++ []))) None) (lets-shallow 1 1 rules)
      (rules-shallow 1 1 rules (all-lets places rules) (all-bound places rules few))
