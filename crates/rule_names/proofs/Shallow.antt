-- In a file without a fault no item is too deep, and nothing in one.
use Rattle.std.proofs.Common.{◌≡◌, ℕ, ◌≤◌, Bool, true, false, refl, sym, ◌∙◌, arith, List, [], ◌∷◌, ◌++◌, Option, Some, None, nat_lt, if◌then◌else◌}
use Rattle.std.specs.Prelude.{IsNone, is_some}
use Rattle.std.proofs.lemmas.Bool.{true≢false}
use Rattle.std.proofs.lemmas.Bool.Decides.{nat_tests}
use Rattle.guard_syntax.specs.Syntax.{Lets, Disjs, Rule, File, no_lets, more_lets, assign, no_disjs, more_disjs, disj}
use Rattle.rule_names.specs.Deep.{deep_if, deep_rules, deep_disjs, deep_items, deep_lets, deep_fault, default_limit}
use Rattle.rule_names.specs.Depths.{larger, depth_expr, depth_lets, depth_rule, depth_disj, depth_disjs, depth_piece, depth_limit, depths_of}
use Rattle.rule_names.specs.Faults.{Fault, earlier, first_from, first_of, or_else}
use Rattle.rule_names.specs.Pieces.{OfFile, piece_at, pieces_lets, pieces_rule, pieces_rules, pieces_disjs}
use Rattle.rule_names.proofs.ShallowParts.{Low, low-nil, low-cons, low-append, lets-low, disjs-low, rule-low}

-- ---- no fault among faults

is-first : (best : Fault) (xs : List Fault) → is_some (first_from (Some best) xs) ≡ true
is-first best [] = refl
is-first best (x ∷ xs) = is-first (earlier (Some best) x) xs

pub none-first : (xs : List Fault) → IsNone (first_of xs) → xs ≡ []
none-first [] h = refl
none-first (x ∷ xs) h = absurd (true≢false (sym (is-first x xs) ∙ h))

pub neither : (a b : Option Fault) → IsNone (or_else a b) → IsNone a × IsNone b
neither None b h = (refl, h)
neither (Some fault) b h = absurd (true≢false h)

both-empty : (xs ys : List Fault) → xs ++ ys ≡ [] → (xs ≡ []) × (ys ≡ [])
both-empty [] ys e = (refl, e)
both-empty (x ∷ xs) ys e = absurd cc

-- ---- items

larger-most : (m n most : ℕ) → m ≤ most → n ≤ most → larger m n ≤ most
larger-most m n most h k = grind (arith, nat_tests)

module _ (f : File) (depths : List ℕ) where
  no_fault : (b : Bool) (most depth : ℕ) (x : Fault) → nat_lt most depth ≡ b → (if b then x ∷ [] else []) ≡ [] → depth ≤ most
  no_fault true most depth x t e = absurd cc
  no_fault false most depth x t e = grind (arith, nat_tests)

  not-deep : (most n depth : ℕ) → deep_if f depths most n depth ≡ [] → depth ≤ most
  not-deep most n depth e = no_fault (nat_lt most depth) most depth _ refl e

  pub rules-shallow : (r : Rule) (rs : List Rule) → deep_rules f depths (r ∷ rs) ≡ [] → (depth_rule f depths r ≤ depth_limit) × (deep_rules f depths rs ≡ [])
  rules-shallow r rs e =
      let both = both-empty (deep_if f depths depth_limit r.site (depth_rule f depths r)) (deep_rules f depths rs) e in
      (not-deep depth_limit r.site (depth_rule f depths r) both.0, both.1)

  disjs-shallow : (most : ℕ) (ds : Disjs) → deep_disjs f depths most ds ≡ [] → depth_disjs f depths ds ≤ most
  disjs-shallow most no_disjs e = omega arith
  disjs-shallow most (more_disjs (disj n ps) ds) e =
      let first = depth_disj f depths (disj n ps) in
      let both = both-empty (deep_if f depths most n first) (deep_disjs f depths most ds) e in
      larger-most first (depth_disjs f depths ds) most (not-deep most n first both.0) (disjs-shallow most ds both.1)

  lets-shallow : (ls : Lets) → deep_lets f depths ls ≡ [] → depth_lets f depths ls ≤ depth_limit
  lets-shallow no_lets e = omega arith
  lets-shallow (more_lets (assign n name x) ls) e =
      let first = depth_expr f depths x in
      let both = both-empty (deep_if f depths depth_limit n first) (deep_lets f depths ls) e in
      larger-most first (depth_lets f depths ls) depth_limit (not-deep depth_limit n first both.0) (lets-shallow ls both.1)

  rules-low : (rs : List Rule) → deep_rules f depths rs ≡ [] → Low f depths depth_limit (pieces_rules rs)
  rules-low [] e = low-nil f depths depth_limit
  rules-low (r ∷ rs) e =
      let both = rules-shallow r rs e in
      low-append f depths depth_limit (pieces_rule r) (pieces_rules rs) (rule-low f depths depth_limit r both.0) (rules-low rs both.1)

  -- that no item is too deep
  pub record AreShallow : Type 0 where
    pub lets : depth_lets f depths f.lets ≤ depth_limit
    pub rules : deep_rules f depths f.rules ≡ []
    pub loose : depth_disjs f depths f.loose ≤ default_limit

  no-items : IsNone (or_else (first_of (deep_items f depths)) (first_of (deep_disjs f depths default_limit f.loose))) → AreShallow
  no-items h =
      let none = neither (first_of (deep_items f depths)) (first_of (deep_disjs f depths default_limit f.loose)) h in
      let rules = deep_rules f depths f.rules in
      let loose = deep_disjs f depths depth_limit f.loose in
      let items = both-empty (deep_lets f depths f.lets) (rules ++ loose) (none-first (deep_items f depths) none.0) in
      record {
        lets = lets-shallow f.lets items.0;
        rules = (both-empty rules loose items.1).0;
        loose = disjs-shallow default_limit f.loose (none-first (deep_disjs f depths default_limit f.loose) none.1);
      }

  -- then nothing in the file is
  pub pieces-shallow : AreShallow → (site : ℕ) → depth_piece f depths (piece_at f site) ≤ depth_limit
  pieces-shallow are =
      let rules = rules-low f.rules are.rules in
      let loose = disjs-low f depths depth_limit f.loose (let e = are.loose in omega (arith, e)) in
      let lets = lets-low f depths depth_limit f.lets are.lets in
      let inner = low-append f depths depth_limit (pieces_rules f.rules) (pieces_disjs f.loose) rules loose in
      let items = low-append f depths depth_limit (pieces_lets f.lets) (pieces_rules f.rules ++ pieces_disjs f.loose) lets inner in
      (low-cons f depths depth_limit 0 OfFile (pieces_lets f.lets ++ (pieces_rules f.rules ++ pieces_disjs f.loose)) (omega arith) items).at

-- a file that is not refused for it
pub file-shallow : (f : File) → IsNone (deep_fault f) → AreShallow f (depths_of f)
file-shallow f h = no-items f (depths_of f) h
