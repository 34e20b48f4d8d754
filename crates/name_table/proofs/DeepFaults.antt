-- The first fault of items that are too deep, item by item.
use Rattle.std.proofs.Common.{◌≡◌, ℕ, ◌+◌, ◌<◌, ◌≤◌, Bool, cond, refl, sym, ap, ◌∙◌, subst, arith, List, [], ◌∷◌, ◌++◌, length, get_or, map, drop, Option, Some, None, nat_lt}
use Rattle.std.specs.Prelude.{slice_index_or}
use Rattle.std.proofs.lemmas.Bool.Decides.{nat_tests}
use Rattle.guard_syntax.specs.Syntax as sx
use Rattle.guard_syntax.specs.declared.syntax.RawFile.{RawFile}
use Rattle.guard_syntax.specs.declared.syntax.Let.{Let}
use Rattle.guard_syntax.specs.declared.syntax.Rule.{Rule}
use Rattle.guard_syntax.specs.declared.syntax.Disj.{Disj}
use Rattle.guard_syntax.specs.code.Seen.{see_file, see_let, see_rule, see_disj, see_expr, let_list, disj_list}
use Rattle.rule_names.specs.declared.name_kind.NameKind.TheVariants.{TooDeep}
use Rattle.rule_names.specs.Deep.{deep_fault, deep_items, default_limit, deep_if, deep_lets, deep_rules, deep_disjs}
use Rattle.rule_names.specs.Depths.{capped, depth_limit, depth_expr, depth_rule, depth_disj, depths_of}
use Rattle.rule_names.specs.Faults.{Fault, first_from, first_of, or_else}
use Rattle.name_scopes.proofs.FirstFaults.{first-append}
use Rattle.rule_names.proofs.Shapes.{let-seen, disj-seen}
use Rattle.name_faults.proofs.UsesInTurn.{next, end}

capped_above : (most d : ℕ) → most ≤ 200 → nat_lt most (capped d) ≡ nat_lt most d
capped_above most d l = grind (arith, nat_tests)

module _ (f : sx.File) (depths : List ℕ) where
  -- a Depth that is counted up to one above the limit tells as much
  pub deep-capped : (most n d r : ℕ) → most ≤ 200 → r ≡ capped d → deep_if f depths most n r ≡ deep_if f depths most n d
  deep-capped most n d r l is =
      ap (deep_if f depths most n) is
      ∙ ap (λ (v : Bool). cond v (record { kind = TooDeep; named = record { text = []; at = slice_index_or f.places n 0 } } ∷ []) []) (capped_above most d l)

  abbrev pub of_lets : List Let → List Fault
  of_lets xs = deep_lets f depths (let_list (map see_let xs))

  abbrev pub of_rules : List Rule → List Fault
  of_rules xs = deep_rules f depths (map see_rule xs)

  abbrev pub of_disjs : ℕ → List Disj → List Fault
  of_disjs most xs = deep_disjs f depths most (disj_list (map see_disj xs))

  abbrev of_let : Let → List Fault
  of_let y = deep_if f depths depth_limit y.site (depth_expr f depths (see_expr y.value))

  abbrev of_disj : ℕ → Disj → List Fault
  of_disj most y = deep_if f depths most y.site (depth_disj f depths (see_disj y))

  lets_split : (y : Let) (ys : List Let) → of_lets (y ∷ ys) ≡ of_let y ++ of_lets ys
  lets_split y ys = ap (λ (z : sx.Let). deep_lets f depths (sx.more_lets z (let_list (map see_let ys)))) (let-seen y)

  disjs_split : (most : ℕ) (y : Disj) (ys : List Disj) → of_disjs most (y ∷ ys) ≡ of_disj most y ++ of_disjs most ys
  disjs_split most y ys =
      subst (λ (z : sx.Disj). deep_disjs f depths most (sx.more_disjs z (disj_list (map see_disj ys))) ≡ deep_if f depths most y.site (depth_disj f depths z) ++ of_disjs most ys) (sym (disj-seen y)) refl

  pub lets-next : (xs : List Let) (i : ℕ) (x : Let) (r : ℕ) (start best more : Option Fault) → i < length xs → x ≡ get_or xs i x → r ≡ capped (depth_expr f depths (see_expr x.value))
      → more ≡ first_from best (deep_if f depths 200 x.site r) → first_from best (of_lets (drop i xs)) ≡ start → first_from more (of_lets (drop (i + 1) xs)) ≡ start
  lets-next xs i x r start best more within at is found so =
      next of_lets of_let lets_split xs i x start best more within at (found ∙ ap (first_from best) (deep-capped 200 x.site (depth_expr f depths (see_expr x.value)) r (omega arith) is)) so

  pub rules-next : (xs : List Rule) (i : ℕ) (x : Rule) (r : ℕ) (start best more : Option Fault) → i < length xs → x ≡ get_or xs i x → r ≡ capped (depth_rule f depths (see_rule x))
      → more ≡ first_from best (deep_if f depths 200 x.site r) → first_from best (of_rules (drop i xs)) ≡ start → first_from more (of_rules (drop (i + 1) xs)) ≡ start
  rules-next xs i x r start best more within at is found so =
      next of_rules (λ (y : Rule). deep_if f depths depth_limit y.site (depth_rule f depths (see_rule y))) (λ y ys. refl) xs i x start best more within at
      (found ∙ ap (first_from best) (deep-capped 200 x.site (depth_rule f depths (see_rule x)) r (omega arith) is)) so

  pub disjs-next : (most : ℕ) (xs : List Disj) (i : ℕ) (x : Disj) (r : ℕ) (start best more : Option Fault) → most ≤ 200 → i < length xs → x ≡ get_or xs i x → r ≡ capped (depth_disj f depths (see_disj x))
      → more ≡ first_from best (deep_if f depths most x.site r) → first_from best (of_disjs most (drop i xs)) ≡ start → first_from more (of_disjs most (drop (i + 1) xs)) ≡ start
  disjs-next most xs i x r start best more l within at is found so =
      next (of_disjs most) (of_disj most) (disjs_split most) xs i x start best more within at (found ∙ ap (first_from best) (deep-capped most x.site (depth_disj f depths (see_disj x)) r l is)) so

  pub lets-end : (xs : List Let) (i : ℕ) (start best : Option Fault) → length xs ≤ i → first_from best (of_lets (drop i xs)) ≡ start → best ≡ start
  lets-end xs i start best past so = end of_lets refl xs i start best past so

  pub rules-end : (xs : List Rule) (i : ℕ) (start best : Option Fault) → length xs ≤ i → first_from best (of_rules (drop i xs)) ≡ start → best ≡ start
  rules-end xs i start best past so = end of_rules refl xs i start best past so

  pub disjs-end : (most : ℕ) (xs : List Disj) (i : ℕ) (start best : Option Fault) → length xs ≤ i → first_from best (of_disjs most (drop i xs)) ≡ start → best ≡ start
  disjs-end most xs i start best past so = end (of_disjs most) refl xs i start best past so

-- ---- a file

module _ (f : RawFile) (depths : List ℕ) (ls : List Let) (rs : List Rule) (ds : List Disj) (known : depths ≡ depths_of (see_file f)) (are : ls ≡ f.lets.items) (be : rs ≡ f.rules.items) (too : ds ≡ f.loose.items) where
  items_fault : (one two three : Option Fault) → one ≡ first_from None (of_lets (see_file f) depths ls) → two ≡ first_from one (of_rules (see_file f) depths rs) → three ≡ first_from two (of_disjs (see_file f) depths 200 ds)
      → first_of (deep_items (see_file f) (depths_of (see_file f))) ≡ three
  items_fault one two three x y z =
      let file = see_file f in
      let lets = of_lets file depths ls in
      let rules = of_rules file depths rs in
      let loose = of_disjs file depths 200 ds in
      let all : lets ++ (rules ++ loose) ≡ deep_items file (depths_of file) =
      ap (λ (l : List Let). of_lets file depths l ++ (rules ++ loose)) are
      ∙ ap (λ (l : List Rule). of_lets file depths f.lets.items ++ (of_rules file depths l ++ loose)) be
      ∙ ap (λ (l : List Disj). of_lets file depths f.lets.items ++ (of_rules file depths f.rules.items ++ of_disjs file depths 200 l)) too
      ∙ ap (deep_items file) known in
      sym (ap first_of all) ∙ first-append None lets (rules ++ loose) ∙ ap (λ (b : Option Fault). first_from b (rules ++ loose)) (sym x) ∙ first-append one rules loose
      ∙ ap (λ (b : Option Fault). first_from b loose) (sym y) ∙ sym z

  pub deep-item : (one two : Option Fault) (fault : Fault) → one ≡ first_from None (of_lets (see_file f) depths ls) → two ≡ first_from one (of_rules (see_file f) depths rs) → Some fault ≡ first_from two (of_disjs (see_file f) depths 200 ds)
      → Some fault ≡ deep_fault (see_file f)
  deep-item one two fault x y z = sym (ap (λ (b : Option Fault). or_else b (first_of (deep_disjs (see_file f) (depths_of (see_file f)) default_limit (see_file f).loose))) (items_fault one two (Some fault) x y z))

  pub deep-default : (es : List Disj) (one two result : Option Fault) → es ≡ f.loose.items → one ≡ first_from None (of_lets (see_file f) depths ls) → two ≡ first_from one (of_rules (see_file f) depths rs)
      → None ≡ first_from two (of_disjs (see_file f) depths 200 ds) → result ≡ first_from None (of_disjs (see_file f) depths 199 es) → result ≡ deep_fault (see_file f)
  deep-default es one two result so x y z is =
      is ∙ ap (λ (l : List Disj). first_from None (of_disjs (see_file f) depths 199 l)) so
      ∙ ap (λ (t : List ℕ). first_from None (of_disjs (see_file f) t 199 f.loose.items)) known
      ∙ sym (ap (λ (b : Option Fault). or_else b (first_of (deep_disjs (see_file f) (depths_of (see_file f)) default_limit (see_file f).loose))) (items_fault one two None x y z))
