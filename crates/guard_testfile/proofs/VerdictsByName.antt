-- Verdicts by the names under which they are reported, from the last name to the first.
use Rattle.std.proofs.Common.{◌≡◌, ℕ, ◌+◌, ◌-◌, ◌<◌, ◌≤◌, Bool, true, false, cond, List, [], ◌∷◌, ◌++◌, length, get_or, take, drop, map, codes, Option, Some, refl, sym, ap, subst, ◌∙◌, arith, length-append}
use Rattle.std.specs.Bool.{Decides}
use Rattle.std.specs.Borrow.{Bor}
use Rattle.std.specs.BTreeMap.{BTreeMap, get_by}
use Rattle.std.specs.Cmp.Lexicographic.{slice_cmp}
use Rattle.std.specs.List.{flat_map}
use Rattle.std.specs.Map.{update}
use Rattle.std.specs.Ordering.{nat_cmp}
use Rattle.std.specs.Str.{bytes_eq}
use Rattle.std.proofs.lemmas.List.{drop_more, map-append, take-append-drop}
use Rattle.std.proofs.lemmas.Grind.{flat_map-append}
use Rattle.std.proofs.lemmas.Slice.Eq.{bytes_eq-Decides}
use Rattle.guard_syntax.specs.code.Seen.{disj_list, see_disj, see_rule}
use Rattle.guard_syntax.specs.declared.row.Verdict.{Verdict}
use Rattle.guard_syntax.specs.declared.syntax.Disj.{Disj}
use Rattle.guard_syntax.specs.declared.syntax.Rule.{Rule}
use Rattle.report_text.specs.RuleLines.{name_of_loose, name_of_rule}
use Rattle.report_text.proofs.RuleNames.{loose-named, names, names-more}
use Rattle.guard_testfile.specs.Texts.{verdict_under}
use Rattle.guard_testfile.specs.code.Written.{AreVerdicts}
use Rattle.guard_testfile.proofs.NamesOfSites.{plain-name}

-- ---- a verdict in front of others

same-test : (a b : Bool) (x y : List ℕ) → Decides a (x ≡ y) → Decides b (y ≡ x) → a ≡ b
same-test true true x y one two = refl
same-test true false x y one two = sym (two.1 (sym (one.0 refl)))
same-test false true x y one two = one.1 (sym (two.0 refl))
same-test false false x y one two = refl

pub verdicts-more : (names : List (List ℕ)) (vs : List Verdict) (old new : BTreeMap (Bor (List ℕ)) Verdict) (key : List ℕ) (v : Verdict)
    → AreVerdicts names vs old
    → ((q : List ℕ) → get_by (λ k. slice_cmp nat_cmp q k.now) new ≡ update bytes_eq (λ ds. get_by (λ k. slice_cmp nat_cmp ds k.now) old) key (Some v) q)
    → AreVerdicts (key ∷ names) (v ∷ vs) new
verdicts-more names vs old new key v before up name =
    up name
    ∙ ap (λ (o : Option Verdict). cond (bytes_eq key name) (Some v) o) (before name)
    ∙ ap (λ (b : Bool). cond b (Some v) (verdict_under names vs name)) (same-test (bytes_eq key name) (bytes_eq name key) key name (bytes_eq-Decides key name) (bytes_eq-Decides name key))

-- ---- rule by rule

-- what is known behind a rule of which so many verdicts are left in front
pub record AreBehind (rules : List Rule) (loose : List (List ℕ)) (vs : List Verdict) (index left : ℕ) (by_name : BTreeMap (Bor (List ℕ)) Verdict) : Type 0 where
  pub counted : left ≡ length (names (take index rules))
  pub known : AreVerdicts (names (drop index rules) ++ loose) (drop left vs) by_name

module _ (rules : List Rule) (loose : List (List ℕ)) (vs : List Verdict) (i j left : ℕ) (rule : Rule) (next : j + 1 ≡ i) (within : j < length rules) (is : rule ≡ get_or rules j rule) where
  names-front : names (drop j rules) ≡ name_of_rule (see_rule rule) ++ names (drop i rules)
  names-front =
      ap names (drop_more rules j rule within) ∙ ap (λ (y : Rule). names (y ∷ drop (j + 1) rules)) (sym is) ∙ ap (λ (n : ℕ). name_of_rule (see_rule rule) ++ names (drop n rules)) next

  names-counted : length (names (take i rules)) ≡ length (names (take j rules)) + length (name_of_rule (see_rule rule))
  names-counted =
      ap (λ (n : ℕ). length (names (take n rules))) (sym next) ∙ ap (λ (t : List (List ℕ)). length t) (names-more rules j rule within is) ∙ length-append (names (take j rules)) (name_of_rule (see_rule rule))

  -- a rule without parameters has one
  pub has-verdict : length rule.params ≡ 0 → left ≡ length (names (take i rules)) → left ≡ left - 1 + 1
  has-verdict plain left-is =
      let one : length (name_of_rule (see_rule rule)) ≡ 1 = ap (λ (t : List (List ℕ)). length t) (plain-name (see_rule rule) rule.params plain) in
      let counted = names-counted in
      omega (arith, counted, left-is, one)

  -- and that is the last of those that are left
  pub behind-more : (old new : BTreeMap (Bor (List ℕ)) Verdict) (key : List ℕ) (v d : Verdict) (m : ℕ) → m + 1 ≡ left → length rule.params ≡ 0 → key ≡ rule.name.text
      → left ≤ length vs → v ≡ get_or vs m d
      → ((q : List ℕ) → get_by (λ k. slice_cmp nat_cmp q k.now) new ≡ update bytes_eq (λ ds. get_by (λ k. slice_cmp nat_cmp ds k.now) old) key (Some v) q)
      → AreBehind rules loose vs i left old → AreBehind rules loose vs j m new
  behind-more old new key v d m one plain named enough at up before =
      let own : name_of_rule (see_rule rule) ≡ rule.name.text ∷ [] = plain-name (see_rule rule) rule.params plain in
      let single : length (name_of_rule (see_rule rule)) ≡ 1 = ap (λ (t : List (List ℕ)). length t) own in
      let counted = names-counted in
      let left-is = before.counted in
      let there : m < length vs = omega (arith, one, enough) in
      let front : drop m vs ≡ v ∷ drop left vs = drop_more vs m d there ∙ ap (λ (x : Verdict). x ∷ drop (m + 1) vs) (sym at) ∙ ap (λ (n : ℕ). v ∷ drop n vs) one in
      let all : names (drop j rules) ++ loose ≡ rule.name.text ∷ (names (drop i rules) ++ loose) =
      ap (λ (t : List (List ℕ)). t ++ loose) (names-front ∙ ap (λ (t : List (List ℕ)). t ++ names (drop i rules)) own) in
      record {
        counted = omega (arith, counted, left-is, single, one);
        known = subst (λ (t : List (List ℕ)). AreVerdicts t (drop m vs) new) (sym all)
            (subst (λ (t : List Verdict). AreVerdicts (rule.name.text ∷ (names (drop i rules) ++ loose)) t new) (sym front)
            (verdicts-more (names (drop i rules) ++ loose) (drop left vs) old new rule.name.text v before.known
            (λ q. up q ∙ ap (λ (k : List ℕ). update bytes_eq (λ ds. get_by (λ k. slice_cmp nat_cmp ds k.now) old) k (Some v) q) named)));
      }

names-append : (rs qs : List Rule) → names (rs ++ qs) ≡ names rs ++ names qs
names-append rs qs = ap (flat_map name_of_rule) (map-append see_rule rs qs) ∙ flat_map-append name_of_rule (map see_rule rs) (map see_rule qs)

-- as many verdicts are left as there are names in front, so no more than there are names
pub left-within : (rules : List Rule) (loose : List (List ℕ)) (vs : List Verdict) (i left : ℕ) → left ≡ length (names (take i rules)) → length vs ≡ length (names rules ++ loose) → left ≤ length vs
left-within rules loose vs i left is all =
    let whole : names rules ≡ names (take i rules) ++ names (drop i rules) = ap names (sym (take-append-drop i rules)) ∙ names-append (take i rules) (drop i rules) in
    let long : length (names rules) ≡ length (names (take i rules)) + length (names (drop i rules)) =
    ap (λ (t : List (List ℕ)). length t) whole ∙ length-append (names (take i rules)) (names (drop i rules)) in
    let both : length (names rules ++ loose) ≡ length (names rules) + length loose = length-append (names rules) loose in
    omega (arith, is, all, long, both)

-- ---- the parts outside rules

one-verdict : (vs : List Verdict) (d : Verdict) → length vs ≡ 1 → vs ≡ get_or vs 0 d ∷ []
one-verdict [] d e = absurd (omega (arith, e))
one-verdict (v ∷ []) d e = refl
one-verdict (v ∷ (w ∷ vs)) d e = absurd (omega (arith, e))

pub default-verdict : (ds : List Disj) (vs : List Verdict) (old new : BTreeMap (Bor (List ℕ)) Verdict) (key : List ℕ) (v d : Verdict) → (length ds ≡ 0 → ⊥)
    → length vs ≡ length (name_of_loose (disj_list (map see_disj ds))) → AreVerdicts [] [] old → key ≡ codes "default" → v ≡ get_or vs 0 d
    → ((q : List ℕ) → get_by (λ k. slice_cmp nat_cmp q k.now) new ≡ update bytes_eq (λ ds. get_by (λ k. slice_cmp nat_cmp ds k.now) old) key (Some v) q)
    → AreVerdicts (name_of_loose (disj_list (map see_disj ds))) vs new
default-verdict ds vs old new key v d some count none named at up =
    let own : name_of_loose (disj_list (map see_disj ds)) ≡ codes "default" ∷ [] = loose-named ds some in
    let single : length (name_of_loose (disj_list (map see_disj ds))) ≡ 1 = ap (λ (t : List (List ℕ)). length t) own in
    let all : vs ≡ v ∷ [] = one-verdict vs d (count ∙ single) ∙ ap (λ (x : Verdict). x ∷ []) (sym at) in
    subst (λ (t : List (List ℕ)). AreVerdicts t vs new) (ap (λ (k : List ℕ). k ∷ []) named ∙ sym own)
    (subst (λ (t : List Verdict). AreVerdicts (key ∷ []) t new) (sym all) (verdicts-more [] [] old new key v none up))
