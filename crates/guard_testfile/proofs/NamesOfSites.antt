-- The names of the sites of rules: a rule is found at its own site. By induction on the rules.
use Rattle.std.proofs.Common.{◌≡◌, ℕ, zero, suc, ◌+◌, ◌<◌, ◌≤◌, Bool, true, false, cond, List, [], ◌∷◌, ◌++◌, length, get_or, take, map, codes, Option, Some, refl, sym, ap, ap₂, subst, ◌∙◌, arith}
use Rattle.std.specs.Prelude.{Contains, is_some, ◌||◌}
use Rattle.std.specs.Borrow.{Bor}
use Rattle.std.specs.Ordering.{nat_cmp}
use Rattle.std.specs.Cmp.Lexicographic.{slice_cmp}
use Rattle.std.specs.BTreeMap.{BTreeMap, get_by}
use Rattle.std.specs.List.{flat_map, list_any}
use Rattle.std.specs.Map.{update}
use Rattle.std.specs.Str.{bytes_eq}
use Rattle.std.specs.Bool.{Decides}
use Rattle.std.proofs.lemmas.List.{get_or-map, length-map, take_all}
use Rattle.std.proofs.lemmas.List.Folds.{list_any-append}
use Rattle.std.proofs.lemmas.Option.{same_Some}
use Rattle.std.proofs.lemmas.Slice.Eq.{bytes_eq-Decides}
use Rattle.guard_syntax.specs.Named.{Named}
use Rattle.guard_syntax.specs.Syntax as sx
use Rattle.guard_syntax.specs.code.Seen.{disj_list, see_disj, see_rule}
use Rattle.guard_syntax.specs.declared.syntax.Disj.{Disj}
use Rattle.guard_syntax.specs.declared.syntax.Rule.{Rule}
use Rattle.report_text.specs.RuleLines.{if_plain, name_of_loose, name_of_rule, reported_names}
use Rattle.report_text.proofs.RuleNames.{loose-named, names, names-more}
use Rattle.rule_names.specs.Pieces.{AreInOrder, OfFile, OfRule, pieces_body, pieces_disjs, pieces_lets, pieces_opt_conds, pieces_rule, pieces_rules}
use Rattle.rule_names.specs.code.Within.{IsAmong, StandsIn}
use Rattle.rule_names.proofs.Among.{IsAmong-behind, IsAmong-first, IsAmong-inner, IsAmong-last}
use Rattle.rule_names.proofs.PiecesFound.{piece-found}
use Rattle.guard_testfile.specs.code.RuleSites.{AreSites, name_of_piece, name_of_site}

rule-among : (rs : List sx.Rule) (k : ℕ) (r : sx.Rule) → k < length rs → get_or rs k r ≡ r → IsAmong (pieces_rule r) (pieces_rules rs)
rule-among [] k r within is = absurd (omega (arith, within))
rule-among (q ∷ rs) zero r within is = subst (λ (x : sx.Rule). IsAmong (pieces_rule x) (pieces_rule q ++ pieces_rules rs)) is (IsAmong-first (pieces_rule q) (pieces_rules rs))
rule-among (q ∷ rs) (suc k) r within is =
    IsAmong-inner (pieces_rule r) (pieces_rules rs) (pieces_rule q ++ pieces_rules rs) (rule-among rs k r (omega (arith, within)) is) (IsAmong-last (pieces_rule q) (pieces_rules rs))

-- a rule of a file
pub rule-named : (f : sx.File) → AreInOrder f → (r : sx.Rule) → Contains f.rules r → name_of_site f r.site ≡ r.name.text
rule-named f order r (k, within, is) =
    let some = pieces_rule r in
    let lets = pieces_lets f.lets in
    let rules = pieces_rules f.rules in
    let loose = pieces_disjs f.loose in
    let stands : StandsIn f some =
    IsAmong-behind (0, OfFile) some (lets ++ (rules ++ loose))
    (IsAmong-inner some (rules ++ loose) (lets ++ (rules ++ loose)) (IsAmong-inner some rules (rules ++ loose) (rule-among f.rules k r within is) (IsAmong-first rules loose)) (IsAmong-last lets (rules ++ loose))) in
    ap name_of_piece (piece-found f r.site (OfRule r) (pieces_opt_conds r.cond ++ pieces_body r.body) order stands)

-- the parts outside rules
pub default-named : (f : sx.File) → name_of_site f 0 ≡ codes "default"
default-named f = refl

-- ---- maps from names to sites

abbrev at : List ℕ → BTreeMap (Bor (List ℕ)) ℕ → Option ℕ
at name sites = get_by (λ k. slice_cmp nat_cmp name k.now) sites

-- one name more
pub sites-more : (f : sx.File) (names : List (List ℕ)) (old new : BTreeMap (Bor (List ℕ)) ℕ) (key : List ℕ) (site : ℕ)
    → AreSites f names old
    → ((q : List ℕ) → get_by (λ k. slice_cmp nat_cmp q k.now) new ≡ update bytes_eq (λ ds. get_by (λ k. slice_cmp nat_cmp ds k.now) old) key (Some site) q)
    → name_of_site f site ≡ key → AreSites f (names ++ key ∷ []) new
sites-more f names old new key site before up is = record {
  named = λ name s found. named-by name s (bytes_eq key name) refl (sym (up name) ∙ found);
  whole = λ name. ap is_some (up name) ∙ whole-at name ∙ sym (list_any-append (λ other. bytes_eq name other) names (key ∷ []));
}
  where
    named-by : (name : List ℕ) (s : ℕ) (b : Bool) → bytes_eq key name ≡ b → cond b (Some site) (at name old) ≡ Some s → name_of_site f s ≡ name
    named-by name s true same found = ap (name_of_site f) (sym (same_Some site s found)) ∙ is ∙ (bytes_eq-Decides key name).0 same
    named-by name s false other found = before.named name s found

    -- the test of two names does not ask which comes first
    back : (name : List ℕ) (a b : Bool) → Decides a (key ≡ name) → Decides b (name ≡ key) → b ≡ a
    back name true true one two = refl
    back name false false one two = refl
    back name true false one two = two.1 (sym (one.0 refl))
    back name false true one two = sym (one.1 (sym (two.0 refl)))

    one-more : (some : Bool) (o : Option ℕ) (b : Bool) → is_some o ≡ some → is_some (cond b (Some site) o) ≡ (some || (b || false))
    one-more true o true is = refl
    one-more false o true is = refl
    one-more true o false is = is
    one-more false o false is = is

    whole-at : (name : List ℕ) → is_some (cond (bytes_eq key name) (Some site) (at name old)) ≡ (list_any (λ other. bytes_eq name other) names || (bytes_eq name key || false))
    whole-at name =
        one-more (list_any (λ other. bytes_eq name other) names) (at name old) (bytes_eq key name) (before.whole name)
        ∙ ap (λ (b : Bool). list_any (λ other. bytes_eq name other) names || (b || false)) (sym (back name (bytes_eq key name) (bytes_eq name key) (bytes_eq-Decides key name) (bytes_eq-Decides name key)))

-- ---- rule by rule

pub plain-name : (rule : sx.Rule) (params : List Named) → length params ≡ 0 → if_plain rule.name.text params ≡ rule.name.text ∷ []
plain-name rule [] e = refl
plain-name rule (p ∷ ps) e = absurd (omega (arith, e))

module _ (f : sx.File) (rs : List Rule) (i : ℕ) (rule : Rule) (within : i < length rs) (is : rule ≡ get_or rs i rule) where
  stands : f.rules ≡ map see_rule rs → Contains f.rules (see_rule rule)
  stands same =
      let there : get_or (map see_rule rs) i (see_rule rule) ≡ see_rule rule = get_or-map see_rule rs i rule (see_rule rule) within ∙ ap see_rule (sym is) in
      let long : length (map see_rule rs) ≡ length rs = length-map rs see_rule in
      subst (λ (t : List sx.Rule). Contains t (see_rule rule)) (sym same) (i, omega (arith, long, within), there)

  -- any other has its site under its name
  pub rule-added : (old new : BTreeMap (Bor (List ℕ)) ℕ) (key : List ℕ) (site : ℕ) → AreInOrder f → f.rules ≡ map see_rule rs → length rule.params ≡ 0 → key ≡ rule.name.text → site ≡ rule.site
      → ((q : List ℕ) → get_by (λ k. slice_cmp nat_cmp q k.now) new ≡ update bytes_eq (λ ds. get_by (λ k. slice_cmp nat_cmp ds k.now) old) key (Some site) q)
      → AreSites f (names (take i rs)) old → AreSites f (names (take (i + 1) rs)) new
  rule-added old new key site order same plain named sited up before =
      subst (λ (t : List (List ℕ)). AreSites f t new)
      (ap (λ (k : List ℕ). names (take i rs) ++ k ∷ []) named ∙ sym (names-more rs i rule within is ∙ ap (λ (t : List (List ℕ)). names (take i rs) ++ t) (plain-name (see_rule rule) rule.params plain)))
      (sites-more f (names (take i rs)) old new key site before up (ap (name_of_site f) sited ∙ rule-named f order (see_rule rule) (stands same) ∙ sym named))

-- the names of all rules and of the parts outside are those that are reported
pub all-names : (f : sx.File) (rs : List Rule) (ds : List Disj) (i : ℕ) → f.rules ≡ map see_rule rs → f.loose ≡ disj_list (map see_disj ds) → length rs ≤ i
    → reported_names f ≡ names (take i rs) ++ name_of_loose (disj_list (map see_disj ds))
all-names f rs ds i rules loose past =
    ap₂ (λ (r : List sx.Rule) (d : sx.Disjs). flat_map name_of_rule r ++ name_of_loose d) rules loose
    ∙ ap (λ (t : List Rule). names t ++ name_of_loose (disj_list (map see_disj ds))) (sym (take_all i rs past))

pub sites-default : (f : sx.File) (rs : List Rule) (ds : List Disj) (i : ℕ) (old new : BTreeMap (Bor (List ℕ)) ℕ) (key : List ℕ) (site : ℕ) → f.rules ≡ map see_rule rs → f.loose ≡ disj_list (map see_disj ds)
    → length rs ≤ i → (length ds ≡ 0 → ⊥) → key ≡ codes "default" → site ≡ 0
    → ((q : List ℕ) → get_by (λ k. slice_cmp nat_cmp q k.now) new ≡ update bytes_eq (λ ds. get_by (λ k. slice_cmp nat_cmp ds k.now) old) key (Some site) q)
    → AreSites f (names (take i rs)) old → AreSites f (reported_names f) new
sites-default f rs ds i old new key site rules loose past some named sited up before =
    subst (λ (t : List (List ℕ)). AreSites f t new)
    (ap (λ (k : List ℕ). names (take i rs) ++ k ∷ []) named ∙ sym (all-names f rs ds i rules loose past ∙ ap (λ (t : List (List ℕ)). names (take i rs) ++ t) (loose-named ds some)))
    (sites-more f (names (take i rs)) old new key site before up (ap (name_of_site f) sited ∙ default-named f ∙ sym named))
