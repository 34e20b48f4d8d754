-- Rules and files: what stands at a site in them, by what stands there in their own parts.
use Rattle.std.proofs.Common.{◌≡◌, ℕ, ◌≤◌, ◌<◌, ap, sym, ◌∙◌, subst, arith, List, ◌∷◌, ◌++◌, length, map, Some, None}
use Rattle.guard_syntax.specs.Syntax as sx
use Rattle.guard_syntax.specs.declared.syntax.Body.{out-Body}
use Rattle.guard_syntax.specs.declared.syntax.Let.{Let}
use Rattle.guard_syntax.specs.declared.syntax.Rule.{Rule}
use Rattle.guard_syntax.specs.declared.syntax.Disj.{Disj}
use Rattle.guard_syntax.specs.declared.syntax.RawFile.{RawFile}
use Rattle.guard_syntax.specs.code.Seen.{see_disj, see_rule, see_let, see_body, see_opt_conds, see_file, disj_list, let_list}
use Rattle.guard_syntax.specs.Sites.{merge, sites_body, sites_lets, sites_opt_conds, sites_disjs, sites_rule, sites_rules, sites_file}
use Rattle.rule_names.specs.Pieces.{Sited, Piece, OfFile, OfRule, piece_in, pieces_body, pieces_lets, pieces_opt_conds, pieces_disjs, pieces_rule, pieces_rules, pieces_file, AreInOrder}
use Rattle.rule_names.specs.code.IncreasingSites.{Increasing, IsIncreasing}
use Rattle.rule_names.proofs.Increases.{times, upto-rises, upto-has}
use Rattle.rule_names.proofs.Parts.{Ties, ties-cons, ties-merge, not-in, elsewhere, rise-behind, rise-front, rise-back, two-front, two-back, merged-first, merged-second, among-first, among-second, among-not-first, among-not-second}
use Rattle.rule_names.proofs.Tied.{tied-body, tied-lets, tied-disjs, tied-opt_conds, tied-rules}
use Rattle.rule_names.proofs.Lists.{begins-body}
use Rattle.rule_names.proofs.Shapes.{body-first}

-- ---- a rule

pub rule-conds-rise : (r : Rule) → IsIncreasing (sites_rule (see_rule r)) → IsIncreasing (sites_opt_conds (see_opt_conds r.cond))
rule-conds-rise r h = rise-front r.site (sites_opt_conds (see_opt_conds r.cond)) (sites_body (see_body r.body)) h

pub rule-body-rise : (r : Rule) → IsIncreasing (sites_rule (see_rule r)) → IsIncreasing (sites_body (see_body r.body))
rule-body-rise r h = rise-back r.site (sites_opt_conds (see_opt_conds r.cond)) (sites_body (see_body r.body)) h

pub rule-conds : (n : ℕ) (r : Rule) → IsIncreasing (sites_rule (see_rule r)) → (r.site ≡ n → ⊥) → n < (out-Body r.body).site
    → piece_in (pieces_opt_conds (see_opt_conds r.cond)) n ≡ piece_in (pieces_rule (see_rule r)) n
rule-conds n r h other before =
    let e = body-first n r.body in
    two-front n r.site (OfRule (see_rule r)) (pieces_opt_conds (see_opt_conds r.cond)) (pieces_body (see_body r.body)) (sites_opt_conds (see_opt_conds r.cond)) (sites_body (see_body r.body))
    (tied-body (see_body r.body)) (begins-body (see_body r.body)) h other (omega arith)

pub rule-body : (n : ℕ) (r : Rule) → IsIncreasing (sites_rule (see_rule r)) → (r.site ≡ n → ⊥) → (out-Body r.body).site ≤ n
    → piece_in (pieces_body (see_body r.body)) n ≡ piece_in (pieces_rule (see_rule r)) n
rule-body n r h other from =
    let e = body-first n r.body in
    two-back n r.site (OfRule (see_rule r)) (pieces_opt_conds (see_opt_conds r.cond)) (pieces_body (see_body r.body)) (sites_opt_conds (see_opt_conds r.cond)) (sites_body (see_body r.body))
    (tied-opt_conds (see_opt_conds r.cond)) (begins-body (see_body r.body)) h other (omega arith)

-- ---- rules and the parts outside them

module _ (rs : List Rule) (ds : List Disj) where
  abbrev rules_in : List sx.Rule
  rules_in = map see_rule rs

  abbrev loose_in : sx.Disjs
  loose_in = disj_list (map see_disj ds)

  abbrev pub items_sites : List ℕ
  items_sites = merge (sites_rules rules_in) (sites_disjs loose_in)

  abbrev pub items_pieces : List Sited
  items_pieces = pieces_rules rules_in ++ pieces_disjs loose_in

  pub items-rules-rise : IsIncreasing items_sites → IsIncreasing (sites_rules rules_in)
  items-rules-rise h = merged-first (sites_rules rules_in) (sites_disjs loose_in) h

  pub items-loose-rise : IsIncreasing items_sites → IsIncreasing (sites_disjs loose_in)
  items-loose-rise h = merged-second (sites_rules rules_in) (sites_disjs loose_in) h

  pub items-in-rules : (n : ℕ) (p : Piece) → Some p ≡ piece_in (pieces_rules rules_in) n → Some p ≡ piece_in items_pieces n
  items-in-rules n p is = among-first n (pieces_rules rules_in) (pieces_disjs loose_in) p is

  pub items-in-loose : (n : ℕ) (p : Piece) → IsIncreasing items_sites → Some p ≡ piece_in (pieces_disjs loose_in) n → Some p ≡ piece_in items_pieces n
  items-in-loose n p h is = among-second n (pieces_rules rules_in) (pieces_disjs loose_in) (sites_rules rules_in) (sites_disjs loose_in) p (tied-rules rules_in) (tied-disjs loose_in) h is

  pub items-not-rules : (n : ℕ) → None ≡ piece_in (pieces_rules rules_in) n → piece_in (pieces_disjs loose_in) n ≡ piece_in items_pieces n
  items-not-rules n is = among-not-first n (pieces_rules rules_in) (pieces_disjs loose_in) is

  pub items-not-loose : (n : ℕ) → None ≡ piece_in (pieces_disjs loose_in) n → piece_in (pieces_rules rules_in) n ≡ piece_in items_pieces n
  items-not-loose n is = among-not-second n (pieces_rules rules_in) (pieces_disjs loose_in) is

  items_tied : Ties items_pieces items_sites
  items_tied = ties-merge (pieces_rules rules_in) (pieces_disjs loose_in) (sites_rules rules_in) (sites_disjs loose_in) (tied-rules rules_in) (tied-disjs loose_in)

  -- ---- a file

  module _ (ls : List Let) where
    abbrev lets_in : sx.Lets
    lets_in = let_list (map see_let ls)

    abbrev pub all_sites : List ℕ
    all_sites = 0 ∷ merge (sites_lets lets_in) items_sites

    abbrev pub all_pieces : List Sited
    all_pieces = (0, OfFile) ∷ (pieces_lets lets_in ++ items_pieces)

    inside_rise : IsIncreasing all_sites → IsIncreasing (merge (sites_lets lets_in) items_sites)
    inside_rise h = rise-behind 0 (merge (sites_lets lets_in) items_sites) h

    pub file-lets-rise : IsIncreasing all_sites → IsIncreasing (sites_lets lets_in)
    file-lets-rise h = merged-first (sites_lets lets_in) items_sites (inside_rise h)

    pub file-items-rise : IsIncreasing all_sites → IsIncreasing items_sites
    file-items-rise h = merged-second (sites_lets lets_in) items_sites (inside_rise h)

    inside : (n : ℕ) → (n ≡ 0 → ⊥) → piece_in (pieces_lets lets_in ++ items_pieces) n ≡ piece_in all_pieces n
    inside n other = sym (elsewhere n 0 OfFile (pieces_lets lets_in ++ items_pieces) (λ e. other (sym e)))

    pub file-in-lets : (n : ℕ) (p : Piece) → (n ≡ 0 → ⊥) → Some p ≡ piece_in (pieces_lets lets_in) n → Some p ≡ piece_in all_pieces n
    file-in-lets n p other is = among-first n (pieces_lets lets_in) items_pieces p is ∙ inside n other

    pub file-in-items : (n : ℕ) (p : Piece) → (n ≡ 0 → ⊥) → IsIncreasing all_sites → Some p ≡ piece_in items_pieces n → Some p ≡ piece_in all_pieces n
    file-in-items n p other h is =
        among-second n (pieces_lets lets_in) items_pieces (sites_lets lets_in) items_sites p (tied-lets lets_in) items_tied (inside_rise h) is ∙ inside n other

    pub file-not-lets : (n : ℕ) → (n ≡ 0 → ⊥) → None ≡ piece_in (pieces_lets lets_in) n → piece_in items_pieces n ≡ piece_in all_pieces n
    file-not-lets n other is = among-not-first n (pieces_lets lets_in) items_pieces is ∙ inside n other

    pub file-not-items : (n : ℕ) → (n ≡ 0 → ⊥) → None ≡ piece_in items_pieces n → piece_in (pieces_lets lets_in) n ≡ piece_in all_pieces n
    file-not-items n other is = among-not-second n (pieces_lets lets_in) items_pieces is ∙ inside n other

    pub file_tied : Ties all_pieces all_sites
    file_tied = ties-cons 0 OfFile _ _ (ties-merge (pieces_lets lets_in) items_pieces (sites_lets lets_in) items_sites (tied-lets lets_in) items_tied)

-- the sites of a file in order rise
pub file-rise : (f : RawFile) → AreInOrder (see_file f) → IsIncreasing (sites_file (see_file f))
file-rise f h = record { up = subst (λ (ns : List ℕ). Increasing 0 ns) (sym h) (upto-rises 0 (length f.places)) }

-- and each site with a place has a piece
pub file-has : (f : RawFile) (n : ℕ) → AreInOrder (see_file f) → n < length f.places → piece_in (pieces_file (see_file f)) n ≡ None → ⊥
file-has f n h within none =
    let one = upto-has n 0 (length f.places) (omega arith) (omega arith) in
    let same = (file_tied f.rules.items f.loose.items f.lets.items).same n in
    let no = not-in n (pieces_file (see_file f)) none in
    let there = ap (times n) h in
    omega arith
