-- The rule that a reference or a call names is one of the file, so its site is not that of the file.
use Rattle.std.proofs.Common.{◌≡◌, ℕ, zero, suc, Bool, true, false, cond, sym, ap, ◌∙◌, List, [], ◌∷◌, ◌++◌, length, Option, Some, None, option_and_then, replicate, nat_lt, if◌then◌else◌, true≢false}
use Rattle.std.specs.Prelude.{bytes_eq, find, slice_index_or, slice_set}
use Rattle.std.proofs.lemmas.Option.{same_Some, none-some}
use Rattle.guard_syntax.specs.Named.{Named}
use Rattle.guard_syntax.specs.Syntax.{Body, Lets, Let, Conds, OptConds, Disjs, Disj, Parts, Part, Query, Steps, Step, Expr, OptExpr, Exprs, Rule, File, body, no_lets, more_lets, assign, conds, no_conds, with_conds, no_disjs, more_disjs, disj, no_parts, more_parts, block, guarded, kinds, test, refer, call, query, no_steps, more_steps, this, var, key, index, every, items, splice, filter, keys, literal, function, asked, found, no_expr, with_expr, no_exprs, more_exprs}
use Rattle.rule_names.specs.declared.bind.Link.{Link}
use Rattle.rule_names.specs.Resolution.{Linked, Meant, Scopes, link_rule, link_variable, links_body, links_conds, links_disj, links_disjs, links_expr, links_exprs, links_in, links_let, links_lets, resolution_of, links_opt_conds, links_opt_expr, links_part, links_parts, links_query, links_rule, links_rules, links_step, links_steps, meant_in, rule_of, target_of, with_link, with_links}
use Rattle.rule_names.specs.Pieces.{Piece, OfRule, piece_at, pieces_disjs, pieces_lets, pieces_rule, pieces_rules}
use Rattle.rule_names.specs.Scopes.{given_body, given_conds, given_file}
use Rattle.rule_names.specs.Uses.{rule_named}
use Rattle.evidence_truth.proofs.PiecesAt.{Each, IsAt, IsOrdered, parted}

-- the link is no link to the file
abbrev IsToRule : Link → Type 0
IsToRule l = rule_of l ≡ Some 0 → ⊥

abbrev AreToRules : List Linked → Type 0
AreToRules [] = Unit {0}
AreToRules (l ∷ ls) = IsToRule l.1 × AreToRules ls

joined : (xs ys : List Linked) → AreToRules xs → AreToRules ys → AreToRules (xs ++ ys)
joined [] ys h k = k
joined (x ∷ xs) ys h k = (h.0, joined xs ys h.1 k)

module _ (f : File) (ordered : IsOrdered f) where
  is_rule : Option Piece → Bool
  is_rule (Some (OfRule r)) = true
  is_rule _ = false

  rule-apart : (r : Rule) → piece_at f r.site ≡ Some (OfRule r) → r.site ≡ 0 → ⊥
  unfolding is_rule
  rule-apart r there at_zero =
      let one : is_rule (piece_at f r.site) ≡ true = ap is_rule there in
      let other : is_rule (piece_at f r.site) ≡ false = ap (λ (n : ℕ). is_rule (piece_at f n)) at_zero in
      true≢false (sym one ∙ other)

  linked-rule : (rs : List Rule) → Each (IsAt f) (pieces_rules rs) → (name : List ℕ) (n : ℕ) → AreToRules (link_rule f n (rule_named rs name))
  linked-rule [] h name n = tt
  linked-rule (r ∷ rs) h name n =
      let both = parted (IsAt f) (pieces_rule r) (pieces_rules rs) h in
      by (bytes_eq name r.name.text) both.0.0 (linked-rule rs both.1 name n)
    where
      by : (b : Bool) → piece_at f r.site ≡ Some (OfRule r) → AreToRules (link_rule f n (rule_named rs name))
          → AreToRules (link_rule f n (cond b (Some r) (find (λ (x : Rule). bytes_eq name x.name.text) rs)))
      by true there later = ((λ e. rule-apart r there (same_Some r.site 0 e)), tt)
      by false there later = later

  pub rules-there : Each (IsAt f) (pieces_rules f.rules)
  rules-there =
      let both = parted (IsAt f) (pieces_lets f.lets) (pieces_rules f.rules ++ pieces_disjs f.loose) ordered.1 in
      let others = parted (IsAt f) (pieces_rules f.rules) (pieces_disjs f.loose) both.1 in
      others.0

  pub loose-there : Each (IsAt f) (pieces_disjs f.loose)
  loose-there =
      let both = parted (IsAt f) (pieces_lets f.lets) (pieces_rules f.rules ++ pieces_disjs f.loose) ordered.1 in
      let others = parted (IsAt f) (pieces_rules f.rules) (pieces_disjs f.loose) both.1 in
      others.1

  to-rule : (n : ℕ) (name : List ℕ) → AreToRules (link_rule f n (rule_named f.rules name))
  to-rule n name = linked-rule f.rules rules-there name n

  to-variable : (n : ℕ) (o : Option Meant) → AreToRules (link_variable f n o)
  to-variable n None = tt
  to-variable n (Some m) = ((λ e. none-some 0 e), tt)

  mutual
    in-body : (scopes : Scopes) (params : List Named) (x : Body) → AreToRules (links_body f scopes params x)
    in-body scopes params (body n ls ds) =
        joined (links_lets f (given_body params (body n ls ds) ∷ scopes) ls) (links_disjs f (given_body params (body n ls ds) ∷ scopes) ds)
        (in-lets (given_body params (body n ls ds) ∷ scopes) ls) (in-disjs (given_body params (body n ls ds) ∷ scopes) ds)

    in-lets : (scopes : Scopes) (x : Lets) → AreToRules (links_lets f scopes x)
    in-lets scopes no_lets = tt
    in-lets scopes (more_lets l ls) = joined (links_let f scopes l) (links_lets f scopes ls) (in-let scopes l) (in-lets scopes ls)

    in-let : (scopes : Scopes) (x : Let) → AreToRules (links_let f scopes x)
    in-let scopes (assign n name e) = in-expr scopes e

    in-conds : (scopes : Scopes) (x : Conds) → AreToRules (links_conds f scopes x)
    in-conds scopes (conds n ds) = in-disjs scopes ds

    in-opt_conds : (scopes : Scopes) (x : OptConds) → AreToRules (links_opt_conds f scopes x)
    in-opt_conds scopes no_conds = tt
    in-opt_conds scopes (with_conds c) = in-conds scopes c

    in-disjs : (scopes : Scopes) (x : Disjs) → AreToRules (links_disjs f scopes x)
    in-disjs scopes no_disjs = tt
    in-disjs scopes (more_disjs d ds) = joined (links_disj f scopes d) (links_disjs f scopes ds) (in-disj scopes d) (in-disjs scopes ds)

    in-disj : (scopes : Scopes) (x : Disj) → AreToRules (links_disj f scopes x)
    in-disj scopes (disj n ps) = in-parts scopes ps

    in-parts : (scopes : Scopes) (x : Parts) → AreToRules (links_parts f scopes x)
    in-parts scopes no_parts = tt
    in-parts scopes (more_parts p ps) = joined (links_part f scopes p) (links_parts f scopes ps) (in-part scopes p) (in-parts scopes ps)

    in-part : (scopes : Scopes) (x : Part) → AreToRules (links_part f scopes x)
    in-part scopes (block n any q b) = joined (links_query f scopes q) (links_body f scopes [] b) (in-query scopes q) (in-body scopes [] b)
    in-part scopes (guarded n c b) = joined (links_conds f scopes c) (links_body f scopes [] b) (in-conds scopes c) (in-body scopes [] b)
    in-part scopes (kinds n name c b) = joined (links_opt_conds f scopes c) (links_body f scopes [] b) (in-opt_conds scopes c) (in-body scopes [] b)
    in-part scopes (test n any q op negated right message) = joined (links_query f scopes q) (links_opt_expr f scopes right) (in-query scopes q) (in-opt_expr scopes right)
    in-part scopes (refer n negated name message) = to-rule n name
    in-part scopes (call n negated name es message) = joined (link_rule f n (rule_named f.rules name)) (links_exprs f scopes es) (to-rule n name) (in-exprs scopes es)

    in-query : (scopes : Scopes) (x : Query) → AreToRules (links_query f scopes x)
    in-query scopes (query n ss) = in-steps scopes ss

    in-steps : (scopes : Scopes) (x : Steps) → AreToRules (links_steps f scopes x)
    in-steps scopes no_steps = tt
    in-steps scopes (more_steps p ps) = joined (links_step f scopes p) (links_steps f scopes ps) (in-step scopes p) (in-steps scopes ps)

    in-step : (scopes : Scopes) (x : Step) → AreToRules (links_step f scopes x)
    in-step scopes (this n) = tt
    in-step scopes (var n name) = to-variable n (meant_in scopes name)
    in-step scopes (key n name) = tt
    in-step scopes (index n i) = tt
    in-step scopes (every n) = tt
    in-step scopes (items n) = tt
    in-step scopes (splice n name) = to-variable n (meant_in scopes name.text)
    in-step scopes (filter n capture c) = in-conds (given_conds c ∷ scopes) c
    in-step scopes (keys n capture op negated e) = in-expr scopes e

    in-expr : (scopes : Scopes) (x : Expr) → AreToRules (links_expr f scopes x)
    in-expr scopes (literal n tree) = tt
    in-expr scopes (function n name es) = in-exprs scopes es
    in-expr scopes (asked q) = in-query scopes q
    in-expr scopes (found n q) = in-query scopes q

    in-opt_expr : (scopes : Scopes) (x : OptExpr) → AreToRules (links_opt_expr f scopes x)
    in-opt_expr scopes no_expr = tt
    in-opt_expr scopes (with_expr e) = in-expr scopes e

    in-exprs : (scopes : Scopes) (x : Exprs) → AreToRules (links_exprs f scopes x)
    in-exprs scopes no_exprs = tt
    in-exprs scopes (more_exprs e es) = joined (links_expr f scopes e) (links_exprs f scopes es) (in-expr scopes e) (in-exprs scopes es)

  in-rules : (scopes : Scopes) (rs : List Rule) → AreToRules (links_rules f scopes rs)
  in-rules scopes [] = tt
  in-rules scopes (r ∷ rs) =
      joined (links_rule f scopes r) (links_rules f scopes rs)
      (joined (links_opt_conds f scopes r.cond) (links_body f scopes r.params r.body) (in-opt_conds scopes r.cond) (in-body scopes r.params r.body)) (in-rules scopes rs)

  in-file : AreToRules (links_in f)
  in-file =
      joined (links_lets f (given_file f ∷ []) f.lets) (links_rules f (given_file f ∷ []) f.rules ++ links_disjs f (given_file f ∷ []) f.loose) (in-lets (given_file f ∷ []) f.lets)
      (joined (links_rules f (given_file f ∷ []) f.rules) (links_disjs f (given_file f ∷ []) f.loose) (in-rules (given_file f ∷ []) f.rules) (in-disjs (given_file f ∷ []) f.loose))

-- ---- by their sites

abbrev IsToRuleIf : Option Link → Type 0
IsToRuleIf None = Unit {0}
IsToRuleIf (Some l) = IsToRule l

abbrev AllToRules : List (Option Link) → Type 0
AllToRules [] = Unit {0}
AllToRules (o ∷ os) = IsToRuleIf o × AllToRules os

none-linked : (n : ℕ) → AllToRules (replicate n None)
none-linked zero = tt
none-linked (suc n) = (tt, none-linked n)

one-set : (os : List (Option Link)) (n : ℕ) (l : Link) → IsToRule l → AllToRules os → AllToRules (slice_set os n (Some l))
one-set [] n l h all = tt
one-set (o ∷ os) zero l h all = (h, all.1)
one-set (o ∷ os) (suc n) l h all = (all.0, one-set os n l h all.1)

one-linked : (os : List (Option Link)) (l : Linked) → IsToRule l.1 → AllToRules os → AllToRules (with_link os l)
one-linked os l h all = by (nat_lt l.0 (length os))
  where
    by : (b : Bool) → AllToRules (if b then slice_set os l.0 (Some l.1) else os)
    by true = one-set os l.0 l.1 h all
    by false = all

all-linked : (os : List (Option Link)) (ls : List Linked) → AreToRules ls → AllToRules os → AllToRules (with_links os ls)
all-linked os [] h all = all
all-linked os (l ∷ ls) h all = all-linked (with_link os l) ls h.1 (one-linked os l h.0 all)

linked-at : (os : List (Option Link)) (n : ℕ) → AllToRules os → IsToRuleIf (slice_index_or os n None)
linked-at [] n all = tt
linked-at (o ∷ os) zero all = all.0
linked-at (o ∷ os) (suc n) all = linked-at os n all.1

-- the target of a reference or a call is not the file
pub target-apart : (f : File) → IsOrdered f → (site : ℕ) → target_of f site ≡ Some 0 → ⊥
target-apart f ordered site e = by (slice_index_or (resolution_of f) site None) (linked-at (resolution_of f) site (all-linked (replicate (length f.places) None) (links_in f) (in-file f ordered) (none-linked (length f.places)))) e
  where
    by : (o : Option Link) → IsToRuleIf o → option_and_then rule_of o ≡ Some 0 → ⊥
    by None h e = none-some 0 e
    by (Some l) h e = h e
