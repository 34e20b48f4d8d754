-- A later step of a query has a greater site, in a file whose sites are in order: by the syntax of the file, whose sites rise.
use Rattle.std.proofs.Common.{◌≡◌, ℕ, zero, suc, ◌<◌, ◌≤◌, refl, sym, subst, inl, inr, arith, List, [], ◌∷◌, ◌++◌, length, Some}
use Rattle.std.proofs.lemmas.Option.{none-some, same_Some}
use Rattle.guard_syntax.specs.Sites.{merge, sites_body, sites_conds, sites_disj, sites_disjs, sites_expr, sites_exprs, sites_file, sites_let, sites_lets, sites_opt_conds, sites_opt_expr, sites_part, sites_parts, sites_query, sites_rule, sites_rules, sites_step, sites_steps}
use Rattle.guard_syntax.specs.Syntax.{Body, Conds, Disj, Disjs, Expr, Exprs, File, Let, Lets, OptConds, OptExpr, Part, Parts, Query, Rule, Step, Steps, asked, assign, block, body, call, conds, disj, every, filter, found, function, guarded, index, items, key, keys, kinds, literal, more_disjs, more_exprs, more_lets, more_parts, more_steps, no_conds, no_disjs, no_expr, no_exprs, no_lets, no_parts, no_steps, query, refer, splice, test, this, var, with_conds, with_expr}
use Rattle.rule_names.specs.Pieces.{AreInOrder, OfBody, OfConds, OfDisj, OfExpr, OfFile, OfLet, OfPart, OfQuery, OfRule, OfStep, Piece, Sited, piece_at, piece_in, pieces_body, pieces_conds, pieces_disj, pieces_disjs, pieces_expr, pieces_exprs, pieces_file, pieces_let, pieces_lets, pieces_opt_conds, pieces_opt_expr, pieces_part, pieces_parts, pieces_query, pieces_rule, pieces_rules, pieces_step, pieces_steps}
use Rattle.rule_names.specs.ReferenceGraph.{step_site}
use Rattle.rule_names.specs.code.IncreasingSites.{Increasing}
use Rattle.rule_names.proofs.Increases.{apart, back, front, increasing_lower, past, past-more, upto-rises}
use Rattle.rule_names.proofs.PiecesStand.{append-found, cons-found, none-found}
use Rattle.rule_meaning.specs.Places.{step_in, steps_in}

-- ---- steps

-- the sites of steps rise from a number on
abbrev Rise : ℕ → Steps → Type 0
Rise low no_steps = Unit {0}
Rise low (more_steps p ps) = (low ≤ step_site p) × Rise (suc (step_site p)) ps

-- a step begins with its own site
led : (p : Step) → (rest : List ℕ) × (sites_step p ≡ step_site p ∷ rest)
led (this n) = ([], refl)
led (var n name) = ([], refl)
led (key n name) = ([], refl)
led (index n i) = ([], refl)
led (every n) = ([], refl)
led (items n) = ([], refl)
led (splice n name) = ([], refl)
led (filter n capture c) = (sites_conds c, refl)
led (keys n capture op negated e) = (sites_expr e, refl)

rises : (low : ℕ) (ss : Steps) → Increasing low (sites_steps ss) → Rise low ss
rises low no_steps h = tt
rises low (more_steps p ps) h =
    let it = led p in
    let all : Increasing low (step_site p ∷ (it.0 ++ sites_steps ps)) = subst (λ (ns : List ℕ). Increasing low (ns ++ sites_steps ps)) it.1 h in
    let more = past-more (suc (step_site p)) it.0 (front (suc (step_site p)) it.0 (sites_steps ps) all.1) in (
      all.0,
      rises (suc (step_site p)) ps
          (increasing_lower (suc (step_site p)) (past (suc (step_site p)) it.0) (sites_steps ps) more (back (suc (step_site p)) it.0 (sites_steps ps) all.1)),
    )

above-low : (low : ℕ) (ss : Steps) (i : ℕ) (p : Step) → Rise low ss → step_in ss i ≡ Some p → low ≤ step_site p
above-low low no_steps i p h is = absurd (none-some p is)
above-low low (more_steps s ss) zero p h is = subst (λ (x : Step). low ≤ step_site x) (same_Some s p is) h.0
above-low low (more_steps s ss) (suc i) p h is =
    let first = h.0 in
    let rest = above-low (suc (step_site s)) ss i p h.1 is in
    omega (arith, first, rest)

later-above : (low : ℕ) (ss : Steps) (i j : ℕ) (p r : Step) → Rise low ss → step_in ss i ≡ Some p → step_in ss j ≡ Some r → i < j → step_site p < step_site r
later-above low no_steps i j p r h is also before = absurd (none-some p is)
later-above low (more_steps s ss) i zero p r h is also before = absurd (omega (arith, before))
later-above low (more_steps s ss) zero (suc j) p r h is also before =
    subst (λ (x : Step). step_site x < step_site r) (same_Some s p is) (above-low (suc (step_site s)) ss j r h.1 also)
later-above low (more_steps s ss) (suc i) (suc j) p r h is also before = later-above (suc (step_site s)) ss i j p r h.1 is also (omega (arith, before))

-- ---- each step of a file is one of a query whose steps rise

abbrev InRisen : Piece → Type 0
InRisen (OfStep q i) = (low : ℕ) × Rise low (steps_in q)
InRisen _ = Unit {0}

record Risen (ps : List Sited) (ns : List ℕ) : Type 0 where
  at : (low : ℕ) → Increasing low ns → (n : ℕ) (p : Piece) → piece_in ps n ≡ Some p → InRisen p

risen-none : Risen [] []
risen-none = record { at = λ low h n p is. absurd (none-found n p is) }

risen-cons : (m : ℕ) (q : Piece) (ps : List Sited) (ns : List ℕ) → InRisen q → Risen ps ns → Risen ((m, q) ∷ ps) (m ∷ ns)
risen-cons m q ps ns own rest = record {
  at = λ low h n p is. elim (cons-found n m q p ps is) [
    | inl same ↦ subst InRisen same own
    | inr there ↦ rest.at (suc m) h.1 n p there
  ];
}

risen-append : (ps qs : List Sited) (ns ms : List ℕ) → Risen ps ns → Risen qs ms → Risen (ps ++ qs) (ns ++ ms)
risen-append ps qs ns ms one other = record {
  at = λ low h n p is. elim (append-found n p ps qs is) [
    | inl here ↦ one.at low (front low ns ms h) n p here
    | inr there ↦ other.at (past low ns) (back low ns ms h) n p there
  ];
}

risen-merge : (ps qs : List Sited) (ns ms : List ℕ) → Risen ps ns → Risen qs ms → Risen (ps ++ qs) (merge ns ms)
risen-merge ps qs ns ms one other = record {
  at = λ low h n p is.
      let both = apart low ns ms h in
      elim (append-found n p ps qs is) [
        | inl here ↦ one.at low both.0 n p here
        | inr there ↦ other.at low both.1 n p there
      ];
}

mutual
  body-risen : (x : Body) → Risen (pieces_body x) (sites_body x)
  body-risen (body n ls ds) = risen-cons n (OfBody (body n ls ds)) _ _ tt (risen-merge _ _ _ _ (lets-risen ls) (disjs-risen ds))

  lets-risen : (x : Lets) → Risen (pieces_lets x) (sites_lets x)
  lets-risen no_lets = risen-none
  lets-risen (more_lets l ls) = risen-append _ _ _ _ (let-risen l) (lets-risen ls)

  let-risen : (x : Let) → Risen (pieces_let x) (sites_let x)
  let-risen (assign n name e) = risen-cons n (OfLet (assign n name e)) _ _ tt (expr-risen e)

  conds-risen : (x : Conds) → Risen (pieces_conds x) (sites_conds x)
  conds-risen (conds n ds) = risen-cons n (OfConds (conds n ds)) _ _ tt (disjs-risen ds)

  opt_conds-risen : (x : OptConds) → Risen (pieces_opt_conds x) (sites_opt_conds x)
  opt_conds-risen no_conds = risen-none
  opt_conds-risen (with_conds c) = conds-risen c

  disjs-risen : (x : Disjs) → Risen (pieces_disjs x) (sites_disjs x)
  disjs-risen no_disjs = risen-none
  disjs-risen (more_disjs d ds) = risen-append _ _ _ _ (disj-risen d) (disjs-risen ds)

  disj-risen : (x : Disj) → Risen (pieces_disj x) (sites_disj x)
  disj-risen (disj n ps) = risen-cons n (OfDisj (disj n ps)) _ _ tt (parts-risen ps)

  parts-risen : (x : Parts) → Risen (pieces_parts x) (sites_parts x)
  parts-risen no_parts = risen-none
  parts-risen (more_parts p ps) = risen-append _ _ _ _ (part-risen p) (parts-risen ps)

  part-risen : (x : Part) → Risen (pieces_part x) (sites_part x)
  part-risen (block n any q b) = risen-cons n (OfPart (block n any q b)) _ _ tt (risen-append _ _ _ _ (query-risen q) (body-risen b))
  part-risen (guarded n c b) = risen-cons n (OfPart (guarded n c b)) _ _ tt (risen-append _ _ _ _ (conds-risen c) (body-risen b))
  part-risen (kinds n name c b) = risen-cons n (OfPart (kinds n name c b)) _ _ tt (risen-append _ _ _ _ (opt_conds-risen c) (body-risen b))
  part-risen (test n any q op negated right message) =
      risen-cons n (OfPart (test n any q op negated right message)) _ _ tt (risen-append _ _ _ _ (query-risen q) (opt_expr-risen right))
  part-risen (refer n negated name message) = risen-cons n (OfPart (refer n negated name message)) _ _ tt risen-none
  part-risen (call n negated name es message) = risen-cons n (OfPart (call n negated name es message)) _ _ tt (exprs-risen es)

  query-risen : (x : Query) → Risen (pieces_query x) (sites_query x)
  query-risen (query n ss) = record {
    at = λ low h. (risen-cons n (OfQuery (query n ss)) (pieces_steps (query n ss) 0 ss) (sites_steps ss) tt
        (steps-risen (query n ss) (suc n, rises (suc n) ss h.1) 0 ss)).at low h;
  }

  steps-risen : (q : Query) → (low : ℕ) × Rise low (steps_in q) → (i : ℕ) (x : Steps) → Risen (pieces_steps q i x) (sites_steps x)
  steps-risen q rise i no_steps = risen-none
  steps-risen q rise i (more_steps p ps) = risen-append _ _ _ _ (step-risen q rise i p) (steps-risen q rise (suc i) ps)

  step-risen : (q : Query) → (low : ℕ) × Rise low (steps_in q) → (i : ℕ) (x : Step) → Risen (pieces_step q i x) (sites_step x)
  step-risen q rise i (this m) = risen-cons m (OfStep q i) _ _ rise risen-none
  step-risen q rise i (var m name) = risen-cons m (OfStep q i) _ _ rise risen-none
  step-risen q rise i (key m name) = risen-cons m (OfStep q i) _ _ rise risen-none
  step-risen q rise i (index m k) = risen-cons m (OfStep q i) _ _ rise risen-none
  step-risen q rise i (every m) = risen-cons m (OfStep q i) _ _ rise risen-none
  step-risen q rise i (items m) = risen-cons m (OfStep q i) _ _ rise risen-none
  step-risen q rise i (splice m name) = risen-cons m (OfStep q i) _ _ rise risen-none
  step-risen q rise i (filter m capture c) = risen-cons m (OfStep q i) _ _ rise (conds-risen c)
  step-risen q rise i (keys m capture op negated e) = risen-cons m (OfStep q i) _ _ rise (expr-risen e)

  expr-risen : (x : Expr) → Risen (pieces_expr x) (sites_expr x)
  expr-risen (literal n tree) = risen-cons n (OfExpr (literal n tree)) _ _ tt risen-none
  expr-risen (function n name es) = risen-cons n (OfExpr (function n name es)) _ _ tt (exprs-risen es)
  expr-risen (asked q) = query-risen q
  expr-risen (found n q) = risen-cons n (OfExpr (found n q)) _ _ tt (query-risen q)

  opt_expr-risen : (x : OptExpr) → Risen (pieces_opt_expr x) (sites_opt_expr x)
  opt_expr-risen no_expr = risen-none
  opt_expr-risen (with_expr e) = expr-risen e

  exprs-risen : (x : Exprs) → Risen (pieces_exprs x) (sites_exprs x)
  exprs-risen no_exprs = risen-none
  exprs-risen (more_exprs e es) = risen-append _ _ _ _ (expr-risen e) (exprs-risen es)

rule-risen : (r : Rule) → Risen (pieces_rule r) (sites_rule r)
rule-risen r = risen-cons r.site (OfRule r) _ _ tt (risen-append _ _ _ _ (opt_conds-risen r.cond) (body-risen r.body))

rules-risen : (rs : List Rule) → Risen (pieces_rules rs) (sites_rules rs)
rules-risen [] = risen-none
rules-risen (r ∷ rs) = risen-append _ _ _ _ (rule-risen r) (rules-risen rs)

file-risen : (f : File) → Risen (pieces_file f) (sites_file f)
file-risen f = risen-cons 0 OfFile _ _ tt (risen-merge _ _ _ _ (lets-risen f.lets) (risen-merge _ _ _ _ (rules-risen f.rules) (disjs-risen f.loose)))

pub steps-rise : (f : File) → AreInOrder f → (site : ℕ) (q : Query) (at i j : ℕ) (p r : Step) → piece_at f site ≡ Some (OfStep q at) → step_in (steps_in q) i ≡ Some p
    → step_in (steps_in q) j ≡ Some r → i < j → step_site p < step_site r
steps-rise f order site q at i j p r there is also before =
    let rising : Increasing 0 (sites_file f) = subst (λ (ns : List ℕ). Increasing 0 ns) (sym order) (upto-rises 0 (length f.places)) in
    let it = (file-risen f).at 0 rising site (OfStep q at) there in
    later-above it.0 (steps_in q) i j p r it.1 is also before
