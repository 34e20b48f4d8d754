-- The bodies of parts and those of rules are apart: no body of a part is that of a rule, and no two rules have the same, by their sites, each of which is there once. So a body
-- of a part, and that of a rule without parameters, may be entered where it stands.
use Rattle.std.proofs.Common.{◌≡◌, ℕ, zero, suc, ◌+◌, ◌≤◌, Bool, true, cond, sym, ap, ◌∙◌, subst, inl, inr, arith, List, [], ◌∷◌, ◌++◌, length, Contains, Option, Some, None}
use Rattle.std.specs.Prelude.{◌==◌}
use Rattle.std.proofs.lemmas.Bool.Decides.{nat_tests}
use Rattle.std.proofs.lemmas.Option.{none-some, same_Some}
use Rattle.guard_syntax.specs.Sites.{merge, sites_body, sites_conds, sites_disj, sites_disjs, sites_expr, sites_exprs, sites_file, sites_let, sites_lets, sites_opt_conds, sites_opt_expr, sites_part, sites_parts, sites_query, sites_rule, sites_rules, sites_step, sites_steps, upto}
use Rattle.guard_syntax.specs.Syntax.{Body, Conds, Disj, Disjs, Expr, Exprs, File, Let, Lets, OptConds, OptExpr, Part, Parts, Query, Rule, Step, Steps, asked, assign, block, body, call, conds, disj, every, filter, found, function, guarded, index, items, key, keys, kinds, literal, more_disjs, more_exprs, more_lets, more_parts, more_steps, no_conds, no_disjs, no_expr, no_exprs, no_lets, no_parts, no_steps, query, refer, splice, test, this, var, with_conds, with_expr}
use Rattle.rule_names.specs.EnclosingScopes.{homes_body}
use Rattle.rule_names.specs.Pieces.{AreInOrder, OfBody, OfConds, OfDisj, OfExpr, OfFile, OfLet, OfPart, OfQuery, OfRule, OfStep, Piece, Sited, piece_at, piece_in, pieces_body, pieces_conds, pieces_disj, pieces_disjs, pieces_expr, pieces_exprs, pieces_let, pieces_lets, pieces_opt_conds, pieces_opt_expr, pieces_part, pieces_parts, pieces_query, pieces_rule, pieces_rules, pieces_step, pieces_steps}
use Rattle.rule_names.proofs.Increases.{once, times, times-append, times-merge, upto-rises}
use Rattle.rule_names.proofs.PiecesStand.{append-found, cons-found, none-found}
use Rattle.evidence_rules.specs.CitedLines.{body_site}
use Rattle.scope_frames.specs.code.Frames.{IsPlain}
use Rattle.scope_frames.proofs.NamesBound.{Placed, rule-body}
use Rattle.scope_frames.proofs.RulesNamed.{placed-by}

-- ---- the sites of a part are among those of the run in which it stands

abbrev times_in : ℕ → Piece → ℕ
times_in m (OfPart x) = times m (sites_part x)
times_in m _ = 0

record Held (ps : List Sited) (ns : List ℕ) : Type 0 where
  at : (n : ℕ) (p : Piece) → piece_in ps n ≡ Some p → (m : ℕ) → times_in m p ≤ times m ns

held-none : Held [] []
held-none = record { at = λ n p is m. absurd (none-found n p is) }

held-cons : (k : ℕ) (q : Piece) (ps : List Sited) (ns : List ℕ) → ((m : ℕ) → times_in m q ≤ times m (k ∷ ns)) → Held ps ns → Held ((k, q) ∷ ps) (k ∷ ns)
held-cons k q ps ns own rest = record {
  at = λ n p is m. elim (cons-found n k q p ps is) [
    | inl same ↦ subst (λ (r : Piece). times_in m r ≤ times m (k ∷ ns)) same (own m)
    | inr there ↦ let less = rest.at n p there m in omega (arith, less)
  ];
}

held-append : (ps qs : List Sited) (ns ms : List ℕ) → Held ps ns → Held qs ms → Held (ps ++ qs) (ns ++ ms)
held-append ps qs ns ms one other = record {
  at = λ n p is m. elim (append-found n p ps qs is) [
    | inl here ↦ let less = one.at n p here m in omega (arith, less, times-append m ns ms)
    | inr there ↦ let less = other.at n p there m in omega (arith, less, times-append m ns ms)
  ];
}

held-merge : (ps qs : List Sited) (ns ms : List ℕ) → Held ps ns → Held qs ms → Held (ps ++ qs) (merge ns ms)
held-merge ps qs ns ms one other = record {
  at = λ n p is m. elim (append-found n p ps qs is) [
    | inl here ↦ let less = one.at n p here m in omega (arith, less, times-merge m ns ms)
    | inr there ↦ let less = other.at n p there m in omega (arith, less, times-merge m ns ms)
  ];
}

mutual
  body-held : (x : Body) → Held (pieces_body x) (sites_body x)
  body-held (body n ls ds) = held-cons n (OfBody (body n ls ds)) _ _ (λ m. omega arith) (held-merge _ _ _ _ (lets-held ls) (disjs-held ds))

  lets-held : (x : Lets) → Held (pieces_lets x) (sites_lets x)
  lets-held no_lets = held-none
  lets-held (more_lets l ls) = held-append _ _ _ _ (let-held l) (lets-held ls)

  let-held : (x : Let) → Held (pieces_let x) (sites_let x)
  let-held (assign n name e) = held-cons n (OfLet (assign n name e)) _ _ (λ m. omega arith) (expr-held e)

  conds-held : (x : Conds) → Held (pieces_conds x) (sites_conds x)
  conds-held (conds n ds) = held-cons n (OfConds (conds n ds)) _ _ (λ m. omega arith) (disjs-held ds)

  opt_conds-held : (x : OptConds) → Held (pieces_opt_conds x) (sites_opt_conds x)
  opt_conds-held no_conds = held-none
  opt_conds-held (with_conds c) = conds-held c

  disjs-held : (x : Disjs) → Held (pieces_disjs x) (sites_disjs x)
  disjs-held no_disjs = held-none
  disjs-held (more_disjs d ds) = held-append _ _ _ _ (disj-held d) (disjs-held ds)

  disj-held : (x : Disj) → Held (pieces_disj x) (sites_disj x)
  disj-held (disj n ps) = held-cons n (OfDisj (disj n ps)) _ _ (λ m. omega arith) (parts-held ps)

  parts-held : (x : Parts) → Held (pieces_parts x) (sites_parts x)
  parts-held no_parts = held-none
  parts-held (more_parts p ps) = held-append _ _ _ _ (part-held p) (parts-held ps)

  part-held : (x : Part) → Held (pieces_part x) (sites_part x)
  part-held (block n any q b) = held-cons n (OfPart (block n any q b)) _ _ (λ m. omega arith) (held-append _ _ _ _ (query-held q) (body-held b))
  part-held (guarded n c b) = held-cons n (OfPart (guarded n c b)) _ _ (λ m. omega arith) (held-append _ _ _ _ (conds-held c) (body-held b))
  part-held (kinds n name c b) = held-cons n (OfPart (kinds n name c b)) _ _ (λ m. omega arith) (held-append _ _ _ _ (opt_conds-held c) (body-held b))
  part-held (test n any q op negated right message) =
      held-cons n (OfPart (test n any q op negated right message)) _ _ (λ m. omega arith) (held-append _ _ _ _ (query-held q) (opt_expr-held right))
  part-held (refer n negated name message) = held-cons n (OfPart (refer n negated name message)) _ _ (λ m. omega arith) held-none
  part-held (call n negated name es message) = held-cons n (OfPart (call n negated name es message)) _ _ (λ m. omega arith) (exprs-held es)

  query-held : (x : Query) → Held (pieces_query x) (sites_query x)
  query-held (query n ss) = held-cons n (OfQuery (query n ss)) _ _ (λ m. omega arith) (steps-held (query n ss) 0 ss)

  steps-held : (q : Query) (i : ℕ) (x : Steps) → Held (pieces_steps q i x) (sites_steps x)
  steps-held q i no_steps = held-none
  steps-held q i (more_steps p ps) = held-append _ _ _ _ (step-held q i p) (steps-held q (suc i) ps)

  step-held : (q : Query) (i : ℕ) (x : Step) → Held (pieces_step q i x) (sites_step x)
  step-held q i (this m) = held-cons m (OfStep q i) _ _ (λ k. omega arith) held-none
  step-held q i (var m name) = held-cons m (OfStep q i) _ _ (λ k. omega arith) held-none
  step-held q i (key m name) = held-cons m (OfStep q i) _ _ (λ k. omega arith) held-none
  step-held q i (index m at) = held-cons m (OfStep q i) _ _ (λ k. omega arith) held-none
  step-held q i (every m) = held-cons m (OfStep q i) _ _ (λ k. omega arith) held-none
  step-held q i (items m) = held-cons m (OfStep q i) _ _ (λ k. omega arith) held-none
  step-held q i (splice m name) = held-cons m (OfStep q i) _ _ (λ k. omega arith) held-none
  step-held q i (filter m capture c) = held-cons m (OfStep q i) _ _ (λ k. omega arith) (conds-held c)
  step-held q i (keys m capture op negated e) = held-cons m (OfStep q i) _ _ (λ k. omega arith) (expr-held e)

  expr-held : (x : Expr) → Held (pieces_expr x) (sites_expr x)
  expr-held (literal n tree) = held-cons n (OfExpr (literal n tree)) _ _ (λ m. omega arith) held-none
  expr-held (function n name es) = held-cons n (OfExpr (function n name es)) _ _ (λ m. omega arith) (exprs-held es)
  expr-held (asked q) = query-held q
  expr-held (found n q) = held-cons n (OfExpr (found n q)) _ _ (λ m. omega arith) (query-held q)

  opt_expr-held : (x : OptExpr) → Held (pieces_opt_expr x) (sites_opt_expr x)
  opt_expr-held no_expr = held-none
  opt_expr-held (with_expr e) = expr-held e

  exprs-held : (x : Exprs) → Held (pieces_exprs x) (sites_exprs x)
  exprs-held no_exprs = held-none
  exprs-held (more_exprs e es) = held-append _ _ _ _ (expr-held e) (exprs-held es)

rule-held : (r : Rule) → Held (pieces_rule r) (sites_rule r)
rule-held r = held-cons r.site (OfRule r) _ _ (λ m. omega arith) (held-append _ _ _ _ (opt_conds-held r.cond) (body-held r.body))

rules-held : (rs : List Rule) → Held (pieces_rules rs) (sites_rules rs)
rules-held [] = held-none
rules-held (r ∷ rs) = held-append _ _ _ _ (rule-held r) (rules-held rs)

-- ---- bodies

-- the body of a part
abbrev pub inner_body : Part → Option Body
inner_body (block n any q b) = Some b
inner_body (guarded n c b) = Some b
inner_body (kinds n name c b) = Some b
inner_body _ = None

pub own-time : (n : ℕ) (ns : List ℕ) → times n (n ∷ ns) ≡ suc (times n ns)
own-time n ns =
    let same : (n == n) ≡ true = grind (arith, nat_tests) in
    let one : times n (n ∷ ns) ≡ 1 + times n ns = ap (λ (b : Bool). cond b 1 0 + times n ns) same in
    omega (arith, one)

pub body-has : (b : Body) → 1 ≤ times (body_site b) (sites_body b)
body-has (body n ls ds) = let own = own-time n (merge (sites_lets ls) (sites_disjs ds)) in omega (arith, own)

part-has : (x : Part) (b : Body) → inner_body x ≡ Some b → 1 ≤ times (body_site b) (sites_part x)
part-has (block n any q c) b is =
    subst (λ (y : Body). 1 ≤ times (body_site y) (sites_part (block n any q c))) (same_Some c b is)
    (let own = body-has c in omega (arith, own, times-append (body_site c) (sites_query q) (sites_body c)))
part-has (guarded n conditions c) b is =
    subst (λ (y : Body). 1 ≤ times (body_site y) (sites_part (guarded n conditions c))) (same_Some c b is)
    (let own = body-has c in omega (arith, own, times-append (body_site c) (sites_conds conditions) (sites_body c)))
part-has (kinds n name conditions c) b is =
    subst (λ (y : Body). 1 ≤ times (body_site y) (sites_part (kinds n name conditions c))) (same_Some c b is)
    (let own = body-has c in omega (arith, own, times-append (body_site c) (sites_opt_conds conditions) (sites_body c)))
part-has (test n any q op negated right message) b is = absurd (none-some b is)
part-has (refer n negated name message) b is = absurd (none-some b is)
part-has (call n negated name es message) b is = absurd (none-some b is)

pub rule-has : (r : Rule) → 1 ≤ times (body_site r.body) (sites_rule r)
rule-has r = let own = body-has r.body in omega (arith, own, times-append (body_site r.body) (sites_opt_conds r.cond) (sites_body r.body))

pub rules-have : (rs : List Rule) (r : Rule) → Contains rs r → 1 ≤ times (body_site r.body) (sites_rules rs)
rules-have [] r (k, within, is) = absurd (omega (arith, within))
rules-have (x ∷ rs) r (zero, within, is) =
    let own : 1 ≤ times (body_site r.body) (sites_rule x) = subst (λ (y : Rule). 1 ≤ times (body_site y.body) (sites_rule x)) is (rule-has x) in
    omega (arith, own, times-append (body_site r.body) (sites_rule x) (sites_rules rs))
rules-have (x ∷ rs) r (suc k, within, is) =
    let rest = rules-have rs r (k, omega (arith, within), is) in
    omega (arith, rest, times-append (body_site r.body) (sites_rule x) (sites_rules rs))

-- two rules with the same body are the same
pub same-rule : (rs : List Rule) (r t : Rule) → Contains rs r → Contains rs t → body_site r.body ≡ body_site t.body → times (body_site r.body) (sites_rules rs) ≤ 1 → r ≡ t
same-rule [] r t (k, within, is) other same one = absurd (omega (arith, within))
same-rule (x ∷ rs) r t (zero, within, is) (zero, also, are) same one = sym is ∙ are
same-rule (x ∷ rs) r t (zero, within, is) (suc j, also, are) same one =
    let own : 1 ≤ times (body_site r.body) (sites_rule x) = subst (λ (y : Rule). 1 ≤ times (body_site y.body) (sites_rule x)) is (rule-has x) in
    let rest : 1 ≤ times (body_site r.body) (sites_rules rs) = subst (λ (m : ℕ). 1 ≤ times m (sites_rules rs)) (sym same) (rules-have rs t (j, omega (arith, also), are)) in
    absurd (omega (arith, own, rest, one, times-append (body_site r.body) (sites_rule x) (sites_rules rs)))
same-rule (x ∷ rs) r t (suc k, within, is) (zero, also, are) same one =
    let own : 1 ≤ times (body_site r.body) (sites_rule x) =
    subst (λ (m : ℕ). 1 ≤ times m (sites_rule x)) (sym same) (subst (λ (y : Rule). 1 ≤ times (body_site y.body) (sites_rule x)) are (rule-has x)) in
    let rest = rules-have rs r (k, omega (arith, within), is) in
    absurd (omega (arith, own, rest, one, times-append (body_site r.body) (sites_rule x) (sites_rules rs)))
same-rule (x ∷ rs) r t (suc k, within, is) (suc j, also, are) same one =
    same-rule rs r t (k, omega (arith, within), is) (j, omega (arith, also), are) same
    (omega (arith, one, times-append (body_site r.body) (sites_rule x) (sites_rules rs)))

-- a part in a rule, with a body of the same site: the site is there twice
module _ (n : ℕ) (x : Part) (m : ℕ) (has : 1 ≤ times m (sites_part x)) where
  in-body : (b : Body) → piece_in (pieces_body b) n ≡ Some (OfPart x) → body_site b ≡ m → 2 ≤ times m (sites_body b)
  in-body (body k ls ds) there same = elim (cons-found n k (OfBody (body k ls ds)) (OfPart x) (pieces_lets ls ++ pieces_disjs ds) there) [
    | inl other ↦ absurd cc
    | inr inside ↦
        let less = (held-merge _ _ _ _ (lets-held ls) (disjs-held ds)).at n (OfPart x) inside m in
        let own : times m (k ∷ merge (sites_lets ls) (sites_disjs ds)) ≡ suc (times m (merge (sites_lets ls) (sites_disjs ds))) =
        subst (λ (j : ℕ). times j (k ∷ merge (sites_lets ls) (sites_disjs ds)) ≡ suc (times j (merge (sites_lets ls) (sites_disjs ds)))) same
        (own-time k (merge (sites_lets ls) (sites_disjs ds))) in
        omega (arith, has, less, own)
  ]

  in-rule : (r : Rule) → piece_in (pieces_rule r) n ≡ Some (OfPart x) → body_site r.body ≡ m → 2 ≤ times m (sites_rule r)
  in-rule r there same = elim (cons-found n r.site (OfRule r) (OfPart x) (pieces_opt_conds r.cond ++ pieces_body r.body) there) [
    | inl other ↦ absurd cc
    | inr inside ↦ elim (append-found n (OfPart x) (pieces_opt_conds r.cond) (pieces_body r.body) inside) [
      | inl first ↦
          let less = (opt_conds-held r.cond).at n (OfPart x) first m in
          let own : 1 ≤ times m (sites_body r.body) = subst (λ (j : ℕ). 1 ≤ times j (sites_body r.body)) same (body-has r.body) in
          omega (arith, has, less, own, times-append m (sites_opt_conds r.cond) (sites_body r.body))
      | inr second ↦ let two = in-body r.body second same in omega (arith, two, times-append m (sites_opt_conds r.cond) (sites_body r.body))
    ]
  ]

  in-rules : (rs : List Rule) (r : Rule) → Contains rs r → body_site r.body ≡ m → piece_in (pieces_rules rs) n ≡ Some (OfPart x) → 2 ≤ times m (sites_rules rs)
  in-rules [] r (k, within, is) same there = absurd (omega (arith, within))
  in-rules (y ∷ rs) r (zero, within, is) same there = elim (append-found n (OfPart x) (pieces_rule y) (pieces_rules rs) there) [
    | inl first ↦
        let two = in-rule y first (ap (λ (z : Rule). body_site z.body) is ∙ same) in
        omega (arith, two, times-append m (sites_rule y) (sites_rules rs))
    | inr second ↦
        let less = (rules-held rs).at n (OfPart x) second m in
        let own : 1 ≤ times m (sites_rule y) = subst (λ (j : ℕ). 1 ≤ times j (sites_rule y)) (ap (λ (z : Rule). body_site z.body) is ∙ same) (rule-has y) in
        omega (arith, has, less, own, times-append m (sites_rule y) (sites_rules rs))
  ]
  in-rules (y ∷ rs) r (suc k, within, is) same there = elim (append-found n (OfPart x) (pieces_rule y) (pieces_rules rs) there) [
    | inl first ↦
        let less = (rule-held y).at n (OfPart x) first m in
        let own : 1 ≤ times m (sites_rules rs) = subst (λ (j : ℕ). 1 ≤ times j (sites_rules rs)) same (rules-have rs r (k, omega (arith, within), is)) in
        omega (arith, has, less, own, times-append m (sites_rule y) (sites_rules rs))
    | inr second ↦
        let two = in-rules rs r (k, omega (arith, within), is) same second in
        omega (arith, two, times-append m (sites_rule y) (sites_rules rs))
  ]

module _ (f : File) (ordered : AreInOrder f) where
  pub site-once : (m : ℕ) → times m (sites_file f) ≤ 1
  site-once m =
      let same : times m (sites_file f) ≡ times m (upto 0 (length f.places)) = ap (times m) ordered in
      omega (arith, same, once m 0 (upto 0 (length f.places)) (upto-rises 0 (length f.places)))

  pub file-times : (m : ℕ) → times m (sites_lets f.lets) + (times m (sites_rules f.rules) + times m (sites_disjs f.loose)) ≤ times m (sites_file f)
  file-times m =
      omega (arith, times-merge m (sites_lets f.lets) (merge (sites_rules f.rules) (sites_disjs f.loose)), times-merge m (sites_rules f.rules) (sites_disjs f.loose))

  -- each site of a part stands there once
  pub part-once : (n : ℕ) (x : Part) → piece_at f n ≡ Some (OfPart x) → (m : ℕ) → times m (sites_part x) ≤ 1
  part-once n x there m =
      let one = site-once m in
      let all = file-times m in
      elim (cons-found n 0 OfFile (OfPart x) (pieces_lets f.lets ++ (pieces_rules f.rules ++ pieces_disjs f.loose)) there) [
        | inl other ↦ absurd cc
        | inr inside ↦ elim (append-found n (OfPart x) (pieces_lets f.lets) (pieces_rules f.rules ++ pieces_disjs f.loose) inside) [
          | inl first ↦ let less = (lets-held f.lets).at n (OfPart x) first m in omega (arith, one, all, less)
          | inr rest ↦ elim (append-found n (OfPart x) (pieces_rules f.rules) (pieces_disjs f.loose) rest) [
            | inl second ↦ let less = (rules-held f.rules).at n (OfPart x) second m in omega (arith, one, all, less)
            | inr third ↦ let less = (disjs-held f.loose).at n (OfPart x) third m in omega (arith, one, all, less)
          ]
        ]
      ]

  -- two rules of a file with the same body are the same
  pub one-rule : (r t : Rule) → Contains f.rules r → Contains f.rules t → body_site r.body ≡ body_site t.body → r ≡ t
  one-rule r t has also same =
      let one = site-once (body_site r.body) in
      let all = file-times (body_site r.body) in
      same-rule f.rules r t has also same (omega (arith, one, all))

  -- no rule has the body of a part
  pub part-apart : (n : ℕ) (x : Part) (b : Body) → piece_at f n ≡ Some (OfPart x) → inner_body x ≡ Some b → (r : Rule) → Contains f.rules r → body_site r.body ≡ body_site b → ⊥
  part-apart n x b there inner r has same =
      let one = site-once (body_site b) in
      let all = file-times (body_site b) in
      let part = part-has x b inner in
      let own : 1 ≤ times (body_site b) (sites_rules f.rules) = subst (λ (j : ℕ). 1 ≤ times j (sites_rules f.rules)) same (rules-have f.rules r has) in
      elim (cons-found n 0 OfFile (OfPart x) (pieces_lets f.lets ++ (pieces_rules f.rules ++ pieces_disjs f.loose)) there) [
        | inl other ↦ absurd cc
        | inr inside ↦ elim (append-found n (OfPart x) (pieces_lets f.lets) (pieces_rules f.rules ++ pieces_disjs f.loose) inside) [
          | inl first ↦ let less = (lets-held f.lets).at n (OfPart x) first (body_site b) in absurd (omega (arith, one, all, part, own, less))
          | inr rest ↦ elim (append-found n (OfPart x) (pieces_rules f.rules) (pieces_disjs f.loose) rest) [
            | inl second ↦ let two = in-rules n x (body_site b) part f.rules r has same second in absurd (omega (arith, one, all, two))
            | inr third ↦ let less = (disjs-held f.loose).at n (OfPart x) third (body_site b) in absurd (omega (arith, one, all, part, own, less))
          ]
        ]
      ]

  -- ---- what may be entered

  pub plain-inner : (n : ℕ) (x : Part) (b : Body) → piece_at f n ≡ Some (OfPart x) → inner_body x ≡ Some b → IsPlain f (body_site b)
  plain-inner n x b there inner r has same = absurd (part-apart n x b there inner r has same)

  pub plain-body : (r : Rule) → Contains f.rules r → r.params ≡ [] → IsPlain f (body_site r.body)
  plain-body r has plain t also same = ap (λ (x : Rule). x.params) (one-rule t r also has same) ∙ plain

  placed-body : (b : Body) → Placed f (homes_body 0 b) (pieces_body b) → piece_at f (body_site b) ≡ Some (OfBody b)
  placed-body (body n ls ds) s = s.pieces.0

  -- the body of a rule is what the file has at its site
  pub body-at : (r : Rule) → Contains f.rules r → piece_at f (body_site r.body) ≡ Some (OfBody r.body)
  body-at r has = placed-body r.body (rule-body f r (placed-by f ordered r has))

  abbrev IsABody : Option Piece → Type 0
  IsABody (Some (OfBody b)) = Unit {0}
  IsABody o = ⊥

  -- a site with something else
  pub plain-else : (site : ℕ) (o : Option Piece) → piece_at f site ≡ o → (IsABody o → ⊥) → IsPlain f site
  plain-else site o is other r has same =
      absurd (other (subst IsABody (sym (body-at r has) ∙ ap (piece_at f) same ∙ is) tt))
