-- Each part of a rule file is found at its own site, and so is each part in it.
use Rattle.std.proofs.Common.{◌≡◌, ℕ, suc, ◌+◌, ◌≤◌, Bool, true, false, cond, refl, sym, ap, ◌∙◌, subst, arith, List, [], ◌∷◌, ◌++◌, length, Some}
use Rattle.std.specs.Prelude.{◌==◌, find, option_map}
use Rattle.std.proofs.lemmas.Bool.Decides.{nat_tests}
use Rattle.std.proofs.lemmas.Option.{same_Some, none-some}
use Rattle.guard_syntax.specs.Syntax.{Body, Lets, Let, Conds, OptConds, Disjs, Disj, Parts, Part, Query, Steps, Step, Expr, OptExpr, Exprs, Rule, File, body, no_lets, more_lets, assign, conds, no_conds, with_conds, no_disjs, more_disjs, disj, no_parts, more_parts, block, guarded, kinds, test, refer, call, query, no_steps, more_steps, this, var, key, index, every, items, splice, filter, keys, literal, function, asked, found, no_expr, with_expr, no_exprs, more_exprs}
use Rattle.rule_names.specs.Pieces.{Piece, OfFile, OfLet, OfRule, OfBody, OfConds, OfDisj, OfPart, OfQuery, OfStep, OfExpr, Sited, AreInOrder, piece_in, piece_at, pieces_file, pieces_body, pieces_lets, pieces_let, pieces_conds, pieces_opt_conds, pieces_disjs, pieces_disj, pieces_parts, pieces_part, pieces_query, pieces_steps, pieces_step, pieces_expr, pieces_opt_expr, pieces_exprs, pieces_rule, pieces_rules}
use Rattle.rule_names.specs.Uses.{expr_site}
use Rattle.rule_names.specs.ReferenceGraph.{part_site}
use Rattle.rule_names.proofs.Increases.{once, times, upto-rises}
use Rattle.rule_names.proofs.Parts.{Ties, hits, no-hit, here, elsewhere, ties-cons, ties-merge}
use Rattle.rule_names.proofs.Tied.{tied-disjs, tied-lets, tied-rules}
use Rattle.guard_syntax.specs.Sites.{merge, sites_disjs, sites_file, sites_lets, sites_rules, upto}

-- ---- what holds of each piece

abbrev pub Each : (Sited → Type 0) → List Sited → Type 0
Each P [] = Unit {0}
Each P (s ∷ ss) = P s × Each P ss

module _ (P : Sited → Type 0) where
  pub parted : (xs ys : List Sited) → Each P (xs ++ ys) → Each P xs × Each P ys
  parted [] ys h = (tt, h)
  parted (x ∷ xs) ys h = let both = parted xs ys h.1 in ((h.0, both.0), both.1)

  pub joined : (xs ys : List Sited) → Each P xs → Each P ys → Each P (xs ++ ys)
  joined [] ys h k = k
  joined (x ∷ xs) ys h k = (h.0, joined xs ys h.1 k)

pub each-other : (P Q : Sited → Type 0) → ((s : Sited) → P s → Q s) → (ss : List Sited) → Each P ss → Each Q ss
each-other P Q f [] h = tt
each-other P Q f (s ∷ ss) h = (f s h.0, each-other P Q f ss h.1)

-- what is found at a site is one of the pieces, and has the site
pub found-one : (P : Sited → Type 0) (ss : List Sited) (n : ℕ) (p : Piece) → Each P ss → piece_in ss n ≡ Some p → P (n, p)
found-one P [] n p h e = absurd (none-some p e)
found-one P ((m, q) ∷ ss) n p h e = by (found-one P ss n p h.1) (m == n) refl e
  where
    by : (piece_in ss n ≡ Some p → P (n, p)) → (b : Bool) → (m == n) ≡ b → option_map (λ (s : Sited). s.1) (cond b (Some (m, q)) (find (λ (s : Sited). s.0 == n) ss)) ≡ Some p → P (n, p)
    by later true is found_is =
        let same : m ≡ n = grind (arith, nat_tests, is) in
        subst (λ (k : ℕ). P (k, p)) same (subst (λ (x : Piece). P (m, x)) (same_Some q p found_is) h.0)
    by later false is found_is = later found_is

-- ---- where each site stands once

counted : (n : ℕ) (ss : List Sited) (p : Piece) → piece_in ss n ≡ Some p → hits n ss ≡ 0 → ⊥
counted n ss p e none = none-some p (sym (no-hit n ss none) ∙ e)

alone : (ss : List Sited) → ((n : ℕ) → hits n ss ≤ 1) → Each (λ s. piece_in ss s.0 ≡ Some s.1) ss
alone [] few = tt
alone ((m, q) ∷ ss) few = (here m m q ss refl, each-other (λ s. piece_in ss s.0 ≡ Some s.1) (λ s. piece_in ((m, q) ∷ ss) s.0 ≡ Some s.1) later ss (alone ss (λ n. fewer n (m == n) refl)))
  where
    fewer : (n : ℕ) (b : Bool) → (m == n) ≡ b → hits n ss ≤ 1
    fewer n b is = let most = few n in let more : hits n ss ≤ hits n ((m, q) ∷ ss) = omega arith in omega arith

    later : (s : Sited) → piece_in ss s.0 ≡ Some s.1 → piece_in ((m, q) ∷ ss) s.0 ≡ Some s.1
    later (n, p) e = elsewhere n m q ss (λ same. counted n ss p e (rest n same)) ∙ e
      where
        rest : (n : ℕ) → m ≡ n → hits n ss ≡ 0
        rest n same =
            let test : (m == n) ≡ true = grind (arith, nat_tests, same) in
            let sum : hits n ((m, q) ∷ ss) ≡ 1 + hits n ss = ap (λ (b : Bool). cond b 1 0 + hits n ss) test in
            let most = few n in
            omega arith

-- ---- the parts of a file

abbrev pub pieces_of : Piece → List Sited
pieces_of OfFile = []
pieces_of (OfLet l) = pieces_let l
pieces_of (OfRule r) = pieces_rule r
pieces_of (OfBody b) = pieces_body b
pieces_of (OfConds c) = pieces_conds c
pieces_of (OfDisj d) = pieces_disj d
pieces_of (OfPart p) = pieces_part p
pieces_of (OfQuery q) = pieces_query q
pieces_of (OfStep q i) = pieces_query q
pieces_of (OfExpr e) = pieces_expr e

abbrev pub HasSite : ℕ → Piece → Type 0
HasSite n (OfExpr e) = expr_site e ≡ n
HasSite n (OfPart p) = part_site p ≡ n
HasSite n OfFile = 0 ≡ n
HasSite n _ = Unit {0}

module _ (At : Sited → Type 0) where
  -- a piece has the site at which it is found, and what is At a site in the whole is so in the piece
  abbrev pub Whole : Sited → Type 0
  Whole s = HasSite s.0 s.1 × Each At (pieces_of s.1)

  mutual
    whole-body : (x : Body) → Each At (pieces_body x) → Each Whole (pieces_body x)
    whole-body (body n ls ds) h =
        let both = parted At (pieces_lets ls) (pieces_disjs ds) h.1 in
        ((tt, h), joined Whole (pieces_lets ls) (pieces_disjs ds) (whole-lets ls both.0) (whole-disjs ds both.1))

    whole-lets : (x : Lets) → Each At (pieces_lets x) → Each Whole (pieces_lets x)
    whole-lets no_lets h = tt
    whole-lets (more_lets l ls) h =
        let both = parted At (pieces_let l) (pieces_lets ls) h in
        joined Whole (pieces_let l) (pieces_lets ls) (whole-let l both.0) (whole-lets ls both.1)

    whole-let : (x : Let) → Each At (pieces_let x) → Each Whole (pieces_let x)
    whole-let (assign n name e) h = ((tt, h), whole-expr e h.1)

    whole-conds : (x : Conds) → Each At (pieces_conds x) → Each Whole (pieces_conds x)
    whole-conds (conds n ds) h = ((tt, h), whole-disjs ds h.1)

    whole-opt_conds : (x : OptConds) → Each At (pieces_opt_conds x) → Each Whole (pieces_opt_conds x)
    whole-opt_conds no_conds h = tt
    whole-opt_conds (with_conds c) h = whole-conds c h

    whole-disjs : (x : Disjs) → Each At (pieces_disjs x) → Each Whole (pieces_disjs x)
    whole-disjs no_disjs h = tt
    whole-disjs (more_disjs d ds) h =
        let both = parted At (pieces_disj d) (pieces_disjs ds) h in
        joined Whole (pieces_disj d) (pieces_disjs ds) (whole-disj d both.0) (whole-disjs ds both.1)

    whole-disj : (x : Disj) → Each At (pieces_disj x) → Each Whole (pieces_disj x)
    whole-disj (disj n ps) h = ((tt, h), whole-parts ps h.1)

    whole-parts : (x : Parts) → Each At (pieces_parts x) → Each Whole (pieces_parts x)
    whole-parts no_parts h = tt
    whole-parts (more_parts p ps) h =
        let both = parted At (pieces_part p) (pieces_parts ps) h in
        joined Whole (pieces_part p) (pieces_parts ps) (whole-part p both.0) (whole-parts ps both.1)

    whole-part : (x : Part) → Each At (pieces_part x) → Each Whole (pieces_part x)
    whole-part (block n any q b) h =
        let both = parted At (pieces_query q) (pieces_body b) h.1 in
        ((refl, h), joined Whole (pieces_query q) (pieces_body b) (whole-query q both.0) (whole-body b both.1))
    whole-part (guarded n c b) h =
        let both = parted At (pieces_conds c) (pieces_body b) h.1 in
        ((refl, h), joined Whole (pieces_conds c) (pieces_body b) (whole-conds c both.0) (whole-body b both.1))
    whole-part (kinds n name c b) h =
        let both = parted At (pieces_opt_conds c) (pieces_body b) h.1 in
        ((refl, h), joined Whole (pieces_opt_conds c) (pieces_body b) (whole-opt_conds c both.0) (whole-body b both.1))
    whole-part (test n any q op negated right message) h =
        let both = parted At (pieces_query q) (pieces_opt_expr right) h.1 in
        ((refl, h), joined Whole (pieces_query q) (pieces_opt_expr right) (whole-query q both.0) (whole-opt_expr right both.1))
    whole-part (refer n negated name message) h = ((refl, h), tt)
    whole-part (call n negated name es message) h = ((refl, h), whole-exprs es h.1)

    whole-query : (x : Query) → Each At (pieces_query x) → Each Whole (pieces_query x)
    whole-query (query n ss) h = ((tt, h), whole-steps (query n ss) 0 ss h h.1)

    whole-steps : (q : Query) (i : ℕ) (x : Steps) → Each At (pieces_query q) → Each At (pieces_steps q i x) → Each Whole (pieces_steps q i x)
    whole-steps q i no_steps whole h = tt
    whole-steps q i (more_steps p ps) whole h =
        let both = parted At (pieces_step q i p) (pieces_steps q (suc i) ps) h in
        joined Whole (pieces_step q i p) (pieces_steps q (suc i) ps) (whole-step q i p whole both.0) (whole-steps q (suc i) ps whole both.1)

    whole-step : (q : Query) (i : ℕ) (x : Step) → Each At (pieces_query q) → Each At (pieces_step q i x) → Each Whole (pieces_step q i x)
    whole-step q i (this n) whole h = ((tt, whole), tt)
    whole-step q i (var n name) whole h = ((tt, whole), tt)
    whole-step q i (key n name) whole h = ((tt, whole), tt)
    whole-step q i (index n at) whole h = ((tt, whole), tt)
    whole-step q i (every n) whole h = ((tt, whole), tt)
    whole-step q i (items n) whole h = ((tt, whole), tt)
    whole-step q i (splice n name) whole h = ((tt, whole), tt)
    whole-step q i (filter n capture c) whole h = ((tt, whole), whole-conds c h.1)
    whole-step q i (keys n capture op negated e) whole h = ((tt, whole), whole-expr e h.1)

    whole-expr : (x : Expr) → Each At (pieces_expr x) → Each Whole (pieces_expr x)
    whole-expr (literal n tree) h = ((refl, h), tt)
    whole-expr (function n name es) h = ((refl, h), whole-exprs es h.1)
    whole-expr (asked q) h = whole-query q h
    whole-expr (found n q) h = ((refl, h), whole-query q h.1)

    whole-opt_expr : (x : OptExpr) → Each At (pieces_opt_expr x) → Each Whole (pieces_opt_expr x)
    whole-opt_expr no_expr h = tt
    whole-opt_expr (with_expr e) h = whole-expr e h

    whole-exprs : (x : Exprs) → Each At (pieces_exprs x) → Each Whole (pieces_exprs x)
    whole-exprs no_exprs h = tt
    whole-exprs (more_exprs e es) h =
        let both = parted At (pieces_expr e) (pieces_exprs es) h in
        joined Whole (pieces_expr e) (pieces_exprs es) (whole-expr e both.0) (whole-exprs es both.1)

  whole-rule : (r : Rule) → Each At (pieces_rule r) → Each Whole (pieces_rule r)
  whole-rule r h =
      let both = parted At (pieces_opt_conds r.cond) (pieces_body r.body) h.1 in
      ((tt, h), joined Whole (pieces_opt_conds r.cond) (pieces_body r.body) (whole-opt_conds r.cond both.0) (whole-body r.body both.1))

  whole-rules : (rs : List Rule) → Each At (pieces_rules rs) → Each Whole (pieces_rules rs)
  whole-rules [] h = tt
  whole-rules (r ∷ rs) h =
      let both = parted At (pieces_rule r) (pieces_rules rs) h in
      joined Whole (pieces_rule r) (pieces_rules rs) (whole-rule r both.0) (whole-rules rs both.1)

  whole-file : (f : File) → Each At (pieces_file f) → Each Whole (pieces_file f)
  whole-file f h =
      let both = parted At (pieces_lets f.lets) (pieces_rules f.rules ++ pieces_disjs f.loose) h.1 in
      let others = parted At (pieces_rules f.rules) (pieces_disjs f.loose) both.1 in (
        (refl, tt),
        joined Whole (pieces_lets f.lets) (pieces_rules f.rules ++ pieces_disjs f.loose) (whole-lets f.lets both.0)
            (joined Whole (pieces_rules f.rules) (pieces_disjs f.loose) (whole-rules f.rules others.0) (whole-disjs f.loose others.1)),
      )

-- ---- by their sites

module _ (file : File) where
  -- a piece is found at its site
  abbrev pub IsAt : Sited → Type 0
  IsAt s = piece_at file s.0 ≡ Some s.1

  -- each site stands once
  abbrev pub IsOrdered : Type 0
  IsOrdered = Each IsAt (pieces_file file)

  -- what is found at a site has it, and each of its parts is found at its own
  pub found-whole : IsOrdered → (n : ℕ) (p : Piece) → piece_at file n ≡ Some p → HasSite n p × Each IsAt (pieces_of p)
  found-whole ordered n p there = found-one (Whole IsAt) (pieces_file file) n p (whole-file IsAt file ordered) there

-- the pieces of a file have its sites
file-tied : (f : File) → Ties (pieces_file f) (sites_file f)
file-tied f =
    let items = merge (sites_rules f.rules) (sites_disjs f.loose) in
    let tied = ties-merge (pieces_rules f.rules) (pieces_disjs f.loose) (sites_rules f.rules) (sites_disjs f.loose) (tied-rules f.rules) (tied-disjs f.loose) in
    ties-cons 0 OfFile (pieces_lets f.lets ++ (pieces_rules f.rules ++ pieces_disjs f.loose)) (merge (sites_lets f.lets) items)
    (ties-merge (pieces_lets f.lets) (pieces_rules f.rules ++ pieces_disjs f.loose) (sites_lets f.lets) items (tied-lets f.lets) tied)

-- each site of a file whose sites are in order stands once
pub sites-alone : (f : File) → AreInOrder f → (n : ℕ) → hits n (pieces_file f) ≤ 1
sites-alone f order n =
    let same : hits n (pieces_file f) ≡ times n (upto 0 (length f.places)) = (file-tied f).same n ∙ ap (times n) order in
    omega (arith, same, once n 0 (upto 0 (length f.places)) (upto-rises 0 (length f.places)))

-- so each piece is found at its site
pub ordered-by : (f : File) → ((n : ℕ) → hits n (pieces_file f) ≤ 1) → IsOrdered f
ordered-by f few = alone (pieces_file f) few
