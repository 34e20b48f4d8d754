-- The parts of each part stand inside it: at their own sites, in the scope of its parts, behind it and no deeper. By induction over the syntax of a file, where a run of
-- pieces goes with the run of their homes and with their sites; then the same by the types of the code.
use Rattle.std.proofs.Common.{◌≡◌, ◌⊎◌, ℕ, zero, suc, ◌+◌, ◌≤◌, ◌<◌, Bool, true, false, cond, refl, ap, sym, ◌∙◌, subst, arith, rules, inl, inr, List, [], ◌∷◌, ◌++◌, length, map, replicate, get_or, nat_lt, if◌then◌else◌, append_assoc, get_or-set_same, get_or-set_other, Option, Some}
use Rattle.std.specs.Prelude.{◌==◌, find, option_map, slice_set}
use Rattle.std.specs.declared.alloc.Global.{Global}
use Rattle.std.specs.declared.vec.Vec.{Vec}
use Rattle.std.proofs.lemmas.Bool.Decides.{nat_tests}
use Rattle.std.proofs.lemmas.List.{append-nil, length-set, length-replicate}
use Rattle.std.proofs.lemmas.Option.{same_Some, none-some}
use Rattle.doc_values.specs.Tree.{Forest}
use Rattle.guard_syntax.specs.Named.{Named}
use Rattle.guard_syntax.specs.code.Seen.{disj_list, expr_list, part_list, see_body, see_conds, see_disj, see_expr, see_form, see_opt_conds, see_opt_expr, see_part, see_query, see_step, step_list}
use Rattle.guard_syntax.specs.Sites.{merge, sites_body, sites_conds, sites_disj, sites_disjs, sites_expr, sites_exprs, sites_file, sites_let, sites_lets, sites_opt_conds, sites_opt_expr, sites_part, sites_parts, sites_query, sites_rule, sites_rules, sites_step, sites_steps, upto}
use Rattle.guard_syntax.specs.Syntax as sx
use Rattle.guard_syntax.specs.Syntax.{body, no_lets, more_lets, assign, conds, no_conds, with_conds, no_disjs, more_disjs, disj, no_parts, more_parts, block, guarded, kinds, test, refer, call, query, no_steps, more_steps, this, var, key, index, every, items, splice, filter, keys, literal, function, asked, found, no_expr, with_expr, no_exprs, more_exprs}
use Rattle.guard_syntax.specs.declared.syntax.Body.{Body, out-Body, the_lemmas}
use Rattle.guard_syntax.specs.declared.syntax.Conds.{Conds, out-Conds}
use Rattle.guard_syntax.specs.declared.syntax.Disj.{Disj}
use Rattle.guard_syntax.specs.declared.syntax.Expr.{Expr}
use Rattle.guard_syntax.specs.declared.syntax.Expr as expr
use Rattle.guard_syntax.specs.declared.syntax.Op.{Op}
use Rattle.guard_syntax.specs.declared.syntax.Part.{Part}
use Rattle.guard_syntax.specs.declared.syntax.Part as part
use Rattle.guard_syntax.specs.declared.syntax.Query.{Query, out-Query}
use Rattle.guard_syntax.specs.declared.syntax.Step.{Step}
use Rattle.guard_syntax.specs.declared.syntax.StepForm as form
use Rattle.rule_names.specs.Depths.{depth_body, depth_conds, depth_disj, depth_disjs, depth_expr, depth_exprs, depth_lets, depth_opt_conds, depth_opt_expr, depth_part, depth_parts, depth_query, depth_step, depth_steps, first_of_query, first_steps, larger}
use Rattle.rule_names.specs.EnclosingScopes.{Homed, home_of, homes_in, with_home, with_homes, homes_body, homes_lets, homes_let, homes_conds, homes_opt_conds, homes_disjs, homes_disj, homes_parts, homes_part, homes_query, homes_steps, homes_step, homes_expr, homes_opt_expr, homes_exprs, homes_rule, homes_rules}
use Rattle.rule_names.specs.code.IncreasingSites.{Increasing}
use Rattle.rule_names.specs.Pieces.{AreInOrder, Piece, OfFile, OfLet, OfRule, OfBody, OfConds, OfDisj, OfPart, OfQuery, OfStep, OfExpr, Sited, piece_at, piece_in, pieces_file, pieces_body, pieces_lets, pieces_let, pieces_conds, pieces_opt_conds, pieces_disjs, pieces_disj, pieces_parts, pieces_part, pieces_query, pieces_steps, pieces_step, pieces_expr, pieces_opt_expr, pieces_exprs, pieces_rule, pieces_rules}
use Rattle.rule_names.specs.ReferenceGraph.{disj_site, part_site, step_site}
use Rattle.rule_names.specs.Uses.{query_site}
use Rattle.rule_meaning.specs.Places.{step_in, steps_in}
use Rattle.rule_names.proofs.Increases.{Both, apart, back, front, increasing_lower, once, past, past-more, past-none, times, upto-rises}
use Rattle.rule_names.proofs.Parts.{Ties, hits, hits-append, ties-cons, ties-merge}
use Rattle.rule_names.proofs.PiecesFound.{piece-found}
use Rattle.rule_names.proofs.PiecesStand.{append-found, none-found}
use Rattle.rule_names.proofs.Shapes.{block-seen, body-seen, call-seen, conds-seen, disj-seen, function-seen, kinds-seen, query-seen, step-seen, when-seen}
use Rattle.rule_names.proofs.Tied.{tied-disjs, tied-lets, tied-rules}
use Rattle.evidence_rules.specs.CitedLines.{body_site}
use Rattle.evidence_rules.specs.Follows.{conds_site}
use Rattle.engine_states.specs.code.Inside.{AreInside, IsInside, body_sited, conds_sited, disj_sited, disjs_sited, expr_sited, exprs_sited, inner_of, inner_of_expr, inner_of_part, inner_of_step, opt_conds_sited, opt_expr_sited, parts_sited, query_sited, scope_in, scope_in_step, steps_sited}
use Rattle.engine_states.specs.code.PartDepths.{depth_in}

-- ---- Depths

first-in : (m n : ℕ) → m ≤ larger m n
first-in m n = grind (arith, nat_tests)

second-in : (m n : ℕ) → n ≤ larger m n
second-in m n = grind (arith, nat_tests)

more-second : (k m n : ℕ) → m ≤ n → larger k m ≤ larger k n
more-second k m n h = grind (arith, nat_tests)

-- of one more than the greater of two
under-first : (m n : ℕ) → m ≤ suc (larger m n)
under-first m n = omega (arith, first-in m n)

under-second : (m n : ℕ) → n ≤ suc (larger m n)
under-second m n = omega (arith, second-in m n)

module _ (f : sx.File) (depths : List ℕ) where
  -- the steps up to one of them are no deeper than the steps, and that one no deeper than they
  first-steps : (i : ℕ) (ss : sx.Steps) → depth_steps f depths (first_steps i ss) ≤ depth_steps f depths ss
  first-steps i no_steps = omega arith
  first-steps zero (more_steps p ps) = more-second (depth_step f depths p) 0 (depth_steps f depths ps) (omega arith)
  first-steps (suc i) (more_steps p ps) = more-second (depth_step f depths p) (depth_steps f depths (first_steps i ps)) (depth_steps f depths ps) (first-steps i ps)

  in-steps : (i : ℕ) (ss : sx.Steps) (p : sx.Step) → step_in ss i ≡ Some p → depth_step f depths p ≤ depth_steps f depths (first_steps i ss)
  in-steps i no_steps p is = absurd (none-some p is)
  in-steps zero (more_steps r rs) p is =
      subst (λ (x : sx.Step). depth_step f depths x ≤ larger (depth_step f depths r) 0) (same_Some r p is) (first-in (depth_step f depths r) 0)
  in-steps (suc i) (more_steps r rs) p is = omega (arith, in-steps i rs p is, second-in (depth_step f depths r) (depth_steps f depths (first_steps i rs)))

  expr-depth : (e : sx.Expr) → depth_in f depths (expr_sited e).1 ≡ depth_expr f depths e
  expr-depth (literal n tree) = refl
  expr-depth (function n name es) = refl
  expr-depth (asked q) = refl
  expr-depth (found n q) = refl

-- ---- the steps from an index on

abbrev pub steps_from : ℕ → sx.Steps → sx.Steps
steps_from zero ss = ss
steps_from (suc i) no_steps = no_steps
steps_from (suc i) (more_steps p ps) = steps_from i ps

pub first-from : (i : ℕ) (ss : sx.Steps) (p : sx.Step) (ps : sx.Steps) → steps_from i ss ≡ more_steps p ps → step_in ss i ≡ Some p
first-from zero ss p ps are = ap (λ (x : sx.Steps). step_in x 0) are
first-from (suc i) no_steps p ps are = ap (λ (x : sx.Steps). step_in x 0) are
first-from (suc i) (more_steps r rs) p ps are = first-from i rs p ps are

pub rest-from : (i : ℕ) (ss : sx.Steps) (p : sx.Step) (ps : sx.Steps) → steps_from i ss ≡ more_steps p ps → steps_from (suc i) ss ≡ ps
rest-from zero ss p ps are = ap (λ (x : sx.Steps). steps_from 1 x) are
rest-from (suc i) no_steps p ps are = ap (λ (x : sx.Steps). steps_from 1 x) are
rest-from (suc i) (more_steps r rs) p ps are = rest-from i rs p ps are

-- ---- what holds of each element

abbrev Each : {X : Type 0} → (X → Type 0) → List X → Type 0
Each P [] = Unit {0}
Each P (x ∷ xs) = P x × Each P xs

module _ {X : Type 0} (P : X → Type 0) where
  each-apart : (xs ys : List X) → Each P (xs ++ ys) → Each P xs × Each P ys
  each-apart [] ys h = (tt, h)
  each-apart (x ∷ xs) ys h = let both = each-apart xs ys h.1 in ((h.0, both.0), both.1)

-- ---- the table of homes: a site that stands once among homes has that home there

-- how often a site stands among homes
abbrev counts : ℕ → List Homed → ℕ
counts n [] = 0
counts n (h ∷ hs) = cond (h.0 == n) 1 0 + counts n hs

counts-append : (n : ℕ) (hs gs : List Homed) → counts n (hs ++ gs) ≡ counts n hs + counts n gs
counts-append n [] gs = omega arith
counts-append n (h ∷ hs) gs = let e = counts-append n hs gs in omega arith

not-counted : (m n k : ℕ) → cond (m == n) 1 0 + k ≡ 0 → n ≡ m → ⊥
not-counted m n k none same =
    let here : (m == n) ≡ true = grind (arith, nat_tests, same) in
    let one : cond (m == n) 1 0 + k ≡ 1 + k = ap (λ (b : Bool). cond b 1 0 + k) here in
    omega (arith, none, one)

length-if : (b : Bool) (homes : List ℕ) (n home : ℕ) → length (if b then slice_set homes n home else homes) ≡ length homes
length-if true homes n home = length-set homes n home
length-if false homes n home = refl

other-if : (b : Bool) (homes : List ℕ) (m home n : ℕ) → (n ≡ m → ⊥) → get_or (if b then slice_set homes m home else homes) n 0 ≡ get_or homes n 0
other-if true homes m home n other = get_or-set_other homes m n home 0 other
other-if false homes m home n other = refl

home-kept : (n : ℕ) (hs : List Homed) (homes : List ℕ) → counts n hs ≡ 0 → get_or (with_homes homes hs) n 0 ≡ get_or homes n 0
home-kept n [] homes none = refl
home-kept n (h ∷ hs) homes none =
    home-kept n hs (with_home homes h) (omega (arith, none)) ∙ other-if (nat_lt h.0 (length homes)) homes h.0 h.1 n (not-counted h.0 n (counts n hs) none)

home-set : (n home : ℕ) (homes : List ℕ) → n < length homes → get_or (with_home homes (n, home)) n 0 ≡ home
home-set n home homes within =
    let less : nat_lt n (length homes) ≡ true = grind (arith, nat_tests) in
    ap (λ (b : Bool). get_or (if b then slice_set homes n home else homes) n 0) less ∙ get_or-set_same homes n home 0 within

home-written : (n home : ℕ) (before hs : List Homed) (homes : List ℕ) → n < length homes → counts n hs ≡ 0
    → get_or (with_homes homes (before ++ ((n, home) ∷ hs))) n 0 ≡ home
home-written n home [] hs homes within none = home-kept n hs (with_home homes (n, home)) none ∙ home-set n home homes within
home-written n home (h ∷ before) hs homes within none =
    home-written n home before hs (with_home homes h) (subst (λ (k : ℕ). n < k) (sym (length-if (nat_lt h.0 (length homes)) homes h.0 h.1)) within) none

no-home : (k : ℕ) → get_or {A = ℕ} (replicate k 0) 0 0 ≡ 0
no-home zero = refl
no-home (suc k) = refl

-- ---- numbers from one on

past-upto : (low many : ℕ) → past low (upto low many) ≡ low + many
past-upto low zero = omega arith
past-upto low (suc many) = let e = past-upto (suc low) many in omega arith

upto-below : (n many : ℕ) → 1 ≤ times n (upto 0 many) → n < many
upto-below n many some = by (λ beyond. omega (arith, some, past-none n 0 (upto 0 many) (upto-rises 0 many) (omega (arith, past-upto 0 many, beyond))))
  where
    by : (many ≤ n → ⊥) → n < many
    by not_past = omega arith

later : (low : ℕ) (ns ms : List ℕ) → Increasing low (ns ++ ms) → Increasing low ms
later low ns ms h = increasing_lower low (past low ns) ms (past-more low ns (front low ns ms h)) (back low ns ms h)

-- ---- a piece is the first of some, or found behind it

cons-found : (n m : ℕ) (q p : Piece) (ps : List Sited) → piece_in ((m, q) ∷ ps) n ≡ Some p → ((m ≡ n) × (q ≡ p)) ⊎ (piece_in ps n ≡ Some p)
cons-found n m q p ps is = by (m == n) (λ same. grind (arith, nat_tests, same)) is
  where
    by : (v : Bool) → (v ≡ true → m ≡ n) → option_map (λ (s : Sited). s.1) (cond v (Some (m, q)) (find (λ (s : Sited). s.0 == n) ps)) ≡ Some p
        → ((m ≡ n) × (q ≡ p)) ⊎ (piece_in ps n ≡ Some p)
    by true same is = inl (same refl, same_Some q p is)
    by false same is = inr is

module _ (f : sx.File) where
  -- ---- a run of pieces that stands in the file, with their homes and their sites

  abbrev IsFound : Sited → Type 0
  IsFound s = piece_at f s.0 ≡ Some s.1

  abbrev IsHomed : Homed → Type 0
  IsHomed h = home_of f h.0 ≡ h.1

  -- each is at its own site and in its home, and the sites rise from one on
  record Standing (low : ℕ) (ps : List Sited) (hs : List Homed) (ns : List ℕ) : Type 0 where
    at_sites : Each IsFound ps
    in_homes : Each IsHomed hs
    in_order : Increasing low ns

  module _ (low : ℕ) (ps qs : List Sited) (hs gs : List Homed) (ns ms : List ℕ) where
    both-standing : Each IsFound (ps ++ qs) → Each IsHomed (hs ++ gs) → Both low ns ms → Standing low ps hs ns × Standing low qs gs ms
    both-standing sites homes order = (
      record { at_sites = (each-apart IsFound ps qs sites).0; in_homes = (each-apart IsHomed hs gs homes).0; in_order = order.0 },
      record { at_sites = (each-apart IsFound ps qs sites).1; in_homes = (each-apart IsHomed hs gs homes).1; in_order = order.1 },
    )

    -- two runs behind one another, or with sites among each other
    split : Standing low (ps ++ qs) (hs ++ gs) (ns ++ ms) → Standing low ps hs ns × Standing low qs gs ms
    split s = both-standing s.at_sites s.in_homes (front low ns ms s.in_order, later low ns ms s.in_order)

    unmerge : Standing low (ps ++ qs) (hs ++ gs) (merge ns ms) → Standing low ps hs ns × Standing low qs gs ms
    unmerge s = both-standing s.at_sites s.in_homes (apart low ns ms s.in_order)

  -- ---- the first of a run

  record IsHere (low home : ℕ) (s : Sited) : Type 0 where
    at_site : piece_at f s.0 ≡ Some s.1
    in_home : home_of f s.0 ≡ home
    from_low : low ≤ s.0

  module _ (low home : ℕ) where
    first-here : (m : ℕ) (q : Piece) (ps : List Sited) (hs : List Homed) (ns : List ℕ) → Standing low ((m, q) ∷ ps) ((m, home) ∷ hs) (m ∷ ns) → IsHere low home (m, q)
    first-here m q ps hs ns s = record { at_site = s.at_sites.0; in_home = s.in_homes.0; from_low = s.in_order.0 }

    body-here : (x : sx.Body) → Standing low (pieces_body x) (homes_body home x) (sites_body x) → IsHere low home (body_sited x)
    body-here (body n ls ds) s = first-here n _ _ _ _ s

    conds-here : (x : sx.Conds) → Standing low (pieces_conds x) (homes_conds home x) (sites_conds x) → IsHere low home (conds_sited x)
    conds-here (conds n ds) s = first-here n _ _ _ _ s

    disj-here : (x : sx.Disj) → Standing low (pieces_disj x) (homes_disj home x) (sites_disj x) → IsHere low home (disj_sited x)
    disj-here (disj n ps) s = first-here n _ _ _ _ s

    part-here : (x : sx.Part) → Standing low (pieces_part x) (homes_part home x) (sites_part x) → IsHere low home (part_site x, OfPart x)
    part-here (block n any q b) s = first-here n _ _ _ _ s
    part-here (guarded n c b) s = first-here n _ _ _ _ s
    part-here (kinds n name c b) s = first-here n _ _ _ _ s
    part-here (test n any q op negated right message) s = first-here n _ _ _ _ s
    part-here (refer n negated name message) s = first-here n _ _ _ _ s
    part-here (call n negated name es message) s = first-here n _ _ _ _ s

    query-here : (x : sx.Query) → Standing low (pieces_query x) (homes_query home x) (sites_query x) → IsHere low home (query_sited x)
    query-here (query n ss) s = first-here n _ _ _ _ s

    step-here : (q : sx.Query) (i : ℕ) (x : sx.Step) → Standing low (pieces_step q i x) (homes_step home x) (sites_step x) → IsHere low home (step_site x, OfStep q i)
    step-here q i (this n) s = first-here n _ _ _ _ s
    step-here q i (var n name) s = first-here n _ _ _ _ s
    step-here q i (key n name) s = first-here n _ _ _ _ s
    step-here q i (index n at) s = first-here n _ _ _ _ s
    step-here q i (every n) s = first-here n _ _ _ _ s
    step-here q i (items n) s = first-here n _ _ _ _ s
    step-here q i (splice n name) s = first-here n _ _ _ _ s
    step-here q i (filter n capture c) s = first-here n _ _ _ _ s
    step-here q i (keys n capture op negated e) s = first-here n _ _ _ _ s

    expr-here : (x : sx.Expr) → Standing low (pieces_expr x) (homes_expr home x) (sites_expr x) → IsHere low home (expr_sited x)
    expr-here (literal n tree) s = first-here n _ _ _ _ s
    expr-here (function n name es) s = first-here n _ _ _ _ s
    expr-here (asked q) s = query-here q s
    expr-here (found n q) s = first-here n _ _ _ _ s

  -- ---- what stands behind a part, in the scope of its parts, is inside it

  module _ (site : ℕ) (p : Piece) (scope : ℕ) (own : scope ≡ scope_in f site p) where
    one-inside : (s : Sited) → IsHere (suc site) scope s → ((depths : List ℕ) → depth_in f depths s.1 ≤ depth_in f depths p) → IsInside f site p s
    one-inside s here low = record { there = here.at_site; home = here.in_home ∙ own; behind = omega (arith, here.from_low); shallower = low }

    disjs-inside : (x : sx.Disjs) → Standing (suc site) (pieces_disjs x) (homes_disjs scope x) (sites_disjs x)
        → ((depths : List ℕ) → depth_disjs f depths x ≤ depth_in f depths p) → AreInside f site p (disjs_sited x)
    disjs-inside no_disjs s low = tt
    disjs-inside (more_disjs d ds) s low =
        let both = split (suc site) (pieces_disj d) (pieces_disjs ds) (homes_disj scope d) (homes_disjs scope ds) (sites_disj d) (sites_disjs ds) s in (
          one-inside (disj_sited d) (disj-here (suc site) scope d both.0) (λ depths. omega (arith, low depths, first-in (depth_disj f depths d) (depth_disjs f depths ds))),
          disjs-inside ds both.1 (λ depths. omega (arith, low depths, second-in (depth_disj f depths d) (depth_disjs f depths ds))),
        )

    parts-inside : (x : sx.Parts) → Standing (suc site) (pieces_parts x) (homes_parts scope x) (sites_parts x)
        → ((depths : List ℕ) → depth_parts f depths x ≤ depth_in f depths p) → AreInside f site p (parts_sited x)
    parts-inside no_parts s low = tt
    parts-inside (more_parts r rs) s low =
        let both = split (suc site) (pieces_part r) (pieces_parts rs) (homes_part scope r) (homes_parts scope rs) (sites_part r) (sites_parts rs) s in (
          one-inside (part_site r, OfPart r) (part-here (suc site) scope r both.0) (λ depths. omega (arith, low depths, first-in (depth_part f depths r) (depth_parts f depths rs))),
          parts-inside rs both.1 (λ depths. omega (arith, low depths, second-in (depth_part f depths r) (depth_parts f depths rs))),
        )

    steps-inside : (q : sx.Query) (i : ℕ) (x : sx.Steps) → Standing (suc site) (pieces_steps q i x) (homes_steps scope x) (sites_steps x)
        → ((depths : List ℕ) (j : ℕ) → depth_query f depths (first_of_query j q) ≤ depth_in f depths p) → AreInside f site p (steps_sited q i x)
    steps-inside q i no_steps s low = tt
    steps-inside q i (more_steps r rs) s low =
        let both = split (suc site) (pieces_step q i r) (pieces_steps q (suc i) rs) (homes_step scope r) (homes_steps scope rs) (sites_step r) (sites_steps rs) s in (
          one-inside (step_site r, OfStep q i) (step-here (suc site) scope q i r both.0) (λ depths. low depths i),
          steps-inside q (suc i) rs both.1 low,
        )

    expr-inside : (x : sx.Expr) → Standing (suc site) (pieces_expr x) (homes_expr scope x) (sites_expr x)
        → ((depths : List ℕ) → depth_expr f depths x ≤ depth_in f depths p) → IsInside f site p (expr_sited x)
    expr-inside x s low = one-inside (expr_sited x) (expr-here (suc site) scope x s) (λ depths. omega (arith, low depths, expr-depth f depths x))

    exprs-inside : (x : sx.Exprs) → Standing (suc site) (pieces_exprs x) (homes_exprs scope x) (sites_exprs x)
        → ((depths : List ℕ) → depth_exprs f depths x ≤ depth_in f depths p) → AreInside f site p (exprs_sited x)
    exprs-inside no_exprs s low = tt
    exprs-inside (more_exprs e es) s low =
        let both = split (suc site) (pieces_expr e) (pieces_exprs es) (homes_expr scope e) (homes_exprs scope es) (sites_expr e) (sites_exprs es) s in (
          expr-inside e both.0 (λ depths. omega (arith, low depths, first-in (depth_expr f depths e) (depth_exprs f depths es))),
          exprs-inside es both.1 (λ depths. omega (arith, low depths, second-in (depth_expr f depths e) (depth_exprs f depths es))),
        )

    opt_expr-inside : (x : sx.OptExpr) → Standing (suc site) (pieces_opt_expr x) (homes_opt_expr scope x) (sites_opt_expr x)
        → ((depths : List ℕ) → depth_opt_expr f depths x ≤ depth_in f depths p) → AreInside f site p (opt_expr_sited x)
    opt_expr-inside no_expr s low = tt
    opt_expr-inside (with_expr e) s low = (expr-inside e s low, tt)

    -- conditions, if there are any, and a body
    conds_body-inside : (c : sx.OptConds) (b : sx.Body)
        → Standing (suc site) (pieces_opt_conds c ++ pieces_body b) (homes_opt_conds scope c ++ homes_body scope b) (sites_opt_conds c ++ sites_body b)
        → ((depths : List ℕ) → suc (larger (depth_opt_conds f depths c) (depth_body f depths b)) ≤ depth_in f depths p) → AreInside f site p (opt_conds_sited c ++ body_sited b ∷ [])
    conds_body-inside no_conds b s low =
        (one-inside (body_sited b) (body-here (suc site) scope b s) (λ depths. omega (arith, low depths, second-in 0 (depth_body f depths b))), tt)
    conds_body-inside (with_conds c) b s low =
        let both = split (suc site) (pieces_conds c) (pieces_body b) (homes_conds scope c) (homes_body scope b) (sites_conds c) (sites_body b) s in (
          one-inside (conds_sited c) (conds-here (suc site) scope c both.0) (λ depths. omega (arith, low depths, first-in (depth_conds f depths c) (depth_body f depths b))),
          (one-inside (body_sited b) (body-here (suc site) scope b both.1) (λ depths. omega (arith, low depths, second-in (depth_conds f depths c) (depth_body f depths b))), tt),
        )

  -- ---- the parts of each part, by what stands behind it

  body-parts : (n : ℕ) (ls : sx.Lets) (ds : sx.Disjs) → Standing (suc n) (pieces_lets ls ++ pieces_disjs ds) (homes_lets n ls ++ homes_disjs n ds) (merge (sites_lets ls) (sites_disjs ds))
      → AreInside f n (OfBody (body n ls ds)) (disjs_sited ds)
  body-parts n ls ds s =
      let both = unmerge (suc n) (pieces_lets ls) (pieces_disjs ds) (homes_lets n ls) (homes_disjs n ds) (sites_lets ls) (sites_disjs ds) s in
      disjs-inside n (OfBody (body n ls ds)) n refl ds both.1 (λ depths. second-in (depth_lets f depths ls) (depth_disjs f depths ds))

  module _ (home n : ℕ) (is : home_of f n ≡ home) where
    block-parts : (any : Bool) (q : sx.Query) (b : sx.Body) → Standing (suc n) (pieces_query q ++ pieces_body b) (homes_query home q ++ homes_body home b) (sites_query q ++ sites_body b)
        → AreInside f n (OfPart (block n any q b)) (query_sited q ∷ body_sited b ∷ [])
    block-parts any q b s =
        let own = OfPart (block n any q b) in
        let both = split (suc n) (pieces_query q) (pieces_body b) (homes_query home q) (homes_body home b) (sites_query q) (sites_body b) s in (
          one-inside n own home (sym is) (query_sited q) (query-here (suc n) home q both.0) (λ depths. under-first (depth_query f depths q) (depth_body f depths b)),
          (one-inside n own home (sym is) (body_sited b) (body-here (suc n) home b both.1) (λ depths. under-second (depth_query f depths q) (depth_body f depths b)), tt),
        )

    test-parts : (any : Bool) (q : sx.Query) (op : Op) (negated : Bool) (right : sx.OptExpr) (message : Option (List ℕ))
        → Standing (suc n) (pieces_query q ++ pieces_opt_expr right) (homes_query home q ++ homes_opt_expr home right) (sites_query q ++ sites_opt_expr right)
        → AreInside f n (OfPart (test n any q op negated right message)) (query_sited q ∷ opt_expr_sited right)
    test-parts any q op negated right message s =
        let own = OfPart (test n any q op negated right message) in
        let both = split (suc n) (pieces_query q) (pieces_opt_expr right) (homes_query home q) (homes_opt_expr home right) (sites_query q) (sites_opt_expr right) s in (
          one-inside n own home (sym is) (query_sited q) (query-here (suc n) home q both.0) (λ depths. under-first (depth_query f depths q) (depth_opt_expr f depths right)),
          opt_expr-inside n own home (sym is) right both.1 (λ depths. under-second (depth_query f depths q) (depth_opt_expr f depths right)),
        )

    query-parts : (ss : sx.Steps) → Standing (suc n) (pieces_steps (query n ss) 0 ss) (homes_steps home ss) (sites_steps ss)
        → AreInside f n (OfQuery (query n ss)) (steps_sited (query n ss) 0 ss)
    query-parts ss s = steps-inside n (OfQuery (query n ss)) home (sym is) (query n ss) 0 ss s (λ depths j. omega (arith, first-steps f depths j ss))

  -- a step of a query at an index: its parts are those of the step that is there
  module _ (n : ℕ) (ss : sx.Steps) (i m : ℕ) where
    step-parts : (x : sx.Step) → step_in ss i ≡ Some x → AreInside f m (OfStep (query n ss) i) (inner_of_step (Some x))
        → AreInside f m (OfStep (query n ss) i) (inner_of f (OfStep (query n ss) i))
    step-parts x is h = subst (λ (o : Option sx.Step). AreInside f m (OfStep (query n ss) i) (inner_of_step o)) (sym is) h

    -- the conditions of a filter stand in the filter
    filter-parts : (capture : Option Named) (c : sx.Conds) → step_in ss i ≡ Some (filter m capture c) → Standing (suc m) (pieces_conds c) (homes_conds m c) (sites_conds c)
        → AreInside f m (OfStep (query n ss) i) (inner_of f (OfStep (query n ss) i))
    filter-parts capture c is s =
        let own : m ≡ scope_in_step f m (step_in ss i) = sym (ap (scope_in_step f m) is) in
        step-parts (filter m capture c) is
        (one-inside m (OfStep (query n ss) i) m own (conds_sited c) (conds-here (suc m) m c s) (λ depths. omega (arith, in-steps f depths i ss (filter m capture c) is)), tt)

    keys-parts : (home : ℕ) (capture : Option Named) (op : Op) (negated : Bool) (e : sx.Expr) → step_in ss i ≡ Some (keys m capture op negated e) → home_of f m ≡ home
        → Standing (suc m) (pieces_expr e) (homes_expr home e) (sites_expr e) → AreInside f m (OfStep (query n ss) i) (inner_of f (OfStep (query n ss) i))
    keys-parts home capture op negated e is at s =
        let own : home ≡ scope_in_step f m (step_in ss i) = sym (ap (scope_in_step f m) is ∙ at) in
        step-parts (keys m capture op negated e) is
        (expr-inside m (OfStep (query n ss) i) home own e s (λ depths. omega (arith, in-steps f depths i ss (keys m capture op negated e) is)), tt)

  -- ---- each piece of a run has its parts inside it

  record AllInside (ps : List Sited) : Type 0 where
    at : (n : ℕ) (p : Piece) → piece_in ps n ≡ Some p → AreInside f n p (inner_of f p)

  all-cons : (m : ℕ) (q : Piece) (ps : List Sited) → AreInside f m q (inner_of f q) → AllInside ps → AllInside ((m, q) ∷ ps)
  all-cons m q ps here rest = record {
    at = λ n p is. elim (cons-found n m q p ps is) [
      | inl same ↦ subst (λ (r : Piece). AreInside f n r (inner_of f r)) same.1 (subst (λ (k : ℕ). AreInside f k q (inner_of f q)) same.0 here)
      | inr there ↦ rest.at n p there
    ];
  }

  all-append : (ps qs : List Sited) → AllInside ps → AllInside qs → AllInside (ps ++ qs)
  all-append ps qs one other = record {
    at = λ n p is. elim (append-found n p ps qs is) [
      | inl here ↦ one.at n p here
      | inr there ↦ other.at n p there
    ];
  }

  -- a run of pieces with their homes and their sites: the homes have the sites of the pieces, and where the run stands in the file each has its parts inside it
  record Nested (ps : List Sited) (hs : List Homed) (ns : List ℕ) : Type 0 where
    same : (n : ℕ) → counts n hs ≡ hits n ps
    inner : (low : ℕ) → Standing low ps hs ns → AllInside ps

  nested-none : Nested [] [] []
  nested-none = record { same = λ n. refl; inner = λ low s. record { at = λ n p is. absurd (none-found n p is) } }

  nested-cons : (m home : ℕ) (q : Piece) (ps : List Sited) (hs : List Homed) (ns : List ℕ) → Nested ps hs ns
      → (home_of f m ≡ home → Standing (suc m) ps hs ns → AreInside f m q (inner_of f q)) → Nested ((m, q) ∷ ps) ((m, home) ∷ hs) (m ∷ ns)
  nested-cons m home q ps hs ns rest own = record {
    same = λ n. ap (λ (k : ℕ). cond (m == n) 1 0 + k) (rest.same n);
    inner = λ low s. let behind : Standing (suc m) ps hs ns = record { at_sites = s.at_sites.1; in_homes = s.in_homes.1; in_order = s.in_order.1 } in
        all-cons m q ps (own s.in_homes.0 behind) (rest.inner (suc m) behind);
  }

  module _ (ps qs : List Sited) (hs gs : List Homed) (ns ms : List ℕ) where
    same-both : Nested ps hs ns → Nested qs gs ms → (n : ℕ) → counts n (hs ++ gs) ≡ hits n (ps ++ qs)
    same-both one other n = omega (arith, one.same n, other.same n, counts-append n hs gs, hits-append n ps qs)

    nested-append : Nested ps hs ns → Nested qs gs ms → Nested (ps ++ qs) (hs ++ gs) (ns ++ ms)
    nested-append one other = record {
      same = same-both one other;
      inner = λ low s. let both = split low ps qs hs gs ns ms s in all-append ps qs (one.inner low both.0) (other.inner low both.1);
    }

    nested-merge : Nested ps hs ns → Nested qs gs ms → Nested (ps ++ qs) (hs ++ gs) (merge ns ms)
    nested-merge one other = record {
      same = same-both one other;
      inner = λ low s. let both = unmerge low ps qs hs gs ns ms s in all-append ps qs (one.inner low both.0) (other.inner low both.1);
    }

  mutual
    body-nested : (home : ℕ) (x : sx.Body) → Nested (pieces_body x) (homes_body home x) (sites_body x)
    body-nested home (body n ls ds) =
        nested-cons n home (OfBody (body n ls ds)) _ _ _ (nested-merge _ _ _ _ _ _ (lets-nested n ls) (disjs-nested n ds)) (λ is s. body-parts n ls ds s)

    lets-nested : (home : ℕ) (x : sx.Lets) → Nested (pieces_lets x) (homes_lets home x) (sites_lets x)
    lets-nested home no_lets = nested-none
    lets-nested home (more_lets l ls) = nested-append _ _ _ _ _ _ (let-nested home l) (lets-nested home ls)

    let-nested : (home : ℕ) (x : sx.Let) → Nested (pieces_let x) (homes_let home x) (sites_let x)
    let-nested home (assign n name e) = nested-cons n home (OfLet (assign n name e)) _ _ _ (expr-nested home e) (λ is s. tt)

    conds-nested : (home : ℕ) (x : sx.Conds) → Nested (pieces_conds x) (homes_conds home x) (sites_conds x)
    conds-nested home (conds n ds) =
        nested-cons n home (OfConds (conds n ds)) _ _ _ (disjs-nested home ds) (λ is s. disjs-inside n (OfConds (conds n ds)) home (sym is) ds s (λ depths. omega arith))

    opt_conds-nested : (home : ℕ) (x : sx.OptConds) → Nested (pieces_opt_conds x) (homes_opt_conds home x) (sites_opt_conds x)
    opt_conds-nested home no_conds = nested-none
    opt_conds-nested home (with_conds c) = conds-nested home c

    disjs-nested : (home : ℕ) (x : sx.Disjs) → Nested (pieces_disjs x) (homes_disjs home x) (sites_disjs x)
    disjs-nested home no_disjs = nested-none
    disjs-nested home (more_disjs d ds) = nested-append _ _ _ _ _ _ (disj-nested home d) (disjs-nested home ds)

    disj-nested : (home : ℕ) (x : sx.Disj) → Nested (pieces_disj x) (homes_disj home x) (sites_disj x)
    disj-nested home (disj n ps) =
        nested-cons n home (OfDisj (disj n ps)) _ _ _ (parts-nested home ps) (λ is s. parts-inside n (OfDisj (disj n ps)) home (sym is) ps s (λ depths. omega arith))

    parts-nested : (home : ℕ) (x : sx.Parts) → Nested (pieces_parts x) (homes_parts home x) (sites_parts x)
    parts-nested home no_parts = nested-none
    parts-nested home (more_parts p ps) = nested-append _ _ _ _ _ _ (part-nested home p) (parts-nested home ps)

    part-nested : (home : ℕ) (x : sx.Part) → Nested (pieces_part x) (homes_part home x) (sites_part x)
    part-nested home (block n any q b) =
        nested-cons n home (OfPart (block n any q b)) _ _ _ (nested-append _ _ _ _ _ _ (query-nested home q) (body-nested home b)) (λ is s. block-parts home n is any q b s)
    part-nested home (guarded n c b) =
        nested-cons n home (OfPart (guarded n c b)) _ _ _ (nested-append _ _ _ _ _ _ (conds-nested home c) (body-nested home b))
        (λ is s. conds_body-inside n (OfPart (guarded n c b)) home (sym is) (with_conds c) b s (λ depths. omega arith))
    part-nested home (kinds n name c b) =
        nested-cons n home (OfPart (kinds n name c b)) _ _ _ (nested-append _ _ _ _ _ _ (opt_conds-nested home c) (body-nested home b))
        (λ is s. conds_body-inside n (OfPart (kinds n name c b)) home (sym is) c b s (λ depths. omega arith))
    part-nested home (test n any q op negated right message) =
        nested-cons n home (OfPart (test n any q op negated right message)) _ _ _ (nested-append _ _ _ _ _ _ (query-nested home q) (opt_expr-nested home right))
        (λ is s. test-parts home n is any q op negated right message s)
    part-nested home (refer n negated name message) = nested-cons n home (OfPart (refer n negated name message)) _ _ _ nested-none (λ is s. tt)
    part-nested home (call n negated name es message) =
        nested-cons n home (OfPart (call n negated name es message)) _ _ _ (exprs-nested home es)
        (λ is s. exprs-inside n (OfPart (call n negated name es message)) home (sym is) es s (λ depths. omega arith))

    query-nested : (home : ℕ) (x : sx.Query) → Nested (pieces_query x) (homes_query home x) (sites_query x)
    query-nested home (query n ss) = nested-cons n home (OfQuery (query n ss)) _ _ _ (steps-nested home n ss 0 ss refl) (λ is s. query-parts home n is ss s)

    -- the steps of a query from an index on
    steps-nested : (home n : ℕ) (ss : sx.Steps) (i : ℕ) (x : sx.Steps) → steps_from i ss ≡ x → Nested (pieces_steps (query n ss) i x) (homes_steps home x) (sites_steps x)
    steps-nested home n ss i no_steps are = nested-none
    steps-nested home n ss i (more_steps p ps) are =
        nested-append _ _ _ _ _ _ (step-nested home n ss i p (first-from i ss p ps are)) (steps-nested home n ss (suc i) ps (rest-from i ss p ps are))

    step-nested : (home n : ℕ) (ss : sx.Steps) (i : ℕ) (x : sx.Step) → step_in ss i ≡ Some x → Nested (pieces_step (query n ss) i x) (homes_step home x) (sites_step x)
    step-nested home n ss i (this m) at = nested-cons m home (OfStep (query n ss) i) _ _ _ nested-none (λ is s. step-parts n ss i m (this m) at tt)
    step-nested home n ss i (var m name) at = nested-cons m home (OfStep (query n ss) i) _ _ _ nested-none (λ is s. step-parts n ss i m (var m name) at tt)
    step-nested home n ss i (key m name) at = nested-cons m home (OfStep (query n ss) i) _ _ _ nested-none (λ is s. step-parts n ss i m (key m name) at tt)
    step-nested home n ss i (index m k) at = nested-cons m home (OfStep (query n ss) i) _ _ _ nested-none (λ is s. step-parts n ss i m (index m k) at tt)
    step-nested home n ss i (every m) at = nested-cons m home (OfStep (query n ss) i) _ _ _ nested-none (λ is s. step-parts n ss i m (every m) at tt)
    step-nested home n ss i (items m) at = nested-cons m home (OfStep (query n ss) i) _ _ _ nested-none (λ is s. step-parts n ss i m (items m) at tt)
    step-nested home n ss i (splice m name) at = nested-cons m home (OfStep (query n ss) i) _ _ _ nested-none (λ is s. step-parts n ss i m (splice m name) at tt)
    step-nested home n ss i (filter m capture c) at =
        nested-cons m home (OfStep (query n ss) i) _ _ _ (conds-nested m c) (λ is s. filter-parts n ss i m capture c at s)
    step-nested home n ss i (keys m capture op negated e) at =
        nested-cons m home (OfStep (query n ss) i) _ _ _ (expr-nested home e) (λ is s. keys-parts n ss i m home capture op negated e at is s)

    expr-nested : (home : ℕ) (x : sx.Expr) → Nested (pieces_expr x) (homes_expr home x) (sites_expr x)
    expr-nested home (literal n tree) = nested-cons n home (OfExpr (literal n tree)) _ _ _ nested-none (λ is s. tt)
    expr-nested home (function n name es) =
        nested-cons n home (OfExpr (function n name es)) _ _ _ (exprs-nested home es) (λ is s. exprs-inside n (OfExpr (function n name es)) home (sym is) es s (λ depths. omega arith))
    expr-nested home (asked q) = query-nested home q
    expr-nested home (found n q) =
        nested-cons n home (OfExpr (found n q)) _ _ _ (query-nested home q)
        (λ is s. (one-inside n (OfExpr (found n q)) home (sym is) (query_sited q) (query-here (suc n) home q s) (λ depths. omega arith), tt))

    opt_expr-nested : (home : ℕ) (x : sx.OptExpr) → Nested (pieces_opt_expr x) (homes_opt_expr home x) (sites_opt_expr x)
    opt_expr-nested home no_expr = nested-none
    opt_expr-nested home (with_expr e) = expr-nested home e

    exprs-nested : (home : ℕ) (x : sx.Exprs) → Nested (pieces_exprs x) (homes_exprs home x) (sites_exprs x)
    exprs-nested home no_exprs = nested-none
    exprs-nested home (more_exprs e es) = nested-append _ _ _ _ _ _ (expr-nested home e) (exprs-nested home es)

  rule-nested : (home : ℕ) (r : sx.Rule) → Nested (pieces_rule r) (homes_rule home r) (sites_rule r)
  rule-nested home r =
      nested-cons r.site home (OfRule r) _ _ _ (nested-append _ _ _ _ _ _ (opt_conds-nested home r.cond) (body-nested home r.body))
      (λ is s. conds_body-inside r.site (OfRule r) home (sym is) r.cond r.body s (λ depths. omega arith))

  rules-nested : (home : ℕ) (rs : List sx.Rule) → Nested (pieces_rules rs) (homes_rules home rs) (sites_rules rs)
  rules-nested home [] = nested-none
  rules-nested home (r ∷ rs) = nested-append _ _ _ _ _ _ (rule-nested home r) (rules-nested home rs)

-- ---- a file

module _ (f : sx.File) (order : AreInOrder f) where
  abbrev inner_pieces : List Sited
  inner_pieces = pieces_lets f.lets ++ (pieces_rules f.rules ++ pieces_disjs f.loose)

  abbrev inner_sites : List ℕ
  inner_sites = merge (sites_lets f.lets) (merge (sites_rules f.rules) (sites_disjs f.loose))

  file-tied : Ties (pieces_file f) (sites_file f)
  file-tied = ties-cons 0 OfFile inner_pieces inner_sites (ties-merge _ _ _ _ (tied-lets f.lets) (ties-merge _ _ _ _ (tied-rules f.rules) (tied-disjs f.loose)))

  file-nested : Nested f inner_pieces (homes_in f) inner_sites
  file-nested = nested-merge f _ _ _ _ _ _ (lets-nested f 0 f.lets) (nested-merge f _ _ _ _ _ _ (rules-nested f 0 f.rules) (disjs-nested f 0 f.loose))

  -- each piece is found at its site
  each-found : (before ps : List Sited) → pieces_file f ≡ before ++ ps → Each (IsFound f) ps
  each-found before [] are = tt
  each-found before (s ∷ ps) are = (
    piece-found f s.0 s.1 ps order (before, [], are ∙ ap (λ (xs : List Sited). before ++ xs) (sym (append-nil (s ∷ ps)))),
    each-found (before ++ s ∷ []) ps (are ∙ sym (append_assoc before (s ∷ []) ps)),
  )

  -- the homes of a file have each site once, that of the file not at all
  counted : (n : ℕ) → cond (0 == n) 1 0 + counts n (homes_in f) ≡ times n (upto 0 (length f.places))
  counted n = ap (λ (k : ℕ). cond (0 == n) 1 0 + k) (file-nested.same n) ∙ (file-tied.same n ∙ ap (times n) order)

  counted-once : (n : ℕ) → cond (0 == n) 1 0 + counts n (homes_in f) ≤ 1
  counted-once n = omega (arith, counted n, once n 0 (upto 0 (length f.places)) (upto-rises 0 (length f.places)))

  home-found : (n home : ℕ) (before hs : List Homed) → homes_in f ≡ before ++ ((n, home) ∷ hs) → home_of f n ≡ home
  home-found n home before hs are =
      let same : (n == n) ≡ true = grind (arith, nat_tests) in
      let own : counts n ((n, home) ∷ hs) ≡ 1 + counts n hs = ap (λ (b : Bool). cond b 1 0 + counts n hs) same in
      let parts : counts n (homes_in f) ≡ counts n before + counts n ((n, home) ∷ hs) = ap (counts n) are ∙ counts-append n before ((n, home) ∷ hs) in
      let none : counts n hs ≡ 0 = omega (arith, own, parts, counted-once n) in
      let within : n < length f.places = upto-below n (length f.places) (omega (arith, own, parts, counted n)) in
      let room : n < length (replicate (length f.places) 0) = subst (λ (k : ℕ). n < k) (sym (length-replicate (length f.places) 0)) within in
      ap (λ (xs : List Homed). get_or (with_homes (replicate (length f.places) 0) xs) n 0) are
      ∙ home-written n home before hs (replicate (length f.places) 0) room none

  each-homed : (before hs : List Homed) → homes_in f ≡ before ++ hs → Each (IsHomed f) hs
  each-homed before [] are = tt
  each-homed before (h ∷ hs) are = (home-found h.0 h.1 before hs are, each-homed (before ++ h ∷ []) hs (are ∙ sym (append_assoc before (h ∷ []) hs)))

  pub file-home : home_of f 0 ≡ 0
  file-home =
      let one : 1 + counts 0 (homes_in f) ≤ 1 = counted-once 0 in
      home-kept 0 (homes_in f) (replicate (length f.places) 0) (omega (arith, one)) ∙ no-home (length f.places)

  file-standing : Standing f 1 inner_pieces (homes_in f) inner_sites
  file-standing =
      let sites : Each (IsFound f) (pieces_file f) = each-found [] (pieces_file f) refl in
      let rising : Increasing 0 (sites_file f) = subst (λ (ns : List ℕ). Increasing 0 ns) (sym order) (upto-rises 0 (length f.places)) in
      record { at_sites = sites.1; in_homes = each-homed [] (homes_in f) refl; in_order = rising.1 }

  file-parts : AreInside f 0 OfFile (disjs_sited f.loose)
  file-parts =
      let items =
      (unmerge f 1 (pieces_lets f.lets) (pieces_rules f.rules ++ pieces_disjs f.loose) (homes_lets 0 f.lets) (homes_rules 0 f.rules ++ homes_disjs 0 f.loose)
      (sites_lets f.lets) (merge (sites_rules f.rules) (sites_disjs f.loose)) file-standing).1 in
      let loose =
      (unmerge f 1 (pieces_rules f.rules) (pieces_disjs f.loose) (homes_rules 0 f.rules) (homes_disjs 0 f.loose) (sites_rules f.rules) (sites_disjs f.loose) items).1 in
      disjs-inside f 0 OfFile 0 (sym file-home) f.loose loose (λ depths. omega arith)

  -- what stands at a site has its parts inside it
  pub insides : (site : ℕ) (p : Piece) → piece_at f site ≡ Some p → AreInside f site p (inner_of f p)
  insides site p is = (all-cons f 0 OfFile inner_pieces file-parts (file-nested.inner 1 file-standing)).at site p is

-- ---- the part at an index of a list of the code

module _ (f : sx.File) (site : ℕ) (p : Piece) where
  pub disj-at : (ds : List Disj) (i : ℕ) (d : Disj) → i < length ds → d ≡ get_or ds i d → AreInside f site p (disjs_sited (disj_list (map see_disj ds))) → IsInside f site p (disj_sited (see_disj d))
  disj-at [] i d within is all = absurd (omega arith)
  disj-at (x ∷ ds) zero d within is all = subst (λ (y : Disj). IsInside f site p (disj_sited (see_disj y))) (sym is) all.0
  disj-at (x ∷ ds) (suc i) d within is all = disj-at ds i d (omega arith) is all.1

  pub part-at : (ps : List Part) (i : ℕ) (x : Part) → i < length ps → x ≡ get_or ps i x → AreInside f site p (parts_sited (part_list (map see_part ps)))
      → IsInside f site p (part_site (see_part x), OfPart (see_part x))
  part-at [] i x within is all = absurd (omega arith)
  part-at (y ∷ ps) zero x within is all = subst (λ (z : Part). IsInside f site p (part_site (see_part z), OfPart (see_part z))) (sym is) all.0
  part-at (y ∷ ps) (suc i) x within is all = part-at ps i x (omega arith) is all.1

  pub expr-at : (es : List Expr) (i : ℕ) (e : Expr) → i < length es → e ≡ get_or es i e → AreInside f site p (exprs_sited (expr_list (map see_expr es))) → IsInside f site p (expr_sited (see_expr e))
  expr-at [] i e within is all = absurd (omega arith)
  expr-at (x ∷ es) zero e within is all = subst (λ (y : Expr). IsInside f site p (expr_sited (see_expr y))) (sym is) all.0
  expr-at (x ∷ es) (suc i) e within is all = expr-at es i e (omega arith) is all.1

  module _ (q : sx.Query) where
    step_at : (first at : ℕ) (ss : List Step) (i : ℕ) (s : Step) → at ≡ first + i → i < length ss → s ≡ get_or ss i s → AreInside f site p (steps_sited q first (step_list (map see_step ss)))
        → IsInside f site p (step_site (see_step s), OfStep q at)
    step_at first at [] i s same within is all = absurd (omega arith)
    step_at first at (x ∷ ss) zero s same within is all =
        let here : first ≡ at = omega (arith, same) in
        subst (λ (k : ℕ). IsInside f site p (step_site (see_step s), OfStep q k)) here (subst (λ (y : Step). IsInside f site p (step_site (see_step y), OfStep q first)) (sym is) all.0)
    step_at first at (x ∷ ss) (suc i) s same within is all = step_at (suc first) at ss i s (omega (arith, same)) (omega arith) is all.1

    pub step-at : (ss : List Step) (i : ℕ) (s : Step) → i < length ss → s ≡ get_or ss i s → AreInside f site p (steps_sited q 0 (step_list (map see_step ss)))
        → IsInside f site p (step_site (see_step s), OfStep q i)
    step-at ss i s within is all = step_at 0 i ss i s (omega arith) within is all

-- ---- the parts of each type of the code: their syntax, and their own sites

pub test-seen : (site : ℕ) (any : Bool) (left : Query) (op : Op) (negated : Bool) (right : Option Expr) (message : Option (List ℕ))
    → see_part (part.Test site any left op negated right message) ≡ test site any (see_query left) op negated (see_opt_expr right) message
test-seen site any left op negated right message = search (rules, the_lemmas)

pub refer-seen : (site : ℕ) (negated : Bool) (name : List ℕ) (message : Option (List ℕ)) → see_part (part.Refer site negated name message) ≡ refer site negated name message
refer-seen site negated name message = search (rules, the_lemmas)

pub literal-seen : (site : ℕ) (tree : Forest) → see_expr (expr.Literal site tree) ≡ literal site tree
literal-seen site tree = search (rules, the_lemmas)

pub asked-seen : (q : Query) → see_expr (expr.Query q) ≡ asked (see_query q)
asked-seen q = search (rules, the_lemmas)

pub found-seen : (site : ℕ) (q : Query) → see_expr (expr.Found site q) ≡ found site (see_query q)
found-seen site q = search (rules, the_lemmas)

pub filter-seen : (s : Step) (capture : Option Named) (c : Conds) → s.form ≡ form.Filter capture c → see_step s ≡ filter s.site capture (see_conds c)
filter-seen s capture c is = step-seen s ∙ ap (λ (g : ℕ → sx.Step). g s.site) (ap see_form is ∙ by)
  where
    by : see_form (form.Filter capture c) ≡ (λ (n : ℕ). filter n capture (see_conds c))
    by = search (rules, the_lemmas)

pub keys-seen : (s : Step) (capture : Option Named) (op : Op) (negated : Bool) (right : Expr) → s.form ≡ form.Keys capture op negated right
    → see_step s ≡ keys s.site capture op negated (see_expr right)
keys-seen s capture op negated right is = step-seen s ∙ ap (λ (g : ℕ → sx.Step). g s.site) (ap see_form is ∙ by)
  where
    by : see_form (form.Keys capture op negated right) ≡ (λ (n : ℕ). keys n capture op negated (see_expr right))
    by = search (rules, the_lemmas)

pub body-own : (b : Body) → body_site (see_body b) ≡ (out-Body b).site
body-own b = ap body_site (body-seen b)

pub conds-own : (c : Conds) → conds_site (see_conds c) ≡ (out-Conds c).site
conds-own c = ap conds_site (conds-seen c)

pub disj-own : (d : Disj) → disj_site (see_disj d) ≡ d.site
disj-own d = ap disj_site (disj-seen d)

pub query-own : (q : Query) → query_site (see_query q) ≡ (out-Query q).site
query-own q = ap query_site (query-seen q)

pub step-own : (s : Step) → step_site (see_step s) ≡ s.site
step-own s = search (rules, the_lemmas)

pub block-own : (x : Part) (n : ℕ) (any : Bool) (head : Query) (b : Body) → x ≡ part.Block n any head b → part_site (see_part x) ≡ n
block-own x n any head b is = ap part_site (ap see_part is ∙ block-seen n any head b)

pub when-own : (x : Part) (n : ℕ) (c : Conds) (b : Body) → x ≡ part.When n c b → part_site (see_part x) ≡ n
when-own x n c b is = ap part_site (ap see_part is ∙ when-seen n c b)

pub kinds-own : (x : Part) (n : ℕ) (name : List ℕ) (c : Option Conds) (b : Body) → x ≡ part.Kinds n name c b → part_site (see_part x) ≡ n
kinds-own x n name c b is = ap part_site (ap see_part is ∙ kinds-seen n name c b)

pub test-own : (x : Part) (n : ℕ) (any : Bool) (left : Query) (op : Op) (negated : Bool) (right : Option Expr) (message : Option (List ℕ))
    → x ≡ part.Test n any left op negated right message → part_site (see_part x) ≡ n
test-own x n any left op negated right message is = ap part_site (ap see_part is ∙ test-seen n any left op negated right message)

pub refer-own : (x : Part) (n : ℕ) (negated : Bool) (name : List ℕ) (message : Option (List ℕ)) → x ≡ part.Refer n negated name message → part_site (see_part x) ≡ n
refer-own x n negated name message is = ap part_site (ap see_part is ∙ refer-seen n negated name message)

pub call-own : (x : Part) (n : ℕ) (negated : Bool) (name : List ℕ) (args : Vec Expr Global) (message : Option (List ℕ)) → x ≡ part.Call n negated name args message → part_site (see_part x) ≡ n
call-own x n negated name args message is = ap part_site (ap see_part is ∙ call-seen n negated name args message)

-- an expression that is no query of its own
own-as : (x : Expr) (y : sx.Expr) (n : ℕ) → see_expr x ≡ y → expr_sited y ≡ (n, OfExpr y) → expr_sited (see_expr x) ≡ (n, OfExpr (see_expr x))
own-as x y n seen = subst (λ (z : sx.Expr). expr_sited z ≡ (n, OfExpr z)) (sym seen)

pub literal-own : (x : Expr) (n : ℕ) (tree : Forest) → x ≡ expr.Literal n tree → expr_sited (see_expr x) ≡ (n, OfExpr (see_expr x))
literal-own x n tree is = own-as x (literal n tree) n (ap see_expr is ∙ literal-seen n tree) refl

pub function-own : (x : Expr) (n : ℕ) (name : List ℕ) (args : Vec Expr Global) → x ≡ expr.Function n name args → expr_sited (see_expr x) ≡ (n, OfExpr (see_expr x))
function-own x n name args is = own-as x (function n name (expr_list (map see_expr args.items))) n (ap see_expr is ∙ function-seen n name args) refl

pub found-own : (x : Expr) (n : ℕ) (q : Query) → x ≡ expr.Found n q → expr_sited (see_expr x) ≡ (n, OfExpr (see_expr x))
found-own x n q is = own-as x (found n (see_query q)) n (ap see_expr is ∙ found-seen n q) refl

pub asked-own : (x : Expr) (q : Query) → x ≡ expr.Query q → expr_sited (see_expr x) ≡ query_sited (see_query q)
asked-own x q is = ap expr_sited (ap see_expr is ∙ asked-seen q)

-- ---- steps by their indexes, and the parts of each type of the code

step-listed : (ss : List Step) (i : ℕ) (s : Step) → i < length ss → s ≡ get_or ss i s → step_in (step_list (map see_step ss)) i ≡ Some (see_step s)
step-listed [] i s within is = absurd (omega arith)
step-listed (x ∷ ss) zero s within is = ap (λ (y : Step). Some (see_step y)) (sym is)
step-listed (x ∷ ss) (suc i) s within is = step-listed ss i s (omega arith) is

-- the step of a query at an index
pub step-of : (q : Query) (ss : List Step) (i : ℕ) (s : Step) → ss ≡ (out-Query q).steps.items → i < length ss → s ≡ get_or ss i s → step_in (steps_in (see_query q)) i ≡ Some (see_step s)
step-of q ss i s are within is =
    ap (λ (x : sx.Query). step_in (steps_in x) i) (query-seen q) ∙ (ap (λ (xs : List Step). step_in (step_list (map see_step xs)) i) (sym are) ∙ step-listed ss i s within is)

module _ (f : sx.File) (order : AreInOrder f) (site : ℕ) where
  inside-as : (p : Piece) (parts : List Sited) → inner_of f p ≡ parts → piece_at f site ≡ Some p → AreInside f site p parts
  inside-as p parts are is = subst (AreInside f site p) are (insides f order site p is)

  pub parts-of-body : (b : Body) (ds : List Disj) → ds ≡ (out-Body b).parts.items → piece_at f site ≡ Some (OfBody (see_body b))
      → AreInside f site (OfBody (see_body b)) (disjs_sited (disj_list (map see_disj ds)))
  parts-of-body b ds are =
      inside-as (OfBody (see_body b)) (disjs_sited (disj_list (map see_disj ds)))
      (ap (λ (x : sx.Body). inner_of f (OfBody x)) (body-seen b) ∙ ap (λ (xs : List Disj). disjs_sited (disj_list (map see_disj xs))) (sym are))

  pub parts-of-conds : (c : Conds) (ds : List Disj) → ds ≡ (out-Conds c).parts.items → piece_at f site ≡ Some (OfConds (see_conds c))
      → AreInside f site (OfConds (see_conds c)) (disjs_sited (disj_list (map see_disj ds)))
  parts-of-conds c ds are =
      inside-as (OfConds (see_conds c)) (disjs_sited (disj_list (map see_disj ds)))
      (ap (λ (x : sx.Conds). inner_of f (OfConds x)) (conds-seen c) ∙ ap (λ (xs : List Disj). disjs_sited (disj_list (map see_disj xs))) (sym are))

  pub parts-of-disj : (d : Disj) (ps : List Part) → ps ≡ d.parts.items → piece_at f site ≡ Some (OfDisj (see_disj d))
      → AreInside f site (OfDisj (see_disj d)) (parts_sited (part_list (map see_part ps)))
  parts-of-disj d ps are =
      inside-as (OfDisj (see_disj d)) (parts_sited (part_list (map see_part ps)))
      (ap (λ (x : sx.Disj). inner_of f (OfDisj x)) (disj-seen d) ∙ ap (λ (xs : List Part). parts_sited (part_list (map see_part xs))) (sym are))

  pub parts-of-query : (q : Query) (ss : List Step) → ss ≡ (out-Query q).steps.items → piece_at f site ≡ Some (OfQuery (see_query q))
      → AreInside f site (OfQuery (see_query q)) (steps_sited (see_query q) 0 (step_list (map see_step ss)))
  parts-of-query q ss are =
      inside-as (OfQuery (see_query q)) (steps_sited (see_query q) 0 (step_list (map see_step ss)))
      (ap (λ (x : sx.Query). steps_sited (see_query q) 0 (steps_in x)) (query-seen q) ∙ ap (λ (xs : List Step). steps_sited (see_query q) 0 (step_list (map see_step xs))) (sym are))

  pub parts-of-part : (x : Part) (y : sx.Part) → see_part x ≡ y → piece_at f site ≡ Some (OfPart (see_part x)) → AreInside f site (OfPart (see_part x)) (inner_of_part y)
  parts-of-part x y seen = inside-as (OfPart (see_part x)) (inner_of_part y) (ap inner_of_part seen)

  pub parts-of-block : (x : Part) (n : ℕ) (any : Bool) (head : Query) (b : Body) → x ≡ part.Block n any head b → piece_at f site ≡ Some (OfPart (see_part x))
      → AreInside f site (OfPart (see_part x)) (query_sited (see_query head) ∷ body_sited (see_body b) ∷ [])
  parts-of-block x n any head b is = parts-of-part x (block n any (see_query head) (see_body b)) (ap see_part is ∙ block-seen n any head b)

  pub parts-of-when : (x : Part) (n : ℕ) (c : Conds) (b : Body) → x ≡ part.When n c b → piece_at f site ≡ Some (OfPart (see_part x))
      → AreInside f site (OfPart (see_part x)) (conds_sited (see_conds c) ∷ body_sited (see_body b) ∷ [])
  parts-of-when x n c b is = parts-of-part x (guarded n (see_conds c) (see_body b)) (ap see_part is ∙ when-seen n c b)

  pub parts-of-kinds : (x : Part) (n : ℕ) (name : List ℕ) (c : Option Conds) (b : Body) → x ≡ part.Kinds n name c b → piece_at f site ≡ Some (OfPart (see_part x))
      → AreInside f site (OfPart (see_part x)) (opt_conds_sited (see_opt_conds c) ++ body_sited (see_body b) ∷ [])
  parts-of-kinds x n name c b is = parts-of-part x (kinds n name (see_opt_conds c) (see_body b)) (ap see_part is ∙ kinds-seen n name c b)

  pub parts-of-test : (x : Part) (n : ℕ) (any : Bool) (left : Query) (op : Op) (negated : Bool) (right : Option Expr) (message : Option (List ℕ))
      → x ≡ part.Test n any left op negated right message → piece_at f site ≡ Some (OfPart (see_part x))
      → AreInside f site (OfPart (see_part x)) (query_sited (see_query left) ∷ opt_expr_sited (see_opt_expr right))
  parts-of-test x n any left op negated right message is =
      parts-of-part x (test n any (see_query left) op negated (see_opt_expr right) message) (ap see_part is ∙ test-seen n any left op negated right message)

  pub parts-of-call : (x : Part) (n : ℕ) (negated : Bool) (name : List ℕ) (args : Vec Expr Global) (message : Option (List ℕ)) (es : List Expr)
      → x ≡ part.Call n negated name args message → es ≡ args.items → piece_at f site ≡ Some (OfPart (see_part x))
      → AreInside f site (OfPart (see_part x)) (exprs_sited (expr_list (map see_expr es)))
  parts-of-call x n negated name args message es is are =
      parts-of-part x (call n negated name (expr_list (map see_expr es)) message)
      (ap see_part is ∙ (call-seen n negated name args message ∙ ap (λ (xs : List Expr). call n negated name (expr_list (map see_expr xs)) message) (sym are)))

  pub parts-of-expr : (x : Expr) (y : sx.Expr) → see_expr x ≡ y → piece_at f site ≡ Some (OfExpr (see_expr x)) → AreInside f site (OfExpr (see_expr x)) (inner_of_expr y)
  parts-of-expr x y seen = inside-as (OfExpr (see_expr x)) (inner_of_expr y) (ap inner_of_expr seen)

  pub parts-of-function : (x : Expr) (n : ℕ) (name : List ℕ) (args : Vec Expr Global) (es : List Expr) → x ≡ expr.Function n name args → es ≡ args.items
      → piece_at f site ≡ Some (OfExpr (see_expr x)) → AreInside f site (OfExpr (see_expr x)) (exprs_sited (expr_list (map see_expr es)))
  parts-of-function x n name args es is are =
      parts-of-expr x (function n name (expr_list (map see_expr es)))
      (ap see_expr is ∙ (function-seen n name args ∙ ap (λ (xs : List Expr). function n name (expr_list (map see_expr xs))) (sym are)))

  pub parts-of-found : (x : Expr) (n : ℕ) (q : Query) → x ≡ expr.Found n q → piece_at f site ≡ Some (OfExpr (see_expr x))
      → AreInside f site (OfExpr (see_expr x)) (query_sited (see_query q) ∷ [])
  parts-of-found x n q is = parts-of-expr x (found n (see_query q)) (ap see_expr is ∙ found-seen n q)

  -- of a step that stands in a query at an index
  pub parts-of-filter : (q : sx.Query) (i : ℕ) (s : Step) (capture : Option Named) (c : Conds) → step_in (steps_in q) i ≡ Some (see_step s) → s.form ≡ form.Filter capture c
      → piece_at f site ≡ Some (OfStep q i) → AreInside f site (OfStep q i) (conds_sited (see_conds c) ∷ [])
  parts-of-filter q i s capture c at is =
      inside-as (OfStep q i) (conds_sited (see_conds c) ∷ []) (ap inner_of_step (at ∙ ap (λ (x : sx.Step). Some x) (filter-seen s capture c is)))

  pub parts-of-keys : (q : sx.Query) (i : ℕ) (s : Step) (capture : Option Named) (op : Op) (negated : Bool) (right : Expr) → step_in (steps_in q) i ≡ Some (see_step s)
      → s.form ≡ form.Keys capture op negated right → piece_at f site ≡ Some (OfStep q i) → AreInside f site (OfStep q i) (expr_sited (see_expr right) ∷ [])
  parts-of-keys q i s capture op negated right at is =
      inside-as (OfStep q i) (expr_sited (see_expr right) ∷ []) (ap inner_of_step (at ∙ ap (λ (x : sx.Step). Some x) (keys-seen s capture op negated right is)))

  -- the conditions of a filter stand in the filter
  pub scope-of-filter : (q : sx.Query) (i : ℕ) (s : Step) (capture : Option Named) (c : Conds) → step_in (steps_in q) i ≡ Some (see_step s) → s.form ≡ form.Filter capture c
      → scope_in f site (OfStep q i) ≡ site
  scope-of-filter q i s capture c at is = ap (scope_in_step f site) (at ∙ ap (λ (x : sx.Step). Some x) (filter-seen s capture c is))
