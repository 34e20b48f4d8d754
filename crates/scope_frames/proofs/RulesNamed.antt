-- The rules that references and calls name: by induction over the syntax the use of a rule in a file that is well named means the rule of its name, and fits it. Each such use has its
-- own site, so the table of meanings says so there.
use Rattle.std.proofs.Common.{◌≡◌, ℕ, zero, suc, ◌≤◌, ◌<◌, Bool, true, false, cond, if◌then◌else◌, nat_eq, refl, sym, ap, ◌∙◌, subst, arith, true≢false, List, [], ◌∷◌, ◌++◌, length, replicate, Option, Some, None, option_and_then}
use Rattle.std.specs.Prelude.{◌==◌, Contains, find, option_map, slice_index_or}
use Rattle.std.proofs.lemmas.Bool.Decides.{nat_tests}
use Rattle.std.proofs.lemmas.List.{nil_from_length}
use Rattle.std.proofs.lemmas.Option.{none-some, same_Some}
use Rattle.guard_syntax.specs.Named.{Named}
use Rattle.guard_syntax.specs.Syntax.{Body, Lets, Let, Conds, OptConds, Disjs, Disj, Parts, Part, Query, Steps, Step, Expr, OptExpr, Exprs, Rule, File, body, no_lets, more_lets, assign, conds, no_conds, with_conds, no_disjs, more_disjs, disj, no_parts, more_parts, block, guarded, kinds, test, refer, call, query, no_steps, more_steps, this, var, key, index, every, items, splice, filter, keys, literal, function, asked, found, no_expr, with_expr, no_exprs, more_exprs}
use Rattle.rule_names.specs.declared.bind.Link.{Link}
use Rattle.rule_names.specs.declared.bind.Link.TheVariants.{Rule as ToRule}
use Rattle.rule_names.specs.declared.name_kind.NameKind.TheVariants.{ArgCount, NeedsArguments, TakesNone}
use Rattle.rule_names.specs.Duplicates.{duplicates}
use Rattle.rule_names.specs.EnclosingScopes.{home_of, homes_body, homes_rule, homes_rules}
use Rattle.rule_names.specs.Faults.{first_of}
use Rattle.rule_names.specs.Pieces.{AreInOrder, Piece, OfLet, OfRule, OfBody, OfConds, OfDisj, OfPart, OfQuery, OfStep, OfExpr, Sited, piece_in, piece_at, pieces_file, pieces_body, pieces_lets, pieces_let, pieces_conds, pieces_opt_conds, pieces_disjs, pieces_disj, pieces_parts, pieces_part, pieces_query, pieces_steps, pieces_step, pieces_expr, pieces_opt_expr, pieces_exprs, pieces_rule, pieces_rules}
use Rattle.rule_names.specs.Resolution.{Linked, Meant, Scopes, link_rule, link_variable, links_body, links_conds, links_disj, links_disjs, links_expr, links_exprs, links_in, links_let, links_lets, links_opt_conds, links_opt_expr, links_part, links_parts, links_query, links_rule, links_rules, links_step, links_steps, meant_in, resolution_of, rule_of, target_of}
use Rattle.rule_names.specs.Scopes.{Given, given_body, given_conds, given_file}
use Rattle.rule_names.specs.Uses.{count_exprs, function_named, place_of, rule_named, wrong, wrong_body, wrong_call, wrong_conds, wrong_disj, wrong_disjs, wrong_expr, wrong_exprs, wrong_function, wrong_let, wrong_lets, wrong_opt_conds, wrong_opt_expr, wrong_part, wrong_parts, wrong_query, wrong_refer, wrong_rule, wrong_rules, wrong_step, wrong_steps, wrong_uses}
use Rattle.rule_names.specs.WellNamed.{WellNamed}
use Rattle.evidence_rules.specs.CitedLines.{body_of_rule, body_site, called_body}
use Rattle.rule_names.proofs.Parts.{hits, hits-append}
use Rattle.rule_names.proofs.Shallow.{neither, none-first}
use Rattle.scope_frames.proofs.NamesBound.{Each, Placed, all-there, back-rules, each-apart, each-both, front-rule, inside, named-there, rule-body, rules-placed, same-links, target-named, visits, visits-append}

-- ---- the rules of a file by their sites

rule-placed : (f : File) (rs : List Rule) (r : Rule) (k : ℕ) → k < length rs → slice_index_or rs k r ≡ r → Placed f (homes_rules 0 rs) (pieces_rules rs) → Placed f (homes_rule 0 r) (pieces_rule r)
rule-placed f [] r k within is s = absurd (omega (arith, within))
rule-placed f (x ∷ rs) r zero within is s = subst (λ (y : Rule). Placed f (homes_rule 0 y) (pieces_rule y)) is (front-rule f x rs s)
rule-placed f (x ∷ rs) r (suc k) within is s = rule-placed f rs r k (omega (arith, within)) is (back-rules f x rs s)

-- a rule of the file stands there whole
pub placed-by : (f : File) → AreInOrder f → (r : Rule) → Contains f.rules r → Placed f (homes_rule 0 r) (pieces_rule r)
placed-by f order r has = rule-placed f f.rules r has.0 has.1 has.2 (rules-placed f order)

body-home : (f : File) (home : ℕ) (b : Body) → Placed f (homes_body home b) (pieces_body b) → home_of f (body_site b) ≡ home
body-home f home (body n ls ds) s = s.homes.0

-- the body of a rule stands in the file's scope
pub rule-body-home : (f : File) → AreInOrder f → (r : Rule) → Contains f.rules r → home_of f (body_site r.body) ≡ 0
rule-body-home f order r has = body-home f 0 r.body (rule-body f r (placed-by f order r has))

rule-at : (f : File) → AreInOrder f → (r : Rule) → Contains f.rules r → piece_at f r.site ≡ Some (OfRule r)
rule-at f order r has = (placed-by f order r has).pieces.0

-- so does the body that a site calls
pub called-home : (f : File) → AreInOrder f → (site : ℕ) (b : Body) → called_body f site ≡ Some b → home_of f (body_site b) ≡ 0
called-home f order site b is = by (target_of f site) refl is
  where
    by : (o : Option ℕ) → target_of f site ≡ o → option_and_then (λ (rule : ℕ). option_and_then body_of_rule (piece_at f rule)) o ≡ Some b → home_of f (body_site b) ≡ 0
    by None at e = absurd (none-some b e)
    by (Some rule) at e =
        let (r, has, same) = target-named f order site rule at in
        let there : piece_at f rule ≡ Some (OfRule r) = ap (piece_at f) (sym same) ∙ rule-at f order r has in
        let own : Some r.body ≡ Some b = sym (ap (option_and_then body_of_rule) there) ∙ e in
        subst (λ (x : Body). home_of f (body_site x) ≡ 0) (same_Some r.body b own) (rule-body-home f order r has)

-- ---- lists

-- nothing is the matter with lists that are joined
none-both : {A : Type 0} (xs ys : List A) → xs ++ ys ≡ [] → (xs ≡ []) × (ys ≡ [])
none-both [] ys none = (refl, none)
none-both (x ∷ xs) ys none = absurd cc

-- what is found at a site is one of the pieces
pub found-one : (P : Sited → Type 0) (ss : List Sited) (n : ℕ) (p : Piece) → Each P ss → piece_in ss n ≡ Some p → P (n, p)
found-one P [] n p h e = absurd (none-some p e)
found-one P ((m, q) ∷ ss) n p h e = by (found-one P ss n p h.1) (m == n) refl e
  where
    by : (piece_in ss n ≡ Some p → P (n, p)) → (b : Bool) → (m == n) ≡ b → option_map (λ (s : Sited). s.1) (cond b (Some (m, q)) (find (λ (s : Sited). s.0 == n) ss)) ≡ Some p → P (n, p)
    by later true is there =
        let same : m ≡ n = grind (arith, nat_tests, is) in
        subst (λ (k : ℕ). P (k, p)) same (subst (λ (x : Piece). P (m, x)) (same_Some q p there) h.0)
    by later false is there = later there

module _ (f : File) where
  -- the table of meanings says this of a use
  abbrev IsLinked : Linked → Type 0
  IsLinked l = slice_index_or (resolution_of f) l.0 None ≡ Some l.1

  -- a reference names a rule without parameters, and a call one with as many as it has arguments, which are some
  abbrev NamesPlain : (site : ℕ) → Option Rule → Type 0
  NamesPlain site o = (r : Rule) × (o ≡ Some r) × (target_of f site ≡ Some r.site) × (r.params ≡ [])

  abbrev NamesFitting : (site count : ℕ) → Option Rule → Type 0
  NamesFitting site count o = (r : Rule) × (o ≡ Some r) × (target_of f site ≡ Some r.site) × (length r.params ≡ count) × (r.params ≡ [] → ⊥)

  abbrev NamesPart : ℕ → Part → Type 0
  NamesPart n (refer m negated name message) = NamesPlain n (rule_named f.rules name)
  NamesPart n (call m negated name es message) = NamesFitting n (count_exprs es) (rule_named f.rules name)
  NamesPart n _ = Unit {0}

  abbrev NamesPiece : ℕ → Piece → Type 0
  NamesPiece n (OfPart p) = NamesPart n p
  NamesPiece n _ = Unit {0}

  abbrev Names : Sited → Type 0
  Names p = NamesPiece p.0 p.1

  linked-target : (n : ℕ) (r : Rule) → IsLinked (n, ToRule r.site) → target_of f n ≡ Some r.site
  linked-target n r is = ap (λ (o : Option Link). option_and_then rule_of o) is

  plain-named : (n : ℕ) (name : List ℕ) (at : ℕ) (o : Option Rule) → wrong_refer f.rules f.places o name at ≡ [] → Each IsLinked (link_rule f n o) → NamesPlain n o
  plain-named n name at None none linked = absurd cc
  plain-named n name at (Some r) none linked = (r, refl, linked-target n r linked.0, nil_from_length r.params (by (nat_eq (length r.params) 0) refl none))
    where
      by : (b : Bool) → nat_eq (length r.params) 0 ≡ b → (if b then [] else wrong f.rules f.places NeedsArguments name at) ≡ [] → length r.params ≡ 0
      by true same h = grind (arith, nat_tests, same)
      by false same h = absurd cc

  fitting-named : (n : ℕ) (name : List ℕ) (count at : ℕ) (o : Option Rule) → wrong_call f.rules f.places o count name at ≡ [] → Each IsLinked (link_rule f n o) → NamesFitting n count o
  fitting-named n name count at None none linked = absurd cc
  fitting-named n name count at (Some r) none linked =
      let both = by (nat_eq (length r.params) 0) (nat_eq (length r.params) count) refl refl none in
      (r, refl, linked-target n r linked.0, both.0, both.1)
    where
      some : nat_eq (length r.params) 0 ≡ false → r.params ≡ [] → ⊥
      some other empty =
          let long : length r.params ≡ 0 = ap (λ (ps : List Named). length ps) empty in
          let same : nat_eq (length r.params) 0 ≡ true = grind (arith, nat_tests, long) in
          true≢false (sym same ∙ other)

      by : (b c : Bool) → nat_eq (length r.params) 0 ≡ b → nat_eq (length r.params) count ≡ c
          → (if b then wrong f.rules f.places TakesNone name at else (if c then [] else wrong f.rules f.places ArgCount name at)) ≡ [] → (length r.params ≡ count) × (r.params ≡ [] → ⊥)
      by true c empty same h = absurd cc
      by false true empty same h = (grind (arith, nat_tests, same), some empty)
      by false false empty same h = absurd cc

  few-rule : (n m : ℕ) (o : Option Rule) → visits m (link_rule f n o) ≤ cond (n == m) 1 0
  few-rule n m None = omega arith
  few-rule n m (Some r) = omega arith

  few-variable : (n m : ℕ) (o : Option Meant) → visits m (link_variable f n o) ≤ cond (n == m) 1 0
  few-variable n m None = omega arith
  few-variable n m (Some meant) = omega arith

  -- uses, in pieces: each at a site of its own; and where the table says what they mean, the uses of rules name rules that fit
  record Tells (ls : List Linked) (ps : List Sited) : Type 0 where
    few : (n : ℕ) → visits n ls ≤ hits n ps
    each : Each IsLinked ls → Each Names ps

  tells-none : Tells [] []
  tells-none = record { few = λ n. omega arith; each = λ linked. tt }

  tells-behind : (n : ℕ) (p : Piece) (ls : List Linked) (ps : List Sited) → NamesPiece n p → Tells ls ps → Tells ls ((n, p) ∷ ps)
  tells-behind n p ls ps names h = record { few = λ m. omega (arith, h.few m); each = λ linked. (names, h.each linked) }

  tells-one : (n : ℕ) (p : Piece) (ls : List Linked) → ((m : ℕ) → visits m ls ≤ cond (n == m) 1 0) → (Each IsLinked ls → NamesPiece n p) → Tells ls ((n, p) ∷ [])
  tells-one n p ls few names = record { few = λ m. omega (arith, few m); each = λ linked. (names linked, tt) }

  tells-both : (ls ks : List Linked) (ps qs : List Sited) → Tells ls ps → Tells ks qs → Tells (ls ++ ks) (ps ++ qs)
  tells-both ls ks ps qs h k = record {
    few = λ n. omega (arith, h.few n, k.few n, visits-append n ls ks, hits-append n ps qs);
    each = λ linked. let both = each-apart IsLinked ls ks linked in each-both Names ps qs (h.each both.0) (k.each both.1);
  }

  tells-variable : (n : ℕ) (q : Query) (i : ℕ) (o : Option Meant) → Tells (link_variable f n o) ((n, OfStep q i) ∷ [])
  tells-variable n q i o = tells-one n (OfStep q i) (link_variable f n o) (λ m. few-variable n m o) (λ linked. tt)

  mutual
    tell-body : (v : List Given) (scopes : Scopes) (params : List Named) (x : Body) → wrong_body f.rules f.places v params x ≡ [] → Tells (links_body f scopes params x) (pieces_body x)
    tell-body v scopes params (body n ls ds) none =
        let parts = none-both _ _ none in
        tells-behind n (OfBody (body n ls ds)) _ _ tt
        (tells-both _ _ _ _ (tell-lets (given_body params (body n ls ds) ++ v) (given_body params (body n ls ds) ∷ scopes) ls parts.0)
        (tell-disjs (given_body params (body n ls ds) ++ v) (given_body params (body n ls ds) ∷ scopes) ds parts.1))

    tell-lets : (v : List Given) (scopes : Scopes) (x : Lets) → wrong_lets f.rules f.places v x ≡ [] → Tells (links_lets f scopes x) (pieces_lets x)
    tell-lets v scopes no_lets none = tells-none
    tell-lets v scopes (more_lets l ls) none = let parts = none-both _ _ none in tells-both _ _ _ _ (tell-let v scopes l parts.0) (tell-lets v scopes ls parts.1)

    tell-let : (v : List Given) (scopes : Scopes) (x : Let) → wrong_let f.rules f.places v x ≡ [] → Tells (links_let f scopes x) (pieces_let x)
    tell-let v scopes (assign n name e) none = tells-behind n (OfLet (assign n name e)) _ _ tt (tell-expr v scopes e none)

    tell-conds : (v : List Given) (scopes : Scopes) (x : Conds) → wrong_conds f.rules f.places v x ≡ [] → Tells (links_conds f scopes x) (pieces_conds x)
    tell-conds v scopes (conds n ds) none = tells-behind n (OfConds (conds n ds)) _ _ tt (tell-disjs v scopes ds none)

    tell-opt_conds : (v : List Given) (scopes : Scopes) (x : OptConds) → wrong_opt_conds f.rules f.places v x ≡ [] → Tells (links_opt_conds f scopes x) (pieces_opt_conds x)
    tell-opt_conds v scopes no_conds none = tells-none
    tell-opt_conds v scopes (with_conds c) none = tell-conds v scopes c none

    tell-disjs : (v : List Given) (scopes : Scopes) (x : Disjs) → wrong_disjs f.rules f.places v x ≡ [] → Tells (links_disjs f scopes x) (pieces_disjs x)
    tell-disjs v scopes no_disjs none = tells-none
    tell-disjs v scopes (more_disjs d ds) none = let parts = none-both _ _ none in tells-both _ _ _ _ (tell-disj v scopes d parts.0) (tell-disjs v scopes ds parts.1)

    tell-disj : (v : List Given) (scopes : Scopes) (x : Disj) → wrong_disj f.rules f.places v x ≡ [] → Tells (links_disj f scopes x) (pieces_disj x)
    tell-disj v scopes (disj n ps) none = tells-behind n (OfDisj (disj n ps)) _ _ tt (tell-parts v scopes ps none)

    tell-parts : (v : List Given) (scopes : Scopes) (x : Parts) → wrong_parts f.rules f.places v x ≡ [] → Tells (links_parts f scopes x) (pieces_parts x)
    tell-parts v scopes no_parts none = tells-none
    tell-parts v scopes (more_parts p ps) none = let parts = none-both _ _ none in tells-both _ _ _ _ (tell-part v scopes p parts.0) (tell-parts v scopes ps parts.1)

    tell-part : (v : List Given) (scopes : Scopes) (x : Part) → wrong_part f.rules f.places v x ≡ [] → Tells (links_part f scopes x) (pieces_part x)
    tell-part v scopes (block n any q b) none =
        let parts = none-both _ _ none in
        tells-behind n (OfPart (block n any q b)) _ _ tt (tells-both _ _ _ _ (tell-query v scopes q parts.0) (tell-body v scopes [] b parts.1))
    tell-part v scopes (guarded n c b) none =
        let parts = none-both _ _ none in
        tells-behind n (OfPart (guarded n c b)) _ _ tt (tells-both _ _ _ _ (tell-conds v scopes c parts.0) (tell-body v scopes [] b parts.1))
    tell-part v scopes (kinds n name c b) none =
        let parts = none-both _ _ none in
        tells-behind n (OfPart (kinds n name c b)) _ _ tt (tells-both _ _ _ _ (tell-opt_conds v scopes c parts.0) (tell-body v scopes [] b parts.1))
    tell-part v scopes (test n any q op negated right message) none =
        let parts = none-both _ _ none in
        tells-behind n (OfPart (test n any q op negated right message)) _ _ tt (tells-both _ _ _ _ (tell-query v scopes q parts.0) (tell-opt_expr v scopes right parts.1))
    tell-part v scopes (refer n negated name message) none =
        tells-one n (OfPart (refer n negated name message)) (link_rule f n (rule_named f.rules name)) (λ m. few-rule n m (rule_named f.rules name))
        (plain-named n name (place_of f.rules f.places n) (rule_named f.rules name) none)
    tell-part v scopes (call n negated name es message) none =
        let parts = none-both (wrong_call f.rules f.places (rule_named f.rules name) (count_exprs es) name (place_of f.rules f.places n)) _ none in
        tells-both (link_rule f n (rule_named f.rules name)) (links_exprs f scopes es) ((n, OfPart (call n negated name es message)) ∷ []) (pieces_exprs es)
        (tells-one n (OfPart (call n negated name es message)) (link_rule f n (rule_named f.rules name)) (λ m. few-rule n m (rule_named f.rules name))
        (fitting-named n name (count_exprs es) (place_of f.rules f.places n) (rule_named f.rules name) parts.0))
        (tell-exprs v scopes es parts.1)

    tell-query : (v : List Given) (scopes : Scopes) (x : Query) → wrong_query f.rules f.places v x ≡ [] → Tells (links_query f scopes x) (pieces_query x)
    tell-query v scopes (query n ss) none = tells-behind n (OfQuery (query n ss)) _ _ tt (tell-steps v scopes (query n ss) 0 ss none)

    tell-steps : (v : List Given) (scopes : Scopes) (q : Query) (i : ℕ) (x : Steps) → wrong_steps f.rules f.places v x ≡ [] → Tells (links_steps f scopes x) (pieces_steps q i x)
    tell-steps v scopes q i no_steps none = tells-none
    tell-steps v scopes q i (more_steps p ps) none =
        let parts = none-both _ _ none in tells-both _ _ _ _ (tell-step v scopes q i p parts.0) (tell-steps v scopes q (suc i) ps parts.1)

    tell-step : (v : List Given) (scopes : Scopes) (q : Query) (i : ℕ) (x : Step) → wrong_step f.rules f.places v x ≡ [] → Tells (links_step f scopes x) (pieces_step q i x)
    tell-step v scopes q i (this n) none = tells-behind n (OfStep q i) _ _ tt tells-none
    tell-step v scopes q i (var n name) none = tells-variable n q i (meant_in scopes name)
    tell-step v scopes q i (key n name) none = tells-behind n (OfStep q i) _ _ tt tells-none
    tell-step v scopes q i (index n at) none = tells-behind n (OfStep q i) _ _ tt tells-none
    tell-step v scopes q i (every n) none = tells-behind n (OfStep q i) _ _ tt tells-none
    tell-step v scopes q i (items n) none = tells-behind n (OfStep q i) _ _ tt tells-none
    tell-step v scopes q i (splice n name) none = tells-variable n q i (meant_in scopes name.text)
    tell-step v scopes q i (filter n capture c) none = tells-behind n (OfStep q i) _ _ tt (tell-conds (given_conds c ++ v) (given_conds c ∷ scopes) c none)
    tell-step v scopes q i (keys n capture op negated e) none = tells-behind n (OfStep q i) _ _ tt (tell-expr v scopes e none)

    tell-expr : (v : List Given) (scopes : Scopes) (x : Expr) → wrong_expr f.rules f.places v x ≡ [] → Tells (links_expr f scopes x) (pieces_expr x)
    tell-expr v scopes (literal n tree) none = tells-behind n (OfExpr (literal n tree)) _ _ tt tells-none
    tell-expr v scopes (function n name es) none =
        let parts = none-both (wrong_function f.rules f.places (function_named name) name es (place_of f.rules f.places n)) _ none in
        tells-behind n (OfExpr (function n name es)) _ _ tt (tell-exprs v scopes es parts.1)
    tell-expr v scopes (asked q) none = tell-query v scopes q none
    tell-expr v scopes (found n q) none = tells-behind n (OfExpr (found n q)) _ _ tt (tell-query v scopes q none)

    tell-opt_expr : (v : List Given) (scopes : Scopes) (x : OptExpr) → wrong_opt_expr f.rules f.places v x ≡ [] → Tells (links_opt_expr f scopes x) (pieces_opt_expr x)
    tell-opt_expr v scopes no_expr none = tells-none
    tell-opt_expr v scopes (with_expr e) none = tell-expr v scopes e none

    tell-exprs : (v : List Given) (scopes : Scopes) (x : Exprs) → wrong_exprs f.rules f.places v x ≡ [] → Tells (links_exprs f scopes x) (pieces_exprs x)
    tell-exprs v scopes no_exprs none = tells-none
    tell-exprs v scopes (more_exprs e es) none = let parts = none-both _ _ none in tells-both _ _ _ _ (tell-expr v scopes e parts.0) (tell-exprs v scopes es parts.1)

  tell-rules : (v : List Given) (scopes : Scopes) (rs : List Rule) → wrong_rules f.rules f.places v rs ≡ [] → Tells (links_rules f scopes rs) (pieces_rules rs)
  tell-rules v scopes [] none = tells-none
  tell-rules v scopes (r ∷ rs) none =
      let rules = none-both (wrong_rule f.rules f.places v r) (wrong_rules f.rules f.places v rs) none in
      let parts = none-both (wrong_opt_conds f.rules f.places v r.cond) (wrong_body f.rules f.places v r.params r.body) rules.0 in
      tells-both (links_rule f scopes r) (links_rules f scopes rs) (pieces_rule r) (pieces_rules rs)
      (tells-behind r.site (OfRule r) _ _ tt (tells-both _ _ _ _ (tell-opt_conds v scopes r.cond parts.0) (tell-body v scopes r.params r.body parts.1))) (tell-rules v scopes rs rules.1)

  file-tells : WellNamed f → Tells (links_in f) (inside f)
  file-tells named =
      let none : wrong_uses f ≡ [] = none-first (wrong_uses f) (neither (first_of (duplicates f)) (first_of (wrong_uses f)) named.singles).1 in
      let parts = none-both (wrong_lets f.rules f.places (given_file f) f.lets) _ none in
      let others = none-both (wrong_rules f.rules f.places (given_file f) f.rules) _ parts.1 in
      let scopes : Scopes = given_file f ∷ [] in
      tells-both _ _ _ _ (tell-lets (given_file f) scopes f.lets parts.0)
      (tells-both _ _ _ _ (tell-rules (given_file f) scopes f.rules others.0) (tell-disjs (given_file f) scopes f.loose others.1))

  -- ---- what the table of meanings says

  all-linked : AreInOrder f → Tells (links_in f) (inside f) → Each IsLinked (links_in f)
  all-linked order tells =
      subst (λ (t : List (Option Link)). Each (λ (l : Linked). slice_index_or t l.0 None ≡ Some l.1) (links_in f)) (sym (same-links (replicate (length f.places) None) (links_in f)))
      (all-there f order (links_in f) tells.few Some None)

  names-at : WellNamed f → AreInOrder f → (site : ℕ) (p : Piece) → piece_at f site ≡ Some p → NamesPiece site p
  names-at named order site p there =
      let tells = file-tells named in
      found-one Names (pieces_file f) site p (tt, tells.each (all-linked order tells)) there

-- a reference names a rule of the file without parameters
pub refers-plain : (f : File) → WellNamed f → AreInOrder f → (site n : ℕ) (negated : Bool) (name : List ℕ) (message : Option (List ℕ)) → piece_at f site ≡ Some (OfPart (refer n negated name message))
    → (r : Rule) × Contains f.rules r × (target_of f site ≡ Some r.site) × (piece_at f r.site ≡ Some (OfRule r)) × (r.params ≡ [])
refers-plain f named order site n negated name message there =
    let (r, is, target, plain) = names-at f named order site (OfPart (refer n negated name message)) there in
    let has = named-there f.rules name r is in
    (r, has, target, rule-at f order r has, plain)

-- a call names a rule of the file with as many parameters as it has arguments, and with some
pub calls-fit : (f : File) → WellNamed f → AreInOrder f → (site n : ℕ) (negated : Bool) (name : List ℕ) (es : Exprs) (message : Option (List ℕ)) → piece_at f site ≡ Some (OfPart (call n negated name es message))
    → (r : Rule) × Contains f.rules r × (target_of f site ≡ Some r.site) × (piece_at f r.site ≡ Some (OfRule r)) × (length r.params ≡ count_exprs es) × (r.params ≡ [] → ⊥)
calls-fit f named order site n negated name es message there =
    let (r, is, target, fits, some) = names-at f named order site (OfPart (call n negated name es message)) there in
    let has = named-there f.rules name r is in
    (r, has, target, rule-at f order r has, fits, some)
