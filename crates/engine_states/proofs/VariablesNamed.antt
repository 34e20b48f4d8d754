-- Each variable that is used in a well-named file means something: by induction over the syntax some scope around its use has the name. Each use has its own site, so the table of
-- meanings says so there.
use Rattle.std.proofs.Common.{◌≡◌, ℕ, suc, ◌≤◌, Bool, true, false, cond, refl, sym, ap, subst, arith, true≢false, List, [], ◌∷◌, ◌++◌, length, replicate, Option, Some, None, option_and_then, is_some}
use Rattle.std.specs.Prelude.{◌==◌, IsSome, find, option_map, slice_index_or}
use Rattle.std.specs.Str.{bytes_eq}
use Rattle.std.proofs.lemmas.Bool.Decides.{nat_tests}
use Rattle.std.proofs.lemmas.Option.{none-some, same_Some}
use Rattle.guard_syntax.specs.Named.{Named}
use Rattle.guard_syntax.specs.Syntax.{Body, Lets, Let, Conds, OptConds, Disjs, Disj, Parts, Part, Query, Steps, Step, Expr, OptExpr, Exprs, Rule, File, body, no_lets, more_lets, assign, conds, no_conds, with_conds, no_disjs, more_disjs, disj, no_parts, more_parts, block, guarded, kinds, test, refer, call, query, no_steps, more_steps, this, var, key, index, every, items, splice, filter, keys, literal, function, asked, found, no_expr, with_expr, no_exprs, more_exprs}
use Rattle.rule_names.specs.declared.bind.Link.{Link}
use Rattle.rule_names.specs.Duplicates.{duplicates}
use Rattle.rule_names.specs.Faults.{first_of}
use Rattle.rule_names.specs.Pieces.{AreInOrder, Piece, OfLet, OfRule, OfBody, OfConds, OfDisj, OfPart, OfQuery, OfStep, OfExpr, Sited, piece_in, piece_at, pieces_file, pieces_body, pieces_lets, pieces_let, pieces_conds, pieces_opt_conds, pieces_disjs, pieces_disj, pieces_parts, pieces_part, pieces_query, pieces_steps, pieces_step, pieces_expr, pieces_opt_expr, pieces_exprs, pieces_rule, pieces_rules}
use Rattle.rule_names.specs.Resolution.{Linked, Meant, Scopes, bind_of, here_or, link_rule, link_variable, links_body, links_conds, links_disj, links_disjs, links_expr, links_exprs, links_in, links_let, links_lets, links_opt_conds, links_opt_expr, links_part, links_parts, links_query, links_rule, links_rules, links_step, links_steps, meant_in, one_out, resolution_of, variable_of}
use Rattle.rule_names.specs.Scopes.{Given, given_body, given_conds, given_file, given_named}
use Rattle.rule_names.specs.Uses.{count_exprs, function_named, place_of, rule_named, wrong_body, wrong_call, wrong_conds, wrong_disj, wrong_disjs, wrong_expr, wrong_exprs, wrong_function, wrong_let, wrong_lets, wrong_opt_conds, wrong_opt_expr, wrong_part, wrong_parts, wrong_query, wrong_rule, wrong_rules, wrong_step, wrong_steps, wrong_uses, wrong_variable}
use Rattle.rule_names.specs.WellNamed.{WellNamed}
use Rattle.rule_names.proofs.Parts.{hits, hits-append}
use Rattle.rule_names.proofs.Shallow.{neither, none-first}
use Rattle.rule_meaning.specs.Places.{step_in, steps_in}
use Rattle.scope_frames.proofs.NamesBound.{Each, all-there, each-apart, each-both, inside, same-links, visits, visits-append}
use Rattle.engine_states.proofs.Elements.{none-both}
use Rattle.engine_states.proofs.Insides.{first-from, rest-from, steps_from}

-- ---- lists

-- nothing is the matter with lists that are joined
-- what is found at a site is one of the pieces
pub found-one : (P : Sited → Type 0) (ss : List Sited) (n : ℕ) (p : Piece) → Each P ss → piece_in ss n ≡ Some p → P (n, p)
found-one P [] n p h e = absurd (none-some p e)
found-one P ((m, q) ∷ ss) n p h e = by (found-one P ss n p h.1) (m == n) refl e
  where
    by : (piece_in ss n ≡ Some p → P (n, p)) → (b : Bool) → (m == n) ≡ b → option_map (λ (s : Sited). s.1) (cond b (Some (m, q)) (find (λ (s : Sited). s.0 == n) ss)) ≡ Some p → P (n, p)
    by later true is there =
        let same : m ≡ n = grind (arith, nat_tests, is) in
        subst (λ (k : ℕ). P (k, p)) same (subst (λ (x : Piece). P (m, x)) (same_Some q p there) h.0)
    by later false is there = later there

-- ---- what is visible, by scopes

-- each name that is visible means something
abbrev Covers : List Given → Scopes → Type 0
Covers v scopes = (name : List ℕ) → IsSome (given_named v name) → IsSome (meant_in scopes name)

outer-some : (o : Option Meant) → IsSome o → IsSome (option_map one_out o)
outer-some None is = absurd (true≢false (sym is))
outer-some (Some m) is = refl

covers-more : (g v : List Given) (scopes : Scopes) → Covers v scopes → Covers (g ++ v) (g ∷ scopes)
covers-more g v scopes covers name is = by g is
  where
    by : (xs : List Given) → IsSome (given_named (xs ++ v) name) → IsSome (here_or (given_named xs name) (meant_in scopes name))
    by [] is = outer-some (meant_in scopes name) (covers name is)
    by (x ∷ xs) is = here (bytes_eq name x.name.text) (by xs) is
      where
        here : (b : Bool) → (IsSome (given_named (xs ++ v) name) → IsSome (here_or (given_named xs name) (meant_in scopes name)))
            → IsSome (cond b (Some x) (given_named (xs ++ v) name)) → IsSome (here_or (cond b (Some x) (given_named xs name)) (meant_in scopes name))
        here true later is = refl
        here false later is = later is

covers-one : (g : List Given) → Covers g (g ∷ [])
covers-one g name is = by (given_named g name) is
  where
    by : (o : Option Given) → IsSome o → IsSome (here_or o None)
    by None is = absurd (true≢false (sym is))
    by (Some x) is = refl

module _ (f : File) where
  -- the table of meanings says this of a use
  abbrev IsLinked : Linked → Type 0
  IsLinked l = slice_index_or (resolution_of f) l.0 None ≡ Some l.1

  -- a step that uses a variable at a site means something there
  abbrev IsUsed : ℕ → Option Step → Type 0
  IsUsed n (Some (var m name)) = IsSome (bind_of f n)
  IsUsed n (Some (splice m name)) = IsSome (bind_of f n)
  IsUsed n _ = Unit {0}

  abbrev NamesPiece : ℕ → Piece → Type 0
  NamesPiece n (OfStep q i) = IsUsed n (step_in (steps_in q) i)
  NamesPiece n _ = Unit {0}

  abbrev Names : Sited → Type 0
  Names p = NamesPiece p.0 p.1

  given-there : (o : Option Given) (name : List ℕ) (at : ℕ) → wrong_variable f.rules f.places o name at ≡ [] → IsSome o
  given-there None name at none = absurd cc
  given-there (Some g) name at none = refl

  few-rule : (n m : ℕ) (o : Option Rule) → visits m (link_rule f n o) ≤ cond (n == m) 1 0
  few-rule n m None = omega arith
  few-rule n m (Some r) = omega arith

  few-variable : (n m : ℕ) (o : Option Meant) → visits m (link_variable f n o) ≤ cond (n == m) 1 0
  few-variable n m None = omega arith
  few-variable n m (Some meant) = omega arith

  -- uses, in pieces: each at a site of its own; and where the table says what they mean, each variable means something
  record Tells (ls : List Linked) (ps : List Sited) : Type 0 where
    few : (n : ℕ) → visits n ls ≤ hits n ps
    each : Each IsLinked ls → Each Names ps

  tells-none : Tells [] []
  tells-none = record { few = λ n. omega arith; each = λ linked. tt }

  tells-behind : (n : ℕ) (p : Piece) (ls : List Linked) (ps : List Sited) → NamesPiece n p → Tells ls ps → Tells ls ((n, p) ∷ ps)
  tells-behind n p ls ps names h = record { few = λ m. omega (arith, h.few m); each = λ linked. (names, h.each linked) }

  tells-one : (n : ℕ) (p : Piece) (ls : List Linked) → ((m : ℕ) → visits m ls ≤ cond (n == m) 1 0) → (Each IsLinked ls → NamesPiece n p) → Tells ls ((n, p) ∷ [])
  tells-one n p ls few names = record { few = λ m. omega (arith, few m); each = λ linked. (names linked, tt) }

  tells-both : (ls ks : List Linked) (ps qs : List Sited) → Tells ls ps → Tells ks qs → Tells (ls ++ ks) (ps ++ qs)
  tells-both ls ks ps qs h k = record {
    few = λ n. omega (arith, h.few n, k.few n, visits-append n ls ks, hits-append n ps qs);
    each = λ linked. let both = each-apart IsLinked ls ks linked in each-both Names ps qs (h.each both.0) (k.each both.1);
  }

  tells-variable : (n : ℕ) (q : Query) (i : ℕ) (p : Step) → step_in (steps_in q) i ≡ Some p → (IsSome (bind_of f n) → IsUsed n (Some p)) → (o : Option Meant) → IsSome o
      → Tells (link_variable f n o) ((n, OfStep q i) ∷ [])
  tells-variable n q i p at_it used None some = absurd (true≢false (sym some))
  tells-variable n q i p at_it used (Some m) some =
      tells-one n (OfStep q i) (link_variable f n (Some m)) (λ k. few-variable n k (Some m))
      (λ linked. subst (IsUsed n) (sym at_it) (used (ap (λ (o : Option Link). is_some (option_and_then variable_of o)) linked.0)))

  mutual
    tell-body : (v : List Given) (scopes : Scopes) → Covers v scopes → (params : List Named) (x : Body) → wrong_body f.rules f.places v params x ≡ [] → Tells (links_body f scopes params x) (pieces_body x)
    tell-body v scopes covers params (body n ls ds) none =
        let parts = none-both _ _ none in
        tells-behind n (OfBody (body n ls ds)) _ _ tt
        (tells-both _ _ _ _ (tell-lets (given_body params (body n ls ds) ++ v) (given_body params (body n ls ds) ∷ scopes) (covers-more (given_body params (body n ls ds)) v scopes covers) ls parts.0)
        (tell-disjs (given_body params (body n ls ds) ++ v) (given_body params (body n ls ds) ∷ scopes) (covers-more (given_body params (body n ls ds)) v scopes covers) ds parts.1))

    tell-lets : (v : List Given) (scopes : Scopes) → Covers v scopes → (x : Lets) → wrong_lets f.rules f.places v x ≡ [] → Tells (links_lets f scopes x) (pieces_lets x)
    tell-lets v scopes covers no_lets none = tells-none
    tell-lets v scopes covers (more_lets l ls) none = let parts = none-both _ _ none in tells-both _ _ _ _ (tell-let v scopes covers l parts.0) (tell-lets v scopes covers ls parts.1)

    tell-let : (v : List Given) (scopes : Scopes) → Covers v scopes → (x : Let) → wrong_let f.rules f.places v x ≡ [] → Tells (links_let f scopes x) (pieces_let x)
    tell-let v scopes covers (assign n name e) none = tells-behind n (OfLet (assign n name e)) _ _ tt (tell-expr v scopes covers e none)

    tell-conds : (v : List Given) (scopes : Scopes) → Covers v scopes → (x : Conds) → wrong_conds f.rules f.places v x ≡ [] → Tells (links_conds f scopes x) (pieces_conds x)
    tell-conds v scopes covers (conds n ds) none = tells-behind n (OfConds (conds n ds)) _ _ tt (tell-disjs v scopes covers ds none)

    tell-opt_conds : (v : List Given) (scopes : Scopes) → Covers v scopes → (x : OptConds) → wrong_opt_conds f.rules f.places v x ≡ [] → Tells (links_opt_conds f scopes x) (pieces_opt_conds x)
    tell-opt_conds v scopes covers no_conds none = tells-none
    tell-opt_conds v scopes covers (with_conds c) none = tell-conds v scopes covers c none

    tell-disjs : (v : List Given) (scopes : Scopes) → Covers v scopes → (x : Disjs) → wrong_disjs f.rules f.places v x ≡ [] → Tells (links_disjs f scopes x) (pieces_disjs x)
    tell-disjs v scopes covers no_disjs none = tells-none
    tell-disjs v scopes covers (more_disjs d ds) none = let parts = none-both _ _ none in tells-both _ _ _ _ (tell-disj v scopes covers d parts.0) (tell-disjs v scopes covers ds parts.1)

    tell-disj : (v : List Given) (scopes : Scopes) → Covers v scopes → (x : Disj) → wrong_disj f.rules f.places v x ≡ [] → Tells (links_disj f scopes x) (pieces_disj x)
    tell-disj v scopes covers (disj n ps) none = tells-behind n (OfDisj (disj n ps)) _ _ tt (tell-parts v scopes covers ps none)

    tell-parts : (v : List Given) (scopes : Scopes) → Covers v scopes → (x : Parts) → wrong_parts f.rules f.places v x ≡ [] → Tells (links_parts f scopes x) (pieces_parts x)
    tell-parts v scopes covers no_parts none = tells-none
    tell-parts v scopes covers (more_parts p ps) none = let parts = none-both _ _ none in tells-both _ _ _ _ (tell-part v scopes covers p parts.0) (tell-parts v scopes covers ps parts.1)

    tell-part : (v : List Given) (scopes : Scopes) → Covers v scopes → (x : Part) → wrong_part f.rules f.places v x ≡ [] → Tells (links_part f scopes x) (pieces_part x)
    tell-part v scopes covers (block n any q b) none =
        let parts = none-both _ _ none in
        tells-behind n (OfPart (block n any q b)) _ _ tt (tells-both _ _ _ _ (tell-query v scopes covers q parts.0) (tell-body v scopes covers [] b parts.1))
    tell-part v scopes covers (guarded n c b) none =
        let parts = none-both _ _ none in
        tells-behind n (OfPart (guarded n c b)) _ _ tt (tells-both _ _ _ _ (tell-conds v scopes covers c parts.0) (tell-body v scopes covers [] b parts.1))
    tell-part v scopes covers (kinds n name c b) none =
        let parts = none-both _ _ none in
        tells-behind n (OfPart (kinds n name c b)) _ _ tt (tells-both _ _ _ _ (tell-opt_conds v scopes covers c parts.0) (tell-body v scopes covers [] b parts.1))
    tell-part v scopes covers (test n any q op negated right message) none =
        let parts = none-both _ _ none in
        tells-behind n (OfPart (test n any q op negated right message)) _ _ tt (tells-both _ _ _ _ (tell-query v scopes covers q parts.0) (tell-opt_expr v scopes covers right parts.1))
    tell-part v scopes covers (refer n negated name message) none =
        tells-one n (OfPart (refer n negated name message)) (link_rule f n (rule_named f.rules name)) (λ m. few-rule n m (rule_named f.rules name)) (λ linked. tt)
    tell-part v scopes covers (call n negated name es message) none =
        let parts = none-both (wrong_call f.rules f.places (rule_named f.rules name) (count_exprs es) name (place_of f.rules f.places n)) _ none in
        tells-both (link_rule f n (rule_named f.rules name)) (links_exprs f scopes es) ((n, OfPart (call n negated name es message)) ∷ []) (pieces_exprs es)
        (tells-one n (OfPart (call n negated name es message)) (link_rule f n (rule_named f.rules name)) (λ m. few-rule n m (rule_named f.rules name)) (λ linked. tt))
        (tell-exprs v scopes covers es parts.1)

    tell-query : (v : List Given) (scopes : Scopes) → Covers v scopes → (x : Query) → wrong_query f.rules f.places v x ≡ [] → Tells (links_query f scopes x) (pieces_query x)
    tell-query v scopes covers (query n ss) none = tells-behind n (OfQuery (query n ss)) _ _ tt (tell-steps v scopes covers (query n ss) 0 ss refl none)

    tell-steps : (v : List Given) (scopes : Scopes) → Covers v scopes → (q : Query) (i : ℕ) (x : Steps) → steps_from i (steps_in q) ≡ x → wrong_steps f.rules f.places v x ≡ []
        → Tells (links_steps f scopes x) (pieces_steps q i x)
    tell-steps v scopes covers q i no_steps from none = tells-none
    tell-steps v scopes covers q i (more_steps p ps) from none =
        let parts = none-both _ _ none in
        tells-both _ _ _ _ (tell-step v scopes covers q i p (first-from i (steps_in q) p ps from) parts.0)
        (tell-steps v scopes covers q (suc i) ps (rest-from i (steps_in q) p ps from) parts.1)

    tell-step : (v : List Given) (scopes : Scopes) → Covers v scopes → (q : Query) (i : ℕ) (x : Step) → step_in (steps_in q) i ≡ Some x → wrong_step f.rules f.places v x ≡ []
        → Tells (links_step f scopes x) (pieces_step q i x)
    tell-step v scopes covers q i (this n) at_it none = tells-behind n (OfStep q i) _ _ (subst (IsUsed n) (sym at_it) tt) tells-none
    tell-step v scopes covers q i (key n name) at_it none = tells-behind n (OfStep q i) _ _ (subst (IsUsed n) (sym at_it) tt) tells-none
    tell-step v scopes covers q i (index n at) at_it none = tells-behind n (OfStep q i) _ _ (subst (IsUsed n) (sym at_it) tt) tells-none
    tell-step v scopes covers q i (every n) at_it none = tells-behind n (OfStep q i) _ _ (subst (IsUsed n) (sym at_it) tt) tells-none
    tell-step v scopes covers q i (items n) at_it none = tells-behind n (OfStep q i) _ _ (subst (IsUsed n) (sym at_it) tt) tells-none
    tell-step v scopes covers q i (var n name) at_it none =
        tells-variable n q i (var n name) at_it (λ bound. bound) (meant_in scopes name) (covers name (given-there (given_named v name) name (place_of f.rules f.places n) none))
    tell-step v scopes covers q i (splice n name) at_it none =
        tells-variable n q i (splice n name) at_it (λ bound. bound) (meant_in scopes name.text) (covers name.text (given-there (given_named v name.text) name.text name.at none))
    tell-step v scopes covers q i (filter n capture c) at_it none =
        tells-behind n (OfStep q i) _ _ (subst (IsUsed n) (sym at_it) tt)
        (tell-conds (given_conds c ++ v) (given_conds c ∷ scopes) (covers-more (given_conds c) v scopes covers) c none)
    tell-step v scopes covers q i (keys n capture op negated e) at_it none = tells-behind n (OfStep q i) _ _ (subst (IsUsed n) (sym at_it) tt) (tell-expr v scopes covers e none)

    tell-expr : (v : List Given) (scopes : Scopes) → Covers v scopes → (x : Expr) → wrong_expr f.rules f.places v x ≡ [] → Tells (links_expr f scopes x) (pieces_expr x)
    tell-expr v scopes covers (literal n tree) none = tells-behind n (OfExpr (literal n tree)) _ _ tt tells-none
    tell-expr v scopes covers (function n name es) none =
        let parts = none-both (wrong_function f.rules f.places (function_named name) name es (place_of f.rules f.places n)) _ none in
        tells-behind n (OfExpr (function n name es)) _ _ tt (tell-exprs v scopes covers es parts.1)
    tell-expr v scopes covers (asked q) none = tell-query v scopes covers q none
    tell-expr v scopes covers (found n q) none = tells-behind n (OfExpr (found n q)) _ _ tt (tell-query v scopes covers q none)

    tell-opt_expr : (v : List Given) (scopes : Scopes) → Covers v scopes → (x : OptExpr) → wrong_opt_expr f.rules f.places v x ≡ [] → Tells (links_opt_expr f scopes x) (pieces_opt_expr x)
    tell-opt_expr v scopes covers no_expr none = tells-none
    tell-opt_expr v scopes covers (with_expr e) none = tell-expr v scopes covers e none

    tell-exprs : (v : List Given) (scopes : Scopes) → Covers v scopes → (x : Exprs) → wrong_exprs f.rules f.places v x ≡ [] → Tells (links_exprs f scopes x) (pieces_exprs x)
    tell-exprs v scopes covers no_exprs none = tells-none
    tell-exprs v scopes covers (more_exprs e es) none = let parts = none-both _ _ none in tells-both _ _ _ _ (tell-expr v scopes covers e parts.0) (tell-exprs v scopes covers es parts.1)

  tell-rules : (v : List Given) (scopes : Scopes) → Covers v scopes → (rs : List Rule) → wrong_rules f.rules f.places v rs ≡ [] → Tells (links_rules f scopes rs) (pieces_rules rs)
  tell-rules v scopes covers [] none = tells-none
  tell-rules v scopes covers (r ∷ rs) none =
      let rules = none-both (wrong_rule f.rules f.places v r) (wrong_rules f.rules f.places v rs) none in
      let parts = none-both (wrong_opt_conds f.rules f.places v r.cond) (wrong_body f.rules f.places v r.params r.body) rules.0 in
      tells-both (links_rule f scopes r) (links_rules f scopes rs) (pieces_rule r) (pieces_rules rs)
      (tells-behind r.site (OfRule r) _ _ tt (tells-both _ _ _ _ (tell-opt_conds v scopes covers r.cond parts.0) (tell-body v scopes covers r.params r.body parts.1))) (tell-rules v scopes covers rs rules.1)

  file-tells : WellNamed f → Tells (links_in f) (inside f)
  file-tells named =
      let none : wrong_uses f ≡ [] = none-first (wrong_uses f) (neither (first_of (duplicates f)) (first_of (wrong_uses f)) named.singles).1 in
      let parts = none-both (wrong_lets f.rules f.places (given_file f) f.lets) _ none in
      let others = none-both (wrong_rules f.rules f.places (given_file f) f.rules) _ parts.1 in
      let scopes : Scopes = given_file f ∷ [] in
      let covers = covers-one (given_file f) in
      tells-both _ _ _ _ (tell-lets (given_file f) scopes covers f.lets parts.0)
      (tells-both _ _ _ _ (tell-rules (given_file f) scopes covers f.rules others.0) (tell-disjs (given_file f) scopes covers f.loose others.1))

  -- ---- what the table of meanings says

  all-linked : AreInOrder f → Tells (links_in f) (inside f) → Each IsLinked (links_in f)
  all-linked order tells =
      subst (λ (t : List (Option Link)). Each (λ (l : Linked). slice_index_or t l.0 None ≡ Some l.1) (links_in f)) (sym (same-links (replicate (length f.places) None) (links_in f)))
      (all-there f order (links_in f) tells.few Some None)

  names-at : WellNamed f → AreInOrder f → (site : ℕ) (p : Piece) → piece_at f site ≡ Some p → NamesPiece site p
  names-at named order site p there =
      let tells = file-tells named in
      found-one Names (pieces_file f) site p (tt, tells.each (all-linked order tells)) there

-- what a variable means that is used
module _ (f : File) (named : WellNamed f) (order : AreInOrder f) (site : ℕ) (q : Query) (i : ℕ) (there : piece_at f site ≡ Some (OfStep q i)) where
  pub variable-bound : (m : ℕ) (name : List ℕ) → step_in (steps_in q) i ≡ Some (var m name) → IsSome (bind_of f site)
  variable-bound m name is = subst (IsUsed f site) is (names-at f named order site (OfStep q i) there)

  pub splice-bound : (m : ℕ) (name : Named) → step_in (steps_in q) i ≡ Some (splice m name) → IsSome (bind_of f site)
  splice-bound m name is = subst (IsUsed f site) is (names-at f named order site (OfStep q i) there)
