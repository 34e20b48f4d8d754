-- What is found in a part, part of it by part of it.
use Rattle.std.proofs.Common.{◌≡◌, ℕ, ◌+◌, ◌<◌, ◌≤◌, Bool, List, [], ◌∷◌, ◌++◌, map, drop, get_or, length, Option, None, refl, sym, ap, ◌∙◌}
use Rattle.std.proofs.lemmas.List.{drop_more, drop_all, append_assoc}
use Rattle.guard_syntax.specs.Named.{Named}
use Rattle.guard_syntax.specs.Syntax as sx
use Rattle.guard_syntax.specs.declared.syntax.Op.{Op}
use Rattle.guard_syntax.specs.declared.syntax.Body.{Body, out-Body}
use Rattle.guard_syntax.specs.declared.syntax.Conds.{Conds, out-Conds}
use Rattle.guard_syntax.specs.declared.syntax.Query.{Query, out-Query}
use Rattle.guard_syntax.specs.declared.syntax.Let.{Let}
use Rattle.guard_syntax.specs.declared.syntax.Part.{Part}
use Rattle.guard_syntax.specs.declared.syntax.Part as part
use Rattle.guard_syntax.specs.declared.syntax.Step.{Step}
use Rattle.guard_syntax.specs.declared.syntax.Disj.{Disj}
use Rattle.guard_syntax.specs.declared.syntax.Rule.{Rule}
use Rattle.guard_syntax.specs.declared.syntax.RawFile.{RawFile}
use Rattle.guard_syntax.specs.declared.syntax.Expr.{Expr}
use Rattle.guard_syntax.specs.declared.syntax.Expr as expr
use Rattle.std.specs.declared.vec.Vec.{Vec}
use Rattle.std.specs.declared.alloc.Global.{Global}
use Rattle.guard_syntax.specs.code.Seen.{see_step, see_disj, see_let, see_body, see_conds, see_opt_conds, see_part, see_query, see_rule, see_file, see_expr, see_opt_expr, step_list, disj_list, let_list, part_list, expr_list}
use Rattle.rule_names.specs.Duplicates.{duplicated, duplicate_names, duplicates, duplicate_rules}
use Rattle.rule_names.specs.Faults.{Fault, first_from, first_of}
use Rattle.rule_names.specs.Scopes.{Given, names_of, given_body, given_conds, given_file, scopes_body, scopes_lets, scopes_let, scopes_conds, scopes_opt_conds, scopes_disjs, scopes_disj, scopes_parts, scopes_part, scopes_query, scopes_steps, scopes_step, scopes_expr, scopes_opt_expr, scopes_exprs, scopes_rules}
use Rattle.rule_names.specs.Uses.{function_named, rule_named, count_exprs, place_of, wrong_call, wrong_uses, wrong_rules, wrong_rule, wrong_body, wrong_lets, wrong_let, wrong_conds, wrong_opt_conds, wrong_disjs, wrong_disj, wrong_parts, wrong_part, wrong_query, wrong_steps, wrong_step, wrong_expr, wrong_opt_expr, wrong_exprs, wrong_function}
use Rattle.rule_names.proofs.Shapes.{call-seen, function-seen, let-seen, disj-seen, body-seen, conds-seen, query-seen, block-seen, when-seen, kinds-seen}
use Rattle.name_scopes.proofs.FirstFaults.{first-then}
use Rattle.name_scopes.proofs.ScopeShapes.{side-seen}
use Rattle.name_faults.proofs.UsesInTurn.{first-append}
use Rattle.name_faults.specs.code.Found.{Firsts, firsts, found_from, found_scopes}
use Rattle.name_faults.specs.code.FoundParts.{in_body, in_filter, in_lets, in_let, in_conds, in_opt_conds, in_disjs, in_disj, in_parts, in_part, in_query, in_steps, in_step, in_expr, in_opt_expr, in_exprs, in_rules, in_items}

-- what is found in two parts
pub found-append : (best : Firsts) (xs ys : List (List Named)) (us vs : List Fault) → found_from (found_from best xs us) ys vs ≡ found_from best (xs ++ ys) (us ++ vs)
found-append best xs ys us vs =
    ap (λ (a : Option Fault). firsts a (first_from (first_from best.1 us) vs))
    (first-then best.0 (first_from best.0 (duplicated xs)) (first_from (first_from best.0 (duplicated xs)) (duplicated ys)) xs ys refl refl)
    ∙ ap (λ (w : Option Fault). firsts (first_from best.0 (duplicated (xs ++ ys))) w) (first-append best.1 us vs)

pub in-turn : (best middle : Firsts) (xs ys : List (List Named)) (us vs : List Fault) → middle ≡ found_from best xs us → found_from middle ys vs ≡ found_from best (xs ++ ys) (us ++ vs)
in-turn best middle xs ys us vs is = ap (λ (b : Firsts). found_from b ys vs) is ∙ found-append best xs ys us vs

-- ---- lists, item by item

-- one item more of a list
pub next : {X : Type 0} (names : List X → List (List Named)) (uses : List X → List Fault) (named : X → List (List Named)) (used : X → List Fault)
    → ((y : X) (ys : List X) → names (y ∷ ys) ≡ named y ++ names ys) → ((y : X) (ys : List X) → uses (y ∷ ys) ≡ used y ++ uses ys)
    → (xs : List X) (i : ℕ) (x : X) (start best more : Firsts) → i < length xs → x ≡ get_or xs i x → more ≡ found_from best (named x) (used x)
    → found_from best (names (drop i xs)) (uses (drop i xs)) ≡ start → found_from more (names (drop (i + 1) xs)) (uses (drop (i + 1) xs)) ≡ start
next names uses named used split_names split_uses xs i x start best more within is found so =
    in-turn best more (named x) (names (drop (i + 1) xs)) (used x) (uses (drop (i + 1) xs)) found
    ∙ ap (λ (l : List (List Named)). found_from best l (used x ++ uses (drop (i + 1) xs))) (sym (split_names x (drop (i + 1) xs)) ∙ ap (λ y. names (y ∷ drop (i + 1) xs)) is ∙ ap names (sym (drop_more xs i x within)))
    ∙ ap (λ (l : List Fault). found_from best (names (drop i xs)) l) (sym (split_uses x (drop (i + 1) xs)) ∙ ap (λ y. uses (y ∷ drop (i + 1) xs)) is ∙ ap uses (sym (drop_more xs i x within)))
    ∙ so

-- the end of a list
pub end : {X : Type 0} (all : Firsts → List X → Firsts) → ((b : Firsts) → all b [] ≡ b) → (xs : List X) (i : ℕ) (start best : Firsts) → length xs ≤ i → all best (drop i xs) ≡ start → best ≡ start
end all none xs i start best past so = sym (none best) ∙ ap (all best) (sym (drop_all i xs past)) ∙ so

-- ---- the names of scopes

-- what is visible in a scope with these names
visible-named : (names given outer inner : List Given) → names ≡ given → inner ≡ names ++ outer → inner ≡ given ++ outer
visible-named names given outer inner are is = is ∙ ap (λ l. l ++ outer) are

module _ (rules : List sx.Rule) (places : List ℕ) (visible : List Given) where
  abbrev pub of_lets : Firsts → List Let → Firsts
  of_lets best xs = in_lets rules places visible best (let_list (map see_let xs))

  abbrev pub of_disjs : Firsts → List Disj → Firsts
  of_disjs best xs = in_disjs rules places visible best (disj_list (map see_disj xs))

  abbrev pub of_parts : Firsts → List Part → Firsts
  of_parts best xs = in_parts rules places visible best (part_list (map see_part xs))

  abbrev pub of_steps : Firsts → List Step → Firsts
  of_steps best xs = in_steps rules places visible best (step_list (map see_step xs))

  abbrev pub of_exprs : Firsts → List Expr → Firsts
  of_exprs best xs = in_exprs rules places visible best (expr_list (map see_expr xs))

  abbrev pub of_rules : Firsts → List Rule → Firsts
  of_rules best xs = in_rules rules places visible best (map see_rule xs)

  pub lets-next : (xs : List Let) (i : ℕ) (x : Let) (start best more : Firsts) → i < length xs → x ≡ get_or xs i x → more ≡ in_expr rules places visible best (see_expr x.value)
      → of_lets best (drop i xs) ≡ start → of_lets more (drop (i + 1) xs) ≡ start
  lets-next xs i x start best more within is found so =
      next (λ (ys : List Let). scopes_lets (let_list (map see_let ys))) (λ (ys : List Let). wrong_lets rules places visible (let_list (map see_let ys))) (λ (y : Let). scopes_let (see_let y)) (λ (y : Let). wrong_let rules places visible (see_let y)) (λ y ys. refl) (λ y ys. refl) xs i x start best more within is (found ∙ ap (λ (y : sx.Let). in_let rules places visible best y) (sym (let-seen x))) so

  pub lets-end : (xs : List Let) (i : ℕ) (start best : Firsts) → length xs ≤ i → of_lets best (drop i xs) ≡ start → best ≡ start
  lets-end xs i start best past so = end of_lets (λ b. refl) xs i start best past so

  pub disjs-next : (xs : List Disj) (i : ℕ) (x : Disj) (ps : List Part) (start best more : Firsts) → i < length xs → x ≡ get_or xs i x → ps ≡ x.parts.items → more ≡ of_parts best ps
      → of_disjs best (drop i xs) ≡ start → of_disjs more (drop (i + 1) xs) ≡ start
  disjs-next xs i x ps start best more within is are found so =
      next (λ (ys : List Disj). scopes_disjs (disj_list (map see_disj ys))) (λ (ys : List Disj). wrong_disjs rules places visible (disj_list (map see_disj ys))) (λ (y : Disj). scopes_disj (see_disj y)) (λ (y : Disj). wrong_disj rules places visible (see_disj y)) (λ y ys. refl) (λ y ys. refl) xs i x start best more within is (found ∙ ap (λ (l : List Part). of_parts best l) are ∙ ap (λ (y : sx.Disj). in_disj rules places visible best y) (sym (disj-seen x))) so

  pub disjs-end : (xs : List Disj) (i : ℕ) (start best : Firsts) → length xs ≤ i → of_disjs best (drop i xs) ≡ start → best ≡ start
  disjs-end xs i start best past so = end of_disjs (λ b. refl) xs i start best past so

  pub parts-next : (xs : List Part) (i : ℕ) (x : Part) (start best more : Firsts) → i < length xs → x ≡ get_or xs i x → more ≡ in_part rules places visible best (see_part x)
      → of_parts best (drop i xs) ≡ start → of_parts more (drop (i + 1) xs) ≡ start
  parts-next xs i x start best more within is found so =
      next (λ (ys : List Part). scopes_parts (part_list (map see_part ys))) (λ (ys : List Part). wrong_parts rules places visible (part_list (map see_part ys))) (λ (y : Part). scopes_part (see_part y)) (λ (y : Part). wrong_part rules places visible (see_part y)) (λ y ys. refl) (λ y ys. refl) xs i x start best more within is found so

  pub parts-end : (xs : List Part) (i : ℕ) (start best : Firsts) → length xs ≤ i → of_parts best (drop i xs) ≡ start → best ≡ start
  parts-end xs i start best past so = end of_parts (λ b. refl) xs i start best past so

  pub steps-next : (xs : List Step) (i : ℕ) (x : Step) (start best more : Firsts) → i < length xs → x ≡ get_or xs i x → more ≡ in_step rules places visible best (see_step x)
      → of_steps best (drop i xs) ≡ start → of_steps more (drop (i + 1) xs) ≡ start
  steps-next xs i x start best more within is found so =
      next (λ (ys : List Step). scopes_steps (step_list (map see_step ys))) (λ (ys : List Step). wrong_steps rules places visible (step_list (map see_step ys))) (λ (y : Step). scopes_step (see_step y)) (λ (y : Step). wrong_step rules places visible (see_step y)) (λ y ys. refl) (λ y ys. refl) xs i x start best more within is found so

  pub steps-end : (xs : List Step) (i : ℕ) (start best : Firsts) → length xs ≤ i → of_steps best (drop i xs) ≡ start → best ≡ start
  steps-end xs i start best past so = end of_steps (λ b. refl) xs i start best past so

  pub exprs-next : (xs : List Expr) (i : ℕ) (x : Expr) (start best more : Firsts) → i < length xs → x ≡ get_or xs i x → more ≡ in_expr rules places visible best (see_expr x)
      → of_exprs best (drop i xs) ≡ start → of_exprs more (drop (i + 1) xs) ≡ start
  exprs-next xs i x start best more within is found so =
      next (λ (ys : List Expr). scopes_exprs (expr_list (map see_expr ys))) (λ (ys : List Expr). wrong_exprs rules places visible (expr_list (map see_expr ys))) (λ (y : Expr). scopes_expr (see_expr y)) (λ (y : Expr). wrong_expr rules places visible (see_expr y)) (λ y ys. refl) (λ y ys. refl) xs i x start best more within is found so

  pub exprs-end : (xs : List Expr) (i : ℕ) (start best : Firsts) → length xs ≤ i → of_exprs best (drop i xs) ≡ start → best ≡ start
  exprs-end xs i start best past so = end of_exprs (λ b. refl) xs i start best past so

  -- a rule: its conditions, and its body
  pub rules-next : (xs : List Rule) (i : ℕ) (x : Rule) (start best middle more : Firsts) (params : List Named) → i < length xs → x ≡ get_or xs i x → params ≡ x.params
      → middle ≡ in_opt_conds rules places visible best (see_opt_conds x.cond) → more ≡ in_body rules places visible middle params (see_body x.body)
      → of_rules best (drop i xs) ≡ start → of_rules more (drop (i + 1) xs) ≡ start
  rules-next xs i x start best middle more params within is are found body so =
      next (λ (ys : List Rule). scopes_rules (map see_rule ys)) (λ (ys : List Rule). wrong_rules rules places visible (map see_rule ys))
      (λ (y : Rule). scopes_opt_conds (see_opt_conds y.cond) ++ scopes_body y.params (see_body y.body)) (λ (y : Rule). wrong_rule rules places visible (see_rule y))
      (λ y ys. sym (append_assoc (scopes_opt_conds (see_opt_conds y.cond)) (scopes_body y.params (see_body y.body)) (scopes_rules (map see_rule ys)))) (λ y ys. refl)
      xs i x start best more within is
      (body ∙ in-turn best middle (scopes_opt_conds (see_opt_conds x.cond)) (scopes_body params (see_body x.body)) (wrong_opt_conds rules places visible (see_opt_conds x.cond)) (wrong_body rules places visible params (see_body x.body)) found
      ∙ ap (λ (l : List Named). found_from best (scopes_opt_conds (see_opt_conds x.cond) ++ scopes_body l (see_body x.body)) (wrong_opt_conds rules places visible (see_opt_conds x.cond) ++ wrong_body rules places visible l (see_body x.body))) are) so

  pub rules-end : (xs : List Rule) (i : ℕ) (start best : Firsts) → length xs ≤ i → of_rules best (drop i xs) ≡ start → best ≡ start
  rules-end xs i start best past so = end of_rules (λ b. refl) xs i start best past so

  pub query-steps : (best : Firsts) (q : Query) (ss : List Step) → ss ≡ (out-Query q).steps.items → of_steps best ss ≡ in_query rules places visible best (see_query q)
  query-steps best q ss are = ap (of_steps best) are ∙ ap (in_query rules places visible best) (sym (query-seen q))

  -- ---- parts

  pub block-found : (best middle : Firsts) (x : Part) (site : ℕ) (any : Bool) (head : Query) (inner : Body) → x ≡ part.Block site any head inner
      → middle ≡ in_query rules places visible best (see_query head) → in_body rules places visible middle [] (see_body inner) ≡ in_part rules places visible best (see_part x)
  block-found best middle x site any head inner is found =
      in-turn best middle (scopes_query (see_query head)) (scopes_body [] (see_body inner)) (wrong_query rules places visible (see_query head)) (wrong_body rules places visible [] (see_body inner)) found
      ∙ ap (λ (y : sx.Part). in_part rules places visible best y) (sym (ap see_part is ∙ block-seen site any head inner))

  pub when-found : (best middle : Firsts) (x : Part) (site : ℕ) (cond : Conds) (inner : Body) (ds : List Disj) → x ≡ part.When site cond inner → ds ≡ (out-Conds cond).parts.items
      → middle ≡ of_disjs best ds → in_body rules places visible middle [] (see_body inner) ≡ in_part rules places visible best (see_part x)
  when-found best middle x site cond inner ds is are found =
      in-turn best middle (scopes_conds (see_conds cond)) (scopes_body [] (see_body inner)) (wrong_conds rules places visible (see_conds cond)) (wrong_body rules places visible [] (see_body inner)) (found ∙ ap (of_disjs best) are ∙ ap (λ (y : sx.Conds). in_conds rules places visible best y) (sym (conds-seen cond)))
      ∙ ap (λ (y : sx.Part). in_part rules places visible best y) (sym (ap see_part is ∙ when-seen site cond inner))

  pub kinds-found : (best middle : Firsts) (x : Part) (site : ℕ) (name : List ℕ) (cond : Option Conds) (inner : Body) → x ≡ part.Kinds site name cond inner
      → middle ≡ in_opt_conds rules places visible best (see_opt_conds cond) → in_body rules places visible middle [] (see_body inner) ≡ in_part rules places visible best (see_part x)
  kinds-found best middle x site name cond inner is found =
      in-turn best middle (scopes_opt_conds (see_opt_conds cond)) (scopes_body [] (see_body inner)) (wrong_opt_conds rules places visible (see_opt_conds cond)) (wrong_body rules places visible [] (see_body inner)) found
      ∙ ap (λ (y : sx.Part). in_part rules places visible best y) (sym (ap see_part is ∙ kinds-seen site name cond inner))

  pub test-found : (best middle : Firsts) (x : Part) (site : ℕ) (any : Bool) (left : Query) (op : Op) (negated : Bool) (right : Option Expr) (message : Option (List ℕ)) → x ≡ part.Test site any left op negated right message
      → middle ≡ in_query rules places visible best (see_query left) → in_opt_expr rules places visible middle (see_opt_expr right) ≡ in_part rules places visible best (see_part x)
  test-found best middle x site any left op negated right message is found =
      in-turn best middle (scopes_query (see_query left)) (scopes_opt_expr (see_opt_expr right)) (wrong_query rules places visible (see_query left)) (wrong_opt_expr rules places visible (see_opt_expr right)) found
      ∙ ap (λ (y : sx.Part). in_part rules places visible best y) (sym (ap see_part is ∙ side-seen site any left op negated right message))

  -- ---- expressions

  -- with a call that was found wrong in front of its arguments
  pub function-found : (best middle : Firsts) (x : Expr) (site : ℕ) (name : List ℕ) (args : Vec Expr Global) (es later : List Expr) → x ≡ expr.Function site name args → es ≡ args.items → later ≡ args.items
      → middle ≡ found_from best [] (wrong_function rules places (function_named name) name (expr_list (map see_expr es)) (place_of rules places site))
      → of_exprs middle later ≡ in_expr rules places visible best (see_expr x)
  function-found best middle x site name args es later is are be found =
      ap (of_exprs middle) (be ∙ sym are)
      ∙ in-turn best middle [] (scopes_exprs (expr_list (map see_expr es))) (wrong_function rules places (function_named name) name (expr_list (map see_expr es)) (place_of rules places site)) (wrong_exprs rules places visible (expr_list (map see_expr es))) found
      ∙ ap (λ (l : List Expr). in_expr rules places visible best (sx.function site name (expr_list (map see_expr l)))) are
      ∙ ap (λ (y : sx.Expr). in_expr rules places visible best y) (sym (ap see_expr is ∙ function-seen site name args))

  -- and the same of a call of a rule
  pub call-found : (best middle : Firsts) (x : Part) (site : ℕ) (negated : Bool) (name : List ℕ) (args : Vec Expr Global) (message : Option (List ℕ)) (es later : List Expr)
      → x ≡ part.Call site negated name args message → es ≡ args.items → later ≡ args.items
      → middle ≡ found_from best [] (wrong_call rules places (rule_named rules name) (count_exprs (expr_list (map see_expr es))) name (place_of rules places site))
      → of_exprs middle later ≡ in_part rules places visible best (see_part x)
  call-found best middle x site negated name args message es later is are be found =
      ap (of_exprs middle) (be ∙ sym are)
      ∙ in-turn best middle [] (scopes_exprs (expr_list (map see_expr es))) (wrong_call rules places (rule_named rules name) (count_exprs (expr_list (map see_expr es))) name (place_of rules places site)) (wrong_exprs rules places visible (expr_list (map see_expr es))) found
      ∙ ap (λ (l : List Expr). in_part rules places visible best (sx.call site negated name (expr_list (map see_expr l)) message)) are
      ∙ ap (λ (y : sx.Part). in_part rules places visible best y) (sym (ap see_part is ∙ call-seen site negated name args message))

  -- ---- scopes

  -- the names of a scope, and what is in its lets and parts
  abbrev whole : Firsts → List Given → List Given → sx.Lets → sx.Disjs → Firsts
  whole best names inner ls ds = found_from best (names_of names ∷ (scopes_lets ls ++ scopes_disjs ds)) (wrong_lets rules places inner ls ++ wrong_disjs rules places inner ds)

  pub body-found : (best entered middle : Firsts) (b : Body) (params : List Named) (names inner : List Given) (ls : List Let) (ds : List Disj)
      → names ≡ given_body params (see_body b) → inner ≡ names ++ visible → ls ≡ (out-Body b).lets.items → ds ≡ (out-Body b).parts.items
      → entered ≡ found_from best (names_of names ∷ []) [] → middle ≡ in_lets rules places inner entered (let_list (map see_let ls))
      → in_disjs rules places inner middle (disj_list (map see_disj ds)) ≡ in_body rules places visible best params (see_body b)
  body-found best entered middle b params names inner ls ds named is are be before found =
      let lets = let_list (map see_let (out-Body b).lets.items) in
      let parts = disj_list (map see_disj (out-Body b).parts.items) in
      let own = given_body params (sx.body (out-Body b).site lets parts) in
      let given : names ≡ own = named ∙ ap (given_body params) (body-seen b) in
      in-turn entered middle (scopes_lets (let_list (map see_let ls))) (scopes_disjs (disj_list (map see_disj ds))) (wrong_lets rules places inner (let_list (map see_let ls))) (wrong_disjs rules places inner (disj_list (map see_disj ds))) found
      ∙ in-turn best entered (names_of names ∷ []) (scopes_lets (let_list (map see_let ls)) ++ scopes_disjs (disj_list (map see_disj ds))) [] (wrong_lets rules places inner (let_list (map see_let ls)) ++ wrong_disjs rules places inner (disj_list (map see_disj ds))) before
      ∙ ap (λ (xs : List Let). whole best names inner (let_list (map see_let xs)) (disj_list (map see_disj ds))) are
      ∙ ap (λ (xs : List Disj). whole best names inner lets (disj_list (map see_disj xs))) be
      ∙ ap (λ (n : List Given). whole best n inner lets parts) given
      ∙ ap (λ (v : List Given). whole best own v lets parts) (visible-named names own visible inner given is)
      ∙ ap (λ (y : sx.Body). in_body rules places visible best params y) (sym (body-seen b))

  pub filter-found : (best entered : Firsts) (c : Conds) (names inner : List Given) (ds : List Disj)
      → names ≡ given_conds (see_conds c) → inner ≡ names ++ visible → ds ≡ (out-Conds c).parts.items → entered ≡ found_from best (names_of names ∷ []) []
      → in_disjs rules places inner entered (disj_list (map see_disj ds)) ≡ in_filter rules places visible best (see_conds c)
  filter-found best entered c names inner ds named is are before =
      ap (λ (xs : List Disj). in_disjs rules places inner entered (disj_list (map see_disj xs))) are
      ∙ ap (λ (y : sx.Conds). in_conds rules places inner entered y) (sym (conds-seen c))
      ∙ in-turn best entered (names_of names ∷ []) (scopes_conds (see_conds c)) [] (wrong_conds rules places inner (see_conds c)) before
      ∙ ap (λ (n : List Given). found_from best (names_of n ∷ scopes_conds (see_conds c)) (wrong_conds rules places inner (see_conds c))) named
      ∙ ap (λ (v : List Given). found_from best (names_of (given_conds (see_conds c)) ∷ scopes_conds (see_conds c)) (wrong_conds rules places v (see_conds c))) (visible-named names (given_conds (see_conds c)) visible inner named is)

-- what stands in a file, whose names are visible everywhere
pub items-found : (f : RawFile) (names inner : List Given) (ls : List Let) (rs : List Rule) (ds : List Disj) (best first second : Firsts)
    → names ≡ given_file (see_file f) → inner ≡ names → ls ≡ f.lets.items → rs ≡ f.rules.items → ds ≡ f.loose.items
    → first ≡ of_lets (see_file f).rules (see_file f).places inner best ls
    → second ≡ of_rules (see_file f).rules (see_file f).places inner first rs
    → of_disjs (see_file f).rules (see_file f).places inner second ds ≡ in_items (see_file f) best
items-found f names inner ls rs ds best first second named is are be loose found more =
    let rules = (see_file f).rules in
    let places = (see_file f).places in
    ap (λ (b : Firsts). of_disjs rules places inner b ds) (more ∙ ap (λ (b : Firsts). of_rules rules places inner b rs) found)
    ∙ ap (λ (xs : List Let). of_disjs rules places inner (of_rules rules places inner (of_lets rules places inner best xs) rs) ds) are
    ∙ ap (λ (xs : List Rule). of_disjs rules places inner (of_rules rules places inner (of_lets rules places inner best f.lets.items) xs) ds) be
    ∙ ap (λ (xs : List Disj). of_disjs rules places inner (of_rules rules places inner (of_lets rules places inner best f.lets.items) f.rules.items) xs) loose
    ∙ ap (λ (v : List Given). of_disjs rules places v (of_rules rules places v (of_lets rules places v best f.lets.items) f.rules.items) f.loose.items) (is ∙ named)

-- and with the names of the file themselves, in front of which a fault is known
pub file-found : (f : sx.File) (again : Option Fault) (names : List Given) (entered : Firsts) → names ≡ given_file f → entered ≡ found_from (firsts again None) (names_of names ∷ []) []
    → in_items f entered ≡ found_scopes f again
file-found f again names entered named is =
    let visible = given_file f in
    let start = firsts again None in
    let own = names_of visible ∷ [] in
    let lets = scopes_lets f.lets in
    let rules = scopes_rules f.rules in
    let loose = scopes_disjs f.loose in
    let uses = wrong_lets f.rules f.places visible f.lets in
    let wrong = wrong_rules f.rules f.places visible f.rules in
    let left = wrong_disjs f.rules f.places visible f.loose in
    ap (in_items f) (is ∙ ap (λ (n : List Given). found_from start (names_of n ∷ []) []) named)
    ∙ ap (λ (b : Firsts). found_from b loose left) (found-append (found_from start own []) lets rules uses wrong)
    ∙ found-append (found_from start own []) (lets ++ rules) loose (uses ++ wrong) left
    ∙ found-append start own ((lets ++ rules) ++ loose) [] ((uses ++ wrong) ++ left)
    ∙ ap (λ (l : List (List Named)). found_from start (own ++ l) ((uses ++ wrong) ++ left)) (append_assoc lets rules loose)
    ∙ ap (λ (l : List Fault). found_from start (own ++ (lets ++ (rules ++ loose))) l) (append_assoc uses wrong left)

-- the first of both kinds, where the first rule of a name that a rule has already is known
pub faults-found : (f : sx.File) (again : Option Fault) → again ≡ first_from None (duplicate_rules f) → found_scopes f again ≡ firsts (first_of (duplicates f)) (first_of (wrong_uses f))
faults-found f again is = ap (λ (b : Option Fault). firsts (first_from b (duplicate_names f)) (first_of (wrong_uses f))) is ∙ ap (λ (b : Option Fault). firsts b (first_of (wrong_uses f))) (first-append None (duplicate_rules f) (duplicate_names f))
