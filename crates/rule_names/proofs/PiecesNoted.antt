-- The parts of each type of the code, noted in a table: its own part, and then those inside its own parts.
use Rattle.std.proofs.Common.{◌≡◌, ℕ, suc, ◌+◌, ◌<◌, ◌≤◌, Bool, true, List, [], ◌∷◌, ◌++◌, map, drop, get_or, length, Option, refl, sym, ap, ◌∙◌, arith, rules}
use Rattle.std.specs.Prelude.{nat_lt, if◌then◌else◌, slice_set}
use Rattle.std.proofs.lemmas.Bool.Decides.{nat_tests}
use Rattle.std.proofs.lemmas.List.{drop_more, drop_all, length-map, map-set}
use Rattle.guard_syntax.specs.Syntax as sx
use Rattle.guard_syntax.specs.declared.syntax.Op.{Op}
use Rattle.guard_syntax.specs.declared.syntax.Body.{Body, out-Body, the_lemmas}
use Rattle.guard_syntax.specs.declared.syntax.Conds.{Conds, out-Conds}
use Rattle.guard_syntax.specs.declared.syntax.Query.{Query, out-Query}
use Rattle.guard_syntax.specs.declared.syntax.Let.{Let}
use Rattle.guard_syntax.specs.declared.syntax.Part.{Part}
use Rattle.guard_syntax.specs.declared.syntax.Part as part
use Rattle.guard_syntax.specs.declared.syntax.Step.{Step}
use Rattle.guard_syntax.specs.declared.syntax.Disj.{Disj}
use Rattle.guard_syntax.specs.declared.syntax.Rule.{Rule}
use Rattle.guard_syntax.specs.declared.syntax.RawFile.{RawFile}
use Rattle.guard_syntax.specs.declared.syntax.Expr.{Expr}
use Rattle.guard_syntax.specs.declared.syntax.Expr as expr
use Rattle.std.specs.declared.vec.Vec.{Vec}
use Rattle.std.specs.declared.alloc.Global.{Global}
use Rattle.doc_values.specs.Tree.{Forest}
use Rattle.guard_syntax.specs.code.Seen.{see_step, see_form, see_disj, see_let, see_body, see_conds, see_opt_conds, see_part, see_query, see_rule, see_expr, see_opt_expr, see_file, step_list, disj_list, let_list, part_list, expr_list}
use Rattle.guard_syntax.specs.Sites.{sites_part}
use Rattle.rule_names.specs.Pieces.{Piece, Sited, OfFile, OfLet, OfRule, OfBody, OfConds, OfDisj, OfPart, OfQuery, OfStep, OfExpr, pieces_rules, pieces_rule, pieces_body, pieces_lets, pieces_let, pieces_conds, pieces_opt_conds, pieces_disjs, pieces_disj, pieces_parts, pieces_part, pieces_query, pieces_steps, pieces_step, pieces_expr, pieces_opt_expr, pieces_exprs, pieces_file}
use Rattle.rule_names.specs.code.Forms.{pieces_form}
use Rattle.rule_names.specs.code.IncreasingSites.{first_site}
use Rattle.rule_names.specs.code.PieceTables.{with_piece, with_pieces}
use Rattle.rule_names.proofs.Shapes.{let-seen, disj-seen, body-seen, conds-seen, query-seen, step-seen, form-shaped, block-seen, when-seen, kinds-seen, call-seen, function-seen}

-- a table of the code, in which a part is noted at a site that it has
pub noted : {X : Type 0} (see : X → Piece) (xs : List X) (n : ℕ) (x : X) → n < length xs → map see (slice_set xs n x) ≡ with_piece (map see xs) (n, see x)
noted see xs n x within =
    let inside : nat_lt n (length (map see xs)) ≡ true = grind (arith, nat_tests, length-map xs see) in
    map-set see xs n x ∙ sym (ap (λ (b : Bool). if b then slice_set (map see xs) n (see x) else map see xs) inside)

with-append : (t : List Piece) (xs ys : List Sited) → with_pieces t (xs ++ ys) ≡ with_pieces (with_pieces t xs) ys
with-append t [] ys = refl
with-append t (x ∷ xs) ys = with-append (with_piece t x) xs ys

-- two parts, one after another
pub in-turn : (t m a : List Piece) (xs ys : List Sited) → m ≡ with_pieces t xs → a ≡ with_pieces m ys → a ≡ with_pieces t (xs ++ ys)
in-turn t m a xs ys is so = so ∙ ap (λ (l : List Piece). with_pieces l ys) is ∙ sym (with-append t xs ys)

-- a part at its own site, and what is in it
own : {S : Type 0} (all : S → List Sited) (of : S → Piece) (seen p : S) (n : ℕ) (xs : List Sited) (t k a : List Piece) → seen ≡ p → all p ≡ (n, of p) ∷ xs
    → k ≡ with_piece t (n, of seen) → a ≡ with_pieces k xs → a ≡ with_pieces t (all seen)
own all of seen p n xs t k a is split first so =
    so ∙ ap (λ (l : List Piece). with_pieces l xs) first ∙ ap (λ y. with_pieces t ((n, of y) ∷ xs)) is ∙ ap (with_pieces t) (sym split ∙ ap all (sym is))

-- ---- lists, item by item

pub next : {X : Type 0} (all : List X → List Sited) (each : X → List Sited) → ((y : X) (ys : List X) → all (y ∷ ys) ≡ each y ++ all ys)
    → (xs : List X) (i : ℕ) (x : X) (start t a : List Piece) → i < length xs → x ≡ get_or xs i x → a ≡ with_pieces t (each x) → with_pieces t (all (drop i xs)) ≡ start
    → with_pieces a (all (drop (i + 1) xs)) ≡ start
next all each split xs i x start t a within is found so =
    ap (λ (l : List Piece). with_pieces l (all (drop (i + 1) xs))) found
    ∙ sym (with-append t (each x) (all (drop (i + 1) xs)))
    ∙ ap (with_pieces t) (sym (split x (drop (i + 1) xs)) ∙ ap (λ y. all (y ∷ drop (i + 1) xs)) is ∙ ap all (sym (drop_more xs i x within)))
    ∙ so

pub end : {X : Type 0} (all : List X → List Sited) → all [] ≡ [] → (xs : List X) (i : ℕ) (start t : List Piece) → length xs ≤ i → with_pieces t (all (drop i xs)) ≡ start → t ≡ start
end all none xs i start t past so = ap (with_pieces t) (sym none ∙ ap all (sym (drop_all i xs past))) ∙ so

abbrev pub of_lets : List Let → List Sited
of_lets xs = pieces_lets (let_list (map see_let xs))

abbrev pub of_disjs : List Disj → List Sited
of_disjs xs = pieces_disjs (disj_list (map see_disj xs))

abbrev pub of_parts : List Part → List Sited
of_parts xs = pieces_parts (part_list (map see_part xs))

abbrev pub of_steps : sx.Query → ℕ → List Step → List Sited
of_steps q i xs = pieces_steps q i (step_list (map see_step xs))

abbrev pub of_exprs : List Expr → List Sited
of_exprs xs = pieces_exprs (expr_list (map see_expr xs))

abbrev pub of_rules : List Rule → List Sited
of_rules xs = pieces_rules (map see_rule xs)

pub lets-next : (xs : List Let) (i : ℕ) (x : Let) (start t k a : List Piece) → i < length xs → x ≡ get_or xs i x
    → k ≡ with_piece t (x.site, OfLet (see_let x)) → a ≡ with_pieces k (pieces_expr (see_expr x.value)) → with_pieces t (of_lets (drop i xs)) ≡ start → with_pieces a (of_lets (drop (i + 1) xs)) ≡ start
lets-next xs i x start t k a within is first inner so =
    next of_lets (λ (y : Let). pieces_let (see_let y)) (λ y ys. refl) xs i x start t a within is
    (own (λ y. pieces_let y) OfLet (see_let x) _ x.site (pieces_expr (see_expr x.value)) t k a (let-seen x) refl first inner) so

pub disjs-next : (xs : List Disj) (i : ℕ) (x : Disj) (ps : List Part) (start t k a : List Piece) → i < length xs → x ≡ get_or xs i x → ps ≡ x.parts.items
    → k ≡ with_piece t (x.site, OfDisj (see_disj x)) → a ≡ with_pieces k (of_parts ps) → with_pieces t (of_disjs (drop i xs)) ≡ start → with_pieces a (of_disjs (drop (i + 1) xs)) ≡ start
disjs-next xs i x ps start t k a within is are first inner so =
    next of_disjs (λ (y : Disj). pieces_disj (see_disj y)) (λ y ys. refl) xs i x start t a within is
    (own (λ y. pieces_disj y) OfDisj (see_disj x) _ x.site (of_parts x.parts.items) t k a (disj-seen x) refl first (inner ∙ ap (λ (l : List Part). with_pieces k (of_parts l)) are)) so

pub rules-next : (xs : List Rule) (i : ℕ) (x : Rule) (start t k m a : List Piece) → i < length xs → x ≡ get_or xs i x
    → k ≡ with_piece t (x.site, OfRule (see_rule x)) → m ≡ with_pieces k (pieces_opt_conds (see_opt_conds x.cond)) → a ≡ with_pieces m (pieces_body (see_body x.body))
    → with_pieces t (of_rules (drop i xs)) ≡ start → with_pieces a (of_rules (drop (i + 1) xs)) ≡ start
rules-next xs i x start t k m a within is first cond inner so =
    next of_rules (λ (y : Rule). pieces_rule (see_rule y)) (λ y ys. refl) xs i x start t a within is
    (own (λ y. pieces_rule y) OfRule (see_rule x) (see_rule x) x.site _ t k a refl refl first (in-turn k m a (pieces_opt_conds (see_opt_conds x.cond)) (pieces_body (see_body x.body)) cond inner)) so

-- a step has its index in its query
step-pieces : (q : sx.Query) (i : ℕ) (s : Step) (t k a : List Piece) → k ≡ with_piece t (s.site, OfStep q i) → a ≡ with_pieces k (pieces_form (see_form s.form)) → a ≡ with_pieces t (pieces_step q i (see_step s))
step-pieces q i s t k a first inner =
    inner ∙ ap (λ (l : List Piece). with_pieces l (pieces_form (see_form s.form))) first
    ∙ ap (with_pieces t) (sym (ap (λ (y : sx.Step). pieces_step q i y) (step-seen s) ∙ (form-shaped s.form).pieces q i s.site))

pub steps-next : (q : sx.Query) (xs : List Step) (i : ℕ) (x : Step) (start t k a : List Piece) → i < length xs → x ≡ get_or xs i x
    → k ≡ with_piece t (x.site, OfStep q i) → a ≡ with_pieces k (pieces_form (see_form x.form)) → with_pieces t (of_steps q i (drop i xs)) ≡ start
    → with_pieces a (of_steps q (i + 1) (drop (i + 1) xs)) ≡ start
steps-next q xs i x start t k a within is first inner so =
    let rest = drop (i + 1) xs in
    let more : i + 1 ≡ suc i = omega arith in
    ap (λ (l : List Piece). with_pieces l (of_steps q (i + 1) rest)) (step-pieces q i x t k a first inner)
    ∙ sym (with-append t (pieces_step q i (see_step x)) (of_steps q (i + 1) rest))
    ∙ ap (λ (j : ℕ). with_pieces t (pieces_step q i (see_step x) ++ of_steps q j rest)) more
    ∙ ap (with_pieces t) (ap (λ (y : Step). of_steps q i (y ∷ rest)) is ∙ ap (of_steps q i) (sym (drop_more xs i x within)))
    ∙ so

pub steps-end : (q : sx.Query) (xs : List Step) (i : ℕ) (start t : List Piece) → length xs ≤ i → with_pieces t (of_steps q i (drop i xs)) ≡ start → t ≡ start
steps-end q xs i start t past so = ap (λ (l : List Step). with_pieces t (of_steps q i l)) (sym (drop_all i xs past)) ∙ so

-- ---- bodies, conditions and queries

pub body-noted : (b : Body) (ls : List Let) (ds : List Disj) (t k m a : List Piece) → ls ≡ (out-Body b).lets.items → ds ≡ (out-Body b).parts.items
    → k ≡ with_piece t ((out-Body b).site, OfBody (see_body b)) → m ≡ with_pieces k (of_lets ls) → a ≡ with_pieces m (of_disjs ds) → a ≡ with_pieces t (pieces_body (see_body b))
body-noted b ls ds t k m a are be first lets parts =
    let o = out-Body b in
    own (λ y. pieces_body y) OfBody (see_body b) _ o.site (of_lets o.lets.items ++ of_disjs o.parts.items) t k a (body-seen b) refl first
    (in-turn k m a (of_lets o.lets.items) (of_disjs o.parts.items)
    (lets ∙ ap (λ (l : List Let). with_pieces k (of_lets l)) are) (parts ∙ ap (λ (l : List Disj). with_pieces m (of_disjs l)) be))

pub conds-noted : (c : Conds) (ds : List Disj) (t k a : List Piece) → ds ≡ (out-Conds c).parts.items → k ≡ with_piece t ((out-Conds c).site, OfConds (see_conds c)) → a ≡ with_pieces k (of_disjs ds)
    → a ≡ with_pieces t (pieces_conds (see_conds c))
conds-noted c ds t k a are first inner =
    own (λ y. pieces_conds y) OfConds (see_conds c) _ (out-Conds c).site (of_disjs (out-Conds c).parts.items) t k a (conds-seen c) refl first
    (inner ∙ ap (λ (l : List Disj). with_pieces k (of_disjs l)) are)

pub query-noted : (q : Query) (ss : List Step) (t k a : List Piece) → ss ≡ (out-Query q).steps.items → k ≡ with_piece t ((out-Query q).site, OfQuery (see_query q))
    → a ≡ with_pieces k (of_steps (see_query q) 0 ss) → a ≡ with_pieces t (pieces_query (see_query q))
query-noted q ss t k a are first inner =
    own (λ y. pieces_query y) OfQuery (see_query q) _ (out-Query q).site _ t k a (query-seen q) refl first
    (inner ∙ ap (λ (l : List Step). with_pieces k (of_steps (see_query q) 0 l)) are ∙ ap (λ (y : sx.Query). with_pieces k (of_steps y 0 (out-Query q).steps.items)) (query-seen q))

-- ---- parts

abbrev is_part : Part → List Piece → List Piece → Type 0
is_part x t a = a ≡ with_pieces t (pieces_part (see_part x))

own-part : (x : Part) (p : sx.Part) (at : ℕ) (xs : List Sited) (t k a : List Piece) → see_part x ≡ p → pieces_part p ≡ (first_site (sites_part p), OfPart p) ∷ xs
    → at ≡ first_site (sites_part (see_part x)) → k ≡ with_piece t (at, OfPart (see_part x)) → a ≡ with_pieces k xs → is_part x t a
own-part x p at xs t k a seen split begins first so =
    own (λ y. pieces_part y) OfPart (see_part x) p (first_site (sites_part p)) xs t k a seen split
    (first ∙ ap (λ (n : ℕ). with_piece t (n, OfPart (see_part x))) (begins ∙ ap (λ (y : sx.Part). first_site (sites_part y)) seen)) so

pub block-noted : (x : Part) (site : ℕ) (any : Bool) (head : Query) (inner : Body) (at : ℕ) (t k m a : List Piece) → x ≡ part.Block site any head inner
    → at ≡ first_site (sites_part (see_part x)) → k ≡ with_piece t (at, OfPart (see_part x)) → m ≡ with_pieces k (pieces_query (see_query head)) → a ≡ with_pieces m (pieces_body (see_body inner)) → is_part x t a
block-noted x site any head inner at t k m a is begins first h b =
    own-part x _ at _ t k a (ap see_part is ∙ block-seen site any head inner) refl begins first (in-turn k m a (pieces_query (see_query head)) (pieces_body (see_body inner)) h b)

pub when-noted : (x : Part) (site : ℕ) (cond : Conds) (inner : Body) (at : ℕ) (t k m a : List Piece) → x ≡ part.When site cond inner
    → at ≡ first_site (sites_part (see_part x)) → k ≡ with_piece t (at, OfPart (see_part x)) → m ≡ with_pieces k (pieces_conds (see_conds cond)) → a ≡ with_pieces m (pieces_body (see_body inner)) → is_part x t a
when-noted x site cond inner at t k m a is begins first h b =
    own-part x _ at _ t k a (ap see_part is ∙ when-seen site cond inner) refl begins first (in-turn k m a (pieces_conds (see_conds cond)) (pieces_body (see_body inner)) h b)

pub kinds-noted : (x : Part) (site : ℕ) (name : List ℕ) (cond : Option Conds) (inner : Body) (at : ℕ) (t k m a : List Piece) → x ≡ part.Kinds site name cond inner
    → at ≡ first_site (sites_part (see_part x)) → k ≡ with_piece t (at, OfPart (see_part x)) → m ≡ with_pieces k (pieces_opt_conds (see_opt_conds cond)) → a ≡ with_pieces m (pieces_body (see_body inner)) → is_part x t a
kinds-noted x site name cond inner at t k m a is begins first h b =
    own-part x _ at _ t k a (ap see_part is ∙ kinds-seen site name cond inner) refl begins first (in-turn k m a (pieces_opt_conds (see_opt_conds cond)) (pieces_body (see_body inner)) h b)

pub test-noted : (x : Part) (site : ℕ) (any : Bool) (left : Query) (op : Op) (negated : Bool) (right : Option Expr) (message : Option (List ℕ)) (at : ℕ) (t k m a : List Piece)
    → x ≡ part.Test site any left op negated right message → at ≡ first_site (sites_part (see_part x)) → k ≡ with_piece t (at, OfPart (see_part x)) → m ≡ with_pieces k (pieces_query (see_query left))
    → a ≡ with_pieces m (pieces_opt_expr (see_opt_expr right)) → is_part x t a
test-noted x site any left op negated right message at t k m a is begins first h b =
    own-part x _ at _ t k a (ap see_part is ∙ test_seen) refl begins first (in-turn k m a (pieces_query (see_query left)) (pieces_opt_expr (see_opt_expr right)) h b)
  where
    test_seen : see_part (part.Test site any left op negated right message) ≡ sx.test site any (see_query left) op negated (see_opt_expr right) message
    test_seen = search (rules, the_lemmas)

pub refer-noted : (x : Part) (site : ℕ) (negated : Bool) (name : List ℕ) (message : Option (List ℕ)) (at : ℕ) (t k : List Piece) → x ≡ part.Refer site negated name message
    → at ≡ first_site (sites_part (see_part x)) → k ≡ with_piece t (at, OfPart (see_part x)) → is_part x t k
refer-noted x site negated name message at t k is begins first =
    own-part x (sx.refer site negated name message) at [] t k k (ap see_part is ∙ search (rules, the_lemmas)) refl begins first refl

pub call-noted : (x : Part) (site : ℕ) (negated : Bool) (name : List ℕ) (args : Vec Expr Global) (message : Option (List ℕ)) (es : List Expr) (at : ℕ) (t k a : List Piece) → x ≡ part.Call site negated name args message
    → es ≡ args.items → at ≡ first_site (sites_part (see_part x)) → k ≡ with_piece t (at, OfPart (see_part x)) → a ≡ with_pieces k (of_exprs es) → is_part x t a
call-noted x site negated name args message es at t k a is are begins first inner =
    own-part x _ at _ t k a (ap see_part is ∙ call-seen site negated name args message) refl begins first (inner ∙ ap (λ (l : List Expr). with_pieces k (of_exprs l)) are)

-- ---- expressions

abbrev is_expr : Expr → List Piece → List Piece → Type 0
is_expr x t a = a ≡ with_pieces t (pieces_expr (see_expr x))

own-expr : (x : Expr) (p : sx.Expr) (site : ℕ) (xs : List Sited) (t k a : List Piece) → see_expr x ≡ p → pieces_expr p ≡ (site, OfExpr p) ∷ xs → k ≡ with_piece t (site, OfExpr (see_expr x))
    → a ≡ with_pieces k xs → is_expr x t a
own-expr x p site xs t k a seen split first so = own (λ y. pieces_expr y) OfExpr (see_expr x) p site xs t k a seen split first so

pub literal-noted : (x : Expr) (site : ℕ) (tree : Forest) (t k : List Piece) → x ≡ expr.Literal site tree → k ≡ with_piece t (site, OfExpr (see_expr x)) → is_expr x t k
literal-noted x site tree t k is first = own-expr x (sx.literal site tree) site [] t k k (ap see_expr is ∙ search (rules, the_lemmas)) refl first refl

pub function-noted : (x : Expr) (site : ℕ) (name : List ℕ) (args : Vec Expr Global) (es : List Expr) (t k a : List Piece) → x ≡ expr.Function site name args → es ≡ args.items
    → k ≡ with_piece t (site, OfExpr (see_expr x)) → a ≡ with_pieces k (of_exprs es) → is_expr x t a
function-noted x site name args es t k a is are first inner =
    own-expr x _ site _ t k a (ap see_expr is ∙ function-seen site name args) refl first (inner ∙ ap (λ (l : List Expr). with_pieces k (of_exprs l)) are)

pub asked-noted : (x : Expr) (q : Query) (t a : List Piece) → x ≡ expr.Query q → a ≡ with_pieces t (pieces_query (see_query q)) → is_expr x t a
asked-noted x q t a is so = so ∙ ap (λ (y : sx.Expr). with_pieces t (pieces_expr y)) (sym (ap see_expr is ∙ asked_seen))
  where
    asked_seen : see_expr (expr.Query q) ≡ sx.asked (see_query q)
    asked_seen = search (rules, the_lemmas)

pub found-noted : (x : Expr) (site : ℕ) (q : Query) (t k a : List Piece) → x ≡ expr.Found site q → k ≡ with_piece t (site, OfExpr (see_expr x)) → a ≡ with_pieces k (pieces_query (see_query q)) → is_expr x t a
found-noted x site q t k a is first so = own-expr x (sx.found site (see_query q)) site _ t k a (ap see_expr is ∙ search (rules, the_lemmas)) refl first so

-- ---- files

pub file-noted : (f : RawFile) (t k l m a : List Piece) → k ≡ with_piece t (0, OfFile) → l ≡ with_pieces k (of_lets f.lets.items) → m ≡ with_pieces l (of_rules f.rules.items)
    → a ≡ with_pieces m (of_disjs f.loose.items) → a ≡ with_pieces t (pieces_file (see_file f))
file-noted f t k l m a first lets rules loose =
    in-turn k l a (of_lets f.lets.items) (of_rules f.rules.items ++ of_disjs f.loose.items) lets (in-turn l m a (of_rules f.rules.items) (of_disjs f.loose.items) rules loose)
    ∙ ap (λ (x : List Piece). with_pieces x (of_lets f.lets.items ++ (of_rules f.rules.items ++ of_disjs f.loose.items))) first
