-- The parts of each type of the code: what stands at a site in them, by what stands there in their own parts.
use Rattle.std.proofs.Common.{◌≡◌, ℕ, suc, ◌≤◌, ◌<◌, Bool, refl, ap, sym, ◌∙◌, subst, arith, rules, List, ◌∷◌, ◌++◌, map, Option, Some, None}
use Rattle.guard_syntax.specs.Syntax as sx
use Rattle.guard_syntax.specs.declared.syntax.Op.{Op}
use Rattle.guard_syntax.specs.declared.syntax.Body.{Body, out-Body, the_lemmas}
use Rattle.guard_syntax.specs.declared.syntax.Conds.{Conds, out-Conds}
use Rattle.guard_syntax.specs.declared.syntax.Query.{Query, out-Query}
use Rattle.guard_syntax.specs.declared.syntax.Let.{Let}
use Rattle.guard_syntax.specs.declared.syntax.Part.{Part}
use Rattle.guard_syntax.specs.declared.syntax.Part as part
use Rattle.guard_syntax.specs.declared.syntax.Step.{Step}
use Rattle.guard_syntax.specs.declared.syntax.StepForm.{StepForm}
use Rattle.guard_syntax.specs.declared.syntax.StepForm as form
use Rattle.guard_syntax.specs.declared.syntax.Disj.{Disj}
use Rattle.guard_syntax.specs.declared.syntax.Expr.{Expr}
use Rattle.guard_syntax.specs.declared.syntax.Expr as expr
use Rattle.guard_syntax.specs.declared.syntax.Expr.TheOpen.{StepForm-F}
use Rattle.std.specs.declared.vec.Vec.{Vec}
use Rattle.std.specs.declared.alloc.Global.{Global}
use Rattle.guard_syntax.specs.code.Seen.{see_step, see_form, see_disj, see_let, see_body, see_conds, see_opt_conds, see_part, see_query, see_expr, FormLayer, form_step, step_list, disj_list, let_list, part_list, expr_list}
use Rattle.guard_syntax.specs.Sites.{sites_body, sites_lets, sites_let, sites_conds, sites_opt_conds, sites_disjs, sites_disj, sites_parts, sites_part, sites_query, sites_steps, sites_step, sites_expr, sites_exprs}
use Rattle.rule_names.specs.Pieces.{Sited, Piece, OfLet, OfDisj, OfStep, piece_in, pieces_body, pieces_lets, pieces_let, pieces_conds, pieces_opt_conds, pieces_disjs, pieces_disj, pieces_parts, pieces_part, pieces_query, pieces_steps, pieces_step, pieces_expr}
use Rattle.rule_names.specs.code.Forms.{sites_form, pieces_form}
use Rattle.rule_names.specs.code.IncreasingSites.{IsIncreasing, first_site}
use Rattle.rule_names.proofs.Parts.{here, elsewhere, in-first, in-second, not-first, not-second, rise-behind, rise-front, rise-back, rise-first, rise-second, two-front, two-back}
use Rattle.rule_names.proofs.Tied.{tied-body, tied-lets, tied-disjs, tied-query, tied-conds, tied-opt_conds, tied-expr}
use Rattle.rule_names.proofs.Lists.{begins-body, begins-expr}

pub let-seen : (l : Let) → see_let l ≡ sx.assign l.site l.name (see_expr l.value)
let-seen l = search (rules, the_lemmas)

pub disj-seen : (d : Disj) → see_disj d ≡ sx.disj d.site (part_list (map see_part d.parts.items))
disj-seen d = search (rules, the_lemmas)

pub body-seen : (b : Body) → see_body b ≡ sx.body (out-Body b).site (let_list (map see_let (out-Body b).lets.items)) (disj_list (map see_disj (out-Body b).parts.items))
body-seen b = search (rules, the_lemmas)

pub conds-seen : (c : Conds) → see_conds c ≡ sx.conds (out-Conds c).site (disj_list (map see_disj (out-Conds c).parts.items))
conds-seen c = search (rules, the_lemmas)

pub query-seen : (q : Query) → see_query q ≡ sx.query (out-Query q).site (step_list (map see_step (out-Query q).steps.items))
query-seen q = search (rules, the_lemmas)

pub step-seen : (s : Step) → see_step s ≡ see_form s.form s.site
step-seen s = search (rules, the_lemmas)

pub block-seen : (site : ℕ) (any : Bool) (head : Query) (inner : Body) → see_part (part.Block site any head inner) ≡ sx.block site any (see_query head) (see_body inner)
block-seen site any head inner = search (rules, the_lemmas)

pub when-seen : (site : ℕ) (cond : Conds) (inner : Body) → see_part (part.When site cond inner) ≡ sx.guarded site (see_conds cond) (see_body inner)
when-seen site cond inner = search (rules, the_lemmas)

pub kinds-seen : (site : ℕ) (name : List ℕ) (cond : Option Conds) (inner : Body) → see_part (part.Kinds site name cond inner) ≡ sx.kinds site name (see_opt_conds cond) (see_body inner)
kinds-seen site name cond inner = search (rules, the_lemmas)

-- ---- a let

pub let-here : (n : ℕ) (l : Let) → l.site ≡ n → piece_in (pieces_let (see_let l)) n ≡ Some (OfLet (see_let l))
let-here n l is = ap (λ (x : sx.Let). piece_in (pieces_let x) n) (let-seen l) ∙ here n l.site _ _ is ∙ ap (λ (x : sx.Let). Some (OfLet x)) (sym (let-seen l))

pub let-inner : (n : ℕ) (l : Let) → (l.site ≡ n → ⊥) → piece_in (pieces_expr (see_expr l.value)) n ≡ piece_in (pieces_let (see_let l)) n
let-inner n l other = sym (ap (λ (x : sx.Let). piece_in (pieces_let x) n) (let-seen l) ∙ elsewhere n l.site _ _ other)

pub let-rise : (l : Let) → IsIncreasing (sites_let (see_let l)) → IsIncreasing (sites_expr (see_expr l.value))
let-rise l h = rise-behind l.site _ (subst (λ (x : sx.Let). IsIncreasing (sites_let x)) (let-seen l) h)

-- ---- a disjunction

pub disj-here : (n : ℕ) (d : Disj) → d.site ≡ n → piece_in (pieces_disj (see_disj d)) n ≡ Some (OfDisj (see_disj d))
disj-here n d is = ap (λ (x : sx.Disj). piece_in (pieces_disj x) n) (disj-seen d) ∙ here n d.site _ _ is ∙ ap (λ (x : sx.Disj). Some (OfDisj x)) (sym (disj-seen d))

pub disj-inner : (n : ℕ) (d : Disj) (ps : List Part) → ps ≡ d.parts.items → (d.site ≡ n → ⊥) → piece_in (pieces_parts (part_list (map see_part ps))) n ≡ piece_in (pieces_disj (see_disj d)) n
disj-inner n d ps are other =
    ap (λ (xs : List Part). piece_in (pieces_parts (part_list (map see_part xs))) n) are
    ∙ sym (ap (λ (x : sx.Disj). piece_in (pieces_disj x) n) (disj-seen d) ∙ elsewhere n d.site _ _ other)

pub disj-rise : (d : Disj) (ps : List Part) → ps ≡ d.parts.items → IsIncreasing (sites_disj (see_disj d)) → IsIncreasing (sites_parts (part_list (map see_part ps)))
disj-rise d ps are h =
    subst (λ (xs : List Part). IsIncreasing (sites_parts (part_list (map see_part xs)))) (sym are)
    (rise-behind d.site _ (subst (λ (x : sx.Disj). IsIncreasing (sites_disj x)) (disj-seen d) h))

-- ---- conditions

pub conds-rise : (c : Conds) (ds : List Disj) → ds ≡ (out-Conds c).parts.items → IsIncreasing (sites_conds (see_conds c)) → IsIncreasing (sites_disjs (disj_list (map see_disj ds)))
conds-rise c ds are h =
    subst (λ (xs : List Disj). IsIncreasing (sites_disjs (disj_list (map see_disj xs)))) (sym are)
    (rise-behind (out-Conds c).site _ (subst (λ (x : sx.Conds). IsIncreasing (sites_conds x)) (conds-seen c) h))

-- ---- a body

pub body-lets-rise : (b : Body) (ls : List Let) → ls ≡ (out-Body b).lets.items → IsIncreasing (sites_body (see_body b)) → IsIncreasing (sites_lets (let_list (map see_let ls)))
body-lets-rise b ls are h =
    subst (λ (xs : List Let). IsIncreasing (sites_lets (let_list (map see_let xs)))) (sym are)
    (rise-first (out-Body b).site _ (sites_disjs (disj_list (map see_disj (out-Body b).parts.items))) (subst (λ (x : sx.Body). IsIncreasing (sites_body x)) (body-seen b) h))

pub body-parts-rise : (b : Body) (ds : List Disj) → ds ≡ (out-Body b).parts.items → IsIncreasing (sites_body (see_body b)) → IsIncreasing (sites_disjs (disj_list (map see_disj ds)))
body-parts-rise b ds are h =
    subst (λ (xs : List Disj). IsIncreasing (sites_disjs (disj_list (map see_disj xs)))) (sym are)
    (rise-second (out-Body b).site (sites_lets (let_list (map see_let (out-Body b).lets.items))) _ (subst (λ (x : sx.Body). IsIncreasing (sites_body x)) (body-seen b) h))

pub body-first : (n : ℕ) (b : Body) → first_site (sites_body (see_body b)) ≡ (out-Body b).site
body-first n b = ap (λ (x : sx.Body). first_site (sites_body x)) (body-seen b)

-- the pieces inside a body
body_inside : (n : ℕ) (b : Body) → ((out-Body b).site ≡ n → ⊥)
    → piece_in (pieces_lets (let_list (map see_let (out-Body b).lets.items)) ++ pieces_disjs (disj_list (map see_disj (out-Body b).parts.items))) n ≡ piece_in (pieces_body (see_body b)) n
body_inside n b other = sym (ap (λ (x : sx.Body). piece_in (pieces_body x) n) (body-seen b) ∙ elsewhere n (out-Body b).site _ _ other)

pub body-in-lets : (n : ℕ) (b : Body) (ls : List Let) (p : Piece) → ls ≡ (out-Body b).lets.items → ((out-Body b).site ≡ n → ⊥)
    → Some p ≡ piece_in (pieces_lets (let_list (map see_let ls))) n → Some p ≡ piece_in (pieces_body (see_body b)) n
body-in-lets n b ls p are other is =
    sym (in-first n (pieces_lets (let_list (map see_let (out-Body b).lets.items))) (pieces_disjs (disj_list (map see_disj (out-Body b).parts.items))) p
    (sym (is ∙ ap (λ (xs : List Let). piece_in (pieces_lets (let_list (map see_let xs))) n) are)))
    ∙ body_inside n b other

pub body-not-lets : (n : ℕ) (b : Body) (ls : List Let) (ds : List Disj) → ls ≡ (out-Body b).lets.items → ds ≡ (out-Body b).parts.items → ((out-Body b).site ≡ n → ⊥)
    → None ≡ piece_in (pieces_lets (let_list (map see_let ls))) n → piece_in (pieces_disjs (disj_list (map see_disj ds))) n ≡ piece_in (pieces_body (see_body b)) n
body-not-lets n b ls ds are be other is =
    ap (λ (xs : List Disj). piece_in (pieces_disjs (disj_list (map see_disj xs))) n) be
    ∙ sym (not-first n (pieces_lets (let_list (map see_let (out-Body b).lets.items))) (pieces_disjs (disj_list (map see_disj (out-Body b).parts.items)))
    (sym (is ∙ ap (λ (xs : List Let). piece_in (pieces_lets (let_list (map see_let xs))) n) are)))
    ∙ body_inside n b other

pub body-in-parts : (n : ℕ) (b : Body) (ds : List Disj) (p : Piece) → ds ≡ (out-Body b).parts.items → ((out-Body b).site ≡ n → ⊥) → IsIncreasing (sites_body (see_body b))
    → Some p ≡ piece_in (pieces_disjs (disj_list (map see_disj ds))) n → Some p ≡ piece_in (pieces_body (see_body b)) n
body-in-parts n b ds p be other h is =
    let ls = let_list (map see_let (out-Body b).lets.items) in
    let ps = disj_list (map see_disj (out-Body b).parts.items) in
    let r = subst (λ (x : sx.Body). IsIncreasing (sites_body x)) (body-seen b) h in
    sym (in-second n (suc (out-Body b).site) (pieces_lets ls) (pieces_disjs ps) (sites_lets ls) (sites_disjs ps) p (tied-lets ls) (tied-disjs ps) r.up.1
    (sym (is ∙ ap (λ (xs : List Disj). piece_in (pieces_disjs (disj_list (map see_disj xs))) n) be)))
    ∙ body_inside n b other

pub body-not-parts : (n : ℕ) (b : Body) (ls : List Let) (ds : List Disj) → ls ≡ (out-Body b).lets.items → ds ≡ (out-Body b).parts.items → ((out-Body b).site ≡ n → ⊥)
    → None ≡ piece_in (pieces_disjs (disj_list (map see_disj ds))) n → piece_in (pieces_lets (let_list (map see_let ls))) n ≡ piece_in (pieces_body (see_body b)) n
body-not-parts n b ls ds are be other is =
    ap (λ (xs : List Let). piece_in (pieces_lets (let_list (map see_let xs))) n) are
    ∙ sym (not-second n (pieces_lets (let_list (map see_let (out-Body b).lets.items))) (pieces_disjs (disj_list (map see_disj (out-Body b).parts.items)))
    (sym (is ∙ ap (λ (xs : List Disj). piece_in (pieces_disjs (disj_list (map see_disj xs))) n) be)))
    ∙ body_inside n b other

-- ---- a block

abbrev Inside : ℕ → List Sited → Part → Type 0
Inside n ps x = piece_in ps n ≡ piece_in (pieces_part (see_part x)) n

pub block-rise : (x : Part) (site : ℕ) (any : Bool) (head : Query) (inner : Body) → x ≡ part.Block site any head inner → IsIncreasing (sites_part (see_part x))
    → IsIncreasing (sites_query (see_query head)) × IsIncreasing (sites_body (see_body inner))
block-rise x site any head inner is h =
    let r = subst (λ (y : sx.Part). IsIncreasing (sites_part y)) (ap see_part is ∙ block-seen site any head inner) h in
    (rise-front site (sites_query (see_query head)) (sites_body (see_body inner)) r, rise-back site (sites_query (see_query head)) (sites_body (see_body inner)) r)

pub block-head : (n : ℕ) (x : Part) (site : ℕ) (any : Bool) (head : Query) (inner : Body) → x ≡ part.Block site any head inner → IsIncreasing (sites_part (see_part x))
    → (first_site (sites_part (see_part x)) ≡ n → ⊥) → n < (out-Body inner).site → Inside n (pieces_query (see_query head)) x
block-head n x site any head inner is h other before =
    let e = body-first n inner in
    subst (λ (y : sx.Part). IsIncreasing (sites_part y) → (first_site (sites_part y) ≡ n → ⊥) → piece_in (pieces_query (see_query head)) n ≡ piece_in (pieces_part y) n)
    (sym (ap see_part is ∙ block-seen site any head inner))
    (λ r o. two-front n site _ (pieces_query (see_query head)) (pieces_body (see_body inner)) (sites_query (see_query head)) (sites_body (see_body inner))
    (tied-body (see_body inner)) (begins-body (see_body inner)) r o (omega arith))
    h other

pub block-body : (n : ℕ) (x : Part) (site : ℕ) (any : Bool) (head : Query) (inner : Body) → x ≡ part.Block site any head inner → IsIncreasing (sites_part (see_part x))
    → (first_site (sites_part (see_part x)) ≡ n → ⊥) → (out-Body inner).site ≤ n → Inside n (pieces_body (see_body inner)) x
block-body n x site any head inner is h other from =
    let e = body-first n inner in
    subst (λ (y : sx.Part). IsIncreasing (sites_part y) → (first_site (sites_part y) ≡ n → ⊥) → piece_in (pieces_body (see_body inner)) n ≡ piece_in (pieces_part y) n)
    (sym (ap see_part is ∙ block-seen site any head inner))
    (λ r o. two-back n site _ (pieces_query (see_query head)) (pieces_body (see_body inner)) (sites_query (see_query head)) (sites_body (see_body inner))
    (tied-query (see_query head)) (begins-body (see_body inner)) r o (omega arith))
    h other

-- ---- a `when` block

pub when-rise : (x : Part) (site : ℕ) (cond : Conds) (inner : Body) → x ≡ part.When site cond inner → IsIncreasing (sites_part (see_part x)) → IsIncreasing (sites_conds (see_conds cond)) × IsIncreasing (sites_body (see_body inner))
when-rise x site cond inner is h =
    let r = subst (λ (y : sx.Part). IsIncreasing (sites_part y)) (ap see_part is ∙ when-seen site cond inner) h in
    (rise-front site (sites_conds (see_conds cond)) (sites_body (see_body inner)) r, rise-back site (sites_conds (see_conds cond)) (sites_body (see_body inner)) r)

pub when-conds : (n : ℕ) (x : Part) (site : ℕ) (cond : Conds) (inner : Body) → x ≡ part.When site cond inner → IsIncreasing (sites_part (see_part x))
    → (first_site (sites_part (see_part x)) ≡ n → ⊥) → n < (out-Body inner).site → Inside n (pieces_conds (see_conds cond)) x
when-conds n x site cond inner is h other before =
    let e = body-first n inner in
    subst (λ (y : sx.Part). IsIncreasing (sites_part y) → (first_site (sites_part y) ≡ n → ⊥) → piece_in (pieces_conds (see_conds cond)) n ≡ piece_in (pieces_part y) n)
    (sym (ap see_part is ∙ when-seen site cond inner))
    (λ r o. two-front n site _ (pieces_conds (see_conds cond)) (pieces_body (see_body inner)) (sites_conds (see_conds cond)) (sites_body (see_body inner))
    (tied-body (see_body inner)) (begins-body (see_body inner)) r o (omega arith))
    h other

pub when-body : (n : ℕ) (x : Part) (site : ℕ) (cond : Conds) (inner : Body) → x ≡ part.When site cond inner → IsIncreasing (sites_part (see_part x))
    → (first_site (sites_part (see_part x)) ≡ n → ⊥) → (out-Body inner).site ≤ n → Inside n (pieces_body (see_body inner)) x
when-body n x site cond inner is h other from =
    let e = body-first n inner in
    subst (λ (y : sx.Part). IsIncreasing (sites_part y) → (first_site (sites_part y) ≡ n → ⊥) → piece_in (pieces_body (see_body inner)) n ≡ piece_in (pieces_part y) n)
    (sym (ap see_part is ∙ when-seen site cond inner))
    (λ r o. two-back n site _ (pieces_conds (see_conds cond)) (pieces_body (see_body inner)) (sites_conds (see_conds cond)) (sites_body (see_body inner))
    (tied-conds (see_conds cond)) (begins-body (see_body inner)) r o (omega arith))
    h other

-- ---- a type block

pub kinds-rise : (x : Part) (site : ℕ) (name : List ℕ) (cond : Option Conds) (inner : Body) → x ≡ part.Kinds site name cond inner → IsIncreasing (sites_part (see_part x)) → IsIncreasing (sites_opt_conds (see_opt_conds cond)) × IsIncreasing (sites_body (see_body inner))
kinds-rise x site name cond inner is h =
    let r = subst (λ (y : sx.Part). IsIncreasing (sites_part y)) (ap see_part is ∙ kinds-seen site name cond inner) h in
    (rise-front site (sites_opt_conds (see_opt_conds cond)) (sites_body (see_body inner)) r, rise-back site (sites_opt_conds (see_opt_conds cond)) (sites_body (see_body inner)) r)

pub kinds-conds : (n : ℕ) (x : Part) (site : ℕ) (name : List ℕ) (cond : Option Conds) (inner : Body) → x ≡ part.Kinds site name cond inner → IsIncreasing (sites_part (see_part x))
    → (first_site (sites_part (see_part x)) ≡ n → ⊥) → n < (out-Body inner).site → Inside n (pieces_opt_conds (see_opt_conds cond)) x
kinds-conds n x site name cond inner is h other before =
    let e = body-first n inner in
    subst (λ (y : sx.Part). IsIncreasing (sites_part y) → (first_site (sites_part y) ≡ n → ⊥) → piece_in (pieces_opt_conds (see_opt_conds cond)) n ≡ piece_in (pieces_part y) n)
    (sym (ap see_part is ∙ kinds-seen site name cond inner))
    (λ r o. two-front n site _ (pieces_opt_conds (see_opt_conds cond)) (pieces_body (see_body inner)) (sites_opt_conds (see_opt_conds cond)) (sites_body (see_body inner))
    (tied-body (see_body inner)) (begins-body (see_body inner)) r o (omega arith))
    h other

pub kinds-body : (n : ℕ) (x : Part) (site : ℕ) (name : List ℕ) (cond : Option Conds) (inner : Body) → x ≡ part.Kinds site name cond inner → IsIncreasing (sites_part (see_part x))
    → (first_site (sites_part (see_part x)) ≡ n → ⊥) → (out-Body inner).site ≤ n → Inside n (pieces_body (see_body inner)) x
kinds-body n x site name cond inner is h other from =
    let e = body-first n inner in
    subst (λ (y : sx.Part). IsIncreasing (sites_part y) → (first_site (sites_part y) ≡ n → ⊥) → piece_in (pieces_body (see_body inner)) n ≡ piece_in (pieces_part y) n)
    (sym (ap see_part is ∙ kinds-seen site name cond inner))
    (λ r o. two-back n site _ (pieces_opt_conds (see_opt_conds cond)) (pieces_body (see_body inner)) (sites_opt_conds (see_opt_conds cond)) (sites_body (see_body inner))
    (tied-opt_conds (see_opt_conds cond)) (begins-body (see_body inner)) r o (omega arith))
    h other

-- ---- a test with a right side

test-seen : (site : ℕ) (any : Bool) (left : Query) (op : Op) (negated : Bool) (right : Option Expr) (message : Option (List ℕ)) (e : Expr) → right ≡ Some e
    → see_part (part.Test site any left op negated right message) ≡ sx.test site any (see_query left) op negated (sx.with_expr (see_expr e)) message
test-seen site any left op negated right message e some =
    ap (λ (r : Option Expr). see_part (part.Test site any left op negated r message)) some ∙ test_seen site any left op negated message e
  where
    test_seen : (site : ℕ) (any : Bool) (left : Query) (op : Op) (negated : Bool) (message : Option (List ℕ)) (e : Expr)
        → see_part (part.Test site any left op negated (Some e) message) ≡ sx.test site any (see_query left) op negated (sx.with_expr (see_expr e)) message
    test_seen site any left op negated message e = search (rules, the_lemmas)

pub test-rise : (x : Part) (site : ℕ) (any : Bool) (left : Query) (op : Op) (negated : Bool) (right : Option Expr) (message : Option (List ℕ)) (e : Expr)
    → x ≡ part.Test site any left op negated right message → right ≡ Some e → IsIncreasing (sites_part (see_part x)) → IsIncreasing (sites_query (see_query left)) × IsIncreasing (sites_expr (see_expr e))
test-rise x site any left op negated right message e is some h =
    let r = subst (λ (y : sx.Part). IsIncreasing (sites_part y)) (ap see_part is ∙ test-seen site any left op negated right message e some) h in
    (rise-front site (sites_query (see_query left)) (sites_expr (see_expr e)) r, rise-back site (sites_query (see_query left)) (sites_expr (see_expr e)) r)

pub test-left : (n : ℕ) (x : Part) (site : ℕ) (any : Bool) (left : Query) (op : Op) (negated : Bool) (right : Option Expr) (message : Option (List ℕ)) (e : Expr)
    → x ≡ part.Test site any left op negated right message → right ≡ Some e → IsIncreasing (sites_part (see_part x))
    → (first_site (sites_part (see_part x)) ≡ n → ⊥) → n < first_site (sites_expr (see_expr e)) → Inside n (pieces_query (see_query left)) x
test-left n x site any left op negated right message e is some h other before =
    subst (λ (y : sx.Part). IsIncreasing (sites_part y) → (first_site (sites_part y) ≡ n → ⊥) → piece_in (pieces_query (see_query left)) n ≡ piece_in (pieces_part y) n)
    (sym (ap see_part is ∙ test-seen site any left op negated right message e some))
    (λ r o. two-front n site _ (pieces_query (see_query left)) (pieces_expr (see_expr e)) (sites_query (see_query left)) (sites_expr (see_expr e))
    (tied-expr (see_expr e)) (begins-expr (see_expr e)) r o before)
    h other

pub test-right : (n : ℕ) (x : Part) (site : ℕ) (any : Bool) (left : Query) (op : Op) (negated : Bool) (right : Option Expr) (message : Option (List ℕ)) (e : Expr)
    → x ≡ part.Test site any left op negated right message → right ≡ Some e → IsIncreasing (sites_part (see_part x))
    → (first_site (sites_part (see_part x)) ≡ n → ⊥) → first_site (sites_expr (see_expr e)) ≤ n → Inside n (pieces_expr (see_expr e)) x
test-right n x site any left op negated right message e is some h other from =
    subst (λ (y : sx.Part). IsIncreasing (sites_part y) → (first_site (sites_part y) ≡ n → ⊥) → piece_in (pieces_expr (see_expr e)) n ≡ piece_in (pieces_part y) n)
    (sym (ap see_part is ∙ test-seen site any left op negated right message e some))
    (λ r o. two-back n site _ (pieces_query (see_query left)) (pieces_expr (see_expr e)) (sites_query (see_query left)) (sites_expr (see_expr e))
    (tied-query (see_query left)) (begins-expr (see_expr e)) r o from)
    h other

-- ---- calls

pub call-seen : (site : ℕ) (negated : Bool) (name : List ℕ) (args : Vec Expr Global) (message : Option (List ℕ))
    → see_part (part.Call site negated name args message) ≡ sx.call site negated name (expr_list (map see_expr args.items)) message
call-seen site negated name args message = search (rules, the_lemmas)

pub call-rise : (x : Part) (site : ℕ) (negated : Bool) (name : List ℕ) (args : Vec Expr Global) (message : Option (List ℕ)) (es : List Expr)
    → x ≡ part.Call site negated name args message → es ≡ args.items → IsIncreasing (sites_part (see_part x)) → IsIncreasing (sites_exprs (expr_list (map see_expr es)))
call-rise x site negated name args message es is are h =
    subst (λ (xs : List Expr). IsIncreasing (sites_exprs (expr_list (map see_expr xs)))) (sym are)
    (rise-behind site _ (subst (λ (y : sx.Part). IsIncreasing (sites_part y)) (ap see_part is ∙ call-seen site negated name args message) h))

pub function-seen : (site : ℕ) (name : List ℕ) (args : Vec Expr Global) → see_expr (expr.Function site name args) ≡ sx.function site name (expr_list (map see_expr args.items))
function-seen site name args = search (rules, the_lemmas)

pub function-rise : (x : Expr) (site : ℕ) (name : List ℕ) (args : Vec Expr Global) (es : List Expr)
    → x ≡ expr.Function site name args → es ≡ args.items → IsIncreasing (sites_expr (see_expr x)) → IsIncreasing (sites_exprs (expr_list (map see_expr es)))
function-rise x site name args es is are h =
    subst (λ (xs : List Expr). IsIncreasing (sites_exprs (expr_list (map see_expr xs)))) (sym are)
    (rise-behind site _ (subst (λ (y : sx.Expr). IsIncreasing (sites_expr y)) (ap see_expr is ∙ function-seen site name args) h))

-- ---- a query

pub query-rise : (q : Query) (ss : List Step) → ss ≡ (out-Query q).steps.items → IsIncreasing (sites_query (see_query q)) → IsIncreasing (sites_steps (step_list (map see_step ss)))
query-rise q ss are h =
    subst (λ (xs : List Step). IsIncreasing (sites_steps (step_list (map see_step xs)))) (sym are)
    (rise-behind (out-Query q).site _ (subst (λ (x : sx.Query). IsIncreasing (sites_query x)) (query-seen q) h))

query_inside : (n : ℕ) (q : Query) → ((out-Query q).site ≡ n → ⊥)
    → piece_in (pieces_steps (see_query q) 0 (step_list (map see_step (out-Query q).steps.items))) n ≡ piece_in (pieces_query (see_query q)) n
query_inside n q other =
    sym (ap (λ (x : sx.Query). piece_in (pieces_query x) n) (query-seen q) ∙ elsewhere n (out-Query q).site _ _ other
    ∙ ap (λ (x : sx.Query). piece_in (pieces_steps x 0 (step_list (map see_step (out-Query q).steps.items))) n) (sym (query-seen q)))

pub query-inner : (n : ℕ) (q : Query) (ss : List Step) → ss ≡ (out-Query q).steps.items → ((out-Query q).site ≡ n → ⊥)
    → piece_in (pieces_steps (see_query q) 0 (step_list (map see_step ss))) n ≡ piece_in (pieces_query (see_query q)) n
query-inner n q ss are other =
    ap (λ (xs : List Step). piece_in (pieces_steps (see_query q) 0 (step_list (map see_step xs))) n) are ∙ query_inside n q other

-- a step of a form: its own site, and what is the same at each site and in each query
pub record Shaped (f : ℕ → sx.Step) : Type 0 where
  pub sites : (site : ℕ) → sites_step (f site) ≡ site ∷ sites_form f
  pub pieces : (q : sx.Query) (i site : ℕ) → pieces_step q i (f site) ≡ (site, OfStep q i) ∷ pieces_form f

shaped_layer : (l : FormLayer) → Shaped (form_step l)
shaped_layer StepForm-F.This = record { sites = λ site. refl; pieces = λ q i site. refl }
shaped_layer (StepForm-F.Var name) = record { sites = λ site. refl; pieces = λ q i site. refl }
shaped_layer (StepForm-F.Key name) = record { sites = λ site. refl; pieces = λ q i site. refl }
shaped_layer (StepForm-F.Index at) = record { sites = λ site. refl; pieces = λ q i site. refl }
shaped_layer StepForm-F.Every = record { sites = λ site. refl; pieces = λ q i site. refl }
shaped_layer StepForm-F.Items = record { sites = λ site. refl; pieces = λ q i site. refl }
shaped_layer (StepForm-F.Splice name) = record { sites = λ site. refl; pieces = λ q i site. refl }
shaped_layer (StepForm-F.Filter capture cond) = record { sites = λ site. refl; pieces = λ q i site. refl }
shaped_layer (StepForm-F.Keys capture op negated right) = record { sites = λ site. refl; pieces = λ q i site. refl }

shaped : (f : StepForm) (l : FormLayer) → see_form f ≡ form_step l → Shaped (see_form f)
shaped f l is = subst Shaped (sym is) (shaped_layer l)

pub form-shaped : (f : StepForm) → Shaped (see_form f)
form-shaped form.This = shaped form.This StepForm-F.This (search (rules, the_lemmas))
form-shaped (form.Var name) = shaped (form.Var name) (StepForm-F.Var name) (search (rules, the_lemmas))
form-shaped (form.Key name) = shaped (form.Key name) (StepForm-F.Key name) (search (rules, the_lemmas))
form-shaped (form.Index at) = shaped (form.Index at) (StepForm-F.Index at) (search (rules, the_lemmas))
form-shaped form.Every = shaped form.Every StepForm-F.Every (search (rules, the_lemmas))
form-shaped form.Items = shaped form.Items StepForm-F.Items (search (rules, the_lemmas))
form-shaped (form.Splice name) = shaped (form.Splice name) (StepForm-F.Splice name) (search (rules, the_lemmas))
form-shaped (form.Filter capture cond) = shaped (form.Filter capture cond) (StepForm-F.Filter capture (see_conds cond)) (search (rules, the_lemmas))
form-shaped (form.Keys capture op negated right) = shaped (form.Keys capture op negated right) (StepForm-F.Keys capture op negated (see_expr right)) (search (rules, the_lemmas))

-- ---- a step of a query

pub step-here : (n i : ℕ) (q : sx.Query) (s : Step) → s.site ≡ n → piece_in (pieces_step q i (see_step s)) n ≡ Some (OfStep q i)
step-here n i q s is =
    ap (λ (x : sx.Step). piece_in (pieces_step q i x) n) (step-seen s)
    ∙ ap (λ (ps : List Sited). piece_in ps n) ((form-shaped s.form).pieces q i s.site) ∙ here n s.site (OfStep q i) _ is

pub step-inner : (n i : ℕ) (q : sx.Query) (s : Step) → (s.site ≡ n → ⊥) → piece_in (pieces_form (see_form s.form)) n ≡ piece_in (pieces_step q i (see_step s)) n
step-inner n i q s other =
    sym (ap (λ (x : sx.Step). piece_in (pieces_step q i x) n) (step-seen s)
    ∙ ap (λ (ps : List Sited). piece_in ps n) ((form-shaped s.form).pieces q i s.site) ∙ elsewhere n s.site (OfStep q i) _ other)

pub step-rise : (s : Step) → IsIncreasing (sites_step (see_step s)) → IsIncreasing (sites_form (see_form s.form))
step-rise s h = rise-behind s.site _ (subst IsIncreasing (ap (λ (x : sx.Step). sites_step x) (step-seen s) ∙ (form-shaped s.form).sites s.site) h)
