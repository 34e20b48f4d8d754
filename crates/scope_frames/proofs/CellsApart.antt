-- Two names of one scope that have the same slot in a frame of it are the same: a site has one piece, each argument of a call has a site of its own, and no argument stands in the body that
-- is called.
use Rattle.std.proofs.Common.{◌≡◌, ℕ, zero, suc, ◌≤◌, refl, sym, ap, ◌∙◌, subst, arith, List, [], Option, Some, None, option_and_then, option_map}
use Rattle.std.proofs.lemmas.Option.{none-some, same_Some}
use Rattle.guard_syntax.specs.Sites.{sites_expr, sites_exprs, sites_part, sites_query, sites_steps}
use Rattle.guard_syntax.specs.Syntax.{Expr, Exprs, File, Part, asked, block, call, found, function, guarded, kinds, literal, more_exprs, no_exprs, query, refer, test}
use Rattle.rule_names.specs.declared.bind.Bind.{Bind}
use Rattle.rule_names.specs.declared.bind.Bind.TheVariants.{Value, Capture, Param}
use Rattle.rule_names.specs.Depths.{depths_of}
use Rattle.rule_names.specs.EnclosingScopes.{home_of}
use Rattle.rule_names.specs.Pieces.{AreInOrder, OfBody, OfConds, OfDisj, OfExpr, OfFile, OfLet, OfPart, OfQuery, OfRule, OfStep, Piece, piece_at}
use Rattle.rule_names.specs.Uses.{expr_in, expr_site}
use Rattle.rule_names.specs.WellNamed.{WellNamed}
use Rattle.rule_names.proofs.Increases.{times, times-append}
use Rattle.evidence_rules.specs.CitedLines.{args_at, args_of_part, args_of_piece, body_of_rule, body_site, called_body, scope_of_piece}
use Rattle.scope_frames.specs.code.Cells.{slot_of}
use Rattle.scope_frames.specs.code.Frames.{AreEntered, StandsFor, scope_of}
use Rattle.scope_frames.specs.code.Scoping.{IsCapture, IsGivenIn, IsValue, up_of}
use Rattle.scope_frames.specs.declared.frame.Frame.{Frame}
use Rattle.scope_frames.proofs.BodiesApart.{own-time, part-once}
use Rattle.scope_frames.proofs.CallFrames.{IsCallOf, arg-slot, call-given}
use Rattle.scope_frames.proofs.CallsApart.{arg-homed, no-own-call}
use Rattle.scope_frames.proofs.RulesNamed.{calls-fit}

-- ---- arguments by their sites

expr-has : (e : Expr) → 1 ≤ times (expr_site e) (sites_expr e)
expr-has (literal n tree) = let own = own-time n [] in omega (arith, own)
expr-has (function n name es) = let own = own-time n (sites_exprs es) in omega (arith, own)
expr-has (asked (query n ss)) = let own = own-time n (sites_steps ss) in omega (arith, own)
expr-has (found n q) = let own = own-time n (sites_query q) in omega (arith, own)

exprs-have : (es : Exprs) (i : ℕ) (e : Expr) → expr_in es i ≡ Some e → 1 ≤ times (expr_site e) (sites_exprs es)
exprs-have no_exprs i e is = absurd (none-some e is)
exprs-have (more_exprs x es) zero e is =
    let own : 1 ≤ times (expr_site e) (sites_expr x) = subst (λ (y : Expr). 1 ≤ times (expr_site y) (sites_expr x)) (same_Some x e is) (expr-has x) in
    omega (arith, own, times-append (expr_site e) (sites_expr x) (sites_exprs es))
exprs-have (more_exprs x es) (suc i) e is =
    let rest = exprs-have es i e is in
    omega (arith, rest, times-append (expr_site e) (sites_expr x) (sites_exprs es))

-- a first argument and a later one
first-apart : (x : Expr) (es : Exprs) (i : ℕ) (e d : Expr) → Some x ≡ Some e → expr_in es i ≡ Some d → expr_site e ≡ expr_site d → times (expr_site e) (sites_exprs (more_exprs x es)) ≤ 1 → ⊥
first-apart x es i e d is are same once =
    let own : 1 ≤ times (expr_site e) (sites_expr x) = subst (λ (y : Expr). 1 ≤ times (expr_site y) (sites_expr x)) (same_Some x e is) (expr-has x) in
    let rest : 1 ≤ times (expr_site e) (sites_exprs es) = subst (λ (k : ℕ). 1 ≤ times k (sites_exprs es)) (sym same) (exprs-have es i d are) in
    omega (arith, own, rest, once, times-append (expr_site e) (sites_expr x) (sites_exprs es))

same-index : (es : Exprs) (i j : ℕ) (e d : Expr) → expr_in es i ≡ Some e → expr_in es j ≡ Some d → expr_site e ≡ expr_site d → times (expr_site e) (sites_exprs es) ≤ 1 → i ≡ j
same-index no_exprs i j e d is are same once = absurd (none-some e is)
same-index (more_exprs x es) zero zero e d is are same once = refl
same-index (more_exprs x es) zero (suc j) e d is are same once = absurd (first-apart x es j e d is are same once)
same-index (more_exprs x es) (suc i) zero e d is are same once =
    absurd (first-apart x es i d e are is (sym same) (subst (λ (k : ℕ). times k (sites_exprs (more_exprs x es)) ≤ 1) same once))
same-index (more_exprs x es) (suc i) (suc j) e d is are same once =
    ap suc (same-index es i j e d is are same (omega (arith, once, times-append (expr_site e) (sites_expr x) (sites_exprs es))))

-- ---- a let is no capture

no-both : (o : Option Piece) → IsValue o → IsCapture o → ⊥
no-both None value capture = value
no-both (Some OfFile) value capture = value
no-both (Some (OfLet l)) value capture = value
no-both (Some (OfRule r)) value capture = value
no-both (Some (OfBody b)) value capture = value
no-both (Some (OfConds c)) value capture = value
no-both (Some (OfDisj d)) value capture = value
no-both (Some (OfPart x)) value capture = value
no-both (Some (OfQuery q)) value capture = capture
no-both (Some (OfStep q i)) value capture = value
no-both (Some (OfExpr e)) value capture = capture

args-once : (x : Part) (es : Exprs) (m : ℕ) → args_of_part x ≡ Some es → times m (sites_part x) ≤ 1 → times m (sites_exprs es) ≤ 1
args-once (call n negated name xs message) es m is once =
    subst (λ (ys : Exprs). times m (sites_exprs ys) ≤ 1) (same_Some xs es is) (omega (arith, once))
args-once (block n any q b) es m is once = absurd (none-some es is)
args-once (guarded n c b) es m is once = absurd (none-some es is)
args-once (kinds n name c b) es m is once = absurd (none-some es is)
args-once (test n any q op negated right message) es m is once = absurd (none-some es is)
args-once (refer n negated name message) es m is once = absurd (none-some es is)

module _ (f : File) (well : WellNamed f) (ordered : AreInOrder f) (frames : List Frame) (entered : AreEntered f frames) (at scope : ℕ) (stands : StandsFor f frames at scope) where
  module _ (index : ℕ) (c : IsCallOf f frames at index) where
    args-of : args_of_part c.part ≡ Some c.args
    args-of = sym (ap (option_and_then args_of_piece) c.piece_is) ∙ c.args_are

    -- the call stands in another scope than that of the called body
    call-apart-by : (x : Part) → piece_at f c.site ≡ Some (OfPart x) → args_of_part x ≡ Some c.args → home_of f c.site ≡ scope → ⊥
    call-apart-by (call n negated name es message) piece args home =
        let fit = calls-fit f well ordered c.site n negated name es message piece in
        let called : called_body f c.site ≡ Some fit.0.body =
        ap (option_and_then (λ (rule : ℕ). option_and_then body_of_rule (piece_at f rule))) fit.2 ∙ ap (option_and_then body_of_rule) fit.3 in
        let told : option_and_then (scope_of_piece f c.site) (piece_at f c.site) ≡ Some scope = sym (ap (option_and_then (scope_of f)) c.frame_is) ∙ stands in
        let scoped : option_map body_site (called_body f c.site) ≡ Some scope = sym (ap (option_and_then (scope_of_piece f c.site)) piece) ∙ told in
        let same : body_site fit.0.body ≡ scope = same_Some (body_site fit.0.body) scope (sym (ap (option_map body_site) called) ∙ scoped) in
        no-own-call f well ordered fit.0 fit.1 fit.3 c.site n negated name es message piece fit.2 (home ∙ sym same)
    call-apart-by (block n any q b) piece args home = none-some c.args args
    call-apart-by (guarded n d b) piece args home = none-some c.args args
    call-apart-by (kinds n name d b) piece args home = none-some c.args args
    call-apart-by (test n any q op negated right message) piece args home = none-some c.args args
    call-apart-by (refer n negated name message) piece args home = none-some c.args args

    -- so does each argument
    arg-apart : home_of f (expr_site c.arg) ≡ scope → ⊥
    arg-apart home = call-apart-by c.part c.piece_is args-of (sym (arg-homed f (depths_of f) ordered c.site c.part c.piece_is c.args index c.arg args-of c.arg_is) ∙ home)

  -- two arguments of the call with the same site
  same-param : (i j : ℕ) (c : IsCallOf f frames at i) (d : IsCallOf f frames at j) → expr_site c.arg ≡ expr_site d.arg → i ≡ j
  same-param i j c d same =
      let frame_of : record { parent = Some c.parent; site = c.site; current = c.current } ≡ record { parent = Some d.parent; site = d.site; current = d.current } =
      same_Some (record { parent = Some c.parent; site = c.site; current = c.current }) (record { parent = Some d.parent; site = d.site; current = d.current }) (sym c.frame_is ∙ d.frame_is) in
      let site_is : d.site ≡ c.site = sym (ap (λ (x : Frame). x.site) frame_of) in
      let args_are : d.args ≡ c.args = same_Some d.args c.args (sym d.args_are ∙ ap (args_at f) site_is ∙ c.args_are) in
      let arg_is : expr_in c.args j ≡ Some d.arg = ap (λ (es : Exprs). expr_in es j) (sym args_are) ∙ d.arg_is in
      same-index c.args i j c.arg d.arg c.arg_is arg_is same
      (args-once c.part c.args (expr_site c.arg) (args-of i c) (part-once f ordered c.site c.part c.piece_is (expr_site c.arg)))

  given-call : (up index : ℕ) → IsGivenIn f scope (Param up index) → IsCallOf f frames at index
  given-call = call-given f well ordered frames entered at scope stands

  given-slot : (up index : ℕ) (c : IsCallOf f frames at index) → slot_of f frames at (Param up index) ≡ Some (expr_site c.arg)
  given-slot = arg-slot f well ordered frames entered at scope stands

  pub names-told : (b c : Bind) → IsGivenIn f scope b → IsGivenIn f scope c → up_of b ≡ up_of c → slot_of f frames at b ≡ slot_of f frames at c → b ≡ c
  names-told (Value up site) (Value more other) given also ups slots =
      subst (λ (n : ℕ). Value up site ≡ Value n other) ups (ap (Value up) (same_Some site other slots))
  names-told (Capture up step) (Capture more other) given also ups slots =
      subst (λ (n : ℕ). Capture up step ≡ Capture n other) ups (ap (Capture up) (same_Some step other slots))
  names-told (Value up site) (Capture more step) given also ups slots =
      absurd (no-both (piece_at f step) (subst (λ (n : ℕ). IsValue (piece_at f n)) (same_Some site step slots) given.1) also.1)
  names-told (Capture up step) (Value more site) given also ups slots =
      absurd (no-both (piece_at f site) also.1 (subst (λ (n : ℕ). IsCapture (piece_at f n)) (same_Some step site slots) given.1))
  names-told (Param up i) (Param more j) given also ups slots =
      let c = given-call up i given in
      let d = given-call more j also in
      let index : i ≡ j = same-param i j c d (same_Some (expr_site c.arg) (expr_site d.arg) (sym (given-slot up i c) ∙ slots ∙ given-slot more j d)) in
      subst (λ (n : ℕ). Param up i ≡ Param n j) ups (ap (Param up) index)
  names-told (Param up i) (Value more site) given also ups slots =
      let c = given-call up i given in
      absurd (arg-apart i c (ap (home_of f) (same_Some (expr_site c.arg) site (sym (given-slot up i c) ∙ slots)) ∙ also.0))
  names-told (Param up i) (Capture more step) given also ups slots =
      let c = given-call up i given in
      absurd (arg-apart i c (ap (home_of f) (same_Some (expr_site c.arg) step (sym (given-slot up i c) ∙ slots)) ∙ also.0))
  names-told (Value up site) (Param more j) given also ups slots =
      let d = given-call more j also in
      absurd (arg-apart j d (ap (home_of f) (same_Some (expr_site d.arg) site (sym (given-slot more j d) ∙ sym slots)) ∙ given.0))
  names-told (Capture up step) (Param more j) given also ups slots =
      let d = given-call more j also in
      absurd (arg-apart j d (ap (home_of f) (same_Some (expr_site d.arg) step (sym (given-slot more j d) ∙ sym slots)) ∙ given.0))
