-- The frame of the body of a rule with parameters is that of a call of the rule, with an argument for each of them: no body of a part is that of a rule, and none of a rule with parameters
-- may be entered as such. So what gives a name has a slot in each frame of its scope.
use Rattle.std.proofs.Common.{◌≡◌, ℕ, zero, suc, ◌<◌, Bool, refl, sym, ap, ◌∙◌, subst, arith, slice_get, List, length, Contains, Option, Some, None, option_and_then, option_map}
use Rattle.std.proofs.lemmas.Option.{same_Some, none-some}
use Rattle.guard_syntax.specs.Syntax.{Body, Exprs, Expr, File, Part, Query, Rule, Step, block, call, filter, guarded, kinds, more_exprs, no_exprs, refer, test}
use Rattle.guard_syntax.specs.declared.row.Ref.{Ref}
use Rattle.rule_names.specs.declared.bind.Bind.{Bind}
use Rattle.rule_names.specs.declared.bind.Bind.TheVariants.{Value, Capture, Param}
use Rattle.rule_names.specs.EnclosingScopes.{home_of}
use Rattle.rule_names.specs.Pieces.{AreInOrder, OfBody, OfConds, OfDisj, OfExpr, OfFile, OfLet, OfPart, OfQuery, OfRule, OfStep, Piece, piece_at}
use Rattle.rule_names.specs.Uses.{count_exprs, expr_in, expr_site}
use Rattle.rule_names.specs.WellNamed.{WellNamed}
use Rattle.rule_meaning.specs.Places.{step_in, steps_in}
use Rattle.evidence_rules.specs.CitedLines.{args_at, args_of_piece, body_of_rule, body_site, called_body, scope_of_part, scope_of_piece, scope_of_step}
use Rattle.scope_frames.specs.code.Cells.{arg_site, arg_site_at, slot_of}
use Rattle.scope_frames.specs.code.Frames.{AreEntered, IsPlain, MayEnter, StandsFor, scope_under}
use Rattle.scope_frames.specs.code.Scoping.{IsGivenIn}
use Rattle.scope_frames.specs.declared.frame.Frame.{Frame}
use Rattle.scope_frames.proofs.BodiesApart.{body-at, one-rule}
use Rattle.scope_frames.proofs.EnteredFrames.{has-frame}
use Rattle.scope_frames.proofs.RulesNamed.{calls-fit}

-- the call whose frame a frame is, with its argument of an index
pub record IsCallOf (file : File) (frames : List Frame) (at index : ℕ) : Type 0 where
  pub parent : ℕ
  pub site : ℕ
  pub current : Ref
  pub part : Part
  pub args : Exprs
  pub arg : Expr
  pub frame_is : slice_get frames at ≡ Some (record { parent = Some parent; site = site; current = current })
  pub piece_is : piece_at file site ≡ Some (OfPart part)
  pub args_are : args_at file site ≡ Some args
  pub arg_is : expr_in args index ≡ Some arg
  pub stands : StandsFor file frames parent (home_of file site)

arg-there : (es : Exprs) (i : ℕ) → i < count_exprs es → (e : Expr) × (expr_in es i ≡ Some e)
arg-there no_exprs i within = absurd (omega (arith, within))
arg-there (more_exprs e es) zero within = (e, refl)
arg-there (more_exprs e es) (suc i) within = arg-there es i (omega (arith, within))

-- ---- the frame of a rule's body

module _ (f : File) (well : WellNamed f) (ordered : AreInOrder f) (frames : List Frame) (entered : AreEntered f frames) (at index : ℕ) (r : Rule) (has : Contains f.rules r)
    (within : index < length r.params) (frame : Frame) (there : slice_get frames at ≡ Some frame) where
  -- a rule with parameters has no body that is entered as such
  not-plain : (site : ℕ) → IsPlain f site → body_site r.body ≡ site → ⊥
  not-plain site plain same =
      let none : length r.params ≡ 0 = ap length (plain r has same) in
      absurd (omega (arith, within, none))

  by-call : (parent n : ℕ) (negated : Bool) (name : List ℕ) (es : Exprs) (message : Option (List ℕ)) → frame.parent ≡ Some parent
      → piece_at f frame.site ≡ Some (OfPart (call n negated name es message)) → option_map body_site (called_body f frame.site) ≡ Some (body_site r.body)
      → StandsFor f frames parent (home_of f frame.site) → IsCallOf f frames at index
  by-call parent n negated name es message parent_is piece scope stands =
      let fit = calls-fit f well ordered frame.site n negated name es message piece in
      let called : called_body f frame.site ≡ Some fit.0.body =
      ap (option_and_then (λ (rule : ℕ). option_and_then body_of_rule (piece_at f rule))) fit.2 ∙ ap (option_and_then body_of_rule) fit.3 in
      let same : fit.0 ≡ r = one-rule f ordered fit.0 r fit.1 has (same_Some (body_site fit.0.body) (body_site r.body) (sym (ap (option_map body_site) called) ∙ scope)) in
      let long : length r.params ≡ count_exprs es = ap (λ (x : Rule). length x.params) (sym same) ∙ fit.4 in
      let arg = arg-there es index (omega (arith, within, long)) in
      record {
        parent = parent;
        site = frame.site;
        current = frame.current;
        part = call n negated name es message;
        args = es;
        arg = arg.0;
        frame_is = there ∙ ap (λ (p : Option ℕ). Some (record { parent = p; site = frame.site; current = frame.current })) parent_is;
        piece_is = piece;
        args_are = ap (option_and_then args_of_piece) piece;
        arg_is = arg.1;
        stands = stands;
      }

  by-part : (parent : ℕ) (part : Part) → frame.parent ≡ Some parent → piece_at f frame.site ≡ Some (OfPart part) → scope_of_part f frame.site part ≡ Some (body_site r.body)
      → StandsFor f frames parent (home_of f frame.site) → IsCallOf f frames at index
  by-part parent (call n negated name es message) parent_is piece scope stands = by-call parent n negated name es message parent_is piece scope stands
  by-part parent (block n any q b) parent_is piece scope stands = absurd (none-some (body_site r.body) scope)
  by-part parent (guarded n c b) parent_is piece scope stands = absurd (none-some (body_site r.body) scope)
  by-part parent (kinds n name c b) parent_is piece scope stands = absurd (none-some (body_site r.body) scope)
  by-part parent (test n any q op negated right message) parent_is piece scope stands = absurd (none-some (body_site r.body) scope)
  by-part parent (refer n negated name message) parent_is piece scope stands = absurd (none-some (body_site r.body) scope)

  by-step : (q : Query) (i : ℕ) (o : Option Step) → piece_at f frame.site ≡ Some (OfStep q i) → scope_of_step f frame.site o ≡ Some (body_site r.body) → ⊥
  by-step q i (Some (filter n capture c)) piece scope =
      let same : frame.site ≡ body_site r.body = same_Some frame.site (body_site r.body) scope in
      let two : Some (OfStep q i) ≡ Some (OfBody r.body) = sym piece ∙ ap (piece_at f) same ∙ body-at f ordered r has in
      step-no-body q i r.body two
    where
      step-no-body : (q : Query) (i : ℕ) (b : Body) → Some (OfStep q i) ≡ Some (OfBody b) → ⊥
      step-no-body q i b e = absurd cc
  by-step q i o piece scope = none-some (body_site r.body) scope

  by-piece : (parent : ℕ) (o : Option Piece) → frame.parent ≡ Some parent → piece_at f frame.site ≡ o → option_and_then (scope_of_piece f frame.site) o ≡ Some (body_site r.body)
      → MayEnter f frames (Some parent) frame.site → IsCallOf f frames at index
  by-piece parent None parent_is piece scope may = absurd (none-some (body_site r.body) scope)
  by-piece parent (Some (OfBody b)) parent_is piece scope may = absurd (not-plain frame.site may.2 (sym (same_Some frame.site (body_site r.body) scope)))
  by-piece parent (Some (OfStep q i)) parent_is piece scope may = absurd (by-step q i (step_in (steps_in q) i) piece scope)
  by-piece parent (Some (OfPart part)) parent_is piece scope may = by-part parent part parent_is piece scope may.0
  by-piece parent (Some OfFile) parent_is piece scope may = absurd (none-some (body_site r.body) scope)
  by-piece parent (Some (OfLet l)) parent_is piece scope may = absurd (none-some (body_site r.body) scope)
  by-piece parent (Some (OfRule x)) parent_is piece scope may = absurd (none-some (body_site r.body) scope)
  by-piece parent (Some (OfConds c)) parent_is piece scope may = absurd (none-some (body_site r.body) scope)
  by-piece parent (Some (OfDisj d)) parent_is piece scope may = absurd (none-some (body_site r.body) scope)
  by-piece parent (Some (OfQuery q)) parent_is piece scope may = absurd (none-some (body_site r.body) scope)
  by-piece parent (Some (OfExpr e)) parent_is piece scope may = absurd (none-some (body_site r.body) scope)

  file-no-body : (b : Body) → Some OfFile ≡ Some (OfBody b) → ⊥
  file-no-body b e = absurd cc

  by-parent : (parent : Option ℕ) → frame.parent ≡ parent → scope_under f frame.site parent ≡ Some (body_site r.body) → MayEnter f frames parent frame.site → IsCallOf f frames at index
  by-parent None parent_is scope may =
      let same : 0 ≡ body_site r.body = same_Some 0 (body_site r.body) scope in
      let two : Some OfFile ≡ Some (OfBody r.body) = ap (piece_at f) same ∙ body-at f ordered r has in
      absurd (file-no-body r.body two)
  by-parent (Some parent) parent_is scope may = by-piece parent (piece_at f frame.site) parent_is refl scope may

  pub call-of : scope_under f frame.site frame.parent ≡ Some (body_site r.body) → IsCallOf f frames at index
  call-of scope = by-parent frame.parent refl scope (entered at frame there).0

-- ---- slots

module _ (f : File) (well : WellNamed f) (ordered : AreInOrder f) (frames : List Frame) (entered : AreEntered f frames) (at scope : ℕ) (stands : StandsFor f frames at scope) where
  -- the call of a parameter
  pub call-given : (up index : ℕ) → IsGivenIn f scope (Param up index) → IsCallOf f frames at index
  call-given up index given =
      let here : StandsFor f frames at (body_site given.0.body) = subst (StandsFor f frames at) (sym given.2) stands in
      let it = has-frame f frames at (body_site given.0.body) here in
      call-of f well ordered frames entered at index given.0 given.1 given.3 it.0 it.1 it.2

  -- a parameter has its argument there
  pub arg-slot : (up index : ℕ) (c : IsCallOf f frames at index) → slot_of f frames at (Param up index) ≡ Some (expr_site c.arg)
  arg-slot up index c =
      ap (option_and_then (λ (frame : Frame). arg_site_at f frame.site index)) c.frame_is ∙ ap (option_and_then (arg_site index)) c.args_are ∙ ap (option_map expr_site) c.arg_is

  -- what gives a name in the scope of a frame has a slot there
  pub slot-there : (b : Bind) → IsGivenIn f scope b → (slot : ℕ) × (slot_of f frames at b ≡ Some slot)
  slot-there (Value up site) given = (site, refl)
  slot-there (Capture up step) given = (step, refl)
  slot-there (Param up index) given = let c = call-given up index given in (expr_site c.arg, arg-slot up index c)
