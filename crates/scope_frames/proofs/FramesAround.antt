-- The frames around a frame stand for the scopes around its scope.
use Rattle.std.proofs.Common.{◌≡◌, ℕ, zero, suc, ◌<◌, refl, sym, subst, ap, ◌∙◌, arith, slice_get, List, Option, Some, None, option_and_then}
use Rattle.std.specs.Prelude.{option_map}
use Rattle.std.proofs.lemmas.Option.{same_Some, none-some}
use Rattle.guard_syntax.specs.Syntax.{Body, Exprs, File, Part, Step, block, guarded, kinds, test, refer, call, this, var, key, index, every, items, splice, filter, keys}
use Rattle.rule_names.specs.EnclosingScopes.{home_of}
use Rattle.rule_names.specs.Pieces.{Piece, OfFile, OfLet, OfRule, OfBody, OfConds, OfDisj, OfPart, OfQuery, OfStep, OfExpr, piece_at}
use Rattle.rule_meaning.specs.Places.{step_in, steps_in}
use Rattle.evidence_rules.specs.CitedLines.{args_at, args_of_part, args_of_piece, body_site, called_body, scope_of_part, scope_of_piece, scope_of_step}
use Rattle.scope_frames.specs.code.Frames.{AreEntered, IsBefore, MayEnter, StandsFor, outer_by, outer_of, outwards, past_parent, root_of, scope_under}
use Rattle.scope_frames.specs.code.Scoping.{HasAround, scope_around}
use Rattle.scope_frames.specs.declared.frame.Frame.{Frame}
use Rattle.scope_frames.proofs.EnteredFrames.{has-frame, stands-for}

-- the body of a rule of the file stands in the file's scope
abbrev pub BodiesInFile : File → Type 0
BodiesInFile file = (site : ℕ) (b : Body) → called_body file site ≡ Some b → home_of file (body_site b) ≡ 0

module _ (file : File) (bodies : BodiesInFile file) where
  -- ---- the scope of a site that is no call is the site itself, and that of a call is the body of a rule

  at-step : (site scope : ℕ) (step : Option Step) → scope_of_step file site step ≡ Some scope → site ≡ scope
  at-step site scope None e = absurd (none-some scope e)
  at-step site scope (Some (this n)) e = absurd (none-some scope e)
  at-step site scope (Some (var n name)) e = absurd (none-some scope e)
  at-step site scope (Some (key n name)) e = absurd (none-some scope e)
  at-step site scope (Some (index n i)) e = absurd (none-some scope e)
  at-step site scope (Some (every n)) e = absurd (none-some scope e)
  at-step site scope (Some (items n)) e = absurd (none-some scope e)
  at-step site scope (Some (splice n name)) e = absurd (none-some scope e)
  at-step site scope (Some (filter n capture c)) e = same_Some site scope e
  at-step site scope (Some (keys n capture op negated right)) e = absurd (none-some scope e)

  at-part : (site scope : ℕ) (p : Part) → scope_of_part file site p ≡ Some scope → args_of_part p ≡ None → site ≡ scope
  at-part site scope (block n any q b) e none = absurd (none-some scope e)
  at-part site scope (guarded n c b) e none = absurd (none-some scope e)
  at-part site scope (kinds n name c b) e none = absurd (none-some scope e)
  at-part site scope (test n any q op negated right message) e none = absurd (none-some scope e)
  at-part site scope (refer n negated name message) e none = absurd (none-some scope e)
  at-part site scope (call n negated name es message) e none = absurd (none-some es (sym none))

  at-piece : (site scope : ℕ) (o : Option Piece) → option_and_then (scope_of_piece file site) o ≡ Some scope → option_and_then args_of_piece o ≡ None → site ≡ scope
  at-piece site scope None e none = absurd (none-some scope e)
  at-piece site scope (Some OfFile) e none = absurd (none-some scope e)
  at-piece site scope (Some (OfLet l)) e none = absurd (none-some scope e)
  at-piece site scope (Some (OfRule r)) e none = absurd (none-some scope e)
  at-piece site scope (Some (OfBody b)) e none = same_Some site scope e
  at-piece site scope (Some (OfConds c)) e none = absurd (none-some scope e)
  at-piece site scope (Some (OfDisj d)) e none = absurd (none-some scope e)
  at-piece site scope (Some (OfPart p)) e none = at-part site scope p e none
  at-piece site scope (Some (OfQuery q)) e none = absurd (none-some scope e)
  at-piece site scope (Some (OfStep q i)) e none = at-step site scope (step_in (steps_in q) i) e
  at-piece site scope (Some (OfExpr x)) e none = absurd (none-some scope e)

  called-site : (site scope : ℕ) (o : Option Body) → called_body file site ≡ o → option_map body_site o ≡ Some scope → home_of file scope ≡ 0
  called-site site scope None is e = absurd (none-some scope e)
  called-site site scope (Some b) is e = ap (home_of file) (sym (same_Some (body_site b) scope e)) ∙ bodies site b is

  call-part : (site scope : ℕ) (p : Part) (args : Exprs) → scope_of_part file site p ≡ Some scope → args_of_part p ≡ Some args → home_of file scope ≡ 0
  call-part site scope (block n any q b) args e some = absurd (none-some scope e)
  call-part site scope (guarded n c b) args e some = absurd (none-some scope e)
  call-part site scope (kinds n name c b) args e some = absurd (none-some scope e)
  call-part site scope (test n any q op negated right message) args e some = absurd (none-some scope e)
  call-part site scope (refer n negated name message) args e some = absurd (none-some scope e)
  call-part site scope (call n negated name es message) args e some = called-site site scope (called_body file site) refl e

  call-piece : (site scope : ℕ) (o : Option Piece) (args : Exprs) → option_and_then (scope_of_piece file site) o ≡ Some scope → option_and_then args_of_piece o ≡ Some args → home_of file scope ≡ 0
  call-piece site scope None args e some = absurd (none-some scope e)
  call-piece site scope (Some OfFile) args e some = absurd (none-some scope e)
  call-piece site scope (Some (OfLet l)) args e some = absurd (none-some scope e)
  call-piece site scope (Some (OfRule r)) args e some = absurd (none-some scope e)
  call-piece site scope (Some (OfBody b)) args e some = absurd (none-some args some)
  call-piece site scope (Some (OfConds c)) args e some = absurd (none-some scope e)
  call-piece site scope (Some (OfDisj d)) args e some = absurd (none-some scope e)
  call-piece site scope (Some (OfPart p)) args e some = call-part site scope p args e some
  call-piece site scope (Some (OfQuery q)) args e some = absurd (none-some scope e)
  call-piece site scope (Some (OfStep q i)) args e some = absurd (none-some args some)
  call-piece site scope (Some (OfExpr x)) args e some = absurd (none-some scope e)

  module _ (frames : List Frame) (are : AreEntered file frames) where
    -- ---- the file's frame

    abbrev Rooted : (most n : ℕ) → Type 0
    Rooted most n = (at : ℕ) × (root_of frames most n ≡ Some at) × StandsFor file frames at 0

    rooted-by : (most n : ℕ) (frame : Frame) (parent : Option ℕ) → n < suc most → slice_get frames n ≡ Some frame → frame.parent ≡ parent
        → ((p : ℕ) (f : Frame) → p < most → slice_get frames p ≡ Some f → Rooted most p) → Rooted (suc most) n
    rooted-by most n frame None less is given further = (
      n,
      ap (option_and_then (λ (f : Frame). past_parent (root_of frames most) n f.parent)) is ∙ ap (past_parent (root_of frames most) n) given,
      stands-for file frames n 0 frame is (ap (scope_under file frame.site) given),
    )
    rooted-by most n frame (Some p) less is given further =
        let entered = are n frame is in
        let may : MayEnter file frames (Some p) frame.site = subst (λ (o : Option ℕ). MayEnter file frames o frame.site) given entered.0 in
        let before : p < n = subst (λ (o : Option ℕ). IsBefore file o n) given entered.1 in
        let up = has-frame file frames p (home_of file frame.site) may.0 in
        let rest = further p up.0 (omega (arith, less, before)) up.1 in
        (rest.0, ap (option_and_then (λ (f : Frame). past_parent (root_of frames most) n f.parent)) is ∙ ap (past_parent (root_of frames most) n) given ∙ rest.1, rest.2)

    -- each frame comes to one without a parent, in no more steps than its number and one
    rooted : (most n : ℕ) (frame : Frame) → n < most → slice_get frames n ≡ Some frame → Rooted most n
    rooted zero n frame less is = absurd (omega (arith, less))
    rooted (suc most) n frame less is = rooted-by most n frame frame.parent less is refl (λ p f before there. rooted most p f before there)

    -- ---- one frame out

    abbrev pub OneOut : ℕ → ℕ → Type 0
    OneOut n scope = (at : ℕ) × (outer_of file frames n ≡ Some at) × StandsFor file frames at (home_of file scope)

    out-by : (n scope : ℕ) (frame : Frame) (parent : Option ℕ) (args : Option Exprs) → slice_get frames n ≡ Some frame → (scope ≡ 0 → ⊥) → frame.parent ≡ parent
        → args_at file frame.site ≡ args → scope_under file frame.site parent ≡ Some scope → MayEnter file frames parent frame.site
        → outer_of file frames n ≡ outer_by file frames n parent args → OneOut n scope
    out-by n scope frame None args is some above given of may here = absurd (some (sym (same_Some 0 scope of)))
    out-by n scope frame (Some p) None is some above given of may here =
        let same = at-piece frame.site scope (piece_at file frame.site) of given in
        (p, here, subst (λ (s : ℕ). StandsFor file frames p (home_of file s)) same may.0)
    out-by n scope frame (Some p) (Some args) is some above given of may here =
        let home = call-piece frame.site scope (piece_at file frame.site) args of given in
        let root = rooted (suc n) n frame (omega arith) is in
        (root.0, here ∙ root.1, subst (StandsFor file frames root.0) (sym home) root.2)

    one-out : (n scope : ℕ) → StandsFor file frames n scope → (scope ≡ 0 → ⊥) → OneOut n scope
    one-out n scope stands some =
        let it = has-frame file frames n scope stands in
        out-by n scope it.0 it.0.parent (args_at file it.0.site) it.1 some refl refl it.2 (are n it.0 it.1).0
        (ap (option_and_then (λ (f : Frame). outer_by file frames n f.parent (args_at file f.site))) it.1)

    -- ---- so many frames out

    pub so-many-out : (up n scope : ℕ) → StandsFor file frames n scope → HasAround file up scope
        → (at : ℕ) × (outwards file frames up n ≡ Some at) × StandsFor file frames at (scope_around file up scope)
    so-many-out zero n scope stands around = (n, refl, stands)
    so-many-out (suc up) n scope stands around =
        let one = one-out n scope stands around.0 in
        let rest = so-many-out up one.0 (home_of file scope) one.2 around.1 in
        (rest.0, ap (option_and_then (outwards file frames up)) one.1 ∙ rest.1, rest.2)
