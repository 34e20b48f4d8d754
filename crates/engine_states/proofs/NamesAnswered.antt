-- What the use of a variable answers, by the name that it means: the expression of a let, what a step captures, or an argument of the call whose frame the scope's frame is.
use Rattle.std.proofs.Common.{◌≡◌, ℕ, zero, suc, ◌++◌, ◌*◌, ◌<◌, ◌≤◌, refl, sym, ap, ◌∙◌, subst, inl, inr, arith, slice_get, List, [], ◌∷◌, length, map, Option, Some, None, option_and_then, option_map}
use Rattle.std.specs.Option.{option_map_or}
use Rattle.std.specs.Prelude.{IsSome}
use Rattle.std.proofs.lemmas.Option.{none-some, same_Some}
use Rattle.evidence_lines.specs.declared.line.Line.{Line}
use Rattle.evidence_lines.specs.declared.line.LineKind.TheVariants as kind
use Rattle.evidence_lines.specs.declared.line.Outcome.TheVariants as says
use Rattle.guard_syntax.specs.Syntax.{Expr, Exprs, File, Query, Step, splice, var}
use Rattle.guard_syntax.specs.code.Seen.{see_expr, see_query, see_step, step_list}
use Rattle.guard_syntax.specs.declared.row.Ref.{Ref}
use Rattle.guard_syntax.specs.declared.row.Row.{Row}
use Rattle.guard_syntax.specs.declared.syntax.Expr as code
use Rattle.guard_syntax.specs.declared.syntax.Query as code_query
use Rattle.guard_syntax.specs.declared.syntax.Query.{out-Query}
use Rattle.guard_syntax.specs.declared.syntax.Step as item
use Rattle.rule_names.specs.declared.bind.Bind.{Bind}
use Rattle.rule_names.specs.declared.bind.Bind.TheVariants.{Value, Capture, Param}
use Rattle.rule_names.specs.Depths.{depth_bound, depth_step, depths_of}
use Rattle.rule_names.specs.Pieces.{AreInOrder, OfExpr, OfQuery, OfStep, Piece, piece_at}
use Rattle.rule_names.specs.ReferenceGraph.{step_site}
use Rattle.rule_names.specs.Resolution.{bind_of}
use Rattle.rule_names.specs.Uses.{expr_in, query_site}
use Rattle.rule_names.specs.WellNamed.{WellNamed}
use Rattle.rule_names.proofs.Shapes.{query-seen}
use Rattle.rule_meaning.specs.Places.{step_in, steps_in}
use Rattle.evidence_rules.specs.CitedLines.{GivesPiece, IsLine, args_at}
use Rattle.scope_frames.specs.code.Cells.{cell_by, cell_in, cell_of, slot_of}
use Rattle.scope_frames.specs.code.Frames.{outwards}
use Rattle.scope_frames.specs.code.Scoping.{up_of}
use Rattle.scope_frames.specs.declared.cell.Cell.{Cell}
use Rattle.scope_frames.specs.declared.frame.Frame.{Frame}
use Rattle.engine_states.specs.code.Adding.{Added, line_for}
use Rattle.engine_states.specs.code.Answers.{AnswersArgument, AnswersCapture, AnswersExpr, AnswersPiece, AnswersQuery, AnswersStepAt, AnswersVariable, GivesStepAt, IsCapturing, IsLetValue, IsParameter, IsUse, StandsIn, StandsUpTo, above, argument_bound, bound_of}
use Rattle.engine_states.specs.code.Evaluated.{Evaluates}
use Rattle.engine_states.specs.code.Falling.{above_step, height_at, height_beside}
use Rattle.engine_states.specs.code.Inside.{expr_sited, query_sited}
use Rattle.engine_states.specs.code.Kinds.{kind_beside}
use Rattle.engine_states.specs.code.States.{IsWhole, State}
use Rattle.engine_states.proofs.Evaluating.{Evaluates-beside, Evaluates-found, same-file}
use Rattle.engine_states.proofs.Finished.{line-there}
use Rattle.engine_states.proofs.InPart.{in-frame, stands-still}
use Rattle.engine_states.proofs.NamesFall.{capture-lower, capture-stands, value-lower, value-stands}
use Rattle.engine_states.proofs.ParametersFall.{argument-lower, argument-stands, call-there}
use Rattle.engine_states.proofs.Ranks.{rank_in, rank-below, step_place}
use Rattle.engine_states.proofs.SaidStays.{IsLine-pushed}
use Rattle.engine_states.proofs.Shaped.{beside-rows}
use Rattle.engine_states.proofs.SitesOwn.{own-expr-site, own-query-site, own-step-site}
use Rattle.engine_states.proofs.StepsInTurn.{place-of-step}
use Rattle.engine_states.proofs.VariablesNamed.{splice-bound, variable-bound}
use Rattle.engine_states.proofs.VariablesSaid.{argument-said, capture-said, framed-later, let-said, parameter-said}

-- ---- the cell of a name

-- it is one of the frame so many frames further out
cell-frame : (f : File) (frames : List Frame) (frame site : ℕ) (cell : Cell) (b : Bind) → cell_of f frames frame site ≡ Some cell → bind_of f site ≡ Some b
    → outwards f frames (up_of b) frame ≡ Some cell.frame
cell-frame f frames frame site cell b is means = out (outwards f frames (up_of b) frame) refl (sym (ap (option_and_then (cell_by f frames frame)) means) ∙ is)
  where
    slot : (n : ℕ) → outwards f frames (up_of b) frame ≡ Some n → (o : Option ℕ) → option_map (λ (at : ℕ). record { frame = n; slot = at }) o ≡ Some cell
        → outwards f frames (up_of b) frame ≡ Some cell.frame
    slot n at None e = absurd (none-some cell e)
    slot n at (Some k) e = at ∙ ap (λ (x : Cell). Some x.frame) (same_Some (record { frame = n; slot = k }) cell e)

    out : (o : Option ℕ) → outwards f frames (up_of b) frame ≡ o → option_and_then (cell_in f frames b) o ≡ Some cell → outwards f frames (up_of b) frame ≡ Some cell.frame
    out None at e = absurd (none-some cell e)
    out (Some n) at e = slot n at (slot_of f frames n b) e

-- the bound of an argument
pub argument-bound : (s : State) (frame index parent site : ℕ) (current : Ref) (es : Exprs) (e : Expr) → slice_get s.frames frame ≡ Some (record { parent = Some parent; site = site; current = current })
    → args_at s.known.file site ≡ Some es → expr_in es index ≡ Some e → argument_bound s frame index ≡ above s parent (expr_sited e).0
argument-bound s frame index parent site current es e frame_is args_are arg_is =
    ap (λ (o : Option Frame). option_map_or (λ (f : Frame). bound_of s f.parent (option_and_then (λ (xs : Exprs). expr_in xs index) (args_at s.known.file f.site))) o 0) frame_is
    ∙ ap (λ (o : Option Exprs). bound_of s (Some parent) (option_and_then (λ (xs : Exprs). expr_in xs index) o)) args_are
    ∙ ap (bound_of s (Some parent)) arg_is

-- ---- the use of a variable

module _ (s : State) (whole : IsWhole s) (well : WellNamed s.known.file) (ordered : AreInOrder s.known.file) (frame site : ℕ) (used : IsUse s frame site) where
  abbrev Use : Type 0
  Use =
      (q : Query) × (i : ℕ) × (p : Step) × StandsIn s frame (site, OfStep q i) × (step_in (steps_in q) i ≡ Some p)
      × (depth_step s.known.file (depths_of s.known.file) p ≡ suc (depth_bound s.known.file (depths_of s.known.file) (bind_of s.known.file site))) × IsSome (bind_of s.known.file site)

  use_it : Use
  use_it = elim used [
    | inl v ↦ (v.1.0, v.1.1, var site v.0, v.1.2, v.1.3, refl, variable-bound s.known.file well ordered site v.1.0 v.1.1 v.1.2.there site v.0 v.1.3)
    | inr v ↦ (v.1.0, v.1.1, splice site v.0, v.1.2, v.1.3, refl, splice-bound s.known.file well ordered site v.1.0 v.1.1 v.1.2.there site v.0 v.1.3)
  ]

  pub use-bound : IsSome (bind_of s.known.file site)
  use-bound = use_it.6

  -- it stands in a frame of the scope of its site
  pub use-stands : (q : Query) × (i : ℕ) × StandsIn s frame (site, OfStep q i)
  use-stands = (use_it.0, use_it.1, use_it.3)

  framed-here : (at : ℕ) × (slice_get s.framed frame ≡ Some at)
  framed-here = line-there s whole frame _ use_it.3.scope_is

  module _ (cell : Cell) (is : cell_of s.known.file s.frames frame site ≡ Some cell) where
    -- a let
    module _ (up value : ℕ) (means : bind_of s.known.file site ≡ Some (Value up value)) where
      let-out : outwards s.known.file s.frames up frame ≡ Some cell.frame
      let-out = cell-frame s.known.file s.frames frame site cell (Value up value) is means

      pub let-stands : IsLetValue s cell.frame value
      let-stands =
          let u = use_it in
          value-stands s whole well ordered frame site u.0 u.1 u.3 u.2 u.4 u.5 up value cell.frame means let-out

      let-below : suc (height_at s.known.file s.frames cell.frame value) ≤ height_at s.known.file s.frames frame site
      let-below =
          let u = use_it in
          value-lower s whole well ordered frame site u.0 u.1 u.3 u.2 u.4 u.5 up value cell.frame means let-out

      pub let-rank : (t : ℕ) → rank_in s frame site 1 ≡ t → rank_in s cell.frame value 6 < t
      let-rank t owed = let low = let-below in rank-below s s frame cell.frame site value 1 6 t owed (omega (arith, low)) (omega arith)

      pub let-answer : (b : State) (number : ℕ) → AnswersPiece s b cell.frame value number → AnswersVariable s b frame site number
      let-answer b number it =
          let here = framed-here in
          let-said s b whole frame here.0 site cell.frame number (above s cell.frame value) up here.1 let-out let-below value means it

    -- a capture
    module _ (up step : ℕ) (means : bind_of s.known.file site ≡ Some (Capture up step)) where
      captured-out : outwards s.known.file s.frames up frame ≡ Some cell.frame
      captured-out = cell-frame s.known.file s.frames frame site cell (Capture up step) is means

      pub captured-stands : IsCapturing s cell.frame step
      captured-stands =
          let u = use_it in
          capture-stands s whole well ordered frame site u.0 u.1 u.3 u.2 u.4 u.5 up step cell.frame means captured-out

      captured-below : suc (height_beside s.known.file s.frames cell.frame step) ≤ height_at s.known.file s.frames frame site
      captured-below =
          let u = use_it in
          capture-lower s whole well ordered frame site u.0 u.1 u.3 u.2 u.4 u.5 up step cell.frame means captured-out

      pub captured-rank : (t : ℕ) → rank_in s frame site 1 ≡ t → rank_in s cell.frame step 4 < t
      captured-rank t owed =
          let low = captured-below in
          let beside : height_beside s.known.file s.frames cell.frame step ≡ suc (height_at s.known.file s.frames cell.frame step) =
          ap (λ (o : Option Piece). above_step o (height_at s.known.file s.frames cell.frame step)) captured-stands.2.there in
          rank-below s s frame cell.frame site step 1 4 t owed (omega (arith, low, beside)) (omega arith)

      pub captured-answer : (b : State) (number : ℕ) → AnswersCapture s b cell.frame step number → AnswersVariable s b frame site number
      captured-answer b number it =
          let here = framed-here in
          capture-said s b whole frame here.0 site cell.frame number (suc (height_beside s.known.file s.frames cell.frame step)) up here.1 captured-out captured-below step
          means it

    -- a parameter
    module _ (up index : ℕ) (means : bind_of s.known.file site ≡ Some (Param up index)) where
      param-out : outwards s.known.file s.frames up frame ≡ Some cell.frame
      param-out = cell-frame s.known.file s.frames frame site cell (Param up index) is means

      pub param-stands : IsParameter s cell.frame index
      param-stands =
          let u = use_it in
          let c = call-there s whole well ordered frame site u.0 u.1 u.3 u.2 u.4 u.5 up index cell.frame means param-out in
          let stands = argument-stands s whole well ordered frame site u.0 u.1 u.3 u.2 u.4 u.5 up index cell.frame means param-out in
          (c.parent, c.site, c.current, c.args, c.arg, c.frame_is, c.args_are, c.arg_is, stands)

      param-bound : argument_bound s cell.frame index ≤ height_at s.known.file s.frames frame site
      param-bound =
          let u = use_it in
          let c = call-there s whole well ordered frame site u.0 u.1 u.3 u.2 u.4 u.5 up index cell.frame means param-out in
          let low = argument-lower s whole well ordered frame site u.0 u.1 u.3 u.2 u.4 u.5 up index cell.frame means param-out in
          let is_bound = argument-bound s cell.frame index c.parent c.site c.current c.args c.arg c.frame_is c.args_are c.arg_is in
          omega (arith, low, is_bound)

      pub param-rank : (t : ℕ) → rank_in s frame site 1 ≡ t → argument_bound s cell.frame index * 8 < t
      param-rank t owed = let low = param-bound in omega (arith, low, owed)

      pub param-answer : (b : State) (number : ℕ) → AnswersArgument s b cell.frame (argument_bound s cell.frame index) index number → AnswersVariable s b frame site number
      param-answer b number it =
          let here = framed-here in
          parameter-said s b whole frame here.0 site cell.frame number (argument_bound s cell.frame index) up here.1 param-out param-bound index means it

-- ---- the expression of a let

module _ (s : State) (frame site : ℕ) where
  module _ (x : code.Expr) (is : piece_at s.known.file site ≡ Some (OfExpr (see_expr x))) where
    own-expr : expr_sited (see_expr x) ≡ (site, OfExpr (see_expr x))
    own-expr = own-expr-site s.known.file site (see_expr x) is

    same-site : (expr_sited (see_expr x)).0 ≡ site
    same-site = ap (λ (o : ℕ × Piece). o.0) own-expr

    pub value-expr-stands : IsLetValue s frame site → StandsIn s frame (expr_sited (see_expr x))
    value-expr-stands value =
        let same : value.1 ≡ OfExpr (see_expr x) = same_Some value.1 (OfExpr (see_expr x)) (sym value.2.there ∙ is) in
        subst (StandsIn s frame) (sym own-expr) (subst (λ (p : Piece). StandsIn s frame (site, p)) same value.2)

    pub value-expr-rank : (t : ℕ) → rank_in s frame site 6 ≡ t → rank_in s frame (expr_sited (see_expr x)).0 5 < t
    value-expr-rank t owed = subst (λ (n : ℕ). rank_in s frame n 5 < t) (sym same-site) (omega (arith, owed))

    pub value-expr-answer : (b : State) (number : ℕ) → b.known.file ≡ s.known.file → AnswersExpr s b frame (see_expr x) number → AnswersPiece s b frame site number
    value-expr-answer b number file it = record {
      evaluates = subst (λ (n : ℕ). Evaluates s b (above s frame n) (number ∷ [])) same-site it.evaluates;
      at = it.at;
      framed = it.framed;
      says = (
        it.says.0,
        subst (λ (o : Option Piece). GivesPiece b.known.file b.lines it.at o number it.says.0) (sym (ap (λ (f : File). piece_at f site) file ∙ is)) it.says.1,
      );
    }

  module _ (q : code_query.Query) (is : piece_at s.known.file site ≡ Some (OfQuery (see_query q))) where
    same-query : query_site (see_query q) ≡ site
    same-query = own-query-site s.known.file site (see_query q) is

    pub value-query-stands : IsLetValue s frame site → StandsIn s frame (query_sited (see_query q))
    value-query-stands value =
        let same : value.1 ≡ OfQuery (see_query q) = same_Some value.1 (OfQuery (see_query q)) (sym value.2.there ∙ is) in
        subst (λ (n : ℕ). StandsIn s frame (n, OfQuery (see_query q))) (sym same-query) (subst (λ (p : Piece). StandsIn s frame (site, p)) same value.2)

    pub value-query-rank : (t : ℕ) → rank_in s frame site 6 ≡ t → rank_in s frame (query_site (see_query q)) 4 < t
    value-query-rank t owed = subst (λ (n : ℕ). rank_in s frame n 4 < t) (sym same-query) (omega (arith, owed))

    pub value-query-answer : (b : State) (number : ℕ) → b.known.file ≡ s.known.file → AnswersQuery s b frame (see_query q) number → AnswersPiece s b frame site number
    value-query-answer b number file it = record {
      evaluates = subst (λ (n : ℕ). Evaluates s b (above s frame n) (number ∷ [])) same-query it.evaluates;
      at = it.at;
      framed = it.framed;
      says = (
        it.says.0,
        subst (λ (o : Option Piece). GivesPiece b.known.file b.lines it.at o number it.says.0) (sym (ap (λ (f : File). piece_at f site) file ∙ is)) it.says.1,
      );
    }

-- ---- what a step captures

step-counted : (xs : List item.Step) (i : ℕ) (p : Step) → step_in (step_list (map see_step xs)) i ≡ Some p → i < length xs
step-counted [] i p is = absurd (none-some p is)
step-counted (x ∷ xs) zero p is = omega arith
step-counted (x ∷ xs) (suc i) p is = let rest = step-counted xs i p is in omega (arith, rest)

module _ (s : State) (whole : IsWhole s) (frame site : ℕ) (capturing : IsCapturing s frame site) where
  capture-kind : kind_beside (piece_at s.known.file site) ≡ Some kind.Capture
  capture-kind = ap kind_beside capturing.2.there

  capture-frame : frame < length s.frames
  capture-frame = in-frame s whole frame (site, OfStep capturing.0 capturing.1) capturing.2

  -- it was found
  pub capture-found : (line : ℕ) → s.beside frame site ≡ Some line → AnswersCapture s s frame site line
  capture-found line is =
      let it = beside-rows s whole frame site line kind.Capture refl is capture-kind in
      record { evaluates = Evaluates-found s (suc (height_beside s.known.file s.frames frame site)) line whole; at = it.0; framed = it.2; says = (it.1, it.3) }

  module _ (q : code_query.Query) (i : ℕ) (is : piece_at s.known.file site ≡ Some (OfStep (see_query q) i)) where
    asked_step : (p : Step) × (step_in (steps_in (see_query q)) i ≡ Some p) × (step_site p ≡ site)
    asked_step = own-step-site s.known.file site (see_query q) i is

    pub capture-steps : StandsUpTo s frame (see_query q) i
    capture-steps =
        let it = asked_step in
        let same : OfStep capturing.0 capturing.1 ≡ OfStep (see_query q) i = same_Some (OfStep capturing.0 capturing.1) (OfStep (see_query q) i) (sym capturing.2.there ∙ is) in
        (it.0, it.1, subst (λ (n : ℕ). StandsIn s frame (n, OfStep (see_query q) i)) (sym it.2) (subst (λ (p : Piece). StandsIn s frame (site, p)) same capturing.2))

    pub capture-within : i < length (out-Query q).steps.items
    capture-within =
        let it = asked_step in
        step-counted (out-Query q).steps.items i it.0 (sym (ap (λ (x : Query). step_in (steps_in x) i) (query-seen q)) ∙ it.1)

    pub capture-rank : (t : ℕ) → rank_in s frame site 4 ≡ t → rank_in s frame (step_place (see_query q) i) 3 < t
    capture-rank t owed =
        let it = asked_step in
        let place : step_place (see_query q) i ≡ site = place-of-step (see_query q) i it.0 it.1 ∙ it.2 in
        subst (λ (n : ℕ). rank_in s frame n 3 < t) (sym place) (omega (arith, owed))

    -- behind the line of the step
    module _ (b : State) (line : ℕ) (it : AnswersStepAt s b frame (see_query q) i line) where
      same-step : step_site it.0 ≡ site
      same-step =
          let own = asked_step in
          ap step_site (same_Some it.0 own.0 (sym it.1 ∙ own.1)) ∙ own.2

      beside-here : height_beside s.known.file s.frames frame site ≡ suc (height_at s.known.file s.frames frame site)
      beside-here = ap (λ (o : Option Piece). above_step o (height_at s.known.file s.frames frame site)) is

      bound-here : above s frame (step_site it.0) ≡ height_beside s.known.file s.frames frame site
      bound-here = ap (above s frame) same-step ∙ sym beside-here

      pub capture-absent : s.beside frame site ≡ None → b.beside frame site ≡ None
      capture-absent none =
          let bound = bound-here in
          it.2.evaluates.beside frame site capture-frame (omega (arith, bound)) ∙ none

      pub capture-still : IsCapturing b frame site
      capture-still = (
        capturing.0,
        capturing.1,
        stands-still s whole frame (site, OfStep capturing.0 capturing.1) capturing.2 b (above s frame (step_site it.0)) (line ∷ []) it.2.evaluates,
        capturing.3,
      )

      pub capture-gives : GivesStepAt b frame site line
      capture-gives = (
        see_query q,
        i,
        it.0,
        ap (λ (f : File). piece_at f site) (same-file s b it.2.evaluates.grows whole) ∙ is,
        it.1,
        it.2.at,
        it.2.framed,
        it.2.says.0,
        it.2.says.1,
      )

      pub capture-answer : (c : State) (number : ℕ) (rows : List Row) → Added b c frame site kind.Capture (line ∷ []) (says.Rows rows) number → AnswersCapture s c frame site number
      capture-answer c number rows added =
          let bound = bound-here in
          let kind_now : kind_beside (piece_at b.known.file site) ≡ Some kind.Capture =
          ap (λ (f : File). kind_beside (piece_at f site)) (same-file s b it.2.evaluates.grows whole) ∙ capture-kind in
          record {
            evaluates = Evaluates-beside s b c whole (above s frame (step_site it.0)) frame site number kind.Capture (line ∷ []) (says.Rows rows) (line ∷ []) [] (omega (arith, bound)) kind_now
                it.2.evaluates added (λ n behind among. inl (inl among));
            at = added.at;
            framed = framed-later b c added.grows it.2.evaluates.whole frame added.at added.framed;
            says = (
              rows,
              subst (λ (ls : List Line). IsLine ls number kind.Capture added.at site (says.Rows rows)) (sym added.lines)
                  (subst (λ (n : ℕ). IsLine (b.lines ++ line_for added.at site kind.Capture (line ∷ []) (says.Rows rows) ∷ []) n kind.Capture added.at site (says.Rows rows)) (sym added.number_is)
                  (IsLine-pushed b.lines (line_for added.at site kind.Capture (line ∷ []) (says.Rows rows)) kind.Capture added.at site (says.Rows rows) refl refl refl refl)),
            );
          }

-- ---- an argument

module _ (s : State) (whole : IsWhole s) (frame index : ℕ) (parameter : IsParameter s frame index) (caller : ℕ) (x : Expr) (in_caller : parameter.0 ≡ caller) (is_arg : parameter.4 ≡ x) where
  pub param-arg-stands : StandsIn s caller (expr_sited x)
  param-arg-stands = subst (λ (n : ℕ). StandsIn s n (expr_sited x)) in_caller (subst (λ (e : Expr). StandsIn s parameter.0 (expr_sited e)) is_arg parameter.8)

  framed-so : slice_get s.frames frame ≡ Some (record { parent = Some caller; site = parameter.1; current = parameter.2 })
  framed-so = subst (λ (n : ℕ). slice_get s.frames frame ≡ Some (record { parent = Some n; site = parameter.1; current = parameter.2 })) in_caller parameter.5

  arg-so : expr_in parameter.3 index ≡ Some x
  arg-so = parameter.7 ∙ ap Some is_arg

  bound-told : argument_bound s frame index ≡ above s caller (expr_sited x).0
  bound-told = argument-bound s frame index caller parameter.1 parameter.2 parameter.3 x framed-so parameter.6 arg-so

  pub param-arg-rank : (t : ℕ) → argument_bound s frame index * 8 ≡ t → rank_in s caller (expr_sited x).0 5 < t
  param-arg-rank t owed = let told = bound-told in omega (arith, told, owed)

  pub param-arg-answer : (b : State) (number here : ℕ) → slice_get s.framed frame ≡ Some here → AnswersExpr s b caller x number
      → AnswersArgument s b frame (argument_bound s frame index) index number
  param-arg-answer b number here framed it =
      subst (λ (n : ℕ). AnswersArgument s b frame n index number) (sym bound-told)
      (argument-said s b whole frame here caller parameter.1 number (above s caller (expr_sited x).0) parameter.2 framed framed-so parameter.3 parameter.6 index x arg-so it)
