-- What a variable means is said where it is used: by what the frame so many frames further out says, of a let, a capture or an argument.
use Rattle.std.proofs.Common.{◌≡◌, ℕ, ◌≤◌, sym, ap, ◌∙◌, slice_get, List, [], ◌∷◌, Some}
use Rattle.std.proofs.lemmas.Option.{same_Some}
use Rattle.evidence_lines.specs.declared.line.Line.{Line}
use Rattle.evidence_lines.specs.declared.line.LineKind.TheVariants as kind
use Rattle.evidence_lines.specs.declared.line.Outcome.TheVariants as says
use Rattle.evidence_lines.specs.declared.version.Version.TheVariants.{Two}
use Rattle.guard_syntax.specs.Syntax.{Expr, Exprs, File}
use Rattle.guard_syntax.specs.declared.row.Ref.{Ref}
use Rattle.guard_syntax.specs.declared.row.Row.{Row}
use Rattle.rule_names.specs.declared.bind.Bind.{Bind}
use Rattle.rule_names.specs.declared.bind.Bind.TheVariants.{Value, Capture, Param}
use Rattle.rule_names.specs.Pieces.{piece_at}
use Rattle.rule_names.specs.Resolution.{bind_of}
use Rattle.rule_names.specs.Uses.{expr_in}
use Rattle.evidence_rules.specs.CitedLines.{GivesArgument, GivesExpr, GivesPiece, GivesVariable, IsLine, args_at}
use Rattle.evidence_rules.specs.CitedLines as cited
use Rattle.evidence_rules.specs.Follows.{nothing_made}
use Rattle.scope_frames.specs.code.Frames.{outwards}
use Rattle.scope_frames.specs.declared.frame.Frame.{Frame}
use Rattle.engine_states.specs.code.Answers.{Answers}
use Rattle.engine_states.specs.code.Falling.{height_at}
use Rattle.engine_states.specs.code.States.{Grows, IsWhole, State}
use Rattle.engine_states.proofs.Evaluating.{Evaluates-under, same-file}
use Rattle.engine_states.proofs.FramesSaid.{has-line, name-earlier, outwards-said}
use Rattle.engine_states.proofs.SaidStays.{kept-ahead, outwards-stays}

-- ---- frames

module _ (a b : State) (grows : Grows a b) (whole : IsWhole a) where
  -- the line of a frame stays its line
  pub framed-later : (frame at : ℕ) → slice_get a.framed frame ≡ Some at → slice_get b.framed frame ≡ Some at
  framed-later frame at there = ap (λ (ns : List ℕ). slice_get ns frame) grows.framed ∙ kept-ahead a.framed grows.more_framed frame at there

  -- and the frame a frame
  pub frame-later : (frame : ℕ) (it : Frame) → slice_get a.frames frame ≡ Some it → slice_get b.frames frame ≡ Some it
  frame-later frame it there = ap (λ (fs : List Frame). slice_get fs frame) grows.frames ∙ kept-ahead a.frames grows.more_frames frame it there

  -- the frame further out, by lines
  pub out-later : (up frame at here there : ℕ) → outwards a.known.file a.frames up frame ≡ Some at → slice_get a.framed frame ≡ Some here → slice_get b.framed at ≡ Some there
      → cited.outwards b.known.file b.lines up here ≡ Some there
  out-later up frame at here there out framed later =
      let it = outwards-said a.known.file a.lines a.framed a.frames whole.framed (name-earlier Two (nothing_made a.known.template a.known.file) a.lines a.known whole.follow) up frame here at out framed in
      let same : it.0 ≡ there = same_Some it.0 there (sym (framed-later at it.0 it.1) ∙ later) in
      ap (λ (f : File). cited.outwards f b.lines up here) (same-file a b grows whole) ∙ ap (λ (ls : List Line). cited.outwards a.known.file ls up here) grows.lines
      ∙ outwards-stays a.known.file a.lines grows.more_lines up here it.0 it.2 ∙ ap Some same

  bind-later : (site : ℕ) (bind : Bind) → bind_of a.known.file site ≡ Some bind → bind_of b.known.file site ≡ Some bind
  bind-later site bind is = ap (λ (f : File). bind_of f site) (same-file a b grows whole) ∙ is

-- ---- the use of a name

module _ (a b : State) (whole : IsWhole a) (frame here site at number bound up : ℕ) (framed : slice_get a.framed frame ≡ Some here)
    (out : outwards a.known.file a.frames up frame ≡ Some at) (no_more : bound ≤ height_at a.known.file a.frames frame site) where
  -- of a let
  pub let-said : (value : ℕ) → bind_of a.known.file site ≡ Some (Value up value)
      → Answers a b bound at number (λ there. (rows : List Row) × GivesPiece b.known.file b.lines there (piece_at b.known.file value) number rows)
      → Answers a b (height_at a.known.file a.frames frame site) frame number (λ there. (rows : List Row) × GivesVariable b.known.file b.lines there site number rows)
  let-said value is it = record {
    evaluates = Evaluates-under a b bound (height_at a.known.file a.frames frame site) (number ∷ []) no_more it.evaluates;
    at = here;
    framed = framed-later a b it.evaluates.grows whole frame here framed;
    says = (
      it.says.0,
      (
        Value up value,
        bind-later a b it.evaluates.grows whole site (Value up value) is,
        (it.at, out-later a b it.evaluates.grows whole up frame at here it.at out framed it.framed, it.says.1),
      ),
    );
  }

  -- of a capture
  pub capture-said : (step : ℕ) → bind_of a.known.file site ≡ Some (Capture up step)
      → Answers a b bound at number (λ there. (rows : List Row) × IsLine b.lines number kind.Capture there step (says.Rows rows))
      → Answers a b (height_at a.known.file a.frames frame site) frame number (λ there. (rows : List Row) × GivesVariable b.known.file b.lines there site number rows)
  capture-said step is it = record {
    evaluates = Evaluates-under a b bound (height_at a.known.file a.frames frame site) (number ∷ []) no_more it.evaluates;
    at = here;
    framed = framed-later a b it.evaluates.grows whole frame here framed;
    says = (
      it.says.0,
      (
        Capture up step,
        bind-later a b it.evaluates.grows whole site (Capture up step) is,
        (it.at, out-later a b it.evaluates.grows whole up frame at here it.at out framed it.framed, it.says.1),
      ),
    );
  }

  -- of a parameter
  pub parameter-said : (index : ℕ) → bind_of a.known.file site ≡ Some (Param up index)
      → Answers a b bound at number (λ there. (rows : List Row) × GivesArgument b.known.file b.lines there index number rows)
      → Answers a b (height_at a.known.file a.frames frame site) frame number (λ there. (rows : List Row) × GivesVariable b.known.file b.lines there site number rows)
  parameter-said index is it = record {
    evaluates = Evaluates-under a b bound (height_at a.known.file a.frames frame site) (number ∷ []) no_more it.evaluates;
    at = here;
    framed = framed-later a b it.evaluates.grows whole frame here framed;
    says = (
      it.says.0,
      (
        Param up index,
        bind-later a b it.evaluates.grows whole site (Param up index) is,
        (it.at, out-later a b it.evaluates.grows whole up frame at here it.at out framed it.framed, it.says.1),
      ),
    );
  }

-- ---- an argument of the call whose frame a frame is

pub argument-gives : (b : State) → IsWhole b → (at there caller number parent site : ℕ) (current : Ref) → slice_get b.frames at ≡ Some (record { parent = Some parent; site = site; current = current })
    → slice_get b.framed at ≡ Some there → slice_get b.framed parent ≡ Some caller → (args : Exprs) → args_at b.known.file site ≡ Some args
    → (index : ℕ) (arg : Expr) → expr_in args index ≡ Some arg → (rows : List Row) → GivesExpr b.known.file b.lines caller arg number rows
    → GivesArgument b.known.file b.lines there index number rows
argument-gives b whole at there caller number parent site current is framed parent_framed args args_are index arg arg_is rows gives =
    let line = has-line b.known.file b.lines b.framed b.frames whole.framed at there (record { parent = Some parent; site = site; current = current }) is framed in
    let same : line.0 ≡ caller = same_Some line.0 caller (sym line.1 ∙ parent_framed) in
    record {
      line = line.2.line;
      caller = caller;
      site = site;
      args = args;
      arg = arg;
      stands = line.2.stands;
      kind_is = line.2.kind_is;
      caller_is = line.2.frame_is ∙ ap Some same;
      site_is = line.2.site_is;
      args_are = args_are;
      arg_is = arg_is;
      gives = gives;
    }

-- so the line that its argument has in the frame of the caller is the argument's in this one
pub argument-said : (a b : State) → IsWhole a → (at here parent site number bound : ℕ) (current : Ref) → slice_get a.framed at ≡ Some here
    → slice_get a.frames at ≡ Some (record { parent = Some parent; site = site; current = current }) → (args : Exprs) → args_at a.known.file site ≡ Some args
    → (index : ℕ) (arg : Expr) → expr_in args index ≡ Some arg
    → Answers a b bound parent number (λ caller. (rows : List Row) × GivesExpr b.known.file b.lines caller arg number rows)
    → Answers a b bound at number (λ there. (rows : List Row) × GivesArgument b.known.file b.lines there index number rows)
argument-said a b whole at here parent site number bound current framed is args args_are index arg arg_is it =
    let grows = it.evaluates.grows in
    let later = framed-later a b grows whole at here framed in
    record {
      evaluates = it.evaluates;
      at = here;
      framed = later;
      says = (
        it.says.0,
        argument-gives b it.evaluates.whole at here it.at number parent site current
            (frame-later a b grows whole at (record { parent = Some parent; site = site; current = current }) is) later it.framed args
            (ap (λ (f : File). args_at f site) (same-file a b grows whole) ∙ args_are) index arg arg_is it.says.0 it.says.1,
      );
    }
