-- The frame of a call as it is read, and the arguments of the call.
use Rattle.std.proofs.Common.{◌≡◌, ◌<◌, ℕ, zero, suc, Bool, sym, ap, ◌∙◌, slice_get, List, [], ◌∷◌, map, Option, Some, None, Bor, get_or, length}
use Rattle.std.specs.Option.{option_and_then}
use Rattle.std.specs.declared.alloc.Global.{Global}
use Rattle.std.specs.declared.vec.Vec.{Vec}
use Rattle.std.proofs.lemmas.Option.{none-some, same_Some}
use Rattle.guard_syntax.specs.Syntax.{Expr, Exprs, File}
use Rattle.guard_syntax.specs.code.Seen.{expr_list, see_expr, see_part}
use Rattle.guard_syntax.specs.declared.syntax.Expr as code
use Rattle.guard_syntax.specs.declared.syntax.Part.{Part}
use Rattle.guard_syntax.specs.declared.syntax.Part as part
use Rattle.rule_names.specs.Pieces.{Piece, piece_at}
use Rattle.rule_names.specs.Uses.{expr_in}
use Rattle.rule_names.specs.code.Seen.{see_piece}
use Rattle.rule_names.specs.declared.piece.Piece as shape
use Rattle.rule_names.specs.declared.piece.Piece.TheVariants as seen
use Rattle.rule_names.proofs.Shapes.{call-seen}
use Rattle.evidence_rules.specs.CitedLines.{args_at, args_of_part, args_of_piece}
use Rattle.scope_frames.specs.declared.frame.Frame.{Frame}
use Rattle.scope_frames.proofs.ArgumentsSeen.{expr-counted, expr-listed}
use Rattle.engine_states.specs.code.Answers.{IsArgumentOf, IsParameter}
use Rattle.engine_states.specs.code.States.{State}

got : (fs : List Frame) (n : ℕ) (at other : Frame) → slice_get fs n ≡ Some at → get_or fs n other ≡ at
got [] n at other e = absurd (none-some at e)
got (f ∷ fs) zero at other e = same_Some f at e
got (f ∷ fs) (suc n) at other e = got fs n at other e

module _ (f : File) (given : List Frame) (frame index : ℕ) (argument : (caller : ℕ) × (e : Expr) × IsArgumentOf f given frame index caller e) (other : Frame) where
  abbrev of_call : Frame
  of_call = record { parent = Some argument.0; site = argument.2.0; current = argument.2.1 }

  param-frame : get_or given frame other ≡ of_call
  param-frame = got given frame of_call other argument.2.3

  pub param-parent : (get_or given frame other).parent ≡ None → ⊥
  param-parent none = none-some argument.0 (sym none ∙ ap (λ (f : Frame). f.parent) param-frame)

  pub param-caller : (caller : ℕ) → (get_or given frame other).parent ≡ Some caller → argument.0 ≡ caller
  param-caller caller is = same_Some argument.0 caller (sym (ap (λ (f : Frame). f.parent) param-frame) ∙ is)

  param-site : (get_or given frame other).site ≡ argument.2.0
  param-site = ap (λ (f : Frame). f.site) param-frame

  found-there : (o : Option Piece) → o ≡ piece_at f (get_or given frame other).site → option_and_then args_of_piece o ≡ args_at f argument.2.0
  found-there o is = ap (λ (p : Option Piece). option_and_then args_of_piece p) (is ∙ ap (λ (n : ℕ). piece_at f n) param-site)

  pub param-find : None ≡ piece_at f (get_or given frame other).site → ⊥
  param-find is = none-some argument.2.2 (found-there None is ∙ argument.2.4)

  pub param-piece : (p : shape.Piece) → Some (see_piece p) ≡ piece_at f (get_or given frame other).site → args_of_piece (see_piece p) ≡ Some argument.2.2
  param-piece p is = found-there (Some (see_piece p)) is ∙ argument.2.4

  -- a part of another kind
  pub param-part : (p : shape.Piece) (x : Bor Part) → Some (see_piece p) ≡ piece_at f (get_or given frame other).site → p ≡ seen.Part x → args_of_part (see_part x.now) ≡ None → ⊥
  param-part p x there is none = none-some argument.2.2 (sym none ∙ sym (ap (λ (y : shape.Piece). args_of_piece (see_piece y)) is) ∙ param-piece p there)

  -- the call
  module _ (p : shape.Piece) (x : Bor Part) (site : ℕ) (negated : Bool) (name : List ℕ) (args : Vec code.Expr Global) (message : Option (List ℕ))
      (there : Some (see_piece p) ≡ piece_at f (get_or given frame other).site) (is : p ≡ seen.Part x) (call_is : x.now ≡ part.Call site negated name args message) where
    same-args : argument.2.2 ≡ expr_list (map see_expr args.items)
    same-args =
        same_Some argument.2.2 (expr_list (map see_expr args.items))
        (sym (param-piece p there) ∙ ap (λ (y : shape.Piece). args_of_piece (see_piece y)) is ∙ ap (λ (y : Part). args_of_part (see_part y)) call_is
        ∙ ap args_of_part (call-seen site negated name args message))

    arg-is : expr_in (expr_list (map see_expr args.items)) index ≡ Some argument.1
    arg-is = ap (λ (es : Exprs). expr_in es index) (sym same-args) ∙ argument.2.5

    pub param-within : index < length args.items
    param-within = expr-counted args.items index argument.1 arg-is

    pub param-expr : (e : code.Expr) → e ≡ get_or args.items index e → argument.1 ≡ see_expr e
    param-expr e read = same_Some argument.1 (see_expr e) (sym arg-is ∙ expr-listed args.items index e param-within read)

-- so of a frame that is known
module _ (s : State) (frame index : ℕ) (parameter : IsParameter s frame index) (f : File) (same : s.known.file ≡ f) (given : List Frame) (are : given ≡ s.frames) where
  pub param-given : IsArgumentOf f given frame index parameter.0 parameter.4
  param-given = (
    parameter.1,
    parameter.2,
    parameter.3,
    ap (λ (fs : List Frame). slice_get fs frame) are ∙ parameter.5,
    ap (λ (g : File). args_at g parameter.1) (sym same) ∙ parameter.6,
    parameter.7,
  )
