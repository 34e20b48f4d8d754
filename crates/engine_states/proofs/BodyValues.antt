-- Which values frames may have that are entered for a part: a body under conditions and a called body that of the frame around them, a body of a block or a type block and a
-- filter any that is known, the body of a rule the root.
use Rattle.std.proofs.Common.{◌≡◌, ℕ, Bool, true, refl, sym, subst, inl, inr, slice_get, List, [], Contains, Option, Some}
use Rattle.guard_syntax.specs.Named.{Named}
use Rattle.guard_syntax.specs.Syntax.{Body, Conds, Exprs, OptConds, Query, Rule, Step, block, call, filter, guarded, kinds}
use Rattle.guard_syntax.specs.declared.row.Ref.{Ref}
use Rattle.rule_meaning.specs.Places.{step_in, steps_in}
use Rattle.rule_meaning.specs.Roots.{root_ref}
use Rattle.rule_meaning.specs.StoreModel.{is_known_ref}
use Rattle.rule_names.specs.Pieces.{OfBody, OfPart, OfStep, Piece, piece_at}
use Rattle.evidence_rules.specs.CitedLines.{body_site}
use Rattle.evidence_rules.specs.Follows.{HasValue, IsBlockBody, IsFrameOf, IsFrameOfStep}
use Rattle.scope_frames.specs.declared.frame.Frame.{Frame}
use Rattle.engine_states.specs.code.Entered.{MayHaveValue}
use Rattle.engine_states.specs.code.States.{IsWhole, State}
use Rattle.engine_states.proofs.FramesSaid.{value-said}
use Rattle.engine_states.proofs.KnownLines.{current-known}

module _ (s : State) (whole : IsWhole s) (frame : ℕ) (here : Frame) (there : slice_get s.frames frame ≡ Some here) where
  at-line : (at : ℕ) × (slice_get s.framed frame ≡ Some at)
  at-line = let it = whole.framed frame here there in (it.0, it.1)

  has-here : HasValue s.known s.lines at-line.0 here.current
  has-here = value-said s.known.file s.lines s.framed s.frames whole.framed frame at-line.0 here there at-line.1

  may : (site : ℕ) (v : Ref) (o : Option Piece) → piece_at s.known.file site ≡ o → IsFrameOf s.known s.lines at-line.0 o v → is_known_ref s.known v ≡ true → MayHaveValue s (Some frame) site v
  may site v o piece is known = (at-line.0, at-line.1, subst (λ (p : Option Piece). IsFrameOf s.known s.lines at-line.0 p v) (sym piece) is, known)

  pub when-value : (n : ℕ) (conditions : Conds) (b : Body) → piece_at s.known.file n ≡ Some (OfPart (guarded n conditions b)) → piece_at s.known.file (body_site b) ≡ Some (OfBody b)
      → MayHaveValue s (Some frame) (body_site b) here.current
  when-value n conditions b part piece =
      may (body_site b) here.current (Some (OfBody b)) piece (inr (inl ((n, conditions, part), has-here))) (current-known s whole frame here there)

  pub called-value : (n site : ℕ) (negated : Bool) (name : List ℕ) (es : Exprs) (message : Option (List ℕ)) → piece_at s.known.file site ≡ Some (OfPart (call n negated name es message))
      → MayHaveValue s (Some frame) site here.current
  called-value n site negated name es message piece =
      may site here.current (Some (OfPart (call n negated name es message))) piece has-here (current-known s whole frame here there)

  -- any that is known
  pub block-value : (b : Body) → IsBlockBody s.known s.lines b → piece_at s.known.file (body_site b) ≡ Some (OfBody b) → (v : Ref) → is_known_ref s.known v ≡ true
      → MayHaveValue s (Some frame) (body_site b) v
  block-value b of piece v known = may (body_site b) v (Some (OfBody b)) piece (inr (inr (of, known))) known

  pub of-block : (n : ℕ) (any : Bool) (head : Query) (b : Body) → piece_at s.known.file n ≡ Some (OfPart (block n any head b)) → IsBlockBody s.known s.lines b
  of-block n any head b part = inl (n, any, head, part)

  pub of-type : (n : ℕ) (name : List ℕ) (conditions : OptConds) (b : Body) → piece_at s.known.file n ≡ Some (OfPart (kinds n name conditions b)) → IsBlockBody s.known s.lines b
  of-type n name conditions b part = inr (n, name, conditions, part)

  pub filter-value : (site : ℕ) (q : Query) (i n : ℕ) (capture : Option Named) (conditions : Conds) → piece_at s.known.file site ≡ Some (OfStep q i)
      → step_in (steps_in q) i ≡ Some (filter n capture conditions) → (v : Ref) → is_known_ref s.known v ≡ true → MayHaveValue s (Some frame) site v
  filter-value site q i n capture conditions piece filters v known =
      may site v (Some (OfStep q i)) piece (subst (λ (o : Option Step). IsFrameOfStep s.known s.lines o v) (sym filters) known) known

  -- the root
  pub rule-value : (r : Rule) → Contains s.known.file.rules r → r.params ≡ [] → piece_at s.known.file (body_site r.body) ≡ Some (OfBody r.body) → is_known_ref s.known root_ref ≡ true
      → MayHaveValue s (Some frame) (body_site r.body) root_ref
  rule-value r has plain piece known = may (body_site r.body) root_ref (Some (OfBody r.body)) piece (inl ((r, has, plain, refl), refl)) known
