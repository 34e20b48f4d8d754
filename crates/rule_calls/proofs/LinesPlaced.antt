-- Where a line that follows stands: the `file` line at no site; any other at the site of a part, and it is the line of a frame, that of the part, the one beside it, or that of
-- a rule. By the cases of lines that follow, and by the lines in turn.
use Rattle.std.proofs.Common.{◌≡◌, ◌⊎◌, ◌<◌, ℕ, zero, suc, refl, sym, ap, ◌∙◌, subst, inl, inr, List, [], ◌∷◌, ◌++◌, length, slice_get, Option, Some, None, option_map}
use Rattle.std.proofs.lemmas.Option.{none-some, same_Some}
use Rattle.evidence_lines.specs.Lines.{line_of}
use Rattle.evidence_lines.specs.declared.line.Line.{Line}
use Rattle.evidence_lines.specs.declared.line.LineKind.{LineKind}
use Rattle.evidence_lines.specs.declared.line.LineKind.TheVariants as kind
use Rattle.evidence_lines.specs.declared.line.Outcome.{Outcome}
use Rattle.evidence_lines.specs.declared.line.Outcome.TheVariants as says
use Rattle.evidence_lines.specs.declared.version.Version.{Version}
use Rattle.evidence_lines.specs.declared.version.Version.TheVariants.{Two}
use Rattle.guard_syntax.specs.Syntax.{Expr, File, Part, Query, Step, block, body, call, conds, every, filter, found, function, guarded, index, items, key, keys, kinds, literal, refer, splice, test, this, var}
use Rattle.guard_syntax.specs.declared.row.Ref.{Ref}
use Rattle.guard_syntax.specs.declared.row.Row.{Row}
use Rattle.guard_syntax.specs.declared.row.Verdict.{Verdict}
use Rattle.rule_names.specs.Pieces.{AreInOrder, OfBody, OfConds, OfDisj, OfExpr, OfFile, OfPart, OfRule, OfStep, Piece, piece_at}
use Rattle.rule_meaning.specs.Places.{step_in, steps_in}
use Rattle.rule_meaning.specs.Seeing.{grown}
use Rattle.rule_meaning.specs.StoreModel.{Made, StoreModel}
use Rattle.evidence_rules.specs.Follows.{Follows, FollowsAtExpr, FollowsAtPart, FollowsAtStep, FollowsIn, FollowsRows, FollowsVerdict, IsFrameOf, nothing_made}
use Rattle.evidence_rules.specs.code.Judgement.{FollowTo}
use Rattle.evidence_rules.proofs.LinesBehind.{behind-first}
use Rattle.engine_states.specs.code.Kinds.{kind_beside, kind_of_expr, kind_of_part, kind_of_step, own_kind}
use Rattle.engine_states.specs.code.States.{IsWhole, State}
use Rattle.evidence_lookups.proofs.SitesWithin.{site-within}

-- a kind of line that the part of a site has
abbrev pub HasKind : LineKind → Option Piece → Type 0
HasKind of piece = (of ≡ kind.Frame) ⊎ ((own_kind piece ≡ Some of) ⊎ ((kind_beside piece ≡ Some of) ⊎ (of ≡ kind.Rule)))

-- a line of a kind at the site of a part
pub record StandsAt (f : File) (of : LineKind) (site : ℕ) : Type 0 where
  pub piece : Piece
  pub there : piece_at f site ≡ Some piece
  pub has : HasKind of (Some piece)

-- the same of a piece, by which it is shown
abbrev Stands : LineKind → Option Piece → Type 0
Stands of piece = (p : Piece) × (piece ≡ Some p) × HasKind of (Some p)

module _ (version : Version) (known : StoreModel) (lines : List Line) (frame site : ℕ) where
  at-expr : (of : LineKind) (e : Expr) (cites : List ℕ) (rows : List Row) (more : List Made) → FollowsAtExpr known lines frame site of e cites rows more → kind_of_expr e ≡ Some of
  at-expr kind.Literal (literal n tree) cites rows more h = refl
  at-expr kind.Found (found n q) cites rows more h = refl
  at-expr kind.Fn (function n name args) cites rows more h = refl
  at-expr of e cites rows more h = absurd h

  at-step : (of : LineKind) (q : Query) (i : ℕ) (step : Option Step) (cites : List ℕ) (rows : List Row) → FollowsAtStep known lines frame site of q i step cites rows
      → (option_map kind_of_step step ≡ Some of) ⊎ (of ≡ kind.Capture)
  at-step kind.Filter q i (Some (filter n capture conditions)) cites rows h = inl refl
  at-step kind.Keys q i (Some (keys n capture op negated right)) cites rows h = inl refl
  at-step kind.Step q i (Some (this n)) cites rows h = inl refl
  at-step kind.Step q i (Some (var n name)) cites rows h = inl refl
  at-step kind.Step q i (Some (key n name)) cites rows h = inl refl
  at-step kind.Step q i (Some (index n at)) cites rows h = inl refl
  at-step kind.Step q i (Some (every n)) cites rows h = inl refl
  at-step kind.Step q i (Some (items n)) cites rows h = inl refl
  at-step kind.Step q i (Some (splice n name)) cites rows h = inl refl
  at-step kind.Capture q i (Some (filter n capture conditions)) cites rows h = inr refl
  at-step kind.Capture q i (Some (keys n capture op negated right)) cites rows h = inr refl
  at-step of q i step cites rows h = absurd h

  at-rows : (of : LineKind) (piece : Option Piece) (cites : List ℕ) (rows : List Row) (more : List Made) → FollowsRows known lines frame site of piece cites rows more → Stands of piece
  at-rows of (Some (OfExpr e)) cites rows more h = (OfExpr e, refl, inr (inl (at-expr of e cites rows more h)))
  at-rows of (Some (OfStep q i)) cites rows more h = elim (at-step of q i (step_in (steps_in q) i) cites rows h.0) [
    | inl own ↦ (OfStep q i, refl, inr (inl own))
    | inr capture ↦ (OfStep q i, refl, inr (inr (inl (ap (λ (k : LineKind). Some k) (sym capture)))))
  ]
  at-rows kind.Types (Some (OfPart (kinds n name conditions inner))) cites rows more h = (OfPart (kinds n name conditions inner), refl, inr (inr (inl refl)))
  at-rows of piece cites rows more h = absurd h

  at-part : (of : LineKind) (part : Part) (cites : List ℕ) (verdict : Verdict) → FollowsAtPart version known lines frame site of part cites verdict → kind_of_part part ≡ of
  at-part kind.Test (test n any left op negated right message) cites verdict h = refl
  at-part kind.Refer (refer n negated name message) cites verdict h = refl
  at-part kind.Call (call n negated name args message) cites verdict h = refl
  at-part kind.When (guarded n conditions inner) cites verdict h = refl
  at-part kind.Block (block n any head inner) cites verdict h = refl
  at-part kind.Kinds (kinds n name conditions inner) cites verdict h = refl
  at-part of part cites verdict h = absurd h

  at-verdict : (of : LineKind) (piece : Option Piece) (cites : List ℕ) (verdict : Verdict) → FollowsVerdict version known lines frame site of piece cites verdict → Stands of piece
  at-verdict kind.Rule (Some (OfRule r)) cites verdict h = (OfRule r, refl, inr (inr (inr refl)))
  at-verdict kind.Rule (Some OfFile) cites verdict h = (OfFile, refl, inr (inr (inr refl)))
  at-verdict kind.Conj (Some (OfBody (body n lets ds))) cites verdict h = (OfBody (body n lets ds), refl, inr (inl refl))
  at-verdict kind.Conj (Some (OfConds (conds n ds))) cites verdict h = (OfConds (conds n ds), refl, inr (inl refl))
  at-verdict kind.Conj (Some OfFile) cites verdict h = (OfFile, refl, inr (inl refl))
  at-verdict kind.Disj (Some (OfDisj d)) cites verdict h = (OfDisj d, refl, inr (inl refl))
  at-verdict of (Some (OfPart part)) cites verdict h = (OfPart part, refl, inr (inl (ap (λ (k : LineKind). Some k) (at-part of part cites verdict h))))
  at-verdict of piece cites verdict h = absurd h

  at-value : (piece : Option Piece) (v : Ref) → IsFrameOf known lines frame piece v → Stands kind.Frame piece
  at-value None v h = absurd h
  at-value (Some p) v h = (p, refl, inl refl)

  at-line : (of : LineKind) (cites : List ℕ) (outcome : Outcome) (more : List Made) → FollowsIn version known lines frame site of cites outcome more → Stands of (piece_at known.file site)
  at-line kind.Frame cites (says.Value v) more h = at-value (piece_at known.file site) v h.1
  at-line of cites (says.Rows rows) more h = at-rows of (piece_at known.file site) cites rows more h
  at-line of cites (says.Verdict verdict) more h = at-verdict of (piece_at known.file site) cites verdict h.0
  at-line of cites outcome more h = absurd h

-- ---- lines

pub record IsSited (f : File) (line : Line) : Type 0 where
  pub site : ℕ
  pub site_is : line.site ≡ Some site
  pub stands : StandsAt f line.kind site

abbrev pub IsPlaced : File → Line → Type 0
IsPlaced f line = ((line.kind ≡ kind.File) × (line.site ≡ None)) ⊎ IsSited f line

follows-placed : (version : Version) (known : StoreModel) (lines : List Line) (line : Line) (more : List Made) → Follows version known lines line more → IsPlaced known.file line
follows-placed version known lines line more follows = elim follows [
  | inl (q, none) ↦ inl (q.0, q.2)
  | inr (frame, site, frame_is, site_is, home, h) ↦
      let stands = at-line version known lines frame site line.kind line.cites line.outcome more h in
      inr (record { site = site; site_is = site_is; stands = record { piece = stands.0; there = stands.1; has = stands.2 } })
]

placed-at : (version : Version) (known : StoreModel) (before lines : List Line) (last : StoreModel) → FollowTo version known before lines last
    → (n : ℕ) (l : Line) → slice_get lines n ≡ Some l → IsPlaced known.file l
placed-at version known before [] last follow n l e = absurd (none-some l e)
placed-at version known before (line ∷ lines) last (more, follows, rest) zero l e = subst (IsPlaced known.file) (same_Some line l e) (follows-placed version known before line more follows)
placed-at version known before (line ∷ lines) last (more, follows, rest) (suc n) l e = placed-at version (grown known more) (before ++ line ∷ []) lines last rest n l e

module _ (s : State) (whole : IsWhole s) where
  pub line-placed : (number : ℕ) (l : Line) → line_of s.lines number ≡ Some l → IsPlaced s.known.file l
  line-placed zero l e = absurd (none-some l e)
  line-placed (suc n) l e = placed-at Two (nothing_made s.known.template s.known.file) [] s.lines s.known whole.follow n l (sym (behind-first s.lines n) ∙ e)

  -- its site is one of the file
  pub line-sited : AreInOrder s.known.file → (number : ℕ) (l : Line) (site : ℕ) → line_of s.lines number ≡ Some l → l.site ≡ Some site → site < length s.known.file.places
  line-sited ordered number l site e site_is = elim (line-placed number l e) [
    | inl file ↦ absurd (none-some site (sym file.1 ∙ site_is))
    | inr sited ↦
        subst (λ (n : ℕ). n < length s.known.file.places) (same_Some sited.site site (sym sited.site_is ∙ site_is))
        (site-within s.known.file sited.site sited.stands.piece ordered sited.stands.there)
  ]
