use Rattle.std.proofs.Common.{◌∙◌, sym, ap, ap₂, subst, is_ok, length, ℕ, List}
use Rattle.engine_parts.specs.code.FrameLines.{ArePlacesApart, ArePlacesWithin, line_in}
use Rattle.engine_parts.specs.declared.frame_lines.SiteSpan.{SiteSpan}
use Rattle.engine_parts.proofs.FramePlaces.{added-lines, pushed-apart, pushed-within}
use Rattle.engine_parts.proofs.frame_lines.FrameLines.add_frame.Goals as goal

pub invariant_of-self : goal.invariant_of-self
invariant_of-self c =
    let s = c.make_room.new.self in
    record {
      within = subst (λ (spans : List SiteSpan). ArePlacesWithin spans (length s.lines.items)) (sym c.push.ensures.items)
          (pushed-within s.spans.items s.lines.items s.within s.apart c.args.first (is_ok c.push.result));
      apart = subst ArePlacesApart (sym c.push.ensures.items) (pushed-apart s.spans.items s.lines.items s.within s.apart c.args.first (is_ok c.push.result));
    }

pub returns-in_err-make_room-clause-lines : goal.returns-in_err-make_room-clause-lines
returns-in_err-make_room-clause-lines c n m =
    ap₂ (λ (spans : List SiteSpan) (lines : List ℕ). line_in spans lines n m) c.make_room.ensures.spans c.make_room.ensures.lines

pub returns-clause-lines : goal.returns-clause-lines
returns-clause-lines c n m =
    let s = c.make_room.new.self in
    ap (λ (spans : List SiteSpan). line_in spans s.lines.items n m) c.in_ok-push.ensures.items ∙ added-lines s.spans.items s.lines.items s.within s.apart c.args.first n m
    ∙ ap₂ (λ (spans : List SiteSpan) (lines : List ℕ). line_in spans lines n m) c.make_room.ensures.spans c.make_room.ensures.lines
