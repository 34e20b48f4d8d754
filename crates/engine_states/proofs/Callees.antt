-- What references and calls lead to is there: the line of a rule that a reference names, and the body that a call enters, which is less deep with the arguments of the call.
use Rattle.std.proofs.Common.{◌≡◌, ℕ, ◌+◌, ◌<◌, Bool, ap, ◌∙◌, arith, List, Option, Some, option_and_then, option_map}
use Rattle.evidence_lines.specs.declared.line.LineKind.TheVariants as kind
use Rattle.evidence_lines.specs.declared.line.Outcome.TheVariants as says
use Rattle.guard_syntax.specs.Syntax.{Body, Exprs, call, refer}
use Rattle.guard_syntax.specs.declared.row.Verdict.{Verdict}
use Rattle.rule_names.specs.Depths.{depth_body, depth_exprs, depth_part, depths_of}
use Rattle.rule_names.specs.Pieces.{AreInOrder, OfBody, OfPart, piece_at}
use Rattle.rule_names.specs.Resolution.{target_of}
use Rattle.rule_names.specs.WellNamed.{WellNamed}
use Rattle.evidence_rules.specs.CitedLines.{IsLine, body_of_rule, body_site, called_body, scope_of_piece}
use Rattle.scope_frames.specs.code.Frames.{MayEnter}
use Rattle.scope_frames.specs.code.Scoping.{scope_at}
use Rattle.scope_frames.proofs.RulesNamed.{calls-fit, refers-plain}
use Rattle.engine_states.specs.code.Answers.{StandsIn}
use Rattle.engine_states.specs.code.Falling.{depth_of}
use Rattle.engine_states.specs.code.States.{IsWhole, State}
use Rattle.scope_frames.proofs.BodiesApart.{body-at, plain-else}
use Rattle.engine_states.proofs.Elements.{some-there}
use Rattle.engine_states.proofs.Falls.{called-falls, referred-falls}
use Rattle.engine_states.proofs.Shaped.{rule-verdict}

module _ (s : State) (whole : IsWhole s) (well : WellNamed s.known.file) (ordered : AreInOrder s.known.file) (frame site : ℕ) where
  -- the line of the rule that a reference names
  pub rule-there : (negated : Bool) (name : List ℕ) (message : Option (List ℕ)) → StandsIn s frame (site, OfPart (refer site negated name message))
      → (rule number at : ℕ) × (verdict : Verdict) × (target_of s.known.file site ≡ Some rule) × (s.rules rule ≡ Some number)
      × IsLine s.lines number kind.Rule at rule (says.Verdict verdict)
  rule-there negated name message stands =
      let names = refers-plain s.known.file well ordered site site negated name message stands.there in
      let less = referred-falls s.known.file well ordered site names.0.site names.0 negated name message names.2 names.3 in
      let depth : depth_of s.known.file (piece_at s.known.file site) ≡ depth_part s.known.file (depths_of s.known.file) (refer site negated name message) = ap (depth_of s.known.file) stands.there in
      let line = stands.ruled names.0 names.1 names.4 (omega (arith, less, depth)) in
      let said = rule-verdict s whole names.0.site line.0 line.1 in
      (names.0.site, line.0, said.0, said.1, names.2, line.1, said.2)

  module _ (negated : Bool) (name : List ℕ) (es : Exprs) (message : Option (List ℕ)) (stands : StandsIn s frame (site, OfPart (call site negated name es message))) where
    -- the body that a call enters
    pub body-there : (b : Body) × (called_body s.known.file site ≡ Some b) × (piece_at s.known.file (body_site b) ≡ Some (OfBody b))
        × (depth_body s.known.file (depths_of s.known.file) b + depth_exprs s.known.file (depths_of s.known.file) es
        < depth_part s.known.file (depths_of s.known.file) (call site negated name es message))
    body-there =
        let names = calls-fit s.known.file well ordered site site negated name es message stands.there in (
          names.0.body,
          ap (option_and_then (λ (rule : ℕ). option_and_then body_of_rule (piece_at s.known.file rule))) names.2 ∙ ap (option_and_then body_of_rule) names.3,
          body-at s.known.file ordered names.0 names.1,
          called-falls s.known.file well ordered site names.0.site names.0 negated name es message names.2 names.3,
        )

    -- may be entered at the call
    pub call-may-enter : MayEnter s.known.file s.frames (Some frame) site
    call-may-enter =
        let it = body-there in (
          stands.scope_is,
          some-there (scope_at s.known.file site) (body_site it.0) (ap (option_and_then (scope_of_piece s.known.file site)) stands.there ∙ ap (option_map body_site) it.1),
          plain-else s.known.file ordered site (Some (OfPart (call site negated name es message))) stands.there (λ no_body. no_body),
        )
