use Rattle.std.proofs.Common.{◌≡◌, false, MatchBool, Some, ap, sym, ◌∙◌, true≢false}
use Rattle.guard_syntax.specs.code.Seen.{see_body, see_part, see_query}
use Rattle.rule_names.specs.Pieces.{OfBody, OfPart, OfStep, piece_at}
use Rattle.rule_names.specs.code.Seen.{see_piece}
use Rattle.rule_names.specs.declared.piece.Piece as code
use Rattle.rule_meaning.specs.Places.{step_in, steps_in}
use Rattle.evidence_rules.specs.Follows.{IsFrameOfPart, IsFrameOfStep}
use Rattle.evidence_lookups.specs.code.Grounds.{file_in, known_of, lines_of}
use Rattle.evidence_lookups.proofs.FramesValued.{at-piece, call-valued, frame-known, no-call, no-filter, step-valued}
use Rattle.evidence_lookups.proofs.values.is_frame_of.Goals as goal

pub is_frame_of_body-requires : goal.is_frame_of_body-requires
is_frame_of_body-requires c = record { placed = sym (ap (λ (p : code.Piece). Some (see_piece p)) (sym c.in-Some-Body.field-0-is) ∙ c.in-Some-Body.ensures) }

pub returns-in-Some-Body : goal.returns-in-Some-Body
returns-in-Some-Body c =
    let k = known_of c.args.context.now in
    let ls = lines_of c.args.context.now in
    let piece = Some (OfBody (see_body c.in-Some-Body.body.now)) in
    let there : piece ≡ piece_at (file_in c.args.context.now) c.args.site = ap (λ (p : code.Piece). Some (see_piece p)) (sym c.in-Some-Body.field-0-is) ∙ c.in-Some-Body.ensures in
    record {
      follows = at-piece k ls c.args.frame c.args.value piece (piece_at (file_in c.args.context.now) c.args.site) c.is_frame_of_body.result there c.is_frame_of_body.ensures;
      known = frame-known k ls c.args.frame c.args.value c.args.context.now.sound c.len-nodes.ensures.tree piece c.is_frame_of_body.result c.is_frame_of_body.ensures;
    }

pub returns-in-Some : goal.returns-in-Some
returns-in-Some c =
    let k = known_of c.args.context.now in
    let ls = lines_of c.args.context.now in
    let step = step_in (steps_in (see_query c.in-Some-Step.query.now)) c.in-Some-Step.index in
    let piece = Some (OfStep (see_query c.in-Some-Step.query.now) c.in-Some-Step.index) in
    let there : piece ≡ piece_at (file_in c.args.context.now) c.args.site = ap (λ (p : code.Piece). Some (see_piece p)) (sym c.in-Some-Step.field-0-is) ∙ c.in-Some-Step.ensures in
    let valued : MatchBool c.is_known.result (IsFrameOfStep k ls step c.args.value) (IsFrameOfStep k ls step c.args.value → ⊥) =
    step-valued k ls c.args.frame c.args.value c.args.site step c.in-Some.field-0 (c.in-Some.ensures k.file) c.is_known.result c.is_known.ensures in
    record {
      follows = at-piece k ls c.args.frame c.args.value piece (piece_at (file_in c.args.context.now) c.args.site) c.is_known.result there valued;
      known = frame-known k ls c.args.frame c.args.value c.args.context.now.sound c.len-nodes.ensures.tree piece c.is_known.result valued;
    }

pub returns-in-None : goal.returns-in-None
returns-in-None c =
    let k = known_of c.args.context.now in
    let ls = lines_of c.args.context.now in
    let step = step_in (steps_in (see_query c.in-Some-Step.query.now)) c.in-Some-Step.index in
    let piece = Some (OfStep (see_query c.in-Some-Step.query.now) c.in-Some-Step.index) in
    let there : piece ≡ piece_at (file_in c.args.context.now) c.args.site = ap (λ (p : code.Piece). Some (see_piece p)) (sym c.in-Some-Step.field-0-is) ∙ c.in-Some-Step.ensures in
    record {
      follows = at-piece k ls c.args.frame c.args.value piece (piece_at (file_in c.args.context.now) c.args.site) false there (no-filter k ls c.args.frame c.args.value c.args.site step (c.in-None.ensures k.file));
      known = λ e. absurd (true≢false (sym e));
    }

pub returns-in-Some-args_of_part : goal.returns-in-Some-args_of_part
returns-in-Some-args_of_part c =
    let k = known_of c.args.context.now in
    let ls = lines_of c.args.context.now in
    let part = see_part c.in-Some-Part.part.now in
    let there : Some (OfPart part) ≡ piece_at (file_in c.args.context.now) c.args.site = ap (λ (p : code.Piece). Some (see_piece p)) (sym c.in-Some-Part.field-0-is) ∙ c.in-Some-Part.ensures in
    let valued : MatchBool c.has_value.result (IsFrameOfPart k ls c.args.frame part c.args.value) (IsFrameOfPart k ls c.args.frame part c.args.value → ⊥) =
    call-valued k ls c.args.frame c.args.value part _ c.in-Some-args_of_part.ensures c.has_value.result c.has_value.ensures in
    record {
      follows = at-piece k ls c.args.frame c.args.value (Some (OfPart part)) (piece_at (file_in c.args.context.now) c.args.site) c.has_value.result there valued;
      known = frame-known k ls c.args.frame c.args.value c.args.context.now.sound c.len-nodes.ensures.tree (Some (OfPart part)) c.has_value.result valued;
    }

pub returns-in-None-args_of_part : goal.returns-in-None-args_of_part
returns-in-None-args_of_part c =
    let k = known_of c.args.context.now in
    let ls = lines_of c.args.context.now in
    let part = see_part c.in-Some-Part.part.now in
    let there : Some (OfPart part) ≡ piece_at (file_in c.args.context.now) c.args.site = ap (λ (p : code.Piece). Some (see_piece p)) (sym c.in-Some-Part.field-0-is) ∙ c.in-Some-Part.ensures in
    record {
      follows = at-piece k ls c.args.frame c.args.value (Some (OfPart part)) (piece_at (file_in c.args.context.now) c.args.site) false there (no-call k ls c.args.frame c.args.value part c.in-None-args_of_part.ensures);
      known = λ e. absurd (true≢false (sym e));
    }
