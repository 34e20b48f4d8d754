use Rattle.std.proofs.Common.{◌≡◌, ℕ, List, ◌+◌, ◌-◌, ◌<◌, ◌≤◌, length, take, drop, arith, subst, ◌∙◌}
use Rattle.std.specs.Str.{IsCharBoundary}
use Rattle.std.proofs.lemmas.Str.{IsCharBoundary-after_ascii}
use Rattle.yaml_scalars.specs.Lines.{trimmed}
use Rattle.yaml_scalars.proofs.LineParts.{slice_length}
use Rattle.yaml_scalars.proofs.FurtherLines.{content_is, added}
use Rattle.yaml_scalars.proofs.plain.push_content.Goals as goal

pub range-requires-clause-start_boundary : goal.range-requires-clause-start_boundary
range-requires-clause-start_boundary c =
    let n : c.args.line.begin - 1 + 1 ≡ c.args.line.begin = omega (arith, c.requires.begin.0) in
    let l : c.args.line.begin - 1 < length c.args.text.now = omega (arith, c.requires.begin.0, c.requires.begin.1) in
    λ h. subst (λ k. IsCharBoundary c.args.text.now k) n (IsCharBoundary-after_ascii c.args.text.now (c.args.line.begin - 1) c.utf8.text l c.requires.begin.2)

pub returns-clause-text : goal.returns-clause-text
returns-clause-text c =
    let begin = c.args.line.begin in
    let end = c.trim_end-end.result in
    let slice = subst (λ (t : List ℕ). take (end - begin) (drop begin t) ≡ trimmed (take (c.args.stop - begin) (drop begin t))) c.as_bytes.ensures.value c.trim_end-end.ensures.part in
    added _ _ _ _ _ _ c.in_ok-push_str.ensures.bytes c.in_ok-push_fold.ensures (c.range.ensures.value ∙ content_is c.args.flow c.args.text.now begin end c.args.stop c.requires.order slice)

pub returns-clause-end : goal.returns-clause-end
returns-clause-end c =
    let begin = c.args.line.begin in
    let end = c.trim_end-end.result in
    let slice = subst (λ (t : List ℕ). take (end - begin) (drop begin t) ≡ trimmed (take (c.args.stop - begin) (drop begin t))) c.as_bytes.ensures.value c.trim_end-end.ensures.part in
    let w : end ≤ length c.args.text.now = omega (arith, c.trim_end-end.ensures.to, c.requires.within) in
    slice_length c.args.text.now _ begin end c.trim_end-end.ensures.from w (content_is c.args.flow c.args.text.now begin end c.args.stop c.requires.order slice)
