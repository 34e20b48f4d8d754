use Rattle.std.proofs.Common.{◌≡◌, ◌-◌, ◌≤◌, List, ℕ, false, take, length, sym, ap, ◌∙◌, subst}
use Rattle.yaml_grammar.specs.declared.ahead.Ahead.{Ahead}
use Rattle.yaml_grammar.specs.declared.ahead.Token.TheVariants.{End}
use Rattle.yaml_grammar.specs.Ahead.{ahead}
use Rattle.yaml_grammar.proofs.CutStarts.{start_dead, start_short, start_within}
use Rattle.yaml_blocks.proofs.twice.start_place.Goals as goal

pub bytes_ahead-requires-clause-within : goal.bytes_ahead-requires-clause-within
bytes_ahead-requires-clause-within c =
    subst (λ (b : List ℕ). c.look-next.result.behind ≤ length (take (length b - 1) b)) (sym c.as_bytes-bytes.ensures.value)
    (start_within c.args.text.now c.utf8.text c.text_start.result c.look-next.result c.text_start.ensures.is c.text_start.ensures.boundary c.look-next.ensures.0 c.requires.returned c.requires.nowhere)

pub returns-in-End : goal.returns-in-End
returns-in-End c =
    let value = c.as_bytes-bytes.ensures.value in
    let end = subst (λ (b : List ℕ). (ahead (take (length b - 1) b) false c.look-next.result.behind).token ≡ End) value (sym (ap (λ (a : Ahead). a.token) c.bytes_ahead.ensures) ∙ c.in-End.is) in
    start_short c.args.text.now c.utf8.text c.text_start.result c.look-next.result c.text_start.ensures.is c.text_start.ensures.boundary c.look-next.ensures.0 c.requires.returned c.requires.nowhere c.offset.result
    (c.offset.ensures ∙ ap (λ (b : List ℕ). length b) value) end

pub returns-in_default : goal.returns-in_default
returns-in_default c =
    let value = c.as_bytes-bytes.ensures.value in
    start_dead c.args.text.now c.utf8.text c.text_start.result c.look-next.result c.text_start.ensures.is c.text_start.ensures.boundary c.look-next.ensures.0 c.requires.returned c.requires.nowhere c.offset-in_default.result
    (c.offset-in_default.ensures ∙ ap (λ (b : List ℕ). length b - 1) value)
    (λ e. c.in_default.not-End (ap (λ (a : Ahead). a.token) c.bytes_ahead.ensures ∙ subst (λ (b : List ℕ). (ahead (take (length b - 1) b) false c.look-next.result.behind).token ≡ End) (sym value) e))
