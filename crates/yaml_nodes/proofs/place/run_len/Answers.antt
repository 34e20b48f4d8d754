use Rattle.std.proofs.Common.{◌≡◌, ◌+◌, drop, slice_index, sym, ap, ◌∙◌, arith}
use Rattle.std.proofs.lemmas.List.{drop-drop}
use Rattle.yaml_grammar.proofs.Widths.{run_two, run_three}
use Rattle.std.proofs.lemmas.Grind.{common_steps}
use Rattle.yaml_nodes.proofs.place.run_len.Goals as goal

pub returns-then-not-has_byte-2-clause-count : goal.returns-then-not-has_byte-2-clause-count
returns-then-not-has_byte-2-clause-count c =
    let bytes = c.args.bytes.now in
    let at = c.args.at in
    let e : at + 2 ≡ at + 1 + 1 = omega arith in
    run_two (slice_index bytes at) (drop (at + 1) bytes) (drop (at + 2) bytes) (ap (λ n. drop n bytes) e ∙ sym (drop-drop 1 (at + 1) bytes)) (sym c.has_byte.ensures ∙ c.if-not-has_byte.false) (sym c.has_byte-2.ensures ∙ c.if-not-has_byte-2.true)

pub returns-clause-count : goal.returns-clause-count
returns-clause-count c =
    let bytes = c.args.bytes.now in
    let at = c.args.at in
    let e : at + 2 ≡ at + 1 + 1 = omega arith in
    run_three (slice_index bytes at) (drop (at + 1) bytes) (drop (at + 2) bytes) (ap (λ n. drop n bytes) e ∙ sym (drop-drop 1 (at + 1) bytes)) (sym c.has_byte.ensures ∙ c.if-not-has_byte.false) (sym c.has_byte-2.ensures ∙ c.if-not-has_byte-2.false)

pub returns-clause-within : goal.returns-clause-within
returns-clause-within c = grind (arith, common_steps)

pub has_byte-requires-2 : goal.has_byte-requires-2
has_byte-requires-2 c = grind (arith, common_steps)

pub returns-then-not-has_byte-2-clause-within : goal.returns-then-not-has_byte-2-clause-within
returns-then-not-has_byte-2-clause-within c = grind (arith, common_steps)
