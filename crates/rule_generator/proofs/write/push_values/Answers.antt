use Rattle.std.proofs.Common.{ℕ, List, ◌++◌, codes, string_bytes, ap, sym, ◌∙◌, append_assoc}
use Rattle.std.specs.List.{flat_map, join_by}
use Rattle.doc_values.specs.declared.cursor.Cursor.{Cursor}
use Rattle.rule_generator.specs.GeneratedRules.{value_text}
use Rattle.rule_generator.specs.code.Seen.{see, values_seen}
use Rattle.rule_generator.proofs.MappedTurns.{join-end-map, join-turn-map}
use Rattle.rule_generator.proofs.write.push_values.Goals as goal
use Rattle.rule_meaning.specs.Values.{Value}

abbrev further : Value → List ℕ
further v = codes ", " ++ value_text v

pub loop-value-preserved : goal.loop-value-preserved
loop-value-preserved c =
    join-turn-map see c.in-Some.rest.now c.loop-value.value-index further c.value-item.result (string_bytes c.loop-value.out) (string_bytes c.push_scalar-in-loop-value.new.out)
    (string_bytes c.push_scalar.new.out ++ flat_map further (values_seen c.in-Some.rest.now)) c.loop-value-test.true c.value-item.is
    (c.in_ok-push_scalar-2.ensures ∙ ap (λ (t : List ℕ). t ++ value_text (see c.value-item.result)) c.in_ok-push_str.ensures.bytes
    ∙ append_assoc (string_bytes c.loop-value.out) (codes ", ") (value_text (see c.value-item.result)))
    c.loop-value.invariant

pub returns : goal.returns
returns c =
    let out : List ℕ = string_bytes c.args.out.now in
    let rest : List ℕ = flat_map further (values_seen c.in-Some.rest.now) in
    join-end-map see c.in-Some.rest.now c.loop-value.value-index further (string_bytes c.loop-value.out) (string_bytes c.push_scalar.new.out ++ rest) c.loop-value-test.false c.loop-value.invariant
    ∙ ap (λ (t : List ℕ). t ++ rest) c.in_ok-push_scalar.ensures
    ∙ append_assoc out (value_text (see c.in-Some.first.now)) rest
    ∙ ap (λ (nodes : List Cursor). out ++ join_by value_text (codes ", ") (values_seen nodes)) (sym c.in-Some.ensures.cases.0)
