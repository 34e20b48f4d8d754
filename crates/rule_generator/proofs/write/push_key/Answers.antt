use Rattle.std.proofs.Common.{ℕ, List, ◌++◌, codes, decimal, string_bytes, ap, ◌∙◌}
use Rattle.std.specs.List.{join_by}
use Rattle.doc_values.specs.declared.cursor.Cursor.{Cursor}
use Rattle.rule_generator.specs.GeneratedRules.{value_text}
use Rattle.rule_generator.specs.code.Seen.{values_seen}
use Rattle.rule_generator.proofs.Written.{three, written-last}
use Rattle.rule_generator.proofs.write.push_key.Goals as goal
use Rattle.rule_meaning.specs.Values.{Value}
use Rattle.rule_spelling.specs.Spelling.{quoted}

pub returns : goal.returns
returns c =
    let out : List ℕ = string_bytes c.args.out.now in
    let head : List ℕ = codes "  %t" ++ decimal c.args.number ++ codes ".Properties." ++ quoted c.args.kept.now.key.now ++ codes " IN [" in
    let values : List Value = values_seen c.args.kept.now.values.items in
    written-last c.push_str.result (string_bytes c.push_str.new.self) (string_bytes c.push_values.new.out) (codes "]\n") (out ++ ((head ++ join_by value_text (codes ", ") values) ++ codes "]\n"))
    c.push_str.ensures.bytes
    (ap (λ (t : List ℕ). t ++ codes "]\n")
    (c.in_ok-push_values.ensures
    ∙ ap (λ (nodes : List Cursor). string_bytes c.push_key_head.new.out ++ join_by value_text (codes ", ") (values_seen nodes)) c.deref.ensures.value
    ∙ ap (λ (t : List ℕ). t ++ join_by value_text (codes ", ") values) c.in_ok-push_key_head.ensures)
    ∙ three out head (join_by value_text (codes ", ") values) (codes "]\n"))
