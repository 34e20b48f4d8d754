use Rattle.std.proofs.Common.{ℕ, List, ◌++◌, codes, string_bytes, ap, ◌∙◌}
use Rattle.std.specs.List.{flat_map}
use Rattle.rule_generator.specs.GeneratedRules.{key_line, let_line, rule_line}
use Rattle.rule_generator.specs.code.SeenKeys.{key_seen, keys_seen}
use Rattle.rule_generator.proofs.MappedTurns.{join-end-map, join-turn-map}
use Rattle.rule_generator.proofs.Written.{four, written-last}
use Rattle.rule_generator.proofs.write.push_rule.Goals as goal

pub loop-key-preserved : goal.loop-key-preserved
loop-key-preserved c =
    join-turn-map key_seen c.args.keys.now c.loop-key.key-index (key_line c.args.number) c.key-item.result (string_bytes c.loop-key.out) (string_bytes c.push_key.new.out)
    (string_bytes c.push_head.new.out ++ flat_map (key_line c.args.number) (keys_seen c.args.keys.now)) c.loop-key-test.true c.key-item.is
    c.in_ok-push_key.ensures c.loop-key.invariant

pub returns : goal.returns
returns c =
    let out : List ℕ = string_bytes c.args.out.now in
    let lines : List ℕ = flat_map (key_line c.args.number) (keys_seen c.args.keys.now) in
    let first : List ℕ = let_line c.args.number c.args.name.now in
    let second : List ℕ = rule_line c.args.number in
    written-last c.push_str.result (string_bytes c.push_str.new.self) (string_bytes c.loop-key.out) (codes "}\n") (out ++ (((first ++ second) ++ lines) ++ codes "}\n"))
    c.push_str.ensures.bytes
    (ap (λ (t : List ℕ). t ++ codes "}\n")
    (join-end-map key_seen c.args.keys.now c.loop-key.key-index (key_line c.args.number) (string_bytes c.loop-key.out) (string_bytes c.push_head.new.out ++ lines) c.loop-key-test.false
    c.loop-key.invariant
    ∙ ap (λ (t : List ℕ). t ++ lines) (c.in_ok-push_head.ensures ∙ ap (λ (t : List ℕ). t ++ second) c.in_ok-push_let.ensures))
    ∙ four out first second lines (codes "}\n"))
