use Rattle.std.proofs.Common.{◌≡◌, ℕ, ◌+◌, ◌≤◌, List, ◌++◌, length, [], string_bytes, ap, subst, ◌∙◌, arith}
use Rattle.doc_values.specs.Limits.{rules_limit}
use Rattle.rule_generator.specs.code.Groups.{grouped_text}
use Rattle.rule_generator.specs.code.SeenGroups.{see_groups}
use Rattle.rule_generator.proofs.GroupTurns.{group-end, group-turn}
use Rattle.rule_generator.proofs.RuleTexts.{front-short}
use Rattle.rule_generator.proofs.generator.rules_of.Goals as goal

pub loop-i-init : goal.loop-i-init
loop-i-init c = record {
  text = ap (λ (t : List ℕ). t ++ grouped_text (see_groups c.args.groups.now)) c.new-out.ensures.bytes;
  within = let e : length (string_bytes c.new-out.result) ≡ 0 = ap length c.new-out.ensures.bytes in omega arith;
  few = omega arith;
}

pub loop-i-preserved : goal.loop-i-preserved
loop-i-preserved c = record {
  text = group-turn c.args.groups.now.types.keys c.as_slice-names.result.now c.args.groups.now.members.items c.loop-i.i (record { ref_ptr = (0, 0); now = [] }) c.index.result.now c.deref.result.now
      c.loop-i.number c.in_ok-number.number (string_bytes c.loop-i.out) (string_bytes c.push_group.new.out) (grouped_text (see_groups c.args.groups.now))
      c.as_slice-names.ensures.keys c.requires c.loop-i-test.true c.index.ensures c.deref.ensures.value c.in_ok-number.ensures.text c.loop-i.invariant.text;
  within = let e : c.len.result ≡ length (string_bytes c.push_group.new.out) = c.len.ensures ∙ c.push_group.new.out.bytes.ok.0 in omega arith;
  few = let n : c.in_ok-number.number ≤ c.loop-i.number + 1 = c.in_ok-number.ensures.next in let f : c.loop-i.number ≤ c.loop-i.i + 1 = c.loop-i.invariant.few in omega arith;
}

pub returns-then-len-gt-RULES_LIMIT-clause-too_long : goal.returns-then-len-gt-RULES_LIMIT-clause-too_long
returns-then-len-gt-RULES_LIMIT-clause-too_long c = λ _.
    let e : c.len.result ≡ length (string_bytes c.push_group.new.out) = c.len.ensures ∙ c.push_group.new.out.bytes.ok.0 in
    let short : length (string_bytes c.push_group.new.out) ≤ length (grouped_text (see_groups c.args.groups.now)) =
    front-short (string_bytes c.push_group.new.out) _ (grouped_text (see_groups c.args.groups.now))
    (group-turn c.args.groups.now.types.keys c.as_slice-names.result.now c.args.groups.now.members.items c.loop-i.i (record { ref_ptr = (0, 0); now = [] }) c.index.result.now c.deref.result.now
    c.loop-i.number c.in_ok-number.number (string_bytes c.loop-i.out) (string_bytes c.push_group.new.out) (grouped_text (see_groups c.args.groups.now))
    c.as_slice-names.ensures.keys c.requires c.loop-i-test.true c.index.ensures c.deref.ensures.value c.in_ok-number.ensures.text c.loop-i.invariant.text) in
    omega arith

pub returns-clause-text : goal.returns-clause-text
returns-clause-text c =
    group-end c.args.groups.now.types.keys c.as_slice-names.result.now c.args.groups.now.members.items c.loop-i.i c.loop-i.number (string_bytes c.loop-i.out) (grouped_text (see_groups c.args.groups.now))
    c.as_slice-names.ensures.keys c.loop-i-test.false c.loop-i.invariant.text

pub returns-clause-within : goal.returns-clause-within
returns-clause-within c =
    let e : string_bytes c.loop-i.out ≡ grouped_text (see_groups c.args.groups.now) =
    group-end c.args.groups.now.types.keys c.as_slice-names.result.now c.args.groups.now.members.items c.loop-i.i c.loop-i.number (string_bytes c.loop-i.out) (grouped_text (see_groups c.args.groups.now))
    c.as_slice-names.ensures.keys c.loop-i-test.false c.loop-i.invariant.text in
    subst (λ (t : List ℕ). length t ≤ rules_limit) e c.loop-i.invariant.within
