use Rattle.std.proofs.Common.{◌≡◌, ◌∙◌, ◌++◌, ◌∷◌, [], sym, ap, subst, List, map, Contains}
use Rattle.guard_syntax.specs.Syntax.{Rule}
use Rattle.guard_syntax.specs.code.Seen.{see_rule}
use Rattle.guard_syntax.specs.declared.syntax.RawFile.{RawFile}
use Rattle.guard_syntax.specs.declared.syntax.Rule.{Rule as RawRule}
use Rattle.rule_names.specs.code.Files.{file_of}
use Rattle.rule_names.specs.declared.file.RuleFile.{RuleFile}
use Rattle.clause_eval.specs.code.Engines.{see_engine}
use Rattle.rule_calls.specs.code.Reported.{AreVerdicts, rule_sites}
use Rattle.rule_calls.proofs.RulesListed.{all-rules, first_rules, is-among, none-given, one-more, some-given}
use Rattle.rule_calls.proofs.VerdictsListed.{line-says, rule-says, rule-there, verdicts-more, verdicts-other}
use Rattle.rule_calls.proofs.reported.rule_verdicts.Goals as goal

pub loop-rule-init : goal.loop-rule-init
loop-rule-init c = subst (AreVerdicts (see_engine c.args.engine.now).lines []) (sym c.new-verdicts.ensures.items) tt

pub unreachable-requires : goal.unreachable-requires
unreachable-requires c =
    let e = c.args.engine.now in
    let rule = see_rule c.rule-item.result in
    let same : c.deref-rule-items.result.now ≡ e.lines.store.file.now.raw.rules.items =
    c.deref-rule-items.ensures.value ∙ ap (λ (raw : RawFile). raw.rules.items) c.raw.ensures ∙ sym (ap (λ (f : RuleFile). f.raw.rules.items) e.lines.store_over) in
    let among : Contains (file_of e.lines.store.file.now).rules rule =
    subst (λ (rs : List RawRule). Contains (map see_rule rs) rule) same (is-among c.deref-rule-items.result.now c.loop-rule.rule-index c.rule-item.result c.loop-rule-test.true c.rule-item.is) in
    let plain = none-given rule.params c.as_slice.result.now c.is_empty.result c.as_slice.ensures c.is_empty.ensures c.if-not-is_empty.false in
    rule-there (see_engine e) c.requires rule among plain (sym c.in_default.ensures)

pub verdict_said-requires : goal.verdict_said-requires
verdict_said-requires c = line-says (see_engine c.args.engine.now) c.requires.rests.whole c.rule-item.result.site c.in-Some.line (sym c.in-Some.ensures)

pub loop-rule-preserved : goal.loop-rule-preserved
loop-rule-preserved c =
    let s = see_engine c.args.engine.now in
    let rule = see_rule c.rule-item.result in
    let plain = none-given rule.params c.as_slice.result.now c.is_empty.result c.as_slice.ensures c.is_empty.ensures c.if-not-is_empty.false in
    let before = first_rules c.deref-rule-items.result.now c.loop-rule.rule-index in
    let says = rule-says s c.requires.rests.whole rule.site c.in-Some.line (sym c.in-Some.ensures) c.verdict_said.result c.verdict_said.ensures in
    subst (λ (rs : List Rule). AreVerdicts s.lines (rule_sites rs) c.push.new.self.items)
    (sym (one-more c.deref-rule-items.result.now c.loop-rule.rule-index c.rule-item.result c.loop-rule-test.true c.rule-item.is))
    (subst (AreVerdicts s.lines (rule_sites (before ++ rule ∷ []))) (sym c.in_ok-push.ensures.items) (verdicts-more s.lines before rule c.loop-rule.verdicts.items c.verdict_said.result plain says c.loop-rule.invariant))

pub loop-rule-preserved-then-not-is_empty : goal.loop-rule-preserved-then-not-is_empty
loop-rule-preserved-then-not-is_empty c =
    let s = see_engine c.args.engine.now in
    let rule = see_rule c.rule-item.result in
    subst (λ (rs : List Rule). AreVerdicts s.lines (rule_sites rs) c.loop-rule.verdicts.items)
    (sym (one-more c.deref-rule-items.result.now c.loop-rule.rule-index c.rule-item.result c.loop-rule-test.true c.rule-item.is))
    (verdicts-other s.lines (first_rules c.deref-rule-items.result.now c.loop-rule.rule-index) rule c.loop-rule.verdicts.items (some-given rule.params c.as_slice.result.now c.is_empty.result c.as_slice.ensures c.is_empty.ensures c.if-not-is_empty.true) c.loop-rule.invariant)

pub returns : goal.returns
returns c =
    let e = c.args.engine.now in
    let s = see_engine e in
    let same : c.deref-rule-items.result.now ≡ e.lines.store.file.now.raw.rules.items =
    c.deref-rule-items.ensures.value ∙ ap (λ (raw : RawFile). raw.rules.items) c.raw.ensures ∙ sym (ap (λ (f : RuleFile). f.raw.rules.items) e.lines.store_over) in
    subst (λ (rs : List RawRule). AreVerdicts s.lines (rule_sites (map see_rule rs)) c.loop-rule.verdicts.items) same
    (subst (λ (rs : List Rule). AreVerdicts s.lines (rule_sites rs) c.loop-rule.verdicts.items) (all-rules c.deref-rule-items.result.now c.loop-rule.rule-index c.loop-rule-test.false) c.loop-rule.invariant)
