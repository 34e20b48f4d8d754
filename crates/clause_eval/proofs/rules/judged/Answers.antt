use Rattle.std.proofs.Common.{sym, ◌∙◌}
use Rattle.guard_syntax.specs.code.Seen.{see_rule}
use Rattle.engine_states.proofs.RulesAnswered.{judged-again, rule-says}
use Rattle.engine_states.proofs.RulesJudged.{judged, may-judge-later}
use Rattle.engine_lines.specs.code.Lines.{see_lines}
use Rattle.clause_eval.proofs.rules.judged.Goals as goal

pub verdict_said-requires : goal.verdict_said-requires
verdict_said-requires c = rule-says (see_lines c.args.engine.now) c.requires.rests c.args.rule.now.site c.in-Some.line (sym c.in-Some.ensures)

pub returns-in-Some : goal.returns-in-Some
returns-in-Some c =
    judged-again (see_lines c.args.engine.now) c.requires.rests c.args.rule.now.site c.in-Some.line (sym c.in-Some.ensures) c.verdict_said.result c.verdict_said.ensures

pub rule_cites-requires-clause-rule : goal.rule_cites-requires-clause-rule
rule_cites-requires-clause-rule c =
    may-judge-later (see_lines c.args.engine.now) (see_lines c.enter_root.new.self) c.in_ok-frame.ensures.evaluates.grows c.requires.rests.whole c.in_ok-frame.ensures.evaluates.whole
    (see_rule c.args.rule.now) c.requires.rule

pub rule_cites-requires-clause-new : goal.rule_cites-requires-clause-new
rule_cites-requires-clause-new c = c.in_ok-frame.ensures.evaluates.rules c.args.rule.now.site ∙ sym c.in_default.ensures

pub returns : goal.returns
returns c =
    judged (see_lines c.args.engine.now) (see_lines c.enter_root.new.self) (see_lines c.rule_cites.new.engine) (see_lines c.add_rule.new.self) c.in_ok-frame.frame c.args.rule.now.site
    c.in_ok-add_rule.field-0 c.in_ok-cited.cited.lines.items c.in_ok-cited.cited.verdict c.requires.rests c.in_ok-frame.ensures c.in_ok-cited.ensures c.in_ok-add_rule.ensures
