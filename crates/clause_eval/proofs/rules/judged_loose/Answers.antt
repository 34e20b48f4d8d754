use Rattle.std.proofs.Common.{sym, ◌∙◌}
use Rattle.engine_states.proofs.RulesAnswered.{judged-again, may-loose-later, rule-says}
use Rattle.engine_states.proofs.RulesJudged.{judged}
use Rattle.engine_lines.specs.code.Lines.{see_lines}
use Rattle.clause_eval.proofs.rules.judged_loose.Goals as goal

pub verdict_said-requires : goal.verdict_said-requires
verdict_said-requires c = rule-says (see_lines c.args.engine.now) c.requires.rests 0 c.in-Some.line (sym c.in-Some.ensures)

pub returns-in-Some : goal.returns-in-Some
returns-in-Some c = judged-again (see_lines c.args.engine.now) c.requires.rests 0 c.in-Some.line (sym c.in-Some.ensures) c.verdict_said.result c.verdict_said.ensures

pub loose_cites-requires-clause-loose : goal.loose_cites-requires-clause-loose
loose_cites-requires-clause-loose c =
    may-loose-later (see_lines c.args.engine.now) (see_lines c.enter_root.new.self) c.in_ok-frame.ensures.evaluates.grows c.requires.rests.whole c.in_ok-frame.ensures.evaluates.whole c.requires.loose

pub loose_cites-requires-clause-new : goal.loose_cites-requires-clause-new
loose_cites-requires-clause-new c = c.in_ok-frame.ensures.evaluates.rules 0 ∙ sym c.in_default.ensures

pub returns : goal.returns
returns c =
    judged (see_lines c.args.engine.now) (see_lines c.enter_root.new.self) (see_lines c.loose_cites.new.engine) (see_lines c.add_rule.new.self) c.in_ok-frame.frame 0 c.in_ok-add_rule.field-0
    c.in_ok-cited.cited.lines.items c.in_ok-cited.cited.verdict c.requires.rests c.in_ok-frame.ensures c.in_ok-cited.ensures c.in_ok-add_rule.ensures
