use Rattle.std.proofs.Common.{ℕ, sym, ap, ◌∙◌, List, [], ◌∷◌, ◌++◌}
use Rattle.guard_syntax.specs.code.Seen.{see_conds, see_opt_conds, see_rule}
use Rattle.engine_states.proofs.RulesAnswered.{met-body, met-framed, met-ready, unmet-ready}
use Rattle.engine_states.proofs.RulesJudged.{conditions-stand}
use Rattle.engine_lines.specs.code.Lines.{see_lines}
use Rattle.clause_eval.proofs.rules.rule_cites.Goals as goal

pub conditions-requires-clause-stands : goal.conditions-requires-clause-stands
conditions-requires-clause-stands c =
    conditions-stand (see_lines c.args.engine.now) c.requires.whole c.args.frame c.requires.frame c.args.engine.now.store.file.now.sites (see_rule c.args.rule.now) c.requires.rule
    (see_conds c.in-Some.cond) (ap see_opt_conds c.in-Some.is)

pub returns-then-not-is_pass : goal.returns-then-not-is_pass
returns-then-not-is_pass c =
    unmet-ready (see_lines c.args.engine.now) c.requires.whole c.args.frame c.requires.frame c.args.engine.now.store.file.now.sites (see_rule c.args.rule.now) c.requires.rule c.requires.new
    (see_conds c.in-Some.cond) (ap see_opt_conds c.in-Some.is) (see_lines c.conditions.new.engine) c.in_ok-conditions.conditions.line c.in_ok-conditions.conditions.verdict
    c.in_ok-conditions.ensures (sym c.is_pass.ensures ∙ c.if-not-is_pass.true) c.push.new.self.items
    (c.in_ok-push.ensures.items ∙ ap (λ (ns : List ℕ). ns ++ c.in_ok-conditions.conditions.line ∷ []) c.new-lines.ensures.items)

pub current-current-requires : goal.current-current-requires
current-current-requires c =
    met-framed (see_lines c.args.engine.now) c.requires.whole c.args.frame c.requires.frame c.args.engine.now.store.file.now.sites (see_rule c.args.rule.now) c.requires.rule c.requires.new
    (see_conds c.in-Some.cond) (ap see_opt_conds c.in-Some.is) (see_lines c.conditions.new.engine) c.in_ok-conditions.conditions.line c.in_ok-conditions.conditions.verdict
    c.in_ok-conditions.ensures

pub body_at-requires-clause-stands : goal.body_at-requires-clause-stands
body_at-requires-clause-stands c =
    met-body (see_lines c.args.engine.now) c.requires.whole c.args.frame c.requires.frame c.args.engine.now.store.file.now.sites (see_rule c.args.rule.now) c.requires.rule c.requires.new
    (see_conds c.in-Some.cond) (ap see_opt_conds c.in-Some.is) (see_lines c.conditions.new.engine) c.in_ok-conditions.conditions.line c.in_ok-conditions.conditions.verdict
    c.in_ok-conditions.ensures c.current-current.result c.current-current.ensures

pub returns : goal.returns
returns c =
    met-ready (see_lines c.args.engine.now) c.requires.whole c.args.frame c.requires.frame c.args.engine.now.store.file.now.sites (see_rule c.args.rule.now) c.requires.rule c.requires.new
    (see_conds c.in-Some.cond) (ap see_opt_conds c.in-Some.is) (see_lines c.conditions.new.engine) c.in_ok-conditions.conditions.line c.in_ok-conditions.conditions.verdict
    c.in_ok-conditions.ensures c.current-current.result (see_lines c.body_at.new.engine) c.in_ok-said.said.line c.in_ok-said.said.verdict c.in_ok-said.ensures
    (sym c.is_pass.ensures ∙ c.if-not-is_pass.false) c.push-2.new.self.items
    (c.in_ok-push-2.ensures.items ∙ ap (λ (ns : List ℕ). ns ++ c.in_ok-said.said.line ∷ [])
    (c.in_ok-push.ensures.items ∙ ap (λ (ns : List ℕ). ns ++ c.in_ok-conditions.conditions.line ∷ []) c.new-lines.ensures.items))
