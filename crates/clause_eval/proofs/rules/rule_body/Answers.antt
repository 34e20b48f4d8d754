use Rattle.std.proofs.Common.{ℕ, ap, ◌∙◌, List, [], ◌∷◌, ◌++◌}
use Rattle.std.proofs.lemmas.Option.{slice_get_within}
use Rattle.guard_syntax.specs.code.Seen.{see_opt_conds, see_rule}
use Rattle.engine_states.proofs.RulesAnswered.{file_frame, plain-ready, rule-body}
use Rattle.engine_lines.specs.code.Lines.{see_lines}
use Rattle.clause_eval.proofs.rules.rule_body.Goals as goal

pub current-current-requires : goal.current-current-requires
current-current-requires c = slice_get_within (see_lines c.args.engine.now).frames c.args.frame file_frame c.requires.frame

pub body_at-requires-clause-stands : goal.body_at-requires-clause-stands
body_at-requires-clause-stands c =
    rule-body (see_lines c.args.engine.now) c.requires.whole c.args.frame c.requires.frame c.args.engine.now.store.file.now.sites (see_rule c.args.rule.now) c.requires.rule c.current-current.result
    c.current-current.ensures

pub returns : goal.returns
returns c =
    plain-ready (see_lines c.args.engine.now) c.requires.whole c.args.frame c.requires.frame c.args.engine.now.store.file.now.sites (see_rule c.args.rule.now) c.requires.rule c.requires.new
    (ap see_opt_conds c.requires.none) c.current-current.result (see_lines c.body_at.new.engine) c.in_ok-said.said.line c.in_ok-said.said.verdict c.in_ok-said.ensures c.push.new.self.items
    (c.in_ok-push.ensures.items ∙ ap (λ (ns : List ℕ). ns ++ c.in_ok-said.said.line ∷ []) c.new-lines.ensures.items)
