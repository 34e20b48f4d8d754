use Rattle.std.proofs.Common.{ℕ, ap, ◌∙◌, List, [], ◌∷◌, ◌++◌}
use Rattle.engine_states.proofs.RulesAnswered.{loose-asks, loose-ready, loose-seen}
use Rattle.engine_lines.specs.code.Lines.{see_lines}
use Rattle.clause_eval.proofs.rules.loose_cites.Goals as goal

pub conjunction-requires-clause-stands : goal.conjunction-requires-clause-stands
conjunction-requires-clause-stands c =
    loose-asks (see_lines c.args.engine.now) c.requires.whole c.args.frame c.requires.frame c.args.engine.now.store.file.now.sites c.requires.loose c.deref.result.now
    (loose-seen c.args.engine.now.store.file.now c.args.engine.now.file.now c.raw.result.now c.deref.result.now c.args.engine.now.store_over c.raw.ensures c.deref.ensures.value)

pub returns : goal.returns
returns c =
    loose-ready (see_lines c.args.engine.now) c.requires.whole c.args.frame c.requires.frame c.args.engine.now.store.file.now.sites c.requires.loose c.requires.new (see_lines c.conjunction.new.engine)
    c.in_ok-said.said.line c.in_ok-said.said.verdict c.in_ok-said.ensures c.push.new.self.items
    (c.in_ok-push.ensures.items ∙ ap (λ (ns : List ℕ). ns ++ c.in_ok-said.said.line ∷ []) c.new-lines.ensures.items)
