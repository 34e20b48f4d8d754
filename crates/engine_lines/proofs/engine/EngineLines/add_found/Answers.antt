use Rattle.std.proofs.Common.{◌≡◌, ◌∙◌, ◌++◌, ◌∷◌, [], ap, subst, ℕ, List}
use Rattle.std.proofs.lemmas.Result.{IfOk-weaker}
use Rattle.evidence_lines.specs.declared.line.LineKind.TheVariants as kind
use Rattle.evidence_lines.specs.declared.line.Outcome.TheVariants as says
use Rattle.engine_states.specs.code.Adding.{Added}
use Rattle.engine_states.specs.code.Kinds.{own_kind}
use Rattle.engine_states.proofs.RowsAnswered.{asked-says, found-adds}
use Rattle.engine_lines.specs.code.Lines.{see_lines}
use Rattle.engine_lines.proofs.engine.EngineLines.add_found.Goals as goal

pub rows_said-requires : goal.rows_said-requires
rows_said-requires c =
    let said = asked-says (see_lines c.args.self.now) c.requires.whole c.args.frame c.args.site c.args.line c.requires.query in
    (said.0, said.1, said.2, c.requires.query.4, said.3)

pub add-requires-clause-kind : goal.add-requires-clause-kind
add-requires-clause-kind c = ap own_kind c.requires.query.1.there

pub add-requires-clause-adds : goal.add-requires-clause-adds
add-requires-clause-adds c =
    let said = asked-says (see_lines c.args.self.now) c.requires.whole c.args.frame c.args.site c.args.line c.requires.query in
    found-adds (see_lines c.args.self.now) c.requires.whole c.args.frame c.args.site c.args.line c.requires.query c.as_slice.result.now c.new.result c.push.new.self.items
    (c.as_slice.ensures ∙ c.in_ok-said.ensures ∙ c.rows_said.ensures said.0 said.1 said.2 c.requires.query.4 said.3) (c.new.ensures ∙ c.deref.ensures.value ∙ c.in_ok-rows.ensures)
    (c.in_ok-push.ensures.items ∙ ap (λ (ns : List ℕ). ns ++ c.args.line ∷ []) c.new-cites.ensures.items)

pub returns : goal.returns
returns c =
    let cites : c.push.new.self.items ≡ c.args.line ∷ [] = c.in_ok-push.ensures.items ∙ ap (λ (ns : List ℕ). ns ++ c.args.line ∷ []) c.new-cites.ensures.items in
    IfOk-weaker c.add.result _ _ (λ number added. (
      c.new.result,
      subst (λ (cs : List ℕ). Added (see_lines c.args.self.now) (see_lines c.add.new.self) c.args.frame c.args.site kind.Found cs (says.Rows c.new.result) number) cites added,
    )) c.add.ensures
