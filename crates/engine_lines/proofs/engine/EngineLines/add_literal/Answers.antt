use Rattle.std.proofs.Common.{refl, ap, ◌∙◌, [], ◌∷◌}
use Rattle.std.proofs.lemmas.Result.{IfOk-weaker}
use Rattle.evidence_lines.specs.declared.line.LineKind.TheVariants as kind
use Rattle.evidence_lines.specs.declared.line.Outcome.TheVariants as says
use Rattle.guard_syntax.specs.Syntax.{literal}
use Rattle.guard_syntax.specs.declared.row.Row.TheVariants.{Found}
use Rattle.rule_names.specs.EnclosingScopes.{home_of}
use Rattle.rule_names.specs.Pieces.{OfExpr}
use Rattle.engine_states.proofs.AddsRows.{adds-literal}
use Rattle.engine_states.proofs.Finished.{leaf-answer, rows-told}
use Rattle.engine_lines.specs.code.Lines.{see_lines}
use Rattle.engine_lines.proofs.engine.EngineLines.add_literal.Goals as goal

pub add-requires-clause-adds : goal.add-requires-clause-adds
add-requires-clause-adds c =
    adds-literal (see_lines c.args.self.now) c.requires.whole c.args.frame c.args.site c.args.tree.now c.new.result.items c.new-2.result c.requires.stands c.len-nodes.ensures.tree
    c.new.ensures.items
    (c.new-2.ensures ∙ ap (λ r. Found r ∷ []) c.root_of_literal.ensures)

pub returns : goal.returns
returns c =
    let s = see_lines c.args.self.now in
    IfOk-weaker c.add.result _ _ (λ number added.
    rows-told s (see_lines c.add.new.self) c.args.frame c.args.site number kind.Literal c.new-2.result
    (leaf-answer s (see_lines c.add.new.self) c.requires.whole c.args.frame (home_of s.known.file c.args.site) (c.args.site, OfExpr (literal c.args.site c.args.tree.now)) c.requires.stands
    kind.Literal c.new.result.items (says.Rows c.new-2.result) number refl added)) c.add.ensures
