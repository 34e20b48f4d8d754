use Rattle.std.proofs.Common.{refl, sym, ap, ◌∙◌, subst}
use Rattle.std.proofs.lemmas.Result.{IfOk-weaker}
use Rattle.std.specs.Prelude.{option_and_then}
use Rattle.evidence_lines.specs.declared.line.LineKind.TheVariants as kind
use Rattle.guard_syntax.specs.Syntax.{literal}
use Rattle.rule_names.specs.EnclosingScopes.{home_of}
use Rattle.rule_names.specs.Pieces.{OfExpr}
use Rattle.rule_meaning.specs.StoreModel.{tree_of_piece}
use Rattle.engine_states.specs.code.Answers.{AnswersRows, StandsIn}
use Rattle.engine_states.specs.code.States.{IsWhole, State}
use Rattle.engine_states.proofs.Finished.{found-rows-answer}
use Rattle.engine_lines.specs.code.Lines.{see_lines}
use Rattle.engine_lines.proofs.engine.EngineLines.literal.Goals as goal

pub returns-in-Some : goal.returns-in-Some
returns-in-Some c =
    let s = see_lines c.args.self.now in
    found-rows-answer s c.requires.whole c.args.frame (home_of s.known.file c.args.site) (c.args.site, OfExpr (literal c.args.site c.args.tree.now)) c.requires.stands c.in-Some.line kind.Literal
    (sym c.in-Some.ensures) refl refl

pub keep_literal-requires : goal.keep_literal-requires
keep_literal-requires c = ap (option_and_then tree_of_piece) c.requires.stands.there

pub add_literal-requires-clause-whole : goal.add_literal-requires-clause-whole
add_literal-requires-clause-whole c = subst IsWhole (sym c.keep_literal.ensures) c.requires.whole

pub add_literal-requires-clause-stands : goal.add_literal-requires-clause-stands
add_literal-requires-clause-stands c =
    subst (λ (s : State). StandsIn s c.args.frame (c.args.site, OfExpr (literal c.args.site c.args.tree.now))) (sym c.keep_literal.ensures) c.requires.stands

pub add_literal-requires-clause-new : goal.add_literal-requires-clause-new
add_literal-requires-clause-new c = ap (λ (s : State). s.parts c.args.frame c.args.site) c.keep_literal.ensures ∙ sym c.in_default.ensures

pub returns : goal.returns
returns c =
    IfOk-weaker c.add_literal.result _ _ (λ number it.
    subst (λ (s : State). AnswersRows s (see_lines c.add_literal.new.self) c.args.frame kind.Literal c.args.site number) c.keep_literal.ensures it) c.add_literal.ensures
