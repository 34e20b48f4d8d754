use Rattle.std.proofs.Common.{◌∙◌, ◌<◌, Some, sym, ap, subst}
use Rattle.std.proofs.lemmas.Option.{slice_get_within}
use Rattle.guard_syntax.specs.code.Seen.{see_part}
use Rattle.rule_names.specs.code.Files.{file_of}
use Rattle.rule_names.proofs.Shapes.{block-seen, kinds-seen, when-seen}
use Rattle.evidence_rules.specs.CitedLines.{args_of_part}
use Rattle.engine_states.proofs.Insides.{refer-seen, test-seen}
use Rattle.engine_states.proofs.ParametersRead.{param-caller, param-expr, param-find, param-parent, param-part, param-piece, param-within}
use Rattle.engine_states.proofs.PiecesLeft.{part-only}
use Rattle.clause_eval.proofs.names.argument_given.Goals as goal

pub bounds-entered-frame : goal.bounds-entered-frame
bounds-entered-frame c = slice_get_within c.args.entered.now c.args.frame (record { parent = Some c.requires.0; site = c.requires.2.0; current = c.requires.2.1 }) c.requires.2.3

pub unreachable-requires : goal.unreachable-requires
unreachable-requires c = param-parent (file_of c.args.file.now) c.args.entered.now c.args.frame c.args.index c.requires _ c.in_default.is

pub unreachable-requires-in_default-find : goal.unreachable-requires-in_default-find
unreachable-requires-in_default-find c = param-find (file_of c.args.file.now) c.args.entered.now c.args.frame c.args.index c.requires _ c.in_default-find.ensures

pub unreachable-requires-in_default-piece : goal.unreachable-requires-in_default-piece
unreachable-requires-in_default-piece c =
    part-only c.in-Some-find.piece c.requires.2.2 c.in_default-piece.not-Part (param-piece (file_of c.args.file.now) c.args.entered.now c.args.frame c.args.index c.requires _ c.in-Some-find.piece c.in-Some-find.ensures)

pub index-requires : goal.index-requires
index-requires c =
    subst (λ n. c.args.index < n) (sym c.in-Call.args.ok.0)
    (param-within (file_of c.args.file.now) c.args.entered.now c.args.frame c.args.index c.requires _ c.in-Some-find.piece c.in-Part.part c.in-Call.site c.in-Call.not c.in-Call.name c.in-Call.args c.in-Call.note c.in-Some-find.ensures c.in-Part.is c.in-Call.is)

pub unreachable-requires-in-Block : goal.unreachable-requires-in-Block
unreachable-requires-in-Block c =
    param-part (file_of c.args.file.now) c.args.entered.now c.args.frame c.args.index c.requires _ c.in-Some-find.piece c.in-Part.part c.in-Some-find.ensures c.in-Part.is
    (ap args_of_part (ap see_part c.in-Block.is ∙ block-seen c.in-Block.site c.in-Block.any c.in-Block.head c.in-Block.body))

pub unreachable-requires-in-When : goal.unreachable-requires-in-When
unreachable-requires-in-When c =
    param-part (file_of c.args.file.now) c.args.entered.now c.args.frame c.args.index c.requires _ c.in-Some-find.piece c.in-Part.part c.in-Some-find.ensures c.in-Part.is
    (ap args_of_part (ap see_part c.in-When.is ∙ when-seen c.in-When.site c.in-When.cond c.in-When.body))

pub unreachable-requires-in-Kinds : goal.unreachable-requires-in-Kinds
unreachable-requires-in-Kinds c =
    param-part (file_of c.args.file.now) c.args.entered.now c.args.frame c.args.index c.requires _ c.in-Some-find.piece c.in-Part.part c.in-Some-find.ensures c.in-Part.is
    (ap args_of_part (ap see_part c.in-Kinds.is ∙ kinds-seen c.in-Kinds.site c.in-Kinds.name c.in-Kinds.cond c.in-Kinds.body))

pub unreachable-requires-in-Test : goal.unreachable-requires-in-Test
unreachable-requires-in-Test c =
    param-part (file_of c.args.file.now) c.args.entered.now c.args.frame c.args.index c.requires _ c.in-Some-find.piece c.in-Part.part c.in-Some-find.ensures c.in-Part.is
    (ap args_of_part (ap see_part c.in-Test.is ∙ test-seen c.in-Test.site c.in-Test.any c.in-Test.left c.in-Test.op c.in-Test.not c.in-Test.right c.in-Test.note))

pub unreachable-requires-in-Refer : goal.unreachable-requires-in-Refer
unreachable-requires-in-Refer c =
    param-part (file_of c.args.file.now) c.args.entered.now c.args.frame c.args.index c.requires _ c.in-Some-find.piece c.in-Part.part c.in-Some-find.ensures c.in-Part.is
    (ap args_of_part (ap see_part c.in-Refer.is ∙ refer-seen c.in-Refer.site c.in-Refer.not c.in-Refer.name c.in-Refer.note))

pub returns : goal.returns
returns c caller e argument = (
  param-caller (file_of c.args.file.now) c.args.entered.now c.args.frame c.args.index (caller, e, argument) _ c.in-Some.caller c.in-Some.is,
  param-expr (file_of c.args.file.now) c.args.entered.now c.args.frame c.args.index (caller, e, argument) _ c.in-Some-find.piece c.in-Part.part c.in-Call.site c.in-Call.not c.in-Call.name c.in-Call.args c.in-Call.note c.in-Some-find.ensures c.in-Part.is c.in-Call.is
      c.index.result.now c.index.ensures,
)
