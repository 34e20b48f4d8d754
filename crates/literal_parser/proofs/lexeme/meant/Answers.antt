use Rattle.std.proofs.Common.{refl, subst, sym}
use Rattle.guard_lexer.specs.declared.token.TokenKind.TheVariants as k
use Rattle.literal_parser.specs.code.Cuts.{IsEdged, IsFramed}
use Rattle.literal_parser.proofs.Cuts.{said_cut, said_edged, quoted_cut, quoted_edged}
use Rattle.literal_parser.proofs.lexeme.meant.Goals as goal

pub part_of-requires : goal.part_of-requires
part_of-requires c = said_cut c.args.text.now c.args.token k.Name c.utf8.text c.requires c.in-Name.is refl

pub part_of-requires-in-TypeName : goal.part_of-requires-in-TypeName
part_of-requires-in-TypeName c = said_cut c.args.text.now c.args.token k.TypeName c.utf8.text c.requires c.in-TypeName.is refl

pub part_of-requires-in-Var : goal.part_of-requires-in-Var
part_of-requires-in-Var c = said_cut c.args.text.now c.args.token k.Var c.utf8.text c.requires c.in-Var.is refl

pub variable_of-requires : goal.variable_of-requires
variable_of-requires c = subst IsEdged (sym c.part_of-in-Var.ensures) (said_edged c.args.text.now c.args.token k.Var c.requires c.in-Var.is refl)

pub part_of-requires-in-Str : goal.part_of-requires-in-Str
part_of-requires-in-Str c = quoted_cut c.args.text.now c.args.token c.utf8.text c.requires c.in-Str.is

pub unquoted-requires : goal.unquoted-requires
unquoted-requires c = subst IsEdged (sym c.part_of-in-Str.ensures) (quoted_edged c.args.text.now c.args.token c.requires c.in-Str.is)

pub part_of-requires-in-Note : goal.part_of-requires-in-Note
part_of-requires-in-Note c = said_cut c.args.text.now c.args.token k.Note c.utf8.text c.requires c.in-Note.is refl

pub note_of-requires : goal.note_of-requires
note_of-requires c = subst IsFramed (sym c.part_of-in-Note.ensures) (c.requires.signs c.in-Note.is)
