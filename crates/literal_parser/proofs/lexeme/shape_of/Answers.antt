use Rattle.std.proofs.Common.{refl}
use Rattle.guard_lexer.specs.declared.token.TokenKind.TheVariants as k
use Rattle.literal_parser.proofs.Cuts.{said_cut}
use Rattle.literal_parser.proofs.lexeme.shape_of.Goals as goal

pub part_of-requires : goal.part_of-requires
part_of-requires c = said_cut c.args.text.now c.args.token k.Name c.utf8.text c.requires c.in-Name.is refl
