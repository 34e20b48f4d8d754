use Rattle.std.proofs.Common.{◌≡◌, map, drop}
use Rattle.literal_parser.specs.Lexemes.{keyword_in}
use Rattle.literal_parser.specs.code.TokenClasses.{spelling}
use Rattle.literal_parser.proofs.lexeme.keyword_among.Given as goal

abbrev pub invariant-loop-row : goal.invariant-loop-row
invariant-loop-row l = keyword_in (map spelling (drop l.row-index l.rows)) l.name ≡ keyword_in (map spelling l.rows) l.name
