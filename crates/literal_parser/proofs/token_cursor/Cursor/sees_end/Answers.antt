use Rattle.literal_parser.specs.Forms.{is_end}
use Rattle.literal_parser.specs.code.Reads.{source}
use Rattle.literal_parser.proofs.Places.{told}
use Rattle.literal_parser.proofs.token_cursor.Cursor.sees_end.Goals as goal

pub returns-clause-token : goal.returns-clause-token
returns-clause-token c =
    told is_end c.shape.result (source c.args.tokens c.args.self.now.at) c.is_end_of.result c.is_end_of.ensures c.shape.ensures
