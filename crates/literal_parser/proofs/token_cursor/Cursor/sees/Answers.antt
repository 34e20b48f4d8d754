use Rattle.literal_parser.specs.code.TokenClasses.{wants}
use Rattle.literal_parser.specs.code.Reads.{source}
use Rattle.literal_parser.proofs.Places.{told}
use Rattle.literal_parser.proofs.token_cursor.Cursor.sees.Goals as goal

pub returns-clause-token : goal.returns-clause-token
returns-clause-token c =
    told (wants c.args.want) c.shape.result (source c.args.tokens c.args.self.now.at) c.accepts.result c.accepts.ensures c.shape.ensures
