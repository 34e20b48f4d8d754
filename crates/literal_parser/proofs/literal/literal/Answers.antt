use Rattle.literal_parser.specs.code.LiteralReading.{literal_of}
use Rattle.literal_parser.specs.code.LiteralReads.{with_tree, node_at}
use Rattle.literal_parser.specs.code.Reads.{itself, state_of, source}
use Rattle.literal_parser.proofs.LiteralSteps.{halted_whole, literal_read, literal_unread}
use Rattle.literal_parser.proofs.literal.literal.Goals as goal

pub returns : goal.returns
returns c = let r = c.in_ok-node.ensures.reads in
    literal_read (source c.args.tokens) c.args.tokens.turns c.args.depth c.new-builder.result c.node.new.builder c.finish.result r.0 (state_of c.args.cursor.now) (state_of c.node.new.cursor)
    c.args.cursor.now.seen c.node.new.cursor.seen c.new-builder.ensures r.1 r.2 c.finish.ensures.done

pub returns-in_err-node : goal.returns-in_err-node
returns-in_err-node c =
    let s = source c.args.tokens in
    let st = state_of c.args.cursor.now in
    let seen = c.args.cursor.now.seen in
    halted_whole itself (with_tree c.new-builder.result) (literal_of s c.args.tokens.turns c.args.depth st seen) (node_at c.args.tokens c.args.depth c.new-builder.result.key st seen)
    c.from_residual.result c.in_err-node.field-0.0 c.node.new.builder c.node.new.cursor c.node.new.cursor c.from_residual.ensures.1
    (λ k e. literal_unread s c.args.tokens.turns c.args.depth c.new-builder.result st seen k c.new-builder.ensures e)
    c.in_err-node.ensures.reads
