use Rattle.std.proofs.Common.{refl, ap, sym, ◌∙◌}
use Rattle.doc_values.specs.Tree.{Forest}
use Rattle.guard_syntax.specs.Syntax as sx
use Rattle.guard_syntax.specs.code.Seen.{see_expr}
use Rattle.literal_parser.specs.code.LiteralReading.{literal_of}
use Rattle.literal_parser.specs.code.Parser.{Parser, Read, and_then, pure}
use Rattle.literal_parser.specs.code.Reads.{site_of, source, state_of}
use Rattle.part_parser.specs.code.Reading.{tree_expr}
use Rattle.part_parser.specs.code.GrammarReads.{tree_expr_at}
use Rattle.part_parser.proofs.CodeSteps.{then_read, halted, tree_is}
use Rattle.part_parser.proofs.SeenForms.{literal-made}
use Rattle.part_parser.proofs.leaf_rules.tree_expr.Goals as goal

pub returns : goal.returns
unfolding tree_expr
returns c =
    then_read _ c.in_ok-site.ensures (ap (λ (p : Parser Forest). and_then (p (state_of c.opens.new.self) c.opens.new.self.seen) (λ t. pure (sx.literal c.in_ok-site.site t))) (tree_is (source c.args.tokens) c.args.tokens.turns site_of c.args.depth)
    ∙ then_read _ c.in_ok-tree.ensures refl)
    ∙ sym (ap (λ (q : sx.Expr). Read q (state_of c.literal.new.cursor) c.literal.new.cursor.seen) (literal-made c.in_ok-site.site c.in_ok-tree.tree))

pub returns-in_err-tree : goal.returns-in_err-tree
unfolding tree_expr
returns-in_err-tree c =
    halted (λ x. x) see_expr (literal_of (source c.args.tokens) c.args.tokens.turns c.args.depth (state_of c.opens.new.self) c.opens.new.self.seen)
    _ (tree_expr_at c.args.tokens c.args.depth (state_of c.args.cursor.now) c.args.cursor.now.seen) c.from_residual-in_err-tree.result c.in_err-tree.field-0.0 c.literal.new.cursor c.literal.new.cursor c.from_residual-in_err-tree.ensures.1
    (then_read _ c.in_ok-site.ensures (ap (λ (p : Parser Forest). and_then (p (state_of c.opens.new.self) c.opens.new.self.seen) (λ t. pure (sx.literal c.in_ok-site.site t))) (tree_is (source c.args.tokens) c.args.tokens.turns site_of c.args.depth))) c.in_err-tree.ensures
