-- How a condition and an expression begin, as the code asks it: the choices of the grammar, with what is chosen for the rule
-- that reads it.
use Rattle.std.specs.Prelude.{ℕ, Bool, true, false}
use Rattle.guard_syntax.specs.Syntax.{Expr, Part}
use Rattle.literal_parser.specs.Lexemes.{Lexeme}
use Rattle.literal_parser.specs.Forms.{is_any_name, is_constant, is_function_word, is_lparen, is_name, is_neg, is_operator_word, is_plain, is_some_word, is_start, opens_range}
use Rattle.literal_parser.specs.code.Parser.{Parser, ◌>>◌, pure, stop, takes, choose, choose_pair, choose_next, choose_third}
use Rattle.part_parser.specs.declared.lead.Lead.{Lead}
use Rattle.part_parser.specs.declared.lead.Lead.TheVariants as lead
use Rattle.part_parser.specs.declared.lead.ExprForm.{ExprForm}
use Rattle.part_parser.specs.declared.lead.ExprForm.TheVariants as form
use Rattle.part_parser.specs.code.Reading.{Inner, bodied, headed, ruled, tree_expr, applied, asked_expr}

module _ (s : ℕ → Lexeme) where
  -- the lead of a condition that begins with a name: such a token behind it says that it begins a query
  unfoldable pub lead_by_name : (ℕ → Bool) → Parser Lead
  lead_by_name behind = choose_next s behind (pure (lead.Query false))
      (choose_next s is_neg (choose_third s is_operator_word (pure (lead.Query false)) (pure (lead.Rule false))) (pure (lead.Rule false)))

  -- the lead of a condition, with the word or the mark before its query or its name
  unfoldable pub lead_of : (ℕ → Bool) → Parser Lead
  lead_of behind = choose s is_some_word (do takes s is_some_word; pure (lead.Query true))
      (choose s is_neg (do takes s is_neg; pure (lead.Rule true))
      (choose s is_name (lead_by_name behind) (choose s is_start (pure (lead.Query false)) stop)))

  -- what an expression is
  unfoldable pub expr_form : Parser ExprForm
  expr_form = choose s is_function_word (pure form.Word) (choose s is_any_name
      (choose_pair s opens_range (pure form.Literal) (choose_next s is_lparen (pure form.Function) (choose s is_constant (pure form.Literal) (pure form.Query))))
      (choose s is_plain (pure form.Literal) (pure form.Query)))

  module _ (turns : ℕ) (inner : Inner) where
    -- a condition behind its lead
    abbrev pub led_by : Bool → ℕ → Lead → Parser Part
    led_by full n (lead.Query any) = headed s turns inner full n any
    led_by full n (lead.Rule negated) = ruled s turns inner n negated

    -- an expression of a form
    abbrev pub expr_by : ExprForm → Parser Expr
    expr_by form.Word = bodied s turns inner (applied s turns inner)
    expr_by form.Literal = tree_expr s turns inner
    expr_by form.Function = applied s turns inner
    expr_by form.Query = asked_expr s turns inner
