-- The rules of the grammar over the tokens of a text, and what they read as it is seen.
use Rattle.std.specs.Prelude.{ℕ, Bool, true, List, map, if◌then◌else◌}
use Rattle.std.specs.Global.{Vec}
use Rattle.literal_parser.specs.Forms.{is_lparen, is_dot, is_first_key, is_index, is_key, is_keys, is_rbrace, is_rparen, is_rbracket, is_star, is_this, is_var, index_of, named_of, text_of}
use Rattle.guard_syntax.specs.declared.syntax.Op.{Op}
use Rattle.guard_syntax.specs.Syntax as sx
use Rattle.guard_syntax.specs.code.Seen.{prepend, let_list, disj_list, part_list, step_list, expr_list, see_let, see_disj, see_part, see_step, see_expr}
use Rattle.guard_syntax.specs.declared.syntax.Let.{Let}
use Rattle.guard_syntax.specs.declared.syntax.Disj.{Disj}
use Rattle.guard_syntax.specs.declared.syntax.Part.{Part}
use Rattle.guard_syntax.specs.declared.syntax.Step.{Step}
use Rattle.guard_syntax.specs.declared.syntax.Expr.{Expr}
use Rattle.literal_parser.specs.declared.token_cursor.Tokens.{Tokens}
use Rattle.literal_parser.specs.code.Reads.{site_of, source}
use Rattle.literal_parser.specs.code.Parser.{Outcome, Parser, and_then, ◌>>=◌, ◌>>◌, pure, stop, opens, takes, has, choose}
use Rattle.part_parser.specs.code.Reading as spec

-- a reader goes on with the list that is read, behind items
abbrev pub listed : {X L A : Type 0} → (X → L → L) → (L → Parser A) → List X → Outcome L → Outcome A
listed more next front r = and_then r (λ l. next (prepend more front l))

-- ---- what vectors hold

abbrev pub see_disjs : Vec Disj → sx.Disjs
see_disjs ds = disj_list (map see_disj ds.items)

abbrev pub see_parts : Vec Part → sx.Parts
see_parts ps = part_list (map see_part ps.items)

abbrev pub see_steps : Vec Step → sx.Steps
see_steps ps = step_list (map see_step ps.items)

abbrev pub see_exprs : Vec Expr → sx.Exprs
see_exprs es = expr_list (map see_expr es.items)

abbrev pub see_items : Vec Let → Vec Disj → spec.BodyItems
see_items ls ds = (let_list (map see_let ls.items), disj_list (map see_disj ds.items))

-- a reader goes on with the lets and parts that are read, behind others
abbrev pub gathered : {A : Type 0} → (spec.BodyItems → Parser A) → List sx.Let → List sx.Disj → Outcome spec.BodyItems → Outcome A
gathered next ls ds r = and_then r (λ p. next (prepend sx.more_lets ls p.0, prepend sx.more_disjs ds p.1))

-- what is read of a filter on keys
abbrev pub KeyTest : Type 0
KeyTest = (Op × Bool) × sx.Expr

abbrev pub see_key_test : (Op × Bool) × Expr → KeyTest
see_key_test t = (t.0, see_expr t.1)

-- ---- the rules of the grammar over the tokens of a text, with brackets no deeper than a number

abbrev pub inner : Tokens → ℕ → spec.Inner
inner tokens depth = spec.numbered (source tokens) tokens.turns site_of depth

-- parts of the rules for steps and starts, which hold no brackets
module _ (tokens : Tokens) where
  abbrev pub dotted_at : ℕ → Parser sx.Step
  dotted_at n = takes (source tokens) is_dot >> choose (source tokens) is_star (takes (source tokens) is_star >> pure (sx.every n))
      (choose (source tokens) is_index (has (source tokens) is_index index_of >>= (λ i. pure (sx.index n i)))
      (choose (source tokens) is_var (has (source tokens) is_var named_of >>= (λ name. pure (sx.splice n name)))
      (has (source tokens) is_key text_of >>= (λ name. pure (sx.key n name)))))

  abbrev pub start_at : Parser sx.Step
  start_at = opens (source tokens) site_of >>= (λ n. choose (source tokens) is_this (takes (source tokens) is_this >> pure (sx.this n))
      (choose (source tokens) is_var (has (source tokens) is_var text_of >>= (λ name. pure (sx.var n name)))
      (has (source tokens) is_first_key text_of >>= (λ name. pure (sx.key n name)))))

  abbrev pub items_at : ℕ → Parser sx.Step
  items_at n = takes (source tokens) is_star >> (takes (source tokens) is_rbracket >> pure (sx.items n))

  abbrev pub closed_index_at : ℕ → Parser sx.Step
  closed_index_at n = has (source tokens) is_index index_of >>= (λ i. takes (source tokens) is_rbracket >> pure (sx.index n i))

module _ (tokens : Tokens) (depth : ℕ) where
  abbrev pub inner_body_at : Parser sx.Body
  inner_body_at = (inner tokens depth).body

  abbrev pub body_items_at : ℕ → Parser spec.BodyItems
  body_items_at = spec.body_items (source tokens) tokens.turns (inner tokens depth)

  abbrev pub closed_body_at : spec.BodyItems → Parser spec.BodyItems
  closed_body_at found = if spec.is_filled found.1 then takes (source tokens) is_rbrace >> pure found else stop

  abbrev pub closed_items_at : Parser spec.BodyItems
  closed_items_at = body_items_at tokens.turns >>= closed_body_at

  abbrev pub let_at : Parser sx.Let
  let_at = spec.let_of (source tokens) tokens.turns (inner tokens depth)

  abbrev pub cond_part_at : Parser sx.Part
  cond_part_at = spec.cond_part (source tokens) tokens.turns (inner tokens depth)

  abbrev pub full_part_at : Parser sx.Part
  full_part_at = spec.full_part (source tokens) tokens.turns (inner tokens depth)

  -- parts of a body joined by `or`
  abbrev pub disj_at : Parser sx.Disj
  disj_at = spec.disj_of (source tokens) tokens.turns (inner tokens depth) full_part_at

  abbrev pub ors_at : ℕ → Parser sx.Parts
  ors_at = spec.ors (source tokens) tokens.turns (inner tokens depth) full_part_at

  -- conditions joined by `or`
  abbrev pub alternatives_at : Parser sx.Disj
  alternatives_at = spec.disj_of (source tokens) tokens.turns (inner tokens depth) cond_part_at

  abbrev pub more_alternatives_at : ℕ → Parser sx.Parts
  more_alternatives_at = spec.ors (source tokens) tokens.turns (inner tokens depth) cond_part_at

  -- the lists with their first items, which there have to be; of bodies and arguments up to what closes them
  abbrev pub some_parts_at : Parser sx.Parts
  some_parts_at = full_part_at >>= (λ p. ors_at tokens.turns >>= (λ ps. pure (sx.more_parts p ps)))

  abbrev pub some_conditions_at : Parser sx.Parts
  some_conditions_at = cond_part_at >>= (λ p. more_alternatives_at tokens.turns >>= (λ ps. pure (sx.more_parts p ps)))

  abbrev pub guarded_at : ℕ → Parser sx.Part
  guarded_at = spec.guarded_part (source tokens) tokens.turns (inner tokens depth)

  abbrev pub kinds_at : ℕ → Parser sx.Part
  kinds_at = spec.kinds_part (source tokens) tokens.turns (inner tokens depth)

  abbrev pub opt_conds_at : Parser sx.OptConds
  opt_conds_at = spec.opt_conds (source tokens) tokens.turns (inner tokens depth)

  abbrev pub conds_at : Parser sx.Conds
  conds_at = spec.conds_of (source tokens) tokens.turns (inner tokens depth)

  abbrev pub disjs_at : ℕ → Parser sx.Disjs
  disjs_at = spec.disjs (source tokens) tokens.turns (inner tokens depth)

  abbrev pub some_disjs_at : Parser sx.Disjs
  some_disjs_at = alternatives_at >>= (λ d. disjs_at tokens.turns >>= (λ ds. pure (sx.more_disjs d ds)))

  -- what begins with a query, behind it
  abbrev pub judged_at : ℕ → Bool → sx.Query → Parser sx.Part
  judged_at = spec.judged (source tokens) tokens.turns (inner tokens depth) true

  abbrev pub tested_at : ℕ → Bool → sx.Query → Parser sx.Part
  tested_at = spec.tested (source tokens) tokens.turns (inner tokens depth)

  abbrev pub right_at : Op → Parser sx.OptExpr
  right_at = spec.right (source tokens) tokens.turns (inner tokens depth)

  -- the name of a rule that has arguments, behind its name
  abbrev pub called_at : ℕ → Bool → List ℕ → Parser sx.Part
  called_at = spec.called (source tokens) tokens.turns (inner tokens depth)

  -- the name of a rule, with arguments or without, behind its name
  abbrev pub named_at : ℕ → Bool → List ℕ → Parser sx.Part
  named_at n negated name = choose (source tokens) is_lparen (called_at n negated name) (spec.referred (source tokens) tokens.turns (inner tokens depth) n negated name)

  abbrev pub query_at : Parser sx.Query
  query_at = spec.query_of (source tokens) tokens.turns (inner tokens depth)

  abbrev pub steps_at : ℕ → Parser sx.Steps
  steps_at = spec.steps (source tokens) tokens.turns (inner tokens depth)

  abbrev pub step_at : Parser sx.Step
  step_at = spec.step (source tokens) tokens.turns (inner tokens depth)

  abbrev pub some_steps_at : Parser sx.Steps
  some_steps_at = spec.start_step (source tokens) tokens.turns (inner tokens depth) >>= (λ p. steps_at tokens.turns >>= (λ ps. pure (sx.more_steps p ps)))

  abbrev pub key_test_at : Parser KeyTest
  key_test_at = takes (source tokens) is_keys >> (spec.keys_operator (source tokens) >>= (λ t. (inner tokens depth).expr >>= (λ e. takes (source tokens) is_rbracket >> pure (t, e))))

  abbrev pub filter_at : Parser sx.Conds
  filter_at = (inner tokens depth).conds >>= (λ c. takes (source tokens) is_rbracket >> pure c)

  abbrev pub expr_at : Parser sx.Expr
  expr_at = spec.expr_of (source tokens) tokens.turns (inner tokens depth)

  abbrev pub tree_expr_at : Parser sx.Expr
  tree_expr_at = spec.tree_expr (source tokens) tokens.turns (inner tokens depth)

  abbrev pub applied_at : Parser sx.Expr
  applied_at = spec.applied (source tokens) tokens.turns (inner tokens depth)

  abbrev pub more_exprs_at : ℕ → Parser sx.Exprs
  more_exprs_at = spec.more_exprs_of (source tokens) tokens.turns (inner tokens depth)

  abbrev pub value_at : Parser sx.Expr
  value_at = spec.value_of (source tokens) tokens.turns (inner tokens depth)

  abbrev pub closed_exprs : sx.Exprs → Parser sx.Exprs
  closed_exprs es = takes (source tokens) is_rparen >> pure es

  abbrev pub closed_exprs_at : Parser sx.Exprs
  closed_exprs_at = expr_at >>= (λ e. more_exprs_at tokens.turns >>= (λ es. closed_exprs (sx.more_exprs e es)))

  abbrev pub arguments_at : Parser sx.Exprs
  arguments_at = takes (source tokens) is_lparen >> ((inner tokens depth).exprs >>= closed_exprs)
