-- How the parts of a syntax are read, up to bodies and lets: a function of the lexemes.
use Rattle.std.specs.Prelude.{ℕ, zero, suc, Bool, true, false, List, Option, Some, None, if◌then◌else◌}
use Rattle.doc_values.specs.Tree.{Forest}
use Rattle.guard_syntax.specs.Named.{Named}
use Rattle.guard_syntax.specs.declared.syntax.Op.{Op}
use Rattle.guard_syntax.specs.Syntax.{Body, Lets, Let, Conds, OptConds, Disjs, Disj, Parts, Part, Query, Steps, Step, Expr, OptExpr, Exprs, body, no_lets, more_lets, assign, conds, no_conds, with_conds, no_disjs, more_disjs, disj, no_parts, more_parts, block, guarded, kinds, test, refer, call, query, no_steps, more_steps, this, var, key, index, every, items, splice, filter, keys, literal, function, asked, found, no_expr, with_expr, no_exprs, more_exprs}
use Rattle.literal_parser.specs.Lexemes.{Lexeme}
use Rattle.literal_parser.specs.Forms.{is_name, is_any_name, is_type_name, is_var, is_index, is_note, is_lbrace, is_rbrace, is_lparen, is_rparen, is_lbracket, is_rbracket, is_comma, is_bar, is_dot, is_star, is_assign, is_equality, is_sign, is_let, is_when, is_some_word, is_or, is_neg, is_keys, is_this, is_in, is_operator_word, is_key, is_first_key, is_start, is_plain, is_constant, is_function_word, begins_step, begins_cond, begins_part, leads, opens_range, text_of, named_of, index_of, operator_of, sign_of, is_binary}
use Rattle.literal_parser.specs.code.Parser.{Parser, ◌>>=◌, ◌>>◌, pure, stop, opens, takes, has, choose, choose_pair, choose_next, choose_third}
use Rattle.literal_parser.specs.code.LiteralReading.{literal_of}

-- whether there is a part
abbrev pub is_filled : Disjs → Bool
is_filled no_disjs = false
is_filled (more_disjs d ds) = true

-- the lets and the parts of a body
abbrev pub BodyItems : Type 0
BodyItems = Lets × Disjs

-- the number of a site by how many there are before it; whether one bracket more may open; readers of a literal at this depth of brackets, and of
-- what stands in brackets one deeper
pub record Inner : Type 0 where
  pub number : ℕ → ℕ
  pub roomy : Bool
  pub tree : Parser Forest
  pub body : Parser Body
  pub conds : Parser Conds
  pub expr : Parser Expr
  pub exprs : Parser Exprs

module _ (s : ℕ → Lexeme) where
  unfoldable pub named_bar : Parser (Option Named)
  named_bar = do
    name ← has s is_name named_of
    takes s is_bar
    pure (Some name)

  unfoldable pub capture : Parser (Option Named)
  capture = choose s is_name (choose_next s is_bar named_bar (pure None)) (pure None)

  unfoldable pub note : Parser (Option (List ℕ))
  note = choose s is_note (do t ← has s is_note text_of; pure (Some t)) (pure None)

  unfoldable pub neg : Parser Bool
  neg = choose s is_neg (do takes s is_neg; pure true) (pure false)

  unfoldable pub worded : (ℕ → Bool) → Parser (Op × Bool)
  worded f = do
    negated ← neg
    op ← has s f operator_of
    pure (op, negated)

  unfoldable pub operator : Parser (Op × Bool)
  operator = choose s is_sign (has s is_sign sign_of) (worded is_operator_word)

  unfoldable pub keys_operator : Parser (Op × Bool)
  keys_operator = choose s is_equality (has s is_equality sign_of) (worded is_in)

  -- at most as many turns
  module _ (turns : ℕ) where
    module _ (inner : Inner) where
      -- what wants a bracket, where one may open
      unfoldable pub bodied : {A : Type 0} → Parser A → Parser A
      bodied p = if inner.roomy then p else stop

      -- ---- queries

      unfoldable pub dotted : ℕ → Parser Step
      dotted n = do
        takes s is_dot
        choose s is_star (do takes s is_star; pure (every n))
            (choose s is_index (do i ← has s is_index index_of; pure (index n i))
            (choose s is_var (do name ← has s is_var named_of; pure (splice n name))
            (do name ← has s is_key text_of; pure (key n name))))

      unfoldable pub keyed : ℕ → Option Named → Parser Step
      keyed n name = do
        takes s is_keys
        t ← keys_operator
        e ← inner.expr
        takes s is_rbracket
        pure (keys n name t.0 t.1 e)

      unfoldable pub filtered : ℕ → Option Named → Parser Step
      filtered n name = do
        c ← inner.conds
        takes s is_rbracket
        pure (filter n name c)

      unfoldable pub bracketed : ℕ → Parser Step
      bracketed n = do
        takes s is_lbracket
        choose s is_star (do takes s is_star; takes s is_rbracket; pure (items n))
            (choose s is_index (do i ← has s is_index index_of; takes s is_rbracket; pure (index n i))
            (do name ← capture; choose s is_keys (keyed n name) (filtered n name)))

      unfoldable pub step : Parser Step
      step = do
        n ← opens s inner.number
        choose s is_dot (dotted n) (bracketed n)

      unfoldable pub steps : ℕ → Parser Steps
      steps zero = stop
      steps (suc k) = choose s begins_step (do p ← step; ps ← steps k; pure (more_steps p ps)) (pure no_steps)

      unfoldable pub start_step : Parser Step
      start_step = do
        n ← opens s inner.number
        choose s is_this (do takes s is_this; pure (this n))
            (choose s is_var (do name ← has s is_var text_of; pure (var n name))
            (do name ← has s is_first_key text_of; pure (key n name)))

      unfoldable pub query_of : Parser Query
      query_of = do
        n ← opens s inner.number
        p ← start_step
        ps ← steps turns
        pure (query n (more_steps p ps))

      -- ---- expressions

      unfoldable pub tree_expr : Parser Expr
      tree_expr = do
        n ← opens s inner.number
        t ← inner.tree
        pure (literal n t)

      unfoldable pub applied : Parser Expr
      applied = do
        n ← opens s inner.number
        name ← has s is_any_name text_of
        takes s is_lparen
        es ← inner.exprs
        takes s is_rparen
        pure (function n name es)

      unfoldable pub asked_expr : Parser Expr
      asked_expr = do
        q ← query_of
        pure (asked q)

      -- an expression that begins with a name, or with a keyword that has another use than a function's name
      unfoldable pub named_expr : Parser Expr
      named_expr = choose_pair s opens_range tree_expr (choose_next s is_lparen applied (choose s is_constant tree_expr asked_expr))

      unfoldable pub expr_of : Parser Expr
      expr_of = choose s is_function_word (bodied applied) (choose s is_any_name named_expr (choose s is_plain tree_expr asked_expr))

      unfoldable pub found_expr : Parser Expr
      found_expr = do
        n ← opens s inner.number
        takes s is_some_word
        q ← query_of
        pure (found n q)

      -- the right side of a let
      unfoldable pub value_of : Parser Expr
      value_of = choose s is_some_word (choose_next s is_lparen expr_of found_expr) expr_of

      unfoldable pub more_exprs_of : ℕ → Parser Exprs
      more_exprs_of zero = stop
      more_exprs_of (suc k) = choose s is_comma (do takes s is_comma; e ← expr_of; es ← more_exprs_of k; pure (more_exprs e es)) (pure no_exprs)

      unfoldable pub exprs_of : Parser Exprs
      exprs_of = do
        e ← expr_of
        es ← more_exprs_of turns
        pure (more_exprs e es)

      -- ---- conditions

      unfoldable pub right : Op → Parser OptExpr
      right op = if is_binary op then (do e ← expr_of; pure (with_expr e)) else pure no_expr

      unfoldable pub tested : ℕ → Bool → Query → Parser Part
      tested n any q = do
        t ← operator
        e ← right t.0
        message ← note
        pure (test n any q t.0 t.1 e message)

      unfoldable pub called : ℕ → Bool → List ℕ → Parser Part
      called n negated name = do
        takes s is_lparen
        es ← inner.exprs
        takes s is_rparen
        message ← note
        pure (call n negated name es message)

      unfoldable pub referred : ℕ → Bool → List ℕ → Parser Part
      referred n negated name = do
        message ← note
        pure (refer n negated name message)

      unfoldable pub ruled : ℕ → Bool → Parser Part
      ruled n negated = do
        name ← has s is_name text_of
        choose s is_lparen (called n negated name) (referred n negated name)

      -- behind its head, which is a block's where blocks may stand and a brace follows
      unfoldable pub judged : Bool → ℕ → Bool → Query → Parser Part
      judged true n any q = choose s is_lbrace (do b ← inner.body; pure (block n any q b)) (tested n any q)
      judged false n any q = tested n any q

      unfoldable pub headed : Bool → ℕ → Bool → Parser Part
      headed full n any = do
        q ← query_of
        judged full n any q

      -- a name, which begins a query or is a rule's
      unfoldable pub led_by_name : Bool → ℕ → Parser Part
      led_by_name full n = choose_next s (leads full) (headed full n false)
          (choose_next s is_neg (choose_third s is_operator_word (headed full n false) (ruled n false)) (ruled n false))

      unfoldable pub cond_of : Bool → ℕ → Parser Part
      cond_of full n = choose s is_some_word (do takes s is_some_word; headed full n true)
          (choose s is_neg (do takes s is_neg; ruled n true)
          (choose s is_name (led_by_name full n) (choose s is_start (headed full n false) stop)))

      unfoldable pub cond_part : Parser Part
      cond_part = do
        n ← opens s inner.number
        cond_of false n

      -- ---- parts, conditions and bodies

      unfoldable pub ors : Parser Part → ℕ → Parser Parts
      ors part zero = stop
      ors part (suc k) = choose s is_or (do takes s is_or; p ← part; ps ← ors part k; pure (more_parts p ps)) (pure no_parts)

      unfoldable pub disj_of : Parser Part → Parser Disj
      disj_of part = do
        n ← opens s inner.number
        p ← part
        ps ← ors part turns
        pure (disj n (more_parts p ps))

      unfoldable pub disjs : ℕ → Parser Disjs
      disjs zero = stop
      disjs (suc k) = choose s begins_cond (do d ← disj_of cond_part; ds ← disjs k; pure (more_disjs d ds)) (pure no_disjs)

      unfoldable pub conds_of : Parser Conds
      conds_of = do
        n ← opens s inner.number
        d ← disj_of cond_part
        ds ← disjs turns
        pure (conds n (more_disjs d ds))

      unfoldable pub opt_conds : Parser OptConds
      opt_conds = choose s is_when (do takes s is_when; c ← conds_of; pure (with_conds c)) (pure no_conds)

      unfoldable pub guarded_part : ℕ → Parser Part
      guarded_part n = do
        takes s is_when
        c ← conds_of
        b ← inner.body
        pure (guarded n c b)

      unfoldable pub kinds_part : ℕ → Parser Part
      kinds_part n = do
        name ← has s is_type_name text_of
        c ← opt_conds
        b ← inner.body
        pure (kinds n name c b)

      unfoldable pub full_part : Parser Part
      full_part = do
        n ← opens s inner.number
        choose s is_when (bodied (guarded_part n)) (choose s is_type_name (bodied (kinds_part n)) (cond_of true n))

      unfoldable pub let_of : Parser Let
      let_of = do
        n ← opens s inner.number
        takes s is_let
        name ← has s is_name named_of
        takes s is_assign
        e ← value_of
        pure (assign n name e)

      unfoldable pub body_items : ℕ → Parser BodyItems
      body_items zero = stop
      body_items (suc k) = choose s is_let (do l ← let_of; more ← body_items k; pure (more_lets l more.0, more.1))
          (choose s begins_part (do d ← disj_of full_part; more ← body_items k; pure (more.0, more_disjs d more.1)) (pure (no_lets, no_disjs)))

      unfoldable pub body_end : ℕ → BodyItems → Parser Body
      body_end n contained = do
        takes s is_rbrace
        pure (body n contained.0 contained.1)

      unfoldable pub body_of : Parser Body
      body_of = do
        n ← opens s inner.number
        takes s is_lbrace
        contained ← body_items turns
        if is_filled contained.1 then body_end n contained else stop

    abbrev with_number : (ℕ → ℕ) → Inner → Inner
    with_number number i = record { number = number; roomy = i.roomy; tree = i.tree; body = i.body; conds = i.conds; expr = i.expr; exprs = i.exprs }

    -- with brackets nested no deeper than the last number
    abbrev nested : (ℕ → ℕ) → ℕ → Inner
    nested number zero = record { number = number; roomy = false; tree = literal_of s turns zero; body = stop; conds = stop; expr = stop; exprs = stop }
    nested number (suc depth) = let i = with_number number (nested number depth) in
        record { number = number; roomy = true; tree = literal_of s turns (suc depth); body = body_of i; conds = conds_of i; expr = expr_of i; exprs = exprs_of i }

    -- the same, whose sites are seen to be numbered so at any depth
    abbrev pub numbered : (ℕ → ℕ) → ℕ → Inner
    numbered number depth = with_number number (nested number depth)

    -- each site has the number of those before it
    abbrev pub inners : ℕ → Inner
    inners = numbered (λ n. n)
