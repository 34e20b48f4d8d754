-- The syntax of rule files. The first number of each part is its site.
use Rattle.std.specs.Prelude.{ℕ, Bool, List, Option}
use Rattle.doc_values.specs.Tree.{Forest}
use Rattle.guard_syntax.specs.Named.{Named}
use Rattle.guard_syntax.specs.declared.syntax.Op.{Op}

mutual
  -- a block: its lets, and its parts, all of which have to hold
  pub data Body : Type 0 where
    body : ℕ → Lets → Disjs → Body

  pub data Lets : Type 0 where
    no_lets : Lets
    more_lets : Let → Lets → Lets

  pub data Let : Type 0 where
    assign : ℕ → Named → Expr → Let

  -- conditions, all of which have to hold
  pub data Conds : Type 0 where
    conds : ℕ → Disjs → Conds

  pub data OptConds : Type 0 where
    no_conds : OptConds
    with_conds : Conds → OptConds

  pub data Disjs : Type 0 where
    no_disjs : Disjs
    more_disjs : Disj → Disjs → Disjs

  -- parts joined by `or`
  pub data Disj : Type 0 where
    disj : ℕ → Parts → Disj

  pub data Parts : Type 0 where
    no_parts : Parts
    more_parts : Part → Parts → Parts

  pub data Part : Type 0 where
    -- whether one row is enough, the head, the block
    block : ℕ → Bool → Query → Body → Part
    -- the conditions, the block
    guarded : ℕ → Conds → Body → Part
    -- the type name, the conditions, the block
    kinds : ℕ → List ℕ → OptConds → Body → Part
    -- whether one row is enough, the left side, the operator and whether it is negated, the right side, the message
    test : ℕ → Bool → Query → Op → Bool → OptExpr → Option (List ℕ) → Part
    -- whether it is negated, the rule, the message
    refer : ℕ → Bool → List ℕ → Option (List ℕ) → Part
    -- whether it is negated, the rule, the arguments, the message
    call : ℕ → Bool → List ℕ → Exprs → Option (List ℕ) → Part

  -- steps, the first of which is the start
  pub data Query : Type 0 where
    query : ℕ → Steps → Query

  pub data Steps : Type 0 where
    no_steps : Steps
    more_steps : Step → Steps → Steps

  pub data Step : Type 0 where
    this : ℕ → Step
    var : ℕ → List ℕ → Step
    key : ℕ → List ℕ → Step
    index : ℕ → ℕ → Step
    -- `.*` and `[*]`
    every : ℕ → Step
    items : ℕ → Step
    splice : ℕ → Named → Step
    -- the capture, the conditions
    filter : ℕ → Option Named → Conds → Step
    -- the capture, the operator and whether it is negated, the right side
    keys : ℕ → Option Named → Op → Bool → Expr → Step

  pub data Expr : Type 0 where
    literal : ℕ → Forest → Expr
    function : ℕ → List ℕ → Exprs → Expr
    asked : Query → Expr
    -- `some` and a query
    found : ℕ → Query → Expr

  pub data OptExpr : Type 0 where
    no_expr : OptExpr
    with_expr : Expr → OptExpr

  pub data Exprs : Type 0 where
    no_exprs : Exprs
    more_exprs : Expr → Exprs → Exprs

pub record Rule : Type 0 where
  pub site : ℕ
  pub name : Named
  pub params : List Named
  pub cond : OptConds
  pub body : Body

-- the lets, the rules and the parts outside rules, each in order, and where each site begins; the file's own site is 0
pub record File : Type 0 where
  pub lets : Lets
  pub rules : List Rule
  pub loose : Disjs
  pub places : List ℕ
