-- Which lexemes spell a syntax: by recursion on the syntax. Each list goes on as long as its next item can begin. That
-- changes nothing for whole files: no list of the grammar can be followed by what begins a further item of it.
use Rattle.std.specs.Prelude.{◌≡◌, ◌⊎◌, ℕ, suc, Bool, true, false, List, [], ◌∷◌, Option, Some, None, if◌then◌else◌}
use Rattle.guard_syntax.specs.Named.{Named}
use Rattle.guard_syntax.specs.declared.syntax.Op.{Op}
use Rattle.guard_syntax.specs.Syntax.{Body, Lets, Let, Conds, OptConds, Disjs, Disj, Parts, Part, Query, Steps, Step, Expr, OptExpr, Exprs, Rule, body, no_lets, more_lets, assign, conds, no_conds, with_conds, no_disjs, more_disjs, disj, no_parts, more_parts, block, guarded, kinds, test, refer, call, query, no_steps, more_steps, this, var, key, index, every, items, splice, filter, keys, literal, function, asked, found, no_expr, with_expr, no_exprs, more_exprs}
use Rattle.literal_parser.specs.Lexemes.{Lexeme}
use Rattle.literal_parser.specs.Forms.{form, is_name, is_rule_name, is_any_name, is_type_name, is_var, is_index, is_note, is_lbrace, is_rbrace, is_lparen, is_rparen, is_lbracket, is_rbracket, is_comma, is_bar, is_dot, is_star, is_assign, is_equality, is_sign, is_let, is_rule, is_when, is_some_word, is_or, is_neg, is_keys, is_this, is_in, is_operator_word, is_key, is_first_key, begins_step, begins_cond, begins_part, is_literal, is_applied, is_capture, text_of, named_of, index_of, operator_of, sign_of, is_binary}
use Rattle.literal_parser.specs.States.{State, Rel, ◌⨾◌, Never, Nothing, Provided, Opens, Takes, Has, When, WhenPair, WhenLed}
use Rattle.literal_parser.specs.Literal.{IsLiteral}

-- what an item of a body or of a file is
pub data Sort : Type 0 where
  ALet : Sort
  ARule : Sort
  APart : Sort

-- an item: what it is, and the states before it and behind it
pub record Piece : Type 0 where
  pub sort : Sort
  pub from : State
  pub to : State

abbrev pub is_sort : Sort → Sort → Bool
is_sort ALet ALet = true
is_sort ARule ARule = true
is_sort APart APart = true
is_sort _ _ = false

-- the items of a sort, in order
abbrev pub of_sort : Sort → List Piece → List Piece
of_sort sort [] = []
of_sort sort (p ∷ ps) = if is_sort sort p.sort then p ∷ of_sort sort ps else of_sort sort ps

-- the sort of item that begins with a form, in a body and in a file
abbrev pub part_sort : ℕ → Option Sort
part_sort n = if begins_part n then Some APart else None

abbrev pub body_sort : ℕ → Option Sort
body_sort n = if is_let n then Some ALet else part_sort n

abbrev pub file_sort : ℕ → Option Sort
file_sort n = if is_let n then Some ALet else (if is_rule n then Some ARule else part_sort n)

abbrev pub IsFilled : Disjs → Type 0
IsFilled no_disjs = ⊥
IsFilled (more_disjs d ds) = Unit {0}

module _ (s : ℕ → Lexeme) where
  -- items in a row, each of the sort that its first lexeme tells, up to what begins none
  abbrev pub InRow : (ℕ → Option Sort) → List Piece → Rel
  InRow sort [] = λ a b. (sort (form (s a.at)) ≡ None) × (b ≡ a)
  InRow sort (p ∷ ps) = λ a b. (sort (form (s a.at)) ≡ Some p.sort) × (p.from ≡ a) × InRow sort ps p.to b

  -- capture := Name '|'
  abbrev pub IsCapture : Option Named → Rel
  IsCapture None = λ a b. (is_capture (form (s a.at)) (form (s (suc a.at))) ≡ false) × (b ≡ a)
  IsCapture (Some name) = Has s is_name named_of name ⨾ Takes s is_bar

  -- Note?
  abbrev pub IsNote : Option (List ℕ) → Rel
  IsNote None = When s is_note false Nothing
  IsNote (Some message) = Has s is_note text_of message

  -- neg?
  abbrev pub IsNeg : Bool → Rel
  IsNeg true = Takes s is_neg
  IsNeg false = When s is_neg false Nothing

  -- neg? and a word, or a mark
  abbrev pub IsOperator : Op → Bool → Rel
  IsOperator op negated = λ a b. Has s is_sign sign_of (op, negated) a b ⊎ (IsNeg negated ⨾ Has s is_operator_word operator_of op) a b

  -- '==' | '!=' | neg? 'in'
  abbrev pub IsKeysOperator : Op → Bool → Rel
  IsKeysOperator op negated = λ a b. Has s is_equality sign_of (op, negated) a b ⊎ (IsNeg negated ⨾ Has s is_in operator_of op) a b

  -- a part begins with `some`, or at once with its query
  abbrev pub IsAny : Bool → Bool → Rel
  IsAny full true = Takes s is_some_word
  IsAny full false = WhenLed s full true Nothing

  -- a reference or call begins with `!` or `not`, or at once with its name, which begins no query
  abbrev pub IsNot : Bool → Bool → Rel
  IsNot full true = Takes s is_neg
  IsNot full false = WhenLed s full false Nothing

  -- parameters behind the first
  abbrev pub IsNames : List Named → Rel
  IsNames [] = When s is_comma false Nothing
  IsNames (name ∷ names) = Takes s is_comma ⨾ Has s is_name named_of name ⨾ IsNames names

  abbrev mutual
    -- body := '{' (let | disj)* '}', with at least one disj
    pub IsBody : Body → Rel
    IsBody (body n ls ds) = Opens s n ⨾ Takes s is_lbrace
        ⨾ (λ a b. (ps : List Piece) × InRow body_sort ps a b × AreLets ls (of_sort ALet ps) × AreDisjs ds (of_sort APart ps) × IsFilled ds)
        ⨾ Takes s is_rbrace

    -- the items spell these lets
    pub AreLets : Lets → List Piece → Type 0
    AreLets no_lets [] = Unit {0}
    AreLets (more_lets l ls) (p ∷ ps) = IsLet l p.from p.to × AreLets ls ps
    AreLets _ _ = ⊥

    -- the items spell these parts
    pub AreDisjs : Disjs → List Piece → Type 0
    AreDisjs no_disjs [] = Unit {0}
    AreDisjs (more_disjs d ds) (p ∷ ps) = IsDisj true d p.from p.to × AreDisjs ds ps
    AreDisjs _ _ = ⊥

    -- let := 'let' Name ('=' | ':=') (expr | 'some' query)
    pub IsLet : Let → Rel
    IsLet (assign n name e) = Opens s n ⨾ Takes s is_let ⨾ Has s is_name named_of name ⨾ Takes s is_assign ⨾ IsExpr true e

    -- conds := cdisj+, in which no blocks stand
    pub IsConds : Conds → Rel
    IsConds (conds n (more_disjs d ds)) = Opens s n ⨾ IsDisj false d ⨾ IsDisjs ds
    IsConds (conds n no_disjs) = Never

    pub IsDisjs : Disjs → Rel
    IsDisjs no_disjs = When s begins_cond false Nothing
    IsDisjs (more_disjs d ds) = When s begins_cond true (IsDisj false d ⨾ IsDisjs ds)

    -- ('when' conds)?
    pub IsOptConds : OptConds → Rel
    IsOptConds no_conds = When s is_when false Nothing
    IsOptConds (with_conds c) = Takes s is_when ⨾ IsConds c

    -- disj := part ('or' part)*, cdisj := cond ('or' cond)*; the test tells which
    pub IsDisj : Bool → Disj → Rel
    IsDisj full (disj n (more_parts p ps)) = Opens s n ⨾ IsPart full p ⨾ IsOrs full ps
    IsDisj full (disj n no_parts) = Never

    pub IsOrs : Bool → Parts → Rel
    IsOrs full no_parts = When s is_or false Nothing
    IsOrs full (more_parts p ps) = Takes s is_or ⨾ IsPart full p ⨾ IsOrs full ps

    -- part := cond | 'some'? query body | 'when' conds body | TypeName ('when' conds)? body
    -- cond := 'some'? query test Note? | neg? Name Note? | neg? Name '(' expr,+ ')' Note?
    pub IsPart : Bool → Part → Rel
    IsPart full (block n any q b) = Provided full (Opens s n ⨾ IsAny full any ⨾ IsQuery q ⨾ IsBody b)
    IsPart full (guarded n c b) = Provided full (Opens s n ⨾ Takes s is_when ⨾ IsConds c ⨾ IsBody b)
    IsPart full (kinds n name c b) = Provided full (Opens s n ⨾ Has s is_type_name text_of name ⨾ IsOptConds c ⨾ IsBody b)
    IsPart full (test n any q op negated right message) = Opens s n ⨾ IsAny full any ⨾ IsQuery q ⨾ IsOperator op negated ⨾ IsRight op right ⨾ IsNote message
    IsPart full (refer n negated name message) = Opens s n ⨾ IsNot full negated ⨾ Has s is_name text_of name ⨾ When s is_lparen false (IsNote message)
    IsPart full (call n negated name es message) = Opens s n ⨾ IsNot full negated ⨾ Has s is_name text_of name ⨾ Takes s is_lparen ⨾ IsExprs es ⨾ Takes s is_rparen ⨾ IsNote message

    -- an expression behind a binary operator
    pub IsRight : Op → OptExpr → Rel
    IsRight op no_expr = λ a b. (is_binary op ≡ false) × (b ≡ a)
    IsRight op (with_expr e) = λ a b. (is_binary op ≡ true) × IsExpr false e a b

    -- query := (Var | 'this' | Name | Str) step*
    pub IsQuery : Query → Rel
    IsQuery (query n (more_steps p ps)) = Opens s n ⨾ IsStart p ⨾ IsSteps ps
    IsQuery (query n no_steps) = Never

    pub IsStart : Step → Rel
    IsStart (this n) = Opens s n ⨾ Takes s is_this
    IsStart (var n name) = Opens s n ⨾ Has s is_var text_of name
    IsStart (key n name) = Opens s n ⨾ Has s is_first_key text_of name
    IsStart _ = Never

    pub IsSteps : Steps → Rel
    IsSteps no_steps = When s begins_step false Nothing
    IsSteps (more_steps p ps) = When s begins_step true (IsStep p ⨾ IsSteps ps)

    -- step := '.' Name | '.' Str | '.' '*' | '.' Whole | '.' Var
    --       | '[' '*' ']' | '[' Whole ']' | '[' capture? conds ']' | '[' capture? 'keys' ('==' | '!=' | neg? 'in') expr ']'
    pub IsStep : Step → Rel
    IsStep (key n name) = Opens s n ⨾ Takes s is_dot ⨾ Has s is_key text_of name
    IsStep (every n) = Opens s n ⨾ Takes s is_dot ⨾ Takes s is_star
    IsStep (index n i) = Opens s n ⨾ (λ a b. (Takes s is_dot ⨾ Has s is_index index_of i) a b ⊎ (Takes s is_lbracket ⨾ Has s is_index index_of i ⨾ Takes s is_rbracket) a b)
    IsStep (splice n name) = Opens s n ⨾ Takes s is_dot ⨾ Has s is_var named_of name
    IsStep (items n) = Opens s n ⨾ Takes s is_lbracket ⨾ Takes s is_star ⨾ Takes s is_rbracket
    IsStep (filter n capture c) = Opens s n ⨾ Takes s is_lbracket ⨾ IsCapture capture ⨾ IsConds c ⨾ Takes s is_rbracket
    IsStep (keys n capture op negated e) = Opens s n ⨾ Takes s is_lbracket ⨾ IsCapture capture ⨾ Takes s is_keys ⨾ IsKeysOperator op negated ⨾ IsExpr false e ⨾ Takes s is_rbracket
    IsStep _ = Never

    -- expr := literal | Name '(' expr,+ ')' | query; the test tells whether 'some' query may stand too
    pub IsExpr : Bool → Expr → Rel
    IsExpr lone (literal n tree) = WhenPair s is_literal true (Opens s n ⨾ IsLiteral s tree)
    IsExpr lone (function n name es) = WhenPair s is_literal false (Opens s n ⨾ Has s is_any_name text_of name ⨾ Takes s is_lparen ⨾ IsExprs es ⨾ Takes s is_rparen)
    IsExpr lone (asked q) = WhenPair s is_literal false (WhenPair s is_applied false (IsQuery q))
    IsExpr lone (found n q) = Provided lone (WhenPair s is_applied false (Opens s n ⨾ Takes s is_some_word ⨾ IsQuery q))

    -- expr,+
    pub IsExprs : Exprs → Rel
    IsExprs (more_exprs e es) = IsExpr false e ⨾ IsMoreExprs es
    IsExprs no_exprs = Never

    pub IsMoreExprs : Exprs → Rel
    IsMoreExprs no_exprs = When s is_comma false Nothing
    IsMoreExprs (more_exprs e es) = Takes s is_comma ⨾ IsExpr false e ⨾ IsMoreExprs es

  -- ('when' conds)? | '(' Name,+ ')'
  abbrev pub IsHead : List Named → OptConds → Rel
  IsHead [] c = When s is_lparen false (IsOptConds c)
  IsHead (name ∷ names) no_conds = Takes s is_lparen ⨾ Has s is_name named_of name ⨾ IsNames names ⨾ Takes s is_rparen
  IsHead (name ∷ names) (with_conds c) = Never

  -- rule := 'rule' Name ('when' conds)? body | 'rule' Name '(' Name,+ ')' body
  abbrev pub IsRule : Rule → Rel
  IsRule r = Opens s r.site ⨾ Takes s is_rule ⨾ Has s is_rule_name named_of r.name ⨾ IsHead r.params r.cond ⨾ IsBody r.body

  -- the items spell these rules
  abbrev pub AreRules : List Rule → List Piece → Type 0
  AreRules [] [] = Unit {0}
  AreRules (r ∷ rs) (p ∷ ps) = IsRule r p.from p.to × AreRules rs ps
  AreRules _ _ = ⊥

  -- file := (let | rule | disj)*
  abbrev pub IsContents : Lets → List Rule → Disjs → Rel
  IsContents ls rs ds = Opens s 0 ⨾ (λ a b. (ps : List Piece) × InRow file_sort ps a b × AreLets ls (of_sort ALet ps) × AreRules rs (of_sort ARule ps) × AreDisjs ds (of_sort APart ps))
