-- The canonical text of a syntax: one equation for each form of part.
use Rattle.std.specs.Prelude.{ℕ, List, [], ◌∷◌, ◌++◌, codes, decimal, nat_lt, if◌then◌else◌}
use Rattle.guard_syntax.specs.Syntax.{Body, Lets, Let, Conds, OptConds, Disjs, Disj, Parts, Part, Query, Steps, Step, Expr, OptExpr, Exprs, Rule, File, body, no_lets, more_lets, assign, conds, no_conds, with_conds, no_disjs, more_disjs, disj, no_parts, more_parts, block, guarded, kinds, test, refer, call, query, no_steps, more_steps, this, var, key, index, every, items, splice, filter, keys, literal, function, asked, found, no_expr, with_expr, no_exprs, more_exprs}
use Rattle.rule_words.specs.WordText.{word_if, operator_text, note_text, key_text, first_key_text, capture_text, params_text, literal_text, space_behind, space_within, head_text}

-- ---- lines

-- two spaces more
abbrev pub within : List ℕ → List ℕ
within margin = margin ++ codes "  "

-- a line behind a margin
abbrev pub line : List ℕ → List ℕ → List ℕ
line margin text = margin ++ (text ++ codes "\n")

-- the items of two lists, each with its site, the lesser site first
abbrev pub before_each : {A : Type 0} → ℕ × A → (List (ℕ × A) → List (ℕ × A)) → List (ℕ × A) → List (ℕ × A)
before_each a others [] = a ∷ others []
before_each a others (b ∷ bs) = if nat_lt b.0 a.0 then b ∷ before_each a others bs else a ∷ others (b ∷ bs)

abbrev pub merged : {A : Type 0} → List (ℕ × A) → List (ℕ × A) → List (ℕ × A)
merged [] bs = bs
merged (a ∷ rest) bs = before_each a (merged rest) bs

-- the texts of items, in a row
abbrev pub in_a_row : List (ℕ × List ℕ) → List ℕ
in_a_row [] = []
in_a_row (item ∷ rest) = item.1 ++ in_a_row rest

-- ---- queries

-- the first step, given how it is spelled as a further one
abbrev pub start_text : Step → List ℕ → List ℕ
start_text (key n name) as_step = first_key_text name
start_text _ as_step = as_step

-- ---- conditions

abbrev mutual
  -- the disjunctions of conditions are joined by a space
  pub conds_text : Conds → List ℕ
  conds_text (conds n ds) = disjs_text ds

  pub disjs_text : Disjs → List ℕ
  disjs_text no_disjs = []
  disjs_text (more_disjs d ds) = disj_text d ++ more_disjs_text ds

  pub more_disjs_text : Disjs → List ℕ
  more_disjs_text no_disjs = []
  more_disjs_text (more_disjs d ds) = codes " " ++ (disj_text d ++ more_disjs_text ds)

  -- its parts are joined by ` or `
  pub disj_text : Disj → List ℕ
  disj_text (disj n ps) = alternatives_text ps

  pub alternatives_text : Parts → List ℕ
  alternatives_text no_parts = []
  alternatives_text (more_parts p ps) = cond_text p ++ more_alternatives_text ps

  pub more_alternatives_text : Parts → List ℕ
  more_alternatives_text no_parts = []
  more_alternatives_text (more_parts p ps) = codes " or " ++ (cond_text p ++ more_alternatives_text ps)

  -- a test, a reference, a call; blocks are no conditions
  pub cond_text : Part → List ℕ
  cond_text (test n any q operator negated right note) =
      word_if any (codes "some ") ++ (query_text q ++ (codes " " ++ (operator_text operator negated ++ (opt_expr_text right ++ note_text note))))
  cond_text (refer n negated name note) = word_if negated (codes "not ") ++ (name ++ note_text note)
  cond_text (call n negated name es note) = word_if negated (codes "not ") ++ (name ++ (codes "(" ++ (exprs_text es ++ (codes ")" ++ note_text note))))
  cond_text _ = []

  pub query_text : Query → List ℕ
  query_text (query n no_steps) = []
  query_text (query n (more_steps step steps)) = start_text step (step_text step) ++ steps_text steps

  -- a query that is an expression
  pub asked_text : Query → List ℕ
  asked_text (query n no_steps) = []
  asked_text (query n (more_steps step steps)) = start_text step (step_text step) ++ (space_within step steps ++ steps_text steps)

  pub steps_text : Steps → List ℕ
  steps_text no_steps = []
  steps_text (more_steps step steps) = step_text step ++ steps_text steps

  -- `this` and `%x` are first steps only
  pub step_text : Step → List ℕ
  step_text (this n) = codes "this"
  step_text (var n name) = codes "%" ++ name
  step_text (key n name) = codes "." ++ key_text name
  step_text (index n i) = codes "." ++ decimal i
  step_text (every n) = codes ".*"
  step_text (items n) = codes "[*]"
  step_text (splice n name) = codes ".%" ++ name.text
  step_text (filter n capture c) = codes "[ " ++ (capture_text capture ++ (conds_text c ++ codes " ]"))
  step_text (keys n capture operator negated e) = codes "[ " ++ (capture_text capture ++ (codes "keys " ++ (operator_text operator negated ++ (codes " " ++ (expr_text e ++ codes " ]")))))

  pub expr_text : Expr → List ℕ
  expr_text (literal n tree) = literal_text tree
  expr_text (function n name es) = name ++ (space_behind name ++ (codes "(" ++ (exprs_text es ++ codes ")")))
  expr_text (asked q) = asked_text q
  expr_text (found n q) = codes "some " ++ query_text q

  -- behind an operator
  pub opt_expr_text : OptExpr → List ℕ
  opt_expr_text no_expr = []
  opt_expr_text (with_expr e) = codes " " ++ expr_text e

  -- joined by `, `
  pub exprs_text : Exprs → List ℕ
  exprs_text no_exprs = []
  exprs_text (more_exprs e es) = expr_text e ++ more_exprs_text es

  pub more_exprs_text : Exprs → List ℕ
  more_exprs_text no_exprs = []
  more_exprs_text (more_exprs e es) = codes ", " ++ (expr_text e ++ more_exprs_text es)

-- ` when <conds>`, where there are some
abbrev pub opt_conds_text : OptConds → List ℕ
opt_conds_text no_conds = []
opt_conds_text (with_conds c) = codes " when " ++ conds_text c

-- ---- lets and blocks

-- `let <x> = <expr>`
abbrev pub let_line : List ℕ → Let → ℕ × List ℕ
let_line margin (assign n name e) = (n, line margin (codes "let " ++ (name.text ++ (codes " = " ++ expr_text e))))

abbrev pub let_lines : List ℕ → Lets → List (ℕ × List ℕ)
let_lines margin no_lets = []
let_lines margin (more_lets l ls) = let_line margin l ∷ let_lines margin ls

abbrev mutual
  -- ` {` at the line's end, the lets and the disjunctions in order of site, and `}`
  pub body_text : List ℕ → Body → List ℕ
  body_text margin (body n ls ds) = codes " {\n" ++ (in_a_row (merged (let_lines (within margin) ls) (disj_lines (within margin) ds)) ++ (margin ++ codes "}"))

  pub disj_lines : List ℕ → Disjs → List (ℕ × List ℕ)
  disj_lines margin no_disjs = []
  disj_lines margin (more_disjs d ds) = disj_line margin d ∷ disj_lines margin ds

  pub disj_line : List ℕ → Disj → ℕ × List ℕ
  disj_line margin (disj n ps) = (n, line margin (parts_text margin ps))

  -- joined by ` or `
  pub parts_text : List ℕ → Parts → List ℕ
  parts_text margin no_parts = []
  parts_text margin (more_parts p ps) = part_text margin p ++ more_parts_text margin ps

  pub more_parts_text : List ℕ → Parts → List ℕ
  more_parts_text margin no_parts = []
  more_parts_text margin (more_parts p ps) = codes " or " ++ (part_text margin p ++ more_parts_text margin ps)

  -- a block, a `when` block, a type block, or what may be a condition
  pub part_text : List ℕ → Part → List ℕ
  part_text margin (block n any q b) = word_if any (codes "some ") ++ (head_text q (query_text q) ++ body_text margin b)
  part_text margin (guarded n c b) = codes "when " ++ (conds_text c ++ body_text margin b)
  part_text margin (kinds n name c b) = name ++ (opt_conds_text c ++ body_text margin b)
  part_text margin part = cond_text part

-- ---- files

-- `rule <name>`, its parameters, its conditions, its body
abbrev pub rule_line : Rule → ℕ × List ℕ
rule_line r = (r.site, line [] (codes "rule " ++ (r.name.text ++ (params_text r.params ++ (opt_conds_text r.cond ++ body_text [] r.body)))))

abbrev pub rule_lines : List Rule → List (ℕ × List ℕ)
rule_lines [] = []
rule_lines (r ∷ rs) = rule_line r ∷ rule_lines rs

-- the items in order of site
abbrev pub rule_text : File → List ℕ
rule_text f = in_a_row (merged (let_lines [] f.lets) (merged (rule_lines f.rules) (disj_lines [] f.loose)))
