-- The canonical text of a syntax as tokens, each with the white space in front of it. Each definition takes the gap in
-- front of what it spells, and the tokens behind it.
use Rattle.std.specs.Prelude.{ℕ, Bool, true, false, List, [], ◌∷◌, ◌++◌, Option, Some, None, codes, decimal, pos, if◌then◌else◌}
use Rattle.doc_values.specs.Tree.{Label, Forest, Nil, Node}
use Rattle.decimals.specs.declared.decimal.Num.{Num}
use Rattle.decimals.specs.declared.decimal.Num.TheVariants as num
use Rattle.decimals.specs.declared.decimal.Range.{Range}
use Rattle.doc_values.specs.declared.kind.Kind.{Kind}
use Rattle.doc_values.specs.declared.kind.Kind.TheVariants as kind
use Rattle.guard_lexer.specs.declared.token.Mark.{Mark}
use Rattle.guard_lexer.specs.declared.token.Mark.TheVariants as m
use Rattle.guard_lexer.specs.declared.token.TokenKind.{TokenKind}
use Rattle.guard_lexer.specs.declared.token.TokenKind.TheVariants as k
use Rattle.guard_lexer.specs.Forms.{mark_text}
use Rattle.guard_syntax.specs.Named.{Named}
use Rattle.guard_syntax.specs.declared.syntax.Op.{Op}
use Rattle.guard_syntax.specs.declared.syntax.Op.TheVariants as op
use Rattle.guard_syntax.specs.Syntax.{Body, Lets, Let, Conds, OptConds, Disjs, Disj, Parts, Part, Query, Steps, Step, Expr, OptExpr, Exprs, Rule, File, body, no_lets, more_lets, assign, conds, no_conds, with_conds, no_disjs, more_disjs, disj, no_parts, more_parts, block, guarded, kinds, test, refer, call, query, no_steps, more_steps, this, var, key, index, every, items, splice, filter, keys, literal, function, asked, found, no_expr, with_expr, no_exprs, more_exprs}
use Rattle.rule_meaning.specs.Functions.{truth_text}
use Rattle.rule_spelling.specs.Spelling.{quoted, pattern_text, number_text}
use Rattle.rule_spelling.specs.code.Pieces.{Piece}
use Rattle.rule_words.specs.WordText.{operator_word, is_name, is_free_name, space_within, space_behind}
use Rattle.rule_printer.specs.RuleText.{within, merged}

-- ---- gaps

abbrev pub space : List ℕ
space = codes " "

-- a new line and its margin
abbrev pub new_line : List ℕ → List ℕ
new_line margin = codes "\n" ++ margin

-- ---- one token in front of others

abbrev pub name : List ℕ → List ℕ → List Piece → List Piece
name gap text rest = record { gap = gap; kind = k.Name; text = text } ∷ rest

abbrev pub mark : List ℕ → Mark → List Piece → List Piece
mark gap sign rest = record { gap = gap; kind = k.Mark sign; text = mark_text sign } ∷ rest

abbrev pub str : List ℕ → List ℕ → List Piece → List Piece
str gap text rest = record { gap = gap; kind = k.Str; text = quoted text } ∷ rest

abbrev pub pattern : List ℕ → List ℕ → List Piece → List Piece
pattern gap text rest = record { gap = gap; kind = k.Pat; text = pattern_text text } ∷ rest

abbrev pub variable : List ℕ → List ℕ → List Piece → List Piece
variable gap text rest = record { gap = gap; kind = k.Var; text = codes "%" ++ text } ∷ rest

abbrev pub type_name : List ℕ → List ℕ → List Piece → List Piece
type_name gap text rest = record { gap = gap; kind = k.TypeName; text = text } ∷ rest

abbrev pub number_kind : Num → TokenKind
number_kind (num.Whole n) = k.Whole n
number_kind (num.Fraction d) = k.Fraction d

abbrev pub number : List ℕ → Num → List Piece → List Piece
number gap n rest = record { gap = gap; kind = number_kind n; text = number_text n } ∷ rest

abbrev pub index_number : ℕ → List Piece → List Piece
index_number i rest = record { gap = []; kind = k.Whole (pos i); text = decimal i } ∷ rest

-- where a syntax spells nothing that the grammar wants: no bytes, and the gap
abbrev pub nothing : List ℕ → List Piece → List Piece
nothing gap rest = name gap [] rest

-- ---- words

abbrev pub name_if : Bool → List ℕ → List ℕ → (List ℕ → List Piece) → List Piece
name_if true gap word behind = name gap word (behind space)
name_if false gap word behind = behind gap

abbrev pub operator_kind : Op → TokenKind
operator_kind op.Eq = k.Mark m.Same
operator_kind op.Lt = k.Mark m.Less
operator_kind op.Le = k.Mark m.LessEq
operator_kind op.Gt = k.Mark m.Greater
operator_kind op.Ge = k.Mark m.GreaterEq
operator_kind _ = k.Name

abbrev pub plain_operator : List ℕ → Op → List Piece → List Piece
plain_operator gap operator rest = record { gap = gap; kind = operator_kind operator; text = operator_word operator } ∷ rest

abbrev pub negated_operator : Op → List Piece → List Piece
negated_operator op.Eq rest = mark space m.Differs rest
negated_operator operator rest = mark space m.Bang (plain_operator [] operator rest)

-- behind a space
abbrev pub operator : Op → Bool → List Piece → List Piece
operator o false rest = plain_operator space o rest
operator o true rest = negated_operator o rest

abbrev pub note : Option (List ℕ) → List Piece → List Piece
note None rest = rest
note (Some text) rest = record { gap = space; kind = k.Note; text = codes "<< " ++ (text ++ codes " >>") } ∷ rest

abbrev pub dotted_key : List ℕ → List Piece → List Piece
dotted_key text rest = if is_name text then name [] text rest else str [] text rest

abbrev pub first_key : List ℕ → List ℕ → List Piece → List Piece
first_key gap text rest = if is_free_name text then name gap text rest else str gap text rest

-- behind a bracket
abbrev pub capture : Option Named → List Piece → List Piece
capture None rest = rest
capture (Some n) rest = name space n.text (mark space m.Bar rest)

-- ---- literals

abbrev pub opening_end : Bool → Mark
opening_end true = m.LBracket
opening_end false = m.LParen

abbrev pub closing_end : Bool → Mark
closing_end true = m.RBracket
closing_end false = m.RParen

abbrev pub range : List ℕ → Range → List Piece → List Piece
range gap r rest = name gap (codes "r") (mark [] (opening_end r.low_in) (number [] r.low (mark [] m.Comma (number [] r.high (mark [] (closing_end r.high_in) rest)))))

-- a value, given its items and its entries
abbrev pub value : List ℕ → Label → Kind → (List Piece → List Piece) → (List Piece → List Piece) → List Piece → List Piece
value gap l kind.List of_items of_entries rest = mark gap m.LBracket (of_items (mark [] m.RBracket rest))
value gap l kind.Map of_items of_entries rest = mark gap m.LBrace (of_entries (mark [] m.RBrace rest))
value gap l (kind.Limits r) of_items of_entries rest = range gap r rest
value gap l kind.Text of_items of_entries rest = str gap l.text rest
value gap l kind.Pattern of_items of_entries rest = pattern gap l.text rest
value gap l (kind.Whole n) of_items of_entries rest = number gap (num.Whole n) rest
value gap l (kind.Fraction d) of_items of_entries rest = number gap (num.Fraction d) rest
value gap l (kind.Truth b) of_items of_entries rest = name gap (truth_text b) rest
value gap l kind.Null of_items of_entries rest = name gap (codes "null") rest

-- a value of a map behind its key, and any other
abbrev pub entry : List ℕ → Option (List ℕ) → (List ℕ → List Piece) → List Piece
entry gap None of_value = of_value gap
entry gap (Some text) of_value = str gap text (mark [] m.Colon (of_value space))

abbrev mutual
  pub item_pieces : Forest → List Piece → List Piece
  item_pieces Nil rest = rest
  item_pieces (Node l kids more) rest = value [] l l.kind (item_pieces kids) (entry_pieces kids) (more_item_pieces more rest)

  pub more_item_pieces : Forest → List Piece → List Piece
  more_item_pieces Nil rest = rest
  more_item_pieces (Node l kids more) rest = mark [] m.Comma (value space l l.kind (item_pieces kids) (entry_pieces kids) (more_item_pieces more rest))

  pub entry_pieces : Forest → List Piece → List Piece
  entry_pieces Nil rest = rest
  entry_pieces (Node l kids more) rest = entry [] l.key (λ gap. value gap l l.kind (item_pieces kids) (entry_pieces kids) (more_entry_pieces more rest))

  pub more_entry_pieces : Forest → List Piece → List Piece
  more_entry_pieces Nil rest = rest
  more_entry_pieces (Node l kids more) rest = mark [] m.Comma (entry space l.key (λ gap. value gap l l.kind (item_pieces kids) (entry_pieces kids) (more_entry_pieces more rest)))

abbrev pub literal_pieces : List ℕ → Forest → List Piece → List Piece
literal_pieces gap Nil rest = nothing gap rest
literal_pieces gap (Node l kids more) rest = value gap l l.kind (item_pieces kids) (entry_pieces kids) rest

-- ---- queries

-- the first step, given its tokens as those of a further one
abbrev pub start : List ℕ → Step → List Piece → List Piece → List Piece
start gap (key n text) as_step rest = first_key gap text rest
start gap _ as_step rest = as_step

-- the head of a block, given its tokens as those of a query
abbrev pub head : List ℕ → Query → List Piece → List Piece → List Piece
head gap (query i (more_steps (key n text) no_steps)) as_query rest = str gap text rest
head gap _ as_query rest = as_query

-- ---- conditions

abbrev mutual
  pub conds_pieces : List ℕ → Conds → List Piece → List Piece
  conds_pieces gap (conds n ds) rest = disjs_pieces gap ds rest

  pub disjs_pieces : List ℕ → Disjs → List Piece → List Piece
  disjs_pieces gap no_disjs rest = nothing gap rest
  disjs_pieces gap (more_disjs d ds) rest = disj_pieces gap d (more_disjs_pieces ds rest)

  pub more_disjs_pieces : Disjs → List Piece → List Piece
  more_disjs_pieces no_disjs rest = rest
  more_disjs_pieces (more_disjs d ds) rest = disj_pieces space d (more_disjs_pieces ds rest)

  pub disj_pieces : List ℕ → Disj → List Piece → List Piece
  disj_pieces gap (disj n ps) rest = alternatives_pieces gap ps rest

  pub alternatives_pieces : List ℕ → Parts → List Piece → List Piece
  alternatives_pieces gap no_parts rest = nothing gap rest
  alternatives_pieces gap (more_parts p ps) rest = cond_pieces gap p (more_alternatives_pieces ps rest)

  pub more_alternatives_pieces : Parts → List Piece → List Piece
  more_alternatives_pieces no_parts rest = rest
  more_alternatives_pieces (more_parts p ps) rest = name space (codes "or") (cond_pieces space p (more_alternatives_pieces ps rest))

  pub cond_pieces : List ℕ → Part → List Piece → List Piece
  cond_pieces gap (test n any q o negated right message) rest =
      name_if any gap (codes "some") (λ g. query_pieces g q (operator o negated (opt_expr_pieces right (note message rest))))
  cond_pieces gap (refer n negated text message) rest = name_if negated gap (codes "not") (λ g. name g text (note message rest))
  cond_pieces gap (call n negated text es message) rest =
      name_if negated gap (codes "not") (λ g. name g text (mark [] m.LParen (exprs_pieces es (mark [] m.RParen (note message rest)))))
  cond_pieces gap _ rest = nothing gap rest

  pub query_pieces : List ℕ → Query → List Piece → List Piece
  query_pieces gap (query n no_steps) rest = nothing gap rest
  query_pieces gap (query n (more_steps step steps)) rest = start gap step (step_pieces gap step (steps_pieces [] steps rest)) (steps_pieces [] steps rest)

  -- a query that is an expression
  pub asked_pieces : List ℕ → Query → List Piece → List Piece
  asked_pieces gap (query n no_steps) rest = nothing gap rest
  asked_pieces gap (query n (more_steps step steps)) rest =
      start gap step (step_pieces gap step (steps_pieces (space_within step steps) steps rest)) (steps_pieces (space_within step steps) steps rest)

  -- given the gap in front of the first
  pub steps_pieces : List ℕ → Steps → List Piece → List Piece
  steps_pieces gap no_steps rest = rest
  steps_pieces gap (more_steps step steps) rest = step_pieces gap step (steps_pieces [] steps rest)

  pub step_pieces : List ℕ → Step → List Piece → List Piece
  step_pieces gap (this n) rest = name gap (codes "this") rest
  step_pieces gap (var n text) rest = variable gap text rest
  step_pieces gap (key n text) rest = mark gap m.Dot (dotted_key text rest)
  step_pieces gap (index n i) rest = mark gap m.Dot (index_number i rest)
  step_pieces gap (every n) rest = mark gap m.Dot (mark [] m.Star rest)
  step_pieces gap (items n) rest = mark gap m.LBracket (mark [] m.Star (mark [] m.RBracket rest))
  step_pieces gap (splice n bound) rest = mark gap m.Dot (variable [] bound.text rest)
  step_pieces gap (filter n bound c) rest = mark gap m.LBracket (capture bound (conds_pieces space c (mark space m.RBracket rest)))
  step_pieces gap (keys n bound o negated e) rest = mark gap m.LBracket (capture bound (name space (codes "keys") (operator o negated (expr_pieces space e (mark space m.RBracket rest)))))

  pub expr_pieces : List ℕ → Expr → List Piece → List Piece
  expr_pieces gap (literal n tree) rest = literal_pieces gap tree rest
  expr_pieces gap (function n text es) rest = name gap text (mark (space_behind text) m.LParen (exprs_pieces es (mark [] m.RParen rest)))
  expr_pieces gap (asked q) rest = asked_pieces gap q rest
  expr_pieces gap (found n q) rest = name gap (codes "some") (query_pieces space q rest)

  pub opt_expr_pieces : OptExpr → List Piece → List Piece
  opt_expr_pieces no_expr rest = rest
  opt_expr_pieces (with_expr e) rest = expr_pieces space e rest

  pub exprs_pieces : Exprs → List Piece → List Piece
  exprs_pieces no_exprs rest = rest
  exprs_pieces (more_exprs e es) rest = expr_pieces [] e (more_exprs_pieces es rest)

  pub more_exprs_pieces : Exprs → List Piece → List Piece
  more_exprs_pieces no_exprs rest = rest
  more_exprs_pieces (more_exprs e es) rest = mark [] m.Comma (expr_pieces space e (more_exprs_pieces es rest))

abbrev pub opt_conds_pieces : OptConds → List Piece → List Piece
opt_conds_pieces no_conds rest = rest
opt_conds_pieces (with_conds c) rest = name space (codes "when") (conds_pieces space c rest)

-- ---- lets and blocks

-- the tokens of an item, given the gap in front of them and the tokens behind them
abbrev pub Spell : Type 0
Spell = List ℕ → List Piece → List Piece

-- items in a row, given the gap in front of the first, and that in front of each other
abbrev pub in_a_row : List ℕ → List ℕ → List (ℕ × Spell) → List Piece → List Piece
in_a_row first gap [] rest = rest
in_a_row first gap (item ∷ more) rest = item.1 first (in_a_row gap gap more rest)

abbrev pub let_item : Let → ℕ × Spell
let_item (assign n bound e) = (n, λ gap rest. name gap (codes "let") (name space bound.text (mark space m.Equals (expr_pieces space e rest))))

abbrev pub let_items : Lets → List (ℕ × Spell)
let_items no_lets = []
let_items (more_lets l ls) = let_item l ∷ let_items ls

abbrev mutual
  pub body_pieces : List ℕ → Body → List Piece → List Piece
  body_pieces margin (body n ls ds) rest =
      mark space m.LBrace (in_a_row (new_line (within margin)) (new_line (within margin)) (merged (let_items ls) (disj_items (within margin) ds)) (mark (new_line margin) m.RBrace rest))

  pub disj_items : List ℕ → Disjs → List (ℕ × Spell)
  disj_items margin no_disjs = []
  disj_items margin (more_disjs d ds) = disj_item margin d ∷ disj_items margin ds

  pub disj_item : List ℕ → Disj → ℕ × Spell
  disj_item margin (disj n ps) = (n, λ gap rest. parts_pieces margin gap ps rest)

  pub parts_pieces : List ℕ → List ℕ → Parts → List Piece → List Piece
  parts_pieces margin gap no_parts rest = nothing gap rest
  parts_pieces margin gap (more_parts p ps) rest = part_pieces margin gap p (more_parts_pieces margin ps rest)

  pub more_parts_pieces : List ℕ → Parts → List Piece → List Piece
  more_parts_pieces margin no_parts rest = rest
  more_parts_pieces margin (more_parts p ps) rest = name space (codes "or") (part_pieces margin space p (more_parts_pieces margin ps rest))

  pub part_pieces : List ℕ → List ℕ → Part → List Piece → List Piece
  part_pieces margin gap (block n any q b) rest = name_if any gap (codes "some") (λ g. head g q (query_pieces g q (body_pieces margin b rest)) (body_pieces margin b rest))
  part_pieces margin gap (guarded n c b) rest = name gap (codes "when") (conds_pieces space c (body_pieces margin b rest))
  part_pieces margin gap (kinds n text c b) rest = type_name gap text (opt_conds_pieces c (body_pieces margin b rest))
  part_pieces margin gap part rest = cond_pieces gap part rest

-- ---- files

abbrev pub more_names : List Named → List Piece → List Piece
more_names [] rest = rest
more_names (n ∷ ns) rest = mark [] m.Comma (name space n.text (more_names ns rest))

abbrev pub params : List Named → List Piece → List Piece
params [] rest = rest
params (n ∷ ns) rest = mark [] m.LParen (name [] n.text (more_names ns (mark [] m.RParen rest)))

abbrev pub rule_item : Rule → ℕ × Spell
rule_item r = (r.site, λ gap rest. name gap (codes "rule") (name space r.name.text (params r.params (opt_conds_pieces r.cond (body_pieces [] r.body rest)))))

abbrev pub rule_items : List Rule → List (ℕ × Spell)
rule_items [] = []
rule_items (r ∷ rs) = rule_item r ∷ rule_items rs

abbrev pub file_items : File → List (ℕ × Spell)
file_items f = merged (let_items f.lets) (merged (rule_items f.rules) (disj_items [] f.loose))

abbrev pub rule_pieces : File → List Piece
rule_pieces f = in_a_row [] (new_line []) (file_items f) []

-- behind the last token: a new line, where there is one
abbrev pub end_of : List (ℕ × Spell) → List ℕ
end_of [] = []
end_of (item ∷ rest) = codes "\n"

abbrev pub file_end : File → List ℕ
file_end f = end_of (file_items f)
