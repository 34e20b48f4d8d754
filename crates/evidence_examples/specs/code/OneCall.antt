-- Sixteen lines for `let a = some A`, `rule need(x, k) { %x.%k exists }` and `rule r { need(%a, "n") }`.
use Rattle.std.specs.Prelude.{ℕ, false, ◌-◌, List, [], ◌∷◌, None, codes, pos, take, slice_index_or}
use Rattle.doc_values.specs.Tree.{Forest, Nil, Node}
use Rattle.doc_values.specs.declared.kind.Kind.TheVariants as value
use Rattle.evidence_lines.specs.declared.line.Line.{Line}
use Rattle.evidence_lines.specs.declared.line.LineKind.TheVariants as kind
use Rattle.evidence_lines.specs.declared.line.Outcome.TheVariants as says
use Rattle.guard_syntax.specs.Syntax.{File, Rule, Body, Expr, Exprs, body, no_lets, more_lets, assign, no_conds, no_disjs, more_disjs, disj, no_parts, more_parts, test, call, query, no_steps, more_steps, var, splice, key, literal, asked, found, no_expr, no_exprs, more_exprs}
use Rattle.guard_syntax.specs.declared.syntax.Op.TheVariants as op
use Rattle.guard_syntax.specs.declared.row.Origin.TheVariants as origin
use Rattle.guard_syntax.specs.declared.row.Row.{Row}
use Rattle.guard_syntax.specs.declared.row.Row.TheVariants.{Found}
use Rattle.guard_syntax.specs.declared.row.Verdict.TheVariants.{Pass}
use Rattle.rule_meaning.specs.StoreModel.{StoreModel}
use Rattle.evidence_rules.specs.Follows.{nothing_made}
use Rattle.evidence_examples.specs.code.GivenLines.{entry, node, said, file_line}

-- ---- the template {"A":{"n":1}}

abbrev pub template : Forest
template =
    Node (record { kind = value.Map; text = []; key = None; at = 0 })
    (entry (codes "A") value.Map [] 5 (entry (codes "n") (value.Whole (pos 1)) [] 10 Nil Nil) Nil) Nil

-- ---- the rules; the sites are those of the file 0, of the let 1, and of the rules 5 and 12

abbrev pub some_a : Expr
some_a = found 2 (query 3 (more_steps (key 4 (codes "A")) no_steps))

abbrev pub need_body : Body
need_body = body 6 no_lets (more_disjs (disj 7 (more_parts (test 8 false (query 9 (more_steps (var 10 (codes "x")) (more_steps (splice 11 (record { text = codes "k"; at = 36 })) no_steps))) op.Exists false no_expr None) no_parts)) no_disjs)

abbrev pub need : Rule
need = record {
  site = 5;
  name = record { text = codes "need"; at = 20 };
  params = record { text = codes "x"; at = 25 } ∷ record { text = codes "k"; at = 28 } ∷ [];
  cond = no_conds;
  body = need_body;
}

abbrev pub first_arg : Expr
first_arg = asked (query 16 (more_steps (var 17 (codes "a")) no_steps))

abbrev pub second_arg : Expr
second_arg = literal 18 (Node (record { kind = value.Text; text = codes "n"; key = None; at = 66 }) Nil Nil)

abbrev pub args : Exprs
args = more_exprs first_arg (more_exprs second_arg no_exprs)

abbrev pub inside : Body
inside = body 13 no_lets (more_disjs (disj 14 (more_parts (call 15 false (codes "need") args None) no_parts)) no_disjs)

abbrev pub rule : Rule
rule = record { site = 12; name = record { text = codes "r"; at = 53 }; params = []; cond = no_conds; body = inside }

abbrev pub file : File
file = record {
  lets = more_lets (assign 1 (record { text = codes "a"; at = 4 }) some_a) no_lets;
  rules = need ∷ rule ∷ [];
  loose = no_disjs;
  places = 0 ∷ 0 ∷ 8 ∷ 13 ∷ 13 ∷ 15 ∷ 31 ∷ 33 ∷ 33 ∷ 33 ∷ 33 ∷ 35 ∷ 48 ∷ 55 ∷ 57 ∷ 57 ∷ 62 ∷ 62 ∷ 66 ∷ [];
}

abbrev pub known : StoreModel
known = nothing_made template file

-- ---- the lines

abbrev pub rows : ℕ → List Row
rows n = Found (node n) ∷ []

abbrev pub text_row : List Row
text_row = Found (record { origin = origin.Literal 18; node = 0; key = false }) ∷ []

abbrev pub all_lines : List Line
all_lines =
    file_line
    ∷ said kind.Step 1 4 [] (says.Rows (rows 1))
    ∷ said kind.Found 1 2 (2 ∷ []) (says.Rows (rows 1))
    ∷ said kind.Frame 1 13 [] (says.Value (node 0))
    ∷ said kind.Step 4 17 (3 ∷ []) (says.Rows (rows 1))
    ∷ said kind.Literal 4 18 [] (says.Rows text_row)
    ∷ said kind.Frame 4 15 [] (says.Value (node 0))
    ∷ said kind.Step 7 10 (5 ∷ []) (says.Rows (rows 1))
    ∷ said kind.Step 7 11 (8 ∷ 6 ∷ []) (says.Rows (rows 2))
    ∷ said kind.Test 7 8 (9 ∷ []) (says.Verdict Pass)
    ∷ said kind.Disj 7 7 (10 ∷ []) (says.Verdict Pass)
    ∷ said kind.Conj 7 6 (11 ∷ []) (says.Verdict Pass)
    ∷ said kind.Call 4 15 (12 ∷ []) (says.Verdict Pass)
    ∷ said kind.Disj 4 14 (13 ∷ []) (says.Verdict Pass)
    ∷ said kind.Conj 4 13 (14 ∷ []) (says.Verdict Pass)
    ∷ said kind.Rule 1 12 (15 ∷ []) (says.Verdict Pass)
    ∷ []

-- the line of a number, and so many lines at the beginning
abbrev pub line : ℕ → Line
line n = slice_index_or all_lines (n - 1) file_line

abbrev pub first : ℕ → List Line
first n = take n all_lines
