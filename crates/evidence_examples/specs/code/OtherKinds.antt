-- Fifty-nine lines for rules that have lines of the kinds which are not in the other examples: a filter whose keys are captured, a block, a `when` block, a type
-- block, a function, a key filter and a reference. The rules are
--     let t = Resources[ id | Type == "A::B" ]
--     rule c {
--       %id == "T"
--       when %t !empty { %t { Type exists } }
--       A::B { some this exists }
--       N == count(%t)
--       Resources[ keys == "T" ] exists
--       not d
--     }
--     rule d { M exists }
use Rattle.std.specs.Prelude.{ℕ, true, false, ◌-◌, List, [], ◌∷◌, Some, None, codes, pos, take, slice_index_or}
use Rattle.doc_values.specs.Tree.{Forest, Nil, Node}
use Rattle.doc_values.specs.declared.kind.Kind.TheVariants as value
use Rattle.evidence_lines.specs.declared.line.Line.{Line}
use Rattle.evidence_lines.specs.declared.line.LineKind.TheVariants as kind
use Rattle.evidence_lines.specs.declared.line.Outcome.TheVariants as says
use Rattle.guard_syntax.specs.Syntax.{File, Rule, Body, Conds, Query, Expr, body, conds, no_lets, more_lets, assign, no_conds, no_disjs, more_disjs, disj, no_parts, more_parts, block, guarded, kinds, test, refer, query, no_steps, more_steps, var, key, this, filter, keys, literal, function, asked, no_expr, with_expr, no_exprs, more_exprs}
use Rattle.guard_syntax.specs.declared.syntax.Op.TheVariants as op
use Rattle.guard_syntax.specs.declared.row.Origin.TheVariants as origin
use Rattle.guard_syntax.specs.declared.row.Row.{Row}
use Rattle.guard_syntax.specs.declared.row.Row.TheVariants.{Found, Missing}
use Rattle.guard_syntax.specs.declared.row.Verdict.TheVariants.{Pass, Fail}
use Rattle.rule_meaning.specs.StoreModel.{StoreModel, Made}
use Rattle.rule_meaning.specs.Functions.{whole_tree}
use Rattle.evidence_rules.specs.Follows.{nothing_made}
use Rattle.rule_meaning.specs.Seeing.{grown}
use Rattle.evidence_examples.specs.code.GivenLines.{entry, node, said, file_line}

-- ---- the template {"Resources":{"T":{"Type":"A::B"}},"N":1}

abbrev pub template : Forest
template =
    Node (record { kind = value.Map; text = []; key = None; at = 0 })
    (entry (codes "Resources") value.Map [] 13 (entry (codes "T") value.Map [] 18 (entry (codes "Type") value.Text (codes "A::B") 26 Nil Nil) Nil)
    (entry (codes "N") (value.Whole (pos 1)) [] 39 Nil Nil)) Nil

-- ---- the rules; the sites are those of the file 0, of the let 1, and of the rules 11 and 57

abbrev pub filter_conds : Conds
filter_conds = conds 5 (more_disjs (disj 6 (more_parts (test 7 false (query 8 (more_steps (key 9 (codes "Type")) no_steps)) op.Eq false (with_expr (literal 10 (Node (record { kind = value.Text; text = codes "A::B"; key = None; at = 32 }) Nil Nil))) None) no_parts)) no_disjs)

abbrev pub tops : Query
tops = query 2 (more_steps (key 3 (codes "Resources")) (more_steps (filter 4 (Some (record { text = codes "id"; at = 19 })) filter_conds) no_steps))

abbrev pub block_body : Body
block_body = body 30 no_lets (more_disjs (disj 31 (more_parts (test 32 false (query 33 (more_steps (key 34 (codes "Type")) no_steps)) op.Exists false no_expr None) no_parts)) no_disjs)

abbrev pub when_body : Body
when_body = body 25 no_lets (more_disjs (disj 26 (more_parts (block 27 false (query 28 (more_steps (var 29 (codes "t")) no_steps)) block_body) no_parts)) no_disjs)

abbrev pub when_conds : Conds
when_conds = conds 20 (more_disjs (disj 21 (more_parts (test 22 false (query 23 (more_steps (var 24 (codes "t")) no_steps)) op.Empty true no_expr None) no_parts)) no_disjs)

abbrev pub type_body : Body
type_body = body 37 no_lets (more_disjs (disj 38 (more_parts (test 39 true (query 40 (more_steps (this 41) no_steps)) op.Exists false no_expr None) no_parts)) no_disjs)

abbrev pub counts : Expr
counts = function 46 (codes "count") (more_exprs (asked (query 47 (more_steps (var 48 (codes "t")) no_steps))) no_exprs)

abbrev pub c_body : Body
c_body =
    body 12 no_lets
    (more_disjs (disj 13 (more_parts (test 14 false (query 15 (more_steps (var 16 (codes "id")) no_steps)) op.Eq false (with_expr (literal 17 (Node (record { kind = value.Text; text = codes "T"; key = None; at = 59 }) Nil Nil))) None) no_parts))
    (more_disjs (disj 18 (more_parts (guarded 19 when_conds when_body) no_parts))
    (more_disjs (disj 35 (more_parts (kinds 36 (codes "A::B") no_conds type_body) no_parts))
    (more_disjs (disj 42 (more_parts (test 43 false (query 44 (more_steps (key 45 (codes "N")) no_steps)) op.Eq false (with_expr counts) None) no_parts))
    (more_disjs (disj 49 (more_parts (test 50 false (query 51 (more_steps (key 52 (codes "Resources")) (more_steps (keys 53 None op.Eq false (literal 54 (Node (record { kind = value.Text; text = codes "T"; key = None; at = 169 }) Nil Nil))) no_steps))) op.Exists false no_expr None) no_parts))
    (more_disjs (disj 55 (more_parts (refer 56 true (codes "d") None) no_parts))
    no_disjs))))))

abbrev pub d_body : Body
d_body = body 58 no_lets (more_disjs (disj 59 (more_parts (test 60 false (query 61 (more_steps (key 62 (codes "M")) no_steps)) op.Exists false no_expr None) no_parts)) no_disjs)

abbrev pub rule_c : Rule
rule_c = record { site = 11; name = record { text = codes "c"; at = 46 }; params = []; cond = no_conds; body = c_body }

abbrev pub rule_d : Rule
rule_d = record { site = 57; name = record { text = codes "d"; at = 197 }; params = []; cond = no_conds; body = d_body }

abbrev pub file : File
file = record {
  lets = more_lets (assign 1 (record { text = codes "t"; at = 4 }) (asked tops)) no_lets;
  rules = rule_c ∷ rule_d ∷ [];
  loose = no_disjs;
  places =
      0 ∷ 0 ∷ 8 ∷ 8 ∷ 17 ∷ 24 ∷ 24 ∷ 24 ∷ 24 ∷ 24 ∷ 32 ∷ 41 ∷ 48 ∷ 52 ∷ 52 ∷ 52 ∷ 52 ∷ 59 ∷ 65 ∷ 65 ∷ 70 ∷ 70 ∷ 70 ∷ 70 ∷ 70 ∷ 80 ∷ 82 ∷ 82 ∷ 82 ∷ 82 ∷ 85 ∷ 87
      ∷ 87 ∷ 87 ∷ 87 ∷ 105 ∷ 105 ∷ 110 ∷ 112 ∷ 112 ∷ 117 ∷ 117 ∷ 133 ∷ 133 ∷ 133 ∷ 133 ∷ 138 ∷ 144 ∷ 144 ∷ 150 ∷ 150 ∷ 150 ∷ 150 ∷ 159 ∷ 169 ∷ 184 ∷ 184 ∷ 192 ∷ 199 ∷ 201 ∷ 201 ∷ 201 ∷ 201 ∷ [];
}

-- what is known before the line of the function, and what behind it
abbrev pub known : StoreModel
known = nothing_made template file

abbrev pub counted : List Made
counted = record { line = 42; row = 0; tree = whole_tree (pos 1) } ∷ []

abbrev pub after : StoreModel
after = grown known counted

-- ---- the lines

abbrev pub rows : ℕ → List Row
rows n = Found (node n) ∷ []

abbrev pub literal_row : ℕ → List Row
literal_row site = Found (record { origin = origin.Literal site; node = 0; key = false }) ∷ []

abbrev pub key_row : List Row
key_row = Found (record { origin = origin.Template; node = 2; key = true }) ∷ []

abbrev pub counted_row : List Row
counted_row = Found (record { origin = origin.Made 42 0; node = 0; key = false }) ∷ []

abbrev pub all_lines : List Line
all_lines =
    file_line
    ∷ said kind.Step 1 3 [] (says.Rows (rows 1))
    ∷ said kind.Frame 1 4 [] (says.Value (node 2))
    ∷ said kind.Step 3 9 [] (says.Rows (rows 3))
    ∷ said kind.Literal 3 10 [] (says.Rows (literal_row 10))
    ∷ said kind.Test 3 7 (4 ∷ 5 ∷ []) (says.Verdict Pass)
    ∷ said kind.Disj 3 6 (6 ∷ []) (says.Verdict Pass)
    ∷ said kind.Conj 3 5 (7 ∷ []) (says.Verdict Pass)
    ∷ said kind.Filter 1 4 (2 ∷ 8 ∷ []) (says.Rows (rows 2))
    ∷ said kind.Capture 1 4 (9 ∷ []) (says.Rows key_row)
    ∷ said kind.Frame 1 12 [] (says.Value (node 0))
    ∷ said kind.Step 11 16 (10 ∷ []) (says.Rows key_row)
    ∷ said kind.Literal 11 17 [] (says.Rows (literal_row 17))
    ∷ said kind.Test 11 14 (12 ∷ 13 ∷ []) (says.Verdict Pass)
    ∷ said kind.Disj 11 13 (14 ∷ []) (says.Verdict Pass)
    ∷ said kind.Step 11 24 (9 ∷ []) (says.Rows (rows 2))
    ∷ said kind.Test 11 22 (16 ∷ []) (says.Verdict Pass)
    ∷ said kind.Disj 11 21 (17 ∷ []) (says.Verdict Pass)
    ∷ said kind.Conj 11 20 (18 ∷ []) (says.Verdict Pass)
    ∷ said kind.Frame 11 25 [] (says.Value (node 0))
    ∷ said kind.Step 20 29 (9 ∷ []) (says.Rows (rows 2))
    ∷ said kind.Frame 20 30 [] (says.Value (node 2))
    ∷ said kind.Step 22 34 [] (says.Rows (rows 3))
    ∷ said kind.Test 22 32 (23 ∷ []) (says.Verdict Pass)
    ∷ said kind.Disj 22 31 (24 ∷ []) (says.Verdict Pass)
    ∷ said kind.Conj 22 30 (25 ∷ []) (says.Verdict Pass)
    ∷ said kind.Block 20 27 (21 ∷ 26 ∷ []) (says.Verdict Pass)
    ∷ said kind.Disj 20 26 (27 ∷ []) (says.Verdict Pass)
    ∷ said kind.Conj 20 25 (28 ∷ []) (says.Verdict Pass)
    ∷ said kind.When 11 19 (19 ∷ 29 ∷ []) (says.Verdict Pass)
    ∷ said kind.Disj 11 18 (30 ∷ []) (says.Verdict Pass)
    ∷ said kind.Types 11 36 [] (says.Rows (rows 2))
    ∷ said kind.Frame 11 37 [] (says.Value (node 2))
    ∷ said kind.Step 33 41 [] (says.Rows (rows 2))
    ∷ said kind.Test 33 39 (34 ∷ []) (says.Verdict Pass)
    ∷ said kind.Disj 33 38 (35 ∷ []) (says.Verdict Pass)
    ∷ said kind.Conj 33 37 (36 ∷ []) (says.Verdict Pass)
    ∷ said kind.Kinds 11 36 (32 ∷ 37 ∷ []) (says.Verdict Pass)
    ∷ said kind.Disj 11 35 (38 ∷ []) (says.Verdict Pass)
    ∷ said kind.Step 11 45 [] (says.Rows (rows 4))
    ∷ said kind.Step 11 48 (9 ∷ []) (says.Rows (rows 2))
    ∷ said kind.Fn 11 46 (41 ∷ []) (says.Rows counted_row)
    ∷ said kind.Test 11 43 (40 ∷ 42 ∷ []) (says.Verdict Pass)
    ∷ said kind.Disj 11 42 (43 ∷ []) (says.Verdict Pass)
    ∷ said kind.Step 11 52 [] (says.Rows (rows 1))
    ∷ said kind.Literal 11 54 [] (says.Rows (literal_row 54))
    ∷ said kind.Keys 11 53 (45 ∷ 46 ∷ []) (says.Rows (rows 2))
    ∷ said kind.Test 11 50 (47 ∷ []) (says.Verdict Pass)
    ∷ said kind.Disj 11 49 (48 ∷ []) (says.Verdict Pass)
    ∷ said kind.Frame 1 58 [] (says.Value (node 0))
    ∷ said kind.Step 50 62 [] (says.Rows (Missing (node 0) 62 ∷ []))
    ∷ said kind.Test 50 60 (51 ∷ []) (says.Verdict Fail)
    ∷ said kind.Disj 50 59 (52 ∷ []) (says.Verdict Fail)
    ∷ said kind.Conj 50 58 (53 ∷ []) (says.Verdict Fail)
    ∷ said kind.Rule 1 57 (54 ∷ []) (says.Verdict Fail)
    ∷ said kind.Refer 11 56 (55 ∷ []) (says.Verdict Pass)
    ∷ said kind.Disj 11 55 (56 ∷ []) (says.Verdict Pass)
    ∷ said kind.Conj 11 12 (15 ∷ 31 ∷ 39 ∷ 44 ∷ 49 ∷ 57 ∷ []) (says.Verdict Pass)
    ∷ said kind.Rule 1 11 (58 ∷ []) (says.Verdict Pass)
    ∷ []

-- the line of a number, and so many lines at the beginning
abbrev pub line : ℕ → Line
line n = slice_index_or all_lines (n - 1) file_line

abbrev pub first : ℕ → List Line
first n = take n all_lines
