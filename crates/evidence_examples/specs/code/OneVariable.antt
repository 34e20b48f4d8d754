-- Thirteen lines for `let x = A` and `rule r { %x.b exists %x.c exists }`: both uses of the variable cite one line.
use Rattle.std.specs.Prelude.{ℕ, suc, false, List, [], ◌∷◌, None, codes, pos}
use Rattle.doc_values.specs.Tree.{Forest, Nil, Node}
use Rattle.doc_values.specs.declared.kind.Kind.TheVariants as value
use Rattle.evidence_lines.specs.declared.line.Line.{Line}
use Rattle.evidence_lines.specs.declared.line.LineKind.TheVariants as kind
use Rattle.evidence_lines.specs.declared.line.Outcome.TheVariants as says
use Rattle.guard_syntax.specs.Syntax.{File, Rule, Body, Query, Step, Disj, body, no_lets, more_lets, assign, no_conds, no_disjs, more_disjs, disj, no_parts, more_parts, test, query, no_steps, more_steps, var, key, asked, no_expr}
use Rattle.guard_syntax.specs.declared.syntax.Op.TheVariants as op
use Rattle.guard_syntax.specs.declared.row.Row.{Row}
use Rattle.guard_syntax.specs.declared.row.Row.TheVariants.{Found}
use Rattle.guard_syntax.specs.declared.row.Verdict.TheVariants.{Pass}
use Rattle.rule_meaning.specs.StoreModel.{StoreModel}
use Rattle.evidence_rules.specs.Follows.{nothing_made}
use Rattle.evidence_examples.specs.code.GivenLines.{entry, node, said, file_line}

-- ---- the template {"A":{"b":1,"c":2}}

abbrev pub template : Forest
template =
    Node (record { kind = value.Map; text = []; key = None; at = 0 })
    (entry (codes "A") value.Map [] 5 (entry (codes "b") (value.Whole (pos 1)) [] 10 Nil (entry (codes "c") (value.Whole (pos 2)) [] 16 Nil Nil)) Nil) Nil

-- ---- the rules; the sites are those of the file 0, of the let 1 and of the rule 4

abbrev pub key_a : Step
key_a = key 3 (codes "A")

abbrev pub both : Query
both = query 2 (more_steps key_a no_steps)

-- `%x` and a key behind it, and the test that it is there
abbrev pub start : ℕ → Step
start site = var site (codes "x")

abbrev pub behind : (site : ℕ) → Step → Step → Query
behind site first second = query site (more_steps first (more_steps second no_steps))

abbrev pub there : (site : ℕ) → Query → Disj
there site q = disj site (more_parts (test (suc site) false q op.Exists false no_expr None) no_parts)

abbrev pub inside : Body
inside =
    body 5 no_lets (more_disjs (there 6 (behind 8 (start 9) (key 10 (codes "b")))) (more_disjs (there 11 (behind 13 (start 14) (key 15 (codes "c")))) no_disjs))

abbrev pub rule : Rule
rule = record { site = 4; name = record { text = codes "r"; at = 15 }; params = []; cond = no_conds; body = inside }

abbrev pub file : File
file = record {
  lets = more_lets (assign 1 (record { text = codes "x"; at = 4 }) (asked both)) no_lets;
  rules = rule ∷ [];
  loose = no_disjs;
  places = 0 ∷ 0 ∷ 8 ∷ 8 ∷ 10 ∷ 17 ∷ 19 ∷ 19 ∷ 19 ∷ 19 ∷ 21 ∷ 31 ∷ 31 ∷ 31 ∷ 31 ∷ 33 ∷ [];
}

abbrev pub known : StoreModel
known = nothing_made template file

-- ---- the lines

abbrev pub rows : ℕ → List Row
rows n = Found (node n) ∷ []

abbrev pub line_2 : Line
line_2 = said kind.Step 1 3 [] (says.Rows (rows 1))

abbrev pub line_3 : Line
line_3 = said kind.Frame 1 5 [] (says.Value (node 0))

abbrev pub line_4 : Line
line_4 = said kind.Step 3 9 (2 ∷ []) (says.Rows (rows 1))

abbrev pub line_5 : Line
line_5 = said kind.Step 3 10 (4 ∷ []) (says.Rows (rows 2))

abbrev pub line_6 : Line
line_6 = said kind.Test 3 7 (5 ∷ []) (says.Verdict Pass)

abbrev pub line_7 : Line
line_7 = said kind.Disj 3 6 (6 ∷ []) (says.Verdict Pass)

abbrev pub line_8 : Line
line_8 = said kind.Step 3 14 (2 ∷ []) (says.Rows (rows 1))

abbrev pub line_9 : Line
line_9 = said kind.Step 3 15 (8 ∷ []) (says.Rows (rows 3))

abbrev pub line_10 : Line
line_10 = said kind.Test 3 12 (9 ∷ []) (says.Verdict Pass)

abbrev pub line_11 : Line
line_11 = said kind.Disj 3 11 (10 ∷ []) (says.Verdict Pass)

abbrev pub line_12 : Line
line_12 = said kind.Conj 3 5 (7 ∷ 11 ∷ []) (says.Verdict Pass)

abbrev pub line_13 : Line
line_13 = said kind.Rule 1 4 (12 ∷ []) (says.Verdict Pass)

-- the first of them
abbrev pub one_lines : List Line
one_lines = file_line ∷ []

abbrev pub two_lines : List Line
two_lines = file_line ∷ line_2 ∷ []

abbrev pub three_lines : List Line
three_lines = file_line ∷ line_2 ∷ line_3 ∷ []

abbrev pub four_lines : List Line
four_lines = file_line ∷ line_2 ∷ line_3 ∷ line_4 ∷ []

abbrev pub five_lines : List Line
five_lines = file_line ∷ line_2 ∷ line_3 ∷ line_4 ∷ line_5 ∷ []

abbrev pub six_lines : List Line
six_lines = file_line ∷ line_2 ∷ line_3 ∷ line_4 ∷ line_5 ∷ line_6 ∷ []

abbrev pub seven_lines : List Line
seven_lines = file_line ∷ line_2 ∷ line_3 ∷ line_4 ∷ line_5 ∷ line_6 ∷ line_7 ∷ []

abbrev pub eight_lines : List Line
eight_lines = file_line ∷ line_2 ∷ line_3 ∷ line_4 ∷ line_5 ∷ line_6 ∷ line_7 ∷ line_8 ∷ []

abbrev pub nine_lines : List Line
nine_lines = file_line ∷ line_2 ∷ line_3 ∷ line_4 ∷ line_5 ∷ line_6 ∷ line_7 ∷ line_8 ∷ line_9 ∷ []

abbrev pub ten_lines : List Line
ten_lines = file_line ∷ line_2 ∷ line_3 ∷ line_4 ∷ line_5 ∷ line_6 ∷ line_7 ∷ line_8 ∷ line_9 ∷ line_10 ∷ []

abbrev pub eleven_lines : List Line
eleven_lines = file_line ∷ line_2 ∷ line_3 ∷ line_4 ∷ line_5 ∷ line_6 ∷ line_7 ∷ line_8 ∷ line_9 ∷ line_10 ∷ line_11 ∷ []

abbrev pub twelve_lines : List Line
twelve_lines = file_line ∷ line_2 ∷ line_3 ∷ line_4 ∷ line_5 ∷ line_6 ∷ line_7 ∷ line_8 ∷ line_9 ∷ line_10 ∷ line_11 ∷ line_12 ∷ []

abbrev pub all_lines : List Line
all_lines = file_line ∷ line_2 ∷ line_3 ∷ line_4 ∷ line_5 ∷ line_6 ∷ line_7 ∷ line_8 ∷ line_9 ∷ line_10 ∷ line_11 ∷ line_12 ∷ line_13 ∷ []
