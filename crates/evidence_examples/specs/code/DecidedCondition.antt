-- Eleven lines of version 2 for `rule r when A exists or B exists { C exists }`: the first condition decides, and no line says anything of the second.
use Rattle.std.specs.Prelude.{ℕ, suc, false, List, [], ◌∷◌, None, codes, pos}
use Rattle.doc_values.specs.Tree.{Forest, Nil, Node}
use Rattle.doc_values.specs.declared.kind.Kind.TheVariants as value
use Rattle.evidence_lines.specs.declared.line.Line.{Line}
use Rattle.evidence_lines.specs.declared.line.LineKind.TheVariants as kind
use Rattle.evidence_lines.specs.declared.line.Outcome.TheVariants as says
use Rattle.guard_syntax.specs.Syntax.{File, Rule, Body, Conds, Part, Parts, body, conds, with_conds, no_lets, no_disjs, more_disjs, disj, no_parts, more_parts, test, query, no_steps, more_steps, key, no_expr}
use Rattle.guard_syntax.specs.declared.syntax.Op.TheVariants as op
use Rattle.guard_syntax.specs.declared.row.Row.{Row}
use Rattle.guard_syntax.specs.declared.row.Row.TheVariants.{Found}
use Rattle.guard_syntax.specs.declared.row.Verdict.TheVariants.{Pass}
use Rattle.rule_meaning.specs.StoreModel.{StoreModel}
use Rattle.evidence_rules.specs.Follows.{nothing_made}
use Rattle.evidence_examples.specs.code.GivenLines.{entry, node, said, file_line}

-- ---- the template {"A":1,"C":2}

abbrev pub template : Forest
template =
    Node (record { kind = value.Map; text = []; key = None; at = 0 })
    (entry (codes "A") (value.Whole (pos 1)) [] 5 Nil (entry (codes "C") (value.Whole (pos 2)) [] 11 Nil Nil)) Nil

-- ---- the rule

-- the test, at a site, that a key is there
abbrev pub there : (site : ℕ) → List ℕ → Part
there site name = test site false (query (suc site) (more_steps (key (suc (suc site)) name) no_steps)) op.Exists false no_expr None

-- `A exists or B exists`
abbrev pub either : Parts
either = more_parts (there 4 (codes "A")) (more_parts (there 7 (codes "B")) no_parts)

abbrev pub conditions : Conds
conditions = conds 2 (more_disjs (disj 3 either) no_disjs)

abbrev pub inside : Body
inside = body 10 no_lets (more_disjs (disj 11 (more_parts (there 12 (codes "C")) no_parts)) no_disjs)

abbrev pub rule : Rule
rule = record { site = 1; name = record { text = codes "r"; at = 5 }; params = []; cond = with_conds conditions; body = inside }

abbrev pub file : File
file = record {
  lets = no_lets;
  rules = rule ∷ [];
  loose = no_disjs;
  places = 0 ∷ 0 ∷ 12 ∷ 12 ∷ 12 ∷ 12 ∷ 12 ∷ 24 ∷ 24 ∷ 24 ∷ 33 ∷ 35 ∷ 35 ∷ 35 ∷ 35 ∷ [];
}

abbrev pub known : StoreModel
known = nothing_made template file

-- ---- the lines

abbrev pub rows : ℕ → List Row
rows n = Found (node n) ∷ []

abbrev pub line_2 : Line
line_2 = said kind.Step 1 6 [] (says.Rows (rows 1))

abbrev pub line_3 : Line
line_3 = said kind.Test 1 4 (2 ∷ []) (says.Verdict Pass)

-- cites the line of the first part alone
abbrev pub line_4 : Line
line_4 = said kind.Disj 1 3 (3 ∷ []) (says.Verdict Pass)

abbrev pub line_5 : Line
line_5 = said kind.Conj 1 2 (4 ∷ []) (says.Verdict Pass)

abbrev pub line_6 : Line
line_6 = said kind.Frame 1 10 [] (says.Value (node 0))

abbrev pub line_7 : Line
line_7 = said kind.Step 6 14 [] (says.Rows (rows 2))

abbrev pub line_8 : Line
line_8 = said kind.Test 6 12 (7 ∷ []) (says.Verdict Pass)

abbrev pub line_9 : Line
line_9 = said kind.Disj 6 11 (8 ∷ []) (says.Verdict Pass)

abbrev pub line_10 : Line
line_10 = said kind.Conj 6 10 (9 ∷ []) (says.Verdict Pass)

abbrev pub line_11 : Line
line_11 = said kind.Rule 1 1 (5 ∷ 10 ∷ []) (says.Verdict Pass)

-- the first of them
abbrev pub one_lines : List Line
one_lines = file_line ∷ []

abbrev pub two_lines : List Line
two_lines = file_line ∷ line_2 ∷ []

abbrev pub three_lines : List Line
three_lines = file_line ∷ line_2 ∷ line_3 ∷ []

abbrev pub four_lines : List Line
four_lines = file_line ∷ line_2 ∷ line_3 ∷ line_4 ∷ []

abbrev pub five_lines : List Line
five_lines = file_line ∷ line_2 ∷ line_3 ∷ line_4 ∷ line_5 ∷ []

abbrev pub six_lines : List Line
six_lines = file_line ∷ line_2 ∷ line_3 ∷ line_4 ∷ line_5 ∷ line_6 ∷ []

abbrev pub seven_lines : List Line
seven_lines = file_line ∷ line_2 ∷ line_3 ∷ line_4 ∷ line_5 ∷ line_6 ∷ line_7 ∷ []

abbrev pub eight_lines : List Line
eight_lines = file_line ∷ line_2 ∷ line_3 ∷ line_4 ∷ line_5 ∷ line_6 ∷ line_7 ∷ line_8 ∷ []

abbrev pub nine_lines : List Line
nine_lines = file_line ∷ line_2 ∷ line_3 ∷ line_4 ∷ line_5 ∷ line_6 ∷ line_7 ∷ line_8 ∷ line_9 ∷ []

abbrev pub ten_lines : List Line
ten_lines = file_line ∷ line_2 ∷ line_3 ∷ line_4 ∷ line_5 ∷ line_6 ∷ line_7 ∷ line_8 ∷ line_9 ∷ line_10 ∷ []

abbrev pub all_lines : List Line
all_lines = file_line ∷ line_2 ∷ line_3 ∷ line_4 ∷ line_5 ∷ line_6 ∷ line_7 ∷ line_8 ∷ line_9 ∷ line_10 ∷ line_11 ∷ []
