-- Ten lines for one rule, `rule r { Resources.B.Properties.BucketName exists }`, whose test fails, and two other lines of the test.
use Rattle.std.specs.Prelude.{false, List, [], ◌∷◌, None, codes}
use Rattle.doc_values.specs.Tree.{Forest, Nil, Node}
use Rattle.doc_values.specs.declared.kind.Kind.TheVariants as value
use Rattle.evidence_lines.specs.declared.line.Line.{Line}
use Rattle.evidence_lines.specs.declared.line.LineKind.TheVariants as kind
use Rattle.evidence_lines.specs.declared.line.Outcome.TheVariants as says
use Rattle.guard_syntax.specs.Syntax.{File, Rule, Body, Query, body, no_lets, no_conds, no_disjs, more_disjs, disj, no_parts, more_parts, test, query, no_steps, more_steps, key, no_expr}
use Rattle.guard_syntax.specs.declared.syntax.Op.TheVariants as op
use Rattle.guard_syntax.specs.declared.row.Row.TheVariants.{Found, Missing}
use Rattle.guard_syntax.specs.declared.row.Verdict.TheVariants.{Pass, Fail}
use Rattle.rule_meaning.specs.StoreModel.{StoreModel}
use Rattle.evidence_rules.specs.Follows.{nothing_made}
use Rattle.evidence_examples.specs.code.GivenLines.{entry, node, said, file_line}

-- ---- the template {"Resources":{"B":{"Type":"AWS::S3::Bucket","Properties":{}}}}

abbrev pub bucket : Forest
bucket = entry (codes "Type") value.Text (codes "AWS::S3::Bucket") 26 Nil (entry (codes "Properties") value.Map [] 57 Nil Nil)

abbrev pub template : Forest
template =
    Node (record { kind = value.Map; text = []; key = None; at = 0 })
    (entry (codes "Resources") value.Map [] 13 (entry (codes "B") value.Map [] 18 bucket Nil) Nil) Nil

-- ---- the rule; the site of the file is 0, that of the rule 1

abbrev pub asked : Query
asked = query 5 (more_steps (key 6 (codes "Resources")) (more_steps (key 7 (codes "B")) (more_steps (key 8 (codes "Properties")) (more_steps (key 9 (codes "BucketName")) no_steps))))

abbrev pub inside : Body
inside = body 2 no_lets (more_disjs (disj 3 (more_parts (test 4 false asked op.Exists false no_expr None) no_parts)) no_disjs)

abbrev pub rule : Rule
rule = record { site = 1; name = record { text = codes "r"; at = 5 }; params = []; cond = no_conds; body = inside }

abbrev pub file : File
file = record { lets = no_lets; rules = rule ∷ []; loose = no_disjs; places = 0 ∷ 0 ∷ 7 ∷ 9 ∷ 9 ∷ 9 ∷ 9 ∷ 18 ∷ 20 ∷ 31 ∷ [] }

-- ---- the lines

abbrev pub line_2 : Line
line_2 = said kind.Frame 1 2 [] (says.Value (node 0))

abbrev pub line_3 : Line
line_3 = said kind.Step 2 6 [] (says.Rows (Found (node 1) ∷ []))

abbrev pub line_4 : Line
line_4 = said kind.Step 2 7 (3 ∷ []) (says.Rows (Found (node 2) ∷ []))

abbrev pub line_5 : Line
line_5 = said kind.Step 2 8 (4 ∷ []) (says.Rows (Found (node 4) ∷ []))

abbrev pub line_6 : Line
line_6 = said kind.Step 2 9 (5 ∷ []) (says.Rows (Missing (node 4) 9 ∷ []))

abbrev pub line_7 : Line
line_7 = said kind.Test 2 4 (6 ∷ []) (says.Verdict Fail)

abbrev pub line_8 : Line
line_8 = said kind.Disj 2 3 (7 ∷ []) (says.Verdict Fail)

abbrev pub line_9 : Line
line_9 = said kind.Conj 2 2 (8 ∷ []) (says.Verdict Fail)

abbrev pub line_10 : Line
line_10 = said kind.Rule 1 1 (9 ∷ []) (says.Verdict Fail)

abbrev pub six_lines : List Line
six_lines = file_line ∷ line_2 ∷ line_3 ∷ line_4 ∷ line_5 ∷ line_6 ∷ []

abbrev pub all_lines : List Line
all_lines = file_line ∷ line_2 ∷ line_3 ∷ line_4 ∷ line_5 ∷ line_6 ∷ line_7 ∷ line_8 ∷ line_9 ∷ line_10 ∷ []

abbrev pub known : StoreModel
known = nothing_made template file

abbrev pub passes_line : Line
passes_line = said kind.Test 2 4 (6 ∷ []) (says.Verdict Pass)

abbrev pub other_cite : Line
other_cite = said kind.Test 2 4 (5 ∷ []) (says.Verdict Fail)
