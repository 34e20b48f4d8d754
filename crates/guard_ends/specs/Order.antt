-- The order of work: what a call comes to, by its words and by what is told of the files. A stage of the work comes to
-- something itself, or the work goes on with what the stage gives.
use Rattle.std.specs.Prelude.{ℕ, ◌≡◌, ◌⊎◌, List, [], Option, Some, None, IsSome, IsNone, All, true, false, if◌then◌else◌}
use Rattle.std.specs.List.{list_any}
use Rattle.std.specs.Option.{ForSome}
use Rattle.doc_values.specs.Places.{first_kids, first_label}
use Rattle.doc_values.specs.Merge.{first_shared, is_map_tree, merged}
use Rattle.doc_values.specs.Tree.{Forest, size}
use Rattle.evidence_lines.specs.Versioned.{Versioned}
use Rattle.evidence_lines.specs.declared.line.Line.{Line}
use Rattle.evidence_lines.specs.declared.version.Version.TheVariants.{Two}
use Rattle.evidence_text.specs.Text.{IsEvidence}
use Rattle.evidence_rules.specs.Follows.{Accepts}
use Rattle.evidence_rules.specs.Rejected.{IsRejectedAt}
use Rattle.evidence_rules.specs.RuleLines.{AreOfRules}
use Rattle.evidence_rules.specs.Lean.{IsLean}
use Rattle.guard_drill.specs.DrillTexts.{template_text}
use Rattle.guard_syntax.specs.Syntax.{File}
use Rattle.guard_syntax.specs.declared.row.Verdict.{Verdict}
use Rattle.guard_testfile.specs.Cases.{TestCase}
use Rattle.guard_testfile.specs.Texts.{Difference, is_wrong, tests_text}
use Rattle.guard_words.specs.Request.{Asked, AsksFor, check, drill, parse_tree, rulegen, test, validate}
use Rattle.rule_meaning.specs.FunctionMeaning.{IsAnswering}
use Rattle.rule_meaning.specs.Locations.{Answers, World}
use Rattle.rule_meaning.specs.NextPattern.{IsNextPattern}
use Rattle.rule_meaning.specs.PatternMatch.{pattern_in}
use Rattle.rule_meaning.specs.Patterns.{Written, patterns_of}
use Rattle.rule_meaning.specs.Verdicts.{is_fail}
use Rattle.report_text.specs.Texts.{Parameters, Texts}
use Rattle.rule_printer.specs.RuleText.{rule_text}
use Rattle.guard_ends.specs.Check.{accepted_text, rejected_text}
use Rattle.guard_ends.specs.Drill.{drill_report, drill_rules}
use Rattle.guard_ends.specs.Inputs.{AreCases, AreGenerated, HasSyntax, IsProof, IsRuleFile, IsTemplate, RefusesCases, RefusesData, RefusesGenerated, RefusesProof, RefusesRules, RefusesUnnamed, format_of}
use Rattle.guard_ends.specs.Lines.{refusal_line, usage_line}
use Rattle.guard_ends.specs.Report.{Reporting, report}
use Rattle.guard_ends.specs.Reported.{verdicts_of, world_over}
use Rattle.guard_ends.specs.Tests.{AreFound}
use Rattle.guard_ends.specs.declared.ends.End.{End}
use Rattle.guard_ends.specs.declared.ends.End.TheVariants as end_is
use Rattle.guard_ends.specs.declared.ends.Refusal.{Refusal}
use Rattle.guard_ends.specs.declared.ends.Refusal.TheVariants.{At}
use Rattle.guard_ends.specs.declared.ends.RefusalKind.TheVariants.{BadPattern, NotAMap, SharedKey}
use Rattle.guard_ends.specs.declared.ends.Which.{Which}
use Rattle.guard_ends.specs.declared.ends.Which.TheVariants as file
use Rattle.guard_ends.specs.declared.format.Format.{Format}
use Rattle.guard_ends.specs.declared.format.Format.TheVariants.{Json}

-- how a call ends, and what out and err take
pub record Ended : Type 0 where
  pub how : End
  pub out : List ℕ
  pub err : List ℕ

-- what a call comes to: its end, the load of a file by its name, or the making of a pattern by its text
pub data Point : Type 0 where
  Ends : Ended → Point
  Loads : Which → List ℕ → Point
  Makes : List ℕ → Point

-- work is told by what a call comes to in it
abbrev pub Work : Type 1
Work = Point → Type 0

-- what is told of the files before the call: by the name of each its content, if that is told
abbrev pub Contents : Type 0
Contents = List ℕ → Option (List ℕ)

-- if parameters are asked for by a name, their content is told
abbrev pub AreTold : Contents → Option (List ℕ) → (bytes : List ℕ) → Type 0
AreTold told params bytes = (name : List ℕ) → params ≡ Some name → told name ≡ Some bytes

-- bytes that a file can have by what is told of it
abbrev pub IsContent : Option (List ℕ) → List ℕ → Type 0
IsContent told bytes = ForSome told (λ content. bytes ≡ content)

-- ---- Ends.

-- words that ask for nothing
abbrev pub usage : Ended
usage = record { how = end_is.Usage; out = []; err = usage_line }

-- a file with these bytes that is refused: the refusal has its line on err
abbrev pub refused : List ℕ → Refusal → Ended
refused bytes refusal = record { how = end_is.Refused refusal; out = []; err = refusal_line bytes refusal }

-- data that was judged by rules: Failed if a reported verdict is FAIL, else Passed
abbrev pub how_judged : World → End
how_judged world = if list_any is_fail (verdicts_of world) then end_is.Failed else end_is.Passed

-- by the texts of all: out takes the report, as it is made
abbrev pub judged : Reporting → World → Texts → Ended
judged made world texts = record { how = how_judged world; out = made world texts; err = [] }

-- and with evidence: out takes that, and err the report
abbrev pub judged_by : (evidence : List ℕ) → Reporting → World → Texts → Ended
judged_by evidence made world texts = record { how = how_judged world; out = evidence; err = made world texts }

-- rules and a data tree that were read, with the texts of all
pub record Inputs : Type 0 where
  pub rules : File
  pub tree : Forest
  pub texts : Texts

-- they were judged, by answers that functions give, which are what their table says
abbrev pub IsJudged : Reporting → Inputs → Ended → Type 0
IsJudged made inputs e = (answers : Answers) × IsAnswering (world_over inputs.rules inputs.tree answers)
    × (e ≡ judged made (world_over inputs.rules inputs.tree answers) inputs.texts)

-- bytes are evidence of version 2 for rules and a data tree: it is accepted, no line repeats another, and each but those of rules is
-- named by a later one
abbrev pub IsEvidenceFor : File → Forest → List ℕ → Type 0
IsEvidenceFor rules tree bytes = (lines : List Line) × IsEvidence bytes Two lines × Accepts Two tree rules lines × IsLean lines

-- inputs were judged, and there is evidence of it
abbrev pub IsJudgedBy : Reporting → Inputs → Ended → Type 0
IsJudgedBy made inputs e = (answers : Answers) × IsAnswering (world_over inputs.rules inputs.tree answers)
    × ((evidence : List ℕ) × IsEvidenceFor inputs.rules inputs.tree evidence
    × (e ≡ judged_by evidence made (world_over inputs.rules inputs.tree answers) inputs.texts))

-- evidence that was judged, for rules and a data tree: it is accepted, and out takes the verdicts that it says, or it is rejected
-- at a line
abbrev pub IsChecked : File → Forest → Versioned → Ended → Type 0
IsChecked rules tree evidence e =
    ((verdicts : List Verdict) × Accepts evidence.version tree rules evidence.lines × AreOfRules evidence.lines rules.rules rules.loose verdicts
    × (e ≡ record { how = end_is.Accepted; out = accepted_text rules verdicts; err = [] }))
    ⊎ ((number : ℕ) × IsRejectedAt evidence.version tree rules evidence.lines number
    × (e ≡ record { how = end_is.Rejected number; out = rejected_text number; err = [] }))

-- by what differs of each case of a tests file: Failed if something does, else Passed
abbrev pub how_tested : List (List Difference) → End
how_tested found = if list_any is_wrong found then end_is.Failed else end_is.Passed

-- out takes what is said of the cases
abbrev pub tested : List (List Difference) → Ended
tested found = record { how = how_tested found; out = tests_text found; err = [] }

-- the input of each case of a tests file of this tree was judged by rules
abbrev pub IsTested : File → Forest → List TestCase → Ended → Type 0
IsTested rules tree cases e = (found : List (List Difference)) × AreFound rules tree cases found × (e ≡ tested found)

-- out takes a text, and nothing is judged
abbrev pub written : List ℕ → Ended
written text = record { how = end_is.Passed; out = text; err = [] }

-- ---- Stages.

-- the work ends so
abbrev pub Ending : (Ended → Type 0) → Work
Ending Is p = (e : Ended) × Is e × (p ≡ Ends e)

-- a file is loaded: a call comes to that, and the work goes on with bytes that the file can have
abbrev pub Loading : Which → Contents → (name : List ℕ) → (List ℕ → Work) → Work
Loading which told name GoesOn p = (p ≡ Loads which name) ⊎ ((bytes : List ℕ) × IsContent (told name) bytes × GoesOn bytes p)

-- bytes are refused
abbrev pub Refusing : (List ℕ → Refusal → Type 0) → List ℕ → Work
Refusing Refuses bytes p = (refusal : Refusal) × Refuses bytes refusal × (p ≡ Ends (refused bytes refusal))

-- bytes are read: they are refused, or the work goes on with what they are
abbrev pub Reading : {X : Type 0} → (List ℕ → Refusal → Type 0) → (List ℕ → X → Type 0) → List ℕ → (X → Work) → Work
Reading {X} Refuses Is bytes GoesOn p = Refusing Refuses bytes p ⊎ ((x : X) × Is bytes x × GoesOn x p)

-- each pattern of the rules is read
abbrev pub AreRead : File → Type 0
AreRead rules = All (λ (w : Written). IsSome (pattern_in w.text)) (patterns_of rules)

-- the next pattern of rules with these bytes: it is made, or it cannot be read, and is refused at its place
abbrev pub MakingPattern : (source text : List ℕ) → (at : ℕ) → Work
MakingPattern source text at p = (p ≡ Makes text) ⊎ (IsNone (pattern_in text) × (p ≡ Ends (refused source (At file.Rules BadPattern at None))))

-- the patterns of rules are made, one after another, and the work goes on where each is read
abbrev pub MakingPatterns : (source : List ℕ) → File → Work → Work
MakingPatterns source rules GoesOn p =
    ((text : List ℕ) × (at : ℕ) × IsNextPattern rules text at × MakingPattern source text at p) ⊎ (AreRead rules × GoesOn p)

-- rules are loaded and read, and then what is read beside them is loaded: a template, or tests
abbrev pub LoadingTexts : (beside : Which) → Contents → (rules name : List ℕ) → ((source : List ℕ) → File → (bytes : List ℕ) → Work) → Work
LoadingTexts beside told rules name GoesOn =
    Loading file.Rules told rules (λ source. Reading RefusesRules IsRuleFile source (λ read. Loading beside told name (GoesOn source read)))

-- what is done with a template that was read, of these bytes and this tree: the work goes on with the data tree, and with the
-- parameters where there are some
abbrev pub Joining : Type 1
Joining = (template : List ℕ) → Forest → (Option Parameters → Forest → Work) → Work

-- it is the data tree
abbrev pub Alone : Joining
Alone template tree GoesOn = GoesOn None tree

-- the root of a tree is no map, which is refused at its place
abbrev pub NotMap : Which → (bytes : List ℕ) → Forest → Work
NotMap which bytes tree p = (is_map_tree tree ≡ false) × (p ≡ Ends (refused bytes (At which NotAMap (first_label tree).at None)))

-- an entry of the parameters has a key of the template, and is refused at its value
abbrev pub Sharing : (tree : Forest) → (bytes : List ℕ) → (params : Forest) → Work
Sharing tree bytes params p = (at : ℕ) × (first_shared (first_kids tree) (first_kids params) ≡ Some at)
    × (p ≡ Ends (refused bytes (At file.Params SharedKey at None)))

-- both are maps, and no key stands in both
pub record AreApart (tree params : Forest) : Type 0 where
  pub first : is_map_tree tree ≡ true
  pub second : is_map_tree params ≡ true
  pub distinct : first_shared (first_kids tree) (first_kids params) ≡ None

-- a template of this tree becomes this data tree: by itself, or as one map with parameters of these bytes, which are read in the
-- format of their name
abbrev pub IsDataOf : (tree : Forest) → (params : Option (List ℕ)) → (bytes : List ℕ) → (data_tree : Forest) → Option Parameters → Type 0
IsDataOf tree None bytes data_tree read = (data_tree ≡ tree) × (read ≡ None)
IsDataOf tree (Some name) bytes data_tree read = (params : Forest) × IsTemplate (format_of name) bytes params × AreApart tree params
    × (data_tree ≡ merged tree params) × (read ≡ Some (record { text = bytes; first = size tree }))

-- a template becomes one map with parameters of these bytes and this tree, or one of them is refused: the template is no map; or it
-- is one, and the parameters are none; or both are, and share a key
abbrev pub Merging : (params_bytes : List ℕ) → (params : Forest) → Joining
Merging params_bytes params template tree GoesOn p =
    NotMap file.Template template tree p
    ⊎ ((is_map_tree tree ≡ true) × NotMap file.Params params_bytes params p)
    ⊎ ((is_map_tree tree ≡ true) × (is_map_tree params ≡ true) × Sharing tree params_bytes params p)
    ⊎ (AreApart tree params × GoesOn (Some (record { text = params_bytes; first = size tree })) (merged tree params) p)

-- parameters of this name, if one is given, are loaded and read, and merged into the template
abbrev pub WithParams : Contents → Option (List ℕ) → Joining
WithParams told None = Alone
WithParams told (Some name) = λ template tree GoesOn. Loading file.Params told name (λ bytes.
    Reading (RefusesData file.Params (format_of name)) (IsTemplate (format_of name)) bytes (λ params. Merging bytes params template tree GoesOn))

-- with rules that are read: a template is read in a format, it becomes the data tree, and then the patterns are made
abbrev pub ReadingInputs : Format → (source : List ℕ) → File → Joining → (template : List ℕ) → (Inputs → Work) → Work
ReadingInputs f source rules Joined template GoesOn =
    Reading (RefusesData file.Template f) (IsTemplate f) template (λ tree. Joined template tree (λ params data_tree. MakingPatterns source rules
    (GoesOn (record { rules = rules; tree = data_tree; texts = record { rules = source; template = template; params = params } }))))

-- ---- The work of each command.

-- the rules, the template and the parameters of these names become inputs, with which the work goes on
abbrev pub OverFiles : Contents → (rules template : List ℕ) → (params : Option (List ℕ)) → (Inputs → Work) → Work
OverFiles told rules template params GoesOn =
    LoadingTexts file.Template told rules template (λ source read bytes. ReadingInputs (format_of template) source read (WithParams told params) bytes GoesOn)

-- `check`: evidence of this name is loaded, read and judged
abbrev pub OfEvidence : Contents → (proof : List ℕ) → Inputs → Work
OfEvidence told proof inputs =
    Loading file.Proof told proof (λ bytes. Reading RefusesProof IsProof bytes (λ evidence. Ending (IsChecked inputs.rules inputs.tree evidence)))

-- `drill`: the rules and the template of a drill of so many resources become inputs, which are judged; it loads no file, and it
-- makes no pattern, so it comes to nothing but an end
abbrev pub OfDrill : (count : ℕ) → Work
OfDrill count = Ending (λ e. Reading RefusesRules IsRuleFile drill_rules
    (λ rules. ReadingInputs Json drill_rules rules Alone (template_text count) (λ inputs. Ending (IsJudged (drill_report count) inputs))) (Ends e))

-- with rules that are read: tests are read in a format, as cases, the patterns are made, and each case is judged
abbrev pub ReadingTests : Format → (source : List ℕ) → File → (tests : List ℕ) → Work
ReadingTests f source rules tests = Reading (RefusesData file.Tests f) (IsTemplate f) tests (λ tree.
    Reading (λ bytes. RefusesCases rules tree) (λ bytes. AreCases rules tree) tests (λ cases. MakingPatterns source rules (Ending (IsTested rules tree cases))))

-- `test`: the rules and the tests of these names
abbrev pub OfTests : Contents → (rules tests : List ℕ) → Work
OfTests told rules tests = LoadingTexts file.Tests told rules tests (ReadingTests (format_of tests))

-- with a template that is read in a format: the rules that are generated of its tree are written
abbrev pub Generating : Format → (template : List ℕ) → Work
Generating f template = Reading (RefusesData file.Template f) (IsTemplate f) template (λ tree.
    Reading (λ bytes. RefusesGenerated tree) (λ bytes. AreGenerated tree) template (λ text. Ending (λ e. e ≡ written text)))

-- `rulegen`: the template of this name is loaded
abbrev pub OfTemplate : Contents → (template : List ℕ) → Work
OfTemplate told template = Loading file.Template told template (Generating (format_of template))

-- rules are read, whatever their names, and their syntax is written in its canonical text
abbrev pub Printing : (source : List ℕ) → Work
Printing source = Reading RefusesUnnamed HasSyntax source (λ syntax_tree. Ending (λ e. e ≡ written (rule_text syntax_tree)))

-- `parse-tree`: the rules of this name are loaded
abbrev pub OfSyntax : Contents → (rules : List ℕ) → Work
OfSyntax told rules = Loading file.Rules told rules Printing

-- the work of what is asked for, a line for each command, and one for `validate` with `--evidence`
abbrev pub WorkOf : Asked → Contents → Work
WorkOf (validate rules template params false) told = OverFiles told rules template params (λ inputs. Ending (IsJudged report inputs))
WorkOf (validate rules template params true) told = OverFiles told rules template params (λ inputs. Ending (IsJudgedBy report inputs))
WorkOf (check rules template params proof) told = OverFiles told rules template params (OfEvidence told proof)
WorkOf (drill count) told = OfDrill count
WorkOf (test rules tests) told = OfTests told rules tests
WorkOf (rulegen template) told = OfTemplate told template
WorkOf (parse_tree rules) told = OfSyntax told rules

-- what a call with these words over these files comes to: that of the work which they ask for, or, if they ask for none, Usage
abbrev pub ComesTo : List (List ℕ) → Contents → Work
ComesTo words told p =
    ((asked : Asked) × AsksFor words asked × WorkOf asked told p)
    ⊎ (((asked : Asked) → ¬ AsksFor words asked) × (p ≡ Ends usage))

-- how it can end
abbrev pub EndOf : List (List ℕ) → Contents → Ended → Type 0
EndOf words told e = ComesTo words told (Ends e)
