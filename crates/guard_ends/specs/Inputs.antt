-- Which bytes are read as rules, as a template, as parameters, as tests and as evidence, which rules are generated of a tree, and why
-- others are refused: beside each refusal the condition under which it comes. Of the refusals of one file no two conditions hold
-- together.
use Rattle.std.specs.Prelude.{ℕ, ◌<◌, ◌≤◌, ◌≡◌, ◌⊎◌, List, Option, Some, None, IsUtf8, codes, length, nat_eq, string_bytes, if◌then◌else◌}
use Rattle.std.specs.List.{ends_with}
use Rattle.doc_values.specs.Limits.{evidence_limit, rules_limit, template_limit}
use Rattle.doc_values.specs.Tree.{Forest}
use Rattle.evidence_lines.specs.Versioned.{Versioned}
use Rattle.evidence_text.specs.Text.{IsEvidence, IsFault}
use Rattle.json_reader.specs.Json.{Json}
use Rattle.json_reader.specs.Refusals as json
use Rattle.json_reader.specs.declared.refusal.JsonRefusal.{JsonRefusal}
use Rattle.json_reader.specs.declared.refusal.JsonRefusal.TheVariants as json_refusal
use Rattle.yaml_grammar.specs.Answers as yaml
use Rattle.yaml_grammar.specs.declared.refusal.YamlRefusal.{YamlRefusal}
use Rattle.yaml_grammar.specs.declared.refusal.YamlRefusal.TheVariants as yaml_refusal
use Rattle.guard_lexer.specs.Lexes as lex
use Rattle.guard_lexer.specs.declared.token.Token.{Token}
use Rattle.guard_lexer.specs.declared.token.LexRefusal.{LexRefusal}
use Rattle.guard_lexer.specs.declared.token.LexRefusal.TheVariants as lex_refusal
use Rattle.guard_syntax.specs.Syntax.{File}
use Rattle.guard_parser.specs.File as syntax
use Rattle.guard_parser.specs.File.{Rules}
use Rattle.guard_parser.specs.declared.refusal.ParseRefusal.{ParseRefusal}
use Rattle.guard_parser.specs.declared.refusal.ParseRefusal.TheVariants as parse_refusal
use Rattle.rule_names.specs.Faults.{Fault}
use Rattle.rule_names.specs.WellNamed.{WellNamed, IsNameFault}
use Rattle.rule_names.specs.declared.name_kind.NameKind.{NameKind}
use Rattle.rule_names.specs.declared.name_kind.NameKind.TheVariants as naming
use Rattle.rule_generator.specs.GeneratedRules.{generated}
use Rattle.guard_testfile.specs.Cases.{TestCase, cases_of}
use Rattle.guard_testfile.specs.Refusals.{IsTestsFile, RefusesTests}
use Rattle.guard_testfile.specs.declared.refusal.TestRefusal.{TestRefusal}
use Rattle.guard_testfile.specs.declared.refusal.TestRefusal.TheVariants as test_refusal
use Rattle.guard_ends.specs.declared.ends.Refusal.{Refusal}
use Rattle.guard_ends.specs.declared.ends.Refusal.TheVariants.{TooLong, NotText, EvidenceSyntax, TextTooLong, At}
use Rattle.guard_ends.specs.declared.ends.RefusalKind.{RefusalKind}
use Rattle.guard_ends.specs.declared.ends.RefusalKind.TheVariants.{Unclosed, BadByte, NumberRange, NestTooDeep, Syntax, BadRange, DuplicateRule, DuplicateName, UnknownRule, UnknownVariable, UnknownFunction, NeedsArguments, TakesNone, ArgCount, LiteralWanted, RecursiveRule, RecursiveVariable, TooDeep, DuplicateKey, Tab, Anchor, Tag, Directive, ManyDocuments, TestShape, NoSuchRule}
use Rattle.guard_ends.specs.declared.ends.Which.{Which}
use Rattle.guard_ends.specs.declared.ends.Which.TheVariants as file
use Rattle.guard_ends.specs.declared.format.Format.{Format}
use Rattle.guard_ends.specs.declared.format.Format.TheVariants as format

-- a text of at most so many bytes
pub record IsText (limit : ℕ) (bytes : List ℕ) : Type 0 where
  pub within : length bytes ≤ limit
  pub utf8 : IsUtf8 bytes

-- more bytes than that
abbrev pub IsTooLong : ℕ → List ℕ → Type 0
IsTooLong limit bytes = limit < length bytes

-- no more bytes, but no text
abbrev pub IsNoText : ℕ → List ℕ → Type 0
IsNoText limit bytes = (length bytes ≤ limit) × (IsUtf8 bytes → ⊥)

-- Templates, parameters and tests, which are read alike.

-- the format in which one of them is read, by its name: JSON where that ends in `.json`, YAML where it ends otherwise
abbrev pub format_of : List ℕ → Format
format_of name = if ends_with nat_eq name (codes ".json") then format.Json else format.Yaml

-- the tree that a text stands for in a format
abbrev pub IsTreeOf : Format → List ℕ → Forest → Type 0
IsTreeOf format.Json text tree = Json text tree
IsTreeOf format.Yaml text tree = yaml.Reads text tree

-- bytes that are a template, parameters or tests of this tree in a format
pub record IsTemplate (f : Format) (bytes : List ℕ) (tree : Forest) : Type 0 where
  pub text : IsText template_limit bytes
  pub read : IsTreeOf f bytes tree

-- the kind and the place of a refusal of JSON; want of memory has none
abbrev pub json_kind : JsonRefusal → Option (RefusalKind × ℕ)
json_kind (json_refusal.Syntax at) = Some (Syntax, at)
json_kind (json_refusal.DuplicateKey at) = Some (DuplicateKey, at)
json_kind (json_refusal.NumberRange at) = Some (NumberRange, at)
json_kind (json_refusal.TooDeep at) = Some (TooDeep, at)
json_kind json_refusal.NoMemory = None

-- what is the matter with a text as JSON, and at which byte offset
abbrev pub RefusesJson : List ℕ → RefusalKind → ℕ → Type 0
RefusesJson text kind at = (r : JsonRefusal) × (json_kind r ≡ Some (kind, at)) × json.IsRefused text r

-- what a refusal of YAML is for one of these files: its kind at its place; want of memory is none
abbrev pub of_yaml : Which → YamlRefusal → Option Refusal
of_yaml which (yaml_refusal.Syntax at) = Some (At which Syntax at None)
of_yaml which (yaml_refusal.Tab at) = Some (At which Tab at None)
of_yaml which (yaml_refusal.Anchor at) = Some (At which Anchor at None)
of_yaml which (yaml_refusal.Tag at) = Some (At which Tag at None)
of_yaml which (yaml_refusal.Directive at) = Some (At which Directive at None)
of_yaml which (yaml_refusal.ManyDocuments at) = Some (At which ManyDocuments at None)
of_yaml which (yaml_refusal.DuplicateKey at) = Some (At which DuplicateKey at None)
of_yaml which (yaml_refusal.TooDeep at) = Some (At which TooDeep at None)
of_yaml which yaml_refusal.NoMemory = None

-- why a text has no tree in a format
abbrev pub RefusesTree : Which → Format → List ℕ → Refusal → Type 0
RefusesTree which format.Json text refusal = (kind : RefusalKind) × (at : ℕ) × (refusal ≡ At which kind at None) × RefusesJson text kind at
RefusesTree which format.Yaml text refusal = (r : YamlRefusal) × (of_yaml which r ≡ Some refusal) × yaml.Refuses text r

-- why one of these files with these bytes is refused: they are too many, or no text, or a text without a tree
abbrev pub RefusesData : Which → Format → List ℕ → Refusal → Type 0
RefusesData which f bytes refusal =
    ((refusal ≡ TooLong which) × IsTooLong template_limit bytes)
    ⊎ ((refusal ≡ NotText which) × IsNoText template_limit bytes)
    ⊎ (IsText template_limit bytes × RefusesTree which f bytes refusal)

-- Rules.

-- the syntax of a text, which is that of its tokens
abbrev pub IsSyntax : List ℕ → File → Type 0
IsSyntax text syntax_tree = (tokens : List Token) × lex.IsTokenList text tokens × Rules text tokens syntax_tree

-- bytes that have this syntax, whatever its names
pub record HasSyntax (bytes : List ℕ) (syntax_tree : File) : Type 0 where
  pub text : IsText rules_limit bytes
  pub read : IsSyntax bytes syntax_tree

-- bytes that are a rule file of this syntax, whose names are as they must be
pub record IsRuleFile (bytes : List ℕ) (syntax_tree : File) : Type 0 where
  pub text : IsText rules_limit bytes
  pub read : IsSyntax bytes syntax_tree
  pub named : WellNamed syntax_tree

-- the kind and the place of a refusal of tokens, and of syntax; want of memory has none
abbrev pub lex_kind : LexRefusal → Option (RefusalKind × ℕ)
lex_kind (lex_refusal.Unclosed at) = Some (Unclosed, at)
lex_kind (lex_refusal.BadByte at) = Some (BadByte, at)
lex_kind (lex_refusal.NumberRange at) = Some (NumberRange, at)
lex_kind lex_refusal.NoMemory = None

abbrev pub parse_kind : ParseRefusal → Option (RefusalKind × ℕ)
parse_kind (parse_refusal.NestTooDeep at) = Some (NestTooDeep, at)
parse_kind (parse_refusal.Syntax at) = Some (Syntax, at)
parse_kind (parse_refusal.BadRange at) = Some (BadRange, at)
parse_kind parse_refusal.NoMemory = None

-- what is the matter with a text that has no tokens, and at which byte offset
abbrev pub RefusesTokens : List ℕ → RefusalKind → ℕ → Type 0
RefusesTokens text kind at = (r : LexRefusal) × (lex_kind r ≡ Some (kind, at)) × lex.IsRefused text r

-- and with the tokens of a text that have no syntax
abbrev pub RefusesSyntax : List ℕ → List Token → RefusalKind → ℕ → Type 0
RefusesSyntax text tokens kind at = (r : ParseRefusal) × (parse_kind r ≡ Some (kind, at)) × syntax.IsRefused text tokens r

-- either of them
abbrev pub RefusesText : List ℕ → RefusalKind → ℕ → Type 0
RefusesText text kind at =
    RefusesTokens text kind at ⊎ ((tokens : List Token) × lex.IsTokenList text tokens × RefusesSyntax text tokens kind at)

-- what is the matter with names
abbrev pub name_kind : NameKind → RefusalKind
name_kind naming.DuplicateRule = DuplicateRule
name_kind naming.DuplicateName = DuplicateName
name_kind naming.UnknownRule = UnknownRule
name_kind naming.UnknownVariable = UnknownVariable
name_kind naming.UnknownFunction = UnknownFunction
name_kind naming.NeedsArguments = NeedsArguments
name_kind naming.TakesNone = TakesNone
name_kind naming.ArgCount = ArgCount
name_kind naming.LiteralWanted = LiteralWanted
name_kind naming.RecursiveRule = RecursiveRule
name_kind naming.RecursiveVariable = RecursiveVariable
name_kind naming.TooDeep = TooDeep

-- a refusal of names carries the name that it is about; what is too deep is about none
abbrev pub name_said : NameKind → List ℕ → Option (List ℕ)
name_said naming.TooDeep name = None
name_said _ name = Some name

-- and with the names of a text that has a syntax: with which name, at which byte offset
abbrev pub RefusesNames : List ℕ → RefusalKind → ℕ → Option (List ℕ) → Type 0
RefusesNames text kind at name = (syntax_tree : File) × IsSyntax text syntax_tree
    × ((fault : Fault) × IsNameFault syntax_tree fault × (kind ≡ name_kind fault.kind) × (at ≡ fault.named.at)
    × (name ≡ name_said fault.kind fault.named.text))

-- why rules with these bytes are refused
abbrev pub RefusesRules : List ℕ → Refusal → Type 0
RefusesRules bytes (TooLong file.Rules) = IsTooLong rules_limit bytes
RefusesRules bytes (NotText file.Rules) = IsNoText rules_limit bytes
RefusesRules bytes (At file.Rules kind at name) =
    IsText rules_limit bytes × (((name ≡ None) × RefusesText bytes kind at) ⊎ RefusesNames bytes kind at name)
RefusesRules bytes _ = ⊥

-- why rules with these bytes are refused where their names are not asked for
abbrev pub RefusesUnnamed : List ℕ → Refusal → Type 0
RefusesUnnamed bytes (TooLong file.Rules) = IsTooLong rules_limit bytes
RefusesUnnamed bytes (NotText file.Rules) = IsNoText rules_limit bytes
RefusesUnnamed bytes (At file.Rules kind at name) = IsText rules_limit bytes × (name ≡ None) × RefusesText bytes kind at
RefusesUnnamed bytes _ = ⊥

-- Rules that are generated.

-- those of a tree, which are no longer than rules may be
pub record AreGenerated (tree : Forest) (text : List ℕ) : Type 0 where
  pub same : text ≡ generated tree
  pub within : length text ≤ rules_limit

-- they are longer, and so the template is refused
abbrev pub RefusesGenerated : Forest → Refusal → Type 0
RefusesGenerated tree refusal = (refusal ≡ TextTooLong) × IsTooLong rules_limit (generated tree)

-- Tests.

-- the tree of a tests file has these cases, each of which expects verdicts of rules that are reported
abbrev pub AreCases : File → Forest → List TestCase → Type 0
AreCases rules tree cases = IsTestsFile rules tree × (cases ≡ cases_of tree)

-- what a refusal of such a tree is; want of memory is none
abbrev pub of_tests : TestRefusal → Option Refusal
of_tests (test_refusal.TestShape at) = Some (At file.Tests TestShape at None)
of_tests (test_refusal.NoSuchRule name at) = Some (At file.Tests NoSuchRule at (Some (string_bytes name)))
of_tests test_refusal.NoMemory = None

-- why a tree is no tests file for rules
abbrev pub RefusesCases : File → Forest → Refusal → Type 0
RefusesCases rules tree refusal = (r : TestRefusal) × (of_tests r ≡ Some refusal) × RefusesTests rules tree r

-- Evidence.

-- bytes that are evidence of a version and its lines
pub record IsProof (bytes : List ℕ) (evidence : Versioned) : Type 0 where
  pub within : length bytes ≤ evidence_limit
  pub read : IsEvidence bytes evidence.version evidence.lines

-- why evidence with these bytes is refused: they are too many, or a line is not in the format
abbrev pub RefusesProof : List ℕ → Refusal → Type 0
RefusesProof bytes (TooLong file.Proof) = IsTooLong evidence_limit bytes
RefusesProof bytes (EvidenceSyntax number) = (length bytes ≤ evidence_limit) × IsFault bytes number
RefusesProof bytes _ = ⊥
