-- The lines that are written on err.
use Rattle.std.specs.Prelude.{ℕ, ◌++◌, List, [], Option, Some, None, codes, decimal}
use Rattle.doc_values.specs.Position.{line_at, column_at}
use Rattle.guard_ends.specs.declared.ends.Refusal.{Refusal}
use Rattle.guard_ends.specs.declared.ends.Refusal.TheVariants.{TooLong, NotText, EvidenceSyntax, TextTooLong, At}
use Rattle.guard_ends.specs.declared.ends.RefusalKind.{RefusalKind}
use Rattle.guard_ends.specs.declared.ends.RefusalKind.TheVariants.{Unclosed, BadByte, NumberRange, NestTooDeep, Syntax, BadRange, DuplicateRule, DuplicateName, UnknownRule, UnknownVariable, UnknownFunction, NeedsArguments, TakesNone, ArgCount, LiteralWanted, RecursiveRule, RecursiveVariable, TooDeep, DuplicateKey, Tab, Anchor, Tag, Directive, ManyDocuments, BadPattern, NotAMap, SharedKey, TestShape, NoSuchRule}
use Rattle.guard_ends.specs.declared.ends.Which.{Which}
use Rattle.guard_ends.specs.declared.ends.Which.TheVariants as file

abbrev pub usage_line : List ℕ
usage_line = codes "usage: guard validate --rules FILE --data FILE [--params FILE] [--evidence] | check --rules FILE --data FILE [--params FILE] --proof FILE | drill --count N | test --rules FILE --tests FILE | rulegen --data FILE | parse-tree --rules FILE\n"

abbrev pub read_fault_line : Which → List ℕ
read_fault_line file.Rules = codes "guard: cannot read rules\n"
read_fault_line file.Template = codes "guard: cannot read data\n"
read_fault_line file.Params = codes "guard: cannot read params\n"
read_fault_line file.Proof = codes "guard: cannot read proof\n"
read_fault_line file.Tests = codes "guard: cannot read tests\n"

abbrev pub pattern_line : List ℕ
pattern_line = codes "guard: pattern refused\n"

abbrev pub write_fault_line : List ℕ
write_fault_line = codes "guard: cannot write out\n"

abbrev pub memory_line : List ℕ
memory_line = codes "guard: memory\n"

-- the word for a file
abbrev pub file_word : Which → List ℕ
file_word file.Rules = codes "rules"
file_word file.Template = codes "data"
file_word file.Params = codes "params"
file_word file.Proof = codes "proof"
file_word file.Tests = codes "tests"

-- the name of a kind
abbrev pub kind_word : RefusalKind → List ℕ
kind_word Unclosed = codes "Unclosed"
kind_word BadByte = codes "BadByte"
kind_word NumberRange = codes "NumberRange"
kind_word NestTooDeep = codes "NestTooDeep"
kind_word Syntax = codes "Syntax"
kind_word BadRange = codes "BadRange"
kind_word DuplicateRule = codes "DuplicateRule"
kind_word DuplicateName = codes "DuplicateName"
kind_word UnknownRule = codes "UnknownRule"
kind_word UnknownVariable = codes "UnknownVariable"
kind_word UnknownFunction = codes "UnknownFunction"
kind_word NeedsArguments = codes "NeedsArguments"
kind_word TakesNone = codes "TakesNone"
kind_word ArgCount = codes "ArgCount"
kind_word LiteralWanted = codes "LiteralWanted"
kind_word RecursiveRule = codes "RecursiveRule"
kind_word RecursiveVariable = codes "RecursiveVariable"
kind_word TooDeep = codes "TooDeep"
kind_word DuplicateKey = codes "DuplicateKey"
kind_word Tab = codes "Tab"
kind_word Anchor = codes "Anchor"
kind_word Tag = codes "Tag"
kind_word Directive = codes "Directive"
kind_word ManyDocuments = codes "ManyDocuments"
kind_word BadPattern = codes "BadPattern"
kind_word NotAMap = codes "NotAMap"
kind_word SharedKey = codes "SharedKey"
kind_word TestShape = codes "TestShape"
kind_word NoSuchRule = codes "NoSuchRule"

-- the name that a refusal is about, behind its kind
abbrev pub name_part : Option (List ℕ) → List ℕ
name_part None = []
name_part (Some name) = codes " " ++ name

-- `guard: <file>: <refusal>`
abbrev pub whole_line : Which → List ℕ → List ℕ
whole_line which word = codes "guard: " ++ file_word which ++ codes ": " ++ word ++ codes "\n"

-- `guard: <file> <line>:<column>: <refusal>`, by the byte offset in the file's bytes; lines and columns are counted from 1
abbrev pub placed_line : Which → List ℕ → ℕ → List ℕ → List ℕ
placed_line which bytes at word = codes "guard: " ++ file_word which ++ codes " " ++ decimal (line_at bytes at) ++ codes ":"
    ++ decimal (column_at bytes at) ++ codes ": " ++ word ++ codes "\n"

-- `guard: proof line <number>: EvidenceSyntax`
abbrev pub evidence_line : ℕ → List ℕ
evidence_line number = codes "guard: proof line " ++ decimal number ++ codes ": EvidenceSyntax\n"

-- the line of a refusal of a file with these bytes
abbrev pub refusal_line : List ℕ → Refusal → List ℕ
refusal_line bytes (TooLong which) = whole_line which (codes "TooLong")
refusal_line bytes (NotText which) = whole_line which (codes "NotText")
refusal_line bytes (EvidenceSyntax number) = evidence_line number
refusal_line bytes TextTooLong = whole_line file.Template (codes "TextTooLong")
refusal_line bytes (At which kind at name) = placed_line which bytes at (kind_word kind ++ name_part name)
