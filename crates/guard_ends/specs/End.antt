-- How a call ends: the status of each end, when a fault or want of memory may come in place of the end that the order of work
-- gives, and what out and err took; ends with evidence and without, and ends that differ in a place.
use Rattle.std.specs.Prelude.{ℕ, ◌≡◌, ◌≢◌, ◌++◌, ◌⊎◌, List, [], Option, Some, None, Bool, true, false}
use Rattle.std.specs.Option.{ForSome}
use Rattle.guard_io.specs.Outside.{IsPrefix, FaultCounted}
use Rattle.yaml_grammar.specs.Places.{IsSyntax}
use Rattle.guard_ends.specs.Inputs.{format_of}
use Rattle.guard_ends.specs.Lines.{read_fault_line, pattern_line, write_fault_line, memory_line}
use Rattle.guard_ends.specs.Order.{ComesTo, Contents, EndOf, Ended, Loads, Makes, refused}
use Rattle.guard_ends.specs.declared.ends.End.{End}
use Rattle.guard_ends.specs.declared.ends.End.TheVariants as end_is
use Rattle.guard_ends.specs.declared.ends.Refusal.TheVariants.{At}
use Rattle.guard_ends.specs.declared.ends.RefusalKind.TheVariants.{Syntax}
use Rattle.guard_ends.specs.declared.ends.Which.{Which}
use Rattle.guard_ends.specs.declared.ends.Which.TheVariants as file
use Rattle.guard_ends.specs.declared.format.Format.TheVariants.{Yaml}

-- the exit status of each end
abbrev pub status_of : End → ℕ
status_of end_is.Passed = 0
status_of end_is.Failed = 19
status_of end_is.Accepted = 0
status_of (end_is.Rejected number) = 19
status_of end_is.Usage = 2
status_of (end_is.Refused refusal) = 5
status_of (end_is.ReadFault which) = 6
status_of (end_is.WriteFault pipe) = 6
status_of end_is.PatternRefused = 6
status_of end_is.Memory = 7

-- ends at which out takes a text
abbrev pub is_reported : End → Bool
is_reported end_is.Passed = true
is_reported end_is.Failed = true
is_reported end_is.Accepted = true
is_reported (end_is.Rejected number) = true
is_reported _ = false

-- ends that are no fault and no want of memory
abbrev pub is_defined : End → Bool
is_defined end_is.Usage = true
is_defined (end_is.Refused refusal) = true
is_defined how = is_reported how

-- Faults and want of memory, which may come in place of the end by the order of work.

-- the counts of faults of what is read: of each file by its name, and of each pattern by its text
pub record Counts : Type 0 where
  pub files : List ℕ → ℕ
  pub patterns : List ℕ → ℕ

-- these, and the count of out
pub record Faults : Type 0 where
  pub read : Counts
  pub out : ℕ

-- a file whose load the call comes to, and whose count rose
abbrev pub Unread : List (List ℕ) → Contents → (before after : List ℕ → ℕ) → Which → Type 0
Unread words told before after which = (name : List ℕ) × ComesTo words told (Loads which name) × FaultCounted (before name) (after name)

-- a pattern whose making the call comes to, and whose count rose
abbrev pub Unmade : List (List ℕ) → Contents → (before after : List ℕ → ℕ) → Type 0
Unmade words told before after = (text : List ℕ) × ComesTo words told (Makes text) × FaultCounted (before text) (after text)

-- the count of out rose
abbrev pub Unwritten : (before after : Faults) → Type 0
Unwritten before after = FaultCounted before.out after.out

-- a text is what out takes of such a call: the report, evidence, rules, or what is written of evidence or of tests
abbrev pub IsTaken : List (List ℕ) → Contents → List ℕ → Type 0
IsTaken words told text = (e : Ended) × EndOf words told e × (is_reported e.how ≡ true) × (text ≡ e.out)

-- a line that may be written on err when out has taken a text: what err takes at an end, if it takes something, when out has taken
-- all that it takes there; that of a file whose count rose, and that of a pattern whose count rose, when out has taken nothing; and
-- that of out, whose count rose, when it has taken a front of what it takes
abbrev pub MaySay : List (List ℕ) → Contents → (before after : Faults) → (out line : List ℕ) → Type 0
MaySay words told before after out line =
    ((e : Ended) × EndOf words told e × (line ≢ []) × (line ≡ e.err) × (out ≡ e.out))
    ⊎ ((which : Which) × Unread words told before.read.files after.read.files which × (line ≡ read_fault_line which) × (out ≡ []))
    ⊎ (Unmade words told before.read.patterns after.read.patterns × (line ≡ pattern_line) × (out ≡ []))
    ⊎ ((text : List ℕ) × IsTaken words told text × IsPrefix out text × Unwritten before after × (line ≡ write_fault_line))

-- what out and err may have taken when memory is wanting: nothing yet, a front of what out takes, or a front of what err takes
abbrev pub MayWant : List (List ℕ) → Contents → (before after : Faults) → (out err : List ℕ) → Type 0
MayWant words told before after out err =
    ((out ≡ []) × (err ≡ []))
    ⊎ ((text : List ℕ) × IsTaken words told text × IsPrefix out text × (err ≡ []))
    ⊎ ((line : List ℕ) × MaySay words told before after out line × IsPrefix err line)

-- What out and err took, by what each told before and what it tells after.

-- a sink that told its bytes tells these behind them
abbrev pub Took : Option (List ℕ) → Option (List ℕ) → List ℕ → Type 0
Took before after bytes = ForSome before (λ held. after ≡ Some (held ++ bytes))

-- at an end that is defined: just what it says
abbrev pub TookAsDefined : List (List ℕ) → Contents → End → (out out' err err' : Option (List ℕ)) → Type 0
TookAsDefined words told how out out' err err' =
    (e : Ended) × EndOf words told e × (e.how ≡ how) × Took out out' e.out × Took err err' e.err

-- where a file was not read: nothing, and its line
abbrev pub TookOfUnread : Which → (out out' err err' : Option (List ℕ)) → Type 0
TookOfUnread which out out' err err' = Took out out' [] × Took err err' (read_fault_line which)

-- where a pattern was not made: nothing, and the line of that
abbrev pub TookOfUnmade : (out out' err err' : Option (List ℕ)) → Type 0
TookOfUnmade out out' err err' = Took out out' [] × Took err err' pattern_line

-- where out was not written: a front of what it takes, and the line of that
abbrev pub TookOfUnwritten : List (List ℕ) → Contents → (out out' err err' : Option (List ℕ)) → Type 0
TookOfUnwritten words told out out' err err' =
    (text front : List ℕ) × IsTaken words told text × IsPrefix front text × Took out out' front × Took err err' write_fault_line

-- where err was not written: what stood on out then, and a front of the line, or of the line of memory behind what had been begun
abbrev pub TookOfUnsaid : List (List ℕ) → Contents → (before after : Faults) → (out out' err err' : Option (List ℕ)) → Type 0
TookOfUnsaid words told before after out out' err err' =
    (taken front line last : List ℕ)
    × ((MaySay words told before after taken line × (front ≡ []))
    ⊎ (MayWant words told before after taken front × (line ≡ memory_line)))
    × IsPrefix last line × Took out out' taken × Took err err' (front ++ last)

-- Where memory is wanting: what stood on out and on err then, and the line of memory, or a front of it. A front may be
-- none of it: a sink that answers want of memory may have taken nothing, and its clauses cannot tell.
abbrev pub TookOfMemory : List (List ℕ) → Contents → (before after : Faults) → (out out' err err' : Option (List ℕ)) → Type 0
TookOfMemory words told before after out out' err err' =
    (taken front last : List ℕ) × MayWant words told before after taken front
    × IsPrefix last memory_line × Took out out' taken × Took err err' (front ++ last)

-- Ends with evidence and without.

-- an end with evidence beside one without: out and err take what they take there, or it is the report that err takes in place of out
abbrev pub IsBeside : (plain e : Ended) → Type 0
IsBeside plain e =
    ((is_reported e.how ≡ false) × (e ≡ plain))
    ⊎ ((is_reported e.how ≡ true) × (plain ≡ record { how = e.how; out = e.err; err = [] }))

-- two ends with evidence: they are equal, or they are alike in how they end and in the report, and each has evidence of its own
abbrev pub AreSameButEvidence : Ended → Ended → Type 0
AreSameButEvidence e other = (e ≡ other) ⊎ ((is_reported e.how ≡ true) × (e.how ≡ other.how) × (e.err ≡ other.err))

-- Ends that differ in a place alone.

-- which files with which bytes are read as YAML
abbrev pub ReadAsYaml : Type 1
ReadAsYaml = Which → List ℕ → Type 0

-- two ends that refuse a file which is read as YAML and is no document, at places that both show it
pub record AreMisread (IsYaml : ReadAsYaml) (e other : Ended) : Type 0 where
  pub which : Which
  pub bytes : List ℕ
  pub read : IsYaml which bytes
  pub at : ℕ
  pub place : ℕ
  pub shown : IsSyntax bytes at
  pub shown_too : IsSyntax bytes place
  pub first : e ≡ refused bytes (At which Syntax at None)
  pub second : other ≡ refused bytes (At which Syntax place None)

-- two ends are equal, or differ in such a place alone
abbrev pub AreSameButPlace : ReadAsYaml → Ended → Ended → Type 0
AreSameButPlace IsYaml e other = (e ≡ other) ⊎ AreMisread IsYaml e other

-- the file of a name is read as YAML, and has these bytes
abbrev pub IsYamlFile : Contents → (name : List ℕ) → (bytes : List ℕ) → Type 0
IsYamlFile told name bytes = (format_of name ≡ Yaml) × (told name ≡ Some bytes)

-- so one file of a call, and so a template or the parameters beside it
abbrev pub IsYamlOf : Which → Contents → (name : List ℕ) → ReadAsYaml
IsYamlOf which told name w bytes = (w ≡ which) × IsYamlFile told name bytes

abbrev pub IsYamlAmong : Contents → (template : List ℕ) → (params : Option (List ℕ)) → ReadAsYaml
IsYamlAmong told template params w bytes =
    IsYamlOf file.Template told template w bytes ⊎ ((name : List ℕ) × (params ≡ Some name) × IsYamlOf file.Params told name w bytes)
