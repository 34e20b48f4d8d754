-- What a line that says FAIL leads to: entries of its own, and the earlier lines among its cites that say FAIL; in the order of its entries.
use Rattle.std.specs.Prelude.{ℕ, ◌≡◌, ◌<◌, Bool, true, false, ◌&&◌, List, [], ◌∷◌, ◌++◌, All, map, Option, Some, None, option_and_then, unwrap_or, if◌then◌else◌}
use Rattle.std.specs.List.{flat_map}
use Rattle.evidence_lines.specs.Lines.{line_of}
use Rattle.evidence_lines.specs.declared.line.Line.{Line}
use Rattle.guard_syntax.specs.Syntax.{Part, block, guarded, kinds, test, refer, call}
use Rattle.guard_syntax.specs.declared.row.Ref.{Ref}
use Rattle.guard_syntax.specs.declared.row.Row.{Row}
use Rattle.guard_syntax.specs.declared.row.Row.TheVariants.{Found, Missing, Unmade}
use Rattle.guard_syntax.specs.declared.row.Verdict.{Verdict}
use Rattle.guard_syntax.specs.declared.row.Verdict.TheVariants.{Pass, Fail, Skip}
use Rattle.rule_names.specs.Pieces.{Piece, OfPart, piece_at}
use Rattle.rule_meaning.specs.Fails.{Entry, IsCall, IsRule, entry, missing_row}
use Rattle.rule_meaning.specs.Keys.{passes}
use Rattle.rule_meaning.specs.Roots.{root_ref}
use Rattle.rule_meaning.specs.SetTests.{is_empty_test, is_set}
use Rattle.rule_meaning.specs.StoreModel.{StoreModel}
use Rattle.doc_values.specs.Tree.{IsTree}
use Rattle.report_text.specs.code.SeenEntries.{IsShowable, see_entry}
use Rattle.evidence_lookups.specs.code.Said.{AreSound}
use Rattle.evidence_rules.specs.CitedLines.{value_of}
use Rattle.evidence_truth.specs.code.LineFails.{behind_conds, current_in, is_failing, rows_of_line, see, test_entries}
use Rattle.evidence_leads.specs.declared.lead.Lead.{Lead}
use Rattle.evidence_leads.specs.declared.lead.Lead.TheVariants as lead

-- a verdict that is FAIL
abbrev pub is_some_fail : Option Verdict → Bool
is_some_fail (Some Fail) = true
is_some_fail (Some Pass) = false
is_some_fail (Some Skip) = false
is_some_fail None = false

pub data Leading : Type 0 where
  ToEntry : Entry → Leading
  ToLine : (number : ℕ) → Leading

abbrev pub own : List Entry → List Leading
own es = map ToEntry es

-- the entries behind each, by what lines fail by
abbrev pub entries_behind : (ℕ → List Entry) → Leading → List Entry
entries_behind fails (ToEntry e) = e ∷ []
entries_behind fails (ToLine number) = fails number

module _ (known : StoreModel) (lines : List Line) where
  abbrev pub cite_leads : ℕ → List Leading
  cite_leads c = if is_failing known lines c then ToLine c ∷ [] else []

  -- a row of a block, and the cites behind it
  abbrev pub row_leads : (part : ℕ) → Row → (cites : List ℕ) → List Leading
  row_leads part (Found v) [] = []
  row_leads part (Found v) (c ∷ cites) = cite_leads c
  row_leads part (Missing v step) cites = own (missing_row part (see known lines (Missing v step)))
  row_leads part (Unmade site) cites = own (missing_row part (see known lines (Unmade site)))

  abbrev pub cites_behind : Row → (cites : List ℕ) → List ℕ
  cites_behind (Found v) [] = []
  cites_behind (Found v) (c ∷ cites) = cites
  cites_behind (Missing v step) cites = cites
  cites_behind (Unmade site) cites = cites

  abbrev pub rows_leads : (part : ℕ) → List Row → (cites : List ℕ) → List Leading
  rows_leads part [] cites = []
  rows_leads part (row ∷ rows) cites = row_leads part row cites ++ rows_leads part rows (cites_behind row cites)

  abbrev pub block_leads : (part : ℕ) → (cites : List ℕ) → List Leading
  block_leads part [] = []
  block_leads part (c ∷ cites) = rows_leads part (rows_of_line known lines c) cites

  abbrev pub call_leads : (part : ℕ) → (negated : Bool) → Option ℕ → (cites : List ℕ) → List Leading
  call_leads part true frame cites = ToEntry (entry part IsCall (current_in known lines frame)) ∷ []
  call_leads part false frame cites = flat_map cite_leads cites

  abbrev pub part_leads : Part → Option ℕ → (cites : List ℕ) → List Leading
  part_leads (block n any head inner) frame cites = block_leads n cites
  part_leads (guarded n conditions inner) frame cites = flat_map cite_leads cites
  part_leads (kinds n name conditions inner) frame cites = block_leads n (behind_conds conditions cites)
  part_leads (test n any left op negated right message) frame cites =
      own (test_entries known lines n (is_empty_test op && is_set left) negated (passes known op negated) frame cites)
  part_leads (refer n negated name message) frame cites = ToEntry (entry n IsRule (current_in known lines frame)) ∷ []
  part_leads (call n negated name args message) frame cites = call_leads n negated frame cites

  abbrev pub piece_leads : Option Piece → Option ℕ → (cites : List ℕ) → List Leading
  piece_leads (Some (OfPart part)) frame cites = part_leads part frame cites
  piece_leads _ frame cites = flat_map cite_leads cites

  abbrev pub line_leads : Option Line → List Leading
  line_leads None = []
  line_leads (Some line) = piece_leads (option_and_then (piece_at known.file) line.site) line.frame line.cites

  -- the value of a frame; no line that follows lacks one
  abbrev pub current_ref : Option ℕ → Ref
  current_ref frame = unwrap_or (option_and_then (value_of lines) frame) root_ref

-- ---- leads to earlier lines

-- an entry, or an earlier line that says FAIL
abbrev pub IsBelow : StoreModel → List Line → ℕ → Leading → Type 0
IsBelow known lines n (ToEntry e) = Unit {0}
IsBelow known lines n (ToLine c) = (c < n) × (is_failing known lines c ≡ true)

abbrev pub AreBelow : StoreModel → List Line → ℕ → List Leading → Type 0
AreBelow known lines n [] = Unit {0}
AreBelow known lines n (x ∷ xs) = IsBelow known lines n x × AreBelow known lines n xs

-- ---- leads as the code has them

abbrev pub see_lead : StoreModel → Lead → Leading
see_lead known (lead.Entry e) = ToEntry (see_entry known e)
see_lead known (lead.Line number) = ToLine number

-- what is shown can be shown
abbrev pub IsShown : StoreModel → Lead → Type 0
IsShown known (lead.Entry e) = IsShowable known e.shown
IsShown known (lead.Line number) = Unit {0}

-- these are appended to others, each of which can be shown
abbrev pub Appends : StoreModel → (before after : List Lead) → List Leading → Type 0
Appends known before after more =
    All (IsShown known) before → (map (see_lead known) after ≡ map (see_lead known) before ++ more) × All (IsShown known) after

-- ---- lines that are known

-- what lines say is known, and so is the root, of a template that is a tree
pub record AreGrounded (known : StoreModel) (lines : List Line) : Type 0 where
  pub sound : AreSound known lines
  pub tree : IsTree known.template

-- ---- lines that lead to earlier ones

-- each line cites lines before it
abbrev pub CitesFall : List Line → Type 0
CitesFall lines = (number : ℕ) (l : Line) → line_of lines number ≡ Some l → All (λ (c : ℕ). c < number) l.cites
