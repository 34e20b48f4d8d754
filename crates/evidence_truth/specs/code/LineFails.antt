-- What lines of evidence fail by, from the lines and a store alone: a line leads to the lines among its cites that say FAIL, and the line of a test, of a reference or
-- of a negated call to entries of its own. No rule is evaluated.
use Rattle.std.specs.Prelude.{ℕ, zero, suc, Bool, true, false, ◌&&◌, List, [], ◌∷◌, ◌++◌, map, slice_get, Option, Some, None, option_and_then, unwrap_or, if◌then◌else◌}
use Rattle.std.specs.List.{flat_map}
use Rattle.std.specs.Option.{option_map_or}
use Rattle.evidence_lines.specs.Lines.{line_of}
use Rattle.evidence_lines.specs.declared.line.Line.{Line}
use Rattle.evidence_lines.specs.declared.line.Outcome.{Outcome}
use Rattle.evidence_lines.specs.declared.line.Outcome.TheVariants as says
use Rattle.guard_syntax.specs.Syntax.{OptConds, Part, no_conds, with_conds, block, guarded, kinds, test, refer, call}
use Rattle.guard_syntax.specs.declared.row.Row.{Row}
use Rattle.guard_syntax.specs.declared.row.Row.TheVariants.{Found, Missing, Unmade}
use Rattle.rule_names.specs.Pieces.{Piece, OfPart, piece_at}
use Rattle.evidence_rules.specs.CitedLines.{value_of}
use Rattle.evidence_rules.specs.code.Judgement.{line_sites, location_said}
use Rattle.rule_meaning.specs.Fails.{Entry, IsCall, IsRule, entry, missing_row, set_fails, tested_row}
use Rattle.rule_meaning.specs.Keys.{passes}
use Rattle.rule_meaning.specs.Locations.{Location, LocatedRow}
use Rattle.rule_meaning.specs.Roots.{root_ref}
use Rattle.rule_meaning.specs.Seeing.{see_row}
use Rattle.rule_meaning.specs.SetTests.{is_empty_test, is_set}
use Rattle.rule_meaning.specs.StoreModel.{StoreModel}
use Rattle.rule_meaning.specs.Verdicts.{is_fail}

-- ---- what a line says

abbrev pub says_fail : Outcome → Bool
says_fail (says.Verdict verdict) = is_fail verdict
says_fail _ = false

abbrev pub rows_in : Outcome → List Row
rows_in (says.Rows rows) = rows
rows_in _ = []

-- the cites of a type block behind that of its conditions, if it has some
abbrev pub behind_conds : OptConds → List ℕ → List ℕ
behind_conds no_conds cites = cites
behind_conds (with_conds conditions) [] = []
behind_conds (with_conds conditions) (c ∷ cites) = cites

module _ (known : StoreModel) (lines : List Line) where
  abbrev pub is_failing : ℕ → Bool
  is_failing number = option_map_or (λ (l : Line). says_fail l.outcome) (line_of lines number) false

  abbrev pub rows_of_line : ℕ → List Row
  rows_of_line number = option_map_or (λ (l : Line). rows_in l.outcome) (line_of lines number) []

  -- the rows of the cite of an index, counted from 0; none where there is none
  abbrev pub rows_cited : List ℕ → ℕ → List Row
  rows_cited cites i = option_map_or rows_of_line (slice_get cites i) []

  abbrev pub see : Row → LocatedRow
  see row = see_row known (line_sites lines) row

  -- the value of a frame; no line that follows lacks one
  abbrev pub current_in : Option ℕ → Location
  current_in frame = location_said known lines (unwrap_or (option_and_then (value_of lines) frame) root_ref)

  -- ---- entries of a line's own

  -- a row of a test, unless it passes
  abbrev pub failed_row : (part : ℕ) → (Row → Bool) → Row → List Entry
  failed_row part holds row = if holds row then [] else tested_row part (see row)

  -- a test on its left and right rows: of sets on the rows together, any other on each
  abbrev pub test_entries : (part : ℕ) → (set negated : Bool) → (rights : List Row → Row → Bool) → Option ℕ → List ℕ → List Entry
  test_entries part true negated holds frame cites = set_fails part negated (current_in frame) (map see (rows_cited cites 0))
  test_entries part false negated holds frame cites = flat_map (failed_row part (holds (rows_cited cites 1))) (rows_cited cites 0)

  -- ---- what cites lead to, by what the lines before fail by

  module _ (fails : ℕ → List Entry) where
    abbrev pub if_failing : ℕ → List Entry
    if_failing number = if is_failing number then fails number else []

    -- rows and cites in step: a row at which nothing was found is an entry itself, one that was found takes a cite
    abbrev pub rows_entries : (part : ℕ) → List Row → (cites : List ℕ) → List Entry
    rows_entries part [] cites = []
    rows_entries part (Found v ∷ rows) [] = rows_entries part rows []
    rows_entries part (Found v ∷ rows) (c ∷ cites) = if_failing c ++ rows_entries part rows cites
    rows_entries part (Missing v step ∷ rows) cites = missing_row part (see (Missing v step)) ++ rows_entries part rows cites
    rows_entries part (Unmade site ∷ rows) cites = missing_row part (see (Unmade site)) ++ rows_entries part rows cites

    -- a block: the first line cited gives its rows
    abbrev pub block_entries : (part : ℕ) → (cites : List ℕ) → List Entry
    block_entries part [] = []
    block_entries part (c ∷ cites) = rows_entries part (rows_of_line c) cites

    abbrev pub call_entries : (part : ℕ) → (negated : Bool) → Option ℕ → (cites : List ℕ) → List Entry
    call_entries part true frame cites = entry part IsCall (current_in frame) ∷ []
    call_entries part false frame cites = flat_map if_failing cites

    -- a part, by its form
    abbrev pub part_entries : Part → Option ℕ → (cites : List ℕ) → List Entry
    part_entries (block n any head inner) frame cites = block_entries n cites
    part_entries (guarded n conditions inner) frame cites = flat_map if_failing cites
    part_entries (kinds n name conditions inner) frame cites = block_entries n (behind_conds conditions cites)
    part_entries (test n any left op negated right message) frame cites = test_entries n (is_empty_test op && is_set left) negated (passes known op negated) frame cites
    part_entries (refer n negated name message) frame cites = entry n IsRule (current_in frame) ∷ []
    part_entries (call n negated name args message) frame cites = call_entries n negated frame cites

    -- any other line leads to the failing lines among its cites, in order
    abbrev pub piece_entries : Option Piece → Option ℕ → (cites : List ℕ) → List Entry
    piece_entries (Some (OfPart part)) frame cites = part_entries part frame cites
    piece_entries _ frame cites = flat_map if_failing cites

    abbrev pub line_entries : Option Line → List Entry
    line_entries None = []
    line_entries (Some line) = piece_entries (option_and_then (piece_at known.file) line.site) line.frame line.cites

  -- what the line of a number fails by, going by cites so many times at most: each leads to an earlier line, so the number itself is enough
  abbrev pub line_fails : (most : ℕ) → ℕ → List Entry
  line_fails zero number = []
  line_fails (suc most) number = line_entries (line_fails most) (line_of lines number)
