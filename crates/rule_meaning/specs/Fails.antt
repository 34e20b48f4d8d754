-- What a part that is FAIL fails by: entries in order, each of which shows a value or a call under a word, and names the part. Only the failing parts of failing
-- disjunctions have some. What the body of a called rule fails by is an argument, as what names mean is: each call leads to the same recursion again, by unfoldings.
use Rattle.std.specs.Prelude.{ℕ, zero, suc, Bool, true, false, ◌&&◌, List, [], ◌∷◌, ◌++◌, Option, Some, None, if◌then◌else◌}
use Rattle.std.specs.List.{flat_map}
use Rattle.guard_syntax.specs.Syntax.{Rule, Body, Disjs, Disj, Parts, Part, Exprs, body, no_disjs, more_disjs, disj, no_parts, more_parts, block, guarded, kinds, test, refer, call}
use Rattle.rule_names.specs.Depths.{depth_limit}
use Rattle.rule_names.specs.Resolution.{target_of}
use Rattle.rule_names.specs.Pieces.{Piece, OfRule, piece_at}
use Rattle.rule_meaning.specs.SetTests.{is_empty_test, is_set}
use Rattle.rule_meaning.specs.Environments.{Environment, Top, Inner, Called, current_of}
use Rattle.rule_meaning.specs.Meaning.{Names, rows_of, rows_of_side, body_verdict, disj_verdict, part_verdict}
use Rattle.rule_meaning.specs.StepMeaning.{passes, rows_of_type}
use Rattle.rule_meaning.specs.NameMeaning.{unfolded}
use Rattle.rule_meaning.specs.Locations.{Location, LocatedRow, Found, Missing, Unmade, World, root_location}
use Rattle.rule_meaning.specs.Verdicts.{is_fail}

-- what an entry shows: a value, or a call that did not apply
pub data Shown : Type 0 where
  OfValue : Location → Shown
  OfCall : ℕ → Shown

-- the word under which it is shown
pub data Word : Type 0 where
  IsValue : Word
  IsMissing : Word
  IsRows : Word
  IsRule : Word
  IsCall : Word

pub record Entry : Type 0 where
  pub shown : Shown
  pub word : Word
  -- the site of the part
  pub part : ℕ

abbrev pub entry : ℕ → Word → Location → Entry
entry part word v = record { shown = OfValue v; word = word; part = part }

-- a missing row: the value that was reached last, or the call that did not apply; a row that was found is none
abbrev pub missing_row : ℕ → LocatedRow → List Entry
missing_row part (Found v) = []
missing_row part (Missing v step) = entry part IsMissing v ∷ []
missing_row part (Unmade site) = record { shown = OfCall site; word = IsMissing; part = part } ∷ []

-- a row that a test failed: `value` if it was found, else `missing`
abbrev pub tested_row : ℕ → LocatedRow → List Entry
tested_row part (Found v) = entry part IsValue v ∷ []
tested_row part (Missing v step) = missing_row part (Missing v step)
tested_row part (Unmade site) = missing_row part (Unmade site)

-- each row that fails
abbrev pub test_fails : ℕ → (LocatedRow → Bool) → List LocatedRow → List Entry
test_fails part holds [] = []
test_fails part holds (row ∷ rows) = (if holds row then [] else tested_row part row) ++ test_fails part holds rows

-- the first of entries, and another where there is none
abbrev pub first_or : Entry → List Entry → List Entry
first_or other [] = other ∷ []
first_or other (e ∷ es) = e ∷ []

abbrev pub found_row : ℕ → LocatedRow → List Entry
found_row part (Found v) = entry part IsRows v ∷ []
found_row part (Missing v step) = []
found_row part (Unmade site) = []

-- a set test: `empty` fails by each row that was found; `!empty` by the first missing row, and by the current value where none is missing
abbrev pub set_fails : ℕ → (negated : Bool) → Location → List LocatedRow → List Entry
set_fails part true current rows = first_or (entry part IsRows current) (flat_map (missing_row part) rows)
set_fails part false current rows = flat_map (found_row part) rows

-- a row of a block: a missing one itself, a found one by its body
abbrev pub block_row_fails : ℕ → (Location → List Entry) → LocatedRow → List Entry
block_row_fails part inner (Found v) = inner v
block_row_fails part inner (Missing v step) = missing_row part (Missing v step)
block_row_fails part inner (Unmade site) = missing_row part (Unmade site)

-- what the body of the rule fails by that a site calls in an environment, with arguments
abbrev pub Calls : Type 0
Calls = Environment → ℕ → Exprs → List Entry

abbrev mutual
  -- the failing disjunctions of a body, in order
  pub body_fails : World → Names → Calls → Environment → Body → List Entry
  body_fails world names calls env (body site lets ds) = disjs_fails world names calls env ds

  pub disjs_fails : World → Names → Calls → Environment → Disjs → List Entry
  disjs_fails world names calls env no_disjs = []
  disjs_fails world names calls env (more_disjs d ds) =
      (if is_fail (disj_verdict world names env d) then disj_fails world names calls env d else []) ++ disjs_fails world names calls env ds

  -- the failing parts of a failing disjunction, in order
  pub disj_fails : World → Names → Calls → Environment → Disj → List Entry
  disj_fails world names calls env (disj site ps) = parts_fails world names calls env ps

  pub parts_fails : World → Names → Calls → Environment → Parts → List Entry
  parts_fails world names calls env no_parts = []
  parts_fails world names calls env (more_parts p ps) =
      (if is_fail (part_verdict world names env p) then part_fails world names calls env p else []) ++ parts_fails world names calls env ps

  -- a failing part
  pub part_fails : World → Names → Calls → Environment → Part → List Entry
  part_fails world names calls env (block site any head inner) =
      flat_map (block_row_fails site (λ v. if is_fail (body_verdict world names (Inner v env) inner) then body_fails world names calls (Inner v env) inner else []))
      (rows_of world names env head)
  part_fails world names calls env (guarded site conditions inner) = body_fails world names calls (Inner (current_of env) env) inner
  part_fails world names calls env (kinds site name conditions inner) =
      flat_map (block_row_fails site (λ v. if is_fail (body_verdict world names (Inner v env) inner) then body_fails world names calls (Inner v env) inner else []))
      (rows_of_type world name (current_of env))
  part_fails world names calls env (test site any left o negated right message) =
      if is_empty_test o && is_set left
      then set_fails site negated (current_of env) (rows_of world names env left)
      else test_fails site (passes world o negated (rows_of_side world names env right)) (rows_of world names env left)
  part_fails world names calls env (refer site negated name message) = entry site IsRule (current_of env) ∷ []
  part_fails world names calls env (call site negated name args message) =
      if negated then entry site IsCall (current_of env) ∷ [] else calls env site args

-- one unfolding: a called rule fails by its body, with the current value where the call stands
module _ (world : World) (names : Names) (calls : Calls) where
  abbrev pub piece_fails : Environment → Exprs → Option Piece → List Entry
  piece_fails env args (Some (OfRule r)) = body_fails world names calls (Called (current_of env) args env) r.body
  piece_fails env args _ = []

  abbrev pub target_fails : Environment → Exprs → Option ℕ → List Entry
  target_fails env args None = []
  target_fails env args (Some site) = piece_fails env args (piece_at world.file site)

  abbrev pub unfold_fails : Calls
  unfold_fails env site args = target_fails env args (target_of world.file site)

-- what calls fail by, by so many unfoldings
abbrev pub calls_by : World → ℕ → Calls
calls_by world zero = λ env site args. []
calls_by world (suc n) = unfold_fails world (unfolded world n) (calls_by world n)

-- what a rule that is FAIL fails by: its body, at the root
abbrev pub rule_fails : World → Rule → List Entry
rule_fails world r = body_fails world (unfolded world depth_limit) (calls_by world depth_limit) (Inner root_location Top) r.body

-- and the parts outside rules, in the file's scope
abbrev pub loose_fails : World → Disjs → List Entry
loose_fails world loose = disjs_fails world (unfolded world depth_limit) (calls_by world depth_limit) Top loose
