-- What lines fail by is told alike by a store that holds all trees which they name, by induction on how often cites are followed.
use Rattle.std.proofs.Common.{◌≡◌, ℕ, zero, suc, Bool, true, false, true≢false, ◌&&◌, refl, sym, ap, ap₂, ◌∙◌, List, [], ◌∷◌, ◌++◌, map, slice_get, unwrap_or, Option, Some, None, is_some, option_and_then, if◌then◌else◌}
use Rattle.std.specs.List.{flat_map, list_all}
use Rattle.std.specs.Option.{option_map_or}
use Rattle.std.proofs.lemmas.Bool.{and_parts}
use Rattle.doc_values.specs.Tree.{Forest, Nil}
use Rattle.evidence_lines.specs.Lines.{line_of}
use Rattle.evidence_lines.specs.declared.line.Line.{Line}
use Rattle.evidence_lines.specs.declared.line.Outcome.{Outcome}
use Rattle.evidence_lines.specs.declared.line.Outcome.TheVariants as says
use Rattle.guard_syntax.specs.Syntax.{File, Part, block, guarded, kinds, test, refer, call}
use Rattle.guard_syntax.specs.declared.row.Origin.{Origin}
use Rattle.guard_syntax.specs.declared.row.Origin.TheVariants as origin
use Rattle.guard_syntax.specs.declared.row.Ref.{Ref}
use Rattle.guard_syntax.specs.declared.row.Row.{Row}
use Rattle.guard_syntax.specs.declared.row.Row.TheVariants.{Found, Missing, Unmade}
use Rattle.guard_syntax.specs.declared.syntax.Op.{Op}
use Rattle.rule_names.specs.Pieces.{Piece, OfPart, piece_at}
use Rattle.rule_meaning.specs.Fails.{Entry, IsCall, IsRule, entry, missing_row, set_fails, tested_row}
use Rattle.rule_meaning.specs.Keys.{passes}
use Rattle.rule_meaning.specs.Locations.{Location, LocatedOrigin, LocatedRow}
use Rattle.rule_meaning.specs.Locations as spots
use Rattle.rule_meaning.specs.Roots.{root_ref}
use Rattle.rule_meaning.specs.RowTests.{row_test_of}
use Rattle.rule_meaning.specs.Seeing.{call_at, see_location, see_origin, see_row}
use Rattle.rule_meaning.specs.SetTests.{is_empty_test, is_set}
use Rattle.rule_meaning.specs.StoreModel.{StoreModel, literal_at, made_at, meant, tree_of, value_in}
use Rattle.rule_meaning.specs.Values.{Value}
use Rattle.evidence_rules.specs.CitedLines.{value_of, value_said}
use Rattle.evidence_rules.specs.code.Judgement.{line_sites}
use Rattle.evidence_truth.specs.code.HeldTrees.{HoldsTrees}
use Rattle.evidence_truth.specs.code.LineFails.{behind_conds, block_entries, current_in, failed_row, if_failing, is_failing, line_entries, line_fails, part_entries, piece_entries, rows_cited, rows_entries, rows_in, rows_of_line, test_entries}
use Rattle.evidence_truth.proofs.HeldLines.{AreHeld, is_held_outcome}
use Rattle.evidence_truth.proofs.HeldRows.{is_held, is_held_origin, is_held_ref}

located : LocatedOrigin → ℕ → Bool → Location
located o node key = record { origin = o; node = node; key = key }

module _ (held known : StoreModel) (holds : HoldsTrees held known) where
  -- ---- values

  made-same : (line row : ℕ) → is_some (made_at known.made line row) ≡ true → made_at held.made line row ≡ made_at known.made line row
  made-same line row is = by (made_at known.made line row) refl is
    where
      by : (o : Option Forest) → made_at known.made line row ≡ o → is_some o ≡ true → made_at held.made line row ≡ made_at known.made line row
      by None there is = absurd (true≢false (sym is))
      by (Some tree) there is = holds.trees line row tree there ∙ sym there

  tree-same : (o : Origin) → is_held_origin known o ≡ true → tree_of held o ≡ tree_of known o
  tree-same origin.Template is = ap Some holds.template
  tree-same (origin.Literal site) is = ap (λ (f : File). literal_at f site) holds.file
  tree-same (origin.Made line row) is = made-same line row is

  origin-same : (calls : List ℕ) (o : Origin) → is_held_origin known o ≡ true → see_origin held calls o ≡ see_origin known calls o
  origin-same calls origin.Template is = refl
  origin-same calls (origin.Literal site) is = refl
  origin-same calls (origin.Made line row) is = ap (λ (t : Option Forest). spots.Made (call_at calls line) (unwrap_or t Nil)) (made-same line row is)

  pub location-same : (calls : List ℕ) (v : Ref) → is_held_ref known v ≡ true → see_location held calls v ≡ see_location known calls v
  unfolding located
  location-same calls v is = ap (λ (o : LocatedOrigin). located o v.node v.key) (origin-same calls v.origin is)

  row-same : (calls : List ℕ) (r : Row) → is_held known r ≡ true → see_row held calls r ≡ see_row known calls r
  row-same calls (Found v) is = ap spots.Found (location-same calls v is)
  row-same calls (Missing v step) is = ap (λ (w : Location). spots.Missing w step) (location-same calls v is)
  row-same calls (Unmade site) is = refl

  rows-same : (calls : List ℕ) (rows : List Row) → list_all (is_held known) rows ≡ true → map (see_row held calls) rows ≡ map (see_row known calls) rows
  rows-same calls [] all = refl
  rows-same calls (r ∷ rows) all =
      let both = and_parts (is_held known r) (list_all (is_held known) rows) all in
      ap₂ (λ (x : LocatedRow) (xs : List LocatedRow). x ∷ xs) (row-same calls r both.0) (rows-same calls rows both.1)

  meant-same : (r : Row) → is_held known r ≡ true → meant held r ≡ meant known r
  meant-same (Found v) is = ap (option_and_then (value_in v.node v.key)) (tree-same v.origin is)
  meant-same (Missing v step) is = refl
  meant-same (Unmade site) is = refl

  all-meant : (rows : List Row) → list_all (is_held known) rows ≡ true → map (meant held) rows ≡ map (meant known) rows
  all-meant [] all = refl
  all-meant (r ∷ rows) all =
      let both = and_parts (is_held known r) (list_all (is_held known) rows) all in
      ap₂ (λ (x : Option Value) (xs : List (Option Value)). x ∷ xs) (meant-same r both.0) (all-meant rows both.1)

  passes-same : (op : Op) (negated : Bool) (rights : List Row) (left : Row) → list_all (is_held known) rights ≡ true → is_held known left ≡ true
      → passes held op negated rights left ≡ passes known op negated rights left
  passes-same op negated rights left all is = ap₂ (λ (l : Option Value) (rs : List (Option Value)). row_test_of op negated l rs) (meant-same left is) (all-meant rights all)

  -- ---- lines

  module _ (lines : List Line) (are : AreHeld known lines) where
    rows-held : (number : ℕ) → list_all (is_held known) (rows_of_line known lines number) ≡ true
    rows-held number = by (line_of lines number) refl
      where
        said : (o : Outcome) → is_held_outcome known o ≡ true → list_all (is_held known) (rows_in o) ≡ true
        said (says.Rows rows) is = is
        said (says.Value v) is = refl
        said (says.Verdict verdict) is = refl

        by : (o : Option Line) → line_of lines number ≡ o → list_all (is_held known) (option_map_or (λ (l : Line). rows_in l.outcome) o []) ≡ true
        by None there = refl
        by (Some l) there = said l.outcome (are number l there)

    cited-held : (cites : List ℕ) (i : ℕ) → list_all (is_held known) (rows_cited known lines cites i) ≡ true
    cited-held cites i = by (slice_get cites i)
      where
        by : (o : Option ℕ) → list_all (is_held known) (option_map_or (rows_of_line known lines) o []) ≡ true
        by None = refl
        by (Some c) = rows-held c

    current-held : (frame : Option ℕ) → is_held_ref known (unwrap_or (option_and_then (value_of lines) frame) root_ref) ≡ true
    current-held None = refl
    current-held (Some frame) = by (line_of lines frame) refl
      where
        said : (o : Outcome) → is_held_outcome known o ≡ true → is_held_ref known (unwrap_or (value_said o) root_ref) ≡ true
        said (says.Value v) is = is
        said (says.Rows rows) is = refl
        said (says.Verdict verdict) is = refl

        by : (o : Option Line) → line_of lines frame ≡ o → is_held_ref known (unwrap_or (option_and_then (λ (l : Line). value_said l.outcome) o) root_ref) ≡ true
        by None there = refl
        by (Some l) there = said l.outcome (are frame l there)

    current-same : (frame : Option ℕ) → current_in held lines frame ≡ current_in known lines frame
    current-same frame = location-same (line_sites lines) (unwrap_or (option_and_then (value_of lines) frame) root_ref) (current-held frame)

    failed-same : (part : ℕ) (op : Op) (negated : Bool) (rights lefts : List Row) → list_all (is_held known) rights ≡ true → list_all (is_held known) lefts ≡ true
        → flat_map (failed_row held lines part (passes held op negated rights)) lefts ≡ flat_map (failed_row known lines part (passes known op negated rights)) lefts
    failed-same part op negated rights [] all these = refl
    failed-same part op negated rights (x ∷ lefts) all these =
        let both = and_parts (is_held known x) (list_all (is_held known) lefts) these in
        ap₂ (λ (es fs : List Entry). es ++ fs)
        (ap₂ (λ (b : Bool) (w : LocatedRow). if b then [] else tested_row part w) (passes-same op negated rights x all both.0) (row-same (line_sites lines) x both.0))
        (failed-same part op negated rights lefts all both.1)

    test-same : (part : ℕ) (set negated : Bool) (op : Op) (frame : Option ℕ) (cites : List ℕ)
        → test_entries held lines part set negated (passes held op negated) frame cites ≡ test_entries known lines part set negated (passes known op negated) frame cites
    test-same part true negated op frame cites =
        ap₂ (λ (w : Location) (rows : List LocatedRow). set_fails part negated w rows) (current-same frame) (rows-same (line_sites lines) (rows_cited known lines cites 0) (cited-held cites 0))
    test-same part false negated op frame cites = failed-same part op negated (rows_cited known lines cites 1) (rows_cited known lines cites 0) (cited-held cites 1) (cited-held cites 0)

    module _ (f g : ℕ → List Entry) (same : (n : ℕ) → f n ≡ g n) where
      cite-same : (c : ℕ) → if_failing held lines f c ≡ if_failing known lines g c
      cite-same c = ap (λ (es : List Entry). if is_failing known lines c then es else []) (same c)

      cites-same : (cites : List ℕ) → flat_map (if_failing held lines f) cites ≡ flat_map (if_failing known lines g) cites
      cites-same [] = refl
      cites-same (c ∷ cites) = ap₂ (λ (es fs : List Entry). es ++ fs) (cite-same c) (cites-same cites)

      rows-step : (part : ℕ) (rows : List Row) (cites : List ℕ) → list_all (is_held known) rows ≡ true → rows_entries held lines f part rows cites ≡ rows_entries known lines g part rows cites
      rows-step part [] cites all = refl
      rows-step part (Found v ∷ rows) [] all = rows-step part rows [] (and_parts (is_held known (Found v)) (list_all (is_held known) rows) all).1
      rows-step part (Found v ∷ rows) (c ∷ cites) all =
          ap₂ (λ (es fs : List Entry). es ++ fs) (cite-same c) (rows-step part rows cites (and_parts (is_held known (Found v)) (list_all (is_held known) rows) all).1)
      rows-step part (Missing v step ∷ rows) cites all =
          let both = and_parts (is_held known (Missing v step)) (list_all (is_held known) rows) all in
          ap₂ (λ (w : LocatedRow) (fs : List Entry). missing_row part w ++ fs) (row-same (line_sites lines) (Missing v step) both.0) (rows-step part rows cites both.1)
      rows-step part (Unmade site ∷ rows) cites all =
          ap (λ (fs : List Entry). missing_row part (spots.Unmade site) ++ fs) (rows-step part rows cites (and_parts (is_held known (Unmade site)) (list_all (is_held known) rows) all).1)

      block-same : (part : ℕ) (cites : List ℕ) → block_entries held lines f part cites ≡ block_entries known lines g part cites
      block-same part [] = refl
      block-same part (c ∷ cites) = rows-step part (rows_of_line known lines c) cites (rows-held c)

      part-same : (p : Part) (frame : Option ℕ) (cites : List ℕ) → part_entries held lines f p frame cites ≡ part_entries known lines g p frame cites
      part-same (block n any head inner) frame cites = block-same n cites
      part-same (guarded n conditions inner) frame cites = cites-same cites
      part-same (kinds n name conditions inner) frame cites = block-same n (behind_conds conditions cites)
      part-same (test n any left op negated right message) frame cites = test-same n (is_empty_test op && is_set left) negated op frame cites
      part-same (refer n negated name message) frame cites = ap (λ (w : Location). entry n IsRule w ∷ []) (current-same frame)
      part-same (call n true name args message) frame cites = ap (λ (w : Location). entry n IsCall w ∷ []) (current-same frame)
      part-same (call n false name args message) frame cites = cites-same cites

      piece-same : (p : Option Piece) (frame : Option ℕ) (cites : List ℕ) → piece_entries held lines f p frame cites ≡ piece_entries known lines g p frame cites
      piece-same (Some (OfPart part)) frame cites = part-same part frame cites
      piece-same p frame cites = cites-same cites

      line-same : (o : Option Line) → line_entries held lines f o ≡ line_entries known lines g o
      line-same None = refl
      line-same (Some line) =
          ap (λ (file : File). piece_entries held lines f (option_and_then (piece_at file) line.site) line.frame line.cites) holds.file
          ∙ piece-same (option_and_then (piece_at known.file) line.site) line.frame line.cites

    pub fails-same : (most number : ℕ) → line_fails held lines most number ≡ line_fails known lines most number
    fails-same zero number = refl
    fails-same (suc most) number = line-same (line_fails held lines most) (line_fails known lines most) (λ n. fails-same most n) (line_of lines number)
