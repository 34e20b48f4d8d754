-- The lines of tests, of references and of the rows of type blocks that may be added: what they are made of is there and known, and each follows.
use Rattle.std.proofs.Common.{◌≡◌, ◌<◌, ℕ, suc, Bool, true, refl, sym, ap, ◌∙◌, subst, arith, slice_get, List, [], ◌∷◌, length, Option, Some, None, is_some, option_and_then, option_map, Result, Ok, Err}
use Rattle.std.specs.Prelude.{IfOk, OnOk}
use Rattle.std.specs.List.{list_all}
use Rattle.std.specs.declared.alloc.AllocError.{AllocError}
use Rattle.std.proofs.lemmas.Option.{same_Some}
use Rattle.evidence_lines.specs.declared.line.LineKind.{LineKind}
use Rattle.evidence_lines.specs.declared.line.LineKind.TheVariants as kind
use Rattle.evidence_lines.specs.declared.line.Outcome.TheVariants as says
use Rattle.guard_syntax.specs.Syntax.{Body, OptConds, Part, refer, test}
use Rattle.guard_syntax.specs.declared.row.Ref.{Ref}
use Rattle.guard_syntax.specs.declared.row.Row.{Row}
use Rattle.guard_syntax.specs.declared.row.Verdict.{Verdict}
use Rattle.rule_names.specs.EnclosingScopes.{home_of}
use Rattle.rule_names.specs.Pieces.{AreInOrder, OfPart, Piece, piece_at}
use Rattle.rule_names.specs.ReferenceGraph.{part_site}
use Rattle.rule_names.specs.Resolution.{target_of}
use Rattle.rule_names.specs.WellNamed.{WellNamed}
use Rattle.rule_meaning.specs.Places.{IsTypeAt, rows_at_type, type_of}
use Rattle.rule_meaning.specs.StoreModel.{is_known, is_known_ref}
use Rattle.rule_meaning.specs.Verdicts.{referred}
use Rattle.evidence_rules.specs.CitedLines.{IsLine}
use Rattle.scope_frames.specs.declared.frame.Frame.{Frame}
use Rattle.engine_states.specs.code.Adding.{Added, Adds}
use Rattle.engine_states.specs.code.Answers.{Answers, AnswersVerdict, HasRows, HasSides, IsKinds, IsReference, IsSomeTest, IsTestVerdict, SaysRows, above, both_cites}
use Rattle.engine_states.specs.code.Evaluated.{Evaluates}
use Rattle.engine_states.specs.code.Falling.{above_step, height_at}
use Rattle.engine_states.specs.code.Kinds.{kind_beside, own_kind}
use Rattle.engine_states.specs.code.States.{IsWhole, State}
use Rattle.engine_states.proofs.AddedLines.{not-own}
use Rattle.engine_states.proofs.AddsLines.{adds-reference, adds-test, adds-types}
use Rattle.engine_states.proofs.Callees.{rule-there}
use Rattle.engine_states.proofs.Elements.{none-among}
use Rattle.engine_states.proofs.Evaluating.{Evaluates-beside, Evaluates-found, Evaluates-none}
use Rattle.engine_states.proofs.Finished.{added-frame, added-line, leaf-answer, line-there}
use Rattle.engine_states.proofs.KnownLines.{query-known, right-known}
use Rattle.engine_states.proofs.RowsRead.{cite_of, query-read, side-read}
use Rattle.engine_states.proofs.Shaped.{beside-rows, rule-verdict}
use Rattle.engine_states.proofs.StepsAdded.{current-is, current-there, frame-within}

-- ---- tests

module _ (s : State) (whole : IsWhole s) (frame : ℕ) (part : Part) (left : ℕ) (right : Option ℕ) (sides : HasSides s frame part left right) where
  -- the rows of its sides
  abbrev pub left-rows : (rows : List Row) × SaysRows s.lines left rows
  left-rows = (sides.3.0, query-read s.known.file s.lines sides.3.1.0 sides.0 left sides.3.0 sides.3.1.2)

  pub left-known : list_all (is_known s.known) left-rows.0 ≡ true
  left-known = query-known s whole sides.3.1.0 sides.0 left sides.3.0 sides.3.1.2

  abbrev pub right-rows : (rows : List Row) × HasRows s.lines right rows
  right-rows = (sides.4.0, (side-read s frame sides.1 right sides.4.0 sides.4.1).0)

  pub right-there : list_all (is_known s.known) right-rows.0 ≡ true
  right-there = right-known s whole sides.3.1.0 sides.1 (cite_of right) sides.4.0 ((side-read s frame sides.1 right sides.4.0 sides.4.1).1 sides.3.1.0 sides.3.1.1)

  pub test-kind : own_kind (piece_at s.known.file (part_site part)) ≡ Some kind.Test
  test-kind = ap own_kind sides.2.6.there ∙ ap (λ (p : Part). own_kind (Some (OfPart p))) sides.2.5

  pub test-here : IsSomeTest part
  test-here = subst IsSomeTest (sym sides.2.5) tt

  cites-of : (c : ℕ) (last : Option ℕ) → both_cites (Some c) last ≡ c ∷ cite_of last
  cites-of c None = refl
  cites-of c (Some d) = refl

  pub test-adds : (cites : List ℕ) → cites ≡ both_cites (Some left) right → (verdict : Verdict) → IsTestVerdict s.known part left-rows.0 right-rows.0 verdict
      → Adds s frame (part_site part) kind.Test cites (says.Verdict verdict)
  test-adds cites are verdict is =
      let judged : IsTestVerdict s.known (test sides.2.0 sides.2.1 sides.0 sides.2.2 sides.2.3 sides.1 sides.2.4) left-rows.0 right-rows.0 verdict =
      subst (λ (p : Part). IsTestVerdict s.known p left-rows.0 right-rows.0 verdict) sides.2.5 is in
      subst (λ (cs : List ℕ). Adds s frame (part_site part) kind.Test cs (says.Verdict verdict)) (sym (are ∙ cites-of left right))
      (adds-test s whole frame sides.3.1.0 (part_site part) sides.3.1.1 sides.2.6.scope_is sides.2.0 sides.2.1 sides.0 sides.2.2 sides.2.3 sides.1 sides.2.4
      (sides.2.6.there ∙ ap (λ (p : Part). Some (OfPart p)) sides.2.5) left (cite_of right) sides.3.0 sides.4.0 sides.3.1.2
      ((side-read s frame sides.1 right sides.4.0 sides.4.1).1 sides.3.1.0 sides.3.1.1) verdict judged)

-- ---- references

module _ (s : State) (whole : IsWhole s) (well : WellNamed s.known.file) (ordered : AreInOrder s.known.file) (frame site : ℕ) (negated : Bool) (stands : IsReference s frame site negated) where
  pub reference-kind : own_kind (piece_at s.known.file site) ≡ Some kind.Refer
  reference-kind = ap own_kind stands.2.there

  -- the line of its rule is there
  pub target-there : (target : ℕ) × (target_of s.known.file site ≡ Some target)
  target-there = let it = rule-there s whole well ordered frame site negated stands.0 stands.1 stands.2 in (it.0, it.4)

  pub rule-line : (target : ℕ) → target_of s.known.file site ≡ Some target → (c : ℕ) × (s.rules target ≡ Some c)
  rule-line target names =
      let it = rule-there s whole well ordered frame site negated stands.0 stands.1 stands.2 in
      (it.1, ap s.rules (same_Some target it.0 (sym names ∙ it.4)) ∙ it.5)

  pub rule-said : (target c : ℕ) → s.rules target ≡ Some c → (at : ℕ) × (said : Verdict) × IsLine s.lines c kind.Rule at target (says.Verdict said)
  rule-said target c is = rule-verdict s whole target c is

  pub reference-adds : (target c : ℕ) → target_of s.known.file site ≡ Some target → s.rules target ≡ Some c → (said : Verdict)
      → ((of : LineKind) (at n : ℕ) (verdict : Verdict) → IsLine s.lines c of at n (says.Verdict verdict) → said ≡ verdict)
      → (cites : List ℕ) → cites ≡ c ∷ [] → (verdict : Verdict) → verdict ≡ referred negated said → Adds s frame site kind.Refer cites (says.Verdict verdict)
  reference-adds target c names is said tells cites are verdict judged =
      let line = line-there s whole frame (home_of s.known.file site) stands.2.scope_is in
      let it = rule-said target c is in
      subst (λ (cs : List ℕ). Adds s frame site kind.Refer cs (says.Verdict verdict)) (sym are)
      (adds-reference s whole frame line.0 site line.1 stands.2.scope_is site negated stands.0 stands.1 stands.2.there target c it.0 it.1 names it.2 verdict
      (judged ∙ ap (referred negated) (tells kind.Rule it.0 target it.1 it.2)))

  pub reference-answers : (c : State) (cites : List ℕ) (verdict said : Verdict) (number : ℕ) → Added s c frame site kind.Refer cites (says.Verdict verdict) number → said ≡ verdict
      → AnswersVerdict s c frame kind.Refer site number said
  reference-answers c cites verdict said number added is =
      subst (AnswersVerdict s c frame kind.Refer site number) (sym is)
      (leaf-answer s c whole frame (home_of s.known.file site) (site, OfPart (refer site negated stands.0 stands.1)) stands.2 kind.Refer cites (says.Verdict verdict) number refl added)

-- ---- the rows of a type block

abbrev IsTypeBlock : State → (frame site : ℕ) → Type 0
IsTypeBlock s frame site = (conditions : OptConds) × (b : Body) × IsKinds s frame site conditions b

abbrev AnswersTypes : (a c : State) → (frame site number : ℕ) → Type 0
AnswersTypes a c frame site number = Answers a c (above a frame site) frame number (λ at. (rows : List Row) × IsLine c.lines number kind.Types at site (says.Rows rows))

module _ (s : State) (whole : IsWhole s) (frame site : ℕ) (stands : IsTypeBlock s frame site) where
  pub types-kind : kind_beside (piece_at s.known.file site) ≡ Some kind.Types
  types-kind = ap kind_beside stands.2.1.there

  pub types-stand : IsTypeAt s.known.file site
  types-stand = ap is_some (ap (option_and_then type_of) stands.2.1.there)

  pub types-frame : frame < length s.frames
  types-frame = frame-within s frame (home_of s.known.file site) stands.2.1.scope_is

  pub types-current : (v : Ref) → option_map (λ (f : Frame). f.current) (slice_get s.frames frame) ≡ Some v → is_known_ref s.known v ≡ true
  types-current v given = current-there s frame (home_of s.known.file site) stands.2.1.scope_is whole v given

  pub types-adds : (v : Ref) → option_map (λ (f : Frame). f.current) (slice_get s.frames frame) ≡ Some v → (cites : List ℕ) → cites ≡ [] → (rows : List Row)
      → rows ≡ rows_at_type s.known site v → list_all (is_known s.known) rows ≡ true → Adds s frame site kind.Types cites (says.Rows rows)
  types-adds v given cites none rows is known =
      let line = line-there s whole frame (home_of s.known.file site) stands.2.1.scope_is in
      let here = current-is s frame (home_of s.known.file site) stands.2.1.scope_is v given in
      subst (λ (cs : List ℕ). Adds s frame site kind.Types cs (says.Rows rows)) (sym none)
      (adds-types s whole frame line.0 site line.1 stands.2.1.scope_is here.0 here.1 site stands.2.0 stands.0 stands.1 stands.2.1.there rows
      (is ∙ ap (rows_at_type s.known site) here.2) known)

  -- found, or added
  pub types-found : (number : ℕ) → s.beside frame site ≡ Some number → AnswersTypes s s frame site number
  types-found number found =
      let it = beside-rows s whole frame site number kind.Types refl found types-kind in
      record { evaluates = Evaluates-found s (above s frame site) number whole; at = it.0; framed = it.2; says = (it.1, it.3) }

  pub types-answer : (c : State) (cites : List ℕ) (rows : List Row) (number : ℕ) → Added s c frame site kind.Types cites (says.Rows rows) number → AnswersTypes s c frame site number
  types-answer c cites rows number added = record {
    evaluates =
        subst (λ (h : ℕ). Evaluates s c (suc h) (number ∷ [])) (ap (λ (p : Option Piece). above_step p (height_at s.known.file s.frames frame site)) stands.2.1.there)
        (Evaluates-beside s s c whole 0 frame site number kind.Types cites (says.Rows rows) [] [] (omega arith) types-kind (Evaluates-none s 0 whole) added
        (λ n behind among. absurd (none-among n among)));
    at = added.at;
    framed = added-frame s c frame site number kind.Types cites (says.Rows rows) added;
    says = (rows, added-line s c frame site number kind.Types cites (says.Rows rows) added);
  }

  -- the lines of parts stay
  pub types-parts : (c : State) (r : Result ℕ AllocError) (cites : List ℕ) (rows : List Row)
      → IfOk r (λ number. Added s c frame site kind.Types cites (says.Rows rows) number) → OnOk r ((n m : ℕ) → c.parts n m ≡ s.parts n m)
  types-parts c (Ok number) cites rows added = added.parts (not-own (piece_at s.known.file site) kind.Types refl)
  types-parts c (Err e) cites rows added = tt
