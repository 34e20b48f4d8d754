-- What a line that follows says and makes known, by its kind.
use Rattle.std.proofs.Common.{◌≡◌, ◌⊎◌, ℕ, ◌<◌, ◌≤◌, nat_lt, arith, refl, sym, ap, ◌∙◌, subst, inl, inr, Bool, true, false, MatchBool, MatchOption, List, [], ◌∷◌, length, Option, Some, None, Vec, Global}
use Rattle.std.specs.List.{list_all}
use Rattle.std.proofs.lemmas.Bool.{true≢false}
use Rattle.std.proofs.lemmas.Bool.Decides.{nat_tests}
use Rattle.std.proofs.lemmas.Option.{same_Some, none-some}
use Rattle.evidence_lines.specs.declared.line.Line.{Line}
use Rattle.evidence_lines.specs.declared.line.LineKind.{LineKind}
use Rattle.evidence_lines.specs.declared.line.LineKind.TheVariants as kind
use Rattle.evidence_lines.specs.declared.line.Outcome.{Outcome}
use Rattle.evidence_lines.specs.declared.line.Outcome.TheVariants as says
use Rattle.evidence_lines.specs.declared.version.Version.{Version}
use Rattle.guard_syntax.specs.code.Seen.{see_file}
use Rattle.guard_syntax.specs.declared.syntax.RawFile.{RawFile}
use Rattle.guard_syntax.specs.Syntax.{Expr, File, kinds, literal, function, found}
use Rattle.guard_syntax.specs.declared.row.Ref.{Ref}
use Rattle.guard_syntax.specs.declared.row.Row.{Row}
use Rattle.guard_syntax.specs.declared.row.Row.TheVariants.{Found}
use Rattle.guard_syntax.specs.declared.row.Verdict.{Verdict}
use Rattle.rule_names.specs.Pieces.{AreInOrder, Piece, OfExpr, OfPart, OfStep, piece_at}
use Rattle.guard_builtins.specs.declared.made.Made as types
use Rattle.rule_meaning.specs.Seeing.{grown}
use Rattle.rule_meaning.specs.StoreModel.{StoreModel, Made, is_known, is_known_ref}
use Rattle.evidence_rules.specs.CitedLines.{scope_of}
use Rattle.evidence_rules.specs.Follows.{Follows, FollowsAtExpr, FollowsIn, FollowsRows, FollowsVerdict, IsFileLine, IsFrameOf, home_for}
use Rattle.rule_meaning.specs.Roots.{literal_ref, root_ref}
use Rattle.evidence_lookups.specs.code.Said.{IsSound, is_known_outcome}
use Rattle.evidence_rows.specs.code.Makes.{IsMade}
use Rattle.evidence_checker.proofs.Leading.{made-alike, nothing-made}
use Rattle.evidence_checker.proofs.SitesPlaced.{placed-nowhere}

module _ (version : Version) (known : StoreModel) (lines : List Line) (frame site : ℕ) where
  -- ---- what each kind says, as lines have it

  pub rows-in : (of : LineKind) (cites : List ℕ) (rows : List Row) (more : List Made) → FollowsRows known lines frame site of (piece_at known.file site) cites rows more
      → FollowsIn version known lines frame site of cites (says.Rows rows) more
  rows-in kind.Frame cites rows more h = h
  rows-in of cites rows more h = h

  pub rows-of : (of : LineKind) (cites : List ℕ) (rows : List Row) (more : List Made) → FollowsIn version known lines frame site of cites (says.Rows rows) more
      → FollowsRows known lines frame site of (piece_at known.file site) cites rows more
  rows-of kind.Frame cites rows more h = h
  rows-of of cites rows more h = h

  pub verdict-in : (of : LineKind) (cites : List ℕ) (verdict : Verdict) → FollowsVerdict version known lines frame site of (piece_at known.file site) cites verdict
      → FollowsIn version known lines frame site of cites (says.Verdict verdict) []
  verdict-in kind.Frame cites verdict h = (h, refl)
  verdict-in of cites verdict h = (h, refl)

  pub verdict-of : (of : LineKind) (cites : List ℕ) (verdict : Verdict) (more : List Made) → FollowsIn version known lines frame site of cites (says.Verdict verdict) more
      → FollowsVerdict version known lines frame site of (piece_at known.file site) cites verdict × (more ≡ [])
  verdict-of kind.Frame cites verdict more h = h
  verdict-of of cites verdict more h = h

  -- a value is said by a frame, which cites none
  pub value-of : (of : LineKind) (cites : List ℕ) (v : Ref) (more : List Made) → FollowsIn version known lines frame site of cites (says.Value v) more
      → (of ≡ kind.Frame) × (cites ≡ []) × IsFrameOf known lines frame (piece_at known.file site) v × (more ≡ [])
  value-of kind.Frame cites v more h = (refl, h.0, h.1, h.2)
  value-of of cites v more h = absurd h

  -- ---- what makes nothing known

  expr-plain : (of : LineKind) (e : Expr) (cites : List ℕ) (rows : List Row) (more : List Made) → (of ≡ kind.Fn → ⊥) → FollowsAtExpr known lines frame site of e cites rows more → more ≡ []
  expr-plain kind.Literal (literal n tree) cites rows more other h = h.2
  expr-plain kind.Found (found n q) (c ∷ []) rows more other h = h.3
  expr-plain kind.Fn (function n name args) cites rows more other h = absurd (other refl)
  expr-plain of e cites rows more other h = absurd h

  rows-plain : (of : LineKind) (piece : Option Piece) (cites : List ℕ) (rows : List Row) (more : List Made) → (of ≡ kind.Fn → ⊥) → FollowsRows known lines frame site of piece cites rows more
      → more ≡ []
  rows-plain of (Some (OfExpr e)) cites rows more other h = expr-plain of e cites rows more other h
  rows-plain of (Some (OfStep q i)) cites rows more other h = h.1
  rows-plain kind.Types (Some (OfPart (kinds n name conditions inner))) cites rows more other h = h.4
  rows-plain of piece cites rows more other h = absurd h

  pub rows-only : (of : LineKind) (cites : List ℕ) (rows : List Row) (more : List Made) → (of ≡ kind.Fn → ⊥) → FollowsIn version known lines frame site of cites (says.Rows rows) more → more ≡ []
  rows-only of cites rows more other h = rows-plain of (piece_at known.file site) cites rows more other (rows-of of cites rows more h)

  abbrev pub InRows : (of : LineKind) (cites : List ℕ) (rows : List Row) → List Made → Type 0
  InRows of cites rows more = FollowsIn version known lines frame site of cites (says.Rows rows) more

  -- what is told, with whether a line follows, of the rows of a call: none
  abbrev pub Told : Bool → Option (Vec types.Made Global) → Type 0
  Told b kept = MatchOption kept (b ≡ false) (λ answer. (b ≡ true) × (answer.items ≡ []))

  abbrev pub AreKnown : Outcome → StoreModel → Type 0
  AreKnown outcome after = is_known_outcome after outcome ≡ true

  rows-told : (of : LineKind) (cites : List ℕ) (rows : List Row) (b : Bool)
      → MatchBool b (FollowsRows known lines frame site of (piece_at known.file site) cites rows [])
      ((more : List Made) → FollowsRows known lines frame site of (piece_at known.file site) cites rows more → ⊥)
      → MatchBool b (InRows of cites rows []) ((more : List Made) → InRows of cites rows more → ⊥)
  rows-told of cites rows true holds = rows-in of cites rows [] holds
  rows-told of cites rows false never = λ more h. never more (rows-of of cites rows more h)

  pub rows-made : (of : LineKind) (cites : List ℕ) (rows : List Row) (b : Bool) (kept : Option (Vec types.Made Global)) → (of ≡ kind.Fn → ⊥) → Told b kept
      → MatchBool b (FollowsRows known lines frame site of (piece_at known.file site) cites rows [])
      ((more : List Made) → FollowsRows known lines frame site of (piece_at known.file site) cites rows more → ⊥)
      → (b ≡ true → list_all (is_known known) rows ≡ true) → IsMade known lines (InRows of cites rows) (AreKnown (says.Rows rows)) kept
  rows-made of cites rows b kept other told decided are =
      nothing-made known lines (InRows of cites rows) (AreKnown (says.Rows rows)) b kept told (λ more h. rows-only of cites rows more other h) (rows-told of cites rows b decided) are

  pub call-made : (of : LineKind) (cites : List ℕ) (rows : List Row) (kept : Option (Vec types.Made Global)) → of ≡ kind.Fn
      → IsMade known lines (FollowsRows known lines frame site kind.Fn (piece_at known.file site) cites rows) (λ after. list_all (is_known after) rows ≡ true) kept
      → IsMade known lines (InRows of cites rows) (AreKnown (says.Rows rows)) kept
  call-made of cites rows kept is made = subst (λ (k : LineKind). IsMade known lines (InRows k cites rows) (AreKnown (says.Rows rows)) kept) (sym is) made

  verdict-told : (of : LineKind) (cites : List ℕ) (verdict : Verdict) (b : Bool)
      → MatchBool b (FollowsVerdict version known lines frame site of (piece_at known.file site) cites verdict) (FollowsVerdict version known lines frame site of (piece_at known.file site) cites verdict → ⊥)
      → MatchBool b (FollowsIn version known lines frame site of cites (says.Verdict verdict) []) ((more : List Made) → FollowsIn version known lines frame site of cites (says.Verdict verdict) more → ⊥)
  verdict-told of cites verdict true holds = verdict-in of cites verdict holds
  verdict-told of cites verdict false never = λ more h. never (verdict-of of cites verdict more h).0

  pub verdict-made : (of : LineKind) (cites : List ℕ) (verdict : Verdict) (b : Bool) (kept : Option (Vec types.Made Global)) → Told b kept
      → MatchBool b (FollowsVerdict version known lines frame site of (piece_at known.file site) cites verdict) (FollowsVerdict version known lines frame site of (piece_at known.file site) cites verdict → ⊥)
      → IsMade known lines (FollowsIn version known lines frame site of cites (says.Verdict verdict)) (AreKnown (says.Verdict verdict)) kept
  verdict-made of cites verdict b kept told decided =
      nothing-made known lines (FollowsIn version known lines frame site of cites (says.Verdict verdict)) (AreKnown (says.Verdict verdict)) b kept told
      (λ more h. (verdict-of of cites verdict more h).1) (verdict-told of cites verdict b decided) (λ e. refl)

  pub value-made : (of : LineKind) (cites : List ℕ) (v : Ref) (b : Bool) (kept : Option (Vec types.Made Global)) → Told b kept
      → MatchBool b (FollowsIn version known lines frame site of cites (says.Value v) []) ((more : List Made) → FollowsIn version known lines frame site of cites (says.Value v) more → ⊥)
      → (b ≡ true → is_known_ref known v ≡ true) → IsMade known lines (FollowsIn version known lines frame site of cites (says.Value v)) (AreKnown (says.Value v)) kept
  value-made of cites v b kept told holds is =
      nothing-made known lines (FollowsIn version known lines frame site of cites (says.Value v)) (AreKnown (says.Value v)) b kept told (λ more h. (value-of of cites v more h).3) holds is

  -- an outcome is one of these
  pub said-as : (of : LineKind) (cites : List ℕ) (outcome said : Outcome) (kept : Option (Vec types.Made Global)) → outcome ≡ said
      → IsMade known lines (FollowsIn version known lines frame site of cites said) (AreKnown said) kept → IsMade known lines (FollowsIn version known lines frame site of cites outcome) (AreKnown outcome) kept
  said-as of cites outcome said kept is made =
      subst (λ (o : Outcome). IsMade known lines (FollowsIn version known lines frame site of cites o) (AreKnown o) kept) (sym is) made

  -- ---- a site of no part

  no-rows : (of : LineKind) (cites : List ℕ) (rows : List Row) (more : List Made) → FollowsRows known lines frame site of None cites rows more → ⊥
  no-rows kind.Types cites rows more h = h
  no-rows of cites rows more h = h

  no-verdict : (of : LineKind) (cites : List ℕ) (verdict : Verdict) → FollowsVerdict version known lines frame site of None cites verdict → ⊥
  no-verdict kind.Rule cites verdict h = h
  no-verdict of cites verdict h = h

  pub nowhere : (of : LineKind) (cites : List ℕ) (outcome : Outcome) (more : List Made) → piece_at known.file site ≡ None → FollowsIn version known lines frame site of cites outcome more → ⊥
  nowhere of cites (says.Value v) more none h = subst (λ (p : Option Piece). IsFrameOf known lines frame p v) none (value-of of cites v more h).2
  nowhere of cites (says.Rows rows) more none h =
      no-rows of cites rows more (subst (λ (p : Option Piece). FollowsRows known lines frame site of p cites rows more) none (rows-of of cites rows more h))
  nowhere of cites (says.Verdict verdict) more none h =
      no-verdict of cites verdict (subst (λ (p : Option Piece). FollowsVerdict version known lines frame site of p cites verdict) none (verdict-of of cites verdict more h).0)

  -- ---- a literal

  literal-rows : (piece : Option Piece) (cites : List ℕ) (rows : List Row) (more : List Made) → FollowsRows known lines frame site kind.Literal piece cites rows more
      → rows ≡ Found (literal_ref site) ∷ []
  literal-rows (Some (OfExpr (literal n tree))) cites rows more h = h.1
  literal-rows (Some (OfExpr e)) cites rows more h = absurd h
  literal-rows (Some (OfStep q i)) cites rows more h = absurd h.0
  literal-rows piece cites rows more h = absurd h

  literal-verdict : (piece : Option Piece) (cites : List ℕ) (verdict : Verdict) → FollowsVerdict version known lines frame site kind.Literal piece cites verdict → ⊥
  literal-verdict (Some (OfPart part)) cites verdict h = h
  literal-verdict piece cites verdict h = h

  literal-is : (cites : List ℕ) (outcome : Outcome) (more : List Made) → FollowsIn version known lines frame site kind.Literal cites outcome more → outcome ≡ says.Rows (Found (literal_ref site) ∷ [])
  literal-is cites (says.Value v) more h = absurd h
  literal-is cites (says.Rows rows) more h = ap (λ (rs : List Row). says.Rows rs) (literal-rows (piece_at known.file site) cites rows more h)
  literal-is cites (says.Verdict verdict) more h = absurd (literal-verdict (piece_at known.file site) cites verdict h.0)

  pub literal-said : (of : LineKind) (cites : List ℕ) (outcome : Outcome) (more : List Made) → of ≡ kind.Literal → FollowsIn version known lines frame site of cites outcome more
      → outcome ≡ says.Rows (Found (literal_ref site) ∷ [])
  literal-said of cites outcome more is h = literal-is cites outcome more (subst (λ (k : LineKind). FollowsIn version known lines frame site k cites outcome more) is h)

-- ---- lines

module _ (version : Version) (known : StoreModel) (lines : List Line) (line : Line) where
  -- a line in a frame and of a site
  module _ (frame site : ℕ) (frame_is : line.frame ≡ Some frame) (site_is : line.site ≡ Some site) where
    abbrev pub Placed : List Made → Type 0
    Placed more = (scope_of known.file lines frame ≡ Some (home_for known.file line.kind site)) × FollowsIn version known lines frame site line.kind line.cites line.outcome more

    pub placed : (more : List Made) → Placed more → Follows version known lines line more
    placed more h = inr (frame, site, frame_is, site_is, h.0, h.1)

    pub placed-of : (more : List Made) → Follows version known lines line more → Placed more
    placed-of more h = elim h [
      | inl (q, none) ↦ absurd (none-some frame (sym q.1 ∙ frame_is))
      | inr (f, s, f_is, s_is, home, follows) ↦
          let same_frame : f ≡ frame = same_Some f frame (sym f_is ∙ frame_is) in
          let same_site : s ≡ site = same_Some s site (sym s_is ∙ site_is) in
          let Both : ℕ → ℕ → Type 0 = λ m n. (scope_of known.file lines m ≡ Some (home_for known.file line.kind n)) × FollowsIn version known lines m n line.kind line.cites line.outcome more in
          subst (λ (m : ℕ). Both m site) same_frame (subst (λ (n : ℕ). Both f n) same_site (home, follows))
    ]

  -- one without a frame, and one without a site
  pub file-only : line.frame ≡ None → (more : List Made) → Follows version known lines line more → IsFileLine known lines line × (more ≡ [])
  file-only none more h = elim h [
    | inl both ↦ both
    | inr (f, s, f_is, s_is, home, follows) ↦ absurd (none-some f (sym none ∙ f_is))
  ]

  pub never-sited : (frame : ℕ) → line.frame ≡ Some frame → line.site ≡ None → (more : List Made) → Follows version known lines line more → ⊥
  never-sited frame frame_is none more h = elim h [
    | inl (q, nothing) ↦ none-some frame (sym q.1 ∙ frame_is)
    | inr (f, s, f_is, s_is, home, follows) ↦ none-some s (sym none ∙ s_is)
  ]

  -- one without a frame is judged by whether it is the `file` line
  pub file-sound : (b : Bool) → MatchBool b (IsFileLine known [] line) (IsFileLine known [] line → ⊥) → is_known_ref known root_ref ≡ true → b ≡ true → IsSound known line
  file-sound true file root is = record {
    known_is = ap (is_known_outcome known) file.4 ∙ root;
    literal_is = λ site kind_is site_is. absurd (let wrong : kind.File ≡ kind.Literal = sym file.0 ∙ kind_is in cc);
  }
  file-sound false never root is = absurd (true≢false (sym is))

  file-told : line.frame ≡ None → (b : Bool) → MatchBool b (IsFileLine known [] line) (IsFileLine known [] line → ⊥)
      → MatchBool b (Follows version known lines line []) ((more : List Made) → Follows version known lines line more → ⊥)
  file-told none true file = inl (file, refl)
  file-told none false never = λ more h. never (file-only none more h).0

  pub file-made : (b : Bool) (kept : Option (Vec types.Made Global)) → MatchOption kept (b ≡ false) (λ answer. (b ≡ true) × (answer.items ≡ [])) → line.frame ≡ None
      → MatchBool b (IsFileLine known [] line) (IsFileLine known [] line → ⊥) → is_known_ref known root_ref ≡ true
      → IsMade known lines (Follows version known lines line) (λ (k : StoreModel). IsSound k line) kept
  file-made b kept told none decided root =
      nothing-made known lines (Follows version known lines line) (λ (k : StoreModel). IsSound k line) b kept told (λ other h. (file-only none other h).1) (file-told none b decided) (file-sound b decided root)

  -- and one in a frame and of a site by what it says there
  module _ (frame site : ℕ) (frame_is : line.frame ≡ Some frame) (site_is : line.site ≡ Some site) where
    abbrev SaidThere : List Made → Type 0
    SaidThere more = FollowsIn version known lines frame site line.kind line.cites line.outcome more

    placed-sound : (more : List Made) → SaidThere more → is_known_outcome (grown known more) line.outcome ≡ true → IsSound (grown known more) line
    placed-sound more h known_is = record {
      known_is = known_is;
      literal_is = λ s kind_is s_is.
          literal-said version known lines frame site line.kind line.cites line.outcome more kind_is h
          ∙ ap (λ (n : ℕ). says.Rows (Found (literal_ref n) ∷ [])) (same_Some site s (sym site_is ∙ s_is));
    }

    pub placed-made : (cites : List ℕ) (kept : Option (Vec types.Made Global)) → cites ≡ line.cites → scope_of known.file lines frame ≡ Some (home_for known.file line.kind site)
        → IsMade known lines (FollowsIn version known lines frame site line.kind cites line.outcome) (λ (k : StoreModel). is_known_outcome k line.outcome ≡ true) kept
        → IsMade known lines (Follows version known lines line) (λ (k : StoreModel). IsSound k line) kept
    placed-made cites kept are home made =
        made-alike known lines SaidThere (Follows version known lines line) (λ (k : StoreModel). is_known_outcome k line.outcome ≡ true) (λ (k : StoreModel). IsSound k line)
        (λ more h. placed frame site frame_is site_is more (home, h)) (λ more h. (placed-of frame site frame_is site_is more h).1) placed-sound kept
        (subst (λ (cs : List ℕ). IsMade known lines (FollowsIn version known lines frame site line.kind cs line.outcome) (λ (k : StoreModel). is_known_outcome k line.outcome ≡ true) kept) are made)

-- ---- a site that has a place

within-or : (n m : ℕ) → (n < m) ⊎ (m ≤ n)
within-or n m = by (nat_lt n m) refl
  where
    by : (b : Bool) → nat_lt n m ≡ b → (n < m) ⊎ (m ≤ n)
    by true less = inl (grind (arith, nat_tests, less))
    by false not_less = inr (grind (arith, nat_tests, not_less))

module _ (version : Version) (f : RawFile) (ordered : AreInOrder (see_file f)) (known : StoreModel) (file_is : known.file ≡ see_file f) (lines : List Line) (line : Line) where
  no-part : (site : ℕ) → length f.places ≤ site → piece_at known.file site ≡ None
  no-part site past = ap (λ (x : File). piece_at x site) file_is ∙ placed-nowhere f site ordered past

  -- a line that follows has a site that has a place
  pub sited-within : (site : ℕ) (more : List Made) → Follows version known lines line more → line.site ≡ Some site → site < length f.places
  sited-within site more h site_is = elim h [
    | inl (q, none) ↦ absurd (none-some site (sym q.2 ∙ site_is))
    | inr (frame, s, frame_is, s_is, home, follows) ↦
        let same : s ≡ site = same_Some s site (sym s_is ∙ site_is) in
        elim (within-or site (length f.places)) [
          | inl within ↦ within
          | inr past ↦
              absurd (nowhere version known lines frame s line.kind line.cites line.outcome more (no-part s (subst (λ (n : ℕ). length f.places ≤ n) (sym same) past)) follows)
        ]
  ]

  -- where a frame's scope is not the home of a site that has a place, no line follows there
  pub not-home : (frame site : ℕ) → line.frame ≡ Some frame → line.site ≡ Some site
      → (site < length (see_file f).places → scope_of (see_file f) lines frame ≡ Some (home_for (see_file f) line.kind site) → ⊥)
      → (more : List Made) → Follows version known lines line more → ⊥
  not-home frame site frame_is site_is never more h =
      let there = placed-of version known lines line frame site frame_is site_is more h in
      never (sited-within site more h site_is) (subst (λ (x : File). scope_of x lines frame ≡ Some (home_for x line.kind site)) file_is there.0)
