-- A body on rows, a row at a time.
use Rattle.std.proofs.Common.{◌≡◌, ℕ, ◌+◌, ◌≤◌, true, false, true≢false, Bool, List, [], ◌∷◌, length, drop, slice_get, Some, refl, ap, sym, subst, ◌∙◌, MatchBool, add-one, drop-cons}
use Rattle.std.proofs.lemmas.List.{drop_all}
use Rattle.std.proofs.lemmas.Option.{get_or_from_slice_get, slice_get_within}
use Rattle.evidence_lines.specs.declared.line.Line.{Line}
use Rattle.evidence_lines.specs.declared.line.LineKind.TheVariants as kind
use Rattle.evidence_lines.specs.declared.line.Outcome.TheVariants as says
use Rattle.evidence_lines.specs.declared.version.Version.{Version}
use Rattle.evidence_lines.specs.declared.version.Version.TheVariants.{One, Two}
use Rattle.guard_syntax.specs.Syntax as sx
use Rattle.guard_syntax.specs.declared.row.Ref.{Ref}
use Rattle.guard_syntax.specs.declared.row.Row.{Row}
use Rattle.guard_syntax.specs.declared.row.Row.TheVariants.{Found, Missing, Unmade}
use Rattle.guard_syntax.specs.declared.row.Verdict.{Verdict}
use Rattle.guard_syntax.specs.declared.row.Verdict.TheVariants.{Pass, Fail, Skip}
use Rattle.rule_meaning.specs.StoreModel.{StoreModel}
use Rattle.evidence_rules.specs.CitedLines.{IsLine, body_site}
use Rattle.evidence_rules.specs.Follows.{Behind, FollowsRowsOf, SayRows, SaysBody, block_stop, is_stop, missing_fails}
use Rattle.rule_meaning.specs.Verdicts.{block_verdict}
use Rattle.evidence_rows.proofs.SaidOnce.{same-body}
use Rattle.evidence_checker.specs.code.FirstCites.{SaysRow}

-- a body on rows, behind rows that have a verdict already
abbrev pub FollowsOn : StoreModel → List Line → (frame : ℕ) → (any : Bool) → Version → sx.Body → (before : Verdict) → List Row → (cites : List ℕ) → Verdict → Type 0
FollowsOn known lines frame any version b before rows cites verdict =
    (verdicts : List Verdict) × SayRows known lines (SaysBody known lines frame b) (block_stop any version) rows cites verdicts × (verdict ≡ block_verdict any (before ∷ verdicts))

-- what decides a block decides it whatever comes behind, and a row at which nothing was found does not
stop-decides : (any : Bool) (version : Version) (before w : Verdict) (vs : List Verdict) → is_stop (block_stop any version) w ≡ true
    → block_verdict any (before ∷ w ∷ vs) ≡ block_verdict any (before ∷ w ∷ [])
stop-decides false version before w vs stops = absurd (true≢false (sym stops))
stop-decides true One before w vs stops = absurd (true≢false (sym stops))
stop-decides true Two Pass Pass vs stops = refl
stop-decides true Two Fail Pass vs stops = refl
stop-decides true Two Skip Pass vs stops = refl
stop-decides true Two before Fail vs stops = absurd (true≢false (sym stops))
stop-decides true Two before Skip vs stops = absurd (true≢false (sym stops))

fail-goes-on : (any : Bool) (version : Version) → is_stop (block_stop any version) Fail ≡ false
fail-goes-on false version = refl
fail-goes-on true One = refl
fail-goes-on true Two = refl

skip-first : (any : Bool) (vs : List Verdict) → block_verdict any (Skip ∷ vs) ≡ block_verdict any vs
skip-first true vs = refl
skip-first false vs = refl

one-alone : (any : Bool) (v : Verdict) → block_verdict any (v ∷ []) ≡ v
one-alone true Pass = refl
one-alone true Fail = refl
one-alone true Skip = refl
one-alone false Pass = refl
one-alone false Fail = refl
one-alone false Skip = refl

two-first : (any : Bool) (v w : Verdict) (vs : List Verdict) → block_verdict any (v ∷ w ∷ vs) ≡ block_verdict any (block_verdict any (v ∷ w ∷ []) ∷ vs)
two-first true Pass w vs = refl
two-first true Fail Pass vs = refl
two-first true Fail Fail vs = refl
two-first true Fail Skip vs = refl
two-first true Skip Pass vs = refl
two-first true Skip Fail vs = refl
two-first true Skip Skip vs = refl
two-first false Fail w vs = refl
two-first false Pass Pass vs = refl
two-first false Pass Fail vs = refl
two-first false Pass Skip vs = refl
two-first false Skip Pass vs = refl
two-first false Skip Fail vs = refl
two-first false Skip Skip vs = refl

module _ (known : StoreModel) (lines : List Line) (frame : ℕ) (any : Bool) (version : Version) (b : sx.Body) where
  abbrev Say : List Row → List ℕ → List Verdict → Type 0
  Say rows cites verdicts = SayRows known lines (SaysBody known lines frame b) (block_stop any version) rows cites verdicts

  abbrev Stops : Verdict → Bool
  Stops w = is_stop (block_stop any version) w

  pub on-first : (rows : List Row) (cites : List ℕ) (verdict : Verdict) → FollowsRowsOf known lines frame any (block_stop any version) b rows cites verdict
      → FollowsOn known lines frame any version b Skip rows cites verdict
  on-first rows cites verdict f = (f.0, f.1, f.2 ∙ sym (skip-first any f.0))

  pub back-first : (rows : List Row) (cites : List ℕ) (verdict : Verdict) → FollowsOn known lines frame any version b Skip rows cites verdict
      → FollowsRowsOf known lines frame any (block_stop any version) b rows cites verdict
  back-first rows cites verdict f = (f.0, f.1, f.2 ∙ skip-first any f.0)

  -- a row with its verdict, which does not decide, and then the others
  with-first : (row : Row) (rows : List Row) (cites left : List ℕ) (w : Verdict) (ws : List Verdict) → SaysRow (SaysBody known lines frame b) row cites w left
      → Stops w ≡ false → Say rows left ws → Say (row ∷ rows) cites (w ∷ ws)
  with-first (Found v) rows [] left w ws is goes others = absurd is
  with-first (Found v) rows (c ∷ cites) left w ws is goes others =
      (is.0, subst (λ (x : Bool). Behind x (missing_fails rows) (Say rows) cites ws) (sym goes) (subst (λ (cs : List ℕ). Say rows cs ws) is.1 others))
  with-first (Missing v step) rows cites left w ws is goes others = (is.0, subst (λ (cs : List ℕ). Say rows cs ws) is.1 others)
  with-first (Unmade site) rows cites left w ws is goes others = (is.0, subst (λ (cs : List ℕ). Say rows cs ws) is.1 others)

  -- each row has one, and the others come behind it unless it decides
  split-first : (row : Row) (rows : List Row) (cites : List ℕ) (vs : List Verdict) → Say (row ∷ rows) cites vs
      → (w : Verdict) × (ws : List Verdict) × (left : List ℕ) × (vs ≡ w ∷ ws) × SaysRow (SaysBody known lines frame b) row cites w left × (Stops w ≡ false → Say rows left ws)
  split-first (Found v) rows [] [] s = absurd s
  split-first (Found v) rows [] (w ∷ ws) s = absurd s
  split-first (Found v) rows (c ∷ cites) [] s = absurd s
  split-first (Found v) rows (c ∷ cites) (w ∷ ws) s =
      (w, ws, cites, refl, (s.0, refl), λ goes. subst (λ (x : Bool). Behind x (missing_fails rows) (Say rows) cites ws) goes s.1)
  split-first (Missing v step) rows cites [] s = absurd s
  split-first (Missing v step) rows cites (w ∷ ws) s = (w, ws, cites, refl, (s.0, refl), λ goes. s.1)
  split-first (Unmade site) rows cites [] s = absurd s
  split-first (Unmade site) rows cites (w ∷ ws) s = (w, ws, cites, refl, (s.0, refl), λ goes. s.1)

  once : (row : Row) (cites left others : List ℕ) (w x : Verdict) → SaysRow (SaysBody known lines frame b) row cites w left → SaysRow (SaysBody known lines frame b) row cites x others
      → (w ≡ x) × (left ≡ others)
  once (Found v) [] left others w x is also = absurd is
  once (Found v) (c ∷ cites) left others w x is also = (same-body known lines frame b v c w x is.0 also.0, is.1 ∙ sym also.1)
  once (Missing v step) cites left others w x is also = (is.0 ∙ sym also.0, is.1 ∙ sym also.1)
  once (Unmade site) cites left others w x is also = (is.0 ∙ sym also.0, is.1 ∙ sym also.1)

  module _ (row : Row) (rows : List Row) (cites : List ℕ) (before verdict : Verdict) where
    module _ (w after : Verdict) (left : List ℕ) (is : SaysRow (SaysBody known lines frame b) row cites w left) (joined : after ≡ block_verdict any (before ∷ w ∷ [])) where
      pub on-next : Stops w ≡ false → FollowsOn known lines frame any version b before (row ∷ rows) cites verdict → FollowsOn known lines frame any version b after rows left verdict
      on-next goes f =
          let s = split-first row rows cites f.0 f.1 in
          let same = once row cites s.2 left s.0 w s.4 is in (
            s.1,
            subst (λ (cs : List ℕ). Say rows cs s.1) same.1 (s.5 (ap (λ (x : Verdict). Stops x) same.0 ∙ goes)),
            f.2 ∙ ap (λ (vs : List Verdict). block_verdict any (before ∷ vs)) (s.3 ∙ ap (λ (x : Verdict). x ∷ s.1) same.0) ∙ two-first any before w s.1 ∙ ap (λ (x : Verdict). block_verdict any (x ∷ s.1)) (sym joined),
          )

      pub back-next : Stops w ≡ false → FollowsOn known lines frame any version b after rows left verdict → FollowsOn known lines frame any version b before (row ∷ rows) cites verdict
      back-next goes f =
          (w ∷ f.0, with-first row rows cites left w f.0 is goes f.1, f.2 ∙ ap (λ (x : Verdict). block_verdict any (x ∷ f.0)) joined ∙ sym (two-first any before w f.0))

    -- where a row has no verdict, there is none
    pub never-on : ((w : Verdict) (left : List ℕ) → SaysRow (SaysBody known lines frame b) row cites w left → ⊥) → FollowsOn known lines frame any version b before (row ∷ rows) cites verdict → ⊥
    never-on never f = let s = split-first row rows cites f.0 f.1 in never s.0 s.2 s.4

  -- a row whose verdict decides: no line is left behind it
  module _ (rows : List Row) (before verdict w after : Verdict) (joined : after ≡ block_verdict any (before ∷ w ∷ [])) (stops : Stops w ≡ true) where
    found-stops : (v : Ref) (c : ℕ) (cites : List ℕ) (vs : List Verdict) → SaysBody known lines frame b v c w → Say (Found v ∷ rows) (c ∷ cites) vs → verdict ≡ block_verdict any (before ∷ vs)
        → (cites ≡ []) × (verdict ≡ after)
    found-stops v c cites [] is s e = absurd s
    found-stops v c cites (x ∷ xs) is s e =
        let same : x ≡ w = same-body known lines frame b v c x w s.0 is in
        let behind = subst (λ (y : Bool). Behind y (missing_fails rows) (Say rows) cites xs) (ap (λ (y : Verdict). Stops y) same ∙ stops) s.1 in
        (behind.0, e ∙ ap (λ (y : Verdict). block_verdict any (before ∷ y ∷ xs)) same ∙ stop-decides any version before w xs stops ∙ sym joined)

    fail-never : w ≡ Fail → ⊥
    fail-never is = true≢false (sym stops ∙ ap (λ (y : Verdict). Stops y) is ∙ fail-goes-on any version)

    pub on-stop : (row : Row) (cites left : List ℕ) → SaysRow (SaysBody known lines frame b) row cites w left → FollowsOn known lines frame any version b before (row ∷ rows) cites verdict
        → (left ≡ []) × (verdict ≡ after)
    on-stop (Found v) [] left is f = absurd is
    on-stop (Found v) (c ∷ cites) left is f = let both = found-stops v c cites f.0 is.0 f.1 f.2 in (is.1 ∙ both.0, both.1)
    on-stop (Missing v step) cites left is f = absurd (fail-never is.0)
    on-stop (Unmade site) cites left is f = absurd (fail-never is.0)

    pub back-stop : (row : Row) (cites left : List ℕ) → SaysRow (SaysBody known lines frame b) row cites w left → left ≡ [] → verdict ≡ after
        → FollowsOn known lines frame any version b before (row ∷ rows) cites verdict
    back-stop (Found v) [] left is none said = absurd is
    back-stop (Found v) (c ∷ cites) left is none said = (
      w ∷ missing_fails rows,
      (is.0, subst (λ (x : Bool). Behind x (missing_fails rows) (Say rows) cites (missing_fails rows)) (sym stops) (sym is.1 ∙ none, refl)),
      said ∙ joined ∙ sym (stop-decides any version before w (missing_fails rows) stops),
    )
    back-stop (Missing v step) cites left is none said = absurd (fail-never is.0)
    back-stop (Unmade site) cites left is none said = absurd (fail-never is.0)

  -- behind the last row no line is left
  pub on-none : (before verdict : Verdict) (cites : List ℕ) → FollowsOn known lines frame any version b before [] cites verdict → (cites ≡ []) × (verdict ≡ before)
  on-none before verdict cites f = ends cites f.0 f.1 f.2
    where
      ends : (cs : List ℕ) (vs : List Verdict) → Say [] cs vs → verdict ≡ block_verdict any (before ∷ vs) → (cs ≡ []) × (verdict ≡ before)
      ends [] [] s e = (refl, e ∙ one-alone any before)
      ends [] (v ∷ vs) s e = absurd s
      ends (c ∷ cs) [] s e = absurd s
      ends (c ∷ cs) (v ∷ vs) s e = absurd s

  pub back-none : (before verdict : Verdict) (cites : List ℕ) → cites ≡ [] → verdict ≡ before → FollowsOn known lines frame any version b before [] cites verdict
  back-none before verdict [] none is = ([], tt, is ∙ sym (one-alone any before))
  back-none before verdict (c ∷ cs) none is = absurd cc

  -- so the rows from an index on
  next-rows : (rows : List Row) (i : ℕ) (row : Row) → slice_get rows i ≡ Some row → drop i rows ≡ row ∷ drop (i + 1) rows
  next-rows rows i row there =
      rw add-one (drop-cons rows i row (slice_get_within rows i row there)) ∙ ap (λ (r : Row). r ∷ drop (i + 1) rows) (get_or_from_slice_get rows i row row there)

  module _ (rows : List Row) (i : ℕ) (row : Row) (there : slice_get rows i ≡ Some row) (cites : List ℕ) (before verdict : Verdict) where
    module _ (w after : Verdict) (left : List ℕ) (is : SaysRow (SaysBody known lines frame b) row cites w left) (joined : after ≡ block_verdict any (before ∷ w ∷ [])) where
      pub on-row : Stops w ≡ false → FollowsOn known lines frame any version b before (drop i rows) cites verdict → FollowsOn known lines frame any version b after (drop (i + 1) rows) left verdict
      on-row goes f =
          on-next row (drop (i + 1) rows) cites before verdict w after left is joined goes
          (subst (λ (rs : List Row). FollowsOn known lines frame any version b before rs cites verdict) (next-rows rows i row there) f)

      pub back-row : Stops w ≡ false → FollowsOn known lines frame any version b after (drop (i + 1) rows) left verdict → FollowsOn known lines frame any version b before (drop i rows) cites verdict
      back-row goes f =
          subst (λ (rs : List Row). FollowsOn known lines frame any version b before rs cites verdict) (sym (next-rows rows i row there))
          (back-next row (drop (i + 1) rows) cites before verdict w after left is joined goes f)

      -- a row that decides
      pub decide-stop : (all : List Row) (whole : List ℕ) (r : Bool) → Stops w ≡ true
          → (FollowsRowsOf known lines frame any (block_stop any version) b all whole verdict → FollowsOn known lines frame any version b before (drop i rows) cites verdict)
          → (FollowsOn known lines frame any version b before (drop i rows) cites verdict → FollowsRowsOf known lines frame any (block_stop any version) b all whole verdict)
          → MatchBool r ((left ≡ []) × (verdict ≡ after)) ((left ≡ []) × (verdict ≡ after) → ⊥)
          → MatchBool r (FollowsRowsOf known lines frame any (block_stop any version) b all whole verdict)
          (FollowsRowsOf known lines frame any (block_stop any version) b all whole verdict → ⊥)
      decide-stop all whole true stops on back ends =
          back (subst (λ (rs : List Row). FollowsOn known lines frame any version b before rs cites verdict) (sym (next-rows rows i row there))
          (back-stop (drop (i + 1) rows) before verdict w after joined stops row cites left is ends.0 ends.1))
      decide-stop all whole false stops on back never =
          λ f. never (on-stop (drop (i + 1) rows) before verdict w after joined stops row cites left is
          (subst (λ (rs : List Row). FollowsOn known lines frame any version b before rs cites verdict) (next-rows rows i row there) (on f)))

    pub never-row : ((w : Verdict) (left : List ℕ) → SaysRow (SaysBody known lines frame b) row cites w left → ⊥) → FollowsOn known lines frame any version b before (drop i rows) cites verdict → ⊥
    never-row never f =
        never-on row (drop (i + 1) rows) cites before verdict never (subst (λ (rs : List Row). FollowsOn known lines frame any version b before rs cites verdict) (next-rows rows i row there) f)

  -- and behind the last
  pub decide-end : (rows all : List Row) (i : ℕ) (cites whole : List ℕ) (before verdict : Verdict) (r : Bool) → length rows ≤ i
      → (FollowsRowsOf known lines frame any (block_stop any version) b all whole verdict → FollowsOn known lines frame any version b before (drop i rows) cites verdict)
      → (FollowsOn known lines frame any version b before (drop i rows) cites verdict → FollowsRowsOf known lines frame any (block_stop any version) b all whole verdict)
      → MatchBool r ((cites ≡ []) × (verdict ≡ before)) ((cites ≡ []) × (verdict ≡ before) → ⊥)
      → MatchBool r (FollowsRowsOf known lines frame any (block_stop any version) b all whole verdict)
      (FollowsRowsOf known lines frame any (block_stop any version) b all whole verdict → ⊥)
  decide-end rows all i cites whole before verdict true past on back ends =
      back (subst (λ (rs : List Row). FollowsOn known lines frame any version b before rs cites verdict) (sym (drop_all i rows past)) (back-none before verdict cites ends.0 ends.1))
  decide-end rows all i cites whole before verdict false past on back never =
      λ f. never (on-none before verdict cites (subst (λ (rs : List Row). FollowsOn known lines frame any version b before rs cites verdict) (drop_all i rows past) (on f)))

module _ (known : StoreModel) (lines : List Line) (frame : ℕ) (b : sx.Body) where
  -- a row that was found, whose line says nothing
  pub none-said : (row : Row) (cites : List ℕ) (v : Ref) (c : ℕ) (left : List ℕ) (site : ℕ) → row ≡ Found v → cites ≡ c ∷ left → site ≡ body_site b
      → ((at : ℕ) → (w : Verdict) → IsLine lines at kind.Frame frame site (says.Value v) → IsLine lines c kind.Conj at site (says.Verdict w) → ⊥)
      → (w : Verdict) → (others : List ℕ) → SaysRow (SaysBody known lines frame b) row cites w others → ⊥
  none-said row cites v c left site found first site_is never w others s =
      let at_found : SaysRow (SaysBody known lines frame b) (Found v) cites w others = subst (λ (x : Row). SaysRow (SaysBody known lines frame b) x cites w others) found s in
      let taken : SaysRow (SaysBody known lines frame b) (Found v) (c ∷ left) w others = subst (λ (cs : List ℕ). SaysRow (SaysBody known lines frame b) (Found v) cs w others) first at_found in
      subst (λ (n : ℕ). (at : ℕ) → (x : Verdict) → IsLine lines at kind.Frame frame n (says.Value v) → IsLine lines c kind.Conj at n (says.Verdict x) → ⊥) site_is never taken.0.0 w taken.0.1 taken.0.2
