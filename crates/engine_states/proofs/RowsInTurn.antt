-- A body on rows, one row after another: a row that was found has its line, where none before decides, and else needs none; any other is FAIL. By the rows in turn.
use Rattle.std.proofs.Common.{◌≡◌, ℕ, ◌+◌, ◌<◌, ◌≤◌, ◌++◌, ◌||◌, ◌&&◌, List, [], ◌∷◌, length, take, get_or, Bool, true, false, refl, sym, ap, ◌∙◌, subst, Option, Some, None, if◌then◌else◌}
use Rattle.std.specs.List.{list_any}
use Rattle.std.proofs.lemmas.Bool.{true≢false}
use Rattle.std.proofs.lemmas.List.{take_all, take_more}
use Rattle.evidence_lines.specs.declared.line.Line.{Line}
use Rattle.evidence_lines.specs.declared.version.Version.TheVariants.{Two}
use Rattle.guard_syntax.specs.Syntax.{Body}
use Rattle.guard_syntax.specs.declared.row.Ref.{Ref}
use Rattle.guard_syntax.specs.declared.row.Row.{Row}
use Rattle.guard_syntax.specs.declared.row.Row.TheVariants.{Found, Missing, Unmade}
use Rattle.guard_syntax.specs.declared.row.Verdict.{Verdict}
use Rattle.guard_syntax.specs.declared.row.Verdict.TheVariants.{Pass, Fail, Skip}
use Rattle.rule_meaning.specs.StoreModel.{StoreModel}
use Rattle.rule_meaning.specs.Verdicts.{block_verdict, is_fail, is_found, is_pass}
use Rattle.evidence_rules.specs.Follows.{Behind, FollowsRowsOf, SayRows, SaysBody, block_stop, is_stop, missing_fails}
use Rattle.engine_states.specs.code.Answers.{Answers}
use Rattle.engine_states.specs.code.Evaluated.{Evaluates}
use Rattle.engine_states.specs.code.States.{IsWhole, State}
use Rattle.engine_parts.proofs.Conjoined.{conjunction-more, disjunction-more}
use Rattle.engine_states.proofs.InTurn.{SaidFor, said-next}
use Rattle.engine_states.proofs.SaidStays.{SayBodies-stays}

-- ---- lists

neither : (first rest : Bool) → (first || rest) ≡ false → (first ≡ false) × (rest ≡ false)
neither true rest e = absurd (true≢false e)
neither false rest e = (refl, e)

other : (first rest : Bool) → (first || rest) ≡ true → first ≡ false → rest ≡ true
other true rest e none = absurd (true≢false none)
other false rest e none = e

fails-found : (rows : List Row) (v : Ref) → missing_fails (rows ++ Found v ∷ []) ≡ missing_fails rows
fails-found [] v = refl
fails-found (Found u ∷ rows) v = fails-found rows v
fails-found (Missing u step ∷ rows) v = ap (λ ws. Fail ∷ ws) (fails-found rows v)
fails-found (Unmade site ∷ rows) v = ap (λ ws. Fail ∷ ws) (fails-found rows v)

fails-missing : (rows : List Row) (row : Row) → is_found row ≡ false → missing_fails (rows ++ row ∷ []) ≡ missing_fails rows ++ Fail ∷ []
fails-missing [] (Found v) none = absurd (true≢false none)
fails-missing [] (Missing v step) none = refl
fails-missing [] (Unmade site) none = refl
fails-missing (Found u ∷ rows) row none = fails-missing rows row none
fails-missing (Missing u step ∷ rows) row none = ap (λ ws. Fail ∷ ws) (fails-missing rows row none)
fails-missing (Unmade site ∷ rows) row none = ap (λ ws. Fail ∷ ws) (fails-missing rows row none)

-- ---- what is behind a row, one row more

behind-on : (stops : Bool) (unlined more : List Verdict) (Next Later : (cites : List ℕ) → List Verdict → Type 0) (cites later : List ℕ) (verdicts after : List Verdict) → stops ≡ false
    → (Next cites verdicts → Later later after) → Behind stops unlined Next cites verdicts → Behind stops more Later later after
behind-on true unlined more Next Later cites later verdicts after e on h = absurd (true≢false e)
behind-on false unlined more Next Later cites later verdicts after e on h = on h

module _ (known : StoreModel) (lines : List Line) (Says : Ref → (number : ℕ) → Verdict → Type 0) (stop : Option Verdict) where
  last-behind : (stops : Bool) → Behind stops [] (SayRows known lines Says stop []) [] []
  last-behind true = (refl, refl)
  last-behind false = tt

  -- a row that was found, where none decides
  pub push-found : (rows : List Row) (cites : List ℕ) (verdicts : List Verdict) → SayRows known lines Says stop rows cites verdicts → list_any (is_stop stop) verdicts ≡ false
      → (v : Ref) (c : ℕ) (w : Verdict) → Says v c w → SayRows known lines Says stop (rows ++ Found v ∷ []) (cites ++ c ∷ []) (verdicts ++ w ∷ [])
  push-found [] [] [] say none v c w said = (said, last-behind (is_stop stop w))
  push-found (Found u ∷ rows) (d ∷ ds) (x ∷ xs) (first, behind) none v c w said =
      let each = neither (is_stop stop x) (list_any (is_stop stop) xs) none in (
        first,
        behind-on (is_stop stop x) (missing_fails rows) (missing_fails (rows ++ Found v ∷ [])) (SayRows known lines Says stop rows) (SayRows known lines Says stop (rows ++ Found v ∷ []))
            ds (ds ++ c ∷ []) xs (xs ++ w ∷ []) each.0 (λ say. push-found rows ds xs say each.1 v c w said) behind,
      )
  push-found (Missing u step ∷ rows) cites (x ∷ xs) (first, say) none v c w said =
      (first, push-found rows cites xs say (neither (is_stop stop x) (list_any (is_stop stop) xs) none).1 v c w said)
  push-found (Unmade site ∷ rows) cites (x ∷ xs) (first, say) none v c w said =
      (first, push-found rows cites xs say (neither (is_stop stop x) (list_any (is_stop stop) xs) none).1 v c w said)
  push-found rows cites verdicts say none v c w said = absurd say

  skip-behind : (stops : Bool) (rows : List Row) (v : Ref) (cites : List ℕ) (verdicts : List Verdict)
      → (stops ≡ false → SayRows known lines Says stop rows cites verdicts → SayRows known lines Says stop (rows ++ Found v ∷ []) cites verdicts)
      → Behind stops (missing_fails rows) (SayRows known lines Says stop rows) cites verdicts
      → Behind stops (missing_fails (rows ++ Found v ∷ [])) (SayRows known lines Says stop (rows ++ Found v ∷ [])) cites verdicts
  skip-behind true rows v cites verdicts on h = (h.0, h.1 ∙ sym (fails-found rows v))
  skip-behind false rows v cites verdicts on h = on refl h

  -- a row that was found, where one decides
  pub push-skipped : is_stop stop Fail ≡ false → (rows : List Row) (cites : List ℕ) (verdicts : List Verdict) → SayRows known lines Says stop rows cites verdicts
      → list_any (is_stop stop) verdicts ≡ true → (v : Ref) → SayRows known lines Says stop (rows ++ Found v ∷ []) cites verdicts
  push-skipped fails [] [] [] say one v = absurd (true≢false (sym one))
  push-skipped fails (Found u ∷ rows) (d ∷ ds) (x ∷ xs) (first, behind) one v = (
    first,
    skip-behind (is_stop stop x) rows v ds xs (λ goes say. push-skipped fails rows ds xs say (other (is_stop stop x) (list_any (is_stop stop) xs) one goes) v) behind,
  )
  push-skipped fails (Missing u step ∷ rows) cites (x ∷ xs) (first, say) one v =
      (first, push-skipped fails rows cites xs say (other (is_stop stop x) (list_any (is_stop stop) xs) one (ap (is_stop stop) first ∙ fails)) v)
  push-skipped fails (Unmade site ∷ rows) cites (x ∷ xs) (first, say) one v =
      (first, push-skipped fails rows cites xs say (other (is_stop stop x) (list_any (is_stop stop) xs) one (ap (is_stop stop) first ∙ fails)) v)
  push-skipped fails rows cites verdicts say one v = absurd say

  miss-behind : (stops : Bool) (rows : List Row) (row : Row) → is_found row ≡ false → (cites : List ℕ) (verdicts : List Verdict)
      → (SayRows known lines Says stop rows cites verdicts → SayRows known lines Says stop (rows ++ row ∷ []) cites (verdicts ++ Fail ∷ []))
      → Behind stops (missing_fails rows) (SayRows known lines Says stop rows) cites verdicts
      → Behind stops (missing_fails (rows ++ row ∷ [])) (SayRows known lines Says stop (rows ++ row ∷ [])) cites (verdicts ++ Fail ∷ [])
  miss-behind true rows row none cites verdicts on h = (h.0, ap (λ ws. ws ++ Fail ∷ []) h.1 ∙ sym (fails-missing rows row none))
  miss-behind false rows row none cites verdicts on h = on h

  no-line : (row : Row) → is_found row ≡ false → SayRows known lines Says stop (row ∷ []) [] (Fail ∷ [])
  no-line (Found v) e = absurd (true≢false e)
  no-line (Missing v step) e = (refl, tt)
  no-line (Unmade site) e = (refl, tt)

  -- any other row
  pub push-missing : (rows : List Row) (cites : List ℕ) (verdicts : List Verdict) → SayRows known lines Says stop rows cites verdicts → (row : Row) → is_found row ≡ false
      → SayRows known lines Says stop (rows ++ row ∷ []) cites (verdicts ++ Fail ∷ [])
  push-missing [] [] [] say row none = no-line row none
  push-missing (Found u ∷ rows) (d ∷ ds) (x ∷ xs) (first, behind) row none =
      (first, miss-behind (is_stop stop x) rows row none ds xs (λ say. push-missing rows ds xs say row none) behind)
  push-missing (Missing u step ∷ rows) cites (x ∷ xs) (first, say) row none = (first, push-missing rows cites xs say row none)
  push-missing (Unmade site ∷ rows) cites (x ∷ xs) (first, say) row none = (first, push-missing rows cites xs say row none)
  push-missing rows cites verdicts say row none = absurd say

-- ---- whether one decides, by the verdict so far

same-pass : (verdicts : List Verdict) → list_any (is_stop (Some Pass)) verdicts ≡ list_any is_pass verdicts
same-pass [] = refl
same-pass (w ∷ ws) = ap (λ b. is_pass w || b) (same-pass ws)

none-stops : (verdicts : List Verdict) → list_any (is_stop None) verdicts ≡ false
none-stops [] = refl
none-stops (w ∷ ws) = none-stops ws

passed : (a f : Bool) → is_pass (if a then Pass else (if f then Fail else Skip)) ≡ a
passed true f = refl
passed false true = refl
passed false false = refl

pub decided-by : (any : Bool) (verdicts : List Verdict) (verdict : Verdict) → verdict ≡ block_verdict any verdicts
    → list_any (is_stop (block_stop any Two)) verdicts ≡ (any && is_pass verdict)
decided-by true verdicts verdict made = same-pass verdicts ∙ sym (passed (list_any is_pass verdicts) (list_any is_fail verdicts)) ∙ sym (ap is_pass made)
decided-by false verdicts verdict made = none-stops verdicts

fail-decides-none : (any : Bool) → is_stop (block_stop any Two) Fail ≡ false
fail-decides-none true = refl
fail-decides-none false = refl

pub block-more : (any : Bool) (vs : List Verdict) (v : Verdict) → block_verdict any (vs ++ v ∷ []) ≡ block_verdict any (block_verdict any vs ∷ v ∷ [])
block-more true vs v = disjunction-more vs v
block-more false vs v = conjunction-more vs v

-- ---- in the loop

abbrev pub BodiesSaid : (s : State) → (any : Bool) → Body → List Row → (numbers : List ℕ) → Verdict → (at : ℕ) → Type 0
BodiesSaid s any inner rows numbers verdict at = FollowsRowsOf s.known s.lines at any (block_stop any Two) inner rows numbers verdict

no-rows : (any : Bool) → Skip ≡ block_verdict any []
no-rows true = refl
no-rows false = refl

pub bodies-none : (s : State) (any : Bool) (inner : Body) (verdict : Verdict) → verdict ≡ Skip → (at : ℕ) → BodiesSaid s any inner [] [] verdict at
bodies-none s any inner verdict is at = ([], tt, is ∙ no-rows any)

next-row : (rows : List Row) (i : ℕ) (row : Row) → i < length rows → row ≡ get_or rows i row → take (i + 1) rows ≡ take i rows ++ row ∷ []
next-row rows i row within is = take_more rows i row within ∙ ap (λ y. take i rows ++ y ∷ []) (sym is)

module _ (any : Bool) (inner : Body) (rows : List Row) (i : ℕ) where
  pub bodies-end : (a b : State) (bound frame : ℕ) (numbers : List ℕ) (verdict : Verdict) → length rows ≤ i → SaidFor a b bound frame numbers (BodiesSaid b any inner (take i rows) numbers verdict)
      → SaidFor a b bound frame numbers (BodiesSaid b any inner rows numbers verdict)
  bodies-end a b bound frame numbers verdict past it =
      subst (λ (rs : List Row). SaidFor a b bound frame numbers (BodiesSaid b any inner rs numbers verdict)) (take_all i rows past) it

  module _ (row : Row) (within : i < length rows) (is : row ≡ get_or rows i row) (a b : State) (bound frame : ℕ) (numbers : List ℕ) (before : Verdict)
      (so_far : SaidFor a b bound frame numbers (BodiesSaid b any inner (take i rows) numbers before)) where
    -- nothing was found
    pub bodies-missing : is_found row ≡ false → (after : Verdict) → after ≡ block_verdict any (before ∷ Fail ∷ [])
        → SaidFor a b bound frame numbers (BodiesSaid b any inner (take (i + 1) rows) numbers after)
    bodies-missing none after both =
        let said = so_far.3 in (
          so_far.0,
          so_far.1,
          so_far.2,
          (
            said.0 ++ Fail ∷ [],
            subst (λ (rs : List Row). SayRows b.known b.lines (SaysBody b.known b.lines so_far.1 inner) (block_stop any Two) rs numbers (said.0 ++ Fail ∷ [])) (sym (next-row rows i row within is))
                (push-missing b.known b.lines (SaysBody b.known b.lines so_far.1 inner) (block_stop any Two) (take i rows) numbers said.0 said.1 row none),
            both ∙ ap (λ (v : Verdict). block_verdict any (v ∷ Fail ∷ [])) said.2 ∙ sym (block-more any said.0 Fail),
          ),
        )

    module _ (v : Ref) (found : row ≡ Found v) where
      next-found : take (i + 1) rows ≡ take i rows ++ Found v ∷ []
      next-found = next-row rows i row within is ∙ ap (λ r. take i rows ++ r ∷ []) found

      -- it was found behind one that decides
      pub bodies-skipped : (any && is_pass before) ≡ true → SaidFor a b bound frame numbers (BodiesSaid b any inner (take (i + 1) rows) numbers before)
      bodies-skipped decided =
          let said = so_far.3 in (
            so_far.0,
            so_far.1,
            so_far.2,
            (
              said.0,
              subst (λ (rs : List Row). SayRows b.known b.lines (SaysBody b.known b.lines so_far.1 inner) (block_stop any Two) rs numbers said.0) (sym next-found)
                  (push-skipped b.known b.lines (SaysBody b.known b.lines so_far.1 inner) (block_stop any Two) (fail-decides-none any) (take i rows) numbers said.0 said.1
                  (decided-by any said.0 before said.2 ∙ decided) v),
              said.2,
            ),
          )

      -- it was found, and none before decides
      pub bodies-found : (any && is_pass before) ≡ false → (c : State) → IsWhole a → (least number : ℕ) (more : List ℕ) (w after : Verdict)
          → Answers b c least frame number (λ at. SaysBody c.known c.lines at inner v number w) → least ≤ bound → more ≡ numbers ++ number ∷ [] → after ≡ block_verdict any (before ∷ w ∷ [])
          → SaidFor a c bound frame more (BodiesSaid c any inner (take (i + 1) rows) more after)
      bodies-found goes c whole least number more w after it no_more cited both =
          let all = said-next a b c whole bound least frame number numbers (BodiesSaid b any inner (take i rows) numbers before) (BodiesSaid c any inner (take i rows) numbers before)
          (λ at. SaysBody c.known c.lines at inner v number w) so_far it no_more
          (λ grows at said. (
            said.0,
            subst (λ (ls : List Line). SayRows c.known ls (SaysBody c.known ls at inner) (block_stop any Two) (take i rows) numbers said.0) (sym grows.lines)
                (SayBodies-stays b.known c.known b.lines grows.more_lines at inner (block_stop any Two) (take i rows) numbers said.0 said.1),
            said.2,
          )) in
          let said = all.3.0 in (
            subst (Evaluates a c bound) (sym cited) all.0,
            all.1,
            all.2,
            (
              said.0 ++ w ∷ [],
              subst (λ (rs : List Row). SayRows c.known c.lines (SaysBody c.known c.lines all.1 inner) (block_stop any Two) rs more (said.0 ++ w ∷ [])) (sym next-found)
                  (subst (λ (cs : List ℕ). SayRows c.known c.lines (SaysBody c.known c.lines all.1 inner) (block_stop any Two) (take i rows ++ Found v ∷ []) cs (said.0 ++ w ∷ [])) (sym cited)
                  (push-found c.known c.lines (SaysBody c.known c.lines all.1 inner) (block_stop any Two) (take i rows) numbers said.0 said.1
                  (decided-by any said.0 before said.2 ∙ goes) v number w all.3.1)),
              both ∙ ap (λ (x : Verdict). block_verdict any (x ∷ w ∷ [])) said.2 ∙ sym (block-more any said.0 w),
            ),
          )
