-- Lines that say FAIL tell what their part fails by, where the lines before them do: a case for each kind of line. Names mean and calls fail by whatever obeys their tables.
use Rattle.std.proofs.Common.{◌≡◌, ℕ, zero, suc, ◌<◌, ◌≤◌, Bool, true, false, true≢false, ◌&&◌, ◌||◌, refl, sym, ap, ap₂, ◌∙◌, subst, arith, List, [], ◌∷◌, ◌++◌, length, map, slice_get, unwrap_or, Option, Some, None, option_and_then, if◌then◌else◌}
use Rattle.std.specs.List.{flat_map, list_any}
use Rattle.std.specs.Option.{option_map_or}
use Rattle.std.proofs.lemmas.List.{append-nil}
use Rattle.std.proofs.lemmas.Option.{same_Some, none-some}
use Rattle.evidence_lines.specs.Lines.{line_of}
use Rattle.evidence_lines.specs.declared.line.Line.{Line}
use Rattle.evidence_lines.specs.declared.line.LineKind.{LineKind}
use Rattle.evidence_lines.specs.declared.line.LineKind.TheVariants as kind
use Rattle.evidence_lines.specs.declared.line.Outcome.TheVariants as says
use Rattle.evidence_lines.specs.declared.version.Version.{Version}
use Rattle.evidence_lines.specs.declared.version.Version.TheVariants.{One, Two}
use Rattle.guard_syntax.specs.Syntax.{Rule, Body, Conds, OptConds, Disjs, Parts, Part, Query, Expr, Exprs, OptExpr, body, conds, no_conds, with_conds, no_disjs, more_disjs, disj, no_parts, more_parts, block, guarded, kinds, test, refer, call, query, literal, function, asked, found, no_expr, with_expr}
use Rattle.guard_syntax.specs.declared.row.Ref.{Ref}
use Rattle.guard_syntax.specs.declared.row.Row.{Row}
use Rattle.guard_syntax.specs.declared.row.Row.TheVariants as row
use Rattle.guard_syntax.specs.declared.row.Verdict.{Verdict}
use Rattle.guard_syntax.specs.declared.row.Verdict.TheVariants.{Pass, Fail, Skip}
use Rattle.guard_syntax.specs.declared.syntax.Op.{Op}
use Rattle.rule_names.specs.Resolution.{target_of}
use Rattle.rule_names.specs.Pieces.{Piece, OfFile, OfRule, OfBody, OfConds, OfDisj, OfPart, piece_at, pieces_body, pieces_conds, pieces_disj, pieces_disjs, pieces_lets, pieces_opt_conds, pieces_opt_expr, pieces_part, pieces_parts, pieces_query}
use Rattle.rule_names.specs.ReferenceGraph.{part_site}
use Rattle.rule_meaning.specs.Environments.{Environment, Top, Inner, Called, current_of}
use Rattle.rule_meaning.specs.Fails.{Calls, Entry, IsCall, IsRule, block_row_fails, body_fails, disj_fails, disjs_fails, entry, missing_row, part_fails, parts_fails, piece_fails, set_fails, target_fails, test_fails, tested_row}
use Rattle.rule_meaning.specs.Keys.{passes}
use Rattle.rule_meaning.specs.Locations.{Location, LocatedRow, World, root_location}
use Rattle.rule_meaning.specs.Meaning.{body_verdict, disj_verdict, part_verdict, rows_of, rows_of_side}
use Rattle.rule_meaning.specs.Roots.{root_ref}
use Rattle.rule_meaning.specs.SetTests.{is_empty_test, is_set}
use Rattle.rule_meaning.specs.StepMeaning as location
use Rattle.rule_meaning.specs.StoreModel.{Made, StoreModel}
use Rattle.rule_meaning.specs.Verdicts.{block_verdict, disjunction, is_fail, is_pass}
use Rattle.evidence_rules.specs.CitedLines.{IsLine, GivesExpr, GivesQuery, args_at, args_of_piece, body_of_rule, body_site, scope_by, scope_of, value_of, value_said}
use Rattle.evidence_rules.specs.Follows.{Behind, FollowsAtPart, FollowsBlock, FollowsBody, FollowsCall, FollowsLoose, FollowsTest, FollowsTyped, FollowsVerdict, GivesRight, Guarded, SayDisjs, SayParts, SayRows, SaysBody, SaysVerdict, Under, UnderSome, block_stop, conds_site, disj_stop, is_stop, kind_of_part}
use Rattle.evidence_rules.specs.code.Judgement.{line_rows, line_sites}
use Rattle.evidence_rules.proofs.LinesBehind.{behind-first}
use Rattle.meaning_laws.specs.code.Entries.{IsCallsFixpoint}
use Rattle.query_steps.proofs.SeenSteps.{passes-seen}
use Rattle.evidence_truth.specs.code.LineFails.{behind_conds, block_entries, current_in, failed_row, if_failing, is_failing, line_fails, part_entries, piece_entries, rows_cited, rows_entries, rows_in, rows_of_line, says_fail, test_entries}
use Rattle.evidence_truth.proofs.LinesSoFar.{Evidence, Framing, IsFramed, Meant, Past, ValueFits, in-all, last_store, seen, shown, store_of, value-current, world_for}
use Rattle.evidence_truth.proofs.PiecesAt.{Each, IsAt, found-whole, parted}
use Rattle.evidence_truth.proofs.RowsTrue.{query-given, rows-cited}
use Rattle.evidence_truth.proofs.RuleTargets.{loose-there}
use Rattle.evidence_truth.proofs.VerdictsTrue.{body-at, body-given, body-value, called-is, file-framing, frame-value, line-of-part, part-at, right-given, rule-value, verdict-given, when-value}

-- ---- verdicts that do not decide

or-parts : (a b : Bool) → (a || b) ≡ false → (a ≡ false) × (b ≡ false)
or-parts true b h = absurd (true≢false h)
or-parts false b h = (refl, h)

goes-on : (stops : Bool) (unlined : List Verdict) (Next : List ℕ → List Verdict → Type 0) (cites : List ℕ) (verdicts : List Verdict) → stops ≡ false
    → Behind stops unlined Next cites verdicts → Next cites verdicts
goes-on true unlined Next cites verdicts is h = absurd (true≢false is)
goes-on false unlined Next cites verdicts is h = h

-- nothing decides where nothing may
none-decides : (ws : List Verdict) → list_any (is_stop None) ws ≡ false
none-decides [] = refl
none-decides (w ∷ ws) = none-decides ws

not-passed : (passes fails : Bool) → Fail ≡ (if passes then Pass else (if fails then Fail else Skip)) → passes ≡ false
not-passed true fails h = absurd (true≢false (ap is_fail h))
not-passed false fails h = refl

-- a disjunction that is FAIL has no part that decides
disj-goes : (version : Version) (ws : List Verdict) → Fail ≡ disjunction ws → list_any (is_stop (disj_stop version)) ws ≡ false
disj-goes One ws h = none-decides ws
disj-goes Two ws h = not-passed (list_any is_pass ws) (list_any is_fail ws) h

block-goes : (any : Bool) (version : Version) (ws : List Verdict) → Fail ≡ block_verdict any ws → list_any (is_stop (block_stop any version)) ws ≡ false
block-goes false version ws h = none-decides ws
block-goes true One ws h = none-decides ws
block-goes true Two ws h = not-passed (list_any is_pass ws) (list_any is_fail ws) h

skip-apart : Fail ≡ Skip → ⊥
skip-apart h = true≢false (ap is_fail h)

-- ---- numbers of lines

within-list : (ls : List Line) (n : ℕ) (l : Line) → slice_get ls n ≡ Some l → n < length ls
within-list [] n l is = absurd (none-some l is)
within-list (x ∷ ls) zero l is = omega arith
within-list (x ∷ ls) (suc n) l is = let h = within-list ls n l is in omega (arith, h)

pub number-within : (ls : List Line) (number : ℕ) (l : Line) → line_of ls number ≡ Some l → number ≤ length ls
number-within ls zero l is = omega arith
number-within ls (suc n) l is = let h = within-list ls n l (sym (behind-first ls n) ∙ is) in omega (arith, h)

-- ---- what is told

module _ (e : Evidence) (calls : Calls) where
  -- what a part fails by in an environment; conditions and what is no part with a verdict are not asked
  abbrev pub EntriesOf : Environment → Option Piece → List Entry → Type 0
  EntriesOf env (Some OfFile) es = disjs_fails (world_for e) e.names calls env e.file.loose ≡ es
  EntriesOf env (Some (OfRule r)) es = body_fails (world_for e) e.names calls (Inner root_location Top) r.body ≡ es
  EntriesOf env (Some (OfBody b)) es = body_fails (world_for e) e.names calls env b ≡ es
  EntriesOf env (Some (OfDisj d)) es = disj_fails (world_for e) e.names calls env d ≡ es
  EntriesOf env (Some (OfPart p)) es = part_fails (world_for e) e.names calls env p ≡ es
  EntriesOf env piece es = Unit {0}

  -- a line that says FAIL tells it
  abbrev pub Tells : (number : ℕ) → Line → Type 0
  Tells number line =
      (frame site : ℕ) (env : Environment) → line.frame ≡ Some frame → line.site ≡ Some site → line.outcome ≡ says.Verdict Fail → Framing e frame env
      → (most : ℕ) → number ≤ most → EntriesOf env (piece_at e.file site) (line_fails (last_store e) e.lines most number)

  -- that of a rule stands in the file's frame
  abbrev pub IsOfFile : Line → Type 0
  IsOfFile line = (frame : ℕ) → line.kind ≡ kind.Rule → line.frame ≡ Some frame → line.outcome ≡ says.Verdict Fail → Framing e frame Top

  abbrev pub IsTold : (number : ℕ) → Line → Type 0
  IsTold number line = Tells number line × IsOfFile line

  abbrev pub AreTold : List Line → Type 0
  AreTold before = (number : ℕ) (l : Line) → line_of before number ≡ Some l → IsTold number l

module _ (e : Evidence) (meant : Meant e) (calls : Calls) (obeyed : IsCallsFixpoint (world_for e) e.names calls) (made : List Made) (before : List Line) (past : Past e made before)
    (old : AreTold e calls before) (most : ℕ) (enough : length before ≤ most) where
  abbrev world : World
  world = world_for e

  abbrev known : StoreModel
  known = store_of e made

  abbrev last : StoreModel
  last = last_store e

  abbrev fails : ℕ → List Entry
  fails = line_fails (last_store e) e.lines most

  abbrev failing : ℕ → List Entry
  failing = if_failing (last_store e) e.lines fails

  -- ---- lines that are cited

  cited-told : (c : ℕ) (of : LineKind) (frame site : ℕ) (env : Environment) (p : Option Piece) → SaysVerdict known before of frame site c Fail → Framing e frame env → piece_at e.file site ≡ p
      → EntriesOf e calls env p (fails c)
  cited-told c of frame site env p is framing there =
      let few = number-within before c is.line is.stands in
      subst (λ (q : Option Piece). EntriesOf e calls env q (fails c)) there ((old c is.line is.stands).0 frame site env is.frame_is is.site_is is.outcome_is framing most (omega (arith, few, enough)))

  failing-given : (c : ℕ) (of : LineKind) (frame site : ℕ) (w : Verdict) → SaysVerdict known before of frame site c w → is_failing last e.lines c ≡ is_fail w
  failing-given c of frame site w is =
      ap (λ (o : Option Line). option_map_or (λ (l : Line). says_fail l.outcome) o false) (past.stand c is.line is.stands) ∙ ap says_fail is.outcome_is

  -- entries where a verdict is FAIL are those of the line that says it
  cited-one : (c : ℕ) (of : LineKind) (frame site : ℕ) (w v : Verdict) (es : List Entry) → SaysVerdict known before of frame site c w → v ≡ w → (w ≡ Fail → es ≡ fails c)
      → (if is_fail v then es else []) ≡ failing c
  cited-one c of frame site w v es is same told = by w same (failing-given c of frame site w is) told
    where
      by : (w : Verdict) → v ≡ w → is_failing last e.lines c ≡ is_fail w → (w ≡ Fail → es ≡ fails c) → (if is_fail v then es else []) ≡ failing c
      by Pass same flag told = ap (λ (x : Verdict). if is_fail x then es else []) same ∙ sym (ap (λ (b : Bool). if b then fails c else []) flag)
      by Fail same flag told = ap (λ (x : Verdict). if is_fail x then es else []) same ∙ told refl ∙ sym (ap (λ (b : Bool). if b then fails c else []) flag)
      by Skip same flag told = ap (λ (x : Verdict). if is_fail x then es else []) same ∙ sym (ap (λ (b : Bool). if b then fails c else []) flag)

  -- one line that says FAIL, and a line in front that does not
  one-cited : (c : ℕ) (of : LineKind) (frame site : ℕ) → SaysVerdict known before of frame site c Fail → fails c ≡ flat_map failing (c ∷ [])
  one-cited c of frame site is =
      sym (ap (λ (b : Bool). if b then fails c else []) (failing-given c of frame site Fail is)) ∙ sym (append-nil (failing c))

  past-cited : (c : ℕ) (cites : List ℕ) (of : LineKind) (frame site : ℕ) → SaysVerdict known before of frame site c Pass → flat_map failing (c ∷ cites) ≡ flat_map failing cites
  past-cited c cites of frame site is = ap (λ (b : Bool). (if b then fails c else []) ++ flat_map failing cites) (failing-given c of frame site Pass is)

  -- ---- parts, disjunctions and bodies

  parts-told : (frame : ℕ) (env : Environment) (stop : Option Verdict) (ps : Parts) (cites : List ℕ) (verdicts : List Verdict) → Framing e frame env → Each (IsAt e.file) (pieces_parts ps)
      → SayParts known before frame stop ps cites verdicts → list_any (is_stop stop) verdicts ≡ false → parts_fails world e.names calls env ps ≡ flat_map failing cites
  parts-told frame env stop no_parts [] [] framing placed say goes = refl
  parts-told frame env stop (more_parts p ps) (c ∷ cs) (w ∷ ws) framing placed (first, others) goes =
      let both = parted (IsAt e.file) (pieces_part p) (pieces_parts ps) placed in
      let on = or-parts (is_stop stop w) (list_any (is_stop stop) ws) goes in
      let of = kind_of_part known before p in
      let there = part-at e p both.0 in
      ap₂ (λ (xs ys : List Entry). xs ++ ys)
      (cited-one c of frame (part_site p) w (part_verdict world e.names env p) (part_fails world e.names calls env p) first
      (verdict-given e meant made before past c of frame (part_site p) w env (OfPart p) (part_verdict world e.names env p) first framing there (line-of-part e meant made before past env p))
      (λ failed. cited-told c of frame (part_site p) env (Some (OfPart p)) (subst (λ (x : Verdict). SaysVerdict known before of frame (part_site p) c x) failed first) framing there))
      (parts-told frame env stop ps cs ws framing both.1 (goes-on (is_stop stop w) [] (SayParts known before frame stop ps) cs ws on.0 others) on.1)
  parts-told frame env stop ps cites verdicts framing placed say goes = absurd say

  disjs-told : (frame : ℕ) (env : Environment) (ds : Disjs) (cites : List ℕ) (verdicts : List Verdict) → Framing e frame env → Each (IsAt e.file) (pieces_disjs ds)
      → SayDisjs known before frame None ds cites verdicts → disjs_fails world e.names calls env ds ≡ flat_map failing cites
  disjs-told frame env no_disjs [] [] framing placed say = refl
  disjs-told frame env (more_disjs (disj n parts) ds) (c ∷ cs) (w ∷ ws) framing placed (first, others) =
      let both = parted (IsAt e.file) (pieces_disj (disj n parts)) (pieces_disjs ds) placed in
      ap₂ (λ (xs ys : List Entry). xs ++ ys)
      (cited-one c kind.Disj frame n w (disj_verdict world e.names env (disj n parts)) (disj_fails world e.names calls env (disj n parts)) first
      (verdict-given e meant made before past c kind.Disj frame n w env (OfDisj (disj n parts)) (disj_verdict world e.names env (disj n parts)) first framing both.0.0 refl)
      (λ failed. cited-told c kind.Disj frame n env (Some (OfDisj (disj n parts))) (subst (λ (x : Verdict). SaysVerdict known before kind.Disj frame n c x) failed first) framing both.0.0))
      (disjs-told frame env ds cs ws framing both.1 others)
  disjs-told frame env ds cites verdicts framing placed say = absurd say

  -- a body in the frame of a value
  inner-framing : (frame : ℕ) (env : Environment) (b : Body) (v : Ref) (number : ℕ) (verdict : Verdict) → Framing e frame env → Each (IsAt e.file) (pieces_body b)
      → (says_body : SaysBody known before frame b v number verdict) → Framing e says_body.0 (Inner (seen e v) env)
  inner-framing frame env b v number verdict framing placed (at, is, says_verdict) =
      let none : args_at e.file (body_site b) ≡ None = ap (option_and_then args_of_piece) (body-at e b placed) in
      (frame, body_site b, v, in-all e made before past at kind.Frame frame (body_site b) (says.Value v) is, none, refl, framing)

  body-fails-at : (frame : ℕ) (env : Environment) (b : Body) (v : Ref) (number : ℕ) → Framing e frame env → Each (IsAt e.file) (pieces_body b)
      → SaysBody known before frame b v number Fail → body_fails world e.names calls (Inner (seen e v) env) b ≡ fails number
  body-fails-at frame env b v number framing placed says_body =
      cited-told number kind.Conj says_body.0 (body_site b) (Inner (seen e v) env) (Some (OfBody b)) says_body.2 (inner-framing frame env b v number Fail framing placed says_body) (body-at e b placed)

  body-told : (frame : ℕ) (env : Environment) (b : Body) (v : Ref) (number : ℕ) (w : Verdict) → Framing e frame env → Each (IsAt e.file) (pieces_body b)
      → SaysBody known before frame b v number w
      → (if is_fail (body_verdict world e.names (Inner (seen e v) env) b) then body_fails world e.names calls (Inner (seen e v) env) b else []) ≡ failing number
  body-told frame env b v number w framing placed says_body =
      cited-one number kind.Conj says_body.0 (body_site b) w (body_verdict world e.names (Inner (seen e v) env) b) (body_fails world e.names calls (Inner (seen e v) env) b) says_body.2
      (body-given e meant made before past frame env b v number w framing placed says_body)
      (λ failed. body-fails-at frame env b v number framing placed (subst (λ (x : Verdict). SaysBody known before frame b v number x) failed says_body))

  -- what a body fails by at each row
  abbrev row_fails : Environment → Body → Location → List Entry
  row_fails env b = λ v. if is_fail (body_verdict world e.names (Inner v env) b) then body_fails world e.names calls (Inner v env) b else []

  bodies-told : (frame : ℕ) (env : Environment) (stop : Option Verdict) (b : Body) (part : ℕ) (rows : List Row) (cites : List ℕ) (verdicts : List Verdict) → Framing e frame env
      → Each (IsAt e.file) (pieces_body b) → SayRows known before (SaysBody known before frame b) stop rows cites verdicts → list_any (is_stop stop) verdicts ≡ false
      → flat_map (block_row_fails part (row_fails env b)) (map (shown e) rows) ≡ rows_entries last e.lines fails part rows cites
  bodies-told frame env stop b part [] [] [] framing placed say goes = refl
  bodies-told frame env stop b part (row.Found v ∷ rows) (c ∷ cs) (w ∷ ws) framing placed (first, others) goes =
      let on = or-parts (is_stop stop w) (list_any (is_stop stop) ws) goes in
      ap₂ (λ (xs ys : List Entry). xs ++ ys) (body-told frame env b v c w framing placed first)
      (bodies-told frame env stop b part rows cs ws framing placed
      (goes-on (is_stop stop w) _ (SayRows known before (SaysBody known before frame b) stop rows) cs ws on.0 others) on.1)
  bodies-told frame env stop b part (row.Missing v step ∷ rows) cites (w ∷ ws) framing placed (first, others) goes =
      let on = or-parts (is_stop stop w) (list_any (is_stop stop) ws) goes in
      ap (λ (ys : List Entry). missing_row part (shown e (row.Missing v step)) ++ ys) (bodies-told frame env stop b part rows cites ws framing placed others on.1)
  bodies-told frame env stop b part (row.Unmade site ∷ rows) cites (w ∷ ws) framing placed (first, others) goes =
      let on = or-parts (is_stop stop w) (list_any (is_stop stop) ws) goes in
      ap (λ (ys : List Entry). missing_row part (shown e (row.Unmade site)) ++ ys) (bodies-told frame env stop b part rows cites ws framing placed others on.1)
  bodies-told frame env stop b part rows cites verdicts framing placed say goes = absurd say

  -- ---- values and rows that are named

  current-given : (frame : ℕ) (v : Ref) (env : Environment) → value_of before frame ≡ Some v → Framing e frame env → current_in last e.lines (Some frame) ≡ current_of env
  current-given frame v env has framing =
      ap (λ (o : Option Ref). seen e (unwrap_or o root_ref)) (by (line_of before frame) refl has) ∙ sym (value-current e made before past frame v env has framing)
    where
      by : (o : Option Line) → line_of before frame ≡ o → option_and_then (λ (l : Line). value_said l.outcome) o ≡ Some v → value_of e.lines frame ≡ Some v
      by None none is = absurd (none-some v is)
      by (Some l) there is = ap (option_and_then (λ (x : Line). value_said x.outcome)) (past.stand frame l there) ∙ is

  rows-given : (number : ℕ) (of : LineKind) (frame site : ℕ) (rows : List Row) → IsLine before number of frame site (says.Rows rows) → rows_of_line last e.lines number ≡ rows
  rows-given number of frame site rows is =
      ap (λ (o : Option Line). option_map_or (λ (l : Line). rows_in l.outcome) o []) (past.stand number is.line is.stands) ∙ ap rows_in is.outcome_is

  query-rows : (frame : ℕ) (q : Query) (number : ℕ) (rows : List Row) → GivesQuery e.file before frame q number rows → rows_of_line last e.lines number ≡ rows
  query-rows frame (query n steps) number rows gives = rows-given number _ _ _ rows gives.2

  expr-rows : (frame : ℕ) (x : Expr) (number : ℕ) (rows : List Row) → GivesExpr e.file before frame x number rows → rows_of_line last e.lines number ≡ rows
  expr-rows frame (literal n tree) number rows gives = rows-given number _ _ _ rows gives
  expr-rows frame (function n name args) number rows gives = rows-given number _ _ _ rows gives
  expr-rows frame (asked q) number rows gives = query-rows frame q number rows gives
  expr-rows frame (found n q) number rows gives = rows-given number _ _ _ rows gives

  right-rows : (frame : ℕ) (right : OptExpr) (c : ℕ) (cites : List ℕ) (rows : List Row) → GivesRight known before frame right cites rows → rows_cited last e.lines (c ∷ cites) 1 ≡ rows
  right-rows frame no_expr c [] rows h = sym h
  right-rows frame (with_expr x) c (k ∷ []) rows h = expr-rows frame x k rows h
  right-rows frame right c cites rows h = absurd h

  -- ---- tests

  tests-told : (part : ℕ) (op : Op) (negated : Bool) (rights rows : List Row)
      → test_fails part (location.passes world op negated (map (shown e) rights)) (map (shown e) rows) ≡ flat_map (failed_row last e.lines part (passes last op negated rights)) rows
  tests-told part op negated rights [] = refl
  tests-told part op negated rights (x ∷ rows) =
      ap₂ (λ (b : Bool) (ys : List Entry). (if b then [] else tested_row part (shown e x)) ++ ys) (passes-seen last e.answers (line_sites e.lines) op negated rights x)
      (tests-told part op negated rights rows)

  test-told : (frame site : ℕ) (env : Environment) (p : Part) (cites : List ℕ) (v : Ref) → value_of before frame ≡ Some v → Framing e frame env → piece_at e.file site ≡ Some (OfPart p)
      → FollowsTest known before frame p cites Fail → part_fails world e.names calls env p ≡ part_entries last e.lines fails p (Some frame) cites
  test-told frame site env (test n any left op negated right message) (c ∷ cites) v has framing there (lefts, rights, gives, gives_right, is) =
      by (is_empty_test op && is_set left)
    where
      whole : Each (IsAt e.file) (pieces_part (test n any left op negated right message))
      whole = (found-whole e.file meant.ordered site (OfPart (test n any left op negated right message)) there).1

      both : Each (IsAt e.file) (pieces_query left) × Each (IsAt e.file) (pieces_opt_expr right)
      both = parted (IsAt e.file) (pieces_query left) (pieces_opt_expr right) whole.1

      lefts_seen : rows_of world e.names env left ≡ map (shown e) lefts
      lefts_seen = query-given e meant made before past frame env left c lefts framing both.0 gives

      rights_seen : rows_of_side world e.names env right ≡ map (shown e) rights
      rights_seen = (right-given e meant made before past frame env right cites rights framing both.1 gives_right).0

      lefts_cited : rows_cited last e.lines (c ∷ cites) 0 ≡ lefts
      lefts_cited = query-rows frame left c lefts gives

      rights_cited : rows_cited last e.lines (c ∷ cites) 1 ≡ rights
      rights_cited = right-rows frame right c cites rights gives_right

      by : (set : Bool)
          → (if set then set_fails n negated (current_of env) (rows_of world e.names env left)
          else test_fails n (location.passes world op negated (rows_of_side world e.names env right)) (rows_of world e.names env left))
          ≡ test_entries last e.lines n set negated (passes last op negated) (Some frame) (c ∷ cites)
      by true =
          ap₂ (λ (w : Location) (rs : List LocatedRow). set_fails n negated w rs) (sym (current-given frame v env has framing)) (lefts_seen ∙ sym (ap (map (shown e)) lefts_cited))
      by false =
          ap₂ (λ (ls rs : List LocatedRow). test_fails n (location.passes world op negated rs) ls) lefts_seen rights_seen
          ∙ tests-told n op negated rights lefts
          ∙ sym (ap₂ (λ (ls rs : List Row). flat_map (failed_row last e.lines n (passes last op negated rs)) ls) lefts_cited rights_cited)
  test-told frame site env p cites v has framing there h = absurd h

  -- ---- references and calls

  refer-told : (frame : ℕ) (env : Environment) (p : Part) (site : ℕ) (cites : List ℕ) (v : Ref) → value_of before frame ≡ Some v → Framing e frame env
      → FollowsAtPart e.version known before frame site kind.Refer p cites Fail → part_fails world e.names calls env p ≡ part_entries last e.lines fails p (Some frame) cites
  refer-told frame env (refer n negated name message) site cites v has framing h =
      ap (λ (w : Location). entry n IsRule w ∷ []) (sym (current-given frame v env has framing))
  refer-told frame env p site cites v has framing h = absurd h

  -- the body that a call names
  called-fails : (env : Environment) (args : Exprs) (t : Option ℕ) (b : Body) → option_and_then (λ rule. option_and_then body_of_rule (piece_at e.file rule)) t ≡ Some b
      → target_fails world e.names calls env args t ≡ body_fails world e.names calls (Called (current_of env) args env) b
  called-fails env args None b is = absurd (none-some b is)
  called-fails env args (Some m) b is = by (piece_at e.file m) is
    where
      by : (p : Option Piece) → option_and_then body_of_rule p ≡ Some b → piece_fails world e.names calls env args p ≡ body_fails world e.names calls (Called (current_of env) args env) b
      by (Some (OfRule r)) is = ap (body_fails world e.names calls (Called (current_of env) args env)) (same_Some r.body b is)
      by p is = absurd (none-some b is)

  call-told : (frame site : ℕ) (env : Environment) (p : Part) (cites : List ℕ) (v : Ref) → value_of before frame ≡ Some v → Framing e frame env → piece_at e.file site ≡ Some (OfPart p)
      → FollowsCall known before frame site p cites Fail → part_fails world e.names calls env p ≡ part_entries last e.lines fails p (Some frame) cites
  call-told frame site env (call n true name args message) (c ∷ []) v has framing there h =
      ap (λ (w : Location). entry n IsCall w ∷ []) (sym (current-given frame v env has framing))
  call-told frame site env (call n false name args message) (c ∷ []) v has framing there (b, at, u, said, called, is_frame, says_verdict, is) =
      let own = found-whole e.file meant.ordered site (OfPart (call n false name args message)) there in
      let some : args_at e.file site ≡ Some args = ap (option_and_then args_of_piece) there in
      let inside = called-is e meant made before past env args (target_of e.file site) b called in
      let inner : Framing e at (Called (seen e u) args env) = (frame, site, u, in-all e made before past at kind.Frame frame site (says.Value u) is_frame, some, refl, framing) in
      let fits : ValueFits e frame (Some (OfPart (call n false name args message))) u =
      subst (λ (p : Option Piece). ValueFits e frame p u) there (frame-value e meant made before past at frame site u is_frame) in
      let current : current_of env ≡ seen e u = fits env framing in
      let failed : SaysVerdict known before kind.Conj at (body_site b) c Fail = subst (λ (x : Verdict). SaysVerdict known before kind.Conj at (body_site b) c x) (sym is) says_verdict in
      obeyed env n args
      ∙ ap (λ (k : ℕ). target_fails world e.names calls env args (target_of e.file k)) own.0
      ∙ called-fails env args (target_of e.file site) b called
      ∙ ap (λ (w : Location). body_fails world e.names calls (Called w args env) b) current
      ∙ cited-told c kind.Conj at (body_site b) (Called (seen e u) args env) (Some (OfBody b)) failed inner (body-at e b inside.1)
      ∙ one-cited c kind.Conj at (body_site b) failed
  call-told frame site env p cites v has framing there h = absurd h

  -- ---- conditions and bodies

  guarded-told : (said : Verdict) (c : ℕ) (of : LineKind) (frame site : ℕ) (es : List Entry) (Inside : List ℕ → Verdict → Type 0) (cites : List ℕ) → SaysVerdict known before of frame site c said
      → (Inside cites Fail → es ≡ flat_map failing cites) → Guarded known before said Inside cites Fail → es ≡ flat_map failing (c ∷ cites)
  guarded-told Pass c of frame site es Inside cites is tells h = tells h ∙ sym (past-cited c cites of frame site is)
  guarded-told Fail c of frame site es Inside cites is tells h = absurd (skip-apart h.1)
  guarded-told Skip c of frame site es Inside cites is tells h = absurd (skip-apart h.1)

  under-told : (frame : ℕ) (c : Conds) (es : List Entry) (Inside : List ℕ → Verdict → Type 0) (cites : List ℕ) → ((cites : List ℕ) → Inside cites Fail → es ≡ flat_map failing cites)
      → Under known before frame c Inside cites Fail → es ≡ flat_map failing cites
  under-told frame c es Inside [] tells h = absurd h
  under-told frame c es Inside (n ∷ cites) tells (said, says_verdict, h) = guarded-told said n kind.Conj frame (conds_site c) es Inside cites says_verdict (tells cites) h

  under-some-told : (frame : ℕ) (o : OptConds) (es : List Entry) (Inside : List ℕ → Verdict → Type 0) (cites : List ℕ) → ((cites : List ℕ) → Inside cites Fail → es ≡ flat_map failing cites)
      → UnderSome known before frame o Inside cites Fail → es ≡ flat_map failing cites
  under-some-told frame no_conds es Inside cites tells h = tells cites h
  under-some-told frame (with_conds c) es Inside cites tells h = under-told frame c es Inside cites tells h

  when-told : (frame site n : ℕ) (env : Environment) (c : Conds) (b : Body) → Framing e frame env → piece_at e.file site ≡ Some (OfPart (guarded n c b)) → Each (IsAt e.file) (pieces_body b)
      → (cites : List ℕ) → FollowsBody known before frame b cites Fail → body_fails world e.names calls (Inner (current_of env) env) b ≡ flat_map failing cites
  when-told frame site n env c b framing there placed (k ∷ []) (v, says_body) =
      let fits : ValueFits e frame (Some (OfBody b)) v = body-value e meant made before past frame b v k Fail placed says_body in
      let current : current_of env ≡ seen e v = when-value e meant b site n c frame env v there framing fits in
      ap (λ (w : Location). body_fails world e.names calls (Inner w env) b) current
      ∙ body-fails-at frame env b v k framing placed says_body
      ∙ one-cited k kind.Conj says_body.0 (body_site b) says_body.2
  when-told frame site n env c b framing there placed cites h = absurd h

  rule-told : (frame site : ℕ) (r : Rule) → Framing e frame Top → piece_at e.file site ≡ Some (OfRule r) → Each (IsAt e.file) (pieces_body r.body)
      → (cites : List ℕ) → FollowsBody known before frame r.body cites Fail → body_fails world e.names calls (Inner root_location Top) r.body ≡ flat_map failing cites
  rule-told frame site r framing there placed (k ∷ []) (v, says_body) =
      let fits : ValueFits e frame (Some (OfBody r.body)) v = body-value e meant made before past frame r.body v k Fail placed says_body in
      let root : v ≡ root_ref = rule-value e meant r.body r site frame v refl there fits in
      ap (λ (w : Ref). body_fails world e.names calls (Inner (seen e w) Top) r.body) (sym root)
      ∙ body-fails-at frame Top r.body v k framing placed says_body
      ∙ one-cited k kind.Conj says_body.0 (body_site r.body) says_body.2
  rule-told frame site r framing there placed cites h = absurd h

  loose-told : (frame : ℕ) (env : Environment) (ds : Disjs) (cites : List ℕ) → Framing e frame env → FollowsLoose known before frame ds cites Fail
      → disjs_fails world e.names calls env e.file.loose ≡ flat_map failing cites
  loose-told frame env (more_disjs d ds) (k ∷ []) framing h =
      cited-told k kind.Conj frame 0 env (Some OfFile) h framing meant.ordered.0 ∙ one-cited k kind.Conj frame 0 h
  loose-told frame env ds cites framing h = absurd h

  -- ---- blocks

  block-told : (frame site : ℕ) (env : Environment) (n : ℕ) (any : Bool) (head : Query) (b : Body) (cites : List ℕ) → Framing e frame env → piece_at e.file site ≡ Some (OfPart (block n any head b))
      → FollowsBlock known before frame any (block_stop any e.version) head b cites Fail
      → flat_map (block_row_fails n (row_fails env b)) (rows_of world e.names env head) ≡ block_entries last e.lines fails n cites
  block-told frame site env n any head b [] framing there h = absurd h
  block-told frame site env n any head b (k ∷ cites) framing there (rows, gives, (verdicts, say, is)) =
      let whole = found-whole e.file meant.ordered site (OfPart (block n any head b)) there in
      let both = parted (IsAt e.file) (pieces_query head) (pieces_body b) whole.1.1 in
      ap (flat_map (block_row_fails n (row_fails env b))) (query-given e meant made before past frame env head k rows framing both.0 gives)
      ∙ bodies-told frame env (block_stop any e.version) b n rows cites verdicts framing both.1 say (block-goes any e.version verdicts is)
      ∙ sym (ap (λ (rs : List Row). rows_entries last e.lines fails n rs cites) (query-rows frame head k rows gives))

  typed-told : (frame site n : ℕ) (env : Environment) (name : List ℕ) (o : OptConds) (b : Body) (cites : List ℕ) → Framing e frame env → piece_at e.file site ≡ Some (OfPart (kinds n name o b))
      → Each (IsAt e.file) (pieces_body b) → FollowsTyped known before frame site b cites Fail
      → flat_map (block_row_fails n (row_fails env b)) (location.rows_of_type world name (current_of env)) ≡ block_entries last e.lines fails n cites
  typed-told frame site n env name o b [] framing there placed h = absurd h
  typed-told frame site n env name o b (k ∷ cites) framing there placed (rows, is, (verdicts, say, verdict_is)) =
      let types : location.rows_of_type world name (current_of env) ≡ map (shown e) rows =
      same_Some (location.rows_of_type world name (current_of env)) (map (shown e) rows)
      (ap (line_rows world e.names env kind.Types) (sym there) ∙ rows-cited e meant made before past k kind.Types frame site rows env is framing) in
      ap (flat_map (block_row_fails n (row_fails env b))) types
      ∙ bodies-told frame env None b n rows cites verdicts framing placed say (none-decides verdicts)
      ∙ sym (ap (λ (rs : List Row). rows_entries last e.lines fails n rs cites) (rows-given k kind.Types frame site rows is))

  typed-under : (said : Verdict) (cites : List ℕ) (xs ys : List Entry) (Inside : List ℕ → Verdict → Type 0) → (Inside cites Fail → xs ≡ ys) → Guarded known before said Inside cites Fail → xs ≡ ys
  typed-under Pass cites xs ys Inside tells h = tells h
  typed-under Fail cites xs ys Inside tells h = absurd (skip-apart h.1)
  typed-under Skip cites xs ys Inside tells h = absurd (skip-apart h.1)

  kinds-told : (frame site n : ℕ) (env : Environment) (name : List ℕ) (o : OptConds) (b : Body) (cites : List ℕ) → Framing e frame env → piece_at e.file site ≡ Some (OfPart (kinds n name o b))
      → Each (IsAt e.file) (pieces_body b) → UnderSome known before frame o (FollowsTyped known before frame site b) cites Fail
      → flat_map (block_row_fails n (row_fails env b)) (location.rows_of_type world name (current_of env)) ≡ block_entries last e.lines fails n (behind_conds o cites)
  kinds-told frame site n env name no_conds b cites framing there placed h = typed-told frame site n env name no_conds b cites framing there placed h
  kinds-told frame site n env name (with_conds c) b [] framing there placed h = absurd h
  kinds-told frame site n env name (with_conds c) b (k ∷ cites) framing there placed (said, says_verdict, h) =
      typed-under said cites _ _ (FollowsTyped known before frame site b) (typed-told frame site n env name (with_conds c) b cites framing there placed) h

  part-told : (frame site : ℕ) (env : Environment) (of : LineKind) (p : Part) (cites : List ℕ) (v : Ref) → value_of before frame ≡ Some v → Framing e frame env → piece_at e.file site ≡ Some (OfPart p)
      → FollowsAtPart e.version known before frame site of p cites Fail → part_fails world e.names calls env p ≡ part_entries last e.lines fails p (Some frame) cites
  part-told frame site env kind.Test p cites v has framing there h = test-told frame site env p cites v has framing there h
  part-told frame site env kind.Refer p cites v has framing there h = refer-told frame env p site cites v has framing h
  part-told frame site env kind.Call p cites v has framing there h = call-told frame site env p cites v has framing there h
  part-told frame site env kind.When (guarded n c b) cites v has framing there h =
      let whole = found-whole e.file meant.ordered site (OfPart (guarded n c b)) there in
      let both = parted (IsAt e.file) (pieces_conds c) (pieces_body b) whole.1.1 in
      under-told frame c (body_fails world e.names calls (Inner (current_of env) env) b) (FollowsBody known before frame b) cites (when-told frame site n env c b framing there both.1) h
  part-told frame site env kind.Block (block n any head b) cites v has framing there h = block-told frame site env n any head b cites framing there h
  part-told frame site env kind.Kinds (kinds n name o b) cites v has framing there h =
      let whole = found-whole e.file meant.ordered site (OfPart (kinds n name o b)) there in
      let both = parted (IsAt e.file) (pieces_opt_conds o) (pieces_body b) whole.1.1 in
      kinds-told frame site n env name o b cites framing there both.1 h
  part-told frame site env of p cites v has framing there h = absurd h

  -- ---- lines that say FAIL

  pub fail-told : (frame site : ℕ) (env : Environment) (of : LineKind) (p : Option Piece) (cites : List ℕ) (v : Ref) → value_of before frame ≡ Some v → Framing e frame env → piece_at e.file site ≡ p
      → FollowsVerdict e.version (store_of e made) before frame site of p cites Fail
      → EntriesOf e calls env p (piece_entries (last_store e) e.lines (line_fails (last_store e) e.lines most) p (Some frame) cites)
  fail-told frame site env kind.Rule (Some (OfRule r)) cites v has framing there (file, new, (plain, follows)) =
      let whole = found-whole e.file meant.ordered site (OfRule r) there in
      let both = parted (IsAt e.file) (pieces_opt_conds r.cond) (pieces_body r.body) whole.1.1 in
      let top : Framing e frame Top = file-framing e meant made before past frame file in
      under-some-told frame r.cond (body_fails world e.names calls (Inner root_location Top) r.body) (FollowsBody known before frame r.body) cites (rule-told frame site r top there both.1) follows
  fail-told frame site env kind.Rule (Some OfFile) cites v has framing there (file, new, follows) = loose-told frame env e.file.loose cites framing follows
  fail-told frame site env kind.Conj (Some (OfBody (body n lets ds))) cites v has framing there (verdicts, say, is) =
      let whole = found-whole e.file meant.ordered site (OfBody (body n lets ds)) there in
      let both = parted (IsAt e.file) (pieces_lets lets) (pieces_disjs ds) whole.1.1 in
      disjs-told frame env ds cites verdicts framing both.1 say
  fail-told frame site env kind.Conj (Some (OfConds (conds n ds))) cites v has framing there h = tt
  fail-told frame site env kind.Conj (Some OfFile) cites v has framing there (verdicts, say, is) =
      disjs-told frame env e.file.loose cites verdicts framing (loose-there e.file meant.ordered) say
  fail-told frame site env kind.Disj (Some (OfDisj (disj n parts))) cites v has framing there (verdicts, say, is) =
      let whole = found-whole e.file meant.ordered site (OfDisj (disj n parts)) there in
      parts-told frame env (disj_stop e.version) parts cites verdicts framing whole.1.1 say (disj-goes e.version verdicts is)
  fail-told frame site env of (Some (OfPart p)) cites v has framing there h = part-told frame site env of p cites v has framing there h
  fail-told frame site env of p cites v has framing there h = absurd h

  pub rule-framed : (frame site : ℕ) (p : Option Piece) (cites : List ℕ) → FollowsVerdict e.version (store_of e made) before frame site kind.Rule p cites Fail → Framing e frame Top
  rule-framed frame site (Some (OfRule r)) cites (file, new, follows) = file-framing e meant made before past frame file
  rule-framed frame site (Some OfFile) cites (file, new, follows) = file-framing e meant made before past frame file
  rule-framed frame site p cites h = absurd h

-- a frame that stands for a scope has a value
pub valued : (e : Evidence) (made : List Made) (before : List Line) (past : Past e made before) (frame scope : ℕ) → scope_of e.file before frame ≡ Some scope
    → (v : Ref) × (value_of before frame ≡ Some v)
valued e made before past frame scope is = by (line_of before frame) refl is
  where
    by-kind : (l : Line) → (of : LineKind) → IsFramed e l of → scope_by e.file of l.site ≡ Some scope → (v : Ref) × (value_said l.outcome ≡ Some v)
    by-kind l kind.File framed scoped = (root_ref, ap value_said framed)
    by-kind l kind.Frame framed scoped = (framed.2, ap value_said framed.6)
    by-kind l _ framed scoped = absurd (none-some scope scoped)

    by : (o : Option Line) → line_of before frame ≡ o → option_and_then (λ (l : Line). scope_by e.file l.kind l.site) o ≡ Some scope
        → (v : Ref) × (value_of before frame ≡ Some v)
    by None none is = absurd (none-some scope is)
    by (Some l) there is =
        let h = by-kind l l.kind (past.framed frame l there) is in
        (h.0, ap (option_and_then (λ (x : Line). value_said x.outcome)) there ∙ h.1)
