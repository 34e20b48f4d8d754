-- A body is FAIL exactly where it fails by some entry.
use Rattle.std.proofs.Common.{◌≡◌, ◌≢◌, ℕ, zero, suc, Bool, true, false, List, [], ◌∷◌, ◌++◌, Option, Some, None, map, refl, sym, ap, ◌∙◌, if◌then◌else◌}
use Rattle.std.specs.Prelude.{◌||◌, ◌&&◌, ◌↔◌, not}
use Rattle.std.specs.List.{flat_map, list_all, list_any}
use Rattle.std.proofs.lemmas.Bool.{true≢false}
use Rattle.guard_syntax.specs.Syntax.{Rule, Body, Disjs, Disj, Parts, Part, Exprs, body, no_disjs, more_disjs, disj, no_parts, more_parts, block, guarded, kinds, test, refer, call}
use Rattle.guard_syntax.specs.declared.row.Verdict.{Verdict}
use Rattle.guard_syntax.specs.declared.row.Verdict.TheVariants.{Pass, Fail, Skip}
use Rattle.rule_names.specs.Depths.{depth_limit}
use Rattle.rule_names.specs.Resolution.{target_of}
use Rattle.rule_names.specs.Pieces.{Piece, OfFile, OfLet, OfRule, OfBody, OfConds, OfDisj, OfPart, OfQuery, OfStep, OfExpr, piece_at}
use Rattle.rule_meaning.specs.Fails.{Entry, Calls, IsRows, entry, missing_row, tested_row, test_fails, first_or, found_row, set_fails, block_row_fails, body_fails, disjs_fails, disj_fails, parts_fails, part_fails, piece_fails, target_fails, calls_by, rule_fails, loose_fails}
use Rattle.rule_meaning.specs.SetTests.{is_empty_test, is_set}
use Rattle.rule_meaning.specs.Environments.{Environment, Top, Inner, Called, current_of}
use Rattle.rule_meaning.specs.Meaning.{Names, rows_of, rows_of_side, body_verdict, conds_verdict, opt_conds_verdict, disj_verdicts, disj_verdict, part_verdicts, part_verdict}
use Rattle.rule_meaning.specs.StepMeaning.{passes, rows_of_type}
use Rattle.rule_meaning.specs.NameMeaning.{unfolded, piece_called, target_called, rule_by, rule_verdict, loose_verdict}
use Rattle.rule_meaning.specs.VerdictMeaning.{test_verdict, set_verdict, block_row}
use Rattle.rule_meaning.specs.Locations.{Location, LocatedRow, Found, Missing, Unmade, World, is_found, root_location}
use Rattle.rule_meaning.specs.Verdicts.{is_pass, is_fail, pass_if, conjunction, disjunction, block_verdict}

-- whether there are entries
abbrev has_entries : List Entry → Bool
has_entries [] = false
has_entries (e ∷ es) = true

contrary : {X : Type 0} → false ≡ true → X
contrary h = absurd (true≢false (sym h))

-- there are entries in one of two lists
in-first : (es fs : List Entry) → has_entries es ≡ true → has_entries (es ++ fs) ≡ true
in-first [] fs h = contrary h
in-first (e ∷ es) fs h = refl

in-second : (es fs : List Entry) → has_entries fs ≡ true → has_entries (es ++ fs) ≡ true
in-second [] fs h = h
in-second (e ∷ es) fs h = refl

in-either : (a b : Bool) (es fs : List Entry) → (a ≡ true → has_entries es ≡ true) → (b ≡ true → has_entries fs ≡ true) → (a || b) ≡ true → has_entries (es ++ fs) ≡ true
in-either true b es fs first second h = in-first es fs (first refl)
in-either false b es fs first second h = in-second es fs (second h)

-- the entries of what is failing, in front of others
those-if : (b : Bool) (es : List Entry) → (b ≡ true → has_entries es ≡ true) → has_entries (if b then es else []) ≡ b
those-if true es h = h refl
those-if false es h = refl

joined-entries : (a b : Bool) (es fs : List Entry) → has_entries es ≡ a → has_entries fs ≡ b → has_entries (es ++ fs) ≡ (a || b)
joined-entries a b [] fs first second = second ∙ ap (λ x. x || b) first
joined-entries a b (e ∷ es) fs first second = ap (λ x. x || b) first

-- which parts are failing
one-of-all : (fails passes : Bool) → is_fail (if fails then Fail else (if passes then Pass else Skip)) ≡ fails
one-of-all true passes = refl
one-of-all false true = refl
one-of-all false false = refl

one-of-any : (passes fails : Bool) → is_fail (if passes then Pass else (if fails then Fail else Skip)) ≡ true → fails ≡ true
one-of-any true fails h = contrary h
one-of-any false true h = refl
one-of-any false false h = contrary h

in-conjunction : (vs : List Verdict) → is_fail (conjunction vs) ≡ list_any is_fail vs
in-conjunction vs = one-of-all (list_any is_fail vs) (list_any is_pass vs)

in-disjunction : (vs : List Verdict) → is_fail (disjunction vs) ≡ true → list_any is_fail vs ≡ true
in-disjunction vs h = one-of-any (list_any is_pass vs) (list_any is_fail vs) h

in-block : (any : Bool) (vs : List Verdict) → is_fail (block_verdict any vs) ≡ true → list_any is_fail vs ≡ true
in-block true vs h = in-disjunction vs h
in-block false vs h = sym (in-conjunction vs) ∙ h

under-conditions : (holds : Bool) (v : Verdict) → is_fail (if holds then v else Skip) ≡ true → is_fail v ≡ true
under-conditions true v h = h
under-conditions false v h = contrary h

not-passing : (b : Bool) → is_fail (pass_if b) ≡ true → b ≡ false
not-passing true h = contrary h
not-passing false h = refl

passing-not : (b : Bool) → is_fail (pass_if (not b)) ≡ true → b ≡ true
passing-not true h = refl
passing-not false h = contrary h

-- rows of a test
tested-entries : (site : ℕ) (row : LocatedRow) → has_entries (tested_row site row) ≡ true
tested-entries site (Found v) = refl
tested-entries site (Missing v step) = refl
tested-entries site (Unmade function) = refl

one-test : (holds rest : Bool) (es fs : List Entry) → has_entries es ≡ true → (rest ≡ false → has_entries fs ≡ true) → (holds && rest) ≡ false → has_entries ((if holds then [] else es) ++ fs) ≡ true
one-test true rest es fs first second h = second h
one-test false rest es fs first second h = in-first es fs first

tests-entries : (site : ℕ) (holds : LocatedRow → Bool) (rows : List LocatedRow) → list_all holds rows ≡ false → has_entries (test_fails site holds rows) ≡ true
tests-entries site holds [] h = absurd (true≢false h)
tests-entries site holds (row ∷ rows) h =
    one-test (holds row) (list_all holds rows) (tested_row site row) (test_fails site holds rows) (tested-entries site row) (tests-entries site holds rows) h

none-then-not-all : (a b c : Bool) → (a || b) ≡ false → (a && c) ≡ false
none-then-not-all true b c h = absurd (true≢false h)
none-then-not-all false b c h = refl

test-entries : (site : ℕ) (any : Bool) (holds : LocatedRow → Bool) (rows : List LocatedRow) → is_fail (test_verdict any holds rows) ≡ true → has_entries (test_fails site holds rows) ≡ true
test-entries site any holds [] h = contrary h
test-entries site true holds (row ∷ rows) h =
    tests-entries site holds (row ∷ rows) (none-then-not-all (holds row) (list_any holds rows) (list_all holds rows) (not-passing (list_any holds (row ∷ rows)) h))
test-entries site false holds (row ∷ rows) h = tests-entries site holds (row ∷ rows) (not-passing (list_all holds (row ∷ rows)) h)

-- rows of a set
found-entries : (site : ℕ) (rows : List LocatedRow) → list_any is_found rows ≡ true → has_entries (flat_map (found_row site) rows) ≡ true
found-entries site [] h = contrary h
found-entries site (Found v ∷ rows) h = refl
found-entries site (Missing v step ∷ rows) h = found-entries site rows h
found-entries site (Unmade function ∷ rows) h = found-entries site rows h

first-entries : (e : Entry) (es : List Entry) → has_entries (first_or e es) ≡ true
first-entries e [] = refl
first-entries e (f ∷ es) = refl

set-entries : (site : ℕ) (negated : Bool) (current : Location) (rows : List LocatedRow) → is_fail (set_verdict negated rows) ≡ true → has_entries (set_fails site negated current rows) ≡ true
set-entries site true current rows h = first-entries (entry site IsRows current) (flat_map (missing_row site) rows)
set-entries site false current rows h = found-entries site rows (passing-not (list_any is_found rows) h)

of-two : (b : Bool) (v w : Verdict) (es fs : List Entry) → (is_fail v ≡ true → has_entries es ≡ true) → (is_fail w ≡ true → has_entries fs ≡ true)
    → is_fail (if b then v else w) ≡ true → has_entries (if b then es else fs) ≡ true
of-two true v w es fs first second h = first h
of-two false v w es fs first second h = second h

-- rows of a block
block-entries : (site : ℕ) (f : Location → Verdict) (g : Location → List Entry) → ((v : Location) → is_fail (f v) ≡ true → has_entries (g v) ≡ true) → (rows : List LocatedRow)
    → list_any is_fail (map (block_row f) rows) ≡ true → has_entries (flat_map (block_row_fails site g) rows) ≡ true
block-entries site f g each [] h = contrary h
block-entries site f g each (Found v ∷ rows) h =
    in-either (is_fail (f v)) (list_any is_fail (map (block_row f) rows)) (g v) (flat_map (block_row_fails site g) rows) (each v) (block-entries site f g each rows) h
block-entries site f g each (Missing v step ∷ rows) h = refl
block-entries site f g each (Unmade function ∷ rows) h = refl

module _ (world : World) (names : Names) (calls : Calls)
    (called : (env : Environment) (site : ℕ) (args : Exprs) → is_fail (names.called env site args) ≡ true → has_entries (calls env site args) ≡ true) where
  -- at a value, by a body
  inner-entries : (env : Environment) (inner : Body)
      → ((v : Location) → has_entries (body_fails world names calls (Inner v env) inner) ≡ is_fail (body_verdict world names (Inner v env) inner))
      → (v : Location) → is_fail (body_verdict world names (Inner v env) inner) ≡ true
      → has_entries (if is_fail (body_verdict world names (Inner v env) inner) then body_fails world names calls (Inner v env) inner else []) ≡ true
  inner-entries env inner same v h =
      those-if (is_fail (body_verdict world names (Inner v env) inner)) (body_fails world names calls (Inner v env) inner) (λ is. same v ∙ is) ∙ h

  mutual
    pub body-entries : (env : Environment) (b : Body) → has_entries (body_fails world names calls env b) ≡ is_fail (body_verdict world names env b)
    body-entries env (body site lets ds) = disjs-entries env ds ∙ sym (in-conjunction (disj_verdicts world names env ds))

    pub disjs-entries : (env : Environment) (ds : Disjs) → has_entries (disjs_fails world names calls env ds) ≡ list_any is_fail (disj_verdicts world names env ds)
    disjs-entries env no_disjs = refl
    disjs-entries env (more_disjs d ds) =
        let fails = is_fail (disj_verdict world names env d) in
        let es = disj_fails world names calls env d in
        joined-entries fails (list_any is_fail (disj_verdicts world names env ds)) (if fails then es else []) (disjs_fails world names calls env ds)
        (those-if fails es (disj-entries env d)) (disjs-entries env ds)

    disj-entries : (env : Environment) (d : Disj) → is_fail (disj_verdict world names env d) ≡ true → has_entries (disj_fails world names calls env d) ≡ true
    disj-entries env (disj site ps) h = parts-entries env ps ∙ in-disjunction (part_verdicts world names env ps) h

    parts-entries : (env : Environment) (ps : Parts) → has_entries (parts_fails world names calls env ps) ≡ list_any is_fail (part_verdicts world names env ps)
    parts-entries env no_parts = refl
    parts-entries env (more_parts p ps) =
        let fails = is_fail (part_verdict world names env p) in
        let es = part_fails world names calls env p in
        joined-entries fails (list_any is_fail (part_verdicts world names env ps)) (if fails then es else []) (parts_fails world names calls env ps)
        (those-if fails es (part-entries env p)) (parts-entries env ps)

    part-entries : (env : Environment) (p : Part) → is_fail (part_verdict world names env p) ≡ true → has_entries (part_fails world names calls env p) ≡ true
    part-entries env (block site any head inner) h =
        let f : Location → Verdict = λ v. body_verdict world names (Inner v env) inner in
        let rows = rows_of world names env head in
        block-entries site f (λ v. if is_fail (f v) then body_fails world names calls (Inner v env) inner else []) (inner-entries env inner (λ v. body-entries (Inner v env) inner)) rows
        (in-block any (map (block_row f) rows) h)
    part-entries env (guarded site conditions inner) h =
        let v = body_verdict world names (Inner (current_of env) env) inner in
        body-entries (Inner (current_of env) env) inner ∙ under-conditions (is_pass (conds_verdict world names env conditions)) v h
    part-entries env (kinds site name conditions inner) h =
        let f : Location → Verdict = λ v. body_verdict world names (Inner v env) inner in
        let rows = rows_of_type world name (current_of env) in
        let vs = map (block_row f) rows in
        block-entries site f (λ v. if is_fail (f v) then body_fails world names calls (Inner v env) inner else []) (inner-entries env inner (λ v. body-entries (Inner v env) inner)) rows
        (sym (in-conjunction vs) ∙ under-conditions (is_pass (opt_conds_verdict world names env conditions)) (conjunction vs) h)
    part-entries env (test site any left o negated right message) h =
        let rows = rows_of world names env left in
        let holds = passes world o negated (rows_of_side world names env right) in
        of-two (is_empty_test o && is_set left) (set_verdict negated rows) (test_verdict any holds rows)
        (set_fails site negated (current_of env) rows) (test_fails site holds rows)
        (set-entries site negated (current_of env) rows) (test-entries site any holds rows) h
    part-entries env (refer site negated name message) h = refl
    part-entries env (call site true name args message) h = refl
    part-entries env (call site false name args message) h = called env site args h

  -- the body of a called rule, and of none
  piece-entries : (env : Environment) (args : Exprs) (p : Option Piece) → is_fail (piece_called world names env args p) ≡ true
      → has_entries (piece_fails world names calls env args p) ≡ true
  piece-entries env args None h = contrary h
  piece-entries env args (Some OfFile) h = contrary h
  piece-entries env args (Some (OfLet l)) h = contrary h
  piece-entries env args (Some (OfRule r)) h = body-entries (Called (current_of env) args env) r.body ∙ h
  piece-entries env args (Some (OfBody x)) h = contrary h
  piece-entries env args (Some (OfConds c)) h = contrary h
  piece-entries env args (Some (OfDisj d)) h = contrary h
  piece-entries env args (Some (OfPart p)) h = contrary h
  piece-entries env args (Some (OfQuery q)) h = contrary h
  piece-entries env args (Some (OfStep q i)) h = contrary h
  piece-entries env args (Some (OfExpr e)) h = contrary h

  pub target-entries : (env : Environment) (args : Exprs) (target : Option ℕ) → is_fail (target_called world names env args target) ≡ true
      → has_entries (target_fails world names calls env args target) ≡ true
  target-entries env args None h = contrary h
  target-entries env args (Some site) h = piece-entries env args (piece_at world.file site) h

-- what a call fails by, by so many unfoldings
calls-entries : (world : World) (n : ℕ) (env : Environment) (site : ℕ) (args : Exprs)
    → is_fail ((unfolded world n).called env site args) ≡ true → has_entries (calls_by world n env site args) ≡ true
calls-entries world zero env site args h = contrary h
calls-entries world (suc n) env site args h = target-entries world (unfolded world n) (calls_by world n) (calls-entries world n) env args (target_of world.file site) h

-- the same said of verdicts
failing-is : (v : Verdict) → is_fail v ≡ true → v ≡ Fail
failing-is Pass h = contrary h
failing-is Fail h = refl
failing-is Skip h = contrary h

some-entries : (es : List Entry) → has_entries es ≡ true → es ≢ []
some-entries es h none = contrary (sym (ap has_entries none) ∙ h)

no-entries : (es : List Entry) → (es ≢ []) → has_entries es ≡ true
no-entries [] h = absurd (h refl)
no-entries (e ∷ es) h = refl

exactly : (v : Verdict) (es : List Entry) → has_entries es ≡ is_fail v → (v ≡ Fail) ↔ (es ≢ [])
exactly v es same = (λ fails. some-entries es (same ∙ ap is_fail fails), λ some. failing-is v (sym same ∙ no-entries es some))

pub bodies-fail : (world : World) (n : ℕ) (env : Environment) (b : Body)
    → (body_verdict world (unfolded world n) env b ≡ Fail) ↔ (body_fails world (unfolded world n) (calls_by world n) env b ≢ [])
bodies-fail world n env b =
    exactly (body_verdict world (unfolded world n) env b) (body_fails world (unfolded world n) (calls_by world n) env b)
    (body-entries world (unfolded world n) (calls_by world n) (calls-entries world n) env b)

rules-by : (world : World) (n : ℕ) (r : Rule) → rule_by world (unfolded world n) r ≡ Fail
    → body_fails world (unfolded world n) (calls_by world n) (Inner root_location Top) r.body ≢ []
rules-by world n r fails =
    let v = body_verdict world (unfolded world n) (Inner root_location Top) r.body in
    (bodies-fail world n (Inner root_location Top) r.body).0
    (failing-is v (under-conditions (is_pass (opt_conds_verdict world (unfolded world n) Top r.cond)) v (ap is_fail fails)))

pub rules-fail : (world : World) (r : Rule) → rule_verdict world r ≡ Fail → rule_fails world r ≢ []
rules-fail world r = rules-by world depth_limit r

loose-by : (world : World) (n : ℕ) (loose : Disjs)
    → (conjunction (disj_verdicts world (unfolded world n) Top loose) ≡ Fail) ↔ (disjs_fails world (unfolded world n) (calls_by world n) Top loose ≢ [])
loose-by world n loose =
    exactly (conjunction (disj_verdicts world (unfolded world n) Top loose)) (disjs_fails world (unfolded world n) (calls_by world n) Top loose)
    (disjs-entries world (unfolded world n) (calls_by world n) (calls-entries world n) Top loose ∙ sym (in-conjunction (disj_verdicts world (unfolded world n) Top loose)))

pub loose-fail : (world : World) (loose : Disjs) → (loose_verdict world loose ≡ Fail) ↔ (loose_fails world loose ≢ [])
loose-fail world loose = loose-by world depth_limit loose
