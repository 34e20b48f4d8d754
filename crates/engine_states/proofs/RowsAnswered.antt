-- What expressions, calls of functions and queries answer, by what is evaluated for them.
use Rattle.std.proofs.Common.{◌≡◌, ℕ, zero, suc, ◌+◌, ◌<◌, ◌≤◌, Bool, true, false, refl, sym, ap, ◌∙◌, subst, arith, List, [], ◌∷◌, length, map, take, get_or, filter, Some, None, ◌&&◌, ◌++◌, if◌then◌else◌}
use Rattle.std.specs.List.{list_all}
use Rattle.std.specs.declared.alloc.Global.{Global}
use Rattle.std.specs.declared.vec.Vec.{Vec}
use Rattle.std.proofs.lemmas.Bool.{and_from}
use Rattle.std.proofs.lemmas.List.{take_all}
use Rattle.evidence_lines.specs.declared.line.Line.{Line}
use Rattle.evidence_lines.specs.declared.line.LineKind.TheVariants as kind
use Rattle.evidence_lines.specs.declared.line.Outcome.TheVariants as says
use Rattle.guard_syntax.specs.Syntax.{Expr, File, Query, Step, found, function, query}
use Rattle.guard_syntax.specs.code.Queries.{Begins}
use Rattle.guard_syntax.specs.code.Seen.{expr_list, see_expr, see_query, see_step, step_list}
use Rattle.guard_syntax.specs.declared.row.Row.{Row}
use Rattle.guard_syntax.specs.declared.syntax.Expr as code
use Rattle.guard_syntax.specs.declared.syntax.Query as code_query
use Rattle.guard_syntax.specs.declared.syntax.Query.{out-Query}
use Rattle.guard_syntax.specs.declared.syntax.Step as item
use Rattle.rule_names.specs.EnclosingScopes.{home_of}
use Rattle.rule_names.specs.Pieces.{AreInOrder, OfExpr, OfStep, Sited}
use Rattle.rule_names.specs.ReferenceGraph.{step_site}
use Rattle.rule_names.specs.Uses.{query_site}
use Rattle.rule_names.proofs.Shapes.{function-seen, query-seen}
use Rattle.rule_meaning.specs.Places.{step_in, steps_in}
use Rattle.rule_meaning.specs.StoreModel.{is_known}
use Rattle.rule_meaning.specs.Verdicts.{is_found}
use Rattle.evidence_rules.specs.CitedLines.{GiveArgs, GivesQuery, GivesStep, last_step}
use Rattle.engine_states.specs.code.Adding.{Added, Adds}
use Rattle.engine_states.specs.code.Answers.{AnswersArgs, AnswersExpr, AnswersQuery, AnswersRows, AnswersStepAt, AreGiven, GivesAsked, IsCall, SaysRows, StandsIn, StandsUpTo, above}
use Rattle.engine_states.specs.code.Falling.{height_at}
use Rattle.engine_states.specs.code.Inside.{IsInside, expr_sited, query_sited}
use Rattle.engine_states.specs.code.States.{IsWhole, State}
use Rattle.engine_states.proofs.AddsLines.{adds-found}
use Rattle.engine_states.proofs.Evaluating.{Evaluates-none, Evaluates-under}
use Rattle.engine_states.proofs.Finished.{added-answer, line-there, rows-told}
use Rattle.engine_states.proofs.InPart.{absent-still, all-cited, lower-first, lower-inside, stands-first, stands-inside, stands-still}
use Rattle.engine_states.proofs.InTurn.{SaidFor, args-next}
use Rattle.engine_states.proofs.Insides.{expr-at, insides}
use Rattle.engine_states.proofs.KnownLines.{query-known}
use Rattle.engine_states.proofs.Ranks.{rank_in, rank-below, rank-on, step_place}
use Rattle.engine_states.proofs.StepsInTurn.{place-of-step, step-inside, step-there}

-- ---- expressions, as one of their forms

module _ (a : State) (frame : ℕ) (x : code.Expr) (y : Expr) (seen : see_expr x ≡ y) where
  pub stands-as : StandsIn a frame (expr_sited (see_expr x)) → StandsIn a frame (expr_sited y)
  stands-as stands = subst (λ (e : Expr). StandsIn a frame (expr_sited e)) seen stands

  pub answers-as : (b : State) (number : ℕ) → AnswersExpr a b frame y number → AnswersExpr a b frame (see_expr x) number
  answers-as b number it = subst (λ (e : Expr). AnswersExpr a b frame e number) (sym seen) it

  pub rank-as : (next t : ℕ) → rank_in a frame (expr_sited (see_expr x)).0 5 ≡ t → next < 5 → rank_in a frame (expr_sited y).0 next < t
  rank-as next t owed less =
      let same : height_at a.known.file a.frames frame (expr_sited (see_expr x)).0 ≡ height_at a.known.file a.frames frame (expr_sited y).0 =
      ap (λ (e : Expr). height_at a.known.file a.frames frame (expr_sited e).0) seen in
      rank-on a a frame frame (expr_sited (see_expr x)).0 (expr_sited y).0 5 next t owed (omega (arith, same)) less

-- a function, with its arguments
pub function-form : (x : code.Expr) (n : ℕ) (name : List ℕ) (args : Vec code.Expr Global) (xs : List code.Expr) → x ≡ code.Function n name args → xs ≡ args.items
    → see_expr x ≡ function n name (expr_list (map see_expr xs))
function-form x n name args xs is are = ap see_expr is ∙ function-seen n name args ∙ ap (λ (es : List code.Expr). function n name (expr_list (map see_expr es))) (sym are)

-- ---- the rows that a query gives, those that were found

pub query-says : (file : File) (lines : List Line) (at : ℕ) (q : Query) (number : ℕ) (rows : List Row) → GivesQuery file lines at q number rows → SaysRows lines number rows
query-says file lines at (query n ss) number rows gives = (_, at, step_site gives.0, gives.2)

kept-one : (p : Row → Bool) (r : Row) (keep : Bool) (rows : List Row) → p r ≡ true → list_all p rows ≡ true → list_all p (if keep then r ∷ rows else rows) ≡ true
kept-one p r true rows one all = and_from _ _ one all
kept-one p r false rows one all = all

both-true : (x y : Bool) → (x && y) ≡ true → (x ≡ true) × (y ≡ true)
both-true true y e = (refl, e)
both-true false y e = absurd cc

kept-known : (p q : Row → Bool) (rows : List Row) → list_all p rows ≡ true → list_all p (filter q rows) ≡ true
kept-known p q [] all = refl
kept-known p q (r ∷ rows) all =
    let both = both-true (p r) (list_all p rows) all in
    kept-one p r (q r) (filter q rows) both.0 (kept-known p q rows both.1)

module _ (a : State) (whole : IsWhole a) (ordered : AreInOrder a.known.file) (frame site : ℕ) (q : Query) (stands : StandsIn a frame (site, OfExpr (found site q))) where
  asked-inside : IsInside a.known.file site (OfExpr (found site q)) (query_sited q)
  asked-inside = (insides a.known.file ordered site (OfExpr (found site q)) stands.there).0

  pub asked-stands : StandsIn a frame (query_sited q)
  asked-stands = stands-first a whole frame (site, OfExpr (found site q)) stands (query_sited q) asked-inside refl

  asked-lower : height_at a.known.file a.frames frame (query_site q) < height_at a.known.file a.frames frame site
  asked-lower = lower-first a whole frame (site, OfExpr (found site q)) stands (query_sited q) asked-inside ordered refl

  pub asked-rank : (t : ℕ) → rank_in a frame site 0 ≡ t → rank_in a frame (query_site q) 4 < t
  asked-rank t owed = rank-below a a frame frame site (query_site q) 0 4 t owed asked-lower (omega arith)

  module _ (b : State) (line : ℕ) (it : AnswersQuery a b frame q line) where
    pub found-absent : a.parts frame site ≡ None → b.parts frame site ≡ None
    found-absent none =
        let low = asked-lower in
        absent-still a whole frame (site, OfExpr (found site q)) stands b (above a frame (query_site q)) (line ∷ []) it.evaluates (omega (arith, low)) none

    pub found-stands : StandsIn b frame (site, OfExpr (found site q))
    found-stands = stands-still a whole frame (site, OfExpr (found site q)) stands b (above a frame (query_site q)) (line ∷ []) it.evaluates

    -- what is asked for of the line that is added
    pub found-asks : GivesAsked b frame site line
    found-asks = (q, found-stands, it.at, it.framed, it.says.0, it.says.1)

    pub found-answer : (c : State) (rows : List Row) (cites : List ℕ) (number : ℕ) → cites ≡ line ∷ [] → Added b c frame site kind.Found cites (says.Rows rows) number
        → AnswersRows a c frame kind.Found site number
    found-answer c rows cites number cited added =
        let low = asked-lower in
        rows-told a c frame site number kind.Found rows
        (added-answer a b c whole frame (home_of a.known.file site) (site, OfExpr (found site q)) stands kind.Found cites (says.Rows rows) number (above a frame (query_site q)) (line ∷ []) refl
        (omega (arith, low)) it.evaluates added (all-cited (line ∷ []) cites (length a.lines) added.at cited))

-- the line of `some`, behind that of its query
module _ (s : State) (whole : IsWhole s) (frame site line : ℕ) (asks : GivesAsked s frame site line) where
  pub asked-says : SaysRows s.lines line asks.4
  asked-says = query-says s.known.file s.lines asks.2 asks.0 line asks.4 asks.5

  pub found-adds : (said rows : List Row) (cites : List ℕ) → said ≡ asks.4 → rows ≡ filter is_found said → cites ≡ line ∷ [] → Adds s frame site kind.Found cites (says.Rows rows)
  found-adds said rows cites says_it kept cited =
      let rows_are : rows ≡ filter is_found asks.4 = kept ∙ ap (filter is_found) says_it in
      let known = query-known s whole asks.2 asks.0 line asks.4 asks.5 in
      subst (λ (cs : List ℕ). Adds s frame site kind.Found cs (says.Rows rows)) (sym cited)
      (adds-found s whole frame asks.2 site asks.3 asks.1.scope_is site asks.0 asks.1.there line asks.4 rows asks.5 rows_are
      (ap (list_all (is_known s.known)) rows_are ∙ kept-known (is_known s.known) is_found asks.4 known))

-- ---- calls of functions

module _ (a : State) (whole : IsWhole a) (frame site : ℕ) (args : List code.Expr) (called : IsCall a frame site (expr_list (map see_expr args))) where
  abbrev outer_call : Sited
  outer_call = (site, OfExpr (function site called.0 (expr_list (map see_expr args))))

  -- the arguments, one after another
  abbrev pub ArgsSoFar : (b : State) → (i : ℕ) → (numbers : List ℕ) → Type 0
  ArgsSoFar b i numbers =
      SaidFor a b (height_at a.known.file a.frames frame site) frame numbers
      (λ at. (given : List (List Row)) × GiveArgs b.known.file b.lines at (expr_list (map see_expr (take i args))) numbers given)

  pub args-start : (numbers : List ℕ) → numbers ≡ [] → ArgsSoFar a 0 numbers
  args-start numbers none =
      let line = line-there a whole frame (home_of a.known.file site) called.1.scope_is in
      subst (λ (ns : List ℕ). ArgsSoFar a 0 ns) (sym none) (Evaluates-none a (height_at a.known.file a.frames frame site) whole, line.0, line.1, ([], tt))

  module _ (ordered : AreInOrder a.known.file) (b : State) (numbers : List ℕ) (i : ℕ) (so_far : ArgsSoFar b i numbers) where
    module _ (x : code.Expr) (within : i < length args) (is : x ≡ get_or args i x) where
      arg-inside : IsInside a.known.file site (OfExpr (function site called.0 (expr_list (map see_expr args)))) (expr_sited (see_expr x))
      arg-inside = expr-at a.known.file site (outer_call).1 args i x within is (insides a.known.file ordered site (outer_call).1 called.1.there)

      pub arg-stands : StandsIn b frame (expr_sited (see_expr x))
      arg-stands = stands-inside a whole frame outer_call called.1 b (height_at a.known.file a.frames frame site) numbers so_far.0 (expr_sited (see_expr x)) arg-inside refl

      arg-lower : height_at b.known.file b.frames frame (expr_sited (see_expr x)).0 < height_at a.known.file a.frames frame site
      arg-lower = lower-inside a whole frame outer_call called.1 b (height_at a.known.file a.frames frame site) numbers so_far.0 (expr_sited (see_expr x)) arg-inside ordered refl

      pub arg-rank : (t : ℕ) → rank_in a frame site 0 ≡ t → rank_in b frame (expr_sited (see_expr x)).0 5 < t
      arg-rank t owed = rank-below a b frame frame site (expr_sited (see_expr x)).0 0 5 t owed arg-lower (omega arith)

      pub arg-next : (c : State) (number : ℕ) (more : List ℕ) → AnswersExpr b c frame (see_expr x) number → more ≡ numbers ++ number ∷ [] → ArgsSoFar c (i + 1) more
      arg-next c number more it cited =
          let low = arg-lower in
          args-next see_expr args i x within is a b c whole (height_at a.known.file a.frames frame site) (above b frame (expr_sited (see_expr x)).0) frame number numbers more so_far it
          (omega (arith, low)) cited

    pub args-end : length args ≤ i → AnswersArgs a b frame site (expr_list (map see_expr args)) numbers
    args-end past =
        let all = subst (λ (xs : List code.Expr). SaidFor a b (height_at a.known.file a.frames frame site) frame numbers
        (λ at. (given : List (List Row)) × GiveArgs b.known.file b.lines at (expr_list (map see_expr xs)) numbers given)) (take_all i args past) so_far in
        (all.0, all.1, all.2, all.3.0, all.3.1)

  -- the call itself, behind them
  module _ (b : State) (numbers : List ℕ) (it : AnswersArgs a b frame site (expr_list (map see_expr args)) numbers) where
    pub call-absent : a.parts frame site ≡ None → b.parts frame site ≡ None
    call-absent none = absent-still a whole frame outer_call called.1 b (height_at a.known.file a.frames frame site) numbers it.0 (omega arith) none

    pub call-given : AreGiven b frame site (expr_list (map see_expr args)) numbers
    call-given = ((called.0, stands-still a whole frame outer_call called.1 b (height_at a.known.file a.frames frame site) numbers it.0), (it.1, it.2, it.3, it.4))

    pub call-answer : (c : State) (cites : List ℕ) (number : ℕ) (rows : List Row) → cites ≡ numbers → Added b c frame site kind.Fn cites (says.Rows rows) number → AnswersRows a c frame kind.Fn site number
    call-answer c cites number rows cited added =
        rows-told a c frame site number kind.Fn rows
        (added-answer a b c whole frame (home_of a.known.file site) outer_call called.1 kind.Fn cites (says.Rows rows) number (height_at a.known.file a.frames frame site) numbers refl
        (omega arith) it.0 added (all-cited numbers cites (length a.lines) added.at cited))

-- ---- queries

long-list : (n : ℕ) (xs : List item.Step) → Begins (query n (step_list (map see_step xs))) → 0 < length xs
long-list n [] begins = absurd begins
long-list n (x ∷ xs) begins = omega arith

-- a query that begins has a step
pub has-steps : (q : code_query.Query) → Begins (see_query q) → 0 < length (out-Query q).steps.items
has-steps q begins = long-list (out-Query q).site (out-Query q).steps.items (subst Begins (query-seen q) begins)

module _ (file : File) (lines : List Line) where
  last-listed : (xs : List item.Step) (i : ℕ) (p : Step) → suc i ≡ length xs → step_in (step_list (map see_step xs)) i ≡ Some p → last_step file lines (step_list (map see_step xs)) ≡ Some p
  last-listed [] i p last is = absurd (omega (arith, last))
  last-listed (x ∷ []) zero p last is = is
  last-listed (x ∷ []) (suc i) p last is = absurd (omega (arith, last))
  last-listed (x ∷ y ∷ xs) zero p last is = absurd (omega (arith, last))
  last-listed (x ∷ y ∷ xs) (suc i) p last is = last-listed (y ∷ xs) i p (omega (arith, last)) is

  -- the rows of its last step
  last-gives : (q : code_query.Query) (at i number : ℕ) (p : Step) (rows : List Row) → suc i ≡ length (out-Query q).steps.items → step_in (steps_in (see_query q)) i ≡ Some p
      → GivesStep file lines at p number rows → GivesQuery file lines at (see_query q) number rows
  last-gives q at i number p rows last is gives =
      let there : step_in (step_list (map see_step (out-Query q).steps.items)) i ≡ Some p = sym (ap (λ (x : Query). step_in (steps_in x) i) (query-seen q)) ∙ is in
      subst (λ (x : Query). GivesQuery file lines at x number rows) (sym (query-seen q)) (p, last-listed (out-Query q).steps.items i p last there, gives)

module _ (a : State) (whole : IsWhole a) (ordered : AreInOrder a.known.file) (frame : ℕ) (q : code_query.Query) (stands : StandsIn a frame (query_sited (see_query q))) where
  step-below : (i : ℕ) (p : Step) → step_in (steps_in (see_query q)) i ≡ Some p → height_at a.known.file a.frames frame (step_site p) < height_at a.known.file a.frames frame (query_site (see_query q))
  step-below i p is =
      lower-first a whole frame (query_sited (see_query q)) stands (step_site p, OfStep (see_query q) i) (step-inside a.known.file ordered (see_query q) stands.there i p is) ordered refl

  pub query-rank : (i : ℕ) → i < length (out-Query q).steps.items → (t : ℕ) → rank_in a frame (query_site (see_query q)) 4 ≡ t → rank_in a frame (step_place (see_query q) i) 3 < t
  query-rank i within t owed =
      let it = step-there q i within in
      let low = step-below i it.0 it.1 in
      let here : height_at a.known.file a.frames frame (step_place (see_query q) i) ≡ height_at a.known.file a.frames frame (step_site it.0) =
      ap (height_at a.known.file a.frames frame) (place-of-step (see_query q) i it.0 it.1) in
      rank-below a a frame frame (query_site (see_query q)) (step_place (see_query q) i) 4 3 t owed (omega (arith, low, here)) (omega arith)

  pub query-stands : (i : ℕ) → i < length (out-Query q).steps.items → StandsUpTo a frame (see_query q) i
  query-stands i within =
      let it = step-there q i within in (
        it.0,
        it.1,
        stands-first a whole frame (query_sited (see_query q)) stands (step_site it.0, OfStep (see_query q) i) (step-inside a.known.file ordered (see_query q) stands.there i it.0 it.1) refl,
      )

  pub query-answer : (b : State) (i number : ℕ) → suc i ≡ length (out-Query q).steps.items → AnswersStepAt a b frame (see_query q) i number → AnswersQuery a b frame (see_query q) number
  query-answer b i number last it =
      let low = step-below i it.0 it.1 in
      record {
        evaluates = Evaluates-under a b (above a frame (step_site it.0)) (above a frame (query_site (see_query q))) (number ∷ []) (omega (arith, low)) it.2.evaluates;
        at = it.2.at;
        framed = it.2.framed;
        says = (it.2.says.0, last-gives b.known.file b.lines q it.2.at i number it.0 it.2.says.0 last it.1 it.2.says.1);
      }
