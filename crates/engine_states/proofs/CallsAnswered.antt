-- Lines of calls of rules and of tests; and a part as it is handed on to the function of its kind.
use Rattle.std.proofs.Common.{◌≡◌, ◌<◌, ◌+◌, ℕ, Bool, refl, sym, ap, ◌∙◌, subst, arith, slice_get, List, [], ◌∷◌, length, map, Some, None, is_some, option_map}
use Rattle.std.specs.Prelude.{IsSome}
use Rattle.std.proofs.lemmas.Option.{same_Some}
use Rattle.evidence_lines.specs.Shapes.{sort_of}
use Rattle.evidence_lines.specs.declared.line.LineKind.TheVariants as kind
use Rattle.evidence_lines.specs.declared.line.Outcome.TheVariants as says
use Rattle.evidence_lines.specs.declared.line.Sort.TheVariants as sort
use Rattle.guard_syntax.specs.Syntax as sx
use Rattle.guard_syntax.specs.Syntax.{File, call, no_expr, test, with_expr}
use Rattle.guard_syntax.specs.code.Seen.{disj_list, see_body, see_disj}
use Rattle.guard_syntax.specs.declared.row.Ref.{Ref}
use Rattle.guard_syntax.specs.declared.row.Row.{Row}
use Rattle.guard_syntax.specs.declared.row.Verdict.{Verdict}
use Rattle.guard_syntax.specs.declared.syntax.Body.{Body, out-Body}
use Rattle.guard_syntax.specs.declared.syntax.Disj.{Disj}
use Rattle.rule_names.specs.EnclosingScopes.{home_of}
use Rattle.rule_names.specs.Depths.{depth_body, depth_exprs, depth_part, depths_of}
use Rattle.rule_names.specs.Pieces.{AreInOrder, OfBody, OfPart, Sited, piece_at}
use Rattle.rule_names.specs.ReferenceGraph.{part_site}
use Rattle.rule_names.specs.Uses.{query_site}
use Rattle.rule_names.specs.WellNamed.{WellNamed}
use Rattle.rule_meaning.specs.Verdicts.{exchanged}
use Rattle.evidence_rules.specs.CitedLines.{GivesExpr, GivesQuery, IsLine, body_site, called_body}
use Rattle.scope_frames.specs.code.Frames.{MayEnter}
use Rattle.scope_frames.specs.declared.frame.Frame.{Frame}
use Rattle.scope_frames.proofs.EnteredFrames.{has-frame}
use Rattle.engine_states.specs.code.Adding.{Added, Adds}
use Rattle.engine_states.specs.code.Answers.{Answers, AnswersExpr, AnswersQuery, AnswersVerdict, GivesSide, HasSides, IsConjunction, IsRuleCall, IsTest, StandsIn, StandsPart, above, both_cites}
use Rattle.engine_states.specs.code.Entered.{Enters, MayHaveValue}
use Rattle.engine_states.specs.code.Falling.{height_at}
use Rattle.engine_states.specs.code.Inside.{AreInside, IsInside, expr_sited, inner_of_part, opt_expr_sited, query_sited}
use Rattle.engine_states.specs.code.Kinds.{kind_of_part, own_kind}
use Rattle.engine_states.specs.code.States.{IsWhole, State}
use Rattle.engine_states.proofs.AddsLines.{adds-called}
use Rattle.engine_states.proofs.BodiesAnswered.{body-conjoined}
use Rattle.engine_states.proofs.BodyValues.{called-value}
use Rattle.engine_states.proofs.Callees.{body-there, call-may-enter}
use Rattle.engine_states.proofs.Evaluating.{Evaluates-none, Evaluates-under, same-file}
use Rattle.engine_states.proofs.InTurn.{SaidFor, entered-answer, said-next}
use Rattle.engine_states.proofs.Insides.{body-own, insides}
use Rattle.engine_states.proofs.Lower.{called-lower}
use Rattle.engine_states.proofs.PartsAnswered.{current-is, inner-asked-for, inner-under, part-finished, part-kind, part-new, part-now, part-there}
use Rattle.engine_states.proofs.Ranks.{rank-below, rank_in}
use Rattle.engine_states.proofs.SaidLater.{query-later}
use Rattle.engine_states.proofs.Standing.{called-stands}
use Rattle.engine_states.proofs.VerdictsAnswered.{frame-known, home-still, judged-answer, same-owed}

-- ---- calls

pub called-some : (f g : File) (site : ℕ) (b : sx.Body) → called_body f site ≡ Some b → f ≡ g → IsSome (called_body g site)
called-some f g site b called same = ap is_some (subst (λ (h : File). called_body h site ≡ Some b) same called)

module _ (s : State) (whole : IsWhole s) (well : WellNamed s.known.file) (ordered : AreInOrder s.known.file) (frame site : ℕ) (negated : Bool) (stands : IsRuleCall s frame site negated) where
  called-there : (b : sx.Body) × (called_body s.known.file site ≡ Some b) × (piece_at s.known.file (body_site b) ≡ Some (OfBody b))
      × (depth_body s.known.file (depths_of s.known.file) b + depth_exprs s.known.file (depths_of s.known.file) stands.1
      < depth_part s.known.file (depths_of s.known.file) (call site negated stands.0 stands.1 stands.2))
  called-there = body-there s whole well ordered frame site negated stands.0 stands.1 stands.2 stands.3

  pub called-known : (g : File) → s.known.file ≡ g → IsSome (called_body g site)
  called-known g same = called-some s.known.file g site called-there.0 called-there.1 same

  pub call-framed : frame < length s.frames
  call-framed = frame-known s frame (home_of s.known.file site) (site, OfPart (call site negated stands.0 stands.1 stands.2)) stands.3

  pub call-enters : MayEnter s.known.file s.frames (Some frame) site
  call-enters = call-may-enter s whole well ordered frame site negated stands.0 stands.1 stands.2 stands.3

  pub call-value : (v : Ref) → option_map (λ (f : Frame). f.current) (slice_get s.frames frame) ≡ Some v → MayHaveValue s (Some frame) site v
  call-value v told =
      let here = has-frame s.known.file s.frames frame (home_of s.known.file site) stands.3.scope_is in
      subst (λ (u : Ref). MayHaveValue s (Some frame) site u) (current-is s frame v here.0 here.1 told)
      (called-value s whole frame here.0 here.1 site site negated stands.0 stands.1 stands.2 stands.3.there)

-- in the frame that was entered for it
module _ (a b : State) (whole : IsWhole a) (well : WellNamed a.known.file) (ordered : AreInOrder a.known.file) (frame site : ℕ) (negated : Bool) (stands : IsRuleCall a frame site negated)
    (v : Ref) (inner : ℕ) (enters : Enters a b (Some frame) site v inner) (y : Body) (g : File) (over : a.known.file ≡ g) (called : called_body g site ≡ Some (see_body y)) where
  called-here : called_body a.known.file site ≡ Some (see_body y)
  called-here = subst (λ (f : File). called_body f site ≡ Some (see_body y)) (sym over) called

  there : (b : sx.Body) × (called_body a.known.file site ≡ Some b) × (piece_at a.known.file (body_site b) ≡ Some (OfBody b))
      × (depth_body a.known.file (depths_of a.known.file) b + depth_exprs a.known.file (depths_of a.known.file) stands.1
      < depth_part a.known.file (depths_of a.known.file) (call site negated stands.0 stands.1 stands.2))
  there = body-there a whole well ordered frame site negated stands.0 stands.1 stands.2 stands.3

  body-same : there.0 ≡ see_body y
  body-same = same_Some there.0 (see_body y) (sym there.1 ∙ called-here)

  called-piece : piece_at a.known.file (body_site (see_body y)) ≡ Some (OfBody (see_body y))
  called-piece = subst (λ (x : sx.Body). piece_at a.known.file (body_site x) ≡ Some (OfBody x)) body-same there.2

  called-less : depth_body a.known.file (depths_of a.known.file) (see_body y) + depth_exprs a.known.file (depths_of a.known.file) stands.1
      < depth_part a.known.file (depths_of a.known.file) (call site negated stands.0 stands.1 stands.2)
  called-less =
      subst (λ (x : sx.Body). depth_body a.known.file (depths_of a.known.file) x + depth_exprs a.known.file (depths_of a.known.file) stands.1
      < depth_part a.known.file (depths_of a.known.file) (call site negated stands.0 stands.1 stands.2)) body-same there.3

  called-low : height_at b.known.file b.frames inner (body_site (see_body y)) < height_at a.known.file a.frames frame site
  called-low =
      called-lower a b whole ordered frame (home_of a.known.file site) (site, OfPart (call site negated stands.0 stands.1 stands.2)) stands.3 site v inner enters site negated stands.0 stands.1
      stands.2 (see_body y) refl called-piece called-less

  pub called-asked : (ds : List Disj) → ds ≡ (out-Body y).parts.items → (step next t : ℕ) → rank_in a frame site step ≡ t → next < 8
      → (rank_in b inner (out-Body y).site next < t) × (IsWhole b × IsConjunction b inner (out-Body y).site (disj_list (map see_disj ds)) None)
  called-asked ds are step next t owed small =
      let less = called-less in (
        subst (λ (m : ℕ). rank_in b inner m next < t) (body-own y)
            (rank-below a b frame inner site (body_site (see_body y)) step next t owed called-low small),
        (
          enters.evaluates.whole,
          body-conjoined b inner y ds are
              (called-stands a b whole frame (home_of a.known.file site) (site, OfPart (call site negated stands.0 stands.1 stands.2)) stands.3 site v inner enters site negated stands.0
              stands.1 stands.2 (see_body y) refl called-here called-piece (omega (arith, less))),
        ),
      )

  module _ (d : State) (line : ℕ) (w : Verdict) (it : AnswersVerdict b d inner kind.Conj (out-Body y).site line w) where
    called-said : Answers a d (height_at a.known.file a.frames frame site) frame line
        (λ at. (there : ℕ) × IsLine d.lines there kind.Frame at site (says.Value v) × IsLine d.lines line kind.Conj there (body_site (see_body y)) (says.Verdict w))
    called-said =
        let low = called-low in
        entered-answer a b d whole (height_at a.known.file a.frames frame site) (above b inner (body_site (see_body y))) frame site v inner enters line (body_site (see_body y)) kind.Conj
        (says.Verdict w) (subst (λ (m : ℕ). AnswersVerdict b d inner kind.Conj m line w) (sym (body-own y)) it) (omega (arith, low))

    pub called-whole : IsWhole d
    called-whole = called-said.evaluates.whole

    pub called-adds : (verdict : Verdict) → verdict ≡ exchanged negated w → (cites : List ℕ) → cites ≡ line ∷ [] → Adds d frame site kind.Call cites (says.Verdict verdict)
    called-adds verdict is cites same =
        let said = called-said in
        let bound = height_at a.known.file a.frames frame site in
        subst (λ (ns : List ℕ). Adds d frame site kind.Call ns (says.Verdict verdict)) (sym same)
        (adds-called d said.evaluates.whole frame said.at site said.framed
        (home-still a d whole frame (home_of a.known.file site) (site, OfPart (call site negated stands.0 stands.1 stands.2)) stands.3 bound (line ∷ []) said.evaluates refl) site negated
        stands.0 stands.1 stands.2 (part-there a d whole frame (call site negated stands.0 stands.1 stands.2) stands.3 bound (line ∷ []) said.evaluates) (see_body y)
        (ap (λ (f : File). called_body f site) (same-file a d said.evaluates.grows whole) ∙ called-here) said.says.0 line v w said.says.1 said.says.2 verdict is)

    pub called-kind : own_kind (piece_at d.known.file site) ≡ Some kind.Call
    called-kind =
        part-kind a d whole frame (call site negated stands.0 stands.1 stands.2) stands.3 (height_at a.known.file a.frames frame site) (line ∷ []) called-said.evaluates

    pub called-new : a.parts frame site ≡ None → d.parts frame site ≡ None
    called-new =
        part-new a d whole frame (call site negated stands.0 stands.1 stands.2) stands.3 (height_at a.known.file a.frames frame site) (line ∷ []) called-said.evaluates (omega arith)

    pub called-answer : (e : State) (cites : List ℕ) (verdict : Verdict) (n : ℕ) (said : Verdict) → cites ≡ line ∷ []
        → Added d e frame site kind.Call cites (says.Verdict verdict) n × (said ≡ verdict) → AnswersVerdict a e frame kind.Call site n said
    called-answer e cites verdict n said same added =
        part-finished a d whole frame (call site negated stands.0 stands.1 stands.2) stands.3 (height_at a.known.file a.frames frame site) (line ∷ []) called-said.evaluates (omega arith) e cites
        verdict n said same added

-- ---- tests

module _ (a : State) (whole : IsWhole a) (ordered : AreInOrder a.known.file) (frame : ℕ) (p : sx.Part) (q : sx.Query) (e : sx.OptExpr) (stands : IsTest a frame p q e) where
  test-inside : AreInside a.known.file (part_site p) (OfPart p) (query_sited q ∷ opt_expr_sited e)
  test-inside =
      subst (λ (is : List Sited). AreInside a.known.file (part_site p) (OfPart p) is) (ap inner_of_part stands.5) (insides a.known.file ordered (part_site p) (OfPart p) stands.6.there)

  pub test-asks : (step next t : ℕ) → rank_in a frame (part_site p) step ≡ t → next < 8 → (rank_in a frame (query_site q) next < t) × (IsWhole a × StandsIn a frame (query_sited q))
  test-asks = inner-asked-for a a whole ordered frame p stands.6 0 [] (Evaluates-none a 0 whole) (query_sited q) test-inside.0

  test-own : own_kind (Some (OfPart p)) ≡ Some kind.Test
  test-own = ap (λ (x : sx.Part). Some (kind_of_part x)) stands.5

  module _ (b : State) (line : ℕ) (it : AnswersQuery a b frame q line) where
    test-first : SaidFor a b (height_at a.known.file a.frames frame (part_site p)) frame (line ∷ []) (λ at. (rows : List Row) × GivesQuery b.known.file b.lines at q line rows)
    test-first = (
      Evaluates-under a b (above a frame (query_site q)) (height_at a.known.file a.frames frame (part_site p)) (line ∷ [])
          (inner-under a a whole ordered frame p stands.6 0 [] (Evaluates-none a 0 whole) (query_sited q) test-inside.0) it.evaluates,
      it.at,
      it.framed,
      it.says,
    )

    -- a test without a right side
    module _ (none : e ≡ no_expr) where
      pub lone-sides : HasSides b frame p line None
      lone-sides =
          let first = test-first in (
            q,
            e,
            (
              stands.0,
              stands.1,
              stands.2,
              stands.3,
              stands.4,
              stands.5,
              part-now a b whole frame p stands.6 (height_at a.known.file a.frames frame (part_site p)) (line ∷ []) first.0,
            ),
            (first.3.0, (first.1, first.2, first.3.1)),
            ([], subst (λ (o : sx.OptExpr). GivesSide b frame o None []) (sym none) refl),
          )

    pub lone-whole : IsWhole b
    lone-whole = it.evaluates.whole

    pub lone-new : a.parts frame (part_site p) ≡ None → b.parts frame (part_site p) ≡ None
    lone-new = part-new a b whole frame p stands.6 (height_at a.known.file a.frames frame (part_site p)) (line ∷ []) test-first.0 (omega arith)

    pub lone-answer : (d : State) (n : ℕ) (said : Verdict) → Added b d frame (part_site p) kind.Test (both_cites (Some line) None) (says.Verdict said) n
        → AnswersVerdict a d frame kind.Test (part_site p) n said
    lone-answer d n said added =
        judged-answer a b whole frame (home_of a.known.file (part_site p)) (part_site p, OfPart p) stands.6 (height_at a.known.file a.frames frame (part_site p)) (line ∷ []) test-first.0
        kind.Test test-own (omega arith) d (line ∷ []) said n said (λ m among. among) added refl

    -- one with a right side
    module _ (x : sx.Expr) (some : e ≡ with_expr x) where
      right-inside : IsInside a.known.file (part_site p) (OfPart p) (expr_sited x)
      right-inside =
          let both : AreInside a.known.file (part_site p) (OfPart p) (query_sited q ∷ expr_sited x ∷ []) =
          subst (λ (o : sx.OptExpr). AreInside a.known.file (part_site p) (OfPart p) (query_sited q ∷ opt_expr_sited o)) some test-inside in
          both.1.0

      pub right-asked : (step next t : ℕ) → rank_in a frame (part_site p) step ≡ t → next < 8
          → (rank_in b frame (expr_sited x).0 next < t) × (IsWhole b × StandsIn b frame (expr_sited x))
      right-asked =
          inner-asked-for a b whole ordered frame p stands.6 (height_at a.known.file a.frames frame (part_site p)) (line ∷ []) test-first.0 (expr_sited x) right-inside

      module _ (d : State) (number : ℕ) (right : AnswersExpr b d frame x number) where
        test-second : SaidFor a d (height_at a.known.file a.frames frame (part_site p)) frame (line ∷ number ∷ [])
            (λ at. ((rows : List Row) × GivesQuery d.known.file d.lines at q line rows) × ((rows : List Row) × GivesExpr d.known.file d.lines at x number rows))
        test-second =
            let first = test-first in
            let bound = height_at a.known.file a.frames frame (part_site p) in
            said-next a b d whole bound (above b frame (expr_sited x).0) frame number (line ∷ []) (λ at. (rows : List Row) × GivesQuery b.known.file b.lines at q line rows)
            (λ at. (rows : List Row) × GivesQuery d.known.file d.lines at q line rows) (λ at. (rows : List Row) × GivesExpr d.known.file d.lines at x number rows) first right
            (inner-under a b whole ordered frame p stands.6 bound (line ∷ []) first.0 (expr_sited x) right-inside)
            (λ grows at gives. (gives.0, query-later b d grows first.0.whole at q line gives.0 gives.1))

        pub both-whole : IsWhole d
        both-whole = test-second.0.whole

        pub both-sides : HasSides d frame p line (Some number)
        both-sides =
            let second = test-second in (
              q,
              e,
              (
                stands.0,
                stands.1,
                stands.2,
                stands.3,
                stands.4,
                stands.5,
                part-now a d whole frame p stands.6 (height_at a.known.file a.frames frame (part_site p)) (line ∷ number ∷ []) second.0,
              ),
              (second.3.0.0, (second.1, second.2, second.3.0.1)),
              (
                second.3.1.0,
                subst (λ (o : sx.OptExpr). GivesSide d frame o (Some number) second.3.1.0) (sym some) (second.1, second.2, second.3.1.1),
              ),
            )

        pub both-new : a.parts frame (part_site p) ≡ None → d.parts frame (part_site p) ≡ None
        both-new = part-new a d whole frame p stands.6 (height_at a.known.file a.frames frame (part_site p)) (line ∷ number ∷ []) test-second.0 (omega arith)

        pub both-answer : (f : State) (n : ℕ) (said : Verdict) → Added d f frame (part_site p) kind.Test (both_cites (Some line) (Some number)) (says.Verdict said) n
            → AnswersVerdict a f frame kind.Test (part_site p) n said
        both-answer f n said added =
            judged-answer a d whole frame (home_of a.known.file (part_site p)) (part_site p, OfPart p) stands.6 (height_at a.known.file a.frames frame (part_site p)) (line ∷ number ∷ [])
            test-second.0 kind.Test test-own (omega arith) f (line ∷ number ∷ []) said n said (λ m among. among) added refl

-- ---- a part, by its kind

-- each kind has lines that say verdicts
pub part-sort : (p : sx.Part) → sort_of (kind_of_part p) ≡ sort.Verdict
part-sort (sx.block n any head inner) = refl
part-sort (sx.guarded n conditions inner) = refl
part-sort (sx.kinds n name conditions inner) = refl
part-sort (sx.test n any left op negated right message) = refl
part-sort (sx.refer n negated name message) = refl
part-sort (sx.call n negated name args message) = refl

-- what stands where it does, by what it is
module _ (s : State) (frame : ℕ) (x y : sx.Part) (same : x ≡ y) where
  pub stands-as : StandsPart s frame x → StandsPart s frame y
  stands-as stands = subst (λ (z : sx.Part). StandsPart s frame z) same stands

  pub new-as : s.parts frame (part_site x) ≡ None → s.parts frame (part_site y) ≡ None
  new-as new = subst (λ (z : sx.Part). s.parts frame (part_site z) ≡ None) same new

  pub owed-as : (step next t : ℕ) → rank_in s frame (part_site x) step ≡ t → next < step → rank_in s frame (part_site y) next < t
  owed-as step next t owed less = subst (λ (z : sx.Part). rank_in s frame (part_site z) next < t) same (same-owed s frame (part_site x) step next t owed less)
