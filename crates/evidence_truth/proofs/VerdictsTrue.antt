-- Lines with a verdict say the verdict of their part, where the lines before them say what is so: a case for each kind of line.
use Rattle.std.proofs.Common.{◌≡◌, ℕ, zero, suc, ◌<◌, Bool, true, false, ◌&&◌, refl, sym, ap, ap₂, ◌∙◌, subst, inl, inr, arith, List, [], ◌∷◌, length, map, Option, Some, None, option_and_then, if◌then◌else◌}
use Rattle.std.specs.List.{list_all}
use Rattle.std.specs.Prelude.{Contains, slice_index_or}
use Rattle.std.proofs.lemmas.Option.{same_Some, none-some}
use Rattle.evidence_lines.specs.declared.line.Line.{Line}
use Rattle.evidence_lines.specs.declared.line.LineKind.{LineKind}
use Rattle.evidence_lines.specs.declared.line.LineKind.TheVariants as kind
use Rattle.evidence_lines.specs.declared.line.Outcome.TheVariants as says
use Rattle.guard_syntax.specs.Syntax.{File, Rule, Body, Conds, OptConds, Disjs, Parts, Part, Query, Exprs, OptExpr, body, conds, no_conds, with_conds, no_disjs, more_disjs, disj, no_parts, more_parts, block, guarded, kinds, test, refer, call, no_expr, with_expr}
use Rattle.guard_syntax.specs.declared.row.Ref.{Ref}
use Rattle.guard_syntax.specs.declared.row.Row.{Row}
use Rattle.guard_syntax.specs.declared.row.Row.TheVariants as row
use Rattle.guard_syntax.specs.declared.row.Verdict.{Verdict}
use Rattle.guard_syntax.specs.declared.row.Verdict.TheVariants.{Pass, Fail, Skip}
use Rattle.rule_names.specs.Resolution.{target_of}
use Rattle.rule_names.specs.Pieces.{Piece, OfFile, OfRule, OfBody, OfConds, OfDisj, OfPart, piece_at, pieces_body, pieces_conds, pieces_disj, pieces_disjs, pieces_lets, pieces_opt_conds, pieces_opt_expr, pieces_part, pieces_parts, pieces_query, pieces_rule, pieces_rules}
use Rattle.rule_names.specs.ReferenceGraph.{part_site}
use Rattle.rule_meaning.specs.StoreModel.{StoreModel, Made}
use Rattle.evidence_rules.specs.CitedLines.{IsLine, args_at, args_of_piece, body_of_rule, body_site}
use Rattle.evidence_rules.specs.Follows.{FollowsAtPart, FollowsBlock, FollowsBody, FollowsCall, FollowsConj, FollowsLoose, FollowsRefer, FollowsRowsOf, FollowsTest, FollowsTyped, FollowsVerdict, GivesRight, Guarded, IsBlockBody, IsFileFrame, SayDisjs, SayParts, SayRows, SaysBody, SaysVerdict, Under, UnderSome, block_stop, conds_site, conds_stop, disj_stop, kind_of_part, missing_fails}
use Rattle.rule_meaning.specs.Keys.{passes}
use Rattle.rule_meaning.specs.Roots.{root_ref}
use Rattle.rule_meaning.specs.Seeing.{see_row}
use Rattle.rule_meaning.specs.SetTests.{is_empty_test, is_set}
use Rattle.rule_meaning.specs.Environments.{Environment, Top, Inner, Called, current_of}
use Rattle.rule_meaning.specs.Meaning.{body_verdict, conds_verdict, disj_verdict, disj_verdicts, opt_conds_verdict, part_verdict, part_verdicts, rows_of, rows_of_side}
use Rattle.rule_meaning.specs.StepMeaning as location
use Rattle.rule_meaning.specs.NameMeaning.{piece_called, piece_verdict as verdict_of_piece, rule_by, target_called, target_verdict}
use Rattle.rule_meaning.specs.VerdictMeaning as over
use Rattle.rule_meaning.specs.VerdictMeaning.{block_row}
use Rattle.rule_meaning.specs.Locations.{Location, LocatedRow, World, root_location}
use Rattle.rule_meaning.specs.Verdicts.{block_verdict, conjunction, exchanged, guarded_by, referred}
use Rattle.query_steps.proofs.SeenSteps.{passes-seen}
use Rattle.query_steps.proofs.SeenVerdicts.{sets-seen, tests-seen}
use Rattle.evidence_rules.specs.code.Judgement.{line_rows, line_sites, line_verdict, ruled_verdict}
use Rattle.evidence_truth.proofs.Decided.{AreDecidedAlike, alike-all, alike-block, alike-conds, alike-cons, alike-disj, alike-more}
use Rattle.evidence_truth.proofs.HeldLines.{expr-held, query-held}
use Rattle.evidence_truth.proofs.HeldRows.{is_held}
use Rattle.evidence_truth.proofs.LinesSoFar.{Evidence, Framing, IsFramed, Meant, Past, ValueFits, cited, cited-in, in-all, rows-then, same-value, seen, shown, store_of, world_for}
use Rattle.evidence_truth.proofs.OneOwner.{once_at, one-owner, own-site, owns}
use Rattle.evidence_truth.proofs.PiecesAt.{Each, IsAt, IsOrdered, found-whole, parted}
use Rattle.evidence_truth.proofs.RowsTrue.{expr-given, query-given, rows-cited}
use Rattle.evidence_truth.proofs.RuleTargets.{loose-there, rules-there}
use Rattle.evidence_truth.proofs.StepsTrue.{conds-at}

-- ---- parts at their sites

module _ (e : Evidence) where
  pub body-at : (b : Body) → Each (IsAt e.file) (pieces_body b) → piece_at e.file (body_site b) ≡ Some (OfBody b)
  body-at (body n lets ds) placed = placed.0

  pub part-at : (p : Part) → Each (IsAt e.file) (pieces_part p) → piece_at e.file (part_site p) ≡ Some (OfPart p)
  part-at (block n any q b) placed = placed.0
  part-at (guarded n c b) placed = placed.0
  part-at (kinds n name c b) placed = placed.0
  part-at (test n any q op negated right message) placed = placed.0
  part-at (refer n negated name message) placed = placed.0
  part-at (call n negated name xs message) placed = placed.0

module _ (file : File) where
  rule-in : (rs : List Rule) (k : ℕ) (d : Rule) → k < length rs → Each (IsAt file) (pieces_rules rs)
      → piece_at file (slice_index_or rs k d).site ≡ Some (OfRule (slice_index_or rs k d))
  rule-in [] k d within placed = absurd (omega (arith, within))
  rule-in (r ∷ rs) zero d within placed = let both = parted (IsAt file) (pieces_rule r) (pieces_rules rs) placed in both.0.0
  rule-in (r ∷ rs) (suc k) d within placed = let both = parted (IsAt file) (pieces_rule r) (pieces_rules rs) placed in rule-in rs k d (omega (arith, within)) both.1

  pub rule-at : IsOrdered file → (r : Rule) → Contains file.rules r → piece_at file r.site ≡ Some (OfRule r)
  rule-at ordered r (k, within, is) = subst (λ (x : Rule). piece_at file x.site ≡ Some (OfRule x)) is (rule-in file.rules k r within (rules-there file ordered))

-- ---- which part has a body

owner_tag : Piece → ℕ
owner_tag (OfRule r) = 0
owner_tag (OfPart (guarded n c b)) = 1
owner_tag (OfPart (block n any q b)) = 2
owner_tag (OfPart (kinds n name c b)) = 3
owner_tag _ = 4

module _ (e : Evidence) (meant : Meant e) (b : Body) where
  same-owner : (n m : ℕ) (p q : Piece) → piece_at e.file n ≡ Some p → piece_at e.file m ≡ Some q → owns (body_site b) p ≡ 1 → owns (body_site b) q ≡ 1 → owner_tag p ≡ owner_tag q
  same-owner n m p q there behind has too = ap owner_tag (one-owner e.file meant.alone (body_site b) n m p q there behind has too)

  block-apart : (n m k : ℕ) (any : Bool) (q : Query) (p : Piece) → piece_at e.file n ≡ Some (OfPart (block k any q b)) → piece_at e.file m ≡ Some p → owns (body_site b) p ≡ 1 → owner_tag p ≡ 2
  unfolding owner_tag
  block-apart n m k any q p there behind own = sym (same-owner n m (OfPart (block k any q b)) p there behind (own-site b) own)

  kinds-apart : (n m k : ℕ) (name : List ℕ) (c : OptConds) (p : Piece) → piece_at e.file n ≡ Some (OfPart (kinds k name c b)) → piece_at e.file m ≡ Some p → owns (body_site b) p ≡ 1 → owner_tag p ≡ 3
  unfolding owner_tag
  kinds-apart n m k name c p there behind own = sym (same-owner n m (OfPart (kinds k name c b)) p there behind (own-site b) own)

  -- the body of a block or a type block is that of nothing else
  block-body-apart : (m : ℕ) (p : Piece) → IsBlockBody (store_of e e.made) e.lines b → piece_at e.file m ≡ Some p → owns (body_site b) p ≡ 1 → (owner_tag p ≡ 2 → ⊥) → (owner_tag p ≡ 3 → ⊥) → ⊥
  block-body-apart m p is behind own no_block no_kinds = elim is [
    | inl (n, any, head, there) ↦ no_block (block-apart n m n any head p there behind own)
    | inr (n, name, c, there) ↦ no_kinds (kinds-apart n m n name c p there behind own)
  ]

  -- the body of a `when` block
  pub when-value : (site n : ℕ) (c : Conds) (frame : ℕ) (env : Environment) (v : Ref) → piece_at e.file site ≡ Some (OfPart (guarded n c b)) → Framing e frame env
      → ValueFits e frame (Some (OfBody b)) v → current_of env ≡ seen e v
  unfolding owner_tag
  when-value site n c frame env v there framing fits = elim fits [
    | inl ((r, among, plain, same), is) ↦
        let behind : piece_at e.file r.site ≡ Some (OfRule r) = rule-at e.file meant.ordered r among in
        let own : once_at (body_site b) (body_site r.body) ≡ 1 = ap (λ (x : Body). once_at (body_site b) (body_site x)) same ∙ own-site b in
        let tags : 1 ≡ 0 = same-owner site r.site (OfPart (guarded n c b)) (OfRule r) there behind (own-site b) own in
        absurd (omega (arith, tags))
    | inr others ↦ elim others [
      | inl (of, current) ↦ current env framing
      | inr blocks ↦ absurd (block-body-apart site (OfPart (guarded n c b)) blocks there (own-site b) (λ tags. absurd (omega (arith, tags))) (λ tags. absurd (omega (arith, tags))))
    ]
  ]

  -- the body of a rule
  pub rule-value : (r : Rule) (site frame : ℕ) (v : Ref) → r.body ≡ b → piece_at e.file site ≡ Some (OfRule r) → ValueFits e frame (Some (OfBody b)) v → v ≡ root_ref
  unfolding owner_tag
  rule-value r site frame v same there fits =
      let own : once_at (body_site b) (body_site r.body) ≡ 1 = ap (λ (x : Body). once_at (body_site b) (body_site x)) same ∙ own-site b in
      elim fits [
        | inl (of, is) ↦ is
        | inr others ↦ elim others [
          | inl ((n, c, behind), current) ↦
              let tags : 0 ≡ 1 = same-owner site n (OfRule r) (OfPart (guarded n c b)) there behind own (own-site b) in
              absurd (omega (arith, tags))
          | inr blocks ↦ absurd (block-body-apart site (OfRule r) blocks there own (λ tags. absurd (omega (arith, tags))) (λ tags. absurd (omega (arith, tags))))
        ]
      ]

module _ (e : Evidence) (meant : Meant e) (made : List Made) (before : List Line) (past : Past e made before) where
  abbrev world : World
  world = world_for e

  abbrev known : StoreModel
  known = store_of e made

  abbrev sites : List ℕ
  sites = line_sites before

  -- ---- lines that are cited

  pub verdict-given : (number : ℕ) (of : LineKind) (frame site : ℕ) (verdict : Verdict) (env : Environment) (p : Piece) (given : Verdict) → SaysVerdict known before of frame site number verdict
      → Framing e frame env → piece_at e.file site ≡ Some p → line_verdict world e.names env of (Some p) ≡ Some given → given ≡ verdict
  verdict-given number of frame site verdict env p given is framing there says_given =
      same_Some given verdict
      (sym says_given ∙ ap (line_verdict world e.names env of) (sym there) ∙ cited-in e made before past number of frame site (says.Verdict verdict) env is framing)

  pub line-of-part : (env : Environment) (p : Part) → line_verdict world e.names env (kind_of_part known before p) (Some (OfPart p)) ≡ Some (part_verdict world e.names env p)
  line-of-part env (block n any q b) = refl
  line-of-part env (guarded n c b) = refl
  line-of-part env (kinds n name c b) = refl
  line-of-part env (test n any q op negated right message) = refl
  line-of-part env (refer n negated name message) = refl
  line-of-part env (call n negated name xs message) = refl

  parts-true : (frame : ℕ) (env : Environment) (stop : Option Verdict) (ps : Parts) (cites : List ℕ) (verdicts : List Verdict) → Framing e frame env
      → Each (IsAt e.file) (pieces_parts ps) → SayParts known before frame stop ps cites verdicts → AreDecidedAlike stop verdicts (part_verdicts world e.names env ps)
  parts-true frame env stop no_parts [] [] framing placed say = inl refl
  parts-true frame env stop (more_parts p ps) (c ∷ cs) (w ∷ ws) framing placed (first, others) =
      let both = parted (IsAt e.file) (pieces_part p) (pieces_parts ps) placed in
      alike-more stop w (part_verdict world e.names env p) ws (part_verdicts world e.names env ps) [] (SayParts known before frame stop ps) cs
      (verdict-given c (kind_of_part known before p) frame (part_site p) w env (OfPart p) (part_verdict world e.names env p) first framing (part-at e p both.0) (line-of-part env p))
      others (λ say. parts-true frame env stop ps cs ws framing both.1 say)
  parts-true frame env stop ps cites verdicts framing placed say = absurd say

  disjs-true : (frame : ℕ) (env : Environment) (stop : Option Verdict) (ds : Disjs) (cites : List ℕ) (verdicts : List Verdict) → Framing e frame env
      → Each (IsAt e.file) (pieces_disjs ds) → SayDisjs known before frame stop ds cites verdicts → AreDecidedAlike stop verdicts (disj_verdicts world e.names env ds)
  disjs-true frame env stop no_disjs [] [] framing placed say = inl refl
  disjs-true frame env stop (more_disjs (disj n parts) ds) (c ∷ cs) (w ∷ ws) framing placed (first, others) =
      let both = parted (IsAt e.file) (pieces_disj (disj n parts)) (pieces_disjs ds) placed in
      alike-more stop w (disj_verdict world e.names env (disj n parts)) ws (disj_verdicts world e.names env ds) [] (SayDisjs known before frame stop ds) cs
      (verdict-given c kind.Disj frame n w env (OfDisj (disj n parts)) (disj_verdict world e.names env (disj n parts)) first framing both.0.0 refl)
      others (λ say. disjs-true frame env stop ds cs ws framing both.1 say)
  disjs-true frame env stop ds cites verdicts framing placed say = absurd say

  -- of all disjunctions, and of conditions up to the one that decides
  conj-true : (frame : ℕ) (env : Environment) (stop : Option Verdict) (ds : Disjs) (cites : List ℕ) (verdict : Verdict)
      → ((vs ws : List Verdict) → AreDecidedAlike stop vs ws → conjunction vs ≡ conjunction ws) → Framing e frame env → Each (IsAt e.file) (pieces_disjs ds)
      → FollowsConj known before frame stop ds cites verdict → conjunction (disj_verdicts world e.names env ds) ≡ verdict
  conj-true frame env stop ds cites verdict alike framing placed (verdicts, say, is) =
      sym (alike verdicts (disj_verdicts world e.names env ds) (disjs-true frame env stop ds cites verdicts framing placed say)) ∙ sym is

  -- ---- bodies in frames

  -- the value of a frame fits the part of its site
  pub frame-value : (at frame site : ℕ) (v : Ref) → IsLine before at kind.Frame frame site (says.Value v) → ValueFits e frame (piece_at e.file site) v
  frame-value at frame site v is = by (subst (λ (k : LineKind). IsFramed e is.line k) is.kind_is (past.framed at is.line is.stands))
    where
      by : IsFramed e is.line kind.Frame → ValueFits e frame (piece_at e.file site) v
      by (f, s, w, env, frame_is, site_is, outcome_is, framing, fits) =
          let value : w ≡ v = same-value w v (sym outcome_is ∙ is.outcome_is) in
          let frames : f ≡ frame = same_Some f frame (sym frame_is ∙ is.frame_is) in
          let same : s ≡ site = same_Some s site (sym site_is ∙ is.site_is) in
          subst (λ (x : Ref). ValueFits e frame (piece_at e.file site) x) value
          (subst (λ (n : ℕ). ValueFits e frame (piece_at e.file n) w) same (subst (λ (n : ℕ). ValueFits e n (piece_at e.file s) w) frames fits))

  pub body-given : (frame : ℕ) (env : Environment) (b : Body) (v : Ref) (number : ℕ) (verdict : Verdict) → Framing e frame env → Each (IsAt e.file) (pieces_body b)
      → SaysBody known before frame b v number verdict → body_verdict world e.names (Inner (seen e v) env) b ≡ verdict
  body-given frame env b v number verdict framing placed (at, is, says_verdict) =
      let there : piece_at e.file (body_site b) ≡ Some (OfBody b) = body-at e b placed in
      let none : args_at e.file (body_site b) ≡ None = ap (option_and_then args_of_piece) there in
      let inner : Framing e at (Inner (seen e v) env) = (frame, body_site b, v, in-all e made before past at kind.Frame frame (body_site b) (says.Value v) is, none, refl, framing) in
      verdict-given number kind.Conj at (body_site b) verdict (Inner (seen e v) env) (OfBody b) (body_verdict world e.names (Inner (seen e v) env) b) says_verdict inner there refl

  pub body-value : (frame : ℕ) (b : Body) (v : Ref) (number : ℕ) (verdict : Verdict) → Each (IsAt e.file) (pieces_body b) → SaysBody known before frame b v number verdict
      → ValueFits e frame (Some (OfBody b)) v
  body-value frame b v number verdict placed (at, is, says_verdict) =
      subst (λ (p : Option Piece). ValueFits e frame p v) (body-at e b placed) (frame-value at frame (body_site b) v is)

  -- on rows, up to the one that decides
  bodies-true : (frame : ℕ) (env : Environment) (stop : Option Verdict) (b : Body) (rows : List Row) (cites : List ℕ) (verdicts : List Verdict) → Framing e frame env
      → Each (IsAt e.file) (pieces_body b) → SayRows known before (SaysBody known before frame b) stop rows cites verdicts
      → AreDecidedAlike stop verdicts (map (block_row (λ (w : Location). body_verdict world e.names (Inner w env) b)) (map (shown e) rows))
  bodies-true frame env stop b [] [] [] framing placed say = inl refl
  bodies-true frame env stop b (row.Found v ∷ rows) (c ∷ cs) (w ∷ ws) framing placed (first, others) =
      alike-more stop w (body_verdict world e.names (Inner (seen e v) env) b) ws (map (block_row (λ (x : Location). body_verdict world e.names (Inner x env) b)) (map (shown e) rows))
      (missing_fails rows) (SayRows known before (SaysBody known before frame b) stop rows) cs (body-given frame env b v c w framing placed first)
      others (λ say. bodies-true frame env stop b rows cs ws framing placed say)
  bodies-true frame env stop b (row.Missing v step ∷ rows) cites (w ∷ ws) framing placed (first, others) =
      alike-cons stop w Fail ws (map (block_row (λ (x : Location). body_verdict world e.names (Inner x env) b)) (map (shown e) rows)) (sym first)
      (bodies-true frame env stop b rows cites ws framing placed others)
  bodies-true frame env stop b (row.Unmade site ∷ rows) cites (w ∷ ws) framing placed (first, others) =
      alike-cons stop w Fail ws (map (block_row (λ (x : Location). body_verdict world e.names (Inner x env) b)) (map (shown e) rows)) (sym first)
      (bodies-true frame env stop b rows cites ws framing placed others)
  bodies-true frame env stop b rows cites verdicts framing placed say = absurd say

  rows-of-true : (frame : ℕ) (env : Environment) (any : Bool) (stop : Option Verdict) (b : Body) (rows : List Row) (cites : List ℕ) (verdict : Verdict)
      → ((vs ws : List Verdict) → AreDecidedAlike stop vs ws → block_verdict any vs ≡ block_verdict any ws) → Framing e frame env → Each (IsAt e.file) (pieces_body b)
      → FollowsRowsOf known before frame any stop b rows cites verdict
      → block_verdict any (map (block_row (λ (w : Location). body_verdict world e.names (Inner w env) b)) (map (shown e) rows)) ≡ verdict
  rows-of-true frame env any stop b rows cites verdict alike framing placed (verdicts, say, is) =
      sym (alike verdicts (map (block_row (λ (w : Location). body_verdict world e.names (Inner w env) b)) (map (shown e) rows)) (bodies-true frame env stop b rows cites verdicts framing placed say))
      ∙ sym is

  -- ---- conditions

  guarded-true : (said inner verdict : Verdict) (Inside : List ℕ → Verdict → Type 0) (cites : List ℕ) → (Inside cites verdict → inner ≡ verdict) → Guarded known before said Inside cites verdict
      → guarded_by said inner ≡ verdict
  guarded-true Pass inner verdict Inside cites means h = means h
  guarded-true Fail inner verdict Inside cites means h = sym h.1
  guarded-true Skip inner verdict Inside cites means h = sym h.1

  under-true : (frame : ℕ) (env : Environment) (c : Conds) (inner verdict : Verdict) (Inside : List ℕ → Verdict → Type 0) (cites : List ℕ) → Framing e frame env → Each (IsAt e.file) (pieces_conds c)
      → ((cites : List ℕ) → Inside cites verdict → inner ≡ verdict) → Under known before frame c Inside cites verdict → guarded_by (conds_verdict world e.names env c) inner ≡ verdict
  under-true frame env c inner verdict Inside [] framing placed means h = absurd h
  under-true frame env c inner verdict Inside (n ∷ cites) framing placed means (said, says_verdict, h) =
      ap (λ (x : Verdict). guarded_by x inner)
      (verdict-given n kind.Conj frame (conds_site c) said env (OfConds c) (conds_verdict world e.names env c) says_verdict framing (conds-at e c placed) refl)
      ∙ guarded-true said inner verdict Inside cites (means cites) h

  under-some-true : (frame : ℕ) (env : Environment) (o : OptConds) (inner verdict : Verdict) (Inside : List ℕ → Verdict → Type 0) (cites : List ℕ) → Framing e frame env
      → Each (IsAt e.file) (pieces_opt_conds o) → ((cites : List ℕ) → Inside cites verdict → inner ≡ verdict) → UnderSome known before frame o Inside cites verdict
      → guarded_by (opt_conds_verdict world e.names env o) inner ≡ verdict
  under-some-true frame env no_conds inner verdict Inside cites framing placed means h = means cites h
  under-some-true frame env (with_conds c) inner verdict Inside cites framing placed means h = under-true frame env c inner verdict Inside cites framing placed means h

  -- ---- tests

  pub right-given : (frame : ℕ) (env : Environment) (right : OptExpr) (cites : List ℕ) (rows : List Row) → Framing e frame env → Each (IsAt e.file) (pieces_opt_expr right)
      → GivesRight known before frame right cites rows → (rows_of_side world e.names env right ≡ map (shown e) rows) × (list_all (is_held known) rows ≡ true)
  right-given frame env no_expr [] rows framing placed h = (ap (map (shown e)) (sym h), ap (list_all (is_held known)) h)
  right-given frame env (with_expr x) (c ∷ []) rows framing placed h = (expr-given e meant made before past frame env x c rows framing placed h, expr-held known before past.held frame x c rows h)
  right-given frame env right cites rows framing placed h = absurd h

  test-true : (frame site : ℕ) (env : Environment) (p : Part) (cites : List ℕ) (verdict : Verdict) → Framing e frame env → piece_at e.file site ≡ Some (OfPart p)
      → FollowsTest known before frame p cites verdict → part_verdict world e.names env p ≡ verdict
  test-true frame site env (test n any left op negated right message) (c ∷ cites) verdict framing there (lefts, rights, gives, gives_right, is) =
      let whole = found-whole e.file meant.ordered site (OfPart (test n any left op negated right message)) there in
      let both = parted (IsAt e.file) (pieces_query left) (pieces_opt_expr right) whole.1.1 in
      let lefts_held : list_all (is_held known) lefts ≡ true = query-held known before past.held frame left c lefts gives in
      let side = right-given frame env right cites rights framing both.1 gives_right in
      let lefts_now : rows_of world e.names env left ≡ map (see_row known sites) lefts =
      query-given e meant made before past frame env left c lefts framing both.0 gives ∙ sym (rows-then e made before past.cut lefts lefts_held) in
      let rights_now : rows_of_side world e.names env right ≡ map (see_row known sites) rights = side.0 ∙ sym (rows-then e made before past.cut rights side.1) in
      ap₂ (λ (xs ys : List LocatedRow). if is_empty_test op && is_set left then over.set_verdict negated xs else over.test_verdict any (location.passes world op negated ys) xs) lefts_now rights_now
      ∙ ap₂ (λ (x y : Verdict). if is_empty_test op && is_set left then x else y) (sym (sets-seen known sites negated lefts))
      (sym (tests-seen known sites (passes known op negated rights) (location.passes world op negated (map (see_row known sites) rights)) (λ x. sym (passes-seen known e.answers sites op negated rights x)) any lefts))
      ∙ sym is
  test-true frame site env p cites verdict framing there h = absurd h

  -- ---- references and calls

  ruled-is : (rule : ℕ) (p : Option Piece) (said : Verdict) → piece_at e.file rule ≡ p → (rule ≡ 0 → ⊥) → ruled_verdict world e.names p ≡ Some said → verdict_of_piece world e.names p ≡ said
  ruled-is rule (Some (OfRule r)) said there other is = same_Some (rule_by world e.names r) said is
  ruled-is rule (Some OfFile) said there other is = let own = found-whole e.file meant.ordered rule OfFile there in absurd (other (sym own.0))
  ruled-is rule p said there other is = absurd (none-some said is)

  refer-true : (frame site : ℕ) (env : Environment) (p : Part) (cites : List ℕ) (verdict : Verdict) → piece_at e.file site ≡ Some (OfPart p)
      → FollowsRefer known before site p cites verdict → part_verdict world e.names env p ≡ verdict
  refer-true frame site env (refer n negated name message) (c ∷ []) verdict there (rule, at, said, target, says_verdict, is) =
      let own = found-whole e.file meant.ordered site (OfPart (refer n negated name message)) there in
      let h = cited e made before past c kind.Rule at rule (says.Verdict said) says_verdict in
      let apart : rule ≡ 0 → ⊥ = λ (same : rule ≡ 0). meant.targets site (target ∙ ap Some same) in
      let means : e.names.verdict n ≡ said =
      meant.obeys.verdict n ∙ ap (λ (k : ℕ). target_verdict world e.names (target_of e.file k)) own.0 ∙ ap (target_verdict world e.names) target
      ∙ ruled-is rule (piece_at e.file rule) said refl apart h.2 in
      ap (referred negated) means ∙ sym is
  refer-true frame site env p cites verdict there h = absurd h

  -- the body that a call names
  pub called-is : (env : Environment) (args : Exprs) (t : Option ℕ) (b : Body) → option_and_then (λ rule. option_and_then body_of_rule (piece_at e.file rule)) t ≡ Some b
      → (target_called world e.names env args t ≡ body_verdict world e.names (Called (current_of env) args env) b) × Each (IsAt e.file) (pieces_body b)
  called-is env args None b is = absurd (none-some b is)
  called-is env args (Some m) b is = by (piece_at e.file m) refl is
    where
      by : (p : Option Piece) → piece_at e.file m ≡ p → option_and_then body_of_rule p ≡ Some b
          → (piece_called world e.names env args p ≡ body_verdict world e.names (Called (current_of env) args env) b) × Each (IsAt e.file) (pieces_body b)
      by (Some (OfRule r)) there is =
          let own = found-whole e.file meant.ordered m (OfRule r) there in
          let both = parted (IsAt e.file) (pieces_opt_conds r.cond) (pieces_body r.body) own.1.1 in
          let same : r.body ≡ b = same_Some r.body b is in
          (ap (body_verdict world e.names (Called (current_of env) args env)) same, subst (λ (x : Body). Each (IsAt e.file) (pieces_body x)) same both.1)
      by p there is = absurd (none-some b is)

  call-true : (frame site : ℕ) (env : Environment) (p : Part) (cites : List ℕ) (verdict : Verdict) → Framing e frame env → piece_at e.file site ≡ Some (OfPart p)
      → FollowsCall known before frame site p cites verdict → part_verdict world e.names env p ≡ verdict
  call-true frame site env (call n negated name args message) (c ∷ []) verdict framing there (b, at, v, said, called, is_frame, says_verdict, is) =
      let own = found-whole e.file meant.ordered site (OfPart (call n negated name args message)) there in
      let some : args_at e.file site ≡ Some args = ap (option_and_then args_of_piece) there in
      let inside = called-is env args (target_of e.file site) b called in
      let inner : Framing e at (Called (seen e v) args env) = (frame, site, v, in-all e made before past at kind.Frame frame site (says.Value v) is_frame, some, refl, framing) in
      let fits : ValueFits e frame (Some (OfPart (call n negated name args message))) v = subst (λ (p : Option Piece). ValueFits e frame p v) there (frame-value at frame site v is_frame) in
      let current : current_of env ≡ seen e v = fits env framing in
      let judged : body_verdict world e.names (Called (seen e v) args env) b ≡ said =
      verdict-given c kind.Conj at (body_site b) said (Called (seen e v) args env) (OfBody b) (body_verdict world e.names (Called (seen e v) args env) b) says_verdict inner (body-at e b inside.1) refl in
      let means : e.names.called env n args ≡ said =
      meant.obeys.called env n args ∙ ap (λ (k : ℕ). target_called world e.names env args (target_of e.file k)) own.0 ∙ inside.0
      ∙ ap (λ (w : Location). body_verdict world e.names (Called w args env) b) current ∙ judged in
      ap (exchanged negated) means ∙ sym is
  call-true frame site env p cites verdict framing there h = absurd h

  -- ---- parts

  when-body : (frame site n : ℕ) (env : Environment) (c : Conds) (b : Body) (verdict : Verdict) → Framing e frame env → piece_at e.file site ≡ Some (OfPart (guarded n c b)) → Each (IsAt e.file) (pieces_body b)
      → (cites : List ℕ) → FollowsBody known before frame b cites verdict → body_verdict world e.names (Inner (current_of env) env) b ≡ verdict
  when-body frame site n env c b verdict framing there placed (k ∷ []) (v, says_body) =
      let fits : ValueFits e frame (Some (OfBody b)) v = body-value frame b v k verdict placed says_body in
      let current : current_of env ≡ seen e v = when-value e meant b site n c frame env v there framing fits in
      ap (λ (w : Location). body_verdict world e.names (Inner w env) b) current ∙ body-given frame env b v k verdict framing placed says_body
  when-body frame site n env c b verdict framing there placed cites h = absurd h

  typed-body : (frame site n : ℕ) (env : Environment) (name : List ℕ) (o : OptConds) (b : Body) (verdict : Verdict) → Framing e frame env → piece_at e.file site ≡ Some (OfPart (kinds n name o b))
      → Each (IsAt e.file) (pieces_body b) → (cites : List ℕ) → FollowsTyped known before frame site b cites verdict
      → conjunction (map (block_row (λ (w : Location). body_verdict world e.names (Inner w env) b)) (location.rows_of_type world name (current_of env))) ≡ verdict
  typed-body frame site n env name o b verdict framing there placed [] h = absurd h
  typed-body frame site n env name o b verdict framing there placed (k ∷ cites) (rows, is, follows) =
      let types : location.rows_of_type world name (current_of env) ≡ map (shown e) rows =
      same_Some (location.rows_of_type world name (current_of env)) (map (shown e) rows)
      (ap (line_rows world e.names env kind.Types) (sym there) ∙ rows-cited e meant made before past k kind.Types frame site rows env is framing) in
      ap (λ (rs : List LocatedRow). conjunction (map (block_row (λ (w : Location). body_verdict world e.names (Inner w env) b)) rs)) types ∙ rows-of-true frame env false None b rows cites verdict (alike-all (block_verdict false)) framing placed follows

  block-true : (frame site : ℕ) (env : Environment) (n : ℕ) (any : Bool) (head : Query) (b : Body) (cites : List ℕ) (verdict : Verdict) → Framing e frame env
      → piece_at e.file site ≡ Some (OfPart (block n any head b)) → FollowsBlock known before frame any (block_stop any e.version) head b cites verdict → part_verdict world e.names env (block n any head b) ≡ verdict
  block-true frame site env n any head b [] verdict framing there h = absurd h
  block-true frame site env n any head b (k ∷ cites) verdict framing there (rows, gives, follows) =
      let whole = found-whole e.file meant.ordered site (OfPart (block n any head b)) there in
      let both = parted (IsAt e.file) (pieces_query head) (pieces_body b) whole.1.1 in
      ap (λ (rs : List LocatedRow). block_verdict any (map (block_row (λ (w : Location). body_verdict world e.names (Inner w env) b)) rs)) (query-given e meant made before past frame env head k rows framing both.0 gives)
      ∙ rows-of-true frame env any (block_stop any e.version) b rows cites verdict (alike-block any e.version) framing both.1 follows

  part-true : (frame site : ℕ) (env : Environment) (of : LineKind) (p : Part) (cites : List ℕ) (verdict : Verdict) → Framing e frame env → piece_at e.file site ≡ Some (OfPart p)
      → FollowsAtPart e.version known before frame site of p cites verdict → line_verdict world e.names env of (Some (OfPart p)) ≡ Some verdict
  part-true frame site env kind.Test p cites verdict framing there h = ap Some (test-true frame site env p cites verdict framing there h)
  part-true frame site env kind.Refer p cites verdict framing there h = ap Some (refer-true frame site env p cites verdict there h)
  part-true frame site env kind.Call p cites verdict framing there h = ap Some (call-true frame site env p cites verdict framing there h)
  part-true frame site env kind.When (guarded n c b) cites verdict framing there h =
      let whole = found-whole e.file meant.ordered site (OfPart (guarded n c b)) there in
      let both = parted (IsAt e.file) (pieces_conds c) (pieces_body b) whole.1.1 in
      ap Some (under-true frame env c (body_verdict world e.names (Inner (current_of env) env) b) verdict (FollowsBody known before frame b) cites framing both.0
      (when-body frame site n env c b verdict framing there both.1) h)
  part-true frame site env kind.Block (block n any head b) cites verdict framing there h = ap Some (block-true frame site env n any head b cites verdict framing there h)
  part-true frame site env kind.Kinds (kinds n name o b) cites verdict framing there h =
      let whole = found-whole e.file meant.ordered site (OfPart (kinds n name o b)) there in
      let both = parted (IsAt e.file) (pieces_opt_conds o) (pieces_body b) whole.1.1 in
      ap Some (under-some-true frame env o (conjunction (map (block_row (λ (w : Location). body_verdict world e.names (Inner w env) b)) (location.rows_of_type world name (current_of env)))) verdict
      (FollowsTyped known before frame site b) cites framing both.0 (typed-body frame site n env name o b verdict framing there both.1) h)
  part-true frame site env of p cites verdict framing there h = absurd h

  -- ---- rules

  pub file-framing : (frame : ℕ) → IsFileFrame known before frame → Framing e frame Top
  file-framing frame (l, stands, file) = (l, past.stand frame l stands, file)

  rule-body : (frame site : ℕ) (r : Rule) (verdict : Verdict) → Framing e frame Top → piece_at e.file site ≡ Some (OfRule r) → Each (IsAt e.file) (pieces_body r.body)
      → (cites : List ℕ) → FollowsBody known before frame r.body cites verdict → body_verdict world e.names (Inner root_location Top) r.body ≡ verdict
  rule-body frame site r verdict framing there placed (k ∷ []) (v, says_body) =
      let fits : ValueFits e frame (Some (OfBody r.body)) v = body-value frame r.body v k verdict placed says_body in
      let root : v ≡ root_ref = rule-value e meant r.body r site frame v refl there fits in
      ap (λ (w : Ref). body_verdict world e.names (Inner (seen e w) Top) r.body) (sym root) ∙ body-given frame Top r.body v k verdict framing placed says_body
  rule-body frame site r verdict framing there placed cites h = absurd h

  loose-true : (frame : ℕ) (ds : Disjs) (cites : List ℕ) (verdict : Verdict) → Framing e frame Top → FollowsLoose known before frame ds cites verdict
      → conjunction (disj_verdicts world e.names Top e.file.loose) ≡ verdict
  loose-true frame (more_disjs d ds) (k ∷ []) verdict framing h =
      verdict-given k kind.Conj frame 0 verdict Top OfFile (conjunction (disj_verdicts world e.names Top e.file.loose)) h framing meant.ordered.0 refl
  loose-true frame ds cites verdict framing h = absurd h

  -- ---- lines with a verdict

  pub verdict-true : (frame site : ℕ) (env : Environment) (of : LineKind) (p : Option Piece) (cites : List ℕ) (verdict : Verdict) → Framing e frame env → piece_at e.file site ≡ p
      → FollowsVerdict e.version (store_of e made) before frame site of p cites verdict → line_verdict (world_for e) e.names env of p ≡ Some verdict
  verdict-true frame site env kind.Rule (Some (OfRule r)) cites verdict framing there (file, new, (plain, follows)) =
      let whole = found-whole e.file meant.ordered site (OfRule r) there in
      let both = parted (IsAt e.file) (pieces_opt_conds r.cond) (pieces_body r.body) whole.1.1 in
      let top : Framing e frame Top = file-framing frame file in
      ap Some (under-some-true frame Top r.cond (body_verdict world e.names (Inner root_location Top) r.body) verdict (FollowsBody known before frame r.body) cites top both.0
      (rule-body frame site r verdict top there both.1) follows)
  verdict-true frame site env kind.Rule (Some OfFile) cites verdict framing there (file, new, follows) =
      ap Some (loose-true frame e.file.loose cites verdict (file-framing frame file) follows)
  verdict-true frame site env kind.Conj (Some (OfBody (body n lets ds))) cites verdict framing there h =
      let whole = found-whole e.file meant.ordered site (OfBody (body n lets ds)) there in
      let both = parted (IsAt e.file) (pieces_lets lets) (pieces_disjs ds) whole.1.1 in
      ap Some (conj-true frame env None ds cites verdict (alike-all conjunction) framing both.1 h)
  verdict-true frame site env kind.Conj (Some (OfConds (conds n ds))) cites verdict framing there h =
      let whole = found-whole e.file meant.ordered site (OfConds (conds n ds)) there in
      ap Some (conj-true frame env (conds_stop e.version) ds cites verdict (alike-conds e.version) framing whole.1.1 h)
  verdict-true frame site env kind.Conj (Some OfFile) cites verdict framing there h =
      ap Some (conj-true frame env None e.file.loose cites verdict (alike-all conjunction) framing (loose-there e.file meant.ordered) h)
  verdict-true frame site env kind.Disj (Some (OfDisj (disj n parts))) cites verdict framing there (verdicts, say, is) =
      let whole = found-whole e.file meant.ordered site (OfDisj (disj n parts)) there in
      ap Some (sym (alike-disj e.version verdicts (part_verdicts world e.names env parts) (parts-true frame env (disj_stop e.version) parts cites verdicts framing whole.1.1 say)) ∙ sym is)
  verdict-true frame site env of (Some (OfPart p)) cites verdict framing there h = part-true frame site env of p cites verdict framing there h
  verdict-true frame site env of p cites verdict framing there h = absurd h
