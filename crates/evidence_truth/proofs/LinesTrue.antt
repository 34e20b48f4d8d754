-- All lines that follow hold, by induction on the list of lines.
use Rattle.std.proofs.Common.{◌≡◌, ◌<◌, ◌≤◌, ℕ, zero, suc, true, false, refl, sym, ap, ap₂, ◌∙◌, subst, inl, inr, arith, append_assoc, true≢false, List, [], ◌∷◌, ◌++◌, length, drop, map, slice_get, unwrap_or, Option, Some, is_some}
use Rattle.std.specs.Prelude.{Contains, slice_index_or}
use Rattle.std.proofs.lemmas.List.{append-nil, length-map, map-append}
use Rattle.std.proofs.lemmas.Option.{same_Some, none-some}
use Rattle.doc_values.specs.Tree.{Forest}
use Rattle.evidence_lines.specs.Lines.{line_of}
use Rattle.evidence_lines.specs.Shapes.{HasShape, is_placed, sort_of, sort_said}
use Rattle.evidence_lines.specs.declared.line.Line.{Line}
use Rattle.evidence_lines.specs.declared.version.Version.{Version}
use Rattle.evidence_lines.specs.declared.line.LineKind.{LineKind}
use Rattle.evidence_lines.specs.declared.line.LineKind.TheVariants as kind
use Rattle.evidence_lines.specs.declared.line.Outcome.{Outcome}
use Rattle.evidence_lines.specs.declared.line.Outcome.TheVariants as says
use Rattle.evidence_lines.specs.declared.line.Sort.{Sort}
use Rattle.evidence_lines.specs.declared.line.Sort.TheVariants as sort
use Rattle.guard_syntax.specs.Named.{Named}
use Rattle.guard_syntax.specs.Syntax.{Disjs, File, Part, Rule, call, no_disjs, more_disjs}
use Rattle.guard_syntax.specs.declared.row.Ref.{Ref}
use Rattle.guard_syntax.specs.declared.row.Verdict.{Verdict}
use Rattle.rule_names.specs.Pieces.{Piece, OfBody, OfFile, OfPart, OfRule, piece_at, pieces_file}
use Rattle.rule_names.proofs.Parts.{hits}
use Rattle.rule_meaning.specs.StoreModel.{StoreModel, Made}
use Rattle.evidence_rules.specs.Follows.{AllFollow, Follows, FollowsIn, IsFrameOf, IsFrameOfPart, nothing_made}
use Rattle.rule_meaning.specs.Seeing.{are_called, grown, world_of}
use Rattle.rule_meaning.specs.Environments.{Environment, Top}
use Rattle.rule_meaning.specs.FunctionMeaning.{IsAnswering}
use Rattle.rule_meaning.specs.Meaning.{Names, disj_verdicts}
use Rattle.rule_meaning.specs.code.Fixpoint.{IsFixpoint}
use Rattle.rule_meaning.specs.NameMeaning.{loose_verdict, rule_by, rule_verdict}
use Rattle.rule_meaning.specs.Locations.{Answers, World}
use Rattle.rule_meaning.specs.Verdicts.{conjunction}
use Rattle.evidence_truth.proofs.FollowingKnown.{follows-called}
use Rattle.evidence_rules.proofs.FollowingShapes.{follows-shape}
use Rattle.evidence_rules.proofs.LinesBehind.{at-end, behind-first}
use Rattle.evidence_rules.specs.RuleLines.{AreFrom, AreOfRules, IsSaidOf}
use Rattle.evidence_rules.specs.code.Judgement.{FollowTo, Holds, HoldsAt, HoldsIn, line_sites, ruled_verdict, verdict_or_none, verdicts_of}
use Rattle.evidence_truth.proofs.HeldLines.{follows-held, held-behind, is_held_outcome}
use Rattle.evidence_truth.proofs.LinesSoFar.{Cut, Evidence, Framing, IsCurrent, IsFramed, Meant, Past, ValueFits, frame-names, last_store, store_of, value-current, world_for}
use Rattle.evidence_truth.proofs.PiecesAt.{IsOrdered, ordered-by}
use Rattle.evidence_truth.proofs.RuleTargets.{target-apart}
use Rattle.evidence_truth.proofs.StepsTrue.{rows-true}
use Rattle.evidence_truth.proofs.VerdictsTrue.{rule-at, verdict-true}

-- ---- lists of lines

front : (xs ys : List Line) (n : ℕ) (l : Line) → slice_get xs n ≡ Some l → slice_get (xs ++ ys) n ≡ Some l
front [] ys n l is = absurd (none-some l is)
front (x ∷ xs) ys zero l is = is
front (x ∷ xs) ys (suc n) l is = front xs ys n l is

line-in : (xs ys zs : List Line) → xs ++ ys ≡ zs → (number : ℕ) (l : Line) → line_of xs number ≡ Some l → line_of zs number ≡ Some l
line-in xs ys zs split zero l is = absurd (none-some l is)
line-in xs ys zs split (suc n) l is =
    ap (λ (ls : List Line). line_of ls (suc n)) (sym split) ∙ behind-first (xs ++ ys) n ∙ front xs ys n l (sym (behind-first xs n) ∙ is)

pub no-line : (number : ℕ) (l : Line) → line_of [] number ≡ Some l → ⊥
no-line zero l is = none-some l is
no-line (suc n) l is = none-some l (sym (behind-first [] n) ∙ is)

-- what holds of the lines before and of one behind them
one-behind : (P : Line → Type 0) (before : List Line) (line : Line) → ((number : ℕ) (l : Line) → line_of before number ≡ Some l → P l) → P line
    → (number : ℕ) (l : Line) → line_of (before ++ line ∷ []) number ≡ Some l → P l
one-behind P before line old new zero l is = absurd (none-some l is)
one-behind P before line old new (suc n) l is =
    elim (at-end before line n l (sym (behind-first (before ++ line ∷ []) n) ∙ is)) [
      | inl there ↦ old (suc n) l (behind-first before n ∙ there)
      | inr same ↦ subst P same new
    ]

-- ---- one line

-- sorts told apart
sort_tag : Sort → ℕ
sort_tag sort.Value = 0
sort_tag sort.Rows = 1
sort_tag sort.Verdict = 2

module _ (e : Evidence) (meant : Meant e) (made : List Made) (before : List Line) (past : Past e made before) where
  abbrev known : StoreModel
  known = store_of e made

  part-fits : (frame : ℕ) (p : Part) (v : Ref) → IsFrameOfPart known before frame p v → IsCurrent e frame v
  part-fits frame (call n negated name args message) v has = λ env framing. value-current e made before past frame v env has framing
  part-fits frame p v has = absurd has

  value-fits : (frame : ℕ) (p : Option Piece) (v : Ref) → IsFrameOf known before frame p v → ValueFits e frame p v
  value-fits frame (Some (OfBody b)) v h = elim h [
    | inl rule ↦ inl rule
    | inr others ↦ elim others [
      | inl when ↦ inr (inl (when.0, λ env framing. value-current e made before past frame v env when.1 framing))
      | inr block ↦ inr (inr block.0)
    ]
  ]
  value-fits frame (Some (OfPart p)) v h = part-fits frame p v h
  value-fits frame p v h = tt

  module _ (line : Line) (more : List Made) (next : Cut e (made ++ more) (before ++ line ∷ [])) (held : is_held_outcome (store_of e (made ++ more)) line.outcome ≡ true) where
    module _ (frame site : ℕ) (env : Environment) (site_is : line.site ≡ Some site) (framing : Framing e frame env) where
      holds-in : (of : LineKind) (said : Outcome) → is_held_outcome (store_of e (made ++ more)) said ≡ true → FollowsIn e.version known before frame site of line.cites said more
          → HoldsIn (last_store e) e.lines (world_for e) e.names env of (piece_at e.file site) said
      holds-in kind.Frame (says.Value v) here h = tt
      holds-in of (says.Rows rows) here h = rows-true e meant made before past line more next frame site env site_is framing of (piece_at e.file site) line.cites rows refl here h
      holds-in of (says.Verdict verdict) here h = verdict-true e meant made before past frame site env of (piece_at e.file site) line.cites verdict framing refl h.0
      holds-in of said here h = absurd h

      framed-in : (said : Outcome) → line.outcome ≡ said → line.frame ≡ Some frame → sort_said said ≡ sort.Value → FollowsIn e.version known before frame site kind.Frame line.cites said more → IsFramed e line kind.Frame
      unfolding sort_tag
      framed-in (says.Value v) said_is frame_is sorted h = (frame, site, v, env, frame_is, site_is, said_is, framing, value-fits frame (piece_at e.file site) v h.1)
      framed-in (says.Rows rows) said_is frame_is sorted h = let tags : 1 ≡ 0 = ap sort_tag sorted in absurd (omega (arith, tags))
      framed-in (says.Verdict verdict) said_is frame_is sorted h = let tags : 2 ≡ 0 = ap sort_tag sorted in absurd (omega (arith, tags))

      framed-by : (of : LineKind) → line.kind ≡ of → line.frame ≡ Some frame → HasShape line → FollowsIn e.version known before frame site of line.cites line.outcome more → IsFramed e line of
      framed-by kind.File of_is frame_is shape h =
          let placed : true ≡ false = sym (ap is_some frame_is) ∙ shape.framed ∙ ap is_placed of_is in
          absurd (true≢false placed)
      framed-by kind.Frame of_is frame_is shape h = framed-in line.outcome refl frame_is (shape.said ∙ ap sort_of of_is) h
      framed-by _ of_is frame_is shape h = tt

    pub line-true : Follows e.version (store_of e made) before line more → Holds (last_store e) e.lines (world_for e) e.names line × IsFramed e line line.kind
    line-true follows = let shape = follows-shape e.version known before line more follows in elim follows [
      | inl ((kind_is, frame_is, site_is, cites_are, outcome_is), none) ↦ (
        subst (λ (f : Option ℕ). HoldsAt (last_store e) e.lines (world_for e) e.names line f line.site) (sym frame_is) kind_is,
        subst (λ (k : LineKind). IsFramed e line k) (sym kind_is) outcome_is,
      )
      | inr (frame, site, frame_is, site_is, home, h) ↦
          let around = frame-names e made before past frame _ home in
          let said : HoldsAt (last_store e) e.lines (world_for e) e.names line (Some frame) (Some site) = (around.0, around.1, holds-in frame site around.0 site_is around.1 line.kind line.outcome held h) in (
            subst (λ (f : Option ℕ). HoldsAt (last_store e) e.lines (world_for e) e.names line f line.site) (sym frame_is)
                (subst (λ (s : Option ℕ). HoldsAt (last_store e) e.lines (world_for e) e.names line (Some frame) s) (sym site_is) said),
            framed-by frame site around.0 site_is around.1 line.kind refl frame_is shape h,
          )
    ]

-- ---- all lines

-- the trees behind those that are there
pub later-trees : (version : Version) (template : Forest) (file : File) (made : List Made) (before rest : List Line) (last : StoreModel) → FollowTo version (record { template = template; file = file; made = made }) before rest last
    → (later : List Made) × (last ≡ record { template = template; file = file; made = made ++ later })
later-trees version template file made before [] last follow = ([], sym follow ∙ ap (λ (trees : List Made). record { template = template; file = file; made = trees }) (sym (append-nil made)))
later-trees version template file made before (line ∷ rest) last (more, follows, others) =
    let behind = later-trees version template file (made ++ more) (before ++ line ∷ []) rest last others in
    (more ++ behind.0, behind.1 ∙ ap (λ (trees : List Made). record { template = template; file = file; made = trees }) (append_assoc made more behind.0))

module _ (e : Evidence) (meant : Meant e) where
  abbrev pub HoldsOf : Line → Type 0
  HoldsOf l = Holds (last_store e) e.lines (world_for e) e.names l

  pub one-more : (made : List Made) (before rest : List Line) (line : Line) (more : List Made) → before ++ line ∷ rest ≡ e.lines → Past e made before → Follows e.version (store_of e made) before line more
      → FollowTo e.version (store_of e (made ++ more)) (before ++ line ∷ []) rest (last_store e) → Past e (made ++ more) (before ++ line ∷ [])
  one-more made before rest line more split past follows others =
      let behind = later-trees e.version e.template e.file (made ++ more) (before ++ line ∷ []) rest (last_store e) others in
      let splits : (before ++ line ∷ []) ++ rest ≡ e.lines = append_assoc before (line ∷ []) rest ∙ split in
      let counted : length (line_sites before) ≡ length before = length-map before (λ (l : Line). unwrap_or l.site 0) in
      let sites : line_sites (before ++ line ∷ []) ≡ line_sites before ++ unwrap_or line.site 0 ∷ [] = map-append (λ (l : Line). unwrap_or l.site 0) before (line ∷ []) in
      let next : Cut e (made ++ more) (before ++ line ∷ []) = record {
        later = behind.0;
        grows = ap (λ (k : StoreModel). k.made) (sym behind.1);
        rest = rest;
        splits = splits;
        called = subst (λ (ns : List ℕ). are_called ns (made ++ more) ≡ true) (sym sites)
            (follows-called e.version (store_of e made) before line more (line_sites before) (unwrap_or line.site 0) counted past.cut.called follows);
      } in
      let held : is_held_outcome (store_of e (made ++ more)) line.outcome ≡ true = follows-held (store_of e made) before past.held (line_sites before) counted past.cut.called e.version line more follows in
      let new = line-true e meant made before past line more next held follows in
      record {
        cut = next;
        held = held-behind (store_of e made) more before line past.held held;
        stand = line-in (before ++ line ∷ []) rest e.lines splits;
        holds = one-behind HoldsOf before line past.holds new.0;
        framed = one-behind (λ (l : Line). IsFramed e l l.kind) before line past.framed new.1;
      }

  all-hold : (made : List Made) (before rest : List Line) → before ++ rest ≡ e.lines → Past e made before → FollowTo e.version (store_of e made) before rest (last_store e)
      → (number : ℕ) (l : Line) → line_of e.lines number ≡ Some l → HoldsOf l
  all-hold made before [] split past follow number l is =
      past.holds number l (ap (λ (ls : List Line). line_of ls number) (sym (append-nil before) ∙ split) ∙ is)
  all-hold made before (line ∷ rest) split past (more, follows, others) number l is =
      all-hold (made ++ more) (before ++ line ∷ []) rest (append_assoc before (line ∷ []) rest ∙ split) (one-more made before rest line more split past follows others) others number l is

  pub lines-hold : FollowTo e.version (nothing_made e.template e.file) [] e.lines (last_store e) → (number : ℕ) (l : Line) → line_of e.lines number ≡ Some l → HoldsOf l
  lines-hold follow number l is =
      let start : Past e [] [] = record {
        cut = record { later = e.made; grows = refl; rest = e.lines; splits = refl; called = refl };
        held = λ number l there. absurd (no-line number l there);
        stand = λ number l there. absurd (no-line number l there);
        holds = λ number l there. absurd (no-line number l there);
        framed = λ number l there. absurd (no-line number l there);
      } in
      all-hold [] [] e.lines refl start follow number l is

-- whatever the last store is
pub known-hold : (version : Version) (template : Forest) (file : File) (lines : List Line) (known : StoreModel) (answers : Answers) (names : Names)
    → ((e : Evidence) → e.file ≡ file → IsAnswering (world_for e) → IsFixpoint (world_for e) e.names → Meant e)
    → FollowTo version (nothing_made template file) [] lines known → IsAnswering (world_of known answers) → IsFixpoint (world_of known answers) names
    → (number : ℕ) (l : Line) → line_of lines number ≡ Some l → Holds known lines (world_of known answers) names l
known-hold version template file lines known answers names means follow =
    let trees = later-trees version template file [] [] lines known follow in
    subst (λ (k : StoreModel). FollowTo version (nothing_made template file) [] lines k → IsAnswering (world_of k answers) → IsFixpoint (world_of k answers) names
    → (number : ℕ) (l : Line) → line_of lines number ≡ Some l → Holds k lines (world_of k answers) names l) (sym trees.1)
    (λ followed answering obeys.
    let e : Evidence = record { version = version; template = template; file = file; made = trees.0; lines = lines; answers = answers; names = names } in
    lines-hold e (means e refl answering obeys) followed) follow

-- each of a list, by its index
got-at : (xs : List Line) (n : ℕ) (d : Line) → n < length xs → slice_get xs n ≡ Some (slice_index_or xs n d)
got-at [] n d within = absurd (omega (arith, within))
got-at (x ∷ xs) zero d within = refl
got-at (x ∷ xs) (suc n) d within = got-at xs n d (omega (arith, within))

pub line-at : (lines : List Line) (k : ℕ) (d : Line) → k < length lines → line_of lines (suc k) ≡ Some (slice_index_or lines k d)
line-at lines k d within = behind-first lines k ∙ got-at lines k d within

-- lines that follow make a last store
pub some-last : (version : Version) (known : StoreModel) (before rest : List Line) → AllFollow version known before rest
    → (last : StoreModel) × FollowTo version known before rest last
some-last version known before [] follow = (known, refl)
some-last version known before (line ∷ rest) (more, follows, others) =
    let behind = some-last version (grown known more) (before ++ line ∷ []) rest others in
    (behind.0, (more, follows, behind.1))

-- ---- rules

-- a file that was resolved
pub meant-by : (file : File) → ((n : ℕ) → hits n (pieces_file file) ≤ 1) → (e : Evidence) → e.file ≡ file → IsAnswering (world_for e) → IsFixpoint (world_for e) e.names → Meant e
meant-by file few e same answering obeys =
    let few_here : (n : ℕ) → hits n (pieces_file e.file) ≤ 1 = subst (λ (f : File). (n : ℕ) → hits n (pieces_file f) ≤ 1) (sym same) few in
    let ordered : IsOrdered e.file = ordered-by e.file few_here in
    record { alone = few_here; ordered = ordered; targets = target-apart e.file ordered; answering = answering; obeys = obeys }

-- the last store is over the same file
pub file-kept : (version : Version) (template : Forest) (file : File) (lines : List Line) (known : StoreModel) → FollowTo version (nothing_made template file) [] lines known → known.file ≡ file
file-kept version template file lines known follow = let trees = later-trees version template file [] [] lines known follow in ap (λ (k : StoreModel). k.file) trees.1

-- what a `rule` line says where it holds
pub said-ruled : (known : StoreModel) (lines : List Line) (world : World) (names : Names) (site : ℕ) (verdict : Verdict)
    → ((number : ℕ) (l : Line) → line_of lines number ≡ Some l → Holds known lines world names l) → IsSaidOf lines site verdict → ruled_verdict world names (piece_at world.file site) ≡ Some verdict
said-ruled known lines world names site verdict hold (number, frame, is) =
    let h : HoldsAt known lines world names is.line is.line.frame is.line.site = hold number is.line is.stands in
    let framed : HoldsAt known lines world names is.line (Some frame) is.line.site = subst (λ (f : Option ℕ). HoldsAt known lines world names is.line f is.line.site) is.frame_is h in
    let sited : HoldsAt known lines world names is.line (Some frame) (Some site) = subst (λ (s : Option ℕ). HoldsAt known lines world names is.line (Some frame) s) is.site_is framed in
    subst (λ (o : Outcome). HoldsIn known lines world names sited.0 kind.Rule (piece_at world.file site) o) is.outcome_is
    (subst (λ (k : LineKind). HoldsIn known lines world names sited.0 k (piece_at world.file site) is.line.outcome) is.kind_is sited.2)

-- functions that are the same on a list are the same at each of it
same-at : (f g : Rule → Verdict) (rs : List Rule) (k : ℕ) (d : Rule) → map f rs ≡ map g rs → k < length rs → f (slice_index_or rs k d) ≡ g (slice_index_or rs k d)
same-at f g [] k d same within = absurd (omega (arith, within))
same-at f g (r ∷ rs) zero d same within = ap (λ (vs : List Verdict). slice_index_or vs 0 (f r)) same
same-at f g (r ∷ rs) (suc k) d same within = same-at f g rs k d (ap (λ (vs : List Verdict). drop 1 vs) same) (omega (arith, within))

pub same-in : (f g : Rule → Verdict) (rs : List Rule) (r : Rule) → map f rs ≡ map g rs → Contains rs r → f r ≡ g r
same-in f g rs r same (k, within, is) = subst (λ (x : Rule). f x ≡ g x) is (same-at f g rs k r same within)

-- so a rule that is said to have a verdict has it, where all names that mean what theirs say give it the same
pub rule-is : (file : File) → IsOrdered file → (known : StoreModel) (lines : List Line) (world : World) (names : Names) (r : Rule) (verdict : Verdict) → world.file ≡ file
    → ((number : ℕ) (l : Line) → line_of lines number ≡ Some l → Holds known lines world names l) → map (rule_by world names) world.file.rules ≡ map (rule_verdict world) world.file.rules
    → Contains file.rules r → IsSaidOf lines r.site verdict → verdict ≡ rule_verdict world r
rule-is file ordered known lines world names r verdict same hold one among said =
    let there : piece_at world.file r.site ≡ Some (OfRule r) = ap (λ (f : File). piece_at f r.site) same ∙ rule-at file ordered r among in
    let by_names : rule_by world names r ≡ verdict = same_Some (rule_by world names r) verdict (ap (ruled_verdict world names) (sym there) ∙ said-ruled known lines world names r.site verdict hold said) in
    let here : Contains world.file.rules r = subst (λ (f : File). Contains f.rules r) (sym same) among in
    sym by_names ∙ same-in (rule_by world names) (rule_verdict world) world.file.rules r one here

-- and so it is with the parts outside rules
pub loose-is : (file : File) → IsOrdered file → (known : StoreModel) (lines : List Line) (world : World) (names : Names) (verdict : Verdict) → world.file ≡ file
    → ((number : ℕ) (l : Line) → line_of lines number ≡ Some l → Holds known lines world names l)
    → conjunction (disj_verdicts world names Top world.file.loose) ≡ loose_verdict world world.file.loose → IsSaidOf lines 0 verdict → verdict ≡ loose_verdict world file.loose
loose-is file ordered known lines world names verdict same hold one said =
    let there : piece_at world.file 0 ≡ Some OfFile = ap (λ (f : File). piece_at f 0) same ∙ ordered.0 in
    let by_names : conjunction (disj_verdicts world names Top world.file.loose) ≡ verdict =
    same_Some (conjunction (disj_verdicts world names Top world.file.loose)) verdict (ap (ruled_verdict world names) (sym there) ∙ said-ruled known lines world names 0 verdict hold said) in
    sym by_names ∙ one ∙ ap (λ (f : File). loose_verdict world f.loose) same

-- ---- all verdicts

-- whatever stands for what is past the end, an element is the same
same-element : (rs : List Rule) (k : ℕ) (d d' : Rule) → k < length rs → slice_index_or rs k d ≡ slice_index_or rs k d'
same-element [] k d d' within = absurd (omega (arith, within))
same-element (r ∷ rs) zero d d' within = refl
same-element (r ∷ rs) (suc k) d d' within = same-element rs k d d' (omega (arith, within))

pub contained : (rs : List Rule) (k : ℕ) (d : Rule) → k < length rs → Contains rs (slice_index_or rs k d)
contained rs k d within = (k, within, same-element rs k (slice_index_or rs k d) d within)

one-verdict : (params : List Named) (Is : Verdict → Type 0) (AreOthers : List Verdict → Type 0) (verdict : Verdict) (others : List Verdict) → ((v : Verdict) → Is v → v ≡ verdict)
    → ((vs : List Verdict) → AreOthers vs → vs ≡ others) → (verdicts : List Verdict) → AreFrom params Is AreOthers verdicts → verdicts ≡ verdict_or_none params verdict others
one-verdict [] Is AreOthers verdict others one rest [] are = absurd are
one-verdict [] Is AreOthers verdict others one rest (v ∷ vs) are = ap₂ (λ (x : Verdict) (xs : List Verdict). x ∷ xs) (one v are.0) (rest vs are.1)
one-verdict (p ∷ params) Is AreOthers verdict others one rest vs are = rest vs are

module _ (lines : List Line) (world : World) where
  -- where each rule of some has the verdict that is said of it, and so have the parts outside rules
  pub verdicts-are : (rs : List Rule) (loose : Disjs) (verdicts : List Verdict)
      → ((k : ℕ) (d : Rule) (verdict : Verdict) → k < length rs → IsSaidOf lines (slice_index_or rs k d).site verdict → verdict ≡ rule_verdict world (slice_index_or rs k d))
      → ((verdict : Verdict) → IsSaidOf lines 0 verdict → verdict ≡ loose_verdict world loose) → AreOfRules lines rs loose verdicts → verdicts ≡ verdicts_of world rs loose
  verdicts-are [] no_disjs verdicts each of_loose are = are
  verdicts-are [] (more_disjs d ds) (verdict ∷ []) each of_loose said = ap (λ (v : Verdict). v ∷ []) (of_loose verdict said)
  verdicts-are [] (more_disjs d ds) verdicts each of_loose are = absurd are
  verdicts-are (r ∷ rs) loose verdicts each of_loose are =
      one-verdict r.params (IsSaidOf lines r.site) (AreOfRules lines rs loose) (rule_verdict world r) (verdicts_of world rs loose) (λ verdict said. each 0 r verdict (omega arith) said)
      (λ others are. verdicts-are rs loose others (λ k d verdict within said. each (suc k) d verdict (omega (arith, within)) said) of_loose are) verdicts are

-- accepted evidence says the verdicts of the file
pub accepted-are : (file : File) (lines : List Line) (world : World) (verdicts : List Verdict)
    → ((rule : Rule) (verdict : Verdict) → Contains file.rules rule → IsSaidOf lines rule.site verdict → verdict ≡ rule_verdict world rule)
    → ((verdict : Verdict) → IsSaidOf lines 0 verdict → verdict ≡ loose_verdict world file.loose) → AreOfRules lines file.rules file.loose verdicts
    → verdicts ≡ verdicts_of world file.rules file.loose
accepted-are file lines world verdicts rules loose are =
    verdicts-are lines world file.rules file.loose verdicts (λ k d verdict within said. rules (slice_index_or file.rules k d) verdict (contained file.rules k d within) said) loose are

-- what functions answer in the last store they answer where nothing is made
pub same-world : (version : Version) (template : Forest) (file : File) (lines : List Line) (known : StoreModel) (answers : Answers) → FollowTo version (nothing_made template file) [] lines known
    → world_of (nothing_made template file) answers ≡ world_of known answers
same-world version template file lines known answers follow =
    let trees = later-trees version template file [] [] lines known follow in
    ap (λ (k : StoreModel). world_of k answers) (sym trees.1)
