-- Lines of parts by their kinds: what each asks of the parts in it, what its line asks for behind theirs, and what is answered then.
use Rattle.std.proofs.Common.{◌≡◌, ◌<◌, ◌≤◌, ℕ, Bool, true, false, refl, sym, ap, ◌∙◌, subst, arith, slice_get, List, [], ◌∷◌, ◌++◌, length, Contains, Some, None, option_map}
use Rattle.std.specs.List.{list_all}
use Rattle.std.proofs.lemmas.Option.{same_Some}
use Rattle.evidence_lines.specs.declared.line.Line.{Line}
use Rattle.evidence_lines.specs.declared.line.LineKind.{LineKind}
use Rattle.evidence_lines.specs.declared.line.LineKind.TheVariants as kind
use Rattle.evidence_lines.specs.declared.line.Outcome.TheVariants as says
use Rattle.evidence_lines.specs.declared.version.Version.TheVariants.{Two}
use Rattle.guard_syntax.specs.Syntax as sx
use Rattle.guard_syntax.specs.Syntax.{File, block, guarded, kinds, no_conds, with_conds}
use Rattle.guard_syntax.specs.declared.row.Ref.{Ref}
use Rattle.guard_syntax.specs.declared.row.Row.{Row}
use Rattle.guard_syntax.specs.declared.row.Verdict.{Verdict}
use Rattle.guard_syntax.specs.declared.row.Verdict.TheVariants.{Skip}
use Rattle.rule_names.specs.EnclosingScopes.{home_of}
use Rattle.rule_names.specs.Pieces.{AreInOrder, OfPart, Sited, piece_at}
use Rattle.rule_names.specs.ReferenceGraph.{part_site}
use Rattle.rule_names.specs.Uses.{query_site}
use Rattle.rule_meaning.specs.StoreModel.{is_known}
use Rattle.rule_meaning.specs.Verdicts.{is_pass}
use Rattle.evidence_rules.specs.CitedLines.{GivesQuery, IsLine, body_site}
use Rattle.evidence_rules.specs.Follows.{FollowsRowsOf, FollowsTyped, SaysBody, block_stop, conds_site}
use Rattle.scope_frames.specs.code.Frames.{IsPlain, StandsFor}
use Rattle.scope_frames.specs.declared.frame.Frame.{Frame}
use Rattle.scope_frames.proofs.EnteredFrames.{has-frame}
use Rattle.engine_states.specs.code.Adding.{Added, Adds}
use Rattle.engine_states.specs.code.Answers.{Answers, AnswersBodies, AnswersBody, AnswersQuery, AnswersTyped, AnswersVerdict, IsBlock, IsBodyIn, IsBodyOfRows, IsGuarded, IsKinds, SaysRows, StandsIn, StandsPart, StandsWithin, above}
use Rattle.engine_states.specs.code.Entered.{MayHaveValue}
use Rattle.engine_states.specs.code.Evaluated.{Evaluates}
use Rattle.engine_states.specs.code.Falling.{height_at}
use Rattle.engine_states.specs.code.Inside.{AreInside, IsInside, body_sited, conds_sited, opt_conds_sited, query_sited}
use Rattle.engine_states.specs.code.Kinds.{kind_of_part, own_kind}
use Rattle.engine_states.specs.code.States.{Grows, IsWhole, State}
use Rattle.engine_states.proofs.AddsLines.{adds-block, adds-guarded, adds-met-type, adds-plain-type, adds-unguarded, adds-unmet-type}
use Rattle.scope_frames.proofs.BodiesApart.{inner_body, plain-inner}
use Rattle.engine_states.proofs.BodyValues.{of-block, of-type, when-value}
use Rattle.engine_states.proofs.Evaluating.{Evaluates-none, Evaluates-then, Evaluates-under, same-file, same-height}
use Rattle.engine_states.proofs.InTurn.{SaidFor, said-next}
use Rattle.engine_states.proofs.Insides.{insides}
use Rattle.engine_states.proofs.KnownLines.{query-known, rows-known}
use Rattle.engine_states.proofs.Ranks.{rank-on, rank_in}
use Rattle.engine_states.proofs.SaidLater.{line-later, query-later}
use Rattle.engine_states.proofs.VariablesSaid.{framed-later}
use Rattle.engine_states.proofs.VerdictsAnswered.{frame-known, home-still, judged-answer, kind-still, new-still, part-asked, part-under, stands-still}

-- ---- one evaluated, and lines said for one behind it

pub said-first : (a b : State) (bound least frame number : ℕ) (Says : (at : ℕ) → Type 0) → Answers a b least frame number Says → least ≤ bound → SaidFor a b bound frame (number ∷ []) Says
said-first a b bound least frame number Says it no_more = (Evaluates-under a b least bound (number ∷ []) no_more it.evaluates, it.at, it.framed, it.says)

pub said-then : (a b c : State) → IsWhole a → (bound least frame : ℕ) (numbers more : List ℕ) (Before Later Says : (at : ℕ) → Type 0) → SaidFor a b bound frame numbers Before
    → SaidFor b c least frame more Says → least ≤ bound → (Grows b c → (at : ℕ) → Before at → Later at) → SaidFor a c bound frame (numbers ++ more) (λ at. Later at × Says at)
said-then a b c whole bound least frame numbers more Before Later Says (evaluates, at, framed, before) (further, there, also, said) no_more stays =
    let later = framed-later b c further.grows evaluates.whole frame at framed in
    let same : there ≡ at = same_Some there at (sym also ∙ later) in (
      Evaluates-then a b c whole bound numbers more evaluates (Evaluates-under b c least bound more no_more further),
      at,
      later,
      (stays further.grows at before, subst Says same said),
    )

-- the current value of a frame
pub current-is : (s : State) (frame : ℕ) (v : Ref) (here : Frame) → slice_get s.frames frame ≡ Some here → option_map (λ (f : Frame). f.current) (slice_get s.frames frame) ≡ Some v
    → here.current ≡ v
current-is s frame v here there told = same_Some here.current v (sym (ap (option_map (λ (f : Frame). f.current)) there) ∙ told)

-- the line of a query says rows
pub query-says : (f : File) (lines : List Line) (at number : ℕ) (q : sx.Query) (rows : List Row) → GivesQuery f lines at q number rows → SaysRows lines number rows
query-says f lines at number (sx.query n steps) rows gives = (_, at, _, gives.2)

-- ---- a part, and what was evaluated for it

module _ (a b : State) (whole : IsWhole a) (frame : ℕ) (p : sx.Part) (stands : StandsPart a frame p) (bound : ℕ) (numbers : List ℕ) (it : Evaluates a b bound numbers) where
  pub part-there : piece_at b.known.file (part_site p) ≡ Some (OfPart p)
  part-there = (stands-still a b whole frame (home_of a.known.file (part_site p)) (part_site p, OfPart p) stands bound numbers it).there

  pub part-now : StandsPart b frame p
  part-now =
      subst (λ (f : File). StandsWithin b frame (home_of f (part_site p)) (part_site p, OfPart p)) (sym (same-file a b it.grows whole))
      (stands-still a b whole frame (home_of a.known.file (part_site p)) (part_site p, OfPart p) stands bound numbers it)

  pub part-kind : own_kind (piece_at b.known.file (part_site p)) ≡ Some (kind_of_part p)
  part-kind = kind-still a b whole frame (home_of a.known.file (part_site p)) (part_site p, OfPart p) stands bound numbers it (kind_of_part p) refl

  pub part-new : bound ≤ height_at a.known.file a.frames frame (part_site p) → a.parts frame (part_site p) ≡ None → b.parts frame (part_site p) ≡ None
  part-new = new-still a b whole frame (home_of a.known.file (part_site p)) (part_site p, OfPart p) stands bound numbers it

  pub part-answer : bound ≤ above a frame (part_site p) → (c : State) (cites : List ℕ) (verdict : Verdict) (line : ℕ) (said : Verdict) → ((n : ℕ) → Contains numbers n → Contains cites n)
      → Added b c frame (part_site p) (kind_of_part p) cites (says.Verdict verdict) line × (said ≡ verdict) → AnswersVerdict a c frame (kind_of_part p) (part_site p) line said
  part-answer no_more c cites verdict line said names added =
      judged-answer a b whole frame (home_of a.known.file (part_site p)) (part_site p, OfPart p) stands bound numbers it (kind_of_part p) refl no_more c cites verdict line said names
      added.0 added.1

  -- the same cites
  pub part-finished : bound ≤ above a frame (part_site p) → (c : State) (cites : List ℕ) (verdict : Verdict) (line : ℕ) (said : Verdict) → cites ≡ numbers
      → Added b c frame (part_site p) (kind_of_part p) cites (says.Verdict verdict) line × (said ≡ verdict) → AnswersVerdict a c frame (kind_of_part p) (part_site p) line said
  part-finished no_more c cites verdict line said same added =
      part-answer no_more c cites verdict line said (λ n among. subst (λ (ns : List ℕ). Contains ns n) (sym same) among) added

-- what is in a part asks for this, in the same frame
module _ (a b : State) (whole : IsWhole a) (ordered : AreInOrder a.known.file) (frame : ℕ) (p : sx.Part) (stands : StandsPart a frame p) (bound : ℕ) (numbers : List ℕ)
    (it : Evaluates a b bound numbers) (inner : Sited) (inside : IsInside a.known.file (part_site p) (OfPart p) inner) where
  pub inner-asked-for : (step next t : ℕ) → rank_in a frame (part_site p) step ≡ t → next < 8 → (rank_in b frame inner.0 next < t) × (IsWhole b × StandsIn b frame inner)
  inner-asked-for =
      part-asked a b whole ordered frame (home_of a.known.file (part_site p)) (part_site p, OfPart p) stands refl refl bound numbers it inner inside

  pub inner-under : above b frame inner.0 ≤ height_at a.known.file a.frames frame (part_site p)
  inner-under = part-under a b whole ordered frame (home_of a.known.file (part_site p)) (part_site p, OfPart p) stands refl refl bound numbers it inner inside

-- a body in it
module _ (a b : State) (whole : IsWhole a) (ordered : AreInOrder a.known.file) (frame : ℕ) (p : sx.Part) (stands : StandsPart a frame p) (bound : ℕ) (numbers : List ℕ)
    (it : Evaluates a b bound numbers) (x : sx.Body) (inner : inner_body p ≡ Some x) (inside : IsInside a.known.file (part_site p) (OfPart p) (body_sited x)) where
  body-now : StandsIn b frame (body_sited x)
  body-now = (inner-asked-for a b whole ordered frame p stands bound numbers it (body_sited x) inside 0 0 (rank_in a frame (part_site p) 0) refl (omega arith)).1.1

  body-plain : IsPlain b.known.file (body_site x)
  body-plain =
      subst (λ (f : File). IsPlain f (body_site x)) (sym (same-file a b it.grows whole))
      (plain-inner a.known.file ordered (part_site p) p x stands.there inner)

-- ---- conditions in a part

module _ (a b : State) (whole : IsWhole a) (ordered : AreInOrder a.known.file) (frame : ℕ) (p : sx.Part) (stands : StandsPart a frame p) (c : sx.Conds)
    (inside : IsInside a.known.file (part_site p) (OfPart p) (conds_sited c)) (line : ℕ) (w : Verdict) (it : AnswersVerdict a b frame kind.Conj (conds_site c) line w) where
  conditions-first : SaidFor a b (height_at a.known.file a.frames frame (part_site p)) frame (line ∷ []) (λ at. IsLine b.lines line kind.Conj at (conds_site c) (says.Verdict w))
  conditions-first =
      said-first a b (height_at a.known.file a.frames frame (part_site p)) (above a frame (conds_site c)) frame line
      (λ at. IsLine b.lines line kind.Conj at (conds_site c) (says.Verdict w)) it
      (inner-under a a whole ordered frame p stands 0 [] (Evaluates-none a 0 whole) (conds_sited c) inside)

  -- the line of the part, where nothing more is evaluated for it
  pub conditions-kind : own_kind (piece_at b.known.file (part_site p)) ≡ Some (kind_of_part p)
  conditions-kind = part-kind a b whole frame p stands (height_at a.known.file a.frames frame (part_site p)) (line ∷ []) conditions-first.0

  pub conditions-new : a.parts frame (part_site p) ≡ None → b.parts frame (part_site p) ≡ None
  conditions-new = part-new a b whole frame p stands (height_at a.known.file a.frames frame (part_site p)) (line ∷ []) conditions-first.0 (omega arith)

  pub conditions-answer : (d : State) (cites : List ℕ) (verdict : Verdict) (number : ℕ) (said : Verdict) → cites ≡ line ∷ []
      → Added b d frame (part_site p) (kind_of_part p) cites (says.Verdict verdict) number × (said ≡ verdict) → AnswersVerdict a d frame (kind_of_part p) (part_site p) number said
  conditions-answer =
      part-finished a b whole frame p stands (height_at a.known.file a.frames frame (part_site p)) (line ∷ []) conditions-first.0 (omega arith)

-- ---- a `when` block

guarded-inside : (f : File) → AreInOrder f → (site : ℕ) (c : sx.Conds) (x : sx.Body) → piece_at f site ≡ Some (OfPart (guarded site c x))
    → IsInside f site (OfPart (guarded site c x)) (conds_sited c) × IsInside f site (OfPart (guarded site c x)) (body_sited x)
guarded-inside f ordered site c x is =
    let all : AreInside f site (OfPart (guarded site c x)) (conds_sited c ∷ body_sited x ∷ []) = insides f ordered site (OfPart (guarded site c x)) is in
    (all.0, all.1.0)

pub guarded-asks : (a : State) (whole : IsWhole a) (ordered : AreInOrder a.known.file) (frame site : ℕ) (c : sx.Conds) (x : sx.Body) → IsGuarded a frame site c x
    → (step next t : ℕ) → rank_in a frame site step ≡ t → next < 8 → (rank_in a frame (conds_site c) next < t) × (IsWhole a × StandsIn a frame (conds_sited c))
guarded-asks a whole ordered frame site c x stands =
    inner-asked-for a a whole ordered frame (guarded site c x) stands 0 [] (Evaluates-none a 0 whole) (conds_sited c) (guarded-inside a.known.file ordered site c x stands.there).0

module _ (a b : State) (whole : IsWhole a) (ordered : AreInOrder a.known.file) (frame site : ℕ) (c : sx.Conds) (x : sx.Body) (stands : IsGuarded a frame site c x) (line : ℕ) (w : Verdict)
    (it : AnswersVerdict a b frame kind.Conj (conds_site c) line w) where
  guarded-first : SaidFor a b (height_at a.known.file a.frames frame site) frame (line ∷ []) (λ at. IsLine b.lines line kind.Conj at (conds_site c) (says.Verdict w))
  guarded-first = conditions-first a b whole ordered frame (guarded site c x) stands c (guarded-inside a.known.file ordered site c x stands.there).0 line w it

  -- conditions that are not PASS
  pub unguarded-adds : is_pass w ≡ false → (cites : List ℕ) → cites ≡ line ∷ [] → Adds b frame site kind.When cites (says.Verdict Skip)
  unguarded-adds unmet cites same =
      let first = guarded-first in
      let bound = height_at a.known.file a.frames frame site in
      subst (λ (ns : List ℕ). Adds b frame site kind.When ns (says.Verdict Skip)) (sym same)
      (adds-unguarded b first.0.whole frame first.1 site first.2
      (home-still a b whole frame (home_of a.known.file site) (site, OfPart (guarded site c x)) stands bound (line ∷ []) first.0 refl) site c x
      (part-there a b whole frame (guarded site c x) stands bound (line ∷ []) first.0) line w first.3 unmet)

  pub unguarded-kind : own_kind (piece_at b.known.file site) ≡ Some kind.When
  unguarded-kind = conditions-kind a b whole ordered frame (guarded site c x) stands c (guarded-inside a.known.file ordered site c x stands.there).0 line w it

  pub unguarded-new : a.parts frame site ≡ None → b.parts frame site ≡ None
  unguarded-new = conditions-new a b whole ordered frame (guarded site c x) stands c (guarded-inside a.known.file ordered site c x stands.there).0 line w it

  pub unguarded-answer : (d : State) (cites : List ℕ) (verdict : Verdict) (number : ℕ) (said : Verdict) → cites ≡ line ∷ []
      → Added b d frame site kind.When cites (says.Verdict verdict) number × (said ≡ verdict) → AnswersVerdict a d frame kind.When site number said
  unguarded-answer = conditions-answer a b whole ordered frame (guarded site c x) stands c (guarded-inside a.known.file ordered site c x stands.there).0 line w it

  -- those that are
  pub guarded-framed : frame < length b.frames
  guarded-framed =
      frame-known b frame (home_of a.known.file site) (site, OfPart (guarded site c x))
      (stands-still a b whole frame (home_of a.known.file site) (site, OfPart (guarded site c x)) stands (height_at a.known.file a.frames frame site) (line ∷ []) guarded-first.0)

  module _ (v : Ref) where
    pub guarded-body : option_map (λ (f : Frame). f.current) (slice_get b.frames frame) ≡ Some v → (step next t : ℕ) → rank_in a frame site step ≡ t → next < 8
        → (rank_in b frame (body_site x) next < t) × (IsWhole b × IsBodyIn b frame x v)
    guarded-body told step next t owed small =
        let first = guarded-first in
        let bound = height_at a.known.file a.frames frame site in
        let inside = (guarded-inside a.known.file ordered site c x stands.there).1 in
        let asked = inner-asked-for a b whole ordered frame (guarded site c x) stands bound (line ∷ []) first.0 (body_sited x) inside step next t owed small in
        let here = has-frame b.known.file b.frames frame (home_of b.known.file (body_site x)) asked.1.1.scope_is in (
          asked.0,
          (
            asked.1.0,
            (
              asked.1.1,
              body-plain a b whole ordered frame (guarded site c x) stands bound (line ∷ []) first.0 x refl inside,
              subst (λ (u : Ref). MayHaveValue b (Some frame) (body_site x) u) (current-is b frame v here.0 here.1 told)
                  (when-value b first.0.whole frame here.0 here.1 site c x (part-there a b whole frame (guarded site c x) stands bound (line ∷ []) first.0) asked.1.1.there),
            ),
          ),
        )

    module _ (d : State) (number : ℕ) (verdict : Verdict) (judged : AnswersBody b d frame x v number verdict) where
      guarded-second : SaidFor a d (height_at a.known.file a.frames frame site) frame (line ∷ number ∷ [])
          (λ at. IsLine d.lines line kind.Conj at (conds_site c) (says.Verdict w) × SaysBody d.known d.lines at x v number verdict)
      guarded-second =
          let first = guarded-first in
          let bound = height_at a.known.file a.frames frame site in
          said-next a b d whole bound (above b frame (body_site x)) frame number (line ∷ []) (λ at. IsLine b.lines line kind.Conj at (conds_site c) (says.Verdict w))
          (λ at. IsLine d.lines line kind.Conj at (conds_site c) (says.Verdict w)) (λ at. SaysBody d.known d.lines at x v number verdict) first judged
          (inner-under a b whole ordered frame (guarded site c x) stands bound (line ∷ []) first.0 (body_sited x) (guarded-inside a.known.file ordered site c x stands.there).1)
          (λ grows at is. line-later b d grows first.0.whole line kind.Conj at (conds_site c) (says.Verdict w) is)

      pub guarded-whole : IsWhole d
      guarded-whole = guarded-second.0.whole

      pub guarded-adds : is_pass w ≡ true → (cites : List ℕ) → cites ≡ line ∷ number ∷ [] → Adds d frame site kind.When cites (says.Verdict verdict)
      guarded-adds met cites same =
          let second = guarded-second in
          let bound = height_at a.known.file a.frames frame site in
          subst (λ (ns : List ℕ). Adds d frame site kind.When ns (says.Verdict verdict)) (sym same)
          (adds-guarded d second.0.whole frame second.1 site second.2
          (home-still a d whole frame (home_of a.known.file site) (site, OfPart (guarded site c x)) stands bound (line ∷ number ∷ []) second.0 refl) site c x
          (part-there a d whole frame (guarded site c x) stands bound (line ∷ number ∷ []) second.0) line w second.3.0 met number v verdict second.3.1)

      pub guarded-kind : own_kind (piece_at d.known.file site) ≡ Some kind.When
      guarded-kind = part-kind a d whole frame (guarded site c x) stands (height_at a.known.file a.frames frame site) (line ∷ number ∷ []) guarded-second.0

      pub guarded-new : a.parts frame site ≡ None → d.parts frame site ≡ None
      guarded-new = part-new a d whole frame (guarded site c x) stands (height_at a.known.file a.frames frame site) (line ∷ number ∷ []) guarded-second.0 (omega arith)

      pub guarded-answer : (e : State) (cites : List ℕ) (n : ℕ) (said : Verdict) → cites ≡ line ∷ number ∷ []
          → Added d e frame site kind.When cites (says.Verdict verdict) n × (said ≡ verdict) → AnswersVerdict a e frame kind.When site n said
      guarded-answer e cites n said same added =
          part-finished a d whole frame (guarded site c x) stands (height_at a.known.file a.frames frame site) (line ∷ number ∷ []) guarded-second.0 (omega arith) e cites verdict n said same added

-- ---- a block

block-inside : (f : File) → AreInOrder f → (site : ℕ) (any : Bool) (q : sx.Query) (x : sx.Body) → piece_at f site ≡ Some (OfPart (block site any q x))
    → IsInside f site (OfPart (block site any q x)) (query_sited q) × IsInside f site (OfPart (block site any q x)) (body_sited x)
block-inside f ordered site any q x is =
    let all : AreInside f site (OfPart (block site any q x)) (query_sited q ∷ body_sited x ∷ []) = insides f ordered site (OfPart (block site any q x)) is in
    (all.0, all.1.0)

pub block-asks : (a : State) (whole : IsWhole a) (ordered : AreInOrder a.known.file) (frame site : ℕ) (any : Bool) (q : sx.Query) (x : sx.Body) → IsBlock a frame site any q x
    → (step next t : ℕ) → rank_in a frame site step ≡ t → next < 8 → (rank_in a frame (query_site q) next < t) × (IsWhole a × StandsIn a frame (query_sited q))
block-asks a whole ordered frame site any q x stands =
    inner-asked-for a a whole ordered frame (block site any q x) stands 0 [] (Evaluates-none a 0 whole) (query_sited q) (block-inside a.known.file ordered site any q x stands.there).0

-- the rows that a query answers, as they are read
module _ (a b : State) (frame : ℕ) (q : sx.Query) (line : ℕ) (it : AnswersQuery a b frame q line) where
  pub query-said : (of : LineKind) × (at site : ℕ) × (rows : List Row) × IsLine b.lines line of at site (says.Rows rows)
  query-said = let said = query-says b.known.file b.lines it.at line q it.says.0 it.says.1 in (said.0, said.1, said.2, it.says.0, said.3)

  pub query-told : (got : List Row) → ((of : LineKind) (at site : ℕ) (rows : List Row) → IsLine b.lines line of at site (says.Rows rows) → got ≡ rows) → got ≡ it.says.0
  query-told got told = let said = query-says b.known.file b.lines it.at line q it.says.0 it.says.1 in told said.0 said.1 said.2 it.says.0 said.3

module _ (a b : State) (whole : IsWhole a) (ordered : AreInOrder a.known.file) (frame site : ℕ) (any : Bool) (q : sx.Query) (x : sx.Body) (stands : IsBlock a frame site any q x) (line : ℕ)
    (it : AnswersQuery a b frame q line) (rows : List Row) (are : rows ≡ it.says.0) where
  block-first : SaidFor a b (height_at a.known.file a.frames frame site) frame (line ∷ []) (λ at. GivesQuery b.known.file b.lines at q line rows)
  block-first = (
    Evaluates-under a b (above a frame (query_site q)) (height_at a.known.file a.frames frame site) (line ∷ [])
        (inner-under a a whole ordered frame (block site any q x) stands 0 [] (Evaluates-none a 0 whole) (query_sited q) (block-inside a.known.file ordered site any q x stands.there).0)
        it.evaluates,
    it.at,
    it.framed,
    subst (λ (rs : List Row). GivesQuery b.known.file b.lines it.at q line rs) (sym are) it.says.1,
  )

  pub block-body : (step next t : ℕ) → rank_in a frame site step ≡ t → next < 8
      → (rank_in b frame (body_site x) next < t) × (IsWhole b × (IsBodyOfRows b frame x × (list_all (is_known b.known) rows ≡ true)))
  block-body step next t owed small =
      let first = block-first in
      let bound = height_at a.known.file a.frames frame site in
      let inside = (block-inside a.known.file ordered site any q x stands.there).1 in
      let asked = inner-asked-for a b whole ordered frame (block site any q x) stands bound (line ∷ []) first.0 (body_sited x) inside step next t owed small in
      let here = has-frame b.known.file b.frames frame (home_of b.known.file (body_site x)) asked.1.1.scope_is in (
        asked.0,
        (
          asked.1.0,
          (
            (
              asked.1.1,
              body-plain a b whole ordered frame (block site any q x) stands bound (line ∷ []) first.0 x refl inside,
              of-block b first.0.whole frame here.0 here.1 site any q x (part-there a b whole frame (block site any q x) stands bound (line ∷ []) first.0),
            ),
            query-known b first.0.whole first.1 q line rows first.3,
          ),
        ),
      )

  module _ (d : State) (numbers : List ℕ) (verdict : Verdict) (judged : AnswersBodies b d frame any x rows numbers verdict) where
    block-second : SaidFor a d (height_at a.known.file a.frames frame site) frame (line ∷ numbers)
        (λ at. GivesQuery d.known.file d.lines at q line rows × FollowsRowsOf d.known d.lines at any (block_stop any Two) x rows numbers verdict)
    block-second =
        let first = block-first in
        let bound = height_at a.known.file a.frames frame site in
        said-then a b d whole bound (above b frame (body_site x)) frame (line ∷ []) numbers (λ at. GivesQuery b.known.file b.lines at q line rows)
        (λ at. GivesQuery d.known.file d.lines at q line rows) (λ at. FollowsRowsOf d.known d.lines at any (block_stop any Two) x rows numbers verdict) first judged
        (inner-under a b whole ordered frame (block site any q x) stands bound (line ∷ []) first.0 (body_sited x) (block-inside a.known.file ordered site any q x stands.there).1)
        (λ grows at gives. query-later b d grows first.0.whole at q line rows gives)

    pub block-whole : IsWhole d
    block-whole = block-second.0.whole

    pub block-adds : (cites : List ℕ) → cites ≡ line ∷ numbers → Adds d frame site kind.Block cites (says.Verdict verdict)
    block-adds cites same =
        let second = block-second in
        let bound = height_at a.known.file a.frames frame site in
        subst (λ (ns : List ℕ). Adds d frame site kind.Block ns (says.Verdict verdict)) (sym same)
        (adds-block d second.0.whole frame second.1 site second.2
        (home-still a d whole frame (home_of a.known.file site) (site, OfPart (block site any q x)) stands bound (line ∷ numbers) second.0 refl) site any q x
        (part-there a d whole frame (block site any q x) stands bound (line ∷ numbers) second.0) line numbers rows second.3.0 verdict second.3.1)

    pub block-kind : own_kind (piece_at d.known.file site) ≡ Some kind.Block
    block-kind = part-kind a d whole frame (block site any q x) stands (height_at a.known.file a.frames frame site) (line ∷ numbers) block-second.0

    pub block-new : a.parts frame site ≡ None → d.parts frame site ≡ None
    block-new = part-new a d whole frame (block site any q x) stands (height_at a.known.file a.frames frame site) (line ∷ numbers) block-second.0 (omega arith)

    pub block-answer : (e : State) (cites : List ℕ) (n : ℕ) (said : Verdict) → cites ≡ line ∷ numbers
        → Added d e frame site kind.Block cites (says.Verdict verdict) n × (said ≡ verdict) → AnswersVerdict a e frame kind.Block site n said
    block-answer e cites n said same added =
        part-finished a d whole frame (block site any q x) stands (height_at a.known.file a.frames frame site) (line ∷ numbers) block-second.0 (omega arith) e cites verdict n said same added

-- ---- a type block

kinds-inside : (f : File) → AreInOrder f → (site : ℕ) (name : List ℕ) (conditions : sx.OptConds) (x : sx.Body) → piece_at f site ≡ Some (OfPart (kinds site name conditions x))
    → AreInside f site (OfPart (kinds site name conditions x)) (opt_conds_sited conditions ++ body_sited x ∷ [])
kinds-inside f ordered site name conditions x is = insides f ordered site (OfPart (kinds site name conditions x)) is

kinds-conditions : (f : File) → AreInOrder f → (site : ℕ) (name : List ℕ) (c : sx.Conds) (x : sx.Body) → piece_at f site ≡ Some (OfPart (kinds site name (with_conds c) x))
    → IsInside f site (OfPart (kinds site name (with_conds c) x)) (conds_sited c)
kinds-conditions f ordered site name c x is = (kinds-inside f ordered site name (with_conds c) x is).0

kinds-body : (f : File) → AreInOrder f → (site : ℕ) (name : List ℕ) (conditions : sx.OptConds) (x : sx.Body) → piece_at f site ≡ Some (OfPart (kinds site name conditions x))
    → IsInside f site (OfPart (kinds site name conditions x)) (body_sited x)
kinds-body f ordered site name no_conds x is = (kinds-inside f ordered site name no_conds x is).0
kinds-body f ordered site name (with_conds c) x is = (kinds-inside f ordered site name (with_conds c) x is).1.0

-- the rows of the type, and the body on them
module _ (a b : State) (whole : IsWhole a) (ordered : AreInOrder a.known.file) (frame site : ℕ) (conditions : sx.OptConds) (x : sx.Body) (stands : IsKinds a frame site conditions x) (line : ℕ)
    (it : Answers a b (above a frame site) frame line (λ at. (rows : List Row) × IsLine b.lines line kind.Types at site (says.Rows rows)))
    (parts : (n m : ℕ) → b.parts n m ≡ a.parts n m) where
  pub types-said : (of : LineKind) × (at n : ℕ) × (rows : List Row) × IsLine b.lines line of at n (says.Rows rows)
  types-said = (kind.Types, it.at, site, it.says.0, it.says.1)

  pub types-told : (got : List Row) → ((of : LineKind) (at n : ℕ) (rows : List Row) → IsLine b.lines line of at n (says.Rows rows) → got ≡ rows) → got ≡ it.says.0
  types-told got told = told kind.Types it.at site it.says.0 it.says.1

  module _ (rows : List Row) (are : rows ≡ it.says.0) where
    typed-first : SaidFor a b (above a frame site) frame (line ∷ []) (λ at. IsLine b.lines line kind.Types at site (says.Rows rows))
    typed-first = (
      it.evaluates,
      it.at,
      it.framed,
      subst (λ (rs : List Row). IsLine b.lines line kind.Types it.at site (says.Rows rs)) (sym are) it.says.1,
    )

    typed-inside : IsInside a.known.file site (OfPart (kinds site stands.0 conditions x)) (body_sited x)
    typed-inside = kinds-body a.known.file ordered site stands.0 conditions x stands.1.there

    typed-under : above b frame (body_site x) ≤ height_at a.known.file a.frames frame site
    typed-under =
        inner-under a b whole ordered frame (kinds site stands.0 conditions x) stands.1 (above a frame site) (line ∷ []) typed-first.0 (body_sited x) typed-inside

    pub typed-body : (step next t : ℕ) → rank_in a frame site step ≡ t → next < 8
        → (rank_in b frame (body_site x) next < t) × (IsWhole b × (IsBodyOfRows b frame x × (list_all (is_known b.known) rows ≡ true)))
    typed-body step next t owed small =
        let first = typed-first in
        let bound = above a frame site in
        let asked = inner-asked-for a b whole ordered frame (kinds site stands.0 conditions x) stands.1 bound (line ∷ []) first.0 (body_sited x) typed-inside step next t owed small in
        let here = has-frame b.known.file b.frames frame (home_of b.known.file (body_site x)) asked.1.1.scope_is in (
          asked.0,
          (
            asked.1.0,
            (
              (
                asked.1.1,
                body-plain a b whole ordered frame (kinds site stands.0 conditions x) stands.1 bound (line ∷ []) first.0 x refl typed-inside,
                of-type b first.0.whole frame here.0 here.1 site stands.0 conditions x
                    (part-there a b whole frame (kinds site stands.0 conditions x) stands.1 bound (line ∷ []) first.0),
              ),
              rows-known b first.0.whole line first.1 site kind.Types rows first.3,
            ),
          ),
        )

    pub typed-answer : (d : State) (numbers : List ℕ) (verdict : Verdict) → AnswersBodies b d frame false x rows numbers verdict → (cites : List ℕ) → cites ≡ line ∷ numbers
        → AnswersTyped a d frame site x cites verdict
    typed-answer d numbers verdict judged cites same =
        let first = typed-first in
        let under = typed-under in
        let stays = same-height a b first.0.grows whole frame site (frame-known a frame (home_of a.known.file site) (site, OfPart (kinds site stands.0 conditions x)) stands.1) in
        let there = frame-known b frame (home_of a.known.file site) (site, OfPart (kinds site stands.0 conditions x))
        (stands-still a b whole frame (home_of a.known.file site) (site, OfPart (kinds site stands.0 conditions x)) stands.1 (above a frame site) (line ∷ []) first.0) in
        let all = said-then a b d whole (above a frame site) (above b frame (body_site x)) frame (line ∷ []) numbers (λ at. IsLine b.lines line kind.Types at site (says.Rows rows))
        (λ at. IsLine d.lines line kind.Types at site (says.Rows rows)) (λ at. FollowsRowsOf d.known d.lines at false (block_stop false Two) x rows numbers verdict) first judged
        (omega (arith, under)) (λ grows at is. line-later b d grows first.0.whole line kind.Types at site (says.Rows rows) is) in
        subst (λ (ns : List ℕ). AnswersTyped a d frame site x ns verdict) (sym same) (
          all.0,
          judged.0.parts frame site there (omega (arith, under, stays)) ∙ parts frame site,
          all.1,
          all.2,
          (rows, all.3.0, all.3.1),
        )

-- the line of the type block: without conditions
module _ (s : State) (whole : IsWhole s) (frame at site : ℕ) (framed : slice_get s.framed frame ≡ Some at) (home : StandsFor s.known.file s.frames frame (home_of s.known.file site))
    (name : List ℕ) (x : sx.Body) (verdict : Verdict) where
  plain-typed : piece_at s.known.file site ≡ Some (OfPart (kinds site name no_conds x)) → (numbers : List ℕ) → FollowsTyped s.known s.lines at site x numbers verdict
      → Adds s frame site kind.Kinds numbers (says.Verdict verdict)
  plain-typed piece [] typed = absurd typed
  plain-typed piece (c ∷ rest) typed = adds-plain-type s whole frame at site framed home site name x piece c rest typed.0 typed.1 verdict typed.2

  met-typed : (conditions : sx.Conds) → piece_at s.known.file site ≡ Some (OfPart (kinds site name (with_conds conditions) x)) → (line : ℕ) (w : Verdict)
      → IsLine s.lines line kind.Conj at (conds_site conditions) (says.Verdict w) → is_pass w ≡ true → (numbers : List ℕ) → FollowsTyped s.known s.lines at site x numbers verdict
      → Adds s frame site kind.Kinds (line ∷ numbers) (says.Verdict verdict)
  met-typed conditions piece line w is met [] typed = absurd typed
  met-typed conditions piece line w is met (d ∷ rest) typed =
      adds-met-type s whole frame at site framed home site name conditions x piece line w is met d rest typed.0 typed.1 verdict typed.2

module _ (a b : State) (whole : IsWhole a) (frame site : ℕ) (x : sx.Body) (stands : IsKinds a frame site no_conds x) (numbers : List ℕ) (verdict : Verdict)
    (it : AnswersTyped a b frame site x numbers verdict) where
  pub plain-type-adds : Adds b frame site kind.Kinds numbers (says.Verdict verdict)
  plain-type-adds =
      plain-typed b it.0.whole frame it.2 site it.3
      (home-still a b whole frame (home_of a.known.file site) (site, OfPart (kinds site stands.0 no_conds x)) stands.1 (above a frame site) numbers it.0 refl) stands.0 x verdict
      (part-there a b whole frame (kinds site stands.0 no_conds x) stands.1 (above a frame site) numbers it.0) numbers it.4

  pub plain-type-kind : own_kind (piece_at b.known.file site) ≡ Some kind.Kinds
  plain-type-kind = part-kind a b whole frame (kinds site stands.0 no_conds x) stands.1 (above a frame site) numbers it.0

  pub plain-type-new : a.parts frame site ≡ None → b.parts frame site ≡ None
  plain-type-new none = it.1 ∙ none

  pub plain-type-answer : (d : State) (n : ℕ) (said : Verdict) → Added b d frame site kind.Kinds numbers (says.Verdict verdict) n × (said ≡ verdict)
      → AnswersVerdict a d frame kind.Kinds site n said
  plain-type-answer d n said added =
      part-finished a b whole frame (kinds site stands.0 no_conds x) stands.1 (above a frame site) numbers it.0 (omega arith) d numbers verdict n said refl added

-- with conditions
pub kinds-asks : (a : State) (whole : IsWhole a) (ordered : AreInOrder a.known.file) (frame site : ℕ) (c : sx.Conds) (x : sx.Body) → IsKinds a frame site (with_conds c) x
    → (step next t : ℕ) → rank_in a frame site step ≡ t → next < 8 → (rank_in a frame (conds_site c) next < t) × (IsWhole a × StandsIn a frame (conds_sited c))
kinds-asks a whole ordered frame site c x stands =
    inner-asked-for a a whole ordered frame (kinds site stands.0 (with_conds c) x) stands.1 0 [] (Evaluates-none a 0 whole) (conds_sited c)
    (kinds-conditions a.known.file ordered site stands.0 c x stands.1.there)

module _ (a b : State) (whole : IsWhole a) (ordered : AreInOrder a.known.file) (frame site : ℕ) (c : sx.Conds) (x : sx.Body) (stands : IsKinds a frame site (with_conds c) x) (line : ℕ)
    (w : Verdict) (it : AnswersVerdict a b frame kind.Conj (conds_site c) line w) where
  kinds-first : SaidFor a b (height_at a.known.file a.frames frame site) frame (line ∷ []) (λ at. IsLine b.lines line kind.Conj at (conds_site c) (says.Verdict w))
  kinds-first =
      conditions-first a b whole ordered frame (kinds site stands.0 (with_conds c) x) stands.1 c (kinds-conditions a.known.file ordered site stands.0 c x stands.1.there) line w it

  pub unmet-type-adds : is_pass w ≡ false → (cites : List ℕ) → cites ≡ line ∷ [] → Adds b frame site kind.Kinds cites (says.Verdict Skip)
  unmet-type-adds unmet cites same =
      let first = kinds-first in
      let bound = height_at a.known.file a.frames frame site in
      subst (λ (ns : List ℕ). Adds b frame site kind.Kinds ns (says.Verdict Skip)) (sym same)
      (adds-unmet-type b first.0.whole frame first.1 site first.2
      (home-still a b whole frame (home_of a.known.file site) (site, OfPart (kinds site stands.0 (with_conds c) x)) stands.1 bound (line ∷ []) first.0 refl) site stands.0 c x
      (part-there a b whole frame (kinds site stands.0 (with_conds c) x) stands.1 bound (line ∷ []) first.0) line w first.3 unmet)

  pub unmet-type-kind : own_kind (piece_at b.known.file site) ≡ Some kind.Kinds
  unmet-type-kind =
      conditions-kind a b whole ordered frame (kinds site stands.0 (with_conds c) x) stands.1 c (kinds-conditions a.known.file ordered site stands.0 c x stands.1.there) line w it

  pub unmet-type-new : a.parts frame site ≡ None → b.parts frame site ≡ None
  unmet-type-new =
      conditions-new a b whole ordered frame (kinds site stands.0 (with_conds c) x) stands.1 c (kinds-conditions a.known.file ordered site stands.0 c x stands.1.there) line w it

  pub unmet-type-answer : (d : State) (cites : List ℕ) (verdict : Verdict) (number : ℕ) (said : Verdict) → cites ≡ line ∷ []
      → Added b d frame site kind.Kinds cites (says.Verdict verdict) number × (said ≡ verdict) → AnswersVerdict a d frame kind.Kinds site number said
  unmet-type-answer =
      conditions-answer a b whole ordered frame (kinds site stands.0 (with_conds c) x) stands.1 c (kinds-conditions a.known.file ordered site stands.0 c x stands.1.there) line w it

  kinds-height : height_at b.known.file b.frames frame site ≡ height_at a.known.file a.frames frame site
  kinds-height =
      same-height a b kinds-first.0.grows whole frame site
      (frame-known a frame (home_of a.known.file site) (site, OfPart (kinds site stands.0 (with_conds c) x)) stands.1)

  pub met-type-asks : (step next t : ℕ) → rank_in a frame site step ≡ t → next < step
      → (rank_in b frame site next < t) × (IsWhole b × ((conditions : sx.OptConds) × IsKinds b frame site conditions x))
  met-type-asks step next t owed less =
      let same = kinds-height in
      let first = kinds-first in (
        rank-on a b frame frame site site step next t owed (omega (arith, same)) less,
        (
          first.0.whole,
          (
            with_conds c,
            (stands.0, part-now a b whole frame (kinds site stands.0 (with_conds c) x) stands.1 (height_at a.known.file a.frames frame site) (line ∷ []) first.0),
          ),
        ),
      )

  module _ (d : State) (numbers : List ℕ) (verdict : Verdict) (judged : AnswersTyped b d frame site x numbers verdict) where
    kinds-second : SaidFor a d (above a frame site) frame (line ∷ numbers)
        (λ at. IsLine d.lines line kind.Conj at (conds_site c) (says.Verdict w) × FollowsTyped d.known d.lines at site x numbers verdict)
    kinds-second =
        let same = kinds-height in
        let first = kinds-first in
        said-then a b d whole (above a frame site) (above b frame site) frame (line ∷ []) numbers (λ at. IsLine b.lines line kind.Conj at (conds_site c) (says.Verdict w))
        (λ at. IsLine d.lines line kind.Conj at (conds_site c) (says.Verdict w)) (λ at. FollowsTyped d.known d.lines at site x numbers verdict) (
          Evaluates-under a b (height_at a.known.file a.frames frame site) (above a frame site) (line ∷ []) (omega arith) first.0,
          first.1,
          first.2,
          first.3,
        ) (judged.0, judged.2, judged.3, judged.4) (omega (arith, same))
        (λ grows at is. line-later b d grows first.0.whole line kind.Conj at (conds_site c) (says.Verdict w) is)

    pub met-type-whole : IsWhole d
    met-type-whole = kinds-second.0.whole

    pub met-type-adds : is_pass w ≡ true → (cites : List ℕ) → cites ≡ line ∷ numbers → Adds d frame site kind.Kinds cites (says.Verdict verdict)
    met-type-adds met cites same =
        let second = kinds-second in
        subst (λ (ns : List ℕ). Adds d frame site kind.Kinds ns (says.Verdict verdict)) (sym same)
        (met-typed d second.0.whole frame second.1 site second.2
        (home-still a d whole frame (home_of a.known.file site) (site, OfPart (kinds site stands.0 (with_conds c) x)) stands.1 (above a frame site) (line ∷ numbers) second.0 refl) stands.0 x
        verdict c (part-there a d whole frame (kinds site stands.0 (with_conds c) x) stands.1 (above a frame site) (line ∷ numbers) second.0) line w second.3.0 met numbers second.3.1)

    pub met-type-kind : own_kind (piece_at d.known.file site) ≡ Some kind.Kinds
    met-type-kind = part-kind a d whole frame (kinds site stands.0 (with_conds c) x) stands.1 (above a frame site) (line ∷ numbers) kinds-second.0

    pub met-type-new : a.parts frame site ≡ None → d.parts frame site ≡ None
    met-type-new none = judged.1 ∙ unmet-type-new none

    pub met-type-answer : (e : State) (cites : List ℕ) (n : ℕ) (said : Verdict) → cites ≡ line ∷ numbers
        → Added d e frame site kind.Kinds cites (says.Verdict verdict) n × (said ≡ verdict) → AnswersVerdict a e frame kind.Kinds site n said
    met-type-answer e cites n said same added =
        part-finished a d whole frame (kinds site stands.0 (with_conds c) x) stands.1 (above a frame site) (line ∷ numbers) kinds-second.0 (omega arith) e cites verdict n said same added
