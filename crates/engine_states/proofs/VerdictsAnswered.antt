-- Lines of verdicts: what one says that was found; what one asks for that is added behind the lines of what was evaluated for its part, and what is answered then; what a part
-- in a part asks for. And the lines of conjunctions and disjunctions, with the loops that evaluate what is in them.
use Rattle.std.proofs.Common.{◌≡◌, ◌<◌, ◌≤◌, ◌+◌, ℕ, true, false, refl, sym, ap, ◌∙◌, subst, inl, arith, slice_get, List, [], ◌∷◌, ◌++◌, length, map, take, get_or, Contains, Option, Some, None}
use Rattle.std.specs.Prelude.{if◌then◌else◌}
use Rattle.std.proofs.lemmas.Option.{slice_get_within}
use Rattle.evidence_lines.specs.Shapes.{sort_of}
use Rattle.evidence_lines.specs.declared.line.LineKind.{LineKind}
use Rattle.evidence_lines.specs.declared.line.LineKind.TheVariants as kind
use Rattle.evidence_lines.specs.declared.line.Outcome.TheVariants as says
use Rattle.evidence_lines.specs.declared.line.Sort.TheVariants as sort
use Rattle.guard_syntax.specs.Syntax as sx
use Rattle.guard_syntax.specs.Syntax.{File, body, conds, disj}
use Rattle.guard_syntax.specs.code.Seen.{disj_list, part_list, see_conds, see_disj, see_part}
use Rattle.guard_syntax.specs.declared.row.Verdict.{Verdict}
use Rattle.guard_syntax.specs.declared.row.Verdict.TheVariants.{Fail, Pass, Skip}
use Rattle.guard_syntax.specs.declared.syntax.Conds.{Conds, out-Conds}
use Rattle.guard_syntax.specs.declared.syntax.Disj.{Disj}
use Rattle.guard_syntax.specs.declared.syntax.Part.{Part}
use Rattle.rule_names.specs.EnclosingScopes.{home_of}
use Rattle.rule_names.specs.Pieces.{AreInOrder, OfBody, OfConds, OfDisj, OfFile, OfPart, Piece, Sited, piece_at}
use Rattle.rule_names.specs.ReferenceGraph.{disj_site, part_site}
use Rattle.rule_names.proofs.Shapes.{conds-seen, disj-seen}
use Rattle.rule_meaning.specs.Verdicts.{conjunction, disjunction}
use Rattle.evidence_rules.specs.CitedLines.{IsLine}
use Rattle.evidence_rules.specs.Follows.{SayDisjs, conds_site, home_for, is_body, is_stop}
use Rattle.evidence_rules.specs.Follows as cited
use Rattle.scope_frames.specs.code.Frames.{StandsFor}
use Rattle.scope_frames.proofs.EnteredFrames.{has-frame}
use Rattle.engine_states.specs.code.Adding.{Added, Adds}
use Rattle.engine_states.specs.code.Answers.{Answers, AnswersDisjs, AnswersParts, AnswersVerdict, HasDisjs, IsConjunction, StandsIn, StandsWithin, above, parts_of}
use Rattle.engine_states.specs.code.Evaluated.{Evaluates}
use Rattle.engine_states.specs.code.Falling.{height_at}
use Rattle.engine_states.specs.code.Inside.{AreInside, IsInside, conds_sited, disj_sited, disjs_sited, scope_in}
use Rattle.engine_states.specs.code.Kinds.{kind_of_part, own_kind}
use Rattle.engine_states.specs.code.States.{IsWhole, State}
use Rattle.engine_states.proofs.AddsLines.{adds-body, adds-conditions, adds-disjunction, adds-loose}
use Rattle.engine_states.proofs.Evaluating.{Evaluates-none, same-file}
use Rattle.engine_states.proofs.Finished.{added-answer, found-verdict-answer, line-there}
use Rattle.engine_states.proofs.InTurn.{SaidFor, still-none, still-stands}
use Rattle.engine_states.proofs.Insides.{conds-own, disj-at, disj-own, insides, part-at, parts-of-disj}
use Rattle.engine_states.proofs.Lower.{IsHigh, inner-lower}
use Rattle.engine_states.proofs.Ranks.{rank-below, rank-on, rank_in}
use Rattle.engine_states.proofs.Standing.{inner-stands}
use Rattle.engine_states.proofs.VerdictsInTurn.{DisjsSoFar, PartsSaid, PartsSoFar, disjs-next, disjs-none, disjs-stopped, parts-end, parts-next, parts-none, parts-stopped}

-- ---- a part

pub frame-known : (s : State) (frame scope : ℕ) (part : Sited) → StandsWithin s frame scope part → frame < length s.frames
frame-known s frame scope part stands =
    let there = has-frame s.known.file s.frames frame scope stands.scope_is in
    slice_get_within s.frames frame there.0 there.1

-- whose line was found
module _ (s : State) (whole : IsWhole s) (frame scope : ℕ) (part : Sited) (stands : StandsWithin s frame scope part) (of : LineKind) (kind_is : own_kind (Some part.1) ≡ Some of)
    (judged : sort_of of ≡ sort.Verdict) (number : ℕ) (found : s.parts frame part.0 ≡ Some number) where
  pub found-says : (k : LineKind) × (at site : ℕ) × (verdict : Verdict) × IsLine s.lines number k at site (says.Verdict verdict)
  found-says =
      let it = found-verdict-answer s whole frame scope part stands number of found kind_is judged in
      (of, it.1.at, part.0, it.0, it.1.says)

  pub found-answer : (line : ℕ) (verdict : Verdict) → line ≡ number → ((k : LineKind) (at site : ℕ) (v : Verdict) → IsLine s.lines number k at site (says.Verdict v) → verdict ≡ v)
      → AnswersVerdict s s frame of part.0 line verdict
  found-answer line verdict line_is told =
      let it = found-verdict-answer s whole frame scope part stands number of found kind_is judged in
      subst (λ (v : Verdict). AnswersVerdict s s frame of part.0 line v) (sym (told of it.1.at part.0 it.0 it.1.says))
      (subst (λ (n : ℕ). AnswersVerdict s s frame of part.0 n it.0) (sym line_is) it.1)

-- whose line is added behind what was evaluated for it
module _ (a b : State) (whole : IsWhole a) (frame scope : ℕ) (part : Sited) (stands : StandsWithin a frame scope part) (bound : ℕ) (numbers : List ℕ) (it : Evaluates a b bound numbers) where
  pub stands-still : StandsWithin b frame scope part
  stands-still = still-stands a b whole bound numbers it frame scope part (frame-known a frame scope part stands) stands

  pub new-still : bound ≤ height_at a.known.file a.frames frame part.0 → a.parts frame part.0 ≡ None → b.parts frame part.0 ≡ None
  new-still no_more none = still-none a b whole bound numbers it frame part.0 (frame-known a frame scope part stands) no_more none

  pub home-still : scope ≡ home_of a.known.file part.0 → StandsFor b.known.file b.frames frame (home_of b.known.file part.0)
  home-still home =
      subst (StandsFor b.known.file b.frames frame) (home ∙ sym (ap (λ (f : File). home_of f part.0) (same-file a b it.grows whole))) stands-still.scope_is

  module _ (of : LineKind) (kind_is : own_kind (Some part.1) ≡ Some of) where
    pub kind-still : own_kind (piece_at b.known.file part.0) ≡ Some of
    kind-still = ap own_kind stands-still.there ∙ kind_is

    pub judged-answer : bound ≤ above a frame part.0 → (c : State) (cites : List ℕ) (verdict : Verdict) (line : ℕ) (said : Verdict) → ((n : ℕ) → Contains numbers n → Contains cites n)
        → Added b c frame part.0 of cites (says.Verdict verdict) line → said ≡ verdict → AnswersVerdict a c frame of part.0 line said
    judged-answer no_more c cites verdict line said names added same =
        subst (λ (v : Verdict). AnswersVerdict a c frame of part.0 line v) (sym same)
        (added-answer a b c whole frame scope part stands of cites (says.Verdict verdict) line bound numbers kind_is no_more it added (λ n behind among. inl (names n among)))

-- what a part in one asks for
module _ (a b : State) (whole : IsWhole a) (ordered : AreInOrder a.known.file) (frame scope : ℕ) (outer : Sited) (stands : StandsWithin a frame scope outer)
    (high : IsHigh a.known.file outer) (same : scope_in a.known.file outer.0 outer.1 ≡ scope) (bound : ℕ) (numbers : List ℕ) (it : Evaluates a b bound numbers) (inner : Sited)
    (inside : IsInside a.known.file outer.0 outer.1 inner) where
  pub part-stands : StandsIn b frame inner
  part-stands = inner-stands a b it.grows whole it.rules frame scope outer stands inner same inside

  pub part-lower : height_at b.known.file b.frames frame inner.0 < height_at a.known.file a.frames frame outer.0
  part-lower = inner-lower a b it.grows whole ordered it.rules frame scope outer stands (frame-known a frame scope outer stands) inner high inside

  pub part-under : above b frame inner.0 ≤ height_at a.known.file a.frames frame outer.0
  part-under = let lower = part-lower in omega (arith, lower)

  pub part-owed : (step next t : ℕ) → rank_in a frame outer.0 step ≡ t → next < 8 → rank_in b frame inner.0 next < t
  part-owed step next t owed small = rank-below a b frame frame outer.0 inner.0 step next t owed part-lower small

  pub part-asked : (step next t : ℕ) → rank_in a frame outer.0 step ≡ t → next < 8 → (rank_in b frame inner.0 next < t) × (IsWhole b × StandsIn b frame inner)
  part-asked step next t owed small = (part-owed step next t owed small, (it.whole, part-stands))

-- the same part, handed on
pub same-owed : (a : State) (frame site step next t : ℕ) → rank_in a frame site step ≡ t → next < step → rank_in a frame site next < t
same-owed a frame site step next t owed less = rank-on a a frame frame site site step next t owed (omega arith) less

-- ---- disjunctions

module _ (a b : State) (whole : IsWhole a) (frame : ℕ) where
  pub disjunction-adds : (d : sx.Disj) (numbers : List ℕ) (verdict : Verdict) → StandsIn a frame (disj_sited d) → AnswersParts a b frame (disj_site d) (parts_of d) numbers verdict
      → Adds b frame (disj_site d) kind.Disj numbers (says.Verdict verdict)
  disjunction-adds (disj n ps) numbers verdict stands (evaluates, at, framed, say) =
      let bound = height_at a.known.file a.frames frame n in
      adds-disjunction b evaluates.whole frame at n framed (home-still a b whole frame (home_of a.known.file n) (n, OfDisj (disj n ps)) stands bound numbers evaluates refl) n ps
      (stands-still a b whole frame (home_of a.known.file n) (n, OfDisj (disj n ps)) stands bound numbers evaluates).there numbers verdict say

  module _ (d : Disj) (stands : StandsIn a frame (disj_sited (see_disj d))) (numbers : List ℕ) (verdict : Verdict)
      (it : AnswersParts a b frame (disj_site (see_disj d)) (parts_of (see_disj d)) numbers verdict) where
    pub disj-adds : Adds b frame d.site kind.Disj numbers (says.Verdict verdict)
    disj-adds = subst (λ (n : ℕ). Adds b frame n kind.Disj numbers (says.Verdict verdict)) (disj-own d) (disjunction-adds (see_disj d) numbers verdict stands it)

    pub disj-kind : own_kind (piece_at b.known.file d.site) ≡ Some kind.Disj
    disj-kind =
        subst (λ (n : ℕ). own_kind (piece_at b.known.file n) ≡ Some kind.Disj) (disj-own d)
        (kind-still a b whole frame (home_of a.known.file (disj_site (see_disj d))) (disj_sited (see_disj d)) stands
        (height_at a.known.file a.frames frame (disj_site (see_disj d))) numbers it.0 kind.Disj refl)

    pub disj-new : a.parts frame d.site ≡ None → b.parts frame d.site ≡ None
    disj-new none =
        subst (λ (n : ℕ). b.parts frame n ≡ None) (disj-own d)
        (new-still a b whole frame (home_of a.known.file (disj_site (see_disj d))) (disj_sited (see_disj d)) stands (height_at a.known.file a.frames frame (disj_site (see_disj d))) numbers it.0
        (omega arith) (subst (λ (n : ℕ). a.parts frame n ≡ None) (sym (disj-own d)) none))

    pub disj-answer : (c : State) (line : ℕ) (said : Verdict) → Added b c frame d.site kind.Disj numbers (says.Verdict verdict) line × (said ≡ verdict)
        → AnswersVerdict a c frame kind.Disj (disj_site (see_disj d)) line said
    disj-answer c line said added =
        judged-answer a b whole frame (home_of a.known.file (disj_site (see_disj d))) (disj_sited (see_disj d)) stands (height_at a.known.file a.frames frame (disj_site (see_disj d))) numbers
        it.0 kind.Disj refl (omega arith) c numbers verdict line said (λ n among. among)
        (subst (λ (n : ℕ). Added b c frame n kind.Disj numbers (says.Verdict verdict) line) (sym (disj-own d)) added.0) added.1

-- the loop over its parts
pub parts-begun : (a : State) (whole : IsWhole a) (bound frame scope : ℕ) (part : Sited) → StandsWithin a frame scope part → (numbers : List ℕ) → numbers ≡ []
    → SaidFor a a bound frame numbers (PartsSoFar a (Some Pass) [] numbers Skip)
parts-begun a whole bound frame scope part stands numbers none =
    let line = line-there a whole frame scope stands.scope_is in
    subst (λ (ns : List ℕ). SaidFor a a bound frame ns (PartsSoFar a (Some Pass) [] ns Skip)) (sym none)
    (Evaluates-none a bound whole, line.0, line.1, parts-none a (Some Pass) Skip refl line.0)

-- two tables of kinds are one
abbrev kind_said : State → sx.Part → LineKind
kind_said s p = cited.kind_of_part s.known s.lines p

kinds-same : (s : State) (p : sx.Part) → kind_of_part p ≡ kind_said s p
kinds-same s (sx.block n any head inner) = refl
kinds-same s (sx.guarded n conditions inner) = refl
kinds-same s (sx.kinds n name conditions inner) = refl
kinds-same s (sx.test n any left op negated right message) = refl
kinds-same s (sx.refer n negated name message) = refl
kinds-same s (sx.call n negated name args message) = refl

module _ (a b : State) (whole : IsWhole a) (ordered : AreInOrder a.known.file) (frame : ℕ) (d : Disj) (stands : StandsIn a frame (disj_sited (see_disj d))) (ps : List Part)
    (are : ps ≡ d.parts.items) (i : ℕ) (numbers : List ℕ) (before : Verdict)
    (so_far : SaidFor a b (height_at a.known.file a.frames frame (disj_site (see_disj d))) frame numbers (PartsSoFar b (Some Pass) (map see_part (take i ps)) numbers before)) where
  parts-listed : part_list (map see_part ps) ≡ parts_of (see_disj d)
  parts-listed = ap (λ (xs : List Part). part_list (map see_part xs)) are ∙ sym (ap parts_of (disj-seen d))

  parts-told : (c : State) (more : List ℕ) (after : Verdict)
      → SaidFor a c (height_at a.known.file a.frames frame (disj_site (see_disj d))) frame more (PartsSaid c (Some Pass) (map see_part ps) more after)
      → AnswersParts a c frame (disj_site (see_disj d)) (parts_of (see_disj d)) more after
  parts-told c more after said =
      subst (λ (xs : sx.Parts). AnswersParts a c frame (disj_site (see_disj d)) xs more after) parts-listed said

  pub parts-done : length ps ≤ i → AnswersParts a b frame (disj_site (see_disj d)) (parts_of (see_disj d)) numbers before
  parts-done past =
      parts-told b numbers before (parts-end see_part ps i (Some Pass) a b (height_at a.known.file a.frames frame (disj_site (see_disj d))) frame numbers before past so_far)

  module _ (x : Part) (within : i < length ps) (is : x ≡ get_or ps i x) where
    alternative-inside : IsInside a.known.file (disj_site (see_disj d)) (OfDisj (see_disj d)) (part_site (see_part x), OfPart (see_part x))
    alternative-inside =
        part-at a.known.file (disj_site (see_disj d)) (OfDisj (see_disj d)) ps i x within is (parts-of-disj a.known.file ordered (disj_site (see_disj d)) d ps are stands.there)

    pub alternative-asked : (step next t : ℕ) → rank_in a frame (disj_site (see_disj d)) step ≡ t → next < 8
        → (rank_in b frame (part_site (see_part x)) next < t) × (IsWhole b × StandsIn b frame (part_site (see_part x), OfPart (see_part x)))
    alternative-asked =
        part-asked a b whole ordered frame (home_of a.known.file (disj_site (see_disj d))) (disj_sited (see_disj d)) stands refl refl
        (height_at a.known.file a.frames frame (disj_site (see_disj d))) numbers so_far.0 (part_site (see_part x), OfPart (see_part x)) alternative-inside

    alternative-under : above b frame (part_site (see_part x)) ≤ height_at a.known.file a.frames frame (disj_site (see_disj d))
    alternative-under =
        part-under a b whole ordered frame (home_of a.known.file (disj_site (see_disj d))) (disj_sited (see_disj d)) stands refl refl
        (height_at a.known.file a.frames frame (disj_site (see_disj d))) numbers so_far.0 (part_site (see_part x), OfPart (see_part x)) alternative-inside

    module _ (c : State) (number : ℕ) (more : List ℕ) (after w : Verdict) (it : AnswersVerdict b c frame (kind_of_part (see_part x)) (part_site (see_part x)) number w)
        (cited : more ≡ numbers ++ number ∷ []) (both : after ≡ disjunction (before ∷ w ∷ [])) where
      as-said : Answers b c (above b frame (part_site (see_part x))) frame number (λ at. IsLine c.lines number (kind_said c (see_part x)) at (part_site (see_part x)) (says.Verdict w))
      as-said = subst (λ (k : LineKind). AnswersVerdict b c frame k (part_site (see_part x)) number w) (kinds-same c (see_part x)) it

      pub parts-on : is_stop (Some Pass) w ≡ false
          → SaidFor a c (height_at a.known.file a.frames frame (disj_site (see_disj d))) frame more (PartsSoFar c (Some Pass) (map see_part (take (i + 1) ps)) more after)
      parts-on =
          parts-next see_part ps i (Some Pass) x within is a b c whole (height_at a.known.file a.frames frame (disj_site (see_disj d))) (above b frame (part_site (see_part x))) frame number
          numbers more before after w so_far as-said alternative-under cited both

      pub parts-ended-here : is_stop (Some Pass) w ≡ true → AnswersParts a c frame (disj_site (see_disj d)) (parts_of (see_disj d)) more after
      parts-ended-here stops =
          parts-told c more after
          (parts-stopped see_part ps i (Some Pass) x within is a b c whole (height_at a.known.file a.frames frame (disj_site (see_disj d))) (above b frame (part_site (see_part x))) frame
          number numbers more before after w so_far as-said alternative-under cited both stops)

-- ---- conjunctions: of a body, of conditions or of the file

pub conj-kind : (f : File) (p : Piece) (ds : sx.Disjs) (stop : Option Verdict) → HasDisjs f p ds stop → own_kind (Some p) ≡ Some kind.Conj
conj-kind f (OfBody (body n ls xs)) ds stop has = refl
conj-kind f (OfConds (conds n xs)) ds stop has = refl
conj-kind f OfFile ds stop has = refl
conj-kind f p ds stop has = absurd has

conj-high : (f : File) (site : ℕ) (p : Piece) (ds : sx.Disjs) (stop : Option Verdict) → HasDisjs f p ds stop → IsHigh f (site, p)
conj-high f site (OfBody (body n ls xs)) ds stop has = refl
conj-high f site (OfConds (conds n xs)) ds stop has = refl
conj-high f site OfFile ds stop has = refl
conj-high f site p ds stop has = absurd has

module _ (f : File) (site : ℕ) where
  -- in which scope the line of a conjunction stands
  home-by : (p : Piece) → piece_at f site ≡ Some p → home_for f kind.Conj site ≡ (if is_body (Some p) then site else home_of f site)
  home-by p is = ap (λ (o : Option Piece). if is_body o then site else home_of f site) is

  conj-scope : (p : Piece) (ds : sx.Disjs) (stop : Option Verdict) → piece_at f site ≡ Some p → HasDisjs f p ds stop → scope_in f site p ≡ home_for f kind.Conj site
  conj-scope (OfBody (body n ls xs)) ds stop is has = sym (home-by (OfBody (body n ls xs)) is)
  conj-scope (OfConds (conds n xs)) ds stop is has = sym (home-by (OfConds (conds n xs)) is)
  conj-scope OfFile ds stop is has = sym (home-by OfFile is)
  conj-scope p ds stop is has = absurd has

  conj-inside : AreInOrder f → (p : Piece) (ds : sx.Disjs) (stop : Option Verdict) → piece_at f site ≡ Some p → HasDisjs f p ds stop → AreInside f site p (disjs_sited ds)
  conj-inside ordered (OfBody (body n ls xs)) ds stop is has =
      subst (λ (ys : sx.Disjs). AreInside f site (OfBody (body n ls xs)) (disjs_sited ys)) has.0 (insides f ordered site (OfBody (body n ls xs)) is)
  conj-inside ordered (OfConds (conds n xs)) ds stop is has =
      subst (λ (ys : sx.Disjs). AreInside f site (OfConds (conds n xs)) (disjs_sited ys)) has.0 (insides f ordered site (OfConds (conds n xs)) is)
  conj-inside ordered OfFile ds stop is has = subst (λ (ys : sx.Disjs). AreInside f site OfFile (disjs_sited ys)) has.0 (insides f ordered site OfFile is)
  conj-inside ordered p ds stop is has = absurd has

-- of conditions
pub plain-conditions : (s : State) (frame n : ℕ) (ds : sx.Disjs) → StandsIn s frame (n, OfConds (conds n ds)) → IsConjunction s frame n ds (Some Fail)
plain-conditions s frame n ds stands = (
  OfConds (conds n ds),
  subst (λ (m : ℕ). StandsWithin s frame m (n, OfConds (conds n ds))) (sym (home-by s.known.file n (OfConds (conds n ds)) stands.there)) stands,
  (refl, refl),
)

pub conditions-held : (s : State) (frame : ℕ) (c : Conds) (ds : List Disj) → ds ≡ (out-Conds c).parts.items → StandsIn s frame (conds_sited (see_conds c))
    → IsConjunction s frame (out-Conds c).site (disj_list (map see_disj ds)) (Some Fail)
conditions-held s frame c ds are stands =
    let seen : see_conds c ≡ conds (out-Conds c).site (disj_list (map see_disj ds)) =
    conds-seen c ∙ ap (λ (xs : List Disj). conds (out-Conds c).site (disj_list (map see_disj xs))) (sym are) in
    plain-conditions s frame (out-Conds c).site (disj_list (map see_disj ds)) (subst (λ (x : sx.Conds). StandsIn s frame (conds_sited x)) seen stands)

pub conditions-asks : (s : State) → IsWhole s → (frame : ℕ) (c : Conds) (ds : List Disj) → ds ≡ (out-Conds c).parts.items → StandsIn s frame (conds_sited (see_conds c))
    → (step next t : ℕ) → rank_in s frame (conds_site (see_conds c)) step ≡ t → next < step
    → (rank_in s frame (out-Conds c).site next < t) × (IsWhole s × IsConjunction s frame (out-Conds c).site (disj_list (map see_disj ds)) (Some Fail))
conditions-asks s whole frame c ds are stands step next t owed less = (
  subst (λ (n : ℕ). rank_in s frame n next < t) (conds-own c) (same-owed s frame (conds_site (see_conds c)) step next t owed less),
  (whole, conditions-held s frame c ds are stands),
)

-- of a body, in its own frame
pub body-held : (s : State) (frame n : ℕ) (ls : sx.Lets) (ds : sx.Disjs) → StandsWithin s frame n (n, OfBody (body n ls ds)) → IsConjunction s frame n ds None
body-held s frame n ls ds stands = (
  OfBody (body n ls ds),
  subst (λ (m : ℕ). StandsWithin s frame m (n, OfBody (body n ls ds))) (sym (home-by s.known.file n (OfBody (body n ls ds)) stands.there)) stands,
  (refl, refl),
)

-- the line of one is added
module _ (a b : State) (whole : IsWhole a) (frame site : ℕ) where
  conj-adds : (p : Piece) (ds : sx.Disjs) (stop : Option Verdict) → StandsWithin a frame (home_for a.known.file kind.Conj site) (site, p) → HasDisjs a.known.file p ds stop → (numbers : List ℕ)
      → (verdict : Verdict) (bound : ℕ) → Evaluates a b bound numbers → (at : ℕ) → slice_get b.framed frame ≡ Some at
      → (verdicts : List Verdict) × SayDisjs b.known b.lines at stop ds numbers verdicts × (verdict ≡ conjunction verdicts) → Adds b frame site kind.Conj numbers (says.Verdict verdict)
  conj-adds (OfBody (body n ls xs)) ds stop stands has numbers verdict bound it at framed say =
      let now = stands-still a b whole frame (home_for a.known.file kind.Conj site) (site, OfBody (body n ls xs)) stands bound numbers it in
      adds-body b it.whole frame at site framed n ls xs now.there
      (subst (StandsFor b.known.file b.frames frame) (home-by a.known.file site (OfBody (body n ls xs)) stands.there) now.scope_is) numbers verdict (
        say.0,
        subst (λ (o : Option Verdict). SayDisjs b.known b.lines at o xs numbers say.0) has.1
            (subst (λ (ys : sx.Disjs). SayDisjs b.known b.lines at stop ys numbers say.0) (sym has.0) say.1),
        say.2,
      )
  conj-adds (OfConds (conds n xs)) ds stop stands has numbers verdict bound it at framed say =
      let now = stands-still a b whole frame (home_for a.known.file kind.Conj site) (site, OfConds (conds n xs)) stands bound numbers it in
      adds-conditions b it.whole frame at site framed
      (home-still a b whole frame (home_for a.known.file kind.Conj site) (site, OfConds (conds n xs)) stands bound numbers it
      (home-by a.known.file site (OfConds (conds n xs)) stands.there)) n xs now.there numbers verdict (
        say.0,
        subst (λ (o : Option Verdict). SayDisjs b.known b.lines at o xs numbers say.0) has.1
            (subst (λ (ys : sx.Disjs). SayDisjs b.known b.lines at stop ys numbers say.0) (sym has.0) say.1),
        say.2,
      )
  conj-adds OfFile ds stop stands has numbers verdict bound it at framed say =
      let now = stands-still a b whole frame (home_for a.known.file kind.Conj site) (site, OfFile) stands bound numbers it in
      adds-loose b it.whole frame at site framed
      (home-still a b whole frame (home_for a.known.file kind.Conj site) (site, OfFile) stands bound numbers it (home-by a.known.file site OfFile stands.there)) now.there numbers verdict (
        say.0,
        subst (λ (o : Option Verdict). SayDisjs b.known b.lines at o b.known.file.loose numbers say.0) has.1
            (subst (λ (ys : sx.Disjs). SayDisjs b.known b.lines at stop ys numbers say.0) (sym (ap (λ (f : File). f.loose) (same-file a b it.grows whole) ∙ has.0)) say.1),
        say.2,
      )
  conj-adds p ds stop stands has numbers verdict bound it at framed say = absurd has

  module _ (ds : sx.Disjs) (stop : Option Verdict) (stands : IsConjunction a frame site ds stop) (numbers : List ℕ) (verdict : Verdict)
      (it : AnswersDisjs a b frame site stop ds numbers verdict) where
    pub conjunction-adds : Adds b frame site kind.Conj numbers (says.Verdict verdict)
    conjunction-adds = conj-adds stands.0 ds stop stands.1 stands.2 numbers verdict (height_at a.known.file a.frames frame site) it.0 it.1 it.2 it.3

    pub conjunction-kind : own_kind (piece_at b.known.file site) ≡ Some kind.Conj
    conjunction-kind =
        kind-still a b whole frame (home_for a.known.file kind.Conj site) (site, stands.0) stands.1 (height_at a.known.file a.frames frame site) numbers it.0 kind.Conj
        (conj-kind a.known.file stands.0 ds stop stands.2)

    pub conjunction-new : a.parts frame site ≡ None → b.parts frame site ≡ None
    conjunction-new =
        new-still a b whole frame (home_for a.known.file kind.Conj site) (site, stands.0) stands.1 (height_at a.known.file a.frames frame site) numbers it.0 (omega arith)

    pub conjunction-answer : (c : State) (line : ℕ) (said : Verdict) → Added b c frame site kind.Conj numbers (says.Verdict verdict) line × (said ≡ verdict)
        → AnswersVerdict a c frame kind.Conj site line said
    conjunction-answer c line said added =
        judged-answer a b whole frame (home_for a.known.file kind.Conj site) (site, stands.0) stands.1 (height_at a.known.file a.frames frame site) numbers it.0 kind.Conj
        (conj-kind a.known.file stands.0 ds stop stands.2) (omega arith) c numbers verdict line said (λ n among. among) added.0 added.1

-- the loop over its disjunctions
pub disjs-begun : (a : State) (whole : IsWhole a) (bound frame site : ℕ) (ds : sx.Disjs) (stop : Option Verdict) → IsConjunction a frame site ds stop → (numbers : List ℕ) → numbers ≡ []
    → SaidFor a a bound frame numbers (DisjsSoFar a stop [] numbers Skip)
disjs-begun a whole bound frame site ds stop stands numbers none =
    let line = line-there a whole frame (home_for a.known.file kind.Conj site) stands.1.scope_is in
    subst (λ (ns : List ℕ). SaidFor a a bound frame ns (DisjsSoFar a stop [] ns Skip)) (sym none)
    (Evaluates-none a bound whole, line.0, line.1, disjs-none a stop Skip refl line.0)

module _ (a b : State) (whole : IsWhole a) (ordered : AreInOrder a.known.file) (frame site : ℕ) (ds : List Disj) (stop : Option Verdict)
    (stands : IsConjunction a frame site (disj_list (map see_disj ds)) stop) (i : ℕ) (d : Disj) (within : i < length ds) (is : d ≡ get_or ds i d) (numbers : List ℕ) (before : Verdict)
    (so_far : SaidFor a b (height_at a.known.file a.frames frame site) frame numbers (DisjsSoFar b stop (map see_disj (take i ds)) numbers before)) where
  disj-inside : IsInside a.known.file site stands.0 (disj_sited (see_disj d))
  disj-inside =
      disj-at a.known.file site stands.0 ds i d within is
      (conj-inside a.known.file site ordered stands.0 (disj_list (map see_disj ds)) stop stands.1.there stands.2)

  pub disj-asked : (step next t : ℕ) → rank_in a frame site step ≡ t → next < 8
      → (rank_in b frame (disj_site (see_disj d)) next < t) × (IsWhole b × StandsIn b frame (disj_sited (see_disj d)))
  disj-asked =
      part-asked a b whole ordered frame (home_for a.known.file kind.Conj site) (site, stands.0) stands.1
      (conj-high a.known.file site stands.0 (disj_list (map see_disj ds)) stop stands.2)
      (conj-scope a.known.file site stands.0 (disj_list (map see_disj ds)) stop stands.1.there stands.2) (height_at a.known.file a.frames frame site) numbers so_far.0
      (disj_sited (see_disj d)) disj-inside

  disj-under : above b frame (disj_site (see_disj d)) ≤ height_at a.known.file a.frames frame site
  disj-under =
      part-under a b whole ordered frame (home_for a.known.file kind.Conj site) (site, stands.0) stands.1
      (conj-high a.known.file site stands.0 (disj_list (map see_disj ds)) stop stands.2)
      (conj-scope a.known.file site stands.0 (disj_list (map see_disj ds)) stop stands.1.there stands.2) (height_at a.known.file a.frames frame site) numbers so_far.0
      (disj_sited (see_disj d)) disj-inside

  module _ (c : State) (number : ℕ) (more : List ℕ) (after w : Verdict) (it : AnswersVerdict b c frame kind.Disj (disj_site (see_disj d)) number w)
      (cited : more ≡ numbers ++ number ∷ []) (both : after ≡ conjunction (before ∷ w ∷ [])) where
    pub disjs-on : is_stop stop w ≡ false → SaidFor a c (height_at a.known.file a.frames frame site) frame more (DisjsSoFar c stop (map see_disj (take (i + 1) ds)) more after)
    disjs-on =
        disjs-next see_disj ds i stop d within is a b c whole (height_at a.known.file a.frames frame site) (above b frame (disj_site (see_disj d))) frame number numbers more before after w
        so_far it disj-under cited both

    pub disjs-ended-here : is_stop stop w ≡ true → AnswersDisjs a c frame site stop (disj_list (map see_disj ds)) more after
    disjs-ended-here =
        disjs-stopped see_disj ds i stop d within is a b c whole (height_at a.known.file a.frames frame site) (above b frame (disj_site (see_disj d))) frame number numbers more before after w
        so_far it disj-under cited both
