-- Rules in the frame of the file: what stands there, what the line of a rule asks for, and what is so once it was added. Rules are judged one after another, so each line but
-- theirs is named by a later one in between.
use Rattle.std.proofs.Common.{◌≡◌, ℕ, zero, suc, ◌<◌, ◌≤◌, inl, inr, refl, sym, ap, ◌∙◌, subst, arith, slice_get, List, [], ◌∷◌, ◌++◌, length, Contains, Some, None}
use Rattle.std.proofs.lemmas.Bool.{cases_lt}
use Rattle.std.proofs.lemmas.Option.{same_Some}
use Rattle.evidence_lines.specs.Lines.{line_of}
use Rattle.evidence_lines.specs.declared.line.Line.{Line}
use Rattle.evidence_lines.specs.declared.line.LineKind.TheVariants as kind
use Rattle.evidence_lines.specs.declared.line.Outcome.TheVariants as says
use Rattle.guard_syntax.specs.Syntax.{Conds, File, OptConds, Rule, no_conds, with_conds}
use Rattle.guard_syntax.specs.declared.row.Verdict.{Verdict}
use Rattle.rule_meaning.specs.Roots.{root_ref}
use Rattle.rule_names.specs.Depths.{depth_rule, depths_of}
use Rattle.rule_names.specs.EnclosingScopes.{home_of, homes_rule, homes_rules}
use Rattle.rule_names.specs.Pieces.{AreInOrder, OfRule, Sited, piece_at, pieces_rule, pieces_rules}
use Rattle.evidence_rules.specs.CitedLines.{IsLine}
use Rattle.evidence_rules.specs.Lean.{LineNames}
use Rattle.evidence_rules.proofs.LinesBehind.{behind-first}
use Rattle.scope_frames.specs.code.Frames.{StandsFor}
use Rattle.scope_frames.specs.declared.frame.Frame.{Frame}
use Rattle.scope_frames.proofs.EnteredFrames.{stands-for}
use Rattle.scope_frames.proofs.NamesBound.{Placed, back-rules, front-rule, rules-placed}
use Rattle.engine_states.specs.code.Adding.{Added, line_for}
use Rattle.engine_states.specs.code.Answers.{AreRuledIn, IsBodyIn, StandsIn, StandsWithin}
use Rattle.engine_states.specs.code.Entered.{Enters}
use Rattle.engine_states.specs.code.Evaluated.{Evaluates}
use Rattle.engine_states.specs.code.Falling.{depth_of, load_at}
use Rattle.engine_states.specs.code.Inside.{AreInside, IsInside, body_sited, conds_sited, opt_conds_sited}
use Rattle.engine_states.specs.code.Leaning.{AreNamedBut, IsNamed}
use Rattle.engine_states.specs.code.Ruling.{IsFileFrame, IsReady, Judges, MayJudge, Rests}
use Rattle.engine_states.specs.code.States.{Grows, IsWhole, State}
use Rattle.scope_frames.proofs.BodiesApart.{plain-body}
use Rattle.engine_states.proofs.BodyValues.{rule-value}
use Rattle.engine_states.proofs.Elements.{one-among}
use Rattle.engine_states.proofs.Evaluating.{Evaluates-then, Evaluates-under, Grows-none, Grows-then, same-file}
use Rattle.engine_states.proofs.FrameEnvironments.{weight-top}
use Rattle.engine_states.proofs.Insides.{insides}
use Rattle.engine_states.proofs.KnownLines.{current-known}
use Rattle.engine_states.proofs.Named.{IsNamed-stays, named-last}
use Rattle.engine_states.proofs.SaidStays.{IsLine-pushed, IsLine-stays, line-pushed, line-within}
use Rattle.engine_states.proofs.Shaped.{rule-verdict}
use Rattle.engine_states.proofs.Standing.{inner-stands}
use Rattle.engine_states.proofs.VariablesSaid.{framed-later}

-- ---- where a rule stands

module _ (f : File) (ordered : AreInOrder f) where
  rule-in : (rs : List Rule) → Placed f (homes_rules 0 rs) (pieces_rules rs) → (r : Rule) → Contains rs r → Placed f (homes_rule 0 r) (pieces_rule r)
  rule-in [] placed r (k, within, is) = absurd (omega (arith, within))
  rule-in (x ∷ rs) placed r (zero, within, is) = subst (λ (y : Rule). Placed f (homes_rule 0 y) (pieces_rule y)) is (front-rule f x rs placed)
  rule-in (x ∷ rs) placed r (suc k, within, is) = rule-in rs (back-rules f x rs placed) r (k, omega (arith, within), is)

  -- at its site, in the file's scope
  pub rule-at : (r : Rule) → Contains f.rules r → (piece_at f r.site ≡ Some (OfRule r)) × (home_of f r.site ≡ 0)
  rule-at r among = let placed = rule-in f.rules (rules-placed f ordered) r among in (placed.pieces.0, placed.homes.0)

-- ---- in the frame of the file

module _ (s : State) (whole : IsWhole s) (frame : ℕ) (file : IsFileFrame s frame) where
  abbrev here : Frame
  here = record { parent = None; site = 0; current = root_ref }

  pub file-scope : StandsFor s.known.file s.frames frame 0
  file-scope = stands-for s.known.file s.frames frame 0 here file refl

  -- it adds nothing to how deep a part leads
  pub file-load : (site : ℕ) → load_at s.known.file s.frames frame site ≡ depth_of s.known.file (piece_at s.known.file site)
  file-load site =
      let none = weight-top s.known.file s.frames whole.entered (depths_of s.known.file) frame here file refl in
      omega (arith, none)

  module _ (ordered : AreInOrder s.known.file) (r : Rule) (may : MayJudge s r) where
    pub rule-stands : StandsWithin s frame 0 (r.site, OfRule r)
    rule-stands =
        let at = rule-at s.known.file ordered r may.among in
        record {
          there = at.0;
          scope_is = file-scope;
          ruled = λ t among plain less. may.ruled t among plain
              (let load = file-load r.site in let depth = ap (depth_of s.known.file) at.0 in omega (arith, less, load, depth));
        }

    -- its conditions, and its body
    parts : AreInside s.known.file r.site (OfRule r) (opt_conds_sited r.cond ++ body_sited r.body ∷ [])
    parts = insides s.known.file ordered r.site (OfRule r) (rule-at s.known.file ordered r may.among).0

    last-inside : (c : OptConds) (inner : Sited) → AreInside s.known.file r.site (OfRule r) (opt_conds_sited c ++ inner ∷ []) → IsInside s.known.file r.site (OfRule r) inner
    last-inside no_conds inner all = all.0
    last-inside (with_conds c) inner all = all.1.0

    stands-inside : (inner : Sited) → IsInside s.known.file r.site (OfRule r) inner → StandsIn s frame inner
    stands-inside inner inside =
        inner-stands s s (Grows-none s) whole (λ site. refl) frame 0 (r.site, OfRule r) rule-stands inner (rule-at s.known.file ordered r may.among).1 inside

    pub conditions-stand : (c : Conds) → r.cond ≡ with_conds c → StandsIn s frame (conds_sited c)
    conditions-stand c cond =
        stands-inside (conds_sited c)
        (subst (λ (x : OptConds). AreInside s.known.file r.site (OfRule r) (opt_conds_sited x ++ body_sited r.body ∷ [])) cond parts).0

    pub body-stands : StandsIn s frame (body_sited r.body)
    body-stands = stands-inside (body_sited r.body) (last-inside r.cond (body_sited r.body) parts)

    -- the root is current in its body
    pub body-in : IsBodyIn s frame r.body root_ref
    body-in = (
      body-stands,
      plain-body s.known.file ordered r may.among may.plain,
      rule-value s whole frame here file r may.among may.plain body-stands.there (current-known s whole frame here file),
    )

-- ---- once its line was added

-- the lines of rules stay
module _ (a b : State) (grows : Grows a b) (before : IsWhole a) (after : IsWhole b) where
  pub rule-stays : (site number : ℕ) → a.rules site ≡ Some number → b.rules site ≡ Some number
  rule-stays site number is =
      let said = rule-verdict a before site number is in
      after.rules.whole site number said.0 (says.Verdict said.1)
      (subst (λ (ls : List Line). IsLine ls number kind.Rule said.0 site (says.Verdict said.1)) (sym grows.lines)
      (IsLine-stays a.lines grows.more_lines number kind.Rule said.0 site (says.Verdict said.1) said.2))

  pub may-judge-later : (r : Rule) → MayJudge a r → MayJudge b r
  may-judge-later r may =
      let same = same-file a b grows before in
      record {
        among = subst (λ (f : File). Contains f.rules r) (sym same) may.among;
        plain = may.plain;
        ruled = subst (λ (f : File). AreRuledIn f b.rules (depth_rule f (depths_of f) r)) (sym same)
            (λ t among plain less. let it = may.ruled t among plain less in (it.0, rule-stays t.site it.0 it.1));
      }

-- one that was judged before
pub judged-before : (s : State) → Rests s → (site number at : ℕ) (verdict : Verdict) → s.rules site ≡ Some number → IsLine s.lines number kind.Rule at site (says.Verdict verdict)
    → Judges s s site verdict
judged-before s rests site number at verdict found is = record { rests = rests; grows = Grows-none s; number = number; at = at; is = is; found = found }

-- a line that has more behind it
get-ahead : {X : Type 0} (xs ys : List X) (n : ℕ) → n < length xs → slice_get (xs ++ ys) n ≡ slice_get xs n
get-ahead [] ys n less = absurd (omega (arith, less))
get-ahead (x ∷ xs) ys zero less = refl
get-ahead (x ∷ xs) ys (suc n) less = get-ahead xs ys n (omega (arith, less))

line-ahead : (lines more : List Line) (n : ℕ) (l : Line) → 0 < n → n ≤ length lines → line_of (lines ++ more) n ≡ Some l → line_of lines n ≡ Some l
line-ahead lines more zero l some within is = absurd (omega (arith, some))
line-ahead lines more (suc n) l some within is =
    behind-first lines n ∙ sym (get-ahead lines more n (omega (arith, within))) ∙ sym (behind-first (lines ++ more) n) ∙ is

module _ (a b c d : State) (frame site number : ℕ) (cites : List ℕ) (verdict : Verdict) (rests : Rests a) (enters : Enters a b None 0 root_ref frame) (ready : IsReady b c frame site cites verdict)
    (added : Added c d frame site kind.Rule cites (says.Verdict verdict) number) where
  abbrev added-line : Line
  added-line = line_for added.at site kind.Rule cites (says.Verdict verdict)

  -- its frame's line is that of the file
  frame-is : added.at ≡ enters.at
  frame-is = same_Some added.at enters.at (sym added.framed ∙ framed-later b c ready.evaluates.grows enters.evaluates.whole frame enters.at enters.framed)

  evaluated : Evaluates a c ready.bound (enters.at ∷ cites)
  evaluated = Evaluates-then a b c rests.whole ready.bound (enters.at ∷ []) cites (Evaluates-under a b 0 ready.bound (enters.at ∷ []) (omega arith) enters.evaluates) ready.evaluates

  names : (n : ℕ) → length a.lines < n → Contains (enters.at ∷ cites) n → LineNames n added-line
  names n behind (zero, within, is) = inr (inl (ap Some (frame-is ∙ is)))
  names n behind (suc k, within, is) = inl (k, omega (arith, within), is)

  all-grow : Grows a d
  all-grow = Grows-then a c d evaluated.grows added.grows

  -- what was added is named, but for the rule's line
  but-own : AreNamedBut (length a.lines) d.lines (suc (length c.lines) ∷ [])
  but-own =
      subst (λ (ls : List Line). AreNamedBut (length a.lines) ls (suc (length c.lines) ∷ [])) (sym added.lines)
      (named-last (length a.lines) c.lines added-line (enters.at ∷ cites) evaluated.named names)

  own-line : line_of d.lines (suc (length c.lines)) ≡ Some added-line
  own-line = ap (λ (ls : List Line). line_of ls (suc (length c.lines))) added.lines ∙ line-pushed c.lines added-line

  named-now : (n : ℕ) (line : Line) → line_of d.lines n ≡ Some line → (line.kind ≡ kind.Rule → ⊥) → IsNamed d.lines n
  named-now n line stands other =
      let within = line-within d.lines n line stands in
      elim (cases_lt (length a.lines) n) [
        | inl behind ↦ elim (but-own n behind within.1) [
          | inl named ↦ named
          | inr among ↦
              let same : suc (length c.lines) ≡ n = one-among (suc (length c.lines)) n among in
              let it : line ≡ added-line = same_Some line added-line (sym stands ∙ ap (line_of d.lines) (sym same) ∙ own-line) in
              absurd (other (ap (λ (l : Line). l.kind) it))
        ]
        | inr early ↦
            let old : line_of a.lines n ≡ Some line =
            line-ahead a.lines all-grow.more_lines n line (within.0) early (ap (λ (ls : List Line). line_of ls n) (sym all-grow.lines) ∙ stands) in
            subst (λ (ls : List Line). IsNamed ls n) (sym all-grow.lines) (IsNamed-stays a.lines all-grow.more_lines n (rests.named n line old other))
      ]

  pub judged : Judges a d site verdict
  judged =
      let is : IsLine d.lines number kind.Rule added.at site (says.Verdict verdict) =
      subst (λ (ls : List Line). IsLine ls number kind.Rule added.at site (says.Verdict verdict)) (sym added.lines)
      (subst (λ (n : ℕ). IsLine (c.lines ++ added-line ∷ []) n kind.Rule added.at site (says.Verdict verdict)) (sym added.number_is)
      (IsLine-pushed c.lines added-line kind.Rule added.at site (says.Verdict verdict) refl refl refl refl)) in
      record {
        rests = record { whole = added.whole; named = named-now };
        grows = all-grow;
        number = number;
        at = added.at;
        is = is;
        found = added.whole.rules.whole site number added.at (says.Verdict verdict) is;
      }
