-- What the line of a rule asks for behind those of its conditions and of its body, and that of the parts outside rules behind theirs: both stand in the frame of the file, which
-- is still that of the file after what was evaluated in it.
use Rattle.std.proofs.Common.{◌≡◌, ℕ, ◌+◌, ◌<◌, ◌≤◌, true, false, refl, sym, ap, ◌∙◌, subst, arith, slice_get, List, [], ◌∷◌, length, map, Some, None, option_map}
use Rattle.std.proofs.lemmas.Option.{slice_get_within}
use Rattle.evidence_lines.specs.declared.line.LineKind.{LineKind}
use Rattle.evidence_lines.specs.declared.line.LineKind.TheVariants as kind
use Rattle.evidence_lines.specs.declared.line.Outcome.TheVariants as says
use Rattle.guard_syntax.specs.Syntax.{Conds, File, Rule, no_conds, with_conds}
use Rattle.guard_syntax.specs.code.Seen.{disj_list, see_disj}
use Rattle.guard_syntax.specs.declared.row.Ref.{Ref}
use Rattle.guard_syntax.specs.declared.row.Verdict.{Verdict}
use Rattle.guard_syntax.specs.declared.row.Verdict.TheVariants.{Skip}
use Rattle.guard_syntax.specs.declared.syntax.Disj.{Disj}
use Rattle.guard_syntax.specs.declared.syntax.RawFile.{RawFile}
use Rattle.rule_meaning.specs.Roots.{root_ref}
use Rattle.rule_meaning.specs.Verdicts.{is_pass}
use Rattle.rule_names.specs.Depths.{depth_disjs, depths_of}
use Rattle.rule_names.specs.EnclosingScopes.{home_of}
use Rattle.rule_names.specs.Pieces.{AreInOrder, OfFile, piece_at}
use Rattle.rule_names.specs.code.Files.{file_of}
use Rattle.rule_names.specs.declared.file.RuleFile.{RuleFile}
use Rattle.evidence_rules.specs.CitedLines.{IsLine, body_site}
use Rattle.evidence_rules.specs.Follows.{SaysBody, SaysVerdict, conds_site, home_for}
use Rattle.scope_frames.specs.code.Frames.{StandsFor}
use Rattle.scope_frames.specs.declared.frame.Frame.{Frame}
use Rattle.engine_states.specs.code.Adding.{Adds}
use Rattle.engine_states.specs.code.Answers.{AnswersBody, AnswersVerdict, AreRuledIn, IsBodyIn, IsConjunction, StandsWithin, above}
use Rattle.engine_states.specs.code.Falling.{depth_of}
use Rattle.engine_states.specs.code.Ruling.{IsFileFrame, IsReady, Judges, MayJudge, MayJudgeLoose, Rests}
use Rattle.engine_states.specs.code.States.{Grows, IsWhole, State}
use Rattle.engine_states.proofs.AddsLines.{adds-met-rule, adds-outside, adds-plain-rule, adds-unmet-rule}
use Rattle.engine_states.proofs.Evaluating.{same-file}
use Rattle.engine_states.proofs.InTurn.{SaidFor, said-next}
use Rattle.engine_states.proofs.Insides.{file-home}
use Rattle.engine_states.proofs.PartsAnswered.{current-is, said-first}
use Rattle.engine_states.proofs.RulesJudged.{body-in, file-load, file-scope, judged-before, may-judge-later, rule-at, rule-stays}
use Rattle.engine_states.proofs.SaidLater.{line-later}
use Rattle.engine_states.proofs.Shaped.{rule-verdict}
use Rattle.engine_states.proofs.VariablesSaid.{frame-later}

-- ---- a rule that was judged before

module _ (s : State) (rests : Rests s) (site number : ℕ) (found : s.rules site ≡ Some number) where
  pub rule-says : (of : LineKind) × (at n : ℕ) × (verdict : Verdict) × IsLine s.lines number of at n (says.Verdict verdict)
  rule-says = let it = rule-verdict s rests.whole site number found in (kind.Rule, it.0, site, it.1, it.2)

  pub judged-again : (said : Verdict) → ((of : LineKind) (at n : ℕ) (verdict : Verdict) → IsLine s.lines number of at n (says.Verdict verdict) → said ≡ verdict) → Judges s s site said
  judged-again said told =
      let it = rule-verdict s rests.whole site number found in
      judged-before s rests site number it.0 said found
      (subst (λ (v : Verdict). IsLine s.lines number kind.Rule it.0 site (says.Verdict v)) (sym (told kind.Rule it.0 site it.1 it.2)) it.2)

-- ---- in the frame of the file

abbrev pub file_frame : Frame
file_frame = record { parent = None; site = 0; current = root_ref }

module _ (a b : State) (grows : Grows a b) (whole : IsWhole a) (frame : ℕ) (file : IsFileFrame a frame) (ordered : AreInOrder a.known.file) where
  file-later : IsFileFrame b frame
  file-later = frame-later a b grows whole frame file_frame file

  ordered-later : AreInOrder b.known.file
  ordered-later = subst AreInOrder (sym (same-file a b grows whole)) ordered

-- what its line asks for
module _ (s : State) (whole : IsWhole s) (frame : ℕ) (file : IsFileFrame s frame) (ordered : AreInOrder s.known.file) (r : Rule) (may : MayJudge s r) where
  pub rule-body : (v : Ref) → option_map (λ (f : Frame). f.current) (slice_get s.frames frame) ≡ Some v → IsBodyIn s frame r.body v
  rule-body v told = subst (λ (u : Ref). IsBodyIn s frame r.body u) (current-is s frame v file_frame file told) (body-in s whole frame file ordered r may)

  rule-home : StandsFor s.known.file s.frames frame (home_of s.known.file r.site)
  rule-home = subst (StandsFor s.known.file s.frames frame) (sym (rule-at s.known.file ordered r may.among).1) (file-scope s whole frame file)

  module _ (new : s.rules r.site ≡ None) (at : ℕ) (framed : slice_get s.framed frame ≡ Some at) where
    plain-adds : r.cond ≡ no_conds → (d : ℕ) (v : Ref) (verdict : Verdict) → SaysBody s.known s.lines at r.body v d verdict → Adds s frame r.site kind.Rule (d ∷ []) (says.Verdict verdict)
    plain-adds =
        adds-plain-rule s whole frame at r.site framed rule-home file_frame file refl new r (rule-at s.known.file ordered r may.among).0 may.plain

    unmet-adds : (c : Conds) → r.cond ≡ with_conds c → (line : ℕ) (said : Verdict) → SaysVerdict s.known s.lines kind.Conj at (conds_site c) line said → is_pass said ≡ false
        → Adds s frame r.site kind.Rule (line ∷ []) (says.Verdict Skip)
    unmet-adds = adds-unmet-rule s whole frame at r.site framed rule-home file_frame file refl new r (rule-at s.known.file ordered r may.among).0 may.plain

    met-adds : (c : Conds) → r.cond ≡ with_conds c → (line : ℕ) (said : Verdict) → SaysVerdict s.known s.lines kind.Conj at (conds_site c) line said → is_pass said ≡ true
        → (d : ℕ) (v : Ref) (verdict : Verdict) → SaysBody s.known s.lines at r.body v d verdict → Adds s frame r.site kind.Rule (line ∷ d ∷ []) (says.Verdict verdict)
    met-adds = adds-met-rule s whole frame at r.site framed rule-home file_frame file refl new r (rule-at s.known.file ordered r may.among).0 may.plain

-- ---- a rule, from its beginning on

at-most-left : (m n : ℕ) → m ≤ m + n
at-most-left m n = omega arith

at-most-right : (m n : ℕ) → n ≤ m + n
at-most-right m n = omega arith

module _ (a : State) (whole : IsWhole a) (frame : ℕ) (file : IsFileFrame a frame) (ordered : AreInOrder a.known.file) (r : Rule) (may : MayJudge a r) (new : a.rules r.site ≡ None) where
  -- without conditions
  pub plain-ready : r.cond ≡ no_conds → (v : Ref) (b : State) (number : ℕ) (verdict : Verdict) → AnswersBody a b frame r.body v number verdict → (cites : List ℕ) → cites ≡ number ∷ []
      → IsReady a b frame r.site cites verdict
  plain-ready cond v b number verdict it cites same =
      let grows = it.evaluates.grows in
      subst (λ (ns : List ℕ). IsReady a b frame r.site ns verdict) (sym same) (record {
        bound = above a frame (body_site r.body);
        evaluates = it.evaluates;
        adds = plain-adds b it.evaluates.whole frame (file-later a b grows whole frame file ordered) (ordered-later a b grows whole frame file ordered) r
            (may-judge-later a b grows whole it.evaluates.whole r may) (it.evaluates.rules r.site ∙ new) it.at it.framed cond number v verdict it.says;
      })

  module _ (c : Conds) (cond : r.cond ≡ with_conds c) (b : State) (line : ℕ) (w : Verdict) (it : AnswersVerdict a b frame kind.Conj (conds_site c) line w) where
    file-then : IsFileFrame b frame
    file-then = file-later a b it.evaluates.grows whole frame file ordered

    ordered-then : AreInOrder b.known.file
    ordered-then = ordered-later a b it.evaluates.grows whole frame file ordered

    may-then : MayJudge b r
    may-then = may-judge-later a b it.evaluates.grows whole it.evaluates.whole r may

    -- with some that are not PASS
    pub unmet-ready : is_pass w ≡ false → (cites : List ℕ) → cites ≡ line ∷ [] → IsReady a b frame r.site cites Skip
    unmet-ready unmet cites same =
        subst (λ (ns : List ℕ). IsReady a b frame r.site ns Skip) (sym same) (record {
          bound = above a frame (conds_site c);
          evaluates = it.evaluates;
          adds = unmet-adds b it.evaluates.whole frame file-then ordered-then r may-then (it.evaluates.rules r.site ∙ new) it.at it.framed c cond line w it.says unmet;
        })

    -- with some that are
    pub met-framed : frame < length b.frames
    met-framed = slice_get_within b.frames frame file_frame file-then

    pub met-body : (v : Ref) → option_map (λ (f : Frame). f.current) (slice_get b.frames frame) ≡ Some v → IsBodyIn b frame r.body v
    met-body = rule-body b it.evaluates.whole frame file-then ordered-then r may-then

    module _ (v : Ref) (d : State) (number : ℕ) (verdict : Verdict) (judged : AnswersBody b d frame r.body v number verdict) where
      abbrev bound : ℕ
      bound = above a frame (conds_site c) + above b frame (body_site r.body)

      both-said : SaidFor a d bound frame (line ∷ number ∷ [])
          (λ at. IsLine d.lines line kind.Conj at (conds_site c) (says.Verdict w) × SaysBody d.known d.lines at r.body v number verdict)
      both-said =
          said-next a b d whole bound (above b frame (body_site r.body)) frame number (line ∷ []) (λ at. IsLine b.lines line kind.Conj at (conds_site c) (says.Verdict w))
          (λ at. IsLine d.lines line kind.Conj at (conds_site c) (says.Verdict w)) (λ at. SaysBody d.known d.lines at r.body v number verdict)
          (said-first a b bound (above a frame (conds_site c)) frame line (λ at. IsLine b.lines line kind.Conj at (conds_site c) (says.Verdict w)) it
          (at-most-left (above a frame (conds_site c)) (above b frame (body_site r.body)))) judged (at-most-right (above a frame (conds_site c)) (above b frame (body_site r.body)))
          (λ grows at is. line-later b d grows it.evaluates.whole line kind.Conj at (conds_site c) (says.Verdict w) is)

      pub met-ready : is_pass w ≡ true → (cites : List ℕ) → cites ≡ line ∷ number ∷ [] → IsReady a d frame r.site cites verdict
      met-ready met cites same =
          let all = both-said in
          let grows = all.0.grows in
          subst (λ (ns : List ℕ). IsReady a d frame r.site ns verdict) (sym same) (record {
            bound = bound;
            evaluates = all.0;
            adds = met-adds d all.0.whole frame (file-later a d grows whole frame file ordered) (ordered-later a d grows whole frame file ordered) r
                (may-judge-later a d grows whole all.0.whole r may) (all.0.rules r.site ∙ new) all.1 all.2 c cond line w all.3.0 met number v verdict all.3.1;
          })

-- ---- the parts outside rules

-- the code's list is the file's
pub loose-seen : (f g : RuleFile) (raw : RawFile) (ds : List Disj) → f ≡ g → raw ≡ g.raw → ds ≡ raw.loose.items → disj_list (map see_disj ds) ≡ (file_of f).loose
loose-seen f g raw ds same is are =
    ap (λ (xs : List Disj). disj_list (map see_disj xs)) (are ∙ ap (λ (x : RawFile). x.loose.items) is) ∙ sym (ap (λ (x : RuleFile). (file_of x).loose) same)

module _ (s : State) (whole : IsWhole s) (frame : ℕ) (file : IsFileFrame s frame) (ordered : AreInOrder s.known.file) where
  loose-home : StandsFor s.known.file s.frames frame (home_of s.known.file 0)
  loose-home = subst (StandsFor s.known.file s.frames frame) (sym (file-home s.known.file ordered)) (file-scope s whole frame file)

  module _ (may : MayJudgeLoose s) where
    loose-stands : StandsWithin s frame (home_for s.known.file kind.Conj 0) (0, OfFile)
    loose-stands = record {
      there = refl;
      scope_is = loose-home;
      ruled = λ t among plain less. may.ruled t among plain
          (let load = file-load s whole frame file 0 in
          let depth : depth_of s.known.file (piece_at s.known.file 0) ≡ depth_disjs s.known.file (depths_of s.known.file) s.known.file.loose = refl in
          omega (arith, less, load, depth));
    }

    pub loose-asks : (ds : List Disj) → disj_list (map see_disj ds) ≡ s.known.file.loose → IsConjunction s frame 0 (disj_list (map see_disj ds)) None
    loose-asks ds are = (OfFile, loose-stands, (sym are, refl))

-- that they may be judged stays
pub may-loose-later : (a b : State) → Grows a b → IsWhole a → IsWhole b → MayJudgeLoose a → MayJudgeLoose b
may-loose-later a b grows before after may =
    let same = same-file a b grows before in
    record {
      first = may.first;
      others = may.others;
      some = ap (λ (f : File). f.loose) same ∙ may.some;
      ruled = subst (λ (f : File). AreRuledIn f b.rules (depth_disjs f (depths_of f) f.loose)) (sym same)
          (λ t among plain less. let it = may.ruled t among plain less in (it.0, rule-stays a b grows before after t.site it.0 it.1));
    }

module _ (a : State) (whole : IsWhole a) (frame : ℕ) (file : IsFileFrame a frame) (ordered : AreInOrder a.known.file) (may : MayJudgeLoose a) (new : a.rules 0 ≡ None) (b : State) (line : ℕ)
    (verdict : Verdict) (it : AnswersVerdict a b frame kind.Conj 0 line verdict) where
  pub loose-ready : (cites : List ℕ) → cites ≡ line ∷ [] → IsReady a b frame 0 cites verdict
  loose-ready cites same =
      let grows = it.evaluates.grows in
      let there = file-later a b grows whole frame file ordered in
      subst (λ (ns : List ℕ). IsReady a b frame 0 ns verdict) (sym same) (record {
        bound = above a frame 0;
        evaluates = it.evaluates;
        adds = adds-outside b it.evaluates.whole frame it.at 0 it.framed (loose-home b it.evaluates.whole frame there (ordered-later a b grows whole frame file ordered)) file_frame there refl
            (it.evaluates.rules 0 ∙ new) refl may.first may.others (ap (λ (f : File). f.loose) (same-file a b grows whole) ∙ may.some) line verdict it.says;
      })
