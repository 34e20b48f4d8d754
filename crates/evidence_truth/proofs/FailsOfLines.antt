-- All lines that say FAIL and follow tell what their part fails by, by induction on the list of lines.
use Rattle.std.proofs.Common.{◌≡◌, ◌<◌, ◌≤◌, ℕ, zero, suc, ◌⊎◌, true≢false, refl, sym, ap, ap₂, ◌∙◌, subst, inl, inr, arith, append_assoc, List, [], ◌∷◌, ◌++◌, length, map, drop, slice_get, Option, Some, None, option_and_then}
use Rattle.std.specs.Prelude.{Contains, slice_index_or}
use Rattle.std.proofs.lemmas.List.{append-nil}
use Rattle.std.proofs.lemmas.Option.{same_Some, none-some}
use Rattle.doc_values.specs.Tree.{Forest}
use Rattle.evidence_lines.specs.Lines.{line_of}
use Rattle.evidence_lines.specs.declared.line.Line.{Line}
use Rattle.evidence_lines.specs.declared.line.LineKind.{LineKind}
use Rattle.evidence_lines.specs.declared.line.LineKind.TheVariants as kind
use Rattle.evidence_lines.specs.declared.line.Outcome.{Outcome}
use Rattle.evidence_lines.specs.declared.line.Outcome.TheVariants as says
use Rattle.evidence_lines.specs.declared.version.Version.{Version}
use Rattle.guard_syntax.specs.Syntax.{File, Rule}
use Rattle.guard_syntax.specs.declared.row.Verdict.{Verdict}
use Rattle.guard_syntax.specs.declared.row.Verdict.TheVariants.{Fail}
use Rattle.rule_names.specs.Pieces.{Piece, OfFile, OfRule, piece_at}
use Rattle.rule_meaning.specs.Environments.{Environment, Top}
use Rattle.rule_meaning.specs.Fails.{Calls, Entry}
use Rattle.rule_meaning.specs.FunctionMeaning.{IsAnswering}
use Rattle.rule_meaning.specs.Locations.{Answers, World}
use Rattle.rule_meaning.specs.Meaning.{Names}
use Rattle.rule_meaning.specs.Seeing.{world_of}
use Rattle.rule_meaning.specs.StoreModel.{Made, StoreModel}
use Rattle.rule_meaning.specs.code.Fixpoint.{IsFixpoint}
use Rattle.evidence_rules.specs.CitedLines.{IsLine}
use Rattle.evidence_rules.specs.Follows.{Follows, FollowsIn, FollowsVerdict, nothing_made}
use Rattle.evidence_rules.specs.code.Judgement.{FollowTo}
use Rattle.evidence_rules.proofs.LinesBehind.{behind-first}
use Rattle.meaning_laws.specs.code.Entries.{IsCallsFixpoint, loose_fails_with, rule_fails_with}
use Rattle.evidence_truth.specs.code.LineFails.{line_entries, line_fails, piece_entries, says_fail}
use Rattle.evidence_truth.proofs.FailsTrue.{AreTold, EntriesOf, IsOfFile, IsTold, fail-told, rule-framed, valued}
use Rattle.evidence_truth.proofs.HeldLines.{AreHeld}
use Rattle.evidence_truth.proofs.LinesSoFar.{Evidence, Framing, Meant, Past, last_store, store_of, world_for}
use Rattle.evidence_truth.proofs.LinesTrue.{later-trees, no-line, one-more}

-- ---- the line behind others

at-number : (ls : List Line) (line : Line) (n : ℕ) (l : Line) → slice_get (ls ++ line ∷ []) n ≡ Some l → (slice_get ls n ≡ Some l) ⊎ ((n ≡ length ls) × (line ≡ l))
at-number [] line zero l stands = inr (refl, same_Some line l stands)
at-number [] line (suc n) l stands = absurd (none-some l stands)
at-number (first ∷ ls) line zero l stands = inl stands
at-number (first ∷ ls) line (suc n) l stands = elim (at-number ls line n l stands) [
  | inl there ↦ inl there
  | inr (is, same) ↦ inr (ap suc is, same)
]

got-last : (ls : List Line) (line : Line) → slice_get (ls ++ line ∷ []) (length ls) ≡ Some line
got-last [] line = refl
got-last (first ∷ ls) line = got-last ls line

last-line : (ls : List Line) (line : Line) → line_of (ls ++ line ∷ []) (suc (length ls)) ≡ Some line
last-line ls line = behind-first (ls ++ line ∷ []) (length ls) ∙ got-last ls line

-- what an outcome says as a verdict
verdict_in : Outcome → Option Verdict
verdict_in (says.Verdict verdict) = Some verdict
verdict_in _ = None

module _ (e : Evidence) (meant : Meant e) (calls : Calls) (obeyed : IsCallsFixpoint (world_for e) e.names calls) where
  module _ (made : List Made) (before : List Line) (line : Line) (more : List Made) (past : Past e made before) (old : AreTold e calls before)
      (stands : line_of e.lines (suc (length before)) ≡ Some line) where
    -- it follows as a line with a verdict
    verdict-in : (frame site : ℕ) (of : LineKind) (said : Outcome) → said ≡ says.Verdict Fail → FollowsIn e.version (store_of e made) before frame site of line.cites said more
        → FollowsVerdict e.version (store_of e made) before frame site of (piece_at e.file site) line.cites Fail
    unfolding verdict_in
    verdict-in frame site kind.Frame (says.Value v) is h = absurd (none-some Fail (ap verdict_in is))
    verdict-in frame site of (says.Rows rows) is h = absurd (none-some Fail (ap verdict_in is))
    verdict-in frame site of (says.Verdict verdict) is h =
        subst (λ (v : Verdict). FollowsVerdict e.version (store_of e made) before frame site of (piece_at e.file site) line.cites v) (same_Some verdict Fail (ap verdict_in is)) h.0
    verdict-in frame site of said is h = absurd h

    entries-there : (most frame site : ℕ) → line.frame ≡ Some frame → line.site ≡ Some site
        → line_fails (last_store e) e.lines (suc most) (suc (length before))
        ≡ piece_entries (last_store e) e.lines (line_fails (last_store e) e.lines most) (piece_at e.file site) (Some frame) line.cites
    entries-there most frame site frame_is site_is =
        ap (line_entries (last_store e) e.lines (line_fails (last_store e) e.lines most)) stands
        ∙ ap₂ (λ (f s : Option ℕ). piece_entries (last_store e) e.lines (line_fails (last_store e) e.lines most) (option_and_then (piece_at e.file) s) f line.cites) frame_is site_is

    told-by : (frame site : ℕ) (env : Environment) → line.frame ≡ Some frame → line.site ≡ Some site → line.outcome ≡ says.Verdict Fail → Framing e frame env
        → Follows e.version (store_of e made) before line more → (most : ℕ) → suc (length before) ≤ most
        → EntriesOf e calls env (piece_at e.file site) (line_fails (last_store e) e.lines most (suc (length before)))
    told-by frame site env frame_is site_is said framing follows zero enough = absurd (omega (arith, enough))
    told-by frame site env frame_is site_is said framing follows (suc most) enough = elim follows [
      | inl ((kind_is, no_frame, no_site, cites_are, outcome_is), none) ↦ absurd (true≢false (ap says_fail (sym said ∙ outcome_is)))
      | inr (f, s, f_is, s_is, home, h) ↦
          let frames : f ≡ frame = same_Some f frame (sym f_is ∙ frame_is) in
          let sites : s ≡ site = same_Some s site (sym s_is ∙ site_is) in
          let has = valued e made before past f _ home in
          let framing_here : Framing e f env = subst (λ (n : ℕ). Framing e n env) (sym frames) framing in
          let few : length before ≤ most = omega (arith, enough) in
          let tells : EntriesOf e calls env (piece_at e.file s) (line_fails (last_store e) e.lines (suc most) (suc (length before))) =
          subst (EntriesOf e calls env (piece_at e.file s)) (sym (entries-there most f s f_is s_is))
          (fail-told e meant calls obeyed made before past old most few f s env line.kind (piece_at e.file s) line.cites has.0 has.1 framing_here refl
          (verdict-in f s line.kind line.outcome said h)) in
          subst (λ (n : ℕ). EntriesOf e calls env (piece_at e.file n) (line_fails (last_store e) e.lines (suc most) (suc (length before)))) sites tells
    ]

    -- that of a rule stands in the file's frame
    rule-in : (frame site : ℕ) (of : LineKind) → of ≡ kind.Rule → FollowsVerdict e.version (store_of e made) before frame site of (piece_at e.file site) line.cites Fail → Framing e frame Top
    rule-in frame site of is h =
        rule-framed e meant calls obeyed made before past old (length before) (omega arith) frame site (piece_at e.file site) line.cites
        (subst (λ (k : LineKind). FollowsVerdict e.version (store_of e made) before frame site k (piece_at e.file site) line.cites Fail) is h)

    of-file : Follows e.version (store_of e made) before line more → IsOfFile e calls line
    of-file follows frame of frame_is said = elim follows [
      | inl ((kind_is, no_frame, no_site, cites_are, outcome_is), none) ↦ absurd (true≢false (ap says_fail (sym said ∙ outcome_is)))
      | inr (f, s, f_is, s_is, home, h) ↦
          subst (λ (n : ℕ). Framing e n Top) (same_Some f frame (sym f_is ∙ frame_is)) (rule-in f s line.kind of (verdict-in f s line.kind line.outcome said h))
    ]

    told-more : Follows e.version (store_of e made) before line more → AreTold e calls (before ++ line ∷ [])
    told-more follows zero l is = absurd (none-some l is)
    told-more follows (suc n) l is = elim (at-number before line n l (sym (behind-first (before ++ line ∷ []) n) ∙ is)) [
      | inl there ↦ old (suc n) l (behind-first before n ∙ there)
      | inr (number_is, same) ↦
          subst (λ (x : Line). IsTold e calls (suc n) x) same
          (subst (λ (m : ℕ). IsTold e calls (suc m) line) (sym number_is)
          (λ frame site env frame_is site_is said framing most enough. told-by frame site env frame_is site_is said framing follows most enough, of-file follows))
    ]

  all-told : (made : List Made) (before rest : List Line) → before ++ rest ≡ e.lines → Past e made before → AreTold e calls before → FollowTo e.version (store_of e made) before rest (last_store e)
      → AreHeld (last_store e) e.lines × AreTold e calls e.lines
  all-told made before [] split past old follow =
      let same : before ≡ e.lines = sym (append-nil before) ∙ split in (
        subst (λ (k : StoreModel). AreHeld k e.lines) follow (subst (AreHeld (store_of e made)) same past.held),
        subst (AreTold e calls) same old,
      )
  all-told made before (line ∷ rest) split past old (more, follows, others) =
      let next = one-more e meant made before rest line more split past follows others in
      all-told (made ++ more) (before ++ line ∷ []) rest (append_assoc before (line ∷ []) rest ∙ split) next
      (told-more made before line more past old (next.stand (suc (length before)) line (last-line before line)) follows) others

  pub lines-told : FollowTo e.version (nothing_made e.template e.file) [] e.lines (last_store e) → AreHeld (last_store e) e.lines × AreTold e calls e.lines
  lines-told follow =
      let start : Past e [] [] = record {
        cut = record { later = e.made; grows = refl; rest = e.lines; splits = refl; called = refl };
        held = λ number l there. absurd (no-line number l there);
        stand = λ number l there. absurd (no-line number l there);
        holds = λ number l there. absurd (no-line number l there);
        framed = λ number l there. absurd (no-line number l there);
      } in
      all-told [] [] e.lines refl start (λ number l there. absurd (no-line number l there)) follow

-- ---- whatever the last store is

-- ---- whatever the last store is

-- all values that lines name are held, and a `rule` line that says FAIL tells what its rule, or the parts outside rules, fail by
pub record AreRulesTold (known : StoreModel) (lines : List Line) (world : World) (names : Names) (calls : Calls) : Type 0 where
  pub held : AreHeld known lines
  pub rule : (r : Rule) (number frame site most : ℕ) → piece_at world.file site ≡ Some (OfRule r) → IsLine lines number kind.Rule frame site (says.Verdict Fail) → number ≤ most
      → rule_fails_with world names calls r ≡ line_fails known lines most number
  pub loose : (number frame most : ℕ) → piece_at world.file 0 ≡ Some OfFile → IsLine lines number kind.Rule frame 0 (says.Verdict Fail) → number ≤ most
      → loose_fails_with world names calls world.file.loose ≡ line_fails known lines most number

module _ (e : Evidence) (meant : Meant e) (calls : Calls) (obeyed : IsCallsFixpoint (world_for e) e.names calls) where
  rules-told : FollowTo e.version (nothing_made e.template e.file) [] e.lines (last_store e) → AreRulesTold (last_store e) e.lines (world_for e) e.names calls
  rules-told follow =
      let both = lines-told e meant calls obeyed follow in
      let told : (number frame site most : ℕ) → IsLine e.lines number kind.Rule frame site (says.Verdict Fail) → number ≤ most
      → EntriesOf e calls Top (piece_at e.file site) (line_fails (last_store e) e.lines most number) =
      λ number frame site most is enough.
      let one = both.1 number is.line is.stands in
      one.0 frame site Top is.frame_is is.site_is is.outcome_is (one.1 frame is.kind_is is.frame_is is.outcome_is) most enough in
      record {
        held = both.0;
        rule = λ r number frame site most there is enough. subst (λ (p : Option Piece). EntriesOf e calls Top p (line_fails (last_store e) e.lines most number)) there (told number frame site most is enough);
        loose = λ number frame most there is enough. subst (λ (p : Option Piece). EntriesOf e calls Top p (line_fails (last_store e) e.lines most number)) there (told number frame 0 most is enough);
      }

pub known-told : (version : Version) (template : Forest) (file : File) (lines : List Line) (known : StoreModel) (answers : Answers) (names : Names) (calls : Calls)
    → ((e : Evidence) → e.file ≡ file → IsAnswering (world_for e) → IsFixpoint (world_for e) e.names → Meant e)
    → FollowTo version (nothing_made template file) [] lines known → IsAnswering (world_of known answers) → IsFixpoint (world_of known answers) names
    → IsCallsFixpoint (world_of known answers) names calls → AreRulesTold known lines (world_of known answers) names calls
known-told version template file lines known answers names calls means follow =
    let trees = later-trees version template file [] [] lines known follow in
    subst (λ (k : StoreModel). FollowTo version (nothing_made template file) [] lines k → IsAnswering (world_of k answers) → IsFixpoint (world_of k answers) names
    → IsCallsFixpoint (world_of k answers) names calls → AreRulesTold k lines (world_of k answers) names calls) (sym trees.1)
    (λ followed answering obeys obeyed.
    let e : Evidence = record { version = version; template = template; file = file; made = trees.0; lines = lines; answers = answers; names = names } in
    rules-told e (means e refl answering obeys) calls obeyed followed) follow

-- ---- rules

-- functions that are the same on a list are the same at each of it
same-at : (f g : Rule → List Entry) (rs : List Rule) (k : ℕ) (d : Rule) → map f rs ≡ map g rs → k < length rs → f (slice_index_or rs k d) ≡ g (slice_index_or rs k d)
same-at f g [] k d same within = absurd (omega (arith, within))
same-at f g (r ∷ rs) zero d same within = ap (λ (es : List (List Entry)). slice_index_or es 0 (f r)) same
same-at f g (r ∷ rs) (suc k) d same within = same-at f g rs k d (ap (λ (es : List (List Entry)). drop 1 es) same) (omega (arith, within))

pub same-in : (f g : Rule → List Entry) (rs : List Rule) (r : Rule) → map f rs ≡ map g rs → Contains rs r → f r ≡ g r
same-in f g rs r same (k, within, is) = subst (λ (x : Rule). f x ≡ g x) is (same-at f g rs k r same within)
