-- Evidence is judged in one way, where its bytes have one list of lines or one fault.
use Rattle.std.proofs.Common.{◌≡◌, ◌⊎◌, ◌≤◌, ◌<◌, ℕ, zero, suc, refl, sym, ap, ap₂, ◌∙◌, subst, inl, inr, arith, List, [], ◌∷◌, ◌++◌, Some, length, take}
use Rattle.doc_values.specs.Limits.{evidence_limit}
use Rattle.doc_values.specs.Tree.{Forest}
use Rattle.evidence_rules.specs.Rejected.{IsRejectedAt}
use Rattle.evidence_lines.specs.Versioned.{Versioned}
use Rattle.evidence_lines.specs.declared.line.Line.{Line}
use Rattle.evidence_lines.specs.declared.version.Version.{Version}
use Rattle.evidence_text.specs.Text.{IsEvidence, IsFault}
use Rattle.guard_syntax.specs.Syntax.{File}
use Rattle.guard_syntax.specs.declared.row.Verdict.{Verdict}
use Rattle.rule_meaning.specs.StoreModel.{StoreModel}
use Rattle.evidence_rules.specs.Follows.{Accepts, AllFollow, nothing_made}
use Rattle.rule_meaning.specs.Seeing.{grown}
use Rattle.guard_ends.specs.End.{ReadAsYaml}
use Rattle.guard_ends.specs.Check.{accepted_text, rejected_text}
use Rattle.guard_ends.specs.Inputs.{IsProof, IsTooLong, RefusesProof}
use Rattle.guard_ends.specs.Order.{Contents, Ended, Ending, Ends, Inputs, IsChecked, OfEvidence, Reading, Work, refused}
use Rattle.guard_ends.specs.declared.ends.End.TheVariants as end_is
use Rattle.guard_ends.specs.declared.ends.Refusal.{Refusal}
use Rattle.guard_ends.specs.declared.ends.Refusal.TheVariants.{TooLong, NotText, EvidenceSyntax, TextTooLong, At}
use Rattle.guard_ends.specs.declared.ends.Which.TheVariants as file
use Rattle.guard_laws.proofs.OneStage.{HasOne, OneReading, ending-is, ending-one, loaded, loading-one, read-goes, reading-one}
use Rattle.guard_laws.proofs.OneVerdict.{said-one, verdicts-one}

-- ---- the first line that does not follow is one

-- where lines follow, so do the first of them
follow-take : (version : Version) (known : StoreModel) (before : List Line) (n : ℕ) (lines : List Line) → AllFollow version known before lines → AllFollow version known before (take n lines)
follow-take version known before zero lines follow = tt
follow-take version known before (suc n) [] follow = tt
follow-take version known before (suc n) (l ∷ lines) (more, follows, others) = (more, follows, follow-take version (grown known more) (before ++ l ∷ []) n lines others)

follow-less : (version : Version) (known : StoreModel) (before : List Line) (n m : ℕ) (lines : List Line) → n ≤ m → AllFollow version known before (take m lines) → AllFollow version known before (take n lines)
follow-less version known before zero m lines less follow = tt
follow-less version known before (suc n) zero lines less follow = absurd (omega (arith, less))
follow-less version known before (suc n) (suc m) [] less follow = tt
follow-less version known before (suc n) (suc m) (l ∷ lines) less (more, follows, others) =
    (more, follows, follow-less version (grown known more) (before ++ l ∷ []) n m lines (omega (arith, less)) others)

module _ (version : Version) (template : Forest) (rules : File) (lines : List Line) where
  abbrev FollowTo : ℕ → Type 0
  FollowTo n = AllFollow version (nothing_made template rules) [] (take n lines)

  never-less : (before after : ℕ) → suc before ≤ after → FollowTo after → (FollowTo (suc before) → ⊥) → ⊥
  never-less before after less follow fails = fails (follow-less version (nothing_made template rules) [] (suc before) after lines less follow)

  -- of two places up to which lines follow, and not further, none is before the other
  same-place : (m n : ℕ) → FollowTo m → (FollowTo (suc m) → ⊥) → FollowTo n → (FollowTo (suc n) → ⊥) → m ≡ n
  same-place m n follow fails follow' fails' =
      let not_less : m < n → ⊥ = λ less. never-less m n (omega (arith, less)) follow' fails in
      let not_more : n < m → ⊥ = λ less. never-less n m (omega (arith, less)) follow fails' in
      grind (arith, not_less, not_more)

  rejected-apart : (n : ℕ) → Accepts version template rules lines → IsRejectedAt version template rules lines n → ⊥
  rejected-apart n accepted (inl (before, is, within, follow, fails)) = fails (follow-take version (nothing_made template rules) [] n lines accepted.follow)
  rejected-apart n accepted (inr (is, follow, not)) = not accepted

  rejected-one : (n m : ℕ) → IsRejectedAt version template rules lines n → IsRejectedAt version template rules lines m → n ≡ m
  rejected-one n m (inl (before, is, within, follow, fails)) (inl (before', is', within', follow', fails')) =
      is ∙ (ap suc (same-place before before' follow (subst (λ k. FollowTo k → ⊥) is fails) follow' (subst (λ k. FollowTo k → ⊥) is' fails')) ∙ sym is')
  rejected-one n m (inl (before, is, within, follow, fails)) (inr (is', all, not)) = absurd (fails (follow-take version (nothing_made template rules) [] n lines all))
  rejected-one n m (inr (is, all, not)) (inl (before, is', within, follow, fails)) = absurd (fails (follow-take version (nothing_made template rules) [] m lines all))
  rejected-one n m (inr (is, all, not)) (inr (is', all', not')) = is ∙ sym is'

abbrev accepted-as : File → List Verdict → Ended
accepted-as rules vs = record { how = end_is.Accepted; out = accepted_text rules vs; err = [] }

abbrev rejected-as : ℕ → Ended
rejected-as n = record { how = end_is.Rejected n; out = rejected_text n; err = [] }

checked-one : (rules : File) (template : Forest) (evidence : Versioned) (e other : Ended)
    → IsChecked rules template evidence e → IsChecked rules template evidence other → e ≡ other
checked-one rules template evidence e other (inl (vs, accepted, are, is)) (inl (ws, accepted', are', is')) =
    is
    ∙ (ap (accepted-as rules)
    (verdicts-one evidence.lines (said-one evidence.version template rules evidence.lines accepted.follow) rules.rules rules.loose vs ws are are') ∙ sym is')
checked-one rules template evidence e other (inl (vs, accepted, are, is)) (inr (n, rejected, is')) =
    absurd (rejected-apart evidence.version template rules evidence.lines n accepted rejected)
checked-one rules template evidence e other (inr (n, rejected, is)) (inl (ws, accepted, are, is')) =
    absurd (rejected-apart evidence.version template rules evidence.lines n accepted rejected)
checked-one rules template evidence e other (inr (n, rejected, is)) (inr (m, rejected', is')) =
    is ∙ (ap rejected-as (rejected-one evidence.version template rules evidence.lines n m rejected rejected') ∙ sym is')

-- lines that are to be accepted are not rejected
pub accepted-ends : (rules : File) (template : Forest) (evidence : Versioned) (e : Ended)
    → Accepts evidence.version template rules evidence.lines → IsChecked rules template evidence e → e.how ≡ end_is.Accepted
accepted-ends rules template evidence e accepts (inl (verdicts, accepted, are, is)) = ap (λ (x : Ended). x.how) is
accepted-ends rules template evidence e accepts (inr (n, rejected, is)) = absurd (rejected-apart evidence.version template rules evidence.lines n accepts rejected)

-- and none but such are accepted
pub accepted-only : (rules : File) (template : Forest) (evidence : Versioned) (e : Ended)
    → IsChecked rules template evidence e → e.how ≡ end_is.Accepted → Accepts evidence.version template rules evidence.lines
accepted-only rules template evidence e (inl (verdicts, accepted, are, is)) how = accepted
accepted-only rules template evidence e (inr (n, rejected, is)) how = let other : e.how ≡ end_is.Rejected n = ap (λ (x : Ended). x.how) is in absurd cc

-- ---- bytes have lines or a refusal

-- what the laws of the reader of evidence say of bytes
pub record EvidenceLaws (bytes : List ℕ) : Type 0 where
  pub lines : (v w : Version) (ls ms : List Line) → IsEvidence bytes v ls → IsEvidence bytes w ms → (v ≡ w) × (ls ≡ ms)
  pub fault : (n m : ℕ) → IsFault bytes n → IsFault bytes m → n ≡ m
  pub apart : (v : Version) (ls : List Line) (n : ℕ) → IsEvidence bytes v ls → IsFault bytes n → ⊥

abbrev ProofWhy : List ℕ → Refusal → Type 0
ProofWhy bytes r =
    ((r ≡ TooLong file.Proof) × IsTooLong evidence_limit bytes)
    ⊎ ((n : ℕ) × (r ≡ EvidenceSyntax n) × (length bytes ≤ evidence_limit) × IsFault bytes n)

proof-why : (bytes : List ℕ) (r : Refusal) → RefusesProof bytes r → ProofWhy bytes r
proof-why bytes TextTooLong h = absurd h
proof-why bytes (TooLong file.Rules) h = absurd h
proof-why bytes (TooLong file.Template) h = absurd h
proof-why bytes (TooLong file.Params) h = absurd h
proof-why bytes (TooLong file.Proof) h = inl (refl, h)
proof-why bytes (TooLong file.Tests) h = absurd h
proof-why bytes (NotText which) h = absurd h
proof-why bytes (EvidenceSyntax n) h = inr (n, refl, h.0, h.1)
proof-why bytes (At which kind at name) h = absurd h

long-apart : (bytes : List ℕ) → IsTooLong evidence_limit bytes → length bytes ≤ evidence_limit → ⊥
long-apart bytes long within = omega arith

module _ (bytes : List ℕ) (laws : EvidenceLaws bytes) where
  why-one : (r q : Refusal) → ProofWhy bytes r → ProofWhy bytes q → r ≡ q
  why-one r q (inl (is, long)) (inl (is', long')) = is ∙ sym is'
  why-one r q (inl (is, long)) (inr (n, is', within, fault)) = absurd (long-apart bytes long within)
  why-one r q (inr (n, is, within, fault)) (inl (is', long)) = absurd (long-apart bytes long within)
  why-one r q (inr (n, is, within, fault)) (inr (m, is', within', fault')) = is ∙ (ap (λ k. EvidenceSyntax k) (laws.fault n m fault fault') ∙ sym is')

  why-apart : (r : Refusal) (evidence : Versioned) → ProofWhy bytes r → IsProof bytes evidence → ⊥
  why-apart r evidence (inl (is, long)) whole = long-apart bytes long whole.within
  why-apart r evidence (inr (n, is, within, fault)) whole = laws.apart evidence.version evidence.lines n whole.read fault

  evidence-one : (x y : Versioned) → IsProof bytes x → IsProof bytes y → x ≡ y
  evidence-one x y whole whole' =
      let same = laws.lines x.version y.version x.lines y.lines whole.read whole'.read in
      let made : Version → List Line → Versioned = λ version lines. record { version = version; lines = lines } in
      ap₂ made same.0 same.1

  pub proof-reading : (IsYaml : ReadAsYaml) → OneReading IsYaml Versioned RefusesProof IsProof bytes
  proof-reading IsYaml = record {
    one = evidence-one;
    refusal = λ r q h h'. inl (ap (refused bytes) (why-one r q (proof-why bytes r h) (proof-why bytes q h')));
    apart = λ r evidence h whole. why-apart r evidence (proof-why bytes r h) whole;
  }

module _ (IsYaml : ReadAsYaml) (bytes : List ℕ) (laws : EvidenceLaws bytes) (told : Contents) (name : List ℕ) (known : told name ≡ Some bytes) (inputs : Inputs) where
  abbrev Judges : Versioned → Work
  Judges evidence = Ending (IsChecked inputs.rules inputs.tree evidence)

  abbrev Reads_proof : List ℕ → Work
  Reads_proof read = Reading RefusesProof IsProof read Judges

  -- where evidence is told, it is judged with one end
  pub proof-one : HasOne IsYaml (OfEvidence told name inputs)
  proof-one =
      loading-one IsYaml file.Proof told name bytes Reads_proof known
      (reading-one IsYaml Versioned RefusesProof IsProof bytes Judges (proof-reading bytes laws IsYaml)
      (λ evidence. ending-one IsYaml (IsChecked inputs.rules inputs.tree evidence) (checked-one inputs.rules inputs.tree evidence)))

  -- and where it is read, its end is that of its lines
  pub proof-goes : (evidence : Versioned) → IsProof bytes evidence → (e : Ended) → OfEvidence told name inputs (Ends e)
      → IsChecked inputs.rules inputs.tree evidence e
  proof-goes evidence whole e came =
      ending-is (IsChecked inputs.rules inputs.tree evidence) e
      (read-goes IsYaml Versioned RefusesProof IsProof bytes Judges (proof-reading bytes laws IsYaml) evidence whole e
      (loaded file.Proof told name bytes Reads_proof known e came))
