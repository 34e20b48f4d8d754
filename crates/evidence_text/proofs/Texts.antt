-- The text of evidence is that of one version and one list of lines, and bytes that are no evidence have one fault.
use Rattle.std.proofs.Common.{eqb, ◌≡◌, ◌≢◌, ◌⊎◌, ◌+◌, inl, inr, ℕ, Bool, true, false, List, [], ◌∷◌, ◌++◌, Some, None, Result, Ok, Err, All, length, get_or, refl, sym, subst, ap, arith, ◌∙◌}
use Rattle.std.specs.Result.{IfErr, IfOk, MatchResult}
use Rattle.std.specs.List.{flat_map}
use Rattle.std.proofs.lemmas.List.{append-nil, append_assoc, append_cancel_left}
use Rattle.std.proofs.lemmas.List.Concat.{flat_map-append}
use Rattle.std.proofs.lemmas.List.Elements.{All-nil, All-push, All-head, All-tail}
use Rattle.std.proofs.lemmas.Bool.{both_ways}
use Rattle.std.proofs.lemmas.Option.{none-some, some_pair_parts}
use Rattle.evidence_lines.specs.Headers.{header}
use Rattle.evidence_lines.specs.Shapes.{IsInFormat}
use Rattle.evidence_lines.specs.declared.line.Line.{Line}
use Rattle.evidence_lines.specs.declared.version.Version.{Version}
use Rattle.evidence_lines.specs.declared.version.Version.TheVariants.{One, Two}
use Rattle.evidence_lines.specs.Versioned.{Versioned}
use Rattle.evidence_text.specs.code.Memory.{HasLine}
use Rattle.evidence_text.specs.code.Reading.{cut, line_in}
use Rattle.evidence_text.specs.Spelling.{fields_text, line_text}
use Rattle.evidence_text.specs.Text.{FailsBehind, IsEvidence, IsFault, IsRefused, LacksHeader, LacksLine, evidence_text}
use Rattle.evidence_text.specs.declared.refusal.EvidenceRefusal.{EvidenceRefusal}
use Rattle.evidence_text.specs.declared.refusal.EvidenceRefusal.TheVariants.{NoMemory, Syntax}
use Rattle.evidence_text.proofs.Cuts.{cut_some}
use Rattle.evidence_text.proofs.Lines.{cut_line, line_is, line_some, lines_apart}

-- ---- the loop over lines

-- the lines that were read behind the header of a version, and what stands behind them
pub record HasRead (bytes : List ℕ) (version : Version) (lines : List Line) (rest : List ℕ) : Type 0 where
  pub in_format : All IsInFormat lines
  pub text : evidence_text version lines ++ rest ≡ bytes

module _ (bytes : List ℕ) (version : Version) where
  pub begins : (rest : List ℕ) → header version ++ rest ≡ bytes → HasRead bytes version [] rest
  begins rest e = record { in_format = All-nil IsInFormat; text = ap (λ t. t ++ rest) (append-nil (header version)) ∙ e }

  pub goes_on : (rest fields after : List ℕ) (lines : List Line) (l : Line) → HasRead bytes version lines rest → cut 10 rest ≡ Some (fields, after)
      → line_in fields ≡ Some l → HasRead bytes version (lines ++ l ∷ []) after
  goes_on rest fields after lines l read is e =
      let line = line_some fields l e in
      let parts = cut_some 10 rest fields after is in
      let whole : line_text l ++ after ≡ rest = append_assoc (fields_text l) (10 ∷ []) after ∙ ap (λ t. t ++ (10 ∷ after)) line.1 ∙ sym parts.0 in
      let one : flat_map line_text (lines ++ l ∷ []) ≡ flat_map line_text lines ++ line_text l =
      flat_map-append line_text lines (l ∷ []) ∙ ap (λ t. flat_map line_text lines ++ t) (append-nil (line_text l)) in
      let more : evidence_text version (lines ++ l ∷ []) ++ after ≡ evidence_text version lines ++ (line_text l ++ after) =
      ap (λ t. (header version ++ t) ++ after) one ∙ regroup (header version) (flat_map line_text lines) (line_text l) after in
      record {
        in_format = All-push IsInFormat lines l read.in_format line.0;
        text = more ∙ ap (λ t. evidence_text version lines ++ t) whole ∙ read.text;
      }
    where
      regroup : (h a b c : List ℕ) → (h ++ (a ++ b)) ++ c ≡ (h ++ a) ++ (b ++ c)
      regroup h a b c = simp append_assoc

  pub ends : (lines : List Line) → HasRead bytes version lines [] → IsEvidence bytes version lines
  ends lines read = record { in_format = read.in_format; text = sym (append-nil (evidence_text version lines)) ∙ read.text }

-- the same where evidence is said to have this version and these lines
pub ends-as : (bytes : List ℕ) (version : Version) (lines : List Line) (rest : List ℕ) (e : Versioned) → HasRead bytes version lines rest → rest ≡ [] → e.version ≡ version → e.lines ≡ lines
    → IsEvidence bytes e.version e.lines
ends-as bytes version lines rest e read none version_is lines_are =
    subst (λ (v : Version). IsEvidence bytes v e.lines) (sym version_is)
    (subst (λ (ls : List Line). IsEvidence bytes version ls) (sym lines_are) (ends bytes version lines (subst (λ (r : List ℕ). HasRead bytes version lines r) none read)))

pub some_bytes : (rest : List ℕ) (empty : Bool) → empty ≡ eqb (length rest) 0 → empty ≡ false → rest ≢ []
some_bytes rest empty is not_empty e =
    let all : eqb (length rest) 0 ≡ true = ap (λ (t : List ℕ). eqb (length t) 0) e in
    both_ways empty not_empty (is ∙ all)

-- bytes without a newline begin with no line
pub lacks_newline : (rest : List ℕ) → cut 10 rest ≡ None → LacksLine rest
lacks_newline rest e l after format is = none-some _ (sym e ∙ ap (cut 10) (sym is) ∙ cut_line l after format)

-- bytes whose front before the newline is no line begin with no line
pub lacks_line : (rest fields behind : List ℕ) → cut 10 rest ≡ Some (fields, behind) → line_in fields ≡ None → LacksLine rest
lacks_line rest fields behind e none l after format is =
    let cuts : Some (fields, behind) ≡ Some (fields_text l, after) = sym e ∙ ap (cut 10) (sym is) ∙ cut_line l after format in
    let same = some_pair_parts fields (fields_text l) behind after cuts in
    none-some _ (sym none ∙ ap line_in same.0 ∙ line_is l format)

pub fails_here : (bytes : List ℕ) (version : Version) (lines : List Line) (rest : List ℕ) (number : ℕ) → HasRead bytes version lines rest → number ≡ length lines + 1 → rest ≢ []
    → LacksLine rest → IsFault bytes number
fails_here bytes version lines rest number read is remains lacks =
    inr (record { version = version; lines = lines; rest = rest; in_format = read.in_format; text = read.text; number_is = is; remains = remains; fails = lacks })

-- ---- one list, one fault, and never both

line_some_bytes : (l : Line) (rest : List ℕ) → line_text l ++ rest ≡ [] → ⊥
line_some_bytes l rest e = not_empty (fields_text l) rest e
  where
    not_empty : (front rest : List ℕ) → (front ++ 10 ∷ []) ++ rest ≡ [] → ⊥
    not_empty [] rest e = cc
    not_empty (b ∷ front) rest e = cc

-- lines with the same text before what begins with no line
same_lines : (ls ms : List Line) (a b : List ℕ) → All IsInFormat ls → All IsInFormat ms → LacksLine a → LacksLine b
    → flat_map line_text ls ++ a ≡ flat_map line_text ms ++ b → (ls ≡ ms) × (a ≡ b)
same_lines [] [] a b in_ls in_ms lacks_a lacks_b e = (refl, e)
same_lines [] (m ∷ ms) a b in_ls in_ms lacks_a lacks_b e =
    absurd (lacks_a m (flat_map line_text ms ++ b) (All-head IsInFormat m ms in_ms) (sym (append_assoc (line_text m) (flat_map line_text ms) b) ∙ sym e))
same_lines (l ∷ ls) [] a b in_ls in_ms lacks_a lacks_b e =
    absurd (lacks_b l (flat_map line_text ls ++ a) (All-head IsInFormat l ls in_ls) (sym (append_assoc (line_text l) (flat_map line_text ls) a) ∙ e))
same_lines (l ∷ ls) (m ∷ ms) a b in_ls in_ms lacks_a lacks_b e =
    let first =
    lines_apart l m (flat_map line_text ls ++ a) (flat_map line_text ms ++ b) (All-head IsInFormat l ls in_ls) (All-head IsInFormat m ms in_ms)
    (sym (append_assoc (line_text l) (flat_map line_text ls) a) ∙ e ∙ append_assoc (line_text m) (flat_map line_text ms) b) in
    let rest = same_lines ls ms a b (All-tail IsInFormat l ls in_ls) (All-tail IsInFormat m ms in_ms) lacks_a lacks_b first.1 in
    (ap (λ x. x ∷ ls) first.0 ∙ ap (λ xs. m ∷ xs) rest.0, rest.1)

-- the headers of the versions differ at their sixteenth byte
apart : (a b : List ℕ) → header One ++ a ≡ header Two ++ b → ⊥
apart a b e =
    let bytes : 49 ≡ 50 = ap (λ (t : List ℕ). get_or t 15 0) e in
    omega (arith, bytes)

same_version : (v w : Version) (a b : List ℕ) → header v ++ a ≡ header w ++ b → v ≡ w
same_version One One a b e = refl
same_version One Two a b e = absurd (apart a b e)
same_version Two One a b e = absurd (apart b a (sym e))
same_version Two Two a b e = refl

-- behind the header
pub record AreBehind (v w : Version) (ls ms : List Line) (a b : List ℕ) : Type 0 where
  pub versions : v ≡ w
  pub behind : flat_map line_text ls ++ a ≡ flat_map line_text ms ++ b

behind_header : (v w : Version) (ls ms : List Line) (a b : List ℕ) → evidence_text v ls ++ a ≡ evidence_text w ms ++ b → AreBehind v w ls ms a b
behind_header v w ls ms a b e =
    let whole : header v ++ (flat_map line_text ls ++ a) ≡ header w ++ (flat_map line_text ms ++ b) =
    sym (append_assoc (header v) (flat_map line_text ls) a) ∙ e ∙ append_assoc (header w) (flat_map line_text ms) b in
    let same : v ≡ w = same_version v w (flat_map line_text ls ++ a) (flat_map line_text ms ++ b) whole in
    record {
      versions = same;
      behind = append_cancel_left (header w) (flat_map line_text ls ++ a) (flat_map line_text ms ++ b)
          (ap (λ (x : Version). header x ++ (flat_map line_text ls ++ a)) (sym same) ∙ whole);
    }

lacks_nothing : LacksLine []
lacks_nothing l rest format e = line_some_bytes l rest e

pub one_list : (bytes : List ℕ) (v w : Version) (ls ms : List Line) → IsEvidence bytes v ls → IsEvidence bytes w ms → (v ≡ w) × (ls ≡ ms)
one_list bytes v w ls ms p q =
    let e : evidence_text v ls ++ [] ≡ evidence_text w ms ++ [] = ap (λ t. t ++ []) (p.text ∙ sym q.text) in
    let same = behind_header v w ls ms [] [] e in
    (same.versions, (same_lines ls ms [] [] p.in_format q.in_format lacks_nothing lacks_nothing same.behind).0)

pub never_both : (bytes : List ℕ) (v : Version) (ls : List Line) (n : ℕ) → IsEvidence bytes v ls → IsFault bytes n → ⊥
never_both bytes v ls n p (inl (is, lacks)) = lacks v (flat_map line_text ls) p.text
never_both bytes v ls n p (inr f) =
    let e : evidence_text f.version f.lines ++ f.rest ≡ evidence_text v ls ++ [] = f.text ∙ sym p.text ∙ sym (append-nil (evidence_text v ls)) in
    let same = behind_header f.version v f.lines ls f.rest [] e in
    f.remains (same_lines f.lines ls f.rest [] f.in_format p.in_format f.fails lacks_nothing same.behind).1

no_header : (bytes : List ℕ) (n : ℕ) → LacksHeader bytes → FailsBehind bytes n → ⊥
no_header bytes n lacks f = lacks f.version (flat_map line_text f.lines ++ f.rest) (sym (append_assoc (header f.version) (flat_map line_text f.lines) f.rest) ∙ f.text)

pub one_fault : (bytes : List ℕ) (n m : ℕ) → IsFault bytes n → IsFault bytes m → n ≡ m
one_fault bytes n m (inl p) (inl q) = p.0 ∙ sym q.0
one_fault bytes n m (inl p) (inr g) = absurd (no_header bytes m p.1 g)
one_fault bytes n m (inr f) (inl q) = absurd (no_header bytes n q.1 f)
one_fault bytes n m (inr f) (inr g) =
    let e : evidence_text f.version f.lines ++ f.rest ≡ evidence_text g.version g.lines ++ g.rest = f.text ∙ sym g.text in
    let behind = behind_header f.version g.version f.lines g.lines f.rest g.rest e in
    let same = (same_lines f.lines g.lines f.rest g.rest f.in_format g.in_format f.fails g.fails behind.behind).0 in
    f.number_is ∙ ap (λ ls. length ls + 1) same ∙ sym g.number_is

pub no_front : (l m : Line) (rest : List ℕ) → IsInFormat l → IsInFormat m → line_text l ++ rest ≡ line_text m → (l ≡ m) × (rest ≡ [])
no_front l m rest format_l format_m e = lines_apart l m rest [] format_l format_m (e ∙ sym (append-nil (line_text m)))

-- ---- the header

pub no_version : (bytes : List ℕ) → ((rest : List ℕ) → header One ++ rest ≡ bytes → ⊥) → ((rest : List ℕ) → header Two ++ rest ≡ bytes → ⊥) → LacksHeader bytes
no_version bytes first second One rest e = first rest e
no_version bytes first second Two rest e = second rest e

-- ---- what reading answers, both ways

pub only_lines : (bytes : List ℕ) (r : Result Versioned EvidenceRefusal) → IfOk r (λ e. IsEvidence bytes e.version e.lines) → IfErr r (λ q. IsRefused bytes q)
    → (v : Version) (ls : List Line) → IsEvidence bytes v ls → MatchResult r (λ e. (e.version ≡ v) × (e.lines ≡ ls)) (λ q. q ≡ NoMemory)
only_lines bytes (Ok e) ok err v ls is = one_list bytes e.version v e.lines ls ok is
only_lines bytes (Err (Syntax n)) ok err v ls is = absurd (never_both bytes v ls n is err)
only_lines bytes (Err NoMemory) ok err v ls is = refl

pub only_refusal : (bytes : List ℕ) (r : Result Versioned EvidenceRefusal) → IfOk r (λ e. IsEvidence bytes e.version e.lines) → IfErr r (λ q. IsRefused bytes q)
    → (n : ℕ) → IsFault bytes n → MatchResult r (λ _. ⊥) (λ q. (q ≡ NoMemory) ⊎ (q ≡ Syntax n))
only_refusal bytes (Ok e) ok err n fault = never_both bytes e.version e.lines n ok fault
only_refusal bytes (Err (Syntax m)) ok err n fault = inr (ap (λ k. Syntax k) (one_fault bytes m n err fault))
only_refusal bytes (Err NoMemory) ok err n fault = inl refl

-- lines read so far and then a line with its newline begin with a line and its newline
line_first : (rest fields after : List ℕ) (lines : List Line) → rest ≡ fields ++ 10 ∷ after → (a b : List ℕ) × (flat_map line_text lines ++ rest ≡ a ++ 10 ∷ b)
line_first rest fields after [] is = (fields, after, is)
line_first rest fields after (l ∷ ls) is =
    let more = flat_map line_text ls in
    (fields_text l, more ++ rest, append_assoc (line_text l) more rest ∙ append_assoc (fields_text l) (10 ∷ []) (more ++ rest))

pub has_line : (bytes : List ℕ) (version : Version) (rest fields after : List ℕ) (lines : List Line) → HasRead bytes version lines rest → cut 10 rest ≡ Some (fields, after) → HasLine bytes
has_line bytes version rest fields after lines read is =
    let first = line_first rest fields after lines (cut_some 10 rest fields after is).0 in
    (version, first.0, first.1, ap (λ t. header version ++ t) (sym first.2) ∙ sym (append_assoc (header version) (flat_map line_text lines) rest) ∙ read.text)
