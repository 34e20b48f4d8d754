-- The table of `rule` lines by their sites has a line of each site that has one: by induction on how many lines were noted.
use Rattle.std.proofs.Common.{◌≡◌, ◌≢◌, ◌⊎◌, ℕ, zero, suc, ◌+◌, ◌<◌, ◌≤◌, ◌==◌, Bool, true, false, refl, sym, ap, subst, ◌∙◌, inl, inr, arith, get_or, set, nat_lt, List, length, replicate, Option, Some, None, is_some, option_and_then, if◌then◌else◌}
use Rattle.std.specs.Prelude.{option_map}
use Rattle.std.proofs.lemmas.Bool.{cases_lt, true≢false}
use Rattle.std.proofs.lemmas.Bool.Decides.{nat_tests}
use Rattle.std.proofs.lemmas.List.{get_or-replicate, get_or-set_other, get_or-set_same, get_or_past, length-replicate, length-set}
use Rattle.std.proofs.lemmas.Option.{none-some, same_Some}
use Rattle.evidence_lines.specs.Lines.{line_of}
use Rattle.evidence_lines.specs.code.Said.{kind_at}
use Rattle.evidence_lines.specs.declared.line.Line.{Line}
use Rattle.evidence_lines.specs.declared.line.LineKind.{LineKind}
use Rattle.evidence_lines.specs.declared.line.LineKind.TheVariants as kind
use Rattle.evidence_lines.specs.declared.line.Outcome.{Outcome}
use Rattle.evidence_lines.specs.declared.line.Outcome.TheVariants as says
use Rattle.evidence_lookups.specs.code.JudgedSites.{is_rule}
use Rattle.evidence_report.specs.code.RuleTables.{AreRuleLines, IsRuleLine, rule_line, ruled_by, ruled_site, with_line}
use Rattle.evidence_report.specs.declared.rule_lines.RuleLine.{RuleLine}
use Rattle.evidence_leads.proofs.EarlierCites.{number-within}

-- the table behind so many lines
abbrev pub table_upto : List Line → (sites : ℕ) → ℕ → List (Option RuleLine)
table_upto lines sites zero = replicate sites None
table_upto lines sites (suc n) = with_line (table_upto lines sites n) (rule_line lines (suc n))

-- ---- one line

-- none is made of a line of another kind
pub unruled : (lines : List Line) (number : ℕ) → is_rule (kind_at lines number) ≡ false → rule_line lines number ≡ None
unruled lines number other = by (line_of lines number) other
  where
    unsited : (of : LineKind) (frame site : Option ℕ) → is_rule (Some of) ≡ false → ruled_site of frame site ≡ None
    unsited kind.Rule frame site is = absurd (true≢false is)
    unsited of frame site is = refl

    by : (o : Option Line) → is_rule (option_map (λ (l : Line). l.kind) o) ≡ false
        → option_and_then (λ (l : Line). option_and_then (λ (site : ℕ). ruled_by site number l.outcome) (ruled_site l.kind l.frame l.site)) o ≡ None
    by None is = refl
    by (Some l) is = ap (option_and_then (λ (site : ℕ). ruled_by site number l.outcome)) (unsited l.kind l.frame l.site is)

ruled-fields : (of : LineKind) (frame site : Option ℕ) (at : ℕ) → ruled_site of frame site ≡ Some at → (k : ℕ) × (of ≡ kind.Rule) × (frame ≡ Some k) × (site ≡ Some at)
ruled-fields kind.Rule (Some k) site at is = (k, refl, refl, is)
ruled-fields of frame site at is = absurd (none-some at is)

said-by : (site number : ℕ) (outcome : Outcome) (r : RuleLine) → ruled_by site number outcome ≡ Some r → (r.site ≡ site) × (r.number ≡ number) × (outcome ≡ says.Verdict r.verdict)
said-by site number (says.Verdict verdict) r is =
    let x : RuleLine = record { site = site; number = number; verdict = verdict } in
    let same : x ≡ r = same_Some x r is in
    (sym (ap (λ (y : RuleLine). y.site) same), sym (ap (λ (y : RuleLine). y.number) same), ap (λ (y : RuleLine). says.Verdict y.verdict) same)
said-by site number outcome r is = absurd (none-some r is)

module _ (lines : List Line) where
  line-is : (number : ℕ) (r : RuleLine) → rule_line lines number ≡ Some r → (r.number ≡ number) × IsRuleLine lines r
  line-is number r is = by (line_of lines number) refl is
    where
      placed : (l : Line) → line_of lines number ≡ Some l → (at : Option ℕ) → ruled_site l.kind l.frame l.site ≡ at → option_and_then (λ (site : ℕ). ruled_by site number l.outcome) at ≡ Some r
          → (r.number ≡ number) × IsRuleLine lines r
      placed l there None none is = absurd (none-some r is)
      placed l there (Some site) found is =
          let fields = ruled-fields l.kind l.frame l.site site found in
          let says_it = said-by site number l.outcome r is in (
            says_it.1,
            (
              fields.0,
              record {
                line = l;
                stands = ap (line_of lines) says_it.1 ∙ there;
                kind_is = fields.1;
                frame_is = fields.2;
                site_is = fields.3 ∙ ap (λ (n : ℕ). Some n) (sym says_it.0);
                outcome_is = says_it.2;
              },
            ),
          )

      by : (o : Option Line) → line_of lines number ≡ o → option_and_then (λ (l : Line). option_and_then (λ (site : ℕ). ruled_by site number l.outcome) (ruled_site l.kind l.frame l.site)) o ≡ Some r
          → (r.number ≡ number) × IsRuleLine lines r
      by None none is = absurd (none-some r is)
      by (Some l) there is = placed l there (ruled_site l.kind l.frame l.site) refl is

  line-found : (r : RuleLine) → IsRuleLine lines r → rule_line lines r.number ≡ Some r
  line-found r (frame, is) =
      ap (option_and_then (λ (l : Line). option_and_then (λ (site : ℕ). ruled_by site r.number l.outcome) (ruled_site l.kind l.frame l.site))) is.stands
      ∙ ap (λ (at : Option ℕ). option_and_then (λ (site : ℕ). ruled_by site r.number is.line.outcome) at)
      (ap (λ (of : LineKind). ruled_site of is.line.frame is.line.site) is.kind_is ∙ ap (λ (f : Option ℕ). ruled_site kind.Rule f is.line.site) is.frame_is ∙ is.site_is)
      ∙ ap (ruled_by r.site r.number) is.outcome_is

  -- no line has the number 0
  numbered : (r : RuleLine) → IsRuleLine lines r → 0 < r.number
  numbered r (frame, is) = by r.number is.stands
    where
      by : (n : ℕ) → line_of lines n ≡ Some is.line → 0 < n
      by zero stands = absurd (none-some is.line stands)
      by (suc n) stands = omega arith

  module _ (sites : ℕ) where
    with-length : (table : List (Option RuleLine)) (o : Option RuleLine) → length (with_line table o) ≡ length table
    with-length table None = refl
    with-length table (Some r) = by (nat_lt r.site (length table))
      where
        by : (b : Bool) → length (if b then set table r.site (Some r) else table) ≡ length table
        by true = length-set table r.site (Some r)
        by false = refl

    pub upto-length : (n : ℕ) → length (table_upto lines sites n) ≡ sites
    upto-length zero = length-replicate sites None
    upto-length (suc n) = with-length (table_upto lines sites n) (rule_line lines (suc n)) ∙ upto-length n

    blank : (site : ℕ) → get_or (table_upto lines sites zero) site None ≡ None
    blank site = elim (cases_lt site sites) [
      | inl less ↦ get_or-replicate sites site None None less
      | inr past ↦ let long = upto-length zero in get_or_past (table_upto lines sites zero) site None (omega (arith, past, long))
    ]

    -- one line more changes its site alone
    with-at : (table : List (Option RuleLine)) (x : RuleLine) (site : ℕ)
        → ((x.site ≡ site) × (get_or (with_line table (Some x)) site None ≡ Some x)) ⊎ (get_or (with_line table (Some x)) site None ≡ get_or table site None)
    with-at table x site = by (nat_lt x.site (length table)) refl
      where
        here : x.site < length table → (b : Bool) → (site == x.site) ≡ b
            → ((x.site ≡ site) × (get_or (set table x.site (Some x)) site None ≡ Some x)) ⊎ (get_or (set table x.site (Some x)) site None ≡ get_or table site None)
        here within true same =
            let e : site ≡ x.site = grind (arith, nat_tests, same) in
            inl (sym e, ap (λ (n : ℕ). get_or (set table x.site (Some x)) n None) e ∙ get_or-set_same table x.site (Some x) None within)
        here within false apart =
            let ne : site ≢ x.site = grind (arith, nat_tests, apart) in
            inr (get_or-set_other table x.site site (Some x) None ne)

        by : (b : Bool) → nat_lt x.site (length table) ≡ b
            → ((x.site ≡ site) × (get_or (if b then set table x.site (Some x) else table) site None ≡ Some x)) ⊎ (get_or (if b then set table x.site (Some x) else table) site None ≡ get_or table site None)
        by true is = let within : x.site < length table = grind (arith, nat_tests, is) in here within (site == x.site) refl
        by false is = inr refl

    abbrev IsAt : ℕ → RuleLine → Type 0
    IsAt site r = (r.site ≡ site) × IsRuleLine lines r

    sound-next : (n site : ℕ) (r : RuleLine) (o : Option RuleLine) → rule_line lines (suc n) ≡ o → (get_or (table_upto lines sites n) site None ≡ Some r → IsAt site r)
        → get_or (with_line (table_upto lines sites n) o) site None ≡ Some r → IsAt site r
    sound-next n site r None none before is = before is
    sound-next n site r (Some x) there before is = elim (with-at (table_upto lines sites n) x site) [
      | inl (at, new) ↦ let same : x ≡ r = same_Some x r (sym new ∙ is) in subst (IsAt site) same (at, (line-is (suc n) x there).1)
      | inr old ↦ before (sym old ∙ is)
    ]

    sound-upto : (n site : ℕ) (r : RuleLine) → get_or (table_upto lines sites n) site None ≡ Some r → IsAt site r
    sound-upto zero site r is = absurd (none-some r (sym (blank site) ∙ is))
    sound-upto (suc n) site r is = sound-next n site r (rule_line lines (suc n)) refl (sound-upto n site r) is

    abbrev IsThere : ℕ → RuleLine → Type 0
    IsThere n r = is_some (get_or (table_upto lines sites n) r.site None) ≡ true

    kept : (n : ℕ) (r : RuleLine) → IsThere n r → (o : Option RuleLine) → is_some (get_or (with_line (table_upto lines sites n) o) r.site None) ≡ true
    kept n r was None = was
    kept n r was (Some x) = elim (with-at (table_upto lines sites n) x r.site) [
      | inl (at, new) ↦ ap is_some new
      | inr old ↦ ap is_some old ∙ was
    ]

    whole-next : (n : ℕ) (r : RuleLine) → IsRuleLine lines r → r.site < sites → r.number ≤ suc n → (r.number ≤ n → IsThere n r) → (b : Bool) → (r.number == suc n) ≡ b → IsThere (suc n) r
    whole-next n r is within few before true same =
        let e : r.number ≡ suc n = grind (arith, nat_tests, same) in
        let found : rule_line lines (suc n) ≡ Some r = sym (ap (rule_line lines) e) ∙ line-found r is in
        let long = upto-length n in
        let inside : nat_lt r.site (length (table_upto lines sites n)) ≡ true = grind (arith, nat_tests, within, long) in
        let room : r.site < length (table_upto lines sites n) = omega (arith, within, long) in
        ap (λ (o : Option RuleLine). is_some (get_or (with_line (table_upto lines sites n) o) r.site None)) found
        ∙ ap (λ (b : Bool). is_some (get_or (if b then set (table_upto lines sites n) r.site (Some r) else table_upto lines sites n) r.site None)) inside
        ∙ ap is_some (get_or-set_same (table_upto lines sites n) r.site (Some r) None room)
    whole-next n r is within few before false apart =
        let less : r.number ≤ n = grind (arith, nat_tests, apart, few) in
        kept n r (before less) (rule_line lines (suc n))

    whole-upto : (n : ℕ) (r : RuleLine) → IsRuleLine lines r → r.site < sites → r.number ≤ n → IsThere n r
    whole-upto zero r is within few = let some = numbered r is in absurd (omega (arith, some, few))
    whole-upto (suc n) r is within few = whole-next n r is within few (whole-upto n r is within) (r.number == suc n) refl

    -- the table of all lines
    pub all-noted : (table : List (Option RuleLine)) → table ≡ table_upto lines sites (length lines) → AreRuleLines lines table
    all-noted table is = subst (AreRuleLines lines) (sym is) (record {
      sound = sound-upto (length lines);
      whole = λ r one within.
          let long = upto-length (length lines) in
          whole-upto (length lines) r one (omega (arith, within, long)) (number-within lines r.number one.1.line one.1.stands);
    })

-- one line more
pub table-more : (lines : List Line) (sites n : ℕ) (old new : List (Option RuleLine)) (o : Option RuleLine) → old ≡ table_upto lines sites n → o ≡ rule_line lines (n + 1) → new ≡ with_line old o
    → new ≡ table_upto lines sites (n + 1)
table-more lines sites n old new o were found is =
    let s : n + 1 ≡ suc n = omega arith in
    is ∙ ap (λ (t : List (Option RuleLine)). with_line t o) were ∙ ap (with_line (table_upto lines sites n)) (found ∙ ap (rule_line lines) s) ∙ sym (ap (table_upto lines sites) s)
