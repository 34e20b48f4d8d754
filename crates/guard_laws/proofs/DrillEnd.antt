-- A drill that words ask for is judged: its rules are a rule file and its template is JSON. By what is read of them, and by the
-- order of work.
use Rattle.std.proofs.Common.{◌≡◌, ◌⊎◌, ◌≤◌, ◌<◌, ◌%◌, ◌++◌, ◌&&◌, ℕ, zero, suc, Bool, true, false, List, [], ◌∷◌, None, length, arith, inl, inr, refl, ap, subst}
use Rattle.std.specs.Prelude.{IsAscii, codes, decimal, nat_eq, nat_lt, if◌then◌else◌}
use Rattle.std.specs.List.{list_any}
use Rattle.std.proofs.lemmas.Bool.{ltb-true}
use Rattle.std.proofs.lemmas.Fmt.{IsAscii-decimal}
use Rattle.std.proofs.lemmas.List.Elements.{All-nil}
use Rattle.std.proofs.lemmas.Str.{IsAscii-append, IsUtf8-from_ascii}
use Rattle.std.proofs.lemmas.Str.Ascii.{IsAscii-cons, IsAscii-nil}
use Rattle.doc_values.specs.Tree.{Forest, Nil, Node}
use Rattle.guard_drill.specs.DrillTexts.{resource, resources, separator, template_text, type_letter}
use Rattle.guard_drill.proofs.TemplateLengths.{template-short}
use Rattle.guard_syntax.specs.Syntax.{File}
use Rattle.json_reader.proofs.Limits.{unique}
use Rattle.json_reader.proofs.Refuses.{no_tree, same_refusal}
use Rattle.json_reader.proofs.Strings.{both}
use Rattle.rule_meaning.specs.FunctionMeaning.{IsAnswering}
use Rattle.rule_meaning.specs.Locations.{Answers}
use Rattle.rule_meaning.specs.Patterns.{patterns_of}
use Rattle.rule_meaning.specs.Verdicts.{is_fail}
use Rattle.guard_ends.specs.Drill.{drill_report, drill_rules}
use Rattle.guard_ends.specs.Inputs.{IsRuleFile, IsTemplate}
use Rattle.guard_ends.specs.Order.{AreRead, Ended, Ends, Inputs, IsJudged, OfDrill, judged}
use Rattle.guard_ends.specs.Report.{Reporting}
use Rattle.guard_ends.specs.Reported.{verdicts_of, world_over}
use Rattle.guard_ends.specs.declared.ends.End.TheVariants as end_is
use Rattle.guard_ends.specs.declared.format.Format.TheVariants.{Json}
use Rattle.guard_laws.proofs.DrillNames.{well-named}
use Rattle.guard_laws.proofs.DrillRules.{drill-file, drill-tokens}
use Rattle.guard_laws.proofs.DrillSyntax.{rules-syntax}
use Rattle.guard_laws.proofs.DrillTemplate.{root-label, template-read}
use Rattle.guard_laws.proofs.DrillTokens.{rules-tokens}
use Rattle.guard_laws.proofs.OneEnd.{drill-goes}
use Rattle.guard_laws.proofs.OneRules.{rules-one}
use Rattle.guard_laws.proofs.OneSyntax.{OneSyntax}
use Rattle.guard_laws.proofs.OneTemplate.{OneTemplate, judged-one, template-laws}
use Rattle.guard_laws.proofs.OneText.{text-one}

-- ---- the texts are ASCII

abbrev is-ascii : List ℕ → Bool
is-ascii [] = true
is-ascii (b ∷ bytes) = nat_lt b 128 && is-ascii bytes

ascii : (bytes : List ℕ) → is-ascii bytes ≡ true → IsAscii bytes
ascii [] e = IsAscii-nil
ascii (b ∷ bytes) e = let rest = both (nat_lt b 128) (is-ascii bytes) e in IsAscii-cons b bytes (ltb-true b 128 rest.0) (ascii bytes rest.1)

separator-ascii : (i : ℕ) → IsAscii (separator i)
separator-ascii zero = IsAscii-nil
separator-ascii (suc i) = ascii (codes ",") refl

letter-ascii : (i : ℕ) → IsAscii (type_letter i)
letter-ascii i = by_test (nat_eq (i % 2) 0)
  where
    by_test : (b : Bool) → IsAscii (if b then codes "A" else codes "B")
    by_test true = ascii (codes "A") refl
    by_test false = ascii (codes "B") refl

-- the parts of a resource, from the last on
abbrev number-text : ℕ → List ℕ
number-text i = decimal (i % 7) ++ codes "}}"

abbrev properties-text : ℕ → List ℕ
properties-text i = codes "\",\"Properties\":{\"N\":" ++ number-text i

abbrev type-text : ℕ → List ℕ
type-text i = codes "\":{\"Type\":\"T::" ++ (type_letter i ++ properties-text i)

resource-ascii : (i : ℕ) → i < 100000 → IsAscii (resource i)
resource-ascii i low =
    let number = IsAscii-append (decimal (i % 7)) (codes "}}") (IsAscii-decimal (i % 7) (omega arith)) (ascii (codes "}}") refl) in
    let properties = IsAscii-append (codes "\",\"Properties\":{\"N\":") (number-text i) (ascii (codes "\",\"Properties\":{\"N\":") refl) number in
    let typed = IsAscii-append (type_letter i) (properties-text i) (letter-ascii i) properties in
    let behind = IsAscii-append (codes "\":{\"Type\":\"T::") (type_letter i ++ properties-text i) (ascii (codes "\":{\"Type\":\"T::") refl) typed in
    IsAscii-append (codes "\"R") (decimal i ++ type-text i) (ascii (codes "\"R") refl)
    (IsAscii-append (decimal i) (type-text i) (IsAscii-decimal i (omega arith)) behind)

resources-ascii : (n : ℕ) → n ≤ 100000 → IsAscii (resources n)
resources-ascii zero low = IsAscii-nil
resources-ascii (suc n) low =
    IsAscii-append (resources n) (separator n ++ resource n) (resources-ascii n (omega arith))
    (IsAscii-append (separator n) (resource n) (separator-ascii n) (resource-ascii n (omega arith)))

template-ascii : (count : ℕ) → count ≤ 100000 → IsAscii (template_text count)
template-ascii count low =
    IsAscii-append (codes "{\"Resources\":{") (resources count ++ codes "}}") (ascii (codes "{\"Resources\":{") refl)
    (IsAscii-append (resources count) (codes "}}") (resources-ascii count low) (ascii (codes "}}") refl))

-- ---- the rules are a rule file, and the template is JSON

rules-length : length drill_rules ≡ 187
rules-length = refl

pub rules-are : IsRuleFile drill_rules drill-file
rules-are = record {
  text = record { within = omega (arith, rules-length); utf8 = IsUtf8-from_ascii drill_rules (ascii drill_rules refl) };
  read = (drill-tokens, rules-tokens, rules-syntax);
  named = well-named;
}

no-patterns : patterns_of drill-file ≡ []
no-patterns = refl

patterns-read : AreRead drill-file
patterns-read = All-nil _

pub template-is : (count : ℕ) → count ≤ 100000 → (kids : Forest) × IsTemplate Json (template_text count) (Node root-label kids Nil)
template-is count low =
    let found = template-read count low in (
      found.0,
      record {
        text = record { within = omega (arith, template-short count low); utf8 = IsUtf8-from_ascii (template_text count) (template-ascii count low) };
        read = found.1;
      },
    )

-- ---- the end

one-template : (count : ℕ) → OneTemplate (template_text count)
one-template count =
    let text = template_text count in
    template-laws text (λ f utf8. text-one f text (record { tree = unique text; refusal = same_refusal text; apart = λ e tree refused read. no_tree text e tree refused read }))

pub drill-judged-so : OneSyntax → (count : ℕ) (rules : File) (tree : Forest) (e : Ended) → IsRuleFile drill_rules rules → IsTemplate Json (template_text count) tree
    → OfDrill count (Ends e) → IsJudged (drill_report count) (record { rules = rules; tree = tree; texts = record { rules = drill_rules; template = template_text count; params = None } }) e
drill-judged-so law count rules tree e whole whole' came =
    let same : drill-file ≡ rules = rules-one law drill_rules drill-file rules rules-are whole in
    drill-goes law count (one-template count) rules tree whole whole' (subst AreRead same patterns-read) e came

passed-or-failed : (made : Reporting) (inputs : Inputs) (e : Ended) → IsJudged made inputs e → (e.how ≡ end_is.Passed) ⊎ (e.how ≡ end_is.Failed)
passed-or-failed made inputs e (answers, obey, is) =
    by_test (list_any is_fail (verdicts_of (world_over inputs.rules inputs.tree answers))) (ap (λ (o : Ended). o.how) is)
  where
    by_test : (b : Bool) → e.how ≡ (if b then end_is.Failed else end_is.Passed) → (e.how ≡ end_is.Passed) ⊎ (e.how ≡ end_is.Failed)
    by_test true how = inr how
    by_test false how = inl how

-- the template's tree
abbrev pub drill-tree : (count : ℕ) → count ≤ 100000 → Forest
drill-tree count low = Node root-label (template-is count low).0 Nil

module _ (count : ℕ) (low : count ≤ 100000) where
  abbrev inputs : Inputs
  inputs = record { rules = drill-file; tree = drill-tree count low; texts = record { rules = drill_rules; template = template_text count; params = None } }

  drill-judged : OneSyntax → (e : Ended) → OfDrill count (Ends e) → IsJudged (drill_report count) inputs e
  drill-judged law e came = drill-judged-so law count drill-file (drill-tree count low) e rules-are (template-is count low).1 came

  pub drill-only : OneSyntax → (e other : Ended) → OfDrill count (Ends e) → OfDrill count (Ends other) → e ≡ other
  drill-only law e other came came' = judged-one (drill_report count) inputs e other (drill-judged law e came) (drill-judged law other came')

  pub drill-passes-or-fails : OneSyntax → (e : Ended) → OfDrill count (Ends e) → (e.how ≡ end_is.Passed) ⊎ (e.how ≡ end_is.Failed)
  drill-passes-or-fails law e came = passed-or-failed (drill_report count) inputs e (drill-judged law e came)

  -- where functions answer by their table, there is such an end
  pub drill-some : (answers : Answers) → IsAnswering (world_over drill-file (drill-tree count low) answers) → (e : Ended) × OfDrill count (Ends e)
  drill-some answers obey =
      let e = judged (drill_report count) (world_over drill-file (drill-tree count low) answers) inputs.texts in
      (e, (e, inr (drill-file, rules-are, inr (drill-tree count low, (template-is count low).1, inr (patterns-read, (e, (answers, obey, refl), refl)))), refl))
