-- The verdicts that accepted evidence says are those of the report.
use Rattle.std.proofs.Common.{◌≡◌, refl, sym, ap, ◌∙◌, inl, inr, ◌++◌, map, List, [], ◌∷◌}
use Rattle.std.specs.List.{flat_map}
use Rattle.std.proofs.lemmas.List.{append_assoc, map-append}
use Rattle.std.proofs.lemmas.List.Concat.{flat_map-cons}
use Rattle.doc_values.specs.Tree.{Forest}
use Rattle.evidence_rules.specs.RuleLines.{AreOfRules}
use Rattle.evidence_lines.specs.Versioned.{Versioned}
use Rattle.evidence_lines.specs.declared.line.Line.{Line}
use Rattle.evidence_lines.specs.declared.version.Version.{Version}
use Rattle.guard_syntax.specs.Named.{Named}
use Rattle.guard_syntax.specs.Syntax.{File, Rule, Disjs, no_disjs, more_disjs}
use Rattle.guard_syntax.specs.declared.row.Verdict.{Verdict}
use Rattle.evidence_rules.specs.Follows.{AllFollow, nothing_made}
use Rattle.evidence_rules.specs.code.Judgement as said
use Rattle.rule_meaning.specs.Seeing.{world_of}
use Rattle.rule_meaning.specs.FunctionMeaning.{IsAnswering}
use Rattle.rule_meaning.specs.Locations.{Answers, World}
use Rattle.rule_meaning.specs.NameMeaning.{rule_verdict}
use Rattle.guard_ends.specs.Check.{accepted_text}
use Rattle.guard_ends.specs.Order.{Ended, IsChecked}
use Rattle.guard_ends.specs.Reported.{Reported, if_plain, of_loose, of_rule, verdicts_of, world_over}
use Rattle.guard_ends.specs.declared.ends.End.TheVariants as end_is

abbrev verdict_in : Reported → Verdict
verdict_in r = r.verdict

module _ (world : World) where
  loose-same : (loose : Disjs) → map verdict_in (of_loose world loose) ≡ said.loose_verdicts world loose
  loose-same no_disjs = refl
  loose-same (more_disjs d ds) = refl

  plain-same : (r : Reported) (params : List Named) (others : List Verdict) → map verdict_in (if_plain r params) ++ others ≡ said.verdict_or_none params r.verdict others
  plain-same r [] others = refl
  plain-same r (p ∷ params) others = refl

  rules-same : (rules : List Rule) (loose : Disjs) → map verdict_in (flat_map (of_rule world) rules ++ of_loose world loose) ≡ said.verdicts_of world rules loose
  rules-same [] loose = loose-same loose
  rules-same (r ∷ rules) loose =
      ap (λ (rs : List Reported). map verdict_in (rs ++ of_loose world loose)) (flat_map-cons (of_rule world) r rules)
      ∙ ap (map verdict_in) (append_assoc (of_rule world r) (flat_map (of_rule world) rules) (of_loose world loose))
      ∙ map-append verdict_in (of_rule world r) (flat_map (of_rule world) rules ++ of_loose world loose)
      ∙ plain-same _ r.params (map verdict_in (flat_map (of_rule world) rules ++ of_loose world loose))
      ∙ ap (said.verdict_or_none r.params (rule_verdict world r)) (rules-same rules loose)

-- what is said of rules by lines that follow is what they mean
abbrev pub IsTrue : File → Type 0
IsTrue file =
    (version : Version) (template : Forest) (lines : List Line) (answers : Answers) (verdicts : List Verdict) → AllFollow version (nothing_made template file) [] lines
    → IsAnswering (world_of (nothing_made template file) answers) → AreOfRules lines file.rules file.loose verdicts
    → verdicts ≡ said.verdicts_of (world_of (nothing_made template file) answers) file.rules file.loose

pub accepted-meant : (file : File) → IsTrue file → (evidence : Versioned) (template : Forest) (answers : Answers) (e : Ended)
    → IsChecked file template evidence e → e.how ≡ end_is.Accepted → IsAnswering (world_over file template answers)
    → e.out ≡ accepted_text file (verdicts_of (world_over file template answers))
accepted-meant file true evidence template answers e (inl (verdicts, accepts, are, is)) how answering =
    let meant : verdicts ≡ said.verdicts_of (world_over file template answers) file.rules file.loose =
    true evidence.version template evidence.lines answers verdicts accepts.follow answering are in
    ap (λ (x : Ended). x.out) is ∙ ap (accepted_text file) (meant ∙ sym (rules-same (world_over file template answers) file.rules file.loose))
accepted-meant file true evidence template answers e (inr (number, rejected, is)) how answering =
    absurd (let bad : end_is.Rejected number ≡ end_is.Accepted = sym (ap (λ (x : Ended). x.how) is) ∙ how in cc)
