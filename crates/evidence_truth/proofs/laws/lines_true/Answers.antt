use Rattle.std.proofs.Common.{sym, ap, ◌∙◌, subst, ◌≡◌, ◌≤◌, ℕ, suc, [], Some}
use Rattle.std.specs.Prelude.{slice_index_or}
use Rattle.evidence_lines.specs.Lines.{line_of}
use Rattle.evidence_lines.specs.declared.line.Line.{Line}
use Rattle.rule_names.proofs.Parts.{hits}
use Rattle.rule_names.specs.Pieces.{AreInOrder, pieces_file}
use Rattle.rule_names.specs.WellNamed.{WellNamed}
use Rattle.evidence_rules.specs.Follows.{nothing_made}
use Rattle.rule_meaning.specs.Seeing.{world_of}
use Rattle.rule_meaning.specs.FunctionMeaning.{IsAnswering}
use Rattle.rule_meaning.specs.Locations.{World}
use Rattle.evidence_rules.specs.code.Judgement.{Holds, verdicts_of}
use Rattle.evidence_truth.proofs.LinesTrue.{accepted-are, file-kept, known-hold, line-at, loose-is, meant-by, rule-is, same-world, some-last}
use Rattle.evidence_truth.proofs.PiecesAt.{ordered-by, sites-alone}
use Rattle.evidence_truth.proofs.laws.lines_true.Goals as goal

pub returns-clause-store : goal.returns-clause-store
returns-clause-store c file version template lines follow = some-last version (nothing_made template file) [] lines follow

pub returns-clause-lines : goal.returns-clause-lines
returns-clause-lines c file version template lines known answers names order named follow answering obeys k d within =
    let few : (n : ℕ) → hits n (pieces_file file) ≤ 1 = sites-alone file order in
    known-hold version template file lines known answers names (meant-by file few) follow answering obeys (suc k) (slice_index_or lines k d) (line-at lines k d within)

pub returns-clause-rules : goal.returns-clause-rules
returns-clause-rules c file version template lines known answers rule verdict order named follow answering among said =
    let few : (n : ℕ) → hits n (pieces_file file) ≤ 1 = sites-alone file order in
    let same = file-kept version template file lines known follow in
    let ordered : AreInOrder (world_of known answers).file = subst AreInOrder (sym same) order in
    let well : WellNamed (world_of known answers).file = subst WellNamed (sym same) named in
    let names = c.one_meaning_over_locations.ensures.some (world_of known answers) ordered well in
    let hold : (number : ℕ) (l : Line) → line_of lines number ≡ Some l → Holds known lines (world_of known answers) names.0 l =
    known-hold version template file lines known answers names.0 (meant-by file few) follow answering names.1 in
    rule-is file (ordered-by file few) known lines (world_of known answers) names.0 rule verdict same hold
    (c.one_meaning_over_locations.ensures.rules (world_of known answers) names.0 ordered well names.1) among said

pub returns-clause-loose : goal.returns-clause-loose
returns-clause-loose c file version template lines known answers verdict order named follow answering said =
    let few : (n : ℕ) → hits n (pieces_file file) ≤ 1 = sites-alone file order in
    let same = file-kept version template file lines known follow in
    let ordered : AreInOrder (world_of known answers).file = subst AreInOrder (sym same) order in
    let well : WellNamed (world_of known answers).file = subst WellNamed (sym same) named in
    let names = c.one_meaning_over_locations.ensures.some (world_of known answers) ordered well in
    let hold : (number : ℕ) (l : Line) → line_of lines number ≡ Some l → Holds known lines (world_of known answers) names.0 l =
    known-hold version template file lines known answers names.0 (meant-by file few) follow answering names.1 in
    loose-is file (ordered-by file few) known lines (world_of known answers) names.0 verdict same hold
    (c.one_meaning_over_locations.ensures.loose (world_of known answers) names.0 ordered well names.1) said

pub returns-clause-accepted : goal.returns-clause-accepted
returns-clause-accepted c file version template lines answers verdicts order named follow answering are =
    let made = returns-clause-store c file version template lines follow in
    let same : world_of (nothing_made template file) answers ≡ world_of made.0 answers = same-world version template file lines made.0 answers made.1 in
    let answering_last : IsAnswering (world_of made.0 answers) = subst IsAnswering same answering in
    accepted-are file lines (world_of made.0 answers) verdicts
    (λ rule verdict among said. returns-clause-rules c file version template lines made.0 answers rule verdict order named made.1 answering_last among said)
    (λ verdict said. returns-clause-loose c file version template lines made.0 answers verdict order named made.1 answering_last said) are
    ∙ ap (λ (w : World). verdicts_of w file.rules file.loose) (sym same)
