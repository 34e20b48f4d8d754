use Rattle.std.proofs.Common.{sym, ap, ◌∙◌, subst, ◌≡◌, ◌≤◌, ℕ, Some}
use Rattle.std.specs.Prelude.{Contains}
use Rattle.guard_syntax.specs.Syntax.{File}
use Rattle.rule_names.proofs.Parts.{hits}
use Rattle.rule_names.specs.Pieces.{AreInOrder, OfFile, OfRule, piece_at, pieces_file}
use Rattle.rule_names.specs.WellNamed.{WellNamed}
use Rattle.rule_meaning.specs.Fails.{loose_fails, rule_fails}
use Rattle.rule_meaning.specs.Locations.{World}
use Rattle.rule_meaning.specs.Seeing.{world_of}
use Rattle.meaning_laws.specs.code.Entries.{rule_fails_with}
use Rattle.evidence_truth.proofs.FailsOfLines.{AreRulesTold, known-told, same-in}
use Rattle.evidence_truth.proofs.HeldFails.{fails-same}
use Rattle.evidence_truth.proofs.LinesTrue.{file-kept, meant-by}
use Rattle.evidence_truth.proofs.PiecesAt.{ordered-by, sites-alone}
use Rattle.evidence_truth.proofs.VerdictsTrue.{rule-at}
use Rattle.evidence_truth.proofs.laws.entries_told.Goals as goal

pub returns-clause-rules : goal.returns-clause-rules
returns-clause-rules c file version template lines known held answers rule number frame most order named follow holds answering among is enough =
    let world : World = world_of known answers in
    let few : (n : ℕ) → hits n (pieces_file file) ≤ 1 = sites-alone file order in
    let same = file-kept version template file lines known follow in
    let ordered : AreInOrder world.file = subst AreInOrder (sym same) order in
    let well : WellNamed world.file = subst WellNamed (sym same) named in
    let names = c.one_meaning_over_locations.ensures.some world ordered well in
    let calls = c.one_failing_over_locations.ensures.some world names.0 ordered well names.1 in
    let told : AreRulesTold known lines world names.0 calls.0 = known-told version template file lines known answers names.0 calls.0 (meant-by file few) follow answering names.1 calls.1 in
    let there : piece_at world.file rule.site ≡ Some (OfRule rule) = ap (λ (f : File). piece_at f rule.site) same ∙ rule-at file (ordered-by file few) rule among in
    let here : Contains world.file.rules rule = subst (λ (f : File). Contains f.rules rule) (sym same) among in
    fails-same held known holds lines told.held most number
    ∙ sym (told.rule rule number frame rule.site most there is enough)
    ∙ same-in (rule_fails_with world names.0 calls.0) (rule_fails world) world.file.rules rule
    (c.one_failing_over_locations.ensures.rules world names.0 calls.0 ordered well names.1 calls.1) here

pub returns-clause-loose : goal.returns-clause-loose
returns-clause-loose c file version template lines known held answers number frame most order named follow holds answering is enough =
    let world : World = world_of known answers in
    let few : (n : ℕ) → hits n (pieces_file file) ≤ 1 = sites-alone file order in
    let same = file-kept version template file lines known follow in
    let ordered : AreInOrder world.file = subst AreInOrder (sym same) order in
    let well : WellNamed world.file = subst WellNamed (sym same) named in
    let names = c.one_meaning_over_locations.ensures.some world ordered well in
    let calls = c.one_failing_over_locations.ensures.some world names.0 ordered well names.1 in
    let told : AreRulesTold known lines world names.0 calls.0 = known-told version template file lines known answers names.0 calls.0 (meant-by file few) follow answering names.1 calls.1 in
    let there : piece_at world.file 0 ≡ Some OfFile = ap (λ (f : File). piece_at f 0) same ∙ (ordered-by file few).0 in
    fails-same held known holds lines told.held most number
    ∙ sym (told.loose number frame most there is enough)
    ∙ c.one_failing_over_locations.ensures.loose world names.0 calls.0 ordered well names.1 calls.1
    ∙ ap (λ (f : File). loose_fails world f.loose) same
