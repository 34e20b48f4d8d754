use Rattle.std.proofs.Common.{◌≡◌, [], subst, sym}
use Rattle.evidence_lines.specs.Versioned.{Versioned}
use Rattle.evidence_lines.specs.declared.version.Version.TheVariants.{Two}
use Rattle.guard_syntax.specs.Syntax.{File}
use Rattle.rule_names.specs.code.Files.{file_of}
use Rattle.value_store.specs.code.Stores.{see_store}
use Rattle.value_store.specs.declared.store.Store.{Store}
use Rattle.evidence_rules.specs.Follows.{Accepts, nothing_made}
use Rattle.evidence_rules.specs.code.Judgement.{FollowTo}
use Rattle.evidence_rules.specs.Lean.{IsLean}
use Rattle.clause_eval.specs.code.Engines.{see_engine}
use Rattle.rule_calls.specs.code.Ends.{AreOfEngine}
use Rattle.rule_calls.specs.code.Reported.{AreVerdicts, reported_sites}
use Rattle.rule_calls.proofs.LeanLines.{lean-lines}
use Rattle.rule_calls.proofs.RulesInTurn.{end-accepted, end-file, end-follow, end-template}
use Rattle.rule_calls.proofs.evaluation.evaluate.Goals as goal

pub returns-clause-accepted : goal.returns-clause-accepted
returns-clause-accepted c =
    subst (λ (v : Versioned). Accepts Two c.args.doc.now (file_of c.args.file.now) v.lines) (sym c.finish-evidence.ensures.evidence)
    (end-accepted (see_engine c.new-engine.result) (see_engine c.judge_file.new.engine) c.args.doc.now (file_of c.args.file.now) c.new-engine.ensures.template c.new-engine.ensures.file
    c.in_ok-judge_file.ensures.grows c.in_ok-judge_file.ensures.judged)

pub returns-clause-lean : goal.returns-clause-lean
returns-clause-lean c =
    subst (λ (v : Versioned). IsLean v.lines) (sym c.finish-evidence.ensures.evidence) (lean-lines (see_engine c.judge_file.new.engine) c.in_ok-judge_file.ensures.judged.rules.rests)

pub returns-clause-template : goal.returns-clause-template
returns-clause-template c =
    subst (λ (s : Store). (see_store s).template ≡ c.args.doc.now) (sym c.finish-evidence.ensures.store)
    (end-template (see_engine c.new-engine.result) (see_engine c.judge_file.new.engine) c.args.doc.now (file_of c.args.file.now) c.new-engine.ensures.template c.new-engine.ensures.file
    c.in_ok-judge_file.ensures.grows c.in_ok-judge_file.ensures.judged)

pub returns-clause-file : goal.returns-clause-file
returns-clause-file c =
    subst (λ (s : Store). (see_store s).file ≡ file_of c.args.file.now) (sym c.finish-evidence.ensures.store)
    (end-file (see_engine c.new-engine.result) (see_engine c.judge_file.new.engine) c.args.doc.now (file_of c.args.file.now) c.new-engine.ensures.template c.new-engine.ensures.file
    c.in_ok-judge_file.ensures.grows c.in_ok-judge_file.ensures.judged)

pub returns-clause-follow : goal.returns-clause-follow
returns-clause-follow c =
    let e = c.judge_file.new.engine in
    let begin = nothing_made c.args.doc.now (file_of c.args.file.now) in
    subst (λ (v : Versioned). FollowTo Two begin [] v.lines (see_store c.finish-evidence.result.1)) (sym c.finish-evidence.ensures.evidence)
    (subst (λ (s : Store). FollowTo Two begin [] (see_engine e).lines (see_store s)) (sym c.finish-evidence.ensures.store)
    (end-follow (see_engine c.new-engine.result) (see_engine e) c.args.doc.now (file_of c.args.file.now) c.new-engine.ensures.template c.new-engine.ensures.file
    c.in_ok-judge_file.ensures.grows c.in_ok-judge_file.ensures.judged))

pub returns-clause-verdicts : goal.returns-clause-verdicts
returns-clause-verdicts c =
    let file : (see_engine c.judge_file.new.engine).known.file ≡ file_of c.args.file.now =
    end-file (see_engine c.new-engine.result) (see_engine c.judge_file.new.engine) c.args.doc.now (file_of c.args.file.now) c.new-engine.ensures.template c.new-engine.ensures.file
    c.in_ok-judge_file.ensures.grows c.in_ok-judge_file.ensures.judged in
    subst (λ (v : Versioned). AreVerdicts v.lines (reported_sites (file_of c.args.file.now)) c.in_ok-verdicts.verdicts.items) (sym c.finish-evidence.ensures.evidence)
    (subst (λ (f : File). AreVerdicts (see_engine c.judge_file.new.engine).lines (reported_sites f) c.in_ok-verdicts.verdicts.items) file c.in_ok-verdicts.ensures)

pub returns-clause-whole : goal.returns-clause-whole
returns-clause-whole c =
    let s = see_engine c.judge_file.new.engine in
    subst (λ (v : Versioned). AreOfEngine (see_store c.finish-evidence.result.1) v.lines) (sym c.finish-evidence.ensures.evidence)
    (subst (λ (t : Store). AreOfEngine (see_store t) s.lines) (sym c.finish-evidence.ensures.store)
    (record { frames = s.frames; framed = s.framed; parts = s.parts; beside = s.beside; rules = s.rules }, c.in_ok-judge_file.ensures.judged.rules.rests.whole))
