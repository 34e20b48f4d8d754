use Rattle.std.proofs.Common.{◌≡◌, Result, Ok, Err, IfOk, OnErr, map, string_bytes, is_some, List, refl, ap, ◌∙◌}
use Rattle.std.specs.Result.{IsErrAnd}
use Rattle.std.proofs.lemmas.Result.{IfOk-weaker}
use Rattle.clap.specs.Words.{found_of, subcommand_rows_of}
use Rattle.guard_words.specs.Request.{Text, AsksFor, Asked, asked}
use Rattle.guard_words.specs.code.Memory.{NamesCommand}
use Rattle.guard_words.specs.declared.request.Request.{Request}
use Rattle.guard_words.specs.declared.request.WordsRefusal.{WordsRefusal}
use Rattle.guard_words.specs.declared.request.WordsRefusal.TheVariants.{Usage, NoMemory}
use Rattle.guard_words.proofs.RequestLemmas.{command_parsed, names_command, not_asked, must_enter, values_found, answered}
use Rattle.guard_words.proofs.request.read_words.Goals as goal

-- want of memory is no refusal of the words
not_usage : (r : Result Request WordsRefusal) → OnErr r (r ≡ Err NoMemory) → r ≡ Err Usage → ⊥
not_usage (Ok request) memory usage = absurd cc
not_usage (Err e) memory usage = absurd cc

same_Err : {T : Type 0} {e : WordsRefusal} → ◌≡◌ {A = Result T WordsRefusal} (Err e) (Err NoMemory) → e ≡ NoMemory
same_Err is = cc

-- what is said where there was no memory
record IsStopped (words : List Text) (r : Result Request WordsRefusal) : Type 0 where
  ok : IfOk r (λ request. AsksFor words (asked request))
  only : IfOk r (λ request. (other : Asked) → AsksFor words other → other ≡ asked request)
  usage : r ≡ Err Usage → (request : Asked) → AsksFor words request → ⊥
  memory : r ≡ Err NoMemory → NamesCommand words

stopped : (words : List Text) (r : Result Request WordsRefusal) (e : WordsRefusal) → IsErrAnd r (λ y. y ≡ e) → e ≡ NoMemory → NamesCommand words → IsStopped words r
stopped words (Ok request) e is memory names = absurd is
stopped words (Err y) e is memory names = record {
  ok = tt;
  only = tt;
  usage = λ usage. absurd (not_usage (Err y) (ap Err (is ∙ memory)) usage);
  memory = λ _. names;
}

pub returns-in_default-clause-usage : goal.returns-in_default-clause-usage
returns-in_default-clause-usage c =
    λ is_usage. not_asked (map string_bytes c.args.words.now) (rw c.in_default.is at c.in_ok-command.ensures.command)

pub returns-in_err-command : goal.returns-in_err-command
returns-in_err-command c =
    let s = stopped (map string_bytes c.args.words.now) c.from_residual.result NoMemory c.from_residual.ensures.1 refl c.in_err-command.ensures.memory in
    record { ok = s.ok; only = s.only; usage = s.usage; memory = s.memory }

pub parse-requires : goal.parse-requires
parse-requires c =
    ap is_some (command_parsed (map string_bytes c.args.words.now) c.in-Some.command (rw c.in-Some.is at c.in_ok-command.ensures.command)).1

pub returns-in_err-matches : goal.returns-in_err-matches
returns-in_err-matches c =
    let words = map string_bytes c.args.words.now in
    let names = names_command words c.in-Some.command (rw c.in-Some.is at c.in_ok-command.ensures.command) in
    let s = stopped words c.from_residual-in_err-matches.result c.in_err-matches.field-0.0 c.from_residual-in_err-matches.ensures.1 (same_Err c.in_err-matches.ensures.only_memory) names in
    record { ok = s.ok; only = s.only; usage = s.usage; memory = s.memory }

pub unreachable-requires : goal.unreachable-requires
unreachable-requires c =
    must_enter (map string_bytes c.args.words.now) c.in-Some.command (rw c.in-Some.is at c.in_ok-command.ensures.command)
    (subcommand_rows_of c.in_ok-matches.matches) c.in_default-subcommand.ensures.rows c.in_ok-matches.ensures.matches

pub answer-requires : goal.answer-requires
answer-requires c =
    (values_found (map string_bytes c.args.words.now) c.in-Some.command (rw c.in-Some.is at c.in_ok-command.ensures.command)
    (found_of c.in-Some-subcommand.options.now) (subcommand_rows_of c.in_ok-matches.matches) c.in-Some-subcommand.ensures.rows c.in_ok-matches.ensures.matches).values

pub returns-clause-ok : goal.returns-clause-ok
returns-clause-ok c =
    let words = map string_bytes c.args.words.now in
    let is_command = rw c.in-Some.is at c.in_ok-command.ensures.command in
    let found = found_of c.in-Some-subcommand.options.now in
    let values = values_found words c.in-Some.command is_command found (subcommand_rows_of c.in_ok-matches.matches)
    c.in-Some-subcommand.ensures.rows c.in_ok-matches.ensures.matches in
    IfOk-weaker c.answer.result _ _ (λ request e. (answered words c.in-Some.command is_command found values (asked request) e).asks) c.answer.ensures.ok

pub returns-clause-only : goal.returns-clause-only
returns-clause-only c =
    let words = map string_bytes c.args.words.now in
    let is_command = rw c.in-Some.is at c.in_ok-command.ensures.command in
    let found = found_of c.in-Some-subcommand.options.now in
    let values = values_found words c.in-Some.command is_command found (subcommand_rows_of c.in_ok-matches.matches)
    c.in-Some-subcommand.ensures.rows c.in_ok-matches.ensures.matches in
    IfOk-weaker c.answer.result _ _ (λ request e. (answered words c.in-Some.command is_command found values (asked request) e).only) c.answer.ensures.ok

pub returns-clause-memory : goal.returns-clause-memory
returns-clause-memory c = λ _. names_command (map string_bytes c.args.words.now) c.in-Some.command (rw c.in-Some.is at c.in_ok-command.ensures.command)

pub returns-clause-usage : goal.returns-clause-usage
returns-clause-usage c = λ usage. absurd (not_usage c.answer.result c.answer.ensures.only_memory usage)
