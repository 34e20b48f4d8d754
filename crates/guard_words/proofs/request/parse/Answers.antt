use Rattle.std.proofs.Common.{◌≡◌, true, map, option_map, string_bytes, ap, sym, ◌∙◌}
use Rattle.clap.specs.Words.{takes, app_of}
use Rattle.guard_words.proofs.TakenWords.{some_of}
use Rattle.guard_words.specs.code.Reading.{parsed_in}
use Rattle.guard_words.proofs.RequestLemmas.{must_take}
use Rattle.guard_words.proofs.request.parse.Goals as goal

pub unreachable-requires : goal.unreachable-requires
unreachable-requires c =
    let words = map string_bytes c.args.words.now in
    let p = some_of (parsed_in words) c.requires in
    let taken : takes (app_of c.in_ok-command.command) words ≡ true =
    ap (λ a. takes a words) c.in_ok-command.ensures.app ∙ must_take words p.0.0 (sym (ap (option_map (λ q. q.0)) p.1)) in
    c.in_default.not-OutOfMemory (c.kind.ensures ∙ c.in-Err.ensures.passes taken)
