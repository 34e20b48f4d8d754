use Rattle.std.proofs.Common.{◌≡◌, [], None, map, drop, string_bytes}
use Rattle.guard_words.specs.Request.{options_of}
use Rattle.guard_words.specs.code.Reading.{uses_in, use_texts, awaited_text}
use Rattle.guard_words.proofs.reading.uses.Given as goal

abbrev pub invariant-loop-word : goal.invariant-loop-word
invariant-loop-word l =
    uses_in (options_of l.command) (map string_bytes l.words) [] None
    ≡ uses_in (options_of l.command) (map string_bytes (drop l.word-index l.words)) (use_texts l.seen.items) (awaited_text l.awaits)
