use Rattle.std.proofs.Common.{◌≡◌}
use Rattle.regex.proofs.ReplaceLemmas.{IfOk-weaker}
use Rattle.regex.specs.Strings.{matcher_pattern, regex_pattern}
use Rattle.pattern_books.proofs.FindsLemmas.{found_as_text}
use Rattle.pattern_books.proofs.pattern.Pattern.matcher.Goals as goal

pub returns : goal.returns
returns c =
    rw (← c.self.view_is)
    (IfOk-weaker (λ m. matcher_pattern m ≡ regex_pattern c.self.inside.regex) _
    (λ m same hay bytes. rw same (found_as_text c.self.inside.regex hay bytes c.self.invariant.0 c.self.invariant.1)) _ c.matcher.ensures.pattern)
