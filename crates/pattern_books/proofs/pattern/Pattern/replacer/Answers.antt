use Rattle.pattern_books.proofs.FindsLemmas.{replaced_as_text}
use Rattle.pattern_books.proofs.pattern.Pattern.replacer.Goals as goal

pub invariant_of-result : goal.invariant_of-result
invariant_of-result c = record {
  fits = rw (← c.self.view_is)
      (λ hay out bytes written.
      replaced_as_text c.self.inside.regex c.in-Ok-matcher.matcher c.in-Ok.read c.args.template.now hay out bytes c.self.invariant.0 c.self.invariant.1
      c.in-Ok-matcher.ensures.pattern (rw c.capture_names.ensures at c.in-Ok.ensures.read) written);
}
