use Rattle.std.proofs.Common.{◌≡◌, is_some, sym, ap, subst, rules}
use Rattle.pattern_books.specs.code.Matching.{IsMatcherOf}
use Rattle.value_compare.proofs.KeptMatchers.{AreKept, at_text, kept_with, kept_written, same_pattern}
use Rattle.value_compare.proofs.matchers.Matchers.finds.Goals as goal

pub invariant_of-self : goal.invariant_of-self
invariant_of-self c =
    let matchers = c.args.self.now in
    let used = c.is_match.new.self in
    let written = c.get_mut.follows.holds used in
    record {
      fit = kept_written matchers.book.now matchers.made (c.get_mut.follows.lender used) c.find_full-index.result.0 c.in-Some.matcher.now used matchers.fit (sym c.in-Some.ensures.value)
          (written.3 (ap is_some (sym c.in-Some.ensures.value))) c.is_match.ensures.same;
    }

pub invariant_of-self-in-None : goal.invariant_of-self-in-None
invariant_of-self-in-None c =
    let matchers = c.args.self.now in
    let place = c.find_full-index.result.0 in
    let made = c.in_ok-matcher-in-None.matcher in
    let used = c.is_match-answer.new.self in
    let unchanged : c.get_mut.follows.lender-at-none ≡ matchers.made = search rules in
    let finds : IsMatcherOf c.args.pattern.now used = same_pattern c.args.pattern.now made used c.is_match-answer.ensures.same (subst (λ t. IsMatcherOf t made) c.find_full-index.ensures.pattern c.in_ok-matcher-in-None.ensures) in
    record {
      fit = kept_with c.insert.result matchers.book.now c.get_mut.follows.lender-at-none c.insert.new.self place used (subst (AreKept matchers.book.now) (sym unchanged) matchers.fit) c.insert.ensures.updates c.insert.ensures.err
          (at_text matchers.book.now place c.args.pattern.now used c.find_full-index.ensures.place finds);
    }
