use Rattle.std.proofs.Common.{ℕ, ap, arith, Err}
use Rattle.guard_parser.specs.declared.refusal.ParseRefusal.TheVariants.{NestTooDeep}
use Rattle.literal_parser.proofs.Spans.{tokens_in}
use Rattle.guard_parser.proofs.Opened.{not_both, one_too_deep}
use Rattle.guard_parser.proofs.Count.{few_tokens}
use Rattle.guard_parser.proofs.syntax.parse.Goals as goal

pub returns-in-Some-clause-nest : goal.returns-in-Some-clause-nest
returns-in-Some-clause-nest c = λ at deep. ap (λ (n : ℕ). Err (NestTooDeep n)) (one_too_deep c.args.text.now c.args.tokens.now c.in-Some.at at (c.in-Some.ensures c.args.text.now) deep)

pub invariant_of-tokens-clause-short : goal.invariant_of-tokens-clause-short
invariant_of-tokens-clause-short c = let few = few_tokens c.args.text.now c.args.tokens.now c.requires.tokens in let short = c.requires.short in omega arith

pub shapes_of-requires : goal.shapes_of-requires
shapes_of-requires c = tokens_in c.args.text.now c.args.tokens.now c.requires.tokens

pub invariant_of-tokens-clause-cut : goal.invariant_of-tokens-clause-cut
invariant_of-tokens-clause-cut c = tokens_in c.args.text.now c.args.tokens.now c.requires.tokens

pub returns-in-Err-clause-nest : goal.returns-in-Err-clause-nest
returns-in-Err-clause-nest c = λ at deep. absurd (not_both c.args.text.now c.args.tokens.now at (c.in-None.ensures c.args.text.now) deep)

pub returns-clause-nest : goal.returns-clause-nest
returns-clause-nest c = λ at deep. absurd (not_both c.args.text.now c.args.tokens.now at (c.in-None.ensures c.args.text.now) deep)
