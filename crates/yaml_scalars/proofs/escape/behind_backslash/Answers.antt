use Rattle.std.proofs.Common.{Some, None, arith}
use Rattle.yaml_scalars.proofs.EscapeValues.{byte_ahead, letter_ahead, meaning_so, unit_ahead}
use Rattle.yaml_scalars.proofs.escape.behind_backslash.Goals as goal

pub returns-in-13-clause-is : goal.returns-in-13-clause-is
returns-in-13-clause-is c = byte_ahead c.args.bytes.now c.args.at 13 c.requires.within c.in-13.is

pub returns-in-120-clause-is : goal.returns-in-120-clause-is
returns-in-120-clause-is c = meaning_so _ _ c.number_at.result (byte_ahead c.args.bytes.now c.args.at 120 c.requires.within c.in-120.is) c.number_at.ensures.is

pub returns-in-117-clause-is : goal.returns-in-117-clause-is
returns-in-117-clause-is c = meaning_so _ _ c.unit_at.result (unit_ahead c.args.bytes.now c.args.at c.requires.within c.in-117.is) c.unit_at.ensures.is

pub returns-in-85-clause-is : goal.returns-in-85-clause-is
returns-in-85-clause-is c = meaning_so _ _ c.number_at-in-85.result (byte_ahead c.args.bytes.now c.args.at 85 c.requires.within c.in-85.is) c.number_at-in-85.ensures.is

pub returns-in-Some-clause-is : goal.returns-in-Some-clause-is
returns-in-Some-clause-is c =
    letter_ahead c.args.bytes.now c.args.at (Some c.in-Some.character) c.requires.within (λ e. omega arith) (λ e. omega arith) (λ e. omega arith) (λ e. omega arith) c.in-Some.ensures.is

pub returns-in-None-clause-is : goal.returns-in-None-clause-is
returns-in-None-clause-is c =
    letter_ahead c.args.bytes.now c.args.at None c.requires.within (λ e. omega arith) (λ e. omega arith) (λ e. omega arith) (λ e. omega arith) c.in-None.ensures.is
