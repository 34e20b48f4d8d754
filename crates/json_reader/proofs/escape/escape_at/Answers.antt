use Rattle.std.proofs.Common.{◌≡◌, ◌<◌, length, arith, refl, sym, ◌∙◌}
use Rattle.json_reader.proofs.Walk.{escape_begins, escape_goes_on, escape_fails, escape_open, escape_reaches, escape_ascii}
use Rattle.json_reader.proofs.escape.escape_at.Goals as goal

pub loop-end-init : goal.loop-end-init
loop-end-init c = escape_begins c.args.bytes.now c.args.at c.requires.within c.requires.backslash

pub returns-in-Some : goal.returns-in-Some
returns-in-Some c =
    let m : c.loop-end.end < length c.args.bytes.now = omega arith in
    let l : c.args.at < c.loop-end.end = omega arith in (
      omega arith,
      omega arith,
      escape_ascii c.args.bytes.now c.args.at c.loop-end.end l m _ refl c.in-Some.c (sym c.in-Some.ensures),
      escape_reaches c.args.bytes.now c.args.at c.loop-end.end l m c.loop-end.invariant _ refl c.in-Some.c (sym c.in-Some.ensures),
    )

pub returns-then-not-may_escape : goal.returns-then-not-may_escape
returns-then-not-may_escape c =
    let m : c.loop-end.end < length c.args.bytes.now = omega arith in
    let l : c.args.at < c.loop-end.end = omega arith in
    escape_fails c.args.bytes.now c.args.at c.loop-end.end l m c.loop-end.invariant _ refl (sym c.in-None.ensures) (sym c.may_escape.ensures ∙ c.if-not-may_escape.true)

pub loop-end-preserved : goal.loop-end-preserved
loop-end-preserved c =
    let m : c.loop-end.end < length c.args.bytes.now = omega arith in
    let l : c.args.at < c.loop-end.end = omega arith in
    escape_goes_on c.args.bytes.now c.args.at c.loop-end.end l m c.loop-end.invariant _ refl (sym c.in-None.ensures) (sym c.may_escape.ensures ∙ c.if-not-may_escape.false)

pub returns : goal.returns
returns c =
    let m : length c.args.bytes.now ≡ c.loop-end.end = omega arith in
    escape_open c.args.bytes.now c.args.at c.loop-end.end m c.loop-end.invariant
