use Rattle.std.proofs.Common.{◌<◌, ◌≤◌, ◌-◌, length, arith, sym, ◌∙◌, take, drop}
use Rattle.json_reader.proofs.Walk.{run_between, run_open, run_stops}
use Rattle.json_reader.proofs.text.run_end.Goals as goal

pub returns-then-end-bytes : goal.returns-then-end-bytes
returns-then-end-bytes c =
    let e = c.plain_end-end.ensures in
    let end = c.plain_end-end.result in
    let l : length c.args.bytes.now ≤ end = omega arith in
    run_open c.args.bytes.now c.args.at end (take (end - c.args.at) (drop c.args.at c.args.bytes.now)) (run_between c.args.bytes.now c.args.at end e.from e.within e.plain) l e.within

pub returns-then-not-is_mark : goal.returns-then-not-is_mark
returns-then-not-is_mark c =
    let e = c.plain_end-end.ensures in
    let end = c.plain_end-end.result in
    let l : end < length c.args.bytes.now = omega (arith, e.within) in
    run_stops c.args.bytes.now c.args.at end (take (end - c.args.at) (drop c.args.at c.args.bytes.now)) (run_between c.args.bytes.now c.args.at end e.from e.within e.plain) l (e.most l) (sym c.is_mark.ensures ∙ c.if-not-is_mark.true)

pub returns : goal.returns
returns c =
    let e = c.plain_end-end.ensures in
    (e.from, omega (arith, e.within), run_between c.args.bytes.now c.args.at c.plain_end-end.result e.from e.within e.plain, sym c.is_mark.ensures ∙ c.if-not-is_mark.false)
