use Rattle.std.proofs.Common.{refl}
use Rattle.rule_printer.proofs.PartsAppended.{all_room, let-added}
use Rattle.rule_printer.proofs.lets.push_let.Goals as goal

pub returns : goal.returns
returns c =
    let-added c.push_str-3.result c.args.given.now c.args.margin.now c.as_str.result.now _ _ _ _ _ _ _ c.as_str.ensures c.in_ok-push_str.ensures.bytes refl c.in_ok-push_signed.ensures
    c.in_ok-push_str-2.ensures.bytes c.in_ok-push_expr.ensures (all_room c.push_str-3.result _ _ _ c.push_str-3.ensures.bytes)
