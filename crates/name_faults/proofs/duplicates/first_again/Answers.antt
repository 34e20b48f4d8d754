use Rattle.std.proofs.Common.{◌≡◌, ◌+◌, List, [], ℕ, take, drop, sym, subst, Some}
use Rattle.name_scopes.specs.code.Seen.{see_best, see_wrong}
use Rattle.name_faults.proofs.NameSets.{IsNameSet, set-more, name-old, name-new}
use Rattle.name_faults.proofs.SeenNames.{texts_of, texts-next, first_left, again-new, again-old}
use Rattle.name_faults.proofs.duplicates.first_again.Goals as goal

pub loop-name-preserved-then-is_new : goal.loop-name-preserved-then-is_new
loop-name-preserved-then-is_new c =
    let names = c.args.names.now in
    let kind = c.args.kind in
    let i = c.loop-name.name-index in
    let x = c.name-item.result in
    let texts = texts_of [] (take i names) in
    let best = see_best c.loop-name.best in
    let next = texts-next names i x c.loop-name-test.true c.name-item.is in
    let new = name-new c.loop-name.seen texts c.as_str.result.now x.now.text c.in_ok-is_new.is_new c.loop-name.invariant.same c.as_str.ensures c.in_ok-is_new.ensures.added c.if-is_new.true in
    record {
      each = subst (λ (ts : List (List ℕ)). first_left kind best ts (drop (i + 1) names) ≡ first_left kind (see_best c.args.best) [] names) (sym next)
          (again-new kind best _ texts names i x c.loop-name-test.true c.name-item.is new c.loop-name.invariant.each);
      same = subst (λ (ts : List (List ℕ)). IsNameSet c.insert.new.self ts) (sym next)
          (set-more c.loop-name.seen c.insert.new.self c.as_str.result texts x.now.text c.loop-name.invariant.same c.in_ok-is_new.ensures.updates.0 (sym c.as_str.ensures));
    }

pub loop-name-preserved : goal.loop-name-preserved
loop-name-preserved c =
    let names = c.args.names.now in
    let kind = c.args.kind in
    let i = c.loop-name.name-index in
    let x = c.name-item.result in
    let texts = texts_of [] (take i names) in
    let best = see_best c.loop-name.best in
    let next = texts-next names i x c.loop-name-test.true c.name-item.is in
    let old = name-old c.loop-name.seen texts c.as_str.result.now x.now.text c.in_ok-is_new.is_new c.loop-name.invariant.same c.as_str.ensures c.in_ok-is_new.ensures.added c.if-is_new.false in
    let fault = see_wrong c.earlier.result in
    record {
      each = subst (λ (ts : List (List ℕ)). first_left kind (Some fault) ts (drop (i + 1) names) ≡ first_left kind (see_best c.args.best) [] names) (sym next)
          (again-old kind best _ texts names i x c.as_str-in-loop-name.result.now c.at.result fault c.loop-name-test.true c.name-item.is old c.as_str-in-loop-name.ensures c.at.ensures c.earlier.ensures c.loop-name.invariant.each);
      same = subst (λ (ts : List (List ℕ)). IsNameSet c.insert.new.self ts) (sym next)
          (set-more c.loop-name.seen c.insert.new.self c.as_str.result texts x.now.text c.loop-name.invariant.same c.in_ok-is_new.ensures.updates.0 (sym c.as_str.ensures));
    }
