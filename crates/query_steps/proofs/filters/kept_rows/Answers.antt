use Rattle.std.proofs.lemmas.Grind.{common_steps}
use Rattle.std.proofs.Common.{◌≡◌, ◌++◌, ◌+◌, List, length, drop, ap, refl, sym, ◌∙◌, arith, Bor, Vec, Global}
use Rattle.std.proofs.lemmas.List.Sums.{AllPass-from_list_all}
use Rattle.guard_syntax.specs.declared.row.Row.{Row}
use Rattle.guard_syntax.specs.declared.row.Verdict.{Verdict}
use Rattle.value_store.specs.code.Stores.{see_store}
use Rattle.rule_meaning.specs.Filters.{candidates_of, filtered}
use Rattle.rule_meaning.specs.StoreModel.{is_known}
use Rattle.query_steps.proofs.FilterWalks.{kept_pairs, kept-pairs, kept-found, enough-found, left-found, known-pairs, kept-other, left-other, known-row, other-row}
use Rattle.query_steps.proofs.filters.kept_rows.Goals as goal
use Rattle.query_steps.proofs.filters.kept_rows.Goals.{in-Found+in_ok-left-in-Found, in-Missing+in_ok-push-in-Missing}

pub push_kept-requires-clause-value : goal.push_kept-requires-clause-value
push_kept-requires-clause-value c =
    let k = see_store c.args.store.now in
    ap (is_known k) (sym c.in-Found.is) ∙ AllPass-from_list_all (is_known k) c.args.before.now c.requires.known c.loop-row.row-index _ c.loop-row-test.true

pub push_kept-requires-clause-verdicts : goal.push_kept-requires-clause-verdicts
push_kept-requires-clause-verdicts c =
    let k = see_store c.args.store.now in
    let all = enough-found k c.args.after_key c.args.before.now c.loop-row.row-index _ c.loop-row-test.true c.in-Found.value (candidates_of k c.args.after_key c.in-Found.value) c.loop-row.left.now c.in-Found.is refl c.loop-row.invariant.left in
    omega (arith, all)

pub returns-in_err-left-in-Found-clause-no_memory : goal.returns-in_err-left-in-Found-clause-no_memory
returns-in_err-left-in-Found-clause-no_memory c = λ none. absurd (omega (arith, c.loop-row-test.true, ap length none))

pub returns-in_err-push-in-Missing-clause-no_memory : goal.returns-in_err-push-in-Missing-clause-no_memory
returns-in_err-push-in-Missing-clause-no_memory c = λ none. absurd (omega (arith, c.loop-row-test.true, ap length none))

pub loop-row-preserved : goal.loop-row-preserved
loop-row-preserved c = elim c.match-row.branch [
  | in-Found+in_ok-left-in-Found w ↦
      let k = see_store c.args.store.now in
      let tried = candidates_of k c.args.after_key w.in-Found.value in
      let put : c.match-row.rows.items ≡ c.loop-row.rows.items ++ kept_pairs tried c.loop-row.left.now =
      ap (λ (v : Vec Row Global). v.items) w.rows-is ∙ w.in_ok-left-in-Found.ensures.rows ∙ ap (λ (rows : List Row). c.loop-row.rows.items ++ rows) (kept-pairs tried c.loop-row.left.now)
      in
      let rest : c.match-row.left.now ≡ drop (length tried) c.loop-row.left.now = ap (λ (s : Bor (List Verdict)). s.now) w.left-is ∙ w.in_ok-left-in-Found.ensures.left in
      let behind = drop (c.loop-row.row-index + 1) c.args.before.now in
      record {
        kept = kept-found k c.args.after_key c.args.before.now c.loop-row.row-index _ c.loop-row-test.true w.in-Found.value tried c.args.verdicts.now c.loop-row.left.now c.loop-row.rows.items c.match-row.rows.items
            w.in-Found.is refl put c.loop-row.invariant.kept
            ∙ ap (λ (vs : List Verdict). c.match-row.rows.items ++ filtered k c.args.after_key behind vs) (sym rest);
        left = ap length rest ∙ left-found k c.args.after_key c.args.before.now c.loop-row.row-index _ c.loop-row-test.true w.in-Found.value tried c.loop-row.left.now
            w.in-Found.is refl c.loop-row.invariant.left;
        known = known-pairs k c.loop-row.rows.items c.match-row.rows.items tried c.loop-row.left.now put c.loop-row.invariant.known w.in_ok-left-in-Found.ensures.known;
      }
  | in-Missing+in_ok-push-in-Missing w ↦
      let put = ap (λ (v : Vec Row Global). v.items) w.rows-is ∙ w.in_ok-push-in-Missing.ensures.items in
      let same = ap (λ (s : Bor (List Verdict)). s.now) w.left-is in
      let k = see_store c.args.store.now in
      let behind = drop (c.loop-row.row-index + 1) c.args.before.now in
      record {
        kept = kept-other k c.args.after_key c.args.before.now c.loop-row.row-index _ c.loop-row-test.true c.args.verdicts.now c.loop-row.left.now c.loop-row.rows.items c.match-row.rows.items
            (other-row _ w.in-Missing.is) put c.loop-row.invariant.kept
            ∙ ap (λ (vs : List Verdict). c.match-row.rows.items ++ filtered k c.args.after_key behind vs) (sym same);
        left = ap length same ∙ left-other k c.args.after_key c.args.before.now c.loop-row.row-index _ c.loop-row-test.true c.loop-row.left.now (other-row _ w.in-Missing.is) c.loop-row.invariant.left;
        known = known-row k c.args.before.now c.loop-row.row-index _ c.loop-row.rows.items c.match-row.rows.items c.loop-row-test.true put c.loop-row.invariant.known c.requires.known;
      }
]

pub returns-clause-rows : goal.returns-clause-rows
returns-clause-rows c = grind (arith, common_steps)
