use Rattle.std.proofs.lemmas.Grind.{common_steps}
use Rattle.std.proofs.Common.{◌≡◌, ◌++◌, ap, refl, sym, ◌∙◌, arith, true≢false, Vec, Global}
use Rattle.query_steps.proofs.EmptyLists.{none-tried}
use Rattle.query_steps.proofs.FilterWalks.{tried-found, tried-other, lost-row, known-refs}
use Rattle.std.specs.List.{list_all}
use Rattle.guard_syntax.specs.declared.row.Ref.{Ref}
use Rattle.rule_meaning.specs.Filters.{candidates_of}
use Rattle.rule_meaning.specs.StoreModel.{is_known_ref}
use Rattle.value_store.specs.code.Stores.{see_store}
use Rattle.query_steps.proofs.filters.filter_candidates.Goals as goal
use Rattle.query_steps.proofs.filters.filter_candidates.Goals.{in-Found+in_ok-push_candidates, in_default}

pub loop-row-preserved : goal.loop-row-preserved
loop-row-preserved c = elim c.match-row.branch [
  | in-Found+in_ok-push_candidates w ↦
      let k = see_store c.args.store.now in
      let mine = candidates_of k c.args.after_key w.in-Found.value in
      let put : c.match-row.refs.items ≡ c.loop-row.refs.items ++ mine = ap (λ (v : Vec Ref Global). v.items) w.refs-is ∙ w.in_ok-push_candidates.ensures.candidates in
      record {
        tried = tried-found k c.args.after_key c.args.before.now c.loop-row.row-index _ c.loop-row-test.true w.in-Found.value c.loop-row.refs.items c.match-row.refs.items mine
            w.in-Found.is refl put c.loop-row.invariant.tried;
        known = known-refs k c.loop-row.refs.items c.match-row.refs.items mine put c.loop-row.invariant.known w.in_ok-push_candidates.ensures.known;
      }
  | in_default w ↦
      let same = ap (λ (v : Vec Ref Global). v.items) w.refs-is in
      record {
        tried = same ∙ tried-other (see_store c.args.store.now) c.args.after_key c.args.before.now c.loop-row.row-index _ c.loop-row-test.true c.loop-row.refs.items (lost-row _ w.in_default.not-Found) c.loop-row.invariant.tried;
        known = ap (list_all (is_known_ref (see_store c.args.store.now))) same ∙ c.loop-row.invariant.known;
      }
]

pub returns-in_err-push_candidates-clause-no_memory : goal.returns-in_err-push_candidates-clause-no_memory
returns-in_err-push_candidates-clause-no_memory c none =
    absurd (true≢false (sym (c.in_err-push_candidates.ensures.no_memory (none-tried (see_store c.args.store.now) c.args.after_key c.args.before.now c.loop-row.row-index _ c.in-Found.value c.loop-row-test.true c.in-Found.is none))))

pub push_candidates-requires : goal.push_candidates-requires
push_candidates-requires c = grind (arith, common_steps)

pub returns-clause-candidates : goal.returns-clause-candidates
returns-clause-candidates c = grind (arith, common_steps)
