use Rattle.value_store.proofs.store.Store.keep_literal.Goals as goal

pub invariant_of-self-clause-kept : goal.invariant_of-self-clause-kept
invariant_of-self-clause-kept c = c.args.self.now.kept
