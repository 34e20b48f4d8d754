use Rattle.std.proofs.Common.{arith, inl, inr, ◌∙◌, sym}
use Rattle.std.proofs.lemmas.Bool.{cases_lt}
use Rattle.std.proofs.lemmas.Simd.{none_from_empty_mask}
use Rattle.byte_lanes.specs.code.Members.{holds}
use Rattle.byte_lanes.proofs.Blocks.{hit_within, hit_before, hit_found}
use Rattle.byte_lanes.proofs.special.first_special.Goals as goal

pub returns-then-hits-ne0-clause-within : goal.returns-then-hits-ne0-clause-within
returns-then-hits-ne0-clause-within c =
    let p = holds c.args.set.now in
    omega (arith, hit_within p c.args.bytes.now c.loop-at.at 16 c.hits-hits.result (omega arith) (omega arith) c.hits-hits.ensures (omega arith))

pub returns-then-hits-ne0-clause-before : goal.returns-then-hits-ne0-clause-before
returns-then-hits-ne0-clause-before c k from below =
    let p = holds c.args.set.now in
    elim (cases_lt k c.loop-at.at) [
      | inl lt ↦ c.loop-at.invariant.2 k from lt
      | inr ge ↦ hit_before p c.args.bytes.now c.loop-at.at 16 c.hits-hits.result (omega arith) (omega arith) c.hits-hits.ensures (omega arith) k (omega arith) below
    ]

pub returns-then-hits-ne0-clause-found : goal.returns-then-hits-ne0-clause-found
returns-then-hits-ne0-clause-found c _ =
    let p = holds c.args.set.now in
    hit_found p c.args.bytes.now c.loop-at.at 16 c.hits-hits.result (omega arith) (omega arith) c.hits-hits.ensures (omega arith)

pub loop-at-preserved : goal.loop-at-preserved
loop-at-preserved c =
    let p = holds c.args.set.now in (
      omega arith,
      omega arith,
      λ k from below. elim (cases_lt k c.loop-at.at) [
        | inl lt ↦ c.loop-at.invariant.2 k from lt
        | inr ge ↦ none_from_empty_mask p c.args.bytes.now c.loop-at.at 16 0 (omega arith) (sym c.hits-hits.ensures ∙ c.if-hits-ne0.false) k (omega arith) below
      ],
    )
