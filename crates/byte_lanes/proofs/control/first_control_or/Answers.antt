use Rattle.std.proofs.Common.{map, ap, sym, inl, inr, ◌∙◌, arith}
use Rattle.std.proofs.lemmas.Bool.{cases_lt}
use Rattle.std.proofs.lemmas.Simd.{none_from_empty_mask}
use lib.Lanes.{mask_l}
use Rattle.byte_lanes.specs.code.Controls.{is_control_or}
use Rattle.byte_lanes.proofs.Blocks.{range-chunk, hit_within, hit_before, hit_found}
use Rattle.byte_lanes.proofs.control.first_control_or.Goals as goal

pub returns-then-hits-ne0-clause-within : goal.returns-then-hits-ne0-clause-within
returns-then-hits-ne0-clause-within c =
    let p = is_control_or c.args.one c.args.other in
    let are = c.hits_in-hits.ensures ∙ ap (λ l. mask_l (map p l)) (range-chunk c.loop-at.at 16 c.args.bytes.now) in
    omega (arith, hit_within p c.args.bytes.now c.loop-at.at 16 c.hits_in-hits.result (omega arith) (omega arith) are (omega arith))

pub returns-then-hits-ne0-clause-before : goal.returns-then-hits-ne0-clause-before
returns-then-hits-ne0-clause-before c k from below =
    let p = is_control_or c.args.one c.args.other in
    let are = c.hits_in-hits.ensures ∙ ap (λ l. mask_l (map p l)) (range-chunk c.loop-at.at 16 c.args.bytes.now) in
    elim (cases_lt k c.loop-at.at) [
      | inl lt ↦ c.loop-at.invariant.2 k from lt
      | inr ge ↦ hit_before p c.args.bytes.now c.loop-at.at 16 c.hits_in-hits.result (omega arith) (omega arith) are (omega arith) k (omega arith) below
    ]

pub returns-then-hits-ne0-clause-found : goal.returns-then-hits-ne0-clause-found
returns-then-hits-ne0-clause-found c _ =
    let p = is_control_or c.args.one c.args.other in
    let are = c.hits_in-hits.ensures ∙ ap (λ l. mask_l (map p l)) (range-chunk c.loop-at.at 16 c.args.bytes.now) in
    hit_found p c.args.bytes.now c.loop-at.at 16 c.hits_in-hits.result (omega arith) (omega arith) are (omega arith)

pub loop-at-preserved : goal.loop-at-preserved
loop-at-preserved c =
    let p = is_control_or c.args.one c.args.other in
    let none = ap (λ l. mask_l (map p l)) (sym (range-chunk c.loop-at.at 16 c.args.bytes.now)) ∙ sym c.hits_in-hits.ensures ∙ c.if-hits-ne0.false in (
      omega arith,
      omega arith,
      λ k from below. elim (cases_lt k c.loop-at.at) [
        | inl lt ↦ c.loop-at.invariant.2 k from lt
        | inr ge ↦ none_from_empty_mask p c.args.bytes.now c.loop-at.at 16 0 (omega arith) none k (omega arith) below
      ],
    )
