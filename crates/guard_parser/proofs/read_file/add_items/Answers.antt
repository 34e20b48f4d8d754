use Rattle.std.proofs.Common.{ℕ, List, ◌-◌, ◌+◌, map, refl, ap, sym, ◌∙◌}
use Rattle.std.proofs.lemmas.List.{map-append, append-nil}
use Rattle.guard_syntax.specs.Syntax.{Rule}
use Rattle.guard_syntax.specs.code.Seen.{let_list, disj_list, see_let, see_rule, see_disj}
use Rattle.literal_parser.specs.code.Parser.{Read}
use Rattle.literal_parser.specs.Forms.{is_let, is_rule, begins_part}
use Rattle.guard_parser.specs.code.FileReading.{file_items}
use Rattle.literal_parser.specs.code.Reads.{source, state_of}
use Rattle.part_parser.specs.code.GrammarReads.{let_at, disj_at}
use Rattle.guard_parser.specs.code.FileReads.{before_items, items_at, rule_at, see_file_items}
use Rattle.part_parser.proofs.CodeSteps.{then_read, then_fail, saw, halted_adding, taken, one_more, no_more}
use Rattle.guard_parser.proofs.Turns.{file_begun, let_turn, rule_turn, part_turn}
use Rattle.guard_parser.proofs.read_file.add_items.Goals as goal

pub loop-turn-preserved-then-sees : goal.loop-turn-preserved-then-sees
unfolding file_items
loop-turn-preserved-then-sees c =
    let got = taken see_let (let_at c.args.tokens c.args.depth (state_of c.sees.new.self) c.sees.new.self.seen) c.let_of.result _ _ c.let_of.new.cursor c.let_of.ensures c.in_ok-add.ensures in
    let ls = map see_let c.loop-turn.found.lets.items in let rs = map see_rule c.loop-turn.found.rules.items in let ds = map see_disj c.loop-turn.found.loose.items in
    let left : ℕ = c.args.tokens.turns - (c.loop-turn._turn + 1) in
    let rest = items_at c.args.tokens c.args.depth left (state_of c.let_of.new.cursor) c.let_of.new.cursor.seen in
    ap (λ xs. before_items xs rs ds rest) (ap (map see_let) got.2 ∙ map-append see_let c.loop-turn.found.lets.items _)
    ∙ sym (let_turn ls rs ds _ rest)
    ∙ sym (ap (before_items ls rs ds) (saw (source c.args.tokens) is_let _ _ (state_of c.loop-turn.cursor) c.loop-turn.cursor.seen c.sees.ensures.token c.if-sees.true c.sees.ensures.state c.sees.ensures.seen
    (then_read _ got.1 refl)))
    ∙ sym (ap (λ k. before_items ls rs ds (items_at c.args.tokens c.args.depth k (state_of c.loop-turn.cursor) c.loop-turn.cursor.seen)) (one_more c.args.tokens.turns c.loop-turn._turn c.loop-turn-test.true))
    ∙ c.loop-turn.invariant

pub loop-turn-preserved-then-sees-2 : goal.loop-turn-preserved-then-sees-2
unfolding file_items
loop-turn-preserved-then-sees-2 c =
    let got = taken see_rule (rule_at c.args.tokens c.args.depth (state_of c.sees-in-loop-turn.new.self) c.sees-in-loop-turn.new.self.seen) c.rule.result _ _ c.rule.new.cursor c.rule.ensures c.in_ok-add-2.ensures in
    let ls = map see_let c.loop-turn.found.lets.items in let rs = map see_rule c.loop-turn.found.rules.items in let ds = map see_disj c.loop-turn.found.loose.items in
    let left : ℕ = c.args.tokens.turns - (c.loop-turn._turn + 1) in
    let rest = items_at c.args.tokens c.args.depth left (state_of c.rule.new.cursor) c.rule.new.cursor.seen in
    ap (λ xs. before_items ls xs ds rest) (ap (map see_rule) got.2 ∙ map-append see_rule c.loop-turn.found.rules.items _)
    ∙ sym (rule_turn ls rs ds _ rest)
    ∙ sym (ap (before_items ls rs ds) (saw (source c.args.tokens) is_let _ _ (state_of c.loop-turn.cursor) c.loop-turn.cursor.seen c.sees.ensures.token c.if-sees.false c.sees.ensures.state c.sees.ensures.seen
    (saw (source c.args.tokens) is_rule _ _ (state_of c.sees.new.self) c.sees.new.self.seen c.sees-in-loop-turn.ensures.token c.if-sees-2.true c.sees-in-loop-turn.ensures.state c.sees-in-loop-turn.ensures.seen
    (then_read _ got.1 refl))))
    ∙ sym (ap (λ k. before_items ls rs ds (items_at c.args.tokens c.args.depth k (state_of c.loop-turn.cursor) c.loop-turn.cursor.seen)) (one_more c.args.tokens.turns c.loop-turn._turn c.loop-turn-test.true))
    ∙ c.loop-turn.invariant

pub returns-then-not-sees : goal.returns-then-not-sees
unfolding file_items
returns-then-not-sees c =
    let ls = map see_let c.loop-turn.found.lets.items in let rs = map see_rule c.loop-turn.found.rules.items in let ds = map see_disj c.loop-turn.found.loose.items in
    sym c.loop-turn.invariant
    ∙ ap (λ k. before_items ls rs ds (items_at c.args.tokens c.args.depth k (state_of c.loop-turn.cursor) c.loop-turn.cursor.seen)) (one_more c.args.tokens.turns c.loop-turn._turn c.loop-turn-test.true)
    ∙ ap (before_items ls rs ds) (saw (source c.args.tokens) is_let _ _ (state_of c.loop-turn.cursor) c.loop-turn.cursor.seen c.sees.ensures.token c.if-sees.false c.sees.ensures.state c.sees.ensures.seen
    (saw (source c.args.tokens) is_rule _ _ (state_of c.sees.new.self) c.sees.new.self.seen c.sees-in-loop-turn.ensures.token c.if-sees-2.false c.sees-in-loop-turn.ensures.state c.sees-in-loop-turn.ensures.seen
    (saw (source c.args.tokens) begins_part _ _ (state_of c.sees-in-loop-turn.new.self) c.sees-in-loop-turn.new.self.seen c.sees-in-loop-turn-2.ensures.token c.if-not-sees.true c.sees-in-loop-turn-2.ensures.state c.sees-in-loop-turn-2.ensures.seen refl)))
    ∙ ap (λ (xs : List Rule). Read (let_list ls, xs, disj_list ds) (state_of c.sees-in-loop-turn-2.new.self) c.sees-in-loop-turn-2.new.self.seen) (append-nil rs)

pub loop-turn-init : goal.loop-turn-init
loop-turn-init c =
    file_begun (map see_let c.args.found.now.lets.items) (map see_rule c.args.found.now.rules.items) (map see_disj c.args.found.now.loose.items) (items_at c.args.tokens c.args.depth) c.args.tokens.turns (state_of c.args.cursor.now) c.args.cursor.now.seen
    (ap (map see_let) c.requires.no_lets) (ap (map see_rule) c.requires.no_rules) (ap (map see_disj) c.requires.no_parts)

pub returns-in_err-add : goal.returns-in_err-add
unfolding file_items
returns-in_err-add c =
    let ls = map see_let c.loop-turn.found.lets.items in let rs = map see_rule c.loop-turn.found.rules.items in let ds = map see_disj c.loop-turn.found.loose.items in
    halted_adding see_let (λ _. see_file_items (record { lets = c.add.new.found; rules = c.loop-turn.found.rules; loose = c.loop-turn.found.loose })) (let_at c.args.tokens c.args.depth (state_of c.sees.new.self) c.sees.new.self.seen) (items_at c.args.tokens c.args.depth c.args.tokens.turns (state_of c.args.cursor.now) c.args.cursor.now.seen) c.let_of.result _ _ c.from_residual.result c.in_err-add.field-0.0 c.let_of.new.cursor c.let_of.new.cursor c.from_residual.ensures.1
    (λ k e. sym c.loop-turn.invariant
    ∙ ap (λ (k : ℕ). before_items ls rs ds (items_at c.args.tokens c.args.depth k (state_of c.loop-turn.cursor) c.loop-turn.cursor.seen)) (one_more c.args.tokens.turns c.loop-turn._turn c.loop-turn-test.true)
    ∙ ap (before_items ls rs ds) (saw (source c.args.tokens) is_let _ _ (state_of c.loop-turn.cursor) c.loop-turn.cursor.seen c.sees.ensures.token c.if-sees.true c.sees.ensures.state c.sees.ensures.seen (then_fail _ e))) c.let_of.ensures c.in_err-add.ensures

pub returns-in_err-add-2 : goal.returns-in_err-add-2
unfolding file_items
returns-in_err-add-2 c =
    let ls = map see_let c.loop-turn.found.lets.items in let rs = map see_rule c.loop-turn.found.rules.items in let ds = map see_disj c.loop-turn.found.loose.items in
    halted_adding see_rule (λ _. see_file_items (record { lets = c.loop-turn.found.lets; rules = c.add-then-sees-2.new.found; loose = c.loop-turn.found.loose })) (rule_at c.args.tokens c.args.depth (state_of c.sees-in-loop-turn.new.self) c.sees-in-loop-turn.new.self.seen) (items_at c.args.tokens c.args.depth c.args.tokens.turns (state_of c.args.cursor.now) c.args.cursor.now.seen) c.rule.result _ _ c.from_residual-in_err-add-2.result c.in_err-add-2.field-0.0 c.rule.new.cursor c.rule.new.cursor c.from_residual-in_err-add-2.ensures.1
    (λ k e. sym c.loop-turn.invariant
    ∙ ap (λ (k : ℕ). before_items ls rs ds (items_at c.args.tokens c.args.depth k (state_of c.loop-turn.cursor) c.loop-turn.cursor.seen)) (one_more c.args.tokens.turns c.loop-turn._turn c.loop-turn-test.true)
    ∙ ap (before_items ls rs ds) (saw (source c.args.tokens) is_let _ _ (state_of c.loop-turn.cursor) c.loop-turn.cursor.seen c.sees.ensures.token c.if-sees.false c.sees.ensures.state c.sees.ensures.seen (saw (source c.args.tokens) is_rule _ _ (state_of c.sees.new.self) c.sees.new.self.seen c.sees-in-loop-turn.ensures.token c.if-sees-2.true c.sees-in-loop-turn.ensures.state c.sees-in-loop-turn.ensures.seen (then_fail _ e)))) c.rule.ensures c.in_err-add-2.ensures

pub returns-in_err-add-3 : goal.returns-in_err-add-3
unfolding file_items
returns-in_err-add-3 c =
    let ls = map see_let c.loop-turn.found.lets.items in let rs = map see_rule c.loop-turn.found.rules.items in let ds = map see_disj c.loop-turn.found.loose.items in
    halted_adding see_disj (λ _. see_file_items (record { lets = c.loop-turn.found.lets; rules = c.loop-turn.found.rules; loose = c.add-in-loop-turn.new.found })) (disj_at c.args.tokens c.args.depth (state_of c.sees-in-loop-turn-2.new.self) c.sees-in-loop-turn-2.new.self.seen) (items_at c.args.tokens c.args.depth c.args.tokens.turns (state_of c.args.cursor.now) c.args.cursor.now.seen) c.disj.result _ _ c.from_residual-in_err-add-3.result c.in_err-add-3.field-0.0 c.disj.new.cursor c.disj.new.cursor c.from_residual-in_err-add-3.ensures.1
    (λ k e. sym c.loop-turn.invariant
    ∙ ap (λ (k : ℕ). before_items ls rs ds (items_at c.args.tokens c.args.depth k (state_of c.loop-turn.cursor) c.loop-turn.cursor.seen)) (one_more c.args.tokens.turns c.loop-turn._turn c.loop-turn-test.true)
    ∙ ap (before_items ls rs ds) (saw (source c.args.tokens) is_let _ _ (state_of c.loop-turn.cursor) c.loop-turn.cursor.seen c.sees.ensures.token c.if-sees.false c.sees.ensures.state c.sees.ensures.seen (saw (source c.args.tokens) is_rule _ _ (state_of c.sees.new.self) c.sees.new.self.seen c.sees-in-loop-turn.ensures.token c.if-sees-2.false c.sees-in-loop-turn.ensures.state c.sees-in-loop-turn.ensures.seen (saw (source c.args.tokens) begins_part _ _ (state_of c.sees-in-loop-turn.new.self) c.sees-in-loop-turn.new.self.seen c.sees-in-loop-turn-2.ensures.token c.if-not-sees.false c.sees-in-loop-turn-2.ensures.state c.sees-in-loop-turn-2.ensures.seen (then_fail _ e))))) c.disj.ensures c.in_err-add-3.ensures

pub returns : goal.returns
unfolding file_items
returns c =
    let ls = map see_let c.loop-turn.found.lets.items in let rs = map see_rule c.loop-turn.found.rules.items in let ds = map see_disj c.loop-turn.found.loose.items in
    sym c.loop-turn.invariant ∙ ap (λ (k : ℕ). before_items ls rs ds (items_at c.args.tokens c.args.depth k (state_of c.loop-turn.cursor) c.loop-turn.cursor.seen)) (no_more c.args.tokens.turns c.loop-turn._turn c.loop-turn-test.false)

pub loop-turn-preserved : goal.loop-turn-preserved
unfolding file_items
loop-turn-preserved c =
    let got = taken see_disj (disj_at c.args.tokens c.args.depth (state_of c.sees-in-loop-turn-2.new.self) c.sees-in-loop-turn-2.new.self.seen) c.disj.result _ _ c.disj.new.cursor c.disj.ensures c.in_ok-add-3.ensures in
    let ls = map see_let c.loop-turn.found.lets.items in let rs = map see_rule c.loop-turn.found.rules.items in let ds = map see_disj c.loop-turn.found.loose.items in
    let left : ℕ = c.args.tokens.turns - (c.loop-turn._turn + 1) in
    let rest = items_at c.args.tokens c.args.depth left (state_of c.disj.new.cursor) c.disj.new.cursor.seen in
    ap (λ xs. before_items ls rs xs rest) (ap (map see_disj) got.2 ∙ map-append see_disj c.loop-turn.found.loose.items _)
    ∙ sym (part_turn ls rs ds _ rest)
    ∙ sym (ap (before_items ls rs ds) (saw (source c.args.tokens) is_let _ _ (state_of c.loop-turn.cursor) c.loop-turn.cursor.seen c.sees.ensures.token c.if-sees.false c.sees.ensures.state c.sees.ensures.seen
    (saw (source c.args.tokens) is_rule _ _ (state_of c.sees.new.self) c.sees.new.self.seen c.sees-in-loop-turn.ensures.token c.if-sees-2.false c.sees-in-loop-turn.ensures.state c.sees-in-loop-turn.ensures.seen
    (saw (source c.args.tokens) begins_part _ _ (state_of c.sees-in-loop-turn.new.self) c.sees-in-loop-turn.new.self.seen c.sees-in-loop-turn-2.ensures.token c.if-not-sees.false c.sees-in-loop-turn-2.ensures.state c.sees-in-loop-turn-2.ensures.seen
    (then_read _ got.1 refl)))))
    ∙ sym (ap (λ k. before_items ls rs ds (items_at c.args.tokens c.args.depth k (state_of c.loop-turn.cursor) c.loop-turn.cursor.seen)) (one_more c.args.tokens.turns c.loop-turn._turn c.loop-turn-test.true))
    ∙ c.loop-turn.invariant
