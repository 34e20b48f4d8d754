use Rattle.std.proofs.Common.{ℕ, List, false, map, refl, ap, sym, ◌∙◌, ◌-◌, ◌++◌, [], ◌∷◌}
use Rattle.std.proofs.lemmas.List.{map-append}
use Rattle.guard_syntax.specs.Syntax as sx
use Rattle.guard_syntax.specs.code.Seen.{see_conds, see_disj, see_expr, see_part, see_query, see_step}
use Rattle.literal_parser.specs.Forms.{begins_cond, begins_step, is_comma, is_or, is_keys, is_lparen, is_rparen, is_lbracket, is_rbracket, is_dot, is_star, is_index, is_name, is_binary, leads, text_of}
use Rattle.literal_parser.specs.code.Parser.{One, Read, Fail, pure, and_then, ◌>>=◌, ◌>>◌, opens, takes, has}
use Rattle.literal_parser.specs.code.Reads.{site_of, source, state_of}
use Rattle.part_parser.specs.declared.lead.Lead.{Lead}
use Rattle.part_parser.specs.declared.lead.ExprForm.{ExprForm}
use Rattle.part_parser.specs.code.Leads.{lead_of, led_by, expr_by}
use Rattle.part_parser.specs.code.Reading as spec
use Rattle.part_parser.specs.code.Reading.{disjs, ors, steps, more_exprs_of, exprs_of, conds_of, disj_of, query_of, start_step, cond_part, headed, judged, tested, right, referred, ruled, called, applied, asked_expr, step, dotted, bracketed, keyed, filtered}
use Rattle.part_parser.specs.code.GrammarReads.{KeyTest, inner, see_disjs, see_parts, see_steps, see_exprs, see_key_test, alternatives_at, more_alternatives_at, cond_part_at, conds_at, disjs_at, dotted_at, items_at, closed_index_at, query_at, step_at, steps_at, expr_at, tree_expr_at, more_exprs_at, some_disjs_at, some_conditions_at, some_steps_at, closed_exprs_at, closed_exprs, arguments_at, named_at, tested_at, applied_at, filter_at, key_test_at}
use Rattle.part_parser.proofs.CodeSteps.{then_read, then_fail, seen_as, tested_by, saw, handed, halted, halted_by, halted_adding, taken, both, then_closed, then_enclosed, then_tested, closed_by, list_begun, list_more, list_ended, list_failed, list_spent, deeper, some_of, read_whole, list_opened, item_failed, turns_spent, went_on}
use Rattle.part_parser.proofs.Leads.{condition_led, expr_formed}
use Rattle.part_parser.proofs.Rooms.{roomy_reads, full_stops, room_left, no_room}
use Rattle.part_parser.proofs.SeenForms.{conds-made, disj-made, query-made, test-made, refer-made, call-made, function-made, asked-made, keys-made, filter-made}
use Rattle.part_parser.proofs.+conditions.Goals as goal

pub read_condition::add_disjs-items-init : goal.read_condition::add_disjs-items-init
read_condition::add_disjs-items-init t c =
    list_opened sx.more_disjs pure (map see_disj c.args.found.now.items) (some_of sx.more_disjs (alternatives_at c.args.tokens c.args.depth) (λ (k : ℕ). disjs_at c.args.tokens c.args.depth k) c.args.tokens.turns (state_of c.args.cursor.now) c.args.cursor.now.seen) (some_disjs_at c.args.tokens c.args.depth (state_of c.args.cursor.now) c.args.cursor.now.seen) (read_whole (some_of sx.more_disjs (alternatives_at c.args.tokens c.args.depth) (λ (k : ℕ). disjs_at c.args.tokens c.args.depth k) c.args.tokens.turns (state_of c.args.cursor.now) c.args.cursor.now.seen)) (ap (map see_disj) c.requires.none)

pub read_condition::add_disjs-items-preserved : goal.read_condition::add_disjs-items-preserved
unfolding disjs
read_condition::add_disjs-items-preserved t c =
    let got = taken see_disj ((alternatives_at c.args.tokens c.args.depth) (state_of c.items.cursor) c.items.cursor.seen) c.alternatives.result _ _ c.alternatives.new.cursor c.alternatives.ensures c.in_ok-add.ensures in
    went_on sx.more_disjs pure (map see_disj c.items.found.items) (alternatives_at c.args.tokens c.args.depth) (λ (k : ℕ). disjs_at c.args.tokens c.args.depth k) c.items.left (some_disjs_at c.args.tokens c.args.depth (state_of c.args.cursor.now) c.args.cursor.now.seen) (state_of c.items.cursor) c.items.cursor.seen c.items.invariant
    (see_disj got.0) (map see_disj c.add.new.found.items) (state_of c.alternatives.new.cursor) c.alternatives.new.cursor.seen got.1 (ap (map see_disj) got.2 ∙ map-append see_disj c.items.found.items _) c.if-left-eq0.false (some_of sx.more_disjs (alternatives_at c.args.tokens c.args.depth) (λ (k : ℕ). disjs_at c.args.tokens c.args.depth k) (c.items.left - 1) (state_of c.sees.new.self) c.sees.new.self.seen)
    (saw (source c.args.tokens) begins_cond _ _ (state_of c.alternatives.new.cursor) c.alternatives.new.cursor.seen c.sees.ensures.token c.if-not-sees.false c.sees.ensures.state c.sees.ensures.seen refl)

pub read_condition::add_disjs-returns-then-left-eq0 : goal.read_condition::add_disjs-returns-then-left-eq0
unfolding disjs
read_condition::add_disjs-returns-then-left-eq0 t c =
    let got = taken see_disj ((alternatives_at c.args.tokens c.args.depth) (state_of c.items.cursor) c.items.cursor.seen) c.alternatives.result _ _ c.alternatives.new.cursor c.alternatives.ensures c.in_ok-add.ensures in
    turns_spent sx.more_disjs pure (map see_disj c.items.found.items) (alternatives_at c.args.tokens c.args.depth) (λ (k : ℕ). disjs_at c.args.tokens c.args.depth k) c.items.left (some_disjs_at c.args.tokens c.args.depth (state_of c.args.cursor.now) c.args.cursor.now.seen) (state_of c.items.cursor) c.items.cursor.seen c.items.invariant
    (see_disj got.0) (map see_disj c.add.new.found.items) (state_of c.alternatives.new.cursor) c.alternatives.new.cursor.seen got.1 (ap (map see_disj) got.2 ∙ map-append see_disj c.items.found.items _) c.if-left-eq0.true refl

pub read_condition::add_disjs-returns-then-not-sees : goal.read_condition::add_disjs-returns-then-not-sees
unfolding disjs
read_condition::add_disjs-returns-then-not-sees t c =
    let got = taken see_disj ((alternatives_at c.args.tokens c.args.depth) (state_of c.items.cursor) c.items.cursor.seen) c.alternatives.result _ _ c.alternatives.new.cursor c.alternatives.ensures c.in_ok-add.ensures in
    went_on sx.more_disjs pure (map see_disj c.items.found.items) (alternatives_at c.args.tokens c.args.depth) (λ (k : ℕ). disjs_at c.args.tokens c.args.depth k) c.items.left (some_disjs_at c.args.tokens c.args.depth (state_of c.args.cursor.now) c.args.cursor.now.seen) (state_of c.items.cursor) c.items.cursor.seen c.items.invariant
    (see_disj got.0) (map see_disj c.add.new.found.items) (state_of c.alternatives.new.cursor) c.alternatives.new.cursor.seen got.1 (ap (map see_disj) got.2 ∙ map-append see_disj c.items.found.items _) c.if-left-eq0.false (Read sx.no_disjs (state_of c.sees.new.self) c.sees.new.self.seen)
    (saw (source c.args.tokens) begins_cond _ _ (state_of c.alternatives.new.cursor) c.alternatives.new.cursor.seen c.sees.ensures.token c.if-not-sees.true c.sees.ensures.state c.sees.ensures.seen refl)

pub read_condition::add_disjs-returns-in_err-add : goal.read_condition::add_disjs-returns-in_err-add
read_condition::add_disjs-returns-in_err-add t c =
    halted_adding see_disj (λ _. see_disjs c.add.new.found) ((alternatives_at c.args.tokens c.args.depth) (state_of c.items.cursor) c.items.cursor.seen)
    (some_disjs_at c.args.tokens c.args.depth (state_of c.args.cursor.now) c.args.cursor.now.seen) c.alternatives.result _ _ c.from_residual.result c.in_err-add.field-0.0 c.alternatives.new.cursor c.alternatives.new.cursor c.from_residual.ensures.1
    (λ k e. item_failed sx.more_disjs pure (map see_disj c.items.found.items) (alternatives_at c.args.tokens c.args.depth) (λ (k : ℕ). disjs_at c.args.tokens c.args.depth k) c.items.left (some_disjs_at c.args.tokens c.args.depth (state_of c.args.cursor.now) c.args.cursor.now.seen) (state_of c.items.cursor) c.items.cursor.seen c.items.invariant k e) c.alternatives.ensures c.in_err-add.ensures

pub read_condition::add_conditions-items-init : goal.read_condition::add_conditions-items-init
read_condition::add_conditions-items-init t c =
    list_opened sx.more_parts pure (map see_part c.args.found.now.items) (some_of sx.more_parts (cond_part_at c.args.tokens c.args.depth) (λ (k : ℕ). more_alternatives_at c.args.tokens c.args.depth k) c.args.tokens.turns (state_of c.args.cursor.now) c.args.cursor.now.seen) (some_conditions_at c.args.tokens c.args.depth (state_of c.args.cursor.now) c.args.cursor.now.seen) (read_whole (some_of sx.more_parts (cond_part_at c.args.tokens c.args.depth) (λ (k : ℕ). more_alternatives_at c.args.tokens c.args.depth k) c.args.tokens.turns (state_of c.args.cursor.now) c.args.cursor.now.seen)) (ap (map see_part) c.requires.none)

pub read_condition::add_conditions-items-preserved : goal.read_condition::add_conditions-items-preserved
unfolding ors
read_condition::add_conditions-items-preserved t c =
    let got = taken see_part ((cond_part_at c.args.tokens c.args.depth) (state_of c.items.cursor) c.items.cursor.seen) c.condition.result _ _ c.condition.new.cursor c.condition.ensures c.in_ok-add.ensures in
    went_on sx.more_parts pure (map see_part c.items.found.items) (cond_part_at c.args.tokens c.args.depth) (λ (k : ℕ). more_alternatives_at c.args.tokens c.args.depth k) c.items.left (some_conditions_at c.args.tokens c.args.depth (state_of c.args.cursor.now) c.args.cursor.now.seen) (state_of c.items.cursor) c.items.cursor.seen c.items.invariant
    (see_part got.0) (map see_part c.add.new.found.items) (state_of c.condition.new.cursor) c.condition.new.cursor.seen got.1 (ap (map see_part) got.2 ∙ map-append see_part c.items.found.items _) c.if-left-eq0.false (some_of sx.more_parts (cond_part_at c.args.tokens c.args.depth) (λ (k : ℕ). more_alternatives_at c.args.tokens c.args.depth k) (c.items.left - 1) (state_of c.takes.new.self) c.takes.new.self.seen)
    (saw (source c.args.tokens) is_or _ _ (state_of c.condition.new.cursor) c.condition.new.cursor.seen c.sees.ensures.token c.if-not-sees.false c.sees.ensures.state c.sees.ensures.seen (then_read _ c.in_ok-takes.ensures refl))

pub read_condition::add_conditions-returns-then-left-eq0 : goal.read_condition::add_conditions-returns-then-left-eq0
unfolding ors
read_condition::add_conditions-returns-then-left-eq0 t c =
    let got = taken see_part ((cond_part_at c.args.tokens c.args.depth) (state_of c.items.cursor) c.items.cursor.seen) c.condition.result _ _ c.condition.new.cursor c.condition.ensures c.in_ok-add.ensures in
    turns_spent sx.more_parts pure (map see_part c.items.found.items) (cond_part_at c.args.tokens c.args.depth) (λ (k : ℕ). more_alternatives_at c.args.tokens c.args.depth k) c.items.left (some_conditions_at c.args.tokens c.args.depth (state_of c.args.cursor.now) c.args.cursor.now.seen) (state_of c.items.cursor) c.items.cursor.seen c.items.invariant
    (see_part got.0) (map see_part c.add.new.found.items) (state_of c.condition.new.cursor) c.condition.new.cursor.seen got.1 (ap (map see_part) got.2 ∙ map-append see_part c.items.found.items _) c.if-left-eq0.true refl

pub read_condition::add_conditions-returns-then-not-sees : goal.read_condition::add_conditions-returns-then-not-sees
unfolding ors
read_condition::add_conditions-returns-then-not-sees t c =
    let got = taken see_part ((cond_part_at c.args.tokens c.args.depth) (state_of c.items.cursor) c.items.cursor.seen) c.condition.result _ _ c.condition.new.cursor c.condition.ensures c.in_ok-add.ensures in
    went_on sx.more_parts pure (map see_part c.items.found.items) (cond_part_at c.args.tokens c.args.depth) (λ (k : ℕ). more_alternatives_at c.args.tokens c.args.depth k) c.items.left (some_conditions_at c.args.tokens c.args.depth (state_of c.args.cursor.now) c.args.cursor.now.seen) (state_of c.items.cursor) c.items.cursor.seen c.items.invariant
    (see_part got.0) (map see_part c.add.new.found.items) (state_of c.condition.new.cursor) c.condition.new.cursor.seen got.1 (ap (map see_part) got.2 ∙ map-append see_part c.items.found.items _) c.if-left-eq0.false (Read sx.no_parts (state_of c.sees.new.self) c.sees.new.self.seen)
    (saw (source c.args.tokens) is_or _ _ (state_of c.condition.new.cursor) c.condition.new.cursor.seen c.sees.ensures.token c.if-not-sees.true c.sees.ensures.state c.sees.ensures.seen refl)

pub read_condition::add_conditions-returns-in_err-add : goal.read_condition::add_conditions-returns-in_err-add
read_condition::add_conditions-returns-in_err-add t c =
    halted_adding see_part (λ _. see_parts c.add.new.found) ((cond_part_at c.args.tokens c.args.depth) (state_of c.items.cursor) c.items.cursor.seen)
    (some_conditions_at c.args.tokens c.args.depth (state_of c.args.cursor.now) c.args.cursor.now.seen) c.condition.result _ _ c.from_residual.result c.in_err-add.field-0.0 c.condition.new.cursor c.condition.new.cursor c.from_residual.ensures.1
    (λ k e. item_failed sx.more_parts pure (map see_part c.items.found.items) (cond_part_at c.args.tokens c.args.depth) (λ (k : ℕ). more_alternatives_at c.args.tokens c.args.depth k) c.items.left (some_conditions_at c.args.tokens c.args.depth (state_of c.args.cursor.now) c.args.cursor.now.seen) (state_of c.items.cursor) c.items.cursor.seen c.items.invariant k e) c.condition.ensures c.in_err-add.ensures

pub read_condition::add_conditions-returns-in_err-takes : goal.read_condition::add_conditions-returns-in_err-takes
unfolding ors
read_condition::add_conditions-returns-in_err-takes t c =
    let got = taken see_part ((cond_part_at c.args.tokens c.args.depth) (state_of c.items.cursor) c.items.cursor.seen) c.condition.result _ _ c.condition.new.cursor c.condition.ensures c.in_ok-add.ensures in
    halted_by (λ (x : One). x) (λ _. see_parts c.add.new.found) (takes (source c.args.tokens) is_or (state_of c.sees.new.self) c.sees.new.self.seen)
    (some_conditions_at c.args.tokens c.args.depth (state_of c.args.cursor.now) c.args.cursor.now.seen) c.from_residual-in_err-takes.result c.in_err-takes.field-0.0 c.takes.new.self c.takes.new.self c.from_residual-in_err-takes.ensures.1
    (λ k e. went_on sx.more_parts pure (map see_part c.items.found.items) (cond_part_at c.args.tokens c.args.depth) (λ (k : ℕ). more_alternatives_at c.args.tokens c.args.depth k) c.items.left (some_conditions_at c.args.tokens c.args.depth (state_of c.args.cursor.now) c.args.cursor.now.seen) (state_of c.items.cursor) c.items.cursor.seen c.items.invariant
    (see_part got.0) (map see_part c.add.new.found.items) (state_of c.condition.new.cursor) c.condition.new.cursor.seen got.1 (ap (map see_part) got.2 ∙ map-append see_part c.items.found.items _) c.if-left-eq0.false (Fail k)
    (saw (source c.args.tokens) is_or _ _ (state_of c.condition.new.cursor) c.condition.new.cursor.seen c.sees.ensures.token c.if-not-sees.false c.sees.ensures.state c.sees.ensures.seen (then_fail _ e))) c.in_err-takes.ensures

pub read_query::add_steps-loop-turn-init : goal.read_query::add_steps-loop-turn-init
unfolding steps start_step
read_query::add_steps-loop-turn-init t c =
    let got = taken see_step (start_step (source c.args.tokens) c.args.tokens.turns (inner c.args.tokens c.args.depth) (state_of c.args.cursor.now) c.args.cursor.now.seen) c.start_step.result _ _ c.start_step.new.cursor c.start_step.ensures c.in_ok-add.ensures in
    list_begun sx.more_steps pure _ _ (λ (k : ℕ). steps_at c.args.tokens c.args.depth k) c.args.tokens.turns (some_steps_at c.args.tokens c.args.depth (state_of c.args.cursor.now) c.args.cursor.now.seen) (state_of c.start_step.new.cursor) c.start_step.new.cursor.seen
    (then_read _ got.1 refl) (ap (map see_step) (got.2 ∙ ap (λ xs. xs ++ got.0 ∷ []) c.requires.none))

pub read_query::add_steps-loop-turn-preserved : goal.read_query::add_steps-loop-turn-preserved
unfolding steps start_step
read_query::add_steps-loop-turn-preserved t c =
    let got = taken see_step (step_at c.args.tokens c.args.depth (state_of c.sees.new.self) c.sees.new.self.seen) c.step.result _ _ c.step.new.cursor c.step.ensures c.in_ok-add-2.ensures in
    list_more sx.more_steps pure (map see_step c.loop-turn.found.items) (λ (k : ℕ). steps_at c.args.tokens c.args.depth k) c.args.tokens.turns c.loop-turn._turn (some_steps_at c.args.tokens c.args.depth (state_of c.args.cursor.now) c.args.cursor.now.seen) (state_of c.loop-turn.cursor) c.loop-turn.cursor.seen c.loop-turn.invariant _ _ (state_of c.step.new.cursor) c.step.new.cursor.seen c.loop-turn-test.true
    (saw (source c.args.tokens) begins_step _ _ (state_of c.loop-turn.cursor) c.loop-turn.cursor.seen c.sees.ensures.token c.if-not-sees.false c.sees.ensures.state c.sees.ensures.seen (then_read _ got.1 refl))
    (ap (map see_step) got.2 ∙ map-append see_step c.loop-turn.found.items _)

pub read_query::add_steps-returns-then-not-sees : goal.read_query::add_steps-returns-then-not-sees
unfolding steps start_step
read_query::add_steps-returns-then-not-sees t c =
    list_ended sx.more_steps pure (map see_step c.loop-turn.found.items) (λ (k : ℕ). steps_at c.args.tokens c.args.depth k) c.args.tokens.turns c.loop-turn._turn (some_steps_at c.args.tokens c.args.depth (state_of c.args.cursor.now) c.args.cursor.now.seen) (state_of c.loop-turn.cursor) c.loop-turn.cursor.seen c.loop-turn.invariant sx.no_steps (state_of c.sees.new.self) c.sees.new.self.seen c.loop-turn-test.true
    (saw (source c.args.tokens) begins_step _ _ (state_of c.loop-turn.cursor) c.loop-turn.cursor.seen c.sees.ensures.token c.if-not-sees.true c.sees.ensures.state c.sees.ensures.seen refl)

pub read_query::add_steps-returns : goal.read_query::add_steps-returns
unfolding steps start_step
read_query::add_steps-returns t c =
    list_spent sx.more_steps pure (map see_step c.loop-turn.found.items) (λ (k : ℕ). steps_at c.args.tokens c.args.depth k) c.args.tokens.turns c.loop-turn._turn (some_steps_at c.args.tokens c.args.depth (state_of c.args.cursor.now) c.args.cursor.now.seen) (state_of c.loop-turn.cursor) c.loop-turn.cursor.seen c.loop-turn.invariant c.loop-turn-test.false refl

pub read_query::add_steps-returns-in_err-add : goal.read_query::add_steps-returns-in_err-add
unfolding steps start_step
read_query::add_steps-returns-in_err-add t c =
    halted_adding see_step (λ _. see_steps c.add.new.found) (start_step (source c.args.tokens) c.args.tokens.turns (inner c.args.tokens c.args.depth) (state_of c.args.cursor.now) c.args.cursor.now.seen)
    (some_steps_at c.args.tokens c.args.depth (state_of c.args.cursor.now) c.args.cursor.now.seen) c.start_step.result _ _ c.from_residual.result c.in_err-add.field-0.0 c.start_step.new.cursor c.start_step.new.cursor c.from_residual.ensures.1
    (λ k z. then_fail _ z) c.start_step.ensures c.in_err-add.ensures

pub read_query::add_steps-returns-in_err-add-2 : goal.read_query::add_steps-returns-in_err-add-2
unfolding steps start_step
read_query::add_steps-returns-in_err-add-2 t c =
    halted_adding see_step (λ _. see_steps c.add-in-loop-turn.new.found) (step_at c.args.tokens c.args.depth (state_of c.sees.new.self) c.sees.new.self.seen)
    (some_steps_at c.args.tokens c.args.depth (state_of c.args.cursor.now) c.args.cursor.now.seen) c.step.result _ _ c.from_residual-in_err-add-2.result c.in_err-add-2.field-0.0 c.step.new.cursor c.step.new.cursor c.from_residual-in_err-add-2.ensures.1
    (λ k e. list_failed sx.more_steps pure (map see_step c.loop-turn.found.items) (λ (k : ℕ). steps_at c.args.tokens c.args.depth k) c.args.tokens.turns c.loop-turn._turn (some_steps_at c.args.tokens c.args.depth (state_of c.args.cursor.now) c.args.cursor.now.seen) (state_of c.loop-turn.cursor) c.loop-turn.cursor.seen c.loop-turn.invariant k c.loop-turn-test.true
    (saw (source c.args.tokens) begins_step _ _ (state_of c.loop-turn.cursor) c.loop-turn.cursor.seen c.sees.ensures.token c.if-not-sees.false c.sees.ensures.state c.sees.ensures.seen (then_fail _ e))) c.step.ensures c.in_err-add-2.ensures

pub read_query::add_exprs-items-init : goal.read_query::add_exprs-items-init
read_query::add_exprs-items-init t c =
    list_opened sx.more_exprs (closed_exprs c.args.tokens c.args.depth) (map see_expr c.args.found.now.items) (some_of sx.more_exprs (expr_at c.args.tokens c.args.depth) (λ (k : ℕ). more_exprs_at c.args.tokens c.args.depth k) c.args.tokens.turns (state_of c.args.cursor.now) c.args.cursor.now.seen) (closed_exprs_at c.args.tokens c.args.depth (state_of c.args.cursor.now) c.args.cursor.now.seen) (both (more_exprs_at c.args.tokens c.args.depth c.args.tokens.turns) sx.more_exprs (closed_exprs c.args.tokens c.args.depth) (expr_at c.args.tokens c.args.depth (state_of c.args.cursor.now) c.args.cursor.now.seen)) (ap (map see_expr) c.requires.none)

pub read_query::add_exprs-items-preserved : goal.read_query::add_exprs-items-preserved
unfolding more_exprs_of
read_query::add_exprs-items-preserved t c =
    let got = taken see_expr ((expr_at c.args.tokens c.args.depth) (state_of c.items.cursor) c.items.cursor.seen) c.expr.result _ _ c.expr.new.cursor c.expr.ensures c.in_ok-add.ensures in
    went_on sx.more_exprs (closed_exprs c.args.tokens c.args.depth) (map see_expr c.items.found.items) (expr_at c.args.tokens c.args.depth) (λ (k : ℕ). more_exprs_at c.args.tokens c.args.depth k) c.items.left (closed_exprs_at c.args.tokens c.args.depth (state_of c.args.cursor.now) c.args.cursor.now.seen) (state_of c.items.cursor) c.items.cursor.seen c.items.invariant
    (see_expr got.0) (map see_expr c.add.new.found.items) (state_of c.expr.new.cursor) c.expr.new.cursor.seen got.1 (ap (map see_expr) got.2 ∙ map-append see_expr c.items.found.items _) c.if-left-eq0.false (some_of sx.more_exprs (expr_at c.args.tokens c.args.depth) (λ (k : ℕ). more_exprs_at c.args.tokens c.args.depth k) (c.items.left - 1) (state_of c.takes-in-items.new.self) c.takes-in-items.new.self.seen)
    (saw (source c.args.tokens) is_comma _ _ (state_of c.expr.new.cursor) c.expr.new.cursor.seen c.sees.ensures.token c.if-not-sees.false c.sees.ensures.state c.sees.ensures.seen (then_read _ c.in_ok-takes.ensures refl))

pub read_query::add_exprs-returns-then-left-eq0 : goal.read_query::add_exprs-returns-then-left-eq0
unfolding more_exprs_of
read_query::add_exprs-returns-then-left-eq0 t c =
    let got = taken see_expr ((expr_at c.args.tokens c.args.depth) (state_of c.items.cursor) c.items.cursor.seen) c.expr.result _ _ c.expr.new.cursor c.expr.ensures c.in_ok-add.ensures in
    turns_spent sx.more_exprs (closed_exprs c.args.tokens c.args.depth) (map see_expr c.items.found.items) (expr_at c.args.tokens c.args.depth) (λ (k : ℕ). more_exprs_at c.args.tokens c.args.depth k) c.items.left (closed_exprs_at c.args.tokens c.args.depth (state_of c.args.cursor.now) c.args.cursor.now.seen) (state_of c.items.cursor) c.items.cursor.seen c.items.invariant
    (see_expr got.0) (map see_expr c.add.new.found.items) (state_of c.expr.new.cursor) c.expr.new.cursor.seen got.1 (ap (map see_expr) got.2 ∙ map-append see_expr c.items.found.items _) c.if-left-eq0.true refl

pub read_query::add_exprs-returns-then-not-sees : goal.read_query::add_exprs-returns-then-not-sees
unfolding more_exprs_of
read_query::add_exprs-returns-then-not-sees t c =
    let got = taken see_expr ((expr_at c.args.tokens c.args.depth) (state_of c.items.cursor) c.items.cursor.seen) c.expr.result _ _ c.expr.new.cursor c.expr.ensures c.in_ok-add.ensures in
    handed (λ _. see_exprs c.add.new.found) (closed_exprs_at c.args.tokens c.args.depth (state_of c.args.cursor.now) c.args.cursor.now.seen) ((closed_exprs c.args.tokens c.args.depth) (see_exprs c.add.new.found) (state_of c.sees.new.self) c.sees.new.self.seen) c.takes.result c.takes.new.self
    (went_on sx.more_exprs (closed_exprs c.args.tokens c.args.depth) (map see_expr c.items.found.items) (expr_at c.args.tokens c.args.depth) (λ (k : ℕ). more_exprs_at c.args.tokens c.args.depth k) c.items.left (closed_exprs_at c.args.tokens c.args.depth (state_of c.args.cursor.now) c.args.cursor.now.seen) (state_of c.items.cursor) c.items.cursor.seen c.items.invariant
    (see_expr got.0) (map see_expr c.add.new.found.items) (state_of c.expr.new.cursor) c.expr.new.cursor.seen got.1 (ap (map see_expr) got.2 ∙ map-append see_expr c.items.found.items _) c.if-left-eq0.false (Read sx.no_exprs (state_of c.sees.new.self) c.sees.new.self.seen)
    (saw (source c.args.tokens) is_comma _ _ (state_of c.expr.new.cursor) c.expr.new.cursor.seen c.sees.ensures.token c.if-not-sees.true c.sees.ensures.state c.sees.ensures.seen refl))
    (closed_by (see_exprs c.add.new.found) (takes (source c.args.tokens) is_rparen (state_of c.sees.new.self) c.sees.new.self.seen) c.takes.result c.takes.new.self c.takes.ensures)

pub read_query::add_exprs-returns-in_err-add : goal.read_query::add_exprs-returns-in_err-add
read_query::add_exprs-returns-in_err-add t c =
    halted_adding see_expr (λ _. see_exprs c.add.new.found) ((expr_at c.args.tokens c.args.depth) (state_of c.items.cursor) c.items.cursor.seen)
    (closed_exprs_at c.args.tokens c.args.depth (state_of c.args.cursor.now) c.args.cursor.now.seen) c.expr.result _ _ c.from_residual.result c.in_err-add.field-0.0 c.expr.new.cursor c.expr.new.cursor c.from_residual.ensures.1
    (λ k e. item_failed sx.more_exprs (closed_exprs c.args.tokens c.args.depth) (map see_expr c.items.found.items) (expr_at c.args.tokens c.args.depth) (λ (k : ℕ). more_exprs_at c.args.tokens c.args.depth k) c.items.left (closed_exprs_at c.args.tokens c.args.depth (state_of c.args.cursor.now) c.args.cursor.now.seen) (state_of c.items.cursor) c.items.cursor.seen c.items.invariant k e) c.expr.ensures c.in_err-add.ensures

pub read_query::add_exprs-returns-in_err-takes : goal.read_query::add_exprs-returns-in_err-takes
unfolding more_exprs_of
read_query::add_exprs-returns-in_err-takes t c =
    let got = taken see_expr ((expr_at c.args.tokens c.args.depth) (state_of c.items.cursor) c.items.cursor.seen) c.expr.result _ _ c.expr.new.cursor c.expr.ensures c.in_ok-add.ensures in
    halted_by (λ (x : One). x) (λ _. see_exprs c.add.new.found) (takes (source c.args.tokens) is_comma (state_of c.sees.new.self) c.sees.new.self.seen)
    (closed_exprs_at c.args.tokens c.args.depth (state_of c.args.cursor.now) c.args.cursor.now.seen) c.from_residual-in_err-takes.result c.in_err-takes.field-0.0 c.takes-in-items.new.self c.takes-in-items.new.self c.from_residual-in_err-takes.ensures.1
    (λ k e. went_on sx.more_exprs (closed_exprs c.args.tokens c.args.depth) (map see_expr c.items.found.items) (expr_at c.args.tokens c.args.depth) (λ (k : ℕ). more_exprs_at c.args.tokens c.args.depth k) c.items.left (closed_exprs_at c.args.tokens c.args.depth (state_of c.args.cursor.now) c.args.cursor.now.seen) (state_of c.items.cursor) c.items.cursor.seen c.items.invariant
    (see_expr got.0) (map see_expr c.add.new.found.items) (state_of c.expr.new.cursor) c.expr.new.cursor.seen got.1 (ap (map see_expr) got.2 ∙ map-append see_expr c.items.found.items _) c.if-left-eq0.false (Fail k)
    (saw (source c.args.tokens) is_comma _ _ (state_of c.expr.new.cursor) c.expr.new.cursor.seen c.sees.ensures.token c.if-not-sees.false c.sees.ensures.state c.sees.ensures.seen (then_fail _ e))) c.in_err-takes.ensures

pub read_condition::conds-returns : goal.read_condition::conds-returns
unfolding conds_of
read_condition::conds-returns t c =
    then_read _ c.in_ok-site.ensures (both (disjs_at c.args.tokens c.args.depth c.args.tokens.turns) sx.more_disjs (λ (xs : sx.Disjs). pure (sx.conds c.in_ok-site.site xs)) (alternatives_at c.args.tokens c.args.depth (state_of c.opens.new.self) c.opens.new.self.seen)) ∙ ap (λ o. and_then o (λ (xs : sx.Disjs). pure (sx.conds c.in_ok-site.site xs))) c.in_ok-add_disjs.ensures
    ∙ sym (ap (λ (q : sx.Conds). Read q (state_of c.add_disjs.new.cursor) c.add_disjs.new.cursor.seen) (conds-made c.in_ok-site.site c.add_disjs.new.found))

pub read_condition::conds-returns-in_err-add_disjs : goal.read_condition::conds-returns-in_err-add_disjs
unfolding conds_of
read_condition::conds-returns-in_err-add_disjs t c =
    halted (λ (x : One). see_disjs c.add_disjs.new.found) see_conds (some_disjs_at c.args.tokens c.args.depth (state_of c.opens.new.self) c.opens.new.self.seen)
    (λ (xs : sx.Disjs). pure (sx.conds c.in_ok-site.site xs)) (conds_at c.args.tokens c.args.depth (state_of c.args.cursor.now) c.args.cursor.now.seen) c.from_residual-in_err-add_disjs.result c.in_err-add_disjs.field-0.0 c.add_disjs.new.cursor c.add_disjs.new.cursor c.from_residual-in_err-add_disjs.ensures.1
    (then_read _ c.in_ok-site.ensures (both (disjs_at c.args.tokens c.args.depth c.args.tokens.turns) sx.more_disjs (λ (xs : sx.Disjs). pure (sx.conds c.in_ok-site.site xs)) (alternatives_at c.args.tokens c.args.depth (state_of c.opens.new.self) c.opens.new.self.seen))) c.in_err-add_disjs.ensures

pub read_condition::conds-returns-in_err-site : goal.read_condition::conds-returns-in_err-site
unfolding conds_of
read_condition::conds-returns-in_err-site t c =
    halted (λ (x : ℕ). x) see_conds (opens (source c.args.tokens) site_of (state_of c.args.cursor.now) c.args.cursor.now.seen)
    _ (conds_at c.args.tokens c.args.depth (state_of c.args.cursor.now) c.args.cursor.now.seen) c.from_residual.result c.in_err-site.field-0.0 c.opens.new.self c.opens.new.self c.from_residual.ensures.1
    (refl) c.in_err-site.ensures

pub read_condition::alternatives-returns : goal.read_condition::alternatives-returns
unfolding disj_of
read_condition::alternatives-returns t c =
    then_read _ c.in_ok-site.ensures (both (more_alternatives_at c.args.tokens c.args.depth c.args.tokens.turns) sx.more_parts (λ (xs : sx.Parts). pure (sx.disj c.in_ok-site.site xs)) (cond_part_at c.args.tokens c.args.depth (state_of c.opens.new.self) c.opens.new.self.seen)) ∙ ap (λ o. and_then o (λ (xs : sx.Parts). pure (sx.disj c.in_ok-site.site xs))) c.in_ok-add_conditions.ensures
    ∙ sym (ap (λ (q : sx.Disj). Read q (state_of c.add_conditions.new.cursor) c.add_conditions.new.cursor.seen) (disj-made c.in_ok-site.site c.add_conditions.new.found))

pub read_condition::alternatives-returns-in_err-add_conditions : goal.read_condition::alternatives-returns-in_err-add_conditions
unfolding disj_of
read_condition::alternatives-returns-in_err-add_conditions t c =
    halted (λ (x : One). see_parts c.add_conditions.new.found) see_disj (some_conditions_at c.args.tokens c.args.depth (state_of c.opens.new.self) c.opens.new.self.seen)
    (λ (xs : sx.Parts). pure (sx.disj c.in_ok-site.site xs)) (alternatives_at c.args.tokens c.args.depth (state_of c.args.cursor.now) c.args.cursor.now.seen) c.from_residual-in_err-add_conditions.result c.in_err-add_conditions.field-0.0 c.add_conditions.new.cursor c.add_conditions.new.cursor c.from_residual-in_err-add_conditions.ensures.1
    (then_read _ c.in_ok-site.ensures (both (more_alternatives_at c.args.tokens c.args.depth c.args.tokens.turns) sx.more_parts (λ (xs : sx.Parts). pure (sx.disj c.in_ok-site.site xs)) (cond_part_at c.args.tokens c.args.depth (state_of c.opens.new.self) c.opens.new.self.seen))) c.in_err-add_conditions.ensures

pub read_condition::alternatives-returns-in_err-site : goal.read_condition::alternatives-returns-in_err-site
unfolding disj_of
read_condition::alternatives-returns-in_err-site t c =
    halted (λ (x : ℕ). x) see_disj (opens (source c.args.tokens) site_of (state_of c.args.cursor.now) c.args.cursor.now.seen)
    _ (alternatives_at c.args.tokens c.args.depth (state_of c.args.cursor.now) c.args.cursor.now.seen) c.from_residual.result c.in_err-site.field-0.0 c.opens.new.self c.opens.new.self c.from_residual.ensures.1
    (refl) c.in_err-site.ensures

pub read_query::query-returns : goal.read_query::query-returns
unfolding query_of
read_query::query-returns t c =
    then_read _ c.in_ok-site.ensures (both (steps_at c.args.tokens c.args.depth c.args.tokens.turns) sx.more_steps (λ (xs : sx.Steps). pure (sx.query c.in_ok-site.site xs)) (start_step (source c.args.tokens) c.args.tokens.turns (inner c.args.tokens c.args.depth) (state_of c.opens.new.self) c.opens.new.self.seen)) ∙ ap (λ o. and_then o (λ (xs : sx.Steps). pure (sx.query c.in_ok-site.site xs))) c.in_ok-add_steps.ensures
    ∙ sym (ap (λ (q : sx.Query). Read q (state_of c.add_steps.new.cursor) c.add_steps.new.cursor.seen) (query-made c.in_ok-site.site c.add_steps.new.found))

pub read_query::query-returns-in_err-add_steps : goal.read_query::query-returns-in_err-add_steps
unfolding query_of
read_query::query-returns-in_err-add_steps t c =
    halted (λ (x : One). see_steps c.add_steps.new.found) see_query (some_steps_at c.args.tokens c.args.depth (state_of c.opens.new.self) c.opens.new.self.seen)
    (λ (xs : sx.Steps). pure (sx.query c.in_ok-site.site xs)) (query_at c.args.tokens c.args.depth (state_of c.args.cursor.now) c.args.cursor.now.seen) c.from_residual-in_err-add_steps.result c.in_err-add_steps.field-0.0 c.add_steps.new.cursor c.add_steps.new.cursor c.from_residual-in_err-add_steps.ensures.1
    (then_read _ c.in_ok-site.ensures (both (steps_at c.args.tokens c.args.depth c.args.tokens.turns) sx.more_steps (λ (xs : sx.Steps). pure (sx.query c.in_ok-site.site xs)) (start_step (source c.args.tokens) c.args.tokens.turns (inner c.args.tokens c.args.depth) (state_of c.opens.new.self) c.opens.new.self.seen))) c.in_err-add_steps.ensures

pub read_query::query-returns-in_err-site : goal.read_query::query-returns-in_err-site
unfolding query_of
read_query::query-returns-in_err-site t c =
    halted (λ (x : ℕ). x) see_query (opens (source c.args.tokens) site_of (state_of c.args.cursor.now) c.args.cursor.now.seen)
    _ (query_at c.args.tokens c.args.depth (state_of c.args.cursor.now) c.args.cursor.now.seen) c.from_residual.result c.in_err-site.field-0.0 c.opens.new.self c.opens.new.self c.from_residual.ensures.1
    (refl) c.in_err-site.ensures

pub read_condition::condition-returns-in_err-any : goal.read_condition::condition-returns-in_err-any
unfolding cond_part
read_condition::condition-returns-in_err-any t c =
    halted (λ (x : Lead). x) see_part (lead_of (source c.args.tokens) (leads false) (state_of c.opens.new.self) c.opens.new.self.seen)
    (led_by (source c.args.tokens) c.args.tokens.turns (inner c.args.tokens c.args.depth) false c.in_ok-site.site) (cond_part_at c.args.tokens c.args.depth (state_of c.args.cursor.now) c.args.cursor.now.seen) c.from_residual-in_err-any.result c.in_err-any.field-0.0 c.lead_of.new.cursor c.lead_of.new.cursor c.from_residual-in_err-any.ensures.1
    (then_read _ c.in_ok-site.ensures (condition_led (source c.args.tokens) c.args.tokens.turns (inner c.args.tokens c.args.depth) false c.in_ok-site.site (state_of c.opens.new.self) c.opens.new.self.seen)) c.in_err-any.ensures

pub read_condition::condition-returns-in_err-query-in-Query : goal.read_condition::condition-returns-in_err-query-in-Query
unfolding cond_part headed judged
read_condition::condition-returns-in_err-query-in-Query t c =
    halted see_query see_part (query_at c.args.tokens c.args.depth (state_of c.lead_of.new.cursor) c.lead_of.new.cursor.seen)
    _ (cond_part_at c.args.tokens c.args.depth (state_of c.args.cursor.now) c.args.cursor.now.seen) c.from_residual-in_err-query-in-Query.result c.in_err-query-in-Query.field-0.0 c.query.new.cursor c.query.new.cursor c.from_residual-in_err-query-in-Query.ensures.1
    ((then_read _ c.in_ok-site.ensures (condition_led (source c.args.tokens) c.args.tokens.turns (inner c.args.tokens c.args.depth) false c.in_ok-site.site (state_of c.opens.new.self) c.opens.new.self.seen) ∙ ap (λ o. and_then o (led_by (source c.args.tokens) c.args.tokens.turns (inner c.args.tokens c.args.depth) false c.in_ok-site.site)) c.in_ok-any.ensures ∙ ap (λ (l : Lead). (led_by (source c.args.tokens) c.args.tokens.turns (inner c.args.tokens c.args.depth) false c.in_ok-site.site) l (state_of c.lead_of.new.cursor) c.lead_of.new.cursor.seen) c.in-Query.is) ∙ refl) c.in_err-query-in-Query.ensures

pub read_condition::condition-returns-in_ok-query-in-Query : goal.read_condition::condition-returns-in_ok-query-in-Query
unfolding cond_part headed judged
read_condition::condition-returns-in_ok-query-in-Query t c =
    handed see_part (cond_part_at c.args.tokens c.args.depth (state_of c.args.cursor.now) c.args.cursor.now.seen) (tested_at c.args.tokens c.args.depth c.in_ok-site.site c.in-Query.any (see_query c.in_ok-query-in-Query.query) (state_of c.query.new.cursor) c.query.new.cursor.seen) c.tested.result c.tested.new.cursor
    ((then_read _ c.in_ok-site.ensures (condition_led (source c.args.tokens) c.args.tokens.turns (inner c.args.tokens c.args.depth) false c.in_ok-site.site (state_of c.opens.new.self) c.opens.new.self.seen) ∙ ap (λ o. and_then o (led_by (source c.args.tokens) c.args.tokens.turns (inner c.args.tokens c.args.depth) false c.in_ok-site.site)) c.in_ok-any.ensures ∙ ap (λ (l : Lead). (led_by (source c.args.tokens) c.args.tokens.turns (inner c.args.tokens c.args.depth) false c.in_ok-site.site) l (state_of c.lead_of.new.cursor) c.lead_of.new.cursor.seen) c.in-Query.is) ∙ then_read _ c.in_ok-query-in-Query.ensures refl) c.tested.ensures

pub read_condition::condition-returns-in_err-name-in-Rule : goal.read_condition::condition-returns-in_err-name-in-Rule
unfolding cond_part ruled
read_condition::condition-returns-in_err-name-in-Rule t c =
    halted (λ (x : List ℕ). x) see_part (has (source c.args.tokens) is_name text_of (state_of c.lead_of.new.cursor) c.lead_of.new.cursor.seen)
    _ (cond_part_at c.args.tokens c.args.depth (state_of c.args.cursor.now) c.args.cursor.now.seen) c.from_residual-in_err-name-in-Rule.result c.in_err-name-in-Rule.field-0.0 c.has_text.new.self c.has_text.new.self c.from_residual-in_err-name-in-Rule.ensures.1
    (then_read _ c.in_ok-site.ensures (condition_led (source c.args.tokens) c.args.tokens.turns (inner c.args.tokens c.args.depth) false c.in_ok-site.site (state_of c.opens.new.self) c.opens.new.self.seen) ∙ ap (λ o. and_then o (led_by (source c.args.tokens) c.args.tokens.turns (inner c.args.tokens c.args.depth) false c.in_ok-site.site)) c.in_ok-any.ensures ∙ ap (λ (l : Lead). (led_by (source c.args.tokens) c.args.tokens.turns (inner c.args.tokens c.args.depth) false c.in_ok-site.site) l (state_of c.lead_of.new.cursor) c.lead_of.new.cursor.seen) c.in-Rule.is ∙ refl) c.in_err-name-in-Rule.ensures

pub read_condition::condition-returns-in_ok-name-in-Rule : goal.read_condition::condition-returns-in_ok-name-in-Rule
unfolding cond_part ruled
read_condition::condition-returns-in_ok-name-in-Rule t c =
    handed see_part (cond_part_at c.args.tokens c.args.depth (state_of c.args.cursor.now) c.args.cursor.now.seen) (named_at c.args.tokens c.args.depth c.in_ok-site.site c.in-Rule.not c.in_ok-name-in-Rule.name (state_of c.has_text.new.self) c.has_text.new.self.seen) c.ruled.result c.ruled.new.cursor
    (then_read _ c.in_ok-site.ensures (condition_led (source c.args.tokens) c.args.tokens.turns (inner c.args.tokens c.args.depth) false c.in_ok-site.site (state_of c.opens.new.self) c.opens.new.self.seen) ∙ ap (λ o. and_then o (led_by (source c.args.tokens) c.args.tokens.turns (inner c.args.tokens c.args.depth) false c.in_ok-site.site)) c.in_ok-any.ensures ∙ ap (λ (l : Lead). (led_by (source c.args.tokens) c.args.tokens.turns (inner c.args.tokens c.args.depth) false c.in_ok-site.site) l (state_of c.lead_of.new.cursor) c.lead_of.new.cursor.seen) c.in-Rule.is ∙ then_read _ c.in_ok-name-in-Rule.ensures refl) c.ruled.ensures

pub read_condition::tested-returns : goal.read_condition::tested-returns
unfolding tested
read_condition::tested-returns t c =
    seen_as (then_read _ c.in_ok-op.ensures (then_read _ c.in_ok-right.ensures (then_read _ c.in_ok-note.ensures refl)))
    (test-made c.args.head.site c.args.head.any c.args.head.query c.in_ok-op.op c.in_ok-op.not c.in_ok-right.right c.in_ok-note.note)

pub read_condition::right-returns-then-not-is_binary : goal.read_condition::right-returns-then-not-is_binary
unfolding right
read_condition::right-returns-then-not-is_binary t c =
    tested_by (is_binary c.args.op) (expr_at c.args.tokens c.args.depth >>= (λ e. pure (sx.with_expr e))) (pure sx.no_expr) (state_of c.args.cursor.now) c.args.cursor.now.seen c.is_binary.ensures c.if-not-is_binary.true refl

pub read_condition::right-returns : goal.read_condition::right-returns
unfolding right
read_condition::right-returns t c =
    tested_by (is_binary c.args.op) (expr_at c.args.tokens c.args.depth >>= (λ e. pure (sx.with_expr e))) (pure sx.no_expr) (state_of c.args.cursor.now) c.args.cursor.now.seen c.is_binary.ensures c.if-not-is_binary.false
    (then_read _ c.in_ok-found.ensures refl)

pub read_condition::ruled-returns-then-sees : goal.read_condition::ruled-returns-then-sees
unfolding called
read_condition::ruled-returns-then-sees t c =
    seen_as (saw (source c.args.tokens) is_lparen _ _ (state_of c.args.cursor.now) c.args.cursor.now.seen c.sees.ensures.token c.if-sees.true c.sees.ensures.state c.sees.ensures.seen (then_enclosed (inner c.args.tokens c.args.depth).exprs (takes (source c.args.tokens) is_rparen) (λ (es : sx.Exprs). spec.note (source c.args.tokens) >>= (λ m. pure (sx.call c.args.head.site c.args.head.not c.args.head.name es m))) (takes (source c.args.tokens) is_lparen (state_of c.sees.new.self) c.sees.new.self.seen) ∙ then_read _ c.in_ok-args.ensures (then_read _ c.in_ok-note.ensures refl)))
    (call-made c.args.head.site c.args.head.not c.args.head.name c.in_ok-args.args c.in_ok-note.note)

pub read_condition::ruled-returns-in_err-args : goal.read_condition::ruled-returns-in_err-args
unfolding called
read_condition::ruled-returns-in_err-args t c =
    halted see_exprs see_part (arguments_at c.args.tokens c.args.depth (state_of c.sees.new.self) c.sees.new.self.seen)
    (λ (es : sx.Exprs). spec.note (source c.args.tokens) >>= (λ m. pure (sx.call c.args.head.site c.args.head.not c.args.head.name es m))) (named_at c.args.tokens c.args.depth c.args.head.site c.args.head.not c.args.head.name (state_of c.args.cursor.now) c.args.cursor.now.seen) c.from_residual.result c.in_err-args.field-0.0 c.exprs.new.cursor c.exprs.new.cursor c.from_residual.ensures.1
    (saw (source c.args.tokens) is_lparen _ _ (state_of c.args.cursor.now) c.args.cursor.now.seen c.sees.ensures.token c.if-sees.true c.sees.ensures.state c.sees.ensures.seen (then_enclosed (inner c.args.tokens c.args.depth).exprs (takes (source c.args.tokens) is_rparen) (λ (es : sx.Exprs). spec.note (source c.args.tokens) >>= (λ m. pure (sx.call c.args.head.site c.args.head.not c.args.head.name es m))) (takes (source c.args.tokens) is_lparen (state_of c.sees.new.self) c.sees.new.self.seen))) c.in_err-args.ensures

pub read_condition::ruled-returns-in_err-note : goal.read_condition::ruled-returns-in_err-note
unfolding called
read_condition::ruled-returns-in_err-note t c =
    halted (λ x. x) see_part (spec.note (source c.args.tokens) (state_of c.exprs.new.cursor) c.exprs.new.cursor.seen)
    _ (named_at c.args.tokens c.args.depth c.args.head.site c.args.head.not c.args.head.name (state_of c.args.cursor.now) c.args.cursor.now.seen) c.from_residual-in_err-note.result c.in_err-note.field-0.0 c.note.new.cursor c.note.new.cursor c.from_residual-in_err-note.ensures.1
    (saw (source c.args.tokens) is_lparen _ _ (state_of c.args.cursor.now) c.args.cursor.now.seen c.sees.ensures.token c.if-sees.true c.sees.ensures.state c.sees.ensures.seen (then_enclosed (inner c.args.tokens c.args.depth).exprs (takes (source c.args.tokens) is_rparen) (λ (es : sx.Exprs). spec.note (source c.args.tokens) >>= (λ m. pure (sx.call c.args.head.site c.args.head.not c.args.head.name es m))) (takes (source c.args.tokens) is_lparen (state_of c.sees.new.self) c.sees.new.self.seen) ∙ then_read _ c.in_ok-args.ensures refl)) c.in_err-note.ensures

pub read_condition::ruled-returns : goal.read_condition::ruled-returns
unfolding referred
read_condition::ruled-returns t c =
    seen_as (saw (source c.args.tokens) is_lparen _ _ (state_of c.args.cursor.now) c.args.cursor.now.seen c.sees.ensures.token c.if-sees.false c.sees.ensures.state c.sees.ensures.seen (then_read _ c.in_ok-note-2.ensures refl))
    (refer-made c.args.head.site c.args.head.not c.args.head.name c.in_ok-note-2.note)

pub read_query::applied-returns : goal.read_query::applied-returns
unfolding applied
read_query::applied-returns t c =
    then_read _ c.in_ok-site.ensures (then_read _ c.in_ok-name.ensures (then_enclosed (inner c.args.tokens c.args.depth).exprs (takes (source c.args.tokens) is_rparen) (λ (es : sx.Exprs). pure (sx.function c.in_ok-site.site c.in_ok-name.name es)) (takes (source c.args.tokens) is_lparen (state_of c.has_text.new.self) c.has_text.new.self.seen))) ∙ then_read _ c.in_ok-args.ensures refl
    ∙ sym (ap (λ (q : sx.Expr). Read q (state_of c.exprs.new.cursor) c.exprs.new.cursor.seen) (function-made c.in_ok-site.site c.in_ok-name.name c.in_ok-args.args))

pub read_query::applied-returns-in_err-args : goal.read_query::applied-returns-in_err-args
unfolding applied
read_query::applied-returns-in_err-args t c =
    halted see_exprs see_expr (arguments_at c.args.tokens c.args.depth (state_of c.has_text.new.self) c.has_text.new.self.seen)
    (λ (es : sx.Exprs). pure (sx.function c.in_ok-site.site c.in_ok-name.name es)) (applied_at c.args.tokens c.args.depth (state_of c.args.cursor.now) c.args.cursor.now.seen) c.from_residual-in_err-args.result c.in_err-args.field-0.0 c.exprs.new.cursor c.exprs.new.cursor c.from_residual-in_err-args.ensures.1
    (then_read _ c.in_ok-site.ensures (then_read _ c.in_ok-name.ensures (then_enclosed (inner c.args.tokens c.args.depth).exprs (takes (source c.args.tokens) is_rparen) (λ (es : sx.Exprs). pure (sx.function c.in_ok-site.site c.in_ok-name.name es)) (takes (source c.args.tokens) is_lparen (state_of c.has_text.new.self) c.has_text.new.self.seen)))) c.in_err-args.ensures

pub read_query::exprs-returns-then-depth-eq0 : goal.read_query::exprs-returns-then-depth-eq0
read_query::exprs-returns-then-depth-eq0 t c =
    then_read _ c.in_ok-takes.ensures (ap (λ (n : ℕ). and_then ((inner c.args.tokens n).exprs (state_of c.takes.new.self) c.takes.new.self.seen) (closed_exprs c.args.tokens c.args.depth)) c.if-depth-eq0.true)

pub read_query::exprs-returns : goal.read_query::exprs-returns
unfolding exprs_of
read_query::exprs-returns t c =
    then_read _ c.in_ok-takes.ensures (ap (λ (n : ℕ). and_then ((inner c.args.tokens n).exprs (state_of c.takes.new.self) c.takes.new.self.seen) (closed_exprs c.args.tokens c.args.depth)) (deeper c.args.depth c.if-depth-eq0.false)) ∙ sym (both (more_exprs_at c.args.tokens (c.args.depth - 1) c.args.tokens.turns) sx.more_exprs (closed_exprs c.args.tokens (c.args.depth - 1)) (expr_at c.args.tokens (c.args.depth - 1) (state_of c.takes.new.self) c.takes.new.self.seen)) ∙ c.in_ok-add_exprs.ensures

pub read_query::exprs-returns-in_err-add_exprs : goal.read_query::exprs-returns-in_err-add_exprs
unfolding exprs_of
read_query::exprs-returns-in_err-add_exprs t c =
    halted_by (λ (x : One). see_exprs c.add_exprs.new.found) see_exprs (closed_exprs_at c.args.tokens (c.args.depth - 1) (state_of c.takes.new.self) c.takes.new.self.seen)
    (arguments_at c.args.tokens c.args.depth (state_of c.args.cursor.now) c.args.cursor.now.seen) c.from_residual-in_err-add_exprs.result c.in_err-add_exprs.field-0.0 c.add_exprs.new.cursor c.add_exprs.new.cursor c.from_residual-in_err-add_exprs.ensures.1
    (λ k e. then_read _ c.in_ok-takes.ensures (ap (λ (n : ℕ). and_then ((inner c.args.tokens n).exprs (state_of c.takes.new.self) c.takes.new.self.seen) (closed_exprs c.args.tokens c.args.depth)) (deeper c.args.depth c.if-depth-eq0.false)) ∙ sym (both (more_exprs_at c.args.tokens (c.args.depth - 1) c.args.tokens.turns) sx.more_exprs (closed_exprs c.args.tokens (c.args.depth - 1)) (expr_at c.args.tokens (c.args.depth - 1) (state_of c.takes.new.self) c.takes.new.self.seen)) ∙ e) c.in_err-add_exprs.ensures

pub read_query::filter-returns-then-depth-eq0 : goal.read_query::filter-returns-then-depth-eq0
read_query::filter-returns-then-depth-eq0 t c =
    ap (λ (n : ℕ). and_then ((inner c.args.tokens n).conds (state_of c.args.cursor.now) c.args.cursor.now.seen) (λ x. takes (source c.args.tokens) is_rbracket >> pure x)) c.if-depth-eq0.true

pub read_query::filter-returns : goal.read_query::filter-returns
read_query::filter-returns t c =
    ap (λ (n : ℕ). and_then ((inner c.args.tokens n).conds (state_of c.args.cursor.now) c.args.cursor.now.seen) (λ x. takes (source c.args.tokens) is_rbracket >> pure x)) (deeper c.args.depth c.if-depth-eq0.false) ∙ then_read _ c.in_ok-conds.ensures (then_read _ c.in_ok-takes.ensures refl)

pub read_query::filter-returns-in_err-conds : goal.read_query::filter-returns-in_err-conds
read_query::filter-returns-in_err-conds t c =
    halted see_conds see_conds (conds_at c.args.tokens (c.args.depth - 1) (state_of c.args.cursor.now) c.args.cursor.now.seen)
    _ (filter_at c.args.tokens c.args.depth (state_of c.args.cursor.now) c.args.cursor.now.seen) c.from_residual.result c.in_err-conds.field-0.0 c.conds.new.cursor c.conds.new.cursor c.from_residual.ensures.1
    (ap (λ (n : ℕ). and_then ((inner c.args.tokens n).conds (state_of c.args.cursor.now) c.args.cursor.now.seen) (λ x. takes (source c.args.tokens) is_rbracket >> pure x)) (deeper c.args.depth c.if-depth-eq0.false)) c.in_err-conds.ensures

pub read_query::filter-returns-in_err-takes : goal.read_query::filter-returns-in_err-takes
read_query::filter-returns-in_err-takes t c =
    halted (λ (x : One). x) see_conds (takes (source c.args.tokens) is_rbracket (state_of c.conds.new.cursor) c.conds.new.cursor.seen)
    _ (filter_at c.args.tokens c.args.depth (state_of c.args.cursor.now) c.args.cursor.now.seen) c.from_residual-in_err-takes.result c.in_err-takes.field-0.0 c.takes.new.self c.takes.new.self c.from_residual-in_err-takes.ensures.1
    (ap (λ (n : ℕ). and_then ((inner c.args.tokens n).conds (state_of c.args.cursor.now) c.args.cursor.now.seen) (λ x. takes (source c.args.tokens) is_rbracket >> pure x)) (deeper c.args.depth c.if-depth-eq0.false) ∙ then_read _ c.in_ok-conds.ensures refl) c.in_err-takes.ensures

pub read_query::key_test-returns-then-depth-eq0 : goal.read_query::key_test-returns-then-depth-eq0
read_query::key_test-returns-then-depth-eq0 t c =
    then_read _ c.in_ok-takes.ensures (then_read _ c.in_ok-operator.ensures (ap (λ (n : ℕ). and_then ((inner c.args.tokens n).expr (state_of c.keys_operator.new.cursor) c.keys_operator.new.cursor.seen) (λ e. takes (source c.args.tokens) is_rbracket >> pure (c.in_ok-operator.operator, e))) c.if-depth-eq0.true))

pub read_query::key_test-returns : goal.read_query::key_test-returns
read_query::key_test-returns t c =
    then_read _ c.in_ok-takes.ensures (then_read _ c.in_ok-operator.ensures (ap (λ (n : ℕ). and_then ((inner c.args.tokens n).expr (state_of c.keys_operator.new.cursor) c.keys_operator.new.cursor.seen) (λ e. takes (source c.args.tokens) is_rbracket >> pure (c.in_ok-operator.operator, e))) (deeper c.args.depth c.if-depth-eq0.false))) ∙ then_read _ c.in_ok-right.ensures (then_read _ c.in_ok-takes-2.ensures refl)

pub read_query::key_test-returns-in_err-right : goal.read_query::key_test-returns-in_err-right
read_query::key_test-returns-in_err-right t c =
    halted see_expr see_key_test (expr_at c.args.tokens (c.args.depth - 1) (state_of c.keys_operator.new.cursor) c.keys_operator.new.cursor.seen)
    _ (key_test_at c.args.tokens c.args.depth (state_of c.args.cursor.now) c.args.cursor.now.seen) c.from_residual-in_err-right.result c.in_err-right.field-0.0 c.expr.new.cursor c.expr.new.cursor c.from_residual-in_err-right.ensures.1
    (then_read _ c.in_ok-takes.ensures (then_read _ c.in_ok-operator.ensures (ap (λ (n : ℕ). and_then ((inner c.args.tokens n).expr (state_of c.keys_operator.new.cursor) c.keys_operator.new.cursor.seen) (λ e. takes (source c.args.tokens) is_rbracket >> pure (c.in_ok-operator.operator, e))) (deeper c.args.depth c.if-depth-eq0.false)))) c.in_err-right.ensures

pub read_query::key_test-returns-in_err-takes-2 : goal.read_query::key_test-returns-in_err-takes-2
read_query::key_test-returns-in_err-takes-2 t c =
    halted (λ (x : One). x) see_key_test (takes (source c.args.tokens) is_rbracket (state_of c.expr.new.cursor) c.expr.new.cursor.seen)
    _ (key_test_at c.args.tokens c.args.depth (state_of c.args.cursor.now) c.args.cursor.now.seen) c.from_residual-in_err-takes-2.result c.in_err-takes-2.field-0.0 c.takes-2.new.self c.takes-2.new.self c.from_residual-in_err-takes-2.ensures.1
    (then_read _ c.in_ok-takes.ensures (then_read _ c.in_ok-operator.ensures (ap (λ (n : ℕ). and_then ((inner c.args.tokens n).expr (state_of c.keys_operator.new.cursor) c.keys_operator.new.cursor.seen) (λ e. takes (source c.args.tokens) is_rbracket >> pure (c.in_ok-operator.operator, e))) (deeper c.args.depth c.if-depth-eq0.false))) ∙ then_read _ c.in_ok-right.ensures refl) c.in_err-takes-2.ensures

pub read_query::expr-returns-in-Literal : goal.read_query::expr-returns-in-Literal
read_query::expr-returns-in-Literal t c =
    handed see_expr (expr_at c.args.tokens c.args.depth (state_of c.args.cursor.now) c.args.cursor.now.seen) (tree_expr_at c.args.tokens c.args.depth (state_of c.expr_form.new.cursor) c.expr_form.new.cursor.seen) c.tree_expr.result c.tree_expr.new.cursor
    (expr_formed (source c.args.tokens) c.args.tokens.turns (inner c.args.tokens c.args.depth) (state_of c.args.cursor.now) c.args.cursor.now.seen ∙ then_read (expr_by (source c.args.tokens) c.args.tokens.turns (inner c.args.tokens c.args.depth)) c.expr_form.ensures (ap (λ (k : ExprForm). (expr_by (source c.args.tokens) c.args.tokens.turns (inner c.args.tokens c.args.depth)) k (state_of c.expr_form.new.cursor) c.expr_form.new.cursor.seen) c.in-Literal.is)) c.tree_expr.ensures

pub read_query::expr-returns-then-depth-eq0 : goal.read_query::expr-returns-then-depth-eq0
read_query::expr-returns-then-depth-eq0 t c =
    let s = source c.args.tokens in let turns = c.args.tokens.turns in let inner_at = inner c.args.tokens c.args.depth in
    expr_formed s turns inner_at (state_of c.args.cursor.now) c.args.cursor.now.seen ∙ then_read (expr_by s turns inner_at) c.expr_form.ensures (ap (λ (k : ExprForm). (expr_by s turns inner_at) k (state_of c.expr_form.new.cursor) c.expr_form.new.cursor.seen) c.in-Word.is
    ∙ full_stops s turns inner_at (applied_at c.args.tokens c.args.depth) (state_of c.expr_form.new.cursor) c.expr_form.new.cursor.seen (no_room s turns site_of c.args.depth c.if-depth-eq0.true))

pub read_query::expr-returns-else-depth-eq0 : goal.read_query::expr-returns-else-depth-eq0
read_query::expr-returns-else-depth-eq0 t c =
    let s = source c.args.tokens in let turns = c.args.tokens.turns in let inner_at = inner c.args.tokens c.args.depth in
    handed see_expr (expr_at c.args.tokens c.args.depth (state_of c.args.cursor.now) c.args.cursor.now.seen) (applied_at c.args.tokens c.args.depth (state_of c.expr_form.new.cursor) c.expr_form.new.cursor.seen) c.applied.result c.applied.new.cursor
    (expr_formed s turns inner_at (state_of c.args.cursor.now) c.args.cursor.now.seen ∙ then_read (expr_by s turns inner_at) c.expr_form.ensures (ap (λ (k : ExprForm). (expr_by s turns inner_at) k (state_of c.expr_form.new.cursor) c.expr_form.new.cursor.seen) c.in-Word.is
    ∙ roomy_reads s turns inner_at (applied_at c.args.tokens c.args.depth) (state_of c.expr_form.new.cursor) c.expr_form.new.cursor.seen (room_left s turns site_of c.args.depth c.if-depth-eq0.false))) c.applied.ensures

pub read_query::expr-returns-in-Function : goal.read_query::expr-returns-in-Function
read_query::expr-returns-in-Function t c =
    handed see_expr (expr_at c.args.tokens c.args.depth (state_of c.args.cursor.now) c.args.cursor.now.seen) (applied_at c.args.tokens c.args.depth (state_of c.expr_form.new.cursor) c.expr_form.new.cursor.seen) c.applied-in-Function.result c.applied-in-Function.new.cursor
    (expr_formed (source c.args.tokens) c.args.tokens.turns (inner c.args.tokens c.args.depth) (state_of c.args.cursor.now) c.args.cursor.now.seen ∙ then_read (expr_by (source c.args.tokens) c.args.tokens.turns (inner c.args.tokens c.args.depth)) c.expr_form.ensures (ap (λ (k : ExprForm). (expr_by (source c.args.tokens) c.args.tokens.turns (inner c.args.tokens c.args.depth)) k (state_of c.expr_form.new.cursor) c.expr_form.new.cursor.seen) c.in-Function.is)) c.applied-in-Function.ensures

pub read_query::expr-returns-in_err-query-in-Query : goal.read_query::expr-returns-in_err-query-in-Query
unfolding asked_expr
read_query::expr-returns-in_err-query-in-Query t c =
    halted see_query see_expr (query_at c.args.tokens c.args.depth (state_of c.expr_form.new.cursor) c.expr_form.new.cursor.seen)
    _ (expr_at c.args.tokens c.args.depth (state_of c.args.cursor.now) c.args.cursor.now.seen) c.from_residual.result c.in_err-query-in-Query.field-0.0 c.query.new.cursor c.query.new.cursor c.from_residual.ensures.1
    (expr_formed (source c.args.tokens) c.args.tokens.turns (inner c.args.tokens c.args.depth) (state_of c.args.cursor.now) c.args.cursor.now.seen ∙ then_read (expr_by (source c.args.tokens) c.args.tokens.turns (inner c.args.tokens c.args.depth)) c.expr_form.ensures (ap (λ (k : ExprForm). (expr_by (source c.args.tokens) c.args.tokens.turns (inner c.args.tokens c.args.depth)) k (state_of c.expr_form.new.cursor) c.expr_form.new.cursor.seen) c.in-Query.is) ∙ refl) c.in_err-query-in-Query.ensures

pub read_query::expr-returns-in_ok-query-in-Query : goal.read_query::expr-returns-in_ok-query-in-Query
unfolding asked_expr
read_query::expr-returns-in_ok-query-in-Query t c =
    expr_formed (source c.args.tokens) c.args.tokens.turns (inner c.args.tokens c.args.depth) (state_of c.args.cursor.now) c.args.cursor.now.seen ∙ then_read (expr_by (source c.args.tokens) c.args.tokens.turns (inner c.args.tokens c.args.depth)) c.expr_form.ensures (ap (λ (k : ExprForm). (expr_by (source c.args.tokens) c.args.tokens.turns (inner c.args.tokens c.args.depth)) k (state_of c.expr_form.new.cursor) c.expr_form.new.cursor.seen) c.in-Query.is) ∙ then_read _ c.in_ok-query-in-Query.ensures refl ∙ sym (ap (λ (q : sx.Expr). Read q (state_of c.query.new.cursor) c.query.new.cursor.seen) (asked-made c.in_ok-query-in-Query.field-0))

pub read_query::step-returns-then-sees : goal.read_query::step-returns-then-sees
unfolding step dotted bracketed keyed filtered
read_query::step-returns-then-sees t c =
    handed see_step (step_at c.args.tokens c.args.depth (state_of c.args.cursor.now) c.args.cursor.now.seen) (dotted_at c.args.tokens c.in_ok-site.site (state_of c.sees.new.self) c.sees.new.self.seen) c.dotted.result c.dotted.new.cursor
    (then_read _ c.in_ok-site.ensures (saw (source c.args.tokens) is_dot _ _ (state_of c.opens.new.self) c.opens.new.self.seen c.sees.ensures.token c.if-sees.true c.sees.ensures.state c.sees.ensures.seen refl)) c.dotted.ensures

pub read_query::step-returns-then-sees-2 : goal.read_query::step-returns-then-sees-2
unfolding step dotted bracketed keyed filtered
read_query::step-returns-then-sees-2 t c =
    handed see_step (step_at c.args.tokens c.args.depth (state_of c.args.cursor.now) c.args.cursor.now.seen) (items_at c.args.tokens c.in_ok-site.site (state_of c.sees-2.new.self) c.sees-2.new.self.seen) c.all_items.result c.all_items.new.cursor
    (then_read _ c.in_ok-site.ensures (saw (source c.args.tokens) is_dot _ _ (state_of c.opens.new.self) c.opens.new.self.seen c.sees.ensures.token c.if-sees.false c.sees.ensures.state c.sees.ensures.seen (then_read _ c.in_ok-takes.ensures (saw (source c.args.tokens) is_star _ _ (state_of c.takes.new.self) c.takes.new.self.seen c.sees-2.ensures.token c.if-sees-2.true c.sees-2.ensures.state c.sees-2.ensures.seen refl)))) c.all_items.ensures

pub read_query::step-returns-then-sees-3 : goal.read_query::step-returns-then-sees-3
unfolding step dotted bracketed keyed filtered
read_query::step-returns-then-sees-3 t c =
    handed see_step (step_at c.args.tokens c.args.depth (state_of c.args.cursor.now) c.args.cursor.now.seen) (closed_index_at c.args.tokens c.in_ok-site.site (state_of c.sees-3.new.self) c.sees-3.new.self.seen) c.numbered_item.result c.numbered_item.new.cursor
    (then_read _ c.in_ok-site.ensures (saw (source c.args.tokens) is_dot _ _ (state_of c.opens.new.self) c.opens.new.self.seen c.sees.ensures.token c.if-sees.false c.sees.ensures.state c.sees.ensures.seen (then_read _ c.in_ok-takes.ensures (saw (source c.args.tokens) is_star _ _ (state_of c.takes.new.self) c.takes.new.self.seen c.sees-2.ensures.token c.if-sees-2.false c.sees-2.ensures.state c.sees-2.ensures.seen (saw (source c.args.tokens) is_index _ _ (state_of c.sees-2.new.self) c.sees-2.new.self.seen c.sees-3.ensures.token c.if-sees-3.true c.sees-3.ensures.state c.sees-3.ensures.seen refl))))) c.numbered_item.ensures

pub read_query::step-returns-in_err-takes : goal.read_query::step-returns-in_err-takes
unfolding step dotted bracketed keyed filtered
read_query::step-returns-in_err-takes t c =
    halted (λ (x : One). x) see_step (takes (source c.args.tokens) is_lbracket (state_of c.sees.new.self) c.sees.new.self.seen)
    _ (step_at c.args.tokens c.args.depth (state_of c.args.cursor.now) c.args.cursor.now.seen) c.from_residual-in_err-takes.result c.in_err-takes.field-0.0 c.takes.new.self c.takes.new.self c.from_residual-in_err-takes.ensures.1
    (then_read _ c.in_ok-site.ensures (saw (source c.args.tokens) is_dot _ _ (state_of c.opens.new.self) c.opens.new.self.seen c.sees.ensures.token c.if-sees.false c.sees.ensures.state c.sees.ensures.seen refl)) c.in_err-takes.ensures

pub read_query::step-returns-in_err-capture : goal.read_query::step-returns-in_err-capture
unfolding step dotted bracketed keyed filtered
read_query::step-returns-in_err-capture t c =
    halted (λ x. x) see_step (spec.capture (source c.args.tokens) (state_of c.sees-3.new.self) c.sees-3.new.self.seen)
    _ (step_at c.args.tokens c.args.depth (state_of c.args.cursor.now) c.args.cursor.now.seen) c.from_residual-in_err-capture.result c.in_err-capture.field-0.0 c.capture.new.cursor c.capture.new.cursor c.from_residual-in_err-capture.ensures.1
    (then_read _ c.in_ok-site.ensures (saw (source c.args.tokens) is_dot _ _ (state_of c.opens.new.self) c.opens.new.self.seen c.sees.ensures.token c.if-sees.false c.sees.ensures.state c.sees.ensures.seen (then_read _ c.in_ok-takes.ensures (saw (source c.args.tokens) is_star _ _ (state_of c.takes.new.self) c.takes.new.self.seen c.sees-2.ensures.token c.if-sees-2.false c.sees-2.ensures.state c.sees-2.ensures.seen (saw (source c.args.tokens) is_index _ _ (state_of c.sees-2.new.self) c.sees-2.new.self.seen c.sees-3.ensures.token c.if-sees-3.false c.sees-3.ensures.state c.sees-3.ensures.seen refl))))) c.in_err-capture.ensures

pub read_query::step-returns-in_err-op : goal.read_query::step-returns-in_err-op
unfolding step dotted bracketed keyed filtered
read_query::step-returns-in_err-op t c =
    halted see_key_test see_step (key_test_at c.args.tokens c.args.depth (state_of c.sees-4.new.self) c.sees-4.new.self.seen)
    (λ (w : KeyTest). pure (sx.keys c.in_ok-site.site c.in_ok-capture.capture w.0.0 w.0.1 w.1)) (step_at c.args.tokens c.args.depth (state_of c.args.cursor.now) c.args.cursor.now.seen) c.from_residual-in_err-op.result c.in_err-op.field-0.0 c.key_test.new.cursor c.key_test.new.cursor c.from_residual-in_err-op.ensures.1
    (then_read _ c.in_ok-site.ensures (saw (source c.args.tokens) is_dot _ _ (state_of c.opens.new.self) c.opens.new.self.seen c.sees.ensures.token c.if-sees.false c.sees.ensures.state c.sees.ensures.seen (then_read _ c.in_ok-takes.ensures (saw (source c.args.tokens) is_star _ _ (state_of c.takes.new.self) c.takes.new.self.seen c.sees-2.ensures.token c.if-sees-2.false c.sees-2.ensures.state c.sees-2.ensures.seen (saw (source c.args.tokens) is_index _ _ (state_of c.sees-2.new.self) c.sees-2.new.self.seen c.sees-3.ensures.token c.if-sees-3.false c.sees-3.ensures.state c.sees-3.ensures.seen (then_read _ c.in_ok-capture.ensures (saw (source c.args.tokens) is_keys _ _ (state_of c.capture.new.cursor) c.capture.new.cursor.seen c.sees-4.ensures.token c.if-sees-4.true c.sees-4.ensures.state c.sees-4.ensures.seen (then_tested (spec.keys_operator (source c.args.tokens)) (inner c.args.tokens c.args.depth).expr (takes (source c.args.tokens) is_rbracket) (λ o e. pure (sx.keys c.in_ok-site.site c.in_ok-capture.capture o.0 o.1 e)) (takes (source c.args.tokens) is_keys (state_of c.sees-4.new.self) c.sees-4.new.self.seen))))))))) c.in_err-op.ensures

pub read_query::step-returns-then-sees-4 : goal.read_query::step-returns-then-sees-4
unfolding step dotted bracketed keyed filtered
read_query::step-returns-then-sees-4 t c =
    then_read _ c.in_ok-site.ensures (saw (source c.args.tokens) is_dot _ _ (state_of c.opens.new.self) c.opens.new.self.seen c.sees.ensures.token c.if-sees.false c.sees.ensures.state c.sees.ensures.seen (then_read _ c.in_ok-takes.ensures (saw (source c.args.tokens) is_star _ _ (state_of c.takes.new.self) c.takes.new.self.seen c.sees-2.ensures.token c.if-sees-2.false c.sees-2.ensures.state c.sees-2.ensures.seen (saw (source c.args.tokens) is_index _ _ (state_of c.sees-2.new.self) c.sees-2.new.self.seen c.sees-3.ensures.token c.if-sees-3.false c.sees-3.ensures.state c.sees-3.ensures.seen (then_read _ c.in_ok-capture.ensures (saw (source c.args.tokens) is_keys _ _ (state_of c.capture.new.cursor) c.capture.new.cursor.seen c.sees-4.ensures.token c.if-sees-4.true c.sees-4.ensures.state c.sees-4.ensures.seen (then_tested (spec.keys_operator (source c.args.tokens)) (inner c.args.tokens c.args.depth).expr (takes (source c.args.tokens) is_rbracket) (λ o e. pure (sx.keys c.in_ok-site.site c.in_ok-capture.capture o.0 o.1 e)) (takes (source c.args.tokens) is_keys (state_of c.sees-4.new.self) c.sees-4.new.self.seen)))))))) ∙ ap (λ o. and_then o (λ (w : KeyTest). pure (sx.keys c.in_ok-site.site c.in_ok-capture.capture w.0.0 w.0.1 w.1))) c.in_ok-op.ensures
    ∙ sym (ap (λ (q : sx.Step). Read q (state_of c.key_test.new.cursor) c.key_test.new.cursor.seen) (keys-made c.in_ok-site.site c.in_ok-capture.capture c.in_ok-op.op c.in_ok-op.not c.in_ok-op.right))

pub read_query::step-returns-in_err-conds : goal.read_query::step-returns-in_err-conds
unfolding step dotted bracketed keyed filtered
read_query::step-returns-in_err-conds t c =
    halted see_conds see_step (filter_at c.args.tokens c.args.depth (state_of c.sees-4.new.self) c.sees-4.new.self.seen)
    (λ (w : sx.Conds). pure (sx.filter c.in_ok-site.site c.in_ok-capture.capture w)) (step_at c.args.tokens c.args.depth (state_of c.args.cursor.now) c.args.cursor.now.seen) c.from_residual-in_err-conds.result c.in_err-conds.field-0.0 c.filter.new.cursor c.filter.new.cursor c.from_residual-in_err-conds.ensures.1
    (then_read _ c.in_ok-site.ensures (saw (source c.args.tokens) is_dot _ _ (state_of c.opens.new.self) c.opens.new.self.seen c.sees.ensures.token c.if-sees.false c.sees.ensures.state c.sees.ensures.seen (then_read _ c.in_ok-takes.ensures (saw (source c.args.tokens) is_star _ _ (state_of c.takes.new.self) c.takes.new.self.seen c.sees-2.ensures.token c.if-sees-2.false c.sees-2.ensures.state c.sees-2.ensures.seen (saw (source c.args.tokens) is_index _ _ (state_of c.sees-2.new.self) c.sees-2.new.self.seen c.sees-3.ensures.token c.if-sees-3.false c.sees-3.ensures.state c.sees-3.ensures.seen (then_read _ c.in_ok-capture.ensures (saw (source c.args.tokens) is_keys _ _ (state_of c.capture.new.cursor) c.capture.new.cursor.seen c.sees-4.ensures.token c.if-sees-4.false c.sees-4.ensures.state c.sees-4.ensures.seen (then_closed (takes (source c.args.tokens) is_rbracket) (λ w. w) (λ (w : sx.Conds). pure (sx.filter c.in_ok-site.site c.in_ok-capture.capture w)) ((inner c.args.tokens c.args.depth).conds (state_of c.sees-4.new.self) c.sees-4.new.self.seen))))))))) c.in_err-conds.ensures

pub read_query::step-returns : goal.read_query::step-returns
unfolding step dotted bracketed keyed filtered
read_query::step-returns t c =
    then_read _ c.in_ok-site.ensures (saw (source c.args.tokens) is_dot _ _ (state_of c.opens.new.self) c.opens.new.self.seen c.sees.ensures.token c.if-sees.false c.sees.ensures.state c.sees.ensures.seen (then_read _ c.in_ok-takes.ensures (saw (source c.args.tokens) is_star _ _ (state_of c.takes.new.self) c.takes.new.self.seen c.sees-2.ensures.token c.if-sees-2.false c.sees-2.ensures.state c.sees-2.ensures.seen (saw (source c.args.tokens) is_index _ _ (state_of c.sees-2.new.self) c.sees-2.new.self.seen c.sees-3.ensures.token c.if-sees-3.false c.sees-3.ensures.state c.sees-3.ensures.seen (then_read _ c.in_ok-capture.ensures (saw (source c.args.tokens) is_keys _ _ (state_of c.capture.new.cursor) c.capture.new.cursor.seen c.sees-4.ensures.token c.if-sees-4.false c.sees-4.ensures.state c.sees-4.ensures.seen (then_closed (takes (source c.args.tokens) is_rbracket) (λ w. w) (λ (w : sx.Conds). pure (sx.filter c.in_ok-site.site c.in_ok-capture.capture w)) ((inner c.args.tokens c.args.depth).conds (state_of c.sees-4.new.self) c.sees-4.new.self.seen)))))))) ∙ ap (λ o. and_then o (λ (w : sx.Conds). pure (sx.filter c.in_ok-site.site c.in_ok-capture.capture w))) c.in_ok-conds.ensures
    ∙ sym (ap (λ (q : sx.Step). Read q (state_of c.filter.new.cursor) c.filter.new.cursor.seen) (filter-made c.in_ok-site.site c.in_ok-capture.capture c.in_ok-conds.conds))
