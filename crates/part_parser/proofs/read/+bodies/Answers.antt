use Rattle.std.proofs.Common.{◌≡◌, ℕ, List, true, map, refl, ap, sym, ◌∙◌, ◌-◌, ◌++◌, ◌≢◌, length, [], ◌∷◌}
use Rattle.std.proofs.lemmas.List.{map-append}
use Rattle.guard_syntax.specs.Syntax as sx
use Rattle.guard_syntax.specs.code.Seen.{see_body, see_conds, see_opt_conds, see_disj, see_let, see_part, see_query}
use Rattle.literal_parser.specs.Forms.{begins_part, is_let, is_or, is_lbrace, is_rbrace, is_when, is_type_name, is_name, leads, text_of}
use Rattle.literal_parser.specs.code.Parser.{One, Read, Fail, pure, and_then, opens, takes, has}
use Rattle.literal_parser.specs.code.Reads.{site_of, source, state_of}
use Rattle.part_parser.specs.declared.lead.Lead.{Lead}
use Rattle.part_parser.specs.code.Leads.{lead_of, led_by}
use Rattle.part_parser.specs.code.Reading.{BodyItems, ors, disj_of, full_part, body_of, body_items, guarded_part, kinds_part, headed, judged, ruled}
use Rattle.part_parser.specs.code.GrammarReads.{inner, see_items, see_parts, inner_body_at, body_items_at, closed_items_at, closed_body_at, let_at, disj_at, ors_at, some_parts_at, full_part_at, guarded_at, kinds_at, judged_at, named_at, tested_at, conds_at, opt_conds_at, query_at}
use Rattle.part_parser.proofs.CodeSteps.{then_read, then_fail, saw, handed, halted, halted_by, halted_adding, taken, both, closed_by, deeper, some_of, read_whole, list_opened, item_failed, turns_spent, went_on}
use Rattle.part_parser.proofs.BodySteps.{closes, items_begun, lets_more, parts_more, items_ended, items_failed, items_spent, none_filled, some_filled, none_there, some_there}
use Rattle.part_parser.proofs.Leads.{condition_led}
use Rattle.part_parser.proofs.Rooms.{roomy_reads, full_stops, room_left, no_room}
use Rattle.part_parser.proofs.SeenForms.{disj-made, body-made, guarded-made, kinds-made, block-made}
use Rattle.part_parser.proofs.read.+bodies.Goals as goal

pub add_parts-items-init : goal.add_parts-items-init
add_parts-items-init t c =
    list_opened sx.more_parts pure (map see_part c.args.found.now.items) (some_of sx.more_parts (full_part_at c.args.tokens c.args.depth) (λ (k : ℕ). ors_at c.args.tokens c.args.depth k) c.args.tokens.turns (state_of c.args.cursor.now) c.args.cursor.now.seen) (some_parts_at c.args.tokens c.args.depth (state_of c.args.cursor.now) c.args.cursor.now.seen) (read_whole (some_of sx.more_parts (full_part_at c.args.tokens c.args.depth) (λ (k : ℕ). ors_at c.args.tokens c.args.depth k) c.args.tokens.turns (state_of c.args.cursor.now) c.args.cursor.now.seen)) (ap (map see_part) c.requires.none)

pub add_parts-items-preserved : goal.add_parts-items-preserved
unfolding ors
add_parts-items-preserved t c =
    let got = taken see_part ((full_part_at c.args.tokens c.args.depth) (state_of c.items.cursor) c.items.cursor.seen) c.part.result _ _ c.part.new.cursor c.part.ensures c.in_ok-add.ensures in
    went_on sx.more_parts pure (map see_part c.items.found.items) (full_part_at c.args.tokens c.args.depth) (λ (k : ℕ). ors_at c.args.tokens c.args.depth k) c.items.left (some_parts_at c.args.tokens c.args.depth (state_of c.args.cursor.now) c.args.cursor.now.seen) (state_of c.items.cursor) c.items.cursor.seen c.items.invariant
    (see_part got.0) (map see_part c.add.new.found.items) (state_of c.part.new.cursor) c.part.new.cursor.seen got.1 (ap (map see_part) got.2 ∙ map-append see_part c.items.found.items _) c.if-left-eq0.false (some_of sx.more_parts (full_part_at c.args.tokens c.args.depth) (λ (k : ℕ). ors_at c.args.tokens c.args.depth k) (c.items.left - 1) (state_of c.takes.new.self) c.takes.new.self.seen)
    (saw (source c.args.tokens) is_or _ _ (state_of c.part.new.cursor) c.part.new.cursor.seen c.sees.ensures.token c.if-not-sees.false c.sees.ensures.state c.sees.ensures.seen (then_read _ c.in_ok-takes.ensures refl))

pub add_parts-returns-then-left-eq0 : goal.add_parts-returns-then-left-eq0
unfolding ors
add_parts-returns-then-left-eq0 t c =
    let got = taken see_part ((full_part_at c.args.tokens c.args.depth) (state_of c.items.cursor) c.items.cursor.seen) c.part.result _ _ c.part.new.cursor c.part.ensures c.in_ok-add.ensures in
    turns_spent sx.more_parts pure (map see_part c.items.found.items) (full_part_at c.args.tokens c.args.depth) (λ (k : ℕ). ors_at c.args.tokens c.args.depth k) c.items.left (some_parts_at c.args.tokens c.args.depth (state_of c.args.cursor.now) c.args.cursor.now.seen) (state_of c.items.cursor) c.items.cursor.seen c.items.invariant
    (see_part got.0) (map see_part c.add.new.found.items) (state_of c.part.new.cursor) c.part.new.cursor.seen got.1 (ap (map see_part) got.2 ∙ map-append see_part c.items.found.items _) c.if-left-eq0.true refl

pub add_parts-returns-then-not-sees : goal.add_parts-returns-then-not-sees
unfolding ors
add_parts-returns-then-not-sees t c =
    let got = taken see_part ((full_part_at c.args.tokens c.args.depth) (state_of c.items.cursor) c.items.cursor.seen) c.part.result _ _ c.part.new.cursor c.part.ensures c.in_ok-add.ensures in
    went_on sx.more_parts pure (map see_part c.items.found.items) (full_part_at c.args.tokens c.args.depth) (λ (k : ℕ). ors_at c.args.tokens c.args.depth k) c.items.left (some_parts_at c.args.tokens c.args.depth (state_of c.args.cursor.now) c.args.cursor.now.seen) (state_of c.items.cursor) c.items.cursor.seen c.items.invariant
    (see_part got.0) (map see_part c.add.new.found.items) (state_of c.part.new.cursor) c.part.new.cursor.seen got.1 (ap (map see_part) got.2 ∙ map-append see_part c.items.found.items _) c.if-left-eq0.false (Read sx.no_parts (state_of c.sees.new.self) c.sees.new.self.seen)
    (saw (source c.args.tokens) is_or _ _ (state_of c.part.new.cursor) c.part.new.cursor.seen c.sees.ensures.token c.if-not-sees.true c.sees.ensures.state c.sees.ensures.seen refl)

pub add_parts-returns-in_err-add : goal.add_parts-returns-in_err-add
add_parts-returns-in_err-add t c =
    halted_adding see_part (λ _. see_parts c.add.new.found) ((full_part_at c.args.tokens c.args.depth) (state_of c.items.cursor) c.items.cursor.seen)
    (some_parts_at c.args.tokens c.args.depth (state_of c.args.cursor.now) c.args.cursor.now.seen) c.part.result _ _ c.from_residual.result c.in_err-add.field-0.0 c.part.new.cursor c.part.new.cursor c.from_residual.ensures.1
    (λ k e. item_failed sx.more_parts pure (map see_part c.items.found.items) (full_part_at c.args.tokens c.args.depth) (λ (k : ℕ). ors_at c.args.tokens c.args.depth k) c.items.left (some_parts_at c.args.tokens c.args.depth (state_of c.args.cursor.now) c.args.cursor.now.seen) (state_of c.items.cursor) c.items.cursor.seen c.items.invariant k e) c.part.ensures c.in_err-add.ensures

pub add_parts-returns-in_err-takes : goal.add_parts-returns-in_err-takes
unfolding ors
add_parts-returns-in_err-takes t c =
    let got = taken see_part ((full_part_at c.args.tokens c.args.depth) (state_of c.items.cursor) c.items.cursor.seen) c.part.result _ _ c.part.new.cursor c.part.ensures c.in_ok-add.ensures in
    halted_by (λ (x : One). x) (λ _. see_parts c.add.new.found) (takes (source c.args.tokens) is_or (state_of c.sees.new.self) c.sees.new.self.seen)
    (some_parts_at c.args.tokens c.args.depth (state_of c.args.cursor.now) c.args.cursor.now.seen) c.from_residual-in_err-takes.result c.in_err-takes.field-0.0 c.takes.new.self c.takes.new.self c.from_residual-in_err-takes.ensures.1
    (λ k e. went_on sx.more_parts pure (map see_part c.items.found.items) (full_part_at c.args.tokens c.args.depth) (λ (k : ℕ). ors_at c.args.tokens c.args.depth k) c.items.left (some_parts_at c.args.tokens c.args.depth (state_of c.args.cursor.now) c.args.cursor.now.seen) (state_of c.items.cursor) c.items.cursor.seen c.items.invariant
    (see_part got.0) (map see_part c.add.new.found.items) (state_of c.part.new.cursor) c.part.new.cursor.seen got.1 (ap (map see_part) got.2 ∙ map-append see_part c.items.found.items _) c.if-left-eq0.false (Fail k)
    (saw (source c.args.tokens) is_or _ _ (state_of c.part.new.cursor) c.part.new.cursor.seen c.sees.ensures.token c.if-not-sees.false c.sees.ensures.state c.sees.ensures.seen (then_fail _ e))) c.in_err-takes.ensures

pub disj-returns : goal.disj-returns
unfolding disj_of
disj-returns t c =
    then_read _ c.in_ok-site.ensures (both (ors_at c.args.tokens c.args.depth c.args.tokens.turns) sx.more_parts (λ (xs : sx.Parts). pure (sx.disj c.in_ok-site.site xs)) (full_part_at c.args.tokens c.args.depth (state_of c.opens.new.self) c.opens.new.self.seen)) ∙ ap (λ o. and_then o (λ (xs : sx.Parts). pure (sx.disj c.in_ok-site.site xs))) c.in_ok-add_parts.ensures
    ∙ sym (ap (λ (q : sx.Disj). Read q (state_of c.add_parts.new.cursor) c.add_parts.new.cursor.seen) (disj-made c.in_ok-site.site c.add_parts.new.found))

pub disj-returns-in_err-add_parts : goal.disj-returns-in_err-add_parts
unfolding disj_of
disj-returns-in_err-add_parts t c =
    halted (λ (x : One). see_parts c.add_parts.new.found) see_disj (some_parts_at c.args.tokens c.args.depth (state_of c.opens.new.self) c.opens.new.self.seen)
    (λ (xs : sx.Parts). pure (sx.disj c.in_ok-site.site xs)) (disj_at c.args.tokens c.args.depth (state_of c.args.cursor.now) c.args.cursor.now.seen) c.from_residual-in_err-add_parts.result c.in_err-add_parts.field-0.0 c.add_parts.new.cursor c.add_parts.new.cursor c.from_residual-in_err-add_parts.ensures.1
    (then_read _ c.in_ok-site.ensures (both (ors_at c.args.tokens c.args.depth c.args.tokens.turns) sx.more_parts (λ (xs : sx.Parts). pure (sx.disj c.in_ok-site.site xs)) (full_part_at c.args.tokens c.args.depth (state_of c.opens.new.self) c.opens.new.self.seen))) c.in_err-add_parts.ensures

pub disj-returns-in_err-site : goal.disj-returns-in_err-site
unfolding disj_of
disj-returns-in_err-site t c =
    halted (λ (x : ℕ). x) see_disj (opens (source c.args.tokens) site_of (state_of c.args.cursor.now) c.args.cursor.now.seen)
    _ (disj_at c.args.tokens c.args.depth (state_of c.args.cursor.now) c.args.cursor.now.seen) c.from_residual.result c.in_err-site.field-0.0 c.opens.new.self c.opens.new.self c.from_residual.ensures.1
    (refl) c.in_err-site.ensures

pub part-returns-in_err-site : goal.part-returns-in_err-site
unfolding full_part
part-returns-in_err-site t c =
    halted (λ (x : ℕ). x) see_part (opens (source c.args.tokens) site_of (state_of c.args.cursor.now) c.args.cursor.now.seen)
    _ (full_part_at c.args.tokens c.args.depth (state_of c.args.cursor.now) c.args.cursor.now.seen) c.from_residual.result c.in_err-site.field-0.0 c.opens.new.self c.opens.new.self c.from_residual.ensures.1
    (refl) c.in_err-site.ensures

pub part-returns-then-depth-eq0 : goal.part-returns-then-depth-eq0
unfolding full_part
part-returns-then-depth-eq0 t c =
    then_read _ c.in_ok-site.ensures (saw (source c.args.tokens) is_when _ _ (state_of c.opens.new.self) c.opens.new.self.seen c.sees.ensures.token c.if-sees.true c.sees.ensures.state c.sees.ensures.seen (full_stops (source c.args.tokens) c.args.tokens.turns (inner c.args.tokens c.args.depth) (guarded_at c.args.tokens c.args.depth c.in_ok-site.site) (state_of c.sees.new.self) c.sees.new.self.seen (no_room (source c.args.tokens) c.args.tokens.turns site_of c.args.depth c.if-depth-eq0.true)))

pub part-returns-then-sees : goal.part-returns-then-sees
unfolding full_part
part-returns-then-sees t c =
    handed see_part (full_part_at c.args.tokens c.args.depth (state_of c.args.cursor.now) c.args.cursor.now.seen) (guarded_at c.args.tokens c.args.depth c.in_ok-site.site (state_of c.sees.new.self) c.sees.new.self.seen) c.guarded.result c.guarded.new.cursor
    (then_read _ c.in_ok-site.ensures (saw (source c.args.tokens) is_when _ _ (state_of c.opens.new.self) c.opens.new.self.seen c.sees.ensures.token c.if-sees.true c.sees.ensures.state c.sees.ensures.seen (roomy_reads (source c.args.tokens) c.args.tokens.turns (inner c.args.tokens c.args.depth) (guarded_at c.args.tokens c.args.depth c.in_ok-site.site) (state_of c.sees.new.self) c.sees.new.self.seen (room_left (source c.args.tokens) c.args.tokens.turns site_of c.args.depth c.if-depth-eq0.false)))) c.guarded.ensures

pub part-returns-then-depth-eq0-2 : goal.part-returns-then-depth-eq0-2
unfolding full_part
part-returns-then-depth-eq0-2 t c =
    then_read _ c.in_ok-site.ensures (saw (source c.args.tokens) is_when _ _ (state_of c.opens.new.self) c.opens.new.self.seen c.sees.ensures.token c.if-sees.false c.sees.ensures.state c.sees.ensures.seen (saw (source c.args.tokens) is_type_name _ _ (state_of c.sees.new.self) c.sees.new.self.seen c.sees-2.ensures.token c.if-sees-2.true c.sees-2.ensures.state c.sees-2.ensures.seen (full_stops (source c.args.tokens) c.args.tokens.turns (inner c.args.tokens c.args.depth) (kinds_at c.args.tokens c.args.depth c.in_ok-site.site) (state_of c.sees-2.new.self) c.sees-2.new.self.seen (no_room (source c.args.tokens) c.args.tokens.turns site_of c.args.depth c.if-depth-eq0-2.true))))

pub part-returns-then-sees-2 : goal.part-returns-then-sees-2
unfolding full_part
part-returns-then-sees-2 t c =
    handed see_part (full_part_at c.args.tokens c.args.depth (state_of c.args.cursor.now) c.args.cursor.now.seen) (kinds_at c.args.tokens c.args.depth c.in_ok-site.site (state_of c.sees-2.new.self) c.sees-2.new.self.seen) c.kinds.result c.kinds.new.cursor
    (then_read _ c.in_ok-site.ensures (saw (source c.args.tokens) is_when _ _ (state_of c.opens.new.self) c.opens.new.self.seen c.sees.ensures.token c.if-sees.false c.sees.ensures.state c.sees.ensures.seen (saw (source c.args.tokens) is_type_name _ _ (state_of c.sees.new.self) c.sees.new.self.seen c.sees-2.ensures.token c.if-sees-2.true c.sees-2.ensures.state c.sees-2.ensures.seen (roomy_reads (source c.args.tokens) c.args.tokens.turns (inner c.args.tokens c.args.depth) (kinds_at c.args.tokens c.args.depth c.in_ok-site.site) (state_of c.sees-2.new.self) c.sees-2.new.self.seen (room_left (source c.args.tokens) c.args.tokens.turns site_of c.args.depth c.if-depth-eq0-2.false))))) c.kinds.ensures

pub part-returns-in_err-any : goal.part-returns-in_err-any
unfolding full_part
part-returns-in_err-any t c =
    halted (λ (x : Lead). x) see_part (lead_of (source c.args.tokens) (leads true) (state_of c.sees-2.new.self) c.sees-2.new.self.seen)
    (led_by (source c.args.tokens) c.args.tokens.turns (inner c.args.tokens c.args.depth) true c.in_ok-site.site) (full_part_at c.args.tokens c.args.depth (state_of c.args.cursor.now) c.args.cursor.now.seen) c.from_residual-in_err-any.result c.in_err-any.field-0.0 c.lead_of.new.cursor c.lead_of.new.cursor c.from_residual-in_err-any.ensures.1
    (then_read _ c.in_ok-site.ensures (saw (source c.args.tokens) is_when _ _ (state_of c.opens.new.self) c.opens.new.self.seen c.sees.ensures.token c.if-sees.false c.sees.ensures.state c.sees.ensures.seen (saw (source c.args.tokens) is_type_name _ _ (state_of c.sees.new.self) c.sees.new.self.seen c.sees-2.ensures.token c.if-sees-2.false c.sees-2.ensures.state c.sees-2.ensures.seen (condition_led (source c.args.tokens) c.args.tokens.turns (inner c.args.tokens c.args.depth) true c.in_ok-site.site (state_of c.sees-2.new.self) c.sees-2.new.self.seen)))) c.in_err-any.ensures

pub part-returns-in_err-query-in-Query : goal.part-returns-in_err-query-in-Query
unfolding full_part headed
part-returns-in_err-query-in-Query t c =
    halted see_query see_part (query_at c.args.tokens c.args.depth (state_of c.lead_of.new.cursor) c.lead_of.new.cursor.seen)
    _ (full_part_at c.args.tokens c.args.depth (state_of c.args.cursor.now) c.args.cursor.now.seen) c.from_residual-in_err-query-in-Query.result c.in_err-query-in-Query.field-0.0 c.query.new.cursor c.query.new.cursor c.from_residual-in_err-query-in-Query.ensures.1
    (then_read _ c.in_ok-site.ensures (saw (source c.args.tokens) is_when _ _ (state_of c.opens.new.self) c.opens.new.self.seen c.sees.ensures.token c.if-sees.false c.sees.ensures.state c.sees.ensures.seen (saw (source c.args.tokens) is_type_name _ _ (state_of c.sees.new.self) c.sees.new.self.seen c.sees-2.ensures.token c.if-sees-2.false c.sees-2.ensures.state c.sees-2.ensures.seen (condition_led (source c.args.tokens) c.args.tokens.turns (inner c.args.tokens c.args.depth) true c.in_ok-site.site (state_of c.sees-2.new.self) c.sees-2.new.self.seen))) ∙ ap (λ o. and_then o (led_by (source c.args.tokens) c.args.tokens.turns (inner c.args.tokens c.args.depth) true c.in_ok-site.site)) c.in_ok-any.ensures ∙ ap (λ (l : Lead). (led_by (source c.args.tokens) c.args.tokens.turns (inner c.args.tokens c.args.depth) true c.in_ok-site.site) l (state_of c.lead_of.new.cursor) c.lead_of.new.cursor.seen) c.in-Query.is ∙ refl) c.in_err-query-in-Query.ensures

pub part-returns-in_ok-query-in-Query : goal.part-returns-in_ok-query-in-Query
unfolding full_part headed
part-returns-in_ok-query-in-Query t c =
    handed see_part (full_part_at c.args.tokens c.args.depth (state_of c.args.cursor.now) c.args.cursor.now.seen) (judged_at c.args.tokens c.args.depth c.in_ok-site.site c.in-Query.any (see_query c.in_ok-query-in-Query.query) (state_of c.query.new.cursor) c.query.new.cursor.seen) c.judged.result c.judged.new.cursor
    (then_read _ c.in_ok-site.ensures (saw (source c.args.tokens) is_when _ _ (state_of c.opens.new.self) c.opens.new.self.seen c.sees.ensures.token c.if-sees.false c.sees.ensures.state c.sees.ensures.seen (saw (source c.args.tokens) is_type_name _ _ (state_of c.sees.new.self) c.sees.new.self.seen c.sees-2.ensures.token c.if-sees-2.false c.sees-2.ensures.state c.sees-2.ensures.seen (condition_led (source c.args.tokens) c.args.tokens.turns (inner c.args.tokens c.args.depth) true c.in_ok-site.site (state_of c.sees-2.new.self) c.sees-2.new.self.seen))) ∙ ap (λ o. and_then o (led_by (source c.args.tokens) c.args.tokens.turns (inner c.args.tokens c.args.depth) true c.in_ok-site.site)) c.in_ok-any.ensures ∙ ap (λ (l : Lead). (led_by (source c.args.tokens) c.args.tokens.turns (inner c.args.tokens c.args.depth) true c.in_ok-site.site) l (state_of c.lead_of.new.cursor) c.lead_of.new.cursor.seen) c.in-Query.is ∙ then_read _ c.in_ok-query-in-Query.ensures refl) c.judged.ensures

pub part-returns-in_err-name-in-Rule : goal.part-returns-in_err-name-in-Rule
unfolding full_part ruled
part-returns-in_err-name-in-Rule t c =
    halted (λ (x : List ℕ). x) see_part (has (source c.args.tokens) is_name text_of (state_of c.lead_of.new.cursor) c.lead_of.new.cursor.seen)
    _ (full_part_at c.args.tokens c.args.depth (state_of c.args.cursor.now) c.args.cursor.now.seen) c.from_residual-in_err-name-in-Rule.result c.in_err-name-in-Rule.field-0.0 c.has_text.new.self c.has_text.new.self c.from_residual-in_err-name-in-Rule.ensures.1
    (then_read _ c.in_ok-site.ensures (saw (source c.args.tokens) is_when _ _ (state_of c.opens.new.self) c.opens.new.self.seen c.sees.ensures.token c.if-sees.false c.sees.ensures.state c.sees.ensures.seen (saw (source c.args.tokens) is_type_name _ _ (state_of c.sees.new.self) c.sees.new.self.seen c.sees-2.ensures.token c.if-sees-2.false c.sees-2.ensures.state c.sees-2.ensures.seen (condition_led (source c.args.tokens) c.args.tokens.turns (inner c.args.tokens c.args.depth) true c.in_ok-site.site (state_of c.sees-2.new.self) c.sees-2.new.self.seen))) ∙ ap (λ o. and_then o (led_by (source c.args.tokens) c.args.tokens.turns (inner c.args.tokens c.args.depth) true c.in_ok-site.site)) c.in_ok-any.ensures ∙ ap (λ (l : Lead). (led_by (source c.args.tokens) c.args.tokens.turns (inner c.args.tokens c.args.depth) true c.in_ok-site.site) l (state_of c.lead_of.new.cursor) c.lead_of.new.cursor.seen) c.in-Rule.is ∙ refl) c.in_err-name-in-Rule.ensures

pub part-returns-in_ok-name-in-Rule : goal.part-returns-in_ok-name-in-Rule
unfolding full_part ruled
part-returns-in_ok-name-in-Rule t c =
    handed see_part (full_part_at c.args.tokens c.args.depth (state_of c.args.cursor.now) c.args.cursor.now.seen) (named_at c.args.tokens c.args.depth c.in_ok-site.site c.in-Rule.not c.in_ok-name-in-Rule.name (state_of c.has_text.new.self) c.has_text.new.self.seen) c.ruled.result c.ruled.new.cursor
    (then_read _ c.in_ok-site.ensures (saw (source c.args.tokens) is_when _ _ (state_of c.opens.new.self) c.opens.new.self.seen c.sees.ensures.token c.if-sees.false c.sees.ensures.state c.sees.ensures.seen (saw (source c.args.tokens) is_type_name _ _ (state_of c.sees.new.self) c.sees.new.self.seen c.sees-2.ensures.token c.if-sees-2.false c.sees-2.ensures.state c.sees-2.ensures.seen (condition_led (source c.args.tokens) c.args.tokens.turns (inner c.args.tokens c.args.depth) true c.in_ok-site.site (state_of c.sees-2.new.self) c.sees-2.new.self.seen))) ∙ ap (λ o. and_then o (led_by (source c.args.tokens) c.args.tokens.turns (inner c.args.tokens c.args.depth) true c.in_ok-site.site)) c.in_ok-any.ensures ∙ ap (λ (l : Lead). (led_by (source c.args.tokens) c.args.tokens.turns (inner c.args.tokens c.args.depth) true c.in_ok-site.site) l (state_of c.lead_of.new.cursor) c.lead_of.new.cursor.seen) c.in-Rule.is ∙ then_read _ c.in_ok-name-in-Rule.ensures refl) c.ruled.ensures

pub body-returns-then-depth-eq0 : goal.body-returns-then-depth-eq0
body-returns-then-depth-eq0 t c =
    ap (λ (n : ℕ). (inner c.args.tokens n).body (state_of c.args.cursor.now) c.args.cursor.now.seen) c.if-depth-eq0.true

pub body-returns-in_err-site : goal.body-returns-in_err-site
unfolding body_of
body-returns-in_err-site t c =
    halted (λ (x : ℕ). x) see_body (opens (source c.args.tokens) site_of (state_of c.args.cursor.now) c.args.cursor.now.seen)
    _ (inner_body_at c.args.tokens c.args.depth (state_of c.args.cursor.now) c.args.cursor.now.seen) c.from_residual.result c.in_err-site.field-0.0 c.opens.new.self c.opens.new.self c.from_residual.ensures.1
    (ap (λ (n : ℕ). (inner c.args.tokens n).body (state_of c.args.cursor.now) c.args.cursor.now.seen) (deeper c.args.depth c.if-depth-eq0.false)) c.in_err-site.ensures

pub body-returns-in_err-takes : goal.body-returns-in_err-takes
unfolding body_of
body-returns-in_err-takes t c =
    halted (λ (x : One). x) see_body (takes (source c.args.tokens) is_lbrace (state_of c.opens.new.self) c.opens.new.self.seen)
    _ (inner_body_at c.args.tokens c.args.depth (state_of c.args.cursor.now) c.args.cursor.now.seen) c.from_residual-in_err-takes.result c.in_err-takes.field-0.0 c.takes.new.self c.takes.new.self c.from_residual-in_err-takes.ensures.1
    (ap (λ (n : ℕ). (inner c.args.tokens n).body (state_of c.args.cursor.now) c.args.cursor.now.seen) (deeper c.args.depth c.if-depth-eq0.false) ∙ then_read _ c.in_ok-site.ensures refl) c.in_err-takes.ensures

pub body-returns-in_err-add_items : goal.body-returns-in_err-add_items
unfolding body_of
body-returns-in_err-add_items t c =
    halted (λ (x : One). see_items c.add_items.new.found.lets c.add_items.new.found.parts) see_body (closed_items_at c.args.tokens (c.args.depth - 1) (state_of c.takes.new.self) c.takes.new.self.seen)
    (λ (p : BodyItems). pure (sx.body c.in_ok-site.site p.0 p.1)) (inner_body_at c.args.tokens c.args.depth (state_of c.args.cursor.now) c.args.cursor.now.seen) c.from_residual-in_err-add_items.result c.in_err-add_items.field-0.0 c.add_items.new.cursor c.add_items.new.cursor c.from_residual-in_err-add_items.ensures.1
    (ap (λ (n : ℕ). (inner c.args.tokens n).body (state_of c.args.cursor.now) c.args.cursor.now.seen) (deeper c.args.depth c.if-depth-eq0.false) ∙ then_read _ c.in_ok-site.ensures (then_read _ c.in_ok-takes.ensures (closes c.args.tokens (c.args.depth - 1) c.in_ok-site.site (body_items_at c.args.tokens (c.args.depth - 1) c.args.tokens.turns (state_of c.takes.new.self) c.takes.new.self.seen)))) c.in_err-add_items.ensures

pub body-returns : goal.body-returns
unfolding body_of
body-returns t c =
    ap (λ (n : ℕ). (inner c.args.tokens n).body (state_of c.args.cursor.now) c.args.cursor.now.seen) (deeper c.args.depth c.if-depth-eq0.false) ∙ then_read _ c.in_ok-site.ensures (then_read _ c.in_ok-takes.ensures (closes c.args.tokens (c.args.depth - 1) c.in_ok-site.site (body_items_at c.args.tokens (c.args.depth - 1) c.args.tokens.turns (state_of c.takes.new.self) c.takes.new.self.seen))) ∙ ap (λ o. and_then o (λ (p : BodyItems). pure (sx.body c.in_ok-site.site p.0 p.1))) c.in_ok-add_items.ensures
    ∙ sym (ap (λ (q : sx.Body). Read q (state_of c.add_items.new.cursor) c.add_items.new.cursor.seen) (body-made c.in_ok-site.site c.add_items.new.found.lets c.add_items.new.found.parts))

pub add_items-loop-turn-init : goal.add_items-loop-turn-init
unfolding body_items
add_items-loop-turn-init t c =
    items_begun (closed_body_at c.args.tokens c.args.depth) (map see_let c.args.found.now.lets.items) (map see_disj c.args.found.now.parts.items) (λ (k : ℕ). body_items_at c.args.tokens c.args.depth k) c.args.tokens.turns (closed_items_at c.args.tokens c.args.depth (state_of c.args.cursor.now) c.args.cursor.now.seen) (state_of c.args.cursor.now) c.args.cursor.now.seen refl (ap (map see_let) c.requires.no_lets) (ap (map see_disj) c.requires.no_parts)

pub add_items-loop-turn-preserved-then-sees : goal.add_items-loop-turn-preserved-then-sees
unfolding body_items
add_items-loop-turn-preserved-then-sees t c =
    let got = taken see_let (let_at c.args.tokens c.args.depth (state_of c.sees.new.self) c.sees.new.self.seen) c.let_of.result _ _ c.let_of.new.cursor c.let_of.ensures c.in_ok-add.ensures in
    lets_more (closed_body_at c.args.tokens c.args.depth) (map see_let c.loop-turn.found.lets.items) (map see_disj c.loop-turn.found.parts.items) (λ (k : ℕ). body_items_at c.args.tokens c.args.depth k) c.args.tokens.turns c.loop-turn._turn (closed_items_at c.args.tokens c.args.depth (state_of c.args.cursor.now) c.args.cursor.now.seen) (state_of c.loop-turn.cursor) c.loop-turn.cursor.seen c.loop-turn.invariant _ _ (state_of c.let_of.new.cursor) c.let_of.new.cursor.seen c.loop-turn-test.true
    (saw (source c.args.tokens) is_let _ _ (state_of c.loop-turn.cursor) c.loop-turn.cursor.seen c.sees.ensures.token c.if-sees.true c.sees.ensures.state c.sees.ensures.seen (then_read _ got.1 refl))
    (ap (map see_let) got.2 ∙ map-append see_let c.loop-turn.found.lets.items _)

pub add_items-loop-turn-preserved : goal.add_items-loop-turn-preserved
unfolding body_items
add_items-loop-turn-preserved t c =
    let got = taken see_disj (disj_at c.args.tokens c.args.depth (state_of c.sees-in-loop-turn.new.self) c.sees-in-loop-turn.new.self.seen) c.disj.result _ _ c.disj.new.cursor c.disj.ensures c.in_ok-add-2.ensures in
    parts_more (closed_body_at c.args.tokens c.args.depth) (map see_let c.loop-turn.found.lets.items) (map see_disj c.loop-turn.found.parts.items) (λ (k : ℕ). body_items_at c.args.tokens c.args.depth k) c.args.tokens.turns c.loop-turn._turn (closed_items_at c.args.tokens c.args.depth (state_of c.args.cursor.now) c.args.cursor.now.seen) (state_of c.loop-turn.cursor) c.loop-turn.cursor.seen c.loop-turn.invariant _ _ (state_of c.disj.new.cursor) c.disj.new.cursor.seen c.loop-turn-test.true
    (saw (source c.args.tokens) is_let _ _ (state_of c.loop-turn.cursor) c.loop-turn.cursor.seen c.sees.ensures.token c.if-sees.false c.sees.ensures.state c.sees.ensures.seen (saw (source c.args.tokens) begins_part _ _ (state_of c.sees.new.self) c.sees.new.self.seen c.sees-in-loop-turn.ensures.token c.if-not-sees.false c.sees-in-loop-turn.ensures.state c.sees-in-loop-turn.ensures.seen (then_read _ got.1 refl)))
    (ap (map see_disj) got.2 ∙ map-append see_disj c.loop-turn.found.parts.items _)

pub add_items-returns-then-is_empty : goal.add_items-returns-then-is_empty
unfolding body_items
add_items-returns-then-is_empty t c =
    let none : length c.loop-turn.found.parts.items ≡ 0 = none_there c.loop-turn.found.parts c.is_empty.ensures c.if-is_empty.true in
    items_ended (closed_body_at c.args.tokens c.args.depth) (map see_let c.loop-turn.found.lets.items) (map see_disj c.loop-turn.found.parts.items) (λ (k : ℕ). body_items_at c.args.tokens c.args.depth k) c.args.tokens.turns c.loop-turn._turn (closed_items_at c.args.tokens c.args.depth (state_of c.args.cursor.now) c.args.cursor.now.seen) (state_of c.loop-turn.cursor) c.loop-turn.cursor.seen c.loop-turn.invariant (state_of c.sees-in-loop-turn.new.self) c.sees-in-loop-turn.new.self.seen c.loop-turn-test.true (saw (source c.args.tokens) is_let _ _ (state_of c.loop-turn.cursor) c.loop-turn.cursor.seen c.sees.ensures.token c.if-sees.false c.sees.ensures.state c.sees.ensures.seen (saw (source c.args.tokens) begins_part _ _ (state_of c.sees.new.self) c.sees.new.self.seen c.sees-in-loop-turn.ensures.token c.if-not-sees.true c.sees-in-loop-turn.ensures.state c.sees-in-loop-turn.ensures.seen refl)) ∙ none_filled c.args.tokens c.args.depth c.loop-turn.found.lets.items c.loop-turn.found.parts.items (state_of c.sees-in-loop-turn.new.self) c.sees-in-loop-turn.new.self.seen none

pub add_items-returns-then-not-sees : goal.add_items-returns-then-not-sees
unfolding body_items
add_items-returns-then-not-sees t c =
    let some : length c.loop-turn.found.parts.items ≢ 0 = some_there c.loop-turn.found.parts c.is_empty.ensures c.if-is_empty.false in
    handed (λ _. see_items c.loop-turn.found.lets c.loop-turn.found.parts) (closed_items_at c.args.tokens c.args.depth (state_of c.args.cursor.now) c.args.cursor.now.seen) (and_then (takes (source c.args.tokens) is_rbrace (state_of c.sees-in-loop-turn.new.self) c.sees-in-loop-turn.new.self.seen) (λ _. pure (see_items c.loop-turn.found.lets c.loop-turn.found.parts))) c.takes.result c.takes.new.self
    (items_ended (closed_body_at c.args.tokens c.args.depth) (map see_let c.loop-turn.found.lets.items) (map see_disj c.loop-turn.found.parts.items) (λ (k : ℕ). body_items_at c.args.tokens c.args.depth k) c.args.tokens.turns c.loop-turn._turn (closed_items_at c.args.tokens c.args.depth (state_of c.args.cursor.now) c.args.cursor.now.seen) (state_of c.loop-turn.cursor) c.loop-turn.cursor.seen c.loop-turn.invariant (state_of c.sees-in-loop-turn.new.self) c.sees-in-loop-turn.new.self.seen c.loop-turn-test.true (saw (source c.args.tokens) is_let _ _ (state_of c.loop-turn.cursor) c.loop-turn.cursor.seen c.sees.ensures.token c.if-sees.false c.sees.ensures.state c.sees.ensures.seen (saw (source c.args.tokens) begins_part _ _ (state_of c.sees.new.self) c.sees.new.self.seen c.sees-in-loop-turn.ensures.token c.if-not-sees.true c.sees-in-loop-turn.ensures.state c.sees-in-loop-turn.ensures.seen refl)) ∙ some_filled c.args.tokens c.args.depth c.loop-turn.found.lets.items c.loop-turn.found.parts.items (state_of c.sees-in-loop-turn.new.self) c.sees-in-loop-turn.new.self.seen some)
    (closed_by (see_items c.loop-turn.found.lets c.loop-turn.found.parts) (takes (source c.args.tokens) is_rbrace (state_of c.sees-in-loop-turn.new.self) c.sees-in-loop-turn.new.self.seen) c.takes.result c.takes.new.self c.takes.ensures)

pub add_items-returns : goal.add_items-returns
unfolding body_items
add_items-returns t c =
    items_spent (closed_body_at c.args.tokens c.args.depth) (map see_let c.loop-turn.found.lets.items) (map see_disj c.loop-turn.found.parts.items) (λ (k : ℕ). body_items_at c.args.tokens c.args.depth k) c.args.tokens.turns c.loop-turn._turn (closed_items_at c.args.tokens c.args.depth (state_of c.args.cursor.now) c.args.cursor.now.seen) (state_of c.loop-turn.cursor) c.loop-turn.cursor.seen c.loop-turn.invariant c.loop-turn-test.false refl

pub add_items-returns-in_err-add : goal.add_items-returns-in_err-add
unfolding body_items
add_items-returns-in_err-add t c =
    halted_adding see_let (λ _. see_items c.add.new.found c.loop-turn.found.parts) (let_at c.args.tokens c.args.depth (state_of c.sees.new.self) c.sees.new.self.seen)
    (closed_items_at c.args.tokens c.args.depth (state_of c.args.cursor.now) c.args.cursor.now.seen) c.let_of.result _ _ c.from_residual.result c.in_err-add.field-0.0 c.let_of.new.cursor c.let_of.new.cursor c.from_residual.ensures.1
    (λ k e. items_failed (closed_body_at c.args.tokens c.args.depth) (map see_let c.loop-turn.found.lets.items) (map see_disj c.loop-turn.found.parts.items) (λ (k : ℕ). body_items_at c.args.tokens c.args.depth k) c.args.tokens.turns c.loop-turn._turn (closed_items_at c.args.tokens c.args.depth (state_of c.args.cursor.now) c.args.cursor.now.seen) (state_of c.loop-turn.cursor) c.loop-turn.cursor.seen c.loop-turn.invariant k c.loop-turn-test.true (saw (source c.args.tokens) is_let _ _ (state_of c.loop-turn.cursor) c.loop-turn.cursor.seen c.sees.ensures.token c.if-sees.true c.sees.ensures.state c.sees.ensures.seen (then_fail _ e))) c.let_of.ensures c.in_err-add.ensures

pub add_items-returns-in_err-add-2 : goal.add_items-returns-in_err-add-2
unfolding body_items
add_items-returns-in_err-add-2 t c =
    halted_adding see_disj (λ _. see_items c.loop-turn.found.lets c.add-in-loop-turn.new.found) (disj_at c.args.tokens c.args.depth (state_of c.sees-in-loop-turn.new.self) c.sees-in-loop-turn.new.self.seen)
    (closed_items_at c.args.tokens c.args.depth (state_of c.args.cursor.now) c.args.cursor.now.seen) c.disj.result _ _ c.from_residual-in_err-add-2.result c.in_err-add-2.field-0.0 c.disj.new.cursor c.disj.new.cursor c.from_residual-in_err-add-2.ensures.1
    (λ k e. items_failed (closed_body_at c.args.tokens c.args.depth) (map see_let c.loop-turn.found.lets.items) (map see_disj c.loop-turn.found.parts.items) (λ (k : ℕ). body_items_at c.args.tokens c.args.depth k) c.args.tokens.turns c.loop-turn._turn (closed_items_at c.args.tokens c.args.depth (state_of c.args.cursor.now) c.args.cursor.now.seen) (state_of c.loop-turn.cursor) c.loop-turn.cursor.seen c.loop-turn.invariant k c.loop-turn-test.true (saw (source c.args.tokens) is_let _ _ (state_of c.loop-turn.cursor) c.loop-turn.cursor.seen c.sees.ensures.token c.if-sees.false c.sees.ensures.state c.sees.ensures.seen (saw (source c.args.tokens) begins_part _ _ (state_of c.sees.new.self) c.sees.new.self.seen c.sees-in-loop-turn.ensures.token c.if-not-sees.false c.sees-in-loop-turn.ensures.state c.sees-in-loop-turn.ensures.seen (then_fail _ e)))) c.disj.ensures c.in_err-add-2.ensures

pub guarded-returns-in_err-cond : goal.guarded-returns-in_err-cond
unfolding guarded_part
guarded-returns-in_err-cond t c =
    halted see_conds see_part (conds_at c.args.tokens c.args.depth (state_of c.takes.new.self) c.takes.new.self.seen)
    _ (guarded_at c.args.tokens c.args.depth c.args.site (state_of c.args.cursor.now) c.args.cursor.now.seen) c.from_residual-in_err-cond.result c.in_err-cond.field-0.0 c.conds.new.cursor c.conds.new.cursor c.from_residual-in_err-cond.ensures.1
    (then_read _ c.in_ok-takes.ensures refl) c.in_err-cond.ensures

pub guarded-returns-in_err-body : goal.guarded-returns-in_err-body
unfolding guarded_part
guarded-returns-in_err-body t c =
    halted see_body see_part (inner_body_at c.args.tokens c.args.depth (state_of c.conds.new.cursor) c.conds.new.cursor.seen)
    _ (guarded_at c.args.tokens c.args.depth c.args.site (state_of c.args.cursor.now) c.args.cursor.now.seen) c.from_residual-in_err-body.result c.in_err-body.field-0.0 c.body.new.cursor c.body.new.cursor c.from_residual-in_err-body.ensures.1
    (then_read _ c.in_ok-takes.ensures (then_read _ c.in_ok-cond.ensures refl)) c.in_err-body.ensures

pub guarded-returns : goal.guarded-returns
unfolding guarded_part
guarded-returns t c =
    then_read _ c.in_ok-takes.ensures (then_read _ c.in_ok-cond.ensures (then_read _ c.in_ok-body.ensures refl))
    ∙ sym (ap (λ (q : sx.Part). Read q (state_of c.body.new.cursor) c.body.new.cursor.seen) (guarded-made c.args.site c.in_ok-cond.cond c.in_ok-body.body))

pub kinds-returns-in_err-cond : goal.kinds-returns-in_err-cond
unfolding kinds_part
kinds-returns-in_err-cond t c =
    halted see_opt_conds see_part (opt_conds_at c.args.tokens c.args.depth (state_of c.has_text.new.self) c.has_text.new.self.seen)
    _ (kinds_at c.args.tokens c.args.depth c.args.site (state_of c.args.cursor.now) c.args.cursor.now.seen) c.from_residual-in_err-cond.result c.in_err-cond.field-0.0 c.opt_conds.new.cursor c.opt_conds.new.cursor c.from_residual-in_err-cond.ensures.1
    (then_read _ c.in_ok-name.ensures refl) c.in_err-cond.ensures

pub kinds-returns-in_err-body : goal.kinds-returns-in_err-body
unfolding kinds_part
kinds-returns-in_err-body t c =
    halted see_body see_part (inner_body_at c.args.tokens c.args.depth (state_of c.opt_conds.new.cursor) c.opt_conds.new.cursor.seen)
    _ (kinds_at c.args.tokens c.args.depth c.args.site (state_of c.args.cursor.now) c.args.cursor.now.seen) c.from_residual-in_err-body.result c.in_err-body.field-0.0 c.body.new.cursor c.body.new.cursor c.from_residual-in_err-body.ensures.1
    (then_read _ c.in_ok-name.ensures (then_read _ c.in_ok-cond.ensures refl)) c.in_err-body.ensures

pub kinds-returns : goal.kinds-returns
unfolding kinds_part
kinds-returns t c =
    then_read _ c.in_ok-name.ensures (then_read _ c.in_ok-cond.ensures (then_read _ c.in_ok-body.ensures refl))
    ∙ sym (ap (λ (q : sx.Part). Read q (state_of c.body.new.cursor) c.body.new.cursor.seen) (kinds-made c.args.site c.in_ok-name.name c.in_ok-cond.cond c.in_ok-body.body))

pub judged-returns-then-not-sees : goal.judged-returns-then-not-sees
unfolding judged
judged-returns-then-not-sees t c =
    handed see_part (judged_at c.args.tokens c.args.depth c.args.head.site c.args.head.any (see_query c.args.head.query) (state_of c.args.cursor.now) c.args.cursor.now.seen) (tested_at c.args.tokens c.args.depth c.args.head.site c.args.head.any (see_query c.args.head.query) (state_of c.sees.new.self) c.sees.new.self.seen) c.tested.result c.tested.new.cursor
    (saw (source c.args.tokens) is_lbrace _ _ (state_of c.args.cursor.now) c.args.cursor.now.seen c.sees.ensures.token c.if-not-sees.true c.sees.ensures.state c.sees.ensures.seen refl) c.tested.ensures

pub judged-returns-in_err-body : goal.judged-returns-in_err-body
unfolding judged
judged-returns-in_err-body t c =
    halted see_body see_part (inner_body_at c.args.tokens c.args.depth (state_of c.sees.new.self) c.sees.new.self.seen)
    _ (judged_at c.args.tokens c.args.depth c.args.head.site c.args.head.any (see_query c.args.head.query) (state_of c.args.cursor.now) c.args.cursor.now.seen) c.from_residual.result c.in_err-body.field-0.0 c.body.new.cursor c.body.new.cursor c.from_residual.ensures.1
    (saw (source c.args.tokens) is_lbrace _ _ (state_of c.args.cursor.now) c.args.cursor.now.seen c.sees.ensures.token c.if-not-sees.false c.sees.ensures.state c.sees.ensures.seen refl) c.in_err-body.ensures

pub judged-returns : goal.judged-returns
unfolding judged
judged-returns t c =
    saw (source c.args.tokens) is_lbrace _ _ (state_of c.args.cursor.now) c.args.cursor.now.seen c.sees.ensures.token c.if-not-sees.false c.sees.ensures.state c.sees.ensures.seen (then_read _ c.in_ok-body.ensures refl)
    ∙ sym (ap (λ (q : sx.Part). Read q (state_of c.body.new.cursor) c.body.new.cursor.seen) (block-made c.args.head.site c.args.head.any c.args.head.query c.in_ok-body.body))
