use Rattle.std.proofs.Common.{◌-◌, true, false, refl, ap, sym, ◌∙◌, subst}
use Rattle.doc_values.specs.Tree.{Nil, Node, snoc}
use Rattle.doc_values.specs.code.Laws.{joined-Nil}
use Rattle.doc_values.specs.Unfinished.{Unfinished}
use Rattle.doc_values.specs.declared.kind.Kind.TheVariants as kind
use Rattle.literal_parser.specs.Forms.{is_comma, is_scalar, is_lbracket, is_rbracket, is_lbrace, is_rbrace, is_r, opens_range}
use Rattle.literal_parser.specs.Literal.{holder}
use Rattle.literal_parser.specs.code.LiteralReading.{items_of, bounded, node}
use Rattle.literal_parser.specs.code.Parser.{takes}
use Rattle.literal_parser.specs.code.Reads.{state_of, source}
use Rattle.literal_parser.specs.code.LiteralReads.{Puts, with_tree, with_all, list_at, map_at, items_at, entries_at, more_items_at, more_entries_at, node_at, entry_at}
use Rattle.literal_parser.proofs.LiteralSteps.{halted_read, halted_put, level_with, level_further, level_keyed, saw, saw_pair, bounded_shut, bounded_open, list_failed, list_unread, list_open, list_closed, list_read, map_failed, map_unread, map_open, map_closed, map_read, held, all-one, collected, one_more_done, behind, behind-none, less_none, items_turn, items_end, items_untaken, items_unread, items_first, entries_turn, entries_end, entries_untaken, entries_unread, entries_first}
use Rattle.literal_parser.proofs.literal.+literal.Goals as goal

pub list-returns-then-depth-eq0-clause-reads : goal.list-returns-then-depth-eq0-clause-reads
list-returns-then-depth-eq0-clause-reads t c = list_closed (source c.args.tokens) c.args.tokens.turns c.args.depth c.args.builder.now.key (state_of c.args.cursor.now) (state_of c.takes.new.self)
    c.args.cursor.now.seen c.takes.new.self.seen c.if-depth-eq0.true c.in_ok-takes.ensures

pub list-returns-clause-reads : goal.list-returns-clause-reads
list-returns-clause-reads t c =
    let x = source c.args.tokens c.args.cursor.now.at in let r = c.in_ok-items.ensures.reads in (
      (holder kind.List c.args.builder.now.key x, r.0),
      list_read (source c.args.tokens) c.args.tokens.turns c.args.depth c.args.builder.now.key r.0
          (state_of c.args.cursor.now) (state_of c.takes.new.self) (state_of c.items.new.cursor) (state_of c.takes-2.new.self)
          c.args.cursor.now.seen c.takes.new.self.seen c.items.new.cursor.seen c.takes-2.new.self.seen
          c.if-depth-eq0.false c.in_ok-takes.ensures r.1 c.in_ok-takes-2.ensures,
      held false c.from-from.result x r.0 c.args.builder.now c.begun.new.builder c.items.new.builder c.ended.new.builder c.in_ok-begun.ensures.ok r.2 c.ended.ensures c.from-from.ensures,
    )

pub map-returns-then-depth-eq0-clause-reads : goal.map-returns-then-depth-eq0-clause-reads
map-returns-then-depth-eq0-clause-reads t c = map_closed (source c.args.tokens) c.args.tokens.turns c.args.depth c.args.builder.now.key (state_of c.args.cursor.now) (state_of c.takes.new.self)
    c.args.cursor.now.seen c.takes.new.self.seen c.if-depth-eq0.true c.in_ok-takes.ensures

pub map-returns-clause-reads : goal.map-returns-clause-reads
map-returns-clause-reads t c =
    let x = source c.args.tokens c.args.cursor.now.at in let r = c.in_ok-entries.ensures.reads in (
      (holder kind.Map c.args.builder.now.key x, r.0),
      map_read (source c.args.tokens) c.args.tokens.turns c.args.depth c.args.builder.now.key r.0
          (state_of c.args.cursor.now) (state_of c.takes.new.self) (state_of c.entries.new.cursor) (state_of c.takes-2.new.self)
          c.args.cursor.now.seen c.takes.new.self.seen c.entries.new.cursor.seen c.takes-2.new.self.seen
          c.if-depth-eq0.false c.in_ok-takes.ensures r.1 c.in_ok-takes-2.ensures,
      held true c.from-from.result x r.0 c.args.builder.now c.begun.new.builder c.entries.new.builder c.ended.new.builder c.in_ok-begun.ensures.ok r.2 c.ended.ensures c.from-from.ensures,
    )

pub items-returns-then-sees-clause-reads : goal.items-returns-then-sees-clause-reads
unfolding items_of
items-returns-then-sees-clause-reads t c = (
  Nil,
  saw (source c.args.tokens) is_rbracket _ _ _ _ c.sees.ensures.token c.if-sees.true c.sees.ensures.state c.sees.ensures.seen refl,
  collected c.args.builder.now c.args.builder.now Nil (refl, c.requires.opened.1) (sym (joined-Nil c.args.builder.now.done)),
)

pub items-returns-clause-reads : goal.items-returns-clause-reads
items-returns-clause-reads t c =
    let r = c.in_ok-node.ensures.reads in let m = c.in_ok-more_items.ensures.reads in (
      Node r.0.0 r.0.1 m.0,
      items_first (source c.args.tokens) c.args.tokens.turns _ _ _ c.args.builder.now.key r.0 m.0 c.sees.result
          (state_of c.args.cursor.now) (state_of c.sees.new.self) (state_of c.node.new.cursor) (state_of c.more_items.new.cursor)
          c.args.cursor.now.seen c.sees.new.self.seen c.node.new.cursor.seen c.more_items.new.cursor.seen
          c.sees.ensures.token c.if-sees.false c.sees.ensures.state c.sees.ensures.seen c.requires.opened.1 r.1 m.1,
      m.2 ∙ all-one c.args.builder.now c.node.new.builder r.0 m.0 r.2,
    )

pub more_items-loop-turn-init : goal.more_items-loop-turn-init
more_items-loop-turn-init t c = (
  (refl, c.requires.opened.1),
  (
    Nil,
    behind-none _ ∙ ap (λ k. behind Nil (more_items_at c.args.tokens c.args.depth k (state_of c.args.cursor.now) c.args.cursor.now.seen)) (sym (less_none c.args.tokens.turns)),
    sym (joined-Nil c.args.builder.now.done),
  ),
)

pub more_items-returns-then-not-sees-clause-reads : goal.more_items-returns-then-not-sees-clause-reads
more_items-returns-then-not-sees-clause-reads t c =
    let i = c.loop-turn.invariant in (
      i.1.0,
      items_end (source c.args.tokens) c.args.tokens.turns _ _ _ c.args.tokens.turns c.loop-turn._turn i.1.0 c.sees.result _
          (state_of c.loop-turn.cursor) (state_of c.sees.new.self) c.loop-turn.cursor.seen c.sees.new.self.seen
          c.loop-turn-test.true i.1.1 c.sees.ensures.token c.if-not-sees.true c.sees.ensures.state c.sees.ensures.seen,
      collected c.args.builder.now c.loop-turn.builder i.1.0 i.0 i.1.2,
    )

pub more_items-loop-turn-preserved : goal.more_items-loop-turn-preserved
more_items-loop-turn-preserved t c =
    let i = c.loop-turn.invariant in let r = c.in_ok-node.ensures.reads in (
      (c.in_ok-node.ensures.level.0 ∙ i.0.0, c.in_ok-node.ensures.level.1),
      (
        snoc i.1.0 r.0.0 r.0.1,
        items_turn (source c.args.tokens) c.args.tokens.turns _ _ _ c.args.tokens.turns c.loop-turn._turn i.1.0 r.0 c.loop-turn.builder.key c.sees.result _
            (state_of c.loop-turn.cursor) (state_of c.sees.new.self) (state_of c.takes.new.self) (state_of c.node.new.cursor)
            c.loop-turn.cursor.seen c.sees.new.self.seen c.takes.new.self.seen c.node.new.cursor.seen
            c.loop-turn-test.true i.1.1 c.sees.ensures.token c.if-not-sees.false c.sees.ensures.state c.sees.ensures.seen c.in_ok-takes.ensures i.0.1 r.1,
        one_more_done c.args.builder.now c.loop-turn.builder c.node.new.builder i.1.0 r.0 i.1.2 r.2,
      ),
    )

pub entries-returns-clause-reads : goal.entries-returns-clause-reads
entries-returns-clause-reads t c =
    let r = c.in_ok-entry.ensures.reads in let m = c.in_ok-more_entries.ensures.reads in (
      Node r.0.0 r.0.1 m.0,
      entries_first (source c.args.tokens) c.args.tokens.turns _ _ _ c.args.builder.now.done c.entry.new.builder.done r.0 m.0 c.sees.result
          (state_of c.args.cursor.now) (state_of c.sees.new.self) (state_of c.entry.new.cursor) (state_of c.more_entries.new.cursor)
          c.args.cursor.now.seen c.sees.new.self.seen c.entry.new.cursor.seen c.more_entries.new.cursor.seen
          c.sees.ensures.token c.if-sees.false c.sees.ensures.state c.sees.ensures.seen c.requires.none r.1 (ap (λ (u : Unfinished). u.done) r.2) m.1,
      m.2 ∙ all-one c.args.builder.now c.entry.new.builder r.0 m.0 r.2,
    )

pub more_entries-loop-turn-init : goal.more_entries-loop-turn-init
more_entries-loop-turn-init t c = (
  (refl, c.requires.opened.1),
  (
    Nil,
    behind-none _ ∙ ap (λ k. behind Nil (more_entries_at c.args.tokens c.args.depth k c.args.builder.now.done (state_of c.args.cursor.now) c.args.cursor.now.seen)) (sym (less_none c.args.tokens.turns)),
    sym (joined-Nil c.args.builder.now.done),
  ),
)

pub more_entries-returns-then-not-sees-clause-reads : goal.more_entries-returns-then-not-sees-clause-reads
more_entries-returns-then-not-sees-clause-reads t c =
    let i = c.loop-turn.invariant in (
      i.1.0,
      entries_end (source c.args.tokens) c.args.tokens.turns _ _ _ c.args.tokens.turns c.loop-turn._turn i.1.0 c.loop-turn.builder.done c.sees.result _
          (state_of c.loop-turn.cursor) (state_of c.sees.new.self) c.loop-turn.cursor.seen c.sees.new.self.seen
          c.loop-turn-test.true i.1.1 c.sees.ensures.token c.if-not-sees.true c.sees.ensures.state c.sees.ensures.seen,
      collected c.args.builder.now c.loop-turn.builder i.1.0 i.0 i.1.2,
    )

pub more_entries-loop-turn-preserved : goal.more_entries-loop-turn-preserved
more_entries-loop-turn-preserved t c =
    let i = c.loop-turn.invariant in let r = c.in_ok-entry.ensures.reads in (
      (c.in_ok-entry.ensures.level.0 ∙ i.0.0, c.in_ok-entry.ensures.level.1),
      (
        snoc i.1.0 r.0.0 r.0.1,
        entries_turn (source c.args.tokens) c.args.tokens.turns _ _ _ c.args.tokens.turns c.loop-turn._turn i.1.0 c.loop-turn.builder.done c.entry.new.builder.done r.0 c.sees.result _
            (state_of c.loop-turn.cursor) (state_of c.sees.new.self) (state_of c.takes.new.self) (state_of c.entry.new.cursor)
            c.loop-turn.cursor.seen c.sees.new.self.seen c.takes.new.self.seen c.entry.new.cursor.seen
            c.loop-turn-test.true i.1.1 c.sees.ensures.token c.if-not-sees.false c.sees.ensures.state c.sees.ensures.seen c.in_ok-takes.ensures r.1 (ap (λ (u : Unfinished). u.done) r.2),
        one_more_done c.args.builder.now c.loop-turn.builder c.entry.new.builder i.1.0 r.0 i.1.2 r.2,
      ),
    )

pub node-returns-then-not-sees-clause-reads : goal.node-returns-then-not-sees-clause-reads
unfolding node
node-returns-then-not-sees-clause-reads t c = let s = source c.args.tokens in
    saw s is_scalar _ _ _ _ c.sees.ensures.token c.if-sees.false c.sees.ensures.state c.sees.ensures.seen
    (saw s is_lbracket _ _ _ _ c.sees-2.ensures.token c.if-sees-2.false c.sees-2.ensures.state c.sees-2.ensures.seen
    (saw s is_lbrace _ _ _ _ c.sees-3.ensures.token c.if-sees-3.false c.sees-3.ensures.state c.sees-3.ensures.seen
    (saw s is_r _ _ _ _ c.sees-4.ensures.token c.if-not-sees.true c.sees-4.ensures.state c.sees-4.ensures.seen refl)))

pub node-returns-then-depth-eq0-clause-reads : goal.node-returns-then-depth-eq0-clause-reads
unfolding node bounded
node-returns-then-depth-eq0-clause-reads t c = let s = source c.args.tokens in
    saw s is_scalar _ _ _ _ c.sees.ensures.token c.if-sees.false c.sees.ensures.state c.sees.ensures.seen
    (saw s is_lbracket _ _ _ _ c.sees-2.ensures.token c.if-sees-2.false c.sees-2.ensures.state c.sees-2.ensures.seen
    (saw s is_lbrace _ _ _ _ c.sees-3.ensures.token c.if-sees-3.false c.sees-3.ensures.state c.sees-3.ensures.seen
    (saw s is_r _ _ _ _ c.sees-4.ensures.token c.if-not-sees.false c.sees-4.ensures.state c.sees-4.ensures.seen
    (bounded_shut s c.args.tokens.turns c.args.depth c.args.builder.now.key _ _ c.if-depth-eq0.true))))

pub node-returns-then-not-sees_range-clause-reads : goal.node-returns-then-not-sees_range-clause-reads
unfolding node bounded
node-returns-then-not-sees_range-clause-reads t c = let s = source c.args.tokens in
    saw s is_scalar _ _ _ _ c.sees.ensures.token c.if-sees.false c.sees.ensures.state c.sees.ensures.seen
    (saw s is_lbracket _ _ _ _ c.sees-2.ensures.token c.if-sees-2.false c.sees-2.ensures.state c.sees-2.ensures.seen
    (saw s is_lbrace _ _ _ _ c.sees-3.ensures.token c.if-sees-3.false c.sees-3.ensures.state c.sees-3.ensures.seen
    (saw s is_r _ _ _ _ c.sees-4.ensures.token c.if-not-sees.false c.sees-4.ensures.state c.sees-4.ensures.seen
    (bounded_open s c.args.tokens.turns c.args.depth c.args.builder.now.key _ _ c.if-depth-eq0.false
    (saw_pair s opens_range _ _ _ _ c.sees_range.ensures.token c.if-not-sees_range.true c.sees_range.ensures.state c.sees_range.ensures.seen refl)))))

pub node-returns-clause-reads : goal.node-returns-clause-reads
unfolding node bounded
node-returns-clause-reads t c = let s = source c.args.tokens in
    subst (λ o. Puts (with_tree c.args.builder.now) o c.range.result c.range.new.builder c.range.new.cursor)
    (sym (saw s is_scalar _ _ _ _ c.sees.ensures.token c.if-sees.false c.sees.ensures.state c.sees.ensures.seen
    (saw s is_lbracket _ _ _ _ c.sees-2.ensures.token c.if-sees-2.false c.sees-2.ensures.state c.sees-2.ensures.seen
    (saw s is_lbrace _ _ _ _ c.sees-3.ensures.token c.if-sees-3.false c.sees-3.ensures.state c.sees-3.ensures.seen
    (saw s is_r _ _ _ _ c.sees-4.ensures.token c.if-not-sees.false c.sees-4.ensures.state c.sees-4.ensures.seen
    (bounded_open s c.args.tokens.turns c.args.depth c.args.builder.now.key _ _ c.if-depth-eq0.false
    (saw_pair s opens_range _ _ _ _ c.sees_range.ensures.token c.if-not-sees_range.false c.sees_range.ensures.state c.sees_range.ensures.seen refl)))))))
    c.range.ensures.reads

pub list-returns-in_err-takes-clause-reads : goal.list-returns-in_err-takes-clause-reads
list-returns-in_err-takes-clause-reads t c =
    halted_read (with_tree c.args.builder.now) (λ _. tt) (list_at c.args.tokens c.args.depth c.args.builder.now.key (state_of c.args.cursor.now) c.args.cursor.now.seen)
    (takes (source c.args.tokens) is_lbracket (state_of c.args.cursor.now) c.args.cursor.now.seen) c.from_residual.result c.in_err-takes.field-0.0 c.args.builder.now c.takes.new.self c.takes.new.self c.from_residual.ensures.1
    (λ k e. list_failed (source c.args.tokens) c.args.tokens.turns c.args.depth c.args.builder.now.key (state_of c.args.cursor.now) c.args.cursor.now.seen k e) c.in_err-takes.ensures

pub list-returns-in_err-items-clause-reads : goal.list-returns-in_err-items-clause-reads
list-returns-in_err-items-clause-reads t c =
    halted_put (with_tree c.args.builder.now) (with_all c.begun.new.builder) (list_at c.args.tokens c.args.depth c.args.builder.now.key (state_of c.args.cursor.now) c.args.cursor.now.seen)
    (items_at c.args.tokens (c.args.depth - 1) (state_of c.takes.new.self) c.takes.new.self.seen) c.from_residual-in_err-items.result c.in_err-items.field-0.0 c.items.new.builder c.items.new.builder c.items.new.cursor c.items.new.cursor c.from_residual-in_err-items.ensures.1
    (λ k e. list_unread (source c.args.tokens) c.args.tokens.turns c.args.depth c.args.builder.now.key (state_of c.args.cursor.now) (state_of c.takes.new.self) c.args.cursor.now.seen c.takes.new.self.seen k c.if-depth-eq0.false c.in_ok-takes.ensures e) c.in_err-items.ensures.reads

pub list-returns-in_err-takes-2-clause-reads : goal.list-returns-in_err-takes-2-clause-reads
list-returns-in_err-takes-2-clause-reads t c =
    let r = c.in_ok-items.ensures.reads in
    halted_read (with_tree c.args.builder.now) (λ _. tt) (list_at c.args.tokens c.args.depth c.args.builder.now.key (state_of c.args.cursor.now) c.args.cursor.now.seen)
    (takes (source c.args.tokens) is_rbracket (state_of c.items.new.cursor) c.items.new.cursor.seen) c.from_residual-in_err-takes-2.result c.in_err-takes-2.field-0.0 c.items.new.builder c.takes-2.new.self c.takes-2.new.self c.from_residual-in_err-takes-2.ensures.1
    (λ k e. list_open (source c.args.tokens) c.args.tokens.turns c.args.depth c.args.builder.now.key r.0 (state_of c.args.cursor.now) (state_of c.takes.new.self) (state_of c.items.new.cursor) c.args.cursor.now.seen c.takes.new.self.seen c.items.new.cursor.seen k c.if-depth-eq0.false c.in_ok-takes.ensures r.1 e) c.in_err-takes-2.ensures

pub map-returns-in_err-takes-clause-reads : goal.map-returns-in_err-takes-clause-reads
map-returns-in_err-takes-clause-reads t c =
    halted_read (with_tree c.args.builder.now) (λ _. tt) (map_at c.args.tokens c.args.depth c.args.builder.now.key (state_of c.args.cursor.now) c.args.cursor.now.seen)
    (takes (source c.args.tokens) is_lbrace (state_of c.args.cursor.now) c.args.cursor.now.seen) c.from_residual.result c.in_err-takes.field-0.0 c.args.builder.now c.takes.new.self c.takes.new.self c.from_residual.ensures.1
    (λ k e. map_failed (source c.args.tokens) c.args.tokens.turns c.args.depth c.args.builder.now.key (state_of c.args.cursor.now) c.args.cursor.now.seen k e) c.in_err-takes.ensures

pub map-returns-in_err-entries-clause-reads : goal.map-returns-in_err-entries-clause-reads
map-returns-in_err-entries-clause-reads t c =
    halted_put (with_tree c.args.builder.now) (with_all c.begun.new.builder) (map_at c.args.tokens c.args.depth c.args.builder.now.key (state_of c.args.cursor.now) c.args.cursor.now.seen)
    (entries_at c.args.tokens (c.args.depth - 1) (state_of c.takes.new.self) c.takes.new.self.seen) c.from_residual-in_err-entries.result c.in_err-entries.field-0.0 c.entries.new.builder c.entries.new.builder c.entries.new.cursor c.entries.new.cursor c.from_residual-in_err-entries.ensures.1
    (λ k e. map_unread (source c.args.tokens) c.args.tokens.turns c.args.depth c.args.builder.now.key (state_of c.args.cursor.now) (state_of c.takes.new.self) c.args.cursor.now.seen c.takes.new.self.seen k c.if-depth-eq0.false c.in_ok-takes.ensures e) c.in_err-entries.ensures.reads

pub map-returns-in_err-takes-2-clause-reads : goal.map-returns-in_err-takes-2-clause-reads
map-returns-in_err-takes-2-clause-reads t c =
    let r = c.in_ok-entries.ensures.reads in
    halted_read (with_tree c.args.builder.now) (λ _. tt) (map_at c.args.tokens c.args.depth c.args.builder.now.key (state_of c.args.cursor.now) c.args.cursor.now.seen)
    (takes (source c.args.tokens) is_rbrace (state_of c.entries.new.cursor) c.entries.new.cursor.seen) c.from_residual-in_err-takes-2.result c.in_err-takes-2.field-0.0 c.entries.new.builder c.takes-2.new.self c.takes-2.new.self c.from_residual-in_err-takes-2.ensures.1
    (λ k e. map_open (source c.args.tokens) c.args.tokens.turns c.args.depth c.args.builder.now.key r.0 (state_of c.args.cursor.now) (state_of c.takes.new.self) (state_of c.entries.new.cursor) c.args.cursor.now.seen c.takes.new.self.seen c.entries.new.cursor.seen k c.if-depth-eq0.false c.in_ok-takes.ensures r.1 e) c.in_err-takes-2.ensures

pub more_items-returns-in_err-takes-clause-reads : goal.more_items-returns-in_err-takes-clause-reads
more_items-returns-in_err-takes-clause-reads t c =
    let i = c.loop-turn.invariant in
    let total = more_items_at c.args.tokens c.args.depth c.args.tokens.turns (state_of c.args.cursor.now) c.args.cursor.now.seen in
    halted_read (with_all c.args.builder.now) (λ _. tt) total (takes (source c.args.tokens) is_comma (state_of c.sees.new.self) c.sees.new.self.seen)
    c.from_residual.result c.in_err-takes.field-0.0 c.loop-turn.builder c.takes.new.self c.takes.new.self c.from_residual.ensures.1
    (λ k e. items_untaken (source c.args.tokens) c.args.tokens.turns _ _ _ c.args.tokens.turns c.loop-turn._turn i.1.0 c.sees.result total
    (state_of c.loop-turn.cursor) (state_of c.sees.new.self) c.loop-turn.cursor.seen c.sees.new.self.seen k
    c.loop-turn-test.true i.1.1 c.sees.ensures.token c.if-not-sees.false c.sees.ensures.state c.sees.ensures.seen e)
    c.in_err-takes.ensures

pub more_items-returns-in_err-node-clause-reads : goal.more_items-returns-in_err-node-clause-reads
more_items-returns-in_err-node-clause-reads t c =
    let i = c.loop-turn.invariant in
    let total = more_items_at c.args.tokens c.args.depth c.args.tokens.turns (state_of c.args.cursor.now) c.args.cursor.now.seen in
    halted_put (with_all c.args.builder.now) (with_tree c.loop-turn.builder) total (node_at c.args.tokens c.args.depth c.loop-turn.builder.key (state_of c.takes.new.self) c.takes.new.self.seen)
    c.from_residual-in_err-node.result c.in_err-node.field-0.0 c.node.new.builder c.node.new.builder c.node.new.cursor c.node.new.cursor c.from_residual-in_err-node.ensures.1
    (λ k e. items_unread (source c.args.tokens) c.args.tokens.turns _ _ _ c.args.tokens.turns c.loop-turn._turn i.1.0 c.loop-turn.builder.key c.sees.result total
    (state_of c.loop-turn.cursor) (state_of c.sees.new.self) (state_of c.takes.new.self) c.loop-turn.cursor.seen c.sees.new.self.seen c.takes.new.self.seen k
    c.loop-turn-test.true i.1.1 c.sees.ensures.token c.if-not-sees.false c.sees.ensures.state c.sees.ensures.seen c.in_ok-takes.ensures i.0.1 e)
    c.in_err-node.ensures.reads

pub more_entries-returns-in_err-takes-clause-reads : goal.more_entries-returns-in_err-takes-clause-reads
more_entries-returns-in_err-takes-clause-reads t c =
    let i = c.loop-turn.invariant in
    let total = more_entries_at c.args.tokens c.args.depth c.args.tokens.turns c.args.builder.now.done (state_of c.args.cursor.now) c.args.cursor.now.seen in
    halted_read (with_all c.args.builder.now) (λ _. tt) total (takes (source c.args.tokens) is_comma (state_of c.sees.new.self) c.sees.new.self.seen)
    c.from_residual.result c.in_err-takes.field-0.0 c.loop-turn.builder c.takes.new.self c.takes.new.self c.from_residual.ensures.1
    (λ k e. entries_untaken (source c.args.tokens) c.args.tokens.turns _ _ _ c.args.tokens.turns c.loop-turn._turn i.1.0 c.loop-turn.builder.done c.sees.result total
    (state_of c.loop-turn.cursor) (state_of c.sees.new.self) c.loop-turn.cursor.seen c.sees.new.self.seen k
    c.loop-turn-test.true i.1.1 c.sees.ensures.token c.if-not-sees.false c.sees.ensures.state c.sees.ensures.seen e)
    c.in_err-takes.ensures

pub more_entries-returns-in_err-entry-clause-reads : goal.more_entries-returns-in_err-entry-clause-reads
more_entries-returns-in_err-entry-clause-reads t c =
    let i = c.loop-turn.invariant in
    let total = more_entries_at c.args.tokens c.args.depth c.args.tokens.turns c.args.builder.now.done (state_of c.args.cursor.now) c.args.cursor.now.seen in
    halted_put (with_all c.args.builder.now) (with_tree c.loop-turn.builder) total (entry_at c.args.tokens c.args.depth c.loop-turn.builder.done (state_of c.takes.new.self) c.takes.new.self.seen)
    c.from_residual-in_err-entry.result c.in_err-entry.field-0.0 c.entry.new.builder c.entry.new.builder c.entry.new.cursor c.entry.new.cursor c.from_residual-in_err-entry.ensures.1
    (λ k e. entries_unread (source c.args.tokens) c.args.tokens.turns _ _ _ c.args.tokens.turns c.loop-turn._turn i.1.0 c.loop-turn.builder.done c.sees.result total
    (state_of c.loop-turn.cursor) (state_of c.sees.new.self) (state_of c.takes.new.self) c.loop-turn.cursor.seen c.sees.new.self.seen c.takes.new.self.seen k
    c.loop-turn-test.true i.1.1 c.sees.ensures.token c.if-not-sees.false c.sees.ensures.state c.sees.ensures.seen c.in_ok-takes.ensures e)
    c.in_err-entry.ensures.reads

pub list-returns-clause-level : goal.list-returns-clause-level
list-returns-clause-level t c =
    let x = source c.args.tokens c.args.cursor.now.at in let r = c.in_ok-items.ensures.reads in
    level_with c.args.builder.now c.ended.new.builder (holder kind.List c.args.builder.now.key x, r.0)
    (held false c.from-from.result x r.0 c.args.builder.now c.begun.new.builder c.items.new.builder c.ended.new.builder c.in_ok-begun.ensures.ok r.2 c.ended.ensures c.from-from.ensures)

pub map-returns-clause-level : goal.map-returns-clause-level
map-returns-clause-level t c =
    let x = source c.args.tokens c.args.cursor.now.at in let r = c.in_ok-entries.ensures.reads in
    level_with c.args.builder.now c.ended.new.builder (holder kind.Map c.args.builder.now.key x, r.0)
    (held true c.from-from.result x r.0 c.args.builder.now c.begun.new.builder c.entries.new.builder c.ended.new.builder c.in_ok-begun.ensures.ok r.2 c.ended.ensures c.from-from.ensures)

pub items-returns-clause-level : goal.items-returns-clause-level
items-returns-clause-level t c = level_further c.args.builder.now c.node.new.builder c.more_items.new.builder c.in_ok-node.ensures.level c.in_ok-more_items.ensures.level

pub entries-returns-clause-level : goal.entries-returns-clause-level
entries-returns-clause-level t c = level_further c.args.builder.now c.entry.new.builder c.more_entries.new.builder c.in_ok-entry.ensures.level c.in_ok-more_entries.ensures.level

pub entry-returns-clause-level : goal.entry-returns-clause-level
entry-returns-clause-level t c = level_keyed c.args.builder.now c.key.new.self c.node.new.builder _ c.in-Ok.ensures.ok.0 c.in_ok-node.ensures.level
