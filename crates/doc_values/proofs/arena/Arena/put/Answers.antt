use Rattle.std.proofs.Common.{◌≡◌, ◌<◌, ◌≤◌, ◌++◌, ◌∷◌, [], List, ℕ, Option, None, length, refl, sym, subst, ap, ◌∙◌, arith}
use Rattle.std.specs.Cow.{cow_str_bytes}
use Rattle.key_names.specs.code.Names.{texts_of}
use Rattle.doc_values.specs.declared.uses.Uses.{Uses}
use Rattle.doc_values.specs.code.Entries.{Entry, rows_in}
use Rattle.doc_values.specs.code.Growth.{Awaited, Growth, key_of, IsFor}
use Rattle.doc_values.specs.code.Stored.{kind_of, text_of}
use Rattle.doc_values.specs.code.Index.{row_of, IsNewUnder, awaited_in}
use Rattle.doc_values.proofs.Entries.{length-rows_in}
use Rattle.doc_values.proofs.NamedKeys.{known_of, IsSame-itself}
use Rattle.doc_values.proofs.Growing.{IsArena-as, IsArena-more, IsArena-same, IsTakenWell, taken_well, rows_few, rows_few-more, rows_taken, entry}
use Rattle.doc_values.proofs.arena.Arena.put.Goals as goal

pub invariant_of-self : goal.invariant_of-self
invariant_of-self c =
    let a = c.self.inside in
    let room = c.make_room in
    let uses : Uses = record { last = a.uses.last; links = room.new.links } in
    IsArena-as a.nodes.items room.new.nodes.items a.starts.items room.new.starts.items a.slots.items room.new.slots.items a.names uses a.key a.key room.ensures.nodes room.ensures.starts room.ensures.slots refl
    (IsArena-same a.nodes.items a.starts.items a.slots.items a.names a.names a.uses uses a.key a.key c.self.invariant (IsSame-itself a.names c.self.invariant.used.table) refl room.ensures.links c.self.invariant.awaited)

pub invariant_of-self-in_err-content : goal.invariant_of-self-in_err-content
invariant_of-self-in_err-content c =
    let a = c.self.inside in
    let room = c.make_room in
    let uses : Uses = record { last = a.uses.last; links = room.new.links } in
    IsArena-as a.nodes.items room.new.nodes.items a.starts.items room.new.starts.items a.slots.items room.new.slots.items a.names uses a.key a.key room.ensures.nodes room.ensures.starts room.ensures.slots refl
    (IsArena-same a.nodes.items a.starts.items a.slots.items a.names a.names a.uses uses a.key a.key c.self.invariant (IsSame-itself a.names c.self.invariant.used.table) refl room.ensures.links c.self.invariant.awaited)

pub take_key-requires-clause-table : goal.take_key-requires-clause-table
take_key-requires-clause-table c = c.self.invariant.used.table

pub take_key-requires-clause-counted : goal.take_key-requires-clause-counted
take_key-requires-clause-counted c = c.self.invariant.used.counted

pub push_reserved-requires : goal.push_reserved-requires
push_reserved-requires c = c.in_ok-make_room.ensures.room.4

pub push_reserved-requires-2 : goal.push_reserved-requires-2
push_reserved-requires-2 c = c.in_ok-make_room.ensures.room.2

pub push_reserved-requires-3 : goal.push_reserved-requires-3
push_reserved-requires-3 c = c.in_ok-make_room.ensures.room.3

pub push_reserved-requires-4 : goal.push_reserved-requires-4
push_reserved-requires-4 c = c.in_ok-make_room.ensures.room.1

pub returns-clause-taken : goal.returns-clause-taken
returns-clause-taken c = ap awaited_in c.in_ok-taken.ensures.taken

pub returns-in_err-make_room-clause-small : goal.returns-in_err-make_room-clause-small
returns-in_err-make_room-clause-small c =
    let a = c.self.inside in
    rows_few (texts_of a.names) a.nodes.items c.make_room.new.nodes.items c.make_room.ensures.nodes c.self.invariant.small

pub returns-in_err-content-clause-small : goal.returns-in_err-content-clause-small
returns-in_err-content-clause-small c =
    let a = c.self.inside in
    rows_few (texts_of a.names) a.nodes.items c.make_room.new.nodes.items c.make_room.ensures.nodes c.self.invariant.small

pub returns-in_err-taken-clause-small : goal.returns-in_err-taken-clause-small
returns-in_err-taken-clause-small c =
    let a = c.self.inside in
    rows_few (texts_of c.take_key.new.names) a.nodes.items c.make_room.new.nodes.items c.make_room.ensures.nodes c.self.invariant.small

pub returns-clause-small : goal.returns-clause-small
returns-clause-small c =
    rows_few-more (texts_of c.take_key.new.names) c.make_room.new.nodes.items c.push_reserved-4.new.self.items (entry c.args.seat (kind_of c.in_ok-content.content) (text_of c.in_ok-content.content) c.in_ok-taken.taken.name c.args.at) c.push_reserved-4.ensures.items c.in_ok-make_room.ensures.room.0

pub take_key-requires-clause-known : goal.take_key-requires-clause-known
take_key-requires-clause-known c = known_of c.self.inside.nodes.items c.self.inside.names c.self.inside.key c.self.invariant.awaited

pub invariant_of-self-in_err-taken : goal.invariant_of-self-in_err-taken
invariant_of-self-in_err-taken c =
    let a = c.self.inside in
    let same = c.in_err-taken.ensures.same in
    let room = c.make_room in
    let uses : Uses = record { last = c.take_key.new.last; links = room.new.links } in
    IsArena-as a.nodes.items room.new.nodes.items a.starts.items room.new.starts.items a.slots.items room.new.slots.items c.take_key.new.names uses c.take_key.new.key c.take_key.new.key room.ensures.nodes room.ensures.starts room.ensures.slots refl
    (IsArena-same a.nodes.items a.starts.items a.slots.items a.names c.take_key.new.names a.uses uses a.key c.take_key.new.key c.self.invariant same.0 same.1 room.ensures.links (c.in_err-taken.ensures.kept a.nodes.items c.self.invariant.awaited))

well : (c : goal.After-push_reserved-4) → IsTakenWell c.self.inside.nodes.items c.self.inside.names c.take_key.new.names c.take_key.new.last.items c.self.inside.uses.links.items c.self.inside.key c.in_ok-taken.taken (entry c.args.seat (kind_of c.in_ok-content.content) (text_of c.in_ok-content.content) c.in_ok-taken.taken.name c.args.at)
well c =
    let a = c.self.inside in
    let inv = c.self.invariant in
    let r : Entry = entry c.args.seat (kind_of c.in_ok-content.content) (text_of c.in_ok-content.content) c.in_ok-taken.taken.name c.args.at in
    let n : c.len-number.result ≡ length a.nodes.items = c.len-number.ensures ∙ c.make_room.new.nodes.ok.0 ∙ ap (λ (es : List Entry). length es) c.make_room.ensures.nodes in
    let long = length-rows_in (texts_of a.names) a.nodes.items in
    let rows = ap (λ (g : Growth). length g.rows) c.self.view_is in
    let low : c.args.seat.under ≤ length a.nodes.items = omega (arith, c.requires.low) in
    let stands = subst (λ (k : Option Awaited). IsFor c.args.seat.under k) (sym (ap (λ (g : Growth). g.key) c.self.view_is)) c.requires.key in
    taken_well a.nodes.items a.names c.take_key.new.names a.uses.last.items c.take_key.new.last.items a.uses.links.items a.key c.in_ok-taken.taken c.len-number.result r n low refl stands inv.used inv.awaited c.in_ok-taken.ensures.ok

pub invariant_of-self-2 : goal.invariant_of-self-2
invariant_of-self-2 c =
    let a = c.self.inside in
    let taken = c.in_ok-taken.taken in
    let r : Entry = entry c.args.seat (kind_of c.in_ok-content.content) (text_of c.in_ok-content.content) taken.name c.args.at in
    let m : length a.nodes.items < 2147483647 = subst (λ (es : List Entry). length es < 2147483647) c.make_room.ensures.nodes c.in_ok-make_room.ensures.room.0 in
    let links = c.push_reserved.ensures.items ∙ ap (λ (xs : List ℕ). xs ++ taken.link ∷ []) c.make_room.ensures.links in
    let fresh = subst (λ (g : Growth). IsNewUnder g.rows c.args.seat.under (key_of g.key)) (sym c.self.view_is) c.requires.new in
    let room = c.make_room in
    let uses : Uses = record { last = c.take_key.new.last; links = c.push_reserved.new.self } in
    let nodes = c.push_reserved-4.ensures.items ∙ ap (λ (es : List Entry). es ++ r ∷ []) room.ensures.nodes in
    let starts = c.push_reserved-2.ensures.items ∙ ap (λ (xs : List ℕ). xs ++ 0 ∷ []) room.ensures.starts in
    let slots = c.push_reserved-3.ensures.items ∙ ap (λ (xs : List ℕ). xs ++ 0 ∷ []) room.ensures.slots in
    IsArena-as (a.nodes.items ++ r ∷ []) c.push_reserved-4.new.self.items (a.starts.items ++ 0 ∷ []) c.push_reserved-2.new.self.items (a.slots.items ++ 0 ∷ []) c.push_reserved-3.new.self.items c.take_key.new.names uses None c.take_key.new.key nodes starts slots c.in_ok-taken.ensures.taken
    (IsArena-more a.nodes.items a.starts.items a.slots.items a.names c.take_key.new.names a.uses uses a.key taken r m c.self.invariant (well c) links fresh)

pub returns-clause-rows : goal.returns-clause-rows
returns-clause-rows c =
    let a = c.self.inside in
    let taken = c.in_ok-taken.taken in
    let view = ap (λ (g : Growth). g.rows ++ row_of c.args.seat (record { kind = c.args.kind; text = cow_str_bytes c.args.text; key = key_of g.key; at = c.args.at }) ∷ []) c.self.view_is in
    let r : Entry = entry c.args.seat (kind_of c.in_ok-content.content) (text_of c.in_ok-content.content) taken.name c.args.at in
    let nodes = c.push_reserved-4.ensures.items ∙ ap (λ (es : List Entry). es ++ r ∷ []) c.make_room.ensures.nodes in
    ap (rows_in (texts_of c.take_key.new.names)) nodes ∙ rows_taken a.nodes.items a.names c.take_key.new.names c.take_key.new.last.items a.uses.links.items a.key taken c.args.seat (kind_of c.in_ok-content.content) c.args.kind (text_of c.in_ok-content.content) (cow_str_bytes c.args.text) taken.name c.args.at (well c) c.in_ok-content.ensures.kind c.in_ok-content.ensures.text ∙ view
