use Rattle.std.proofs.Common.{◌+◌, Some, Option, sym, refl, subst, arith}
use Rattle.std.specs.Prelude.{slice_set}
use Rattle.std.specs.Cow.{cow_str_bytes}
use Rattle.doc_values.specs.declared.arena.Awaited.{Awaited}
use Rattle.doc_values.specs.code.Index.{IsKnown, IsAwaited, Takes}
use Rattle.doc_values.proofs.NamedKeys.{awaited_same}
use Rattle.key_names.proofs.Table.{on_err}
use Rattle.doc_values.proofs.Growing.{numbered_found}
use Rattle.doc_values.proofs.arena.take_key.Goals as goal

pub known_name-requires-clause-known : goal.known_name-requires-clause-known
known_name-requires-clause-known c = subst (IsKnown c.args.names.now) c.in-Some.is c.requires.known

pub follow-requires-clause-table : goal.follow-requires-clause-table
follow-requires-clause-table c = (numbered_found c.args.names.now c.known_name.new.names c.args.last.now.items c.known_name.new.last.items (cow_str_bytes c.in-Some.waiting.text) c.in_ok-name.name c.requires.table c.requires.counted c.in_ok-name.ensures.ok).table

pub follow-requires-clause-within : goal.follow-requires-clause-within
follow-requires-clause-within c = (numbered_found c.args.names.now c.known_name.new.names c.args.last.now.items c.known_name.new.last.items (cow_str_bytes c.in-Some.waiting.text) c.in_ok-name.name c.requires.table c.requires.counted c.in_ok-name.ensures.ok).within

pub index_mut-requires : goal.index_mut-requires
index_mut-requires c =
    let place = (numbered_found c.args.names.now c.known_name.new.names c.args.last.now.items c.known_name.new.last.items (cow_str_bytes c.in-Some.waiting.text) c.in_ok-name.name c.requires.table c.requires.counted c.in_ok-name.ensures.ok).place in
    omega (arith, place, c.known_name.new.last.ok.0)

pub returns-clause-ok : goal.returns-clause-ok
returns-clause-ok c = subst (λ (key : Option Awaited). Takes key c.args.names.now c.args.last.now.items c.args.number (record { name = Some c.in_ok-name.name; link = c.known_name.new.key.link }) c.follow.new.self (slice_set c.known_name.new.last.items c.in_ok-name.name (c.args.number + 1))) (sym c.in-Some.is) (record {
  n = c.in_ok-name.name;
  between = c.known_name.new.names;
  fresh = c.known_name.new.last.items;
  numbered = c.in_ok-name.ensures.ok;
  same = record { table = c.follow.ensures.table; texts = c.follow.ensures.texts };
  name = refl;
  link = c.known_name.ensures.link;
  placed = refl;
})

pub returns-in_err-name-clause-kept : goal.returns-in_err-name-clause-kept
returns-in_err-name-clause-kept c =
    let err = c.in_err-name.ensures.err in
    on_err c.from_residual.result (λ es a. awaited_same es c.args.names.now c.known_name.new.names c.in-Some.waiting c.known_name.new.key c.requires.table err.0 err.1 c.known_name.ensures.name c.known_name.ensures.link c.known_name.ensures.under (subst (IsAwaited es c.args.names.now) c.in-Some.is a))
