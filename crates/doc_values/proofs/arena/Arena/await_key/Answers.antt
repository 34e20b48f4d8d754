use Rattle.std.proofs.Common.{List, Some, refl, sym, ap, subst}
use Rattle.doc_values.specs.code.Rows.{Row}
use Rattle.doc_values.specs.code.Entries.{Entry}
use Rattle.doc_values.specs.code.Growth.{Growth}
use Rattle.key_names.specs.code.Names.{texts_of}
use Rattle.doc_values.specs.code.Uses.{IsOpen}
use Rattle.doc_values.specs.code.Index.{IsAwaited, IsOpenUnder, IsUsed}
use Rattle.doc_values.proofs.Entries.{IsOpen-rows}
use Rattle.doc_values.proofs.NamedKeys.{IsSame-itself}
use Rattle.doc_values.proofs.Growing.{IsArena-same}
use Rattle.doc_values.proofs.arena.Arena.await_key.Goals as goal

pub new_key-requires-clause-open : goal.new_key-requires-clause-open
new_key-requires-clause-open c =
    let a = c.self.inside in
    subst (λ (es : List Entry). IsOpen es c.args.under) (sym c.deref.ensures.value) (IsOpen-rows (texts_of a.names) a.nodes.items c.args.under (subst (λ (rs : List Row). IsOpenUnder rs c.args.under) (sym (ap (λ (g : Growth). g.rows) c.self.view_is)) c.requires.open))

pub invariant_of-self : goal.invariant_of-self
invariant_of-self c =
    let a = c.self.inside in
    let awaited = subst (λ (es : List Entry). IsAwaited es a.names (Some c.in-Some.key)) c.deref.ensures.value c.in-Some.ensures.2 in
    IsArena-same a.nodes.items a.starts.items a.slots.items a.names a.names a.uses a.uses a.key (Some c.in-Some.key) c.self.invariant (IsSame-itself a.names c.self.invariant.used.table) refl refl awaited

pub new_key-requires-clause-used : goal.new_key-requires-clause-used
new_key-requires-clause-used c =
    let a = c.self.inside in
    subst (λ (es : List Entry). IsUsed es a.names a.uses.last.items a.uses.links.items) (sym c.deref.ensures.value) c.self.invariant.used
