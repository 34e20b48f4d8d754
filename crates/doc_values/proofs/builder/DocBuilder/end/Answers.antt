use Rattle.std.proofs.lemmas.Grind.{common_steps}
use Rattle.std.proofs.Common.{◌≡◌, [], ◌∷◌, ◌++◌, ap, refl, ◌∙◌, None, arith}
use Rattle.doc_values.specs.Unfinished.{with_end, Unfinished}
use Rattle.doc_values.specs.code.Growth.{key_of}
use Rattle.doc_values.specs.code.Kept.{unfinished}
use Rattle.doc_values.proofs.Steps.{Kept-end, IsGrowing-of, no_key}
use Rattle.doc_values.proofs.builder.DocBuilder.end.Goals as goal

pub invariant_of-self : goal.invariant_of-self
invariant_of-self c =
    let b = c.self.inside in
    let none : key_of b.arena.key ≡ None = ap (λ (u : Unfinished). u.key) c.self.view_is ∙ c.requires.awaited.1 in
    let last : b.seats.items ≡ c.pop.new.self.items ++ (c.in-Some.seat ∷ []) = c.in-Some.ensures.items in
    IsGrowing-of c.pop.new.self.items c.in-Some.seat b.arena b.arena.rows None refl (no_key b.arena.key none) (Kept-end b.seats.items b.seat b.arena.rows (key_of b.arena.key) c.pop.new.self.items c.in-Some.seat _ c.self.view_is c.requires.awaited last c.self.invariant.kept).0 tt

pub returns-clause-ok : goal.returns-clause-ok
returns-clause-ok c =
    let b = c.self.inside in
    let none : key_of b.arena.key ≡ None = ap (λ (u : Unfinished). u.key) c.self.view_is ∙ c.requires.awaited.1 in
    let last : b.seats.items ≡ c.pop.new.self.items ++ (c.in-Some.seat ∷ []) = c.in-Some.ensures.items in
    ap (unfinished c.in-Some.seat.depth b.arena.rows) none ∙ (Kept-end b.seats.items b.seat b.arena.rows (key_of b.arena.key) c.pop.new.self.items c.in-Some.seat _ c.self.view_is c.requires.awaited last c.self.invariant.kept).1 ∙ ap with_end c.self.view_is

pub unreachable-requires : goal.unreachable-requires
unreachable-requires c = grind (arith, common_steps)
