use Rattle.std.proofs.Common.{◌<◌, ℕ, length, sym, ap, ◌∙◌, subst, Option, arith}
use Rattle.std.proofs.lemmas.Grind.{get_or_default_zero}
use Rattle.std.proofs.lemmas.Slice.Eq.{bytes_eq-Decides}
use Rattle.key_names.specs.code.Names.{name_of, texts_of, IsBefore}
use Rattle.key_names.proofs.names.Names.number.Goals as goal

pub returns-then-eq : goal.returns-then-eq
returns-then-eq c =
    let guess : ℕ = c.index-guess.result.now in
    let count : ℕ = length (texts_of c.args.self.now) in
    let same = (bytes_eq-Decides c.text.result.now c.args.key.now).0 (sym c.eq.ensures ∙ c.if-eq.true) in
    let before : c.in-Some.before < count = subst (λ (o : Option ℕ). IsBefore o count) c.in-Some.is c.requires.before in
    let followed = c.requires.followed in
    let place : c.in-Some.before < length c.args.self.now.followers.items = omega arith in
    let at = c.index-guess.ensures ∙ get_or_default_zero c.args.self.now.followers.items c.in-Some.before guess place in
    let below = c.requires.follows c.in-Some.before place in
    let within : guess < count = omega arith in
    sym (c.requires.listed guess within) ∙ ap (name_of c.args.self.now) (sym c.text.ensures ∙ same)
