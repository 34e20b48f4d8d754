use Rattle.std.proofs.Common.{◌≡◌, ℕ, suc, ◌+◌, ap, sym, refl, ◌∙◌, arith}
use Rattle.literal_parser.specs.Forms.{is_r, is_opening_end}
use Rattle.literal_parser.specs.code.TokenClasses.{shape_of}
use Rattle.literal_parser.specs.code.Reads.{source}
use Rattle.literal_parser.proofs.Places.{told, no_r, no_bracket, by_places}
use Rattle.literal_parser.proofs.token_cursor.Cursor.sees_range.Goals as goal

pub returns-then-not-accepts-2-clause-token : goal.returns-then-not-accepts-2-clause-token
returns-then-not-accepts-2-clause-token c =
    let place : c.args.self.now.at + 1 ≡ suc c.args.self.now.at = omega arith in
    let y = source c.args.tokens (suc c.args.self.now.at) in
    no_bracket (source c.args.tokens c.args.self.now.at) y
    (sym (told is_opening_end c.shape-2.result y c.accepts-2.result c.accepts-2.ensures (c.shape-2.ensures ∙ ap (λ (i : ℕ). shape_of (source c.args.tokens i)) place)) ∙ c.if-not-accepts-2.true)

pub returns-then-not-accepts-clause-token : goal.returns-then-not-accepts-clause-token
returns-then-not-accepts-clause-token c =
    no_r (source c.args.tokens c.args.self.now.at) (source c.args.tokens (suc c.args.self.now.at))
    (sym (told is_r c.shape.result (source c.args.tokens c.args.self.now.at) c.accepts.result c.accepts.ensures c.shape.ensures) ∙ c.if-not-accepts.true)

pub returns-clause-token : goal.returns-clause-token
returns-clause-token c =
    let place : c.args.self.now.at + 1 ≡ suc c.args.self.now.at = omega arith in
    let x = source c.args.tokens c.args.self.now.at in
    let y = source c.args.tokens (suc c.args.self.now.at) in
    by_places x y c.from.result c.to.result
    (sym (told is_r c.shape.result x c.accepts.result c.accepts.ensures c.shape.ensures) ∙ c.if-not-accepts.false)
    (sym (told is_opening_end c.shape-2.result y c.accepts-2.result c.accepts-2.ensures (c.shape-2.ensures ∙ ap (λ (i : ℕ). shape_of (source c.args.tokens i)) place)) ∙ c.if-not-accepts-2.false)
    (c.from.ensures ∙ ap (λ (i : ℕ). (source c.args.tokens i).from) place) c.to.ensures

pub returns-clause-state : goal.returns-clause-state
returns-clause-state c = refl
