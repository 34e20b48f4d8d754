use Rattle.std.proofs.Common.{◌≡◌, ℕ, ◌<◌, ◌≤◌, ◌+◌, List, [], ◌∷◌, ◌++◌, length, get_or, map, take, ap, sym, ◌∙◌, subst, arith}
use Rattle.std.proofs.lemmas.List.{map_more, take_all}
use Rattle.guard_lexer.specs.declared.token.Token.{Token}
use Rattle.literal_parser.specs.declared.token_class.TokenClass.{TokenClass}
use Rattle.literal_parser.specs.Lexemes.{lexeme_of}
use Rattle.literal_parser.specs.code.Cuts.{IsTokenIn}
use Rattle.literal_parser.specs.code.TokenClasses.{shape_of}
use Rattle.literal_parser.proofs.lexeme.shapes_of.Goals as goal

-- over any shape of a token, so that none is computed
module _ (f : Token → TokenClass) (tokens : List Token) (i : ℕ) (shapes : List TokenClass) (so_far : shapes ≡ map f (take i tokens)) where
  one_more : (token : Token) (shape : TokenClass) (more : List TokenClass) → i < length tokens → token ≡ get_or tokens i token → shape ≡ f token → more ≡ shapes ++ shape ∷ []
      → more ≡ map f (take (i + 1) tokens)
  one_more token shape more within item e pushed =
      pushed ∙ ap (λ (xs : List TokenClass). xs ++ shape ∷ []) so_far ∙ ap (λ (x : TokenClass). map f (take i tokens) ++ x ∷ []) (e ∙ ap f item) ∙ sym (map_more f tokens i token within)

  no_more : length tokens ≤ i → shapes ≡ map f tokens
  no_more behind = so_far ∙ ap (map f) (take_all i tokens behind)

pub loop-token-preserved : goal.loop-token-preserved
loop-token-preserved c = (
  one_more (λ (t : Token). shape_of (lexeme_of c.args.text.now t)) c.args.tokens.now c.loop-token.token-index c.loop-token.shapes.items c.loop-token.invariant.0
      c.token-item.result c.shape_of.result c.push.new.self.items c.loop-token-test.true c.token-item.is c.shape_of.ensures c.in-Ok.ensures.items,
  (let l = c.in-Ok.ensures.len in let i = c.loop-token.invariant.1 in omega arith),
  (let l = c.in-Ok.ensures.capacity in let i = c.loop-token.invariant.2 in omega arith),
)

pub loop-token-init : goal.loop-token-init
loop-token-init c = (c.in_ok-shapes.ensures.items, c.in_ok-shapes.ensures.len, let e = c.in_ok-shapes.ensures.exact in omega arith)

pub returns : goal.returns
returns c =
    no_more (λ (t : Token). shape_of (lexeme_of c.args.text.now t)) c.args.tokens.now c.loop-token.token-index c.loop-token.shapes.items c.loop-token.invariant.0
    c.loop-token-test.false

pub shape_of-requires-in-loop-token : goal.shape_of-requires-in-loop-token
shape_of-requires-in-loop-token c = subst (λ (t : Token). IsTokenIn c.args.text.now t) (sym c.token-item.is) (c.requires c.loop-token.token-index c.token-item.result c.loop-token-test.true)
