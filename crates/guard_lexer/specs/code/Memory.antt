-- Which texts take memory.
use Rattle.std.specs.Prelude.{ℕ, false, List}
use Rattle.guard_lexer.specs.declared.token.Token.{Token}
use Rattle.guard_lexer.specs.Lexes.{Starts, Takes}

-- a token stands in front of the bytes, behind a gap
abbrev pub HasToken : ℕ → List ℕ → Type 0
HasToken at bytes = (token : Token) × (rest : List ℕ) × Takes false at bytes token rest

-- a text in which there is a token, in front of any fault
abbrev pub BeginsToken : List ℕ → Type 0
BeginsToken text = (at : ℕ) × (bytes : List ℕ) × Starts text at bytes × HasToken at bytes
