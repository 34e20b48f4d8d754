-- Each lexeme of a text's tokens is read back from its spelling.
use Rattle.std.proofs.Common.{◌≡◌, ℕ, zero, suc, true, false, ◌&&◌, List, [], ◌∷◌, map, Option, Some, None, refl, ap, ◌∙◌}
use Rattle.std.specs.Prelude.{slice_index_or}
use Rattle.std.specs.List.{list_all}
use Rattle.guard_lexer.specs.declared.token.Token.{Token}
use Rattle.guard_lexer.specs.declared.token.TokenKind.{TokenKind}
use Rattle.guard_lexer.specs.declared.token.TokenKind.TheVariants as k
use Rattle.guard_lexer.specs.Bytes.{is_word, Each}
use Rattle.guard_lexer.specs.Forms.{IsName}
use Rattle.guard_lexer.specs.Lexes.{IsTokenList}
use Rattle.literal_parser.specs.declared.keyword.Keyword.{Keyword}
use Rattle.literal_parser.specs.declared.keyword.Keyword.TheVariants as kw
use Rattle.literal_parser.specs.Lexemes.{Reserved, keyword_of, name_word, word_of, lexeme_of, lexemes, ending}
use Rattle.rule_spelling.proofs.Words.{text_word, pattern_word, variable_word, note_is}
use Rattle.rule_words.specs.WordText.{is_name}
use Rattle.rule_printer.specs.code.Spellable.{IsKey}
use Rattle.rule_printer.proofs.SoundWords.{IsSound, lexeme_sound, key_has}
use Rattle.printer_laws.specs.code.Shown.{IsReadBack, IsQuotable}

all_word : (bytes : List ℕ) → Each is_word bytes → list_all is_word bytes ≡ true
all_word [] h = refl
all_word (b ∷ bytes) (e, h) = ap (λ v. v && list_all is_word bytes) e ∙ all_word bytes h

named : (bytes : List ℕ) → IsName bytes → is_name bytes ≡ true
named [] h = absurd h
named (b ∷ bytes) (e, h) = ap (λ v. v && list_all is_word bytes) e ∙ all_word bytes h

quotable : (text : List ℕ) → IsKey text → IsQuotable text
quotable text h = (text_word false text h).1

name_quotable : (text : List ℕ) → IsName text → IsQuotable text
name_quotable text h = quotable text (key_has (Reserved kw.Let text) h refl)

name_read : (text : List ℕ) (o : Option Keyword) → keyword_of text ≡ o → IsSound (name_word o text) → IsReadBack (name_word o text)
name_read text None e h = (e, named text h, name_quotable text h)
name_read text (Some keyword) e h = (e, named text h, name_quotable text h)

word_read : (kind : TokenKind) (bytes : List ℕ) → IsSound (word_of kind bytes) → IsReadBack (word_of kind bytes)
word_read k.Name bytes h = name_read bytes (keyword_of bytes) refl h
word_read k.TypeName bytes h = tt
word_read k.Var bytes h = (variable_word false _ h).1
word_read k.Str bytes h = quotable _ h
word_read k.Pat bytes h = (pattern_word false _ h).1
word_read (k.Whole n) bytes h = tt
word_read (k.Fraction d) bytes h = tt
word_read k.Note bytes h = (note_is false _ h.open_end h.front h.back).1
word_read (k.Mark mark) bytes h = tt

module _ (text : List ℕ) where
  listed_read : (ts : List Token) (i : ℕ) → IsSound (slice_index_or (map (lexeme_of text) ts) i (ending text)).word → IsReadBack (slice_index_or (map (lexeme_of text) ts) i (ending text)).word
  listed_read [] i h = tt
  listed_read (t ∷ ts) zero h = word_read t.kind _ h
  listed_read (t ∷ ts) (suc i) h = listed_read ts i h

pub lexeme_read : (text : List ℕ) (tokens : List Token) → IsTokenList text tokens → (i : ℕ) → IsReadBack (lexemes text tokens i).word
lexeme_read text tokens h i = listed_read text tokens i (lexeme_sound text tokens h i)
