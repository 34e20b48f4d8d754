-- Rule files with one canonical text are the same in all but places.
use Rattle.std.proofs.Common.{◌≡◌, ℕ, List, None, Ok, sym, ap, ◌∙◌, subst}
use Rattle.guard_lexer.specs.declared.token.Token.{Token}
use Rattle.guard_lexer.specs.Lexes.{IsTokenList}
use Rattle.guard_lexer.proofs.Unique.{only_tokens}
use Rattle.guard_syntax.specs.Syntax.{File}
use Rattle.guard_parser.specs.File.{IsSpelled, Rules}
use Rattle.guard_parser.proofs.Laws.{one_syntax_is}
use Rattle.rule_spelling.specs.code.Pieces.{tokens_from}
use Rattle.rule_printer.specs.RuleText.{rule_text}
use Rattle.rule_printer.specs.code.RulePieces.{rule_pieces}
use Rattle.printer_laws.specs.code.Unplaced.{unplaced, AreSameButPlaces}
use Rattle.printer_laws.proofs.PrintedRead.{printed_spelled, printed_tokens}
use Rattle.printer_laws.proofs.SameTexts.{rule_text-same}

tokens_same : (text : List ℕ) (ts us : List Token) → IsTokenList text ts → IsTokenList text us → ts ≡ us
tokens_same text ts us (at, bytes, starts, reads) h = only_tokens (λ (v : List Token). v) (Ok ts) text at bytes starts reads tt us h

-- what a text is read as, it is by whatever tokens
read_same : (text : List ℕ) (ts us : List Token) (f g : File) → IsTokenList text ts → IsTokenList text us → IsSpelled text ts f None → IsSpelled text us g None → f ≡ g
read_same text ts us f g h k p q =
    (one_syntax_is text ts f g None None p (subst (λ (xs : List Token). IsSpelled text xs g None) (sym (tokens_same text ts us h k)) q)).0

pub read_alike : (text : List ℕ) (tokens : List Token) (f : File) → IsTokenList text tokens → Rules text tokens f → (others : List Token) (g : File) → IsTokenList (rule_text f) others → Rules (rule_text f) others g
    → AreSameButPlaces g f × (rule_text g ≡ rule_text f)
read_alike text tokens f listed rules others g h (shallow, spelled) =
    let told = printed_spelled text tokens f listed rules in
    let same : unplaced g ≡ unplaced f = ap unplaced (read_same (rule_text f) others (tokens_from 0 (rule_pieces f)) g told.0 h (printed_tokens text tokens f listed rules) spelled told.2) ∙ told.1 in
    (same, rule_text-same g f same)

pub texts_alike : (text text_too : List ℕ) (tokens others : List Token) (f g : File) → IsTokenList text tokens → Rules text tokens f → IsTokenList text_too others → Rules text_too others g
    → rule_text f ≡ rule_text g → AreSameButPlaces f g
texts_alike text text_too tokens others f g listed rules listed_too rules_too e =
    let one = printed_spelled text tokens f listed rules in
    let two = printed_spelled text_too others g listed_too rules_too in
    let first = tokens_from 0 (rule_pieces f) in
    let second = tokens_from 0 (rule_pieces g) in
    let same : one.0 ≡ two.0 =
    read_same (rule_text f) first second one.0 two.0 (printed_tokens text tokens f listed rules)
    (subst (λ (x : List ℕ). IsTokenList x second) (sym e) (printed_tokens text_too others g listed_too rules_too))
    one.2 (subst (λ (x : List ℕ). IsSpelled x second two.0 None) (sym e) two.2) in
    sym one.1 ∙ ap unplaced same ∙ two.1
