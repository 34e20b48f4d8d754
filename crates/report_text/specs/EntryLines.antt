-- The lines of the entries under a rule that fails.
use Rattle.std.specs.Prelude.{ℕ, List, [], ◌∷◌, ◌++◌, Option, Some, None, codes, unwrap_or, slice_index_or}
use Rattle.doc_values.specs.Places.{label_at}
use Rattle.doc_values.specs.Tree.{Forest, Nil}
use Rattle.guard_syntax.specs.Syntax.{File, Part, test, refer, call}
use Rattle.rule_names.specs.Pieces.{Piece, OfPart, piece_at}
use Rattle.rule_meaning.specs.StoreModel.{literal_at}
use Rattle.rule_meaning.specs.Fails.{Entry, Shown, OfValue, OfCall, Word, IsValue, IsMissing, IsRows, IsRule, IsCall}
use Rattle.rule_meaning.specs.Locations.{LocatedOrigin, Template, Literal, Made}
use Rattle.report_text.specs.Messages.{note_text}
use Rattle.report_text.specs.Paths.{Down, path_of, path_text}
use Rattle.report_text.specs.Spelling.{place_text}
use Rattle.report_text.specs.Texts.{Texts, data_place}

-- the path of a node of the data tree: its root is `.`
abbrev pub data_path : List Down → List ℕ
data_path [] = codes "."
data_path (step ∷ steps) = path_text (step ∷ steps)

-- the place at which the part of a site begins in the text of the rules
abbrev pub site_text : File → (rules : List ℕ) → ℕ → List ℕ
site_text file rules site = place_text rules (slice_index_or file.places site 0)

-- the path and the place of a node of a literal
abbrev pub literal_text : (rules : List ℕ) → Forest → ℕ → List ℕ
literal_text rules tree node = codes "literal" ++ (path_text (path_of tree node) ++ (codes " " ++ place_text rules (label_at tree node).at))

-- the path and the place of a node: of the data tree and of a literal its own, each in its own text; of what a call made the place of the call
abbrev pub node_text : File → (tree : Forest) → Texts → LocatedOrigin → ℕ → List ℕ
node_text file tree texts Template node = data_path (path_of tree node) ++ (codes " " ++ data_place texts tree node)
node_text file tree texts (Literal site) node = literal_text texts.rules (unwrap_or (literal_at file site) Nil) node
node_text file tree texts (Made site made) node = codes "call" ++ (path_text (path_of made node) ++ (codes " " ++ site_text file texts.rules site))

-- the path and the place of what is shown: a key has those of its entry's value, and a call that did not apply has no path
abbrev pub shown_text : File → (tree : Forest) → Texts → Shown → List ℕ
shown_text file tree texts (OfValue v) = node_text file tree texts v.origin v.node
shown_text file tree texts (OfCall site) = codes "call " ++ site_text file texts.rules site

abbrev pub word_text : Word → List ℕ
word_text IsValue = codes "value"
word_text IsMissing = codes "missing"
word_text IsRows = codes "rows"
word_text IsRule = codes "rule"
word_text IsCall = codes "call"

-- the message of a part; a block has none of its own
abbrev pub note_of_part : Part → Option (List ℕ)
note_of_part (test site any left op negated right note) = note
note_of_part (refer site negated name note) = note
note_of_part (call site negated name args note) = note
note_of_part _ = None

abbrev pub note_of : Option Piece → Option (List ℕ)
note_of (Some (OfPart part)) = note_of_part part
note_of _ = None

-- what an entry's line says behind the path and the place
abbrev pub cause_text : File → (rules : List ℕ) → Word → (part : ℕ) → List ℕ
cause_text file rules word part =
    codes " " ++ (word_text word ++ (codes " by " ++ (site_text file rules part ++ (note_text (note_of (piece_at file part)) ++ codes "\n"))))

-- `  <path> <place> <word> by <place of the part>`, and the message of the part in quotes, where it has one
abbrev pub entry_line : File → (tree : Forest) → Texts → Entry → List ℕ
entry_line file tree texts entry =
    codes "  " ++ (shown_text file tree texts entry.shown ++ cause_text file texts.rules entry.word entry.part)
