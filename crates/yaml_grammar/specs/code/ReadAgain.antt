-- Where a text that ends in a carriage return is read again, with a line feed behind it.
use Rattle.std.specs.Prelude.{ℕ, List, [], ◌∷◌, ◌++◌, ◌≡◌, Option, Some, None, Result, Ok, Err, IsUtf8}
use Rattle.std.specs.Str.{IsCharBoundary}
use Rattle.doc_values.specs.Tree.{Forest}
use Rattle.doc_values.specs.Unfinished.{Unfinished}
use Rattle.yaml_grammar.specs.declared.form.Form.{Form}
use Rattle.yaml_grammar.specs.declared.stage.Stage.{Stage}
use Rattle.yaml_grammar.specs.declared.stage.Position.{Position}
use Rattle.yaml_grammar.specs.declared.stop.Stop.{Stop}
use Rattle.yaml_grammar.specs.declared.stop.Stop.TheVariants as stop
use Rattle.yaml_grammar.specs.Places.{IsFront, IsSyntax}
use Rattle.yaml_grammar.specs.Signs.{Tree}
use Rattle.yaml_grammar.specs.code.Rest.{Awaits, Ends}
use Rattle.yaml_grammar.specs.code.Twins.{NoRest}

-- why reading stops in the longer text: at a place, or at a sign that no document can begin with
abbrev pub StopsAgain : List ℕ → Stop → Type 0
StopsAgain fed (stop.Unread at) = IsSyntax fed at
StopsAgain fed stop.NoMemory = ⊥
StopsAgain fed _ = IsFront fed → ⊥

-- what reading says of a text that ends in a carriage return and a line feed: it is a document, or why it stops
abbrev pub SaysAgain : List ℕ → Option Stop → Type 0
SaysAgain fed None = IsFront fed
SaysAgain fed (Some stop.NoMemory) = Unit {0}
SaysAgain fed (Some e) = StopsAgain fed e

-- another text begins with one that ends in a carriage return and a line feed
abbrev pub Extends : List ℕ → List ℕ → Type 0
Extends text other = (front rest : List ℕ) × (text ≡ front ++ (13 ∷ 10 ∷ [])) × (other ≡ text ++ rest) × IsUtf8 other

-- nothing follows at a stage in such a text that is a tree
abbrev pub NoneLonger : List ℕ → Stage → List Form → Unfinished → ℕ → Type 0
NoneLonger text s fs u i = (other : List ℕ) → Extends text other → NoRest s fs u i other

-- nor where a node is awaited between brackets
abbrev pub NoneAwaited : List ℕ → List Form → Unfinished → ℕ → Type 0
NoneAwaited text fs u i = (other : List ℕ) → Extends text other → (t : Forest) → Awaits other fs u.outer u.done u.key i (Tree t) → ⊥

-- what is so where reading stops at a sign
abbrev pub OnSign : Type 0 → Result Position Stop → Type 0
OnSign holds (Ok p) = Unit {0}
OnSign holds (Err (stop.Unread q)) = Unit {0}
OnSign holds (Err stop.NoMemory) = Unit {0}
OnSign holds (Err _) = holds

-- a sign leaves nothing that follows in a longer text and is a tree
abbrev pub SignStays : List ℕ → Stage → List Form → Unfinished → ℕ → Result Position Stop → Type 0
SignStays text s fs u i r = OnSign (NoneLonger text s fs u i) r

-- a sign that counts in a text that ends in a carriage return and a line feed leaves no document that begins with the text
abbrev pub SignsAgain : List ℕ → Stop → Type 0
SignsAgain text (stop.Unread at) = Unit {0}
SignsAgain text stop.NoMemory = Unit {0}
SignsAgain text _ = (front : List ℕ) → text ≡ front ++ (13 ∷ 10 ∷ []) → IsFront text → ⊥

-- nothing follows in a longer text behind a complete node outside of brackets
abbrev pub NoneBehind : List ℕ → List Form → Unfinished → ℕ → Type 0
NoneBehind text fs u i = (other : List ℕ) → Extends text other → IsCharBoundary other i → (t : Forest) → Ends other fs u.outer u.done i (Tree t) → ⊥
