-- What makes a document of a text that breaks off.
use Rattle.std.specs.Prelude.{ℕ, zero, suc, ◌≡◌, ◌⊎◌, ◌<◌, ◌≤◌, Bool, true, false, List, [], ◌∷◌, ◌++◌, ◌||◌, Option, length, drop, nat_eq}
use Rattle.doc_values.specs.Tree.{Forest}
use Rattle.doc_values.specs.Unfinished.{Level}
use Rattle.yaml_scalars.specs.Lines.{Stands, Fails, begins_with, each, is_cut_mark}
use Rattle.yaml_scalars.specs.Scalar.{scalar_at}
use Rattle.yaml_scalars.specs.code.Walk.{line_at}
use Rattle.yaml_laws.specs.code.Dots.{undotted}
use Rattle.yaml_laws.specs.code.Refusals.{is_ascii}
use Rattle.yaml_grammar.specs.declared.ahead.Ahead.{Ahead}
use Rattle.yaml_grammar.specs.declared.ahead.Token.{Token}
use Rattle.yaml_grammar.specs.declared.ahead.Token.TheVariants.{End, Dashes, Dots, Point}
use Rattle.yaml_grammar.specs.declared.form.Form.{Form}
use Rattle.yaml_grammar.specs.declared.form.Form.TheVariants.{Root, Flow, FlowTagged, Items, Entries, Tagged}
use Rattle.yaml_grammar.specs.Ahead.{ahead}
use Rattle.yaml_grammar.specs.Blocks.{takes_scalar}
use Rattle.yaml_grammar.specs.Nodes.{as_key, setting_of, scalar_ahead, starts_scalar}
use Rattle.yaml_grammar.specs.Signs.{Tree}
use Rattle.yaml_grammar.specs.code.Rest.{Awaits}
use Rattle.yaml_grammar.specs.code.Steps.{IsBlock}

-- the bracket that closes a map or a list
abbrev pub closer : Bool → ℕ
closer true = 125
closer false = 93

abbrev pub is_closer : ℕ → Bool
is_closer b = nat_eq b 93 || nat_eq b 125

-- a closing bracket for each open flow collection, the innermost first
abbrev pub closers : List Form → List ℕ
closers [] = []
closers (Root ∷ fs) = closers fs
closers (Flow map ∷ fs) = closer map ∷ closers fs
closers (FlowTagged at ∷ fs) = closers fs
closers (Items m ∷ fs) = closers fs
closers (Entries m ∷ fs) = closers fs
closers (Tagged at above shares ∷ fs) = closers fs

-- nothing stands behind a place: it is the text's end, or nothing is ahead of it and the text ends in a line feed
abbrev pub IsSpent : List ℕ → ℕ → Type 0
IsSpent text i = (i ≡ length text) ⊎ ((before : List ℕ) × (text ≡ before ++ (10 ∷ [])) × (i ≤ length before) × ((ahead text false i).token ≡ End))

-- neither the text's end is ahead nor a line `---` or `...`
abbrev pub IsFirm : Token → Type 0
IsFirm End = ⊥
IsFirm Dashes = ⊥
IsFirm Dots = ⊥
IsFirm _ = Unit {0}

-- whether a form lies in brackets
abbrev pub in_flow : Form → Bool
in_flow Root = false
in_flow (Flow map) = true
in_flow (FlowTagged at) = true
in_flow (Items m) = false
in_flow (Entries m) = false
in_flow (Tagged at above shares) = false

-- a scalar may begin at a token, as its place tells; in flow any place does
abbrev pub MayBegin : Form → Ahead → Type 0
MayBegin f a = IsBlock f → takes_scalar f a ≡ true

-- a scalar of a form may begin at what is ahead of a place, and none stands there: it fails at the text's end
abbrev pub BreaksOff : List ℕ → Form → ℕ → Type 0
BreaksOff text f i =
    let a : Ahead = ahead text (in_flow f) i in
    MayBegin f a × (starts_scalar a.token ≡ true) × (a.at < length text) × (scalar_at (setting_of f) text a.at ≡ Fails (length text))

-- in front of a carriage return stand no three bytes of a mark that begin a line, and no `-` alone
abbrev pub IsUncut : List ℕ → Ahead → Type 0
IsUncut text a = (a.fresh ≡ true → a.column ≡ 0 → is_cut_mark (line_at (drop a.at text)) ≡ false) × (drop a.at text ≡ 45 ∷ 13 ∷ [] → ⊥)

-- with some bytes of ASCII behind the text a document follows where a value may stand
abbrev pub MendsValue : List ℕ → List Form → List Level → Forest → Option (List ℕ) → ℕ → Type 0
MendsValue text fs outer done key i = (more : List ℕ) × (each is_ascii more ≡ true) × (tree : Forest) × Awaits (text ++ more) fs outer done key i (Tree tree)

-- a key that ends at a place, and its colon on the line, up to a place behind it
abbrev pub HasColon : List ℕ → Ahead → List ℕ → ℕ → ℕ → Type 0
HasColon text a t e p = (scalar_ahead text (as_key false) a ≡ Stands t e) × ((ahead text false e).fresh ≡ false) × ((ahead text false e).token ≡ Point true) × (p ≡ (ahead text false e).behind)

-- so many letters a
abbrev pub letters : ℕ → List ℕ
letters zero = []
letters (suc n) = 97 ∷ letters n

-- a list of two may stand for a scalar, or no dot stands so far among its bytes
abbrev pub HasRoom : List ℕ → ℕ → ℕ → Type 0
HasRoom text at depth = (depth < 128) ⊎ (undotted (begins_with 34 (drop at text)) false (drop at text) ≡ true)
