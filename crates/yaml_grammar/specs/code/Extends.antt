-- Longer texts: where reading goes on behind a node outside of brackets, and a token that its bytes tell is ahead.
use Rattle.std.specs.Prelude.{ℕ, Bool, ◌||◌, ◌&&◌, ◌+◌, ◌-◌, ◌*◌, ◌≡◌, ◌≤◌, ◌<◌, ◌⊎◌, true, false, List, [], ◌++◌, length, drop, Result, Ok, Err, IsUtf8, if◌then◌else◌}
use Rattle.std.specs.Str.{IsCharBoundary}
use Rattle.doc_values.specs.Tree.{Forest}
use Rattle.doc_values.specs.Unfinished.{Unfinished}
use Rattle.yaml_scalars.specs.Lines.{begins_with, ends_with}
use Rattle.yaml_grammar.specs.declared.ahead.Token.TheVariants.{Closes, Point}
use Rattle.yaml_grammar.specs.declared.form.Form.{Form}
use Rattle.yaml_grammar.specs.declared.stage.Stage.{Stage}
use Rattle.yaml_grammar.specs.declared.stage.Stage.TheVariants as stage
use Rattle.yaml_grammar.specs.declared.stage.Position.{Position}
use Rattle.yaml_grammar.specs.declared.stop.Stop.{Stop}
use Rattle.yaml_grammar.specs.Ahead.{ahead}
use Rattle.yaml_grammar.specs.Signs.{Reading, Tree}
use Rattle.yaml_grammar.specs.Yaml.{text_start}
use Rattle.yaml_grammar.specs.code.AheadSeen.{ahead_seen, is_told}
use Rattle.yaml_grammar.specs.code.Rest.{top, Awaits}
use Rattle.yaml_grammar.specs.code.Steps.{IsBlock, IsFlow, Fits, Goes}
use Rattle.yaml_grammar.specs.code.Twins.{settled}

-- a colon is ahead, on the line of what stands in front of it, and ends the text
abbrev pub IsPointed : List ℕ → ℕ → Type 0
IsPointed text i = ((ahead text false i).fresh ≡ false) × ((ahead text false i).token ≡ Point true) × (length text ≤ (ahead text false i).behind)

-- reading goes on in another text too; or no tree follows there, and a `!` is ahead
abbrev pub Comes : List ℕ → List ℕ → (Reading → Type 0) → ℕ → List Form → Unfinished → Position → Type 0
Comes text other P n gs w p = Goes other P n gs w p ⊎ ((begins_with 33 (drop (ahead text false p.at).at text) ≡ true) × ((t : Forest) → P (Tree t) → ⊥))

-- where a value of a block was awaited: so it is in each longer text, where no carriage return ends this one; and the place is settled within this one
abbrev pub ExtendsValue : List ℕ → List Form → Unfinished → ℕ → List Form → Unfinished → Result Position Stop → Type 0
ExtendsValue text fs u i gs w (Ok p) =
    p.stage ≡ stage.After → ends_with 13 text ≡ false → text_start text ≤ i → is_told (ahead text false p.at).token ≡ true
    → (settled text false stage.Value i ≤ length text - 1) × (fs ≡ [] → ahead_seen text i < length text)
    × ((more : List ℕ) → IsUtf8 (text ++ more) → IsCharBoundary (text ++ more) i → Fits (text ++ more) stage.Value fs u i → Comes text (text ++ more) (λ v. Awaits (text ++ more) fs u.outer u.done u.key i v) (2 * i + 1) gs w p)
ExtendsValue text fs u i gs w (Err e) = Unit {0}

-- behind a node outside of brackets reading goes on at a value, or not at all
abbrev pub Leaves : Result Position Stop → Type 0
Leaves (Ok p) = p.stage ≡ stage.After → ⊥
Leaves (Err e) = Unit {0}

-- between brackets: where reading goes on behind a node outside of them, they closed
abbrev pub Shuts : List ℕ → ℕ → List Form → Result Position Stop → Type 0
Shuts text i gs (Ok p) = p.stage ≡ stage.After → IsBlock (top gs) → (map : Bool) × ((ahead text true i).token ≡ Closes map) × (p.at ≡ (ahead text true i).behind)
Shuts text i gs (Err e) = Unit {0}

abbrev pub ExtendsStep : List ℕ → Stage → List Form → Unfinished → ℕ → List Form → Unfinished → Result Position Stop → Type 0
ExtendsStep text s fs u i gs w r = (IsBlock (top fs) → (s ≡ stage.Value → ExtendsValue text fs u i gs w r) × (s ≡ stage.After → Leaves r)) × (IsFlow (top fs) → Shuts text i gs r)

-- a colon or a `!` stands in front
abbrev pub begins_firm : List ℕ → Bool
begins_firm bytes = begins_with 58 bytes || begins_with 33 bytes

-- the place of the byte that settles where the root begins: such a byte itself, or what shows it
abbrev pub root_seen : List ℕ → ℕ → ℕ
root_seen text i = if is_told (ahead text false i).token && begins_firm (drop (ahead text false i).at text) then (ahead text false i).at else ahead_seen text i
