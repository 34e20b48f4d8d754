-- A scalar behind the tag `!GetAtt` that breaks off at the text's end, where a list of two would be one collection too many.
use Rattle.std.specs.Prelude.{ℕ, ◌≡◌, ◌<◌, ◌⊎◌, Bool, true, false, List, ◌&&◌, ◌||◌, not, length, drop, nat_eq, nat_lt, if◌then◌else◌}
use Rattle.std.specs.Str.{IsCharBoundary}
use Rattle.yaml_scalars.specs.declared.scalar.Setting.{Setting}
use Rattle.yaml_scalars.specs.Lines.{Stands, Fails, begins_with, ends_with}
use Rattle.yaml_scalars.specs.Scalar.{begins_block}
use Rattle.doc_values.specs.Unfinished.{Unfinished}
use Rattle.yaml_laws.specs.code.Dots.{spells_dot, undotted}
use Rattle.yaml_grammar.specs.declared.ahead.Ahead.{Ahead}
use Rattle.yaml_grammar.specs.declared.form.Form.{Form}
use Rattle.yaml_grammar.specs.declared.stop.Stop.{Stop}
use Rattle.yaml_grammar.specs.declared.stop.Stop.TheVariants as stop
use Rattle.yaml_grammar.specs.Nodes.{follows_get_att, scalar_ahead, setting_of}
use Rattle.yaml_grammar.specs.code.Closers.{HasRoom}
use Rattle.yaml_grammar.specs.code.Points.{is_pointed}
use Rattle.yaml_grammar.specs.code.StopPlaces.{within}

-- the scalar at a token runs out with the text: it fails at the text's end, or a colon that ends the text stands behind it
abbrev pub RunsOut : List ℕ → Bool → Setting → Ahead → Type 0
RunsOut text flow s a = (scalar_ahead text s a ≡ Fails (length text)) ⊎ ((t : List ℕ) × (e : ℕ) × (scalar_ahead text s a ≡ Stands t e) × (a.at < e) × IsCharBoundary text e × (is_pointed text flow a.at e ≡ true))

-- a quoted or plain one behind the tag, which has no room; no carriage return ends the text
abbrev pub IsSplit : List ℕ → Bool → List Form → Unfinished → Form → ℕ → Ahead → Type 0
IsSplit text flow fs u f i a =
    (ends_with 13 text ≡ false) × (begins_block (setting_of f) (drop a.at text) ≡ false) × (follows_get_att text f i ≡ true) × (HasRoom text a.at (length u.outer) → ⊥) × RunsOut text flow (setting_of f) a

-- there is room for one that is split
abbrev pub IsRoomy : List ℕ → Unfinished → Form → ℕ → Ahead → Type 0
IsRoomy text u f i a = begins_block (setting_of f) (drop a.at text) ≡ false → follows_get_att text f i ≡ true → HasRoom text a.at (length u.outer)

-- a dot, or, where there are escapes, a backslash and behind it the escape of one
abbrev pub shows_dot : Bool → ℕ → List ℕ → Bool
shows_dot escapes b bs = nat_eq b 46 || (escapes && (nat_eq b 92 && spells_dot bs))

-- a dot stands among the bytes of a scalar so far
abbrev pub has_dot : List ℕ → Bool
has_dot bytes = not (undotted (begins_with 34 bytes) false bytes)

-- whether there is no room, where so many collections are open
abbrev pub is_split : List ℕ → ℕ → Form → ℕ → ℕ → Bool
is_split text depth f i at = not (nat_lt depth 128) && (follows_get_att text f i && (not (begins_block (setting_of f) (drop at text)) && has_dot (drop at text)))

-- then the place of the last byte for the text's length
abbrev pub split_place : List ℕ → Bool → ℕ → ℕ
split_place text split q = if split then within text q else q

-- the same by why reading stops
abbrev pub split_stop : List ℕ → Bool → Stop → Stop
split_stop text split (stop.Unread q) = stop.Unread (split_place text split q)
split_stop text split e = e

-- where reading stops in a scalar at the length, it runs out
abbrev pub RunsOn : List ℕ → Bool → Setting → Ahead → ℕ → Type 0
RunsOn text flow s a q = q ≡ length text → RunsOut text flow s a

-- that is said of a place where reading stops in a scalar, if it is not the length, or if there is room for one that is split
abbrev pub InRoom : List ℕ → Unfinished → Form → ℕ → Ahead → (ℕ → Type 0) → ℕ → Type 0
InRoom text u f i a holds q = (q ≡ length text → IsRoomy text u f i a) → holds q
