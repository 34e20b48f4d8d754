-- What nodes are made of, in flow and in blocks. Every rule goes from a place to a place. Sections and productions are those
-- of YAML 1.2.2.
use Rattle.std.specs.Prelude.{ℕ, ℤ, zero, suc, ◌-◌, ◌+◌, ◌<◌, ◌≡◌, ◌⊎◌, Bool, ◌||◌, ◌&&◌, ◌∷◌, take, drop, length, nat_eq, nat_lt, true, false, List, [], Option, Some, None, negsuc, pos, if◌then◌else◌}
use Rattle.std.specs.List.{position_or_len, before_first, after_first}
use Rattle.std.specs.Str.{bytes_eq}
use Rattle.doc_values.specs.declared.kind.Kind.{Kind}
use Rattle.doc_values.specs.declared.kind.Kind.TheVariants as kind
use Rattle.doc_values.specs.Tree.{Label, Forest, Nil, Node, has_text, has_key}
use Rattle.doc_values.specs.Unfinished.{open_kind}
use Rattle.yaml_scalars.specs.declared.scalar.Setting.{Setting}
use Rattle.yaml_scalars.specs.Lines.{Outcome, Stands, Fails, Documents}
use Rattle.yaml_scalars.specs.Scalar.{scalar_at, is_typed, HasKind}
use Rattle.yaml_grammar.specs.declared.ahead.Ahead.{Ahead}
use Rattle.yaml_grammar.specs.declared.ahead.Token.{Token}
use Rattle.yaml_grammar.specs.declared.ahead.Token.TheVariants.{Dashes, Dots, Tag, NoTag, Opens, Point, Anchor, Other}
use Rattle.yaml_grammar.specs.declared.form.Form.{Form}
use Rattle.yaml_grammar.specs.declared.form.Form.TheVariants.{Root, Flow, FlowTagged, Items, Entries, Tagged}
use Rattle.yaml_grammar.specs.Signs as sign
use Rattle.yaml_grammar.specs.Signs.{Sign, ManyDocuments, DuplicateKey, TooDeep, Reach, To, Shows}

-- the indentation above which this is the least
abbrev pub below : ℕ → ℤ
below zero = negsuc 0
below (suc n) = pos n

-- how scalars stand: nodes by what they stand in, keys in flow and outside of it
abbrev pub setting_of : Form → Setting
setting_of Root = record { parent = negsuc 0; flow = false; one_line = false }
setting_of (Flow map) = record { parent = negsuc 0; flow = true; one_line = false }
setting_of (FlowTagged at) = record { parent = negsuc 0; flow = true; one_line = false }
setting_of (Items m) = record { parent = pos m; flow = false; one_line = false }
setting_of (Entries m) = record { parent = pos m; flow = false; one_line = false }
setting_of (Tagged at above shares) = record { parent = below above; flow = false; one_line = false }

abbrev pub as_key : Bool → Setting
as_key flow = record { parent = negsuc 0; flow = flow; one_line = true }

-- a tag's name, from the place of its `!` to the place behind it, and the key that it stands for
abbrev pub tag_name : List ℕ → ℕ → ℕ → List ℕ
tag_name text at behind = take (behind - (at + 1)) (drop (at + 1) text)

abbrev pub get_att : List ℕ
get_att = 71 ∷ 101 ∷ 116 ∷ 65 ∷ 116 ∷ 116 ∷ []

-- whether what begins at a place stands behind the tag of that name
abbrev pub follows_get_att : List ℕ → Form → ℕ → Bool
follows_get_att text Root i = false
follows_get_att text (Flow map) i = false
follows_get_att text (FlowTagged at) i = bytes_eq (tag_name text at i) get_att
follows_get_att text (Items m) i = false
follows_get_att text (Entries m) i = false
follows_get_att text (Tagged at above shares) i = bytes_eq (tag_name text at i) get_att

abbrev pub ref_text : List ℕ
ref_text = 82 ∷ 101 ∷ 102 ∷ []

abbrev pub condition_text : List ℕ
condition_text = 67 ∷ 111 ∷ 110 ∷ 100 ∷ 105 ∷ 116 ∷ 105 ∷ 111 ∷ 110 ∷ []

abbrev pub tag_key : List ℕ → List ℕ
tag_key name = if bytes_eq name ref_text || bytes_eq name condition_text then name else 70 ∷ 110 ∷ 58 ∷ 58 ∷ name

-- a value that holds none
abbrev pub leaf : Kind → List ℕ → Option (List ℕ) → ℕ → Label
leaf k text key at = record { kind = k; text = if has_text k then text else []; key = key; at = at }

abbrev pub collection : Bool → Option (List ℕ) → ℕ → Label
collection map key at = record { kind = open_kind map; text = []; key = key; at = at }

-- behind the tag `!GetAtt` a text is cut at its first dot, if it has one
abbrev pub is_dot : ℕ → Bool
is_dot b = nat_eq b 46

abbrev pub is_cut : Bool → Kind → List ℕ → Bool
is_cut cuts kind.Text t = cuts && nat_lt (position_or_len is_dot t) (length t)
is_cut cuts _ t = false

-- what a scalar from one place to another stands for; one that is cut, for a list of the part before the dot and the part
-- behind it, or in 128 collections for none
abbrev pub IsValue : Bool → ℕ → Kind → List ℕ → Option (List ℕ) → ℕ → ℕ → Label → Forest → Reach → Type 0
IsValue false d k t key at j l kids r = (l ≡ leaf k t key at) × (kids ≡ Nil) × (r ≡ To j)
IsValue true d k t key at j l kids r =
    ((d < 128) × (l ≡ collection false key at) × (kids ≡ Node (leaf kind.Text (before_first is_dot t) None at) Nil (Node (leaf kind.Text (after_first is_dot t) None at) Nil Nil)) × (r ≡ To j))
    ⊎ ((d ≡ 128) × (r ≡ Shows (TooDeep at)))

-- a scalar begins where no other token stands; a colon may begin a plain one
abbrev pub starts_scalar : Token → Bool
starts_scalar Other = true
starts_scalar (Point loose) = true
starts_scalar _ = false

-- the sign that a token is where a node or a key may begin, with its place: an anchor or an alias, or a tag that is no short
-- one; behind a tag any tag
abbrev pub node_sign : Bool → ℕ → Token → Option Sign
node_sign tagged at Anchor = Some (sign.Anchor at)
node_sign tagged at NoTag = Some (sign.Tag at)
node_sign tagged at (Tag len) = if tagged then Some (sign.Tag at) else None
node_sign tagged at _ = None

-- whether a node stands behind a tag
abbrev pub is_tagged : Form → Bool
is_tagged Root = false
is_tagged (Flow map) = false
is_tagged (FlowTagged at) = true
is_tagged (Items m) = false
is_tagged (Entries m) = false
is_tagged (Tagged at above shares) = true

-- a sign is shown
abbrev pub IsSigned : Option Sign → Reach → Type 0
IsSigned o r = (s : Sign) × (o ≡ Some s) × (r ≡ Shows s)

-- whether a line `---` or `...` is ahead
abbrev pub is_marked : Token → Bool
is_marked Dashes = true
is_marked Dots = true
is_marked _ = false

-- what stands in a collection: its form, how many collections are open, whether an entry is the first, and which stand
-- before; from the place where the entries begin to what the collection reaches
abbrev pub Contents : Type 1
Contents = Form → ℕ → Bool → Forest → ℕ → Reach → Type 0

-- at most 128 collections stand in each other: what a further one reaches is what it holds, or it shows that it is too many
-- where it surely begins
abbrev pub Within : (Reach → Type 0) → Type 0 → ℕ → Bool → ℕ → Option (List ℕ) → Label → Reach → Type 0
Within holds begins d map at key l r = ((d < 128) × (l ≡ collection map key at) × holds r) ⊎ (begins × (d ≡ 128) × (r ≡ Shows (TooDeep at)))

-- section 7.2: a missing node is null at its place
abbrev pub IsMissing : Option (List ℕ) → Label → Forest → ℕ → Reach → Type 0
IsMissing key l kids i r = (l ≡ leaf kind.Null [] key i) × (kids ≡ Nil) × (r ≡ To i)

-- `c-flow-sequence` (137) and `c-flow-mapping` (140): a bracket, and what it opens
abbrev pub IsCollection : Contents → ℕ → Ahead → Option (List ℕ) → Label → Reach → Type 0
IsCollection holds d a key l r = (map : Bool) × (a.token ≡ Opens map) × Within (holds (Flow map) (suc d) true Nil a.behind) (Unit {0}) d map a.at key l r

module _ (text : List ℕ) where
  -- the scalar that begins at a token, if one does
  abbrev pub scalar_ahead : Setting → Ahead → Outcome
  scalar_ahead s a = if starts_scalar a.token then scalar_at s text a.at else Fails a.at

  -- section 7.3 and chapter 8.1: the scalar that begins at a place; or in its quotes a line `---` or `...`
  abbrev pub IsScalar : Setting → Bool → ℕ → Ahead → Option (List ℕ) → Label → Forest → Reach → Type 0
  IsScalar s cuts d a key l kids r =
      ((t : List ℕ) × (k : Kind) × (j : ℕ) × (scalar_ahead s a ≡ Stands t j) × HasKind (is_typed s text a.at) t k × IsValue (is_cut cuts k t) d k t key a.at j l kids r)
      ⊎ ((p : ℕ) × (scalar_ahead s a ≡ Documents p) × (r ≡ Shows (ManyDocuments p)))

  -- section 3.2.1.1: a key that stands before; a scalar that is complete on its line where only a key may stand is one, with or
  -- without its colon
  abbrev pub IsKeyAgain : Bool → Forest → Ahead → Sign → Type 0
  IsKeyAgain flow before a s = (t : List ℕ) × (e : ℕ) × (scalar_ahead (as_key flow) a ≡ Stands t e) × (has_key before t ≡ true) × (s ≡ DuplicateKey a.at)

  -- where only a key may begin stands a sign: a key that stands before, or another
  abbrev pub IsKeySign : Bool → Forest → Ahead → Sign → Type 0
  IsKeySign flow before a s = IsKeyAgain flow before a s ⊎ (node_sign false a.at a.token ≡ Some s)
