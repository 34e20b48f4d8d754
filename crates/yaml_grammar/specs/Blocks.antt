-- Nodes and entries of block sequences and block mappings: chapter 8.2 of YAML 1.2.2, whose productions are named.
use Rattle.std.specs.Prelude.{ℕ, suc, ◌+◌, ◌-◌, ◌≡◌, ◌⊎◌, Bool, true, false, ◌||◌, ◌&&◌, not, List, slice_index, Option, Some, None, nat_lt, nat_le, nat_eq, if◌then◌else◌}
use Rattle.doc_values.specs.Tree.{Label, Forest, Nil, Node, has_key}
use Rattle.yaml_scalars.specs.Lines.{Stands}
use Rattle.yaml_grammar.specs.declared.ahead.Ahead.{Ahead}
use Rattle.yaml_grammar.specs.declared.ahead.Token.TheVariants.{Dash, Tag, Point}
use Rattle.yaml_grammar.specs.declared.form.Form.{Form}
use Rattle.yaml_grammar.specs.declared.form.Form.TheVariants.{Root, Flow, FlowTagged, Items, Entries, Tagged}
use Rattle.yaml_grammar.specs.Ahead.{is_name, ahead}
use Rattle.yaml_grammar.specs.Signs as sign
use Rattle.yaml_grammar.specs.Signs.{Sign, Reach}
use Rattle.yaml_grammar.specs.Nodes.{setting_of, as_key, follows_get_att, scalar_ahead, IsScalar, Contents, Within, IsCollection, IsKeySign, node_sign, is_tagged, IsSigned}

-- where a scalar or a flow collection may begin: on the line of the `-` or the colon before it, or on a line that is
-- indented more than the entries; the root on a line of its own
abbrev pub takes_scalar : Form → Ahead → Bool
takes_scalar Root a = a.fresh
takes_scalar (Flow map) a = false
takes_scalar (FlowTagged at) a = false
takes_scalar (Items m) a = not a.fresh || nat_lt m a.column
takes_scalar (Entries m) a = not a.fresh || nat_lt m a.column
takes_scalar (Tagged at above shares) a = not a.fresh || nat_le above a.column

-- where a tag may begin: there too, but not behind a tag
abbrev pub takes_tag : Form → Ahead → Bool
takes_tag Root a = a.fresh
takes_tag (Flow map) a = false
takes_tag (FlowTagged at) a = false
takes_tag (Items m) a = not a.fresh || nat_lt m a.column
takes_tag (Entries m) a = not a.fresh || nat_lt m a.column
takes_tag (Tagged at above shares) a = false

-- where a mapping may begin: there, but not on the line of a key or a tag
abbrev pub takes_mapping : Form → Ahead → Bool
takes_mapping Root a = a.fresh
takes_mapping (Flow map) a = false
takes_mapping (FlowTagged at) a = false
takes_mapping (Items m) a = not a.fresh || nat_lt m a.column
takes_mapping (Entries m) a = a.fresh && nat_lt m a.column
takes_mapping (Tagged at above shares) a = a.fresh && nat_le above a.column

-- where a sequence may begin: there, and behind a key, with or without a tag on its line, also at the key's own column
abbrev pub takes_sequence : Form → Ahead → Bool
takes_sequence Root a = a.fresh
takes_sequence (Flow map) a = false
takes_sequence (FlowTagged at) a = false
takes_sequence (Items m) a = not a.fresh || nat_lt m a.column
takes_sequence (Entries m) a = a.fresh && nat_le m a.column
takes_sequence (Tagged at above shares) a = a.fresh && (nat_le above a.column || (shares && nat_eq above (suc a.column)))

-- the column of a collection that begins on a line, or behind a `-` at column m with so much white space between
abbrev pub column_in : Form → Ahead → ℕ
column_in Root a = a.column
column_in (Flow map) a = a.column
column_in (FlowTagged at) a = a.column
column_in (Items m) a = if a.fresh then a.column else m + 1 + a.column
column_in (Entries m) a = a.column
column_in (Tagged at above shares) a = a.column

-- what stands behind a tag stands under what the tag stands under; one that begins a line shares no key's column
abbrev pub least : Form → ℕ
least Root = 0
least (Flow map) = 0
least (FlowTagged at) = 0
least (Items m) = suc m
least (Entries m) = suc m
least (Tagged at above shares) = above

abbrev pub shares_column : Form → Ahead → Bool
shares_column Root a = false
shares_column (Flow map) a = false
shares_column (FlowTagged at) a = false
shares_column (Items m) a = false
shares_column (Entries m) a = not a.fresh
shares_column (Tagged at above shares) a = false

abbrev pub tagged : Form → Ahead → Form
tagged f a = Tagged a.at (least f) (shares_column f a)

-- the sign where a node may begin
abbrev pub block_sign : Form → Ahead → Option Sign
block_sign f a = if takes_scalar f a then node_sign (is_tagged f) a.at a.token else None

-- the place of the last of the values, at every depth
abbrev pub or_else : Option ℕ → Option ℕ → Option ℕ
or_else None o = o
or_else (Some p) o = Some p

abbrev pub last_place : Forest → Option ℕ
last_place Nil = None
last_place (Node l kids rest) = or_else (last_place rest) (or_else (last_place kids) (Some l.at))

-- a letter or digit stands in front of a place
abbrev pub ends_name : List ℕ → ℕ → Bool
ends_name text i = is_name (slice_index text (i - 1))

-- what ends at a place is a tag without its node: the last value has no byte, and a name stands in front of it, no `-` and no
-- colon
abbrev pub IsBare : List ℕ → Option ℕ → ℕ → Type 0
IsBare text last i = (last ≡ Some i) × (ends_name text i ≡ true)

-- the first entry gives the column; each further one begins a line there
abbrev pub IsAligned : Bool → ℕ → Ahead → Type 0
IsAligned true m a = Unit {0}
IsAligned false m a = (a.fresh ≡ true) × (a.column ≡ m)

module _ (text : List ℕ) where
  -- `ns-s-block-map-implicit-key` (193): a plain or quoted scalar on one line, and behind white space a colon, before white
  -- space or the line's end; the place behind that
  abbrev pub IsKey : Ahead → List ℕ → ℕ → Type 0
  IsKey a t p =
      (e : ℕ) × (scalar_ahead text (as_key false) a ≡ Stands t e) × ((ahead text false e).fresh ≡ false) × ((ahead text false e).token ≡ Point true) × (p ≡ (ahead text false e).behind)

  -- what stands before a node: `-`, or a key that none before has with its colon
  abbrev pub IsItem : ℕ → Bool → ℕ → Option (List ℕ) → ℕ → Type 0
  IsItem m first i key p = ((ahead text false i).token ≡ Dash) × IsAligned first m (ahead text false i) × (key ≡ None) × (p ≡ (ahead text false i).behind)

  abbrev pub IsEntry : ℕ → Bool → Forest → ℕ → Option (List ℕ) → ℕ → Type 0
  IsEntry m first before i key p = (t : List ℕ) × IsKey (ahead text false i) t p × IsAligned first m (ahead text false i) × (has_key before t ≡ false) × (key ≡ Some t)

  -- a tag behind another that has no node, with nothing but white space, breaks and comments between
  abbrev pub IsTagAgain : Forest → ℕ → Ahead → Sign → Type 0
  IsTagAgain before i a s = (len : ℕ) × (a.token ≡ Tag len) × IsBare text (last_place before) i × (s ≡ sign.Tag a.at)

  -- where a further entry of a mapping would begin stands a sign
  abbrev pub IsEntrySign : ℕ → Forest → ℕ → Sign → Type 0
  IsEntrySign m before i s = IsAligned false m (ahead text false i) × (IsKeySign text false before (ahead text false i) s ⊎ IsTagAgain before i (ahead text false i) s)

  -- `l+block-sequence` (183), which begins with its first `-`
  abbrev pub IsSequence : Contents → Form → ℕ → Option (List ℕ) → Label → ℕ → Reach → Type 0
  IsSequence holds f d key l i r =
      let a : Ahead = ahead text false i in
      (takes_sequence f a ≡ true) × Within (holds (Items (column_in f a)) (suc d) true Nil i) (a.token ≡ Dash) d false a.at key l r

  -- `l+block-mapping` (187), which begins with its first key and the colon
  abbrev pub IsMapping : Contents → Form → ℕ → Option (List ℕ) → Label → ℕ → Reach → Type 0
  IsMapping holds f d key l i r =
      let a : Ahead = ahead text false i in
      (takes_mapping f a ≡ true) × Within (holds (Entries (column_in f a)) (suc d) true Nil i) ((t : List ℕ) × (p : ℕ) × IsKey a t p) d true a.at key l r

  -- a tag's map, whose one value stands behind the tag
  abbrev pub IsTagged : Contents → Form → ℕ → Option (List ℕ) → Label → ℕ → Reach → Type 0
  IsTagged holds f d key l i r =
      let a : Ahead = ahead text false i in
      (len : ℕ) × (a.token ≡ Tag len) × (takes_tag f a ≡ true) × Within (holds (tagged f a) (suc d) true Nil a.behind) (Unit {0}) d true a.at key l r

  -- `s-l+block-node` (196), from a place to what it reaches; anchors are signs
  abbrev pub IsBlockNode : Contents → Form → ℕ → Option (List ℕ) → Label → Forest → ℕ → Reach → Type 0
  IsBlockNode holds f d key l kids i r =
      ((takes_scalar f (ahead text false i) ≡ true) × (IsScalar text (setting_of f) (follows_get_att text f i) d (ahead text false i) key l kids r ⊎ IsCollection holds d (ahead text false i) key l r))
      ⊎ (IsSequence holds f d key l i r ⊎ (IsMapping holds f d key l i r ⊎ (IsTagged holds f d key l i r ⊎ IsSigned (block_sign f (ahead text false i)) r)))
