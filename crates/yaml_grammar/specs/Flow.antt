-- Nodes and entries between brackets: chapter 7.4 of YAML 1.2.2, whose productions are named.
use Rattle.std.specs.Prelude.{ℕ, suc, ◌≡◌, ◌⊎◌, Bool, true, false, ◌||◌, List, Option, Some, None, drop}
use Rattle.doc_values.specs.Tree.{Label, Forest, Nil, has_key}
use Rattle.yaml_scalars.specs.Lines.{Stands}
use Rattle.yaml_scalars.specs.Scalar.{begins_quoted}
use Rattle.yaml_grammar.specs.declared.ahead.Token.{Token}
use Rattle.yaml_grammar.specs.declared.ahead.Token.TheVariants.{Dashes, Dots, Tag, Closes, Comma, Point}
use Rattle.yaml_grammar.specs.declared.ahead.Ahead.{Ahead}
use Rattle.yaml_grammar.specs.declared.form.Form.{Form}
use Rattle.yaml_grammar.specs.declared.form.Form.TheVariants.{Root, Flow, FlowTagged, Items, Entries, Tagged}
use Rattle.yaml_grammar.specs.Ahead.{ahead}
use Rattle.yaml_grammar.specs.Signs.{Sign, ManyDocuments, Reach}
use Rattle.yaml_grammar.specs.Nodes.{setting_of, as_key, follows_get_att, scalar_ahead, IsScalar, Contents, Within, IsCollection, IsMissing, IsKeySign, node_sign, is_tagged, IsSigned, is_marked}

-- where a node may be missing: in a map, and behind a tag
abbrev pub may_miss : Form → Bool
may_miss Root = false
may_miss (Flow map) = map
may_miss (FlowTagged at) = true
may_miss (Items m) = false
may_miss (Entries m) = false
may_miss (Tagged at above shares) = false

-- where a tag may stand: not behind a tag
abbrev pub may_tag : Form → Bool
may_tag Root = false
may_tag (Flow map) = true
may_tag (FlowTagged at) = false
may_tag (Items m) = false
may_tag (Entries m) = false
may_tag (Tagged at above shares) = false

-- whether a key without a colon ends before a token: a comma, the closing bracket, or a line `---` or `...`
abbrev pub ends_key : Token → Bool
ends_key Comma = true
ends_key (Closes map) = map
ends_key Dashes = true
ends_key Dots = true
ends_key _ = false

module _ (text : List ℕ) where
  -- a tag's map, whose one value stands behind the tag
  abbrev pub IsFlowTagged : Form → Contents → ℕ → Option (List ℕ) → Label → ℕ → Reach → Type 0
  IsFlowTagged f holds d key l i r =
      let a : Ahead = ahead text true i in
      (len : ℕ) × (a.token ≡ Tag len) × (may_tag f ≡ true) × Within (holds (FlowTagged a.at) (suc d) true Nil a.behind) (Unit {0}) d true a.at key l r

  -- `ns-flow-node` (161), from a place to what it reaches; anchors are signs
  abbrev pub IsFlowNode : Form → Contents → ℕ → Option (List ℕ) → Label → Forest → ℕ → Reach → Type 0
  IsFlowNode f holds d key l kids i r =
      ((may_miss f ≡ true) × IsMissing key l kids i r)
      ⊎ (IsScalar text (setting_of f) (follows_get_att text f i) d (ahead text true i) key l kids r ⊎ (IsCollection holds d (ahead text true i) key l r ⊎ (IsFlowTagged f holds d key l i r ⊎ IsSigned (node_sign (is_tagged f) (ahead text true i).at (ahead text true i).token) r)))

  -- a comma stands before another entry
  abbrev pub Comes : Bool → ℕ → ℕ → Type 0
  Comes true i p = p ≡ i
  Comes false i p = ((ahead text true i).token ≡ Comma) × (p ≡ (ahead text true i).behind)

  -- `c-ns-flow-map-separate-value` (147) and `c-ns-flow-map-adjacent-value` (149): a key's colon, behind a plain key before
  -- what may follow one; or none, before a comma, the closing bracket or a line `---` or `...`
  abbrev pub IsColon : Bool → ℕ → ℕ → Type 0
  IsColon quoted e p =
      ((loose : Bool) × ((ahead text true e).token ≡ Point loose) × ((loose || quoted) ≡ true) × (p ≡ (ahead text true e).behind))
      ⊎ ((ends_key (ahead text true e).token ≡ true) × (p ≡ e))

  -- what stands before a node: in a list a comma, in a map a comma, a key that none before has, and its colon
  abbrev pub IsFlowHead : Bool → Bool → Forest → ℕ → Option (List ℕ) → ℕ → Type 0
  IsFlowHead false first before i key p = (key ≡ None) × Comes first i p
  IsFlowHead true first before i key p =
      (k e : ℕ) × (t : List ℕ) × Comes first i k × (scalar_ahead text (as_key true) (ahead text true k) ≡ Stands t e) × (has_key before t ≡ false)
      × (key ≡ Some t) × IsColon (begins_quoted (drop (ahead text true k).at text)) e p

  -- behind the last entry: a comma may stand before the closing bracket
  abbrev pub IsFlowTail : Bool → Bool → ℕ → ℕ → Type 0
  IsFlowTail map first i j = (k : ℕ) × (Comes first i k ⊎ (k ≡ i)) × ((ahead text true k).token ≡ Closes map) × (j ≡ (ahead text true k).behind)

  -- or where another entry of a map would begin stands a sign; or where an entry or the closing bracket would, a line `---` or
  -- `...`
  abbrev pub IsFlowSign : Bool → Bool → Forest → ℕ → Sign → Type 0
  IsFlowSign map first before i s =
      ((map ≡ true) × (k : ℕ) × Comes first i k × IsKeySign text true before (ahead text true k) s)
      ⊎ ((k : ℕ) × (Comes first i k ⊎ (k ≡ i)) × (is_marked (ahead text true k).token ≡ true) × (s ≡ ManyDocuments (ahead text true k).at))
