-- Which tree a text stands for, or which sign in it counts: by recursion on the tree, from place to place. Sections and
-- productions are those of YAML 1.2.2.
use Rattle.std.specs.Prelude.{ℕ, ◌≡◌, ◌⊎◌, Bool, true, false, ◌&&◌, not, List, [], Option, Some, None, length, nat_eq, if◌then◌else◌}
use Rattle.doc_values.specs.declared.kind.Kind.TheVariants as kind
use Rattle.doc_values.specs.Tree.{Label, Forest, Nil, Node, snoc}
use Rattle.yaml_scalars.specs.Scalar.{begins_order_mark}
use Rattle.yaml_grammar.specs.declared.ahead.Ahead.{Ahead}
use Rattle.yaml_grammar.specs.declared.ahead.Token.{Token}
use Rattle.yaml_grammar.specs.declared.ahead.Token.TheVariants.{End, Dashes, Dots, Percent, Tabbed, Stray}
use Rattle.yaml_grammar.specs.declared.form.Form.{Form}
use Rattle.yaml_grammar.specs.declared.form.Form.TheVariants.{Root, Flow, FlowTagged, Items, Entries, Tagged}
use Rattle.yaml_grammar.specs.Ahead.{ahead}
use Rattle.yaml_grammar.specs.Signs.{Sign, Tab, Directive, ManyDocuments, Reach, To, Shows, Then}
use Rattle.yaml_grammar.specs.Nodes.{tag_name, tag_key, leaf, Contents, IsMissing}
use Rattle.yaml_grammar.specs.Flow.{IsFlowNode, IsFlowHead, IsFlowTail, IsFlowSign}
use Rattle.yaml_grammar.specs.Blocks.{IsItem, IsEntry, IsEntrySign, IsBlockNode}

-- whether a token is content
abbrev pub is_content : Token → Bool
is_content End = false
is_content Stray = false
is_content _ = true

-- behind a line's mark, whose place is the first number: a tab in front of the content, or the content; where that stands
-- on the mark's line, the sign is the mark
abbrev pub late_sign : ℕ → Ahead → Token → Option Sign
late_sign mark a End = None
late_sign mark a Stray = None
late_sign mark a Tabbed = Some (Tab a.at)
late_sign mark a _ = Some (ManyDocuments (if a.fresh then a.at else mark))

-- behind the root, by the token there: a line `---`, something behind a line `...`, or a tab in front of the content
abbrev pub sign_behind : Ahead → Ahead → Token → Option Sign
sign_behind a next Dashes = Some (ManyDocuments a.at)
sign_behind a next Dots = late_sign a.at next next.token
sign_behind a next Tabbed = Some (Tab a.at)
sign_behind a next _ = None

-- in front of the document, by the token there: a line that begins with `%`, or a line `---` with content on it
abbrev pub sign_before : Ahead → Ahead → Token → Option Sign
sign_before a next Percent = if a.fresh && nat_eq a.column 0 then Some (Directive a.at) else None
sign_before a next Dashes = if not next.fresh && is_content next.token then Some (ManyDocuments a.at) else None
sign_before a next _ = None

module _ (text : List ℕ) where
  -- a node from a place to what it reaches; behind `-`, a key's colon and a tag it may be missing
  abbrev pub IsNode : Contents → Form → ℕ → Option (List ℕ) → Label → Forest → ℕ → Reach → Type 0
  IsNode holds Root d key l kids i r = IsBlockNode text holds Root d key l kids i r
  IsNode holds (Flow map) d key l kids i r = IsFlowNode text (Flow map) holds d key l kids i r
  IsNode holds (FlowTagged at) d key l kids i r = IsFlowNode text (FlowTagged at) holds d key l kids i r
  IsNode holds (Items m) d key l kids i r = IsMissing key l kids i r ⊎ IsBlockNode text holds (Items m) d key l kids i r
  IsNode holds (Entries m) d key l kids i r = IsMissing key l kids i r ⊎ IsBlockNode text holds (Entries m) d key l kids i r
  IsNode holds (Tagged at above shares) d key l kids i r = IsMissing key l kids i r ⊎ IsBlockNode text holds (Tagged at above shares) d key l kids i r

  -- what stands before a node; behind a tag nothing, and its key is the tag's
  abbrev pub IsHead : Form → Bool → Forest → ℕ → Option (List ℕ) → ℕ → Type 0
  IsHead Root first before i key p = ⊥
  IsHead (Flow map) first before i key p = IsFlowHead text map first before i key p
  IsHead (FlowTagged at) first before i key p = (first ≡ true) × (key ≡ Some (tag_key (tag_name text at i))) × (p ≡ i)
  IsHead (Items m) first before i key p = IsItem text m first i key p
  IsHead (Entries m) first before i key p = IsEntry text m first before i key p
  IsHead (Tagged at above shares) first before i key p = (first ≡ true) × (key ≡ Some (tag_key (tag_name text at i))) × (p ≡ i)

  -- what stands behind the last entry: in a block and behind a tag nothing, and there is an entry; or a sign where another
  -- entry would begin
  abbrev pub IsTail : Form → Bool → Forest → ℕ → Reach → Type 0
  IsTail Root first before i r = ⊥
  IsTail (Flow map) first before i r = ((j : ℕ) × IsFlowTail text map first i j × (r ≡ To j)) ⊎ ((s : Sign) × IsFlowSign text map first before i s × (r ≡ Shows s))
  IsTail (FlowTagged at) first before i r = (first ≡ false) × (r ≡ To i)
  IsTail (Items m) first before i r = (first ≡ false) × (r ≡ To i)
  IsTail (Entries m) first before i r = (first ≡ false) × ((r ≡ To i) ⊎ ((s : Sign) × IsEntrySign text m before i s × (r ≡ Shows s)))
  IsTail (Tagged at above shares) first before i r = (first ≡ false) × (r ≡ To i)

  -- the entries of a collection; behind a sign no further one stands
  abbrev pub Spells : Forest → Contents
  Spells Nil f d first before i r = IsTail f first before i r
  Spells (Node l kids rest) f d first before i r =
      (key : Option (List ℕ)) × (p : ℕ) × (q : Reach) × IsHead f first before i key p × IsNode (Spells kids) f d key l kids p q
      × Then q (λ j. Spells rest f d false (snoc before l kids) j r) (λ s. (rest ≡ Nil) × (r ≡ Shows s))

  -- the root; or none, null at the text's length
  abbrev pub IsRoot : Label → Forest → ℕ → Reach → Type 0
  IsRoot l kids i r = ((l ≡ leaf kind.Null [] None (length text)) × (kids ≡ Nil) × (r ≡ To i)) ⊎ IsNode (Spells kids) Root 0 None l kids i r

  -- `l-document-suffix` (205): behind the root nothing, or one line `...` and then nothing
  abbrev pub IsEnd : ℕ → Type 0
  IsEnd j = ((ahead text false j).token ≡ End) ⊎ (((ahead text false j).token ≡ Dots) × ((ahead text false (ahead text false j).behind).token ≡ End))

  -- or a sign
  abbrev pub end_sign : ℕ → Option Sign
  end_sign j = sign_behind (ahead text false j) (ahead text false (ahead text false j).behind) (ahead text false j).token

  -- section 5.2: a byte order mark in front is passed over; `l-explicit-document` (208): so is a line `---`, with
  -- nothing else on it
  abbrev pub text_start : ℕ
  text_start = if begins_order_mark text then 3 else 0

  abbrev pub IsStart : ℕ → Type 0
  IsStart i =
      (((ahead text false text_start).token ≡ Dashes) × (i ≡ (ahead text false text_start).behind) × ((ahead text false i).fresh ≡ true))
      ⊎ ((((ahead text false text_start).token ≡ Dashes) → ⊥) × (i ≡ text_start))

  -- or there is a sign in front
  abbrev pub start_sign : Option Sign
  start_sign = sign_before (ahead text false text_start) (ahead text false (ahead text false text_start).behind) (ahead text false text_start).token

  -- the text is one document, which stands for the tree
  abbrev pub IsYaml : Forest → Type 0
  IsYaml tree = (l : Label) × (kids : Forest) × (i j : ℕ) × IsStart i × IsRoot l kids i (To j) × IsEnd j × (tree ≡ Node l kids Nil)

  -- reading the text from the left comes to the sign: in front of the document, in its root or behind it; nothing is asked
  -- of what stands behind the sign
  abbrev pub Counts : Sign → Type 0
  Counts s =
      (start_sign ≡ Some s)
      ⊎ ((l : Label) × (kids : Forest) × (i : ℕ) × IsStart i × (IsRoot l kids i (Shows s) ⊎ ((j : ℕ) × IsRoot l kids i (To j) × (end_sign j ≡ Some s))))
