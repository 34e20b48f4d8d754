-- What each part of the reader gives, said by what may still follow. No public clause names this file.
use Rattle.std.specs.Prelude.{ℕ, suc, ◌+◌, ◌*◌, ◌<◌, ◌≤◌, ◌≡◌, ◌⊎◌, Bool, true, false, List, [], ◌∷◌, length, Option, None, Some, Result, Ok, Err, if◌then◌else◌, nat_lt, nat_eq, not, ◌||◌, ◌&&◌, drop}
use Rattle.std.specs.Str.{IsCharBoundary}
use Rattle.std.specs.Cow.{cow_str_bytes}
use Rattle.std.specs.List.{before_first, after_first}
use Rattle.yaml_scalars.specs.code.Limits.{text_limit}
use Rattle.doc_values.specs.declared.kind.Kind.{Kind}
use Rattle.doc_values.specs.declared.kind.Kind.TheVariants as kind
use Rattle.doc_values.specs.Tree.{Forest, is_map, has_text}
use Rattle.doc_values.specs.Unfinished.{Level, Unfinished, with_value, with_open, with_key, with_end, open_kind, AwaitsValue}
use Rattle.yaml_scalars.specs.declared.scalar.Scalar.{Scalar}
use Rattle.yaml_scalars.specs.declared.scalar.Setting.{Setting}
use Rattle.yaml_scalars.specs.Lines.{Stands, Documents}
use Rattle.yaml_scalars.specs.Scalar.{begins_quoted, is_typed, HasKind}
use Rattle.yaml_grammar.specs.declared.ahead.Ahead.{Ahead}
use Rattle.yaml_grammar.specs.declared.ahead.Token.{Token}
use Rattle.yaml_grammar.specs.declared.ahead.Token.TheVariants.{End, Dashes, Dots, Dash, Tag, Opens, Closes, Comma, Point, Tabbed}
use Rattle.yaml_grammar.specs.declared.form.Form.{Form}
use Rattle.yaml_grammar.specs.declared.form.Form.TheVariants.{Root, Flow, FlowTagged, Items, Entries, Tagged}
use Rattle.yaml_grammar.specs.declared.stage.Stage.{Stage}
use Rattle.yaml_grammar.specs.declared.stage.Stage.TheVariants as stage
use Rattle.yaml_grammar.specs.declared.stage.Position.{Position}
use Rattle.yaml_grammar.specs.declared.key.Key.{Key}
use Rattle.yaml_grammar.specs.declared.stop.Stop.{Stop}
use Rattle.yaml_grammar.specs.declared.stop.Stop.TheVariants as refusal
use Rattle.yaml_grammar.specs.Ahead.{token_len, ahead}
use Rattle.yaml_grammar.specs.Nodes.{tag_name, tag_key, follows_get_att, setting_of, as_key, is_dot, is_cut, starts_scalar, scalar_ahead}
use Rattle.yaml_grammar.specs.Signs as sign
use Rattle.yaml_grammar.specs.Signs.{Sign, Tab, Directive, ManyDocuments, DuplicateKey, TooDeep, Reading, Tree, Refused}
use Rattle.yaml_grammar.specs.Blocks.{takes_scalar, takes_mapping, takes_sequence, takes_tag, or_else, last_place, ends_name, IsBare, IsKey}
use Rattle.yaml_grammar.specs.code.Points.{is_point, is_pointed}
use Rattle.yaml_grammar.specs.code.Rest.{top, Ends, Enters, Awaits}

-- the forms of the open collections, the innermost last, as a list of which it is the first
abbrev pub stack_on : List Form → List Form → List Form
stack_on fs [] = fs
stack_on fs (g ∷ gs) = stack_on (g ∷ fs) gs

abbrev pub stack : List Form → List Form
stack gs = stack_on [] gs

-- ---- what is ahead

-- a token's column lies in its line, or else it tells the place
abbrev pub IsColumn : ℕ → Ahead → Type 0
IsColumn i a = (a.fresh ≡ true → a.column ≤ a.at) × (a.fresh ≡ false → a.at ≡ i + a.column)

-- what is ahead of a place stands between it and the text's end, and the text may be cut in front of it and behind, and
-- behind its first byte
abbrev pub IsPlaced : List ℕ → ℕ → Ahead → Type 0
IsPlaced bytes i a =
    (i ≤ a.at) × IsCharBoundary bytes a.at × IsCharBoundary bytes a.behind × (a.behind ≡ a.at + token_len a.token) × IsColumn i a
    × (0 < token_len a.token → IsCharBoundary bytes (a.at + 1))

-- that is what is ahead
abbrev pub IsSeen : List ℕ → Bool → ℕ → Ahead → Type 0
IsSeen text flow i a = (a ≡ ahead text flow i) × IsPlaced text i a

-- ---- the open collections

-- whether the entries of a form have keys
abbrev pub has_keys : Form → Bool
has_keys Root = false
has_keys (Flow map) = map
has_keys (FlowTagged at) = true
has_keys (Items m) = false
has_keys (Entries m) = true
has_keys (Tagged at above shares) = true

-- the forms are those of the unfinished tree's open collections
abbrev pub Agrees : List Form → List Level → Type 0
Agrees [] [] = Unit {0}
Agrees [] (x ∷ xs) = ⊥
Agrees (f ∷ fs) [] = ⊥
Agrees (f ∷ fs) (x ∷ xs) = (is_map x.label.kind ≡ has_keys f) × Agrees fs xs

-- a collection may stand in another: a block one is indented more, and stands in no brackets; a sequence in a mapping may have
-- the mapping's column; a tag in flow stands in brackets
abbrev pub LiesIn : Form → Form → Type 0
LiesIn Root g = ⊥
LiesIn (Flow map) g = Unit {0}
LiesIn (FlowTagged at) Root = ⊥
LiesIn (FlowTagged at) (Flow map) = Unit {0}
LiesIn (FlowTagged at) (FlowTagged p) = ⊥
LiesIn (FlowTagged at) (Items m) = ⊥
LiesIn (FlowTagged at) (Entries m) = ⊥
LiesIn (FlowTagged at) (Tagged p above shares) = ⊥
LiesIn (Items c) Root = Unit {0}
LiesIn (Items c) (Flow map) = ⊥
LiesIn (Items c) (FlowTagged at) = ⊥
LiesIn (Items c) (Items m) = m < c
LiesIn (Items c) (Entries m) = m ≤ c
LiesIn (Entries c) Root = Unit {0}
LiesIn (Entries c) (Flow map) = ⊥
LiesIn (Entries c) (FlowTagged at) = ⊥
LiesIn (Entries c) (Items m) = m < c
LiesIn (Entries c) (Entries m) = m < c
LiesIn (Items c) (Tagged at above shares) = (above ≤ suc c) × (shares ≡ false → above ≤ c)
LiesIn (Entries c) (Tagged at above shares) = above ≤ c
LiesIn (Tagged at above shares) Root = (above ≡ 0) × (shares ≡ false)
LiesIn (Tagged at above shares) (Flow map) = ⊥
LiesIn (Tagged at above shares) (FlowTagged p) = ⊥
LiesIn (Tagged at above shares) (Items m) = (above ≡ suc m) × (shares ≡ false)
LiesIn (Tagged at above shares) (Entries m) = above ≡ suc m
LiesIn (Tagged at above shares) (Tagged b n s) = ⊥

-- its column is that of a text of at most 8 MiB
abbrev pub IsSmall : Form → Type 0
IsSmall Root = Unit {0}
IsSmall (Flow map) = Unit {0}
IsSmall (FlowTagged at) = Unit {0}
IsSmall (Items m) = m ≤ text_limit
IsSmall (Entries m) = m ≤ text_limit
IsSmall (Tagged at above shares) = above ≤ 8388610

abbrev pub Nests : List Form → Type 0
Nests [] = Unit {0}
Nests (f ∷ fs) = LiesIn f (top fs) × IsSmall f × Nests fs

-- a node outside of flow
abbrev pub IsBlock : Form → Type 0
IsBlock Root = Unit {0}
IsBlock (Flow map) = ⊥
IsBlock (FlowTagged at) = ⊥
IsBlock (Items m) = Unit {0}
IsBlock (Entries m) = Unit {0}
IsBlock (Tagged at above shares) = Unit {0}

-- a node in flow
abbrev pub IsFlow : Form → Type 0
IsFlow Root = ⊥
IsFlow (Flow map) = Unit {0}
IsFlow (FlowTagged at) = Unit {0}
IsFlow (Items m) = ⊥
IsFlow (Entries m) = ⊥
IsFlow (Tagged at above shares) = ⊥

-- an item's place lies behind its `-`, and what a tag has behind its `!`
abbrev pub IsBehind : Form → ℕ → Type 0
IsBehind Root i = Unit {0}
IsBehind (Flow map) i = Unit {0}
IsBehind (FlowTagged at) i = at < i
IsBehind (Items m) i = m < i
IsBehind (Entries m) i = Unit {0}
IsBehind (Tagged at above shares) i = at < i

-- whether the document may end at a token, or a sign stands there behind it
abbrev pub is_ending : Token → Bool
is_ending End = true
is_ending Dashes = true
is_ending Dots = true
is_ending Tabbed = true
is_ending _ = false

-- a name stands in front of what a tag has behind it, and of what a `-` or a key's colon has none; at the root the document
-- does not end
abbrev pub IsSpelled : List ℕ → Form → ℕ → Type 0
IsSpelled text Root i = is_ending (ahead text false i).token ≡ false
IsSpelled text (Flow map) i = Unit {0}
IsSpelled text (FlowTagged at) i = Unit {0}
IsSpelled text (Items m) i = ends_name text i ≡ false
IsSpelled text (Entries m) i = ends_name text i ≡ false
IsSpelled text (Tagged at above shares) i = ends_name text i ≡ true

-- the place of the last value so far, complete or open
abbrev pub last_open : List Level → Forest → Option ℕ
last_open [] done = last_place done
last_open (x ∷ xs) done = or_else (last_place done) (Some x.label.at)

-- no tag without its node ends before another tag
abbrev pub IsCalm : List ℕ → Unfinished → ℕ → Type 0
IsCalm text u i = (len : ℕ) → (ahead text false i).token ≡ Tag len → IsBare text (last_open u.outer u.done) i → ⊥

-- the last value is the same
abbrev pub Lasts : Unfinished → Unfinished → Type 0
Lasts u w = (last_open w.outer w.done ≡ last_open u.outer u.done) × ((i : ℕ) → last_place u.done ≡ Some i → last_place w.done ≡ Some i)

abbrev pub is_dash : Token → Bool
is_dash Dash = true
is_dash _ = false

-- whether a token ends a node between brackets, or a sign stands there behind it
abbrev pub is_flow_ending : Token → Bool
is_flow_ending Comma = true
is_flow_ending (Closes map) = true
is_flow_ending Dashes = true
is_flow_ending Dots = true
is_flow_ending _ = false

-- whether a plain scalar between brackets that ends in front of a token may go on where other bytes stand behind it
abbrev pub is_open : Token → Bool
is_open End = true
is_open Dashes = true
is_open Dots = true
is_open (Point loose) = true
is_open _ = false

-- whether a block ends before the line of a token: the line is indented less, or a sequence's other entry would stand there
abbrev pub ends_before : Form → Ahead → Bool
ends_before Root a = false
ends_before (Flow map) a = false
ends_before (FlowTagged at) a = false
ends_before (Items m) a = nat_lt a.column m || (nat_eq a.column m && not (is_dash a.token))
ends_before (Entries m) a = nat_lt a.column m
ends_before (Tagged at above shares) a = true

-- ---- what may follow

abbrev pub Rest : List ℕ → Stage → List Form → Unfinished → ℕ → Reading → Type 0
Rest text stage.Entry fs u i v = Enters text fs u.outer u.done i v
Rest text stage.Value fs u i v = Awaits text fs u.outer u.done u.key i v
Rest text stage.After fs u i v = Ends text fs u.outer u.done i v
Rest text stage.Whole fs u i v = v ≡ Tree u.done

-- the forms and the unfinished tree belong together
abbrev pub Open : List Form → Unfinished → Type 0
Open fs u = Agrees fs u.outer × Nests fs

-- they are ones that the stage can stand in
abbrev pub Fits : List ℕ → Stage → List Form → Unfinished → ℕ → Type 0
Fits text stage.Entry fs u i = Open fs u × ((map : Bool) × (top fs ≡ Flow map)) × (u.key ≡ None)
Fits text stage.Value fs u i = Open fs u × (top fs ≡ Flow false → ⊥) × AwaitsValue u × IsBehind (top fs) i × IsSpelled text (top fs) i
Fits text stage.After fs u i = Open fs u × (u.key ≡ None) × (IsBlock (top fs) → IsCalm text u i)
Fits text stage.Whole fs u i = u.outer ≡ []

-- a node outside of flow is awaited at a place, in a form, and what is ahead of it was seen
pub record Awaited (text : List ℕ) (fs : List Form) (u : Unfinished) (f : Form) (i : ℕ) (a : Ahead) : Type 0 where
  pub small : a.at ≤ text_limit
  pub boundary : IsCharBoundary text i
  pub seen : IsSeen text false i a
  pub form : top fs ≡ f
  pub block : IsBlock f
  pub fits : Fits text stage.Value fs u i

-- how far reading has come
abbrev pub reached : Stage → ℕ → ℕ
reached stage.Entry at = 2 * at + 2
reached stage.Value at = 2 * at + 1
reached stage.After at = 2 * at + 2
reached stage.Whole at = 2 * at + 3

-- reading went on, and what may follow is the same as before
abbrev pub Goes : List ℕ → (Reading → Type 0) → ℕ → List Form → Unfinished → Position → Type 0
Goes text P n fs w p =
    ((v : Reading) → (P v → Rest text p.stage fs w p.at v) × (Rest text p.stage fs w p.at v → P v)) × Fits text p.stage fs w p.at × IsCharBoundary text p.at × (n < reached p.stage p.at)

-- or it ended at a sign, where just that may follow
abbrev pub Broke : (Reading → Type 0) → Sign → Type 0
Broke P s = P (Refused s) × ((v : Reading) → P v → v ≡ Refused s)

-- or where nothing may follow
abbrev pub Gives : List ℕ → (Reading → Type 0) → ℕ → List Form → Unfinished → Result Position Stop → Type 0
Gives text P n fs w (Ok p) = Goes text P n fs w p
Gives text P n fs w (Err (refusal.Unread q)) = (v : Reading) → P v → ⊥
Gives text P n fs w (Err (refusal.Tab at)) = Broke P (Tab at)
Gives text P n fs w (Err (refusal.Anchor at)) = Broke P (sign.Anchor at)
Gives text P n fs w (Err (refusal.Tag at)) = Broke P (sign.Tag at)
Gives text P n fs w (Err (refusal.Directive at)) = Broke P (Directive at)
Gives text P n fs w (Err (refusal.ManyDocuments at)) = Broke P (ManyDocuments at)
Gives text P n fs w (Err (refusal.DuplicateKey at)) = Broke P (DuplicateKey at)
Gives text P n fs w (Err (refusal.TooDeep at)) = Broke P (TooDeep at)
Gives text P n fs w (Err refusal.NoMemory) = Unit {0}

-- no node of a form stands at a token, as its place tells, or as the token does
abbrev pub NoNode : Form → Ahead → Type 0
NoNode f a =
    (takes_scalar f a ≡ true → (starts_scalar a.token ≡ false) × ((map : Bool) → a.token ≡ Opens map → ⊥)) × (takes_sequence f a ≡ true → a.token ≡ Dash → ⊥) × (takes_tag f a ≡ true → (len : ℕ) → a.token ≡ Tag len → ⊥)

-- blocks ended before a line, and what may follow is the same as before
abbrev pub Ended : List ℕ → List Form → Unfinished → Ahead → ℕ → List Form → Unfinished → Result (Unit {0}) Stop → Type 0
Ended text fs u a i gs w (Ok _) =
    ((v : Reading) → (Ends text fs u.outer u.done i v → Ends text gs w.outer w.done i v) × (Ends text gs w.outer w.done i v → Ends text fs u.outer u.done i v))
    × Open gs w × (w.key ≡ None) × IsBlock (top gs) × (ends_before (top gs) a ≡ false) × Lasts u w
Ended text fs u a i gs w (Err e) = e ≡ refusal.NoMemory

-- ---- parts

-- a scalar stands at a token, with its text, its kind and the place behind it
abbrev pub Found : List ℕ → Setting → Ahead → List ℕ → Kind → ℕ → Type 0
Found text s a t k j = (scalar_ahead text s a ≡ Stands t j) × HasKind (is_typed s text a.at) t k × (a.at < j) × IsCharBoundary text j

-- none does
abbrev pub Missed : List ℕ → Setting → Ahead → Type 0
Missed text s a = (t : List ℕ) (j : ℕ) → scalar_ahead text s a ≡ Stands t j → ⊥

-- nor does another document begin in its quotes
abbrev pub Failed : List ℕ → Setting → Ahead → Type 0
Failed text s a = Missed text s a × ((p : ℕ) → scalar_ahead text s a ≡ Documents p → ⊥)

abbrev pub Divides : List ℕ → Setting → Ahead → Stop → Type 0
Divides text s a e = (p : ℕ) × (e ≡ refusal.ManyDocuments p) × (scalar_ahead text s a ≡ Documents p)

abbrev pub Finds : List ℕ → Setting → Ahead → Result Scalar Stop → Type 0
Finds text s a (Ok c) = Found text s a (cow_str_bytes c.text) c.kind c.end
Finds text s a (Err e) = (e ≡ refusal.NoMemory) ⊎ ((((q : ℕ) × (e ≡ refusal.Unread q)) × Failed text s a) ⊎ Divides text s a e)

-- a key with its colon stands at a token outside of flow, or none does
abbrev pub NoKey : List ℕ → Ahead → Type 0
NoKey text a = (t : List ℕ) (p : ℕ) → IsKey text a t p → ⊥

abbrev pub HasKey : List ℕ → Ahead → Key → Type 0
HasKey text a k = IsKey text a (cow_str_bytes k.text) k.behind × IsCharBoundary text k.behind × (a.at < k.behind)

-- what is read as a key ends behind its first byte
abbrev pub EndsKey : List ℕ → Ahead → Type 0
EndsKey text a = (t : List ℕ) (j : ℕ) → scalar_ahead text (as_key false) a ≡ Stands t j → (a.at < j) × IsCharBoundary text j

abbrev pub FindsKey : List ℕ → Ahead → Result (Option Key) Stop → Type 0
FindsKey text a (Ok None) = NoKey text a
FindsKey text a (Ok (Some k)) = HasKey text a k × EndsKey text a
FindsKey text a (Err e) = e ≡ refusal.NoMemory

-- ---- texts in which the same is ahead

-- what stands at a token in a text as a scalar of a setting stands there in another
pub record SameScalar (text other : List ℕ) (s : Setting) (a : Ahead) : Type 0 where
  pub scalar : scalar_ahead other s a ≡ scalar_ahead text s a
  pub typed : is_typed s other a.at ≡ is_typed s text a.at
  pub last : (t : List ℕ) (j : ℕ) → scalar_ahead text s a ≡ Stands t j → IsCharBoundary text j → IsCharBoundary other j

-- so does a key outside of flow, and the same is behind it
pub record SameKey (text other : List ℕ) (a : Ahead) : Type 0 where
  pub scalar : SameScalar text other (as_key false) a
  pub behind : (t : List ℕ) (j : ℕ) → scalar_ahead text (as_key false) a ≡ Stands t j → ahead other false j ≡ ahead text false j
  pub last : (t : List ℕ) (j : ℕ) → scalar_ahead text (as_key false) a ≡ Stands t j → IsCharBoundary text (ahead text false j).behind → IsCharBoundary other (ahead text false j).behind

-- whatever node begins at a token of a text begins there in another: a tag, a scalar where no key stands, or a key where one
-- does; where a colon that ends the text follows a plain scalar on its line, a colon does
pub record SameNode (text other : List ℕ) (f : Form) (i : ℕ) (a : Ahead) : Type 0 where
  pub name : (len : ℕ) → takes_tag f a ≡ true → a.token ≡ Tag len → tag_name other a.at a.behind ≡ tag_name text a.at a.behind
  pub cuts : follows_get_att other f i ≡ follows_get_att text f i
  pub scalar : takes_scalar f a ≡ true → (takes_mapping f a ≡ true → NoKey text a) → SameScalar text other (setting_of f) a
  pub none : takes_mapping f a ≡ true → NoKey text a → NoKey other a
  pub key : takes_mapping f a ≡ true → (k : Key) → HasKey text a k → HasKey other a k
  pub point : takes_scalar f a ≡ true → (takes_mapping f a ≡ true → NoKey text a) → (t : List ℕ) (j : ℕ) → scalar_ahead text (setting_of f) a ≡ Stands t j → is_pointed text false a.at j ≡ true → (is_point (ahead other false j).token ≡ true) × ((ahead other false j).fresh ≡ false)

-- whatever node begins at a token in flow; where a colon that ends the text follows a plain scalar, a colon does
pub record SameFlowNode (text other : List ℕ) (f : Form) (i : ℕ) (a : Ahead) : Type 0 where
  pub name : (len : ℕ) → a.token ≡ Tag len → tag_name other a.at a.behind ≡ tag_name text a.at a.behind
  pub cuts : follows_get_att other f i ≡ follows_get_att text f i
  pub scalar : SameScalar text other (setting_of f) a
  pub point : (t : List ℕ) (j : ℕ) → scalar_ahead text (setting_of f) a ≡ Stands t j → is_pointed text true a.at j ≡ true → is_point (ahead other true j).token ≡ true

-- a key in flow, and the same is behind it
pub record SameFlowKey (text other : List ℕ) (a : Ahead) : Type 0 where
  pub scalar : SameScalar text other (as_key true) a
  pub quoted : begins_quoted (drop a.at other) ≡ begins_quoted (drop a.at text)
  pub behind : (t : List ℕ) (j : ℕ) → scalar_ahead text (as_key true) a ≡ Stands t j → ahead other true j ≡ ahead text true j
  pub last : (t : List ℕ) (j : ℕ) (loose : Bool) → scalar_ahead text (as_key true) a ≡ Stands t j → (ahead text true j).token ≡ Point loose → IsCharBoundary text (ahead text true j).behind → IsCharBoundary other (ahead text true j).behind

-- the same is ahead of the document's end, and behind a line `...` there
pub record SameEnd (text other : List ℕ) (i : ℕ) : Type 0 where
  pub here : ahead other false i ≡ ahead text false i
  pub further : (ahead text false i).token ≡ Dots → ahead other false (ahead text false i).behind ≡ ahead text false (ahead text false i).behind

-- whatever is read next, where reading stands in a form
abbrev pub SameStep : List ℕ → List ℕ → Stage → Form → ℕ → Type 0
SameStep text other stage.Entry f i = (ahead other true i ≡ ahead text true i) × (f ≡ Flow true → SameFlowKey text other (ahead text true i)) × (f ≡ Flow false → SameFlowNode text other (Flow false) i (ahead text true i))
SameStep text other stage.Value f i =
    (IsFlow f → (ahead other true i ≡ ahead text true i) × SameFlowNode text other f i (ahead text true i)) × (IsBlock f → (ahead other false i ≡ ahead text false i) × SameNode text other f i (ahead text false i))
SameStep text other stage.After f i = (IsFlow f → ahead other true i ≡ ahead text true i) × (IsBlock f → SameEnd text other i × SameKey text other (ahead text false i))
SameStep text other stage.Whole f i = Unit {0}

-- ---- collections that begin and end

-- a further collection was refused: there was no memory, or there are 128
abbrev pub Deep : Unfinished → ℕ → Stop → Type 0
Deep u at e = (e ≡ refusal.NoMemory) ⊎ ((e ≡ refusal.TooDeep at) × (length u.outer ≡ 128))

-- the text that a value keeps
abbrev pub leaf_text : Kind → List ℕ → List ℕ
leaf_text k t = if has_text k then t else []

-- two texts in a list, all at one place
abbrev pub with_pair : List ℕ → List ℕ → ℕ → Unfinished → Unfinished
with_pair s t at u = with_end (with_value kind.Text t at (with_value kind.Text s at (with_open kind.List at u)))

abbrev pub Paired : List ℕ → List ℕ → ℕ → ℕ → Unfinished → Unfinished → Result Position Stop → Type 0
Paired s t at end u w (Ok p) = (p.stage ≡ stage.After) × (p.at ≡ end) × (w ≡ with_pair s t at u) × (length u.outer < 128)
Paired s t at end u w (Err e) = Deep u at e

-- the unfinished tree with the value of a scalar, which may be cut, where another collection may be open
abbrev pub with_scalar : Bool → Kind → List ℕ → ℕ → Unfinished → Unfinished
with_scalar false k t at u = with_value k (leaf_text k t) at u
with_scalar true k t at u = with_pair (before_first is_dot t) (after_first is_dot t) at u

abbrev pub IsRoom : Bool → Unfinished → Type 0
IsRoom false u = Unit {0}
IsRoom true u = length u.outer < 128

-- a scalar became a value
abbrev pub Holds : List ℕ → Setting → Bool → Ahead → Unfinished → Unfinished → Result Position Stop → Type 0
Holds text s cuts a u w (Ok p) = (t : List ℕ) × (k : Kind) × Found text s a t k p.at × (p.stage ≡ stage.After) × (w ≡ with_scalar (is_cut cuts k t) k t a.at u) × IsRoom (is_cut cuts k t) u
Holds text s cuts a u w (Err e) =
    (e ≡ refusal.NoMemory) ⊎ ((((q : ℕ) × (e ≡ refusal.Unread q)) × Failed text s a) ⊎ (Divides text s a e
    ⊎ ((t : List ℕ) × (k : Kind) × (j : ℕ) × Found text s a t k j × (is_cut cuts k t ≡ true) × (e ≡ refusal.TooDeep a.at) × (length u.outer ≡ 128))))

-- a collection of a form began
abbrev pub Begun : Form → Ahead → List Form → Unfinished → List Form → Unfinished → Result (Unit {0}) Stop → Type 0
Begun f a fs u gs w (Ok _) = (gs ≡ f ∷ fs) × (w ≡ with_open (open_kind (has_keys f)) a.at u) × (length u.outer < 128)
Begun f a fs u gs w (Err e) = Deep u a.at e

-- the map of a tag began, with its key
abbrev pub TagBegun : List ℕ → Form → Ahead → List Form → Unfinished → List Form → Unfinished → Result Position Stop → Type 0
TagBegun text f a fs u gs w (Ok p) = (p.stage ≡ stage.Value) × (p.at ≡ a.behind) × (gs ≡ f ∷ fs) × (w ≡ with_key (tag_key (tag_name text a.at a.behind)) (with_open kind.Map a.at u)) × (length u.outer < 128)
TagBegun text f a fs u gs w (Err e) = Deep u a.at e

abbrev pub Opened : Bool → Ahead → List Form → Unfinished → List Form → Unfinished → Result Position Stop → Type 0
Opened map a fs u gs w (Ok p) = (p.stage ≡ stage.Entry) × (p.at ≡ a.behind) × (gs ≡ Flow map ∷ fs) × (w ≡ with_open (open_kind map) a.at u) × (length u.outer < 128)
Opened map a fs u gs w (Err e) = Deep u a.at e

-- brackets ended
abbrev pub Closed : ℕ → List Form → Unfinished → List Form → Unfinished → Result Position Stop → Type 0
Closed at fs u gs w (Ok p) = (p.stage ≡ stage.After) × (p.at ≡ at) × ((f : Form) × (fs ≡ f ∷ gs)) × (w ≡ with_end u)
Closed at fs u gs w (Err e) = e ≡ refusal.NoMemory

-- a node is complete, and this is the unfinished tree
abbrev pub Completes : ℕ → Unfinished → Unfinished → Result Position Stop → Type 0
Completes at u w (Ok p) = (p.stage ≡ stage.After) × (p.at ≡ at) × (w ≡ u)
Completes at u w (Err e) = e ≡ refusal.NoMemory
