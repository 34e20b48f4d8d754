-- What the bytes that were looked at fix: it is so in each text that has them too.
use Rattle.std.specs.Prelude.{ℕ, suc, ◌-◌, ◌++◌, ◌≡◌, ◌≤◌, ◌<◌, ◌⊎◌, ◌||◌, ◌&&◌, not, length, Bool, true, false, List, [], Result, Ok, Err, IsUtf8, drop, if◌then◌else◌}
use Rattle.std.specs.Str.{IsCharBoundary}
use Rattle.doc_values.specs.Tree.{Forest}
use Rattle.doc_values.specs.Unfinished.{Unfinished}
use Rattle.yaml_scalars.specs.declared.scalar.Setting.{Setting}
use Rattle.yaml_scalars.specs.Lines.{begins_with, each, ends_with, Fails}
use Rattle.yaml_scalars.specs.Scalar.{begins_order_mark}
use Rattle.yaml_scalars.specs.code.Walk.{ends_line}
use Rattle.yaml_laws.specs.code.Agreement.{AgreesTo}
use Rattle.yaml_laws.specs.code.Refusals.{is_ascii}
use Rattle.yaml_grammar.specs.declared.ahead.Ahead.{Ahead}
use Rattle.yaml_grammar.specs.declared.ahead.Token.TheVariants.{Dash}
use Rattle.yaml_grammar.specs.declared.form.Form.{Form}
use Rattle.yaml_grammar.specs.declared.form.Form.TheVariants.{Root, Flow, FlowTagged, Items, Entries, Tagged}
use Rattle.yaml_grammar.specs.declared.stage.Stage.{Stage}
use Rattle.yaml_grammar.specs.declared.stage.Stage.TheVariants as stage
use Rattle.yaml_grammar.specs.declared.stage.Position.{Position}
use Rattle.yaml_grammar.specs.declared.stop.Stop.{Stop}
use Rattle.yaml_grammar.specs.declared.stop.Stop.TheVariants as stop
use Rattle.yaml_grammar.specs.Ahead.{ahead}
use Rattle.yaml_grammar.specs.Nodes.{as_key, follows_get_att, scalar_ahead}
use Rattle.yaml_grammar.specs.Signs.{Reading, Tree}
use Rattle.yaml_grammar.specs.Yaml.{IsStart}
use Rattle.yaml_grammar.specs.code.AheadSeen.{ahead_seen}
use Rattle.yaml_grammar.specs.code.Closers.{in_flow}
use Rattle.yaml_grammar.specs.code.Points.{is_last_point}
use Rattle.yaml_grammar.specs.code.StopPlaces.{failed_place, torn_place}
use Rattle.yaml_grammar.specs.code.Rest.{top, Begins, Ends, Enters, Awaits}
use Rattle.yaml_grammar.specs.code.Steps.{IsSeen, IsCalm, Awaited, Missed, Rest, Fits, ends_before, SameNode, SameFlowNode, SameFlowKey, SameKey, SameEnd, SameStep, is_ending, is_flow_ending, is_open}

-- another text is the same up to a place and with the byte there; in both, or in neither, a break begins with that byte, and a
-- byte order mark stands in front
pub record IsTwin (text : List ℕ) (place : ℕ) (other : List ℕ) : Type 0 where
  pub utf8 : IsUtf8 other
  pub marks : begins_order_mark other ≡ begins_order_mark text
  pub agrees : AgreesTo place text other
  pub breaks : ends_line (drop place text) ≡ ends_line (drop place other)

-- a place lies behind another one, or is the same and has no carriage return
abbrev pub IsPast : List ℕ → ℕ → ℕ → Type 0
IsPast text p q = (p < q) ⊎ ((p ≡ q) × (begins_with 13 (drop q text) ≡ false))

-- a place of the text shows what is so in other ones: in each that is the same as far as what is ahead is looked at, and as a
-- place that is no further
abbrev pub IsShown : List ℕ → ℕ → (List ℕ → Type 0) → ℕ → Type 0
IsShown text i none q = (q < length text) × ((p : ℕ) × IsPast text p q × (ahead_seen text i ≤ p) × ((other : List ℕ) → IsTwin text p other → none other))

-- this is the place of the last byte, and what is ahead is looked at as far as the text's end, if no carriage return stands there
abbrev pub IsLast : List ℕ → ℕ → ℕ → Type 0
IsLast text i q = (suc q ≡ length text) × (ends_with 13 text ≡ false → length text ≤ ahead_seen text i)

-- where reading stops and no sign counts: the place is the text's length, or that of the last byte, or it shows what is so in
-- other texts
abbrev pub Stops : List ℕ → ℕ → (List ℕ → Type 0) → Result Position Stop → Type 0
Stops text i none (Ok p) = Unit {0}
Stops text i none (Err (stop.Unread q)) = ((q ≡ length text) ⊎ IsLast text i q) ⊎ IsShown text i none q
Stops text i none (Err _) = Unit {0}

-- what is so there: where the same is ahead, nothing follows a complete node between brackets, or outside of them; nor does a
-- value follow there, or an entry, with which the text is a document
abbrev pub NoTail : ℕ → Ahead → List Form → Unfinished → List ℕ → Type 0
NoTail i a fs u other = IsSeen other true i a → (v : Reading) → Ends other fs u.outer u.done i v → ⊥

abbrev pub NoLine : ℕ → Ahead → List Form → Unfinished → List ℕ → Type 0
NoLine i a fs u other = IsSeen other false i a → IsCalm other u i → (v : Reading) → Ends other fs u.outer u.done i v → ⊥

abbrev pub NoFlowValue : ℕ → Ahead → List Form → Unfinished → List ℕ → Type 0
NoFlowValue i a fs u other = IsSeen other true i a → (t : Forest) → Awaits other fs u.outer u.done u.key i (Tree t) → ⊥

abbrev pub NoValue : ℕ → Ahead → Form → List Form → Unfinished → List ℕ → Type 0
NoValue i a f fs u other = Awaited other fs u f i a → (t : Forest) → Awaits other fs u.outer u.done u.key i (Tree t) → ⊥

abbrev pub NoEntry : ℕ → Ahead → List Form → Unfinished → List ℕ → Type 0
NoEntry i a fs u other = IsSeen other true i a → (t : Forest) → Enters other fs u.outer u.done i (Tree t) → ⊥

-- nothing follows at a stage that is a tree
abbrev pub NoRest : Stage → List Form → Unfinished → ℕ → List ℕ → Type 0
NoRest s fs u i other = IsCharBoundary other i → Fits other s fs u i → (t : Forest) → Rest other s fs u i (Tree t) → ⊥

-- where reading stands at a stage
abbrev pub StopsStep : List ℕ → Stage → List Form → Unfinished → ℕ → Result Position Stop → Type 0
StopsStep text s fs u i r = Stops text i (NoRest s fs u i) r

-- with some bytes of ASCII behind the text something may follow at a stage that is a tree
abbrev pub Mends : List ℕ → Stage → List Form → Unfinished → ℕ → Type 0
Mends text s fs u i = (more : List ℕ) × (each is_ascii more ≡ true) × (tree : Forest) × Rest (text ++ more) s fs u i (Tree tree)

-- of a text that no carriage return ends: where reading stops at its length, some bytes mend it; where it stops at the last
-- byte, and all bytes are looked at for what is ahead, nothing follows in a longer text
abbrev pub LengthensAt : List ℕ → Stage → List Form → Unfinished → ℕ → ℕ → Type 0
LengthensAt text s fs u i q =
    ends_with 13 text ≡ false
    → (q ≡ length text → Mends text s fs u i) × (IsLast text i q → (more : List ℕ) → IsUtf8 (text ++ more) → NoRest s fs u i (text ++ more))

-- what is so of the place where reading stops and no sign counts
abbrev pub OnUnread : (ℕ → Type 0) → Result Position Stop → Type 0
OnUnread holds (Ok p) = Unit {0}
OnUnread holds (Err (stop.Unread q)) = holds q
OnUnread holds (Err _) = Unit {0}

abbrev pub Lengthens : List ℕ → Stage → List Form → Unfinished → ℕ → Result Position Stop → Type 0
Lengthens text s fs u i r = OnUnread (LengthensAt text s fs u i) r

-- the same of a node between brackets, where a value may stand or an entry of a list; it stops at the last byte only where what is
-- ahead is looked at no further, or behind the tag `!GetAtt`
abbrev pub MendsNode : List ℕ → List Form → Unfinished → ℕ → ℕ → Type 0
MendsNode text fs u i q =
    ends_with 13 text ≡ false
    → (q ≡ length text → is_ending (ahead text true i).token ≡ false → (more : List ℕ) × (each is_ascii more ≡ true) × (tree : Forest) × Awaits (text ++ more) fs u.outer u.done u.key i (Tree tree))
    × (IsLast text i q → (follows_get_att text (top fs) i ≡ true) × ((more : List ℕ) → IsUtf8 (text ++ more) → (t : Forest) → Awaits (text ++ more) fs u.outer u.done u.key i (Tree t) → ⊥))

-- no further entry of a block begins at a token; a sign may
abbrev pub IsStill : List ℕ → Ahead → Form → Type 0
IsStill text a Root = ⊥
IsStill text a (Flow map) = ⊥
IsStill text a (FlowTagged at) = ⊥
IsStill text a (Items m) = a.fresh ≡ true → a.column ≡ m → a.token ≡ Dash → ⊥
IsStill text a (Entries m) = a.fresh ≡ true → a.column ≡ m → Missed text (as_key false) a
IsStill text a (Tagged at above shares) = Unit {0}

-- blocks ended that end before the line of a token: what may follow behind them may follow in them, in any text; and a tree the
-- other way, where no further entry of theirs begins
abbrev pub Popped : Ahead → List Form → Unfinished → List Form → Unfinished → Type 0
Popped a fs u gs w =
    (text : List ℕ) (i : ℕ) → ((v : Reading) → Ends text gs w.outer w.done i v → Ends text fs u.outer u.done i v)
    × (((f : Form) → ends_before f a ≡ true → IsStill text (ahead text false i) f) → (t : Forest) → Ends text fs u.outer u.done i (Tree t) → Ends text gs w.outer w.done i (Tree t))

-- the place of the byte that settles how a position was come to: where an entry may stand, that of the bracket or the comma; where
-- a value may stand, the byte there, behind a `-`, a colon or a tag, but where a key without its colon ends what is ahead of it; and
-- behind a complete node what is ahead, of which the first byte tells where it is a colon that ends the text, over which no plain
-- scalar goes on, and between brackets unless a plain scalar may go on over it
abbrev pub settled : List ℕ → Bool → Stage → ℕ → ℕ
settled text flow stage.Entry i = i - 1
settled text flow stage.Value i = if is_flow_ending (ahead text true i).token then ahead_seen text i else i
settled text flow stage.After i = if is_last_point text flow (ahead text flow i) || (flow && not (is_open (ahead text true i).token)) then (ahead text flow i).at else ahead_seen text i
settled text flow stage.Whole i = ahead_seen text i

-- where reading goes on at a place: what holds of each text that is the same as far as it settles how the place was come to
abbrev pub Fixes : List ℕ → Bool → (ℕ → List ℕ → Type 0) → Result Position Stop → Type 0
Fixes text flow holds (Ok p) = (p.stage ≡ stage.Whole → ⊥) → (place : ℕ) (other : List ℕ) → IsTwin text place other → settled text flow p.stage p.at ≤ place → holds place other
Fixes text flow holds (Err e) = Unit {0}

-- the place that was read is looked at too, and what was found there is there
abbrev pub FixesNode : List ℕ → Form → ℕ → Ahead → Result Position Stop → Type 0
FixesNode text f i a r = Fixes text false (λ place other. (ahead_seen text i ≤ place) × SameNode text other f i a) r

abbrev pub FixesFlowNode : List ℕ → Form → ℕ → Ahead → Result Position Stop → Type 0
FixesFlowNode text f i a r = Fixes text true (λ place other. (ahead_seen text i ≤ place) × SameFlowNode text other f i a) r

abbrev pub FixesFlowKey : List ℕ → ℕ → Ahead → Result Position Stop → Type 0
FixesFlowKey text i a r = Fixes text true (λ place other. (ahead_seen text i ≤ place) × SameFlowKey text other a) r

abbrev pub FixesEntry : List ℕ → Bool → ℕ → Ahead → Result Position Stop → Type 0
FixesEntry text map i a r = Fixes text true (λ place other. (ahead_seen text i ≤ place) × (map ≡ true → SameFlowKey text other a) × (map ≡ false → SameFlowNode text other (Flow false) i a)) r

abbrev pub FixesEnd : List ℕ → ℕ → Ahead → Result Position Stop → Type 0
FixesEnd text i a r = Fixes text false (λ place other. (ahead_seen text i ≤ place) × SameEnd text other i × SameKey text other a) r

abbrev pub FixesSeen : List ℕ → ℕ → Result Position Stop → Type 0
FixesSeen text i r = Fixes text true (λ place other. ahead_seen text i ≤ place) r

abbrev pub FixesStep : List ℕ → Stage → Form → ℕ → Result Position Stop → Type 0
FixesStep text s f i r = Fixes text (in_flow f) (λ place other. (ahead_seen text i ≤ place) × SameStep text other s f i) r

-- where there is a tree, something may follow that is one, and the other way
abbrev pub Matches : List ℕ → (Forest → Type 0) → Stage → List Form → Unfinished → ℕ → Type 0
Matches other P s fs w i = ((t : Forest) → P t → (g : Forest) × Rest other s fs w i (Tree g)) × ((g : Forest) → Rest other s fs w i (Tree g) → (t : Forest) × P t)

-- so at a position that it can come to
abbrev pub Alive : List ℕ → (Forest → Type 0) → List Form → Unfinished → Position → Type 0
Alive other P fs w p = Matches other P p.stage fs w p.at × Fits other p.stage fs w p.at × IsCharBoundary other p.at

-- the document begins at a place
abbrev pub FixesStart : List ℕ → ℕ → Type 0
FixesStart text start = (place : ℕ) (other : List ℕ) → IsTwin text place other → ahead_seen text start ≤ place → IsStart other start × IsCharBoundary other start

-- where it does, its root may follow
abbrev pub FixesRoot : List ℕ → ℕ → Unfinished → Result Position Stop → Type 0
FixesRoot text i w (Ok p) = (place : ℕ) (other : List ℕ) → IsTwin text place other → ahead_seen text p.at ≤ place → (ahead_seen text i ≤ place) × (IsCharBoundary other i → Alive other (λ t. Begins other i (Tree t)) [] w p)
FixesRoot text i w (Err e) = Unit {0}

-- no scalar stands at a token, and this is the place: that where one fails, or the text's length where no byte stands there
abbrev pub FailedAt : List ℕ → Setting → Ahead → ℕ → Type 0
FailedAt text s a q = ((q ≡ length text) × (length text ≤ a.at)) ⊎ ((r : ℕ) × (a.at < length text) × (scalar_ahead text s a ≡ Fails r) × (q ≡ failed_place text a r))

-- the same outside of flow, where the place is that of the last byte if it is a dash below a block scalar's header
abbrev pub TornAt : List ℕ → Setting → Ahead → ℕ → Type 0
TornAt text s a q = (p : ℕ) × (q ≡ torn_place text a p) × FailedAt text s a p
