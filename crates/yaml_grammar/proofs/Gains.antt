-- What each part of the reader gives between brackets, from what may still follow before it and behind it.
use Rattle.std.proofs.Common.{◌≡◌, ℕ, suc, ◌<◌, ◌≤◌, ◌+◌, ◌*◌, ◌⊎◌, inl, inr, Bool, true, false, List, [], ◌∷◌, Option, Some, None, length, drop, refl, sym, ap, ◌∙◌, subst, true≢false, arith}
use Rattle.std.specs.Prelude.{Result, Ok, Err, option_map}
use Rattle.std.specs.List.{before_first, after_first}
use Rattle.std.specs.Str.{IsCharBoundary}
use Rattle.doc_values.specs.declared.builder.BuildRefusal.{BuildRefusal}
use Rattle.doc_values.specs.declared.builder.BuildRefusal.TheVariants as build
use Rattle.doc_values.specs.declared.kind.Kind.{Kind}
use Rattle.doc_values.specs.declared.kind.Kind.TheVariants as kind
use Rattle.doc_values.specs.Tree.{Label, Forest, Nil, Node, snoc, has_key}
use Rattle.doc_values.specs.Unfinished.{Level, Unfinished, with_value, with_open, with_key, with_end, open_kind, MayEnd}
use Rattle.yaml_scalars.specs.declared.scalar.Setting.{Setting}
use Rattle.yaml_scalars.specs.Lines.{Stands, Documents}
use Rattle.yaml_scalars.specs.Scalar.{is_typed, begins_quoted}
use Rattle.yaml_scalars.proofs.OneKind.{same_kind}
use Rattle.yaml_grammar.specs.declared.ahead.Ahead.{Ahead}
use Rattle.yaml_grammar.specs.declared.ahead.Token.{Token}
use Rattle.yaml_grammar.specs.declared.ahead.Token.TheVariants.{End, Dashes, Dots, Dash, Tag, NoTag, Opens, Closes, Comma, Point, Anchor, Percent, Tabbed, Stray, Other}
use Rattle.yaml_grammar.specs.declared.form.Form.{Form}
use Rattle.yaml_grammar.specs.declared.form.Form.TheVariants.{Root, Flow, FlowTagged, Items, Entries, Tagged}
use Rattle.yaml_grammar.specs.declared.stage.Stage.{Stage}
use Rattle.yaml_grammar.specs.declared.stage.Stage.TheVariants as stage
use Rattle.yaml_grammar.specs.declared.stage.Position.{Position}
use Rattle.yaml_grammar.specs.declared.stop.Stop.{Stop}
use Rattle.yaml_grammar.specs.declared.stop.Stop.TheVariants as refusal
use Rattle.yaml_grammar.specs.Ahead.{ahead, token_len}
use Rattle.yaml_grammar.specs.Nodes.{tag_name, tag_key, follows_get_att, is_dot, is_cut, IsValue, leaf, collection, setting_of, as_key, starts_scalar, scalar_ahead, node_sign, is_tagged, is_marked}
use Rattle.yaml_grammar.specs.Signs as sign
use Rattle.yaml_grammar.specs.Signs.{Sign, Tab, Directive, ManyDocuments, DuplicateKey, TooDeep, Reach, To, Shows, Reading, Refused}
use Rattle.yaml_grammar.specs.Flow.{may_miss, may_tag, IsColon}
use Rattle.yaml_grammar.specs.code.Refused.{of_build, of_sign}
use Rattle.yaml_grammar.specs.code.Rest.{top, Ends, Enters, Follows, Awaits}
use Rattle.yaml_grammar.specs.code.Steps.{IsPlaced, IsSeen, Rest, Agrees, LiesIn, Nests, IsFlow, Open, Fits, reached, Goes, Broke, Gives, Deep, Found, Missed, Finds, with_scalar, IsRoom, Holds, TagBegun, Opened, Closed, Completes, is_flow_ending}
use Rattle.yaml_grammar.proofs.Forms.{apart_map, apart_flow_tagged, map_kind, flow_inside, awaits_value, may_end}
use Rattle.yaml_grammar.proofs.LastValues.{scalar_calm, unnamed_calm, flow_calm}
use Rattle.yaml_grammar.proofs.NameEnds.{bracket_unnamed}
use Rattle.yaml_grammar.proofs.Scalars.{key_single}
use Rattle.yaml_grammar.proofs.Rests.{no_scalar, ends_comma, comma_ends, ends_closed, closed_ends, ends_begin, enters_closed, closed_enters, enters_item, item_enters, enters_key, key_enters, enters_no_key, enters_same_key, same_key_enters, enters_no_colon, NoEndings, ends_tag, tag_ends, awaits_scalar, scalar_awaits, awaits_opens, opens_awaits, deep_opens, awaits_tag, tag_awaits, deep_tag, awaits_missing, missing_awaits, awaits_none, awaits_documents, documents_awaits, awaits_signed, signed_awaits, may_untagged, enters_signed, signed_enters, enters_marked, marked_enters, ends_marked, marked_ends}

-- an unfinished tree of these parts
abbrev pub parts : List Level → Forest → Option (List ℕ) → Unfinished
parts outer done key = record { outer = outer; done = done; key = key }

-- what may follow at a stage, a place and an unfinished tree is the same as before
abbrev Same : List ℕ → (Reading → Type 0) → ℕ → Stage → ℕ → List Form → Unfinished → Type 0
Same text P n s j fs u = ((v : Reading) → (P v → Rest text s fs u j v) × (Rest text s fs u j v → P v)) × Fits text s fs u j × IsCharBoundary text j × (n < reached s j)

-- a position is given by its parts
pub goes : (text : List ℕ) (P : Reading → Type 0) (n : ℕ) (gs fs : List Form) (w u : Unfinished) (p : Position) (s : Stage) (j : ℕ) → p.stage ≡ s → p.at ≡ j → gs ≡ fs → w ≡ u
    → ((v : Reading) → (P v → Rest text s fs u j v) × (Rest text s fs u j v → P v)) → Fits text s fs u j → IsCharBoundary text j → n < reached s j → Goes text P n gs w p
goes text P n gs fs w u p s j es ej eg ew h f b l =
    subst (λ st. Same text P n st p.at gs w) (sym es)
    (subst (λ k. Same text P n s k gs w) (sym ej) (subst (λ g. Same text P n s j g w) (sym eg) (subst (λ z. Same text P n s j fs z) (sym ew) (h, f, b, l))))

-- from one thing that may follow to another
pub gives_from : (text : List ℕ) (P Q : Reading → Type 0) (n m : ℕ) (fs : List Form) (w : Unfinished) (r : Result Position Stop) → ((v : Reading) → (P v → Q v) × (Q v → P v)) → m ≤ n → Gives text Q n fs w r → Gives text P m fs w r
gives_from text P Q n m fs w (Ok p) h l (e, f, b, k) = ((λ v. ((λ x. (e v).0 ((h v).0 x)), (λ x. (h v).1 ((e v).1 x)))), f, b, omega (arith, l, k))
gives_from text P Q n m fs w (Err (refusal.Unread q)) h l g = λ v x. g v ((h v).0 x)
gives_from text P Q n m fs w (Err (refusal.Tab at)) h l (g, only) = ((h (Refused (Tab at))).1 g, (λ v x. only v ((h v).0 x)))
gives_from text P Q n m fs w (Err (refusal.Anchor at)) h l (g, only) = ((h (Refused (sign.Anchor at))).1 g, (λ v x. only v ((h v).0 x)))
gives_from text P Q n m fs w (Err (refusal.Tag at)) h l (g, only) = ((h (Refused (sign.Tag at))).1 g, (λ v x. only v ((h v).0 x)))
gives_from text P Q n m fs w (Err (refusal.Directive at)) h l (g, only) = ((h (Refused (Directive at))).1 g, (λ v x. only v ((h v).0 x)))
gives_from text P Q n m fs w (Err (refusal.ManyDocuments at)) h l (g, only) = ((h (Refused (ManyDocuments at))).1 g, (λ v x. only v ((h v).0 x)))
gives_from text P Q n m fs w (Err (refusal.DuplicateKey at)) h l (g, only) = ((h (Refused (DuplicateKey at))).1 g, (λ v x. only v ((h v).0 x)))
gives_from text P Q n m fs w (Err (refusal.TooDeep at)) h l (g, only) = ((h (Refused (TooDeep at))).1 g, (λ v x. only v ((h v).0 x)))
gives_from text P Q n m fs w (Err refusal.NoMemory) h l g = tt

-- want of memory
pub memory_gives : (text : List ℕ) (P : Reading → Type 0) (n : ℕ) (gs : List Form) (w : Unfinished) (e : Stop) → e ≡ refusal.NoMemory → Gives text P n gs w (Err e)
memory_gives text P n gs w e h = subst (λ z. Gives text P n gs w (Err z)) (sym h) tt

-- a sign
pub sign_gives : (text : List ℕ) (P : Reading → Type 0) (n : ℕ) (gs : List Form) (w : Unfinished) (s : Sign) → Broke P s → Gives text P n gs w (Err (of_sign s))
sign_gives text P n gs w (Tab at) b = b
sign_gives text P n gs w (sign.Anchor at) b = b
sign_gives text P n gs w (sign.Tag at) b = b
sign_gives text P n gs w (Directive at) b = b
sign_gives text P n gs w (ManyDocuments at) b = b
sign_gives text P n gs w (DuplicateKey at) b = b
sign_gives text P n gs w (TooDeep at) b = b

pub told : (o : Option Sign) (r : Stop) → Some r ≡ option_map of_sign o → (s : Sign) × (o ≡ Some s) × (of_sign s ≡ r)
told None r e = absurd (cc)
told (Some s) r e = (s, refl, (let h : of_sign s ≡ r = cc in h))

pub untold : (o : Option Sign) → None ≡ option_map of_sign o → o ≡ None
untold None e = refl
untold (Some s) e = absurd (cc)

-- there is room for another collection, or it is too deep
abbrev pub IsRoomFor : ℕ → Type 0 → Type 0 → Type 0
IsRoomFor d P Q = ((d < 128) × P) ⊎ ((d ≡ 128) × Q)

pub roomy : (d : ℕ) (P Q : Type 0) → d < 128 → IsRoomFor d P Q → P
roomy d P Q l (inl (k, p)) = p
roomy d P Q l (inr (e, q)) = absurd (omega (arith, l, e))

pub too_deep : (d : ℕ) (P Q : Type 0) → d ≡ 128 → IsRoomFor d P Q → Q
too_deep d P Q e (inl (k, p)) = absurd (omega (arith, k, e))
too_deep d P Q e (inr (h, q)) = q

-- a collection that is refused
pub deep_gives : (text : List ℕ) (P : Reading → Type 0) (n : ℕ) (gs : List Form) (u w : Unfinished) (at : ℕ) (e : Stop) (Q : Reading → Type 0)
    → ((v : Reading) → P v → IsRoomFor (length u.outer) (Q v) (v ≡ Refused (TooDeep at))) → (length u.outer ≡ 128 → P (Refused (TooDeep at))) → Deep u at e → Gives text P n gs w (Err e)
deep_gives text P n gs u w at e Q only there (inl h) = memory_gives text P n gs w e h
deep_gives text P n gs u w at e Q only there (inr (h, d)) = subst (λ z. Gives text P n gs w (Err z)) (sym h) (there d, (λ v x. too_deep (length u.outer) (Q v) (v ≡ Refused (TooDeep at)) d (only v x)))

-- what is known of a token
pub behind_one : (text : List ℕ) (at : ℕ) (a : Ahead) (t : Token) → IsPlaced text at a → a.token ≡ t → token_len t ≡ 1 → at < a.behind
behind_one text at a t p e l = let n : token_len a.token ≡ 1 = ap token_len e ∙ l in omega (arith, p.0, p.3, n)

-- ---- where a node is awaited

tag_lies : (p : ℕ) (f : Form) → may_tag f ≡ true → LiesIn (FlowTagged p) f
tag_lies p Root h = absurd (cc)
tag_lies p (Flow m) h = tt
tag_lies p (FlowTagged q) h = absurd (cc)
tag_lies p (Items m) h = absurd (cc)
tag_lies p (Entries m) h = absurd (cc)
tag_lies p (Tagged at above shares) h = absurd (cc)

-- a node is awaited at a place in flow, where this is ahead
abbrev pub FlowSpot : List ℕ → List Form → Unfinished → Form → ℕ → Ahead → Type 0
FlowSpot text fs u f at a = IsPlaced text at a × (top fs ≡ f) × IsFlow f × Open fs u

pub flow_spot : (text : List ℕ) (fs : List Form) (u : Unfinished) (f : Form) (at : ℕ) (a : Ahead) → IsSeen text true at a → top fs ≡ f → IsFlow f → Open fs u → FlowSpot text fs u f at a
flow_spot text fs u f at a (e, p) t w o = (p, t, w, o)

abbrev pub FlowAwaiting : List ℕ → List Form → Unfinished → ℕ → Reading → Type 0
FlowAwaiting text fs u at v = Awaits text fs u.outer u.done u.key at v

pub tag_flow : (f : Form) → may_tag f ≡ true → IsFlow f
tag_flow Root h = absurd (cc)
tag_flow (Flow m) h = tt
tag_flow (FlowTagged q) h = absurd (cc)
tag_flow (Items m) h = absurd (cc)
tag_flow (Entries m) h = absurd (cc)
tag_flow (Tagged at above shares) h = absurd (cc)

-- a collection begins
abbrev OpensFlow : List ℕ → List Form → Unfinished → ℕ → Bool → Reading → Type 0
OpensFlow text fs u at map v = Enters text (Flow map ∷ fs) (record { label = collection map u.key (ahead text true at).at; before = u.done } ∷ u.outer) Nil (ahead text true at).behind v

opens_node : (text : List ℕ) (fs gs : List Form) (u w : Unfinished) (f : Form) (at : ℕ) (map : Bool) (r : Result Position Stop) → FlowSpot text fs u f at (ahead text true at) → (ahead text true at).token ≡ Opens map
    → Opened map (ahead text true at) fs u gs w r → Gives text (FlowAwaiting text fs u at) (2 * at + 2) gs w r
opens_node text fs gs u w f at map (Ok p) sp c (es, ej, eg, ew, d) =
    let far : at < (ahead text true at).behind = behind_one text at (ahead text true at) (Opens map) sp.0 c refl in
    goes text (FlowAwaiting text fs u at) (2 * at + 2) gs (Flow map ∷ fs) w (with_open (open_kind map) (ahead text true at).at u) p stage.Entry (ahead text true at).behind es ej eg ew
    (λ v. ((λ h. roomy (length u.outer) (OpensFlow text fs u at map v) (v ≡ Refused (TooDeep (ahead text true at).at)) d (awaits_opens text fs u.outer f sp.1 sp.2 sp.3.1 u.done u.key at v map c h)), (λ h. opens_awaits text fs u.outer f sp.1 sp.2 sp.3.1 u.done u.key at v map c d h)))
    (((map_kind map, sp.3.0), (tt, tt, sp.3.1)), (map, refl), refl) sp.0.2 (omega (arith, far))
opens_node text fs gs u w f at map (Err e) sp c h =
    deep_gives text (FlowAwaiting text fs u at) (2 * at + 2) gs u w (ahead text true at).at e (OpensFlow text fs u at map) (λ v x. awaits_opens text fs u.outer f sp.1 sp.2 sp.3.1 u.done u.key at v map c x)
    (λ d. deep_opens text fs u.outer f sp.1 sp.2 sp.3.1 u.done u.key at (Refused (TooDeep (ahead text true at).at)) map c d refl) h

pub opened_gives : (text : List ℕ) (fs gs : List Form) (u w : Unfinished) (f : Form) (at : ℕ) (next : Ahead) (map : Bool) (r : Result Position Stop) → next ≡ ahead text true at → FlowSpot text fs u f at next → next.token ≡ Opens map
    → Opened map next fs u gs w r → Gives text (FlowAwaiting text fs u at) (2 * at + 2) gs w r
opened_gives text fs gs u w f at next map r e sp c h =
    subst (λ a. FlowSpot text fs u f at a → a.token ≡ Opens map → Opened map a fs u gs w r → Gives text (FlowAwaiting text fs u at) (2 * at + 2) gs w r) (sym e)
    (λ s d g. opens_node text fs gs u w f at map r s d g) sp c h

-- ---- a tag

module _ (text : List ℕ) (fs : List Form) (u : Unfinished) (f : Form) (at len : ℕ) (sp : FlowSpot text fs u f at (ahead text true at)) (c : (ahead text true at).token ≡ Tag len) (mt : may_tag f ≡ true) where
  abbrev FirstBehind : Reading → Type 0
  FirstBehind v =
      Awaits text (FlowTagged (ahead text true at).at ∷ fs) (record { label = collection true u.key (ahead text true at).at; before = u.done } ∷ u.outer) Nil
      (Some (tag_key (tag_name text (ahead text true at).at (ahead text true at).behind))) (ahead text true at).behind v

  room_tag : (v : Reading) → FlowAwaiting text fs u at v → IsRoomFor (length u.outer) (FirstBehind v) (v ≡ Refused (TooDeep (ahead text true at).at))
  room_tag v h = awaits_tag text fs u.outer f sp.1 sp.2 sp.3.1 u.done u.key at v len c (may_untagged text f mt) h

  goes_tag : (gs : List Form) (w : Unfinished) (p : Position) → gs ≡ FlowTagged (ahead text true at).at ∷ fs
      → w ≡ with_key (tag_key (tag_name text (ahead text true at).at (ahead text true at).behind)) (with_open kind.Map (ahead text true at).at u) → length u.outer < 128
      → p.stage ≡ stage.Value → p.at ≡ (ahead text true at).behind → Goes text (FlowAwaiting text fs u at) (2 * at + 2) gs w p
  goes_tag gs w p eg ew d es ej =
      let some : token_len (ahead text true at).token ≡ suc len = ap token_len c in
      let name : List ℕ = tag_key (tag_name text (ahead text true at).at (ahead text true at).behind) in
      goes text (FlowAwaiting text fs u at) (2 * at + 2) gs (FlowTagged (ahead text true at).at ∷ fs) w (with_key name (with_open kind.Map (ahead text true at).at u)) p stage.Value (ahead text true at).behind es ej eg ew
      (λ v. ((λ h. roomy (length u.outer) (FirstBehind v) (v ≡ Refused (TooDeep (ahead text true at).at)) d (room_tag v h)), (λ h. tag_awaits text fs u.outer f sp.1 sp.2 sp.3.1 u.done u.key at v len c mt d h)))
      (((refl, sp.3.0), (subst (LiesIn (FlowTagged (ahead text true at).at)) (sym sp.1) (tag_lies (ahead text true at).at f mt), tt, sp.3.1)), apart_flow_tagged _, (name, refl), omega (arith, sp.0.3, some), tt)
      sp.0.2 (omega (arith, sp.0.0, sp.0.3, some))

  tag_node : (gs : List Form) (w : Unfinished) (r : Result Position Stop) → TagBegun text (FlowTagged (ahead text true at).at) (ahead text true at) fs u gs w r → Gives text (FlowAwaiting text fs u at) (2 * at + 2) gs w r
  tag_node gs w (Ok p) (es, ej, eg, ew, d) = goes_tag gs w p eg ew d es ej
  tag_node gs w (Err e) h =
      deep_gives text (FlowAwaiting text fs u at) (2 * at + 2) gs u w (ahead text true at).at e FirstBehind room_tag
      (λ d. deep_tag text fs u.outer f sp.1 sp.2 sp.3.1 u.done u.key at (Refused (TooDeep (ahead text true at).at)) len c mt d refl) h

pub flow_tag_gives : (text : List ℕ) (fs gs : List Form) (u w : Unfinished) (f : Form) (at len : ℕ) (next : Ahead) (r : Result Position Stop) → next ≡ ahead text true at → FlowSpot text fs u f at next → next.token ≡ Tag len → may_tag f ≡ true
    → TagBegun text (FlowTagged next.at) next fs u gs w r → Gives text (FlowAwaiting text fs u at) (2 * at + 2) gs w r
flow_tag_gives text fs gs u w f at len next r e sp c mt h =
    subst (λ a. FlowSpot text fs u f at a → a.token ≡ Tag len → TagBegun text (FlowTagged a.at) a fs u gs w r → Gives text (FlowAwaiting text fs u at) (2 * at + 2) gs w r) (sym e)
    (λ s x g. tag_node text fs u f at len s x mt gs w r g) sp c h

-- a sign
module _ (text : List ℕ) (fs : List Form) (u : Unfinished) (f : Form) (at : ℕ) (s : Sign) (sp : FlowSpot text fs u f at (ahead text true at)) (sg : node_sign (is_tagged f) (ahead text true at).at (ahead text true at).token ≡ Some s) where
  signed_node : Broke (FlowAwaiting text fs u at) s
  signed_node = (signed_awaits text fs u.outer f sp.1 sp.2 sp.3.1 u.done u.key at (Refused s) s sg refl, (λ v h. awaits_signed text fs u.outer f sp.1 sp.2 sp.3.1 u.done u.key at v s sg h))

pub flow_signed_gives : (text : List ℕ) (n : ℕ) (fs gs : List Form) (u w : Unfinished) (f : Form) (tagged : Bool) (at : ℕ) (next : Ahead) (r : Stop) → next ≡ ahead text true at → FlowSpot text fs u f at next → tagged ≡ is_tagged f
    → Some r ≡ option_map of_sign (node_sign tagged next.at next.token) → Gives text (FlowAwaiting text fs u at) n gs w (Err r)
flow_signed_gives text n fs gs u w f tagged at next r e sp t h =
    let d = told (node_sign tagged next.at next.token) r h in
    subst (λ z. Gives text (FlowAwaiting text fs u at) n gs w (Err z)) d.2
    (sign_gives text (FlowAwaiting text fs u at) n gs w d.0
    (subst (λ a. FlowSpot text fs u f at a → node_sign (is_tagged f) a.at a.token ≡ Some d.0 → Broke (FlowAwaiting text fs u at) d.0) (sym e) (λ s g. signed_node text fs u f at d.0 s g) sp (subst (λ q. node_sign q next.at next.token ≡ Some d.0) t d.1)))

-- no sign, but a tag: none stands before it
pub tag_allowed : (f : Form) (tagged : Bool) (at len : ℕ) (t : Token) → IsFlow f → tagged ≡ is_tagged f → t ≡ Tag len → node_sign tagged at t ≡ None → may_tag f ≡ true
tag_allowed Root tagged at len t w e h n = absurd w
tag_allowed (Flow m) tagged at len t w e h n = refl
tag_allowed (FlowTagged p) tagged at len t w e h n =
    absurd (let no : Some (sign.Tag at) ≡ None = sym (ap (λ q. node_sign q at t) e ∙ ap (node_sign true at) h) ∙ n in cc)
tag_allowed (Items m) tagged at len t w e h n = absurd w
tag_allowed (Entries m) tagged at len t w e h n = absurd w
tag_allowed (Tagged at' above shares) tagged at len t w e h n = absurd w

-- behind the `!` of a tag a text may be cut
pub tag_cut : (text : List ℕ) (flow : Bool) (at len : ℕ) (next : Ahead) → IsSeen text flow at next → next.token ≡ Tag len → IsCharBoundary text (next.at + 1)
tag_cut text flow at len next (e, pl) t = pl.5 (let some : token_len next.token ≡ suc len = ap token_len t in omega (arith, some))

-- ---- a scalar

-- the two parts of a text that is cut
abbrev two_leaves : List ℕ → ℕ → Forest
two_leaves t at = Node (leaf kind.Text (before_first is_dot t) None at) Nil (Node (leaf kind.Text (after_first is_dot t) None at) Nil Nil)

-- its value, and what follows that
abbrev pub ValueEnds : List ℕ → List Form → Unfinished → Bool → Kind → List ℕ → ℕ → ℕ → Reading → Type 0
ValueEnds text fs u c k t at j v = (l : Label) × (kids : Forest) × (r : Reach) × IsValue c (length u.outer) k t u.key at j l kids r × Follows text fs u.outer (snoc u.done l kids) v r

pub value_ends : (text : List ℕ) (fs : List Form) (u : Unfinished) (c : Bool) (k : Kind) (t : List ℕ) (at j : ℕ) (v : Reading) → IsRoom c u → ValueEnds text fs u c k t at j v → Ends text fs (with_scalar c k t at u).outer (with_scalar c k t at u).done j v
value_ends text fs u false k t at j v m (l, kids, r, (el, ek, er), en) =
    subst (λ g. Ends text fs u.outer (snoc u.done g Nil) j v) el (subst (λ g. Ends text fs u.outer (snoc u.done l g) j v) ek (subst (λ z. Follows text fs u.outer (snoc u.done l kids) v z) er en))
value_ends text fs u true k t at j v m (l, kids, r, inl (d, el, ek, er), en) =
    subst (λ g. Ends text fs u.outer (snoc u.done g (two_leaves t at)) j v) el (subst (λ g. Ends text fs u.outer (snoc u.done l g) j v) ek (subst (λ z. Follows text fs u.outer (snoc u.done l kids) v z) er en))
value_ends text fs u true k t at j v m (l, kids, r, inr (d, er), en) = absurd (omega (arith, m, d))

pub ends_value : (text : List ℕ) (fs : List Form) (u : Unfinished) (c : Bool) (k : Kind) (t : List ℕ) (at j : ℕ) (v : Reading) → IsRoom c u → Ends text fs (with_scalar c k t at u).outer (with_scalar c k t at u).done j v → ValueEnds text fs u c k t at j v
ends_value text fs u false k t at j v m en = (leaf k t u.key at, Nil, To j, (refl, refl, refl), en)
ends_value text fs u true k t at j v m en = (collection false u.key at, two_leaves t at, To j, inl (m, refl, refl, refl), en)

-- where it is cut and 128 collections are open, it is too deep
pub value_deep : (text : List ℕ) (fs : List Form) (u : Unfinished) (c : Bool) (k : Kind) (t : List ℕ) (at j : ℕ) (v : Reading) → c ≡ true → length u.outer ≡ 128 → ValueEnds text fs u c k t at j v → v ≡ Refused (TooDeep at)
value_deep text fs u true k t at j v e d (l, kids, r, inl (m, el, ek, er), en) = absurd (omega (arith, m, d))
value_deep text fs u true k t at j v e d (l, kids, r, inr (m, er), en) = subst (λ z. Follows text fs u.outer (snoc u.done l kids) v z) er en
value_deep text fs u false k t at j v e d h = absurd (true≢false (sym e))

pub deep_value : (text : List ℕ) (fs : List Form) (u : Unfinished) (c : Bool) (k : Kind) (t : List ℕ) (at j : ℕ) → c ≡ true → length u.outer ≡ 128 → ValueEnds text fs u c k t at j (Refused (TooDeep at))
deep_value text fs u true k t at j e d = (collection false u.key at, Nil, Shows (TooDeep at), inr (d, refl), refl)
deep_value text fs u false k t at j e d = absurd (true≢false (sym e))

pub value_fits : (text : List ℕ) (fs : List Form) (u : Unfinished) (c : Bool) (k : Kind) (t : List ℕ) (at j : ℕ) → Open fs u → at < j → Fits text stage.After fs (with_scalar c k t at u) j
value_fits text fs u false k t at j o l = (o, refl, (λ b. scalar_calm text false k t at j u l))
value_fits text fs u true k t at j o l = (o, refl, (λ b. scalar_calm text true k t at j u l))

abbrev NoOpening : Form → Token → Type 0
NoOpening f t = ((m : Bool) → t ≡ Opens m → ⊥) × (may_tag f ≡ true → (len : ℕ) → t ≡ Tag len → ⊥)

scalar_node : (text : List ℕ) (fs : List Form) (u w : Unfinished) (f : Form) (at : ℕ) (r : Result Position Stop) → FlowSpot text fs u f at (ahead text true at) → NoOpening f (ahead text true at).token → node_sign (is_tagged f) (ahead text true at).at (ahead text true at).token ≡ None → (may_miss f ≡ true → NoEndings text (ahead text true at).token)
    → Holds text (setting_of f) (follows_get_att text f at) (ahead text true at) u w r → Gives text (FlowAwaiting text fs u at) (2 * at + 2) fs w r
scalar_node text fs u w f at (Ok p) sp shut us none (t, k, (st, hk, lt, b), es, ew, room) =
    let cut : Bool = is_cut (follows_get_att text f at) k t in
    goes text (FlowAwaiting text fs u at) (2 * at + 2) fs fs w (with_scalar cut k t (ahead text true at).at u) p stage.After p.at es refl refl ew
    (λ v. (
      (λ h. value_ends text fs u cut k t (ahead text true at).at p.at v room (awaits_scalar text fs u.outer f sp.1 sp.2 sp.3.1 u.done u.key at v t k p.at none st (λ l hl. same_kind (is_typed (setting_of f) text (ahead text true at).at) t l k hl hk) h)),
      (λ h. scalar_awaits text fs u.outer f sp.1 sp.2 sp.3.1 u.done u.key at v t k p.at st hk (ends_value text fs u cut k t (ahead text true at).at p.at v room h)),
    ))
    (value_fits text fs u cut k t (ahead text true at).at p.at sp.3 lt) b (omega (arith, lt, sp.0.0))
scalar_node text fs u w f at (Err r) sp shut us none (inl h) = memory_gives text (FlowAwaiting text fs u at) (2 * at + 2) fs w r h
scalar_node text fs u w f at (Err r) sp shut us none (inr (inl ((place, h), m))) =
    subst (λ z. Gives text (FlowAwaiting text fs u at) (2 * at + 2) fs w (Err z)) (sym h) (λ v x. awaits_none text fs u.outer f sp.1 sp.2 sp.3.1 u.done u.key at v none shut us m x)
scalar_node text fs u w f at (Err r) sp shut us none (inr (inr (inl (p, e, d)))) =
    subst (λ z. Gives text (FlowAwaiting text fs u at) (2 * at + 2) fs w (Err z)) (sym e)
    (documents_awaits text fs u.outer f sp.1 sp.2 sp.3.1 u.done u.key at (Refused (ManyDocuments p)) p d refl, (λ v h. awaits_documents text fs u.outer f sp.1 sp.2 sp.3.1 u.done u.key at v p none d h))
scalar_node text fs u w f at (Err r) sp shut us none (inr (inr (inr (t, k, j, (st, hk, lt, b), c, e, deep)))) =
    let cut : Bool = is_cut (follows_get_att text f at) k t in
    subst (λ z. Gives text (FlowAwaiting text fs u at) (2 * at + 2) fs w (Err z)) (sym e) (
      scalar_awaits text fs u.outer f sp.1 sp.2 sp.3.1 u.done u.key at (Refused (TooDeep (ahead text true at).at)) t k j st hk (deep_value text fs u cut k t (ahead text true at).at j c deep),
      (λ v h. value_deep text fs u cut k t (ahead text true at).at j v c deep
          (awaits_scalar text fs u.outer f sp.1 sp.2 sp.3.1 u.done u.key at v t k j none st (λ l hl. same_kind (is_typed (setting_of f) text (ahead text true at).at) t l k hl hk) h)),
    )

pub holds_gives : (text : List ℕ) (fs : List Form) (u w : Unfinished) (f : Form) (tagged : Bool) (at : ℕ) (next : Ahead) (r : Result Position Stop) → next ≡ ahead text true at → FlowSpot text fs u f at next
    → ((m : Bool) → next.token ≡ Opens m → ⊥) → ((len : ℕ) → next.token ≡ Tag len → ⊥) → tagged ≡ is_tagged f → node_sign tagged next.at next.token ≡ None → (may_miss f ≡ true → NoEndings text next.token)
    → Holds text (setting_of f) (follows_get_att text f at) next u w r → Gives text (FlowAwaiting text fs u at) (2 * at + 2) fs w r
holds_gives text fs u w f tagged at next r e sp shut untagged t us none h =
    subst (λ a. FlowSpot text fs u f at a → NoOpening f a.token → node_sign (is_tagged f) a.at a.token ≡ None → (may_miss f ≡ true → NoEndings text a.token) → Holds text (setting_of f) (follows_get_att text f at) a u w r → Gives text (FlowAwaiting text fs u at) (2 * at + 2) fs w r) (sym e)
    (λ x d k n g. scalar_node text fs u w f at r x d k n g) sp (shut, (λ m. untagged)) (subst (λ q. node_sign q next.at next.token ≡ None) t us) none h

-- ---- a value that is missing

ending_shut : (f : Form) (t : Token) → is_flow_ending t ≡ true → NoOpening f t
ending_shut f t e = ((λ m h. true≢false (sym e ∙ ap is_flow_ending h)), (λ g n h. true≢false (sym e ∙ ap is_flow_ending h)))

pub ending_start : (t : Token) → is_flow_ending t ≡ true → starts_scalar t ≡ false
ending_start End e = refl
ending_start Dashes e = refl
ending_start Dots e = refl
ending_start Dash e = refl
ending_start (Tag len) e = refl
ending_start NoTag e = refl
ending_start (Opens m) e = refl
ending_start (Closes m) e = refl
ending_start Comma e = refl
ending_start (Point l) e = absurd (true≢false (sym e))
ending_start Anchor e = refl
ending_start Percent e = refl
ending_start Tabbed e = refl
ending_start Stray e = refl
ending_start Other e = absurd (true≢false (sym e))

ending_unsigned : (tagged : Bool) (at : ℕ) (t : Token) → is_flow_ending t ≡ true → node_sign tagged at t ≡ None
ending_unsigned tagged at End e = refl
ending_unsigned tagged at Dashes e = refl
ending_unsigned tagged at Dots e = refl
ending_unsigned tagged at Dash e = refl
ending_unsigned tagged at (Tag len) e = absurd (true≢false (sym e))
ending_unsigned tagged at NoTag e = absurd (true≢false (sym e))
ending_unsigned tagged at (Opens m) e = refl
ending_unsigned tagged at (Closes m) e = refl
ending_unsigned tagged at Comma e = refl
ending_unsigned tagged at (Point l) e = refl
ending_unsigned tagged at Anchor e = absurd (true≢false (sym e))
ending_unsigned tagged at Percent e = refl
ending_unsigned tagged at Tabbed e = refl
ending_unsigned tagged at Stray e = refl
ending_unsigned tagged at Other e = refl

null_node : (text : List ℕ) (fs : List Form) (u w : Unfinished) (f : Form) (at : ℕ) (r : Result Position Stop) → FlowSpot text fs u f at (ahead text true at) → IsCharBoundary text at → may_miss f ≡ true
    → is_flow_ending (ahead text true at).token ≡ true → Completes at (with_value kind.Null [] at u) w r → Gives text (FlowAwaiting text fs u at) (2 * at + 1) fs w r
null_node text fs u w f at (Ok p) sp b mm c (es, ej, ew) =
    let t : Token = (ahead text true at).token in
    goes text (FlowAwaiting text fs u at) (2 * at + 1) fs fs w (with_value kind.Null [] at u) p stage.After at es ej refl ew
    (λ v. (
      (λ h. awaits_missing text fs u.outer f sp.1 sp.2 sp.3.1 u.done u.key at v (ending_shut f t c) (ending_unsigned (is_tagged f) (ahead text true at).at t c) (ending_start t c) h),
      (λ h. missing_awaits text fs u.outer f sp.1 sp.2 sp.3.1 u.done u.key at v mm h),
    ))
    (sp.3, refl, flow_calm text fs f (with_value kind.Null [] at u) at sp.1 sp.2) b (omega arith)
null_node text fs u w f at (Err e) sp b mm c h = memory_gives text (FlowAwaiting text fs u at) (2 * at + 1) fs w e h

pub null_gives : (text : List ℕ) (fs : List Form) (u w : Unfinished) (f : Form) (at : ℕ) (next : Ahead) (r : Result Position Stop) → next ≡ ahead text true at → FlowSpot text fs u f at next → IsCharBoundary text at → may_miss f ≡ true → is_flow_ending next.token ≡ true
    → Completes at (with_value kind.Null [] at u) w r → Gives text (FlowAwaiting text fs u at) (2 * at + 1) fs w r
null_gives text fs u w f at next r e sp b mm c h =
    subst (λ a. FlowSpot text fs u f at a → is_flow_ending a.token ≡ true → Gives text (FlowAwaiting text fs u at) (2 * at + 1) fs w r) (sym e) (λ s d. null_node text fs u w f at r s b mm d h) sp c

-- ---- behind a tag's node its map ends

lies_brackets : (p : ℕ) (f : Form) → LiesIn (FlowTagged p) f → (map : Bool) × (f ≡ Flow map)
lies_brackets p Root l = absurd l
lies_brackets p (Flow m) l = (m, refl)
lies_brackets p (FlowTagged q) l = absurd l
lies_brackets p (Items m) l = absurd l
lies_brackets p (Entries m) l = absurd l
lies_brackets p (Tagged at above shares) l = absurd l

-- the stack of which it was the innermost
abbrev pub TagOn : ℕ → List Form → List Form → Unfinished → Type 0
TagOn p fs gs u = (f : Form) × (fs ≡ f ∷ gs) × (top fs ≡ FlowTagged p) × Open fs u

tag_split : (p : ℕ) (fs gs : List Form) (u : Unfinished) → TagOn p fs gs u → (fs ≡ FlowTagged p ∷ gs) × Open (FlowTagged p ∷ gs) u
tag_split p fs gs u (f, e, t, o) =
    let same : f ≡ FlowTagged p = sym (ap top e) ∙ t in
    let whole : fs ≡ FlowTagged p ∷ gs = e ∙ ap (λ z. z ∷ gs) same in
    (whole, subst (λ z. Open z u) whole o)

-- what is left open
pub tag_popped : (p : ℕ) (fs gs : List Form) (u w : Unfinished) → TagOn p fs gs u → w ≡ with_end u → Open gs w × (w.key ≡ None) × ((map : Bool) × (top gs ≡ Flow map))
tag_popped p fs gs u w s e = subst (λ z. Open gs z × (z.key ≡ None) × ((map : Bool) × (top gs ≡ Flow map))) (sym e) (by_outer u.outer u.done u.key (tag_split p fs gs u s).1) where
  by_outer : (outer : List Level) (done : Forest) (key : Option (List ℕ)) → Open (FlowTagged p ∷ gs) (parts outer done key) → Open gs (with_end (parts outer done key)) × ((with_end (parts outer done key)).key ≡ None) × ((map : Bool) × (top gs ≡ Flow map))
  by_outer [] done key o = absurd o.0
  by_outer (x ∷ xs) done key o = ((o.0.1, o.1.2), refl, lies_brackets p (top gs) o.1.0)

-- and it may end
pub tag_may_end : (p : ℕ) (fs gs : List Form) (u : Unfinished) → TagOn p fs gs u → u.key ≡ None → MayEnd u
tag_may_end p fs gs u (f, e, t, o) k = may_end (FlowTagged p) fs u t (λ r. absurd (cc)) o.0 k

pub tag_gives : (text : List ℕ) (p : ℕ) (fs gs hs : List Form) (u w z : Unfinished) (at : ℕ) (r : Result Position Stop) → TagOn p fs gs u → w ≡ with_end u
    → Gives text (Ends text gs w.outer w.done at) (2 * at + 2) hs z r → Gives text (Ends text fs u.outer u.done at) (2 * at + 2) hs z r
tag_gives text p fs gs hs u w z at r s e g =
    let k = tag_split p fs gs u s in
    gives_from text (Ends text fs u.outer u.done at) (Ends text gs w.outer w.done at) (2 * at + 2) (2 * at + 2) hs z r
    (subst (λ q. (v : Reading) → (Ends text fs u.outer u.done at v → Ends text gs q.outer q.done at v) × (Ends text gs q.outer q.done at v → Ends text fs u.outer u.done at v)) (sym e)
    (subst (λ q. (v : Reading) → (Ends text q u.outer u.done at v → Ends text gs (with_end u).outer (with_end u).done at v) × (Ends text gs (with_end u).outer (with_end u).done at v → Ends text q u.outer u.done at v)) (sym k.0)
    (by_outer u.outer u.done u.key k.1))) (omega arith) g where
      by_outer : (outer : List Level) (done : Forest) (key : Option (List ℕ)) → Open (FlowTagged p ∷ gs) (parts outer done key)
          → (v : Reading) → (Ends text (FlowTagged p ∷ gs) outer done at v → Ends text gs (with_end (parts outer done key)).outer (with_end (parts outer done key)).done at v)
          × (Ends text gs (with_end (parts outer done key)).outer (with_end (parts outer done key)).done at v → Ends text (FlowTagged p ∷ gs) outer done at v)
      by_outer [] done key o = absurd o.0
      by_outer (x ∷ xs) done key o = λ v. ((λ h. ends_tag text p gs x xs done at v h), (λ h. tag_ends text p gs x xs done at v h))

-- so what may follow is the same in both
pub tag_both : (text : List ℕ) (p : ℕ) (fs gs : List Form) (u w : Unfinished) (at : ℕ) → TagOn p fs gs u → w ≡ with_end u → (v : Reading) → (Ends text fs u.outer u.done at v → Ends text gs w.outer w.done at v) × (Ends text gs w.outer w.done at v → Ends text fs u.outer u.done at v)
tag_both text p fs gs u w at s e =
    let k = tag_split p fs gs u s in
    subst (λ q. (v : Reading) → (Ends text fs u.outer u.done at v → Ends text gs q.outer q.done at v) × (Ends text gs q.outer q.done at v → Ends text fs u.outer u.done at v)) (sym e)
    (subst (λ q. (v : Reading) → (Ends text q u.outer u.done at v → Ends text gs (with_end u).outer (with_end u).done at v) × (Ends text gs (with_end u).outer (with_end u).done at v → Ends text q u.outer u.done at v)) (sym k.0)
    (by_outer u.outer u.done u.key k.1)) where
      by_outer : (outer : List Level) (done : Forest) (key : Option (List ℕ)) → Open (FlowTagged p ∷ gs) (parts outer done key)
          → (v : Reading) → (Ends text (FlowTagged p ∷ gs) outer done at v → Ends text gs (with_end (parts outer done key)).outer (with_end (parts outer done key)).done at v)
          × (Ends text gs (with_end (parts outer done key)).outer (with_end (parts outer done key)).done at v → Ends text (FlowTagged p ∷ gs) outer done at v)
      by_outer [] done key o = absurd o.0
      by_outer (x ∷ xs) done key o = λ v. ((λ h. ends_tag text p gs x xs done at v h), (λ h. tag_ends text p gs x xs done at v h))

-- ---- the collection ends

close_entry : (text : List ℕ) (mp : Bool) (done : Forest) (key : Option (List ℕ)) (gs : List Form) (w : Unfinished) (at : ℕ) (r : Result Position Stop) → IsPlaced text at (ahead text true at)
    → (ahead text true at).token ≡ Closes mp → (fs : List Form) (x : Level) (xs : List Level) → Agrees (Flow mp ∷ fs) (x ∷ xs) → Nests (Flow mp ∷ fs)
    → Closed (ahead text true at).behind (Flow mp ∷ fs) (parts (x ∷ xs) done key) gs w r → Gives text (Enters text (Flow mp ∷ fs) (x ∷ xs) done at) (2 * at + 2) gs w r
close_entry text mp done key gs w at (Ok p) pl c fs x xs a ns (es, ej, (f, eg), ew) =
    let far : at < (ahead text true at).behind = behind_one text at (ahead text true at) (Closes mp) pl c refl in
    let rest : gs ≡ fs = cc in
    goes text (Enters text (Flow mp ∷ fs) (x ∷ xs) done at) (2 * at + 2) gs fs w (with_end (parts (x ∷ xs) done key)) p stage.After (ahead text true at).behind es ej rest ew
    (λ v. ((λ h. enters_closed text mp fs x xs done at v c (no_scalar text (ahead text true at) (ap starts_scalar c)) h), (λ h. closed_enters text mp fs x xs done at v c h)))
    ((a.1, ns.2), refl, (λ k. unnamed_calm text (with_end (parts (x ∷ xs) done key)) (ahead text true at).behind (bracket_unnamed text true at mp c))) pl.2 (omega (arith, far))
close_entry text mp done key gs w at (Err e) pl c fs x xs a ns h = memory_gives text (Enters text (Flow mp ∷ fs) (x ∷ xs) done at) (2 * at + 2) gs w e h

pub closed_entry_gives : (text : List ℕ) (mp : Bool) (fs gs : List Form) (u w : Unfinished) (at : ℕ) (next : Ahead) (r : Result Position Stop) → IsSeen text true at next → next.token ≡ Closes mp → top fs ≡ Flow mp → Open fs u
    → Closed next.behind fs u gs w r → Gives text (Enters text fs u.outer u.done at) (2 * at + 2) gs w r
closed_entry_gives text mp fs gs u w at next r (e, pl) c f o h =
    subst (λ a. IsPlaced text at a → a.token ≡ Closes mp → Closed a.behind fs u gs w r → Gives text (Enters text fs u.outer u.done at) (2 * at + 2) gs w r) (sym e)
    (λ q d g. flow_inside (λ hs xs. Agrees hs xs → Nests hs → Closed (ahead text true at).behind hs (parts xs u.done u.key) gs w r → Gives text (Enters text hs xs u.done at) (2 * at + 2) gs w r) mp fs u.outer f o.0
    (close_entry text mp u.done u.key gs w at r q d) o.0 o.1 g) pl c h

close_after : (text : List ℕ) (mp : Bool) (done : Forest) (key : Option (List ℕ)) (gs : List Form) (w : Unfinished) (at : ℕ) (r : Result Position Stop) → IsPlaced text at (ahead text true at)
    → (ahead text true at).token ≡ Closes mp → (fs : List Form) (x : Level) (xs : List Level) → Agrees (Flow mp ∷ fs) (x ∷ xs) → Nests (Flow mp ∷ fs)
    → Closed (ahead text true at).behind (Flow mp ∷ fs) (parts (x ∷ xs) done key) gs w r → Gives text (Ends text (Flow mp ∷ fs) (x ∷ xs) done at) (2 * at + 2) gs w r
close_after text mp done key gs w at (Ok p) pl c fs x xs a ns (es, ej, (f, eg), ew) =
    let far : at < (ahead text true at).behind = behind_one text at (ahead text true at) (Closes mp) pl c refl in
    let rest : gs ≡ fs = cc in
    goes text (Ends text (Flow mp ∷ fs) (x ∷ xs) done at) (2 * at + 2) gs fs w (with_end (parts (x ∷ xs) done key)) p stage.After (ahead text true at).behind es ej rest ew
    (λ v. ((λ h. ends_closed text mp fs x xs done at v c h), (λ h. closed_ends text mp fs x xs done at v c h)))
    ((a.1, ns.2), refl, (λ k. unnamed_calm text (with_end (parts (x ∷ xs) done key)) (ahead text true at).behind (bracket_unnamed text true at mp c))) pl.2 (omega (arith, far))
close_after text mp done key gs w at (Err e) pl c fs x xs a ns h = memory_gives text (Ends text (Flow mp ∷ fs) (x ∷ xs) done at) (2 * at + 2) gs w e h

pub closed_after_gives : (text : List ℕ) (mp : Bool) (fs gs : List Form) (u w : Unfinished) (at : ℕ) (next : Ahead) (r : Result Position Stop) → IsSeen text true at next → next.token ≡ Closes mp → top fs ≡ Flow mp → Open fs u
    → Closed next.behind fs u gs w r → Gives text (Ends text fs u.outer u.done at) (2 * at + 2) gs w r
closed_after_gives text mp fs gs u w at next r (e, pl) c f o h =
    subst (λ a. IsPlaced text at a → a.token ≡ Closes mp → Closed a.behind fs u gs w r → Gives text (Ends text fs u.outer u.done at) (2 * at + 2) gs w r) (sym e)
    (λ q d g. flow_inside (λ hs xs. Agrees hs xs → Nests hs → Closed (ahead text true at).behind hs (parts xs u.done u.key) gs w r → Gives text (Ends text hs xs u.done at) (2 * at + 2) gs w r) mp fs u.outer f o.0
    (close_after text mp u.done u.key gs w at r q d) o.0 o.1 g) pl c h

-- ---- a comma, or nothing that may follow

comma_after : (text : List ℕ) (mp : Bool) (done : Forest) (at : ℕ) (p : Position) → IsPlaced text at (ahead text true at) → (ahead text true at).token ≡ Comma → p.stage ≡ stage.Entry → p.at ≡ (ahead text true at).behind
    → (fs : List Form) (x : Level) (xs : List Level) → (key : Option (List ℕ)) → key ≡ None → Agrees (Flow mp ∷ fs) (x ∷ xs) → Nests (Flow mp ∷ fs)
    → Goes text (Ends text (Flow mp ∷ fs) (x ∷ xs) done at) (2 * at + 2) (Flow mp ∷ fs) (parts (x ∷ xs) done key) p
comma_after text mp done at p pl c es ej fs x xs key n a ns =
    let far : at < (ahead text true at).behind = behind_one text at (ahead text true at) Comma pl c refl in
    goes text (Ends text (Flow mp ∷ fs) (x ∷ xs) done at) (2 * at + 2) (Flow mp ∷ fs) (Flow mp ∷ fs) (parts (x ∷ xs) done key) (parts (x ∷ xs) done key) p stage.Entry (ahead text true at).behind es ej refl refl
    (λ v. ((λ h. ends_comma text mp fs x xs done at v c h), (λ h. comma_ends text mp fs x xs done at v c h)))
    ((a, ns), (mp, refl), n) pl.2 (omega (arith, far))

pub comma_gives : (text : List ℕ) (mp : Bool) (fs : List Form) (u : Unfinished) (at : ℕ) (next : Ahead) (p : Position) → IsSeen text true at next → next.token ≡ Comma → top fs ≡ Flow mp → Open fs u → u.key ≡ None
    → p.stage ≡ stage.Entry → p.at ≡ next.behind → Goes text (Ends text fs u.outer u.done at) (2 * at + 2) fs u p
comma_gives text mp fs u at next p (e, pl) c f o n es ej =
    subst (λ a. IsPlaced text at a → a.token ≡ Comma → p.at ≡ a.behind → Goes text (Ends text fs u.outer u.done at) (2 * at + 2) fs u p) (sym e)
    (λ q d g. flow_inside (λ hs xs. (key : Option (List ℕ)) → key ≡ None → Agrees hs xs → Nests hs → Goes text (Ends text hs xs u.done at) (2 * at + 2) hs (parts xs u.done key) p) mp fs u.outer f o.0
    (comma_after text mp u.done at p q d es g) u.key n o.0 o.1) pl c ej

pub none_follows : (text : List ℕ) (mp : Bool) (fs : List Form) (outer : List Level) (done : Forest) (at : ℕ) (next : Ahead) → next ≡ ahead text true at → (next.token ≡ Comma → ⊥) → (next.token ≡ Closes mp → ⊥) → is_marked next.token ≡ false → top fs ≡ Flow mp → Agrees fs outer
    → (v : Reading) → Ends text fs outer done at v → ⊥
none_follows text mp fs outer done at next e c d un f a =
    flow_inside (λ hs xs. (v : Reading) → Ends text hs xs done at v → ⊥) mp fs outer f a
    (λ gs x xs v h. ends_begin text mp gs x xs done at v ((λ g. c (ap (λ a. a.token) e ∙ g)), (λ g. d (ap (λ a. a.token) e ∙ g)), subst (λ a. is_marked a.token ≡ false) e un) h)

-- ---- a key

key_node : (text : List ℕ) (done : Forest) (at place end : ℕ) (t : List ℕ) (w : Unfinished) (p : Position) → ((ahead text true at).token ≡ Closes true → ⊥)
    → scalar_ahead text (as_key true) (ahead text true at) ≡ Stands t end → at < end → end ≤ place → IsCharBoundary text place → IsColon text (begins_quoted (drop (ahead text true at).at text)) end place
    → has_key done t ≡ false → p.stage ≡ stage.Value → p.at ≡ place → (fs : List Form) (x : Level) (xs : List Level) → Agrees (Flow true ∷ fs) (x ∷ xs) → Nests (Flow true ∷ fs) → w ≡ parts (x ∷ xs) done (Some t)
    → Goes text (Enters text (Flow true ∷ fs) (x ∷ xs) done at) (2 * at + 2) (Flow true ∷ fs) w p
key_node text done at place end t w p open_ st lt le b col new es ej fs x xs a ns ew =
    goes text (Enters text (Flow true ∷ fs) (x ∷ xs) done at) (2 * at + 2) (Flow true ∷ fs) (Flow true ∷ fs) w (parts (x ∷ xs) done (Some t)) p stage.Value place es ej refl ew
    (λ v. ((λ h. enters_key text true fs x xs done at v t end place refl open_ st new col h), (λ h. key_enters text true fs x xs done at v t end place refl st new col h)))
    ((a, ns), apart_map, awaits_value (Flow true) (Flow true ∷ fs) (x ∷ xs) done t refl (λ e. absurd (cc)) refl a, tt, tt) b (omega (arith, lt, le))

pub key_gives : (text : List ℕ) (fs : List Form) (u w : Unfinished) (at place end : ℕ) (next : Ahead) (t : List ℕ) (k : Kind) (p : Position) → IsSeen text true at next → (next.token ≡ Closes true → ⊥) → top fs ≡ Flow true → Open fs u
    → Found text (as_key true) next t k end → end ≤ place → IsCharBoundary text place → IsColon text (begins_quoted (drop next.at text)) end place
    → has_key u.done t ≡ false → p.stage ≡ stage.Value → p.at ≡ place → w ≡ with_key t u → Goes text (Enters text fs u.outer u.done at) (2 * at + 2) fs w p
key_gives text fs u w at place end next t k p (e, pl) open_ m o f le b col new es ej ew =
    subst (λ a. IsPlaced text at a → (a.token ≡ Closes true → ⊥) → Found text (as_key true) a t k end → IsColon text (begins_quoted (drop a.at text)) end place → Goes text (Enters text fs u.outer u.done at) (2 * at + 2) fs w p) (sym e)
    (λ q n g c. flow_inside (λ hs xs. Agrees hs xs → Nests hs → w ≡ parts xs u.done (Some t) → Goes text (Enters text hs xs u.done at) (2 * at + 2) hs w p) true fs u.outer m o.0
    (key_node text u.done at place end t w p n g.0 (omega (arith, q.0, g.2)) le b c new es ej) o.0 o.1 ew) pl open_ f col

pub no_key : (text : List ℕ) (fs : List Form) (outer : List Level) (done : Forest) (at : ℕ) (next : Ahead) → next ≡ ahead text true at → (next.token ≡ Closes true → ⊥) → node_sign false next.at next.token ≡ None → is_marked next.token ≡ false → top fs ≡ Flow true → Agrees fs outer → Missed text (as_key true) next
    → (v : Reading) → Enters text fs outer done at v → ⊥
no_key text fs outer done at next e open_ us un m a none =
    subst (λ a. (a.token ≡ Closes true → ⊥) → node_sign false a.at a.token ≡ None → is_marked a.token ≡ false → Missed text (as_key true) a → (v : Reading) → Enters text fs outer done at v → ⊥) (sym e)
    (λ o y z n. flow_inside (λ hs xs. (v : Reading) → Enters text hs xs done at v → ⊥) true fs outer m a (λ gs x xs v h. enters_no_key text true gs x xs done at v refl o y z n h)) open_ us un none

-- what is no key was refused
pub find_refused : (text : List ℕ) (fs : List Form) (u w : Unfinished) (at : ℕ) (next : Ahead) (s : Setting) (r : Stop) → s ≡ as_key true → next ≡ ahead text true at → (next.token ≡ Closes true → ⊥) → node_sign false next.at next.token ≡ None → is_marked next.token ≡ false → top fs ≡ Flow true → Open fs u
    → Finds text s next (Err r) → Gives text (Enters text fs u.outer u.done at) (2 * at + 2) fs w (Err r)
find_refused text fs u w at next s r k e open_ us un m o (inl h) = memory_gives text (Enters text fs u.outer u.done at) (2 * at + 2) fs w r h
find_refused text fs u w at next s r k e open_ us un m o (inr (inr (p, h, d))) = absurd (key_single true text next p (subst (λ z. scalar_ahead text z next ≡ Documents p) k d))
find_refused text fs u w at next s r k e open_ us un m o (inr (inl ((place, h), n))) =
    subst (λ z. Gives text (Enters text fs u.outer u.done at) (2 * at + 2) fs w (Err z)) (sym h) (no_key text fs u.outer u.done at next e open_ us un m o.0 (subst (λ z. Missed text z next) k n.0))

pub no_colon : (text : List ℕ) (fs : List Form) (outer : List Level) (done : Forest) (at end : ℕ) (next : Ahead) (t : List ℕ) → next ≡ ahead text true at → (next.token ≡ Closes true → ⊥) → top fs ≡ Flow true → Agrees fs outer
    → scalar_ahead text (as_key true) next ≡ Stands t end → has_key done t ≡ false → ((p : ℕ) → IsColon text (begins_quoted (drop next.at text)) end p → ⊥) → (v : Reading) → Enters text fs outer done at v → ⊥
no_colon text fs outer done at end next t e open_ m a st new none =
    subst (λ a. (a.token ≡ Closes true → ⊥) → scalar_ahead text (as_key true) a ≡ Stands t end → ((p : ℕ) → IsColon text (begins_quoted (drop a.at text)) end p → ⊥) → (v : Reading) → Enters text fs outer done at v → ⊥) (sym e)
    (λ o s n. flow_inside (λ hs xs. (v : Reading) → Enters text hs xs done at v → ⊥) true fs outer m a (λ gs x xs v h. enters_no_colon text true gs x xs done at v t end refl o s new n h)) open_ st none

key_again : (text : List ℕ) (fs : List Form) (outer : List Level) (done : Forest) (at end : ℕ) (t : List ℕ) → ((ahead text true at).token ≡ Closes true → ⊥) → top fs ≡ Flow true → Agrees fs outer
    → scalar_ahead text (as_key true) (ahead text true at) ≡ Stands t end → has_key done t ≡ true → Broke (Enters text fs outer done at) (DuplicateKey (ahead text true at).at)
key_again text fs outer done at end t open_ m a st again =
    flow_inside (λ hs xs. Broke (Enters text hs xs done at) (DuplicateKey (ahead text true at).at)) true fs outer m a
    (λ gs x xs. (same_key_enters text true gs x xs done at t end refl st again, (λ v h. enters_same_key text true gs x xs done at v t end refl open_ st again h)))

pub key_refused : (text : List ℕ) (fs : List Form) (u w : Unfinished) (at end : ℕ) (next : Ahead) (t : List ℕ) (r : BuildRefusal) → next ≡ ahead text true at → (next.token ≡ Closes true → ⊥) → top fs ≡ Flow true → Open fs u
    → scalar_ahead text (as_key true) next ≡ Stands t end → (r ≡ build.NoMemory) ⊎ ((r ≡ build.DuplicateKey next.at) × (has_key u.done t ≡ true)) → Gives text (Enters text fs u.outer u.done at) (2 * at + 2) fs w (Err (of_build r))
key_refused text fs u w at end next t r e open_ m o st (inl n) = subst (λ q. Gives text (Enters text fs u.outer u.done at) (2 * at + 2) fs w (Err (of_build q))) (sym n) tt
key_refused text fs u w at end next t r e open_ m o st (inr (d, again)) =
    subst (λ q. Gives text (Enters text fs u.outer u.done at) (2 * at + 2) fs w (Err (of_build q))) (sym d)
    (subst (λ a. (a.token ≡ Closes true → ⊥) → scalar_ahead text (as_key true) a ≡ Stands t end → Broke (Enters text fs u.outer u.done at) (DuplicateKey a.at)) (sym e)
    (λ n s. key_again text fs u.outer u.done at end t n m o.0 s again) open_ st)

-- ---- an item of a list

pub item_gives : (text : List ℕ) (fs gs : List Form) (u w : Unfinished) (at : ℕ) (next : Ahead) (r : Result Position Stop) → next ≡ ahead text true at → top fs ≡ Flow false → Open fs u → (next.token ≡ Closes false → ⊥) → is_marked next.token ≡ false → u.key ≡ None
    → Gives text (Awaits text fs u.outer u.done u.key at) (2 * at + 2) gs w r → Gives text (Enters text fs u.outer u.done at) (2 * at + 2) gs w r
item_gives text fs gs u w at next r e f o open_ un n g =
    let plain : is_marked (ahead text true at).token ≡ false = subst (λ a. is_marked a.token ≡ false) e un in
    let shut : (ahead text true at).token ≡ Closes false → ⊥ = λ h. open_ (ap (λ a. a.token) e ∙ h) in
    gives_from text (Enters text fs u.outer u.done at) (Awaits text fs u.outer u.done None at) (2 * at + 2) (2 * at + 2) gs w r
    (flow_inside (λ hs xs. (v : Reading) → (Enters text hs xs u.done at v → Awaits text hs xs u.done None at v) × (Awaits text hs xs u.done None at v → Enters text hs xs u.done at v)) false fs u.outer f o.0
    (λ hs x xs v. ((λ h. enters_item text false hs x xs u.done at v refl shut plain h), (λ h. item_enters text false hs x xs u.done at v refl h)))) (omega arith)
    (subst (λ k. Gives text (Awaits text fs u.outer u.done k at) (2 * at + 2) gs w r) n g)

-- a text may be cut in front of what is seen and behind it
pub seen_front : (text : List ℕ) (flow : Bool) (at : ℕ) (next : Ahead) → IsSeen text flow at next → IsCharBoundary text next.at
seen_front text flow at next (e, (l, b, d, h, k, m)) = b

pub seen_behind : (text : List ℕ) (flow : Bool) (at : ℕ) (next : Ahead) → IsSeen text flow at next → IsCharBoundary text next.behind
seen_behind text flow at next (e, (l, b, d, h, k, m)) = d

-- a key stands at its token, read by this setting
pub found_key : (text : List ℕ) (s z : Setting) (next : Ahead) (t : List ℕ) (k : Kind) (j : ℕ) → s ≡ z → Found text s next t k j → Found text z next t k j
found_key text s z next t k j e h = subst (λ z. Found text z next t k j) e h

pub sooner : (text : List ℕ) (P : Reading → Type 0) (n m : ℕ) (fs : List Form) (w : Unfinished) (r : Result Position Stop) → m ≤ n → Gives text P n fs w r → Gives text P m fs w r
sooner text P n m fs w r l g = gives_from text P P n m fs w r (λ v. ((λ x. x), (λ x. x))) l g

-- ---- signs where an entry or the closing bracket would stand

key_signed : (text : List ℕ) (fs : List Form) (outer : List Level) (done : Forest) (at : ℕ) (s : Sign) → ((ahead text true at).token ≡ Closes true → ⊥) → is_marked (ahead text true at).token ≡ false → top fs ≡ Flow true → Agrees fs outer
    → node_sign false (ahead text true at).at (ahead text true at).token ≡ Some s → Broke (Enters text fs outer done at) s
key_signed text fs outer done at s open_ un m a sg =
    flow_inside (λ hs xs. Broke (Enters text hs xs done at) s) true fs outer m a (λ gs x xs. (signed_enters text true gs x xs done at s refl sg, (λ v h. enters_signed text true gs x xs done at v s refl open_ un sg h)))

pub key_signed_gives : (text : List ℕ) (n : ℕ) (fs gs : List Form) (u w : Unfinished) (at : ℕ) (next : Ahead) (r : Stop) → next ≡ ahead text true at → (next.token ≡ Closes true → ⊥) → is_marked next.token ≡ false → top fs ≡ Flow true → Open fs u
    → Some r ≡ option_map of_sign (node_sign false next.at next.token) → Gives text (Enters text fs u.outer u.done at) n gs w (Err r)
key_signed_gives text n fs gs u w at next r e open_ un m o h =
    let d = told (node_sign false next.at next.token) r h in
    subst (λ z. Gives text (Enters text fs u.outer u.done at) n gs w (Err z)) d.2
    (sign_gives text (Enters text fs u.outer u.done at) n gs w d.0
    (subst (λ a. (a.token ≡ Closes true → ⊥) → is_marked a.token ≡ false → node_sign false a.at a.token ≡ Some d.0 → Broke (Enters text fs u.outer u.done at) d.0) (sym e) (λ x y z. key_signed text fs u.outer u.done at d.0 x y m o.0 z) open_ un d.1))

pub marked_entry_gives : (text : List ℕ) (mp : Bool) (fs : List Form) (u : Unfinished) (at n : ℕ) (next : Ahead) → next ≡ ahead text true at → n ≡ next.at → is_marked next.token ≡ true → top fs ≡ Flow mp → Open fs u → Broke (Enters text fs u.outer u.done at) (ManyDocuments n)
marked_entry_gives text mp fs u at n next e en mk m o =
    subst (λ k. Broke (Enters text fs u.outer u.done at) (ManyDocuments k)) (sym en)
    (subst (λ a. is_marked a.token ≡ true → Broke (Enters text fs u.outer u.done at) (ManyDocuments a.at)) (sym e)
    (λ k. flow_inside (λ hs xs. Broke (Enters text hs xs u.done at) (ManyDocuments (ahead text true at).at)) mp fs u.outer m o.0 (λ gs x xs. (marked_enters text mp gs x xs u.done at k, (λ v h. enters_marked text mp gs x xs u.done at v k h)))) mk)

pub marked_after_gives : (text : List ℕ) (mp : Bool) (fs : List Form) (u : Unfinished) (at n : ℕ) (next : Ahead) → next ≡ ahead text true at → n ≡ next.at → is_marked next.token ≡ true → top fs ≡ Flow mp → Open fs u → Broke (Ends text fs u.outer u.done at) (ManyDocuments n)
marked_after_gives text mp fs u at n next e en mk m o =
    subst (λ k. Broke (Ends text fs u.outer u.done at) (ManyDocuments k)) (sym en)
    (subst (λ a. is_marked a.token ≡ true → Broke (Ends text fs u.outer u.done at) (ManyDocuments a.at)) (sym e)
    (λ k. flow_inside (λ hs xs. Broke (Ends text hs xs u.done at) (ManyDocuments (ahead text true at).at)) mp fs u.outer m o.0 (λ gs x xs. (marked_ends text mp gs x xs u.done at k, (λ v h. ends_marked text mp gs x xs u.done at v k h)))) mk)
