-- A text that is the same as far as is looked at is a document where something may follow there that is a tree, and the other way. By the steps of the reader.
use Rattle.std.proofs.Common.{◌≡◌, ℕ, ◌≤◌, inl, inr, true, false, List, [], length, refl, sym, ap, ◌∙◌, subst, true≢false, arith, if◌then◌else◌}
use Rattle.std.specs.Prelude.{Result, Ok, Err, IfOk, Option, Some, None, option_map}
use Rattle.std.specs.Str.{IsCharBoundary, IsUtf8}
use Rattle.doc_values.specs.declared.kind.Kind.TheVariants as kind
use Rattle.doc_values.specs.Tree.{Forest, Nil, Node}
use Rattle.doc_values.specs.Unfinished.{Unfinished, start, with_value}
use Rattle.yaml_grammar.specs.declared.ahead.Ahead.{Ahead}
use Rattle.yaml_grammar.specs.declared.ahead.Token.TheVariants.{Dashes}
use Rattle.yaml_grammar.specs.declared.form.Form.{Form}
use Rattle.yaml_grammar.specs.declared.stage.Stage.{Stage}
use Rattle.yaml_grammar.specs.declared.stage.Stage.TheVariants as stage
use Rattle.yaml_grammar.specs.declared.stage.Position.{Position}
use Rattle.yaml_grammar.specs.declared.stop.Stop.{Stop}
use Rattle.yaml_grammar.specs.declared.stop.Stop.TheVariants as stop
use Rattle.yaml_grammar.specs.Ahead.{ahead}
use Rattle.yaml_grammar.specs.Nodes.{leaf, is_marked}
use Rattle.yaml_grammar.specs.Signs as sign
use Rattle.yaml_grammar.specs.Signs.{Sign, Tree, To}
use Rattle.yaml_grammar.specs.Yaml.{IsRoot, IsStart, IsYaml, text_start}
use Rattle.yaml_grammar.specs.code.AheadSeen.{ahead_seen}
use Rattle.yaml_grammar.specs.code.Places.{StopsAt}
use Rattle.yaml_grammar.specs.code.Refused.{of_sign}
use Rattle.yaml_grammar.specs.code.Rest.{Over, Begins}
use Rattle.yaml_grammar.specs.code.Steps.{Rest, Fits, Completes, is_ending}
use Rattle.yaml_grammar.specs.code.Twins.{IsTwin, StopsStep, Matches, Alive, FixesStart, FixesRoot}
use Rattle.yaml_grammar.proofs.AheadOrder.{seen_least, seen_mark}
use Rattle.yaml_grammar.proofs.DeadPlaces.{NoTwin}
use Rattle.yaml_grammar.proofs.Forms.{apart_root}
use Rattle.yaml_grammar.proofs.Gains.{told}
use Rattle.yaml_grammar.proofs.LastValues.{ending_calm}
use Rattle.yaml_grammar.proofs.MarkTexts.{twins_dead}
use Rattle.yaml_grammar.proofs.Roots.{begins_missing, missing_begins, begins_node, node_begins, begins_comes, one_start}
use Rattle.yaml_grammar.proofs.Twins.{twin_within, twin_cut, twin_ahead}

-- ---- where the document begins

pub same_start : (text : List ℕ) (place : ℕ) (other : List ℕ) → IsTwin text place other → text_start other ≡ text_start text
same_start text place other m = ap (λ q. if q then 3 else 0) m.marks

pub fixed_behind : (text : List ℕ) (at behind : ℕ) (next after : Ahead) → at ≡ text_start text → IsCharBoundary text at → next ≡ ahead text false at → behind ≡ next.behind → IsCharBoundary text behind → after ≡ ahead text false behind → next.token ≡ Dashes → after.fresh ≡ true
    → FixesStart text behind
fixed_behind text at behind next after ea ca en eb cb ef d f = λ place other m near.
    let first : next ≡ ahead text false (text_start text) = en ∙ ap (ahead text false) ea in
    let from = seen_mark text false at place (subst (λ (a : Ahead). is_marked a.token ≡ true) en (ap is_marked d)) (twin_within text place other m) (subst (λ n. ahead_seen text n ≤ place) (eb ∙ ap (λ (a : Ahead). a.behind) en) near) in
    let here : ahead other false (text_start other) ≡ ahead text false (text_start text) = ap (ahead other false) (same_start text place other m ∙ sym ea) ∙ twin_ahead text place other m false at ca.0 from ∙ ap (ahead text false) ea in
    let over : ahead other false behind ≡ ahead text false behind = twin_ahead text place other m false behind cb.0 near in
    let least = seen_least text behind cb.0 in (
      inl (ap (λ (a : Ahead). a.token) here ∙ ap (λ (a : Ahead). a.token) (sym first) ∙ d, eb ∙ ap (λ (a : Ahead). a.behind) first ∙ ap (λ (a : Ahead). a.behind) (sym here), ap (λ (a : Ahead). a.fresh) over ∙ ap (λ (a : Ahead). a.fresh) (sym ef) ∙ f),
      twin_cut text place other m behind (omega (arith, least, near)) cb,
    )

pub fixed_there : (text : List ℕ) (at : ℕ) (next : Ahead) → at ≡ text_start text → IsCharBoundary text at → next ≡ ahead text false at → (next.token ≡ Dashes → ⊥) → FixesStart text at
fixed_there text at next ea ca en n = λ place other m near.
    let here : ahead other false (text_start other) ≡ ahead text false at = ap (ahead other false) (same_start text place other m ∙ sym ea) ∙ twin_ahead text place other m false at ca.0 near in
    let least = seen_least text at ca.0 in
    (inr ((λ d. n (ap (λ (a : Ahead). a.token) en ∙ ap (λ (a : Ahead). a.token) (sym here) ∙ d)), ea ∙ sym (same_start text place other m)), twin_cut text place other m at (omega (arith, least, near)) ca)

-- ---- the root

pub alive_at : (other : List ℕ) (P : Forest → Type 0) (w u : Unfinished) (p : Position) (s : Stage) (at : ℕ) → p.stage ≡ s → p.at ≡ at → w ≡ u → Matches other P s [] u at → Fits other s [] u at → IsCharBoundary other at → Alive other P [] w p
alive_at other P w u p s at es ej ew h f b =
    subst (λ z. Matches other P z [] w p.at × Fits other z [] w p.at × IsCharBoundary other p.at) (sym es)
    (subst (λ z. Matches other P s [] w z × Fits other s [] w z × IsCharBoundary other z) (sym ej)
    (subst (λ z. Matches other P s [] z at × Fits other s [] z at × IsCharBoundary other at) (sym ew) (h, f, b)))

ended_tree : (text : List ℕ) (d g : Forest) (i : ℕ) (t : Forest) → Over text d i (Tree t) → Over text g i (Tree g)
ended_tree text d g i t (inl (e, h)) = inl (e, refl)
ended_tree text d g i t (inr (s, e, h)) = absurd (cc)

pub null_fixed : (text : List ℕ) (at : ℕ) (next : Ahead) (u w : Unfinished) (r : Result Position Stop) → u ≡ start → next ≡ ahead text false at → IsCharBoundary text at → is_ending next.token ≡ true → Completes at (with_value kind.Null [] (length text) u) w r → FixesRoot text at w r
null_fixed text at next u w (Err e) s en b c h = tt
null_fixed text at next u w (Ok p) s en b c (es, ej, ew) = λ place other m near.
    let far : ahead_seen text at ≤ place = subst (λ n. ahead_seen text n ≤ place) ej near in
    let here : ahead other false at ≡ ahead text false at = twin_ahead text place other m false at b.0 far in
    let there : is_ending (ahead other false at).token ≡ true = ap (λ (a : Ahead). is_ending a.token) (here ∙ sym en) ∙ c in
    let v : Unfinished = with_value kind.Null [] (length text) start in (
      far,
      (λ cut. alive_at other (λ t. Begins other at (Tree t)) w v p stage.After at es ej (ew ∙ ap (with_value kind.Null [] (length text)) s)
          ((λ t g. (v.done, ended_tree other _ v.done at t (begins_missing other at (Tree t) there g))), (λ g h. let n : Forest = Node (leaf kind.Null [] None (length other)) Nil Nil in (n, missing_begins other at (Tree n) (ended_tree other v.done n at g h)))) ((tt, tt), refl, (λ k. ending_calm other v at there)) cut),
    )

pub null_there : (at : ℕ) (u w : Unfinished) (r : Result Position Stop) → Completes at u w r → IfOk r (λ p. p.at ≡ at)
null_there at u w (Err e) h = tt
null_there at u w (Ok p) (es, ej, ew) = ej

pub null_going : (text : List ℕ) (at : ℕ) (w : Unfinished) (r : Result Position Stop) → is_ending (ahead text false at).token ≡ true → is_ending (ahead text false at).token ≡ false → IfOk r (λ p. (p.stage ≡ stage.Value) × (w ≡ start))
null_going text at w r e n = absurd (true≢false (sym e ∙ n))

pub null_ended : (text : List ℕ) (at : ℕ) (u w : Unfinished) (r : Result Position Stop) → Completes at u w r → is_ending (ahead text false at).token ≡ true → IfOk r (λ p. p.stage ≡ stage.After → is_ending (ahead text false at).token ≡ true)
null_ended text at u w (Err e) h c = tt
null_ended text at u w (Ok p) h c = λ after. c

pub root_fixed : (text : List ℕ) (at : ℕ) (next : Ahead) (w : Unfinished) (p : Position) → w ≡ start → next ≡ ahead text false at → IsCharBoundary text at → is_ending next.token ≡ false → p.stage ≡ stage.Value → p.at ≡ at → FixesRoot text at w (Ok p)
root_fixed text at next w p ew en b n es ej = λ place other m near.
    let far : ahead_seen text at ≤ place = subst (λ n. ahead_seen text n ≤ place) ej near in
    let here : ahead other false at ≡ ahead text false at = twin_ahead text place other m false at b.0 far in
    let there : is_ending (ahead other false at).token ≡ false = ap (λ (a : Ahead). is_ending a.token) (here ∙ sym en) ∙ n in
    (far, (λ cut. alive_at other (λ t. Begins other at (Tree t)) w start p stage.Value at es ej ew ((λ t g. (t, begins_node other at (Tree t) there g)), (λ g h. (g, node_begins other at (Tree g) h))) ((tt, tt), apart_root, (refl, refl), tt, there) cut))

-- ---- the whole text

-- a text that is the same as far as the place of reading is looked at is a document where something may follow in it there, and the other way
abbrev pub Lives : List ℕ → Position → List Form → Unfinished → Type 0
Lives text p fs u = (p.stage ≡ stage.Whole → ⊥) → (place : ℕ) (other : List ℕ) → IsTwin text place other → ahead_seen text p.at ≤ place → Alive other (IsYaml other) fs u p

pub yaml_begins : (other : List ℕ) (i : ℕ) (t : Forest) → IsStart other i → IsYaml other t → Begins other i (Tree t)
yaml_begins other i t s (l, kids, i2, j, s2, r, e, h) = (l, kids, To j, subst (λ n. IsRoot other l kids n (To j)) (one_start other i2 i s2 s) r, inl (e, ap Tree h))

pub lives_first : (text : List ℕ) (i : ℕ) (fs : List Form) (w : Unfinished) (p : Position) → FixesStart text i → FixesRoot text i w (Ok p) → fs ≡ [] → Lives text p fs w
lives_first text i fs w p s r e = λ goes place other m near.
    let g = r place other m near in
    let b = s place other m g.0 in
    let a = g.1 b.1 in
    subst (λ z. Alive other (IsYaml other) z w p) (sym e) (((λ t h. a.0.0 t (yaml_begins other i t b.0 h)), (λ g h. let x = a.0.1 g h in (x.0, begins_comes other i (Tree x.0) b.0 x.1))), a.1, a.2)

-- ---- where reading stops

-- where nothing may follow in a twin, it is no document
pub none_twin : (text : List ℕ) (p : Position) (fs : List Form) (u : Unfinished) (place : ℕ) → Lives text p fs u → (p.stage ≡ stage.Whole → ⊥) → ahead_seen text p.at ≤ place
    → ((other : List ℕ) → IsTwin text place other → IsCharBoundary other p.at → Fits other p.stage fs u p.at → (t : Forest) → Rest other p.stage fs u p.at (Tree t) → ⊥) → NoTwin text place
none_twin text p fs u place lives open_ near none = λ other m tree h. let a = lives open_ place other m near in let x = a.0.0 tree h in none other m a.2 a.1 x.0 x.1

pub stops_at : (text : List ℕ) → IsUtf8 text → (p : Position) (fs : List Form) (u : Unfinished) (e : Stop) → Lives text p fs u → (p.stage ≡ stage.Whole → ⊥) → StopsStep text p.stage fs u p.at (Err e) → StopsAt text e
stops_at text utf8 p fs u (stop.Unread q) lives open_ (inl (inl e)) = inl (omega (arith, e))
stops_at text utf8 p fs u (stop.Unread q) lives open_ (inl (inr (e, far))) = inl (omega (arith, e))
stops_at text utf8 p fs u (stop.Unread q) lives open_ (inr (l, (place, past, near, none))) = inr (twins_dead text place q utf8 l past (none_twin text p fs u place lives open_ near none))
stops_at text utf8 p fs u (stop.Tab at) lives open_ h = tt
stops_at text utf8 p fs u (stop.Anchor at) lives open_ h = tt
stops_at text utf8 p fs u (stop.Tag at) lives open_ h = tt
stops_at text utf8 p fs u (stop.Directive at) lives open_ h = tt
stops_at text utf8 p fs u (stop.ManyDocuments at) lives open_ h = tt
stops_at text utf8 p fs u (stop.DuplicateKey at) lives open_ h = tt
stops_at text utf8 p fs u (stop.TooDeep at) lives open_ h = tt
stops_at text utf8 p fs u stop.NoMemory lives open_ h = tt

pub memory_at : (text : List ℕ) (e : Stop) → e ≡ stop.NoMemory → StopsAt text e
memory_at text e h = subst (StopsAt text) (sym h) tt

-- in front of the document it stops at a sign, or at the text's length
sign_at : (text : List ℕ) (s : Sign) → StopsAt text (of_sign s)
sign_at text (sign.Tab at) = tt
sign_at text (sign.Anchor at) = tt
sign_at text (sign.Tag at) = tt
sign_at text (sign.Directive at) = tt
sign_at text (sign.ManyDocuments at) = tt
sign_at text (sign.DuplicateKey at) = tt
sign_at text (sign.TooDeep at) = tt

pub signed_at : (text : List ℕ) (o : Option Sign) (e : Stop) → Some e ≡ option_map of_sign o → StopsAt text e
signed_at text o e h = let t = told o e h in subst (StopsAt text) t.2 (sign_at text t.0)
