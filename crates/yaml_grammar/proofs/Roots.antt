-- The root, and the document's beginning and end.
use Rattle.std.proofs.Common.{◌≡◌, ℕ, ◌<◌, ◌≤◌, ◌+◌, ◌-◌, ◌*◌, inl, inr, Bool, true, false, ◌&&◌, List, [], ◌∷◌, Some, None, length, refl, sym, ap, ◌∙◌, subst, true≢false, cond, nat_eq, not, arith}
use Rattle.std.proofs.lemmas.Bool.Decides.{nat_tests}
use Rattle.std.specs.Prelude.{Result, Ok, Err, option_map}
use Rattle.std.specs.Str.{IsCharBoundary, IsUtf8}
use Rattle.std.proofs.lemmas.Str.{IsCharBoundary-past_char}
use Rattle.doc_values.specs.declared.kind.Kind.TheVariants as kind
use Rattle.doc_values.specs.Tree.{Label, Forest, Nil, Node, count}
use Rattle.doc_values.specs.Unfinished.{Unfinished, start, with_value, IsComplete}
use Rattle.yaml_scalars.specs.Scalar.{begins_order_mark}
use Rattle.yaml_grammar.specs.declared.ahead.Ahead.{Ahead}
use Rattle.yaml_grammar.specs.declared.ahead.Token.{Token}
use Rattle.yaml_grammar.specs.declared.ahead.Token.TheVariants.{End, Dashes, Dots, Dash, Tag, NoTag, Opens, Closes, Comma, Point, Anchor, Percent, Tabbed, Stray, Other}
use Rattle.yaml_grammar.specs.declared.form.Form.{Form}
use Rattle.yaml_grammar.specs.declared.form.Form.TheVariants.{Root}
use Rattle.yaml_grammar.specs.declared.stage.Stage.{Stage}
use Rattle.yaml_grammar.specs.declared.stage.Stage.TheVariants as stage
use Rattle.yaml_grammar.specs.declared.stage.Position.{Position}
use Rattle.yaml_grammar.specs.declared.stop.Stop.{Stop}
use Rattle.yaml_grammar.specs.declared.stop.Stop.TheVariants as stop
use Rattle.yaml_grammar.specs.declared.refusal.YamlRefusal.TheVariants as refusal
use Rattle.yaml_grammar.specs.Ahead.{ahead}
use Rattle.yaml_grammar.specs.Nodes.{leaf, starts_scalar, node_sign}
use Rattle.yaml_grammar.specs.Blocks.{block_sign}
use Rattle.yaml_grammar.specs.Answers.{IsSignOf, IsUnread, Reads}
use Rattle.yaml_grammar.specs.code.Refused.{IsStopped, of_sign, of_stop}
use Rattle.yaml_grammar.specs.Signs as sign
use Rattle.yaml_grammar.specs.Signs.{Sign, Tab, Directive, ManyDocuments, DuplicateKey, TooDeep, To, Shows, Reading, Tree, Refused, Then}
use Rattle.yaml_grammar.specs.Yaml.{IsRoot, IsStart, is_content, sign_before, text_start, start_sign, IsYaml, Counts}
use Rattle.yaml_grammar.specs.code.Rest.{Over, Ends, Awaits, Begins}
use Rattle.yaml_grammar.specs.code.Steps.{Rest, Fits, reached, Broke, Gives, Goes, NoNode, Completes, is_ending}
use Rattle.yaml_grammar.proofs.Forms.{apart_root}
use Rattle.yaml_grammar.proofs.Gains.{goes, memory_gives, told, untold}
use Rattle.yaml_grammar.proofs.LastValues.{ending_calm}
use Rattle.yaml_grammar.proofs.Quiet.{ending_word, ending_unsigned, end_ending, sign_ending}
use Rattle.yaml_grammar.proofs.BlockRests.{root_missing, unsigned_block}

-- where the document ends, or a sign stands behind it, there is no root
ending_none : (a : Ahead) → is_ending a.token ≡ true → NoNode Root a
ending_none a e = ((λ h. (ending_word a.token e, (λ m o. true≢false (sym e ∙ ap is_ending o)))), (λ h d. true≢false (sym e ∙ ap is_ending d)), (λ h len t. true≢false (sym e ∙ ap is_ending t)))

ending_free : (a : Ahead) → is_ending a.token ≡ true → block_sign Root a ≡ None
ending_free a e = unsigned_block Root a (ending_unsigned false a.at a.token e)

null_over : (text : List ℕ) (l : Label) (kids : Forest) (i : ℕ) (v : Reading) → l ≡ leaf kind.Null [] None (length text) → kids ≡ Nil → Over text (Node l kids Nil) i v → Over text (Node (leaf kind.Null [] None (length text)) Nil Nil) i v
null_over text l kids i v el ek w = subst (λ g. Over text (Node g Nil Nil) i v) el (subst (λ g. Over text (Node l g Nil) i v) ek w)

pub begins_missing : (text : List ℕ) (i : ℕ) (v : Reading) → is_ending (ahead text false i).token ≡ true → Begins text i v → Ends text [] [] (Node (leaf kind.Null [] None (length text)) Nil Nil) i v
begins_missing text i v e (l, kids, r, inl (el, ek, er), en) = null_over text l kids i v el ek (subst (λ z. Then z (λ j. Over text (Node l kids Nil) j v) (λ s. v ≡ Refused s)) er en)
begins_missing text i v e (l, kids, To j, inr n, en) = absurd (root_missing text [] [] Nil None i v refl (ending_none (ahead text false i) e) (ending_free (ahead text false i) e) (l, kids, To j, n, en))
begins_missing text i v e (l, kids, Shows s, inr n, d) = absurd (root_missing text [] [] Nil None i v refl (ending_none (ahead text false i) e) (ending_free (ahead text false i) e) (l, kids, Shows s, n, d))

pub missing_begins : (text : List ℕ) (i : ℕ) (v : Reading) → Ends text [] [] (Node (leaf kind.Null [] None (length text)) Nil Nil) i v → Begins text i v
missing_begins text i v en = (leaf kind.Null [] None (length text), Nil, To i, inl (refl, refl, refl), en)

null_root : (text : List ℕ) (w : Unfinished) (at : ℕ) (r : Result Position Stop) → is_ending (ahead text false at).token ≡ true → IsCharBoundary text at → Completes at (with_value kind.Null [] (length text) start) w r → Gives text (Begins text at) 0 [] w r
null_root text w at (Ok p) c b (es, ej, ew) =
    goes text (Begins text at) 0 [] [] w (with_value kind.Null [] (length text) start) p stage.After at es ej refl ew (λ v. ((λ h. begins_missing text at v c h), (λ h. missing_begins text at v h))) ((tt, tt), refl, (λ k. ending_calm text (with_value kind.Null [] (length text) start) at c)) b (omega arith)
null_root text w at (Err e) c b h = memory_gives text (Begins text at) 0 [] w e h

pub null_root_gives : (text : List ℕ) (u w : Unfinished) (at : ℕ) (next : Ahead) (r : Result Position Stop) → u ≡ start → next ≡ ahead text false at → IsCharBoundary text at → is_ending next.token ≡ true
    → Completes at (with_value kind.Null [] (length text) u) w r → Gives text (Begins text at) 0 [] w r
null_root_gives text u w at next r s e b c h =
    null_root text w at r (subst (λ a. is_ending a.token ≡ true) e c) b (subst (λ z. Completes at (with_value kind.Null [] (length text) z) w r) s h)

-- or there is one
over_ending : (text : List ℕ) (g : Forest) (i : ℕ) (v : Reading) → Over text g i v → is_ending (ahead text false i).token ≡ true
over_ending text g i v (inl (e, h)) = end_ending text i e
over_ending text g i v (inr (s, e, h)) = sign_ending text i s e

pub begins_node : (text : List ℕ) (i : ℕ) (v : Reading) → is_ending (ahead text false i).token ≡ false → Begins text i v → Awaits text [] [] Nil None i v
begins_node text i v n (l, kids, r, inl (el, ek, er), en) =
    absurd (true≢false (sym (over_ending text (Node l kids Nil) i v (subst (λ z. Then z (λ j. Over text (Node l kids Nil) j v) (λ s. v ≡ Refused s)) er en)) ∙ n))
begins_node text i v n (l, kids, To j, inr h, en) = (l, kids, To j, h, en)
begins_node text i v n (l, kids, Shows s, inr h, d) = (l, kids, Shows s, h, d)

pub node_begins : (text : List ℕ) (i : ℕ) (v : Reading) → Awaits text [] [] Nil None i v → Begins text i v
node_begins text i v (l, kids, To j, h, en) = (l, kids, To j, inr h, en)
node_begins text i v (l, kids, Shows s, h, d) = (l, kids, Shows s, inr h, d)

root_node : (text : List ℕ) (w : Unfinished) (at : ℕ) (p : Position) → is_ending (ahead text false at).token ≡ false → IsCharBoundary text at → w ≡ start → p.stage ≡ stage.Value → p.at ≡ at → Goes text (Begins text at) 0 [] w p
root_node text w at p n b ew es ej =
    goes text (Begins text at) 0 [] [] w start p stage.Value at es ej refl ew (λ v. ((λ h. begins_node text at v n h), (λ h. node_begins text at v h))) ((tt, tt), apart_root, (refl, refl), tt, n) b (omega arith)

pub root_goes : (text : List ℕ) (w : Unfinished) (at : ℕ) (next : Ahead) (p : Position) → next ≡ ahead text false at → is_ending next.token ≡ false → IsCharBoundary text at → w ≡ start → p.stage ≡ stage.Value → p.at ≡ at
    → Goes text (Begins text at) 0 [] w p
root_goes text w at next p e n b ew es ej = root_node text w at p (subst (λ a. is_ending a.token ≡ false) e n) b ew es ej

-- ---- the beginning

pub one_start : (text : List ℕ) (i j : ℕ) → IsStart text i → IsStart text j → i ≡ j
one_start text i j (inl (a, b, f)) (inl (c, d, g)) = b ∙ sym d
one_start text i j (inl (a, b, f)) (inr (c, d)) = absurd (c a)
one_start text i j (inr (a, b)) (inl (c, d, g)) = absurd (a c)
one_start text i j (inr (a, b)) (inr (c, d)) = b ∙ sym d

no_sign : (s : Sign) → None ≡ Some s → ⊥
no_sign s e = absurd (cc)

some_same : (y s : Sign) → Some y ≡ Some s → y ≡ s
some_same y s e = cc

refused_same : (z y : Sign) → Refused z ≡ Refused y → z ≡ y
refused_same z y e = cc

tree_refused : (t : Forest) (y : Sign) → Tree t ≡ Refused y → ⊥
tree_refused t y e = absurd (cc)

no_percent : Dashes ≡ Percent → ⊥
no_percent e = absurd (cc)

-- the text comes to the tree, or to the sign
abbrev pub Comes : List ℕ → Reading → Type 0
Comes text (Tree t) = IsYaml text t
Comes text (Refused s) = Counts text s

pub comes_begins : (text : List ℕ) (i : ℕ) (v : Reading) → IsStart text i → start_sign text ≡ None → Comes text v → Begins text i v
comes_begins text i (Tree t) s n (l, kids, i', j, s', r, e, h) = (l, kids, To j, subst (λ n. IsRoot text l kids n (To j)) (one_start text i' i s' s) r, inl (e, ap Tree h))
comes_begins text i (Refused z) s n (inl e) = absurd (no_sign z (sym n ∙ e))
comes_begins text i (Refused z) s n (inr (l, kids, i', s', inl r)) = (l, kids, Shows z, subst (λ n. IsRoot text l kids n (Shows z)) (one_start text i' i s' s) r, refl)
comes_begins text i (Refused z) s n (inr (l, kids, i', s', inr (j, r, e))) = (l, kids, To j, subst (λ n. IsRoot text l kids n (To j)) (one_start text i' i s' s) r, inr (z, e, refl))

pub begins_comes : (text : List ℕ) (i : ℕ) (v : Reading) → IsStart text i → Begins text i v → Comes text v
begins_comes text i v s (l, kids, To j, r, inl (e, h)) = subst (Comes text) (sym h) (l, kids, i, j, s, r, e, refl)
begins_comes text i v s (l, kids, To j, r, inr (z, e, h)) = subst (Comes text) (sym h) (inr (l, kids, i, s, inr (j, r, e)))
begins_comes text i v s (l, kids, Shows z, r, h) = subst (Comes text) (sym h) (inr (l, kids, i, s, inl r))

-- a text that begins nowhere comes to nothing but a sign in front
comes_nowhere : (text : List ℕ) (v : Reading) → ((i : ℕ) (w : Reading) → IsStart text i → Begins text i w → ⊥) → Comes text v → (s : Sign) × (start_sign text ≡ Some s) × (v ≡ Refused s)
comes_nowhere text (Tree t) none (l, kids, i, j, s, r, e, h) = absurd (none i (Tree t) s (l, kids, To j, r, inl (e, ap Tree h)))
comes_nowhere text (Refused z) none (inl e) = (z, e, refl)
comes_nowhere text (Refused z) none (inr (l, kids, i, s, inl r)) = absurd (none i (Refused z) s (l, kids, Shows z, r, refl))
comes_nowhere text (Refused z) none (inr (l, kids, i, s, inr (j, r, e))) = absurd (none i (Refused z) s (l, kids, To j, r, inr (z, e, refl)))

-- a line `---` with something else on it
marked_nowhere : (text : List ℕ) → (ahead text false (text_start text)).token ≡ Dashes → (ahead text false (ahead text false (text_start text)).behind).fresh ≡ false → (i : ℕ) (w : Reading) → IsStart text i → Begins text i w → ⊥
marked_nowhere text d f i w (inl (t, e, g)) h = true≢false (sym (subst (λ n. (ahead text false n).fresh ≡ true) e g) ∙ f)
marked_nowhere text d f i w (inr (n, e)) h = n d

-- a `%`
percent_none : (a : Ahead) → a.token ≡ Percent → NoNode Root a
percent_none a e =
    ((λ h. (ap starts_scalar e, (λ m o. absurd (let no : Opens m ≡ Percent = sym o ∙ e in cc)))), (λ h d. absurd (let no : Dash ≡ Percent = sym d ∙ e in cc)), (λ h len t. absurd (let no : Tag len ≡ Percent = sym t ∙ e in cc)))

percent_nowhere : (text : List ℕ) → (ahead text false (text_start text)).token ≡ Percent → (i : ℕ) (w : Reading) → IsStart text i → Begins text i w → ⊥
percent_nowhere text p i w (inl (t, e, g)) h = absurd (no_percent (sym t ∙ p))
percent_nowhere text p i w (inr (n, e)) h =
    let here : (ahead text false i).token ≡ Percent = ap (λ k. (ahead text false k).token) e ∙ p in
    root_missing text [] [] Nil None i w refl (percent_none (ahead text false i) here) (unsigned_block Root (ahead text false i) (ap (node_sign false (ahead text false i).at) here)) (begins_node text i w (ap is_ending here) h)

-- a sign in front
if_some : (q : Bool) (s z : Sign) → cond q (Some s) None ≡ Some z → q ≡ true
if_some true s z e = refl
if_some false s z e = absurd (cc)

both_first : (q r : Bool) → (not q && r) ≡ true → q ≡ false
both_first true r e = absurd (cc)
both_first false r e = refl

signed_nowhere : (text : List ℕ) (s : Sign) → start_sign text ≡ Some s → (i : ℕ) (w : Reading) → IsStart text i → Begins text i w → ⊥
signed_nowhere text s e = by_token (ahead text false (text_start text)).token refl e where
  a : Ahead
  a = ahead text false (text_start text)

  b : Ahead
  b = ahead text false a.behind

  by_token : (t : Token) → a.token ≡ t → sign_before a b t ≡ Some s → (i : ℕ) (w : Reading) → IsStart text i → Begins text i w → ⊥
  by_token Percent t h = percent_nowhere text t
  by_token Dashes t h = marked_nowhere text t (both_first b.fresh (is_content b.token) (if_some (not b.fresh && is_content b.token) (ManyDocuments a.at) s h))
  by_token End t h = absurd (no_sign s h)
  by_token Dots t h = absurd (no_sign s h)
  by_token Dash t h = absurd (no_sign s h)
  by_token (Tag l) t h = absurd (no_sign s h)
  by_token NoTag t h = absurd (no_sign s h)
  by_token (Opens m) t h = absurd (no_sign s h)
  by_token (Closes m) t h = absurd (no_sign s h)
  by_token Comma t h = absurd (no_sign s h)
  by_token (Point l) t h = absurd (no_sign s h)
  by_token Anchor t h = absurd (no_sign s h)
  by_token Tabbed t h = absurd (no_sign s h)
  by_token Stray t h = absurd (no_sign s h)
  by_token Other t h = absurd (no_sign s h)

pub start_counts : (text : List ℕ) (s : Sign) → start_sign text ≡ Some s → IsSignOf text s
start_counts text s e = (inl e, (λ z y. same z (comes_nowhere text (Refused z) (signed_nowhere text s e) y)), (λ t y. none t (comes_nowhere text (Tree t) (signed_nowhere text s e) y))) where
  same : (z : Sign) → (y : Sign) × (start_sign text ≡ Some y) × (Refused z ≡ Refused y) → z ≡ s
  same z (y, h, r) =
      refused_same z y r ∙ some_same y s (sym h ∙ e)

  none : (t : Forest) → (y : Sign) × (start_sign text ≡ Some y) × (Tree t ≡ Refused y) → ⊥
  none t (y, h, r) = tree_refused t y r

pub start_refused : (text : List ℕ) (r : Stop) → Some r ≡ option_map of_sign (start_sign text) → IsStopped text r
start_refused text r e =
    let t = told (start_sign text) r e in
    subst (λ z. IsStopped text z) t.2 (by_sign t.0 (start_counts text t.0 t.1)) where
      by_sign : (s : Sign) → IsSignOf text s → IsStopped text (of_sign s)
      by_sign (Tab at) h = h
      by_sign (sign.Anchor at) h = h
      by_sign (sign.Tag at) h = h
      by_sign (Directive at) h = h
      by_sign (ManyDocuments at) h = h
      by_sign (DuplicateKey at) h = h
      by_sign (TooDeep at) h = h

-- no sign is want of memory
solid_sign : (s : Sign) → of_sign s ≡ stop.NoMemory → ⊥
solid_sign (Tab at) h = cc
solid_sign (sign.Anchor at) h = cc
solid_sign (sign.Tag at) h = cc
solid_sign (Directive at) h = cc
solid_sign (ManyDocuments at) h = cc
solid_sign (DuplicateKey at) h = cc
solid_sign (TooDeep at) h = cc

-- it is no want of memory
pub start_solid : (text : List ℕ) (r : Stop) → Some r ≡ option_map of_sign (start_sign text) → r ≡ stop.NoMemory → ⊥
start_solid text r e n = let t = told (start_sign text) r e in solid_sign t.0 (t.2 ∙ n)

pub marked_refused : (text : List ℕ) (at behind : ℕ) (next after : Ahead) → at ≡ text_start text → next ≡ ahead text false at → behind ≡ next.behind → after ≡ ahead text false behind → next.token ≡ Dashes → after.fresh ≡ false
    → None ≡ option_map of_sign (start_sign text) → IsUnread text
marked_refused text at behind next after ea en eb ef d f n =
    let first : next ≡ ahead text false (text_start text) = en ∙ ap (ahead text false) ea in
    let second : after ≡ ahead text false (ahead text false (text_start text)).behind = ef ∙ ap (ahead text false) (eb ∙ ap (λ a. a.behind) first) in
    let nowhere = marked_nowhere text (ap (λ a. a.token) (sym first) ∙ d) (ap (λ a. a.fresh) (sym second) ∙ f) in
    let free = untold (start_sign text) n in
    ((λ s y. by_sign s (comes_nowhere text (Refused s) nowhere y) free), (λ t y. by_tree t (comes_nowhere text (Tree t) nowhere y))) where
      by_sign : (s : Sign) → (y : Sign) × (start_sign text ≡ Some y) × (Refused s ≡ Refused y) → start_sign text ≡ None → ⊥
      by_sign s (y, h, r) free = no_sign y (sym free ∙ h)

      by_tree : (t : Forest) → (y : Sign) × (start_sign text ≡ Some y) × (Tree t ≡ Refused y) → ⊥
      by_tree t (y, h, r) = tree_refused t y r

-- where the document begins
pub starts_behind : (text : List ℕ) (at behind : ℕ) (next after : Ahead) → at ≡ text_start text → next ≡ ahead text false at → behind ≡ next.behind → after ≡ ahead text false behind → next.token ≡ Dashes → after.fresh ≡ true → IsStart text behind
starts_behind text at behind next after ea en eb ef d f =
    let first : next ≡ ahead text false (text_start text) = en ∙ ap (ahead text false) ea in
    inl (ap (λ a. a.token) (sym first) ∙ d, eb ∙ ap (λ a. a.behind) first, ap (λ a. a.fresh) (sym ef) ∙ f)

pub starts_there : (text : List ℕ) (at : ℕ) (next : Ahead) → at ≡ text_start text → next ≡ ahead text false at → (next.token ≡ Dashes → ⊥) → IsStart text at
starts_there text at next ea en n = inr ((λ d. n (ap (λ a. a.token) (en ∙ ap (ahead text false) ea) ∙ d)), ea)

mark_bytes : (a b c : ℕ) → (nat_eq a 239 && (nat_eq b 187 && nat_eq c 191)) ≡ true → (a ≡ 239) × (b ≡ 187) × (c ≡ 191)
mark_bytes a b c h = (grind (arith, nat_tests), grind (arith, nat_tests), grind (arith, nat_tests))

-- a text may be cut behind a byte order mark
pub order_mark_cut : (bytes : List ℕ) → IsUtf8 bytes → begins_order_mark bytes ≡ true → IsCharBoundary bytes 3
unfolding lib.Utf8.encode
order_mark_cut [] u h = absurd (cc)
order_mark_cut (a ∷ []) u h = absurd (cc)
order_mark_cut (a ∷ b ∷ []) u h = absurd (cc)
order_mark_cut (a ∷ b ∷ c ∷ bs) u h =
    let m = mark_bytes a b c h in
    let e : (a ∷ b ∷ c ∷ bs) ≡ 239 ∷ 187 ∷ 191 ∷ bs = ap (λ k. k ∷ b ∷ c ∷ bs) m.0 ∙ ap (λ k. 239 ∷ k ∷ c ∷ bs) m.1 ∙ ap (λ k. 239 ∷ 187 ∷ k ∷ bs) m.2 in
    IsCharBoundary-past_char (a ∷ b ∷ c ∷ bs) bs 0 65279 (omega arith) u e

-- ---- the end

abbrev pub Same : List ℕ → Position → List Form → Unfinished → Type 0
Same text p fs u = (v : Reading) → (Comes text v → Rest text p.stage fs u p.at v) × (Rest text p.stage fs u p.at v → Comes text v)

one_tree_count : (text : List ℕ) (v : Forest) → IsYaml text v → count v ≡ 1
one_tree_count text v (l, kids, i, j, s, r, e, h) = ap count h

whole_is : (text : List ℕ) (p : Position) (fs : List Form) (u : Unfinished) → p.stage ≡ stage.Whole → Same text p fs u → (v : Reading) → (Comes text v → v ≡ Tree u.done) × (v ≡ Tree u.done → Comes text v)
whole_is text p fs u e h v = subst (λ s. (Comes text v → Rest text s fs u p.at v) × (Rest text s fs u p.at v → Comes text v)) e (h v)

pub whole_tree : (text : List ℕ) (p : Position) (fs : List Form) (u : Unfinished) → p.stage ≡ stage.Whole → Same text p fs u → Reads text u.done
whole_tree text p fs u e h = ((whole_is text p fs u e h (Tree u.done)).1 refl, (λ t y. same t ((whole_is text p fs u e h (Tree t)).0 y)), (λ s y. none s ((whole_is text p fs u e h (Refused s)).0 y))) where
  same : (t : Forest) → Tree t ≡ Tree u.done → t ≡ u.done
  same t e = cc

  none : (s : Sign) → Refused s ≡ Tree u.done → ⊥
  none s e = absurd (cc)

pub whole_complete : (text : List ℕ) (p : Position) (fs : List Form) (u : Unfinished) → p.stage ≡ stage.Whole → Same text p fs u → Fits text p.stage fs u p.at → IsComplete u
whole_complete text p fs u e h f = (subst (λ s. Fits text s fs u p.at) e f, one_tree_count text u.done (whole_tree text p fs u e h).0)

-- how far reading can come
reached_most : (s : Stage) (at n : ℕ) → at ≤ n → reached s at ≤ 2 * n + 3
reached_most stage.Entry at n l = omega (arith, l)
reached_most stage.Value at n l = omega (arith, l)
reached_most stage.After at n l = omega (arith, l)
reached_most stage.Whole at n l = omega (arith, l)

pub nearer : (s t : Stage) (i j n : ℕ) → j ≤ n → reached s i < reached t j → 2 * n + 4 - reached t j < 2 * n + 4 - reached s i
nearer s t i j n l h = let m = reached_most t j n l in omega (arith, m, h)

-- ---- the whole text

pub not_true : (b : Bool) → not b ≡ true → b ≡ false
not_true true e = sym e
not_true false e = refl

-- a sign that all comes to is the only one
only_sign : (text : List ℕ) (P : Reading → Type 0) (s : Sign) → ((v : Reading) → (Comes text v → P v) × (P v → Comes text v)) → Broke P s → IsSignOf text s
only_sign text P s h (g, only) = ((h (Refused s)).1 g, (λ z y. same z (only (Refused z) ((h (Refused z)).0 y))), (λ t y. none t (only (Tree t) ((h (Tree t)).0 y)))) where
  same : (z : Sign) → Refused z ≡ Refused s → z ≡ s
  same z e = cc

  none : (t : Forest) → Tree t ≡ Refused s → ⊥
  none t e = absurd (cc)

pub refuses : (text : List ℕ) (P : Reading → Type 0) (n : ℕ) (fs : List Form) (w : Unfinished) (r : Stop) → ((v : Reading) → (Comes text v → P v) × (P v → Comes text v)) → Gives text P n fs w (Err r) → IsStopped text r
refuses text P n fs w (stop.Unread q) h g = ((λ s y. g (Refused s) ((h (Refused s)).0 y)), (λ t y. g (Tree t) ((h (Tree t)).0 y)))
refuses text P n fs w (stop.Tab at) h g = only_sign text P (Tab at) h g
refuses text P n fs w (stop.Anchor at) h g = only_sign text P (sign.Anchor at) h g
refuses text P n fs w (stop.Tag at) h g = only_sign text P (sign.Tag at) h g
refuses text P n fs w (stop.Directive at) h g = only_sign text P (Directive at) h g
refuses text P n fs w (stop.ManyDocuments at) h g = only_sign text P (ManyDocuments at) h g
refuses text P n fs w (stop.DuplicateKey at) h g = only_sign text P (DuplicateKey at) h g
refuses text P n fs w (stop.TooDeep at) h g = only_sign text P (TooDeep at) h g
refuses text P n fs w stop.NoMemory h g = tt

pub root_refused : (text : List ℕ) (i n : ℕ) (fs : List Form) (w : Unfinished) (r : Stop) → IsStart text i → start_sign text ≡ None → Gives text (Begins text i) n fs w (Err r) → IsStopped text r
root_refused text i n fs w r s z g = refuses text (Begins text i) n fs w r (λ v. (comes_begins text i v s z, begins_comes text i v s)) g

pub root_same : (text : List ℕ) (i : ℕ) (fs : List Form) (w : Unfinished) (p : Position) → IsStart text i → start_sign text ≡ None → fs ≡ [] → Goes text (Begins text i) 0 [] w p → Same text p fs w × Fits text p.stage fs w p.at × IsCharBoundary text p.at
root_same text i fs w p s n e g =
    subst (λ z. Same text p z w × Fits text p.stage z w p.at × IsCharBoundary text p.at) (sym e) ((λ v. ((λ h. (g.0 v).0 (comes_begins text i v s n h)), (λ h. begins_comes text i v s ((g.0 v).1 h)))), g.1, g.2)

-- want of memory is the only one that is
pub stop_memory : (e : Stop) → of_stop e ≡ refusal.NoMemory → e ≡ stop.NoMemory
stop_memory (stop.Unread q) h = cc
stop_memory (stop.Tab at) h = cc
stop_memory (stop.Anchor at) h = cc
stop_memory (stop.Tag at) h = cc
stop_memory (stop.Directive at) h = cc
stop_memory (stop.ManyDocuments at) h = cc
stop_memory (stop.DuplicateKey at) h = cc
stop_memory (stop.TooDeep at) h = cc
stop_memory stop.NoMemory h = refl
