-- Where reading stands at a text's end, or has nothing ahead and the text ends in a line feed, a closing bracket for each open
-- flow collection makes a document of the text. By induction on the open collections.
use Rattle.std.proofs.Common.{◌≡◌, ℕ, suc, ◌+◌, ◌≤◌, ◌⊎◌, inl, inr, Bool, true, false, List, [], ◌∷◌, ◌++◌, Option, None, drop, length, refl, sym, ap, ◌∙◌, arith, cond, subst, append_assoc, length-append}
use Rattle.std.proofs.lemmas.List.{append-nil}
use Rattle.doc_values.specs.declared.kind.Kind.TheVariants as kind
use Rattle.doc_values.specs.Tree.{Forest, Nil, Node, snoc, joined}
use Rattle.doc_values.specs.Unfinished.{Level, Unfinished}
use Rattle.yaml_scalars.specs.Lines.{Line, lines, is_mark}
use Rattle.yaml_scalars.specs.Scalar.{is_first_column}
use Rattle.yaml_scalars.specs.code.Walk.{line_at, has_break, behind}
use Rattle.yaml_scalars.proofs.Places.{lines_are}
use Rattle.yaml_grammar.specs.declared.ahead.Ahead.{Ahead}
use Rattle.yaml_grammar.specs.declared.ahead.Token.TheVariants.{End, Closes, Stray}
use Rattle.yaml_grammar.specs.declared.form.Form.{Form}
use Rattle.yaml_grammar.specs.declared.form.Form.TheVariants.{Root, Flow, FlowTagged, Items, Entries, Tagged}
use Rattle.yaml_grammar.specs.Ahead.{token_at, mark_of, line_ahead, rest_ahead, ahead}
use Rattle.yaml_grammar.specs.Nodes.{leaf}
use Rattle.yaml_grammar.specs.declared.stage.Stage.{Stage}
use Rattle.yaml_grammar.specs.declared.stage.Stage.TheVariants as stage
use Rattle.yaml_grammar.specs.Signs.{Reading, Tree, Refused, Reach, To, Then}
use Rattle.yaml_grammar.specs.Yaml.{IsNode, Spells}
use Rattle.yaml_grammar.specs.code.Rest.{top, Ends, Enters, Awaits, Begins}
use Rattle.yaml_grammar.specs.code.Steps.{Agrees, Nests, Rest, Fits}
use Rattle.yaml_grammar.specs.code.AheadSeen.{ahead_seen}
use Rattle.yaml_grammar.specs.code.Closers.{closer, closers, IsSpent}
use Rattle.yaml_grammar.proofs.AheadEnds.{end_feed, end_flows, over_text}
use Rattle.yaml_grammar.proofs.AheadStrays.{stray_feed}
use Rattle.std.proofs.Math.Seq.{drop-append_seam}

-- ---- what is ahead behind the text

unmarked : (m : Bool) (x : List ℕ) → is_mark (closer m ∷ x) ≡ false
unmarked true [] = refl
unmarked true (a ∷ []) = refl
unmarked true (a ∷ b ∷ x) = refl
unmarked false [] = refl
unmarked false (a ∷ []) = refl
unmarked false (a ∷ b ∷ x) = refl

-- a closing bracket is ahead, at a place
abbrev pub IsCloser : Bool → ℕ → Ahead → Type 0
IsCloser m n a = (a.token ≡ Closes m) × (a.at ≡ n) × (a.behind ≡ suc n)

closer_of : (m : Bool) (n : ℕ) (fresh : Bool) → IsCloser m n (token_at (Closes m) fresh 0 (n + 0))
closer_of m n fresh = (refl, omega arith, omega arith)

closer_line : (m : Bool) (n size : ℕ) (x : List ℕ) (r : Bool) (ls : List Line) → line_ahead true size (record { at = n; bytes = closer m ∷ x; broken = r } ∷ ls) ≡ token_at (Closes m) true 0 (n + 0)
closer_line true n size x r ls = ap (λ q. cond q (token_at (mark_of (125 ∷ x)) true 0 n) (token_at (Closes true) true 0 (n + 0))) (unmarked true x)
closer_line false n size x r ls = ap (λ q. cond q (token_at (mark_of (93 ∷ x)) true 0 n) (token_at (Closes false) true 0 (n + 0))) (unmarked false x)

closer_rest : (m : Bool) (n size : ℕ) (x : List ℕ) (r : Bool) (ls : List Line) → rest_ahead true size (record { at = n; bytes = closer m ∷ x; broken = r } ∷ ls) ≡ token_at (Closes m) false 0 (n + 0)
closer_rest true n size x r ls = refl
closer_rest false n size x r ls = refl

closer_lines : (m : Bool) (n : ℕ) (w : List ℕ) → lines n (closer m ∷ w) ≡ record { at = n; bytes = closer m ∷ line_at w; broken = has_break w } ∷ behind n (closer m ∷ w)
closer_lines true n w = lines_are n (125 ∷ w)
closer_lines false n w = lines_are n (93 ∷ w)

pub closer_ahead : (text w : List ℕ) (m : Bool) → IsCloser m (length text) (ahead (text ++ (closer m ∷ w)) true (length text))
closer_ahead text w m = by_column (is_first_column whole n) where
  n : ℕ
  n = length text

  whole : List ℕ
  whole = text ++ (closer m ∷ w)

  ls : lines n (drop n whole) ≡ record { at = n; bytes = closer m ∷ line_at w; broken = has_break w } ∷ behind n (closer m ∷ w)
  ls = ap (lines n) (drop-append_seam text (closer m ∷ w)) ∙ closer_lines m n w

  by_column : (q : Bool) → IsCloser m n (cond q (line_ahead true (length whole) (lines n (drop n whole))) (rest_ahead true (length whole) (lines n (drop n whole))))
  by_column true = subst (IsCloser m n) (sym (ap (line_ahead true (length whole)) ls ∙ closer_line m n (length whole) (line_at w) (has_break w) (behind n (closer m ∷ w)))) (closer_of m n true)
  by_column false = subst (IsCloser m n) (sym (ap (rest_ahead true (length whole)) ls ∙ closer_rest m n (length whole) (line_at w) (has_break w) (behind n (closer m ∷ w)))) (closer_of m n false)

pub end_ahead : (text : List ℕ) → (ahead (text ++ []) false (length text)).token ≡ End
end_ahead text = by_column (is_first_column (text ++ []) (length text)) where
  n : ℕ
  n = length text

  ls : lines n (drop n (text ++ [])) ≡ lines n []
  ls = ap (lines n) (drop-append_seam text [])

  size : ℕ
  size = length (text ++ [])

  by_column : (q : Bool) → (cond q (line_ahead false size (lines n (drop n (text ++ [])))) (rest_ahead false size (lines n (drop n (text ++ []))))).token ≡ End
  by_column true = ap (λ k. (line_ahead false size k).token) ls
  by_column false = ap (λ k. (rest_ahead false size k).token) ls

-- ---- the open collections

-- nothing stands behind a place of a text: a closing bracket behind the text is what is ahead there, and without one nothing is
abbrev pub IsOver : List ℕ → ℕ → Type 0
IsOver text i = ((m : Bool) (w : List ℕ) → IsCloser m (length text) (ahead (text ++ (closer m ∷ w)) true i)) × ((ahead (text ++ []) false i).token ≡ End)

-- so at the text's end
pub over_end : (text : List ℕ) → IsOver text (length text)
over_end text = (λ m w. closer_ahead text w m, end_ahead text)

-- and where nothing is ahead of it, and the text ends in a line feed
over_feed : (before : List ℕ) (i : ℕ) → i ≤ length before → (ahead (before ++ (10 ∷ [])) false i).token ≡ End → IsOver (before ++ (10 ∷ [])) i
over_feed before i low h = (λ m w. subst (IsCloser m (length text)) (sym (moved m w)) (closer_ahead text w m), ap (λ t. (ahead t false i).token) (append-nil text) ∙ h) where
  text : List ℕ
  text = before ++ (10 ∷ [])

  size : length (before ++ (10 ∷ [])) ≡ suc (length before)
  size = length-append before (10 ∷ []) ∙ omega arith

  moved : (m : Bool) (w : List ℕ) → ahead (text ++ (closer m ∷ w)) true i ≡ ahead (text ++ (closer m ∷ w)) true (length text)
  moved m w =
      let e : (before ++ (10 ∷ [])) ++ (closer m ∷ w) ≡ before ++ (10 ∷ closer m ∷ w) = append_assoc before (10 ∷ []) (closer m ∷ w) in
      ap (λ t. ahead t true i) e ∙ over_text before (closer m ∷ w) true i low (end_flows false true text i h) ∙ sym (ap (λ t. ahead t true (suc (length before))) e) ∙ sym (ap (ahead (text ++ (closer m ∷ w)) true) size)

-- behind a node, with more bytes behind the text
abbrev pub Closed : (Forest → ℕ → Reading → Type 0) → Forest → ℕ → Type 0
Closed E done i = (tree : Forest) × E done i (Tree tree)

pub step_on : (text w : List ℕ) (c : ℕ) → (text ++ (c ∷ [])) ++ w ≡ text ++ (c ∷ w)
step_on text w c = append_assoc text (c ∷ []) w

pub step_len : (text : List ℕ) (c : ℕ) → length (text ++ (c ∷ [])) ≡ suc (length text)
step_len text c = length-append text (c ∷ []) ∙ omega arith

-- the bracket of a flow collection, behind its entries or behind nothing
pub flow_tail : (text w : List ℕ) (i : ℕ) (m first : Bool) (done : Forest) → IsOver text i → (j : ℕ) × (j ≡ suc (length text)) × Spells (text ++ (closer m ∷ w)) Nil (Flow m) 0 first done i (To j)
flow_tail text w i m first done over =
    let c = over.0 m w in
    let j = (ahead (text ++ (closer m ∷ w)) true i).behind in
    (j, c.2, inl (j, (i, inr refl, c.0, refl), refl))

module _ (m first : Bool) (fs : List Form) (x : Level) (xs : List Level) (done : Forest) (text : List ℕ) (i : ℕ) where
  abbrev whole : List ℕ
  whole = text ++ (closer m ∷ closers fs)

  abbrev further : Forest
  further = snoc x.before x.label (joined done Nil)

  flow_closed : IsOver text i → Closed (Ends ((text ++ (closer m ∷ [])) ++ closers fs) fs xs) further (length (text ++ (closer m ∷ [])))
      → (tree : Forest) × ((g : Forest) × (r : Reach) × Spells whole g (Flow m) (suc (length xs)) first done i r × Then r (λ k. Ends whole fs xs (snoc x.before x.label (joined done g)) k (Tree tree)) (λ s. Tree tree ≡ Refused s))
  flow_closed over h =
      let t = flow_tail text (closers fs) i m first done over in
      let h2 = subst (λ (w : List ℕ). Closed (Ends w fs xs) further (length (text ++ (closer m ∷ [])))) (step_on text (closers fs) (closer m)) h in
      let h3 = subst (λ (n : ℕ). Closed (Ends whole fs xs) further n) (step_len text (closer m) ∙ sym t.1) h2 in
      (h3.0, (Nil, To t.0, t.2, h3.1))

pub closes : (fs : List Form) (outer : List Level) (done : Forest) (text : List ℕ) (i : ℕ) → IsOver text i → Agrees fs outer → Nests fs → Closed (Ends (text ++ closers fs) fs outer) done i
closes [] [] done text i e a o = (done, inl (inl e.1, refl))
closes [] (x ∷ xs) done text i e a o = absurd a
closes (f ∷ fs) [] done text i e a o = absurd a
closes (Root ∷ fs) (x ∷ xs) done text i e (k, a) (l, s, o) = absurd l
closes (Flow m ∷ fs) (x ∷ xs) done text i e (k, a) (l, s, o) =
    flow_closed m false fs x xs done text i e (closes fs xs (snoc x.before x.label (joined done Nil)) (text ++ (closer m ∷ [])) (length (text ++ (closer m ∷ []))) (over_end (text ++ (closer m ∷ []))) a o)
closes (FlowTagged at ∷ fs) (x ∷ xs) done text i e (k, a) (l, s, o) = let r = closes fs xs (snoc x.before x.label (joined done Nil)) text i e a o in (r.0, (Nil, To i, (refl, refl), r.1))
closes (Items m ∷ fs) (x ∷ xs) done text i e (k, a) (l, s, o) = let r = closes fs xs (snoc x.before x.label (joined done Nil)) text i e a o in (r.0, (Nil, To i, (refl, refl), r.1))
closes (Entries m ∷ fs) (x ∷ xs) done text i e (k, a) (l, s, o) = let r = closes fs xs (snoc x.before x.label (joined done Nil)) text i e a o in (r.0, (Nil, To i, (refl, inl refl), r.1))
closes (Tagged at ab sh ∷ fs) (x ∷ xs) done text i e (k, a) (l, s, o) = let r = closes fs xs (snoc x.before x.label (joined done Nil)) text i e a o in (r.0, (Nil, To i, (refl, refl), r.1))

-- where an entry or the closing bracket may stand
pub closes_entry : (fs : List Form) (outer : List Level) (done : Forest) (text : List ℕ) (i : ℕ) → IsOver text i → Agrees fs outer → Nests fs → (m : Bool) × (top fs ≡ Flow m) → Closed (Enters (text ++ closers fs) fs outer) done i
closes_entry [] outer done text i e a o (m, t) = absurd (cc)
closes_entry (f ∷ fs) [] done text i e a o t = absurd a
closes_entry (Root ∷ fs) (x ∷ xs) done text i e a o (m, t) = absurd (cc)
closes_entry (Flow n ∷ fs) (x ∷ xs) done text i e (k, a) (l, s, o) t =
    flow_closed n true fs x xs done text i e (closes fs xs (snoc x.before x.label (joined done Nil)) (text ++ (closer n ∷ [])) (length (text ++ (closer n ∷ []))) (over_end (text ++ (closer n ∷ []))) a o)
closes_entry (FlowTagged at ∷ fs) (x ∷ xs) done text i e a o (m, t) = absurd (cc)
closes_entry (Items n ∷ fs) (x ∷ xs) done text i e a o (m, t) = absurd (cc)
closes_entry (Entries n ∷ fs) (x ∷ xs) done text i e a o (m, t) = absurd (cc)
closes_entry (Tagged at ab sh ∷ fs) (x ∷ xs) done text i e a o (m, t) = absurd (cc)

-- where the value of a `-`, a key or a tag may stand, it is null
pub null_node : (text : List ℕ) (f : Form) (d : ℕ) (key : Option (List ℕ)) (i : ℕ) → (f ≡ Root → ⊥) → (f ≡ Flow false → ⊥) → IsNode text (Spells text Nil) f d key (leaf kind.Null [] key i) Nil i (To i)
null_node text Root d key i r h = absurd (r refl)
null_node text (Flow true) d key i r h = inl (refl, (refl, refl, refl))
null_node text (Flow false) d key i r h = absurd (h refl)
null_node text (FlowTagged at) d key i r h = inl (refl, (refl, refl, refl))
null_node text (Items m) d key i r h = inl (refl, refl, refl)
null_node text (Entries m) d key i r h = inl (refl, refl, refl)
null_node text (Tagged at ab sh) d key i r h = inl (refl, refl, refl)

pub closes_value : (fs : List Form) (outer : List Level) (done : Forest) (key : Option (List ℕ)) (text : List ℕ) (i : ℕ) → IsOver text i → Agrees fs outer → Nests fs → (top fs ≡ Root → ⊥) → (top fs ≡ Flow false → ⊥) → (tree : Forest) × Awaits (text ++ closers fs) fs outer done key i (Tree tree)
closes_value fs outer done key text i e a o r h =
    let l = leaf kind.Null [] key i in
    let c = closes fs outer (snoc done l Nil) text i e a o in
    (c.0, (l, Nil, To i, null_node (text ++ closers fs) (top fs) (length outer) key i r h, c.1))

-- wherever reading stands, but for the root; the forms and the tree fit in any text
pub closes_rest : (text other : List ℕ) (s : Stage) (fs : List Form) (u : Unfinished) (i : ℕ) → IsOver text i → (s ≡ stage.Value → top fs ≡ Root → ⊥) → Fits other s fs u i → (tree : Forest) × Rest (text ++ closers fs) s fs u i (Tree tree)
closes_rest text other s fs u i e r f = by_stage s r f where
  by_stage : (s : Stage) → (s ≡ stage.Value → top fs ≡ Root → ⊥) → Fits other s fs u i → (tree : Forest) × Rest (text ++ closers fs) s fs u i (Tree tree)
  by_stage stage.Entry r (o, m, k) = closes_entry fs u.outer u.done text i e o.0 o.1 m
  by_stage stage.Value r (o, m, w, b, k) = closes_value fs u.outer u.done u.key text i e o.0 o.1 (r refl) m
  by_stage stage.After r (o, k, c) = closes fs u.outer u.done text i e o.0 o.1
  by_stage stage.Whole r f = (u.done, refl)

-- a place with nothing behind it
pub over_of : (text : List ℕ) (i : ℕ) → IsSpent text i → IsOver text i
over_of text i (inl e) = subst (λ n. IsOver text n) (sym e) (over_end text)
over_of text i (inr (before, e, low, h)) = subst (λ t. IsOver t i) (sym e) (over_feed before i low (sym (ap (λ t. (ahead t false i).token) e) ∙ h))

-- with a line feed behind the text
pub spent_feed : (text : List ℕ) (flow : Bool) (i : ℕ) → i ≤ length text → ((ahead text flow i).token ≡ End) ⊎ (((ahead text flow i).token ≡ Stray) × (ahead_seen text i ≡ length text)) → IsSpent (text ++ (10 ∷ [])) i
spent_feed text flow i low (inl h) = inr (text, refl, low, end_flows flow false (text ++ (10 ∷ [])) i (end_feed text flow i low h))
spent_feed text flow i low (inr h) = inr (text, refl, low, end_flows flow false (text ++ (10 ∷ [])) i (stray_feed text flow i low h.0 h.1))

-- where the root may stand and nothing is ahead, it is null
pub root_null : (text : List ℕ) (i : ℕ) → (ahead text false i).token ≡ End → (tree : Forest) × Begins text i (Tree tree)
root_null text i h = let l = leaf kind.Null [] None (length text) in (Node l Nil Nil, (l, Nil, To i, inl (refl, refl, refl), inl (inl h, refl)))
