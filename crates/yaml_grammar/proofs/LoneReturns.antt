-- No document has a carriage return that is in no break: what is read from a place before it comes to a place before it. By induction on the tree, by the cases of nodes.
use Rattle.std.proofs.Common.{◌≡◌, ℕ, zero, suc, ◌+◌, ◌-◌, ◌≤◌, ◌⊎◌, inl, inr, Bool, true, false, ◌||◌, ◌&&◌, not, cond, nat_eq, nat_lt, arith, List, [], ◌∷◌, ◌++◌, Option, drop, length, refl, sym, ap, ◌∙◌, subst, true≢false, append_assoc, append-nil, length-drop}
use Rattle.std.specs.Prelude.{IsUtf8}
use Rattle.std.proofs.lemmas.Bool.Decides.{nat_tests}
use Rattle.std.proofs.lemmas.List.{drop-drop}
use Rattle.std.proofs.Math.Seq.{drop-append_seam}
use Rattle.doc_values.specs.declared.kind.Kind.{Kind}
use Rattle.doc_values.specs.Tree.{Label, Forest, Nil, Node, snoc}
use Rattle.yaml_scalars.specs.declared.scalar.Setting.{Setting}
use Rattle.yaml_scalars.specs.Lines.{Line, Stands, Fails, begins_with, lines, is_white, is_space, is_blank, lead, indent, past_white, is_mark, is_end}
use Rattle.yaml_scalars.specs.Plain.{is_unsafe}
use Rattle.yaml_scalars.specs.Scalar.{begins_order_mark, is_first_column, scalar_at}
use Rattle.yaml_scalars.proofs.Places.{lead_le}
use Rattle.yaml_laws.proofs.Returns.{IsReturn, HasReturn, none_empty, further_return, has_return, line_before, past_line, lead_short, blank_none, scalar_before, stands_before}
use Rattle.yaml_grammar.specs.declared.ahead.Ahead.{Ahead}
use Rattle.yaml_grammar.specs.declared.ahead.Token.{Token}
use Rattle.yaml_grammar.specs.declared.ahead.Token.TheVariants.{End, Dashes, Dots, Dash, Tag, NoTag, Opens, Closes, Comma, Point, Anchor, Percent, Tabbed, Stray, Other}
use Rattle.yaml_grammar.specs.declared.form.Form.{Form}
use Rattle.yaml_grammar.specs.declared.form.Form.TheVariants.{Root, Flow, FlowTagged, Items, Entries, Tagged}
use Rattle.yaml_grammar.specs.Ahead.{has_return as returns, is_name, begins_letter, ends_tag, tag_token, other_token, block_token, token_of, token_len, token_at, mark_of, is_passed, is_tabbed, tab_token, content_ahead, line_ahead, rest_ahead, ahead}
use Rattle.yaml_grammar.specs.Blocks.{IsBlockNode}
use Rattle.yaml_grammar.specs.Flow.{IsFlowNode, IsColon, Comes}
use Rattle.yaml_grammar.specs.Nodes.{as_key, Contents, IsCollection, IsMissing, IsScalar, IsValue, Within, scalar_ahead, starts_scalar}
use Rattle.yaml_grammar.specs.Signs.{To, Shows}
use Rattle.yaml_grammar.specs.Yaml.{IsHead, IsNode, IsRoot, IsStart, IsTail, IsYaml, Spells, text_start}
use Rattle.yaml_grammar.specs.Places.{IsFront, IsDead}

-- ---- tokens

is_byte : (b k : ℕ) → nat_eq b k ≡ true → b ≡ k
is_byte b k h = grind (arith, nat_tests, h)

-- a token is no longer than its first byte and a name, and is not the text's end
abbrev Sized : List ℕ → Token → Type 0
Sized xs t = (token_len t ≤ suc (lead is_name xs)) × (t ≡ End → ⊥)

either : (xs : List ℕ) (q : Bool) (t u : Token) → Sized xs t → Sized xs u → Sized xs (cond q t u)
either xs true t u h g = h
either xs false t u h g = g

other_sized : (b : ℕ) (xs : List ℕ) → Sized xs (other_token b)
other_sized b xs =
    either xs (nat_eq b 38 || nat_eq b 42) Anchor (cond (nat_eq b 37) Percent (cond (nat_eq b 35 || nat_eq b 13) Stray Other)) (omega arith, (λ e. absurd (cc)))
    (either xs (nat_eq b 37) Percent (cond (nat_eq b 35 || nat_eq b 13) Stray Other) (omega arith, (λ e. absurd (cc))) (either xs (nat_eq b 35 || nat_eq b 13) Stray Other (omega arith, (λ e. absurd (cc))) (omega arith, (λ e. absurd (cc)))))

tag_sized : (flow : Bool) (xs : List ℕ) → Sized xs (tag_token flow xs)
tag_sized flow xs = either xs (begins_letter xs && ends_tag flow (drop (lead is_name xs) xs)) (Tag (lead is_name xs)) NoTag (omega arith, (λ e. absurd (cc))) (omega arith, (λ e. absurd (cc)))

block_sized : (b : ℕ) (xs : List ℕ) → Sized xs (block_token b xs)
block_sized b xs =
    either xs (nat_eq b 45 && is_end xs) Dash (cond (nat_eq b 58 && is_end xs) (Point true) (cond (nat_eq b 33) (tag_token false xs) (other_token b))) (omega arith, (λ e. absurd (cc)))
    (either xs (nat_eq b 58 && is_end xs) (Point true) (cond (nat_eq b 33) (tag_token false xs) (other_token b)) (omega arith, (λ e. absurd (cc))) (either xs (nat_eq b 33) (tag_token false xs) (other_token b) (tag_sized false xs) (other_sized b xs)))

token_sized : (flow : Bool) (b : ℕ) (xs : List ℕ) → Sized xs (token_of flow (b ∷ xs))
token_sized flow b xs =
    let t6 = cond (nat_eq b 33) (tag_token true xs) (other_token b) in
    let t5 = cond (nat_eq b 58) (Point (is_unsafe true xs)) t6 in
    let t4 = cond (nat_eq b 44) Comma t5 in
    let t3 = cond (nat_eq b 125) (Closes true) t4 in
    let t2 = cond (nat_eq b 93) (Closes false) t3 in
    let t1 = cond (not flow) (block_token b xs) t2 in
    either xs (nat_eq b 91) (Opens false) (cond (nat_eq b 123) (Opens true) t1) (omega arith, (λ e. absurd (cc)))
    (either xs (nat_eq b 123) (Opens true) t1 (omega arith, (λ e. absurd (cc)))
    (either xs (not flow) (block_token b xs) t2 (block_sized b xs)
    (either xs (nat_eq b 93) (Closes false) t3 (omega arith, (λ e. absurd (cc)))
    (either xs (nat_eq b 125) (Closes true) t4 (omega arith, (λ e. absurd (cc)))
    (either xs (nat_eq b 44) Comma t5 (omega arith, (λ e. absurd (cc)))
    (either xs (nat_eq b 58) (Point (is_unsafe true xs)) t6 (omega arith, (λ e. absurd (cc)))
    (either xs (nat_eq b 33) (tag_token true xs) (other_token b) (tag_sized true xs) (other_sized b xs))))))))

pub token_not_end : (flow : Bool) (xs : List ℕ) → token_of flow xs ≡ End → ⊥
token_not_end flow [] e = absurd (cc)
token_not_end flow (b ∷ xs) e = (token_sized flow b xs).1 e

return_none : (flow : Bool) (b : ℕ) (xs : List ℕ) → nat_eq b 13 ≡ true → token_len (token_of flow (b ∷ xs)) ≡ 0
return_none flow b xs h = ap (λ b. token_len (token_of flow (b ∷ xs))) (is_byte b 13 h) ∙ by_flow flow where
  by_flow : (flow : Bool) → token_len (token_of flow (13 ∷ xs)) ≡ 0
  by_flow true = refl
  by_flow false = refl

token_short : (flow : Bool) (k : ℕ) (xs : List ℕ) → IsReturn k xs → token_len (token_of flow xs) ≤ k
token_short flow k [] r = absurd (none_empty k r)
token_short flow zero (b ∷ xs) r = let e = return_none flow b xs r in omega (arith, e)
token_short flow (suc k) (b ∷ xs) r = let z = (token_sized flow b xs).0 in let l = lead_short is_name k xs refl r in omega (arith, z, l)

token_fits : (flow : Bool) (xs : List ℕ) → token_len (token_of flow xs) ≤ length xs
token_fits flow [] = omega arith
token_fits flow (b ∷ xs) = let z = (token_sized flow b xs).0 in let l = lead_le is_name xs in omega (arith, z, l)

-- ---- lines

-- a line that is passed over has none
passed_none : (fresh : Bool) (xs : List ℕ) (k : ℕ) → is_passed fresh xs ≡ true → IsReturn k xs → ⊥
passed_none fresh xs k h r = by_tests (is_blank xs) (fresh || nat_lt 0 (lead is_white xs)) (begins_with 35 (past_white xs)) (returns xs) refl refl h where
  found : (k : ℕ) (xs : List ℕ) → IsReturn k xs → returns xs ≡ false → ⊥
  found k [] r e = none_empty k r
  found zero (b ∷ xs) r e = true≢false (sym (ap (λ q. q || returns xs) r) ∙ e)
  found (suc k) (b ∷ xs) r e = by_byte (nat_eq b 13) e (λ g. found k xs r g) where
    by_byte : (q : Bool) → (q || returns xs) ≡ false → (returns xs ≡ false → ⊥) → ⊥
    by_byte true g f = true≢false g
    by_byte false g f = f g

  by_tests : (p q s t : Bool) → is_blank xs ≡ p → returns xs ≡ t → (p || (q && (s && not t))) ≡ true → ⊥
  by_tests true q s t e i g = blank_none xs k e r
  by_tests false true true true e i g = absurd (true≢false (sym g))
  by_tests false true true false e i g = found k xs r i
  by_tests false true false t e i g = absurd (true≢false (sym g))
  by_tests false false s t e i g = absurd (true≢false (sym g))

mark_bytes : (xs : List ℕ) → is_mark xs ≡ true → (3 ≤ length xs) × ((k : ℕ) → IsReturn k xs → 3 ≤ k)
mark_bytes [] h = absurd (true≢false (sym h))
mark_bytes (a ∷ []) h = absurd (true≢false (sym h))
mark_bytes (a ∷ b ∷ []) h = absurd (true≢false (sym h))
mark_bytes (a ∷ b ∷ c ∷ xs) h = (omega arith, by_place) where
  parts : (p q r s t : Bool) → ((p || q) && (r && (s && t))) ≡ true → ((p || q) ≡ true) × (r ≡ true) × (s ≡ true)
  parts true q true true t e = (refl, refl, refl)
  parts true q true false t e = absurd (true≢false (sym e))
  parts true q false s t e = absurd (true≢false (sym e))
  parts false true true true t e = (refl, refl, refl)
  parts false true true false t e = absurd (true≢false (sym e))
  parts false true false s t e = absurd (true≢false (sym e))
  parts false false r s t e = absurd (true≢false (sym e))

  is : ((nat_eq a 45 || nat_eq a 46) ≡ true) × (nat_eq a b ≡ true) × (nat_eq a c ≡ true)
  is = parts (nat_eq a 45) (nat_eq a 46) (nat_eq a b) (nat_eq a c) (is_end xs) h

  first : nat_eq a 13 ≡ true → ⊥
  first r = by_byte (nat_eq a 45) (nat_eq a 46) (ap (λ k. nat_eq k 45) (is_byte a 13 r)) (ap (λ k. nat_eq k 46) (is_byte a 13 r)) is.0 where
    by_byte : (p q : Bool) → p ≡ false → q ≡ false → (p || q) ≡ true → ⊥
    by_byte true q e g i = true≢false e
    by_byte false true e g i = true≢false g
    by_byte false false e g i = true≢false (sym i)

  by_place : (k : ℕ) → IsReturn k (a ∷ b ∷ c ∷ xs) → 3 ≤ k
  by_place zero r = absurd (first r)
  by_place (suc zero) r = absurd (first (ap (λ k. nat_eq k 13) (is_byte a b is.1) ∙ r))
  by_place (suc (suc zero)) r = absurd (first (ap (λ k. nat_eq k 13) (is_byte a c is.2) ∙ r))
  by_place (suc (suc (suc k))) r = omega arith

module _ (c : ℕ) where
  -- what is ahead begins and ends before a place, and is not the text's end
  abbrev By : Ahead → Type 0
  By a = (a.at ≤ c) × (a.behind ≤ c) × (a.token ≡ End → ⊥)

  mark_by : (l : Line) (ls : List Line) → is_mark l.bytes ≡ true → HasReturn c (l ∷ ls) → By (token_at (mark_of l.bytes) true 0 l.at)
  mark_by l ls m h = by_first (begins_with 45 l.bytes) where
    three : l.at + 3 ≤ c
    three = by_line h where
      by_line : HasReturn c (l ∷ ls) → l.at + 3 ≤ c
      by_line (inl (k, p, r)) = let z = (mark_bytes l.bytes m).1 k r in omega (arith, p, z)
      by_line (inr (p, r)) = let z = (mark_bytes l.bytes m).0 in omega (arith, p, z)

    by_first : (q : Bool) → By (token_at (cond q Dashes Dots) true 0 l.at)
    by_first true = (line_before c l ls h, three, (λ e. absurd (cc)))
    by_first false = (line_before c l ls h, three, (λ e. absurd (cc)))

  content_by : (flow fresh : Bool) (l : Line) (ls : List Line) → HasReturn c (l ∷ ls) → By (token_at (token_of flow (past_white l.bytes)) fresh (lead is_white l.bytes) (l.at + lead is_white l.bytes))
  content_by flow fresh l ls (inl (k, p, r)) =
      let o = lead_short is_white k l.bytes refl r in
      let z = token_short flow (k - lead is_white l.bytes) (past_white l.bytes) (further_return (lead is_white l.bytes) k l.bytes o r) in
      (omega (arith, p, o), omega (arith, p, o, z), token_not_end flow (past_white l.bytes))
  content_by flow fresh l ls (inr (p, r)) =
      let o = lead_le is_white l.bytes in
      let z = token_fits flow (past_white l.bytes) in
      (omega (arith, p, o), omega (arith, p, o, z, length-drop (lead is_white l.bytes) l.bytes), token_not_end flow (past_white l.bytes))

  tab_by : (l : Line) (ls : List Line) → HasReturn c (l ∷ ls) → By (token_at (tab_token (past_white l.bytes)) true (indent l.bytes) (l.at + indent l.bytes))
  tab_by l ls h = by_first (begins_with 35 (past_white l.bytes) || begins_with 13 (past_white l.bytes)) where
    near : l.at + indent l.bytes ≤ c
    near = by_line h where
      by_line : HasReturn c (l ∷ ls) → l.at + indent l.bytes ≤ c
      by_line (inl (k, p, r)) = let o = lead_short is_space k l.bytes refl r in omega (arith, p, o)
      by_line (inr (p, r)) = let o = lead_le is_space l.bytes in omega (arith, p, o)

    by_first : (q : Bool) → By (token_at (cond q Stray Tabbed) true (indent l.bytes) (l.at + indent l.bytes))
    by_first true = let z = near in (z, omega (arith, z), (λ e. absurd (cc)))
    by_first false = let z = near in (z, omega (arith, z), (λ e. absurd (cc)))

  line_by : (flow : Bool) (size : ℕ) (ls : List Line) → HasReturn c ls → By (line_ahead flow size ls)
  line_by flow size [] h = absurd h
  line_by flow size (l ∷ ls) h = by_tests (is_mark l.bytes) (is_passed true l.bytes) refl refl (λ g. line_by flow size ls g) where
    by_tab : (q : Bool) → By (cond q (token_at (tab_token (past_white l.bytes)) true (indent l.bytes) (l.at + indent l.bytes)) (token_at (token_of flow (past_white l.bytes)) true (lead is_white l.bytes) (l.at + lead is_white l.bytes)))
    by_tab true = tab_by l ls h
    by_tab false = content_by flow true l ls h

    by_tests : (q r : Bool) → is_mark l.bytes ≡ q → is_passed true l.bytes ≡ r → (HasReturn c ls → By (line_ahead flow size ls)) → By (cond q (token_at (mark_of l.bytes) true 0 l.at) (cond r (line_ahead flow size ls) (content_ahead flow l.at l.bytes)))
    by_tests true r e g f = mark_by l ls e h
    by_tests false true e g f = f (past_line c l ls h (λ k i. passed_none true l.bytes k g i))
    by_tests false false e g f = by_tab (is_tabbed flow l.bytes)

  rest_by : (flow : Bool) (size : ℕ) (ls : List Line) → HasReturn c ls → By (rest_ahead flow size ls)
  rest_by flow size [] h = absurd h
  rest_by flow size (l ∷ ls) h = by_test (is_passed false l.bytes) refl where
    by_test : (r : Bool) → is_passed false l.bytes ≡ r → By (cond r (line_ahead flow size ls) (token_at (token_of flow (past_white l.bytes)) false (lead is_white l.bytes) (l.at + lead is_white l.bytes)))
    by_test true g = line_by flow size ls (past_line c l ls h (λ k i. passed_none false l.bytes k g i))
    by_test false g = content_by flow false l ls h

-- ---- nodes

to_same : (i j : ℕ) → To i ≡ To j → i ≡ j
to_same i j e = cc

module _ (text : List ℕ) (c : ℕ) (here : IsReturn c text) (lone : begins_with 10 (drop (suc c) text) ≡ false) where
  ahead_by : (flow : Bool) (i : ℕ) → i ≤ c → By c (ahead text flow i)
  ahead_by flow i l = by_column (is_first_column text i) where
    ls : HasReturn c (lines i (drop i text))
    ls =
        let place : i + (c - i) ≡ c = omega (arith, l) in
        let next : i + suc (c - i) ≡ suc c = omega (arith, l) in
        subst (λ k. HasReturn k (lines i (drop i text))) place (has_return i (drop i text) (c - i) (further_return i c text l here) (ap (begins_with 10) (drop-drop (suc (c - i)) i text ∙ ap (λ k. drop k text) next) ∙ lone))

    by_column : (q : Bool) → By c (cond q (line_ahead flow (length text) (lines i (drop i text))) (rest_ahead flow (length text) (lines i (drop i text))))
    by_column true = line_by c flow (length text) (lines i (drop i text)) ls
    by_column false = rest_by c flow (length text) (lines i (drop i text)) ls

  stands_by : (s : Setting) (a : Ahead) (t : List ℕ) (e : ℕ) → a.at ≤ c → scalar_ahead text s a ≡ Stands t e → e ≤ c
  stands_by s a t e l h = by_start (starts_scalar a.token) h where
    by_start : (q : Bool) → cond q (scalar_at s text a.at) (Fails a.at) ≡ Stands t e → e ≤ c
    by_start true g = stands_before c (scalar_at s text a.at) t e (scalar_before s text a.at c l here lone) g
    by_start false g = absurd (cc)

  -- what a collection holds ends before the place, if it begins there
  abbrev AreBefore : Contents → Type 0
  AreBefore holds = (f : Form) (d : ℕ) (first : Bool) (before : Forest) (i j : ℕ) → i ≤ c → holds f d first before i (To j) → j ≤ c

  missing : (key : Option (List ℕ)) (l : Label) (kids : Forest) (i j : ℕ) → i ≤ c → IsMissing key l kids i (To j) → j ≤ c
  missing key l kids i j o (label, none, ends) = let e = to_same j i ends in omega (arith, o, e)

  value : (cut : Bool) (d : ℕ) (k : Kind) (t : List ℕ) (key : Option (List ℕ)) (at j : ℕ) (l : Label) (kids : Forest) (end : ℕ) → j ≤ c → IsValue cut d k t key at j l kids (To end) → end ≤ c
  value false d k t key at j l kids end o (label, none, ends) = let e = to_same end j ends in omega (arith, o, e)
  value true d k t key at j l kids end o (inl (room, label, parts, ends)) = let e = to_same end j ends in omega (arith, o, e)
  value true d k t key at j l kids end o (inr (deep, ends)) = absurd (cc)

  scalar : (s : Setting) (cuts : Bool) (d : ℕ) (a : Ahead) (key : Option (List ℕ)) (l : Label) (kids : Forest) (end : ℕ) → a.at ≤ c → IsScalar text s cuts d a key l kids (To end) → end ≤ c
  scalar s cuts d a key l kids end o (inl (t, k, j, stands, typed, is)) = value _ d k t key a.at j l kids end (stands_by s a t j o stands) is
  scalar s cuts d a key l kids end o (inr (p, shown, ends)) = absurd (cc)

  within : (holds : Contents) → AreBefore holds → (f : Form) (e i : ℕ) (begins : Type 0) (d : ℕ) (map : Bool) (at : ℕ) (key : Option (List ℕ)) (l : Label) (end : ℕ) → i ≤ c → Within (holds f e true Nil i) begins d map at key l (To end) → end ≤ c
  within holds good f e i begins d map at key l end o (inl (room, label, held)) = good f e true Nil i end o held
  within holds good f e i begins d map at key l end o (inr (begun, deep, ends)) = absurd (cc)

  bracket : (holds : Contents) → AreBefore holds → (d : ℕ) (a : Ahead) (key : Option (List ℕ)) (l : Label) (end : ℕ) → a.behind ≤ c → IsCollection holds d a key l (To end) → end ≤ c
  bracket holds good d a key l end o (map, opens, held) = within holds good _ _ _ _ d map a.at key l end o held

  block : (holds : Contents) (kids : Forest) → AreBefore holds → (f : Form) (d : ℕ) (key : Option (List ℕ)) (l : Label) (i end : ℕ) → i ≤ c → IsBlockNode text holds f d key l kids i (To end) → end ≤ c
  block holds kids good f d key l i end o (inl (takes, inl is)) = scalar _ _ d (ahead text false i) key l kids end (ahead_by false i o).0 is
  block holds kids good f d key l i end o (inl (takes, inr is)) = bracket holds good d (ahead text false i) key l end (ahead_by false i o).1 is
  block holds kids good f d key l i end o (inr (inl (takes, held))) = within holds good _ _ _ _ d false _ key l end o held
  block holds kids good f d key l i end o (inr (inr (inl (takes, held)))) = within holds good _ _ _ _ d true _ key l end o held
  block holds kids good f d key l i end o (inr (inr (inr (inl (len, is, takes, held))))) = within holds good _ _ _ _ d true _ key l end (ahead_by false i o).1 held
  block holds kids good f d key l i end o (inr (inr (inr (inr (s, shown, ends))))) = absurd (cc)

  flow : (holds : Contents) (kids : Forest) → AreBefore holds → (f : Form) (d : ℕ) (key : Option (List ℕ)) (l : Label) (i end : ℕ) → i ≤ c → IsFlowNode text f holds d key l kids i (To end) → end ≤ c
  flow holds kids good f d key l i end o (inl (may, is)) = missing key l kids i end o is
  flow holds kids good f d key l i end o (inr (inl is)) = scalar _ _ d (ahead text true i) key l kids end (ahead_by true i o).0 is
  flow holds kids good f d key l i end o (inr (inr (inl is))) = bracket holds good d (ahead text true i) key l end (ahead_by true i o).1 is
  flow holds kids good f d key l i end o (inr (inr (inr (inl (len, is, may, held))))) = within holds good _ _ _ _ d true _ key l end (ahead_by true i o).1 held
  flow holds kids good f d key l i end o (inr (inr (inr (inr (s, shown, ends))))) = absurd (cc)

  behind : (holds : Contents) (kids : Forest) → AreBefore holds → (f : Form) (d : ℕ) (key : Option (List ℕ)) (l : Label) (i end : ℕ) → i ≤ c → IsMissing key l kids i (To end) ⊎ IsBlockNode text holds f d key l kids i (To end) → end ≤ c
  behind holds kids good f d key l i end o (inl is) = missing key l kids i end o is
  behind holds kids good f d key l i end o (inr is) = block holds kids good f d key l i end o is

  node : (holds : Contents) (kids : Forest) → AreBefore holds → (f : Form) (d : ℕ) (key : Option (List ℕ)) (l : Label) (i end : ℕ) → i ≤ c → IsNode text holds f d key l kids i (To end) → end ≤ c
  node holds kids good Root d key l i end o is = block holds kids good Root d key l i end o is
  node holds kids good (Flow map) d key l i end o is = flow holds kids good (Flow map) d key l i end o is
  node holds kids good (FlowTagged at) d key l i end o is = flow holds kids good (FlowTagged at) d key l i end o is
  node holds kids good (Items m) d key l i end o is = behind holds kids good (Items m) d key l i end o is
  node holds kids good (Entries m) d key l i end o is = behind holds kids good (Entries m) d key l i end o is
  node holds kids good (Tagged at above shares) d key l i end o is = behind holds kids good (Tagged at above shares) d key l i end o is

  comes : (first : Bool) (i p : ℕ) → i ≤ c → Comes text first i p → p ≤ c
  comes true i p o e = omega (arith, o, e)
  comes false i p o (token, e) = let z = (ahead_by true i o).1 in omega (arith, z, e)

  colon : (quoted : Bool) (e p : ℕ) → e ≤ c → IsColon text quoted e p → p ≤ c
  colon quoted e p o (inl (loose, token, may, g)) = let z = (ahead_by true e o).1 in omega (arith, z, g)
  colon quoted e p o (inr (ends, g)) = omega (arith, o, g)

  headed : (f : Form) (first : Bool) (before : Forest) (i : ℕ) (key : Option (List ℕ)) (p : ℕ) → i ≤ c → IsHead text f first before i key p → p ≤ c
  headed Root first before i key p o h = absurd h
  headed (Flow false) first before i key p o (none, at) = comes first i p o at
  headed (Flow true) first before i key p o (k, e, t, at, stands, new, is, point) = let z = comes first i k o at in colon _ e p (stands_by (as_key true) (ahead text true k) t e (ahead_by true k z).0 stands) point
  headed (FlowTagged at) first before i key p o (one, is, e) = omega (arith, o, e)
  headed (Items m) first before i key p o (dash, aligned, none, e) = let z = (ahead_by false i o).1 in omega (arith, z, e)
  headed (Entries m) first before i key p o (t, (e, stands, stale, point, g), aligned, new, is) =
      let l = stands_by (as_key false) (ahead text false i) t e (ahead_by false i o).0 stands in let z = (ahead_by false e l).1 in omega (arith, z, g)
  headed (Tagged at above shares) first before i key p o (one, is, e) = omega (arith, o, e)

  tailed : (f : Form) (first : Bool) (before : Forest) (i j : ℕ) → i ≤ c → IsTail text f first before i (To j) → j ≤ c
  tailed Root first before i j o h = absurd h
  tailed (Flow map) first before i j o (inl (e, (k, at, token, g), ends)) = let z = by_comma at in let w = (ahead_by true k z).1 in let u = to_same j e ends in omega (arith, w, g, u) where
    by_comma : Comes text first i k ⊎ (k ≡ i) → k ≤ c
    by_comma (inl h) = comes first i k o h
    by_comma (inr h) = omega (arith, o, h)
  tailed (Flow map) first before i j o (inr (s, shown, ends)) = absurd (cc)
  tailed (FlowTagged at) first before i j o (some, ends) = let e = to_same j i ends in omega (arith, o, e)
  tailed (Items m) first before i j o (some, ends) = let e = to_same j i ends in omega (arith, o, e)
  tailed (Entries m) first before i j o (some, inl ends) = let e = to_same j i ends in omega (arith, o, e)
  tailed (Entries m) first before i j o (some, inr (s, shown, ends)) = absurd (cc)
  tailed (Tagged at above shares) first before i j o (some, ends) = let e = to_same j i ends in omega (arith, o, e)

  spelled : (tree : Forest) → AreBefore (Spells text tree)
  spelled Nil f d first before i j o is = tailed f first before i j o is
  spelled (Node l kids rest) f d first before i j o (key, p, To q, head, is, goes) = spelled rest f d false (snoc before l kids) q j (node (Spells text kids) kids (spelled kids) f d key l p q (headed f first before i key p o head) is) goes
  spelled (Node l kids rest) f d first before i j o (key, p, Shows s, head, is, (last, ends)) = absurd (cc)

  root : (l : Label) (kids : Forest) (i j : ℕ) → i ≤ c → IsRoot text l kids i (To j) → j ≤ c
  root l kids i j o (inl (label, none, ends)) = let e = to_same j i ends in omega (arith, o, e)
  root l kids i j o (inr is) = node (Spells text kids) kids (spelled kids) Root 0 _ l i j o is

  -- ---- the whole text

  order_mark : (xs : List ℕ) (k : ℕ) → IsReturn k xs → begins_order_mark xs ≡ true → 3 ≤ k
  order_mark [] k r h = absurd (none_empty k r)
  order_mark (a ∷ []) k r h = absurd (true≢false (sym h))
  order_mark (a ∷ b ∷ []) k r h = absurd (true≢false (sym h))
  order_mark (a ∷ b ∷ d ∷ xs) k r h = by_place k r where
    parts : (p q s : Bool) → (p && (q && s)) ≡ true → (p ≡ true) × (q ≡ true) × (s ≡ true)
    parts true true true e = (refl, refl, refl)
    parts true true false e = absurd (true≢false (sym e))
    parts true false s e = absurd (true≢false (sym e))
    parts false q s e = absurd (true≢false (sym e))

    is : (nat_eq a 239 ≡ true) × (nat_eq b 187 ≡ true) × (nat_eq d 191 ≡ true)
    is = parts (nat_eq a 239) (nat_eq b 187) (nat_eq d 191) h

    by_place : (k : ℕ) → IsReturn k (a ∷ b ∷ d ∷ xs) → 3 ≤ k
    by_place zero r = absurd (true≢false (sym r ∙ ap (λ k. nat_eq k 13) (is_byte a 239 is.0)))
    by_place (suc zero) r = absurd (true≢false (sym r ∙ ap (λ k. nat_eq k 13) (is_byte b 187 is.1)))
    by_place (suc (suc zero)) r = absurd (true≢false (sym r ∙ ap (λ k. nat_eq k 13) (is_byte d 191 is.2)))
    by_place (suc (suc (suc k))) r = omega arith

  start_by : text_start text ≤ c
  start_by = by_mark (begins_order_mark text) refl where
    by_mark : (q : Bool) → begins_order_mark text ≡ q → cond q 3 0 ≤ c
    by_mark true e = order_mark text c here e
    by_mark false e = omega arith

  begins_by : (i : ℕ) → IsStart text i → i ≤ c
  begins_by i (inl (token, e, fresh)) = let s = start_by in let z = (ahead_by false (text_start text) s).1 in omega (arith, z, e)
  begins_by i (inr (token, e)) = let s = start_by in omega (arith, s, e)

  pub no_document : (tree : Forest) → IsYaml text tree → ⊥
  no_document tree (l, kids, i, j, start, is, inl end, whole) = (ahead_by false j (root l kids i j (begins_by i start) is)).2 end
  no_document tree (l, kids, i, j, start, is, inr (dots, end), whole) =
      (ahead_by false (ahead text false j).behind (ahead_by false j (root l kids i j (begins_by i start) is)).1).2 end

-- ---- fronts

return_at : (front w : List ℕ) → IsReturn (length front) (front ++ (13 ∷ w))
return_at front w = ap (begins_with 13) (drop-append_seam front (13 ∷ w))

behind_return : (front w : List ℕ) → drop (suc (length front)) (front ++ (13 ∷ w)) ≡ w
behind_return [] w = refl
behind_return (x ∷ front) w = behind_return front w

-- a document that begins with bytes and a carriage return begins with them and a break
pub fed_front : (front : List ℕ) → IsFront (front ++ (13 ∷ [])) → IsFront (front ++ (13 ∷ 10 ∷ []))
fed_front front ([], tree, utf8, h) =
    let e : (front ++ (13 ∷ [])) ++ [] ≡ front ++ (13 ∷ []) = append-nil (front ++ (13 ∷ [])) in
    absurd (no_document (front ++ (13 ∷ [])) (length front) (return_at front []) (ap (begins_with 10) (behind_return front [])) tree (subst (λ t. IsYaml t tree) e h))
fed_front front (x ∷ more, tree, utf8, h) = by_byte (nat_eq x 10) refl where
  whole : (front ++ (13 ∷ [])) ++ (x ∷ more) ≡ front ++ (13 ∷ x ∷ more)
  whole = append_assoc front (13 ∷ []) (x ∷ more)

  by_byte : (q : Bool) → nat_eq x 10 ≡ q → IsFront (front ++ (13 ∷ 10 ∷ []))
  by_byte true e =
      let is : front ++ (13 ∷ x ∷ more) ≡ (front ++ (13 ∷ 10 ∷ [])) ++ more = ap (λ b. front ++ (13 ∷ b ∷ more)) (is_byte x 10 e) ∙ sym (append_assoc front (13 ∷ 10 ∷ []) more) in
      (more, tree, subst IsUtf8 (whole ∙ is) utf8, subst (λ t. IsYaml t tree) (whole ∙ is) h)
  by_byte false e = absurd (no_document (front ++ (13 ∷ x ∷ more)) (length front) (return_at front (x ∷ more)) (ap (begins_with 10) (behind_return front (x ∷ more)) ∙ e) tree (subst (λ t. IsYaml t tree) whole h))

-- so where none begins with the break, the carriage return is dead
pub return_dead : (front : List ℕ) → (IsFront (front ++ (13 ∷ 10 ∷ [])) → ⊥) → IsDead (front ++ (13 ∷ [])) (length front)
return_dead front none = (front, [], 13, refl, refl, (λ h. none (fed_front front h)))
