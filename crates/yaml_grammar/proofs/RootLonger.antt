-- A colon or a `!` with which the root begins tells by itself where the root begins. By the first byte of what is ahead.
use Rattle.std.proofs.Common.{◌≡◌, ℕ, ◌+◌, ◌<◌, ◌≤◌, ◌⊎◌, inl, inr, Bool, true, false, ◌||◌, ◌&&◌, cond, nat_eq, arith, List, [], ◌∷◌, drop, length, refl, sym, ap, ◌∙◌, subst, true≢false}
use Rattle.std.proofs.lemmas.Bool.{cases_lt}
use Rattle.std.proofs.lemmas.Bool.Decides.{nat_tests}
use Rattle.std.proofs.lemmas.List.{drop-drop}
use Rattle.std.specs.Str.{IsCharBoundary, IsUtf8}
use Rattle.doc_values.specs.Unfinished.{Unfinished, start}
use Rattle.yaml_scalars.specs.Lines.{begins_with, is_end, is_mark}
use Rattle.yaml_scalars.specs.Scalar.{begins_order_mark}
use Rattle.yaml_scalars.specs.code.Walk.{line_at}
use Rattle.yaml_laws.specs.code.Agreement.{AgreesTo}
use Rattle.yaml_laws.proofs.AgreeLess.{agrees_less}
use Rattle.yaml_grammar.specs.declared.ahead.Ahead.{Ahead}
use Rattle.yaml_grammar.specs.declared.ahead.Token.{Token}
use Rattle.yaml_grammar.specs.declared.ahead.Token.TheVariants.{End, Dashes, Dots, Dash, Tag, NoTag, Opens, Closes, Comma, Point, Anchor, Percent, Tabbed, Stray, Other}
use Rattle.yaml_grammar.specs.declared.stage.Stage.TheVariants as stage
use Rattle.yaml_grammar.specs.declared.stage.Position.{Position}
use Rattle.yaml_grammar.specs.Ahead.{token_len, token_of, ahead}
use Rattle.yaml_grammar.specs.Nodes.{is_marked}
use Rattle.yaml_grammar.specs.Signs.{Tree}
use Rattle.yaml_grammar.specs.Yaml.{IsStart, IsYaml, text_start}
use Rattle.yaml_grammar.specs.code.AheadSeen.{ahead_seen, is_told}
use Rattle.yaml_grammar.specs.code.Extends.{begins_firm, root_seen}
use Rattle.yaml_grammar.specs.code.Rest.{Begins}
use Rattle.yaml_grammar.specs.code.Steps.{is_ending}
use Rattle.yaml_grammar.specs.code.StopPlaces.{is_stray}
use Rattle.yaml_grammar.specs.code.Twins.{IsTwin, Alive}
use Rattle.yaml_grammar.proofs.AheadOrder.{line_rest, mark_parts, mark_there, seen_from}
use Rattle.yaml_grammar.proofs.FirstDead.{IsFirst, first_same}
use Rattle.yaml_grammar.proofs.FirstTokens.{first_plain, first_told}
use Rattle.yaml_grammar.proofs.Forms.{apart_root}
use Rattle.yaml_grammar.proofs.Lives.{alive_at, yaml_begins}
use Rattle.yaml_grammar.proofs.Placed.{placed}
use Rattle.yaml_grammar.proofs.Roots.{begins_node, node_begins, begins_comes}
use Rattle.yaml_grammar.proofs.Twins.{twin_cut, twin_ahead}

pub root_least : (text : List ℕ) (i : ℕ) → root_seen text i ≤ ahead_seen text i
root_least text i = by_firm (is_told (ahead text false i).token && begins_firm (drop (ahead text false i).at text)) where
  by_firm : (q : Bool) → cond q (ahead text false i).at (ahead_seen text i) ≤ ahead_seen text i
  by_firm true = seen_from text false i
  by_firm false = omega arith

pub told_calm : (t : Token) → is_told t ≡ true → (is_ending t ≡ false) × (is_stray t ≡ false)
told_calm End h = absurd (true≢false (sym h))
told_calm Dashes h = absurd (true≢false (sym h))
told_calm Dots h = absurd (true≢false (sym h))
told_calm Tabbed h = absurd (true≢false (sym h))
told_calm Stray h = absurd (true≢false (sym h))
told_calm Dash h = (refl, refl)
told_calm (Tag n) h = (refl, refl)
told_calm NoTag h = (refl, refl)
told_calm (Opens q) h = (refl, refl)
told_calm (Closes q) h = (refl, refl)
told_calm Comma h = (refl, refl)
told_calm (Point q) h = (refl, refl)
told_calm Anchor h = (refl, refl)
told_calm Percent h = (refl, refl)
told_calm Other h = (refl, refl)

-- ---- such a byte

-- is one of the two
firm_bytes : (xs : List ℕ) → begins_firm xs ≡ true → (b : ℕ) × (rest : List ℕ) × (xs ≡ b ∷ rest) × ((b ≡ 58) ⊎ (b ≡ 33))
firm_bytes [] h = absurd (true≢false (sym h))
firm_bytes (x ∷ xs) h = by_tests (nat_eq x 58) (nat_eq x 33) refl refl h where
  by_tests : (p q : Bool) → nat_eq x 58 ≡ p → nat_eq x 33 ≡ q → (p || q) ≡ true → (b : ℕ) × (rest : List ℕ) × (x ∷ xs ≡ b ∷ rest) × ((b ≡ 58) ⊎ (b ≡ 33))
  by_tests true q i j h = (x, xs, refl, inl (grind (arith, nat_tests, i)))
  by_tests false true i j h = (x, xs, refl, inr (grind (arith, nat_tests, j)))
  by_tests false false i j h = absurd (true≢false (sym h))

firm_byte : (b : ℕ) (xs : List ℕ) → (b ≡ 58) ⊎ (b ≡ 33) → begins_firm (b ∷ xs) ≡ true
firm_byte b xs (inl e) = ap (λ d. begins_firm (d ∷ xs)) e
firm_byte b xs (inr e) = ap (λ d. begins_firm (d ∷ xs)) e

-- begins no mark, and ends no line
unmarked_line : (b : ℕ) (zs : List ℕ) → (nat_eq b 45 || nat_eq b 46) ≡ false → is_mark (b ∷ zs) ≡ false
unmarked_line b [] n = refl
unmarked_line b (c ∷ []) n = refl
unmarked_line b (c ∷ d ∷ zs) n = ap (λ q. q && (nat_eq b c && (nat_eq b d && is_end zs))) n

firm_line : (xs : List ℕ) → begins_firm xs ≡ true → (is_mark (line_at xs) ≡ false) × (is_end (line_at xs) ≡ false)
firm_line xs h = by_bytes (firm_bytes xs h) where
  colon : (rest : List ℕ) → (is_mark (line_at (58 ∷ rest)) ≡ false) × (is_end (line_at (58 ∷ rest)) ≡ false)
  colon rest = (unmarked_line 58 (line_at rest) refl, refl)

  exclaim : (rest : List ℕ) → (is_mark (line_at (33 ∷ rest)) ≡ false) × (is_end (line_at (33 ∷ rest)) ≡ false)
  exclaim rest = (unmarked_line 33 (line_at rest) refl, refl)

  by_bytes : (b : ℕ) × (rest : List ℕ) × (xs ≡ b ∷ rest) × ((b ≡ 58) ⊎ (b ≡ 33)) → (is_mark (line_at xs) ≡ false) × (is_end (line_at xs) ≡ false)
  by_bytes (b, rest, e, inl k) = let z = e ∙ ap (λ d. d ∷ rest) k in let c = colon rest in (ap (λ t. is_mark (line_at t)) z ∙ c.0, ap (λ t. is_end (line_at t)) z ∙ c.1)
  by_bytes (b, rest, e, inr k) = let z = e ∙ ap (λ d. d ∷ rest) k in let c = exclaim rest in (ap (λ t. is_mark (line_at t)) z ∙ c.0, ap (λ t. is_end (line_at t)) z ∙ c.1)

mark_len : (t : Token) → is_marked t ≡ true → token_len t ≡ 3
mark_len Dashes h = refl
mark_len Dots h = refl
mark_len End h = absurd (true≢false (sym h))
mark_len Dash h = absurd (true≢false (sym h))
mark_len (Tag n) h = absurd (true≢false (sym h))
mark_len NoTag h = absurd (true≢false (sym h))
mark_len (Opens q) h = absurd (true≢false (sym h))
mark_len (Closes q) h = absurd (true≢false (sym h))
mark_len Comma h = absurd (true≢false (sym h))
mark_len (Point q) h = absurd (true≢false (sym h))
mark_len Anchor h = absurd (true≢false (sym h))
mark_len Percent h = absurd (true≢false (sym h))
mark_len Tabbed h = absurd (true≢false (sym h))
mark_len Stray h = absurd (true≢false (sym h))
mark_len Other h = absurd (true≢false (sym h))

-- no mark is ahead there
firm_unmarked : (text : List ℕ) (i : ℕ) → IsUtf8 text → IsCharBoundary text i → begins_firm (drop (ahead text false i).at text) ≡ true → is_marked (ahead text false i).token ≡ true → ⊥
firm_unmarked text i utf8 cut firm k =
    let (at, m, stop, seen) = mark_there text false i k in
    let w = (placed text false i utf8 cut).3 in
    let l = mark_len (ahead text false i).token k in
    let same : at ≡ (ahead text false i).at = omega (arith, w, l, stop) in
    true≢false (sym m ∙ ap (λ n. is_mark (line_at (drop n text))) same ∙ (firm_line (drop (ahead text false i).at text) firm).0)

start_within : (text : List ℕ) → text_start text ≤ length text
start_within text = by_mark (begins_order_mark text) refl where
  long : (xs : List ℕ) → begins_order_mark xs ≡ true → 3 ≤ length xs
  long [] h = absurd (true≢false (sym h))
  long (a ∷ []) h = absurd (true≢false (sym h))
  long (a ∷ b ∷ []) h = absurd (true≢false (sym h))
  long (a ∷ b ∷ c ∷ xs) h = omega arith

  by_mark : (q : Bool) → begins_order_mark text ≡ q → cond q 3 0 ≤ length text
  by_mark true e = long text e
  by_mark false e = omega arith

-- ---- the root

module _ (text : List ℕ) (place : ℕ) (other : List ℕ) (m : IsTwin text place other) (utf8 : IsUtf8 text) (i : ℕ) (cut : IsCharBoundary text i) (told : is_told (ahead text false i).token ≡ true) (firm : begins_firm (drop (ahead text false i).at text) ≡ true) (near : (ahead text false i).at ≤ place) where
  low : i ≤ (ahead text false i).at
  low = (placed text false i utf8 cut).0

  agrees : AgreesTo (ahead text false i).at text other
  agrees = by_order (cases_lt (ahead text false i).at place) where
    by_order : ((ahead text false i).at < place) ⊎ (place ≤ (ahead text false i).at) → AgreesTo (ahead text false i).at text other
    by_order (inl l) = (agrees_less (ahead text false i).at place text other l m.agrees).0
    by_order (inr l) = let e : place ≡ (ahead text false i).at = omega (arith, l, near) in subst (λ n. AgreesTo n text other) e m.agrees

  first : IsFirst text other false i
  first = first_same text other false i low told agrees

  there : IsCharBoundary other i
  there = twin_cut text place other m i (let l = low in omega (arith, l, near)) cut

  firm_other : begins_firm (drop (ahead other false i).at other) ≡ true
  firm_other = by_bytes (firm_bytes (drop (ahead text false i).at text) firm) (drop (ahead other false i).at other) first.there where
    byte_is : (b c : ℕ) (xs rest : List ℕ) → begins_with b xs ≡ true → xs ≡ c ∷ rest → b ≡ c
    byte_is b c [] rest h e = absurd (true≢false (sym h))
    byte_is b c (x ∷ xs) rest h e = let y : x ≡ c = head_same x c xs rest e in let z : x ≡ b = grind (arith, nat_tests, h) in sym z ∙ y where
      head_same : (x c : ℕ) (us vs : List ℕ) → x ∷ us ≡ c ∷ vs → x ≡ c
      head_same x c us vs e = cc

    by_bytes : (b : ℕ) × (rest : List ℕ) × (drop (ahead text false i).at text ≡ b ∷ rest) × ((b ≡ 58) ⊎ (b ≡ 33)) → (ys : List ℕ) → begins_with first.byte ys ≡ true → begins_firm ys ≡ true
    by_bytes (b, rest, e, k) [] h = absurd (true≢false (sym h))
    by_bytes (b, rest, e, k) (y ∷ ys) h =
        let same : first.byte ≡ b = byte_is first.byte b (drop (ahead text false i).at text) rest first.here e in
        let z : y ≡ first.byte = grind (arith, nat_tests, h) in
        ap (λ d. begins_firm (d ∷ ys)) (z ∙ same) ∙ firm_byte b ys k

  unmarked_other : is_marked (ahead other false i).token ≡ true → ⊥
  unmarked_other = firm_unmarked other i m.utf8 there firm_other

  -- so the document goes on there
  pub firm_going : is_ending (ahead other false i).token ≡ false
  firm_going = by_same first.same where
    plain : (first.byte ≡ 13 → ⊥) × (first.byte ≡ 35 → ⊥)
    plain = first_plain false first.byte first.this (sym (ap is_told first.token) ∙ told)

    by_same : ((ahead other false i).token ≡ token_of false (first.byte ∷ first.that)) ⊎ (is_marked (ahead other false i).token ≡ true) → is_ending (ahead other false i).token ≡ false
    by_same (inl s) = (told_calm (ahead other false i).token (ap is_told s ∙ first_told false first.byte first.that plain.0 plain.1)).0
    by_same (inr k) = absurd (unmarked_other k)

  -- and begins there
  pub firm_start : IsStart text i → IsStart other i
  firm_start (inr (n, e)) = inr ((λ d. unmarked_other (ap is_marked (ap (λ k. (ahead other false k).token) (e ∙ same_start) ∙ d))), e ∙ same_start) where
    same_start : text_start text ≡ text_start other
    same_start = sym (ap (λ q. cond q 3 0) m.marks)
  firm_start (inl (d, e, f)) =
      let (at, mark, stop, seen) = mark_there text false (text_start text) (ap is_marked d) in
      let parts = mark_parts (line_at (drop at text)) mark in
      let rest : line_at (drop (at + 3) text) ≡ drop 3 (line_at (drop at text)) = ap line_at (sym (drop-drop 3 at text)) ∙ line_rest 3 (drop at text) parts.0 in
      let ends : is_end (line_at (drop i text)) ≡ true = ap (λ n. is_end (line_at (drop n text))) (e ∙ stop) ∙ ap is_end rest ∙ parts.1 in
      let past : i < (ahead text false i).at = behind ends in
      let here : ahead other false (text_start text) ≡ ahead text false (text_start text) = twin_ahead text place other m false (text_start text) (start_within text) (omega (arith, seen, stop, e, past, near)) in
      let same : text_start other ≡ text_start text = ap (λ q. cond q 3 0) m.marks in
      let over : ahead other false (text_start other) ≡ ahead text false (text_start text) = ap (ahead other false) same ∙ here in
      inl (ap (λ (a : Ahead). a.token) over ∙ d, e ∙ ap (λ (a : Ahead). a.behind) (sym over), first.fresh ∙ f) where
        behind : is_end (line_at (drop i text)) ≡ true → i < (ahead text false i).at
        behind ends = by_order (cases_lt i (ahead text false i).at) where
          by_order : (i < (ahead text false i).at) ⊎ ((ahead text false i).at ≤ i) → i < (ahead text false i).at
          by_order (inl l) = l
          by_order (inr l) =
              let low2 = low in
              let same : (ahead text false i).at ≡ i = omega (arith, l, low2) in
              absurd (true≢false (sym ends ∙ ap (λ n. is_end (line_at (drop n text))) (sym same) ∙ (firm_line (drop (ahead text false i).at text) firm).1))

  pub firm_alive : (w : Unfinished) (p : Position) → IsStart text i → p.stage ≡ stage.Value → p.at ≡ i → w ≡ start → Alive other (IsYaml other) [] w p
  firm_alive w p s es ej ew =
      let begun = firm_start s in
      let going = firm_going in
      let a = alive_at other (λ t. Begins other i (Tree t)) w start p stage.Value i es ej ew ((λ t g. (t, begins_node other i (Tree t) going g)), (λ g h. (g, node_begins other i (Tree g) h))) ((tt, tt), apart_root, (refl, refl), tt, going) there in
      (((λ t h. a.0.0 t (yaml_begins other i t begun h)), (λ g h. let x = a.0.1 g h in (x.0, begins_comes other i (Tree x.0) begun x.1))), a.1, a.2)
