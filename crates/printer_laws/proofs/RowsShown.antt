-- The items of a body stand in a canonical text in the order in which the source has them.
use Rattle.std.proofs.Common.{◌≡◌, ℕ, zero, suc, ◌+◌, ◌<◌, ◌≤◌, Bool, true, false, if◌then◌else◌, nat_lt, List, [], ◌∷◌, ◌++◌, length, refl, sym, ap, ◌∙◌, subst, arith}
use Rattle.std.proofs.lemmas.Bool.Decides.{nat_tests}
use Rattle.guard_syntax.specs.Syntax.{Lets, Let, Disjs, Disj, Parts, no_parts, more_parts, no_lets, more_lets, assign, no_disjs, more_disjs, disj}
use Rattle.guard_syntax.specs.Sites.{upto, sites_lets, sites_disjs}
use Rattle.literal_parser.specs.Lexemes.{Lexeme}
use Rattle.literal_parser.specs.States.{State}
use Rattle.guard_parser.specs.Grammar.{ALet, APart, ARule, InRow, of_sort, body_sort, AreLets, AreDisjs, IsLet, IsDisj}
use Rattle.guard_parser.specs.Grammar as grammar
use Rattle.guard_parser.proofs.Merging.{Counted, HeadFrom, Numbered, row_numbered}
use Rattle.guard_parser.proofs.Numbered.{body_no_rules, lets_counted, parts_counted}
use Rattle.rule_printer.specs.RuleText.{merged, before_each}
use Rattle.rule_printer.specs.code.RulePieces.{Spell, let_items, let_item, disj_items, disj_item}

-- ---- one item before others

abbrev pub Above : ℕ → List (ℕ × Spell) → Type 0
Above n [] = Unit {0}
Above n (y ∷ ys) = nat_lt y.0 n ≡ false

abbrev pub Under : ℕ → List (ℕ × Spell) → Type 0
Under n [] = Unit {0}
Under n (x ∷ xs) = nat_lt n x.0 ≡ true

pub first_let : (x : ℕ × Spell) (xs ys : List (ℕ × Spell)) → Above x.0 ys → merged (x ∷ xs) ys ≡ x ∷ merged xs ys
first_let x xs [] h = refl
first_let x xs (y ∷ ys) h = ap (λ (v : Bool). if v then y ∷ before_each x (merged xs) ys else x ∷ merged xs (y ∷ ys)) h

pub first_part : (xs : List (ℕ × Spell)) (y : ℕ × Spell) (ys : List (ℕ × Spell)) → Under y.0 xs → merged xs (y ∷ ys) ≡ y ∷ merged xs ys
first_part [] y ys h = refl
first_part (x ∷ xs) y ys h = ap (λ (v : Bool). if v then y ∷ before_each x (merged xs) ys else x ∷ merged xs (y ∷ ys)) h

pub not_below : (a b : ℕ) → a ≤ b → nat_lt b a ≡ false
not_below a b e = grind (arith, nat_tests)

pub below : (a b : ℕ) → b < a → nat_lt b a ≡ true
below a b e = grind (arith, nat_tests)

pub above_disjs : (margin : List ℕ) (ds : Disjs) (n m : ℕ) → n < m → HeadFrom m (sites_disjs ds) → Above n (disj_items margin ds)
above_disjs margin no_disjs n m e h = tt
above_disjs margin (more_disjs (disj k ps) ds) n m e h = not_below n k (omega arith)

pub under_lets : (ls : Lets) (n m : ℕ) → n < m → HeadFrom m (sites_lets ls) → Under n (let_items ls)
under_lets no_lets n m e h = tt
under_lets (more_lets (assign k name e) ls) n m less h = below k n (omega arith)

-- ---- an item opens a site

grown : (n : ℕ) (xs m rest : List ℕ) (a b : State) → n ∷ xs ≡ m ++ rest → rest ≡ [] → Counted a b m → length a.places < length b.places
grown n xs m rest a b e none h = by m h.count e h.numbers h.more where
  by : (m : List ℕ) (count : ℕ) → n ∷ xs ≡ m ++ rest → m ≡ upto (length a.places) count → length b.places ≡ length a.places + count → length a.places < length b.places
  by m (suc count) e numbers more = omega arith
  by m zero e numbers more =
      let all : n ∷ xs ≡ [] = e ∙ ap (λ (z : List ℕ). z ++ rest) numbers ∙ none in
      let size = ap (λ (z : List ℕ). length z) all in absurd (omega (arith, size))

module _ (s : ℕ → Lexeme) where
  pub let_grows : (l : Let) (p : grammar.Piece) → IsLet s l p.from p.to → length p.from.places < length p.to.places
  let_grows (assign n name e) p h = let c = lets_counted s (more_lets (assign n name e) no_lets) (p ∷ []) (h, tt) in grown n _ c.0 c.1 p.from p.to c.2 c.4 c.3

  pub disj_grows : (d : Disj) (p : grammar.Piece) → IsDisj s true d p.from p.to → length p.from.places < length p.to.places
  disj_grows (disj n ps) p h = let c = parts_counted s (more_disjs (disj n ps) no_disjs) (p ∷ []) (h, tt) in grown n _ c.0 c.1 p.from p.to c.2 c.4 c.3

  heads : (ps : List grammar.Piece) (ls : Lets) (ds : Disjs) (a b : State) → InRow s body_sort ps a b → AreLets s ls (of_sort ALet ps) → AreDisjs s ds (of_sort APart ps)
      → HeadFrom (length a.places) (sites_lets ls) × HeadFrom (length a.places) (sites_disjs ds)
  heads ps ls ds a b row l d =
      let all = row_numbered s body_sort ps a b (sites_lets ls) [] (sites_disjs ds) row (lets_counted s ls (of_sort ALet ps) l) (subst (λ (x : List grammar.Piece). Numbered x []) (sym (body_no_rules s ps a b row)) refl) (parts_counted s ds (of_sort APart ps) d) in
      (all.lets, all.parts)

  pub disj_site : (n : ℕ) (ps : Parts) (a b : State) → IsDisj s true (disj n ps) a b → n ≡ length a.places
  disj_site n no_parts a b h = absurd h
  disj_site n (more_parts p ps) a b h = h.1.0

  -- a let that the source has first comes first
  pub let_first : (margin : List ℕ) (l : Let) (ls : Lets) (ds : Disjs) (p : grammar.Piece) (ps : List grammar.Piece) (b : State) → IsLet s l p.from p.to → InRow s body_sort ps p.to b → AreLets s ls (of_sort ALet ps) → AreDisjs s ds (of_sort APart ps)
      → merged (let_item l ∷ let_items ls) (disj_items margin ds) ≡ let_item l ∷ merged (let_items ls) (disj_items margin ds)
  let_first margin (assign n name e) ls ds p ps b h row l d =
      let grows = let_grows (assign n name e) p h in
      let head = heads ps ls ds p.to b row l d in
      let site : n ≡ length p.from.places = h.1.0 in
      first_let (let_item (assign n name e)) (let_items ls) (disj_items margin ds) (above_disjs margin ds n (length p.to.places) (omega arith) head.1)

  pub part_first : (margin : List ℕ) (d : Disj) (ls : Lets) (ds : Disjs) (p : grammar.Piece) (ps : List grammar.Piece) (b : State) → IsDisj s true d p.from p.to → InRow s body_sort ps p.to b → AreLets s ls (of_sort ALet ps) → AreDisjs s ds (of_sort APart ps)
      → merged (let_items ls) (disj_item margin d ∷ disj_items margin ds) ≡ disj_item margin d ∷ merged (let_items ls) (disj_items margin ds)
  part_first margin (disj n ps) ls ds p qs b h row l d =
      let grows = disj_grows (disj n ps) p h in
      let head = heads qs ls ds p.to b row l d in
      let site : n ≡ length p.from.places = disj_site n ps p.from p.to h in
      first_part (let_items ls) (disj_item margin (disj n ps)) (disj_items margin ds) (under_lets ls n (length p.to.places) (omega arith) head.0)
