-- In a graph in which each node leads to nodes of a lesser rank, no node reaches itself. By induction on the way.
use Rattle.std.proofs.Common.{◌≡◌, ◌+◌, ◌<◌, ◌&&◌, ℕ, zero, suc, Bool, true, List, [], ◌∷◌, length, get_or, arith, sym, subst}
use Rattle.std.specs.Prelude.{nat_lt}
use Rattle.std.specs.List.{Contains}
use Rattle.std.proofs.lemmas.Bool.{ltb-true}
use Rattle.json_reader.proofs.Strings.{both}
use Rattle.rule_names.specs.Graphs.{Graph, Names, NoneOnCycle, Reaches, names, through}

module _ (rank : ℕ → ℕ) where
  -- a node has a greater rank than each of some nodes
  abbrev pub is-above : ℕ → List ℕ → Bool
  is-above a [] = true
  is-above a (b ∷ bs) = nat_lt (rank b) (rank a) && is-above a bs

  -- each node of a graph, whose first one has a number, has a greater rank than those that it names
  abbrev pub is-ranked : ℕ → Graph → Bool
  is-ranked a [] = true
  is-ranked a (row ∷ rows) = is-above a row && is-ranked (suc a) rows

  above-each : (a : ℕ) (bs : List ℕ) → is-above a bs ≡ true → (b i : ℕ) → i < length bs → get_or bs i b ≡ b → rank b < rank a
  above-each a [] e b i within is = absurd (omega arith)
  above-each a (c ∷ bs) e b zero within is =
      subst (λ x. rank x < rank a) is (ltb-true (rank c) (rank a) (both (nat_lt (rank c) (rank a)) (is-above a bs) e).0)
  above-each a (c ∷ bs) e b (suc i) within is = above-each a bs (both (nat_lt (rank c) (rank a)) (is-above a bs) e).1 b i (omega arith) is

  row-above : (first : ℕ) (g : Graph) → is-ranked first g ≡ true → (n b : ℕ) → Contains (get_or g n []) b → rank b < rank (first + n)
  row-above first [] e n b h = let within : h.0 < 0 = h.1 in absurd (omega arith)
  row-above first (row ∷ rows) e zero b h =
      let same : first + 0 ≡ first = omega arith in
      subst (λ a. rank b < rank a) (sym same) (above-each first row (both (is-above first row) (is-ranked (suc first) rows) e).0 b h.0 h.1 h.2)
  row-above first (row ∷ rows) e (suc n) b h =
      let same : first + suc n ≡ suc first + n = omega arith in
      subst (λ a. rank b < rank a) (sym same) (row-above (suc first) rows (both (is-above first row) (is-ranked (suc first) rows) e).1 n b h)

  module _ (g : Graph) (ranked : is-ranked 0 g ≡ true) where
    named-falls : (a b : ℕ) → Names g a b → rank b < rank a
    named-falls a b h = let same : 0 + a ≡ a = omega arith in subst (λ x. rank b < rank x) same (row-above 0 g ranked a b h)

    reached-falls : (a b : ℕ) → Reaches g a b → rank b < rank a
    reached-falls a b (names h) = named-falls a b h
    reached-falls a b (through {c = c} h on) = let first = named-falls a c h in let rest = reached-falls c b on in omega (arith, first, rest)

    pub none-on-cycle : (low high : ℕ) → NoneOnCycle g low high
    none-on-cycle low high a from below on = let less = reached-falls a a on in absurd (omega (arith, less))
