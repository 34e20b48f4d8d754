-- The rows that lines say, one line after another.
use Rattle.std.proofs.Common.{◌≡◌, ◌<◌, ◌+◌, ◌≤◌, ℕ, zero, suc, sym, ap, ◌∙◌, arith, get_or, take, List, [], ◌∷◌, ◌++◌, length, map, refl}
use Rattle.std.specs.declared.alloc.Global.{Global}
use Rattle.std.specs.declared.vec.Vec.{Vec}
use Rattle.std.proofs.lemmas.List.{map-append, take_all, take_more}
use Rattle.evidence_lines.specs.declared.line.Line.{Line}
use Rattle.guard_builtins.specs.code.Seen.{see_rows}
use Rattle.guard_syntax.specs.declared.row.Row.{Row}
use Rattle.engine_states.specs.code.Answers.{SayRowsOf, SaysRows}

module _ (lines : List Line) where
  pub rows-counted : (numbers : List ℕ) (given : List (List Row)) → SayRowsOf lines numbers given → length given ≡ length numbers
  rows-counted [] [] say = refl
  rows-counted (n ∷ ns) (rows ∷ others) say = ap suc (rows-counted ns others say.1)
  rows-counted numbers given say = absurd say

  pub rows-at : (numbers : List ℕ) (given : List (List Row)) → SayRowsOf lines numbers given → (i d : ℕ) → i < length numbers → SaysRows lines (get_or numbers i d) (get_or given i [])
  rows-at [] [] say i d within = absurd (omega (arith, within))
  rows-at (m ∷ ns) (rows ∷ others) say zero d within = say.0
  rows-at (m ∷ ns) (rows ∷ others) say (suc i) d within = rows-at ns others say.1 i d (omega (arith, within))
  rows-at numbers given say i d within = absurd say

  -- one line more
  pub rows-next : (numbers : List ℕ) (given : List (List Row)) → SayRowsOf lines numbers given → (i : ℕ) → i < length numbers → (all more : List (Vec Row Global)) (v : Vec Row Global)
      → map see_rows all ≡ take i given → more ≡ all ++ v ∷ [] → v.items ≡ get_or given i [] → map see_rows more ≡ take (i + 1) given
  rows-next numbers given say i within all more v so are is =
      let inside : i < length given = omega (arith, within, rows-counted numbers given say) in
      ap (map see_rows) are ∙ map-append see_rows all (v ∷ []) ∙ ap (λ (xs : List (List Row)). xs ++ v.items ∷ []) so
      ∙ ap (λ (rows : List Row). take i given ++ rows ∷ []) is ∙ sym (take_more given i [] inside)

  -- and all of them
  pub rows-all : (numbers : List ℕ) (given : List (List Row)) → SayRowsOf lines numbers given → (i : ℕ) → length numbers ≤ i → (all : List (Vec Row Global)) → map see_rows all ≡ take i given
      → map see_rows all ≡ given
  rows-all numbers given say i past all so = so ∙ take_all i given (omega (arith, past, rows-counted numbers given say))
