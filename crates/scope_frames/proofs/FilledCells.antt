-- Cells as the map that keeps what fills them has them.
use Rattle.std.proofs.Common.{◌≡◌, ◌⊎◌, ◌<◌, ◌≤◌, ℕ, zero, suc, Bool, true, false, cond, List, [], ◌∷◌, ◌++◌, length, map, Option, Some, None, Result, Ok, Err, inl, inr, refl, sym, subst, ap, ap₂, ◌∙◌, arith, Bor}
use Rattle.std.specs.Prelude.{◌==◌, ◌&&◌, IfOk, option_map}
use Rattle.std.specs.Map.{lookup}
use Rattle.std.specs.Option.{option_copied}
use Rattle.std.proofs.lemmas.Bool.Decides.{nat_tests}
use Rattle.std.proofs.lemmas.List.{map-append}
use Rattle.std.proofs.lemmas.Option.{none-some, same_Some}
use Rattle.scope_frames.specs.code.Filled.{AreEmpty, AreOfFrames, Filled, filled_at, same_cell}
use Rattle.scope_frames.specs.code.Seen.{filled_of}
use Rattle.scope_frames.specs.contracts.cell.CellPartialEq.TheImpl.{eq-value}
use Rattle.scope_frames.specs.declared.cell.Cell.{Cell}
use Rattle.scope_frames.specs.declared.frame.Frame.{Frame}
use Rattle.scope_frames.specs.declared.remembered.Remembered.{Remembered}

same-number : (n m : ℕ) → (n == m) ≡ true → n ≡ m
same-number n m e = grind (arith, nat_tests, e)

both-first : (a b : Bool) → (a && b) ≡ true → a ≡ true
both-first true b e = refl
both-first false b e = absurd cc

both-second : (a b : Bool) → (a && b) ≡ true → b ≡ true
both-second true b e = e
both-second false b e = absurd cc

pub cell-is : (a b : Cell) → same_cell a b ≡ true → a ≡ b
cell-is a b e =
    ap₂ (λ (frame slot : ℕ). record { frame = frame; slot = slot })
    (same-number a.frame b.frame (both-first (a.frame == b.frame) (a.slot == b.slot) e))
    (same-number a.slot b.slot (both-second (a.frame == b.frame) (a.slot == b.slot) e))

-- `==` of two cells
pub same-by-eq : (frame other a b : ℕ) → same_cell (record { frame = other; slot = b }) (record { frame = frame; slot = a }) ≡ eq-value.it (record { frame = frame; slot = a }) (record { frame = other; slot = b })
same-by-eq frame other a b = grind (arith, nat_tests)

-- what a map has for a cell
abbrev pub filled_with : Cell → Remembered → Filled
filled_with cell it = record { cell = cell; line = it.line; rows = it.rows.items }

module _ (cell : Cell) where
  abbrev pub test : Cell → Bool
  test = eq-value.it cell

  same : (c : Cell) → same_cell c cell ≡ test c
  same c = same-by-eq cell.frame c.frame cell.slot c.slot

  filled-step : (e : Cell × Remembered) (es : List (Cell × Remembered)) → filled_at (map filled_of es) cell ≡ option_map (filled_with cell) (lookup test es)
      → (b : Bool) → test e.0 ≡ b → filled_at (map filled_of (e ∷ es)) cell ≡ option_map (filled_with cell) (lookup test (e ∷ es))
  filled-step e es behind true is =
      ap (λ t. cond t (Some (filled_of e)) (filled_at (map filled_of es) cell)) (same e.0 ∙ is)
      ∙ ap (λ c. Some (record { cell = c; line = e.1.line; rows = e.1.rows.items })) (cell-is e.0 cell (same e.0 ∙ is))
      ∙ ap (λ t. option_map (filled_with cell) (cond t (Some e.1) (lookup test es))) (sym is)
  filled-step e es behind false is =
      ap (λ t. cond t (Some (filled_of e)) (filled_at (map filled_of es) cell)) (same e.0 ∙ is)
      ∙ behind
      ∙ ap (λ t. option_map (filled_with cell) (cond t (Some e.1) (lookup test es))) (sym is)

  pub filled-lookup : (es : List (Cell × Remembered)) → filled_at (map filled_of es) cell ≡ option_map (filled_with cell) (lookup test es)
  filled-lookup [] = refl
  filled-lookup (e ∷ es) = filled-step e es (filled-lookup es) (test e.0) refl

  pub lookup-empty : (es : List (Cell × Remembered)) → filled_at (map filled_of es) cell ≡ None → lookup test es ≡ None
  lookup-empty es empty = by (lookup test es) (sym (filled-lookup es) ∙ empty)
    where
      by : (o : Option Remembered) → option_map (filled_with cell) o ≡ None → o ≡ None
      by None e = refl
      by (Some it) e = absurd cc

  -- what the map gives for a cell
  pub rows-none : (es : List (Cell × Remembered)) (o : Option (Bor Remembered)) → option_copied o ≡ lookup test es → o ≡ None → filled_at (map filled_of es) cell ≡ None
  rows-none es o found is = filled-lookup es ∙ ap (option_map (filled_with cell)) (sym found ∙ ap option_copied is)

  pub rows-some : (es : List (Cell × Remembered)) (o : Option (Bor Remembered)) (r : Bor Remembered) → option_copied o ≡ lookup test es → o ≡ Some r
      → filled_at (map filled_of es) cell ≡ Some (filled_with cell r.now)
  rows-some es o r found is = filled-lookup es ∙ ap (option_map (filled_with cell)) (sym found ∙ ap option_copied is)

-- a cell more
pub filled-more : (es new : List (Cell × Remembered)) (cell : Cell) (it : Remembered) → new ≡ es ++ (cell, it) ∷ [] → map filled_of new ≡ map filled_of es ++ filled_with cell it ∷ []
filled-more es new cell it e = ap (map filled_of) e ∙ map-append filled_of es ((cell, it) ∷ [])

-- ---- one cell more

same-number-as : (n : ℕ) → (n == n) ≡ true
same-number-as n = grind (arith, nat_tests)

same-as : (cell : Cell) → same_cell cell cell ≡ true
same-as cell = ap₂ (λ (a b : Bool). a && b) (same-number-as cell.frame) (same-number-as cell.slot)

-- what is filled stays so
pub kept-ahead : (fs more : List Filled) (cell : Cell) (it : Filled) → filled_at fs cell ≡ Some it → filled_at (fs ++ more) cell ≡ Some it
kept-ahead [] more cell it is = absurd (none-some it is)
kept-ahead (f ∷ fs) more cell it is = by (same_cell f.cell cell) (kept-ahead fs more cell it) is
  where
    by : (b : Bool) → (filled_at fs cell ≡ Some it → filled_at (fs ++ more) cell ≡ Some it) → cond b (Some f) (filled_at fs cell) ≡ Some it
        → cond b (Some f) (filled_at (fs ++ more) cell) ≡ Some it
    by true further e = e
    by false further e = further e

-- and the one that was empty is filled
pub filled-last : (fs : List Filled) (f : Filled) → filled_at fs f.cell ≡ None → filled_at (fs ++ f ∷ []) f.cell ≡ Some f
filled-last [] f empty = ap (λ (b : Bool). cond b (Some f) None) (same-as f.cell)
filled-last (g ∷ fs) f empty = by (same_cell g.cell f.cell) (filled-last fs f) empty
  where
    by : (b : Bool) → (filled_at fs f.cell ≡ None → filled_at (fs ++ f ∷ []) f.cell ≡ Some f) → cond b (Some g) (filled_at fs f.cell) ≡ None
        → cond b (Some g) (filled_at (fs ++ f ∷ []) f.cell) ≡ Some f
    by true further e = absurd (none-some g (sym e))
    by false further e = further e

-- ---- cells of frames that were entered

of-more : (n m : ℕ) (es : List (Cell × Remembered)) → n ≤ m → AreOfFrames n es → AreOfFrames m es
of-more n m es less all i e is = let it = all i e is in omega (arith, less, it)

length-more : (old new : List Frame) (frame : Frame) → (new ≡ old) ⊎ (new ≡ old ++ frame ∷ []) → length old ≤ length new
length-more old new frame (inl same) = let e = ap length same in omega (arith, e)
length-more old new frame (inr more) = let e = ap length more in omega (arith, e, longer old frame)
  where
    longer : (xs : List Frame) (x : Frame) → length xs ≤ length (xs ++ x ∷ [])
    longer [] x = omega arith
    longer (y ∷ xs) x = let h = longer xs x in omega (arith, h)

pub of-entered : (es : List (Cell × Remembered)) (old new : List Frame) (frame : Frame) → (new ≡ old) ⊎ (new ≡ old ++ frame ∷ []) → AreOfFrames (length old) es → AreOfFrames (length new) es
of-entered es old new frame entered all = of-more (length old) (length new) es (length-more old new frame entered) all

of-filled : (count : ℕ) (es : List (Cell × Remembered)) (cell : Cell) (it : Remembered) → cell.frame < count → AreOfFrames count es → AreOfFrames count (es ++ (cell, it) ∷ [])
of-filled count [] cell it within all zero e is = subst (λ (x : Cell × Remembered). x.0.frame < count) (same_Some (cell, it) e is) within
of-filled count [] cell it within all (suc i) e is = absurd (none-some e is)
of-filled count (x ∷ es) cell it within all zero e is = all zero e is
of-filled count (x ∷ es) cell it within all (suc i) e is = of-filled count es cell it within (λ j. all (suc j)) i e is

pub of-put : (count : ℕ) (es new : List (Cell × Remembered)) (cell : Cell) (it : Remembered) → cell.frame < count → (new ≡ es) ⊎ (new ≡ es ++ (cell, it) ∷ []) → AreOfFrames count es
    → AreOfFrames count new
of-put count es new cell it within (inl same) all = subst (AreOfFrames count) (sym same) all
of-put count es new cell it within (inr more) all = subst (AreOfFrames count) (sym more) (of-filled count es cell it within all)

-- a frame that was not entered has no cell that is filled
pub none-filled : (count number : ℕ) (es : List (Cell × Remembered)) → AreOfFrames count es → count ≤ number → AreEmpty (map filled_of es) number
none-filled count number [] all past at = refl
none-filled count number (e ∷ es) all past at =
    let within = all zero e refl in
    let apart : (e.0.frame == number) ≡ false = grind (arith, nat_tests, within, past) in
    ap (λ (b : Bool). cond (b && (e.0.slot == at)) (Some (filled_of e)) (filled_at (map filled_of es) (record { frame = number; slot = at }))) apart
    ∙ none-filled count number es (λ j. all (suc j)) past at

-- what is so of each answer is so of any
pub any-number : {E : Type 0} (P : ℕ → Type 0) → ((n : ℕ) → P n) → (r : Result ℕ E) → IfOk r P
any-number P each (Ok n) = each n
any-number P each (Err e) = tt
