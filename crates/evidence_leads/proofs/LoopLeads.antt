-- Loops that append leads for each element in turn: what is appended so far, and what is left to append.
use Rattle.std.proofs.Common.{◌≡◌, Bool, true, false, if◌then◌else◌, ℕ, suc, ◌+◌, ◌<◌, ◌≤◌, List, [], ◌∷◌, ◌++◌, length, get_or, drop, drop-cons, map, Result, OnOk, refl, sym, ap, subst, ◌∙◌, arith}
use Rattle.std.specs.List.{flat_map}
use Rattle.std.proofs.lemmas.List.{drop_all, map-append}
use Rattle.guard_syntax.specs.declared.row.Ref.{Ref}
use Rattle.guard_syntax.specs.declared.row.Row.{Row}
use Rattle.guard_syntax.specs.declared.row.Row.TheVariants.{Found}
use Rattle.rule_meaning.specs.Fails.{Entry, first_or, missing_row, tested_row}
use Rattle.rule_meaning.specs.StoreModel.{StoreModel}
use Rattle.evidence_lines.specs.declared.line.Line.{Line}
use Rattle.evidence_truth.specs.code.LineFails.{failed_row, see}
use Rattle.evidence_leads.specs.code.Leads.{Appends, Leading, ToEntry, cite_leads, cites_behind, own, row_leads, rows_leads}
use Rattle.evidence_leads.specs.declared.lead.Lead.{Lead}
use Rattle.evidence_leads.proofs.Appending.{none-appended, then-appended}

-- what is appended behind `now` for what is left, is appended behind `start` for all
abbrev pub Owes : StoreModel → (start now : List Lead) → (all left : List Leading) → Type 0
Owes known start now all left = (final : List Lead) → Appends known now final left → Appends known start final all

-- one element more of a list
next-left : {A : Type 0} (xs : List A) (i : ℕ) (d : A) → i < length xs → drop i xs ≡ get_or xs i d ∷ drop (i + 1) xs
next-left {A} xs i d within =
    let e : suc i ≡ i + 1 = omega arith in
    drop-cons xs i d within ∙ ap (λ (n : ℕ). get_or xs i d ∷ drop n xs) e

module _ (known : StoreModel) where
  pub owes-more : {A : Type 0} (f : A → List Leading) (xs : List A) (i : ℕ) (d : A) (start now later : List Lead) → i < length xs → Appends known now later (f (get_or xs i d))
      → Owes known start now (flat_map f xs) (flat_map f (drop i xs)) → Owes known start later (flat_map f xs) (flat_map f (drop (i + 1) xs))
  owes-more {A} f xs i d start now later within more owes final rest =
      owes final (subst (λ (ys : List A). Appends known now final (flat_map f ys)) (sym (next-left xs i d within))
      (then-appended known now later final (f (get_or xs i d)) (flat_map f (drop (i + 1) xs)) more rest))

  pub owes-end : {A : Type 0} (f : A → List Leading) (xs : List A) (i : ℕ) (start now : List Lead) → length xs ≤ i → Owes known start now (flat_map f xs) (flat_map f (drop i xs))
      → Appends known start now (flat_map f xs)
  owes-end {A} f xs i start now past owes =
      owes now (subst (λ (ys : List A). Appends known now now (flat_map f ys)) (sym (drop_all i xs past)) (none-appended known now))

  -- rows and cites in step
  module _ (lines : List Line) (part : ℕ) where
    pub rows-more : (rows : List Row) (i : ℕ) (d : Row) (start now later : List Lead) (all : List Leading) (left behind : List ℕ) → i < length rows
        → Appends known now later (row_leads known lines part (get_or rows i d) left) → behind ≡ cites_behind known lines (get_or rows i d) left
        → Owes known start now all (rows_leads known lines part (drop i rows) left) → Owes known start later all (rows_leads known lines part (drop (i + 1) rows) behind)
    rows-more rows i d start now later all left behind within more is owes final rest =
        let x = get_or rows i d in
        owes final (subst (λ (ys : List Row). Appends known now final (rows_leads known lines part ys left)) (sym (next-left rows i d within))
        (then-appended known now later final (row_leads known lines part x left) (rows_leads known lines part (drop (i + 1) rows) (cites_behind known lines x left)) more
        (subst (λ (cs : List ℕ). Appends known later final (rows_leads known lines part (drop (i + 1) rows) cs)) is rest)))

    pub rows-end : (rows : List Row) (i : ℕ) (start now : List Lead) (all : List Leading) (left : List ℕ) → length rows ≤ i
        → Owes known start now all (rows_leads known lines part (drop i rows) left) → Appends known start now all
    rows-end rows i start now all left past owes =
        owes now (subst (λ (ys : List Row). Appends known now now (rows_leads known lines part ys left)) (sym (drop_all i rows past)) (none-appended known now))

  -- ---- entries of rows

  module _ (lines : List Line) (part : ℕ) where
    -- a row that was found has no entry as a missing one
    pub passed-found : (rows : List Row) (i : ℕ) (d : Row) → i < length rows → (es : List Entry) → missing_row part (see known lines (get_or rows i d)) ≡ []
        → es ≡ flat_map (missing_row part) (map (see known lines) (drop i rows)) → es ≡ flat_map (missing_row part) (map (see known lines) (drop (i + 1) rows))
    passed-found rows i d within es none is =
        is ∙ ap (λ (ys : List Row). flat_map (missing_row part) (map (see known lines) ys)) (next-left rows i d within)
        ∙ ap (λ (xs : List Entry). xs ++ flat_map (missing_row part) (map (see known lines) (drop (i + 1) rows))) none

    abbrev missing_from : ℕ → List Row → List Entry
    missing_from i rows = flat_map (missing_row part) (map (see known lines) (drop i rows))

    -- a row that passes a test has no entry, another has one
    pub row-passed : (holds : Row → Bool) (x : Row) (now : List Lead) (p : Bool) → p ≡ holds x → p ≡ true → Appends known now now (own (failed_row known lines part holds x))
    row-passed holds x now p is on = subst (λ (b : Bool). Appends known now now (own (if b then [] else tested_row part (see known lines x)))) (sym on ∙ is) (none-appended known now)

    pub row-failed : (holds : Row → Bool) (x : Row) (now later : List Lead) (p : Bool) → p ≡ holds x → p ≡ false → Appends known now later (own (tested_row part (see known lines x)))
        → Appends known now later (own (failed_row known lines part holds x))
    row-failed holds x now later p is off more = subst (λ (b : Bool). Appends known now later (own (if b then [] else tested_row part (see known lines x)))) (sym off ∙ is) more

    -- a row that was found leads to the line of the first cite
    pub found-led : (v : Ref) (cites : List ℕ) (d : ℕ) (now later : List Lead) → 1 ≤ length cites → Appends known now later (cite_leads known lines (get_or cites 0 d))
        → Appends known now later (row_leads known lines part (Found v) cites)
    found-led v [] d now later some more = absurd (omega (arith, some))
    found-led v (c ∷ cites) d now later some more = more

    -- the first row at which nothing was found has the entry
    pub first-appended : {A E : Type 0} (rows : List Row) (i : ℕ) (d : Row) (other e : Entry) (start now later : List Lead) (r : Result A E) → i < length rows
        → missing_row part (see known lines (get_or rows i d)) ≡ e ∷ [] → now ≡ start → flat_map (missing_row part) (map (see known lines) rows) ≡ missing_from i rows
        → OnOk r (Appends known now later (own (missing_row part (see known lines (get_or rows i d)))))
        → OnOk r (Appends known start later (own (first_or other (flat_map (missing_row part) (map (see known lines) rows)))))
    first-appended rows i d other e start now later r within one same is more =
        let rest = missing_from (i + 1) rows in
        let first : missing_row part (see known lines (get_or rows i d)) ≡ first_or other (flat_map (missing_row part) (map (see known lines) rows)) =
        one
        ∙ sym (ap (first_or other) (is ∙ ap (λ (ys : List Row). flat_map (missing_row part) (map (see known lines) ys)) (next-left rows i d within)
        ∙ ap (λ (xs : List Entry). xs ++ rest) one)) in
        subst (λ (a : List Lead). OnOk r (Appends known a later (own (first_or other (flat_map (missing_row part) (map (see known lines) rows)))))) same
        (subst (λ (es : List Entry). OnOk r (Appends known now later (own es))) first more)

    -- where there is none, another
    pub other-appended : {A E : Type 0} (rows : List Row) (i : ℕ) (other : Entry) (start now later : List Lead) (r : Result A E) → length rows ≤ i → now ≡ start
        → flat_map (missing_row part) (map (see known lines) rows) ≡ missing_from i rows → OnOk r (Appends known now later (ToEntry other ∷ []))
        → OnOk r (Appends known start later (own (first_or other (flat_map (missing_row part) (map (see known lines) rows)))))
    other-appended rows i other start now later r past same is more =
        let alone : other ∷ [] ≡ first_or other (flat_map (missing_row part) (map (see known lines) rows)) =
        sym (ap (first_or other) (is ∙ ap (λ (ys : List Row). flat_map (missing_row part) (map (see known lines) ys)) (drop_all i rows past))) in
        subst (λ (a : List Lead). OnOk r (Appends known a later (own (first_or other (flat_map (missing_row part) (map (see known lines) rows)))))) same
        (subst (λ (es : List Entry). OnOk r (Appends known now later (own es))) alone more)

-- entries of their own, one list after another
pub own-flat : {A : Type 0} (g : A → List Entry) (xs : List A) → flat_map (λ (x : A). own (g x)) xs ≡ own (flat_map g xs)
own-flat g [] = refl
own-flat g (x ∷ xs) = ap (λ (ls : List Leading). own (g x) ++ ls) (own-flat g xs) ∙ sym (map-append ToEntry (g x) (flat_map g xs))

pub own-mapped : {A B : Type 0} (g : B → List Entry) (f : A → B) (xs : List A) → flat_map (λ (x : A). own (g (f x))) xs ≡ own (flat_map g (map f xs))
own-mapped g f [] = refl
own-mapped g f (x ∷ xs) = ap (λ (ls : List Leading). own (g (f x)) ++ ls) (own-mapped g f xs) ∙ sym (map-append ToEntry (g (f x)) (flat_map g (map f xs)))
