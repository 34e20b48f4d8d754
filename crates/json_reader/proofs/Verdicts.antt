-- What the reader's answers say of the grammar.
use Rattle.std.proofs.Common.{◌≡◌, ℕ, ◌≤◌, List, [], ◌∷◌, length, drop, refl, sym, ap, ◌∙◌, arith, Option, Some, None}
use Rattle.std.specs.Prelude.{Ok, Err}
use Rattle.std.proofs.lemmas.List.{drop_all}
use Rattle.doc_values.specs.Tree.{Forest}
use Rattle.doc_values.specs.Unfinished.{Level, Unfinished, start}
use Rattle.json_reader.specs.declared.stage.Stage.{Stage}
use Rattle.json_reader.specs.declared.stage.Stage.TheVariants as stage
use Rattle.json_reader.specs.declared.refusal.JsonRefusal.{JsonRefusal}
use Rattle.json_reader.specs.declared.refusal.JsonRefusal.TheVariants.{Syntax, NoMemory}
use Rattle.json_reader.specs.Json.{Json}
use Rattle.json_reader.specs.code.Reading.{Phase, AtValue, After, ended, final, final_cause, judge, whole_tree, from, mark_len, mark_stop, behind_mark, verdict}
use Rattle.json_reader.specs.code.Steps.{phase_of, Gives}
use Rattle.json_reader.proofs.Judged.{err_ok, judge_ok}
use Rattle.json_reader.proofs.Limits.{sound}
use Rattle.json_reader.proofs.Complete.{complete}
use Rattle.json_reader.proofs.Walk.{err_gives}

behind_ok : (bytes : List ℕ) (o : Option ℕ) (v : Forest) → behind_mark bytes o ≡ Ok v → Json bytes v
behind_ok bytes None v h = sound bytes v (judge_ok (drop (mark_len bytes) bytes) (mark_len bytes) AtValue start v h)
behind_ok bytes (Some n) v h = absurd (cc)

pub verdict_ok : (bytes : List ℕ) (v : Forest) → verdict bytes ≡ Ok v → Json bytes v
verdict_ok bytes v h = behind_ok bytes (mark_stop bytes) v h

pub verdict_err : (bytes : List ℕ) (e : JsonRefusal) → verdict bytes ≡ Err e → (tree : Forest) → Json bytes tree → ⊥
verdict_err bytes e h tree j = err_ok e tree (sym h ∙ complete bytes tree j)

pub mark_refused : (bytes : List ℕ) (o : Option ℕ) (n : ℕ) → o ≡ mark_stop bytes → o ≡ Some n → verdict bytes ≡ Err (Syntax n)
mark_refused bytes o n e h = ap (λ x. behind_mark bytes x) (sym e ∙ h)

-- a refused step
pub refused : (bytes : List ℕ) (i : ℕ) (p : Phase) (u w : Unfinished) (r : JsonRefusal) → from bytes i p u ≡ verdict bytes → Gives bytes i p u w (Err r) → (r ≡ NoMemory → ⊥) → verdict bytes ≡ Err r
refused bytes i p u w r e h n = sym e ∙ err_gives bytes i p u w r h n

-- the end of the text
at_end : (bytes : List ℕ) (i : ℕ) (p : Phase) (u : Unfinished) → length bytes ≤ i → from bytes i p u ≡ verdict bytes → ended (final p u) (final_cause i p) ≡ verdict bytes
at_end bytes i p u l e = ap (λ t. judge t i p u) (sym (drop_all i bytes l)) ∙ e

tree_of_level : (outer : List Level) (done : Forest) → length outer ≡ 0 → whole_tree outer done ≡ Some done
tree_of_level [] done h = refl
tree_of_level (x ∷ xs) done h = absurd (omega arith)

no_tree : (outer : List Level) (done : Forest) → (length outer ≡ 0 → ⊥) → whole_tree outer done ≡ None
no_tree [] done h = absurd (h refl)
no_tree (x ∷ xs) done h = refl

pub ends_well : (bytes : List ℕ) (i : ℕ) (s : Stage) (u : Unfinished) → s ≡ stage.After → length bytes ≤ i → from bytes i (phase_of s) u ≡ verdict bytes → length u.outer ≡ 0 → Json bytes u.done
ends_well bytes i s u q l e h = verdict_ok bytes u.done (sym (at_end bytes i After u l (ap (λ t. from bytes i (phase_of t) u) (sym q) ∙ e)) ∙ ap (λ o. ended o (Syntax i)) (tree_of_level u.outer u.done h))

-- a text that ends too early is refused at its length
abbrev IsEarly : List ℕ → ℕ → Type 0
IsEarly bytes k = verdict bytes ≡ Err (Syntax k)

early : (bytes : List ℕ) (i k : ℕ) → k ≡ i → verdict bytes ≡ Err (Syntax i) → IsEarly bytes k
early bytes i k n e = e ∙ ap (λ n. Err (Syntax n)) (sym n)

pub ends_open : (bytes : List ℕ) (i k : ℕ) (s : Stage) (u : Unfinished) → k ≡ i → s ≡ stage.After → length bytes ≤ i → from bytes i (phase_of s) u ≡ verdict bytes → (length u.outer ≡ 0 → ⊥) → IsEarly bytes k
ends_open bytes i k s u n q l e h = early bytes i k n (sym (at_end bytes i After u l (ap (λ t. from bytes i (phase_of t) u) (sym q) ∙ e)) ∙ ap (λ o. ended o (Syntax i)) (no_tree u.outer u.done h))

pub ends_early : (bytes : List ℕ) (i k : ℕ) (s : Stage) (u : Unfinished) → k ≡ i → (s ≡ stage.After → ⊥) → length bytes ≤ i → from bytes i (phase_of s) u ≡ verdict bytes → IsEarly bytes k
ends_early bytes i k stage.After u n q l e = absurd (q refl)
ends_early bytes i k stage.Value u n q l e = early bytes i k n (sym (at_end bytes i (phase_of stage.Value) u l e))
ends_early bytes i k stage.KeyOrEnd u n q l e = early bytes i k n (sym (at_end bytes i (phase_of stage.KeyOrEnd) u l e))
ends_early bytes i k stage.ItemOrEnd u n q l e = early bytes i k n (sym (at_end bytes i (phase_of stage.ItemOrEnd) u l e))
ends_early bytes i k stage.Key u n q l e = early bytes i k n (sym (at_end bytes i (phase_of stage.Key) u l e))
ends_early bytes i k stage.Colon u n q l e = early bytes i k n (sym (at_end bytes i (phase_of stage.Colon) u l e))
