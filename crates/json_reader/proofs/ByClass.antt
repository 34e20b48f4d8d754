-- What one byte outside texts gives, by its class.
use Rattle.std.proofs.Common.{◌≡◌, ℕ, zero, suc, ◌+◌, ◌-◌, ◌<◌, ◌≤◌, true, false, List, length, get_or, refl, sym, ap, subst, ◌∙◌, arith}
use Rattle.std.specs.Prelude.{Result, Ok, Err}
use Rattle.std.proofs.lemmas.Bool.{true≢false}
use Rattle.std.proofs.lemmas.Bool.Decides.{nat_tests}
use Rattle.doc_values.specs.Unfinished.{Unfinished}
use Rattle.json_reader.specs.declared.bytes.Class.{Class}
use Rattle.json_reader.specs.declared.bytes.Class.TheVariants.{Space, Quote, Open, Close, OpenList, CloseList, Colon, Comma, Minus, Zero, Digit, LetterN, LetterT, LetterF, Other}
use Rattle.json_reader.specs.declared.stage.Stage.{Stage}
use Rattle.json_reader.specs.declared.stage.Stage.TheVariants as stage
use Rattle.json_reader.specs.declared.stage.Position.{Position}
use Rattle.json_reader.specs.declared.refusal.JsonRefusal.{JsonRefusal}
use Rattle.json_reader.specs.declared.refusal.JsonRefusal.TheVariants.{Syntax, DuplicateKey, NumberRange, TooDeep, NoMemory}
use Rattle.json_reader.specs.Json.{is_space}
use Rattle.json_reader.specs.code.Reading.{class_of, Phase, Stop, Go, value_next, key_or_end_next, item_or_end_next, key_next, colon_next, after_next, next, value_cause, from}
use Rattle.json_reader.specs.code.Steps.{Fits, Gives, phase_of}
use Rattle.json_reader.proofs.Spellings.{space_class, space_byte}
use Rattle.json_reader.proofs.Walk.{from_class}

-- the byte leads to a stage
pub goes : (bytes : List ℕ) (i : ℕ) (p : Phase) (s : Stage) (u w : Unfinished) → i < length bytes → next i p u (get_or bytes i 0) ≡ Go (phase_of s) w → Fits s w → (i < i + 1) × (i + 1 ≤ length bytes) × (from bytes i p u ≡ from bytes (i + 1) (phase_of s) w) × Fits s w
goes bytes i p s u w l e f = (omega arith, omega arith, from_class bytes i p (phase_of s) u w l e, f)

-- the byte leads to what another part gives
pub gives_on : (bytes : List ℕ) (i : ℕ) (p q : Phase) (u w : Unfinished) (r : Result Position JsonRefusal) → i < length bytes → next i p u (get_or bytes i 0) ≡ Go q u → Gives bytes (i + 1) q u w r → Gives bytes i p u w r
gives_on bytes i p q u w (Ok r) l e (a, b, f, g) = (omega arith, b, from_class bytes i p q u u l e ∙ f, g)
gives_on bytes i p q u w (Err NoMemory) l e h = tt
gives_on bytes i p q u w (Err (Syntax a)) l e h = from_class bytes i p q u u l e ∙ h
gives_on bytes i p q u w (Err (DuplicateKey a)) l e h = from_class bytes i p q u u l e ∙ h
gives_on bytes i p q u w (Err (NumberRange a)) l e h = from_class bytes i p q u u l e ∙ h
gives_on bytes i p q u w (Err (TooDeep a)) l e h = from_class bytes i p q u u l e ∙ h

-- a class that is awaited nowhere stops the reading
pub after_stops : (c : Class) (u : Unfinished) → (c ≡ Space → ⊥) → (c ≡ Comma → ⊥) → (c ≡ Close → ⊥) → (c ≡ CloseList → ⊥) → after_next u c ≡ Stop
after_stops Space u s a b d = absurd (s refl)
after_stops Comma u s a b d = absurd (a refl)
after_stops Close u s a b d = absurd (b refl)
after_stops CloseList u s a b d = absurd (d refl)
after_stops _ u s a b d = refl

pub colon_stops : (c : Class) (u : Unfinished) → (c ≡ Space → ⊥) → (c ≡ Colon → ⊥) → colon_next u c ≡ Stop
colon_stops Space u s a = absurd (s refl)
colon_stops Colon u s a = absurd (a refl)
colon_stops _ u s a = refl

pub key_stops : (c : Class) (at : ℕ) (u : Unfinished) → (c ≡ Space → ⊥) → (c ≡ Quote → ⊥) → key_next at u c ≡ Stop
key_stops Space at u s a = absurd (s refl)
key_stops Quote at u s a = absurd (a refl)
key_stops _ at u s a = refl

pub key_or_end_stops : (c : Class) (at : ℕ) (u : Unfinished) → (c ≡ Space → ⊥) → (c ≡ Quote → ⊥) → (c ≡ Close → ⊥) → key_or_end_next at u c ≡ Stop
key_or_end_stops Space at u s a b = absurd (s refl)
key_or_end_stops Quote at u s a b = absurd (a refl)
key_or_end_stops Close at u s a b = absurd (b refl)
key_or_end_stops _ at u s a b = refl

pub value_stops : (c : Class) (at : ℕ) (u : Unfinished) (b : ℕ) → (c ≡ Space → ⊥) → (c ≡ Quote → ⊥) → (c ≡ Open → ⊥) → (c ≡ OpenList → ⊥) → (c ≡ LetterN → ⊥) → (c ≡ LetterT → ⊥) → (c ≡ LetterF → ⊥) → (c ≡ Minus → ⊥) → (c ≡ Zero → ⊥) → (c ≡ Digit → ⊥) → (value_next at u b c ≡ Stop) × (value_cause at c ≡ Syntax at)
value_stops Space at u b na nb nc nd ne nf ng nh ni nj = absurd (na refl)
value_stops Quote at u b na nb nc nd ne nf ng nh ni nj = absurd (nb refl)
value_stops Open at u b na nb nc nd ne nf ng nh ni nj = absurd (nc refl)
value_stops OpenList at u b na nb nc nd ne nf ng nh ni nj = absurd (nd refl)
value_stops LetterN at u b na nb nc nd ne nf ng nh ni nj = absurd (ne refl)
value_stops LetterT at u b na nb nc nd ne nf ng nh ni nj = absurd (nf refl)
value_stops LetterF at u b na nb nc nd ne nf ng nh ni nj = absurd (ng refl)
value_stops Minus at u b na nb nc nd ne nf ng nh ni nj = absurd (nh refl)
value_stops Zero at u b na nb nc nd ne nf ng nh ni nj = absurd (ni refl)
value_stops Digit at u b na nb nc nd ne nf ng nh ni nj = absurd (nj refl)
value_stops Close at u b na nb nc nd ne nf ng nh ni nj = (refl, refl)
value_stops CloseList at u b na nb nc nd ne nf ng nh ni nj = (refl, refl)
value_stops Colon at u b na nb nc nd ne nf ng nh ni nj = (refl, refl)
value_stops Comma at u b na nb nc nd ne nf ng nh ni nj = (refl, refl)
value_stops Other at u b na nb nc nd ne nf ng nh ni nj = (refl, refl)

-- a quotation mark
pub quote_is : (b : ℕ) → class_of b ≡ Quote → b ≡ 34
quote_is b h = grind (arith, nat_tests)

-- a byte that is no white space
pub not_space : (b : ℕ) → is_space b ≡ false → class_of b ≡ Space → ⊥
not_space b t h = true≢false (sym (space_byte b h) ∙ t)

-- white space changes nothing, whatever is awaited
stays : (s : Stage) (i b : ℕ) (u : Unfinished) → class_of b ≡ Space → next i (phase_of s) u b ≡ Go (phase_of s) u
stays stage.Value i b u h = ap (value_next i u b) h
stays stage.KeyOrEnd i b u h = ap (key_or_end_next i u) h
stays stage.ItemOrEnd i b u h = ap (item_or_end_next i u b) h
stays stage.Key i b u h = ap (key_next i u) h
stays stage.Colon i b u h = ap (colon_next u) h
stays stage.After i b u h = ap (after_next u) h

-- so many bytes of it
bytes_skipped : (bytes : List ℕ) (i n : ℕ) (s : Stage) (u : Unfinished) → i + n ≤ length bytes → ((k : ℕ) → i ≤ k → k < i + n → is_space (get_or bytes k 0) ≡ true) → from bytes i (phase_of s) u ≡ from bytes (i + n) (phase_of s) u
bytes_skipped bytes i zero s u l h = let e : i ≡ i + 0 = omega arith in ap (λ n. from bytes n (phase_of s) u) e
bytes_skipped bytes i (suc n) s u l h =
    let e : i + 1 + n ≡ i + suc n = omega arith in
    from_class bytes i (phase_of s) (phase_of s) u u (omega arith) (stays s i (get_or bytes i 0) u (space_class (get_or bytes i 0) (h i (omega arith) (omega arith))))
    ∙ bytes_skipped bytes (i + 1) n s u (omega arith) (λ k a b. h k (omega arith) (omega arith))
    ∙ ap (λ n. from bytes n (phase_of s) u) e

-- white space up to a place
skipped : (bytes : List ℕ) (i j : ℕ) (s : Stage) (u : Unfinished) → i ≤ j → j ≤ length bytes → ((k : ℕ) → i ≤ k → k < j → is_space (get_or bytes k 0) ≡ true) → from bytes i (phase_of s) u ≡ from bytes j (phase_of s) u
skipped bytes i j s u l m h =
    let e : i + (j - i) ≡ j = omega arith in
    bytes_skipped bytes i (j - i) s u (omega arith) (λ k a b. h k a (omega arith)) ∙ ap (λ n. from bytes n (phase_of s) u) e

-- the same where the bytes are those of a text
pub skipped_in : (text bytes : List ℕ) (i j : ℕ) (s : Stage) (u : Unfinished) → bytes ≡ text → i ≤ j → j ≤ length bytes → ((k : ℕ) → i ≤ k → k < j → is_space (get_or bytes k 0) ≡ true) → from text i (phase_of s) u ≡ from text j (phase_of s) u
skipped_in text bytes i j s u e l m h = subst (λ t. from t i (phase_of s) u ≡ from t j (phase_of s) u) e (skipped bytes i j s u l m h)
