-- What the grammar spells is read, unless a limit stops the reading: by induction on the tree. What is shown holds of each
-- property of verdicts that no verdict of a wrong syntax has.
use Rattle.std.proofs.Common.{◌≡◌, ℕ, suc, ◌<◌, ◌⊎◌, Bool, true, false, List, [], ◌∷◌, ◌++◌, length, refl, sym, ap, inl, inr, ◌∙◌, subst, append_assoc, append-nil, Option, Some, None, cond}
use Rattle.std.specs.Prelude.{Result, Ok, Err, nat_lt}
use Rattle.std.proofs.lemmas.Bool.{lt-ltb}
use Rattle.doc_values.specs.declared.kind.Kind.{Kind}
use Rattle.doc_values.specs.declared.kind.Kind.TheVariants as kind
use Rattle.doc_values.specs.Tree.{Label, Forest, Nil, Node, snoc, joined, has_key, is_map, holds_values}
use Rattle.doc_values.specs.code.Laws.{joined-Nil, joined-snoc}
use Rattle.decimals.specs.Number.{Parts, IsSpelled}
use Rattle.doc_values.specs.Unfinished.{Level, Unfinished, start, with_value, with_open, with_key, with_end}
use Rattle.json_reader.specs.declared.bytes.Class.{Class}
use Rattle.json_reader.specs.declared.bytes.Class.TheVariants.{Space, Close, CloseList, Comma}
use Rattle.json_reader.specs.declared.number.NumberPart.{NumberPart}
use Rattle.json_reader.specs.declared.refusal.JsonRefusal.{JsonRefusal}
use Rattle.json_reader.specs.declared.refusal.JsonRefusal.TheVariants.{Syntax, DuplicateKey, NumberRange, TooDeep}
use Rattle.json_reader.specs.Json.{is_space, Each, past, Chars, IsSeparator, IsLead, Collection, Object, Array, opening, closing, kind_of, StandsFor, IsNamed, IsValue, Contents, Entries, byte_order_mark, IsFront, Shape, IsNew, AreDistinct, IsInRange, AreInRange, AreShallow, Json}
use Rattle.json_reader.specs.code.Numbers.{number_kind, first_part, completes, part_next}
use Rattle.json_reader.specs.code.Reading.{class_of, is_number_byte, Phase, AtValue, AtKeyOrEnd, AtItemOrEnd, AtKey, AtColon, After, InString, InNumber, Stop, Go, value_next, after_next, key_or_end_next, item_or_end_next, key_next, colon_next, next, value_cause, number_cause, cause, judged, judge, verdict}
use Rattle.json_reader.proofs.Spellings.{space_class, space_byte, comma_byte, close_byte, close_list_byte, past-append}
use Rattle.json_reader.proofs.Front.{either, verdict_plain, verdict_marked}
use Rattle.json_reader.proofs.Judged.{Verdicts, IsSign, Signs, NoSyntax}
use Rattle.json_reader.proofs.NumberKinds.{number_complete, worth_only}
use Rattle.json_reader.proofs.NumberBytes.{no_space, BeginsNumber, begins_with_number}
use Rattle.json_reader.proofs.NumberRuns.{number_first, number_same, NoMore, number_ends, number_fails}
use Rattle.json_reader.proofs.Parts.{Runs, part_or, part_byte, spelled_runs}
use Rattle.json_reader.proofs.Strings.{chars_run}

-- one byte
step : (Q : Verdicts) (b : ℕ) (t : List ℕ) (at : ℕ) (p q : Phase) (u w : Unfinished) → next at p u b ≡ Go q w → Q (judge t (suc at) q w) → Q (judge (b ∷ t) at p u)
step Q b t at p q u w e h = subst (λ n. Q (judged n (cause at p b) (judge t (suc at)))) (sym e) h

-- white space in a phase that waits
skip : (Q : Verdicts) (p : Phase) (u : Unfinished) → ((at b : ℕ) → class_of b ≡ Space → next at p u b ≡ Go p u) → (w t : List ℕ) (at : ℕ) → Each is_space w → Q (judge t (past at w) p u) → Q (judge (w ++ t) at p u)
skip Q p u stays [] t at e h = h
skip Q p u stays (b ∷ w) t at e h = step Q b (w ++ t) at p p u u (stays at b (space_class b e.0)) (skip Q p u stays w t (suc at) e.1 h)

skip_value : (Q : Verdicts) (w t : List ℕ) (at : ℕ) (u : Unfinished) → Each is_space w → Q (judge t (past at w) AtValue u) → Q (judge (w ++ t) at AtValue u)
skip_value Q w t at u = skip Q AtValue u (λ at b e. ap (value_next at u b) e) w t at

skip_key_or_end : (Q : Verdicts) (w t : List ℕ) (at : ℕ) (u : Unfinished) → Each is_space w → Q (judge t (past at w) AtKeyOrEnd u) → Q (judge (w ++ t) at AtKeyOrEnd u)
skip_key_or_end Q w t at u = skip Q AtKeyOrEnd u (λ at b e. ap (key_or_end_next at u) e) w t at

skip_item_or_end : (Q : Verdicts) (w t : List ℕ) (at : ℕ) (u : Unfinished) → Each is_space w → Q (judge t (past at w) AtItemOrEnd u) → Q (judge (w ++ t) at AtItemOrEnd u)
skip_item_or_end Q w t at u = skip Q AtItemOrEnd u (λ at b e. ap (item_or_end_next at u b) e) w t at

skip_key : (Q : Verdicts) (w t : List ℕ) (at : ℕ) (u : Unfinished) → Each is_space w → Q (judge t (past at w) AtKey u) → Q (judge (w ++ t) at AtKey u)
skip_key Q w t at u = skip Q AtKey u (λ at b e. ap (key_next at u) e) w t at

skip_colon : (Q : Verdicts) (w t : List ℕ) (at : ℕ) (u : Unfinished) → Each is_space w → Q (judge t (past at w) AtColon u) → Q (judge (w ++ t) at AtColon u)
skip_colon Q w t at u = skip Q AtColon u (λ at b e. ap (colon_next u) e) w t at

skip_after : (Q : Verdicts) (w t : List ℕ) (at : ℕ) (u : Unfinished) → Each is_space w → Q (judge t (past at w) After u) → Q (judge (w ++ t) at After u)
skip_after Q w t at u = skip Q After u (λ at b e. ap (after_next u) e) w t at

-- behind a value no byte of a number stands
number_stops : (b : ℕ) (c : Class) (u : Unfinished) → class_of b ≡ c → is_number_byte b ≡ true → after_next u c ≡ Stop
number_stops b Space u e h = absurd (no_space b (space_byte b e) h)
number_stops b Comma u e h = absurd (let x : false ≡ true = sym (ap is_number_byte (comma_byte b e)) ∙ h in cc)
number_stops b Close u e h = absurd (let x : false ≡ true = sym (ap is_number_byte (close_byte b e)) ∙ h in cc)
number_stops b CloseList u e h = absurd (let x : false ≡ true = sym (ap is_number_byte (close_list_byte b e)) ∙ h in cc)
number_stops b _ u e h = refl

-- so what stands behind a number goes on with none
no_more : (Q : Verdicts) → NoSyntax Q → (t : List ℕ) (at : ℕ) (q : NumberPart) (u : Unfinished) → Q (judge t at After u) → NoMore q t
no_more Q s [] at q u h = tt
no_more Q s (b ∷ t) at q u h = elim (part_or (part_next q b)) [
  | inl n ↦ absurd (s at (subst (λ n. Q (judged n (Syntax at) (judge t (suc at)))) (number_stops b (class_of b) u refl (part_byte q b n.0 n.1)) h))
  | inr n ↦ n
]

number_end_read : (Q : Verdicts) → NoSyntax Q → (t text : List ℕ) (at a : ℕ) (q : NumberPart) (k : Kind) (u : Unfinished) → number_kind text ≡ Some k → Q (judge t at After (with_value k [] a u)) → Q (judge t at (InNumber q text a) u)
number_end_read Q s t text at a q k u e h = subst Q (sym (number_ends t at q text a k u (no_more Q s t at q (with_value k [] a u) h) e)) h

-- one that is out of range
number_out_read : (Q : Verdicts) → NoSyntax Q → Signs Q → (t text : List ℕ) (at a : ℕ) (q : NumberPart) (k : Kind) (u : Unfinished) → number_kind text ≡ None → completes q ≡ true → Q (judge t at After (with_value k [] a u)) → Q (judge t at (InNumber q text a) u)
number_out_read Q s g t text at a q k u e c h =
    subst Q (sym (number_fails t at q text a u (no_more Q s t at q (with_value k [] a u) h) e ∙ ap (λ c. Err (number_cause at c None a)) c)) (g (NumberRange a) tt)

pub kind_or : (o : Option Kind) → ((k : Kind) × (o ≡ Some k)) ⊎ (o ≡ None)
kind_or None = inr refl
kind_or (Some k) = inl (k, refl)

-- a number text up to its end
number_run : (Q : Verdicts) (bytes t : List ℕ) (at : ℕ) (u : Unfinished) → BeginsNumber bytes → Runs bytes → ((q : NumberPart) → completes q ≡ true → Q (judge t (past at bytes) (InNumber q bytes at) u)) → Q (judge (bytes ++ t) at AtValue u)
number_run Q [] t at u g n h = elim g [ ]
number_run Q (b ∷ bytes) t at u g n h = step Q b (bytes ++ t) at AtValue (InNumber (first_part b) (b ∷ []) at) u u (number_first b at u g) (subst Q (sym (number_same bytes t (b ∷ []) (suc at) at (first_part b) n.0 u n.1)) (h n.0 n.2))

-- the state with a value more
abbrev with_node : Label → Forest → Unfinished → Unfinished
with_node l kids u = record { outer = u.outer; done = snoc u.done l kids; key = None }

-- the state behind values, in an open collection
abbrev state : List Level → Forest → Option (List ℕ) → Unfinished
state outer done key = record { outer = outer; done = done; key = key }

-- the label of a text
abbrev text_label : ℕ → Option (List ℕ) → List ℕ → Label
text_label at key text = record { kind = kind.Text; text = text; key = key; at = at }

-- the label of a number
abbrev number_label : ℕ → Option (List ℕ) → Kind → Label
number_label at key k = record { kind = k; text = []; key = key; at = at }

-- whether the entries of a collection have keys
abbrev keyed : Collection → Bool
keyed Object = true
keyed Array = false

-- where an entry of a collection or its end is awaited
abbrev pub phase_in : Collection → Phase
phase_in Object = AtKeyOrEnd
phase_in Array = AtItemOrEnd

abbrev phase : Collection → Bool → Phase
phase o true = phase_in o
phase o false = After

-- a forest keeps the limits behind others, at a depth
abbrev pub Limits : Forest → Forest → ℕ → Type 0
Limits f done depth = AreDistinct f done × AreInRange f × AreShallow f depth

-- a property has each sign, or a forest keeps the limits
abbrev pub Within : Verdicts → Forest → Forest → ℕ → Type 0
Within Q f done depth = Signs Q ⊎ Limits f done depth

-- the same for one value
abbrev Alone : Verdicts → Label → ℕ → Type 0
Alone Q l depth = Signs Q ⊎ (IsInRange l.kind × (holds_values l.kind ≡ true → depth < 128))

within_one : (Q : Verdicts) (l : Label) (kids rest done : Forest) (depth : ℕ) → Within Q (Node l kids rest) done depth → Alone Q l depth
within_one Q l kids rest done depth (inl g) = inl g
within_one Q l kids rest done depth (inr (d, r, s)) = inr (r.0, s.0)

within_kids : (Q : Verdicts) (l : Label) (kids rest done : Forest) (depth : ℕ) → Within Q (Node l kids rest) done depth → Within Q kids Nil (suc depth)
within_kids Q l kids rest done depth (inl g) = inl g
within_kids Q l kids rest done depth (inr (d, r, s)) = inr (d.1, r.1, s.1)

within_rest : (Q : Verdicts) (l : Label) (kids rest done : Forest) (depth : ℕ) → Within Q (Node l kids rest) done depth → Within Q rest (snoc done l kids) depth
within_rest Q l kids rest done depth (inl g) = inl g
within_rest Q l kids rest done depth (inr (d, r, s)) = inr (d.2, r.2, s.2)

within_key : (Q : Verdicts) (l : Label) (kids rest done : Forest) (depth : ℕ) → Within Q (Node l kids rest) done depth → Signs Q ⊎ IsNew done l.key
within_key Q l kids rest done depth (inl g) = inl g
within_key Q l kids rest done depth (inr (d, r, s)) = inr d.0

-- what reading the contents of a collection gives
abbrev ContentsRead : Verdicts → Collection → Forest → Type 0
ContentsRead Q o kids = (at : ℕ) (c t : List ℕ) (x : Level) (xs : List Level) → is_map x.label.kind ≡ keyed o → Entries kids true o at c → Within Q kids Nil (suc (length xs)) → Q (judge t (suc (past at c)) After (with_end (state (x ∷ xs) kids None))) → Q (judge (c ++ (closing o ∷ t)) at (phase_in o) (state (x ∷ xs) Nil None))

-- the closing bracket
close_read : (Q : Verdicts) (o : Collection) (first : Bool) (t : List ℕ) (at : ℕ) (x : Level) (xs : List Level) (done : Forest) → is_map x.label.kind ≡ keyed o → Q (judge t (suc at) After (with_end (state (x ∷ xs) done None))) → Q (judge (closing o ∷ t) at (phase o first) (state (x ∷ xs) done None))
close_read Q Object true t at x xs done m h = subst (λ q. Q (judged (cond q (Go After (with_end (state (x ∷ xs) done None))) Stop) (Syntax at) (judge t (suc at)))) (sym m) h
close_read Q Object false t at x xs done m h = subst (λ q. Q (judged (cond q (Go After (with_end (state (x ∷ xs) done None))) Stop) (Syntax at) (judge t (suc at)))) (sym m) h
close_read Q Array true t at x xs done m h = subst (λ q. Q (judged (cond q Stop (Go After (with_end (state (x ∷ xs) done None)))) (Syntax at) (judge t (suc at)))) (sym m) h
close_read Q Array false t at x xs done m h = subst (λ q. Q (judged (cond q Stop (Go After (with_end (state (x ∷ xs) done None)))) (Syntax at) (judge t (suc at)))) (sym m) h

text_read : (Q : Verdicts) (s text t : List ℕ) (at : ℕ) (u : Unfinished) → Chars s text → Q (judge t (suc (past (suc at) s)) After (with_value kind.Text text at u)) → Q (judge ((34 ∷ (s ++ (34 ∷ []))) ++ t) at AtValue u)
text_read Q s text t at u p h = subst Q (sym (ap (λ x. judge x (suc at) (InString false [] [] at) u) (append_assoc s (34 ∷ []) t) ∙ chars_run s text (34 ∷ t) (suc at) false [] at u p)) h

word_read : (Q : Verdicts) (k : Kind) (at : ℕ) (bytes t : List ℕ) (u : Unfinished) → IsNamed k bytes → Q (judge t (past at bytes) After (with_value k [] at u)) → Q (judge (bytes ++ t) at AtValue u)
word_read Q kind.Null at bytes t u e h = subst (λ x. Q (judge (x ++ t) at AtValue u)) (sym e) (subst (λ x. Q (judge t (past at x) After (with_value kind.Null [] at u))) e h)
word_read Q (kind.Truth true) at bytes t u e h = subst (λ x. Q (judge (x ++ t) at AtValue u)) (sym e) (subst (λ x. Q (judge t (past at x) After (with_value (kind.Truth true) [] at u))) e h)
word_read Q (kind.Truth false) at bytes t u e h = subst (λ x. Q (judge (x ++ t) at AtValue u)) (sym e) (subst (λ x. Q (judge t (past at x) After (with_value (kind.Truth false) [] at u))) e h)
word_read Q _ at bytes t u e h = elim e [ ]

-- an opening bracket
pub opens : (o : Collection) (at : ℕ) (u : Unfinished) → nat_lt (length u.outer) 128 ≡ true → next at AtValue u (opening o) ≡ Go (phase_in o) (with_open (kind_of o) at u)
opens Object at u room = ap (λ q. cond q (Go AtKeyOrEnd (with_open kind.Map at u)) Stop) room
opens Array at u room = ap (λ q. cond q (Go AtItemOrEnd (with_open kind.List at u)) Stop) room

pub too_deep : (o : Collection) (t : List ℕ) (at : ℕ) (u : Unfinished) → nat_lt (length u.outer) 128 ≡ false → judge (opening o ∷ t) at AtValue u ≡ Err (TooDeep at)
too_deep Object t at u full = ap (λ q. judged (cond q (Go AtKeyOrEnd (with_open kind.Map at u)) Stop) (TooDeep at) (judge t (suc at))) full
too_deep Array t at u full = ap (λ q. judged (cond q (Go AtItemOrEnd (with_open kind.List at u)) Stop) (TooDeep at) (judge t (suc at))) full

kind_keyed : (o : Collection) → is_map (kind_of o) ≡ keyed o
kind_keyed Object = refl
kind_keyed Array = refl

kind_holds : (o : Collection) → holds_values (kind_of o) ≡ true
kind_holds Object = refl
kind_holds Array = refl

-- there is room for a collection, or a sign
room : (Q : Verdicts) (l : Label) (o : Collection) (depth : ℕ) → l.kind ≡ kind_of o → Alone Q l depth → (nat_lt depth 128 ≡ true) ⊎ ((nat_lt depth 128 ≡ false) × Signs Q)
room Q l o depth e (inl g) = elim (either (nat_lt depth 128)) [ inl h ↦ inl h | inr h ↦ inr (h, g) ]
room Q l o depth e (inr (r, s)) = inl (lt-ltb depth 128 (s (ap holds_values e ∙ kind_holds o)))

-- a number is in range, or out of it, or a sign
worth : (Q : Verdicts) (l : Label) (bytes : List ℕ) (p : Parts) (k : Kind) (depth : ℕ) → IsSpelled bytes p → StandsFor p k → l.kind ≡ k → Alone Q l depth → (number_kind bytes ≡ Some k) ⊎ ((number_kind bytes ≡ None) × Signs Q)
worth Q l bytes p k depth sp st e (inl g) = elim (kind_or (number_kind bytes)) [ inl (j, h) ↦ inl (h ∙ ap Some (worth_only bytes p k j sp st h)) | inr h ↦ inr (h, g) ]
worth Q l bytes p k depth sp st e (inr (r, s)) = inl (number_complete bytes p k sp st (subst IsInRange e r))

number_read : (Q : Verdicts) → NoSyntax Q → (bytes t : List ℕ) (p : Parts) (at : ℕ) (k : Kind) (u : Unfinished) → IsSpelled bytes p → (number_kind bytes ≡ Some k) ⊎ ((number_kind bytes ≡ None) × Signs Q) → Q (judge t (past at bytes) After (with_value k [] at u)) → Q (judge (bytes ++ t) at AtValue u)
number_read Q s bytes t p at k u sp (inl e) h = number_run Q bytes t at u (begins_with_number bytes p sp) (spelled_runs bytes p sp) (λ q c. number_end_read Q s t bytes (past at bytes) at q k u e h)
number_read Q s bytes t p at k u sp (inr (e, g)) h = number_run Q bytes t at u (begins_with_number bytes p sp) (spelled_runs bytes p sp) (λ q c. number_out_read Q s g t bytes (past at bytes) at q k u e c h)

collection_read : (Q : Verdicts) (kids : Forest) (o : Collection) (at : ℕ) (c t : List ℕ) (u : Unfinished) → ContentsRead Q o kids → Entries kids true o (suc at) c → Within Q kids Nil (suc (length u.outer)) → (nat_lt (length u.outer) 128 ≡ true) ⊎ ((nat_lt (length u.outer) 128 ≡ false) × Signs Q) → Q (judge t (suc (past (suc at) c)) After (with_node (record { kind = kind_of o; text = []; key = u.key; at = at }) kids u)) → Q (judge (opening o ∷ (c ++ (closing o ∷ t))) at AtValue u)
collection_read Q kids o at c t u reads p w (inl r) h =
    let lab : Label = record { kind = kind_of o; text = []; key = u.key; at = at } in
    step Q (opening o) (c ++ (closing o ∷ t)) at AtValue (phase_in o) u (with_open (kind_of o) at u) (opens o at u r) (reads (suc at) c t (record { label = lab; before = u.done }) u.outer (kind_keyed o) p w h)
collection_read Q kids o at c t u reads p w (inr (r, g)) h = subst Q (sym (too_deep o (c ++ (closing o ∷ t)) at u r)) (g (TooDeep at) tt)

value_read : (Q : Verdicts) → NoSyntax Q → (kids : Forest) (l : Label) (at : ℕ) (bytes t : List ℕ) (u : Unfinished) → ((o : Collection) → ContentsRead Q o kids) → IsValue (Entries kids true) at u.key l kids bytes → Within Q kids Nil (suc (length u.outer)) → Alone Q l (length u.outer) → Q (judge t (past at bytes) After (with_node l kids u)) → Q (judge (bytes ++ t) at AtValue u)
value_read Q s kids l at bytes t u reads (inl (k, text, e, ch, le, ke)) w a h =
    let place : past at bytes ≡ suc (past (suc at) k) = ap (past at) e ∙ past-append (suc at) k (34 ∷ []) in
    subst (λ x. Q (judge (x ++ t) at AtValue u)) (sym e) (text_read Q k text t at u ch (subst (λ n. Q (judge t n After (with_value kind.Text text at u))) place (subst (λ j. Q (judge t (past at bytes) After (with_node j Nil u))) le (subst (λ j. Q (judge t (past at bytes) After (with_node l j u))) ke h))))
value_read Q s kids l at bytes t u reads (inr (inl (p, k, sp, st, le, ke))) w a h =
    number_read Q s bytes t p at k u sp (worth Q l bytes p k (length u.outer) sp st (ap (λ (k : Label). k.kind) le) a) (subst (λ j. Q (judge t (past at bytes) After (with_node j Nil u))) le (subst (λ j. Q (judge t (past at bytes) After (with_node l j u))) ke h))
value_read Q s kids l at bytes t u reads (inr (inr (inl (k, nm, le, ke)))) w a h =
    word_read Q k at bytes t u nm (subst (λ j. Q (judge t (past at bytes) After (with_node j Nil u))) le (subst (λ j. Q (judge t (past at bytes) After (with_node l j u))) ke h))
value_read Q s kids l at bytes t u reads (inr (inr (inr (o, c, e, p, le)))) w a h =
    let lab : Label = record { kind = kind_of o; text = []; key = u.key; at = at } in
    let place : past at bytes ≡ suc (past (suc at) c) = ap (past at) e ∙ past-append (suc at) c (closing o ∷ []) in
    subst (λ x. Q (judge (x ++ t) at AtValue u)) (sym e) (subst (λ x. Q (judge (opening o ∷ x) at AtValue u)) (sym (append_assoc c (closing o ∷ []) t))
    (collection_read Q kids o at c t u (reads o) p w (room Q l o (length u.outer) (ap (λ (k : Label). k.kind) le) a) (subst (λ n. Q (judge t n After (with_node lab kids u))) place (subst (λ j. Q (judge t (past at bytes) After (with_node j kids u))) le h))))

value_key : (kids : Forest) (l : Label) (at : ℕ) (key : Option (List ℕ)) (bytes : List ℕ) (holds : Contents) → IsValue holds at key l kids bytes → l.key ≡ key
value_key kids l at key bytes holds (inl (s, text, e, ch, le, ke)) = ap (λ (k : Label). k.key) le
value_key kids l at key bytes holds (inr (inl (p, k, sp, st, le, ke))) = ap (λ (k : Label). k.key) le
value_key kids l at key bytes holds (inr (inr (inl (k, nm, le, ke)))) = ap (λ (k : Label). k.key) le
value_key kids l at key bytes holds (inr (inr (inr (o, c, e, p, le)))) = ap (λ (k : Label). k.key) le

-- before a key
lead_read : (Q : Verdicts) (first : Bool) (lead t : List ℕ) (at : ℕ) (x : Level) (xs : List Level) (done : Forest) → is_map x.label.kind ≡ true → IsLead first lead → Q (judge t (suc (past at lead)) (InString true [] [] (past at lead)) (state (x ∷ xs) done None)) → Q (judge (lead ++ (34 ∷ t)) at (phase Object first) (state (x ∷ xs) done None))
lead_read Q true lead t at x xs done m i h = skip_key_or_end Q lead (34 ∷ t) at (state (x ∷ xs) done None) i h
lead_read Q false lead t at x xs done m (w, y, e, ew, ey) h =
    let u = state (x ∷ xs) done None in
    let comma : next (past at w) After u 44 ≡ Go AtKey u = ap (λ q. cond q (Go AtKey u) (Go AtValue u)) m in
    subst (λ s. Q (judge (s ++ (34 ∷ t)) at After u)) (sym e) (subst (λ s. Q (judge s at After u)) (sym (append_assoc w (44 ∷ y) (34 ∷ t))) (skip_after Q w (44 ∷ (y ++ (34 ∷ t))) at u ew (step Q 44 (y ++ (34 ∷ t)) (past at w) After AtKey u u comma (skip_key Q y (34 ∷ t) (suc (past at w)) u ey
    (subst (λ n. Q (judge t (suc n) (InString true [] [] n) u)) (past-append at w (44 ∷ y)) (subst (λ s. Q (judge t (suc (past at s)) (InString true [] [] (past at s)) u)) e h))))))

-- a value that begins where an item or the end is awaited
item_case : (Q : Verdicts) → NoSyntax Q → (c : Class) (b at : ℕ) (t : List ℕ) (x : Level) (xs : List Level) (done : Forest) → (Q (judge t (suc at) AtValue (state (x ∷ xs) done None)) → Q (judge t (suc at) AtItemOrEnd (state (x ∷ xs) done None))) → Q (judged (value_next at (state (x ∷ xs) done None) b c) (value_cause at c) (judge t (suc at))) → Q (judged (item_or_end_next at (state (x ∷ xs) done None) b c) (value_cause at c) (judge t (suc at)))
item_case Q s Space b at t x xs done more h = more h
item_case Q s CloseList b at t x xs done more h = absurd (s at h)
item_case Q s _ b at t x xs done more h = h

first_item : (Q : Verdicts) → NoSyntax Q → (t : List ℕ) (at : ℕ) (x : Level) (xs : List Level) (done : Forest) → Q (judge t at AtValue (state (x ∷ xs) done None)) → Q (judge t at AtItemOrEnd (state (x ∷ xs) done None))
first_item Q s [] at x xs done h = absurd (s at h)
first_item Q s (b ∷ t) at x xs done h = item_case Q s (class_of b) b at t x xs done (first_item Q s t (suc at) x xs done) h

-- before an item
item_lead : (Q : Verdicts) → NoSyntax Q → (first : Bool) (lead t : List ℕ) (at : ℕ) (x : Level) (xs : List Level) (done : Forest) → is_map x.label.kind ≡ false → IsLead first lead → Q (judge t (past at lead) AtValue (state (x ∷ xs) done None)) → Q (judge (lead ++ t) at (phase Array first) (state (x ∷ xs) done None))
item_lead Q s true lead t at x xs done m i h = skip_item_or_end Q lead t at (state (x ∷ xs) done None) i (first_item Q s t (past at lead) x xs done h)
item_lead Q s false lead t at x xs done m (w, y, e, ew, ey) h =
    let u = state (x ∷ xs) done None in
    let comma : next (past at w) After u 44 ≡ Go AtValue u = ap (λ q. cond q (Go AtKey u) (Go AtValue u)) m in
    subst (λ s. Q (judge (s ++ t) at After u)) (sym e) (subst (λ s. Q (judge s at After u)) (sym (append_assoc w (44 ∷ y) t)) (skip_after Q w (44 ∷ (y ++ t)) at u ew (step Q 44 (y ++ t) (past at w) After AtValue u u comma (skip_value Q y t (suc (past at w)) u ey
    (subst (λ n. Q (judge t n AtValue u)) (past-append at w (44 ∷ y)) (subst (λ s. Q (judge t (past at s) AtValue u)) e h))))))

skip_in : (Q : Verdicts) (o : Collection) (first : Bool) (w t : List ℕ) (at : ℕ) (u : Unfinished) → Each is_space w → Q (judge t (past at w) (phase o first) u) → Q (judge (w ++ t) at (phase o first) u)
skip_in Q Object true w t at u e h = skip_key_or_end Q w t at u e h
skip_in Q Array true w t at u e h = skip_item_or_end Q w t at u e h
skip_in Q o false w t at u e h = skip_after Q w t at u e h

colon_read : (Q : Verdicts) (c t : List ℕ) (at : ℕ) (u : Unfinished) → IsSeparator 58 c → Q (judge t (past at c) AtValue u) → Q (judge (c ++ t) at AtColon u)
colon_read Q c t at u (w, y, e, ew, ey) h =
    subst (λ s. Q (judge (s ++ t) at AtColon u)) (sym e) (subst (λ s. Q (judge s at AtColon u)) (sym (append_assoc w (58 ∷ y) t)) (skip_colon Q w (58 ∷ (y ++ t)) at u ew (skip_value Q y t (suc (past at w)) u ey
    (subst (λ n. Q (judge t n AtValue u)) (past-append at w (58 ∷ y)) (subst (λ s. Q (judge t (past at s) AtValue u)) e h)))))

-- a key up to its colon: it is new, or a sign
pub new_key : (text : List ℕ) (t : List ℕ) (at a : ℕ) (u : Unfinished) → has_key u.done text ≡ false → judge (34 ∷ t) at (InString true text [] a) u ≡ judge t (suc at) AtColon (with_key text u)
new_key text t at a u e = ap (λ q. judged (cond q Stop (Go AtColon (with_key text u))) (DuplicateKey a) (judge t (suc at))) e

pub old_key : (text : List ℕ) (t : List ℕ) (at a : ℕ) (u : Unfinished) → has_key u.done text ≡ true → judge (34 ∷ t) at (InString true text [] a) u ≡ Err (DuplicateKey a)
old_key text t at a u e = ap (λ q. judged (cond q Stop (Go AtColon (with_key text u))) (DuplicateKey a) (judge t (suc at))) e

key_end : (Q : Verdicts) (text t : List ℕ) (at a : ℕ) (u : Unfinished) → Signs Q ⊎ (has_key u.done text ≡ false) → Q (judge t (suc at) AtColon (with_key text u)) → Q (judge (34 ∷ t) at (InString true text [] a) u)
key_end Q text t at a u (inr e) h = subst Q (sym (new_key text t at a u e)) h
key_end Q text t at a u (inl g) h = elim (either (has_key u.done text)) [ inl e ↦ subst Q (sym (old_key text t at a u e)) (g (DuplicateKey a) tt) | inr e ↦ subst Q (sym (new_key text t at a u e)) h ]

key_is_new : (Q : Verdicts) (done : Forest) (l : Label) (text : List ℕ) → l.key ≡ Some text → Signs Q ⊎ IsNew done l.key → Signs Q ⊎ (has_key done text ≡ false)
key_is_new Q done l text e (inl g) = inl g
key_is_new Q done l text e (inr n) = inr (subst (IsNew done) e n)

-- the pieces of a member, before what follows it
member_split : (k c w r : List ℕ) → (34 ∷ (k ++ (34 ∷ (c ++ w)))) ++ r ≡ 34 ∷ (k ++ (34 ∷ (c ++ (w ++ r))))
member_split k c w r = simp append_assoc

member_past : (at : ℕ) (k c w : List ℕ) → past at (34 ∷ (k ++ (34 ∷ (c ++ w)))) ≡ past (past (suc (past (suc at) k)) c) w
member_past at k c w = simp past-append

lead_split : (lead t r : List ℕ) → (lead ++ t) ++ r ≡ lead ++ (t ++ r)
lead_split lead t r = append_assoc lead t r

entry_past : (at : ℕ) (lead m r : List ℕ) → past at (lead ++ (m ++ r)) ≡ past (past (past at lead) m) r
entry_past at lead m r = simp past-append

forest_reads : (Q : Verdicts) → NoSyntax Q → (f : Forest) (o : Collection) (first : Bool) (at : ℕ) (bytes t : List ℕ) (x : Level) (xs : List Level) (done : Forest) → is_map x.label.kind ≡ keyed o → Entries f first o at bytes → Within Q f done (suc (length xs)) → Q (judge t (suc (past at bytes)) After (with_end (state (x ∷ xs) (joined done f) None))) → Q (judge (bytes ++ (closing o ∷ t)) at (phase o first) (state (x ∷ xs) done None))
forest_reads Q s Nil o first at bytes t x xs done km sp wi h = skip_in Q o first bytes (closing o ∷ t) at (state (x ∷ xs) done None) sp (close_read Q o first t (past at bytes) x xs done km (subst (λ g. Q (judge t (suc (past at bytes)) After (with_end (state (x ∷ xs) g None)))) (joined-Nil done) h))
forest_reads Q s (Node l kids rest) Array first at bytes t x xs done km (lead, m, r, e, il, iv, rs) wi h =
    let at2 = past at lead in
    let u : Unfinished = state (x ∷ xs) done None in
    let end = 93 ∷ t in
    let places : past at bytes ≡ past (past at2 m) r = ap (past at) e ∙ entry_past at lead m r in
    let last : Q (judge t (suc (past (past at2 m) r)) After (with_end (state (x ∷ xs) (joined (snoc done l kids) rest) None))) =
    subst (λ n. Q (judge t (suc n) After (with_end (state (x ∷ xs) (joined (snoc done l kids) rest) None)))) places (subst (λ g. Q (judge t (suc (past at bytes)) After (with_end (state (x ∷ xs) g None)))) (sym (joined-snoc done l kids rest)) h) in
    let after : Q (judge (r ++ end) (past at2 m) After (state (x ∷ xs) (snoc done l kids) None)) = forest_reads Q s rest Array false (past at2 m) r t x xs (snoc done l kids) km rs (within_rest Q l kids rest done (suc (length xs)) wi) last in
    let reads : (o : Collection) → ContentsRead Q o kids = λ o' at' c' t' y ys m' s' w' h'. forest_reads Q s kids o' true at' c' t' y ys Nil m' s' w' h' in
    let at_value : Q (judge (m ++ (r ++ end)) at2 AtValue u) = value_read Q s kids l at2 m (r ++ end) u reads iv (within_kids Q l kids rest done (suc (length xs)) wi) (within_one Q l kids rest done (suc (length xs)) wi) after in
    let split : bytes ++ end ≡ lead ++ (m ++ (r ++ end)) = ap (λ s. s ++ end) e ∙ append_assoc lead (m ++ r) end ∙ ap (λ s. lead ++ s) (append_assoc m r end) in
    subst (λ s. Q (judge s at (phase Array first) u)) (sym split) (item_lead Q s first lead (m ++ (r ++ end)) at x xs done km il at_value)
forest_reads Q s (Node l kids rest) Object first at bytes t x xs done km (lead, m, r, e, il, (k, text, c, w, em, ch, mc, iv), rs) wi h =
    let at2 = suc (past at lead) in
    let at3 = suc (past at2 k) in
    let at4 = past at3 c in
    let end = 125 ∷ t in
    let u : Unfinished = state (x ∷ xs) done None in
    let uk : Unfinished = state (x ∷ xs) done (Some text) in
    let key : l.key ≡ Some text = value_key kids l at4 (Some text) w (Entries kids true) iv in
    let member : past (past at lead) m ≡ past at4 w = ap (past (past at lead)) em ∙ member_past (past at lead) k c w in
    let places : past at bytes ≡ past (past at4 w) r = ap (past at) e ∙ entry_past at lead m r ∙ ap (λ n. past n r) member in
    let last : Q (judge t (suc (past (past at4 w) r)) After (with_end (state (x ∷ xs) (joined (snoc done l kids) rest) None))) =
    subst (λ n. Q (judge t (suc n) After (with_end (state (x ∷ xs) (joined (snoc done l kids) rest) None)))) places (subst (λ g. Q (judge t (suc (past at bytes)) After (with_end (state (x ∷ xs) g None)))) (sym (joined-snoc done l kids rest)) h) in
    let rs2 : Entries rest false Object (past at4 w) r = subst (λ (n : ℕ). Entries rest false Object n r) member rs in
    let after : Q (judge (r ++ end) (past at4 w) After (state (x ∷ xs) (snoc done l kids) None)) = forest_reads Q s rest Object false (past at4 w) r t x xs (snoc done l kids) km rs2 (within_rest Q l kids rest done (suc (length xs)) wi) last in
    let reads : (o : Collection) → ContentsRead Q o kids = λ o' at' c' t' y ys m' s' w' h'. forest_reads Q s kids o' true at' c' t' y ys Nil m' s' w' h' in
    let at_value : Q (judge (w ++ (r ++ end)) at4 AtValue uk) = value_read Q s kids l at4 w (r ++ end) uk reads iv (within_kids Q l kids rest done (suc (length xs)) wi) (within_one Q l kids rest done (suc (length xs)) wi) after in
    let at_colon : Q (judge (c ++ (w ++ (r ++ end))) at3 AtColon uk) = colon_read Q c (w ++ (r ++ end)) at3 uk mc at_value in
    let at_quote : Q (judge (34 ∷ (c ++ (w ++ (r ++ end)))) (past at2 k) (InString true text [] (past at lead)) u) = key_end Q text (c ++ (w ++ (r ++ end))) (past at2 k) (past at lead) u (key_is_new Q done l text key (within_key Q l kids rest done (suc (length xs)) wi)) at_colon in
    let in_key : Q (judge (k ++ (34 ∷ (c ++ (w ++ (r ++ end))))) at2 (InString true [] [] (past at lead)) u) = subst Q (sym (chars_run k text (34 ∷ (c ++ (w ++ (r ++ end)))) at2 true [] (past at lead) u ch)) at_quote in
    let split : bytes ++ end ≡ lead ++ (34 ∷ (k ++ (34 ∷ (c ++ (w ++ (r ++ end)))))) = ap (λ s. s ++ end) e ∙ append_assoc lead (m ++ r) end ∙ ap (λ s. lead ++ s) (append_assoc m r end ∙ ap (λ s. s ++ (r ++ end)) em ∙ member_split k c w (r ++ end)) in
    subst (λ s. Q (judge s at (phase Object first) u)) (sym split) (lead_read Q first lead (k ++ (34 ∷ (c ++ (w ++ (r ++ end))))) at x xs done km il in_key)

-- a text without its byte order mark
body_reads : (Q : Verdicts) → NoSyntax Q → (at : ℕ) (w m r : List ℕ) (l : Label) (kids : Forest) → Each is_space w → Each is_space r → IsValue (Entries kids true) (past at w) None l kids m → Within Q (Node l kids Nil) Nil 0 → Q (Ok (Node l kids Nil)) → Q (judge (w ++ (m ++ r)) at AtValue start)
body_reads Q s at w m r l kids ew er iv wi ok =
    let reads : (o : Collection) → ContentsRead Q o kids = λ o' at' c' t' y ys m' s' w' h'. forest_reads Q s kids o' true at' c' t' y ys Nil m' s' w' h' in
    let white : Q (judge (r ++ []) (past (past at w) m) After (with_node l kids start)) = skip_after Q r [] (past (past at w) m) (with_node l kids start) er ok in
    let after : Q (judge r (past (past at w) m) After (with_node l kids start)) = subst (λ s. Q (judge s (past (past at w) m) After (with_node l kids start))) (append-nil r) white in
    skip_value Q w (m ++ r) at start ew (value_read Q s kids l (past at w) m r start reads iv (within_kids Q l kids Nil Nil 0 wi) (within_one Q l kids Nil Nil 0 wi) after)

-- with or without one
text_reads : (Q : Verdicts) → NoSyntax Q → (bytes front w m r : List ℕ) (l : Label) (kids : Forest) → IsFront front → bytes ≡ front ++ (w ++ (m ++ r)) → Each is_space w → Each is_space r → IsValue (Entries kids true) (past (past 0 front) w) None l kids m → Within Q (Node l kids Nil) Nil 0 → Q (Ok (Node l kids Nil)) → Q (verdict bytes)
text_reads Q s bytes front w m r l kids (inl f) e ew er iv wi ok =
    let iv2 : IsValue (Entries kids true) (past 0 w) None l kids m = subst (λ (x : List ℕ). IsValue (Entries kids true) (past (past 0 x) w) None l kids m) f iv in
    let same : bytes ≡ w ++ (m ++ r) = e ∙ ap (λ x. x ++ (w ++ (m ++ r))) f in
    verdict_plain Q s bytes (subst (λ x. Q (judge x 0 AtValue start)) (sym same) (body_reads Q s 0 w m r l kids ew er iv2 wi ok))
text_reads Q s bytes front w m r l kids (inr f) e ew er iv wi ok =
    let iv2 : IsValue (Entries kids true) (past 3 w) None l kids m = subst (λ (x : List ℕ). IsValue (Entries kids true) (past (past 0 x) w) None l kids m) f iv in
    let same : bytes ≡ byte_order_mark ++ (w ++ (m ++ r)) = e ∙ ap (λ x. x ++ (w ++ (m ++ r))) f in
    subst Q (sym (verdict_marked bytes (w ++ (m ++ r)) same)) (body_reads Q s 3 w m r l kids ew er iv2 wi ok)

-- what the grammar spells has a verdict of each property that holds of its tree, and of each sign where it leaves the limits
pub shape_judged : (Q : Verdicts) → NoSyntax Q → (bytes : List ℕ) (tree : Forest) → Shape bytes tree → Within Q tree Nil 0 → Q (Ok tree) → Q (verdict bytes)
shape_judged Q s bytes tree (front, w, m, r, l, kids, e, ef, ew, er, iv, et) wi ok =
    text_reads Q s bytes front w m r l kids ef e ew er iv (subst (λ (g : Forest). Within Q g Nil 0) et wi) (subst (λ (g : Forest). Q (Ok g)) et ok)

ok_no_syntax : (v : Forest) (a : ℕ) → ◌≡◌ {A = Result Forest JsonRefusal} (Err (Syntax a)) (Ok v) → ⊥
ok_no_syntax v a e = cc

-- so a JSON text is read
pub complete : (bytes : List ℕ) (tree : Forest) → Json bytes tree → verdict bytes ≡ Ok tree
complete bytes tree j = shape_judged (λ r. r ≡ Ok tree) (ok_no_syntax tree) bytes tree j.shape (inr (j.distinct, j.in_range, j.shallow)) refl

-- a verdict that is not of a wrong syntax
abbrev pub IsShaped : Result Forest JsonRefusal → Type 0
IsShaped (Ok v) = Unit {0}
IsShaped (Err e) = IsSign e

-- and a text of the shape is not refused for its syntax
pub shaped : (bytes : List ℕ) (tree : Forest) → Shape bytes tree → IsShaped (verdict bytes)
shaped bytes tree p = shape_judged IsShaped (λ a h. h) bytes tree p (inl (λ e s. s)) tt
