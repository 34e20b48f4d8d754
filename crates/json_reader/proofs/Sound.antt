-- What is read is in the grammar: by induction on the bytes.
use Rattle.std.proofs.Common.{◌≡◌, ℕ, suc, Bool, true, false, List, [], ◌∷◌, ◌++◌, length, drop, refl, sym, ap, inl, inr, ◌∙◌, subst, arith, append_assoc, append-nil, Option, Some, None}
use Rattle.std.specs.Prelude.{nat_eq, nat_lt}
use Rattle.std.proofs.lemmas.Bool.Decides.{nat_tests}
use Rattle.doc_values.specs.declared.kind.Kind.{Kind}
use Rattle.doc_values.specs.declared.kind.Kind.TheVariants as kind
use Rattle.doc_values.specs.Tree.{Label, Forest, Nil, Node, snoc, joined, has_key, is_map}
use Rattle.doc_values.specs.code.Laws.{joined-Nil, joined-snoc}
use Rattle.decimals.specs.Number.{Parts, IsSpelled}
use Rattle.doc_values.specs.Unfinished.{Level, Unfinished, start, with_value, with_open, with_key, with_end}
use Rattle.json_reader.specs.declared.bytes.Class.{Class}
use Rattle.json_reader.specs.declared.bytes.Class.TheVariants.{Space, Quote, Open, Close, OpenList, CloseList, Colon, Comma, Minus, Zero, Digit, LetterN, LetterT, LetterF}
use Rattle.json_reader.specs.Json.{is_space, Each, Chars, past, IsSeparator, IsLead, StandsFor, Collection, Object, Array, opening, closing, kind_of, IsNamed, IsEntry, IsValue, Entries, IsFront, Shape}
use Rattle.json_reader.specs.code.Reading.{class_of, Phase, AtValue, AtKeyOrEnd, AtItemOrEnd, AtKey, AtColon, After, InString, InWord, InNumber, Next, Stop, Go, keyless, value_next, by_form, after_next, key_or_end_next, item_or_end_next, word_on, word_next, key_next, colon_next, number_done, number_next, next, whole_tree, Heard, Bad, Closed, Part, Whole, heard, string_end, string_next, number_end, final, goes_on, read, mark_len, tree_read}
use Rattle.json_reader.proofs.Spellings.{space_byte, quote_byte, open_byte, close_byte, open_list_byte, close_list_byte, n_byte, t_byte, f_byte, colon_byte, comma_byte, chosen, past-append}
use Rattle.json_reader.specs.declared.number.NumberPart.{NumberPart}
use Rattle.json_reader.specs.code.Numbers.{number_kind, first_part, part_next}
use Rattle.json_reader.proofs.NumberKinds.{number_sound}
use Rattle.json_reader.proofs.Strings.{no_chars, chars_cons, Hears, hears}
use Rattle.json_reader.proofs.Front.{front_of}

-- the form of a collection by whether it is a map
abbrev pub form : Bool → Collection
form true = Object
form false = Array

stops : (q : Phase) (w : Unfinished) → Stop ≡ Go q w → ⊥
stops q w e = cc

-- what may follow a complete value: the rest of each open collection, and white space
abbrev pub Ends : List Level → Forest → ℕ → List ℕ → Forest → Type 0
Ends [] done at bytes v = Each is_space bytes × (v ≡ done)
Ends (x ∷ xs) done at bytes v = (f : Forest) × (a b : List ℕ) × (bytes ≡ a ++ (closing (form (is_map x.label.kind)) ∷ b)) × Entries f false (form (is_map x.label.kind)) at a × Ends xs (snoc x.before x.label (joined done f)) (suc (past at a)) b v

-- what may follow an opening bracket
abbrev pub Begins : Bool → List Level → Forest → ℕ → List ℕ → Forest → Type 0
Begins map [] done at bytes v = Unit {0}
Begins map (x ∷ xs) done at bytes v = is_map x.label.kind ≡ map → (f : Forest) × (a b : List ℕ) × (bytes ≡ a ++ (closing (form map) ∷ b)) × Entries f true (form map) at a × Ends xs (snoc x.before x.label (joined done f)) (suc (past at a)) b v

-- what completes a phase
abbrev pub Completes : Phase → Unfinished → ℕ → List ℕ → Forest → Type 0
Completes AtValue u at bytes v = (w m r : List ℕ) × (l : Label) × (kids : Forest) × (bytes ≡ w ++ (m ++ r)) × Each is_space w × IsValue (Entries kids true) (past at w) u.key l kids m × Ends u.outer (snoc u.done l kids) (past (past at w) m) r v
Completes AtKeyOrEnd u at bytes v = Begins true u.outer u.done at bytes v
Completes AtItemOrEnd u at bytes v = Begins false u.outer u.done at bytes v
Completes AtKey u at bytes v = (w k text c m r : List ℕ) × (l : Label) × (kids : Forest) × (bytes ≡ w ++ (34 ∷ (k ++ (34 ∷ (c ++ (m ++ r)))))) × Each is_space w × Chars k text × IsSeparator 58 c × IsValue (Entries kids true) (past (suc (past (suc (past at w)) k)) c) (Some text) l kids m × Ends u.outer (snoc u.done l kids) (past (past (suc (past (suc (past at w)) k)) c) m) r v
Completes AtColon u at bytes v = (c m r : List ℕ) × (l : Label) × (kids : Forest) × (bytes ≡ c ++ (m ++ r)) × IsSeparator 58 c × IsValue (Entries kids true) (past at c) u.key l kids m × Ends u.outer (snoc u.done l kids) (past (past at c) m) r v
Completes After u at bytes v = Ends u.outer u.done at bytes v
Completes (InString true t part a) u at bytes v = (k text c m r : List ℕ) × (l : Label) × (kids : Forest) × (bytes ≡ k ++ (34 ∷ (c ++ (m ++ r)))) × Chars (part ++ k) text × IsSeparator 58 c × IsValue (Entries kids true) (past (suc (past at k)) c) (Some (t ++ text)) l kids m × Ends u.outer (snoc u.done l kids) (past (past (suc (past at k)) c) m) r v
Completes (InString false t part a) u at bytes v = (k text r : List ℕ) × (bytes ≡ k ++ (34 ∷ r)) × Chars (part ++ k) text × Ends u.outer (snoc u.done (record { kind = kind.Text; text = t ++ text; key = u.key; at = a }) Nil) (suc (past at k)) r v
Completes (InWord rest k a) u at bytes v = (r : List ℕ) × (bytes ≡ rest ++ r) × Ends u.outer (snoc u.done (record { kind = k; text = []; key = u.key; at = a }) Nil) (past at rest) r v
Completes (InNumber q t a) u at bytes v = (ds r : List ℕ) × (p : Parts) × (k : Kind) × (bytes ≡ ds ++ r) × IsSpelled (t ++ ds) p × StandsFor p k × Ends u.outer (snoc u.done (record { kind = k; text = []; key = u.key; at = a }) Nil) (past at ds) r v

pub moved : (p q : Phase) (u w : Unfinished) (at : ℕ) (bytes : List ℕ) (v : Forest) → Go p u ≡ Go q w → Completes q w at bytes v → Completes p u at bytes v
moved p q u w at bytes v e c =
    let same_phase : q ≡ p = cc in
    let same_tree : w ≡ u = cc in
    subst (λ p. Completes p u at bytes v) same_phase (subst (λ w. Completes q w at bytes v) same_tree c)

-- white space before entries
more_space : (f : Forest) (o : Collection) (first : Bool) (b at : ℕ) (a : List ℕ) → is_space b ≡ true → Entries f first o (suc at) a → Entries f first o at (b ∷ a)
more_space Nil o first b at a s h = (s, h)
more_space (Node l kids rest) o true b at a s (lead, m, r, e, il, en, sp) = (b ∷ lead, m, r, ap (λ t. b ∷ t) e, (s, il), en, sp)
more_space (Node l kids rest) o false b at a s (lead, m, r, e, (w, y, ew, sw, sy), en, sp) = (b ∷ lead, m, r, ap (λ t. b ∷ t) e, (b ∷ w, y, ap (λ t. b ∷ t) ew, (s, sw), sy), en, sp)

pub ends_space : (outer : List Level) (done : Forest) (b at : ℕ) (bytes : List ℕ) (v : Forest) → is_space b ≡ true → Ends outer done (suc at) bytes v → Ends outer done at (b ∷ bytes) v
ends_space [] done b at bytes v s (w, e) = ((s, w), e)
ends_space (x ∷ xs) done b at bytes v s (f, a, r, e, sp, en) = (f, b ∷ a, r, ap (λ t. b ∷ t) e, more_space f (form (is_map x.label.kind)) false b at a s sp, en)

begun_space : (map : Bool) (x : Level) (xs : List Level) (done : Forest) (b at : ℕ) (bytes : List ℕ) (v : Forest) → is_space b ≡ true → (f : Forest) × (a r : List ℕ) × (bytes ≡ a ++ (closing (form map) ∷ r)) × Entries f true (form map) (suc at) a × Ends xs (snoc x.before x.label (joined done f)) (suc (past (suc at) a)) r v → (f : Forest) × (a r : List ℕ) × (b ∷ bytes ≡ a ++ (closing (form map) ∷ r)) × Entries f true (form map) at a × Ends xs (snoc x.before x.label (joined done f)) (suc (past at a)) r v
begun_space map x xs done b at bytes v s (f, a, r, e, sp, en) = (f, b ∷ a, r, ap (λ t. b ∷ t) e, more_space f (form map) true b at a s sp, en)

pub begins_space : (map : Bool) (outer : List Level) (done : Forest) (b at : ℕ) (bytes : List ℕ) (v : Forest) → is_space b ≡ true → Begins map outer done (suc at) bytes v → Begins map outer done at (b ∷ bytes) v
begins_space map [] done b at bytes v s h = tt
begins_space map (x ∷ xs) done b at bytes v s h = λ k. begun_space map x xs done b at bytes v s (h k)

-- the innermost collection ends here
ends_close : (map : Bool) (x : Level) (xs : List Level) (done : Forest) (b at : ℕ) (bytes : List ℕ) (v : Forest) → is_map x.label.kind ≡ map → b ≡ closing (form map) → Ends xs (snoc x.before x.label done) (suc at) bytes v → Ends (x ∷ xs) done at (b ∷ bytes) v
ends_close map x xs done b at bytes v k c h = (Nil, [], bytes, ap (λ n. n ∷ bytes) (c ∙ ap (λ m. closing (form m)) (sym k)), tt, subst (λ g. Ends xs (snoc x.before x.label g) (suc at) bytes v) (sym (joined-Nil done)) h)

begins_close : (map : Bool) (x : Level) (xs : List Level) (done : Forest) (b at : ℕ) (bytes : List ℕ) (v : Forest) → b ≡ closing (form map) → Ends xs (snoc x.before x.label done) (suc at) bytes v → Begins map (x ∷ xs) done at (b ∷ bytes) v
begins_close map x xs done b at bytes v c h = λ _. (Nil, [], bytes, ap (λ n. n ∷ bytes) c, tt, subst (λ g. Ends xs (snoc x.before x.label g) (suc at) bytes v) (sym (joined-Nil done)) h)

-- an entry, and what follows it
record Entry (o : Collection) (first : Bool) (x : Level) (xs : List Level) (done : Forest) (at : ℕ) (bytes : List ℕ) (v : Forest) : Type 0 where
  rest : (f : Forest) × (a b : List ℕ) × (bytes ≡ a ++ (closing o ∷ b)) × Entries f first o at a × Ends xs (snoc x.before x.label (joined done f)) (suc (past at a)) b v

ends_form : (map : Bool) (x : Level) (xs : List Level) (done : Forest) (at : ℕ) (bytes : List ℕ) (v : Forest) → is_map x.label.kind ≡ map → Ends (x ∷ xs) done at bytes v → (f : Forest) × (a b : List ℕ) × (bytes ≡ a ++ (closing (form map) ∷ b)) × Entries f false (form map) at a × Ends xs (snoc x.before x.label (joined done f)) (suc (past at a)) b v
ends_form map x xs done at bytes v k (f, a, b, e, sp, en) = (f, a, b, e ∙ ap (λ m. a ++ (closing (form m) ∷ b)) k, subst (λ m. Entries f false (form m) at a) k sp, en)

formed_ends : (map : Bool) (x : Level) (xs : List Level) (done : Forest) (at : ℕ) (bytes : List ℕ) (v : Forest) → is_map x.label.kind ≡ map → (f : Forest) × (a b : List ℕ) × (bytes ≡ a ++ (closing (form map) ∷ b)) × Entries f false (form map) at a × Ends xs (snoc x.before x.label (joined done f)) (suc (past at a)) b v → Ends (x ∷ xs) done at bytes v
formed_ends map x xs done at bytes v k (f, a, b, e, sp, en) = (f, a, b, e ∙ ap (λ m. a ++ (closing (form m) ∷ b)) (sym k), subst (λ m. Entries f false (form m) at a) (sym k) sp, en)

form_ends : (map : Bool) (x : Level) (xs : List Level) (done : Forest) (at : ℕ) (bytes : List ℕ) (v : Forest) → is_map x.label.kind ≡ map → Entry (form map) false x xs done at bytes v → Ends (x ∷ xs) done at bytes v
form_ends map x xs done at bytes v k n = formed_ends map x xs done at bytes v k n.rest

entry_ends : (o : Collection) (first : Bool) (lead m r bytes : List ℕ) (x : Level) (xs : List Level) (l : Label) (kids done v : Forest) (at : ℕ) → bytes ≡ lead ++ (m ++ r) → IsLead first lead → IsEntry o (Entries kids true) (past at lead) l kids m → (f : Forest) × (a b : List ℕ) × (r ≡ a ++ (closing o ∷ b)) × Entries f false o (past (past at lead) m) a × Ends xs (snoc x.before x.label (joined (snoc done l kids) f)) (suc (past (past (past at lead) m) a)) b v → Entry o first x xs done at bytes v
entry_ends o first lead m r bytes x xs l kids done v at e il entry (f, a, b, e2, sp, en) =
    let places : past (past (past at lead) m) a ≡ past at (lead ++ (m ++ a)) = sym (past-append (past at lead) m a) ∙ sym (past-append at lead (m ++ a)) in
    let split : (lead ++ (m ++ a)) ++ (closing o ∷ b) ≡ lead ++ (m ++ (a ++ (closing o ∷ b))) = append_assoc lead (m ++ a) (closing o ∷ b) ∙ ap (λ t. lead ++ t) (append_assoc m a (closing o ∷ b)) in
    let whole : bytes ≡ (lead ++ (m ++ a)) ++ (closing o ∷ b) = e ∙ ap (λ t. lead ++ (m ++ t)) e2 ∙ sym split in
    record {
      rest = (
        Node l kids f,
        lead ++ (m ++ a),
        b,
        whole,
        (lead, m, a, refl, il, entry, sp),
        subst (λ g. Ends xs (snoc x.before x.label g) (suc (past at (lead ++ (m ++ a)))) b v) (joined-snoc done l kids f) (subst (λ n. Ends xs (snoc x.before x.label (joined (snoc done l kids) f)) (suc n) b v) places en),
      );
    }

-- a member, and what follows it
member_ends : (first : Bool) (lead k text c m r bytes : List ℕ) (x : Level) (xs : List Level) (l : Label) (kids done v : Forest) (at : ℕ) → is_map x.label.kind ≡ true → bytes ≡ lead ++ (34 ∷ (k ++ (34 ∷ (c ++ (m ++ r))))) → IsLead first lead → Chars k text → IsSeparator 58 c → IsValue (Entries kids true) (past (suc (past (suc (past at lead)) k)) c) (Some text) l kids m → Ends (x ∷ xs) (snoc done l kids) (past (past (suc (past (suc (past at lead)) k)) c) m) r v → Entry Object first x xs done at bytes v
member_ends first lead k text c m r bytes x xs l kids done v at km e il pk mc iv ends =
    let key : List ℕ = 34 ∷ (k ++ (34 ∷ (c ++ m))) in
    let member : past (past at lead) key ≡ past (past (suc (past (suc (past at lead)) k)) c) m = simp past-append in
    let split : lead ++ (34 ∷ (k ++ (34 ∷ (c ++ (m ++ r))))) ≡ lead ++ (key ++ r) = simp append_assoc in
    entry_ends Object first lead key r bytes x xs l kids done v at (e ∙ split) il (k, text, c, m, refl, pk, mc, iv)
    (ends_form true x xs (snoc done l kids) (past (past at lead) key) r v km (subst (λ n. Ends (x ∷ xs) (snoc done l kids) n r v) (sym member) ends))

space_value : (b at : ℕ) (u : Unfinished) (bytes : List ℕ) (v : Forest) → is_space b ≡ true → Completes AtValue u (suc at) bytes v → Completes AtValue u at (b ∷ bytes) v
space_value b at u bytes v s (w, m, r, l, kids, e, ew, iv, en) = (b ∷ w, m, r, l, kids, ap (λ t. b ∷ t) e, (s, ew), iv, en)

text_value : (b at : ℕ) (u : Unfinished) (bytes : List ℕ) (v : Forest) → b ≡ 34 → Completes (InString false [] [] at) u (suc at) bytes v → Completes AtValue u at (b ∷ bytes) v
text_value b at u bytes v q (k, text, r, e, ch, en) =
    let l : Label = record { kind = kind.Text; text = text; key = u.key; at = at } in
    ([], 34 ∷ (k ++ (34 ∷ [])), r, l, Nil, ap (λ n. n ∷ bytes) q ∙ ap (λ t. 34 ∷ t) (e ∙ sym (append_assoc k (34 ∷ []) r)), tt, inl (k, text, refl, ch, refl, refl), subst (λ n. Ends u.outer (snoc u.done l Nil) n r v) (sym (past-append (suc at) k (34 ∷ []))) en)

pub collection_value : (map : Bool) (o : Collection) (b at : ℕ) (u : Unfinished) (bytes : List ℕ) (v : Forest) → form map ≡ o → b ≡ opening o → ((f : Forest) × (a r : List ℕ) × (bytes ≡ a ++ (closing (form map) ∷ r)) × Entries f true (form map) (suc at) a × Ends u.outer (snoc u.done (record { kind = kind_of o; text = []; key = u.key; at = at }) (joined Nil f)) (suc (past (suc at) a)) r v) → Completes AtValue u at (b ∷ bytes) v
collection_value map o b at u bytes v same q (f, a, r, e, sp, en) =
    let l : Label = record { kind = kind_of o; text = []; key = u.key; at = at } in
    let end = closing o in
    ([], opening o ∷ (a ++ (end ∷ [])), r, l, f, ap (λ n. n ∷ bytes) q ∙ ap (λ t. opening o ∷ t) (e ∙ ap (λ p. a ++ (closing p ∷ r)) same ∙ sym (append_assoc a (end ∷ []) r)), tt, inr (inr (inr (o, a, refl, subst (λ p. Entries f true p (suc at) a) same sp, refl))), subst (λ n. Ends u.outer (snoc u.done l f) n r v) (sym (past-append (suc at) a (end ∷ []))) en)

word_value : (k : Kind) (c : ℕ) (rest : List ℕ) (b at : ℕ) (u : Unfinished) (bytes : List ℕ) (v : Forest) → IsNamed k (c ∷ rest) → b ≡ c → Completes (InWord rest k at) u (suc at) bytes v → Completes AtValue u at (b ∷ bytes) v
word_value k c rest b at u bytes v nm q (r, e, en) = ([], c ∷ rest, r, record { kind = k; text = []; key = u.key; at = at }, Nil, ap (λ n. n ∷ bytes) q ∙ ap (λ t. c ∷ t) e, tt, inr (inr (inl (k, nm, refl, refl))), en)

number_value : (b at : ℕ) (u : Unfinished) (bytes : List ℕ) (v : Forest) → Completes (InNumber (first_part b) (b ∷ []) at) u (suc at) bytes v → Completes AtValue u at (b ∷ bytes) v
number_value b at u bytes v (ds, r, p, k, e, sp, st, en) = ([], b ∷ ds, r, record { kind = k; text = []; key = u.key; at = at }, Nil, ap (λ t. b ∷ t) e, tt, inr (inl (p, k, sp, st, refl, refl)), en)

-- at a value
value_before : (c : Class) (b at : ℕ) (u w : Unfinished) (q : Phase) (bytes : List ℕ) (v : Forest) → class_of b ≡ c → value_next at u b c ≡ Go q w → Completes q w (suc at) bytes v → Completes AtValue u at (b ∷ bytes) v
value_before Space b at u w q bytes v cb e h = space_value b at u bytes v (space_byte b cb) (moved AtValue q u w (suc at) bytes v e h)
value_before Quote b at u w q bytes v cb e h = text_value b at u bytes v (quote_byte b cb) (moved (InString false [] [] at) q u w (suc at) bytes v e h)
value_before Open b at u w q bytes v cb e h = elim (chosen (nat_lt (length u.outer) 128) (Go AtKeyOrEnd (with_open kind.Map at u)) Stop (Go q w) e) [
  | inl k ↦ collection_value true Object b at u bytes v refl (open_byte b cb) (moved AtKeyOrEnd q (with_open kind.Map at u) w (suc at) bytes v k.1 h refl)
  | inr k ↦ absurd (stops q w k.1)
]
value_before OpenList b at u w q bytes v cb e h = elim (chosen (nat_lt (length u.outer) 128) (Go AtItemOrEnd (with_open kind.List at u)) Stop (Go q w) e) [
  | inl k ↦ collection_value false Array b at u bytes v refl (open_list_byte b cb) (moved AtItemOrEnd q (with_open kind.List at u) w (suc at) bytes v k.1 h refl)
  | inr k ↦ absurd (stops q w k.1)
]
value_before LetterN b at u w q bytes v cb e h = word_value kind.Null 110 (117 ∷ 108 ∷ 108 ∷ []) b at u bytes v refl (n_byte b cb) (moved (InWord (117 ∷ 108 ∷ 108 ∷ []) kind.Null at) q u w (suc at) bytes v e h)
value_before LetterT b at u w q bytes v cb e h = word_value (kind.Truth true) 116 (114 ∷ 117 ∷ 101 ∷ []) b at u bytes v refl (t_byte b cb) (moved (InWord (114 ∷ 117 ∷ 101 ∷ []) (kind.Truth true) at) q u w (suc at) bytes v e h)
value_before LetterF b at u w q bytes v cb e h = word_value (kind.Truth false) 102 (97 ∷ 108 ∷ 115 ∷ 101 ∷ []) b at u bytes v refl (f_byte b cb) (moved (InWord (97 ∷ 108 ∷ 115 ∷ 101 ∷ []) (kind.Truth false) at) q u w (suc at) bytes v e h)
value_before Minus b at u w q bytes v cb e h = number_value b at u bytes v (moved (InNumber (first_part b) (b ∷ []) at) q u w (suc at) bytes v e h)
value_before Zero b at u w q bytes v cb e h = number_value b at u bytes v (moved (InNumber (first_part b) (b ∷ []) at) q u w (suc at) bytes v e h)
value_before Digit b at u w q bytes v cb e h = number_value b at u bytes v (moved (InNumber (first_part b) (b ∷ []) at) q u w (suc at) bytes v e h)
value_before _ b at u w q bytes v cb e h = absurd (stops q w e)

-- in a literal name
word_goes : (rest : List ℕ) (k : Kind) (c b at a : ℕ) (u w : Unfinished) (q : Phase) (bytes : List ℕ) (v : Forest) → b ≡ c → word_on rest k a u ≡ Go q w → Completes q w (suc at) bytes v → Completes (InWord (c ∷ rest) k a) u at (b ∷ bytes) v
word_goes [] k c b at a u w q bytes v cb e h = (bytes, ap (λ n. n ∷ bytes) cb, moved After q (with_value k [] a u) w (suc at) bytes v e h)
word_goes (d ∷ rest) k c b at a u w q bytes v cb e h = let m = moved (InWord (d ∷ rest) k a) q u w (suc at) bytes v e h in (m.0, ap (λ n. n ∷ bytes) cb ∙ ap (λ t. c ∷ t) m.1, m.2)

byte_is : (b c : ℕ) → nat_eq b c ≡ true → b ≡ c
byte_is b c h = grind (arith, nat_tests)

word_before : (rest : List ℕ) (k : Kind) (b at a : ℕ) (u w : Unfinished) (q : Phase) (bytes : List ℕ) (v : Forest) → word_next rest k a u b ≡ Go q w → Completes q w (suc at) bytes v → Completes (InWord rest k a) u at (b ∷ bytes) v
word_before [] k b at a u w q bytes v e h = absurd (cc)
word_before (c ∷ rest) k b at a u w q bytes v e h = elim (chosen (nat_eq b c) (word_on rest k a u) Stop (Go q w) e) [
  | inl n ↦ word_goes rest k c b at a u w q bytes v (byte_is b c n.0) n.1 h
  | inr n ↦ absurd (stops q w n.1)
]

-- a comma, and an entry behind it
comma_member : (x : Level) (xs : List Level) (done : Forest) (key : Option (List ℕ)) (b at : ℕ) (bytes : List ℕ) (v : Forest) → is_map x.label.kind ≡ true → b ≡ 44 → Completes AtKey (record { outer = x ∷ xs; done = done; key = key }) (suc at) bytes v → Ends (x ∷ xs) done at (b ∷ bytes) v
comma_member x xs done key b at bytes v km cb (w, k, text, c, m, r, l, kids, e, ew, pk, mc, iv, en) =
    form_ends true x xs done at (b ∷ bytes) v km (member_ends false (44 ∷ w) k text c m r (b ∷ bytes) x xs l kids done v at km (ap (λ n. n ∷ bytes) cb ∙ ap (λ t. 44 ∷ t) e) ([], w, refl, tt, ew) pk mc iv en)

comma_item : (x : Level) (xs : List Level) (done : Forest) (b at : ℕ) (bytes : List ℕ) (v : Forest) → is_map x.label.kind ≡ false → b ≡ 44 → Completes AtValue (record { outer = x ∷ xs; done = done; key = None }) (suc at) bytes v → Ends (x ∷ xs) done at (b ∷ bytes) v
comma_item x xs done b at bytes v km cb (w, m, r, l, kids, e, ew, iv, en) =
    form_ends false x xs done at (b ∷ bytes) v km (entry_ends Array false (44 ∷ w) m r (b ∷ bytes) x xs l kids done v at (ap (λ n. n ∷ bytes) cb ∙ ap (λ t. 44 ∷ t) e) ([], w, refl, tt, ew) iv (ends_form false x xs (snoc done l kids) (past (past (suc at) w) m) r v km en))

-- behind a value
comma_case : (outer : List Level) (done : Forest) (key : Option (List ℕ)) (b at : ℕ) (w : Unfinished) (q : Phase) (bytes : List ℕ) (v : Forest) → b ≡ 44 → by_form outer (Go AtKey (record { outer = outer; done = done; key = key })) (Go AtValue (record { outer = outer; done = done; key = None })) ≡ Go q w → Completes q w (suc at) bytes v → Ends outer done at (b ∷ bytes) v
comma_case [] done key b at w q bytes v cb e h = absurd (cc)
comma_case (x ∷ xs) done key b at w q bytes v cb e h = elim (chosen (is_map x.label.kind) (Go AtKey (record { outer = x ∷ xs; done = done; key = key })) (Go AtValue (record { outer = x ∷ xs; done = done; key = None })) (Go q w) e) [
  | inl k ↦ comma_member x xs done key b at bytes v k.0 cb (moved AtKey q (record { outer = x ∷ xs; done = done; key = key }) w (suc at) bytes v k.1 h)
  | inr k ↦ comma_item x xs done b at bytes v k.0 cb (moved AtValue q (record { outer = x ∷ xs; done = done; key = None }) w (suc at) bytes v k.1 h)
]

close_case : (outer : List Level) (done : Forest) (key : Option (List ℕ)) (b at : ℕ) (w : Unfinished) (q : Phase) (bytes : List ℕ) (v : Forest) → b ≡ 125 → by_form outer (Go After (with_end (record { outer = outer; done = done; key = key }))) Stop ≡ Go q w → Completes q w (suc at) bytes v → Ends outer done at (b ∷ bytes) v
close_case [] done key b at w q bytes v cb e h = absurd (cc)
close_case (x ∷ xs) done key b at w q bytes v cb e h = elim (chosen (is_map x.label.kind) (Go After (with_end (record { outer = x ∷ xs; done = done; key = key }))) Stop (Go q w) e) [
  | inl k ↦ ends_close true x xs done b at bytes v k.0 cb (moved After q (with_end (record { outer = x ∷ xs; done = done; key = key })) w (suc at) bytes v k.1 h)
  | inr k ↦ absurd (stops q w k.1)
]

close_list_case : (outer : List Level) (done : Forest) (key : Option (List ℕ)) (b at : ℕ) (w : Unfinished) (q : Phase) (bytes : List ℕ) (v : Forest) → b ≡ 93 → by_form outer Stop (Go After (with_end (record { outer = outer; done = done; key = key }))) ≡ Go q w → Completes q w (suc at) bytes v → Ends outer done at (b ∷ bytes) v
close_list_case [] done key b at w q bytes v cb e h = absurd (cc)
close_list_case (x ∷ xs) done key b at w q bytes v cb e h = elim (chosen (is_map x.label.kind) Stop (Go After (with_end (record { outer = x ∷ xs; done = done; key = key }))) (Go q w) e) [
  | inl k ↦ absurd (stops q w k.1)
  | inr k ↦ ends_close false x xs done b at bytes v k.0 cb (moved After q (with_end (record { outer = x ∷ xs; done = done; key = key })) w (suc at) bytes v k.1 h)
]

after_before : (c : Class) (b at : ℕ) (u w : Unfinished) (q : Phase) (bytes : List ℕ) (v : Forest) → class_of b ≡ c → after_next u c ≡ Go q w → Completes q w (suc at) bytes v → Ends u.outer u.done at (b ∷ bytes) v
after_before Space b at u w q bytes v cb e h = ends_space u.outer u.done b at bytes v (space_byte b cb) (moved After q u w (suc at) bytes v e h)
after_before Comma b at u w q bytes v cb e h = comma_case u.outer u.done u.key b at w q bytes v (comma_byte b cb) e h
after_before Close b at u w q bytes v cb e h = close_case u.outer u.done u.key b at w q bytes v (close_byte b cb) e h
after_before CloseList b at u w q bytes v cb e h = close_list_case u.outer u.done u.key b at w q bytes v (close_list_byte b cb) e h
after_before _ b at u w q bytes v cb e h = absurd (stops q w e)

-- before a key
quote_key : (b at : ℕ) (u : Unfinished) (bytes : List ℕ) (v : Forest) → b ≡ 34 → Completes (InString true [] [] at) u (suc at) bytes v → Completes AtKey u at (b ∷ bytes) v
quote_key b at u bytes v cb (k, text, c, m, r, l, kids, e, pk, mc, iv, en) = ([], k, text, c, m, r, l, kids, ap (λ n. n ∷ bytes) cb ∙ ap (λ t. 34 ∷ t) e, tt, pk, mc, iv, en)

space_key : (b at : ℕ) (u : Unfinished) (bytes : List ℕ) (v : Forest) → is_space b ≡ true → Completes AtKey u (suc at) bytes v → Completes AtKey u at (b ∷ bytes) v
space_key b at u bytes v s (w, k, text, c, m, r, l, kids, e, ew, pk, mc, iv, en) = (b ∷ w, k, text, c, m, r, l, kids, ap (λ t. b ∷ t) e, (s, ew), pk, mc, iv, en)

key_before : (c : Class) (b at : ℕ) (u w : Unfinished) (q : Phase) (bytes : List ℕ) (v : Forest) → class_of b ≡ c → key_next at u c ≡ Go q w → Completes q w (suc at) bytes v → Completes AtKey u at (b ∷ bytes) v
key_before Space b at u w q bytes v cb e h = space_key b at u bytes v (space_byte b cb) (moved AtKey q u w (suc at) bytes v e h)
key_before Quote b at u w q bytes v cb e h = quote_key b at u bytes v (quote_byte b cb) (moved (InString true [] [] at) q u w (suc at) bytes v e h)
key_before _ b at u w q bytes v cb e h = absurd (stops q w e)

begins_key : (outer : List Level) (done : Forest) (key : Option (List ℕ)) (b at : ℕ) (bytes : List ℕ) (v : Forest) → b ≡ 34 → Completes (InString true [] [] at) (record { outer = outer; done = done; key = key }) (suc at) bytes v → Begins true outer done at (b ∷ bytes) v
begins_key [] done key b at bytes v cb h = tt
begins_key (x ∷ xs) done key b at bytes v cb (k, text, c, m, r, l, kids, e, pk, mc, iv, en) =
    λ km. (member_ends true [] k text c m r (b ∷ bytes) x xs l kids done v at km (ap (λ n. n ∷ bytes) cb ∙ ap (λ t. 34 ∷ t) e) tt pk mc iv en).rest

begins_end : (outer : List Level) (done : Forest) (key : Option (List ℕ)) (b at : ℕ) (w : Unfinished) (q : Phase) (bytes : List ℕ) (v : Forest) → b ≡ 125 → by_form outer (Go After (with_end (record { outer = outer; done = done; key = key }))) Stop ≡ Go q w → Completes q w (suc at) bytes v → Begins true outer done at (b ∷ bytes) v
begins_end [] done key b at w q bytes v cb e h = tt
begins_end (x ∷ xs) done key b at w q bytes v cb e h = elim (chosen (is_map x.label.kind) (Go After (with_end (record { outer = x ∷ xs; done = done; key = key }))) Stop (Go q w) e) [
  | inl k ↦ begins_close true x xs done b at bytes v cb (moved After q (with_end (record { outer = x ∷ xs; done = done; key = key })) w (suc at) bytes v k.1 h)
  | inr k ↦ absurd (stops q w k.1)
]

key_or_end_before : (c : Class) (b at : ℕ) (u w : Unfinished) (q : Phase) (bytes : List ℕ) (v : Forest) → class_of b ≡ c → key_or_end_next at u c ≡ Go q w → Completes q w (suc at) bytes v → Begins true u.outer u.done at (b ∷ bytes) v
key_or_end_before Space b at u w q bytes v cb e h = begins_space true u.outer u.done b at bytes v (space_byte b cb) (moved AtKeyOrEnd q u w (suc at) bytes v e h)
key_or_end_before Quote b at u w q bytes v cb e h = begins_key u.outer u.done u.key b at bytes v (quote_byte b cb) (moved (InString true [] [] at) q u w (suc at) bytes v e h)
key_or_end_before Close b at u w q bytes v cb e h = begins_end u.outer u.done u.key b at w q bytes v (close_byte b cb) e h
key_or_end_before _ b at u w q bytes v cb e h = absurd (stops q w e)

pub begins_item : (outer : List Level) (done : Forest) (at : ℕ) (bytes : List ℕ) (v : Forest) → Completes AtValue (record { outer = outer; done = done; key = None }) at bytes v → Begins false outer done at bytes v
begins_item [] done at bytes v h = tt
begins_item (x ∷ xs) done at bytes v (w, m, r, l, kids, e, ew, iv, en) =
    λ km. (entry_ends Array true w m r bytes x xs l kids done v at e ew iv (ends_form false x xs (snoc done l kids) (past (past at w) m) r v km en)).rest

list_end : (outer : List Level) (done : Forest) (key : Option (List ℕ)) (b at : ℕ) (w : Unfinished) (q : Phase) (bytes : List ℕ) (v : Forest) → b ≡ 93 → by_form outer Stop (Go After (with_end (record { outer = outer; done = done; key = key }))) ≡ Go q w → Completes q w (suc at) bytes v → Begins false outer done at (b ∷ bytes) v
list_end [] done key b at w q bytes v cb e h = tt
list_end (x ∷ xs) done key b at w q bytes v cb e h = elim (chosen (is_map x.label.kind) Stop (Go After (with_end (record { outer = x ∷ xs; done = done; key = key }))) (Go q w) e) [
  | inl k ↦ absurd (stops q w k.1)
  | inr k ↦ begins_close false x xs done b at bytes v cb (moved After q (with_end (record { outer = x ∷ xs; done = done; key = key })) w (suc at) bytes v k.1 h)
]

item_or_end_before : (c : Class) (b at : ℕ) (u w : Unfinished) (q : Phase) (bytes : List ℕ) (v : Forest) → class_of b ≡ c → item_or_end_next at u b c ≡ Go q w → Completes q w (suc at) bytes v → Begins false u.outer u.done at (b ∷ bytes) v
item_or_end_before Space b at u w q bytes v cb e h = begins_space false u.outer u.done b at bytes v (space_byte b cb) (moved AtItemOrEnd q u w (suc at) bytes v e h)
item_or_end_before CloseList b at u w q bytes v cb e h = list_end u.outer u.done u.key b at w q bytes v (close_list_byte b cb) e h
item_or_end_before c b at u w q bytes v cb e h = begins_item u.outer u.done at (b ∷ bytes) v (value_before c b at (keyless u) w q bytes v cb e h)

-- before a colon
space_colon : (b at : ℕ) (u : Unfinished) (bytes : List ℕ) (v : Forest) → is_space b ≡ true → Completes AtColon u (suc at) bytes v → Completes AtColon u at (b ∷ bytes) v
space_colon b at u bytes v s (c, m, r, l, kids, e, (w, y, ec, sw, sy), iv, en) = (b ∷ c, m, r, l, kids, ap (λ t. b ∷ t) e, (b ∷ w, y, ap (λ t. b ∷ t) ec, (s, sw), sy), iv, en)

mark_colon : (b at : ℕ) (u : Unfinished) (bytes : List ℕ) (v : Forest) → b ≡ 58 → Completes AtValue u (suc at) bytes v → Completes AtColon u at (b ∷ bytes) v
mark_colon b at u bytes v cb (w, m, r, l, kids, e, ew, iv, en) = (58 ∷ w, m, r, l, kids, ap (λ n. n ∷ bytes) cb ∙ ap (λ t. 58 ∷ t) e, ([], w, refl, tt, ew), iv, en)

colon_before : (c : Class) (b at : ℕ) (u w : Unfinished) (q : Phase) (bytes : List ℕ) (v : Forest) → class_of b ≡ c → colon_next u c ≡ Go q w → Completes q w (suc at) bytes v → Completes AtColon u at (b ∷ bytes) v
colon_before Space b at u w q bytes v cb e h = space_colon b at u bytes v (space_byte b cb) (moved AtColon q u w (suc at) bytes v e h)
colon_before Colon b at u w q bytes v cb e h = mark_colon b at u bytes v (colon_byte b cb) (moved AtValue q u w (suc at) bytes v e h)
colon_before _ b at u w q bytes v cb e h = absurd (stops q w e)

-- in a string
key_closes : (t : List ℕ) (b at a : ℕ) (u : Unfinished) (bytes : List ℕ) (v : Forest) → b ≡ 34 → Completes AtColon (with_key t u) (suc at) bytes v → Completes (InString true t [] a) u at (b ∷ bytes) v
key_closes t b at a u bytes v cb (c, m, r, l, kids, e, mc, iv, en) =
    ([], [], c, m, r, l, kids, ap (λ n. n ∷ bytes) cb ∙ ap (λ s. 34 ∷ s) e, no_chars, mc, subst (λ s. IsValue (Entries kids true) (past (suc at) c) (Some s) l kids m) (sym (append-nil t)) iv, en)

text_closes : (t : List ℕ) (b at a : ℕ) (u : Unfinished) (bytes : List ℕ) (v : Forest) → b ≡ 34 → Completes After (with_value kind.Text t a u) (suc at) bytes v → Completes (InString false t [] a) u at (b ∷ bytes) v
text_closes t b at a u bytes v cb h =
    ([], [], bytes, ap (λ n. n ∷ bytes) cb, no_chars, subst (λ s. Ends u.outer (snoc u.done (record { kind = kind.Text; text = s; key = u.key; at = a }) Nil) (suc at) bytes v) (sym (append-nil t)) h)

closes_at : (key : Bool) (t : List ℕ) (b at a : ℕ) (u w : Unfinished) (q : Phase) (bytes : List ℕ) (v : Forest) → b ≡ 34 → string_end key t a u ≡ Go q w → Completes q w (suc at) bytes v → Completes (InString key t [] a) u at (b ∷ bytes) v
closes_at true t b at a u w q bytes v cb e h = elim (chosen (has_key u.done t) Stop (Go AtColon (with_key t u)) (Go q w) e) [
  | inl n ↦ absurd (stops q w n.1)
  | inr n ↦ key_closes t b at a u bytes v cb (moved AtColon q (with_key t u) w (suc at) bytes v n.1 h)
]
closes_at false t b at a u w q bytes v cb e h = text_closes t b at a u bytes v cb (moved After q (with_value kind.Text t a u) w (suc at) bytes v e h)

string_closes : (key : Bool) (t part : List ℕ) (b at a : ℕ) (u w : Unfinished) (q : Phase) (bytes : List ℕ) (v : Forest) → (part ≡ []) × (b ≡ 34) → string_end key t a u ≡ Go q w → Completes q w (suc at) bytes v → Completes (InString key t part a) u at (b ∷ bytes) v
string_closes key t part b at a u w q bytes v i e h = subst (λ p. Completes (InString key t p a) u at (b ∷ bytes) v) (sym i.0) (closes_at key t b at a u w q bytes v i.1 e h)

part_goes_on : (key : Bool) (t part : List ℕ) (b at a : ℕ) (u : Unfinished) (bytes : List ℕ) (v : Forest) → Completes (InString key t (part ++ (b ∷ [])) a) u (suc at) bytes v → Completes (InString key t part a) u at (b ∷ bytes) v
part_goes_on true t part b at a u bytes v (k, text, c, m, r, l, kids, e, pk, mc, iv, en) =
    (b ∷ k, text, c, m, r, l, kids, ap (λ s. b ∷ s) e, subst (λ s. Chars s text) (append_assoc part (b ∷ []) k) pk, mc, iv, en)
part_goes_on false t part b at a u bytes v (k, text, r, e, pk, en) =
    (b ∷ k, text, r, ap (λ s. b ∷ s) e, subst (λ s. Chars s text) (append_assoc part (b ∷ []) k) pk, en)

whole_goes_on : (key : Bool) (t part m : List ℕ) (b at a : ℕ) (u : Unfinished) (bytes : List ℕ) (v : Forest) → Hears part b (Whole m) → Completes (InString key (t ++ m) [] a) u (suc at) bytes v → Completes (InString key t part a) u at (b ∷ bytes) v
whole_goes_on true t part x b at a u bytes v i (k, text, c, m, r, l, kids, e, pk, mc, iv, en) =
    (b ∷ k, x ++ text, c, m, r, l, kids, ap (λ s. b ∷ s) e, subst (λ s. Chars s (x ++ text)) (append_assoc part (b ∷ []) k) (chars_cons (part ++ (b ∷ [])) x k text i pk), mc, subst (λ s. IsValue (Entries kids true) (past (suc (past (suc at) k)) c) (Some s) l kids m) (append_assoc t x text) iv, en)
whole_goes_on false t part x b at a u bytes v i (k, text, r, e, pk, en) =
    (b ∷ k, x ++ text, r, ap (λ s. b ∷ s) e, subst (λ s. Chars s (x ++ text)) (append_assoc part (b ∷ []) k) (chars_cons (part ++ (b ∷ [])) x k text i pk), subst (λ s. Ends u.outer (snoc u.done (record { kind = kind.Text; text = s; key = u.key; at = a }) Nil) (suc (past (suc at) k)) r v) (append_assoc t x text) en)

heard_before : (h : Heard) (key : Bool) (t part : List ℕ) (b at a : ℕ) (u w : Unfinished) (q : Phase) (bytes : List ℕ) (v : Forest) → Hears part b h → string_next h key t a u ≡ Go q w → Completes q w (suc at) bytes v → Completes (InString key t part a) u at (b ∷ bytes) v
heard_before Bad key t part b at a u w q bytes v i e h = absurd (cc)
heard_before Closed key t part b at a u w q bytes v i e h = string_closes key t part b at a u w q bytes v i e h
heard_before (Part s) key t part b at a u w q bytes v i e h = part_goes_on key t part b at a u bytes v (subst (λ s. Completes (InString key t s a) u (suc at) bytes v) i (moved (InString key t s a) q u w (suc at) bytes v e h))
heard_before (Whole m) key t part b at a u w q bytes v i e h = whole_goes_on key t part m b at a u bytes v i (moved (InString key (t ++ m) [] a) q u w (suc at) bytes v e h)

-- in a number
pub number_goes : (o : Option Kind) (a : ℕ) (u : Unfinished) (f : Unfinished → Next) (q : Phase) (w : Unfinished) → number_done o a u f ≡ Go q w → (k : Kind) × (o ≡ Some k) × (f (with_value k [] a u) ≡ Go q w)
number_goes None a u f q w e = absurd (cc)
number_goes (Some k) a u f q w e = (k, refl, e)

number_more : (p r : NumberPart) (t : List ℕ) (b at a : ℕ) (u : Unfinished) (bytes : List ℕ) (v : Forest) → Completes (InNumber r (t ++ (b ∷ [])) a) u (suc at) bytes v → Completes (InNumber p t a) u at (b ∷ bytes) v
number_more p x t b at a u bytes v (ds, r, parts, k, e, sp, st, en) = (b ∷ ds, r, parts, k, ap (λ s. b ∷ s) e, subst (λ (s : List ℕ). IsSpelled s parts) (append_assoc t (b ∷ []) ds) sp, st, en)

number_stops : (p : NumberPart) (t : List ℕ) (b at a : ℕ) (u w : Unfinished) (q : Phase) (bytes : List ℕ) (v : Forest) → number_done (number_kind t) a u (λ x. after_next x (class_of b)) ≡ Go q w → Completes q w (suc at) bytes v → Completes (InNumber p t a) u at (b ∷ bytes) v
number_stops p t b at a u w q bytes v e h =
    let g = number_goes (number_kind t) a u (λ x. after_next x (class_of b)) q w e in
    let n = number_sound t g.0 g.1 in
    ([], b ∷ bytes, n.0, g.0, refl, subst (λ (s : List ℕ). IsSpelled s n.0) (sym (append-nil t)) n.1, n.2, after_before (class_of b) b at (with_value g.0 [] a u) w q bytes v refl g.2 h)

in_number_before : (o : Option NumberPart) (p : NumberPart) (t : List ℕ) (b at a : ℕ) (u w : Unfinished) (q : Phase) (bytes : List ℕ) (v : Forest) → number_next o t a u b ≡ Go q w → Completes q w (suc at) bytes v → Completes (InNumber p t a) u at (b ∷ bytes) v
in_number_before (Some x) p t b at a u w q bytes v e h = number_more p x t b at a u bytes v (moved (InNumber x (t ++ (b ∷ [])) a) q u w (suc at) bytes v e h)
in_number_before None p t b at a u w q bytes v e h = number_stops p t b at a u w q bytes v e h

-- one byte, in any phase
pub before : (p q : Phase) (b at : ℕ) (u w : Unfinished) (bytes : List ℕ) (v : Forest) → next at p u b ≡ Go q w → Completes q w (suc at) bytes v → Completes p u at (b ∷ bytes) v
before AtValue q b at u w bytes v e h = value_before (class_of b) b at u w q bytes v refl e h
before AtKeyOrEnd q b at u w bytes v e h = key_or_end_before (class_of b) b at u w q bytes v refl e h
before AtItemOrEnd q b at u w bytes v e h = item_or_end_before (class_of b) b at u w q bytes v refl e h
before AtKey q b at u w bytes v e h = key_before (class_of b) b at u w q bytes v refl e h
before AtColon q b at u w bytes v e h = colon_before (class_of b) b at u w q bytes v refl e h
before After q b at u w bytes v e h = after_before (class_of b) b at u w q bytes v refl e h
before (InString key t part a) q b at u w bytes v e h = heard_before (heard part b) key t part b at a u w q bytes v (hears part b) e h
before (InWord rest k a) q b at u w bytes v e h = word_before rest k b at a u w q bytes v e h
before (InNumber p t a) q b at u w bytes v e h = in_number_before (part_next p b) p t b at a u w q bytes v e h

pub goes : (n : Next) (f : Phase → Unfinished → Option Forest) (v : Forest) → goes_on n f ≡ Some v → (q : Phase) × (w : Unfinished) × (n ≡ Go q w) × (f q w ≡ Some v)
goes Stop f v e = absurd (cc)
goes (Go q w) f v e = (q, w, refl, e)

tree_ends : (outer : List Level) (done : Forest) (at : ℕ) (v : Forest) → whole_tree outer done ≡ Some v → Ends outer done at [] v
tree_ends [] done at v e = (tt, cc)
tree_ends (x ∷ xs) done at v e = absurd (cc)

number_ends : (o : Option Kind) (a at : ℕ) (u : Unfinished) (v : Forest) → number_end o a u ≡ Some v → (k : Kind) × (o ≡ Some k) × Ends u.outer (snoc u.done (record { kind = k; text = []; key = u.key; at = a }) Nil) at [] v
number_ends None a at u v e = absurd (cc)
number_ends (Some k) a at u v e = (k, refl, tree_ends u.outer (snoc u.done (record { kind = k; text = []; key = u.key; at = a }) Nil) at v e)

ended : (p : Phase) (u : Unfinished) (at : ℕ) (v : Forest) → final p u ≡ Some v → Completes p u at [] v
ended AtValue u at v e = absurd (cc)
ended AtKeyOrEnd u at v e = absurd (cc)
ended AtItemOrEnd u at v e = absurd (cc)
ended AtKey u at v e = absurd (cc)
ended AtColon u at v e = absurd (cc)
ended After u at v e = tree_ends u.outer u.done at v e
ended (InString key t part a) u at v e = absurd (cc)
ended (InWord rest k a) u at v e = absurd (cc)
ended (InNumber q t a) u at v e = let g = number_ends (number_kind t) a at u v e in let n = number_sound t g.0 g.1 in ([], [], n.0, g.0, refl, subst (λ (s : List ℕ). IsSpelled s n.0) (sym (append-nil t)) n.1, n.2, g.2)

pub completes : (bytes : List ℕ) (at : ℕ) (p : Phase) (u : Unfinished) (v : Forest) → read bytes at p u ≡ Some v → Completes p u at bytes v
completes [] at p u v e = ended p u at v e
completes (b ∷ bytes) at p u v e = let g = goes (next at p u b) (read bytes (suc at)) v e in before p g.0 b at u g.1 bytes v g.2 (completes bytes (suc at) g.0 g.1 v g.3)

shape_at : (bytes front : List ℕ) (n : ℕ) (tree : Forest) → IsFront front → past 0 front ≡ n → bytes ≡ front ++ drop n bytes → read (drop n bytes) n AtValue start ≡ Some tree → Shape bytes tree
shape_at bytes front n tree f place split e =
    let g = completes (drop n bytes) n AtValue start tree e in
    (front, g.0, g.1, g.2, g.3, g.4, split ∙ ap (λ t. front ++ t) g.5, f, g.6, g.8.0, subst (λ (k : ℕ). IsValue (Entries g.4 true) (past k g.0) None g.3 g.4 g.1) (sym place) g.7, g.8.1)

pub shape_read : (bytes : List ℕ) (tree : Forest) → tree_read bytes ≡ Some tree → Shape bytes tree
shape_read bytes tree e = let g = front_of bytes in shape_at bytes g.0 (mark_len bytes) tree g.1 g.2 g.3 e
