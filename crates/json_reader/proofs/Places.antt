-- Where reading ends with no sign: the least place at which a text leaves the shape of JSON, or its length.
use Rattle.std.proofs.Common.{◌≡◌, ℕ, suc, ◌<◌, ◌⊎◌, Bool, true, false, List, [], ◌∷◌, ◌++◌, length, drop, refl, sym, ap, inl, inr, ◌∙◌, subst, arith, append_assoc, length-append, Option, Some, None, cond}
use Rattle.std.specs.Prelude.{Err, nat_eq}
use Rattle.std.specs.List.{starts_with}
use Rattle.std.proofs.lemmas.Slice.Eq.{starts_is}
use Rattle.std.proofs.lemmas.Bool.Decides.{Decides-eqb}
use Rattle.doc_values.specs.declared.kind.Kind.{Kind}
use Rattle.doc_values.specs.Unfinished.{Unfinished, start}
use Rattle.json_reader.specs.declared.bytes.Class.{Class}
use Rattle.json_reader.specs.declared.bytes.Class.TheVariants.{Open, OpenList}
use Rattle.json_reader.specs.declared.refusal.JsonRefusal.TheVariants.{Syntax, NoMemory}
use Rattle.json_reader.specs.Json.{byte_order_mark, Shape}
use Rattle.json_reader.specs.code.Numbers.{number_kind, completes}
use Rattle.json_reader.specs.Refusals.{Begins, IsDead, IsLeastDead}
use Rattle.json_reader.specs.code.Reading.{class_of, Phase, AtValue, AtKeyOrEnd, AtItemOrEnd, AtKey, AtColon, After, InString, InWord, InNumber, Heard, Closed, heard, value_cause, string_cause, number_cause, cause, judged, final_cause, judge, mark_stop, behind_mark, verdict}
use Rattle.json_reader.proofs.Judged.{err_same}
use Rattle.json_reader.proofs.Front.{either}
use Rattle.json_reader.proofs.Closings.{closing_of}
use Rattle.json_reader.proofs.Paths.{StopsHere, Reached, reached_judge, reached_shape, NotMark, begins_so, stopped}
use Rattle.json_reader.proofs.Tokens.{reached_token, can_close}
use Rattle.json_reader.proofs.Counting.{shape_dead}

-- a wrong syntax points to the byte that ends the reading
value_place : (c : Class) (at a : ℕ) → value_cause at c ≡ Syntax a → a ≡ at
value_place Open at a e = absurd (cc)
value_place OpenList at a e = absurd (cc)
value_place _ at a e = cc

string_place : (h : Heard) (at k a : ℕ) → string_cause at h k ≡ Syntax a → a ≡ at
string_place Closed at k a e = absurd (cc)
string_place _ at k a e = cc

number_place : (q : Bool) (o : Option Kind) (at k a : ℕ) → number_cause at q o k ≡ Syntax a → a ≡ at
number_place true None at k a e = absurd (cc)
number_place true (Some x) at k a e = cc
number_place false o at k a e = cc

cause_place : (p : Phase) (at b a : ℕ) → cause at p b ≡ Syntax a → a ≡ at
cause_place AtValue at b a e = value_place (class_of b) at a e
cause_place AtItemOrEnd at b a e = value_place (class_of b) at a e
cause_place (InString key t part k) at b a e = string_place (heard part b) at k a e
cause_place (InNumber q t k) at b a e = number_place (completes q) (number_kind t) at k a e
cause_place AtKeyOrEnd at b a e = cc
cause_place AtKey at b a e = cc
cause_place AtColon at b a e = cc
cause_place After at b a e = cc
cause_place (InWord rest w k) at b a e = cc

final_place : (p : Phase) (at a : ℕ) → final_cause at p ≡ Syntax a → a ≡ at
final_place (InNumber q t k) at a e = number_place (completes q) (number_kind t) at k a e
final_place AtValue at a e = cc
final_place AtItemOrEnd at a e = cc
final_place AtKeyOrEnd at a e = cc
final_place AtKey at a e = cc
final_place AtColon at a e = cc
final_place After at a e = cc
final_place (InString key t part k) at a e = cc
final_place (InWord rest w k) at a e = cc

-- no place before the end of bytes that begin a text of the shape is dead
abbrev Cut : List ℕ → List ℕ → ℕ → Type 0
Cut pre before b = (mid : List ℕ) × (pre ≡ before ++ (b ∷ mid))

cut : (pre rest before behind : List ℕ) (b : ℕ) → pre ++ rest ≡ before ++ (b ∷ behind) → length before < length pre → Cut pre before b
cut [] rest before behind b e l = absurd (omega arith)
cut (x ∷ pre) rest [] behind b e l = let same : x ≡ b = cc in (pre, ap (λ n. n ∷ pre) same)
cut (x ∷ pre) rest (y ∷ before) behind b e l =
    let same : x ≡ y = cc in
    let tail : pre ++ rest ≡ before ++ (b ∷ behind) = cc in
    let r = cut pre rest before behind b tail (omega arith) in
    (r.0, ap (λ n. n ∷ pre) same ∙ ap (λ t. y ∷ t) r.1)

live_front : (pre before mid : List ℕ) (b : ℕ) → pre ≡ before ++ (b ∷ mid) → Begins Shape pre → Begins Shape (before ++ (b ∷ []))
live_front pre before mid b e (more, tree, p) = (mid ++ more, tree, subst (λ x. Shape x tree) (ap (λ x. x ++ more) e ∙ append_assoc before (b ∷ mid) more ∙ sym (append_assoc before (b ∷ []) (mid ++ more))) p)

live_below : (pre rest : List ℕ) → Begins Shape pre → (n : ℕ) → n < length pre → IsDead (pre ++ rest) n → ⊥
live_below pre rest live n l (before, behind, b, e, size, dead) =
    let c = cut pre rest before behind b e (omega (arith, size)) in
    dead (live_front pre before c.0 b c.1 live)

front_live : (pre : List ℕ) (q : Phase) (w : Unfinished) → Reached pre q w → Begins Shape pre
front_live pre q w r =
    let c = closing_of q w (length pre) (can_close pre q (reached_token pre q w r)) in
    (c.0, c.1, reached_shape pre c.0 q w c.1 r c.2)

-- the byte that ends a reading with no sign
abbrev Ends : List ℕ → List ℕ → ℕ → Type 0
Ends pre rest a = (a ≡ length pre) × (IsDead (pre ++ rest) (length pre) ⊎ (length pre ≡ length (pre ++ rest)))

not_nil : (pre : List ℕ) (b : ℕ) (t more : List ℕ) → (pre ≡ [] → NotMark (b ∷ t)) → pre ≡ [] → NotMark (b ∷ more)
not_nil pre b t more n z = n z

place_ends : (rest pre : List ℕ) (q : Phase) (w : Unfinished) (a : ℕ) → Reached pre q w → StopsHere rest (length pre) q w (Syntax a) → (pre ≡ [] → NotMark rest) → Ends pre rest a
place_ends [] pre q w a r c n = (final_place q (length pre) a c, inr (let h = length-append pre [] in omega (arith, h)))
place_ends (b ∷ t) pre q w a r (s, c) n =
    let dead : (more : List ℕ) → verdict ((pre ++ (b ∷ [])) ++ more) ≡ Err (Syntax a) = λ more.
    ap verdict (append_assoc pre (b ∷ []) more) ∙ reached_judge pre (b ∷ more) q w r (not_nil pre b t more n) ∙ ap (λ x. judged x (cause (length pre) q b) (judge more (suc (length pre)))) s ∙ ap Err c in
    (cause_place q (length pre) b a c, inl (pre, t, b, refl, refl, shape_dead (pre ++ (b ∷ [])) a dead))

least : (bytes pre rest : List ℕ) (a : ℕ) → bytes ≡ pre ++ rest → Begins Shape pre → Ends pre rest a → IsLeastDead bytes a
least bytes pre rest a e live (n, d) = subst (λ x. IsLeastDead x a) (sym e) (subst (λ k. IsLeastDead (pre ++ rest) k) (sym n) (d, live_below pre rest live))

-- bytes that leave the mark
true_false : (b : Bool) → b ≡ true → b ≡ false → ⊥
true_false b h e = let x : true ≡ false = sym h ∙ e in cc

is_so : (bytes front : List ℕ) → starts_with nat_eq bytes front ≡ true → bytes ≡ front ++ drop (length front) bytes
is_so bytes front h = (starts_is Decides-eqb bytes front true (sym h)).0 refl

left_at : (p q r : Bool) (n : ℕ) → cond p None (cond q (Some 2) (cond r (Some 1) None)) ≡ Some n → (p ≡ false) × (((q ≡ true) × (n ≡ 2)) ⊎ ((q ≡ false) × (r ≡ true) × (n ≡ 1)))
left_at true q r n h = absurd (cc)
left_at false true r n h = (refl, inl (refl, cc))
left_at false false true n h = (refl, inr (refl, refl, cc))
left_at false false false n h = absurd (cc)

second_verdict : (d : ℕ) (more : List ℕ) → (d ≡ 191 → ⊥) → verdict (239 ∷ (187 ∷ (d ∷ more))) ≡ Err (Syntax 2)
second_verdict d more n =
    let bytes : List ℕ = 239 ∷ (187 ∷ (d ∷ more)) in
    let p : starts_with nat_eq bytes byte_order_mark ≡ false = elim (either (starts_with nat_eq bytes byte_order_mark)) [
      | inl h ↦ (let e : 239 ∷ (187 ∷ (d ∷ more)) ≡ 239 ∷ (187 ∷ (191 ∷ drop 3 bytes)) = is_so bytes byte_order_mark h in let s : d ≡ 191 = cc in absurd (n s))
      | inr h ↦ h
    ] in
    ap (λ x. behind_mark bytes (cond x None (cond (starts_with nat_eq bytes (239 ∷ 187 ∷ [])) (Some 2) (cond (starts_with nat_eq bytes (239 ∷ [])) (Some 1) None)))) p
    ∙ ap (λ x. behind_mark bytes (cond x (Some 2) (cond (starts_with nat_eq bytes (239 ∷ [])) (Some 1) None))) (begins_so bytes (239 ∷ 187 ∷ []) (d ∷ more) refl)

first_verdict : (c : ℕ) (more : List ℕ) → (c ≡ 187 → ⊥) → verdict (239 ∷ (c ∷ more)) ≡ Err (Syntax 1)
first_verdict c more n =
    let bytes : List ℕ = 239 ∷ (c ∷ more) in
    let p : starts_with nat_eq bytes byte_order_mark ≡ false = elim (either (starts_with nat_eq bytes byte_order_mark)) [
      | inl h ↦ (let e : 239 ∷ (c ∷ more) ≡ 239 ∷ (187 ∷ (191 ∷ drop 3 bytes)) = is_so bytes byte_order_mark h in let s : c ≡ 187 = cc in absurd (n s))
      | inr h ↦ h
    ] in
    let q : starts_with nat_eq bytes (239 ∷ 187 ∷ []) ≡ false = elim (either (starts_with nat_eq bytes (239 ∷ 187 ∷ []))) [
      | inl h ↦ (let e : 239 ∷ (c ∷ more) ≡ 239 ∷ (187 ∷ drop 2 bytes) = is_so bytes (239 ∷ 187 ∷ []) h in let s : c ≡ 187 = cc in absurd (n s))
      | inr h ↦ h
    ] in
    ap (λ x. behind_mark bytes (cond x None (cond (starts_with nat_eq bytes (239 ∷ 187 ∷ [])) (Some 2) (cond (starts_with nat_eq bytes (239 ∷ [])) (Some 1) None)))) p
    ∙ ap (λ x. behind_mark bytes (cond x (Some 2) (cond (starts_with nat_eq bytes (239 ∷ [])) (Some 1) None))) q
    ∙ ap (λ x. behind_mark bytes (cond x (Some 1) None)) (begins_so bytes (239 ∷ []) (c ∷ more) refl)

marked_state : Reached byte_order_mark AtValue start
marked_state = record { front = byte_order_mark; body = []; is_front = inr refl; joined = refl; runs = refl }

marked_live : (pre more : List ℕ) → pre ++ more ≡ byte_order_mark → Begins Shape pre
marked_live pre more e =
    let l = front_live byte_order_mark AtValue start marked_state in
    (more ++ l.0, l.1, subst (λ x. Shape x l.1) (ap (λ x. x ++ l.0) (sym e) ∙ append_assoc pre more l.0) l.2)

second_ends : (rest : List ℕ) → starts_with nat_eq (239 ∷ (187 ∷ rest)) byte_order_mark ≡ false → Ends (239 ∷ 187 ∷ []) rest 2
second_ends [] f = (refl, inr refl)
second_ends (d ∷ r) f =
    let other : d ≡ 191 → ⊥ = λ e. true_false (starts_with nat_eq (239 ∷ (187 ∷ (d ∷ r))) byte_order_mark) (begins_so (239 ∷ (187 ∷ (d ∷ r))) byte_order_mark r (ap (λ z. 239 ∷ (187 ∷ (z ∷ r))) e)) f in
    (refl, inl (239 ∷ 187 ∷ [], r, d, refl, refl, shape_dead (239 ∷ 187 ∷ d ∷ []) 2 (λ more. second_verdict d more other)))

first_ends : (rest : List ℕ) → starts_with nat_eq (239 ∷ rest) (239 ∷ 187 ∷ []) ≡ false → Ends (239 ∷ []) rest 1
first_ends [] f = (refl, inr refl)
first_ends (c ∷ r) f =
    let other : c ≡ 187 → ⊥ = λ e. true_false (starts_with nat_eq (239 ∷ (c ∷ r)) (239 ∷ 187 ∷ [])) (begins_so (239 ∷ (c ∷ r)) (239 ∷ 187 ∷ []) r (ap (λ z. 239 ∷ (z ∷ r)) e)) f in
    (refl, inl (239 ∷ [], r, c, refl, refl, shape_dead (239 ∷ c ∷ []) 1 (λ more. first_verdict c more other)))

mark_least : (bytes : List ℕ) (n : ℕ) → mark_stop bytes ≡ Some n → IsLeastDead bytes n
mark_least bytes n m =
    let w = left_at (starts_with nat_eq bytes byte_order_mark) (starts_with nat_eq bytes (239 ∷ 187 ∷ [])) (starts_with nat_eq bytes (239 ∷ [])) n m in
    elim w.1 [
      | inl k ↦
          let e : bytes ≡ 239 ∷ (187 ∷ drop 2 bytes) = is_so bytes (239 ∷ 187 ∷ []) k.0 in
          subst (λ x. IsLeastDead bytes x) (sym k.1) (least bytes (239 ∷ 187 ∷ []) (drop 2 bytes) 2 e (marked_live (239 ∷ 187 ∷ []) (191 ∷ []) refl) (second_ends (drop 2 bytes) (ap (λ x. starts_with nat_eq x byte_order_mark) (sym e) ∙ w.0)))
      | inr k ↦
          let e : bytes ≡ 239 ∷ drop 1 bytes = is_so bytes (239 ∷ []) k.1 in
          subst (λ x. IsLeastDead bytes x) (sym k.2) (least bytes (239 ∷ []) (drop 1 bytes) 1 e (marked_live (239 ∷ []) (187 ∷ 191 ∷ []) refl) (first_ends (drop 1 bytes) (ap (λ x. starts_with nat_eq x (239 ∷ 187 ∷ [])) (sym e) ∙ k.0)))
    ]

syntax_same : (n a : ℕ) → Syntax n ≡ Syntax a → n ≡ a
syntax_same n a e = cc

place_least : (bytes : List ℕ) (a : ℕ) (o : Option ℕ) → mark_stop bytes ≡ o → behind_mark bytes o ≡ Err (Syntax a) → IsLeastDead bytes a
place_least bytes a (Some n) m v = subst (λ x. IsLeastDead bytes x) (syntax_same n a (err_same (Syntax n) (Syntax a) v)) (mark_least bytes n m)
place_least bytes a None m v =
    let g = stopped bytes (Syntax a) m (ap (behind_mark bytes) m ∙ v) in
    least bytes g.0 g.1 a g.4 (front_live g.0 g.2 g.3 g.5) (place_ends g.1 g.0 g.2 g.3 a g.5 g.6 g.7)

pub syntax_least : (bytes : List ℕ) (a : ℕ) → verdict bytes ≡ Err (Syntax a) → IsLeastDead bytes a
syntax_least bytes a v = place_least bytes a (mark_stop bytes) refl v

-- want of memory ends no reading
value_memory : (c : Class) (at : ℕ) → value_cause at c ≡ NoMemory → ⊥
value_memory Open at e = cc
value_memory OpenList at e = cc
value_memory _ at e = cc

string_memory : (h : Heard) (at k : ℕ) → string_cause at h k ≡ NoMemory → ⊥
string_memory Closed at k e = cc
string_memory _ at k e = cc

number_memory : (q : Bool) (o : Option Kind) (at k : ℕ) → number_cause at q o k ≡ NoMemory → ⊥
number_memory true None at k e = cc
number_memory true (Some x) at k e = cc
number_memory false o at k e = cc

cause_memory : (p : Phase) (at b : ℕ) → cause at p b ≡ NoMemory → ⊥
cause_memory AtValue at b e = value_memory (class_of b) at e
cause_memory AtItemOrEnd at b e = value_memory (class_of b) at e
cause_memory (InString key t part k) at b e = string_memory (heard part b) at k e
cause_memory (InNumber q t k) at b e = number_memory (completes q) (number_kind t) at k e
cause_memory AtKeyOrEnd at b e = cc
cause_memory AtKey at b e = cc
cause_memory AtColon at b e = cc
cause_memory After at b e = cc
cause_memory (InWord rest w k) at b e = cc

final_memory : (p : Phase) (at : ℕ) → final_cause at p ≡ NoMemory → ⊥
final_memory (InNumber q t k) at e = number_memory (completes q) (number_kind t) at k e
final_memory AtValue at e = cc
final_memory AtItemOrEnd at e = cc
final_memory AtKeyOrEnd at e = cc
final_memory AtKey at e = cc
final_memory AtColon at e = cc
final_memory After at e = cc
final_memory (InString key t part k) at e = cc
final_memory (InWord rest w k) at e = cc

here_memory : (rest : List ℕ) (at : ℕ) (q : Phase) (w : Unfinished) → StopsHere rest at q w NoMemory → ⊥
here_memory [] at q w c = final_memory q at c
here_memory (b ∷ t) at q w (s, c) = cause_memory q at b c

mark_memory : (bytes : List ℕ) (o : Option ℕ) → mark_stop bytes ≡ o → behind_mark bytes o ≡ Err NoMemory → ⊥
mark_memory bytes (Some n) m v = let e : Syntax n ≡ NoMemory = err_same (Syntax n) NoMemory v in cc
mark_memory bytes None m v = let g = stopped bytes NoMemory m (ap (behind_mark bytes) m ∙ v) in here_memory g.1 (length g.0) g.2 g.3 g.6

pub no_memory : (bytes : List ℕ) → verdict bytes ≡ Err NoMemory → ⊥
no_memory bytes v = mark_memory bytes (mark_stop bytes) refl v
