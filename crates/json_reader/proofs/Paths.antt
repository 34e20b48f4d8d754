-- Ways of a reading over the front of a text, and the state that each leads to.
use Rattle.std.proofs.Common.{◌≡◌, ℕ, suc, ◌⊎◌, Bool, true, false, List, [], ◌∷◌, ◌++◌, length, drop, refl, sym, ap, inl, inr, ◌∙◌, subst, arith, append_assoc, Option, Some, None, cond}
use Rattle.std.specs.Prelude.{Ok, Err, nat_eq}
use Rattle.std.specs.List.{starts_with}
use Rattle.std.proofs.lemmas.Slice.Eq.{starts_is}
use Rattle.std.proofs.lemmas.Bool.Decides.{Decides-eqb}
use Rattle.doc_values.specs.Tree.{Forest}
use Rattle.doc_values.specs.Unfinished.{Unfinished, start}
use Rattle.json_reader.specs.declared.refusal.JsonRefusal.{JsonRefusal}
use Rattle.json_reader.specs.declared.refusal.JsonRefusal.TheVariants.{Syntax}
use Rattle.json_reader.specs.Json.{past, byte_order_mark, IsFront, Shape}
use Rattle.json_reader.specs.code.Reading.{Phase, AtValue, Next, Stop, Go, next, cause, judged, ended, final, final_cause, judge, mark_stop, behind_mark, verdict}
use Rattle.json_reader.proofs.Spellings.{past-append, past-length}
use Rattle.json_reader.proofs.Judged.{err_same, err_ok}
use Rattle.json_reader.proofs.Front.{either, other_first, verdict_marked}
use Rattle.json_reader.proofs.Sound.{Completes, moved, before}
use Rattle.json_reader.proofs.Limits.{KeepsLimitsAt, kept_moved, kept_next}

-- where a reading stands behind bytes
abbrev pub then_run : Next → (Phase → Unfinished → Next) → Next
then_run Stop f = Stop
then_run (Go p u) f = f p u

abbrev pub run : List ℕ → ℕ → Phase → Unfinished → Next
run [] at p u = Go p u
run (b ∷ bs) at p u = then_run (next at p u b) (run bs (suc at))

pub goes_or : (n : Next) → (n ≡ Stop) ⊎ ((q : Phase) × (w : Unfinished) × (n ≡ Go q w))
goes_or Stop = inl refl
goes_or (Go q w) = inr (q, w, refl)

stop_go : (q : Phase) (w : Unfinished) → Stop ≡ Go q w → ⊥
stop_go q w e = cc

pub then_goes : (n : Next) (f : Phase → Unfinished → Next) (q : Phase) (w : Unfinished) → then_run n f ≡ Go q w → (p : Phase) × (u : Unfinished) × (n ≡ Go p u) × (f p u ≡ Go q w)
then_goes Stop f q w e = absurd (stop_go q w e)
then_goes (Go p u) f q w e = (p, u, refl, e)

then_then : (n : Next) (f g : Phase → Unfinished → Next) → then_run n (λ p u. then_run (f p u) g) ≡ then_run (then_run n f) g
then_then Stop f g = refl
then_then (Go p u) f g = refl

run_append : (a b : List ℕ) (at : ℕ) (p : Phase) (u : Unfinished) → run (a ++ b) at p u ≡ then_run (run a at p u) (run b (past at a))
run_append [] b at p u = refl
run_append (x ∷ a) b at p u = then_same (next at p u x) (run (a ++ b) (suc at)) (λ q w. then_run (run a (suc at) q w) (run b (past (suc at) a))) (run_append a b (suc at)) ∙ then_then (next at p u x) (run a (suc at)) (run b (past (suc at) a))
  where
    then_same : (n : Next) (f g : Phase → Unfinished → Next) → ((q : Phase) (w : Unfinished) → f q w ≡ g q w) → then_run n f ≡ then_run n g
    then_same Stop f g h = refl
    then_same (Go q w) f g h = h q w

go_judge : (p q : Phase) (u w : Unfinished) (t : List ℕ) (at : ℕ) → Go p u ≡ Go q w → judge t at p u ≡ judge t at q w
go_judge p q u w t at e =
    let same_phase : p ≡ q = cc in
    let same_tree : u ≡ w = cc in
    ap (λ x. judge t at x u) same_phase ∙ ap (λ x. judge t at q x) same_tree

run_judge : (pre t : List ℕ) (at : ℕ) (p : Phase) (u : Unfinished) (q : Phase) (w : Unfinished) → run pre at p u ≡ Go q w → judge (pre ++ t) at p u ≡ judge t (past at pre) q w
run_judge [] t at p u q w e = go_judge p q u w t at e
run_judge (b ∷ pre) t at p u q w e =
    let g = then_goes (next at p u b) (run pre (suc at)) q w e in
    ap (λ n. judged n (cause at p b) (judge (pre ++ t) (suc at))) g.2 ∙ run_judge pre t (suc at) g.0 g.1 q w g.3

run_completes : (pre t : List ℕ) (at : ℕ) (p : Phase) (u : Unfinished) (q : Phase) (w : Unfinished) (v : Forest) → run pre at p u ≡ Go q w → Completes q w (past at pre) t v → Completes p u at (pre ++ t) v
run_completes [] t at p u q w v e c = moved p q u w at t v e c
run_completes (b ∷ pre) t at p u q w v e c =
    let g = then_goes (next at p u b) (run pre (suc at)) q w e in
    before p g.0 b at u g.1 (pre ++ t) v g.2 (run_completes pre t (suc at) g.0 g.1 q w v g.3 c)

run_kept : (pre : List ℕ) (at : ℕ) (p : Phase) (u : Unfinished) (q : Phase) (w : Unfinished) → run pre at p u ≡ Go q w → KeepsLimitsAt p u → KeepsLimitsAt q w
run_kept [] at p u q w e k = kept_moved p q u w e k
run_kept (b ∷ pre) at p u q w e k =
    let g = then_goes (next at p u b) (run pre (suc at)) q w e in
    run_kept pre (suc at) g.0 g.1 q w g.3 (kept_next p g.0 b at u g.1 g.2 k)

-- bytes over which no way leads are refused whatever follows
run_stops : (pre : List ℕ) (at : ℕ) (p : Phase) (u : Unfinished) → run pre at p u ≡ Stop → (e : JsonRefusal) × ((t : List ℕ) → judge (pre ++ t) at p u ≡ Err e)
run_stops [] at p u h = absurd (stop_go p u (sym h))
run_stops (b ∷ pre) at p u h = elim (goes_or (next at p u b)) [
  | inl e ↦ (cause at p b, λ t. ap (λ n. judged n (cause at p b) (judge (pre ++ t) (suc at))) e)
  | inr (q, w, e) ↦
      let r = run_stops pre (suc at) q w (sym (ap (λ n. then_run n (run pre (suc at))) e) ∙ h) in
      (r.0, λ t. ap (λ n. judged n (cause at p b) (judge (pre ++ t) (suc at))) e ∙ r.1 t)
]

-- so a way leads over the front of what is read
run_goes : (pre t : List ℕ) (at : ℕ) (p : Phase) (u : Unfinished) (v : Forest) → judge (pre ++ t) at p u ≡ Ok v → (q : Phase) × (w : Unfinished) × (run pre at p u ≡ Go q w)
run_goes pre t at p u v h = elim (goes_or (run pre at p u)) [ inl e ↦ let r = run_stops pre at p u e in absurd (err_ok r.0 v (sym (r.1 t) ∙ h)) | inr g ↦ g ]

-- the bytes end a reading here, for a cause
abbrev pub StopsHere : List ℕ → ℕ → Phase → Unfinished → JsonRefusal → Type 0
StopsHere [] at q w e = final_cause at q ≡ e
StopsHere (b ∷ t) at q w e = (next at q w b ≡ Stop) × (cause at q b ≡ e)

ended_cause : (o : Option Forest) (x y : JsonRefusal) → ended o x ≡ Err y → x ≡ y
ended_cause None x y e = err_same x y e
ended_cause (Some v) x y e = absurd (err_ok y v (sym e))

abbrev Split : List ℕ → ℕ → Phase → Unfinished → JsonRefusal → Type 0
Split bytes at p u e = (pre rest : List ℕ) × (q : Phase) × (w : Unfinished) × (bytes ≡ pre ++ rest) × (run pre at p u ≡ Go q w) × StopsHere rest (past at pre) q w e

run_split : (bytes : List ℕ) (at : ℕ) (p : Phase) (u : Unfinished) (e : JsonRefusal) → judge bytes at p u ≡ Err e → Split bytes at p u e
run_split [] at p u e h = ([], [], p, u, refl, refl, ended_cause (final p u) (final_cause at p) e h)
run_split (b ∷ bytes) at p u e h = elim (goes_or (next at p u b)) [
  | inl s ↦ ([], b ∷ bytes, p, u, refl, refl, (s, err_same (cause at p b) e (sym (ap (λ n. judged n (cause at p b) (judge bytes (suc at))) s) ∙ h)))
  | inr (q, w, g) ↦
      let r = run_split bytes (suc at) q w e (sym (ap (λ n. judged n (cause at p b) (judge bytes (suc at))) g) ∙ h) in
      (b ∷ r.0, r.1, r.2, r.3, ap (λ t. b ∷ t) r.4, ap (λ n. then_run n (run r.0 (suc at))) g ∙ r.5, r.6)
]

-- The front of a text leads from its beginning, or from behind its mark, to a state.
pub record Reached (pre : List ℕ) (q : Phase) (w : Unfinished) : Type 0 where
  pub front : List ℕ
  pub body : List ℕ
  pub is_front : IsFront front
  pub joined : pre ≡ front ++ body
  pub runs : run body (past 0 front) AtValue start ≡ Go q w

front_place : (front body : List ℕ) → past (past 0 front) body ≡ length (front ++ body)
front_place front body = sym (past-append 0 front body) ∙ (let h = past-length 0 (front ++ body) in omega (arith, h))

pub reached_place : (pre : List ℕ) (q : Phase) (w : Unfinished) (r : Reached pre q w) → past (past 0 r.front) r.body ≡ length pre
reached_place pre q w r = front_place r.front r.body ∙ ap (λ (t : List ℕ). length t) (sym r.joined)

-- what follows does not begin as a mark does
abbrev pub NotMark : List ℕ → Type 0
NotMark [] = Unit {0}
NotMark (b ∷ t) = b ≡ 239 → ⊥

unmarked_text : (t : List ℕ) → NotMark t → verdict t ≡ judge t 0 AtValue start
unmarked_text [] n = refl
unmarked_text (b ∷ t) n = other_first b t n

mark_stops : (b : ℕ) (body : List ℕ) (q : Phase) (w : Unfinished) → run (b ∷ body) 0 AtValue start ≡ Go q w → b ≡ 239 → ⊥
mark_stops b body q w h e = stop_go q w (ap (λ n. run (n ∷ body) 0 AtValue start) (sym e) ∙ h)

plain_judge : (body t : List ℕ) (q : Phase) (w : Unfinished) → run body 0 AtValue start ≡ Go q w → (body ≡ [] → NotMark t) → verdict (body ++ t) ≡ judge t (past 0 body) q w
plain_judge [] t q w h n = unmarked_text t (n refl) ∙ run_judge [] t 0 AtValue start q w h
plain_judge (b ∷ body) t q w h n = other_first b (body ++ t) (mark_stops b body q w h) ∙ run_judge (b ∷ body) t 0 AtValue start q w h

front_judge : (pre front body t : List ℕ) (q : Phase) (w : Unfinished) → IsFront front → pre ≡ front ++ body → run body (past 0 front) AtValue start ≡ Go q w → (pre ≡ [] → NotMark t) → verdict (pre ++ t) ≡ judge t (past (past 0 front) body) q w
front_judge pre front body t q w (inl f) e h n =
    let same : pre ≡ body = e ∙ ap (λ x. x ++ body) f in
    ap (λ x. verdict (x ++ t)) same ∙ plain_judge body t q w (ap (λ x. run body (past 0 x) AtValue start) (sym f) ∙ h) (λ z. n (same ∙ z)) ∙ ap (λ x. judge t (past (past 0 x) body) q w) (sym f)
front_judge pre front body t q w (inr f) e h n =
    let same : pre ≡ byte_order_mark ++ body = e ∙ ap (λ x. x ++ body) f in
    verdict_marked (pre ++ t) (body ++ t) (ap (λ x. x ++ t) same) ∙ run_judge body t 3 AtValue start q w (ap (λ x. run body (past 0 x) AtValue start) (sym f) ∙ h) ∙ ap (λ x. judge t (past (past 0 x) body) q w) (sym f)

-- the verdict of a text is what is read from the state that its front leads to
pub reached_judge : (pre t : List ℕ) (q : Phase) (w : Unfinished) → Reached pre q w → (pre ≡ [] → NotMark t) → verdict (pre ++ t) ≡ judge t (length pre) q w
reached_judge pre t q w r n = front_judge pre r.front r.body t q w r.is_front r.joined r.runs n ∙ ap (λ k. judge t k q w) (reached_place pre q w r)

-- what completes the state completes the text
pub reached_shape : (pre t : List ℕ) (q : Phase) (w : Unfinished) (v : Forest) → Reached pre q w → Completes q w (length pre) t v → Shape (pre ++ t) v
reached_shape pre t q w v r c =
    let g = run_completes r.body t (past 0 r.front) AtValue start q w v r.runs (subst (λ k. Completes q w k t v) (sym (reached_place pre q w r)) c) in
    (r.front, g.0, g.1, g.2, g.3, g.4, ap (λ x. x ++ t) r.joined ∙ append_assoc r.front r.body t ∙ ap (λ x. r.front ++ x) g.5, r.is_front, g.6, g.8.0, g.7, g.8.1)

pub reached_kept : (pre : List ℕ) (q : Phase) (w : Unfinished) → Reached pre q w → KeepsLimitsAt q w
reached_kept pre q w r = run_kept r.body (past 0 r.front) AtValue start q w r.runs (record { good = record { outer = tt; distinct = tt; range = tt; shallow = tt }; room = tt })

-- one byte more
pub reached_more : (pre : List ℕ) (b : ℕ) (q p : Phase) (w u : Unfinished) → Reached pre q w → next (length pre) q w b ≡ Go p u → Reached (pre ++ (b ∷ [])) p u
reached_more pre b q p w u r e = record {
  front = r.front;
  body = r.body ++ (b ∷ []);
  is_front = r.is_front;
  joined = ap (λ x. x ++ (b ∷ [])) r.joined ∙ append_assoc r.front r.body (b ∷ []);
  runs = run_append r.body (b ∷ []) (past 0 r.front) AtValue start ∙ ap (λ n. then_run n (run (b ∷ []) (past (past 0 r.front) r.body))) r.runs ∙ ap (λ k. then_run (next k q w b) (run [] (suc (past (past 0 r.front) r.body)))) (reached_place pre q w r) ∙ ap (λ n. then_run n (run [] (suc (past (past 0 r.front) r.body)))) e;
}

-- a text that is refused behind no part of a mark: its front up to the byte that ends the reading
abbrev pub Stopped : List ℕ → JsonRefusal → Type 0
Stopped bytes e = (pre rest : List ℕ) × (q : Phase) × (w : Unfinished) × (bytes ≡ pre ++ rest) × Reached pre q w × StopsHere rest (length pre) q w e × (pre ≡ [] → NotMark rest)

pub begins_so : (bytes front rest : List ℕ) → bytes ≡ front ++ rest → starts_with nat_eq bytes front ≡ true
begins_so bytes front rest e = (starts_is Decides-eqb bytes front (starts_with nat_eq bytes front) refl).1 rest e

no_mark : (p q r : Bool) → ◌≡◌ {A = Option ℕ} (cond p None (cond q (Some 2) (cond r (Some 1) None))) None → p ≡ false → r ≡ true → ⊥
no_mark true q r h e f = cc
no_mark false true r h e f = cc
no_mark false false true h e f = cc
no_mark false false false h e f = cc

not_marked : (bytes : List ℕ) → mark_stop bytes ≡ None → starts_with nat_eq bytes byte_order_mark ≡ false → NotMark bytes
not_marked [] m h = tt
not_marked (b ∷ t) m h = λ e. no_mark (starts_with nat_eq (b ∷ t) byte_order_mark) (starts_with nat_eq (b ∷ t) (239 ∷ 187 ∷ [])) (starts_with nat_eq (b ∷ t) (239 ∷ [])) m h (begins_so (b ∷ t) (239 ∷ []) t (ap (λ n. n ∷ t) e))

front_reached : (front body : List ℕ) (q : Phase) (w : Unfinished) → IsFront front → run body (past 0 front) AtValue start ≡ Go q w → Reached (front ++ body) q w
front_reached front body q w f e = record { front = front; body = body; is_front = f; joined = refl; runs = e }

mark_not_nil : (body : List ℕ) → byte_order_mark ++ body ≡ [] → ⊥
mark_not_nil body e = cc

pub stopped : (bytes : List ℕ) (e : JsonRefusal) → mark_stop bytes ≡ None → verdict bytes ≡ Err e → Stopped bytes e
stopped bytes e m v = elim (either (starts_with nat_eq bytes byte_order_mark)) [
  | inl h ↦
      let joined : bytes ≡ byte_order_mark ++ drop 3 bytes = (starts_is Decides-eqb bytes byte_order_mark true (sym h)).0 refl in
      let s = run_split (drop 3 bytes) 3 AtValue start e (sym (verdict_marked bytes (drop 3 bytes) joined) ∙ v) in
      let r = front_reached byte_order_mark s.0 s.2 s.3 (inr refl) s.5 in
      (byte_order_mark ++ s.0, s.1, s.2, s.3, joined ∙ ap (λ t. byte_order_mark ++ t) s.4, r, subst (λ k. StopsHere s.1 k s.2 s.3 e) (front_place byte_order_mark s.0) s.6, λ z. absurd (mark_not_nil s.0 z))
  | inr h ↦
      let n = not_marked bytes m h in
      let s = run_split bytes 0 AtValue start e (sym (unmarked_text bytes n) ∙ v) in
      let r = front_reached [] s.0 s.2 s.3 (inl refl) s.5 in
      (s.0, s.1, s.2, s.3, s.4, r, subst (λ k. StopsHere s.1 k s.2 s.3 e) (front_place [] s.0) s.6, λ z. subst NotMark (s.4 ∙ ap (λ x. x ++ s.1) z) n)
]

cons_same : (x y : ℕ) (a b : List ℕ) → x ∷ a ≡ y ∷ b → (x ≡ y) × (a ≡ b)
cons_same x y a b e = (cc, cc)

-- the front of a text that is read, up to a line feed, leads to a state
abbrev Marked : List ℕ → List ℕ → List ℕ → Type 0
Marked pre s rest = (body : List ℕ) × (pre ≡ byte_order_mark ++ body) × (rest ≡ body ++ (10 ∷ s))

behind_mark_is : (pre s rest : List ℕ) → pre ++ (10 ∷ s) ≡ byte_order_mark ++ rest → Marked pre s rest
behind_mark_is [] s rest e = let first = cons_same 10 239 s (187 ∷ 191 ∷ rest) e in absurd (omega (arith, first.0))
behind_mark_is (x ∷ []) s rest e =
    let first = cons_same x 239 (10 ∷ s) (187 ∷ 191 ∷ rest) e in
    let second = cons_same 10 187 s (191 ∷ rest) first.1 in
    absurd (omega (arith, second.0))
behind_mark_is (x ∷ y ∷ []) s rest e =
    let first = cons_same x 239 (y ∷ 10 ∷ s) (187 ∷ 191 ∷ rest) e in
    let second = cons_same y 187 (10 ∷ s) (191 ∷ rest) first.1 in
    let third = cons_same 10 191 s rest second.1 in
    absurd (omega (arith, third.0))
behind_mark_is (x ∷ y ∷ z ∷ body) s rest e =
    let first = cons_same x 239 (y ∷ z ∷ (body ++ (10 ∷ s))) (187 ∷ 191 ∷ rest) e in
    let second = cons_same y 187 (z ∷ (body ++ (10 ∷ s))) (191 ∷ rest) first.1 in
    let third = cons_same z 191 (body ++ (10 ∷ s)) rest second.1 in
    (body, ap (λ n. n ∷ (y ∷ (z ∷ body))) first.0 ∙ ap (λ n. 239 ∷ (n ∷ (z ∷ body))) second.0 ∙ ap (λ n. 239 ∷ (187 ∷ (n ∷ body))) third.0, sym third.1)

some_mark : (bytes : List ℕ) (o : Option ℕ) (v : Forest) → mark_stop bytes ≡ o → behind_mark bytes o ≡ Ok v → mark_stop bytes ≡ None
some_mark bytes None v m h = m
some_mark bytes (Some n) v m h = absurd (err_ok (Syntax n) v h)

pub reached_line : (pre s : List ℕ) (v : Forest) → verdict (pre ++ (10 ∷ s)) ≡ Ok v → (q : Phase) × (w : Unfinished) × Reached pre q w
reached_line pre s v h = elim (either (starts_with nat_eq (pre ++ (10 ∷ s)) byte_order_mark)) [
  | inl k ↦
      let bytes = pre ++ (10 ∷ s) in
      let joined : bytes ≡ byte_order_mark ++ drop 3 bytes = (starts_is Decides-eqb bytes byte_order_mark true (sym k)).0 refl in
      let b = behind_mark_is pre s (drop 3 bytes) joined in
      let g = run_goes b.0 (10 ∷ s) 3 AtValue start v (ap (λ t. judge t 3 AtValue start) (sym b.2) ∙ sym (verdict_marked bytes (drop 3 bytes) joined) ∙ h) in
      (g.0, g.1, record { front = byte_order_mark; body = b.0; is_front = inr refl; joined = b.1; runs = g.2 })
  | inr k ↦
      let bytes = pre ++ (10 ∷ s) in
      let n = not_marked bytes (some_mark bytes (mark_stop bytes) v refl h) k in
      let g = run_goes pre (10 ∷ s) 0 AtValue start v (sym (unmarked_text bytes n) ∙ h) in
      (g.0, g.1, record { front = []; body = pre; is_front = inl refl; joined = refl; runs = g.2 })
]
