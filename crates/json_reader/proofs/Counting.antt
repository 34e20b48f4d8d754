-- Where a sign counts, reading ends with it.
use Rattle.std.proofs.Common.{◌≡◌, ℕ, suc, ◌⊎◌, true, false, List, [], ◌∷◌, ◌++◌, length, refl, sym, ap, inl, inr, ◌∙◌, subst, arith, append_assoc, None}
use Rattle.std.specs.Prelude.{Ok, Err, nat_lt}
use Rattle.doc_values.specs.declared.kind.Kind.{Kind}
use Rattle.doc_values.specs.declared.kind.Kind.TheVariants as kind
use Rattle.decimals.specs.Number.{Parts, IsSpelled}
use Rattle.doc_values.specs.Tree.{Forest, has_key}
use Rattle.doc_values.specs.Unfinished.{Unfinished, with_value, with_open, with_key}
use Rattle.json_reader.specs.declared.bytes.Class.TheVariants.{Space, Quote, Open, OpenList, CloseList, Minus, Zero, Digit}
use Rattle.json_reader.specs.declared.number.NumberPart.{NumberPart}
use Rattle.json_reader.specs.declared.refusal.JsonRefusal.{JsonRefusal}
use Rattle.json_reader.specs.declared.refusal.JsonRefusal.TheVariants.{Syntax, DuplicateKey, NumberRange, TooDeep, NoMemory}
use Rattle.json_reader.specs.Json.{Chars, past, StandsFor, IsInRange, Collection, Object, Array, opening, kind_of, Shape, Json}
use Rattle.json_reader.specs.code.Numbers.{number_kind, first_part, part_next, completes}
use Rattle.json_reader.specs.Refusals.{Begins, ButDepth, ButRange, MayOpen, IsComplete, IsCounting}
use Rattle.json_reader.specs.code.Reading.{class_of, begins_number, Phase, AtValue, AtKeyOrEnd, AtItemOrEnd, AtKey, After, InString, key_next, key_or_end_next, number_cause, cause, judged, judge, verdict}
use Rattle.json_reader.proofs.Judged.{ok_judge}
use Rattle.json_reader.proofs.Front.{either}
use Rattle.json_reader.proofs.NumberBytes.{number_class, begins_ascii, BeginsNumber, begins_with_number}
use Rattle.json_reader.proofs.NumberKinds.{out_of_range}
use Rattle.json_reader.proofs.NumberTexts.{RunsTo, runs_held, held_spells}
use Rattle.json_reader.proofs.NumberRuns.{number_first, number_same, NoMore, number_fails}
use Rattle.json_reader.proofs.Parts.{Runs, part_or, spelled_runs}
use Rattle.json_reader.proofs.Strings.{chars_run}
use Rattle.json_reader.proofs.Complete.{phase_in, opens, too_deep, new_key, old_key, IsShaped, shaped, complete}
use Rattle.json_reader.proofs.Closings.{closers, closed, close_all, IsOpening, ending, IsValued, holder, valued_judge}
use Rattle.json_reader.proofs.Paths.{Reached, reached_judge, reached_line}
use Rattle.json_reader.proofs.Tokens.{reached_token, line_opens, ten_is_no_mark, runs_more}
use Rattle.json_reader.proofs.Verdicts.{verdict_ok}

-- the state where a sign may count
abbrev Opened : List ℕ → Type 0
Opened before = (q : Phase) × (w : Unfinished) × Reached before q w × IsOpening q

opened : (before : List ℕ) → MayOpen before → Opened before
opened before (more, tree, j) =
    let h : verdict (before ++ (10 ∷ (34 ∷ more))) ≡ Ok tree = sym (ap verdict (append_assoc before (10 ∷ 34 ∷ []) more)) ∙ complete ((before ++ (10 ∷ 34 ∷ [])) ++ more) tree j in
    let g = reached_line before (34 ∷ more) tree h in
    (g.0, g.1, g.2, line_opens before g.0 g.1 more (length before) tree (reached_token before g.0 g.1 g.2) (sym (reached_judge before (10 ∷ (34 ∷ more)) g.0 g.1 g.2 (λ z. ten_is_no_mark)) ∙ h))

-- where a key may begin
abbrev IsKeyed : Phase → Type 0
IsKeyed AtKeyOrEnd = Unit {0}
IsKeyed AtKey = Unit {0}
IsKeyed _ = ⊥

valued_or : (q : Phase) → IsOpening q → IsValued q ⊎ IsKeyed q
valued_or AtValue o = inl tt
valued_or AtItemOrEnd o = inl tt
valued_or AtKeyOrEnd o = inr tt
valued_or AtKey o = inr tt
valued_or _ o = elim o [ ]

-- what is refused for its syntax whatever follows begins no text of the shape of JSON
pub shape_dead : (front : List ℕ) (a : ℕ) → ((more : List ℕ) → verdict (front ++ more) ≡ Err (Syntax a)) → Begins Shape front → ⊥
shape_dead front a h (more, tree, p) = subst IsShaped (h more) (shaped (front ++ more) tree p)

begins_json : (front more : List ℕ) (v : Forest) → verdict (front ++ more) ≡ Ok v → Begins Json front
begins_json front more v h = (more, v, verdict_ok (front ++ more) v h)

-- a bracket too many
open_apart : (Open ≡ Space → ⊥) × (Open ≡ CloseList → ⊥)
open_apart = (λ e. cc, λ e. cc)

list_apart : (OpenList ≡ Space → ⊥) × (OpenList ≡ CloseList → ⊥)
list_apart = (λ e. cc, λ e. cc)

open_no_space : (o : Collection) → class_of (opening o) ≡ Space → ⊥
open_no_space Object e = open_apart.0 e
open_no_space Array e = list_apart.0 e

open_no_end : (o : Collection) → class_of (opening o) ≡ CloseList → ⊥
open_no_end Object e = open_apart.1 e
open_no_end Array e = list_apart.1 e

open_no_mark : (o : Collection) → opening o ≡ 239 → ⊥
open_no_mark Object e = omega (arith, e)
open_no_mark Array e = omega (arith, e)

keyed_open : (q : Phase) → IsKeyed q → (o : Collection) (t : List ℕ) (at : ℕ) (w : Unfinished) → judge (opening o ∷ t) at q w ≡ Err (Syntax at)
keyed_open AtKeyOrEnd k Object t at w = refl
keyed_open AtKeyOrEnd k Array t at w = refl
keyed_open AtKey k Object t at w = refl
keyed_open AtKey k Array t at w = refl
keyed_open _ k o t at w = elim k [ ]

collection_opens : (o : Collection) → IsOpening (phase_in o)
collection_opens Object = tt
collection_opens Array = tt

pub open_judge : (before t : List ℕ) (o : Collection) (q : Phase) (w : Unfinished) → Reached before q w → IsValued q → verdict (before ++ (opening o ∷ t)) ≡ judge (opening o ∷ t) (length before) AtValue (holder q w)
open_judge before t o q w r i = reached_judge before (opening o ∷ t) q w r (λ z. open_no_mark o) ∙ valued_judge q i (length before) (opening o) t w (open_no_space o) (open_no_end o)

deep_verdict : (before rest : List ℕ) (o : Collection) → MayOpen before → Begins ButDepth (before ++ (opening o ∷ [])) → (Begins Json (before ++ (opening o ∷ [])) → ⊥) → verdict (before ++ (opening o ∷ rest)) ≡ Err (TooDeep (length before))
deep_verdict before rest o m (more, tree, (p, d, g)) never =
    let s = opened before m in
    let at = length before in
    elim (valued_or s.0 s.3) [
      | inl i ↦
          let u = holder s.0 s.1 in
          elim (either (nat_lt (length u.outer) 128)) [
            | inl room ↦
                let w = with_open (kind_of o) at u in
                let e = ending (phase_in o) (collection_opens o) w (suc at) in
                let read : verdict (before ++ (opening o ∷ (34 ∷ e.0))) ≡ Ok e.1 =
                open_judge before (34 ∷ e.0) o s.0 s.1 s.2 i ∙ ap (λ n. judged n (cause at AtValue (opening o)) (judge (34 ∷ e.0) (suc at))) (opens o at u room) ∙ ok_judge (34 ∷ e.0) (suc at) (phase_in o) w e.1 e.2 in
                absurd (never (begins_json (before ++ (opening o ∷ [])) (34 ∷ e.0) e.1 (ap verdict (append_assoc before (opening o ∷ []) (34 ∷ e.0)) ∙ read)))
            | inr full ↦ open_judge before rest o s.0 s.1 s.2 i ∙ too_deep o rest at u full
          ]
      | inr k ↦ absurd (shape_dead (before ++ (opening o ∷ [])) at (λ t. ap verdict (append_assoc before (opening o ∷ []) t) ∙ reached_judge before (opening o ∷ t) s.0 s.1 s.2 (λ z. open_no_mark o) ∙ keyed_open s.0 k o t at s.1) (more, tree, p))
    ]

-- a key again
quote_apart : (Quote ≡ Space → ⊥) × (Quote ≡ CloseList → ⊥)
quote_apart = (λ e. cc, λ e. cc)

quote_no_space : class_of 34 ≡ Space → ⊥
quote_no_space e = quote_apart.0 e

quote_no_end : class_of 34 ≡ CloseList → ⊥
quote_no_end e = quote_apart.1 e

pub quote_no_mark : ◌≡◌ {A = ℕ} 34 239 → ⊥
quote_no_mark e = cc

abbrev quoted : List ℕ → List ℕ
quoted c = 34 ∷ (c ++ (34 ∷ []))

quoted_split : (before c t : List ℕ) → before ++ (quoted c ++ t) ≡ before ++ (34 ∷ (c ++ (34 ∷ t)))
quoted_split before c t = ap (λ x. before ++ (34 ∷ x)) (append_assoc c (34 ∷ []) t)

quoted_front : (before c t : List ℕ) → (before ++ quoted c) ++ t ≡ before ++ (34 ∷ (c ++ (34 ∷ t)))
quoted_front before c t = append_assoc before (quoted c) t ∙ quoted_split before c t

text_judge : (before c text t : List ℕ) (q : Phase) (w : Unfinished) → Reached before q w → IsValued q → Chars c text → verdict (before ++ (34 ∷ (c ++ (34 ∷ t)))) ≡ judge t (suc (past (suc (length before)) c)) After (with_value kind.Text text (length before) (holder q w))
text_judge before c text t q w r i ch =
    let at = length before in
    reached_judge before (34 ∷ (c ++ (34 ∷ t))) q w r (λ z. quote_no_mark) ∙ valued_judge q i at 34 (c ++ (34 ∷ t)) w quote_no_space quote_no_end ∙ chars_run c text (34 ∷ t) (suc at) false [] at (holder q w) ch

keyed_quote : (q : Phase) → IsKeyed q → (t : List ℕ) (at : ℕ) (w : Unfinished) → judge (34 ∷ t) at q w ≡ judge t (suc at) (InString true [] [] at) w
keyed_quote AtKeyOrEnd k t at w = refl
keyed_quote AtKey k t at w = refl
keyed_quote _ k t at w = elim k [ ]

key_judge : (before c text t : List ℕ) (q : Phase) (w : Unfinished) → Reached before q w → IsKeyed q → Chars c text → verdict (before ++ (34 ∷ (c ++ (34 ∷ t)))) ≡ judge (34 ∷ t) (past (suc (length before)) c) (InString true text [] (length before)) w
key_judge before c text t q w r k ch =
    let at = length before in
    reached_judge before (34 ∷ (c ++ (34 ∷ t))) q w r (λ z. quote_no_mark) ∙ keyed_quote q k (c ++ (34 ∷ t)) at w ∙ chars_run c text (34 ∷ t) (suc at) true [] at w ch

key_verdict : (before c text rest : List ℕ) → MayOpen before → Chars c text → (Begins Json (before ++ quoted c) → ⊥) → verdict (before ++ (quoted c ++ rest)) ≡ Err (DuplicateKey (length before))
key_verdict before c text rest m ch never =
    let s = opened before m in
    let at = length before in
    let w = s.1 in
    elim (valued_or s.0 s.3) [
      | inl i ↦
          let u = with_value kind.Text text at (holder s.0 w) in
          let behind = suc (past (suc at) c) in
          let read : verdict ((before ++ quoted c) ++ closers u.outer) ≡ Ok (closed u.outer u.done) =
          ap verdict (quoted_front before c (closers u.outer)) ∙ text_judge before c text (closers u.outer) s.0 w s.2 i ch ∙ ok_judge (closers u.outer) behind After u (closed u.outer u.done) (close_all u.outer u.done None behind) in
          absurd (never (begins_json (before ++ quoted c) (closers u.outer) (closed u.outer u.done) read))
      | inr k ↦ elim (either (has_key w.done text)) [
        | inl old ↦ ap verdict (quoted_split before c rest) ∙ key_judge before c text rest s.0 w s.2 k ch ∙ old_key text rest (past (suc at) c) at w old
        | inr new ↦
            let more : List ℕ = 58 ∷ (34 ∷ (34 ∷ closers w.outer)) in
            let u = with_value kind.Text [] (suc (suc (past (suc at) c))) (with_key text w) in
            let end = suc (suc (suc (suc (past (suc at) c)))) in
            let read : verdict ((before ++ quoted c) ++ more) ≡ Ok (closed u.outer u.done) =
            ap verdict (quoted_front before c more) ∙ key_judge before c text more s.0 w s.2 k ch ∙ new_key text more (past (suc at) c) at w new ∙ ok_judge (closers w.outer) end After u (closed u.outer u.done) (close_all u.outer u.done None end) in
            absurd (never (begins_json (before ++ quoted c) more (closed u.outer u.done) read))
      ]
    ]

-- a number out of range
number_no_space : (b : ℕ) → begins_number b ≡ true → class_of b ≡ Space → ⊥
number_no_space b h e = elim (number_class b h) [ inl m ↦ (let x : Minus ≡ Space = sym m ∙ e in cc) | inr s ↦ elim s [ inl z ↦ (let x : Zero ≡ Space = sym z ∙ e in cc) | inr d ↦ (let x : Digit ≡ Space = sym d ∙ e in cc) ] ]

number_no_end : (b : ℕ) → begins_number b ≡ true → class_of b ≡ CloseList → ⊥
number_no_end b h e = elim (number_class b h) [ inl m ↦ (let x : Minus ≡ CloseList = sym m ∙ e in cc) | inr s ↦ elim s [ inl z ↦ (let x : Zero ≡ CloseList = sym z ∙ e in cc) | inr d ↦ (let x : Digit ≡ CloseList = sym d ∙ e in cc) ] ]

number_no_mark : (b : ℕ) → begins_number b ≡ true → b ≡ 239 → ⊥
number_no_mark b h e = let a = begins_ascii b h in omega (arith, a, e)

keyed_number : (q : Phase) → IsKeyed q → (b : ℕ) (t : List ℕ) (at : ℕ) (w : Unfinished) → begins_number b ≡ true → judge (b ∷ t) at q w ≡ Err (Syntax at)
keyed_number AtKeyOrEnd k b t at w h = elim (number_class b h) [ inl e ↦ ap (λ c. judged (key_or_end_next at w c) (Syntax at) (judge t (suc at))) e | inr s ↦ elim s [ inl e ↦ ap (λ c. judged (key_or_end_next at w c) (Syntax at) (judge t (suc at))) e | inr e ↦ ap (λ c. judged (key_or_end_next at w c) (Syntax at) (judge t (suc at))) e ] ]
keyed_number AtKey k b t at w h = elim (number_class b h) [ inl e ↦ ap (λ c. judged (key_next at w c) (Syntax at) (judge t (suc at))) e | inr s ↦ elim s [ inl e ↦ ap (λ c. judged (key_next at w c) (Syntax at) (judge t (suc at))) e | inr e ↦ ap (λ c. judged (key_next at w c) (Syntax at) (judge t (suc at))) e ] ]
keyed_number _ k b t at w h = elim k [ ]

complete_more : (r : NumberPart) (n rest : List ℕ) → RunsTo r n → IsComplete n rest → NoMore r rest
complete_more r n [] h c = tt
complete_more r n (b ∷ rest) h (inl e) = absurd (cc)
complete_more r n (b ∷ rest) h (inr (d, t, e, never)) = elim (part_or (part_next r b)) [
  | inl s ↦
      let g = held_spells s.0 (n ++ (b ∷ [])) (runs_held s.0 (n ++ (b ∷ [])) (runs_more r s.0 n b h s.1)) in
      let same : d ≡ b = let x : b ∷ rest ≡ d ∷ t = e in cc in
      absurd (never g.0 g.1 (subst (λ x. IsSpelled (n ++ (x ∷ g.0)) g.1) (sym same) (subst (λ x. IsSpelled x g.1) (append_assoc n (b ∷ []) g.0) g.2)))
  | inr s ↦ s
]

range_judge : (before rest : List ℕ) (b : ℕ) (bs : List ℕ) (r : NumberPart) (q : Phase) (w : Unfinished) → Reached before q w → IsValued q → RunsTo r (b ∷ bs) → completes r ≡ true → number_kind (b ∷ bs) ≡ None → NoMore r rest → verdict (before ++ (b ∷ (bs ++ rest))) ≡ Err (NumberRange (length before))
range_judge before rest b bs r q w s i h c k m =
    let at = length before in
    let u = holder q w in
    reached_judge before (b ∷ (bs ++ rest)) q w s (λ z. number_no_mark b h.0) ∙ valued_judge q i at b (bs ++ rest) w (number_no_space b h.0) (number_no_end b h.0)
    ∙ ap (λ n. judged n (cause at AtValue b) (judge (bs ++ rest) (suc at))) (number_first b at u h.0) ∙ number_same bs rest (b ∷ []) (suc at) at (first_part b) r u h.1
    ∙ number_fails rest (past (suc at) bs) r (b ∷ bs) at u m k ∙ ap (λ x. Err (number_cause (past (suc at) bs) x None at)) c

range_verdict : (before n rest : List ℕ) (p : Parts) → MayOpen before → IsSpelled n p → BeginsNumber n → Runs n → IsComplete n rest → ((k : Kind) → StandsFor p k → IsInRange k → ⊥) → Begins ButRange (before ++ n) → verdict (before ++ (n ++ rest)) ≡ Err (NumberRange (length before))
range_verdict before [] rest p m sp g h c out but = elim g [ ]
range_verdict before (b ∷ bs) rest p m sp g h c out (more, tree, (shape, d, y)) =
    let s = opened before m in
    let at = length before in
    let runs : RunsTo h.0 (b ∷ bs) = (g, h.1) in
    elim (valued_or s.0 s.3) [
      | inl i ↦ range_judge before rest b bs h.0 s.0 s.1 s.2 i runs h.2 (out_of_range (b ∷ bs) p sp out) (complete_more h.0 (b ∷ bs) rest runs c)
      | inr k ↦ absurd (shape_dead (before ++ (b ∷ bs)) at (λ t. ap verdict (append_assoc before (b ∷ bs) t) ∙ reached_judge before (b ∷ (bs ++ t)) s.0 s.1 s.2 (λ z. number_no_mark b g) ∙ keyed_number s.0 k b (bs ++ t) at s.1 g) (more, tree, shape))
    ]

-- so a text has no other verdict
pub counts_verdict : (bytes : List ℕ) (e : JsonRefusal) → IsCounting bytes e → verdict bytes ≡ Err e
counts_verdict bytes (TooDeep at) (before, behind, same, n, m, (o, rest, e, d, never)) = ap verdict (same ∙ ap (λ x. before ++ x) e) ∙ deep_verdict before rest o m d never ∙ ap (λ k. Err (TooDeep k)) n
counts_verdict bytes (DuplicateKey at) (before, behind, same, n, m, (c, text, rest, e, ch, d, never)) = ap verdict (same ∙ ap (λ x. before ++ x) e) ∙ key_verdict before c text rest m ch never ∙ ap (λ k. Err (DuplicateKey k)) n
counts_verdict bytes (NumberRange at) (before, behind, same, n, m, (t, rest, p, e, sp, c, out, d)) = ap verdict (same ∙ ap (λ x. before ++ x) e) ∙ range_verdict before t rest p m sp (begins_with_number t p sp) (spelled_runs t p sp) c out d ∙ ap (λ k. Err (NumberRange k)) n
counts_verdict bytes (Syntax at) c = elim c [ ]
counts_verdict bytes NoMemory c = elim c [ ]
