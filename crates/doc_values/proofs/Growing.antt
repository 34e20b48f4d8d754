-- What is kept beside the rows behind a row more.
use Rattle.std.proofs.Common.{◌≡◌, ℕ, zero, suc, ◌+◌, ◌<◌, ◌≤◌, List, [], ◌∷◌, ◌++◌, length, take, get_or, refl, sym, ap, inl, inr, ◌∙◌, subst, arith, length-append, append-nil, Option, None, Some}
use Rattle.std.specs.Prelude.{slice_index, slice_set, OnOk, Result, Ok, Err}
use Rattle.std.specs.Cow.{cow_str_bytes}
use Rattle.std.proofs.lemmas.List.{get_or_at, get_or_append_left, take-append-le, map_push, length-set, get_or-set_same, get_or-set_other}
use Rattle.std.proofs.Math.Seq.{take-length}
use Rattle.std.proofs.lemmas.Bool.{cases_lt, cases_eq}
use Rattle.key_names.specs.declared.names.Names.{Names}
use Rattle.doc_values.specs.declared.arena.Awaited.{Awaited as Key}
use Rattle.doc_values.specs.declared.arena.Taken.{Taken}
use Rattle.doc_values.specs.declared.node.Seat.{Seat}
use Rattle.doc_values.specs.declared.uses.Uses.{Uses}
use Rattle.doc_values.specs.declared.kind.Kind.{Kind}
use Rattle.doc_values.specs.code.Rows.{Row}
use Rattle.doc_values.specs.code.Entries.{Entry, named_in, row_in, rows_in, IsNameAt, AreNamed}
use Rattle.doc_values.specs.code.Growth.{Awaited, Growth, key_of, IsFor}
use Rattle.key_names.specs.code.Names.{name_of, texts_of, IsTable, IsSame, Adds}
use Rattle.doc_values.specs.code.Uses.{IsBehindName, AreDeeper, IsLast}
use Rattle.doc_values.specs.code.Index.{IsNewUnder, AreNew, AreZero, IsUsed, IsArena, IsAwaited, IsNumbered, Takes, awaited_in, row_of}
use Rattle.doc_values.proofs.Entries.{length-rows_in, rows_grown}
use Rattle.doc_values.proofs.Links.{AreLinks-more, IsLast-own, IsLast-other, IsLast-none, AreLow-more, last_name, name_stays}

is_last : (rs : List Row) (r q : Row) (j : ℕ) → j < length (rs ++ r ∷ []) → length rs ≤ j → q ≡ get_or (rs ++ r ∷ []) j q → (j ≡ length rs) × (q ≡ r)
is_last rs r q j l h e =
    let long = length-append rs (r ∷ []) in
    let s : length rs ≡ j = omega arith in
    (sym s, e ∙ get_or_at rs r [] q j s)

-- keys stay new beside one more
pub AreNew-more : (rs : List Row) (r : Row) → IsNewUnder rs r.under r.label.key → AreNew rs → AreNew (rs ++ r ∷ [])
AreNew-more rs r new old = λ j q l e.
    elim (cases_lt j (length rs)) [
      | inl k ↦
          let b : j ≤ length rs = omega arith in
          subst (λ (t : List Row). IsNewUnder t q.under q.label.key) (sym (take-append-le j rs (r ∷ []) b)) (old j q k (e ∙ get_or_append_left rs (r ∷ []) q j k))
      | inr k ↦
          let s = is_last rs r q j l k e in
          let cut : take j (rs ++ r ∷ []) ≡ rs = ap (λ n. take n (rs ++ r ∷ [])) s.0 ∙ take-append-le (length rs) rs (r ∷ []) (omega arith) ∙ take-length rs in
          subst (λ (t : List Row). IsNewUnder t q.under q.label.key) (sym cut) (subst (λ (x : Row). IsNewUnder rs x.under x.label.key) (sym s.1) new)
    ]

pub zero_more : (ss : List ℕ) → AreZero ss → AreZero (ss ++ 0 ∷ [])
zero_more [] z zero = refl
zero_more [] z (suc i) = refl
zero_more (s ∷ ss) z zero = z 0
zero_more (s ∷ ss) z (suc i) = zero_more ss (λ j. z (suc j)) i

-- what a name that has its number says, however it came to it
pub record IsReady (es : List Entry) (old between : Names) (fresh : List ℕ) (k : List ℕ) (n l w : ℕ) : Type 0 where
  pub table : IsTable between
  pub within : n < length (texts_of between)
  pub text : get_or (texts_of between) n [] ≡ k
  pub more : List (List ℕ)
  pub grown : texts_of between ≡ texts_of old ++ more
  pub counted : length fresh ≡ length (texts_of between)
  pub last : (m : ℕ) → m < length (texts_of between) → IsLast es m (slice_index fresh m)
  pub behind : IsBehindName es n l
  pub deeper : AreDeeper es n l (length es) w

some_is : (m n : ℕ) → Some m ≡ Some n → m ≡ n
some_is m n e = cc

ready_known : (es : List Entry) (old between : Names) (last fresh links k : List ℕ) (n l w : ℕ) → IsUsed es old last links → name_of old k ≡ Some n → IsSame old between → fresh ≡ last → IsBehindName es n l × AreDeeper es n l (length es) w → IsReady es old between fresh k n l w
ready_known es old between last fresh links k n l w u found same is linked =
    let known = u.table.known k n found in
    record {
      table = same.table;
      within = subst (λ (ts : List (List ℕ)). n < length ts) (sym same.texts) known.0;
      text = ap (λ (ts : List (List ℕ)). get_or ts n []) same.texts ∙ known.1;
      more = [];
      grown = same.texts ∙ sym (append-nil (texts_of old));
      counted = ap (λ (ns : List ℕ). length ns) is ∙ u.counted ∙ sym (ap (λ (ts : List (List ℕ)). length ts) same.texts);
      last = λ m b. subst (λ (ns : List ℕ). IsLast es m (slice_index ns m)) (sym is) (u.last m (subst (λ (ts : List (List ℕ)). m < length ts) same.texts b));
      behind = linked.0;
      deeper = linked.1;
    }

no_such : (n m : ℕ) → n ≡ m → n < m → ⊥
no_such n m e l = omega arith

ready_new : (es : List Entry) (old between : Names) (last fresh links k : List ℕ) (n l w : ℕ) → IsUsed es old last links → n ≡ length (texts_of old) → Adds old between k → fresh ≡ last ++ 0 ∷ [] → l ≡ 0 → IsReady es old between fresh k n l w
ready_new es old between last fresh links k n l w u here adds is zero_is =
    let long : length (texts_of between) ≡ length (texts_of old) + 1 = ap (λ (ts : List (List ℕ)). length ts) adds.texts ∙ length-append (texts_of old) (k ∷ []) in
    let longer : length fresh ≡ length last + 1 = ap (λ (ns : List ℕ). length ns) is ∙ length-append last (0 ∷ []) in
    let counted = u.counted in
    let none : (i : ℕ) → i < length es → IsNameAt es i n → ⊥ = λ i b e. no_such n (length (texts_of old)) here (u.named i n b e) in
    record {
      table = adds.table;
      within = omega arith;
      text = ap (λ (ts : List (List ℕ)). get_or ts n []) adds.texts ∙ get_or_at (texts_of old) k [] [] n (sym here);
      more = k ∷ [];
      grown = adds.texts;
      counted = omega arith;
      last = λ m b. elim (cases_lt m (length (texts_of old))) [
        | inl before ↦ subst (λ (ns : List ℕ). IsLast es m (slice_index ns m)) (sym is) (subst (IsLast es m) (sym (get_or_append_left last (0 ∷ []) 0 m (omega arith))) (u.last m before))
        | inr behind ↦
            let same : n ≡ m = omega arith in
            let place : slice_index fresh m ≡ 0 = ap (λ (ns : List ℕ). slice_index ns m) is ∙ get_or_at last 0 [] 0 m (omega arith) in
            subst (IsLast es m) (sym place) (IsLast-none es m (subst (λ q. (i : ℕ) → i < length es → IsNameAt es i q → ⊥) same none))
      ];
      behind = (omega arith, λ some. absurd (omega arith));
      deeper = λ i from below e. absurd (none i below e);
    }

ready : (es : List Entry) (old between : Names) (last fresh links : List ℕ) (key : Key) (n : ℕ) → IsUsed es old last links → IsAwaited es old (Some key) → IsNumbered old between last fresh (cow_str_bytes key.text) n → IsReady es old between fresh (cow_str_bytes key.text) n key.link key.under
ready es old between last fresh links key n u (known, none, some) (inl (found, same, is)) = ready_known es old between last fresh links (cow_str_bytes key.text) n key.link key.under u found same is (some n (known ∙ found))
ready es old between last fresh links key n u (known, none, some) (inr (missing, here, adds, is)) = ready_new es old between last fresh links (cow_str_bytes key.text) n key.link key.under u here adds is (none (known ∙ missing))

-- what a row more needs of the names
pub record IsTakenWell (es : List Entry) (old new : Names) (after : List ℕ) (links : List ℕ) (key : Option Key) (taken : Taken) (r : Entry) : Type 0 where
  pub used : IsUsed (es ++ r ∷ []) new after (links ++ taken.link ∷ [])
  pub rows : rows_in (texts_of new) (es ++ r ∷ []) ≡ rows_in (texts_of old) es ++ row_in (texts_of new) r ∷ []
  pub text : named_in (texts_of new) r.name ≡ key_of (awaited_in key)

rows_more : (old new : Names) (more : List (List ℕ)) (es : List Entry) (r : Entry) → AreNamed es (length (texts_of old)) → texts_of new ≡ texts_of old ++ more → rows_in (texts_of new) (es ++ r ∷ []) ≡ rows_in (texts_of old) es ++ row_in (texts_of new) r ∷ []
rows_more old new more es r named grown =
    map_push (row_in (texts_of new)) es r
    ∙ ap (λ (t : List Row). t ++ row_in (texts_of new) r ∷ []) (ap (λ (ts : List (List ℕ)). rows_in ts es) grown ∙ rows_grown (texts_of old) more es named)

no_name : (o : Option ℕ) (n : ℕ) → o ≡ None → o ≡ Some n → ⊥
no_name o n e f = cc

taken_none : (es : List Entry) (old new : Names) (last after links : List ℕ) (taken : Taken) (r : Entry) → r.under ≤ length es → r.name ≡ taken.name → IsUsed es old last links → taken.name ≡ None → IsSame old new → after ≡ last → IsTakenWell es old new after links None taken r
taken_none es old new last after links taken r low is u none same stays =
    let plain : r.name ≡ None = is ∙ none in
    let long = length-append es (r ∷ []) in
    let longer = length-append links (taken.link ∷ []) in
    let linked = u.linked in
    let texts : texts_of new ≡ texts_of old ++ [] = same.texts ∙ sym (append-nil (texts_of old)) in
    record {
      used = record {
        low = AreLow-more es r low u.low;
        table = same.table;
        named = λ i n b e. elim (cases_lt i (length es)) [
          | inl before ↦ subst (λ (ts : List (List ℕ)). n < length ts) (sym same.texts) (u.named i n before (name_stays es r i n before e))
          | inr behind ↦ absurd (no_name r.name n plain (last_name es r i n (omega arith) e))
        ];
        linked = omega arith;
        links = AreLinks-more es links r taken.link u.linked (λ n e. absurd (no_name r.name n plain e)) u.links;
        counted = ap (λ (ns : List ℕ). length ns) stays ∙ u.counted ∙ sym (ap (λ (ts : List (List ℕ)). length ts) same.texts);
        last = λ n b. subst (λ (ns : List ℕ). IsLast (es ++ r ∷ []) n (slice_index ns n)) (sym stays) (IsLast-other es r n (slice_index last n) (λ e. no_name r.name n plain e) (u.last n (subst (λ (ts : List (List ℕ)). n < length ts) same.texts b)));
      };
      rows = rows_more old new [] es r u.named texts;
      text = ap (named_in (texts_of new)) plain;
    }

taken_some : (es : List Entry) (old new between : Names) (last after fresh links : List ℕ) (key : Key) (taken : Taken) (number n : ℕ) (r : Entry) → number ≡ length es → r.under ≤ length es → r.name ≡ taken.name → key.under ≡ r.under → IsUsed es old last links → IsReady es old between fresh (cow_str_bytes key.text) n key.link key.under → IsSame between new → taken.name ≡ Some n → taken.link ≡ key.link → after ≡ slice_set fresh n (number + 1) → IsTakenWell es old new after links (Some key) taken r
taken_some es old new between last after fresh links key taken number n r counts low is under u h same name link stays =
    let own : r.name ≡ Some n = is ∙ name in
    let long = length-append es (r ∷ []) in
    let longer = length-append links (taken.link ∷ []) in
    let linked = u.linked in
    let within = h.within in
    let counted = h.counted in
    let texts : texts_of new ≡ texts_of old ++ h.more = same.texts ∙ h.grown in
    let all : length (texts_of new) ≡ length (texts_of between) = ap (λ (ts : List (List ℕ)). length ts) same.texts in
    let grown : length (texts_of between) ≡ length (texts_of old) + length h.more = ap (λ (ts : List (List ℕ)). length ts) h.grown ∙ length-append (texts_of old) h.more in
    let kept : length after ≡ length fresh = ap (λ (ns : List ℕ). length ns) stays ∙ length-set fresh n (number + 1) in
    let behind : IsBehindName es n taken.link = subst (IsBehindName es n) (sym link) h.behind in
    let deeper : AreDeeper es n taken.link (length es) r.under = subst (λ l. AreDeeper es n l (length es) r.under) (sym link) (subst (AreDeeper es n key.link (length es)) under h.deeper) in
    record {
      used = record {
        low = AreLow-more es r low u.low;
        table = same.table;
        named = λ i m b e. elim (cases_lt i (length es)) [
          | inl before ↦ let q = u.named i m before (name_stays es r i m before e) in omega arith
          | inr past ↦ let q = some_is n m (sym own ∙ last_name es r i m (omega arith) e) in omega arith
        ];
        linked = omega arith;
        links = AreLinks-more es links r taken.link u.linked (λ m e. subst (λ q. IsBehindName es q taken.link × AreDeeper es q taken.link (length es) r.under) (some_is n m (sym own ∙ e)) (behind, deeper)) u.links;
        counted = omega arith;
        last = λ m b. elim (cases_eq m n) [
          | inl here ↦
              let place : slice_index after m ≡ number + 1 = ap (slice_index after) here ∙ ap (λ (ns : List ℕ). slice_index ns n) stays ∙ get_or-set_same fresh n (number + 1) 0 (omega arith) in
              let e : r.name ≡ Some m = own ∙ ap (λ q. let o : Option ℕ = Some q in o) (sym here) in
              IsLast-own es r m (slice_index after m) (omega arith) e
          | inr other ↦
              let place : slice_index after m ≡ slice_index fresh m = ap (λ (ns : List ℕ). slice_index ns m) stays ∙ get_or-set_other fresh n m (number + 1) 0 other in
              subst (IsLast (es ++ r ∷ []) m) (sym place) (IsLast-other es r m (slice_index fresh m) (λ e. other (some_is m n (sym e ∙ own))) (h.last m (omega arith)))
        ];
      };
      rows = rows_more old new h.more es r u.named texts;
      text = ap (named_in (texts_of new)) own ∙ ap (λ (ts : List (List ℕ)). let o : Option (List ℕ) = Some (get_or ts n []) in o) same.texts ∙ ap (λ t. let o : Option (List ℕ) = Some t in o) h.text;
    }

-- a row that takes the key that awaits its value
pub taken_well : (es : List Entry) (old new : Names) (last after links : List ℕ) (key : Option Key) (taken : Taken) (number : ℕ) (r : Entry) → number ≡ length es → r.under ≤ length es → r.name ≡ taken.name → IsFor r.under (awaited_in key) → IsUsed es old last links → IsAwaited es old key → Takes key old last number taken new after → IsTakenWell es old new after links key taken r
taken_well es old new last after links None taken number r counts low is under u a (none, same, stays) = taken_none es old new last after links taken r low is u none same stays
taken_well es old new last after links (Some key) taken number r counts low is under u a t = taken_some es old new t.between last after t.fresh links key taken number t.n r counts low is under u (ready es old t.between last t.fresh links key t.n u a t.numbered) t.same t.name t.link t.placed

-- the table and the bounds where a name has its number
pub record IsFound (between : Names) (fresh : List ℕ) (n : ℕ) : Type 0 where
  pub table : IsTable between
  pub within : n < length (texts_of between)
  pub place : n < length fresh

pub numbered_found : (old between : Names) (last fresh k : List ℕ) (n : ℕ) → IsTable old → length last ≡ length (texts_of old) → IsNumbered old between last fresh k n → IsFound between fresh n
numbered_found old between last fresh k n t counted (inl (found, same, is)) =
    let known = (t.known k n found).0 in
    let texts = ap (λ (ts : List (List ℕ)). length ts) same.texts in
    let long = ap (λ (ns : List ℕ). length ns) is in
    record { table = same.table; within = omega arith; place = omega arith }
numbered_found old between last fresh k n t counted (inr (missing, here, adds, is)) =
    let texts : length (texts_of between) ≡ length (texts_of old) + 1 = ap (λ (ts : List (List ℕ)). length ts) adds.texts ∙ length-append (texts_of old) (k ∷ []) in
    let long : length fresh ≡ length last + 1 = ap (λ (ns : List ℕ). length ns) is ∙ length-append last (0 ∷ []) in
    record { table = adds.table; within = omega arith; place = omega arith }

pub IsArena-more : (es : List Entry) (ss ps : List ℕ) (old new : Names) (us after : Uses) (key : Option Key) (taken : Taken) (r : Entry) → length es < 2147483647 → IsArena es ss ps old us key → IsTakenWell es old new after.last.items us.links.items key taken r → after.links.items ≡ us.links.items ++ taken.link ∷ [] → IsNewUnder (rows_in (texts_of old) es) r.under (key_of (awaited_in key)) → IsArena (es ++ r ∷ []) (ss ++ 0 ∷ []) (ps ++ 0 ∷ []) new after None
IsArena-more es ss ps old new us after key taken r h a w links fresh = record {
  zero = zero_more ss a.zero;
  same = omega (arith, length-append es (r ∷ []), length-append ss (0 ∷ []), a.same);
  as_long = omega (arith, length-append es (r ∷ []), length-append ps (0 ∷ []), a.as_long);
  small = omega (arith, length-append es (r ∷ []));
  new = subst AreNew (sym w.rows) (AreNew-more (rows_in (texts_of old) es) (row_in (texts_of new) r) (subst (IsNewUnder (rows_in (texts_of old) es) r.under) (sym w.text) fresh) a.new);
  used = subst (IsUsed (es ++ r ∷ []) new after.last.items) (sym links) w.used;
  awaited = tt;
}

-- the row of a seat, and the rows with it
row_is : (s : Seat) (at : ℕ) (j k : Kind) (t u : List ℕ) (o p : Option (List ℕ)) → j ≡ k → t ≡ u → o ≡ p → row_of s (record { kind = j; text = t; key = o; at = at }) ≡ row_of s (record { kind = k; text = u; key = p; at = at })
row_is s at j k t u o p e f g =
    ap (λ (x : Kind). row_of s (record { kind = x; text = t; key = o; at = at })) e
    ∙ ap (λ (x : List ℕ). row_of s (record { kind = k; text = x; key = o; at = at })) f
    ∙ ap (λ (x : Option (List ℕ)). row_of s (record { kind = k; text = u; key = x; at = at })) g

abbrev pub entry : Seat → Kind → List ℕ → Option ℕ → ℕ → Entry
entry s k t n at = record { depth = s.depth; under = s.under; index = s.index; kind = k; text = t; name = n; at = at }

pub rows_taken : (es : List Entry) (old new : Names) (after links : List ℕ) (key : Option Key) (taken : Taken) (s : Seat) (j k : Kind) (t u : List ℕ) (n : Option ℕ) (at : ℕ) → IsTakenWell es old new after links key taken (entry s j t n at) → j ≡ k → t ≡ u → rows_in (texts_of new) (es ++ entry s j t n at ∷ []) ≡ rows_in (texts_of old) es ++ row_of s (record { kind = k; text = u; key = key_of (awaited_in key); at = at }) ∷ []
rows_taken es old new after links key taken s j k t u n at w e f =
    w.rows ∙ ap (λ (q : Row). rows_in (texts_of old) es ++ q ∷ []) (row_is s at j k t u (named_in (texts_of new) n) (key_of (awaited_in key)) e f w.text)

-- a tree that grows is the same where its rows and its key are
pub growth_same : (rs qs : List Row) (a b : Option Awaited) → qs ≡ rs → b ≡ a → (let g : Growth = record { rows = qs; key = b } in g) ≡ (let g : Growth = record { rows = rs; key = a } in g)
growth_same rs qs a b e f = ap (λ (x : List Row). let g : Growth = record { rows = x; key = b } in g) e ∙ ap (λ (x : Option Awaited). let g : Growth = record { rows = rs; key = x } in g) f

-- what is kept stays where nothing is said otherwise
pub IsArena-same : (es : List Entry) (ss ps : List ℕ) (old new : Names) (us after : Uses) (a b : Option Key) → IsArena es ss ps old us a → IsSame old new → after.last.items ≡ us.last.items → after.links.items ≡ us.links.items → IsAwaited es new b → IsArena es ss ps new after b
IsArena-same es ss ps old new us after a b x same last links awaited =
    let rows : rows_in (texts_of old) es ≡ rows_in (texts_of new) es = ap (λ (ts : List (List ℕ)). rows_in ts es) (sym same.texts) in
    let u : IsUsed es new us.last.items us.links.items = record {
      low = x.used.low;
      table = same.table;
      named = subst (λ (ts : List (List ℕ)). AreNamed es (length ts)) (sym same.texts) x.used.named;
      linked = x.used.linked;
      links = x.used.links;
      counted = x.used.counted ∙ sym (ap (λ (ts : List (List ℕ)). length ts) same.texts);
      last = λ n b. x.used.last n (subst (λ (ts : List (List ℕ)). n < length ts) same.texts b);
    } in
    record {
      zero = x.zero;
      same = x.same;
      as_long = x.as_long;
      small = x.small;
      new = subst AreNew rows x.new;
      used = subst (λ (ls : List ℕ). IsUsed es new ls after.links.items) (sym last) (subst (λ (ls : List ℕ). IsUsed es new us.last.items ls) (sym links) u);
      awaited = awaited;
    }

-- equal lists are kept alike, and so are equal keys
pub IsArena-as : (es fs : List Entry) (ss ts ps qs : List ℕ) (ns : Names) (us : Uses) (a b : Option Key) → fs ≡ es → ts ≡ ss → qs ≡ ps → b ≡ a → IsArena es ss ps ns us a → IsArena fs ts qs ns us b
IsArena-as es fs ss ts ps qs ns us a b e f g k h =
    subst (λ (xs : List Entry). IsArena xs ts qs ns us b) (sym e)
    (subst (λ (xs : List ℕ). IsArena es xs qs ns us b) (sym f)
    (subst (λ (xs : List ℕ). IsArena es ss xs ns us b) (sym g)
    (subst (λ (x : Option Key). IsArena es ss ps ns us x) (sym k) h)))

-- there are few rows where few are stored
pub rows_few : (texts : List (List ℕ)) (es fs : List Entry) → fs ≡ es → length es < 2147483648 → length (rows_in texts fs) < 2147483648
rows_few texts es fs e h = subst (λ n. n < 2147483648) (sym (length-rows_in texts fs ∙ ap (λ (xs : List Entry). length xs) e)) h

pub rows_few-more : (texts : List (List ℕ)) (es fs : List Entry) (r : Entry) → fs ≡ es ++ r ∷ [] → length es < 2147483647 → length (rows_in texts fs) < 2147483648
rows_few-more texts es fs r e h =
    let long = length-append es (r ∷ []) in
    rows_few texts (es ++ r ∷ []) fs e (omega arith)

-- what a call that succeeds says is said together
pub on_ok_all : (A B C D F : Type 0) {T E : Type 0} (r : Result T E) → OnOk r A → OnOk r B → OnOk r C → OnOk r D → OnOk r F → OnOk r (A × B × C × D × F)
on_ok_all A B C D F (Ok x) a b c d f = (a, b, c, d, f)
on_ok_all A B C D F (Err e) a b c d f = tt
