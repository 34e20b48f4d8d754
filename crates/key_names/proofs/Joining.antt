-- The names of another table taken in, one after another.
use Rattle.std.proofs.Common.{◌≡◌, ℕ, ◌<◌, List, [], ◌∷◌, ◌++◌, map, length, get_or, refl, sym, ap, inl, inr, ◌∙◌, subst, arith, append-nil, append_assoc, length-append}
use Rattle.std.specs.Prelude.{slice_index}
use Rattle.std.specs.Cow.{cow_str_bytes}
use Rattle.std.specs.declared.borrow.CowStr.{CowStr}
use Rattle.std.specs.declared.alloc.Global.{Global}
use Rattle.std.proofs.lemmas.Bool.{cases_lt}
use Rattle.std.proofs.lemmas.List.{get_or_at, get_or_append_left, length-map, map_push}
use Rattle.key_names.specs.declared.names.Names.{Names}
use Rattle.key_names.specs.code.Names.{texts_of, IsTable, Has, Joins}

-- a number of a name whose text is this
abbrev pub IsNumberOf : Names → ℕ → List ℕ → Type 0
IsNumberOf ns n k = (n < length (texts_of ns)) × (get_or (texts_of ns) n [] ≡ k)

-- some names of another table are there
pub record Joining (old new : Names) (seen : List (CowStr Global)) (joined : List ℕ) : Type 0 where
  pub table : IsTable new
  pub more : List (List ℕ)
  pub grown : texts_of new ≡ texts_of old ++ more
  pub counted : length joined ≡ length seen
  pub moved : (n : ℕ) → n < length seen → IsNumberOf new (slice_index joined n) (get_or (map cow_str_bytes seen) n [])

pub joining_start : (old : Names) → IsTable old → Joining old old [] []
joining_start old t = record {
  table = t;
  more = [];
  grown = sym (append-nil (texts_of old));
  counted = refl;
  moved = λ n l. absurd (omega arith);
}

still : (old between new : Names) (n : ℕ) (k : List ℕ) (more : List (List ℕ)) → texts_of new ≡ texts_of between ++ more → IsNumberOf between n k → IsNumberOf new n k
still old between new n k more e h =
    let within = h.0 in
    let long = ap (λ (ts : List (List ℕ)). length ts) e ∙ length-append (texts_of between) more in
    (omega arith, ap (λ (ts : List (List ℕ)). get_or ts n []) e ∙ get_or_append_left (texts_of between) more [] n within ∙ h.1)

pub joining_step : (old between new : Names) (seen : List (CowStr Global)) (joined : List ℕ) (text : CowStr Global) (n : ℕ) → Joining old between seen joined → Has between new (cow_str_bytes text) n → Joining old new (seen ++ text ∷ []) (joined ++ n ∷ [])
joining_step old between new seen joined text n j h =
    let seen_long = length-append seen (text ∷ []) in
    let joined_long = length-append joined (n ∷ []) in
    let texts_long = length-map seen cow_str_bytes in
    let counted = j.counted in
    record {
      table = h.table;
      more = j.more ++ h.more;
      grown = h.grown ∙ ap (λ (ts : List (List ℕ)). ts ++ h.more) j.grown ∙ append_assoc (texts_of old) j.more h.more;
      counted = omega arith;
      moved = λ m w. elim (cases_lt m (length seen)) [
        | inl before ↦
            let number : slice_index (joined ++ n ∷ []) m ≡ slice_index joined m = get_or_append_left joined (n ∷ []) 0 m (omega arith) in
            let name : get_or (map cow_str_bytes (seen ++ text ∷ [])) m [] ≡ get_or (map cow_str_bytes seen) m [] = ap (λ (ts : List (List ℕ)). get_or ts m []) (map_push cow_str_bytes seen text) ∙ get_or_append_left (map cow_str_bytes seen) (cow_str_bytes text ∷ []) [] m (omega arith) in
            subst (λ x. IsNumberOf new x (get_or (map cow_str_bytes (seen ++ text ∷ [])) m [])) (sym number) (subst (IsNumberOf new (slice_index joined m)) (sym name) (still old between new (slice_index joined m) (get_or (map cow_str_bytes seen) m []) h.more h.grown (j.moved m before)))
        | inr behind ↦
            let place : length joined ≡ m = omega arith in
            let number : slice_index (joined ++ n ∷ []) m ≡ n = get_or_at joined n [] 0 m place in
            let name : get_or (map cow_str_bytes (seen ++ text ∷ [])) m [] ≡ cow_str_bytes text = ap (λ (ts : List (List ℕ)). get_or ts m []) (map_push cow_str_bytes seen text) ∙ get_or_at (map cow_str_bytes seen) (cow_str_bytes text) [] [] m (omega arith) in
            subst (λ x. IsNumberOf new x (get_or (map cow_str_bytes (seen ++ text ∷ [])) m [])) (sym number) (subst (IsNumberOf new n) (sym name) (h.within, h.text))
      ];
    }

pub joining_end : (old other new : Names) (seen : List (CowStr Global)) (joined : List ℕ) → Joining old new seen joined → seen ≡ other.texts.items → Joins old other new joined
joining_end old other new seen joined j e =
    let long : length seen ≡ length (texts_of other) = ap (λ (ts : List (CowStr Global)). length ts) e ∙ sym (length-map other.texts.items cow_str_bytes) in
    let counted = j.counted in
    record {
      table = j.table;
      more = j.more;
      grown = j.grown;
      counted = omega arith;
      moved = λ n l. let q = j.moved n (omega arith) in (q.0, q.1 ∙ ap (λ (ts : List (CowStr Global)). get_or (map cow_str_bytes ts) n []) e);
    }
