-- What the functions reach in front of bytes is a name, a text, a pattern or a note.
use Rattle.std.proofs.Common.{◌≡◌, ◌≢◌, ℕ, suc, Bool, true, false, List, [], ◌∷◌, ◌++◌, length, Option, Some, None, take, refl, sym, ap, ◌∙◌, subst, inl, inr, ◌&&◌}
use Rattle.std.specs.Prelude.{if◌then◌else◌, ◌==◌, option_map}
use Rattle.std.proofs.lemmas.Bool.{true≢false}
use Rattle.std.proofs.lemmas.Option.{none-some}
use Rattle.guard_lexer.specs.Bytes.{is_letter, is_word, Each}
use Rattle.guard_lexer.specs.Forms.{AreParts, Closes, EndsNote}
use Rattle.guard_lexer.specs.code.Reach.{run, in_name, typed, closing, note_end}
use Rattle.guard_lexer.proofs.Lists.{tested, same_byte, other_byte, is_byte, not_byte, on_true, on_false}
use Rattle.guard_lexer.proofs.Reaches.{no_end}

-- ---- names

abbrev pub has_items : List (List ℕ) → Bool
has_items [] = false
has_items (n ∷ ns) = true

pub record NameForm (bs : List ℕ) : Type 0 where
  pub word : List ℕ
  pub parts : List ℕ
  pub names : List (List ℕ)
  pub rest : List ℕ
  pub joined : bs ≡ (word ++ parts) ++ rest
  pub each : Each is_word word
  pub are : AreParts names parts
  pub size : length (word ++ parts) ≡ in_name bs
  pub typed_is : typed bs ≡ has_items names

name_ends : (bs : List ℕ) → in_name bs ≡ 0 → typed bs ≡ false → NameForm bs
name_ends bs e f = record { word = []; parts = []; names = []; rest = bs; joined = refl; each = tt; are = refl; size = sym e; typed_is = f }

name_more : (b : ℕ) (bs : List ℕ) → is_word b ≡ true → NameForm bs → in_name (b ∷ bs) ≡ suc (in_name bs) → typed (b ∷ bs) ≡ typed bs → NameForm (b ∷ bs)
name_more b bs e n f g = record {
  word = b ∷ n.word;
  parts = n.parts;
  names = n.names;
  rest = n.rest;
  joined = ap (λ x. b ∷ x) n.joined;
  each = (e, n.each);
  are = n.are;
  size = ap suc n.size ∙ sym f;
  typed_is = g ∙ n.typed_is;
}

part_more : (d : ℕ) (bs : List ℕ) → is_letter d ≡ true → NameForm bs → NameForm (58 ∷ 58 ∷ d ∷ bs)
part_more d bs e n = record {
  word = [];
  parts = 58 ∷ 58 ∷ ((d ∷ n.word) ++ n.parts);
  names = (d ∷ n.word) ∷ n.names;
  rest = n.rest;
  joined = ap (λ x. 58 ∷ 58 ∷ d ∷ x) n.joined;
  each = tt;
  are = (n.parts, refl, (e, n.each), n.are);
  size = ap (λ k. suc (suc (suc k))) n.size ∙ sym (on_true (is_letter d) (suc (suc (suc (in_name bs)))) 0 e);
  typed_is = e;
}

both : (a b : Bool) → (a && b) ≡ true → (a ≡ true) × (b ≡ true)
both true b e = (refl, e)
both false b e = absurd (true≢false (sym e))

pub name_form : (bs : List ℕ) → NameForm bs
name_form [] = name_ends [] refl refl
name_form (b ∷ []) = elim (tested (is_word b)) [
  | inl e ↦ name_more b [] e (name_ends [] refl refl) (on_true (is_word b) 1 0 e) refl
  | inr e ↦ name_ends (b ∷ []) (on_false (is_word b) 1 0 e) refl
]
name_form (b ∷ c ∷ []) = elim (tested (is_word b)) [
  | inl e ↦ name_more b (c ∷ []) e (name_form (c ∷ [])) (on_true (is_word b) (suc (in_name (c ∷ []))) 0 e) (on_true (is_word b) (typed (c ∷ [])) false e)
  | inr e ↦ name_ends (b ∷ c ∷ []) (on_false (is_word b) (suc (in_name (c ∷ []))) 0 e) (on_false (is_word b) (typed (c ∷ [])) false e)
]
name_form (b ∷ c ∷ d ∷ bs) = elim (tested (is_word b)) [
  | inl e ↦
      name_more b (c ∷ d ∷ bs) e (name_form (c ∷ d ∷ bs)) (on_true (is_word b) (suc (in_name (c ∷ d ∷ bs))) (if b == 58 && (c == 58 && is_letter d) then suc (suc (suc (in_name bs))) else 0) e)
      (on_true (is_word b) (typed (c ∷ d ∷ bs)) (b == 58 && (c == 58 && is_letter d)) e)
  | inr e ↦ elim (tested (b == 58 && (c == 58 && is_letter d))) [
    | inl t ↦
        let x = both (b == 58) (c == 58 && is_letter d) t in
        let y = both (c == 58) (is_letter d) x.1 in
        subst (λ u. NameForm (u ∷ c ∷ d ∷ bs)) (sym (same_byte b 58 x.0)) (subst (λ v. NameForm (58 ∷ v ∷ d ∷ bs)) (sym (same_byte c 58 y.0)) (part_more d bs y.1 (name_form bs)))
    | inr t ↦
        name_ends (b ∷ c ∷ d ∷ bs) (on_false (is_word b) (suc (in_name (c ∷ d ∷ bs))) (if b == 58 && (c == 58 && is_letter d) then suc (suc (suc (in_name bs))) else 0) e ∙ on_false (b == 58 && (c == 58 && is_letter d)) (suc (suc (suc (in_name bs)))) 0 t)
        (on_false (is_word b) (typed (c ∷ d ∷ bs)) (b == 58 && (c == 58 && is_letter d)) e ∙ t)
  ]
]

-- ---- what passes in front

each_more : (f : ℕ → Bool) (b : ℕ) (bs : List ℕ) (v : Bool) → f b ≡ v → Each f (take (run f bs) bs) → Each f (take (if v then suc (run f bs) else 0) (b ∷ bs))
each_more f b bs true e h = (e, h)
each_more f b bs false e h = tt

pub run_each : (f : ℕ → Bool) (bs : List ℕ) → Each f (take (run f bs) bs)
run_each f [] = tt
run_each f (b ∷ bs) = each_more f b bs (f b) refl (run_each f bs)

size_more : (f : ℕ → Bool) (b : ℕ) (bs : List ℕ) (v : Bool) → length (take (run f bs) bs) ≡ run f bs → length (take (if v then suc (run f bs) else 0) (b ∷ bs)) ≡ (if v then suc (run f bs) else 0)
size_more f b bs true h = ap suc h
size_more f b bs false h = refl

pub run_size : (f : ℕ → Bool) (bs : List ℕ) → length (take (run f bs) bs) ≡ run f bs
run_size f [] = refl
run_size f (b ∷ bs) = size_more f b bs (f b) (run_size f bs)

-- ---- quotes

pub map_some : (o : Option ℕ) (n : ℕ) → option_map (λ k. suc k) o ≡ Some n → (k : ℕ) × (o ≡ Some k) × (n ≡ suc k)
map_some None n e = absurd (none-some _ e)
map_some (Some k) n e = (k, refl, cc)

some_is : (a n : ℕ) → Some a ≡ Some n → a ≡ n
some_is a n e = cc

pub record ClosedForm (q : ℕ) (bs : List ℕ) (n : ℕ) : Type 0 where
  pub text : List ℕ
  pub rest : List ℕ
  pub joined : bs ≡ text ++ rest
  pub is : Closes q text
  pub size : length text ≡ n

at_quote : (q b : ℕ) (bs : List ℕ) (n : ℕ) → (b == q) ≡ true → closing q false (b ∷ bs) ≡ Some n → ClosedForm q (b ∷ bs) n
at_quote q b bs n t e =
    let f : Some 1 ≡ Some n = sym (ap (λ v. if v && true then Some 1 else option_map (λ k. suc k) (closing q (b == 92) bs)) t) ∙ e in
    record { text = b ∷ []; rest = bs; joined = refl; is = same_byte b q t; size = some_is 1 n f }

escape_more : (q b c : ℕ) (bs : List ℕ) (n k : ℕ) → b ≡ 92 → c ≡ q → n ≡ suc (suc k) → ClosedForm q bs k → ClosedForm q (b ∷ c ∷ bs) n
escape_more q b c bs n k e d m f = record { text = b ∷ c ∷ f.text; rest = f.rest; joined = ap (λ x. b ∷ c ∷ x) f.joined; is = inl (e, d, f.is); size = ap (λ j. suc (suc j)) f.size ∙ sym m }

byte_more : (q b c : ℕ) (bs : List ℕ) (n k : ℕ) → b ≢ q → (b ≡ 92 → c ≢ q) → n ≡ suc k → ClosedForm q (c ∷ bs) k → ClosedForm q (b ∷ c ∷ bs) n
byte_more q b c bs n k e d m f = record { text = b ∷ f.text; rest = f.rest; joined = ap (λ x. b ∷ x) f.joined; is = put f.text f.joined f.is; size = ap suc f.size ∙ sym m }
  where
    put : (t : List ℕ) → c ∷ bs ≡ t ++ f.rest → Closes q t → Closes q (b ∷ t)
    put [] j h = absurd h
    put (a ∷ t) j h = let same : c ≡ a = cc in inr (e, (λ x y. d x (same ∙ y)), h)

behind_quote : (q c : ℕ) (x : List ℕ) → q ≢ 92 → c ≡ q → closing q true (c ∷ x) ≡ option_map (λ k. suc k) (closing q false x)
behind_quote q c x n d =
    ap (λ v. if v && false then Some 1 else option_map (λ k. suc k) (closing q (c == 92) x)) (is_byte c q d) ∙ ap (λ v. option_map (λ k. suc k) (closing q v x)) (not_byte c 92 (λ y. n (sym d ∙ y)))

behind_any : (q b c : ℕ) (x : List ℕ) → (b ≡ 92 → c ≢ q) → closing q (b == 92) (c ∷ x) ≡ closing q false (c ∷ x)
behind_any q b c x d = elim (tested (b == 92)) [
  | inl t ↦ let f = d (same_byte b 92 t) in no_end q c x (b == 92) f ∙ sym (no_end q c x false f)
  | inr t ↦ ap (λ v. closing q v (c ∷ x)) t
]

pub closed_form : (q : ℕ) (bs : List ℕ) (n : ℕ) → q ≢ 92 → closing q false bs ≡ Some n → ClosedForm q bs n
closed_form q [] n h e = absurd (none-some _ e)
closed_form q (b ∷ []) n h e = elim (tested (b == q)) [
  | inl t ↦ at_quote q b [] n t e
  | inr t ↦ absurd (none-some _ (sym (no_end q b [] false (other_byte b q t)) ∙ e))
]
closed_form q (b ∷ c ∷ bs) n h e = elim (tested (b == q)) [
  | inl t ↦ at_quote q b (c ∷ bs) n t e
  | inr t ↦
      let m = map_some (closing q (b == 92) (c ∷ bs)) n (sym (no_end q b (c ∷ bs) false (other_byte b q t)) ∙ e) in
      elim (tested (b == 92 && c == q)) [
        | inl u ↦
            let v = both (b == 92) (c == q) u in
            let l = map_some (closing q false bs) m.0 (sym (behind_quote q c bs h (same_byte c q v.1)) ∙ ap (λ w. closing q w (c ∷ bs)) (sym v.0) ∙ m.1) in
            escape_more q b c bs n l.0 (same_byte b 92 v.0) (same_byte c q v.1) (m.2 ∙ ap suc l.2) (closed_form q bs l.0 h l.1)
        | inr u ↦
            let d : b ≡ 92 → c ≢ q = λ x y. true≢false (sym (ap (λ w. w && c == q) (is_byte b 92 x) ∙ is_byte c q y) ∙ u) in
            byte_more q b c bs n m.0 (other_byte b q t) d m.2 (closed_form q (c ∷ bs) m.0 h (sym (behind_any q b c bs d) ∙ m.1))
      ]
]

-- ---- notes

record NoteForm (b : ℕ) (bs : List ℕ) (n : ℕ) : Type 0 where
  pub text : List ℕ
  pub rest : List ℕ
  pub joined : bs ≡ text ++ rest
  pub is : EndsNote (b ∷ text)
  pub size : length text ≡ n

note_byte : (b c : ℕ) (bs : List ℕ) (n k : ℕ) → (b ≡ 62 → c ≢ 62) → n ≡ suc k → NoteForm c bs k → NoteForm b (c ∷ bs) n
note_byte b c bs n k d m f = record { text = c ∷ f.text; rest = f.rest; joined = ap (λ x. c ∷ x) f.joined; is = put f.text f.is; size = ap suc f.size ∙ sym m }
  where
    put : (t : List ℕ) → EndsNote (c ∷ t) → EndsNote (b ∷ c ∷ t)
    put [] h = absurd h
    put (a ∷ t) h = (d, h)

note_from : (b : ℕ) (bs : List ℕ) (n : ℕ) → note_end (b == 62) bs ≡ Some n → NoteForm b bs n
note_from b [] n e = absurd (none-some _ e)
note_from b (c ∷ bs) n e = elim (tested (c == 62 && b == 62)) [
  | inl t ↦
      let v = both (c == 62) (b == 62) t in
      let f : Some 1 ≡ Some n = sym (on_true (c == 62 && b == 62) (Some 1) (option_map (λ k. suc k) (note_end (c == 62) bs)) t) ∙ e in
      record { text = c ∷ []; rest = bs; joined = refl; is = (same_byte b 62 v.1, same_byte c 62 v.0); size = some_is 1 n f }
  | inr t ↦
      let m = map_some (note_end (c == 62) bs) n (sym (on_false (c == 62 && b == 62) (Some 1) (option_map (λ k. suc k) (note_end (c == 62) bs)) t) ∙ e) in
      let d : b ≡ 62 → c ≢ 62 = λ x y. true≢false (sym (ap (λ w. w && b == 62) (is_byte c 62 y) ∙ is_byte b 62 x) ∙ t) in
      note_byte b c bs n m.0 d m.2 (note_from c bs m.0 m.1)
]

pub record NotedForm (bs : List ℕ) (n : ℕ) : Type 0 where
  pub text : List ℕ
  pub rest : List ℕ
  pub joined : bs ≡ text ++ rest
  pub is : EndsNote text
  pub size : length text ≡ n

note_first : (v : Bool) (x : Option ℕ) → (if v && false then Some 1 else x) ≡ x
note_first true x = refl
note_first false x = refl

pub noted_form : (bs : List ℕ) (n : ℕ) → note_end false bs ≡ Some n → NotedForm bs n
noted_form [] n e = absurd (none-some _ e)
noted_form (b ∷ bs) n e =
    let m = map_some (note_end (b == 62) bs) n (sym (note_first (b == 62) (option_map (λ k. suc k) (note_end (b == 62) bs))) ∙ e) in
    let f = note_from b bs m.0 m.1 in
    record { text = b ∷ f.text; rest = f.rest; joined = ap (λ x. b ∷ x) f.joined; is = f.is; size = ap suc f.size ∙ sym m.2 }
