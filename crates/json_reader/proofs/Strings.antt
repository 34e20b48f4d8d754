-- Strings: characters are read one by one, and what was read as one is one.
use Rattle.std.proofs.Common.{◌≡◌, ℕ, suc, ◌+◌, ◌-◌, ◌*◌, ◌<◌, Bool, true, false, List, [], ◌∷◌, ◌++◌, refl, sym, ap, inl, inr, ◌∙◌, subst, arith, append_assoc, append-nil, Option, Some, None, cond}
use Rattle.std.specs.Prelude.{nat_eq, nat_le, ◌&&◌, ◌||◌, not, encode_utf8}
use Rattle.std.proofs.lemmas.Bool.Decides.{nat_tests}
use Rattle.doc_values.specs.Unfinished.{Unfinished}
use Rattle.json_reader.specs.Json.{is_unescaped, Each, past, short_escape, is_hex, hex, is_unit, unit, is_high, is_low, opens_unit, escape, Character, IsCharacter, AreCharacters, spellings, meanings, Chars}
use Rattle.json_reader.specs.code.Reading.{InString, Heard, Bad, Closed, Part, Whole, may_escape, escape_heard, heard, string_next, string_cause, judged, judge, read}
use Rattle.json_reader.proofs.Judged.{given, read_judge}
use Rattle.json_reader.proofs.Spellings.{unescaped_not_quote, past-append}

pub both : (p q : Bool) → (p && q) ≡ true → (p ≡ true) × (q ≡ true)
both true true h = (refl, refl)
both true false h = absurd (cc)
both false q h = absurd (cc)

pub both_true : (p q : Bool) → p ≡ true → q ≡ true → (p && q) ≡ true
both_true true true e f = refl
both_true true false e f = absurd (cc)
both_true false q e f = absurd (cc)

if_some : (q : Bool) (o : Option ℕ) (n : ℕ) → cond q o None ≡ Some n → (q ≡ true) × (o ≡ Some n)
if_some true o n h = (refl, h)
if_some false o n h = absurd (cc)

if_none : (q : Bool) (o : Option ℕ) (n : ℕ) → cond q None o ≡ Some n → (q ≡ false) × (o ≡ Some n)
if_none false o n h = (refl, h)
if_none true o n h = absurd (cc)

opens_is : (x y : ℕ) → opens_unit x y ≡ true → (x ≡ 92) × (y ≡ 117)
opens_is x y h = (grind (arith, nat_tests), grind (arith, nat_tests))

neither : (p q : Bool) → (p || q) ≡ false → (p ≡ false) × (not q ≡ true)
neither false false h = (refl, refl)
neither false true h = absurd (cc)
neither true q h = absurd (cc)

high_not_low : (a b : ℕ) → is_high a b ≡ true → not (is_low a b) ≡ true
high_not_low a b h = grind (arith, nat_tests)

backslash_not_unescaped : (b : ℕ) → is_unescaped b ≡ true → nat_eq b 92 ≡ false
backslash_not_unescaped b h = grind (arith, nat_tests)

part_step : (b : ℕ) (t pre s : List ℕ) (at : ℕ) (key : Bool) (acc : List ℕ) (a : ℕ) (u : Unfinished) → heard pre b ≡ Part s → judge (b ∷ t) at (InString key acc pre a) u ≡ judge t (suc at) (InString key acc s a) u
part_step b t pre s at key acc a u e = ap (λ h. judged (string_next h key acc a u) (string_cause at h a) (judge t (suc at))) e

whole_step : (b : ℕ) (t pre m : List ℕ) (at : ℕ) (key : Bool) (acc : List ℕ) (a : ℕ) (u : Unfinished) → heard pre b ≡ Whole m → judge (b ∷ t) at (InString key acc pre a) u ≡ judge t (suc at) (InString key (acc ++ m) [] a) u
whole_step b t pre m at key acc a u e = ap (λ h. judged (string_next h key acc a u) (string_cause at h a) (judge t (suc at))) e

may_part : (o : Option ℕ) (q : Bool) (s : List ℕ) → o ≡ None → q ≡ true → escape_heard o q s ≡ Part s
may_part o q s e f = ap (λ o. escape_heard o q s) e ∙ ap (λ q. cond q (Part s) Bad) f

pub plain_heard : (b : ℕ) → is_unescaped b ≡ true → heard [] b ≡ Whole (b ∷ [])
plain_heard b e =
    ap (λ q. cond q Closed (cond (nat_eq b 92) (Part (92 ∷ [])) (cond (is_unescaped b) (Whole (b ∷ [])) Bad))) (unescaped_not_quote b e)
    ∙ ap (λ q. cond q (Part (92 ∷ [])) (cond (is_unescaped b) (Whole (b ∷ [])) Bad)) (backslash_not_unescaped b e)
    ∙ ap (λ q. cond q (Whole (b ∷ [])) Bad) e

five_run : (a b c : ℕ) (t : List ℕ) (at : ℕ) (key : Bool) (acc : List ℕ) (q : ℕ) (u : Unfinished) → is_hex a ≡ true → is_hex b ≡ true → not (is_low a b) ≡ true → is_hex c ≡ true → judge (92 ∷ (117 ∷ (a ∷ (b ∷ (c ∷ t))))) at (InString key acc [] q) u ≡ judge t (suc (suc (suc (suc (suc at))))) (InString key acc (92 ∷ 117 ∷ a ∷ b ∷ c ∷ []) q) u
five_run a b c t at key acc q u ha hb l hc =
    part_step 92 (117 ∷ (a ∷ (b ∷ (c ∷ t)))) [] (92 ∷ []) at key acc q u refl
    ∙ part_step 117 (a ∷ (b ∷ (c ∷ t))) (92 ∷ []) (92 ∷ 117 ∷ []) (suc at) key acc q u refl
    ∙ part_step a (b ∷ (c ∷ t)) (92 ∷ 117 ∷ []) (92 ∷ 117 ∷ a ∷ []) (suc (suc at)) key acc q u (may_part None (is_hex a) (92 ∷ 117 ∷ a ∷ []) refl ha)
    ∙ part_step b (c ∷ t) (92 ∷ 117 ∷ a ∷ []) (92 ∷ 117 ∷ a ∷ b ∷ []) (suc (suc (suc at))) key acc q u (may_part None (is_hex b && not (is_low a b)) (92 ∷ 117 ∷ a ∷ b ∷ []) refl (both_true (is_hex b) (not (is_low a b)) hb l))
    ∙ part_step c t (92 ∷ 117 ∷ a ∷ b ∷ []) (92 ∷ 117 ∷ a ∷ b ∷ c ∷ []) (suc (suc (suc (suc at)))) key acc q u (may_part None (is_hex c) (92 ∷ 117 ∷ a ∷ b ∷ c ∷ []) refl hc)

pub hexes : (a b c d : ℕ) → is_unit a b c d ≡ true → (is_hex a ≡ true) × (is_hex b ≡ true) × (is_hex c ≡ true) × (is_hex d ≡ true)
hexes a b c d h =
    let x = both ((is_hex a && is_hex b) && is_hex c) (is_hex d) h in
    let y = both (is_hex a && is_hex b) (is_hex c) x.0 in
    let z = both (is_hex a) (is_hex b) y.0 in
    (z.0, z.1, y.1, x.1)

unit_run : (a b c d : ℕ) (t : List ℕ) (at : ℕ) (key : Bool) (acc : List ℕ) (q : ℕ) (u : Unfinished) (n : ℕ) → escape (92 ∷ 117 ∷ a ∷ b ∷ c ∷ d ∷ []) ≡ Some n → judge (92 ∷ (117 ∷ (a ∷ (b ∷ (c ∷ (d ∷ t)))))) at (InString key acc [] q) u ≡ judge t (suc (suc (suc (suc (suc (suc at)))))) (InString key (acc ++ encode_utf8 n) [] q) u
unit_run a b c d t at key acc q u n e =
    let x = if_some (is_unit a b c d) (cond (is_high a b || is_low a b) None (Some (unit a b c d))) n e in
    let y = if_none (is_high a b || is_low a b) (Some (unit a b c d)) n x.1 in
    let h = hexes a b c d x.0 in
    let l = neither (is_high a b) (is_low a b) y.0 in
    let s : List ℕ = 92 ∷ 117 ∷ a ∷ b ∷ c ∷ d ∷ [] in
    five_run a b c (d ∷ t) at key acc q u h.0 h.1 l.1 h.2
    ∙ whole_step d t (92 ∷ 117 ∷ a ∷ b ∷ c ∷ []) (encode_utf8 n) (suc (suc (suc (suc (suc at))))) key acc q u (ap (λ o. escape_heard o (may_escape s) s) e)

pair_run : (a b c d e f g h : ℕ) (t : List ℕ) (at : ℕ) (key : Bool) (acc : List ℕ) (q : ℕ) (u : Unfinished) (n : ℕ) → escape (92 ∷ 117 ∷ a ∷ b ∷ c ∷ d ∷ 92 ∷ 117 ∷ e ∷ f ∷ g ∷ h ∷ []) ≡ Some n → judge (92 ∷ (117 ∷ (a ∷ (b ∷ (c ∷ (d ∷ (92 ∷ (117 ∷ (e ∷ (f ∷ (g ∷ (h ∷ t)))))))))))) at (InString key acc [] q) u ≡ judge t (suc (suc (suc (suc (suc (suc (suc (suc (suc (suc (suc (suc at)))))))))))) (InString key (acc ++ encode_utf8 n) [] q) u
pair_run a b c d e f g h t at key acc q u n eq =
    let m : Option ℕ = Some (65536 + (unit a b c d - 55296) * 1024 + (unit e f g h - 56320)) in
    let x = if_some (is_unit a b c d) (cond (is_high a b) (cond (is_unit e f g h) (cond (is_low e f) m None) None) None) n eq in
    let y = if_some (is_high a b) (cond (is_unit e f g h) (cond (is_low e f) m None) None) n x.1 in
    let z = if_some (is_unit e f g h) (cond (is_low e f) m None) n y.1 in
    let w = if_some (is_low e f) m n z.1 in
    let j = hexes a b c d x.0 in
    let k = hexes e f g h z.0 in
    let thirteen = both (nat_eq (hex e) 13) (nat_le 12 (hex f)) w.0 in
    let s6 : List ℕ = 92 ∷ 117 ∷ a ∷ b ∷ c ∷ d ∷ [] in
    let s7 : List ℕ = 92 ∷ 117 ∷ a ∷ b ∷ c ∷ d ∷ 92 ∷ [] in
    let s8 : List ℕ = 92 ∷ 117 ∷ a ∷ b ∷ c ∷ d ∷ 92 ∷ 117 ∷ [] in
    let s9 : List ℕ = 92 ∷ 117 ∷ a ∷ b ∷ c ∷ d ∷ 92 ∷ 117 ∷ e ∷ [] in
    let s10 : List ℕ = 92 ∷ 117 ∷ a ∷ b ∷ c ∷ d ∷ 92 ∷ 117 ∷ e ∷ f ∷ [] in
    let s11 : List ℕ = 92 ∷ 117 ∷ a ∷ b ∷ c ∷ d ∷ 92 ∷ 117 ∷ e ∷ f ∷ g ∷ [] in
    let s12 : List ℕ = 92 ∷ 117 ∷ a ∷ b ∷ c ∷ d ∷ 92 ∷ 117 ∷ e ∷ f ∷ g ∷ h ∷ [] in
    let at6 : ℕ = suc (suc (suc (suc (suc (suc at))))) in
    let none : escape s6 ≡ None = ap (λ p. cond p (cond (is_high a b || is_low a b) None (Some (unit a b c d))) None) x.0 ∙ ap (λ p. cond (p || is_low a b) None (Some (unit a b c d))) y.0 in
    five_run a b c (d ∷ (92 ∷ (117 ∷ (e ∷ (f ∷ (g ∷ (h ∷ t))))))) at key acc q u j.0 j.1 (high_not_low a b y.0) j.2
    ∙ part_step d (92 ∷ (117 ∷ (e ∷ (f ∷ (g ∷ (h ∷ t)))))) (92 ∷ 117 ∷ a ∷ b ∷ c ∷ []) s6 (suc (suc (suc (suc (suc at))))) key acc q u (may_part (escape s6) (is_hex d && is_high a b) s6 none (both_true (is_hex d) (is_high a b) j.3 y.0))
    ∙ part_step 92 (117 ∷ (e ∷ (f ∷ (g ∷ (h ∷ t))))) s6 s7 at6 key acc q u refl
    ∙ part_step 117 (e ∷ (f ∷ (g ∷ (h ∷ t)))) s7 s8 (suc at6) key acc q u refl
    ∙ part_step e (f ∷ (g ∷ (h ∷ t))) s8 s9 (suc (suc at6)) key acc q u (may_part None (is_hex e && nat_eq (hex e) 13) s9 refl (both_true (is_hex e) (nat_eq (hex e) 13) k.0 thirteen.0))
    ∙ part_step f (g ∷ (h ∷ t)) s9 s10 (suc (suc (suc at6))) key acc q u (may_part None (is_hex f && is_low e f) s10 refl (both_true (is_hex f) (is_low e f) k.1 w.0))
    ∙ part_step g (h ∷ t) s10 s11 (suc (suc (suc (suc at6)))) key acc q u (may_part None (is_hex g) s11 refl k.2)
    ∙ whole_step h t s11 (encode_utf8 n) (suc (suc (suc (suc (suc at6))))) key acc q u (ap (λ o. escape_heard o (may_escape s12) s12) eq)

-- an escape is read as its character
pub escape_run : (s t : List ℕ) (at : ℕ) (key : Bool) (acc : List ℕ) (q : ℕ) (u : Unfinished) (n : ℕ) → escape s ≡ Some n → judge (s ++ t) at (InString key acc [] q) u ≡ judge t (past at s) (InString key (acc ++ encode_utf8 n) [] q) u
escape_run (x ∷ b ∷ []) t at key acc q u n e =
    let k = if_some (nat_eq x 92) (short_escape b) n e in
    let ex : x ≡ 92 = let h = k.0 in grind (arith, nat_tests) in
    let s : List ℕ = 92 ∷ b ∷ [] in
    ap (λ y. judge (y ∷ (b ∷ t)) at (InString key acc [] q) u) ex ∙ part_step 92 (b ∷ t) [] (92 ∷ []) at key acc q u refl ∙ whole_step b t (92 ∷ []) (encode_utf8 n) (suc at) key acc q u (ap (λ o. escape_heard o (may_escape s) s) k.1)
escape_run (x ∷ y ∷ a ∷ b ∷ c ∷ d ∷ []) t at key acc q u n e =
    let k = if_some (opens_unit x y) (cond (is_unit a b c d) (cond (is_high a b || is_low a b) None (Some (unit a b c d))) None) n e in
    let o = opens_is x y k.0 in
    ap (λ z. judge (z ∷ (y ∷ (a ∷ (b ∷ (c ∷ (d ∷ t)))))) at (InString key acc [] q) u) o.0 ∙ ap (λ z. judge (92 ∷ (z ∷ (a ∷ (b ∷ (c ∷ (d ∷ t)))))) at (InString key acc [] q) u) o.1 ∙ unit_run a b c d t at key acc q u n k.1
escape_run (x ∷ y ∷ a ∷ b ∷ c ∷ d ∷ v ∷ w ∷ e ∷ f ∷ g ∷ h ∷ []) t at key acc q u n eq =
    let m : Option ℕ = Some (65536 + (unit a b c d - 55296) * 1024 + (unit e f g h - 56320)) in
    let k1 = if_some (opens_unit x y) (cond (is_unit a b c d) (cond (is_high a b) (cond (opens_unit v w) (cond (is_unit e f g h) (cond (is_low e f) m None) None) None) None) None) n eq in
    let k2 = if_some (is_unit a b c d) (cond (is_high a b) (cond (opens_unit v w) (cond (is_unit e f g h) (cond (is_low e f) m None) None) None) None) n k1.1 in
    let k3 = if_some (is_high a b) (cond (opens_unit v w) (cond (is_unit e f g h) (cond (is_low e f) m None) None) None) n k2.1 in
    let k4 = if_some (opens_unit v w) (cond (is_unit e f g h) (cond (is_low e f) m None) None) n k3.1 in
    let o = opens_is x y k1.0 in
    let p = opens_is v w k4.0 in
    let rest = cond (is_unit e f g h) (cond (is_low e f) m None) None in
    let made : escape (92 ∷ 117 ∷ a ∷ b ∷ c ∷ d ∷ 92 ∷ 117 ∷ e ∷ f ∷ g ∷ h ∷ []) ≡ Some n = ap (λ p. cond p (cond (is_high a b) rest None) None) k2.0 ∙ ap (λ p. cond p rest None) k3.0 ∙ k4.1 in
    ap (λ z. judge (z ∷ (y ∷ (a ∷ (b ∷ (c ∷ (d ∷ (v ∷ (w ∷ (e ∷ (f ∷ (g ∷ (h ∷ t)))))))))))) at (InString key acc [] q) u) o.0
    ∙ ap (λ z. judge (92 ∷ (z ∷ (a ∷ (b ∷ (c ∷ (d ∷ (v ∷ (w ∷ (e ∷ (f ∷ (g ∷ (h ∷ t)))))))))))) at (InString key acc [] q) u) o.1
    ∙ ap (λ z. judge (92 ∷ (117 ∷ (a ∷ (b ∷ (c ∷ (d ∷ (z ∷ (w ∷ (e ∷ (f ∷ (g ∷ (h ∷ t)))))))))))) at (InString key acc [] q) u) p.0
    ∙ ap (λ z. judge (92 ∷ (117 ∷ (a ∷ (b ∷ (c ∷ (d ∷ (92 ∷ (z ∷ (e ∷ (f ∷ (g ∷ (h ∷ t)))))))))))) at (InString key acc [] q) u) p.1
    ∙ pair_run a b c d e f g h t at key acc q u n made
escape_run _ t at key acc q u n e = absurd (cc)

character_run : (c : Character) (t : List ℕ) (at : ℕ) (key : Bool) (acc : List ℕ) (q : ℕ) (u : Unfinished) → IsCharacter c → judge (c.spelling ++ t) at (InString key acc [] q) u ≡ judge t (past at c.spelling) (InString key (acc ++ c.meaning) [] q) u
character_run c t at key acc q u (inl (b, h, s, m)) =
    ap (λ x. judge (x ++ t) at (InString key acc [] q) u) s ∙ whole_step b t [] (b ∷ []) at key acc q u (plain_heard b h) ∙ ap (λ x. judge t (past at x) (InString key (acc ++ (b ∷ [])) [] q) u) (sym s) ∙ ap (λ x. judge t (past at c.spelling) (InString key (acc ++ x) [] q) u) (sym m)
character_run c t at key acc q u (inr (n, e, m)) =
    escape_run c.spelling t at key acc q u n e ∙ ap (λ x. judge t (past at c.spelling) (InString key (acc ++ x) [] q) u) (sym m)

characters_run : (cs : List Character) (t : List ℕ) (at : ℕ) (key : Bool) (acc : List ℕ) (q : ℕ) (u : Unfinished) → AreCharacters cs → judge (spellings cs ++ t) at (InString key acc [] q) u ≡ judge t (past at (spellings cs)) (InString key (acc ++ meanings cs) [] q) u
characters_run [] t at key acc q u e = ap (λ s. judge t at (InString key s [] q) u) (sym (append-nil acc))
characters_run (c ∷ cs) t at key acc q u e =
    ap (λ x. judge x at (InString key acc [] q) u) (append_assoc c.spelling (spellings cs) t) ∙ character_run c (spellings cs ++ t) at key acc q u e.0
    ∙ characters_run cs t (past at c.spelling) key (acc ++ c.meaning) q u e.1
    ∙ ap (λ n. judge t n (InString key ((acc ++ c.meaning) ++ meanings cs) [] q) u) (sym (past-append at c.spelling (spellings cs)))
    ∙ ap (λ x. judge t (past at (c.spelling ++ spellings cs)) (InString key x [] q) u) (append_assoc acc c.meaning (meanings cs))

-- characters are read as what they stand for
pub chars_run : (k text t : List ℕ) (at : ℕ) (key : Bool) (acc : List ℕ) (q : ℕ) (u : Unfinished) → Chars k text → judge (k ++ t) at (InString key acc [] q) u ≡ judge t (past at k) (InString key (acc ++ text) [] q) u
chars_run k text t at key acc q u (cs, e, b, m) =
    ap (λ x. judge (x ++ t) at (InString key acc [] q) u) b ∙ characters_run cs t at key acc q u e ∙ ap (λ x. judge t (past at x) (InString key (acc ++ meanings cs) [] q) u) (sym b) ∙ ap (λ x. judge t (past at k) (InString key (acc ++ x) [] q) u) (sym m)

pub chars_read : (k text t : List ℕ) (at : ℕ) (key : Bool) (acc : List ℕ) (q : ℕ) (u : Unfinished) → Chars k text → read (k ++ t) at (InString key acc [] q) u ≡ read t (past at k) (InString key (acc ++ text) [] q) u
chars_read k text t at key acc q u c = read_judge (k ++ t) at (InString key acc [] q) u ∙ ap given (chars_run k text t at key acc q u c) ∙ sym (read_judge t (past at k) (InString key (acc ++ text) [] q) u)

pub no_chars : Chars [] []
no_chars = ([], tt, refl, refl)

-- a character in front
pub chars_cons : (s m k text : List ℕ) → IsCharacter (record { spelling = s; meaning = m }) → Chars k text → Chars (s ++ k) (m ++ text)
chars_cons s m k text c (cs, e, b, t) = (record { spelling = s; meaning = m } ∷ cs, (c, e), ap (λ x. s ++ x) b, ap (λ x. m ++ x) t)

characters_join : (cs : List Character) (b y : List ℕ) → AreCharacters cs → Chars b y → Chars (spellings cs ++ b) (meanings cs ++ y)
characters_join [] b y e h = h
characters_join (c ∷ cs) b y e h =
    let r = chars_cons c.spelling c.meaning (spellings cs ++ b) (meanings cs ++ y) e.0 (characters_join cs b y e.1 h) in
    subst (λ s. Chars s ((c.meaning ++ meanings cs) ++ y)) (sym (append_assoc c.spelling (spellings cs) b)) (subst (λ s. Chars (c.spelling ++ (spellings cs ++ b)) s) (sym (append_assoc c.meaning (meanings cs) y)) r)

-- characters in a row
pub chars_join : (a x b y : List ℕ) → Chars a x → Chars b y → Chars (a ++ b) (x ++ y)
chars_join a x b y (cs, e, s, m) h = subst (λ t. Chars (t ++ b) (x ++ y)) (sym s) (subst (λ t. Chars (spellings cs ++ b) (t ++ y)) (sym m) (characters_join cs b y e h))

pub plain_chars : (bytes : List ℕ) → Each is_unescaped bytes → Chars bytes bytes
plain_chars [] e = no_chars
plain_chars (b ∷ bytes) (h, e) = chars_cons (b ∷ []) (b ∷ []) bytes bytes (inl (b, h, refl, refl)) (plain_chars bytes e)

-- what a byte does, said the other way
abbrev pub Hears : List ℕ → ℕ → Heard → Type 0
Hears part b Bad = Unit {0}
Hears part b Closed = (part ≡ []) × (b ≡ 34)
Hears part b (Part s) = s ≡ part ++ (b ∷ [])
Hears part b (Whole m) = IsCharacter (record { spelling = part ++ (b ∷ []); meaning = m })

quote_is : (b : ℕ) → nat_eq b 34 ≡ true → b ≡ 34
quote_is b h = grind (arith, nat_tests)

pub backslash_is : (b : ℕ) → nat_eq b 92 ≡ true → b ≡ 92
backslash_is b h = grind (arith, nat_tests)

first_heard : (b : ℕ) (p q r : Bool) → nat_eq b 34 ≡ p → nat_eq b 92 ≡ q → is_unescaped b ≡ r → Hears [] b (cond p Closed (cond q (Part (92 ∷ [])) (cond r (Whole (b ∷ [])) Bad)))
first_heard b true q r e f g = (refl, quote_is b e)
first_heard b false true r e f g = ap (λ x. x ∷ []) (sym (backslash_is b f))
first_heard b false false true e f g = inl (b, g, refl, refl)
first_heard b false false false e f g = tt

later_heard : (part : List ℕ) (b : ℕ) (o : Option ℕ) (q : Bool) → escape (part ++ (b ∷ [])) ≡ o → Hears part b (escape_heard o q (part ++ (b ∷ [])))
later_heard part b (Some n) q e = inr (n, e, refl)
later_heard part b None true e = refl
later_heard part b None false e = tt

pub hears : (part : List ℕ) (b : ℕ) → Hears part b (heard part b)
hears [] b = first_heard b (nat_eq b 34) (nat_eq b 92) (is_unescaped b) refl refl refl
hears (x ∷ part) b = later_heard (x ∷ part) b (escape (x ∷ (part ++ (b ∷ [])))) (may_escape (x ∷ (part ++ (b ∷ [])))) refl

-- an escape ends in a byte of ASCII that is no control
hex_ascii : (b : ℕ) → is_hex b ≡ true → (31 < b) × (b < 128)
hex_ascii b h = (grind (arith, nat_tests), grind (arith, nat_tests))

short_ascii : (b n : ℕ) → short_escape b ≡ Some n → (31 < b) × (b < 128)
short_ascii b n h = (grind (arith, nat_tests), grind (arith, nat_tests))

unit_ascii : (a b c d : ℕ) (o : Option ℕ) (n : ℕ) → cond (is_unit a b c d) o None ≡ Some n → (31 < d) × (d < 128)
unit_ascii a b c d o n e = let x = if_some (is_unit a b c d) o n e in let h = hexes a b c d x.0 in hex_ascii d h.3

none_some : (n : ℕ) → ◌≡◌ {A = Option ℕ} None (Some n) → ⊥
none_some n e = cc

pub last_ascii : (before : List ℕ) (b n : ℕ) → escape (before ++ (b ∷ [])) ≡ Some n → (31 < b) × (b < 128)
last_ascii (x ∷ []) b n e = let k = if_some (nat_eq x 92) (short_escape b) n e in short_ascii b n k.1
last_ascii (x ∷ y ∷ a ∷ b ∷ c ∷ []) d n e =
    let k = if_some (opens_unit x y) (cond (is_unit a b c d) (cond (is_high a b || is_low a b) None (Some (unit a b c d))) None) n e in
    unit_ascii a b c d (cond (is_high a b || is_low a b) None (Some (unit a b c d))) n k.1
last_ascii (x ∷ y ∷ a ∷ b ∷ c ∷ d ∷ v ∷ w ∷ e ∷ f ∷ g ∷ []) h n eq =
    let m : Option ℕ = Some (65536 + (unit a b c d - 55296) * 1024 + (unit e f g h - 56320)) in
    let k1 = if_some (opens_unit x y) (cond (is_unit a b c d) (cond (is_high a b) (cond (opens_unit v w) (cond (is_unit e f g h) (cond (is_low e f) m None) None) None) None) None) n eq in
    let k2 = if_some (is_unit a b c d) (cond (is_high a b) (cond (opens_unit v w) (cond (is_unit e f g h) (cond (is_low e f) m None) None) None) None) n k1.1 in
    let k3 = if_some (is_high a b) (cond (opens_unit v w) (cond (is_unit e f g h) (cond (is_low e f) m None) None) None) n k2.1 in
    let k4 = if_some (opens_unit v w) (cond (is_unit e f g h) (cond (is_low e f) m None) None) n k3.1 in
    unit_ascii e f g h (cond (is_low e f) m None) n k4.1
last_ascii [] b n e = absurd (none_some n e)
last_ascii (x ∷ y ∷ []) b n e = absurd (none_some n e)
last_ascii (x ∷ y ∷ a ∷ []) b n e = absurd (none_some n e)
last_ascii (x ∷ y ∷ a ∷ b1 ∷ []) b n e = absurd (none_some n e)
last_ascii (x ∷ y ∷ a ∷ b1 ∷ c ∷ d ∷ []) b n e = absurd (none_some n e)
last_ascii (x ∷ y ∷ a ∷ b1 ∷ c ∷ d ∷ v ∷ []) b n e = absurd (none_some n e)
last_ascii (x ∷ y ∷ a ∷ b1 ∷ c ∷ d ∷ v ∷ w ∷ []) b n e = absurd (none_some n e)
last_ascii (x ∷ y ∷ a ∷ b1 ∷ c ∷ d ∷ v ∷ w ∷ e1 ∷ []) b n e = absurd (none_some n e)
last_ascii (x ∷ y ∷ a ∷ b1 ∷ c ∷ d ∷ v ∷ w ∷ e1 ∷ f ∷ []) b n e = absurd (none_some n e)
last_ascii (x ∷ y ∷ a ∷ b1 ∷ c ∷ d ∷ v ∷ w ∷ e1 ∷ f ∷ g ∷ (z ∷ [])) b n e = absurd (none_some n e)
last_ascii (x ∷ y ∷ a ∷ b1 ∷ c ∷ d ∷ v ∷ w ∷ e1 ∷ f ∷ g ∷ (z ∷ (m ∷ more))) b n e = absurd (none_some n e)
