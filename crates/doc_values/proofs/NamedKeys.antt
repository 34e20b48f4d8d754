-- The key of a row against the number of its name: a key is there under a number just where a row with its name is.
use Rattle.std.proofs.Common.{◌≡◌, ℕ, ◌<◌, ◌≤◌, true, List, [], length, get_or, refl, sym, ap, ◌∙◌, subst, Option, None, Some}
use Rattle.std.specs.Prelude.{is_some}
use Rattle.std.specs.Cow.{cow_str_bytes}
use Rattle.key_names.specs.declared.names.Names.{Names}
use Rattle.doc_values.specs.declared.arena.Awaited.{Awaited as Key}
use Rattle.doc_values.specs.code.Rows.{Row}
use Rattle.doc_values.specs.code.Entries.{Entry, named_in, rows_in, no_entry, IsNameAt, under_at, AreNamed}
use Rattle.key_names.specs.code.Names.{name_of, texts_of, IsTable, IsSame}
use Rattle.doc_values.specs.code.Uses.{IsBehindName, AreDeeper, AreLow}
use Rattle.doc_values.specs.code.Index.{among, keyed, no_row, IsAwaited, IsKnown}
use Rattle.doc_values.proofs.Entries.{length-rows_in, row_at}
use Rattle.doc_values.proofs.KeysAmong.{keyed_nowhere, keyed_somewhere}
use Rattle.doc_values.proofs.Links.{walk_ends}

named_number : (ns : Names) (k : List ℕ) (o : Option ℕ) → IsTable ns → ((n : ℕ) → o ≡ Some n → n < length (texts_of ns)) → named_in (texts_of ns) o ≡ Some k → o ≡ name_of ns k
named_number ns k None t h e = absurd cc
named_number ns k (Some n) t h e =
    let same : get_or (texts_of ns) n [] ≡ k = inside (get_or (texts_of ns) n []) k e in
    sym (ap (name_of ns) (sym same) ∙ t.listed n (h n refl))
  where
    inside : (a b : List ℕ) → Some a ≡ Some b → a ≡ b
    inside a b e = cc

-- the name of a row whose key is there
pub key_named : (es : List Entry) (ns : Names) (k : List ℕ) (i : ℕ) (d : Row) → IsTable ns → AreNamed es (length (texts_of ns)) → i < length es → (get_or (rows_in (texts_of ns) es) i d).label.key ≡ Some k → (get_or es i no_entry).name ≡ name_of ns k
key_named es ns k i d t named l e =
    named_number ns k (get_or es i no_entry).name t (λ n q. named i n l q) (sym (ap (λ (r : Row). r.label.key) (row_at (texts_of ns) es i d l)) ∙ e)

-- the key of a row whose name is there
pub name_keyed : (es : List Entry) (ns : Names) (k : List ℕ) (i n : ℕ) (d : Row) → IsTable ns → name_of ns k ≡ Some n → i < length es → IsNameAt es i n → (get_or (rows_in (texts_of ns) es) i d).label.key ≡ Some k
name_keyed es ns k i n d t found l e =
    ap (λ (r : Row). r.label.key) (row_at (texts_of ns) es i d l) ∙ ap (named_in (texts_of ns)) e ∙ ap (λ x. let o : Option (List ℕ) = Some x in o) (t.known k n found).1

stands_under : (es : List Entry) (ns : Names) (i : ℕ) → i < length es → (get_or (rows_in (texts_of ns) es) i no_row).under ≡ under_at es i
stands_under es ns i l = ap (λ (r : Row). r.under) (row_at (texts_of ns) es i no_row l)

none_some : (n : ℕ) (o p : Option ℕ) → o ≡ p → p ≡ None → o ≡ Some n → ⊥
none_some n o p e f g = cc

unnamed : (us : List (List ℕ)) (o : Option ℕ) (k : List ℕ) → o ≡ None → named_in us o ≡ Some k → ⊥
unnamed us None k e f = cc
unnamed us (Some n) k e f = cc

-- no row has a key that has no name
pub none_unnamed : (es : List Entry) (ns : Names) (w : ℕ) (k : List ℕ) → IsTable ns → AreNamed es (length (texts_of ns)) → name_of ns k ≡ None → keyed k (among 0 w (rows_in (texts_of ns) es)) ≡ None
none_unnamed es ns w k t named none = keyed_nowhere w k (rows_in (texts_of ns) es) (λ i l h.
    let within : i < length es = subst (λ n. i < n) (length-rows_in (texts_of ns) es) l in
    let own = sym (ap (λ (r : Row). r.label.key) (row_at (texts_of ns) es i no_row within)) ∙ h.0 in
    unnamed (texts_of ns) (get_or es i no_entry).name k (key_named es ns k i no_row t named within h.0 ∙ none) own)

-- a row with the name has the key
pub some_named : (es : List Entry) (ns : Names) (w : ℕ) (k : List ℕ) (i n : ℕ) → IsTable ns → name_of ns k ≡ Some n → i < length es → IsNameAt es i n → under_at es i ≡ w → is_some (keyed k (among 0 w (rows_in (texts_of ns) es))) ≡ true
some_named es ns w k i n t found l e at =
    keyed_somewhere w k (rows_in (texts_of ns) es) i (subst (λ n. i < n) (sym (length-rows_in (texts_of ns) es)) l) (name_keyed es ns k i n no_row t found l e, stands_under es ns i l ∙ at)

-- no row has it where the walk ends
pub none_linked : (es : List Entry) (ns : Names) (w : ℕ) (k : List ℕ) (n b : ℕ) → IsTable ns → AreNamed es (length (texts_of ns)) → name_of ns k ≡ Some n → AreLow es → AreDeeper es n b (length es) w → b ≤ w → keyed k (among 0 w (rows_in (texts_of ns) es)) ≡ None
none_linked es ns w k n b t named found low deeper end = keyed_nowhere w k (rows_in (texts_of ns) es) (λ i l h.
    let within : i < length es = subst (λ n. i < n) (length-rows_in (texts_of ns) es) l in
    walk_ends es n w b low deeper end i within (key_named es ns k i no_row t named within h.0 ∙ found) (sym (stands_under es ns i within) ∙ h.1))

-- the same texts have the same numbers
found_again : (ns : Names) (k : List ℕ) (n : ℕ) → IsTable ns → (n < length (texts_of ns)) × (get_or (texts_of ns) n [] ≡ k) → name_of ns k ≡ Some n
found_again ns k n t (l, e) = ap (name_of ns) (sym e) ∙ t.listed n l

moved : (old new : Names) (k : List ℕ) (n : ℕ) → texts_of new ≡ texts_of old → (n < length (texts_of old)) × (get_or (texts_of old) n [] ≡ k) → (n < length (texts_of new)) × (get_or (texts_of new) n [] ≡ k)
moved old new k n e h = subst (λ (ts : List (List ℕ)). (n < length ts) × (get_or ts n [] ≡ k)) (sym e) h

number_same : (old new : Names) (k : List ℕ) (o p : Option ℕ) → IsTable old → IsSame old new → name_of old k ≡ o → name_of new k ≡ p → p ≡ o
number_same old new k None None t s d e = refl
number_same old new k (Some m) p t s d e = sym e ∙ found_again new k m s.table (moved old new k m s.texts (t.known k m d))
number_same old new k None (Some n) t s d e = sym (sym d ∙ found_again old k n t (moved new old k n (sym s.texts) (s.table.known k n e)))

pub numbers_same : (old new : Names) (k : List ℕ) → IsTable old → IsSame old new → name_of new k ≡ name_of old k
numbers_same old new k t s = number_same old new k (name_of old k) (name_of new k) t s refl refl

-- a key that awaits its value is known
pub known_of : (es : List Entry) (ns : Names) (key : Option Key) → IsAwaited es ns key → IsKnown ns key
known_of es ns None a = tt
known_of es ns (Some key) a = a.0

-- and awaits it still where the same names have the same numbers
pub awaited_same : (es : List Entry) (old new : Names) (a b : Key) → IsTable old → IsSame old new → cow_str_bytes b.text ≡ cow_str_bytes a.text → b.name ≡ a.name → b.link ≡ a.link → b.under ≡ a.under → IsAwaited es old (Some a) → IsAwaited es new (Some b)
awaited_same es old new a b t s text name link under (known, none, some) = (
  name ∙ known ∙ sym (numbers_same old new (cow_str_bytes a.text) t s) ∙ ap (name_of new) (sym text),
  λ q. link ∙ none (sym name ∙ q),
  λ n q. let h = some n (sym name ∙ q) in subst (λ l. IsBehindName es n l × AreDeeper es n l (length es) b.under) (sym link) (h.0, subst (AreDeeper es n a.link (length es)) (sym under) h.1),
)

pub awaited_kept : (es : List Entry) (old new : Names) (key : Option Key) → IsTable old → IsSame old new → IsAwaited es old key → IsAwaited es new key
awaited_kept es old new None t s a = tt
awaited_kept es old new (Some key) t s a = awaited_same es old new key key t s refl refl refl refl a

pub some_same : (m n : ℕ) → Some m ≡ Some n → m ≡ n
some_same m n e = cc

-- the same names where nothing was done
pub IsSame-itself : (ns : Names) → IsTable ns → IsSame ns ns
IsSame-itself ns t = record { table = t; texts = refl }
