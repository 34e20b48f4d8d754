-- The reading of the words, word after word, gives the uses that `Gives` relates to them, and no others: by induction over the words,
-- and back by induction over `Gives`.
use Rattle.std.proofs.Common.{◌≡◌, ◌≢◌, true≢false, ◌==◌, ◌&&◌, ◌||◌, ℕ, Bool, true, false, zero, suc, not, List, [], ◌∷◌, ◌++◌, Option, Some, None, cond, option_map, option_and_then, find, refl, sym, subst, ap, ap₂, ◌∙◌, arith, append_assoc, append-nil, inl, inr, ◌⊎◌}
use Rattle.std.specs.List.{list_all, list_any}
use Rattle.std.specs.Option.{option_map_or}
use Rattle.std.specs.Str.{bytes_eq}
use Rattle.std.proofs.lemmas.Option.{none-some, same_Some}
use Rattle.std.proofs.lemmas.Bool.Decides.{nat_tests}
use Rattle.std.proofs.lemmas.Slice.Eq.{bytes_eq-Decides}
use Rattle.clap.specs.Lexer.{long_of, long_of_rest, strip_byte, name_and_value}
use Rattle.clap.proofs.CutLemmas.{Lacks}
use Rattle.clap.proofs.LexerLemmas.{name_and_value-at, name_and_value-without}
use Rattle.guard_words.specs.declared.table.Kind.{Kind}
use Rattle.guard_words.specs.declared.table.Kind.TheVariants.{File, Count, Flag}
use Rattle.guard_words.specs.Request.{Text, Use, Row, Gives, nothing, alone, attached, apart, long, starts_with_hyphen, allows, kind_in, is_allowed, is_given, is_once}
use Rattle.guard_words.specs.code.Reading.{Awaited, Next, with_kind, with_long, with_value, uses_in}

-- ---- tests

pub and_parts : (a b : Bool) → (a && b) ≡ true → (a ≡ true) × (b ≡ true)
and_parts true b e = (refl, e)
and_parts false b e = absurd cc

pub not_true : (b : Bool) → not b ≡ true → b ≡ false
not_true false e = refl
not_true true e = absurd cc

or_false : (a b : Bool) → (a || b) ≡ false → (a ≡ false) × (b ≡ false)
or_false false b e = (refl, e)
or_false true b e = absurd cc

-- where a test stands before an answer
if_some : {X : Type 0} (b : Bool) (o : Option X) (x : X) → cond b o None ≡ Some x → (b ≡ true) × (o ≡ Some x)
if_some true o x e = (refl, e)
if_some false o x e = absurd (none-some _ e)

unless_some : {X : Type 0} (b : Bool) (o : Option X) (x : X) → cond b None o ≡ Some x → (b ≡ false) × (o ≡ Some x)
unless_some false o x e = (refl, e)
unless_some true o x e = absurd (none-some _ e)

and_then_some : {X Y : Type 0} (f : X → Option Y) (o : Option X) (y : Y) → option_and_then f o ≡ Some y → (x : X) × (o ≡ Some x) × (f x ≡ Some y)
and_then_some f None y e = absurd (none-some _ e)
and_then_some f (Some x) y e = (x, refl, e)

-- ---- a word of an option

nat_same : (a b : ℕ) → (a == b) ≡ true → a ≡ b
nat_same a b e = grind (arith, nat_tests, e)

nat_other : (a b : ℕ) → (a == b) ≡ false → a ≢ b
nat_other a b e = grind (arith, nat_tests, e)

Lacks-cons : (c x : ℕ) (xs : List ℕ) → x ≢ c → Lacks c xs → Lacks c (x ∷ xs)
Lacks-cons c x xs ne lacks zero lt = ne
Lacks-cons c x xs ne lacks (suc i) lt = lacks i (omega (arith, lt))

Lacks-from_list_any : (c : ℕ) (xs : List ℕ) → list_any (λ x. x == c) xs ≡ false → Lacks c xs
Lacks-from_list_any c [] e = λ i lt. absurd (omega (arith, lt))
Lacks-from_list_any c (x ∷ xs) e = let parts = or_false _ _ e in Lacks-cons c x xs (nat_other x c parts.0) (Lacks-from_list_any c xs parts.1)

cut : (c : ℕ) (xs : List ℕ) → Lacks c xs ⊎ ((before : List ℕ) × (after : List ℕ) × (xs ≡ before ++ c ∷ after) × Lacks c before)
cut c [] = inl (λ i lt. absurd (omega (arith, lt)))
cut c (x ∷ xs) = by_head (x == c) refl (cut c xs)
  where
    by_head : (b : Bool) → (x == c) ≡ b → Lacks c xs ⊎ ((before : List ℕ) × (after : List ℕ) × (xs ≡ before ++ c ∷ after) × Lacks c before)
        → Lacks c (x ∷ xs) ⊎ ((before : List ℕ) × (after : List ℕ) × (x ∷ xs ≡ before ++ c ∷ after) × Lacks c before)
    by_head true e later = inr ([], xs, ap (λ y. y ∷ xs) (nat_same x c e), λ i lt. absurd (omega (arith, lt)))
    by_head false e (inl lacks) = inl (Lacks-cons c x xs (nat_other x c e) lacks)
    by_head false e (inr parts) = inr (x ∷ parts.0, parts.1, ap (λ ys. x ∷ ys) parts.2, Lacks-cons c x parts.0 (nat_other x c e) parts.3)

-- a name with its value, as one text
abbrev pub joined : Text → Option Text → Text
joined name None = name
joined name (Some value) = name ++ 61 ∷ value

joined_parts : (text : Text) → joined (name_and_value text).0 (name_and_value text).1 ≡ text
joined_parts text = elim (cut 61 text) [
  | inl lacks ↦ ap (λ (p : Use). joined p.0 p.1) (name_and_value-without text lacks)
  | inr parts ↦ subst (λ t. joined (name_and_value t).0 (name_and_value t).1 ≡ t) (sym parts.2) (ap (λ (p : Use). joined p.0 p.1) (name_and_value-at parts.0 parts.1 parts.3))
]

stripped : (word rest : Text) → strip_byte 45 word ≡ Some rest → word ≡ 45 ∷ rest
stripped [] rest e = absurd (none-some _ e)
stripped (b ∷ word) rest e = let parts = if_some _ _ _ e in
    ap (λ x. x ∷ word) (nat_same b 45 parts.0) ∙ ap (λ xs. 45 ∷ xs) (same_Some _ _ parts.1)

rest_joined : (rest : Text) (u : Use) → long_of_rest rest ≡ Some u → rest ≡ joined u.0 u.1
rest_joined [] u e = absurd (none-some _ e)
rest_joined (x ∷ xs) u e = let same : name_and_value (x ∷ xs) ≡ u = same_Some _ _ e in
    sym (joined_parts (x ∷ xs)) ∙ ap (λ (v : Use). joined v.0 v.1) same

-- what a word of an option looks like
pub long_word : (word : Text) (u : Use) → long_of word ≡ Some u → word ≡ long (joined u.0 u.1)
long_word word u e =
    let outer = and_then_some long_of_rest (option_and_then (strip_byte 45) (strip_byte 45 word)) u e in
    let inner = and_then_some (strip_byte 45) (strip_byte 45 word) outer.0 outer.1 in
    stripped word inner.0 inner.1 ∙ ap (λ xs. 45 ∷ xs) (stripped inner.0 outer.0 inner.2 ∙ ap (λ xs. 45 ∷ xs) (rest_joined outer.0 u outer.2))

-- a name that no `=` cuts, and that is not empty
abbrev pub is_plain_name : Text → Bool
is_plain_name [] = false
is_plain_name (x ∷ xs) = not (list_any (λ y. y == 61) (x ∷ xs))

pub long_of-alone : (name : Text) → is_plain_name name ≡ true → long_of (long name) ≡ Some (name, None)
long_of-alone [] plain = absurd cc
long_of-alone (x ∷ xs) plain = ap Some (name_and_value-without (x ∷ xs) (Lacks-from_list_any 61 (x ∷ xs) (not_true _ plain)))

pub long_of-attached : (name value : Text) → is_plain_name name ≡ true → long_of (long (name ++ 61 ∷ value)) ≡ Some (name, Some value)
long_of-attached [] value plain = absurd cc
long_of-attached (x ∷ xs) value plain = ap Some (name_and_value-at (x ∷ xs) value (Lacks-from_list_any 61 (x ∷ xs) (not_true _ plain)))

-- ---- names that are given

bytes_eq-sym : (a b : Text) → bytes_eq a b ≡ false → bytes_eq b a ≡ false
bytes_eq-sym a b e = by_test _ refl
  where
    by_test : (t : Bool) → bytes_eq b a ≡ t → t ≡ false
    by_test false is = refl
    by_test true is = let same : a ≡ b = sym ((bytes_eq-Decides b a).0 is) in absurd (true≢false (sym ((bytes_eq-Decides a b).1 same) ∙ e))

is_given-snoc : (name : Text) (seen : List Use) (u : Use) → is_given name (seen ++ u ∷ []) ≡ (is_given name seen || bytes_eq u.0 name)
is_given-snoc name [] u = by_test (bytes_eq u.0 name)
  where
    by_test : (b : Bool) → (b || false) ≡ b
    by_test true = refl
    by_test false = refl
is_given-snoc name (v ∷ seen) u = by_test (bytes_eq v.0 name) (is_given-snoc name seen u)
  where
    by_test : (b : Bool) → is_given name (seen ++ u ∷ []) ≡ (is_given name seen || bytes_eq u.0 name)
        → (b || is_given name (seen ++ u ∷ [])) ≡ ((b || is_given name seen) || bytes_eq u.0 name)
    by_test true later = refl
    by_test false later = later

is_once-snoc : (seen : List Use) (u : Use) → is_once seen ≡ true → is_given u.0 seen ≡ false → is_once (seen ++ u ∷ []) ≡ true
is_once-snoc [] u once new = refl
is_once-snoc (v ∷ seen) u once new =
    let parts = and_parts _ _ once in
    let fresh = or_false _ _ new in
    let apart : is_given v.0 (seen ++ u ∷ []) ≡ false = is_given-snoc v.0 seen u ∙ ap₂ ◌||◌ (not_true _ parts.0) (bytes_eq-sym v.0 u.0 fresh.0) in
    rw apart (is_once-snoc seen u parts.1 fresh.1)

is_given-within : (name : Text) (seen : List Use) (u : Use) (more : List Use) → is_given name (seen ++ u ∷ more) ≡ false → bytes_eq u.0 name ≡ false
is_given-within name [] u more e = (or_false _ _ e).0
is_given-within name (v ∷ seen) u more e = is_given-within name seen u more (or_false _ _ e).1

-- what stands before a use has another name
is_once-before : (seen : List Use) (u : Use) (more : List Use) → is_once (seen ++ u ∷ more) ≡ true → is_given u.0 seen ≡ false
is_once-before [] u more once = refl
is_once-before (v ∷ seen) u more once =
    let parts = and_parts _ _ once in
    rw (bytes_eq-sym u.0 v.0 (is_given-within v.0 seen u more (not_true _ parts.0))) (is_once-before seen u more parts.1)

-- ---- options of a table

pub find_passes : {X : Type 0} (p : X → Bool) (xs : List X) (x : X) → find p xs ≡ Some x → p x ≡ true
find_passes p [] x e = absurd (none-some _ e)
find_passes p (y ∷ xs) x e = by_test (p y) refl e (find_passes p xs x)
  where
    by_test : (b : Bool) → p y ≡ b → cond b (Some y) (find p xs) ≡ Some x → (find p xs ≡ Some x → p x ≡ true) → p x ≡ true
    by_test true is e' later = subst (λ z. p z ≡ true) (same_Some _ _ e') is
    by_test false is e' later = later e'

pub find_among : {X : Type 0} (p q : X → Bool) (xs : List X) (x : X) → find p xs ≡ Some x → list_all q xs ≡ true → q x ≡ true
find_among p q [] x e all = absurd (none-some _ e)
find_among p q (y ∷ xs) x e all = by_test (p y) e (λ e'. find_among p q xs x e' (and_parts _ _ all).1)
  where
    by_test : (b : Bool) → cond b (Some y) (find p xs) ≡ Some x → (find p xs ≡ Some x → q x ≡ true) → q x ≡ true
    by_test true e' later = subst (λ z. q z ≡ true) (same_Some _ _ e') (and_parts _ _ all).0
    by_test false e' later = later e'

map_some : {X Y : Type 0} (f : X → Y) (o : Option X) (y : Y) → option_map f o ≡ Some y → (x : X) × (o ≡ Some x) × (f x ≡ y)
map_some f None y e = absurd (none-some _ e)
map_some f (Some x) y e = (x, refl, same_Some _ _ e)

-- the row of an option
pub row_of_kind : (table : List Row) (name : Text) (kind : Kind) → kind_in table name ≡ Some kind
    → (o : Row) × (find (λ o. bytes_eq o.name name) table ≡ Some o) × (o.kind ≡ kind) × (o.name ≡ name)
row_of_kind table name kind e =
    let row = map_some (λ (o : Row). o.kind) (find (λ o. bytes_eq o.name name) table) kind e in
    (row.0, row.1, row.2, (bytes_eq-Decides row.0.name name).0 (find_passes (λ (o : Row). bytes_eq o.name name) table row.0 row.1))

kind_of_use : (table : List Row) (u : Use) → is_allowed table u ≡ true → (kind : Kind) × (kind_in table u.0 ≡ Some kind) × (allows kind u.1 ≡ true)
kind_of_use table (name, value) ok = by_kind (kind_in table name) refl ok
  where
    by_kind : (k : Option Kind) → kind_in table name ≡ k → option_map_or (λ kind. allows kind value) k false ≡ true
        → (kind : Kind) × (kind_in table name ≡ Some kind) × (allows kind value ≡ true)
    by_kind None is e = absurd cc
    by_kind (Some kind) is e = (kind, is, e)

-- ---- the reading, as steps

module _ (table : List Row) where
  -- the words are read to the end, from the uses seen to those at the end
  pub data Reads : List Text → List Use → List Use → Type 0 where
    ends : (seen : List Use) → Reads [] seen seen
    flagged : (word name : Text) (words : List Text) (seen out : List Use) → long_of word ≡ Some (name, None) → is_given name seen ≡ false
        → kind_in table name ≡ Some Flag → Reads words (seen ++ (name, None) ∷ []) out → Reads (word ∷ words) seen out
    valued : (word name value : Text) (kind : Kind) (words : List Text) (seen out : List Use) → long_of word ≡ Some (name, Some value)
        → is_given name seen ≡ false → kind_in table name ≡ Some kind → allows kind (Some value) ≡ true
        → Reads words (seen ++ (name, Some value) ∷ []) out → Reads (word ∷ words) seen out
    parted : (word name value : Text) (kind : Kind) (words : List Text) (seen out : List Use) → long_of word ≡ Some (name, None)
        → is_given name seen ≡ false → kind_in table name ≡ Some kind → starts_with_hyphen value ≡ false → allows kind (Some value) ≡ true
        → Reads words (seen ++ (name, Some value) ∷ []) out → Reads (word ∷ value ∷ words) seen out

  -- the same, where the value of an option may be awaited
  abbrev ReadsFrom : Option Awaited → List Text → List Use → List Use → Type 0
  ReadsFrom None words seen out = Reads words seen out
  ReadsFrom (Some (name, kind)) words seen out = (word : Text) → long_of word ≡ Some (name, None) → is_given name seen ≡ false
      → kind_in table name ≡ Some kind → Reads (word ∷ words) seen out

  abbrev Later : List Text → List Use → Next → Type 0
  Later words out next = (seen : List Use) (awaits : Option Awaited) → next seen awaits ≡ Some out → ReadsFrom awaits words seen out

  kind_step : (word : Text) (words : List Text) (seen out : List Use) (next : Next) (k : Option Kind) (u : Use) → kind_in table u.0 ≡ k
      → long_of word ≡ Some u → is_given u.0 seen ≡ false → with_kind k seen u next ≡ Some out → Later words out next → Reads (word ∷ words) seen out
  kind_step word words seen out next None u kind is new e later = absurd (none-some _ e)
  kind_step word words seen out next (Some Flag) (name, None) kind is new e later =
      flagged word name words seen out is new kind (later (seen ++ (name, None) ∷ []) None e)
  kind_step word words seen out next (Some Flag) (name, Some value) kind is new e later = absurd (none-some _ e)
  kind_step word words seen out next (Some File) (name, None) kind is new e later = later seen (Some (name, File)) e word is new kind
  kind_step word words seen out next (Some File) (name, Some value) kind is new e later =
      let parts = if_some _ _ _ e in
      valued word name value File words seen out is new kind parts.0 (later (seen ++ (name, Some value) ∷ []) None parts.1)
  kind_step word words seen out next (Some Count) (name, None) kind is new e later = later seen (Some (name, Count)) e word is new kind
  kind_step word words seen out next (Some Count) (name, Some value) kind is new e later =
      let parts = if_some _ _ _ e in
      valued word name value Count words seen out is new kind parts.0 (later (seen ++ (name, Some value) ∷ []) None parts.1)

  long_step : (word : Text) (words : List Text) (seen out : List Use) (next : Next) (o : Option Use) → long_of word ≡ o
      → with_long table seen o next ≡ Some out → Later words out next → Reads (word ∷ words) seen out
  long_step word words seen out next None is e later = absurd (none-some _ e)
  long_step word words seen out next (Some u) is e later =
      let parts = unless_some _ _ _ e in
      kind_step word words seen out next (kind_in table u.0) u refl is parts.0 parts.1 later

  value_step : (name : Text) (kind : Kind) (value : Text) (words : List Text) (seen out : List Use) (next : Next)
      → with_value seen (name, kind) value next ≡ Some out → Later words out next → ReadsFrom (Some (name, kind)) (value ∷ words) seen out
  value_step name kind value words seen out next e later word is new known =
      let outer = unless_some _ _ _ e in
      let inner = if_some _ _ _ outer.1 in
      parted word name value kind words seen out is new known outer.0 inner.0 (later (seen ++ (name, Some value) ∷ []) None inner.1)

  reads_from : (words : List Text) (seen : List Use) (awaits : Option Awaited) (out : List Use) → uses_in table words seen awaits ≡ Some out
      → ReadsFrom awaits words seen out
  reads_from [] seen None out e = subst (Reads [] seen) (same_Some _ _ e) (ends seen)
  reads_from [] seen (Some (name, kind)) out e = absurd (none-some _ e)
  reads_from (word ∷ words) seen None out e =
      long_step word words seen out (uses_in table words) (long_of word) refl e (λ seen' awaits e'. reads_from words seen' awaits out e')
  reads_from (word ∷ words) seen (Some (name, kind)) out e =
      value_step name kind word words seen out (uses_in table words) e (λ seen' awaits e'. reads_from words seen' awaits out e')

  pub reads : (words : List Text) (out : List Use) → uses_in table words [] None ≡ Some out → Reads words [] out
  reads words out e = reads_from words [] None out e

  -- ---- what is read is given by the words, allowed, and each once

  pub record Read (words : List Text) (seen out : List Use) : Type 0 where
    pub uses : List Use
    pub gives : Gives words uses
    pub all : out ≡ seen ++ uses
    pub allowed : list_all (is_allowed table) uses ≡ true

  -- one use more
  read_use : (first words : List Text) (seen out : List Use) (u : Use) → (later : Read words (seen ++ u ∷ []) out)
      → Gives first (u ∷ later.uses) → is_allowed table u ≡ true → Read first seen out
  read_use first words seen out u later gives ok = record {
    uses = u ∷ later.uses;
    gives = gives;
    all = later.all ∙ append_assoc seen (u ∷ []) later.uses;
    allowed = rw ok later.allowed;
  }

  pub reads_gives : (words : List Text) (seen out : List Use) → Reads words seen out → Read words seen out
  reads_gives words seen out (ends s) = record { uses = []; gives = nothing; all = sym (append-nil s); allowed = refl }
  reads_gives words seen out (flagged word name rest s o is new kind later) =
      let read = reads_gives rest (s ++ (name, None) ∷ []) o later in
      read_use (word ∷ rest) rest s o (name, None) read
      (subst (λ w. Gives (w ∷ rest) ((name, None) ∷ read.uses)) (sym (long_word word (name, None) is)) (alone name rest read.uses read.gives)) (rw kind refl)
  reads_gives words seen out (valued word name value k rest s o is new kind ok later) =
      let read = reads_gives rest (s ++ (name, Some value) ∷ []) o later in
      read_use (word ∷ rest) rest s o (name, Some value) read
      (subst (λ w. Gives (w ∷ rest) ((name, Some value) ∷ read.uses)) (sym (long_word word (name, Some value) is)) (attached name value rest read.uses read.gives)) (rw kind ok)
  reads_gives words seen out (parted word name value k rest s o is new kind hyphen ok later) =
      let read = reads_gives rest (s ++ (name, Some value) ∷ []) o later in
      read_use (word ∷ value ∷ rest) rest s o (name, Some value) read
      (subst (λ w. Gives (w ∷ value ∷ rest) ((name, Some value) ∷ read.uses)) (sym (long_word word (name, None) is)) (apart name value rest read.uses hyphen read.gives)) (rw kind ok)

  pub reads_once : (words : List Text) (seen out : List Use) → Reads words seen out → is_once seen ≡ true → is_once out ≡ true
  reads_once words seen out (ends s) once = once
  reads_once words seen out (flagged word name rest s o is new kind later) once = reads_once rest _ o later (is_once-snoc s (name, None) once new)
  reads_once words seen out (valued word name value k rest s o is new kind ok later) once =
      reads_once rest _ o later (is_once-snoc s (name, Some value) once new)
  reads_once words seen out (parted word name value k rest s o is new kind hyphen ok later) once =
      reads_once rest _ o later (is_once-snoc s (name, Some value) once new)

  -- ---- what the words give is read

  step_to : (word : Text) (words : List Text) (seen : List Use) (u : Use) (kind : Kind) → long_of word ≡ Some u → is_given u.0 seen ≡ false
      → kind_in table u.0 ≡ Some kind → uses_in table (word ∷ words) seen None ≡ with_kind (Some kind) seen u (uses_in table words)
  step_to word words seen u kind is new known = rw (is, new, known) refl

  with_flag : (kind : Kind) (seen : List Use) (name : Text) (next : Next) → allows kind None ≡ true
      → with_kind (Some kind) seen (name, None) next ≡ next (seen ++ (name, None) ∷ []) None
  with_flag Flag seen name next ok = refl
  with_flag File seen name next ok = absurd cc
  with_flag Count seen name next ok = absurd cc

  with_value_attached : (kind : Kind) (seen : List Use) (name value : Text) (next : Next) → allows kind (Some value) ≡ true
      → with_kind (Some kind) seen (name, Some value) next ≡ next (seen ++ (name, Some value) ∷ []) None
  with_value_attached Flag seen name value next ok = absurd cc
  with_value_attached File seen name value next ok = rw ok refl
  with_value_attached Count seen name value next ok = rw ok refl

  with_name_alone : (kind : Kind) (seen : List Use) (name value : Text) (next : Next) → allows kind (Some value) ≡ true
      → with_kind (Some kind) seen (name, None) next ≡ next seen (Some (name, kind))
  with_name_alone Flag seen name value next ok = absurd cc
  with_name_alone File seen name value next ok = refl
  with_name_alone Count seen name value next ok = refl

  module _ (plain : list_all (λ o. is_plain_name o.name) table ≡ true) where
    plain_name : (name : Text) (kind : Kind) → kind_in table name ≡ Some kind → is_plain_name name ≡ true
    plain_name name kind e =
        let row = row_of_kind table name kind e in
        subst (λ n. is_plain_name n ≡ true) row.3 (find_among (λ (o : Row). bytes_eq o.name name) (λ (o : Row). is_plain_name o.name) table row.0 row.1 plain)

    pub gives_reads : (words : List Text) (uses : List Use) → Gives words uses → list_all (is_allowed table) uses ≡ true
        → (seen : List Use) → is_once (seen ++ uses) ≡ true → uses_in table words seen None ≡ Some (seen ++ uses)
    gives_reads words uses nothing ok seen once = ap Some (sym (append-nil seen))
    gives_reads words uses (alone name rest more gives) ok seen once =
        let parts = and_parts _ _ ok in
        let kind = kind_of_use table (name, None) parts.0 in
        let assoc = append_assoc seen ((name, None) ∷ []) more in
        step_to (long name) rest seen (name, None) kind.0 (long_of-alone name (plain_name name kind.0 kind.1)) (is_once-before seen (name, None) more once) kind.1
        ∙ with_flag kind.0 seen name (uses_in table rest) kind.2
        ∙ gives_reads rest more gives parts.1 (seen ++ (name, None) ∷ []) (rw assoc once) ∙ ap Some assoc
    gives_reads words uses (attached name value rest more gives) ok seen once =
        let parts = and_parts _ _ ok in
        let kind = kind_of_use table (name, Some value) parts.0 in
        let assoc = append_assoc seen ((name, Some value) ∷ []) more in
        step_to (long (name ++ 61 ∷ value)) rest seen (name, Some value) kind.0 (long_of-attached name value (plain_name name kind.0 kind.1))
        (is_once-before seen (name, Some value) more once) kind.1
        ∙ with_value_attached kind.0 seen name value (uses_in table rest) kind.2
        ∙ gives_reads rest more gives parts.1 (seen ++ (name, Some value) ∷ []) (rw assoc once) ∙ ap Some assoc
    gives_reads words uses (apart name value rest more hyphen gives) ok seen once =
        let parts = and_parts _ _ ok in
        let kind = kind_of_use table (name, Some value) parts.0 in
        let assoc = append_assoc seen ((name, Some value) ∷ []) more in
        let taken : uses_in table (value ∷ rest) seen (Some (name, kind.0)) ≡ uses_in table rest (seen ++ (name, Some value) ∷ []) None = rw (hyphen, kind.2) refl in
        step_to (long name) (value ∷ rest) seen (name, None) kind.0 (long_of-alone name (plain_name name kind.0 kind.1))
        (is_once-before seen (name, Some value) more once) kind.1
        ∙ with_name_alone kind.0 seen name value (uses_in table (value ∷ rest)) kind.2
        ∙ taken ∙ gives_reads rest more gives parts.1 (seen ++ (name, Some value) ∷ []) (rw assoc once) ∙ ap Some assoc
