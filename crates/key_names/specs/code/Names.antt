-- The names of keys: each has a number, by which its text is found.
use Rattle.std.specs.Prelude.{ℕ, ◌<◌, ◌≡◌, List, [], ◌∷◌, ◌++◌, map, length, slice_index, slice_index_or, Option, Some, None}
use Rattle.std.specs.Cow.{cow_str_bytes}
use Rattle.key_names.specs.code.TextNumbers.{links_in}
use Rattle.key_names.specs.code.NameSlots.{found_in, AreSlotted}
use Rattle.key_names.specs.declared.names.Names.{Names}

-- the texts, by their numbers
abbrev pub texts_of : Names → List (List ℕ)
texts_of ns = map cow_str_bytes ns.texts.items

-- the number of a name
abbrev pub name_of : Names → List ℕ → Option ℕ
name_of ns k = found_in (texts_of ns) ns.numbers.slots.items (links_in ns.numbers.others.links) k

-- the number of the name that was there last, if one was, is a name's
abbrev pub IsBefore : Option ℕ → ℕ → Type 0
IsBefore None count = Unit {0}
IsBefore (Some n) count = n < count

-- each name has the number of its text, and each text is a name; the guesses are numbers of names
pub record IsTable (ns : Names) : Type 0 where
  pub known : (k : List ℕ) (n : ℕ) → name_of ns k ≡ Some n → (n < length (texts_of ns)) × (slice_index_or (texts_of ns) n [] ≡ k)
  pub listed : (n : ℕ) → n < length (texts_of ns) → name_of ns (slice_index_or (texts_of ns) n []) ≡ Some n
  pub slotted : AreSlotted (texts_of ns) ns.numbers.slots.items (links_in ns.numbers.others.links)
  pub followed : length ns.followers.items ≡ length (texts_of ns)
  pub follows : (n : ℕ) → n < length ns.followers.items → slice_index ns.followers.items n < length (texts_of ns)
  pub before : IsBefore ns.before (length (texts_of ns))

-- a name more
pub record Adds (old new : Names) (k : List ℕ) : Type 0 where
  pub table : IsTable new
  pub texts : texts_of new ≡ texts_of old ++ k ∷ []

-- nothing is said otherwise
pub record IsSame (old new : Names) : Type 0 where
  pub table : IsTable new
  pub texts : texts_of new ≡ texts_of old

-- a name is there, maybe with other names more
pub record Has (old new : Names) (k : List ℕ) (n : ℕ) : Type 0 where
  pub table : IsTable new
  pub more : List (List ℕ)
  pub grown : texts_of new ≡ texts_of old ++ more
  pub within : n < length (texts_of new)
  pub text : slice_index_or (texts_of new) n [] ≡ k

-- the names of another table are there too, each with a number by its number there
pub record Joins (old other new : Names) (numbers : List ℕ) : Type 0 where
  pub table : IsTable new
  pub more : List (List ℕ)
  pub grown : texts_of new ≡ texts_of old ++ more
  pub counted : length numbers ≡ length (texts_of other)
  pub moved : (n : ℕ) → n < length (texts_of other) → (slice_index numbers n < length (texts_of new)) × (slice_index_or (texts_of new) (slice_index numbers n) [] ≡ slice_index_or (texts_of other) n [])
