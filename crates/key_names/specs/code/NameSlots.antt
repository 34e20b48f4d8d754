-- Numbers of names by their texts: in one of the sixteen slots that a hash of the text tells, else in the ordered map.
use Rattle.std.specs.Prelude.{ℕ, zero, suc, ◌+◌, ◌*◌, ◌-◌, ◌/◌, ◌%◌, ◌^◌, ◌<◌, ◌≤◌, ◌≡◌, ◌⊎◌, max, List, [], length, slice_index, slice_index_or, fold, Option, Some, None, if◌then◌else◌}
use Rattle.std.specs.Str.{bytes_eq}
use Rattle.key_names.specs.code.TextNumbers.{Links, links_in, number_by}
use Rattle.key_names.specs.declared.name_slots.NameSlots.{NameSlots}

-- a hash behind a byte more
abbrev pub hashed : ℕ → ℕ → ℕ
hashed hash byte = (hash + byte) % 2 ^ 64 * 11400714819323198485 % 2 ^ 64

unfoldable pub hash_of : List ℕ → ℕ
hash_of text = fold hashed 1 text

-- the first slot of a text among so many
unfoldable pub first_of : List ℕ → ℕ → ℕ
first_of text slots = hash_of text / 4294967296 % max 1 (slots - 15)

-- what a slot says of a text: it has the number of a name and one more, or is free
abbrev pub in_slot : List (List ℕ) → List ℕ → Option ℕ → ℕ → Option ℕ
in_slot texts k more zero = None
in_slot texts k more (suc n) = if bytes_eq (slice_index_or texts n []) k then Some n else more

-- the number of a text by so many slots, and what is said where all of them have others
unfoldable pub in_slots : List (List ℕ) → List ℕ → Option ℕ → List ℕ → ℕ → ℕ → Option ℕ
in_slots texts k more slots at zero = more
in_slots texts k more slots at (suc left) = in_slot texts k (in_slots texts k more slots (suc at) left) (slice_index slots at)

-- the number of a text
unfoldable pub found_in : List (List ℕ) → List ℕ → Links → List ℕ → Option ℕ
found_in texts slots links k = in_slots texts k (number_by links k) slots (first_of k (length slots)) 16

-- links give each text its number among texts
abbrev pub AreOf : List (List ℕ) → Links → Type 0
AreOf texts links = (k : List ℕ) (n : ℕ) → number_by links k ≡ Some n → (n < length texts) × (slice_index_or texts n [] ≡ k)

-- slots have numbers of texts, and links give each text its number
pub record AreSlotted (texts : List (List ℕ)) (ns : List ℕ) (f : Links) : Type 0 where
  pub slots : (i : ℕ) → slice_index ns i ≤ length texts
  pub links : AreOf texts f

-- as many texts are found
abbrev pub AreFound : List (List ℕ) → List ℕ → Links → ℕ → Type 0
AreFound texts slots links count = (n : ℕ) → n < count → found_in texts slots links (slice_index_or texts n []) ≡ Some n

-- no text is there twice
abbrev pub AreDistinct : List (List ℕ) → Type 0
AreDistinct texts = (m n : ℕ) → m < length texts → n < length texts → slice_index_or texts m [] ≡ slice_index_or texts n [] → m ≡ n

-- the slots from one up to another are taken
abbrev pub AreTaken : List ℕ → (start end : ℕ) → Type 0
AreTaken slots start end = (i : ℕ) → start ≤ i → i < end → 0 < slice_index slots i

-- a text has a number, and what was said of other numbers and other texts stays
pub record Places (old new : List ℕ) (f g : Links) (k : List ℕ) (n : ℕ) : Type 0 where
  pub long : length new ≡ length old
  pub taken : (i : ℕ) → (slice_index new i ≡ slice_index old i) ⊎ ((slice_index old i ≡ 0) × (slice_index new i ≡ suc n))
  pub links : (j : List ℕ) → (number_by g j ≡ number_by f j) ⊎ ((j ≡ k) × (number_by g j ≡ Some n))
  pub there : (texts : List (List ℕ)) → slice_index_or texts n [] ≡ k → found_in texts new g k ≡ None → ⊥

-- links more, each to the number of its text
pub record Widened (texts : List (List ℕ)) (f g : Links) : Type 0 where
  pub links : AreOf texts g
  pub kept : (k : List ℕ) (n : ℕ) → number_by f k ≡ Some n → number_by g k ≡ Some n

-- the texts are the names, each by its number
pub record AreNumbered (texts : List (List ℕ)) (s : NameSlots) : Type 0 where
  pub slotted : AreSlotted texts s.slots.items (links_in s.others.links)
  pub found : AreFound texts s.slots.items (links_in s.others.links) (length texts)
