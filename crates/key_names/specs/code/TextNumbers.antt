-- Numbers by texts: the bytes of a text lead from node to node, fifteen bytes to a link, and fewer to the link that gives its number.
use Rattle.std.specs.Prelude.{ℕ, ◌+◌, ◌*◌, ◌^◌, ◌<◌, ◌≤◌, ◌≡◌, List, Option, Some, None, nat_lt, if◌then◌else◌, option_and_then, option_map, fold}
use Rattle.std.specs.Ordering.{nat_cmp, ordering_then}
use Rattle.std.specs.declared.cmp.Ordering.{Ordering}
use Rattle.std.specs.BTreeMap.{BTreeMap, get}

-- links by the node that they lead from and by their bytes: what number a link gives
abbrev pub Links : Type 0
Links = ℕ × ℕ → Option ℕ

-- the order of links
abbrev pub link_cmp : ℕ × ℕ → ℕ × ℕ → Ordering
link_cmp x y = ordering_then (nat_cmp x.0 y.0) (nat_cmp x.1 y.1)

-- the links of a map
abbrev pub links_in : BTreeMap (ℕ × ℕ) ℕ → Links
links_in map = get link_cmp map

-- the link that has a byte more: its bytes are a number, behind a leading 1, to the base of 256
abbrev pub longer : ℕ × ℕ → ℕ → ℕ × ℕ
longer link byte = (link.0, 256 * link.1 + byte)

-- the link without bytes behind one of fifteen bytes
abbrev pub behind : Links → ℕ × ℕ → Option (ℕ × ℕ)
behind links link = option_map (λ (node : ℕ). (node, 1)) (links link)

-- the link behind one byte more; what is no byte has none
abbrev pub link_on : Links → ℕ × ℕ → ℕ → Option (ℕ × ℕ)
link_on links link byte = if nat_lt byte 256 then (if nat_lt (256 * link.1 + byte) (2 ^ 120) then Some (longer link byte) else behind links (longer link byte)) else None

-- the last link of a text: node 0 is the root
abbrev pub last_link : Links → List ℕ → Option (ℕ × ℕ)
last_link links text = fold (λ (link : Option (ℕ × ℕ)) (byte : ℕ). option_and_then (λ l. link_on links l byte) link) (Some (0, 1)) text

-- the number of a text
abbrev pub number_by : Links → List ℕ → Option ℕ
number_by links text = option_and_then links (last_link links text)

-- the number of a text by the links of a map
abbrev pub number_in : BTreeMap (ℕ × ℕ) ℕ → List ℕ → Option ℕ
number_in map text = number_by (links_in map) text

-- links lead from nodes that were given out
abbrev pub AreFromNodes : Links → (count : ℕ) → Type 0
AreFromNodes links count = (link : ℕ × ℕ) (n : ℕ) → links link ≡ Some n → link.0 < count

-- a link of fifteen bytes leads to a node that was given out, and not to the root
abbrev pub AreToNodes : Links → (count : ℕ) → Type 0
AreToNodes links count = (link : ℕ × ℕ) (n : ℕ) → 2 ^ 120 ≤ link.1 → links link ≡ Some n → (0 < n) × (n < count)

-- one link of fifteen bytes at most leads to a node
abbrev pub AreSingle : Links → Type 0
AreSingle links = (k l : ℕ × ℕ) (n : ℕ) → 2 ^ 120 ≤ k.1 → 2 ^ 120 ≤ l.1 → links k ≡ Some n → links l ≡ Some n → k ≡ l

-- texts have the numbers that they had
abbrev pub IsKept : (old new : Links) → Type 0
IsKept old new = (text : List ℕ) → number_by new text ≡ number_by old text

-- links more, which change no text's number
pub record Widens (old new : Links) : Type 0 where
  pub links : (link : ℕ × ℕ) (n : ℕ) → old link ≡ Some n → new link ≡ Some n
  pub kept : IsKept old new
