-- Which texts take memory: that with which a value or a key begins, and escapes.
use Rattle.std.specs.Prelude.{ℕ, ◌≡◌, ◌<◌, Bool, true, false, List, length, slice_index}
use Rattle.json_reader.specs.declared.bytes.Class.{Class}
use Rattle.json_reader.specs.declared.bytes.Class.TheVariants.{Quote, Open, OpenList, Minus, Zero, Digit, LetterN, LetterT, LetterF}
use Rattle.json_reader.specs.code.Reading.{class_of}

-- a value or a key begins with a byte of this class
abbrev pub begins : Class → Bool
begins Quote = true
begins Open = true
begins OpenList = true
begins Minus = true
begins Zero = true
begins Digit = true
begins LetterN = true
begins LetterT = true
begins LetterF = true
begins _ = false

-- a byte of the text may begin a value or a key
abbrev pub HasBeginning : List ℕ → Type 0
HasBeginning text = (at : ℕ) × (at < length text) × (begins (class_of (slice_index text at)) ≡ true)

-- a backslash stands in the text
abbrev pub HasEscape : List ℕ → Type 0
HasEscape text = (at : ℕ) × (at < length text) × (slice_index text at ≡ 92)
