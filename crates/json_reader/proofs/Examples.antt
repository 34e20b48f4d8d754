-- Texts and their refusals, each by reading it: `IsRefused` holds of them.
use Rattle.std.proofs.Common.{ℕ, zero, suc, List, [], ◌∷◌, refl}
use Rattle.json_reader.specs.declared.refusal.JsonRefusal.TheVariants.{Syntax, DuplicateKey, NumberRange, TooDeep}
use Rattle.json_reader.specs.Refusals.{IsRefused}
use Rattle.json_reader.proofs.Refuses.{refuses}

-- the empty text
nothing : IsRefused [] (Syntax 0)
nothing = refuses [] (Syntax 0) refl

-- [1,]
comma : IsRefused (91 ∷ 49 ∷ 44 ∷ 93 ∷ []) (Syntax 3)
comma = refuses (91 ∷ 49 ∷ 44 ∷ 93 ∷ []) (Syntax 3) refl

-- [1
unfinished : IsRefused (91 ∷ 49 ∷ []) (Syntax 2)
unfinished = refuses (91 ∷ 49 ∷ []) (Syntax 2) refl

-- {"a":01}
leading_zero : IsRefused (123 ∷ 34 ∷ 97 ∷ 34 ∷ 58 ∷ 48 ∷ 49 ∷ 125 ∷ []) (Syntax 6)
leading_zero = refuses (123 ∷ 34 ∷ 97 ∷ 34 ∷ 58 ∷ 48 ∷ 49 ∷ 125 ∷ []) (Syntax 6) refl

-- "\udc00"
low_surrogate : IsRefused (34 ∷ 92 ∷ 117 ∷ 100 ∷ 99 ∷ 48 ∷ 48 ∷ 34 ∷ []) (Syntax 4)
low_surrogate = refuses (34 ∷ 92 ∷ 117 ∷ 100 ∷ 99 ∷ 48 ∷ 48 ∷ 34 ∷ []) (Syntax 4) refl

-- 9223372036854775808. is no complete number
no_number : IsRefused (57 ∷ 50 ∷ 50 ∷ 51 ∷ 51 ∷ 55 ∷ 50 ∷ 48 ∷ 51 ∷ 54 ∷ 56 ∷ 53 ∷ 52 ∷ 55 ∷ 55 ∷ 53 ∷ 56 ∷ 48 ∷ 56 ∷ 46 ∷ []) (Syntax 20)
no_number = refuses (57 ∷ 50 ∷ 50 ∷ 51 ∷ 51 ∷ 55 ∷ 50 ∷ 48 ∷ 51 ∷ 54 ∷ 56 ∷ 53 ∷ 52 ∷ 55 ∷ 55 ∷ 53 ∷ 56 ∷ 48 ∷ 56 ∷ 46 ∷ []) (Syntax 20) refl

-- 1e400x
out_of_range : IsRefused (49 ∷ 101 ∷ 52 ∷ 48 ∷ 48 ∷ 120 ∷ []) (NumberRange 0)
out_of_range = refuses (49 ∷ 101 ∷ 52 ∷ 48 ∷ 48 ∷ 120 ∷ []) (NumberRange 0) refl

-- {1e400 stands where only a key may
no_key : IsRefused (123 ∷ 49 ∷ 101 ∷ 52 ∷ 48 ∷ 48 ∷ []) (Syntax 1)
no_key = refuses (123 ∷ 49 ∷ 101 ∷ 52 ∷ 48 ∷ 48 ∷ []) (Syntax 1) refl

-- {"a":1,"a"
key_again : IsRefused (123 ∷ 34 ∷ 97 ∷ 34 ∷ 58 ∷ 49 ∷ 44 ∷ 34 ∷ 97 ∷ 34 ∷ []) (DuplicateKey 7)
key_again = refuses (123 ∷ 34 ∷ 97 ∷ 34 ∷ 58 ∷ 49 ∷ 44 ∷ 34 ∷ 97 ∷ 34 ∷ []) (DuplicateKey 7) refl

-- {"a":1,"\u0061"x
escaped_again : IsRefused (123 ∷ 34 ∷ 97 ∷ 34 ∷ 58 ∷ 49 ∷ 44 ∷ 34 ∷ 92 ∷ 117 ∷ 48 ∷ 48 ∷ 54 ∷ 49 ∷ 34 ∷ 120 ∷ []) (DuplicateKey 7)
unfolding lib.Utf8.encode
escaped_again = refuses (123 ∷ 34 ∷ 97 ∷ 34 ∷ 58 ∷ 49 ∷ 44 ∷ 34 ∷ 92 ∷ 117 ∷ 48 ∷ 48 ∷ 54 ∷ 49 ∷ 34 ∷ 120 ∷ []) (DuplicateKey 7) refl

-- the first byte of a byte order mark
half_a_mark : IsRefused (239 ∷ []) (Syntax 1)
half_a_mark = refuses (239 ∷ []) (Syntax 1) refl

brackets : ℕ → List ℕ
brackets zero = []
brackets (suc n) = 91 ∷ brackets n

-- 129 brackets
deep : IsRefused (brackets 129) (TooDeep 128)
unfolding brackets
deep = refuses (brackets 129) (TooDeep 128) refl
