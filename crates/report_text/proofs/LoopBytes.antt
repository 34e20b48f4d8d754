-- Bytes that a loop adds, those of one byte after another.
use Rattle.std.proofs.Common.{◌≡◌, ℕ, ◌<◌, ◌≤◌, ◌+◌, List, ◌++◌, length, take, get_or, add-one, ap, sym, ◌∙◌}
use Rattle.std.proofs.Math.Seq.{take-suc}
use Rattle.std.proofs.lemmas.List.{take_all, flat_map_more}
use Rattle.std.specs.List.{flat_map}

pub bytes-more : (give : ℕ → List ℕ) (bytes : List ℕ) (i d : ℕ) (before made new : List ℕ) → i < length bytes → made ≡ before ++ flat_map give (take i bytes)
    → new ≡ made ++ give (get_or bytes i d) → new ≡ before ++ flat_map give (take (i + 1) bytes)
bytes-more give bytes i d before made new within is put =
    put ∙ ap (λ (line : List ℕ). line ++ give (get_or bytes i d)) is ∙ flat_map_more give before (take i bytes) (get_or bytes i d)
    ∙ ap (λ (seen : List ℕ). before ++ flat_map give seen) (sym (ap (λ n. take n bytes) (add-one i) ∙ take-suc bytes i d within))

-- behind the loop there are those of all bytes
pub bytes-all : (give : ℕ → List ℕ) (bytes : List ℕ) (i : ℕ) (before made : List ℕ) → length bytes ≤ i → made ≡ before ++ flat_map give (take i bytes) → made ≡ before ++ flat_map give bytes
bytes-all give bytes i before made past is = is ∙ ap (λ (seen : List ℕ). before ++ flat_map give seen) (take_all i bytes past)
