-- Where the lines of a text start. A line ends with a newline byte, 10 (YAML 1.2.2, production 24 `b-line-feed`; POSIX.1-2017, 3.206 "Line").
use Rattle.std.specs.Prelude.{ℕ, ◌==◌, ◌+◌, List, ◌∷◌, map, filter, length, slice_index}
use Rattle.std.specs.List.{range_with_len}

-- among the n places from `at` on, the place after each one whose byte is a newline, in order
abbrev pub after_newlines : List ℕ → ℕ → ℕ → List ℕ
after_newlines bytes at n = map (λ i. i + 1) (filter (λ i. slice_index bytes i == 10) (range_with_len at n))

-- 0, and then the place after each newline byte
abbrev pub starts_of_lines : List ℕ → List ℕ
starts_of_lines bytes = 0 ∷ after_newlines bytes 0 (length bytes)
