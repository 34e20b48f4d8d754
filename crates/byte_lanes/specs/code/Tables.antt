-- How a set keeps its bytes: two tables of 16 rows, one for the bytes below 128 and one for the others. No public clause cites them.
use Rattle.std.specs.Prelude.{ℕ, ◌==◌, ◌/◌, ◌%◌, ◌-◌, Bool, nat_lt, List, slice_index, filter, if◌then◌else◌}
use Rattle.std.specs.Int.{bit_at}
use Rattle.std.specs.List.{range_with_len}

-- the byte's bit: its row is its low half, and its place in the row its high half
abbrev pub is_member : List ℕ → List ℕ → ℕ → Bool
is_member low high b =
    if nat_lt b 128 then bit_at (slice_index low (b % 16)) (b / 16) == 1
    else bit_at (slice_index high (b % 16)) (b / 16 - 8) == 1

-- the bytes whose bit is set, in rising order
unfoldable pub members : List ℕ → List ℕ → List ℕ
members low high = filter (is_member low high) (range_with_len 0 256)
