-- Control characters of ASCII (RFC 20, below 32), and two bytes more.
use Rattle.std.specs.Prelude.{ℕ, ◌==◌, ◌||◌, Bool, nat_lt}

-- whether a byte is a control character or one of two
abbrev pub is_control_or : ℕ → ℕ → ℕ → Bool
is_control_or one other byte = nat_lt byte 32 || byte == one || byte == other
