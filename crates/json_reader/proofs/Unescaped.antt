-- The bytes that stand in no text for themselves: control characters, the quotation mark and the backslash.
use Rattle.std.proofs.Common.{◌≡◌, ℕ, true, false, arith}
use Rattle.std.proofs.lemmas.Bool.Decides.{nat_tests}
use Rattle.byte_lanes.specs.code.Controls.{is_control_or}
use Rattle.json_reader.specs.Json.{is_unescaped}

pub unescaped_where : (b : ℕ) → is_control_or 34 92 b ≡ false → is_unescaped b ≡ true
unescaped_where b h = grind (arith, nat_tests)

pub escaped_where : (b : ℕ) → is_control_or 34 92 b ≡ true → is_unescaped b ≡ false
escaped_where b h = grind (arith, nat_tests)
