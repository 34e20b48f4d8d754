use Rattle.std.proofs.Common.{◌≡◌, ℕ, ◌+◌, ◌≤◌, drop}
use Rattle.decimals.specs.Number.{AreDigits, number_behind}
use Rattle.decimals.specs.code.Reading.{IsHeld}
use Rattle.decimals.proofs.number.with_digits.Given as goal

abbrev pub invariant-loop-byte : goal.invariant-loop-byte
invariant-loop-byte l =
    AreDigits (drop l.byte-index l.digits) × (l.now.zeros ≤ l.fn.held.zeros + l.byte-index)
    × ((m : ℕ) → IsHeld m l.fn.held.kept l.fn.held.zeros → (n : ℕ) × IsHeld n l.now.kept l.now.zeros × (number_behind n (drop l.byte-index l.digits) ≡ number_behind m l.digits))
