-- Number texts as a function on lists: the value of a number text in range, or none, and the parts that its bytes go through.
-- No public clause names this file: that it gives exactly the values of `Json` is proved.
use Rattle.std.specs.Prelude.{ℕ, zero, suc, ◌/◌, ◌%◌, ℤ, pos, negsuc, ◌+ℤ◌, ◌-ℤ◌, unsigned_abs, Bool, true, false, ◌&&◌, ◌||◌, not, List, [], ◌∷◌, ◌++◌, length, Option, Some, None, nat_lt, nat_le, nat_eq, if◌then◌else◌}
use Rattle.doc_values.specs.declared.kind.Kind.{Kind}
use Rattle.doc_values.specs.declared.kind.Kind.TheVariants as kind
use Rattle.decimals.specs.Decimal.{Decimal}
use Rattle.json_reader.specs.declared.number.NumberPart.{NumberPart}
use Rattle.json_reader.specs.declared.number.NumberPart.TheVariants as part
use Rattle.decimals.specs.Number.{is_digit, Parts, number, signed, scaled}
use Rattle.decimals.specs.code.Reading.{read, is_number, is_nil}

-- the whole number of 64 bits with this sign and size
abbrev pub whole_of : Bool → ℕ → Option ℤ
whole_of false n = if nat_lt n 9223372036854775808 then Some (pos n) else None
whole_of true zero = Some (pos 0)
whole_of true (suc n) = if nat_lt n 9223372036854775808 then Some (negsuc n) else None

-- a number without the zeros at its end, of which at most as many are taken off, and how many these are
abbrev pub strip : ℕ → ℕ → ℕ × ℕ
strip zero m = (m, 0)
strip (suc k) m = if nat_eq (m % 10) 0 then (let r : ℕ × ℕ = strip k (m / 10) in (r.0, suc r.1)) else (m, 0)

-- the decimal of the parts of a number text
abbrev pub decimal_of : Parts → Decimal
decimal_of p =
    let m : ℕ = number (p.whole ++ p.fraction) in
    if nat_eq m 0 then record { units = pos 0; scale = 0 }
    else scaled p.minus (strip m m).0 ((signed p.down (number p.power) -ℤ pos (length p.fraction)) +ℤ pos (strip m m).1)

-- whether a decimal is in range, and in its one form
abbrev pub is_normal : Decimal → Bool
is_normal d = (nat_lt (unsigned_abs d.units) 1000000000000000000 && nat_le d.scale 18) && (nat_eq d.scale 0 || not (nat_eq (unsigned_abs d.units % 10) 0))

abbrev pub whole_kind : Option ℤ → Option Kind
whole_kind None = None
whole_kind (Some z) = Some (kind.Whole z)

-- the value of parts, in range
abbrev pub parts_kind : Parts → Option Kind
parts_kind p =
    if is_nil p.fraction && is_nil p.power then whole_kind (whole_of p.minus (number p.whole))
    else (if is_normal (decimal_of p) then Some (kind.Fraction (decimal_of p)) else None)

-- the value of a number text, in range
abbrev pub number_kind : List ℕ → Option Kind
number_kind t = if is_number t then parts_kind (read t) else None

-- RFC 8259, section 6, `number`, byte by byte: the part that a first byte begins, and the part that a byte behind a part
-- goes on with, if a number text may go on so
abbrev pub first_part : ℕ → NumberPart
first_part b = if nat_eq b 45 then part.Minus else (if nat_eq b 48 then part.Zero else part.Whole)

abbrev pub by_digit : ℕ → NumberPart → Option NumberPart → Option NumberPart
by_digit b q other = if is_digit b then Some q else other

abbrev pub by_exponent : ℕ → Option NumberPart
by_exponent b = if nat_eq b 101 || nat_eq b 69 then Some part.Exponent else None

abbrev pub by_point : ℕ → Option NumberPart
by_point b = if nat_eq b 46 then Some part.Point else by_exponent b

abbrev pub part_next : NumberPart → ℕ → Option NumberPart
part_next part.Minus b = if nat_eq b 48 then Some part.Zero else by_digit b part.Whole None
part_next part.Zero b = by_point b
part_next part.Whole b = by_digit b part.Whole (by_point b)
part_next part.Point b = by_digit b part.Fraction None
part_next part.Fraction b = by_digit b part.Fraction (by_exponent b)
part_next part.Exponent b = if nat_eq b 43 || nat_eq b 45 then Some part.Sign else by_digit b part.Power None
part_next part.Sign b = by_digit b part.Power None
part_next part.Power b = by_digit b part.Power None

-- whether a number text may end behind a part
abbrev pub completes : NumberPart → Bool
completes part.Zero = true
completes part.Whole = true
completes part.Fraction = true
completes part.Power = true
completes _ = false

-- the part behind bytes that follow a part, if a number text may go on so
abbrev pub part_then : Option NumberPart → ℕ → Option NumberPart
part_then None b = None
part_then (Some q) b = part_next q b

abbrev pub run_parts : Option NumberPart → List ℕ → Option NumberPart
run_parts o [] = o
run_parts o (b ∷ bs) = run_parts (part_then o b) bs
