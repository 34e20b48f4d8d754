-- How long a text may be of which scalars are read.
use Rattle.std.specs.Prelude.{ℕ}

-- that of a template, and one byte more: a text that ends in a carriage return is read again with a line feed behind it
abbrev pub text_limit : ℕ
text_limit = 8388609
