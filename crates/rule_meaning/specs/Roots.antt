-- The roots of trees, as references.
use Rattle.std.specs.Prelude.{ℕ, false}
use Rattle.guard_syntax.specs.declared.row.Origin.TheVariants.{Template, Literal}
use Rattle.guard_syntax.specs.declared.row.Ref.{Ref}

-- the root of the template, which is the current value of the file
abbrev pub root_ref : Ref
root_ref = record { origin = Template; node = 0; key = false }

-- the root of the literal of a site
abbrev pub literal_ref : ℕ → Ref
literal_ref site = record { origin = Literal site; node = 0; key = false }
