-- What is known of what stops the work of a call, by the types of the code.
use Rattle.std.specs.Prelude.{ℕ, ◌≡◌, List, Option, Some, None}
use Rattle.guard_io.specs.Outside.{FaultCounted}
use Rattle.guard_syntax.specs.Syntax.{File}
use Rattle.guard_ends.specs.Order.{Ends, Loads, Makes, MakingPatterns, Refusing, Work, refused, usage}
use Rattle.guard_ends.specs.declared.ends.Refusal.{Refusal}
use Rattle.guard_ends.specs.declared.ends.Refusal.TheVariants.{At}
use Rattle.guard_ends.specs.declared.ends.RefusalKind.{RefusalKind}
use Rattle.guard_ends.specs.declared.ends.Which.{Which}
use Rattle.guard_inputs.specs.code.Refusals.{said}
use Rattle.guard_inputs.specs.declared.stop.Stop.{Stop}
use Rattle.guard_inputs.specs.declared.stop.Stop.TheVariants as stop

-- the count of a file, by its name, or of a pattern, by its text, rose
abbrev pub Rose : (before after : List ℕ → ℕ) → List ℕ → Type 0
Rose before after name = FaultCounted (before name) (after name)

-- none did
abbrev pub NoneRose : List ℕ → Type 0
NoneRose name = ⊥

-- what stops work: an end that it comes to; a file that it comes to load, or a pattern that it comes to make, and whose count rose;
-- want of memory, which says nothing
abbrev pub IsStop : Work → (FileRose PatternRose : List ℕ → Type 0) → Stop → Type 0
IsStop Comes FileRose PatternRose stop.Usage = Comes (Ends usage)
IsStop Comes FileRose PatternRose (stop.Refused r) = Comes (Ends (said r))
IsStop Comes FileRose PatternRose (stop.Unread which) = (name : List ℕ) × Comes (Loads which name) × FileRose name
IsStop Comes FileRose PatternRose stop.Unmade = (text : List ℕ) × Comes (Makes text) × PatternRose text
IsStop Comes FileRose PatternRose stop.Memory = Unit {0}

-- why bytes are not read: they are refused so
abbrev pub IsNotRead : (List ℕ → Refusal → Type 0) → List ℕ → Stop → Type 0
IsNotRead Refuses bytes = IsStop (Refusing Refuses bytes) NoneRose NoneRose

-- what comes of the kind and the place of a refusal, if it has them, in a file with this text
abbrev pub IsPlaced : Which → Option (RefusalKind × ℕ) → List ℕ → Stop → Type 0
IsPlaced which (Some p) text (stop.Refused r) = said r ≡ refused text (At which p.0 p.1 None)
IsPlaced which None text stop.Memory = Unit {0}
IsPlaced _ _ _ _ = ⊥

-- why the patterns of rules with these bytes are not made
abbrev pub AreNotMade : (source : List ℕ) → File → (before after : List ℕ → ℕ) → Stop → Type 0
AreNotMade source rules before after = IsStop (MakingPatterns source rules (λ p. ⊥)) NoneRose (Rose before after)
