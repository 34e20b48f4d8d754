-- The writing of an outcome, end by end, by the types of the code.
use Rattle.std.specs.Prelude.{ℕ, ◌≡◌, ◌≢◌, ◌++◌, ◌⊎◌, List, [], Option}
use Rattle.guard_io.specs.Outside.{IsPrefix}
use Rattle.guard_ends.specs.Order.{Contents}
use Rattle.guard_ends.specs.End.{Faults, Unread, Unmade, Took, TookAsDefined, TookOfUnread, TookOfUnmade, TookOfUnwritten, TookOfUnsaid, TookOfMemory}
use Rattle.guard_ends.specs.Lines.{memory_line}
use Rattle.guard_ends.specs.declared.ends.End.{End}
use Rattle.guard_ends.specs.declared.ends.End.TheVariants as end_is
use Rattle.guard_ends.specs.declared.ends.Pipe.TheVariants.{Out, Err}

-- what out and err took at each end: at a fault and for want of memory what is said of those, else what is defined
abbrev pub Closed : List (List ℕ) → Contents → (before after : Faults) → End → (out out' err err' : Option (List ℕ)) → Type 0
Closed words told before after (end_is.ReadFault which) out out' err err' =
    Unread words told before.read.files after.read.files which × TookOfUnread which out out' err err'
Closed words told before after end_is.PatternRefused out out' err err' =
    Unmade words told before.read.patterns after.read.patterns × TookOfUnmade out out' err err'
Closed words told before after (end_is.WriteFault Out) out out' err err' = TookOfUnwritten words told out out' err err'
Closed words told before after (end_is.WriteFault Err) out out' err err' = TookOfUnsaid words told before after out out' err err'
Closed words told before after end_is.Memory out out' err err' = TookOfMemory words told before after out out' err err'
Closed words told before after how out out' err err' = TookAsDefined words told how out out' err err'

-- an end where the line of memory was tried on err
abbrev pub SaidMemory : End → Option (List ℕ) → Option (List ℕ) → Type 0
SaidMemory result before after =
    ((result ≡ end_is.Memory) ⊎ (result ≡ end_is.WriteFault Err)) × ((last : List ℕ) × IsPrefix last memory_line × Took before after last)

-- an end where a text was tried on err, which is the given one if err took it whole; err takes an empty one always
abbrev pub Said : List ℕ → End → End → Option (List ℕ) → Option (List ℕ) → Type 0
Said text how result before after =
    ((result ≡ how) × Took before after text)
    ⊎ ((text ≢ [])
    × (((result ≡ end_is.WriteFault Err) × ((last : List ℕ) × IsPrefix last text × Took before after last))
    ⊎ (((result ≡ end_is.Memory) ⊎ (result ≡ end_is.WriteFault Err))
    × ((front last : List ℕ) × IsPrefix front text × IsPrefix last memory_line × Took before after (front ++ last)))))
