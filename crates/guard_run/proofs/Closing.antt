-- What the sinks took, end by end.
use Rattle.std.proofs.Common.{◌≡◌, ◌≢◌, ℕ, ◌++◌, inl, inr, List, [], Option, Some, None, refl, sym, ◌∙◌, ap, subst, append_assoc, true}
use Rattle.std.proofs.lemmas.List.{append-nil}
use Rattle.std.specs.Option.{ForSome}
use Rattle.guard_io.specs.Outside.{IsPrefix}
use Rattle.guard_ends.specs.End.{Faults, IsTaken, MaySay, MayWant, Took, TookAsDefined, is_defined, is_reported}
use Rattle.guard_ends.specs.Lines.{memory_line}
use Rattle.guard_ends.specs.Order.{Contents, EndOf, Ended}
use Rattle.guard_run.specs.code.Writing.{Closed, Said, SaidMemory}
use Rattle.guard_ends.specs.declared.ends.End.{End}
use Rattle.guard_ends.specs.declared.ends.End.TheVariants as end_is

-- a sink that was left alone took nothing
pub Took-nothing : (told : Option (List ℕ)) → Took told told []
Took-nothing told held is = rw (append-nil held) is

-- some front of a piece was taken, also where the sink does not tell
pub Took-front : (before after : Option (List ℕ)) (piece : List ℕ)
    → ForSome before (λ held. (front : List ℕ) × IsPrefix front piece × (after ≡ Some (held ++ front)))
    → (front : List ℕ) × IsPrefix front piece × Took before after front
Took-front None after piece some = ([], (piece, refl), λ held is. absurd cc)
Took-front (Some held) after piece some =
    let one = some held refl in
    let taken = one.2 in
    (one.0, one.1, λ other is. cc)

-- one piece and then another
pub Took-both : (before between after : Option (List ℕ)) (first second : List ℕ)
    → Took before between first → Took between after second → Took before after (first ++ second)
Took-both before between after first second one two held is =
    two (held ++ first) (one held is) ∙ ap Some (append_assoc held first second)

-- the line of memory, where nothing of it or more was said before
pub Closed-memory : (words : List (List ℕ)) (told : Contents) (before after : Faults) (how : End) (out out' err err' : Option (List ℕ)) (taken : List ℕ)
    → MayWant words told before after taken [] → Took out out' taken → SaidMemory how err err' → Closed words told before after how out out' err err'
Closed-memory words told before after how out out' err err' taken wants wrote (inl e, (last, front, said)) =
    subst (λ how. Closed words told before after how out out' err err') (sym e) (taken, [], last, wants, front, wrote, said)
Closed-memory words told before after how out out' err err' taken wants wrote (inr e, (last, front, said)) =
    subst (λ how. Closed words told before after how out out' err err') (sym e)
    (taken, [], memory_line, last, inr (wants, refl), front, wrote, said)

-- a line that may be said then, at an end that it closes
pub Closed-said : (words : List (List ℕ)) (told : Contents) (before after : Faults) (line : List ℕ) (whole how : End) (out out' err err' : Option (List ℕ)) (taken : List ℕ)
    → (line ≢ [] → MaySay words told before after taken line) → Took out out' taken → (Took err err' line → Closed words told before after whole out out' err err')
    → Said line whole how err err' → Closed words told before after how out out' err err'
Closed-said words told before after line whole how out out' err err' taken says wrote closes (inl (e, said)) =
    subst (λ how. Closed words told before after how out out' err err') (sym e) (closes said)
Closed-said words told before after line whole how out out' err err' taken says wrote closes (inr (some, inl (e, (last, front, said)))) =
    subst (λ how. Closed words told before after how out out' err err') (sym e) (taken, [], line, last, inl (says some, refl), front, wrote, said)
Closed-said words told before after line whole how out out' err err' taken says wrote closes (inr (some, inr (inl e, (front, last, begun, tried, said)))) =
    subst (λ how. Closed words told before after how out out' err err') (sym e) (taken, front, last, inr (inr (line, says some, begun)), tried, wrote, said)
Closed-said words told before after line whole how out out' err err' taken says wrote closes (inr (some, inr (inr e, (front, last, begun, tried, said)))) =
    subst (λ how. Closed words told before after how out out' err err') (sym e) (taken, front, memory_line, last, inr (inr (inr (line, says some, begun)), refl), tried, wrote, said)

-- ends at which out takes a text, and err another behind that
abbrev pub reported_with : End → (text further : List ℕ) → Ended
reported_with how text further = record { how = how; out = text; err = further }

abbrev pub reported_as : End → List ℕ → Ended
reported_as how text = reported_with how text []

pub reported-defined : (how : End) → is_reported how ≡ true → is_defined how ≡ true
reported-defined end_is.Passed is = refl
reported-defined end_is.Failed is = refl
reported-defined end_is.Accepted is = refl
reported-defined (end_is.Rejected number) is = refl
reported-defined end_is.Usage is = absurd cc
reported-defined (end_is.Refused refusal) is = absurd cc
reported-defined (end_is.ReadFault which) is = absurd cc
reported-defined (end_is.WriteFault pipe) is = absurd cc
reported-defined end_is.PatternRefused is = absurd cc
reported-defined end_is.Memory is = absurd cc

pub IsTaken-as : (words : List (List ℕ)) (told : Contents) (how : End) (text further : List ℕ) → is_reported how ≡ true → EndOf words told (reported_with how text further)
    → IsTaken words told text
IsTaken-as words told how text further is end = (reported_with how text further, end, is, refl)

-- at ends that are defined, what the sinks took is what is defined
pub Closed-defined : (words : List (List ℕ)) (told : Contents) (before after : Faults) (how : End) (out out' err err' : Option (List ℕ)) → is_defined how ≡ true
    → TookAsDefined words told how out out' err err' → Closed words told before after how out out' err err'
Closed-defined words told before after end_is.Passed out out' err err' defined took = took
Closed-defined words told before after end_is.Failed out out' err err' defined took = took
Closed-defined words told before after end_is.Accepted out out' err err' defined took = took
Closed-defined words told before after (end_is.Rejected number) out out' err err' defined took = took
Closed-defined words told before after end_is.Usage out out' err err' defined took = took
Closed-defined words told before after (end_is.Refused refusal) out out' err err' defined took = took
Closed-defined words told before after (end_is.ReadFault which) out out' err err' defined took = absurd cc
Closed-defined words told before after (end_is.WriteFault pipe) out out' err err' defined took = absurd cc
Closed-defined words told before after end_is.PatternRefused out out' err err' defined took = absurd cc
Closed-defined words told before after end_is.Memory out out' err err' defined took = absurd cc

pub defined-Closed : (words : List (List ℕ)) (told : Contents) (before after : Faults) (how : End) (out out' err err' : Option (List ℕ)) → is_defined how ≡ true
    → Closed words told before after how out out' err err' → TookAsDefined words told how out out' err err'
defined-Closed words told before after end_is.Passed out out' err err' defined closed = closed
defined-Closed words told before after end_is.Failed out out' err err' defined closed = closed
defined-Closed words told before after end_is.Accepted out out' err err' defined closed = closed
defined-Closed words told before after (end_is.Rejected number) out out' err err' defined closed = closed
defined-Closed words told before after end_is.Usage out out' err err' defined closed = closed
defined-Closed words told before after (end_is.Refused refusal) out out' err err' defined closed = closed
defined-Closed words told before after (end_is.ReadFault which) out out' err err' defined closed = absurd cc
defined-Closed words told before after (end_is.WriteFault pipe) out out' err err' defined closed = absurd cc
defined-Closed words told before after end_is.PatternRefused out out' err err' defined closed = absurd cc
defined-Closed words told before after end_is.Memory out out' err err' defined closed = absurd cc
