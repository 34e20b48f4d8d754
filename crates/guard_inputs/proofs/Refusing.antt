-- Refusals of the readers, as refusals of a file. By the cases of what is made of them.
use Rattle.std.proofs.Common.{◌≡◌, ℕ, List, ◌⊎◌, Option, Some, None, inl, inr, refl, sym, ap, ◌∙◌}
use Rattle.std.proofs.lemmas.Option.{none-some}
use Rattle.json_reader.specs.Refusals as json
use Rattle.json_reader.specs.declared.refusal.JsonRefusal.{JsonRefusal}
use Rattle.json_reader.specs.declared.refusal.JsonRefusal.TheVariants as json_refusal
use Rattle.guard_lexer.specs.Lexes as lex
use Rattle.guard_lexer.specs.declared.token.LexRefusal.{LexRefusal}
use Rattle.guard_lexer.specs.declared.token.LexRefusal.TheVariants as lex_refusal
use Rattle.guard_ends.specs.Inputs.{RefusesJson, RefusesTokens, json_kind, lex_kind}
use Rattle.guard_ends.specs.Order.{Ends}
use Rattle.guard_ends.specs.declared.ends.Refusal.{Refusal}
use Rattle.guard_ends.specs.declared.ends.Refusal.TheVariants.{At}
use Rattle.guard_ends.specs.declared.ends.RefusalKind.{RefusalKind}
use Rattle.guard_ends.specs.declared.ends.Which.{Which}
use Rattle.guard_inputs.specs.code.Refusals.{IsRefusedAs}
use Rattle.guard_inputs.specs.code.Stops.{IsPlaced, IsNotRead}
use Rattle.guard_inputs.specs.declared.refused.Refused.{Refused}
use Rattle.guard_inputs.specs.declared.stop.Stop.{Stop}
use Rattle.guard_inputs.specs.declared.stop.Stop.TheVariants as stop

-- a refusal with a kind and a place is no want of memory
pub lex-why : (text : List ℕ) (r : LexRefusal) (kind : RefusalKind) (at : ℕ) → lex_kind r ≡ Some (kind, at)
    → (r ≡ lex_refusal.NoMemory) ⊎ lex.IsRefused text r → RefusesTokens text kind at
lex-why text r kind at named (inl none) = absurd (none-some (kind, at) (sym (ap lex_kind none) ∙ named))
lex-why text r kind at named (inr h) = (r, named, h)

pub json-why : (text : List ℕ) (r : JsonRefusal) (kind : RefusalKind) (at : ℕ) → json_kind r ≡ Some (kind, at)
    → ((r ≡ json_refusal.NoMemory → ⊥) → json.IsRefused text r) → RefusesJson text kind at
json-why text r kind at named h = (r, named, h (λ none. none-some (kind, at) (sym (ap json_kind none) ∙ named)))

-- what is refused with that kind, at that place, is not read
pub placed-not_read : (Refuses : List ℕ → Refusal → Type 0) (which : Which) (text : List ℕ) (placed : Option (RefusalKind × ℕ)) (s : Stop)
    → ((kind : RefusalKind) (at : ℕ) → placed ≡ Some (kind, at) → Refuses text (At which kind at None)) → IsPlaced which placed text s → IsNotRead Refuses text s
placed-not_read Refuses which text (Some p) (stop.Refused r) why is = (At which p.0 p.1 None, why p.0 p.1 refl, ap Ends is)
placed-not_read Refuses which text (Some p) stop.Memory why is = absurd is
placed-not_read Refuses which text (Some p) stop.Usage why is = absurd is
placed-not_read Refuses which text (Some p) (stop.Unread other) why is = absurd is
placed-not_read Refuses which text (Some p) stop.Unmade why is = absurd is
placed-not_read Refuses which text None stop.Memory why is = tt
placed-not_read Refuses which text None (stop.Refused r) why is = absurd is
placed-not_read Refuses which text None stop.Usage why is = absurd is
placed-not_read Refuses which text None (stop.Unread other) why is = absurd is
placed-not_read Refuses which text None stop.Unmade why is = absurd is

-- and so is what is refused so
pub refused-not_read : (Refuses : List ℕ → Refusal → Type 0) (text : List ℕ) (why : Option Refusal) (r : Refused)
    → ((refusal : Refusal) → why ≡ Some refusal → Refuses text refusal) → IsRefusedAs why text (Some r) → IsNotRead Refuses text (stop.Refused r)
refused-not_read Refuses text (Some refusal) r gives is = (refusal, gives refusal refl, ap Ends is)
refused-not_read Refuses text None r gives is = absurd is
