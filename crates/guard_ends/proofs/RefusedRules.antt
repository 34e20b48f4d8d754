-- Rules that are refused, whatever their names, are refused as rules. By the cases of the refusals.
use Rattle.std.proofs.Common.{ℕ, List, inl}
use Rattle.guard_ends.specs.Inputs.{RefusesRules, RefusesUnnamed}
use Rattle.guard_ends.specs.declared.ends.Refusal.{Refusal}
use Rattle.guard_ends.specs.declared.ends.Refusal.TheVariants.{At, EvidenceSyntax, NotText, TextTooLong, TooLong}
use Rattle.guard_ends.specs.declared.ends.Which.TheVariants as file

pub unnamed-rules : (bytes : List ℕ) (refusal : Refusal) → RefusesUnnamed bytes refusal → RefusesRules bytes refusal
unnamed-rules bytes (TooLong file.Rules) long = long
unnamed-rules bytes (NotText file.Rules) bad = bad
unnamed-rules bytes (At file.Rules kind at name) (text, none, refused) = (text, inl (none, refused))
unnamed-rules bytes (TooLong file.Template) none = absurd none
unnamed-rules bytes (TooLong file.Params) none = absurd none
unnamed-rules bytes (TooLong file.Proof) none = absurd none
unnamed-rules bytes (TooLong file.Tests) none = absurd none
unnamed-rules bytes (NotText file.Template) none = absurd none
unnamed-rules bytes (NotText file.Params) none = absurd none
unnamed-rules bytes (NotText file.Proof) none = absurd none
unnamed-rules bytes (NotText file.Tests) none = absurd none
unnamed-rules bytes (At file.Template kind at name) none = absurd none
unnamed-rules bytes (At file.Params kind at name) none = absurd none
unnamed-rules bytes (At file.Proof kind at name) none = absurd none
unnamed-rules bytes (At file.Tests kind at name) none = absurd none
unnamed-rules bytes (EvidenceSyntax number) none = absurd none
unnamed-rules bytes TextTooLong none = absurd none
