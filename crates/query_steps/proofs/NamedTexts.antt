-- Whether a value is a name, by the text that it is.
use Rattle.std.proofs.Common.{◌≡◌, ℕ, Bool, true, false, List, Option, Some, None, refl, sym, ap}
use Rattle.std.specs.Prelude.{◌&&◌, if◌then◌else◌, unwrap_or}
use Rattle.std.specs.Str.{bytes_eq}
use Rattle.std.proofs.lemmas.Option.{none-some}
use Rattle.rule_meaning.specs.Kinds.{is_name}
use Rattle.rule_meaning.specs.Reached.{no_value}
use Rattle.rule_meaning.specs.Steps.{key_in}
use Rattle.rule_meaning.specs.Values.{Value, is_text}

pub no-name : (o : Option Value) (name : List ℕ) → key_in o ≡ None → false ≡ is_name name (unwrap_or o no_value)
no-name None name none = refl
no-name (Some v) name none = by (is_text v.kind) none
  where
    by : (b : Bool) → (if b then Some v.text else None) ≡ None → false ≡ (b && bytes_eq v.text name)
    by true lost = absurd (none-some v.text (sym lost))
    by false lost = refl

pub one-name : (o : Option Value) (name text : List ℕ) → key_in o ≡ Some text → bytes_eq text name ≡ is_name name (unwrap_or o no_value)
one-name None name text some = absurd (none-some text some)
one-name (Some v) name text some = by (is_text v.kind) some
  where
    by : (b : Bool) → (if b then Some v.text else None) ≡ Some text → bytes_eq text name ≡ (b && bytes_eq v.text name)
    by true is = let same : v.text ≡ text = cc in ap (λ (t : List ℕ). bytes_eq t name) (sym same)
    by false lost = absurd (none-some text lost)
