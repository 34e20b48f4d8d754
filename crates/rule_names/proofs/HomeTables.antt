-- The table of homes has each site of the file.
use Rattle.std.proofs.Common.{◌≡◌, ℕ, Bool, true, false, refl, ◌∙◌, List, [], ◌∷◌, length, replicate}
use Rattle.std.specs.Prelude.{nat_lt, if◌then◌else◌, slice_set}
use Rattle.std.proofs.lemmas.List.{length-set, length-replicate}
use Rattle.guard_syntax.specs.Syntax.{File}
use Rattle.rule_names.specs.EnclosingScopes.{Homed, homes_in, homes_of, with_home, with_homes}

length-if : (b : Bool) (homes : List ℕ) (n home : ℕ) → length (if b then slice_set homes n home else homes) ≡ length homes
length-if true homes n home = length-set homes n home
length-if false homes n home = refl

length-homes : (hs : List Homed) (homes : List ℕ) → length (with_homes homes hs) ≡ length homes
length-homes [] homes = refl
length-homes (h ∷ hs) homes = length-homes hs (with_home homes h) ∙ length-if (nat_lt h.0 (length homes)) homes h.0 h.1

pub home-each : (f : File) → length (homes_of f) ≡ length f.places
home-each f = length-homes (homes_in f) (replicate (length f.places) 0) ∙ length-replicate (length f.places) 0
