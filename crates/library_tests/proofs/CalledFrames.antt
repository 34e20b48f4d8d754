-- Frames of calls, by what is found at a site.
use Rattle.std.proofs.Common.{◌≡◌, ◌∙◌, ℕ, ap, sym, Bor, Option, Some, None, IfSome}
use Rattle.guard_syntax.specs.Syntax.{File}
use Rattle.guard_syntax.specs.code.Seen.{see_part}
use Rattle.guard_syntax.specs.declared.syntax.Part.{Part}
use Rattle.rule_names.specs.Pieces.{AreInOrder, OfPart, piece_at}
use Rattle.rule_names.specs.code.Seen.{see_piece}
use Rattle.rule_names.specs.declared.piece.Piece as shape
use Rattle.rule_names.specs.declared.piece.Piece.TheVariants as seen
use Rattle.scope_frames.specs.code.Frames.{IsPlain}
use Rattle.scope_frames.proofs.BodiesApart.{plain-else}

-- what is so whatever there is
any : (P : Type 0) (o : Option ℕ) → P → IfSome o (λ scope. P)
any P None h = tt
any P (Some n) h = h

-- the site of a part has no body of a rule with parameters
pub part-plain : (f : File) → AreInOrder f → (site : ℕ) (p : shape.Piece) (x : Bor Part) (o : Option ℕ) → Some (see_piece p) ≡ piece_at f site → p ≡ seen.Part x → IfSome o (λ scope. IsPlain f site)
part-plain f ordered site p x o there is =
    any (IsPlain f site) o (plain-else f ordered site (Some (OfPart (see_part x.now))) (sym there ∙ ap (λ (q : shape.Piece). Some (see_piece q)) is) (λ no_body. no_body))
