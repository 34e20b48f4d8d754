-- Whose bodies are, as tables by their sites.
use Rattle.std.specs.Prelude.{ℕ, zero, suc, ◌≡◌, ◌↔◌, Bool, true, false, List, [], ◌∷◌, length, nat_lt, Option, Some, None, option_map, replicate, slice_set, if◌then◌else◌}
use Rattle.evidence_lines.specs.declared.line.Line.{Line}
use Rattle.guard_syntax.specs.Named.{Named}
use Rattle.guard_syntax.specs.Syntax.{File, Body, block, guarded, kinds}
use Rattle.guard_syntax.specs.declared.row.Ref.{Ref}
use Rattle.rule_names.specs.code.Marks.{IsMarked}
use Rattle.rule_names.specs.Pieces.{Piece, OfBody, OfPart, OfRule, piece_at}
use Rattle.rule_meaning.specs.StoreModel.{StoreModel, is_known_ref}
use Rattle.rule_meaning.specs.Roots.{root_ref}
use Rattle.evidence_rules.specs.CitedLines.{body_site}
use Rattle.evidence_rules.specs.Follows.{HasValue, IsBlockBody, IsRuleBody, IsWhenBody}
use Rattle.evidence_lookups.specs.declared.owners.Owner.{Owner}
use Rattle.evidence_lookups.specs.declared.owners.Owner.TheVariants as owner
use Rattle.evidence_lookups.specs.declared.owners.Owners.{Owners}

-- the body belongs to a rule without parameters, to a `when` block, or to a block or a type block
abbrev pub IsOwned : StoreModel → List Line → Owner → Body → Type 0
IsOwned known lines owner.Rule b = IsRuleBody known lines b
IsOwned known lines owner.When b = IsWhenBody known lines b
IsOwned known lines owner.Block b = IsBlockBody known lines b

-- a value that the frame of such a body may have: the root of the template, the value of the frame around it, or any
abbrev pub HasOwned : StoreModel → List Line → Owner → (frame : ℕ) → Ref → Type 0
HasOwned known lines owner.Rule frame v = v ≡ root_ref
HasOwned known lines owner.When frame v = HasValue known lines frame v
HasOwned known lines owner.Block frame v = is_known_ref known v ≡ true

-- the table of an owner
abbrev pub marks_of : Owners → Owner → List Bool
marks_of owners owner.Rule = owners.rules.items
marks_of owners owner.When = owners.whens.items
marks_of owners owner.Block = owners.blocks.items

-- a table marks just the bodies of a file that such an owner has, by their sites
abbrev pub AreMarked : File → Owner → List Bool → Type 0
AreMarked file o marks =
    (known : StoreModel) (lines : List Line) (site : ℕ) (b : Body) → known.file ≡ file → piece_at file site ≡ Some (OfBody b) → IsMarked marks (body_site b) ↔ IsOwned known lines o b

-- so does each table
abbrev pub MarkOwned : File → Owners → Type 0
MarkOwned file owners = (o : Owner) → AreMarked file o (marks_of owners o)

-- ---- how a table is made

abbrev pub plain_body : List Named → Body → Option Body
plain_body [] b = Some b
plain_body (p ∷ params) b = None

-- the body of a piece that is such an owner
abbrev pub owned_by : Owner → Option Piece → Option Body
owned_by owner.Rule (Some (OfRule r)) = plain_body r.params r.body
owned_by owner.When (Some (OfPart (guarded n conditions b))) = Some b
owned_by owner.Block (Some (OfPart (block n any head b))) = Some b
owned_by owner.Block (Some (OfPart (kinds n name conditions b))) = Some b
owned_by o piece = None

-- a mark at a site, where the table has it
abbrev pub with_mark : List Bool → Option ℕ → List Bool
with_mark marks None = marks
with_mark marks (Some site) = if nat_lt site (length marks) then slice_set marks site true else marks

-- the marks by the pieces of so many sites
abbrev pub marks_upto : File → Owner → ℕ → List Bool
marks_upto file o zero = replicate (length file.places) false
marks_upto file o (suc n) = with_mark (marks_upto file o n) (option_map body_site (owned_by o (piece_at file n)))

-- the tables of a file: of each owner, by the pieces of all sites
abbrev pub AreOwners : File → Owners → Type 0
AreOwners file owners = (o : Owner) → marks_of owners o ≡ marks_upto file o (length file.places)
