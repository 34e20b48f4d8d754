-- The fields of a line as the code holds them.
use Rattle.evidence_text.specs.code.Reading.{Parts, Placed}
use Rattle.evidence_text.specs.declared.read.Fields.{Fields}
use Rattle.evidence_text.specs.declared.read.Placed.{Placed as Held}

-- the bytes of the fields
abbrev pub fields_seen : Fields → Parts
fields_seen f = record { kind = f.kind.now; frame = f.frame.now; site = f.site.now; cites = f.cites.now; outcome = f.outcome.now }

abbrev pub placed_seen : Held → Placed
placed_seen p = record { kind = p.kind; frame = p.frame; site = p.site }
