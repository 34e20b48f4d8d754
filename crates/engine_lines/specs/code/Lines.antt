-- The lines of an evaluation as the code has them.
use Rattle.std.specs.Prelude.{ℕ, Option}
use Rattle.value_store.specs.code.Stores.{see_store}
use Rattle.engine_lines.specs.code.Beside.{beside_in}
use Rattle.engine_parts.specs.code.FoundLines.{found_in}
use Rattle.engine_parts.specs.code.FrameLines.{line_in}
use Rattle.engine_states.specs.code.States.{State}
use Rattle.engine_lines.specs.declared.engine.EngineLines.{EngineLines}
use Rattle.engine_parts.specs.declared.frame_lines.FrameLines.{FrameLines}
use Rattle.engine_parts.specs.declared.site_lines.SiteLines.{SiteLines}

abbrev pub lines_in : SiteLines → ℕ → Option ℕ
lines_in t site = found_in t.first t.lines.items site

-- the line of a part in the frame of a number
abbrev pub part_in : FrameLines → ℕ → ℕ → Option ℕ
part_in t frame site = line_in t.spans.items t.lines.items frame site

abbrev pub see_lines : EngineLines → State
see_lines e = record {
  known = see_store e.store;
  frames = e.frames.entered.keys;
  lines = e.evidence.lines;
  framed = e.framed.items;
  parts = part_in e.parts;
  beside = beside_in e.beside.entries;
  rules = lines_in e.rules;
}
