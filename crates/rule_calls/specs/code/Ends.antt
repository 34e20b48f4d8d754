-- What is left of an engine once it has evaluated all: its evidence and its store.
use Rattle.std.specs.Prelude.{ℕ, List, Option}
use Rattle.evidence_lines.specs.declared.line.Line.{Line}
use Rattle.rule_meaning.specs.StoreModel.{StoreModel}
use Rattle.scope_frames.specs.declared.frame.Frame.{Frame}
use Rattle.engine_states.specs.code.States.{IsWhole, State}

-- the frames of an engine, and the tables by which it finds lines
pub record Tables : Type 0 where
  pub frames : List Frame
  pub framed : List ℕ
  pub parts : ℕ → ℕ → Option ℕ
  pub beside : ℕ → ℕ → Option ℕ
  pub rules : ℕ → Option ℕ

-- an engine with these, and with lines over a store
abbrev pub state_with : StoreModel → List Line → Tables → State
state_with known lines tables = record {
  known = known;
  frames = tables.frames;
  lines = lines;
  framed = tables.framed;
  parts = tables.parts;
  beside = tables.beside;
  rules = tables.rules;
}

-- lines over a store are those of an engine, of which all holds that holds of one
abbrev pub AreOfEngine : StoreModel → List Line → Type 0
AreOfEngine known lines = (tables : Tables) × IsWhole (state_with known lines tables)
