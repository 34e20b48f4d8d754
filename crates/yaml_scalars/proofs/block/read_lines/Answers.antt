use Rattle.yaml_scalars.proofs.block.read_lines.Goals as goal

pub read_content-requires-in-Indented-clause-boundary : goal.read_content-requires-in-Indented-clause-boundary
read_content-requires-in-Indented-clause-boundary c = c.requires.boundary

pub read_blanks-requires-clause-boundary : goal.read_blanks-requires-clause-boundary
read_blanks-requires-clause-boundary c = c.requires.boundary

pub read_content-requires-clause-boundary : goal.read_content-requires-clause-boundary
read_content-requires-clause-boundary c = c.requires.boundary
