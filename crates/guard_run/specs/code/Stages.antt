-- The work over sources and over inputs, by the types of the code.
use Rattle.std.specs.Prelude.{string_bytes}
use Rattle.rule_names.specs.code.Files.{file_of}
use Rattle.guard_ends.specs.Order.{Inputs, Joining, MakingPatterns, ReadingInputs, Work}
use Rattle.guard_inputs.specs.code.Joined.{JoiningParams, with_data}
use Rattle.guard_inputs.specs.declared.inputs.Sources.{Sources}

-- the patterns of the rules of inputs are made, and the work goes on with the inputs
abbrev pub WithPatterns : (Inputs → Work) → Inputs → Work
WithPatterns GoesOn inputs = MakingPatterns inputs.texts.rules inputs.rules (GoesOn inputs)

-- sources are read, what is done with the template is done, and the work goes on with the inputs that they make
abbrev pub ReadingSources : Sources → Joining → (Inputs → Work) → Work
ReadingSources sources Joined =
    ReadingInputs sources.beside.format (string_bytes sources.rules.text) (file_of sources.rules.file) Joined (string_bytes sources.beside.text)

-- the template of inputs becomes the data tree, and the work goes on with the inputs that have it, whose patterns are made
abbrev pub JoiningInputs : Joining → Inputs → (Inputs → Work) → Work
JoiningInputs Joined inputs GoesOn = JoiningParams Joined inputs (λ params tree. WithPatterns GoesOn (with_data inputs params tree))
