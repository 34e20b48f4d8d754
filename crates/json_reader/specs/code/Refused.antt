-- What a refusal of the builder is for the reader.
use Rattle.doc_values.specs.declared.builder.BuildRefusal.{BuildRefusal}
use Rattle.doc_values.specs.declared.builder.BuildRefusal.TheVariants as build
use Rattle.json_reader.specs.declared.refusal.JsonRefusal.{JsonRefusal}
use Rattle.json_reader.specs.declared.refusal.JsonRefusal.TheVariants.{TooDeep, DuplicateKey, NoMemory}

abbrev pub refusal_of : BuildRefusal → JsonRefusal
refusal_of build.NoMemory = NoMemory
refusal_of (build.TooDeep at) = TooDeep at
refusal_of (build.DuplicateKey at) = DuplicateKey at
