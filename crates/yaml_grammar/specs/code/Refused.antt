-- What a refusal of a layer below, and a sign, is for the reader, and why it stops as a refusal of the text.
use Rattle.std.specs.Prelude.{ℕ, List}
use Rattle.doc_values.specs.declared.builder.BuildRefusal.{BuildRefusal}
use Rattle.doc_values.specs.declared.builder.BuildRefusal.TheVariants as build
use Rattle.yaml_scalars.specs.declared.scalar.ScalarRefusal.{ScalarRefusal}
use Rattle.yaml_scalars.specs.declared.scalar.ScalarRefusal.TheVariants as scalar
use Rattle.yaml_grammar.specs.declared.refusal.YamlRefusal.{YamlRefusal}
use Rattle.yaml_grammar.specs.declared.refusal.YamlRefusal.TheVariants as refusal
use Rattle.yaml_grammar.specs.declared.stop.Stop.{Stop}
use Rattle.yaml_grammar.specs.declared.stop.Stop.TheVariants.{Unread, Tab, Anchor, Tag, Directive, ManyDocuments, DuplicateKey, TooDeep, NoMemory}
use Rattle.yaml_grammar.specs.Answers.{IsSignOf, IsUnread}
use Rattle.yaml_grammar.specs.Signs as sign
use Rattle.yaml_grammar.specs.Signs.{Sign}

abbrev pub of_build : BuildRefusal → Stop
of_build build.NoMemory = NoMemory
of_build (build.TooDeep at) = TooDeep at
of_build (build.DuplicateKey at) = DuplicateKey at

abbrev pub of_scalar : ℕ → ScalarRefusal → Stop
of_scalar place scalar.NoMemory = NoMemory
of_scalar place (scalar.Syntax at) = Unread place
of_scalar place (scalar.ManyDocuments at) = ManyDocuments at

abbrev pub of_sign : Sign → Stop
of_sign (sign.Tab at) = Tab at
of_sign (sign.Anchor at) = Anchor at
of_sign (sign.Tag at) = Tag at
of_sign (sign.Directive at) = Directive at
of_sign (sign.ManyDocuments at) = ManyDocuments at
of_sign (sign.DuplicateKey at) = DuplicateKey at
of_sign (sign.TooDeep at) = TooDeep at

abbrev pub of_stop : Stop → YamlRefusal
of_stop (Unread at) = refusal.Syntax at
of_stop (Tab at) = refusal.Tab at
of_stop (Anchor at) = refusal.Anchor at
of_stop (Tag at) = refusal.Tag at
of_stop (Directive at) = refusal.Directive at
of_stop (ManyDocuments at) = refusal.ManyDocuments at
of_stop (DuplicateKey at) = refusal.DuplicateKey at
of_stop (TooDeep at) = refusal.TooDeep at
of_stop NoMemory = refusal.NoMemory

-- what is said of a text for which reading stops, but for the place
abbrev pub IsStopped : List ℕ → Stop → Type 0
IsStopped text (Unread at) = IsUnread text
IsStopped text (Tab at) = IsSignOf text (sign.Tab at)
IsStopped text (Anchor at) = IsSignOf text (sign.Anchor at)
IsStopped text (Tag at) = IsSignOf text (sign.Tag at)
IsStopped text (Directive at) = IsSignOf text (sign.Directive at)
IsStopped text (ManyDocuments at) = IsSignOf text (sign.ManyDocuments at)
IsStopped text (DuplicateKey at) = IsSignOf text (sign.DuplicateKey at)
IsStopped text (TooDeep at) = IsSignOf text (sign.TooDeep at)
IsStopped text NoMemory = Unit {0}
