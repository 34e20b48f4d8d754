-- The kind and the text that are stored in a node.
use Rattle.std.specs.Prelude.{ℕ, List, [], string_bytes}
use Rattle.doc_values.specs.declared.kind.Kind.{Kind}
use Rattle.doc_values.specs.declared.kind.Kind.TheVariants as kind
use Rattle.doc_values.specs.declared.content.Content.{Content}
use Rattle.doc_values.specs.declared.content.Content.TheVariants as content

abbrev pub kind_of : Content → Kind
kind_of content.Null = kind.Null
kind_of (content.Truth b) = kind.Truth b
kind_of (content.Whole n) = kind.Whole n
kind_of (content.Fraction d) = kind.Fraction d
kind_of (content.Text t) = kind.Text
kind_of (content.OwnedText t) = kind.Text
kind_of content.List = kind.List
kind_of content.Map = kind.Map
kind_of (content.Pattern t) = kind.Pattern
kind_of (content.Limits r) = kind.Limits r.value

abbrev pub text_of : Content → List ℕ
text_of (content.Text t) = t.now
text_of (content.OwnedText t) = string_bytes t.value
text_of (content.Pattern t) = string_bytes t.value
text_of _ = []
