-- Values side by side, from one of them on.
use Rattle.std.specs.Prelude.{ℕ, zero, suc}
use Rattle.doc_values.specs.Tree.{Forest, Nil, Node}

-- the values from an index on
abbrev pub from_index : Forest → ℕ → Forest
from_index f zero = f
from_index Nil (suc i) = Nil
from_index (Node l kids rest) (suc i) = from_index rest i
