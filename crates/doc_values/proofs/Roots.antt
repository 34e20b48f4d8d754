-- What a tree is at its root.
use Rattle.std.proofs.Common.{◌≡◌, suc, ◌<◌, refl, arith}
use Rattle.doc_values.specs.Tree.{Label, Forest, Nil, Node, size, count, IsTree}
use Rattle.doc_values.specs.Places.{first_label, first_kids, label_at, kids_at}

-- a tree is a node with its contents
pub record Root (f : Forest) : Type 0 where
  pub whole : f ≡ Node (first_label f) (first_kids f) Nil

none_behind : (l : Label) (kids rest : Forest) → suc (count rest) ≡ 1 → Root (Node l kids rest)
none_behind l kids Nil h = record { whole = refl }
none_behind l kids (Node m ks rest) h = absurd (omega arith)

pub root_of : (f : Forest) → IsTree f → Root f
root_of Nil t = let e = t.one in absurd (omega arith)
root_of (Node l kids rest) t = none_behind l kids rest t.one

pub some_size : (f : Forest) → IsTree f → 0 < size f
some_size Nil t = let e = t.one in absurd (omega arith)
some_size (Node l kids rest) t = omega arith

pub root_label : (f : Forest) → label_at f 0 ≡ first_label f
root_label Nil = refl
root_label (Node l kids rest) = refl

pub root_kids : (f : Forest) → kids_at f 0 ≡ first_kids f
root_kids Nil = refl
root_kids (Node l kids rest) = refl
