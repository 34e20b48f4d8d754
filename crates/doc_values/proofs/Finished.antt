-- What a finished tree keeps, from its rows.
use Rattle.std.specs.Prelude.{IfOk}
use Rattle.std.proofs.Common.{Result, Ok, Err, ◌≡◌, ◌<◌, List, length, sym, ap, ◌∙◌, subst}
use Rattle.key_names.specs.declared.names.Names.{Names}
use Rattle.doc_values.specs.Tree.{Forest, IsTree}
use Rattle.doc_values.specs.code.Rows.{all_rows, tree_of}
use Rattle.doc_values.specs.code.Laws.{tree_of-rows}
use Rattle.doc_values.specs.code.Entries.{Entry, rows_in, AreNamed}
use Rattle.key_names.specs.code.Names.{texts_of, IsTable}
use Rattle.doc_values.specs.code.Index.{AreNew, IsFinished}
use Rattle.doc_values.proofs.NewKeys.{new_rows}

-- rows of a tree are what a finished tree keeps
pub finished_of : (es : List Entry) (ns : Names) (tree : Forest) → rows_in (texts_of ns) es ≡ all_rows tree → IsTree tree → IsTable ns → AreNamed es (length (texts_of ns)) → length es < 4294967295 → IsFinished es ns × (tree_of (rows_in (texts_of ns) es) ≡ tree)
finished_of es ns tree rows t table named small =
    let same : tree_of (rows_in (texts_of ns) es) ≡ tree = ap tree_of rows ∙ tree_of-rows tree in (
      record {
        whole = rows ∙ ap all_rows (sym same);
        tree = subst IsTree (sym same) t;
        new = subst AreNew (sym rows) (new_rows tree t);
        table = table;
        named = named;
        small = small;
      },
      same,
    )

-- the tree that is given is another one where the two are the same
pub ok_other : {E : Type 0} (r : Result Forest E) (f g : Forest) → f ≡ g → IfOk r (λ h. h ≡ f) → IfOk r (λ h. h ≡ g)
ok_other (Ok h) f g e is = is ∙ e
ok_other (Err x) f g e is = tt
