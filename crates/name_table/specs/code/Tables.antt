-- What is known of a file once its names are tested, and of the tables that are made of it then.
use Rattle.std.specs.Prelude.{ℕ, ◌≡◌, IsNone, List}
use Rattle.guard_syntax.specs.Syntax.{File}
use Rattle.rule_names.specs.Cycles.{IsAcyclic}
use Rattle.rule_names.specs.Depths.{depths_of}
use Rattle.rule_names.specs.EnclosingScopes.{homes_of}
use Rattle.rule_names.specs.Graphs.{IsOrder}
use Rattle.rule_names.specs.code.Order.{IsOrderOf}
use Rattle.rule_names.specs.ReferenceGraph.{graph_of}
use Rattle.rule_names.specs.Resolution.{resolution_of}
use Rattle.rule_names.specs.WellNamed.{WellNamed, single_fault}
use Rattle.name_table.specs.declared.resolver.Tables.{Tables}

-- no single name is wrong, and no name reaches itself; and these are the nodes of the graph of the file, each behind all
-- that it names
pub record IsTested (f : File) (nodes : List ℕ) : Type 0 where
  pub ordered : IsOrder (graph_of f) nodes
  pub singles : IsNone (single_fault f)
  pub cycles : IsAcyclic f

-- the names are as they must be, and these are the tables of the file
pub record AreTablesOf (f : File) (t : Tables) : Type 0 where
  pub named : WellNamed f
  pub homed : t.homes.items ≡ homes_of f
  pub linked : t.links.items ≡ resolution_of f
  pub measured : t.depths.items ≡ depths_of f
  pub ordered : IsOrderOf f t.judged.items
