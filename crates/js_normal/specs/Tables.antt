-- A table that is made entry by entry: the entries' positions and the nodes apart, each with their ranks.
use Rattle.std.specs.Prelude.{ℕ, ◌+◌, List, [], ◌∷◌, ◌++◌, length, map}
use Rattle.schemas.specs.Entry.{Form}
use Rattle.positions.specs.Position.{Position}
use Rattle.normal_forms.specs.NormalForm.{form_nodes, entry_position, entry_rank, numbered}
use Rattle.js_algebra.specs.View.{node_view}
use Rattle.js_normal.specs.PatternTrees.{tree_of}
use Rattle.js_normal.specs.declared.normal.Parts.{Parts}

-- nodes are numbered behind `first` entries
pub record Made : Type 0 where
  pub first : ℕ
  pub entries : List Position
  pub nodes : List Position
  pub entry_ranks : List ℕ
  pub node_ranks : List ℕ

-- the number of the next node
abbrev pub next_of : Made → ℕ
next_of m = m.first + length m.nodes

-- what was made, with the entry of one more form and rank
unfoldable pub with_entry : Form → ℕ → Made → Made
with_entry f r m = record {
  first = m.first;
  entries = m.entries ++ entry_position tree_of f (form_nodes tree_of f (next_of m)) ∷ [];
  nodes = m.nodes ++ (form_nodes tree_of f (next_of m)).added;
  entry_ranks = m.entry_ranks ++ entry_rank r ∷ [];
  node_ranks = m.node_ranks ++ numbered r (next_of m) (form_nodes tree_of f (next_of m)).added;
}

-- what was made, with the entries of more forms and ranks
abbrev pub with_all : List Form → List ℕ → Made → Made
with_all (f ∷ fs) (r ∷ rs) m = with_all fs rs (with_entry f r m)
with_all _ _ m = m

abbrev pub made_of : Parts → Made
made_of p = record {
  first = p.sink.first;
  entries = map node_view p.entries.items;
  nodes = p.sink.nodes;
  entry_ranks = p.ranks.items;
  node_ranks = p.sink.ranks;
}
