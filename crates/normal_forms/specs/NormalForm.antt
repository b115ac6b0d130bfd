-- The core table of a schema: first a position for each entry, then the nodes that these need, entry by entry.
use Rattle.std.specs.Prelude.{ℕ, suc, ◌+◌, ◌-◌, ◌*◌, ◌^◌, List, [], ◌∷◌, ◌++◌, map, length}
use Rattle.patterns.specs.Tree.{Tree}
use Rattle.schemas.specs.Entry.{Form, Always, Never, Ref, Asks, Entry}
use Rattle.positions.specs.Position.{Position, True, False, Same, All}
use Rattle.normal_forms.specs.Nodes.{Nodes, Maker, nothing, after}
use Rattle.normal_forms.specs.KeywordNodes.{keyword_nodes}

-- a node's rank is that of its entry, and among an entry's nodes its number; the entry itself lies above its nodes
abbrev pub node_rank : ℕ → ℕ → ℕ
node_rank r p = r * 2 ^ 32 + p

abbrev pub entry_rank : ℕ → ℕ
entry_rank r = r * 2 ^ 32 + (2 ^ 32 - 1)

-- the ranks of nodes that are numbered from p on
abbrev pub numbered : ℕ → ℕ → List Position → List ℕ
numbered r p [] = []
numbered r p (P ∷ Ps) = node_rank r p ∷ numbered r (suc p) Ps

module _ (tree_of : List ℕ → Tree) where
  -- the nodes that an entry needs
  abbrev pub form_nodes : Form → Maker
  form_nodes Always = nothing
  form_nodes Never = nothing
  form_nodes (Ref e) = nothing
  form_nodes (Asks k) = keyword_nodes tree_of k

  -- what an entry is, given its nodes
  abbrev pub entry_position : Form → Nodes → Position
  entry_position Always a = True
  entry_position Never a = False
  entry_position (Ref e) a = Same e
  entry_position (Asks k) a = All a.named

  -- the positions of some entries, whose nodes are numbered from n on
  abbrev pub entry_positions : ℕ → List Entry → List Position
  entry_positions n [] = []
  entry_positions n (e ∷ es) =
      entry_position e.form (form_nodes e.form n) ∷ entry_positions (after n (form_nodes e.form n)) es

  abbrev pub all_nodes : ℕ → List Entry → List Position
  all_nodes n [] = []
  all_nodes n (e ∷ es) = (form_nodes e.form n).added ++ all_nodes (after n (form_nodes e.form n)) es

  abbrev pub node_ranks : ℕ → List Entry → List ℕ → List ℕ
  node_ranks n (e ∷ es) (r ∷ rs) =
      numbered r n (form_nodes e.form n).added ++ node_ranks (after n (form_nodes e.form n)) es rs
  node_ranks n _ _ = []

  -- position e is that of entry e
  unfoldable pub table_of : List Entry → List Position
  table_of es = entry_positions (length es) es ++ all_nodes (length es) es

  -- with ranks of the entries that fall in place, these fall in place too
  unfoldable pub ranks_of : List Entry → List ℕ → List ℕ
  ranks_of es ranks = map entry_rank ranks ++ node_ranks (length es) es ranks
