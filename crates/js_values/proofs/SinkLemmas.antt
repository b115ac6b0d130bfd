-- What a sink has, by its fields and by makers that are put together.
use Rattle.std.proofs.Common.{◌≡◌, ℕ, ◌+◌, List, [], ◌∷◌, ◌++◌, length, map, refl, sym, ap, ◌∙◌}
use Rattle.std.proofs.lemmas.List.{map-append, length-map}
use Rattle.documents.specs.Document.{Document, Items, items_of, Members, members_of}
use Rattle.positions.specs.Position.{Position, Has}
use Rattle.normal_forms.specs.Nodes.{node, entry, both, above, each}
use Rattle.normal_forms.specs.NormalForm.{node_rank}
use Rattle.normal_forms.specs.Values.{value_node, item_nodes, member_nodes, member_of, names_of, but_last, last_of}
use Rattle.js_doc.specs.declared.document.Doc.{Doc}
use Rattle.js_doc.specs.declared.rising.Named.{Named}
use Rattle.js_doc.specs.View.{member_view}
use Rattle.js_doc.proofs.Levels.{entries-of}
use Rattle.js_algebra.specs.View.{node_view, places}
use Rattle.js_algebra.specs.declared.node.Pos.{Pos}
use Rattle.js_algebra.specs.declared.node.Node.{Node}
use Rattle.js_values.specs.Runs.{State, run}
use Rattle.js_values.specs.MemberMaker.{member_maker}
use Rattle.js_values.proofs.RunLemmas.{state, run-both, run-pushed, run-entry}

-- a node is pushed with its rank, and its number is added to those that are named
pub pushed : (s : State) (k r : ℕ) (nodes made : List Node) (ranks ranked : List ℕ) (named more : List Pos) (x : Node)
    (p : Pos) → state k r (map node_view nodes) ranks (places named) ≡ s → made ≡ nodes ++ x ∷ []
    → ranked ≡ ranks ++ node_rank r (k + length nodes) ∷ [] → more ≡ named ++ p ∷ [] → p.0 ≡ k + length nodes
    → state k r (map node_view made) ranked (places more) ≡ run (node (node_view x)) s
pushed s k r nodes made ranks ranked named more x p is a b c e =
    let size = ap (λ n. k + n) (sym (length-map nodes node_view)) in
    run-pushed k r (map node_view nodes) (map node_view made) ranks ranked (places named) (places more) (node_view x)
    (ap (map node_view) a ∙ map-append node_view nodes (x ∷ []))
    (b ∙ ap (λ n. ranks ++ node_rank r n ∷ []) size)
    (ap places c ∙ map-append (λ q. q.0) named (p ∷ []) ∙ ap (λ n. places named ++ n ∷ []) (e ∙ size))
    ∙ ap (run (node (node_view x))) is

-- an entry is named
pub entry-named : (s : State) (k r : ℕ) (nodes : List Position) (ranks : List ℕ) (named more : List Pos) (p : Pos)
    → state k r nodes ranks (places named) ≡ s → more ≡ named ++ p ∷ []
    → state k r nodes ranks (places more) ≡ run (entry p.0) s
entry-named s k r nodes ranks named more p is a =
    run-entry k r p.0 nodes ranks (places named) (places more) (ap places a ∙ map-append (λ q. q.0) named (p ∷ []))
    ∙ ap (run (entry p.0)) is

-- elements one by one
items-each : (ds : List Document) → item_nodes (items_of ds) ≡ each value_node ds
items-each [] = refl
items-each (d ∷ ds) = ap (both (value_node d)) (items-each ds)

pub items-made : (ds : List Document) (l : Items) (s u : State) → items_of ds ≡ l → u ≡ run (each value_node ds) s
    → u ≡ run (item_nodes l) s
items-made ds l s u e a = a ∙ ap (λ f. run f s) (sym (items-each ds) ∙ ap item_nodes e)

-- members one by one
members-each : (ms : List (List ℕ × Document)) (s : State) → run (member_nodes (members_of ms)) s
    ≡ run (each member_maker ms) s
members-each [] s = refl
members-each (m ∷ ms) s =
    let a = node (Has m.0) in
    let b = above (member_of m.0) (value_node m.1) in
    run-both a (both b (member_nodes (members_of ms))) s
    ∙ run-both b (member_nodes (members_of ms)) (run a s)
    ∙ members-each ms (run b (run a s))
    ∙ ap (run (each member_maker ms)) (sym (run-both a b s))
    ∙ sym (run-both (member_maker m) (each member_maker ms) s)

pub members-made : (ms : List (List ℕ × Document)) (l : Members) (s u : State) → members_of ms ≡ l
    → u ≡ run (each member_maker ms) s → u ≡ run (member_nodes l) s
members-made ms l s u e a = a ∙ sym (members-each ms s) ∙ ap (λ x. run (member_nodes x) s) e

-- the last number of a list, and those before it
pub but_last-end : (qs : List ℕ) (q : ℕ) → but_last (qs ++ q ∷ []) ≡ qs
but_last-end [] q = refl
but_last-end (p ∷ []) q = refl
but_last-end (p ∷ r ∷ rs) q = ap (λ xs. p ∷ xs) (but_last-end (r ∷ rs) q)

pub last_of-end : (qs : List ℕ) (q : ℕ) → last_of (qs ++ q ∷ []) ≡ q
last_of-end [] q = refl
last_of-end (p ∷ []) q = refl
last_of-end (p ∷ r ∷ rs) q = last_of-end (r ∷ rs) q

-- the names of members
pub names-entries : (ms : List (Named Doc)) (l : Members) → members_of (map member_view ms) ≡ l
    → map (λ m. (member_view m).0) ms ≡ names_of l
names-entries ms l e =
    firsts ms ∙ ap (map (λ m. m.0)) (sym (entries-of (map member_view ms) l e)) where
      firsts : (ms : List (Named Doc)) → map (λ m. (member_view m).0) ms ≡ map (λ m. m.0) (map member_view ms)
      firsts [] = refl
      firsts (m ∷ ms) = ap (λ ks. (member_view m).0 ∷ ks) (firsts ms)
