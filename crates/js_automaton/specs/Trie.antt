-- The beginnings of listed words, numbered. The empty word is node 0. An edge is the node of a beginning, and one more
-- character; the edge at place i leads to node i + 1.
use Rattle.std.specs.Prelude.{◌≡◌, ℕ, suc, Bool, true, false, ◌&&◌, nat_eq, List, [], ◌∷◌, Option, Some, None, flat_map, get_or}
use Rattle.std.specs.List.{list_any, position, position_or_len}
use Rattle.word_states.specs.Atom.{Atom, LengthMin}
use Rattle.word_states.specs.Mention.{mention}
use Rattle.js_automaton.specs.Letters.{letters_of}

abbrev pub same_edge : ℕ × ℕ → ℕ × ℕ → Bool
same_edge x y = nat_eq x.0 y.0 && nat_eq x.1 y.1

abbrev pub after_edge : Option ℕ → Option ℕ
after_edge None = None
after_edge (Some i) = Some (suc i)

-- the node of a beginning with one more character
abbrev pub child : List (ℕ × ℕ) → ℕ → ℕ → Option ℕ
child edges n c = after_edge (position (same_edge (n, c)) edges)

abbrev pub child_of : List (ℕ × ℕ) → Option ℕ → ℕ → Option ℕ
child_of edges None c = None
child_of edges (Some n) c = child edges n c

-- the node to which a word leads
abbrev pub walk : List (ℕ × ℕ) → Option ℕ → List ℕ → Option ℕ
walk edges node [] = node
walk edges node (c ∷ w) = walk edges (child_of edges node c) w

-- the edges with those of a word that goes on at a node
abbrev pub with_word : List (ℕ × ℕ) → ℕ → List ℕ → List (ℕ × ℕ)
with_word edges n [] = edges
with_word edges n (c ∷ w) =
    with_word (mention same_edge edges (n, c)) (suc (position_or_len (same_edge (n, c)) edges)) w

abbrev pub with_words : List (ℕ × ℕ) → List (List ℕ) → List (ℕ × ℕ)
with_words edges [] = edges
with_words edges (w ∷ ws) = with_words (with_word edges 0 w) ws

-- the edges of these words
unfoldable pub edges_of : List (List ℕ) → List (ℕ × ℕ)
edges_of = with_words []

abbrev pub node_of : List (List ℕ) → List ℕ → Option ℕ
node_of ws w = walk (edges_of ws) (Some 0) w

abbrev pub same_node : Option ℕ → Option ℕ → Bool
same_node None None = true
same_node (Some m) (Some n) = nat_eq m n
same_node _ _ = false

-- the words of all lists
abbrev pub listed : List Atom → List (List ℕ)
listed = flat_map letters_of

-- one of these words leads to that node
abbrev pub ends_at : List (List ℕ) → List (List ℕ) → ℕ → Bool
ends_at all ws n = list_any (λ u. same_node (node_of all u) (Some n)) ws

-- the pairs are the nodes to which the words of the atoms lead, each with the atom's place
abbrev pub AreEnds : List Atom → List (ℕ × ℕ) → Type 0
AreEnds atoms ends =
    (n k : ℕ) → list_any (same_edge (n, k)) ends
    ≡ ends_at (listed atoms) (letters_of (get_or atoms k (LengthMin 0))) n
