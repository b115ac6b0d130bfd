use Rattle.std.proofs.Common.{◌≡◌, ℕ, ◌+◌, ◌*◌, ◌≤◌, [], length, map}
use Rattle.json.specs.Json.{items, members, value, parse_map}
use Rattle.serde_json.specs.Read.{converted}
use Rattle.js_json.specs.Reading.{items_of_tree, named_of_tree, named_by}
use Rattle.js_json.proofs.TreeReading.{items_before}
use Rattle.js_json.proofs.take.+take.Given as goal

abbrev pub decreases-take : goal.decreases-take
decreases-take g l = 2 * l.depth

abbrev pub decreases-take_items : goal.decreases-take_items
decreases-take_items g l = 2 * l.depth + 1

abbrev pub decreases-take_members : goal.decreases-take_members
decreases-take_members g l = 2 * l.depth + 1

abbrev pub invariant-take_items-items : goal.invariant-take_items-items
invariant-take_items-items g l =
    (n : ℕ) × (length l.reader ≤ n)
    × (converted items_of_tree (items (value l.depth) (length l.initial.reader) l.initial.reader)
    ≡ parse_map (items_before g.M.Made.json l.found.items) (converted items_of_tree (items (value l.depth) n l.reader)))
    × (length l.reader ≤ length l.initial.reader)

abbrev pub decreases-take_items-items : goal.decreases-take_items-items
decreases-take_items-items g l = length l.reader

abbrev pub invariant-take_members-members : goal.invariant-take_members-members
invariant-take_members-members g l =
    (n : ℕ) × (length l.reader ≤ n)
    × (converted (λ ms. named_of_tree ms []) (members (value l.depth) (length l.initial.reader) l.initial.reader)
    ≡ converted (λ ms. named_of_tree ms (map (named_by g.M.Made.json) l.found.entries))
    (members (value l.depth) n l.reader))
    × (length l.reader ≤ length l.initial.reader)

abbrev pub decreases-take_members-members : goal.decreases-take_members-members
decreases-take_members-members g l = length l.reader
