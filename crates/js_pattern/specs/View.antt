-- What a contract sees of a tree that the reader made, and how an answer of the reader compares with the grammar's.
use Rattle.std.specs.Prelude.{◌≡◌, ◌≢◌, ℕ, min, List, ◌++◌, option_map, Result, Ok, Err}
use Rattle.patterns.specs.Tree as trees
use Rattle.js_pattern.specs.declared.re.Re.{Re, fold-Re}
use Rattle.js_pattern.specs.declared.re.Re.TheOpen as open_re
use Rattle.js_pattern.specs.declared.re.Re.TheOpen.{Re-F, ReList-F}
use Rattle.js_pattern.specs.declared.re.ReList.{ReList, fold-ReList}
use Rattle.js_pattern.specs.declared.quantifier.Bounds.{Bounds}
use Rattle.js_pattern.specs.Reading.{Reading, after}
use Rattle.js_pattern.specs.declared.fault.PatternFault.{PatternFault}
use Rattle.js_pattern.specs.declared.fault.PatternFault.TheVariants.{Memory}

abbrev pub node_view : Re-F trees.Tree trees.Trees → trees.Tree
node_view open_re.Empty = trees.empty
node_view (open_re.Set ranges) = trees.one_of ranges
node_view open_re.Start = trees.at_start
node_view open_re.End = trees.at_end
node_view (open_re.Seq ts) = trees.in_turn ts
node_view (open_re.Alt ts) = trees.either ts
node_view (open_re.Repeat t low high) = trees.repeated t.value low high

abbrev pub list_node_view : ReList-F trees.Tree trees.Trees → trees.Trees
list_node_view l = trees.trees_of l.items.items

-- the tree that a `Re` is
abbrev pub view : Re → trees.Tree
view = fold-Re trees.Tree trees.Trees node_view list_node_view

abbrev pub list_view : ReList → trees.Trees
list_view = fold-ReList trees.Tree trees.Trees node_view list_node_view

-- a number as a `u32` keeps it: past its last number, that
abbrev pub cut : ℕ → ℕ
cut n = min n 4294967295

-- unless memory ran out, the grammar has this fault too
abbrev pub IsFault : {A : Type 0} → PatternFault → Result A PatternFault → Type 0
IsFault fault reading = fault ≢ Memory → reading ≡ Err fault

abbrev pub cut_braced : ℕ × ℕ → ℕ × ℕ
cut_braced b = (cut b.0, b.1)

-- a quantifier's numbers as they are kept
abbrev pub cut_bounds : Bounds → Bounds
cut_bounds b = record { low = cut b.low; high = option_map cut b.high; taken = b.taken }

-- what an item of a class adds to the ranges so far, by how many characters follow its first one
abbrev pub AddsItem : List (ℕ × ℕ) → List (ℕ × ℕ) → Reading (List (ℕ × ℕ)) → Result ℕ PatternFault → Type 0
AddsItem before now reading (Ok n) = after 0 (λ added. before ++ added) reading ≡ Ok (now, n)
AddsItem before now reading (Err fault) = IsFault fault reading
