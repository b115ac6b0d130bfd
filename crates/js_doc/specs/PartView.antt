-- The part that a program's value stands for, and the lists of parts that a table may hold.
use Rattle.std.specs.Prelude.{◌≡◌, ◌≤◌, List, length, true}
use Rattle.shared_documents.specs.Part as P
use Rattle.js_doc.specs.declared.parts.Part.{Part}
use Rattle.js_doc.specs.declared.parts.Part.TheVariants as V

abbrev pub part_view : Part → P.Part
part_view V.Null = P.null
part_view (V.Bool b) = P.boolean b
part_view (V.Num n) = P.number n
part_view (V.Text s) = P.string s
part_view (V.List is) = P.array is
part_view (V.Members ms) = P.object ms

-- so many parts that each has a number of 32 bits, and one more number is left
pub record AreParts (ps : List P.Part) : Type 0 where
  pub table : P.is_table ps ≡ true
  pub few : length ps ≤ 4294967295
