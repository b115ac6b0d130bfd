-- The expansion of a goal by what is found for the branches of its table.
use Rattle.std.specs.Prelude.{List}
use Rattle.positions.specs.Position.{Position}
use Rattle.goals.specs.Signed.{Signed}
use Rattle.alternatives.specs.Expansion.{Expansion}
use Rattle.expansions.specs.Leaves.{Finders, leaf}
use Rattle.expansions.specs.Expansion.{expansion}
use Rattle.number_finder.specs.NumbersOf.{numbers_of}
use Rattle.finders.specs.Strings.{strings_of}
use Rattle.finders.specs.Names.{cells_of}

-- what finds the numbers, the words and the cells of names of a branch
abbrev pub finders_of : List Position → Finders
finders_of T = record { numbers = numbers_of T; strings = strings_of T; cells = cells_of T }

abbrev pub expansion_of : List Position → List Signed → Expansion
expansion_of T = expansion T (leaf (finders_of T) T)
