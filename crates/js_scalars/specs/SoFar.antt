-- What was read of a set.
use Rattle.std.specs.Prelude.{Bool, true, false}
use Rattle.positions.specs.Position.{Position}
use Rattle.number_groups.specs.Group.{Group}
use Rattle.number_finder.specs.SetGroup.{Ask, plus_ask, minus_ask}
use Rattle.js_numbers.specs.View.{lists_of}
use Rattle.js_scalars.specs.declared.asked.Asked.{Asked}

abbrev pub group_so_far : Asked → Group
group_so_far a = record {
  low = a.lo;
  high = a.hi;
  multiples = a.multiples.items;
  not_multiples = a.not_multiples.items;
  sets = lists_of a.sets.items;
  not_sets = lists_of a.not_sets.items;
}

-- what a position with that sign requires
abbrev pub asked : Bool → Position → Ask
asked true P = plus_ask P
asked false P = minus_ask P
