use Rattle.std.proofs.Common.{◌≡◌, ◌≤◌, ◌*◌, ◌^◌, take}
use Rattle.js_expansion.proofs.Sums.{places_in}
use Rattle.js_expansion.proofs.lists.AlternativeList.places.Given as goal

abbrev pub invariant-loop-alternative : goal.invariant-loop-alternative
invariant-loop-alternative l =
    (l.sum ≡ places_in (take l.alternative-index l.alternative-items)) × (l.sum ≤ l.alternative-index * 2 ^ 65)
