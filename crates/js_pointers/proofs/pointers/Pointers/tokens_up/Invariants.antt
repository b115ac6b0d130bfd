use Rattle.std.proofs.Common.{◌≡◌, ◌<◌, [], ◌++◌, map, reverse, length, get_or}
use Rattle.js_pointers.specs.TokensView.{token_text}
use Rattle.js_pointers.specs.PointersView.{pointers_of}
use Rattle.js_pointers.proofs.pointers.Pointers.tokens_up.Given as goal

abbrev pub invariant-loop-at : goal.invariant-loop-at
invariant-loop-at l = record {
  within : l.at < length (pointers_of l.fn.self);
  rest : get_or (pointers_of l.fn.self) l.at [] ++ reverse (map token_text l.tokens.items)
      ≡ get_or (pointers_of l.fn.self) l.fn.number [];
}

abbrev pub decreases-loop-at : goal.decreases-loop-at
decreases-loop-at l = l.at
