use Rattle.std.proofs.Common.{◌≡◌, [], ◌++◌, map, reverse, get_or, vec_len}
use Rattle.js_pointers.specs.TokensView.{token_text}
use Rattle.js_pointers.specs.PointersView.{pointers_of}
use Rattle.js_pointers.proofs.pointers.Pointers.pointer.Given as goal

abbrev pub invariant-loop-token : goal.invariant-loop-token
invariant-loop-token l =
    l.pointer ++ reverse (map token_text l.tokens.items)
    ≡ get_or (pointers_of l.fn.self) l.fn.number []

abbrev pub decreases-loop-token : goal.decreases-loop-token
decreases-loop-token l = vec_len l.tokens
