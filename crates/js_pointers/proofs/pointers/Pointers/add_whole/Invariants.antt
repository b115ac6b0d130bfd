use Rattle.std.proofs.Common.{◌≡◌, ◌<◌, [], ◌++◌, length, get_or, drop}
use Rattle.js_pointers.specs.Table.{Grows}
use Rattle.js_pointers.specs.PointersView.{pointers_of}
use Rattle.js_pointers.proofs.pointers.Pointers.add_whole.Given as goal

abbrev pub invariant-loop-token : goal.invariant-loop-token
invariant-loop-token l = record {
  grows : Grows (pointers_of l.initial.self) (pointers_of l.self);
  within : l.at < length (pointers_of l.self);
  rest : get_or (pointers_of l.self) l.at [] ++ drop l.token-index l.token-items ≡ l.fn.pointer;
}
