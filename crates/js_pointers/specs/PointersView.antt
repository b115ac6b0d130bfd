-- The pointers that the program's table of them stands for.
use Rattle.std.specs.Prelude.{List}
use Rattle.schemas.specs.Places.{Pointer}
use Rattle.js_pointers.specs.Table.{numbered}
use Rattle.js_pointers.specs.TokensView.{names_of}
use Rattle.js_pointers.specs.declared.pointers.Pointers.{Pointers}

-- by number
abbrev pub pointers_of : Pointers → List Pointer
pointers_of t = numbered (names_of t.tokens) t.steps
