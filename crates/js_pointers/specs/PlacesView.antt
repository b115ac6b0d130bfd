-- Where blocks and the map say that a step is.
use Rattle.std.specs.Prelude.{ℕ, Option}
use Rattle.std.specs.BTreeMap.{get}
use Rattle.js_pointers.specs.Numbered.{step_order}
use Rattle.js_pointers.specs.BlocksView.{block_of, found_in}
use Rattle.js_pointers.specs.declared.places.Places.{Places}

abbrev pub found : Places → ℕ → ℕ → Option ℕ
found p of token = found_in (block_of p.blocks.items of) (get step_order p.others (of, token)) token
