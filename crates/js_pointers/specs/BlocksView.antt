-- The block of each number.
use Rattle.std.specs.Prelude.{ℕ, ◌+◌, List, get_or, false, Option, Some, nat_lt, if◌then◌else◌}
use Rattle.js_pointers.specs.declared.blocks.Block.{Block}

abbrev pub no_block : Block
no_block = record { first = 0; count = 0; others = false }

-- with no steps where the number is beyond the list
abbrev pub block_of : List Block → ℕ → Block
block_of blocks of = get_or blocks of no_block

-- where a step is by its block and by what the map has for it
abbrev pub found_in : Block → Option ℕ → ℕ → Option ℕ
found_in block other token = if nat_lt token block.count then Some (block.first + token) else other
