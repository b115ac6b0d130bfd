-- The answer of a reader of words.
use Rattle.std.specs.Prelude.{◌≡◌, Result, Ok, Err}
use Rattle.js_words.specs.Commands as C
use Rattle.js_words.specs.CommandView.{command_view}
use Rattle.js_words.specs.declared.words.Command.{Command}
use Rattle.js_words.specs.declared.words.WordsFault.{WordsFault}
use Rattle.js_words.specs.declared.words.WordsFault.TheVariants.{Memory}

-- the answer is that command, or memory was refused
abbrev pub Gives : Result Command WordsFault → C.Command → Type 0
Gives (Ok x) c = command_view x ≡ c
Gives (Err e) c = e ≡ Memory
