-- Whether a pattern, given by its text, matches somewhere in a word.
use Rattle.std.specs.Prelude.{ℕ, List, Bool, false, Result, Ok, Err}
use Rattle.patterns.specs.Tree.{Tree}
use Rattle.patterns.specs.Decision.{finds}
use Rattle.js_pattern.specs.declared.fault.PatternFault.{PatternFault}
use Rattle.js_pattern.specs.Grammar.{pattern}

-- a text that is no pattern matches nowhere
abbrev pub read_finds : Result Tree PatternFault → List ℕ → Bool
read_finds (Ok t) w = finds t w
read_finds (Err f) w = false

-- the tree of the text t is found in w
unfoldable pub matches : List ℕ → List ℕ → Bool
matches t w = read_finds (pattern t) w
