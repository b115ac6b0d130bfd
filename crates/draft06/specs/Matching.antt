-- When a pattern that is given by its text matches somewhere in a word.
use Rattle.std.specs.Prelude.{ℕ, List, Bool, false, Result, Ok, Err}
use Rattle.patterns.specs.Tree.{Tree}
use Rattle.patterns.specs.Decision.{finds}
use Rattle.schemas.specs.Fault.{Rules}

-- the tree matches somewhere; a text that has none matches nothing
abbrev pub finds_tree : {P : Type 0} → Result Tree P → List ℕ → Bool
finds_tree (Ok t) w = finds t w
finds_tree (Err f) w = false

abbrev pub finds_text : {P R : Type 0} → Rules P R → List ℕ → List ℕ → Bool
finds_text rules t w = finds_tree (rules.pattern t) w
