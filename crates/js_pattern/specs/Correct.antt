-- What the reader's answer says of the text.
use Rattle.std.specs.Prelude.{◌≡◌, ◌≢◌, ◌⊎◌, ℕ, List, Ok, Err}
use Rattle.patterns.specs.Tree.{Tree}
use Rattle.js_pattern.specs.declared.fault.PatternFault.{PatternFault}
use Rattle.js_pattern.specs.declared.fault.PatternFault.TheVariants.{Memory}
use Rattle.js_pattern.specs.Grammar.{pattern}

-- the text is a pattern, of this tree
abbrev pub HasTree : List ℕ → Tree → Type 0
HasTree text tree = pattern text ≡ Ok tree

-- the text is no pattern, and this is its first fault
abbrev pub HasFirstFault : List ℕ → PatternFault → Type 0
HasFirstFault text fault = pattern text ≡ Err fault

-- no text has a tree and a fault
abbrev pub NeverBoth : List ℕ → Type 0
NeverBoth text = (tree : Tree) (fault : PatternFault) → HasTree text tree → HasFirstFault text fault → ⊥

-- each text has one of them, and want of memory is no fault of a text
abbrev pub HasOne : List ℕ → Type 0
HasOne text =
    ((tree : Tree) × HasTree text tree) ⊎ ((fault : PatternFault) × HasFirstFault text fault × (fault ≢ Memory))
