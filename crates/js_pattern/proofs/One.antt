-- A text has a tree or a first fault.
use Rattle.std.proofs.Common.{◌≡◌, inl, inr, ℕ, List, Result, Ok, Err, ap, ◌∙◌, refl}
use Rattle.patterns.specs.Tree.{Tree}
use Rattle.js_pattern.specs.declared.fault.PatternFault.{PatternFault}
use Rattle.js_pattern.specs.Grammar.{pattern}
use Rattle.js_pattern.proofs.NoMemory.{pattern_no_memory}
use Rattle.js_pattern.specs.Correct.{HasOne}

-- each text has a tree, or a first fault that isn't want of memory
pub has_one : (text : List ℕ) → HasOne text
has_one text = by (pattern text) refl where
  by : (r : Result Tree PatternFault) → pattern text ≡ r → HasOne text
  by (Ok tree) e = inl (tree, e)
  by (Err fault) e = inr (fault, e, λ memory. pattern_no_memory text (e ∙ ap Err memory))
