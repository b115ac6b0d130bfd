-- What comes of a text from a place on, where groups are open. The reader keeps this the same.
use Rattle.std.specs.Prelude.{◌≡◌, ℕ, suc, ◌+◌, nat_lt, List, [], ◌∷◌, ◌++◌, map, reverse, length, drop, Result, Ok, Err, if◌then◌else◌}
use Rattle.patterns.specs.Tree.{Tree}
use Rattle.js_pattern.specs.declared.fault.PatternFault.{PatternFault}
use Rattle.js_pattern.specs.declared.fault.PatternFault.TheVariants.{Syntax}
use Rattle.js_pattern.specs.declared.level.Level.{Level}
use Rattle.js_pattern.specs.declared.reader.Reader.{Reader}
use Rattle.js_pattern.specs.Reading.{Reading}
use Rattle.js_pattern.specs.Quantifiers.{quantified}
use Rattle.js_pattern.specs.Grammar.{Body, alternation_of, sequence_of, alternatives}
use Rattle.js_pattern.specs.View.{view, IsFault}

-- what is read of an open group: its alternatives so far, and the terms of the one that is being read
pub record Part : Type 0 where
  pub done : List Tree
  pub terms : List Tree

abbrev pub make_part : List Tree → List Tree → Part
make_part done terms = record { done = done; terms = terms }

abbrev pub part : Level → Part
part l = make_part (map view l.alternatives.items) (map view l.terms.items)

-- the open groups, the innermost first
abbrev pub parts : List Level → List Part
parts levels = reverse (map part levels)

abbrev pub with_term : Part → Tree → Part
with_term p t = make_part p.done (p.terms ++ t ∷ [])

abbrev pub divided : Part → Part
divided p = make_part (p.done ++ sequence_of p.terms ∷ []) []

-- the tree of a group of which the rest has this body
abbrev pub finished : Part → Body → Tree
finished p body = alternation_of (p.done ++ sequence_of (p.terms ++ body.0) ∷ map sequence_of body.1)

-- the end of the whole text, unless a `)` is left
abbrev pub ended : Part → ℕ → List ℕ → Reading Body → Result Tree PatternFault
ended p at t (Ok r) = if nat_lt r.1 (length t) then Err (Syntax (at + r.1)) else Ok (finished p r.0)
ended p at t (Err fault) = Err fault

-- what comes after a tree, which ends at a place
abbrev pub Next : Type 0
Next = Tree → ℕ → List ℕ → Result Tree PatternFault

abbrev pub go_on : Next → ℕ → List ℕ → Reading Tree → Result Tree PatternFault
go_on next at t (Ok r) = next r.0 (at + r.1) (drop r.1 t)
go_on next at t (Err fault) = Err fault

abbrev pub close_at : Next → Tree → ℕ → List ℕ → Result Tree PatternFault
close_at next tree at [] = Err (Syntax at)
close_at next tree at (c ∷ t) = go_on next (at + 1) t (quantified tree (at + 1) t)

-- the end of the innermost group, and what comes after it
abbrev pub closed : Next → Part → ℕ → List ℕ → Reading Body → Result Tree PatternFault
closed next p at t (Ok r) = close_at next (finished p r.0) (at + r.1) (drop r.1 t)
closed next p at t (Err fault) = Err fault

-- what comes of the text that begins at a place, inside these groups
abbrev pub outcome : List Part → Part → ℕ → List ℕ → Result Tree PatternFault
outcome [] p at t = ended p at t (alternatives 0 0 at t)
outcome (outer ∷ outers) p at t =
    closed (λ tree. outcome outers (with_term outer tree)) p at t (alternatives (suc (length outers)) 0 at t)

-- what comes of the text that begins at a place, given what the reader holds
abbrev pub comes_of : Reader → ℕ → List ℕ → Result Tree PatternFault
comes_of r at t = outcome (parts r.outers.items) (part r.level) at t

-- a step of the reader at a character c: what comes of the text stays the same n characters after c, or it is the fault
abbrev pub GoesOn : Reader → Reader → ℕ → ℕ → List ℕ → Result ℕ PatternFault → Type 0
GoesOn old new at c t (Ok n) = comes_of old at (c ∷ t) ≡ comes_of new (at + 1 + n) (drop n t)
GoesOn old new at c t (Err fault) = IsFault fault (comes_of old at (c ∷ t))
