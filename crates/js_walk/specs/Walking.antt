-- The steps of a walk, as the program makes them.
use Rattle.std.specs.Prelude.{◌≡◌, ℕ, ◌+◌, ◌≤◌, List, ◌∷◌, ◌++◌, [], map, reverse, length, true, Option, Some, None, cond, nat_lt}
use Rattle.documents.specs.Tests.{every}
use Rattle.documents.specs.Json.{Json}
use Rattle.js_doc.specs.JsonView.{view}
use Rattle.schemas.specs.Places as P
use Rattle.schemas.specs.Fault.{Fault, TooLarge}
use Rattle.schemas.specs.Weight.{weight}
use Rattle.schemas.specs.Walk.{children}
use Rattle.schemas.specs.Reading.{fault_with}
use Rattle.js_json.specs.declared.fault.RefFault.{RefFault}
use Rattle.js_pattern.specs.declared.fault.PatternFault.{PatternFault}
use Rattle.js_keywords.specs.Reading.{rules}
use Rattle.js_walk.specs.declared.place.Place.{Place}
use Rattle.js_walk.specs.declared.place.Done.{Done}
use Rattle.js_walk.specs.PlacesView.{place_view, done_view, reference_in}
use Rattle.js_walk.specs.Visiting.{AreWithin, Settled}

-- what is done
abbrev pub done_places : List P.Pointer → List (ℕ × Done) → List P.Place
done_places ps es = map (done_view ps) es

-- what waits, the next place first: the last of a stack
abbrev pub stack_view : List P.Pointer → List Place → List P.Place
stack_view ps cs = reverse (map (place_view ps) cs)

-- the pointers of the places that are done have numbers
abbrev pub DoneWithin : List P.Pointer → List (ℕ × Done) → Type 0
DoneWithin ps es = every (λ e. nat_lt e.0 (length ps)) es ≡ true

-- the references among them lead where their numbers say
abbrev pub AllSettled : Json → List P.Pointer → List (ℕ × Done) → Type 0
AllSettled root ps [] = Unit {0}
AllSettled root ps (e ∷ es) =
    Settled root ps (reference_in (view e.1.value.now)) e.1.target × AllSettled root ps es

-- a walk that is under way, where pointers have these numbers
pub record Kept (root : Json) (ps : List P.Pointer) (es : List (ℕ × Done)) (cs : List Place) : Type 0 where
  pub done : DoneWithin ps es
  pub waiting : AreWithin ps cs
  pub settled : AllSettled root ps es

-- the next place is the one that is owed, and the stack has those after it
abbrev pub NextOf : List P.Pointer → Option (P.Place × List P.Place) → List Place → Option Place → Type 0
NextOf ps owed left None = owed ≡ None
NextOf ps owed left (Some p) = owed ≡ Some (place_view ps p, stack_view ps left)

-- a place whose weight is too much after that of others
abbrev pub too_large : ℕ → P.Place → Option (Fault PatternFault RefFault)
too_large before c = cond (nat_lt rules.most_weight (before + weight c)) (Some (TooLarge c.0)) None

-- a place without a fault is done, and what it leads to waits before the others
pub record Passed (root : Json) (before after : ℕ) (c : P.Place) (old new waited waits : List P.Place) : Type 0 where
  pub faultless : fault_with rules root before c ≡ None
  pub weighs : after ≡ before + weight c
  pub light : after ≤ 2147483647
  pub done : new ≡ old ++ c ∷ []
  pub waiting : waits ≡ children rules root c ++ waited
