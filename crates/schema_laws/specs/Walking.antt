-- A walk that is under way: the places that are done, and those that wait.
use Rattle.std.specs.Prelude.{◌≡◌, ℕ, ◌+◌, ◌-◌, None, List, [], ◌∷◌, ◌++◌, true, map, length}
use Rattle.std.specs.List.{IsDistinct}
use Rattle.documents.specs.Json.{Json, count}
use Rattle.schemas.specs.Places.{Pointer, Place, same_pointer, has_place}
use Rattle.schemas.specs.Fault.{Rules}
use Rattle.schemas.specs.Walk.{children, walk, places}
use Rattle.schemas.specs.Weight.{weight}
use Rattle.schemas.specs.Reading.{fault_after}
use Rattle.list_laws.specs.In.{IsIn}
use Rattle.schema_laws.specs.Values.{values_from}

abbrev pub pointers : List Place → List Pointer
pointers cs = map (λ c. c.0) cs

-- what places weigh together
abbrev pub weights : List Place → ℕ
weights [] = 0
weights (c ∷ cs) = weight c + weights cs

module _ {P R : Type 0} (rules : Rules P R) (root : Json) where
  -- the places that a walk goes on to
  abbrev pub rest : List Place → List Place → List Place
  rest done waiting = walk rules root (count root - length done) done waiting

  pub record IsWalking (done waiting : List Place) : Type 0 where
    -- the places are those that are done, and those that the walk goes on to
    pub places_are : places rules root ≡ done ++ rest done waiting
    -- each place is done once
    pub distinct : IsDistinct same_pointer (pointers done)
    -- all of them are values of the file, each at its place
    pub within : (c : Place) → IsIn c (done ++ waiting) → IsIn c (values_from [] root)
    -- whatever a place that is done leads to is done or waits, and so is the root
    pub covers : (c d : Place) → IsIn c done → IsIn d (children rules root c) → has_place (done ++ waiting) d.0 ≡ true
    pub covers_root : has_place (done ++ waiting) [] ≡ true

  -- whatever a place leads to is one of the places, and so is the root; none comes twice
  pub record AreAllPlaces (cs : List Place) : Type 0 where
    pub distinct : IsDistinct same_pointer (pointers cs)
    pub within : (c : Place) → IsIn c cs → IsIn c (values_from [] root)
    pub closed : (c d : Place) → IsIn c cs → IsIn d (children rules root c) → has_place cs d.0 ≡ true
    pub rooted : has_place cs [] ≡ true

  -- a walk that has met no fault so far, with the weight of the places that are done
  pub record IsReading (done waiting : List Place) (so_far : ℕ) : Type 0 where
    pub walking : IsWalking done waiting
    pub faultless : fault_after rules root 0 done ≡ None
    pub weighs : so_far ≡ weights done
