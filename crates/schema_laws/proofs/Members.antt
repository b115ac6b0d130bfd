-- Which places a list has.
use Rattle.std.proofs.Common.{◌≡◌, List, [], ◌∷◌, inl, inr, true, sym, ap, ◌∙◌}
use Rattle.std.proofs.lemmas.Bool.{or_left, or_right}
use Rattle.schemas.specs.Places.{Place, same_pointer, has_place}
use Rattle.list_laws.specs.In.{IsIn}
use Rattle.schema_laws.proofs.Pointers.{same_pointer-refl}

-- a place is found by its pointer
pub has_place-in : (c : Place) (cs : List Place) → IsIn c cs → has_place cs c.0 ≡ true
has_place-in c [] h = absurd h
has_place-in c (d ∷ cs) (inl e) =
    or_left (same_pointer c.0 d.0) (has_place cs c.0)
    (ap (λ z. same_pointer c.0 z.0) (sym e) ∙ same_pointer-refl c.0)
has_place-in c (d ∷ cs) (inr h) = or_right (same_pointer c.0 d.0) (has_place cs c.0) (has_place-in c cs h)
