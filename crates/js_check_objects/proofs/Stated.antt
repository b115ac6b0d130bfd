-- One more bound comes first.
use Rattle.std.proofs.Common.{◌≡◌, List, [], ◌∷◌, ◌++◌, map, reverse, ap, ◌∙◌}
use Rattle.std.proofs.lemmas.List.{map-append, reverse-append}
use Rattle.js_check_objects.specs.Bounds.{bound_view, bounds_in}
use Rattle.js_check_objects.specs.declared.stated_bound.StatedBound.{StatedBound}

-- a bound that is pushed behind the others is the first of the list that is read
pub bounds_more : (xs : List StatedBound) (b : StatedBound) (ys : List StatedBound) → ys ≡ xs ++ b ∷ []
    → bounds_in ys ≡ bound_view b ∷ bounds_in xs
bounds_more xs b ys e =
    ap bounds_in e ∙ ap reverse (map-append bound_view xs (b ∷ []))
    ∙ reverse-append (map bound_view xs) (bound_view b ∷ [])
