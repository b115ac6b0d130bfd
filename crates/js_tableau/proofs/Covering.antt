-- The members of a walk stay covered, and what its choices add.
use Rattle.std.proofs.Common.{◌≡◌, ℕ, ⊎_elim, List, [], ◌∷◌, ◌++◌, map, take, refl, ap, sym, ◌∙◌}
use Rattle.std.proofs.lemmas.Bool.{or_cases, or_left, or_right}
use Rattle.goals.specs.Signed as G
use Rattle.goals.specs.Signed.{Plus, Minus, has, same_signed, add, add_all, is_rising}
use Rattle.js_algebra.specs.View.{signed_view}
use Rattle.js_algebra.specs.declared.signed.Signed.{Signed}
use Rattle.js_algebra.specs.SignedSets.{with_member}
use Rattle.js_algebra.proofs.Grown.{has-append, has-with_member, has-take}
use Rattle.js_tableau.specs.Walks.{Covers}
use Rattle.goal_laws.proofs.Signs.{some-add}

-- members stay covered where one more is added and waits
pub covers-add : (x : G.Signed) (xs ws ys : List G.Signed) → Covers xs ws ys → Covers (with_member x xs) (add x ws) ys
covers-add x xs ws ys h z m =
    ⊎_elim
    (λ s. or_left _ (has z ys) (some-add (same_signed z) x ws ∙ or_left (same_signed z x) (has z ws) s))
    (λ i. ⊎_elim
    (λ w. or_left _ (has z ys) (some-add (same_signed z) x ws ∙ or_right (same_signed z x) (has z ws) w))
    (λ y. or_right (has z (add x ws)) (has z ys) y)
    (or_cases (has z ws) (has z ys) (h z i)))
    (or_cases (same_signed z x) (has z xs) (sym (has-with_member z x xs) ∙ m))

-- members stay covered where one that was settled waits again
pub covers-back : (s : Signed) (ss : List Signed) (xs ws : List G.Signed)
    → Covers xs ws (map signed_view (ss ++ s ∷ []))
    → Covers xs (add (signed_view s) ws) (map signed_view ss)
covers-back s ss xs ws h z m =
    ⊎_elim
    (λ w. or_left _ _ (some-add (same_signed z) (signed_view s) ws
    ∙ or_right (same_signed z (signed_view s)) (has z ws) w))
    (λ y. ⊎_elim
    (λ e. or_left _ _ (some-add (same_signed z) (signed_view s) ws
    ∙ or_left (same_signed z (signed_view s)) (has z ws) e))
    (λ i. or_right (has z (add (signed_view s) ws)) _ i)
    (or_cases (same_signed z (signed_view s)) (has z (map signed_view ss))
    (sym (has-append z (signed_view s) (map signed_view ss)) ∙ ap (has z) (sym (map-append ss)) ∙ y)))
    (or_cases (has z ws) (has z (map signed_view (ss ++ s ∷ []))) (h z m))
  where
    map-append : (ts : List Signed) → map signed_view (ts ++ s ∷ []) ≡ map signed_view ts ++ signed_view s ∷ []
    map-append [] = refl
    map-append (t ∷ ts) = ap (λ us. signed_view t ∷ us) (map-append ts)

pub covers-take : (k : ℕ) (xs ws ys : List G.Signed) → Covers xs ws ys → Covers (take k xs) ws ys
covers-take k xs ws ys h z m = h z (has-take k xs z m)
