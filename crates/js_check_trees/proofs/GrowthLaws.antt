-- What holds of a set that grew by a list, or stayed as it was for want of memory.
use Rattle.std.proofs.Common.{◌≡◌, ℕ, ◌+◌, true, List, [], ◌∷◌, ◌++◌, take, length, reverse, Result, Ok, Err, OnOk, OnErr, refl, ap, ◌∙◌}
use Rattle.positions.specs.Position.{Position}
use Rattle.documents.specs.Kind.{Kind}
use Rattle.goals.specs.Signed as G
use Rattle.js_algebra.specs.View.{are_in_table}
use Rattle.js_algebra.specs.SignedSets.{with_members}
use Rattle.js_algebra.proofs.Grown.{members_in_table}
use Rattle.js_check_trees.specs.Choosing.{are_fine}
use Rattle.js_check_trees.specs.declared.pending.Pending.{Pending}
use Rattle.js_check_trees.proofs.ChoiceLaws.{next_fine}

-- `xs` is what there was, `ws` the first of it, and `ys` what there is
module _ {A E : Type 0} (T : List Position) (C xs ws ys : List G.Signed) (k : ℕ) (r : Result A E)
    (back : ws ≡ take k xs) (grown : OnOk r (ys ≡ with_members C ws)) (same : OnErr r (ys ≡ ws)) where
  pub grown_in_table : are_in_table T C ≡ true → are_in_table T xs ≡ true → are_in_table T ys ≡ true
  grown_in_table more here = go r grown same where
    go : (r : Result A E) → OnOk r (ys ≡ with_members C ws) → OnErr r (ys ≡ ws) → are_in_table T ys ≡ true
    go (Ok x) a b = ap (are_in_table T) (a ∙ ap (with_members C) back) ∙ members_in_table T C xs k more here
    go (Err e) a b = ap (are_in_table T) (b ∙ back) ∙ members_in_table T [] xs k refl here

-- the last rule was put back with its next choice
pub grown_fine : {A E : Type 0} (T : List Position) (t : Kind) (C xs ws ys : List G.Signed)
    (es old new : List Pending) (e : Pending) (r : Result A E) → old ≡ es ++ e ∷ []
    → are_fine T (length xs) (reverse old) ≡ true → ws ≡ take e.members xs
    → new ≡ es ++ record { members = e.members; rule = e.rule; next = e.next + 1 } ∷ []
    → OnOk r (ys ≡ with_members C ws) → OnErr r (ys ≡ ws) → are_fine T (length ys) (reverse new) ≡ true
grown_fine T t C xs ws ys es old new e (Ok x) popped fine back put a b =
    next_fine T t xs es old e popped fine C ws ys new back a put
grown_fine T t C xs ws ys es old new e (Err x) popped fine back put a b =
    next_fine T t xs es old e popped fine [] ws ys new back b put
