-- The sorted list is the set of what was followed, and its neighbours decide whether it clashes.
use Rattle.std.proofs.Common.{◌≡◌, map, true, false, List, [], Bool, cond, Some, None, refl, ap, sym, ◌∙◌, subst}
use Rattle.std.proofs.lemmas.Bool.{and_from}
use Rattle.positions.specs.Position.{Position}
use Rattle.goals.specs.Signed as S
use Rattle.goals.specs.Signed.{is_rising, add_all}
use Rattle.goals.specs.Goal as G
use Rattle.js_algebra.specs.View.{signed_view, are_in_table, is_in_table}
use Rattle.js_algebra.specs.Close.{clashes_nearby}
use Rattle.js_algebra.proofs.Closeness.{clashes-nearby}
use Rattle.js_algebra.proofs.Meanings.{meets-formed}
use Rattle.js_algebra.proofs.goal.form.Goals as goal
use Rattle.goal_laws.proofs.Signs.{is_rising-add_all, every-add_all}

set_in_table : (T : List Position) (xs ys : List S.Signed) → ys ≡ add_all xs [] → are_in_table T xs ≡ true
    → are_in_table T ys ≡ true
set_in_table T xs ys e h = subst (λ zs. are_in_table T zs ≡ true) (sym e)
    (every-add_all (is_in_table T) xs [] ∙ and_from _ _ h refl)

set_rises : (xs ys : List S.Signed) → ys ≡ add_all xs [] → is_rising ys ≡ true
set_rises xs ys e = subst (λ zs. is_rising zs ≡ true) (sym e) (is_rising-add_all xs [] refl)

formed : (T : List Position) (xs ys zs : List S.Signed) (b : Bool) → xs ≡ G.followed T zs → ys ≡ add_all xs []
    → b ≡ clashes_nearby T ys
    → cond b None (Some ys) ≡ G.form T zs
formed T xs ys zs b f e h =
    ap (λ t. cond t None (Some ys)) (h ∙ sym (clashes-nearby T ys (set_rises xs ys e)))
    ∙ ap (G.form_of T) (e ∙ ap (λ l. add_all l []) f)

pub clashes_nearby-requires : goal.clashes_nearby-requires
clashes_nearby-requires c =
    set_in_table _ (map signed_view c.in_ok-found.found.items) _
    (ap (map signed_view) c.as_slice.ensures.value ∙ c.sorted-items.ensures) c.in_ok-found.ensures.in_table

pub returns-then-clashes_nearby-clause-goal : goal.returns-then-clashes_nearby-clause-goal
returns-then-clashes_nearby-clause-goal c =
    formed _ (map signed_view c.in_ok-found.found.items)
    (map signed_view c.as_slice.result.now) _ true c.in_ok-found.ensures.value
    (ap (map signed_view) c.as_slice.ensures.value ∙ c.sorted-items.ensures) c.if-clashes_nearby.ensures

pub invariant_of-result : goal.invariant_of-result
invariant_of-result c = set_rises (map signed_view c.in_ok-found.found.items) _ c.sorted-items.ensures

pub returns-clause-goal : goal.returns-clause-goal
returns-clause-goal c =
    formed _ (map signed_view c.in_ok-found.found.items)
    (map signed_view c.sorted-items.result.items) _ false c.in_ok-found.ensures.value
    c.sorted-items.ensures (c.if-clashes_nearby.ensures
    ∙ ap (λ l. clashes_nearby c.args.core.now.positions (map signed_view l)) c.as_slice.ensures.value)

pub returns-clause-in_table : goal.returns-clause-in_table
returns-clause-in_table c = set_in_table _ (map signed_view c.in_ok-found.found.items) _ c.sorted-items.ensures
    c.in_ok-found.ensures.in_table

pub returns-then-clashes_nearby-clause-meaning : goal.returns-then-clashes_nearby-clause-meaning
returns-then-clashes_nearby-clause-meaning c =
    meets-formed c.args.core.now.positions c.args.core.now.ranks c.len-length.ensures.table
    (map signed_view c.args.list.now) c.requires None
    (returns-then-clashes_nearby-clause-goal c)

pub returns-clause-meaning : goal.returns-clause-meaning
returns-clause-meaning c =
    meets-formed c.args.core.now.positions c.args.core.now.ranks c.len-length.ensures.table
    (map signed_view c.args.list.now) c.requires
    (Some (map signed_view c.sorted-items.result.items)) (returns-clause-goal c)
