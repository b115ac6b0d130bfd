-- A whole number meets the group of a set exactly where it is all that the set requires.
use Rattle.std.proofs.Common.{◌≡◌, ℤ, int_le, List, [], ◌∷◌, Bool, true, false, not, ◌&&◌, ◌||◌, cond, Option, Some, None, refl, ap, ◌∙◌, arith, sym}
use Rattle.std.specs.List.{list_all, list_any}
use Rattle.std.proofs.lemmas.Int.{ints}
use Rattle.documents.specs.Tests.{every}
use Rattle.documents.specs.Numbers.{has}
use Rattle.positions.specs.Position.{Position}
use Rattle.goals.specs.Signed.{Signed}
use Rattle.number_groups.specs.Multiples.{is_multiple}
use Rattle.number_groups.specs.Group.{Group, is_above, is_below, is_struck, is_met}
use Rattle.number_finder.specs.SetGroup.{Ask, AtLeast, AtMost, MultipleOf, NotMultipleOf, OneOf, NoneOf, Nothing, ask_at, group_of, greater, lesser, both, number_group}
use Rattle.std.proofs.Math.Bool.{and-true}

-- n meets the requirement
abbrev pub is_asked : ℤ → Ask → Bool
is_asked n (AtLeast m) = int_le m n
is_asked n (AtMost m) = int_le n m
is_asked n (MultipleOf m) = is_multiple m n
is_asked n (NotMultipleOf m) = not (is_multiple m n)
is_asked n (OneOf ns) = has ns n
is_asked n (NoneOf ns) = not (has ns n)
is_asked n Nothing = true

-- bounds

above_both : (m k n : ℤ) → int_le (cond (int_le m k) k m) n ≡ (int_le m n && int_le k n)
above_both m k n = grind (arith, ints)

below_both : (m k n : ℤ) → int_le n (cond (int_le m k) m k) ≡ (int_le n m && int_le n k)
below_both m k n = grind (arith, ints)

above_greater : (m : ℤ) (low : Option ℤ) (n : ℤ) → is_above (greater (Some m) low) n ≡ (int_le m n && is_above low n)
above_greater m None n = sym (and-true (int_le m n))
above_greater m (Some k) n = above_both m k n

below_lesser : (m : ℤ) (high : Option ℤ) (n : ℤ) → is_below (lesser (Some m) high) n ≡ (int_le n m && is_below high n)
below_lesser m None n = sym (and-true (int_le n m))
below_lesser m (Some k) n = below_both m k n

-- one test more, at each of its places

at_low : (t a b c d n : Bool) → (((t && a) && b && c && d) && n) ≡ (t && ((a && b && c && d) && n))
at_low true a b c d n = refl
at_low false a b c d n = refl

at_high : (t a b c d n : Bool) → ((a && (t && b) && c && d) && n) ≡ (t && ((a && b && c && d) && n))
at_high true a b c d n = refl
at_high false true b c d n = refl
at_high false false b c d n = refl

at_multiples : (t a b c d n : Bool) → ((a && b && (t && c) && d) && n) ≡ (t && ((a && b && c && d) && n))
at_multiples true a b c d n = refl
at_multiples false true true c d n = refl
at_multiples false true false c d n = refl
at_multiples false false b c d n = refl

at_sets : (t a b c d n : Bool) → ((a && b && c && (t && d)) && n) ≡ (t && ((a && b && c && d) && n))
at_sets true a b c d n = refl
at_sets false true true true d n = refl
at_sets false true true false d n = refl
at_sets false true false c d n = refl
at_sets false false b c d n = refl

at_struck : (t a e f : Bool) → (a && not ((t || e) || f)) ≡ (not t && (a && not (e || f)))
at_struck false a e f = refl
at_struck true true e f = refl
at_struck true false e f = refl

at_listed : (t a e f : Bool) → (a && not (e || (t || f))) ≡ (not t && (a && not (e || f)))
at_listed false a e f = refl
at_listed true true true f = refl
at_listed true true false f = refl
at_listed true false e f = refl

met_one : (n : ℤ) (a : Ask) (g : Group) → is_met (both (group_of a) g) n ≡ (is_asked n a && is_met g n)
met_one n (AtLeast m) g =
    ap (λ t. (t && is_below g.high n && list_all (λ m. is_multiple m n) g.multiples && list_all (λ s. has s n) g.sets)
    && not (is_struck g n)) (above_greater m g.low n)
    ∙ at_low (int_le m n) _ _ _ _ _
met_one n (AtMost m) g =
    ap (λ t. (is_above g.low n && t && list_all (λ m. is_multiple m n) g.multiples && list_all (λ s. has s n) g.sets)
    && not (is_struck g n)) (below_lesser m g.high n)
    ∙ at_high (int_le n m) (is_above g.low n) _ _ _ _
met_one n (MultipleOf m) g = at_multiples (is_multiple m n) (is_above g.low n) (is_below g.high n) _ _ _
met_one n (NotMultipleOf m) g = at_struck (is_multiple m n) _ _ _
met_one n (OneOf ns) g =
    at_sets (has ns n) (is_above g.low n) (is_below g.high n) (list_all (λ m. is_multiple m n) g.multiples) _ _
met_one n (NoneOf ns) g = at_listed (has ns n) _ (list_any (λ m. is_multiple m n) g.not_multiples) _
met_one n Nothing g = refl

-- a number meets the group of a set exactly where it meets what each literal requires
pub is_met-number_group : (T : List Position) (S : List Signed) (n : ℤ)
    → is_met (number_group T S) n ≡ every (λ x. is_asked n (ask_at T x)) S
is_met-number_group T [] n = refl
is_met-number_group T (x ∷ S) n =
    met_one n (ask_at T x) (number_group T S)
    ∙ ap (λ b. is_asked n (ask_at T x) && b) (is_met-number_group T S n)
