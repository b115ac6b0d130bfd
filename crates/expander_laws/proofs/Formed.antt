-- The test of formed goals decides which are formed.
use Rattle.std.proofs.Common.{◌≡◌, true, not, ◌&&◌, ◌||◌, List, ap}
use Rattle.std.proofs.lemmas.Bool.{and_parts, and_from, or_parts, not-true}
use Rattle.std.specs.Option.{is_none}
use Rattle.positions.specs.Position.{Position}
use Rattle.goals.specs.Signed.{Signed, opposite, has, is_rising}
use Rattle.goals.specs.Goal.{reference, is_always, is_never, clashes}
use Rattle.documents.specs.Tests.{every}
use Rattle.goal_laws.specs.Formed.{IsFormed}
use Rattle.goal_laws.proofs.Signs.{every-has, has-every, some-none}
use Rattle.expander_laws.specs.Expander.{is_formed}
use Rattle.list_laws.proofs.Options.{is_none-None}

-- a goal that passes the test is formed
pub is_formed-true : (T : List Position) (g : List Signed) → is_formed T g ≡ true → IsFormed T g
is_formed-true T g e =
    let (front, each) =
    and_parts (is_rising g && not (clashes T g)) (every (λ x. not (is_always T x) && is_none (reference T x)) g) e in
    let (rising, clear) = and_parts (is_rising g) (not (clashes T g)) front in
    let parts : (x : Signed) → has x g ≡ true
    → (not (is_always T x) ≡ true) × (is_none (reference T x) ≡ true) =
    λ x i. and_parts (not (is_always T x)) (is_none (reference T x))
    (every-has (λ x. not (is_always T x) && is_none (reference T x)) g x each i) in
    record {
      rising = rising;
      no_clash = not-true (clashes T g) clear;
      none_always = λ x i. not-true (is_always T x) (parts x i).0;
      none_never = λ x i. (or_parts (is_never T x) (has (opposite x) g)
          (some-none (λ y. is_never T y || has (opposite y) g) g x (not-true (clashes T g) clear) i)).0;
      no_reference = λ x i. is_none-None (reference T x) (parts x i).1;
    }

pub is_formed-from : (T : List Position) (g : List Signed) → IsFormed T g → is_formed T g ≡ true
is_formed-from T g f =
    and_from (is_rising g && not (clashes T g)) (every (λ x. not (is_always T x) && is_none (reference T x)) g)
    (and_from (is_rising g) (not (clashes T g)) f.rising (ap not f.no_clash))
    (has-every (λ x. not (is_always T x) && is_none (reference T x)) g (λ x i.
    and_from (not (is_always T x)) (is_none (reference T x)) (ap not (f.none_always x i))
    (ap is_none (f.no_reference x i))))
