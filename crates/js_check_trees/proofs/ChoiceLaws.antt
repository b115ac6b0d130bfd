-- The choices that are left, after a rule is put off and after a choice is taken to hand.
use Rattle.std.proofs.Common.{◌≡◌, ◌+◌, ◌<◌, ◌≤◌, Bool, true, false, cond, ◌&&◌, nat_le, List, [], ◌∷◌, ◌++◌, take, drop, length, reverse, arith, ap, ap₂, sym, ◌∙◌}
use Rattle.std.proofs.lemmas.Bool.{and_parts, and_from, leb-true, le-leb}
use Rattle.std.proofs.lemmas.List.{drop_more, take-take, length-take-le}
use Rattle.documents.specs.Kind.{Kind}
use Rattle.positions.specs.Position.{Position}
use Rattle.goals.specs.Signed as G
use Rattle.goals.specs.Signed.{add_all, is_rising}
use Rattle.goal_laws.proofs.Signs.{add_all-itself}
use Rattle.verdicts.specs.Duties.{Duty, OfSet}
use Rattle.js_algebra.specs.View.{signed_view, is_in_table}
use Rattle.js_algebra.specs.SignedSets.{set_of, with_members}
use Rattle.js_algebra.proofs.Grown.{set-with_members, length-with_members, take-with_members}
use Rattle.js_check_trees.specs.Choosing.{choices_of, choice_at, choice_duties, duties_left, are_fine}
use Rattle.js_check_trees.specs.declared.pending.Pending.{Pending}
use Rattle.list_laws.proofs.Lists.{reverse-last}

-- the set that a tree begins with is the goal
pub first_set : (g ms ws gs : List G.Signed) → is_rising g ≡ true → ms ≡ with_members gs ws → ws ≡ [] → gs ≡ g
    → set_of ms ≡ g
first_set g ms ws gs r e none same =
    ap set_of (e ∙ ap₂ with_members same none) ∙ set-with_members g [] ∙ add_all-itself g r

-- where no set is at hand
pub none_at_hand : (b : Bool) (ds es : List Duty) → b ≡ false → es ≡ cond b ds es
none_at_hand b ds es e = ap (λ b. cond b ds es) (sym e)

module _ (T : List Position) (t : Kind) where
  -- the last rule
  module _ (xs : List G.Signed) (es old : List Pending) (e : Pending) (popped : old ≡ es ++ e ∷ [])
      (fine : are_fine T (length xs) (reverse old) ≡ true) where
    turned : reverse old ≡ e ∷ reverse es
    turned = reverse-last es old e popped

    head_fine : (nat_le e.members (length xs) && is_in_table T (signed_view e.rule)) ≡ true
    head_fine = (and_parts (nat_le e.members (length xs) && is_in_table T (signed_view e.rule))
        (are_fine T e.members (reverse es)) (ap (are_fine T (length xs)) (sym turned) ∙ fine)).0

    tail_fine : are_fine T e.members (reverse es) ≡ true
    tail_fine = (and_parts (nat_le e.members (length xs) && is_in_table T (signed_view e.rule))
        (are_fine T e.members (reverse es)) (ap (are_fine T (length xs)) (sym turned) ∙ fine)).1

    pub last_in_table : is_in_table T (signed_view e.rule) ≡ true
    last_in_table = (and_parts (nat_le e.members (length xs)) (is_in_table T (signed_view e.rule)) head_fine).1

    within : e.members ≤ length xs
    within = leb-true _ _ (and_parts (nat_le e.members (length xs)) (is_in_table T (signed_view e.rule)) head_fine).0

    length-back : length (take e.members xs) ≡ e.members
    length-back = length-take-le e.members xs within

    pub back_fine : (ys : List G.Signed) → ys ≡ take e.members xs → are_fine T (length ys) (reverse es) ≡ true
    back_fine ys back = ap (λ n. are_fine T n (reverse es)) (ap length back ∙ length-back) ∙ tail_fine

    -- the rule is put back with its next choice, and members are added
    module _ (C ys zs : List G.Signed) (new : List Pending) (back : ys ≡ take e.members xs)
        (grown : zs ≡ with_members C ys)
        (put : new ≡ es ++ record { members = e.members; rule = e.rule; next = e.next + 1 } ∷ []) where
      all : zs ≡ with_members C (take e.members xs)
      all = grown ∙ ap (with_members C) back

      kept : take e.members zs ≡ take e.members xs
      kept =
          ap (take e.members) all ∙ take-with_members e.members C (take e.members xs) (omega (arith, length-back))
          ∙ take-take e.members e.members xs (omega arith)

      longer : e.members ≤ length zs
      longer = omega (arith, length-back, length-with_members C (take e.members xs), ap length all)

      new_turned : reverse new ≡ record { members = e.members; rule = e.rule; next = e.next + 1 } ∷ reverse es
      new_turned = reverse-last es new _ put

      pub next_fine : are_fine T (length zs) (reverse new) ≡ true
      next_fine =
          ap (are_fine T (length zs)) new_turned
          ∙ and_from _ _ (and_from _ _ (le-leb e.members (length zs) longer) last_in_table) tail_fine

      pub next_left : C ≡ choice_at T t (signed_view e.rule) e.next
          → e.next < length (choices_of T t (signed_view e.rule))
          → duties_left T t xs (reverse old) ≡ OfSet t (set_of zs) ∷ duties_left T t zs (reverse new)
      next_left chosen some =
          let cs = choices_of T t (signed_view e.rule) in
          ap (duties_left T t xs) turned
          ∙ ap (λ ds. choice_duties t (set_of (take e.members xs)) ds ++ duties_left T t (take e.members xs)
          (reverse es))
          (drop_more cs e.next [] some)
          ∙ ap₂ (λ S vs. OfSet t S ∷ (choice_duties t (set_of vs) (drop (e.next + 1) cs) ++ duties_left T t vs
          (reverse es)))
          (ap (λ D. add_all D (set_of (take e.members xs))) (sym chosen)
          ∙ sym (ap set_of all ∙ set-with_members C (take e.members xs)))
          (sym kept)
          ∙ ap (λ es. OfSet t (set_of zs) ∷ duties_left T t zs es) (sym new_turned)
