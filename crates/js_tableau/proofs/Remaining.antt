-- The sets that are still to be visited, as choices of rules share the members of the walk.
use Rattle.std.proofs.Common.{◌≡◌, ℕ, zero, suc, ◌+◌, ◌<◌, ◌≤◌, ⊎_elim, true, ◌||◌, List, [], ◌∷◌, ◌++◌, map, flat_map, take, drop, length, get_or, reverse, Option, Some, None, refl, arith, ap, ap₂, sym, ◌∙◌, subst, drop-cons}
use Rattle.std.proofs.lemmas.Bool.{and_parts, and_from, or_left, or_right, or_cases, ltb-true}
use Rattle.std.proofs.lemmas.List.{length-reverse, length-take-le}
use Rattle.std.proofs.lemmas.List.Concat.{flat_map-append}
use Rattle.documents.specs.Tests.{every, some}
use Rattle.documents.specs.Kind.{Kind}
use Rattle.positions.specs.Position.{Position, is_table}
use Rattle.goal_laws.proofs.Signs.{has-every, add_all-itself, same_signed-true}
use Rattle.goals.specs.Signed as G
use Rattle.goals.specs.Signed.{add_all, has, same_signed, position_of, is_rising}
use Rattle.goals.specs.Choices.{choices}
use Rattle.goals.specs.Tree as T
use Rattle.goals.specs.Tree.{steps, ends, next, choice_list, has_choice}
use Rattle.js_algebra.specs.View.{signed_view, is_in_table, are_in_table}
use Rattle.js_algebra.specs.declared.signed.Signed.{Signed}
use Rattle.js_algebra.specs.SignedSets.{set_of, with_members}
use Rattle.js_tableau.specs.Walks.{is_clean, are_settled, are_settled_but, step_view, Follows, Extends}
use Rattle.js_tableau.specs.Branches.{most_ends}
use Rattle.js_tableau.specs.Progress.{choice_of, sets, steps_left, IsFine, AreFine, entries, steps_at_hand, Matches, IsCounted, Visits, is_end, one_more, choice_count}
use Rattle.js_tableau.specs.declared.visits.Pending.{Pending}
use Rattle.js_tableau.specs.declared.walk.Step.{Step}
use Rattle.js_tableau.specs.declared.walk.Step.TheVariants as V
use Rattle.js_algebra.proofs.Grown.{take-with_members, length-with_members, set-with_members, has-with_members}
use Rattle.std.proofs.lemmas.List.{take_all}
use Rattle.js_tableau.proofs.Unfolded.{ends-append, next_sets, steps-set, sets-ends, next-ends}
use Rattle.js_tableau.proofs.Counting.{counts, leaves}
use Rattle.list_laws.proofs.Lists.{reverse-last}

take-take : {A : Type 0} (k : ℕ) (xs : List A) → take k (take k xs) ≡ take k xs
take-take zero xs = refl
take-take (suc k) [] = refl
take-take (suc k) (x ∷ xs) = ap (λ ys. x ∷ ys) (take-take k xs)

module _ (P : List Position) (t : Kind) where
  abbrev choices_of : Signed → List (List G.Signed)
  choices_of x = choice_list (choices P t (signed_view x))

  -- later members don't change the sets
  pub sets-same : (es : List Pending) (xs zs : List G.Signed) (ys : List Signed) → AreFine P t xs ys es
      → ((k : ℕ) → k ≤ length xs → take k zs ≡ take k xs)
      → sets P t zs es ≡ sets P t xs es
  sets-same [] xs zs ys f e = refl
  sets-same (e ∷ es) xs zs ys f same =
      ap (λ ws. add_all (choice_of P t e) (set_of ws) ∷ sets P t ws es) (same e.members f.0.members_in)

  pub fine-same : (es : List Pending) (xs zs : List G.Signed) (ys us : List Signed) → AreFine P t xs ys es
      → length xs ≤ length zs → ((k : ℕ) → k ≤ length xs → take k zs ≡ take k xs)
      → length ys ≤ length us → ((k : ℕ) → k ≤ length ys → take k us ≡ take k ys) → AreFine P t zs us es
  fine-same [] xs zs ys us f l same m more = tt
  fine-same (e ∷ es) xs zs ys us f l same m more =
      let a = same e.members f.0.members_in in
      let b = more e.settled f.0.settled_in in (
        record {
          members_in = omega (arith, f.0.members_in, l);
          settled_in = omega (arith, f.0.settled_in, m);
          rule_in_table = f.0.rule_in_table;
          index_in = f.0.index_in;
          clean = subst (λ ws. is_clean P t ws ≡ true) (sym a) f.0.clean;
          settles =
              (let P1 : List G.Signed → List Signed
              → Type 0 = λ ws vs. are_settled P t (with_members (choice_of P t e) ws) (map signed_view vs) ≡ true in
              subst (λ ws. P1 ws (take e.settled us)) (sym a)
              (subst (λ vs. P1 (take e.members xs) vs) (sym b) f.0.settles));
        },
        subst (λ ws. AreFine P t ws (take e.settled us) es) (sym a)
            (subst (λ vs. AreFine P t (take e.members xs) vs es) (sym b) f.1),
      )

  -- the sets of the choices of a rule from one on
  pub sets-entries : (xs : List G.Signed) (s : ℕ) (x : Signed) (es : List Pending) (i n : ℕ)
      → i + n ≡ length (choices_of x)
      → sets P t xs (entries (length xs) s x i n ++ es) ≡ map (λ C. add_all C (set_of xs)) (drop i (choices_of x))
      ++ sets P t xs es
  sets-entries xs s x es i zero e = ap (λ cs. map (λ C. add_all C (set_of xs)) cs ++ sets P t xs es)
      (sym (nothing_left (choices_of x) i (omega (arith, e)))) where
        nothing_left : (cs : List (List G.Signed)) (i : ℕ) → length cs ≤ i → drop i cs ≡ []
        nothing_left [] zero l = refl
        nothing_left [] (suc i) l = refl
        nothing_left (C ∷ cs) zero l = absurd (omega (arith, l))
        nothing_left (C ∷ cs) (suc i) l = nothing_left cs i (omega (arith, l))
  sets-entries xs s x es i (suc n) e =
      ap (λ ws. add_all (get_or (choices_of x) i []) (set_of ws)
      ∷ sets P t ws (entries (length xs) s x (suc i) n ++ es)) (take_all (length xs) xs (omega arith))
      ∙ ap (λ Ss. add_all (get_or (choices_of x) i []) (set_of xs) ∷ Ss)
      (sets-entries xs s x es (suc i) n (omega (arith, e)))
      ∙ ap (λ cs. map (λ C. add_all C (set_of xs)) cs ++ sets P t xs es)
      (sym (drop-cons (choices_of x) i [] (omega (arith, e))))

  -- what has a choice in a set has it in a larger one
  has_choice-more : (S R : List G.Signed) → ((z : G.Signed) → has z S ≡ true → has z R ≡ true)
      → (o : Option (List (List G.Signed))) → has_choice S o ≡ true → has_choice R o ≡ true
  has_choice-more S R more None e = refl
  has_choice-more S R more (Some cs) e = each cs e where
    all : (C : List G.Signed) → every (λ x. has x S) C ≡ true → every (λ x. has x R) C ≡ true
    all [] e = refl
    all (x ∷ C) e = let (a, b) = and_parts (has x S) (every (λ y. has y S) C) e in and_from _ _ (more x a) (all C b)

    each : (cs : List (List G.Signed)) → some (λ C. every (λ x. has x S) C) cs ≡ true
        → some (λ C. every (λ x. has x R) C) cs ≡ true
    each [] e = e
    each (C ∷ cs) e = ⊎_elim (λ a. or_left _ (some (λ D. every (λ x. has x R) D) cs) (all C a))
        (λ b. or_right (every (λ x. has x R) C) _ (each cs b)) (or_cases _ _ e)

  chosen : (xs : List G.Signed) (o : Option (List (List G.Signed))) (i : ℕ) → i < length (choice_list o)
      → has_choice (with_members (get_or (choice_list o) i []) xs) o ≡ true
  chosen xs None i l = refl
  chosen xs (Some cs) i l = at cs i l where
    self : (C : List G.Signed) → every (λ x. has x (with_members C xs)) C ≡ true
    self C = has-every _ C (λ x h. has-with_members x C xs ∙ or_left (has x C) (has x xs) h)

    at : (cs : List (List G.Signed)) (i : ℕ) → i < length cs
        → some (λ C. every (λ x. has x (with_members (get_or cs i []) xs)) C) cs ≡ true
    at [] i l = absurd (omega (arith, l))
    at (C ∷ cs) zero l = or_left _ (some (λ D. every (λ x. has x (with_members C xs)) D) cs) (self C)
    at (C ∷ cs) (suc i) l = or_right (every (λ x. has x (with_members (get_or cs i []) xs)) C) _
        (at cs i (omega (arith, l)))

  settles_choice : (xs : List G.Signed) (x : Signed) (i : ℕ) (ys : List G.Signed) → i < length (choices_of x)
      → are_settled_but P t xs (signed_view x) ys ≡ true
      → are_settled P t (with_members (get_or (choices_of x) i []) xs) ys ≡ true
  settles_choice xs x i [] l e = refl
  settles_choice xs x i (y ∷ ys) l e =
      let (a, b) = and_parts (has_choice xs (choices P t y) || same_signed y (signed_view x))
      (are_settled_but P t xs (signed_view x) ys) e in
      and_from _ _
      (⊎_elim
      (λ h. has_choice-more xs (with_members (get_or (choices_of x) i []) xs)
      (λ z m. has-with_members z (get_or (choices_of x) i []) xs
      ∙ or_right (has z (get_or (choices_of x) i [])) (has z xs) m) (choices P t y) h)
      (λ s. subst (λ z. has_choice (with_members (get_or (choices_of x) i []) xs) (choices P t z) ≡ true)
      (sym (same_signed-true y (signed_view x) s)) (chosen xs (choices P t (signed_view x)) i l))
      (or_cases (has_choice xs (choices P t y)) (same_signed y (signed_view x)) a))
      (settles_choice xs x i ys l b)

  pub fine-entries : (xs : List G.Signed) (ys : List Signed) (x : Signed) (es : List Pending) (i n : ℕ)
      → i + n ≡ length (choices_of x)
      → is_in_table P (signed_view x) ≡ true → is_clean P t xs ≡ true
      → are_settled_but P t xs (signed_view x) (map signed_view ys) ≡ true → AreFine P t xs ys es
      → AreFine P t xs ys (entries (length xs) (length ys) x i n ++ es)
  fine-entries xs ys x es i zero e r c s f = f
  fine-entries xs ys x es i (suc n) e r c s f =
      let a = take_all (length xs) xs (omega arith) in
      let b = take_all (length ys) ys (omega arith) in (
        record {
          members_in = omega arith;
          settled_in = omega arith;
          rule_in_table = r;
          index_in = omega (arith, e);
          clean = subst (λ ws. is_clean P t ws ≡ true) (sym a) c;
          settles =
              (let Q : List G.Signed → List Signed → Type 0 = λ ws vs.
              are_settled P t (with_members (get_or (choices_of x) i []) ws) (map signed_view vs) ≡ true in
              subst (λ ws. Q ws (take (length ys) ys)) (sym a)
              (subst (λ vs. Q xs vs) (sym b) (settles_choice xs x i (map signed_view ys) (omega (arith, e)) s)));
        },
        subst (λ ws. AreFine P t ws (take (length ys) ys) (entries (length xs) (length ys) x (suc i) n ++ es)) (sym a)
            (subst (λ vs. AreFine P t xs vs (entries (length xs) (length ys) x (suc i) n ++ es)) (sym b)
            (fine-entries xs ys x es (suc i) n (omega (arith, e)) r c s f)),
      )

  length-sets : (xs : List G.Signed) (es : List Pending) → length (sets P t xs es) ≡ length es
  length-sets xs [] = refl
  length-sets xs (e ∷ es) = ap suc (length-sets (take e.members xs) es)

  -- the step of the program stands for that of the tree
  pub matches : (xs : List G.Signed) (ys : List G.Signed) (s : Step)
      → step_view P t (set_of xs) s ≡ next P t (set_of xs) → Follows P t xs ys s → Matches s (next P t (set_of xs))
  matches xs ys (V.Clash x) e f = sym e
  matches xs ys (V.Wrong x) e f = sym e
  matches xs ys (V.Rule x n) e f = (choices_of x, sym e, f.1)
  matches xs ys V.Saturated e f = (set_of xs, sym e)

  pub counted : (xs ys : List G.Signed) (s : Step) → Follows P t xs ys s → IsCounted P t s
  counted xs ys (V.Clash x) f = tt
  counted xs ys (V.Wrong x) f = tt
  counted xs ys (V.Rule x n) f = f.1
  counted xs ys V.Saturated f = tt

  module _ (ranks : List ℕ) (table : is_table P ranks ≡ true) where
    -- the sets that are left have an end each
    left_ends : (xs : List G.Signed) (ys : List Signed) (es : List Pending) → AreFine P t xs ys es
        → length es ≤ ends (flat_map (steps P t) (sets P t xs es))
    left_ends xs ys [] f = omega arith
    left_ends xs ys (e ∷ es) f =
        omega (
          arith,
          sets-ends P t ranks table (omega (arith, ltb-true _ (length P) f.0.rule_in_table))
              (sets P t xs (e ∷ es)),
          length-sets xs (e ∷ es),
        )

    -- all that is left, with the step at hand first
    abbrev rest : List G.Signed → List Pending → List T.Step
    rest xs es = flat_map (steps P t) (next_sets (set_of xs) (next P t (set_of xs)))
        ++ flat_map (steps P t) (sets P t xs es)

    pub all_left : (xs : List G.Signed) (es : List Pending) → are_in_table P xs ≡ true
        → steps P t (set_of xs) ++ flat_map (steps P t) (sets P t xs es) ≡ next P t (set_of xs) ∷ rest xs es
    all_left xs es e = ap (λ ss. ss ++ flat_map (steps P t) (sets P t xs es)) (steps-set P t ranks table xs e)

    -- the steps that are left after a rule
    pub left-rule : (xs : List G.Signed) (s : ℕ) (x : Signed) (n : ℕ) (es es' : List Pending)
        → T.Rule (signed_view x) (choices_of x) ≡ next P t (set_of xs)
        → n ≡ length (choices_of x) → reverse es' ≡ entries (length xs) s x 0 n ++ reverse es
        → steps_left P t xs es' ≡ rest xs (reverse es)
    left-rule xs s x n es es' e l r =
        ap (λ fs. flat_map (steps P t) (sets P t xs fs)) r
        ∙ ap (flat_map (steps P t)) (sets-entries xs s x (reverse es) 0 n (omega (arith, l)))
        ∙ flat_map-append (steps P t) (map (λ C. add_all C (set_of xs)) (choices_of x)) (sets P t xs (reverse es))
        ∙ ap (λ st. flat_map (steps P t) (next_sets (set_of xs) st) ++ flat_map (steps P t) (sets P t xs (reverse es)))
        e

    -- what is left after a step that is an end
    pub left-end : (xs : List G.Signed) (s : Step) (es : List Pending) → ((x : Signed) (n : ℕ) → s ≡ V.Rule x n → ⊥)
        → Matches s (next P t (set_of xs))
        → steps_left P t xs es ≡ rest xs (reverse es)
    left-end xs s es never m = ap (λ Ss. flat_map (steps P t) Ss ++ flat_map (steps P t) (sets P t xs (reverse es)))
        (sym (none s never m)) where
          none : (s : Step) → ((x : Signed) (n : ℕ) → s ≡ V.Rule x n → ⊥) → Matches s (next P t (set_of xs))
              → next_sets (set_of xs) (next P t (set_of xs)) ≡ []
          none (V.Clash x) never m = ap (next_sets (set_of xs)) m
          none (V.Wrong x) never m = ap (next_sets (set_of xs)) m
          none (V.Rule x n) never m = absurd (never x n refl)
          none V.Saturated never (S, m) = ap (next_sets (set_of xs)) m

    -- the ends that are given and left after a step
    pub visits : (xs : List G.Signed) (s : Step) (es es' : List Pending) (n n' : ℕ) → are_in_table P xs ≡ true
        → step_view P t (set_of xs) s ≡ next P t (set_of xs) → Matches s (next P t (set_of xs)) → IsCounted P t s
        → n' ≡ one_more (is_end s) n → steps_left P t xs es' ≡ rest xs (reverse es)
        → n' + length es' ≤ most_ends → Visits P t xs es es' n n' s
    visits xs s es es' n n' e v m c a l k = record {
      tells =
          all_left xs (reverse es) e
          ∙ ap₂ (λ st ss. st ∷ ss) (sym v) (sym l);
      counts =
          ap₂ (λ j ss. j + ends ss) a l
          ∙ counts s (next P t (set_of xs)) n (rest xs (reverse es)) m
          ∙ ap (λ ss. n + ends ss) (sym (all_left xs (reverse es) e));
      few = k;
      counted = c;
    }

    -- too many ends
    pub over : (xs : List G.Signed) (ys : List Signed) (s : Step) (es : List Pending) (n n' : ℕ)
        → are_in_table P xs ≡ true → Matches s (next P t (set_of xs))
        → AreFine P t xs ys (reverse es) → n' ≡ one_more (is_end s) n → most_ends < n' + length es + choice_count s
        → most_ends < n + ends (steps P t (set_of xs) ++ steps_left P t xs es)
    over xs ys s es n n' e m f a k =
        let nx = next P t (set_of xs) in
        let r = rest xs (reverse es) in
        let all : n + ends (steps P t (set_of xs) ++ steps_left P t xs es) ≡ n' + ends r =
        ap (λ ss. n + ends ss) (all_left xs (reverse es) e) ∙ sym (counts s nx n r m) ∙ ap (λ j. j + ends r) (sym a) in
        let l1 = ends-append (flat_map (steps P t) (next_sets (set_of xs) nx))
        (flat_map (steps P t) (sets P t xs (reverse es))) in
        let l2 = next-ends P t ranks table xs e in
        let l3 = left_ends xs ys (reverse es) f in
        omega (arith, all, l1, l2, l3, leaves s nx (set_of xs) m, length-reverse es, k)

  -- the set that is visited next
  module _ (xs : List G.Signed) (ys : List Signed) (es old : List Pending) (e : Pending) (popped : old ≡ es ++ e ∷ [])
      (fine : AreFine P t xs ys (reverse old)) where
    turned : reverse old ≡ e ∷ reverse es
    turned = reverse-last es old e popped

    pub both_fine : IsFine P t xs ys e × AreFine P t (take e.members xs) (take e.settled ys) (reverse es)
    both_fine = subst (λ fs. AreFine P t xs ys fs) turned fine

    abbrev now : List G.Signed
    now = with_members (choice_of P t e) (take e.members xs)

    length-first : length (take e.members xs) ≡ e.members
    length-first = length-take-le e.members xs both_fine.0.members_in

    pub next_fine : AreFine P t now (take e.settled ys) (reverse es)
    next_fine =
        fine-same (reverse es) (take e.members xs) now (take e.settled ys) (take e.settled ys) both_fine.1
        (length-with_members (choice_of P t e) (take e.members xs))
        (λ k l. take-with_members k (choice_of P t e) (take e.members xs) l) (omega arith) (λ k l. refl)

    pub next_clean : is_clean P t (take e.members now) ≡ true
    next_clean =
        subst (λ zs. is_clean P t zs ≡ true)
        (sym (take-with_members e.members (choice_of P t e) (take e.members xs) (omega (arith, length-first))
        ∙ take-take e.members xs)) both_fine.0.clean

    pub resumed : steps P t (set_of now) ++ steps_left P t now es ≡ steps_left P t xs old
    resumed =
        ap₂ (λ S Ss. steps P t S ++ flat_map (steps P t) Ss) (set-with_members (choice_of P t e) (take e.members xs))
        (sets-same (reverse es) (take e.members xs) now (take e.settled ys) both_fine.1
        (λ k l. take-with_members k (choice_of P t e) (take e.members xs) l))
        ∙ ap (λ fs. flat_map (steps P t) (sets P t xs fs)) (sym turned)

    pub fewer_sets : length old ≡ suc (length es)
    fewer_sets = sym (length-reverse old) ∙ ap length turned ∙ ap suc (length-reverse es)

  pub fewer-entries : (xs : List G.Signed) (s : ℕ) (x : Signed) (n : ℕ) (es es' : List Pending)
      → reverse es' ≡ entries (length xs) s x 0 n ++ reverse es
      → length es' ≡ n + length es
  fewer-entries xs s x n es es' r = sym (length-reverse es') ∙ ap length r ∙ count (length xs) s x 0 n (reverse es)
      ∙ ap (λ k. n + k) (length-reverse es) where
        count : (m s : ℕ) (x : Signed) (i n : ℕ) (es : List Pending) → length (entries m s x i n ++ es) ≡ n + length es
        count m s x i zero es = omega arith
        count m s x i (suc n) es = omega (arith, count m s x (suc i) n es)

take-within : {A : Type 0} (k n : ℕ) (xs : List A) → k ≤ n → take k (take n xs) ≡ take k xs
take-within zero n xs l = refl
take-within (suc k) zero xs l = absurd (omega (arith, l))
take-within (suc k) (suc n) [] l = refl
take-within (suc k) (suc n) (x ∷ xs) l = ap (λ ys. x ∷ ys) (take-within k n xs (omega (arith, l)))

pub extends-take : {A : Type 0} (xs ys : List A) → Extends xs ys → (k : ℕ) → k ≤ length xs → take k ys ≡ take k xs
extends-take xs ys e k l = sym (take-within k (length xs) ys l) ∙ ap (take k) e.1

-- the set that a walk begins with is the goal
pub first_set : (g ms : List G.Signed) → is_rising g ≡ true → ms ≡ with_members g [] → set_of ms ≡ g
first_set g ms r e = ap set_of e ∙ set-with_members g [] ∙ add_all-itself g r

no_more : {A : Type 0} (xs : List A) → xs ++ [] ≡ xs
no_more [] = refl
no_more (x ∷ xs) = ap (λ ys. x ∷ ys) (no_more xs)

-- the steps at first
pub first_left : (P : List Position) (t : Kind) (g ms : List G.Signed) (es : List Pending) → is_rising g ≡ true
    → ms ≡ with_members g [] → es ≡ [] → steps_at_hand P t ms es ≡ steps P t g
first_left P t g ms es r e none =
    ap (steps_at_hand P t ms) none ∙ no_more (steps P t (set_of ms)) ∙ ap (steps P t) (first_set g ms r e)
