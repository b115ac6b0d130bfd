-- Goals by number, and alternatives with numbers in place of goals.
use Rattle.std.proofs.Common.{◌≡◌, ℕ, suc, ◌+◌, inl, inr, Bool, true, false, ◌&&◌, ◌||◌, cond, nat_le, List, [], ◌∷◌, ◌++◌, map, Option, Some, None, option_map, is_some, slice_get, refl, ap, ap₂, sym, ◌∙◌, subst}
use Rattle.std.proofs.lemmas.Bool.{and_parts, and_from}
use Rattle.documents.specs.Tests.{every, some}
use Rattle.goals.specs.Signed.{Signed, same_signed}
use Rattle.goal_laws.proofs.Signs.{same_signed-true, same_signed-itself}
use Rattle.list_laws.specs.In.{IsIn}
use Rattle.list_laws.proofs.Lists.{in_left, in_right}
use Rattle.alternatives.specs.Alternative as E
use Rattle.alternatives.specs.Alternative.{Placed, Filler, Alternative, named_by}
use Rattle.search.specs.Explored.{same_goal, number_in, is_listed}
use Rattle.search.specs.Rounds.{NumberedPlaced, Numbered, with_member, with_filler, number_members, number_fillers, with_members, numbered, rooms, is_met, test_or, by_number}
use Rattle.list_laws.proofs.Options.{is_some-suc}
use Rattle.std.proofs.Math.Bool.{and-false, or-false}

pub same_goal_true : (g h : List Signed) → same_goal g h ≡ true → g ≡ h
same_goal_true [] [] e = refl
same_goal_true [] (y ∷ h) e = cc
same_goal_true (x ∷ g) [] e = cc
same_goal_true (x ∷ g) (y ∷ h) e =
    let (a, b) = and_parts (same_signed x y) (same_goal g h) e in
    ap₂ (λ z zs. z ∷ zs) (same_signed-true x y a) (same_goal_true g h b)

pub same_goal_itself : (g : List Signed) → same_goal g g ≡ true
same_goal_itself [] = refl
same_goal_itself (x ∷ g) = and_from (same_signed x x) (same_goal g g) (same_signed-itself x) (same_goal_itself g)

-- the number of a goal is where it is
pub number_at : (gs : List (List Signed)) (g : List Signed) (n : ℕ) → number_in gs g ≡ Some n
    → slice_get gs n ≡ Some g
number_at [] g n e = cc
number_at (h ∷ gs) g n e = go (same_goal g h) refl e (number_at gs g) where
  later : (o : Option ℕ) → number_in gs g ≡ o → option_map suc o ≡ Some n
      → ((m : ℕ) → number_in gs g ≡ Some m → slice_get gs m ≡ Some g) → slice_get (h ∷ gs) n ≡ Some g
  later None p e more = cc
  later (Some m) p e more =
      subst (λ z. slice_get (h ∷ gs) z ≡ Some g) (inner (suc m) n (Some (suc m)) refl e) (more m p) where
        inner : (a b : ℕ) (o : Option ℕ) → o ≡ Some a → o ≡ Some b → a ≡ b
        inner a b o x y = cc

  here : (z : ℕ) → Some 0 ≡ Some n → same_goal g h ≡ true → slice_get (h ∷ gs) n ≡ Some g
  here z e p = subst (λ m. slice_get (h ∷ gs) m ≡ Some g) (inner 0 n (Some 0) refl e)
      (ap Some (sym (same_goal_true g h p))) where
        inner : (a b : ℕ) (o : Option ℕ) → o ≡ Some a → o ≡ Some b → a ≡ b
        inner a b o x y = cc

  go : (b : Bool) → same_goal g h ≡ b → cond b (Some 0) (option_map suc (number_in gs g)) ≡ Some n
      → ((m : ℕ) → number_in gs g ≡ Some m → slice_get gs m ≡ Some g) → slice_get (h ∷ gs) n ≡ Some g
  go true p e more = here 0 e p
  go false p e more = later (number_in gs g) refl e more

pub still_listed : (gs hs : List (List Signed)) (g : List Signed) → is_listed gs g ≡ true
    → is_listed (gs ++ hs) g ≡ true
still_listed [] hs g e = cc
still_listed (h ∷ gs) hs g e = go (same_goal g h) e (still_listed gs hs g) where
  go : (b : Bool) → is_some (cond b (Some 0) (option_map suc (number_in gs g))) ≡ true
      → (is_listed gs g ≡ true → is_listed (gs ++ hs) g ≡ true)
      → is_some (cond b (Some 0) (option_map suc (number_in (gs ++ hs) g))) ≡ true
  go true e more = refl
  go false e more = is_some-suc (number_in (gs ++ hs) g) ∙ more (sym (is_some-suc (number_in gs g)) ∙ e)

pub last_listed : (gs : List (List Signed)) (g : List Signed) → is_listed (gs ++ g ∷ []) g ≡ true
last_listed [] g = rw (same_goal_itself g) refl
last_listed (h ∷ gs) g = go (same_goal g h) (last_listed gs g) where
  go : (b : Bool) → is_listed (gs ++ g ∷ []) g ≡ true
      → is_some (cond b (Some 0) (option_map suc (number_in (gs ++ g ∷ []) g))) ≡ true
  go true e = refl
  go false e = is_some-suc (number_in (gs ++ g ∷ []) g) ∙ e

module _ (p : ℕ → Bool) (gs : List (List Signed)) where
  abbrev Can : List Signed → Bool
  Can g = by_number false p gs g

  members_none : (ms : List Placed) → number_members gs ms ≡ None → every (λ m. Can m.goal) ms ≡ false
  members_none [] e = cc
  members_none (m ∷ ms) e = go (number_in gs m.goal) (number_members gs ms) refl e (members_none ms) where
    go : (o : Option ℕ) (r : Option (List NumberedPlaced)) → number_members gs ms ≡ r → with_member m.slot o r ≡ None
        → (number_members gs ms ≡ None → every (λ m. Can m.goal) ms ≡ false)
        → (test_or false p o && every (λ m. Can m.goal) ms) ≡ false
    go None r q e more = refl
    go (Some n) None q e more = ap (λ b. p n && b) (more q) ∙ and-false (p n)
    go (Some n) (Some ns) q e more = cc

  members_some : (ms : List Placed) (ns : List NumberedPlaced) → number_members gs ms ≡ Some ns
      → every (λ m. p m.goal) ns ≡ every (λ m. Can m.goal) ms
  members_some [] ns e = subst (λ z. every (λ m. p m.goal) z ≡ true) (inner [] ns (Some []) refl e) refl where
    inner : (a b : List NumberedPlaced) (o : Option (List NumberedPlaced)) → o ≡ Some a → o ≡ Some b → a ≡ b
    inner a b o x y = cc
  members_some (m ∷ ms) ns e = go (number_in gs m.goal) (number_members gs ms) refl e (members_some ms) where
    inner : (a b : List NumberedPlaced) (o : Option (List NumberedPlaced)) → o ≡ Some a → o ≡ Some b → a ≡ b
    inner a b o x y = cc

    go : (o : Option ℕ) (r : Option (List NumberedPlaced)) → number_members gs ms ≡ r
        → with_member m.slot o r ≡ Some ns
        → ((ns : List NumberedPlaced) → number_members gs ms ≡ Some ns
        → every (λ m. p m.goal) ns ≡ every (λ m. Can m.goal) ms)
        → every (λ m. p m.goal) ns ≡ (test_or false p o && every (λ m. Can m.goal) ms)
    go None r q e more = cc
    go (Some n) None q e more = cc
    go (Some n) (Some rs) q e more =
        subst (λ z. every (λ m. p m.goal) z ≡ (p n && every (λ m. Can m.goal) ms))
        (inner (record { slot = m.slot; goal = n } ∷ rs) ns (with_member m.slot (Some n) (Some rs)) refl e)
        (ap (λ b. p n && b) (more rs q))

  rooms_same : (fs : List Filler) → rooms p (number_fillers gs fs) ≡ E.rooms (λ g. by_number false p gs g) fs
  rooms_same [] = refl
  rooms_same (f ∷ fs) = go (number_in gs f.goal) (rooms_same fs) where
    go : (o : Option ℕ) → rooms p (number_fillers gs fs) ≡ E.rooms (λ g. by_number false p gs g) fs
        → rooms p (with_filler f.slot f.room o (number_fillers gs fs)) ≡ cond (test_or false p o)
        (f.room + E.rooms (λ g. by_number false p gs g) fs) (E.rooms (λ g. by_number false p gs g) fs)
    go None e = e
    go (Some n) e = ap (λ r. cond (p n) (f.room + r) r) e

  pub one_met : (a : Alternative)
      → some (is_met p) (with_members gs a (number_members gs a.members)) ≡ E.is_met (λ g. by_number false p gs g) a
  one_met a = go (number_members gs a.members) refl where
    go : (o : Option (List NumberedPlaced)) → number_members gs a.members ≡ o
        → some (is_met p) (with_members gs a o) ≡ E.is_met (λ g. by_number false p gs g) a
    go None e = sym
        (ap (λ b. b && nat_le a.need (E.rooms (λ g. by_number false p gs g) a.fillers)) (members_none a.members e))
    go (Some ns) e =
        or-false (every (λ m. p m.goal) ns && nat_le a.need (rooms p (number_fillers gs a.fillers)))
        ∙ ap₂ (λ b r. b && nat_le a.need r) (members_some a.members ns e) (rooms_same a.fillers)

  some_append : (xs ys : List Numbered) → some (is_met p) (xs ++ ys) ≡ (some (is_met p) xs || some (is_met p) ys)
  some_append [] ys = refl
  some_append (x ∷ xs) ys = go (is_met p x) (some_append xs ys) where
    go : (b : Bool) → some (is_met p) (xs ++ ys) ≡ (some (is_met p) xs || some (is_met p) ys)
        → (b || some (is_met p) (xs ++ ys)) ≡ ((b || some (is_met p) xs) || some (is_met p) ys)
    go true e = refl
    go false e = e

  -- numbers in place of goals change nothing
  pub numbered_met : (bs : List Alternative)
      → some (is_met p) (numbered gs bs) ≡ some (E.is_met (λ g. by_number false p gs g)) bs
  numbered_met [] = refl
  numbered_met (a ∷ bs) =
      some_append (with_members gs a (number_members gs a.members)) (numbered gs bs)
      ∙ ap₂ (λ x y. x || y) (one_met a) (numbered_met bs)

-- tests that agree on what an alternative names
module _ (can con : List Signed → Bool) where
  every_agree : (ms : List Placed) → ((g : List Signed) → IsIn g (map (λ m. m.goal) ms) → can g ≡ con g)
      → every (λ m. can m.goal) ms ≡ every (λ m. con m.goal) ms
  every_agree [] h = refl
  every_agree (m ∷ ms) h = ap₂ (λ x y. x && y) (h m.goal (inl refl)) (every_agree ms (λ g i. h g (inr i)))

  rooms_agree : (fs : List Filler) → ((g : List Signed) → IsIn g (map (λ f. f.goal) fs) → can g ≡ con g)
      → E.rooms can fs ≡ E.rooms con fs
  rooms_agree [] h = refl
  rooms_agree (f ∷ fs) h =
      ap₂ (λ b r. cond b (f.room + r) r) (h f.goal (inl refl)) (rooms_agree fs (λ g i. h g (inr i)))

  pub met_agree : (a : Alternative) → ((g : List Signed) → IsIn g (named_by a) → can g ≡ con g)
      → E.is_met can a ≡ E.is_met con a
  met_agree a h = ap₂ (λ b r. b && nat_le a.need r)
      (every_agree a.members (λ g i. h g (in_left g (map (λ m. m.goal) a.members) (map (λ f. f.goal) a.fillers) i)))
      (rooms_agree a.fillers (λ g i. h g (in_right g (map (λ m. m.goal) a.members) (map (λ f. f.goal) a.fillers) i)))
