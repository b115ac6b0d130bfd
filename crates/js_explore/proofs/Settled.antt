-- A goal that was mentioned keeps its number, or stays without one; so do alternatives that name such goals.
use Rattle.std.proofs.Common.{◌≡◌, ℕ, suc, ◌≤◌, ◌<◌, ◌⊎◌, inl, inr, List, [], ◌∷◌, ◌++◌, map, length, Bool, true, false, cond, nat_le, nat_lt, Option, Some, None, option_map, is_some, slice_get, refl, ap, ap₂, sym, ◌∙◌, arith, length-append}
use Rattle.std.proofs.lemmas.Bool.{and_parts, and_from, or_cases, or_left, or_right, ltb-true, ltb-false, leb-true, le-leb}
use Rattle.documents.specs.Tests.{every}
use Rattle.goals.specs.Signed.{Signed}
use Rattle.alternatives.specs.Alternative.{Placed, Filler, Alternative, named_by, named}
use Rattle.alternatives.specs.Limit.{Goals}
use Rattle.alternatives.specs.Expansion.{first_limit}
use Rattle.search.specs.Explored.{Found, found, same_goal, number_in, is_listed, mention, mention_goals}
use Rattle.search.specs.Rounds.{with_member, with_filler, number_members, number_fillers, with_members, numbered}
use Rattle.search_laws.proofs.Numbers.{still_listed, last_listed}
use Rattle.js_explore.specs.Exploration.{is_settled}
use Rattle.list_laws.proofs.Options.{is_some-suc}
use Rattle.list_laws.proofs.Lists.{slice_get-append}

number_before : (gs hs : List (List Signed)) (g : List Signed) → is_listed gs g ≡ true
    → number_in (gs ++ hs) g ≡ number_in gs g
number_before [] hs g e = cc
number_before (h ∷ gs) hs g e = go (same_goal g h) e (number_before gs hs g) where
  go : (b : Bool) → is_some (cond b (Some 0) (option_map suc (number_in gs g))) ≡ true
      → (is_listed gs g ≡ true → number_in (gs ++ hs) g ≡ number_in gs g)
      → cond b (Some 0) (option_map suc (number_in (gs ++ hs) g)) ≡ cond b (Some 0) (option_map suc (number_in gs g))
  go true e more = refl
  go false e more = ap (option_map suc) (more (sym (is_some-suc (number_in gs g)) ∙ e))

every_left : {A : Type 0} (p : A → Bool) (xs ys : List A) → every p (xs ++ ys) ≡ true → every p xs ≡ true
every_left p [] ys e = refl
every_left p (x ∷ xs) ys e =
    let (a, b) = and_parts (p x) (every p (xs ++ ys)) e in and_from _ _ a (every_left p xs ys b)

every_right : {A : Type 0} (p : A → Bool) (xs ys : List A) → every p (xs ++ ys) ≡ true → every p ys ≡ true
every_right p [] ys e = e
every_right p (x ∷ xs) ys e = every_right p xs ys (and_parts (p x) (every p (xs ++ ys)) e).1

module _ (most : ℕ) where
  -- what further mentions keep
  pub record Keeps (gs hs : List (List Signed)) : Type 0 where
    pub number : (g : List Signed) → is_settled most gs g ≡ true → number_in hs g ≡ number_in gs g
    pub settled : (g : List Signed) → is_settled most gs g ≡ true → is_settled most hs g ≡ true
    pub same : (n : ℕ) → n < length gs → slice_get hs n ≡ slice_get gs n
    pub longer : length gs ≤ length hs

  keeps_same : (gs : List (List Signed)) → Keeps gs gs
  keeps_same gs = record {
    number = λ g e. refl;
    settled = λ g e. e;
    same = λ n l. refl;
    longer = omega arith;
  }

  keeps_both : (gs hs ks : List (List Signed)) → Keeps gs hs → Keeps hs ks → Keeps gs ks
  keeps_both gs hs ks a b = record {
    number = λ g e. b.number g (a.settled g e) ∙ a.number g e;
    settled = λ g e. b.settled g (a.settled g e);
    same = λ n l. b.same n (omega (arith, l, a.longer)) ∙ a.same n l;
    longer = omega (arith, a.longer, b.longer);
  }

  keeps_push : (gs : List (List Signed)) (h : List Signed) → length gs < most → Keeps gs (gs ++ h ∷ [])
  keeps_push gs h l = record {
    number = λ g e. number_before gs (h ∷ []) g (listed g e);
    settled = λ g e. or_left (is_listed (gs ++ h ∷ []) g) (nat_le most (length (gs ++ h ∷ [])))
        (still_listed gs (h ∷ []) g (listed g e));
    same = λ n k. slice_get-append gs (h ∷ []) n k;
    longer = omega (arith, length-append gs (h ∷ []));
  } where
    listed : (g : List Signed) → is_settled most gs g ≡ true → is_listed gs g ≡ true
    listed g e = go (or_cases (is_listed gs g) (nat_le most (length gs)) e) where
      go : (is_listed gs g ≡ true) ⊎ (nat_le most (length gs) ≡ true) → is_listed gs g ≡ true
      go (inl f) = f
      go (inr f) = absurd (omega (arith, l, leb-true most (length gs) f))

  keeps_mention : (s : Found) (g : List Signed) → Keeps s.goals (mention most s g).goals
  keeps_mention s g = go (is_listed s.goals g) (nat_lt (length s.goals) most) refl where
    go : (a b : Bool) → nat_lt (length s.goals) most ≡ b
        → Keeps s.goals (cond a s (cond b (found (s.goals ++ g ∷ []) s.taken s.places s.over)
        (found s.goals s.taken s.places (first_limit s.over Goals)))).goals
    go true b e = keeps_same s.goals
    go false true e = keeps_push s.goals g (ltb-true (length s.goals) most e)
    go false false e = keeps_same s.goals

  -- mentioning a list of goals keeps the numbers of those that are there
  pub keeps_all : (s : Found) (xs : List (List Signed)) → Keeps s.goals (mention_goals most s xs).goals
  keeps_all s [] = keeps_same s.goals
  keeps_all s (x ∷ xs) =
      keeps_both s.goals (mention most s x).goals (mention_goals most s (x ∷ xs)).goals (keeps_mention s x)
      (keeps_all (mention most s x) xs)

  settles : (s : Found) (g : List Signed) → is_settled most (mention most s g).goals g ≡ true
  settles s g = go (is_listed s.goals g) (nat_lt (length s.goals) most) refl refl where
    go : (a b : Bool) → is_listed s.goals g ≡ a → nat_lt (length s.goals) most ≡ b
        → is_settled most (cond a s (cond b (found (s.goals ++ g ∷ []) s.taken s.places s.over)
        (found s.goals s.taken s.places (first_limit s.over Goals)))).goals g ≡ true
    go true b e f = or_left (is_listed s.goals g) (nat_le most (length s.goals)) e
    go false true e f =
        or_left (is_listed (s.goals ++ g ∷ []) g) (nat_le most (length (s.goals ++ g ∷ []))) (last_listed s.goals g)
    go false false e f =
        or_right (is_listed s.goals g) (nat_le most (length s.goals))
        (le-leb most (length s.goals) (ltb-false (length s.goals) most f))

  pub settles_all : (s : Found) (xs : List (List Signed))
      → every (is_settled most (mention_goals most s xs).goals) xs ≡ true
  settles_all s [] = refl
  settles_all s (x ∷ xs) =
      let k = keeps_all (mention most s x) xs in
      and_from _ _ (k.settled x (settles s x)) (settles_all (mention most s x) xs)

  pub every_settled : (gs hs xs : List (List Signed)) → Keeps gs hs → every (is_settled most gs) xs ≡ true
      → every (is_settled most hs) xs ≡ true
  every_settled gs hs [] k e = refl
  every_settled gs hs (x ∷ xs) k e =
      let (a, b) = and_parts (is_settled most gs x) (every (is_settled most gs) xs) e in
      and_from _ _ (k.settled x a) (every_settled gs hs xs k b)

  members_kept : (gs hs : List (List Signed)) (ms : List Placed) → Keeps gs hs
      → every (is_settled most gs) (map (λ m. m.goal) ms) ≡ true → number_members hs ms ≡ number_members gs ms
  members_kept gs hs [] k e = refl
  members_kept gs hs (m ∷ ms) k e =
      let (a, b) = and_parts (is_settled most gs m.goal) (every (is_settled most gs) (map (λ m. m.goal) ms)) e in
      ap₂ (with_member m.slot) (k.number m.goal a) (members_kept gs hs ms k b)

  fillers_kept : (gs hs : List (List Signed)) (fs : List Filler) → Keeps gs hs
      → every (is_settled most gs) (map (λ f. f.goal) fs) ≡ true → number_fillers hs fs ≡ number_fillers gs fs
  fillers_kept gs hs [] k e = refl
  fillers_kept gs hs (f ∷ fs) k e =
      let (a, b) = and_parts (is_settled most gs f.goal) (every (is_settled most gs) (map (λ f. f.goal) fs)) e in
      ap₂ (with_filler f.slot f.room) (k.number f.goal a) (fillers_kept gs hs fs k b)

  one_kept : (gs hs : List (List Signed)) (a : Alternative) → Keeps gs hs
      → every (is_settled most gs) (named_by a) ≡ true
      → with_members hs a (number_members hs a.members) ≡ with_members gs a (number_members gs a.members)
  one_kept gs hs a k e =
      ap (with_members hs a) (members_kept gs hs a.members k
      (every_left (is_settled most gs) (map (λ m. m.goal) a.members) (map (λ f. f.goal) a.fillers) e))
      ∙ go (number_members gs a.members) where
        go : (o : Option _) → with_members hs a o ≡ with_members gs a o
        go None = refl
        go (Some ms) = ap (λ fs. record {
          kind = a.kind;
          branch = a.branch;
          shape = a.shape;
          members = ms;
          need = a.need;
          fillers = fs;
        } ∷ []) (fillers_kept gs hs a.fillers k
            (every_right (is_settled most gs) (map (λ m. m.goal) a.members) (map (λ f. f.goal) a.fillers) e))

  pub numbered_kept : (gs hs : List (List Signed)) (bs : List Alternative) → Keeps gs hs
      → every (is_settled most gs) (named bs) ≡ true → numbered hs bs ≡ numbered gs bs
  numbered_kept gs hs [] k e = refl
  numbered_kept gs hs (b ∷ bs) k e =
      ap₂ (λ xs ys. xs ++ ys) (one_kept gs hs b k (every_left (is_settled most gs) (named_by b) (named bs) e))
      (numbered_kept gs hs bs k (every_right (is_settled most gs) (named_by b) (named bs) e))
