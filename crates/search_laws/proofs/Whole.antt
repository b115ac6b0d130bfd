-- Where no limit was passed, each goal is taken and each goal that it names is listed.
use Rattle.std.proofs.Common.{◌≡◌, ℕ, zero, suc, ◌+◌, ◌≤◌, ◌<◌, ◌⊎◌, inl, inr, List, [], ◌∷◌, ◌++◌, length, Bool, true, false, cond, nat_lt, Option, Some, None, slice_get, refl, ap, sym, ◌∙◌, subst, arith, length-append}
use Rattle.std.proofs.lemmas.Bool.{and_parts, and_from, ltb-true}
use Rattle.std.proofs.lemmas.Option.{slice_get_past, slice_get_within, same_Some}
use Rattle.std.proofs.lemmas.List.{append-nil, append_assoc}
use Rattle.documents.specs.Tests.{every}
use Rattle.goals.specs.Signed.{Signed}
use Rattle.alternatives.specs.Alternative.{named, places}
use Rattle.alternatives.specs.Limit.{Goals, Total}
use Rattle.alternatives.specs.Expansion.{Expansion, first_limit}
use Rattle.search.specs.Explored.{Found, found, is_listed, mention, mention_goals, take_goal, step, after, explored}
use Rattle.search_laws.proofs.Numbers.{still_listed, last_listed}
use Rattle.list_laws.proofs.Lists.{slice_get-append}
use Rattle.expansion_laws.proofs.Kept.{first_some}
use Rattle.list_laws.proofs.Numbers.{below_suc}

pub record Longer (gs hs : List (List Signed)) : Type 0 where
  pub more : List (List Signed)
  pub is : hs ≡ gs ++ more

same_long : (gs : List (List Signed)) → Longer gs gs
same_long gs = record { more = []; is = sym (append-nil gs) }

longer_both : (gs hs ks : List (List Signed)) → Longer gs hs → Longer hs ks → Longer gs ks
longer_both gs hs ks a b =
    record { more = a.more ++ b.more; is = b.is ∙ ap (λ l. l ++ b.more) a.is ∙ append_assoc gs a.more b.more }

listed_on : (gs hs : List (List Signed)) (g : List Signed) → Longer gs hs → is_listed gs g ≡ true
    → is_listed hs g ≡ true
listed_on gs hs g a e = ap (λ l. is_listed l g) a.is ∙ still_listed gs a.more g e

all_still : (gs hs xs : List (List Signed)) → Longer gs hs → every (is_listed gs) xs ≡ true
    → every (is_listed hs) xs ≡ true
all_still gs hs [] a e = refl
all_still gs hs (x ∷ xs) a e =
    let (h, t) = and_parts (is_listed gs x) (every (is_listed gs) xs) e in
    and_from _ _ (listed_on gs hs x a h) (all_still gs hs xs a t)

none_past : {A : Type 0} (xs : List A) (i : ℕ) → slice_get xs i ≡ None → length xs ≤ i
none_past [] i e = omega arith
none_past (x ∷ xs) zero e = cc
none_past (x ∷ xs) (suc i) e = omega (arith, none_past xs i e)

module _ (most : ℕ) where
  pub mention_cases : (P : Found → Type 0) (s : Found) (g : List Signed) → P s
      → P (found (s.goals ++ g ∷ []) s.taken s.places s.over)
      → P (found s.goals s.taken s.places (first_limit s.over Goals)) → P (mention most s g)
  mention_cases P s g p q r = go (is_listed s.goals g) (nat_lt (length s.goals) most) where
    go : (a b : Bool)
        → P (cond a s
        (cond b (found (s.goals ++ g ∷ []) s.taken s.places s.over)
        (found s.goals s.taken s.places (first_limit s.over Goals))))
    go true b = p
    go false true = q
    go false false = r

  pub taken_kept : (s : Found) (xs : List (List Signed)) → (mention_goals most s xs).taken ≡ s.taken
  taken_kept s [] = refl
  taken_kept s (x ∷ xs) = taken_kept (mention most s x) xs ∙ mention_cases (λ t. t.taken ≡ s.taken) s x refl refl refl

  mention_long : (s : Found) (g : List Signed) → Longer s.goals (mention most s g).goals
  mention_long s g =
      mention_cases (λ t. Longer s.goals t.goals) s g (same_long s.goals) (record { more = g ∷ []; is = refl })
      (same_long s.goals)

  all_long : (s : Found) (xs : List (List Signed)) → Longer s.goals (mention_goals most s xs).goals
  all_long s [] = same_long s.goals
  all_long s (x ∷ xs) =
      longer_both s.goals (mention most s x).goals (mention_goals most s (x ∷ xs)).goals (mention_long s x)
      (all_long (mention most s x) xs)

  over_kept : (s : Found) (g : List Signed) → (mention most s g).over ≡ None → s.over ≡ None
  over_kept s g =
      mention_cases (λ t. t.over ≡ None → s.over ≡ None) s g (λ e. e) (λ e. e) (λ e. absurd (first_some s.over Goals e))

  overs_kept : (s : Found) (xs : List (List Signed)) → (mention_goals most s xs).over ≡ None → s.over ≡ None
  overs_kept s [] e = e
  overs_kept s (x ∷ xs) e = over_kept s x (overs_kept (mention most s x) xs e)

  mention_lists : (s : Found) (g : List Signed) → (mention most s g).over ≡ None
      → is_listed (mention most s g).goals g ≡ true
  mention_lists s g = go (is_listed s.goals g) (nat_lt (length s.goals) most) refl where
    go : (a b : Bool) → is_listed s.goals g ≡ a
        → (let t =
        cond a s (cond b (found (s.goals ++ g ∷ []) s.taken s.places s.over)
        (found s.goals s.taken s.places (first_limit s.over Goals))) in t.over ≡ None → is_listed t.goals g ≡ true)
    go true b i e = i
    go false true i e = last_listed s.goals g
    go false false i e = absurd (first_some s.over Goals e)

  all_listed : (s : Found) (xs : List (List Signed)) → (mention_goals most s xs).over ≡ None
      → every (is_listed (mention_goals most s xs).goals) xs ≡ true
  all_listed s [] e = refl
  all_listed s (x ∷ xs) e =
      and_from _ _ (listed_on (mention most s x).goals (mention_goals most s (x ∷ xs)).goals x
      (all_long (mention most s x) xs) (mention_lists s x (overs_kept (mention most s x) xs e)))
      (all_listed (mention most s x) xs e)

  fits : (s : Found) (xs : List (List Signed)) → length s.goals ≤ most → length (mention_goals most s xs).goals ≤ most
  fits s [] l = l
  fits s (x ∷ xs) l = fits (mention most s x) xs (go (is_listed s.goals x) (nat_lt (length s.goals) most) refl) where
    go : (a b : Bool) → nat_lt (length s.goals) most ≡ b
        → length (cond a s
        (cond b (found (s.goals ++ x ∷ []) s.taken s.places s.over)
        (found s.goals s.taken s.places (first_limit s.over Goals)))).goals ≤ most
    go true b e = l
    go false true e = omega (arith, length-append s.goals (x ∷ []), ltb-true (length s.goals) most e)
    go false false e = l

  module _ (most_total : ℕ) (expansion : List Signed → Expansion) where
    abbrev Named : List Signed → List (List Signed)
    Named g = named (expansion g).alternatives

    abbrev Counted : Found → List Signed → Found
    Counted s g = let t = mention_goals most s (named (expansion g).alternatives) in
        found t.goals (suc t.taken) (t.places + places (expansion g).alternatives) t.over

    -- what holds after each step
    pub record Sound (s : Found) : Type 0 where
      pub fit : length s.goals ≤ most
      pub within : s.taken ≤ length s.goals
      pub closed : s.over ≡ None → (n : ℕ) (g : List Signed) → n < s.taken → slice_get s.goals n ≡ Some g
          → every (is_listed s.goals) (named (expansion g).alternatives) ≡ true

    taking : (s : Found) (g : List Signed) → slice_get s.goals s.taken ≡ Some g → Sound s → Sound (Counted s g)
    taking s g at h = record {
      fit = fits s (Named g) h.fit;
      within = omega (
        arith,
        taken_kept s (Named g),
        slice_get_within s.goals s.taken g at,
        ap length longer.is,
        length-append
            s.goals longer.more,
      );
      closed = λ e n x l f. go e n x f (below_suc n s.taken (omega (arith, l, taken_kept s (Named g))));
    } where
      longer : Longer s.goals (mention_goals most s (named (expansion g).alternatives)).goals
      longer = all_long s (named (expansion g).alternatives)

      before : (n : ℕ) → n ≤ s.taken
          → slice_get (mention_goals most s (named (expansion g).alternatives)).goals n ≡ slice_get s.goals n
      before n l = ap (λ gs. slice_get gs n) longer.is
          ∙ slice_get-append s.goals longer.more n (omega (arith, l, slice_get_within s.goals s.taken g at))

      go : (mention_goals most s (named (expansion g).alternatives)).over ≡ None → (n : ℕ) (x : List Signed)
          → slice_get (mention_goals most s (named (expansion g).alternatives)).goals n ≡ Some x
          → (n < s.taken) ⊎ (n ≡ s.taken)
          → every (is_listed (mention_goals most s (named (expansion g).alternatives)).goals)
          (named (expansion x).alternatives) ≡ true
      go e n x f (inl l) =
          all_still s.goals (mention_goals most s (named (expansion g).alternatives)).goals
          (named (expansion x).alternatives) longer
          (h.closed (overs_kept s (named (expansion g).alternatives) e) n x l (sym (before n (omega (arith, l))) ∙ f))
      go e n x f (inr q) =
          let same : g ≡ x =
          same_Some _ _ (sym at ∙ sym (ap (slice_get s.goals) q) ∙ sym (before n (omega (arith, q))) ∙ f) in
          subst (λ y. every (is_listed (mention_goals most s (named (expansion g).alternatives)).goals)
          (named (expansion y).alternatives) ≡ true) same (all_listed s (named (expansion g).alternatives) e)

    -- goals keep their numbers
    step_long : (s : Found) → Longer s.goals (step most most_total expansion s).goals
    step_long s = go (slice_get s.goals s.taken) where
      go : (o : Option (List Signed)) → Longer s.goals (take_goal most most_total expansion s o).goals
      go None = same_long s.goals
      go (Some g) = by (nat_lt most_total (s.places + places (expansion g).alternatives)) where
        by : (b : Bool)
            → Longer s.goals (cond b (found s.goals s.taken s.places (first_limit s.over Total)) (Counted s g)).goals
        by true = same_long s.goals
        by false = all_long s (Named g)

    after_long : (n : ℕ) (s : Found) → Longer s.goals (after most most_total expansion n s).goals
    after_long zero s = same_long s.goals
    after_long (suc n) s =
        longer_both s.goals (after most most_total expansion n s).goals _ (after_long n s)
        (step_long (after most most_total expansion n s))

    -- the root is goal 0
    pub root_first : (root : List Signed) → slice_get (explored most most_total expansion root).goals 0 ≡ Some root
    unfolding explored
    root_first root = let l = after_long most (found (root ∷ []) 0 0 None) in ap (λ gs. slice_get gs 0) l.is

    stepped : (s : Found) → Sound s → Sound (step most most_total expansion s)
    stepped s h = go (slice_get s.goals s.taken) refl where
      go : (o : Option (List Signed)) → slice_get s.goals s.taken ≡ o
          → Sound (take_goal most most_total expansion s o)
      go None at = h
      go (Some g) at = by (nat_lt most_total (s.places + places (expansion g).alternatives)) where
        by : (b : Bool) → Sound (cond b (found s.goals s.taken s.places (first_limit s.over Total)) (Counted s g))
        by true = record { fit = h.fit; within = h.within; closed = λ e. absurd (first_some s.over Total e) }
        by false = taking s g at h

    after_sound : (n : ℕ) (s : Found) → Sound s → Sound (after most most_total expansion n s)
    after_sound zero s h = h
    after_sound (suc n) s h = stepped (after most most_total expansion n s) (after_sound n s h)

    -- a step that passes no limit takes a goal, or none is left
    moves : (s : Found) → ((step most most_total expansion s).over ≡ None)
        → ((step most most_total expansion s).taken ≡ suc s.taken) ⊎ (length s.goals ≤ s.taken)
    moves s = go (slice_get s.goals s.taken) refl where
      go : (o : Option (List Signed)) → slice_get s.goals s.taken ≡ o
          → (take_goal most most_total expansion s o).over ≡ None
          → ((take_goal most most_total expansion s o).taken ≡ suc s.taken) ⊎ (length s.goals ≤ s.taken)
      go None at = λ e. inr (none_past s.goals s.taken at)
      go (Some g) at = by (nat_lt most_total (s.places + places (expansion g).alternatives)) where
        by : (b : Bool) → (let t = cond b (found s.goals s.taken s.places (first_limit s.over Total)) (Counted s g) in
            t.over ≡ None → (t.taken ≡ suc s.taken) ⊎ (length s.goals ≤ s.taken))
        by true e = absurd (first_some s.over Total e)
        by false e = inl (ap suc (taken_kept s (Named g)))

    step_over : (s : Found) → (step most most_total expansion s).over ≡ None → s.over ≡ None
    step_over s = go (slice_get s.goals s.taken) where
      go : (o : Option (List Signed)) → (take_goal most most_total expansion s o).over ≡ None → s.over ≡ None
      go None = λ e. e
      go (Some g) = by (nat_lt most_total (s.places + places (expansion g).alternatives)) where
        by : (b : Bool)
            → (let t = cond b (found s.goals s.taken s.places (first_limit s.over Total)) (Counted s g) in t.over ≡ None
            → s.over ≡ None)
        by true e = absurd (first_some s.over Total e)
        by false e = overs_kept s (Named g) e

    rests : (s : Found) → length s.goals ≤ s.taken → step most most_total expansion s ≡ s
    rests s l = ap (take_goal most most_total expansion s) (slice_get_past s.goals s.taken l)

    progress : (n : ℕ) (s : Found) → s.taken ≡ 0 → (after most most_total expansion n s).over ≡ None
        → ((after most most_total expansion n s).taken ≡ n)
        ⊎ (length (after most most_total expansion n s).goals ≤ (after most most_total expansion n s).taken)
    progress zero s z e = inl z
    progress (suc n) s z e =
        go (progress n s z (step_over (after most most_total expansion n s) e))
        (moves (after most most_total expansion n s) e) where
          t : Found
          t = after most most_total expansion n s

          go : (t.taken ≡ n) ⊎ (length t.goals ≤ t.taken) → ((step most most_total expansion t).taken ≡ suc t.taken)
              ⊎ (length t.goals ≤ t.taken)
              → ((step most most_total expansion t).taken ≡ suc n)
              ⊎ (length (step most most_total expansion t).goals ≤ (step most most_total expansion t).taken)
          go (inr l) m = inr (subst (λ u. length u.goals ≤ u.taken) (sym (rests t l)) l)
          go (inl q) (inl m) = inl (m ∙ ap suc q)
          go (inl q) (inr l) = inr (subst (λ u. length u.goals ≤ u.taken) (sym (rests t l)) l)

    pub record Whole (s : Found) : Type 0 where
      pub all : s.taken ≡ length s.goals
      pub closed : (n : ℕ) (g : List Signed) → slice_get s.goals n ≡ Some g
          → every (is_listed s.goals) (named (expansion g).alternatives) ≡ true

    -- an exploration that passes no limit takes each goal and lists each that it names
    pub whole : (root : List Signed) → 0 < most → (explored most most_total expansion root).over ≡ None
        → Whole (explored most most_total expansion root)
    unfolding explored
    whole root l e =
        let s = found (root ∷ []) 0 0 None in
        let h : Sound (after most most_total expansion most s) =
        after_sound most s
        (record { fit = omega (arith, l); within = omega arith; closed = λ e n g l. absurd (omega (arith, l)) })
        in
        let all : (after most most_total expansion most s).taken
        ≡ length (after most most_total expansion most s).goals = end _ h (progress most s refl e) in
        record { all = all; closed = λ n g f. h.closed e n g (omega (arith, all, slice_get_within _ n g f)) f }
      where
        end : (t : Found) → Sound t → (t.taken ≡ most) ⊎ (length t.goals ≤ t.taken) → t.taken ≡ length t.goals
        end t h (inl q) = omega (arith, q, h.fit, h.within)
        end t h (inr l) = omega (arith, l, h.within)
