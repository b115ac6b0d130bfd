-- The places that name a goal: each once, and no others.
use Rattle.std.proofs.Common.{◌≡◌, ◌≢◌, ℕ, zero, suc, ◌+◌, ◌<◌, ◌⊎◌, inl, inr, List, [], ◌∷◌, ◌++◌, length, slice_get, Bool, true, false, cond, nat_eq, Some, Result, Ok, Err, OnOk, refl, ap, ap₂, sym, ◌∙◌, subst, arith, eq-eqb, add-zero, zero-add, map-id}
use Rattle.std.proofs.lemmas.Bool.Decides.{eqb_tells}
use Rattle.std.proofs.lemmas.List.{append_assoc, append-nil}
use Rattle.std.proofs.lemmas.List.FromFn.{map-range_with_len_more}
use Rattle.std.proofs.lemmas.Grind.{flat_map-append}
use Rattle.std.specs.List.{range_with_len, flat_map}
use Rattle.search.specs.Rounds.{Numbered}
use Rattle.list_laws.specs.In.{IsIn, Distinct}
use Rattle.list_laws.proofs.Lists.{from_append, in_left, in_right, in_flat_map, from_flat_map}
use Rattle.list_laws.proofs.Tests.{in_range, from_range}
use Rattle.list_laws.proofs.Pigeons.{Distinct-range}
use Rattle.js_explore.specs.Exploration.{Exploration, alternatives_at}
use Rattle.js_waiting.specs.Mentioned.{mention, named_goals, mentions_from, mentions_by, mentions_of, goals_in, goal_at}
use Rattle.js_waiting.specs.declared.mention.Mention.{Mention}
use Rattle.list_laws.proofs.Numbers.{suc_add-add_suc}
use Rattle.std.proofs.lemmas.Option.{same_Some}

pub on_ok : {A E P Q : Type 0} (r : Result A E) → (P → Q) → OnOk r P → OnOk r Q
on_ok (Ok x) f h = f h
on_ok (Err e) f h = tt

mentions-append : (m h a p : ℕ) (gs hs : List ℕ)
    → mentions_from m h a p (gs ++ hs) ≡ mentions_from m h a p gs ++ mentions_from m h a (p + length gs) hs
mentions-append m h a p [] hs = ap (λ z. mentions_from m h a z hs) (sym (add-zero p))
mentions-append m h a p (g ∷ gs) hs =
    go (nat_eq g m)
    (mentions-append m h a (suc p) gs hs ∙ ap (λ z. mentions_from m h a (suc p) gs ++ mentions_from m h a z hs)
    (suc_add-add_suc p (length gs)))
  where
    go : (b : Bool) → mentions_from m h a (suc p) (gs ++ hs)
        ≡ mentions_from m h a (suc p) gs ++ mentions_from m h a (p + suc (length gs)) hs
        → cond b (mention h a p ∷ mentions_from m h a (suc p) (gs ++ hs)) (mentions_from m h a (suc p) (gs ++ hs))
        ≡ cond b (mention h a p ∷ mentions_from m h a (suc p) gs) (mentions_from m h a (suc p) gs)
        ++ mentions_from m h a (p + suc (length gs)) hs
    go true e = ap (λ l. mention h a p ∷ l) e
    go false e = e

-- first the places of members, and then those of fillers
pub both_added : (m h a n : ℕ) (first next last : List Mention) (gs hs : List ℕ) → n ≡ length gs
    → next ≡ first ++ mentions_from m h a 0 gs → last ≡ next ++ mentions_from m h a n hs
    → last ≡ first ++ mentions_from m h a 0 (gs ++ hs)
both_added m h a n first next last gs hs e x y =
    y ∙ ap₂ (λ l k. l ++ mentions_from m h a k hs) x (e ∙ sym (zero-add (length gs)))
    ∙ append_assoc first (mentions_from m h a 0 gs) (mentions_from m h a (0 + length gs) hs)
    ∙ ap (λ l. first ++ l) (sym (mentions-append m h a 0 gs hs))

-- one more goal
pub goal_added : (e : Exploration) (m h : ℕ) (first : List Mention)
    → first ≡ flat_map (λ g. mentions_by m g 0 (alternatives_at e g)) (range_with_len 0 h) → (xs : List Numbered)
    → xs ≡ alternatives_at e h → first ++ mentions_by m h 0 xs
    ≡ flat_map (λ g. mentions_by m g 0 (alternatives_at e g)) (range_with_len 0 (h + 1))
goal_added e m h first x xs s =
    ap₂ (λ l ys. l ++ mentions_by m h 0 ys) x s
    ∙ ap (λ l. flat_map Of (range_with_len 0 h) ++ l) (sym (append-nil (Of h)))
    ∙ sym (flat_map-append Of (range_with_len 0 h) (h ∷ []))
    ∙ ap (flat_map Of) (sym (sym (map-id (range_with_len 0 (h + 1)))
    ∙ map-range_with_len_more (λ n. n) 0 h h (omega arith)
    ∙ ap (λ l. l ++ h ∷ []) (map-id (range_with_len 0 h))))
  where
    Of : ℕ → List Mention
    Of g = mentions_by m g 0 (alternatives_at e g)

-- of one alternative
pub record At (m h a : ℕ) (gs : List ℕ) (p : ℕ) (u : Mention) : Type 0 where
  pub i : ℕ
  pub is : u ≡ mention h a (p + i)
  pub names : slice_get gs i ≡ Some m

at_later : (m h a : ℕ) (g : ℕ) (gs : List ℕ) (p : ℕ) (u : Mention) → At m h a gs (suc p) u → At m h a (g ∷ gs) p u
at_later m h a g gs p u x = record {
  i = suc x.i;
  is = x.is ∙ ap (mention h a) (suc_add-add_suc p x.i);
  names = x.names;
}

from_place : (m h a p : ℕ) (gs : List ℕ) (u : Mention) → IsIn u (mentions_from m h a p gs) → At m h a gs p u
from_place m h a p [] u i = absurd i
from_place m h a p (g ∷ gs) u i = go (eqb_tells g m) (from_place m h a (suc p) gs u) i where
  here : g ≡ m → u ≡ mention h a p → At m h a (g ∷ gs) p u
  here e s = record { i = 0; is = s ∙ ap (mention h a) (sym (add-zero p)); names = ap Some e }

  Rest : List Mention
  Rest = mentions_from m h a (suc p) gs

  go : ((nat_eq g m ≡ true) × (g ≡ m)) ⊎ ((nat_eq g m ≡ false) × (g ≢ m))
      → (IsIn u Rest → At m h a gs (suc p) u)
      → IsIn u (cond (nat_eq g m) (mention h a p ∷ Rest) Rest) → At m h a (g ∷ gs) p u
  go (inl (t, e)) more j = by (subst (λ b. IsIn u (cond b (mention h a p ∷ Rest) Rest)) t j) where
    by : (u ≡ mention h a p) ⊎ IsIn u Rest → At m h a (g ∷ gs) p u
    by (inl s) = here e s
    by (inr k) = at_later m h a g gs p u (more k)
  go (inr (t, e)) more j =
      at_later m h a g gs p u
      (more (subst (λ b. IsIn u (cond b (mention h a p ∷ Rest) Rest)) t j))

to_place : (m h a p : ℕ) (gs : List ℕ) (i : ℕ) → slice_get gs i ≡ Some m
    → IsIn (mention h a (p + i)) (mentions_from m h a p gs)
to_place m h a p [] i e = cc
to_place m h a p (g ∷ gs) zero e =
    subst (λ b. IsIn (mention h a (p + 0))
    (cond b (mention h a p ∷ mentions_from m h a (suc p) gs) (mentions_from m h a (suc p) gs)))
    (sym (eq-eqb g m (same_Some _ _ e))) (inl (ap (mention h a) (add-zero p)))
to_place m h a p (g ∷ gs) (suc i) e =
    go (nat_eq g m)
    (subst (λ z. IsIn (mention h a z) (mentions_from m h a (suc p) gs)) (suc_add-add_suc p i)
    (to_place m h a (suc p) gs i e))
  where
    go : (b : Bool) → IsIn (mention h a (p + suc i)) (mentions_from m h a (suc p) gs)
        → IsIn (mention h a (p + suc i))
        (cond b (mention h a p ∷ mentions_from m h a (suc p) gs) (mentions_from m h a (suc p) gs))
    go true j = inr j
    go false j = j

once_place : (m h a p : ℕ) (gs : List ℕ) → Distinct (mentions_from m h a p gs)
once_place m h a p [] = tt
once_place m h a p (g ∷ gs) = go (nat_eq g m) (once_place m h a (suc p) gs) where
  apart : IsIn (mention h a p) (mentions_from m h a (suc p) gs) → ⊥
  apart i =
      let x = from_place m h a (suc p) gs (mention h a p) i in
      let s = ap (λ u. u.place) x.is in
      omega (arith, s)

  go : (b : Bool) → Distinct (mentions_from m h a (suc p) gs)
      → Distinct (cond b (mention h a p ∷ mentions_from m h a (suc p) gs) (mentions_from m h a (suc p) gs))
  go true d = (apart, d)
  go false d = d

-- lists of which no element is in both
distinct_both : {A : Type 0} (xs ys : List A) → Distinct xs → Distinct ys
    → ((x : A) → IsIn x xs → IsIn x ys → ⊥) → Distinct (xs ++ ys)
distinct_both [] ys d e h = e
distinct_both (x ∷ xs) ys d e h = (
  λ i. elim (from_append x xs ys i) [ inl j ↦ d.0 j | inr j ↦ h x (inl refl) j ],
  distinct_both xs ys d.1 e (λ y i j. h y (inr i) j),
)

-- of the alternatives of a goal
pub record By (m h : ℕ) (xs : List Numbered) (a : ℕ) (u : Mention) : Type 0 where
  pub i : ℕ
  pub goal : u.goal ≡ h
  pub alternative : u.alternative ≡ a + i
  pub names : slice_get (goals_in (slice_get xs i)) u.place ≡ Some m

from_alternative : (m h a : ℕ) (xs : List Numbered) (u : Mention) → IsIn u (mentions_by m h a xs) → By m h xs a u
from_alternative m h a [] u i = absurd i
from_alternative m h a (x ∷ xs) u i =
    go (from_append u (mentions_from m h a 0 (named_goals x)) (mentions_by m h (suc a) xs) i)
    (from_alternative m h (suc a) xs u)
  where
    go : IsIn u (mentions_from m h a 0 (named_goals x)) ⊎ IsIn u (mentions_by m h (suc a) xs)
        → (IsIn u (mentions_by m h (suc a) xs) → By m h xs (suc a) u) → By m h (x ∷ xs) a u
    go (inl j) more =
        let y = from_place m h a 0 (named_goals x) u j in
        record {
          i = 0;
          goal = ap (λ z. z.goal) y.is;
          alternative = ap (λ z. z.alternative) y.is ∙ sym (add-zero a);
          names = ap (slice_get (named_goals x)) (ap (λ z. z.place) y.is ∙ zero-add y.i) ∙ y.names;
        }
    go (inr j) more =
        let y = more j in
        record { i = suc y.i; goal = y.goal; alternative = y.alternative ∙ suc_add-add_suc a y.i; names = y.names }

to_alternative : (m h a : ℕ) (xs : List Numbered) (i p : ℕ) → slice_get (goals_in (slice_get xs i)) p ≡ Some m
    → IsIn (mention h (a + i) p) (mentions_by m h a xs)
to_alternative m h a [] i p e = cc
to_alternative m h a (x ∷ xs) zero p e =
    in_left (mention h (a + 0) p) (mentions_from m h a 0 (named_goals x)) (mentions_by m h (suc a) xs)
    (subst (λ z. IsIn (mention h z p) (mentions_from m h a 0 (named_goals x))) (sym (add-zero a))
    (subst (λ z. IsIn (mention h a z) (mentions_from m h a 0 (named_goals x))) (zero-add p)
    (to_place m h a 0 (named_goals x) p e)))
to_alternative m h a (x ∷ xs) (suc i) p e =
    in_right (mention h (a + suc i) p) (mentions_from m h a 0 (named_goals x)) (mentions_by m h (suc a) xs)
    (subst (λ z. IsIn (mention h z p) (mentions_by m h (suc a) xs)) (suc_add-add_suc a i)
    (to_alternative m h (suc a) xs i p e))

once_alternative : (m h a : ℕ) (xs : List Numbered) → Distinct (mentions_by m h a xs)
once_alternative m h a [] = tt
once_alternative m h a (x ∷ xs) =
    distinct_both (mentions_from m h a 0 (named_goals x)) (mentions_by m h (suc a) xs)
    (once_place m h a 0 (named_goals x)) (once_alternative m h (suc a) xs)
    (λ u i j.
    let y = from_place m h a 0 (named_goals x) u i in
    let z = from_alternative m h (suc a) xs u j in
    let s = ap (λ v. v.alternative) y.is in
    let t = z.alternative in
    omega (arith, s, t))

-- of all goals
module _ (e : Exploration) (m : ℕ) where
  abbrev Of : ℕ → List Mention
  Of h = mentions_by m h 0 (alternatives_at e h)

  -- each of them is a place that names the goal
  pub record Names (u : Mention) : Type 0 where
    pub low : u.goal < length e.found.goals
    pub names : goal_at e u.goal u.alternative u.place ≡ Some m

  names_from : (h : ℕ) (u : Mention) → IsIn u (Of h)
      → (u.goal ≡ h) × (goal_at e u.goal u.alternative u.place ≡ Some m)
  names_from h u i =
      let y = from_alternative m h 0 (alternatives_at e h) u i in
      let s : u.alternative ≡ y.i = none_plus u.alternative y.i y.alternative in (
        y.goal,
        ap₂ (λ g a. slice_get (goals_in (slice_get (alternatives_at e g) a)) u.place) y.goal s ∙ y.names,
      )
    where
      none_plus : (a i : ℕ) → a ≡ 0 + i → a ≡ i
      none_plus a i e = omega (arith, e)

  pub right : (u : Mention) → IsIn u (mentions_of e m) → Names u
  right u i =
      let (h, j, k) = from_flat_map Of u (range_with_len 0 (length e.found.goals)) i in
      let (s, n) = names_from h u k in
      record { low = subst (λ z. z < length e.found.goals) (sym s) (from_range (length e.found.goals) h j); names = n }

  -- each place that names the goal is listed
  pub listed : (h a p : ℕ) → h < length e.found.goals → goal_at e h a p ≡ Some m
      → IsIn (mention h a p) (mentions_of e m)
  listed h a p l n =
      in_flat_map Of (mention h a p) h (range_with_len 0 (length e.found.goals)) (in_range (length e.found.goals) h l)
      (subst (λ z. IsIn (mention h z p) (Of h)) (zero-add a) (to_alternative m h 0 (alternatives_at e h) a p n))

  once_all : (hs : List ℕ) → Distinct hs → Distinct (flat_map Of hs)
  once_all [] d = tt
  once_all (h ∷ hs) d =
      distinct_both (Of h) (flat_map Of hs) (once_alternative m h 0 (alternatives_at e h)) (once_all hs d.1)
      (λ u i j.
      let (s, n) = names_from h u i in
      let (k, x, y) = from_flat_map Of u hs j in
      let (t, o) = names_from k u y in
      d.0 (subst (λ z. IsIn z hs) (sym t ∙ s) x))

  pub once : Distinct (mentions_of e m)
  once = once_all (range_with_len 0 (length e.found.goals)) (Distinct-range 0 (length e.found.goals))
