-- A search that rests: no entry is open. It begins so, and it ends so with all entries done.
use Rattle.std.proofs.Common.{◌≡◌, ℕ, zero, suc, ◌<◌, List, [], ◌∷◌, map, length, inl, inr, Bool, true, nat_lt, Option, Some, None, refl, sym, ap, ◌∙◌, subst, arith}
use Rattle.std.proofs.lemmas.Bool.{cases_lt, and_from, lt-ltb}
use Rattle.std.proofs.lemmas.List.{length-map}
use Rattle.documents.specs.Tests.{every}
use Rattle.schemas.specs.Guarded.{targets, is_among, IsLeastOnCycle, fall, are_ranks}
use Rattle.schema_laws.proofs.Ways.{is_among-at}
use Rattle.js_guard.specs.declared.search.Mark.{Mark}
use Rattle.js_guard.specs.declared.search.Mark.TheVariants.{New, Open, Done}
use Rattle.js_guard.specs.declared.search.Search.{Search}
use Rattle.js_guard.specs.Rows.{AreClosed}
use Rattle.js_guard.specs.Searching.{mark, rank_of, at, Reaches, IsAtMost, IsSearch}
use Rattle.js_guard.specs.Steps.{IsSearchWith, IsResting, Keeps, Enters}
use Rattle.js_guard.proofs.Walking.{cycle-inside}
use Rattle.js_guard.proofs.Stepping.{entering, entering-new}

pub rest-none : (g : List (List ℕ)) (M : List Mark) (S B : List ℕ) (done : ℕ) (least : Option ℕ)
    → IsSearch g M S B [] done least → length S ≡ 0
rest-none g M S B done least s =
    elim (cases_lt 0 (length S)) [
      | inl some ↦
          let first = s.first_group some in
          let on_path = s.path_groups 0 first.0 in
          absurd (let none = on_path.1 in omega arith)
      | inr none ↦ omega arith
    ]

-- what holds once a root is met
pub record HasMet (g : List (List ℕ)) (s s' : Search) (root : ℕ) : Type 0 where
  pub search : IsSearchWith g s' s'.path.items
  pub keeps : Keeps s s'
  pub met : mark s'.marks.items root ≡ New → ⊥

module _ (g : List (List ℕ)) (s : Search) (root : ℕ) (rest : IsResting g s) where
  whole : IsSearchWith g s s.path.items
  whole = subst (λ q. IsSearchWith g s q) (sym rest.path) rest.search

  none_open : (x i : ℕ) → i < length s.opened.items → Reaches g (at s.opened.items i) x
  none_open x i h =
      let none = rest-none g s.marks.items s.opened.items s.groups.items s.done s.least rest.search in
      absurd (omega arith)

  pub met-entered : (s' : Search) → root < length g → mark s.marks.items root ≡ New → Enters s s' root
      → HasMet g s s' root
  met-entered s' inside new e =
      let on = entering g s s' root whole inside new (none_open root) e in
      record {
        search = on.search;
        keeps = on.keeps;
        met = entering-new g s s' root whole inside new (none_open root) e;
      }

  pub met-already : (mark s.marks.items root ≡ New → ⊥) → HasMet g s s root
  met-already old = record { search = whole; keeps = λ x h. h; met = old }

-- tests of lists, place by place

every-from : (p : ℕ → Bool) (ys : List ℕ) → ((i : ℕ) → i < length ys → p (at ys i) ≡ true) → every p ys ≡ true
every-from p [] h = refl
every-from p (y ∷ ys) h =
    and_from (p y) (every p ys) (h 0 (omega arith)) (every-from p ys (λ i l. h (suc i) (omega arith)))

fall-from : (ranks rs : List ℕ) (g : List (List ℕ)) → length rs ≡ length g
    → ((x y : ℕ) → x < length g → is_among y (targets g x) ≡ true → at ranks y < at rs x) → fall ranks rs g ≡ true
fall-from ranks [] [] e h = refl
fall-from ranks [] (ts ∷ g) e h = absurd (omega (arith, e))
fall-from ranks (r ∷ rs) [] e h = absurd (omega (arith, e))
fall-from ranks (r ∷ rs) (ts ∷ g) e h =
    and_from (every (λ y. nat_lt (at ranks y) r) ts) (fall ranks rs g)
    (every-from (λ y. nat_lt (at ranks y) r) ts
    (λ i l. lt-ltb (at ranks (at ts i)) r (h 0 (at ts i) (omega arith) (is_among-at ts i l))))
    (fall-from ranks rs g (omega (arith, e)) (λ x y l k. h (suc x) y (omega arith) k))

at-rank : (M : List Mark) (x : ℕ) → at (map rank_of M) x ≡ rank_of (mark M x)
at-rank [] x = refl
at-rank (m ∷ M) zero = refl
at-rank (m ∷ M) (suc x) = at-rank M x

-- in the end

module _ (g : List (List ℕ)) (s : Search) (closed : AreClosed g) (rest : IsResting g s)
    (met : (x : ℕ) → x < length g → mark s.marks.items x ≡ New → ⊥) where
  abbrev M : List Mark
  M = s.marks.items

  done-as : (x : ℕ) (m : Mark) → mark M x ≡ m → x < length g → (r : ℕ) × (mark M x ≡ Done r)
  done-as x New e h = absurd (met x h e)
  done-as x (Open i) e h =
      absurd (let inside = (rest.search.marked_open x i e).0 in
      let none = rest-none g M s.opened.items s.groups.items s.done s.least rest.search in omega arith)
  done-as x (Done r) e h = (r, e)

  all_done : (x : ℕ) → x < length g → (r : ℕ) × (mark M x ≡ Done r)
  all_done x h = done-as x (mark M x) refl h

  rank-done : (x r : ℕ) → mark M x ≡ Done r → at (map rank_of M) x ≡ r
  rank-done x r e = at-rank M x ∙ ap rank_of e

  ranks-length : length (map rank_of M) ≡ length g
  ranks-length = let marked = rest.search.marked in omega (arith, length-map M rank_of)

  -- where no entry was noted, the marks at the end are ranks
  pub found_ranks : s.least ≡ None → are_ranks g (map rank_of M) ≡ true
  found_ranks none =
      and_from (every (λ r. nat_lt r (length g)) (map rank_of M)) (fall (map rank_of M) (map rank_of M) g)
      (every-from (λ r. nat_lt r (length g)) (map rank_of M) below)
      (fall-from (map rank_of M) (map rank_of M) g ranks-length falls)
    where
      below : (x : ℕ) → x < length (map rank_of M) → nat_lt (at (map rank_of M) x) (length g) ≡ true
      below x h =
          let done = all_done x (omega (arith, ranks-length)) in
          let rank = rank-done x done.0 done.1 in
          let low = rest.search.ranks_below x done.0 done.1 in
          let count = rest.search.counted in
          lt-ltb (at (map rank_of M) x) (length g) (omega arith)

      falls : (x y : ℕ) → x < length g → is_among y (targets g x) ≡ true → at (map rank_of M) y < at (map rank_of M) x
      falls x y h k =
          let done = all_done x h in
          let next = rest.search.done_closed x y done.0 done.1 k in
          let less = next.2 none in
          omega (arith, rank-done x done.0 done.1, rank-done y next.0 next.1)

  -- the entry that is noted at the end is the least one on a cycle
  pub found_least : (l : ℕ) → s.least ≡ Some l → IsLeastOnCycle g l
  found_least l some = record {
    on_cycle = rest.search.least_on l some;
    least = λ y c.
        (let inside : y < length g = cycle-inside g y c in
        let done = all_done y inside in
        subst (λ o. IsAtMost o y) some (rest.search.done_least y done.0 done.1 c));
  }
