-- The first value that passes a test, found by blocks of ranks.
use Rattle.std.proofs.Common.{◌≡◌, ℕ, ◌+◌, ◌-◌, ◌<◌, ◌≤◌, Bool, true, false, List, length, get_or, Some, None, ℤ, pos, ◌+ℤ◌, int_lt, inl, inr, refl, ap, ◌∙◌, subst, arith, if◌then◌else◌}
use Rattle.std.specs.List.{find}
use Rattle.std.specs.Ordering.{int_eq}
use Rattle.std.proofs.lemmas.Int.{ints}
use Rattle.std.proofs.lemmas.Bool.{and_from, cases_lt, le-leb, lt-ltb}
use Rattle.std.proofs.lemmas.Bool.Decides.{Decides-int_eq}
use Rattle.std.proofs.lemmas.List.Folds.{list_any_at}
use Rattle.std.proofs.lemmas.List.Sums.{count_by-le-length}
use Rattle.js_doc.specs.Numbers.{count_below, has, rank_of}
use Rattle.js_numbers.specs.Marking.{marked_from, mark_of, IsFirstIn, IsFirstBelow}
use Rattle.js_numbers.proofs.Finding.{find-at, find-none}
use Rattle.js_numbers.proofs.ListedLaws.{count_below-lt}

-- ---- each value has a rank, and so a mark in some block

mark_at : (limit start : ℕ) (values : List ℤ) (x : ℤ) (k : ℕ) → rank_of values x ≡ Some k
    → start ≤ k → k < start + limit
    → mark_of limit start values x ≡ Some (k - start)
mark_at limit start values x k e l u =
    ap (marked_from limit start) e
    ∙ ap (λ b. if b then Some (k - start) else None)
    (and_from _ _ (le-leb start k l) (lt-ltb (k - start) limit (omega arith)))

rank_within : (values : List ℤ) (j : ℕ) → j < length values
    → (k : ℕ) × (rank_of values (get_or values j (pos 0)) ≡ Some k) × (k < length values)
rank_within values j l =
    let x = get_or values j (pos 0) in
    let member : has values x ≡ true =
    list_any_at (λ y. int_eq y x) values j (pos 0) l ((Decides-int_eq x x).1 refl) in
    let more = count_below-lt values x (x +ℤ pos 1) (omega (arith, ints)) member in
    let most = count_by-le-length (λ y. int_lt y (x +ℤ pos 1)) values in (
      count_below values x,
      ap (λ b. if b then Some (count_below values x) else None) member,
      omega (arith, more, most),
    )

-- ---- block after block

pub IsFirstBelow-more : (limit start : ℕ) (values : List ℤ) (test : ℤ → Bool) (end place : ℕ)
    → IsFirstBelow start values test end → IsFirstIn limit start values test end place
    → IsFirstBelow (start + limit) values test place
IsFirstBelow-more limit start values test end place old new =
    let most = old.within in
    let within = new.within in
    record {
      within = omega (arith, most, within);
      before = λ j k l e less. elim (cases_lt k start) [
        | inl h ↦ old.before j k (omega (arith, l, within)) e h
        | inr h ↦ new.before j (k - start) l
            (mark_at limit start values (get_or values j (pos 0)) k e h less)
      ];
      here = λ l. elim (cases_lt place end) [
        | inl h ↦ new.here h
        | inr h ↦
            let same : end ≡ place = omega (arith, within, h) in
            subst (λ i. test (get_or values i (pos 0)) ≡ true) same (old.here (omega (arith, l, same)))
      ];
    }

-- ---- after the last block

none_before : (rank : ℕ) (values : List ℤ) (test : ℤ → Bool) (place : ℕ) → IsFirstBelow rank values test place
    → length values ≤ rank
    → (j : ℕ) → j < place → test (get_or values j (pos 0)) ≡ false
none_before rank values test place first all j l =
    let within = first.within in
    let (k, e, less) = rank_within values j (omega (arith, l, within)) in
    first.before j k l e (omega (arith, less, all))

-- once all ranks are looked at, the place that was found is that of the first value that passes
pub find-IsFirstBelow : (rank : ℕ) (values : List ℤ) (test : ℤ → Bool) (place : ℕ)
    → IsFirstBelow rank values test place → length values ≤ rank → place < length values
    → find test values ≡ Some (get_or values place (pos 0))
find-IsFirstBelow rank values test place first all l =
    find-at test values place (pos 0) l (none_before rank values test place first all) (first.here l)

pub find-IsFirstBelow_none : (rank : ℕ) (values : List ℤ) (test : ℤ → Bool) (place : ℕ)
    → IsFirstBelow rank values test place → length values ≤ rank → length values ≤ place
    → find test values ≡ None
find-IsFirstBelow_none rank values test place first all l =
    find-none test values (pos 0) (λ j m. none_before rank values test place first all j (omega (arith, m, l)))
