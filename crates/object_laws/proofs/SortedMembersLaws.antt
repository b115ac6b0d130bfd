-- Members with different names, put in order, are members of an object: the same ones.
use Rattle.std.proofs.Common.{◌≡◌, ℕ, ◌⊎◌, inl, inr, ⊎_elim, Bool, true, false, ◌&&◌, cond, List, [], ◌∷◌, refl, ap, ap₂, sym, arith}
use Rattle.std.proofs.lemmas.Bool.{and_parts, and_from, cases_lt, cases_eq}
use Rattle.documents.specs.Tests.{every, comes_before, is_scalar}
use Rattle.documents.specs.Document.{Document, Members, no_members, member, entries, is_document, is_before, are_members}
use Rattle.documents.proofs.NameOrder.{smaller_first, same_first}
use Rattle.expansions.specs.SortedMembers.{put, sorted}
use Rattle.list_laws.specs.In.{IsIn}

-- of two different names one comes before the other
total : (v w : List ℕ) → (v ≡ w) ⊎ ((comes_before v w ≡ true) ⊎ (comes_before w v ≡ true))
total [] [] = inl refl
total [] (d ∷ w) = inr (inl refl)
total (c ∷ v) [] = inr (inr refl)
total (c ∷ v) (d ∷ w) = elim (cases_eq c d) [
  | inl e ↦ elim (total v w) [
    | inl q ↦ inl (ap₂ (λ x xs. x ∷ xs) e q)
    | inr (inl h) ↦ inr (inl (same_first c d v w e h))
    | inr (inr h) ↦ inr (inr (same_first d c w v (sym e) h))
  ]
  | inr ne ↦ elim (cases_lt c d) [
    | inl l ↦ inr (inl (smaller_first c d v w l))
    | inr l ↦ inr (inr (smaller_first d c w v (omega (arith, ne))))
  ]
]

abbrev pub IsName : List ℕ → Members → Type 0
IsName k ms = (d : Document) × IsIn (k, d) (entries ms)

-- the name comes before the first name, so before all
put_before : (k l : List ℕ) (d : Document) (ms : Members) → comes_before l k ≡ true → is_before l ms ≡ true
    → is_before l (put k d ms) ≡ true
put_before k l d no_members h b = h
put_before k l d (member m e ms) h b = go (comes_before k m) where
  go : (t : Bool) → is_before l (cond t (member k d (member m e ms)) (member m e (put k d ms))) ≡ true
  go true = h
  go false = b

pub put_members : (k : List ℕ) (d : Document) (ms : Members) → every is_scalar k ≡ true → is_document d ≡ true
    → are_members ms ≡ true → (IsName k ms → ⊥) → are_members (put k d ms) ≡ true
put_members k d no_members s i a new = and_from _ _ (and_from _ _ (and_from _ _ s i) refl) refl
put_members k d (member l e ms) s i a new =
    go (comes_before k l) refl (λ b. put_members k d ms s i b (λ (x, j). new (x, inr j))) where
      go : (t : Bool) → comes_before k l ≡ t → (are_members ms ≡ true → are_members (put k d ms) ≡ true)
          → are_members (cond t (member k d (member l e ms)) (member l e (put k d ms))) ≡ true
      go true h more = and_from _ _ (and_from _ _ (and_from _ _ s i) h) a
      go false h more =
          let (front, behind) = and_parts (every is_scalar l && is_document e && is_before l ms) (are_members ms) a in
          let (own, before) = and_parts (every is_scalar l && is_document e) (is_before l ms) front in
          let other : comes_before l k ≡ true = elim (total k l) [
            | inl q ↦ absurd (new (e, inl (ap (λ z. (z, e)) q)))
            | inr (inl b) ↦ cc
            | inr (inr b) ↦ b
          ] in
          and_from _ _ (and_from _ _ own (put_before k l d ms other before)) (more behind)

pub in_put : (m : List ℕ × Document) (k : List ℕ) (d : Document) (ms : Members) → IsIn m (entries (put k d ms))
    → (m ≡ (k, d)) ⊎ IsIn m (entries ms)
in_put m k d no_members (inl e) = inl e
in_put m k d no_members (inr i) = absurd i
in_put m k d (member l e ms) i = go (comes_before k l) i (in_put m k d ms) where
  go : (t : Bool) → IsIn m (entries (cond t (member k d (member l e ms)) (member l e (put k d ms))))
      → (IsIn m (entries (put k d ms)) → (m ≡ (k, d)) ⊎ IsIn m (entries ms))
      → (m ≡ (k, d)) ⊎ IsIn m ((l, e) ∷ entries ms)
  go true (inl q) more = inl q
  go true (inr j) more = inr j
  go false (inl q) more = inr (inl q)
  go false (inr j) more = ⊎_elim (λ q. inl q) (λ h. inr (inr h)) (more j)

pub put_in : (m : List ℕ × Document) (k : List ℕ) (d : Document) (ms : Members) → (m ≡ (k, d)) ⊎ IsIn m (entries ms)
    → IsIn m (entries (put k d ms))
put_in m k d no_members (inl e) = inl e
put_in m k d no_members (inr i) = absurd i
put_in m k d (member l e ms) i = go (comes_before k l) i (put_in m k d ms) where
  go : (t : Bool) → (m ≡ (k, d)) ⊎ IsIn m ((l, e) ∷ entries ms)
      → ((m ≡ (k, d)) ⊎ IsIn m (entries ms) → IsIn m (entries (put k d ms)))
      → IsIn m (entries (cond t (member k d (member l e ms)) (member l e (put k d ms))))
  go true (inl q) more = inl q
  go true (inr j) more = inr j
  go false (inl q) more = inr (more (inl q))
  go false (inr (inl q)) more = inl q
  go false (inr (inr j)) more = inr (more (inr j))

abbrev pub AreApart : List (List ℕ × Document) → Type 0
AreApart [] = Unit {0}
AreApart (m ∷ ms) = ((x : List ℕ × Document) → IsIn x ms → m.0 ≡ x.0 → ⊥) × AreApart ms

abbrev pub AreFit : List (List ℕ × Document) → Type 0
AreFit [] = Unit {0}
AreFit (m ∷ ms) = (every is_scalar m.0 ≡ true) × (is_document m.1 ≡ true) × AreFit ms

-- a member of the sorted list is one of the list
pub in_sorted : (m : List ℕ × Document) (ms : List (List ℕ × Document)) → IsIn m (entries (sorted ms)) → IsIn m ms
in_sorted m [] i = absurd i
in_sorted m (x ∷ ms) i = ⊎_elim (λ e. inl e) (λ j. inr (in_sorted m ms j)) (in_put m x.0 x.1 (sorted ms) i)

pub sorted_in : (m : List ℕ × Document) (ms : List (List ℕ × Document)) → IsIn m ms → IsIn m (entries (sorted ms))
sorted_in m [] i = absurd i
sorted_in m (x ∷ ms) (inl e) = put_in m x.0 x.1 (sorted ms) (inl e)
sorted_in m (x ∷ ms) (inr i) = put_in m x.0 x.1 (sorted ms) (inr (sorted_in m ms i))

pub sorted_members : (ms : List (List ℕ × Document)) → AreApart ms → AreFit ms → are_members (sorted ms) ≡ true
sorted_members [] a f = refl
sorted_members (m ∷ ms) a f =
    put_members m.0 m.1 (sorted ms) f.0 f.1 (sorted_members ms a.1 f.2)
    (λ (d, i). a.0 (m.0, d) (in_sorted (m.0, d) ms i) refl)
