-- The key lemmas, `found_among` and `absent_among`: where a binary search ends says whether a document is among values
-- in order.
use Rattle.std.proofs.Common.{◌≡◌, inl, inr, ℕ, zero, suc, ◌+◌, ◌<◌, List, [], ◌∷◌, ◌++◌, map, length, get_or, Bool, true, false, ◌||◌, Ordering, Less, Equal, Greater, Option, Some, None, is_some, option_map, refl, sym, ap, ap₂, subst, ◌∙◌, arith, true≢false}
use Rattle.std.specs.Borrow.{Bor}
use Rattle.std.specs.List.{Contains, HoldsAt}
use Rattle.std.specs.List.Sorted.{IsPermutation, IsNonDecreasingBy, IsPartitionPoint}
use Rattle.std.specs.Ordering.{is_eq, ordering_index}
use Rattle.std.specs.declared.vec.Vec.{Vec}
use Rattle.std.specs.declared.alloc.Global.{Global}
use Rattle.std.proofs.lemmas.Bool.{cases_lt}
use Rattle.std.proofs.lemmas.List.Sorted.{searchable_from_sorted, Contains-permutation, IsPermutation-sym}
use Rattle.documents.specs.Tests.{some}
use Rattle.documents.specs.Document.{Document}
use Rattle.documents.specs.Measures.{same_document}
use Rattle.list_laws.proofs.Booleans.{same_test}
use Rattle.schemas.specs.Entry.{Entry}
use Rattle.schemas.specs.Schema.{meets}
use Rattle.draft06.specs.EntryValidity.{form_at}
use Rattle.js_doc.specs.declared.document.Doc.{Doc}
use Rattle.js_doc.specs.View.{view}
use Rattle.js_valid.specs.Choices.{AreChoices, AreValues, IsInOrder, choices_at, is_one_of, values_of}
use Rattle.js_valid.specs.DocumentOrder.{document_cmp}
use Rattle.js_valid.proofs.DocumentOrderLaws.{document_total, document_tied}

-- how a value stands to the document that is looked up
abbrev pub against : Document → Bor Doc → Ordering
against J r = document_cmp (view r.now) J

or_true : (a : Bool) → (a || true) ≡ true
or_true true = refl
or_true false = refl

module _ (J : Document) where
  pub found_among : (rs : List (Bor Doc)) (i : ℕ) → i < length rs → HoldsAt (λ r. against J r ≡ Equal) rs i
      → is_one_of J (values_of rs) ≡ true
  found_among [] i l h = absurd (omega (arith, l))
  found_among (r ∷ rs) zero l h =
      ap (λ b. b || is_one_of J (values_of rs)) (sym (document_tied (view r.now) J) ∙ ap is_eq (h r))
  found_among (r ∷ rs) (suc i) l h =
      ap (λ b. same_document (view r.now) J || b) (found_among rs i (omega (arith, l)) h)
      ∙ or_true (same_document (view r.now) J)

  none_among : (rs : List (Bor Doc))
      → ((k : ℕ) (d : Bor Doc) → k < length rs → is_eq (against J (get_or rs k d)) ≡ false)
      → is_one_of J (values_of rs) ≡ false
  none_among [] h = refl
  none_among (r ∷ rs) h =
      ap₂ (λ a b. a || b) (sym (document_tied (view r.now) J) ∙ h 0 r (omega arith))
      (none_among rs (λ k d l. h (suc k) d (omega (arith, l))))

  pub absent_among : (rs : List (Bor Doc)) (i : ℕ) → IsInOrder rs
      → (IsNonDecreasingBy (λ r. ordering_index (against J r)) rs
      → IsPartitionPoint (λ r. against J r ≡ Less) (λ r. against J r ≡ Greater) rs i)
      → is_one_of J (values_of rs) ≡ false
  absent_among rs i sorted clause =
      let point = clause (searchable_from_sorted document_total (λ (r : Bor Doc). view r.now) rs J sorted) in
      none_among rs (λ k d l. elim (cases_lt k i) [
        | inl less ↦ ap is_eq (point.0 k d (omega arith) less)
        | inr more ↦ ap is_eq (point.1 k d more l)
      ])

-- ---- values in another order

module _ {A : Type 0} (test : A → Bool) where
  some_in : (xs : List A) → some test xs ≡ true → (x : A) × (test x ≡ true) × Contains xs x
  some_in [] h = absurd (true≢false (sym h))
  some_in (x ∷ xs) h = go (test x) refl (some_in xs) h
    where
      go : (b : Bool) → test x ≡ b → (some test xs ≡ true → (y : A) × (test y ≡ true) × Contains xs y)
          → (b || some test xs) ≡ true → (y : A) × (test y ≡ true) × Contains (x ∷ xs) y
      go true e later h = (x, e, (0, omega arith, refl))
      go false e later h =
          let (y, passes, place) = later h in
          let (k, less, same) = place in
          (y, passes, (suc k, omega (arith, less), same))

  some_of : (xs : List A) (x : A) → test x ≡ true → (k : ℕ) → k < length xs → get_or xs k x ≡ x → some test xs ≡ true
  some_of [] x h k l e = absurd (omega (arith, l))
  some_of (y ∷ xs) x h zero l e = ap (λ b. b || some test xs) (ap test e ∙ h)
  some_of (y ∷ xs) x h (suc k) l e =
      ap (λ b. test y || b) (some_of xs x h k (omega (arith, l)) e) ∙ or_true (test y)

  moved : (xs ys : List A) → IsPermutation xs ys → some test xs ≡ true → some test ys ≡ true
  moved xs ys p h =
      let (x, passes, place) = some_in xs h in
      let (k, less, same) = Contains-permutation xs ys x p place in
      some_of ys x passes k less same

  pub some_permutation : (xs ys : List A) → IsPermutation xs ys → some test xs ≡ some test ys
  some_permutation xs ys p =
      same_test (some test xs) (some test ys) (moved xs ys p) (moved ys xs (IsPermutation-sym xs ys p))

some_map : {A B : Type 0} (f : A → B) (test : B → Bool) (xs : List A)
    → some test (map f xs) ≡ some (λ x. test (f x)) xs
some_map f test [] = refl
some_map f test (x ∷ xs) = ap (λ b. test (f x) || b) (some_map f test xs)

pub one_of_permutation : (J : Document) (rs qs : List (Bor Doc)) → IsPermutation rs qs
    → is_one_of J (values_of rs) ≡ is_one_of J (values_of qs)
one_of_permutation J rs qs p =
    let test : Bor Doc → Bool = λ r. same_document (view r.now) J in
    some_map (λ (r : Bor Doc). view r.now) (λ d. same_document d J) rs ∙ some_permutation test rs qs p
    ∙ sym (some_map (λ (r : Bor Doc). view r.now) (λ d. same_document d J) qs)

-- no values stand for a keyword that isn't there
pub no_values : (rs : List (Bor Doc)) → rs ≡ [] → AreValues None rs
no_values rs e = record {
  sorted = subst IsInOrder (sym e) (λ k d low high. absurd (omega (arith, high)));
  same = λ J. refl;
}

-- ---- the values of the entries so far

at_front : (vs : List (Vec (Bor Doc) Global)) (v : Vec (Bor Doc) Global) (e : ℕ) → e < length vs
    → choices_at (vs ++ v ∷ []) e ≡ choices_at vs e
at_front [] v e l = absurd (omega (arith, l))
at_front (w ∷ vs) v zero l = refl
at_front (w ∷ vs) v (suc e) l = at_front vs v e (omega (arith, l))

at_end : (vs : List (Vec (Bor Doc) Global)) (v : Vec (Bor Doc) Global) → choices_at (vs ++ v ∷ []) (length vs) ≡ v.items
at_end [] v = refl
at_end (w ∷ vs) v = at_end vs v

pub choices_more : (es : List Entry) (vs : List (Vec (Bor Doc) Global)) (v : Vec (Bor Doc) Global)
    → ((e : ℕ) → e < length vs → AreChoices (form_at es e) (choices_at vs e))
    → AreChoices (form_at es (length vs)) v.items
    → (e : ℕ) → e < length vs + 1 → AreChoices (form_at es e) (choices_at (vs ++ v ∷ []) e)
choices_more es vs v h last e l = elim (cases_lt e (length vs)) [
  | inl less ↦ subst (AreChoices (form_at es e)) (sym (at_front vs v e less)) (h e less)
  | inr more ↦
      let here : length vs ≡ e = omega (arith, l, more) in
      subst (λ k. AreChoices (form_at es k) (choices_at (vs ++ v ∷ []) k)) here
      (subst (AreChoices (form_at es (length vs))) (sym (at_end vs v)) last)
]

pub choices_at-get : (vs : List (Vec (Bor Doc) Global)) (e : ℕ) (v : Vec (Bor Doc) Global) → e < length vs
    → v ≡ get_or vs e v → choices_at vs e ≡ v.items
choices_at-get [] e v l is = absurd (omega (arith, l))
choices_at-get (w ∷ vs) zero v l is = ap (λ u. u.items) (sym is)
choices_at-get (w ∷ vs) (suc e) v l is = choices_at-get vs e v (omega (arith, l)) is

-- ---- what a keyword that is there lists

pub listed_among : {A : Type 0} (f : A → List Document) (o : Option A) (rs : List (Bor Doc)) (J : Document)
    → AreValues (option_map f o) rs → is_some o ≡ true
    → is_one_of J (values_of rs) ≡ meets (is_one_of J) (option_map f o)
listed_among f None rs J h e = absurd (true≢false (sym e))
listed_among f (Some x) rs J h e = sym (h.same J)
