-- The rows at which atoms are true.
--
-- Key: `words_truth`, a list of words is true of the rows to which they lead, and of no others.
use Rattle.std.proofs.Common.{◌≡◌, ℕ, ◌<◌, inl, inr, Bool, true, false, ◌+◌, ◌≤◌, ◌||◌, nat_eq, nat_lt, List, [], ◌∷◌, ◌++◌, IsUtf8, chars, map, filter, length, get_or, refl, ap, ap₂, sym, ◌∙◌, subst, arith, eq-eqb, length-append}
use Rattle.std.specs.Char.{IsScalar}
use Rattle.std.proofs.Math.Utf8.{scalar_cases}
use Rattle.std.proofs.lemmas.Bool.Decides.{nat_tests}
use Rattle.std.proofs.lemmas.Str.{scalars-chars}
use Rattle.std.specs.Str.{all_scalars}
use Rattle.std.specs.List.{list_all, list_any, range_with_len}
use Rattle.std.proofs.lemmas.Bool.{and_from, and_parts, cases_lt, eqb-true, ltb-true}
use Rattle.std.proofs.lemmas.List.{get_or-map, get_or_append_left}
use Rattle.documents.specs.Tests.{every, some}
use Rattle.patterns.specs.CharSet.{is_scalar}
use Rattle.list_laws.specs.In.{IsIn}
use Rattle.list_laws.proofs.Lists.{get_or-in, in_map, from_map, in_filter}
use Rattle.list_laws.proofs.Tests.{from_filter, in_range, from_range, any_find, any_from}
use Rattle.word_states.specs.Atom.{Atom, Words, LengthMin, is_true, same_word}
use Rattle.word_states.specs.Classes.{class_of, class_count, is_in_class}
use Rattle.word_states.specs.Rows.{AreRows, row_of}
use Rattle.word_laws.proofs.ClassLaws.{classes_divide}
use Rattle.word_laws.proofs.RowLaws.{rows_words, row_below, row_truth}
use Rattle.word_laws.proofs.States.{word_decides, same_laws}
use Rattle.cell_laws.proofs.Rows.{row_is, one_row, first_row}
use Rattle.js_said.specs.AtomNumbers.{is_true_at, are_below}
use Rattle.js_cells.specs.Truths.{IsTruth, AreTruths, AreWithin, AreFirst}
use Rattle.list_laws.proofs.Booleans.{same_test}
use Rattle.list_laws.proofs.Numbers.{nat_eq-refl}

-- tests of lists

all_in : {X : Type 0} (p : X → Bool) (x : X) (xs : List X) → list_all p xs ≡ true → IsIn x xs → p x ≡ true
all_in p x [] h i = absurd i
all_in p x (y ∷ ys) h (inl q) = ap p q ∙ (and_parts (p y) (list_all p ys) h).0
all_in p x (y ∷ ys) h (inr i) = all_in p x ys (and_parts (p y) (list_all p ys) h).1 i

module _ (A : List Atom) (L : List (List ℕ)) (rows : AreRows A L) where
  -- a row's own word leads to it
  own_row : (r : ℕ) → r < length L → row_of A L (get_or L r []) ≡ r
  own_row r l =
      let w = get_or L r [] in
      one_row A L rows w (row_of A L w) r (row_is A L rows w (rows_words A L rows w (get_or-in L r [] l)))
      (l, (same_laws A).refl w)

  -- and the empty word to the first
  pub empty_row : row_of A L [] ≡ 0
  empty_row = one_row A L rows [] (row_of A L []) 0 (row_is A L rows [] refl) (first_row A L rows)

  -- a row has the truths of the words that lead to it
  truth_row : (k : ℕ) (w : List ℕ) → k < length A → list_all is_scalar w ≡ true
      → is_true_at A (get_or L (row_of A L w) []) k ≡ is_true_at A w k
  truth_row k w l s =
      let v = get_or L (row_of A L w) [] in
      sym (get_or-map (λ a. is_true a v) A k (LengthMin 0) false l)
      ∙ ap (λ z. get_or z k false) (row_truth A L rows w s)
      ∙ get_or-map (λ a. is_true a w) A k (LengthMin 0) false l

  module _ (k : ℕ) (ws : List (List ℕ)) (l : k < length A) (e : get_or A k (LengthMin 0) ≡ Words ws)
      (s : list_all (list_all is_scalar) ws ≡ true) where
    leads_to : (r : ℕ) → list_any (nat_eq r) (map (row_of A L) ws) ≡ true → is_true_at A (get_or L r []) k ≡ true
    leads_to r h =
        let (n, i, p) = any_find (nat_eq r) (map (row_of A L) ws) h in
        let (w, j, q) = from_map (row_of A L) n ws i in
        let is : row_of A L w ≡ r = sym (eqb-true r n p ∙ q) in
        subst (λ z. is_true_at A (get_or L z []) k ≡ true) is
        (truth_row k w l (all_in (list_all is_scalar) w ws s j) ∙ ap (λ a. is_true a w) e
        ∙ any_from (same_word w) w ws j ((word_decides w w).1 refl))

    is_led : (r : ℕ) → r < length L → is_true_at A (get_or L r []) k ≡ true
        → list_any (nat_eq r) (map (row_of A L) ws) ≡ true
    is_led r m h =
        let v = get_or L r [] in
        let (w, j, p) = any_find (same_word v) ws (sym (ap (λ a. is_true a v) e) ∙ h) in
        let same : v ≡ w = (word_decides v w).0 p in
        any_from (nat_eq r) (row_of A L w) (map (row_of A L) ws) (in_map (row_of A L) w ws j)
        (eq-eqb r (row_of A L w) (sym (ap (row_of A L) (sym same) ∙ own_row r m)))

    pub words_truth : IsTruth A L k (map (row_of A L) ws)
    words_truth = record {
      within = λ i m.
          let n = get_or (map (row_of A L) ws) i 0 in
          let (w, j, q) = from_map (row_of A L) n ws (get_or-in (map (row_of A L) ws) i 0 m) in
          let b = row_below A L rows w (all_in (list_all is_scalar) w ws s j) in omega (arith, q, b);
      told = λ r m. same_test (list_any (nat_eq r) (map (row_of A L) ws)) (is_true_at A (get_or L r []) k)
          (leads_to r) (is_led r m);
    }

-- rows that are tested one by one

pub where_truth : (A : List Atom) (L : List (List ℕ)) (k : ℕ)
    → IsTruth A L k (filter (λ r. is_true_at A (get_or L r []) k) (range_with_len 0 (length L)))
where_truth A L k = record {
  within = λ i m.
      let n = get_or (filter p all) i 0 in
      from_range (length L) n (from_filter p n all (get_or-in (filter p all) i 0 m)).0;
  told = λ r m. same_test (list_any (nat_eq r) (filter p all)) (p r)
      (λ h.
      let (n, i, q) = any_find (nat_eq r) (filter p all) h in
      subst (λ z. p z ≡ true) (sym (eqb-true r n q)) (from_filter p n all i).1)
      (λ h. any_from (nat_eq r) r (filter p all) (in_filter p r all (in_range (length L) r m) h) (nat_eq-refl r));
} where
  p : ℕ → Bool
  p r = is_true_at A (get_or L r []) k

  all : List ℕ
  all = range_with_len 0 (length L)

-- the rows of atoms determine what literals of atoms say

module _ (A : List Atom) (L lists : List (List ℕ)) (t : AreTruths A L lists) where
  pub all_within : AreWithin (length L) lists
  all_within k i l m = (t.each k (let c = t.count in omega (arith, l, c))).within i m

  pub below_lists : (ks : List ℕ) → are_below A ks ≡ true → every (λ k. nat_lt k (length lists)) ks ≡ true
  below_lists ks h = subst (λ n. every (λ k. nat_lt k n) ks ≡ true) (sym t.count) h

  pub some_told : (r : ℕ) (ks : List ℕ) → r < length L → are_below A ks ≡ true
      → some (λ k. list_any (nat_eq r) (get_or lists k [])) ks ≡ some (is_true_at A (get_or L r [])) ks
  some_told r [] l h = refl
  some_told r (k ∷ ks) l h =
      let (a, b) = and_parts (nat_lt k (length A)) (are_below A ks) h in
      ap₂ (λ x y. x || y) ((t.each k (ltb-true k (length A) a)).told r l) (some_told r ks l b)

-- classes of characters

pub scalar_is : (c : ℕ) → IsScalar c → is_scalar c ≡ true
scalar_is c h = elim (scalar_cases c h) [ inl l ↦ grind (arith, nat_tests) | inr l ↦ grind (arith, nat_tests) ]

-- the characters of a text
pub text_word : (bs : List ℕ) → IsUtf8 bs → list_all is_scalar (chars bs) ≡ true
text_word bs u = each (chars bs) (scalars-chars bs u) where
  each : (cs : List ℕ) → all_scalars cs ≡ true → list_all is_scalar cs ≡ true
  each [] h = refl
  each (c ∷ cs) h =
      let p = and_parts _ _ h in
      and_from (is_scalar c) (list_all is_scalar cs) (scalar_is c p.0) (each cs p.1)

pub scalar_at : (w : List ℕ) (i c : ℕ) → list_all is_scalar w ≡ true → i < length w → c ≡ get_or w i c
    → is_scalar c ≡ true
scalar_at w i c s l e = all_in is_scalar c w s (subst (λ z. IsIn z w) (sym e) (get_or-in w i c l))

module _ (A : List Atom) (c : ℕ) (s : is_scalar c ≡ true) where
  pub class_is : (k : ℕ) → k < class_count A → is_in_class A k c ≡ true → k ≡ class_of A c
  class_is = (classes_divide A c s).2

  pub class_below : class_of A c < class_count A
  class_below = (classes_divide A c s).0

  pub class_found : is_in_class A (class_of A c) c ≡ true
  class_found = (classes_divide A c s).1

pub first_more : (A : List Atom) (classes : List ℕ) (k : ℕ) → k ≡ class_of A (length classes) → AreFirst A classes
    → AreFirst A (classes ++ k ∷ [])
first_more A classes k e h c l = elim (cases_lt c (length classes)) [
  | inl m ↦ get_or_append_left classes (k ∷ []) 0 c m ∙ h c m
  | inr m ↦
      let is : c ≡ length classes = (let n = length-append classes (k ∷ []) in omega (arith, l, m, n)) in
      ap (λ i. get_or (classes ++ k ∷ []) i 0) is ∙ last classes ∙ e ∙ ap (class_of A) (sym is)
] where
  last : (xs : List ℕ) → get_or (xs ++ k ∷ []) (length xs) 0 ≡ k
  last [] = refl
  last (x ∷ xs) = last xs
