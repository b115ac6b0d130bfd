-- The words of tokens: each has one number, and keeps it when a name is added.
use Rattle.std.proofs.Common.{◌≡◌, ℕ, ◌+◌, ◌-◌, ◌≤◌, ◌<◌, List, [], ◌∷◌, ◌++◌, length, get_or, Bool, true, false, nat_lt, refl, sym, ap, ◌∙◌, ⊎_elim, arith}
use Rattle.std.proofs.lemmas.Option.{same_Some}
use Rattle.std.proofs.lemmas.List.{length_push}
use Rattle.std.proofs.Math.ListN.{get_or-append}
use Rattle.std.proofs.Math.Seq.{get_or-append_seam}
use Rattle.std.proofs.lemmas.Bool.{ltb-true, ltb-false, cases_lt}
use Rattle.documents.specs.Place.{index_of}
use Rattle.schemas.specs.Places.{index_token}
use Rattle.schema_laws.proofs.Tokens.{index_of-token}
use Rattle.js_pointers.specs.Table.{word, IsWord, AreNames, Keeps}

-- a distinct list with one more element that isn't in it is distinct
pub distinct_more : {A : Type 0} (xs : List A) (x d : A)
    → ((i j : ℕ) → i < length xs → j < length xs → get_or xs i d ≡ get_or xs j d → i ≡ j)
    → ((i : ℕ) → i < length xs → get_or xs i d ≡ x → ⊥)
    → (i j : ℕ) → i < length (xs ++ x ∷ []) → j < length (xs ++ x ∷ [])
    → get_or (xs ++ x ∷ []) i d ≡ get_or (xs ++ x ∷ []) j d → i ≡ j
distinct_more xs x d distinct new i j l m h =
    go (nat_lt i (length xs)) (nat_lt j (length xs)) refl refl
  where
    last : (k : ℕ) → k < length (xs ++ x ∷ []) → nat_lt k (length xs) ≡ false → k ≡ length xs
    last k within e =
        let most = length_push xs x in
        let least = ltb-false k (length xs) e in
        omega (arith, within, most, least)

    old : (k : ℕ) → nat_lt k (length xs) ≡ true → get_or (xs ++ x ∷ []) k d ≡ get_or xs k d
    old k e = get_or-append xs (x ∷ []) d k (ltb-true k (length xs) e)

    added : (k : ℕ) → k ≡ length xs → get_or (xs ++ x ∷ []) k d ≡ x
    added k e = ap (λ k. get_or (xs ++ x ∷ []) k d) e ∙ get_or-append_seam xs x [] d

    go : (a b : Bool) → nat_lt i (length xs) ≡ a → nat_lt j (length xs) ≡ b → i ≡ j
    go true true e f = distinct i j (ltb-true i _ e) (ltb-true j _ f) (sym (old i e) ∙ h ∙ old j f)
    go true false e f = absurd (new i (ltb-true i _ e) (sym (old i e) ∙ h ∙ added j (last j m f)))
    go false true e f = absurd (new j (ltb-true j _ f) (sym (old j f) ∙ sym h ∙ added i (last i l e)))
    go false false e f = last i l e ∙ sym (last j m f)

pub word-index : (names : List (List ℕ)) (k : ℕ) → k < 2147483648 → word names k ≡ index_token k
unfolding word
word-index names k h = let low : nat_lt k 2147483648 ≡ true = grind (arith, h) in rw low refl

pub word-name : (names : List (List ℕ)) (k : ℕ) → 2147483648 ≤ k → word names k ≡ get_or names (k - 2147483648) []
unfolding word
word-name names k h = let high : nat_lt k 2147483648 ≡ false = grind (arith, h) in rw high refl

same_index : (i j : ℕ) → index_token i ≡ index_token j → i ≡ j
same_index i j h = same_Some i j (sym (index_of-token i) ∙ ap index_of h ∙ index_of-token j)

module _ (names : List (List ℕ)) (are : AreNames names) where
  index_name : (i j : ℕ) → i < 2147483648 → 2147483648 ≤ j → j < length names + 2147483648
      → word names i ≡ word names j → ⊥
  index_name i j low high within h =
      let least = are.no_index (j - 2147483648) i (omega (arith, high, within))
      (sym (word-name names j high) ∙ sym h ∙ word-index names i low) in
      absurd (omega (arith, least, low))

  pub same_number : (i j : ℕ) → i < length names + 2147483648 → j < length names + 2147483648
      → word names i ≡ word names j → i ≡ j
  same_number i j l m h = ⊎_elim
      (λ low. ⊎_elim
      (λ low'. same_index i j (sym (word-index names i low) ∙ h ∙ word-index names j low'))
      (λ high'. absurd (index_name i j low high' m h))
      (cases_lt j 2147483648))
      (λ high. ⊎_elim
      (λ low'. absurd (index_name j i low' high l (sym h)))
      (λ high'.
      let same = are.distinct (i - 2147483648) (j - 2147483648) (omega (arith, high, l)) (omega (arith, high', m))
      (sym (word-name names i high) ∙ h ∙ word-name names j high') in
      omega (arith, high, high', same))
      (cases_lt j 2147483648))
      (cases_lt i 2147483648)

pub name_word : (names : List (List ℕ)) (t : List ℕ) (i : ℕ) → i < length names → get_or names i [] ≡ t
    → IsWord names (2147483648 + i) t
name_word names t i less is =
    let back : (2147483648 + i) - 2147483648 ≡ i = omega arith in (
      omega (arith, less),
      word-name names (2147483648 + i) (omega arith) ∙ ap (λ j. get_or names j []) back ∙ is,
    )

-- a text that is no index and no name has no number
pub no_word : (names : List (List ℕ)) (t : List ℕ) → ((i : ℕ) → t ≡ index_token i → 2147483648 ≤ i)
    → ((i : ℕ) → i < length names → get_or names i [] ≡ t → ⊥) → (k : ℕ) → IsWord names k t → ⊥
no_word names t large new k is = ⊎_elim
    (λ low. let most = large k (sym is.1 ∙ word-index names k low) in absurd (omega (arith, low, most)))
    (λ high. let less = is.0 in
    new (k - 2147483648) (omega (arith, high, less)) (sym (word-name names k high) ∙ is.1))
    (cases_lt k 2147483648)

module _ (names : List (List ℕ)) (t : List ℕ) where
  pub keeps-more : Keeps names (names ++ t ∷ [])
  keeps-more =
      let longer = length_push names t in (
        omega (arith, longer),
        λ k l. ⊎_elim
            (λ low. word-index (names ++ t ∷ []) k low ∙ sym (word-index names k low))
            (λ high. word-name (names ++ t ∷ []) k high
            ∙ get_or-append names (t ∷ []) [] (k - 2147483648) (omega (arith, high, l)) ∙ sym (word-name names k high))
            (cases_lt k 2147483648),
      )

  module _ (are : AreNames names) (new : (k : ℕ) → IsWord names k t → ⊥) where
    no_name : (i : ℕ) → i < length names → get_or names i [] ≡ t → ⊥
    no_name i l h =
        let back : (i + 2147483648) - 2147483648 ≡ i = omega arith in
        new (i + 2147483648) (
          omega (arith, l),
          word-name names (i + 2147483648) (omega arith) ∙ ap (λ j. get_or names j []) back ∙ h,
        )

    no_index_more : (i n : ℕ) → i < length (names ++ t ∷ []) → get_or (names ++ t ∷ []) i [] ≡ index_token n
        → 2147483648 ≤ n
    no_index_more i n l h = ⊎_elim
        (λ low. are.no_index i n low (sym (get_or-append names (t ∷ []) [] i low) ∙ h))
        (λ high.
        let most = length_push names t in
        let last : i ≡ length names = omega (arith, l, most, high) in
        let is : t ≡ index_token n =
        sym (ap (λ j. get_or (names ++ t ∷ []) j []) last ∙ get_or-append_seam names t [] []) ∙ h in
        ⊎_elim (λ small. absurd (new n (omega (arith, small), word-index names n small ∙ sym is))) (λ large. large)
        (cases_lt n 2147483648))
        (cases_lt i (length names))

    pub more_names : AreNames (names ++ t ∷ [])
    more_names = record {
      distinct = distinct_more names t [] are.distinct no_name;
      no_index = no_index_more;
    }
