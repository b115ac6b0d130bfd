-- Members of lists of places, and the owners at such places.
use Rattle.std.proofs.Common.{◌≡◌, ℕ, zero, suc, ◌+◌, ◌<◌, ◌≤◌, ◌⊎◌, inl, inr, List, [], ◌∷◌, ◌++◌, drop, length, get_or, Bool, true, false, ◌||◌, ◌&&◌, not, nat_eq, if◌then◌else◌, refl, sym, ap, subst, ◌∙◌, arith, true≢false}
use Rattle.std.proofs.lemmas.Bool.{or_cases, eqb-true, eq-eqb, cases_lt}
use Rattle.documents.specs.Tests.{every}
use Rattle.schemas.specs.Entry.{Entry, Form}
use Rattle.draft06.specs.EntryValidity.{form_at}
use Rattle.js_match.specs.Places.{is_at}
use Rattle.js_match.proofs.LeadsLaws.{is_at-append, or_left_true, or_right_true}
use Rattle.js_valid.specs.Parts.{asked_by}
use Rattle.js_valid.specs.Requests.{AskedAtPlaces, AsksMore}
use Rattle.js_valid.proofs.RequestLaws.{cons_at}

-- ---- members of lists

pub is_at-end : (x q : ℕ) (xs : List ℕ) → is_at q (xs ++ x ∷ []) ≡ true → (is_at q xs ≡ true) ⊎ (x ≡ q)
is_at-end x q xs h = elim (or_cases (is_at q xs) (is_at q (x ∷ [])) (sym (is_at-append q xs (x ∷ [])) ∙ h)) [
  | inl l ↦ inl l
  | inr r ↦ elim (or_cases (nat_eq x q) false r) [
    | inl e ↦ inr (eqb-true x q e)
    | inr f ↦ absurd (true≢false (sym f))
  ]
]

pub is_at-left : (q : ℕ) (xs ys : List ℕ) → is_at q xs ≡ true → is_at q (xs ++ ys) ≡ true
is_at-left q xs ys h = is_at-append q xs ys ∙ or_left_true (is_at q xs) (is_at q ys) h

pub is_at-right : (q : ℕ) (xs ys : List ℕ) → is_at q ys ≡ true → is_at q (xs ++ ys) ≡ true
is_at-right q xs ys h = is_at-append q xs ys ∙ or_right_true (is_at q xs) (is_at q ys) h

pub is_at-one : (q : ℕ) → is_at q (q ∷ []) ≡ true
is_at-one q = or_left_true (nat_eq q q) false (eq-eqb q q refl)

-- ---- places that are listed one after another

pub within-more : (n i : ℕ) (xs : List ℕ) → i < n → ((k : ℕ) → k < length xs → get_or xs k 0 < n)
    → (k : ℕ) → k < length (xs ++ i ∷ []) → get_or (xs ++ i ∷ []) k 0 < n
within-more n i [] less h zero k = less
within-more n i [] less h (suc k) l = absurd (omega (arith, l))
within-more n i (x ∷ xs) less h zero l = h 0 (omega arith)
within-more n i (x ∷ xs) less h (suc k) l =
    within-more n i xs less (λ j m. h (suc j) (omega (arith, m))) k (omega (arith, l))

-- what holds of each place up to one that isn't listed
pub others-listed : (P : ℕ → Type 0) (i : ℕ) (places : List ℕ) → ((j : ℕ) → j < i → is_at j places ≡ false → P j)
    → (j : ℕ) → j < i + 1 → is_at j (places ++ i ∷ []) ≡ false → P j
others-listed P i places h j less none = elim (cases_lt j i) [
  | inl before ↦ h j before (unless (is_at j places) refl)
  | inr after ↦
      let same : i ≡ j = omega (arith, after, less) in
      absurd (true≢false (sym (is_at-right j places (i ∷ []) (or_left_true (nat_eq i j) false (eq-eqb i j same)))
      ∙ none))
]
  where
    unless : (b : Bool) → is_at j places ≡ b → is_at j places ≡ false
    unless true e = absurd (true≢false (sym (is_at-left j places (i ∷ []) e) ∙ none))
    unless false e = e

pub others-passed : (P : ℕ → Type 0) (i : ℕ) (places : List ℕ) → P i
    → ((j : ℕ) → j < i → is_at j places ≡ false → P j) → (j : ℕ) → j < i + 1 → is_at j places ≡ false → P j
others-passed P i places here h j less none = elim (cases_lt j i) [
  | inl before ↦ h j before none
  | inr after ↦ let same : i ≡ j = omega (arith, after, less) in subst P same here
]

-- where a place is listed only if that is wanted
pub within-added : (b : Bool) (n i : ℕ) (xs xs' : List ℕ) → xs' ≡ (if b then xs ++ i ∷ [] else xs) → i < n
    → ((k : ℕ) → k < length xs → get_or xs k 0 < n) → (k : ℕ) → k < length xs' → get_or xs' k 0 < n
within-added true n i xs xs' same less h =
    subst (λ ys. (k : ℕ) → k < length ys → get_or ys k 0 < n) (sym same) (within-more n i xs less h)
within-added false n i xs xs' same less h =
    subst (λ ys. (k : ℕ) → k < length ys → get_or ys k 0 < n) (sym same) h

pub others-added : (P : ℕ → Type 0) (b : Bool) (i : ℕ) (xs xs' : List ℕ)
    → xs' ≡ (if b then xs ++ i ∷ [] else xs) → (b ≡ false → P i)
    → ((j : ℕ) → j < i → is_at j xs ≡ false → P j) → (j : ℕ) → j < i + 1 → is_at j xs' ≡ false → P j
others-added P true i xs xs' same passed h j less none =
    others-listed P i xs h j less (ap (is_at j) (sym same) ∙ none)
others-added P false i xs xs' same passed h j less none =
    others-passed P i xs (passed refl) h j less (ap (is_at j) (sym same) ∙ none)

-- ---- the owners at places

-- what is requested for the sake of the one at place e
abbrev pub at_places : (ℕ → Bool) → ℕ → List ℕ → Bool
at_places test e places = every (λ i. not (nat_eq i e) || test i) places

abbrev pub owner_asks : List Entry → (Form → List ℕ) → List ℕ → (ℕ → Bool) → ℕ → Bool
owner_asks es of owners p i = every p (of (form_at es (get_or owners i 0)))

and_assoc : (a b c : Bool) → ((a && b) && c) ≡ (a && (b && c))
and_assoc true b c = refl
and_assoc false b c = refl

and_true : (a : Bool) → (a && true) ≡ a
and_true true = refl
and_true false = refl

pub place_next : (es : List Entry) (of : Form → List ℕ) (owners places : List ℕ) (n : ℕ) (form : Form)
    (os qs os' qs' : List ℕ)
    → n < length places → form ≡ form_at es (get_or owners (get_or places n 0) 0)
    → AsksMore (get_or places n 0) (of form) os qs os' qs'
    → ((e : ℕ) (p : ℕ → Bool) → (asked_by e p os qs && at_places (owner_asks es of owners p) e (drop n places))
    ≡ at_places (owner_asks es of owners p) e places)
    → (e : ℕ) (p : ℕ → Bool) → (asked_by e p os' qs' && at_places (owner_asks es of owners p) e (drop (n + 1) places))
    ≡ at_places (owner_asks es of owners p) e places
place_next es of owners places n form os qs os' qs' less is more h e p =
    let rest = at_places (owner_asks es of owners p) e (drop (n + 1) places) in
    let i = get_or places n 0 in
    ap (λ b. b && rest) (more e p)
    ∙ and_assoc (asked_by e p os qs) (not (nat_eq i e) || every p (of form)) rest
    ∙ ap (λ f. asked_by e p os qs && ((not (nat_eq i e) || every p (of f)) && rest)) is
    ∙ ap (λ xs. asked_by e p os qs && at_places (owner_asks es of owners p) e xs) (sym (cons_at places n less))
    ∙ h e p

not-at : (test : ℕ → Bool) (e : ℕ) (places : List ℕ) → is_at e places ≡ false → at_places test e places ≡ true
not-at test e [] h = refl
not-at test e (i ∷ places) h = go (nat_eq i e) h (not-at test e places)
  where
    go : (b : Bool) → (b || is_at e places) ≡ false → (is_at e places ≡ false → at_places test e places ≡ true)
        → ((not b || test i) && at_places test e places) ≡ true
    go true h rest = absurd (true≢false h)
    go false h rest = rest h

at-one : (test : ℕ → Bool) (e : ℕ) (places : List ℕ) → is_at e places ≡ true → at_places test e places ≡ test e
at-one test e [] h = absurd (true≢false (sym h))
at-one test e (i ∷ places) h =
    go (nat_eq i e) refl h (is_at e places) refl (at-one test e places) (not-at test e places)
  where
    twice : (b : Bool) → (b && b) ≡ b
    twice true = refl
    twice false = refl

    go : (b : Bool) → nat_eq i e ≡ b → (b || is_at e places) ≡ true → (c : Bool) → is_at e places ≡ c
        → (is_at e places ≡ true → at_places test e places ≡ test e)
        → (is_at e places ≡ false → at_places test e places ≡ true)
        → ((not b || test i) && at_places test e places) ≡ test e
    go true same h true there own none =
        ap (λ b. test i && b) (own there) ∙ ap (λ x. test x && test e) (eqb-true i e same) ∙ twice (test e)
    go true same h false there own none =
        ap (λ b. test i && b) (none there) ∙ and_true (test i) ∙ ap test (eqb-true i e same)
    go false same h c there own none = own h

pub places_done : (es : List Entry) (of : Form → List ℕ) (owners places : List ℕ) (n : ℕ) (os qs : List ℕ)
    → length places ≤ n
    → ((e : ℕ) (p : ℕ → Bool) → (asked_by e p os qs && at_places (owner_asks es of owners p) e (drop n places))
    ≡ at_places (owner_asks es of owners p) e places)
    → AskedAtPlaces es of owners places os qs
places_done es of owners places n os qs end h e p =
    sym (and_true (asked_by e p os qs))
    ∙ ap (λ xs. asked_by e p os qs && at_places (owner_asks es of owners p) e xs) (sym (nothing_left places n end))
    ∙ h e p ∙ go (is_at e places) refl
  where
    nothing_left : (xs : List ℕ) (n : ℕ) → length xs ≤ n → drop n xs ≡ []
    nothing_left [] zero h = refl
    nothing_left [] (suc n) h = refl
    nothing_left (x ∷ xs) zero h = absurd (omega (arith, h))
    nothing_left (x ∷ xs) (suc n) h = nothing_left xs n (omega (arith, h))

    go : (b : Bool) → is_at e places ≡ b
        → at_places (owner_asks es of owners p) e places ≡ (not b || owner_asks es of owners p e)
    go true there = at-one (owner_asks es of owners p) e places there
    go false there = not-at (owner_asks es of owners p) e places there
