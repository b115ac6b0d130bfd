-- Flags of rows, as they are written literal by literal.
--
-- Key: `set_listed`, one more row; `set_turned`, a flag that all rows have is taken away from some; `told_more`, one
-- more literal.
use Rattle.std.proofs.Common.{◌≡◌, ℕ, zero, suc, ◌+◌, ◌<◌, ◌≤◌, ◌≢◌, inl, inr, Bool, true, false, ◌&&◌, ◌||◌, not, if◌then◌else◌, nat_eq, nat_lt, List, [], ◌∷◌, map, length, replicate, take, get_or, set, refl, sym, ◌∙◌, ap, ap₂, subst, arith, ext_get_or, get_or-set_same, get_or-set_other, eq-eqb, ne_eqb}
use Rattle.std.specs.List.{list_any}
use Rattle.std.proofs.lemmas.Bool.{cases_eq, cases_lt}
use Rattle.std.proofs.lemmas.List.{length-set, set-get_or, get_or-map, length-map}
use Rattle.std.proofs.lemmas.List.Folds.{list_any_more}
use Rattle.documents.specs.Tests.{some}
use Rattle.js_cells.specs.Told.{AreSet, HavePlace, AreBlank}
use Rattle.std.proofs.Math.Bool.{or_assoc}

-- one flag, written twice

set-twice : {A : Type 0} (xs : List A) (i : ℕ) (a b : A) → set (set xs i a) i b ≡ set xs i b
set-twice [] i a b = refl
set-twice (x ∷ xs) zero a b = refl
set-twice (x ∷ xs) (suc i) a b = ap (λ z. x ∷ z) (set-twice xs i a b)

set-back : (xs : List Bool) (i : ℕ) (b : Bool) → i < length xs → get_or xs i false ≡ false
    → set (set xs i b) i false ≡ xs
set-back xs i b l e =
    set-twice xs i b false ∙ ap (set xs i) (sym e) ∙ set-get_or xs i false

module _ (flag : Bool) (place : ℕ) where
  abbrev after : Bool → List Bool → List Bool
  after b xs = if b then set xs place flag else xs

  pub set_same : (p q : ℕ → Bool) (old new : List (List Bool)) → ((r : ℕ) → r < length old → p r ≡ q r)
      → AreSet p flag place old new → AreSet q flag place old new
  set_same p q old new h s = record {
    count = s.count;
    at = λ r l. s.at r l ∙ ap (λ b. after b (get_or old r [])) (h r l);
  }

  -- some rows, and then others
  set_then : (p q : ℕ → Bool) (old mid new : List (List Bool)) → AreSet p flag place old mid
      → AreSet q flag place mid new → AreSet (λ r. p r || q r) flag place old new
  set_then p q old mid new s t = record {
    count = t.count ∙ s.count;
    at = λ r l.
        let m : r < length mid = (let c = s.count in omega (arith, l, c)) in
        t.at r m ∙ ap (after (q r)) (s.at r l) ∙ both (p r) (q r) (get_or old r []);
  } where
    both : (a b : Bool) (xs : List Bool) → after b (after a xs) ≡ after (a || b) xs
    both true true xs = set-twice xs place flag flag
    both true false xs = refl
    both false true xs = refl
    both false false xs = refl

  -- one row
  set_one : (old : List (List Bool)) (row : ℕ) → row < length old
      → AreSet (λ r. nat_eq r row) flag place old (set old row (set (get_or old row []) place flag))
  set_one old row l = record {
    count = length-set old row (set (get_or old row []) place flag);
    at = λ r m. elim (cases_eq r row)
        as (λ _. get_or (set old row (set (get_or old row []) place flag)) r []
        ≡ after (nat_eq r row) (get_or old r [])) [
          | inl e ↦
              ap (λ k. get_or (set old row (set (get_or old row []) place flag)) k []) e
              ∙ get_or-set_same old row (set (get_or old row []) place flag) [] l
              ∙ sym (ap₂ after (eq-eqb r row e) (ap (λ k. get_or old k []) e))
          | inr n ↦
              get_or-set_other old row r (set (get_or old row []) place flag) [] n
              ∙ sym (ap (λ b. after b (get_or old r [])) (ne_eqb r row n))
        ];
  }

  set_more : (p : ℕ → Bool) (old mid : List (List Bool)) (row : ℕ) → row < length mid
      → AreSet p flag place old mid
      → AreSet (λ r. p r || nat_eq r row) flag place old (set mid row (set (get_or mid row []) place flag))
  set_more p old mid row l s =
      set_then p (λ r. nat_eq r row) old mid (set mid row (set (get_or mid row []) place flag)) s (set_one mid row l)

-- a flag that all rows have is taken away from some

pub set_turned : (place : ℕ) (p : ℕ → Bool) (old mid new : List (List Bool)) → HavePlace place old
    → AreBlank place old → AreSet (λ r. true) true place old mid → AreSet p false place mid new
    → AreSet (λ r. not (p r)) true place old new
set_turned place p old mid new have blank s t = record {
  count = t.count ∙ s.count;
  at = λ r l.
      let m : r < length mid = (let c = s.count in omega (arith, l, c)) in
      t.at r m ∙ ap (λ v. if p r then set v place false else v) (s.at r l)
      ∙ turned (p r) (get_or old r []) (have r l) (blank r l);
} where
  turned : (b : Bool) (xs : List Bool) → place < length xs → get_or xs place false ≡ false
      → (if b then set (set xs place true) place false else set xs place true)
      ≡ (if not b then set xs place true else xs)
  turned true xs l e = set-back xs place true l e
  turned false xs l e = refl

-- what the first literals say, and nothing of the others

abbrev pub so_far : {A : Type 0} → (A → Bool) → ℕ → List A → List Bool
so_far f i [] = []
so_far f zero (x ∷ xs) = false ∷ so_far f zero xs
so_far f (suc i) (x ∷ xs) = f x ∷ so_far f i xs

so_far-length : {A : Type 0} (f : A → Bool) (i : ℕ) (xs : List A) → length (so_far f i xs) ≡ length xs
so_far-length f zero [] = refl
so_far-length f (suc i) [] = refl
so_far-length f zero (x ∷ xs) = ap suc (so_far-length f zero xs)
so_far-length f (suc i) (x ∷ xs) = ap suc (so_far-length f i xs)

so_far-blank : {A : Type 0} (f : A → Bool) (i j : ℕ) (xs : List A) → i ≤ j → get_or (so_far f i xs) j false ≡ false
so_far-blank f zero j [] l = refl
so_far-blank f (suc i) j [] l = refl
so_far-blank f zero zero (x ∷ xs) l = refl
so_far-blank f zero (suc j) (x ∷ xs) l = so_far-blank f zero j xs (omega arith)
so_far-blank f (suc i) zero (x ∷ xs) l = absurd (omega (arith, l))
so_far-blank f (suc i) (suc j) (x ∷ xs) l = so_far-blank f i j xs (omega (arith, l))

so_far-none : {A : Type 0} (f : A → Bool) (xs : List A) → replicate (length xs) false ≡ so_far f 0 xs
so_far-none f [] = refl
so_far-none f (x ∷ xs) = ap (λ z. false ∷ z) (so_far-none f xs)

so_far-all : {A : Type 0} (f : A → Bool) (i : ℕ) (xs : List A) → length xs ≤ i → so_far f i xs ≡ map f xs
so_far-all f zero [] l = refl
so_far-all f (suc i) [] l = refl
so_far-all f zero (x ∷ xs) l = absurd (omega (arith, l))
so_far-all f (suc i) (x ∷ xs) l = ap (λ z. f x ∷ z) (so_far-all f i xs (omega (arith, l)))

so_far-more : {A : Type 0} (f : A → Bool) (i : ℕ) (xs : List A) (x : A) → i < length xs → x ≡ get_or xs i x
    → (if f x then set (so_far f i xs) i true else so_far f i xs) ≡ so_far f (suc i) xs
so_far-more f i [] x l e = absurd (omega (arith, l))
so_far-more f zero (y ∷ xs) x l e = go (f x) (ap f e) where
  go : (b : Bool) → b ≡ f y
      → (if b then set (false ∷ so_far f zero xs) 0 true else false ∷ so_far f zero xs) ≡ f y ∷ so_far f zero xs
  go true h = ap (λ b. b ∷ so_far f zero xs) h
  go false h = ap (λ b. b ∷ so_far f zero xs) h
so_far-more f (suc i) (y ∷ xs) x l e =
    go (f x) (so_far f i xs) ∙ ap (λ z. f y ∷ z) (so_far-more f i xs x (omega (arith, l)) e) where
      go : (b : Bool) (zs : List Bool)
          → (if b then set (f y ∷ zs) (suc i) true else f y ∷ zs) ≡ f y ∷ (if b then set zs i true else zs)
      go true zs = refl
      go false zs = refl

-- the rows with what the first literals say of them
module _ {A : Type 0} (tells : List ℕ → A → Bool) (xs : List A) (rows : List (List ℕ)) where
  pub record AreTold (i : ℕ) (told : List (List Bool)) : Type 0 where
    pub count : length told ≡ length rows
    pub at : (r : ℕ) → r < length rows → get_or told r [] ≡ so_far (tells (get_or rows r [])) i xs

  pub told_none : (told : List (List Bool)) → told ≡ replicate (length rows) (replicate (length xs) false)
      → AreTold 0 told
  told_none told e = record {
    count = ap length e ∙ long (length rows) (replicate (length xs) false);
    at = λ r l. ap (λ z. get_or z r []) e ∙ each (length rows) r (replicate (length xs) false) l
        ∙ so_far-none (tells (get_or rows r [])) xs;
  } where
    long : (n : ℕ) (v : List Bool) → length (replicate n v) ≡ n
    long zero v = refl
    long (suc n) v = ap suc (long n v)

    each : (n r : ℕ) (v : List Bool) → r < n → get_or (replicate n v) r [] ≡ v
    each zero r v l = absurd (omega (arith, l))
    each (suc n) zero v l = refl
    each (suc n) (suc r) v l = each n r v (omega (arith, l))

  module _ (i : ℕ) (told : List (List Bool)) (t : AreTold i told) where
    pub told_place : i < length xs → HavePlace i told
    told_place l r m =
        let n : r < length rows = (let c = t.count in omega (arith, m, c)) in
        let e = ap length (t.at r n) in
        let f = so_far-length (tells (get_or rows r [])) i xs in omega (arith, l, e, f)

    pub told_blank : AreBlank i told
    told_blank r m =
        let n : r < length rows = (let c = t.count in omega (arith, m, c)) in
        ap (λ v. get_or v i false) (t.at r n) ∙ so_far-blank (tells (get_or rows r [])) i i xs (omega arith)

    pub told_more : (x : A) (new : List (List Bool)) → i < length xs → x ≡ get_or xs i x
        → AreSet (λ r. tells (get_or rows r []) x) true i told new → AreTold (i + 1) new
    told_more x new l e s = record {
      count = s.count ∙ t.count;
      at = λ r m.
          let n : r < length told = (let c = t.count in omega (arith, m, c)) in
          let next : suc i ≡ i + 1 = omega arith in
          let w = get_or rows r [] in
          s.at r n ∙ ap (λ v. if tells w x then set v i true else v) (t.at r m)
          ∙ so_far-more (tells w) i xs x l e ∙ ap (λ k. so_far (tells w) k xs) next;
    }

    pub told_all : length xs ≤ i → told ≡ map (λ w. map (tells w) xs) rows
    told_all l =
        ext_get_or [] told (map (λ w. map (tells w) xs) rows)
        (t.count ∙ sym (length-map rows (λ w. map (tells w) xs)))
        (λ r m.
        let n : r < length rows = (let c = t.count in omega (arith, m, c)) in
        t.at r n ∙ so_far-all (tells (get_or rows r [])) i xs l
        ∙ sym (get_or-map (λ w. map (tells w) xs) rows r [] [] n))

-- rows of a list, one after another
module _ (flag : Bool) (place : ℕ) (old mid : List (List Bool)) where
  pub set_listed : (rows : List ℕ) (i row d : ℕ) → i < length rows → row ≡ get_or rows i d → row < length mid
      → AreSet (λ r. list_any (nat_eq r) (take i rows)) flag place old mid
      → AreSet (λ r. list_any (nat_eq r) (take (i + 1) rows)) flag place old
      (set mid row (set (get_or mid row []) place flag))
  set_listed rows i row d l e m s =
      set_same flag place (λ r. list_any (nat_eq r) (take i rows) || nat_eq r row)
      (λ r. list_any (nat_eq r) (take (i + 1) rows)) old (set mid row (set (get_or mid row []) place flag))
      (λ r n. ap (λ k. list_any (nat_eq r) (take i rows) || nat_eq r k) e
      ∙ sym (list_any_more (nat_eq r) rows i d l))
      (set_more flag place (λ r. list_any (nat_eq r) (take i rows)) old mid row m s)

  -- flags that are set at the rows of one more list
  pub set_lists : (lists : List (List ℕ)) (numbers : List ℕ) (i d : ℕ) (new : List (List Bool)) → i < length numbers
      → AreSet (λ r. some (λ k. list_any (nat_eq r) (get_or lists k [])) (take i numbers)) flag place old mid
      → AreSet (λ r. list_any (nat_eq r) (get_or lists (get_or numbers i d) [])) flag place mid new
      → AreSet (λ r. some (λ k. list_any (nat_eq r) (get_or lists k [])) (take (i + 1) numbers)) flag place old new
  set_lists lists numbers i d new l s t =
      set_same flag place
      (λ r. some (λ k. list_any (nat_eq r) (get_or lists k [])) (take i numbers)
      || list_any (nat_eq r) (get_or lists (get_or numbers i d) []))
      (λ r. some (λ k. list_any (nat_eq r) (get_or lists k [])) (take (i + 1) numbers)) old new
      (λ r m. sym (some_more (λ k. list_any (nat_eq r) (get_or lists k [])) numbers i d l))
      (set_then flag place (λ r. some (λ k. list_any (nat_eq r) (get_or lists k [])) (take i numbers))
      (λ r. list_any (nat_eq r) (get_or lists (get_or numbers i d) [])) old mid new s t) where
        some_more : (p : ℕ → Bool) (xs : List ℕ) (i d : ℕ) → i < length xs
            → some p (take (i + 1) xs) ≡ (some p (take i xs) || p (get_or xs i d))
        some_more p [] i d l = absurd (omega (arith, l))
        some_more p (x ∷ xs) zero d l = swap (p x) where
          swap : (b : Bool) → (b || false) ≡ (false || b)
          swap true = refl
          swap false = refl
        some_more p (x ∷ xs) (suc i) d l =
            let next : suc i + 1 ≡ suc (i + 1) = omega arith in
            ap (λ n. some p (take n (x ∷ xs))) next
            ∙ ap (λ b. p x || b) (some_more p xs i d (omega (arith, l)))
            ∙ sym (or_assoc (p x) (some p (take i xs)) (p (get_or xs i d)))
