-- The first place in a list at which a test passes.
use Rattle.std.proofs.Common.{◌≡◌, ℕ, suc, ◌+◌, ◌<◌, List, [], ◌∷◌, ◌++◌, length, get_or, Bool, true, false, not, cond, ◌||◌, nat_lt, Some, None, position, refl, sym, ap, ◌∙◌, arith}
use Rattle.std.specs.List.{position_or_len, list_any}
use Rattle.std.proofs.lemmas.Option.{none-some}
use Rattle.std.proofs.lemmas.Bool.{ltb-true, ltb-false}
use Rattle.std.proofs.lemmas.List.{length_push}
use Rattle.std.proofs.lemmas.List.Quantifiers.{position-Some}
use Rattle.std.proofs.lemmas.List.Sums.{prefix_len-le-length, fails_before_first, position_or_len_is}
use Rattle.std.proofs.Math.ListN.{get_or-append}
use Rattle.std.proofs.Math.Seq.{get_or-append_seam}

-- By where the first such place is.

pub position-within : (n m i : ℕ) → n ≡ i → i < m → Some i ≡ cond (nat_lt n m) (Some n) None
position-within n m i e less = go (nat_lt n m) refl
  where
    go : (b : Bool) → nat_lt n m ≡ b → Some i ≡ cond b (Some n) None
    go true h = ap Some (sym e)
    go false h = let most = ltb-false n m h in absurd (omega (arith, e, less, most))

pub position-beyond : (n m : ℕ) → n ≡ m → None ≡ cond (nat_lt n m) (Some n) None
position-beyond n m e = go (nat_lt n m) refl
  where
    go : (b : Bool) → nat_lt n m ≡ b → None ≡ cond b (Some n) None
    go true h = let less = ltb-true n m h in absurd (omega (arith, e, less))
    go false h = refl

-- By what `position` gives. What holds where it gives a place is `position-Some` of std.

module _ {X : Type 0} (test : X → Bool) (xs : List X) where
  pub position_or_len-None : position test xs ≡ None → position_or_len test xs ≡ length xs
  position_or_len-None h = go (nat_lt (position_or_len test xs) (length xs)) refl h
    where
      go : (b : Bool) → nat_lt (position_or_len test xs) (length xs) ≡ b
          → cond b (Some (position_or_len test xs)) None ≡ None → position_or_len test xs ≡ length xs
      go true e h = absurd (none-some (position_or_len test xs) (sym h))
      go false e h =
          let least = ltb-false (position_or_len test xs) (length xs) e in
          let most = prefix_len-le-length (λ x. not (test x)) xs in
          omega (arith, least, most)

  pub position-None : (k : ℕ) (d : X) → position test xs ≡ None → k < length xs → test (get_or xs k d) ≡ false
  position-None k d h less =
      let all = position_or_len-None h in fails_before_first test xs k d (omega (arith, all, less))

  -- where an element passes, the first such place is what `position_or_len` gives
  pub position_or_len-Some : (i : ℕ) → position test xs ≡ Some i → i ≡ position_or_len test xs
  position_or_len-Some i h = go (nat_lt (position_or_len test xs) (length xs)) h
    where
      go : (b : Bool) → cond b (Some (position_or_len test xs)) None ≡ Some i → i ≡ position_or_len test xs
      go true h = cc
      go false h = absurd (none-some i h)

-- With one more behind the others.

module _ {X : Type 0} (test : X → Bool) (xs : List X) (x : X) where
  old : (k : ℕ) → k < length xs → test (get_or (xs ++ x ∷ []) k x) ≡ test (get_or xs k x)
  old k l = ap test (get_or-append xs (x ∷ []) x k l)

  last : test (get_or (xs ++ x ∷ []) (length xs) x) ≡ test x
  last = ap test (get_or-append_seam xs x [] x)

  at : (i : ℕ) → i < length (xs ++ x ∷ [])
      → ((k : ℕ) → k < i → test (get_or (xs ++ x ∷ []) k x) ≡ false)
      → test (get_or (xs ++ x ∷ []) i x) ≡ true → position test (xs ++ x ∷ []) ≡ Some i
  at i less earlier passes =
      sym (position-within _ _ i
      (position_or_len_is test (xs ++ x ∷ []) i x (omega (arith, less)) earlier (λ l. passes)) less)

  pub position-push_old : (i : ℕ) → position test xs ≡ Some i → position test (xs ++ x ∷ []) ≡ Some i
  position-push_old i h =
      let was = position-Some test xs i x h in
      let less = was.0 in
      let long = length_push xs x in
      at i (omega (arith, less, long)) (λ k l. old k (omega (arith, less, l)) ∙ was.2 k l) (old i less ∙ was.1)

  module _ (missing : position test xs ≡ None) where
    pub position-push_new : test x ≡ true → position test (xs ++ x ∷ []) ≡ Some (length xs)
    position-push_new h =
        let long = length_push xs x in
        at (length xs) (omega (arith, long)) (λ k l. old k l ∙ position-None test xs k x missing l) (last ∙ h)

    pub position-push_none : test x ≡ false → position test (xs ++ x ∷ []) ≡ None
    position-push_none h =
        sym (position-beyond _ _ (position_or_len_is test (xs ++ x ∷ []) (length (xs ++ x ∷ [])) x (omega arith) all
        (λ l. absurd (omega (arith, l)))))
      where
        all : (k : ℕ) → k < length (xs ++ x ∷ []) → test (get_or (xs ++ x ∷ []) k x) ≡ false
        all k l = go (nat_lt k (length xs)) refl
          where
            go : (b : Bool) → nat_lt k (length xs) ≡ b → test (get_or (xs ++ x ∷ []) k x) ≡ false
            go true e =
                let less = ltb-true k (length xs) e in old k less ∙ position-None test xs k x missing less
            go false e =
                let most = ltb-false k (length xs) e in
                let long = length_push xs x in
                let end : k ≡ length xs = omega (arith, l, long, most) in
                ap (λ j. test (get_or (xs ++ x ∷ []) j x)) end ∙ last ∙ h

-- By whether anything passes.

pub position_or_len-all_fail : {X : Type 0} (test : X → Bool) (xs : List X) → list_any test xs ≡ false
    → position_or_len test xs ≡ length xs
position_or_len-all_fail test [] h = refl
position_or_len-all_fail test (x ∷ xs) h = go (test x) h (position_or_len-all_fail test xs)
  where
    go : (b : Bool) → (b || list_any test xs) ≡ false
        → (list_any test xs ≡ false → position_or_len test xs ≡ length xs)
        → cond (not b) (1 + position_or_len test xs) 0 ≡ suc (length xs)
    go true h later = absurd (cc)
    go false h later = let rest = later h in omega (arith, rest)

pub position_or_len-passes : {X : Type 0} (test : X → Bool) (xs : List X) → list_any test xs ≡ true
    → position_or_len test xs < length xs
position_or_len-passes test [] h = absurd (cc)
position_or_len-passes test (x ∷ xs) h = go (test x) h (position_or_len-passes test xs)
  where
    go : (b : Bool) → (b || list_any test xs) ≡ true → (list_any test xs ≡ true → position_or_len test xs < length xs)
        → cond (not b) (1 + position_or_len test xs) 0 < suc (length xs)
    go true h later = omega arith
    go false h later = let rest = later h in omega (arith, rest)

pub position-all_fail : {X : Type 0} (test : X → Bool) (xs : List X) → list_any test xs ≡ false
    → position test xs ≡ None
position-all_fail test xs h = go (nat_lt (position_or_len test xs) (length xs)) refl
  where
    go : (b : Bool) → nat_lt (position_or_len test xs) (length xs) ≡ b
        → cond b (Some (position_or_len test xs)) None ≡ None
    go true e =
        let less = ltb-true (position_or_len test xs) (length xs) e in
        let all = position_or_len-all_fail test xs h in
        absurd (omega (arith, less, all))
    go false e = refl
