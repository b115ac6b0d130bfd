-- Lists without repeats pass the same tests.
use Rattle.std.proofs.Common.{◌≡◌, List, [], ◌∷◌, Bool, true, false, ◌&&◌, ◌||◌, ◌⊎◌, inl, inr, refl, ap, sym, ◌∙◌, true≢false}
use Rattle.std.proofs.Math.Bool.{and-true, and-false, or-true, or-false}
use Rattle.std.proofs.lemmas.Bool.{and_parts, or_cases, or_left, or_right}
use Rattle.documents.specs.Tests.{every, some}
use Rattle.normal_forms.specs.KeywordNodes.{once_among, once}

-- what is there already adds nothing
or-absorbs : (a b d : Bool) → (a ≡ true → d ≡ true) → (b || d) ≡ ((a || b) || d)
or-absorbs true b d h = rw (h refl) (or-true b)
or-absorbs false b d h = refl

and-absorbs : (a b d : Bool) → (d ≡ true → a ≡ true) → (b && d) ≡ ((a && b) && d)
and-absorbs a b true h = rw (h refl) refl
and-absorbs a b false h = and-false b ∙ sym (and-false (a && b))

or-moves : (a o s d : Bool) → (o || (a || d)) ≡ (s || (a || d)) → ((a || o) || d) ≡ ((a || s) || d)
or-moves true o s d h = refl
or-moves false o s d h = h

and-moves : (a o s d : Bool) → (o && (a && d)) ≡ (s && (a && d)) → ((a && o) && d) ≡ ((a && s) && d)
and-moves true o s d h = h
and-moves false o s d h = refl

module _ {A : Type 0} (same : A → A → Bool) (same-eq : (x y : A) → same x y ≡ true → x ≡ y) (p : A → Bool) where
  found : (x : A) (done : List A) → some (same x) done ≡ true → p x ≡ true → some p done ≡ true
  found x [] h e = h
  found x (y ∷ done) h e = either (or_cases (same x y) (some (same x) done) h) (λ r. found x done r e) where
    either : (same x y ≡ true) ⊎ (some (same x) done ≡ true) → (some (same x) done ≡ true → some p done ≡ true)
        → some p (y ∷ done) ≡ true
    either (inl s) rest = or_left (p y) (some p done) (ap p (sym (same-eq x y s)) ∙ e)
    either (inr r) rest = or_right (p y) (some p done) (rest r)

  passed : (x : A) (done : List A) → some (same x) done ≡ true → every p done ≡ true → p x ≡ true
  passed x [] h e = absurd (true≢false (sym h))
  passed x (y ∷ done) h e =
      let parts = and_parts (p y) (every p done) e in
      either (or_cases (same x y) (some (same x) done) h) parts.0 (λ r. passed x done r parts.1) where
        either : (same x y ≡ true) ⊎ (some (same x) done ≡ true) → p y ≡ true → (some (same x) done ≡ true → p x ≡ true)
            → p x ≡ true
        either (inl s) e rest = ap p (same-eq x y s) ∙ e
        either (inr r) e rest = rest r

  some-among : (done xs : List A) → (some p (once_among same done xs) || some p done) ≡ (some p xs || some p done)
  some-among done [] = refl
  some-among done (x ∷ xs) =
      by_test (some (same x) done) refl (some-among done xs) (some-among (x ∷ done) xs) where
        by_test : (b : Bool) → some (same x) done ≡ b
            → (some p (once_among same done xs) || some p done) ≡ (some p xs || some p done)
            → (some p (once_among same (x ∷ done) xs) || (p x || some p done)) ≡ (some p xs || (p x || some p done))
            → (some p (once_among same done (x ∷ xs)) || some p done) ≡ ((p x || some p xs) || some p done)
        by_test true e skipped kept = rw e (skipped ∙ or-absorbs (p x) (some p xs) (some p done) (found x done e))
        by_test false e skipped kept =
            rw e (or-moves (p x) (some p (once_among same (x ∷ done) xs)) (some p xs) (some p done) kept)

  every-among : (done xs : List A) → (every p (once_among same done xs) && every p done) ≡ (every p xs && every p done)
  every-among done [] = refl
  every-among done (x ∷ xs) =
      by_test (some (same x) done) refl (every-among done xs) (every-among (x ∷ done) xs) where
        by_test : (b : Bool) → some (same x) done ≡ b
            → (every p (once_among same done xs) && every p done) ≡ (every p xs && every p done)
            → (every p (once_among same (x ∷ done) xs) && (p x && every p done)) ≡ (every p xs && (p x && every p done))
            → (every p (once_among same done (x ∷ xs)) && every p done) ≡ ((p x && every p xs) && every p done)
        by_test true e skipped kept = rw e (skipped ∙ and-absorbs (p x) (every p xs) (every p done) (passed x done e))
        by_test false e skipped kept =
            rw e (and-moves (p x) (every p (once_among same (x ∷ done) xs)) (every p xs) (every p done) kept)

  -- dropping repeats changes no test of some element
  pub some-once : (xs : List A) → some p (once same xs) ≡ some p xs
  some-once xs = sym (or-false (some p (once same xs))) ∙ some-among [] xs ∙ or-false (some p xs)

  -- dropping repeats changes no test of all elements
  pub every-once : (xs : List A) → every p (once same xs) ≡ every p xs
  every-once xs = sym (and-true (every p (once same xs))) ∙ every-among [] xs ∙ and-true (every p xs)
