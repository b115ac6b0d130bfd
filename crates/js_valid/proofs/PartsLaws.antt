-- What a form asks of parts, part by part.
use Rattle.std.proofs.Common.{◌≡◌, ℕ, List, [], ◌∷◌, ◌++◌, Bool, true, false, ◌&&◌, ◌||◌, not, cond, refl, ap, sym, ◌∙◌, arith}
use Rattle.documents.specs.Tests.{every}
use Rattle.documents.specs.Document.{Document}
use Rattle.documents.specs.Measures.{every_in}
use Rattle.js_valid.specs.Parts.{of_named}

pub both : {a b c d : Bool} → a ≡ b → c ≡ d → (a && c) ≡ (b && d)
both {a = a} {b = b} {c = c} {d = d} e f = ap (λ x. x && c) e ∙ ap (λ y. b && y) f

swap_and : (a b c d : Bool) → ((a && b) && (c && d)) ≡ ((a && c) && (b && d))
swap_and a b c d = grind arith

pub every-append : {A : Type 0} (p : A → Bool) (xs ys : List A) → every p (xs ++ ys) ≡ (every p xs && every p ys)
every-append p [] ys = refl
every-append p (x ∷ xs) ys = ap (λ b. p x && b) (every-append p xs ys) ∙ and_first (p x) (every p xs) (every p ys)
  where
    and_first : (a b c : Bool) → (a && (b && c)) ≡ ((a && b) && c)
    and_first true b c = refl
    and_first false b c = refl

-- two tests of each element
every-both : {A : Type 0} (p q : A → Bool) (xs : List A) → every (λ x. p x && q x) xs ≡ (every p xs && every q xs)
every-both p q [] = refl
every-both p q (x ∷ xs) = ap (λ b. (p x && q x) && b) (every-both p q xs) ∙ swap_and (p x) (q x) (every p xs)
    (every q xs)

every-same : {A : Type 0} (p q : A → Bool) (xs : List A) → ((x : A) → p x ≡ q x) → every p xs ≡ every q xs
every-same p q [] h = refl
every-same p q (x ∷ xs) h = both (h x) (every-same p q xs h)

every-true : {A : Type 0} (xs : List A) → true ≡ every (λ (x : A). true) xs
every-true [] = refl
every-true (x ∷ xs) = every-true xs

-- ---- members

module _ (below : ℕ → Document → Bool) (test : List ℕ → List ℕ → Bool) where
  named-one : (n w : List ℕ) (e : ℕ) (ps : List (List ℕ × ℕ)) (d : Document) (b : Bool) → test n w ≡ b
      → ((not (test n w) || below e d) && every (λ q. below q d) (of_named (λ m. test m w) ps))
      ≡ every (λ q. below q d) (cond (test n w) (e ∷ of_named (λ m. test m w) ps) (of_named (λ m. test m w) ps))
  named-one n w e ps d true h = rw h refl
  named-one n w e ps d false h = rw h refl

  -- members pass name by name exactly where they pass member by member
  pub every-named : (ps : List (List ℕ × ℕ)) (ms : List (List ℕ × Document))
      → every (λ p. every_in (test p.0) (below p.1) ms) ps
      ≡ every (λ m. every (λ q. below q m.1) (of_named (λ n. test n m.0) ps)) ms
  every-named [] ms = every-true ms
  every-named (p ∷ ps) ms =
      ap (λ b. every_in (test p.0) (below p.1) ms && b) (every-named ps ms)
      ∙ sym (every-both (λ m. not (test p.0 m.0) || below p.1 m.1)
      (λ m. every (λ q. below q m.1) (of_named (λ n. test n m.0) ps)) ms)
      ∙ every-same _ _ ms (λ m. named-one p.0 m.0 p.1 ps m.1 (test p.0 m.0) refl)
