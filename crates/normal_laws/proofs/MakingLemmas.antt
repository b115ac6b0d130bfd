-- How makers are put together.
use Rattle.std.proofs.Common.{◌≡◌, ℕ, suc, ◌+◌, List, [], ◌∷◌, ◌++◌, length, Bool, true, Option, Some, None, refl, ap, sym, ◌∙◌, subst, arith, add-zero}
use Rattle.documents.specs.Tests.{every, some}
use Rattle.documents.specs.Document.{Document, is_document}
use Rattle.positions.specs.Position.{Position, All, Any}
use Rattle.positions.specs.Holds.{asks}
use Rattle.schemas.specs.Schema.{if_there}
use Rattle.normal_forms.specs.Nodes.{Maker, nothing, node, entry, both, above, each, if_some, after}
use Rattle.normal_laws.specs.Making.{Stands, all_pass, IsMeaning, AreMet, Makes}

pub stands-append : (T : List Position) (n : ℕ) (xs ys : List Position) → Stands T n (xs ++ ys)
    → Stands T n xs × Stands T (n + length xs) ys
stands-append T n [] ys h = (tt, subst (λ k. Stands T k ys) (sym (add-zero n)) h)
stands-append T n (x ∷ xs) ys h =
    let rest = stands-append T (suc n) xs ys h.1 in
    let place : suc n + length xs ≡ n + length (x ∷ xs) = omega arith in
    ((h.0, rest.0), subst (λ k. Stands T k ys) place rest.1)

-- the tests of each of a list
abbrev pub tests_of : {A : Type 0} → (A → Document → Bool) → List A → List (Document → Bool)
tests_of t [] = []
tests_of t (x ∷ xs) = t x ∷ tests_of t xs

module _ (T : List Position) (holds : ℕ → Document → Bool) (meaning : IsMeaning T holds) where
  pub met-append : (qs rs : List ℕ) (ps ts : List (Document → Bool)) → AreMet T holds qs ps → AreMet T holds rs ts
      → AreMet T holds (qs ++ rs) (ps ++ ts)
  met-append [] rs [] ts a b = b
  met-append (q ∷ qs) rs (p ∷ ps) ts a b = (a.0, met-append qs rs ps ts a.1 b)
  met-append [] rs (p ∷ ps) ts a b = absurd a
  met-append (q ∷ qs) rs [] ts a b = absurd a

  pub makes-nothing : Makes T holds nothing []
  makes-nothing n s = tt

  -- a node makes the test of what its position requires
  pub makes-node : (P : Position) (p : Document → Bool)
      → ((J : Document) → is_document J ≡ true → asks (λ q. holds q J) holds P J ≡ p J)
      → Makes T holds (node P) (p ∷ [])
  makes-node P p h n s =
      (λ J d. meaning n J ∙ ap (λ Q. asks (λ q. holds q J) holds Q J) s.0 ∙ h J d, tt)

  pub makes-entry : (e : ℕ) → Makes T holds (entry e) (holds e ∷ [])
  makes-entry e n s = (λ J d. refl, tt)

  -- two makers, one after the other, make the tests of both
  pub makes-both : (f g : Maker) (ps ts : List (Document → Bool)) → Makes T holds f ps → Makes T holds g ts
      → Makes T holds (both f g) (ps ++ ts)
  makes-both f g ps ts a b n s =
      let parts = stands-append T n (f n).added (g (after n (f n))).added s in
      met-append (f n).named (g (after n (f n))).named ps ts (a n parts.0) (b (after n (f n)) parts.1)

  pub makes-above : (P : List ℕ → Position) (p : Document → Bool) (f : Maker) (ps : List (Document → Bool))
      → Makes T holds f ps
      → ((qs : List ℕ) → AreMet T holds qs ps → (J : Document) → is_document J ≡ true
      → asks (λ q. holds q J) holds (P qs) J ≡ p J)
      → Makes T holds (above P f) (p ∷ [])
  makes-above P p f ps a h n s =
      let parts = stands-append T n (f n).added (P (f n).named ∷ []) s in (
        λ J d. meaning (after n (f n)) J ∙ ap (λ Q. asks (λ q. holds q J) holds Q J) parts.1.0
            ∙ h (f n).named (a n parts.0) J d,
        tt,
      )

  pub every-met : (qs : List ℕ) (ps : List (Document → Bool)) → AreMet T holds qs ps → (J : Document)
      → is_document J ≡ true → every (λ q. holds q J) qs ≡ every (λ p. p J) ps
  every-met [] [] a J d = refl
  every-met (q ∷ qs) (p ∷ ps) a J d = rw (a.0 J d) (rw (every-met qs ps a.1 J d) refl)
  every-met [] (p ∷ ps) a J d = absurd a
  every-met (q ∷ qs) [] a J d = absurd a

  pub some-met : (qs : List ℕ) (ps : List (Document → Bool)) → AreMet T holds qs ps → (J : Document)
      → is_document J ≡ true → some (λ q. holds q J) qs ≡ some (λ p. p J) ps
  some-met [] [] a J d = refl
  some-met (q ∷ qs) (p ∷ ps) a J d = rw (a.0 J d) (rw (some-met qs ps a.1 J d) refl)
  some-met [] (p ∷ ps) a J d = absurd a
  some-met (q ∷ qs) [] a J d = absurd a

  -- a node that requires all that was made
  pub makes-all : (f : Maker) (ps : List (Document → Bool)) → Makes T holds f ps
      → Makes T holds (above All f) (all_pass ps ∷ [])
  makes-all f ps a = makes-above All (all_pass ps) f ps a (λ qs m J d. every-met qs ps m J d)

  pub makes-any : (f : Maker) (ps : List (Document → Bool)) → Makes T holds f ps
      → Makes T holds (above Any f) ((λ J. some (λ p. p J) ps) ∷ [])
  makes-any f ps a = makes-above Any (λ J. some (λ p. p J) ps) f ps a (λ qs m J d. some-met qs ps m J d)

  pub makes-each : {A : Type 0} (f : A → Maker) (t : A → Document → Bool) (xs : List A)
      → ((x : A) → Makes T holds (f x) (t x ∷ []))
      → Makes T holds (each f xs) (tests_of t xs)
  makes-each f t [] h = makes-nothing
  makes-each f t (x ∷ xs) h = makes-both (f x) (each f xs) (t x ∷ []) (tests_of t xs) (h x) (makes-each f t xs h)

  pub makes-if : {A : Type 0} (f : A → Maker) (ps : A → List (Document → Bool)) (o : Option A)
      → ((x : A) → Makes T holds (f x) (ps x))
      → Makes T holds (if_some f o) (if_there [] ps o)
  makes-if f ps None h = makes-nothing
  makes-if f ps (Some x) h = h x
