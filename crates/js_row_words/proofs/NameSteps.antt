-- The loops that name rows.
use Rattle.std.proofs.Common.{◌≡◌, ℕ, suc, ◌+◌, ◌<◌, ⊎_elim, List, [], ◌∷◌, ◌++◌, length, get_or, ap, ◌∙◌, subst, length-append, arith}
use Rattle.word_states.specs.Atom.{Atom}
use Rattle.word_states.specs.Classes.{class_count}
use Rattle.word_states.specs.Rows.{AreRows}
use Rattle.js_row_words.specs.declared.row_steps.Step.{Step}
use Rattle.js_row_words.specs.Naming.{named}
use Rattle.js_row_words.specs.Steps.{AreSteps}
use Rattle.js_row_words.proofs.NamingLaws.{target, named_step, step_more}

-- there is a step for each row that was named
pub record IsNaming (atoms : List Atom) (L : List (List ℕ)) (steps : List Step) (i k : ℕ) : Type 0 where
  pub count : length steps ≡ length (named atoms L i k)
  pub right : AreSteps atoms L steps (length steps)

module _ (atoms : List Atom) (L : List (List ℕ)) (rows : AreRows atoms L) (steps : List Step) (i k t : ℕ)
    (l : i < length L) (m : k < class_count atoms) (is : t ≡ target atoms L rows i k)
    (h : IsNaming atoms L steps i k) where
  -- where the target of a row by a class isn't named yet, a step is added for it
  pub naming_next : (new : List Step) → t ≡ length steps → new ≡ steps ++ record { row = i; class = k } ∷ []
      → IsNaming atoms L new i (k + 1)
  naming_next new e p =
      let n = h.count in
      ⊎_elim
      (λ (less, same). absurd (omega (arith, less, e, is, n)))
      (λ (at, word, more). record {
        count =
            let s = length-append steps (record { row = i; class = k } ∷ []) in
            let q = ap length p in
            let o : suc k ≡ k + 1 = omega arith in
            subst (λ z. length new ≡ length (named atoms L i z)) o (omega (arith, s, q, more, n));
        right = step_more atoms L rows steps new i k l m h.right (ap (λ z. get_or L z []) n ∙ word) p;
      })
      (named_step atoms L rows i k l m)

  pub naming_stays : (t ≡ length steps → ⊥) → IsNaming atoms L steps i (k + 1)
  naming_stays e =
      let n = h.count in
      ⊎_elim
      (λ (less, same). record {
        count =
            let o : suc k ≡ k + 1 = omega arith in
            subst (λ z. length steps ≡ length (named atoms L i z)) o (omega (arith, same, n));
        right = h.right;
      })
      (λ (at, word, more). absurd (e (omega (arith, at, is, n))))
      (named_step atoms L rows i k l m)
