-- Rows as a function are the rows, where there are no more of them than may be gone through.
use Rattle.std.proofs.Common.{◌≡◌, ℕ, zero, suc, ◌+◌, ◌≤◌, List, [], ◌∷◌, ◌++◌, Bool, true, false, cond, take, get_or, flat_map, length, nat_lt, refl, ap, ap₂, sym, ◌∙◌, subst, append-nil, length-append, arith}
use Rattle.std.proofs.Math.Seq.{take-suc}
use Rattle.std.specs.Cmp.{IsEquivalence}
use Rattle.std.specs.List.{IsDistinct}
use Rattle.std.proofs.lemmas.Bool.{ltb-true, ltb-false}
use Rattle.std.proofs.lemmas.List.{take_all, take-append-le, get_or_append_left}
use Rattle.std.proofs.lemmas.List.Concat.{flat_map-append}
use Rattle.word_states.specs.Mention.{mention_all}
use Rattle.word_laws.proofs.Mentions as M
use Rattle.word_laws.proofs.Rows as R
use Rattle.finders.specs.RowsFound.{grow}

module _ {A : Type 0} (same : A → A → Bool) (laws : IsEquivalence same) (extend : A → List A) (start : A) where
  -- with one row more, what it leads to is mentioned behind the others
  pub mentioned_more : (K : List A) (x : A)
      → R.mentioned same laws extend start (K ++ x ∷ [])
      ≡ mention_all same (R.mentioned same laws extend start K) (extend x)
  mentioned_more K x =
      ap (λ z. mention_all same [] (start ∷ z))
      (flat_map-append extend K (x ∷ []) ∙ ap (λ z. flat_map extend K ++ z) (append-nil (extend x)))
      ∙ M.mentions_append same laws [] (start ∷ flat_map extend K) (extend x)

  -- what the function has gone through
  grow_through : (i : ℕ)
      → grow same extend start i ≡ R.mentioned same laws extend start (take i (grow same extend start i))
  grow_through zero = refl
  grow_through (suc i) =
      go (grow same extend start i) (grow_through i) (nat_lt i (length (grow same extend start i))) refl where
        go : (G : List A) → G ≡ R.mentioned same laws extend start (take i G) → (b : Bool) → nat_lt i (length G) ≡ b
            → cond b (mention_all same G (extend (get_or G i start))) G
            ≡ R.mentioned same laws extend start
            (take (suc i) (cond b (mention_all same G (extend (get_or G i start))) G))
        go G e false h =
            let l = ltb-false i (length G) h in
            e ∙ ap (λ z. R.mentioned same laws extend start z)
            (take_all i G l ∙ sym (take_all (suc i) G (omega (arith, l))))
        go G e true h =
            let l = ltb-true i (length G) h in
            let (X, p) = M.mentions_grow same laws G (extend (get_or G i start)) in
            let n : length (G ++ X) ≡ length G + length X = length-append G X in
            let t : take (suc i) (mention_all same G (extend (get_or G i start))) ≡ take i G ++ get_or G i start ∷ [] =
            ap (take (suc i)) p ∙ take-suc (G ++ X) i start (omega (arith, n, l))
            ∙ ap₂ (λ u v. u ++ v ∷ []) (take-append-le i G X (omega (arith, l))) (get_or_append_left G X start i l) in
            ap (λ z. mention_all same z (extend (get_or G i start))) e
            ∙ sym (mentioned_more (take i G) (get_or G i start))
            ∙ ap (λ z. R.mentioned same laws extend start z) (sym t)

  -- where it is no longer than the number of steps it is what it itself mentions
  pub grow_rows : (n : ℕ) → length (grow same extend start n) ≤ n
      → grow same extend start n ≡ R.mentioned same laws extend start (grow same extend start n)
  grow_rows n l =
      grow_through n ∙ ap (λ z. R.mentioned same laws extend start z) (take_all n (grow same extend start n) l)

  -- nothing is there twice in a list that is grown
  pub grow_distinct : (n : ℕ) → IsDistinct same (grow same extend start n)
  unfolding IsDistinct
  grow_distinct n =
      subst (λ z. IsDistinct same z) (sym (grow_through n))
      (M.mentions_distinct same laws [] (start ∷ flat_map extend (take n (grow same extend start n))) tt)
