-- The numbers that are listed: the first is listed first, and all that the lines of a listed number cite is listed.
use Rattle.std.proofs.Common.{◌≡◌, ℕ, zero, suc, ◌<◌, ◌≤◌, ◌⊎◌, inl, inr, ⊎_elim, Bool, true, false, cond, if◌then◌else◌, List, [], ◌∷◌, ◌++◌, length, get_or, nat_eq, nat_lt, refl, ap, sym, ◌∙◌, subst, arith}
use Rattle.std.proofs.lemmas.Bool.{ltb-true, ltb-false, eqb-true, eq-eqb, cases_lt}
use Rattle.std.proofs.lemmas.List.{get_or_append_left}
use Rattle.std.specs.List.{list_any}
use Rattle.std.specs.Cmp.{nat_eq_equiv}
use Rattle.word_states.specs.Mention.{mention, mention_all}
use Rattle.word_laws.proofs.Mentions as M
use Rattle.list_laws.specs.In.{IsIn, Distinct}
use Rattle.list_laws.proofs.Lists.{in_left, get_or-in, in-get_or}
use Rattle.list_laws.proofs.Pigeons.{pigeon}
use Rattle.cell_laws.proofs.Lists.{distinct_append}
use Rattle.finders.specs.RowsFound.{grow}

in_has : (j : ℕ) (L : List ℕ) → list_any (nat_eq j) L ≡ true → IsIn j L
in_has j L h =
    let (y, i, e) = M.in_has nat_eq nat_eq_equiv j L h in subst (λ z. IsIn z L) (sym (eqb-true j y e)) i

distinct_mention : (L : List ℕ) (x : ℕ) → Distinct L → Distinct (mention nat_eq L x)
distinct_mention L x d = go (list_any (nat_eq x) L) refl where
  lacks : list_any (nat_eq x) L ≡ false → IsIn x L → ⊥
  lacks e i = let h = M.has_in nat_eq nat_eq_equiv x x L i (eq-eqb x x refl) in cc (h, e)

  go : (b : Bool) → list_any (nat_eq x) L ≡ b → Distinct (if b then L else L ++ x ∷ [])
  go true e = d
  go false e =
      distinct_append L (x ∷ []) d ((λ i. i), tt)
      (λ z i j. ⊎_elim (λ q. lacks e (subst (λ u. IsIn u L) q i)) (λ k. k) j)

distinct_mentions : (L xs : List ℕ) → Distinct L → Distinct (mention_all nat_eq L xs)
distinct_mentions L [] d = d
distinct_mentions L (x ∷ xs) d = distinct_mentions (mention nat_eq L x) xs (distinct_mention L x d)

module _ (extend : ℕ → List ℕ) (n : ℕ) (some : 0 < n)
    (small : (k j : ℕ) → k < n → IsIn j (extend k) → j < n) where
  abbrev pub Grown : ℕ → List ℕ
  Grown i = grow nat_eq extend 0 i

  record IsGrown (i : ℕ) (L : List ℕ) : Type 0 where
    first : (Y : List ℕ) × (L ≡ 0 ∷ Y)
    below : (k : ℕ) → IsIn k L → k < n
    apart : Distinct L
    origin : (k : ℕ) → IsIn k L → (k ≡ 0) ⊎ ((m : ℕ) × IsIn k (extend m))
    -- what the first i of them mention is there
    closed : (r j : ℕ) → r < i → r < length L → IsIn j (extend (get_or L r 0)) → IsIn j L

  step : (i : ℕ) (L : List ℕ) → IsGrown i L → (b : Bool) → nat_lt i (length L) ≡ b
      → IsGrown (suc i) (cond b (mention_all nat_eq L (extend (get_or L i 0))) L)
  step i L h false e = record {
    first = h.first;
    below = h.below;
    apart = h.apart;
    origin = h.origin;
    closed = λ r j l m x. h.closed r j (let q = ltb-false i (length L) e in omega (arith, q, m)) m x;
  }
  step i L h true e =
      let (X, p) = M.mentions_grow nat_eq nat_eq_equiv L (extend (get_or L i 0)) in
      let l = ltb-true i (length L) e in
      record {
        first = let (Y, q) = h.first in (Y ++ X, p ∙ ap (λ z. z ++ X) q);
        below = λ k x. ⊎_elim
            (λ y. h.below k y)
            (λ y. small (get_or L i 0) k (h.below (get_or L i 0) (get_or-in L i 0 l)) y)
            (M.mentions_only nat_eq nat_eq_equiv L (extend (get_or L i 0)) k x);
        apart = distinct_mentions L (extend (get_or L i 0)) h.apart;
        origin = λ k x. ⊎_elim (λ y. h.origin k y) (λ y. inr (get_or L i 0, y))
            (M.mentions_only nat_eq nat_eq_equiv L (extend (get_or L i 0)) k x);
        closed = λ r j m k x. elim (cases_lt r i) [
          | inl s ↦
              let t : r < length L = omega (arith, s, l) in
              let q : get_or (mention_all nat_eq L (extend (get_or L i 0))) r 0 ≡ get_or L r 0 =
              ap (λ z. get_or z r 0) p ∙ get_or_append_left L X 0 r t in
              subst (λ z. IsIn j z) (sym p)
              (in_left j L X (h.closed r j s t (subst (λ z. IsIn j (extend z)) q x)))
          | inr s ↦
              let t : r ≡ i = omega (arith, s, m) in
              let q : get_or (mention_all nat_eq L (extend (get_or L i 0))) r 0 ≡ get_or L i 0 =
              ap (λ z. get_or z r 0) p ∙ ap (λ z. get_or (L ++ X) z 0) t ∙ get_or_append_left L X 0 i l in
              in_has j (mention_all nat_eq L (extend (get_or L i 0)))
              (M.mentions_have nat_eq nat_eq_equiv L (extend (get_or L i 0)) j j
              (subst (λ z. IsIn j (extend z)) q x) (eq-eqb j j refl))
        ];
      }

  grown : (i : ℕ) → IsGrown i (Grown i)
  grown zero = record {
    first = ([], refl);
    below = λ k x. ⊎_elim (λ q. let p : k ≡ 0 = q in omega (arith, p, some)) (λ y. absurd y) x;
    apart = ((λ i. i), tt);
    origin = λ k x. ⊎_elim (λ q. inl q) (λ y. absurd y) x;
    closed = λ r j l m x. absurd (omega (arith, l));
  }
  grown (suc i) = step i (Grown i) (grown i) (nat_lt i (length (Grown i))) refl

  pub first_listed : (Y : List ℕ) × (Grown n ≡ 0 ∷ Y)
  first_listed = (grown n).first

  pub listed_below : (k : ℕ) → IsIn k (Grown n) → k < n
  listed_below = (grown n).below

  pub listed_from : (k : ℕ) → IsIn k (Grown n) → (k ≡ 0) ⊎ ((m : ℕ) × IsIn k (extend m))
  listed_from = (grown n).origin

  -- no more numbers are listed than there are goals
  pub few_listed : length (Grown n) ≤ n
  few_listed = pigeon 0 n (Grown n) (grown n).apart
      (λ k i. (omega arith, (let l = (grown n).below k i in omega (arith, l))))

  pub listed_closed : (k j : ℕ) → IsIn k (Grown n) → IsIn j (extend k) → IsIn j (Grown n)
  listed_closed k j i x =
      let (r, l, e) = in-get_or (Grown n) k 0 i in
      (grown n).closed r j (let f = few_listed in omega (arith, l, f)) l (subst (λ z. IsIn j (extend z)) e x)
