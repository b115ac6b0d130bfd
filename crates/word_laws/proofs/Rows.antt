-- Lists that are what they themselves mention, gone through in order: there is one, it has all that is reached, and
-- a loop that mentions element by element makes it.
use Rattle.std.proofs.Common.{◌≡◌, ℕ, zero, suc, ◌+◌, ◌<◌, ◌⊎◌, inl, inr, List, [], ◌∷◌, ◌++◌, Bool, true, take, get_or, flat_map, length, refl, ap, ap₂, sym, ◌∙◌, subst, append-nil, append_assoc, length-append, arith}
use Rattle.std.specs.Cmp.{IsEquivalence}
use Rattle.std.specs.List.{list_any, IsDistinct}
use Rattle.std.proofs.lemmas.List.Concat.{flat_map-append}
use Rattle.word_states.specs.Mention.{mention, mention_all}
use Rattle.word_laws.proofs.Mentions as M
use Rattle.std.proofs.Math.Seq.{take-suc, take-length}
use Rattle.std.proofs.lemmas.List.{take-append-le, get_or_append_left}
use Rattle.list_laws.proofs.Lists.{in_right, prefixes, in_flat_map, from_flat_map}
use Rattle.list_laws.specs.In.{IsIn}

-- `extend` gives what an element mentions, each larger than the element, and the same of elements that are the same
module _ {A : Type 0} (same : A → A → Bool) (laws : IsEquivalence same) (extend : A → List A) (start : A) where
  -- the start and what the elements of the list mention, in order of first mention
  abbrev pub mentioned : List A → List A
  mentioned L = mention_all same [] (start ∷ flat_map extend L)

  -- what a beginning of the list mentions is a beginning of what all of it mentions
  pub begins : (K X : List A) → (Y : List A) × (mentioned (K ++ X) ≡ mentioned K ++ Y)
  begins K X =
      let (Y, p) = M.mentions_grow same laws (mentioned K) (flat_map extend X) in (
        Y,
        ap (λ z. mention_all same [] (start ∷ z)) (flat_map-append extend K X)
            ∙ M.mentions_append same laws [] (start ∷ flat_map extend K) (flat_map extend X) ∙ p,
      )

  pub rows_distinct : (L : List A) → L ≡ mentioned L → IsDistinct same L
  unfolding IsDistinct
  rows_distinct L e =
      subst (λ z. IsDistinct same z) (sym e) (M.mentions_distinct same laws [] (start ∷ flat_map extend L) tt)

  module _ (size : A → ℕ) (larger : (x y : A) → IsIn y (extend x) → size x < size y)
      (follows : (x y z : A) → same x y ≡ true → IsIn z (extend x)
      → (u : A) × IsIn u (extend y) × (same z u ≡ true)) where
    -- a list that has all that it mentions
    abbrev pub IsClosed : List A → Type 0
    IsClosed K = (x : A) → list_any (same x) (mentioned K) ≡ true → list_any (same x) K ≡ true

    has_start : (K : List A) → list_any (same start) (mentioned K) ≡ true
    has_start K = M.mentions_have same laws [] (start ∷ flat_map extend K) start start (inl refl) (laws.refl start)

    has_next : (K : List A) (x z : A) → list_any (same x) K ≡ true → IsIn z (extend x)
        → list_any (same z) (mentioned K) ≡ true
    has_next K x z h i =
        let (y, j, s) = M.in_has same laws x K h in
        let (u, k, t) = follows x y z s i in
        M.mentions_have same laws [] (start ∷ flat_map extend K) z u (inr (in_flat_map extend u y K j k)) t

    module _ (L : List A) (rows : L ≡ mentioned L) where
      pub rows_start : list_any (same start) L ≡ true
      rows_start = subst (λ z. list_any (same start) z ≡ true) (sym rows) (has_start L)

      pub rows_next : (x z : A) → list_any (same x) L ≡ true → IsIn z (extend x) → list_any (same z) L ≡ true
      rows_next x z h i = subst (λ r. list_any (same z) r ≡ true) (sym rows) (has_next L x z h i)

      -- what is true of the start and of what elements mention is true of each
      pub rows_each : (P : A → Type 0) → P start → ((x y : A) → P x → IsIn y (extend x) → P y) → (y : A) → IsIn y L
          → P y
      rows_each P base more y i = go (suc (size y)) y (omega arith) i where
        go : (n : ℕ) (y : A) → size y < n → IsIn y L → P y
        go zero y l i = absurd (omega (arith, l))
        go (suc n) y l i = from (M.mentions_only same laws [] (start ∷ flat_map extend L) y
            (subst (λ z. IsIn y z) rows i)) (go n) where
              from : IsIn y [] ⊎ IsIn y (start ∷ flat_map extend L) → ((x : A) → size x < n → IsIn x L → P x) → P y
              from (inl j) less = absurd j
              from (inr (inl e)) less = subst P (sym e) base
              from (inr (inr j)) less =
                  let (x, k, m) = from_flat_map extend y L j in
                  more x y (less x (let q = larger x y m in omega (arith, q, l)) k) m

      -- a closed list has each
      pub closed_has : (K : List A) → IsClosed K → (y : A) → IsIn y L → list_any (same y) K ≡ true
      closed_has K full =
          rows_each (λ y. list_any (same y) K ≡ true) (full start (has_start K))
          (λ x y h i. full y (has_next K x y h i))

      -- a next element after a beginning that mentions nothing past itself: none
      stuck : (K X : List A) (x : A) → L ≡ K ++ x ∷ X → (Z : List A) × (K ≡ mentioned K ++ Z) → ⊥
      stuck K X x e (Z, p) =
          M.distinct_parts same laws x K (x ∷ X) (subst (λ z. IsDistinct same z) e (rows_distinct L rows))
          (closed_has K (λ y h. subst (λ z. list_any (same y) z ≡ true) (sym p)
          (M.has_left same laws y (mentioned K) Z h)) x
          (subst (λ z. IsIn x z) (sym e) (in_right x K (x ∷ X) (inl refl))))
          (inl refl)

      -- what a beginning of the rows mentions is longer by the next row at least
      pub next : (K X : List A) (x : A) → L ≡ K ++ x ∷ X → (Y : List A) × (mentioned K ≡ K ++ x ∷ Y)
      next K X x e =
          let (Y, p) = begins K (x ∷ X) in
          elim (prefixes K (x ∷ X) (mentioned K) Y (sym e ∙ rows ∙ ap (λ z. mentioned z) e ∙ p)) [
            | inl (z, E, a, b) ↦ (let q : x ≡ z = cc b in (E, a ∙ ap (λ u. K ++ u ∷ E) (sym q)))
            | inr s ↦ absurd (stuck K X x e s)
          ]

      ended : (K X : List A) (x : A) → K ≡ mentioned K → L ≡ K ++ x ∷ X → ⊥
      ended K X x m e = stuck K X x e ([], m ∙ sym (append-nil (mentioned K)))

    -- there is one such list
    pub rows_same : (L K : List A) → L ≡ mentioned L → K ≡ mentioned K → L ≡ K
    rows_same L K l k = let q = go L K [] refl refl in q where
      first : (x y : A) (B C D : List A) → D ++ x ∷ B ≡ D ++ y ∷ C → x ≡ y
      first x y B C [] p = cc p
      first x y B C (d ∷ D) p = first x y B C D (let t : D ++ x ∷ B ≡ D ++ y ∷ C = cc p in t)

      go : (X Y D : List A) → L ≡ D ++ X → K ≡ D ++ Y → X ≡ Y
      go [] [] D e f = refl
      go [] (y ∷ Y) D e f =
          absurd (ended K k D Y y (subst (λ z. z ≡ mentioned z) (e ∙ append-nil D) l) f)
      go (x ∷ X) [] D e f =
          absurd (ended L l D X x (subst (λ z. z ≡ mentioned z) (f ∙ append-nil D) k) e)
      go (x ∷ X) (y ∷ Y) D e f =
          let (B, b) = next L l D X x e in
          let (C, c) = next K k D Y y f in
          let q : x ≡ y = first x y B C D (sym b ∙ c) in
          ap₂ (λ u v. u ∷ v) q
          (go X Y (D ++ x ∷ []) (e ∙ sym (append_assoc D (x ∷ []) X))
          (f ∙ ap (λ z. D ++ z ∷ Y) (sym q) ∙ sym (append_assoc D (x ∷ []) Y)))

  -- the loop: what is found so far, with the elements before i and the first k of what element i mentions gone through
  abbrev pub IsBuilding : List A → ℕ → ℕ → Type 0
  IsBuilding L i k =
      (L ≡ mention_all same [] (start ∷ flat_map extend (take i L) ++ take k (extend (get_or L i start))))
      × (i < length L)

  pub next_mention : (L : List A) (i k : ℕ) (x d : A) → IsBuilding L i k → k < length (extend (get_or L i start))
      → x ≡ get_or (extend (get_or L i start)) k d → IsBuilding (mention same L x) i (suc k)
  next_mention L i k x d (e, l) b f =
      let row = get_or L i start in
      let (X, p) = M.mention_grows same laws L x in
      let t : take i (mention same L x) ≡ take i L = ap (λ z. take i z) p ∙ take-append-le i L X (omega (arith, l)) in
      let g : get_or (mention same L x) i start ≡ row = ap (λ z. get_or z i start) p
      ∙ get_or_append_left L X start i l in
      let front = flat_map extend (take i L) ++ take k (extend row) in
      let h : mention same L x ≡ mention_all same [] (start ∷ front ++ x ∷ []) =
      ap (λ z. mention same z x) e ∙ sym (M.mentions_append same laws [] (start ∷ front) (x ∷ [])) in
      let a : front ++ x ∷ [] ≡ flat_map extend (take i L) ++ take (suc k) (extend row) =
      append_assoc (flat_map extend (take i L)) (take k (extend row)) (x ∷ [])
      ∙ ap (λ z. flat_map extend (take i L) ++ z)
      (ap (λ z. take k (extend row) ++ z ∷ []) f ∙ sym (take-suc (extend row) k d b)) in
      let n : length (mention same L x) ≡ length L + length X = ap length p ∙ length-append L X in (
        h ∙ ap (λ z. mention_all same [] (start ∷ z)) a
            ∙ sym (ap₂ (λ u v. mention_all same [] (start ∷ flat_map extend u ++ take (suc k) (extend v))) t g),
        omega (arith, n, l),
      )

  through : (L : List A) (i : ℕ) → IsBuilding L i (length (extend (get_or L i start))) → L ≡ mentioned (take (suc i) L)
  through L i (e, l) =
      let row = get_or L i start in
      e ∙ ap (λ z. mention_all same [] (start ∷ z))
      (ap (λ z. flat_map extend (take i L) ++ z) (take-length (extend row) ∙ sym (append-nil (extend row)))
      ∙ sym (flat_map-append extend (take i L) (row ∷ []))
      ∙ ap (λ z. flat_map extend z) (sym (take-suc L i start l)))

  pub next_row : (L : List A) (i : ℕ) → IsBuilding L i (length (extend (get_or L i start))) → suc i < length L
      → IsBuilding L (suc i) 0
  next_row L i b l = (
    through L i b ∙ ap (λ z. mention_all same [] (start ∷ z))
        (sym (append-nil (flat_map extend (take (suc i) L)))),
    l,
  )

  pub end_building : (L : List A) (i : ℕ) → IsBuilding L i (length (extend (get_or L i start))) → suc i ≡ length L
      → L ≡ mentioned L
  end_building L i b e =
      through L i b ∙ ap (λ z. mentioned z) (ap (λ z. take z L) e ∙ take-length L)

  -- what is found so far has nothing twice
  pub building_distinct : (L : List A) (i k : ℕ) → IsBuilding L i k → IsDistinct same L
  unfolding IsDistinct
  building_distinct L i k (e, l) =
      subst (λ z. IsDistinct same z) (sym e)
      (M.mentions_distinct same laws [] (start ∷ flat_map extend (take i L) ++ take k (extend (get_or L i start))) tt)
