-- Vectors are one where they are the same, and the place of one that is there stays where others are added.
use Rattle.std.proofs.Common.{◌≡◌, ℕ, suc, ◌+◌, ◌<◌, ◌≤◌, inl, inr, Bool, true, false, ◌&&◌, ◌||◌, not, cond, if◌then◌else◌, List, [], ◌∷◌, ◌++◌, map, take, length, get_or, refl, ap, ap₂, sym, ◌∙◌, subst, length-append, arith}
use Rattle.std.specs.Bool.{beq}
use Rattle.std.specs.Cmp.{IsEquivalence}
use Rattle.std.specs.Cmp.Lexicographic.{pointwise}
use Rattle.std.specs.List.{list_any, position_or_len}
use Rattle.std.proofs.Math.Seq.{take-suc}
use Rattle.std.proofs.lemmas.List.{map-append, length-map, length-take-le}
use Rattle.list_laws.specs.In.{IsIn}
use Rattle.list_laws.proofs.Lists.{in_map}
use Rattle.word_states.specs.Mention.{mention, mention_all}
use Rattle.word_laws.proofs.Mentions as M
use Rattle.cells.specs.Cells.{same_vector, place}
use Rattle.cell_laws.proofs.CellsOfRows.{same_vector-true, same_vector-refl}
use Rattle.list_laws.proofs.Booleans.{beq_comm}

-- the test of vectors

same_symm : (u v : List Bool) → same_vector u v ≡ same_vector v u
same_symm [] [] = refl
same_symm [] (b ∷ v) = refl
same_symm (a ∷ u) [] = refl
same_symm (a ∷ u) (b ∷ v) = ap₂ (λ x y. x && y) (beq_comm a b) (same_symm u v)

pub same_laws : IsEquivalence same_vector
same_laws = record {
  refl = same_vector-refl;
  symm = same_symm;
  congr = λ u v w e. ap (λ z. same_vector z w) (same_vector-true u v e);
}

pub same-pointwise : (u v : List Bool) → pointwise beq u v ≡ same_vector u v
same-pointwise [] [] = refl
same-pointwise [] (b ∷ v) = refl
same-pointwise (a ∷ u) [] = refl
same-pointwise (a ∷ u) (b ∷ v) = ap (λ z. beq a b && z) (same-pointwise u v)

-- places

pub place_left : (v : List Bool) (L X : List (List Bool)) → list_any (same_vector v) L ≡ true
    → place v (L ++ X) ≡ place v L
place_left v [] X h = cc h
place_left v (u ∷ L) X h = go (same_vector v u) h (place_left v L X) where
  go : (b : Bool) → (b || list_any (same_vector v) L) ≡ true
      → (list_any (same_vector v) L ≡ true → place v (L ++ X) ≡ place v L)
      → cond b 0 (suc (place v (L ++ X))) ≡ cond b 0 (suc (place v L))
  go true h more = refl
  go false h more = ap suc (more h)

place_end : (v : List Bool) (L : List (List Bool)) → list_any (same_vector v) L ≡ false
    → place v (L ++ v ∷ []) ≡ place v L
place_end v [] h = ap (λ b. cond b 0 1) (same_vector-refl v)
place_end v (u ∷ L) h = go (same_vector v u) h (place_end v L) where
  go : (b : Bool) → (b || list_any (same_vector v) L) ≡ false
      → (list_any (same_vector v) L ≡ false → place v (L ++ v ∷ []) ≡ place v L)
      → cond b 0 (suc (place v (L ++ v ∷ []))) ≡ cond b 0 (suc (place v L))
  go true h more = cc h
  go false h more = ap suc (more h)

place_mention : (v : List Bool) (L : List (List Bool)) → place v (mention same_vector L v) ≡ place v L
place_mention v L = go (list_any (same_vector v) L) refl where
  go : (b : Bool) → list_any (same_vector v) L ≡ b → place v (if b then L else L ++ v ∷ []) ≡ place v L
  go true h = refl
  go false h = place_end v L h

-- vectors as they are kept

module _ {V : Type 0} (items : V → List Bool) where
  abbrev same_items : V → V → Bool
  same_items u v = pointwise beq (items u) (items v)

  any_items : (v : V) (ks : List V) → list_any (same_items v) ks ≡ list_any (same_vector (items v)) (map items ks)
  any_items v [] = refl
  any_items v (k ∷ ks) = ap₂ (λ a b. a || b) (same-pointwise (items v) (items k)) (any_items v ks)

  place_items : (v : V) (ks : List V) → position_or_len (same_items v) ks ≡ place (items v) (map items ks)
  place_items v [] = refl
  place_items v (k ∷ ks) =
      ap₂ (λ a n. cond (not a) (1 + n) 0) (same-pointwise (items v) (items k)) (place_items v ks)
      ∙ go (same_vector (items v) (items k)) (place (items v) (map items ks)) where
        go : (b : Bool) (n : ℕ) → cond (not b) (1 + n) 0 ≡ cond b 0 (suc n)
        go true n = refl
        go false n = omega arith

  pub items_mention : (v : V) (ks : List V) → map items (if list_any (same_items v) ks then ks else ks ++ v ∷ [])
      ≡ mention same_vector (map items ks) (items v)
  items_mention v ks =
      go (list_any (same_items v) ks)
      ∙ ap (λ b. if b then map items ks else map items ks ++ items v ∷ []) (any_items v ks) where
        go : (b : Bool) → map items (if b then ks else ks ++ v ∷ [])
            ≡ (if b then map items ks else map items ks ++ items v ∷ [])
        go true = refl
        go false = map-append items ks (v ∷ [])

  pub items_place : (v : V) (ks new : List V) → map items new ≡ mention same_vector (map items ks) (items v)
      → position_or_len (same_items v) ks ≡ place (items v) (map items new)
  items_place v ks new e =
      place_items v ks ∙ sym (place_mention (items v) (map items ks)) ∙ ap (place (items v)) (sym e)

-- vectors are no more than what was mentioned

mention-length : (L : List (List Bool)) (v : List Bool) → length (mention same_vector L v) ≤ length L + 1
mention-length L v = go (list_any (same_vector v) L) where
  go : (b : Bool) → length (if b then L else L ++ v ∷ []) ≤ length L + 1
  go true = omega arith
  go false = let e = length-append L (v ∷ []) in omega (arith, e)

pub mentions-length : (L vs : List (List Bool)) → length (mention_all same_vector L vs) ≤ length L + length vs
mentions-length L [] = omega arith
mentions-length L (v ∷ vs) =
    let a = mention-length L v in let b = mentions-length (mention same_vector L v) vs in omega (arith, a, b)

-- the rows so far by their vectors: each vector once, and the place of each row's vector
pub record AreGrouped (f : List ℕ → List Bool) (rows : List (List ℕ)) (vs : List (List Bool))
    (cs : List ℕ) : Type 0 where
  pub vectors : vs ≡ mention_all same_vector [] (map f rows)
  pub cells : cs ≡ map (λ w. place (f w) vs) rows

places_stay : (f : List ℕ → List Bool) (rows : List (List ℕ)) (L X : List (List Bool))
    → ((w : List ℕ) → IsIn w rows → list_any (same_vector (f w)) L ≡ true)
    → map (λ w. place (f w) (L ++ X)) rows ≡ map (λ w. place (f w) L) rows
places_stay f [] L X h = refl
places_stay f (w ∷ rows) L X h =
    ap₂ (λ n ns. n ∷ ns) (place_left (f w) L X (h w (inl refl))) (places_stay f rows L X (λ u i. h u (inr i)))

pub grouped_end : (f : List ℕ → List Bool) (rows : List (List ℕ)) (w : List ℕ) (v : List Bool)
    (L N : List (List Bool)) (cs ds : List ℕ) → v ≡ f w → N ≡ mention same_vector L v → ds ≡ cs ++ place v N ∷ []
    → AreGrouped f rows L cs → AreGrouped f (rows ++ w ∷ []) N ds
grouped_end f rows w v L N cs ds e m d g = record {
  vectors =
      m ∙ ap₂ (mention same_vector) g.vectors e
      ∙ sym (M.mentions_append same_vector same_laws [] (map f rows) (f w ∷ []))
      ∙ ap (mention_all same_vector []) (sym (map-append f rows (w ∷ [])));
  cells =
      d ∙ ap₂ (λ xs x. xs ++ place x N ∷ []) (g.cells ∙ sym stay) e
      ∙ sym (map-append (λ u. place (f u) N) rows (w ∷ []));
} where
  stay : map (λ u. place (f u) N) rows ≡ map (λ u. place (f u) L) rows
  stay =
      let (X, p) = M.mention_grows same_vector same_laws L v in
      ap (λ z. map (λ u. place (f u) z) rows) (m ∙ p)
      ∙ places_stay f rows L X (λ u i.
      subst (λ z. list_any (same_vector (f u)) z ≡ true) (sym g.vectors)
      (M.mentions_have same_vector same_laws [] (map f rows) (f u) (f u) (in_map f u rows i) (same_vector-refl (f u))))

module _ {V : Type 0} (items : V → List Bool) (f : List ℕ → List Bool) (rows : List (List ℕ)) (i : ℕ) where
  pub grouped_few : (ks : List V) (cs : List ℕ) → i ≤ length rows → AreGrouped f (take i rows) (map items ks) cs
      → length ks ≤ i
  grouped_few ks cs l g =
      let a = mentions-length [] (map f (take i rows)) in
      let b = ap length g.vectors in
      let c = length-map ks items in
      let d = length-map (take i rows) f in
      let e = length-take-le i rows l in
      omega (arith, a, b, c, d, e)

  -- with the row at hand
  pub grouped_next : (v : List Bool) (ks new : List V) (cs ds : List ℕ) → i < length rows → v ≡ f (get_or rows i [])
      → map items new ≡ mention same_vector (map items ks) v → ds ≡ cs ++ place v (map items new) ∷ []
      → AreGrouped f (take i rows) (map items ks) cs → AreGrouped f (take (i + 1) rows) (map items new) ds
  grouped_next v ks new cs ds l e m d g =
      let plus : suc i ≡ i + 1 = omega arith in
      subst (λ z. AreGrouped f z (map items new) ds) (sym (take-suc rows i [] l) ∙ ap (λ n. take n rows) plus)
      (grouped_end f (take i rows) (get_or rows i []) v (map items ks) (map items new) cs ds e m d g)
