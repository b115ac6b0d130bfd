-- Elements of an array by their places: which item of a frame speaks of the element at a place, and that a list meets
-- `items` exactly where the element at each place meets the item that speaks of it.
use Rattle.std.proofs.Common.{◌≡◌, ℕ, zero, suc, ◌<◌, ◌≤◌, inl, inr, Bool, true, false, ◌&&◌, cond, nat_lt, List, [], ◌∷◌, drop, length, refl, sym, ◌∙◌, arith}
use Rattle.std.proofs.lemmas.Bool.{and_parts, and_from, ltb-false}
use Rattle.documents.specs.Tests.{every}
use Rattle.documents.specs.Measures.{meets_in_order}
use Rattle.documents.specs.Document.{Document}
use Rattle.frames.specs.Frame.{Head, In}
use Rattle.frames.specs.ArrayFrame.{item_at, index_of}
use Rattle.list_laws.specs.In.{IsIn}
use Rattle.array_laws.specs.ArrayValues.{stand, doc_at}

-- the element at a place within the list is in the list
pub doc_in : (ds : List Document) (j : ℕ) → j < length ds → IsIn (doc_at ds j) ds
doc_in [] j l = absurd (omega (arith, l))
doc_in (d ∷ ds) zero l = inl refl
doc_in (d ∷ ds) (suc j) l = inr (doc_in ds j (omega (arith, l)))

pub in_doc : (d : Document) (ds : List Document) → IsIn d ds → (j : ℕ) × (j < length ds) × (doc_at ds j ≡ d)
in_doc d [] i = absurd i
in_doc d (x ∷ ds) (inl e) = (0, omega arith, sym e)
in_doc d (x ∷ ds) (inr i) = let (j, l, e) = in_doc d ds i in (suc j, omega (arith, l), e)

-- past every prefix each place has the item of the rest
pub item_past : (ps : List ℕ) (r i : ℕ) → length ps ≤ i → item_at ps r i ≡ r
item_past [] r i l = refl
item_past (p ∷ ps) r zero l = absurd (omega (arith, l))
item_past (p ∷ ps) r (suc i) l = item_past ps r i (omega (arith, l))

pub item_stand : (ps : List ℕ) (r n j : ℕ) → length ps ≤ n → item_at ps r (index_of n (stand n j)) ≡ item_at ps r j
item_stand ps r n j l = go (nat_lt j n) refl where
  go : (b : Bool) → nat_lt j n ≡ b → item_at ps r (index_of n (cond b (Head j) (In 0))) ≡ item_at ps r j
  go true e = refl
  go false e = let h = ltb-false j n e in item_past ps r n l ∙ sym (item_past ps r j (omega (arith, h, l)))

module _ (b : ℕ → Document → Bool) where
  abbrev pub in_items : List ℕ → ℕ → List Document → Bool
  in_items ps r es = meets_in_order b ps es && every (b r) (drop (length ps) es)

  pub every_doc : (p : Document → Bool) (es : List Document) → every p es ≡ true → (j : ℕ) → j < length es
      → p (doc_at es j) ≡ true
  every_doc p [] e j l = absurd (omega (arith, l))
  every_doc p (d ∷ es) e zero l = (and_parts (p d) (every p es) e).0
  every_doc p (d ∷ es) e (suc j) l = every_doc p es (and_parts (p d) (every p es) e).1 j (omega (arith, l))

  pub doc_every : (p : Document → Bool) (es : List Document) → ((j : ℕ) → j < length es → p (doc_at es j) ≡ true)
      → every p es ≡ true
  doc_every p [] h = refl
  doc_every p (d ∷ es) h =
      and_from (p d) (every p es) (h 0 (omega arith)) (doc_every p es (λ j l. h (suc j) (omega (arith, l))))

  and_swap : (x y z : Bool) → ((x && y) && z) ≡ true → (x ≡ true) × ((y && z) ≡ true)
  and_swap true y z e = (refl, e)
  and_swap false y z e = cc

  and_back : (x y z : Bool) → x ≡ true → (y && z) ≡ true → ((x && y) && z) ≡ true
  and_back true y z e h = h
  and_back false y z e h = cc

  pub items_at : (ps : List ℕ) (r : ℕ) (es : List Document) → in_items ps r es ≡ true → (j : ℕ) → j < length es
      → b (item_at ps r j) (doc_at es j) ≡ true
  items_at [] r es e j l = every_doc (b r) es e j l
  items_at (p ∷ ps) r [] e j l = absurd (omega (arith, l))
  items_at (p ∷ ps) r (d ∷ es) e zero l =
      (and_swap (b p d) (meets_in_order b ps es) (every (b r) (drop (length ps) es)) e).0
  items_at (p ∷ ps) r (d ∷ es) e (suc j) l =
      items_at ps r es (and_swap (b p d) (meets_in_order b ps es) (every (b r) (drop (length ps) es)) e).1 j
      (omega (arith, l))

  pub items_from : (ps : List ℕ) (r : ℕ) (es : List Document)
      → ((j : ℕ) → j < length es → b (item_at ps r j) (doc_at es j) ≡ true) → in_items ps r es ≡ true
  items_from [] r es h = doc_every (b r) es h
  items_from (p ∷ ps) r [] h = refl
  items_from (p ∷ ps) r (d ∷ es) h =
      and_back (b p d) (meets_in_order b ps es) (every (b r) (drop (length ps) es)) (h 0 (omega arith))
      (items_from ps r es (λ j l. h (suc j) (omega (arith, l))))

  -- where not all are met, one of them isn't
  pub items_fail : (ps : List ℕ) (r : ℕ) (es : List Document) → in_items ps r es ≡ false
      → (j : ℕ) × (j < length es) × (b (item_at ps r j) (doc_at es j) ≡ false)
  items_fail [] r [] e = cc
  items_fail [] r (d ∷ es) e = go (b r d) refl e (items_fail [] r es) where
    go : (t : Bool) → b r d ≡ t → (t && every (b r) es) ≡ false
        → (every (b r) es ≡ false → (j : ℕ) × (j < length es) × (b r (doc_at es j) ≡ false))
        → (j : ℕ) × (j < suc (length es)) × (b r (doc_at (d ∷ es) j) ≡ false)
    go false h e more = (0, omega arith, h)
    go true h e more = let (j, l, f) = more e in (suc j, omega (arith, l), f)
  items_fail (p ∷ ps) r [] e = cc
  items_fail (p ∷ ps) r (d ∷ es) e = go (b p d) refl e (items_fail ps r es) where
    go : (t : Bool) → b p d ≡ t → ((t && meets_in_order b ps es) && every (b r) (drop (length ps) es)) ≡ false
        → (in_items ps r es ≡ false → (j : ℕ) × (j < length es) × (b (item_at ps r j) (doc_at es j) ≡ false))
        → (j : ℕ) × (j < suc (length es)) × (b (item_at (p ∷ ps) r j) (doc_at (d ∷ es) j) ≡ false)
    go false h e more = (0, omega arith, h)
    go true h e more = let (j, l, f) = more e in (suc j, omega (arith, l), f)

  pub items_not : (ps : List ℕ) (r : ℕ) (es : List Document) (j : ℕ) → j < length es
      → b (item_at ps r j) (doc_at es j) ≡ false → in_items ps r es ≡ false
  items_not ps r es j l f = go (in_items ps r es) refl where
    go : (t : Bool) → in_items ps r es ≡ t → t ≡ false
    go false e = refl
    go true e = let h = items_at ps r es e j l in cc
