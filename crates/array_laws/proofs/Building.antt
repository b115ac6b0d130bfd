-- Documents for what a complete plan places and for its fillers make an array that is arranged by the frame.
use Rattle.std.proofs.Common.{◌≡◌, ℕ, zero, suc, ◌+◌, ◌<◌, ◌≤◌, min, ◌⊎◌, inl, inr, ⊎_elim, true, false, List, [], ◌∷◌, ◌++◌, map, flat_map, length, take, Option, Some, None, refl, ap, sym, ◌∙◌, subst, arith, length-append, add-zero, zero-add}
use Rattle.std.proofs.lemmas.Bool.{and_from}
use Rattle.std.proofs.lemmas.List.{length-map}
use Rattle.std.specs.Option.{is_none}
use Rattle.documents.specs.Tests.{every}
use Rattle.documents.specs.Document.{Document, array, elements, items_of, depth, items_depth, is_document, are_documents}
use Rattle.positions.specs.Position.{Position}
use Rattle.positions.specs.Holds.{holds, IsTable}
use Rattle.goals.specs.Signed.{Signed, met, meets}
use Rattle.goals.specs.Goal.{form}
use Rattle.goal_laws.specs.Formed.{meets_goal}
use Rattle.goal_laws.proofs.Forms.{meets-form}
use Rattle.frames.specs.Frame.{Place, Head, In, Frame, list_at, is_at_end}
use Rattle.frames.specs.Plan.{Member, Plan, one_more, used, with_members, size, heads_from, placed, need}
use Rattle.frames.specs.ArrayFrame.{longest, array_frame}
use Rattle.list_laws.specs.In.{IsIn}
use Rattle.list_laws.proofs.Lists.{every_at, every_from, in_left, in_right, in_map, in_flat_map}
use Rattle.frame_laws.proofs.Arranged.{IsArranged, IsInside, at_list}
use Rattle.frame_laws.proofs.CompletePlans.{IsComplete}
use Rattle.array_laws.specs.ArrayValues.{stand, doc_at}
use Rattle.array_laws.proofs.Lists.{in_doc}
use Rattle.array_laws.proofs.Sets.{stand_head, stand_cell, arrangement}
use Rattle.list_laws.proofs.Numbers.{suc_add-add_suc}

pub elements_of : (es : List Document) → elements (items_of es) ≡ es
elements_of [] = refl
elements_of (e ∷ es) = ap (λ z. e ∷ z) (elements_of es)

abbrev pub Slot : Type 0
Slot = Place × List Signed

module _ (T : List Position) (frame : Frame) (d : ℕ) where
  pub record IsFor (s : Slot) (J : Document) : Type 0 where
    pub good : is_document J ≡ true
    pub deep : depth J ≤ d
    pub met : meets T (list_at frame s.0 s.1) J ≡ true

  -- a document for each slot, which are in order from number j on
  abbrev pub AreFor : ℕ → List Slot → List Document → Type 0
  AreFor j [] [] = Unit {0}
  AreFor j (s ∷ ss) (J ∷ Js) = (s.0 ≡ stand frame.heads j) × IsFor s J × AreFor (suc j) ss Js
  AreFor j _ _ = ⊥

  pub for_length : (j : ℕ) (ss : List Slot) (Js : List Document) → AreFor j ss Js → length Js ≡ length ss
  for_length j [] [] a = refl
  for_length j (s ∷ ss) (J ∷ Js) a = ap suc (for_length (suc j) ss Js a.2)
  for_length j [] (J ∷ Js) a = absurd a
  for_length j (s ∷ ss) [] a = absurd a

  pub for_append : (j : ℕ) (ss rs : List Slot) (Js Ks : List Document) → AreFor j ss Js → AreFor (j + length ss) rs Ks
      → AreFor j (ss ++ rs) (Js ++ Ks)
  for_append j [] rs [] Ks a b = subst (λ i. AreFor i rs Ks) (omega arith) b
  for_append j (s ∷ ss) rs (J ∷ Js) Ks a b =
      (a.0, a.1, for_append (suc j) ss rs Js Ks a.2 (subst (λ i. AreFor i rs Ks) (omega arith) b))
  for_append j [] rs (J ∷ Js) Ks a b = absurd a
  for_append j (s ∷ ss) rs [] Ks a b = absurd a

  -- each document is where its slot is
  pub for_at : (j : ℕ) (ss : List Slot) (Js : List Document) → AreFor j ss Js → (i : ℕ) → i < length Js
      → (ds : List Signed) × IsFor (stand frame.heads (j + i), ds) (doc_at Js i)
  for_at j [] [] a i l = absurd (omega (arith, l))
  for_at j (s ∷ ss) (J ∷ Js) a zero l =
      (s.1, subst (λ z. IsFor (z, s.1) J) (a.0 ∙ ap (stand frame.heads) (sym (add-zero j))) a.1)
  for_at j (s ∷ ss) (J ∷ Js) a (suc i) l =
      let (ds, f) = for_at (suc j) ss Js a.2 i (omega (arith, l)) in
      (ds, subst (λ z. IsFor (stand frame.heads z, ds) (doc_at Js i)) (suc_add-add_suc j i) f)
  for_at j [] (J ∷ Js) a i l = absurd a
  for_at j (s ∷ ss) [] a i l = absurd a

  -- each slot has its document
  pub for_in : (j : ℕ) (ss : List Slot) (Js : List Document) → AreFor j ss Js → (s : Slot) → IsIn s ss
      → (i : ℕ) × (i < length Js) × (s.0 ≡ stand frame.heads (j + i)) × IsFor s (doc_at Js i)
  for_in j [] Js a s i = absurd i
  for_in j (t ∷ ss) (J ∷ Js) a s (inl e) = (
    0,
    omega arith,
    ap (λ z. z.0) e ∙ a.0
        ∙ ap (stand frame.heads) (sym (add-zero j)),
    subst (λ z. IsFor z J) (sym e) a.1,
  )
  for_in j (t ∷ ss) (J ∷ Js) a s (inr i) =
      let (k, l, e, f) = for_in (suc j) ss Js a.2 s i in
      (suc k, omega (arith, l), e ∙ ap (stand frame.heads) (suc_add-add_suc j k), f)
  for_in j (t ∷ ss) [] a s i = absurd a

  -- documents for a list of slots, by a function
  module _ (value : Slot → Document) where
    pub heads_for : (j m : ℕ) (xs : List (List Signed)) → j + length xs ≤ frame.heads
        → ((s : Slot) → IsIn s (take m (heads_from j xs)) → IsFor s (value s))
        → AreFor j (take m (heads_from j xs)) (map value (take m (heads_from j xs)))
    heads_for j zero xs l h = tt
    heads_for j (suc m) [] l h = tt
    heads_for j (suc m) (x ∷ xs) l h = (
      sym (stand_head frame.heads j (omega (arith, l))),
      h (Head j, x) (inl refl),
      heads_for (suc j) m xs
          (omega (arith, l)) (λ s i. h s (inr i)),
    )

    pub members_for : (j : ℕ) (ms : List Member) → ((m : Member) → IsIn m ms → frame.heads ≤ j)
        → ((m : Member) → IsIn m ms → m.cell ≡ 0)
        → ((m : Member) → IsIn m ms → IsFor (In m.cell, m.served) (value (In m.cell, m.served)))
        → AreFor j (map (λ m. (In m.cell, m.served)) ms) (map value (map (λ m. (In m.cell, m.served)) ms))
    members_for j [] h z f = tt
    members_for j (m ∷ ms) h z f = (
      ap In (z m (inl refl)) ∙ sym (stand_cell frame.heads j (h m (inl refl))),
      f m (inl refl),
      members_for (suc j) ms (λ x i. omega (arith, h x (inr i))) (λ x i. z x (inr i)) (λ x i. f x (inr i)),
    )

  pub fillers_for : (j : ℕ) (fs : List (ℕ × Document)) → ((f : ℕ × Document) → IsIn f fs → frame.heads ≤ j)
      → ((f : ℕ × Document) → IsIn f fs → f.0 ≡ 0)
      → ((f : ℕ × Document) → IsIn f fs → IsFor (In f.0, []) f.1)
      → AreFor j (map (λ f. (In f.0, [])) fs) (map (λ f. f.1) fs)
  fillers_for j [] h z k = tt
  fillers_for j (f ∷ fs) h z k = (
    ap In (z f (inl refl)) ∙ sym (stand_cell frame.heads j (h f (inl refl))),
    k f (inl refl),
    fillers_for (suc j) fs (λ x i. omega (arith, h x (inr i))) (λ x i. z x (inr i)) (λ x i. k x (inr i)),
  )

  pub each_met : (s : Slot) (J : Document) → IsFor s J → meets T (flat_map (frame.each s.0) frame.set) J ≡ true
  each_met s J k = every_from _ (flat_map (frame.each s.0) frame.set) (λ y i.
      every_at _ y (list_at frame s.0 s.1) k.met
      (in_left y (flat_map (frame.each s.0) frame.set) (flat_map (frame.serving s.0) s.1) i))

  pub serving_met : (s : Slot) (J : Document) → IsFor s J → (x : Signed) → IsIn x s.1
      → meets T (frame.serving s.0 x) J ≡ true
  serving_met s J k x j = every_from _ (frame.serving s.0 x) (λ y i.
      every_at _ y (list_at frame s.0 s.1) k.met
      (in_right y (flat_map (frame.each s.0) frame.set) (flat_map (frame.serving s.0) s.1)
      (in_flat_map (frame.serving s.0) y x s.1 j i)))

-- counting

pub take_heads : (m j : ℕ) (xs : List (List Signed)) → length (take m (heads_from j xs)) ≡ min m (length xs)
take_heads zero j xs = omega arith
take_heads (suc m) j [] = omega arith
take_heads (suc m) j (x ∷ xs) = omega (arith, take_heads m (suc j) xs)

pub used_long : (xs : List (List Signed)) → used xs ≤ length xs
used_long [] = omega arith
used_long ([] ∷ xs) = go (used xs) (used_long xs) where
  go : (u : ℕ) → u ≤ length xs → one_more [] u ≤ suc (length xs)
  go zero l = omega arith
  go (suc u) l = omega (arith, l)
used_long ((d ∷ x) ∷ xs) = omega (arith, used_long xs)

-- a first place that serves is among those that are used
pub used_past : (x : Signed) (xs : List (List Signed)) (k : ℕ) → IsIn x (at_list xs k) → k < used xs
used_past x [] k i = absurd i
used_past x ([] ∷ xs) zero i = absurd i
used_past x ([] ∷ xs) (suc k) i = go (used xs) (used_past x xs k i) where
  go : (u : ℕ) → k < u → suc k < one_more [] u
  go zero l = omega (arith, l)
  go (suc u) l = omega (arith, l)
used_past x ((d ∷ y) ∷ xs) zero i = omega arith
used_past x ((d ∷ y) ∷ xs) (suc k) i = omega (arith, used_past x xs k i)

pub head_in : (x : Signed) (m j k : ℕ) (xs : List (List Signed)) → IsIn x (at_list xs k) → k < m
    → IsIn (Head (j + k), at_list xs k) (take m (heads_from j xs))
head_in x zero j k xs i l = absurd (omega (arith, l))
head_in x (suc m) j k [] i l = absurd i
head_in x (suc m) j zero (y ∷ xs) i l = inl (ap (λ z. (Head z, y)) (add-zero j))
head_in x (suc m) j (suc k) (y ∷ xs) i l =
    inr (subst (λ z. IsIn (Head z, at_list xs k) (take m (heads_from (suc j) xs))) (suc_add-add_suc j k)
    (head_in x m (suc j) k xs i (omega (arith, l))))

module _ (T : List Position) (ok : IsTable T) (S : List Signed) (d : ℕ) (q : Plan)
    (k : IsComplete T (array_frame T S) q)
    (value : Slot → Document)
    (a : (s : Slot) → IsIn s (placed (array_frame T S) q) → IsFor T (array_frame T S) d s (value s))
    (fs : List (ℕ × Document)) (enough : length fs ≡ need (array_frame T S) q)
    (cells : (f : ℕ × Document) → IsIn f fs → f.0 ≡ 0)
    (b : (f : ℕ × Document) → IsIn f fs → IsFor T (array_frame T S) d (In f.0, []) f.1) where
  abbrev pub frame : Frame
  frame = array_frame T S

  abbrev pub es : List Document
  es = map value (placed (array_frame T S) q) ++ map (λ f. f.1) fs

  abbrev slots : List Slot
  slots = placed (array_frame T S) q ++ map (λ f. (In f.0, [])) fs

  abbrev front : List Slot
  front = take (size (array_frame T S) q) (heads_from 0 q.heads)

  abbrev behind : List Slot
  behind = map (λ m. (In m.cell, m.served)) q.members

  front_length : length front ≡ min (size (array_frame T S) q) (longest T S)
  front_length = omega (arith, take_heads (size (array_frame T S) q) 0 q.heads, k.kept.heads_long)

  many : (ms : List Member) (m : Member) → IsIn m ms → with_members (longest T S) ms ≡ longest T S + length ms
  many [] m i = absurd i
  many (x ∷ ms) m i = refl

  none_more : (ms : List Member) → (length ms ≡ 0) ⊎ (with_members (longest T S) ms ≡ longest T S + length ms)
  none_more [] = inl refl
  none_more (x ∷ ms) = inr refl

  heads_first : (m : Member) → IsIn m q.members → longest T S ≤ 0 + length front
  heads_first m i = omega (arith, front_length, many q.members m i)

  placed_length : length (placed (array_frame T S) q) ≡ length front + length q.members
  placed_length =
      length-append front behind ∙ omega (arith, length-map {B = Slot} q.members (λ m. (In m.cell, m.served)))

  needed : (f : ℕ × Document) → IsIn f fs → longest T S ≤ 0 + length (placed (array_frame T S) q)
  needed f i = omega (arith, placed_length, front_length, none_more q.members, one fs i, enough) where
    one : (xs : List (ℕ × Document)) → IsIn f xs → 0 < length xs
    one [] i = absurd i
    one (x ∷ xs) i = omega arith

  cell_is : (m : Member) → IsIn m q.members → m.cell ≡ 0
  cell_is m i = ⊎_elim (λ e. e) (λ z. absurd z) (k.kept.cells m i)

  map_append : (xs ys : List Slot) → map value (xs ++ ys) ≡ map value xs ++ map value ys
  map_append [] ys = refl
  map_append (x ∷ xs) ys = ap (λ z. value x ∷ z) (map_append xs ys)

  placed_for : AreFor T (array_frame T S) d 0 (placed (array_frame T S) q) (map value (placed (array_frame T S) q))
  placed_for = subst (λ z. AreFor T (array_frame T S) d 0 (placed (array_frame T S) q) z)
      (sym (map_append front behind))
      (for_append T (array_frame T S) d 0 front behind (map value front) (map value behind)
      (heads_for T (array_frame T S) d value 0 (size (array_frame T S) q) q.heads (omega (arith, k.kept.heads_long))
      (λ s i. a s (in_left s front behind i)))
      (members_for T (array_frame T S) d value (0 + length front) q.members heads_first cell_is
      (λ m i. a (In m.cell, m.served)
      (in_right (In m.cell, m.served) front behind (in_map (λ m. (In m.cell, m.served)) m q.members i)))))

  are_for : AreFor T (array_frame T S) d 0 slots es
  are_for = for_append T (array_frame T S) d 0 (placed (array_frame T S) q) (map (λ f. (In f.0, [])) fs)
      (map value (placed (array_frame T S) q)) (map (λ f. f.1) fs)
      placed_for (fillers_for T (array_frame T S) d (0 + length (placed (array_frame T S) q)) fs needed cells b)

  count_is : length es ≡ size (array_frame T S) q
  count_is =
      length-append (map value (placed (array_frame T S) q)) (map (λ f. f.1) fs)
      ∙ omega (
        arith,
        length-map {B = Document} (placed (array_frame T S) q) value,
        length-map {B = Document} fs
            (λ f. f.1),
        placed_length,
        front_length,
        enough,
        none_more q.members,
      )

  at : (i : ℕ) → i < length es
      → (ds : List Signed) × IsFor T (array_frame T S) d (stand (longest T S) i, ds) (doc_at es i)
  at i l =
      let (ds, f) = for_at T (array_frame T S) d 0 slots es are_for i l in
      (ds, subst (λ z. IsFor T (array_frame T S) d (stand (longest T S) z, ds) (doc_at es i)) (zero-add i) f)

  served : (x : Signed) (s : Slot) → IsIn s (placed (array_frame T S) q) → IsIn x s.1
      → (i : ℕ) × (i < length es)
      × (meets T ((array_frame T S).serving (stand (longest T S) i) x) (doc_at es i) ≡ true)
  served x s i j =
      let (n, l, e, f) =
      for_in T (array_frame T S) d 0 slots es are_for s
      (in_left s (placed (array_frame T S) q) (map (λ f. (In f.0, [])) fs) i) in (
        n,
        l,
        subst (λ z. meets T ((array_frame T S).serving z x) (doc_at es n) ≡ true)
            (e ∙ ap (stand (longest T S)) (zero-add n)) (serving_met T (array_frame T S) d s (doc_at es n) f x j),
      )

  -- the array that is built is arranged as the frame requires
  pub built_arranged : IsArranged T (array_frame T S) (arrangement T (longest T S) es)
  built_arranged = record {
    low = omega (arith, count_is);
    floor = omega (arith, count_is);
    high = subst (λ z. is_at_end z (array_frame T S).below ≡ false) (sym count_is) k.under;
    heads = λ j l h. stand_head (longest T S) j h;
    rest = λ j l h. (0, stand_cell (longest T S) j h, inl refl);
    each = λ j l. let (ds, f) = at j l in each_met T (array_frame T S) d (stand (longest T S) j, ds) (doc_at es j) f;
    served = λ x i. ⊎_elim
        (λ s. ⊎_elim
        (λ (n, j). by x (Head n, at_list q.heads n) (in_left (Head n, at_list q.heads n) front behind
        (subst (λ z. IsIn (Head z, at_list q.heads n) front) (zero-add n)
        (head_in x (size (array_frame T S) q) 0 n q.heads j (omega (arith, used_past x q.heads n j))))) j)
        (λ (m, j, h). by x (In m.cell, m.served)
        (in_right (In m.cell, m.served) front behind (in_map (λ m. (In m.cell, m.served)) m q.members j)) h) s)
        (λ z. absurd z) (k.kept.served x i);
    capped = λ c b e. cc;
    formed = λ j l h e. formed j l e;
  } where
    any_inside : (x : Signed) (at : Place) → IsInside (array_frame T S) x at
    any_inside x (Head i) = tt
    any_inside x (In c) = refl

    by : (x : Signed) (s : Slot) → IsIn s (placed (array_frame T S) q) → IsIn x s.1
        → (j : ℕ) × (j < length es) × IsInside (array_frame T S) x (stand (longest T S) j)
        × (meets T ((array_frame T S).serving (stand (longest T S) j) x) (doc_at es j) ≡ true)
    by x s i j = let (n, l, h) = served x s i j in (n, l, any_inside x (stand (longest T S) n), h)

    formed : (j : ℕ) (l : List Signed) → every (met (λ p. holds T p (doc_at es j))) l ≡ true
        → is_none (form T l) ≡ false
    formed j l h = go (form T l) (sym (meets-form T ok (doc_at es j) l) ∙ h) where
      go : (o : Option (List Signed)) → meets_goal T o (doc_at es j) ≡ true → is_none o ≡ false
      go None e = cc
      go (Some g) e = refl

  one_for : (J : Document) → IsIn J es → (is_document J ≡ true) × (depth J ≤ d)
  one_for J i = let (j, l, e) = in_doc J es i in let (ds, f) =
      at j l in (subst (λ z. is_document z ≡ true) e f.good, subst (λ z. depth z ≤ d) e f.deep)

  all_good : (xs : List Document) → ((J : Document) → IsIn J xs → is_document J ≡ true)
      → are_documents (items_of xs) ≡ true
  all_good [] h = refl
  all_good (x ∷ xs) h =
      and_from (is_document x) (are_documents (items_of xs)) (h x (inl refl)) (all_good xs (λ J i. h J (inr i)))

  all_deep : (xs : List Document) → ((J : Document) → IsIn J xs → depth J ≤ d) → items_depth (items_of xs) ≤ d
  all_deep [] h = omega arith
  all_deep (x ∷ xs) h = omega (arith, h x (inl refl), all_deep xs (λ J i. h J (inr i)))

  pub built_document : is_document (array (items_of es)) ≡ true
  built_document = all_good es (λ J i. (one_for J i).0)

  pub built_depth : depth (array (items_of es)) ≤ suc d
  built_depth = omega (arith, all_deep es (λ J i. (one_for J i).1))
