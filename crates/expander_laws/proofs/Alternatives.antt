-- What holds of an alternative by its branch: its kind and number, its slots, and the words that they name.
use Rattle.std.proofs.Common.{◌≡◌, ℕ, zero, suc, ◌+◌, ◌-◌, ◌<◌, ◌≤◌, min, inl, inr, ⊎_elim, Bool, true, false, ◌&&◌, cond, nat_eq, nat_lt, nat_le, List, [], ◌∷◌, ◌++◌, map, flat_map, length, Some, None, Ok, refl, ap, ap₂, sym, ◌∙◌, subst, arith, zero-add}
use Rattle.std.proofs.lemmas.Bool.{and_from, lt-ltb, le-leb, ltb-true, ltb-false}
use Rattle.std.proofs.lemmas.List.FromFn.{get_or-map-range_with_len, length-map-range_with_len}
use Rattle.std.specs.List.{range_with_len}
use Rattle.documents.specs.Tests.{every, same_word}
use Rattle.documents.specs.Kind as K
use Rattle.documents.specs.Kind.{Kind}
use Rattle.positions.specs.Position.{Position}
use Rattle.positions.specs.Holds.{IsTable}
use Rattle.goals.specs.Signed.{Signed}
use Rattle.goal_laws.specs.Saturated.{IsSaturated}
use Rattle.frames.specs.Frame.{In, Frame}
use Rattle.frames.specs.Plan.{Member, Plan, count_in, size, placed, complete, plan_steps, ends}
use Rattle.frames.specs.ArrayFrame.{array_frame}
use Rattle.frames.specs.ObjectFrame.{number, cap, is_allowed, object_frame}
use Rattle.frames.specs.Fillers.{fillers, times}
use Rattle.frame_laws.proofs.FillersLaws.{fillers_from}
use Rattle.frame_laws.proofs.CompletePlans.{IsComplete}
use Rattle.frame_laws.proofs.FewMembers as F
use Rattle.list_laws.specs.In.{IsIn, Distinct}
use Rattle.list_laws.proofs.Lists.{every_from, in_map, from_map, from_flat_map}
use Rattle.list_laws.proofs.Tests.{same_word-true, from_filter, from_range}
use Rattle.list_laws.proofs.Pigeons.{Distinct-range}
use Rattle.list_laws.proofs.Counts.{Distinct-filter}
use Rattle.cells.specs.Cells.{Cells}
use Rattle.cell_laws.proofs.Lists.{distinct_append}
use Rattle.cell_laws.specs.RightCells.{AreWords}
use Rattle.object_laws.proofs.Slots.{fillers_differ}
use Rattle.alternatives.specs.Alternative as Alt
use Rattle.alternatives.specs.Alternative.{Slot, Index, Name, Shape, Placed, Alternative}
use Rattle.alternatives.specs.Slots.{capacity, cell_at, has_room, has_words, slots_from, slots_of, same_slot, has_different_slots, has_different_words, fits_slot, has_fitting_slots}
use Rattle.expansions.specs.Leaves.{by_index, by_name, filling_of, plan_alternative, scalar, Finders}
use Rattle.expansion_laws.proofs.Containers.{IsCells}
use Rattle.expansion_laws.proofs.Parts.{no_heads}
use Rattle.expansion_laws.proofs.PlanLeaf.{complete_plan}
use Rattle.expansion_laws.proofs.Origins.{IsScalar, IsFrom}
use Rattle.expander_laws.specs.Expander.{text_cells, name_cells, set_cells}
use Rattle.expander_laws.proofs.Slots.{different, same_slot-true, index_from, name_from, place_cell, member_slot, filler_slots, index_of_member, members_at_once, filler_at_once, name_of_member, members_named_once, fillers_named_once, index_inner, cell_inner, place_inner}

-- elements

module _ (T : List Position) (S : List Signed) (k : ℕ) (q : Plan) where
  abbrev frame : Frame
  frame = array_frame T S

  abbrev alternative : Alternative
  alternative = plan_alternative by_index K.Array k T (array_frame T S) q

  abbrev many : ℕ
  many = length (placed (array_frame T S) q)

  -- each slot is an index
  pub element_at : (m : Placed) → IsIn m alternative.members → (j : ℕ) × (m.slot ≡ Index j)
  element_at m i =
      let (j, e, l, h) = index_of_member T frame 0 [] (placed (array_frame T S) q) m.slot
      (in_map member_slot m alternative.members i) in (j, e)

  pub filler_at : (f : Alt.Filler) → IsIn f alternative.fillers → f.slot ≡ Index many
  filler_at f i =
      let (g, a, e) = from_map (filling_of by_index many) f (fillers T frame q) i in ap (λ z. z.slot) e

  pub elements_once : Distinct (slots_of alternative)
  elements_once =
      distinct_append (map member_slot alternative.members) (flat_map filler_slots alternative.fillers)
      (members_at_once T frame 0 [] (placed (array_frame T S) q))
      (filler_at_once many (fillers T frame q) (fillers_differ T frame q ((λ i. i), tt)) (λ f i.
      let (c, a, h) = fillers_from T frame q f i in
      h.cell ∙ ⊎_elim (λ e. e) (λ z. absurd z) a))
      (λ x i j.
      let (u, e, a, b) = index_of_member T frame 0 [] (placed (array_frame T S) q) x i in
      let (f, y, z) = from_flat_map filler_slots x alternative.fillers j in
      let (v, p, c, d) = index_from many f.room x
      (subst (λ s. IsIn x (slots_from s f.room)) (filler_at f y) z) in
      let same = index_inner u v (sym e ∙ p) in
      let h : ⊥ = omega (arith, same, b, c) in h)

-- members

count_cells : (c : ℕ) (ms : List Member)
    → times c (map place_cell (map (λ m. (In m.cell, m.served)) ms)) ≡ count_in c ms
count_cells c [] = refl
count_cells c (m ∷ ms) = ap (λ n. cond (nat_eq m.cell c) (suc n) n) (count_cells c ms)

cell_of_one : (c : ℕ) (ms : List Member) → IsIn c (map place_cell (map (λ m. (In m.cell, m.served)) ms))
    → (m : Member) × IsIn m ms × (c ≡ m.cell)
cell_of_one c [] i = absurd i
cell_of_one c (m ∷ ms) (inl e) = (m, inl refl, e)
cell_of_one c (m ∷ ms) (inr i) = let (n, j, e) = cell_of_one c ms i in (n, inr j, e)

-- the words of a cell are those of the cells
pub cell_is : (C : Cells) (c : ℕ) → c < length C.vectors → cell_at (name_cells (Ok C)) c ≡ C.words c
cell_is C c l = get_or-map-range_with_len C.words 0 (length C.vectors) c c [] l (zero-add c)

pub cells_many : (C : Cells) → length (name_cells (Ok C)) ≡ length C.vectors
cells_many C = length-map-range_with_len C.words 0 (length C.vectors)

module _ (T : List Position) (S : List Signed) (C : Cells) (k : ℕ) (q : Plan)
    (i : IsIn q (complete (plan_steps T (object_frame T C S)))) where
  abbrev object : Frame
  object = object_frame T C S

  abbrev named : Alternative
  named = plan_alternative by_name K.Object k T (object_frame T C S) q

  is_complete : IsComplete T (object_frame T C S) q
  is_complete = complete_plan T (object_frame T C S) q i

  front : placed (object_frame T C S) q ≡ map (λ m. (In m.cell, m.served)) q.members
  front = ap (λ z. z ++ map (λ m. (In m.cell, m.served)) q.members)
      (no_heads (size (object_frame T C S) q) q.heads is_complete.kept.heads_long)

  -- a member names a word past those of the members of its cell before it
  member_named : (x : Slot) → IsIn x (map member_slot named.members)
      → (c : ℕ) × ((j : ℕ) × (x ≡ Name c j) × IsIn c (object_frame T C S).cells × (j < count_in c q.members))
  member_named x a =
      let (c, (j, e, u, l, h)) = name_of_member T object 0 [] (placed (object_frame T C S) q) x a in
      let many : times c (map place_cell (placed (object_frame T C S) q)) ≡ count_in c q.members =
      ap (λ z. times c (map place_cell z)) front ∙ count_cells c q.members in
      let (m, w, own) = cell_of_one c q.members (subst (λ z. IsIn c (map place_cell z)) front u) in
      let inside = subst (λ z. IsIn z (object_frame T C S).cells) (sym own) (is_complete.kept.cells m w) in
      (c, (j, e, inside, omega (arith, h, many)))

  -- a filler goes on after the members of its cell, as far as the cell has words
  filler_named : (f : Alt.Filler) → IsIn f named.fillers
      → (c : ℕ) × (f.slot ≡ Name c (count_in c q.members)) × IsIn c (object_frame T C S).cells
      × (f.room ≡ number C c - count_in c q.members)
  filler_named f a =
      let (g, u, e) =
      from_map (filling_of by_name (length (placed (object_frame T C S) q))) f (fillers T object q) a in
      let (c, v, h) = fillers_from T object q g u in (
        c,
        ap (λ z. z.slot) e ∙ ap₂ Name h.cell h.first,
        v,
        ap (λ z. z.room) e ∙ h.room,
      )

  pub members_once : Distinct (slots_of named)
  members_once =
      distinct_append (map member_slot named.members) (flat_map filler_slots named.fillers)
      (members_named_once T object 0 [] (placed (object_frame T C S) q))
      (fillers_named_once (length (placed (object_frame T C S) q)) (fillers T object q)
      (fillers_differ T object q
      (Distinct-filter (is_allowed T C S) (range_with_len 0 (length C.vectors))
      (Distinct-range 0 (length C.vectors)))))
      (λ x a b.
      let (c, (j, e, u, l)) = member_named x a in
      let (f, y, z) = from_flat_map filler_slots x named.fillers b in
      let (d, s, v, r) = filler_named f y in
      let (h, p, m, w) = name_from d (count_in d q.members) f.room x
      (subst (λ s. IsIn x (slots_from s f.room)) s z) in
      let same = cell_inner c j d h (sym e ∙ p) in
      let place = place_inner c j d h (sym e ∙ p) in
      let l' : j < count_in d q.members = subst (λ z. j < count_in z q.members) same l in
      let f : ⊥ = omega (arith, l', m, place) in f)

  -- a cell of the frame is one of the cells
  pub cell_below : (c : ℕ) → IsIn c (object_frame T C S).cells → c < length C.vectors
  cell_below c a =
      from_range (length C.vectors) c
      (from_filter (is_allowed T C S) c (range_with_len 0 (length C.vectors)) a).0

  module _ (bound : C.bound ≡ 65537) (planned : ends (plan_steps T (object_frame T C S)) ≤ 65536) where
    -- no cell has more members than words
    members_fit : (c : ℕ) → count_in c q.members ≤ number C c
    members_fit c = go (nat_lt (length (C.words c)) C.bound) refl where
      few : count_in c q.members ≤ 65536
      few = let h = F.few T (object_frame T C S) c q i in omega (arith, h, planned)

      capped : (b : Bool) → nat_lt (length (C.words c)) C.bound ≡ b → b ≡ true
          → cap C c ≡ Some (length (C.words c))
      capped b p e = ap (λ z. cond z (Some (length (C.words c))) None) (p ∙ e)

      go : (b : Bool) → nat_lt (length (C.words c)) C.bound ≡ b → count_in c q.members ≤ number C c
      go true p =
          let h = is_complete.kept.capped c (length (C.words c)) (capped true p refl) in
          let l = ltb-true (length (C.words c)) C.bound p in omega (arith, h, l)
      go false p = let l = ltb-false (length (C.words c)) C.bound p in omega (arith, few, l, bound)

    counted : (c : ℕ) → c < length C.vectors → number C c ≡ capacity (cell_at (name_cells (Ok C)) c)
    counted c l = ap (λ b. min b (length (C.words c))) bound ∙ ap capacity (sym (cell_is C c l))

    room_at : (c j n : ℕ) → c < length C.vectors → j + n ≤ number C c
        → has_room (name_cells (Ok C)) (Name c j) n ≡ true
    room_at c j n l h =
        and_from (nat_lt c (length (name_cells (Ok C)))) (nat_le (j + n) (capacity (cell_at (name_cells (Ok C)) c)))
        (lt-ltb c (length (name_cells (Ok C))) (let m = cells_many C in omega (arith, l, m)))
        (le-leb (j + n) (capacity (cell_at (name_cells (Ok C)) c)) (subst (λ z. j + n ≤ z) (counted c l) h))

    pub members_have : has_words (name_cells (Ok C)) named ≡ true
    members_have =
        and_from (every (λ m. has_room (name_cells (Ok C)) m.slot 1) named.members)
        (every (λ f. has_room (name_cells (Ok C)) f.slot f.room) named.fillers)
        (every_from (λ m. has_room (name_cells (Ok C)) m.slot 1) named.members (λ m a.
        let (c, (j, e, u, l)) = member_named m.slot (in_map member_slot m named.members a) in
        let h = members_fit c in
        subst (λ s. has_room (name_cells (Ok C)) s 1 ≡ true) (sym e)
        (room_at c j 1 (cell_below c u) (omega (arith, l, h)))))
        (every_from (λ f. has_room (name_cells (Ok C)) f.slot f.room) named.fillers (λ f a.
        let (c, s, u, r) = filler_named f a in
        let h = members_fit c in
        subst (λ s. has_room (name_cells (Ok C)) s f.room ≡ true) (sym s)
        (room_at c (count_in c q.members) f.room (cell_below c u) (omega (arith, h, r)))))

  pub members_fitting : has_fitting_slots named ≡ true
  members_fitting =
      and_from (every (λ m. fits_slot Alt.Members m.slot) named.members)
      (every (λ f. fits_slot Alt.Members f.slot) named.fillers)
      (every_from (λ m. fits_slot Alt.Members m.slot) named.members (λ m a.
      let (c, (j, e, u, l)) = member_named m.slot (in_map member_slot m named.members a) in
      subst (λ s. fits_slot Alt.Members s ≡ true) (sym e) refl))
      (every_from (λ f. fits_slot Alt.Members f.slot) named.fillers (λ f a.
      let (c, s, u, r) = filler_named f a in subst (λ s. fits_slot Alt.Members s ≡ true) (sym s) refl))

-- words of different cells differ, and those of one

module _ (T : List Position) (C : Cells) (words : AreWords T C) where
  words_once : (a n : ℕ) → Distinct (flat_map (λ ws. ws) (map C.words (range_with_len a n)))
  words_once a zero = tt
  words_once a (suc n) =
      distinct_append (C.words a) (flat_map (λ ws. ws) (map C.words (range_with_len (a + 1) n))) (words.differ a)
      (words_once (a + 1) n)
      (λ w i j.
      let (ws, u, v) = from_flat_map (λ ws. ws) w (map C.words (range_with_len (a + 1) n)) j in
      let (c, x, y) = from_map C.words ws (range_with_len (a + 1) n) u in
      let same : a ≡ c =
      sym (words.of_cell a w i).1 ∙ (words.of_cell c w (subst (λ z. IsIn w z) y v)).1 in
      low (a + 1) n c x (omega (arith, same)))
    where
      low : (b n c : ℕ) → IsIn c (range_with_len b n) → c < b → ⊥
      low b zero c i l = i
      low b (suc n) c (inl e) l = omega (arith, e, l)
      low b (suc n) c (inr i) l = low (b + 1) n c i (omega (arith, l))

  pub names_differ : has_different_words (name_cells (Ok C)) ≡ true
  names_differ =
      different same_word same_word-true (flat_map (λ ws. ws) (name_cells (Ok C))) (words_once 0 (length C.vectors))

-- by kinds

module _ (F : Finders) (T : List Position) where
  -- an alternative has the kind and the number of the branch that it comes from
  pub of_branch : (t : Kind) (k : ℕ) (S : List Signed) (a : Alternative) → IsFrom F T t k S a
      → (a.kind ≡ t) × (a.branch ≡ k)
  of_branch K.Null k S a h = (ap (λ z. z.kind) h.is, ap (λ z. z.branch) h.is)
  of_branch K.Boolean k S a h = (ap (λ z. z.kind) h.is, ap (λ z. z.branch) h.is)
  of_branch K.Number k S a h = (ap (λ z. z.kind) h.is, ap (λ z. z.branch) h.is)
  of_branch K.Text k S a (w, f, e) = (ap (λ z. z.kind) e, ap (λ z. z.branch) e)
  of_branch K.Array k S a h = (ap (λ z. z.kind) h.is, ap (λ z. z.branch) h.is)
  of_branch K.Object k S a (C, f, h) = (ap (λ z. z.kind) h.is, ap (λ z. z.branch) h.is)

  scalar_fits : (t : Kind) (k : ℕ) (s : Shape) → has_fitting_slots (scalar t k s) ≡ true
  scalar_fits t k s = refl

  elements_fit : (S : List Signed) (k : ℕ) (q : Plan)
      → has_fitting_slots (plan_alternative by_index K.Array k T (array_frame T S) q) ≡ true
  elements_fit S k q =
      and_from (every (λ m. fits_slot Alt.Elements m.slot) (alternative T S k q).members)
      (every (λ f. fits_slot Alt.Elements f.slot) (alternative T S k q).fillers)
      (every_from (λ m. fits_slot Alt.Elements m.slot) (alternative T S k q).members (λ m a.
      let (j, e) = element_at T S k q m a in subst (λ s. fits_slot Alt.Elements s ≡ true) (sym e) refl))
      (every_from (λ f. fits_slot Alt.Elements f.slot) (alternative T S k q).fillers (λ f a.
      subst (λ s. fits_slot Alt.Elements s ≡ true) (sym (filler_at T S k q f a)) refl))

  elements_have : (cs : List (List (List ℕ))) (S : List Signed) (k : ℕ) (q : Plan)
      → has_words cs (plan_alternative by_index K.Array k T (array_frame T S) q) ≡ true
  elements_have cs S k q =
      and_from (every (λ m. has_room cs m.slot 1) (alternative T S k q).members)
      (every (λ f. has_room cs f.slot f.room) (alternative T S k q).fillers)
      (every_from (λ m. has_room cs m.slot 1) (alternative T S k q).members (λ m a.
      let (j, e) = element_at T S k q m a in subst (λ s. has_room cs s 1 ≡ true) (sym e) refl))
      (every_from (λ f. has_room cs f.slot f.room) (alternative T S k q).fillers (λ f a.
      subst (λ s. has_room cs s f.room ≡ true) (sym (filler_at T S k q f a)) refl))

  pub fits : (t : Kind) (k : ℕ) (S : List Signed) (a : Alternative) → IsFrom F T t k S a
      → has_fitting_slots a ≡ true
  fits K.Null k S a h = subst (λ z. has_fitting_slots z ≡ true) (sym h.is) (scalar_fits K.Null k h.shape)
  fits K.Boolean k S a h = subst (λ z. has_fitting_slots z ≡ true) (sym h.is) (scalar_fits K.Boolean k h.shape)
  fits K.Number k S a h = subst (λ z. has_fitting_slots z ≡ true) (sym h.is) (scalar_fits K.Number k h.shape)
  fits K.Text k S a (w, f, e) = subst (λ z. has_fitting_slots z ≡ true) (sym e) refl
  fits K.Array k S a h = subst (λ z. has_fitting_slots z ≡ true) (sym h.is) (elements_fit S k h.plan)
  fits K.Object k S a (C, f, h) =
      subst (λ z. has_fitting_slots z ≡ true) (sym h.is) (members_fitting T S C k h.plan h.is_plan)

  pub once : (t : Kind) (k : ℕ) (S : List Signed) (a : Alternative) → IsFrom F T t k S a
      → has_different_slots a ≡ true
  once K.Null k S a h = subst (λ z. has_different_slots z ≡ true) (sym h.is) refl
  once K.Boolean k S a h = subst (λ z. has_different_slots z ≡ true) (sym h.is) refl
  once K.Number k S a h = subst (λ z. has_different_slots z ≡ true) (sym h.is) refl
  once K.Text k S a (w, f, e) = subst (λ z. has_different_slots z ≡ true) (sym e) refl
  once K.Array k S a h = subst (λ z. has_different_slots z ≡ true) (sym h.is)
      (different same_slot same_slot-true (slots_of (alternative T S k h.plan)) (elements_once T S k h.plan))
  once K.Object k S a (C, f, h) = subst (λ z. has_different_slots z ≡ true) (sym h.is)
      (different same_slot same_slot-true (slots_of (named T S C k h.plan h.is_plan))
      (members_once T S C k h.plan h.is_plan))

  -- where cells are found rightly
  module _ (ok : IsTable T)
      (right : (S : List Signed) → IsSaturated T K.Object S → (C : Cells) → F.cells S ≡ Ok C → IsCells T ok S C) where
    scalar_has : (cs : List (List (List ℕ))) (t : Kind) (k : ℕ) (a : Alternative) → IsScalar t k a
        → has_words cs a ≡ true
    scalar_has cs t k a h = subst (λ z. has_words cs z ≡ true) (sym h.is)
        (ap (λ b. b && true && true) (h.no_text cs))

    pub has : (t : Kind) (k : ℕ) (S : List Signed) → IsSaturated T t S → (a : Alternative) → IsFrom F T t k S a
        → has_words (set_cells F t S) a ≡ true
    has K.Null k S full a h = scalar_has [] K.Null k a h
    has K.Boolean k S full a h = scalar_has [] K.Boolean k a h
    has K.Number k S full a h = scalar_has [] K.Number k a h
    has K.Text k S full a (w, f, e) =
        subst (λ z. has_words (text_cells z) a ≡ true) (sym f)
        (subst (λ z. has_words (text_cells (Ok (Some w))) z ≡ true) (sym e) refl)
    has K.Array k S full a h = subst (λ z. has_words [] z ≡ true) (sym h.is) (elements_have [] S k h.plan)
    has K.Object k S full a (C, f, h) =
        subst (λ z. has_words (name_cells z) a ≡ true) (sym f)
        (subst (λ z. has_words (name_cells (Ok C)) z ≡ true) (sym h.is)
        (members_have T S C k h.plan h.is_plan (right S full C f).bound h.few))

    pub apart : (t : Kind) (k : ℕ) (S : List Signed) → IsSaturated T t S → (a : Alternative) → IsFrom F T t k S a
        → has_different_words (set_cells F t S) ≡ true
    apart K.Null k S full a h = refl
    apart K.Boolean k S full a h = refl
    apart K.Number k S full a h = refl
    apart K.Text k S full a (w, f, e) = subst (λ z. has_different_words (text_cells z) ≡ true) (sym f) refl
    apart K.Array k S full a h = refl
    apart K.Object k S full a (C, f, h) =
        subst (λ z. has_different_words (name_cells z) ≡ true) (sym f) (names_differ T C (right S full C f).words)
