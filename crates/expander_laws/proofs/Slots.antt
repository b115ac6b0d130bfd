-- The slots of an alternative of a plan: they fit its shape, and none comes twice.
use Rattle.std.proofs.Common.{◌≡◌, ℕ, zero, suc, ◌+◌, ◌<◌, ◌≤◌, inl, inr, Bool, true, false, not, cond, nat_eq, List, [], ◌∷◌, ◌++◌, map, flat_map, length, Option, Some, None, refl, ap, ap₂, sym, ◌∙◌, subst, arith}
use Rattle.std.proofs.lemmas.Bool.{and_from, and_parts, eqb-true, eq-eqb}
use Rattle.std.proofs.lemmas.List.{append-nil}
use Rattle.documents.specs.Tests.{some}
use Rattle.positions.specs.Position.{Position}
use Rattle.goals.specs.Signed.{Signed}
use Rattle.frames.specs.Frame.{Place, Frame}
use Rattle.frames.specs.Plan.{goal_of}
use Rattle.frames.specs.Fillers.{Filler, times}
use Rattle.list_laws.specs.In.{IsIn, Distinct}
use Rattle.list_laws.proofs.Lists.{in_map, from_map, from_flat_map}
use Rattle.list_laws.proofs.Tests.{none_from}
use Rattle.cell_laws.proofs.Lists.{distinct_append}
use Rattle.alternatives.specs.Alternative as Alt
use Rattle.alternatives.specs.Alternative.{Slot, Index, Name, Placed}
use Rattle.alternatives.specs.Slots.{slots_from, same_slot, are_different}
use Rattle.expansions.specs.Leaves.{by_index, by_name, cell_of, placed_as, members_of, filling_of}

-- tests of difference

pub different : {A : Type 0} (same : A → A → Bool) → ((x y : A) → same x y ≡ true → x ≡ y) → (xs : List A)
    → Distinct xs → are_different same xs ≡ true
different same means [] d = refl
different {A = A} same means (x ∷ xs) d =
    and_from (not (some (same x) xs)) (are_different same xs)
    (ap not (none_from (same x) xs (λ y i. other y i (same x y) refl))) (different same means xs d.1)
  where
    other : (y : A) → IsIn y xs → (b : Bool) → same x y ≡ b → b ≡ false
    other y i true e = absurd (d.0 (subst (λ z. IsIn z xs) (sym (means x y e)) i))
    other y i false e = refl

pub same_slot-true : (s t : Slot) → same_slot s t ≡ true → s ≡ t
same_slot-true (Index i) (Index j) e = ap Index (eqb-true i j e)
same_slot-true (Name c k) (Name d l) e =
    let (a, b) = and_parts (nat_eq c d) (nat_eq k l) e in ap₂ Name (eqb-true c d a) (eqb-true k l b)
same_slot-true (Index i) (Name c k) e = cc
same_slot-true (Name c k) (Index i) e = cc

-- slots one after another

pub index_from : (i n : ℕ) (x : Slot) → IsIn x (slots_from (Index i) n)
    → (j : ℕ) × (x ≡ Index j) × (i ≤ j) × (j < i + n)
index_from i zero x a = absurd a
index_from i (suc n) x (inl e) = (i, e, omega arith, omega arith)
index_from i (suc n) x (inr a) =
    let (j, e, l, m) = index_from (suc i) n x a in (j, e, omega (arith, l), omega (arith, m))

pub name_from : (c k n : ℕ) (x : Slot) → IsIn x (slots_from (Name c k) n)
    → (j : ℕ) × (x ≡ Name c j) × (k ≤ j) × (j < k + n)
name_from c k zero x a = absurd a
name_from c k (suc n) x (inl e) = (k, e, omega arith, omega arith)
name_from c k (suc n) x (inr a) =
    let (j, e, l, m) = name_from c (suc k) n x a in (j, e, omega (arith, l), omega (arith, m))

pub index_inner : (i j : ℕ) → Index i ≡ Index j → i ≡ j
index_inner i j e = cc

pub cell_inner : (c k d l : ℕ) → Name c k ≡ Name d l → c ≡ d
cell_inner c k d l e = cc

pub place_inner : (c k d l : ℕ) → Name c k ≡ Name d l → k ≡ l
place_inner c k d l e = cc

pub indices_once : (i n : ℕ) → Distinct (slots_from (Index i) n)
indices_once i zero = tt
indices_once i (suc n) = (
  λ a. let (j, e, l, m) = index_from (suc i) n (Index i) a in
      let s = index_inner i j e in let f : ⊥ = omega (arith, s, l) in f,
  indices_once (suc i) n,
)

pub names_once : (c k n : ℕ) → Distinct (slots_from (Name c k) n)
names_once c k zero = tt
names_once c k (suc n) = (
  λ a. let (j, e, l, m) = name_from c (suc k) n (Name c k) a in
      let s = place_inner c k c j e in let f : ⊥ = omega (arith, s, l) in f,
  names_once c (suc k) n,
)

abbrev pub place_cell : Place × List Signed → ℕ
place_cell s = cell_of s.0

abbrev pub member_slot : Placed → Slot
member_slot m = m.slot

abbrev pub filler_slots : Alt.Filler → List Slot
filler_slots f = slots_from f.slot f.room

-- elements

module _ (T : List Position) (frame : Frame) where
  -- members are at different indices, all of them below their number
  pub index_of_member : (i : ℕ) (before : List ℕ) (ss : List (Place × List Signed)) (x : Slot)
      → IsIn x (map member_slot (members_of by_index T frame i before ss))
      → (j : ℕ) × (x ≡ Index j) × (i ≤ j) × (j < i + length ss)
  index_of_member i before [] x a = absurd a
  index_of_member i before (s ∷ ss) x a =
      go (goal_of T frame s) a (index_of_member (suc i) (cell_of s.0 ∷ before) ss x) where
        go : (o : Option (List Signed))
            → IsIn x (map member_slot
            (placed_as (Index i) o ++ members_of by_index T frame (suc i) (cell_of s.0 ∷ before) ss))
            → (IsIn x (map member_slot (members_of by_index T frame (suc i) (cell_of s.0 ∷ before) ss))
            → (j : ℕ) × (x ≡ Index j) × (suc i ≤ j) × (j < suc i + length ss))
            → (j : ℕ) × (x ≡ Index j) × (i ≤ j) × (j < i + suc (length ss))
        go None a more = let (j, e, l, m) = more a in (j, e, omega (arith, l), omega (arith, m))
        go (Some g) (inl e) more = (i, e, omega arith, omega arith)
        go (Some g) (inr a) more = let (j, e, l, m) = more a in (j, e, omega (arith, l), omega (arith, m))

  pub members_at_once : (i : ℕ) (before : List ℕ) (ss : List (Place × List Signed))
      → Distinct (map member_slot (members_of by_index T frame i before ss))
  members_at_once i before [] = tt
  members_at_once i before (s ∷ ss) =
      go (goal_of T frame s) (members_at_once (suc i) (cell_of s.0 ∷ before) ss) where
        go : (o : Option (List Signed))
            → Distinct (map member_slot (members_of by_index T frame (suc i) (cell_of s.0 ∷ before) ss))
            → Distinct (map member_slot
            (placed_as (Index i) o ++ members_of by_index T frame (suc i) (cell_of s.0 ∷ before) ss))
        go None d = d
        go (Some g) d = (
          λ a. let (j, e, l, m) = index_of_member (suc i) (cell_of s.0 ∷ before) ss (Index i) a in
              let s = index_inner i j e in let f : ⊥ = omega (arith, s, l) in f,
          d,
        )

-- the one filler goes on where members end
pub filler_at_once : (n : ℕ) (fs : List Filler) → Distinct (map (λ f. f.cell) fs)
    → ((f : Filler) → IsIn f fs → f.cell ≡ 0)
    → Distinct (flat_map filler_slots (map (filling_of by_index n) fs))
filler_at_once n [] d z = tt
filler_at_once n (f ∷ []) d z =
    subst (λ l. Distinct l) (sym (append-nil (slots_from (Index n) f.room))) (indices_once n f.room)
filler_at_once n (f ∷ g ∷ fs) d z =
    absurd (d.0 (inl (z f (inl refl) ∙ sym (z g (inr (inl refl))))))

-- members

module _ (T : List Position) (frame : Frame) where
  abbrev cells : List (Place × List Signed) → List ℕ
  cells ss = map place_cell ss

  -- those of a cell take its words one after another
  pub name_of_member : (i : ℕ) (before : List ℕ) (ss : List (Place × List Signed)) (x : Slot)
      → IsIn x (map member_slot (members_of by_name T frame i before ss))
      → (c : ℕ) × ((k : ℕ) × (x ≡ Name c k) × IsIn c (cells ss) × (times c before ≤ k)
      × (k < times c before + times c (cells ss)))
  name_of_member i before [] x a = absurd a
  name_of_member i before (s ∷ ss) x a =
      go (goal_of T frame s) a (name_of_member (suc i) (cell_of s.0 ∷ before) ss x) where
        moved : (c : ℕ) → times c (cell_of s.0 ∷ before) + times c (cells ss) ≡ times c before + times c
            (cell_of s.0 ∷ cells ss)
        moved c = by (nat_eq (cell_of s.0) c) where
          by : (b : Bool) → cond b (suc (times c before)) (times c before) + times c (cells ss)
              ≡ times c before + cond b (suc (times c (cells ss))) (times c (cells ss))
          by true = omega arith
          by false = refl

        past : (c : ℕ) → times c before ≤ times c (cell_of s.0 ∷ before)
        past c = by (nat_eq (cell_of s.0) c) where
          by : (b : Bool) → times c before ≤ cond b (suc (times c before)) (times c before)
          by true = omega arith
          by false = omega arith

        later : (c : ℕ) × ((k : ℕ) × (x ≡ Name c k) × IsIn c (cells ss)
            × (times c (cell_of s.0 ∷ before) ≤ k)
            × (k < times c (cell_of s.0 ∷ before) + times c (cells ss)))
            → (c : ℕ) × ((k : ℕ) × (x ≡ Name c k) × IsIn c (cell_of s.0 ∷ cells ss) × (times c before ≤ k)
            × (k < times c before + times c (cell_of s.0 ∷ cells ss)))
        later (c, (k, e, j, l, m)) =
            (c, (k, e, inr j, omega (arith, l, past c), omega (arith, m, moved c)))

        same : times (cell_of s.0) (cell_of s.0 ∷ cells ss) ≡ suc (times (cell_of s.0) (cells ss))
        same = rw (eq-eqb (cell_of s.0) (cell_of s.0) refl) refl

        go : (o : Option (List Signed))
            → IsIn x (map member_slot
            (placed_as (Name (cell_of s.0) (times (cell_of s.0) before)) o
            ++ members_of by_name T frame (suc i) (cell_of s.0 ∷ before) ss))
            → (IsIn x (map member_slot (members_of by_name T frame (suc i) (cell_of s.0 ∷ before) ss))
            → (c : ℕ) × ((k : ℕ) × (x ≡ Name c k) × IsIn c (cells ss)
            × (times c (cell_of s.0 ∷ before) ≤ k)
            × (k < times c (cell_of s.0 ∷ before) + times c (cells ss))))
            → (c : ℕ) × ((k : ℕ) × (x ≡ Name c k) × IsIn c (cell_of s.0 ∷ cells ss) × (times c before ≤ k)
            × (k < times c before + times c (cell_of s.0 ∷ cells ss)))
        go None a more = later (more a)
        go (Some g) (inl e) more =
            (cell_of s.0, (times (cell_of s.0) before, e, inl refl, omega arith, omega (arith, same)))
        go (Some g) (inr a) more = later (more a)

  pub members_named_once : (i : ℕ) (before : List ℕ) (ss : List (Place × List Signed))
      → Distinct (map member_slot (members_of by_name T frame i before ss))
  members_named_once i before [] = tt
  members_named_once i before (s ∷ ss) =
      go (goal_of T frame s) (members_named_once (suc i) (cell_of s.0 ∷ before) ss) where
        one : times (cell_of s.0) (cell_of s.0 ∷ before) ≡ suc (times (cell_of s.0) before)
        one = rw (eq-eqb (cell_of s.0) (cell_of s.0) refl) refl

        go : (o : Option (List Signed))
            → Distinct (map member_slot (members_of by_name T frame (suc i) (cell_of s.0 ∷ before) ss))
            → Distinct (map member_slot
            (placed_as (Name (cell_of s.0) (times (cell_of s.0) before)) o
            ++ members_of by_name T frame (suc i) (cell_of s.0 ∷ before) ss))
        go None d = d
        go (Some g) d = (
          λ a. let (c, (k, e, j, l, m)) =
              name_of_member (suc i) (cell_of s.0 ∷ before) ss
              (Name (cell_of s.0) (times (cell_of s.0) before)) a in
              let p = cell_inner (cell_of s.0) (times (cell_of s.0) before) c k e in
              let q = place_inner (cell_of s.0) (times (cell_of s.0) before) c k e in
              let l' : times (cell_of s.0) (cell_of s.0 ∷ before) ≤ k =
              subst (λ z. times z (cell_of s.0 ∷ before) ≤ k) (sym p) l in
              let f : ⊥ = omega (arith, l', one, q) in f,
          d,
        )

-- fillers of different cells name different words
pub fillers_named_once : (n : ℕ) (fs : List Filler) → Distinct (map (λ f. f.cell) fs)
    → Distinct (flat_map filler_slots (map (filling_of by_name n) fs))
fillers_named_once n [] d = tt
fillers_named_once n (f ∷ fs) d =
    distinct_append (slots_from (Name f.cell f.first) f.room)
    (flat_map filler_slots (map (filling_of by_name n) fs)) (names_once f.cell f.first f.room)
    (fillers_named_once n fs d.1)
    (λ x i j.
    let (k, e, l, m) = name_from f.cell f.first f.room x i in
    let (y, a, b) = from_flat_map filler_slots x (map (filling_of by_name n) fs) j in
    let (g, u, v) = from_map (filling_of by_name n) y fs a in
    let (h, p, q, r) = name_from g.cell g.first g.room x (subst (λ z. IsIn x (filler_slots z)) v b) in
    let c = cell_inner f.cell k g.cell h (sym e ∙ p) in
    d.0 (subst (λ z. IsIn z (map (λ f. f.cell) fs)) (sym c) (in_map (λ f. f.cell) g fs u)))
