-- How many words of a cell are needed.
use Rattle.std.proofs.Common.{◌≡◌, ◌≢◌, ℕ, zero, suc, ◌+◌, ◌≤◌, ◌<◌, ◌⊎◌, inl, inr, max, List, [], ◌∷◌, ◌++◌, map, Bool, true, false, cond, nat_eq, nat_le, nat_lt, length, take, get_or, replicate, Result, Ok, Err, IfOk, refl, ap, ap₂, sym, ◌∙◌, subst, arith, eqb-true, eq-eqb}
use Rattle.std.proofs.lemmas.Bool.{and_parts, leb-true}
use Rattle.std.proofs.lemmas.List.{take_all}
use Rattle.documents.specs.Tests.{every}
use Rattle.list_laws.specs.In.{IsIn}
use Rattle.list_laws.proofs.Lists.{from_append}
use Rattle.alternatives.specs.Alternative.{Slot, Index, Name}
use Rattle.alternatives.specs.Slots.{capacity, cell_at, word_at, has_room}
use Rattle.expansions.specs.DocumentOf.{slot_name}
use Rattle.search.specs.Rounds.{NumberedPlaced}
use Rattle.search.specs.Uses.{repeated}
use Rattle.search.specs.Witness.{named}
use Rattle.js_expansion.specs.View.{slot_view}
use Rattle.js_rounds.specs.Spread.{spread}
use Rattle.js_rounds.specs.Slots.{wanted, wanted_by}
use Rattle.js_rounds.specs.declared.runs.Run.{Run}
use Rattle.js_rounds.proofs.Using.{get_take}
use Rattle.list_laws.proofs.Every.{every-parts}

zeros : (k c : ℕ) → get_or {A = ℕ} (replicate k 0) c 0 ≡ 0
zeros zero c = refl
zeros (suc k) zero = refl
zeros (suc k) (suc c) = zeros k c

with_zeros : (xs : List ℕ) (k c : ℕ) → get_or (xs ++ replicate k 0) c 0 ≡ get_or xs c 0
with_zeros [] k c = zeros k c
with_zeros (x ∷ xs) k zero = refl
with_zeros (x ∷ xs) k (suc c) = with_zeros xs k c

pub widened : (xs : List ℕ) (n k c : ℕ) → length xs ≤ n → get_or (take n xs ++ replicate k 0) c 0 ≡ get_or xs c 0
widened xs n k c l = ap (λ z. get_or (z ++ replicate k 0) c 0) (take_all n xs l) ∙ with_zeros xs k c

-- a name that a run has is among the words that are needed
name_low : (n d j g c k : ℕ) (p : NumberedPlaced) → IsIn p (repeated (Name d j) n g) → p.slot ≡ Name c k
    → (d ≡ c) × (k < j + n)
name_low zero d j g c k p i e = absurd i
name_low (suc n) d j g c k p (inl s) e = go (Name c k) (sym (ap (λ q. q.slot) s) ∙ e) where
  cell : Slot → ℕ
  cell (Name c k) = c
  cell (Index i) = 0

  place : Slot → ℕ
  place (Name c k) = k
  place (Index i) = 0

  go : (s : Slot) → Name d j ≡ s → (d ≡ cell s) × (place s < j + suc n)
  go s h = (ap cell h, let q = ap place h in omega (arith, q))
name_low (suc n) d j g c k p (inr i) e =
    let (s, l) = name_low n d (suc j) g c k p i e in (s, omega (arith, l))

index_name : (n i g c k : ℕ) (p : NumberedPlaced) → IsIn p (repeated (Index i) n g) → p.slot ≡ Name c k → ⊥
index_name zero i g c k p j e = j
index_name (suc n) i g c k p (inl s) e = apart (sym (ap (λ q. q.slot) s) ∙ e) where
  apart : Index i ≡ Name c k → ⊥
  apart e = cc
index_name (suc n) i g c k p (inr j) e = index_name n (suc i) g c k p j e

pub name_wanted : (runs : List Run) (p : NumberedPlaced) (c k : ℕ) → IsIn p (spread runs) → p.slot ≡ Name c k
    → k < wanted_by runs c
name_wanted [] p c k i e = absurd i
name_wanted (r ∷ rs) p c k i e =
    go (from_append p (repeated (slot_view r.slot) r.count r.goal) (spread rs) i) (λ j. name_wanted rs p c k j e) where
      by : (s : Slot) (n : ℕ) → IsIn p (repeated s n r.goal) → k < wanted s n c
      by (Index x) n j = absurd (index_name n x r.goal c k p j e)
      by (Name d x) zero j = absurd j
      by (Name d x) (suc n) j =
          let (s, l) = name_low (suc n) d x r.goal c k p j e in
          subst (λ b. k < cond b (x + suc n) 0) (sym (eq-eqb d c s)) l

      go : IsIn p (repeated (slot_view r.slot) r.count r.goal) ⊎ IsIn p (spread rs)
          → (IsIn p (spread rs) → k < wanted_by rs c)
          → k < max (wanted (slot_view r.slot) r.count c) (wanted_by rs c)
      go (inl j) more = let l = by (slot_view r.slot) r.count j in omega (arith, l)
      go (inr j) more = let l = more j in omega (arith, l)

-- what is needed is there, where each slot has room
module _ (cells : List (List (List ℕ))) where
  room_all : (n d j g : ℕ) → every (λ p. has_room cells p.slot 1) (repeated (Name d j) (suc n) g) ≡ true
      → j + suc n ≤ capacity (cell_at cells d)
  room_all zero d j g e =
      let (a, b) = and_parts (has_room cells (Name d j) 1) true e in
      let (x, y) = and_parts (nat_lt d (length cells)) (nat_le (j + 1) (capacity (cell_at cells d))) a in
      let l = leb-true (j + 1) (capacity (cell_at cells d)) y in
      omega (arith, l)
  room_all (suc n) d j g e =
      let (a, b) = and_parts (has_room cells (Name d j) 1)
      (every (λ p. has_room cells p.slot 1) (repeated (Name d (suc j)) (suc n) g)) e in
      let l = room_all n d (suc j) g b in
      omega (arith, l)

  -- no more words of a cell are needed than it has
  pub wanted_room : (runs : List Run) (c : ℕ) → every (λ p. has_room cells p.slot 1) (spread runs) ≡ true
      → wanted_by runs c ≤ capacity (cell_at cells c)
  wanted_room [] c e = omega arith
  wanted_room (r ∷ rs) c e =
      let (a, b) = every-parts (λ p. has_room cells p.slot 1) (repeated (slot_view r.slot) r.count r.goal) (spread
      rs) e in
      let l = by (slot_view r.slot) r.count a in
      let m = wanted_room rs c b in
      omega (arith, l, m)
    where
      by : (s : Slot) (n : ℕ) → every (λ p. has_room cells p.slot 1) (repeated s n r.goal) ≡ true
          → wanted s n c ≤ capacity (cell_at cells c)
      by s zero h = omega arith
      by (Index i) (suc n) h = omega arith
      by (Name d k) (suc n) h = go (nat_eq d c) refl where
        go : (b : Bool) → nat_eq d c ≡ b → cond b (k + suc n) 0 ≤ capacity (cell_at cells c)
        go true q =
            subst (λ z. k + suc n ≤ capacity (cell_at cells z)) (eqb-true d c q) (room_all n d k r.goal h)
        go false q = omega arith

  -- words by needs that are those of the runs
  pub words_told : {A E : Type 0} (r : Result A E) (items : A → List (List (List ℕ))) (needs : List ℕ) (runs : List Run)
      → ((c : ℕ) → get_or needs c 0 ≡ wanted_by runs c)
      → IfOk r (λ v. (c : ℕ) → get_or (items v) c [] ≡ take (get_or needs c 0) (cell_at cells c))
      → IfOk r (λ v. (c : ℕ) → get_or (items v) c [] ≡ take (wanted_by runs c) (cell_at cells c))
  words_told (Ok v) items needs runs same h = λ c. h c ∙ ap (λ n. take n (cell_at cells c)) (same c)
  words_told (Err m) items needs runs same h = tt

  -- where no needs were noted no words are needed
  pub none_needed : (needs : List ℕ) (runs : List Run) → length needs ≡ 0
      → ((c : ℕ) → get_or needs c 0 ≡ wanted_by runs c) → (c : ℕ) → [] ≡ take (wanted_by runs c) (cell_at cells c)
  none_needed [] runs l same c = ap (λ n. take n (cell_at cells c)) (same c)
  none_needed (x ∷ xs) runs l same c = absurd (omega (arith, l))

  -- the words that are needed are as in the cells
  pub word_same : (lists : List (List (List ℕ))) (needs : ℕ → ℕ) (c k : ℕ)
      → ((x : ℕ) → get_or lists x [] ≡ take (needs x) (cell_at cells x)) → k < needs c
      → get_or (get_or lists c []) k [] ≡ get_or (cell_at cells c) k []
  word_same lists needs c k h l =
      ap (λ z. get_or z k []) (h c) ∙ get_take (needs c) (cell_at cells c) k [] l

  pub names_same : (lists : List (List (List ℕ))) (runs : List Run)
      → ((x : ℕ) → get_or lists x [] ≡ take (wanted_by runs x) (cell_at cells x))
      → (p : NumberedPlaced) → IsIn p (spread runs)
      → slot_name (word_at lists) p.slot ≡ slot_name (word_at cells) p.slot
  names_same lists runs h p i = go p.slot refl where
    go : (s : Slot) → p.slot ≡ s → slot_name (word_at lists) s ≡ slot_name (word_at cells) s
    go (Index x) e = refl
    go (Name c k) e = word_same lists (wanted_by runs) c k h (name_wanted runs p c k i e)

  names_as : (lists : List (List (List ℕ))) (place : ℕ → ℕ) (ps : List NumberedPlaced)
      → ((p : NumberedPlaced) → IsIn p ps → slot_name (word_at lists) p.slot ≡ slot_name (word_at cells) p.slot)
      → map (named (word_at lists) place) ps ≡ map (named (word_at cells) place) ps
  names_as lists place [] h = refl
  names_as lists place (p ∷ ps) h =
      ap₂ (λ n ms. (n, place p.goal) ∷ ms) (h p (inl refl)) (names_as lists place ps (λ q i. h q (inr i)))

  -- members are named alike by the words that were taken and by all words of the cells
  pub named_same : (lists : List (List (List ℕ))) (runs : List Run)
      → ((x : ℕ) → get_or lists x [] ≡ take (wanted_by runs x) (cell_at cells x)) → (place : ℕ → ℕ)
      → map (named (word_at lists) place) (spread runs) ≡ map (named (word_at cells) place) (spread runs)
  named_same lists runs h place = names_as lists place (spread runs) (names_same lists runs h)
