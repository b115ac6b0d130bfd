-- What the document of an alternative names: words of the cells of its branch, each once.
use Rattle.std.proofs.Common.{◌≡◌, ◌≢◌, ℕ, zero, suc, ◌+◌, ◌-◌, ◌≤◌, ◌<◌, ◌⊎◌, inl, inr, min, List, [], ◌∷◌, ◌++◌, map, flat_map, length, get_or, Bool, true, false, not, ◌&&◌, ◌||◌, cond, nat_eq, nat_le, nat_lt, Option, Some, None, slice_get, refl, ap, ap₂, sym, ◌∙◌, subst, arith, true≢false, eq-eqb}
use Rattle.std.proofs.lemmas.Bool.{and_parts, and_from, leb-true, le-leb, ltb-true, not-true}
use Rattle.std.proofs.lemmas.List.{map-append}
use Rattle.documents.specs.Tests.{every, some, same_word}
use Rattle.goals.specs.Signed.{Signed}
use Rattle.list_laws.specs.In.{IsIn}
use Rattle.list_laws.proofs.Lists.{in_left, in_right, from_flat_map}
use Rattle.list_laws.proofs.Tests.{none_from, none_at, same_word_comm}
use Rattle.alternatives.specs.Alternative.{Slot, Index, Name, Shape, Null, Truth, Number, Text, Elements, Members, Placed, Filler, Alternative}
use Rattle.alternatives.specs.Slots.{capacity, cell_at, word_at, has_room, has_text, has_words, next_slot, slots_from, slots_of, same_slot, are_different, has_different_slots, has_different_words, fits_slot, has_fitting_slots}
use Rattle.alternatives.specs.Expansion.{Expansion}
use Rattle.expansions.specs.DocumentOf.{slot_name}
use Rattle.search.specs.Explored.{Found, number_in}
use Rattle.search.specs.Rounds.{NumberedPlaced, Numbered, with_member, with_filler, number_members, number_fillers, with_members, numbered, alternatives_at, alternatives_of}
use Rattle.search.specs.Uses.{repeated, added_fillers, contents_of}
use Rattle.search.specs.Witness.{named}
use Rattle.search_laws.proofs.Built.{number_as}
use Rattle.list_laws.proofs.Every.{every_joined}
use Rattle.list_laws.proofs.Elements.{every-map}

-- a list with some elements left out
pub data Sub {A : Type 0} : List A → List A → Type 0 where
  none : Sub [] []
  keep : (x : A) (xs ys : List A) → Sub xs ys → Sub (x ∷ xs) (x ∷ ys)
  skip : (y : A) (xs ys : List A) → Sub xs ys → Sub xs (y ∷ ys)

sub_all : {A : Type 0} (xs : List A) → Sub xs xs
sub_all [] = none
sub_all (x ∷ xs) = keep x xs xs (sub_all xs)

sub_empty : {A : Type 0} (ys : List A) → Sub [] ys
sub_empty [] = none
sub_empty (y ∷ ys) = skip y [] ys (sub_empty ys)

sub_append : {A : Type 0} (xs ys us vs : List A) → Sub xs ys → Sub us vs → Sub (xs ++ us) (ys ++ vs)
sub_append _ _ us vs none h = h
sub_append _ _ us vs (keep x xs ys s) h = keep x (xs ++ us) (ys ++ vs) (sub_append xs ys us vs s h)
sub_append _ _ us vs (skip y xs ys s) h = skip y (xs ++ us) (ys ++ vs) (sub_append xs ys us vs s h)

some_sub : {A : Type 0} (p : A → Bool) (xs ys : List A) → Sub xs ys → some p ys ≡ false → some p xs ≡ false
some_sub p _ _ none e = refl
some_sub p _ _ (keep x xs ys s) e = go (p x) e (some_sub p xs ys s) where
  go : (b : Bool) → (b || some p ys) ≡ false → (some p ys ≡ false → some p xs ≡ false) → (b || some p xs) ≡ false
  go true e more = cc
  go false e more = more e
some_sub p _ _ (skip y xs ys s) e = go (p y) e (some_sub p xs ys s) where
  go : (b : Bool) → (b || some p ys) ≡ false → (some p ys ≡ false → some p xs ≡ false) → some p xs ≡ false
  go true e more = cc
  go false e more = more e

not_from : (b : Bool) → b ≡ false → not b ≡ true
not_from true e = cc
not_from false e = refl

different_sub : {A : Type 0} (same : A → A → Bool) (xs ys : List A) → Sub xs ys → are_different same ys ≡ true
    → are_different same xs ≡ true
different_sub same _ _ none e = refl
different_sub same _ _ (keep x xs ys s) e =
    let (a, b) = and_parts (not (some (same x) ys)) (are_different same ys) e in
    and_from (not (some (same x) xs)) (are_different same xs)
    (not_from (some (same x) xs) (some_sub (same x) xs ys s (not-true (some (same x) ys) a))) (different_sub same
    xs ys s b)
different_sub same _ _ (skip y xs ys s) e =
    let (a, b) = and_parts (not (some (same y) ys)) (are_different same ys) e in different_sub same xs ys s b

-- slots

abbrev Slots : List NumberedPlaced → List Slot
Slots ps = map (λ p. p.slot) ps

repeated_slots : (s : Slot) (n g : ℕ) → map (λ p. p.slot) (repeated s n g) ≡ slots_from s n
repeated_slots s zero g = refl
repeated_slots s (suc n) g = ap (λ l. s ∷ l) (repeated_slots (next_slot s) n g)

sub_slots : (s : Slot) (m n : ℕ) → m ≤ n → Sub (slots_from s m) (slots_from s n)
sub_slots s zero n l = sub_empty (slots_from s n)
sub_slots s (suc m) zero l = absurd (omega (arith, l))
sub_slots s (suc m) (suc n) l =
    keep s (slots_from (next_slot s) m) (slots_from (next_slot s) n) (sub_slots (next_slot s) m n (omega (arith, l)))

module _ (gs : List (List Signed)) where
  member_slots : (ms : List Placed) (ns : List NumberedPlaced) → number_members gs ms ≡ Some ns
      → map (λ p. p.slot) ns ≡ map (λ m. m.slot) ms
  member_slots [] ns e = subst (λ z. map (λ p. p.slot) z ≡ []) (inner [] ns (Some []) refl e) refl where
    inner : (a b : List NumberedPlaced) (o : Option (List NumberedPlaced)) → o ≡ Some a → o ≡ Some b → a ≡ b
    inner a b o x y = cc
  member_slots (m ∷ ms) ns e = go (number_in gs m.goal) (number_members gs ms) refl e (member_slots ms) where
    inner : (a b : List NumberedPlaced) (o : Option (List NumberedPlaced)) → o ≡ Some a → o ≡ Some b → a ≡ b
    inner a b o x y = cc

    go : (o : Option ℕ) (r : Option (List NumberedPlaced)) → number_members gs ms ≡ r
        → with_member m.slot o r ≡ Some ns
        → ((ns : List NumberedPlaced) → number_members gs ms ≡ Some ns → map (λ p. p.slot) ns ≡ map (λ m. m.slot) ms)
        → map (λ p. p.slot) ns ≡ m.slot ∷ map (λ m. m.slot) ms
    go None r q e more = cc
    go (Some n) None q e more = cc
    go (Some n) (Some rs) q e more =
        subst (λ z. map (λ p. p.slot) z ≡ m.slot ∷ map (λ m. m.slot) ms)
        (inner (record { slot = m.slot; goal = n } ∷ rs) ns (with_member m.slot (Some n) (Some rs)) refl e)
        (ap (λ l. m.slot ∷ l) (more rs q))

  module _ (has : ℕ → Bool) where
    filler_slots : (n : ℕ) (fs : List Filler)
        → Sub (map (λ p. p.slot) (added_fillers has n (number_fillers gs fs)))
        (flat_map (λ f. slots_from f.slot f.room) fs)
    filler_slots n [] = none
    filler_slots n (f ∷ fs) = go (number_in gs f.goal) (λ k. filler_slots k fs) where
      Rest : List Slot
      Rest = flat_map (λ f. slots_from f.slot f.room) fs

      go : (o : Option ℕ)
          → ((k : ℕ) → Sub (map (λ p. p.slot) (added_fillers has k (number_fillers gs fs)))
          (flat_map (λ f. slots_from f.slot f.room) fs))
          → Sub (map (λ p. p.slot) (added_fillers has n (with_filler f.slot f.room o (number_fillers gs fs))))
          (slots_from f.slot f.room ++ flat_map (λ f. slots_from f.slot f.room) fs)
      go None more =
          sub_append [] (slots_from f.slot f.room) _ (flat_map (λ f. slots_from f.slot f.room) fs)
          (sub_empty (slots_from f.slot f.room)) (more n)
      go (Some k) more = by (has k) where
        by : (b : Bool)
            → Sub (map (λ p. p.slot) (cond b
            (repeated f.slot (min n f.room) k ++ added_fillers has (n - f.room) (number_fillers gs fs))
            (added_fillers has n (number_fillers gs fs))))
            (slots_from f.slot f.room ++ flat_map (λ f. slots_from f.slot f.room) fs)
        by false =
            sub_append [] (slots_from f.slot f.room) _ (flat_map (λ f. slots_from f.slot f.room) fs)
            (sub_empty (slots_from f.slot f.room)) (more n)
        by true =
            subst (λ z. Sub z (slots_from f.slot f.room ++ flat_map (λ f. slots_from f.slot f.room) fs))
            (sym (map-append (λ p. p.slot) (repeated f.slot (min n f.room) k)
            (added_fillers has (n - f.room) (number_fillers gs fs))
            ∙ ap (λ z. z ++ map (λ p. p.slot) (added_fillers has (n - f.room) (number_fillers gs fs)))
            (repeated_slots f.slot (min n f.room) k)))
            (sub_append (slots_from f.slot (min n f.room)) (slots_from f.slot f.room) _
            (flat_map (λ f. slots_from f.slot f.room) fs) (sub_slots f.slot (min n f.room) f.room (omega arith))
            (more (n - f.room)))

    -- some of the slots of the alternative
    pub contents_slots : (a : Alternative) (ns : List NumberedPlaced) → number_members gs a.members ≡ Some ns
        → Sub (map (λ p. p.slot) (contents_of has (number_as gs a ns))) (slots_of a)
    contents_slots a ns e =
        subst (λ z. Sub z (slots_of a))
        (sym (map-append (λ p. p.slot) ns (added_fillers has a.need (number_fillers gs a.fillers))
        ∙ ap (λ z. z ++ map (λ p. p.slot) (added_fillers has a.need (number_fillers gs a.fillers)))
        (member_slots a.members ns e)))
        (sub_append (map (λ m. m.slot) a.members) (map (λ m. m.slot) a.members) _
        (flat_map (λ f. slots_from f.slot f.room) a.fillers) (sub_all (map (λ m. m.slot) a.members))
        (filler_slots a.need a.fillers))

-- each slot of an alternative passes a test, where its members and the slots of its fillers do
every_sub : {A : Type 0} (p : A → Bool) (xs ys : List A) → Sub xs ys → every p ys ≡ true → every p xs ≡ true
every_sub p _ _ none e = refl
every_sub p _ _ (keep x xs ys s) e =
    let (a, b) = and_parts (p x) (every p ys) e in and_from (p x) (every p xs) a (every_sub p xs ys s b)
every_sub p _ _ (skip y xs ys s) e = let (a, b) = and_parts (p y) (every p ys) e in every_sub p xs ys s b

every_flat : {A B : Type 0} (p : B → Bool) (h : A → List B) (q : A → Bool) (xs : List A)
    → ((x : A) → q x ≡ true → every p (h x) ≡ true) → every q xs ≡ true → every p (flat_map h xs) ≡ true
every_flat p h q [] k e = refl
every_flat p h q (x ∷ xs) k e =
    let (a, b) = and_parts (q x) (every q xs) e in
    every_joined p (h x) (flat_map h xs) (k x a) (every_flat p h q xs k b)

module _ (cells : List (List (List ℕ))) where
  slots_room : (s : Slot) (n : ℕ) → has_room cells s n ≡ true → every (λ s. has_room cells s 1) (slots_from s n) ≡ true
  slots_room s zero e = refl
  slots_room (Index i) (suc n) e = slots_room (Index (suc i)) n refl
  slots_room (Name c k) (suc n) e =
      let (a, b) = and_parts (nat_lt c (length cells)) (nat_le (k + suc n) (capacity (cell_at cells c))) e in
      let l = leb-true (k + suc n) (capacity (cell_at cells c)) b in
      and_from (has_room cells (Name c k) 1) (every (λ s. has_room cells s 1) (slots_from (Name c (suc k)) n))
      (and_from (nat_lt c (length cells)) (nat_le (k + 1) (capacity (cell_at cells c))) a
      (le-leb (k + 1) (capacity (cell_at cells c)) (omega (arith, l))))
      (slots_room (Name c (suc k)) n
      (and_from (nat_lt c (length cells)) (nat_le (suc k + n) (capacity (cell_at cells c))) a
      (le-leb (suc k + n) (capacity (cell_at cells c)) (omega (arith, l)))))

  all_room : (a : Alternative) → has_words cells a ≡ true → every (λ s. has_room cells s 1) (slots_of a) ≡ true
  all_room a e =
      let (x, fs) = and_parts (has_text cells a.shape && every (λ m. has_room cells m.slot 1) a.members)
      (every (λ f. has_room cells f.slot f.room) a.fillers) e in
      let (t, ms) = and_parts (has_text cells a.shape) (every (λ m. has_room cells m.slot 1) a.members) x in
      every_joined (λ s. has_room cells s 1) (map (λ m. m.slot) a.members) (flat_map (λ f. slots_from f.slot
      f.room) a.fillers)
      (every-map (λ s. has_room cells s 1) (λ (m : Placed). m.slot) a.members ∙ ms)
      (every_flat (λ s. has_room cells s 1) (λ f. slots_from f.slot f.room) (λ f. has_room cells f.slot f.room)
      a.fillers
      (λ f h. slots_room f.slot f.room h) fs)

-- words at different places differ

abbrev Words : List (List (List ℕ)) → List (List ℕ)
Words cells = flat_map (λ words. words) cells

word_in : (k : ℕ) (ws : List (List ℕ)) → k < length ws → IsIn (get_or ws k []) ws
word_in k [] l = absurd (omega (arith, l))
word_in zero (w ∷ ws) l = inl refl
word_in (suc k) (w ∷ ws) l = inr (word_in k ws (omega (arith, l)))

cell_in : (cells : List (List (List ℕ))) (c k : ℕ) → k < length (cell_at cells c)
    → IsIn (word_at cells c k) (flat_map (λ words. words) cells)
cell_in [] c k l = absurd (omega (arith, l))
cell_in (ws ∷ cells) zero k l = in_left (get_or ws k []) ws (flat_map (λ words. words) cells) (word_in k ws l)
cell_in (ws ∷ cells) (suc c) k l =
    in_right (word_at cells c k) ws (flat_map (λ words. words) cells) (cell_in cells c k l)

-- two lists without repeats, of which no element is in both
record Both {A : Type 0} (same : A → A → Bool) (xs ys : List A) : Type 0 where
  left : are_different same xs ≡ true
  right : are_different same ys ≡ true
  across : (x y : A) → IsIn x xs → IsIn y ys → same x y ≡ false

different_append : {A : Type 0} (same : A → A → Bool) (xs ys : List A) → are_different same (xs ++ ys) ≡ true
    → Both same xs ys
different_append same [] ys e = record { left = refl; right = e; across = λ x y i j. absurd i }
different_append same (x ∷ xs) ys e =
    let (a, b) = and_parts (not (some (same x) (xs ++ ys))) (are_different same (xs ++ ys)) e in
    let n = not-true (some (same x) (xs ++ ys)) a in
    let more = different_append same xs ys b in
    record {
      left = and_from (not (some (same x) xs)) (are_different same xs)
          (not_from (some (same x) xs)
          (none_from (same x) xs (λ y i. none_at (same x) y (xs ++ ys) n (in_left y xs ys i)))) more.left;
      right = more.right;
      across = λ u v i j. go u v n more.across i j;
    }
  where
    go : (u v : _) → some (same x) (xs ++ ys) ≡ false → ((u v : _) → IsIn u xs → IsIn v ys → same u v ≡ false)
        → (u ≡ x) ⊎ IsIn u xs → IsIn v ys → same u v ≡ false
    go u v n more (inl e) j = ap (λ z. same z v) e ∙ none_at (same x) v (xs ++ ys) n (in_right v xs ys j)
    go u v n more (inr i) j = more u v i j

different_at : (ws : List (List ℕ)) → are_different same_word ws ≡ true → (k l : ℕ) → k < length ws → l < length ws
    → k ≢ l → same_word (get_or ws k []) (get_or ws l []) ≡ false
different_at [] e k l p q o = absurd (omega (arith, p))
different_at (w ∷ ws) e zero zero p q o = absurd (o refl)
different_at (w ∷ ws) e zero (suc l) p q o =
    let (a, b) = and_parts (not (some (same_word w) ws)) (are_different same_word ws) e in
    none_at (same_word w) (get_or ws l []) ws (not-true (some (same_word w) ws) a) (word_in l ws (omega (arith, q)))
different_at (w ∷ ws) e (suc k) zero p q o =
    let (a, b) = and_parts (not (some (same_word w) ws)) (are_different same_word ws) e in
    same_word_comm (get_or ws k []) w
    ∙ none_at (same_word w) (get_or ws k []) ws (not-true (some (same_word w) ws) a) (word_in k ws (omega (arith, p)))
different_at (w ∷ ws) e (suc k) (suc l) p q o =
    let (a, b) = and_parts (not (some (same_word w) ws)) (are_different same_word ws) e in
    different_at ws b k l (omega (arith, p)) (omega (arith, q)) (λ z. o (ap suc z))

words_apart : (cells : List (List (List ℕ))) → are_different same_word (flat_map (λ words. words) cells) ≡ true
    → (c k d l : ℕ) → k < length (cell_at cells c) → l < length (cell_at cells d)
    → (c ≡ d → k ≡ l → ⊥) → same_word (word_at cells c k) (word_at cells d l) ≡ false
words_apart [] e c k d l p q o = absurd (omega (arith, p))
words_apart (ws ∷ cells) e zero k zero l p q o =
    let b = different_append same_word ws (flat_map (λ words. words) cells) e in
    different_at ws b.left k l p q (λ z. o refl z)
words_apart (ws ∷ cells) e zero k (suc d) l p q o =
    let b = different_append same_word ws (flat_map (λ words. words) cells) e in
    b.across (get_or ws k []) (word_at cells d l) (word_in k ws p) (cell_in cells d l q)
words_apart (ws ∷ cells) e (suc c) k zero l p q o =
    let b = different_append same_word ws (flat_map (λ words. words) cells) e in
    same_word_comm (word_at cells c k) (get_or ws l [])
    ∙ b.across (get_or ws l []) (word_at cells c k) (word_in l ws q) (cell_in cells c k p)
words_apart (ws ∷ cells) e (suc c) k (suc d) l p q o =
    let b = different_append same_word ws (flat_map (λ words. words) cells) e in
    words_apart cells b.right c k d l p q (λ z. o (ap suc z))

module _ (cells : List (List (List ℕ))) (apart : has_different_words cells ≡ true) where
  room_low : (c k : ℕ) → has_room cells (Name c k) 1 ≡ true → k < length (cell_at cells c)
  room_low c k e =
      let (a, b) = and_parts (nat_lt c (length cells)) (nat_le (k + 1) (capacity (cell_at cells c))) e in
      let l = leb-true (k + 1) (capacity (cell_at cells c)) b in omega (arith, l)

  name_apart : (s t : Slot) → fits_slot Members s ≡ true → fits_slot Members t ≡ true → has_room cells s 1 ≡ true
      → has_room cells t 1 ≡ true → same_slot s t ≡ false
      → same_word (slot_name (word_at cells) s) (slot_name (word_at cells) t) ≡ false
  name_apart (Index i) t f g a b e = cc
  name_apart (Name c k) (Index j) f g a b e = cc
  name_apart (Name c k) (Name d l) f g a b e =
      words_apart cells apart c k d l (room_low c k a) (room_low d l b) (λ p q. true≢false
      (sym (and_from (nat_eq c d) (nat_eq k l) (eq-eqb c d p) (eq-eqb k l q)) ∙ e))

  pub names_apart : (place : ℕ → ℕ) (ps : List NumberedPlaced)
      → every (λ p. has_room cells p.slot 1) ps ≡ true → every (λ p. fits_slot Members p.slot) ps ≡ true
      → are_different same_slot (map (λ p. p.slot) ps) ≡ true
      → are_different same_word (map (λ m. m.0) (map (named (word_at cells) place) ps)) ≡ true
  names_apart place [] r f d = refl
  names_apart place (p ∷ ps) r f d =
      let (r0, rs) = and_parts (has_room cells p.slot 1) (every (λ p. has_room cells p.slot 1) ps) r in
      let (f0, fs) = and_parts (fits_slot Members p.slot) (every (λ p. fits_slot Members p.slot) ps) f in
      let (d0, ds) = and_parts (not (some (same_slot p.slot) (map (λ p. p.slot) ps)))
      (are_different same_slot (map (λ p. p.slot) ps)) d in
      and_from (not (some (same_word (slot_name (word_at cells) p.slot))
      (map (λ m. m.0) (map (named (word_at cells) place) ps))))
      (are_different same_word (map (λ m. m.0) (map (named (word_at cells) place) ps)))
      (not_from _ (others ps rs fs (not-true (some (same_slot p.slot) (map (λ p. p.slot) ps)) d0) r0 f0))
      (names_apart place ps rs fs ds)
    where
      others : (qs : List NumberedPlaced) → every (λ p. has_room cells p.slot 1) qs ≡ true
          → every (λ p. fits_slot Members p.slot) qs ≡ true
          → some (same_slot p.slot) (map (λ p. p.slot) qs) ≡ false → has_room cells p.slot 1 ≡ true
          → fits_slot Members p.slot ≡ true
          → some (same_word (slot_name (word_at cells) p.slot)) (map (λ m. m.0) (map (named (word_at cells) place) qs))
          ≡ false
      others [] r f e a b = refl
      others (q ∷ qs) r f e a b =
          let (r0, rs) = and_parts (has_room cells q.slot 1) (every (λ p. has_room cells p.slot 1) qs) r in
          let (f0, fs) = and_parts (fits_slot Members q.slot) (every (λ p. fits_slot Members p.slot) qs) f in
          let (e0, es) = or_parts (same_slot p.slot q.slot) (some (same_slot p.slot) (map (λ p. p.slot) qs)) e in
          ap₂ (λ x y. x || y) (name_apart p.slot q.slot b f0 a r0 e0) (others qs rs fs es a b) where
            or_parts : (x y : Bool) → (x || y) ≡ false → (x ≡ false) × (y ≡ false)
            or_parts true y h = cc
            or_parts false y h = (refl, h)

fits_next : (sh : Shape) (s : Slot) → fits_slot sh (next_slot s) ≡ fits_slot sh s
fits_next Null (Index i) = refl
fits_next (Truth b) (Index i) = refl
fits_next (Number n) (Index i) = refl
fits_next Text (Index i) = refl
fits_next Elements (Index i) = refl
fits_next Members (Index i) = refl
fits_next Null (Name c k) = refl
fits_next (Truth b) (Name c k) = refl
fits_next (Number n) (Name c k) = refl
fits_next Text (Name c k) = refl
fits_next Elements (Name c k) = refl
fits_next Members (Name c k) = refl

slots_fit : (sh : Shape) (s : Slot) (n : ℕ) → fits_slot sh s ≡ true → every (fits_slot sh) (slots_from s n) ≡ true
slots_fit sh s zero e = refl
slots_fit sh s (suc n) e =
    and_from (fits_slot sh s) (every (fits_slot sh) (slots_from (next_slot s) n)) e
    (slots_fit sh (next_slot s) n (fits_next sh s ∙ e))

all_fit : (a : Alternative) → has_fitting_slots a ≡ true → every (fits_slot a.shape) (slots_of a) ≡ true
all_fit a e =
    let (ms, fs) = and_parts (every (λ m. fits_slot a.shape m.slot) a.members)
    (every (λ f. fits_slot a.shape f.slot) a.fillers) e in
    every_joined (fits_slot a.shape) (map (λ m. m.slot) a.members) (flat_map (λ f. slots_from f.slot f.room) a.fillers)
    (every-map (fits_slot a.shape) (λ (m : Placed). m.slot) a.members ∙ ms)
    (every_flat (fits_slot a.shape) (λ f. slots_from f.slot f.room) (λ f. fits_slot a.shape f.slot) a.fillers
    (λ f h. slots_fit a.shape f.slot f.room h) fs)

-- the numbered alternatives of a goal

pub record IsNumbered (gs : List (List Signed)) (bs : List Alternative) (a : Numbered) : Type 0 where
  pub alternative : Alternative
  pub members : List NumberedPlaced
  pub is_in : IsIn alternative bs
  pub numbers : number_members gs alternative.members ≡ Some members
  pub is : a ≡ number_as gs alternative members

numbered_from : (gs : List (List Signed)) (bs : List Alternative) (a : Numbered) → IsIn a (numbered gs bs)
    → IsNumbered gs bs a
numbered_from gs bs a i =
    let (b, j, k) = from_flat_map (λ a. with_members gs a (number_members gs a.members)) a bs i in
    go b j (number_members gs b.members) refl k where
      go : (b : Alternative) → IsIn b bs → (o : Option (List NumberedPlaced)) → number_members gs b.members ≡ o
          → IsIn a (with_members gs b o) → IsNumbered gs bs a
      go b j None e k = absurd k
      go b j (Some ns) e (inl s) = record { alternative = b; members = ns; is_in = j; numbers = e; is = s }
      go b j (Some ns) e (inr n) = absurd n

-- what is at a place of a list is in it
pub get_in : {A : Type 0} (xs : List A) (i : ℕ) (x : A) → slice_get xs i ≡ Some x → IsIn x xs
get_in [] i x e = cc
get_in (y ∷ xs) zero x e = inl (some_same e) where
  some_same : Some y ≡ Some x → x ≡ y
  some_same e = cc
get_in (y ∷ xs) (suc i) x e = inr (get_in xs i x e)

pub numbered_of : (expansion : List Signed → Expansion) (f : Found) (n i : ℕ) (g : List Signed) (a : Numbered)
    → slice_get f.goals n ≡ Some g → slice_get (alternatives_of expansion f n) i ≡ Some a
    → IsNumbered f.goals (expansion g).alternatives a
numbered_of expansion f n i g a at e = go (nat_lt n f.taken) (get_in (alternatives_of expansion f n) i a e) where
  go : (b : Bool) → IsIn a (cond b (alternatives_at expansion f (slice_get f.goals n)) [])
      → IsNumbered f.goals (expansion g).alternatives a
  go false j = absurd j
  go true j =
      numbered_from f.goals (expansion g).alternatives a
      (subst (λ o. IsIn a (alternatives_at expansion f o)) at j)

-- what the document of an alternative contains

module _ (gs : List (List Signed)) (bs : List Alternative) (a : Numbered) (h : IsNumbered gs bs a) (has : ℕ → Bool)
    (cells : List (List (List ℕ))) where
  slots_are : Sub (map (λ p. p.slot) (contents_of has a)) (slots_of h.alternative)
  slots_are =
      subst (λ z. Sub (map (λ p. p.slot) (contents_of has z)) (slots_of h.alternative)) (sym h.is)
      (contents_slots gs has h.alternative h.members h.numbers)

  pub contents_room : has_words cells h.alternative ≡ true → every (λ p. has_room cells p.slot 1) (contents_of has
      a) ≡ true
  contents_room e =
      sym (every-map (λ s. has_room cells s 1) (λ (p : NumberedPlaced). p.slot) (contents_of has a))
      ∙ every_sub (λ s. has_room cells s 1) (map (λ p. p.slot) (contents_of has a)) (slots_of h.alternative) slots_are
      (all_room cells h.alternative e)

  pub contents_apart : a.shape ≡ Members → has_words cells h.alternative ≡ true → has_fitting_slots h.alternative ≡ true
      → has_different_slots h.alternative ≡ true → has_different_words cells ≡ true → (place : ℕ → ℕ)
      → are_different same_word (map (λ m. m.0) (map (named (word_at cells) place) (contents_of has a))) ≡ true
  contents_apart shape words fits slots apart place =
      names_apart cells apart place (contents_of has a) (contents_room words)
      (sym (every-map (fits_slot Members) (λ (p : NumberedPlaced). p.slot) (contents_of has a))
      ∙ every_sub (fits_slot Members) (map (λ p. p.slot) (contents_of has a)) (slots_of h.alternative) slots_are
      (subst (λ z. every (fits_slot z) (slots_of h.alternative) ≡ true) (sym (ap (λ z. z.shape) h.is) ∙ shape)
      (all_fit h.alternative fits)))
      (different_sub same_slot (map (λ p. p.slot) (contents_of has a)) (slots_of h.alternative) slots_are slots)

  -- a text has its word
  pub text_room : a.shape ≡ Text → has_words cells h.alternative ≡ true → 0 < capacity (cell_at cells 0)
  text_room shape e =
      let (x, fs) = and_parts (has_text cells h.alternative.shape && every (λ m. has_room cells m.slot 1)
      h.alternative.members)
      (every (λ f. has_room cells f.slot f.room) h.alternative.fillers) e in
      let (t, ms) = and_parts (has_text cells h.alternative.shape) (every (λ m. has_room cells m.slot 1)
      h.alternative.members) x in
      ltb-true 0 (capacity (cell_at cells 0))
      (subst (λ z. has_text cells z ≡ true) (sym (ap (λ z. z.shape) h.is) ∙ shape) t)
