-- Runs and what they stand for.
use Rattle.std.proofs.Common.{◌≡◌, ◌<◌, ℕ, ◌+◌, ◌-◌, min, List, [], ◌∷◌, ◌++◌, map, Bool, true, false, cond, drop, length, get_or, refl, ap, ap₂, sym, ◌∙◌, add-one, drop-cons}
use Rattle.std.proofs.lemmas.List.{append-nil, append_assoc}
use Rattle.search.specs.Rounds.{NumberedPlaced}
use Rattle.js_explore.specs.declared.numbered.NumberedFiller.{NumberedFiller}
use Rattle.js_explore.specs.View.{filler_view}
use Rattle.search.specs.Rounds as R
use Rattle.search.specs.Uses.{repeated, added_fillers}
use Rattle.js_expansion.specs.View.{slot_view}
use Rattle.js_rounds.specs.Spread.{spread}
use Rattle.js_rounds.specs.declared.runs.Run.{Run}

pub spread_append : (xs ys : List Run) → spread (xs ++ ys) ≡ spread xs ++ spread ys
spread_append [] ys = refl
spread_append (x ∷ xs) ys =
    ap (λ l. repeated (slot_view x.slot) x.count x.goal ++ l) (spread_append xs ys)
    ∙ sym (append_assoc (repeated (slot_view x.slot) x.count x.goal) (spread xs) (spread ys))

pub spread_push : (xs : List Run) (x : Run)
    → spread (xs ++ x ∷ []) ≡ spread xs ++ repeated (slot_view x.slot) x.count x.goal
spread_push xs x =
    spread_append xs (x ∷ [])
    ∙ ap (λ l. spread xs ++ l) (append-nil (repeated (slot_view x.slot) x.count x.goal))

-- what is left of a list from a place on is the element there, and what is left from the next place on
pub next_left : {A : Type 0} (xs : List A) (i : ℕ) (d : A) → i < length xs
    → drop i xs ≡ get_or xs i d ∷ drop (i + 1) xs
next_left xs i d l = drop-cons xs i d l ∙ ap (λ n. get_or xs i d ∷ drop n xs) (sym (add-one i))

module _ (has : ℕ → Bool) where
  fillers_cons : (n : ℕ) (f : NumberedFiller) (fs : List R.NumberedFiller)
      → added_fillers has n (filler_view f ∷ fs)
      ≡ cond (has f.goal) (repeated (slot_view f.slot) (min n f.room) f.goal) []
      ++ added_fillers has (cond (has f.goal) (n - f.room) n) fs
  fillers_cons n f fs = go (has f.goal) where
    go : (b : Bool)
        → cond b (repeated (slot_view f.slot) (min n f.room) f.goal ++ added_fillers has (n - f.room) fs)
        (added_fillers has n fs)
        ≡ cond b (repeated (slot_view f.slot) (min n f.room) f.goal) [] ++ added_fillers has (cond b (n - f.room) n) fs
    go true = refl
    go false = refl

  pub filler_turn : (fs : List NumberedFiller) (i : ℕ) (d : NumberedFiller) (n left : ℕ)
      (s t all : List NumberedPlaced) → i < length fs
      → (let f = get_or fs i d in
      t ≡ s ++ cond (has f.goal) (repeated (slot_view f.slot) (min n f.room) f.goal) [])
      → (let f = get_or fs i d in left ≡ cond (has f.goal) (n - f.room) n)
      → s ++ added_fillers has n (map filler_view (drop i fs)) ≡ all
      → t ++ added_fillers has left (map filler_view (drop (i + 1) fs)) ≡ all
  filler_turn fs i d n left s t all l e k h =
      let f = get_or fs i d in
      let more = added_fillers has (cond (has f.goal) (n - f.room) n) (map filler_view (drop (i + 1) fs)) in
      ap₂ (λ a b. a ++ added_fillers has b (map filler_view (drop (i + 1) fs))) e k
      ∙ append_assoc s (cond (has f.goal) (repeated (slot_view f.slot) (min n f.room) f.goal) []) more
      ∙ ap (λ z. s ++ z)
      (sym (fillers_cons n f (map filler_view (drop (i + 1) fs)))
      ∙ ap (λ z. added_fillers has n (map filler_view z)) (sym (next_left fs i d l)))
      ∙ h
