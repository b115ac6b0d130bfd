-- Lists of slots that each hold an answer.
use Rattle.std.proofs.Common.{◌≡◌, ◌∙◌, ℕ, List, ◌++◌, length, take, drop, map, Option, Some, IsSome, slice_index_or, refl, sym, ap, subst, arith}
use Rattle.std.proofs.Math.ListN.{get_or-map}
use Rattle.std.specs.List.{All}
use Rattle.std.proofs.lemmas.Grind.{common_steps}
use Rattle.js_par.specs.Answered.{AllFilled, Answered, Filled}

module _ {I A : Type 0} (gives : I → A → Type 0) where
  -- a slot that holds an answer isn't empty
  pub filled-some : (items : List I) (i : ℕ) (slot : Option A) → Filled gives items i slot → IsSome slot
  filled-some items i slot f = subst IsSome (sym f.1) refl

  pub all-some : (items : List I) (slots : List (Option A)) → length slots ≡ length items
      → AllFilled gives items slots → All IsSome slots
  all-some items slots len filled k d h = filled-some items k _ (filled k d (omega arith))

  -- what was gathered from the slots is the answers
  pub gathered-answers : (items : List I) (slots : List (Option A)) (answers : List A)
      → AllFilled gives items slots → map Some answers ≡ slots → Answered gives items answers
  gathered-answers items slots answers filled is i x a h =
      let f = filled i (Some a) h in
      let same : Some f.0 ≡ Some (slice_index_or answers i a) =
      sym f.1 ∙ ap (λ (s : List (Option A)). slice_index_or s i (Some a)) (sym is) ∙ get_or-map Some answers i a in
      let one : f.0 ≡ slice_index_or answers i a = cc in
      subst (gives (slice_index_or items i x)) one (f.2 x)

-- a list of the same length, written over another
pub written-over : {X : Type 0} (xs ys : List X) (n : ℕ) → length ys ≡ length xs → n ≡ length xs
    → take n (ys ++ drop (length ys) xs) ≡ ys
written-over xs ys n len is = grind (arith, common_steps)
