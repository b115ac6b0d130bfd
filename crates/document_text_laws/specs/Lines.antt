-- Bytes cut into lines.
use Rattle.std.specs.Prelude.{◌≡◌, ◌⊎◌, ℕ, suc, List, [], ◌∷◌, ◌++◌}
use Rattle.document_texts.specs.PartsRead.{line_feeds, first_lines}

-- bytes without a line feed
pub record Within (xs : List ℕ) : Type 0 where
  pub lines : (n : ℕ) (ys : List ℕ) → first_lines (suc n) (xs ++ ys) ≡ xs ++ first_lines (suc n) ys
  pub feeds : (ys : List ℕ) → line_feeds (xs ++ ys) ≡ line_feeds ys

-- the first line of some bytes, with its line feed where it has one
pub record FirstLine (line left bytes : List ℕ) : Type 0 where
  pub text : line ++ left ≡ bytes
  pub ends : ((front : List ℕ) × (line ≡ front ++ 10 ∷ []) × Within front) ⊎ ((left ≡ []) × Within line)
