-- A chain of positions, each of which names the one before it twice, is a table.
use Rattle.std.proofs.Common.{◌≡◌, ℕ, [], ◌∷◌, true, ◌&&◌, refl, ap}
use Rattle.std.proofs.lemmas.Bool.{lt-ltb}
use Rattle.positions.specs.Position.{Position, All, is_table}
use Rattle.js_algebra.proofs.Chains.{IsLink, numbers, chain, chain-is_table}

-- all of the position before, named twice
abbrev pub twice : ℕ → Position
twice n = All (n ∷ n ∷ [])

twice-IsLink : (n : ℕ) → IsLink n (twice n)
twice-IsLink n = record {
  named = λ m l. ap (λ b. (b && (b && true)) && true) (lt-ltb n m l);
  ranged = refl;
  falls = λ ranks p l. ap (λ b. b && (b && true)) (lt-ltb _ _ l);
}

-- a chain of such positions is a table, whose ranks are the numbers from 0 on
pub twice-is_table : (n : ℕ) → is_table (chain twice n) (numbers n) ≡ true
twice-is_table n = chain-is_table twice twice-IsLink n
