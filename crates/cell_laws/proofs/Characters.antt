-- The characters of words meet what is required of a list of them, and the numbers of the product are great enough.
use Rattle.std.proofs.Common.{◌≡◌, ℕ, ◌+◌, ◌*◌, ◌<◌, ◌≤◌, inl, inr, List, [], ◌∷◌, true, refl, arith}
use Rattle.patterns.specs.CharSet.{is_scalar, group_of}
use Rattle.word_states.specs.Classes.{ordered_below, characters}
use Rattle.word_laws.proofs.Classes.{ordered_has, ordered_only, scalar_below}
use Rattle.word_laws.proofs.Firsts as O
use Rattle.word_laws.proofs.Firsts.{Rising, ordered_rising}
use Rattle.cell_laws.specs.FirstWords.{IsOrdered}
use Rattle.list_laws.specs.In.{IsIn, Distinct}

-- each listed character is a scalar value
pub scalars : (n c : ℕ) → IsIn c (ordered_below n) → is_scalar c ≡ true
scalars n c i = ordered_only n c i

pub whole : (c : ℕ) → is_scalar c ≡ true → IsIn c characters
whole c s = ordered_has 0x110000 c s (scalar_below c s)

never : (c : ℕ) → O.Before c c → ⊥
never c (inl l) = let f : ⊥ = omega (arith, l) in f
never c (inr l) = let q = l.1 in let f : ⊥ = omega (arith, q) in f

rising_differ : (cs : List ℕ) → Rising cs → Distinct cs
rising_differ [] r = tt
rising_differ (c ∷ cs) r = ((λ i. never c (r.0 c i)), rising_differ cs r.1)

-- the characters are listed without repeats
pub different : (n : ℕ) → Distinct (ordered_below n)
different n = rising_differ (ordered_below n) (ordered_rising n)

-- the order of characters: by group, and within a group by number
abbrev pub rank : ℕ → ℕ
rank c = group_of c * 0x110000 + c

pub rank_rises : (c d : ℕ) → is_scalar c ≡ true → O.Before c d → rank c < rank d
rank_rises c d s (inl l) = let b = scalar_below c s in ranks (group_of c) (group_of d) c d l b where
  ranks : (g h c d : ℕ) → g < h → c < 0x110000 → g * 0x110000 + c < h * 0x110000 + d
  ranks g h c d l b = omega (arith, l, b)
rank_rises c d s (inr (e, l)) = ranks (group_of c) (group_of d) c d e l where
  ranks : (g h c d : ℕ) → g ≡ h → c < d → g * 0x110000 + c < h * 0x110000 + d
  ranks g h c d e l = omega (arith, e, l)

pub rising_ordered : (cs : List ℕ) → ((c : ℕ) → IsIn c cs → is_scalar c ≡ true) → Rising cs
    → IsOrdered (λ c d. rank c < rank d) cs
rising_ordered [] s r = tt
rising_ordered (c ∷ cs) s r =
    ((λ d i. rank_rises c d (s c (inl refl)) (r.0 d i)), rising_ordered cs (λ d i. s d (inr i)) r.1)

pub ordered : (n : ℕ) → IsOrdered (λ c d. rank c < rank d) (ordered_below n)
ordered n = rising_ordered (ordered_below n) (scalars n) (ordered_rising n)
