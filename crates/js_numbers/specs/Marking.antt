-- Which candidates a list of values has, by their numbers.
use Rattle.std.specs.Prelude.{◌≡◌, ℕ, ◌-◌, ◌*◌, ◌%◌, ◌<◌, ◌≤◌, ◌==◌, nat_le, nat_lt, List, length, get_or, Bool, true, false, ◌&&◌, ◌||◌, Option, Some, None, ℤ, pos, if◌then◌else◌}
use Rattle.std.specs.Ordering.{int_eq}
use Rattle.js_doc.specs.Numbers.{rank_of}
use Rattle.number_groups.specs.Multiples.{is_multiple}
use Rattle.number_groups.specs.Group.{Group, is_listed, is_struck}
use Rattle.number_groups.specs.Outcome.{candidate, is_over}

-- k is the number that was found
abbrev pub is_at : Option ℕ → ℕ → Bool
is_at None k = false
is_at (Some j) k = j == k

-- r is the number of x among the first candidates that are at most 2^127-1 in size, where it is one of them
abbrev pub IsIndex : ℕ → (ℕ → ℤ) → ℤ → Option ℕ → Type 0
IsIndex limit candidates x r =
    (k : ℕ) → k < limit → is_over (candidates k) ≡ false → is_at r k ≡ int_eq x (candidates k)

-- the first candidates that pass the test are marked, and the marks that were there stay
abbrev pub AddsMarks : ℕ → (ℕ → ℤ) → (ℤ → Bool) → List Bool → List Bool → Type 0
AddsMarks limit candidates test old new =
    (k : ℕ) → k < limit → is_over (candidates k) ≡ false
    → get_or new k false ≡ (get_or old k false || test (candidates k))

-- the first candidates are marked exactly where they pass the test
abbrev pub AreMarked : ℕ → (ℕ → ℤ) → (ℤ → Bool) → List Bool → Type 0
AreMarked limit candidates test marks =
    (k : ℕ) → k < limit → is_over (candidates k) ≡ false → get_or marks k false ≡ test (candidates k)

-- the candidates that a set that is ruled out has are marked, and the marks that were there stay
abbrev pub AddsRuledOut : ℕ → ℕ → Group → List Bool → List Bool → Type 0
AddsRuledOut limit m g old new = AddsMarks limit (candidate m g) (is_listed g.not_sets) old new

-- the candidates that a set that is ruled out has are marked, and no others
abbrev pub AreRuledOut : ℕ → ℕ → Group → List Bool → Type 0
AreRuledOut limit m g marks = AreMarked limit (candidate m g) (is_listed g.not_sets) marks

-- k is first, or a whole number of steps further
abbrev pub is_on : ℕ → ℕ → ℕ → Bool
is_on first step k = nat_le first k && (k - first) % step == 0

-- for each step that is noted, the candidates are marked that are this step's multiples of m
abbrev pub AreStepsMarked : ℕ → ℕ → Group → List Bool → List Bool → Type 0
AreStepsMarked limit m g noted marks =
    (s : ℕ) → get_or noted s false ≡ true
    → (k : ℕ) → k < limit → is_over (candidate m g k) ≡ false
    → is_multiple (s * m) (candidate m g k) ≡ true → get_or marks k false ≡ true

-- the candidates that are struck are marked, and no others
abbrev pub AreStruckMarked : ℕ → ℕ → Group → List Bool → Type 0
AreStruckMarked limit m g marks = AreMarked limit (candidate m g) (is_struck g) marks

-- how far the rank is from the start, where there is a mark for that
abbrev pub marked_from : ℕ → ℕ → Option ℕ → Option ℕ
marked_from limit start None = None
marked_from limit start (Some rank) =
    if nat_le start rank && nat_lt (rank - start) limit then Some (rank - start) else None

-- the number of the mark for x: how far its rank among the values is from the start of the block
abbrev pub mark_of : ℕ → ℕ → List ℤ → ℤ → Option ℕ
mark_of limit start values x = marked_from limit start (rank_of values x)

-- the values that pass the test are marked where there is a mark for them, and the marks that were there stay
abbrev pub AddsListed : ℕ → ℕ → List ℤ → (ℤ → Bool) → List Bool → List Bool → Type 0
AddsListed limit start values test old new =
    (x : ℤ) (k : ℕ) → mark_of limit start values x ≡ Some k → get_or new k false ≡ (get_or old k false || test x)

-- the values that have a mark are marked exactly where they pass the test
abbrev pub AreListed : ℕ → ℕ → List ℤ → (ℤ → Bool) → List Bool → Type 0
AreListed limit start values test marks =
    (x : ℤ) (k : ℕ) → mark_of limit start values x ≡ Some k → get_or marks k false ≡ test x

-- of the values before the end, the one at the place is the first that has a mark and passes the test
pub record IsFirstIn (limit start : ℕ) (values : List ℤ) (test : ℤ → Bool) (end place : ℕ) : Type 0 where
  pub within : place ≤ end
  pub before : (j k : ℕ) → j < place → mark_of limit start values (get_or values j (pos 0)) ≡ Some k
      → test (get_or values j (pos 0)) ≡ false
  pub here : place < end → test (get_or values place (pos 0)) ≡ true

-- of the values whose rank is below the given one, the one at the place is the first that passes the test
pub record IsFirstBelow (rank : ℕ) (values : List ℤ) (test : ℤ → Bool) (place : ℕ) : Type 0 where
  pub within : place ≤ length values
  pub before : (j k : ℕ) → j < place → rank_of values (get_or values j (pos 0)) ≡ Some k → k < rank
      → test (get_or values j (pos 0)) ≡ false
  pub here : place < length values → test (get_or values place (pos 0)) ≡ true
