-- What ends and what follows is the union over the positions that were read, one by one.
--
-- The positions are taken in rising order: what was read below n, and then position n.
use Rattle.std.proofs.lemmas.Bool.{ltb-true, ltb-false, lt-ltb, le-ltb, eq-eqb, ne_eqb, cases_eq}
use Rattle.std.proofs.Common.{◌≡◌, ℕ, zero, suc, inl, inr, Bool, true, false, ◌&&◌, ◌||◌, nat_lt, [], if◌then◌else◌, refl, sym, ◌∙◌, ap, ap₂, arith}
use Rattle.std.proofs.Math.Bool.{or-false, or-true, and-false}
use Rattle.patterns.specs.Tree.{Tree}
use Rattle.word_states.specs.Position.{count_of, sets_of}
use Rattle.state_laws.specs.Flow.{ends_here, is_among, flag_at, state_with}
use Rattle.state_laws.specs.FollowSets.{or_each, and_each, sets_have, none_read, only, may_follow, follow_each, ends_each}
use Rattle.state_laws.specs.UnionLaws.{IsEither, IsQuiet, EndsOfEach, FollowsEach, NextOfEach, StepsByFollowSets}
use Rattle.state_laws.proofs.FollowSetsLemmas.{or_each_none, or_each_no_flags, length_follow}
use Rattle.state_laws.proofs.EndsUnion.{ends_join}
use Rattle.state_laws.proofs.FollowsUnion.{follow_joins}
use Rattle.state_laws.proofs.Sets.{next_asks_sets}
use Rattle.state_laws.proofs.Nothing.{nothing_ends, nothing_follows}

-- ---- what was read below a number
abbrev below : ℕ → (ℕ → Bool) → ℕ → Bool
below n read p = nat_lt p n && read p

-- what was read from a number on
abbrev from : ℕ → (ℕ → Bool) → ℕ → Bool
from n read p = (if nat_lt p n then false else true) && read p

below_or_from : (n : ℕ) (read : ℕ → Bool) → IsEither read (below n read) (from n read)
below_or_from n read p = go (nat_lt p n) where
  go : (b : Bool) → read p ≡ ((b && read p) || ((if b then false else true) && read p))
  go true = sym (or-false (read p))
  go false = refl

from_quiet : (n : ℕ) (read : ℕ → Bool) → IsQuiet (from n read) 0 n
from_quiet n read p l m = ap (λ b. (if b then false else true) && read p) (lt-ltb p n (omega (arith, m)))

none_below : (read : ℕ → Bool) (p : ℕ) → below 0 read p ≡ none_read p
none_below read p = ap (λ b. b && read p) (le-ltb p 0 (omega arith))

none_quiet : (base n : ℕ) → IsQuiet none_read base n
none_quiet base n p l m = refl

-- but for n itself, a number below the one after n is below n
lt_but : (p n : ℕ) → (p ≡ n → ⊥) → nat_lt p (suc n) ≡ nat_lt p n
lt_but p n d = go (nat_lt p n) refl where
  go : (b : Bool) → nat_lt p n ≡ b → nat_lt p (suc n) ≡ b
  go true e = let l = ltb-true p n e in lt-ltb p (suc n) (omega (arith, l))
  go false e = let l = ltb-false p n e in le-ltb p (suc n) (omega (arith, l, d))

-- one more position, which was read
one_more : (n : ℕ) (read : ℕ → Bool) → read n ≡ true → IsEither (below (suc n) read) (below n read) (only n)
one_more n read r p = elim (cases_eq p n) [
  | inl e ↦
      ap₂ (λ a b. a && b) (lt-ltb p (suc n) (omega (arith, e))) (ap read e ∙ r)
      ∙ sym (ap (λ b. below n read p || b) (eq-eqb p n e) ∙ or-true (below n read p))
  | inr d ↦
      ap (λ b. b && read p) (lt_but p n d)
      ∙ sym (ap (λ b. below n read p || b) (ne_eqb p n d) ∙ or-false (below n read p))
]

-- where the next number wasn't read, what was read below it is the same
no_more : (n : ℕ) (read : ℕ → Bool) → read n ≡ false → (p : ℕ) → below (suc n) read p ≡ below n read p
no_more n read r p = elim (cases_eq p n) [
  | inl e ↦
      let f = ap read e ∙ r in
      ap (λ b. nat_lt p (suc n) && b) f ∙ and-false (nat_lt p (suc n))
      ∙ sym (ap (λ b. nat_lt p n && b) f ∙ and-false (nat_lt p n))
  | inr d ↦ ap (λ b. b && read p) (lt_but p n d)
]

-- ---- the end of a match
module _ (t : Tree) (first last : Bool) where
  -- one of the two says nothing of the tree's positions
  ends_with_quiet : (read one other : ℕ → Bool) (b : Bool) → IsEither read one other → IsQuiet other 0 (count_of t)
      → ends_here t first last read 0 b ≡ ends_here t first last one 0 b
  ends_with_quiet read one other b is q =
      ap (ends_here t first last read 0) (sym (or-false b))
      ∙ ends_join t first last read one other is 0 b false
      ∙ ap (λ x. ends_here t first last one 0 b || x) (nothing_ends t first last other 0 q)
      ∙ or-false (ends_here t first last one 0 b)

  ends_same : (read one : ℕ → Bool) (b : Bool) → ((p : ℕ) → read p ≡ one p)
      → ends_here t first last read 0 b ≡ ends_here t first last one 0 b
  ends_same read one b e =
      ends_with_quiet read one none_read b (λ p. e p ∙ sym (or-false (one p))) (none_quiet 0 (count_of t))

  ends_below : (read : ℕ → Bool) (b : Bool) (n : ℕ)
      → ends_here t first last (below n read) 0 b ≡ ends_each t first last read b n
  ends_below read b zero = ends_same (below 0 read) none_read b (none_below read)
  ends_below read b (suc n) = go (read n) refl (ends_below read b n) where
    go : (r : Bool) → read n ≡ r → ends_here t first last (below n read) 0 b ≡ ends_each t first last read b n
        → ends_here t first last (below (suc n) read) 0 b
        ≡ (ends_each t first last read b n || (r && ends_here t first last (only n) 0 false))
    go true e f =
        ap (ends_here t first last (below (suc n) read) 0) (sym (or-false b))
        ∙ ends_join t first last (below (suc n) read) (below n read) (only n) (one_more n read e) 0 b false
        ∙ ap (λ x. x || ends_here t first last (only n) 0 false) f
    go false e f =
        ends_same (below (suc n) read) (below n read) b (no_more n read e)
        ∙ f
        ∙ sym (or-false (ends_each t first last read b n))

-- a match ends with some positions exactly where it ends with one of them, or with none
pub ends_of_each : EndsOfEach
ends_of_each t first last read b =
    ends_with_quiet t first last read (below (count_of t) read) (from (count_of t) read) b
    (below_or_from (count_of t) read) (from_quiet (count_of t) read)
    ∙ ends_below t first last read b (count_of t)

-- ---- what follows
module _ (t : Tree) (first : Bool) where
  follow_with_quiet : (read one other : ℕ → Bool) (b : Bool) → IsEither read one other → IsQuiet other 0 (count_of t)
      → may_follow t first read 0 b ≡ may_follow t first one 0 b
  follow_with_quiet read one other b is q =
      ap (may_follow t first read 0) (sym (or-false b))
      ∙ follow_joins t first read one other is 0 b false
      ∙ ap (or_each (may_follow t first one 0 b)) (nothing_follows t first other 0 q)
      ∙ or_each_no_flags (may_follow t first one 0 b) (count_of t) (length_follow t first one 0 b)

  follow_same : (read one : ℕ → Bool) (b : Bool) → ((p : ℕ) → read p ≡ one p)
      → may_follow t first read 0 b ≡ may_follow t first one 0 b
  follow_same read one b e =
      follow_with_quiet read one none_read b (λ p. e p ∙ sym (or-false (one p))) (none_quiet 0 (count_of t))

  follow_below : (read : ℕ → Bool) (b : Bool) (n : ℕ)
      → may_follow t first (below n read) 0 b ≡ follow_each t first read b n
  follow_below read b zero = follow_same (below 0 read) none_read b (none_below read)
  follow_below read b (suc n) = go (read n) refl (follow_below read b n) where
    go : (r : Bool) → read n ≡ r → may_follow t first (below n read) 0 b ≡ follow_each t first read b n
        → may_follow t first (below (suc n) read) 0 b
        ≡ or_each (follow_each t first read b n) (if r then may_follow t first (only n) 0 false else [])
    go true e f =
        ap (may_follow t first (below (suc n) read) 0) (sym (or-false b))
        ∙ follow_joins t first (below (suc n) read) (below n read) (only n) (one_more n read e) 0 b false
        ∙ ap (λ x. or_each x (may_follow t first (only n) 0 false)) f
    go false e f =
        follow_same (below (suc n) read) (below n read) b (no_more n read e)
        ∙ f
        ∙ sym (or_each_none (follow_each t first read b n))

pub follows_each : FollowsEach
follows_each t first read b =
    follow_with_quiet t first read (below (count_of t) read) (from (count_of t) read) b
    (below_or_from (count_of t) read) (from_quiet (count_of t) read)
    ∙ follow_below t first read b (count_of t)

-- what reads a character after some positions is what reads it after one of them, or after none
pub next_of_each : NextOfEach
next_of_each t first read c b =
    next_asks_sets t first read c 0 b ∙ ap (λ z. and_each z (sets_have (sets_of t) c)) (follows_each t first read b)

pub steps_by_follow_sets : StepsByFollowSets
steps_by_follow_sets = record {
  steps = λ t first c ps. ap (state_with t) (next_of_each t first (is_among ps) c true);
  is_done = λ t flags. ends_of_each t false false (flag_at flags) true;
  accepts = λ t first ps. ends_of_each t first true (is_among ps) true;
}
