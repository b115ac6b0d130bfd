-- A state goes on by columns as it does by a walk.
--
-- Key: `next_by_columns`. What may follow, as far as it has the character where all was read, is what reads it.
use Rattle.std.proofs.Common.{◌≡◌, ℕ, ◌<◌, Bool, true, false, ◌&&◌, ◌||◌, List, length, get_or, replicate, refl, sym, ◌∙◌, ap, ap₂}
use Rattle.patterns.specs.Tree.{Tree}
use Rattle.word_states.specs.Position.{count_of, sets_of}
use Rattle.state_laws.specs.Flow.{flag_at, ends_here, reads_next}
use Rattle.state_laws.specs.FollowSets.{and_each, sets_have, may_follow, follow_each}
use Rattle.state_laws.proofs.FollowSetsLemmas.{flags_join, length_follow}
use Rattle.state_laws.proofs.Sets.{next_asks_sets}
use Rattle.state_laws.proofs.Each.{follows_each}
use Rattle.js_pattern_positions.specs.Both.{some_both}
use Rattle.js_pattern_positions.proofs.AdvanceSteps.{length-reads}
use Rattle.js_nfa.specs.FollowSets.{set_at}
use Rattle.js_nfa.specs.Columns.{AreColumns}
use Rattle.js_nfa.specs.declared.columns.Columns.{Columns}
use Rattle.js_nfa.proofs.FollowSetsSteps.{same_flags, length-and_each, flag-all, follow-more}

picked : (x a h : Bool) → (x ≡ true → a ≡ true) → (x && h) ≡ (x && (a && h))
picked false a h f = refl
picked true a h f = sym (ap (λ b. b && h) (f refl))

module _ (t : Tree) where
  abbrev pub all : ℕ → Bool
  all = flag_at (replicate (count_of t) true)

  module _ (read : ℕ → Bool) (c : ℕ) where
    abbrev pub followed : List Bool
    followed = may_follow t false read 0 true

    abbrev pub column : List Bool
    column = reads_next t false all c 0 true

    -- what may follow, may follow where all was read
    follows-all : (q : ℕ) → flag_at followed q ≡ true → flag_at (may_follow t false all 0 true) q ≡ true
    follows-all q e =
        ap (λ fs. flag_at fs q) (follows_each t false all true)
        ∙ follow-more t read q all (count_of t) (λ p l. flag-all (count_of t) p l)
        (sym (ap (λ fs. flag_at fs q) (follows_each t false read true)) ∙ e)

    flag : (q : ℕ) → flag_at (reads_next t false read c 0 true) q ≡ flag_at (and_each followed column) q
    flag q =
        ap (λ fs. flag_at fs q) (next_asks_sets t false read c 0 true)
        ∙ (flags_join followed (sets_have (sets_of t) c) q).1
        ∙ picked (flag_at followed q) (flag_at (may_follow t false all 0 true) q) (flag_at (sets_have (sets_of t) c) q)
        (follows-all q)
        ∙ ap (λ b. flag_at followed q && b)
        (sym (ap (λ fs. flag_at fs q) (next_asks_sets t false all c 0 true)
        ∙ (flags_join (may_follow t false all 0 true) (sets_have (sets_of t) c) q).1))
        ∙ sym (flags_join followed column q).1

    pub next_by_columns : reads_next t false read c 0 true ≡ and_each followed column
    next_by_columns =
        same_flags (reads_next t false read c 0 true) (and_each followed column)
        (length-reads false read c t 0 true
        ∙ sym (length-and_each followed column (count_of t) (length_follow t false read 0 true)
        (length-reads false all c t 0 true)))
        flag

  module _ (r : Columns) (are : AreColumns t r) (i : ℕ) (within : i < length r.having.items) where
    pub length-column : length (set_at r.having.items i) ≡ count_of t
    length-column = ap length (are.next i within) ∙ length-reads false all (get_or r.characters.items i 0) t 0 true

    module _ (c : ℕ) (is : get_or r.characters.items i 0 ≡ c) (flags follows after : List Bool)
        (e : follows ≡ may_follow t false (flag_at flags) 0 true)
        (f : after ≡ and_each follows (set_at r.having.items i)) where
      pub column-next : after ≡ reads_next t false (flag_at flags) c 0 true
      column-next =
          f ∙ ap₂ and_each e (are.next i within ∙ ap (λ k. reads_next t false all k 0 true) is)
          ∙ sym (next_by_columns (flag_at flags) c)

      pub column-done : (d : Bool)
          → d ≡ (r.done || some_both (flag_at after) (flag_at r.ends.flags) (length after))
          → d ≡ ends_here t false false (flag_at after) 0 true
      column-done d g =
          g ∙ ap (λ n. r.done || some_both (flag_at after) (flag_at r.ends.flags) n)
          (ap length column-next ∙ length-reads false (flag_at flags) c t 0 true)
          ∙ sym (are.done (flag_at after))
