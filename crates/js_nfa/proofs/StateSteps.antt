-- States of words by the flags of positions.
use Rattle.std.proofs.Common.{◌≡◌, ℕ, zero, suc, ◌+◌, ◌<◌, ◌≤◌, Bool, true, false, if◌then◌else◌, List, [], ◌∷◌, ◌++◌, length, replicate, take, drop, get_or, refl, sym, ◌∙◌, ap, subst, zero-add, append_assoc, append-nil}
use Rattle.std.proofs.Math.Path.{fun_ext}
use Rattle.std.proofs.lemmas.List.{take_more, take_all, take-append-drop}
use Rattle.std.specs.Prelude.{IsTrue, ◌↔◌}
use Rattle.patterns.specs.Match.{IsFoundIn}
use Rattle.pattern_laws.proofs.Decides.{finds-decides}
use Rattle.patterns.specs.Tree.{Tree}
use Rattle.patterns.specs.Decision.{finds, is_empty}
use Rattle.word_states.specs.PatternState.{PatternState, done, reading, numbers_from, pattern_state}
use Rattle.state_laws.specs.Flow.{flag_at, is_among, ends_here, reads_next, state_with, next_state, is_accepted}
use Rattle.js_nfa.specs.View.{after, state_of}
use Rattle.state_laws.proofs.Flags.{numbers_flag}
use Rattle.state_laws.proofs.States.{state_goes_on, state_decides, state_begins, not_empty}

flags_are : (flags : List Bool) → is_among (numbers_from 0 flags) ≡ flag_at flags
flags_are flags = fun_ext (λ p. sym (ap (is_among (numbers_from 0 flags)) (zero-add p)) ∙ numbers_flag 0 p flags)

pub accepted-reading : (t : Tree) (first : Bool) (flags : List Bool)
    → is_accepted t first (reading (numbers_from 0 flags)) ≡ ends_here t first true (flag_at flags) 0 true
accepted-reading t first flags = ap (λ read. ends_here t first true read 0 true) (flags_are flags)

pub next-reading : (t : Tree) (first : Bool) (c : ℕ) (flags after : List Bool) (d : Bool)
    → after ≡ reads_next t first (flag_at flags) c 0 true → d ≡ ends_here t false false (flag_at after) 0 true
    → (if d then done else reading (numbers_from 0 after)) ≡ next_state t first c (reading (numbers_from 0 flags))
next-reading t first c flags after d e f =
    ap (λ x. if x then done else reading (numbers_from 0 after)) f
    ∙ ap (state_with t) (e ∙ sym (ap (λ read. reads_next t first read c 0 true) (flags_are flags)))

pub next-done : (t : Tree) (first : Bool) (c : ℕ) (flags after : List Bool) (d : Bool)
    → after ≡ reads_next t first (flag_at flags) c 0 true → d ≡ ends_here t false false (flag_at after) 0 true
    → d ≡ true → done ≡ next_state t first c (reading (numbers_from 0 flags))
next-done t first c flags after d e f g =
    sym (ap (λ x. if x then done else reading (numbers_from 0 after)) g) ∙ next-reading t first c flags after d e f

pub next-more : (t : Tree) (first : Bool) (c : ℕ) (flags after : List Bool) (d : Bool)
    → after ≡ reads_next t first (flag_at flags) c 0 true → d ≡ ends_here t false false (flag_at after) 0 true
    → d ≡ false → reading (numbers_from 0 after) ≡ next_state t first c (reading (numbers_from 0 flags))
next-more t first c flags after d e f g =
    sym (ap (λ x. if x then done else reading (numbers_from 0 after)) g) ∙ next-reading t first c flags after d e f

-- no flag is set
no_flag : (n p : ℕ) → flag_at (replicate n false) p ≡ false
no_flag zero p = refl
no_flag (suc n) zero = refl
no_flag (suc n) (suc p) = no_flag n p

no_number : (n k : ℕ) → numbers_from k (replicate n false) ≡ []
no_number zero k = refl
no_number (suc n) k = no_number n (suc k)

first_is : (t : Tree) (flags : List Bool) (d : Bool) → ((p : ℕ) → flag_at flags p ≡ false)
    → numbers_from 0 flags ≡ [] → d ≡ ends_here t true false (flag_at flags) 0 true
    → (if d then done else reading (numbers_from 0 flags)) ≡ pattern_state t []
first_is t flags d none numbers f =
    ap (λ x. if x then done else reading (numbers_from 0 flags))
    (f ∙ ap (λ read. ends_here t true false read 0 true) (fun_ext none))
    ∙ ap (λ ps. if ends_here t true false (λ p. false) 0 true then done else reading ps) numbers
    ∙ sym (state_begins t)

pub first-is : (t : Tree) (n : ℕ) (flags : List Bool) (d : Bool) → flags ≡ replicate n false
    → d ≡ ends_here t true false (flag_at flags) 0 true
    → (if d then done else reading (numbers_from 0 flags)) ≡ pattern_state t []
first-is t n flags d e f =
    first_is t flags d (λ p. ap (λ fs. flag_at fs p) e ∙ no_flag n p) (ap (numbers_from 0) e ∙ no_number n 0) f

pub first-none : (t : Tree) (flags : List Bool) (d : Bool) → flags ≡ []
    → d ≡ ends_here t true false (flag_at flags) 0 true
    → (if d then done else reading (numbers_from 0 flags)) ≡ pattern_state t []
first-none t flags d e f = first_is t flags d (λ p. ap (λ fs. flag_at fs p) e) (ap (numbers_from 0) e) f

-- once a match lies in the word, one lies in each longer one
pub done-stays : (t : Tree) (w v : List ℕ) → pattern_state t w ≡ done → pattern_state t (w ++ v) ≡ done
done-stays t w [] e = ap (pattern_state t) (append-nil w) ∙ e
done-stays t w (c ∷ v) e =
    ap (pattern_state t) (sym (append_assoc w (c ∷ []) v))
    ∙ done-stays t (w ++ c ∷ []) v (state_goes_on t w c ∙ ap (next_state t (is_empty w) c) e)

pub done-finds : (t : Tree) (w v : List ℕ) → pattern_state t w ≡ done → finds t (w ++ v) ≡ true
done-finds t w v e =
    state_decides t (w ++ v) ∙ ap (is_accepted t (is_empty (w ++ v))) (done-stays t w v e)

-- ---- a word, one more character read
pub state-next : (t : Tree) (w : List ℕ) (c : ℕ) (flags after : List Bool) (d : Bool)
    → pattern_state t w ≡ reading (numbers_from 0 flags)
    → after ≡ reads_next t (is_empty w) (flag_at flags) c 0 true → d ≡ ends_here t false false (flag_at after) 0 true
    → (if d then done else reading (numbers_from 0 after)) ≡ pattern_state t (w ++ c ∷ [])
state-next t w c flags after d s e f =
    next-reading t (is_empty w) c flags after d e f
    ∙ sym (state_goes_on t w c ∙ ap (next_state t (is_empty w) c) s)

module _ (t : Tree) (w : List ℕ) (i c : ℕ) (within : i < length w) (is : c ≡ get_or w i c) where
  longer : take i w ++ c ∷ [] ≡ take (i + 1) w
  longer = ap (λ k. take i w ++ k ∷ []) is ∙ sym (take_more w i c within)

  pub empty-next : false ≡ is_empty (take (i + 1) w)
  empty-next = sym (not_empty (take i w) c) ∙ ap is_empty longer

  module _ (first : Bool) (flags after : List Bool) (d : Bool) (start : first ≡ is_empty (take i w))
      (s : pattern_state t (take i w) ≡ reading (numbers_from 0 flags))
      (e : after ≡ reads_next t first (flag_at flags) c 0 true)
      (f : d ≡ ends_here t false false (flag_at after) 0 true) where
    both : (if d then done else reading (numbers_from 0 after)) ≡ pattern_state t (take (i + 1) w)
    both =
        state-next t (take i w) c flags after d s (e ∙ ap (λ b. reads_next t b (flag_at flags) c 0 true) start) f
        ∙ ap (pattern_state t) longer

    pub read-more : d ≡ false → pattern_state t (take (i + 1) w) ≡ reading (numbers_from 0 after)
    read-more g = sym both ∙ ap (λ x. if x then done else reading (numbers_from 0 after)) g

    pub read-done : d ≡ true → finds t w ≡ true
    read-done g =
        sym (ap (finds t) (take-append-drop (i + 1) w))
        ∙ done-finds t (take (i + 1) w) (drop (i + 1) w)
        (sym both ∙ ap (λ x. if x then done else reading (numbers_from 0 after)) g)

pub read-all : (t : Tree) (w : List ℕ) (i : ℕ) (first : Bool) (flags : List Bool) (d : Bool) → length w ≤ i
    → first ≡ is_empty (take i w) → pattern_state t (take i w) ≡ reading (numbers_from 0 flags)
    → d ≡ ends_here t first true (flag_at flags) 0 true → d ≡ finds t w
read-all t w i first flags d past start s f =
    f
    ∙ ap (λ b. ends_here t b true (flag_at flags) 0 true) start
    ∙ sym (accepted-reading t (is_empty (take i w)) flags)
    ∙ sym (state_decides t (take i w) ∙ ap (is_accepted t (is_empty (take i w))) s)
    ∙ ap (finds t) (take_all i w past)

-- at the beginning of a word
pub read-none : (t : Tree) (flags : List Bool) (d : Bool) → flags ≡ []
    → d ≡ ends_here t true false (flag_at flags) 0 true → d ≡ false
    → pattern_state t [] ≡ reading (numbers_from 0 flags)
read-none t flags d e f g =
    sym (first-none t flags d e f) ∙ ap (λ x. if x then done else reading (numbers_from 0 flags)) g

pub found-first : (t : Tree) (w : List ℕ) (flags : List Bool) (d : Bool) → flags ≡ []
    → d ≡ ends_here t true false (flag_at flags) 0 true → d ≡ true → finds t w ≡ true
found-first t w flags d e f g =
    done-finds t [] w
    (sym (first-none t flags d e f) ∙ ap (λ x. if x then done else reading (numbers_from 0 flags)) g)

-- a truth of `finds` is one of the relation
pub related : (t : Tree) (w : List ℕ) (d : Bool) → d ≡ finds t w → IsTrue d ↔ IsFoundIn w t
related t w d e = subst (λ x. IsTrue x ↔ IsFoundIn w t) (sym e) (finds-decides t w)

pub after-word : (t : Tree) (w : List ℕ) (c : ℕ) → after t c (state_of t w) ≡ state_of t (w ++ c ∷ [])
after-word t w c =
    ap (λ (b : Bool). (b, next_state t (is_empty w) c (pattern_state t w))) (sym (not_empty w c))
    ∙ ap (λ (s : PatternState). (is_empty (w ++ c ∷ []), s)) (sym (state_goes_on t w c))
