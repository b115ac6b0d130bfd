-- Copies of one set of characters, one more gone through.
use Rattle.std.proofs.Common.{◌≡◌, ℕ, zero, suc, ◌+◌, ◌-◌, ◌<◌, ◌≤◌, Bool, true, false, not, ◌&&◌, ◌||◌, nat_le, List, [], ◌∷◌, ◌++◌, length, replicate, Option, Some, None, refl, sym, ◌∙◌, ap, arith, add-zero}
use Rattle.std.proofs.Math.Bool.{or-false, or_assoc, and-false, and-true}
use Rattle.std.proofs.lemmas.Bool.{lt-leb, le-leb}
use Rattle.std.specs.Option.{is_none, is_some}
use Rattle.patterns.specs.CharSet.{has}
use Rattle.patterns.specs.Tree.{one_of, repeated}
use Rattle.word_states.specs.Position.{copies}
use Rattle.state_laws.specs.Flow.{ends_here, reads_next}
use Rattle.js_pattern_positions.specs.Walk.{ends_after, next_after, some_in, copies_begun}
use Rattle.js_pattern_positions.proofs.Through.{reads_repeated}
use Rattle.js_pattern_positions.proofs.CopiesLemmas.{next_after-same}
use Rattle.js_pattern_positions.proofs.EndsSteps.{Left, ends-init, ends-next}
use Rattle.list_laws.proofs.Numbers.{suc_add-add_suc}

-- that there is no upper bound, as `is_none` says it
pub none_of : (high : Option ℕ) (none : Bool) → is_some high ≡ not none → none ≡ is_none high
none_of None true e = refl
none_of None false e = absurd (cc e)
none_of (Some n) true e = absurd (cc e)
none_of (Some n) false e = refl

-- the flags of all copies, where the set has the character and where it doesn't
pub next_after-none : (again : Bool) (one : ℕ → Bool → Bool) (n base : ℕ) (here : Bool)
    → next_after again (λ at some. false ∷ []) one 1 n base here ≡ replicate n false
next_after-none again one zero base here = refl
next_after-none again one (suc n) base here =
    ap (λ z. false ∷ z) (next_after-none again one n (base + 1) (one base here))

module _ (first : Bool) (read : ℕ → Bool) (c : ℕ) (ranges : List (ℕ × ℕ)) (low : ℕ) (high : Option ℕ) (n : ℕ)
    (flags after : List Bool) (begins within : Bool) (size : n ≡ copies low high) (is : within ≡ has ranges c) where
  pub run-reads_none : within ≡ false → after ≡ flags ++ replicate n false
      → after ≡ flags ++ reads_next (repeated (one_of ranges) low high) first read c (length flags) begins
  run-reads_none none e =
      e ∙ ap (λ k. flags ++ replicate k false) size
      ∙ ap (λ z. flags ++ z)
      (sym (next_after-none (is_none high) (λ at some. read at) (copies low high) (length flags) begins)
      ∙ sym (next_after-same (is_none high) (λ at some. (some && has ranges c) ∷ []) (λ at some. false ∷ [])
      (λ at some. read at) (λ at some. read at) 1
      (λ at some. ap (λ x. (some && x) ∷ []) (sym is ∙ none) ∙ ap (λ x. x ∷ []) (and-false some)) (λ at some. refl)
      (copies low high) (length flags) begins)
      ∙ reads_repeated first read c (one_of ranges) low high (length flags) begins)

  pub run-reads_some : within ≡ true → after ≡ flags ++ copies_begun (is_none high) read n (length flags) begins
      → after ≡ flags ++ reads_next (repeated (one_of ranges) low high) first read c (length flags) begins
  run-reads_some some e =
      e ∙ ap (λ k. flags ++ copies_begun (is_none high) read k (length flags) begins) size
      ∙ ap (λ z. flags ++ z)
      (sym (next_after-same (is_none high) (λ at b. (b && has ranges c) ∷ []) (λ at b. b ∷ [])
      (λ at b. read at) (λ at b. read at) 1
      (λ at b. ap (λ x. (b && x) ∷ []) (sym is ∙ some) ∙ ap (λ x. x ∷ []) (and-true b)) (λ at b. refl)
      (copies low high) (length flags) begins)
      ∙ reads_repeated first read c (one_of ranges) low high (length flags) begins)

-- whether a match can end after some of the copies, where n are left and i of them are gone through
module _ (read : ℕ → Bool) (low : ℕ) where
  abbrev pub after_run : (n i base : ℕ) (here ends : Bool) → Bool
  after_run n i base here ends = ends_after (λ at some. read at) 1 low n i base here ends

  -- where a run begins plays no part
  pub run-here : (n i base : ℕ) (a b ends : Bool) → after_run n i base a ends ≡ after_run n i base b ends
  run-here zero i base a b ends = refl
  run-here (suc n) i base a b ends = refl

  -- copies that more must follow
  pub run-skip : (s n i base : ℕ) (here ends : Bool) → i + s < low
      → after_run n i base here ends ≡ after_run (n - s) (i + s) (base + s) here ends
  run-skip zero n i base here ends h =
      ap (λ k. after_run k i base here ends) (same n)
      ∙ ap (λ k. after_run (n - 0) k base here ends) (sym (add-zero i))
      ∙ ap (λ k. after_run (n - 0) (i + 0) k here ends) (sym (add-zero base)) where
        same : (n : ℕ) → n ≡ n - 0
        same n = omega arith
  run-skip (suc s) zero i base here ends h =
      sym (ap (λ k. after_run k (i + suc s) (base + suc s) here ends) (none s)) where
        none : (s : ℕ) → 0 - suc s ≡ 0
        none s = omega arith
  run-skip (suc s) (suc n) i base here ends h =
      ap (after_run n (suc i) (base + 1) (read base))
      (ap (λ x. ends || (x && read base)) (lt-leb low (suc i) (omega (arith, h))) ∙ or-false ends)
      ∙ run-here n (suc i) (base + 1) (read base) here ends
      ∙ run-skip s n (suc i) (base + 1) here ends (omega (arith, h))
      ∙ ap (λ k. after_run (n - s) k (base + 1 + s) here ends) (suc_add-add_suc i s)
      ∙ ap (λ k. after_run (n - s) (i + suc s) k here ends) (shift_one base s)
      ∙ ap (λ k. after_run k (i + suc s) (base + suc s) here ends) (less n s) where
        less : (n s : ℕ) → n - s ≡ suc n - suc s
        less n s = omega arith

        shift_one : (i s : ℕ) → i + 1 + s ≡ i + suc s
        shift_one i s = omega arith

module _ (read : ℕ → Bool) (low : ℕ) (high : Option ℕ) (base : ℕ) (begins : Bool) where
  -- what is left of the copies decides what the whole decides, for each set
  abbrev pub Run : ℕ → ℕ → Bool → Type 0
  Run n i ends =
      (ranges : List (ℕ × ℕ)) (first last : Bool)
      → Left first last read (one_of ranges) low high base begins (n - i) i (base + i) begins ends

  pub run-init : (n s : ℕ) (ends : Bool) → n ≡ copies low high → s ≡ low - 1 → ends ≡ (nat_le low 0 && begins)
      → Run n s ends
  run-init n s ends e f g ranges first last =
      sym (to_first low s f)
      ∙ ends-init first last read (one_of ranges) low high base begins n ends e g where
        to_first : (low s : ℕ) → s ≡ low - 1
            → after_run read low (n - 0) 0 base begins ends ≡ after_run read low (n - s) s (base + s) begins ends
        to_first zero s f =
            let none : 0 ≡ s = omega (arith, f) in
            let still : base ≡ base + 0 = omega arith in
            ap (λ k. after_run read 0 (n - 0) 0 k begins ends) still
            ∙ ap (λ k. after_run read 0 (n - k) k (base + k) begins ends) none
        to_first (suc low) s f =
            let all : n - 0 ≡ n = omega arith in
            let at : 0 + s ≡ s = omega arith in
            ap (λ k. after_run read (suc low) k 0 base begins ends) all
            ∙ run-skip read (suc low) s n 0 base begins ends (omega (arith, f))
            ∙ ap (λ k. after_run read (suc low) (n - s) k (base + s) begins ends) at

  pub run-next : (n i : ℕ) (one ends : Bool) → i < n → low ≤ i + 1 → one ≡ read (base + i)
      → Run n i ends → Run n (i + 1) (ends || one)
  run-next n i one ends h must e run ranges first last =
      run-here read low (n - (i + 1)) (i + 1) (base + (i + 1)) begins one (ends || one)
      ∙ ends-next first last read (one_of ranges) low high base begins n i (base + i) (base + (i + 1)) begins one ends
      (ends || one) h e (omega arith) (ap (λ x. ends || (x && one)) (sym (le-leb low (i + 1) must)))
      (run ranges first last)

  pub run-last : (n i : ℕ) (ends : Bool) → n ≤ i → Run n i ends → (ranges : List (ℕ × ℕ)) (first last : Bool)
      → ends ≡ ends_here (repeated (one_of ranges) low high) first last read base begins
  run-last n i ends past run ranges first last =
      sym (ap (λ k. after_run read low k i (base + i) begins ends) (none n i past)) ∙ run ranges first last where
        none : (n i : ℕ) → n ≤ i → n - i ≡ 0
        none n i h = omega (arith, h)

  -- the copies that are left, at once
  pub run-rest : (k n i : ℕ) (ends : Bool) → n - i ≡ k → low ≤ i + 1 → Run n i ends
      → (ranges : List (ℕ × ℕ)) (first last : Bool)
      → (ends || some_in read k (base + i)) ≡ ends_here (repeated (one_of ranges) low high) first last read base begins
  run-rest zero n i ends left must run ranges first last =
      or-false ends ∙ run-last n i ends (omega (arith, left)) run ranges first last
  run-rest (suc k) n i ends left must run ranges first last =
      let next : base + i + 1 ≡ base + (i + 1) = omega arith in
      ap (λ p. ends || (read (base + i) || some_in read k p)) next
      ∙ sym (or_assoc ends (read (base + i)) (some_in read k (base + (i + 1))))
      ∙ run-rest k n (i + 1) (ends || read (base + i)) (omega (arith, left)) (omega (arith, must))
      (run-next n i (read (base + i)) ends (omega (arith, left)) must refl run) ranges first last
