-- What a search knows of the entry whose turn it is: it is in the last group, and each open entry leads to it.
use Rattle.std.proofs.Common.{◌≡◌, ℕ, suc, ◌+◌, ◌<◌, ◌≤◌, ◌⊎◌, ◌≢◌, List, [], ◌∷◌, ◌++◌, length, inl, inr, true, Option, refl, sym, ap, ◌∙◌, subst, arith}
use Rattle.std.proofs.lemmas.Bool.{cases_lt}
use Rattle.std.proofs.lemmas.List.{get_or_past}
use Rattle.schemas.specs.Guarded.{targets, is_among, IsOnCycle}
use Rattle.schema_laws.proofs.Ways.{leads-here, leads-edge, leads-join}
use Rattle.js_guard.specs.declared.search.Mark.{Mark}
use Rattle.js_guard.specs.declared.search.Mark.TheVariants.{New, Open}
use Rattle.js_guard.specs.declared.search.Turn.{Turn}
use Rattle.js_guard.specs.Searching.{mark, at, turn_at, Reaches, Together, IsAhead, IsSearch}
use Rattle.js_guard.proofs.Pushes.{push-length, push-old, push-new, push-cases}

abbrev pub no_turn : Turn
no_turn = record { place = 0; next = 0 }

pub Reaches-join : (g : List (List ℕ)) (x y z : ℕ) → Reaches g x y → Reaches g y z → Reaches g x z
Reaches-join g x y z (m, h) (n, k) = (m + n, leads-join g m n (m + n) x y z refl h k)

pub Reaches-edge : (g : List (List ℕ)) (x y : ℕ) → is_among y (targets g x) ≡ true → Reaches g x y
Reaches-edge g x y h = (1, leads-edge g 0 x y y h (leads-here g y))

-- back from where an edge leads
pub on_cycle : (g : List (List ℕ)) (x y : ℕ) → is_among y (targets g x) ≡ true → Reaches g y x → IsOnCycle g x
on_cycle g x y h (n, k) = (n, leads-edge g n x y x h k)

pub on_cycle-target : (g : List (List ℕ)) (x y : ℕ) → is_among y (targets g x) ≡ true → Reaches g y x → IsOnCycle g y
on_cycle-target g x y h (n, k) =
    (n, leads-join g n 1 (suc n) y x y (omega arith) k (leads-edge g 0 x y y h (leads-here g y)))

module _ (g : List (List ℕ)) (M : List Mark) (S B : List ℕ) (P : List Turn) (done : ℕ) (least : Option ℕ)
    (t : Turn) (s : IsSearch g M S B (P ++ t ∷ []) done least) where
  turn-here : turn_at (P ++ t ∷ []) (length P) ≡ t
  turn-here = push-new P t no_turn

  turn-before : (k : ℕ) → k < length P → turn_at (P ++ t ∷ []) k ≡ turn_at P k
  turn-before k h = push-old P t no_turn k h

  last_place : length P < length (P ++ t ∷ [])
  last_place = omega (arith, push-length P t no_turn)

  pub turn-within : t.place < length S
  turn-within =
      omega (arith, s.path_within (length P) last_place, ap (λ u. u.place) turn-here)

  pub path-before : (k : ℕ) → k < length P → (turn_at P k).place < t.place
  path-before k h =
      omega (
        arith,
        s.path_rises k (length P) h last_place,
        ap (λ u. u.place) turn-here,
        ap (λ u. u.place) (turn-before k h),
      )

  pub groups-before : (k : ℕ) → k < length B → at B k ≤ t.place
  groups-before k h =
      let on_path = s.path_groups k h in
      elim (push-cases P t no_turn on_path.0 on_path.1) [
        | inl l ↦ omega (arith, path-before on_path.0 l, ap (λ u. u.place) (turn-before on_path.0 l), on_path.2)
        | inr e ↦ omega (arith, ap (λ k. (turn_at (P ++ t ∷ []) k).place) e, ap (λ u. u.place) turn-here, on_path.2)
      ]

  -- no group begins past the turn's place
  pub together-after : (i j : ℕ) → t.place ≤ j → Together B j i
  together-after i j h k l less = absurd (let b = groups-before k l in omega arith)

  pub reach-turn : (i : ℕ) → i < length S → Reaches g (at S i) (at S t.place)
  reach-turn i h = s.reach i t.place h turn-within (together-after i t.place (omega arith))

  -- the places after the turn's are of its group
  pub reach-after : (i j : ℕ) → i < length S → j < length S → t.place ≤ j → Reaches g (at S i) (at S j)
  reach-after i j h k l = s.reach i j h k (together-after i j l)

  pub ahead-cases : (i e : ℕ) → IsAhead (P ++ t ∷ []) i e → IsAhead P i e ⊎ ((i ≡ t.place) × (t.next ≤ e))
  ahead-cases i e (k, l, p, n) =
      elim (push-cases P t no_turn k l) [
        | inl m ↦
            let same = turn-before k m in
            inl (k, m, sym (ap (λ u. u.place) same) ∙ p, subst (λ u. u.next ≤ e) same n)
        | inr f ↦
            let same = ap (turn_at (P ++ t ∷ [])) f ∙ turn-here in
            inr (sym p ∙ ap (λ u. u.place) same, subst (λ u. u.next ≤ e) same n)
      ]

  -- the path without the turn
  pub path_rises-before : (k l : ℕ) → k < l → l < length P → (turn_at P k).place < (turn_at P l).place
  path_rises-before k l less h =
      let below : k < length P = omega arith in
      omega (
        arith,
        s.path_rises k l less (omega (arith, push-length P t no_turn)),
        ap (λ u. u.place) (turn-before k below),
        ap (λ u. u.place) (turn-before l h),
      )

  pub path_groups-before : (k : ℕ) → k < length B → (at B k ≡ t.place → ⊥)
      → (l : ℕ) × (l < length P) × ((turn_at P l).place ≡ at B k)
  path_groups-before k h other =
      let on_path = s.path_groups k h in
      elim (push-cases P t no_turn on_path.0 on_path.1) [
        | inl l ↦ (on_path.0, l, sym (ap (λ u. u.place) (turn-before on_path.0 l)) ∙ on_path.2)
        | inr e ↦
            absurd (other (sym on_path.2 ∙ ap (λ k. (turn_at (P ++ t ∷ []) k).place) e ∙ ap (λ u. u.place) turn-here))
      ]

-- an entry with another mark than `New` has one
mark-inside : (M : List Mark) (x : ℕ) → mark M x ≢ New → x < length M
mark-inside M x other =
    elim (cases_lt x (length M)) [ inl l ↦ l | inr l ↦ absurd (other (get_or_past M x New l)) ]

pub open-inside : (g : List (List ℕ)) (M : List Mark) (S B : List ℕ) (P : List Turn) (done : ℕ) (least : Option ℕ)
    → IsSearch g M S B P done least → (i : ℕ) → i < length S → at S i < length g
open-inside g M S B P done least s i h =
    let inside = mark-inside M (at S i) (λ e. (let clash : Open i ≡ New = sym (s.open_marked i h) ∙ e in cc)) in
    let size = s.marked in
    omega arith
