-- What is kept by cells is what the frame says of them: which demands they serve, and what is required of their values.
use Rattle.std.proofs.Common.{◌≡◌, ℕ, ◌-◌, ◌*◌, ◌<◌, ◌≤◌, ◌++◌, min, Bool, true, false, cond, List, [], ◌∷◌, map, flat_map, length, get_or, refl, ap, sym, ◌∙◌, inl, inr, arith}
use Rattle.std.specs.List.{range_with_len}
use Rattle.std.proofs.lemmas.Bool.{and_parts, and_from, cases_lt}
use Rattle.std.proofs.lemmas.List.{get_or_default, get_or_past}
use Rattle.std.proofs.lemmas.List.FromFn.{length-map-range_with_len, get_or-map-range_with_len}
use Rattle.positions.specs.Position.{Position, position_at}
use Rattle.goals.specs.Signed.{Signed, Plus, Minus}
use Rattle.cells.specs.Cells.{Cells}
use Rattle.frames.specs.ObjectFrame as O
use Rattle.frames.specs.ObjectFrame.{minus_inside}
use Rattle.js_algebra.specs.View.{is_in_table, are_in_table}
use Rattle.js_name_tests.specs.declared.literals.NameTest.{NameTest}
use Rattle.js_name_tests.specs.declared.literals.ValueTest.{ValueTest}
use Rattle.js_name_tests.specs.NameTests.{passes, says_at, asks, values_in_table}
use Rattle.js_name_tests.proofs.Telling.{truth-past}
use Rattle.js_name_tests.proofs.Framing.{told-at, told-many}
use Rattle.js_objects.specs.Passing.{is_passed_at, ArePassed, AreServed}
use Rattle.js_objects.specs.declared.passing.Passing.{Passing}

-- demands

module _ (T : List Position) (C : Cells) where
  -- where tests of names and demands agree, what passes the tests serves the demands
  pub ArePassed-AreServed : (ts : List NameTest) (ds : List Signed)
      → ((c : ℕ) → map (passes C c) ts ≡ map (λ x. O.inside T C x c) ds) → (p : Passing) → ArePassed C ts p
      → AreServed T C ds p
  ArePassed-AreServed ts ds same p passed =
      let many = told-many (passes C 0) (λ x. O.inside T C x 0) ts ds (same 0) in
      let first : NameTest = record { literal = 0; truth = false } in
      record {
        wide = passed.wide;
        long = passed.long ∙ ap (λ n. n * p.width) many;
        told = λ d c l w.
            (let k : d < length ts = omega (arith, l, many) in
            passed.told d c first k w
            ∙ told-at (passes C c) (λ x. O.inside T C x c) ts ds d (same c) l (get_or ts d first)
            (get_or_default ts d first (get_or ts d first) k));
      }

  -- no literal is true of a cell that isn't there
  abbrev unsaid : Signed → Bool
  unsaid (Plus p) = false
  unsaid (Minus p) = minus_inside false (position_at T p)

  inside-past : (x : Signed) (c : ℕ) → length C.vectors ≤ c → O.inside T C x c ≡ unsaid x
  inside-past (Plus p) c l = truth-past C c (Plus p) l
  inside-past (Minus p) c l = ap (λ b. minus_inside b (position_at T p)) (truth-past C c (Minus p) l)

  inside-cut : (x : Signed) (c k : ℕ) → k ≡ min c (length C.vectors) → O.inside T C x k ≡ O.inside T C x c
  inside-cut x c k e = elim (cases_lt c (length C.vectors)) [
    | inl l ↦ (let same : k ≡ c = omega (arith, e, l) in ap (λ z. O.inside T C x z) same)
    | inr l ↦
        (let past : length C.vectors ≤ k = omega (arith, e, l) in inside-past x k past ∙ sym (inside-past x c l))
  ]

  pub is_passed_at-inside : (ds : List Signed) (p : Passing) → AreServed T C ds p → (d c : ℕ) → d < length ds
      → is_passed_at p d (min c (p.width - 1)) ≡ O.inside T C (get_or ds d (Plus 0)) c
  is_passed_at-inside ds p served d c l =
      let w = served.wide in
      let k = min c (p.width - 1) in
      let within : k < p.width = omega (arith, w) in
      let cut : k ≡ min c (length C.vectors) = omega (arith, w) in
      served.told d k l within ∙ inside-cut (get_or ds d (Plus 0)) c k cut

-- values

module _ (C : Cells) where
  asks-past : (c : ℕ) → length C.vectors ≤ c → (vs : List ValueTest) → flat_map (asks C c) vs ≡ []
  asks-past c l [] = refl
  asks-past c l (v ∷ vs) =
      ap (λ b. cond b (Plus v.value.0 ∷ []) [] ++ flat_map (asks C c) vs)
      (truth-past C c (get_or C.names v.literal (Plus 0)) l)
      ∙ asks-past c l vs

  -- the lists of all cells, and of those that aren't there
  pub get_or-asks : (vs : List ValueTest) (lists : List (List Signed))
      → lists ≡ map (λ c. flat_map (asks C c) vs) (range_with_len 0 (length C.vectors)) → (c : ℕ)
      → get_or lists c [] ≡ flat_map (asks C c) vs
  get_or-asks vs lists e c =
      let n = length C.vectors in
      let f = λ (k : ℕ). flat_map (asks C k) vs in
      elim (cases_lt c n) [
        | inl l ↦ ap (λ z. get_or z c []) e ∙ get_or-map-range_with_len f 0 n c c [] l (omega arith)
        | inr l ↦
            get_or_past lists c []
            (let k = length-map-range_with_len f 0 n in let m = ap length e in omega (arith, l, k, m))
            ∙ sym (asks-past c l vs)
      ]

  pub asks-in-table : (T : List Position) (c : ℕ) (vs : List ValueTest) → values_in_table T vs ≡ true
      → are_in_table T (flat_map (asks C c) vs) ≡ true
  asks-in-table T c [] h = refl
  asks-in-table T c (v ∷ vs) h =
      let (a, b) = and_parts (is_in_table T (Plus v.value.0)) (values_in_table T vs) h in
      go (says_at C c v.literal) a (asks-in-table T c vs b) where
        go : (b : Bool) → is_in_table T (Plus v.value.0) ≡ true → are_in_table T (flat_map (asks C c) vs) ≡ true
            → are_in_table T (cond b (Plus v.value.0 ∷ []) [] ++ flat_map (asks C c) vs) ≡ true
        go true here more = and_from (is_in_table T (Plus v.value.0)) _ here more
        go false here more = more
