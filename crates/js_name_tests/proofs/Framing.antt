-- What is kept of a set is what its frame requires.
use Rattle.std.proofs.Common.{◌≡◌, ℕ, zero, suc, ◌<◌, Bool, true, not, cond, List, [], ◌∷◌, map, filter, flat_map, length, get_or, nat_lt, refl, ap, ap₂, sym, ◌∙◌, subst, arith}
use Rattle.std.specs.List.{range_with_len}
use Rattle.std.proofs.lemmas.Bool.{and_parts, ltb-true}
use Rattle.std.proofs.lemmas.List.{length-map}
use Rattle.documents.specs.Tests.{some}
use Rattle.positions.specs.Position.{Position}
use Rattle.goals.specs.Signed.{Signed, Plus, Minus}
use Rattle.cells.specs.Cells.{Cells, naming}
use Rattle.frames.specs.Frame.{In, Head}
use Rattle.frames.specs.ObjectFrame.{bars, is_allowed, is_demand, inside, each}
use Rattle.js_algebra.specs.View.{are_in_table}
use Rattle.js_name_tests.specs.declared.literals.NameTest.{NameTest}
use Rattle.js_name_tests.specs.declared.literals.ValueTest.{ValueTest}
use Rattle.js_name_tests.specs.NameTests.{barred_at, served_at, value_at, tests_from, numbered_value, values_from, passes, asks, are_within, values_within}
use Rattle.js_name_tests.proofs.Naming.{naming-every, naming-demands, naming-bars, naming-each}
use Rattle.js_name_tests.proofs.Telling.{tests-within, values-within, barred-names, served-names, asked-names}

filter_same : (p q : ℕ → Bool) → ((c : ℕ) → p c ≡ q c) → (cs : List ℕ) → filter p cs ≡ filter q cs
filter_same p q h [] = refl
filter_same p q h (c ∷ cs) = ap₂ (λ b z. cond b (c ∷ z) z) (h c) (filter_same p q h cs)

-- elements at the same place of two lists whose tests agree
pub told-at : (f : NameTest → Bool) (g : Signed → Bool) (ts : List NameTest) (xs : List Signed) (d : ℕ)
    → map f ts ≡ map g xs → d < length xs → (t : NameTest) → t ≡ get_or ts d t
    → f t ≡ g (get_or xs d (Plus 0))
told-at f g [] [] d e l t h = absurd (omega (arith, l))
told-at f g [] (x ∷ xs) d e l t h = cc
told-at f g (u ∷ ts) [] d e l t h = cc
told-at f g (u ∷ ts) (x ∷ xs) zero e l t h = (let k : f u ≡ g x = cc e in ap f h ∙ k)
told-at f g (u ∷ ts) (x ∷ xs) (suc d) e l t h =
    let k : map f ts ≡ map g xs = cc e in told-at f g ts xs d k (omega (arith, l)) t h

pub told-many : (f : NameTest → Bool) (g : Signed → Bool) (ts : List NameTest) (xs : List Signed)
    → map f ts ≡ map g xs → length ts ≡ length xs
told-many f g ts xs e = sym (length-map ts f) ∙ ap length e ∙ length-map xs g

pub within-at : (n : ℕ) (ts : List NameTest) (d : ℕ) → are_within n ts ≡ true → d < length ts → (t : NameTest)
    → t ≡ get_or ts d t → t.literal < n
within-at n [] d e l t h = absurd (omega (arith, l))
within-at n (u ∷ ts) zero e l t h =
    subst (λ z. z.literal < n) (sym h) (ltb-true u.literal n (and_parts (nat_lt u.literal n) (are_within n ts) e).0)
within-at n (u ∷ ts) (suc d) e l t h =
    within-at n ts d (and_parts (nat_lt u.literal n) (are_within n ts) e).1 (omega (arith, l)) t h

-- nothing is required at first places
pub each-head : (T : List Position) (C : Cells) (k : ℕ) (S : List Signed) → flat_map (each T C (Head k)) S ≡ []
each-head T C k [] = refl
each-head T C k (Plus p ∷ S) = each-head T C k S
each-head T C k (Minus p ∷ S) = each-head T C k S

module _ (T : List Position) (C : Cells) (S : List Signed) (named : C.names ≡ naming T S) (xs : List Signed)
    (listed : xs ≡ C.names) where
  pub names-in-table : are_in_table T S ≡ true → are_in_table T xs ≡ true
  names-in-table h = ap (are_in_table T) (listed ∙ named) ∙ naming-every T _ S h

  pub demands-are : (ds : List Signed) → ds ≡ filter (is_demand T) xs → ds ≡ filter (is_demand T) S
  demands-are ds e = e ∙ ap (filter (is_demand T)) (listed ∙ named) ∙ naming-demands T S

  pub bars-within : (ts : List NameTest) → ts ≡ tests_from (barred_at T) 0 xs
      → are_within (length C.names) ts ≡ true
  bars-within ts e =
      ap (are_within (length C.names)) (e ∙ ap (tests_from (barred_at T) 0) listed)
      ∙ tests-within (barred_at T) (length C.names) 0 C.names (omega arith)

  pub servers-within : (ts : List NameTest) → ts ≡ tests_from (served_at T) 0 xs
      → are_within (length C.names) ts ≡ true
  servers-within ts e =
      ap (are_within (length C.names)) (e ∙ ap (tests_from (served_at T) 0) listed)
      ∙ tests-within (served_at T) (length C.names) 0 C.names (omega arith)

  pub servers-are : (ts : List NameTest) → ts ≡ tests_from (served_at T) 0 xs → (c : ℕ)
      → map (passes C c) ts ≡ map (λ x. inside T C x c) (filter (is_demand T) S)
  servers-are ts e c =
      ap (map (passes C c)) (e ∙ ap (tests_from (served_at T) 0) listed) ∙ served-names T C c
      ∙ ap (map (λ x. inside T C x c)) (ap (filter (is_demand T)) named ∙ naming-demands T S)

  pub values-are-within : (vs : List ValueTest) → map numbered_value vs ≡ values_from (value_at T) 0 xs
      → values_within (length C.names) vs ≡ true
  values-are-within vs e =
      values-within (value_at T) C.names vs (e ∙ ap (values_from (value_at T) 0) listed)

  pub values-are : (vs : List ValueTest) → map numbered_value vs ≡ values_from (value_at T) 0 xs → (c : ℕ)
      → flat_map (asks C c) vs ≡ flat_map (each T C (In c)) S
  values-are vs e c =
      asked-names T C c vs (e ∙ ap (values_from (value_at T) 0) listed) ∙ ap (flat_map (each T C (In c))) named
      ∙ naming-each T C c S

  pub allowed-are : (ts : List NameTest) → ts ≡ tests_from (barred_at T) 0 xs → (cs : List ℕ)
      → cs ≡ filter (λ c. not (some (passes C c) ts)) (range_with_len 0 (length C.vectors))
      → cs ≡ filter (is_allowed T C S) (range_with_len 0 (length C.vectors))
  allowed-are ts e cs h =
      h
      ∙ filter_same (λ c. not (some (passes C c) ts)) (is_allowed T C S)
      (λ c. ap not
      (ap (some (passes C c)) (e ∙ ap (tests_from (barred_at T) 0) listed) ∙ barred-names T C c
      ∙ ap (some (bars T C c)) named ∙ naming-bars T C c S))
      (range_with_len 0 (length C.vectors))
