-- A candidate's number, found from its value, and the marks at these numbers.
use Rattle.std.proofs.Common.{◌≡◌, ℕ, ◌*◌, ◌/◌, ◌%◌, ◌<◌, ◌≤◌, ◌==◌, Bool, true, false, ◌||◌, List, replicate, get_or, Ok, ℤ, neg_ℤ, ◌-ℤ◌, ◌≤ℤ◌, unsigned_abs, refl, ap, sym, ◌∙◌, arith}
use Rattle.std.specs.List.{list_any}
use Rattle.std.specs.Ordering.{int_eq}
use Rattle.std.proofs.lemmas.Int.{ints}
use Rattle.std.proofs.lemmas.Bool.{eq-eqb, eqb-true, false_from_ne_true}
use Rattle.std.proofs.lemmas.Bool.Decides.{Decides-int_eq}
use Rattle.std.proofs.lemmas.Nat.Gcd.{dvd_of_mod-eq-zero}
use Rattle.std.proofs.Math.Nat.{mul-mod_left, mul-div_cancel, div-mul_cancel}
use Rattle.std.proofs.lemmas.List.{get_or-replicate}
use Rattle.number_groups.specs.Multiples.{is_multiple}
use Rattle.number_groups.specs.Group.{Group, is_listed, is_struck}
use Rattle.number_groups.specs.Outcome.{multiple_from, candidate, reached}
use Rattle.js_numbers.proofs.AnswerLaws.{reached_Ok}
use Rattle.js_numbers.specs.Marking.{AddsMarks, AddsRuledOut, AreMarked, AreStruckMarked}
use Rattle.list_laws.proofs.Booleans.{same_test}

to_int_eq : (x y : ℤ) → x ≡ y → int_eq x y ≡ true
to_int_eq x y = (Decides-int_eq x y).1

-- ---- steps of one size

pub steps_found : (d m k : ℕ) → 0 < m → d % m ≡ 0 → (d / m == k) ≡ (k * m == d)
steps_found d m k p e = same_test (d / m == k) (k * m == d)
    (λ h. let f = eqb-true (d / m) k h in eq-eqb (k * m) d
    (ap (λ z. z * m) (sym f) ∙ div-mul_cancel m (dvd_of_mod-eq-zero m e)))
    (λ h. let f = eqb-true (k * m) d h in eq-eqb (d / m) k (ap (λ z. z / m) (sym f) ∙ mul-div_cancel k p))

pub steps_none : (d m k limit : ℕ) → 0 < m → (d % m ≡ 0 → limit ≤ d / m) → k < limit → false ≡ (k * m == d)
steps_none d m k limit p none l = sym (false_from_ne_true (k * m == d) (λ h.
    let f = eqb-true (k * m) d h in
    let le = none (ap (λ z. z % m) (sym f) ∙ mul-mod_left k m) in
    let count : d / m ≡ k = ap (λ z. z / m) (sym f) ∙ mul-div_cancel k p in
    omega (arith, le, count)))

-- ---- upwards and downwards

pub index_up_found : (m : ℕ) (low x first : ℤ) (k d : ℕ) → multiple_from m low 0 ≡ first → first ≤ℤ x
    → d ≡ unsigned_abs (x -ℤ first)
    → (k * m == d) ≡ int_eq x (multiple_from m low k)
index_up_found m low x first k d e l f = same_test (k * m == d) (int_eq x (multiple_from m low k))
    (λ h. let g = eqb-true (k * m) d h in to_int_eq x (multiple_from m low k) (omega (arith, ints, e, f, g)))
    (λ h. let g = (Decides-int_eq x (multiple_from m low k)).0 h in eq-eqb (k * m) d (omega (arith, ints, e, f, g)))

pub index_down_found : (m : ℕ) (low x last : ℤ) (k d : ℕ) → neg_ℤ (multiple_from m low 0) ≡ last → x ≤ℤ last
    → d ≡ unsigned_abs (last -ℤ x)
    → (k * m == d) ≡ int_eq x (neg_ℤ (multiple_from m low k))
index_down_found m low x last k d e l f = same_test (k * m == d) (int_eq x (neg_ℤ (multiple_from m low k)))
    (λ h. let g = eqb-true (k * m) d h in to_int_eq x (neg_ℤ (multiple_from m low k))
    (omega (arith, ints, e, f, g)))
    (λ h. let g = (Decides-int_eq x (neg_ℤ (multiple_from m low k))).0 h in
    eq-eqb (k * m) d (omega (arith, ints, e, f, g)))

-- ---- marks

-- marks that were nowhere before
pub AreMarked-from_none : (limit : ℕ) (candidate : ℕ → ℤ) (test : ℤ → Bool) (new : List Bool)
    → AddsMarks limit candidate test (replicate limit false) new → AreMarked limit candidate test new
AreMarked-from_none limit candidate test new h = λ k l small.
    h k l small ∙ ap (λ b. b || test (candidate k)) (get_or-replicate limit k false false l)

pub or_comm : (a b : Bool) → (a || b) ≡ (b || a)
or_comm true true = refl
or_comm true false = refl
or_comm false true = refl
or_comm false false = refl

-- two kinds of marks make the candidates that are struck
pub AreStruckMarked-from_both : (limit m : ℕ) (g : Group) (old new : List Bool)
    → AddsRuledOut limit m g (replicate limit false) old
    → AddsMarks limit (candidate m g) (λ x. list_any (λ b. is_multiple b x) g.not_multiples) old new
    → AreStruckMarked limit m g new
AreStruckMarked-from_both limit m g old new h i = λ k l small.
    let x = candidate m g k in
    i k l small
    ∙ ap (λ b. b || list_any (λ d. is_multiple d x) g.not_multiples)
    (AreMarked-from_none limit (candidate m g) (is_listed g.not_sets) old h k l small)
    ∙ or_comm (is_listed g.not_sets x) (list_any (λ d. is_multiple d x) g.not_multiples)

-- what the mark of a candidate that is tried says
pub struck_by_mark : (limit m : ℕ) (g : Group) (k : ℕ) (x : ℤ) (marks : List Bool) → AreStruckMarked limit m g marks
    → k < limit → reached m g k ≡ Ok x → get_or marks k false ≡ is_struck g x
struck_by_mark limit m g k x marks marked l e =
    let (tried, is) = reached_Ok m g k x e in marked k l tried.small ∙ ap (is_struck g) is
