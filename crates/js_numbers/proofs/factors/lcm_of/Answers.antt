use Rattle.std.proofs.Common.{◌≡◌, ◌<◌, ◌≤◌, ◌+◌, ◌^◌, [], ◌∷◌, ℕ, List, get_or, take, length, lit<, subst, sym, arith, take_all, true, nat_lt}
use Rattle.std.specs.List.{list_all}
use Rattle.number_groups.specs.Multiples.{IsLcmOf, lcm_of}
use Rattle.js_numbers.proofs.CommonMultiples.{IsLcmOf-nil, IsLcmOf-take_more, IsLcm-lcm_of, lcm_of-take_le, lcm_of-unique, positive_at}
use Rattle.js_numbers.proofs.factors.lcm_of.Goals as goal

pub loop-m-init : goal.loop-m-init
loop-m-init c = record { so_far = IsLcmOf-nil; small = lit< tt }

-- where the multiple of a front part is too large, so is that of the whole
over : (ms : List ℕ) (i m l : ℕ) → list_all (λ n. nat_lt 0 n) ms ≡ true → i < length ms → m ≡ get_or ms i 0
    → IsLcmOf (take i ms) l
    → lcm_of (l ∷ m ∷ []) ≤ lcm_of ms
over ms i m l p b e h =
    let q : 0 < m = subst (λ z. 0 < z) (sym e) (positive_at ms i p b) in
    lcm_of-take_le ms (i + 1) (lcm_of (l ∷ m ∷ [])) p
    (IsLcmOf-take_more ms i m l _ p b e h (IsLcm-lcm_of l m h.positive q))

pub returns-in_err-common : goal.returns-in_err-common
returns-in_err-common c =
    let le =
    over c.args.multiples.now c.loop-m.m-index c.from.result c.loop-m.common c.requires c.loop-m-test.true
    c.from.ensures c.loop-m.invariant.so_far in
    rw c.from_residual.ensures (λ l. c.in_err-common.ensures.value (omega (arith, le)))

pub loop-m-preserved : goal.loop-m-preserved
loop-m-preserved c = record {
  so_far =
      IsLcmOf-take_more c.args.multiples.now c.loop-m.m-index c.from.result c.loop-m.common
      c.in_ok-common.common
      c.requires c.loop-m-test.true c.from.ensures c.loop-m.invariant.so_far c.in_ok-common.ensures.least;
  small = subst (λ n. n < 2 ^ 127) (sym c.in_ok-common.ensures.value.1) c.in_ok-common.ensures.value.0;
}

pub returns : goal.returns
returns c =
    let all : IsLcmOf c.args.multiples.now c.loop-m.common =
    subst (λ ms. IsLcmOf ms c.loop-m.common)
    (take_all c.loop-m.m-index c.args.multiples.now c.loop-m-test.false) c.loop-m.invariant.so_far in
    let same = lcm_of-unique c.args.multiples.now c.loop-m.common c.requires all in
    (subst (λ n. n < 2 ^ 127) (sym same) c.loop-m.invariant.small, sym same)
