-- The answer among candidates, from what is known of those before it.
use Rattle.std.proofs.Common.{◌≡◌, ℕ, ◌+◌, ◌<◌, true, false, not, Ok, Err, ℤ, refl, ap, ◌∙◌, arith, inl, inr, if◌then◌else◌}
use Rattle.std.proofs.lemmas.Bool.{eq-eqb, ne_eqb, cases_lt}
use Rattle.number_groups.specs.Cases.{Cases}
use Rattle.number_groups.specs.Cases.{Found, LimitCandidates}
use Rattle.number_groups.specs.Group.{Group, is_struck}
use Rattle.number_groups.specs.Outcome.{reached, is_last, answer_at, answer_among}
use Rattle.js_numbers.proofs.Least.{least_below-at, least_below-none}

-- the candidates before the k-th are struck
abbrev pub StruckBefore : ℕ → Group → ℕ → Type 0
StruckBefore m g k = (j : ℕ) → j < k → is_last g (reached m g j) ≡ false

at_last : (limit m : ℕ) (g : Group) (k : ℕ) → k < limit → is_last g (reached m g k) ≡ true
    → StruckBefore m g k
    → answer_among limit m g ≡ answer_at limit k (reached m g k)
at_last limit m g k l e before =
    ap (λ n. answer_at limit n (reached m g n))
    (least_below-at (λ n. is_last g (reached m g n)) limit k l e before)

at_limit : (limit m : ℕ) (g : Group) → StruckBefore m g limit
    → answer_among limit m g ≡ answer_at limit limit (reached m g limit)
at_limit limit m g before =
    ap (λ n. answer_at limit n (reached m g n))
    (least_below-none (λ n. is_last g (reached m g n)) limit before)

-- none to try is left
pub answer_among-Err : (limit m : ℕ) (g : Group) (k : ℕ) (why : Cases) → k < limit → StruckBefore m g k
    → reached m g k ≡ Err why
    → answer_among limit m g ≡ why
answer_among-Err limit m g k why l before e =
    at_last limit m g k l (ap (is_last g) e) before ∙ ap (answer_at limit k) e

-- one that isn't struck
pub answer_among-Ok : (limit m : ℕ) (g : Group) (k : ℕ) (x : ℤ) → k < limit → StruckBefore m g k
    → reached m g k ≡ Ok x
    → is_struck g x ≡ false → answer_among limit m g ≡ Found x
answer_among-Ok limit m g k x l before e s =
    at_last limit m g k l (ap (is_last g) e ∙ ap not s) before
    ∙ ap (answer_at limit k) e
    ∙ ap (λ t. if t then LimitCandidates else Found x) (ne_eqb k limit (λ h. omega arith))

-- as many as may be struck
pub answer_among-limit_Ok : (limit m : ℕ) (g : Group) (x : ℤ) → StruckBefore m g limit
    → reached m g limit ≡ Ok x
    → answer_among limit m g ≡ LimitCandidates
answer_among-limit_Ok limit m g x before e =
    at_limit limit m g before ∙ ap (answer_at limit limit) e
    ∙ ap (λ t. if t then LimitCandidates else Found x) (eq-eqb limit limit refl)

pub answer_among-limit_Err : (limit m : ℕ) (g : Group) (why : Cases) → StruckBefore m g limit
    → reached m g limit ≡ Err why
    → answer_among limit m g ≡ why
answer_among-limit_Err limit m g why before e = at_limit limit m g before ∙ ap (answer_at limit limit) e

-- one more that is struck
pub struck_more : (m : ℕ) (g : Group) (k : ℕ) (x : ℤ) → StruckBefore m g k → reached m g k ≡ Ok x
    → is_struck g x ≡ true
    → StruckBefore m g (k + 1)
struck_more m g k x before e s j l = elim (cases_lt j k) [
  | inl h ↦ before j h
  | inr h ↦ let same : j ≡ k = omega arith in ap (λ n. is_last g (reached m g n)) same ∙ ap (is_last g) e
      ∙ ap not s
]
