use Rattle.std.proofs.Common.{◌≡◌, ℕ, ◌≤◌, ◌<◌, ◌^◌, List, Option, Some, None, chars, sym, ap, subst, ◌∙◌, arith}
use Rattle.std.specs.Prelude.{MatchOption}
use Rattle.documents.specs.Place.{index_of}
use Rattle.schemas.specs.Places.{index_token}
use Rattle.schema_laws.proofs.Tokens.{index_token-of, index_of-token}
use Rattle.std.proofs.lemmas.Option.{same_Some}
use Rattle.js_pointers.proofs.tokens.numbered_index.Goals as goal

abbrev IsNumbered : List ℕ → Option ℕ → Type 0
IsNumbered t r =
    MatchOption r ((i : ℕ) → t ≡ index_token i → 2147483648 ≤ i) (λ i. (i < 2147483648) × (index_token i ≡ t))

pub returns-in_err-element_index : goal.returns-in_err-element_index
returns-in_err-element_index c =
    subst (IsNumbered (chars c.args.text.now)) (sym c.from_residual.ensures)
    (λ i h. let large = subst (λ r. MatchOption r
    ((i : ℕ) → index_of (chars c.args.text.now) ≡ Some i → 2 ^ 64 ≤ i)
    (λ i. index_of (chars c.args.text.now) ≡ Some i)) c.in_err-element_index.was c.element_index.ensures i
    (ap index_of h ∙ index_of-token i) in omega (arith, large))

pub returns : goal.returns
returns c = go c.index_number.result c.index_number.ensures
  where
    is : index_of (chars c.args.text.now) ≡ Some c.in_ok-element_index.field-0
    is = subst (λ r. MatchOption r
        ((i : ℕ) → index_of (chars c.args.text.now) ≡ Some i → 2 ^ 64 ≤ i)
        (λ i. index_of (chars c.args.text.now) ≡ Some i)) c.in_ok-element_index.was c.element_index.ensures

    go : (r : Option ℕ) → MatchOption r (2147483648 ≤ c.in_ok-element_index.field-0)
        (λ k. (k ≡ c.in_ok-element_index.field-0) × (k < 2147483648)) → IsNumbered (chars c.args.text.now) r
    go None large = λ i h.
        let same = same_Some i c.in_ok-element_index.field-0 (sym (ap index_of h ∙ index_of-token i) ∙ is) in
        omega (arith, same, large)
    go (Some k) e = (e.1, ap index_token e.0 ∙ sym (index_token-of (chars c.args.text.now) _ is))
