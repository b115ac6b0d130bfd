-- Ranks that are given entry by entry, as a reader of schemas finds them, fall in place.
use Rattle.std.proofs.Common.{◌≡◌, ℕ, zero, suc, ◌<◌, List, [], ◌∷◌, get_or, true, refl, sym, subst, arith}
use Rattle.std.proofs.Math.ListN.{length-map}
use Rattle.std.specs.List.{AllByRecursion}
use Rattle.schemas.specs.Entry.{Entry}
use Rattle.schemas.specs.Schema.{in_place}
use Rattle.schemas.specs.Guarded.{edges, targets, are_ranks}
use Rattle.schema_laws.proofs.Ranks.{are_ranks-bounded, are_ranks-falls}
use Rattle.draft06.specs.EntryValidity.{form_at}
use Rattle.draft06_laws.specs.Ranks.{FallInPlace}

-- the edges from an entry lead to those that it names in place
targets-edges : (es : List Entry) (e : ℕ) → targets (edges es) e ≡ in_place (form_at es e)
targets-edges [] e = refl
targets-edges (f ∷ fs) zero = refl
targets-edges (f ∷ fs) (suc e) = targets-edges fs e

-- ranks that pass the test along in-place edges fall from each entry to those that it names in place
pub fall_in_place : (es : List Entry) (ranks : List ℕ) → are_ranks (edges es) ranks ≡ true
    → FallInPlace es (λ e. get_or ranks e 0)
fall_in_place es ranks h = record {
  bounded = λ e i. subst (λ n. get_or ranks e 0 < n) (length-map es (λ f. in_place f.form))
      (are_ranks-bounded (edges es) ranks h (subst (λ n. 0 < n) (sym (length-map es (λ f. in_place f.form)))
      (omega (arith, i))) e);
  falls = λ e i. subst (AllByRecursion (λ q. get_or ranks q 0 < get_or ranks e 0)) (targets-edges es e)
      (are_ranks-falls (edges es) ranks h e);
}
