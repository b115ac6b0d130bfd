-- The shape of a keyword's value, wherever the keyword is.
use Rattle.std.proofs.Common.{◌≡◌, ℕ, List, false, cond, Some, None, codes, ap, ◌∙◌}
use Rattle.documents.specs.Tests.{same_word}
use Rattle.documents.specs.Json.{Members, lookup}
use Rattle.schemas.specs.Keyword.{Shape, shape_of, is_list, read_shape}

-- a keyword that is read in each object
pub record IsShaped (k : List ℕ) (S : Shape) : Type 0 where
  pub not_id : same_word k (codes "$id") ≡ false
  pub not_rest : same_word k (codes "additionalItems") ≡ false
  pub shaped : shape_of k ≡ Some S

-- a keyword of that shape is read by it, whatever other members its object has
pub read_shape-of : (ms : Members) (k : List ℕ) (S : Shape) → IsShaped k S → read_shape ms k ≡ Some S
read_shape-of ms k S h =
    ap (λ b. cond b (cond (is_list (lookup (codes "items") ms)) (shape_of k) None) (shape_of k)) h.not_rest ∙ h.shaped

pub is_shaped : {k : List ℕ} {S : Shape} → same_word k (codes "$id") ≡ false
    → same_word k (codes "additionalItems") ≡ false
    → shape_of k ≡ Some S → IsShaped k S
is_shaped h i j = record { not_id = h; not_rest = i; shaped = j }
