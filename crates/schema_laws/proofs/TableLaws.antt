-- How long a table of entries is.
use Rattle.std.proofs.Common.{◌≡◌, ℕ, ◌+◌, ◌*◌, ◌<◌, ◌≤◌, List, [], ◌∷◌, length, true, ◌&&◌, nat_lt, nat_le, arith}
use Rattle.std.proofs.lemmas.Bool.{and_parts}
use Rattle.documents.specs.Tests.{every}
use Rattle.schemas.specs.Entry.{Form, Always, Never, Ref, Asks, Entry}
use Rattle.schemas.specs.Weight.{most_weight}
use Rattle.schemas.specs.Schema.{keywords_size, form_size, total_size, names_below, form_in_range, is_table}

some_size : (f : Form) → 1 ≤ form_size f
some_size Always = omega arith
some_size Never = omega arith
some_size (Ref e) = omega arith
some_size (Asks k) = below (keywords_size k)
  where
    below : (n : ℕ) → 1 ≤ 1 + 8 * n
    below n = omega arith

pub length-total_size : (es : List Entry) → length es ≤ total_size es
length-total_size [] = omega arith
length-total_size (e ∷ es) = omega (arith, some_size e.form, length-total_size es)

-- a table has a root, and its entries' numbers fit 32 bits
pub is_table-length : (es : List Entry) → is_table es ≡ true → (0 < length es) × (length es ≤ 2147483647)
is_table-length es h =
    let sized = and_parts ((nat_lt 0 (length es) && every (λ e. names_below (length es) e.form) es)
    && every (λ e. form_in_range e.form) es) (nat_le (total_size es) most_weight) h in
    let ranged = and_parts (nat_lt 0 (length es) && every (λ e. names_below (length es) e.form) es)
    (every (λ e. form_in_range e.form) es) sized.0 in
    let named = and_parts (nat_lt 0 (length es)) (every (λ e. names_below (length es) e.form) es) ranged.0 in
    let some : 0 < length es = grind (arith, named.0) in
    let most : total_size es ≤ 2147483647 = grind (arith, sized.1) in
    (some, omega (arith, length-total_size es, most))
