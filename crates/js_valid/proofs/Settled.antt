-- What is known of verdicts before a place of the order.
use Rattle.std.proofs.Common.{◌≡◌, ℕ, ◌<◌, List, length, get_or, Bool, true}
use Rattle.documents.specs.Document.{Document}
use Rattle.schemas.specs.Entry.{Entry}
use Rattle.js_valid.specs.Parts.{flag}
use Rattle.js_valid.specs.Plan.{valid_at}

abbrev pub Known : List Entry → List ℕ → Document → List Bool → ℕ → List Bool → Type 0
Known es order J asked k table = (j : ℕ) → j < k → j < length order → flag asked (get_or order j 0) ≡ true
    → flag table (get_or order j 0) ≡ valid_at es (get_or order j 0) J
