-- Where each name is, by its bytes.
use Rattle.std.specs.Prelude.{◌≡◌, ℕ, List, String, position, string_bytes, bytes_eq}
use Rattle.std.specs.BTreeMap.{BTreeMap, get_by_text}

-- the map has the place of each name, and nothing else
abbrev pub ArePlaces : {Z Y : Type 0} → List (String Z) → BTreeMap (String Y) ℕ → Type 0
ArePlaces names places =
    (bytes : List ℕ) → get_by_text places bytes ≡ position (λ w. bytes_eq bytes (string_bytes w)) names
