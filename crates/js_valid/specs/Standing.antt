-- What a form asks of a document itself, in two halves: by itself, and by the verdicts of the entries that it names in
-- place.
use Rattle.std.specs.Prelude.{ℕ, nat_le, List, length, Bool, true, false, ◌&&◌, ◌||◌, not}
use Rattle.documents.specs.Tests.{every, some}
use Rattle.documents.specs.Document.{Document}
use Rattle.documents.specs.Measures.{at_number, at_string, at_array, at_object, exactly_one, has_name}
use Rattle.schemas.specs.Entry.{Keywords, Form, Always, Never, Ref, Asks}
use Rattle.schemas.specs.Schema.{meets}
use Rattle.draft06.specs.EntryValidity.{has_type, need_asks, asks_number, asks_string}
use Rattle.js_valid.specs.Frame.{is_given}
use Rattle.js_valid.specs.Parts.{no_parts, no_entry, own_array}

-- the numbers of members, and names that are required
abbrev pub object_stands : Keywords → List (List ℕ × Document) → Bool
object_stands k ms =
    meets (λ n. nat_le (length ms) n) k.max_properties && meets (λ n. nat_le n (length ms)) k.min_properties
    && meets (every (λ w. has_name w ms)) k.required

module _ (matches : List ℕ → List ℕ → Bool) where
  abbrev pub keywords_stand : Keywords → Document → Bool
  keywords_stand k J =
      (meets (some (has_type J)) k.types && is_given k J) && at_number (asks_number matches no_entry no_parts k) J
      && at_string (asks_string matches no_entry no_parts k) J && at_array (own_array matches no_entry k) J
      && at_object (object_stands k) J

  -- by itself
  abbrev pub stands : Form → Document → Bool
  stands Always J = true
  stands Never J = false
  stands (Ref e) J = true
  stands (Asks k) J = keywords_stand k J

module _ (here : ℕ → Bool) where
  abbrev pub needs_ask : Keywords → List (List ℕ × Document) → Bool
  needs_ask k ms = meets (every (λ n. not (has_name n.0 ms) || need_asks here n.1 ms)) k.dependencies

  abbrev pub depends : Keywords → Document → Bool
  depends k J = at_object (needs_ask k) J

  abbrev pub place_keywords : Keywords → Document → Bool
  place_keywords k J =
      meets (every here) k.all_of && meets (some here) k.any_of && meets (exactly_one here) k.one_of
      && meets (λ e. not (here e)) k.not && depends k J

  -- by the verdicts of others
  abbrev pub place_asks : Form → Document → Bool
  place_asks Always J = true
  place_asks Never J = true
  place_asks (Ref e) J = here e
  place_asks (Asks k) J = place_keywords k J
