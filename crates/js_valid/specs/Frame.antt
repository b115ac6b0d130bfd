-- What a form asks of a document itself, but for `enum` and `const`: that depends on no element and no member's value.
use Rattle.std.specs.Prelude.{ℕ, List, Bool, ◌&&◌, not}
use Rattle.documents.specs.Tests.{every, some}
use Rattle.documents.specs.Document.{Document}
use Rattle.documents.specs.Measures.{at_number, at_string, at_array, at_object, exactly_one, same_document}
use Rattle.schemas.specs.Entry.{Keywords}
use Rattle.schemas.specs.Schema.{meets}
use Rattle.draft06.specs.EntryValidity.{has_type, asks_number, asks_string}
use Rattle.js_valid.specs.Parts.{no_parts, own_array, own_object}

-- `enum` and `const`
abbrev pub is_given : Keywords → Document → Bool
is_given k J = meets (some (λ d. same_document d J)) k.enumeration && meets (λ d. same_document d J) k.constant

module _ (here : ℕ → Bool) where
  -- what keywords ask of every document
  abbrev pub any_asks : Keywords → Document → Bool
  any_asks k J =
      meets (some (has_type J)) k.types && meets (every here) k.all_of && meets (some here) k.any_of
      && meets (exactly_one here) k.one_of && meets (λ e. not (here e)) k.not

module _ (matches : List ℕ → List ℕ → Bool) (here : ℕ → Bool) where
  abbrev pub frame_asks : Keywords → Document → Bool
  frame_asks k J =
      any_asks here k J && at_number (asks_number matches here no_parts k) J
      && at_string (asks_string matches here no_parts k) J && at_array (own_array matches here k) J
      && at_object (own_object matches here k) J
