-- What a form asks of a document itself is what it asks by itself and what it asks by the verdicts of others.
use Rattle.std.proofs.Common.{◌≡◌, ℕ, List, Bool, true, ◌&&◌, not, nat_le, length, refl, arith}
use Rattle.documents.specs.Document.{Document, null, boolean, number, string, array, object, elements, entries}
use Rattle.documents.specs.Tests.{every, some}
use Rattle.documents.specs.Measures.{exactly_one, has_name, same_document}
use Rattle.schemas.specs.Schema.{meets}
use Rattle.schemas.specs.Entry.{Keywords, Form, Always, Never, Ref, Asks}
use Rattle.draft06.specs.EntryValidity.{has_type, asks_number, asks_string}
use Rattle.js_valid.specs.Parts.{no_parts, no_entry, own_keywords, own_array, own}
use Rattle.js_valid.specs.Standing.{needs_ask, keywords_stand, stands, place_keywords, place_asks}

-- of a document that isn't an object: what it asks of that kind is x, w, y
order : (e c t a b o n x w y : Bool)
    → ((((((((((e && c) && t) && a) && b) && o) && n) && x) && w) && y) && true)
    ≡ (((((t && (e && c)) && x) && w) && y) && true) && ((((a && b) && o) && n) && true)
order e c t a b o n x w y = grind arith

-- of an object: its names and their number are m, and its dependencies d
object_order : (e c t a b o n x y r d : Bool)
    → ((((((((((e && c) && t) && a) && b) && o) && n) && true) && true) && true) && (((x && y) && r) && d))
    ≡ (((((t && (e && c)) && true) && true) && true) && ((x && y) && r)) && ((((a && b) && o) && n) && d)
object_order e c t a b o n x y r d = grind arith

module _ (matches : List ℕ → List ℕ → Bool) (here : ℕ → Bool) where
  -- by what the document is
  others : (k : Keywords) (J : Document) (x w y : Bool)
      → ((((((((((meets (some (λ d. same_document d J)) k.enumeration && meets (λ d. same_document d J) k.constant)
      && meets (some (has_type J)) k.types) && meets (every here) k.all_of) && meets (some here) k.any_of)
      && meets (exactly_one here) k.one_of) && meets (λ e. not (here e)) k.not) && x) && w) && y) && true)
      ≡ (((((meets (some (has_type J)) k.types && (meets (some (λ d. same_document d J)) k.enumeration
      && meets (λ d. same_document d J) k.constant)) && x) && w) && y) && true)
      && ((((meets (every here) k.all_of && meets (some here) k.any_of) && meets (exactly_one here) k.one_of)
      && meets (λ e. not (here e)) k.not) && true)
  others k J x w y =
      order (meets (some (λ d. same_document d J)) k.enumeration) (meets (λ d. same_document d J) k.constant)
      (meets (some (has_type J)) k.types) (meets (every here) k.all_of) (meets (some here) k.any_of)
      (meets (exactly_one here) k.one_of) (meets (λ e. not (here e)) k.not) x w y

  keywords_two : (k : Keywords) (J : Document)
      → own_keywords matches here k J ≡ (keywords_stand matches k J && place_keywords here k J)
  keywords_two k null = others k null true true true
  keywords_two k (boolean b) = others k (boolean b) true true true
  keywords_two k (number n) = others k (number n) (asks_number matches no_entry no_parts k n) true true
  keywords_two k (string w) = others k (string w) true (asks_string matches no_entry no_parts k w) true
  keywords_two k (array ds) = others k (array ds) true true (own_array matches no_entry k (elements ds))
  keywords_two k (object ms) =
      object_order (meets (some (λ d. same_document d (object ms))) k.enumeration)
      (meets (λ d. same_document d (object ms)) k.constant) (meets (some (has_type (object ms))) k.types)
      (meets (every here) k.all_of) (meets (some here) k.any_of) (meets (exactly_one here) k.one_of)
      (meets (λ e. not (here e)) k.not) (meets (λ n. nat_le (length (entries ms)) n) k.max_properties)
      (meets (λ n. nat_le n (length (entries ms))) k.min_properties)
      (meets (every (λ w. has_name w (entries ms))) k.required) (needs_ask here k (entries ms))

  -- what a form requires of the document itself is what it requires alone and what it requires by verdicts of others
  pub own-halves : (f : Form) (J : Document) → own matches here f J ≡ (stands matches f J && place_asks here f J)
  own-halves Always J = refl
  own-halves Never J = refl
  own-halves (Ref e) J = refl
  own-halves (Asks k) J = keywords_two k J
