-- The key lemma: a form asks of a document what it asks of the document itself and of its parts.
use Rattle.std.proofs.Common.{◌≡◌, ℕ, List, Bool, true, false, ◌&&◌, ◌||◌, not, length, nat_le, refl, arith}
use Rattle.documents.specs.Document.{Document, null, boolean, number, string, array, object, elements, entries}
use Rattle.documents.specs.Tests.{every, some, same_word}
use Rattle.documents.specs.Measures.{has_name, every_in}
use Rattle.schemas.specs.Schema.{meets}
use Rattle.schemas.specs.Entry.{Keywords, Form, Always, Never, Ref, Asks}
use Rattle.draft06.specs.Names.{keys, is_additional}
use Rattle.draft06.specs.EntryValidity.{items_ask, rest_asks, need_asks, asks_any, asks_keywords, asks}
use Rattle.js_valid.specs.Parts.{own_keywords, parts_keywords, own, parts}

and_true : (a : Bool) → a ≡ (a && true)
and_true true = refl
and_true false = refl

array_order : (a i r x n c : Bool) → ((a && true) && true && ((((i && r) && x) && n) && c)) && true
    ≡ (((a && true) && true && (x && n)) && true) && (((i && r) && c) && true)
array_order false i r x n c = refl
array_order true false r x n c = grind arith
array_order true true r x n c = grind arith

object_order : (a x n r p q s d m : Bool) → ((a && true) && true && true) && (((((((x && n) && r) && p) && q) && s)
    && d) && m)
    ≡ ((a && true) && true && true && (((x && n) && r) && d)) && (true && (((p && q) && s) && m))
object_order a x n r p q s d m = grind arith

module _ (matches : List ℕ → List ℕ → Bool) (here : ℕ → Bool) (below : ℕ → Document → Bool) where
  keywords_halves : (k : Keywords) (J : Document) → asks_keywords matches here below k J
      ≡ (own_keywords matches here k J && parts_keywords matches below k J)
  keywords_halves k null = and_true (asks_keywords matches here below k null)
  keywords_halves k (boolean b) = and_true (asks_keywords matches here below k (boolean b))
  keywords_halves k (number n) = and_true (asks_keywords matches here below k (number n))
  keywords_halves k (string w) = and_true (asks_keywords matches here below k (string w))
  keywords_halves k (array ds) =
      array_order (asks_any matches here below k (array ds)) (meets (λ s. items_ask below s (elements ds)) k.items)
      (meets (λ e. rest_asks below k.items e (elements ds)) k.additional_items)
      (meets (λ n. nat_le (length (elements ds)) n) k.max_items)
      (meets (λ n. nat_le n (length (elements ds))) k.min_items)
      (meets (λ e. some (below e) (elements ds)) k.contains)
  keywords_halves k (object ms) =
      object_order (asks_any matches here below k (object ms))
      (meets (λ n. nat_le (length (entries ms)) n) k.max_properties)
      (meets (λ n. nat_le n (length (entries ms))) k.min_properties)
      (meets (every (λ w. has_name w (entries ms))) k.required)
      (meets (every (λ p. every_in (same_word p.0) (below p.1) (entries ms))) k.properties)
      (meets (every (λ p. every_in (matches p.0) (below p.1) (entries ms))) k.pattern_properties)
      (meets (λ e. every_in (is_additional matches (keys k.properties) (keys k.pattern_properties)) (below e)
      (entries ms)) k.additional_properties)
      (meets (every (λ n. not (has_name n.0 (entries ms)) || need_asks here n.1 (entries ms))) k.dependencies)
      (meets (λ e. every (λ m. below e (string m.0)) (entries ms)) k.property_names)

  -- a document is valid for a form exactly where it meets what is required of itself and of what it contains
  pub asks-halves : (f : Form) (J : Document) → asks matches here below f J
      ≡ (own matches here f J && parts matches below f J)
  asks-halves Always J = refl
  asks-halves Never J = refl
  asks-halves (Ref e) J = and_true (here e)
  asks-halves (Asks k) J = keywords_halves k J
