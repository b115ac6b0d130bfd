-- Numbers of places, by pointers among the same places.
use Rattle.std.proofs.Common.{◌≡◌, ℕ, List, [], ◌∷◌, ◌++◌, Option, sym, ap, subst, ◌∙◌}
use Rattle.schemas.specs.Places.{Pointer}
use Rattle.schemas.specs.Entries.{number_of}
use Rattle.js_pointers.specs.Table.{Leads}
use Rattle.js_reader.specs.declared.numbers.Numbers.{Numbers}
use Rattle.js_reader.specs.NumbersView.{numbered, pointers_in}

module _ (m n : Numbers) (same : m ≡ n) (a : Option ℕ) (p : Pointer) (leads : Leads (pointers_in n) a p) where
  led : Leads (pointers_in m) a p
  led = subst (λ x. Leads (pointers_in x) a p) (sym same) leads

  pub number-itself : (r : ℕ) → ((q : Pointer) → Leads (pointers_in m) a q → r ≡ number_of (numbered m) q)
      → r ≡ number_of (numbered n) p
  number-itself r found = found p led ∙ ap (λ x. number_of (numbered x) p) same

  -- the number that is found for a word below a pointer is that of the place there
  pub number-below : (t : List ℕ) (b : Option ℕ) (r : ℕ)
      → ((q : Pointer) → Leads (pointers_in m) a q → Leads (pointers_in m) b (q ++ t ∷ []))
      → ((q : Pointer) → Leads (pointers_in m) b q → r ≡ number_of (numbered m) q)
      → r ≡ number_of (numbered n) (p ++ t ∷ [])
  number-below t b r below found =
      found (p ++ t ∷ []) (below p led) ∙ ap (λ x. number_of (numbered x) (p ++ t ∷ [])) same
