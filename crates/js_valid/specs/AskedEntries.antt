-- The entries that are applied to a document, as they are listed.
use Rattle.std.specs.Prelude.{◌≡◌, ℕ, ◌<◌, List, [], ◌∷◌, ◌++◌, map, length, get_or, nat_lt, Bool, true, false, ◌||◌}
use Rattle.documents.specs.Tests.{every}
use Rattle.documents.specs.Document.{Document}
use Rattle.schemas.specs.Entry.{Entry}
use Rattle.schemas.specs.Schema.{in_place}
use Rattle.draft06.specs.EntryValidity.{form_at, asks}
use Rattle.js_match.specs.Matching.{matches}
use Rattle.js_match.specs.Places.{is_at}
use Rattle.js_valid.specs.Plan.{valid_at}
use Rattle.js_valid.specs.Standing.{stands}
use Rattle.js_valid.specs.declared.asked.Asked.{Asked}

-- where entries are
abbrev pub placed : List ℕ → List ℕ → List ℕ
placed places qs = map (λ q. get_or places q 0) qs

-- what an entry of the list names in place comes after it in the list, or is among the others
abbrev pub ClosedIn : List Entry → (others : ℕ → Bool) → List ℕ → Type 0
ClosedIn es others [] = Unit {0}
ClosedIn es others (o ∷ os) =
    ((q : ℕ) → is_at q (in_place (form_at es o)) ≡ true → (is_at q os || others q) ≡ true) × ClosedIn es others os

pub record IsAsked (es : List Entry) (J : Document) (a : Asked) : Type 0 where
  pub range : every (λ o. nat_lt o (length es)) a.owners.items ≡ true
  pub stand : (q : ℕ) → is_at q a.owners.items ≡ true → stands matches (form_at es q) J ≡ true
  pub fall : (q : ℕ) → is_at q a.fallen.items ≡ true → valid_at es q J ≡ false
  pub closed : ClosedIn es (λ q. is_at q a.fallen.items) a.owners.items
  -- validity is what the form asks
  pub valid : (e : ℕ) → valid_at es e J ≡ asks matches (λ q. valid_at es q J) (valid_at es) (form_at es e) J

-- each of the entries is in one of the lists
abbrev pub AsksFor : List Entry → List ℕ → Asked → Type 0
AsksFor es entries a =
    (q : ℕ) → q < length es → is_at q entries ≡ true → (is_at q a.owners.items || is_at q a.fallen.items) ≡ true

-- an entry that stands by itself comes to the owners, and what it names in place is pending
abbrev pub Takes : Bool → ℕ → (targets before after : List ℕ) → (a b : Asked) → Type 0
Takes true e targets before after a b =
    (b.owners.items ≡ a.owners.items ++ e ∷ []) × (b.fallen.items ≡ a.fallen.items)
    × ((k : ℕ) → is_at k after ≡ (is_at k before || is_at k targets))
Takes false e targets before after a b =
    (b.owners.items ≡ a.owners.items) × (b.fallen.items ≡ a.fallen.items ++ e ∷ []) × (after ≡ before)
