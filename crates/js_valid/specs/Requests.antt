-- What requests of owners ask of a part of a document.
use Rattle.std.specs.Prelude.{◌≡◌, ℕ, suc, ◌<◌, length, get_or, List, [], ◌∷◌, map, Bool, true, false, ◌&&◌, ◌||◌, not, nat_eq, Option, None}
use Rattle.documents.specs.Tests.{every}
use Rattle.documents.specs.Document.{Document}
use Rattle.schemas.specs.Entry.{Entry, Form, Asks}
use Rattle.draft06.specs.EntryValidity.{form_at}
use Rattle.js_match.specs.Places.{is_at}
use Rattle.js_valid.specs.Parts.{asked_by, flag, parts_array, parts_object}
use Rattle.js_valid.specs.declared.request.Request.{Request}

-- who asks, and what for
abbrev pub owners_in : List Request → List ℕ
owners_in rs = map (λ r. r.owner) rs

abbrev pub entries_in : List Request → List ℕ
entries_in rs = map (λ r. r.entry) rs

-- one owner requests these entries too
abbrev pub AsksMore : ℕ → List ℕ → (os qs os' qs' : List ℕ) → Type 0
AsksMore owner entries os qs os' qs' =
    (e : ℕ) (p : ℕ → Bool) → asked_by e p os' qs' ≡ (asked_by e p os qs && (not (nat_eq owner e) || every p entries))

-- the test of the owner at place k, where the owners are those from place i on
abbrev pub at_owner : (ℕ → ℕ → Bool) → (k i : ℕ) → List ℕ → Bool
at_owner test k i [] = true
at_owner test k i (o ∷ os) = (not (nat_eq i k) || test i o) && at_owner test k (suc i) os

-- each owner, by its place, requests the entries that its form has for the part
abbrev pub asks_of : List Entry → (Form → List ℕ) → (ℕ → Bool) → ℕ → ℕ → Bool
asks_of es of p i o = every p (of (form_at es o))

abbrev pub AskedByOwners : List Entry → (Form → List ℕ) → (owners os qs : List ℕ) → Type 0
AskedByOwners es of owners os qs =
    (e : ℕ) (p : ℕ → Bool) → e < length owners → asked_by e p os qs ≡ every p (of (form_at es (get_or owners e 0)))

-- each owner at these places requests the entries that its form has for the part, and the others none
abbrev pub AskedAtPlaces : List Entry → (Form → List ℕ) → (owners places os qs : List ℕ) → Type 0
AskedAtPlaces es of owners places os qs =
    (e : ℕ) (p : ℕ → Bool)
    → asked_by e p os qs ≡ (not (is_at e places) || every p (of (form_at es (get_or owners e 0))))

-- an owner whose place isn't among these requests nothing
abbrev pub OthersAskNothing : List Entry → (Form → List ℕ) → (owners places : List ℕ) → Type 0
OthersAskNothing es of owners places =
    (i : ℕ) → i < length owners → is_at i places ≡ false → of (form_at es (get_or owners i 0)) ≡ []

-- each element passes the test, by its place
abbrev pub each_at : (ℕ → Document → Bool) → ℕ → List Document → Bool
each_at test i [] = true
each_at test i (d ∷ ds) = test i d && each_at test (suc i) ds

abbrev pub contained : Form → Option ℕ
contained (Asks k) = k.contains
contained f = None

-- what is known of each owner, by its place
abbrev pub FinePart : List Entry → List ℕ → List Bool → (ℕ → Bool) → Type 0
FinePart es owners fine test = (i : ℕ) → i < length owners → flag fine i ≡ test (get_or owners i 0)

-- what a form asks of elements
abbrev pub parts_list : (ℕ → Document → Bool) → Form → List Document → Bool
parts_list below (Asks k) ds = parts_array (λ t w. true) below k ds
parts_list below f ds = true

-- what a form asks of members
abbrev pub parts_members : (List ℕ → List ℕ → Bool) → (ℕ → Document → Bool) → Form → List (List ℕ × Document) → Bool
parts_members matches below (Asks k) ms = parts_object matches below k ms
parts_members matches below f ms = true
