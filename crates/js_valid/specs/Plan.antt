-- What a validator goes by: the entries of a table in an order in which each comes after those that it names in place.
use Rattle.std.specs.Prelude.{◌≡◌, ℕ, ◌<◌, ◌≤◌, List, length, get_or, Bool, true}
use Rattle.documents.specs.Document.{Document}
use Rattle.schemas.specs.Entry.{Entry}
use Rattle.schemas.specs.Schema.{is_table, in_place}
use Rattle.draft06.specs.EntryValidity.{form_at, entry_valid}
use Rattle.draft06_laws.specs.Ranks.{FallInPlace}
use Rattle.js_match.specs.Matching.{matches}
use Rattle.js_valid.specs.Choices.{HasChoices}
use Rattle.js_valid.specs.Parts.{flag, parts}
use Rattle.js_match.specs.Places.{is_at}
use Rattle.js_schema.specs.SchemaView.{schema_view}
use Rattle.js_valid.specs.declared.plan.Plan.{Plan}
use Rattle.js_valid.specs.declared.validator.Validator.{Validator}

pub record IsPlan (es : List Entry) (order : List ℕ) : Type 0 where
  pub table : is_table es ≡ true
  pub rank : ℕ → ℕ
  pub falls : FallInPlace es rank
  pub rises : (k l : ℕ) → k ≤ l → l < length order → rank (get_or order k 0) ≤ rank (get_or order l 0)
  pub all : (e : ℕ) → e < length es → (k : ℕ) × (k < length order) × (get_or order k 0 ≡ e)
  pub only : (k : ℕ) → k < length order → get_or order k 0 < length es

-- the entry is in the order where the places say
abbrev pub StandAt : (order places : List ℕ) → ℕ → Type 0
StandAt order places e = (get_or places e 0 < length order) × (get_or order (get_or places e 0) 0 ≡ e)

-- validity by the patterns of the grammar
abbrev pub valid_at : List Entry → ℕ → Document → Bool
valid_at es = entry_valid matches es

-- the target of an entry, which past the last one is the entry itself
abbrev pub target_at : List ℕ → ℕ → ℕ
target_at targets e = get_or targets e e

-- a document meets an entry exactly where it meets the target
abbrev pub HasTargets : List Entry → List ℕ → Type 0
HasTargets es targets = (e : ℕ) (J : Document) → valid_at es (target_at targets e) J ≡ valid_at es e J

-- an order of validation, with the place of each entry in it, its target, and the values that it lists
pub record IsPlanned (es : List Entry) (p : Plan) : Type 0 where
  pub plan : IsPlan es p.order.items
  pub places : (e : ℕ) → e < length es → StandAt p.order.items p.places.items e
  pub targets : HasTargets es p.targets.items
  pub choices : HasChoices es p.choices.items

-- the entries that a validator goes by
abbrev pub table_of : Validator → List Entry
table_of v = schema_view v.schema.now

-- the order is one of its schema
abbrev pub HasPlan : Validator → Type 0
HasPlan v = IsPlanned (table_of v) v.plan.now

-- what an applied entry names in place is applied as well
abbrev pub IsClosed : List Entry → List Bool → Type 0
IsClosed es asked = (e q : ℕ) → flag asked e ≡ true → is_at q (in_place (form_at es e)) ≡ true → flag asked q ≡ true

-- what the applied entries ask of the document's parts
abbrev pub KnowsParts : List Entry → List Bool → Document → List Bool → Type 0
KnowsParts es asked J fine =
    (e : ℕ) → flag asked e ≡ true → flag fine e ≡ parts matches (valid_at es) (form_at es e) J

-- the verdicts of the applied entries
abbrev pub KnowsVerdicts : List Entry → List Bool → Document → List Bool → Type 0
KnowsVerdicts es asked J table = (e : ℕ) → flag asked e ≡ true → flag table e ≡ valid_at es e J
