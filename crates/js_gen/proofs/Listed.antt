-- Members that are given one after another.
use Rattle.std.proofs.Common.{◌≡◌, ℕ, List, [], ◌∷◌, ◌++◌, sym, ap, ◌∙◌}
use Rattle.std.proofs.lemmas.List.Sums.{fold-append}
use Rattle.documents.specs.Json.{Json, object, members_of}
use Rattle.families.specs.Objects.{with_member, by_name, object_of}

-- the members by name, of those that were given in some order
pub record AreOf (ms listed : List (List ℕ × Json)) : Type 0 where
  pub are : listed ≡ by_name ms

pub none_yet : (listed : List (List ℕ × Json)) → listed ≡ [] → AreOf [] listed
none_yet listed e = record { are = e }

-- one more member, by what the members are after it, and what its value is
pub one_more : (ms before after : List (List ℕ × Json)) (k : List ℕ) (v w : Json) → AreOf ms before
    → after ≡ with_member before (k, v) → v ≡ w → AreOf (ms ++ (k, w) ∷ []) after
one_more ms before after k v w of made is = record {
  are = made ∙ ap (λ es. with_member es (k, v)) of.are ∙ ap (λ x. with_member (by_name ms) (k, x)) is
      ∙ sym (fold-append with_member [] ms ((k, w) ∷ []));
}

pub made_of : (ms listed : List (List ℕ × Json)) (j : Json) → AreOf ms listed → j ≡ object (members_of listed)
    → j ≡ object_of ms
made_of ms listed j of made = made ∙ ap (λ es. object (members_of es)) of.are
