-- Verdicts of all entries on a part, taken in order, and tables of them, lowest part first.
use Rattle.std.proofs.Common.{◌≡◌, ℕ, zero, suc, ◌+◌, ◌<◌, ◌≤◌, ◌⊎◌, inl, inr, List, [], ◌∷◌, ◌++◌, map, length, get_or, Bool, true, ◌&&◌, nat_eq, if◌then◌else◌, refl, sym, ap, ◌∙◌, arith}
use Rattle.std.proofs.lemmas.Bool.{cases_lt}
use Rattle.std.proofs.lemmas.List.{length-map}
use Rattle.documents.specs.Document.{Document}
use Rattle.draft06.specs.EntryValidity.{form_at}
use Rattle.schemas.specs.Entry.{Entry}
use Rattle.shared_documents.specs.Part.{Part}
use Rattle.shared_documents.specs.Unshared.{unshared}
use Rattle.js_match.specs.Matching.{matches}
use Rattle.js_valid.specs.PartTables.{KnowsTables}
use Rattle.js_valid.specs.Parts.{flag, own, parts}
use Rattle.js_valid.specs.Plan.{IsPlan, IsClosed, valid_at}
use Rattle.js_valid.proofs.PartMemberLaws.{each-more, more-length}
use Rattle.js_valid.proofs.PlanLaws as L
use Rattle.js_valid.proofs.Settled.{Known}

-- every entry is applied
abbrev pub all_asked : List Entry → List Bool
all_asked es = map (λ f. true) es

pub asked-flag : (es : List Entry) (e : ℕ) → e < length es → flag (all_asked es) e ≡ true
asked-flag [] e h = absurd (omega (arith, h))
asked-flag (f ∷ es) zero h = refl
asked-flag (f ∷ es) (suc e) h = asked-flag es e (omega (arith, h))

pub asked-len : (es : List Entry) → length (all_asked es) ≡ length es
asked-len es = length-map es (λ f. true)

module _ (es : List Entry) (order : List ℕ) (plan : IsPlan es order) (J : Document) where
  asked-below : (e : ℕ) → flag (all_asked es) e ≡ true → e < length es
  asked-below e h = let b = L.flag-below (all_asked es) e h in omega (arith, b, asked-len es)

  asked-closed : IsClosed es (all_asked es)
  asked-closed e q h t = asked-flag es q (L.target-below es order plan e q (asked-below e h) t)

  -- the verdicts that are taken so far
  abbrev pub Taken : ℕ → List Bool → Type 0
  Taken k table = Known es order J (all_asked es) k table

  pub taken-more : (k : ℕ) (table table' fine : List Bool) (v : Bool) → k < length order → Taken k table
      → ((e : ℕ) → e < length es → flag fine e ≡ parts matches (valid_at es) (form_at es e) J)
      → v ≡ (flag fine (get_or order k 0) && own matches (flag table) (form_at es (get_or order k 0)) J)
      → ((j : ℕ) → flag table' j ≡ (if nat_eq (get_or order k 0) j then v else flag table j))
      → Taken (k + 1) table'
  taken-more k table table' fine v less known knows is set =
      L.settle-step es order plan J (all_asked es) (asked-len es) asked-closed k table table' v less known
      (L.verdict-right es order plan J (all_asked es) (asked-len es) asked-closed k table fine v less known
      (λ e a. knows e (asked-below e a))
      (is ∙ ap (λ b. b && (flag fine (get_or order k 0) && own matches (flag table) (form_at es (get_or order k 0)) J))
      (sym (asked-flag es (get_or order k 0) (plan.only k less)))))
      set

  -- once the order is gone through, the table has the verdict of each entry
  pub taken-all : (k : ℕ) (table : List Bool) → length table ≡ length es → length order ≤ k → Taken k table
      → (e : ℕ) → flag table e ≡ valid_at es e J
  taken-all k table len end known e = go (cases_lt e (length es))
    where
      go : (e < length es) ⊎ (length es ≤ e) → flag table e ≡ valid_at es e J
      go (inl l) =
          L.settle-done es order plan J (all_asked es) (asked-len es) asked-closed table k end known e
          (asked-flag es e l)
      go (inr l) = L.flag-past table e (omega (arith, l, len)) ∙ sym (L.valid-past es order plan e J l)

-- ---- one more table

-- with the table of the next part the tables are those of one part more
pub tables-more : (es : List Entry) (ps : List Part) (ts us : List (List Bool)) (t : List Bool) (n : ℕ) → length ts ≡ n
    → us ≡ ts ++ t ∷ [] → KnowsTables es ps ts → ((e : ℕ) → flag t e ≡ valid_at es e (unshared ps n))
    → KnowsTables es ps us
tables-more es ps ts us t n len is known right j e l =
    each-more (λ i u. (e : ℕ) → flag u e ≡ valid_at es e (unshared ps i)) ts us t [] n len is
    (λ i less e. known i e (omega (arith, less, len))) right j (omega (arith, l, more-length ts us t n len is)) e
