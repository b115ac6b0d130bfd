-- What a comparison of two schemas means for the values that they are read from.
use Rattle.std.proofs.Common.{◌≡◌, ℕ, ◌+◌, ◌<◌, ◌≤◌, ◌^◌, List, length, true, Option, ap, sym, ◌∙◌, arith}
use Rattle.documents.specs.Document.{Document, is_document}
use Rattle.documents.specs.Json.{Json}
use Rattle.shared_documents.specs.Unshared.{unshared}
use Rattle.schemas.specs.Entry.{Entry}
use Rattle.schemas.specs.Guarded.{edges, are_ranks}
use Rattle.schema_laws.proofs.TableLaws.{is_table-length}
use Rattle.draft06.specs.Validity.{valid, Included}
use Rattle.positions.specs.Position as Q
use Rattle.positions.specs.Holds.{holds, IsTable}
use Rattle.position_laws.proofs.Joined.{length-joined, joined-IsTable, holds-joined_left, holds-joined_right}
use Rattle.normal_forms.specs.NormalForm.{ranks_of}
use Rattle.normal_laws.proofs.TableLaw.{is_table-normal, more_positions}
use Rattle.goals.specs.Signed.{Signed}
use Rattle.alternatives.specs.Limit.{LimitKind, most_goals, most_total}
use Rattle.decisions.specs.Decision as D
use Rattle.decisions.specs.Decision.{Verdict, Limit, NoDocument}
use Rattle.decisions.specs.Meaning as M
use Rattle.refutation_laws.proofs.Refutations.{refutation_text, written_accepted}
use Rattle.js_keywords.specs.Reading.{rules}
use Rattle.js_normal.specs.PatternTrees.{tree_of}
use Rattle.js_expander.specs.Found.{finders}
use Rattle.js_inclusion.specs.Comparison.{core_of, both, second_root, comparison}
use Rattle.js_inclusion.specs.Meaning.{IsReadAs, IsCertified, StopsSearch, Tells, Means, AreIncluded}
use Rattle.js_inclusion.specs.Tables.{IsSmallTable}
use Rattle.js_inclusion.proofs.SearchLaws.{stopped}
use Rattle.js_inclusion.proofs.ReadValues.{holds-read}

-- two schemas whose search is stopped at a limit have that answer
pub comparison-stopped : (es fs : List Entry) (k : LimitKind) (o : Option (List Signed)) → StopsSearch es fs k o
    → comparison es fs ≡ Limit k o
comparison-stopped es fs k o x = stopped (finders (both es fs)) (both es fs) 0 (second_root es) k o x.stops

-- a small table with ranks
module _ (es : List Entry) (t : IsSmallTable es) (ranks : List ℕ) (are : are_ranks (edges es) ranks ≡ true) where
  few : length (core_of es) < 2 ^ 32
  few = let small = t.small in omega (arith, small)

  pub filled : 0 < length (core_of es)
  filled = omega (arith, more_positions tree_of es t.table ranks are few, (is_table-length es t.table).0)

  normal : Q.is_table (core_of es) (ranks_of tree_of es ranks) ≡ true
  normal = is_table-normal tree_of es t.table ranks are few

module _ (es fs : List Entry) (t : IsSmallTable es) (u : IsSmallTable fs) (ranks ranks' : List ℕ)
    (are : are_ranks (edges es) ranks ≡ true) (are' : are_ranks (edges fs) ranks' ≡ true) where
  pub in_first : 0 < length (both es fs)
  in_first = omega (arith, length-joined (core_of es) (core_of fs), filled es t ranks are)

  pub in_second : second_root es < length (both es fs)
  in_second = omega (arith, length-joined (core_of es) (core_of fs), filled fs u ranks' are')

  within : length (both es fs) ≤ 4294967296
  within = let a = t.small in let b = u.small in omega (arith, length-joined (core_of es) (core_of fs), a, b)

  both-table : IsTable (both es fs)
  both-table =
      joined-IsTable (core_of es) (core_of fs) (ranks_of tree_of es ranks) (ranks_of tree_of fs ranks')
      (normal es t ranks are) (normal fs u ranks' are') in_first

  module _ (a b : Json) (is : IsReadAs a es) (is' : IsReadAs b fs) where
    -- a document is valid for each value where its schema's root holds
    valid-first : (J : Document) → is_document J ≡ true → valid rules a J ≡ holds (both es fs) 0 J
    valid-first J document =
        sym (holds-read a es is ranks are (few es t ranks are) J document)
        ∙ sym (holds-joined_left (core_of es) (core_of fs) (ranks_of tree_of es ranks) (ranks_of tree_of fs ranks')
        (normal es t ranks are) (normal fs u ranks' are') 0 J (filled es t ranks are))

    valid-second : (J : Document) → is_document J ≡ true → valid rules b J ≡ holds (both es fs) (second_root es) J
    valid-second J document =
        let same : second_root es + 0 ≡ second_root es = omega arith in
        sym (holds-read b fs is' ranks' are' (few fs u ranks' are') J document)
        ∙ sym (holds-joined_right (core_of es) (core_of fs) (ranks_of tree_of es ranks) (ranks_of tree_of fs ranks')
        (normal es t ranks are) (normal fs u ranks' are') 0 J (filled fs u ranks' are'))
        ∙ ap (λ p. holds (both es fs) p J) same

    -- where each document of which the first root holds has the second one holding
    roots-included : M.IsIncluded (both es fs) 0 (second_root es) → Included rules a b
    roots-included held = λ J document h.
        valid-second J document ∙ held J document (sym (valid-first J document) ∙ h)

    certified : comparison es fs ≡ NoDocument → M.IsIncluded (both es fs) 0 (second_root es) → IsCertified es fs a b
    certified decided held =
        record {
          included = roots-included held;
          accepted = written_accepted (both es fs) both-table 0 (second_root es) in_first in_second decided within;
          in_grammar = refutation_text (both es fs) both-table 0 (second_root es) in_first in_second decided within;
        }

    tells : (v : Verdict) → comparison es fs ≡ v
        → M.Means (finders (both es fs)) (both es fs) most_goals most_total 0 (second_root es) v → Tells es fs a b v
    tells (D.Document ps i) e means =
        record {
          last = means.last;
          separates = record {
            document = means.good;
            first = valid-first (unshared ps i) means.good ∙ means.first;
            second = valid-second (unshared ps i) means.good ∙ means.second;
          };
        }
    tells NoDocument e means = certified e means
    tells (Limit k o) e means = record { stops = means }

  pub means-verdict : (v : Verdict) → comparison es fs ≡ v
      → M.Means (finders (both es fs)) (both es fs) most_goals most_total 0 (second_root es) v → Means es fs v
  means-verdict v e means = λ a b is is'. tells a b is is' v e means

  pub are-included : M.IsIncluded (both es fs) 0 (second_root es) → AreIncluded es fs
  are-included held = λ a b is is'. roots-included a b is is' held
