use Rattle.std.proofs.Common.{◌≡◌, ℕ, ◌+◌, ◌*◌, ◌&&◌, true, not, List, map, drop, ◌<◌, length, get_or}
use Rattle.documents.specs.Tests.{every}
use Rattle.documents.specs.Document.{depth, items_depth, members_depth, string}
use Rattle.draft06.specs.EntryValidity.{form_at}
use Rattle.js_doc.specs.View.{view, list_view, map_view, member_view}
use Rattle.js_schema.specs.View.{form_view}
use Rattle.js_match.specs.Matching.{matches}
use Rattle.js_valid.specs.Parts.{flag, of_element, of_contains, of_member, of_name}
use Rattle.js_valid.specs.Plan.{table_of, valid_at}
use Rattle.js_valid.specs.Requests.{each_at, entries_in, owners_in}
use Rattle.js_valid.proofs.KeptLaws.{AskedWhere, NothingElsewhere}
use Rattle.js_valid.proofs.validator.Validator.+decide.Given as goal

abbrev pub decreases-verdicts : goal.decreases-verdicts
decreases-verdicts l = 8 * depth (view l.doc.now) + 4

abbrev pub decreases-is_met : goal.decreases-is_met
decreases-is_met l = 8 * depth (view l.doc.now) + 3

abbrev pub decreases-table_verdicts : goal.decreases-table_verdicts
decreases-table_verdicts l = 8 * depth (view l.doc.now) + 2

abbrev pub decreases-meets_plain : goal.decreases-meets_plain
decreases-meets_plain l = 8 * depth (view l.doc.now) + 2

abbrev pub decreases-fine_parts : goal.decreases-fine_parts
decreases-fine_parts l = 8 * depth (view l.doc.now) + 1

abbrev pub decreases-fine_list : goal.decreases-fine_list
decreases-fine_list l = 8 * items_depth (list_view l.list.now) + 7

abbrev pub decreases-are_elements_met : goal.decreases-are_elements_met
decreases-are_elements_met l = 8 * items_depth (list_view l.list.now) + 7

abbrev pub decreases-is_element_met : goal.decreases-is_element_met
decreases-is_element_met l = 8 * depth (view l.doc.now) + 5

abbrev pub decreases-fine_members : goal.decreases-fine_members
decreases-fine_members l = 8 * members_depth (map_view l.members.now) + 7

abbrev pub decreases-are_members_met : goal.decreases-are_members_met
decreases-are_members_met l = 8 * members_depth (map_view l.members.now) + 7

abbrev pub decreases-is_member_met : goal.decreases-is_member_met
decreases-is_member_met l = 8 * depth (member_view l.member.now).1 + 6

abbrev pub decreases-is_each_met : goal.decreases-is_each_met
decreases-is_each_met l = 8 * depth (view l.doc.now) + 5

abbrev pub decreases-decide_element : goal.decreases-decide_element
decreases-decide_element l = 8 * depth (view l.doc.now) + 5

abbrev pub decreases-decide_part : goal.decreases-decide_part
decreases-decide_part l = 8 * depth (view l.doc.now) + 5

abbrev pub decreases-decide_name : goal.decreases-decide_name
decreases-decide_name l = 6

abbrev pub invariant-are_elements_met-loop-place : goal.invariant-are_elements_met-loop-place
invariant-are_elements_met-loop-place l =
    each_at (λ i d. every (λ q. valid_at (table_of l.self) q d) (of_element (form_view l.form) i)) l.place
    (map view (drop l.place l.child-items))
    ≡ each_at (λ i d. every (λ q. valid_at (table_of l.self) q d) (of_element (form_view l.form) i)) 0
    (map view l.child-items)

abbrev pub invariant-are_members_met-loop-member : goal.invariant-are_members_met-loop-member
invariant-are_members_met-loop-member l =
    every (λ m. every (λ q. valid_at (table_of l.self) q m.1) (of_member matches (form_view l.form) m.0))
    (map member_view (drop l.member-index l.member-items))
    ≡ every (λ m. every (λ q. valid_at (table_of l.self) q m.1) (of_member matches (form_view l.form) m.0))
    (map member_view l.member-items)

abbrev pub invariant-fine_list-loop-place : goal.invariant-fine_list-loop-place
invariant-fine_list-loop-place l =
    record {
      fine : (e : ℕ) → e < length l.owners
          → (flag l.tests.fine.items e && each_at (λ i d. every (λ q. valid_at (table_of l.self) q d)
          (of_element (form_at (table_of l.self) (get_or l.owners e 0)) i)) l.place
          (map view (drop l.place l.child-items)))
          ≡ each_at (λ i d. every (λ q. valid_at (table_of l.self) q d)
          (of_element (form_at (table_of l.self) (get_or l.owners e 0)) i)) 0 (map view l.child-items);
      unmet : (e : ℕ) → e < length l.owners → flag l.tests.fine.items e ≡ true
          → (flag l.tests.unmet.items e && every (λ d. every (λ q. not (valid_at (table_of l.self) q d))
          (of_contains (form_at (table_of l.self) (get_or l.owners e 0)))) (map view (drop l.place l.child-items)))
          ≡ every (λ d. every (λ q. not (valid_at (table_of l.self) q d))
          (of_contains (form_at (table_of l.self) (get_or l.owners e 0)))) (map view l.child-items);
      within : (k : ℕ) → k < length l.asking.items → get_or l.asking.items k 0 < length l.owners;
      elsewhere : (i : ℕ) → NothingElsewhere (table_of l.self) (λ f. of_element f i) l.owners (flag l.tests.fine.items)
          l.asking.items;
      contains : AskedWhere (table_of l.self) of_contains l.owners
          (λ e. flag l.tests.fine.items e && flag l.tests.unmet.items e) (owners_in l.contains.items)
          (entries_in l.contains.items);
    }

abbrev pub invariant-fine_members-loop-member : goal.invariant-fine_members-loop-member
invariant-fine_members-loop-member l =
    record {
      fine : (e : ℕ) → e < length l.owners
          → (flag l.fine.items e && every (λ m. every (λ q. valid_at (table_of l.self) q m.1)
          (of_member matches (form_at (table_of l.self) (get_or l.owners e 0)) m.0)
          && every (λ q. valid_at (table_of l.self) q (string m.0))
          (of_name (form_at (table_of l.self) (get_or l.owners e 0))))
          (map member_view (drop l.member-index l.member-items)))
          ≡ every (λ m. every (λ q. valid_at (table_of l.self) q m.1)
          (of_member matches (form_at (table_of l.self) (get_or l.owners e 0)) m.0)
          && every (λ q. valid_at (table_of l.self) q (string m.0))
          (of_name (form_at (table_of l.self) (get_or l.owners e 0)))) (map member_view l.member-items);
      within : (k : ℕ) → k < length l.asking.items → get_or l.asking.items k 0 < length l.owners;
      elsewhere : (w : List ℕ) → NothingElsewhere (table_of l.self) (λ f. of_member matches f w) l.owners
          (flag l.fine.items) l.asking.items;
      names : AskedWhere (table_of l.self) of_name l.owners (flag l.fine.items) (owners_in l.names.items)
          (entries_in l.names.items);
    }
