use Rattle.std.proofs.Common.{◌≡◌, ℕ, ◌<◌, ◌&&◌, Bool, true, map, drop, length}
use Rattle.documents.specs.Tests.{every}
use Rattle.draft06.specs.EntryValidity.{form_at}
use Rattle.js_doc.specs.PartMembers.{member_view}
use Rattle.js_valid.specs.Parts.{asked_by, flag, of_name}
use Rattle.js_valid.specs.Requests.{entries_in, owners_in}
use Rattle.js_valid.proofs.PartMemberLaws.{name_met}
use Rattle.js_valid.specs.Plan.{table_of}
use Rattle.js_valid.proofs.validator.Validator.fine_names.Given as goal

abbrev pub invariant-loop-member : goal.invariant-loop-member
invariant-loop-member l = record {
  fine : (e : ℕ) → e < length (table_of l.self)
      → (flag l.fine.items e && every (name_met (table_of l.self) (form_at (table_of l.self) e))
      (map member_view (drop l.member-index l.members)))
      ≡ every (name_met (table_of l.self) (form_at (table_of l.self) e)) (map member_view l.members);
  names : (e : ℕ) (p : ℕ → Bool) → e < length (table_of l.self) → flag l.fine.items e ≡ true
      → asked_by e p (owners_in l.requests.items) (entries_in l.requests.items)
      ≡ every p (of_name (form_at (table_of l.self) e));
}
