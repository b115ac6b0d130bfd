-- Whatever is in a JSON value that is well formed is well formed.
use Rattle.std.proofs.Common.{◌≡◌, ℕ, List, [], ◌∷◌, Bool, true, false, ◌&&◌, cond, Some, sym, ap, ◌∙◌}
use Rattle.std.proofs.lemmas.Bool.{and_parts}
use Rattle.std.proofs.lemmas.Option.{none-some, same_Some}
use Rattle.documents.specs.Tests.{every, is_scalar, same_word}
use Rattle.documents.specs.Json.{Json, Members, no_members, member, lookup}
use Rattle.documents.specs.WellFormed.{is_before, is_json, are_members}

-- the parts of members that are well formed
pub record IsMember (k : List ℕ) (v : Json) (ms : Members) : Type 0 where
  pub name : every is_scalar k ≡ true
  pub value : is_json v ≡ true
  pub before : is_before k ms ≡ true
  pub others : are_members ms ≡ true

pub member_parts : (k : List ℕ) (v : Json) (ms : Members) → are_members (member k v ms) ≡ true → IsMember k v ms
member_parts k v ms h =
    let last = and_parts (every is_scalar k && is_json v && is_before k ms) (are_members ms) h in
    let third = and_parts (every is_scalar k && is_json v) (is_before k ms) last.0 in
    let first = and_parts (every is_scalar k) (is_json v) third.0 in
    record { name = first.0; value = first.1; before = third.1; others = last.1 }

found_well_formed : (k n : List ℕ) (v w : Json) (ms : Members) (test : Bool) → is_json w ≡ true
    → cond test (Some w) (lookup k ms) ≡ Some v
    → (lookup k ms ≡ Some v → is_json v ≡ true) → is_json v ≡ true
found_well_formed k n v w ms true h e later = ap is_json (sym (same_Some w v e)) ∙ h
found_well_formed k n v w ms false h e later = later e

pub lookup_well_formed : (k : List ℕ) (ms : Members) (v : Json) → are_members ms ≡ true → lookup k ms ≡ Some v
    → is_json v ≡ true
lookup_well_formed k no_members v h e = absurd (none-some v e)
lookup_well_formed k (member n w ms) v h e =
    let parts = member_parts n w ms h in
    found_well_formed k n v w ms (same_word k n) parts.value e (lookup_well_formed k ms v parts.others)
