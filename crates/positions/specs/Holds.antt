-- When a position holds of a document.
use Rattle.std.specs.Prelude.{ℕ, ◌<◌, int_le, List, Bool, true, false, ◌&&◌, ◌||◌, not, nat_le, drop, length}
use Rattle.std.specs.Bool.{beq}
use Rattle.std.specs.List.{AllByRecursion, list_any}
use Rattle.std.specs.Ordering.{int_eq}
use Rattle.documents.specs.Tests.{every, some, same_word}
use Rattle.documents.specs.Measures.{exactly_one, is_multiple, meets_in_order, has_name, every_in}
use Rattle.documents.specs.Measures.{at_number, at_string, at_array, at_object}
use Rattle.documents.specs.Kind.{same_kind}
use Rattle.documents.specs.Document.{Document, boolean, string, kind_of}
use Rattle.levels.specs.Levels.{is_met, Ranked}
use Rattle.patterns.specs.Decision.{finds}
use Rattle.positions.specs.Position.{Pattern, NameSet, Named, Matching, Others, Position, position_at, in_place, of_parts}
use Rattle.positions.specs.Position.{True, False, Same, Not, All, Any, One, Depends, Types, BoolIs}
use Rattle.positions.specs.Position.{NumMin, NumMax, Multiple, NumIn, Words, Match, LengthMin, LengthMax}
use Rattle.positions.specs.Position.{Items, Contains, CountMin, CountMax, MembersOf, Has, PropsMin, PropsMax, NamesIn}

-- the pattern matches somewhere in the word
abbrev pub matches : Pattern → List ℕ → Bool
matches r w = finds r.tree w

-- the name is in the set
abbrev pub in_set : NameSet → List ℕ → Bool
in_set (Named n) w = same_word n w
in_set (Matching r) w = matches r w
in_set (Others ns rs) w = not (some (same_word w) ns) && not (some (λ r. matches r w) rs)

abbrev pub at_boolean : (Bool → Bool) → Document → Bool
at_boolean p (boolean b) = p b
at_boolean p _ = true

-- what a position requires of a document: `here` says what the document meets, `below` what its elements, its members'
-- values and, as strings, its members' names meet
abbrev pub asks : (here : ℕ → Bool) (below : ℕ → Document → Bool) → Position → Document → Bool
asks here below True J = true
asks here below False J = false
asks here below (Same q) J = here q
asks here below (Not q) J = not (here q)
asks here below (All qs) J = every here qs
asks here below (Any qs) J = some here qs
asks here below (One qs) J = exactly_one here qs
asks here below (Depends h q) J = at_object (λ ms. not (here h) || here q) J
asks here below (Types ts) J = some (same_kind (kind_of J)) ts
asks here below (BoolIs b) J = at_boolean (beq b) J
asks here below (NumMin n) J = at_number (int_le n) J
asks here below (NumMax n) J = at_number (λ x. int_le x n) J
asks here below (Multiple m) J = at_number (is_multiple m) J
asks here below (NumIn ns) J = at_number (λ x. list_any (λ n. int_eq n x) ns) J
asks here below (Words ws) J = at_string (λ w. some (same_word w) ws) J
asks here below (Match r) J = at_string (matches r) J
asks here below (LengthMin n) J = at_string (λ w. nat_le n (length w)) J
asks here below (LengthMax n) J = at_string (λ w. nat_le (length w) n) J
asks here below (Items qs r) J =
    at_array (λ ds. meets_in_order below qs ds && every (below r) (drop (length qs) ds)) J
asks here below (Contains q) J = at_array (some (below q)) J
asks here below (CountMin n) J = at_array (λ ds. nat_le n (length ds)) J
asks here below (CountMax n) J = at_array (λ ds. nat_le (length ds) n) J
asks here below (MembersOf s q) J = at_object (every_in (in_set s) (below q)) J
asks here below (Has w) J = at_object (has_name w) J
asks here below (PropsMin n) J = at_object (λ ms. nat_le n (length ms)) J
asks here below (PropsMax n) J = at_object (λ ms. nat_le (length ms) n) J
asks here below (NamesIn q) J = at_object (every (λ m. below q (string m.0))) J

-- the position holds of the document; in-place steps at one document are bounded by the size of the table
abbrev pub holds : List Position → ℕ → Document → Bool
holds T p J = is_met (λ here below p. asks here below (position_at T p)) (length T) p J

-- ranks for a table, below its length, that fall in place; with them `holds` keeps its one-step equation
pub record IsTable (T : List Position) : Type 0 where
  pub rank : ℕ → ℕ
  pub ranked : Ranked (λ p. in_place (position_at T p)) (length T) rank
  pub named : (p : ℕ) → AllByRecursion (λ q. q < length T) (in_place (position_at T p))
  pub parts_named : (p : ℕ) → AllByRecursion (λ q. q < length T) (of_parts (position_at T p))
