-- What a position requires is local, so in a table each position holds where what it requires is met.
use Rattle.std.proofs.Common.{◌≡◌, ℕ, ◌<◌, ◌&&◌, ◌||◌, List, Bool, length, drop, not, refl, ap, ap₂, arith}
use Rattle.std.specs.List.{AllByRecursion}
use Rattle.std.proofs.lemmas.List.{length-map}
use Rattle.documents.specs.Tests.{every}
use Rattle.documents.specs.Document.{Document, string, array, object, depth, elements, entries}
use Rattle.levels.specs.Levels.{IsLocal}
use Rattle.levels.proofs.LevelsLaws.{is_met-asks}
use Rattle.positions.specs.Position.{Position, Same, Not, All, Any, One, Depends, Items, Contains, MembersOf, NamesIn}
use Rattle.positions.specs.Position.{position_at, in_place, of_parts}
use Rattle.positions.specs.Holds.{asks, in_set, holds, IsTable}
use Rattle.position_laws.specs.Join.{renamed}
use Rattle.list_laws.proofs.Elements.{all-weaker, all-everywhere, every-same, some-same, exactly_one-same, every-map, some-map, exactly_one-map}
use Rattle.position_laws.proofs.Parts.{elements-depth, entries-depth, all-drop, meets_in_order-same, meets_in_order-map, every_in-same}

-- a position requires the same where this document agrees on its in-place names, and its parts on the names of parts
module _ (here here' : ℕ → Bool) (below below' : ℕ → Document → Bool) (Q : ℕ → Type 0) where
  pub asks-same : (P : Position) (J : Document)
      → AllByRecursion (λ q. here q ≡ here' q) (in_place P)
      → AllByRecursion Q (of_parts P)
      → ((q : ℕ) (K : Document) → Q q → depth K < depth J → below q K ≡ below' q K)
      → asks here below P J ≡ asks here' below' P J
  asks-same (Same q) J h n b = h.0
  asks-same (Not q) J h n b = ap not h.0
  asks-same (All qs) J h n b = every-same here here' qs h
  asks-same (Any qs) J h n b = some-same here here' qs h
  asks-same (One qs) J h n b = exactly_one-same here here' qs h
  asks-same (Depends p q) (object ms) h n b = ap₂ (λ x y. not x || y) h.0 h.1.0
  asks-same (Depends p q) _ h n b = refl
  asks-same (Items qs r) (array ds) h n b =
      let lower = elements-depth ds in
      ap₂ (λ x y. x && y)
      (meets_in_order-same below below' Q IsLower b qs (elements ds) n.1 lower)
      (every-same _ _ (drop (length qs) (elements ds))
      (all-weaker IsLower _ (drop (length qs) (elements ds)) (λ d l. b r d n.0 l)
      (all-drop IsLower (length qs) (elements ds) lower))) where
        IsLower : Document → Type 0
        IsLower d = depth d < depth (array ds)
  asks-same (Items qs r) _ h n b = refl
  asks-same (Contains q) (array ds) h n b =
      some-same _ _ (elements ds) (all-weaker _ _ (elements ds) (λ d l. b q d n.0 l) (elements-depth ds))
  asks-same (Contains q) _ h n b = refl
  asks-same (MembersOf s q) (object ms) h n b =
      every_in-same (in_set s) _ _ (entries ms)
      (all-weaker _ _ (entries ms) (λ m l. b q m.1 n.0 l) (entries-depth ms))
  asks-same (MembersOf s q) _ h n b = refl
  asks-same (NamesIn q) (object ms) h n b =
      every-same _ _ (entries ms) (all-everywhere _ (entries ms) (λ m. b q (string m.0) n.0 (omega arith)))
  asks-same (NamesIn q) _ h n b = refl
  asks-same _ J h n b = refl

-- a renamed position requires of the new numbers what it requires of the old ones
pub asks-renamed : (f : ℕ → ℕ) (here : ℕ → Bool) (below : ℕ → Document → Bool) (P : Position) (J : Document)
    → asks here below (renamed f P) J ≡ asks (λ q. here (f q)) (λ q. below (f q)) P J
asks-renamed f here below (All qs) J = every-map here f qs
asks-renamed f here below (Any qs) J = some-map here f qs
asks-renamed f here below (One qs) J = exactly_one-map here f qs
asks-renamed f here below (Items qs r) (array ds) =
    ap₂ (λ b n. b && every (below (f r)) (drop n (elements ds))) (meets_in_order-map below f qs (elements ds))
    (length-map qs f)
asks-renamed f here below (Items qs r) _ = refl
asks-renamed f here below _ J = refl

-- what the positions of a list require is local in their in-place names
asks-local : (T : List Position)
    → IsLocal (λ here below p. asks here below (position_at T p)) (λ p. in_place (position_at T p))
asks-local T here here' below below' p J h b =
    asks-same here here' below below' (λ q. Unit {0}) (position_at T p) J h
    (all-everywhere _ (of_parts (position_at T p)) (λ q. tt)) (λ q K u l. b q K l)

-- the equation of the core table, which all later proofs cite
pub holds-asks : (T : List Position) → IsTable T → (p : ℕ) (J : Document)
    → holds T p J ≡ asks (λ q. holds T q J) (holds T) (position_at T p) J
holds-asks T ok p J =
    is_met-asks (λ here below q. asks here below (position_at T q)) (λ q. in_place (position_at T q))
    (asks-local T) (length T) ok.rank ok.ranked p J
