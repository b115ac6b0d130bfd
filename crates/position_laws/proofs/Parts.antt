-- The parts of a document are of lesser depth, and tests that agree on them agree on all of them.
use Rattle.std.proofs.Common.{◌≡◌, ℕ, zero, suc, ◌<◌, List, [], ◌∷◌, Bool, ◌&&◌, ◌||◌, not, drop, map, refl, ap, ap₂, arith}
use Rattle.std.specs.List.{AllByRecursion}
use Rattle.documents.specs.Measures.{meets_in_order, every_in}
use Rattle.documents.specs.Document.{Document, array, object, Items, no_items, item, Members, no_members, member, elements, entries, depth, items_depth, members_depth}
use Rattle.list_laws.proofs.Elements.{all-weaker, every-same}

-- depth

items-lower : (ds : Items) (n : ℕ) → items_depth ds < n → AllByRecursion (λ d. depth d < n) (elements ds)
items-lower no_items n l = tt
items-lower (item d ds) n l = (omega arith, items-lower ds n (omega arith))

members-lower : (ms : Members) (n : ℕ) → members_depth ms < n → AllByRecursion (λ m. depth m.1 < n) (entries ms)
members-lower no_members n l = tt
members-lower (member k d ms) n l = (omega arith, members-lower ms n (omega arith))

-- elements are of lesser depth than their array
pub elements-depth : (ds : Items) → AllByRecursion (λ d. depth d < depth (array ds)) (elements ds)
elements-depth ds = items-lower ds (depth (array ds)) (omega arith)

-- values of members are of lesser depth than their object
pub entries-depth : (ms : Members) → AllByRecursion (λ m. depth m.1 < depth (object ms)) (entries ms)
entries-depth ms = members-lower ms (depth (object ms)) (omega arith)

-- lists

pub all-drop : {A : Type 0} (P : A → Type 0) (n : ℕ) (xs : List A) → AllByRecursion P xs
    → AllByRecursion P (drop n xs)
all-drop P zero xs h = h
all-drop P (suc n) [] h = tt
all-drop P (suc n) (x ∷ xs) h = all-drop P n xs h.1

module _ {N : Type 0} (f g : N → Document → Bool) (Q : N → Type 0) (D : Document → Type 0)
    (agree : (q : N) (d : Document) → Q q → D d → f q d ≡ g q d) where
  pub meets_in_order-same : (qs : List N) (ds : List Document) → AllByRecursion Q qs → AllByRecursion D ds
      → meets_in_order f qs ds ≡ meets_in_order g qs ds
  meets_in_order-same [] ds h k = refl
  meets_in_order-same (q ∷ qs) [] h k = refl
  meets_in_order-same (q ∷ qs) (d ∷ ds) h k =
      ap₂ (λ a b. a && b) (agree q d h.0 k.0) (meets_in_order-same qs ds h.1 k.1)

pub meets_in_order-map : {N M : Type 0} (f : M → Document → Bool) (g : N → M) (qs : List N) (ds : List Document)
    → meets_in_order f (map g qs) ds ≡ meets_in_order (λ q. f (g q)) qs ds
meets_in_order-map f g [] ds = refl
meets_in_order-map f g (q ∷ qs) [] = refl
meets_in_order-map f g (q ∷ qs) (d ∷ ds) = ap (λ b. f (g q) d && b) (meets_in_order-map f g qs ds)

pub every_in-same : (set : List ℕ → Bool) (p q : Document → Bool) (ms : List (List ℕ × Document))
    → AllByRecursion (λ m. p m.1 ≡ q m.1) ms → every_in set p ms ≡ every_in set q ms
every_in-same set p q ms h = every-same _ _ ms (all-weaker _ _ ms (λ m e. ap (λ b. not (set m.0) || b) e) h)
