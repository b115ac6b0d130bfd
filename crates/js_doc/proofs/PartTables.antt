-- Tables of parts as the program holds them.
use Rattle.std.proofs.Common.{◌≡◌, ℕ, suc, ◌<◌, ◌≤◌, List, [], ◌∷◌, ◌++◌, map, length, get_or, take, None, true, nat_lt, refl, sym, ap, subst, ◌∙◌, arith}
use Rattle.std.proofs.Math.ListN.{length-map}
use Rattle.std.proofs.lemmas.List.{get_or-map, take_all, map_push}
use Rattle.documents.specs.Tests.{every}
use Rattle.documents.specs.Document as D
use Rattle.shared_documents.specs.Part as P
use Rattle.shared_documents.specs.Unshared.{built, unshared}
use Rattle.shared_documents.proofs.Laws.{part_at-table, is_table-pushed, below-none_forward, unshared-built, members_rise-built}
use Rattle.js_doc.specs.declared.parts.Part.{Part}
use Rattle.js_doc.specs.declared.parts.Part.TheVariants as V
use Rattle.js_doc.specs.declared.parts.PartId.{PartId}
use Rattle.js_doc.specs.declared.parts.PartMember.{PartMember}
use Rattle.js_doc.specs.PartMembers.{number_of, member_view}
use Rattle.js_doc.specs.PartView.{part_view, AreParts}
use Rattle.js_doc.proofs.NumbersAbove.{above_all, above_all-below, mapped-above_all, every-more}
use Rattle.std.proofs.lemmas.Simd.{map-map}

-- the part at a place of a table
pub part-found : (ps : List Part) (table : List P.Part) (i k : ℕ) (p : Part) → P.is_table (map part_view ps) ≡ true
    → map part_view ps ≡ table → i < length table → k ≡ i → p ≡ get_or ps k p → P.IsPart i (part_view p)
part-found ps table i k p h view within index is =
    let inside : k < length ps = omega (arith, index, ap length view, length-map ps part_view, within) in
    let at : part_view p ≡ P.part_at (map part_view ps) i =
    ap part_view is ∙ sym (get_or-map part_view ps k p P.null inside) ∙ ap (P.part_at (map part_view ps)) index in
    subst (P.IsPart i) (sym at)
    (part_at-table (map part_view ps) i h (omega (arith, ap length view, within)))

length-pushed : {A : Type 0} (xs : List A) (x : A) → length (xs ++ x ∷ []) ≡ suc (length xs)
length-pushed [] x = refl
length-pushed (y ∷ xs) x = ap suc (length-pushed xs x)

-- a further part
pub AreParts-pushed : (ps qs : List Part) (table : List P.Part) (p : Part) (count : ℕ) → map part_view ps ≡ table
    → AreParts (map part_view ps) → count ≡ length ps → length table < 4294967295 → qs ≡ ps ++ p ∷ []
    → P.first_forward count (part_view p) ≡ None → P.names_rise (part_view p) ≡ true → AreParts (map part_view qs)
AreParts-pushed ps qs table p count view are number room pushed none rises =
    let seen = map part_view ps in
    let same : map part_view qs ≡ seen ++ part_view p ∷ [] = ap (map part_view) pushed ∙ map_push part_view ps p in
    let last : count ≡ length seen = number ∙ sym (length-map ps part_view) in
    let below = below-none_forward (length seen) (part_view p)
    (ap (λ n. P.first_forward n (part_view p)) (sym last) ∙ none) in
    let after : AreParts (seen ++ part_view p ∷ []) = record {
      table = is_table-pushed seen (part_view p) are.table (record { below = below; rises = rises });
      few = omega (arith, length-pushed seen (part_view p), ap length view, room);
    } in
    subst AreParts (sym same) after

-- the document that a part of a table stands for
pub unshared-part : (ps : List P.Part) (i : ℕ) (p q : Part) → P.is_table ps ≡ true → i < length ps
    → part_view p ≡ P.part_at ps i → p ≡ q → built (unshared ps) (part_view q) ≡ unshared ps i
unshared-part ps i p q h within at is =
    ap (λ r. built (unshared ps) (part_view r)) (sym is) ∙ ap (built (unshared ps)) at
    ∙ sym (unshared-built ps i h within)

-- ---- going down

-- the numbers that a part names are below its own, and so in the table
pub record AreBelow (i n : ℕ) (is : List ℕ) : Type 0 where
  pub least : above_all is ≤ i
  pub inside : every (λ j. nat_lt j n) is ≡ true

named_below : (i n : ℕ) (p q : Part) → P.IsPart i (part_view p) → i < n → p ≡ q
    → AreBelow i n (P.named (part_view q))
named_below i n p q part within is =
    let below = ap (λ r. P.names_below i (part_view r)) (sym is) ∙ part.below in
    record {
      least = above_all-below i (P.named (part_view q)) below;
      inside = every-more i n (P.named (part_view q)) (omega (arith, within)) below;
    }

pub elements_below : (i n : ℕ) (p : Part) (is : List ℕ) → P.IsPart i (part_view p) → i < n → p ≡ V.List is
    → AreBelow i n is
elements_below i n p is part within e = named_below i n p (V.List is) part within e

pub members_below : (i n : ℕ) (p : Part) (ms : List (List ℕ × ℕ)) → P.IsPart i (part_view p) → i < n
    → p ≡ V.Members ms → AreBelow i n (map (λ m. m.1) ms)
members_below i n p ms part within e = named_below i n p (V.Members ms) part within e

-- the documents of a list of parts, by their numbers
pub mapped_numbers : {A B C : Type 0} (f : B → C) (g : A → B) (xs : List A) (is : List B) → map g xs ≡ is
    → map (λ x. f (g x)) xs ≡ map f is
mapped_numbers f g xs is e = sym (map-map f g xs) ∙ ap (map f) e

-- and the documents of members, by their names and numbers
pub mapped_members : (f : ℕ → D.Document) (ms : List PartMember) (ns : List (List ℕ × ℕ)) → map member_view ms ≡ ns
    → map {B = List ℕ × D.Document} (λ m. (m.name, f m.part.0)) ms ≡ map (λ n. (n.0, f n.1)) ns
mapped_members f ms ns e = mapped_numbers (λ n. (n.0, f n.1)) member_view ms ns e

-- the number of a member's part is below the least above all
pub member-above_all : (ms : List PartMember) (ns : List (List ℕ × ℕ)) (k : ℕ) (m : PartMember)
    → map member_view ms ≡ ns → k < length ms → m ≡ get_or ms k m → m.part.0 < above_all (map (λ n. n.1) ns)
member-above_all ms ns k m e l is =
    let less = mapped-above_all (λ n. (member_view n).1) ms (map (λ n. n.1) ns) k m
    (mapped_numbers (λ n. n.1) member_view ms ns e) l in
    subst (λ n. (member_view n).1 < above_all (map (λ x. x.1) ns)) (sym is) less

-- the documents of a list, and of members, once all are made
pub all_numbers : (f : ℕ → D.Document) (ids : List PartId) (is : List ℕ) (n : ℕ) (ds : List D.Document)
    → map number_of ids ≡ is → length ids ≤ n → ds ≡ map (λ i. f i.0) (take n ids) → ds ≡ map f is
all_numbers f ids is n ds e past made =
    made ∙ ap (map (λ i. f i.0)) (take_all n ids past) ∙ mapped_numbers f number_of ids is e

pub all_members : (f : ℕ → D.Document) (ms : List PartMember) (ns : List (List ℕ × ℕ)) (n : ℕ)
    (ds : List (List ℕ × D.Document)) → map member_view ms ≡ ns → length ms ≤ n
    → ds ≡ map (λ m. (m.name, f m.part.0)) (take n ms) → ds ≡ map (λ m. (m.0, f m.1)) ns
all_members f ms ns n ds e past made =
    made ∙ ap (map (λ m. (m.name, f m.part.0))) (take_all n ms past) ∙ mapped_members f ms ns e

-- whose names rise
pub all_members-rise : (f : ℕ → D.Document) (ns : List (List ℕ × ℕ)) (ds : List (List ℕ × D.Document))
    → P.members_rise ns ≡ true → ds ≡ map (λ m. (m.0, f m.1)) ns → D.names_rise (D.members_of ds) ≡ true
all_members-rise f ns ds h made = ap (λ ms. D.names_rise (D.members_of ms)) made ∙ members_rise-built f ns h
