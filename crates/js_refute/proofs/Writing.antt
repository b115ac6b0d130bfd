-- Lines that are written one after another.
use Rattle.std.proofs.Common.{◌≡◌, ℕ, nat_eq, List, [], ◌∷◌, ◌++◌, map, flat_map, refl, ap, ap₂, sym, ◌∙◌}
use Rattle.std.specs.List.{insert_slice}
use Rattle.std.proofs.lemmas.List.{flat_map_more}
use Rattle.std.proofs.lemmas.Grind.{flat_map-append}
use Rattle.list_laws.specs.In.{IsIn}
use Rattle.word_states.specs.Mention.{mention_all}
use Rattle.certificate_lines.specs.Line as L
use Rattle.certificate_lines.specs.Line.{Line, ShortEntry}
use Rattle.certificate_lines.specs.Text.{line_text, lines_text}
use Rattle.refutations.specs.Listing.{place_of, cited_by_entry, cited_by, cited, renamed_entry, renamed}
use Rattle.refutation_laws.proofs.ListingSteps.{line_stays, lines_stay}
use Rattle.js_refute.proofs.Citing.{listed_more, renamed_more}

entries_stay : (ks more : List ℕ) (es : List ShortEntry) → ((j : ℕ) → IsIn j (flat_map cited_by_entry es) → IsIn j ks)
    → map (renamed_entry (place_of (ks ++ more))) es ≡ map (renamed_entry (place_of ks)) es
entries_stay ks more es h = let e = line_stays ks more (L.Short es) h in cc e

-- one more entry of a line, which cites by places
pub entry_more : (L K M : List ℕ) (xs all : List ShortEntry) (x y : ShortEntry) (ys more : List ShortEntry)
    → K ≡ mention_all nat_eq L (flat_map cited_by_entry xs) → M ≡ mention_all nat_eq K (cited_by_entry x)
    → ys ≡ map (renamed_entry (place_of K)) xs → y ≡ renamed_entry (place_of M) x
    → all ≡ xs ++ x ∷ [] → more ≡ ys ++ y ∷ []
    → (M ≡ mention_all nat_eq L (flat_map cited_by_entry all)) × (more ≡ map (renamed_entry (place_of M)) all)
entry_more L K M xs all x y ys more before next e f a m = (
  listed_more cited_by_entry renamed_entry entries_stay L K M xs x before next
      ∙ ap (λ z. mention_all nat_eq L (flat_map cited_by_entry z)) (sym a),
  m ∙ renamed_more cited_by_entry renamed_entry entries_stay L K M xs x before next ys y e f
      ∙ ap (map (renamed_entry (place_of M))) (sym a),
)

-- one more line, which cites by places
pub line_more : (L K M : List ℕ) (xs all : List Line) (x : Line) (begin now next : List ℕ)
    → K ≡ mention_all nat_eq L (cited xs) → M ≡ mention_all nat_eq K (cited_by x)
    → now ≡ begin ++ lines_text (map (renamed (place_of K)) xs)
    → next ≡ now ++ line_text (renamed (place_of M) x) → all ≡ xs ++ x ∷ []
    → (M ≡ mention_all nat_eq L (cited all)) × (next ≡ begin ++ lines_text (map (renamed (place_of M)) all))
line_more L K M xs all x begin now next before after e f a = (
  listed_more cited_by renamed lines_stay L K M xs x before after
      ∙ ap (λ z. mention_all nat_eq L (cited z)) (sym a),
  f ∙ ap (λ z. z ++ line_text (renamed (place_of M) x)) e
      ∙ flat_map_more line_text begin (map (renamed (place_of K)) xs) (renamed (place_of M) x)
      ∙ ap (λ z. begin ++ lines_text z)
      (renamed_more cited_by renamed lines_stay L K M xs x before after (map (renamed (place_of K)) xs)
      (renamed (place_of M) x) refl refl
      ∙ ap (map (renamed (place_of M))) (sym a)),
)

-- a line behind others
pub line_behind : (now next : List ℕ) (ls all : List Line) (l : Line) → now ≡ lines_text ls → next ≡ now ++ line_text l
    → all ≡ ls ++ l ∷ [] → next ≡ lines_text all
line_behind now next ls all l e f a =
    f ∙ ap (λ z. z ++ line_text l) e ∙ flat_map_more line_text [] ls l ∙ ap lines_text (sym a)

-- what is put at the front
pub inserted : (xs ys : List ℕ) → insert_slice xs 0 ys ≡ ys ++ xs
inserted [] ys = refl
inserted (x ∷ xs) ys = refl

-- two lists of lines, and a line behind the second
pub parts_text : (front back all : List ℕ) (ls ms : List Line) (l : Line) → front ≡ lines_text ls
    → back ≡ lines_text ms ++ line_text l → all ≡ front ++ back → all ≡ lines_text (ls ++ (ms ++ l ∷ []))
parts_text front back all ls ms l e f a =
    a ∙ ap₂ (λ x y. x ++ y) e (f ∙ flat_map_more line_text [] ms l)
    ∙ sym (flat_map-append line_text ls (ms ++ l ∷ []))
