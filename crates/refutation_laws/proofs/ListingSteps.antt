-- Listing, step by step: where each listed number was gone through the listing is whole, and the places of what is
-- listed stay as more is listed, so that an entry may be written before all are listed.
use Rattle.std.proofs.Common.{◌≡◌, ℕ, zero, suc, ◌+◌, ◌≤◌, inl, inr, Bool, true, false, not, cond, nat_eq, nat_lt, List, [], ◌∷◌, ◌++◌, map, flat_map, length, get_or, refl, ap, ap₂, sym, ◌∙◌, append-nil, append_assoc, arith, zero-add, suc-add, add-zero}
use Rattle.std.proofs.lemmas.Bool.{le-ltb, eq-eqb}
use Rattle.word_states.specs.Mention.{mention_all}
use Rattle.goals.specs.Signed.{Signed}
use Rattle.list_laws.specs.In.{IsIn}
use Rattle.list_laws.proofs.Lists.{in_left, in_right}
use Rattle.finders.specs.RowsFound.{grow}
use Rattle.certificate_lines.specs.Line as L
use Rattle.certificate_lines.specs.Line.{Line, Ending, ShortEntry}
use Rattle.refutations.specs.Listing.{cited_by_ending, cited_by_entry, cited_by, cited, renamed_ending, renamed_entry, renamed, place_of, goal_at, entries}

-- nothing is listed once all that is listed was gone through
pub grown_stays : (extend : ℕ → List ℕ) (k i : ℕ) → length (grow nat_eq extend 0 i) ≤ i
    → grow nat_eq extend 0 (k + i) ≡ grow nat_eq extend 0 i
grown_stays extend zero i l = ap (grow nat_eq extend 0) (zero-add i)
grown_stays extend (suc k) i l =
    ap (grow nat_eq extend 0) (suc-add k i)
    ∙ step (grow nat_eq extend 0 (k + i)) (grown_stays extend k i l) where
      step : (G : List ℕ) → G ≡ grow nat_eq extend 0 i
          → cond (nat_lt (k + i) (length G)) (mention_all nat_eq G (extend (get_or G (k + i) 0))) G
          ≡ grow nat_eq extend 0 i
      step G e =
          let n : length G ≡ length (grow nat_eq extend 0 i) = ap length e in
          ap (λ b. cond b (mention_all nat_eq G (extend (get_or G (k + i) 0))) G)
          (le-ltb (k + i) (length G) (omega (arith, n, l)))
          ∙ e

-- places

pub place_stays : (k : ℕ) (ks more : List ℕ) → IsIn k ks → place_of (ks ++ more) k ≡ place_of ks k
place_stays k [] more i = absurd i
place_stays k (j ∷ ks) more i = go (nat_eq k j) refl i (place_stays k ks more) where
  go : (b : Bool) → nat_eq k j ≡ b → IsIn k (j ∷ ks) → (IsIn k ks → place_of (ks ++ more) k ≡ place_of ks k)
      → cond (not b) (1 + place_of (ks ++ more) k) 0 ≡ cond (not b) (1 + place_of ks k) 0
  go true e i more = refl
  go false e (inl q) more = absurd (differ (eq-eqb k j q) e) where
    differ : nat_eq k j ≡ true → nat_eq k j ≡ false → ⊥
    differ a b = cc
  go false e (inr i) more = ap (λ n. 1 + n) (more i)

-- lines that cite what is listed already
module _ (ks more : List ℕ) where
  abbrev AreListed : List ℕ → Type 0
  AreListed js = (j : ℕ) → IsIn j js → IsIn j ks

  ending_stays : (e : Ending) → AreListed (cited_by_ending e)
      → renamed_ending (place_of (ks ++ more)) e ≡ renamed_ending (place_of ks) e
  ending_stays L.Clashes h = refl
  ending_stays (L.Cites k) h = ap L.Cites (place_stays k ks more (h k (inl refl)))

  entry_stays : (e : ShortEntry) → AreListed (cited_by_entry e)
      → renamed_entry (place_of (ks ++ more)) e ≡ renamed_entry (place_of ks) e
  entry_stays L.Kept h = refl
  entry_stays (L.Ends e) h = ap L.Ends (ending_stays e h)

  entries_stay : (es : List ShortEntry) → AreListed (flat_map cited_by_entry es)
      → map (renamed_entry (place_of (ks ++ more))) es ≡ map (renamed_entry (place_of ks)) es
  entries_stay [] h = refl
  entries_stay (e ∷ es) h =
      ap₂ (λ x xs. x ∷ xs)
      (entry_stays e (λ j i. h j (in_left j (cited_by_entry e) (flat_map cited_by_entry es) i)))
      (entries_stay es (λ j i. h j (in_right j (cited_by_entry e) (flat_map cited_by_entry es) i)))

  pub line_stays : (l : Line) → AreListed (cited_by l)
      → renamed (place_of (ks ++ more)) l ≡ renamed (place_of ks) l
  line_stays (L.OfMember m e) h = ap (L.OfMember m) (ending_stays e h)
  line_stays (L.OfIndex i e) h = ap (L.OfIndex i) (ending_stays e h)
  line_stays (L.OfTail j e) h = ap (L.OfTail j) (ending_stays e h)
  line_stays (L.Short es) h = ap L.Short (entries_stay es h)
  line_stays _ h = refl

  -- lines whose citations are listed stay the same when more is listed
  pub lines_stay : (ls : List Line) → AreListed (cited ls)
      → map (renamed (place_of (ks ++ more))) ls ≡ map (renamed (place_of ks)) ls
  lines_stay [] h = refl
  lines_stay (l ∷ ls) h =
      ap₂ (λ x xs. x ∷ xs) (line_stays l (λ j i. h j (in_left j (cited_by l) (cited ls) i)))
      (lines_stay ls (λ j i. h j (in_right j (cited_by l) (cited ls) i)))

-- one more entry
pub entries_end : (goals : List (List Signed)) (lines : List Signed → List Line) (place : ℕ → ℕ) (i : ℕ) (ks : List ℕ)
    (k : ℕ)
    → entries goals lines place i (ks ++ k ∷ [])
    ≡ entries goals lines place i ks
    ++ L.Entry (i + length ks) ∷ map (renamed place) (lines (goal_at goals lines k))
entries_end goals lines place i [] k =
    ap₂ (λ n ls. L.Entry n ∷ ls) (sym (add-zero i)) (append-nil (map (renamed place) (lines (goal_at goals lines k))))
entries_end goals lines place i (j ∷ ks) k =
    ap (λ z. L.Entry i ∷ z)
    (ap (λ z. map (renamed place) (lines (goal_at goals lines j)) ++ z)
    (entries_end goals lines place (suc i) ks k
    ∙ ap (λ n. entries goals lines place (suc i) ks
    ++ L.Entry n ∷ map (renamed place) (lines (goal_at goals lines k))) (plus i ks))
    ∙ sym (append_assoc (map (renamed place) (lines (goal_at goals lines j))) (entries goals lines place (suc i) ks)
    (L.Entry (i + length (j ∷ ks)) ∷ map (renamed place) (lines (goal_at goals lines k))))) where
      plus : (i : ℕ) (ks : List ℕ) → suc i + length ks ≡ i + suc (length ks)
      plus i ks = omega arith
