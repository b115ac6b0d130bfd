-- The certificate of numbered goals: those that are listed, in order of first citation, and the lines of each.
use Rattle.std.specs.Prelude.{ℕ, suc, List, [], ◌∷◌, ◌++◌, map, flat_map, length, get_or, nat_eq}
use Rattle.std.specs.List.{position_or_len}
use Rattle.goals.specs.Signed.{Signed}
use Rattle.finders.specs.RowsFound.{grow}
use Rattle.certificate_lines.specs.Line as L
use Rattle.certificate_lines.specs.Line.{Line, Ending, Clashes, Cites, ShortEntry, Kept, Ends}

-- the numbers that a line cites, in order

abbrev pub cited_by_ending : Ending → List ℕ
cited_by_ending Clashes = []
cited_by_ending (Cites k) = k ∷ []

abbrev pub cited_by_entry : ShortEntry → List ℕ
cited_by_entry Kept = []
cited_by_entry (Ends e) = cited_by_ending e

abbrev pub cited_by : Line → List ℕ
cited_by (L.OfMember m e) = cited_by_ending e
cited_by (L.OfIndex i e) = cited_by_ending e
cited_by (L.OfTail j e) = cited_by_ending e
cited_by (L.Short es) = flat_map cited_by_entry es
cited_by _ = []

abbrev pub cited : List Line → List ℕ
cited ls = flat_map cited_by ls

-- lines with their numbers of goals renamed
module _ (rename : ℕ → ℕ) where
  abbrev pub renamed_ending : Ending → Ending
  renamed_ending Clashes = Clashes
  renamed_ending (Cites k) = Cites (rename k)

  abbrev pub renamed_entry : ShortEntry → ShortEntry
  renamed_entry Kept = Kept
  renamed_entry (Ends e) = Ends (renamed_ending e)

  abbrev pub renamed : Line → Line
  renamed (L.OfMember m e) = L.OfMember m (renamed_ending e)
  renamed (L.OfIndex i e) = L.OfIndex i (renamed_ending e)
  renamed (L.OfTail j e) = L.OfTail j (renamed_ending e)
  renamed (L.Short es) = L.Short (map renamed_entry es)
  renamed l = l

-- the place of a number among those that are listed
abbrev pub place_of : List ℕ → ℕ → ℕ
place_of listed k = position_or_len (nat_eq k) listed

-- `goals`: goals by number; `lines`: the lines of a goal, which cite these numbers
module _ (goals : List (List Signed)) (lines : List Signed → List Line) where
  abbrev pub goal_at : ℕ → List Signed
  goal_at k = get_or goals k []

  -- the numbers that are listed: the first goal's, and what the lines of listed goals cite, in order of first citation
  unfoldable pub listed : List ℕ
  listed = grow nat_eq (λ k. cited (lines (goal_at k))) 0 (length goals)

  -- the goals of numbers, from place i on
  abbrev pub entries : (ℕ → ℕ) → ℕ → List ℕ → List Line
  entries place i [] = []
  entries place i (k ∷ ks) =
      L.Entry i ∷ (map (renamed place) (lines (goal_at k)) ++ entries place (suc i) ks)

  abbrev pub certificate_of : List ℕ → List Line
  certificate_of ks =
      L.Version ∷ L.Goals (length ks) ∷ (map (λ k. L.Goal (goal_at k)) ks ++ (entries (place_of ks) 0 ks ++ L.End ∷ []))

  abbrev pub certificate : List Line
  certificate = certificate_of listed
