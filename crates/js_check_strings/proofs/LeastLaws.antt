-- Whether the least lengths of all rows are past the bound, by those of each row.
use Rattle.std.proofs.Common.{◌≡◌, ◌<◌, ℕ, List, [], Bool, true, false, ◌||◌, not, length, get_or, sym, ◌∙◌}
use Rattle.std.specs.List.{range_with_len}
use Rattle.list_laws.proofs.Lists.{every_at, every_from}
use Rattle.list_laws.proofs.Tests.{in_range, from_range}
use Rattle.positions.specs.Position.{Position}
use Rattle.goals.specs.Signed.{Signed}
use Rattle.frames.specs.Frame.{is_at_end}
use Rattle.finders.specs.Strings.{below, is_wanted}
use Rattle.verdicts.specs.RowLines.{Table}
use Rattle.verdicts.specs.Leaves.{least_past}
use Rattle.std.proofs.lemmas.Bool.{false_from_ne_true}

module _ (T : List Position) (set : List Signed) (t : Table (List ℕ)) (ds : List ℕ) where
  -- the row isn't wanted, or its label is past the bound
  abbrev pub row_past : ℕ → Bool
  row_past r = not (is_wanted T set (get_or t.words r [])) || is_at_end (get_or ds r 0) (below T set)

  -- where each row isn't wanted or is past the bound, the rule of least lengths holds
  pub all_past : ((r : ℕ) → r < length t.words → row_past r ≡ true) → least_past T set t ds ≡ true
  all_past h =
      every_from row_past (range_with_len 0 (length t.words)) (λ r i. h r (from_range (length t.words) r i))

  pub one_left : (r : ℕ) → r < length t.words → row_past r ≡ false → least_past T set t ds ≡ false
  one_left r l e = false_from_ne_true (least_past T set t ds) (λ h. cc (sym (at h) ∙ e)) where
    at : least_past T set t ds ≡ true → row_past r ≡ true
    at h = every_at row_past r (range_with_len 0 (length t.words)) h (in_range (length t.words) r l)
