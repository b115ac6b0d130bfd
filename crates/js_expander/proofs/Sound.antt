-- The alternatives of goals that are taken are sound.
use Rattle.std.proofs.Common.{◌≡◌, ℕ, true, List}
use Rattle.documents.specs.Tests.{every}
use Rattle.documents.specs.Kind as K
use Rattle.positions.specs.Position.{Position}
use Rattle.goals.specs.Signed.{Signed}
use Rattle.list_laws.proofs.Lists.{every_at}
use Rattle.expansions.specs.Leaves.{words_of}
use Rattle.finder_laws.proofs.Names.{cells_found}
use Rattle.finder_laws.proofs.Strings.{string_finder}
use Rattle.expander_laws.specs.Expander.{takes, words_by}
use Rattle.expander_laws.specs.Sound.{AreSound}
use Rattle.expander_laws.proofs.Laws.{taken_parts, taken_table}
use Rattle.expander_laws.proofs.Sound.{are_sound}
use Rattle.js_scalars.proofs.Found.{found_numbers}
use Rattle.js_expander.specs.Found.{finders, goal_expansion, cells_at}

-- goals are taken in tables alone, where numbers, words and cells are found rightly
pub taken_sound : (T : List Position) (ranks : List ℕ) (gs : List (List Signed)) → every (takes T ranks) gs ≡ true
    → AreSound T (words_by (cells_at T)) (goal_expansion T) gs
taken_sound T ranks gs taken g i =
    let this = every_at (takes T ranks) g gs taken i in
    let (table, some, goal) = taken_parts T ranks g this in
    let ok = taken_table T ranks g this in
    are_sound (finders T) T ok (found_numbers T ranks table ok (words_of (finders T) K.Number)) (string_finder T ok)
    (λ S full C e. cells_found T S ok C e) gs g i
