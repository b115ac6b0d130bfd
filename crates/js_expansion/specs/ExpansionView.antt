-- The expansions that the program's values stand for, and that equal ones are equal as values.
use Rattle.std.specs.Prelude.{◌≡◌, Option, Some, None, option_map, refl}
use Rattle.std.proofs.Common.{ap, sym, ◌∙◌}
use Rattle.alternatives.specs.Limit as L
use Rattle.alternatives.specs.Expansion as E
use Rattle.js_expansion.specs.declared.expansion.LimitKind.{LimitKind}
use Rattle.js_expansion.specs.declared.expansion.LimitKind.TheVariants as K
use Rattle.js_expansion.specs.declared.expansion.Expansion.{Expansion}
use Rattle.js_expansion.specs.View.{limit_view}

abbrev pub expansion_view : Expansion → E.Expansion
expansion_view e = record { alternatives = e.alternatives; hole = option_map limit_view e.hole }

abbrev limit_of : L.LimitKind → LimitKind
limit_of L.Branches = K.Branches
limit_of L.Positions = K.Positions
limit_of L.Classes = K.Classes
limit_of L.States = K.States
limit_of L.Counts = K.Counts
limit_of L.Multiples = K.Multiples
limit_of L.Candidates = K.Candidates
limit_of L.Plans = K.Plans
limit_of L.Width = K.Width
limit_of L.Places = K.Places
limit_of L.Goals = K.Goals
limit_of L.Total = K.Total

abbrev of_view : E.Expansion → Expansion
of_view e = record { alternatives = e.alternatives; hole = option_map limit_of e.hole }

limit_of-limit_view : (k : LimitKind) → limit_of (limit_view k) ≡ k
limit_of-limit_view K.Branches = refl
limit_of-limit_view K.Positions = refl
limit_of-limit_view K.Classes = refl
limit_of-limit_view K.States = refl
limit_of-limit_view K.Counts = refl
limit_of-limit_view K.Multiples = refl
limit_of-limit_view K.Candidates = refl
limit_of-limit_view K.Plans = refl
limit_of-limit_view K.Width = refl
limit_of-limit_view K.Places = refl
limit_of-limit_view K.Goals = refl
limit_of-limit_view K.Total = refl

hole-back : (o : Option LimitKind) → option_map limit_of (option_map limit_view o) ≡ o
hole-back None = refl
hole-back (Some k) = ap Some (limit_of-limit_view k)

of_view-expansion_view : (e : Expansion) → of_view (expansion_view e) ≡ e
of_view-expansion_view e = ap (λ o. record e { hole = o }) (hole-back e.hole)

-- two expansions that stand for the same are equal
pub expansion_view-same : (d e : Expansion) → expansion_view d ≡ expansion_view e → d ≡ e
expansion_view-same d e h = sym (of_view-expansion_view d) ∙ ap of_view h ∙ of_view-expansion_view e
