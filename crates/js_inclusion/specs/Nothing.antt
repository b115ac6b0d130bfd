-- The entries of the value `false`, for which no document is valid.
use Rattle.std.specs.Prelude.{List, [], ◌∷◌}
use Rattle.schemas.specs.Entry.{Never, Entry, entry}

abbrev pub nothing : List Entry
nothing = entry [] Never ∷ []
