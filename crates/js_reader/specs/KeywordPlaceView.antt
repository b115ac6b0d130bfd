-- Where a keyword's value is, and the places among which its schemas are.
use Rattle.std.specs.Prelude.{List, [], ◌∷◌, ◌++◌}
use Rattle.schemas.specs.Places as P
use Rattle.js_keywords.specs.Names.{keyword_name}
use Rattle.js_reader.specs.declared.keyword_place.KeywordPlace.{KeywordPlace}
use Rattle.js_reader.specs.NumbersView.{numbered}
use Rattle.js_reader.specs.ObjectView.{numbers_of, place_of}

abbrev pub places_about : KeywordPlace → List P.Place
places_about k = numbered (numbers_of k.object.now)

abbrev pub at : KeywordPlace → P.Pointer
at k = place_of k.object.now ++ keyword_name k.keyword ∷ []
