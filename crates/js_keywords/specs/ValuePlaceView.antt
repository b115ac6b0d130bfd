-- Where the value of a keyword is.
use Rattle.std.specs.Prelude.{ℕ, List}
use Rattle.js_keywords.specs.declared.value_place.ValuePlace.{ValuePlace}
use Rattle.js_keywords.specs.Names.{keyword_name}
use Rattle.js_keywords.specs.Words.{value_place}

abbrev pub name_at : ValuePlace → List ℕ
name_at p = keyword_name p.keyword

abbrev pub place_of : ValuePlace → List (List ℕ)
place_of p = value_place p.object.now p.keyword
