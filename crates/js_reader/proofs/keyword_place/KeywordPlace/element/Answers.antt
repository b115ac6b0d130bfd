use Rattle.schemas.specs.Places.{index_token}
use Rattle.js_reader.specs.ObjectView.{numbers_of}
use Rattle.js_reader.specs.KeywordPlaceView.{at}
use Rattle.js_reader.proofs.KeywordPlaceLemmas.{number-below}
use Rattle.js_reader.proofs.keyword_place.KeywordPlace.element.Goals as goal

pub returns : goal.returns
returns c =
    let place = c.args.self.now in
    number-below c.numbers-numbers.result.now (numbers_of place.object.now) c.numbers-numbers.ensures place.pointer
    (at place) place.leads (index_token c.args.index) c.in_ok-pointer.pointer c.number.result c.in_ok-pointer.ensures
    c.number.ensures
