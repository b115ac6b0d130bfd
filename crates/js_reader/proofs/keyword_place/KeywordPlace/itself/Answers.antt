use Rattle.js_reader.specs.ObjectView.{numbers_of}
use Rattle.js_reader.specs.KeywordPlaceView.{at}
use Rattle.js_reader.proofs.KeywordPlaceLemmas.{number-itself}
use Rattle.js_reader.proofs.keyword_place.KeywordPlace.itself.Goals as goal

pub returns : goal.returns
returns c =
    let place = c.args.self.now in
    number-itself c.numbers.result.now (numbers_of place.object.now) c.numbers.ensures place.pointer (at place)
    place.leads c.number.result c.number.ensures
