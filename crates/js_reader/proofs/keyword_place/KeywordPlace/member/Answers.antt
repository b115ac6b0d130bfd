use Rattle.std.proofs.Common.{chars}
use Rattle.js_reader.specs.ObjectView.{numbers_of}
use Rattle.js_reader.specs.KeywordPlaceView.{at}
use Rattle.js_reader.proofs.KeywordPlaceLemmas.{number-below}
use Rattle.js_reader.proofs.keyword_place.KeywordPlace.member.Goals as goal

pub returns : goal.returns
returns c =
    let place = c.args.self.now in
    number-below c.numbers-numbers.result.now (numbers_of place.object.now) c.numbers-numbers.ensures place.pointer
    (at place) place.leads (chars c.args.name.now) c.below.result c.number.result c.below.ensures c.number.ensures
