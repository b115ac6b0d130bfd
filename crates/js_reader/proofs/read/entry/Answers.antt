use Rattle.js_doc.specs.JsonView.{view}
use Rattle.js_walk.specs.FileView.{root_of}
use Rattle.js_reader.specs.NumbersView.{numbered, pointer_at}
use Rattle.js_reader.proofs.ReadLemmas.{place_faultless}
use Rattle.js_reader.proofs.read.entry.Goals as goal

pub form-requires-clause-faultless : goal.form-requires-clause-faultless
form-requires-clause-faultless c =
    let numbers = c.args.reader.now.numbers.now in
    place_faultless (root_of c.args.reader.now.file.now) (numbered numbers) c.requires.places c.args.number
    (pointer_at numbers c.place-pointer.result.0, view c.place-pointer.result.1.now) c.requires.number
    c.place-pointer.ensures.place c.requires.faultless
