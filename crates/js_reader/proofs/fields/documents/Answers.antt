use Rattle.js_doc.specs.JsonView.{view}
use Rattle.js_keywords.specs.Names.{keyword_name}
use Rattle.js_reader.specs.ObjectView.{members_of, place_of}
use Rattle.js_reader.proofs.FaultlessLemmas.{found, documents_whole}
use Rattle.js_reader.proofs.fields.documents.Goals as goal

pub documents-requires : goal.documents-requires
documents-requires c =
    let object = c.args.object.now in
    documents_whole (place_of object) (members_of object) object.plain object.faultless c.args.keyword
    (view c.in-Some.value.now) c.requires
    (found (λ j. view j.now) _ _ (keyword_name c.args.keyword) (members_of object) c.value.ensures c.in-Some.is)
