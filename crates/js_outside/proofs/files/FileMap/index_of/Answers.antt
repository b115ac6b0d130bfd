use Rattle.std.proofs.Common.{map, ap, sym, ◌∙◌}
use Rattle.std.specs.Str.{bytes_eq}
use Rattle.js_outside.specs.NamedFiles.{entry_of}
use Rattle.js_outside.proofs.ContentsLemmas.{contents-found}
use Rattle.js_outside.proofs.files.FileMap.index_of.Goals as goal

pub returns-then-eq-clause-found : goal.returns-then-eq-clause-found
returns-then-eq-clause-found c =
    contents-found entry_of c.as_slice-files.result.now _ c.loop-index.index c.index-files-index.result _
    (ap (map entry_of) c.as_slice-files.ensures.value ∙ c.self.view_is)
    c.loop-index-test.true c.index-files-index.is
    (ap (bytes_eq c.args.name.now) (sym c.as_text.ensures.bytes) ∙ sym c.if-eq.ensures)
    c.loop-index.invariant
