use Rattle.std.proofs.Common.{◌≤◌, ◌-◌, arith, drop, length, map, ap, sym, ◌∙◌}
use Rattle.std.proofs.lemmas.List.{take_all, length-drop}
use Rattle.std.proofs.Math.ListN.{drop_of_length-le}
use Rattle.js_outside.specs.NamedFiles.{entry_of}
use Rattle.js_outside.proofs.ContentsLemmas.{rest-past_files, rest-at}
use Rattle.js_outside.proofs.files.FileMap.bytes_from.Goals as goal

pub returns-then-index-files-clause-rest : goal.returns-then-index-files-clause-rest
returns-then-index-files-clause-rest c =
    rest-past_files entry_of c.as_slice-files.result.now _ c.args.index c.args.position
    (ap (map entry_of) c.as_slice-files.ensures.value ∙ c.self.view_is) c.if-index-files.true

pub returns-then-position-bytes-clause-rest : goal.returns-then-position-bytes-clause-rest
returns-then-position-bytes-clause-rest c =
    let seen = ap (map entry_of) c.as_slice-files.ensures.value ∙ c.self.view_is in
    sym (drop_of_length-le c.as_slice-bytes.result.now c.if-position-bytes.true)
    ∙ ap (drop c.args.position) c.as_slice-bytes.ensures.value
    ∙ ap (λ f. drop c.args.position f.bytes.items) (sym c.index-files-index.is)
    ∙ rest-at entry_of c.as_slice-files.result.now _ c.args.index c.args.position c.index-files-index.result
    seen c.if-index-files.false c.index-files-index.is

pub returns-clause-rest : goal.returns-clause-rest
returns-clause-rest c =
    let bytes = c.as_slice-bytes.result.now in
    let rest : length (drop c.args.position bytes) ≤ length bytes - c.args.position =
    omega (arith, length-drop c.args.position bytes) in
    let seen = ap (map entry_of) c.as_slice-files.ensures.value ∙ c.self.view_is in
    take_all _ (drop c.args.position bytes) rest
    ∙ ap (drop c.args.position) c.as_slice-bytes.ensures.value
    ∙ ap (λ f. drop c.args.position f.bytes.items) (sym c.index-files-index.is)
    ∙ rest-at entry_of c.as_slice-files.result.now _ c.args.index c.args.position c.index-files-index.result
    seen c.if-index-files.false c.index-files-index.is
