use Rattle.std.proofs.Common.{◌≡◌, drop, map}
use Rattle.js_outside.specs.Contents.{contents}
use Rattle.js_outside.specs.NamedFiles.{entry_of}
use Rattle.js_outside.proofs.files.FileMap.index_of.Given as goal

abbrev pub invariant-loop-index : goal.invariant-loop-index
invariant-loop-index l =
    contents (map entry_of (drop l.index l.files)) l.name ≡ contents (map entry_of l.files) l.name
