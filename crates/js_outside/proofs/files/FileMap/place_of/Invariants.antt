use Rattle.std.proofs.Common.{◌≡◌, ◌+◌, drop, map}
use Rattle.js_outside.specs.Contents.{place_of}
use Rattle.js_outside.specs.NamedFiles.{entry_of}
use Rattle.js_outside.proofs.files.FileMap.place_of.Given as goal

abbrev pub invariant-loop-index : goal.invariant-loop-index
invariant-loop-index l =
    place_of (map entry_of l.files) l.name ≡ l.index + place_of (map entry_of (drop l.index l.files)) l.name
