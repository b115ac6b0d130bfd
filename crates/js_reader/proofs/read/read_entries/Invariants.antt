use Rattle.std.proofs.Common.{◌≡◌, true, map, take}
use Rattle.schemas.specs.Entries.{entries_at}
use Rattle.js_keywords.specs.Reading.{rules}
use Rattle.js_walk.specs.FileView.{root_of}
use Rattle.js_reader.specs.NumbersView.{numbered, pointers_in}
use Rattle.js_schema.specs.View.{are_placed, entry_view}
use Rattle.js_reader.proofs.read.read_entries.Given as goal

abbrev pub invariant-loop-i : goal.invariant-loop-i
invariant-loop-i l = record {
  placed : are_placed (pointers_in l.fn.numbers) l.entries.items ≡ true;
  made : map (entry_view (pointers_in l.fn.numbers)) l.entries.items
      ≡ take l.i (entries_at rules (root_of l.fn.file) (numbered l.fn.numbers));
}
