use Rattle.std.proofs.Common.{◌<◌, length, arith, rules}
use Rattle.js_doc.specs.JsonView.{member_view}
use Rattle.js_doc.proofs.Levels.{length-mapped, get_or-mapped, json_entries-of}
use Rattle.js_doc.proofs.json.JsonMap.at.Goals as goal

pub bounds-as_slice-i : goal.bounds-as_slice-i
bounds-as_slice-i c = omega (
  arith,
  length-mapped member_view _ _ (json_entries-of _ _ c.as_slice.ensures.view),
  c.requires,
)

pub offset_bounds-as_slice-i : goal.offset_bounds-as_slice-i
offset_bounds-as_slice-i c =
    let same = length-mapped member_view _ _ (json_entries-of _ _ c.as_slice.ensures.view) in
    let within : c.args.i < length c.as_slice.result.now = omega (arith, same, c.requires) in search rules

pub returns : goal.returns
returns c = get_or-mapped member_view _ _ c.args.i c.index-as_slice-i.result
    (json_entries-of _ _ c.as_slice.ensures.view) c.index-as_slice-i.is
