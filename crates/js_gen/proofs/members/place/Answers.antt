use Rattle.std.proofs.Common.{◌≡◌, ◌≤◌, [], map, length, get_or, true, arith, sym, ap, ◌∙◌, below_more}
use Rattle.std.proofs.Math.ListN.{length-map}
use Rattle.documents.specs.Tests.{comes_before}
use Rattle.js_doc.specs.JsonView.{member_view}
use Rattle.js_gen.specs.Places.{names}
use Rattle.js_gen.proofs.Places.{IsNamed, name_before, name_after, name_same}
use Rattle.js_gen.proofs.members.place.Goals as goal

pub returns-in-Equal-clause-there : goal.returns-in-Equal-clause-there
returns-in-Equal-clause-there c =
    let at : IsNamed c.args.members.now c.loop-i.i c.index-members-i.result c.as_text.result.now = record {
      within = omega arith;
      is = c.index-members-i.is;
      spelled = c.as_text.ensures.text ∙ c.name.ensures.view;
      utf8 = c.as_text.utf8;
    } in
    record {
      before = c.loop-i.invariant;
      within = rw (length-map, length-map) at.within;
      same = name_same _ _ _ _ at _ c.in-Equal.ensures ∙ c.as_text-in-loop-i.ensures.text;
    }

pub returns-in-Greater-clause-free : goal.returns-in-Greater-clause-free
returns-in-Greater-clause-free c =
    let at : IsNamed c.args.members.now c.loop-i.i c.index-members-i.result c.as_text.result.now = record {
      within = omega arith;
      is = c.index-members-i.is;
      spelled = c.as_text.ensures.text ∙ c.name.ensures.view;
      utf8 = c.as_text.utf8;
    } in
    let more : c.loop-i.i ≤ length c.args.members.now = omega arith in
    record {
      before = c.loop-i.invariant;
      within = rw (length-map, length-map) more;
      after = λ less. ap (λ w. comes_before w (get_or (names (map member_view c.args.members.now)) c.loop-i.i []))
          (sym c.as_text-in-loop-i.ensures.text)
          ∙ name_after _ _ _ _ at _ c.as_text-in-loop-i.utf8 c.in-Greater.ensures;
    }

pub loop-i-preserved : goal.loop-i-preserved
loop-i-preserved c =
    let at : IsNamed c.args.members.now c.loop-i.i c.index-members-i.result c.as_text.result.now = record {
      within = omega arith;
      is = c.index-members-i.is;
      spelled = c.as_text.ensures.text ∙ c.name.ensures.view;
      utf8 = c.as_text.utf8;
    } in
    let here : comes_before (get_or (names (map member_view c.args.members.now)) c.loop-i.i []) c.args.name.now ≡ true =
    ap (comes_before (get_or (names (map member_view c.args.members.now)) c.loop-i.i []))
    (sym c.as_text-in-loop-i.ensures.text) ∙ name_before _ _ _ _ at _ c.as_text-in-loop-i.utf8 c.in-Less.ensures in
    below_more _ _ c.loop-i.invariant here
