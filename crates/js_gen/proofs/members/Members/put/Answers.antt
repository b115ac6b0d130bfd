use Rattle.std.proofs.Common.{map, ap, ◌∙◌, subst}
use Rattle.js_doc.specs.JsonView.{view, member_view}
use Rattle.js_gen.specs.Places.{names, IsThere, IsFree}
use Rattle.js_gen.proofs.Places.{put_there, put_free, rises_there, rises_free}
use Rattle.js_gen.proofs.members.Members.put.Goals as goal

pub invariant_of-self : goal.invariant_of-self
invariant_of-self c =
    let there = subst (λ l. IsThere (names (map member_view l)) c.args.name c.in-Ok.i) c.as_slice.ensures.value
    c.in-Ok.ensures.there in
    record {
      rises = rises_there c.args.self.now.items.items c.in-Ok.i c.new.result c.args.name (view c.args.value)
          c.new.ensures there c.args.self.now.rises;
    }

pub invariant_of-self-in-Err : goal.invariant_of-self-in-Err
invariant_of-self-in-Err c =
    let free = subst (λ l. IsFree (names (map member_view l)) c.args.name c.in-Err.i) c.as_slice.ensures.value
    c.in-Err.ensures.free in
    record {
      rises = rises_free c.args.self.now.items.items c.in-Err.i c.new-in-Err.result c.args.name (view c.args.value)
          c.new-in-Err.ensures _ _ c.insert.ensures.items free c.args.self.now.rises;
    }

pub returns-in-Ok : goal.returns-in-Ok
returns-in-Ok c =
    let there = subst (λ l. IsThere (names (map member_view l)) c.args.name c.in-Ok.i) c.as_slice.ensures.value
    c.in-Ok.ensures.there in
    put_there c.args.self.now.items.items c.in-Ok.i c.new.result c.args.name (view c.args.value) c.new.ensures there

pub returns-in_ok-insert-in-Err : goal.returns-in_ok-insert-in-Err
returns-in_ok-insert-in-Err c =
    let free = subst (λ l. IsFree (names (map member_view l)) c.args.name c.in-Err.i) c.as_slice.ensures.value
    c.in-Err.ensures.free in
    ap (map member_view) c.in_ok-insert-in-Err.ensures.items
    ∙ put_free c.args.self.now.items.items c.in-Err.i c.new-in-Err.result c.args.name (view c.args.value)
    c.new-in-Err.ensures free
