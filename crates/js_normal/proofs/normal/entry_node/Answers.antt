use Rattle.std.proofs.Common.{sym, ap, ◌∙◌}
use Rattle.schemas.specs.Entry.{Asks}
use Rattle.positions.specs.Position.{All}
use Rattle.normal_forms.specs.NormalForm.{form_nodes}
use Rattle.js_algebra.specs.View.{places}
use Rattle.js_schema.specs.View.{form_view, keywords_view}
use Rattle.js_normal.specs.PatternTrees.{tree_of}
use Rattle.js_normal.proofs.TableRuns.{asked-named, asked-nodes, needs-nothing}
use Rattle.js_normal.proofs.normal.entry_node.Goals as goal

pub returns-in_ok-keyword_nodes-in-Keywords-clause-entry : goal.returns-in_ok-keyword_nodes-in-Keywords-clause-entry
returns-in_ok-keyword_nodes-in-Keywords-clause-entry c =
    ap (λ ps. All (places ps)) c.from_vec.ensures
    ∙ asked-named (form_view c.args.form.now) (keywords_view c.deref.result.now) c.args.sink.now
    c.keyword_nodes.new.sink (places c.take_named.result.items)
    (ap form_view c.in-Keywords.is ∙ ap (λ k. Asks (keywords_view k)) (sym c.deref.ensures))
    c.requires.named c.in_ok-keyword_nodes-in-Keywords.ensures c.take_named.ensures.named

pub returns-in_ok-keyword_nodes-in-Keywords-clause-nodes : goal.returns-in_ok-keyword_nodes-in-Keywords-clause-nodes
returns-in_ok-keyword_nodes-in-Keywords-clause-nodes c =
    asked-nodes (form_view c.args.form.now) (keywords_view c.deref.result.now) c.args.sink.now
    c.keyword_nodes.new.sink c.take_named.new.self
    (ap form_view c.in-Keywords.is ∙ ap (λ k. Asks (keywords_view k)) (sym c.deref.ensures))
    c.in_ok-keyword_nodes-in-Keywords.ensures c.take_named.ensures.rest

pub returns-in-Always-clause-nodes : goal.returns-in-Always-clause-nodes
returns-in-Always-clause-nodes c =
    needs-nothing (form_view c.args.form.now) c.args.sink.now
    (ap (λ f. form_nodes tree_of (form_view f)) c.in-Always.is) c.requires.named

pub returns-in-Never-clause-nodes : goal.returns-in-Never-clause-nodes
returns-in-Never-clause-nodes c =
    needs-nothing (form_view c.args.form.now) c.args.sink.now
    (ap (λ f. form_nodes tree_of (form_view f)) c.in-Never.is) c.requires.named

pub returns-in-Ref-clause-nodes : goal.returns-in-Ref-clause-nodes
returns-in-Ref-clause-nodes c =
    needs-nothing (form_view c.args.form.now) c.args.sink.now
    (ap (λ f. form_nodes tree_of (form_view f)) c.in-Ref.is) c.requires.named
