use Rattle.std.proofs.Common.{◌≡◌, [], ◌∷◌, ◌++◌, map, String, Global, sym, ap, ◌∙◌, append_assoc, subst, string_cmp}
use Rattle.std.specs.Map.{keys_of}
use Rattle.std.specs.List.Sorted.{IsStrictlySortedBy}
use Rattle.std.proofs.lemmas.List.{append-nil}
use Rattle.documents.specs.Document as D
use Rattle.documents.specs.Json.{members_of}
use Rattle.documents.specs.WellFormed.{names_rise}
use Rattle.js_doc.specs.declared.document.Doc.{Doc}
use Rattle.js_doc.specs.View.{member_view}
use Rattle.js_json.specs.Documents.{json_of_document, json_of_members}
use Rattle.js_json.specs.DocumentView.{as_json}
use Rattle.js_json.specs.Reading.{spelled_by}
use Rattle.js_json.proofs.DocumentsLemmas.{json_of_member, json_of_members-members_of, names_rise-json_of}
use Rattle.js_json.proofs.EntryNames.{made_more_by, names_rise-spelled}
use Rattle.js_json.proofs.doc_reader.members_from.Goals as goal

pub from_vec-requires : goal.from_vec-requires
from_vec-requires c =
    let done = c.loop-key.invariant.0 in
    let made = c.loop-key.made.items in
    let all : c.args.found.entries ≡ done =
    c.loop-key.invariant.1 ∙ ap (λ es. done ++ es) c.in-None.ensures.steps.0 ∙ append-nil done in
    sym (names_rise-json_of (D.members_of (map member_view made)))
    ∙ ap names_rise (json_of_members-members_of made)
    ∙ ap (λ l. names_rise (members_of l)) c.loop-key.invariant.2
    ∙ names_rise-spelled as_json done
    (subst (λ es. IsStrictlySortedBy string_cmp (keys_of es)) all c.len.ensures.ordered)

pub loop-key-preserved : goal.loop-key-preserved
loop-key-preserved c =
    let l = c.loop-key in
    let done = l.invariant.0 in
    let e : String Global × Doc = (c.in-Some.key, c.in-Some.member) in
    let left = c.next.new.self in
    let all : c.args.found.entries ≡ done ++ e ∷ left =
    l.invariant.1 ∙ ap (λ es. done ++ es) c.in-Some.ensures.steps in (
      done ++ e ∷ [],
      all ∙ sym (append_assoc done (e ∷ []) left),
      made_more_by as_json json_of_member _ _ done e c.new.result c.in_ok-push.ensures.items l.invariant.2
          (ap (λ p. (p.0, json_of_document p.1)) c.new.ensures
          ∙ ap (λ k. (k, as_json c.in-Some.member)) c.from_string.ensures),
    )

pub returns-clause-ok : goal.returns-clause-ok
returns-clause-ok c =
    let done = c.loop-key.invariant.0 in
    let made = c.loop-key.made.items in
    let all : c.args.found.entries ≡ done =
    c.loop-key.invariant.1 ∙ ap (λ es. done ++ es) c.in-None.ensures.steps.0 ∙ append-nil done in
    ap json_of_members c.from_vec.ensures ∙ json_of_members-members_of made
    ∙ ap members_of (c.loop-key.invariant.2 ∙ ap (map (spelled_by as_json)) (sym all))
