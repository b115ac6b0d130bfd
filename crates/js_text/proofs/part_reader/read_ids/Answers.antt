-- Each number that is found is the next of the list.
use Rattle.std.proofs.Common.{◌≡◌, Some, [], ◌∷◌, map, true, refl, sym, ap, ◌∙◌, subst, arith}
use Rattle.std.proofs.lemmas.Bool.{and_from}
use Rattle.std.proofs.lemmas.List.{map_push}
use Rattle.documents.specs.Tests.{every}
use Rattle.document_texts.specs.PartsRead.{is_named}
use Rattle.document_texts.specs.PartsText.{reference_text}
use Rattle.document_text_laws.proofs.PartLaws.{references, array_end}
use Rattle.js_doc.specs.PartMembers.{number_of}
use Rattle.js_text.proofs.ListReading.{Listing, listing-step, listing-stuck, listing-end}
use Rattle.js_text.proofs.part_reader.read_ids.Goals as goal
use Rattle.list_laws.proofs.Every.{every_joined}

pub returns-in_default-clause-reads : goal.returns-in_default-clause-reads
returns-in_default-clause-reads c xs rest good is =
    absurd (listing-stuck reference_text is_named 35 93 references array_end (λ e. omega (arith, e))
    (map number_of c.loop-left.found.items) c.args.text.now c.loop-left.left.now c.behind_comma.result.now
    c.loop-left.invariant.listing (sym c.ends_list.ensures ∙ c.loop-left-test.true) c.behind_comma.ensures.value
    c.in_default.ensures.reads xs rest good is)

pub loop-left-preserved : goal.loop-left-preserved
loop-left-preserved c =
    let done = map number_of c.loop-left.found.items in
    let all = sym (ap (map number_of) c.in_ok-push.ensures.items
    ∙ map_push number_of c.loop-left.found.items c.in-Some.id) in
    record {
      listing = subst (λ ds. Listing reference_text is_named 93 ds c.args.text.now c.in-Some.rest.now) all
          (listing-step reference_text is_named 35 93 references array_end (λ e. omega (arith, e)) done
          c.in-Some.id.0 c.args.text.now c.loop-left.left.now c.behind_comma.result.now c.in-Some.rest.now
          c.loop-left.invariant.listing (sym c.ends_list.ensures ∙ c.loop-left-test.true) c.behind_comma.ensures.value
          c.in-Some.ensures.reads);
      fine = subst (λ ds. every is_named ds ≡ true) all
          (every_joined is_named done (c.in-Some.id.0 ∷ []) c.loop-left.invariant.fine
          (and_from (is_named c.in-Some.id.0) true c.in-Some.ensures.takes.0 refl));
    }

pub returns-clause-reads : goal.returns-clause-reads
returns-clause-reads c xs rest good is =
    ap Some (c.from_vec.ensures
    ∙ listing-end reference_text is_named 35 93 references array_end (λ e. omega (arith, e))
    (map number_of c.loop-left.found.items) c.args.text.now c.loop-left.left.now
    c.loop-left.invariant.listing (sym c.ends_list.ensures ∙ c.loop-left-test.false) xs rest good is)
