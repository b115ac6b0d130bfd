-- Each member that is found is the next of the list.
use Rattle.std.proofs.Common.{◌≡◌, ℕ, List, Bor, option_map, Some, [], ◌∷◌, map, true, refl, sym, ap, ◌∙◌, subst, arith}
use Rattle.std.proofs.lemmas.Bool.{and_from}
use Rattle.std.proofs.lemmas.List.{map_push}
use Rattle.documents.specs.Tests.{every}
use Rattle.document_texts.specs.PartsRead.{is_member}
use Rattle.document_texts.specs.PartsText.{named_text}
use Rattle.document_text_laws.proofs.PartLaws.{members, object_end}
use Rattle.js_doc.specs.declared.parts.PartMember.{PartMember}
use Rattle.js_doc.specs.PartMembers.{member_view}
use Rattle.js_text.specs.Reads.{Reads, Takes}
use Rattle.js_text.proofs.ListReading.{Listing, listing-step, listing-stuck, listing-end}
use Rattle.js_text.proofs.part_reader.read_members.Goals as goal
use Rattle.list_laws.proofs.Every.{every_joined}

abbrev members_left : PartMember × Bor (List ℕ) → (List ℕ × ℕ) × List ℕ
members_left p = (member_view p.0, p.1.now)

pub returns-in-None-clause-reads : goal.returns-in-None-clause-reads
returns-in-None-clause-reads c xs rest good is =
    absurd (listing-stuck named_text is_member 34 125 members object_end (λ e. omega (arith, e))
    (map member_view c.loop-left.found.items) c.args.text.now c.loop-left.left.now c.behind_comma.result.now
    c.loop-left.invariant.listing (sym c.ends_list.ensures ∙ c.loop-left-test.true) c.behind_comma.ensures.value
    (subst (λ r. Reads named_text is_member c.behind_comma.result.now (option_map members_left r)) c.in-None.is
    c.in_ok-member.ensures.reads) xs rest good is)

pub loop-left-preserved : goal.loop-left-preserved
loop-left-preserved c =
    let done = map member_view c.loop-left.found.items in
    let all = sym (ap (map member_view) c.in_ok-push-in-Some.ensures.items
    ∙ map_push member_view c.loop-left.found.items c.in-Some.member) in
    let takes = subst (λ r. Takes is_member c.behind_comma.result.now (option_map members_left r)) c.in-Some.is
    c.in_ok-member.ensures.takes in
    record {
      listing = subst (λ ds. Listing named_text is_member 125 ds c.args.text.now c.in-Some.rest.now) all
          (listing-step named_text is_member 34 125 members object_end (λ e. omega (arith, e)) done
          (member_view c.in-Some.member) c.args.text.now
          c.loop-left.left.now c.behind_comma.result.now c.in-Some.rest.now
          c.loop-left.invariant.listing (sym c.ends_list.ensures ∙ c.loop-left-test.true) c.behind_comma.ensures.value
          (subst (λ r. Reads named_text is_member c.behind_comma.result.now (option_map members_left r)) c.in-Some.is
          c.in_ok-member.ensures.reads));
      fine = subst (λ ds. every is_member ds ≡ true) all
          (every_joined is_member done ((member_view c.in-Some.member) ∷ []) c.loop-left.invariant.fine
          (and_from (is_member (member_view c.in-Some.member)) true takes.0 refl));
    }

pub returns-clause-reads : goal.returns-clause-reads
returns-clause-reads c xs rest good is =
    ap Some (listing-end named_text is_member 34 125 members object_end (λ e. omega (arith, e))
    (map member_view c.loop-left.found.items) c.args.text.now c.loop-left.left.now
    c.loop-left.invariant.listing (sym c.ends_list.ensures ∙ c.loop-left-test.false) xs rest good is)
