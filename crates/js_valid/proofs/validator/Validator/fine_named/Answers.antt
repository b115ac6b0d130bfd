use Rattle.std.proofs.Common.{◌≡◌, ◌<◌, ◌&&◌, false, map, length, rules, ap, ◌∙◌, arith}
use Rattle.documents.specs.Tests.{every}
use Rattle.draft06.specs.EntryValidity.{form_at}
use Rattle.shared_documents.specs.Unshared.{unshared}
use Rattle.js_match.specs.Matching.{matches}
use Rattle.js_valid.specs.Parts.{flag}
use Rattle.js_valid.specs.Plan.{table_of, valid_at}
use Rattle.js_valid.specs.Requests.{parts_members}
use Rattle.js_valid.proofs.PartMemberLaws.{each-more, more-length, members-met, value_met}
use Rattle.js_valid.proofs.validator.Validator.fine_named.Goals as goal

pub loop-entry-preserved : goal.loop-entry-preserved
loop-entry-preserved c = record {
  len = more-length c.loop-entry.fine.items c.push.new.self.items c.in_ok-is_entry_fine.field-0 c.loop-entry.entry
      c.loop-entry.invariant.len (search rules);
  fine = λ ps known.
      let es = table_of c.args.self.now in
      let e = c.loop-entry.entry in
      let less : e < length es = omega (arith, c.len.ensures.value, c.len-entry-end.ensures.value) in
      each-more
      (λ e b. b ≡ parts_members matches (valid_at es) (form_at es e)
      (map (λ m. (m.0, unshared ps m.1)) c.args.named.now))
      c.loop-entry.fine.items c.push.new.self.items c.in_ok-is_entry_fine.field-0 false e
      c.loop-entry.invariant.len (search rules) (c.loop-entry.invariant.fine ps known)
      (c.in_ok-is_entry_fine.ensures ps known
      ∙ ap (λ a. a && every (value_met es ps (form_at es e)) c.args.named.now)
      (ap (λ bs. flag bs e) c.deref.ensures.value ∙ c.in_ok-names.ensures e less)
      ∙ members-met es ps (form_at es e) c.args.named.now);
}
