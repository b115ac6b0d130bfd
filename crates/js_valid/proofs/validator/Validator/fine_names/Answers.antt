use Rattle.std.proofs.Common.{◌≡◌, ℕ, ◌<◌, ◌||◌, ◌&&◌, Bool, true, not, length, get_or, refl, ap, ◌∙◌, arith}
use Rattle.documents.specs.Document.{string}
use Rattle.documents.specs.Tests.{every}
use Rattle.draft06.specs.EntryValidity.{form_at}
use Rattle.js_doc.specs.PartMembers.{member_view}
use Rattle.js_valid.specs.Parts.{asked_by, flag, of_name}
use Rattle.js_valid.specs.Plan.{table_of, valid_at}
use Rattle.js_valid.specs.Requests.{entries_in, owners_in}
use Rattle.js_valid.proofs.DecideLaws.{all-first, end_every, step_every}
use Rattle.js_valid.proofs.KeptLaws.{left-still, where-left}
use Rattle.js_valid.proofs.PartMemberLaws.{name_met}
use Rattle.js_valid.proofs.RequestLaws.{every-got}
use Rattle.js_valid.proofs.validator.Validator.fine_names.Goals as goal

pub of_name-requires : goal.of_name-requires
of_name-requires c =
    let all = c.in_ok-owners.ensures in
    let owners = c.deref.ensures.value in
    every-got (length (table_of c.args.self.now)) c.deref.result.now (λ i l.
    let less : i < length c.in_ok-owners.owners.items = omega (arith, l, ap length owners) in
    let same = ap (λ xs. get_or xs i 0) owners ∙ all.1 i (omega (arith, less, all.0)) in
    omega (arith, less, all.0, same, c.len-2.ensures.value))

pub loop-member-init : goal.loop-member-init
loop-member-init c =
    let owners = c.deref.ensures.value in
    let all = c.in_ok-owners.ensures in
    record {
      fine = λ e l. all-first _ _ (c.in_ok-fine.ensures.all e (omega (arith, c.len.ensures.value, l)));
      names = λ e p l f.
          let there : e < length c.deref.result.now = omega
          (arith, l, ap length owners, all.0, c.len-2.ensures.value) in
          let itself = ap (λ xs. get_or xs e 0) owners ∙ all.1 e (omega (arith, l, c.len-2.ensures.value)) in
          c.in_ok-requests.ensures e p there
          ∙ ap (λ o. every p (of_name (form_at (table_of c.args.self.now) o))) itself;
    }

pub loop-member-preserved : goal.loop-member-preserved
loop-member-preserved c =
    let es = table_of c.args.self.now in
    let fine = c.loop-member.fine.items in
    let names : (e : ℕ) (p : ℕ → Bool) → e < length es → flag fine e ≡ true
    → asked_by e p (owners_in c.keep_requests.new.requests.items) (entries_in c.keep_requests.new.requests.items)
    ≡ every p (of_name (form_at es e)) =
    λ e p l f.
    c.keep_requests.ensures e p
    ∙ ap (λ b. not b || asked_by e p (owners_in c.loop-member.requests.items) (entries_in c.loop-member.requests.items))
    (ap (λ bs. flag bs e) c.deref-in-loop-member.ensures.value ∙ f)
    ∙ c.loop-member.invariant.names e p l f in
    record {
      fine = λ e l.
          step_every member_view (name_met es (form_at es e)) c.as_slice-members.result.now c.loop-member.member-index
          c.member-item.result (flag fine e) (flag c.decide_name.new.fine.items e) _
          c.loop-member-test.true c.member-item.is
          (c.in_ok-decide_name.ensures refl e
          ∙ ap (λ rs. flag fine e && asked_by e (λ q. valid_at es q (string c.member-item.result.name)) (owners_in rs)
          (entries_in rs)) c.deref-in-loop-member-2.ensures.value
          ∙ where-left (flag fine e) _ _ (names e (λ q. valid_at es q (string c.member-item.result.name)) l))
          (c.loop-member.invariant.fine e l);
      names = λ e p l f. names e p l (left-still (flag fine e) _ _ (c.in_ok-decide_name.ensures refl e) f);
    }

pub returns : goal.returns
returns c e l =
    let es = table_of c.args.self.now in
    end_every member_view (name_met es (form_at es e)) c.as_slice-members.result.now c.loop-member.member-index
    (flag c.loop-member.fine.items e) _ (omega (arith, c.loop-member-test.false)) (c.loop-member.invariant.fine e l)
    ∙ ap (every (name_met es (form_at es e))) c.as_slice-members.ensures.list
