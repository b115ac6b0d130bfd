-- The sort leaves the one list of the members that rises.
use Rattle.std.proofs.Common.{◌≡◌, rules}
use Rattle.std.specs.Ordering.{is_lt}
use Rattle.std.proofs.lemmas.Fn.{always_returns_same}
use Rattle.documents.specs.Tests.{comes_before}
use Rattle.js_doc.specs.declared.parts.PartMember.{PartMember}
use Rattle.js_rounds.proofs.InOrder.{names_ranked, sort_rises, sort_same}
use Rattle.js_rounds.proofs.names.in_order.Goals as goal

pub returns-clause-sorted : goal.returns-clause-sorted
returns-clause-sorted c =
    sort_same (λ (m : PartMember). m.name) (λ m. m.part.0) c.args.members.items c.sort_unstable_by.new.self.items
    c.sort_unstable_by.ensures.permutation
    (c.sort_unstable_by.ensures.sorted (λ x y. comes_before x.name y.name) (names_ranked (λ (m : PartMember). m.name))
    (always_returns_same _ (λ a r. is_lt r ≡ comes_before a.0.now.name a.1.0.now.name) _ (λ a r f h. search (
      rules,
      h,
    ))))
    c.requires

pub returns-clause-rising : goal.returns-clause-rising
returns-clause-rising c =
    sort_rises (λ (m : PartMember). m.name) (λ m. m.part.0) c.args.members.items c.sort_unstable_by.new.self.items
    c.sort_unstable_by.ensures.permutation
    (c.sort_unstable_by.ensures.sorted (λ x y. comes_before x.name y.name) (names_ranked (λ (m : PartMember). m.name))
    (always_returns_same _ (λ a r. is_lt r ≡ comes_before a.0.now.name a.1.0.now.name) _ (λ a r f h. search (
      rules,
      h,
    ))))
    c.requires
