-- The sort leaves the same values, in order.
use Rattle.std.proofs.Common.{◌≡◌, rules}
use Rattle.std.specs.Borrow.{Bor}
use Rattle.std.specs.Ordering.{is_lt}
use Rattle.std.proofs.lemmas.Fn.{always_returns_same}
use Rattle.std.proofs.lemmas.List.Sorted.{ranks_by}
use Rattle.js_doc.specs.declared.document.Doc.{Doc}
use Rattle.js_doc.specs.View.{view}
use Rattle.js_valid.specs.DocumentOrder.{document_cmp}
use Rattle.js_valid.proofs.ChoicesLaws.{one_of_permutation}
use Rattle.js_valid.proofs.DocumentOrderLaws.{document_total}
use Rattle.js_valid.proofs.choices.in_order.Goals as goal

pub returns-clause-sorted : goal.returns-clause-sorted
returns-clause-sorted c =
    c.sort_unstable_by.ensures.sorted (λ x y. is_lt (document_cmp (view x.now) (view y.now)))
    (ranks_by document_total (λ (r : Bor Doc). view r.now))
    (always_returns_same _ (λ a r. is_lt r ≡ is_lt (document_cmp (view a.0.now.now) (view a.1.0.now.now))) _
    (λ a r f h. search (rules, h)))

pub returns-clause-same : goal.returns-clause-same
returns-clause-same c J =
    one_of_permutation J c.args.values.items c.sort_unstable_by.new.self.items c.sort_unstable_by.ensures.permutation
