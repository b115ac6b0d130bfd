use Rattle.std.proofs.Common.{ℕ, Bool, ◌||◌, refl, ap, ◌∙◌, rules, tests}
use Rattle.std.specs.List.{list_any}
use Rattle.std.proofs.lemmas.Iterator.{YieldsList-from_slice}
use Rattle.std.proofs.lemmas.Iterator.Search.{any_from_yields_List}
use Rattle.std.proofs.lemmas.List.Recursion.{same_from_clauses}
use Rattle.patterns.specs.CharSet.{has, is_within}
use Rattle.js_pattern.proofs.char_set.CharSet.contains.Goals as goal

pub returns : goal.returns
returns c =
    let test : ℕ × ℕ → Bool = λ r. is_within r c.args.c in
    any_from_yields_List test _ _ c.any.result c.any.ensures.ran (YieldsList-from_slice _ c.iter.ensures.rest)
    (λ x b q k. search (rules, tests))
    ∙ same_from_clauses (list_any test) (λ rs. has rs c.args.c) (λ r b. test r || b) refl (λ _ _. refl) (λ _ _. refl)
    c.deref.result.now
    ∙ ap (λ rs. has rs c.args.c) (c.deref.ensures.value ∙ c.self.view_is)
