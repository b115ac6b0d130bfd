-- Nothing is known.
use Rattle.std.proofs.Common.{◌≡◌, ℕ, Option, Some, None, replicate, length, get_or, is_some, cond, refl, ap, sym, ◌∙◌, rules}
use Rattle.std.proofs.lemmas.List.{length-replicate}
use Rattle.js_rounds.specs.State.{answered}
use Rattle.js_rounds.proofs.Answered.{none_answered, none_known}
use Rattle.js_rounds.proofs.rounds.Rounds.new.Goals as goal

only : (R : Option (ℕ × ℕ) → Type 0) → ((a : ℕ × ℕ) → R (Some a) → ⊥) → (y : Option (ℕ × ℕ)) → R y → y ≡ None
only R h None e = refl
only R h (Some a) e = absurd (h a e)

pub returns-clause-new : goal.returns-clause-new
returns-clause-new c =
    let all : c.in_ok-vec.field-0.items ≡ replicate c.len-goals.result None =
    c.in_ok-vec.ensures.items_if_clones_equal (only _ (λ a e. e)) in
    record {
      roomy = record {
        known = ap length all ∙ length-replicate c.len-goals.result None ∙ c.len-goals.ensures;
        order = search rules;
        count = sym (ap answered all ∙ none_answered c.len-goals.result);
        noted = λ g. sym (ap (λ os. cond (is_some (get_or os g None)) 1 0) all
            ∙ ap (λ o. cond (is_some o) 1 0) (none_known c.len-goals.result g));
      };
      none = λ g. ap (λ os. get_or os g None) all ∙ none_known c.len-goals.result g;
      count = refl;
      last = refl;
      has_run = refl;
    }
