use Rattle.std.proofs.Common.{◌≡◌, ◌<◌, ◌++◌, ◌∷◌, [], length, take, sym, subst, ap, ◌∙◌, arith}
use Rattle.std.specs.List.{position_or_len}
use Rattle.indexmap.specs.IndexSet.{insert_key}
use Rattle.js_pointers.specs.Numbered.{same_step, IsNumbered}
use Rattle.js_pointers.specs.PlacesView.{found}
use Rattle.std.proofs.lemmas.List.{length_push}
use Rattle.std.proofs.Math.Seq.{take-append_seam}
use Rattle.js_pointers.proofs.SameStepLemmas.{pair}
use Rattle.js_pointers.proofs.NumberedLemmas.{index-there, index-new, within-there, keys-there, keys-new, numbered-same, numbered-more}
use Rattle.js_pointers.proofs.steps.Steps.add.Goals as goal

pub returns-in-Some-clause-keys : goal.returns-in-Some-clause-keys
returns-in-Some-clause-keys c =
    let s = c.self.inside in
    subst (λ ss. ss ≡ insert_key same_step ss (c.args.of, c.args.token)) c.self.view_is
    (keys-there s.steps.items (found s.places) c.self.invariant.1 c.args.of c.args.token c.in-Some.number
    (sym c.in-Some.ensures))

pub returns-in-Some-clause-index : goal.returns-in-Some-clause-index
returns-in-Some-clause-index c =
    let s = c.self.inside in
    index-there s.steps.items (found s.places) c.self.invariant.1 c.args.of c.args.token c.in-Some.number
    (sym c.in-Some.ensures)
    ∙ ap (position_or_len (same_step (c.args.of, c.args.token))) c.self.view_is

pub returns-in-Some-clause-within : goal.returns-in-Some-clause-within
returns-in-Some-clause-within c =
    let s = c.self.inside in
    let less =
    within-there s.steps.items (found s.places) c.self.invariant.1 c.args.of c.args.token c.in-Some.number
    (sym c.in-Some.ensures) in
    let same = ap length c.self.view_is in
    omega (arith, less, same)

pub invariant_of-self-in-Err : goal.invariant_of-self-in-Err
invariant_of-self-in-Err c =
    let s = c.self.inside in
    let size : c.len-number.result ≡ length s.steps.items = omega (arith, c.len-number.ensures) in
    let back : c.truncate.new.self.items ≡ s.steps.items =
    c.truncate.ensures.items ∙ ap (take c.len-number.result) c.in_ok-push.ensures.items
    ∙ ap (λ n. take n (s.steps.items ++ (c.args.of, c.args.token) ∷ [])) size
    ∙ take-append_seam s.steps.items _ in
    let same = ap length back in
    let few = c.self.invariant.0 in (
      omega (arith, same, few),
      subst (λ ss. IsNumbered ss (found c.note.new.self)) (sym back)
          (numbered-same s.steps.items (found s.places) c.self.invariant.1 (found c.note.new.self)
          c.in-Err.ensures.err),
    )

pub invariant_of-self-in_default-note : goal.invariant_of-self-in_default-note
invariant_of-self-in_default-note c =
    let s = c.self.inside in
    let size : c.len-number.result ≡ length s.steps.items = omega (arith, c.len-number.ensures) in
    let same = ap length c.in_ok-push.ensures.items in
    let long = length_push s.steps.items (pair c.args.of c.args.token) in
    let few : c.len-number.result < 4294967294 = omega (arith, c.if-number-ge-MOST.false) in (
      omega (arith, same, long, size, few),
      subst (λ ss. IsNumbered ss (found c.note.new.self)) (sym c.in_ok-push.ensures.items)
          (numbered-more s.steps.items (found s.places) c.self.invariant.1 c.args.of c.args.token c.len-number.result
          (found c.note.new.self) (sym c.in_default.ensures) size c.in_default-note.ensures.noted),
    )

pub returns-clause-keys : goal.returns-clause-keys
returns-clause-keys c =
    let s = c.self.inside in
    c.in_ok-push.ensures.items
    ∙ subst (λ ss. s.steps.items ++ (c.args.of, c.args.token) ∷ [] ≡ insert_key same_step ss (c.args.of, c.args.token))
    c.self.view_is
    (keys-new s.steps.items (found s.places) c.self.invariant.1 c.args.of c.args.token
    (sym c.in_default.ensures))

pub returns-clause-index : goal.returns-clause-index
returns-clause-index c =
    let s = c.self.inside in
    let size : c.len-number.result ≡ length s.steps.items = omega (arith, c.len-number.ensures) in
    size ∙ index-new s.steps.items (found s.places) c.self.invariant.1 c.args.of c.args.token (sym c.in_default.ensures)
    ∙ ap (position_or_len (same_step (c.args.of, c.args.token))) c.self.view_is
