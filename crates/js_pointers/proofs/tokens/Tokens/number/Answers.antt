use Rattle.std.proofs.Common.{ℕ, chars, subst, sym, ◌∙◌, arith}
use Rattle.std.specs.Prelude.{MatchOption}
use Rattle.std.proofs.lemmas.List.{length-map}
use Rattle.js_pointers.specs.Table.{IsWord}
use Rattle.js_pointers.specs.TokensView.{names_of}
use Rattle.js_pointers.proofs.WordLemmas.{word-index, no_word}
use Rattle.js_pointers.proofs.TableLemmas.{text, position-words, unnamed, named}
use Rattle.js_pointers.proofs.tokens.Tokens.number.Goals as goal

pub returns-in-Some : goal.returns-in-Some
returns-in-Some c =
    let low = c.in-Some.ensures.0 in
    (omega (arith, low), word-index (names_of c.args.self.now) c.in-Some.index low ∙ c.in-Some.ensures.1)

pub returns-in_err-place : goal.returns-in_err-place
returns-in_err-place c =
    let t = c.args.self.now in
    let names = names_of t in
    let word = chars c.args.text.now in
    subst (λ r. MatchOption r ((k : ℕ) → IsWord names k word → ⊥) (λ k. IsWord names k word))
    (sym c.from_residual.ensures)
    (no_word names word c.in_default.ensures (unnamed names word
    (sym (position-words c.args.text.now c.utf8.text t.names.items) ∙ sym (t.are_places c.args.text.now)
    ∙ sym c.in_err-place.ensures.value)))

pub overflow_add-result : goal.overflow_add-result
overflow_add-result c =
    let t = c.args.self.now in
    let found = sym (t.are_places c.args.text.now) ∙ sym c.in_ok-place.ensures.value in
    let known = (named (names_of t) (chars c.args.text.now) c.in_ok-place.place.now
    (sym (position-words c.args.text.now c.utf8.text t.names.items) ∙ found)).0 in
    let count = length-map t.names.items text in
    let few = t.few in
    omega (arith, known, count, few)

pub returns : goal.returns
returns c =
    let t = c.args.self.now in
    named (names_of t) (chars c.args.text.now) c.in_ok-place.place.now
    (sym (position-words c.args.text.now c.utf8.text t.names.items) ∙ sym (t.are_places c.args.text.now)
    ∙ sym c.in_ok-place.ensures.value)
