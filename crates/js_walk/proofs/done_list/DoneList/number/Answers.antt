use Rattle.std.proofs.Common.{◌≡◌, ◌<◌, ℕ, length, get_or, nat_eq, position, List, ap, sym, ◌∙◌, arith}
use Rattle.std.proofs.lemmas.Grind.{get_or_default_zero}
use Rattle.std.specs.Map.{keys_of}
use Rattle.js_walk.proofs.DoneLemmas.{length-keys, key-at, noted-there, noted-beyond, noted-other, noted-nowhere}
use Rattle.js_walk.proofs.done_list.DoneList.number.Goals as goal

-- what was read of the list of places
read : (places : List ℕ) (p k : ℕ) → k ≡ get_or places p k → p < length places → k ≡ get_or places p 0
read places p k e less = e ∙ get_or_default_zero places p k less

pub returns-then-index-len : goal.returns-then-index-len
returns-then-index-len c =
    sym (noted-nowhere (keys_of c.self.inside.entries.items) c.self.inside.noted.items c.self.invariant c.args.pointer
    (omega (arith, c.len.ensures, c.if-index-len.true)))
    ∙ ap (λ es. position (nat_eq c.args.pointer) (keys_of es)) c.self.view_is

pub returns-then-place-len : goal.returns-then-place-len
returns-then-place-len c =
    let es = c.self.inside.entries.items in
    let k =
    read c.self.inside.noted.items c.args.pointer c.index.result.now c.index.ensures
    (omega (arith, c.len.ensures, c.if-index-len.false)) in
    let size = length-keys es in
    sym (noted-beyond (keys_of es) c.self.inside.noted.items c.self.invariant c.args.pointer c.index.result.now k
    (omega (arith, size, c.len-2.ensures, c.if-place-len.true)))
    ∙ ap (λ es. position (nat_eq c.args.pointer) (keys_of es)) c.self.view_is

pub returns-then-index-pointer : goal.returns-then-index-pointer
returns-then-index-pointer c =
    let es = c.self.inside.entries.items in
    let k =
    read c.self.inside.noted.items c.args.pointer c.index.result.now c.index.ensures
    (omega (arith, c.len.ensures, c.if-index-len.false)) in
    let l : c.index.result.now < length es = omega (arith, c.len-2.ensures, c.if-place-len.false) in
    sym (noted-other (keys_of es) c.self.inside.noted.items c.self.invariant c.args.pointer c.index.result.now k
    (λ q. c.if-index-pointer.true
    (ap (λ e. e.0) c.index-2.ensures ∙ sym (key-at es c.index.result.now c.index-2.result.now l) ∙ q)))
    ∙ ap (λ es. position (nat_eq c.args.pointer) (keys_of es)) c.self.view_is

pub returns : goal.returns
returns c =
    let es = c.self.inside.entries.items in
    let k =
    read c.self.inside.noted.items c.args.pointer c.index.result.now c.index.ensures
    (omega (arith, c.len.ensures, c.if-index-len.false)) in
    let l : c.index.result.now < length es = omega (arith, c.len-2.ensures, c.if-place-len.false) in
    let size = length-keys es in
    sym (noted-there (keys_of es) c.self.inside.noted.items c.self.invariant c.args.pointer c.index.result.now k
    (omega (arith, size, l))
    (key-at es c.index.result.now c.index-2.result.now l ∙ sym (ap (λ e. e.0) c.index-2.ensures)
    ∙ c.if-index-pointer.false))
    ∙ ap (λ es. position (nat_eq c.args.pointer) (keys_of es)) c.self.view_is
