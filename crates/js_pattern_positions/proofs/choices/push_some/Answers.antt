use Rattle.std.proofs.Common.{◌≡◌, ◌+◌, ◌-◌, ◌*◌, ◌/◌, ◌%◌, ◌^◌, ◌<◌, ◌∙◌, ◌∷◌, [], ◌++◌, length, sym, ap, subst, arith, length-append, append_assoc}
use Rattle.std.proofs.lemmas.Nat.{shr_below, one_shl}
use Rattle.js_pattern_positions.specs.Bits.{flags_of}
use Rattle.js_pattern_positions.proofs.BitsLemmas.{length-flags_of}
use Rattle.js_pattern_positions.proofs.ChoicesLemmas.{flags_of-split}
use Rattle.js_pattern_positions.proofs.choices.push_some.Goals as goal

pub push_bits-requires-3-clause-room : goal.push_bits-requires-3-clause-room
push_bits-requires-3-clause-room c =
    let part = 64 - c.len.result % 64 in
    let longer : length c.push_bits-2.new.self.flags ≡ length c.args.reads.now.flags + part =
    ap length c.push_bits-2.ensures.flags ∙ length-append c.args.reads.now.flags _
    ∙ ap (λ k. length c.args.reads.now.flags + k) (length-flags_of _ part) in
    omega (arith, longer, c.push_bits-2.ensures.room, c.requires.room, c.if-count-part.false)

pub push_bits-requires-3-clause-word : goal.push_bits-requires-3-clause-word
push_bits-requires-3-clause-word c =
    let part = 64 - c.len.result % 64 in
    let longer : length c.push_bits-2.new.self.flags ≡ length c.args.reads.now.flags + part =
    ap length c.push_bits-2.ensures.flags ∙ length-append c.args.reads.now.flags _
    ∙ ap (λ k. length c.args.reads.now.flags + k) (length-flags_of _ part) in
    omega (arith, longer, c.len.ensures, c.requires.few)

pub push_bits-requires-3-clause-small : goal.push_bits-requires-3-clause-small
push_bits-requires-3-clause-small c =
    let part = 64 - c.len.result % 64 in
    let all : c.args.count ≡ c.args.count - part + part = omega (arith, c.if-count-part.false) in
    shr_below c.args.bits (c.args.count - part) part (subst (λ k. c.args.bits < 2 ^ k) all c.requires.small)

pub returns-clause-flags : goal.returns-clause-flags
returns-clause-flags c =
    let part = 64 - c.len.result % 64 in
    let flags = c.args.reads.now.flags in
    let all : part + (c.args.count - part) ≡ c.args.count = omega (arith, c.if-count-part.false) in
    let divisor : 1 * 2 ^ part % 2 ^ 64 ≡ 2 ^ part =
    one_shl part 64 (omega (arith, c.if-count-part.false, c.requires.few)) in
    c.push_bits-3.ensures.flags
    ∙ ap (λ z. z ++ flags_of ((c.args.bits / 2 ^ part) ∷ []) (c.args.count - part))
    (c.push_bits-2.ensures.flags ∙ ap (λ d. flags ++ flags_of ((c.args.bits % d) ∷ []) part) divisor)
    ∙ append_assoc flags (flags_of ((c.args.bits % 2 ^ part) ∷ []) part)
    (flags_of ((c.args.bits / 2 ^ part) ∷ []) (c.args.count - part))
    ∙ ap (λ z. flags ++ z)
    (sym (flags_of-split c.args.bits part (c.args.count - part) (omega (arith, all, c.requires.few)))
    ∙ ap (flags_of (c.args.bits ∷ [])) all)
