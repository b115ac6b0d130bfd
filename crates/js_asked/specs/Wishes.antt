-- Required truths: each of an atom, true or false.
use Rattle.std.specs.Prelude.{ℕ, List, length, get_or, Bool, nat_lt}
use Rattle.std.specs.Bool.{beq}
use Rattle.documents.specs.Tests.{every}
use Rattle.word_states.specs.Atom as W
use Rattle.word_states.specs.Atom.{is_true}
use Rattle.js_nfa.specs.declared.atom.Atom.{Atom}
use Rattle.js_asked.specs.declared.wish.Wish.{Wish}

-- each names an atom
abbrev pub are_within : List Atom → List Wish → Bool
are_within atoms wishes = every (λ x. nat_lt x.atom (length atoms)) wishes

abbrev pub is_met : List W.Atom → List ℕ → Wish → Bool
is_met atoms w x = beq (is_true (get_or atoms x.atom (W.LengthMin 0)) w) x.truth

abbrev pub are_met : List W.Atom → List Wish → List ℕ → Bool
are_met atoms wishes w = every (is_met atoms w) wishes
