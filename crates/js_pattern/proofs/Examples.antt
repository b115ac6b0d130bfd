-- The grammar on worked examples.
use Rattle.std.proofs.Common.{◌≡◌, [], ◌∷◌, refl, codes, Some, None, Ok, Err}
use Rattle.patterns.specs.Tree.{empty, one_of, at_start, at_end, in_turn, either, repeated, trees_of}
use Rattle.js_pattern.specs.declared.fault.PatternFault.TheVariants.{Syntax, Unsupported, QuantifierOrder, RangeOrder, RepeatTooWide}
use Rattle.js_pattern.specs.declared.fault.PatternForm.TheVariants.{Lookaround, Surrogate}
use Rattle.js_pattern.specs.Grammar.{pattern}

nothing : pattern [] ≡ Ok empty
unfolding pattern
nothing = refl

letters : pattern (codes "ab") ≡ Ok (in_turn (trees_of (one_of ((97, 97) ∷ []) ∷ one_of ((98, 98) ∷ []) ∷ [])))
unfolding pattern
letters = refl

anchored : pattern (codes "^a+$")
    ≡ Ok (in_turn (trees_of (at_start ∷ repeated (one_of ((97, 97) ∷ [])) 1 None ∷ at_end ∷ [])))
unfolding pattern
anchored = refl

grouped : pattern (codes "(?:a|)b")
    ≡ Ok (in_turn (trees_of
    (either (trees_of (one_of ((97, 97) ∷ []) ∷ empty ∷ [])) ∷ one_of ((98, 98) ∷ []) ∷ [])))
unfolding pattern
grouped = refl

digits_twice : pattern (codes "\\d{3}-[^0-4]")
    ≡ Ok (in_turn (trees_of (repeated (one_of ((48, 57) ∷ [])) 3 (Some 3) ∷ one_of ((45, 45) ∷ [])
    ∷ one_of ((0, 47) ∷ (53, 0xd7ff) ∷ (0xe000, 0x10ffff) ∷ []) ∷ [])))
unfolding pattern
digits_twice = refl

order : pattern (codes "a{3,2}") ≡ Err (QuantifierOrder 1)
unfolding pattern
order = refl

wide : pattern (codes "a{16385}") ≡ Err (RepeatTooWide 1)
unfolding pattern
wide = refl

ahead : pattern (codes "(?=a)") ≡ Err (Unsupported 0 Lookaround)
unfolding pattern
ahead = refl

extra : pattern (codes "a)") ≡ Err (Syntax 1)
unfolding pattern
extra = refl

unclosed : pattern (codes "((a)") ≡ Err (Syntax 4)
unfolding pattern
unclosed = refl

range_after_escape : pattern (codes "[\\d-z-9]") ≡ Err (RangeOrder 4)
unfolding pattern
range_after_escape = refl

hyphens : pattern (codes "[--a]") ≡ Ok (one_of ((45, 97) ∷ []))
unfolding pattern
hyphens = refl

no_pair : pattern (codes "\\u{D83D}\\u{DE00}") ≡ Err (Unsupported 0 Surrogate)
unfolding pattern
no_pair = refl

pair : pattern (codes "\\uD83D\\uDE00") ≡ Ok (one_of ((0x1f600, 0x1f600) ∷ []))
unfolding pattern
pair = refl
