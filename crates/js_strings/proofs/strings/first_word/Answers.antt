use Rattle.std.proofs.Common.{◌≡◌, reverse, map, Ok, Some, option_map, ap, sym, ◌∙◌}
use Rattle.finders.specs.Strings.{strings_of}
use Rattle.finder_laws.proofs.Strings.{found_word}
use Rattle.js_algebra.specs.View.{signed_view}
use Rattle.js_strings.proofs.LeafLaws.{ok_map}
use Rattle.js_strings.proofs.strings.first_word.Goals as goal

pub spell-requires : goal.spell-requires
spell-requires c =
    (found_word c.args.core.now.positions (map signed_view c.args.set.now) (reverse c.in-Ok-Some.letters.items)
    (c.in-Ok-Some.ensures.found ∙ ap (λ o. Ok (option_map (λ v. reverse v.items) o)) c.in-Ok-Some.field-0-is)).0

pub returns-in-Ok-Some : goal.returns-in-Ok-Some
returns-in-Ok-Some c =
    ok_map c.spell.result (λ s. s ≡ reverse c.in-Ok-Some.letters.items)
    (λ word. strings_of c.args.core.now.positions (map signed_view c.args.set.now) ≡ Ok (Some word))
    (λ s e. c.in-Ok-Some.ensures.found
    ∙ ap (λ o. Ok (option_map (λ v. reverse v.items) o)) c.in-Ok-Some.field-0-is ∙ ap (λ w. Ok (Some w)) (sym e))
    c.spell.ensures
