-- Worked examples of words, each computed from the definition. Plain words are proved for every name.
use Rattle.std.proofs.Common.{◌≡◌, [], ◌∷◌, Some, None, chars, codes, refl}
use Rattle.clap.specs.Words.{Text}
use Rattle.clap.proofs.OnLiterals.{clap_on_literals}
use Rattle.families.specs.Families.{Chain}
use Rattle.js_words.specs.Commands.{Gen, Include, Norm, text_command}

-- the option may come before the names and between them
option_first : text_command (codes "include" ∷ codes "--workers" ∷ codes "2" ∷ codes "a" ∷ codes "b" ∷ [])
    ≡ Some (Include (codes "a") (codes "b") 2)
unfolding text_command clap_on_literals
option_first = refl

option_between : text_command (codes "include" ∷ codes "a" ∷ codes "--workers=64" ∷ codes "b" ∷ [])
    ≡ Some (Include (codes "a") (codes "b") 64)
unfolding text_command clap_on_literals
option_between = refl

-- after `--` each word is a name, however it begins
after_dashes : (a b : Text) → text_command (codes "include" ∷ codes "--" ∷ a ∷ b ∷ [])
    ≡ Some (Include (chars a) (chars b) 1)
unfolding text_command clap_on_literals
after_dashes a b = refl

-- a dash alone is a name, and so is the empty word
dash_and_nothing : text_command (codes "include" ∷ codes "-" ∷ [] ∷ []) ≡ Some (Include (codes "-") [] 1)
unfolding text_command clap_on_literals
dash_and_nothing = refl

-- a subcommand's word is a name too
a_word_as_name : text_command (codes "norm" ∷ codes "norm" ∷ []) ≡ Some (Norm (codes "norm"))
unfolding text_command clap_on_literals
a_word_as_name = refl

generated : text_command (codes "gen" ∷ codes "chain" ∷ codes "1000" ∷ []) ≡ Some (Gen Chain 1000 1)
unfolding text_command clap_on_literals
generated = refl

-- ---- no commands

no_words : text_command [] ≡ None
unfolding text_command clap_on_literals
no_words = refl

other_word : text_command (codes "frob" ∷ []) ≡ None
unfolding text_command clap_on_literals
other_word = refl

help_word : text_command (codes "help" ∷ []) ≡ None
unfolding text_command clap_on_literals
help_word = refl

help_option : text_command (codes "norm" ∷ codes "a" ∷ codes "--help" ∷ []) ≡ None
unfolding text_command clap_on_literals
help_option = refl

a_name_too_few : text_command (codes "include" ∷ codes "a" ∷ []) ≡ None
unfolding text_command clap_on_literals
a_name_too_few = refl

a_name_too_many : text_command (codes "include" ∷ codes "a" ∷ codes "b" ∷ codes "c" ∷ []) ≡ None
unfolding text_command clap_on_literals
a_name_too_many = refl

unknown_option : text_command (codes "sat" ∷ codes "-a" ∷ []) ≡ None
unfolding text_command clap_on_literals
unknown_option = refl

option_of_another : text_command (codes "valid" ∷ codes "a" ∷ codes "d" ∷ codes "--workers" ∷ codes "1" ∷ []) ≡ None
unfolding text_command clap_on_literals
option_of_another = refl

option_twice : text_command (codes "sat" ∷ codes "a" ∷ codes "--workers=1" ∷ codes "--workers=1" ∷ []) ≡ None
unfolding text_command clap_on_literals
option_twice = refl

no_workers : text_command (codes "sat" ∷ codes "a" ∷ codes "--workers=0" ∷ []) ≡ None
unfolding text_command clap_on_literals
no_workers = refl

too_many_workers : text_command (codes "sat" ∷ codes "a" ∷ codes "--workers=65" ∷ []) ≡ None
unfolding text_command clap_on_literals
too_many_workers = refl

leading_zero : text_command (codes "sat" ∷ codes "a" ∷ codes "--workers=04" ∷ []) ≡ None
unfolding text_command clap_on_literals
leading_zero = refl

other_family : text_command (codes "gen" ∷ codes "rings" ∷ codes "1" ∷ []) ≡ None
unfolding text_command clap_on_literals
other_family = refl

past_the_greatest : text_command (codes "gen" ∷ codes "patterns" ∷ codes "9" ∷ []) ≡ None
unfolding text_command clap_on_literals
past_the_greatest = refl
