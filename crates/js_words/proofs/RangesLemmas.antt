-- The numbers of commands are in their ranges. Key lemma: command-in_range.
use Rattle.std.proofs.Common.{◌≡◌, ◌&&◌, ℕ, Bool, true, false, nat_le, List, [], ◌∷◌, Option, Some, None, IfSome, if◌then◌else◌, codes, refl, subst, arith, option_and_then}
use Rattle.std.specs.Str.{bytes_eq}
use Rattle.std.proofs.lemmas.Bool.Decides.{nat_tests}
use Rattle.clap.specs.Words.{Row, Text, fault_of, first_of, subcommand_of}
use Rattle.clap.specs.Kinds.{Kinds}
use Rattle.families.specs.Families.{Family, greatest}
use Rattle.js_words.specs.CommandLine.{jsat}
use Rattle.js_words.specs.Commands.{Command, check_in, check_of, family_of, gen_in, gen_of, gen_to, gen_with, include_in, include_of, matched, named, norm_in, norm_of, sat_in, sat_of, text_command, valid_in, valid_of, without_fault, workers_in}
use Rattle.js_words.specs.Numbers.{decimal_value, is_plain_decimal, number_in}
use Rattle.js_words.specs.Ranges.{IsFrom, IsInRange}

number-range : (low high : ℕ) (text : List ℕ) → IfSome (number_in low high text) (IsFrom low high)
number-range low high text =
    go (is_plain_decimal text && (nat_le low (decimal_value text) && nat_le (decimal_value text) high)) refl where
      go : (b : Bool) → (is_plain_decimal text && (nat_le low (decimal_value text) && nat_le (decimal_value text) high))
          ≡ b
          → IfSome (if b then Some (decimal_value text) else None) (IsFrom low high)
      go false e = tt
      go true e = (grind (arith, nat_tests), grind (arith, nat_tests))

workers-range : (rows : List Row) → IfSome (workers_in rows) (IsFrom 1 64)
workers-range rows = go (first_of (codes "workers") rows) where
  go : (text : Option Text) → IfSome (option_and_then (number_in 1 64) text) (IsFrom 1 64)
  go None = tt
  go (Some text) = number-range 1 64 text

-- ---- of the texts of a subcommand

sat_of-range : (a : Option Text) (w : Option ℕ) → IfSome w (IsFrom 1 64) → IfSome (sat_of a w) IsInRange
sat_of-range None w h = tt
sat_of-range (Some a) None h = tt
sat_of-range (Some a) (Some w) h = h

include_of-range : (a b : Option Text) (w : Option ℕ) → IfSome w (IsFrom 1 64) → IfSome (include_of a b w) IsInRange
include_of-range None b w h = tt
include_of-range (Some a) None w h = tt
include_of-range (Some a) (Some b) None h = tt
include_of-range (Some a) (Some b) (Some w) h = h

valid_of-range : (a d : Option Text) → IfSome (valid_of a d) IsInRange
valid_of-range None d = tt
valid_of-range (Some a) None = tt
valid_of-range (Some a) (Some d) = tt

check_of-range : (a b c : Option Text) (w : Option ℕ) → IfSome w (IsFrom 1 64) → IfSome (check_of a b c w) IsInRange
check_of-range None b c w h = tt
check_of-range (Some a) None c w h = tt
check_of-range (Some a) (Some b) None w h = tt
check_of-range (Some a) (Some b) (Some c) None h = tt
check_of-range (Some a) (Some b) (Some c) (Some w) h = h

norm_of-range : (a : Option Text) → IfSome (norm_of a) IsInRange
norm_of-range None = tt
norm_of-range (Some a) = tt

gen_with-range : (f : Family) (n w : Option ℕ) → IfSome n (IsFrom 1 (greatest f)) → IfSome w (IsFrom 1 64)
    → IfSome (gen_with f n w) IsInRange
gen_with-range f None w m h = tt
gen_with-range f (Some n) None m h = tt
gen_with-range f (Some n) (Some w) m h = (m, h)

gen_to-range : (f : Option Family) (n : Text) (w : Option ℕ) → IfSome w (IsFrom 1 64) → IfSome (gen_to f n w) IsInRange
gen_to-range None n w h = tt
gen_to-range (Some f) n w h = gen_with-range f (number_in 1 (greatest f) n) w (number-range 1 (greatest f) n) h

gen_of-range : (f n : Option Text) (w : Option ℕ) → IfSome w (IsFrom 1 64) → IfSome (gen_of f n w) IsInRange
gen_of-range None n w h = tt
gen_of-range (Some f) None w h = tt
gen_of-range (Some f) (Some n) w h = gen_to-range (family_of f) n w h

-- ---- the command of the words

either-range : (b : Bool) (x y : Option Command) → IfSome x IsInRange → IfSome y IsInRange
    → IfSome (if b then x else y) IsInRange
either-range true x y h k = h
either-range false x y h k = k

named-range : (word : Text) (rows : List Row) → IfSome (named word rows) IsInRange
named-range word rows =
    let w = workers-range rows in
    either-range (bytes_eq word (codes "sat")) (sat_in rows) _ (sat_of-range (first_of (codes "first") rows) _ w)
    (either-range (bytes_eq word (codes "include")) (include_in rows) _
    (include_of-range (first_of (codes "first") rows) (first_of (codes "second") rows) _ w)
    (either-range (bytes_eq word (codes "valid")) (valid_in rows) _
    (valid_of-range (first_of (codes "first") rows) (first_of (codes "document") rows))
    (either-range (bytes_eq word (codes "check")) (check_in rows) _
    (check_of-range (first_of (codes "first") rows) (first_of (codes "second") rows)
    (first_of (codes "certificate") rows) _ w)
    (either-range (bytes_eq word (codes "norm")) (norm_in rows) _ (norm_of-range (first_of (codes "first") rows))
    (either-range (bytes_eq word (codes "gen")) (gen_in rows) None
    (gen_of-range (first_of (codes "kind") rows) (first_of (codes "number") rows) _ w) tt)))))

matched-range : (met : Option (Text × List Row)) → IfSome (matched met) IsInRange
matched-range None = tt
matched-range (Some p) = named-range p.0 p.1

without-range : (ks : Kinds) (c : Option Command) → IfSome c IsInRange → IfSome (without_fault ks c) IsInRange
without-range [] c h = h
without-range (k ∷ ks) c h = tt

text_command-range : (texts : List Text) → IfSome (text_command texts) IsInRange
unfolding text_command
text_command-range texts = without-range (fault_of jsat texts) _ (matched-range (subcommand_of jsat texts))

-- a command that is given is in range
pub command-in_range : (texts : List Text) (c : Command) → text_command texts ≡ Some c → IsInRange c
command-in_range texts c is = subst (λ (o : Option Command). IfSome o IsInRange) is (text_command-range texts)
