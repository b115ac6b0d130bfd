-- The words of each subcommand, with open names. Key lemma of each: what is read after its names.
use Rattle.std.proofs.Common.{◌≡◌, ◌∙◌, ℕ, List, [], ◌∷◌, ◌++◌, Option, Some, codes, refl}
use Rattle.clap.specs.Words.{Rule, Shape, Text}
use Rattle.clap.specs.Walk.{Held, Walk, nothing_held, settled}
use Rattle.clap.proofs.OnLiterals.{clap_on_literals}
use Rattle.js_words.specs.CommandLine as L
use Rattle.js_words.specs.Commands as C
use Rattle.js_words.specs.Commands.{Command, text_command}
use Rattle.js_words.specs.Numbers.{number_in}
use Rattle.js_words.proofs.WalkLemmas.{Enters, IsValue, built_sub, entered-read, name-read, past, read_from, value-read}

-- words that end with the number of workers, or without it
pub record TakesWorkers (read : List Text → Option Command) (give : Option ℕ → Option Command) : Type 0 where
  pub absent : read [] ≡ give (Some 1)
  pub joined : (n : Text) → read ((codes "--workers=" ++ n) ∷ []) ≡ give (number_in 1 64 n)
  pub apart : (n : Text) → IsValue n → read (codes "--workers" ∷ n ∷ []) ≡ give (number_in 1 64 n)

-- what is held after the word `--workers`
abbrev opened : List Rule → Held → Held
opened rules h = record (settled rules h) { pending = Some (codes "workers", []) }

-- ---- sat

abbrev sat : Shape
sat = built_sub L.sat

enters-sat : Enters (codes "sat") sat
unfolding clap_on_literals
enters-sat = record { walks = refl; passes = refl; enters = λ rest. refl }

abbrev after-sat : Text → Walk
after-sat a = past sat.rules nothing_held 1 a

read-sat : (a : Text) → IsValue a → (rest : List Text)
    → text_command (codes "sat" ∷ a ∷ rest) ≡ read_from sat (after-sat a) rest
read-sat a va rest = entered-read (codes "sat") sat enters-sat (a ∷ rest) ∙ name-read sat nothing_held 1 a va refl rest

-- `sat` and a name, with the number of workers or without, are read as that command
pub workers-sat : (a : Text) → IsValue a
    → TakesWorkers (λ rest. text_command (codes "sat" ∷ a ∷ rest)) (C.sat_of (Some a))
unfolding clap_on_literals
workers-sat a va = record {
  absent = read-sat a va [];
  joined = λ n. read-sat a va ((codes "--workers=" ++ n) ∷ []);
  apart = λ n vn. read-sat a va (codes "--workers" ∷ n ∷ [])
      ∙ value-read sat (opened sat.rules (after-sat a).held) 2 (codes "workers") n vn [];
}

-- ---- include

abbrev include : Shape
include = built_sub L.include

enters-include : Enters (codes "include") include
unfolding clap_on_literals
enters-include = record { walks = refl; passes = refl; enters = λ rest. refl }

abbrev after-include : Text → Text → Walk
after-include a b = past include.rules (past include.rules nothing_held 1 a).held 2 b

read-include : (a b : Text) → IsValue a → IsValue b → (rest : List Text)
    → text_command (codes "include" ∷ a ∷ b ∷ rest) ≡ read_from include (after-include a b) rest
read-include a b va vb rest =
    entered-read (codes "include") include enters-include (a ∷ b ∷ rest)
    ∙ name-read include nothing_held 1 a va refl (b ∷ rest)
    ∙ name-read include (past include.rules nothing_held 1 a).held 2 b vb refl rest

-- `include` and two names, with the number of workers or without, are read as that command
pub workers-include : (a b : Text) → IsValue a → IsValue b
    → TakesWorkers (λ rest. text_command (codes "include" ∷ a ∷ b ∷ rest)) (C.include_of (Some a) (Some b))
unfolding clap_on_literals
workers-include a b va vb = record {
  absent = read-include a b va vb [];
  joined = λ n. read-include a b va vb ((codes "--workers=" ++ n) ∷ []);
  apart = λ n vn. read-include a b va vb (codes "--workers" ∷ n ∷ [])
      ∙ value-read include (opened include.rules (after-include a b).held) 3 (codes "workers") n vn [];
}

-- ---- valid

abbrev valid : Shape
valid = built_sub L.valid

enters-valid : Enters (codes "valid") valid
unfolding clap_on_literals
enters-valid = record { walks = refl; passes = refl; enters = λ rest. refl }

-- `valid` and two names are read as that command
pub read-valid : (a d : Text) → IsValue a → IsValue d
    → text_command (codes "valid" ∷ a ∷ d ∷ []) ≡ C.valid_of (Some a) (Some d)
unfolding clap_on_literals
read-valid a d va vd =
    entered-read (codes "valid") valid enters-valid (a ∷ d ∷ [])
    ∙ name-read valid nothing_held 1 a va refl (d ∷ [])
    ∙ name-read valid (past valid.rules nothing_held 1 a).held 2 d vd refl []

-- ---- check

abbrev check : Shape
check = built_sub L.check

enters-check : Enters (codes "check") check
unfolding clap_on_literals
enters-check = record { walks = refl; passes = refl; enters = λ rest. refl }

-- after the second name
abbrev second-check : Text → Text → Held
second-check a b = (past check.rules (past check.rules nothing_held 1 a).held 2 b).held

abbrev after-check : Text → Text → Text → Walk
after-check a b c = past check.rules (second-check a b) 3 c

read-check : (a b c : Text) → IsValue a → IsValue b → IsValue c → (rest : List Text)
    → text_command (codes "check" ∷ a ∷ b ∷ c ∷ rest) ≡ read_from check (after-check a b c) rest
read-check a b c va vb vc rest =
    entered-read (codes "check") check enters-check (a ∷ b ∷ c ∷ rest)
    ∙ name-read check nothing_held 1 a va refl (b ∷ c ∷ rest)
    ∙ name-read check (past check.rules nothing_held 1 a).held 2 b vb refl (c ∷ rest)
    ∙ name-read check (second-check a b) 3 c vc refl rest

-- `check` and three names, with the number of workers or without, are read as that command
pub workers-check : (a b c : Text) → IsValue a → IsValue b → IsValue c
    → TakesWorkers (λ rest. text_command (codes "check" ∷ a ∷ b ∷ c ∷ rest)) (C.check_of (Some a) (Some b) (Some c))
unfolding clap_on_literals
workers-check a b c va vb vc = record {
  absent = read-check a b c va vb vc [];
  joined = λ n. read-check a b c va vb vc ((codes "--workers=" ++ n) ∷ []);
  apart = λ n vn. read-check a b c va vb vc (codes "--workers" ∷ n ∷ [])
      ∙ value-read check (opened check.rules (after-check a b c).held) 4 (codes "workers") n vn [];
}

-- ---- norm

abbrev norm : Shape
norm = built_sub L.norm

enters-norm : Enters (codes "norm") norm
unfolding clap_on_literals
enters-norm = record { walks = refl; passes = refl; enters = λ rest. refl }

-- `norm` and a name are read as that command
pub read-norm : (a : Text) → IsValue a → text_command (codes "norm" ∷ a ∷ []) ≡ C.norm_of (Some a)
unfolding clap_on_literals
read-norm a va =
    entered-read (codes "norm") norm enters-norm (a ∷ []) ∙ name-read norm nothing_held 1 a va refl []

-- ---- gen

abbrev gen : Shape
gen = built_sub L.gen

enters-gen : Enters (codes "gen") gen
unfolding clap_on_literals
enters-gen = record { walks = refl; passes = refl; enters = λ rest. refl }

abbrev after-gen : Text → Text → Walk
after-gen f n = past gen.rules (past gen.rules nothing_held 1 f).held 2 n

read-gen : (f n : Text) → IsValue f → IsValue n → (rest : List Text)
    → text_command (codes "gen" ∷ f ∷ n ∷ rest) ≡ read_from gen (after-gen f n) rest
read-gen f n vf vn rest =
    entered-read (codes "gen") gen enters-gen (f ∷ n ∷ rest)
    ∙ name-read gen nothing_held 1 f vf refl (n ∷ rest)
    ∙ name-read gen (past gen.rules nothing_held 1 f).held 2 n vn refl rest

-- `gen`, a family and a number, with the number of workers or without, are read as that command
pub workers-gen : (f n : Text) → IsValue f → IsValue n
    → TakesWorkers (λ rest. text_command (codes "gen" ∷ f ∷ n ∷ rest)) (C.gen_of (Some f) (Some n))
unfolding clap_on_literals
workers-gen f n vf vn = record {
  absent = read-gen f n vf vn [];
  joined = λ w. read-gen f n vf vn ((codes "--workers=" ++ w) ∷ []);
  apart = λ w vw. read-gen f n vf vn (codes "--workers" ∷ w ∷ [])
      ∙ value-read gen (opened gen.rules (after-gen f n).held) 3 (codes "workers") w vw [];
}
