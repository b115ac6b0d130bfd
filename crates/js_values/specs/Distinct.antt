-- Values that are added one after another, each once, and those that the program keeps so.
use Rattle.std.specs.Prelude.{ℕ, ℤ, List, [], ◌∷◌, ◌++◌, Bool, cond}
use Rattle.documents.specs.Tests.{some}
use Rattle.js_values.specs.declared.words.Words.{Words}
use Rattle.js_values.specs.declared.numbers.Numbers.{Numbers}

-- what is among them stays where it is
abbrev pub add_once : {A : Type 0} → (A → A → Bool) → List A → A → List A
add_once same ks x = cond (some (same x) ks) ks (ks ++ x ∷ [])

abbrev pub add_all : {A : Type 0} → (A → A → Bool) → List A → List A → List A
add_all same ks [] = ks
add_all same ks (x ∷ xs) = add_all same (add_once same ks x) xs

abbrev pub words_of : Words → List (List ℕ)
words_of w = w.list.items

abbrev pub numbers_of : Numbers → List ℤ
numbers_of n = n.list.items
