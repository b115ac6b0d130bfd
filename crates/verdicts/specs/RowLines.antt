-- What a line of a row has to keep: its targets, one for each class of characters, are the rows to which it leads.
--
-- A row is represented by a word that leads there. So whether a target is right is a test of two words: the one of the
-- target, and the row's with the first character of the class. Rows are numbered as they are first mentioned; nothing
-- requires more than that a target has the state, so two rows may have one state.
use Rattle.std.specs.Prelude.{ℕ, List, [], ◌∷◌, ◌++◌, length, get_or, Bool, true, false, ◌&&◌, cond, nat_eq, nat_lt, Result, Ok, Err}
use Rattle.word_states.specs.Atom.{Atom}
use Rattle.word_states.specs.Classes.{class_firsts}
use Rattle.word_states.specs.WordState.{have_same_state}
use Rattle.finders.specs.RowsFound.{longer}
use Rattle.verdicts.specs.Rules.{no_row, wrong_target}

-- a word for each row that was mentioned, and the targets of the rows that were stated
pub record Table (A : Type 0) : Type 0 where
  pub words : List A
  pub targets : List (List ℕ)

abbrev pub table : {A : Type 0} → List A → List (List ℕ) → Table A
table ws ts = record { words = ws; targets = ts }

-- what follows from a value, unless a rule was broken
abbrev pub and_then : {A B : Type 0} → (A → Result B ℕ) → Result A ℕ → Result B ℕ
and_then f (Ok x) = f x
and_then f (Err r) = Err r

-- a value, where the test holds; else the rule is broken
abbrev pub if_so : {A : Type 0} → ℕ → Bool → A → Result A ℕ
if_so r true x = Ok x
if_so r false x = Err r

-- `extend`: what a row leads to, class by class; `start`: the first row
module _ {A : Type 0} (same : A → A → Bool) (extend : A → List A) (start : A) where
  -- a target of x is a row that was mentioned, with the state of x, or the next number below the count: that row is
  -- then x's
  abbrev pub target : ℕ → List A → A → ℕ → Result (List A) ℕ
  target count ws x t =
      cond (nat_lt t (length ws)) (if_so wrong_target (same x (get_or ws t start)) ws)
      (if_so wrong_target (nat_eq t (length ws) && nat_lt t count) (ws ++ x ∷ []))

  -- a target for each
  abbrev pub targets : ℕ → List A → List A → List ℕ → Result (List A) ℕ
  targets count ws [] [] = Ok ws
  targets count ws (x ∷ xs) (t ∷ ts) = and_then (λ us. targets count us xs ts) (target count ws x t)
  targets count ws _ _ = Err no_row

  -- what the next row to be stated leads to
  abbrev pub next : Table A → List A
  next t = extend (get_or t.words (length t.targets) start)

  -- the next row was mentioned, and has so many targets
  abbrev pub is_row : Table A → List ℕ → Bool
  is_row t ts = nat_lt (length t.targets) (length t.words) && nat_eq (length ts) (length (next t))

  -- with the targets of the next row
  abbrev pub row : ℕ → Table A → List ℕ → Result (Table A) ℕ
  row count t ts =
      cond (is_row t ts)
      (and_then (λ ws. Ok (table ws (t.targets ++ ts ∷ []))) (targets count t.words (next t) ts))
      (Err no_row)

-- no row is stated, and the first one is that of the empty word
abbrev pub begin_table : Table (List ℕ)
begin_table = table ([] ∷ []) []

-- the words to which a row leads, with the first character of each class
abbrev pub extend : List Atom → List ℕ → List (List ℕ)
extend atoms = longer (class_firsts atoms)

-- the table with the targets of the next of so many rows
abbrev pub row_taken : List Atom → ℕ → Table (List ℕ) → List ℕ → Result (Table (List ℕ)) ℕ
row_taken atoms = row (have_same_state atoms) (extend atoms) []

-- the target of a row by the number of a class
abbrev pub stated : Table (List ℕ) → ℕ → ℕ → ℕ
stated t r k = get_or (get_or t.targets r []) k 0
