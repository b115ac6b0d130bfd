-- The names of files that the words give, for each command, and what `gen` is given.
use Rattle.std.specs.Prelude.{ℕ, ◌<◌, List, [], ◌∷◌, Option, Some, None, IsSome, encode_utf8_all}
use Rattle.families.specs.Families.{Family}
use Rattle.js_outside.specs.Told.{Files}
use Rattle.js_input.specs.OrderOfFiles.{Misses}
use Rattle.js_words.specs.Commands.{Command, Sat, Include, Valid, Check, Norm, Gen, command}

-- a schema alone
abbrev pub of_sat : Option Command → Option (List ℕ)
of_sat (Some (Sat a w)) = Some a
of_sat (Some (Include a b w)) = None
of_sat (Some (Valid a d)) = None
of_sat (Some (Check a b c w)) = None
of_sat (Some (Norm a)) = None
of_sat (Some (Gen f n w)) = None
of_sat None = None

-- two schemas
abbrev pub of_include : Option Command → Option (List ℕ × List ℕ)
of_include (Some (Sat a w)) = None
of_include (Some (Include a b w)) = Some (a, b)
of_include (Some (Valid a d)) = None
of_include (Some (Check a b c w)) = None
of_include (Some (Norm a)) = None
of_include (Some (Gen f n w)) = None
of_include None = None

-- the schemas that are compared: of `sat` the second is no file's, but the value `false`
abbrev pub of_compared : Option Command → Option (List ℕ × Option (List ℕ))
of_compared (Some (Sat a w)) = Some (a, None)
of_compared (Some (Include a b w)) = Some (a, Some b)
of_compared (Some (Valid a d)) = None
of_compared (Some (Check a b c w)) = None
of_compared (Some (Norm a)) = None
of_compared (Some (Gen f n w)) = None
of_compared None = None

-- a schema and a document
abbrev pub of_valid : Option Command → Option (List ℕ × List ℕ)
of_valid (Some (Sat a w)) = None
of_valid (Some (Include a b w)) = None
of_valid (Some (Valid a d)) = Some (a, d)
of_valid (Some (Check a b c w)) = None
of_valid (Some (Norm a)) = None
of_valid (Some (Gen f n w)) = None
of_valid None = None

-- two schemas and a certificate
abbrev pub of_check : Option Command → Option (List ℕ × List ℕ × List ℕ)
of_check (Some (Sat a w)) = None
of_check (Some (Include a b w)) = None
of_check (Some (Valid a d)) = None
of_check (Some (Check a b c w)) = Some (a, b, c)
of_check (Some (Norm a)) = None
of_check (Some (Gen f n w)) = None
of_check None = None

-- a schema alone
abbrev pub of_norm : Option Command → Option (List ℕ)
of_norm (Some (Sat a w)) = None
of_norm (Some (Include a b w)) = None
of_norm (Some (Valid a d)) = None
of_norm (Some (Check a b c w)) = None
of_norm (Some (Norm a)) = Some a
of_norm (Some (Gen f n w)) = None
of_norm None = None

-- a family and a number
abbrev pub of_gen : Option Command → Option (Family × ℕ)
of_gen (Some (Sat a w)) = None
of_gen (Some (Include a b w)) = None
of_gen (Some (Valid a d)) = None
of_gen (Some (Check a b c w)) = None
of_gen (Some (Norm a)) = None
of_gen (Some (Gen f n w)) = Some (f, n)
of_gen None = None

-- how many workers judge a certificate; of other words none
abbrev pub judges_of : Option Command → ℕ
judges_of (Some (Sat a w)) = 0
judges_of (Some (Include a b w)) = 0
judges_of (Some (Valid a d)) = 0
judges_of (Some (Check a b c w)) = w
judges_of (Some (Norm a)) = 0
judges_of (Some (Gen f n w)) = 0
judges_of None = 0

abbrev pub sat_name : List (List ℕ) → Option (List ℕ)
sat_name words = of_sat (command words)

abbrev pub compared_names : List (List ℕ) → Option (List ℕ × Option (List ℕ))
compared_names words = of_compared (command words)

abbrev pub include_names : List (List ℕ) → Option (List ℕ × List ℕ)
include_names words = of_include (command words)

abbrev pub valid_names : List (List ℕ) → Option (List ℕ × List ℕ)
valid_names words = of_valid (command words)

abbrev pub check_names : List (List ℕ) → Option (List ℕ × List ℕ × List ℕ)
check_names words = of_check (command words)

abbrev pub norm_name : List (List ℕ) → Option (List ℕ)
norm_name words = of_norm (command words)

abbrev pub gen_names : List (List ℕ) → Option (Family × ℕ)
gen_names words = of_gen (command words)

-- the words are those of `sat`
abbrev pub IsSat : List (List ℕ) → Type 0
IsSat words = IsSome (sat_name words)

-- the words are those of `include`
abbrev pub IsInclude : List (List ℕ) → Type 0
IsInclude words = IsSome (include_names words)

-- the words are those of `sat` or of `include`
abbrev pub IsCompared : List (List ℕ) → Type 0
IsCompared words = IsSome (compared_names words)

-- the words are those of `valid`
abbrev pub IsValid : List (List ℕ) → Type 0
IsValid words = IsSome (valid_names words)

-- the words are those of `check`
abbrev pub IsCheck : List (List ℕ) → Type 0
IsCheck words = IsSome (check_names words)

-- by several workers, for which lines wait while others are read
abbrev pub IsCheckBySeveral : List (List ℕ) → Type 0
IsCheckBySeveral words = 1 < judges_of (command words)

-- the words are those of `norm`
abbrev pub IsNorm : List (List ℕ) → Type 0
IsNorm words = IsSome (norm_name words)

-- the words are those of `gen`
abbrev pub IsGen : List (List ℕ) → Type 0
IsGen words = IsSome (gen_names words)

-- the names of a command's files, as UTF-8 bytes, in the order in which they are read
abbrev pub files_of : Option Command → List (List ℕ)
files_of (Some (Sat a w)) = encode_utf8_all a ∷ []
files_of (Some (Include a b w)) = encode_utf8_all a ∷ encode_utf8_all b ∷ []
files_of (Some (Valid a d)) = encode_utf8_all a ∷ encode_utf8_all d ∷ []
files_of (Some (Check a b c w)) = encode_utf8_all a ∷ encode_utf8_all b ∷ encode_utf8_all c ∷ []
files_of (Some (Norm a)) = encode_utf8_all a ∷ []
files_of (Some (Gen f n w)) = []
files_of None = []

abbrev pub file_names : List (List ℕ) → List (List ℕ)
file_names words = files_of (command words)

-- files are known, one that the words name isn't there, and each before it is a schema
abbrev pub MissesFile : Option Files → List (List ℕ) → Type 0
MissesFile None words = ⊥
MissesFile (Some files) words = Misses files (file_names words)
