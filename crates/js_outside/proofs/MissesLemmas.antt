-- A shelf over memory counts the names that aren't there.
use Rattle.std.proofs.Common.{◌≡◌, ℕ, ◌+◌, List, [], ◌∷◌, ◌++◌, cond, Some, None, Result, Ok, Err, ap, sym, ◌∙◌, subst, arith, zero-add}
use Rattle.std.specs.Prelude.{min, is_none}
use Rattle.std.specs.List.{count_by}
use Rattle.std.proofs.lemmas.List.Sums.{sum_by-append}
use Rattle.js_outside.specs.Counts.{last_count, one_more}
use Rattle.js_outside.specs.Told.{Files, misses}
use Rattle.js_outside.specs.Contents.{contents}
use Rattle.js_outside.specs.InMemory.{ShelfState, BeginsIn, FaultsAreMisses}
use Rattle.js_outside.specs.declared.faults.BeginFault.{BeginFault}
use Rattle.js_outside.specs.declared.faults.BeginFault.TheVariants.{Failed, Memory}

-- how many of the names aren't there, with one name more
counted-more : (files : Files) (names : List (List ℕ)) (name : List ℕ)
    → count_by (λ n. is_none (files n)) (names ++ name ∷ [])
    ≡ count_by (λ n. is_none (files n)) names + cond (is_none (files name)) 1 0
counted-more files names name =
    sum_by-append (λ n. cond (is_none (files n)) 1 0) names (name ∷ [])
    ∙ ap (λ n. count_by (λ n. is_none (files n)) names + n) (zero-add (cond (is_none (files name)) 1 0))

min-same : (n : ℕ) → min (n + 0) last_count ≡ min n last_count
min-same n = omega arith

min-more : (n : ℕ) → min (n + 1) last_count ≡ one_more (min n last_count)
min-more n = omega arith

misses-there : (files : Files) (names : List (List ℕ)) (name bytes : List ℕ) → files name ≡ Some bytes
    → misses files (names ++ name ∷ []) ≡ misses files names
misses-there files names name bytes there =
    ap (λ n. min n last_count) (counted-more files names name
    ∙ ap (λ o. count_by (λ n. is_none (files n)) names + cond (is_none o) 1 0) there)
    ∙ min-same (count_by (λ n. is_none (files n)) names)

misses-missing : (files : Files) (names : List (List ℕ)) (name : List ℕ) → files name ≡ None
    → misses files (names ++ name ∷ []) ≡ one_more (misses files names)
misses-missing files names name missing =
    ap (λ n. min n last_count) (counted-more files names name
    ∙ ap (λ o. count_by (λ n. is_none (files n)) names + cond (is_none o) 1 0) missing)
    ∙ min-more (count_by (λ n. is_none (files n)) names)

-- `begin` keeps it that each fault is a name that isn't there
pub FaultsAreMisses-begins : {T : Type 0} (old new : ShelfState) (name : List ℕ) (r : Result T BeginFault)
    → FaultsAreMisses old → BeginsIn old new name r → FaultsAreMisses new
FaultsAreMisses-begins old new name (Ok x) were (there, is) =
    subst FaultsAreMisses (sym is) (were ∙ sym (misses-there (contents old.files) old.begun name new.left there))
FaultsAreMisses-begins old new name (Err Failed) were (missing, is) =
    subst FaultsAreMisses (sym is)
    (ap one_more were ∙ sym (misses-missing (contents old.files) old.begun name missing))
FaultsAreMisses-begins old new name (Err Memory) were begins = absurd begins
