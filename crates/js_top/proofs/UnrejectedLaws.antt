-- What the report of `check` says of a certificate that isn't judged to its end.
use Rattle.std.proofs.Common.{◌≡◌, List, ◌++◌, ℕ, Bool, true, Option, Some, None, sym, ◌∙◌}
use Rattle.std.specs.Io.KnownBytes.{Appends}
use Rattle.js_outside.specs.Told.{Files}
use Rattle.js_words.specs.Commands.{Command, Sat, Include, Valid, Check, Norm, Gen}
use Rattle.js_top.specs.Names.{files_of}
use Rattle.js_top.specs.Report.{Report}
use Rattle.js_top.specs.Unrejected.{IsFaultUnrejectedOf, IsRefusalUnrejectedOf}
use Rattle.js_top.specs.Preparing.{IsUnrejectedOf}
use Rattle.js_top.specs.declared.status.Status.TheVariants as S

-- where the report was written

pub fault-unrejected : (told : Option Files) (o : Option Command) (is_begun : Bool) (left : Option (List ℕ))
    (before after : List (List ℕ)) (r : Report) → IsUnrejectedOf told o is_begun left before after r
    → r.status ≡ S.ReadFault → after ≡ before ++ files_of o → is_begun ≡ true
    → IsFaultUnrejectedOf told o left
fault-unrejected told None is_begun left before after r is e all still = tt
fault-unrejected told (Some (Sat a w)) is_begun left before after r is e all still = tt
fault-unrejected told (Some (Include a b w)) is_begun left before after r is e all still = tt
fault-unrejected told (Some (Valid a d)) is_begun left before after r is e all still = tt
fault-unrejected told (Some (Norm a)) is_begun left before after r is e all still = tt
fault-unrejected told (Some (Gen f n w)) is_begun left before after r is e all still = tt
fault-unrejected told (Some (Check a b c w)) is_begun left before after r is e all still = is.0 e all still

pub written-unrejected : (told : Option Files) (o : Option Command) (is_begun : Bool) (left : Option (List ℕ))
    (before after : List (List ℕ)) (old new : Option (List ℕ)) (r : Report) (text : List ℕ)
    → IsUnrejectedOf told o is_begun left before after r → text ≡ r.text → r.status ≡ S.Refused → Appends old new text
    → IsRefusalUnrejectedOf told o left old new
written-unrejected told None is_begun left before after old new r text is t e written = tt
written-unrejected told (Some (Sat a w)) is_begun left before after old new r text is t e written = tt
written-unrejected told (Some (Include a b w)) is_begun left before after old new r text is t e written = tt
written-unrejected told (Some (Valid a d)) is_begun left before after old new r text is t e written = tt
written-unrejected told (Some (Norm a)) is_begun left before after old new r text is t e written = tt
written-unrejected told (Some (Gen f n w)) is_begun left before after old new r text is t e written = tt
written-unrejected told (Some (Check a b c w)) is_begun left before after old new r text is t e written =
    (text, written, λ same. is.1 e (sym t ∙ same))
