-- What a loop keeps while it reads a file, or while it writes a report.
use Rattle.std.proofs.Common.{◌≡◌, ℕ, ◌+◌, ◌<◌, List, [], ◌++◌, length, take, drop, Option, None, Some}
use Rattle.std.proofs.Common.{arith, refl, ap, sym, ◌∙◌, append_assoc, append-nil, length-append}
use Rattle.std.proofs.Math.Seq.{take-add, take-append_seam}
use Rattle.std.proofs.lemmas.Bool.{true≢false}
use Rattle.std.specs.Io.KnownBytes.{Appends, Consumes, IsAtEnd}
use Rattle.js_outside.specs.Told.{Files, FileIsLeft}
use Rattle.js_report.specs.WholeFile.{HasBytes, IsTooLong, longest_file}

-- the file has the bytes that were read, and then those that are left
abbrev pub ReadSoFar : Option Files → List ℕ → List ℕ → Option (List ℕ) → Type 0
ReadSoFar None name bytes left = Unit {0}
ReadSoFar (Some files) name bytes left =
    (rest : List ℕ) × (left ≡ Some rest) × (files name ≡ Some (bytes ++ rest))

-- nothing was read of a file that was just begun
pub ReadSoFar-begun : (told : Option Files) (name bytes : List ℕ) (left : Option (List ℕ)) → bytes ≡ []
    → FileIsLeft told name left → ReadSoFar told name bytes left
ReadSoFar-begun None name bytes left none begun = tt
ReadSoFar-begun (Some files) name bytes None none begun = absurd (true≢false (sym begun.1))
ReadSoFar-begun (Some files) name bytes (Some rest) none begun =
    (rest, refl, begun.0 ∙ ap (λ front. Some (front ++ rest)) (sym none))

none≢some : (xs : List ℕ) → None ≡ Some xs → ⊥
none≢some xs e = cc

some-same : (xs ys : List ℕ) → Some xs ≡ Some ys → xs ≡ ys
some-same xs ys e = cc

-- a piece more was read
pub ReadSoFar-more : (told : Option Files) (name bytes piece more : List ℕ) (left now : Option (List ℕ))
    → more ≡ bytes ++ piece → ReadSoFar told name bytes left → Consumes left now piece
    → ReadSoFar told name more now
ReadSoFar-more None name bytes piece more left now grown so_far taken = tt
ReadSoFar-more (Some files) name bytes piece more None now grown so_far taken = absurd (none≢some _ so_far.1)
ReadSoFar-more (Some files) name bytes piece more (Some front) None grown so_far taken = absurd taken
ReadSoFar-more (Some files) name bytes piece more (Some front) (Some rest) grown (all, left, told) taken = (
  rest,
  refl,
  told ∙ ap (λ l. Some (bytes ++ l)) (sym (some-same _ _ left) ∙ taken)
      ∙ ap Some (sym (append_assoc bytes piece rest)) ∙ ap (λ l. Some (l ++ rest)) (sym grown),
)

-- where nothing is left, what was read is all
at_end : (told : Option Files) (name bytes : List ℕ) (now : Option (List ℕ))
    → ReadSoFar told name bytes now → IsAtEnd now → HasBytes told name bytes
at_end None name bytes now so_far end = tt
at_end (Some files) name bytes None so_far end = absurd (none≢some _ so_far.1)
at_end (Some files) name bytes (Some rest) (all, left, told) end =
    told ∙ ap (λ l. Some (bytes ++ l)) (sym (some-same _ _ left) ∙ end) ∙ ap Some (append-nil bytes)

-- a read that finds the end has all bytes of the file
pub ReadSoFar-end : (told : Option Files) (name bytes : List ℕ) (left now : Option (List ℕ))
    → ReadSoFar told name bytes left → Consumes left now [] → IsAtEnd now → HasBytes told name bytes
ReadSoFar-end told name bytes left now so_far taken end =
    let all = ReadSoFar-more told name bytes [] bytes left now (sym (append-nil bytes)) so_far taken in
    at_end told name bytes now all end

-- a file of which too much was read is too long
pub ReadSoFar-too_long : (told : Option Files) (name bytes : List ℕ) (left : Option (List ℕ))
    → ReadSoFar told name bytes left → longest_file < length bytes → IsTooLong told name
ReadSoFar-too_long None name bytes left so_far long = (bytes, tt, long)
ReadSoFar-too_long (Some files) name bytes left (rest, is_left, told) long =
    (bytes ++ rest, told, omega (arith, length-append bytes rest, long))

-- as much as was put in front is what was put there
pub take-front : (front rest : List ℕ) (n : ℕ) → length front ≡ n → take n (front ++ rest) ≡ front
take-front front rest n e = ap (λ m. take m (front ++ rest)) (sym e) ∙ take-append_seam front rest

-- a piece more was written
pub Appends-more : (old mid now : Option (List ℕ)) (report piece : List ℕ) (done count : ℕ)
    → take count piece ≡ take count (drop done report)
    → Appends old mid (take done report) → Appends mid now (take count piece)
    → Appends old now (take (done + count) report)
Appends-more None mid now report piece done count cut before more = tt
Appends-more (Some xs) None now report piece done count cut before more = absurd before
Appends-more (Some xs) (Some ys) None report piece done count cut before more = absurd more
Appends-more (Some xs) (Some ys) (Some zs) report piece done count cut before more =
    more ∙ ap (λ l. ys ++ l) cut ∙ ap (λ l. l ++ take count (drop done report)) before
    ∙ append_assoc xs (take done report) (take count (drop done report))
    ∙ ap (λ l. xs ++ l) (sym (take-add done count report))
