-- Lines that do some duties leave further ones as they are, and lines may come one after another.
use Rattle.std.proofs.Common.{◌≡◌, ℕ, Bool, List, [], ◌∷◌, ◌++◌, Result, Ok, Err, ap, subst, append_assoc}
use Rattle.positions.specs.Position.{Position}
use Rattle.goals.specs.Signed.{Signed}
use Rattle.certificate_lines.specs.Line.{Line}
use Rattle.verdicts.specs.RowLines.{and_then}
use Rattle.verdicts.specs.Duties.{Duty, after, run}

module _ (T : List Position) (cite : ℕ → List Signed → Bool) where
  pub run_beside : (ds es fs : List Duty) (ls : List Line) → run T cite ds ls ≡ Ok es
      → run T cite (ds ++ fs) ls ≡ Ok (es ++ fs)
  run_beside ds es fs [] e = let q : ds ≡ es = cc in ap (λ z. Ok (z ++ fs)) q
  run_beside [] es fs (l ∷ ls) e = cc
  run_beside (d ∷ ds) es fs (l ∷ ls) e = go (after T cite d l) e (λ xs h. run_beside (xs ++ ds) es fs ls h) where
    go : (r : Result (List Duty) ℕ) → and_then (λ xs. run T cite (xs ++ ds) ls) r ≡ Ok es
        → ((xs : List Duty) → run T cite (xs ++ ds) ls ≡ Ok es → run T cite ((xs ++ ds) ++ fs) ls ≡ Ok (es ++ fs))
        → and_then (λ xs. run T cite (xs ++ (ds ++ fs)) ls) r ≡ Ok (es ++ fs)
    go (Ok xs) h more = subst (λ z. run T cite z ls ≡ Ok (es ++ fs)) (append_assoc xs ds fs) (more xs h)
    go (Err r) h more = cc

  -- lines that leave some duties go on as further lines do with these
  pub run_on : (ds es : List Duty) (ls ms : List Line) → run T cite ds ls ≡ Ok es
      → run T cite ds (ls ++ ms) ≡ run T cite es ms
  run_on ds es [] ms e = let q : ds ≡ es = cc in ap (λ z. run T cite z ms) q
  run_on [] es (l ∷ ls) ms e = cc
  run_on (d ∷ ds) es (l ∷ ls) ms e = go (after T cite d l) e (λ xs h. run_on (xs ++ ds) es ls ms h) where
    go : (r : Result (List Duty) ℕ) → and_then (λ xs. run T cite (xs ++ ds) ls) r ≡ Ok es
        → ((xs : List Duty) → run T cite (xs ++ ds) ls ≡ Ok es
        → run T cite (xs ++ ds) (ls ++ ms) ≡ run T cite es ms)
        → and_then (λ xs. run T cite (xs ++ ds) (ls ++ ms)) r ≡ run T cite es ms
    go (Ok xs) h more = more xs h
    go (Err r) h more = cc
