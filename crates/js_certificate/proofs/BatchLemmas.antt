-- For which lines a batch stands when a line is added, and when lines are handed over, and how many lines wait.
use Rattle.std.proofs.Common.{◌≡◌, ℕ, ◌<◌, ◌≤◌, Bool, true, false, cond, nat_eq, List, [], ◌∷◌, ◌++◌, length, map, Option, Some, Result, Ok, Err, OnOk, refl, ap, sym, ◌∙◌, subst, append_assoc, append-nil, arith}
use Rattle.std.proofs.lemmas.List.{map_push}
use Rattle.std.proofs.lemmas.Bool.{eqb-true, eqb-false}
use Rattle.positions.specs.Position.{Position}
use Rattle.certificate_lines.specs.Line.{Line}
use Rattle.verdicts.specs.Verdict.{Stage}
use Rattle.js_lines.specs.View.{line_view}
use Rattle.js_lines.specs.declared.lines.CertLine.{CertLine}
use Rattle.js_checker.specs.Standing.{Stands}
use Rattle.js_checker.specs.CheckerView as C
use Rattle.js_checker.specs.CheckerView.{standing}
use Rattle.js_checker.specs.declared.fault.CheckFault.{CheckFault}
use Rattle.js_checker.specs.declared.fault.CheckFault.TheVariants as F
use Rattle.js_checker.specs.declared.checker.Checker.{Checker}
use Rattle.js_checker.proofs.StandingLemmas.{all_rejected}
use Rattle.js_certificate.specs.ReadBehind.{most_waiting}
use Rattle.js_certificate.specs.BatchView.{table_of, premise_of, conclusion_of, StandsFor, AreToldBy}
use Rattle.js_certificate.specs.declared.batch.Batch.{Batch}

-- a line more waits
pub line_waits : (b c : Batch) (l : CertLine) (ls : List Line) → c.checker ≡ b.checker
    → c.waiting.items ≡ b.waiting.items ++ l ∷ [] → StandsFor b ls → StandsFor c (ls ++ line_view l ∷ [])
line_waits b c l ls same more h = record {
  taken = h.taken;
  checker = subst (λ k. C.StandsFor k h.taken) (sym same) h.checker;
  all = ap (λ xs. xs ++ line_view l ∷ []) h.all
      ∙ append_assoc h.taken (map line_view b.waiting.items) (line_view l ∷ [])
      ∙ ap (λ xs. h.taken ++ xs) (sym (map_push line_view b.waiting.items l) ∙ ap (map line_view) (sym more));
}

-- after a fault the stage is no matter
told_from : (T : List Position) (x y : ℕ) (fault : CheckFault) (s : Stage) (n : ℕ) (ls : List Line)
    → Stands T x y (standing (Some fault) s n) ls → AreToldBy T x y fault ls
told_from T x y (F.Rejected k r) s n ls h = h
told_from T x y F.Memory s n ls h = tt

pub told_by : (T : List Position) (x y : ℕ) (o : Option CheckFault) (fault : CheckFault) (s : Stage) (n : ℕ)
    (ls : List Line) → o ≡ Some fault → Stands T x y (standing o s n) ls → AreToldBy T x y fault ls
told_by T x y o fault s n ls e h = told_from T x y fault s n ls (subst (λ p. Stands T x y (standing p s n) ls) e h)

-- whatever comes
pub told_longer : (T : List Position) (x y : ℕ) (fault : CheckFault) (ls more : List Line) → AreToldBy T x y fault ls
    → AreToldBy T x y fault (ls ++ more)
told_longer T x y (F.Rejected k r) ls more h = all_rejected T x y ls more k r h
told_longer T x y F.Memory ls more h = tt

pub told_same : (T U : List Position) (a b c d : ℕ) (fault : CheckFault) (ls : List Line) → T ≡ U → a ≡ c → b ≡ d
    → AreToldBy T a b fault ls → AreToldBy U c d fault ls
told_same T U a b c d fault ls p q r h =
    subst (λ z. AreToldBy U c z fault ls) r (subst (λ y. AreToldBy U y b fault ls) q
    (subst (λ x. AreToldBy x a b fault ls) p h))

-- all that waited was taken
module _ (b : Batch) (k : Checker) (took : (ls : List Line) → C.StandsFor b.checker ls
    → C.StandsFor k (ls ++ map line_view b.waiting.items)) where
  pub handed : (c : Batch) (ls : List Line) → c.checker ≡ k → c.waiting.items ≡ [] → StandsFor b ls → StandsFor c ls
  handed c ls same none h = record {
    taken = h.taken ++ map line_view b.waiting.items;
    checker = subst (λ x. C.StandsFor x (h.taken ++ map line_view b.waiting.items)) (sym same) (took h.taken h.checker);
    all = h.all ∙ sym (ap (λ xs. (h.taken ++ map line_view b.waiting.items) ++ map line_view xs) none
        ∙ append-nil (h.taken ++ map line_view b.waiting.items));
  }

  pub handed_told : (fault : CheckFault) (ls : List Line) → C.fault_of k ≡ Some fault
      → C.table_of k ≡ table_of b → C.premise_of k ≡ premise_of b → C.conclusion_of k ≡ conclusion_of b
      → StandsFor b ls → AreToldBy (table_of b) (premise_of b) (conclusion_of b) fault ls
  handed_told fault ls e p q r h =
      subst (AreToldBy (table_of b) (premise_of b) (conclusion_of b) fault) (sym h.all)
      (told_same _ _ _ _ _ _ fault (h.taken ++ map line_view b.waiting.items) p q r
      (told_by _ _ _ _ fault _ _ (h.taken ++ map line_view b.waiting.items) e (took h.taken h.checker)))

pub on_ok_of : {A E P : Type 0} (r : Result A E) → P → OnOk r P
on_ok_of (Ok x) p = p
on_ok_of (Err e) p = tt

-- where nothing waits
pub settled : (b : Batch) (ls : List Line) → b.waiting.items ≡ [] → StandsFor b ls → C.StandsFor b.checker ls
settled b ls none h =
    subst (C.StandsFor b.checker)
    (sym (h.all ∙ ap (λ xs. h.taken ++ map line_view xs) none ∙ append-nil h.taken)) h.checker

-- how many lines wait

-- for several workers fewer than a batch
pub few_of_several : (workers n : ℕ) → (workers ≡ 1 → ⊥) → n < 65536 → n ≤ most_waiting workers
few_of_several workers n other less = go (nat_eq workers 1) refl where
  go : (b : Bool) → nat_eq workers 1 ≡ b → n ≤ cond b 0 65535
  go true e = absurd (other (eqb-true workers 1 e))
  go false e = omega (arith, less)

pub none_of_any : (workers n : ℕ) → n ≡ 0 → n ≤ most_waiting workers
none_of_any workers n e = subst (λ k. k ≤ most_waiting workers) (sym e) (omega arith)

-- where some wait, there are several workers
pub several_wait : (workers n : ℕ) → 1 ≤ workers → n ≤ most_waiting workers → (n ≡ 0 → ⊥) → 1 < workers
several_wait workers n some few waits = go (nat_eq workers 1) refl few where
  go : (b : Bool) → nat_eq workers 1 ≡ b → n ≤ cond b 0 65535 → 1 < workers
  go true e f = absurd (waits (omega (arith, f)))
  go false e f = let other = eqb-false workers 1 e in omega (arith, some, other)

-- lines that were handed over, or aren't enough
pub waits_after : (full : Bool) (workers was is : ℕ) (xs ys : List CertLine) → was ≡ length xs → is ≡ length ys
    → (full ≡ true → ys ≡ []) → (full ≡ false → ys ≡ xs) → (full ≡ false → was ≤ most_waiting workers)
    → is ≤ most_waiting workers
waits_after true workers was is xs ys p q handed kept few = none_of_any workers is (q ∙ ap length (handed refl))
waits_after false workers was is xs ys p q handed kept few =
    subst (λ n. n ≤ most_waiting workers) (sym (q ∙ ap length (kept refl) ∙ sym p)) (few refl)
