-- How many entries are new when the mark of one changes.
use Rattle.std.proofs.Common.{◌≡◌, ℕ, ◌+◌, ◌<◌, List, length, set, false, cond, ap, arith}
use Rattle.std.proofs.lemmas.List.Sums.{sum_by-set}
use Rattle.js_guard.specs.declared.search.Mark.{Mark}
use Rattle.js_guard.specs.declared.search.Mark.TheVariants.{New, Open, Done}
use Rattle.js_guard.specs.Searching.{mark, is_new, count_new}

abbrev one : Mark → ℕ
one m = cond (is_new m) 1 0

count_new-set : (M : List Mark) (x : ℕ) (m : Mark) → x < length M
    → count_new (set M x m) + one (mark M x) ≡ count_new M + one m
count_new-set M x m h = sum_by-set one M x m New h

one-at : (m n : Mark) → m ≡ n → one m ≡ one n
one-at m n e = ap one e

-- where a new entry is opened, one entry less is new
pub count_new-fewer : (M : List Mark) (x j : ℕ) → x < length M → mark M x ≡ New
    → count_new (set M x (Open j)) + 1 ≡ count_new M
count_new-fewer M x j h new = omega (arith, count_new-set M x (Open j) h, one-at (mark M x) New new)

pub count_new-same : (M : List Mark) (x r : ℕ) → x < length M → is_new (mark M x) ≡ false
    → count_new (set M x (Done r)) ≡ count_new M
count_new-same M x r h old =
    let none : one (mark M x) ≡ 0 = ap (λ b. cond b 1 0) old in
    omega (arith, count_new-set M x (Done r) h)
