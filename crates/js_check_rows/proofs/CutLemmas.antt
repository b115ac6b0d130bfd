-- Lists that are cut into lines of one length.
use Rattle.std.proofs.Common.{◌≡◌, ◌<◌, ◌≤◌, ◌+◌, ◌*◌, ℕ, zero, suc, List, [], ◌∷◌, ◌++◌, take, drop, length, get_or, refl, sym, ◌∙◌, ap, ap₂, subst, mul-le-mul, arith}
use Rattle.std.proofs.lemmas.List.{take-append-le, take_all, drop-append-le, length-drop, get_or-take, get_or-drop}
use Rattle.std.proofs.lemmas.List.FromFn.{get_or-map-range_with_len, map-range_with_len_more}
use Rattle.std.proofs.Math.Seq.{drop-append_seam}
use Rattle.js_check_rows.specs.Lines.{line_of, lines_of}

line_left : (w n : ℕ) (xs ys : List ℕ) → n * w + w ≤ length xs → line_of w (xs ++ ys) n ≡ line_of w xs n
line_left w n xs ys l =
    let d = length-drop (n * w) xs in
    ap (take w) (drop-append-le (n * w) xs ys (omega (arith, l)))
    ∙ take-append-le w (drop (n * w) xs) ys (omega (arith, l, d))

lines_one_more : (w n : ℕ) (xs : List ℕ) → lines_of w (n + 1) xs ≡ lines_of w n xs ++ line_of w xs n ∷ []
lines_one_more w n xs = map-range_with_len_more (line_of w xs) 0 n n (omega arith)

lines_left : (w n : ℕ) (xs ys : List ℕ) → n * w ≤ length xs → lines_of w n (xs ++ ys) ≡ lines_of w n xs
lines_left w zero xs ys l = refl
lines_left w (suc n) xs ys l =
    let more : n + 1 ≡ suc n = omega arith in
    subst (λ z. lines_of w z (xs ++ ys) ≡ lines_of w z xs) more
    (lines_one_more w n (xs ++ ys)
    ∙ ap₂ (λ a b. a ++ b ∷ []) (lines_left w n xs ys (omega (arith, l))) (line_left w n xs ys (omega (arith, l)))
    ∙ sym (lines_one_more w n xs))

-- a line more
pub lines_more : (w n : ℕ) (xs ys : List ℕ) → length xs ≡ n * w → length ys ≡ w
    → lines_of w (n + 1) (xs ++ ys) ≡ lines_of w n xs ++ ys ∷ []
lines_more w n xs ys e f =
    lines_one_more w n (xs ++ ys)
    ∙ ap₂ (λ a b. a ++ b ∷ []) (lines_left w n xs ys (omega (arith, e)))
    (ap (λ z. take w (drop z (xs ++ ys))) (sym e) ∙ ap (take w) (drop-append_seam xs ys)
    ∙ take_all w ys (omega (arith, f)))

-- number k of line r
pub lines_at : (w n r k : ℕ) (xs : List ℕ) → r < n → k < w
    → get_or (get_or (lines_of w n xs) r []) k 0 ≡ get_or xs (r * w + k) 0
lines_at w n r k xs l m =
    ap (λ z. get_or z k 0) (get_or-map-range_with_len (line_of w xs) 0 n r r [] l (omega arith))
    ∙ get_or-take w (drop (r * w) xs) k 0 m ∙ get_or-drop (r * w) xs k 0

pub line_within : (w n r k : ℕ) → r < n → k < w → r * w + k < n * w
line_within w n r k l m =
    let h : (r + 1) * w ≤ n * w =
    mul-le-mul (let x : r + 1 ≤ n = omega (arith, l) in x) (let y : w ≤ w = omega arith in y) in
    omega (arith, h, m)
