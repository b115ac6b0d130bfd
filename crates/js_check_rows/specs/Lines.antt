-- A list that is cut into lines of one length.
use Rattle.std.specs.Prelude.{ℕ, ◌*◌, List, map, take, drop}
use Rattle.std.specs.List.{range_with_len}

abbrev pub line_of : ℕ → List ℕ → ℕ → List ℕ
line_of width xs r = take width (drop (r * width) xs)

-- the first n lines
abbrev pub lines_of : ℕ → ℕ → List ℕ → List (List ℕ)
lines_of width n xs = map (line_of width xs) (range_with_len 0 n)
