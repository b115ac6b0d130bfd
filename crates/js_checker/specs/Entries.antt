-- Lines that are an entry, and what is found of them by themselves.
use Rattle.std.specs.Prelude.{◌≡◌, ℕ, ◌<◌, List, [], ◌∷◌, map, flat_map, length, get_or, slice_index_or, Bool, true, false, ◌&&◌, nat_lt, Result, Ok, Err, IfOk, is_err}
use Rattle.std.proofs.Common.{ap, sym, ◌∙◌, true≢false}
use Rattle.positions.specs.Position.{Position}
use Rattle.goals.specs.Signed.{Signed}
use Rattle.certificate_lines.specs.Line.{Line}
use Rattle.verdicts.specs.Duties.{Duty, OfGoal, run}
use Rattle.verdicts.specs.Verdict.{cites}
use Rattle.js_lines.specs.View.{line_view}
use Rattle.js_lines.specs.declared.lines.CertLine.{CertLine}
use Rattle.js_checker.specs.declared.piece.Piece.{Piece}

-- no rule was broken, and nothing is left
abbrev pub is_nothing : Result (List Duty) ℕ → Bool
is_nothing (Ok []) = true
is_nothing _ = false

-- the lines do these duties, and are no more than it takes
abbrev pub do_all : List Position → List (List Signed) → List Duty → List Line → Bool
do_all T gs ds ls = is_nothing (run T (cites gs) ds ls)

-- the line doesn't enter the goal of that number, whatever comes after it
abbrev pub EntersNone : ℕ → Line → Type 0
EntersNone n l = (T : List Position) (gs : List (List Signed)) (g : List Signed) (ls : List Line)
    → do_all T gs (OfGoal n g ∷ []) (l ∷ ls) ≡ false

-- the lines are the whole entry of the listed goal of that number
abbrev pub is_entry : List Position → List (List Signed) → ℕ → List Line → Bool
is_entry T gs n ls = nat_lt n (length gs) && do_all T gs (OfGoal n (get_or gs n []) ∷ []) ls

abbrev pub lines_in : Piece → List Line
lines_in p = map line_view p.lines.now

-- the lines of pieces, one after another
abbrev pub joined : List Piece → List CertLine
joined = flat_map (λ p. p.lines.now)

module _ {F : Type 0} where
  -- whether a piece is the entry of its number, or a failure
  abbrev pub Finds : List Position → List (List Signed) → Piece → Result Bool F → Type 0
  Finds T gs p answer = IfOk answer (λ b. b ≡ is_entry T gs p.number (lines_in p))

  abbrev pub AllFound : List Position → List (List Signed) → List Piece → List (Result Bool F) → Type 0
  AllFound T gs ps answers = (i : ℕ) (p : Piece) (d : Result Bool F) → i < length ps
      → Finds T gs (slice_index_or ps i p) (slice_index_or answers i d)

-- two answers are equal, unless one is a failure
pub one_answer : {F : Type 0} (x : Bool) (a b : Result Bool F) → IfOk a (λ d. d ≡ x) → IfOk b (λ d. d ≡ x)
    → is_err a ≡ false → is_err b ≡ false → a ≡ b
one_answer x (Ok d) (Ok e) p q f g = ap (λ t. Ok t) (p ∙ sym q)
one_answer x (Err h) b p q f g = absurd (true≢false f)
one_answer x (Ok d) (Err h) p q f g = absurd (true≢false g)
