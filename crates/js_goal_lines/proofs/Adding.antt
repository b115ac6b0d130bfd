-- Lines that are added, and those that are left.
use Rattle.std.proofs.Common.{◌≡◌, ℕ, ◌+◌, ◌<◌, List, [], ◌∷◌, ◌++◌, map, flat_map, drop, length, get_or, Result, Ok, Err, OnOk, ap, sym, ◌∙◌, subst, append_assoc}
use Rattle.std.proofs.lemmas.List.{drop_more, map-append}
use Rattle.certificate_lines.specs.Line.{Line}
use Rattle.js_lines.specs.declared.lines.CertLine.{CertLine}
use Rattle.js_lines.specs.View.{line_view}

pub on_ok : {A E : Type 0} (P Q : Type 0) (r : Result A E) → (P → Q) → OnOk r P → OnOk r Q
on_ok P Q (Ok x) f h = f h
on_ok P Q (Err e) f h = tt

-- a line is added
pub one-more : (old new : List CertLine) (x : CertLine) (l : Line) → new ≡ old ++ x ∷ [] → line_view x ≡ l
    → map line_view new ≡ map line_view old ++ l ∷ []
one-more old new x l e is =
    ap (map line_view) e ∙ map-append line_view old (x ∷ []) ∙ ap (λ y. map line_view old ++ y ∷ []) is

-- a piece is added to the lines so far, and is left no more
pub told-all : (now new left more piece all : List Line) → new ≡ now ++ piece → left ≡ piece ++ more
    → now ++ left ≡ all → new ++ more ≡ all
told-all now new left more piece all added e sum =
    ap (λ z. z ++ more) added ∙ append_assoc now piece more ∙ ap (λ z. now ++ z) (sym e) ∙ sum

-- two pieces are one
pub two-pieces : (before now new first second : List Line) → now ≡ before ++ first → new ≡ now ++ second
    → new ≡ before ++ (first ++ second)
two-pieces before now new first second a b =
    b ∙ ap (λ z. z ++ second) a ∙ append_assoc before first second

-- lines that are added are also an equal list of lines
pub same-piece : {A E : Type 0} (r : Result A E) (before new piece other : List Line) → piece ≡ other
    → OnOk r (new ≡ before ++ piece) → OnOk r (new ≡ before ++ other)
same-piece r before new piece other e h = subst (λ z. OnOk r (new ≡ before ++ z)) e h

-- one more of a list, each with its lines
pub next-of : {A B : Type 0} (f : B → List Line) (view : A → B) (xs : List A) (i : ℕ) (d : A) → i < length xs
    → flat_map f (map view (drop i xs)) ≡ f (view (get_or xs i d)) ++ flat_map f (map view (drop (i + 1) xs))
next-of f view xs i d l = ap (λ z. flat_map f (map view z)) (drop_more xs i d l)
