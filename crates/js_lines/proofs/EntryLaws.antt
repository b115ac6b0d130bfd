-- The entries that were read so far, and one word more.
use Rattle.std.proofs.Common.{◌≡◌, ℕ, ◌+◌, ◌<◌, Bool, true, false, cond, List, [], ◌∷◌, ◌++◌, map, drop, length, get_or, Option, Some, None, option_map, Bor, refl, ap, sym, ◌∙◌, append_assoc}
use Rattle.std.specs.Prelude.{codes, option_and_then}
use Rattle.std.proofs.lemmas.List.{map-append, drop_more}
use Rattle.certificate_lines.specs.Line as L
use Rattle.certificate_lines.specs.Pieces.{is_word}
use Rattle.certificate_lines.specs.Reading.{number_of, bare_entry, entries_on}
use Rattle.js_lines.specs.View.{entry_view}
use Rattle.js_lines.specs.declared.lines.ShortEntry.{ShortEntry}
use Rattle.js_lines.specs.declared.lines.ShortEntry.TheVariants as S

abbrev texts : List (Bor (List ℕ)) → List (List ℕ)
texts ws = map (λ w. w.now) ws

-- the entries of a list, and those that are still to come
abbrev with_rest : List ShortEntry → Option (List L.ShortEntry) → Option (List L.ShortEntry)
with_rest list o = option_map (λ fs. map entry_view list ++ fs) o

pushed : (list more : List ShortEntry) (e : ShortEntry) (o : Option (List L.ShortEntry)) → more ≡ list ++ e ∷ []
    → with_rest more o ≡ with_rest list (option_map (λ fs. entry_view e ∷ fs) o)
pushed list more e None p = refl
pushed list more e (Some fs) p =
    ap (λ es. Some (map entry_view es ++ fs)) p
    ∙ ap (λ es. Some (es ++ fs)) (map-append entry_view list (e ∷ []))
    ∙ ap Some (append_assoc (map entry_view list) (entry_view e ∷ []) fs)

next-word : (b : Bool) (ws : List (Bor (List ℕ))) (i : ℕ) (d : Bor (List ℕ)) → i < length ws
    → entries_on b (texts (drop i ws)) ≡ entries_on b ((get_or ws i d).now ∷ texts (drop (i + 1) ws))
next-word b ws i d l = ap (λ vs. entries_on b (texts vs)) (drop_more ws i d l)

module _ (ws : List (Bor (List ℕ))) (i : ℕ) (d : Bor (List ℕ)) (l : i < length ws) (list more : List ShortEntry)
    (was is : Bool) (all : Option (List L.ShortEntry))
    (h : with_rest list (entries_on was (texts (drop i ws))) ≡ all) where
  -- the number of a goal
  pub number-preserved : (k : ℕ) → was ≡ true → is ≡ false → Some k ≡ number_of (get_or ws i d).now
      → more ≡ list ++ S.Goal k ∷ []
      → with_rest more (entries_on is (texts (drop (i + 1) ws))) ≡ all
  number-preserved k a b number p =
      ap (λ s. with_rest more (entries_on s rest)) b ∙ pushed list more (S.Goal k) (entries_on false rest) p
      ∙ ap (λ o. with_rest list
      (option_and_then (λ k. option_map (λ fs. L.Ends (L.Cites k) ∷ fs) (entries_on false rest)) o)) number
      ∙ ap (with_rest list) (sym (next-word true ws i d l))
      ∙ ap (λ s. with_rest list (entries_on s (texts (drop i ws)))) (sym a) ∙ h
    where
      rest : List (List ℕ)
      rest = texts (drop (i + 1) ws)

  -- the word before a number
  pub goal-preserved : was ≡ false → is ≡ true → true ≡ is_word (codes "goal") (get_or ws i d).now → more ≡ list
      → with_rest more (entries_on is (texts (drop (i + 1) ws))) ≡ all
  goal-preserved a b word p =
      (λ j. with_rest (p j) (entries_on (b j) rest))
      ∙ ap (λ s. with_rest list (cond s (entries_on true rest)
      (option_and_then (λ f. option_map (λ fs. f ∷ fs) (entries_on false rest)) (bare_entry (get_or ws i d).now)))) word
      ∙ ap (with_rest list) (sym (next-word false ws i d l))
      ∙ ap (λ s. with_rest list (entries_on s (texts (drop i ws)))) (sym a) ∙ h
    where
      rest : List (List ℕ)
      rest = texts (drop (i + 1) ws)

  -- an entry
  pub bare-preserved : (e : ShortEntry) → was ≡ false → is ≡ was → false ≡ is_word (codes "goal") (get_or ws i d).now
      → Some (entry_view e) ≡ bare_entry (get_or ws i d).now → more ≡ list ++ e ∷ []
      → with_rest more (entries_on is (texts (drop (i + 1) ws))) ≡ all
  bare-preserved e a b word bare p =
      ap (λ s. with_rest more (entries_on s rest)) (b ∙ a) ∙ pushed list more e (entries_on false rest) p
      ∙ ap (λ o. with_rest list
      (option_and_then (λ f. option_map (λ fs. f ∷ fs) (entries_on false rest)) o)) bare
      ∙ ap (λ s. with_rest list (cond s (entries_on true rest)
      (option_and_then (λ f. option_map (λ fs. f ∷ fs) (entries_on false rest)) (bare_entry (get_or ws i d).now)))) word
      ∙ ap (with_rest list) (sym (next-word false ws i d l))
      ∙ ap (λ s. with_rest list (entries_on s (texts (drop i ws)))) (sym a) ∙ h
    where
      rest : List (List ℕ)
      rest = texts (drop (i + 1) ws)
