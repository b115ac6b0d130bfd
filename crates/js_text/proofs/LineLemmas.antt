-- The lines of a table, written one after another.
use Rattle.std.proofs.Common.{◌≡◌, ℕ, zero, suc, ◌+◌, ◌<◌, ◌≤◌, List, [], ◌∷◌, ◌++◌, length, take, drop, inl, inr, Option, Some, None, refl, sym, ap, subst, ◌∙◌, arith, append_assoc}
use Rattle.std.proofs.lemmas.List.{append-nil, drop_all, take_more}
use Rattle.std.specs.List.{AllWithin, HoldsAt}
use Rattle.std.specs.Option.{MatchOption}
use Rattle.shared_documents.specs.Part.{Part, part_at}
use Rattle.document_texts.specs.PartsText.{line_text, lines_text}
use Rattle.document_text_laws.specs.Lines.{Within, FirstLine}
use Rattle.document_text_laws.proofs.LineLaws.{within-none, within-byte}

drop-part : (ps : List Part) (i : ℕ) → i < length ps → drop i ps ≡ part_at ps i ∷ drop (i + 1) ps
drop-part [] i l = absurd (omega (arith, l))
drop-part (p ∷ ps) zero l = refl
drop-part (p ∷ ps) (suc i) l =
    let one : suc i + 1 ≡ suc (i + 1) = omega arith in
    rw one (drop-part ps i (omega (arith, l)))

-- one line more
pub lines-step : (ps : List Part) (i : ℕ) (p : Part) (old new whole : List ℕ) → i < length ps
    → p ≡ part_at ps i → new ≡ old ++ line_text i p → old ++ lines_text i (drop i ps) ≡ whole
    → new ++ lines_text (i + 1) (drop (i + 1) ps) ≡ whole
lines-step ps i p old new whole l e a b =
    let one : i + 1 ≡ suc i = omega arith in
    let rest = λ (k : ℕ). lines_text k (drop (i + 1) ps) in
    ap (λ xs. xs ++ rest (i + 1)) (a ∙ ap (λ q. old ++ line_text i q) e)
    ∙ append_assoc old (line_text i (part_at ps i)) (rest (i + 1))
    ∙ ap (λ k. old ++ (line_text i (part_at ps i) ++ rest k)) one
    ∙ ap (λ qs. old ++ lines_text i qs) (sym (drop-part ps i l))
    ∙ b

pub lines-end : (ps : List Part) (i : ℕ) (out whole : List ℕ) → length ps ≤ i
    → out ++ lines_text i (drop i ps) ≡ whole → out ≡ whole
lines-end ps i out whole l b =
    sym (append-nil out) ∙ ap (λ qs. out ++ lines_text i qs) (sym (drop_all i ps l)) ∙ b

-- The first line of some bytes, by the place of the first line feed.

-- the place of the first line feed, or that there is none
abbrev pub IsFirstFeed : List ℕ → Option ℕ → Type 0
IsFirstFeed xs o = MatchOption o (AllWithin (λ b. b ≡ 10 → ⊥) xs 0 (length xs))
    (λ i. (i < length xs) × HoldsAt (λ b. b ≡ 10) xs i × AllWithin (λ b. b ≡ 10 → ⊥) xs 0 i)

within-before : (xs : List ℕ) (n : ℕ) → AllWithin (λ b. b ≡ 10 → ⊥) xs 0 n → n ≤ length xs → Within (take n xs)
within-before [] zero h l = within-none
within-before [] (suc n) h l = within-none
within-before (x ∷ xs) zero h l = within-none
within-before (x ∷ xs) (suc n) h l =
    within-byte x (take n xs) (h 0 0 (omega arith) (omega arith))
    (within-before xs n (λ k d a b. h (suc k) d (omega arith) (omega (arith, b))) (omega (arith, l)))

pub first_line-found : (xs line left : List ℕ) (o : Option ℕ) (i : ℕ) → IsFirstFeed xs o → o ≡ Some i
    → line ≡ take (i + 1) xs → xs ≡ line ++ left → FirstLine line left xs
first_line-found xs line left o i first is cut both =
    let (l, feed, before) = subst (IsFirstFeed xs) is first in record {
      text = sym both;
      ends = inl (
        take i xs,
        cut ∙ take_more xs i 0 l ∙ ap (λ b. take i xs ++ b ∷ []) (feed 0),
        within-before xs i before (omega (arith, l)),
      );
    }

pub first_line-none : (xs line left : List ℕ) (o : Option ℕ) → IsFirstFeed xs o → o ≡ None
    → line ≡ take (length xs) xs → left ≡ drop (length xs) xs → xs ≡ line ++ left → FirstLine line left xs
first_line-none xs line left o first is cut rest both = record {
  text = sym both;
  ends = inr (
    rest ∙ drop_all (length xs) xs (omega arith),
    subst Within (sym cut) (within-before xs (length xs) (subst (IsFirstFeed xs) is first) (omega arith)),
  );
}
