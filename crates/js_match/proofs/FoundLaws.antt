-- A pattern is found where the walk from all places ends somewhere.
use Rattle.std.proofs.Common.{◌≡◌, ℕ, ◌≤◌, List, [], ◌∷◌, length, true, nat_le, Ok, refl, sym, ap, subst, ◌∙◌, arith, true≢false}
use Rattle.patterns.specs.Tree.{Tree, empty, one_of, at_start, at_end, in_turn, either, repeated, no_trees, tree}
use Rattle.patterns.specs.Match.{Matches}
use Rattle.patterns.specs.Decision.{finds}
use Rattle.pattern_laws.proofs.Decides.{finds-decides}
use Rattle.js_pattern.specs.Grammar.{pattern}
use Rattle.js_match.specs.Anchors.{is_start, is_anchored}
use Rattle.js_match.specs.Matching.{read_finds, matches}
use Rattle.js_match.specs.Places.{is_at, IsAt, Leads, has_place}
use Rattle.js_match.proofs.LeadsLaws.{here_at, match_within}
use Rattle.list_laws.proofs.Booleans.{same_test}
use Rattle.std.proofs.lemmas.Bool.{le-leb, leb-true}

place-some : (j : ℕ) (xs : List ℕ) → IsAt j xs → has_place xs ≡ true
place-some j [] h = absurd (true≢false (sym h))
place-some j (x ∷ xs) h = refl

some-place : (xs : List ℕ) → has_place xs ≡ true → (j : ℕ) × IsAt j xs
some-place [] h = absurd (true≢false (sym h))
some-place (x ∷ xs) h = (x, here_at x xs)

-- from all places of a word a tree leads somewhere exactly where it is found in the word
pub found-in : (t : Tree) (w starts ends : List ℕ) → ((j : ℕ) → is_at j starts ≡ nat_le j (length w))
    → Leads (Matches t w) starts ends → has_place ends ≡ finds t w
found-in t w starts ends all leads =
    let decides = finds-decides t w in
    same_test (has_place ends) (finds t w)
    (λ h.
    let (j, a) = some-place ends h in
    let (i, b, m) = leads.sound j a in
    let il = leb-true i (length w) (sym (all i) ∙ b) in
    decides.1 (i, j, il, match_within t w i j il m, m))
    (λ h.
    let (i, j, il, jl, m) = decides.0 h in
    place-some j ends (leads.complete i j (all i ∙ le-leb i (length w) il) m))

-- ---- from the start alone

start-zero : (t : Tree) (w : List ℕ) (i j : ℕ) → is_start t ≡ true → Matches t w i j → i ≡ 0
start-zero empty w i j h m = absurd (true≢false (sym h))
start-zero (one_of s) w i j h m = absurd (true≢false (sym h))
start-zero at_start w i j h m = m.0
start-zero at_end w i j h m = absurd (true≢false (sym h))
start-zero (in_turn ts) w i j h m = absurd (true≢false (sym h))
start-zero (either ts) w i j h m = absurd (true≢false (sym h))
start-zero (repeated t low high) w i j h m = absurd (true≢false (sym h))

anchored-zero : (t : Tree) (w : List ℕ) (i j : ℕ) → is_anchored t ≡ true → Matches t w i j → i ≡ 0
anchored-zero empty w i j h m = absurd (true≢false (sym h))
anchored-zero (one_of s) w i j h m = absurd (true≢false (sym h))
anchored-zero at_start w i j h m = m.0
anchored-zero at_end w i j h m = absurd (true≢false (sym h))
anchored-zero (in_turn no_trees) w i j h m = absurd (true≢false (sym h))
anchored-zero (in_turn (tree t ts)) w i j h m = start-zero t w i m.0 h m.1
anchored-zero (either ts) w i j h m = absurd (true≢false (sym h))
anchored-zero (repeated t low high) w i j h m = absurd (true≢false (sym h))

pub found-at-start : (t : Tree) (w ends : List ℕ) → is_anchored t ≡ true
    → Leads (Matches t w) (0 ∷ []) ends → has_place ends ≡ finds t w
found-at-start t w ends anchored leads =
    let decides = finds-decides t w in
    same_test (has_place ends) (finds t w)
    (λ h.
    let (j, a) = some-place ends h in
    let (i, b, m) = leads.sound j a in
    let zero = anchored-zero t w i j anchored m in
    let il : i ≤ length w = omega (arith, zero) in
    decides.1 (i, j, il, match_within t w i j il m, m))
    (λ h.
    let (i, j, il, jl, m) = decides.0 h in
    place-some j ends (leads.complete i j
    (subst (λ k. IsAt k (0 ∷ [])) (sym (anchored-zero t w i j anchored m)) (here_at 0 [])) m))

pub matches-read : (text w : List ℕ) (t : Tree) → pattern text ≡ Ok t → finds t w ≡ matches text w
unfolding matches
matches-read text w t e = sym (ap (λ r. read_finds r w) e)
