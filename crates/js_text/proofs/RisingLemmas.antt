-- Members whose names are sorted are those whose names rise.
use Rattle.std.proofs.Common.{◌≡◌, ℕ, zero, suc, ◌+◌, ◌<◌, List, [], ◌∷◌, length, map, get_or, Bool, true, false, ◌&&◌, refl, sym, ap, subst, ◌∙◌, arith}
use Rattle.std.proofs.lemmas.Bool.{and_from}
use Rattle.std.specs.List.{IsAllAdjacentAnswer}
use Rattle.documents.specs.Tests.{comes_before}
use Rattle.shared_documents.specs.Part.{members_rise}
use Rattle.js_doc.specs.declared.parts.PartMember.{PartMember}
use Rattle.js_doc.specs.PartMembers.{member_view}

and-false : (b : Bool) → (b && false) ≡ false
and-false true = refl
and-false false = refl

risen : (ms : List PartMember) → ((k : ℕ) (d : PartMember) → k + 1 < length ms
    → true ≡ comes_before (get_or ms k d).name (get_or ms (k + 1) d).name) → members_rise (map member_view ms) ≡ true
risen [] h = refl
risen (m ∷ []) h = refl
risen (m ∷ n ∷ ms) h =
    and_from (comes_before m.name n.name) (members_rise (map member_view (n ∷ ms))) (sym (h 0 m (omega arith)))
    (risen (n ∷ ms) (λ k d l.
    let next : suc k + 1 ≡ suc (k + 1) = omega arith in
    subst (λ i. true ≡ comes_before (get_or (n ∷ ms) k d).name (get_or (m ∷ n ∷ ms) i d).name) next
    (h (suc k) d (omega (arith, l)))))

unrisen : (ms : List PartMember) (k : ℕ) → k + 1 < length ms → ((d : PartMember)
    → false ≡ comes_before (get_or ms k d).name (get_or ms (k + 1) d).name) → members_rise (map member_view ms) ≡ false
unrisen [] k l h = absurd (omega (arith, l))
unrisen (m ∷ []) k l h = absurd (omega (arith, l))
unrisen (m ∷ n ∷ ms) zero l h = ap (λ b. b && members_rise (map member_view (n ∷ ms))) (sym (h m))
unrisen (m ∷ n ∷ ms) (suc k) l h =
    ap (λ b. comes_before m.name n.name && b) (unrisen (n ∷ ms) k (omega (arith, l)) (λ d.
    let next : suc k + 1 ≡ suc (k + 1) = omega arith in
    subst (λ i. false ≡ comes_before (get_or (n ∷ ms) k d).name (get_or (m ∷ n ∷ ms) i d).name) next (h d)))
    ∙ and-false (comes_before m.name n.name)

pub sorted-rise : (ms : List PartMember) (r : Bool)
    → IsAllAdjacentAnswer (λ m n b. b ≡ comes_before m.name n.name) ms r → r ≡ members_rise (map member_view ms)
sorted-rise ms true h = sym (risen ms (λ k d l. h k d l))
sorted-rise ms false h = sym (unrisen ms h.0 h.1 h.2)
