-- Groups are put together in any grouping, and the group that requires nothing changes none.
use Rattle.std.proofs.Common.{◌≡◌, ℤ, int_le, cond, Option, Some, None, refl, ap, ◌∙◌, arith}
use Rattle.std.proofs.lemmas.Int.{ints}
use Rattle.std.proofs.lemmas.List.{append_assoc}
use Rattle.number_groups.specs.Group.{Group}
use Rattle.number_finder.specs.SetGroup.{greater, lesser, both}

greater-more : (m k n : ℤ) → cond (int_le (cond (int_le m k) k m) n) n (cond (int_le m k) k m)
    ≡ cond (int_le m (cond (int_le k n) n k)) (cond (int_le k n) n k) m
greater-more m k n = grind (arith, ints)

lesser-more : (m k n : ℤ) → cond (int_le (cond (int_le m k) m k) n) (cond (int_le m k) m k) n
    ≡ cond (int_le m (cond (int_le k n) k n)) m (cond (int_le k n) k n)
lesser-more m k n = grind (arith, ints)

greater-assoc : (a b c : Option ℤ) → greater (greater a b) c ≡ greater a (greater b c)
greater-assoc None b c = refl
greater-assoc (Some m) None c = refl
greater-assoc (Some m) (Some k) None = refl
greater-assoc (Some m) (Some k) (Some n) = ap Some (greater-more m k n)

lesser-assoc : (a b c : Option ℤ) → lesser (lesser a b) c ≡ lesser a (lesser b c)
lesser-assoc None b c = refl
lesser-assoc (Some m) None c = refl
lesser-assoc (Some m) (Some k) None = refl
lesser-assoc (Some m) (Some k) (Some n) = ap Some (lesser-more m k n)

-- groups are put together in any grouping
pub both-assoc : (f g h : Group) → both (both f g) h ≡ both f (both g h)
both-assoc f g h =
    let low = greater-assoc f.low g.low h.low in
    let high = lesser-assoc f.high g.high h.high in
    let ms = append_assoc f.multiples g.multiples h.multiples in
    let bs = append_assoc f.not_multiples g.not_multiples h.not_multiples in
    let ss = append_assoc f.sets g.sets h.sets in
    let ts = append_assoc f.not_sets g.not_sets h.not_sets in
    cc
