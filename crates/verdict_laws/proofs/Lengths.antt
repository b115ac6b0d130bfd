-- Least lengths that keep the rule bound the length of each word that leads to a row; so a word that is wanted has too
-- many characters.
use Rattle.std.proofs.Common.{◌≡◌, ℕ, suc, ◌+◌, ◌≤◌, Bool, true, ◌&&◌, ◌||◌, not, List, [], ◌∷◌, ◌++◌, length, get_or, nat_eq, nat_le, refl, sym, ◌∙◌, subst, arith}
use Rattle.std.proofs.lemmas.Bool.{and_parts, and_from, leb-true, eqb-true}
use Rattle.std.specs.List.{list_all, range_with_len}
use Rattle.documents.specs.Tests.{every}
use Rattle.patterns.specs.CharSet.{is_scalar}
use Rattle.word_states.specs.Classes.{class_count, class_of}
use Rattle.positions.specs.Position.{Position}
use Rattle.goals.specs.Signed.{Signed}
use Rattle.list_laws.proofs.Lists.{every_at}
use Rattle.list_laws.proofs.Tests.{in_range}
use Rattle.cell_laws.specs.Leading.{walk}
use Rattle.cell_laws.specs.RowTables.{IsRowOf}
use Rattle.cell_laws.proofs.Tables.{walked, to, class_below}
use Rattle.frames.specs.Frame.{is_at_end}
use Rattle.finders.specs.Strings.{string_atoms, below, is_wanted}
use Rattle.finder_laws.proofs.Wanted.{wanted_same}
use Rattle.verdicts.specs.RowLines.{Table, stated}
use Rattle.verdicts.specs.Leaves.{least_right, least_past}
use Rattle.verdict_laws.proofs.RowsTaken.{AreStated}
use Rattle.frame_laws.proofs.Ends.{at_end_up}

module _ (T : List Position) (S : List Signed) (t : Table (List ℕ)) (h : AreStated (string_atoms T S) t) (ds : List ℕ)
    (right : least_right T S (string_atoms T S) t ds ≡ true) where
  abbrev label : ℕ → ℕ
  label r = get_or ds r 0

  abbrev one_up : ℕ → Bool
  one_up r =
      every (λ k. nat_le (get_or ds (stated t r k) 0) (suc (get_or ds r 0)))
      (range_with_len 0 (class_count (string_atoms T S)))

  begins : (label 0 ≡ 0) × (every one_up (range_with_len 0 (length t.words)) ≡ true)
  begins =
      let (a, b) = and_parts (nat_eq (length ds) (length t.words))
      (nat_eq (get_or ds 0 0) 0 && every one_up (range_with_len 0 (length t.words))) right in
      let (c, d) = and_parts (nat_eq (get_or ds 0 0) 0) (every one_up (range_with_len 0 (length t.words))) b in
      (eqb-true (get_or ds 0 0) 0 c, d)

  -- the row to which a word leads
  abbrev leads_to : ℕ → List ℕ → ℕ
  leads_to r w = walk (to (string_atoms T S) t.words (stated t) h.leads) r w

  climbs : (r : ℕ) (u w : List ℕ) → IsRowOf (string_atoms T S) t.words u r → list_all is_scalar w ≡ true
      → label (leads_to r w) ≤ label r + length w
  climbs r u [] i s = omega arith
  climbs r u (c ∷ w) i s =
      let (a, b) = and_parts (is_scalar c) (list_all is_scalar w) s in
      let k = class_of (string_atoms T S) c in
      let one = walked (string_atoms T S) t.words (stated t) h.leads r u (c ∷ []) i
      (and_from (is_scalar c) true a refl) in
      let row = every_at one_up r (range_with_len 0 (length t.words)) begins.1 (in_range (length t.words) r i.0) in
      let l = leb-true (get_or ds (stated t r k) 0) (suc (get_or ds r 0))
      (every_at (λ k. nat_le (get_or ds (stated t r k) 0) (suc (get_or ds r 0))) k
      (range_with_len 0 (class_count (string_atoms T S))) row
      (in_range (class_count (string_atoms T S)) k
      (class_below (string_atoms T S) t.words (stated t) h.leads c a))) in
      omega (arith, l, climbs (stated t r k) (u ++ c ∷ []) w one b)

  -- where least lengths are past the bound, each wanted word is too long
  pub wanted_past : least_past T S t ds ≡ true → (w : List ℕ) → list_all is_scalar w ≡ true → is_wanted T S w ≡ true
      → is_at_end (length w) (below T S) ≡ true
  wanted_past past w s want =
      let r = leads_to 0 w in
      let (l, e) = walked (string_atoms T S) t.words (stated t) h.leads 0 [] w h.first s in
      let here = every_at
      (λ r. not (is_wanted T S (get_or t.words r [])) || is_at_end (get_or ds r 0) (below T S)) r
      (range_with_len 0 (length t.words)) past (in_range (length t.words) r l) in
      let there : is_wanted T S (get_or t.words r []) ≡ true =
      sym (wanted_same T S w (get_or t.words r []) e) ∙ want in
      let end : is_at_end (label r) (below T S) ≡ true =
      subst (λ b. (not b || is_at_end (label r) (below T S)) ≡ true) there here in
      let c = climbs 0 [] w h.first s in
      at_end_up (label r) (length w) (below T S) (omega (arith, c, begins.0)) end
