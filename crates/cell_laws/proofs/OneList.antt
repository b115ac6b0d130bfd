-- There is one list of first words of each length; so a greedy word is the first.
use Rattle.std.proofs.Common.{◌≡◌, ℕ, ◌*◌, ◌≤◌, ◌<◌, inl, inr, List, [], ◌∷◌, filter, take, length, Bool, true, refl, sym, ◌∙◌, subst, arith}
use Rattle.std.specs.List.{list_all}
use Rattle.std.proofs.lemmas.Bool.{and_from, cases_lt}
use Rattle.std.proofs.lemmas.List.{length-take}
use Rattle.patterns.specs.CharSet.{is_scalar}
use Rattle.word_states.specs.Atom.{Atom}
use Rattle.word_states.specs.WordState.{have_same_state}
use Rattle.cell_laws.specs.Leading.{AllIn, Leads}
use Rattle.cell_laws.specs.FirstWords.{Before, IsOrdered, AreFirst, IsRelaxed, IsGreedy}
use Rattle.cell_laws.proofs.WordLaws as G
use Rattle.cell_laws.proofs.Ranks.{first_same}
use Rattle.list_laws.specs.In.{IsIn, Distinct}
use Rattle.cells.specs.WordsInOrder.{shorter}
use Rattle.cell_laws.specs.RowTables.{IsRowOf, LeadsOn}
use Rattle.cell_laws.proofs.Tables as T
use Rattle.cell_laws.proofs.FirstWords as F

module _ (atoms : List Atom) (L : List (List ℕ)) (target : ℕ → ℕ → ℕ) (leads : LeadsOn atoms L target) (start : ℕ)
    (first : IsRowOf atoms L [] start)
    (p : List ℕ → Bool) (shared : (v w : List ℕ) → have_same_state atoms v w ≡ true → p v ≡ p w)
    (characters : List ℕ) (different : Distinct characters) (scalars : (c : ℕ) → IsIn c characters → is_scalar c ≡ true)
    (whole : (c : ℕ) → is_scalar c ≡ true → IsIn c characters)
    (rank : ℕ → ℕ) (ordered : IsOrdered (λ c d. rank c < rank d) characters)
    (apart : (c d : ℕ) → IsIn c characters → IsIn d characters → rank c ≡ rank d → c ≡ d) (far : ℕ) where
  abbrev to : ℕ → ℕ → ℕ
  to = T.to atoms L target leads

  abbrev in_rows : ℕ → Bool
  in_rows = T.in_rows atoms L target leads p shared

  abbrev passing : List (List ℕ)
  passing = filter p (shorter characters far)

  from_all : (w : List ℕ) → AllIn characters w → list_all is_scalar w ≡ true
  from_all [] a = refl
  from_all (c ∷ w) a =
      and_from (is_scalar c) (list_all is_scalar w)
      (scalars c a.0) (from_all w a.1)

  same_list : (ws : List (List ℕ)) → AreFirst rank characters to in_rows start ws → length ws ≤ length passing
      → ws ≡ take (length ws) passing
  same_list ws f l =
      first_same rank characters apart (G.asym rank) to in_rows start [] ws (take (length ws) passing) f
      (F.are_first atoms L target leads start first p shared characters different scalars whole far rank ordered
      (length ws))
      (let e = length-take (length ws) passing in grind (arith, e, l))

  -- words that pass, in order, with each all that are before it, are the first ones
  pub one_list : (ws : List (List ℕ)) → IsOrdered (Before rank) ws
      → ((w : List ℕ) → IsIn w ws → (list_all is_scalar w ≡ true) × (p w ≡ true))
      → ((v w : List ℕ) → IsIn w ws → list_all is_scalar v ≡ true → p v ≡ true → Before rank v w → IsIn v ws)
      → length ws ≤ length passing → ws ≡ take (length ws) passing
  one_list ws o h d l =
      same_list ws (
        o,
        T.all_lead atoms L target leads p shared characters different scalars whole start [] first ws h,
        (λ v w i k b.
            let s = from_all v k.0 in
            d v w i s (sym (T.tested atoms L target leads p shared start [] v first s) ∙ k.1) b),
      ) l

  greedy_leads : (label : ℕ → ℕ) (r : ℕ) (w : List ℕ) → IsGreedy rank characters to in_rows label r w
      → Leads characters to in_rows r w
  greedy_leads label r [] g = (tt, g)
  greedy_leads label r (c ∷ w) g = let h = greedy_leads label (to r c) w g.3 in ((g.0, h.0), h.1)

  -- a word whose letters are each the first that leads nearer is the first word
  pub greedy_is : (bound : ℕ) → length L * bound ≤ far → 0 < bound → (label : ℕ → ℕ)
      → IsRelaxed (length L) characters to in_rows label
      → (w : List ℕ) → label start ≡ length w → IsGreedy rank characters to in_rows label start w
      → take 1 passing ≡ w ∷ []
  greedy_is bound enough some label relaxed w e g =
      let h = greedy_leads label start w g in
      let s = from_all w h.0 in
      let t : p w ≡ true = sym (T.tested atoms L target leads p shared start [] w first s) ∙ h.1 in
      sym (same_list (w ∷ []) (
        ((λ y i. absurd i), tt),
        (h, tt),
        (λ v u i k b. elim i [
          | inl q ↦ absurd (G.greedy_first rank characters to in_rows (length L) label
              (T.closed atoms L target leads p shared characters different scalars whole) relaxed start w v first.0 e
              g k
              (subst (λ z. Before rank v z) q b))
          | inr j ↦ absurd j
        ]),
      )
      (elim (cases_lt 0 (length passing)) [
        | inl l ↦ omega (arith, l)
        | inr l ↦ T.no_others atoms L target leads p shared characters different scalars whole bound far enough start
            [] first (omega (arith, l, some))
            (w ∷ []) ((λ i. i), tt) (λ v i. elim i [
              | inl q ↦ (subst (λ z. list_all is_scalar z ≡ true) (sym q) s, subst (λ z. p z ≡ true) (sym q) t)
              | inr j ↦ absurd j
            ])
      ]))
