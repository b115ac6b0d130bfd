-- Validity over the entries of a table with ranks keeps its one-step equation, and is the only meaning that does.
use Rattle.std.proofs.Common.{◌≡◌, ℕ, zero, suc, ◌<◌, ◌≤◌, List, [], ◌∷◌, length, Bool, true, false, nat_lt, nat_le, refl, ap, sym, ◌∙◌, arith}
use Rattle.std.proofs.lemmas.Bool.{and_parts}
use Rattle.std.specs.List.{AllByRecursion}
use Rattle.documents.specs.Tests.{every}
use Rattle.documents.specs.Document.{Document, depth}
use Rattle.levels.specs.Levels.{met_here, met_below, is_met}
use Rattle.levels.specs.Within.{RankedWithin, AreAlike}
use Rattle.levels.proofs.LevelsLaws.{weaker}
use Rattle.levels.proofs.WithinLaws.{is_met-more, is_met-within, is_met-only}
use Rattle.schemas.specs.Weight.{most_weight}
use Rattle.schemas.specs.Entry.{Never, Entry}
use Rattle.schemas.specs.Schema.{in_place, of_parts, names_below, form_in_range, total_size, is_table}
use Rattle.draft06.specs.EntryValidity.{asks, form_at, entry_valid}
use Rattle.draft06_laws.specs.Ranks.{FallInPlace}
use Rattle.draft06_laws.proofs.EntryLocal.{asks_same}

all_below : (n : ℕ) (es : List ℕ) → every (λ e. nat_lt e n) es ≡ true → AllByRecursion (λ e. e < n) es
all_below n [] h = tt
all_below n (e ∷ es) h =
    let both = and_parts (nat_lt e n) (every (λ i. nat_lt i n) es) h in
    let first = both.0 in (grind (arith, first), all_below n es both.1)

form_below : (n : ℕ) (es : List Entry) (e : ℕ) → every (λ e. names_below n e.form) es ≡ true
    → names_below n (form_at es e) ≡ true
form_below n [] e h = refl
form_below n (f ∷ fs) zero h =
    let parts = and_parts (names_below n f.form) (every (λ e. names_below n e.form) fs) h in parts.0
form_below n (f ∷ fs) (suc e) h =
    let parts = and_parts (names_below n f.form) (every (λ e. names_below n e.form) fs) h in form_below n fs e parts.1

-- past the last entry nothing is accepted
pub form_at-past : (es : List Entry) (e : ℕ) → length es ≤ e → form_at es e ≡ Never
form_at-past [] e h = refl
form_at-past (f ∷ fs) zero h = absurd (omega (arith, h))
form_at-past (f ∷ fs) (suc e) h = form_at-past fs e (omega (arith, h))

names_of : (es : List Entry) → is_table es ≡ true → every (λ e. names_below (length es) e.form) es ≡ true
names_of es h =
    let weight = and_parts _ (nat_le (total_size es) most_weight) h in
    let range = and_parts _ (every (λ e. form_in_range e.form) es) weight.0 in
    let names = and_parts (nat_lt 0 (length es)) (every (λ e. names_below (length es) e.form) es) range.0 in names.1

abbrev pub IsEntry : List Entry → ℕ → Type 0
IsEntry es e = e < length es

-- what the entry with a number asks, and which entries it names in place
abbrev pub entry_asks : (List ℕ → List ℕ → Bool) → List Entry → (ℕ → Bool) → (ℕ → Document → Bool) → ℕ → Document → Bool
entry_asks matches es here below e J = asks matches here below (form_at es e) J

abbrev pub named_in_place : List Entry → ℕ → List ℕ
named_in_place es e = in_place (form_at es e)

module _ (matches : List ℕ → List ℕ → Bool) (es : List Entry) (table : is_table es ≡ true) where
  names_entries : (e : ℕ) → names_below (length es) (form_at es e) ≡ true
  names_entries e = form_below (length es) es e (names_of es table)

  in_place_below : (e : ℕ) → AllByRecursion (IsEntry es) (named_in_place es e)
  in_place_below e =
      let parts = and_parts (every (λ i. nat_lt i (length es)) (in_place (form_at es e)))
      (every (λ i. nat_lt i (length es)) (of_parts (form_at es e))) (names_entries e) in
      all_below (length es) (in_place (form_at es e)) parts.0

  pub parts_below : (e : ℕ) → AllByRecursion (IsEntry es) (of_parts (form_at es e))
  parts_below e =
      let parts = and_parts (every (λ i. nat_lt i (length es)) (in_place (form_at es e)))
      (every (λ i. nat_lt i (length es)) (of_parts (form_at es e))) (names_entries e) in
      all_below (length es) (of_parts (form_at es e)) parts.1

  pub local : AreAlike (entry_asks matches es) (entry_asks matches es) (λ e. e) (IsEntry es) (named_in_place es)
  local here here' below below' e J i h b =
      asks_same matches here here' below below' (form_at es e) J h
      (weaker (IsEntry es) _ (of_parts (form_at es e)) (λ q k K l. b q K k l) (parts_below e))

  module _ (rank : ℕ → ℕ) (falls : FallInPlace es rank) where
    -- entries name in place only entries of lesser rank, so that the recursion over steps in place ends
    pub ranked : RankedWithin (IsEntry es) (named_in_place es) (length es) rank
    ranked = record { bounded = falls.bounded; falls = falls.falls; closed = λ e i. in_place_below e }

    -- what lies in a document
    abbrev lesser : Document → ℕ → Document → Bool
    lesser J = met_below (entry_asks matches es) (length es) (depth J)

    past_last : (n e : ℕ) (J : Document) → form_at es e ≡ Never
        → met_here (entry_asks matches es) (length es) (lesser J) n e J ≡ false
    past_last zero e J h = refl
    past_last (suc n) e J h =
        ap (λ f. asks matches (λ q. met_here (entry_asks matches es) (length es) (lesser J) n q J) (lesser J) f J) h

    equation : (e : ℕ) (J : Document) (test : Bool) → nat_lt e (length es) ≡ test
        → entry_valid matches es e J
        ≡ asks matches (λ q. entry_valid matches es q J) (entry_valid matches es) (form_at es e) J
    unfolding entry_valid is_met
    equation e J true h =
        is_met-within (entry_asks matches es) (IsEntry es) (named_in_place es) local (length es) rank ranked e J
        (grind (arith, h))
    equation e J false h =
        let past = form_at-past es e (grind (arith, h)) in
        past_last (length es) e J past
        ∙ ap (λ f. asks matches (λ q. entry_valid matches es q J) (entry_valid matches es) f J) (sym past)

    -- the equation of validity: all that a validator needs
    pub entry_valid-asks : (e : ℕ) (J : Document)
        → entry_valid matches es e J
        ≡ asks matches (λ q. entry_valid matches es q J) (entry_valid matches es) (form_at es e) J
    entry_valid-asks e J = equation e J (nat_lt e (length es)) refl

    -- more steps in place change nothing
    pub entry_valid-more : (n e : ℕ) (J : Document) → length es ≤ n → e < length es
        → is_met (entry_asks matches es) n e J ≡ entry_valid matches es e J
    unfolding entry_valid
    entry_valid-more n e J h i =
        is_met-more (entry_asks matches es) (IsEntry es) (named_in_place es) local (length es) rank ranked n e J h i

    -- any meaning that keeps the equation is validity
    pub entry_valid-only : (m : ℕ → Document → Bool)
        → ((e : ℕ) (J : Document) → e < length es → m e J ≡ asks matches (λ q. m q J) m (form_at es e) J)
        → (e : ℕ) (J : Document) → e < length es → m e J ≡ entry_valid matches es e J
    unfolding entry_valid
    entry_valid-only m eq e J i =
        is_met-only (entry_asks matches es) (IsEntry es) (named_in_place es) local (length es) rank ranked m eq e J i
