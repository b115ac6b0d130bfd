-- The alternative of a goal's answer, for an expander that keeps its laws: its words are there, and its names differ.
use Rattle.std.proofs.Common.{◌≡◌, ◌<◌, ℕ, List, map, length, Bool, true, ◌&&◌, nat_eq, Some, is_some, slice_get, Result, Ok, Err, IfOk, refl, ap, ap₂, sym, ◌∙◌, subst, eq-eqb}
use Rattle.std.proofs.lemmas.Bool.{and_from}
use Rattle.documents.specs.Tests.{every, same_word}
use Rattle.documents.specs.Kind as K
use Rattle.documents.specs.Kind.{Kind, same_kind}
use Rattle.goals.specs.Signed.{Signed}
use Rattle.list_laws.proofs.Lists.{every_at}
use Rattle.list_laws.proofs.Tests.{some_from}
use Rattle.alternatives.specs.Alternative.{Text, Members}
use Rattle.alternatives.specs.Slots.{capacity, cell_at, word_at, has_room, has_words, are_different, has_fitting_slots, has_different_slots, has_different_words}
use Rattle.alternatives.specs.Expansion.{Expansion, names_branch}
use Rattle.search.specs.Rounds.{Numbered, alternatives_of, round}
use Rattle.search.specs.Uses as U
use Rattle.search.specs.Uses.{satisfied, chosen_in, contents_in, contents_of, round_before, contents}
use Rattle.search.specs.Witness.{named, by_shape, of_goal, part}
use Rattle.search_laws.proofs.Rise.{answer_round}
use Rattle.search_laws.proofs.Used.{Entered, entered}
use Rattle.search_laws.proofs.Names.{IsNumbered, numbered_of, contents_room, contents_apart, text_room}
use Rattle.expander_laws.specs.Expander.{words_by}
use Rattle.js_explore.specs.Exploration.{Exploration, Explores, alternatives_at}
use Rattle.js_rounds.specs.Spread.{spread}
use Rattle.js_rounds.specs.State.{AreRounds, answer_to, contents_at}
use Rattle.js_rounds.specs.declared.rounds.Rounds.{Rounds}
use Rattle.js_rounds.specs.declared.runs.Run.{Run}
use Rattle.js_rounds.proofs.Using.{chosen_same, contents_same}
use Rattle.position_laws.proofs.SameKind.{same_kind-refl}

pub if_ok : {A E : Type 0} {P Q : A → Type 0} (r : Result A E) → ((x : A) → P x → Q x) → IfOk r P → IfOk r Q
if_ok (Ok x) f h = f x h
if_ok (Err e) f h = tt

module _ (X : List Signed → Expansion) (takes : List Signed → Bool)
    (cells : List Signed → Kind → ℕ → List (List (List ℕ)))
    (words_named : (g : List Signed) → takes g ≡ true
    → every (λ a. has_words (cells g a.kind a.branch) a) (X g).alternatives ≡ true)
    (slots_fit : (g : List Signed) → takes g ≡ true → every has_fitting_slots (X g).alternatives ≡ true)
    (slots_differ : (g : List Signed) → takes g ≡ true → every has_different_slots (X g).alternatives ≡ true)
    (words_differ : (g : List Signed) → takes g ≡ true
    → every (λ a. has_different_words (cells g a.kind a.branch)) (X g).alternatives ≡ true)
    (e : Exploration) (x : Explores X e) (r : Rounds) (h : AreRounds X e.found r) (n : ℕ)
    (answered : is_some (satisfied X e.found n) ≡ true) (g : List Signed) (at : slice_get e.found.goals n ≡ Some g)
    (taken : takes g ≡ true) (a : Numbered) (choice : chosen_in (alternatives_at e n) (answer_to r n) ≡ Some a)
    (runs : List Run) (ran : spread runs ≡ contents_at e r n) where
  reached : round X e.found (length e.found.goals) n ≡ true
  reached = sym (answer_round X e.found (length e.found.goals) n) ∙ answered

  found : Entered X e.found n
  found = entered X e.found (length e.found.goals) n reached

  chosen_is : U.chosen X e.found n ≡ Some a
  chosen_is = sym (chosen_same X e.found e x refl r h n) ∙ choice

  number : IsNumbered e.found.goals (X g).alternatives a
  number =
      numbered_of X e.found n found.place g a at
      (sym (ap (chosen_in (alternatives_of X e.found n)) found.is) ∙ chosen_is)

  inside : spread runs ≡ contents_of (round X e.found found.q) a
  inside =
      ran ∙ contents_same X e.found e x refl r h n reached
      ∙ ap₂ (λ b o. contents_in X e.found (round_before b) o) found.is chosen_is

  abbrev Cells : List (List (List ℕ))
  Cells = cells g a.kind a.branch

  of_branch : (P : List (List (List ℕ)) → Type 0) → P (cells g number.alternative.kind number.alternative.branch)
      → P (cells g a.kind a.branch)
  of_branch P k = subst (λ z. P (cells g z.kind z.branch)) (sym number.is) k

  words : has_words (cells g a.kind a.branch) number.alternative ≡ true
  words =
      of_branch (λ c. has_words c number.alternative ≡ true)
      (every_at (λ a. has_words (cells g a.kind a.branch) a) number.alternative (X g).alternatives (words_named g taken)
      number.is_in)

  pub branch : names_branch (X g) a.kind a.branch ≡ true
  branch =
      some_from (λ b. same_kind a.kind b.kind && nat_eq a.branch b.branch) number.alternative (X g).alternatives
      number.is_in
      (subst (λ z. (same_kind z.kind number.alternative.kind && nat_eq z.branch number.alternative.branch) ≡ true)
      (sym number.is)
      (and_from (same_kind number.alternative.kind number.alternative.kind)
      (nat_eq number.alternative.branch number.alternative.branch) (same_kind-refl number.alternative.kind)
      (eq-eqb number.alternative.branch number.alternative.branch refl)))

  pub text : a.shape ≡ Text → 0 < capacity (cell_at (cells g a.kind a.branch) 0)
  text s = text_room e.found.goals (X g).alternatives a number (round X e.found found.q) (cells g a.kind a.branch)
      s words

  pub room : every (λ p. has_room (cells g a.kind a.branch) p.slot 1) (spread runs) ≡ true
  room =
      subst (λ ps. every (λ p. has_room (cells g a.kind a.branch) p.slot 1) ps ≡ true) (sym inside)
      (contents_room e.found.goals (X g).alternatives a number (round X e.found found.q) (cells g a.kind a.branch)
      words)

  -- members of the document of an alternative have different names
  pub differ : (place : ℕ → ℕ) → a.shape ≡ Members
      → are_different same_word (map (λ m. m.0) (map (named (word_at (cells g a.kind a.branch)) place) (spread
      runs))) ≡ true
  differ place s =
      subst (λ ps. are_different same_word (map (λ m. m.0)
      (map (named (word_at (cells g a.kind a.branch)) place) ps)) ≡ true) (sym inside)
      (contents_apart e.found.goals (X g).alternatives a number (round X e.found found.q) (cells g a.kind a.branch)
      s words
      (every_at has_fitting_slots number.alternative (X g).alternatives (slots_fit g taken) number.is_in)
      (every_at has_different_slots number.alternative (X g).alternatives (slots_differ g taken) number.is_in)
      (of_branch (λ c. has_different_words c ≡ true)
      (every_at (λ a. has_different_words (cells g a.kind a.branch)) number.alternative (X g).alternatives
      (words_differ g taken) number.is_in)) place)

  pub same : (place : ℕ → ℕ) → by_shape (word_at (cells g a.kind a.branch)) place a.shape (spread runs)
      ≡ part (words_by cells) X e.found place n
  same place =
      ap (by_shape (word_at (cells g a.kind a.branch)) place a.shape)
      (ran ∙ contents_same X e.found e x refl r h n reached)
      ∙ sym (ap₂ (λ o c. of_goal (words_by cells) X e.found place (contents X e.found n) o c) at chosen_is)
