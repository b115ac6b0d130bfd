-- A string meets a literal exactly where its length is within the literal's bounds and its word is one that the literal
-- wants.
use Rattle.std.proofs.Common.{◌≡◌, ℕ, suc, ◌≤◌, Bool, true, false, not, List, length, nat_le, None, refl, ap, sym, ◌∙◌, arith}
use Rattle.std.specs.List.{list_any}
use Rattle.std.proofs.lemmas.Bool.{leb-true, leb-false, le-leb, lt-leb, not-false, not-true}
use Rattle.documents.specs.Tests.{every, some}
use Rattle.documents.specs.Kind as K
use Rattle.documents.specs.Kind.{same_kind}
use Rattle.documents.specs.Document.{Document, string}
use Rattle.word_states.specs.Atom as W
use Rattle.word_states.specs.Atom.{is_true}
use Rattle.positions.specs.Position.{Position, True, False, Same, Not, All, Any, One, Depends, Types, Words, Match, LengthMin, LengthMax, position_at}
use Rattle.positions.specs.Holds.{asks, holds, IsTable}
use Rattle.position_laws.proofs.Asks.{holds-asks}
use Rattle.goals.specs.Signed.{Signed, Plus, Minus, met}
use Rattle.goals.specs.Choices.{plus_choices, minus_choices, choices, plus_wrong, minus_wrong, is_wrong}
use Rattle.frames.specs.Frame.{is_at_end}
use Rattle.finders.specs.Strings.{plus_lower, minus_lower, lower_at, plus_below, minus_below, below_at, word_atoms, wants}
use Rattle.name_laws.proofs.NameLaws.{listed-same}
use Rattle.std.proofs.Math.Bool.{and-true}

module _ (here : ℕ → Bool) (below : ℕ → Document → Bool) (w : List ℕ) where
  abbrev Asks : Position → Bool
  Asks P = asks here below P (string w)

  abbrev wants_plus : Position → Bool
  wants_plus P = every (λ a. is_true a w) (word_atoms P)

  abbrev wants_minus : Position → Bool
  wants_minus P = every (λ a. not (is_true a w)) (word_atoms P)

  -- from a string that meets it

  low_plus : (P : Position) → Asks P ≡ true → plus_lower P ≤ length w
  low_plus (LengthMin n) e = leb-true n (length w) e
  low_plus _ e = omega arith

  high_plus : (P : Position) → Asks P ≡ true → is_at_end (length w) (plus_below P) ≡ false
  high_plus (LengthMax n) e = let a = leb-true (length w) n e in lt-leb (suc n) (length w) (omega (arith, a))
  high_plus _ e = refl

  wanted_plus : (P : Position) → Asks P ≡ true → wants_plus P ≡ true
  wanted_plus (Words ws) e = and-true (list_any (W.same_word w) ws) ∙ listed-same w ws ∙ e
  wanted_plus (Match r) e = and-true (is_true (W.Match r.tree) w) ∙ e
  wanted_plus _ e = refl

  low_minus : (P : Position) → not (Asks P) ≡ true → minus_lower P ≤ length w
  low_minus (LengthMax n) e = leb-false (length w) n (not-true (nat_le (length w) n) e)
  low_minus _ e = omega arith

  high_minus : (P : Position) → not (Asks P) ≡ true → is_at_end (length w) (minus_below P) ≡ false
  high_minus (LengthMin n) e = not-true (nat_le n (length w)) e
  high_minus _ e = refl

  wanted_minus : (P : Position) → not (Asks P) ≡ true → wants_minus P ≡ true
  wanted_minus (Words ws) e = and-true (not (list_any (W.same_word w) ws)) ∙ ap not (listed-same w ws) ∙ e
  wanted_minus (Match r) e = and-true (not (is_true (W.Match r.tree) w)) ∙ e
  wanted_minus _ e = refl

  -- the converse: what is said is met, where it is a literal that isn't wrong

  from_plus : (P : Position) → plus_choices K.Text P ≡ None → plus_wrong K.Text P ≡ false → plus_lower P ≤ length w
      → is_at_end (length w) (plus_below P) ≡ false → wants_plus P ≡ true
      → Asks P ≡ true
  from_plus (Types ts) c x l h e = not-false (some (same_kind K.Text) ts) x
  from_plus (Words ws) c x l h e =
      sym (listed-same w ws) ∙ sym (and-true (list_any (W.same_word w) ws)) ∙ e
  from_plus (Match r) c x l h e = sym (and-true (is_true (W.Match r.tree) w)) ∙ e
  from_plus (LengthMin n) c x l h e = le-leb n (length w) l
  from_plus (LengthMax n) c x l h e = let a = leb-false (suc n) (length w) h in le-leb (length w) n (omega (arith, a))
  from_plus True c x l h e = cc
  from_plus False c x l h e = cc
  from_plus (Same q) c x l h e = cc
  from_plus (Not q) c x l h e = cc
  from_plus (All qs) c x l h e = cc
  from_plus (Any qs) c x l h e = cc
  from_plus (One qs) c x l h e = cc
  from_plus (Depends p q) c x l h e = cc
  from_plus _ c x l h e = refl

  from_minus : (P : Position) → minus_choices K.Text P ≡ None → minus_wrong K.Text P ≡ false
      → minus_lower P ≤ length w → is_at_end (length w) (minus_below P) ≡ false → wants_minus P ≡ true
      → not (Asks P) ≡ true
  from_minus (Types ts) c x l h e = ap not x
  from_minus (Words ws) c x l h e =
      ap not (sym (listed-same w ws)) ∙ sym (and-true (not (list_any (W.same_word w) ws))) ∙ e
  from_minus (Match r) c x l h e = sym (and-true (not (is_true (W.Match r.tree) w))) ∙ e
  from_minus (LengthMin n) c x l h e = ap not h
  from_minus (LengthMax n) c x l h e = ap not (lt-leb (length w) n l)
  from_minus _ c x l h e = cc

module _ (T : List Position) (ok : IsTable T) (w : List ℕ) where
  abbrev here : ℕ → Bool
  here q = holds T q (string w)

  pub record IsLiteral (x : Signed) : Type 0 where
    pub low : lower_at T x ≤ length w
    pub high : is_at_end (length w) (below_at T x) ≡ false
    pub wanted : wants T w x ≡ true

  pub is_literal : (x : Signed) → met here x ≡ true → IsLiteral x
  is_literal (Plus p) e =
      let a = sym (holds-asks T ok p (string w)) ∙ e in record {
        low = low_plus here (holds T) w (position_at T p) a;
        high = high_plus here (holds T) w (position_at T p) a;
        wanted = wanted_plus here (holds T) w (position_at T p) a;
      }
  is_literal (Minus p) e =
      let a = ap not (sym (holds-asks T ok p (string w))) ∙ e in record {
        low = low_minus here (holds T) w (position_at T p) a;
        high = high_minus here (holds T) w (position_at T p) a;
        wanted = wanted_minus here (holds T) w (position_at T p) a;
      }

  -- a word that has what a literal says meets it
  pub literal_met : (x : Signed) → choices T K.Text x ≡ None → is_wrong T K.Text x ≡ false → IsLiteral x
      → met here x ≡ true
  literal_met (Plus p) c v k =
      holds-asks T ok p (string w) ∙ from_plus here (holds T) w (position_at T p) c v k.low k.high k.wanted
  literal_met (Minus p) c v k =
      ap not (holds-asks T ok p (string w))
      ∙ from_minus here (holds T) w (position_at T p) c v k.low k.high k.wanted
