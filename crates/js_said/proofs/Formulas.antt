-- What is said by the numbers of atoms is what a formula says.
use Rattle.std.proofs.Common.{◌≡◌, ℕ, ◌+◌, ◌⊎◌, inl, inr, Bool, true, false, ◌&&◌, ◌||◌, not, nat_lt, List, [], ◌∷◌, ◌++◌, map, length, get_or, refl, ap, ap₂, sym, ◌∙◌, subst, arith}
use Rattle.std.proofs.lemmas.Bool.{and_parts, ltb-true}
use Rattle.std.specs.declared.vec.Vec.{Vec}
use Rattle.std.specs.declared.alloc.Global.{Global}
use Rattle.std.proofs.lemmas.List.{get_or_append_left, get_or-map}
use Rattle.std.proofs.lemmas.Simd.{map-map}
use Rattle.documents.specs.Tests.{some, same_word}
use Rattle.word_states.specs.Atom as W
use Rattle.word_states.specs.Atom.{Atom, is_true}
use Rattle.word_states.specs.Mention.{mention_all}
use Rattle.word_states.specs.SameAtom.{same_atom}
use Rattle.state_laws.proofs.SameAtoms.{same_atom_equiv}
use Rattle.positions.specs.Position as P
use Rattle.positions.specs.Position.{Position, Matching, Others}
use Rattle.positions.specs.Holds.{in_set, matches, holds}
use Rattle.documents.specs.Document.{string}
use Rattle.positions.specs.NameFormula as F
use Rattle.positions.specs.NameFormula.{name_meets}
use Rattle.name_truths.specs.NameTruth.{atoms, AreTrue}
use Rattle.name_truths.specs.NameAtoms.{set_atoms, formula_atoms}
use Rattle.name_laws.specs.Plans.{Plan, IsPlan, SameMentions, atoms_of}
use Rattle.name_laws.proofs.NameLaws.{holds_by_truths, pointwise-same_word}
use Rattle.word_laws.proofs.Mentions as M
use Rattle.word_laws.proofs.States.{state_decides}
use Rattle.word_laws.proofs.StateSteps.{state_truth}
use Rattle.word_states.specs.Rows.{signature_of}
use Rattle.word_states.specs.WordState.{word_state, have_same_state}
use Rattle.list_laws.specs.In.{IsIn}
use Rattle.finder_laws.proofs.Once.{once_has}
use Rattle.js_algebra.specs.View.{pattern_view, name_set_view}
use Rattle.js_algebra.specs.declared.names.Pattern.{Pattern}
use Rattle.js_algebra.specs.declared.names.NameSet.{NameSet}
use Rattle.js_algebra.specs.declared.names.NameSet.TheVariants as E
use Rattle.js_said.specs.declared.said.Said.{Said}
use Rattle.js_said.specs.declared.said.Said.TheVariants as S
use Rattle.js_said.specs.AtomNumbers.{atom_at, is_true_at, are_below, AreNumbers, Takes}
use Rattle.js_said.specs.Saying.{tells, IsPlanned, IsSaid}
use Rattle.js_said.proofs.Taking.{taken_all, numbers_more, below_more, at_more}
use Rattle.list_laws.proofs.Elements.{some-map, some-append}
use Rattle.list_laws.proofs.Tests.{some-alike, same_word_comm}
use Rattle.std.proofs.Math.Bool.{or-false}

-- tests of lists

neither : (a b : Bool) → not (a || b) ≡ (not a && not b)
neither true b = refl
neither false b = refl

-- one name is an atom

-- by the numbers of atoms

some_numbers : (A : List Atom) (ks : List ℕ) (xs : List Atom) (w : List ℕ) → AreNumbers A ks xs
    → some (is_true_at A w) ks ≡ some (λ a. is_true a w) xs
some_numbers A ks xs w n =
    sym (some-map (λ a. is_true a w) (atom_at A) ks) ∙ ap (some (λ a. is_true a w)) n.atoms

one_in : (n w : List ℕ) → some (λ a. is_true a w) (W.Words (n ∷ []) ∷ []) ≡ same_word n w
one_in n w =
    or-false (is_true (W.Words (n ∷ [])) w) ∙ or-false (W.same_word w n) ∙ pointwise-same_word w n ∙ same_word_comm w n

some_name : (ns : List (List ℕ)) (w : List ℕ)
    → some (λ a. is_true a w) (map (λ n. W.Words (n ∷ [])) ns) ≡ some (same_word w) ns
some_name ns w =
    some-map (λ a. is_true a w) (λ n. W.Words (n ∷ [])) ns
    ∙ some-alike (λ n. is_true (W.Words (n ∷ [])) w) (same_word w) ns
    (λ n. or-false (W.same_word w n) ∙ pointwise-same_word w n)

some_pattern : (rs : List P.Pattern) (w : List ℕ)
    → some (λ a. is_true a w) (map (λ r. W.Match r.tree) rs) ≡ some (λ r. matches r w) rs
some_pattern rs w = some-map (λ a. is_true a w) (λ r. W.Match r.tree) rs

others_in : (ns : List (List ℕ)) (rs : List P.Pattern) (w : List ℕ)
    → not (some (λ a. is_true a w) (set_atoms (Others ns rs))) ≡ in_set (Others ns rs) w
others_in ns rs w =
    ap not
    (some-append (λ a. is_true a w) (map (λ n. W.Words (n ∷ [])) ns) (map (λ r. W.Match r.tree) rs)
    ∙ ap₂ (λ a b. a || b) (some_name ns w) (some_pattern rs w))
    ∙ neither (some (same_word w) ns) (some (λ r. matches r w) rs)

-- where the atoms have the same truths in two words, a position holds of both or of neither

told_numbers : (A : List Atom) (ks : List ℕ) (xs : List Atom) (w : List ℕ) → AreNumbers A ks xs
    → map (is_true_at A w) ks ≡ map (λ a. is_true a w) xs
told_numbers A ks xs w n =
    sym (map-map (λ a. is_true a w) (atom_at A) ks) ∙ ap (map (λ a. is_true a w)) n.atoms

agree_at : (f g : Atom → Bool) (xs : List Atom) (a : Atom) → map f xs ≡ map g xs → IsIn a xs → f a ≡ g a
agree_at f g [] a e i = absurd i
agree_at f g (x ∷ xs) a e (inl q) = let h : f x ≡ g x = cc in ap f q ∙ h ∙ ap g (sym q)
agree_at f g (x ∷ xs) a e (inr i) = let h : map f xs ≡ map g xs = cc in agree_at f g xs a h i

agree_true : (v w : List ℕ) (xs : List Atom) → ((a : Atom) → IsIn a xs → is_true a v ≡ is_true a w)
    → AreTrue (λ a. is_true a v) w xs
agree_true v w [] h = tt
agree_true v w (a ∷ xs) h = (h a (inl refl), agree_true v w xs (λ b i. h b (inr i)))

same_plan : (T : List Position) (xs : List Atom) (p : ℕ) → SameMentions xs (atoms T p) → (v w : List ℕ)
    → map (λ a. is_true a v) xs ≡ map (λ a. is_true a w) xs → holds T p (string v) ≡ holds T p (string w)
same_plan T xs p same v w e =
    sym (holds_by_truths T (λ a. is_true a v) v p (agree_true v v (atoms T p) (λ a i. refl)))
    ∙ holds_by_truths T (λ a. is_true a v) w p (agree_true v w (atoms T p) (λ a i.
    elim (M.mentions_only same_atom same_atom_equiv [] xs a
    (subst (λ z. IsIn a z) (sym (same same_atom same_atom_equiv.refl [])) (once_has a (atoms T p) i))) [
      | inl j ↦ absurd j
      | inr j ↦ agree_at (λ a. is_true a v) (λ a. is_true a w) xs a e j
    ]))

-- that one of the atoms is true, or that none is, says what a formula says
abbrev pub AnySays : List Position → List Atom → List ℕ → F.NameFormula → Type 0
AnySays T A ks f = (are_below A ks ≡ true) × ((w : List ℕ) → some (is_true_at A w) ks ≡ name_meets T f w)

abbrev pub NoneSays : List Position → List Atom → List ℕ → F.NameFormula → Type 0
NoneSays T A ks f = (are_below A ks ≡ true) × ((w : List ℕ) → not (some (is_true_at A w) ks) ≡ name_meets T f w)

module _ (T : List Position) (A B : List Atom) (ks ls : List ℕ) (none : ks ≡ []) where
  pub by_name : (n : List ℕ) → Takes A B ks ls (formula_atoms T (F.Is n)) → AnySays T B ls (F.Is n)
  by_name n t =
      let m = taken_all A B ks ls (W.Words (n ∷ []) ∷ []) none t in
      (m.below, λ w. some_numbers B ls (W.Words (n ∷ []) ∷ []) w m ∙ one_in n w)

  by_matching : (r : P.Pattern) → Takes A B ks ls (set_atoms (Matching r)) → AnySays T B ls (F.In (Matching r))
  by_matching r t =
      let m = taken_all A B ks ls (W.Match r.tree ∷ []) none t in
      (m.below, λ w. some_numbers B ls (W.Match r.tree ∷ []) w m ∙ or-false (matches r w))

  by_others : (ns : List (List ℕ)) (rs : List P.Pattern) → Takes A B ks ls (set_atoms (Others ns rs))
      → NoneSays T B ls (F.In (Others ns rs))
  by_others ns rs t =
      let m = taken_all A B ks ls (set_atoms (Others ns rs)) none t in
      (m.below, λ w. ap not (some_numbers B ls (set_atoms (Others ns rs)) w m) ∙ others_in ns rs w)

  pub by_any : (s : NameSet) → ((n : List ℕ) × (s ≡ E.Named n)) ⊎ ((r : Pattern) × (s ≡ E.Matching r))
      → Takes A B ks ls (set_atoms (name_set_view s)) → AnySays T B ls (F.In (name_set_view s))
  by_any s (inl (n, e)) t =
      subst (λ z. AnySays T B ls (F.In (name_set_view z))) (sym e)
      (by_name n (subst (λ z. Takes A B ks ls (set_atoms (name_set_view z))) e t))
  by_any s (inr (r, e)) t =
      subst (λ z. AnySays T B ls (F.In (name_set_view z))) (sym e)
      (by_matching (pattern_view r) (subst (λ z. Takes A B ks ls (set_atoms (name_set_view z))) e t))

  pub by_none : (s : NameSet) (ns : List (List ℕ)) (rs : List Pattern) → s ≡ E.Others ns rs
      → Takes A B ks ls (set_atoms (name_set_view s)) → NoneSays T B ls (F.In (name_set_view s))
  by_none s ns rs e t =
      subst (λ z. NoneSays T B ls (F.In (name_set_view z))) (sym e)
      (by_others ns (map pattern_view rs) (subst (λ z. Takes A B ks ls (set_atoms (name_set_view z))) e t))

  -- a plan mentions the atoms of its position
  pub by_plan : (plan : Plan) (p : ℕ) → SameMentions (atoms_of T plan.leaves) (atoms T p)
      → Takes A B ks ls (atoms_of T plan.leaves) → B ≡ mention_all same_atom A (atoms T p)
  by_plan plan p same t = t.atoms ∙ same same_atom same_atom_equiv.refl A

  pub is_planned : (plan : Plan) → IsPlan T plan → SameMentions (atoms_of T plan.leaves) (atoms T plan.root)
      → Takes A B ks ls (atoms_of T plan.leaves) → length ls ≡ length ks + length plan.leaves → IsPlanned T B plan ls
  is_planned plan made same t count =
      let n = taken_all A B ks ls (atoms_of T plan.leaves) none t in
      record {
        plan = made;
        numbers = n;
        count = let e = ap length none in omega (arith, e, count);
        told = λ v w e.
            same_plan T (atoms_of T plan.leaves) plan.root same v w
            (sym (told_numbers B ls (atoms_of T plan.leaves) v n) ∙ e ∙ told_numbers B ls (atoms_of T plan.leaves) w n);
      }

-- with further atoms the same is said

true_more : (A X : List Atom) (w : List ℕ) (ks : List ℕ) → are_below A ks ≡ true
    → some (is_true_at (A ++ X) w) ks ≡ some (is_true_at A w) ks
true_more A X w [] h = refl
true_more A X w (k ∷ ks) h =
    let (a, b) = and_parts (nat_lt k (length A)) (are_below A ks) h in
    ap₂ (λ x r. is_true x w || r) (get_or_append_left A X (W.LengthMin 0) k (ltb-true k (length A) a))
    (true_more A X w ks b)

told_more : (A X : List Atom) (w : List ℕ) (ks : List ℕ) → are_below A ks ≡ true
    → map (is_true_at (A ++ X) w) ks ≡ map (is_true_at A w) ks
told_more A X w ks h =
    sym (map-map (λ a. is_true a w) (atom_at (A ++ X)) ks)
    ∙ ap (map (λ a. is_true a w)) (at_more A X ks h)
    ∙ map-map (λ a. is_true a w) (atom_at A) ks

pub said_more : (T : List Position) (A X : List Atom) (s : Said) → IsSaid T A s → IsSaid T (A ++ X) s
said_more T A X (S.AnyOf ks) h = below_more A X ks.items h
said_more T A X (S.NoneOf ks) h = below_more A X ks.items h
said_more T A X (S.Planned plan ks) h = record {
  plan = h.plan;
  numbers = numbers_more A X ks.items (atoms_of T plan.leaves) h.numbers;
  count = h.count;
  told = λ v w e.
      h.told v w
      (sym (told_more A X v ks.items h.numbers.below) ∙ e ∙ told_more A X w ks.items h.numbers.below);
}

pub tells_more : (T : List Position) (A X : List Atom) (s : Said) (w : List ℕ) → IsSaid T A s
    → tells T (A ++ X) w s ≡ tells T A w s
tells_more T A X (S.AnyOf ks) w h = true_more A X w ks.items h
tells_more T A X (S.NoneOf ks) w h = ap not (true_more A X w ks.items h)
tells_more T A X (S.Planned plan ks) w h = refl

-- a plan says of a word what the formula says
pub told_planned : (T : List Position) (A : List Atom) (w : List ℕ) (s : Said) (plan : Plan) (ks : Vec ℕ Global)
    → s ≡ S.Planned plan ks → IsSaid T A s → (b : Bool) (room told : List Bool) (ls : List ℕ) → room ≡ told
    → told ≡ map (is_true_at A w) ls → ls ≡ ks.items
    → (room ≡ map (λ a. is_true a w) (atoms_of T plan.leaves) → b ≡ holds T plan.root (string w)) → b ≡ tells T A w s
told_planned T A w s plan ks e said b room told ls p q r more =
    let h : IsPlanned T A plan ks.items = subst (λ z. IsSaid T A z) e said in
    more
    (p ∙ q ∙ ap (map (is_true_at A w)) r ∙ sym (map-map (λ a. is_true a w) (atom_at A) ks.items)
    ∙ ap (map (λ a. is_true a w)) h.numbers.atoms)
    ∙ ap (tells T A w) (sym e)

-- of words of one state the same is said

truths_at : (A : List Atom) (v w : List ℕ) (ks : List ℕ) → are_below A ks ≡ true
    → signature_of A v ≡ signature_of A w → map (is_true_at A v) ks ≡ map (is_true_at A w) ks
truths_at A v w [] h e = refl
truths_at A v w (k ∷ ks) h e =
    let (a, b) = and_parts (nat_lt k (length A)) (are_below A ks) h in
    let l = ltb-true k (length A) a in
    ap₂ (λ x xs. x ∷ xs)
    (sym (get_or-map (λ a. is_true a v) A k (W.LengthMin 0) false l)
    ∙ ap (λ z. get_or z k false) e
    ∙ get_or-map (λ a. is_true a w) A k (W.LengthMin 0) false l)
    (truths_at A v w ks b e)

some_is : {A : Type 0} (p : A → Bool) (xs : List A) → some p xs ≡ some (λ b. b) (map p xs)
some_is p [] = refl
some_is p (x ∷ xs) = ap (λ b. p x || b) (some_is p xs)

some_at : (A : List Atom) (v w : List ℕ) (ks : List ℕ) → are_below A ks ≡ true → signature_of A v ≡ signature_of A w
    → some (is_true_at A v) ks ≡ some (is_true_at A w) ks
some_at A v w ks h e =
    some_is (is_true_at A v) ks ∙ ap (some (λ b. b)) (truths_at A v w ks h e) ∙ sym (some_is (is_true_at A w) ks)

pub tells_same : (T : List Position) (A : List Atom) (s : Said) (v w : List ℕ) → IsSaid T A s
    → have_same_state A v w ≡ true → tells T A v s ≡ tells T A w s
tells_same T A s v w h same =
    go s h (state_truth A v w ((state_decides (word_state A v) (word_state A w)).0 same)) where
      go : (s : Said) → IsSaid T A s → signature_of A v ≡ signature_of A w → tells T A v s ≡ tells T A w s
      go (S.AnyOf ks) h e = some_at A v w ks.items h e
      go (S.NoneOf ks) h e = ap not (some_at A v w ks.items h e)
      go (S.Planned plan ks) h e = h.told v w (truths_at A v w ks.items h.numbers.below e)
