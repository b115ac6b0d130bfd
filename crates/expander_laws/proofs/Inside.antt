-- What is required of elements and members names positions of the table, so goals of them are in it.
use Rattle.std.proofs.Common.{◌≡◌, ℕ, zero, suc, ◌<◌, Bool, true, false, ◌&&◌, nat_lt, List, [], ◌∷◌, ◌++◌, flat_map, length, Some, refl, sym, subst}
use Rattle.std.proofs.lemmas.Bool.{and_from, and_parts, lt-ltb}
use Rattle.std.specs.List.{AllByRecursion}
use Rattle.documents.specs.Tests.{every}
use Rattle.documents.specs.Kind as K
use Rattle.documents.specs.Kind.{Kind}
use Rattle.positions.specs.Position.{Position, Items, Contains, MembersOf, position_at, of_parts}
use Rattle.positions.specs.Holds.{IsTable}
use Rattle.goals.specs.Signed.{Signed, Plus, Minus, position_of}
use Rattle.goals.specs.Goal.{form}
use Rattle.goal_laws.proofs.Forms.{form-IsFormed, form-inside}
use Rattle.list_laws.specs.In.{IsIn}
use Rattle.list_laws.proofs.Lists.{every_from, from_flat_map}
use Rattle.frames.specs.Frame.{Place, Head, In, Frame, list_at}
use Rattle.frames.specs.ArrayFrame as A
use Rattle.frames.specs.ArrayFrame.{longest, index_of, item_at, array_frame}
use Rattle.frames.specs.ObjectFrame as O
use Rattle.frames.specs.ObjectFrame.{object_frame}
use Rattle.cells.specs.Cells.{Cells, truth}
use Rattle.alternatives.specs.Alternative.{Alternative, named, named_by}
use Rattle.expansions.specs.Leaves.{Finders, leaf}
use Rattle.expansions.specs.Expansion.{expansion}
use Rattle.expansion_laws.proofs.Origins.{origin}
use Rattle.expansion_laws.proofs.Formed.{IsFrame, from_named, named_formed}
use Rattle.expander_laws.specs.Expander.{is_formed, is_goal}
use Rattle.expander_laws.proofs.Formed.{is_formed-from}

module _ (n : ℕ) where
  abbrev Inside : Signed → Bool
  Inside x = nat_lt (position_of x) n

  abbrev AreBelow : Position → Type 0
  AreBelow P = AllByRecursion (λ q. q < n) (of_parts P)

  both_inside : (xs ys : List Signed) → every Inside xs ≡ true → every Inside ys ≡ true → every Inside (xs ++ ys) ≡ true
  both_inside [] ys a b = b
  both_inside (x ∷ xs) ys a b =
      let (h, t) = and_parts (Inside x) (every Inside xs) a in
      and_from (Inside x) (every Inside (xs ++ ys)) h (both_inside xs ys t b)

  each_inside : (f : Signed → List Signed) (xs : List Signed) → ((x : Signed) → every Inside (f x) ≡ true)
      → every Inside (flat_map f xs) ≡ true
  each_inside f [] h = refl
  each_inside f (x ∷ xs) h = both_inside (f x) (flat_map f xs) (h x) (each_inside f xs h)

  one_inside : (q : ℕ) → q < n → (nat_lt q n && true) ≡ true
  one_inside q l = and_from (nat_lt q n) true (lt-ltb q n l) refl

  item_below : (ps : List ℕ) (r i : ℕ) → r < n → AllByRecursion (λ q. q < n) ps → item_at ps r i < n
  item_below [] r i l h = l
  item_below (p ∷ ps) r zero l h = h.0
  item_below (p ∷ ps) r (suc i) l h = item_below ps r i l h.1

  -- elements

  plus_each_inside : (i : ℕ) (P : Position) → AreBelow P → every Inside (A.plus_each i P) ≡ true
  plus_each_inside i (Items ps r) h = one_inside (item_at ps r i) (item_below ps r i h.0 h.1)
  plus_each_inside i _ h = refl

  minus_each_inside : (P : Position) → AreBelow P → every Inside (A.minus_each P) ≡ true
  minus_each_inside (Contains q) h = one_inside q h.0
  minus_each_inside _ h = refl

  plus_serving_inside : (P : Position) → AreBelow P → every Inside (A.plus_serving P) ≡ true
  plus_serving_inside (Contains q) h = one_inside q h.0
  plus_serving_inside _ h = refl

  minus_serving_inside : (i : ℕ) (P : Position) → AreBelow P → every Inside (A.minus_serving i P) ≡ true
  minus_serving_inside i (Items ps r) h = one_inside (item_at ps r i) (item_below ps r i h.0 h.1)
  minus_serving_inside i _ h = refl

  -- members

  plus_member_inside : (b : Bool) (P : Position) → AreBelow P → every Inside (O.plus_each b P) ≡ true
  plus_member_inside true (MembersOf s q) h = one_inside q h.0
  plus_member_inside false (MembersOf s q) h = refl
  plus_member_inside b _ h = refl

  minus_member_inside : (P : Position) → AreBelow P → every Inside (O.minus_serving P) ≡ true
  minus_member_inside (MembersOf s q) h = one_inside q h.0
  minus_member_inside _ h = refl

module _ (T : List Position) (ok : IsTable T) where
  abbrev Within : List Signed → Bool
  Within xs = every (λ x. nat_lt (position_of x) (length T)) xs

  abbrev n : ℕ
  n = length T

  at_array : (S : List Signed) (at : Place) (ds : List Signed) → Within (list_at (array_frame T S) at ds) ≡ true
  at_array S at ds =
      both_inside n (flat_map (A.each T (longest T S) at) S) (flat_map (A.serving T (longest T S) at) ds)
      (each_inside n (A.each T (longest T S) at) S each)
      (each_inside n (A.serving T (longest T S) at) ds serving) where
        each : (x : Signed) → Within (A.each T (longest T S) at x) ≡ true
        each (Plus p) =
            plus_each_inside n (index_of (longest T S) at) (position_at T p) (ok.parts_named p)
        each (Minus p) = minus_each_inside n (position_at T p) (ok.parts_named p)

        serving : (x : Signed) → Within (A.serving T (longest T S) at x) ≡ true
        serving (Plus p) = plus_serving_inside n (position_at T p) (ok.parts_named p)
        serving (Minus p) =
            minus_serving_inside n (index_of (longest T S) at) (position_at T p) (ok.parts_named p)

  at_object : (C : Cells) (S : List Signed) (at : Place) (ds : List Signed)
      → Within (list_at (object_frame T C S) at ds) ≡ true
  at_object C S at ds =
      both_inside n (flat_map (O.each T C at) S) (flat_map (O.serving T) ds)
      (each_inside n (O.each T C at) S (each at))
      (each_inside n (O.serving T) ds serving) where
        each : (at : Place) (x : Signed) → Within (O.each T C at x) ≡ true
        each (In c) (Plus p) = plus_member_inside n (truth C c (Plus p)) (position_at T p) (ok.parts_named p)
        each (In c) (Minus p) = refl
        each (Head i) (Plus p) = refl
        each (Head i) (Minus p) = refl

        serving : (x : Signed) → Within (O.serving T x) ≡ true
        serving (Plus p) = refl
        serving (Minus p) = minus_member_inside n (position_at T p) (ok.parts_named p)

  at_frame : (F : Finders) (t : Kind) (S : List Signed) (frame : Frame) → IsFrame F T t S frame
      → (at : Place) (ds : List Signed) → Within (list_at frame at ds) ≡ true
  at_frame F K.Array S frame e at ds = subst (λ f. Within (list_at f at ds) ≡ true) (sym e) (at_array S at ds)
  at_frame F K.Object S frame (C, f, e) at ds =
      subst (λ f. Within (list_at f at ds) ≡ true) (sym e) (at_object C S at ds)
  at_frame F K.Null S frame e at ds = absurd e
  at_frame F K.Boolean S frame e at ds = absurd e
  at_frame F K.Number S frame e at ds = absurd e
  at_frame F K.Text S frame e at ds = absurd e

  -- each goal that an alternative names is in the table
  named_inside : (F : Finders) (g : List Signed) (a : Alternative) → IsIn a (expansion T (leaf F T) g).alternatives
      → (h : List Signed) → IsIn h (named_by a) → Within h ≡ true
  named_inside F g a i h j =
      let o = origin F T g a i in
      let (frame, x, (at, (ds, e))) = from_named F T o.kind o.number o.branch a o.from h j in
      form-inside T ok (list_at frame at ds) h e (at_frame F o.kind o.branch frame x at ds)

  -- whatever is found outside, each goal that an expansion names is one that an expander takes
  pub goals_named : (F : Finders) (g : List Signed)
      → every (is_goal T) (named (expansion T (leaf F T) g).alternatives) ≡ true
  goals_named F g = every_from (is_goal T) (named (expansion T (leaf F T) g).alternatives) (λ h i.
      let (a, j, k) = from_flat_map named_by h (expansion T (leaf F T) g).alternatives i in
      and_from (is_formed T h) (Within h) (is_formed-from T h (named_formed F T ok g a j h k))
      (named_inside F g a j h k))

  -- what a list of the table forms is one of its goals
  pub formed_goal : (xs g : List Signed) → form T xs ≡ Some g → Within xs ≡ true → is_goal T g ≡ true
  formed_goal xs g e inside =
      and_from (is_formed T g) (Within g) (is_formed-from T g (form-IsFormed T ok xs g e))
      (form-inside T ok xs g e inside)
