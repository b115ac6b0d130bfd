-- What literals say of names, by the truths of atoms.
use Rattle.std.specs.Prelude.{◌≡◌, ℕ, List, [], ◌∷◌, map, length, Bool, true, not, Option, Some, None}
use Rattle.documents.specs.Tests.{some}
use Rattle.documents.specs.Document.{string}
use Rattle.word_states.specs.Atom.{Atom}
use Rattle.positions.specs.Position.{Position}
use Rattle.positions.specs.Holds.{holds}
use Rattle.positions.specs.NameFormula.{NameFormula, name_meets}
use Rattle.goals.specs.Signed as G
use Rattle.name_truths.specs.NameAtoms.{name_atoms}
use Rattle.name_laws.specs.Plans.{Plan, IsPlan, atoms_of}
use Rattle.cells.specs.Cells.{says, naming}
use Rattle.finders.specs.Once.{once}
use Rattle.js_algebra.specs.View.{signed_view}
use Rattle.js_algebra.specs.declared.signed.Signed.{Signed}
use Rattle.js_said.specs.AtomNumbers.{is_true_at, are_below, AreNumbers}
use Rattle.js_said.specs.declared.said.Said.{Said}
use Rattle.js_said.specs.declared.said.Said.TheVariants.{AnyOf, NoneOf, Planned}

-- whether what is said is true of a word, where these are the atoms
abbrev pub tells : List Position → List Atom → List ℕ → Said → Bool
tells T A w (AnyOf ks) = some (is_true_at A w) ks.items
tells T A w (NoneOf ks) = not (some (is_true_at A w) ks.items)
tells T A w (Planned plan ks) = holds T plan.root (string w)

-- what is said of a word
abbrev pub told_of : List Position → List Atom → List Said → List ℕ → List Bool
told_of T A said w = map (tells T A w) said

-- a plan of the table, and the numbers of the atoms of its leaves; these determine whether its root holds
pub record IsPlanned (T : List Position) (A : List Atom) (p : Plan) (ks : List ℕ) : Type 0 where
  pub plan : IsPlan T p
  pub numbers : AreNumbers A ks (atoms_of T p.leaves)
  pub count : length ks ≡ length p.leaves
  pub told : (v w : List ℕ) → map (is_true_at A v) ks ≡ map (is_true_at A w) ks
      → holds T p.root (string v) ≡ holds T p.root (string w)

-- numbers are those of atoms
abbrev pub IsSaid : List Position → List Atom → Said → Type 0
IsSaid T A (AnyOf ks) = are_below A ks.items ≡ true
IsSaid T A (NoneOf ks) = are_below A ks.items ≡ true
IsSaid T A (Planned plan ks) = IsPlanned T A plan ks.items

-- it says of each word what the formula says
pub record Says (T : List Position) (A : List Atom) (s : Said) (f : NameFormula) : Type 0 where
  pub said : IsSaid T A s
  pub tells : (w : List ℕ) → tells T A w s ≡ name_meets T f w

-- something is said just where there is a formula
abbrev pub MaySay : List Position → List Atom → Option Said → Option NameFormula → Type 0
MaySay T A None None = Unit {0}
MaySay T A (Some s) (Some f) = Says T A s f
MaySay T A _ _ = ⊥

-- what each of the literals says
pub record SaysOf (T : List Position) (A : List Atom) (s : Said) (x : G.Signed) : Type 0 where
  pub said : IsSaid T A s
  pub tells : (w : List ℕ) → tells T A w s ≡ says T x w

abbrev pub AreSaid : List Position → List Atom → List Said → List G.Signed → Type 0
AreSaid T A [] [] = Unit {0}
AreSaid T A (s ∷ ss) (x ∷ xs) = SaysOf T A s x × AreSaid T A ss xs
AreSaid T A _ _ = ⊥

-- what was taken of literals: the atoms, those that say something of names, and what they say
pub record AreTaken (T : List Position) (xs : List G.Signed) (A : List Atom) (ns : List Signed)
    (ss : List Said) : Type 0 where
  pub atoms : A ≡ once (name_atoms T xs)
  pub names : map signed_view ns ≡ naming T xs
  pub said : AreSaid T A ss (naming T xs)
