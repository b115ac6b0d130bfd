-- Worked examples of core tables.
use Rattle.std.specs.Prelude.{◌≡◌, ℕ, pos, List, [], ◌∷◌, refl, codes, Some}
use Rattle.documents.specs.Kind as K
use Rattle.documents.specs.Document as D
use Rattle.patterns.specs.Tree.{Tree, empty}
use Rattle.schemas.specs.Entry.{no_keywords, Form, Asks, Entry, entry, Null, Object, Names}
use Rattle.positions.specs.Position.{Position, Not, All, Any, Depends, Types, NumIn, Words, Has}
use Rattle.normal_forms.specs.NormalForm.{table_of}

abbrev any_tree : List ℕ → Tree
any_tree t = empty

abbrev table : List Entry → List Position
table es = table_of any_tree es

abbrev at_root : Form → List Entry
at_root f = entry [] f ∷ []

-- an object that needs one name wherever another one is there
needs_b : table (at_root (Asks (record no_keywords {
  dependencies = Some ((codes "a", Names (codes "b" ∷ [])) ∷ []);
  required = Some (codes "a" ∷ []);
  types = Some (Object ∷ []);
})))
    ≡ All (1 ∷ 2 ∷ 6 ∷ []) ∷ Types (K.Object ∷ []) ∷ Has (codes "a") ∷ Has (codes "a") ∷ Has (codes "b")
    ∷ All (4 ∷ []) ∷ Depends 3 5 ∷ []
unfolding table_of
needs_b = refl

-- values by kinds, and a schema that is ruled out
three_values : table (
    entry [] (Asks (record no_keywords {
      enumeration = Some (D.number (pos 3) ∷ D.string (codes "x") ∷ D.null ∷ []);
      not = Some 1;
    }))
    ∷ entry [] (Asks (record no_keywords { types = Some (Null ∷ []) })) ∷ [])
    ≡ All (9 ∷ 10 ∷ []) ∷ All (11 ∷ []) ∷ Types (K.Null ∷ []) ∷ Types (K.Number ∷ []) ∷ NumIn (pos 3 ∷ [])
    ∷ All (3 ∷ 4 ∷ []) ∷ Types (K.Text ∷ []) ∷ Words (codes "x" ∷ []) ∷ All (6 ∷ 7 ∷ []) ∷ Any (2 ∷ 5 ∷ 8 ∷ [])
    ∷ Not 1 ∷ Types (K.Null ∷ []) ∷ []
unfolding table_of
three_values = refl
