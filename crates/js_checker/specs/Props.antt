-- That a judge is well is a fact.
use Rattle.std.specs.Prelude.{◌≡◌, List, Option, None}
use Rattle.std.specs.Coded.{Coded, Coded-set, codes, coded_list, coded_ℕ, coded_bool, le_prop}
use Rattle.positions.specs.Position.{Position}
use Rattle.js_algebra.specs.TreeCode.{tree_code}
use Rattle.js_checker.specs.TreeView.{IsOver, IsSteady}
use Rattle.js_checker.specs.JudgeView.{IsWell}
use Rattle.js_checker.specs.declared.tree.TreeCheck.{TreeCheck}
use Rattle.js_checker.specs.declared.judge.Judge.{Judge}
use Rattle.js_checker.specs.declared.fault.CheckFault.{CheckFault}

table_code : Coded (List Position)
table_code = Prim.hlevel (codes, tree_code)

IsOver-prop : (T : List Position) (t : TreeCheck) → IsProp (IsOver T t)
IsOver-prop T t x y = λ i. record {
  leaf = Coded-set table_code _ _ x.leaf y.leaf i;
  sets = Coded-set table_code _ _ x.sets y.sets i;
}

IsSteady-prop : (t : TreeCheck) → IsProp (IsSteady t)
IsSteady-prop t x y = λ i. record {
  leaf = Coded-set coded_bool _ _ x.leaf y.leaf i;
  hand = Coded-set coded_bool _ _ x.hand y.hand i;
}

IsWell-prop : (T : List Position) (j : Judge) → IsProp (IsWell T j)
IsWell-prop T j x y = λ i. record {
  goals = Coded-set coded_bool _ _ x.goals y.goals i;
  over = IsOver-prop T j.entry.tree x.over y.over i;
  steady = IsSteady-prop j.entry.tree x.steady y.steady i;
  entered = le_prop x.entered y.entered i;
  begun = λ e. le_prop (x.begun e) (y.begun e) i;
  early = λ e. Coded-set coded_ℕ _ _ (x.early e) (y.early e) i;
  head = λ e. Coded-set coded_ℕ _ _ (x.head e) (y.head e) i;
}

pub IsWellUnless-prop : (T : List Position) (j : Judge) (o : Option CheckFault) → IsProp (o ≡ None → IsWell T j)
IsWellUnless-prop T j o x y = λ i e. IsWell-prop T j (x e) (y e) i
