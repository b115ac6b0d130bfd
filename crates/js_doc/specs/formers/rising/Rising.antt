-- `Rising` as a type that may hold the type that holds it, by its members' values.
use Rattle.std.specs.Prelude.{List, [], ◌∷◌, map, true}
use mathlib.Core.Path.{◌≡◌, refl, sym, ap, ◌∙◌}
use mathlib.Core.Former.{Former, this, const, pair, via, such, children, list_put, none_left}
use base.Stored.{Coded-set, coded_bool}
use denote.RattleType.{RattleType}
use denote.HoleLaws.{Alike}
use denote.HolePlaces.{Recodes, struct_places, struct_Codes, laid}
use denote.Hole.Carrier.{listed}
use denote.Param.Weighed.{Weighed, most, List-puts}
use Rattle.std.specs.formers.vec.Vec as vec
use Rattle.std.specs.declared.vec.Vec.{Vec}
use Rattle.std.specs.declared.alloc.Global.{Global}
use Rattle.std.specs.contracts.alloc.Global as heap
use Rattle.std.specs.contracts.impls.GlobalAllocator.TheImpl.{ghosts}
use Rattle.js_doc.specs.declared.word.Word.{Word}
use Rattle.js_doc.specs.declared.rising.Named.{Named}
use Rattle.js_doc.specs.declared.rising.Rising.{Rising}
use Rattle.js_doc.specs.contracts.rising.Named as N
use Rattle.js_doc.specs.contracts.rising.Rising as C
use Rattle.js_doc.specs.Names.{rise, names_of}

-- ---- a member

abbrev pub named : Former {0} → Former {0}
named g = via (pair (const Word) g) (λ X. Named (g.Of X)) (λ X m. (m.name, m.value))
    (λ X p. record { name = p.0; value = p.1 }) (λ X m. refl) (λ X p. refl)

abbrev pub named_weighed : {g : Former {0}} → Weighed g → Weighed (named g)
named_weighed w = record { weight = λ X μ m. w.weight X μ m.value; puts = λ X μ m n t. w.puts X μ m.value n t }

abbrev pub with_value : {X Y : Type 0} → (X → Y) → Named X → Named Y
with_value h m = record { name = m.name; value = h m.value }

-- ---- the members, whose shape has their names

module _ (g : Former {0}) where
  abbrev pub Rises : (X : Type 0) → Vec (Named (g.Of X)) Global → Type 0
  Rises X v = rise (names_of v.items) ≡ true

  abbrev pub ShapeRises : Vec (Word × g.Shape) Global → Type 0
  ShapeRises v = rise (map (λ p. p.0.text) v.items) ≡ true

  pub shape_names : (X : Type 0) (ms : List (Named (g.Of X)))
      → map (λ p. p.0.text) (map ((named g).shape X) ms) ≡ names_of ms
  shape_names X [] = refl
  shape_names X (m ∷ ms) = ap (λ l. m.name.text ∷ l) (shape_names X ms)

  abbrev pub held_members : Former {0}
  held_members = such (vec.the_former (named g) Global) Rises ShapeRises
      (λ X v. Coded-set coded_bool _ _) (λ v. Coded-set coded_bool _ _)
      (λ X v p. ap rise (shape_names X v.items) ∙ p) (λ X v p. ap rise (sym (shape_names X v.items)) ∙ p)

  abbrev pub the_former : Former {0}
  the_former = via held_members (λ X. Rising (g.Of X)) (λ X d. (d.members, d.rises))
      (λ X p. record { members = p.0; rises = p.1 }) (λ X d. refl) (λ X p. refl)

abbrev pub the_weighed : {g : Former {0}} → Weighed g → Weighed (the_former g)
the_weighed w = record {
  weight = λ X μ d. most ((named_weighed w).weight X μ) d.members.items;
  puts = λ X μ d. List-puts (named_weighed w) X μ d.members.items;
}

abbrev pub the_items : (X : Type 0) → Rising X → List X
the_items X d = map (λ m. m.value) d.members.items

values_listed : (X : Type 0) (ms : List (Named X))
    → listed _ (list_put (named this) X ms none_left tt) ≡ map (λ m. m.value) ms
values_listed X [] = refl
values_listed X (m ∷ ms) = ap (λ l. m.value ∷ l) (values_listed X ms)

pub the_items_listed : (X : Type 0) (d : Rising X) → listed _ (children (the_former this) X d) ≡ the_items X d
the_items_listed X d = values_listed X d.members.items

module _ (R S : RattleType) (h : R.Denot → S.Denot) where
  named_places : Alike R S h → Alike (N.the_row R) (N.the_row S) (with_value h)
  named_places a = struct_places (N.the_type R) (N.the_type S) (λ n. n, (h, tt)) (with_value h) (λ d. refl) refl
      ((refl, (λ n. refl, λ n. refl)), (laid _ _ _ a, tt))

  pub the_places : Alike R S h → Alike (C.the_row R) (C.the_row S) ((the_former this).map R.Denot S.Denot h)
  the_places a = struct_places (C.the_type R) (C.the_type S) (vec.mapped (with_value h), tt) _ (λ d. refl) refl
      (laid _ _ _ (vec.the_places heap.the_row ghosts (N.the_row R) (N.the_row S) (with_value h) (named_places a)), tt)

  named_codes : Recodes R S h → Recodes (N.the_row R) (N.the_row S) (with_value h)
  named_codes e = struct_Codes (N.the_type R) (N.the_type S) (λ n. n, (h, tt)) (with_value h) (λ d. refl)
      (λ y. refl, (e, tt))

  pub the_codes_placed : Recodes R S h → Recodes (C.the_row R) (C.the_row S) ((the_former this).map R.Denot S.Denot h)
  the_codes_placed e = struct_Codes (C.the_type R) (C.the_type S) (vec.mapped (with_value h), tt)
      ((the_former this).map R.Denot S.Denot h) (λ d. refl)
      (vec.the_codes_placed heap.the_row ghosts (N.the_row R) (N.the_row S) (with_value h) (named_codes e), tt)
