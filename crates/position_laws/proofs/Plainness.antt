-- Tables without typed positions.
use Rattle.std.proofs.Common.{◌≡◌, ℕ, ◌+◌, List, [], true, refl, ◌∙◌}
use Rattle.positions.specs.Position.{Position, position_at}
use Rattle.position_laws.specs.Plain.{is_untyped, is_plain}
use Rattle.list_laws.proofs.Elements.{every-all}
use Rattle.position_laws.proofs.Tables.{position_at-all}

-- in a plain table no position is typed
pub is_plain-untyped : (T : List Position) → is_plain T ≡ true → (p : ℕ) → is_untyped (position_at T p) ≡ true
is_plain-untyped T e p = position_at-all (λ P. is_untyped P ≡ true) refl T (every-all is_untyped T e) p

-- an untyped position names nothing for the parts of a document, and holds no bound
