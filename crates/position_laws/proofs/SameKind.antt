-- The test of kinds says whether they are equal.
use Rattle.std.proofs.Common.{◌≡◌, true, refl}
use Rattle.documents.specs.Kind as K
use Rattle.documents.specs.Kind.{Kind, same_kind}

pub same_kind-refl : (t : Kind) → same_kind t t ≡ true
same_kind-refl K.Null = refl
same_kind-refl K.Boolean = refl
same_kind-refl K.Number = refl
same_kind-refl K.Text = refl
same_kind-refl K.Array = refl
same_kind-refl K.Object = refl

-- kinds that pass the test are equal
pub same_kind-true : (t u : Kind) → same_kind t u ≡ true → t ≡ u
same_kind-true K.Null K.Null e = refl
same_kind-true K.Boolean K.Boolean e = refl
same_kind-true K.Number K.Number e = refl
same_kind-true K.Text K.Text e = refl
same_kind-true K.Array K.Array e = refl
same_kind-true K.Object K.Object e = refl
same_kind-true _ _ e = cc
