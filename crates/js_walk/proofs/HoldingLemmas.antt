-- What the values of members hold, and what they weigh.
use Rattle.std.proofs.Common.{◌≡◌, ℕ, ◌+◌, ◌*◌, List, [], ◌∷◌, ◌++◌, Bool, Option, Some, None, option_map, chars, codes, refl, sym, ap, ap₂, ◌∙◌, arith}
use Rattle.documents.specs.Json.{Json, object, Members, no_members, member, lookup}
use Rattle.schemas.specs.Places.{Pointer}
use Rattle.schemas.specs.Keyword as S
use Rattle.schemas.specs.Keyword.{Shape, is_list, read_shape}
use Rattle.schemas.specs.SubSchemas.{in_value, in_member, in_members, sub_schemas}
use Rattle.schemas.specs.Weight.{values, member_values, keyword_values, object_weight, weight}
use Rattle.js_keywords.specs.declared.keyword.Keyword.{Keyword}
use Rattle.js_keywords.specs.Words.{keyword_of}
use Rattle.js_keywords.specs.Member.{shape_given}
use Rattle.js_keywords.proofs.MemberLemmas.{shape_given-beside}
use Rattle.js_walk.specs.Holding.{holding_of, read_holding, held, member_held, members_held, held_values, values_by, members_values, capped}

pub read_holding-given : (listed : Bool) (text w : List ℕ) (o : Option Keyword) → o ≡ keyword_of (chars text)
    → chars text ≡ w → option_map holding_of (shape_given listed o) ≡ read_holding listed w
read_holding-given listed text w o h e =
    ap (option_map holding_of) (shape_given-beside listed (chars text) o h) ∙ ap (read_holding listed) e

-- the shape of a member is that beside `items` as it is
read_shape-beside : (ms : Members) (k : List ℕ)
    → option_map holding_of (read_shape ms k) ≡ read_holding (is_list (lookup (codes "items") ms)) k
read_shape-beside ms k = refl

-- ---- schemas

in_value-held : (S : Shape) (p : Pointer) (v : Json) → held (holding_of S) p v ≡ in_value S p v
in_value-held S.Schema p v = refl
in_value-held S.SchemaOrList p v = refl
in_value-held S.SchemaList p v = refl
in_value-held S.SchemaMap p v = refl
in_value-held S.PatternMap p v = refl
in_value-held S.NeedMap p v = refl
in_value-held _ p v = refl

in_member-held : (o : Option Shape) (p : Pointer) (v : Json)
    → member_held (option_map holding_of o) p v ≡ in_member o p v
in_member-held None p v = refl
in_member-held (Some S) p v = in_value-held S p v

in_members-held : (ms : Members) (p : Pointer) (rest : Members)
    → members_held (is_list (lookup (codes "items") ms)) p rest ≡ in_members ms p rest
in_members-held ms p no_members = refl
in_members-held ms p (member k v rest) =
    ap₂ (λ xs ys. xs ++ ys) (in_member-held (read_shape ms k) (p ++ k ∷ []) v) (in_members-held ms p rest)

pub sub_schemas-held : (p : Pointer) (ms : Members)
    → members_held (is_list (lookup (codes "items") ms)) p ms ≡ sub_schemas p ms
sub_schemas-held p ms = in_members-held ms p ms

-- ---- weights

values-held : (S : Shape) (v : Json) → held_values (holding_of S) v ≡ values S v
values-held S.Schema v = refl
values-held S.SchemaOrList v = refl
values-held S.SchemaList v = refl
values-held S.SchemaMap v = refl
values-held S.PatternMap v = refl
values-held S.NeedMap v = refl
values-held _ v = refl

member_values-by : (o : Option Shape) (v : Json) → values_by (option_map holding_of o) v ≡ member_values o v
member_values-by None v = refl
member_values-by (Some S) v = values-held S v

keyword_values-by : (ms rest : Members)
    → members_values (is_list (lookup (codes "items") ms)) rest ≡ keyword_values ms rest
keyword_values-by ms no_members = refl
keyword_values-by ms (member k v rest) =
    ap₂ (λ m n. m + n) (member_values-by (read_shape ms k) v) (keyword_values-by ms rest)

-- the weight of an object without a reference, as it is computed
pub object_weight-capped : (ms : Members) (listed : Bool) (total product sum : ℕ)
    → lookup (codes "$ref") ms ≡ None → listed ≡ is_list (lookup (codes "items") ms)
    → total ≡ capped (members_values listed ms) → product ≡ capped (total * 8) → sum ≡ capped (product + 1)
    → sum ≡ capped (weight ([], object ms))
object_weight-capped ms listed total product sum none is counted times more =
    let all = counted ∙ ap (λ b. capped (members_values b ms)) is ∙ ap capped (keyword_values-by ms ms) in
    capped_sum total product sum (keyword_values ms ms) all times more
    ∙ sym (ap (λ o. capped (object_weight o ms)) none)
  where
    capped_sum : (total product sum n : ℕ) → total ≡ capped n → product ≡ capped (total * 8)
        → sum ≡ capped (product + 1) → sum ≡ capped (1 + 8 * n)
    capped_sum total product sum n a b c = omega (arith, a, b, c)

-- a place weighs what its value does
pub weight-value : (p : Pointer) (v : Json) → weight ([], v) ≡ weight (p, v)
weight-value p (object ms) = refl
weight-value p _ = refl
