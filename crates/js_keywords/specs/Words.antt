-- The keyword that a name is, and the type that a word names.
use Rattle.std.specs.Prelude.{ℕ, List, [], ◌∷◌, ◌++◌, Bool, Option, Some, None, cond, nat_lt, codes}
use Rattle.documents.specs.Tests.{every, same_word}
use Rattle.schemas.specs.Keyword.{Shape}
use Rattle.schemas.specs.Keyword as S
use Rattle.js_keywords.specs.declared.keyword.Keyword.{Keyword}
use Rattle.js_keywords.specs.declared.keyword.Keyword.TheVariants as K
use Rattle.js_keywords.specs.declared.type_name.TypeName.{TypeName}
use Rattle.js_keywords.specs.declared.type_name.TypeName.TheVariants as T
use Rattle.js_keywords.specs.Names.{keyword_name}

abbrev pub all_keywords : List Keyword
all_keywords =
    K.Id ∷ K.Ref ∷ K.AdditionalItems ∷ K.AdditionalProperties ∷ K.AllOf ∷ K.AnyOf ∷ K.Const ∷ K.Contains
    ∷ K.Dependencies ∷ K.Enum ∷ K.ExclusiveMaximum ∷ K.ExclusiveMinimum ∷ K.Items ∷ K.MaxItems ∷ K.MaxLength
    ∷ K.MaxProperties ∷ K.Maximum ∷ K.MinItems ∷ K.MinLength ∷ K.MinProperties ∷ K.Minimum ∷ K.MultipleOf ∷ K.Not
    ∷ K.OneOf ∷ K.Pattern ∷ K.PatternProperties ∷ K.Properties ∷ K.PropertyNames ∷ K.Required ∷ K.Type
    ∷ K.UniqueItems ∷ []

abbrev pub keyword_in : List Keyword → List ℕ → Option Keyword
keyword_in [] w = None
keyword_in (k ∷ ks) w = cond (same_word w (keyword_name k)) (Some k) (keyword_in ks w)

-- the keyword of that name
unfoldable pub keyword_of : List ℕ → Option Keyword
keyword_of w = keyword_in all_keywords w

-- the place of a keyword's value in the object at a place
abbrev pub value_place : List (List ℕ) → Keyword → List (List ℕ)
value_place p k = p ++ keyword_name k ∷ []

-- the shape of a keyword's value. `$id` and `$ref` are looked at for themselves
abbrev pub shape_by : Keyword → Option Shape
shape_by K.Id = None
shape_by K.Ref = None
shape_by K.AdditionalItems = Some S.Schema
shape_by K.AdditionalProperties = Some S.Schema
shape_by K.AllOf = Some S.SchemaList
shape_by K.AnyOf = Some S.SchemaList
shape_by K.Const = Some S.AnyValue
shape_by K.Contains = Some S.Schema
shape_by K.Dependencies = Some S.NeedMap
shape_by K.Enum = Some S.AnyValues
shape_by K.ExclusiveMaximum = Some S.WholeNumber
shape_by K.ExclusiveMinimum = Some S.WholeNumber
shape_by K.Items = Some S.SchemaOrList
shape_by K.MaxItems = Some S.Count
shape_by K.MaxLength = Some S.Count
shape_by K.MaxProperties = Some S.Count
shape_by K.Maximum = Some S.WholeNumber
shape_by K.MinItems = Some S.Count
shape_by K.MinLength = Some S.Count
shape_by K.MinProperties = Some S.Count
shape_by K.Minimum = Some S.WholeNumber
shape_by K.MultipleOf = Some S.PositiveNumber
shape_by K.Not = Some S.Schema
shape_by K.OneOf = Some S.SchemaList
shape_by K.Pattern = Some S.PatternWord
shape_by K.PatternProperties = Some S.PatternMap
shape_by K.Properties = Some S.SchemaMap
shape_by K.PropertyNames = Some S.Schema
shape_by K.Required = Some S.Words
shape_by K.Type = Some S.TypeWords
shape_by K.UniqueItems = Some S.Flag

-- the word of a type
abbrev pub type_word : TypeName → List ℕ
type_word T.Null = codes "null"
type_word T.Boolean = codes "boolean"
type_word T.Object = codes "object"
type_word T.Array = codes "array"
type_word T.Number = codes "number"
type_word T.Text = codes "string"
type_word T.Integer = codes "integer"

abbrev pub all_types : List TypeName
all_types = T.Null ∷ T.Boolean ∷ T.Object ∷ T.Array ∷ T.Number ∷ T.Text ∷ T.Integer ∷ []

abbrev pub type_from : List TypeName → List ℕ → Option TypeName
type_from [] w = None
type_from (t ∷ ts) w = cond (same_word w (type_word t)) (Some t) (type_from ts w)

-- each character is a byte of its own
abbrev pub is_ascii : List ℕ → Bool
is_ascii w = every (λ c. nat_lt c 128) w
