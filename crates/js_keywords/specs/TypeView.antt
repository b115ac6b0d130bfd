-- The type that a name of `type` stands for.
use Rattle.schemas.specs.Entry as E
use Rattle.js_keywords.specs.declared.type_name.TypeName.{TypeName}
use Rattle.js_keywords.specs.declared.type_name.TypeName.TheVariants as T

abbrev pub type_view : TypeName → E.TypeName
type_view T.Null = E.Null
type_view T.Boolean = E.Boolean
type_view T.Object = E.Object
type_view T.Array = E.Array
type_view T.Number = E.Number
type_view T.Text = E.Text
type_view T.Integer = E.Integer
