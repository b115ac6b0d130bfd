-- An entry of a schema: what its place accepts. Other entries are given by their numbers.
use Rattle.std.specs.Prelude.{ℕ, ℤ, List, Option, None}
use Rattle.documents.specs.Document.{Document}
use Rattle.schemas.specs.Places.{Pointer}

-- a name of `type`
pub data TypeName : Type 0 where
  Null : TypeName
  Boolean : TypeName
  Object : TypeName
  Array : TypeName
  Number : TypeName
  Text : TypeName
  Integer : TypeName

-- `items`: one schema for each element, or a list of schemas, one for an element
pub data ItemsPart : Type 0 where
  Each : ℕ → ItemsPart
  Listed : List ℕ → ItemsPart

-- what the presence of a name requires: other names, or a schema of the whole object
pub data Needs : Type 0 where
  Names : List (List ℕ) → Needs
  Whole : ℕ → Needs

-- a field is None exactly where the object hasn't that keyword, and `additional_items` also where `items` is no list.
-- Names and patterns are in the order of names
pub record Keywords : Type 0 where
  pub types : Option (List TypeName)
  pub enumeration : Option (List Document)
  pub constant : Option Document
  pub multiple_of : Option ℕ
  pub minimum : Option ℤ
  pub maximum : Option ℤ
  pub exclusive_minimum : Option ℤ
  pub exclusive_maximum : Option ℤ
  pub min_length : Option ℕ
  pub max_length : Option ℕ
  pub pattern : Option (List ℕ)
  pub items : Option ItemsPart
  pub additional_items : Option ℕ
  pub contains : Option ℕ
  pub min_items : Option ℕ
  pub max_items : Option ℕ
  pub required : Option (List (List ℕ))
  pub properties : Option (List (List ℕ × ℕ))
  pub pattern_properties : Option (List (List ℕ × ℕ))
  pub additional_properties : Option ℕ
  pub property_names : Option ℕ
  pub dependencies : Option (List (List ℕ × Needs))
  pub min_properties : Option ℕ
  pub max_properties : Option ℕ
  pub all_of : Option (List ℕ)
  pub any_of : Option (List ℕ)
  pub one_of : Option (List ℕ)
  pub not : Option ℕ

-- no keyword is there
abbrev pub no_keywords : Keywords
no_keywords = record {
  types = None;
  enumeration = None;
  constant = None;
  multiple_of = None;
  minimum = None;
  maximum = None;
  exclusive_minimum = None;
  exclusive_maximum = None;
  min_length = None;
  max_length = None;
  pattern = None;
  items = None;
  additional_items = None;
  contains = None;
  min_items = None;
  max_items = None;
  required = None;
  properties = None;
  pattern_properties = None;
  additional_properties = None;
  property_names = None;
  dependencies = None;
  min_properties = None;
  max_properties = None;
  all_of = None;
  any_of = None;
  one_of = None;
  not = None;
}

-- everything, nothing, what another entry accepts, or what all the keywords require
pub data Form : Type 0 where
  Always : Form
  Never : Form
  Ref : ℕ → Form
  Asks : Keywords → Form

pub record Entry : Type 0 where
  pub pointer : Pointer
  pub form : Form

abbrev pub entry : Pointer → Form → Entry
entry p f = record { pointer = p; form = f }
