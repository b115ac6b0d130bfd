-- The groups of keywords without any keyword.
use Rattle.std.specs.Prelude.{◌≡◌, None}
use Rattle.js_schema.specs.declared.constraints.AnyKeywords.{AnyKeywords}
use Rattle.js_schema.specs.declared.constraints.NumberKeywords.{NumberKeywords}
use Rattle.js_schema.specs.declared.constraints.StringKeywords.{StringKeywords}
use Rattle.js_schema.specs.declared.constraints.ArrayKeywords.{ArrayKeywords}
use Rattle.js_schema.specs.declared.constraints.ObjectKeywords.{ObjectKeywords}
use Rattle.js_schema.specs.declared.constraints.InPlaceKeywords.{InPlaceKeywords}
use Rattle.js_schema.specs.declared.constraints.Keywords.{Keywords}

abbrev pub no_any : AnyKeywords
no_any = record {
  types = None;
  enumeration = None;
  constant = None;
}

abbrev pub no_numbers : NumberKeywords
no_numbers = record {
  multiple_of = None;
  minimum = None;
  maximum = None;
  exclusive_minimum = None;
  exclusive_maximum = None;
}

abbrev pub no_strings : StringKeywords
no_strings = record {
  min_length = None;
  max_length = None;
  pattern = None;
}

abbrev pub no_arrays : ArrayKeywords
no_arrays = record {
  items = None;
  additional_items = None;
  contains = None;
  min_items = None;
  max_items = None;
}

abbrev pub no_objects : ObjectKeywords
no_objects = record {
  required = None;
  properties = None;
  pattern_properties = None;
  additional_properties = None;
  property_names = None;
  dependencies = None;
  min_properties = None;
  max_properties = None;
}

abbrev pub no_in_place : InPlaceKeywords
no_in_place = record {
  all_of = None;
  any_of = None;
  one_of = None;
  not = None;
}

-- no group has a keyword
abbrev pub HasNone : Keywords → Type 0
HasNone k = record {
  any : k.any.value ≡ no_any;
  numbers : k.numbers.value ≡ no_numbers;
  strings : k.strings.value ≡ no_strings;
  arrays : k.arrays.value ≡ no_arrays;
  objects : k.objects.value ≡ no_objects;
  in_place : k.in_place.value ≡ no_in_place;
}
