-- A document as `serde_json` has its value: strings and names as their bytes.
use Rattle.std.specs.Prelude.{ℤ, pos, negsuc, encode_utf8_all}
use Rattle.serde_json.specs.Data as S
use Rattle.documents.specs.Document as D

abbrev pub num_of : ℤ → S.Num
num_of (pos n) = S.unsigned n
num_of (negsuc n) = S.negative (negsuc n)

abbrev mutual
  pub data_of : D.Document → S.Data
  data_of D.null = S.null
  data_of (D.boolean b) = S.boolean b
  data_of (D.number n) = S.number (num_of n)
  data_of (D.string s) = S.string (encode_utf8_all s)
  data_of (D.array ds) = S.array (data_items ds)
  data_of (D.object ms) = S.object (data_members ms)

  pub data_items : D.Items → S.Items
  data_items D.no_items = S.no_items
  data_items (D.item d ds) = S.item (data_of d) (data_items ds)

  pub data_members : D.Members → S.Members
  data_members D.no_members = S.no_members
  data_members (D.member k d ms) = S.member (encode_utf8_all k) (data_of d) (data_members ms)
