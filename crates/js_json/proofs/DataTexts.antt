-- Data whose texts are UTF-8, with members in order: what of_json gives of such JSON, and what its value is.
use Rattle.std.proofs.Common.{◌≡◌, ℕ, List, true, Option, Some, None, option_map, option_and_then, Ordering, Less, Equal, Greater, nat_cmp, chars, IsUtf8, refl, ap, ◌∙◌}
use Rattle.std.proofs.lemmas.Bool.{and_from}
use Rattle.std.proofs.lemmas.Cmp.{nat_list_cmp_total}
use Rattle.std.specs.Cmp.Lexicographic.{slice_cmp}
use Rattle.std.specs.Ordering.{match_ordering, ordering_reverse}
use Rattle.json.specs.Json as T
use Rattle.serde_json.specs.Data as Num
use Rattle.serde_json.specs.Data.{Num as AnyNum, Data, null, boolean, number, string, array, object, Items, no_items, item, Members, no_members, member, put}
use Rattle.serde_json.specs.Read.{number_of, of_json, of_items, of_members}
use Rattle.js_json.specs.Value.{json_of, json_items, json_members, json_number}
use Rattle.documents.specs.WellFormed.{is_json, are_items, are_members, is_before}
use Rattle.js_doc.proofs.Scalars.{every-chars}
use Rattle.js_doc.proofs.WordOrder.{comes_before-chars}

-- the property holds of what there is, if anything
abbrev pub Given : {A : Type 0} → (A → Type 0) → Option A → Type 0
Given P None = Unit {0}
Given P (Some a) = P a

pub Given-map : {A B : Type 0} (P : A → Type 0) (Q : B → Type 0) (f : A → B) → ((a : A) → P a → Q (f a))
    → (o : Option A) → Given P o → Given Q (option_map f o)
Given-map P Q f so None h = tt
Given-map P Q f so (Some a) h = so a h

pub Given-and_then : {A B : Type 0} (P : A → Type 0) (Q : B → Type 0) (f : A → Option B)
    → ((a : A) → P a → Given Q (f a)) → (o : Option A) → Given P o
    → Given Q (option_and_then f o)
Given-and_then P Q f so None h = tt
Given-and_then P Q f so (Some a) h = so a h

-- ---- the texts of JSON are UTF-8

abbrev mutual
  pub TextsOf : T.Json → Type 0
  TextsOf T.null = Unit {0}
  TextsOf (T.boolean b) = Unit {0}
  TextsOf (T.number s) = Unit {0}
  TextsOf (T.string s) = IsUtf8 s
  TextsOf (T.array js) = TextsOfItems js
  TextsOf (T.object ms) = TextsOfMembers ms

  pub TextsOfItems : T.Items → Type 0
  TextsOfItems T.no_items = Unit {0}
  TextsOfItems (T.item j js) = TextsOf j × TextsOfItems js

  pub TextsOfMembers : T.Members → Type 0
  TextsOfMembers T.no_members = Unit {0}
  TextsOfMembers (T.member k j ms) = IsUtf8 k × TextsOf j × TextsOfMembers ms

-- ---- the texts of data are UTF-8, and names ascend

abbrev Below : List ℕ → Members → Type 0
Below k no_members = Unit {0}
Below k (member l e ms) = slice_cmp nat_cmp k l ≡ Less

abbrev mutual
  pub IsRead : Data → Type 0
  IsRead null = Unit {0}
  IsRead (boolean b) = Unit {0}
  IsRead (number n) = Unit {0}
  IsRead (string s) = IsUtf8 s
  IsRead (array ds) = AreRead ds
  IsRead (object ms) = AreMembersRead ms

  pub AreRead : Items → Type 0
  AreRead no_items = Unit {0}
  AreRead (item d ds) = IsRead d × AreRead ds

  pub AreMembersRead : Members → Type 0
  AreMembersRead no_members = Unit {0}
  AreMembersRead (member k d ms) = IsUtf8 k × IsRead d × Below k ms × AreMembersRead ms

Below-match_ordering : (l : List ℕ) (o : Ordering) (a b c : Members) → Below l a → Below l b → Below l c
    → Below l (match_ordering o a b c)
Below-match_ordering l Less a b c p q r = p
Below-match_ordering l Equal a b c p q r = q
Below-match_ordering l Greater a b c p q r = r

Below-put : (l k : List ℕ) (d : Data) (ms : Members) → slice_cmp nat_cmp l k ≡ Less → Below l ms
    → Below l (put k d ms)
Below-put l k d no_members h below = h
Below-put l k d (member m e ms) h below =
    Below-match_ordering l (slice_cmp nat_cmp k m) (member k d (member m e ms)) (member m d ms)
    (member m e (put k d ms)) h below below

put_at : (o : Ordering) (k l : List ℕ) (d e : Data) (ms : Members) → slice_cmp nat_cmp k l ≡ o → IsUtf8 k
    → IsRead d → AreMembersRead (member l e ms)
    → AreMembersRead (put k d ms)
    → AreMembersRead (match_ordering o (member k d (member l e ms)) (member l d ms)
    (member l e (put k d ms)))
put_at Less k l d e ms is u h old later = (u, h, is, old)
put_at Equal k l d e ms is u h old later = (old.0, h, old.2, old.3)
put_at Greater k l d e ms is u h old later =
    let back : slice_cmp nat_cmp l k ≡ Less = nat_list_cmp_total.antisymm l k ∙ ap ordering_reverse is in
    (old.0, old.1, Below-put l k d ms back old.2, later)

AreMembersRead-put : (k : List ℕ) (d : Data) (ms : Members) → IsUtf8 k → IsRead d → AreMembersRead ms
    → AreMembersRead (put k d ms)
AreMembersRead-put k d no_members u h old = (u, h, tt, tt)
AreMembersRead-put k d (member l e ms) u h old =
    put_at (slice_cmp nat_cmp k l) k l d e ms refl u h old (AreMembersRead-put k d ms u h old.3)

any_number : (o : Option AnyNum) → Given IsRead (option_map number o)
any_number None = tt
any_number (Some n) = tt

mutual
  pub IsRead-of_json : (j : T.Json) → TextsOf j → Given IsRead (of_json j)
  IsRead-of_json T.null h = tt
  IsRead-of_json (T.boolean b) h = tt
  IsRead-of_json (T.number s) h = any_number (number_of s)
  IsRead-of_json (T.string s) h = h
  IsRead-of_json (T.array js) h =
      Given-map AreRead IsRead array (λ ds k. k) (of_items js) (AreRead-of_items js h)
  IsRead-of_json (T.object ms) h =
      Given-map AreMembersRead IsRead object (λ ds k. k) (of_members ms no_members)
      (AreMembersRead-of_members ms no_members h tt)

  AreRead-of_items : (js : T.Items) → TextsOfItems js → Given AreRead (of_items js)
  AreRead-of_items T.no_items h = tt
  AreRead-of_items (T.item j js) h =
      Given-and_then IsRead AreRead (λ d. option_map (item d) (of_items js))
      (λ d k. Given-map AreRead AreRead (item d) (λ ds ks. (k, ks)) (of_items js)
      (AreRead-of_items js h.1))
      (of_json j) (IsRead-of_json j h.0)

  AreMembersRead-of_members : (ms : T.Members) (found : Members) → TextsOfMembers ms → AreMembersRead found
      → Given AreMembersRead (of_members ms found)
  AreMembersRead-of_members T.no_members found h old = old
  AreMembersRead-of_members (T.member k j ms) found h old =
      Given-and_then IsRead AreMembersRead (λ d. of_members ms (put k d found))
      (λ d x. AreMembersRead-of_members ms (put k d found) h.2 (AreMembersRead-put k d found h.0 x old))
      (of_json j) (IsRead-of_json j h.1)

-- ---- the value of such data is well formed

is_json-json_number : (n : AnyNum) → is_json (json_number n) ≡ true
is_json-json_number (Num.unsigned n) = refl
is_json-json_number (Num.negative z) = refl
is_json-json_number (Num.float x) = refl

is_before-json_members : (k : List ℕ) (ms : Members) → IsUtf8 k → Below k ms → AreMembersRead ms
    → is_before (chars k) (json_members ms) ≡ true
is_before-json_members k no_members u below h = refl
is_before-json_members k (member l e ms) u below h = comes_before-chars k l u h.0 below

mutual
  -- the value of data whose texts are UTF-8 and whose names ascend is well formed
  pub is_json-json_of : (d : Data) → IsRead d → is_json (json_of d) ≡ true
  is_json-json_of null h = refl
  is_json-json_of (boolean b) h = refl
  is_json-json_of (number n) h = is_json-json_number n
  is_json-json_of (string s) h = every-chars s h
  is_json-json_of (array ds) h = are_items-json_items ds h
  is_json-json_of (object ms) h = are_members-json_members ms h

  are_items-json_items : (ds : Items) → AreRead ds → are_items (json_items ds) ≡ true
  are_items-json_items no_items h = refl
  are_items-json_items (item d ds) h = and_from _ _ (is_json-json_of d h.0) (are_items-json_items ds h.1)

  are_members-json_members : (ms : Members) → AreMembersRead ms → are_members (json_members ms) ≡ true
  are_members-json_members no_members h = refl
  are_members-json_members (member k d ms) h =
      and_from _ _ (and_from _ _ (and_from _ _ (every-chars k h.0) (is_json-json_of d h.1))
      (is_before-json_members k ms h.0 h.2 h.3)) (are_members-json_members ms h.3)
